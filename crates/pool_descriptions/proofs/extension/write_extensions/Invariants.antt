use Rattle.std.proofs.Common.{◌≡◌, ◌++◌, string_bytes, take}
use Rattle.std.specs.List.{flat_map}
use Rattle.pool_descriptions.specs.Items.{extension_text}
use Rattle.pool_descriptions.proofs.extension.write_extensions.Given as goal

-- the extensions so far are told
abbrev pub invariant-loop-extension : goal.invariant-loop-extension
invariant-loop-extension l =
    string_bytes l.text ≡ string_bytes l.initial.text ++ flat_map (extension_text l.pool) (take l.extension-index l.pool.extensions)
