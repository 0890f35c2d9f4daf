use Rattle.std.proofs.Common.{◌≡◌, false, map, take}
use Rattle.std.specs.List.{list_any}
use Rattle.verdict_texts.specs.Known.{has_package}
use Rattle.verdict_texts.proofs.known.has_package_in.Given as goal

-- none of the files so far has the package
abbrev pub invariant-loop-file : goal.invariant-loop-file
invariant-loop-file l = list_any (has_package l.name) (map (λ f. f.now) (take l.file-index l.files)) ≡ false
