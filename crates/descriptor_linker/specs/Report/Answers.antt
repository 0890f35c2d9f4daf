-- What the commands of a script answer of a pool.
use Rattle.std.specs.Prelude.{ℕ, ℤ, pos, negsuc, slice_get, Bool, true, false, ◌&&◌, is_ok}
use Rattle.std.specs.Prelude.{if◌then◌else◌, List, [], ◌∷◌, codes}
use Rattle.std.specs.Option.{option_and_then, option_map_or}
use Rattle.std.specs.declared.option.Option.{Option}
use Rattle.std.specs.declared.option.Option.TheVariants.{None}
use Rattle.proto_types.specs.Readers.{text_of}
use Rattle.pool_types.specs.Contents.{Contents, no_contents, files_of}
use Rattle.proto_types.specs.File.{file_at}
use Rattle.reference_pass.specs.References.{message_index}
use Rattle.reference_pass.specs.SecondPass.{Faults}
use Rattle.pool_contents.specs.Same.{contents_eq}
use Rattle.pool_types.specs.Extension.{extension_numbered}
use Rattle.pool_contents.specs.LookUps.{definition_named}
use Rattle.descriptor_linker.specs.Report.Lines.{line, none_line, definition_line, extension_line}
use Rattle.descriptor_pool.specs.Pool.{faults, counts_after, link}

-- the answer of `find`: what a name means in the pool, or `none`
abbrev pub find_answer : Contents → List ℕ → List ℕ
find_answer p name =
    option_map_or (λ def. definition_line (text_of (file_at (files_of p) def.file).name) def)
    (definition_named p name) none_line

-- the message that a name means in the pool
abbrev pub message_named : Contents → List ℕ → Option ℕ
message_named p name = option_and_then (λ def. message_index def.kind) (definition_named p name)

-- the extension of the message that a name means with a number, which no negative number is
abbrev pub extension_found : Contents → List ℕ → ℤ → Option ℕ
extension_found p name (negsuc _) = None
extension_found p name (pos n) =
    option_and_then (λ m. extension_numbered p.extensions m n) (message_named p name)

-- the full name of the extension with an index
abbrev pub extension_name : Contents → ℕ → List ℕ
extension_name p index = option_map_or (λ x. x.id.full_name) (slice_get p.extensions index) []

-- the answer of `ext`: the extension of a message with a number, with its index and its full name,
-- or `none`
abbrev pub ext_answer : Contents → List ℕ → ℤ → List ℕ
ext_answer p name number =
    option_map_or (λ index. extension_line index (extension_name p index))
    (extension_found p name number) none_line

-- whether a batch breaks no rule
abbrev pub breaks_none : Faults → Bool
breaks_none [] = true
breaks_none (f ∷ fs) = false

-- whether the linked files of a pool, linked at once from empty, fit, break no rule, and give equal
-- contents
abbrev pub relinks : Contents → Bool
relinks p =
    let files = files_of p in
    is_ok (counts_after no_contents files)
    && (breaks_none (faults no_contents files) && contents_eq (link no_contents files) p)

-- the answer of `relink`: `same` where the linked files of the pool, linked at once from empty,
-- make an equal one, and else `different`
abbrev pub relink_answer : Contents → List ℕ
relink_answer p = line ((if relinks p then codes "same" else codes "different") ∷ [])
