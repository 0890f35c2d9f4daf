-- What fields tell by their keys, one more at a time.
use Rattle.std.proofs.Common.{◌≡◌, ℕ, ℤ, ◌+◌, ◌<◌, List, [], ◌++◌, length, get_or, take, find, Option, ap, sym, ◌∙◌}
use Rattle.std.specs.List.{enumerate_from}
use Rattle.std.specs.Option.{option_map}
use Rattle.std.specs.Str.{bytes_eq}
use Rattle.proto_types.specs.declared.file.FileDescriptorProto.{FileDescriptorProto}
use Rattle.plain_data.specs.Lists.{listed, after_each}
use Rattle.proto_types.specs.declared.records.field.FieldDescriptorProto.{FieldDescriptorProto}
use Rattle.name_pass.specs.CamelCase.{key_at, camel_case_fault, shared_key_faults, camel_case_faults}
use Rattle.name_pass.proofs.Holders.{after-append}
use Rattle.plain_data.proofs.Enumerated.{entries-next}

-- the faults of the fields before one, and what was found of its key, make the faults up to it
pub told-next : (files : List FileDescriptorProto) (file : ℕ) (path : List ℤ) (fields : List FieldDescriptorProto) (i : ℕ) (f : FieldDescriptorProto) (key : List ℕ)
    → i < length fields → f ≡ get_or fields i f → key ≡ key_at (i, f) → (found : Option (ℕ × FieldDescriptorProto))
    → find (λ e. bytes_eq key (key_at e)) (enumerate_from 0 (take i fields)) ≡ found
    → camel_case_faults files file path (take i fields) ++ listed (option_map (λ e. camel_case_fault files file path e (i, f)) found)
    ≡ camel_case_faults files file path (take (i + 1) fields)
told-next files file path fields i f key below is key_is found found_is =
    let seen = enumerate_from 0 (take i fields) in
    let shared = shared_key_faults files file path in
    let same = sym found_is ∙ ap (λ k. find (λ e. bytes_eq k (key_at e)) seen) key_is in
    ap (λ o. camel_case_faults files file path (take i fields) ++ listed (option_map (λ e. camel_case_fault files file path e (i, f)) o)) same
    ∙ sym (ap (after_each shared []) (entries-next fields i f below is) ∙ after-append shared [] seen (i, f))
