-- Digests of what the names of fields are told apart by.
use Rattle.std.specs.Prelude.{ℕ, ◌*◌, ◌%◌, ◌^◌, ◌==◌, bit_xor, List, [], ◌∷◌, if◌then◌else◌}
use Rattle.proto_types.specs.Readers.{text_of}
use Rattle.proto_types.specs.declared.records.field.FieldDescriptorProto.{FieldDescriptorProto}
use Rattle.name_pass.specs.CamelCase.{camel_case_key}

-- a digest with one byte more: only its last five bits count, which both cases of a letter share,
-- and where all five are set, as in an underscore, it changes nothing
abbrev pub taken_in : ℕ → ℕ → ℕ
taken_in digest byte =
    if byte % 32 == 31 then digest else bit_xor digest (byte % 32) * 1099511628211 % 2 ^ 64

-- the digest of bytes behind others
abbrev pub digest_from : ℕ → List ℕ → ℕ
digest_from digest [] = digest
digest_from digest (byte ∷ bytes) = digest_from (taken_in digest byte) bytes

-- the digest of a key
abbrev pub digest_of : List ℕ → ℕ
digest_of key = digest_from 14695981039346656037 key

-- the digest of the key of a field
abbrev pub digest_at : FieldDescriptorProto → ℕ
digest_at f = digest_of (camel_case_key (text_of f.name))
