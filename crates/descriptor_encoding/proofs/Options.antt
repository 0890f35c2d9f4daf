-- Options are read as what their bytes say, in however many parts they came.
use Rattle.std.proofs.Common.{◌≡◌, ℕ, zero, suc, List, [], ◌∷◌, ◌++◌, Bool, Option, None, Some, IfSome, Result, Ok, Err, refl, ap}
use Rattle.wire_format.specs.declared.fault.WireFault.{WireFault}
use Rattle.wire_format.specs.Tokens.{Value, Varint, I64, Len, Group, EndGroup, I32}
use Rattle.wire_format.specs.Fields.{first_tokens, fields_within}
use Rattle.proto_types.specs.declared.records.options.Options.{Options}
use Rattle.descriptor_decoding.specs.Merging.{Merge, merged_from, put, within, row, by_number}
use Rattle.descriptor_decoding.specs.Parts.{bool_merged}
use Rattle.descriptor_decoding.specs.Options.{options_merged, unread_merged, field_options_merged, enum_options_merged}
use Rattle.descriptor_encoding.specs.Whole.{Within, IsRead}
use Rattle.descriptor_encoding.proofs.Kept.{IfRead}
use Rattle.descriptor_encoding.proofs.Local.{bare}
use Rattle.descriptor_encoding.proofs.Bare.{IsBlind, read-joined}

bool-blind : (v : Value) (x : Option Bool) → bool_merged (bare v) x ≡ bool_merged v x
bool-blind (Varint n) x = refl
bool-blind (I64 n) x = refl
bool-blind (Len b at) x = refl
bool-blind (Group at) x = refl
bool-blind (EndGroup at) x = refl
bool-blind (I32 n) x = refl

pub unread-blind : (levels : ℕ) → IsBlind (unread_merged levels)
unfolding unread_merged
unread-blind levels n v m = refl

pub field_options-blind : (levels : ℕ) → IsBlind (field_options_merged levels)
unfolding field_options_merged
field_options-blind levels n v m = ap (λ x. by_number n m (row 2 (Ok x) (λ y. record m { packed = y }) ∷ [])) (bool-blind v m.packed)

pub enum_options-blind : (levels : ℕ) → IsBlind (enum_options_merged levels)
unfolding enum_options_merged
enum_options-blind levels n v m = ap (λ x. by_number n m (row 2 (Ok x) (λ y. record m { allow_alias = y }) ∷ [])) (bool-blind v m.allow_alias)

-- a value that is read of more bytes
grown : {T : Type 0} (merge : Merge T) → IsBlind merge → (levels at : ℕ) (a b : List ℕ) (empty before : T) (r : Result T WireFault)
    → ((ends : ℕ) → merged_from levels merge ends a empty ≡ Ok before) → merged_from levels merge at b before ≡ r
    → IfRead (λ (o : Option (Options T)). IfSome o (λ o. (ends : ℕ) → merged_from levels merge ends o.encoded empty ≡ Ok o.value)) (put r (λ v. Some (record { encoded = a ++ b; value = v })))
grown merge is levels at a b empty before (Ok v) h e = λ ends. read-joined merge is levels 0 at ends a b empty before v (h 0) e
grown merge is levels at a b empty before (Err f) h e = tt

none : {T : Type 0} (levels : ℕ) (merge : Merge T) (empty : T) (ends : ℕ) → merged_from levels merge ends [] empty ≡ Ok empty
unfolding first_tokens fields_within
none levels merge empty ends = refl

pub options-kept : {T : Type 0} (merged : ℕ → Merge T) (empty : T) → ((levels : ℕ) → IsBlind (merged levels)) → (levels : ℕ) (v : Value) (part : Option (Options T))
    → IfSome part (Within levels (IsRead merged empty)) → IfRead (λ x. IfSome x (Within levels (IsRead merged empty))) (options_merged empty (within levels merged) v part)
unfolding options_merged
options-kept merged empty is levels (Varint n) part h = h
options-kept merged empty is levels (I64 n) part h = h
options-kept merged empty is zero (Len b at) part h = tt
options-kept merged empty is (suc levels) (Len b at) None h = grown (merged levels) (is levels) levels at [] b empty empty _ (none levels (merged levels) empty) refl
options-kept merged empty is (suc levels) (Len b at) (Some o) h = grown (merged levels) (is levels) levels at o.encoded b empty o.value _ h refl
options-kept merged empty is levels (Group at) part h = h
options-kept merged empty is levels (EndGroup at) part h = h
options-kept merged empty is levels (I32 n) part h = h
