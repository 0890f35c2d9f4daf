-- The name of a message that was linked, read once more.
use Rattle.std.proofs.Common.{◌≡◌, ◌<◌, ℕ, ℤ, Option, Some, List, [], ◌∷◌, length, refl, ap}
use Rattle.plain_data.specs.Lists.{listed}
use Rattle.proto_types.specs.Readers.{text_of}
use Rattle.pool_types.specs.declared.contents.definition.Definition.{Definition}
use Rattle.record_walk.specs.Shown.{Shown}
use Rattle.name_resolution.specs.declared.filter.ResolveNameFilter.TheVariants.{Message}
use Rattle.name_resolution.specs.References.{reference_fault}
use Rattle.name_resolution.specs.Resolution.{Resolution, found}
use Rattle.reference_pass.specs.Linked.{resolved}
use Rattle.reference_pass.specs.References.{message_found, resolve_message}
use Rattle.reference_pass.specs.Setting.{Setting}
use Rattle.pool_laws.proofs.Settings.{Grows, IsMessageName}
use Rattle.pool_laws.proofs.Typed.{found-again}

-- the name of a message that means what it meant
pub named-there : (t : Setting) (d : Shown) (path : List ℤ) (given : Option (List ℕ)) (name : List ℕ) (def : Definition) → resolve_message t d given ≡ found name def
    → IsMessageName t d path (message_found (found name def)) (Some (46 ∷ name)) given
named-there t d path given name def is = record {
  faults = ap (λ r. listed (reference_fault t.files (text_of given) d.file path r)) is;
  index_is = ap message_found is;
  linked_is = ap (λ r. resolved r given) is;
}

module _ (s t : Setting) (grows : Grows s t) (d : Shown) (below : d.file < length s.files) (path : List ℤ) (given : Option (List ℕ)) where
  found-named : (r : Resolution) → resolve_message s d given ≡ r → listed (reference_fault s.files (text_of given) d.file path r) ≡ []
      → IsMessageName t d path (message_found r) (resolved r given) (resolved r given)
  found-named (found name def) is none =
      named-there t d path (Some (46 ∷ name)) name def (found-again s t grows d.file d.full_name d.full_name (text_of given) Message name def below is)
  found-named _ is none = absurd (cc)

  pub message-named-again : listed (reference_fault s.files (text_of given) d.file path (resolve_message s d given)) ≡ []
      → let made = resolved (resolve_message s d given) given in IsMessageName t d path (message_found (resolve_message s d given)) made made
  message-named-again = found-named (resolve_message s d given) refl
