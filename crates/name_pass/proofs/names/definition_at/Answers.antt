use Rattle.std.proofs.Common.{◌≡◌, true, false, if◌then◌else◌, [], ◌∷◌, ◌++◌, w32, of_z, to_z, refl, ap, ◌∙◌}
use Rattle.proto_types.specs.declared.tag.file.TheConstants as file
use Rattle.proto_types.specs.declared.tag.message.TheConstants as message
use Rattle.pool_types.specs.Definition.{is_package}
use Rattle.pool_types.specs.declared.contents.definition.DefinitionKind.{DefinitionKind}
use Rattle.name_pass.specs.Names.{naming_field}
use Rattle.name_pass.proofs.names.definition_at.Goals as goal

-- the number of the field is one of 32 bits
as-number : (kind : DefinitionKind) → to_z w32 (of_z w32 (naming_field kind)) ≡ naming_field kind
as-number kind = elim (is_package kind) as (λ b. to_z w32 (of_z w32 (if b then file.PACKAGE else message.NAME)) ≡ (if b then file.PACKAGE else message.NAME)) [ true ↦ refl | false ↦ refl ]

pub returns : goal.returns
returns c =
    let path = c.in_ok-path.ensures ∙ ap (λ tag. c.args.path.now ++ to_z w32 (of_z w32 tag) ∷ []) c.naming_field.ensures ∙ ap (λ tag. c.args.path.now ++ tag ∷ []) (as-number c.args.kind) in
    λ i. record { file = c.args.file; path = path i; kind = c.args.kind }
