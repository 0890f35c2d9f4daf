use Rattle.std.proofs.Common.{◌≡◌, ℕ, Bor, Option, None, Some, IfOk, [], ap, refl, subst, ◌∙◌}
use Rattle.std.specs.BTreeSet.{BTreeSet, contains_by}
use Rattle.std.specs.Option.{option_copied, unwrap_or}
use Rattle.std.specs.Ordering.{nat_cmp}
use Rattle.pool_types.specs.Contents.{ByText}
use Rattle.pool_types.specs.declared.contents.definition.Definition.{Definition}
use Rattle.name_resolution.specs.Resolution.{resolution, resolution_in}
use Rattle.reference_pass.specs.Setting.{seen_by}
use Rattle.reference_pass.specs.Reading.{setting_of}
use Rattle.reference_pass.proofs.reading.Reading.resolve.Goals as goal

given-copied : {X : Type 0} (o : Option (Bor X)) (other : Bor X) → (unwrap_or o other).now ≡ unwrap_or (option_copied o) other.now
given-copied None other = refl
given-copied (Some b) other = refl

-- the files that are seen are those of the setting
pub returns : goal.returns
returns c =
    let s = setting_of c.args.self.now in
    let nothing = c.new-nothing.result in
    let none : nothing ≡ record { keys = [] } = λ i. record { keys = c.new-nothing.ensures.empty i } in
    let seen : c.unwrap_or-visible.result.now ≡ seen_by s c.args.place.file =
    ap (λ b. b.now) c.unwrap_or-visible.ensures ∙ given-copied c.visible.result _
    ∙ (λ i. unwrap_or (c.visible.ensures i) (none i)) in
    let same : c.table-names.result.now ≡ s.names = c.table-names.ensures in
    let Answers : ByText Definition → BTreeSet ℕ → Type 0 = λ names visible. IfOk c.resolve_in_parts.result (λ r. resolution_in r
    ≡ resolution names (λ n. contains_by (nat_cmp n) visible) c.args.filter c.args.place.full_name.now c.args.written.now) in
    subst (Answers s.names) seen (subst (λ names. Answers names c.unwrap_or-visible.result.now) same c.resolve_in_parts.ensures.answer)
