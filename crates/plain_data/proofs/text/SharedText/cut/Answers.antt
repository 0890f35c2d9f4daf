use Rattle.std.proofs.Common.{arith, ◌≡◌, ℕ, List, ◌≤◌, ◌+◌, ◌-◌, length, take, drop, slice_range, IsUtf8, sym, subst}
use Rattle.std.specs.Arc.{arc_str_bytes}
use Rattle.std.proofs.lemmas.List.{length-drop}
use Rattle.plain_data.specs.Texts.{IsText}
use Rattle.plain_data.proofs.text.SharedText.cut.Goals as goal
use Rattle.plain_data.proofs.text.SharedText.cut.Goals.{then-len-le-INLINE, else-len-le-INLINE+in_ok-clone}

-- a front of what is left is a part of the string
in_string : (bytes : List ℕ) (start len : ℕ) → start ≤ length bytes → len ≤ length (drop start bytes) → ∥ IsUtf8 (take len (drop start bytes)) ∥₁
    → (start ≤ start + len) × (start + len ≤ length bytes) × ∥ IsUtf8 (slice_range bytes start (start + len)) ∥₁
in_string bytes start len inside short text =
    let long = length-drop start bytes in
    let same : len ≡ start + len - start = omega arith in
    (omega arith, omega (arith, long, inside, short), subst (λ n. ∥ IsUtf8 (take n (drop start bytes)) ∥₁) same text)

pub piece-requires : goal.piece-requires
piece-requires c =
    let left = sym c.self.view_is in
    in_string (arc_str_bytes c.self.inside.text) c.self.inside.start c.args.len c.self.invariant (subst (λ bytes. c.args.len ≤ length bytes) left c.requires.inside) (subst (λ bytes. ∥ IsUtf8 (take c.args.len bytes) ∥₁) left c.requires.text)

pub invariant_of-result : goal.invariant_of-result
invariant_of-result c =
    let start = c.self.inside.start in
    let end = c.self.inside.start + c.args.len in
    let left = sym c.self.view_is in
    let held = in_string (arc_str_bytes c.self.inside.text) start c.args.len c.self.invariant (subst (λ bytes. c.args.len ≤ length bytes) left c.requires.inside) (subst (λ bytes. ∥ IsUtf8 (take c.args.len bytes) ∥₁) left c.requires.text) in
    elim c.if-len-le-INLINE.branch [
      | then-len-le-INLINE w ↦ subst IsText (sym w.held-is) w.held.invariant
      | else-len-le-INLINE+in_ok-clone w ↦
          subst IsText (sym w.held-is) (subst (λ bytes. (start ≤ end) × (end ≤ length bytes) × ∥ IsUtf8 (slice_range bytes start end) ∥₁) (sym w.in_ok-clone.ensures.cases) held)
    ]
