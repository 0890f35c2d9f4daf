-- Two steps that keep make one that keeps.
use Rattle.std.proofs.Common.{◌≡◌, ◌≢◌, ℕ, true, Option, Some, None, refl, ◌∙◌}
use Rattle.message_values.specs.Schema.{Schema, Kind, Field, Cardinality, Required}
use Rattle.message_values.specs.Numbers.{Form, form}
use Rattle.message_values.specs.Numbers as form
use Rattle.message_values.specs.Fields.{in_one}
use Rattle.message_values.specs.Writing.{Besides}
use Rattle.message_values.specs.Kept.{Pairs, KeepsForm, KeepsCardinality, KeepsField, KeepsMessage, KeepsAll}
use Rattle.message_values.specs.Steps.{AreJoined, StaysRemoved, LeavesOut}

form-joined : (p q r : Pairs) → AreJoined p q r → (s : Schema) (k : Kind) (F : Form) (t : Schema) (l : Kind) (G : Form) (u : Schema) (o : Kind) (H : Form)
    → KeepsForm p s k F t l G → KeepsForm q t l G u o H → KeepsForm r s k F u o H
form-joined p q r j s k (form.Number c) t l (form.Number d) u o (form.Number e) h i = (h.0 ∙ i.0, λ x has. i.1 x (h.1 x has))
form-joined p q r j s k form.Text t l form.Text u o form.Text h i = λ bytes has. i bytes (h bytes has)
form-joined p q r j s k (form.Message a) t l (form.Message b) u o (form.Message c) h i = j.joined a b c h i
form-joined p q r j s k (form.Group a) t l (form.Group b) u o (form.Group c) h i = j.joined a b c h i
form-joined p q r j s k (form.Number c) t l (form.Number d) u o _ h i = absurd i
form-joined p q r j s k form.Text t l form.Text u o _ h i = absurd i
form-joined p q r j s k (form.Message a) t l (form.Message b) u o _ h i = absurd i
form-joined p q r j s k (form.Group a) t l (form.Group b) u o _ h i = absurd i
form-joined p q r j s k _ t l _ u o H h i = absurd h

cardinality-joined : (p : Pairs) (s : Schema) (k : Kind) (F : Form) (t : Schema) (l : Kind) (G : Form) (c d e : Cardinality) → KeepsForm p s k F t l G
    → KeepsCardinality F c d → KeepsCardinality G d e → KeepsCardinality F c e
cardinality-joined p s k (form.Number a) t l (form.Number b) c d e h i j = λ x. j (i x)
cardinality-joined p s k form.Text t l form.Text c d e h i j = λ x. j (i x)
cardinality-joined p s k (form.Message a) t l (form.Message b) c d e h i j = i ∙ j
cardinality-joined p s k (form.Group a) t l (form.Group b) c d e h i j = i ∙ j
cardinality-joined p s k _ t l _ c d e h i j = absurd h

field-joined : (p q r : Pairs) → AreJoined p q r → (s t u : Schema) (f g h : Field) → KeepsField p s t f g → KeepsField q t u g h → KeepsField r s u f h
field-joined p q r j s t u f g h a b = record {
  kind = form-joined p q r j s f.kind (form f.kind) t g.kind (form g.kind) u h.kind (form h.kind) a.kind b.kind;
  cardinality = cardinality-joined p s f.kind (form f.kind) t g.kind (form g.kind) f.cardinality g.cardinality h.cardinality a.kind a.cardinality b.cardinality;
}

module _ (p q r : Pairs) (j : AreJoined p q r) (s t u : Schema) (b c d : Besides) (removed : StaysRemoved p q s t u) (left : LeavesOut r d u)
    (m k n : ℕ) (one : p m k ≡ true) (two : q k n ≡ true) (a : KeepsMessage p b s t m k) (z : KeepsMessage q c t u k n) where
  -- the field between, which is there
  between : (i : ℕ) (f h : Field) (o : Option Field) → s.field m i ≡ Some f → u.field n i ≡ Some h → t.field k i ≡ o → (g : Field) × (t.field k i ≡ Some g)
  between i f h (Some g) e eh eo = (g, eo)
  between i f h None e eh eo = let gone = removed m k n i f one two e eo in absurd cc

  fields : (i : ℕ) (f h : Field) → s.field m i ≡ Some f → u.field n i ≡ Some h → KeepsField r s u f h
  fields i f h e eh =
      let g = between i f h (t.field k i) e eh refl in
      field-joined p q r j s t u f g.0 h (a.fields i f g.0 e g.1) (z.fields i g.0 h g.1 eh)

  required : (i : ℕ) (h : Field) → u.field n i ≡ Some h → h.cardinality ≡ Required → (f : Field) × (s.field m i ≡ Some f) × (f.cardinality ≡ Required)
  required i h eh req = let g = z.required i h eh req in a.required i g.0 g.1 g.2

  oneofs : (i l : ℕ) (f f' h h' : Field) → s.field m i ≡ Some f → s.field m l ≡ Some f' → u.field n i ≡ Some h → u.field n l ≡ Some h' → i ≢ l
      → in_one h.oneof h'.oneof ≡ true → in_one f.oneof f'.oneof ≡ true
  oneofs i l f f' h h' e e' eh eh' apart both =
      let g = between i f h (t.field k i) e eh refl in
      let g' = between l f' h' (t.field k l) e' eh' refl in
      a.oneofs i l f f' g.0 g'.0 e e' g.1 g'.1 apart (z.oneofs i l g.0 g'.0 h h' g.1 g'.1 eh eh' apart both)

  pub message-joined : r m n ≡ true → KeepsMessage r d s u m n
  message-joined pair = record {
    fields = fields;
    required = required;
    oneofs = oneofs;
    left_out = λ i h eh. left m n i h pair eh;
  }

-- two steps that keep all messages make one that keeps all
pub all-joined : (old between new : Schema) (first second both : Pairs) (b c besides : Besides) → KeepsAll first b old between → KeepsAll second c between new
    → AreJoined first second both → StaysRemoved first second old between new → LeavesOut both besides new → KeepsAll both besides old new
all-joined s t u p q r b c d a z j removed left m n pair =
    let k = j.between m n pair in
    message-joined p q r j s t u b c d removed left m k.0 n k.1 k.2 (a m k.0 k.1) (z k.0 n k.2) pair
