use Rattle.std.proofs.Common.{◌≡◌, true, false, [], ◌∷◌, ◌++◌, suc, ◌+◌, ◌-◌, get_or, length, take, arith, rules, refl, ap, sym, subst, ◌∙◌}
use Rattle.std.proofs.lemmas.Bool.Decides.{nat_tests}
use Rattle.std.proofs.lemmas.Str.{IsCharBoundary-after_ascii, IsCharBoundary-start}
use Rattle.proto_types.specs.Names.{is_dot}
use Rattle.name_tables.proofs.Entries.{with-nothing}
use Rattle.name_pass.specs.State.{records_of, scopes_of, state_of}
use Rattle.name_pass.proofs.Joining.{JoinsOn, joins-first, joins-next}
use Rattle.name_pass.proofs.Opened.{deeper-open, deeper-text, same-open, same-text}
use Rattle.name_pass.proofs.Packages.{packages_more}
use Rattle.name_pass.proofs.Showing.{stays-on}
use Rattle.name_pass.proofs.names.NameVisitor.enter_around.Goals as goal
use Rattle.name_pass.proofs.names.NameVisitor.enter_around.Goals.{then-byte-eq46+in_ok-enter_package+then-end-gt0, then-byte-eq46+in_ok-enter_package+else-end-gt0, else-byte-eq46}

pub loop-end-init : goal.loop-end-init
loop-end-init c =
    let v = c.args.self.now in
    let bytes = c.as_bytes-bytes.result.now in
    record {
      state = λ i. record (state_of v) { names = sym (with-nothing v.names.now.0) i };
      stays = record { files = refl; kept = refl; borrows = refl };
      within = omega arith;
      cut = IsCharBoundary-start bytes c.as_bytes-bytes.ensures.utf8;
      few = omega arith;
      below = omega (arith, ap length c.requires.outermost);
      joins = subst (JoinsOn bytes 0) (sym (ap (λ scopes. get_or scopes 0 []) c.requires.outermost)) (joins-first bytes);
    }

pub loop-end-preserved : goal.loop-end-preserved
loop-end-preserved c =
    let v = c.args.self.now in
    let bytes = c.as_bytes-bytes.result.now in
    let L = c.loop-end in
    let so-far = L.invariant in
    let more = packages_more (records_of v) (state_of v) c.args.file bytes L.end c.loop-end-test.true in
    let whole : L.end - 0 ≡ L.end = omega arith in
    elim c.if-byte-eq46.branch [
      | then-byte-eq46+in_ok-enter_package+then-end-gt0 w ↦
          let dot : is_dot (get_or bytes L.end 0) ≡ true = grind (arith, nat_tests) in
          let byte : get_or bytes L.end 0 ≡ 46 = grind (arith, nat_tests) in
          let full : w.range-then-byte-eq46.result.now ≡ take L.end bytes =
          w.range-then-byte-eq46.ensures.value ∙ ap (λ n. take n c.args.name.now) whole ∙ ap (take L.end) (sym c.as_bytes-bytes.ensures.value) in
          let now = scopes_of w.enter_package.new.self in
          let is : now ≡ take (suc L.level) (scopes_of L.self) ++ take L.end bytes ∷ [] =
          w.in_ok-enter_package.ensures.scopes ∙ (λ i. take (suc L.level) (scopes_of L.self) ++ full i ∷ []) in
          let text = deeper-text (scopes_of L.self) L.level (take L.end bytes) so-far.below now is in
          record {
            state = rw (more, dot, w.self-is) (grind (arith, rules, w.in_ok-enter_package.ensures.ok, so-far.state, so-far.stays.files));
            stays = rw w.self-is (stays-on so-far.stays w.in_ok-enter_package.ensures.stays);
            within = omega (arith, w.start-is);
            cut = rw w.start-is (IsCharBoundary-after_ascii bytes L.end c.as_bytes-bytes.ensures.utf8 c.loop-end-test.true (omega (arith, byte)));
            few = omega (arith, w.level-is, so-far.few);
            below = rw (w.self-is, w.level-is) (deeper-open (scopes_of L.self) L.level (take L.end bytes) so-far.below now is);
            joins = rw (w.self-is, w.level-is, w.start-is) (subst (JoinsOn bytes (L.end + 1)) (sym text) (joins-next bytes L.end w.if-end-gt0.true c.loop-end-test.true byte));
          }
      | then-byte-eq46+in_ok-enter_package+else-end-gt0 w ↦
          let dot : is_dot (get_or bytes L.end 0) ≡ true = grind (arith, nat_tests) in
          let full : w.range-then-byte-eq46.result.now ≡ take L.end bytes =
          w.range-then-byte-eq46.ensures.value ∙ ap (λ n. take n c.args.name.now) whole ∙ ap (take L.end) (sym c.as_bytes-bytes.ensures.value) in
          let now = scopes_of w.enter_package.new.self in
          let is : now ≡ take (suc L.level) (scopes_of L.self) ++ take L.end bytes ∷ [] =
          w.in_ok-enter_package.ensures.scopes ∙ (λ i. take (suc L.level) (scopes_of L.self) ++ full i ∷ []) in
          let text = same-text (scopes_of L.self) L.level (take L.end bytes) so-far.below now is in
          record {
            state = rw (more, dot, w.self-is) (grind (arith, rules, w.in_ok-enter_package.ensures.ok, so-far.state, so-far.stays.files));
            stays = rw w.self-is (stays-on so-far.stays w.in_ok-enter_package.ensures.stays);
            within = omega (arith, w.start-is, so-far.within);
            cut = rw w.start-is so-far.cut;
            few = omega (arith, w.level-is, so-far.few);
            below = rw (w.self-is, w.level-is) (same-open (scopes_of L.self) L.level (take L.end bytes) so-far.below now is);
            joins = rw (w.self-is, w.level-is, w.start-is) (subst (JoinsOn bytes L.start) (sym text) so-far.joins);
          }
      | else-byte-eq46 w ↦
          let other : is_dot (get_or bytes L.end 0) ≡ false = grind (arith, nat_tests) in
          record {
            state = rw (more, other, w.self-is) so-far.state;
            stays = rw w.self-is so-far.stays;
            within = omega (arith, w.start-is, so-far.within);
            cut = rw w.start-is so-far.cut;
            few = omega (arith, w.level-is, so-far.few);
            below = rw (w.self-is, w.level-is) so-far.below;
            joins = rw (w.self-is, w.level-is, w.start-is) so-far.joins;
          }
    ]
