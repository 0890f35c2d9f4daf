use Rattle.std.proofs.Common.{◌≡◌, suc, [], ◌∷◌, refl, ap, sym, subst, ◌∙◌, arith}
use Rattle.record_walk.specs.declared.counts.Counts.{Counts}
use Rattle.record_walk.specs.Counts.{counted}
use Rattle.record_walk.specs.Cursor.{left}
use Rattle.record_walk.specs.Shown.{file_shown}
use Rattle.record_walk.specs.Walking.{within_file}
use Rattle.record_walk.proofs.Room.{counted-file, room-within}
use Rattle.record_walk.proofs.Showing.{remains-all, remains-as, remains-fewer, remains-last}
use Rattle.record_walk.proofs.Turns.{fits-first}
use Rattle.record_walk.proofs.walking.walk_file.Goals as goal

pub visit_file-requires : goal.visit_file-requires
visit_file-requires g c =
    let k = c.args.cursor.now.counts in
    let f = c.args.file.now in
    g.met.V.Visitor.front_ready c.args.visitor.now (file_shown [] k.files f ∷ []) (within_file k.files k f) c.requires.ready

pub begin-requires : goal.begin-requires
begin-requires g c =
    let k = c.args.cursor.now.counts in
    let f = c.args.file.now in
    record { short = fits-first c.requires.room; room = room-within k f (file_shown [] k.files f) (within_file k.files k f) refl c.requires.room }

pub walk_left-requires : goal.walk_left-requires
walk_left-requires g c =
    let k = c.args.cursor.now.counts in
    let begins = c.in_ok-begin.ensures in
    record { sound = begins.sound; ready = subst (g.V.Visitor.ready c.visit_file.new.self) (sym begins.left_is) ((c.in_ok-visit_file.ensures.ok.ready_is (within_file k.files k c.args.file.now)).1 c.requires.ready) }

pub count_file-requires : goal.count_file-requires
count_file-requires g c =
    let k = c.args.cursor.now.counts in
    let f = c.args.file.now in
    let tail = within_file k.files k f in
    let begins = c.in_ok-begin.ensures in
    let counts : c.walk_left.new.cursor.counts ≡ counted k tail = c.in_ok-walk_left.ensures.counts ∙ (λ j. counted (begins.counts_are j) (begins.left_is j)) in
    let files = ap (λ (n : Counts). n.files) counts in
    let more = ap (λ (n : Counts). n.files) (counted-file k f tail) in
    omega (arith, files, more, c.requires.room.within.files)

pub returns-clause-ok : goal.returns-clause-ok
returns-clause-ok g c =
    let k = c.args.cursor.now.counts in
    let f = c.args.file.now in
    let all = within_file k.files k f in
    let begins = c.in_ok-begin.ensures in
    remains-last (left c.begin.new.self) (remains-as (sym begins.left_is) (remains-fewer (file_shown [] k.files f ∷ []) all (remains-all _ _ _) c.in_ok-visit_file.ensures.ok)) c.in_ok-walk_left.ensures.ok

pub returns-clause-counts : goal.returns-clause-counts
returns-clause-counts g c =
    let k = c.args.cursor.now.counts in
    let f = c.args.file.now in
    let tail = within_file k.files k f in
    let begins = c.in_ok-begin.ensures in
    let counts : c.walk_left.new.cursor.counts ≡ counted k tail = c.in_ok-walk_left.ensures.counts ∙ (λ j. counted (begins.counts_are j) (begins.left_is j)) in
    c.count_file.ensures ∙ ap (λ (n : Counts). record n { files = suc n.files }) counts ∙ counted-file k f tail
