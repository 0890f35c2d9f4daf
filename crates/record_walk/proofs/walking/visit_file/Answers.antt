use Rattle.std.proofs.Common.{◌≡◌, suc, [], ◌∷◌, refl, ap, sym, subst, ◌∙◌, arith}
use Rattle.record_walk.specs.declared.counts.Counts.{Counts}
use Rattle.record_walk.specs.Counts.{counted}
use Rattle.record_walk.specs.Cursor.{left}
use Rattle.record_walk.specs.Shown.{file_shown}
use Rattle.record_walk.specs.Walking.{within_file}
use Rattle.record_walk.proofs.Room.{counted-file, room-within}
use Rattle.record_walk.proofs.Showing.{remains-all, remains-as, remains-fewer, remains-last}
use Rattle.record_walk.proofs.Turns.{fits-first}
use Rattle.record_walk.proofs.walking.visit_file.Goals as goal

pub show_file-requires : goal.show_file-requires
show_file-requires g c =
    let k = c.args.cursor.now.counts in
    let f = c.args.file.now in
    (g.dyn-1-met c.args.visitor.now.0).0.front_ready c.args.visitor.now.1 (file_shown [] k.files f ∷ []) (within_file k.files k f) c.requires.ready

pub begin-requires : goal.begin-requires
begin-requires g c =
    let k = c.args.cursor.now.counts in
    let f = c.args.file.now in
    record { short = fits-first c.requires.room; room = room-within k f (file_shown [] k.files f) (within_file k.files k f) refl c.requires.room }

pub visit_left-requires : goal.visit_left-requires
visit_left-requires g c =
    let k = c.args.cursor.now.counts in
    let begins = c.in_ok-begin.ensures in
    record { sound = begins.sound; ready = subst ((goal.Visitor-dyn g (c.args.visitor.now.0, c.show_file.new.visitor)).ready c.show_file.new.visitor) (sym begins.left_is) ((c.in_ok-show_file.ensures.ok.ready_is (within_file k.files k c.args.file.now)).1 c.requires.ready) }

pub count_file-requires : goal.count_file-requires
count_file-requires g c =
    let k = c.args.cursor.now.counts in
    let f = c.args.file.now in
    let tail = within_file k.files k f in
    let begins = c.in_ok-begin.ensures in
    let counts : c.visit_left.new.cursor.counts ≡ counted k tail = c.in_ok-visit_left.ensures.counts ∙ (λ j. counted (begins.counts_are j) (begins.left_is j)) in
    let files = ap (λ (n : Counts). n.files) counts in
    let more = ap (λ (n : Counts). n.files) (counted-file k f tail) in
    omega (arith, files, more, c.requires.room.within.files)

pub returns-clause-ok : goal.returns-clause-ok
returns-clause-ok g c =
    let k = c.args.cursor.now.counts in
    let f = c.args.file.now in
    let all = within_file k.files k f in
    let begins = c.in_ok-begin.ensures in
    remains-last (left c.begin.new.self) (remains-as (sym begins.left_is) (remains-fewer (file_shown [] k.files f ∷ []) all (remains-all _ _ _) c.in_ok-show_file.ensures.ok)) c.in_ok-visit_left.ensures.ok

pub returns-clause-counts : goal.returns-clause-counts
returns-clause-counts g c =
    let k = c.args.cursor.now.counts in
    let f = c.args.file.now in
    let tail = within_file k.files k f in
    let begins = c.in_ok-begin.ensures in
    let counts : c.visit_left.new.cursor.counts ≡ counted k tail = c.in_ok-visit_left.ensures.counts ∙ (λ j. counted (begins.counts_are j) (begins.left_is j)) in
    c.count_file.ensures ∙ ap (λ (n : Counts). record n { files = suc n.files }) counts ∙ counted-file k f tail
