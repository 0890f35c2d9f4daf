-- Worked scripts, computed.
use Rattle.std.specs.Prelude.{◌≡◌, ℕ, List, [], ◌∷◌, ◌++◌, if◌then◌else◌, refl, codes}
use Rattle.std.specs.List.{fold, flat_map}
use Rattle.std.specs.FinMap as map
use Rattle.std.specs.FinMap.{get-empty}
use Rattle.std.specs.Cmp.Lexicographic.{slice_cmp}
use Rattle.std.specs.Ordering.{nat_cmp}
use Rattle.pool_types.specs.Contents.{no_contents}
use Rattle.pool_types.specs.declared.contents.definition.Definition.{Definition}
use Rattle.name_tables.proofs.Entries.{get-with, with-nothing}
use Rattle.link_script.specs.Script.Reading.{script}
use Rattle.pool_contents.specs.Same.{contents-exact}
use Rattle.descriptor_pool.specs.Pool.{link}
use Rattle.record_lists.specs.Reference.{references}
use Rattle.descriptor_linker.specs.Report.Lines.{line, reference_lines}
use Rattle.descriptor_linker.specs.Report.Session.{report, new_session, step}
use Rattle.descriptor_linker.proofs.Computed.{scripts}

pub nothing : report (script []) ≡ []
unfolding scripts
nothing = refl

pub bad_byte : report (script (255 ∷ [])) ≡ codes "line 1: bad text\n"
unfolding scripts
bad_byte = refl

pub misspelled : report (script (codes "link\nwhat\n")) ≡ codes "ok 0 0 0 0 0\nline 2: unknown word\n"
unfolding scripts
misspelled = refl

pub misplaced_link : report (script (codes "file a.proto\nlink\n")) ≡ codes "line 2: misplaced\n"
unfolding scripts
misplaced_link = refl

pub field_in_a_file : report (script (codes "file a.proto\nfield f 1 optional int32 ~ ~\n")) ≡ codes "line 2: misplaced\n"
unfolding scripts
field_in_a_file = refl

pub too_few_words : report (script (codes "link\nfind\n")) ≡ codes "ok 0 0 0 0 0\nline 2: wrong count of words\n"
unfolding scripts
too_few_words = refl

pub odd_number : report (script (codes "file a.proto\nmessage M\nfield f x optional int32 ~ ~\n")) ≡ codes "line 3: bad number\n"
unfolding scripts
odd_number = refl

pub odd_type : report (script (codes "file a.proto\nmessage M\nfield f 1 optional int33 ~ ~\n")) ≡ codes "line 3: bad word\n"
unfolding scripts
odd_type = refl

pub missing_end : report (script (codes "file a.proto\n")) ≡ codes "line 2: missing end\n"
unfolding scripts
missing_end = refl

pub unknown_type : report (script (codes "file a.proto\nmessage M\nfield f 1 optional message N ~\nend\nend\nlink\n"))
    ≡ codes "refused 1\na.proto: name 'N' is not defined\n"
unfolding scripts
unknown_type = simp (get-with {X = Definition}, get-with {X = ℕ}, get-empty {X = Definition} (slice_cmp nat_cmp), get-empty {X = ℕ} (slice_cmp nat_cmp)) refl

pub message_twice : report (script (codes "file a.proto\npackage p\nmessage M\nend\nmessage M\nend\nend\nlink\n"))
    ≡ codes "refused 1\na.proto: name 'p.M' is defined twice\n"
unfolding scripts
message_twice = simp (get-with {X = Definition}, get-with {X = ℕ}, get-empty {X = Definition} (slice_cmp nat_cmp), get-empty {X = ℕ} (slice_cmp nat_cmp)) refl

pub nothing_to_walk : report (script (codes "walk\n")) ≡ codes "walk 0\n"
unfolding scripts
nothing_to_walk = refl

pub file_twice : report (script (codes "file a.proto\nend\nfile a.proto\nend\nlink\n"))
    ≡ codes "refused 1\na different file named 'a.proto' has already been added\n"
unfolding scripts
file_twice = simp (get-with {X = Definition}, get-with {X = ℕ}, get-empty {X = Definition} (slice_cmp nat_cmp), get-empty {X = ℕ} (slice_cmp nat_cmp)) refl

pub name_of_another_file : report (script (codes "file a.proto\npackage p\nmessage M\nend\nend\nfile b.proto\npackage p\nmessage M\nend\nend\nlink\n"))
    ≡ codes "refused 1\nb.proto: name 'p.M' is already defined in file 'a.proto'\n"
unfolding scripts
name_of_another_file = simp (get-with {X = Definition}, get-with {X = ℕ}, get-empty {X = Definition} (slice_cmp nat_cmp), get-empty {X = ℕ} (slice_cmp nat_cmp)) refl

pub missing_type_name : report (script (codes "file a.proto\nmessage M\nfield f 1 optional message ~ ~\nend\nend\nlink\n"))
    ≡ codes "refused 1\na.proto: missing required field at [4, 0, 2, 0, 6]\n"
unfolding scripts
missing_type_name = simp (get-with {X = Definition}, get-with {X = ℕ}, get-empty {X = Definition} (slice_cmp nat_cmp), get-empty {X = ℕ} (slice_cmp nat_cmp)) refl

pub field_is_no_type : report (script (codes "file a.proto\nmessage M\nfield f 1 optional message .M.f ~\nend\nend\nlink\n"))
    ≡ codes "refused 1\na.proto: 'M.f' is not a message or enum type\n"
unfolding scripts
field_is_no_type = simp (get-with {X = Definition}, get-with {X = ℕ}, get-empty {X = Definition} (slice_cmp nat_cmp), get-empty {X = ℕ} (slice_cmp nat_cmp)) refl

pub numbers_at_the_edges : report (script (codes "file a.proto\nmessage M\nfield a 0 optional int32 ~ ~\nfield b 1 optional int32 ~ ~\nfield c 18999 optional int32 ~ ~\nfield d 19000 optional int32 ~ ~\nfield e 19999 optional int32 ~ ~\nfield f 20000 optional int32 ~ ~\nfield g 536870911 optional int32 ~ ~\nfield h 536870912 optional int32 ~ ~\nfield i -1 optional int32 ~ ~\nend\nend\nlink\n"))
    ≡ codes "refused 5\na.proto: invalid field number '0'\na.proto: invalid field number '19000'\na.proto: invalid field number '19999'\na.proto: invalid field number '536870912'\na.proto: invalid field number '-1'\n"
unfolding scripts
numbers_at_the_edges = simp (get-with {X = Definition}, get-with {X = ℕ}, get-empty {X = Definition} (slice_cmp nat_cmp), get-empty {X = ℕ} (slice_cmp nat_cmp)) refl

pub found : report (script (codes "file a.proto\npackage p.q\nmessage M\nfield f 1 optional message .p.q.M ~\nend\nend\nlink\nfind p\nfind .p.q.M\nfind q\n"))
    ≡ codes "ok 1 1 0 0 0\npackage a.proto [2]\nmessage 0 a.proto [4, 0, 1]\nnone\n"
unfolding scripts
found = simp (get-with {X = Definition}, get-with {X = ℕ}, get-empty {X = Definition} (slice_cmp nat_cmp), get-empty {X = ℕ} (slice_cmp nat_cmp)) refl

pub empty_batch : report (script (codes "# an empty batch\n\nlink\n")) ≡ codes "ok 0 0 0 0 0\n"
unfolding scripts
empty_batch = refl

pub refused_whole : report (script (codes "link\nfile b.proto\npackage .a\nmessage M\nend\nmessage M\nend\nend\nlink\nfind ''\nfind ..a\n"))
    ≡ codes "ok 0 0 0 0 0\nrefused 1\nb.proto: name '.a.M' is defined twice\nnone\nnone\n"
unfolding scripts
refused_whole = simp (get-with {X = Definition}, get-with {X = ℕ}, get-empty {X = Definition} (slice_cmp nat_cmp), get-empty {X = ℕ} (slice_cmp nat_cmp)) refl

pub nameless_file : report (script (codes "file ~\nmessage M\nend\nend\nlink\nfind M\nfind ~\n")) ≡ codes "ok 1 1 0 0 0\nmessage 0 '' [4, 0, 1]\nnone\n"
unfolding scripts
nameless_file = simp (get-with {X = Definition}, get-with {X = ℕ}, get-empty {X = Definition} (slice_cmp nat_cmp), get-empty {X = ℕ} (slice_cmp nat_cmp)) refl

-- the references of the files that a script declares, as they are told
abbrev references_of : List ℕ → List ℕ
references_of text = flat_map (λ f. reference_lines (references (f ∷ []))) (fold step new_session (script text).statements).building.files

pub references_in_order : references_of (codes "file a.proto\npackage p\nmessage M\nfield f 1 optional message .p.M ~\nfield g 2 optional int32 ~ ~\nmessage N\nfield h 1 repeated message .p.M ~\nend\nfield i 3 optional message .p.M.N ~\nend\nend\n")
    ≡ codes "refs 3\np.M.f type_name .p.M\np.M.i type_name .p.M.N\np.M.N.h type_name .p.M\n"
unfolding scripts
references_in_order = refl

pub reference_of_nothing : references_of (codes "file ''\nmessage ''\nfield '' 1 optional message .M ~\nend\nend\n") ≡ codes "refs 1\n'' type_name .M\n"
unfolding scripts
reference_of_nothing = refl

pub no_reference : references_of (codes "file a.proto\nend\n") ≡ codes "refs 0\n"
unfolding scripts
no_reference = refl

pub refs_of_no_file : report (script (codes "refs a.proto\nrefs ~\n")) ≡ codes "none\nnone\n"
unfolding scripts
refs_of_no_file = refl

pub refs_of_what : report (script (codes "refs\n")) ≡ codes "line 1: wrong count of words\n"
unfolding scripts
refs_of_what = refl

nothing_linked : link no_contents [] ≡ no_contents
nothing_linked = λ i. record no_contents { names = with-nothing map.empty i; file_names = with-nothing map.empty i }

pub nothing_relinks : report (script (codes "relink\n")) ≡ codes "same\n"
unfolding scripts
nothing_relinks = λ i. line ((if (contents-exact (link no_contents []) no_contents).1 nothing_linked i then codes "same" else codes "different") ∷ []) ++ []
