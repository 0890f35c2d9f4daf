-- The references of a file, found one declaration after another.
use Rattle.std.proofs.Common.{◌≡◌, List, [], ◌∷◌, ◌++◌, map, Some, ap, sym, ◌∙◌, subst, append_assoc, append-nil}
use Rattle.std.specs.List.{All, AllByRecursion, flat_map}
use Rattle.std.proofs.lemmas.List.Elements.{recursion_from_All}
use Rattle.proto_types.specs.declared.file.FileDescriptorProto.{FileDescriptorProto}
use Rattle.record_walk.specs.declared.declaration.Declaration.{Declaration}
use Rattle.record_walk.specs.Counts.{no_counts}
use Rattle.record_walk.specs.Declarations.{declarations, file_walk}
use Rattle.record_walk.specs.Leads.{leads}
use Rattle.record_walk.specs.Declaration.{declaration_of}
use Rattle.record_walk.specs.Shown.{Shown}
use Rattle.record_walk.proofs.Leading.{paths-lead}
use Rattle.record_lists.specs.Reference.{Reference, references_in, references}

-- the path of a declaration leads to its record
abbrev Leads : FileDescriptorProto → Shown → Type 0
Leads f d = leads f d.path ≡ Some d.proto

-- some references of a file are found, and the others are those of the declarations that are left
pub record Left (f : FileDescriptorProto) (found : List Reference) (items : List Declaration) : Type 0 where
  pub rest : List Shown
  pub items_are : items ≡ map declaration_of rest
  pub lead : AllByRecursion (Leads f) rest
  pub whole : found ++ flat_map references_in rest ≡ references (f ∷ [])

-- none is found yet, and all declarations are left
pub left-all : (f : FileDescriptorProto) (files : List FileDescriptorProto) (found : List Reference) (listed items : List Declaration)
    → found ≡ [] → files ≡ f ∷ [] → listed ≡ map declaration_of (declarations no_counts files) → items ≡ listed → Left f found items
left-all f files found listed items none one are same =
    let ds = declarations no_counts (f ∷ []) in
    record {
      rest = ds;
      items_are = same ∙ are ∙ ap (λ fs. map declaration_of (declarations no_counts fs)) one;
      lead = recursion_from_All (Leads f) ds (subst (All (Leads f)) (sym (append-nil (file_walk no_counts f))) (paths-lead no_counts f));
      whole = ap (λ rs. rs ++ flat_map references_in ds) none;
    }

-- what is found behind the references of one more declaration
abbrev pub Adds : FileDescriptorProto → Declaration → List Reference → List Reference → Type 0
Adds f x found more = (d : Shown) → x ≡ declaration_of d → leads f d.path ≡ Some d.proto → more ≡ found ++ references_in d

next-of : (f : FileDescriptorProto) (found more : List Reference) (x : Declaration) (items : List Declaration) (rest : List Shown)
    → x ∷ items ≡ map declaration_of rest → AllByRecursion (Leads f) rest → found ++ flat_map references_in rest ≡ references (f ∷ [])
    → Adds f x found more → Left f more items
next-of f found more x items [] are lead whole adds = absurd (cc)
next-of f found more x items (d ∷ ds) are lead whole adds =
    let first : x ≡ declaration_of d = cc in
    let others : items ≡ map declaration_of ds = cc in
    record {
      rest = ds;
      items_are = others;
      lead = lead.1;
      whole = ap (λ rs. rs ++ flat_map references_in ds) (adds d first lead.0) ∙ append_assoc found (references_in d) (flat_map references_in ds) ∙ whole;
    }

-- the next declaration is read
pub left-next : (f : FileDescriptorProto) (found more : List Reference) (x : Declaration) (before items : List Declaration)
    → Left f found before → before ≡ x ∷ items → Adds f x found more → Left f more items
left-next f found more x before items left first adds = next-of f found more x items left.rest (sym first ∙ left.items_are) left.lead left.whole adds
