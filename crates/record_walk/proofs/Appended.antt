-- What two lists of files in a row declare.
use Rattle.std.proofs.Common.{List, [], ◌∷◌, ◌++◌, refl, ap, sym, ◌∙◌, append_assoc}
use Rattle.proto_types.specs.declared.file.FileDescriptorProto.{FileDescriptorProto}
use Rattle.record_walk.specs.declared.counts.Counts.{Counts}
use Rattle.record_walk.specs.Counts.{counted}
use Rattle.record_walk.specs.Declarations.{declarations, file_walk}
use Rattle.record_walk.specs.InTurn.{DeclareInTurn}
use Rattle.record_walk.proofs.Counted.{counted-append}

-- the files behind are numbered on from those before them
pub declarations-append : (base : Counts) (fs gs : List FileDescriptorProto) → DeclareInTurn base fs gs
declarations-append base [] gs = refl
declarations-append base (f ∷ fs) gs =
    let first = file_walk base f in
    let rest = declarations (counted base first) fs in
    ap (λ ds. first ++ ds) (declarations-append (counted base first) fs gs)
    ∙ ap (λ c. first ++ (rest ++ declarations c gs)) (sym (counted-append base first rest))
    ∙ sym (append_assoc first rest (declarations (counted base (first ++ rest)) gs))
