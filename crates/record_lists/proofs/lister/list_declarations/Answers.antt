use Rattle.std.proofs.Common.{[], ◌++◌, map, ap, sym, ◌∙◌, append-nil}
use Rattle.record_walk.specs.Declarations.{declarations}
use Rattle.record_walk.specs.Declaration.{declaration_of}
use Rattle.record_walk.specs.Visitor.{Progress}
use Rattle.record_lists.proofs.lister.list_declarations.Goals as goal

pub returns : goal.returns
returns c =
    c.lister.view_is ∙ sym (append-nil c.walk_files.new.visitor) ∙ ap (λ (p : Progress). p.listed) (c.in_ok-walk_files.ensures.ok.after_is [])
    ∙ (λ j. c.new-lister.ensures j ++ map declaration_of (append-nil (declarations c.args.base c.args.files.now) j))
