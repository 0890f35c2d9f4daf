use Rattle.std.proofs.Common.{◌∙◌, ap, false, get_or}
use Rattle.protoc_rules.specs.Linked.{is_set, linked}
use Rattle.protoc_rules.proofs.Marks.{mark-of}
use Rattle.protoc_rules.proofs.known.Known.is_message_set.Goals as goal

pub returns : goal.returns
returns c =
    c.is_marked.ensures ∙ ap (λ marks. get_or marks c.args.index false) c.args.self.sets_are
    ∙ mark-of (is_set (linked c.args.self.items)) c.args.self.items.messages.now c.args.index
