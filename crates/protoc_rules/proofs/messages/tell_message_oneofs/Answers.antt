use Rattle.protoc_rules.proofs.messages.tell_message_oneofs.Goals as goal

pub returns : goal.returns
returns c = simp (c.as_slice.ensures, c.as_slice-2.ensures) at c.tell_oneofs.ensures
