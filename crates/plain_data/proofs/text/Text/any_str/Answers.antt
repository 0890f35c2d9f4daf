use Rattle.plain_data.proofs.text.Text.any_str.Goals as goal

pub front-requires : goal.front-requires
front-requires c = rw c.in-Short.is at c.self.invariant

pub piece-requires : goal.piece-requires
piece-requires c = rw c.in-Piece.is at c.self.invariant
