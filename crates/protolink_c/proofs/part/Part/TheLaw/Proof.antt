-- A `&` to some parts is one to what they are parts of: their lifetime outlasts it.
use denote.Param.Laws.{Laws}
use denote.Param.Shared.{copy_shared}
use denote.RattleType.{RattleType}
use denote.Struct.Field.{RawPtr-field}
use denote.Struct.Laws.{RawPtr-copy}
use denote.Struct.Lending.{lent_at_shr_laws, of_Lends}
use Rattle.protolink_c.proofs.Lending.{lends_parts}
use Rattle.protolink_c.specs.contracts.part.Part as part
use Rattle.protolink_c.proofs.part.Part.TheLaw.Statement.{statement}

pub shares : (T : RattleType) (L : Laws T) → statement T L
shares T L = of_Lends (part.struct T) (part.the_codes T.Denot T.coded) (part.the_heap T) (part.the_lent T)
    (λ d p. lent_at_shr_laws T L.shr_laws d.address d.content) (copy_shared RawPtr-field RawPtr-copy, tt)
    (λ M 𝓤 𝓛 d p. lends_parts 𝓛 (part.the_row T).lives T L d.address d.content d.round d.count)
