-- What both calls are proved over.
--     Bounds     a value and an allocator with their laws, the ghosts of the allocator, and the impls that a call is passed
--     R, A, B    the value, the allocator and the box as rows.        A-laws, B-laws     laws of the last two
--     passed     what either call is passed
use Rattle.std.proofs.Common.{[], ◌∷◌}
use mir.Syntax.{Args, Dict, a_type, dcons, dnil}
use denote.Param.{param, bounded}
use denote.Param.Laws.{Laws, param_laws}
use denote.RattleType.{RattleType}
use Rattle.std.specs.declared.alloc.Allocator.{Ghosts}
use Rattle.std_alloc.specs.contracts.boxed.Box as box
use Rattle.std_alloc.proofs.boxed.Box.TheLaws as box_laws

pub record Bounds : Type 2 where
  pub Y : RattleType
  pub Z : RattleType
  pub laws : Laws Y
  pub Z-laws : Laws Z
  pub g : Ghosts Z.Denot
  pub d : Dict
  pub drops : Dict
  pub frees : Dict

module _ (E : Bounds) where
  abbrev pub R : RattleType
  R = param 0 E.Y

  abbrev pub A : RattleType
  A = param 1 E.Z

  abbrev pub A-laws : Laws A
  A-laws = param_laws 1 E.Z E.Z-laws

  abbrev pub B : RattleType
  B = box.the_row R A E.g

  pub B-laws : Laws B
  B-laws = box_laws.the_row_laws R A E.g (param_laws 0 E.Y E.laws) A-laws

  abbrev pub passed : Args
  passed = bounded (a_type ∷ a_type ∷ []) (E.Y, (E.Z, tt)) (dcons E.d (dcons E.drops (dcons E.frees dnil)))
