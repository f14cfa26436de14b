use Rattle.std.proofs.Common.{arith, sym, subst}
use Rattle.std.proofs.lemmas.Int.{ints}
use Rattle.zpl_region.specs.Dim.{IsDim}
use Rattle.grid_layout.proofs.DimLemmas.{part_is_dim}
use Rattle.grid_layout.proofs.SideLemmas.{side_needed_told}
use Rattle.grid_layout.proofs.sides.Side.needed.Goals as goal

pub place-requires-clause-dim : goal.place-requires-clause-dim
place-requires-clause-dim c = subst IsDim (sym c.part-own.ensures) (part_is_dim _ _ c.args.dim c.requires.dim)

pub returns : goal.returns
returns c =
    side_needed_told c.place.result c.args.self c.args.held c.args.d _ c.args.dim c.part-own.result _ _ c.place.ensures (omega (arith, ints)) c.part-own.ensures
    (omega (arith, ints)) (omega (arith, ints))
