use Rattle.std.proofs.Common.{pos, false, ap, arith}
use Rattle.zpl_region.specs.declared.dims.Dim.TheVariants.{Range}
use Rattle.grid_layout.proofs.SideLemmas.{owns_told}
use Rattle.grid_layout.proofs.sides.owned_by.Goals as goal

pub returns-clause-owned : goal.returns-clause-owned
returns-clause-owned c =
    let r = c.args.region.now in
    ap (λ dims. record { rank = r.rank; dims = dims })
    (owns_told c.args.from.now c.args.to.now r.dims (record { block = 0; first = pos 0; last = pos 0; is_empty = false }) (Range (pos 0) (pos 0) (pos 0) (pos 0)) _ _ _
    (omega arith) (omega arith) (omega arith) c.owned.ensures c.owned-2.ensures c.owned-3.ensures)
