use Rattle.std.proofs.Common.{List, length, ap, ◌∙◌, sym, arith}
use Rattle.zpl_lowering.specs.Tables.{Fringe}
use Rattle.lower_draft.specs.Spread.{fringed_rows}
use Rattle.lower_draft.proofs.SpreadLemmas.{rows_fringed, spread_over_length}
use Rattle.lower_draft.proofs.storages.rows_over.Goals as goal

pub fringed_rows-requires : goal.fringed_rows-requires
fringed_rows-requires c =
    sym (ap length c.as_slice.ensures.value ∙ ap length c.in_ok-fringes.ensures
    ∙ spread_over_length (length c.args.storages.now) c.args.shifts.now)

pub returns : goal.returns
returns c =
    c.in_ok-rows.ensures
    ∙ ap (λ (table : List (List Fringe)). fringed_rows table 0 c.args.storages.now)
    (c.as_slice.ensures.value ∙ c.in_ok-fringes.ensures)
    ∙ rows_fringed (length c.args.storages.now) 0 c.args.shifts.now c.args.storages.now (omega
    arith)
