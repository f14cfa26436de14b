use Rattle.std.proofs.Common.{drop}
use Rattle.listing_rows.specs.of_listing_lines.declared.keywords.Keyword.TheVariants as key
use Rattle.listing_rules.specs.Reads.{NoFirst}
use Rattle.listing_rules.specs.Rules.{IsCountLine, IsGridLine, IsSlotsLine, IsVersionLine}
use Rattle.listing_rules.specs.Stages.{Breaks, AtVersion, AtGrid, AtScalars, AtSlots, AtCells}
use Rattle.listing_rules.proofs.ReadsLemmas.{fault_passed}
use Rattle.listing_rules.proofs.heads.read_head.Goals as goal

pub returns-in_err-take_version-clause-err : goal.returns-in_err-take_version-clause-err
returns-in_err-take_version-clause-err c =
    let lines = c.args.lines.now in
    fault_passed (NoFirst IsVersionLine lines) (Breaks lines) lines _ _ c.from_residual.ensures.1 c.in_err-take_version.ensures.err (λ left none. AtVersion left none)

pub returns-in_err-grid-clause-err : goal.returns-in_err-grid-clause-err
returns-in_err-grid-clause-err c =
    let lines = c.args.lines.now in
    fault_passed (NoFirst IsGridLine (drop 1 lines)) (Breaks lines) lines _ _ c.from_residual-in_err-grid.ensures.1 c.in_err-grid.ensures.err
    (λ left none. AtGrid (drop 1 lines) left c.in_ok-take_version.ensures.ok none)

pub returns-in_err-scalars-clause-err : goal.returns-in_err-scalars-clause-err
returns-in_err-scalars-clause-err c =
    let lines = c.args.lines.now in
    fault_passed (NoFirst (IsCountLine key.Scalars) (drop 2 lines)) (Breaks lines) lines _ _ c.from_residual-in_err-scalars.ensures.1 c.in_err-scalars.ensures.err
    (λ left none. AtScalars (drop 1 lines) (drop 2 lines) c.in_ok-grid.grid left c.in_ok-take_version.ensures.ok c.in_ok-grid.ensures.ok none)

pub returns-in_err-slots-clause-err : goal.returns-in_err-slots-clause-err
returns-in_err-slots-clause-err c =
    let lines = c.args.lines.now in
    fault_passed (NoFirst IsSlotsLine (drop 3 lines)) (Breaks lines) lines _ _ c.from_residual-in_err-slots.ensures.1 c.in_err-slots.ensures.err
    (λ left none. AtSlots (drop 1 lines) (drop 2 lines) (drop 3 lines) c.in_ok-grid.grid c.in_ok-scalars.scalars left c.in_ok-take_version.ensures.ok c.in_ok-grid.ensures.ok c.in_ok-scalars.ensures.ok none)

pub returns-in_err-cells-clause-err : goal.returns-in_err-cells-clause-err
returns-in_err-cells-clause-err c =
    let lines = c.args.lines.now in
    fault_passed (NoFirst (IsCountLine key.Cells) (drop 4 lines)) (Breaks lines) lines _ _ c.from_residual-in_err-cells.ensures.1 c.in_err-cells.ensures.err
    (λ left none. AtCells (drop 1 lines) (drop 2 lines) (drop 3 lines) (drop 4 lines) c.in_ok-grid.grid c.in_ok-scalars.scalars c.in_ok-slots.slots left c.in_ok-take_version.ensures.ok c.in_ok-grid.ensures.ok c.in_ok-scalars.ensures.ok c.in_ok-slots.ensures.ok none)
