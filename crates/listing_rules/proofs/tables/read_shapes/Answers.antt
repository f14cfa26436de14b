use Rattle.std.proofs.Common.{List, [], drop, refl}
use Rattle.node_form.specs.declared.arrays.ArrayRow.{ArrayRow}
use Rattle.node_form.specs.declared.tables.Tables.{Tables}
use Rattle.listing_rules.specs.declared.parts.Part.TheVariants as part
use Rattle.listing_rules.specs.Reads.{Stops}
use Rattle.listing_rules.specs.Room.{LacksRoom}
use Rattle.listing_rules.specs.Rules.{belongs, IsArrayLine}
use Rattle.listing_rules.specs.Stages.{Breaks, AtArray, AtRoom, ReadArrays}
use Rattle.listing_rules.proofs.ReadsLemmas.{fault_passed}
use Rattle.listing_rules.proofs.TablesLemmas.{head_grid, arrays_fit, arrays_three, arrays_inside}
use Rattle.listing_rules.proofs.tables.read_shapes.Goals as goal

pub returns-in_err-arrays-clause-err : goal.returns-in_err-arrays-clause-err
returns-in_err-arrays-clause-err c =
    let lines = c.args.lines.now in
    fault_passed (Stops (belongs part.Arrays) (λ (done : List ArrayRow). IsArrayLine) [] (drop 5 lines)) (Breaks lines) lines _ _ c.from_residual-in_err-arrays.ensures.1 c.in_err-arrays.ensures.err
    (λ left stops. AtArray c.in_ok-tables.tables (drop 5 lines) left c.in_ok-tables.ensures.ok stops)

pub check_room-requires-clause-grid : goal.check_room-requires-clause-grid
check_room-requires-clause-grid c = head_grid c.args.lines.now c.in_ok-tables.tables (drop 5 c.args.lines.now) c.in_ok-tables.ensures.ok

pub check_room-requires-clause-arrays : goal.check_room-requires-clause-arrays
check_room-requires-clause-arrays c = arrays_fit (drop 5 c.args.lines.now) (drop c.in_ok-arrays.at c.args.lines.now) c.in_ok-arrays.arrays c.in_ok-arrays.ensures.ok

pub check_room-requires-clause-three : goal.check_room-requires-clause-three
check_room-requires-clause-three c = arrays_three (drop 5 c.args.lines.now) (drop c.in_ok-arrays.at c.args.lines.now) c.in_ok-arrays.arrays c.in_ok-arrays.ensures.ok

pub check_room-requires-clause-inside : goal.check_room-requires-clause-inside
check_room-requires-clause-inside c = arrays_inside c.args.lines.now c.in_ok-arrays.at c.in_ok-arrays.arrays c.in_ok-tables.ensures.inside c.in_ok-arrays.ensures.ok

pub returns-in_err-check_room-clause-err : goal.returns-in_err-check_room-clause-err
returns-in_err-check_room-clause-err c =
    let lines = c.args.lines.now in
    let tables : Tables = record c.in_ok-tables.tables { arrays = c.in_ok-arrays.arrays } in
    let read : ReadArrays lines tables (drop c.in_ok-arrays.at lines) = record { before = c.in_ok-tables.tables; behind = drop 5 lines; head = c.in_ok-tables.ensures.ok; rows = c.in_ok-arrays.arrays; reads = c.in_ok-arrays.ensures.ok; made = refl } in
    fault_passed (LacksRoom lines tables) (Breaks lines) lines _ _ c.from_residual-in_err-check_room.ensures.1 c.in_err-check_room.ensures.err
    (λ left lacks. AtRoom tables (drop c.in_ok-arrays.at lines) left read lacks)

pub returns-clause-ok : goal.returns-clause-ok
returns-clause-ok c =
    let lines = c.args.lines.now in
    record { before = c.in_ok-tables.tables; behind = drop 5 lines; head = c.in_ok-tables.ensures.ok; rows = c.in_ok-arrays.arrays; reads = c.in_ok-arrays.ensures.ok; made = refl }
