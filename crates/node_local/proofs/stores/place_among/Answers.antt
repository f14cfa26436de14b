use Rattle.std.proofs.Common.{pos, arith, rules}
use Rattle.grid_meaning.specs.of_zpl_region.declared.dims.Dim.{Dim}
use Rattle.grid_meaning.specs.of_zpl_region.declared.dims.Dim.TheVariants.{Range}
use Rattle.node_local.proofs.StoreLemmas.{at_coordinate, second_none, third_none, all_some, all_within, counts_told}
use Rattle.node_local.proofs.stores.place_among.Goals as goal

abbrev blank : Dim
blank = Range (pos 0) (pos 0) (pos 0) (pos 0)

pub returns-in_err-row-clause-place : goal.returns-in_err-row-clause-place
returns-in_err-row-clause-place c =
    second_none c.args.dims.now blank c.args.x c.args.y c.args.z c.in_ok-plane.plane (omega arith) (search rules)
    (at_coordinate _ c.args.x c.ranges.x c.in_ok-plane.ensures.place) (at_coordinate _ c.args.y c.ranges.y c.in_err-row.ensures.place)

pub returns-in_err-column-clause-place : goal.returns-in_err-column-clause-place
returns-in_err-column-clause-place c =
    third_none c.args.dims.now blank c.args.x c.args.y c.args.z c.in_ok-plane.plane c.in_ok-row.row (omega arith)
    (search rules) (at_coordinate _ c.args.x c.ranges.x c.in_ok-plane.ensures.place) (at_coordinate _ c.args.y c.ranges.y c.in_ok-row.ensures.place) (at_coordinate _ c.args.z c.ranges.z c.in_err-column.ensures.place)

pub returns-clause-place : goal.returns-clause-place
returns-clause-place c =
    let counts = counts_told c.args.dims.now blank c.args.rows c.args.columns (omega arith) c.requires.counted in
    all_some c.args.dims.now blank c.args.x c.args.y c.args.z c.in_ok-plane.plane c.in_ok-row.row c.in_ok-column.column
    c.args.rows c.args.columns (omega arith) (at_coordinate _ c.args.x c.ranges.x c.in_ok-plane.ensures.place) (at_coordinate _ c.args.y c.ranges.y c.in_ok-row.ensures.place)
    (at_coordinate _ c.args.z c.ranges.z c.in_ok-column.ensures.place) counts.0 counts.1

pub returns-clause-below : goal.returns-clause-below
returns-clause-below c =
    let counts = counts_told c.args.dims.now blank c.args.rows c.args.columns (omega arith) c.requires.counted in
    (all_within c.args.dims.now blank c.in_ok-plane.plane c.in_ok-row.row c.in_ok-column.column c.args.rows c.args.columns
    (omega arith) c.in_ok-plane.ensures.below c.in_ok-row.ensures.below c.in_ok-column.ensures.below counts.0
    counts.1).place

pub overflow_mul-result-2 : goal.overflow_mul-result-2
overflow_mul-result-2 c =
    let counts = counts_told c.args.dims.now blank c.args.rows c.args.columns (omega arith) c.requires.counted in
    let w = all_within c.args.dims.now blank c.in_ok-plane.plane c.in_ok-row.row c.in_ok-column.column c.args.rows c.args.columns
    (omega arith) c.in_ok-plane.ensures.below c.in_ok-row.ensures.below c.in_ok-column.ensures.below counts.0
    counts.1 in
    omega (arith, w.place)

pub overflow_add-result-2 : goal.overflow_add-result-2
overflow_add-result-2 c =
    let counts = counts_told c.args.dims.now blank c.args.rows c.args.columns (omega arith) c.requires.counted in
    let w = all_within c.args.dims.now blank c.in_ok-plane.plane c.in_ok-row.row c.in_ok-column.column c.args.rows c.args.columns
    (omega arith) c.in_ok-plane.ensures.below c.in_ok-row.ensures.below c.in_ok-column.ensures.below counts.0
    counts.1 in
    omega (arith, w.place)

pub overflow_add-result : goal.overflow_add-result
overflow_add-result c =
    let counts = counts_told c.args.dims.now blank c.args.rows c.args.columns (omega arith) c.requires.counted in
    let w = all_within c.args.dims.now blank c.in_ok-plane.plane c.in_ok-row.row c.in_ok-column.column c.args.rows c.args.columns
    (omega arith) c.in_ok-plane.ensures.below c.in_ok-row.ensures.below c.in_ok-column.ensures.below counts.0
    counts.1 in
    omega (arith, w.place, w.line)

pub overflow_mul-result : goal.overflow_mul-result
overflow_mul-result c =
    let counts = counts_told c.args.dims.now blank c.args.rows c.args.columns (omega arith) c.requires.counted in
    let w = all_within c.args.dims.now blank c.in_ok-plane.plane c.in_ok-row.row c.in_ok-column.column c.args.rows c.args.columns
    (omega arith) c.in_ok-plane.ensures.below c.in_ok-row.ensures.below c.in_ok-column.ensures.below counts.0
    counts.1 in
    omega (arith, w.place, w.line)
