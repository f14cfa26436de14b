use Rattle.std.proofs.Common.{◌≡◌, ◌<◌, ◌≤◌, ◌/◌, ◌%◌, ◌∙◌, ap, subst, arith}
use Rattle.std.proofs.lemmas.Int.{ints}
use Rattle.node_loop.specs.Line.{progression_of}
use Rattle.node_loop.proofs.IndexLemmas.{no_columns, no_rows, nth_line, past_count, past_planes}
use Rattle.node_loop.proofs.indices.nth_of_lines.Goals as goal
use Rattle.node_loop.proofs.indices.nth_of_lines.Goals.{then-rows-eq0-via-then-rows-eq0, then-rows-eq0-via-else-rows-eq0+then-columns-eq0}

pub returns-then-rows-eq0 : goal.returns-then-rows-eq0
returns-then-rows-eq0 c = λ r is.
    past_count (progression_of c.args.planes) (progression_of c.args.rows) (progression_of c.args.columns) r c.args.i is
    (elim c.then-rows-eq0.branch [
      | then-rows-eq0-via-then-rows-eq0 w ↦ no_rows c.args.planes.count c.args.rows.count c.args.columns.count c.args.i w.if-rows-eq0.true
      | then-rows-eq0-via-else-rows-eq0+then-columns-eq0 w ↦ no_columns c.args.planes.count c.args.rows.count c.args.columns.count c.args.i w.if-columns-eq0.true
    ])

pub returns-then-planes-plane : goal.returns-then-planes-plane
returns-then-planes-plane c = λ r is.
    let often : c.digits-plane.result.0 ≡ c.args.i / c.args.columns.count / c.args.rows.count =
    c.digits-plane.ensures.often ∙ ap (λ n. n / c.args.rows.count) c.digits-line.ensures.often in
    let rows = c.if-rows-eq0.false in
    let columns = c.if-columns-eq0.false in
    past_count (progression_of c.args.planes) (progression_of c.args.rows) (progression_of c.args.columns) r c.args.i is
    (past_planes c.args.planes.count c.args.rows.count c.args.columns.count c.args.i (omega (arith, rows)) (omega (arith, columns))
    (subst (λ n. c.args.planes.count ≤ n) often c.if-planes-plane.true))

pub returns : goal.returns
returns c = λ r is.
    let planes = c.requires.planes in
    let rows = c.requires.rows in
    let columns = c.requires.columns in
    let some_rows : 1 ≤ c.args.rows.count = let h = c.if-rows-eq0.false in omega (arith, h) in
    let some_columns : 1 ≤ c.args.columns.count = let h = c.if-columns-eq0.false in omega (arith, h) in
    let plane : c.digits-plane.result.0 ≡ c.args.i / c.args.columns.count / c.args.rows.count =
    c.digits-plane.ensures.often ∙ ap (λ n. n / c.args.rows.count) c.digits-line.ensures.often in
    let row : c.digits-plane.result.1 ≡ c.args.i / c.args.columns.count % c.args.rows.count =
    c.digits-plane.ensures.left ∙ ap (λ n. n % c.args.rows.count) c.digits-line.ensures.often in
    let column : c.digits-line.result.1 ≡ c.args.i % c.args.columns.count = c.digits-line.ensures.left in
    let below : c.args.i / c.args.columns.count / c.args.rows.count < c.args.planes.count = let h = c.if-planes-plane.false in omega (arith, plane, h) in
    let row_below : c.args.i / c.args.columns.count % c.args.rows.count < c.args.rows.count = omega (arith, some_rows) in
    let column_below : c.args.i % c.args.columns.count < c.args.columns.count = omega (arith, some_columns) in
    nth_line (progression_of c.args.planes) (progression_of c.args.rows) (progression_of c.args.columns) r c.args.i _ _ _ is some_rows some_columns below
    (omega (arith, ints, plane, below, planes)) (omega (arith, ints, row, row_below, rows)) (omega (arith, ints, column, column_below, columns))
