use Rattle.std.proofs.Common.{◌≤◌, ◌<◌, ◌+◌, ◌∙◌, drop, ap, length, arith, sym}
use Rattle.std.proofs.lemmas.List.{drop_all, drop_more}
use Rattle.temp_norm.specs.Normalised.{with_temporaries}
use Rattle.temp_norm.proofs.PieceLemmas.{with_no_more, with_one_more}
use Rattle.temp_norm.proofs.loops.add_temporaries.Goals as goal

pub loop-row-preserved : goal.loop-row-preserved
loop-row-preserved c =
    let less : c.loop-row.row-index < length c.args.rows.now = omega arith in
    with_one_more c.loop-row.tables c.add_temporary.new.tables _
    (drop (c.loop-row.row-index + 1) c.args.rows.now) c.in_ok-add_temporary.ensures
    ∙ (ap (with_temporaries c.loop-row.tables)
    (sym (drop_more c.args.rows.now c.loop-row.row-index _ less)) ∙ c.loop-row.invariant)

pub returns : goal.returns
returns c =
    let past : length c.args.rows.now ≤ c.loop-row.row-index = omega arith in
    sym (with_no_more c.loop-row.tables)
    ∙ (ap (with_temporaries c.loop-row.tables)
    (sym (drop_all c.loop-row.row-index c.args.rows.now past)) ∙ c.loop-row.invariant)
