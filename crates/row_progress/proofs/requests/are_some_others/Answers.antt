use Rattle.std.proofs.Common.{arith, sym, ap, ◌∙◌, drop}
use Rattle.grid_meaning.specs.Collective.{others}
use Rattle.grid_meaning.proofs.RemapLemmas.{length-others}
use Rattle.row_progress.specs.Kept.{is_part}
use Rattle.row_progress.specs.May.{froms_of}
use Rattle.row_progress.proofs.RequestLemmas.{another, end_test, over}
use Rattle.row_progress.proofs.requests.are_some_others.Goals as goal

pub loop-i-preserved : goal.loop-i-preserved
loop-i-preserved c = (
  c.found_with-found.ensures.within,
  λ code same.
      another (others code c.args.p) c.args.first c.loop-i.i c.other.result _ _ _ (c.other.ensures code same) (omega (arith, c.loop-i-test.true, c.min-i-end.ensures))
      c.found_with-found.ensures.rest (c.loop-i.invariant.1 code same),
)

pub returns : goal.returns
returns c code same =
    let many = length-others code c.args.p (omega (arith, c.requires, same)) in
    sym (c.loop-i.invariant.1 code same)
    ∙ (ap (is_part (drop c.loop-i.found (froms_of c.args.kept.now)))
    (over (others code c.args.p) c.args.first c.loop-i.i (omega (arith, many, same, c.loop-i-test.false, c.loop-i.auto.i-end, c.min-i-end.ensures, c.from.ensures, c.requires)))
    ∙ end_test c.args.kept.now c.loop-i.found c.loop-i.invariant.0)
