use Rattle.std.proofs.Common.{arith}
use Rattle.lower_points.specs.of_lower_places.View.{where_of}
use Rattle.lower_statements.proofs.PrefixLemmas.{prefix_fit, prefixes_end, prefixes_fit, prefixes_next}
use Rattle.lower_statements.proofs.prefixes.behind_prefixes.Goals as goal

pub open_prefix-requires-clause-fit : goal.open_prefix-requires-clause-fit
open_prefix-requires-clause-fit c =
    prefix_fit c.args.prefixes.now c.loop-number.number _ (omega arith)
    c.loop-number.invariant.fit

pub loop-number-preserved : goal.loop-number-preserved
loop-number-preserved c = record {
  behind = λ call rest.
      prefixes_next c.args.borders c.is_last-is_border.result (where_of c.loop-number.inner)
      (where_of c.in-Ok.next) c.loop-number.draft c.open_prefix.new.draft c.args.prefixes.now
      c.loop-number.number _ call rest _ (omega arith) c.is_last-is_border.ensures
      c.in-Ok.ensures.rows c.in-Ok.ensures.under (c.loop-number.invariant.behind call rest);
  place = c.in-Ok.ensures.place;
  fit = prefixes_fit c.args.prefixes.now c.loop-number.number (omega arith)
      c.loop-number.invariant.fit;
}

pub returns-clause-behind : goal.returns-clause-behind
returns-clause-behind c = λ call rest.
    prefixes_end c.args.borders (where_of c.loop-number.inner) c.loop-number.draft
    c.args.prefixes.now c.loop-number.number call rest _ (omega arith)
    (c.loop-number.invariant.behind call rest)
