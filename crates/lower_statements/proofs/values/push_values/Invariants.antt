use Rattle.std.proofs.Common.{◌≡◌}
use Rattle.std.specs.Vec.Iter.{into_iter_items}
use Rattle.lower_statements.proofs.ValueLemmas.{valued}
use Rattle.lower_statements.proofs.values.push_values.Given as goal

abbrev pub invariant-loop-expr : goal.invariant-loop-expr
invariant-loop-expr l =
    valued l.line l.draft (into_iter_items l.expr-iterator)
    ≡ valued l.line l.initial.draft l.fn.left.items
