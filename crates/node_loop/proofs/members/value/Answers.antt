use Rattle.std.proofs.Common.{◌≡◌, sym, ap, ◌∙◌, rules}
use Rattle.std.specs.Prelude.{Some, slice_get}
use Rattle.node_form.specs.Group.{operands_at}
use Rattle.node_form.specs.Value.{and_then, read, value_of}
use Rattle.grid_meaning.specs.Loop.{access_at, point_of}
use Rattle.node_loop.proofs.members.value.Goals as goal

pub returns-in-Some-clause-value : goal.returns-in-Some-clause-value
returns-in-Some-clause-value c =
    let operands = operands_at (access_at c.args.index.now) (point_of c.args.local.now.local) in
    let found : slice_get c.args.code.now.exprs c.args.expr ≡ Some c.in-Some.words.now = search rules in
    ap (λ o. and_then (value_of operands) (read o)) found
    ∙ (ap (value_of operands) (sym c.as_slice.ensures) ∙ c.value_here.ensures.value)
