-- How a `for` begins.
use Rattle.std.specs.Prelude.{ℕ, ◌+◌, List, [], ◌∷◌}
use Rattle.zpl_tree.specs.Syntax.{Expr, ForHead}
use Rattle.zpl_names.specs.Sites.{Limit}
use Rattle.zpl_lowering.specs.Lowered.{Lowered, phased}
use Rattle.zpl_lowering.specs.Slate.{Placed}
use Rattle.zpl_lowering.specs.Statement as plain
use Rattle.zpl_lowering.specs.Statement.{head_exprs, placed_in, with_values}
use Rattle.zpl_lowering.specs.Where.{Next, Where}
use Rattle.lower_statements.specs.declared.counters.Counter.{Counter}

abbrev pub counter_of : Counter → plain.Counter
counter_of counter = record { at = counter.at; to = counter.to; by = counter.by }

-- the first value, the last one and the step
abbrev pub limits : Where → Expr → Expr → Expr → List Placed
limits w first last step =
    placed_in w Limit first ∷ placed_in w Limit last ∷ placed_in w Limit step ∷ []

abbrev pub begun_with : Where → ℕ → Next → List Placed → Lowered
begun_with w line next exprs =
    let phases = phased w line next exprs in
    with_values line (next.scalars + phases.lowered.scalars) phases

abbrev pub begun_at : Where → ℕ → Next → ForHead → Lowered
begun_at w line next head = begun_with w line next (head_exprs w head)
