-- The operators of an expression make one test for each remap read, and so no more than it has nodes.
use Rattle.std.proofs.Common.{◌≡◌, refl, arith, ℕ, ◌+◌, ◌≤◌, List, [], ◌∷◌, ℤ, Option, Some, None}
use Rattle.std.specs.Prelude.{sum_by}
use Rattle.std.proofs.lemmas.List.Sums.{sum_by-cons}
use Rattle.zpl_nums.specs.declared.operators.Op.{Op}
use Rattle.zpl_tree.specs.Syntax.{Name, Expr, Number, Truth, Coord, Named, Shifted, Around, Remap, Call, Paren, Neg, Not, Abs, Pair, Reduce, Scan, Flood, NoBracket, Bracketed, Exprs, NoExpr, ThenExpr, Item, Str, Value}
use Rattle.zpl_names.specs.Counts.{expr_nodes, exprs_nodes, item_nodes}
use Rattle.zpl_names.specs.Kinds.{Rank}
use Rattle.zpl_names.specs.Ranks.{operand_rank}
use Rattle.zpl_names.specs.Sites.{Printed}
use Rattle.zpl_meaning.specs.Points.{assigned_expr}
use Rattle.zpl_meaning.specs.Regions.{vector_in}
use Rattle.zpl_meaning.specs.Store.{Thing, Scalar, ArrayAt, Fixed, thing_of}
use Rattle.print_runs.specs.of_zpl_lowering.Where.{Slotted, Where, Next, slotted_at}
use Rattle.print_runs.specs.of_zpl_lowering.Slate as slate
use Rattle.print_runs.specs.of_zpl_lowering.Slate.{Slates, around_slate, named_slate, of_opened, opened_source, remap_slate, settled, settled_all, settled_each, shifted_slate, source_of, source_rank, under_source}
use Rattle.print_runs.specs.of_zpl_lowering.Statement.{placed_in, printed_exprs}
use Rattle.operator_runs.specs.Hoists.{tests_of, tests_of_all}

named_still : (over : Slotted) (thing : Option Thing) → tests_of (named_slate over thing) ≡ 0
named_still over (Some (Scalar place)) = refl
named_still over (Some (Fixed value)) = refl
named_still over (Some (ArrayAt place home)) = refl
named_still over None = refl

shifted_still : (over : Slotted) (shift : List ℤ) (thing : Option Thing)
    → tests_of (shifted_slate over shift thing) ≡ 0
shifted_still over shift (Some (Scalar place)) = refl
shifted_still over shift (Some (Fixed value)) = refl
shifted_still over shift (Some (ArrayAt place home)) = refl
shifted_still over shift None = refl

around_still : (next : Next) (over : Slotted) (shift : List ℤ) (thing : Option Thing)
    → tests_of (around_slate next over shift thing).slate ≡ 0
around_still next over shift (Some (Scalar place)) = refl
around_still next over shift (Some (Fixed value)) = refl
around_still next over shift (Some (ArrayAt place home)) = refl
around_still next over shift None = refl

remap_few : (over : Slotted) (thing : Option Thing) (indices : Slates) (nodes : ℕ)
    → tests_of_all indices ≤ nodes → tests_of (remap_slate over thing indices) ≤ 1 + nodes
remap_few over (Some (Scalar place)) indices nodes le = omega arith
remap_few over (Some (Fixed value)) indices nodes le = omega arith
remap_few over (Some (ArrayAt place home)) indices nodes le = omega (arith, le)
remap_few over None indices nodes le = omega arith

mutual
  pub tests_few : (expr : Expr) (w : Where) (line : ℕ) (free : Next) (rank : Rank)
      → tests_of (settled w line free rank expr).slate ≤ expr_nodes expr
  tests_few (Number at value) w line free rank = omega arith
  tests_few (Truth at value) w line free rank = omega arith
  tests_few (Coord at k) w line free rank = omega arith
  tests_few (Named at name) w line free rank =
      let e = named_still (slotted_at w.currents rank) (thing_of w.environment name.text) in
      omega (arith, e)
  tests_few (Shifted at name shift) w line free rank =
      let e = shifted_still (slotted_at w.currents rank) (vector_in w.setup.known shift)
      (thing_of w.environment name.text) in
      omega (arith, e)
  tests_few (Around at name shift) w line free rank =
      let e = around_still free (slotted_at w.currents rank) (vector_in w.setup.known shift)
      (thing_of w.environment name.text) in
      omega (arith, e)
  tests_few (Remap at name indices) w line free rank =
      remap_few (slotted_at w.currents rank) (thing_of w.environment name.text)
      (settled_all w line free rank indices).slate (exprs_nodes indices)
      (all_few indices w line free rank)
  tests_few (Call at name actuals) w line free rank = omega arith
  tests_few (Paren at inside) w line free rank =
      let h = tests_few inside w line free rank in omega (arith, h)
  tests_few (Neg at operand) w line free rank =
      let h = tests_few operand w line free rank in omega (arith, h)
  tests_few (Not at operand) w line free rank =
      let h = tests_few operand w line free rank in omega (arith, h)
  tests_few (Abs at operand) w line free rank =
      let h = tests_few operand w line free rank in omega (arith, h)
  tests_few (Pair at op left right) w line free rank =
      let h = tests_few left w line free rank in
      let k = tests_few right w line (slate.behind free (settled w line free rank left)) rank in
      omega (arith, h, k)
  tests_few (Reduce at operator NoBracket operand) w line free rank =
      let h = tests_few operand w line free (operand_rank w.scope w.prefix operand) in
      omega (arith, h)
  tests_few (Reduce at operator (Bracketed source) operand) w line free rank =
      let over = source_rank w source operand in
      let opened = opened_source w free line source operand in
      let h = tests_few operand (under_source w over (source_of opened)) line
      (slate.behind free (of_opened opened)) over in
      omega (arith, h)
  tests_few (Scan at operator along operand) w line free rank =
      let h = tests_few operand w line free rank in omega (arith, h)
  tests_few (Flood at source operand) w line free rank =
      let over = source_rank w source operand in
      let opened = opened_source w free line source operand in
      let h = tests_few operand (under_source w over (source_of opened)) line
      (slate.behind free (of_opened opened)) over in
      omega (arith, h)

  all_few : (exprs : Exprs) (w : Where) (line : ℕ) (free : Next) (rank : Rank)
      → tests_of_all (settled_all w line free rank exprs).slate ≤ exprs_nodes exprs
  all_few NoExpr w line free rank = omega arith
  all_few (ThenExpr first rest) w line free rank =
      let h = tests_few first w line free rank in
      let k = all_few rest w line (slate.behind free (settled w line free rank first)) rank in
      omega (arith, h, k)

-- ---- of statements

-- an operator of an assignment adds none
pub assigned_few : (name : Name) (op : Option Op) (value : Expr) (w : Where) (line : ℕ) (free : Next)
    (rank : Rank)
    → tests_of (settled w line free rank (assigned_expr name op value)).slate ≤ expr_nodes value
assigned_few name None value w line free rank = tests_few value w line free rank
assigned_few name (Some op) value w line free rank =
    let e = named_still (slotted_at w.currents rank) (thing_of w.environment name.text) in
    let h = tests_few value w line
    (slate.behind free (settled w line free rank (Named name.at name))) rank in
    omega (arith, e, h)

pub printed_few : (items : List Item) (w : Where) (line : ℕ) (free : Next)
    → tests_of_all (settled_each w line free (printed_exprs w items)).slate
    ≤ sum_by item_nodes items
printed_few [] w line free = omega arith
printed_few (Str bytes ∷ items) w line free =
    let h = printed_few items w line free in
    let e = sum_by-cons item_nodes (Str bytes) items in
    omega (arith, h, e)
printed_few (Value expr ∷ items) w line free =
    let placed = placed_in w Printed expr in
    let h = tests_few expr w line free placed.rank in
    let k = printed_few items w line
    (slate.behind free (settled w line free placed.rank expr)) in
    let e = sum_by-cons item_nodes (Value expr) items in
    omega (arith, h, k, e)
