-- How a tree's slices are seen as plain lists.
use Rattle.std.proofs.Common.{◌≡◌, ℕ, List, Option, Some, None, map, Bor, refl, sym, ap, ◌∙◌}
use Rattle.zpl_tree.specs.View.{name_of, inner_of, rexpr_of, pre_of, base_of, row_of_exprs, exprs_of, form_of, row_of_posts, posts_of, dir_of, row_of_dims, dims_of, dim_of, row_of_stmts, stmts_of, statement_of, prefix_of, row_of_arms, arms_of, arm_of, else_of, expr_of, head_of}
use Rattle.zpl_tree.specs.Syntax as plain
use Rattle.zpl_tree.specs.declared.names.Name.{Name}
use Rattle.zpl_tree.specs.declared.expressions.Expr.{Expr}
use Rattle.zpl_tree.specs.declared.expressions.ExprForm.{ExprForm}
use Rattle.zpl_tree.specs.declared.expressions.ExprForm.TheVariants.{Number, Truth, Coord, Named, Shifted, Around, Remap, Remap', Call, Call', Paren', Neg', Not', Abs', Pair', Reduce', Scan', Flood'}
use Rattle.zpl_tree.specs.declared.regions.Dir.TheVariants.{Vector}
use Rattle.zpl_tree.specs.declared.regions.Inner.TheVariants.{Dims}
use Rattle.zpl_tree.specs.declared.regions.Rexpr.{Rexpr, Rexpr', out-Rexpr, roll-Rexpr}
use Rattle.zpl_tree.specs.declared.expressions.ExprForm.TheBlock.{Row_of-Expr, end_of-Expr, more_of-Expr, items-the_row-Expr, items_hidden-the_row-Expr-0, hidden-the_row-Expr-0, Row_of-DimText, end_of-DimText, more_of-DimText, items-the_row-DimText, items_hidden-the_row-DimText-1, hidden-the_row-DimText-1, Row_of-Post, end_of-Post, more_of-Post, items-the_row-Post, items_hidden-the_row-Post-2, items_shown-the_row-Post-2, hidden-the_row-Post-2, shown-the_row-Post-2}
use Rattle.zpl_tree.specs.declared.regions.DimText.{DimText}
use Rattle.zpl_tree.specs.declared.regions.Pre.{Pre}
use Rattle.zpl_tree.specs.declared.regions.RegionBase.{RegionBase}
use Rattle.zpl_tree.specs.declared.regions.Post.{Post}
use Rattle.zpl_tree.specs.declared.statements.Stmt.{Stmt}
use Rattle.zpl_tree.specs.declared.statements.Arm.{Arm, Arm', out-Arm, roll-Arm}
use Rattle.zpl_tree.specs.declared.statements.ForHead.{ForHead}
use Rattle.zpl_tree.specs.declared.statements.Form.TheVariants.{Block, If, While, Repeat, For}
use Rattle.zpl_tree.specs.declared.statements.Form.TheBlock.{Row_of-Stmt, end_of-Stmt, more_of-Stmt, items-the_row-Stmt, items_hidden-the_row-Stmt-0, hidden-the_row-Stmt-0, items_shown-the_row-Stmt-0, shown-the_row-Stmt-0, Row_of-Arm, end_of-Arm, more_of-Arm, items-the_row-Arm, items_hidden-the_row-Arm-1, hidden-the_row-Arm-1}

exprs_of_row : (n : _) (row : Row_of-Expr n) → row_of_exprs row
    ≡ exprs_of (items-the_row-Expr n row)
exprs_of_row n end_of-Expr = refl
exprs_of_row n (more_of-Expr at form rest) =
    ap (plain.ThenExpr (form_of at form)) (exprs_of_row _ rest)

posts_of_row : (n : _) (row : Row_of-Post n) → row_of_posts row
    ≡ posts_of (items-the_row-Post n row)
posts_of_row n end_of-Post = refl
posts_of_row n (more_of-Post stride dir rest) =
    ap (plain.ThenPost stride (dir_of dir)) (posts_of_row _ rest)

dims_of_row : (n : _) (row : Row_of-DimText n) → row_of_dims row
    ≡ dims_of (items-the_row-DimText n row)
dims_of_row n end_of-DimText = refl
dims_of_row n (more_of-DimText first rest) = ap (plain.ThenDim (dim_of first)) (dims_of_row _ rest)

stmts_of_row : (n : _) (row : Row_of-Stmt n) → row_of_stmts row
    ≡ stmts_of (items-the_row-Stmt n row)
stmts_of_row n end_of-Stmt = refl
stmts_of_row n (more_of-Stmt at prefixes form rest) =
    ap (plain.ThenStmt (plain.Prefixed at (map prefix_of prefixes.now) (statement_of form)))
    (stmts_of_row _ rest)

arms_of_row : (n : _) (row : Row_of-Arm n) → row_of_arms row ≡ arms_of (items-the_row-Arm n row)
arms_of_row n end_of-Arm = refl
arms_of_row n (more_of-Arm first rest) = ap (plain.ThenArm (arm_of first)) (arms_of_row _ rest)

-- a slice in a node, as the list that it is
pub exprs_of_slice : (exprs : List Expr) → row_of_exprs (hidden-the_row-Expr-0 exprs)
    ≡ exprs_of exprs
exprs_of_slice exprs =
    exprs_of_row _ (hidden-the_row-Expr-0 exprs) ∙ ap exprs_of (items_hidden-the_row-Expr-0 exprs)

pub posts_of_slice : (posts : List Post) → row_of_posts (hidden-the_row-Post-2 posts)
    ≡ posts_of posts
posts_of_slice posts =
    posts_of_row _ (hidden-the_row-Post-2 posts) ∙ ap posts_of (items_hidden-the_row-Post-2 posts)

pub dims_of_slice : (dims : List DimText) → row_of_dims (hidden-the_row-DimText-1 dims)
    ≡ dims_of dims
dims_of_slice dims =
    dims_of_row _ (hidden-the_row-DimText-1 dims) ∙ ap dims_of (items_hidden-the_row-DimText-1 dims)

pub stmts_of_slice : (stmts : List Stmt) → row_of_stmts (hidden-the_row-Stmt-0 stmts)
    ≡ stmts_of stmts
stmts_of_slice stmts =
    stmts_of_row _ (hidden-the_row-Stmt-0 stmts) ∙ ap stmts_of (items_hidden-the_row-Stmt-0 stmts)

pub arms_of_slice : (arms : List Arm) → row_of_arms (hidden-the_row-Arm-1 arms) ≡ arms_of arms
arms_of_slice arms = arms_of_row _ (hidden-the_row-Arm-1 arms)
    ∙ ap arms_of (items_hidden-the_row-Arm-1 arms)

-- what a node with a slice is seen as
pub form_of-Call : (at : ℕ) (name : Name) (actuals : Bor (List Expr)) →
    form_of at (Call name actuals) ≡ plain.Call at (name_of name) (exprs_of actuals.now)
form_of-Call at name actuals = ap (plain.Call at (name_of name)) (exprs_of_slice actuals.now)

pub form_of-Remap : (at : ℕ) (name : Name) (indices : Bor (List Expr)) →
    form_of at (Remap name indices) ≡ plain.Remap at (name_of name) (exprs_of indices.now)
form_of-Remap at name indices = ap (plain.Remap at (name_of name)) (exprs_of_slice indices.now)

pub dir_of-Vector : (parts : Bor (List Expr)) → dir_of (Vector parts)
    ≡ plain.Vector (exprs_of parts.now)
dir_of-Vector parts = ap plain.Vector (exprs_of_slice parts.now)

pub inner_of-Dims : (dims : Bor (List DimText)) → inner_of (Dims dims)
    ≡ plain.Dims (dims_of dims.now)
inner_of-Dims dims = ap plain.Dims (dims_of_slice dims.now)

pub rexpr_of-parts : (rexpr : Rexpr) →
    rexpr_of rexpr
    ≡ plain.Rexpr (map pre_of (out-Rexpr rexpr).pre.now) (base_of (out-Rexpr rexpr).base)
    (posts_of (out-Rexpr rexpr).post.now)
unfolding out-Rexpr shown-the_row-Post-2 denote.Hole.Carrier.out
rexpr_of-parts (Rexpr' pre base p n post) =
    ap (plain.Rexpr (map pre_of pre.now) (base_of base)) (posts_of_row _ post
    ∙ ap posts_of (sym (items_shown-the_row-Post-2 n post)))

pub arm_of-parts : (arm : Arm) →
    arm_of arm ≡ plain.Tested (out-Arm arm).at (expr_of (out-Arm arm).test.now)
    (stmts_of (out-Arm arm).body.now)
unfolding out-Arm shown-the_row-Stmt-0 denote.Hole.Carrier.out
arm_of-parts (Arm' at test p n body) =
    ap (plain.Tested at (expr_of test.now)) (stmts_of_row _ body
    ∙ ap stmts_of (sym (items_shown-the_row-Stmt-0 n body)))

-- the parts of a region expression or an arm that is made of them
pub rexpr_of-made : (pre : Bor (List Pre)) (base : RegionBase) (post : Bor (List Post)) →
    rexpr_of (roll-Rexpr (record { pre = pre; base = base; post = post }))
    ≡ plain.Rexpr (map pre_of pre.now) (base_of base) (posts_of post.now)
unfolding roll-Rexpr denote.Hole.Carrier.roll
rexpr_of-made pre base post =
    ap (plain.Rexpr (map pre_of pre.now) (base_of base)) (posts_of_slice post.now)

pub arm_of-made : (at : ℕ) (test : Bor Expr) (body : Bor (List Stmt)) →
    arm_of (roll-Arm (record { at = at; test = test; body = body }))
    ≡ plain.Tested at (expr_of test.now) (stmts_of body.now)
unfolding roll-Arm denote.Hole.Carrier.roll
arm_of-made at test body = ap (plain.Tested at (expr_of test.now)) (stmts_of_slice body.now)

pub statement_of-Block : (body : Bor (List Stmt)) → statement_of (Block body)
    ≡ plain.Block (stmts_of body.now)
statement_of-Block body = ap plain.Block (stmts_of_slice body.now)

pub statement_of-While : (test : Bor Expr) (body : Bor (List Stmt)) →
    statement_of (While test body) ≡ plain.While (expr_of test.now) (stmts_of body.now)
statement_of-While test body = ap (plain.While (expr_of test.now)) (stmts_of_slice body.now)

pub statement_of-Repeat : (body : Bor (List Stmt)) (until : ℕ) (test : Bor Expr) →
    statement_of (Repeat body until test)
    ≡ plain.Repeat (stmts_of body.now) until (expr_of test.now)
statement_of-Repeat body until test =
    ap (λ stmts. plain.Repeat stmts until (expr_of test.now)) (stmts_of_slice body.now)

pub statement_of-For : (head : Bor ForHead) (body : Bor (List Stmt)) →
    statement_of (For head body) ≡ plain.For (head_of head.now) (stmts_of body.now)
statement_of-For head body = ap (plain.For (head_of head.now)) (stmts_of_slice body.now)

pub statement_of-If : (arms : Bor (List Arm)) → statement_of (If arms None)
    ≡ plain.If (arms_of arms.now) plain.NoElse
statement_of-If arms = ap (λ seen. plain.If seen plain.NoElse) (arms_of_slice arms.now)

pub statement_of-If_else : (arms : Bor (List Arm)) (body : Bor (List Stmt)) →
    statement_of (If arms (Some body))
    ≡ plain.If (arms_of arms.now) (plain.Else (stmts_of body.now))
statement_of-If_else arms body =
    ap (λ seen. plain.If seen (plain.Else (row_of_stmts (hidden-the_row-Stmt-0 body.now))))
    (arms_of_slice arms.now)
    ∙ ap (λ stmts. plain.If (arms_of arms.now) (plain.Else stmts)) (stmts_of_slice body.now)

pub statement_of-Choice : (arms : Bor (List Arm)) (otherwise : Option (Bor (List Stmt))) →
    statement_of (If arms otherwise) ≡ plain.If (arms_of arms.now) (else_of otherwise)
statement_of-Choice arms None = statement_of-If arms
statement_of-Choice arms (Some body) = statement_of-If_else arms body

-- the offset of an expression in the arena is that of its plain tree
pub at_of-form : (at : ℕ) (form : ExprForm) → plain.at_of (form_of at form) ≡ at
at_of-form at (Number value) = refl
at_of-form at (Truth value) = refl
at_of-form at (Coord dimension) = refl
at_of-form at (Named name) = refl
at_of-form at (Shifted name shift) = refl
at_of-form at (Around name shift) = refl
at_of-form at (Remap' name p n indices) = refl
at_of-form at (Call' name p n actuals) = refl
at_of-form at (Paren' p inside_at inside) = refl
at_of-form at (Neg' p operand_at operand) = refl
at_of-form at (Not' p operand_at operand) = refl
at_of-form at (Abs' p operand_at operand) = refl
at_of-form at (Pair' op p left_at left q right_at right) = refl
at_of-form at (Reduce' operator over p operand_at operand) = refl
at_of-form at (Scan' operator along p operand_at operand) = refl
at_of-form at (Flood' source p operand_at operand) = refl
