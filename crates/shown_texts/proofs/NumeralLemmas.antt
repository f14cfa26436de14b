-- Where the words of a tree have small numbers, so has the tree.
use Rattle.std.proofs.Common.{true, false, ℤ, List, [], ◌∷◌, ◌++◌, Option, Some, None, if◌then◌else◌}
use Rattle.std.specs.List.{AllByRecursion, flat_map}
use Rattle.zpl_nums.specs.declared.operators.Op.{Op}
use Rattle.zpl_nums.specs.declared.operators.Op.TheVariants as op
use Rattle.zpl_tokens.specs.declared.keywords.Key.TheVariants as key
use Rattle.zpl_tokens.specs.declared.symbols.Sym.TheVariants as sym
use Rattle.zpl_tree.specs.Spelling.{symbol, keyword, number, name_words, in_round, in_square, fold_words, operator_words, pair_words, pre_words, base_words, along_words, expr_words, exprs_words, more_exprs, dir_words, inner_words, bracket_words, posts_words, dim_words, dims_words, more_dims, each_after, separated, names_words, mask_words, prefix_words, assign_words, step_words, head_words, item_words, items_words, end_words, stmt_words, stmts_words, form_words, arms_words, arm_words, more_arms, otherwise_words, type_words, define_words, region_words, direction_words, var_words, param_words, params_words, result_words, locals_words, heading_words, procedure_words, decl_words, before_end, program_words}
use Rattle.zpl_tree.specs.Syntax.{Expr, Number, Truth, Coord, Named, Shifted, Around, Remap, Call, Paren, Neg, Not, Abs, Pair, Reduce, Scan, Flood, Exprs, NoExpr, ThenExpr, Dir, NamedDir, Vector, Inner, Rexpr, Dims, Bracket, NoBracket, Bracketed, Posts, NoPost, ThenPost, DimText, Blank, Star, One, Span, DimTexts, NoDim, ThenDim, Prefix, ForHead, Item, Str, Value, Stmt, Prefixed, Stmts, NoStmt, ThenStmt, Form, Assign, Invoke, Block, If, While, Repeat, For, Border, Write, Return, Arm, Tested, Arms, NoArm, ThenArm, Otherwise, NoElse, Else, Define, RegionDef, DirDef, VarDef, Param, Procedure, Decl, Config, Constant, Regions, Directions, Vars, Defined, Program}
use Rattle.zpl_tree.specs.Word.{Word}
use Rattle.shown_texts.specs.Numerals.{IsSmallAlong, IsSmallExpr, AreSmallExprs, IsSmallDir, IsSmallInner, IsSmallBracket, AreSmallPosts, IsSmallDim, AreSmallDims, IsSmallPrefix, IsSmallStep, IsSmallHead, IsSmallItem, IsSmallStmt, AreSmallStmts, IsSmallForm, AreSmallArms, IsSmallArm, IsSmallElse, IsSmallDefine, IsSmallRegion, IsSmallDirection, IsSmallVar, IsSmallParam, IsSmallProcedure, IsSmallDecl, HasSmallNumerals}
use Rattle.shown_texts.proofs.WordLemmas.{AreSmallWords}

front : (xs ys : List Word) → AreSmallWords (xs ++ ys) → AreSmallWords xs
front [] ys small = tt
front (x ∷ xs) ys small = (small.0, front xs ys small.1)

back : (xs ys : List Word) → AreSmallWords (xs ++ ys) → AreSmallWords ys
back [] ys small = small
back (x ∷ xs) ys small = back xs ys small.1

-- what stands in brackets
round : (words : List Word) → AreSmallWords (in_round words) → AreSmallWords words
round words small = back (symbol sym.OpenParen) words
    (front (symbol sym.OpenParen ++ words) (symbol sym.CloseParen) small)

square : (words : List Word) → AreSmallWords (in_square words) → AreSmallWords words
square words small = back (symbol sym.OpenBracket) words
    (front (symbol sym.OpenBracket ++ words) (symbol sym.CloseBracket) small)

-- in rows of several parts: behind two parts, and between two
middle : (xs ys zs : List Word) → AreSmallWords (xs ++ ys ++ zs) → AreSmallWords ys
middle xs ys zs small = back xs ys (front (xs ++ ys) zs small)

each : {A : Type 0} (words : A → List Word) (Is : A → Type 0)
    → ((x : A) → AreSmallWords (words x) → Is x) → (xs : List A)
    → AreSmallWords (flat_map words xs) → AllByRecursion Is xs
each words Is one [] small = tt
each words Is one (x ∷ xs) small = (
  one x (front (words x) (flat_map words xs) small),
  each words Is one xs (back (words x) (flat_map words xs) small),
)

after : {A : Type 0} (separator : List Word) (words : A → List Word) (Is : A → Type 0)
    → ((x : A) → AreSmallWords (words x) → Is x) → (xs : List A)
    → AreSmallWords (each_after separator words xs) → AllByRecursion Is xs
after separator words Is one [] small = tt
after separator words Is one (x ∷ xs) small = (
  one x (middle separator (words x) (each_after separator words xs) small),
  after separator words Is one xs
      (back (separator ++ words x) (each_after separator words xs) small),
)

each_separated : {A : Type 0} (separator : List Word) (words : A → List Word) (Is : A → Type 0)
    → ((x : A) → AreSmallWords (words x) → Is x) → (xs : List A)
    → AreSmallWords (separated separator words xs) → AllByRecursion Is xs
each_separated separator words Is one [] small = tt
each_separated separator words Is one (x ∷ xs) small = (
  one x (front (words x) (each_after separator words xs) small),
  after separator words Is one xs (back (words x) (each_after separator words xs) small),
)

along_small : (along : Option ℤ) → AreSmallWords (along_words along) → IsSmallAlong along
along_small None small = tt
along_small (Some dimension) small = (square (number dimension) small).0

-- both operands
called : (first : List Word) (left right : List Word)
    → AreSmallWords (first ++ in_round (left ++ symbol sym.Comma ++ right))
    → AreSmallWords left × AreSmallWords right
called first left right small =
    let inside = round (left ++ symbol sym.Comma ++ right)
    (back first (in_round (left ++ symbol sym.Comma ++ right)) small) in (
      front left (symbol sym.Comma) (front (left ++ symbol sym.Comma) right inside),
      back (left ++ symbol sym.Comma) right inside,
    )

between : (left operator right : List Word) → AreSmallWords (left ++ operator ++ right)
    → AreSmallWords left × AreSmallWords right
between left operator right small =
    (front left operator (front (left ++ operator) right small), back (left ++ operator) right small)

operands : (o : Op) (left right : List Word) → AreSmallWords (pair_words o left right)
    → AreSmallWords left × AreSmallWords right
operands op.Max left right small = called (keyword key.Max) left right small
operands op.Min left right small = called (keyword key.Min) left right small
operands op.Add left right small = between left (operator_words op.Add) right small
operands op.Sub left right small = between left (operator_words op.Sub) right small
operands op.Mul left right small = between left (operator_words op.Mul) right small
operands op.Div left right small = between left (operator_words op.Div) right small
operands op.Rem left right small = between left (operator_words op.Rem) right small
operands op.Eq left right small = between left (operator_words op.Eq) right small
operands op.Ne left right small = between left (operator_words op.Ne) right small
operands op.Lt left right small = between left (operator_words op.Lt) right small
operands op.Le left right small = between left (operator_words op.Le) right small
operands op.Gt left right small = between left (operator_words op.Gt) right small
operands op.Ge left right small = between left (operator_words op.Ge) right small
operands op.And left right small = between left (operator_words op.And) right small
operands op.Or left right small = between left (operator_words op.Or) right small

mutual
  pub expr_small : (expr : Expr) → AreSmallWords (expr_words expr) → IsSmallExpr expr
  expr_small (Number at value) small = small.0
  expr_small (Truth at value) small = tt
  expr_small (Coord at dimension) small = tt
  expr_small (Named at name) small = tt
  expr_small (Shifted at name shift) small =
      dir_small shift (back (name_words name ++ symbol sym.At) (dir_words shift) small)
  expr_small (Around at name shift) small =
      dir_small shift
      (back (name_words name ++ symbol sym.At ++ symbol sym.Caret) (dir_words shift) small)
  expr_small (Remap at name indices) small =
      exprs_small indices (square (exprs_words indices)
      (back (name_words name ++ symbol sym.Hash) (in_square (exprs_words indices)) small))
  expr_small (Call at name actuals) small =
      exprs_small actuals (round (exprs_words actuals)
      (back (name_words name) (in_round (exprs_words actuals)) small))
  expr_small (Paren at inside) small = expr_small inside (round (expr_words inside) small)
  expr_small (Neg at operand) small =
      expr_small operand (back (symbol sym.Minus) (expr_words operand) small)
  expr_small (Not at operand) small =
      expr_small operand (back (symbol sym.Not) (expr_words operand) small)
  expr_small (Abs at operand) small =
      expr_small operand (round (expr_words operand)
      (back (keyword key.Abs) (in_round (expr_words operand)) small))
  expr_small (Pair at op left right) small =
      let both = operands op (expr_words left) (expr_words right) small in
      (expr_small left both.0, expr_small right both.1)
  expr_small (Reduce at operator over operand) small =
      let first = fold_words operator ++ symbol sym.Reduce in (
        bracket_small over (middle first (bracket_words over) (expr_words operand) small),
        expr_small operand (back (first ++ bracket_words over) (expr_words operand) small),
      )
  expr_small (Scan at operator along operand) small =
      let first = fold_words operator ++ symbol sym.Scan in (
        along_small along (middle first (along_words along) (expr_words operand) small),
        expr_small operand (back (first ++ along_words along) (expr_words operand) small),
      )
  expr_small (Flood at source operand) small =
      let first = symbol sym.Flood in (
        inner_small source (square (inner_words source)
            (middle first (in_square (inner_words source)) (expr_words operand) small)),
        expr_small operand
            (back (first ++ in_square (inner_words source)) (expr_words operand) small),
      )

  exprs_small : (exprs : Exprs) → AreSmallWords (exprs_words exprs) → AreSmallExprs exprs
  exprs_small NoExpr small = tt
  exprs_small (ThenExpr first rest) small = (
    expr_small first (front (expr_words first) (more_exprs rest) small),
    more_small rest (back (expr_words first) (more_exprs rest) small),
  )

  more_small : (exprs : Exprs) → AreSmallWords (more_exprs exprs) → AreSmallExprs exprs
  more_small NoExpr small = tt
  more_small (ThenExpr first rest) small = (
    expr_small first (middle (symbol sym.Comma) (expr_words first) (more_exprs rest) small),
    more_small rest (back (symbol sym.Comma ++ expr_words first) (more_exprs rest) small),
  )

  dir_small : (dir : Dir) → AreSmallWords (dir_words dir) → IsSmallDir dir
  dir_small (NamedDir name) small = tt
  dir_small (Vector parts) small = exprs_small parts (square (exprs_words parts) small)

  inner_small : (inner : Inner) → AreSmallWords (inner_words inner) → IsSmallInner inner
  inner_small (Rexpr pre base post) small =
      posts_small post (back (flat_map pre_words pre ++ base_words base) (posts_words post) small)
  inner_small (Dims dims) small = dims_small dims small

  bracket_small : (bracket : Bracket) → AreSmallWords (bracket_words bracket)
      → IsSmallBracket bracket
  bracket_small NoBracket small = tt
  bracket_small (Bracketed inner) small = inner_small inner (square (inner_words inner) small)

  posts_small : (posts : Posts) → AreSmallWords (posts_words posts) → AreSmallPosts posts
  posts_small NoPost small = tt
  posts_small (ThenPost true dir rest) small = (
    dir_small dir (middle (keyword key.By) (dir_words dir) (posts_words rest) small),
    posts_small rest (back (keyword key.By ++ dir_words dir) (posts_words rest) small),
  )
  posts_small (ThenPost false dir rest) small = (
    dir_small dir (middle (keyword key.At) (dir_words dir) (posts_words rest) small),
    posts_small rest (back (keyword key.At ++ dir_words dir) (posts_words rest) small),
  )

  dim_small : (dim : DimText) → AreSmallWords (dim_words dim) → IsSmallDim dim
  dim_small (Blank at) small = tt
  dim_small (Star at) small = tt
  dim_small (One index) small = expr_small index small
  dim_small (Span low high) small =
      let both = between (expr_words low) (symbol sym.DotDot) (expr_words high) small in
      (expr_small low both.0, expr_small high both.1)

  dims_small : (dims : DimTexts) → AreSmallWords (dims_words dims) → AreSmallDims dims
  dims_small NoDim small = tt
  dims_small (ThenDim first rest) small = (
    dim_small first (front (dim_words first) (more_dims rest) small),
    more_dims_small rest (back (dim_words first) (more_dims rest) small),
  )

  more_dims_small : (dims : DimTexts) → AreSmallWords (more_dims dims) → AreSmallDims dims
  more_dims_small NoDim small = tt
  more_dims_small (ThenDim first rest) small = (
    dim_small first (middle (symbol sym.Comma) (dim_words first) (more_dims rest) small),
    more_dims_small rest (back (symbol sym.Comma ++ dim_words first) (more_dims rest) small),
  )

prefix_small : (prefix : Prefix) → AreSmallWords (prefix_words prefix) → IsSmallPrefix prefix
prefix_small prefix small =
    inner_small prefix.region (front (inner_words prefix.region) (mask_words prefix.mask)
    (square (inner_words prefix.region ++ mask_words prefix.mask) small))

step_small : (step : Option Expr) → AreSmallWords (step_words step) → IsSmallStep step
step_small None small = tt
step_small (Some step) small = expr_small step (back (keyword key.By) (expr_words step) small)

head_small : (head : ForHead) → AreSmallWords (head_words head) → IsSmallHead head
head_small head small =
    let name = name_words head.name ++ symbol sym.Assign in
    let direction = if head.down then keyword key.Downto else keyword key.To in
    let first = expr_words head.first in
    let last = expr_words head.last in
    let step = step_words head.step in
    let before = front (name ++ first ++ direction ++ last) step small in (
      expr_small head.first (back name first (front (name ++ first) direction
          (front (name ++ first ++ direction) last before))),
      expr_small head.last (back (name ++ first ++ direction) last before),
      step_small head.step (back (name ++ first ++ direction ++ last) step small),
    )

item_small : (item : Item) → AreSmallWords (item_words item) → IsSmallItem item
item_small (Str bytes) small = tt
item_small (Value value) small = expr_small value small

mutual
  pub stmt_small : (stmt : Stmt) → AreSmallWords (stmt_words stmt) → IsSmallStmt stmt
  stmt_small (Prefixed at prefixes form) small = (
    each prefix_words IsSmallPrefix prefix_small prefixes
        (front (flat_map prefix_words prefixes) (form_words form) small),
    form_small form (back (flat_map prefix_words prefixes) (form_words form) small),
  )

  stmts_small : (stmts : Stmts) → AreSmallWords (stmts_words stmts) → AreSmallStmts stmts
  stmts_small NoStmt small = tt
  stmts_small (ThenStmt first rest) small = (
    stmt_small first (front (stmt_words first) (stmts_words rest) small),
    stmts_small rest (back (stmt_words first) (stmts_words rest) small),
  )

  form_small : (form : Form) → AreSmallWords (form_words form) → IsSmallForm form
  form_small (Assign name op value) small =
      expr_small value (middle (name_words name ++ assign_words op) (expr_words value)
      (symbol sym.Semicolon) small)
  form_small (Invoke name actuals) small =
      exprs_small actuals (round (exprs_words actuals) (middle (name_words name)
      (in_round (exprs_words actuals)) (symbol sym.Semicolon) small))
  form_small (Block body) small =
      stmts_small body (middle (keyword key.Begin) (stmts_words body) end_words small)
  form_small (If arms otherwise) small =
      let both = front (arms_words arms ++ otherwise_words otherwise) end_words small in (
        arms_small arms (front (arms_words arms) (otherwise_words otherwise) both),
        else_small otherwise (back (arms_words arms) (otherwise_words otherwise) both),
      )
  form_small (While test body) small =
      let first = keyword key.While ++ expr_words test ++ keyword key.Do in
      let both = front (first ++ stmts_words body) end_words small in (
        expr_small test (middle (keyword key.While) (expr_words test) (keyword key.Do)
            (front first (stmts_words body) both)),
        stmts_small body (back first (stmts_words body) both),
      )
  form_small (Repeat body until test) small =
      let first = keyword key.Repeat ++ stmts_words body ++ keyword key.Until in
      let both = front (first ++ expr_words test) (symbol sym.Semicolon) small in (
        stmts_small body (middle (keyword key.Repeat) (stmts_words body) (keyword key.Until)
            (front first (expr_words test) both)),
        expr_small test (back first (expr_words test) both),
      )
  form_small (For head body) small =
      let first = keyword key.For ++ head_words head ++ keyword key.Do in
      let both = front (first ++ stmts_words body) end_words small in (
        head_small head (middle (keyword key.For) (head_words head) (keyword key.Do)
            (front first (stmts_words body) both)),
        stmts_small body (back first (stmts_words body) both),
      )
  form_small (Border kind names) small = tt
  form_small (Write true items) small =
      each_separated (symbol sym.Comma) item_words IsSmallItem item_small items
      (round (items_words items)
      (middle (keyword key.Writeln) (in_round (items_words items)) (symbol sym.Semicolon) small))
  form_small (Write false items) small =
      each_separated (symbol sym.Comma) item_words IsSmallItem item_small items
      (round (items_words items)
      (middle (keyword key.Write) (in_round (items_words items)) (symbol sym.Semicolon) small))
  form_small (Return value) small =
      expr_small value
      (middle (keyword key.Return) (expr_words value) (symbol sym.Semicolon) small)

  arms_small : (arms : Arms) → AreSmallWords (arms_words arms) → AreSmallArms arms
  arms_small NoArm small = tt
  arms_small (ThenArm first rest) small = (
    arm_small first (middle (keyword key.If) (arm_words first) (more_arms rest) small),
    more_arms_small rest (back (keyword key.If ++ arm_words first) (more_arms rest) small),
  )

  arm_small : (arm : Arm) → AreSmallWords (arm_words arm) → IsSmallArm arm
  arm_small (Tested at test body) small =
      let both = between (expr_words test) (keyword key.Then) (stmts_words body) small in
      (expr_small test both.0, stmts_small body both.1)

  more_arms_small : (arms : Arms) → AreSmallWords (more_arms arms) → AreSmallArms arms
  more_arms_small NoArm small = tt
  more_arms_small (ThenArm first rest) small = (
    arm_small first (middle (keyword key.Elsif) (arm_words first) (more_arms rest) small),
    more_arms_small rest (back (keyword key.Elsif ++ arm_words first) (more_arms rest) small),
  )

  else_small : (otherwise : Otherwise) → AreSmallWords (otherwise_words otherwise)
      → IsSmallElse otherwise
  else_small NoElse small = tt
  else_small (Else body) small = stmts_small body (back (keyword key.Else) (stmts_words body) small)

define_small : (define : Define) → AreSmallWords (define_words define) → IsSmallDefine define
define_small define small =
    expr_small define.value (middle (name_words define.name ++ symbol sym.Colon ++
    type_words define.base ++ symbol sym.Equal) (expr_words define.value) (symbol sym.Semicolon)
    small)

region_small : (region : RegionDef) → AreSmallWords (region_words region) → IsSmallRegion region
region_small region small =
    let first = name_words region.name ++ symbol sym.Equal in
    let body = in_square (inner_words region.body) in
    let posts = posts_words region.posts in
    let both = front (first ++ body ++ posts) (symbol sym.Semicolon) small in (
      inner_small region.body (square (inner_words region.body) (middle first body posts both)),
      posts_small region.posts (back (first ++ body) posts both),
    )

direction_small : (direction : DirDef) → AreSmallWords (direction_words direction)
    → IsSmallDirection direction
direction_small direction small =
    exprs_small direction.parts (square (exprs_words direction.parts)
    (middle (name_words direction.name ++ symbol sym.Equal) (in_square
    (exprs_words direction.parts)) (symbol sym.Semicolon) small))

var_small : (var : VarDef) → AreSmallWords (var_words var) → IsSmallVar var
var_small var small =
    let first = names_words var.names ++ symbol sym.Colon in
    bracket_small var.shape (middle first (bracket_words var.shape) (type_words var.base)
    (front (first ++ bracket_words var.shape ++ type_words var.base) (symbol sym.Semicolon) small))

param_small : (param : Param) → AreSmallWords (param_words param) → IsSmallParam param
param_small param small =
    bracket_small param.shape (middle
    ((if param.by_ref then keyword key.Var else []) ++ names_words param.names ++
    symbol sym.Colon) (bracket_words param.shape) (type_words param.base) small)

locals_small : (locals : List VarDef) → AreSmallWords (locals_words locals)
    → AllByRecursion IsSmallVar locals
locals_small [] small = tt
locals_small (first ∷ rest) small =
    each var_words IsSmallVar var_small (first ∷ rest)
    (back (keyword key.Var) (flat_map var_words (first ∷ rest)) small)

procedure_small : (procedure : Procedure) → AreSmallWords (procedure_words procedure)
    → IsSmallProcedure procedure
procedure_small procedure small =
    let heading = heading_words procedure in
    let locals = locals_words procedure.locals in
    let body = stmt_words procedure.body in
    let first = keyword key.Procedure ++ name_words procedure.name in
    let params = params_words procedure.params in
    let result = result_words procedure.result in
    let head = front heading locals (front (heading ++ locals) body small) in (
      each_separated (symbol sym.Semicolon) param_words IsSmallParam param_small procedure.params
          (round params (middle first (in_round params) result
          (front (first ++ in_round params ++ result) (symbol sym.Semicolon) head))),
      locals_small procedure.locals (middle heading locals body small),
      stmt_small procedure.body (back (heading ++ locals) body small),
    )

decl_small : (decl : Decl) → AreSmallWords (decl_words decl) → IsSmallDecl decl
decl_small (Config configs) small =
    each define_words IsSmallDefine define_small configs
    (back (keyword key.Config ++ keyword key.Var) (flat_map define_words configs) small)
decl_small (Constant constants) small =
    each define_words IsSmallDefine define_small constants
    (back (keyword key.Constant) (flat_map define_words constants) small)
decl_small (Regions regions) small =
    each region_words IsSmallRegion region_small regions
    (back (keyword key.Region) (flat_map region_words regions) small)
decl_small (Directions directions) small =
    each direction_words IsSmallDirection direction_small directions
    (back (keyword key.Direction) (flat_map direction_words directions) small)
decl_small (Vars vars) small =
    each var_words IsSmallVar var_small vars
    (back (keyword key.Var) (flat_map var_words vars) small)
decl_small (Defined procedure) small = procedure_small procedure small

pub program_small : (program : Program) → AreSmallWords (program_words program)
    → HasSmallNumerals program
program_small program small =
    each decl_words IsSmallDecl decl_small program.decls
    (back (keyword key.Program ++ name_words program.name ++ symbol sym.Semicolon)
    (flat_map decl_words program.decls) (front (before_end program) _ small))
