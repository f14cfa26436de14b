-- The tree in the arena, seen as plain syntax.
use Rattle.std.specs.Prelude.{ℕ, List, [], ◌∷◌, Option, Some, None, map}
use Rattle.std.specs.Borrow.{Bor}
use Rattle.std.specs.Option.{option_map}
use Rattle.zpl_tree.specs.Syntax as plain
use Rattle.zpl_tree.specs.declared.names.Name.{Name}
use Rattle.zpl_tree.specs.declared.expressions.Expr.{Expr}
use Rattle.zpl_tree.specs.declared.expressions.ExprForm.{ExprForm}
use Rattle.zpl_tree.specs.declared.expressions.ExprForm.TheVariants.{Number, Truth, Coord, Named, Shifted, Around, Remap', Call', Paren', Neg', Not', Abs', Pair', Reduce', Scan', Flood'}
use Rattle.zpl_tree.specs.declared.expressions.ExprForm.TheBlock.{Row_of-Expr, end_of-Expr, more_of-Expr, Row_of-Post, end_of-Post, more_of-Post, Row_of-DimText, end_of-DimText, more_of-DimText, Held-ExprForm-Reduce-1, None', Some'}
use Rattle.zpl_tree.specs.declared.regions.Inner.{Inner}
use Rattle.zpl_tree.specs.declared.regions.Inner.TheVariants.{Rexpr as RexprInner, Dims'}
use Rattle.zpl_tree.specs.declared.regions.Rexpr.{Rexpr, Rexpr'}
use Rattle.zpl_tree.specs.declared.regions.Pre.{Pre}
use Rattle.zpl_tree.specs.declared.regions.RegionBase.{RegionBase}
use Rattle.zpl_tree.specs.declared.regions.RegionBase.TheVariants.{Named as NamedRegion, Ditto}
use Rattle.zpl_tree.specs.declared.regions.Post.{Post}
use Rattle.zpl_tree.specs.declared.regions.Dir.{Dir}
use Rattle.zpl_tree.specs.declared.regions.Dir.TheVariants.{Named as NamedDir, Vector'}
use Rattle.zpl_tree.specs.declared.regions.DimText.{DimText}
use Rattle.zpl_tree.specs.declared.regions.DimText.TheVariants.{Blank, Star, One', Span'}
use Rattle.zpl_tree.specs.declared.statements.Stmt.{Stmt}
use Rattle.zpl_tree.specs.declared.statements.Form.{Form}
use Rattle.zpl_tree.specs.declared.statements.Form.TheVariants.{Assign, Call as Invoke, Block', If', While', Repeat', For', Border, Write, Return}
use Rattle.zpl_tree.specs.declared.statements.Form.TheBlock.{Row_of-Stmt, end_of-Stmt, more_of-Stmt, Row_of-Arm, end_of-Arm, more_of-Arm, Held-Form-If-1, None' as NoElse', Some' as Else'}
use Rattle.zpl_tree.specs.declared.statements.Arm.{Arm, Arm'}
use Rattle.zpl_tree.specs.declared.statements.Prefix.{Prefix}
use Rattle.zpl_tree.specs.declared.statements.Mask.{Mask}
use Rattle.zpl_tree.specs.declared.statements.ForHead.{ForHead}
use Rattle.zpl_tree.specs.declared.statements.Item.{Item}
use Rattle.zpl_tree.specs.declared.statements.Item.TheVariants.{Str, Value}
use Rattle.zpl_tree.specs.declared.declarations.Program.{Program}
use Rattle.zpl_tree.specs.declared.declarations.Decl.{Decl}
use Rattle.zpl_tree.specs.declared.declarations.Decl.TheVariants.{Config, Constant, Regions, Directions, Vars, Procedure as Defined}
use Rattle.zpl_tree.specs.declared.declarations.Define.{Define}
use Rattle.zpl_tree.specs.declared.declarations.RegionDef.{RegionDef}
use Rattle.zpl_tree.specs.declared.declarations.DirDef.{DirDef}
use Rattle.zpl_tree.specs.declared.declarations.VarDef.{VarDef}
use Rattle.zpl_tree.specs.declared.declarations.Base.{Base}
use Rattle.zpl_tree.specs.declared.declarations.Base.TheVariants.{Integer, Boolean, Other}
use Rattle.zpl_tree.specs.declared.declarations.Procedure.{Procedure}
use Rattle.zpl_tree.specs.declared.declarations.Param.{Param}

abbrev pub name_of : Name → plain.Name
name_of name = record { text = name.text.now; at = name.at }

abbrev pub pre_of : Pre → plain.Pre
pre_of pre = record { dir = name_of pre.dir; outside = pre.outside }

abbrev pub base_of : RegionBase → plain.RegionBase
base_of (NamedRegion name) = plain.NamedRegion (name_of name)
base_of (Ditto at) = plain.Ditto at

abbrev mutual
  pub form_of : ℕ → ExprForm → plain.Expr
  form_of at (Number value) = plain.Number at value
  form_of at (Truth value) = plain.Truth at value
  form_of at (Coord dimension) = plain.Coord at dimension
  form_of at (Named name) = plain.Named at (name_of name)
  form_of at (Shifted name shift) = plain.Shifted at (name_of name) (dir_of shift)
  form_of at (Around name shift) = plain.Around at (name_of name) (dir_of shift)
  form_of at (Remap' name p n indices) = plain.Remap at (name_of name) (row_of_exprs indices)
  form_of at (Call' name p n actuals) = plain.Call at (name_of name) (row_of_exprs actuals)
  form_of at (Paren' p inside_at inside) = plain.Paren at (form_of inside_at inside)
  form_of at (Neg' p operand_at operand) = plain.Neg at (form_of operand_at operand)
  form_of at (Not' p operand_at operand) = plain.Not at (form_of operand_at operand)
  form_of at (Abs' p operand_at operand) = plain.Abs at (form_of operand_at operand)
  form_of at (Pair' op p left_at left q right_at right) =
      plain.Pair at op (form_of left_at left) (form_of right_at right)
  form_of at (Reduce' operator over p operand_at operand) =
      plain.Reduce at operator (held_of over) (form_of operand_at operand)
  form_of at (Scan' operator along p operand_at operand) =
      plain.Scan at operator along (form_of operand_at operand)
  form_of at (Flood' source p operand_at operand) =
      plain.Flood at (inner_of source) (form_of operand_at operand)

  pub row_of_exprs : {n : _} → Row_of-Expr n → plain.Exprs
  row_of_exprs end_of-Expr = plain.NoExpr
  row_of_exprs (more_of-Expr at form rest) = plain.ThenExpr (form_of at form) (row_of_exprs rest)

  pub dir_of : Dir → plain.Dir
  dir_of (NamedDir name) = plain.NamedDir (name_of name)
  dir_of (Vector' p n parts) = plain.Vector (row_of_exprs parts)

  pub inner_of : Inner → plain.Inner
  inner_of (RexprInner rexpr) = rexpr_of rexpr
  inner_of (Dims' p n dims) = plain.Dims (row_of_dims dims)

  pub rexpr_of : Rexpr → plain.Inner
  rexpr_of (Rexpr' pre base p n post) =
      plain.Rexpr (map pre_of pre.now) (base_of base) (row_of_posts post)

  pub held_of : Held-ExprForm-Reduce-1 → plain.Bracket
  held_of None' = plain.NoBracket
  held_of (Some' inner) = plain.Bracketed (inner_of inner)

  pub row_of_posts : {n : _} → Row_of-Post n → plain.Posts
  row_of_posts end_of-Post = plain.NoPost
  row_of_posts (more_of-Post stride dir rest) =
      plain.ThenPost stride (dir_of dir) (row_of_posts rest)

  pub dim_of : DimText → plain.DimText
  dim_of (Blank at) = plain.Blank at
  dim_of (Star at) = plain.Star at
  dim_of (One' p index_at index) = plain.One (form_of index_at index)
  dim_of (Span' p low_at low q high_at high) =
      plain.Span (form_of low_at low) (form_of high_at high)

  pub row_of_dims : {n : _} → Row_of-DimText n → plain.DimTexts
  row_of_dims end_of-DimText = plain.NoDim
  row_of_dims (more_of-DimText first rest) = plain.ThenDim (dim_of first) (row_of_dims rest)

abbrev pub expr_of : Expr → plain.Expr
expr_of expr = form_of expr.at expr.form

-- the same of a list, as a slice shows it
abbrev pub exprs_of : List Expr → plain.Exprs
exprs_of [] = plain.NoExpr
exprs_of (first ∷ rest) = plain.ThenExpr (expr_of first) (exprs_of rest)

abbrev pub posts_of : List Post → plain.Posts
posts_of [] = plain.NoPost
posts_of (first ∷ rest) = plain.ThenPost first.stride (dir_of first.dir) (posts_of rest)

abbrev pub dims_of : List DimText → plain.DimTexts
dims_of [] = plain.NoDim
dims_of (first ∷ rest) = plain.ThenDim (dim_of first) (dims_of rest)

abbrev pub bracket_of : Option Inner → plain.Bracket
bracket_of None = plain.NoBracket
bracket_of (Some inner) = plain.Bracketed (inner_of inner)

abbrev pub mask_of : Mask → plain.Mask
mask_of mask = record { name = name_of mask.name; without = mask.without }

abbrev pub prefix_of : Prefix → plain.Prefix
prefix_of prefix =
    record {
      at = prefix.at;
      region = inner_of prefix.region;
      mask =
          option_map mask_of prefix.mask;
    }

abbrev pub head_of : ForHead → plain.ForHead
head_of head = record {
  name = name_of head.name;
  first = expr_of head.first.now;
  down = head.down;
  last = expr_of head.last.now;
  step = option_map (λ step. expr_of step.now) head.step;
}

abbrev pub item_of : Item → plain.Item
item_of (Str bytes) = plain.Str bytes.now
item_of (Value value) = plain.Value (expr_of value.now)

abbrev mutual
  pub statement_of : Form → plain.Form
  statement_of (Assign name op value) = plain.Assign (name_of name) op (expr_of value.now)
  statement_of (Invoke name actuals) = plain.Invoke (name_of name) (exprs_of actuals.now)
  statement_of (Block' p n body) = plain.Block (row_of_stmts body)
  statement_of (If' p n arms otherwise) = plain.If (row_of_arms arms) (otherwise_of otherwise)
  statement_of (While' test p n body) = plain.While (expr_of test.now) (row_of_stmts body)
  statement_of (Repeat' p n body until test) =
      plain.Repeat (row_of_stmts body) until (expr_of test.now)
  statement_of (For' head p n body) = plain.For (head_of head.now) (row_of_stmts body)
  statement_of (Border kind names) = plain.Border kind (map name_of names.now)
  statement_of (Write line items) = plain.Write line (map item_of items.now)
  statement_of (Return value) = plain.Return (expr_of value.now)

  pub row_of_stmts : {n : _} → Row_of-Stmt n → plain.Stmts
  row_of_stmts end_of-Stmt = plain.NoStmt
  row_of_stmts (more_of-Stmt at prefixes form rest) =
      plain.ThenStmt (plain.Prefixed at (map prefix_of prefixes.now) (statement_of form))
      (row_of_stmts rest)

  pub row_of_arms : {n : _} → Row_of-Arm n → plain.Arms
  row_of_arms end_of-Arm = plain.NoArm
  row_of_arms (more_of-Arm first rest) = plain.ThenArm (arm_of first) (row_of_arms rest)

  pub arm_of : Arm → plain.Arm
  arm_of (Arm' at test p n body) = plain.Tested at (expr_of test.now) (row_of_stmts body)

  pub otherwise_of : Held-Form-If-1 → plain.Otherwise
  otherwise_of NoElse' = plain.NoElse
  otherwise_of (Else' p n body) = plain.Else (row_of_stmts body)

abbrev pub stmt_of : Stmt → plain.Stmt
stmt_of stmt = plain.Prefixed stmt.at (map prefix_of stmt.prefixes.now) (statement_of stmt.form)

abbrev pub stmts_of : List Stmt → plain.Stmts
stmts_of [] = plain.NoStmt
stmts_of (first ∷ rest) = plain.ThenStmt (stmt_of first) (stmts_of rest)

abbrev pub arms_of : List Arm → plain.Arms
arms_of [] = plain.NoArm
arms_of (first ∷ rest) = plain.ThenArm (arm_of first) (arms_of rest)

-- the statements behind an `else`, as a slice shows them
abbrev pub else_of : Option (Bor (List Stmt)) → plain.Otherwise
else_of None = plain.NoElse
else_of (Some body) = plain.Else (stmts_of body.now)

abbrev pub base_type_of : Base → plain.Base
base_type_of Integer = plain.Integer
base_type_of Boolean = plain.Boolean
base_type_of (Other name) = plain.Other (name_of name)

abbrev pub define_of : Define → plain.Define
define_of define =
    record {
      name = name_of define.name;
      base = base_type_of define.base;
      value =
          expr_of define.value.now;
    }

abbrev pub region_of : RegionDef → plain.RegionDef
region_of region =
    record {
      name = name_of region.name;
      body = inner_of region.body;
      posts =
          posts_of region.posts.now;
    }

abbrev pub direction_of : DirDef → plain.DirDef
direction_of direction = record {
  name = name_of direction.name;
  parts =
      exprs_of direction.parts.now;
}

abbrev pub var_of : VarDef → plain.VarDef
var_of var = record {
  names = map name_of var.names.now;
  shape = bracket_of var.shape;
  base = base_type_of var.base;
}

abbrev pub param_of : Param → plain.Param
param_of param = record {
  by_ref = param.by_ref;
  names = map name_of param.names.now;
  shape = bracket_of param.shape;
  base = base_type_of param.base;
}

abbrev pub procedure_of : Procedure → plain.Procedure
procedure_of procedure = record {
  name = name_of procedure.name;
  params = map param_of procedure.params.now;
  result = option_map base_type_of procedure.result;
  locals = map var_of procedure.locals.now;
  body = stmt_of procedure.body;
}

abbrev pub decl_of : Decl → plain.Decl
decl_of (Config defines) = plain.Config (map define_of defines.now)
decl_of (Constant defines) = plain.Constant (map define_of defines.now)
decl_of (Regions regions) = plain.Regions (map region_of regions.now)
decl_of (Directions directions) = plain.Directions (map direction_of directions.now)
decl_of (Vars vars) = plain.Vars (map var_of vars.now)
decl_of (Defined procedure) = plain.Defined (procedure_of procedure.now)

-- the whole program
abbrev pub syntax_of : Program → plain.Program
syntax_of program =
    record {
      name = name_of program.name;
      decls = map decl_of program.decls.now;
      source =
          program.source.now;
    }
