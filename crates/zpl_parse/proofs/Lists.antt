-- How lists of the tree are made of their parts, one by one.
use Rattle.std.proofs.Common.{◌≡◌, List, [], ◌∷◌, ◌++◌, map, max, refl, ap, arith}
use Rattle.zpl_tree.specs.Syntax as plain
use Rattle.zpl_tree.specs.View.{pre_of, expr_of, exprs_of, dir_of, posts_of, dim_of, dims_of, stmt_of, stmts_of, arm_of, arms_of}
use Rattle.zpl_tree.specs.Depth.{expr_depth, exprs_depth, dir_depth, posts_depth, dim_depth, dims_depth}
use Rattle.zpl_tree.specs.declared.regions.Pre.{Pre}
use Rattle.zpl_tree.specs.declared.regions.Post.{Post}
use Rattle.zpl_tree.specs.declared.regions.DimText.{DimText}
use Rattle.zpl_tree.specs.declared.expressions.Expr.{Expr}
use Rattle.zpl_tree.specs.declared.statements.Stmt.{Stmt}
use Rattle.zpl_tree.specs.declared.statements.Arm.{Arm}
use Rattle.zpl_parse.proofs.Loops.{prepended}

-- one before the others
abbrev pub put_pre : Pre → List plain.Pre × plain.RegionBase → List plain.Pre × plain.RegionBase
put_pre pre others = (pre_of pre ∷ others.0, others.1)

abbrev pub put_expr : Expr → plain.Exprs → plain.Exprs
put_expr expr others = plain.ThenExpr (expr_of expr) others

abbrev pub put_post : Post → plain.Posts → plain.Posts
put_post post others = plain.ThenPost post.stride (dir_of post.dir) others

abbrev pub put_dim : DimText → plain.DimTexts → plain.DimTexts
put_dim dim others = plain.ThenDim (dim_of dim) others

abbrev pub put_stmt : Stmt → plain.Stmts → plain.Stmts
put_stmt stmt others = plain.ThenStmt (stmt_of stmt) others

abbrev pub put_arm : Arm → plain.Arms → plain.Arms
put_arm arm others = plain.ThenArm (arm_of arm) others

pub pre-prepended : (pre : List Pre) (base : plain.RegionBase) → (map pre_of pre, base) ≡ prepended put_pre pre ([], base)
pre-prepended [] base = refl
pre-prepended (x ∷ xs) base = ap (put_pre x) (pre-prepended xs base)

pub exprs-prepended : (exprs : List Expr) → exprs_of exprs ≡ prepended put_expr exprs plain.NoExpr
exprs-prepended [] = refl
exprs-prepended (x ∷ xs) = ap (put_expr x) (exprs-prepended xs)

pub posts-prepended : (posts : List Post) → posts_of posts ≡ prepended put_post posts plain.NoPost
posts-prepended [] = refl
posts-prepended (x ∷ xs) = ap (put_post x) (posts-prepended xs)

pub dims-prepended : (dims : List DimText) → dims_of dims ≡ prepended put_dim dims plain.NoDim
dims-prepended [] = refl
dims-prepended (x ∷ xs) = ap (put_dim x) (dims-prepended xs)

pub stmts-prepended : (stmts : List Stmt) → stmts_of stmts ≡ prepended put_stmt stmts plain.NoStmt
stmts-prepended [] = refl
stmts-prepended (x ∷ xs) = ap (put_stmt x) (stmts-prepended xs)

pub arms-prepended : (arms : List Arm) → arms_of arms ≡ prepended put_arm arms plain.NoArm
arms-prepended [] = refl
arms-prepended (x ∷ xs) = ap (put_arm x) (arms-prepended xs)

pub exprs_depth-append : (xs : List Expr) (x : Expr) → exprs_depth (exprs_of (xs ++ x ∷ [])) ≡ max (expr_depth (expr_of x)) (exprs_depth (exprs_of xs))
exprs_depth-append [] x = omega arith
exprs_depth-append (y ∷ xs) x = omega (arith, exprs_depth-append xs x)

pub posts_depth-append : (xs : List Post) (x : Post) → posts_depth (posts_of (xs ++ x ∷ [])) ≡ max (dir_depth (dir_of x.dir)) (posts_depth (posts_of xs))
posts_depth-append [] x = omega arith
posts_depth-append (y ∷ xs) x = omega (arith, posts_depth-append xs x)

pub dims_depth-append : (xs : List DimText) (x : DimText) → dims_depth (dims_of (xs ++ x ∷ [])) ≡ max (dim_depth (dim_of x)) (dims_depth (dims_of xs))
dims_depth-append [] x = omega arith
dims_depth-append (y ∷ xs) x = omega (arith, dims_depth-append xs x)
