-- How deep a tree is at least, and that its depth is that of its shape.
use Rattle.std.proofs.Common.{◌≡◌, ◌+◌, ◌≤◌, refl, ap, arith}
use Rattle.zpl_tree.specs.Syntax.{Expr, Number, Truth, Coord, Named, Shifted, Around, Remap, Call, Paren, Neg, Not, Abs, Pair, Reduce, Scan, Flood, Exprs, NoExpr, ThenExpr, Dir, NamedDir, Vector, Inner, Rexpr, Dims, Bracket, NoBracket, Bracketed, Posts, NoPost, ThenPost, DimText, Blank, Star, One, Span, DimTexts, NoDim, ThenDim}
use Rattle.zpl_tree.specs.Depth.{expr_depth, exprs_depth, dir_depth, inner_depth, bracket_depth, posts_depth, dim_depth, dims_depth}
use Rattle.zpl_tree.specs.Shape.{expr_shape, exprs_shape, dir_shape, inner_shape, bracket_shape, posts_shape, dim_shape, dims_shape}

-- no expression has depth 0
pub expr_depth-some : (e : Expr) → 1 ≤ expr_depth e
expr_depth-some (Number at value) = omega arith
expr_depth-some (Truth at value) = omega arith
expr_depth-some (Coord at dimension) = omega arith
expr_depth-some (Named at name) = omega arith
expr_depth-some (Shifted at name shift) = omega arith
expr_depth-some (Around at name shift) = omega arith
expr_depth-some (Remap at name indices) = omega arith
expr_depth-some (Call at name actuals) = omega arith
expr_depth-some (Paren at inside) = omega arith
expr_depth-some (Neg at operand) = omega arith
expr_depth-some (Not at operand) = omega arith
expr_depth-some (Abs at operand) = omega arith
expr_depth-some (Pair at op left right) = omega arith
expr_depth-some (Reduce at operator over operand) = omega arith
expr_depth-some (Scan at operator along operand) = omega arith
expr_depth-some (Flood at source operand) = omega arith

mutual
  pub expr_depth_of : (t : Expr) → expr_depth (expr_shape t) ≡ expr_depth t
  expr_depth_of (Number at value) = refl
  expr_depth_of (Truth at value) = refl
  expr_depth_of (Coord at dimension) = refl
  expr_depth_of (Named at name) = refl
  expr_depth_of (Shifted at name shift) = ap (λ n. 1 + n) (dir_depth_of shift)
  expr_depth_of (Around at name shift) = ap (λ n. 1 + n) (dir_depth_of shift)
  expr_depth_of (Remap at name indices) = ap (λ n. 1 + n) (exprs_depth_of indices)
  expr_depth_of (Call at name actuals) = ap (λ n. 1 + n) (exprs_depth_of actuals)
  expr_depth_of (Paren at inside) = ap (λ n. 1 + n) (expr_depth_of inside)
  expr_depth_of (Neg at operand) = ap (λ n. 1 + n) (expr_depth_of operand)
  expr_depth_of (Not at operand) = ap (λ n. 1 + n) (expr_depth_of operand)
  expr_depth_of (Abs at operand) = ap (λ n. 1 + n) (expr_depth_of operand)
  expr_depth_of (Pair at op left right) = rw (expr_depth_of left, expr_depth_of right)
  expr_depth_of (Reduce at operator over operand) = rw (bracket_depth_of over, expr_depth_of operand)
  expr_depth_of (Scan at operator along operand) = ap (λ n. 1 + n) (expr_depth_of operand)
  expr_depth_of (Flood at source operand) = rw (inner_depth_of source, expr_depth_of operand)

  pub exprs_depth_of : (t : Exprs) → exprs_depth (exprs_shape t) ≡ exprs_depth t
  exprs_depth_of NoExpr = refl
  exprs_depth_of (ThenExpr first rest) = rw (expr_depth_of first, exprs_depth_of rest)

  pub dir_depth_of : (t : Dir) → dir_depth (dir_shape t) ≡ dir_depth t
  dir_depth_of (NamedDir name) = refl
  dir_depth_of (Vector parts) = exprs_depth_of parts

  pub inner_depth_of : (t : Inner) → inner_depth (inner_shape t) ≡ inner_depth t
  inner_depth_of (Rexpr pre base post) = posts_depth_of post
  inner_depth_of (Dims dims) = dims_depth_of dims

  pub bracket_depth_of : (t : Bracket) → bracket_depth (bracket_shape t) ≡ bracket_depth t
  bracket_depth_of NoBracket = refl
  bracket_depth_of (Bracketed inner) = inner_depth_of inner

  pub posts_depth_of : (t : Posts) → posts_depth (posts_shape t) ≡ posts_depth t
  posts_depth_of NoPost = refl
  posts_depth_of (ThenPost stride dir rest) = rw (dir_depth_of dir, posts_depth_of rest)

  pub dim_depth_of : (t : DimText) → dim_depth (dim_shape t) ≡ dim_depth t
  dim_depth_of (Blank at) = refl
  dim_depth_of (Star at) = refl
  dim_depth_of (One index) = expr_depth_of index
  dim_depth_of (Span low high) = rw (expr_depth_of low, expr_depth_of high)

  pub dims_depth_of : (t : DimTexts) → dims_depth (dims_shape t) ≡ dims_depth t
  dims_depth_of NoDim = refl
  dims_depth_of (ThenDim first rest) = rw (dim_depth_of first, dims_depth_of rest)
