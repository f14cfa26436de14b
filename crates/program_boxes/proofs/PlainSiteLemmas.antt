-- Expressions make no calls, in a text without faults.
use Rattle.std.proofs.Common.{◌≡◌, ℕ, Bool, true, false, List, [], ◌∷◌, ◌++◌, map, refl, ◌∙◌, subst, sym, arith, cond}
use Rattle.std.specs.Prelude.{Option, Some, None}
use Rattle.std.specs.Option.{option_to_list}
use Rattle.zpl_tree.specs.Syntax.{Pre, RegionBase, NamedRegion, Ditto, Expr, Number, Truth, Coord, Named, Shifted, Around, Remap, Call, Paren, Neg, Not, Abs, Pair, Reduce, Scan, Flood, Exprs, NoExpr, ThenExpr, Dir, NamedDir, Vector, Inner, Rexpr, Dims, NoBracket, Bracketed, Posts, NoPost, ThenPost, DimText, Blank, Star, One, Span, DimTexts, NoDim, ThenDim, Mask, Prefix}
use Rattle.zpl_names.specs.Kinds.{Rank}
use Rattle.zpl_names.specs.Ranks.{own_rank, inner_rank, is_index, mask_rank}
use Rattle.zpl_names.specs.Sites.{Reach, Role, Actual, Bound, Component, Operand, whole_rank, in_vector, over_source, under_prefix, Site, AtWhole, AtExpr, AtMask, actuals_sites, index_sites, expr_sites, exprs_sites, dir_sites, components_sites, prefixes_sites, region_sites, posts_sites, dims_sites, dim_sites, whole_sites}
use Rattle.zpl_names.specs.Accepted.{HasNoFault}
use Rattle.zpl_meaning.proofs.DepthLemmas.{Each, each_left, each_right}
use Rattle.lowered_flat.proofs.of_lowering_fits.TallyLemmas.{called, calls_append, tally}
use Rattle.lowered_flat.proofs.of_lowering_fits.PointSiteLemmas.{actual_sites, actuals_split}

-- no call is made there
pub record IsPlain (sites : List Site) : Type 0 where
  pub reads : tally (called (λ text. 1)) sites ≡ 0

pub no_sites_plain : IsPlain []
no_sites_plain = record { reads = refl }

pub plain_both : (xs ys : List Site) → IsPlain xs → IsPlain ys → IsPlain (xs ++ ys)
plain_both xs ys first rest = record {
  reads = calls_append (λ text. 1) xs ys ∙ omega (arith, first.reads, rest.reads);
}

index_plain : (reach : Reach) (pre : List Pre) (base : RegionBase) (post : Posts) →
    IsPlain (index_sites reach pre base post)
index_plain reach pre (Ditto at) post = no_sites_plain
index_plain reach pre (NamedRegion name) post = by (is_index reach.scope pre name post)
  where
    by : (b : Bool) → IsPlain (cond b
        (AtWhole reach Bound (Named name.at name) ∷
        AtExpr reach (whole_rank reach Bound (Named name.at name)) (Named name.at name) ∷ []) [])
    by true = record { reads = refl }
    by false = no_sites_plain

no_call : (at : ℕ) → at ∷ [] ≡ [] → ⊥
no_call at is = cc

mutual
  plain_expr : (reach : Reach) → (rank : Rank) (one : Expr) →
      Each HasNoFault (expr_sites reach rank one) → IsPlain (expr_sites reach rank one)
  plain_expr reach rank (Number at value) clean =
      record { reads = refl }
  plain_expr reach rank (Truth at value) clean =
      record { reads = refl }
  plain_expr reach rank (Coord at k) clean = record { reads = refl }
  plain_expr reach rank (Named at name) clean = record { reads = refl }
  plain_expr reach rank (Shifted at name shift) clean =
      let later = dir_plain reach shift clean.1 in
      record { reads = later.reads }
  plain_expr reach rank (Around at name shift) clean =
      let later = dir_plain reach shift clean.1 in
      record { reads = later.reads }
  plain_expr reach rank (Remap at name indices) clean =
      let later = exprs_plain reach rank indices clean.1 in
      record { reads = later.reads }
  plain_expr reach rank (Call at name actuals) clean =
      absurd (no_call name.at clean.0.calls)
  plain_expr reach rank (Paren at inside) clean =
      let later = plain_expr reach rank inside clean.1 in
      record { reads = later.reads }
  plain_expr reach rank (Neg at operand) clean =
      let later = plain_expr reach rank operand clean.1 in
      record { reads = later.reads }
  plain_expr reach rank (Not at operand) clean =
      let later = plain_expr reach rank operand clean.1 in
      record { reads = later.reads }
  plain_expr reach rank (Abs at operand) clean =
      let later = plain_expr reach rank operand clean.1 in
      record { reads = later.reads }
  plain_expr reach rank (Pair at op left right) clean =
      let one = expr_sites reach rank left in
      let other = expr_sites reach rank right in
      let later = plain_both one other
      (plain_expr reach rank left (each_left HasNoFault one other clean.1))
      (plain_expr reach rank right (each_right HasNoFault one other clean.1)) in
      record { reads = later.reads }
  plain_expr reach rank (Reduce at operator NoBracket operand) clean =
      let later = plain_expr reach (whole_rank reach Operand operand) operand clean.1.1 in
      record { reads = later.reads }
  plain_expr reach rank (Reduce at operator (Bracketed source) operand) clean =
      let hint = own_rank reach.scope reach.prefix operand in
      let over = inner_rank reach.scope hint reach.prefix source in
      let one = region_sites reach hint source in
      let other = expr_sites (over_source reach over source) over operand in
      let later = plain_both one other
      (plain_region reach hint source (each_left HasNoFault one other clean.1))
      (plain_expr (over_source reach over source) over operand
      (each_right HasNoFault one other clean.1)) in
      record { reads = later.reads }
  plain_expr reach rank (Scan at operator along operand) clean =
      let later = plain_expr reach rank operand clean.1 in
      record { reads = later.reads }
  plain_expr reach rank (Flood at source operand) clean =
      let hint = own_rank reach.scope reach.prefix operand in
      let over = inner_rank reach.scope hint reach.prefix source in
      let one = region_sites reach hint source in
      let other = expr_sites (over_source reach over source) over operand in
      let later = plain_both one other
      (plain_region reach hint source (each_left HasNoFault one other clean.1))
      (plain_expr (over_source reach over source) over operand
      (each_right HasNoFault one other clean.1)) in
      record { reads = later.reads }

  plain_region : (reach : Reach) → (hint : Rank)
      (inner : Inner) → Each HasNoFault (region_sites reach hint inner) →
      IsPlain (region_sites reach hint inner)
  plain_region reach hint (Rexpr pre base post) clean =
      let one = index_sites reach pre base post in
      let later = plain_both one (posts_sites reach post) (index_plain reach pre base post)
      (posts_plain reach post (each_right HasNoFault one (posts_sites reach post) clean.1)) in
      record { reads = later.reads }
  plain_region reach hint (Dims dims) clean =
      let later = plain_dims reach dims clean.1 in
      record { reads = later.reads }

  plain_dims : (reach : Reach) → (dims : DimTexts) →
      Each HasNoFault (dims_sites reach dims) → IsPlain (dims_sites reach dims)
  plain_dims reach NoDim clean = no_sites_plain
  plain_dims reach (ThenDim first rest) clean =
      plain_both (dim_sites reach first) (dims_sites reach rest)
      (plain_dim reach first
      (each_left HasNoFault (dim_sites reach first) (dims_sites reach rest) clean))
      (plain_dims reach rest
      (each_right HasNoFault (dim_sites reach first) (dims_sites reach rest) clean))

  plain_dim : (reach : Reach) → (one : DimText) →
      Each HasNoFault (dim_sites reach one) → IsPlain (dim_sites reach one)
  plain_dim reach (Blank at) clean = no_sites_plain
  plain_dim reach (Star at) clean = no_sites_plain
  plain_dim reach (One index) clean =
      let later = plain_expr reach (whole_rank reach Bound index) index clean.1 in
      record { reads = later.reads }
  plain_dim reach (Span low high) clean =
      let one = expr_sites reach (whole_rank reach Bound low) low in
      let behind = expr_sites reach (whole_rank reach Bound high) high in
      let second = AtWhole reach Bound high ∷ behind in
      let far = plain_expr reach (whole_rank reach Bound high) high
      (each_right HasNoFault one second clean.1).1 in
      let later = plain_both one second
      (plain_expr reach (whole_rank reach Bound low) low
      (each_left HasNoFault one second clean.1))
      (record { reads = far.reads }) in
      record { reads = later.reads }

  pub posts_plain : (reach : Reach) (posts : Posts) → Each HasNoFault (posts_sites reach posts) →
      IsPlain (posts_sites reach posts)
  posts_plain reach NoPost clean = no_sites_plain
  posts_plain reach (ThenPost stride dir rest) clean =
      plain_both (dir_sites reach dir) (posts_sites reach rest)
      (dir_plain reach dir
      (each_left HasNoFault (dir_sites reach dir) (posts_sites reach rest) clean))
      (posts_plain reach rest
      (each_right HasNoFault (dir_sites reach dir) (posts_sites reach rest) clean))

  pub dir_plain : (reach : Reach) (dir : Dir) → Each HasNoFault (dir_sites reach dir) →
      IsPlain (dir_sites reach dir)
  dir_plain reach (NamedDir name) clean = record { reads = refl }
  dir_plain reach (Vector parts) clean =
      let later = components_plain (in_vector reach) parts clean.1 in
      record { reads = later.reads }

  components_plain : (reach : Reach) → (parts : Exprs) →
      Each HasNoFault (components_sites reach parts) → IsPlain (components_sites reach parts)
  components_plain reach NoExpr clean = no_sites_plain
  components_plain reach (ThenExpr first rest) clean =
      let one = expr_sites reach (whole_rank reach Component first) first in
      let others = components_sites reach rest in
      let later = plain_both one others
      (plain_expr reach (whole_rank reach Component first) first
      (each_left HasNoFault one others clean.1))
      (components_plain reach rest (each_right HasNoFault one others clean.1)) in
      record { reads = later.reads }

  exprs_plain : (reach : Reach) (rank : Rank) (exprs : Exprs) →
      Each HasNoFault (exprs_sites reach rank exprs) → IsPlain (exprs_sites reach rank exprs)
  exprs_plain reach rank NoExpr clean = no_sites_plain
  exprs_plain reach rank (ThenExpr first rest) clean =
      let one = expr_sites reach rank first in
      let others = exprs_sites reach rank rest in
      plain_both one others (plain_expr reach rank first (each_left HasNoFault one others clean))
      (exprs_plain reach rank rest (each_right HasNoFault one others clean))

-- ---- by themselves, and in brackets before statements

pub whole_plain : (reach : Reach) (role : Role) (one : Expr) →
    Each HasNoFault (whole_sites reach role one) → IsPlain (whole_sites reach role one)
whole_plain reach role one clean =
    let later = plain_expr reach (whole_rank reach role one) one clean.1 in
    record { reads = later.reads }

actual_plain : (reach : Reach) (one : Expr) → Each HasNoFault (actual_sites reach one) →
    IsPlain (actual_sites reach one)
actual_plain reach (Named at name) clean = record { reads = refl }
actual_plain reach (Number at value) clean = whole_plain reach Actual (Number at value) clean
actual_plain reach (Truth at value) clean = whole_plain reach Actual (Truth at value) clean
actual_plain reach (Coord at k) clean = whole_plain reach Actual (Coord at k) clean
actual_plain reach (Shifted at name shift) clean = whole_plain reach Actual (Shifted at name shift)
    clean
actual_plain reach (Around at name shift) clean = whole_plain reach Actual (Around at name shift)
    clean
actual_plain reach (Remap at name indices) clean = whole_plain reach Actual (Remap at name indices)
    clean
actual_plain reach (Call at callee actuals) clean = whole_plain reach Actual (Call at callee
    actuals) clean
actual_plain reach (Paren at inside) clean = whole_plain reach Actual (Paren at inside) clean
actual_plain reach (Neg at operand) clean = whole_plain reach Actual (Neg at operand) clean
actual_plain reach (Not at operand) clean = whole_plain reach Actual (Not at operand) clean
actual_plain reach (Abs at operand) clean = whole_plain reach Actual (Abs at operand) clean
actual_plain reach (Pair at operator left right) clean = whole_plain reach Actual (Pair at operator
    left right) clean
actual_plain reach (Reduce at operator over operand) clean = whole_plain reach Actual (Reduce at
    operator over operand) clean
actual_plain reach (Scan at operator along operand) clean = whole_plain reach Actual (Scan at
    operator along operand) clean
actual_plain reach (Flood at source operand) clean = whole_plain reach Actual (Flood at source
    operand) clean

pub actuals_plain : (reach : Reach) (exprs : Exprs) →
    Each HasNoFault (actuals_sites reach exprs) → IsPlain (actuals_sites reach exprs)
actuals_plain reach NoExpr clean = no_sites_plain
actuals_plain reach (ThenExpr first rest) clean =
    let xs = actual_sites reach first in
    let ys = actuals_sites reach rest in
    let split = subst (Each HasNoFault) (actuals_split reach first rest) clean in
    subst IsPlain (sym (actuals_split reach first rest))
    (plain_both xs ys (actual_plain reach first (each_left HasNoFault xs ys split))
    (actuals_plain reach rest (each_right HasNoFault xs ys split)))

mask_plain : (reach : Reach) (prefix : Prefix) (mask : Option Mask) →
    IsPlain (map (AtMask reach prefix) (option_to_list mask))
mask_plain reach prefix None = no_sites_plain
mask_plain reach prefix (Some mask) = record { reads = refl }

pub prefixes_plain : (reach : Reach) (prefixes : List Prefix) →
    Each HasNoFault (prefixes_sites reach prefixes) → IsPlain (prefixes_sites reach prefixes)
prefixes_plain reach [] clean = no_sites_plain
prefixes_plain reach (prefix ∷ rest) clean =
    let hint = mask_rank reach.scope prefix.mask in
    let xs = region_sites reach hint prefix.region in
    let ms = map (AtMask reach prefix) (option_to_list prefix.mask) in
    let ys = prefixes_sites (under_prefix reach prefix) rest in
    let front = each_left HasNoFault (xs ++ ms) ys clean in
    plain_both (xs ++ ms) ys
    (plain_both xs ms (plain_region reach hint prefix.region (each_left HasNoFault xs ms front))
    (mask_plain reach prefix prefix.mask))
    (prefixes_plain (under_prefix reach prefix) rest (each_right HasNoFault (xs ++ ms) ys clean))
