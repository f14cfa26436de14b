-- Regions and directions in the arena, as the definitions see them.
use Rattle.std.proofs.Common.{◌≡◌, suc, ◌-◌, Bool, true, false, List, [], ◌∷◌, map, length, Some, None, slice_get, refl, ◌∙◌, ap, true≢false, arith, cond, leb, ◌==◌}
use borrow.Author.Tests.{leb-true}
use Rattle.zpl_tree.specs.Syntax as plain
use Rattle.zpl_tree.specs.View.{base_of, dims_of, exprs_of, inner_of, name_of, posts_of, pre_of}
use Rattle.zpl_tree.specs.declared.expressions.Expr.{Expr}
use Rattle.zpl_tree.specs.declared.regions.DimText.{DimText}
use Rattle.zpl_tree.specs.declared.regions.Inner.{Inner}
use Rattle.zpl_tree.specs.declared.regions.Inner.TheVariants.{Rexpr as RexprInner}
use Rattle.zpl_tree.specs.declared.regions.Post.{Post}
use Rattle.zpl_tree.specs.declared.regions.Pre.{Pre}
use Rattle.zpl_tree.specs.declared.regions.RegionBase.{RegionBase}
use Rattle.zpl_tree.specs.declared.regions.Rexpr.{Rexpr, out-Rexpr}
use Rattle.zpl_tree.proofs.Views.{rexpr_of-parts}
use Rattle.zpl_names.specs.Kinds.{Rank}
use Rattle.zpl_names.specs.Ranks.{dims_count, direction_rank, exprs_count, inner_rank, is_index, pre_rank}
use Rattle.zpl_names.specs.Scope.{Scope, kind_of}
use Rattle.name_kinds.specs.Region.{HasFewDims}

pub exprs_count-slice : (exprs : List Expr) → exprs_count (exprs_of exprs) ≡ length exprs
exprs_count-slice [] = refl
exprs_count-slice (first ∷ rest) = ap suc (exprs_count-slice rest) ∙ omega arith

pub dims_count-slice : (dims : List DimText) → dims_count (dims_of dims) ≡ length dims
dims_count-slice [] = refl
dims_count-slice (first ∷ rest) = ap suc (dims_count-slice rest) ∙ omega arith

-- a region expression by its parts
pub inner_of-parts : (inner : Inner) (rexpr : Rexpr) (base : RegionBase) →
    inner ≡ RexprInner rexpr → (out-Rexpr rexpr).base ≡ base →
    inner_of inner ≡ plain.Rexpr (map pre_of (out-Rexpr rexpr).pre.now) (base_of base)
    (posts_of (out-Rexpr rexpr).post.now)
inner_of-parts inner rexpr base is based =
    ap inner_of is ∙ rexpr_of-parts rexpr ∙
    ap
    (λ base. plain.Rexpr (map pre_of (out-Rexpr rexpr).pre.now) (base_of base)
    (posts_of (out-Rexpr rexpr).post.now)) based

-- what has something behind it is no index
pub is_index-posts : (scope : Scope) (pre : List plain.Pre) (name : plain.Name) (posts : List Post)
    → (length posts == 0) ≡ false → is_index scope pre name (posts_of posts) ≡ false
is_index-posts scope pre name [] h = absurd (true≢false h)
is_index-posts scope [] name (post ∷ posts) h = refl
is_index-posts scope (one ∷ pre) name (post ∷ posts) h = refl

-- nor is what has something before it
pub is_index-pre : (scope : Scope) (pre : List Pre) (name : plain.Name) (posts : plain.Posts) →
    (length pre == 0) ≡ false → is_index scope (map pre_of pre) name posts ≡ false
is_index-pre scope [] name posts h = absurd (true≢false h)
is_index-pre scope (one ∷ pre) name posts h = refl

pub pre_rank-last : (scope : Scope) (pre : List Pre) (last : Pre) →
    slice_get pre (length pre - 1) ≡ Some last →
    pre_rank scope (map pre_of pre) ≡ direction_rank (kind_of scope (name_of last.dir))
pre_rank-last scope [] last e = let none : None ≡ Some last = e in cc
pre_rank-last scope (one ∷ []) last e =
    let same : one ≡ last = cc in ap (λ pre. direction_rank (kind_of scope (name_of pre.dir))) same
pre_rank-last scope (one ∷ two ∷ pre) last e =
    pre_rank-last scope (two ∷ pre) last (grind arith)

-- where a region has a rank, it has no more than three dimensions
pub few-dims : (scope : Scope) (hint prefix : Rank) (inner : plain.Inner) →
    HasFewDims (inner_rank scope hint prefix inner) inner
few-dims scope hint prefix (plain.Rexpr pre base post) =
    by (inner_rank scope hint prefix (plain.Rexpr pre base post))
  where
    by : (rank : Rank) → HasFewDims rank (plain.Rexpr pre base post)
    by None = tt
    by (Some rank) = tt
few-dims scope hint prefix (plain.Dims dims) = by (leb (dims_count dims) 3) refl
  where
    by : (b : Bool) → leb (dims_count dims) 3 ≡ b →
        HasFewDims (cond b (Some (dims_count dims)) None) (plain.Dims dims)
    by true e = leb-true (dims_count dims) 3 e
    by false e = tt
