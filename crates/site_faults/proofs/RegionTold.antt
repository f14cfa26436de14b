-- What is told of directions, regions and masks.
use Rattle.std.proofs.Common.{◌≡◌, ℕ, ◌+◌, ◌<◌, ◌≤◌, length, get_or, drop, map, Bool, true, false, not, ◌&&◌, ◌||◌, cond, Some, List, [], ◌∷◌, ◌++◌, refl, sym, ◌∙◌, ap, ap₂, arith}
use Rattle.std.specs.List.{flat_map}
use Rattle.std.proofs.lemmas.List.{drop_all, drop_more}
use Rattle.zpl_tree.specs.View.{dim_of, dims_of, exprs_of, name_of, pre_of}
use Rattle.zpl_tree.specs.declared.expressions.Expr.{Expr as CodeExpr}
use Rattle.zpl_tree.specs.declared.regions.DimText.{DimText as CodeDim}
use Rattle.zpl_tree.specs.declared.regions.Pre.{Pre as CodePre}
use Rattle.zpl_tree.specs.Syntax.{Name, NamedDir, Vector, Exprs, Inner, Rexpr, Dims, DimText, Blank, Star, One, Span, DimTexts, ThenDim, Mask, Posts, Pre, Prefix, RegionBase, NamedRegion, Ditto}
use Rattle.name_kinds.specs.of_zpl_names.Accepted as kind
use Rattle.name_kinds.specs.of_zpl_names.Kinds.{Rank}
use Rattle.name_kinds.specs.of_zpl_names.Ranks.{array_rank, array_shape, at_most_three, dims_count, direction_rank, ditto_rank, is_zero, ranks_clash}
use Rattle.name_kinds.specs.of_zpl_names.Scope.{is_array, is_direction}
use Rattle.name_kinds.specs.of_zpl_names.Shapes.{inner_shape, prefix_rank}
use Rattle.name_kinds.specs.of_zpl_names.Faults.{at_if, base_at, blanks, both_known, dim_at, fourth_dim, fourth_part, is_mask, kind_at, lacks_region, post_clashes, pre_clashes, reaches_beyond, region_rank_in, unknown_base, unless_taken}
use Rattle.name_kinds.specs.of_zpl_names.Sites.{AtDir, AtMask, AtPosts, AtRegion, Reach}
use Rattle.site_faults.specs.Regions.{clashes_behind, is_blank, is_ditto}
use Rattle.site_faults.proofs.FindingLemmas.{at_of-expr, tells-append, tells-same}
use Rattle.site_faults.specs.Findings.{State, after, region_told, tells, text_told, where_reached}

pub named_dir_told : (state : State) (reach : Reach) (name : Name) →
    after state (AtDir reach (NamedDir name)) ≡
    tells kind.UnknownName (at_if (not (is_direction (kind_at reach name))) name.at) state
unfolding after text_told region_told tells
named_dir_told state reach name = refl

pub vector_told : (state : State) (reach : Reach) (parts : Exprs) →
    after state (AtDir reach (Vector parts)) ≡ tells kind.RankClash (fourth_part parts) state
unfolding after text_told region_told tells
vector_told state reach parts = refl

pub posts_told : (state : State) (reach : Reach) (region : Inner) (posts : Posts) →
    after state (AtPosts reach region posts) ≡
    tells kind.RankClash (post_clashes reach (region_rank_in reach (Some 0) region) posts) state
unfolding after text_told region_told tells
posts_told state reach region posts = refl

pub mask_told : (state : State) (reach : Reach) (prefix : Prefix) (mask : Mask) →
    after state (AtMask reach prefix mask) ≡
    tells kind.FloodClash
    (where_reached state.reached
    (at_if
    (both_known reaches_beyond
    (inner_shape reach.scope reach.shapes (prefix_rank reach.scope reach.prefix prefix)
    prefix.region) (array_shape (kind_at reach mask.name))) mask.name.at))
    (tells kind.MaskPlace (at_if (not (is_mask (kind_at reach mask.name))) mask.name.at)
    (tells kind.RankClash
    (at_if (ranks_clash (prefix_rank reach.scope reach.prefix prefix)
    (array_rank (kind_at reach mask.name))) mask.name.at)
    (tells kind.UnknownName (at_if (not (is_array (kind_at reach mask.name))) mask.name.at) state)))
unfolding after text_told region_told tells
mask_told state reach prefix mask = refl

-- ---- regions

pub rexpr_told : (state : State) (reach : Reach) (hint : Rank) (pre : List Pre) (base : RegionBase)
    (post : Posts) →
    after state (AtRegion reach hint (Rexpr pre base post)) ≡
    tells kind.RankUnknown
    (at_if (is_ditto base && is_zero (ditto_rank reach.scope hint reach.prefix pre post))
    (base_at base))
    (tells kind.NoRegion
    (at_if (is_ditto base && (reach.declared ||
    lacks_region reach (region_rank_in reach hint (Rexpr pre base post)))) (base_at base))
    (tells kind.RankClash
    (post_clashes reach (region_rank_in reach hint (Rexpr pre base post)) post)
    (tells kind.RankClash
    (pre_clashes reach (region_rank_in reach hint (Rexpr pre base post)) pre (base_at base))
    (tells kind.UnknownName (unknown_base reach pre base post)
    (tells kind.UnknownName
    (flat_map (λ pre. unless_taken reach is_direction pre.dir) pre) state)))))
unfolding after text_told region_told tells
rexpr_told state reach hint pre (NamedRegion name) post =
    ap (λ mid. tells kind.RankClash
    (pre_clashes reach (region_rank_in reach hint (Rexpr pre (NamedRegion name) post)) pre name.at ++
    post_clashes reach (region_rank_in reach hint (Rexpr pre (NamedRegion name) post)) post) mid)
    (tells-append kind.UnknownName
    (flat_map (λ pre. unless_taken reach is_direction pre.dir) pre)
    (unknown_base reach pre (NamedRegion name) post) state) ∙
    tells-append kind.RankClash
    (pre_clashes reach (region_rank_in reach hint (Rexpr pre (NamedRegion name) post)) pre name.at)
    (post_clashes reach (region_rank_in reach hint (Rexpr pre (NamedRegion name) post)) post)
    (tells kind.UnknownName (unknown_base reach pre (NamedRegion name) post)
    (tells kind.UnknownName
    (flat_map (λ pre. unless_taken reach is_direction pre.dir) pre) state))
rexpr_told state reach hint pre (Ditto at) post =
    ap
    (λ mid. tells kind.RankUnknown
    (at_if (is_zero (ditto_rank reach.scope hint reach.prefix pre post)) at)
    (tells kind.NoRegion
    (at_if (reach.declared ||
    lacks_region reach (region_rank_in reach hint (Rexpr pre (Ditto at) post))) at) mid))
    (ap (λ mid. tells kind.RankClash
    (pre_clashes reach (region_rank_in reach hint (Rexpr pre (Ditto at) post)) pre at ++
    post_clashes reach (region_rank_in reach hint (Rexpr pre (Ditto at) post)) post) mid)
    (tells-append kind.UnknownName
    (flat_map (λ pre. unless_taken reach is_direction pre.dir) pre)
    (unknown_base reach pre (Ditto at) post) state) ∙
    tells-append kind.RankClash
    (pre_clashes reach (region_rank_in reach hint (Rexpr pre (Ditto at) post)) pre at)
    (post_clashes reach (region_rank_in reach hint (Rexpr pre (Ditto at) post)) post)
    (tells kind.UnknownName (unknown_base reach pre (Ditto at) post)
    (tells kind.UnknownName
    (flat_map (λ pre. unless_taken reach is_direction pre.dir) pre) state)))

pub dims_told : (state : State) (reach : Reach) (hint : Rank) (dims : DimTexts) →
    after state (AtRegion reach hint (Dims dims)) ≡
    tells kind.NoRegion
    (cond (reach.declared || lacks_region reach (at_most_three (dims_count dims))) (blanks dims) [])
    (tells kind.RankClash (fourth_dim dims) state)
unfolding after text_told region_told tells
dims_told state reach hint dims = refl

-- ---- parts of regions

pub blanks-step : (lacks : Bool) (dim : CodeDim) (rest : List CodeDim) →
    cond lacks (blanks (dims_of (dim ∷ rest))) [] ≡
    at_if (lacks && is_blank (dim_of dim)) (dim_at (dim_of dim)) ++
    cond lacks (blanks (dims_of rest)) []
blanks-step false dim rest = refl
blanks-step true dim rest = by (dim_of dim)
  where
    by : (dim : DimText) → blanks (ThenDim dim (dims_of rest)) ≡
        at_if (is_blank dim) (dim_at dim) ++ blanks (dims_of rest)
    by (Blank at) = refl
    by (Star at) = refl
    by (One index) = refl
    by (Span low high) = refl

pub blanks-none : (lacks : Bool) → cond lacks (blanks (dims_of [])) [] ≡ []
blanks-none true = refl
blanks-none false = refl

pub fourth_part-long : (parts : List CodeExpr) (d : CodeExpr) → 3 < length parts →
    fourth_part (exprs_of parts) ≡ (get_or parts 3 d).at ∷ []
fourth_part-long [] d h = absurd (omega arith)
fourth_part-long (one ∷ []) d h = absurd (omega arith)
fourth_part-long (one ∷ two ∷ []) d h = absurd (omega arith)
fourth_part-long (one ∷ two ∷ three ∷ []) d h = absurd (omega arith)
fourth_part-long (one ∷ two ∷ three ∷ four ∷ rest) d h = ap (λ at. at ∷ []) (at_of-expr four)

pub fourth_part-short : (parts : List CodeExpr) → length parts ≤ 3 → fourth_part (exprs_of parts) ≡ []
fourth_part-short [] h = refl
fourth_part-short (one ∷ []) h = refl
fourth_part-short (one ∷ two ∷ []) h = refl
fourth_part-short (one ∷ two ∷ three ∷ []) h = refl
fourth_part-short (one ∷ two ∷ three ∷ four ∷ rest) h = absurd (omega arith)

pub fourth_dim-long : (dims : List CodeDim) (d : CodeDim) → 3 < length dims →
    fourth_dim (dims_of dims) ≡ dim_at (dim_of (get_or dims 3 d)) ∷ []
fourth_dim-long [] d h = absurd (omega arith)
fourth_dim-long (one ∷ []) d h = absurd (omega arith)
fourth_dim-long (one ∷ two ∷ []) d h = absurd (omega arith)
fourth_dim-long (one ∷ two ∷ three ∷ []) d h = absurd (omega arith)
fourth_dim-long (one ∷ two ∷ three ∷ four ∷ rest) d h = refl

pub fourth_dim-short : (dims : List CodeDim) → length dims ≤ 3 → fourth_dim (dims_of dims) ≡ []
fourth_dim-short [] h = refl
fourth_dim-short (one ∷ []) h = refl
fourth_dim-short (one ∷ two ∷ []) h = refl
fourth_dim-short (one ∷ two ∷ three ∷ []) h = refl
fourth_dim-short (one ∷ two ∷ three ∷ four ∷ rest) h = absurd (omega arith)

-- ---- directions before a region

clashes-first : (reach : Reach) (rank : Rank) (first : Pre) (rest : List Pre) (base : ℕ) →
    pre_clashes reach rank (first ∷ rest) base ≡
    clashes_behind reach (direction_rank (kind_at reach first.dir)) rank rest base
clashes-first reach rank first [] base = refl
clashes-first reach rank first (next ∷ rest) base =
    ap
    (λ places. at_if (ranks_clash (direction_rank (kind_at reach first.dir)) rank) next.dir.at ++
    places)
    (clashes-first reach rank next rest base)

pub clashes-all : (reach : Reach) (rank : Rank) (pre : List Pre) (base : ℕ) →
    clashes_behind reach (Some 0) rank pre base ≡ pre_clashes reach rank pre base
clashes-all reach rank [] base = refl
clashes-all reach rank (first ∷ rest) base = sym (clashes-first reach rank first rest base)

pub pre-step : (reach : Reach) (before now rank : Rank) (base : ℕ) (clash : Bool) (xs : List CodePre)
    (k : ℕ) (d : CodePre) (old new whole : State) → k < length xs →
    clash ≡ ranks_clash before rank →
    new ≡ tells kind.RankClash (at_if clash (get_or xs k d).dir.at) old →
    now ≡ direction_rank (kind_at reach (name_of (get_or xs k d).dir)) →
    tells kind.RankClash (clashes_behind reach before rank (map pre_of (drop k xs)) base) old ≡ whole
    → tells kind.RankClash (clashes_behind reach now rank (map pre_of (drop (k + 1) xs)) base) new ≡
    whole
pre-step reach before now rank base clash xs k d old new whole less clashes told next invariant =
    let here = get_or xs k d in
    let after = direction_rank (kind_at reach (name_of here.dir)) in
    ap₂
    (λ now new. tells kind.RankClash
    (clashes_behind reach now rank (map pre_of (drop (k + 1) xs)) base) new) next
    (told ∙
    tells-same kind.RankClash clash (ranks_clash before rank) here.dir.at here.dir.at old old
    clashes refl refl) ∙
    sym
    (tells-append kind.RankClash (at_if (ranks_clash before rank) here.dir.at)
    (clashes_behind reach after rank (map pre_of (drop (k + 1) xs)) base) old) ∙
    ap
    (λ rest. tells kind.RankClash (clashes_behind reach before rank (map pre_of rest) base) old)
    (sym (drop_more xs k d less)) ∙ invariant

pub pre-end : (reach : Reach) (before rank : Rank) (base : ℕ) (clash : Bool) (xs : List CodePre)
    (k : ℕ) (old new whole : State) → length xs ≤ k →
    clash ≡ ranks_clash before rank →
    new ≡ tells kind.RankClash (at_if clash base) old →
    tells kind.RankClash (clashes_behind reach before rank (map pre_of (drop k xs)) base) old ≡
    tells kind.RankClash (clashes_behind reach (Some 0) rank (map pre_of xs) base) whole →
    new ≡ tells kind.RankClash (pre_clashes reach rank (map pre_of xs) base) whole
pre-end reach before rank base clash xs k old new whole end clashes told invariant =
    told ∙
    tells-same kind.RankClash clash (ranks_clash before rank) base base old old clashes refl refl ∙
    ap
    (λ rest. tells kind.RankClash (clashes_behind reach before rank (map pre_of rest) base) old)
    (sym (drop_all k xs end)) ∙
    invariant ∙
    ap (λ places. tells kind.RankClash places whole) (clashes-all reach rank (map pre_of xs) base)
