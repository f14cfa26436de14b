-- What is told of the nodes of expressions.
use Rattle.std.proofs.Common.{◌≡◌, ℕ, ℤ, ◌+◌, ◌<◌, ◌≤◌, length, get_or, drop, Bool, true, false, not, ◌&&◌, ◌||◌, cond, List, [], ◌++◌, Option, Some, refl, sym, ◌∙◌, ap, ap₂}
use Rattle.std.proofs.lemmas.List.{drop_all, drop_more}
use Rattle.name_kinds.specs.of_zpl_nums.declared.operators.Op.{Op}
use Rattle.name_kinds.specs.of_zpl_nums.declared.folds.Fold.{Fold}
use Rattle.name_kinds.specs.of_zpl_nums.declared.folds.Fold.TheVariants as fold
use Rattle.zpl_tree.specs.Syntax.{Name, Dir, Expr, Exprs, Inner, Coord, Named, Shifted, Around, Remap, Not, Pair, Reduce, Scan, Flood, NoBracket, Bracketed, at_of}
use Rattle.zpl_tree.specs.View.{expr_of, exprs_of}
use Rattle.zpl_tree.specs.declared.expressions.Expr.{Expr as CodeExpr}
use Rattle.name_kinds.specs.of_zpl_names.Accepted as kind
use Rattle.name_kinds.specs.of_zpl_names.Kinds.{Rank}
use Rattle.name_kinds.specs.of_zpl_names.Ranks.{array_rank, array_shape, both_ranks, dir_rank, exprs_count, inner_rank, operand_rank, placed_rank, ranks_clash}
use Rattle.name_kinds.specs.of_zpl_names.Scope.{Scope, is_array, is_value}
use Rattle.name_kinds.specs.of_zpl_names.Shapes.{inner_shape}
use Rattle.name_kinds.specs.of_zpl_names.Types.{fold_base, is_boolean, takes_booleans}
use Rattle.name_kinds.specs.of_zpl_names.Faults.{at_if, dir_at, floods_at, has_flood, index_clashes, is_integer_in, is_other_count, is_past, kind_at, lacks_region, no_dimension, own_rank_in, shape_at, source_rank}
use Rattle.name_kinds.specs.of_zpl_names.Sites.{Reach, AtExpr}
use Rattle.name_kinds.specs.Part.{part_of}
use Rattle.name_kinds.proofs.PartLemmas.{part-own}
use Rattle.name_kinds.proofs.RegionLemmas.{exprs_count-slice}
use Rattle.site_faults.specs.Findings.{State, after, region_told, tells, text_told, where_reached}
use Rattle.site_faults.specs.Flood.{is_flood_read}
use Rattle.site_faults.specs.Whole.{fold_takes_booleans}
use Rattle.site_faults.proofs.FindingLemmas.{at_if-both, at_of-expr, tells-append, tells-none, tells-same}
use Rattle.site_faults.proofs.WholeLemmas.{part-integer}

pub coord_told : (state : State) (reach : Reach) (rank : Rank) (at dimension : ℕ) →
    after state (AtExpr reach rank (Coord at dimension)) ≡
    tells kind.FloodClash
    (where_reached state.reached (at_if (floods_at (shape_at reach rank) dimension) at))
    (tells kind.RankClash (at_if (is_past rank dimension) at) state)
unfolding after text_told region_told tells
coord_told state reach rank at dimension = refl

pub named_told : (state : State) (reach : Reach) (rank : Rank) (at : ℕ) (name : Name) →
    after state (AtExpr reach rank (Named at name)) ≡
    tells kind.FloodClash
    (where_reached state.reached (at_if (is_flood_read reach (kind_at reach name)) at))
    (tells kind.UnknownName (at_if (not (is_value (kind_at reach name))) name.at) state)
unfolding after text_told region_told tells
named_told state reach rank at name = refl

pub shifted_told : (state : State) (reach : Reach) (rank : Rank) (at : ℕ) (name : Name) (shift : Dir)
    → after state (AtExpr reach rank (Shifted at name shift)) ≡
    tells kind.FloodClash
    (where_reached state.reached (at_if (is_flood_read reach (kind_at reach name)) at))
    (tells kind.RankClash
    (at_if (ranks_clash (array_rank (kind_at reach name)) (dir_rank reach.scope shift))
    (dir_at shift))
    (tells kind.UnknownName (at_if (not (is_array (kind_at reach name))) name.at) state))
unfolding after text_told region_told tells
shifted_told state reach rank at name shift = refl

pub around_told : (state : State) (reach : Reach) (rank : Rank) (at : ℕ) (name : Name) (shift : Dir)
    → after state (AtExpr reach rank (Around at name shift)) ≡
    after state (AtExpr reach rank (Shifted at name shift))
unfolding after text_told region_told tells
around_told state reach rank at name shift = refl

pub ruleset shifted_rules = (shifted_told, around_told)

pub remap_told : (state : State) (reach : Reach) (rank : Rank) (at : ℕ) (name : Name)
    (indices : Exprs) →
    after state (AtExpr reach rank (Remap at name indices)) ≡
    tells kind.FloodClash
    (where_reached state.reached (at_if (has_flood (array_shape (kind_at reach name)) ||
    has_flood (shape_at reach rank)) at))
    (tells kind.RankClash
    (at_if (is_other_count (array_rank (kind_at reach name)) (exprs_count indices)) at ++
    index_clashes reach (Some 0) indices)
    (tells kind.UnknownName (at_if (not (is_array (kind_at reach name))) name.at) state))
unfolding after text_told region_told tells
remap_told state reach rank at name indices = refl

pub ruleset remap_rules = (remap_told, tells-append, exprs_count-slice)

pub not_is_told : (state : State) (reach : Reach) (rank : Rank) (at : ℕ) (operand : Expr) →
    after state (AtExpr reach rank (Not at operand)) ≡
    tells kind.TypeClash (at_if (is_integer_in reach operand) (at_of operand)) state
unfolding after text_told region_told tells
not_is_told state reach rank at operand = refl

pub ruleset not_told = (not_is_told, part-integer, at_of-expr)

pub pair_is_told : (state : State) (reach : Reach) (rank : Rank) (at : ℕ) (op : Op)
    (left right : Expr) →
    after state (AtExpr reach rank (Pair at op left right)) ≡
    tells kind.RankClash
    (at_if (ranks_clash (own_rank_in reach left) (own_rank_in reach right)) (at_of right))
    (tells kind.TypeClash
    (at_if (takes_booleans op && is_integer_in reach right) (at_of right))
    (tells kind.TypeClash
    (at_if (takes_booleans op && is_integer_in reach left) (at_of left)) state))
unfolding after text_told region_told tells
pair_is_told state reach rank at op left right =
    ap
    (tells kind.RankClash
    (at_if (ranks_clash (own_rank_in reach left) (own_rank_in reach right)) (at_of right)))
    (by (takes_booleans op))
  where
    by : (b : Bool) → tells kind.TypeClash
        (cond b (at_if (is_integer_in reach left) (at_of left) ++
        at_if (is_integer_in reach right) (at_of right)) []) state ≡
        tells kind.TypeClash (at_if (b && is_integer_in reach right) (at_of right))
        (tells kind.TypeClash (at_if (b && is_integer_in reach left) (at_of left)) state)
    by true =
        tells-append kind.TypeClash (at_if (is_integer_in reach left) (at_of left))
        (at_if (is_integer_in reach right) (at_of right)) state
    by false = sym (tells-none kind.TypeClash (tells kind.TypeClash [] state))

pub ruleset pair_told = (pair_is_told, part-integer, part-own, at_of-expr)

booleans-seen : (operator : Fold) → is_boolean (fold_base operator) ≡ fold_takes_booleans operator
booleans-seen fold.Sum = refl
booleans-seen fold.Prod = refl
booleans-seen fold.Max = refl
booleans-seen fold.Min = refl
booleans-seen fold.All = refl
booleans-seen fold.Any = refl

-- the operand of a reduction or a scan
operand-types : (reach : Reach) (operator : Fold) (operand : Expr) →
    cond (is_boolean (fold_base operator)) (at_if (is_integer_in reach operand) (at_of operand)) []
    ≡ at_if (fold_takes_booleans operator && is_integer_in reach operand) (at_of operand)
operand-types reach operator operand =
    ap (λ b. cond b (at_if (is_integer_in reach operand) (at_of operand)) [])
    (booleans-seen operator) ∙
    sym (at_if-both (fold_takes_booleans operator) (is_integer_in reach operand) (at_of operand))

pub reduce_is_told : (state : State) (reach : Reach) (rank : Rank) (at : ℕ) (operator : Fold)
    (operand : Expr) →
    after state (AtExpr reach rank (Reduce at operator NoBracket operand)) ≡
    tells kind.FloodClash
    (where_reached state.reached
    (at_if (has_flood (shape_at reach (operand_rank reach.scope reach.prefix operand))) at))
    (tells kind.NoRegion
    (at_if (lacks_region reach (operand_rank reach.scope reach.prefix operand)) at)
    (tells kind.TypeClash
    (at_if (fold_takes_booleans operator && is_integer_in reach operand) (at_of operand)) state))
unfolding after text_told region_told tells
reduce_is_told state reach rank at operator operand =
    ap
    (λ places. tells kind.FloodClash
    (where_reached state.reached
    (at_if (has_flood (shape_at reach (operand_rank reach.scope reach.prefix operand))) at))
    (tells kind.NoRegion
    (at_if (lacks_region reach (operand_rank reach.scope reach.prefix operand)) at)
    (tells kind.TypeClash places state)))
    (operand-types reach operator operand)

pub operand-rank : (scope : Scope) (prefix : Rank) (operand : Expr) →
    placed_rank true prefix (part_of scope prefix operand).own ≡ operand_rank scope prefix operand
operand-rank scope prefix operand = ap (placed_rank true prefix) (part-own scope prefix operand)

pub ruleset reduce_told = (reduce_is_told, part-integer, operand-rank, at_of-expr)

pub partial_is_told : (state : State) (reach : Reach) (rank : Rank) (at : ℕ) (operator : Fold)
    (source : Inner) (operand : Expr) →
    after state (AtExpr reach rank (Reduce at operator (Bracketed source) operand)) ≡
    tells kind.FloodClash
    (where_reached state.reached
    (at_if
    (has_flood (inner_shape reach.scope reach.shapes (source_rank reach source operand) source))
    at))
    (tells kind.NoRegion (at_if (lacks_region reach (source_rank reach source operand)) at)
    (tells kind.RankClash
    (at_if (ranks_clash (source_rank reach source operand) (own_rank_in reach operand))
    (at_of operand))
    (tells kind.TypeClash
    (at_if (fold_takes_booleans operator && is_integer_in reach operand) (at_of operand)) state)))
unfolding after text_told region_told tells
partial_is_told state reach rank at operator source operand =
    ap
    (λ places. tells kind.FloodClash
    (where_reached state.reached
    (at_if
    (has_flood (inner_shape reach.scope reach.shapes (source_rank reach source operand) source))
    at))
    (tells kind.NoRegion (at_if (lacks_region reach (source_rank reach source operand)) at)
    (tells kind.RankClash
    (at_if (ranks_clash (source_rank reach source operand) (own_rank_in reach operand))
    (at_of operand))
    (tells kind.TypeClash places state))))
    (operand-types reach operator operand)

pub source-rank : (reach : Reach) (source : Inner) (operand : Expr) →
    source_rank reach source operand ≡
    inner_rank reach.scope (part_of reach.scope reach.prefix operand).own reach.prefix source
source-rank reach source operand =
    ap (λ own. inner_rank reach.scope own reach.prefix source)
    (sym (part-own reach.scope reach.prefix operand))

pub ruleset partial_told = (partial_is_told, part-integer, part-own, source-rank, at_of-expr)

pub scan_is_told : (state : State) (reach : Reach) (rank : Rank) (at : ℕ) (operator : Fold)
    (along : Option ℤ) (operand : Expr) →
    after state (AtExpr reach rank (Scan at operator along operand)) ≡
    tells kind.FloodClash
    (where_reached state.reached (at_if (has_flood (shape_at reach rank)) at))
    (tells kind.NoRegion (at_if (lacks_region reach rank) at)
    (tells kind.RankClash (at_if (no_dimension rank along) (at_of operand))
    (tells kind.TypeClash
    (at_if (fold_takes_booleans operator && is_integer_in reach operand) (at_of operand)) state)))
unfolding after text_told region_told tells
scan_is_told state reach rank at operator along operand =
    ap
    (λ places. tells kind.FloodClash
    (where_reached state.reached (at_if (has_flood (shape_at reach rank)) at))
    (tells kind.NoRegion (at_if (lacks_region reach rank) at)
    (tells kind.RankClash (at_if (no_dimension rank along) (at_of operand))
    (tells kind.TypeClash places state))))
    (operand-types reach operator operand)

pub ruleset scan_told = (scan_is_told, part-integer, at_of-expr)

pub flood_is_told : (state : State) (reach : Reach) (rank : Rank) (at : ℕ) (source : Inner)
    (operand : Expr) →
    after state (AtExpr reach rank (Flood at source operand)) ≡
    tells kind.FloodClash
    (where_reached state.reached
    (at_if
    (has_flood (inner_shape reach.scope reach.shapes (source_rank reach source operand) source))
    at))
    (tells kind.NoRegion (at_if (lacks_region reach (source_rank reach source operand)) at)
    (tells kind.RankClash
    (at_if (ranks_clash (source_rank reach source operand) (own_rank_in reach operand))
    (at_of operand)) state))
unfolding after text_told region_told tells
flood_is_told state reach rank at source operand = refl

pub ruleset flood_told = (flood_is_told, part-own, source-rank, at_of-expr)

-- one more index
pub index-step : (reach : Reach) (before now own : Rank) (clash : Bool) (xs : List CodeExpr) (k : ℕ)
    (d : CodeExpr) (old new whole : State) → k < length xs →
    own ≡ (part_of reach.scope reach.prefix (expr_of (get_or xs k d))).own →
    clash ≡ ranks_clash before own →
    new ≡ tells kind.RankClash (at_if clash (get_or xs k d).at) old →
    now ≡ both_ranks before own →
    tells kind.RankClash (index_clashes reach before (exprs_of (drop k xs))) old ≡ whole →
    tells kind.RankClash (index_clashes reach now (exprs_of (drop (k + 1) xs))) new ≡ whole
index-step reach before now own clash xs k d old new whole less part clashes told next invariant =
    let e = expr_of (get_or xs k d) in
    let is = part ∙ part-own reach.scope reach.prefix e in
    ap₂ (λ now new. tells kind.RankClash (index_clashes reach now (exprs_of (drop (k + 1) xs))) new)
    (next ∙ ap (both_ranks before) is)
    (told ∙
    tells-same kind.RankClash clash (ranks_clash before (own_rank_in reach e)) (get_or xs k d).at
    (at_of e) old old
    (clashes ∙ ap (ranks_clash before) is) (sym (at_of-expr (get_or xs k d))) refl) ∙
    sym
    (tells-append kind.RankClash
    (at_if (ranks_clash before (own_rank_in reach e)) (at_of e))
    (index_clashes reach (both_ranks before (own_rank_in reach e)) (exprs_of (drop (k + 1) xs)))
    old) ∙
    ap (λ rest. tells kind.RankClash (index_clashes reach before (exprs_of rest)) old)
    (sym (drop_more xs k d less)) ∙ invariant

pub index-end : (reach : Reach) (before : Rank) (xs : List CodeExpr) (k : ℕ) (old whole : State) →
    length xs ≤ k →
    tells kind.RankClash (index_clashes reach before (exprs_of (drop k xs))) old ≡ whole →
    old ≡ whole
index-end reach before xs k old whole end invariant =
    sym (tells-none kind.RankClash old) ∙
    ap (λ rest. tells kind.RankClash (index_clashes reach before (exprs_of rest)) old)
    (sym (drop_all k xs end)) ∙ invariant
