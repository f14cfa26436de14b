-- Ranks are at most 3.
use Rattle.std.proofs.Common.{◌≡◌, ℕ, zero, suc, Bool, true, false, cond, List, [], ◌∷◌, length, Option, Some, None, option_map, nat_le, refl, arith, leb-true}
use Rattle.std.specs.List.{AllByRecursion, find}
use Rattle.std.specs.Option.{option_or}
use Rattle.std.specs.Str.{bytes_eq}
use Rattle.zpl_tree.specs.Syntax.{Name, Pre, NamedRegion, Ditto, Expr, Number, Truth, Coord, Named, Shifted, Around, Remap, Call, Paren, Neg, Not, Abs, Pair, Reduce, Scan, Flood, Exprs, NoExpr, ThenExpr, Dir, NamedDir, Vector, Inner, Rexpr, Dims, NoBracket, Bracketed, Posts, NoPost, ThenPost}
use Rattle.zpl_names.specs.Kinds.{Rank, Kind, Config, Constant, Region, Direction, Scalar, Array, Procedure}
use Rattle.zpl_names.specs.Scope.{Entry, Scope, kind_in, kind_of, in_reach}
use Rattle.zpl_names.specs.Ranks.{IsRank, HasRank, first_rank, both_ranks, known_rank, exprs_count, dims_count, at_most_three, direction_rank, dir_rank, region_shape, value_rank, array_rank, pre_rank, post_rank, ditto_rank, is_index, inner_rank, own_rank, own_ranks, is_open, placed_rank, rank_of, operand_rank}

-- ---- ranks

first-fits : (rank other : Rank) → IsRank rank → IsRank other → IsRank (first_rank rank other)
first-fits (Some zero) other h k = k
first-fits (Some (suc n)) other h k = h
first-fits None other h k = tt

joined-fits : (rank other : Rank) → IsRank rank → IsRank other → IsRank (both_ranks rank other)
joined-fits rank None h k = tt
joined-fits rank (Some other) h k = first-fits rank (Some other) h k

given-fits : (rank : Rank) → IsRank rank → IsRank (known_rank rank)
given-fits None h = tt
given-fits (Some zero) h = tt
given-fits (Some (suc n)) h = h

pub count-fits : (n : ℕ) → IsRank (at_most_three n)
count-fits n = by (nat_le n 3) refl
  where
    by : (b : Bool) → nat_le n 3 ≡ b → IsRank (cond b (Some n) None)
    by true e = leb-true n 3 e
    by false e = tt

-- ---- names

abbrev IsRanked : Option Kind → Type 0
IsRanked None = Unit {0}
IsRanked (Some kind) = HasRank kind

kind_in-ranked : (entries : List Entry) (text : List ℕ) →
    AllByRecursion (λ entry. HasRank entry.kind) entries → IsRanked (kind_in entries text)
kind_in-ranked [] text h = tt
kind_in-ranked (first ∷ rest) text h =
    by (bytes_eq first.name.text text) (kind_in-ranked rest text h.1)
  where
    by : (b : Bool) → IsRanked (kind_in rest text) →
        IsRanked (option_map (λ entry. entry.kind)
        (cond b (Some first) (find (λ entry. bytes_eq entry.name.text text) rest)))
    by true later = h.0
    by false later = later

or-ranked : (one other : Option Kind) → IsRanked one → IsRanked other →
    IsRanked (option_or one other)
or-ranked None other h k = k
or-ranked (Some kind) other h k = h

reach-ranked : (constants : Bool) (kind : Option Kind) → IsRanked kind →
    IsRanked (in_reach constants kind)
reach-ranked true None h = tt
reach-ranked true (Some (Config base)) h = tt
reach-ranked true (Some (Constant base)) h = tt
reach-ranked true (Some (Region shape)) h = h
reach-ranked true (Some (Direction rank)) h = h
reach-ranked true (Some (Scalar base)) h = tt
reach-ranked true (Some (Array base shape)) h = tt
reach-ranked true (Some (Procedure signature)) h = tt
reach-ranked false kind h = h

pub record AreRanked (scope : Scope) : Type 0 where
  pub own : AllByRecursion (λ entry. HasRank entry.kind) scope.own
  pub globals : AllByRecursion (λ entry. HasRank entry.kind) scope.globals

pub kind-ranked : (scope : Scope) (name : Name) → AreRanked scope → IsRanked (kind_of scope name)
kind-ranked scope name h =
    reach-ranked scope.constants (option_or (kind_in scope.own name.text)
    (kind_in scope.globals name.text))
    (or-ranked (kind_in scope.own name.text) (kind_in scope.globals name.text)
    (kind_in-ranked scope.own name.text h.own)
    (kind_in-ranked scope.globals name.text h.globals))

direction-fits : (kind : Option Kind) → IsRanked kind → IsRank (direction_rank kind)
direction-fits (Some (Direction rank)) h = h
direction-fits kind h = tt

pub region-fits : (kind : Option Kind) → IsRanked kind →
    IsRank (option_map length (region_shape kind))
region-fits (Some (Region shape)) h = h
region-fits kind h = tt

array-fits : (kind : Option Kind) → IsRanked kind → IsRank (array_rank kind)
array-fits (Some (Array base shape)) h = h
array-fits kind h = tt

value-fits : (kind : Option Kind) → IsRanked kind → IsRank (value_rank kind)
value-fits (Some (Array base shape)) h = h
value-fits (Some (Config base)) h = omega arith
value-fits (Some (Constant base)) h = omega arith
value-fits (Some (Scalar base)) h = omega arith
value-fits kind h = tt

-- ---- directions and regions

dir-fits : (scope : Scope) → AreRanked scope → (dir : Dir) → IsRank (dir_rank scope dir)
dir-fits scope h (NamedDir name) = direction-fits (kind_of scope name) (kind-ranked scope name h)
dir-fits scope h (Vector parts) = count-fits (exprs_count parts)

pre-fits : (scope : Scope) → AreRanked scope → (pre : List Pre) → IsRank (pre_rank scope pre)
pre-fits scope h [] = omega arith
pre-fits scope h (pre ∷ []) = direction-fits (kind_of scope pre.dir) (kind-ranked scope pre.dir h)
pre-fits scope h (pre ∷ next ∷ rest) = pre-fits scope h (next ∷ rest)

post-fits : (scope : Scope) → AreRanked scope → (post : Posts) → IsRank (post_rank scope post)
post-fits scope h NoPost = omega arith
post-fits scope h (ThenPost stride dir rest) = dir-fits scope h dir

pub inner-fits : (scope : Scope) → AreRanked scope → (hint prefix : Rank) → IsRank hint →
    IsRank prefix → (inner : Inner) →
    IsRank (inner_rank scope hint prefix inner)
inner-fits scope h hint prefix k p (Rexpr pre (NamedRegion name) post) =
    by (is_index scope pre name post)
  where
    by : (b : Bool) →
        IsRank (cond b (Some 1) (option_map length (region_shape (kind_of scope name))))
    by true = omega arith
    by false = region-fits (kind_of scope name) (kind-ranked scope name h)
inner-fits scope h hint prefix k p (Rexpr pre (Ditto at) post) =
    given-fits (ditto_rank scope hint prefix pre post)
    (first-fits (pre_rank scope pre) (first_rank (post_rank scope post) (first_rank hint prefix))
    (pre-fits scope h pre)
    (first-fits (post_rank scope post) (first_rank hint prefix) (post-fits scope h post)
    (first-fits hint prefix k p)))
inner-fits scope h hint prefix k p (Dims dims) = count-fits (dims_count dims)

-- ---- expressions

mutual
  own-fits : (scope : Scope) → AreRanked scope → (prefix : Rank) → IsRank prefix → (expr : Expr) →
      IsRank (own_rank scope prefix expr)
  own-fits scope h prefix p (Number at value) = omega arith
  own-fits scope h prefix p (Truth at value) = omega arith
  own-fits scope h prefix p (Coord at dimension) = omega arith
  own-fits scope h prefix p (Named at name) =
      value-fits (kind_of scope name) (kind-ranked scope name h)
  own-fits scope h prefix p (Shifted at name shift) =
      array-fits (kind_of scope name) (kind-ranked scope name h)
  own-fits scope h prefix p (Around at name shift) =
      array-fits (kind_of scope name) (kind-ranked scope name h)
  own-fits scope h prefix p (Remap at name indices) = owns-fit scope h prefix p indices
  own-fits scope h prefix p (Call at name actuals) = omega arith
  own-fits scope h prefix p (Paren at inside) = own-fits scope h prefix p inside
  own-fits scope h prefix p (Neg at operand) = own-fits scope h prefix p operand
  own-fits scope h prefix p (Not at operand) = own-fits scope h prefix p operand
  own-fits scope h prefix p (Abs at operand) = own-fits scope h prefix p operand
  own-fits scope h prefix p (Pair at op left right) =
      joined-fits (own_rank scope prefix left) (own_rank scope prefix right)
      (own-fits scope h prefix p left) (own-fits scope h prefix p right)
  own-fits scope h prefix p (Reduce at operator NoBracket operand) = omega arith
  own-fits scope h prefix p (Reduce at operator (Bracketed source) operand) =
      let operand_fits = own-fits scope h prefix p operand in
      joined-fits (inner_rank scope (own_rank scope prefix operand) prefix source)
      (own_rank scope prefix operand)
      (inner-fits scope h (own_rank scope prefix operand) prefix operand_fits p source) operand_fits
  own-fits scope h prefix p (Scan at operator along operand) = own-fits scope h prefix p operand
  own-fits scope h prefix p (Flood at source operand) =
      let operand_fits = own-fits scope h prefix p operand in
      joined-fits (inner_rank scope (own_rank scope prefix operand) prefix source)
      (own_rank scope prefix operand)
      (inner-fits scope h (own_rank scope prefix operand) prefix operand_fits p source) operand_fits

  owns-fit : (scope : Scope) → AreRanked scope → (prefix : Rank) → IsRank prefix → (exprs : Exprs) →
      IsRank (own_ranks scope prefix exprs)
  owns-fit scope h prefix p NoExpr = omega arith
  owns-fit scope h prefix p (ThenExpr first rest) =
      joined-fits (own_rank scope prefix first) (own_ranks scope prefix rest)
      (own-fits scope h prefix p first) (owns-fit scope h prefix p rest)

placed-fits : (takes : Bool) (handed own : Rank) → IsRank handed → IsRank own →
    IsRank (placed_rank takes handed own)
placed-fits takes handed own h k = first-fits own (cond takes (known_rank handed) (Some 0)) k (by takes)
  where
    by : (b : Bool) → IsRank (cond b (known_rank handed) (Some 0))
    by true = given-fits handed h
    by false = omega arith

pub rank_of-fits : (scope : Scope) → AreRanked scope → (prefix handed : Rank) → IsRank prefix →
    IsRank handed → (expr : Expr) →
    IsRank (rank_of scope prefix handed expr)
rank_of-fits scope h prefix handed p k expr =
    placed-fits (is_open expr) handed (own_rank scope prefix expr) k
    (own-fits scope h prefix p expr)

pub operand-fits : (scope : Scope) → AreRanked scope → (prefix : Rank) → IsRank prefix →
    (operand : Expr) →
    IsRank (operand_rank scope prefix operand)
operand-fits scope h prefix p operand =
    placed-fits true prefix (own_rank scope prefix operand) p (own-fits scope h prefix p operand)
