-- In a place that fits what the text says of it, what stands in expressions without faults has
-- their rank.
use Rattle.std.proofs.Common.{◌≡◌, ℕ, zero, suc, ◌≤◌, Bool, true, false, cond, ◌||◌, ◌==◌}
use Rattle.std.proofs.Common.{◌⊎◌, inl, inr, ℤ, pos, negsuc, List, [], ◌∷◌, length, Option, Some}
use Rattle.std.proofs.Common.{None, option_map, IsSome, refl, sym, ap, ◌∙◌, subst, arith}
use Rattle.std.proofs.Common.{true≢false, eqb-true, nat_le}
use Rattle.std.specs.Prelude.{int_lt}
use Rattle.std.specs.List.{flat_map}
use Rattle.std.proofs.lemmas.Bool.{leb-true, ltb-false, or_parts, not-false}
use Rattle.std.proofs.lemmas.Int.{ints}
use Rattle.zpl_region.specs.declared.regions.Region.{Region}
use Rattle.meaning_runs.specs.of_zpl_tree.Syntax.{Name, Expr, Number, Truth, Coord, Named, Shifted, Around, Remap}
use Rattle.meaning_runs.specs.of_zpl_tree.Syntax.{Call, Paren, Neg, Not, Abs, Pair, Reduce, Scan, Flood, Exprs}
use Rattle.meaning_runs.specs.of_zpl_tree.Syntax.{NoExpr, ThenExpr, Dir, NamedDir, Vector, Inner, Rexpr, Dims}
use Rattle.meaning_runs.specs.of_zpl_tree.Syntax.{NoBracket, Bracketed, Posts, NoPost, ThenPost}
use Rattle.meaning_runs.specs.of_zpl_tree.Syntax.{DimTexts, Base, Pre}
use Rattle.meaning_runs.specs.of_zpl_tree.Grammar.{IsExpr, AreExprs, IsDir, HasExpr, IsInner, ArePosts, IsAlong}
use Rattle.meaning_runs.specs.of_zpl_tree.Grammar.{expr_level, unary_level, left_level, right_level}
use Rattle.meaning_runs.specs.of_zpl_names.Kinds as kind
use Rattle.meaning_runs.specs.of_zpl_names.Kinds.{Rank, Kind}
use Rattle.meaning_runs.specs.of_zpl_names.Scope.{Scope, kind_of, is_value, is_array, is_direction}
use Rattle.meaning_runs.specs.of_zpl_names.Ranks.{IsRank, first_rank, both_ranks, known_rank, ranks_clash}
use Rattle.meaning_runs.specs.of_zpl_names.Ranks.{exprs_count, dims_count, at_most_three, direction_rank, dir_rank}
use Rattle.meaning_runs.specs.of_zpl_names.Ranks.{value_rank, array_rank, inner_rank, own_rank, own_ranks}
use Rattle.meaning_runs.specs.of_zpl_names.Ranks.{operand_rank}
use Rattle.meaning_runs.specs.of_zpl_names.Shapes.{Shapes, with_current, current_over, inner_shape}
use Rattle.meaning_runs.specs.of_zpl_names.Sites.{Reach, over_source, dir_sites, expr_sites}
use Rattle.meaning_runs.specs.of_zpl_names.Sites.{exprs_sites, region_sites, posts_sites, index_sites}
use Rattle.meaning_runs.specs.of_zpl_names.Faults.{unless_taken, fourth_part, no_dimension, is_past, is_other_count}
use Rattle.meaning_runs.specs.of_zpl_names.Faults.{index_clashes, pre_clashes, post_clashes, base_at, unknown_base}
use Rattle.meaning_runs.proofs.of_zpl_names.NameLemmas.{no_place, empty_parts}
use Rattle.meaning_runs.specs.of_zpl_meaning.Store.{Thing, Scalar, ArrayAt, Fixed, thing_of}
use Rattle.meaning_runs.specs.of_zpl_meaning.Context.{Place}
use Rattle.meaning_runs.specs.of_zpl_meaning.Regions.{under_source}
use Rattle.meaning_runs.specs.of_zpl_meaning.Proper.{IsArrayRank}
use Rattle.meaning_runs.proofs.of_zpl_meaning.DepthLemmas.{each_left, each_right}
use Rattle.meaning_runs.proofs.of_zpl_meaning.ProperLemmas.{IsClean, Clean, taken, IsNamed, Fits}
use Rattle.meaning_runs.proofs.of_zpl_meaning.ProperLemmas.{reach_at, RankLaws, Agrees, same_rank}
use Rattle.meaning_runs.proofs.of_zpl_meaning.ProperLemmas.{first_agrees, left_agrees, right_agrees, both_zero}
use Rattle.meaning_runs.proofs.of_zpl_meaning.ProperLemmas.{none_is_not, read_array}
use Rattle.meaning_runs.proofs.of_zpl_meaning.ProperLemmas.{region_rank, fits_source}
use Rattle.meaning_ranks.specs.Ranked.{IsArrayOf, IsNameOf, HasDimension, GoesAlong}
use Rattle.meaning_ranks.specs.Ranked.{ArePresOf, ArePostsOf, IsInnerOf, IsRegionOf, IsOfRank}
use Rattle.meaning_ranks.specs.Ranked.{AreOfRank}
use Rattle.meaning_runs.proofs.of_zpl_meaning.ProperLemmas.{both_assoc}

-- ---- ranks

-- of two ranks from 1 to 3 that don't clash, one is the other
pub same_of_no_clash : (one other : Rank) → IsArrayRank one → IsArrayRank other
    → ranks_clash one other ≡ false → one ≡ other
same_of_no_clash (Some (suc a)) (Some (suc b)) p q c =
    ap (λ n. Some (suc n)) (eqb-true a b (not-false (a == b) c))
same_of_no_clash (Some zero) other p q c = absurd p
same_of_no_clash None other p q c = absurd p
same_of_no_clash (Some (suc a)) (Some zero) p q c = absurd q
same_of_no_clash (Some (suc a)) None p q c = absurd q

-- of two ranks that don't clash, one of them above 0, the other is 0 or the same
pub zero_or_same : (rank other : Rank) → IsArrayRank rank → IsSome other
    → ranks_clash rank other ≡ false → (other ≡ Some 0) ⊎ (other ≡ rank)
zero_or_same rank None p k c = none_is_not None k refl
zero_or_same rank (Some zero) p k c = inl refl
zero_or_same (Some (suc a)) (Some (suc b)) p k c =
    inr (sym (ap (λ n. Some (suc n)) (eqb-true a b (not-false (a == b) c))))
zero_or_same (Some zero) (Some (suc b)) p k c = absurd p
zero_or_same None (Some (suc b)) p k c = absurd p

-- ---- directions

-- those in reach have ranks from 1 to 3
abbrev pub KnowsDirections : Scope → Type 0
KnowsDirections scope =
    (name : Name) → is_direction (kind_of scope name) ≡ true
    → IsArrayRank (direction_rank (kind_of scope name))

parts_rank : (parts : Exprs) → HasExpr parts → fourth_part parts ≡ []
    → IsArrayRank (at_most_three (exprs_count parts))
parts_rank NoExpr g e = absurd g
parts_rank (ThenExpr one NoExpr) g e = tt
parts_rank (ThenExpr one (ThenExpr two NoExpr)) g e = tt
parts_rank (ThenExpr one (ThenExpr two (ThenExpr three NoExpr))) g e = tt
parts_rank (ThenExpr one (ThenExpr two (ThenExpr three (ThenExpr four rest)))) g e = cc

module _ (laws : RankLaws) (shattered : Rank) (result : Option Base) where
  abbrev at_place : Place → Shapes → Reach
  at_place place shapes = reach_at place shapes shattered result

  dir_is : (dir : Dir) (place : Place) (shapes : Shapes) → KnowsDirections place.scope
      → Clean (dir_sites (at_place place shapes) dir) → IsDir dir
      → IsArrayRank (dir_rank place.scope dir)
  dir_is (NamedDir name) place shapes known h g =
      known name (taken (at_place place shapes) is_direction name h.0.none.known)
  dir_is (Vector parts) place shapes known h g = parts_rank parts g.0 h.0.none.ranks

  -- ---- regions

  pres_of : (pre : List Pre) (place : Place) (shapes : Shapes) (rank : Rank) (base : ℕ)
      → KnowsDirections place.scope → IsArrayRank rank
      → flat_map (λ pre. unless_taken (at_place place shapes) is_direction pre.dir) pre ≡ []
      → pre_clashes (at_place place shapes) rank pre base ≡ []
      → ArePresOf place.scope rank pre
  pres_of [] place shapes rank base known p u c = tt
  pres_of (pre ∷ []) place shapes rank base known p u c =
      let reach = at_place place shapes in
      let there = taken reach is_direction pre.dir
      (empty_parts (unless_taken reach is_direction pre.dir) [] u).0 in (
        same_of_no_clash (direction_rank (kind_of place.scope pre.dir)) rank (known pre.dir there) p
            (no_place (ranks_clash (direction_rank (kind_of place.scope pre.dir)) rank) base c),
        tt,
      )
  pres_of (pre ∷ next ∷ rest) place shapes rank base known p u c =
      let reach = at_place place shapes in
      let names = empty_parts (unless_taken reach is_direction pre.dir) _ u in
      let clashes = empty_parts _ (pre_clashes reach rank (next ∷ rest) base) c in (
        same_of_no_clash (direction_rank (kind_of place.scope pre.dir)) rank
            (known pre.dir (taken reach is_direction pre.dir names.0)) p
            (no_place (ranks_clash (direction_rank (kind_of place.scope pre.dir)) rank) _
            clashes.0),
        pres_of (next ∷ rest) place shapes rank base known p names.1 clashes.1,
      )

  posts_of : (post : Posts) (place : Place) (shapes : Shapes) (rank : Rank)
      → KnowsDirections place.scope → IsArrayRank rank
      → Clean (posts_sites (at_place place shapes) post) → ArePosts post
      → post_clashes (at_place place shapes) rank post ≡ [] → ArePostsOf place.scope rank post
  posts_of NoPost place shapes rank known p h g c = tt
  posts_of (ThenPost stride dir rest) place shapes rank known p h g c =
      let reach = at_place place shapes in
      let clashes = empty_parts _ (post_clashes reach rank rest) c in (
        sym (same_of_no_clash rank (dir_rank place.scope dir) p
            (dir_is dir place shapes known
            (each_left IsClean (dir_sites reach dir) (posts_sites reach rest) h) g.0)
            (no_place (ranks_clash rank (dir_rank place.scope dir)) _ clashes.0)),
        posts_of rest place shapes rank known p
            (each_right IsClean (dir_sites reach dir) (posts_sites reach rest) h) g.1 clashes.1,
      )

  dims_of : (dims : DimTexts) → IsArrayRank (at_most_three (dims_count dims))
      → Some (dims_count dims) ≡ at_most_three (dims_count dims)
  dims_of dims p = by (nat_le (dims_count dims) 3) p
    where
      by : (b : Bool) → IsArrayRank (cond b (Some (dims_count dims)) None)
          → Some (dims_count dims) ≡ cond b (Some (dims_count dims)) None
      by true p = refl
      by false p = absurd p

  pub region_of : (region : Inner) (place : Place) (shapes : Shapes) (hint : Rank)
      → Fits place shapes → KnowsDirections place.scope → IsRank hint
      → Clean (region_sites (at_place place shapes) hint region) → IsInner region
      → IsRegionOf place hint region
  region_of region place shapes hint fits known le h g =
      let p = region_rank laws place shapes shattered result hint region fits le h g in
      (p, by region h g p)
    where
      by : (region : Inner) → Clean (region_sites (at_place place shapes) hint region)
          → IsInner region → IsArrayRank (inner_rank place.scope hint place.prefix region)
          → IsInnerOf place.scope (inner_rank place.scope hint place.prefix region) region
      by (Rexpr pre base post) h g p =
          let reach = at_place place shapes in
          let rank = inner_rank place.scope hint place.prefix (Rexpr pre base post) in
          let clashes = empty_parts (pre_clashes reach rank pre (base_at base))
          (post_clashes reach rank post) h.0.none.ranks in (
            pres_of pre place shapes rank (base_at base) known p
                (empty_parts _ (unknown_base reach pre base post) h.0.none.known).0 clashes.0,
            posts_of post place shapes rank known p
                (each_right IsClean (index_sites reach pre base post) (posts_sites reach post) h.1)
                g clashes.1,
          )
      by (Dims dims) h g p = dims_of dims p

  -- ---- names

  name_of : (place : Place) (rank : Rank) (name : Name) (thing : Option Thing)
      → IsNamed (kind_of place.scope name) thing → is_value (kind_of place.scope name) ≡ true
      → Agrees rank (value_rank (kind_of place.scope name)) → IsNameOf place rank name thing
  name_of place rank name thing h v a = by (kind_of place.scope name) refl thing h v a
    where
      by : (found : Option Kind) → kind_of place.scope name ≡ found → (thing : Option Thing)
          → IsNamed found thing → is_value found ≡ true → Agrees rank (value_rank found)
          → IsNameOf place rank name thing
      by (Some (kind.Array base shape)) e (Some (ArrayAt array home)) h v a =
          ap array_rank e ∙ same_rank (option_map length shape) rank h.1 a
      by (Some (kind.Scalar base)) e (Some (ArrayAt array home)) h v a = absurd h
      by (Some (kind.Config base)) e (Some (ArrayAt array home)) h v a = absurd h
      by (Some (kind.Constant base)) e (Some (ArrayAt array home)) h v a = absurd h
      by (Some (kind.Region shape)) e (Some (ArrayAt array home)) h v a =
          absurd (true≢false (sym v))
      by (Some (kind.Direction own)) e (Some (ArrayAt array home)) h v a =
          absurd (true≢false (sym v))
      by (Some (kind.Procedure signature)) e (Some (ArrayAt array home)) h v a =
          absurd (true≢false (sym v))
      by None e (Some (ArrayAt array home)) h v a = absurd (true≢false (sym v))
      by found e (Some (Scalar target)) h v a = tt
      by found e (Some (Fixed value)) h v a = tt
      by found e None h v a = tt

  -- an array that is read with a shift
  shifted_of : (at : ℕ) (place : Place) (shapes : Shapes) (rank : Rank) (name : Name) (shift : Dir)
      → Fits place shapes → KnowsDirections place.scope
      → unless_taken (at_place place shapes) is_array name ≡ []
      → ranks_clash (array_rank (kind_of place.scope name)) (dir_rank place.scope shift) ≡ false
      → Clean (dir_sites (at_place place shapes) shift) → IsDir shift
      → Agrees rank (array_rank (kind_of place.scope name))
      → IsArrayOf place rank name × (dir_rank place.scope shift ≡ rank)
  shifted_of at place shapes rank name shift fits known u c h g a =
      let own = array_rank (kind_of place.scope name) in
      let p = (read_array (kind_of place.scope name) (thing_of place.environment name.text)
      (fits.names name) (taken (at_place place shapes) is_array name u)).1 in
      let same = same_rank own rank p a in (
        same,
        sym (same_of_no_clash own (dir_rank place.scope shift) p
            (dir_is shift place shapes known h g) c) ∙ same,
      )

  -- ---- dimensions

  has_dimension : (rank : Rank) (k : ℕ) → IsSome rank → 1 ≤ k → is_past rank k ≡ false
      → HasDimension rank k
  has_dimension None k s le e = absurd (true≢false (sym s))
  has_dimension (Some n) k s le e = (le, ltb-false n k e)

  goes_along : (rank : Rank) (along : Option ℤ) → IsSome rank → IsAlong along
      → no_dimension rank along ≡ false → GoesAlong rank along
  goes_along rank None s g e = tt
  goes_along None (Some along) s g e = absurd (true≢false (sym s))
  goes_along (Some n) (Some along) s g e = by along e
    where
      by : (along : ℤ) → int_lt along (pos 1) || int_lt (pos n) along ≡ false
          → (k : ℕ) × (along ≡ pos k) × HasDimension (Some n) k
      by (pos k) e =
          let parts = or_parts (int_lt (pos k) (pos 1)) (int_lt (pos n) (pos k)) e in
          let low = parts.0 in
          let high = parts.1 in
          (k, refl, (omega (arith, ints, low), omega (arith, ints, high)))
      by (negsuc k) e =
          let low = (or_parts (int_lt (negsuc k) (pos 1)) (int_lt (pos n) (negsuc k)) e).0 in
          absurd (omega (arith, ints, low))

  same_count : (rank : Rank) (count : ℕ) → IsSome rank → is_other_count rank count ≡ false
      → rank ≡ Some count
  same_count None count s e = absurd (true≢false (sym s))
  same_count (Some n) count s e = ap (λ k. Some k) (eqb-true n count (not-false (n == count) e))

  some_array : (rank : Rank) → IsArrayRank rank → IsSome rank
  some_array (Some n) p = refl
  some_array None p = absurd p

  -- ---- expressions

  -- the region of an operator, and its operand
  over_of : (source : Inner) (operand : Expr) (place : Place) (shapes : Shapes) (rank : Rank)
      → Fits place shapes → KnowsDirections place.scope → IsSome rank
      → Clean (region_sites (at_place place shapes) (own_rank place.scope place.prefix operand)
      source)
      → IsInner source
      → Agrees rank (both_ranks
      (inner_rank place.scope (own_rank place.scope place.prefix operand) place.prefix source)
      (own_rank place.scope place.prefix operand))
      → ranks_clash
      (inner_rank place.scope (own_rank place.scope place.prefix operand) place.prefix source)
      (own_rank place.scope place.prefix operand) ≡ false
      → ((region : Region) (over : Rank)
      → inner_rank place.scope (own_rank place.scope place.prefix operand) place.prefix source
      ≡ over
      → Fits (under_source place over region)
      (with_current shapes over (current_over (inner_shape place.scope shapes over source) false))
      → Agrees over (own_rank place.scope place.prefix operand)
      → IsOfRank (under_source place over region) over operand)
      → (inner_rank place.scope (own_rank place.scope place.prefix operand) place.prefix source
      ≡ rank)
      × IsRegionOf place (own_rank place.scope place.prefix operand) source
      × ((region : Region) → IsOfRank (under_source place
      (inner_rank place.scope (own_rank place.scope place.prefix operand) place.prefix source)
      region)
      (inner_rank place.scope (own_rank place.scope place.prefix operand) place.prefix source)
      operand)
  over_of source operand place shapes rank fits known s sites g agree clash next =
      let hint = own_rank place.scope place.prefix operand in
      let over = inner_rank place.scope hint place.prefix source in
      let le : IsRank hint = own_is place shapes operand fits in
      let region = region_of source place shapes hint fits known le sites g in
      let same : over ≡ rank =
      same_rank over rank region.0 (left_agrees over hint rank s agree) in (
        same,
        region,
        λ inner. next inner over refl (fits_source place shapes over source inner region.0 fits)
            (subst (λ r. Agrees r hint) (sym same) (right_agrees over hint rank s clash agree)),
      )
    where
      first_is : (own other : Rank) → IsRank (first_rank own other) → IsRank own
      first_is (Some zero) other h = omega arith
      first_is (Some (suc n)) other h = h
      first_is None other h = tt

      own_is : (place : Place) (shapes : Shapes) (expr : Expr) → Fits place shapes
          → IsRank (own_rank place.scope place.prefix expr)
      own_is place shapes expr fits =
          first_is (own_rank place.scope place.prefix expr) _
          (laws.operands place.scope place.prefix expr fits.ranked fits.prefix)

  mutual
    pub of_rank : (expr : Expr) (place : Place) (shapes : Shapes) (rank : Rank) (level : ℕ)
        → Fits place shapes → KnowsDirections place.scope
        → Clean (expr_sites (at_place place shapes) rank expr) → IsExpr level expr
        → Agrees rank (own_rank place.scope place.prefix expr) → IsOfRank place rank expr
    of_rank (Number at value) place shapes rank level fits known h g a = tt
    of_rank (Truth at value) place shapes rank level fits known h g a = tt
    of_rank (Coord at k) place shapes rank level fits known h g a =
        has_dimension rank k h.0.ranked (leb-true 1 k g.0)
        (no_place (is_past rank k) _ h.0.none.ranks)
    of_rank (Named at name) place shapes rank level fits known h g a =
        name_of place rank name (thing_of place.environment name.text) (fits.names name)
        (taken (at_place place shapes) is_value name h.0.none.known) a
    of_rank (Shifted at name shift) place shapes rank level fits known h g a =
        shifted_of at place shapes rank name shift fits known h.0.none.known
        (no_place (ranks_clash (array_rank (kind_of place.scope name))
        (dir_rank place.scope shift)) _ h.0.none.ranks) h.1 g a
    of_rank (Around at name shift) place shapes rank level fits known h g a =
        shifted_of at place shapes rank name shift fits known h.0.none.known
        (no_place (ranks_clash (array_rank (kind_of place.scope name))
        (dir_rank place.scope shift)) _ h.0.none.ranks) h.1 g a
    of_rank (Remap at name indices) place shapes rank level fits known h g a =
        let own = array_rank (kind_of place.scope name) in
        let clashes = empty_parts _ _ h.0.none.ranks in
        let p = (read_array (kind_of place.scope name) (thing_of place.environment name.text)
        (fits.names name) (taken (at_place place shapes) is_array name h.0.none.known)).1 in (
          same_count own (exprs_count indices) (some_array own p)
              (no_place (is_other_count own (exprs_count indices)) _ clashes.0),
          are_of_rank indices place shapes rank (Some 0) fits known h.1 g.1 h.0.ranked
              (subst (Agrees rank) (sym (both_zero (own_ranks place.scope place.prefix indices))) a)
              clashes.1,
        )
    of_rank (Call at name actuals) place shapes rank level fits known h g a =
        let e : name.at ∷ [] ≡ [] = h.0.none.calls in cc
    of_rank (Paren at inside) place shapes rank level fits known h g a =
        of_rank inside place shapes rank expr_level fits known h.1 g a
    of_rank (Neg at operand) place shapes rank level fits known h g a =
        of_rank operand place shapes rank unary_level fits known h.1 g.1 a
    of_rank (Not at operand) place shapes rank level fits known h g a =
        of_rank operand place shapes rank unary_level fits known h.1 g.1 a
    of_rank (Abs at operand) place shapes rank level fits known h g a =
        of_rank operand place shapes rank expr_level fits known h.1 g a
    of_rank (Pair at op left right) place shapes rank level fits known h g a =
        let reach = at_place place shapes in
        let one = own_rank place.scope place.prefix left in
        let other = own_rank place.scope place.prefix right in (
          of_rank left place shapes rank (left_level op) fits known
              (each_left IsClean (expr_sites reach rank left) (expr_sites reach rank right) h.1) g.1
              (left_agrees one other rank h.0.ranked a),
          of_rank right place shapes rank (right_level op) fits known
              (each_right IsClean (expr_sites reach rank left) (expr_sites reach rank right) h.1)
              g.2
              (right_agrees one other rank h.0.ranked
              (no_place (ranks_clash one other) _ h.0.none.ranks) a),
        )
    of_rank (Reduce at operator NoBracket operand) place shapes rank level fits known h g a =
        of_rank operand place shapes (operand_rank place.scope place.prefix operand) unary_level
        fits known h.1.1 g.2
        (first_agrees (own_rank place.scope place.prefix operand) (known_rank place.prefix))
    of_rank (Reduce at operator (Bracketed source) operand) place shapes rank level fits known h g
        a =
        let reach = at_place place shapes in
        let hint = own_rank place.scope place.prefix operand in
        let over = inner_rank place.scope hint place.prefix source in
        let regions = region_sites reach hint source in
        let operands = expr_sites (over_source reach over source) over operand in
        over_of source operand place shapes rank fits known h.0.ranked
        (each_left IsClean regions operands h.1) g.1 a
        (no_place (ranks_clash over hint) _ h.0.none.ranks)
        (λ region over is inner agrees. of_rank operand (under_source place over region)
        (with_current shapes over
        (current_over (inner_shape place.scope shapes over source) false)) over unary_level inner
        known
        (subst (λ r. Clean (expr_sites (over_source reach r source) r operand)) is
        (each_right IsClean regions operands h.1)) g.2 agrees)
    of_rank (Scan at operator along operand) place shapes rank level fits known h g a = (
      goes_along rank along h.0.ranked g.1 (no_place (no_dimension rank along) _ h.0.none.ranks),
      of_rank operand place shapes rank unary_level fits known h.1 g.2 a,
    )
    of_rank (Flood at source operand) place shapes rank level fits known h g a =
        let reach = at_place place shapes in
        let hint = own_rank place.scope place.prefix operand in
        let over = inner_rank place.scope hint place.prefix source in
        let regions = region_sites reach hint source in
        let operands = expr_sites (over_source reach over source) over operand in
        over_of source operand place shapes rank fits known h.0.ranked
        (each_left IsClean regions operands h.1) g.1 a
        (no_place (ranks_clash over hint) _ h.0.none.ranks)
        (λ region over is inner agrees. of_rank operand (under_source place over region)
        (with_current shapes over
        (current_over (inner_shape place.scope shapes over source) false)) over unary_level inner
        known
        (subst (λ r. Clean (expr_sites (over_source reach r source) r operand)) is
        (each_right IsClean regions operands h.1)) g.2 agrees)

    are_of_rank : (exprs : Exprs) (place : Place) (shapes : Shapes) (rank before : Rank)
        → Fits place shapes → KnowsDirections place.scope
        → Clean (exprs_sites (at_place place shapes) rank exprs) → AreExprs exprs → IsSome rank
        → Agrees rank (both_ranks before (own_ranks place.scope place.prefix exprs))
        → index_clashes (at_place place shapes) before exprs ≡ [] → AreOfRank place rank exprs
    are_of_rank NoExpr place shapes rank before fits known h g s a c = tt
    are_of_rank (ThenExpr first rest) place shapes rank before fits known h g s a c =
        let reach = at_place place shapes in
        let own = own_rank place.scope place.prefix first in
        let all : Agrees rank (both_ranks (both_ranks before own)
        (own_ranks place.scope place.prefix rest)) =
        subst (Agrees rank)
        (sym (both_assoc before own (own_ranks place.scope place.prefix rest))) a in
        let clashes = empty_parts _ _ c in (
          of_rank first place shapes rank expr_level fits known
              (each_left IsClean (expr_sites reach rank first) (exprs_sites reach rank rest) h) g.0
              (right_agrees before own rank s (no_place (ranks_clash before own) _ clashes.0)
              (left_agrees (both_ranks before own) (own_ranks place.scope place.prefix rest) rank s
              all)),
          are_of_rank rest place shapes rank (both_ranks before own) fits known
              (each_right IsClean (expr_sites reach rank first) (exprs_sites reach rank rest) h) g.1
              s all clashes.1,
        )

-- ---- a scalar goes with every rank

-- the rank of a name's array isn't 0
not_zero_named : {A : Type 0} (kind : Option Kind) (thing : Option Thing) → IsNamed kind thing
    → array_rank kind ≡ Some 0 → A
not_zero_named (Some (kind.Array base shape)) thing h e = absurd (subst IsArrayRank e h.1)
not_zero_named (Some (kind.Config base)) thing h e = cc
not_zero_named (Some (kind.Constant base)) thing h e = cc
not_zero_named (Some (kind.Scalar base)) thing h e = cc
not_zero_named (Some (kind.Region shape)) thing h e = cc
not_zero_named (Some (kind.Direction rank)) thing h e = cc
not_zero_named (Some (kind.Procedure signature)) thing h e = cc
not_zero_named None thing h e = cc

module _ (place : Place) (shapes : Shapes) (fits : Fits place shapes) (rank : Rank) where
  raised_name : (name : Name) (thing : Option Thing) → IsNamed (kind_of place.scope name) thing
      → IsNameOf place (Some 0) name thing → IsNameOf place rank name thing
  raised_name name (Some (ArrayAt array home)) k h =
      not_zero_named (kind_of place.scope name) (Some (ArrayAt array home)) k h
  raised_name name (Some (Scalar target)) k h = tt
  raised_name name (Some (Fixed value)) k h = tt
  raised_name name None k h = tt

  raised_over : {A : Type 0} (over : Rank) → over ≡ Some 0 → IsArrayRank over → A
  raised_over over e p = absurd (subst IsArrayRank e p)

  raised_along : (along : Option ℤ) → GoesAlong (Some 0) along → GoesAlong rank along
  raised_along None h = tt
  raised_along (Some along) h = absurd (omega (arith, h.2.0, h.2.1))

  mutual
    pub raised : (expr : Expr) → IsOfRank place (Some 0) expr → IsOfRank place rank expr
    raised (Number at value) h = tt
    raised (Truth at value) h = tt
    raised (Coord at k) h = absurd (omega (arith, h.0, h.1))
    raised (Named at name) h =
        raised_name name (thing_of place.environment name.text) (fits.names name) h
    raised (Shifted at name shift) h =
        not_zero_named (kind_of place.scope name) (thing_of place.environment name.text)
        (fits.names name) h.0
    raised (Around at name shift) h =
        not_zero_named (kind_of place.scope name) (thing_of place.environment name.text)
        (fits.names name) h.0
    raised (Remap at name indices) h = (h.0, all_raised indices h.1)
    raised (Call at name actuals) h = absurd h
    raised (Paren at inside) h = raised inside h
    raised (Neg at operand) h = raised operand h
    raised (Not at operand) h = raised operand h
    raised (Abs at operand) h = raised operand h
    raised (Pair at op left right) h = (raised left h.0, raised right h.1)
    raised (Reduce at operator NoBracket operand) h = h
    raised (Reduce at operator (Bracketed source) operand) h = raised_over _ h.0 h.1.0
    raised (Scan at operator along operand) h = (raised_along along h.0, raised operand h.1)
    raised (Flood at source operand) h = raised_over _ h.0 h.1.0

    all_raised : (exprs : Exprs) → AreOfRank place (Some 0) exprs → AreOfRank place rank exprs
    all_raised NoExpr h = tt
    all_raised (ThenExpr first rest) h = (raised first h.0, all_raised rest h.1)
