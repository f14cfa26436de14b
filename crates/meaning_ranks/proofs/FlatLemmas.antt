-- Expressions without faults have no flood dimension where they may have none.
use Rattle.std.proofs.Common.{◌≡◌, ℕ, zero, suc, ◌-◌, ◌≤◌, false, ◌||◌}
use Rattle.std.proofs.Common.{[], ◌∷◌, length, Option, Some, None, IsSome, refl, sym, ap, ◌∙◌}
use Rattle.std.proofs.Common.{subst, arith, true≢false}
use Rattle.std.specs.Prelude.{slice_get, slice_index_or}
use Rattle.std.specs.List.{list_any}
use Rattle.std.proofs.lemmas.Bool.{leb-true, ltb-false, or_parts}
use Rattle.zpl_region.specs.declared.dims.Dim.TheVariants as dim
use Rattle.zpl_region.specs.declared.regions.Region.{Region}
use Rattle.zpl_region.specs.Region.{dim_at}
use Rattle.meaning_runs.specs.of_zpl_tree.Syntax.{Expr, Number, Truth, Coord, Named, Shifted, Around, Remap}
use Rattle.meaning_runs.specs.of_zpl_tree.Syntax.{Call, Paren, Neg, Not, Abs, Pair, Reduce, Scan, Flood, Exprs}
use Rattle.meaning_runs.specs.of_zpl_tree.Syntax.{NoExpr, ThenExpr, Inner, NoBracket, Bracketed, Base}
use Rattle.meaning_runs.specs.of_zpl_tree.Grammar.{IsExpr, AreExprs}
use Rattle.meaning_runs.specs.of_zpl_tree.Grammar.{expr_level, unary_level, left_level, right_level}
use Rattle.meaning_runs.specs.of_zpl_names.Kinds.{Shape, Rank}
use Rattle.meaning_runs.specs.of_zpl_names.Ranks.{inner_rank, own_rank, operand_rank}
use Rattle.meaning_runs.specs.of_zpl_names.Shapes.{Current, Absent, Unknown, Over as Shaped, Shapes, current_at}
use Rattle.meaning_runs.specs.of_zpl_names.Shapes.{current_of, current_over, with_current, inner_shape, shape_within}
use Rattle.meaning_runs.specs.of_zpl_names.Shapes.{shape_of_current}
use Rattle.meaning_runs.specs.of_zpl_names.Sites.{Reach, over_source, expr_sites, exprs_sites, region_sites}
use Rattle.meaning_runs.specs.of_zpl_names.Faults.{has_flood, floods_at, is_past}
use Rattle.meaning_runs.proofs.of_zpl_names.NameLemmas.{no_place}
use Rattle.meaning_runs.specs.of_zpl_names.Scope.{kind_of}
use Rattle.meaning_runs.specs.of_zpl_names.Ranks.{array_shape}
use Rattle.meaning_runs.specs.of_zpl_binding.Regions.{no_region}
use Rattle.meaning_runs.specs.of_zpl_meaning.Computed.{Gives}
use Rattle.meaning_runs.specs.of_zpl_meaning.Store.{Store}
use Rattle.meaning_runs.specs.of_zpl_meaning.Context.{Over, Currents, over_at, over_or, Place}
use Rattle.meaning_runs.specs.of_zpl_meaning.Regions.{under_source}
use Rattle.meaning_runs.specs.of_zpl_meaning.Settled.{source_in}
use Rattle.meaning_runs.specs.of_zpl_meaning.Proper.{HasCurrent, IsArrayRank, IsProper, AreProper}
use Rattle.meaning_runs.proofs.of_zpl_meaning.DepthLemmas.{each_left, each_right}
use Rattle.meaning_runs.proofs.of_zpl_meaning.ProperLemmas.{IsClean, Clean, reach_at}
use Rattle.meaning_ranks.specs.Shaped.{is_flood, IsShaped}
use Rattle.meaning_ranks.specs.Flat.{no_floods, IsFlatOf, HasFlatCurrent, IsFlatIn, AreFlatIn}
use Rattle.meaning_ranks.specs.Ranked.{IsOfRank}
use Rattle.meaning_ranks.proofs.ShapeLemmas.{FitsIn}
use Rattle.meaning_ranks.proofs.CurrentLemmas.{AreTold, KnowsRegions, IsTold, HasLength, over_told}
use Rattle.meaning_ranks.proofs.CurrentLemmas.{region_told, region_comes, region_first, with_told}
use Rattle.meaning_ranks.proofs.CurrentLemmas.{flood_at}

-- ---- shapes without a flood dimension

flat_shape : (shape : Shape) → list_any (λ flood. flood) shape ≡ false
    → shape ≡ no_floods (length shape)
flat_shape [] e = refl
flat_shape (flood ∷ shape) e =
    let parts = or_parts flood (list_any (λ flood. flood) shape) e in
    ap (λ b. b ∷ shape) parts.0 ∙ ap (λ rest. false ∷ rest) (flat_shape shape parts.1)

flat_of : (shape : Shape) (n : ℕ) (region : Region) → has_flood (Some shape) ≡ false
    → length shape ≡ n → IsShaped shape region → IsFlatOf (Some n) region
flat_of shape n region e same h =
    subst (λ s. IsShaped s region) (flat_shape shape e ∙ ap no_floods same) h

flat_told : (n : ℕ) (current : Current) (over : Option Over) → IsTold n current over
    → IsSome over → has_flood (shape_of_current current) ≡ false
    → IsFlatOf (Some n) (over_or over).region
flat_told n Absent over h s e = absurd (true≢false (sym (subst IsSome h s)))
flat_told n Unknown over h s e = absurd h
flat_told n (Shaped shape masked) None h s e = absurd h.2
flat_told n (Shaped shape masked) (Some over) h s e = flat_of shape n over.region e h.0 h.2

pub flat_current : (rank : Rank) (shapes : Shapes) (place : Place)
    → AreTold shapes place.currents → HasCurrent place.currents rank
    → has_flood (shape_of_current (current_of shapes rank)) ≡ false → HasFlatCurrent place rank
flat_current (Some (suc zero)) shapes place told c e =
    flat_told 1 shapes.one place.currents.one told.one c e
flat_current (Some (suc (suc zero))) shapes place told c e =
    flat_told 2 shapes.two place.currents.two told.two c e
flat_current (Some (suc (suc (suc zero)))) shapes place told c e =
    flat_told 3 shapes.three place.currents.three told.three c e
flat_current (Some zero) shapes place told c e = absurd c
flat_current (Some (suc (suc (suc (suc n))))) shapes place told c e = absurd c
flat_current None shapes place told c e = absurd c

-- ---- coordinates

shape_at_is : (shape : Shape) (k : ℕ) → 1 ≤ k → k ≤ 3 → k ≤ length shape
    → floods_at (Some shape) k ≡ false → slice_get shape (k - 1) ≡ Some false
shape_at_is shape zero le three below e = absurd (omega (arith, le))
shape_at_is [] (suc k) le three below e = absurd (omega (arith, below))
shape_at_is (one ∷ rest) (suc zero) le three below e = ap (λ b. Some b) e
shape_at_is (one ∷ []) (suc (suc k)) le three below e = absurd (omega (arith, below))
shape_at_is (one ∷ two ∷ rest) (suc (suc zero)) le three below e = ap (λ b. Some b) e
shape_at_is (one ∷ two ∷ []) (suc (suc (suc k))) le three below e = absurd (omega (arith, below))
shape_at_is (one ∷ two ∷ third ∷ rest) (suc (suc (suc zero))) le three below e =
    ap (λ b. Some b) e
shape_at_is (one ∷ two ∷ third ∷ rest) (suc (suc (suc (suc k)))) le three below e =
    absurd (omega (arith, three))

-- what counts where there is no current region has no flood dimension
none_flat : (k : ℕ) → 1 ≤ k → k ≤ 3 → is_flood (dim_at no_region k) ≡ false
none_flat zero le three = absurd (omega (arith, le))
none_flat (suc j) le three =
    subst (λ i. is_flood (slice_index_or no_region.dims i dim.Flood) ≡ false) (sym less)
    (by j (omega (arith, three)))
  where
    less : suc j - 1 ≡ j
    less = omega arith

    by : (i : ℕ) → i ≤ 2 → is_flood (slice_index_or no_region.dims i dim.Flood) ≡ false
    by zero h = refl
    by (suc zero) h = refl
    by (suc (suc zero)) h = refl
    by (suc (suc (suc i))) h = absurd (omega (arith, h))

coord_told : (n : ℕ) (current : Current) (over : Option Over) (k : ℕ) → IsTold n current over
    → 1 ≤ k → k ≤ 3 → k ≤ n → floods_at (shape_of_current current) k ≡ false
    → is_flood (dim_at (over_or over).region k) ≡ false
coord_told n Absent over k h le three below e =
    subst (λ o. is_flood (dim_at (over_or o).region k) ≡ false) (sym h) (none_flat k le three)
coord_told n Unknown over k h le three below e = absurd h
coord_told n (Shaped shape masked) None k h le three below e = absurd h.2
coord_told n (Shaped shape masked) (Some over) k h le three below e =
    flood_at shape over.region.dims (k - 1) false h.2.floods
    (shape_at_is shape k le three (subst (λ m. k ≤ m) (sym h.0) below) e)

pub coord_flat : (rank : Rank) (k : ℕ) (shapes : Shapes) (place : Place)
    → AreTold shapes place.currents → IsSome rank → 1 ≤ k → k ≤ 3 → is_past rank k ≡ false
    → floods_at (shape_of_current (current_of shapes rank)) k ≡ false
    → is_flood (dim_at (over_at place.currents rank).region k) ≡ false
coord_flat None k shapes place told s le three past e = absurd (true≢false (sym s))
coord_flat (Some zero) k shapes place told s le three past e = none_flat k le three
coord_flat (Some (suc zero)) k shapes place told s le three past e =
    coord_told 1 shapes.one place.currents.one k told.one le three (ltb-false 1 k past) e
coord_flat (Some (suc (suc zero))) k shapes place told s le three past e =
    coord_told 2 shapes.two place.currents.two k told.two le three (ltb-false 2 k past) e
coord_flat (Some (suc (suc (suc zero)))) k shapes place told s le three past e =
    coord_told 3 shapes.three place.currents.three k told.three le three (ltb-false 3 k past) e
coord_flat (Some (suc (suc (suc (suc n))))) k shapes place told s le three past e =
    none_flat k le three

-- ---- expressions

current_rank : (currents : Currents) (rank : Rank) → HasCurrent currents rank → IsArrayRank rank
current_rank currents (Some (suc zero)) c = tt
current_rank currents (Some (suc (suc zero))) c = tt
current_rank currents (Some (suc (suc (suc zero)))) c = tt
current_rank currents (Some zero) c = absurd c
current_rank currents (Some (suc (suc (suc (suc n))))) c = absurd c
current_rank currents None c = absurd c

fits_flat : (shape : Option Shape) (n : ℕ) (region : Region) → HasLength n shape
    → has_flood shape ≡ false → FitsIn shape (Gives region) → IsFlatOf (Some n) region
fits_flat None n region h e f = absurd h
fits_flat (Some shape) n region h e f = flat_of shape n region e h f

-- the source of an operator, and what is current in its operand
record IsFlatSource (place : Place) (shapes : Shapes) (over : Rank) (source : Inner)
    (region : Region) : Type 0 where
  flat : IsFlatOf over region
  told : AreTold (with_current shapes over
      (current_over (inner_shape place.scope shapes over source) false))
      (under_source place over region).currents

module _ (shattered : Rank) (result : Option Base) where
  abbrev at_place : Place → Shapes → Reach
  at_place place shapes = reach_at place shapes shattered result

  source_flat : (source : Inner) (operand : Expr) (place : Place) (shapes : Shapes)
      (store : Store) (over : Rank) (region : Region) → KnowsRegions place
      → AreTold shapes place.currents
      → inner_rank place.scope (own_rank place.scope place.prefix operand) place.prefix source
      ≡ over → IsArrayRank over
      → Clean (region_sites (at_place place shapes) (own_rank place.scope place.prefix operand)
      source)
      → has_flood (inner_shape place.scope shapes over source) ≡ false
      → source_in place store source operand ≡ Gives region
      → IsFlatSource place shapes over source region
  source_flat source operand place shapes store None region known told e p h flood comes = absurd p
  source_flat source operand place shapes store (Some n) region known told e p h flood comes =
      let hint = own_rank place.scope place.prefix operand in
      let reach = at_place place shapes in
      let long = region_told source place shapes shattered result hint n told e p
      (region_first reach hint source h) in
      let fits = subst (FitsIn (shape_within place.scope (current_at shapes n) source)) comes
      (region_comes source place shapes store hint n known told e p long) in record {
        flat = fits_flat (shape_within place.scope (current_at shapes n) source) n region long flood
            fits;
        told = with_told shapes place.currents n _ (record { region = region; mask = None }) p told
            (over_told n (shape_within place.scope (current_at shapes n) source) false
            (record { region = region; mask = None }) long (λ none. refl) fits);
      }

  mutual
    pub flat : (expr : Expr) (place : Place) (shapes : Shapes) (rank : Rank) (level : ℕ)
        → KnowsRegions place → AreTold shapes place.currents
        → Clean (expr_sites (at_place place shapes) rank expr) → IsExpr level expr
        → IsProper place rank expr → IsFlatIn place rank expr
    flat (Number at value) place shapes rank level known told h g q = tt
    flat (Truth at value) place shapes rank level known told h g q = tt
    flat (Coord at k) place shapes rank level known told h g q =
        coord_flat rank k shapes place told h.0.ranked (leb-true 1 k g.0) (leb-true k 3 g.1)
        (no_place (is_past rank k) _ h.0.none.ranks)
        (no_place (floods_at (shape_of_current (current_of shapes rank)) k) _ h.0.under.floods)
    flat (Named at name) place shapes rank level known told h g q = tt
    flat (Shifted at name shift) place shapes rank level known told h g q = tt
    flat (Around at name shift) place shapes rank level known told h g q = tt
    flat (Remap at name indices) place shapes rank level known told h g q = (
      flat_current rank shapes place told q.0.1
          (or_parts (has_flood (array_shape (kind_of place.scope name)))
          (has_flood (shape_of_current (current_of shapes rank)))
          (no_place (has_flood (array_shape (kind_of place.scope name))
          || has_flood (shape_of_current (current_of shapes rank))) _ h.0.under.floods)).1,
      all_flat indices place shapes rank known told h.1 g.1 q.1,
    )
    flat (Call at name actuals) place shapes rank level known told h g q = tt
    flat (Paren at inside) place shapes rank level known told h g q =
        flat inside place shapes rank expr_level known told h.1 g q
    flat (Neg at operand) place shapes rank level known told h g q =
        flat operand place shapes rank unary_level known told h.1 g.1 q
    flat (Not at operand) place shapes rank level known told h g q =
        flat operand place shapes rank unary_level known told h.1 g.1 q
    flat (Abs at operand) place shapes rank level known told h g q =
        flat operand place shapes rank expr_level known told h.1 g q
    flat (Pair at op left right) place shapes rank level known told h g q =
        let reach = at_place place shapes in (
          flat left place shapes rank (left_level op) known told
              (each_left IsClean (expr_sites reach rank left) (expr_sites reach rank right) h.1) g.1
              q.0,
          flat right place shapes rank (right_level op) known told
              (each_right IsClean (expr_sites reach rank left) (expr_sites reach rank right) h.1)
              g.2 q.1,
        )
    flat (Reduce at operator NoBracket operand) place shapes rank level known told h g q =
        let over = operand_rank place.scope place.prefix operand in (
          flat_current over shapes place told q.0
              (no_place (has_flood (shape_of_current (current_of shapes over))) _
              h.0.under.floods),
          flat operand place shapes over unary_level known told h.1.1 g.2 q.1,
        )
    flat (Reduce at operator (Bracketed source) operand) place shapes rank level known told h g
        q =
        let reach = at_place place shapes in
        let hint = own_rank place.scope place.prefix operand in
        let over = inner_rank place.scope hint place.prefix source in
        let regions = region_sites reach hint source in
        let operands = expr_sites (over_source reach over source) over operand in
        λ store region comes.
        let found = source_flat source operand place shapes store over region known told refl
        (current_rank place.currents over q.0) (each_left IsClean regions operands h.1)
        (no_place (has_flood (inner_shape place.scope shapes over source)) _ h.0.under.floods)
        comes in (
          found.flat,
          flat operand (under_source place over region)
              (with_current shapes over
              (current_over (inner_shape place.scope shapes over source) false)) over unary_level
              known found.told (each_right IsClean regions operands h.1) g.2 (q.2 region),
        )
    flat (Scan at operator along operand) place shapes rank level known told h g q = (
      flat_current rank shapes place told q.0
          (no_place (has_flood (shape_of_current (current_of shapes rank))) _ h.0.under.floods),
      flat operand place shapes rank unary_level known told h.1 g.2 q.1,
    )
    flat (Flood at source operand) place shapes rank level known told h g q =
        let reach = at_place place shapes in
        let hint = own_rank place.scope place.prefix operand in
        let over = inner_rank place.scope hint place.prefix source in
        let regions = region_sites reach hint source in
        let operands = expr_sites (over_source reach over source) over operand in
        λ store region comes.
        let found = source_flat source operand place shapes store over region known told refl
        (current_rank place.currents over q.0) (each_left IsClean regions operands h.1)
        (no_place (has_flood (inner_shape place.scope shapes over source)) _ h.0.under.floods)
        comes in (
          found.flat,
          flat operand (under_source place over region)
              (with_current shapes over
              (current_over (inner_shape place.scope shapes over source) false)) over unary_level
              known found.told (each_right IsClean regions operands h.1) g.2 (q.2 region),
        )

    all_flat : (exprs : Exprs) (place : Place) (shapes : Shapes) (rank : Rank)
        → KnowsRegions place → AreTold shapes place.currents
        → Clean (exprs_sites (at_place place shapes) rank exprs) → AreExprs exprs
        → AreProper place rank exprs → AreFlatIn place rank exprs
    all_flat NoExpr place shapes rank known told h g q = tt
    all_flat (ThenExpr first rest) place shapes rank known told h g q =
        let reach = at_place place shapes in (
          flat first place shapes rank expr_level known told
              (each_left IsClean (expr_sites reach rank first) (exprs_sites reach rank rest) h) g.0
              q.0,
          all_flat rest place shapes rank known told
              (each_right IsClean (expr_sites reach rank first) (exprs_sites reach rank rest) h) g.1
              q.1,
        )

-- ---- a scalar goes with every rank

no_scalar_flat : (place : Place) → HasFlatCurrent place (Some 0) → ⊥
no_scalar_flat place h = by h.rank
  where
    by : no_region.rank ≡ 0 → ⊥
    by e = cc

pub raised_flat : (expr : Expr) (place : Place) (rank : Rank) → IsOfRank place (Some 0) expr
    → IsFlatIn place (Some 0) expr → IsFlatIn place rank expr
raised_flat (Number at value) place rank r h = tt
raised_flat (Truth at value) place rank r h = tt
raised_flat (Coord at k) place rank r h = absurd (omega (arith, r.0, r.1))
raised_flat (Named at name) place rank r h = tt
raised_flat (Shifted at name shift) place rank r h = tt
raised_flat (Around at name shift) place rank r h = tt
raised_flat (Remap at name indices) place rank r h = absurd (no_scalar_flat place h.0)
raised_flat (Call at name actuals) place rank r h = tt
raised_flat (Paren at inside) place rank r h = raised_flat inside place rank r h
raised_flat (Neg at operand) place rank r h = raised_flat operand place rank r h
raised_flat (Not at operand) place rank r h = raised_flat operand place rank r h
raised_flat (Abs at operand) place rank r h = raised_flat operand place rank r h
raised_flat (Pair at op left right) place rank r h =
    (raised_flat left place rank r.0 h.0, raised_flat right place rank r.1 h.1)
raised_flat (Reduce at operator NoBracket operand) place rank r h = h
raised_flat (Reduce at operator (Bracketed source) operand) place rank r h = h
raised_flat (Scan at operator along operand) place rank r h = absurd (no_scalar_flat place h.0)
raised_flat (Flood at source operand) place rank r h = h
