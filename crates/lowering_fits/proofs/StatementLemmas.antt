-- The code of statements without others in them fits.
use Rattle.std.proofs.Common.{◌≡◌, ℕ, suc, ◌+◌, ◌≤◌, List, [], ◌∷◌, length, sym, ap, ◌∙◌, subst, arith, inr}
use Rattle.std.specs.Prelude.{◌⊎◌, Option, Some, None, option_map, slice_get}
use Rattle.std.specs.Option.{IsSomeAnd}
use Rattle.std.proofs.Common.{inl, inr}
use Rattle.zpl_nums.specs.declared.operators.Op.{Op}
use Rattle.meaning_ranks.specs.of_zpl_tree.Syntax.{Name, Expr}
use Rattle.meaning_ranks.specs.of_zpl_names.Kinds.{Rank, Kind, Config, Constant, Region, Direction, Scalar as ScalarKind, Array as ArrayKind, Procedure}
use Rattle.meaning_ranks.specs.of_zpl_names.Scope.{kind_of}
use Rattle.meaning_ranks.specs.of_zpl_names.Ranks.{array_shape, array_rank}
use Rattle.meaning_ranks.specs.of_zpl_names.Sites.{Role, Test, Assigned, target_rank}
use Rattle.meaning_ranks.specs.of_zpl_meaning.Store.{Thing, Scalar, ArrayAt, Fixed, thing_of}
use Rattle.meaning_ranks.specs.of_zpl_meaning.Context.{Currents, Edge}
use Rattle.meaning_ranks.specs.of_zpl_meaning.Proper.{IsTarget}
use Rattle.meaning_ranks.specs.Ranked.{TakesRank}
use Rattle.stored_shifts.specs.of_node_form.Expression.{Expression}
use Rattle.stored_shifts.specs.of_node_form.declared.tables.Tables.{Tables}
use Rattle.lower_numbers.specs.of_row_runs.Structured as piece
use Rattle.lower_numbers.specs.of_flat_form.Row.{Row}
use Rattle.lower_numbers.specs.of_zpl_lowering.Where.{Stored, Slotted, slotted_at, Where, Next, rank_in, rank_for, line_of}
use Rattle.lower_numbers.specs.of_zpl_lowering.Slate.{Placed}
use Rattle.lower_numbers.specs.of_zpl_lowering.Reference.{Reference, refer_to, over_reference}
use Rattle.lower_numbers.specs.of_zpl_lowering.Hoist.{mask_code}
use Rattle.lower_numbers.specs.of_zpl_lowering.Lowered.{Lowered, rows_alone, Phased, phased_with, phased, first_left}
use Rattle.lower_numbers.specs.of_zpl_lowering.Statement.{placed_in, test_of, set_row, put_row, lowered_scalar, lowered_array, lowered_to, value_rows, with_values}
use Rattle.lowering_fits.specs.Inline.{FitsScalar, FitRows}
use Rattle.lowering_fits.specs.Slates.{IsOfRank, FitsOver, FitsTree}
use Rattle.lowering_fits.specs.Reach.{place_at, IsStoredAs, IsReach}
use Rattle.lowering_fits.specs.Lowerings.{IsLaidOut, FitsLowered}
use Rattle.lowering_fits.proofs.TreeLemmas.{scalar_tree, tree_of_rank, IsBelow, below_at, IsThere, stored_at, array_of}
use Rattle.lowering_fits.proofs.VectorLemmas.{vector_by}
use Rattle.lowering_fits.proofs.SlateLemmas.{set_fits, put_loop, mask_fits, mask_still}
use Rattle.lowering_fits.proofs.BracketLemmas.{rank_number, LimitsAreTold}
use Rattle.lowering_fits.proofs.SettleLemmas.{over_of}
use Rattle.lowering_fits.proofs.PhaseLemmas.{laid_front, laid_behind, both_fit, rows_alone_fit, refers_fit, over_referred, AreSound, FitLefts, phases_fit, then_fits, then_laid}

-- ---- what is left of one expression

pub first_fits : (base : Tables) (one : Placed) (left : List Expression) →
    FitLefts base (one ∷ []) left → FitsTree base (rank_number one.rank) (first_left left)
first_fits base one [] fits = tt
first_fits base one (first ∷ rest) fits = fits.0

module _ (limits : LimitsAreTold) (base : Tables) (w : Where) (result : ℕ) (currents : Currents)
    (edge : Option Edge) (reach : IsReach base w currents) where
  -- ---- tests

  pub test_fits : (next : Next) (one : Expr) (at : ℕ) → rank_in w Test one ≡ Some 0 →
      AreSound w (place_at w result currents edge) (placed_in w Test one ∷ []) →
      IsLaidOut base next (test_of w next one at).before →
      FitsLowered base (test_of w next one at).before
      × FitsScalar base (test_of w next one at).check.expr
  test_fits next one at scalar sound laid =
      let placed : Placed = placed_in w Test one in
      let phases : Phased = phased w (line_of w at) next (placed ∷ []) in
      let fit = phases_fit limits base w result currents edge reach (line_of w at) next [] []
      (placed ∷ []) tt tt sound laid in (
        fit.fits,
        scalar_tree base (first_left phases.left)
            (subst (λ n. FitsTree base n (first_left phases.left)) (ap rank_number scalar)
            (first_fits base placed phases.left fit.lefts)),
      )

  -- ---- a scalar is set

  set_row_fits : (line : ℕ) (tree : Expression) (target : Option ℕ) → FitsTree base 0 tree →
      IsBelow base target → FitRows base 0 (set_row line tree target)
  set_row_fits line tree None fits below = tt
  set_row_fits line tree (Some scalar) fits below =
      (set_fits base scalar tree line below fits, tt)

  pub scalar_fits : (line : ℕ) (next : Next) (value : Placed) (target : Option ℕ) →
      value.rank ≡ Some 0 → AreSound w (place_at w result currents edge) (value ∷ []) →
      IsBelow base target → IsLaidOut base next (lowered_scalar w line next value target) →
      FitsLowered base (lowered_scalar w line next value target)
  scalar_fits line next value target scalar sound below laid =
      let phases : Phased = phased w line next (value ∷ []) in
      let tree : Expression = first_left phases.left in
      let fit = phases_fit limits base w result currents edge reach line next [] [] (value ∷ []) tt
      tt sound (then_laid base next phases (set_row line tree target) laid) in
      then_fits base (value ∷ []) phases (set_row line tree target) fit
      (set_row_fits line tree target
      (subst (λ n. FitsTree base n tree) (ap rank_number scalar)
      (first_fits base value phases.left fit.lefts)) below)

  -- ---- an array is put

  put_row_fits : (line rank : ℕ) (over : Slotted) (tree : Expression) (target : Option Stored) →
      FitsOver base w.numbers rank over → IsThere base target → IsOfRank rank target →
      FitsTree base rank tree → FitRows base 0 (put_row w line over tree target)
  put_row_fits line rank over tree None is there same fits = tt
  put_row_fits line rank over tree (Some stored) is there same fits = (
    put_loop base rank over.slot stored.array tree (mask_code w.numbers over.mask) line
        is.is_rank is.has (array_of base rank stored.array stored.storage there same) fits
        (mask_fits base w.numbers rank over.mask reach.numbers is.is_rank is.masked)
        (inr (inr (mask_still base w.numbers over.mask))),
    tt,
  )

  pub array_fits : (line : ℕ) (next : Next) (rank : ℕ) (over : Slotted) (value : Placed)
      (target : Option Stored) → FitsOver base w.numbers rank over → IsThere base target →
      IsOfRank rank target → (value.rank ≡ Some 0) ⊎ (rank_number value.rank ≡ rank) →
      AreSound w (place_at w result currents edge) (value ∷ []) →
      IsLaidOut base next (lowered_array w line next over value target) →
      FitsLowered base (lowered_array w line next over value target)
  array_fits line next rank over value target is there same takes sound laid =
      let own : List Reference = refer_to over.slot [] target in
      let last : List Reference = over_reference w.numbers over in
      let phases : Phased = phased_with w line next own last (value ∷ []) in
      let tree : Expression = first_left phases.left in
      let rows : List Row = put_row w line over tree target in
      let fit = phases_fit limits base w result currents edge reach line next own last
      (value ∷ [])
      (refers_fit base rank over.slot [] target is.has there same (vector_by rank [] tt))
      (over_referred base w.numbers rank over reach.numbers is) sound
      (then_laid base next phases rows laid) in
      then_fits base (value ∷ []) phases rows fit
      (put_row_fits line rank over tree target is there same
      (taken (first_left phases.left) takes (first_fits base value phases.left fit.lefts)))
    where
      taken : (tree : Expression) → (value.rank ≡ Some 0) ⊎ (rank_number value.rank ≡ rank) →
          FitsTree base (rank_number value.rank) tree → FitsTree base rank tree
      taken tree (inl scalar) fits =
          tree_of_rank base rank tree
          (subst (λ n. FitsTree base n tree) (ap rank_number scalar) fits)
      taken tree (inr same) fits = subst (λ n. FitsTree base n tree) same fits

  -- ---- assignments

  -- the current region that an array is assigned under has the array's rank
  target_is : (name : Name) (kind : Option Kind) (prefix : Rank) (n : ℕ) →
      option_map length (array_shape kind) ≡ Some n → target_rank prefix kind ≡ Some n
  target_is name (Some (ArrayKind own shape)) prefix n is = is
  target_is name (Some (Config own)) prefix n is = cc
  target_is name (Some (Constant own)) prefix n is = cc
  target_is name (Some (Region shape)) prefix n is = cc
  target_is name (Some (Direction rank)) prefix n is = cc
  target_is name (Some (ScalarKind own)) prefix n is = cc
  target_is name (Some (Procedure signature)) prefix n is = cc
  target_is name None prefix n is = cc

  pub to_fits : (role : Role) (name : Name) (op : Option Op) → role ≡ Assigned name op →
      (line : ℕ) (next : Next) (value : Expr) (thing : Option Thing) →
      thing_of w.environment name.text ≡ thing →
      IsTarget currents (rank_for w role) thing →
      TakesRank (place_at w result currents edge) name thing (rank_in w role value) →
      AreSound w (place_at w result currents edge) (placed_in w role value ∷ []) →
      IsLaidOut base next (lowered_to w role line next value thing) →
      FitsLowered base (lowered_to w role line next value thing)
  to_fits role name op r line next value (Some (Scalar target)) e aim takes sound laid =
      scalar_fits line next (placed_in w role value) (slice_get w.numbers.scalars target) takes
      sound (below_at base w.numbers.scalars target reach.numbers.scalars) laid
  to_fits role name op r line next value (Some (Fixed constant)) e aim takes sound laid =
      rows_alone_fit base [] tt
  to_fits role name op r line next value None e aim takes sound laid = rows_alone_fit base [] tt
  to_fits role name op r line next value (Some (ArrayAt target home)) e aim takes sound laid =
      let found = reach.names name target home e in
      let over : Slotted = slotted_at w.currents (rank_for w role) in
      let is = over_of base w.numbers currents w.currents (rank_for w role) reach.here aim in
      let aimed : rank_for w role ≡ Some home.rank =
      ap (λ role. rank_for w role) r
      ∙ target_is name (kind_of w.scope name) w.prefix home.rank found.same in
      array_fits line next (rank_number (rank_for w role)) over (placed_in w role value)
      (slice_get w.numbers.arrays target) is
      (stored_at base w.numbers.arrays target reach.numbers.arrays)
      (stored_same (slice_get w.numbers.arrays target) (rank_for w role) aimed found.same found.has)
      (value_rank (rank_in w role value) (rank_for w role) aimed found.same takes) sound laid
    where
      stored_same : (stored : Option Stored) (rank : Rank) → rank ≡ Some home.rank →
          option_map length (array_shape (kind_of w.scope name)) ≡ Some home.rank →
          IsSomeAnd stored (IsStoredAs (array_shape (kind_of w.scope name))) →
          IsOfRank (rank_number rank) stored
      stored_same None rank is same has = tt
      stored_same (Some stored) rank is same has =
          let one : Some stored.storage.rank ≡ Some home.rank = sym has.rank ∙ same in
          ap rank_number (one ∙ sym is)

      value_rank : (own rank : Rank) → rank ≡ Some home.rank →
          option_map length (array_shape (kind_of w.scope name)) ≡ Some home.rank →
          (own ≡ Some 0) ⊎ (array_rank (kind_of w.scope name) ≡ own) →
          (own ≡ Some 0) ⊎ (rank_number own ≡ rank_number rank)
      value_rank own rank is same (inl scalar) = inl scalar
      value_rank own rank is same (inr of) = inr (ap rank_number (sym of ∙ (same ∙ sym is)))

  -- ---- values of which each goes into a scalar

  abbrev pub AllScalar : List Placed → Type 0
  AllScalar [] = Unit {0}
  AllScalar (one ∷ rest) = (one.rank ≡ Some 0) × AllScalar rest

  pub value_rows_fit : (line scalar : ℕ) (placed : List Placed) (left : List Expression) →
      AllScalar placed → FitLefts base placed left → scalar + length left ≤ base.scalars →
      FitRows base 0 (value_rows line scalar left)
  value_rows_fit line scalar [] [] all fits below = tt
  value_rows_fit line scalar [] (first ∷ rest) all fits below = absurd fits
  value_rows_fit line scalar (one ∷ placed) [] all fits below = tt
  value_rows_fit line scalar (one ∷ placed) (first ∷ rest) all fits below = (
    set_fits base scalar first line (omega arith)
        (subst (λ n. FitsTree base n first) (ap rank_number all.0) fits.0),
    value_rows_fit line (suc scalar) placed rest all.1 fits.1 (omega arith),
  )

  pub values_fit : (line : ℕ) (next : Next) (placed : List Placed) → AllScalar placed →
      AreSound w (place_at w result currents edge) placed →
      IsLaidOut base next
      (with_values line (next.scalars + (phased w line next placed).lowered.scalars)
      (phased w line next placed)) →
      FitsLowered base
      (with_values line (next.scalars + (phased w line next placed).lowered.scalars)
      (phased w line next placed))
  values_fit line next placed all sound laid =
      let phases : Phased = phased w line next placed in
      let scalar : ℕ = next.scalars + phases.lowered.scalars in
      let rows : Lowered =
      record (rows_alone (value_rows line scalar phases.left)) {
        scalars = length phases.left;
      } in
      let code = piece.Then phases.lowered.code rows.code in
      let first = laid_front base next code phases.lowered rows laid in
      let rest = laid_behind base next code phases.lowered rows laid in
      let below = rest.below in
      let fit = phases_fit limits base w result currents edge reach line next [] [] placed tt tt
      sound first in
      both_fit base phases.lowered rows fit.fits (record {
        code_fits = value_rows_fit line scalar placed phases.left all fit.lefts (omega arith);
        slot_ranks = tt;
        temp_ranks = tt;
        small_shifts = tt;
      })
