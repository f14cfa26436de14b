-- Expressions that are proper and whose ranks agree become expressions with slots that fit.
use Rattle.std.proofs.Common.{◌≡◌, ℕ, zero, suc, ◌≤◌, Bool, true, false, if◌then◌else◌, ℤ, List, [], ◌∷◌, ◌++◌, length, refl, sym, ap, ◌∙◌, subst, arith}
use Rattle.std.proofs.lemmas.List.{length-map}
use Rattle.std.specs.Prelude.{pos, Option, Some, None, IsSome, option_map, slice_get, replicate, int_rem, unsigned_abs}
use Rattle.std.specs.Option.{IsSomeAnd}
use Rattle.std.proofs.lemmas.Int.{ints}
use lib.Signed.{mag_rem}
use Rattle.zpl_nums.specs.Integer.{truth}
use Rattle.zpl_region.specs.declared.dims.Dim.{Dim}
use Rattle.zpl_region.specs.declared.dims.Dim.TheVariants as dim
use Rattle.zpl_region.specs.declared.regions.Region.{Region}
use Rattle.zpl_region.specs.Dim.{IsUpTo, extent}
use Rattle.zpl_region.specs.Region.{moved}
use Rattle.zpl_region.specs.Ends.{has_none}
use Rattle.zpl_region.specs.Hull.{hull, hull_with, each_hull_with}
use Rattle.stored_shifts.specs.of_zpl_arrays.Around.{zeros, each_rest, copy_shift, copy_storage}
use Rattle.meaning_ranks.specs.of_zpl_tree.Syntax.{Name, Expr, Number, Truth, Coord, Named, Shifted, Around, Remap, Call, Paren, Neg, Not, Abs, Pair, Reduce, Scan, Flood, Exprs, NoExpr, ThenExpr, Dir, Inner, NoBracket, Bracketed}
use Rattle.meaning_ranks.specs.of_zpl_names.Kinds.{Shape, Rank}
use Rattle.meaning_ranks.specs.of_zpl_names.Scope.{kind_of}
use Rattle.meaning_ranks.specs.of_zpl_names.Ranks.{own_rank, operand_rank, array_rank, array_shape, exprs_count, dir_rank}
use Rattle.meaning_ranks.specs.of_zpl_names.Faults.{has_flood}
use Rattle.meaning_ranks.specs.of_zpl_binding.Regions.{no_region}
use Rattle.meaning_ranks.specs.of_zpl_meaning.Store.{Thing, Scalar, ArrayAt, Fixed, thing_of}
use Rattle.meaning_ranks.specs.of_zpl_meaning.Regions.{vector_in}
use Rattle.meaning_ranks.specs.of_zpl_meaning.Context.{Over, Currents, with_over, Edge}
use Rattle.meaning_ranks.specs.of_zpl_meaning.Proper.{HasCurrent, IsArrayRank, IsProperRegion, IsProperInner, IsRead, IsArrayRead, IsProper, AreProper}
use Rattle.meaning_ranks.specs.Ranked.{IsRegionOf, IsInnerOf, HasDimension, GoesAlong, IsNameOf, IsOfRank as IsRankedAt, AreOfRank as AreRankedAt}
use Rattle.stored_shifts.specs.of_node_form.declared.tables.Tables.{Tables}
use Rattle.stored_shifts.specs.of_node_form.Fits.{IsRank}
use Rattle.lower_numbers.specs.of_zpl_lowering.Where.{Stored, Numbers, Slotted, SlotCurrents, slotted_or, slotted_at, with_slotted, Where, Next}
use Rattle.lower_numbers.specs.of_zpl_lowering.Slate as slate
use Rattle.lower_numbers.specs.of_zpl_lowering.Slate.{Slate, Slates, NoSlate, ThenSlate, Settled, alone, behind, both, named_slate, shifted_slate, remap_slate, border_slots, around_slate, source_of, under_source, source_rank, opened_source, of_opened, settled, settled_all}
use Rattle.lower_numbers.specs.of_zpl_lowering.Bracket.{Opened}
use Rattle.lower_numbers.specs.of_zpl_lowering.Hoist.{along_of}
use Rattle.lowering_fits.specs.Inline.{FitRows}
use Rattle.lowering_fits.specs.Slates.{SlotsAt, StoragesAt, IsOfRank, IsRemapOf, FitsOver, slates_count, FitsSlate, FitsSlates, FitsShift, FitsVector, IsWhole}
use Rattle.lowering_fits.specs.Lowerings.{AllRanks}
use Rattle.lowering_fits.specs.Reach.{FitsCurrent, FitCurrents, place_at, IsStoredAs, HasFlatRemaps, HaveFlatRemaps, IsReach}
use Rattle.lowering_fits.proofs.FringeLemmas.{copy_level}
use Rattle.lowering_fits.proofs.TreeLemmas.{slots_first, slots_rest, storages_first, storages_rest, array_of, stored_of}
use Rattle.lowering_fits.proofs.VectorLemmas.{VectorBy, by_vector, vector_by}
use Rattle.lowering_fits.proofs.SlateLemmas.{rows_both}
use Rattle.lowering_fits.proofs.BracketLemmas.{rank_number, SameRanks, FitsOpened, LimitsAreTold, bracket_fits}

-- ---- ranks of slots

pub ranks_both : (xs ys : List ℕ) → AllRanks xs → AllRanks ys → AllRanks (xs ++ ys)
ranks_both [] ys first rest = rest
ranks_both (x ∷ xs) ys first rest = (first.0, ranks_both xs ys first.1 rest)

pub same_ranks : (rank : ℕ) (slots : List ℕ) → IsRank rank → SameRanks rank slots → AllRanks slots
same_ranks rank [] is same = tt
same_ranks rank (slot ∷ slots) is same =
    (subst IsRank (sym same.0) is, same_ranks rank slots is same.1)

replicated_ranks : (rank count : ℕ) → IsRank rank → AllRanks (replicate count rank)
replicated_ranks rank zero is = tt
replicated_ranks rank (suc count) is = (is, replicated_ranks rank count is)

pub array_rank_number : (rank : Rank) → IsArrayRank rank →
    IsRank (rank_number rank) × (rank ≡ Some (rank_number rank))
array_rank_number None is = absurd is
array_rank_number (Some zero) is = absurd is
array_rank_number (Some (suc zero)) is = ((omega arith, omega arith), refl)
array_rank_number (Some (suc (suc zero))) is = ((omega arith, omega arith), refl)
array_rank_number (Some (suc (suc (suc zero)))) is = ((omega arith, omega arith), refl)
array_rank_number (Some (suc (suc (suc (suc n))))) is = absurd is

-- ---- current regions

current_fits : (base : Tables) (numbers : Numbers) (rank : ℕ) (over : Option Over)
    (slotted : Option Slotted) → IsSome over → FitsCurrent base numbers rank over slotted →
    FitsOver base numbers rank (slotted_or slotted)
current_fits base numbers rank None slotted is fits = let no : ⊥ = cc in absurd no
current_fits base numbers rank (Some over) slotted is fits = fits

pub over_of : (base : Tables) (numbers : Numbers) (currents : Currents) (slots : SlotCurrents)
    (rank : Rank) → FitCurrents base numbers currents slots → HasCurrent currents rank →
    FitsOver base numbers (rank_number rank) (slotted_at slots rank)
over_of base numbers currents slots None fits has = absurd has
over_of base numbers currents slots (Some zero) fits has = absurd has
over_of base numbers currents slots (Some (suc zero)) fits has =
    current_fits base numbers 1 currents.one slots.one has fits.one
over_of base numbers currents slots (Some (suc (suc zero))) fits has =
    current_fits base numbers 2 currents.two slots.two has fits.two
over_of base numbers currents slots (Some (suc (suc (suc zero)))) fits has =
    current_fits base numbers 3 currents.three slots.three has fits.three
over_of base numbers currents slots (Some (suc (suc (suc (suc n))))) fits has = absurd has

pub with_current : (base : Tables) (numbers : Numbers) (currents : Currents) (slots : SlotCurrents)
    (rank : Rank) (over : Over) (slotted : Slotted) → FitCurrents base numbers currents slots →
    FitsOver base numbers (rank_number rank) slotted →
    FitCurrents base numbers (with_over currents rank over) (with_slotted slots rank slotted)
with_current base numbers currents slots None over slotted fits one = fits
with_current base numbers currents slots (Some zero) over slotted fits one = fits
with_current base numbers currents slots (Some (suc zero)) over slotted fits one =
    record { one = one; two = fits.two; three = fits.three }
with_current base numbers currents slots (Some (suc (suc zero))) over slotted fits one =
    record { one = fits.one; two = one; three = fits.three }
with_current base numbers currents slots (Some (suc (suc (suc zero)))) over slotted fits one =
    record { one = fits.one; two = fits.two; three = one }
with_current base numbers currents slots (Some (suc (suc (suc (suc n))))) over slotted fits one =
    fits

-- ---- what settling gives

pub record IsLaid (tables : Tables) (next : Next) {A : Type 0} (settled : Settled A) : Type 0 where
  pub slots_at : SlotsAt tables next.slots settled.slots
  pub copies_at : StoragesAt tables next.copies settled.copies

pub record FitsSettled (tables : Tables) {A : Type 0} (settled : Settled A) : Type 0 where
  pub rows_fit : FitRows tables 0 settled.rows
  pub ranks : AllRanks settled.slots

pub record SlateFits (tables : Tables) (numbers : Numbers) (rank : ℕ) (settled : Settled Slate) :
    Type 0 where
  pub own : FitsSettled tables settled
  pub fits : FitsSlate tables numbers rank settled.slate

pub record SlatesFit (tables : Tables) (numbers : Numbers) (rank count : ℕ)
    (settled : Settled Slates) : Type 0 where
  pub own : FitsSettled tables settled
  pub fits : FitsSlates tables numbers rank settled.slate
  pub counted : slates_count settled.slate ≡ count

nothing_own : (base : Tables) {A : Type 0} (one : A) → FitsSettled base (alone one)
nothing_own base one = record { rows_fit = tt; ranks = tt }

pub laid_first : (base : Tables) (next : Next) {A B C : Type 0} (f : A → B → C) (first : Settled A)
    (rest : Settled B) → IsLaid base next (both f first rest) → IsLaid base next first
laid_first base next f first rest laid = record {
  slots_at = slots_first base next.slots first.slots rest.slots laid.slots_at;
  copies_at = storages_first base next.copies first.copies rest.copies laid.copies_at;
}

pub laid_rest : (base : Tables) (next : Next) {A B C : Type 0} (f : A → B → C) (first : Settled A)
    (rest : Settled B) → IsLaid base next (both f first rest) →
    IsLaid base (behind next first) rest
laid_rest base next f first rest laid = record {
  slots_at = slots_rest base next.slots first.slots rest.slots laid.slots_at;
  copies_at = storages_rest base next.copies first.copies rest.copies laid.copies_at;
}

pub own_both : (base : Tables) {A B C : Type 0} (f : A → B → C) (first : Settled A)
    (rest : Settled B) → FitsSettled base first → FitsSettled base rest →
    FitsSettled base (both f first rest)
own_both base f first rest one other = record {
  rows_fit = rows_both base first.rows rest.rows one.rows_fit other.rows_fit;
  ranks = ranks_both first.slots rest.slots one.ranks other.ranks;
}

-- ---- ranks of arrays

number_is : (rank : Rank) (n : ℕ) (shape : Option Shape) → option_map length shape ≡ rank →
    option_map length shape ≡ Some n → n ≡ rank_number rank
number_is rank n shape is other = ap rank_number (sym other ∙ is)

stored_rank : (rank : Rank) (shape : Option Shape) (stored : Option Stored) →
    option_map length shape ≡ rank → IsSomeAnd stored (IsStoredAs shape) →
    IsOfRank (rank_number rank) stored
stored_rank rank shape None is has = tt
stored_rank rank shape (Some stored) is has =
    number_is rank stored.storage.rank shape is has.rank

stored_flat : (rank : Rank) (shape : Option Shape) (stored : Option Stored) →
    option_map length shape ≡ rank → has_flood shape ≡ false →
    IsSomeAnd stored (IsStoredAs shape) → IsRemapOf (rank_number rank) stored
stored_flat rank shape None is flat has = tt
stored_flat rank shape (Some stored) is flat has =
    (number_is rank stored.storage.rank shape is has.rank, has.ranges flat)

-- ---- the shift with which a copy is read

small_rest : (d : ℤ) (n : ℕ) → IsUpTo 31 d → IsUpTo 31 (int_rem d (pos n))
small_rest d n is =
    let low = is.0 in let high = is.1 in
    (omega (arith, ints, mag_rem d (pos n)), omega (arith, ints, mag_rem d (pos n)))

none_rest : (d : ℤ) (n : ℕ) → d ≡ pos 0 → int_rem d (pos n) ≡ pos 0
none_rest d n is = omega (arith, ints, mag_rem d (pos n))

zero_small : IsUpTo 31 (pos 0)
zero_small = (omega (arith, ints), omega (arith, ints))

zeros_by : (rank : ℕ) (v : List ℤ) → VectorBy rank (zeros v)
zeros_by rank [] = tt
zeros_by zero (d ∷ v) = (zero_small, refl, zeros_by zero v)
zeros_by (suc rank) (d ∷ v) = (zero_small, zeros_by rank v)

rest_by : (rank : ℕ) (v : List ℤ) (dims : List Dim) → VectorBy rank v →
    VectorBy rank (each_rest v dims)
rest_by rank [] dims by = tt
rest_by rank (d ∷ v) [] by = tt
rest_by zero (d ∷ v) (dim.Range lo hi step align ∷ dims) by =
    (small_rest d (extent lo hi) by.0, none_rest d (extent lo hi) by.1, rest_by zero v dims by.2)
rest_by zero (d ∷ v) (dim.Flood ∷ dims) by = (zero_small, refl, rest_by zero v dims by.2)
rest_by (suc rank) (d ∷ v) (dim.Range lo hi step align ∷ dims) by =
    (small_rest d (extent lo hi) by.0, rest_by rank v dims by.1)
rest_by (suc rank) (d ∷ v) (dim.Flood ∷ dims) by = (zero_small, rest_by rank v dims by.1)

rest_count : (v : List ℤ) (dims : List Dim) → length dims ≡ length v →
    length (each_rest v dims) ≡ length v
rest_count [] [] same = refl
rest_count [] (one ∷ dims) same = refl
rest_count (d ∷ v) [] same = same
rest_count (d ∷ v) (dim.Range lo hi step align ∷ dims) same =
    ap suc (rest_count v dims (omega (arith, same)))
rest_count (d ∷ v) (dim.Flood ∷ dims) same = ap suc (rest_count v dims (omega (arith, same)))

copy_vector : (rank : ℕ) (home : Region) (shift : List ℤ) → length home.dims ≡ 3 →
    FitsVector rank shift → FitsVector rank (copy_shift home shift)
copy_vector rank home shift three is = by (has_none home)
  where
    by : (b : Bool) → FitsVector rank (if b then zeros shift else each_rest shift home.dims)
    by true = (vector_by rank (zeros shift) (zeros_by rank shift), length-map shift _ ∙ is.1)
    by false = (
      vector_by rank (each_rest shift home.dims)
          (rest_by rank shift home.dims (by_vector rank shift is.0)),
      rest_count shift home.dims (three ∙ sym is.1) ∙ is.1,
    )

whole_of : (v : List ℤ) → length v ≡ 3 → IsWhole v
whole_of [] three = tt
whole_of (d ∷ v) three = three

pub hull_rank : (one other : Region) → other.rank ≡ one.rank →
    (hull_with one other).rank ≡ one.rank
hull_rank one other same = by (has_none other) (has_none one)
  where
    by : (b c : Bool) →
        (if b then hull one else if c then hull other
        else record { rank = one.rank; dims = each_hull_with one.dims other.dims }).rank
        ≡ one.rank
    by true c = refl
    by false true = same
    by false false = refl

-- ---- along which dimension a scan goes

along_fits : (rank : Rank) (along : Option ℤ) → GoesAlong rank along →
    along_of along ≤ rank_number rank
along_fits rank None goes = omega arith
along_fits None (Some k) goes = absurd goes.2
along_fits (Some rank) (Some k) goes =
    let below = goes.2.1 in
    let same : unsigned_abs k ≡ goes.0 = ap unsigned_abs goes.1 in omega arith

dimension_fits : (rank : Rank) (k : ℕ) → HasDimension rank k →
    (1 ≤ k) × (k ≤ rank_number rank)
dimension_fits None k has = absurd has
dimension_fits (Some rank) k has = has

-- ---- names

module _ (base : Tables) (w : Where) (currents : Currents) (reach : IsReach base w currents) where
  over_here : (rank : Rank) → HasCurrent currents rank →
      FitsOver base w.numbers (rank_number rank) (slotted_at w.currents rank)
  over_here rank has = over_of base w.numbers currents w.currents rank reach.here has

  element_slate : (rank : Rank) (name : Name) (place : ℕ) (home : Region) (shift : List ℤ) →
      thing_of w.environment name.text ≡ Some (ArrayAt place home) →
      array_rank (kind_of w.scope name) ≡ rank → HasCurrent currents rank →
      FitsShift (rank_number rank) shift →
      FitsSlate base w.numbers (rank_number rank)
      (slate.Element (slotted_at w.currents rank).slot place shift)
  element_slate rank name place home shift e is has vector =
      let over = over_here rank has in
      let found = reach.names name place home e in (
        over.is_rank,
        over.has,
        stored_rank rank (array_shape (kind_of w.scope name)) (slice_get w.numbers.arrays place) is
            found.has,
        vector,
      )

  no_shift : (rank : ℕ) → FitsShift rank []
  no_shift rank = (vector_by rank [] tt, tt)

  named_fits : (rank : Rank) (name : Name) (thing : Option Thing) →
      thing_of w.environment name.text ≡ thing → IsRead currents rank thing →
      ((place : ℕ) (home : Region) → thing ≡ Some (ArrayAt place home) →
      array_rank (kind_of w.scope name) ≡ rank) →
      FitsSlate base w.numbers (rank_number rank) (named_slate (slotted_at w.currents rank) thing)
  named_fits rank name (Some (Scalar place)) e read of = tt
  named_fits rank name (Some (Fixed value)) e read of = tt
  named_fits rank name (Some (ArrayAt place home)) e read of =
      element_slate rank name place home [] e (of place home refl) read
      (no_shift (rank_number rank))
  named_fits rank name None e read of = tt

  known_vector : (rank : Rank) (shift : Dir) → HasCurrent currents rank →
      dir_rank w.scope shift ≡ rank →
      FitsVector (rank_number rank) (vector_in w.setup.known shift)
  known_vector None shift has is = absurd has
  known_vector (Some rank) shift has is = reach.known.dirs rank shift is

  shifted_fits : (rank : Rank) (name : Name) (shift : List ℤ) (thing : Option Thing) →
      thing_of w.environment name.text ≡ thing → IsArrayRead currents rank thing →
      array_rank (kind_of w.scope name) ≡ rank → FitsVector (rank_number rank) shift →
      FitsSlate base w.numbers (rank_number rank)
      (shifted_slate (slotted_at w.currents rank) shift thing)
  shifted_fits rank name shift (Some (ArrayAt place home)) e read is vector =
      element_slate rank name place home shift e is read.1
      (vector.0, whole_of shift vector.1)
  shifted_fits rank name shift (Some (Scalar place)) e read is vector = tt
  shifted_fits rank name shift (Some (Fixed value)) e read is vector = tt
  shifted_fits rank name shift None e read is vector = tt

  around_fits : (rank : Rank) (name : Name) (next : Next) (shift : List ℤ)
      (thing : Option Thing) → thing_of w.environment name.text ≡ thing →
      IsArrayRead currents rank thing → array_rank (kind_of w.scope name) ≡ rank →
      FitsVector (rank_number rank) shift →
      IsLaid base next (around_slate next (slotted_at w.currents rank) shift thing) →
      SlateFits base w.numbers (rank_number rank)
      (around_slate next (slotted_at w.currents rank) shift thing)
  around_fits rank name next shift (Some (ArrayAt place home)) e read is vector laid =
      let over = over_here rank read.1 in
      let found = reach.names name place home e in
      let number : ℕ = rank_number rank in
      let same : home.rank ≡ number =
      number_is rank home.rank (array_shape (kind_of w.scope name)) is found.same in
      let moves : List ℤ = copy_shift home shift in
      let copied : (copy_storage home shift).rank ≡ number =
      hull_rank home (moved moves home) refl ∙ same in
      record {
        own = record {
          rows_fit = tt;
          ranks = replicated_ranks home.rank (border_slots moves)
              (subst IsRank (sym same) over.is_rank);
        };
        fits = (
          over.is_rank,
          over.has,
          stored_rank rank (array_shape (kind_of w.scope name)) (slice_get w.numbers.arrays place)
              is found.has,
          copy_vector number home shift found.box.1 vector,
          record {
            box = found.box;
            same = same;
            has = array_of base number next.copies (copy_storage home shift) laid.copies_at.0
                copied;
            is_stored = stored_of base next.copies (copy_storage home shift) laid.copies_at.0;
            storage = copy_storage home shift;
            stands = laid.copies_at.0;
            ranked = copied;
            level = copy_level home shift;
            slots = subst (λ n. SlotsAt base next.slots (replicate (border_slots moves) n)) same
                laid.slots_at;
          },
        );
      }
  around_fits rank name next shift (Some (Scalar place)) e read is vector laid =
      record { own = nothing_own base (slate.Constant (pos 0)); fits = tt }
  around_fits rank name next shift (Some (Fixed value)) e read is vector laid =
      record { own = nothing_own base (slate.Constant (pos 0)); fits = tt }
  around_fits rank name next shift None e read is vector laid =
      record { own = nothing_own base (slate.Constant (pos 0)); fits = tt }

  remap_fits : (rank : Rank) (name : Name) (count : ℕ) (indices : Slates)
      (thing : Option Thing) → thing_of w.environment name.text ≡ thing →
      IsArrayRead currents rank thing → array_rank (kind_of w.scope name) ≡ Some count →
      has_flood (array_shape (kind_of w.scope name)) ≡ false → slates_count indices ≡ count →
      FitsSlates base w.numbers (rank_number rank) indices →
      FitsSlate base w.numbers (rank_number rank)
      (remap_slate (slotted_at w.currents rank) thing indices)
  remap_fits rank name count indices (Some (ArrayAt place home)) e read is flat counted fits =
      let found = reach.names name place home e in (
        over_here rank read.1,
        subst (λ n. IsRemapOf n (slice_get w.numbers.arrays place)) (sym counted)
            (stored_flat (Some count) (array_shape (kind_of w.scope name))
            (slice_get w.numbers.arrays place) is flat found.has),
        fits,
      )
  remap_fits rank name count indices (Some (Scalar place)) e read is flat counted fits = tt
  remap_fits rank name count indices (Some (Fixed value)) e read is flat counted fits = tt
  remap_fits rank name count indices None e read is flat counted fits = tt

-- ---- the region of an operator

pub source_fits : LimitsAreTold → (base : Tables) (w : Where) (result : ℕ) (currents : Currents)
    (edge : Option Edge) → IsReach base w currents → (next : Next) (line : ℕ) (source : Inner)
    (operand : Expr) → HasCurrent currents (source_rank w source operand) →
    IsProperRegion (place_at w result currents edge) (own_rank w.scope w.prefix operand) source →
    IsRegionOf (place_at w result currents edge) (own_rank w.scope w.prefix operand) source →
    SlotsAt base next.slots (opened_source w next line source operand).slots →
    FitsOpened base (rank_number (source_rank w source operand))
    (opened_source w next line source operand)
source_fits limits base w result currents edge reach next line source operand has proper of at =
    let rank : Rank = source_rank w source operand in
    let number : ℕ = rank_number rank in
    let ranked = array_rank_number rank of.0 in
    let over = over_of base w.numbers currents w.currents rank reach.here has in
    bracket_fits limits base w reach.numbers reach.known currents result edge
    (own_rank w.scope w.prefix operand) number next.slots line (slotted_at w.currents rank) source
    ranked.0 ranked.1 (λ there. (over.has, over.floods))
    (subst (λ r. IsProperInner (place_at w result currents edge) r source) ranked.1 proper)
    (subst (λ r. IsInnerOf w.scope r source) ranked.1 of.1) at

source_over : (base : Tables) (numbers : Numbers) (rank : ℕ) (opened : Opened) → IsRank rank →
    FitsOpened base rank opened → FitsOver base numbers rank (source_of opened)
source_over base numbers rank opened is fits =
    record { is_rank = is; has = fits.has; floods = fits.floods; masked = tt }

-- what is in reach of the operand
reach_under : (base : Tables) (w : Where) (currents : Currents) → IsReach base w currents →
    (rank : Rank) (region : Region) (source : Slotted) →
    FitsOver base w.numbers (rank_number rank) source →
    IsReach base (under_source w rank source)
    (with_over currents rank (record { region = region; mask = None }))
reach_under base w currents reach rank region source fits = record {
  numbers = reach.numbers;
  kept = reach.kept;
  globals = reach.globals;
  known = reach.known;
  names = reach.names;
  variables = reach.variables;
  here = with_current base w.numbers currents w.currents rank
      (record { region = region; mask = None }) source reach.here fits;
}

opened_own : (base : Tables) (rank : ℕ) (opened : Opened) → IsRank rank →
    FitsOpened base rank opened → FitsSettled base (of_opened opened)
opened_own base rank opened is fits =
    record { rows_fit = fits.rows; ranks = same_ranks rank opened.slots is fits.slots }

-- ---- expressions

mutual
  pub settled_fits : LimitsAreTold → (base : Tables) (w : Where) (result : ℕ)
      (currents : Currents) (edge : Option Edge) → IsReach base w currents → (line : ℕ)
      (next : Next) (rank : Rank) (one : Expr) →
      IsProper (place_at w result currents edge) rank one →
      IsRankedAt (place_at w result currents edge) rank one → HasFlatRemaps w.scope one →
      IsLaid base next (settled w line next rank one) →
      SlateFits base w.numbers (rank_number rank) (settled w line next rank one)
  settled_fits limits base w result currents edge reach line next rank (Number at value) proper
      ranked flat laid = record { own = nothing_own base (slate.Constant value); fits = tt }
  settled_fits limits base w result currents edge reach line next rank (Truth at value) proper
      ranked flat laid =
      record { own = nothing_own base (slate.Constant (truth value)); fits = tt }
  settled_fits limits base w result currents edge reach line next rank (Coord at k) proper ranked
      flat laid =
      record {
        own = nothing_own base (slate.Coordinate k);
        fits = dimension_fits rank k ranked;
      }
  settled_fits limits base w result currents edge reach line next rank (Named at name) proper
      ranked flat laid =
      let thing : Option Thing = thing_of w.environment name.text in
      record {
        own = nothing_own base (named_slate (slotted_at w.currents rank) thing);
        fits = named_fits base w currents reach rank name thing refl proper
            (λ place home e. subst (λ o. IsNameOf (place_at w result currents edge) rank name o) e
            ranked);
      }
  settled_fits limits base w result currents edge reach line next rank (Shifted at name shift)
      proper ranked flat laid =
      let thing : Option Thing = thing_of w.environment name.text in
      let vector : List ℤ = vector_in w.setup.known shift in
      record {
        own = nothing_own base (shifted_slate (slotted_at w.currents rank) vector thing);
        fits = shifted_fits base w currents reach rank name vector thing refl proper ranked.0
            (known_vector base w currents reach rank shift proper.1 ranked.1);
      }
  settled_fits limits base w result currents edge reach line next rank (Around at name shift)
      proper ranked flat laid =
      around_fits base w currents reach rank name next (vector_in w.setup.known shift)
      (thing_of w.environment name.text) refl proper ranked.0
      (known_vector base w currents reach rank shift proper.1 ranked.1) laid
  settled_fits limits base w result currents edge reach line next rank (Remap at name indices)
      proper ranked flat laid =
      let inner = all_settled_fit limits base w result currents edge reach line next rank indices
      proper.1 ranked.1 flat.1
      (record { slots_at = laid.slots_at; copies_at = laid.copies_at }) in
      record {
        own = record { rows_fit = inner.own.rows_fit; ranks = inner.own.ranks };
        fits = remap_fits base w currents reach rank name (exprs_count indices)
            (settled_all w line next rank indices).slate (thing_of w.environment name.text) refl
            proper.0 ranked.0 flat.0 inner.counted inner.fits;
      }
  settled_fits limits base w result currents edge reach line next rank (Call at name actuals)
      proper ranked flat laid = absurd proper
  settled_fits limits base w result currents edge reach line next rank (Paren at inside) proper
      ranked flat laid =
      settled_fits limits base w result currents edge reach line next rank inside proper ranked
      flat laid
  settled_fits limits base w result currents edge reach line next rank (Neg at operand) proper
      ranked flat laid =
      let inner = settled_fits limits base w result currents edge reach line next rank operand
      proper ranked flat
      (record { slots_at = laid.slots_at; copies_at = laid.copies_at }) in
      record {
        own = record { rows_fit = inner.own.rows_fit; ranks = inner.own.ranks };
        fits = inner.fits;
      }
  settled_fits limits base w result currents edge reach line next rank (Not at operand) proper
      ranked flat laid =
      let inner = settled_fits limits base w result currents edge reach line next rank operand
      proper ranked flat
      (record { slots_at = laid.slots_at; copies_at = laid.copies_at }) in
      record {
        own = record { rows_fit = inner.own.rows_fit; ranks = inner.own.ranks };
        fits = inner.fits;
      }
  settled_fits limits base w result currents edge reach line next rank (Abs at operand) proper
      ranked flat laid =
      let inner = settled_fits limits base w result currents edge reach line next rank operand
      proper ranked flat
      (record { slots_at = laid.slots_at; copies_at = laid.copies_at }) in
      record {
        own = record { rows_fit = inner.own.rows_fit; ranks = inner.own.ranks };
        fits = inner.fits;
      }
  settled_fits limits base w result currents edge reach line next rank (Pair at op left right)
      proper ranked flat laid =
      let first : Settled Slate = settled w line next rank left in
      let rest : Settled Slate = settled w line (behind next first) rank right in
      let one = settled_fits limits base w result currents edge reach line next rank left proper.0
      ranked.0 flat.0 (laid_first base next (slate.Binary op) first rest laid) in
      let other = settled_fits limits base w result currents edge reach line (behind next first)
      rank right proper.1 ranked.1 flat.1
      (laid_rest base next (slate.Binary op) first rest laid) in
      record {
        own = own_both base (slate.Binary op) first rest one.own other.own;
        fits = (one.fits, other.fits);
      }
  settled_fits limits base w result currents edge reach line next rank
      (Reduce at operator NoBracket operand) proper ranked flat laid =
      let over : Rank = operand_rank w.scope w.prefix operand in
      let inner = settled_fits limits base w result currents edge reach line next over operand
      proper.1 ranked flat
      (record { slots_at = laid.slots_at; copies_at = laid.copies_at }) in
      record {
        own = record { rows_fit = inner.own.rows_fit; ranks = inner.own.ranks };
        fits = (
          rank_number over,
          (over_here base w currents reach over proper.0, inner.fits),
        );
      }
  settled_fits limits base w result currents edge reach line next rank
      (Reduce at operator (Bracketed source) operand) proper ranked flat laid =
      let over : Rank = source_rank w source operand in
      let number : ℕ = rank_number over in
      let opened : Opened = opened_source w next line source operand in
      let under : Where = under_source w over (source_of opened) in
      let first : Settled Slotted = of_opened opened in
      let rest : Settled Slate = settled under line (behind next first) over operand in
      let join : Slotted → Slate → Slate =
      slate.PartFolded operator (slotted_at w.currents over) in
      let of = ranked.1 in
      let is : IsRank number = (array_rank_number over of.0).0 in
      let fits = source_fits limits base w result currents edge reach next line source operand
      proper.0 proper.1 of (laid_first base next join first rest laid).slots_at in
      let from = source_over base w.numbers number opened is fits in
      let inner = settled_fits limits base under result
      (with_over currents over (record { region = no_region; mask = None })) edge
      (reach_under base w currents reach over no_region (source_of opened) from) line
      (behind next first) over operand (proper.2 no_region) (ranked.2 no_region) flat
      (laid_rest base next join first rest laid) in
      record {
        own = own_both base join first rest (opened_own base number opened is fits) inner.own;
        fits = subst
            (λ n. FitsSlate base w.numbers n (join (source_of opened) rest.slate))
            (ap rank_number ranked.0)
            (over_here base w currents reach over proper.0, from, inner.fits);
      }
  settled_fits limits base w result currents edge reach line next rank
      (Scan at operator along operand) proper ranked flat laid =
      let inner = settled_fits limits base w result currents edge reach line next rank operand
      proper.1 ranked.1 flat
      (record { slots_at = laid.slots_at; copies_at = laid.copies_at }) in
      record {
        own = record { rows_fit = inner.own.rows_fit; ranks = inner.own.ranks };
        fits = (
          over_here base w currents reach rank proper.0,
          along_fits rank along ranked.0,
          inner.fits,
        );
      }
  settled_fits limits base w result currents edge reach line next rank (Flood at source operand)
      proper ranked flat laid =
      let over : Rank = source_rank w source operand in
      let number : ℕ = rank_number over in
      let opened : Opened = opened_source w next line source operand in
      let under : Where = under_source w over (source_of opened) in
      let first : Settled Slotted = of_opened opened in
      let rest : Settled Slate = settled under line (behind next first) over operand in
      let join : Slotted → Slate → Slate = slate.Flooded (slotted_at w.currents over) in
      let of = ranked.1 in
      let is : IsRank number = (array_rank_number over of.0).0 in
      let fits = source_fits limits base w result currents edge reach next line source operand
      proper.0 proper.1 of (laid_first base next join first rest laid).slots_at in
      let from = source_over base w.numbers number opened is fits in
      let inner = settled_fits limits base under result
      (with_over currents over (record { region = no_region; mask = None })) edge
      (reach_under base w currents reach over no_region (source_of opened) from) line
      (behind next first) over operand (proper.2 no_region) (ranked.2 no_region) flat
      (laid_rest base next join first rest laid) in
      record {
        own = own_both base join first rest (opened_own base number opened is fits) inner.own;
        fits = subst
            (λ n. FitsSlate base w.numbers n (join (source_of opened) rest.slate))
            (ap rank_number ranked.0)
            (over_here base w currents reach over proper.0, from, inner.fits);
      }

  all_settled_fit : LimitsAreTold → (base : Tables) (w : Where) (result : ℕ)
      (currents : Currents) (edge : Option Edge) → IsReach base w currents → (line : ℕ)
      (next : Next) (rank : Rank) (all : Exprs) →
      AreProper (place_at w result currents edge) rank all →
      AreRankedAt (place_at w result currents edge) rank all → HaveFlatRemaps w.scope all →
      IsLaid base next (settled_all w line next rank all) →
      SlatesFit base w.numbers (rank_number rank) (exprs_count all)
      (settled_all w line next rank all)
  all_settled_fit limits base w result currents edge reach line next rank NoExpr proper ranked flat
      laid = record { own = nothing_own base NoSlate; fits = tt; counted = refl }
  all_settled_fit limits base w result currents edge reach line next rank (ThenExpr one others)
      proper ranked flat laid =
      let first : Settled Slate = settled w line next rank one in
      let rest : Settled Slates = settled_all w line (behind next first) rank others in
      let here = settled_fits limits base w result currents edge reach line next rank one proper.0
      ranked.0 flat.0 (laid_first base next ThenSlate first rest laid) in
      let there = all_settled_fit limits base w result currents edge reach line
      (behind next first) rank others proper.1 ranked.1 flat.1
      (laid_rest base next ThenSlate first rest laid) in
      record {
        own = own_both base ThenSlate first rest here.own there.own;
        fits = (here.fits, there.fits);
        counted = ap suc there.counted;
      }
