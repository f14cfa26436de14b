-- The rows of a statement's phases fit.
use Rattle.std.proofs.Common.{◌≡◌, ℕ, Bool, true, false, ℤ, List, [], ◌∷◌, ◌++◌, map, arith}
use Rattle.std.specs.Prelude.{not, filter, cond, Option, Some, None, slice_get}
use Rattle.std.specs.Option.{IsSomeAnd}
use Rattle.meaning_ranks.specs.of_zpl_meaning.Context.{Mask, Currents, Edge, Place}
use Rattle.meaning_ranks.specs.of_zpl_meaning.Proper.{IsProper}
use Rattle.meaning_ranks.specs.Ranked.{IsOfRank as IsRankedAt}
use Rattle.stored_shifts.specs.of_node_form.Expression.{Expression}
use Rattle.stored_shifts.specs.of_node_form.declared.tables.Tables.{Tables}
use Rattle.stored_shifts.specs.of_node_form.Fits.{IsVector, HasSlot, HasArray, IsStored}
use Rattle.lower_numbers.specs.of_row_runs.Structured as piece
use Rattle.lower_numbers.specs.of_row_runs.Structured.{Piece}
use Rattle.lower_numbers.specs.of_flat_form.Row.{Row}
use Rattle.lower_numbers.specs.of_zpl_lowering.Check.{Check}
use Rattle.lower_numbers.specs.of_zpl_lowering.Where.{Stored, Numbers, Slotted, Where, Next}
use Rattle.lower_numbers.specs.of_zpl_lowering.Slate as slate
use Rattle.lower_numbers.specs.of_zpl_lowering.Slate.{Slate, Slates, NoSlate, ThenSlate, Settled, Placed, behind as behind_settled, alone, settled, settled_each}
use Rattle.lower_numbers.specs.of_zpl_lowering.Reference.{conforming, all_conforming, Reference, is_same, each_once, need_of, needs, refer_to, mask_reference, over_reference, referred, all_referred}
use Rattle.lower_numbers.specs.of_zpl_lowering.Hoist.{Hoisted, Free, behind as behind_hoisted, hoisted, all_hoisted}
use Rattle.lower_numbers.specs.of_zpl_lowering.Lowered.{Lowered, rows_alone, behind, joined, both, Phased, free_at, phased_with, then_rows}
use Rattle.lowering_fits.specs.Inline.{FitRows, FitsPiece}
use Rattle.lowering_fits.specs.Slates.{FitNumbers, IsOfRank, IsMaskOf, FitsOver, FitsSlate, FitsSlates, FitsTree, AllCovered, IsPlaced, FitsHoist}
use Rattle.lowering_fits.specs.Reach.{place_at, HasFlatRemaps, IsReach}
use Rattle.lowering_fits.specs.Lowerings.{IsLaidOut, FitsLowered}
use Rattle.lowering_fits.proofs.FringeLemmas.{covered_first, covered_rest}
use Rattle.lowering_fits.proofs.TreeLemmas.{IsThere, stored_at, array_of, stored_of, slots_first, slots_rest, temps_first, temps_rest, storages_first, storages_rest, temps_both, shifts_both, over_fits, unmoved_fits}
use Rattle.lowering_fits.proofs.VectorLemmas.{vector_by}
use Rattle.lowering_fits.proofs.SlateLemmas.{rows_both, hoisted_fits, first_placed, rest_placed}
use Rattle.lowering_fits.proofs.BracketLemmas.{rank_number, LimitsAreTold}
use Rattle.lowering_fits.proofs.SettleLemmas.{ranks_both, IsLaid, FitsSettled, laid_first, laid_rest, own_both, settled_fits}

-- ---- code of two parts

pub laid_front : (base : Tables) (next : Next) (code : Piece Row Check) (first second : Lowered) →
    IsLaidOut base next (joined code first second) → IsLaidOut base next first
laid_front base next code first second laid =
    let below = laid.below in
    record {
      below = omega arith;
      slots_at = slots_first base next.slots first.slots second.slots laid.slots_at;
      arrays_at = storages_first base next.arrays first.arrays second.arrays laid.arrays_at;
      copies_at = storages_first base next.copies first.copies second.copies laid.copies_at;
      later_at = storages_first base next.later first.later second.later laid.later_at;
      temps_at = temps_first base next.temps first.temps second.temps laid.temps_at;
      shifts_at = covered_first base first.shifts second.shifts laid.shifts_at;
    }

pub laid_behind : (base : Tables) (next : Next) (code : Piece Row Check) (first second : Lowered) →
    IsLaidOut base next (joined code first second) → IsLaidOut base (behind next first) second
laid_behind base next code first second laid =
    let below = laid.below in
    record {
      below = omega arith;
      slots_at = slots_rest base next.slots first.slots second.slots laid.slots_at;
      arrays_at = storages_rest base next.arrays first.arrays second.arrays laid.arrays_at;
      copies_at = storages_rest base next.copies first.copies second.copies laid.copies_at;
      later_at = storages_rest base next.later first.later second.later laid.later_at;
      temps_at = temps_rest base next.temps first.temps second.temps laid.temps_at;
      shifts_at = covered_rest base first.shifts second.shifts laid.shifts_at;
    }

pub joined_fits : (base : Tables) (code : Piece Row Check) (first second : Lowered) →
    FitsPiece base code → FitsLowered base first → FitsLowered base second →
    FitsLowered base (joined code first second)
joined_fits base code first second fits one other = record {
  code_fits = fits;
  slot_ranks = ranks_both first.slots second.slots one.slot_ranks other.slot_ranks;
  temp_ranks = temps_both first.temps second.temps one.temp_ranks other.temp_ranks;
  small_shifts = shifts_both first.shifts second.shifts one.small_shifts other.small_shifts;
}

pub both_fit : (base : Tables) (first second : Lowered) → FitsLowered base first →
    FitsLowered base second → FitsLowered base (both first second)
both_fit base first second one other =
    joined_fits base (piece.Then first.code second.code) first second
    (one.code_fits, other.code_fits) one other

pub rows_alone_fit : (base : Tables) (rows : List Row) → FitRows base 0 rows →
    FitsLowered base (rows_alone rows)
rows_alone_fit base rows fit =
    record { code_fits = fit; slot_ranks = tt; temp_ranks = tt; small_shifts = tt }

-- ---- conformity

mutual
  pub conforming_fit : (base : Tables) (numbers : Numbers) (rank line : ℕ) (one : Slate) →
      FitsSlate base numbers rank one → FitRows base 0 (conforming line one)
  conforming_fit base numbers rank line (slate.Constant value) fits = tt
  conforming_fit base numbers rank line (slate.Variable place) fits = tt
  conforming_fit base numbers rank line (slate.Coordinate k) fits = tt
  conforming_fit base numbers rank line (slate.Element slot place shift) fits = tt
  conforming_fit base numbers rank line (slate.Wrapped slot place home shift copy first) fits = tt
  conforming_fit base numbers rank line (slate.Unary operator operand) fits =
      conforming_fit base numbers rank line operand fits
  conforming_fit base numbers rank line (slate.Binary operator left right) fits =
      rows_both base (conforming line left) (conforming line right)
      (conforming_fit base numbers rank line left fits.0)
      (conforming_fit base numbers rank line right fits.1)
  conforming_fit base numbers rank line (slate.Folded operator over operand) fits =
      conforming_fit base numbers fits.0 line operand fits.1.1
  conforming_fit base numbers rank line (slate.PartFolded operator over source operand) fits = (
    (record { rank = rank; fit = (fits.0.has, fits.1.has) }, tt),
    conforming_fit base numbers rank line operand fits.2,
  )
  conforming_fit base numbers rank line (slate.Scanned operator along over operand) fits =
      conforming_fit base numbers rank line operand fits.2
  conforming_fit base numbers rank line (slate.Flooded over source operand) fits = (
    (record { rank = rank; fit = (fits.0.has, fits.1.has) }, tt),
    conforming_fit base numbers rank line operand fits.2,
  )
  conforming_fit base numbers rank line (slate.Remapped over place indices) fits =
      all_conforming_fit base numbers rank line indices fits.2

  all_conforming_fit : (base : Tables) (numbers : Numbers) (rank line : ℕ) (all : Slates) →
      FitsSlates base numbers rank all → FitRows base 0 (all_conforming line all)
  all_conforming_fit base numbers rank line NoSlate fits = tt
  all_conforming_fit base numbers rank line (ThenSlate first rest) fits =
      rows_both base (conforming line first) (all_conforming line rest)
      (conforming_fit base numbers rank line first fits.0)
      (all_conforming_fit base numbers rank line rest fits.1)

-- ---- references

pub record FitsReference (tables : Tables) (one : Reference) : Type 0 where
  pub rank : ℕ
  pub has : HasSlot tables rank one.slot
  pub there : HasArray tables rank one.array
  pub is_stored : IsStored tables one.array
  pub vector : IsVector rank one.shift

abbrev pub FitReferences : Tables → List Reference → Type 0
FitReferences tables [] = Unit {0}
FitReferences tables (one ∷ rest) = FitsReference tables one × FitReferences tables rest

pub references_both : (base : Tables) (xs ys : List Reference) → FitReferences base xs →
    FitReferences base ys → FitReferences base (xs ++ ys)
references_both base [] ys first rest = rest
references_both base (x ∷ xs) ys first rest =
    (first.0, references_both base xs ys first.1 rest)

filtered_fit : (base : Tables) (test : Reference → Bool) (all : List Reference) →
    FitReferences base all → FitReferences base (filter test all)
filtered_fit base test [] fit = tt
filtered_fit base test (one ∷ rest) fit =
    by (test one) (filtered_fit base test rest fit.1)
  where
    by : (b : Bool) → FitReferences base (filter test rest) →
        FitReferences base (cond b (one ∷ filter test rest) (filter test rest))
    by true later = (fit.0, later)
    by false later = later

once_fit : (base : Tables) (all : List Reference) → FitReferences base all →
    FitReferences base (each_once all)
once_fit base [] fit = tt
once_fit base (one ∷ rest) fit = (
  fit.0,
  filtered_fit base (λ other. not (is_same one other)) (each_once rest)
      (once_fit base rest fit.1),
)

pub needs_fit : (base : Tables) (line : ℕ) (all : List Reference) → FitReferences base all →
    FitRows base 0 (needs line all)
needs_fit base line all fit = by (each_once all) (once_fit base all fit)
  where
    by : (all : List Reference) → FitReferences base all → FitRows base 0 (map (need_of line) all)
    by [] fit = tt
    by (one ∷ rest) fit =
        let is = fit.0 in (
          (record { rank = is.rank; fit = (is.has, is.there, is.is_stored, is.vector) }, tt),
          by rest fit.1,
        )

pub refers_fit : (base : Tables) (rank slot : ℕ) (shift : List ℤ) (stored : Option Stored) →
    HasSlot base rank slot → IsThere base stored → IsOfRank rank stored → IsVector rank shift →
    FitReferences base (refer_to slot shift stored)
refers_fit base rank slot shift None has there is vector = tt
refers_fit base rank slot shift (Some stored) has there is vector = (
  record {
    rank = rank;
    has = has;
    there = array_of base rank stored.array stored.storage there is;
    is_stored = stored_of base stored.array stored.storage there;
    vector = over_fits rank stored.storage shift vector;
  },
  tt,
)

mask_rank_of : (rank : ℕ) (stored : Option Stored) →
    IsSomeAnd stored (λ stored. stored.storage.rank ≡ rank) → IsOfRank rank stored
mask_rank_of rank None is = tt
mask_rank_of rank (Some stored) is = is

pub over_referred : (base : Tables) (numbers : Numbers) (rank : ℕ) (over : Slotted) →
    FitNumbers base numbers → FitsOver base numbers rank over →
    FitReferences base (over_reference numbers over)
over_referred base numbers rank over fits is = by over.mask is.masked
  where
    by : (mask : Option Mask) → IsMaskOf numbers rank mask →
        FitReferences base (mask_reference numbers over.slot mask)
    by None masked = tt
    by (Some mask) masked =
        refers_fit base rank over.slot [] (slice_get numbers.arrays mask.array) is.has
        (stored_at base numbers.arrays mask.array fits.arrays)
        (mask_rank_of rank (slice_get numbers.arrays mask.array) masked)
        (vector_by rank [] tt)

mutual
  pub referred_fit : (base : Tables) (numbers : Numbers) (rank : ℕ) (one : Slate) →
      FitNumbers base numbers → FitsSlate base numbers rank one →
      FitReferences base (referred numbers one)
  referred_fit base numbers rank (slate.Constant value) fits is = tt
  referred_fit base numbers rank (slate.Variable place) fits is = tt
  referred_fit base numbers rank (slate.Coordinate k) fits is = tt
  referred_fit base numbers rank (slate.Element slot place shift) fits is =
      refers_fit base rank slot shift (slice_get numbers.arrays place) is.1
      (stored_at base numbers.arrays place fits.arrays) is.2 is.3.0
  referred_fit base numbers rank (slate.Wrapped slot place home shift copy first) fits is = (
    record {
      rank = rank;
      has = is.1;
      there = is.4.has;
      is_stored = is.4.is_stored;
      vector = unmoved_fits rank;
    },
    (
      record {
        rank = rank;
        has = is.1;
        there = is.4.has;
        is_stored = is.4.is_stored;
        vector = is.3.0;
      },
      tt,
    ),
  )
  referred_fit base numbers rank (slate.Unary operator operand) fits is =
      referred_fit base numbers rank operand fits is
  referred_fit base numbers rank (slate.Binary operator left right) fits is =
      references_both base (referred numbers left) (referred numbers right)
      (referred_fit base numbers rank left fits is.0)
      (referred_fit base numbers rank right fits is.1)
  referred_fit base numbers rank (slate.Folded operator over operand) fits is =
      references_both base (referred numbers operand) (over_reference numbers over)
      (referred_fit base numbers is.0 operand fits is.1.1)
      (over_referred base numbers is.0 over fits is.1.0)
  referred_fit base numbers rank (slate.PartFolded operator over source operand) fits is =
      references_both base (over_reference numbers over) (referred numbers operand)
      (over_referred base numbers rank over fits is.0)
      (referred_fit base numbers rank operand fits is.2)
  referred_fit base numbers rank (slate.Scanned operator along over operand) fits is =
      references_both base (referred numbers operand) (over_reference numbers over)
      (referred_fit base numbers rank operand fits is.2)
      (over_referred base numbers rank over fits is.0)
  referred_fit base numbers rank (slate.Flooded over source operand) fits is =
      references_both base (over_reference numbers over) (referred numbers operand)
      (over_referred base numbers rank over fits is.0)
      (referred_fit base numbers rank operand fits is.2)
  referred_fit base numbers rank (slate.Remapped over place indices) fits is =
      references_both base (over_reference numbers over) (all_referred numbers indices)
      (over_referred base numbers rank over fits is.0)
      (all_referred_fit base numbers rank indices fits is.2)

  all_referred_fit : (base : Tables) (numbers : Numbers) (rank : ℕ) (all : Slates) →
      FitNumbers base numbers → FitsSlates base numbers rank all →
      FitReferences base (all_referred numbers all)
  all_referred_fit base numbers rank NoSlate fits is = tt
  all_referred_fit base numbers rank (ThenSlate first rest) fits is =
      references_both base (referred numbers first) (all_referred numbers rest)
      (referred_fit base numbers rank first fits is.0)
      (all_referred_fit base numbers rank rest fits is.1)

-- ---- the expressions of a statement

-- each is proper and ranked where it stands, and reads no flood array at computed tuples
abbrev pub AreSound : Where → Place → List Placed → Type 0
AreSound w place [] = Unit {0}
AreSound w place (one ∷ rest) =
    (IsProper place one.rank one.expr × IsRankedAt place one.rank one.expr
    × HasFlatRemaps w.scope one.expr) × AreSound w place rest

abbrev pub FitsEach : Tables → Numbers → List Placed → Slates → Type 0
FitsEach tables numbers [] NoSlate = Unit {0}
FitsEach tables numbers [] (ThenSlate first rest) = ⊥
FitsEach tables numbers (one ∷ placed) NoSlate = ⊥
FitsEach tables numbers (one ∷ placed) (ThenSlate first rest) =
    FitsSlate tables numbers (rank_number one.rank) first × FitsEach tables numbers placed rest

abbrev pub FitLefts : Tables → List Placed → List Expression → Type 0
FitLefts tables [] [] = Unit {0}
FitLefts tables [] (first ∷ rest) = ⊥
FitLefts tables (one ∷ placed) [] = ⊥
FitLefts tables (one ∷ placed) (first ∷ rest) =
    FitsTree tables (rank_number one.rank) first × FitLefts tables placed rest

pub record EachFits (tables : Tables) (numbers : Numbers) (placed : List Placed)
    (settled : Settled Slates) : Type 0 where
  pub own : FitsSettled tables settled
  pub fits : FitsEach tables numbers placed settled.slate

pub each_settled : LimitsAreTold → (base : Tables) (w : Where) (result : ℕ) (currents : Currents)
    (edge : Option Edge) → IsReach base w currents → (line : ℕ) (next : Next)
    (placed : List Placed) → AreSound w (place_at w result currents edge) placed →
    IsLaid base next (settled_each w line next placed) →
    EachFits base w.numbers placed (settled_each w line next placed)
each_settled limits base w result currents edge reach line next [] sound laid =
    record { own = record { rows_fit = tt; ranks = tt }; fits = tt }
each_settled limits base w result currents edge reach line next (one ∷ placed) sound laid =
    let first : Settled Slate = settled w line next one.rank one.expr in
    let rest : Settled Slates = settled_each w line (behind_settled next first) placed in
    let here = settled_fits limits base w result currents edge reach line next one.rank one.expr
    sound.0.0 sound.0.1 sound.0.2 (laid_first base next ThenSlate first rest laid) in
    let there = each_settled limits base w result currents edge reach line
    (behind_settled next first) placed sound.1
    (laid_rest base next ThenSlate first rest laid) in
    record {
      own = own_both base ThenSlate first rest here.own there.own;
      fits = (here.fits, there.fits);
    }

each_conforming : (base : Tables) (numbers : Numbers) (line : ℕ) (placed : List Placed)
    (all : Slates) → FitsEach base numbers placed all → FitRows base 0 (all_conforming line all)
each_conforming base numbers line [] NoSlate fits = tt
each_conforming base numbers line [] (ThenSlate first rest) fits = absurd fits
each_conforming base numbers line (one ∷ placed) NoSlate fits = tt
each_conforming base numbers line (one ∷ placed) (ThenSlate first rest) fits =
    rows_both base (conforming line first) (all_conforming line rest)
    (conforming_fit base numbers (rank_number one.rank) line first fits.0)
    (each_conforming base numbers line placed rest fits.1)

each_referred : (base : Tables) (numbers : Numbers) (placed : List Placed) (all : Slates) →
    FitNumbers base numbers → FitsEach base numbers placed all →
    FitReferences base (all_referred numbers all)
each_referred base numbers [] NoSlate fits is = tt
each_referred base numbers [] (ThenSlate first rest) fits is = absurd is
each_referred base numbers (one ∷ placed) NoSlate fits is = tt
each_referred base numbers (one ∷ placed) (ThenSlate first rest) fits is =
    references_both base (referred numbers first) (all_referred numbers rest)
    (referred_fit base numbers (rank_number one.rank) first fits is.0)
    (each_referred base numbers placed rest fits is.1)

pub record EachLeft (tables : Tables) (placed : List Placed) (hoist : Hoisted (List Expression)) :
    Type 0 where
  pub rows : FitsHoist tables hoist
  pub left : FitLefts tables placed hoist.left

each_hoisted : (base : Tables) (numbers : Numbers) (line : ℕ) (free : Free)
    (placed : List Placed) (all : Slates) → FitNumbers base numbers →
    FitsEach base numbers placed all →
    IsPlaced base free (all_hoisted numbers line free all).scalars
    (all_hoisted numbers line free all).temps →
    AllCovered base (all_hoisted numbers line free all).shifts →
    EachLeft base placed (all_hoisted numbers line free all)
each_hoisted base numbers line free [] NoSlate fits is at covered =
    record { rows = record { code = tt; temps = tt; shifts = tt }; left = tt }
each_hoisted base numbers line free [] (ThenSlate first rest) fits is at covered = absurd is
each_hoisted base numbers line free (one ∷ placed) NoSlate fits is at covered = absurd is
each_hoisted base numbers line free (one ∷ placed) (ThenSlate slate others) fits is at covered =
    let first : Hoisted Expression = hoisted numbers line free slate in
    let after : Free = behind_hoisted free first in
    let rest : Hoisted (List Expression) = all_hoisted numbers line after others in
    let here = hoisted_fits base numbers line free (rank_number one.rank) slate fits is.0
    (first_placed base free first.scalars rest.scalars first.temps rest.temps at)
    (covered_first base first.shifts rest.shifts covered) in
    let there = each_hoisted base numbers line after placed others fits is.1
    (rest_placed base free first.scalars rest.scalars first.temps rest.temps at)
    (covered_rest base first.shifts rest.shifts covered) in
    record {
      rows = record {
        code = (here.rows.code, there.rows.code);
        temps = temps_both first.temps rest.temps here.rows.temps there.rows.temps;
        shifts = shifts_both first.shifts rest.shifts here.rows.shifts there.rows.shifts;
      };
      left = (here.left, there.left);
    }

-- ---- the phases

pub record FitsPhased (tables : Tables) (placed : List Placed) (phases : Phased) : Type 0 where
  pub fits : FitsLowered tables phases.lowered
  pub lefts : FitLefts tables placed phases.left

pub phases_fit : LimitsAreTold → (base : Tables) (w : Where) (result : ℕ) (currents : Currents)
    (edge : Option Edge) → IsReach base w currents → (line : ℕ) (next : Next)
    (own last : List Reference) (placed : List Placed) → FitReferences base own →
    FitReferences base last → AreSound w (place_at w result currents edge) placed →
    IsLaidOut base next (phased_with w line next own last placed).lowered →
    FitsPhased base placed (phased_with w line next own last placed)
phases_fit limits base w result currents edge reach line next own last placed owns lasts sound
    laid =
    let settled : Settled Slates = settled_each w line next placed in
    let free : Free = free_at next 0 in
    let hoist : Hoisted (List Expression) = all_hoisted w.numbers line free settled.slate in
    let one = each_settled limits base w result currents edge reach line next placed sound
    (record { slots_at = laid.slots_at; copies_at = laid.copies_at }) in
    let below = laid.below in
    let two = each_hoisted base w.numbers line free placed settled.slate reach.numbers one.fits
    (record { below = omega arith; temps_at = laid.temps_at }) laid.shifts_at in
    let references : List Reference = all_referred w.numbers settled.slate ++ last in
    record {
      fits = record {
        code_fits = (
          rows_both base settled.rows
              (all_conforming line settled.slate ++ needs line (own ++ references)) one.own.rows_fit
              (rows_both base (all_conforming line settled.slate) (needs line (own ++ references))
              (each_conforming base w.numbers line placed settled.slate one.fits)
              (needs_fit base line (own ++ references)
              (references_both base own references owns
              (references_both base (all_referred w.numbers settled.slate) last
              (each_referred base w.numbers placed settled.slate reach.numbers one.fits) lasts)))),
          two.rows.code,
        );
        slot_ranks = one.own.ranks;
        temp_ranks = two.rows.temps;
        small_shifts = two.rows.shifts;
      };
      lefts = two.left;
    }

-- rows of the statement's own behind them
pub then_fits : (base : Tables) (placed : List Placed) (phases : Phased) (rows : List Row) →
    FitsPhased base placed phases → FitRows base 0 rows →
    FitsLowered base (then_rows phases rows)
then_fits base placed phases rows fits fit =
    both_fit base phases.lowered (rows_alone rows) fits.fits (rows_alone_fit base rows fit)

pub then_laid : (base : Tables) (next : Next) (phases : Phased) (rows : List Row) →
    IsLaidOut base next (then_rows phases rows) → IsLaidOut base next phases.lowered
then_laid base next phases rows laid =
    laid_front base next (piece.Then phases.lowered.code (rows_alone rows).code) phases.lowered
    (rows_alone rows) laid
