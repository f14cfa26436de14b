-- The rows of parameters and local variables fit, and so do the numbers behind them.
use Rattle.std.proofs.Common.{ℕ, ◌<◌, Bool, true, false, List, [], ◌∷◌, ◌++◌, refl, arith, inr}
use Rattle.std.specs.Prelude.{pos, None}
use Rattle.std.proofs.lemmas.Int.{ints}
use Rattle.std.proofs.lemmas.List.Elements.{All-from_recursion}
use Rattle.std.specs.List.{AllByRecursion}
use Rattle.zpl_region.specs.declared.dims.Dim.{Dim}
use Rattle.zpl_region.specs.declared.dims.Dim.TheVariants as dim
use Rattle.zpl_region.specs.declared.regions.Region.{Region}
use Rattle.zpl_region.specs.Dim.{HasStep}
use Rattle.meaning_ranks.specs.of_zpl_tree.Syntax.{Name, Bracket, NoBracket, Bracketed}
use Rattle.meaning_ranks.specs.of_zpl_names.Expansion.{FormalName}
use Rattle.meaning_ranks.specs.of_zpl_meaning.Context.{Setup}
use Rattle.meaning_ranks.specs.of_zpl_meaning.Variables.{home_box, storage_box}
use Rattle.stored_shifts.specs.of_node_form.Expression as expr
use Rattle.stored_shifts.specs.of_node_form.declared.tables.Tables.{Tables}
use Rattle.lower_numbers.specs.of_row_runs.Structured as piece
use Rattle.lower_numbers.specs.of_zpl_lowering.Where.{Stored, Numbers, Next}
use Rattle.lower_numbers.specs.of_zpl_lowering.Lowered.{Lowered, rows_alone, behind}
use Rattle.lower_numbers.specs.of_zpl_lowering.Statement.{Given, Valued, Copied, Referring}
use Rattle.lower_numbers.specs.of_zpl_lowering.Program.{Framed, with_scalar, with_array, Entry, zero_row, clear_row, made_copy, givens_code, names_code}
use Rattle.lowering_fits.specs.Inline.{FitRows}
use Rattle.lowering_fits.specs.Slates.{HasStorage, AllBelow, AllStored, FitNumbers, FitsBox}
use Rattle.lowering_fits.specs.Lowerings.{IsLaidOut, FitsLowered}
use Rattle.lowering_fits.specs.Storages.{AllBoxed, IsStorage, AllKept}
use Rattle.lowering_fits.specs.Whole.{FitsGivens, FitsVars, given_frames, name_frames}
use Rattle.lowering_fits.proofs.TreeLemmas.{array_of, stored_of}
use Rattle.lowering_fits.proofs.SlateLemmas.{set_fits, put_loop}
use Rattle.lowering_fits.proofs.PhaseLemmas.{laid_front, laid_behind, both_fit}

-- ---- storages in rows

pub boxed_steps : (dims : List Dim) → AllBoxed dims → AllByRecursion HasStep dims
boxed_steps [] boxed = tt
boxed_steps (dim.Range lo hi step align ∷ dims) boxed =
    let one = boxed.0.0 in (omega (arith, ints), boxed_steps dims boxed.1)
boxed_steps (dim.Flood ∷ dims) boxed = (tt, boxed_steps dims boxed.1)

pub storage_region : (storage : Region) → IsStorage storage → FitsBox storage
storage_region storage is = (
  record {
    rank = is.is_rank;
    steps = All-from_recursion HasStep storage.dims (boxed_steps storage.dims is.boxed);
    padded = is.padded;
    limit = is.limit;
  },
  is.three,
)

-- ---- lists that grow

below_both : (most : ℕ) (xs ys : List ℕ) → AllBelow most xs → AllBelow most ys →
    AllBelow most (xs ++ ys)
below_both most [] ys first rest = rest
below_both most (x ∷ xs) ys first rest = (first.0, below_both most xs ys first.1 rest)

stored_both : (base : Tables) (xs ys : List Stored) → AllStored base xs → AllStored base ys →
    AllStored base (xs ++ ys)
stored_both base [] ys first rest = rest
stored_both base (x ∷ xs) ys first rest = (first.0, stored_both base xs ys first.1 rest)

pub kept_both : (xs ys : List Stored) → AllKept xs → AllKept ys → AllKept (xs ++ ys)
kept_both [] ys first rest = rest
kept_both (x ∷ xs) ys first rest = (first.0, kept_both xs ys first.1 rest)

module _ (base : Tables) where
  scalar_more : (numbers : Numbers) (scalar : ℕ) → FitNumbers base numbers →
      scalar < base.scalars →
      FitNumbers base (record numbers { scalars = numbers.scalars ++ scalar ∷ [] })
  scalar_more numbers scalar fits below = record {
    scalars = below_both base.scalars numbers.scalars (scalar ∷ []) fits.scalars (below, tt);
    arrays = fits.arrays;
  }

  array_more : (numbers : Numbers) (stored : Stored) → FitNumbers base numbers →
      HasStorage base stored.storage stored.array →
      FitNumbers base (record numbers { arrays = numbers.arrays ++ stored ∷ [] })
  array_more numbers stored fits has = record {
    scalars = fits.scalars;
    arrays = stored_both base numbers.arrays (stored ∷ []) fits.arrays (has, tt);
  }

  -- ---- copies of arrays

  copy_fits : (line : ℕ) (next : Next) (from : Stored) → HasStorage base from.storage from.array →
      IsStorage from.storage → IsLaidOut base next (made_copy line next from) →
      FitsLowered base (made_copy line next from)
  copy_fits line next from has is laid =
      let rank : ℕ = from.storage.rank in
      record {
        code_fits = (
          (
            record {
              rank = rank;
              fit = (laid.slots_at.0, (storage_region from.storage is).0, refl);
            },
            (storage_region from.storage is).1,
          ),
          (
            put_loop base rank next.slots next.arrays (expr.Element from.array) None line is.is_rank
                laid.slots_at.0 (array_of base rank next.arrays from.storage laid.arrays_at.0 refl)
                (is.is_rank, array_of base rank from.array from.storage has refl) tt (inr (inr tt)),
            tt,
          ),
        );
        slot_ranks = (is.is_rank, tt);
        temp_ranks = tt;
        small_shifts = tt;
      }

  -- ---- parameters

  pub givens_fit : (line : ℕ) (formals : List FormalName) (actuals : List Given) (frame : Framed)
      (next : Next) (rest : Framed → Next → Lowered) → FitsGivens base actuals →
      FitNumbers base frame.numbers → AllKept frame.numbers.arrays →
      (let last = given_frames line formals actuals frame next in
      FitNumbers base last.frame.numbers → AllKept last.frame.numbers.arrays →
      IsLaidOut base last.next (rest last.frame last.next) →
      FitsLowered base (rest last.frame last.next)) →
      IsLaidOut base next (givens_code line formals actuals frame next rest) →
      FitsLowered base (givens_code line formals actuals frame next rest)
  givens_fit line [] actuals frame next rest givens fits kept rests laid = rests fits kept laid
  givens_fit line (formal ∷ formals) [] frame next rest givens fits kept rests laid =
      rests fits kept laid
  givens_fit line (formal ∷ formals) (Valued scalar ∷ actuals) frame next rest givens fits kept
      rests laid =
      givens_fit line formals actuals (with_scalar frame formal.name scalar) next rest givens.1
      (scalar_more frame.numbers scalar fits givens.0) kept rests laid
  givens_fit line (formal ∷ formals) (Referring thing ∷ actuals) frame next rest givens fits kept
      rests laid =
      givens_fit line formals actuals
      (record frame { names = frame.names ++ (formal.name.text, thing) ∷ [] }) next rest givens.1
      fits kept rests laid
  givens_fit line (formal ∷ formals) (Copied from home ∷ actuals) frame next rest givens fits kept
      rests laid =
      let first : Lowered = made_copy line next from in
      let stored : Stored = record { array = next.arrays; storage = from.storage } in
      let more : Framed = with_array frame formal.name home stored in
      let after : Next = behind next first in
      let later : Lowered = givens_code line formals actuals more after rest in
      let code = piece.Then first.code later.code in
      let front = laid_front base next code first later laid in
      both_fit base first later (copy_fits line next from givens.0.0 givens.0.1 front)
      (givens_fit line formals actuals more after rest givens.1
      (array_more frame.numbers stored fits front.arrays_at.0)
      (kept_both frame.numbers.arrays (stored ∷ []) kept (givens.0.1, tt)) rests
      (laid_behind base next code first later laid))

  -- ---- local variables

  zero_fits : (entry : Entry) (scalar : ℕ) → scalar < base.scalars →
      FitRows base 0 (zero_row entry scalar)
  zero_fits entry scalar below = by entry.clears
    where
      by : (clears : Bool) →
          FitRows base 0 (zero_row (record { clears = clears; line = entry.line }) scalar)
      by true = (set_fits base scalar (expr.Constant (pos 0)) entry.line below tt, tt)
      by false = tt

  clear_fits : (entry : Entry) (storage : Region) (array : ℕ) → HasStorage base storage array →
      FitRows base 0 (clear_row entry array)
  clear_fits entry storage array has = by entry.clears
    where
      by : (clears : Bool) →
          FitRows base 0 (clear_row (record { clears = clears; line = entry.line }) array)
      by true = ((record { rank = 1; fit = stored_of base array storage has }, tt), tt)
      by false = tt

  pub names_fit : (setup : Setup) (entry : Entry) (shape : Bracket) (names : List Name)
      (frame : Framed) (next : Next) (rest : Framed → Next → Lowered) → FitsVars setup shape →
      FitNumbers base frame.numbers → AllKept frame.numbers.arrays →
      (let last = name_frames setup entry shape names frame next in
      FitNumbers base last.frame.numbers → AllKept last.frame.numbers.arrays →
      IsLaidOut base last.next (rest last.frame last.next) →
      FitsLowered base (rest last.frame last.next)) →
      IsLaidOut base next (names_code setup entry shape names frame next rest) →
      FitsLowered base (names_code setup entry shape names frame next rest)
  names_fit setup entry shape [] frame next rest is fits kept rests laid = rests fits kept laid
  names_fit setup entry NoBracket (name ∷ names) frame next rest is fits kept rests laid =
      let first : Lowered = record (rows_alone (zero_row entry next.scalars)) { scalars = 1 } in
      let more : Framed = with_scalar frame name next.scalars in
      let after : Next = behind next first in
      let later : Lowered = names_code setup entry NoBracket names more after rest in
      let code = piece.Then first.code later.code in
      let front = laid_front base next code first later laid in
      let top = front.below in
      let below : next.scalars < base.scalars = omega arith in
      both_fit base first later
      (record {
        code_fits = zero_fits entry next.scalars below;
        slot_ranks = tt;
        temp_ranks = tt;
        small_shifts = tt;
      })
      (names_fit setup entry NoBracket names more after rest is
      (scalar_more frame.numbers next.scalars fits below) kept rests
      (laid_behind base next code first later laid))
  names_fit setup entry (Bracketed inner) (name ∷ names) frame next rest is fits kept rests laid =
      let storage : Region = storage_box setup.known setup.borders inner in
      let stored : Stored = record { array = next.arrays; storage = storage } in
      let first : Lowered =
      record (rows_alone (clear_row entry next.arrays)) { arrays = storage ∷ [] } in
      let more : Framed = with_array frame name (home_box setup.known inner) stored in
      let after : Next = behind next first in
      let later : Lowered = names_code setup entry (Bracketed inner) names more after rest in
      let code = piece.Then first.code later.code in
      let front = laid_front base next code first later laid in
      both_fit base first later
      (record {
        code_fits = clear_fits entry storage next.arrays front.arrays_at.0;
        slot_ranks = tt;
        temp_ranks = tt;
        small_shifts = tt;
      })
      (names_fit setup entry (Bracketed inner) names more after rest is
      (array_more frame.numbers stored fits front.arrays_at.0)
      (kept_both frame.numbers.arrays (stored ∷ []) kept (is, tt)) rests
      (laid_behind base next code first later laid))
