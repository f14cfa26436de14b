-- A check that passes for each region that its slot is filled with passes wherever it may stand.
use Rattle.std.proofs.Common.{◌≡◌, refl, sym, subst, ap, ◌∙◌, arith, ℕ, zero, suc, ◌*◌, ◌-◌}
use Rattle.std.proofs.Common.{Bool, true, false, true≢false, ℤ, pos, List, [], ◌∷◌, ◌++◌, map}
use Rattle.std.proofs.Common.{replicate}
use Rattle.std.specs.Prelude.{◌&&◌, ◌||◌, ◌==◌, not, Option, Some, None, Any}
use Rattle.std.specs.Prelude.{IsSomeAnd, slice_get, slice_set}
use Rattle.std.specs.List.{AllByRecursion, list_all}
use Rattle.std.proofs.lemmas.Bool.Decides.{nat_tests}
use Rattle.zpl_region.specs.declared.dims.Dim.{Dim}
use Rattle.zpl_region.specs.declared.regions.Region.{Region}
use Rattle.zpl_region.specs.Ends.{tuple_count}
use Rattle.zpl_region.specs.Hull.{all_from}
use Rattle.zpl_region.specs.Region.{padding}
use Rattle.zpl_arrays.specs.Reference.{is_reference}
use Rattle.zpl_arrays.proofs.CheckLemmas.{reference_of_none}
use Rattle.row_runs.specs.Run.{Effect, Does, Goes}
use Rattle.node_form.specs.declared.arrays.ArrayRow.{ArrayRow}
use Rattle.node_form.specs.declared.arrays.Item.{Item}
use Rattle.node_form.specs.declared.instructions.Instr.{Instr}
use Rattle.node_form.specs.declared.instructions.Instr.TheVariants as instr
use Rattle.node_form.specs.declared.members.Member.{Member}
use Rattle.node_form.specs.declared.members.Member.TheVariants as member
use Rattle.node_form.specs.declared.tables.Tables.{Tables}
use Rattle.node_form.specs.declared.touches.Thing.TheVariants as thing
use Rattle.node_form.specs.Fits.{IsRank, storage_of}
use Rattle.node_form.specs.Touch.{IsWritten, IsWrittenByMember}
use Rattle.grid_meaning.specs.Stored.{no_places}
use Rattle.code_parts.specs.Needs.{is_within, leaves_passing}
use Rattle.code_parts.specs.Uses.{written_slots}
use Rattle.flat_form.specs.Whole.{Whole, start_whole}
use Rattle.flat_form.proofs.ChangeLemmas.{change_written}
use Rattle.flat_passes.proofs.FlatRowLemmas.{does}

-- ---- lists with a value set
set_same : {X : Type 0} (xs : List X) (i : ℕ) (v w : X)
    → slice_get (slice_set xs i v) i ≡ Some w → v ≡ w
set_same [] i v w e = absurd (none e)
  where
    none : {X : Type 0} {w : X} → (let n : Option X = None in n) ≡ Some w → ⊥
    none e = cc
set_same (x ∷ xs) zero v w e = some e
  where
    some : {X : Type 0} {v w : X} → (let s : Option X = Some v in s) ≡ Some w → v ≡ w
    some e = cc
set_same (x ∷ xs) (suc i) v w e = set_same xs i v w e

pub set_other : {X : Type 0} (xs : List X) (i j : ℕ) (v : X) → (i ≡ j → ⊥)
    → slice_get (slice_set xs i v) j ≡ slice_get xs j
set_other [] i j v apart = refl
set_other (x ∷ xs) zero zero v apart = absurd (apart refl)
set_other (x ∷ xs) zero (suc j) v apart = refl
set_other (x ∷ xs) (suc i) zero v apart = refl
set_other (x ∷ xs) (suc i) (suc j) v apart = set_other xs i j v (λ e. apart (ap suc e))

pub differ : (a b : ℕ) → (a == b) ≡ false → a ≡ b → ⊥
differ a b e same =
    let one : (a == b) ≡ true = grind (arith, nat_tests, same) in true≢false (sym one ∙ e)

-- ---- slots that a row doesn't write
slot_number : {a b : ℕ} → thing.Slot a ≡ thing.Slot b → a ≡ b
slot_number e = cc

members_not : (slot : ℕ) (one : Member) → IsWrittenByMember (thing.Slot slot) one → ⊥
members_not slot (member.Put array expr mask line) is = cc
members_not slot (member.Acc scalar operator expr mask line) is = cc
members_not slot one is = is

-- the row writes no slot but this one
pub other_slot : (tables : Tables) (slot : ℕ) (row : Instr)
    → AllByRecursion (λ k. k ≡ slot → ⊥) (written_slots row)
    → IsWritten tables row (thing.Slot slot) → ⊥
other_slot tables slot (instr.Set scalar expr line) apart is = cc
other_slot tables slot (instr.Fix other region) apart is = apart.0 (sym (slot_number is))
other_slot tables slot (instr.Dims other parts line) apart is = apart.0 (sym (slot_number is))
other_slot tables slot (instr.Formed form other from by line) apart is =
    apart.0 (sym (slot_number is))
other_slot tables slot (instr.Room other from) apart is = cc
other_slot tables slot (instr.Clear other) apart is = cc
other_slot tables slot (instr.Loop other group) apart is =
    by (slice_get tables.groups group) is
  where
    by : (found : Option (List Member))
        → IsSomeAnd found (Any (IsWrittenByMember (thing.Slot slot))) → ⊥
    by (Some all) (k, one, inside, there, holds) = members_not slot one holds
    by None is = is
other_slot tables slot (instr.Finish exchange) apart is =
    by (slice_get tables.exchanges exchange) is
  where
    by : (found : Option (List Item))
        → IsSomeAnd found (Any (λ (item : Item). thing.Slot slot ≡ thing.Array item.array)) → ⊥
    by (Some all) (k, one, inside, there, holds) = cc
    by None is = is
other_slot tables slot (instr.Edge kind other from by) apart is = cc
other_slot tables slot (instr.Flood other target from source) apart is = cc
other_slot tables slot (instr.Part other target operator from source) apart is = cc
other_slot tables slot (instr.Scan other from operator along source mask) apart is = cc
other_slot tables slot (instr.Fold scalar operator) apart is = cc
other_slot tables slot (instr.TreeFold scalar operator) apart is = cc
other_slot tables slot (instr.Remap other from source parts) apart is = cc
other_slot tables slot row apart is = is

-- ---- the first places of slots
no_tuples : (dims : List Dim) → (tuple_count (all_from (pos 1) (pos 0) ∷ dims) == 0) ≡ true
no_tuples dims = let e : 0 * tuple_count dims ≡ 0 = omega arith in ap (λ k. k == 0) e

first_passes : (slots : List ℕ) → AllByRecursion IsRank slots → (slot : ℕ) (region : Region)
    → slice_get (map no_places slots) slot ≡ Some region → (shift : List ℤ) (storage : Region)
    → is_reference shift region storage ≡ true
first_passes [] ranks slot region e shift storage = absurd (none e)
  where
    none : {region : Region} → (let n : Option Region = None in n) ≡ Some region → ⊥
    none e = cc
first_passes (zero ∷ slots) ranks zero region e shift storage = absurd (omega (arith, ranks.0.0))
first_passes (suc rank ∷ slots) ranks zero region e shift storage =
    subst (λ r. is_reference shift r storage ≡ true) (some e)
    (reference_of_none shift (no_places (suc rank)) storage
    (no_tuples (replicate rank (all_from (pos 1) (pos 0)) ++ replicate (3 - suc rank) padding)))
  where
    some : (let s : Option Region = Some (no_places (suc rank)) in s) ≡ Some region
        → no_places (suc rank) ≡ region
    some e = cc
first_passes (rank ∷ slots) ranks (suc slot) region e shift storage =
    first_passes slots ranks.1 slot region e shift storage

module _ (tables : Tables) (n : ℕ) where
  abbrev pub IsDecided : ℕ → ℕ → List ℤ → Type 0
  IsDecided slot array shift =
      list_all (leaves_passing tables slot array shift) tables.code ≡ true

  pub record Passing (whole : Whole) : Type 0 where
    pub passing : (slot array : ℕ) (shift : List ℤ) (region : Region) (row : ArrayRow)
        → slice_get whole.slots slot ≡ Some region → slice_get tables.arrays array ≡ Some row
        → IsDecided slot array shift → is_reference shift region (storage_of row) ≡ true

  -- what the row leaves in a slot passes, as it does for each row of the code
  abbrev pub LeavesPassing : Instr → Type 0
  LeavesPassing row =
      (slot array : ℕ) (shift : List ℤ) → IsDecided slot array shift
      → leaves_passing tables slot array shift row ≡ true

  pub begins_passing : AllByRecursion IsRank tables.slots → Passing (start_whole tables)
  begins_passing ranks = record {
    passing = λ slot array shift region row is has decided.
        first_passes tables.slots ranks slot region is shift (storage_of row);
  }

  -- ---- and so it does behind each row
  is_not : (slot other : ℕ) → not (other == slot) ≡ true → other ≡ slot → ⊥
  is_not slot other e same = by (other == slot) refl e
    where
      by : (b : Bool) → (other == slot) ≡ b → not b ≡ true → ⊥
      by true f e = true≢false (sym e)
      by false f e = differ other slot f same

  -- a row that fills the slot with no known region fills no such check
  written_apart : (slot array : ℕ) (shift : List ℤ) (row : Instr)
      → ((filled : ℕ) (region : Region) → row ≡ instr.Fix filled region → ⊥)
      → leaves_passing tables slot array shift row ≡ true
      → AllByRecursion (λ k. k ≡ slot → ⊥) (written_slots row)
  written_apart slot array shift (instr.Fix other region) fix e = absurd (fix other region refl)
  written_apart slot array shift (instr.Dims other parts line) fix e = (is_not slot other e, tt)
  written_apart slot array shift (instr.Formed form other from by line) fix e =
      (is_not slot other e, tt)
  written_apart slot array shift row fix e = tt

  goes_on : (slot array : ℕ) (shift : List ℤ) (row : Instr) (whole next : Whole) (bytes : List ℕ)
      → does tables n row whole ≡ Does (Goes bytes next) → Passing whole
      → leaves_passing tables slot array shift row ≡ true
      → (region : Region) (stored : ArrayRow) → slice_get next.slots slot ≡ Some region
      → slice_get tables.arrays array ≡ Some stored → IsDecided slot array shift
      → is_reference shift region (storage_of stored) ≡ true
  goes_on slot array shift (instr.Fix other filled) whole next bytes goes passing leaves region
      stored is has decided = by (other == slot) refl
    where
      next_is : (let e : Effect Whole = does tables n (instr.Fix other filled) whole in e)
          ≡ Does (Goes bytes next) → slice_set whole.slots other filled ≡ next.slots
      next_is e = ap (λ w. w.slots) (sames e)
        where
          sames : Does (Goes [] (record whole { slots = slice_set whole.slots other filled }))
              ≡ Does (Goes bytes next)
              → record whole { slots = slice_set whole.slots other filled } ≡ next
          sames e = cc

      in_slot : slice_get (slice_set whole.slots other filled) slot ≡ Some region
      in_slot = ap (λ slots. slice_get slots slot) (next_is goes) ∙ is

      passes_for : (b : Bool) → (other == slot) ≡ b
          → (not b || is_within shift filled (slice_get tables.arrays array)) ≡ true → b ≡ true
          → is_reference shift filled (storage_of stored) ≡ true
      passes_for true e within same =
          subst (λ found. is_within shift filled found ≡ true) has within
      passes_for false e within same = absurd (true≢false (sym same))

      by : (b : Bool) → (other == slot) ≡ b → is_reference shift region (storage_of stored) ≡ true
      by true e =
          let same : other ≡ slot = grind (arith, nat_tests, e) in
          let filled_is : filled ≡ region =
          set_same whole.slots slot filled region
          (subst (λ k. slice_get (slice_set whole.slots k filled) slot ≡ Some region) same in_slot)
          in
          subst (λ r. is_reference shift r (storage_of stored) ≡ true) filled_is
          (passes_for (other == slot) refl leaves e)
      by false e =
          passing.passing slot array shift region stored
          (sym (set_other whole.slots other slot filled (differ other slot e)) ∙ in_slot) has
          decided
  goes_on slot array shift row whole next bytes goes passing leaves region stored is has decided =
      passing.passing slot array shift region stored
      ((change_written tables n row whole next bytes goes (thing.Slot slot)
      (other_slot tables slot row
      (written_apart slot array shift row (λ filled region e. no_fix e) leaves))).1
      ∙ is) has decided
    where
      no_fix : {filled : ℕ} {region : Region} → row ≡ instr.Fix filled region → ⊥
      no_fix e = cc

  pub passes_on : (row : Instr) (whole next : Whole) (bytes : List ℕ)
      → does tables n row whole ≡ Does (Goes bytes next) → LeavesPassing row → Passing whole
      → Passing next
  passes_on row whole next bytes goes of passing = record {
    passing = λ slot array shift region stored is has decided.
        goes_on slot array shift row whole next bytes goes passing (of slot array shift decided)
        region stored is has decided;
  }

  -- ---- rows of the code
  pub all_passing : (rows : List Instr)
      → ((slot array : ℕ) (shift : List ℤ) → IsDecided slot array shift
      → list_all (leaves_passing tables slot array shift) rows ≡ true)
      → AllByRecursion LeavesPassing rows
  all_passing [] all = tt
  all_passing (row ∷ rows) all = (
    λ slot array shift e. first (leaves_passing tables slot array shift row)
        (list_all (leaves_passing tables slot array shift) rows) (all slot array shift e),
    all_passing rows (λ slot array shift e. second (leaves_passing tables slot array shift row)
        (list_all (leaves_passing tables slot array shift) rows) (all slot array shift e)),
  )
    where
      first : (a b : Bool) → (a && b) ≡ true → a ≡ true
      first true b e = refl
      first false b e = e

      second : (a b : Bool) → (a && b) ≡ true → b ≡ true
      second true b e = e
      second false b e = absurd (true≢false (sym e))
