-- What a row that goes on does to slots and to the places of an array that it makes anew.
use Rattle.std.proofs.Common.{◌≡◌, ℕ, zero, suc, Bool, true, false, refl, sym, ◌∙◌, ap, subst}
use Rattle.std.proofs.Common.{ℤ, List, [], ◌∷◌, Option, Some, None}
use Rattle.std.specs.Prelude.{slice_get, slice_set, take}
use Rattle.zpl_region.specs.declared.dims.Dim.{Dim}
use Rattle.zpl_region.specs.declared.regions.Region.{Region}
use Rattle.zpl_region.specs.Tests.{is_within_limit}
use Rattle.zpl_arrays.specs.Border.{border_conforms}
use Rattle.zpl_arrays.specs.Reference.{is_reference}
use Rattle.zpl_nums.specs.declared.ends.TrapKind.{TrapKind}
use Rattle.zpl_nums.specs.declared.ends.TrapKind.TheVariants as trap
use Rattle.node_form.specs.declared.arrays.ArrayRow.{ArrayRow}
use Rattle.node_form.specs.declared.instructions.DimRow.{DimRow}
use Rattle.node_form.specs.declared.instructions.Instr.{Instr}
use Rattle.node_form.specs.declared.instructions.Instr.TheVariants as instr
use Rattle.node_form.specs.declared.instructions.RegionForm.{RegionForm}
use Rattle.node_form.specs.declared.instructions.SameKind.{SameKind}
use Rattle.node_form.specs.declared.tables.Tables.{Tables}
use Rattle.node_form.specs.Control.{Registers, Steps, checked, conforms, formed_by, limited}
use Rattle.node_form.specs.Control.{part_dims, region_of, with_computed, with_row, with_slot}
use Rattle.node_form.specs.Fits.{storage_of}
use Rattle.node_form.specs.Value.{Computed, Gives, Divides, Lacks}
use Rattle.code_parts.specs.Exchanged.{is_exchange_row}
use Rattle.code_parts.specs.Stretch.{ends_stretch}
use Rattle.row_runs.specs.Run.{Does, Effect, Ends, Goes, Step, Stops}
use Rattle.zpl_nums.specs.declared.ends.End.TheVariants.{Done, Trap, More}
use Rattle.row_runs.specs.Run.{Wrong}
use Rattle.plan_meaning.specs.Abreast.{Abreast}
use Rattle.plan_meaning.specs.Act.{controlled, is_vote_of, loop_does, row_does}
use Rattle.plan_passes.proofs.AwaitLemmas.{Await, Ready, looping, loop_next, next_as, ready, ready_act}
use Rattle.plan_passes.proofs.KeepLemmas.{Behind, KeepsOn, KeepsStop, KeepsWanted, RowKeeps, SlotsKept}
use Rattle.plan_passes.proofs.KeepLemmas.{control_keeps, row_keeps}

-- ---- the state behind a row that goes on
on_of : (P : Abreast → Type 0) (e : Effect Await) (bytes : List ℕ) (next : Abreast) → RowKeeps P e
    → e ≡ Does (Goes bytes (Ready next)) → P next
on_of P e bytes next (KeepsOn {next = other} is) same =
    let one : other ≡ next = cc in
    subst P one is
on_of P e bytes next KeepsWanted same = cc
on_of P e bytes next KeepsStop same = cc

module _ (code : Tables) (links : Option ℕ) (n : ℕ) (all behind : Abreast) (bytes : List ℕ) where
  loop_on : (group : ℕ) (b : Bool) (step : Step Abreast) → next_as b step ≡ Goes bytes behind
      → looping group step ≡ Goes bytes (Ready behind)
  loop_on group b (Goes shown next) e =
      let one : shown ≡ bytes = cc in
      let other : next ≡ behind = cc in
      subst (λ bytes. Goes shown (Ready next) ≡ Goes bytes (Ready behind)) one
      (ap (λ all. Goes shown (Ready all)) other)
  loop_on group true (Stops (Ends More)) e = cc
  loop_on group false (Stops (Ends More)) e = cc
  loop_on group b (Stops (Ends Done)) e = cc
  loop_on group b (Stops (Ends (Trap kind line))) e = cc
  loop_on group b (Stops Wrong) e = cc

  does_on : (step : Step Abreast) → Does step ≡ Does (Goes bytes behind) → step ≡ Goes bytes behind
  does_on step e = cc

  ready_on : (row : Instr) (next : Option Instr)
      → row_does code links n row next all ≡ Does (Goes bytes behind)
      → ready_act code links n row all ≡ Does (Goes bytes (Ready behind))
  ready_on (instr.Loop slot group) next e =
      ap Does (loop_on group (is_vote_of group next)
      (loop_does code links n slot group (Some (instr.Vote group)) all)
      (sym (loop_next code links n slot group next all)
      ∙ does_on (loop_does code links n slot group next all) e))
  ready_on row next e = ap ready e

  pub behind_row : (row : Instr) (next : Option Instr) → ends_stretch row ≡ false
      → is_exchange_row row ≡ false
      → row_does code links n row next all ≡ Does (Goes bytes behind) → Behind code row all behind
  behind_row row next straight other e =
      on_of (Behind code row all) (ready_act code links n row all) bytes behind
      (row_keeps code links n row straight other all) (ready_on row next e)

  -- ---- rows that need scalars and slots alone
  pub slots_kept : (row : Instr) → ends_stretch row ≡ false
      → controlled code row all ≡ Does (Goes bytes behind) → SlotsKept code row all behind
  slots_kept row straight e =
      on_of (SlotsKept code row all) (ready (controlled code row all)) bytes behind
      (control_keeps code row straight all) (ap ready e)

-- ---- what control says
steps_same : (one other : Registers) → Steps one ≡ Steps other → one ≡ other
steps_same one other e = cc

module _ (registers after : Registers) where
  pub passed : (b : Bool) (kind : TrapKind) (line : ℕ)
      → checked registers b kind line ≡ Steps after → b ≡ true
  passed true kind line e = refl
  passed false kind line e = cc

  limited_on : (slot line : ℕ) (region : Region) (b : Bool)
      → limited registers slot line region b ≡ Steps after
      → after.slots ≡ slice_set registers.slots slot region
  limited_on slot line region true e =
      sym (ap (λ r. r.slots)
      (steps_same (record registers { slots = slice_set registers.slots slot region }) after e))
  limited_on slot line region false e = cc

  pub fixed_on : (slot : ℕ) (region : Region)
      → Steps (record registers { slots = slice_set registers.slots slot region }) ≡ Steps after
      → after.slots ≡ slice_set registers.slots slot region
  fixed_on slot region e =
      sym (ap (λ r. r.slots)
      (steps_same (record registers { slots = slice_set registers.slots slot region }) after e))

  pub record IsFormed (form : RegionForm) (slot from : ℕ) (shift : List ℤ) : Type 0 where
    pub region : Region
    pub read : slice_get registers.slots from ≡ Some region
    pub slots : after.slots ≡ slice_set registers.slots slot (formed_by form shift region)

  pub formed_on : (form : RegionForm) (slot from : ℕ) (shift : List ℤ) (line : ℕ)
      → with_row (slice_get registers.slots from)
      (λ region. with_slot registers slot line (formed_by form shift region)) ≡ Steps after
      → IsFormed form slot from shift
  formed_on form slot from shift line e = by (slice_get registers.slots from) refl e
    where
      by : (o : Option Region) → slice_get registers.slots from ≡ o
          → with_row o (λ region. with_slot registers slot line (formed_by form shift region))
          ≡ Steps after → IsFormed form slot from shift
      by None is e = cc
      by (Some region) is e = record {
        region = region;
        read = is;
        slots =
            limited_on slot line (formed_by form shift region)
            (is_within_limit (formed_by form shift region)) e;
      }

  pub dims_on : (code : Tables) (slot : ℕ) (parts : List DimRow) (line : ℕ)
      → with_row (slice_get code.slots slot) (λ rank.
      with_computed (part_dims code registers 0 (take rank parts)) line
      (λ dims. with_slot registers slot line (region_of rank dims))) ≡ Steps after
      → (region : Region) × (after.slots ≡ slice_set registers.slots slot region)
  dims_on code slot parts line e = by (slice_get code.slots slot) e
    where
      in_dims : (rank : ℕ) (o : Computed (List Dim))
          → with_computed o line (λ dims. with_slot registers slot line (region_of rank dims))
          ≡ Steps after
          → (region : Region) × (after.slots ≡ slice_set registers.slots slot region)
      in_dims rank (Gives dims) e = (
        region_of rank dims,
        limited_on slot line (region_of rank dims) (is_within_limit (region_of rank dims)) e,
      )
      in_dims rank Divides e = cc
      in_dims rank Lacks e = cc

      by : (o : Option ℕ) → with_row o (λ rank.
          with_computed (part_dims code registers 0 (take rank parts)) line
          (λ dims. with_slot registers slot line (region_of rank dims))) ≡ Steps after
          → (region : Region) × (after.slots ≡ slice_set registers.slots slot region)
      by None e = cc
      by (Some rank) e = in_dims rank (part_dims code registers 0 (take rank parts)) e

  pub need_on : (shift : List ℤ) (line : ℕ) (o : Option Region) (r : Option ArrayRow)
      → with_row o (λ region. with_row r (λ row.
      checked registers (is_reference shift region (storage_of row)) trap.OutsideStorage line))
      ≡ Steps after → (region : Region) → o ≡ Some region
      → (row : ArrayRow) × (r ≡ Some row) × (is_reference shift region (storage_of row) ≡ true)
  need_on shift line None r e region is = cc
  need_on shift line (Some one) None e region is = cc
  need_on shift line (Some one) (Some row) e region is =
      let same : one ≡ region = cc in (
        row,
        refl,
        subst (λ region. is_reference shift region (storage_of row) ≡ true) same
            (passed (is_reference shift one (storage_of row)) trap.OutsideStorage line e),
      )

  pub same_on : (kind : SameKind) (line : ℕ) (o r : Option Region)
      → with_row o (λ region. with_row r (λ other.
      checked registers (conforms kind region other) trap.RegionMismatch line)) ≡ Steps after
      → (one other : Region) → o ≡ Some one → r ≡ Some other → conforms kind one other ≡ true
  same_on kind line None r e one other here there = cc
  same_on kind line (Some a) None e one other here there = cc
  same_on kind line (Some a) (Some b) e one other here there =
      let first : a ≡ one = cc in
      let second : b ≡ other = cc in
      subst (λ a. conforms kind a other ≡ true) first
      (subst (λ b. conforms kind a b ≡ true) second
      (passed (conforms kind a b) trap.RegionMismatch line e))

  pub fits_on : (shift : List ℤ) (line : ℕ) (o : Option Region)
      → with_row o (λ region.
      checked registers (border_conforms shift region) trap.RegionMismatch line) ≡ Steps after
      → (region : Region) → o ≡ Some region → border_conforms shift region ≡ true
  fits_on shift line None e region is = cc
  fits_on shift line (Some one) e region is =
      let same : one ≡ region = cc in
      subst (λ region. border_conforms shift region ≡ true) same
      (passed (border_conforms shift one) trap.RegionMismatch line e)

-- ---- the slot that is written
pub set_there : {X : Type 0} (xs : List X) (k : ℕ) (x y : X) → slice_get xs k ≡ Some y
    → slice_get (slice_set xs k x) k ≡ Some x
set_there [] k x y e = cc
set_there (z ∷ xs) zero x y e = refl
set_there (z ∷ xs) (suc k) x y e = set_there xs k x y e
