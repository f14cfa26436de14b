-- The regions of slots have the ranks of their slots, and three dimensions, at every place of a
-- run.
use Rattle.std.proofs.Common.{◌≡◌, refl, sym, ◌∙◌, subst, arith, ℕ, zero, suc, ◌-◌}
use Rattle.std.proofs.Common.{ap, length, length-append, ◌≤◌}
use Rattle.std.proofs.Common.{Bool, true, false, List, [], ◌∷◌, map, replicate, ℤ}
use Rattle.std.proofs.Common.{pos, All, Any, Option, Some, None, ◌⊎◌, inl, inr, take}
use Rattle.std.specs.Prelude.{if◌then◌else◌, slice_get, slice_set}
use Rattle.std.specs.List.{AllByRecursion}
use Rattle.std.specs.Option.{IsSomeAnd}
use Rattle.std.proofs.lemmas.List.Elements.{recursion_from_All}
use Rattle.zpl_nums.specs.declared.ends.End.{End}
use Rattle.zpl_region.specs.declared.dims.Dim.{Dim}
use Rattle.zpl_region.specs.declared.regions.Region.{Region}
use Rattle.zpl_region.specs.Hull.{all_from}
use Rattle.zpl_region.specs.Dim.{dim_inside_of, dim_moved, dim_outside_of, dim_strided}
use Rattle.zpl_region.specs.Region.{components, padding}
use Rattle.zpl_region.specs.Tests.{is_within_limit}
use Rattle.row_runs.specs.Run.{Effect, Does, Goes, Leaps, Stops, Wrong}
use Rattle.node_form.specs.declared.arrays.Item.{Item}
use Rattle.node_form.specs.declared.instructions.DimRow.{DimRow}
use Rattle.node_form.specs.declared.instructions.Instr.{Instr}
use Rattle.node_form.specs.declared.instructions.Instr.TheVariants as instr
use Rattle.node_form.specs.declared.instructions.RegionForm.{RegionForm}
use Rattle.node_form.specs.declared.instructions.RegionForm.TheVariants.{At, By, Inside, Of}
use Rattle.node_form.specs.declared.members.Member.{Member}
use Rattle.node_form.specs.declared.members.Member.TheVariants as member
use Rattle.node_form.specs.declared.tables.Tables.{Tables}
use Rattle.node_form.specs.declared.touches.Thing.TheVariants as thing
use Rattle.node_form.specs.Control as control
use Rattle.node_form.specs.Control.{Control, Registers, formed_by, limited, part_dim, part_dims}
use Rattle.node_form.specs.Control.{region_of, register_value, slot_dim, with_computed, with_row}
use Rattle.node_form.specs.Control.{with_slot}
use Rattle.node_form.specs.Fits.{FitsInstr, IsRank}
use Rattle.node_form.specs.Touch.{IsWritten, IsWrittenByMember}
use Rattle.node_form.specs.Value.{Computed, Divides, Gives, Lacks, and_then, mapped}
use Rattle.grid_meaning.specs.Stored.{no_places}
use Rattle.grid_meaning.proofs.RegionLemmas.{length-each}
use Rattle.flat_form.specs.Act.{act, control_of, controlled}
use Rattle.flat_form.specs.Right.{are_settled}
use Rattle.flat_form.specs.Row.{inlined}
use Rattle.flat_form.specs.Whole.{Whole, registers_of, start_whole}
use Rattle.flat_form.proofs.ChangeLemmas.{change_written}
use Rattle.flat_form.proofs.InlineLemmas.{control_inline}
use Rattle.fused_runs.specs.Typed.{HasThreeDims}

abbrev pub IsSized : ℕ → Region → Type 0
IsSized rank region = (length region.dims ≡ 3) × (region.rank ≡ rank)

abbrev pub SizedIn : List ℕ → List Region → Type 0
SizedIn ranks slots =
    (slot rank : ℕ) (region : Region) → slice_get ranks slot ≡ Some rank
    → slice_get slots slot ≡ Some region → IsSized rank region

pub record AreSized (tables : Tables) (whole : Whole) : Type 0 where
  pub sized : SizedIn tables.slots whole.slots

-- ---- lists with a value set
set_either : {X : Type 0} (xs : List X) (i j : ℕ) (v w : X)
    → slice_get (slice_set xs i v) j ≡ Some w → ((i ≡ j) × (v ≡ w)) ⊎ (slice_get xs j ≡ Some w)
set_either [] i j v w e = inr e
set_either (x ∷ xs) zero zero v w e = inl (refl, some e)
  where
    some : {X : Type 0} {v w : X} → Some v ≡ Some w → v ≡ w
    some e = cc
set_either (x ∷ xs) zero (suc j) v w e = inr e
set_either (x ∷ xs) (suc i) zero v w e = inr e
set_either (x ∷ xs) (suc i) (suc j) v w e = by (set_either xs i j v w e)
  where
    by : ((i ≡ j) × (v ≡ w)) ⊎ (slice_get xs j ≡ Some w)
        → ((suc i ≡ suc j) × (v ≡ w)) ⊎ (slice_get xs j ≡ Some w)
    by (inl both) = inl (ap suc both.0, both.1)
    by (inr there) = inr there

one_rank : {rank other : ℕ} {found : Option ℕ} → found ≡ Some rank → found ≡ Some other
    → rank ≡ other
one_rank e f = some (sym e ∙ f)
  where
    some : {v w : ℕ} → Some v ≡ Some w → v ≡ w
    some e = cc

long : {X : Type 0} (n : ℕ) (x : X) → length (replicate n x) ≡ n
long zero x = refl
long (suc n) x = ap suc (long n x)

set_sized : (ranks : List ℕ) (slots : List Region) (slot rank : ℕ) (region : Region)
    → SizedIn ranks slots → slice_get ranks slot ≡ Some rank → IsSized rank region
    → SizedIn ranks (slice_set slots slot region)
set_sized ranks slots slot rank region have is own at other found known e =
    by (set_either slots slot at region found e)
  where
    by : ((slot ≡ at) × (region ≡ found)) ⊎ (slice_get slots at ≡ Some found)
        → IsSized other found
    by (inl same) =
        let rank_is : rank ≡ other =
        one_rank is (subst (λ k. slice_get ranks k ≡ Some other) (sym same.0) known) in
        subst (λ k. IsSized k found) rank_is (subst (IsSized rank) same.1 own)
    by (inr there) = have at other found known there

-- ---- the start
places_sized : (rank : ℕ) → rank ≤ 3 → IsSized rank (no_places rank)
places_sized rank few = (
  omega (
    arith,
    few,
    length-append (replicate rank (all_from (pos 1) (pos 0))) (replicate (3 - rank) padding),
    long rank (all_from (pos 1) (pos 0)),
    long (3 - rank) padding,
  ),
  refl,
)

first_sized : (slots : List ℕ) → AllByRecursion IsRank slots → SizedIn slots (map no_places slots)
first_sized [] ranks slot rank region known e = absurd (none e)
  where
    none : {region : Region} → (let n : Option Region = None in n) ≡ Some region → ⊥
    none e = cc
first_sized (one ∷ slots) ranks zero rank region known e =
    let same : one ≡ rank = one_rank {found = Some one} refl known in
    subst (λ k. IsSized k region) same
    (subst (IsSized one) (some e) (places_sized one ranks.0.1))
  where
    some : {v w : Region} → Some v ≡ Some w → v ≡ w
    some e = cc
first_sized (one ∷ slots) ranks (suc slot) rank region known e =
    first_sized slots ranks.1 slot rank region known e

pub begins_sized : (tables : Tables) → All IsRank tables.slots
    → AreSized tables (start_whole tables)
begins_sized tables ranks =
    record { sized = first_sized tables.slots (recursion_from_All IsRank tables.slots ranks) }

-- ---- what a row makes of slots
module _ (ranks : List ℕ) where
  pub data KeepsSized : Control → Type 0 where
    SlotsOn : {registers : Registers} → SizedIn ranks registers.slots
        → KeepsSized (control.Steps registers)
    GoesTo : {goal : ℕ} → KeepsSized (control.Leaps goal)
    Ended : {ending : End} → KeepsSized (control.Ends ending)
    NotSaid : KeepsSized control.Outside

  row_keeps : {X : Type 0} (found : Option X) (next : X → Control)
      → ((x : X) → found ≡ Some x → KeepsSized (next x)) → KeepsSized (with_row found next)
  row_keeps (Some x) next keeps = keeps x refl
  row_keeps None next keeps = NotSaid

  limited_keeps : (registers : Registers) (slot line rank : ℕ) (region : Region) (b : Bool)
      → SizedIn ranks registers.slots → slice_get ranks slot ≡ Some rank → IsSized rank region
      → KeepsSized (limited registers slot line region b)
  limited_keeps registers slot line rank region true have is own =
      SlotsOn (set_sized ranks registers.slots slot rank region have is own)
  limited_keeps registers slot line rank region false have is own = Ended

-- ---- dimensions that are made
abbrev AllMade : ℕ → Computed (List Dim) → Type 0
AllMade n (Gives dims) = length dims ≡ n
AllMade n Divides = Unit {0}
AllMade n Lacks = Unit {0}

cons_made : (n : ℕ) (first : Computed Dim) (rest : Computed (List Dim)) → AllMade n rest
    → AllMade (suc n) (and_then (λ first. mapped (λ rest. first ∷ rest) rest) first)
cons_made n (Gives d) (Gives dims) all = omega (arith, all)
cons_made n (Gives d) Divides all = tt
cons_made n (Gives d) Lacks all = tt
cons_made n Divides rest all = tt
cons_made n Lacks rest all = tt

module _ (tables : Tables) (registers : Registers)
    (have : SizedIn tables.slots registers.slots) (ranks : All IsRank tables.slots) where
  all_made : (k rank : ℕ) (parts : List DimRow) → rank ≤ length parts
      → AllMade rank (part_dims tables registers k (take rank parts))
  all_made k zero parts long = refl
  all_made k (suc rank) [] long = absurd (omega (arith, long))
  all_made k (suc rank) (p ∷ parts) long =
      cons_made rank (part_dim tables registers k p)
      (part_dims tables registers (suc k) (take rank parts))
      (all_made (suc k) rank parts (omega (arith, long)))

  made_keeps : (slot line rank : ℕ) → rank ≤ 3 → slice_get tables.slots slot ≡ Some rank
      → (made : Computed (List Dim)) → AllMade rank made
      → KeepsSized tables.slots (with_computed made line (λ dims.
      with_slot registers slot line (region_of rank dims)))
  made_keeps slot line rank few is (Gives dims) all =
      limited_keeps tables.slots registers slot line rank (region_of rank dims)
      (is_within_limit (region_of rank dims)) have is (
        omega (
          arith,
          few,
          all,
          length-append dims (replicate (3 - rank) padding),
          long (3 - rank) padding,
        ),
        refl,
      )
  made_keeps slot line rank few is Divides all = Ended
  made_keeps slot line rank few is Lacks all = NotSaid

  rank_at : (slots : List ℕ) → AllByRecursion IsRank slots → (k rank : ℕ)
      → slice_get slots k ≡ Some rank → rank ≤ 3
  rank_at [] all k rank e = absurd (none e)
    where
      none : (let n : Option ℕ = None in n) ≡ Some rank → ⊥
      none e = cc
  rank_at (one ∷ slots) all zero rank e =
      let same : one ≡ rank = cc in omega (arith, same, all.0.1)
  rank_at (one ∷ slots) all (suc k) rank e = rank_at slots all.1 k rank e

  formed_sized : (form : RegionForm) (shift : List ℤ) (rank : ℕ) (region : Region)
      → IsSized rank region → IsSized rank (formed_by form shift region)
  formed_sized Of shift rank region all = (
    omega (arith, all.0, length-each dim_outside_of (components region.rank shift) region.dims),
    all.1,
  )
  formed_sized Inside shift rank region all = (
    omega (arith, all.0, length-each dim_inside_of (components region.rank shift) region.dims),
    all.1,
  )
  formed_sized At shift rank region all = (
    omega (arith, all.0, length-each dim_moved (components region.rank shift) region.dims),
    all.1,
  )
  formed_sized By shift rank region all = (
    omega (arith, all.0, length-each dim_strided (components region.rank shift) region.dims),
    all.1,
  )

  dims_keeps : (slot : ℕ) (parts : List DimRow) (line : ℕ) → length parts ≡ 3
      → KeepsSized tables.slots (control.control tables registers (instr.Dims slot parts line))
  dims_keeps slot parts line three =
      row_keeps tables.slots (slice_get tables.slots slot)
      (λ rank. with_computed (part_dims tables registers 0 (take rank parts)) line (λ dims.
      with_slot registers slot line (region_of rank dims)))
      (λ rank e.
      let few = rank_at tables.slots (recursion_from_All IsRank tables.slots ranks) slot rank e in
      made_keeps slot line rank few e (part_dims tables registers 0 (take rank parts))
      (all_made 0 rank parts (omega (arith, three, few))))

  formed_keeps : (form : RegionForm) (slot from : ℕ) (shift : List ℤ) (line rank : ℕ)
      → slice_get tables.slots slot ≡ Some rank → slice_get tables.slots from ≡ Some rank
      → KeepsSized tables.slots
      (control.control tables registers (instr.Formed form slot from shift line))
  formed_keeps form slot from shift line rank is there =
      row_keeps tables.slots (slice_get registers.slots from)
      (λ region. with_slot registers slot line (formed_by form shift region))
      (λ region e. limited_keeps tables.slots registers slot line rank
      (formed_by form shift region) (is_within_limit (formed_by form shift region)) have is
      (formed_sized form shift rank region (have from rank region there e)))

-- ---- any row
module _ (tables : Tables) (ranks : All IsRank tables.slots) (n : ℕ) where
  by_control : (whole next : Whole) (bytes : List ℕ) (c : Control) → KeepsSized tables.slots c
      → (let e : Effect Whole = controlled whole c in e) ≡ Does (Goes bytes next) → AreSized tables next
  by_control whole next bytes c (SlotsOn {registers = registers} have) e =
      let same : registers.slots ≡ next.slots = cc in
      record { sized = subst (SizedIn tables.slots) same have }
  by_control whole next bytes c GoesTo e = absurd (none e)
    where
      none : {goal : ℕ} → (let e : Effect Whole = Leaps goal in e) ≡ Does (Goes bytes next) → ⊥
      none e = cc
  by_control whole next bytes c Ended e = absurd (none e)
    where
      none : {stop : _} → (let e : Effect Whole = Does (Stops stop) in e) ≡ Does (Goes bytes next)
          → ⊥
      none e = cc
  by_control whole next bytes c NotSaid e = absurd (none e)
    where
      none : (let e : Effect Whole = Does (Stops Wrong) in e) ≡ Does (Goes bytes next) → ⊥
      none e = cc

  if_settled : (whole next : Whole) (bytes : List ℕ) (b : Bool) (c : Control) → KeepsSized tables.slots c
      → (if b then controlled whole c else Does (Stops Wrong)) ≡ Does (Goes bytes next)
      → AreSized tables next
  if_settled whole next bytes true c keeps e = by_control whole next bytes c keeps e
  if_settled whole next bytes false c keeps e = absurd (none e)
    where
      none : (let e : Effect Whole = Does (Stops Wrong) in e) ≡ Does (Goes bytes next) → ⊥
      none e = cc

  members_not : (slot : ℕ) (one : Member) → IsWrittenByMember (thing.Slot slot) one → ⊥
  members_not slot (member.Put array expr mask line) is = cc
  members_not slot (member.Acc scalar operator expr mask line) is = cc
  members_not slot one is = is

  -- rows other than `fix`, `dims` and `formed` leave the slots alone
  data Leaves : Instr → Type 0 where
    LeavesSlots : {row : Instr}
        → ((slot : ℕ) → IsWritten tables row (thing.Slot slot) → ⊥) → Leaves row

  unwritten : (row : Instr) (whole next : Whole) (bytes : List ℕ)
      → act tables n (inlined tables row) whole ≡ Does (Goes bytes next) → Leaves row
      → AreSized tables whole → AreSized tables next
  unwritten row whole next bytes goes (LeavesSlots leaves) have = record {
    sized = λ slot rank region known e.
        have.sized slot rank region known
        ((change_written tables n row whole next bytes goes (thing.Slot slot) (leaves slot)).1
        ∙ e);
  }

  loop_not : (slot : ℕ) (found : Option (List Member))
      → IsSomeAnd found (Any (IsWrittenByMember (thing.Slot slot))) → ⊥
  loop_not slot (Some all) (k, one, inside, there, holds) = members_not slot one holds
  loop_not slot None is = is

  finish_not : (slot : ℕ) (found : Option (List Item))
      → IsSomeAnd found (Any (λ (item : Item). thing.Slot slot ≡ thing.Array item.array)) → ⊥
  finish_not slot (Some all) (k, one, inside, there, holds) = cc
  finish_not slot None is = is

  pub keeps_sized : (row : Instr) → FitsInstr tables row → HasThreeDims row → (whole next : Whole) (bytes : List ℕ)
      → act tables n (inlined tables row) whole ≡ Does (Goes bytes next)
      → AreSized tables whole → AreSized tables next
  keeps_sized (instr.Fix slot region) fits typed whole next bytes goes have =
      by_control whole next bytes
      (control.Steps (record (registers_of whole) { slots = slice_set whole.slots slot region }))
      (SlotsOn (set_sized tables.slots whole.slots slot fits.rank region have.sized fits.fit.0
      (typed, fits.fit.2))) goes
  keeps_sized (instr.Dims slot parts line) fits typed whole next bytes goes have =
      let row = inlined tables (instr.Dims slot parts line) in
      if_settled whole next bytes (are_settled whole row) (control_of tables row whole)
      (subst (KeepsSized tables.slots) (sym (control_inline tables (instr.Dims slot parts line) whole))
      (dims_keeps tables (registers_of whole) have.sized ranks slot parts line typed)) goes
  keeps_sized (instr.Formed form slot from shift line) fits typed whole next bytes goes have =
      by_control whole next bytes
      (control.control tables (registers_of whole) (instr.Formed form slot from shift line))
      (formed_keeps tables (registers_of whole) have.sized ranks form slot from shift line fits.rank
      fits.fit.0 fits.fit.1) goes
  keeps_sized (instr.Set scalar expr line) fits typed whole next bytes goes have =
      unwritten (instr.Set scalar expr line) whole next bytes goes (LeavesSlots (λ slot is. cc))
      have
  keeps_sized (instr.Room array slot) fits typed whole next bytes goes have =
      unwritten (instr.Room array slot) whole next bytes goes (LeavesSlots (λ at is. cc)) have
  keeps_sized (instr.Clear array) fits typed whole next bytes goes have =
      unwritten (instr.Clear array) whole next bytes goes (LeavesSlots (λ slot is. cc)) have
  keeps_sized (instr.Loop slot group) fits typed whole next bytes goes have =
      unwritten (instr.Loop slot group) whole next bytes goes
      (LeavesSlots (λ at is. loop_not at (slice_get tables.groups group) is)) have
  keeps_sized (instr.Finish exchange) fits typed whole next bytes goes have =
      unwritten (instr.Finish exchange) whole next bytes goes
      (LeavesSlots (λ at is. finish_not at (slice_get tables.exchanges exchange) is)) have
  keeps_sized (instr.Edge kind array slot shift) fits typed whole next bytes goes have =
      unwritten (instr.Edge kind array slot shift) whole next bytes goes
      (LeavesSlots (λ at is. cc)) have
  keeps_sized (instr.Flood array target from source) fits typed whole next bytes goes have =
      unwritten (instr.Flood array target from source) whole next bytes goes
      (LeavesSlots (λ at is. cc)) have
  keeps_sized (instr.Part array target operator from source) fits typed whole next bytes goes have =
      unwritten (instr.Part array target operator from source) whole next bytes goes
      (LeavesSlots (λ at is. cc)) have
  keeps_sized (instr.Scan array slot operator along from mask) fits typed whole next bytes goes have =
      unwritten (instr.Scan array slot operator along from mask) whole next bytes goes
      (LeavesSlots (λ at is. cc)) have
  keeps_sized (instr.Fold scalar operator) fits typed whole next bytes goes have =
      unwritten (instr.Fold scalar operator) whole next bytes goes (LeavesSlots (λ at is. cc)) have
  keeps_sized (instr.TreeFold scalar operator) fits typed whole next bytes goes have =
      unwritten (instr.TreeFold scalar operator) whole next bytes goes (LeavesSlots (λ at is. cc))
      have
  keeps_sized (instr.Remap array slot from parts) fits typed whole next bytes goes have =
      unwritten (instr.Remap array slot from parts) whole next bytes goes
      (LeavesSlots (λ at is. cc)) have
  keeps_sized row fits typed whole next bytes goes have =
      unwritten row whole next bytes goes (LeavesSlots (λ slot is. is)) have
