-- Rows other than `room` leave each array its places, and rows leave the slots alone that they
-- don't write.
use Rattle.std.proofs.Common.{◌≡◌, refl, sym, ◌∙◌, ap, subst, ℕ, Bool, true, false}
use Rattle.std.proofs.Common.{List, [], ◌∷◌, map, ℤ, Option, Some, None}
use Rattle.std.specs.Prelude.{option_and_then, slice_get, slice_index_or, slice_set}
use Rattle.std.specs.List.{AllByRecursion, filter_map}
use Rattle.std.specs.Option.{option_map}
use Rattle.zpl_region.specs.declared.regions.Region.{Region}
use Rattle.zpl_region.specs.Region.{members, outside_of}
use Rattle.zpl_arrays.specs.Array.{Array, element, has_place, updated}
use Rattle.zpl_arrays.specs.Border.{border_source}
use Rattle.zpl_arrays.specs.Flood.{flood_source}
use Rattle.zpl_arrays.specs.Fold.{partly_reduced}
use Rattle.row_runs.specs.Run.{Does, Effect, Goes, Step, Stops, Wrong}
use Rattle.node_form.specs.declared.instructions.Instr.{Instr}
use Rattle.node_form.specs.declared.instructions.Instr.TheVariants as instr
use Rattle.node_form.specs.declared.tables.Tables.{Tables}
use Rattle.node_form.specs.declared.touches.Thing.TheVariants as thing
use Rattle.node_form.specs.Touch.{IsWritten}
use Rattle.grid_meaning.specs.Place.{held_with, where_held, with_value, with_values}
use Rattle.grid_meaning.specs.Room.{zeros_at}
use Rattle.code_parts.specs.Uses.{written_slots}
use Rattle.flat_form.specs.Act.{plain_does}
use Rattle.flat_form.specs.Moves.{found, kept_by, moved_in, provided, scan_value, wanted_at}
use Rattle.flat_form.specs.Moves.{with_stores}
use Rattle.flat_form.specs.Whole.{Whole}
use Rattle.flat_form.specs.Row.{member_inlined}
use Rattle.flat_form.proofs.ChangeLemmas.{change_written}
use Rattle.flat_passes.proofs.FlatRowLemmas.{does}
use Rattle.contracted_runs.proofs.StorageLemmas.{SameStorages, loop_same, set_storage}
use Rattle.contracted_runs.proofs.StorageLemmas.{storage_of_array}
use Rattle.fused_runs.proofs.PassingLemmas.{other_slot}

-- ---- values that are put
abbrev StoresSame : List Array → Option (List Array) → Type 0
StoresSame stores None = Unit {0}
StoresSame stores (Some next) =
    (k : ℕ) → storage_of_array next k ≡ storage_of_array stores k

one_put : (t : List ℤ) (v : ℤ) (array : ℕ) (stores : List Array) (at : Option Array)
    → slice_get stores array ≡ at
    → StoresSame stores (option_map (slice_set stores array) (option_and_then (held_with t v) at))
one_put t v array stores None e = tt
one_put t v array stores (Some store) e = by (has_place store.storage t)
  where
    by : (b : Bool) → StoresSame stores
        (option_map (slice_set stores array) (where_held b (updated store t v)))
    by true = λ k. set_storage stores array k store (updated store t v) e refl
    by false = tt

all_put : (array : ℕ) (ts : List (List ℤ)) (values : List ℤ) (stores : List Array)
    → StoresSame stores (with_values array ts values stores)
all_put array [] values stores = λ k. refl
all_put array (t ∷ ts) [] stores = λ k. refl
all_put array (t ∷ ts) (v ∷ values) stores =
    by (with_value stores array t v)
    (one_put t v array stores (slice_get stores array) refl)
    (λ next. all_put array ts values next)
  where
    both : (mid : List Array) (last : Option (List Array))
        → ((k : ℕ) → storage_of_array mid k ≡ storage_of_array stores k)
        → StoresSame mid last → StoresSame stores last
    both mid None first second = tt
    both mid (Some next) first second = λ k. second k ∙ first k

    by : (mid : Option (List Array)) → StoresSame stores mid
        → ((next : List Array) → StoresSame next (with_values array ts values next))
        → StoresSame stores (option_and_then (with_values array ts values) mid)
    by None first rest = tt
    by (Some mid) first rest = both mid (with_values array ts values mid) first (rest mid)

-- ---- rows that make arrays of others
data KeepsPlaces (s : Whole) : Step Whole → Type 0 where
  GoesKept : {bytes : List ℕ} {next : Whole} → SameStorages s next → KeepsPlaces s (Goes bytes next)
  StopsKept : {stop : _} → KeepsPlaces s (Stops stop)

found_kept : {X : Type 0} (s : Whole) (o : Option X) (f : X → Step Whole)
    → ((x : X) → o ≡ Some x → KeepsPlaces s (f x)) → KeepsPlaces s (found o f)
found_kept s (Some x) f keeps = keeps x refl
found_kept s None f keeps = StopsKept

provided_kept : (s : Whole) (b : Bool) (step : Step Whole) → KeepsPlaces s step
    → KeepsPlaces s (provided b step)
provided_kept s true step keeps = keeps
provided_kept s false step keeps = StopsKept

moved_kept : (s : Whole) (array : ℕ) (region : Region) (value : List ℤ → ℤ)
    → KeepsPlaces s (moved_in s array region value)
moved_kept s array region value =
    by (with_values array (members region) (map value (members region)) s.stores)
    (all_put array (members region) (map value (members region)) s.stores)
  where
    by : (o : Option (List Array)) → StoresSame s.stores o
        → KeepsPlaces s (found o (with_stores s))
    by None same = StopsKept
    by (Some stores) same = GoesKept (record { same = same })

module _ (tables : Tables) (s : Whole) where
  -- such a row, which is told by what it does
  data Moves : Instr → Type 0 where
    MovesIn : {row : Instr} {step : Step Whole} → plain_does tables s row ≡ Does step
        → KeepsPlaces s step → Moves row

  edge_moves : (kind : _) (array slot : ℕ) (shift : List ℤ) → Moves (instr.Edge kind array slot shift)
  edge_moves kind array slot shift =
      MovesIn refl (found_kept s (slice_get s.slots slot) _
      (λ region e. provided_kept s _ _ (found_kept s (slice_get s.stores array) _
      (λ store f. moved_kept s array (outside_of shift region)
      (λ t. element store (border_source kind region shift t))))))

  flood_moves : (array target from source : ℕ) → Moves (instr.Flood array target from source)
  flood_moves array target from source =
      MovesIn refl (found_kept s (slice_get s.slots target) _
      (λ region e. found_kept s (slice_get s.slots source) _
      (λ other f. provided_kept s _ _ (found_kept s (slice_get s.stores from) _
      (λ store g. moved_kept s array region (λ t. element store (flood_source other t)))))))

  part_moves : (array target : ℕ) (operator : _) (from source : ℕ)
      → Moves (instr.Part array target operator from source)
  part_moves array target operator from source =
      MovesIn refl (found_kept s (slice_get s.slots target) _
      (λ region e. found_kept s (slice_get s.slots source) _
      (λ other f. provided_kept s _ _ (found_kept s (slice_get s.stores from) _
      (λ store g. moved_kept s array region
      (partly_reduced operator region other (element store)))))))

  scan_moves : (array slot : ℕ) (operator : _) (along from : ℕ) (mask : Option ℕ)
      → Moves (instr.Scan array slot operator along from mask)
  scan_moves array slot operator along from mask =
      MovesIn refl (found_kept s (slice_get s.slots slot) _
      (λ region e. provided_kept s _ _ (found_kept s (slice_get s.stores from) _
      (λ store f. moved_kept s array region
      (scan_value along operator region
      (kept_by (option_and_then (λ mask. slice_get s.stores mask) mask)) (element store))))))

  remap_moves : (array slot from : ℕ) (parts : List (Option ℕ))
      → Moves (instr.Remap array slot from parts)
  remap_moves array slot from parts =
      MovesIn refl (found_kept s (slice_get s.slots slot) _
      (λ region e. provided_kept s _ _ (found_kept s (slice_get s.stores from) _
      (λ store f. moved_kept s array region
      (λ t. element store (wanted_at (filter_map (λ part. slice_get s.stores part)
      (filter_map (λ part. part) parts)) t))))))

  clear_moves : (array : ℕ) → Moves (instr.Clear array)
  clear_moves array =
      MovesIn refl (found_kept s (slice_get s.stores array) _
      (λ store e. GoesKept (record {
        same = λ k. set_storage s.stores array k store (zeros_at store.storage) e refl;
      })))

  moves_keep : (row : Instr) → Moves row → (next : Whole) (bytes : List ℕ)
      → plain_does tables s row ≡ Does (Goes bytes next) → SameStorages s next
  moves_keep row (MovesIn {step = step} e keeps) next bytes goes = by step keeps (sym e ∙ goes)
    where
      by : (step : Step Whole) → KeepsPlaces s step → Does step ≡ Does (Goes bytes next)
          → SameStorages s next
      by step (GoesKept {next = last} same) f =
          let is : last ≡ next = cc in subst (SameStorages s) is same
      by step StopsKept f = cc

-- ---- all rows
abbrev pub IsNoRoom : Instr → Type 0
IsNoRoom (instr.Room array slot) = ⊥
IsNoRoom row = Unit {0}

module _ (tables : Tables) (n : ℕ) (s next : Whole) (bytes : List ℕ) where
  unwritten : (row : Instr) → does tables n row s ≡ Does (Goes bytes next)
      → ((k : ℕ) → IsWritten tables row (thing.Array k) → ⊥) → SameStorages s next
  unwritten row goes not = record {
    same = λ k. ap (option_map (λ (store : Array). store.storage))
        (sym (change_written tables n row s next bytes goes (thing.Array k) (not k)).1);
  }

  finish_wrong : (exchange : ℕ)
      → does tables n (instr.Finish exchange) s ≡ Does (Goes bytes next) → ⊥
  finish_wrong exchange e = wrong e
    where
      wrong : (let e : Effect Whole = Does (Stops Wrong) in e) ≡ Does (Goes bytes next) → ⊥
      wrong e = cc

  pub places_kept : (row : Instr) → IsNoRoom row → does tables n row s ≡ Does (Goes bytes next)
      → SameStorages s next
  places_kept (instr.Room array slot) is goes = absurd is
  places_kept (instr.Clear array) is goes =
      moves_keep tables s (instr.Clear array) (clear_moves tables s array) next bytes goes
  places_kept (instr.Edge kind array slot shift) is goes =
      moves_keep tables s (instr.Edge kind array slot shift)
      (edge_moves tables s kind array slot shift) next bytes goes
  places_kept (instr.Flood array target from source) is goes =
      moves_keep tables s (instr.Flood array target from source)
      (flood_moves tables s array target from source) next bytes goes
  places_kept (instr.Part array target operator from source) is goes =
      moves_keep tables s (instr.Part array target operator from source)
      (part_moves tables s array target operator from source) next bytes goes
  places_kept (instr.Scan array slot operator along from mask) is goes =
      moves_keep tables s (instr.Scan array slot operator along from mask)
      (scan_moves tables s array slot operator along from mask) next bytes goes
  places_kept (instr.Remap array slot from parts) is goes =
      moves_keep tables s (instr.Remap array slot from parts)
      (remap_moves tables s array slot from parts) next bytes goes
  places_kept (instr.Loop slot group) is goes =
      loop_same tables n slot
      (map (member_inlined tables) (slice_index_or tables.groups group [])) s next bytes goes
  places_kept (instr.Finish exchange) is goes = absurd (finish_wrong exchange goes)
  places_kept (instr.Set scalar expr line) is goes =
      unwritten (instr.Set scalar expr line) goes (λ k w. cc)
  places_kept (instr.Fix slot region) is goes =
      unwritten (instr.Fix slot region) goes (λ k w. cc)
  places_kept (instr.Dims slot parts line) is goes =
      unwritten (instr.Dims slot parts line) goes (λ k w. cc)
  places_kept (instr.Formed form slot from shift line) is goes =
      unwritten (instr.Formed form slot from shift line) goes (λ k w. cc)
  places_kept (instr.Fold scalar operator) is goes =
      unwritten (instr.Fold scalar operator) goes (λ k w. cc)
  places_kept (instr.TreeFold scalar operator) is goes =
      unwritten (instr.TreeFold scalar operator) goes (λ k w. cc)
  places_kept row is goes = unwritten row goes (λ k w. w)

  pub slot_kept : (row : Instr) (slot : ℕ) → does tables n row s ≡ Does (Goes bytes next)
      → AllByRecursion (λ k. k ≡ slot → ⊥) (written_slots row)
      → slice_get s.slots slot ≡ slice_get next.slots slot
  slot_kept row slot goes apart =
      (change_written tables n row s next bytes goes (thing.Slot slot)
      (other_slot tables slot row apart)).1
