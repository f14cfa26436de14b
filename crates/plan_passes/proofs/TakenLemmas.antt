-- What rows with messages leave on a processor: its slots, the arrays that they don't write, and the
-- storage of each.
use Rattle.std.proofs.Common.{◌≡◌, ◌≢◌, refl, ◌∙◌, ℕ, zero, suc, Bool, true, false, ℤ}
use Rattle.std.proofs.Common.{List, [], ◌∷◌, length, Option, Some, None}
use Rattle.std.specs.Prelude.{◌==◌, if◌then◌else◌, option_and_then, slice_get, unwrap_or}
use Rattle.std.specs.Option.{option_map}
use Rattle.zpl_nums.specs.declared.folds.Fold.{Fold}
use Rattle.zpl_region.specs.declared.regions.Region.{Region}
use Rattle.zpl_arrays.specs.Array.{Array}
use Rattle.zpl_arrays.specs.Row.{running}
use Rattle.node_form.specs.declared.arrays.ArrayRow.{ArrayRow}
use Rattle.node_form.specs.declared.tables.Tables.{Tables}
use Rattle.grid_links.specs.Machine.{Goes as Moves}
use Rattle.grid_meaning.specs.Action.{Action}
use Rattle.grid_meaning.specs.Collective.{Collective, keeping}
use Rattle.grid_meaning.specs.Delivery as delivery
use Rattle.grid_meaning.specs.Delivery.{Delivery, combined_into, each_word, with_words}
use Rattle.grid_meaning.specs.Gather as gather
use Rattle.grid_meaning.specs.Local.{Local}
use Rattle.grid_meaning.specs.Owner.{region_in, tuples_of}
use Rattle.grid_meaning.specs.Place.{value_at, values_at, with_value, with_values}
use Rattle.grid_meaning.specs.Remap as remap
use Rattle.grid_meaning.specs.Remap.{Want}
use Rattle.grid_meaning.specs.Scan as scan
use Rattle.row_orders.specs.Rows.{alone_where, taken_where, taking}
use Rattle.needs_runs.specs.of_plan_meaning.Messages.{next_or}
use Rattle.plan_passes.proofs.WriteLemmas.{puts, shape}

-- ---- arrays
pub record StoresKept (array : ℕ) (s r : List Array) : Type 0 where
  pub stays : (a : ℕ) → a ≢ array → slice_get r a ≡ slice_get s a
  pub shapes : (a : ℕ) → shape r a ≡ shape s a

abbrev pub IfStores : ℕ → List Array → Option (List Array) → Type 0
IfStores array s None = Unit {0}
IfStores array s (Some r) = StoresKept array s r

pub stores_same : (array : ℕ) (s : List Array) → StoresKept array s s
stores_same array s = record { stays = λ a apart. refl; shapes = λ a. refl }

stores_then : (array : ℕ) (s m : List Array) (o : Option (List Array)) → StoresKept array s m
    → IfStores array m o → IfStores array s o
stores_then array s m None one two = tt
stores_then array s m (Some r) one two = record {
  stays = λ a apart. two.stays a apart ∙ one.stays a apart;
  shapes = λ a. two.shapes a ∙ one.shapes a;
}

then_stores : (array : ℕ) (s : List Array) (next : List Array → Option (List Array))
    (o : Option (List Array)) → IfStores array s o
    → ((m : List Array) → IfStores array m (next m)) → IfStores array s (option_and_then next o)
then_stores array s next None one more = tt
then_stores array s next (Some m) one more = stores_then array s m (next m) one (more m)

one_kept : (array : ℕ) (t : List ℤ) (v : ℤ) (s : List Array)
    → IfStores array s (with_value s array t v)
one_kept array t v s = by (with_value s array t v) refl
  where
    by : (o : Option (List Array)) → with_value s array t v ≡ o → IfStores array s o
    by None e = tt
    by (Some r) e =
        let is = puts (record { array = array; place = t; value = v }) s r e in
        record { stays = is.others; shapes = is.shapes }

pub values_kept : (array : ℕ) (ts : List (List ℤ)) (vs : List ℤ) (s : List Array)
    → IfStores array s (with_values array ts vs s)
values_kept array [] vs s = stores_same array s
values_kept array (t ∷ ts) [] s = stores_same array s
values_kept array (t ∷ ts) (v ∷ vs) s =
    then_stores array s (with_values array ts vs) (with_value s array t v) (one_kept array t v s)
    (λ m. values_kept array ts vs m)

combined_kept : (d : Delivery) (ts : List (List ℤ)) (words : List ℤ) (s : List Array)
    → IfStores d.array s (combined_into d ts words s)
combined_kept d [] words s = stores_same d.array s
combined_kept d (t ∷ ts) [] s = stores_same d.array s
combined_kept d (t ∷ ts) (word ∷ words) s =
    by (value_at s d.array t) (λ m. combined_kept d ts words m)
  where
    by : (o : Option ℤ) → ((m : List Array) → IfStores d.array m (combined_into d ts words m))
        → IfStores d.array s (option_and_then (λ old.
        option_and_then (combined_into d ts words) (with_value s d.array t (d.combined old word))) o)
    by None more = tt
    by (Some old) more =
        then_stores d.array s (combined_into d ts words) (with_value s d.array t (d.combined old word))
        (one_kept d.array t (d.combined old word) s) more

-- ---- processors
pub record LocalKept (array : ℕ) (one other : Local) : Type 0 where
  pub slots : other.slots ≡ one.slots
  pub stores : StoresKept array one.stores other.stores

abbrev pub IfLocal : ℕ → Local → Option Local → Type 0
IfLocal array one None = Unit {0}
IfLocal array one (Some other) = LocalKept array one other

abbrev pub IfAction : ℕ → Local → Action → Type 0
IfAction array one (Moves next sent shown) = LocalKept array one next
IfAction array one action = Unit {0}

pub local_same : (array : ℕ) (local : Local) → LocalKept array local local
local_same array local = record { slots = refl; stores = stores_same array local.stores }

pub local_trans : (array : ℕ) (one other third : Local) → LocalKept array one other
    → LocalKept array other third → LocalKept array one third
local_trans array one other third a b = record {
  slots = b.slots ∙ a.slots;
  stores = record {
    stays = λ k apart. b.stores.stays k apart ∙ a.stores.stays k apart;
    shapes = λ k. b.stores.shapes k ∙ a.stores.shapes k;
  };
}

local_then : (array : ℕ) (one other : Local) (o : Option Local) → LocalKept array one other
    → IfLocal array other o → IfLocal array one o
local_then array one other None a b = tt
local_then array one other (Some third) a b = local_trans array one other third a b

then_local : (array : ℕ) (one : Local) (next : Local → Option Local) (o : Option Local)
    → IfLocal array one o → ((m : Local) → IfLocal array m (next m))
    → IfLocal array one (option_and_then next o)
then_local array one next None a more = tt
then_local array one next (Some m) a more = local_then array one m (next m) a (more m)

-- any value may come first
value_then : {X : Type 0} (array : ℕ) (one : Local) (next : X → Option Local) (o : Option X)
    → ((x : X) → IfLocal array one (next x)) → IfLocal array one (option_and_then next o)
value_then array one next None more = tt
value_then array one next (Some x) more = more x

with_stores : (array : ℕ) (local : Local) (o : Option (List Array)) → IfStores array local.stores o
    → IfLocal array local (option_map (λ stores. record local { stores = stores }) o)
with_stores array local None kept = tt
with_stores array local (Some s) kept = record { slots = refl; stores = kept }

pub or_local : (array : ℕ) (one : Local) (o : Option Local) (other : Local) → IfLocal array one o
    → LocalKept array one other → LocalKept array one (unwrap_or o other)
or_local array one None other a b = b
or_local array one (Some m) other a b = a

pub action_kept : (array : ℕ) (one : Local) (action : Action) (other : Local)
    → LocalKept array one other → IfAction array other action
    → LocalKept array one (next_or other action)
action_kept array one (Moves next sent shown) other a b = local_trans array one other next a b
action_kept array one action other a b = a

-- ---- rows
pub record RowKept (array : ℕ) (row : Collective) : Type 0 where
  pub alone : (local : Local) → IfLocal array local (row.alone local)
  pub taken : (local : Local) (q : ℕ) (words : List ℤ) → IfLocal array local (row.taken local q words)
  pub last : (local : Local) → IfAction array local (row.last local)

module _ (array : ℕ) (row : Collective) (kept : RowKept array row) where
  pub begun_kept : (b : Bool) (local : Local) → IfLocal array local (alone_where b row local)
  begun_kept true local = kept.alone local
  begun_kept false local = local_same array local

  where_taken : (b : Bool) (local : Local) (o : Option Local) → IfLocal array local o
      → IfLocal array local (taken_where b o)
  where_taken true local o is = is
  where_taken false local o is = tt

  pub taking_kept : (words : ℕ → List ℤ) (local : Local) (from : List ℕ)
      → IfLocal array local (taking row words local from)
  taking_kept words local [] = local_same array local
  taking_kept words local (q ∷ from) =
      then_local array local (λ next. taking row words next from)
      (taken_where (row.awaits local q (length (words q))) (row.taken local q (words q)))
      (where_taken (row.awaits local q (length (words q))) local (row.taken local q (words q))
      (kept.taken local q (words q)))
      (λ m. taking_kept words m from)

-- ---- deliveries
pub delivery_kept : (code : Tables) (p : ℕ) (d : Delivery) → RowKept d.array (delivery.delivered code p d)
delivery_kept code p d = record {
  alone = λ local.
      value_then d.array local (with_words d local (d.own local)) (each_word (d.word local) (d.own local))
      (λ words. with_stores d.array local _ (values_kept d.array (d.own local) words local.stores));
  taken = λ local q words.
      with_stores d.array local _ (combined_kept d (d.targets local q p) words local.stores);
  last = λ local. record { slots = refl; stores = stores_same d.array local.stores };
}

-- ---- a gather writes nothing
pub gather_kept : (code : Tables) (p : ℕ) (truth : Bool) (source slot array : ℕ)
    → RowKept array (gather.gathered code p truth source slot)
gather_kept code p truth source slot array = record {
  alone = λ local. tt;
  taken = λ local q words. record { slots = refl; stores = stores_same array local.stores };
  last = λ local. by p local;
}
  where
    printed : (local : Local) (o : Option (List ℤ))
        → IfAction array local (gather.prints_gathered code truth (region_in local slot) local o)
    printed local None = tt
    printed local (Some own) = record { slots = refl; stores = stores_same array local.stores }

    by : (p : ℕ) (local : Local)
        → IfAction array local (gather.gather_last code p truth source (region_in local slot) local)
    by zero local =
        printed local (values_at local.stores source (tuples_of code 0 (region_in local slot)))
    by (suc p) local = record { slots = refl; stores = stores_same array local.stores }

-- ---- scans
module _ (code : Tables) (p : ℕ) (f : Fold) (along from : ℕ) (mask : Option ℕ) (array slot : ℕ) where
  line_kept : (old : Local) (region : Region) (own : List ℤ) (head : List ℤ) (local : Local)
      → IfLocal array local (scan.with_line code p f along from mask array old region own head local)
  line_kept old region own head local =
      value_then array local
      (λ values. option_map (λ stores. record local { stores = stores })
      (with_values array (scan.line_of code p region (scan.line_dim region along) head)
      (running f (scan.before_line code p f along from mask old region own head) values)
      local.stores))
      (scan.scan_values old from mask (scan.line_of code p region (scan.line_dim region along) head))
      (λ values. with_stores array local _ (values_kept array _ _ local.stores))

  lines_kept : (old : Local) (region : Region) (own : List ℤ) (heads : List (List ℤ)) (local : Local)
      → IfLocal array local (scan.with_lines code p f along from mask array old region own heads local)
  lines_kept old region own [] local = local_same array local
  lines_kept old region own (head ∷ heads) local =
      then_local array local (scan.with_lines code p f along from mask array old region own heads)
      (scan.with_line code p f along from mask array old region own head local)
      (line_kept old region own head local) (λ m. lines_kept old region own heads m)

  pub scan_kept : RowKept array (scan.scanned_row code p f along from mask array slot)
  scan_kept = record {
    alone = λ local. tt;
    taken = λ local q words. record { slots = refl; stores = stores_same array local.stores };
    last = λ local.
        done local _ (value_then array local
        (λ own. scan.with_lines code p f along from mask array local (region_in local slot) own
        (scan.line_heads code p (region_in local slot) (scan.line_dim (region_in local slot) along)) local)
        (scan.line_totals code p f along from mask local (region_in local slot))
        (λ own. lines_kept local (region_in local slot) own
        (scan.line_heads code p (region_in local slot) (scan.line_dim (region_in local slot) along)) local));
  }
    where
      done : (local : Local) (o : Option Local) → IfLocal array local o
          → IfAction array local (scan.scan_done code p f along from mask o)
      done local None kept = tt
      done local (Some next) kept = record { slots = kept.slots; stores = kept.stores }

-- ---- remap reads
module _ (code : Tables) (p array slot from : ℕ) (parts : List ℕ) (row : ArrayRow) where
  written_kept : (which : List Want) (values : List ℤ) (local : Local)
      → IfLocal array local (remap.written code p array slot from parts row which values local)
  written_kept which values local = with_stores array local _ (values_kept array _ values local.stores)

  request_kept : (local : Local) (q : ℕ) (words : List ℤ) (b : Bool)
      → IfLocal array local (remap.request_taken code p array slot from parts row local q words b)
  request_kept local q words false = tt
  request_kept local q words true = by (length words == 0)
    where
      by : (b : Bool) → IfLocal array local (Some (if b then local else keeping local q words))
      by true = local_same array local
      by false = record { slots = refl; stores = stores_same array local.stores }

  pub remap_kept : RowKept array (remap.remapped code p array slot from parts row)
  remap_kept = record {
    alone = λ local.
        value_then array local (remap.remap_own code p array slot from parts row local)
        (remap.wants code p array slot from parts row local)
        (λ all. value_then array local
        (λ values. remap.written code p array slot from parts row
        (remap.wants_at_once code p array slot from parts row all) values local)
        (remap.first_values code p array slot from parts row local
        (remap.wants_at_once code p array slot from parts row all))
        (λ values. written_kept _ values local));
    taken = λ local q words. by local q words (remap.is_asking code p array slot from parts row local);
    last = λ local. record { slots = refl; stores = stores_same array local.stores };
  }
    where
      by : (local : Local) (q : ℕ) (words : List ℤ) (b : Bool)
          → IfLocal array local (if b then
          remap.request_taken code p array slot from parts row local q words
          (remap.owns_all code p array slot from parts row words)
          else remap.written code p array slot from parts row
          (remap.some_wants code p array slot from parts row
          (remap.wants code p array slot from parts row local) q) words local)
      by local q words true = request_kept local q words _
      by local q words false = written_kept _ words local
