-- What rows with messages leave of scalars: all of them.
use Rattle.std.proofs.Common.{◌≡◌, ℕ, zero, suc, Bool, true, false, ◌==◌, refl, ◌∙◌}
use Rattle.std.proofs.Common.{ℤ, List, [], ◌∷◌, length, Option, Some, None}
use Rattle.std.specs.Prelude.{if◌then◌else◌, option_and_then, unwrap_or}
use Rattle.std.specs.Option.{option_map}
use Rattle.zpl_nums.specs.declared.folds.Fold.{Fold}
use Rattle.zpl_region.specs.declared.regions.Region.{Region}
use Rattle.zpl_arrays.specs.Array.{Array}
use Rattle.zpl_arrays.specs.Row.{running}
use Rattle.grid_links.specs.Machine.{Goes as Moves}
use Rattle.node_form.specs.declared.arrays.ArrayRow.{ArrayRow}
use Rattle.node_form.specs.declared.arrays.Item.{Item}
use Rattle.node_form.specs.declared.tables.Tables.{Tables}
use Rattle.grid_meaning.specs.Action.{Action}
use Rattle.grid_meaning.specs.Collective.{Collective, keeping}
use Rattle.grid_meaning.specs.Delivery as delivery
use Rattle.grid_meaning.specs.Delivery.{Delivery, each_word, with_words, with_combined, combined_into}
use Rattle.grid_meaning.specs.Exchange as exchange
use Rattle.grid_meaning.specs.Gather as gather
use Rattle.grid_meaning.specs.Local.{Local}
use Rattle.grid_meaning.specs.Owner.{region_in, tuples_of}
use Rattle.grid_meaning.specs.Place.{values_at, with_values}
use Rattle.grid_meaning.specs.Remap as remap
use Rattle.grid_meaning.specs.Remap.{Want}
use Rattle.grid_meaning.specs.Scan as scan
use Rattle.row_orders.specs.Rows.{alone_where, taken_where, taking}
use Rattle.plan_meaning.specs.Messages.{next_or}

-- ---- a processor behind a turn, where there is one
abbrev pub IfLocal : Local → Option Local → Type 0
IfLocal one None = Unit {0}
IfLocal one (Some other) = other.scalars ≡ one.scalars

abbrev pub IfAction : Local → Action → Type 0
IfAction one (Moves next sent shown) = next.scalars ≡ one.scalars
IfAction one action = Unit {0}

local_then : (one other : Local) (o : Option Local) → other.scalars ≡ one.scalars
    → IfLocal other o → IfLocal one o
local_then one other None a b = tt
local_then one other (Some third) a b = b ∙ a

then_local : (one : Local) (next : Local → Option Local) (o : Option Local) → IfLocal one o
    → ((m : Local) → IfLocal m (next m)) → IfLocal one (option_and_then next o)
then_local one next None a more = tt
then_local one next (Some m) a more = local_then one m (next m) a (more m)

-- any value may come first
value_then : {X : Type 0} (one : Local) (next : X → Option Local) (o : Option X)
    → ((x : X) → IfLocal one (next x)) → IfLocal one (option_and_then next o)
value_then one next None more = tt
value_then one next (Some x) more = more x

with_stores : (local : Local) (o : Option (List Array))
    → IfLocal local (option_map (λ stores. record local { stores = stores }) o)
with_stores local None = tt
with_stores local (Some s) = refl

pub or_local : (one : Local) (o : Option Local) (other : Local) → IfLocal one o
    → other.scalars ≡ one.scalars → (unwrap_or o other).scalars ≡ one.scalars
or_local one None other a b = b
or_local one (Some m) other a b = a

pub action_kept : (one : Local) (action : Action) (other : Local) → other.scalars ≡ one.scalars
    → IfAction other action → (next_or other action).scalars ≡ one.scalars
action_kept one (Moves next sent shown) other a b = b ∙ a
action_kept one action other a b = a

-- ---- rows
pub record RowKept (row : Collective) : Type 0 where
  pub alone : (local : Local) → IfLocal local (row.alone local)
  pub taken : (local : Local) (q : ℕ) (words : List ℤ) → IfLocal local (row.taken local q words)
  pub last : (local : Local) → IfAction local (row.last local)

module _ (row : Collective) (kept : RowKept row) where
  pub begun_kept : (b : Bool) (local : Local) → IfLocal local (alone_where b row local)
  begun_kept true local = kept.alone local
  begun_kept false local = refl

  where_taken : (b : Bool) (local : Local) (o : Option Local) → IfLocal local o
      → IfLocal local (taken_where b o)
  where_taken true local o is = is
  where_taken false local o is = tt

  pub taking_kept : (words : ℕ → List ℤ) (local : Local) (from : List ℕ)
      → IfLocal local (taking row words local from)
  taking_kept words local [] = refl
  taking_kept words local (q ∷ from) =
      then_local local (λ next. taking row words next from)
      (taken_where (row.awaits local q (length (words q))) (row.taken local q (words q)))
      (where_taken (row.awaits local q (length (words q))) local (row.taken local q (words q))
      (kept.taken local q (words q)))
      (λ m. taking_kept words m from)

-- ---- the rows
pub start_kept : (code : Tables) (p number : ℕ) (items : List Item)
    → RowKept (exchange.started code p number items)
start_kept code p number items =
    record { alone = λ local. tt; taken = λ local q words. tt; last = λ local. refl }

pub finish_kept : (code : Tables) (p number : ℕ) (items : List Item)
    → RowKept (exchange.finished code p number items)
finish_kept code p number items = record {
  alone = λ local. tt;
  taken = λ local q words.
      with_stores local (exchange.words_written code local q p items words local.stores);
  last = λ local. refl;
}

pub delivery_kept : (code : Tables) (p : ℕ) (d : Delivery) → RowKept (delivery.delivered code p d)
delivery_kept code p d = record {
  alone = λ local.
      value_then local (with_words d local (d.own local)) (each_word (d.word local) (d.own local))
      (λ words. with_stores local (with_values d.array (d.own local) words local.stores));
  taken = λ local q words.
      with_stores local (combined_into d (d.targets local q p) words local.stores);
  last = λ local. refl;
}

pub gather_kept : (code : Tables) (p : ℕ) (truth : Bool) (source slot : ℕ)
    → RowKept (gather.gathered code p truth source slot)
gather_kept code p truth source slot = record {
  alone = λ local. tt;
  taken = λ local q words. refl;
  last = λ local. by p local;
}
  where
    printed : (local : Local) (o : Option (List ℤ))
        → IfAction local (gather.prints_gathered code truth (region_in local slot) local o)
    printed local None = tt
    printed local (Some own) = refl

    by : (p : ℕ) (local : Local)
        → IfAction local (gather.gather_last code p truth source (region_in local slot) local)
    by zero local =
        printed local (values_at local.stores source (tuples_of code 0 (region_in local slot)))
    by (suc p) local = refl

module _ (code : Tables) (p : ℕ) (f : Fold) (along from : ℕ) (mask : Option ℕ)
    (array slot : ℕ) where
  line_kept : (old : Local) (region : Region) (own : List ℤ) (head : List ℤ) (local : Local)
      → IfLocal local (scan.with_line code p f along from mask array old region own head local)
  line_kept old region own head local =
      value_then local
      (λ values. option_map (λ stores. record local { stores = stores })
      (with_values array (scan.line_of code p region (scan.line_dim region along) head)
      (running f (scan.before_line code p f along from mask old region own head) values)
      local.stores))
      (scan.scan_values old from mask (scan.line_of code p region (scan.line_dim region along)
      head))
      (λ values. with_stores local _)

  lines_kept : (old : Local) (region : Region) (own : List ℤ) (heads : List (List ℤ))
      (local : Local)
      → IfLocal local (scan.with_lines code p f along from mask array old region own heads local)
  lines_kept old region own [] local = refl
  lines_kept old region own (head ∷ heads) local =
      then_local local (scan.with_lines code p f along from mask array old region own heads)
      (scan.with_line code p f along from mask array old region own head local)
      (line_kept old region own head local) (λ m. lines_kept old region own heads m)

  pub scan_kept : RowKept (scan.scanned_row code p f along from mask array slot)
  scan_kept = record {
    alone = λ local. tt;
    taken = λ local q words. refl;
    last = λ local.
        done local _ (value_then local
        (λ own. scan.with_lines code p f along from mask array local (region_in local slot) own
        (scan.line_heads code p (region_in local slot) (scan.line_dim (region_in local slot) along))
        local)
        (scan.line_totals code p f along from mask local (region_in local slot))
        (λ own. lines_kept local (region_in local slot) own
        (scan.line_heads code p (region_in local slot) (scan.line_dim (region_in local slot) along))
        local));
  }
    where
      done : (local : Local) (o : Option Local) → IfLocal local o
          → IfAction local (scan.scan_done code p f along from mask o)
      done local None kept = tt
      done local (Some next) kept = kept

module _ (code : Tables) (p array slot from : ℕ) (parts : List ℕ) (row : ArrayRow) where
  written_kept : (which : List Want) (values : List ℤ) (local : Local)
      → IfLocal local (remap.written code p array slot from parts row which values local)
  written_kept which values local = with_stores local _

  request_kept : (local : Local) (q : ℕ) (words : List ℤ) (b : Bool)
      → IfLocal local (remap.request_taken code p array slot from parts row local q words b)
  request_kept local q words false = tt
  request_kept local q words true = by (length words == 0)
    where
      by : (b : Bool) → IfLocal local (Some (if b then local else keeping local q words))
      by true = refl
      by false = refl

  pub remap_kept : RowKept (remap.remapped code p array slot from parts row)
  remap_kept = record {
    alone = λ local.
        value_then local (remap.remap_own code p array slot from parts row local)
        (remap.wants code p array slot from parts row local)
        (λ all. value_then local
        (λ values. remap.written code p array slot from parts row
        (remap.wants_at_once code p array slot from parts row all) values local)
        (remap.first_values code p array slot from parts row local
        (remap.wants_at_once code p array slot from parts row all))
        (λ values. written_kept _ values local));
    taken =
        λ local q words. by local q words (remap.is_asking code p array slot from parts row local);
    last = λ local. refl;
  }
    where
      by : (local : Local) (q : ℕ) (words : List ℤ) (b : Bool)
          → IfLocal local (if b then
          remap.request_taken code p array slot from parts row local q words
          (remap.owns_all code p array slot from parts row words)
          else remap.written code p array slot from parts row
          (remap.some_wants code p array slot from parts row
          (remap.wants code p array slot from parts row local) q) words local)
      by local q words true = request_kept local q words _
      by local q words false = written_kept _ words local
