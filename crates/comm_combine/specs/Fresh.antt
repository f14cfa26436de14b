-- The items that are fresh, by the rows that exchanged them, and wrote their arrays and slots, last.
use Rattle.std.specs.Prelude.{◌≡◌, ℕ, ◌==◌, nat_lt, Bool, not, ◌&&◌, if◌then◌else◌}
use Rattle.std.specs.Prelude.{true, false, List, [], ◌∷◌, filter, unwrap_or}
use Rattle.std.specs.HashMap.{get_by}
use Rattle.std.specs.Cmp.Lexicographic.{pointwise}
use Rattle.std.specs.Ordering.{int_eq}
use Rattle.last_writes.specs.of_node_form.declared.arrays.Item.{Item}
use Rattle.last_writes.specs.of_node_form.declared.instructions.Instr.{Instr}
use Rattle.last_writes.specs.of_node_form.declared.instructions.Instr.TheVariants as instr
use Rattle.last_writes.specs.of_node_form.declared.tables.Tables.{Tables}
use Rattle.last_writes.specs.of_code_parts.Exchanged.{is_among}
use Rattle.last_writes.specs.of_code_parts.Uses.{items_of, written_arrays, written_slots}
use Rattle.last_writes.specs.Last.{AreNoted, last_change, noted}
use Rattle.last_writes.specs.of_plan_form.Units.{PlanUnit, Single}
use Rattle.comm_combine.specs.Repeats.{exchange_if_any}
use Rattle.comm_combine.specs.declared.fresh.Fresh.{Fresh}
use Rattle.comm_combine.specs.declared.fresh.ItemKey.{ItemKey}

abbrev pub is_key : Item → ItemKey → Bool
is_key item key =
    (item.array == key.array)
    && ((item.slot == key.slot) && pointwise int_eq item.shift key.shift)

-- the row that exchanged an item last, 0 where none has
abbrev pub last_exchange : Fresh → Item → ℕ
last_exchange fresh item = unwrap_or (get_by (is_key item) fresh.exchanged) 0

abbrev pub is_fresh : Fresh → Item → Bool
is_fresh fresh item = nat_lt (last_change fresh.written item) (last_exchange fresh item)

-- those that don't pass
abbrev pub stale_by : (Item → Bool) → List Item → List Item
stale_by is_fresh items = filter (λ item. not (is_fresh item)) items

-- ---- what rows change
pub record IsNew (fresh : Fresh) : Type 0 where
  pub exchanged : (item : Item) → last_exchange fresh item ≡ 0
  pub arrays : (array : ℕ) → noted fresh.written.arrays array ≡ 0
  pub slots : (slot : ℕ) → noted fresh.written.slots slot ≡ 0

-- a row exchanges these items
pub record AreExchanged (old : Fresh) (items : List Item) (number : ℕ) (new : Fresh) : Type 0 where
  pub exchanged : (item : Item) → last_exchange new item ≡
      (if is_among items item then number else last_exchange old item)
  pub written : new.written ≡ old.written

-- a row writes what is listed for it
pub record IsWrittenBy (tables : Tables) (row : Instr) (old : Fresh) (number : ℕ) (new : Fresh)
    : Type 0 where
  pub exchanged : new.exchanged ≡ old.exchanged
  pub arrays : AreNoted old.written.arrays (written_arrays tables row) number new.written.arrays
  pub slots : AreNoted old.written.slots (written_slots row) number new.written.slots

-- behind a row: a start exchanges those of its items that aren't fresh, and nothing is fresh behind
-- a row that ends a stretch
abbrev pub IsBehind : Tables → Fresh → Instr → ℕ → Fresh → Type 0
IsBehind tables old (instr.Start exchange) number new =
    AreExchanged old (stale_by (is_fresh old) (items_of tables exchange)) number new
IsBehind tables old (instr.Finish exchange) number new = new ≡ old
IsBehind tables old (instr.Jump goal) number new = IsNew new
IsBehind tables old (instr.Unless expr goal line) number new = IsNew new
IsBehind tables old (instr.Trap kind line) number new = IsNew new
IsBehind tables old instr.End number new = IsNew new
IsBehind tables old row number new = IsWrittenBy tables row old number new

-- in front of a row: whether it is a goal
abbrev pub IsAt : Bool → Fresh → Fresh → Type 0
IsAt true old new = IsNew new
IsAt false old new = new ≡ old

-- what a row becomes, by a test of what is fresh
abbrev pub units_by : (Item → Bool) → Tables → Instr → List PlanUnit
units_by is_fresh tables (instr.Start exchange) =
    exchange_if_any (stale_by is_fresh (items_of tables exchange))
units_by is_fresh tables (instr.Finish exchange) = []
units_by is_fresh tables row = Single row ∷ []
