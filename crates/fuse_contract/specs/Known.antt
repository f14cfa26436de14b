-- References that are known, by times: of each when it was learned last, and of slots and arrays
-- when what was known of them was forgotten last. The clock goes on where something is forgotten.
--
--   key_eq       two references are the same
--   is_noted     a reference was learned, and what is known of its slot and array not forgotten since
--   IsKnown      these are the references that are known
--   known_after  the references that are known behind a row that is no loop
use Rattle.std.specs.Prelude.{◌≡◌, ℕ, ◌≤◌, ◌==◌, Bool, false, ◌&&◌, nat_eq, nat_le, Option, Some, None}
use Rattle.std.specs.Prelude.{List, [], unwrap_or}
use Rattle.std.specs.List.{list_any}
use Rattle.std.specs.Cmp.Lexicographic.{pointwise}
use Rattle.std.specs.Ordering.{int_eq}
use Rattle.indexmap.specs.IndexMap.{get}
use Rattle.temp_norm.specs.of_node_form.declared.arrays.Item.{Item}
use Rattle.temp_norm.specs.of_node_form.declared.instructions.Instr.{Instr}
use Rattle.temp_norm.specs.of_node_form.declared.instructions.Instr.TheVariants as instr
use Rattle.temp_norm.specs.of_code_parts.Uses.{is_item}
use Rattle.fuse_contract.specs.Fusing.{known_behind}
use Rattle.fuse_contract.specs.declared.known.Reference.{Reference}
use Rattle.fuse_contract.specs.declared.known.Known.{Known}

abbrev pub item_of : Reference → Item
item_of one = record { array = one.array; slot = one.slot; shift = one.shift }

abbrev pub key_of : Item → Reference
key_of item = record { array = item.array; slot = item.slot; shift = item.shift }

abbrev pub key_eq : Reference → Reference → Bool
key_eq one other =
    (one.array == other.array) && ((one.slot == other.slot) && pointwise int_eq one.shift other.shift)

-- by when it was learned, if it was, and when its slot and its array were forgotten
abbrev pub is_since : Option ℕ → ℕ → ℕ → Bool
is_since None slot array = false
is_since (Some time) slot array = nat_le slot time && nat_le array time

abbrev pub or_never : Option ℕ → ℕ
or_never time = unwrap_or time 0

abbrev pub is_noted : Known → Reference → Bool
is_noted known one =
    is_since (get key_eq known.references one) (or_never (get nat_eq known.slots one.slot))
    (or_never (get nat_eq known.arrays one.array))

abbrev pub IsPast : ℕ → Option ℕ → Type 0
IsPast now time = or_never time ≤ now

pub record IsKnown (known : Known) (items : List Item) : Type 0 where
  pub references : (one : Reference) → IsPast known.time (get key_eq known.references one)
  pub slots : (slot : ℕ) → IsPast known.time (get nat_eq known.slots slot)
  pub arrays : (array : ℕ) → IsPast known.time (get nat_eq known.arrays array)
  pub same : (one : Reference) → is_noted known one ≡ list_any (is_item (item_of one)) items

-- behind a row that ends a stretch there are none
abbrev pub known_after : List Item → Instr → List Item
known_after items (instr.Jump goal) = []
known_after items (instr.Unless expr goal line) = []
known_after items (instr.Trap kind line) = []
known_after items instr.End = []
known_after items row = known_behind items row
