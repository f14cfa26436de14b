-- Loops that stand one directly behind the other over one slot are one loop, where their groups
-- can be joined.
use Rattle.std.specs.Prelude.{ℕ, ◌==◌, Bool, true, false, not, ◌&&◌, ◌||◌, ℤ, Option, Some, None}
use Rattle.std.specs.Prelude.{List, [], ◌∷◌, ◌++◌, filter, flat_map, map, slice_get}
use Rattle.std.specs.Prelude.{if◌then◌else◌}
use Rattle.std.specs.List.{list_all, list_any}
use Rattle.temp_norm.specs.of_node_form.declared.words.ExprOp.{ExprOp}
use Rattle.temp_norm.specs.of_node_form.declared.words.ExprOp.TheVariants as word
use Rattle.temp_norm.specs.of_node_form.declared.arrays.ArrayRow.{ArrayRow}
use Rattle.temp_norm.specs.of_node_form.declared.arrays.Item.{Item}
use Rattle.temp_norm.specs.of_node_form.declared.members.Member.{Member}
use Rattle.temp_norm.specs.of_node_form.declared.members.Member.TheVariants as member
use Rattle.temp_norm.specs.of_node_form.declared.instructions.Instr.{Instr}
use Rattle.temp_norm.specs.of_node_form.declared.instructions.Instr.TheVariants as instr
use Rattle.temp_norm.specs.of_node_form.declared.tables.Tables.{Tables}
use Rattle.temp_norm.specs.of_node_form.Value.{unmoved}
use Rattle.temp_norm.specs.of_code_parts.Uses.{accumulated_by, is_item, member_words, put_by, scalars_in}
use Rattle.temp_norm.specs.of_code_parts.Uses.{share, written_slots}
use Rattle.temp_norm.specs.of_code_parts.Needs.{is_decided}
use Rattle.temp_norm.specs.of_code_parts.Fused.{are_joinable}
use Rattle.temp_norm.specs.of_flat_passes.Grouped.{Grouped, Runs, Plain, rewritten_rows, with_grouped}
use Rattle.temp_norm.specs.Normalised.{is_like}

-- ---- references: an array, by a slot's region moved by a shift
abbrev pub reference : ℕ → ℕ → List ℤ → Item
reference slot array shift = record { array = array; slot = slot; shift = shift }

abbrev pub references_in : ℕ → ExprOp → List Item
references_in slot (word.Here array) = reference slot array unmoved ∷ []
references_in slot (word.Shifted array shift) = reference slot array shift ∷ []
references_in slot other = []

-- those of a loop: what its members put, and what they read
abbrev pub references_of : Tables → ℕ → List Member → List Item
references_of tables slot group =
    map (λ array. reference slot array unmoved) (flat_map put_by group)
    ++ flat_map (references_in slot) (flat_map (member_words tables) group)

-- ---- What is known in front of a row: references that lie within their arrays. They do behind
-- their `need`, their `room`, or a loop that has them, as long as nothing writes the slot, and no
-- `room` comes for the array.
abbrev pub without_slots : List ℕ → List Item → List Item
without_slots slots known =
    filter (λ item. not (list_any (λ slot. slot == item.slot) slots)) known

abbrev pub without_array : ℕ → List Item → List Item
without_array array known = filter (λ item. not (item.array == array)) known

abbrev pub known_behind : List Item → Instr → List Item
known_behind known (instr.Need slot array shift line) = reference slot array shift ∷ known
known_behind known (instr.Room array slot) =
    reference slot array unmoved ∷ without_array array known
known_behind known row = without_slots (written_slots row) known

abbrev pub is_stored : Option ArrayRow → Bool
is_stored (Some row) = row.stored
is_stored None = false

-- the `need` of a stored array passes always, so that none has to stand
abbrev pub always_lies : Tables → Item → Bool
always_lies tables item =
    is_stored (slice_get tables.arrays item.array)
    && is_decided tables (instr.Need item.slot item.array item.shift 0)

abbrev pub lies_within : Tables → List Item → Item → Bool
lies_within tables known item = list_any (is_item item) known || always_lies tables item

-- ---- two arrays have one rank and the same flood dimensions
abbrev pub are_rows_like : Option ArrayRow → Option ArrayRow → Bool
are_rows_like (Some row) (Some other) = is_like row other
are_rows_like row other = false

abbrev pub are_like : Tables → ℕ → ℕ → Bool
are_like tables array other =
    are_rows_like (slice_get tables.arrays array) (slice_get tables.arrays other)

-- the first one of some arrays is like each of the others; where there is none, there are no others
abbrev pub are_put_alike : Tables → List ℕ → List ℕ → Bool
are_put_alike tables [] [] = true
are_put_alike tables [] (other ∷ others) = false
are_put_alike tables (array ∷ arrays) others = list_all (are_like tables array) others

-- ---- what is accumulated
abbrev pub is_accumulating : Member → Bool
is_accumulating (member.Acc scalar fold expr mask line) = true
is_accumulating one = false

-- the scalars that some group accumulates
abbrev pub all_accumulated : Tables → List ℕ
all_accumulated tables = flat_map (flat_map accumulated_by) tables.groups

-- ---- joining
-- the group of a loop, and its slot
pub record Loop : Type 0 where
  pub slot : ℕ
  pub group : List Member

abbrev pub last_rows : Option Loop → List Grouped
last_rows None = []
last_rows (Some loop) = Runs loop.slot loop.group ∷ []

module _ (tables : Tables) where
  -- Neither has `while` or `repeat`, and neither writes what matters to the other.
  abbrev pub can_join : List Member → List Member → Bool
  can_join group other =
      are_joinable (record tables { groups = group ∷ other ∷ [] }) 0 1

  -- Where the first loop comes to a trap, the second one is never looked at; joined to it, it has
  -- to stand in front of that trap. So it has to be one that may stand wherever the first one does:
  -- neither accumulates, no group accumulates a scalar that the second one reads, so that no fold
  -- of it is still to come, and what the second one puts has the flood dimensions of what the first
  -- one puts.
  abbrev pub stands_with : List Member → List Member → Bool
  stands_with group other =
      not (list_any is_accumulating group) && not (list_any is_accumulating other)
      && not (share (flat_map scalars_in (flat_map (member_words tables) other))
      (all_accumulated tables))
      && are_put_alike tables (flat_map put_by group) (flat_map put_by other)

  -- The second loop joins the first where it would run over the same slot, where the groups can be
  -- joined, and where it may stand wherever the first one does, which wants that each of its
  -- references is known to lie within its array before the first.
  abbrev pub joins : List Item → Loop → Loop → Bool
  joins known loop other =
      (loop.slot == other.slot) && can_join loop.group other.group
      && stands_with loop.group other.group
      && list_all (lies_within tables known) (references_of tables other.slot other.group)

  abbrev pub both : Loop → Loop → Loop
  both loop other = record loop { group = loop.group ++ other.group }

  -- a loop behind another one, or behind none, and the rows behind it
  abbrev pub with_loop : List Item → Option Loop → Loop → (Loop → List Grouped) → List Grouped
  with_loop known None loop rest = rest loop
  with_loop known (Some last) loop rest =
      if joins known last loop then rest (both last loop)
      else Runs last.slot last.group ∷ rest loop

  -- The rows from here on, behind a loop that others may still join. What a joined group puts,
  -- reads and accumulates is noted as it grows, at each array and scalar, so that a join costs as
  -- much as the second group has; and so are the references that are known.
  abbrev pub joined : List Item → Option Loop → List Grouped → List Grouped
  joined known last [] = last_rows last
  joined known last (Runs slot group ∷ rows) =
      with_loop known last (record { slot = slot; group = group }) (λ loop.
      joined (references_of tables slot group ++ known) (Some loop) rows)
  joined known last (Plain row ∷ rows) =
      last_rows last ++ Plain row ∷ joined (known_behind known row) None rows

-- Within a stretch: nothing is known where it begins.
abbrev pub fused : Tables → Tables
fused tables = with_grouped tables (rewritten_rows tables (joined tables [] None))
