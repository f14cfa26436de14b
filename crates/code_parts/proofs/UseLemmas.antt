-- What is listed as written by a row is what it writes.
use Rattle.std.proofs.Common.{◌≡◌, inl, inr, ◌↔◌, ℕ, sym, ap, subst, List, [], ◌∷◌}
use Rattle.std.proofs.Common.{Option, Some, None, Contains}
use Rattle.std.specs.Prelude.{Any, flat_map, slice_get}
use Rattle.std.specs.Option.{IsSomeAnd}
use Rattle.node_form.specs.declared.arrays.Item.{Item}
use Rattle.node_form.specs.declared.instructions.Instr.{Instr}
use Rattle.node_form.specs.declared.instructions.Instr.TheVariants as instr
use Rattle.node_form.specs.declared.members.Member.{Member}
use Rattle.node_form.specs.declared.members.Member.TheVariants as member
use Rattle.node_form.specs.declared.tables.Tables.{Tables}
use Rattle.node_form.specs.declared.touches.Thing.TheVariants.{Slot, Array}
use Rattle.node_form.specs.Touch.{IsWritten, IsWrittenByMember}
use Rattle.code_parts.specs.Uses.{arrays_of_items, put_by, rows_or_none, written_arrays}
use Rattle.code_parts.specs.Uses.{written_slots}
use Rattle.code_parts.proofs.ListLemmas.{In, contained, from_each, from_mapped, holds_somewhere}
use Rattle.code_parts.proofs.ListLemmas.{in_each, in_list, in_mapped, some_holds}

-- one thing
array_same : (a b : ℕ) → Array a ≡ Array b → In (b ∷ []) a
array_same a b is = let e : a ≡ b = cc in inl (sym e)

array_back : (a b : ℕ) → In (b ∷ []) a → Array a ≡ Array b
array_back a b (inl is) = ap Array (sym is)
array_back a b (inr h) = absurd h

slot_same : (a b : ℕ) → Slot a ≡ Slot b → In (b ∷ []) a
slot_same a b is = let e : a ≡ b = cc in inl (sym e)

slot_back : (a b : ℕ) → In (b ∷ []) a → Slot a ≡ Slot b
slot_back a b (inl is) = ap Slot (sym is)
slot_back a b (inr h) = absurd h

-- ---- groups
put_by_member : (a : ℕ) (one : Member) → IsWrittenByMember (Array a) one → In (put_by one) a
put_by_member a (member.Put array expr mask line) h = array_same a array h
put_by_member a (member.Acc scalar fold expr mask line) h = cc
put_by_member a _ h = absurd h

member_puts : (a : ℕ) (one : Member) → In (put_by one) a → IsWrittenByMember (Array a) one
member_puts a (member.Put array expr mask line) h = array_back a array h
member_puts a _ h = absurd h

put_in : (a : ℕ) (group : Option (List Member))
    → IsSomeAnd group (Any (IsWrittenByMember (Array a)))
    → In (flat_map put_by (rows_or_none group)) a
put_in a None h = absurd h
put_in a (Some members) h =
    let some = some_holds (IsWrittenByMember (Array a)) members h in
    in_each put_by members some.0 a some.1 (put_by_member a some.0 some.2)

group_puts : (a : ℕ) (group : Option (List Member))
    → In (flat_map put_by (rows_or_none group)) a
    → IsSomeAnd group (Any (IsWrittenByMember (Array a)))
group_puts a None h = absurd h
group_puts a (Some members) h =
    let some = from_each put_by members a h in
    holds_somewhere (IsWrittenByMember (Array a)) members some.0 some.1
    (member_puts a some.0 some.2)

slot_by_member : (s : ℕ) (one : Member) → IsWrittenByMember (Slot s) one → ⊥
slot_by_member s (member.Put array expr mask line) h = cc
slot_by_member s (member.Acc scalar fold expr mask line) h = cc
slot_by_member s _ h = h

no_slot_in : (s : ℕ) (group : Option (List Member))
    → IsSomeAnd group (Any (IsWrittenByMember (Slot s))) → ⊥
no_slot_in s None h = h
no_slot_in s (Some members) h =
    let some = some_holds (IsWrittenByMember (Slot s)) members h in
    slot_by_member s some.0 some.2

-- ---- exchanges
item_in : (a : ℕ) (exchange : Option (List Item))
    → IsSomeAnd exchange (Any (λ item. Array a ≡ Array item.array))
    → In (arrays_of_items (rows_or_none exchange)) a
item_in a None h = absurd h
item_in a (Some items) h =
    let some = some_holds (λ item. Array a ≡ Array item.array) items h in
    let same : a ≡ some.0.array = let is = some.2 in cc in
    from same (in_mapped (λ item. item.array) items some.0 some.1)
  where
    from : {b : ℕ} → a ≡ b → In (arrays_of_items items) b → In (arrays_of_items items) a
    from is h = subst (In (arrays_of_items items)) (sym is) h

item_has : (a : ℕ) (exchange : Option (List Item))
    → In (arrays_of_items (rows_or_none exchange)) a
    → IsSomeAnd exchange (Any (λ item. Array a ≡ Array item.array))
item_has a None h = absurd h
item_has a (Some items) h =
    let some = from_mapped (λ item. item.array) items a h in
    holds_somewhere (λ item. Array a ≡ Array item.array) items some.0 some.1
    (ap Array (sym some.2))

no_slot_of : (s : ℕ) (exchange : Option (List Item))
    → IsSomeAnd exchange (Any (λ item. Slot s ≡ Array item.array)) → ⊥
no_slot_of s None h = h
no_slot_of s (Some items) h =
    let some = some_holds (λ item. Slot s ≡ Array item.array) items h in
    let is = some.2 in cc

module _ (code : Tables) where
  -- ---- arrays
  listed : (row : Instr) (a : ℕ) → IsWritten code row (Array a) → In (written_arrays code row) a
  listed (instr.Room array slot) a h = array_same a array h
  listed (instr.Clear array) a h = array_same a array h
  listed (instr.Loop slot group) a h = put_in a (slice_get code.groups group) h
  listed (instr.Finish exchange) a h = item_in a (slice_get code.exchanges exchange) h
  listed (instr.Edge kind array slot shift) a h = array_same a array h
  listed (instr.Flood array target source over) a h = array_same a array h
  listed (instr.Part array target fold source over) a h = array_same a array h
  listed (instr.Scan array slot fold along source mask) a h = array_same a array h
  listed (instr.Remap array slot source parts) a h = array_same a array h
  listed (instr.Set scalar expr line) a h = cc
  listed (instr.Fix slot region) a h = cc
  listed (instr.Dims slot parts line) a h = cc
  listed (instr.Formed form slot source shift line) a h = cc
  listed (instr.Fold scalar fold) a h = cc
  listed (instr.TreeFold scalar fold) a h = cc
  listed _ a h = absurd h

  written : (row : Instr) (a : ℕ) → In (written_arrays code row) a → IsWritten code row (Array a)
  written (instr.Room array slot) a h = array_back a array h
  written (instr.Clear array) a h = array_back a array h
  written (instr.Loop slot group) a h = group_puts a (slice_get code.groups group) h
  written (instr.Finish exchange) a h = item_has a (slice_get code.exchanges exchange) h
  written (instr.Edge kind array slot shift) a h = array_back a array h
  written (instr.Flood array target source over) a h = array_back a array h
  written (instr.Part array target fold source over) a h = array_back a array h
  written (instr.Scan array slot fold along source mask) a h = array_back a array h
  written (instr.Remap array slot source parts) a h = array_back a array h
  written _ a h = absurd h

  pub arrays_either_way : (row : Instr) (array : ℕ)
      → IsWritten code row (Array array) ↔ Contains (written_arrays code row) array
  arrays_either_way row array = (
    λ h. contained (written_arrays code row) array (listed row array h),
    λ h. written row array (in_list (written_arrays code row) array h),
  )

  -- ---- slots
  listed_slot : (row : Instr) (s : ℕ) → IsWritten code row (Slot s) → In (written_slots row) s
  listed_slot (instr.Fix slot region) s h = slot_same s slot h
  listed_slot (instr.Dims slot parts line) s h = slot_same s slot h
  listed_slot (instr.Formed form slot source shift line) s h = slot_same s slot h
  listed_slot (instr.Set scalar expr line) s h = cc
  listed_slot (instr.Room array slot) s h = cc
  listed_slot (instr.Clear array) s h = cc
  listed_slot (instr.Loop slot group) s h = absurd (no_slot_in s (slice_get code.groups group) h)
  listed_slot (instr.Finish exchange) s h =
      absurd (no_slot_of s (slice_get code.exchanges exchange) h)
  listed_slot (instr.Edge kind array slot shift) s h = cc
  listed_slot (instr.Flood array target source over) s h = cc
  listed_slot (instr.Part array target fold source over) s h = cc
  listed_slot (instr.Scan array slot fold along source mask) s h = cc
  listed_slot (instr.Remap array slot source parts) s h = cc
  listed_slot (instr.Fold scalar fold) s h = cc
  listed_slot (instr.TreeFold scalar fold) s h = cc
  listed_slot _ s h = absurd h

  written_slot : (row : Instr) (s : ℕ) → In (written_slots row) s → IsWritten code row (Slot s)
  written_slot (instr.Fix slot region) s h = slot_back s slot h
  written_slot (instr.Dims slot parts line) s h = slot_back s slot h
  written_slot (instr.Formed form slot source shift line) s h = slot_back s slot h
  written_slot _ s h = absurd h

  pub slots_either_way : (row : Instr) (slot : ℕ)
      → IsWritten code row (Slot slot) ↔ Contains (written_slots row) slot
  slots_either_way row slot = (
    λ h. contained (written_slots row) slot (listed_slot row slot h),
    λ h. written_slot row slot (in_list (written_slots row) slot h),
  )
