-- What is noted for numbers, and the last row that changes an item.
use Rattle.std.specs.Prelude.{◌≡◌, ℕ, ◌==◌, Bool, if◌then◌else◌, List, max, nat_eq, unwrap_or}
use Rattle.std.specs.List.{list_any}
use Rattle.std.specs.HashMap.{get}
use Rattle.plan_form.specs.of_node_form.declared.arrays.Item.{Item}
use Rattle.last_writes.specs.declared.numbers.Noted.{Noted}
use Rattle.last_writes.specs.declared.writes.LastWrites.{LastWrites}

-- what was noted last for a number, 0 where nothing was
abbrev pub noted : Noted → ℕ → ℕ
noted notes number = unwrap_or (get nat_eq notes.values number) 0

abbrev pub is_listed : List ℕ → ℕ → Bool
is_listed numbers number = list_any (λ other. other == number) numbers

-- the value is noted for these numbers, and for all others what was
abbrev pub AreNoted : Noted → List ℕ → ℕ → Noted → Type 0
AreNoted old numbers value new =
    (number : ℕ) → noted new number ≡
    (if is_listed numbers number then value else noted old number)

-- the last row that writes an item's array or its slot
abbrev pub last_change : LastWrites → Item → ℕ
last_change last item = max (noted last.arrays item.array) (noted last.slots item.slot)
