-- The items of an order: `p` gives a turn to processor p, `pxk` gives it k turns.
use Rattle.std.specs.Prelude.{ℕ, ◌+◌, ◌-◌, ◌*◌, ◌==◌, ◌&&◌, nat_lt, Bool, List, length, take, drop, fold, replicate, Option, Some, None, if◌then◌else◌}
use Rattle.std.specs.Char.{is_ascii_digit}
use Rattle.std.specs.List.{list_all, position}
use Rattle.std.specs.Option.{option_map, option_and_then}
use Rattle.grid_order.specs.declared.order.Item.{Item}

-- ---- numbers
-- the number that decimal digits stand for
abbrev pub decimal : List ℕ → ℕ
decimal digits = fold (λ number digit. 10 * number + (digit - 48)) 0 digits

-- one or more digits, of which the first ones may be zeros, that stand for a number below the limit
abbrev pub is_number_below : ℕ → List ℕ → Bool
is_number_below limit word = nat_lt 0 (length word) && list_all is_ascii_digit word && nat_lt (decimal word) limit

unfoldable pub number_below : ℕ → List ℕ → Option ℕ
number_below limit word = if is_number_below limit word then Some (decimal word) else None

-- ---- items
abbrev pub once : ℕ → Item
once processor = record { processor = processor; times = 1 }

abbrev pub repeated : ℕ → ℕ → Item
repeated processor times = record { processor = processor; times = times }

-- more turns than one item may give
abbrev pub times_limit : ℕ
times_limit = 1000001

-- the item that a word is, by the place of its first `x`
abbrev pub item_at : ℕ → List ℕ → Option ℕ → Option Item
item_at count word None = option_map once (number_below count word)
item_at count word (Some x) =
    option_and_then
    (λ processor. option_map (repeated processor) (number_below times_limit (drop (x + 1) word)))
    (number_below count (take x word))

-- the item that a word is, of so many processors
unfoldable pub item_of : ℕ → List ℕ → Option Item
item_of count word = item_at count word (position (λ byte. byte == 120) word)

-- the turns of an item
abbrev pub turns_of : Item → List ℕ
turns_of item = replicate item.times item.processor
