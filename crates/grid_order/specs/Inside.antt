-- What stands for an order: the turns that are left of it.
use Rattle.std.specs.Prelude.{ℕ, ◌≤◌, List, length, drop, All}
use Rattle.std.specs.List.{flat_map}
use Rattle.grid_order.specs.declared.order.Item.{Item}
use Rattle.grid_order.specs.declared.order.Order.TheInside.{Inside}
use Rattle.grid_order.specs.Item.{turns_of}

-- the items that are left
abbrev pub items_left : Inside → List Item
items_left order = drop order.at order.items.items

abbrev pub turns_left : Inside → List ℕ
turns_left order = flat_map turns_of (items_left order)

-- each item that is left has a turn
pub record IsGoing (order : Inside) : Type 0 where
  pub within : order.at ≤ length order.items.items
  pub turns : All (λ item. 1 ≤ item.times) (items_left order)
