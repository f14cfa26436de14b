-- Rows of texts, computed.
use Rattle.std.proofs.Common.{◌≡◌, ◌∷◌, [], Ok, Err, refl}
use Rattle.std.specs.Prelude.{codes}
use Rattle.grid_order.specs.Item.{number_below, item_of}
use Rattle.grid_order.specs.Reading.{reading}

items : reading 3 (codes "0 1x3 2") ≡ Ok (0 ∷ 1 ∷ 1 ∷ 1 ∷ 2 ∷ [])
unfolding number_below item_of
items = refl

-- gaps of each kind, at both ends too; leading zeros; no turns
gaps : reading 10 (10 ∷ 49 ∷ 9 ∷ 48 ∷ 48 ∷ 57 ∷ 120 ∷ 48 ∷ 50 ∷ 13 ∷ 10 ∷ 51 ∷ 120 ∷ 48 ∷ 32 ∷ []) ≡ Ok (1 ∷ 9 ∷ 9 ∷ [])
unfolding number_below item_of
gaps = refl

nothing : reading 0 (codes "  ") ≡ Ok []
unfolding number_below item_of
nothing = refl

-- the first wrong item is told: a processor that isn't there, and what has not the form
no_processor : reading 2 (codes "0 1x3 9 x") ≡ Err 6
unfolding number_below item_of
no_processor = refl

no_times : reading 2 (codes "1x") ≡ Err 0
unfolding number_below item_of
no_times = refl

twice_x : reading 2 (codes "0 1x1x1") ≡ Err 2
unfolding number_below item_of
twice_x = refl

no_number : reading 2 (codes " x3") ≡ Err 1
unfolding number_below item_of
no_number = refl

too_many : reading 2 (codes "1x1000001") ≡ Err 0
unfolding number_below item_of
too_many = refl
