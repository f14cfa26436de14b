-- Exchanges: `start` sends to each other processor the places that it needs, and `finish` receives
-- them.
use Rattle.std.specs.Prelude.{ℕ, ◌*◌, ◌==◌, ℤ, List, [], ◌∷◌, ◌++◌, drop, length, map, option_and_then, slice_get, sum_by, take, Option, Some, None}
use Rattle.std.specs.Option.{option_map}
use Rattle.grid_layout.specs.of_zpl_region.declared.regions.Region.{Region}
use Rattle.grid_layout.specs.of_zpl_region.Region.{members}
use Rattle.node_form.specs.of_zpl_arrays.Array.{Array}
use Rattle.grid_layout.specs.Piece.{piece_of}
use Rattle.node_form.specs.declared.arrays.Item.{Item}
use Rattle.node_form.specs.declared.tables.Tables.{Tables}
use Rattle.grid_meaning.specs.Action.{moves, goes_on}
use Rattle.grid_meaning.specs.Collective.{Collective, Sends, TakesFrom, Last, AtOnce, others_where}
use Rattle.grid_meaning.specs.Local.{Local}
use Rattle.grid_meaning.specs.Place.{values_at, with_values}
use Rattle.grid_meaning.specs.Stored.{arrangement_of, box_number}

-- ---- the places that a processor needs for an item, and that another one owns
abbrev pub places_in : Tables → ℕ → ℕ → Item → Option Region → List (List ℤ)
places_in code from to item (Some region) =
    members (piece_of (arrangement_of code) (box_number code item.array) from to region item.shift)
places_in code from to item None = []

abbrev pub places_of : Tables → Local → ℕ → ℕ → Item → List (List ℤ)
places_of code local from to item = places_in code from to item (slice_get local.slots item.slot)

-- how many they are for all items
abbrev pub word_count : Tables → Local → List Item → ℕ → ℕ → ℕ
word_count code local items from to = sum_by (λ item. length (places_of code local from to item)) items

-- ---- the words of a message: item by item the values at these places
abbrev pub words_between : Tables → Local → List Item → ℕ → ℕ → Option (List ℤ)
words_between code local [] from to = Some []
words_between code local (item ∷ items) from to =
    option_and_then (λ words. option_map (λ rest. words ++ rest) (words_between code local items from to))
    (values_at local.stores item.array (places_of code local from to item))

abbrev pub words_written : Tables → Local → ℕ → ℕ → List Item → List ℤ → List Array → Option (List Array)
words_written code local from to [] words stores = Some stores
words_written code local from to (item ∷ items) words stores =
    let places = places_of code local from to item in
    option_and_then (words_written code local from to items (drop (length places) words))
    (with_values item.array places (take (length places) words) stores)

-- ---- the rows
abbrev pub exchange_tag : ℕ → Local → ℕ
exchange_tag exchange local = 2 * exchange

abbrev pub started : Tables → ℕ → ℕ → List Item → Collective
started code p exchange items = record {
  stages = λ local. map Sends (others_where code p (word_count code local items p)) ++ Last ∷ [];
  tag = exchange_tag exchange;
  alone = λ local. None;
  words_to = λ local to. words_between code local items p to;
  awaits = λ local from many. many == 0;
  taken = λ local from words. None;
  use_of_words = AtOnce;
  last = λ local. moves (goes_on local) [];
}

abbrev pub finished : Tables → ℕ → ℕ → List Item → Collective
finished code p exchange items = record {
  stages =
      λ local. map TakesFrom (others_where code p (λ q. word_count code local items q p)) ++ Last ∷ [];
  tag = exchange_tag exchange;
  alone = λ local. None;
  words_to = λ local to. None;
  awaits = λ local from many. many == word_count code local items from p;
  taken = λ local from words.
      option_map (λ stores. record local { stores = stores }) (words_written code local from p items words local.stores);
  use_of_words = AtOnce;
  last = λ local. moves (goes_on local) [];
}
