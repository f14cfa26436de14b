-- Rows in which processors send each other words for places of one array: `wrap`, `reflect`,
-- `flood` and `part`.
--
--   Delivery, delivered   for which tuples words go, and what becomes of them
--   edged, flooded, parted   the rows
use Rattle.std.specs.Prelude.{ℕ, ◌==◌, ℤ, List, [], ◌∷◌, ◌++◌, filter, length, map, option_and_then, Option, Some}
use Rattle.std.specs.List.{list_any}
use Rattle.std.specs.Option.{option_map}
use Rattle.node_form.specs.of_zpl_nums.declared.ends.Border.{Border}
use Rattle.node_form.specs.of_zpl_nums.declared.folds.Fold.{Fold}
use Rattle.node_form.specs.of_zpl_nums.Fold.{folded, joined}
use Rattle.grid_layout.specs.of_zpl_region.Region.{outside_of}
use Rattle.grid_layout.specs.of_zpl_region.declared.regions.Region.{Region}
use Rattle.node_form.specs.of_zpl_arrays.Array.{Array}
use Rattle.node_form.specs.of_zpl_arrays.Border.{border_source}
use Rattle.node_form.specs.of_zpl_arrays.Flood.{flood_source}
use Rattle.node_form.specs.of_zpl_arrays.Fold.{agrees}
use Rattle.node_form.specs.declared.tables.Tables.{Tables}
use Rattle.grid_meaning.specs.Action.{moves, goes_on}
use Rattle.grid_meaning.specs.Collective.{Collective, Alone, Sends, TakesFrom, Last, AtOnce, others_where, row_tag}
use Rattle.grid_meaning.specs.Local.{Local}
use Rattle.grid_meaning.specs.Owner.{owner_for, region_in, tuples_of}
use Rattle.grid_meaning.specs.Place.{value_at, values_at, with_value, with_values}

-- The tuples for which one processor (the first number) has a word for another (the second), in
-- row-major order; the word for a tuple, none where a place that it needs isn't held; all tuples
-- that the first turn sets by the processor's own words; and what a word that is received sets its
-- tuple to, beside the value that is there.
pub record Delivery : Type 0 where
  pub array : ℕ
  pub targets : Local → ℕ → ℕ → List (List ℤ)
  pub word : Local → List ℤ → Option ℤ
  pub own : Local → List (List ℤ)
  pub combined : ℤ → ℤ → ℤ

abbrev pub each_word : (List ℤ → Option ℤ) → List (List ℤ) → Option (List ℤ)
each_word word [] = Some []
each_word word (t ∷ tuples) =
    option_and_then (λ value. option_map (λ rest. value ∷ rest) (each_word word tuples)) (word t)

-- the words for some tuples written; or combined with what is there, one after another
abbrev pub with_words : Delivery → Local → List (List ℤ) → List ℤ → Option Local
with_words d local tuples words =
    option_map (λ stores. record local { stores = stores }) (with_values d.array tuples words local.stores)

abbrev pub combined_into : Delivery → List (List ℤ) → List ℤ → List Array → Option (List Array)
combined_into d (t ∷ tuples) (word ∷ words) stores =
    option_and_then (λ old.
    option_and_then (combined_into d tuples words) (with_value stores d.array t (d.combined old word)))
    (value_at stores d.array t)
combined_into d tuples words stores = Some stores

abbrev pub with_combined : Delivery → Local → List (List ℤ) → List ℤ → Option Local
with_combined d local tuples words =
    option_map (λ stores. record local { stores = stores }) (combined_into d tuples words local.stores)

-- the first turn is the processor's own; then words go to the others, come from the others, and one
-- more turn is made
abbrev pub delivered : Tables → ℕ → Delivery → Collective
delivered code p d = record {
  stages = λ local.
      Alone ∷ (map Sends (others_where code p (λ q. length (d.targets local p q)))
      ++ (map TakesFrom (others_where code p (λ q. length (d.targets local q p))) ++ Last ∷ []));
  tag = row_tag;
  alone = λ local. option_and_then (with_words d local (d.own local)) (each_word (d.word local) (d.own local));
  words_to = λ local to. each_word (d.word local) (d.targets local p to);
  awaits = λ local from many. many == length (d.targets local from p);
  taken = λ local from words. with_combined d local (d.targets local from p) words;
  use_of_words = AtOnce;
  last = λ local. moves (goes_on local) [];
}

-- a word takes the place of what is there
abbrev pub replaced : ℤ → ℤ → ℤ
replaced old word = word

-- ---- `wrap` and `reflect`: the tuples of `d of R`, each from its source, a tuple of the same array
abbrev pub border_targets : Tables → Border → Region → List ℤ → ℕ → ℕ → List (List ℤ)
border_targets code kind region shift from to =
    filter (λ t. owner_for code region to (border_source kind region shift t) == from)
    (tuples_of code to (outside_of shift region))

abbrev pub edging : Tables → ℕ → Border → ℕ → ℕ → List ℤ → Delivery
edging code p kind array slot shift = record {
  array = array;
  targets = λ local. border_targets code kind (region_in local slot) shift;
  word = λ local t. value_at local.stores array (border_source kind (region_in local slot) shift t);
  own = λ local. border_targets code kind (region_in local slot) shift p p;
  combined = replaced;
}

abbrev pub edged : Tables → ℕ → Border → ℕ → ℕ → List ℤ → Collective
edged code p kind array slot shift = delivered code p (edging code p kind array slot shift)

-- ---- `flood`: the tuples of a target, each from its source in another region
abbrev pub flood_targets : Tables → Region → Region → ℕ → ℕ → List (List ℤ)
flood_targets code target source from to =
    filter (λ t. owner_for code source to (flood_source source t) == from) (tuples_of code to target)

abbrev pub flooding : Tables → ℕ → ℕ → ℕ → ℕ → ℕ → Delivery
flooding code p array target from source = record {
  array = array;
  targets = λ local. flood_targets code (region_in local target) (region_in local source);
  word = λ local t. value_at local.stores from (flood_source (region_in local source) t);
  own = λ local. flood_targets code (region_in local target) (region_in local source) p p;
  combined = replaced;
}

abbrev pub flooded : Tables → ℕ → ℕ → ℕ → ℕ → ℕ → Collective
flooded code p array target from source = delivered code p (flooding code p array target from source)

-- ---- `part`: the tuples of a target, each from those of the source that agree with it outside the collapsed dimensions. Each
-- processor folds its own ones, and a word that is received is joined
abbrev pub reaching : Tables → Region → Region → ℕ → List ℤ → List (List ℤ)
reaching code target source from t = filter (agrees target.dims t) (tuples_of code from source)

abbrev pub part_targets : Tables → Region → Region → ℕ → ℕ → List (List ℤ)
part_targets code target source from to =
    filter (λ t. list_any (agrees target.dims t) (tuples_of code from source)) (tuples_of code to target)

abbrev pub parting : Tables → ℕ → ℕ → ℕ → Fold → ℕ → ℕ → Delivery
parting code p array target f from source = record {
  array = array;
  targets = λ local. part_targets code (region_in local target) (region_in local source);
  word = λ local t. option_map (folded f)
      (values_at local.stores from (reaching code (region_in local target) (region_in local source) p t));
  own = λ local. tuples_of code p (region_in local target);
  combined = joined f;
}

abbrev pub parted : Tables → ℕ → ℕ → ℕ → Fold → ℕ → ℕ → Collective
parted code p array target f from source = delivered code p (parting code p array target f from source)
