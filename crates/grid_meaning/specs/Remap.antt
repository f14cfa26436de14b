-- `remap`: each processor asks the others for the values at tuples that its index arrays hold, and
-- answers what they ask.
use Rattle.std.specs.Prelude.{ℕ, zero, suc, ◌-◌, ◌*◌, ◌%◌, ◌/◌, ◌==◌, nat_le, Bool, ◌||◌, true, false, ℤ, pos, List, [], ◌∷◌, ◌++◌, drop, filter, length, map, option_and_then, take, Option, Some, None, if◌then◌else◌}
use Rattle.std.specs.List.{flat_map, list_all}
use Rattle.std.specs.Option.{option_map}
use Rattle.grid_layout.specs.of_zpl_region.declared.regions.Region.{Region}
use Rattle.node_form.specs.of_zpl_arrays.Array.{has_place}
use Rattle.node_form.specs.declared.arrays.ArrayRow.{ArrayRow}
use Rattle.node_form.specs.declared.tables.Tables.{Tables}
use Rattle.node_form.specs.Fits.{storage_of}
use Rattle.grid_meaning.specs.Action.{moves, goes_on}
use Rattle.grid_meaning.specs.Collective.{Collective, Alone, Sends, TakesFrom, Last, Asking, keeping, others, row_tag}
use Rattle.grid_meaning.specs.Gather.{words_from}
use Rattle.grid_meaning.specs.Local.{Local, processors}
use Rattle.grid_meaning.specs.Owner.{owner_for, region_in, tuples_of}
use Rattle.grid_meaning.specs.Place.{value_at, values_at, with_values}

-- ---- wanted tuples
-- who owns a tuple of a storage; none where it isn't in it
abbrev pub home_where : Bool → ℕ → Option ℕ
home_where true p = Some p
home_where false p = None

abbrev pub home : Tables → Region → List ℤ → Option ℕ
home code storage x = home_where (has_place storage x) (owner_for code storage 0 x)

-- a tuple with a coordinate for each of three dimensions
abbrev pub padded : List ℤ → List ℤ
padded x = take 3 (x ++ pos 0 ∷ pos 0 ∷ pos 0 ∷ [])

-- the tuple that is wanted at an index, which the index arrays hold
abbrev pub coordinates_at : Local → List ℕ → List ℤ → Option (List ℤ)
coordinates_at local [] t = Some []
coordinates_at local (part ∷ parts) t =
    option_and_then (λ x. option_map (λ rest. x ∷ rest) (coordinates_at local parts t)) (value_at local.stores part t)

-- an index, and the tuple that is wanted there
pub record Want : Type 0 where
  pub index : List ℤ
  pub tuple : List ℤ

abbrev pub wants_at : Local → List ℕ → List (List ℤ) → Option (List Want)
wants_at local parts [] = Some []
wants_at local parts (t ∷ tuples) =
    option_and_then (λ x. option_map (λ rest. record { index = t; tuple = padded x } ∷ rest) (wants_at local parts tuples))
    (coordinates_at local parts t)

abbrev pub is_number : Option ℕ → ℕ → Bool
is_number (Some p) q = p == q
is_number None q = false

abbrev pub is_none : Option ℕ → Bool
is_none (Some p) = false
is_none None = true

-- ---- words of tuples: a coordinate for each dimension
abbrev pub tuples_in : ℕ → ℕ → List ℤ → List (List ℤ)
tuples_in zero rank words = []
tuples_in (suc count) rank words = padded (take rank words) ∷ tuples_in count rank (drop rank words)

module _ (code : Tables) (p : ℕ) (array slot from : ℕ) (parts : List ℕ) (row : ArrayRow) where
  abbrev pub storage : Region
  storage = storage_of row

  abbrev pub wants : Local → Option (List Want)
  wants local = wants_at local parts (tuples_of code p (region_in local slot))

  -- those whose tuple a processor owns; and those that it settles by itself: its own, and those
  -- outside the storage
  abbrev pub wants_of : ℕ → List Want → List Want
  wants_of q all = filter (λ want. is_number (home code storage want.tuple) q) all

  abbrev pub wants_at_once : List Want → List Want
  wants_at_once all =
      filter (λ want. is_number (home code storage want.tuple) p || is_none (home code storage want.tuple)) all

  abbrev pub some_wants : Option (List Want) → ℕ → List Want
  some_wants (Some all) q = wants_of q all
  some_wants None q = []

  -- the words of a request, and the tuples of one
  abbrev pub request : ℕ → List Want → List ℤ
  request q all = flat_map (λ want. take row.rank want.tuple) (wants_of q all)

  abbrev pub requested : List ℤ → List (List ℤ)
  requested words = tuples_in (length words / row.rank) row.rank words

  abbrev pub owns_all : List ℤ → Bool
  owns_all words = list_all (λ x. is_number (home code storage x) p) (requested words)

  -- ---- turns
  abbrev pub many_others : ℕ
  many_others = processors code - 1

  -- the requests come first, one to and one from each other processor
  abbrev pub is_asking : Local → Bool
  is_asking local = nat_le local.made (2 * many_others)

  abbrev pub written : List Want → List ℤ → Local → Option Local
  written which values local =
      option_map (λ stores. record local { stores = stores })
      (with_values array (map (λ want. want.index) which) values local.stores)

  -- what the processor owns itself, and 0 where a tuple isn't in the storage: index by index
  abbrev pub first_value : Local → Want → Option ℤ
  first_value local want =
      if is_none (home code storage want.tuple) then Some (pos 0) else value_at local.stores from want.tuple

  abbrev pub first_values : Local → List Want → Option (List ℤ)
  first_values local [] = Some []
  first_values local (want ∷ rest) =
      option_and_then (λ value. option_map (λ values. value ∷ values) (first_values local rest)) (first_value local want)

  abbrev pub remap_own : Local → List Want → Option Local
  remap_own local all =
      let first = wants_at_once all in option_and_then (λ values. written first values local) (first_values local first)

  abbrev pub answer : Local → ℕ → Option (List ℤ)
  answer local q = values_at local.stores from (requested (words_from local.kept q))

  abbrev pub request_taken : Local → ℕ → List ℤ → Bool → Option Local
  request_taken local q words true = Some (if length words == 0 then local else keeping local q words)
  request_taken local q words false = None

  abbrev pub remapped : Collective
  remapped = record {
    stages = λ local.
        Alone ∷ (map Sends (others code p) ++ (map TakesFrom (others code p)
        ++ (map (λ entry. Sends entry.0) local.kept
        ++ (map TakesFrom (filter (λ q. nat_le 1 (length (some_wants (wants local) q))) (others code p)) ++ Last ∷ []))));
    tag = row_tag;
    alone = λ local. option_and_then (remap_own local) (wants local);
    words_to = λ local to. if is_asking local then option_map (request to) (wants local) else answer local to;
    awaits = λ local q many.
        if is_asking local then many % row.rank == 0 else many == length (some_wants (wants local) q);
    taken = λ local q words.
        if is_asking local then request_taken local q words (owns_all words)
        else written (some_wants (wants local) q) words local;
    use_of_words = Asking;
    last = λ local. moves (goes_on local) [];
  }
