-- `gather`: processor 0 gets the values of an array over a region from all others, and prints it.
use Rattle.std.specs.Prelude.{ℕ, zero, suc, ◌==◌, Bool, ℤ, pos, List, [], ◌∷◌, ◌++◌, find, length, map, slice_index_or, Option, Some, None, if◌then◌else◌}
use Rattle.std.specs.Fmt.{signed_decimal}
use Rattle.grid_layout.specs.of_zpl_region.declared.regions.Region.{Region}
use Rattle.node_form.specs.of_zpl_arrays.Array.{place_among}
use Rattle.node_form.specs.of_zpl_arrays.ArrayText.{array_text, truth_text}
use Rattle.grid_links.specs.Machine.{Blocked}
use Rattle.node_form.specs.declared.tables.Tables.{Tables}
use Rattle.grid_meaning.specs.Action.{Action, Unheld, moves, goes_on}
use Rattle.grid_meaning.specs.Collective.{Collective, Stage, Sends, TakesFrom, Last, InLast, keeping, others_where, row_tag}
use Rattle.grid_meaning.specs.Local.{Local}
use Rattle.grid_meaning.specs.Owner.{owner_for, region_in, tuples_of}
use Rattle.grid_meaning.specs.Place.{own_part, values_at}

-- the words of a processor among those of all
abbrev pub words_or_none : Option (ℕ × List ℤ) → List ℤ
words_or_none (Some entry) = entry.1
words_or_none None = []

abbrev pub words_from : List (ℕ × List ℤ) → ℕ → List ℤ
words_from entries q = words_or_none (find (λ entry. entry.0 == q) entries)

-- the value at a tuple: the owner's word at the tuple's place in its part of the region
abbrev pub gathered_value : Tables → Region → List (ℕ × List ℤ) → List ℤ → ℤ
gathered_value code region entries t =
    let q = owner_for code region 0 t in
    slice_index_or (words_from entries q) (place_among (own_part code q region).dims t) (pos 0)

abbrev pub element_text : Bool → ℤ → List ℕ
element_text truth value = if truth then truth_text value else signed_decimal value

abbrev pub prints_gathered : Tables → Bool → Region → Local → Option (List ℤ) → Action
prints_gathered code truth region local (Some own) =
    moves (goes_on local)
    (array_text (element_text truth) region (gathered_value code region ((0, own) ∷ local.kept)))
prints_gathered code truth region local None = Blocked Unheld

-- processor 0 takes from all others who have values; each of these sends to it
abbrev pub gather_stages : Tables → ℕ → Region → List Stage
gather_stages code zero region =
    map TakesFrom (others_where code 0 (λ q. length (tuples_of code q region))) ++ Last ∷ []
gather_stages code (suc p) region =
    if length (tuples_of code (suc p) region) == 0 then Last ∷ [] else Sends 0 ∷ Last ∷ []

abbrev pub gather_last : Tables → ℕ → Bool → ℕ → Region → Local → Action
gather_last code zero truth array region local =
    prints_gathered code truth region local (values_at local.stores array (tuples_of code 0 region))
gather_last code (suc p) truth array region local = moves (goes_on local) []

abbrev pub gathered : Tables → ℕ → Bool → ℕ → ℕ → Collective
gathered code p truth array slot = record {
  stages = λ local. gather_stages code p (region_in local slot);
  tag = row_tag;
  alone = λ local. None;
  words_to = λ local to. values_at local.stores array (tuples_of code p (region_in local slot));
  awaits = λ local q many. many == length (tuples_of code q (region_in local slot));
  taken = λ local q words. Some (keeping local q words);
  use_of_words = InLast;
  last = λ local. gather_last code p truth array (region_in local slot) local;
}
