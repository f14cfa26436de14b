-- What is known of the others with whom a processor exchanges words.
--
--   Route           those that were found for an exchange, and the region that was in a slot then
--   Known           those in the row that a processor is at, if they are known, and the routes that
--                   were found last
--   nothing_known   none
--   IsRouteFor      a route that was found for an exchange whose items all have one slot
--   IsRecalled      a route for an exchange, with the region that is in its slot
--   IsRoute         whoever comes to the exchange with that region in the slot has these partners
--   AreRoutes       all routes are such ones
use Rattle.std.specs.Prelude.{◌≡◌, ℕ, List, All, Option, Some, None, slice_get}
use Rattle.std.specs.Option.{IfSome}
use Rattle.reduce_plan.specs.of_zpl_region.declared.regions.Region.{Region}
use Rattle.grid_meaning.specs.of_node_form.declared.arrays.Item.{Item}
use Rattle.grid_meaning.specs.of_node_form.declared.tables.Tables.{Tables}
use Rattle.node_stages.specs.Partners.{receivers_from, senders_to}

pub record Route : Type 0 where
  pub exchange : ℕ
  pub slot : ℕ
  pub region : Region
  pub list : List ℕ

pub record Known : Type 0 where
  pub here : Option (List ℕ)
  pub started : Option Route
  pub finished : Option Route

abbrev pub nothing_known : Known
nothing_known = record { here = None; started = None; finished = None }

pub record IsRouteFor (exchange : ℕ) (slots : List Region) (items : List Item) (list : List ℕ) (route : Route)
    : Type 0 where
  pub exchange_is : route.exchange ≡ exchange
  pub one : All (λ (item : Item). item.slot ≡ route.slot) items
  pub region_is : slice_get slots route.slot ≡ Some route.region
  pub list_is : route.list ≡ list

pub record IsRecalled (known : Option Route) (exchange : ℕ) (slots : List Region) (list : List ℕ)
    : Type 0 where
  pub route : Route
  pub there : known ≡ Some route
  pub exchange_is : route.exchange ≡ exchange
  pub region_is : slice_get slots route.slot ≡ Some route.region
  pub list_is : route.list ≡ list

abbrev pub IsRoute : Tables → (List Region → List Item → List ℕ) → Route → Type 0
IsRoute code partners route =
    (slots : List Region) (items : List Item) → slice_get code.exchanges route.exchange ≡ Some items
    → slice_get slots route.slot ≡ Some route.region → partners slots items ≡ route.list

pub record AreRoutes (code : Tables) (p : ℕ) (known : Known) : Type 0 where
  pub started : IfSome known.started (IsRoute code (λ slots items. receivers_from code slots items p))
  pub finished : IfSome known.finished (IsRoute code (λ slots items. senders_to code slots items p))
