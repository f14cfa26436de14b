-- A loop, on each processor over its own part of the region: tuple by tuple, all units of the group
-- at each. A unit that meets a zero divisor leaves out what is behind it at its tuple; the least
-- number of such a unit's member is kept for the vote. Cells stay from one tuple to the next.
use Rattle.std.specs.Prelude.{ℕ, ◌+◌, Bool, true, false, not, ◌&&◌, ℤ, List, [], ◌∷◌, Option, Some}
use Rattle.std.specs.Prelude.{None, length, if◌then◌else◌, slice_get}
use Rattle.zpl_nums.specs.declared.ends.End.TheVariants.{More}
use Rattle.zpl_region.specs.declared.regions.Region.{Region}
use Rattle.zpl_region.specs.Region.{members}
use Rattle.flat_form.specs.of_zpl_arrays.Array.{Array}
use Rattle.flat_form.specs.of_node_form.declared.members.Member.{Member}
use Rattle.flat_form.specs.of_node_form.declared.tables.Tables.{Tables}
use Rattle.flat_form.specs.of_node_form.Group.{Point}
use Rattle.flat_form.specs.of_node_form.Nest.{Nest, members_of}
use Rattle.flat_form.specs.of_grid_meaning.Loop.{access_at, flagged}
use Rattle.flat_form.specs.of_grid_meaning.Place.{own_part}
use Rattle.flat_form.specs.of_nest_meaning.Nested.{Told, Fine, Zero, Wants, Lost, nested, ways_of}
use Rattle.flat_form.specs.of_nest_meaning.Tree.{nest_of}
use Rattle.flat_form.specs.of_nest_meaning.Units.{units_of}
use Rattle.flat_form.specs.of_row_runs.Run.{Step, Goes, Stops, Ends, Wrong}
use Rattle.plan_meaning.specs.Abreast.{Abreast, Share, every, is_quiet, of_processors}

-- what a processor comes to: a state, and the member that met a zero divisor, if one did; or it
-- wants a further turn; or a place isn't held
pub data Shared : Type 0 where
  Through : (point : Point (List Array)) (flag : Option ℕ) → Shared
  WantsTurn : Shared
  LacksPlace : Shared

-- the lesser of two, where there is one
abbrev pub least_of : Option ℕ → Option ℕ → Option ℕ
least_of flag None = flag
least_of flag (Some number) = flagged flag number

abbrev pub unit_next : ℕ → Told (Point (List Array)) → (Point (List Array) → Shared) → Shared
unit_next number (Fine point) next = next point
unit_next number (Zero point) next = Through point (Some number)
unit_next number Wants next = WantsTurn
unit_next number Lost next = LacksPlace

abbrev pub tuple_next : Option ℕ → Shared → (Point (List Array) → Option ℕ → Shared) → Shared
tuple_next flag (Through point more) next = next point (least_of flag more)
tuple_next flag WantsTurn next = WantsTurn
tuple_next flag LacksPlace next = LacksPlace

-- with at most n turns of each loop within the group that is entered
module _ (code : Tables) (n : ℕ) where
  -- units at a tuple, of which the first begins at the member with this number
  abbrev pub units_shared : ℕ → List Nest → List ℤ → Point (List Array) → Shared
  units_shared number [] t point = Through point None
  units_shared number (unit ∷ units) t point =
      unit_next number (nested (ways_of code (access_at t)) n unit point)
      (λ point. units_shared (number + length (members_of unit)) units t point)

  abbrev pub tuples_shared : List Nest → List (List ℤ) → Option ℕ → Point (List Array) → Shared
  tuples_shared units [] flag point = Through point flag
  tuples_shared units (t ∷ tuples) flag point =
      tuple_next flag (units_shared 0 units t point)
      (λ point flag. tuples_shared units tuples flag point)

  abbrev pub point_of : Share → Point (List Array)
  point_of share =
      record { scalars = share.scalars; cells = share.cells; store = share.stores }

  -- by the processor's own region of the slot
  abbrev pub part_shared : List Nest → Share → ℕ → Option Region → Shared
  part_shared units share p (Some region) =
      tuples_shared units (members (own_part code p region)) share.flag (point_of share)
  part_shared units share p None = LacksPlace

  abbrev pub shared : List Nest → ℕ → Abreast → ℕ → Shared
  shared units slot all p =
      part_shared units (all.shares p) p (slice_get (all.shares p).slots slot)

  -- ---- all processors
  abbrev pub lacks : Shared → Bool
  lacks LacksPlace = true
  lacks other = false

  abbrev pub wants : Shared → Bool
  wants WantsTurn = true
  wants other = false

  abbrev pub share_behind : Share → Shared → Share
  share_behind share (Through point flag) = record share {
    scalars = point.scalars;
    cells = point.cells;
    stores = point.store;
    flag = flag;
  }
  share_behind share other = share

  -- Where one wants a further turn, so does the run; then all others must come to wait for it, and
  -- show nothing before: the group's vote is next, and no exchange is open.
  abbrev pub all_shared : (ℕ → Shared) → Bool → Abreast → Step Abreast
  all_shared shares is_vote_next all =
      if every code (λ p. not (lacks (shares p))) then
      (if every code (λ p. not (wants (shares p)))
      then Goes []
      (of_processors code all
      (record all { shares = λ p. share_behind (all.shares p) (shares p) }))
      else (if is_vote_next && is_quiet all then Stops (Ends More) else Stops Wrong))
      else Stops Wrong

  abbrev pub tree_looped : Bool → ℕ → Option Nest → Abreast → Step Abreast
  tree_looped is_vote_next slot (Some nest) all =
      all_shared (shared (units_of nest) slot all) is_vote_next all
  tree_looped is_vote_next slot None all = Stops Wrong

  abbrev pub looped : Bool → ℕ → List Member → Abreast → Step Abreast
  looped is_vote_next slot group all = tree_looped is_vote_next slot (nest_of group) all
