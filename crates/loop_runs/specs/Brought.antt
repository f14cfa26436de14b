-- What a loop reads with a shift, behind the exchanges in front of it.
--
--   HasOwnersValue   a processor has at a place what its owner and the whole array have there
--   BroughtNeeds     so it is at all places that the own parts of processors read with a shift
--   BringsNeeds      and from all states of which one holds the other
use Rattle.std.specs.Prelude.{◌≡◌, ◌⊎◌, ℕ, ◌<◌, true, ℤ, List, [], map, Option, Some, slice_get}
use Rattle.std.specs.List.{flat_map}
use Rattle.zpl_region.specs.declared.regions.Region.{Region}
use Rattle.zpl_region.specs.Region.{IsMember}
use Rattle.node_form.specs.declared.arrays.ArrayRow.{ArrayRow}
use Rattle.node_form.specs.declared.arrays.Item.{Item}
use Rattle.node_form.specs.declared.instructions.Instr.TheVariants as instr
use Rattle.node_form.specs.declared.tables.Tables.{Tables}
use Rattle.row_runs.specs.Run.{Does, Stops, Wrong}
use Rattle.row_runs.specs.Straight.{Every, Flow, OnTo, through}
use Rattle.grid_meaning.specs.Local.{processors}
use Rattle.grid_meaning.specs.Place.{moved_by, own_part, value_at}
use Rattle.flat_form.specs.Act.{act}
use Rattle.flat_form.specs.Row.{inlined}
use Rattle.flat_form.specs.Whole.{Whole}
use Rattle.plan_form.specs.Units.{unit_rows}
use Rattle.comm_needs.specs.Needs.{needed_alone, needs_of}
use Rattle.needs_runs.specs.of_plan_meaning.Abreast.{Abreast}
use Rattle.needs_runs.specs.Holds.{Holds, lies_in_own}
use Rattle.needs_runs.specs.Planned.{planned_does}

-- The owner of a place is the processor in whose own block it lies.
pub record HasOwnersValue (code : Tables) (whole : Whole) (all : Abreast) (p array : ℕ)
    (place : List ℤ) : Type 0 where
  pub value : ℤ
  pub whole_has : value_at whole.stores array place ≡ Some value
  pub has : value_at (all.shares p).stores array place ≡ Some value
  pub owner_has : (row : ArrayRow) → slice_get code.arrays array ≡ Some row → (q : ℕ)
      → q < processors code → lies_in_own code q row place ≡ true
      → value_at (all.shares q).stores array place ≡ Some value

module _ (code : Tables) (links : Option ℕ) (n slot group : ℕ) where
  -- what the exchanges that the plan has in front of the loop come to
  abbrev pub before_loop : Abreast → Flow Abreast
  before_loop all =
      through (planned_does code links n)
      (flat_map unit_rows (map needed_alone (needs_of code slot group))) all

  -- They go on, and each processor has its owner's value at each place that its own part reads
  -- with a shift. The items are those of all such reads of the group's members.
  pub record BroughtNeeds (whole : Whole) (all : Abreast) : Type 0 where
    pub next : Abreast
    pub goes : before_loop all ≡ OnTo [] next
    pub holds : Holds code whole next
    pub region : Region
    pub in_slot : slice_get whole.slots slot ≡ Some region
    pub has : Every (λ (item : Item).
        (p : ℕ) → p < processors code → (t : List ℤ) → IsMember (own_part code p region) t
        → HasOwnersValue code whole next p item.array (moved_by item.shift t)) (needs_of code slot group)

  -- unless the flat loop may not stand there
  abbrev pub BringsNeeds : Type 0
  BringsNeeds =
      (whole : Whole) (all : Abreast) → Holds code whole all
      → (act code n (inlined code (instr.Loop slot group)) whole ≡ Does (Stops Wrong))
      ⊎ BroughtNeeds whole all
