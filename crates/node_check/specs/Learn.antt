-- Facts at the start, and what an instruction makes of the facts in front of it.
use Rattle.std.specs.Prelude.{ℕ, ◌+◌, ◌==◌, Bool, true, false, not, ◌&&◌, ◌||◌, List, [], ◌∷◌}
use Rattle.std.specs.Prelude.{◌++◌, filter, flat_map, if◌then◌else◌, map}
use Rattle.std.specs.List.{list_all, list_any, range_with_len}
use Rattle.zpl_region.specs.declared.regions.Region.{Region}
use Rattle.zpl_region.specs.Tests.{is_within_limit}
use Rattle.node_form.specs.declared.instructions.Instr.{Instr}
use Rattle.node_form.specs.declared.instructions.Instr.TheVariants as instr
use Rattle.node_form.specs.declared.instructions.RegionForm.{RegionForm}
use Rattle.node_form.specs.declared.instructions.RegionForm.TheVariants as form
use Rattle.node_form.specs.declared.tables.Tables.{Tables}
use Rattle.node_form.specs.Control.{formed_by}
use Rattle.node_form.specs.Value.{unmoved}
use Rattle.code_parts.specs.Uses.{accumulated, scalars_in, words_of, written_slots}
use Rattle.grid_meaning.specs.Stored.{no_places}
use Rattle.node_check.specs.Fact.{Fact, Agree, Border, Held, Made, Stands, Uniform}

-- a number stands among others
abbrev pub is_among : List ℕ → ℕ → Bool
is_among numbers number = list_any (λ other. other == number) numbers

-- ---- at the start all scalars are 0, and slots are without tuples
abbrev pub start_slots : ℕ → List ℕ → List Fact
start_slots slot [] = []
start_slots slot (rank ∷ ranks) = Stands slot (no_places rank) ∷ start_slots (slot + 1) ranks

abbrev pub start_facts : Tables → List Fact
start_facts code = map Uniform (range_with_len 0 code.scalars) ++ start_slots 0 code.slots

-- ---- what facts tell
abbrev pub tells_uniform : ℕ → Fact → Bool
tells_uniform scalar (Uniform other) = other == scalar
tells_uniform scalar fact = false

-- all scalars of the expression are uniform
abbrev pub is_uniform : Tables → List Fact → ℕ → Bool
is_uniform code facts expr =
    list_all (λ scalar. list_any (tells_uniform scalar) facts)
    (flat_map scalars_in (words_of code expr))

-- the region of the slot, where it is told
abbrev pub region_in : ℕ → Fact → List Region
region_in slot (Stands other region) = if other == slot then region ∷ [] else []
region_in slot fact = []

abbrev pub regions_of : List Fact → ℕ → List Region
regions_of facts slot = flat_map (region_in slot) facts

-- ---- what an instruction makes
abbrev pub made_where : Bool → Fact → List Fact
made_where true fact = fact ∷ []
made_where false fact = []

-- by these forms a slot is known as the target or the source of a border
abbrev pub is_side : RegionForm → Bool
is_side form.Of = true
is_side form.Inside = true
is_side form.At = false
is_side form.By = false

abbrev pub made : Tables → List Fact → Instr → List Fact
made code facts (instr.Set scalar expr line) = made_where (is_uniform code facts expr) (Uniform scalar)
made code facts (instr.Fold scalar fold) = Uniform scalar ∷ []
made code facts (instr.TreeFold scalar fold) = Uniform scalar ∷ []
made code facts (instr.Fix slot region) = Stands slot region ∷ []
made code facts (instr.Formed form slot from shift line) =
    map (Stands slot) (filter is_within_limit (map (formed_by form shift) (regions_of facts from)))
    ++ made_where (is_side form && not (slot == from)) (Made form slot from shift)
made code facts (instr.Need slot array shift line) = Held slot array shift ∷ []
made code facts (instr.Room array slot) = Held slot array unmoved ∷ []
made code facts (instr.Same target source kind line) = Agree target source kind ∷ []
made code facts (instr.Fits slot shift line) = Border slot shift ∷ []
made code facts row = []

-- ---- what it loses: what is told of scalars that it sets or accumulates, of slots that it writes,
-- and of the places of an array that it makes anew
abbrev pub changed_scalars : Tables → Instr → List ℕ
changed_scalars code (instr.Set scalar expr line) = scalar ∷ []
changed_scalars code (instr.Loop slot group) = accumulated code group
changed_scalars code row = []

abbrev pub roomed_arrays : Instr → List ℕ
roomed_arrays (instr.Room array slot) = array ∷ []
roomed_arrays row = []

abbrev pub loses : Tables → Instr → Fact → Bool
loses code row (Uniform scalar) = is_among (changed_scalars code row) scalar
loses code row (Stands slot region) = is_among (written_slots row) slot
loses code row (Made form slot from shift) =
    is_among (written_slots row) slot || is_among (written_slots row) from
loses code row (Held slot array shift) =
    is_among (written_slots row) slot || is_among (roomed_arrays row) array
loses code row (Agree target source kind) =
    is_among (written_slots row) target || is_among (written_slots row) source
loses code row (Border slot shift) = is_among (written_slots row) slot

-- ---- behind the instruction: it loses before it makes, and sees the facts before it
abbrev pub learnt : Tables → List Fact → Instr → List Fact
learnt code facts row = filter (λ fact. not (loses code row fact)) facts ++ made code facts row
