-- What is known in front of an instruction, and behind it.
use Rattle.std.specs.Prelude.{◌==◌, ◌&&◌, ℕ, ℤ, Bool, true, false, List, [], ◌∷◌, length, filter, map, nat_lt}
use Rattle.std.specs.List.{list_any}
use Rattle.zpl_region.specs.Region.{IsRegion}
use Rattle.zpl_region.specs.Tests.{is_within_limit}
use Rattle.node_form.specs.Control.{formed_by}
use Rattle.node_form.specs.declared.instructions.Instr.{Instr}
use Rattle.node_form.specs.declared.instructions.Instr.TheVariants as instr
use Rattle.node_form.specs.declared.instructions.SameKind.{SameKind}
use Rattle.node_form.specs.declared.tables.Tables.{Tables}
use Rattle.node_check.specs.Fact.{Fact, Agree, Border, Held, Made, Stands, Uniform}
use Rattle.node_form.specs.declared.instructions.RegionForm.{RegionForm}
use Rattle.node_check.specs.Demand.{are_held, are_none, do_agree, is_side_form, is_vector}
use Rattle.node_check.specs.Alike.{is_fact}
use Rattle.node_check.specs.Learn.{learnt, region_in, start_facts}
use Rattle.node_check.specs.Path.{open_behind}

-- a region that is told is one
abbrev pub HasRegion : Fact → Type 0
HasRegion (Stands slot region) = IsRegion region
HasRegion fact = Unit {0}

-- the exchanges that are open along some path, and facts
pub record Point : Type 0 where
  pub opened : List ℕ
  pub facts : List Fact

abbrev pub start_point : Tables → Point
start_point code = record { opened = []; facts = start_facts code }

abbrev pub behind : Tables → Point → Instr → Point
behind code point row = record {
  opened = open_behind point.opened row;
  facts = learnt code point.facts row;
}

-- the facts that others have too
abbrev pub shared_facts : List Fact → List Fact → List Fact
shared_facts mine others = filter (λ fact. list_any (is_fact fact) others) mine

abbrev pub met : Point → Point → Point
met one other = record one { facts = shared_facts one.facts other.facts }

abbrev pub has_less : Point → Point → Bool
has_less one other = nat_lt (length (met one other).facts) (length one.facts)

-- the instruction loses no fact
abbrev pub loses_none : Instr → Bool
loses_none (instr.Set scalar expr line) = false
loses_none (instr.Fix slot region) = false
loses_none (instr.Dims slot parts line) = false
loses_none (instr.Formed form slot from shift line) = false
loses_none (instr.Room array slot) = false
loses_none (instr.Loop slot group) = false
loses_none row = true

-- the fact tells of a slot that is made by the form of this one and the vector
abbrev pub makes_side : RegionForm → ℕ → List ℤ → Fact → Bool
makes_side form from shift (Made by slot other vector) =
    is_side_form by form && (other == from && is_vector vector shift)
makes_side form from shift fact = false

-- what a form makes of the region that a fact tells
abbrev pub formed_in : RegionForm → ℕ → ℕ → List ℤ → Fact → List Fact
formed_in form slot from shift fact =
    map (Stands slot) (filter is_within_limit (map (formed_by form shift) (region_in from fact)))

-- what a flood and a partial reduction demand
abbrev pub has_pair : Tables → List Fact → List ℕ → SameKind → ℕ → ℕ → ℕ → ℕ → Bool
has_pair code facts opened kind array target from source =
    are_none opened && do_agree facts kind target source
    && are_held code facts opened target (array ∷ [])
    && are_held code facts opened source (from ∷ [])
