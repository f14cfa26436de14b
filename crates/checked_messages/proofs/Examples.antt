-- What an exchange wants between two processors, and rows that are wrong where their demand isn't met.
use Rattle.std.proofs.Common.{◌≡◌, ℤ, true, false, [], ◌∷◌, None, pos, negsuc, refl}
use Rattle.zpl_nums.specs.declared.folds.Fold.TheVariants as fold
use Rattle.zpl_region.specs.declared.dims.Dim.TheVariants as dim
use Rattle.zpl_region.specs.declared.regions.Region.{Region}
use Rattle.zpl_region.specs.Region.{padding}
use Rattle.node_form.specs.declared.arrays.ArrayDim.{ArrayDim}
use Rattle.node_form.specs.declared.arrays.ArrayDim.TheVariants as axis
use Rattle.node_form.specs.declared.arrays.ArrayRow.{ArrayRow}
use Rattle.node_form.specs.declared.arrays.Item.{Item}
use Rattle.node_form.specs.declared.instructions.Instr.TheVariants as instr
use Rattle.node_form.specs.declared.tables.Tables.{Tables}
use Rattle.row_runs.specs.Run.{Does, Stops, Wrong}
use Rattle.checked_rows.specs.of_plan_meaning.Abreast.{Abreast, start_abreast}
use Rattle.checked_rows.specs.of_plan_meaning.Act.{row_does}
use Rattle.checked_rows.specs.of_node_check.Demand.{is_met}
use Rattle.checked_rows.specs.of_node_check.declared.facts.Fact.TheVariants.{Held, Stands}
use Rattle.checked_messages.specs.Going.{wanted}
use Rattle.checked_messages.specs.Together.{is_together}

abbrev no_range : ArrayDim
no_range = axis.Range (pos 0) (pos 0) (pos 0) (pos 0)

-- a stored array over 1..4 with fringes of 1, and a temporary
abbrev field : ArrayRow
field = record {
  rank = 1;
  stored = true;
  dims = axis.Range (pos 1) (pos 4) (pos 1) (pos 1) ∷ no_range ∷ no_range ∷ [];
}

abbrev temporary : ArrayRow
temporary = record { rank = 1; stored = false; dims = no_range ∷ no_range ∷ no_range ∷ [] }

abbrev line : ℤ → ℤ → Region
line lo hi = record { rank = 1; dims = dim.Range lo hi (pos 1) (pos 1) ∷ padding ∷ padding ∷ [] }

abbrev beside : ℤ → Item
beside d = record { array = 0; slot = 0; shift = d ∷ pos 0 ∷ pos 0 ∷ [] }

abbrev two : Tables
two = record {
  grid = 2 ∷ 0 ∷ 0 ∷ [];
  scalars = 0;
  cells = 0;
  slots = 1 ∷ [];
  arrays = field ∷ temporary ∷ [];
  texts = [];
  exprs = [];
  groups = [];
  exchanges = (beside (negsuc 0) ∷ []) ∷ [];
  code = [];
}

-- ---- what is wanted: each processor owns two elements, and reads the one to the left
left_of_second : wanted two (line (pos 1) (pos 4) ∷ []) (beside (negsuc 0) ∷ []) 0 1 ≡ 1
left_of_second = refl

nothing_back : wanted two (line (pos 1) (pos 4) ∷ []) (beside (negsuc 0) ∷ []) 1 0 ≡ 0
nothing_back = refl

-- for a region within the first block nothing
none_within : wanted two (line (pos 1) (pos 2) ∷ []) (beside (negsuc 0) ∷ []) 0 1 ≡ 0
none_within = refl

-- ---- rows in which processors work together
gathers_are : is_together (instr.Gather false 0 0) ≡ true
gathers_are = refl

loops_are_not : is_together (instr.Loop 0 0) ≡ false
loops_are_not = refl

-- ---- a temporary without places: what is gathered of it isn't held, and the demand isn't met
abbrev all_stand : Abreast
all_stand = record (start_abreast two) {
  shares = λ p. record ((start_abreast two).shares p) { slots = line (pos 1) (pos 4) ∷ [] };
}

unmet_gather : is_met two (Stands 0 (line (pos 1) (pos 4)) ∷ []) [] (instr.Gather false 1 0) ≡ false
unmet_gather = refl

wrong_gather : row_does two None 0 (instr.Gather false 1 0) None all_stand ≡ Does (Stops Wrong)
wrong_gather = refl

-- ---- of a stored array it is met where the region is told, or its places are
met_by_region : is_met two (Stands 0 (line (pos 1) (pos 4)) ∷ []) [] (instr.Gather false 0 0) ≡ true
met_by_region = refl

met_by_place : is_met two (Held 0 0 (pos 0 ∷ pos 0 ∷ pos 0 ∷ []) ∷ []) [] (instr.Gather false 0 0)
    ≡ true
met_by_place = refl

-- ---- a vote, a fold and a finish while another exchange, or none, is open
unmet_fold : is_met two [] (0 ∷ []) (instr.Fold 0 fold.Sum) ≡ false
unmet_fold = refl

unmet_finish : is_met two [] [] (instr.Finish 0) ≡ false
unmet_finish = refl

wrong_finish : row_does two None 0 (instr.Finish 0) None all_stand ≡ Does (Stops Wrong)
wrong_finish = refl
