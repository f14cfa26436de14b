-- The text that is told where a file holds no saved grid, as one piece.
use Rattle.std.specs.Prelude.{ℕ, List, ◌++◌, codes}
use Rattle.std.specs.Fmt.{decimal}
use Rattle.saved_runs.specs.of_grid_save.declared.faults.SaveFault.{SaveFault}
use Rattle.saved_runs.specs.of_grid_save.declared.faults.SaveFault.TheVariants as fault
use Rattle.exec_claims.specs.of_call_claims.Texts.{no_memory_text}

-- a fault by its name, at a line
abbrev pub save_refused_text : List ℕ → ℕ → List ℕ
save_refused_text name line =
    codes "save refused: " ++ (name ++ (codes ", line " ++ (decimal line ++ codes "\n")))

abbrev pub fault_text : SaveFault → List ℕ
fault_text (fault.BadLine line) = save_refused_text (codes "BadLine") line
fault_text (fault.BadTable line) = save_refused_text (codes "BadTable") line
fault_text (fault.BadState line) = save_refused_text (codes "BadState") line
fault_text fault.NoMemory = no_memory_text
