-- The faults of the parts as those of the whole.
use Rattle.flat_code.specs.declared.faults.FlatFault.{FlatFault}
use Rattle.flat_code.specs.declared.faults.FlatFault.TheVariants as flat
use Rattle.zpl_lower.specs.declared.faults.LowerFault.{LowerFault}
use Rattle.zpl_lower.specs.declared.faults.LowerFault.TheVariants as lowering
use Rattle.program_code.specs.declared.faults.CompileFault.{CompileFault}
use Rattle.program_code.specs.declared.faults.CompileFault.TheVariants.{NoMemory, TooManyNodes}
use Rattle.program_code.specs.declared.faults.CompileFault.TheVariants.{TooManyStatements}
use Rattle.program_code.specs.declared.faults.CompileFault.TheVariants.{TooMuchStorage}

abbrev pub of_lowering : LowerFault → CompileFault
of_lowering lowering.TooManyStatements = TooManyStatements
of_lowering lowering.TooManyNodes = TooManyNodes
of_lowering lowering.NoMemory = NoMemory

abbrev pub of_flat : FlatFault → CompileFault
of_flat flat.TooMuchStorage = TooMuchStorage
of_flat flat.NoMemory = NoMemory
