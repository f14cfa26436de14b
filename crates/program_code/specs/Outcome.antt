-- What code is built for, and why a program isn't compiled.
use Rattle.std.specs.Prelude.{List, ⊤}
use Rattle.zpl_tree.specs.Syntax.{Program}
use Rattle.zpl_names.specs.Accepted.{HasTooManyNodes, HasTooManyStatements}
use Rattle.zpl_binding.specs.Settings.{Setting}
use Rattle.code_layout.specs.Room.{HasRoom}
use Rattle.flat_code.specs.declared.builds.Build.{Build}
use Rattle.zpl_claims.specs.Build as claims
use Rattle.zpl_compile.specs.Compilable.{IsCounted}
use Rattle.zpl_compile.specs.Compile.{compiled}
use Rattle.program_code.specs.declared.faults.CompileFault.{CompileFault}
use Rattle.program_code.specs.declared.faults.CompileFault.TheVariants as fault

-- what code is built for under these settings
abbrev pub build_with : Build → List Setting → claims.Build
build_with build settings = record {
  grid = build.grid;
  options = build.options;
  links = build.links;
  settings = settings;
}

-- Why there is no code: the program is too much, or the grid has no room for its arrays; or memory
-- was wanting.
abbrev pub IsUncompiled : claims.Build → Program → CompileFault → Type 0
IsUncompiled build program fault.TooManyStatements = HasTooManyStatements program
IsUncompiled build program fault.TooManyNodes =
    (¬ HasTooManyStatements program) × HasTooManyNodes program
IsUncompiled build program fault.TooMuchStorage =
    IsCounted program × (¬ HasRoom (compiled build program))
IsUncompiled build program fault.NoMemory = ⊤
