-- Programs that can be compiled for a build, and their code.
use Rattle.std.specs.Prelude.{◌≡◌}
use Rattle.zpl_tree.specs.Syntax.{Program}
use Rattle.zpl_names.specs.Accepted.{HasTooManyNodes, HasTooManyStatements}
use Rattle.node_form.specs.declared.tables.Tables.{Tables}
use Rattle.code_layout.specs.Room.{HasRoom}
use Rattle.zpl_claims.specs.Build.{Build}
use Rattle.zpl_compile.specs.Compile.{compiled}

-- It is not too much to compile.
pub record IsCounted (program : Program) : Type 0 where
  pub statements : ¬ HasTooManyStatements program
  pub nodes : ¬ HasTooManyNodes program

-- Nor is it too much for the grid, which has room for its arrays.
pub record IsCompilable (build : Build) (program : Program) : Type 0 where
  pub counted : IsCounted program
  pub room : HasRoom (compiled build program)

-- The code is what the program is compiled to.
pub record IsCompiledTo (build : Build) (program : Program) (code : Tables) : Type 0 where
  pub can : IsCompilable build program
  pub is : code ≡ compiled build program
