-- The texts that have code for a build, and the code that is made of them.
--
--   IsTooMuchFor      a program's arrays are too much for the grid
--   IsAcceptedFor     a text is accepted, and can be built so
--   IsCodeOf          code is what its program is compiled to, and all is claimed of it
--   HasNoProgram      it can't be built so
use Rattle.std.specs.Prelude.{◌≡◌, List, length, ℕ}
use Rattle.zpl_tree.specs.Syntax.{Program}
use Rattle.zpl_binding.specs.Declarations.{known_of}
use Rattle.node_form.specs.Grid.{IsGrid}
use Rattle.node_form.specs.declared.tables.Tables.{Tables}
use Rattle.call_claims.specs.of_zpl_claims.Boxes.{HasTooMuchStorage, boxes_of}
use Rattle.call_claims.specs.of_zpl_claims.Build.{Build}
use Rattle.call_claims.specs.of_zpl_claims.Compiled.{IsCompiled}
use Rattle.call_claims.specs.of_zpl_claims.Origin.{Origin, origin_of}
use Rattle.zpl_compile.specs.Compilable.{IsCounted}
use Rattle.zpl_compile.specs.Compile.{compiled}
use Rattle.call_claims.specs.Accepted.{IsAcceptedUnder}

-- What the processors of the build's grid would hold of the program's arrays is too much.
abbrev pub IsTooMuchFor : Build → Program → Type 0
IsTooMuchFor build program =
    HasTooMuchStorage build.grid (boxes_of program (known_of program build.settings))

-- The text is accepted with the settings of the build, the grid is one, the program isn't too much to
-- compile, nor are its arrays for the grid.
pub record IsAcceptedFor (text : List ℕ) (build : Build) (program : Program) : Type 0 where
  pub under : IsAcceptedUnder text build.settings program
  pub grid : IsGrid build.grid
  pub counted : IsCounted program
  pub room : ¬ IsTooMuchFor build program

-- what code of it is made of: the program, whose text has so many tokens
abbrev pub origin_for : {text : List ℕ} {build : Build} {program : Program}
    → IsAcceptedFor text build program → Origin
origin_for {build = build} {program = program} accepted =
    origin_of build program (length accepted.under.accepted.tokens)

-- The text has such a program, the code is what it is compiled to, and all that is claimed of code
-- holds of it.
pub record IsCodeOf (text : List ℕ) (build : Build) (code : Tables) : Type 0 where
  pub program : Program
  pub accepted : IsAcceptedFor text build program
  pub is : code ≡ compiled build program
  pub right : IsCompiled (origin_for accepted) code

-- The text has no program of which code is made for this build.
abbrev pub HasNoProgram : List ℕ → Build → Type 0
HasNoProgram text build = (program : Program) → ¬ IsAcceptedFor text build program
