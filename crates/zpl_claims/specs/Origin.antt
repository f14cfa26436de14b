-- What code is made of.
use Rattle.std.specs.Prelude.{ℕ, List}
use Rattle.zpl_meaning.specs.of_zpl_tree.Syntax.{Program}
use Rattle.zpl_meaning.specs.of_zpl_binding.Declarations.{known_of}
use Rattle.zpl_meaning.specs.Program.{Meaning, mean_of, steps_of}
use Rattle.grid_meaning.specs.of_grid_layout.declared.boxes.ArrayBox.{ArrayBox}
use Rattle.zpl_claims.specs.Build.{Build}
use Rattle.zpl_claims.specs.Boxes.{boxes_of}

-- A build, a program whose text has so many tokens, the arrays that code of it stores, and its
-- meaning and the steps of that as functions of the bound on loops.
pub record Origin : Type 0 where
  pub build : Build
  pub program : Program
  pub tokens : ℕ
  pub boxes : List ArrayBox
  pub mean : ℕ → Meaning
  pub steps : ℕ → ℕ

-- that of a program's text with so many tokens, under the settings of a build
abbrev pub origin_of : Build → Program → ℕ → Origin
origin_of build program tokens = record {
  build = build;
  program = program;
  tokens = tokens;
  boxes = boxes_of program (known_of program build.settings);
  mean = mean_of program build.settings;
  steps = steps_of program build.settings;
}
