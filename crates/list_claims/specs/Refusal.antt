-- Why a text has no code for a build, and what is told of it.
--
--   IsCodeless, IsRefusal    it has none (4)
--   IsSetWrong, IsUnbound    the grid, the settings or the declarations have a fault (5)
use Rattle.std.specs.Prelude.{ℕ, List, codes}
use Rattle.zpl_tree.specs.Syntax.{Program}
use Rattle.zpl_names.specs.Accepted.{HasTooManyNodes, HasTooManyStatements}
use Rattle.zpl_binding.specs.Outcome.{BindFault}
use Rattle.zpl_binding.specs.Bound.{HasBindFault}
use Rattle.node_form.specs.Grid.{IsGrid}
use Rattle.call_claims.specs.of_zpl_claims.Build.{Build}
use Rattle.zpl_compile.specs.Compilable.{IsCounted}
use Rattle.call_claims.specs.Accepted.{IsAccepted, IsAcceptedUnder}
use Rattle.call_claims.specs.Refusal.{IsFault}
use Rattle.call_claims.specs.Texts.{bad_shape_text, bind_name, settings_text}
use Rattle.call_claims.specs.Texts.{too_much_storage_text, whole_text}
use Rattle.list_claims.specs.Code.{HasNoProgram, IsTooMuchFor}

-- ---- a text that is to be built
-- It has no code, and this is told of it: it is faulty; or it isn't, nor are its settings, and it
-- is too much to compile.
pub data IsCodeless (text : List ℕ) (build : Build) : List ℕ → Type 0 where
  faulty : {told : List ℕ} → IsFault text told → IsCodeless text build told
  many_statements : (program : Program) → IsAcceptedUnder text build.settings program
      → HasTooManyStatements program
      → IsCodeless text build (whole_text (codes "TooManyStatements"))
  many_nodes : (program : Program) → IsAcceptedUnder text build.settings program
      → ¬ HasTooManyStatements program → HasTooManyNodes program
      → IsCodeless text build (whole_text (codes "TooManyNodes"))

-- Something is wrong with what it is built for, and this is told of it: the grid is none; or it is
-- one, the text is accepted, and its settings, or its declarations under them, have a fault; or
-- they have none, the program isn't too much to compile, and what the processors of the grid would
-- hold of its arrays is.
pub data IsSetWrong (text : List ℕ) (build : Build) : List ℕ → Type 0 where
  bad_shape : ¬ IsGrid build.grid → IsSetWrong text build bad_shape_text
  declared : (program : Program) (fault : BindFault) → IsGrid build.grid
      → IsAccepted text program → HasBindFault program build.settings fault
      → IsSetWrong text build (settings_text (bind_name fault))
  no_room : (program : Program) → IsGrid build.grid
      → IsAcceptedUnder text build.settings program → IsCounted program
      → IsTooMuchFor build program
      → IsSetWrong text build too_much_storage_text

-- The text has no program that is built so, and such a fault is told.
pub record IsUnbound (text : List ℕ) (build : Build) (told : List ℕ) : Type 0 where
  pub none : HasNoProgram text build
  pub wrong : IsSetWrong text build told

-- it has such a fault
abbrev pub HasUnbound : List ℕ → Build → Type 0
HasUnbound text build = (told : List ℕ) × IsUnbound text build told

-- The text has no program that is built so, and no fault of what it is built for is to be told.
pub record IsRefused (text : List ℕ) (build : Build) : Type 0 where
  pub none : HasNoProgram text build
  pub not_unbound : ¬ HasUnbound text build

-- it is refused so, and this is told of it
pub record IsRefusal (text : List ℕ) (build : Build) (told : List ℕ) : Type 0 where
  pub none : HasNoProgram text build
  pub not_unbound : ¬ HasUnbound text build
  pub fault : IsCodeless text build told
