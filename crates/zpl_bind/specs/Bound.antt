-- What a program is bound to, with what is known of its declarations and the parts of its text.
use Rattle.std.specs.Prelude.{◌≡◌, List}
use Rattle.zpl_tree.specs.Syntax.{Program}
use Rattle.zpl_parts.specs.of_zpl_binding.Bound.{Binds}
use Rattle.zpl_parts.specs.of_zpl_binding.Declarations.{known_of}
use Rattle.zpl_parts.specs.of_zpl_binding.Settings.{Setting}
use Rattle.zpl_parts.specs.View.{seen}
use Rattle.zpl_parts.specs.Walk.{text_parts}
use Rattle.zpl_bind.specs.declared.lists.Bound.{Bound}
use Rattle.zpl_bind.specs.Known.{IsKnown, known_in}
use Rattle.zpl_bind.specs.Lists.{bound_of}

-- The four lists are what these settings bind the program to, what is known is what its
-- declarations come to under them, and the parts are those of its text.
pub record IsBoundBy (program : Program) (settings : List Setting) (bound : Bound) : Type 0 where
  pub lists : Binds program settings (bound_of bound)
  pub tables : IsKnown bound.known
  pub known : known_in bound.known ≡ known_of program settings
  pub parts : seen bound.parts ≡ text_parts program
