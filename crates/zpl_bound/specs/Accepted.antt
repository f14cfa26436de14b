-- What a program is bound to by settings that it accepts.
use Rattle.std.specs.Prelude.{List}
use Rattle.zpl_tree.specs.Syntax.{Program}
use Rattle.zpl_binding.specs.Settings.{Setting}
use Rattle.zpl_binding.specs.Bound.{IsAcceptedWith}
use Rattle.zpl_bind.specs.Bound.{IsBoundBy}
use Rattle.zpl_bind.specs.declared.lists.Bound.{Bound}

-- some settings that the program accepts bind it to this
pub record IsBound (program : Program) (bound : Bound) : Type 0 where
  pub settings : List Setting
  pub accepted : IsAcceptedWith program settings
  pub binds : IsBoundBy program settings bound
