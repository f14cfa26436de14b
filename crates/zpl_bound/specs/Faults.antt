-- Which faults of settings and declarations an answer tells.
use Rattle.std.specs.Prelude.{List, MatchOption}
use Rattle.zpl_tree.specs.Syntax.{Program}
use Rattle.zpl_binding.specs.Settings.{Setting}
use Rattle.zpl_binding.specs.Bound.{HasBindFault}
use Rattle.zpl_bind.specs.declared.faults.BindFault.{BindFault}
use Rattle.zpl_bind.specs.Fault.{fault_of}

-- the fault holds, or memory was wanting
abbrev pub Holds : Program → List Setting → BindFault → Type 0
Holds program settings fault =
    MatchOption (fault_of fault) (Unit {0}) (HasBindFault program settings)
