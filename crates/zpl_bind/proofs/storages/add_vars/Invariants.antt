use Rattle.std.proofs.Common.{◌≡◌, ◌++◌, drop, map}
use Rattle.std.specs.List.{flat_map}
use Rattle.zpl_tree.specs.View.{var_of}
use Rattle.zpl_parts.specs.of_zpl_binding.Outcome.{Gives}
use Rattle.zpl_parts.specs.of_zpl_binding.Storages.{shaped_by}
use Rattle.zpl_bind.specs.Known.{known_in}
use Rattle.zpl_bind.specs.Storages.{borders_in, storages_over}
use Rattle.zpl_bind.proofs.storages.add_vars.Given as goal

abbrev pub invariant-loop-var : goal.invariant-loop-var
invariant-loop-var l =
    map Gives l.into.items ++ storages_over (known_in l.known) (borders_in l.borders)
    (flat_map shaped_by (map var_of (drop l.var-index l.vars)))
    ≡ map Gives l.initial.into.items ++ storages_over (known_in l.known) (borders_in l.borders)
    (flat_map shaped_by (map var_of l.vars))
