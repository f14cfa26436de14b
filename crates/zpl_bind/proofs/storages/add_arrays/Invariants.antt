use Rattle.std.proofs.Common.{◌≡◌, ◌++◌, drop, map}
use Rattle.zpl_tree.specs.View.{inner_of, name_of}
use Rattle.zpl_tree.specs.Syntax.{Bracketed}
use Rattle.zpl_parts.specs.of_zpl_binding.Outcome.{Gives}
use Rattle.zpl_parts.specs.of_zpl_binding.Storages.{shaped_over}
use Rattle.zpl_bind.specs.Known.{known_in}
use Rattle.zpl_bind.specs.Storages.{borders_in, storages_over}
use Rattle.zpl_bind.proofs.storages.add_arrays.Given as goal

abbrev pub invariant-loop-name : goal.invariant-loop-name
invariant-loop-name l =
    map Gives l.into.items ++ storages_over (known_in l.known) (borders_in l.borders)
    (shaped_over (map name_of (drop l._name-index l.names)) (Bracketed (inner_of l.inner)))
    ≡ map Gives l.initial.into.items ++ storages_over (known_in l.known) (borders_in l.borders)
    (shaped_over (map name_of l.names) (Bracketed (inner_of l.inner)))
