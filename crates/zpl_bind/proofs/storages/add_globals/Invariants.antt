use Rattle.std.proofs.Common.{◌≡◌, ◌++◌, drop, map}
use Rattle.std.specs.List.{flat_map}
use Rattle.zpl_tree.specs.View.{decl_of}
use Rattle.zpl_parts.specs.of_zpl_binding.Outcome.{Gives}
use Rattle.zpl_parts.specs.of_zpl_binding.Storages.{shaped_in}
use Rattle.zpl_bind.specs.Known.{known_in}
use Rattle.zpl_bind.specs.Storages.{borders_in, storages_over}
use Rattle.zpl_bind.proofs.storages.add_globals.Given as goal

abbrev pub invariant-loop-decl : goal.invariant-loop-decl
invariant-loop-decl l =
    map Gives l.into.items ++ storages_over (known_in l.known) (borders_in l.borders)
    (flat_map shaped_in (map decl_of (drop l.decl-index l.decls)))
    ≡ map Gives l.initial.into.items ++ storages_over (known_in l.known) (borders_in l.borders)
    (flat_map shaped_in (map decl_of l.decls))
