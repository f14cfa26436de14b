use Rattle.std.proofs.Common.{◌≡◌, ◌||◌, drop}
use Rattle.std.specs.List.{list_any}
use Rattle.zpl_tree.specs.View.{name_of}
use Rattle.name_kinds.specs.of_zpl_names.Faults.{is_flood_written}
use Rattle.site_faults.specs.Reach.{reach_of}
use Rattle.site_faults.proofs.forms.any_written_beyond.Given as goal

-- whether one so far or one of the rest is whether one of all
abbrev pub invariant-loop-name : goal.invariant-loop-name
invariant-loop-name l =
    l.any || list_any (λ name. is_flood_written (reach_of l.reach) (name_of name))
    (drop l.name-index l.names) ≡
    list_any (λ name. is_flood_written (reach_of l.reach) (name_of name)) l.names
