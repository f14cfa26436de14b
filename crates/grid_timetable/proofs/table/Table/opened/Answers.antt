use Rattle.std.proofs.Common.{sym, ◌∙◌, ap}
use Rattle.std.specs.Option.{option_copied}
use Rattle.grid_timetable.proofs.table.Table.opened.Goals as goal

pub late-requires-clause-cause : goal.late-requires-clause-cause
late-requires-clause-cause c =
    c.requires.cause c.in_ok-from.from _ c.in_ok-from.was (sym c.head.ensures ∙ ap option_copied c.in_ok-cause.was)
