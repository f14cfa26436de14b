use Rattle.std.proofs.Common.{◌≡◌, ◌≤◌, drop, length, take}
use Rattle.node_form.specs.declared.tables.Tables.{Tables}
use Rattle.grid_meaning.specs.Collective.{others}
use Rattle.grid_meaning.specs.Local.{processors}
use Rattle.row_progress.specs.Kept.{is_part}
use Rattle.row_progress.specs.May.{froms_of}
use Rattle.row_progress.proofs.requests.are_some_others.Given as goal

abbrev pub invariant-loop-i : goal.invariant-loop-i
invariant-loop-i l =
    (l.found ≤ length l.kept)
    × ((code : Tables) → processors code ≡ l.count
    → is_part (drop l.found (froms_of l.kept)) (drop l.i (take l.first (others code l.p))) ≡ is_part (froms_of l.kept) (take l.first (others code l.p)))
