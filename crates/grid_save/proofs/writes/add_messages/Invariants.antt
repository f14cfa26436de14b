use Rattle.std.proofs.Common.{◌≤◌, ℕ, map}
use Rattle.std.specs.List.{flat_map, range_with_len}
use Rattle.grid_links.specs.Links.{link_of}
use Rattle.grid_meaning.specs.Local.{processors}
use Rattle.grid_save.specs.Writing.{Writes}
use Rattle.grid_save.specs.Written.{message_line}
use Rattle.grid_save.proofs.writes.add_messages.Given as goal

abbrev pub invariant-loop-q : goal.invariant-loop-q
invariant-loop-q l =
    let f = λ (to : ℕ). map (message_line to) (link_of (processors l.sim.code) l.sim.grid.world.links l.p to) in
    (l.q ≤ processors l.sim.code) × Writes l.initial.text.items (flat_map f (range_with_len 0 l.q)) l.text.items
