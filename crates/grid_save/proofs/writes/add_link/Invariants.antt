use Rattle.std.proofs.Common.{map, take}
use Rattle.grid_links.specs.Links.{link_of}
use Rattle.grid_meaning.specs.Local.{processors}
use Rattle.grid_save.specs.Writing.{Writes}
use Rattle.grid_save.specs.Written.{message_line}
use Rattle.grid_save.proofs.writes.add_link.Given as goal

abbrev pub invariant-loop-k : goal.invariant-loop-k
invariant-loop-k l =
    let link = link_of (processors l.sim.code) l.sim.grid.world.links l.p l.q in
    Writes l.initial.text.items (map (message_line l.q) (take l.k link)) l.text.items
