use Rattle.std.proofs.Common.{sym, ◌∙◌}
use Rattle.zpl_tree.specs.View.{base_of}
use Rattle.zpl_bind.specs.Known.{known_in}
use Rattle.lower_places.specs.View.{slotted_of}
use Rattle.lower_regions.proofs.EdgeLemmas.{edge_behind}
use Rattle.lower_regions.proofs.prefixes.rexpr_edge.Goals as goal

pub returns-then-not-is_empty : goal.returns-then-not-is_empty
returns-then-not-is_empty c =
    sym (edge_behind (known_in c.args.place.now.setup.now.known.now)
    (slotted_of c.args.current.now) c.args.pre.now (base_of c.args.base.now) c.args.post.now
    (sym c.is_empty.ensures ∙ c.if-not-is_empty.true))
