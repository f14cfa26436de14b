use Rattle.std.proofs.Common.{◌++◌}
use Rattle.std.specs.Prelude.{filter, not}
use Rattle.std.proofs.lemmas.List.Elements.{All-append, All-filter, All-same}
use Rattle.node_check.specs.Front.{HasRegion}
use Rattle.node_check.specs.Learn.{loses}
use Rattle.node_check.proofs.makes.learnt.Goals as goal

pub returns-clause-regions : goal.returns-clause-regions
returns-clause-regions c =
    All-same HasRegion c.extend_from_slice.new.self.items
    (c.in_ok-left.left.items ++ c.as_slice-2.result.now) c.in_ok-extend_from_slice.ensures.items
    (All-append HasRegion c.in_ok-left.left.items c.as_slice-2.result.now
    (All-same HasRegion c.in_ok-left.left.items
    (filter (λ fact. not (loses c.args.tables.now c.args.row.now fact)) c.args.facts.items)
    c.in_ok-left.ensures
    (All-filter (λ fact. not (loses c.args.tables.now c.args.row.now fact)) HasRegion
    c.args.facts.items c.requires.regions))
    (All-same HasRegion c.as_slice-2.result.now c.in_ok-made.made.items c.as_slice-2.ensures.value
    c.in_ok-made.ensures.regions))
