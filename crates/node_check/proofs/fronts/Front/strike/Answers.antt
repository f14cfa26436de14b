use Rattle.std.proofs.Common.{rules}
use Rattle.std.specs.Prelude.{filter, not}
use Rattle.std.proofs.lemmas.Fn.{filter_same}
use Rattle.std.proofs.lemmas.List.Elements.{All-filter, All-same}
use Rattle.node_check.specs.Front.{HasRegion}
use Rattle.node_check.specs.Strike.{is_lost}
use Rattle.node_check.proofs.StrikeLemmas.{left_same}
use Rattle.node_check.proofs.fronts.Front.strike.Goals as goal

pub invariant_of-self : goal.invariant_of-self
invariant_of-self c =
    All-same HasRegion c.retain.new.self.items
    (filter (λ fact. not (is_lost c.args.lost.now fact)) c.self.inside.facts.items)
    (filter_same _ (λ fact. not (is_lost c.args.lost.now fact)) _ (λ x b f' k. search rules) _ _
    c.retain.ensures.filtered)
    (All-filter (λ fact. not (is_lost c.args.lost.now fact)) HasRegion c.self.inside.facts.items
    c.self.invariant)

pub returns : goal.returns
returns c =
    left_same c.args.lost.now c.self.inside.opened.items c.self.inside.facts.items
    c.retain.new.self.items c.args.self.now
    (filter_same _ (λ fact. not (is_lost c.args.lost.now fact)) _ (λ x b f' k. search rules) _ _
    c.retain.ensures.filtered)
    c.self.view_is
