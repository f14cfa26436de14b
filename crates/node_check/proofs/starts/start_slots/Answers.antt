use Rattle.std.proofs.Common.{◌≡◌, ◌∙◌, ap, ◌+◌, ◌++◌, ◌∷◌, [], List, Some, rules, append_assoc, drop, subst}
use Rattle.std.specs.Prelude.{slice_get}
use Rattle.std.proofs.lemmas.List.Elements.{All-push, All-same}
use Rattle.node_check.specs.Fact.{Fact, Stands}
use Rattle.node_check.specs.Front.{HasRegion}
use Rattle.node_check.specs.Learn.{start_slots}
use Rattle.node_check.proofs.CodeLemmas.{start_step}
use Rattle.node_check.proofs.starts.start_slots.Goals as goal

pub loop-i-preserved : goal.loop-i-preserved
loop-i-preserved c =
    let here : slice_get c.args.tables.now.slots c.loop-i.i ≡ Some c.unwrap-rank.result.now =
    search rules in
    let rest = start_slots (c.loop-i.i + 1) (drop (c.loop-i.i + 1) c.args.tables.now.slots) in
    record {
      facts =
          ap (λ (facts : List Fact). facts ++ rest) c.in_ok-push.ensures.items
          ∙ (append_assoc c.loop-i.facts.items
          (Stands c.loop-i.i c.no_places-region.result ∷ []) rest
          ∙ (ap (λ region. c.loop-i.facts.items ++ Stands c.loop-i.i region ∷ rest)
          c.no_places-region.ensures.places
          ∙ (ap (λ facts. c.loop-i.facts.items ++ facts)
          (start_step c.args.tables.now.slots c.loop-i.i c.unwrap-rank.result.now here)
          ∙ c.loop-i.invariant.facts)));
      regions =
          All-same HasRegion c.push.new.self.items
          (c.loop-i.facts.items ++ Stands c.loop-i.i c.no_places-region.result ∷ [])
          c.in_ok-push.ensures.items
          (All-push HasRegion c.loop-i.facts.items
          (Stands c.loop-i.i c.no_places-region.result) c.loop-i.invariant.regions
          c.no_places-region.ensures.region);
    }
