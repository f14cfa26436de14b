use Rattle.std.proofs.Common.{◌∙◌, ap, ◌++◌, ◌∷◌, [], List}
use Rattle.std.proofs.lemmas.List.Elements.{All-push, All-same}
use Rattle.node_check.specs.Fact.{Fact, Uniform}
use Rattle.node_check.specs.Front.{HasRegion}
use Rattle.node_check.proofs.CodeLemmas.{range_more}
use Rattle.node_check.proofs.starts.start_scalars.Goals as goal

pub loop-scalar-preserved : goal.loop-scalar-preserved
loop-scalar-preserved c = record {
  facts =
      c.in_ok-push.ensures.items
      ∙ (ap (λ (facts : List Fact). facts ++ Uniform c.loop-scalar.scalar ∷ [])
      c.loop-scalar.invariant.facts ∙ range_more c.loop-scalar.scalar);
  regions =
      All-same HasRegion c.push.new.self.items
      (c.loop-scalar.facts.items ++ Uniform c.loop-scalar.scalar ∷ []) c.in_ok-push.ensures.items
      (All-push HasRegion c.loop-scalar.facts.items (Uniform c.loop-scalar.scalar)
      c.loop-scalar.invariant.regions tt);
}
