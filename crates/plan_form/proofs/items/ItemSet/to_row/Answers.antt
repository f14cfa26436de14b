use Rattle.std.proofs.Common.{◌≡◌, ◌∙◌, ap, rules, sym, take, ◌++◌, [], ◌∷◌, Some, List, ℕ, ◌+◌}
use Rattle.std.specs.Prelude.{slice_get}
use Rattle.flat_passes.specs.of_node_form.declared.arrays.Item.{Item}
use Rattle.plan_form.proofs.ItemLemmas.{taken_more}
use Rattle.plan_form.proofs.items.ItemSet.to_row.Goals as goal

pushed : (all items pushed : List Item) (k : ℕ) (item : Item) → slice_get all k ≡ Some item
    → items ≡ take k all → pushed ≡ items ++ item ∷ [] → pushed ≡ take (k + 1) all
pushed all items more k item there is added =
    added ∙ (ap (λ l. l ++ item ∷ []) is ∙ sym (taken_more all k item there))

pub loop-i-preserved : goal.loop-i-preserved
loop-i-preserved c =
    pushed c.args.self.now c.loop-i.items.items _ c.loop-i.i c.unwrap.result (search rules)
    c.loop-i.invariant c.in_ok-push.ensures.items
