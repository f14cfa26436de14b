use Rattle.std.proofs.Common.{◌≡◌, ap, ◌∙◌, sym, ◌++◌, ◌∷◌, [], map, take, rules}
use Rattle.grid_meaning.specs.Stored.{no_places}
use Rattle.std.specs.Prelude.{Some, slice_get}
use Rattle.node_local.proofs.StartLemmas.{map_take_more}
use Rattle.node_local.proofs.starts.start_slots.Goals as goal

pub loop-i-preserved : goal.loop-i-preserved
loop-i-preserved c =
    let found : slice_get c.args.code.now.slots c.loop-i.i ≡ Some c.unwrap.result.now = search rules in
    c.in_ok-push.ensures.items
    ∙ (ap (λ xs. xs ++ c.no_places.result ∷ []) c.loop-i.invariant
    ∙ (ap (λ x. map no_places (take c.loop-i.i c.args.code.now.slots) ++ x ∷ []) c.no_places.ensures.places
    ∙ sym (map_take_more no_places c.args.code.now.slots c.loop-i.i c.unwrap.result.now found)))
