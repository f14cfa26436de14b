use Rattle.std.proofs.Common.{◌≡◌, length, replicate, pos, ap, sym, ◌∙◌, rules}
use Rattle.std.proofs.lemmas.List.{with_items_is}
use Rattle.grid_meaning.specs.of_zpl_arrays.Array.{Array}
use Rattle.grid_meaning.proofs.of_zpl_region.EndLemmas.{length-tuple_count}
use Rattle.grid_meaning.specs.Room.{zeros_at}
use Rattle.node_local.proofs.StoreLemmas.{boxed_steps, zeros_of}
use Rattle.node_local.proofs.stores.FlatStore.clear.Goals as goal

pub returns : goal.returns
returns c =
    let shape = c.self.inside.shape in
    let many = length-tuple_count shape.dims (boxed_steps shape.dims c.self.invariant.boxed) in
    let whole : length c.clear.new.values ≡ c.self.inside.values.len = search rules in
    ap (λ values. record { storage = shape; values = values })
    (with_items_is c.self.inside.values c.clear.new.values whole
    ∙ (c.clear.ensures
    ∙ ap (λ n. replicate n (pos 0)) (ap length c.as_mut_slice.ensures.value ∙ (c.self.invariant.filled ∙ sym many))))
    ∙ (sym (zeros_of shape) ∙ ap (λ (a : Array). zeros_at a.storage) c.self.view_is)
