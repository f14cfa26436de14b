use Rattle.std.proofs.Common.{◌≡◌, ◌∙◌, sym, ap, length, replicate, pos, rules}
use Rattle.grid_meaning.specs.of_zpl_region.Ends.{tuple_count}
use Rattle.std.proofs.lemmas.List.{length-replicate}
use Rattle.grid_meaning.proofs.of_zpl_region.EndLemmas.{length-tuple_count}
use Rattle.node_local.proofs.StoreLemmas.{boxed_steps, zeros_of}
use Rattle.node_local.proofs.stores.FlatStore.zeros.Goals as goal

pub of_box-requires-clause-filled : goal.of_box-requires-clause-filled
of_box-requires-clause-filled c =
    ap length (c.in_ok-values.ensures.items_if_clones_equal (λ y e. e)) ∙ (length-replicate _ _ ∙ search rules)

pub returns : goal.returns
returns c =
    let many = length-tuple_count c.args.shape.dims (boxed_steps c.args.shape.dims c.requires.boxed) in
    let same : c.in-Ok.many ≡ tuple_count c.args.shape.dims = search rules in
    c.of_box.ensures
    ∙ (ap (λ values. record { storage = c.args.shape; values = values })
    (c.in_ok-values.ensures.items_if_clones_equal (λ y e. e) ∙ ap (λ n. replicate n (pos 0)) (same ∙ sym many))
    ∙ sym (zeros_of c.args.shape))
