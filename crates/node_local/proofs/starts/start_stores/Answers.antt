use Rattle.std.proofs.Common.{◌≡◌, ◌<◌, ap, ◌∙◌, sym, subst, ◌++◌, ◌∷◌, [], All, map, take, pos, rules}
use Rattle.std.specs.Prelude.{Some, slice_get}
use Rattle.grid_meaning.specs.of_node_form.declared.arrays.ArrayRow.{ArrayRow}
use Rattle.grid_meaning.specs.of_zpl_arrays.Array.{array_of}
use Rattle.grid_meaning.specs.of_grid_layout.Grid.{processors_of}
use Rattle.grid_meaning.specs.of_grid_layout.Layout.{Arrangement, IsArrayBox, laid_out}
use Rattle.grid_meaning.specs.Local.{start_places}
use Rattle.grid_meaning.specs.Stored.{arrangement_of}
use Rattle.grid_meaning.proofs.WorldLemmas.{processors_alike}
use Rattle.node_local.proofs.StartLemmas.{box_stored, map_take_more}
use Rattle.node_local.proofs.starts.start_stores.Goals as goal

pub start_store-requires-clause-array : goal.start_store-requires-clause-array
start_store-requires-clause-array c stored =
    let found : slice_get c.args.code.now.arrays c.loop-i.i ≡ Some c.unwrap.result.now = search rules in
    box_stored IsArrayBox c.args.code.now.arrays c.loop-i.i c.unwrap.result.now
    (subst (λ (a : Arrangement). All IsArrayBox a.boxes) c.requires.layout c.blocks-blocks.ensures.boxes) found stored

pub start_store-requires-clause-processor : goal.start_store-requires-clause-processor
start_store-requires-clause-processor c =
    subst (λ (a : Arrangement). c.args.p < processors_of a.grid) (sym c.requires.layout)
    (subst (λ n. c.args.p < n) (processors_alike c.args.code.now.grid) c.requires.processor)

pub loop-i-preserved : goal.loop-i-preserved
loop-i-preserved c =
    let found : slice_get c.args.code.now.arrays c.loop-i.i ≡ Some c.unwrap.result.now = search rules in
    let start = λ (a : Arrangement) (row : ArrayRow). array_of (start_places (laid_out a) c.args.p row row.stored) (λ t. pos 0) in
    let rows = take c.loop-i.i c.args.code.now.arrays in
    c.in_ok-push.ensures.items
    ∙ (ap (λ xs. xs ++ c.in_ok-store.store ∷ []) c.loop-i.invariant
    ∙ (ap (λ x. map (start (arrangement_of c.args.code.now)) rows ++ x ∷ [])
    (c.in_ok-store.ensures ∙ ap (λ a. start a c.unwrap.result.now) c.requires.layout)
    ∙ sym (map_take_more (start (arrangement_of c.args.code.now)) c.args.code.now.arrays c.loop-i.i c.unwrap.result.now found)))
