use Rattle.std.proofs.Common.{◌≡◌, ◌∙◌, ap, get_or, pos, arith, w64, to_z, of_z}
use Rattle.std.proofs.lemmas.Int.{ints}
use Rattle.grid_meaning.specs.of_zpl_arrays.Array.{Array}
use Rattle.node_local.specs.Store.{place_in}
use Rattle.node_local.proofs.StoreLemmas.{place_of_tuple}
use Rattle.node_local.proofs.stores.FlatStore.place.Goals as goal

pub returns-clause-place : goal.returns-clause-place
returns-clause-place c =
    let x : to_z w64 (of_z w64 (get_or c.args.index.now 0 (pos 0))) ≡ get_or c.args.index.now 0 (pos 0) = omega (arith, ints) in
    let y : to_z w64 (of_z w64 (get_or c.args.index.now 1 (pos 0))) ≡ get_or c.args.index.now 1 (pos 0) = omega (arith, ints) in
    let z : to_z w64 (of_z w64 (get_or c.args.index.now 2 (pos 0))) ≡ get_or c.args.index.now 2 (pos 0) = omega (arith, ints) in
    place_of_tuple c.self.inside.shape c.args.index.now _ _ _ (omega arith) x y z c.place_among.ensures.place
    ∙ ap (λ (a : Array). place_in a.storage c.args.index.now) c.self.view_is
