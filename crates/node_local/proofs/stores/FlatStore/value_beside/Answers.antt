use Rattle.std.proofs.Common.{◌≡◌, ℤ, ◌+ℤ◌, pos, All, get_or, subst, sym, arith, rules}
use Rattle.std.proofs.lemmas.Int.{ints, to_z-of_z}
use Rattle.std.specs.Prelude.{FitsSigned}
use mir.Syntax.{w64}
use mir.Val.{to_z, of_z}
use Rattle.grid_meaning.specs.of_zpl_arrays.Array.{Array}
use Rattle.grid_meaning.specs.of_zpl_region.Hull.{IsBoxed}
use Rattle.grid_meaning.specs.of_grid_layout.Layout.{HasWideBounds}
use Rattle.grid_meaning.specs.Place.{moved_by}
use Rattle.node_local.specs.Store.{StandsFor}
use Rattle.node_local.proofs.StoreLemmas.{held_stands, moved_three}
use Rattle.node_local.proofs.stores.FlatStore.value_beside.Goals as goal

stands : (r x y i s : ℤ) → FitsSigned w64 r → StandsFor r (x +ℤ y) → x ≡ i → y ≡ s
    → StandsFor (to_z w64 (of_z w64 r)) (i +ℤ s)
stands r x y i s fits told e f =
    subst (λ m. StandsFor m (i +ℤ s)) (sym (to_z-of_z w64 r fits))
    (subst (λ u. StandsFor r (u +ℤ s)) e (subst (λ u. StandsFor r (x +ℤ u)) f told))

pub returns : goal.returns
returns c =
    let i : to_z w64 (of_z w64 (get_or c.args.index.now 0 (pos 0))) ≡ get_or c.args.index.now 0 (pos 0) = omega (arith, ints) in
    let j : to_z w64 (of_z w64 (get_or c.args.index.now 1 (pos 0))) ≡ get_or c.args.index.now 1 (pos 0) = omega (arith, ints) in
    let k : to_z w64 (of_z w64 (get_or c.args.index.now 2 (pos 0))) ≡ get_or c.args.index.now 2 (pos 0) = omega (arith, ints) in
    let u : to_z w64 (of_z w64 (get_or c.args.shift 0 (pos 0))) ≡ get_or c.args.shift 0 (pos 0) = omega (arith, ints) in
    let v : to_z w64 (of_z w64 (get_or c.args.shift 1 (pos 0))) ≡ get_or c.args.shift 1 (pos 0) = omega (arith, ints) in
    let w : to_z w64 (of_z w64 (get_or c.args.shift 2 (pos 0))) ≡ get_or c.args.shift 2 (pos 0) = omega (arith, ints) in
    let first : FitsSigned w64 c.moved.result = search rules in
    let second : FitsSigned w64 c.moved-2.result = search rules in
    let third : FitsSigned w64 c.moved-3.result = search rules in
    let index = c.args.index.now in
    let shift = c.args.shift in
    held_stands c.args.self.now _ _ _ (get_or index 0 (pos 0) +ℤ get_or shift 0 (pos 0)) (get_or index 1 (pos 0) +ℤ get_or shift 1 (pos 0))
    (get_or index 2 (pos 0) +ℤ get_or shift 2 (pos 0)) (moved_by shift index)
    (subst (λ (a : Array). All IsBoxed a.storage.dims) c.self.view_is c.self.invariant.boxed)
    (subst (λ (a : Array). All HasWideBounds a.storage.dims) c.self.view_is c.self.invariant.bounds)
    (stands c.moved.result _ _ _ _ first c.moved.ensures i u)
    (stands c.moved-2.result _ _ _ _ second c.moved-2.ensures j v)
    (stands c.moved-3.result _ _ _ _ third c.moved-3.ensures k w)
    (moved_three shift index (omega arith) (omega arith))
    c.value_of.ensures
