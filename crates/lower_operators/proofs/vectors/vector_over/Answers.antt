use Rattle.std.proofs.Common.{◌≡◌, pos, All, get_or, sym, ap, ◌∙◌, subst, w64, to_z, of_z, arith}
use Rattle.std.proofs.lemmas.Int.{ints}
use Rattle.zpl_region.specs.declared.dims.Dim.{Dim}
use Rattle.zpl_region.specs.declared.dims.Dim.TheVariants.{Range}
use Rattle.zpl_region.specs.Dim.{IsUpTo}
use Rattle.lower_regions.specs.of_zpl_lowering.Reference.{dim_shift}
use Rattle.lower_operators.proofs.VectorLemmas.{near-over, shifts-are}
use Rattle.lower_operators.proofs.vectors.vector_over.Goals as goal

abbrev nothing : Dim
nothing = Range (pos 0) (pos 0) (pos 0) (pos 0)

pub returns-clause-vector : goal.returns-clause-vector
returns-clause-vector c =
    let v = c.args.shift in
    let dims = c.args.storage.now.dims in
    let x : to_z w64 (of_z w64 c.dim_shift.result) ≡ c.dim_shift.result = omega (arith, ints) in
    let y : to_z w64 (of_z w64 c.dim_shift-2.result) ≡ c.dim_shift-2.result = omega (arith, ints) in
    let z : to_z w64 (of_z w64 c.dim_shift-3.result) ≡ c.dim_shift-3.result = omega (arith, ints) in
    let a : to_z w64 (of_z w64 (get_or v 0 (pos 0))) ≡ get_or v 0 (pos 0) = omega (arith, ints) in
    let b : to_z w64 (of_z w64 (get_or v 1 (pos 0))) ≡ get_or v 1 (pos 0) = omega (arith, ints) in
    let e : to_z w64 (of_z w64 (get_or v 2 (pos 0))) ≡ get_or v 2 (pos 0) = omega (arith, ints) in
    shifts-are c.args.storage.now dims v nothing _ _ _ (omega arith) (omega arith)
    (x ∙ c.dim_shift.ensures ∙ ap (λ d. dim_shift (get_or dims 0 nothing) d) a)
    (y ∙ c.dim_shift-2.ensures ∙ ap (λ d. dim_shift (get_or dims 1 nothing) d) b)
    (z ∙ c.dim_shift-3.ensures ∙ ap (λ d. dim_shift (get_or dims 2 nothing) d) e)

pub returns-clause-near : goal.returns-clause-near
returns-clause-near c near =
    subst (λ v. All (IsUpTo 41) v) (sym (returns-clause-vector c))
    (near-over c.args.storage.now c.args.shift near)
