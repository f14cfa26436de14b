use Rattle.std.proofs.Common.{◌≡◌, ◌↔◌, Bool, IsTrue, All, w64, to_z, of_z, ℤ, pos, get_or, sym, ◌∙◌, subst, arith}
use Rattle.std.proofs.lemmas.Bool.{false≢true}
use Rattle.std.proofs.lemmas.Int.{ints}
use Rattle.zpl_region.specs.declared.dims.Dim.{Dim}
use Rattle.zpl_region.specs.declared.dims.Dim.TheVariants.{Range}
use Rattle.zpl_region.specs.Dim.{coordinates, lies_within}
use Rattle.zpl_region.specs.Region.{lies_in_box, members}
use Rattle.zpl_region.proofs.BoxLemmas.{all_within, each_within}
use Rattle.zpl_region.proofs.regions.Region.within.Goals as goal
use Rattle.zpl_region.proofs.regions.Region.within.Goals.{After-is_within, then-is_within, else-is_within}

abbrev nothing : Dim
nothing = Range (pos 0) (pos 0) (pos 0) (pos 0)

-- the answer of a dimension, at the components of the vectors
says : (result : Bool) (dim : Dim) (l h l' h' : ℤ) → l' ≡ l → h' ≡ h → IsTrue result ↔ All (λ x. IsTrue (lies_within l' h' dim x)) (coordinates dim) → IsTrue result ↔ All (λ x. IsTrue (lies_within l h dim x)) (coordinates dim)
says result dim l h l' h' e f iff = subst (λ z. IsTrue result ↔ All (λ x. IsTrue (lies_within l z dim x)) (coordinates dim)) f (subst (λ z. IsTrue result ↔ All (λ x. IsTrue (lies_within z h' dim x)) (coordinates dim)) e iff)

inside : (c : After-is_within) → All (λ t. IsTrue (lies_in_box c.args.lo c.args.hi c.args.self.now t)) (members c.args.self.now)
    → All (λ x. IsTrue (lies_within (get_or c.components.result 0 (pos 0)) (get_or c.components-2.result 0 (pos 0)) (get_or c.args.self.now.dims 0 nothing) x)) (coordinates (get_or c.args.self.now.dims 0 nothing))
    × All (λ x. IsTrue (lies_within (get_or c.components.result 1 (pos 0)) (get_or c.components-2.result 1 (pos 0)) (get_or c.args.self.now.dims 1 nothing) x)) (coordinates (get_or c.args.self.now.dims 1 nothing))
    × All (λ x. IsTrue (lies_within (get_or c.components.result 2 (pos 0)) (get_or c.components-2.result 2 (pos 0)) (get_or c.args.self.now.dims 2 nothing) x)) (coordinates (get_or c.args.self.now.dims 2 nothing))
inside c all =
    each_within c.args.self.now c.args.lo c.args.hi c.components.result c.components-2.result nothing c.components.ensures c.components-2.ensures (omega arith) (omega arith) (omega arith)
    (λ none. absurd (false≢true (sym c.if-is_empty.false ∙ c.is_empty.ensures.1 none))) all

pub returns-then-is_within-2 : goal.returns-then-is_within-2
returns-then-is_within-2 c =
    let w = (goal.at.returns-then-is_within-2 c).After-is_within in
    let lo0 : to_z w64 (of_z w64 (get_or c.components.result 0 (pos 0))) ≡ get_or c.components.result 0 (pos 0) = omega (arith, ints) in
    let hi0 : to_z w64 (of_z w64 (get_or c.components-2.result 0 (pos 0))) ≡ get_or c.components-2.result 0 (pos 0) = omega (arith, ints) in
    let lo1 : to_z w64 (of_z w64 (get_or c.components.result 1 (pos 0))) ≡ get_or c.components.result 1 (pos 0) = omega (arith, ints) in
    let hi1 : to_z w64 (of_z w64 (get_or c.components-2.result 1 (pos 0))) ≡ get_or c.components-2.result 1 (pos 0) = omega (arith, ints) in
    let lo2 : to_z w64 (of_z w64 (get_or c.components.result 2 (pos 0))) ≡ get_or c.components.result 2 (pos 0) = omega (arith, ints) in
    let hi2 : to_z w64 (of_z w64 (get_or c.components-2.result 2 (pos 0))) ≡ get_or c.components-2.result 2 (pos 0) = omega (arith, ints) in
    let first = says c.is_within.result (get_or c.args.self.now.dims 0 nothing) (get_or c.components.result 0 (pos 0)) (get_or c.components-2.result 0 (pos 0)) _ _ lo0 hi0 c.is_within.ensures in
    let third = says c.is_within-then-is_within-2.result (get_or c.args.self.now.dims 2 nothing) (get_or c.components.result 2 (pos 0)) (get_or c.components-2.result 2 (pos 0)) _ _ lo2 hi2 c.is_within-then-is_within-2.ensures in (
      λ t. elim c.if-is_within.branch [
        | then-is_within v ↦
            (let second = says v.is_within-then-is_within.result (get_or c.args.self.now.dims 1 nothing) (get_or c.components.result 1 (pos 0)) (get_or c.components-2.result 1 (pos 0)) _ _ lo1 hi1 v.is_within-then-is_within.ensures in
            all_within c.args.self.now c.args.lo c.args.hi c.components.result c.components-2.result nothing c.components.ensures c.components-2.ensures (omega arith) (omega arith) (omega arith)
            (first.0 v.if-is_within.true, second.0 (sym v.value-is ∙ c.if-is_within-2.true), third.0 t))
        | else-is_within v ↦ absurd (false≢true (sym v.if-is_within.false ∙ (sym v.value-is ∙ c.if-is_within-2.true)))
      ],
      λ all. third.1 (inside w all).2,
    )

pub returns-else-is_within-2 : goal.returns-else-is_within-2
returns-else-is_within-2 c =
    let w = (goal.at.returns-else-is_within-2 c).After-is_within in
    let lo0 : to_z w64 (of_z w64 (get_or c.components.result 0 (pos 0))) ≡ get_or c.components.result 0 (pos 0) = omega (arith, ints) in
    let hi0 : to_z w64 (of_z w64 (get_or c.components-2.result 0 (pos 0))) ≡ get_or c.components-2.result 0 (pos 0) = omega (arith, ints) in
    let lo1 : to_z w64 (of_z w64 (get_or c.components.result 1 (pos 0))) ≡ get_or c.components.result 1 (pos 0) = omega (arith, ints) in
    let hi1 : to_z w64 (of_z w64 (get_or c.components-2.result 1 (pos 0))) ≡ get_or c.components-2.result 1 (pos 0) = omega (arith, ints) in
    let lo2 : to_z w64 (of_z w64 (get_or c.components.result 2 (pos 0))) ≡ get_or c.components.result 2 (pos 0) = omega (arith, ints) in
    let hi2 : to_z w64 (of_z w64 (get_or c.components-2.result 2 (pos 0))) ≡ get_or c.components-2.result 2 (pos 0) = omega (arith, ints) in
    let first = says c.is_within.result (get_or c.args.self.now.dims 0 nothing) (get_or c.components.result 0 (pos 0)) (get_or c.components-2.result 0 (pos 0)) _ _ lo0 hi0 c.is_within.ensures in (
      λ t. absurd (false≢true (sym c.if-is_within-2.false ∙ t)),
      λ all. elim c.if-is_within.branch [
        | then-is_within v ↦
            (let second = says v.is_within-then-is_within.result (get_or c.args.self.now.dims 1 nothing) (get_or c.components.result 1 (pos 0)) (get_or c.components-2.result 1 (pos 0)) _ _ lo1 hi1 v.is_within-then-is_within.ensures in
            v.value-is ∙ second.1 (inside w all).1)
        | else-is_within v ↦ absurd (false≢true (sym v.if-is_within.false ∙ first.1 (inside w all).0))
      ],
    )
