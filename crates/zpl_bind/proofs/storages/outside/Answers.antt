use Rattle.std.proofs.Common.{◌≡◌, pos, ◌+ℤ◌, ◌-ℤ◌, ◌<ℤ◌, ap, sym, ◌∙◌, subst, w64, to_z, of_z, arith}
use Rattle.std.proofs.lemmas.Int.{ints}
use Rattle.zpl_region.specs.Dim.{HasStep, IsDimWithinLimit, dim_outside_of}
use Rattle.zpl_region.proofs.FormLemmas.{outside_above, outside_below}
use Rattle.zpl_bind.proofs.StorageLemmas.{component, ranges}
use Rattle.zpl_bind.proofs.storages.outside.Goals as goal

pub returns-then-d-gt0 : goal.returns-then-d-gt0
returns-then-d-gt0 c =
    let limit = subst IsDimWithinLimit c.in-Range.is c.requires.limit in
    let steps = subst HasStep c.in-Range.is c.requires.step in
    let part = component c.args.d c.requires.part in
    let hi : to_z w64 (of_z w64 c.in-Range.hi) ≡ c.in-Range.hi = omega (arith, ints, limit.1.0, limit.1.1) in
    let d : to_z w64 (of_z w64 c.args.d) ≡ c.args.d = omega (arith, ints, part.0, part.1) in
    let above : pos 0 <ℤ c.args.d = omega (arith, ints, d) in
    ranges _ _ _ _ _ _ _ _
    (ap (λ z. to_z w64 (of_z w64 (z +ℤ pos 1))) hi ∙ omega (arith, ints, limit.1.0, limit.1.1))
    (ap (λ z. to_z w64 (of_z w64 (z +ℤ to_z w64 (of_z w64 c.args.d)))) hi
    ∙ ap (λ z. to_z w64 (of_z w64 (c.in-Range.hi +ℤ z))) d
    ∙ omega (arith, ints, limit.1.0, limit.1.1, part.0, part.1))
    (omega (arith, ints, steps, limit.2)) (omega (arith, ints, limit.3.0, limit.3.1))
    ∙ outside_above c.args.d c.in-Range.lo c.in-Range.hi c.in-Range.step c.in-Range.align above
    ∙ ap (dim_outside_of c.args.d) (sym c.in-Range.is)

pub returns-then-d-lt0 : goal.returns-then-d-lt0
returns-then-d-lt0 c =
    let limit = subst IsDimWithinLimit c.in-Range.is c.requires.limit in
    let steps = subst HasStep c.in-Range.is c.requires.step in
    let part = component c.args.d c.requires.part in
    let lo : to_z w64 (of_z w64 c.in-Range.lo) ≡ c.in-Range.lo = omega (arith, ints, limit.0.0, limit.0.1) in
    let d : to_z w64 (of_z w64 c.args.d) ≡ c.args.d = omega (arith, ints, part.0, part.1) in
    let below : c.args.d <ℤ pos 0 = omega (arith, ints, d) in
    ranges _ _ _ _ _ _ _ _
    (ap (λ z. to_z w64 (of_z w64 (z +ℤ to_z w64 (of_z w64 c.args.d)))) lo
    ∙ ap (λ z. to_z w64 (of_z w64 (c.in-Range.lo +ℤ z))) d
    ∙ omega (arith, ints, limit.0.0, limit.0.1, part.0, part.1))
    (ap (λ z. to_z w64 (of_z w64 (z -ℤ pos 1))) lo ∙ omega (arith, ints, limit.0.0, limit.0.1))
    (omega (arith, ints, steps, limit.2)) (omega (arith, ints, limit.3.0, limit.3.1))
    ∙ outside_below c.args.d c.in-Range.lo c.in-Range.hi c.in-Range.step c.in-Range.align below
    ∙ ap (dim_outside_of c.args.d) (sym c.in-Range.is)
