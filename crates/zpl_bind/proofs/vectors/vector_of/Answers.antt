use mir.Val.{to_z, of_z}
use Rattle.std.proofs.Common.{◌≡◌, ◌&&◌, set, w64, rules, sym, ap, ◌∙◌}
use Rattle.zpl_parts.specs.of_zpl_binding.Vectors.{is_component}
use Rattle.zpl_bind.specs.Tables.{listed, computed}
use Rattle.zpl_bind.proofs.VectorLemmas.{more-so-far}
use Rattle.zpl_bind.proofs.vectors.vector_of.Goals as goal
use Rattle.zpl_bind.proofs.vectors.vector_of.Goals.{then-within, else-within}

pub loop-place-preserved : goal.loop-place-preserved
loop-place-preserved c =
    let same : to_z w64 (of_z w64 c.in_ok-value.value) ≡ c.in_ok-value.value = search rules in
    let both : c.if-within.within ≡ (c.loop-place.within && is_component c.in_ok-value.value) =
    elim c.if-within.branch [
      | then-within w ↦ w.within-is ∙ w.is_component-within.ensures ∙ ap is_component same
          ∙ ap (λ b. b && is_component c.in_ok-value.value) (sym w.if-within.true)
      | else-within w ↦ w.within-is ∙ w.if-within.false
          ∙ ap (λ b. b && is_component c.in_ok-value.value) (sym w.if-within.false)
    ] in
    more-so-far (computed (listed c.args.values.now)) c.args.parts.now c.loop-place.place _
    c.loop-place.vector c.loop-place.within c.in_ok-value.value c.loop-place-test.true
    c.in_ok-value.ensures c.set_component.new.vector
    (λ h. c.set_component.ensures.short h ∙
    ap (λ v. set c.loop-place.vector c.loop-place.place v) same)
    c.set_component.ensures.long c.if-within.within both c.loop-place.invariant
