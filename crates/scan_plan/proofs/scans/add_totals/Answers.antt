use Rattle.std.proofs.Common.{◌≡◌, w64, to_z, of_z, ℤ, pos, get_or, set, inl, inr, refl, sym, ◌∙◌, ap, arith, length}
use Rattle.std.proofs.lemmas.Int.{ints}
use Rattle.zpl_nums.specs.Fold.{joined}
use Rattle.zpl_region.proofs.EndLemmas.{first_member}
use Rattle.zpl_region.proofs.HullLemmas.{has_steps}
use Rattle.scan_plan.proofs.GoneLemmas.{added_all, added_none, added_step, changed, none_from_default, set_long}
use Rattle.scan_plan.proofs.scans.add_totals.Goals as goal
use Rattle.scan_plan.proofs.scans.add_totals.Goals.{in-Some-line_behind, in_default-line_behind}

pub loop-total-init : goal.loop-total-init
loop-total-init c =
    added_none c.args.fold c.args.along c.args.own.now c.args.part.now c.args.totals.now c.args.kept.now c.least-head.result
    (c.least-head.ensures ∙ sym (first_member c.args.part.now (has_steps c.args.part.now.dims c.requires.part.dims)))

pub loop-total-preserved : goal.loop-total-preserved
loop-total-preserved c =
    let op = c.args.fold in
    let kept = c.loop-total.kept in
    let t : ℤ = get_or c.args.totals.now c.loop-total.total-index (pos 0) in
    let h = c.in-Some.h in
    elim c.match-line_behind.branch [
      | in-Some-line_behind w ↦
          (let line = w.in-Some-line_behind.line in
          let t_is : to_z w64 (of_z w64 t) ≡ t = omega (arith, ints) in
          let old : ℤ = get_or kept w.in-Some-line_behind.line (pos 0) in
          let old_is : to_z w64 (of_z w64 old) ≡ old = omega (arith, ints) in
          let result_is : to_z w64 (of_z w64 w.join.result) ≡ w.join.result = omega (arith, ints) in
          let joined_is : to_z w64 (of_z w64 w.join.result) ≡ joined op old t = result_is ∙ (w.join.ensures ∙ (ap (λ z. joined op z (to_z w64 (of_z w64 t))) old_is ∙ ap (joined op old) t_is)) in
          added_step op c.args.along c.args.own.now c.args.part.now c.args.totals.now c.args.kept.now kept c.match-line_behind.kept h c.loop-total.head c.next_after-head.result c.loop-total.total-index t
          c.requires.own c.requires.part c.requires.own_dims c.requires.part_dims c.requires.along c.requires.alone (omega arith) refl c.loop-total.invariant c.in-Some.is c.next_after-head.ensures
          (ap length w.kept-is ∙ set_long kept line _)
          (w.kept-is ∙ (ap (set kept line) joined_is ∙ ap (λ o. changed op o t kept) (sym w.in-Some-line_behind.is ∙ c.line_behind.ensures.behind))))
      | in_default-line_behind w ↦
          (let none = none_from_default c.line_behind.result w.in_default-line_behind.not-Some in
          added_step op c.args.along c.args.own.now c.args.part.now c.args.totals.now c.args.kept.now kept c.match-line_behind.kept h c.loop-total.head c.next_after-head.result c.loop-total.total-index t
          c.requires.own c.requires.part c.requires.own_dims c.requires.part_dims c.requires.along c.requires.alone (omega arith) refl c.loop-total.invariant c.in-Some.is c.next_after-head.ensures
          (ap length w.kept-is)
          (w.kept-is ∙ ap (λ o. changed op o t kept) (sym none ∙ c.line_behind.ensures.behind)))
    ]

pub returns-after-loop-total : goal.returns-after-loop-total
returns-after-loop-total c =
    added_all c.args.fold c.args.along c.args.own.now c.args.part.now c.args.totals.now c.args.kept.now c.loop-total.kept c.loop-total.head c.loop-total.total-index c.loop-total.invariant (inl (omega arith))

pub returns-in_default : goal.returns-in_default
returns-in_default c =
    added_all c.args.fold c.args.along c.args.own.now c.args.part.now c.args.totals.now c.args.kept.now c.loop-total.kept c.loop-total.head c.loop-total.total-index c.loop-total.invariant
    (inr (none_from_default c.loop-total.head c.in_default.not-Some))
