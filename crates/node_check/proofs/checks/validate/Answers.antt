use Rattle.std.proofs.Common.{◌≡◌, ◌∙◌, ◌<◌, ◌≤◌, ap, sym, subst, arith, length, true≢false, Option, Some, None, List}
use Rattle.node_check.specs.declared.verdicts.Verdict.{Verdict}
use Rattle.node_check.specs.Front.{Point}
use Rattle.node_check.specs.Sound.{IsChecked, IsFaulty, IsLarge}
use Rattle.node_check.specs.Verdict.{judged, no_verdict}
use Rattle.node_check.specs.declared.faults.CheckFault.TheVariants.{Unsound}
use Rattle.node_check.proofs.CodeLemmas.{none_told}
use Rattle.node_check.proofs.ValidLemmas.{checked_code, faulty_code, links_few, small_code}
use Rattle.node_check.proofs.checks.validate.Goals as goal

pub returns-in-Some-clause-faults : goal.returns-in-Some-clause-faults
returns-in-Some-clause-faults c =
    subst (λ code. IsFaulty code (Unsound c.in-Some.at)) c.tables-tables.ensures.same
    (faulty_code c.tables-tables.result.now c.in_ok-fronts.fronts.items c.in-Some.at
    (λ large. true≢false (sym (c.is_large.ensures.1 large) ∙ c.if-is_large.false))
    c.in_ok-fronts.ensures
    (ap (λ (verdict : Verdict). verdict.least)
    (sym (c.in_ok-least.ensures
    ∙ ap (λ (fronts : List (Option Point)). judged c.tables-tables.result.now fronts 0
    c.tables-tables.result.now.code no_verdict) c.as_slice.ensures.value))
    ∙ c.in-Some.is))

pub overflow_cast-needed : goal.overflow_cast-needed
overflow_cast-needed c =
    let small = small_code c.tables-tables.result.now
    (λ large. true≢false (sym (c.is_large.ensures.1 large) ∙ c.if-is_large.false)) in
    let few = links_few c.tables-tables.result.now c.in_ok-fronts.fronts.items
    c.in_ok-fronts.ensures small in
    let same = ap (λ (verdict : Verdict). verdict.links) (c.in_ok-least.ensures
    ∙ ap (λ (fronts : List (Option Point)). judged c.tables-tables.result.now fronts 0
    c.tables-tables.result.now.code no_verdict) c.as_slice.ensures.value) in
    omega (arith, few, same)

pub returns-clause-checked : goal.returns-clause-checked
returns-clause-checked c =
    let same = c.in_ok-least.ensures
    ∙ ap (λ (fronts : List (Option Point)). judged c.tables-tables.result.now fronts 0
    c.tables-tables.result.now.code no_verdict) c.as_slice.ensures.value in
    subst (λ code. IsChecked code c.in_ok-least.field-0.links) c.tables-tables.ensures.same
    (checked_code c.tables-tables.result.now c.in_ok-fronts.fronts.items
    c.in_ok-least.field-0.links
    (λ large. true≢false (sym (c.is_large.ensures.1 large) ∙ c.if-is_large.false))
    c.in_ok-fronts.ensures
    (ap (λ (verdict : Verdict). verdict.least) (sym same)
    ∙ none_told c.in_ok-least.field-0.least c.in_default.not-Some)
    (ap (λ (verdict : Verdict). verdict.links) same))
