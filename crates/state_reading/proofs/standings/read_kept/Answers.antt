use Rattle.std.proofs.Common.{◌≡◌, ◌∙◌, ℕ, ℤ, false, List, ap, drop, map, refl, sym, subst, rules, []}
use Rattle.std.specs.Prelude.{IsTrue, is_some}
use Rattle.node_local.specs.Standing.{entry_of, standing_local}
use Rattle.node_local.specs.Workplace.{Workplace}
use Rattle.row_progress.specs.Begun.{stands}
use Rattle.row_progress.specs.declared.progress.Progress.{Progress}
use Rattle.save_reading.specs.of_grid_save.Reads.{AtValues, BreaksState, BreaksValues, IsFar, IsKeptLine, MayKeep, Run, RunBreaks, is_kept, told_kept}
use Rattle.save_reading.proofs.ReadLemmas.{fault_here, fault_passed}
use Rattle.state_reading.proofs.KeptLemmas.{told_are}
use Rattle.state_reading.proofs.LocalLemmas.{at_kept, kept_read, lacks_kept, too_far, values_told}
use Rattle.state_reading.proofs.standings.read_kept.Goals as goal

pub returns-in_err-values-clause-err : goal.returns-in_err-values-clause-err
returns-in_err-values-clause-err c =
    let lines = c.args.lines.now in
    let start = drop c.args.from lines in
    fault_passed (BreaksValues c.args.code.now c.args.p start) (BreaksState c.args.code.now c.args.p start) lines _ _ c.from_residual.ensures.1 c.in_err-values.ensures.err
    (λ left breaks. AtValues left breaks)

pub begun-requires-clause-told : goal.begun-requires-clause-told
begun-requires-clause-told c =
    let lines = c.args.lines.now in
    values_told c.args.code.now c.args.p (drop c.args.from lines) (standing_local c.in_ok-values.values) (drop c.in_ok-values.behind lines) c.in_ok-values.ensures.ok

pub returns-then-not-is_far-clause-err : goal.returns-then-not-is_far-clause-err
returns-then-not-is_far-clause-err c =
    let lines = c.args.lines.now in
    let code = c.args.code.now in
    let p = c.args.p in
    let start = drop c.args.from lines in
    let behind = drop c.in_ok-values.behind lines in
    let values = c.in_ok-values.values in
    let far : Progress = record { made = values.made; index = values.index; member = values.member } in
    let same = stands c.in_ok-begun.begun.local far in
    let many = sym c.told_count-told.ensures in
    rw c.bad_state.ensures (fault_here (BreaksState code p start) lines c.args.from c.requires.inside
    (too_far code p start behind (standing_local values) same c.in_ok-begun.ensures.values c.in_ok-values.ensures.ok
    (λ is. let no : IsTrue false = (c.if-not-is_far.ensures.far (told_kept behind) many).1 is in absurd cc)))

pub returns-in_err-kept-clause-err : goal.returns-in_err-kept-clause-err
returns-in_err-kept-clause-err c =
    let lines = c.args.lines.now in
    let code = c.args.code.now in
    let p = c.args.p in
    let start = drop c.args.from lines in
    let behind = drop c.in_ok-values.behind lines in
    let values = c.in_ok-values.values in
    let far : Progress = record { made = values.made; index = values.index; member = values.member } in
    let same = stands c.in_ok-begun.begun.local far in
    let many = sym c.told_count-told.ensures in
    let is = (c.if-not-is_far.ensures.far (told_kept behind) many).0 refl in
    fault_passed (RunBreaks is_kept (IsKeptLine code p (stands c.is_far.new.local.local far)) [] behind) (BreaksState code p start) lines _ _
    c.from_residual-in_err-kept.ensures.1 c.in_err-kept.ensures.err
    (λ left breaks. at_kept code p start behind (standing_local values) same c.in_ok-begun.ensures.values c.in_ok-values.ensures.ok left is
    (subst (λ (b : Workplace). RunBreaks is_kept (IsKeptLine code p (stands b.local far)) [] behind left) c.is_far.ensures.same breaks))

pub may_keep-requires-clause-far : goal.may_keep-requires-clause-far
may_keep-requires-clause-far c =
    let lines = c.args.lines.now in
    let code = c.args.code.now in
    let p = c.args.p in
    let behind = drop c.in_ok-values.behind lines in
    let values = c.in_ok-values.values in
    let far : Progress = record { made = values.made; index = values.index; member = values.member } in
    let many = sym c.told_count-told.ensures in
    let is = (c.if-not-is_far.ensures.far (told_kept behind) many).0 refl in
    let told = told_are code p (stands c.is_far.new.local.local far) c.in_ok-kept.ensures.ok ∙ ap (map entry_of) (sym c.as_slice.ensures.value) in
    let here = c.in_ok-kept.ensures.same ∙ c.is_far.ensures.same in
    subst (λ (b : Workplace). IsFar code p (stands b.local far) (map entry_of c.as_slice.result.now) (is_some b.local.ended)) (sym here)
    (subst (λ (words : List (ℕ × List ℤ)). IsFar code p (stands c.in_ok-begun.begun.local far) words (is_some c.in_ok-begun.begun.local.ended)) told is)

pub returns-then-not-keeps-clause-err : goal.returns-then-not-keeps-clause-err
returns-then-not-keeps-clause-err c =
    let lines = c.args.lines.now in
    let code = c.args.code.now in
    let p = c.args.p in
    let start = drop c.args.from lines in
    let behind = drop c.in_ok-values.behind lines in
    let left = drop c.in_ok-kept.next lines in
    let values = c.in_ok-values.values in
    let kept = map entry_of c.in_ok-kept.kept.items in
    let far : Progress = record { made = values.made; index = values.index; member = values.member } in
    let same = stands c.in_ok-begun.begun.local far in
    let many = sym c.told_count-told.ensures in
    let is = (c.if-not-is_far.ensures.far (told_kept behind) many).0 refl in
    let run = subst (λ (b : Workplace). Run is_kept (IsKeptLine code p (stands b.local far)) [] behind kept left) c.is_far.ensures.same c.in_ok-kept.ensures.ok in
    let here = c.in_ok-kept.ensures.same ∙ c.is_far.ensures.same in
    let no : c.in_ok-keeps.keeps ≡ false = search rules in
    rw c.bad_state-then-not-keeps.ensures (fault_here (BreaksState code p start) lines c.in_ok-kept.next c.in_ok-kept.ensures.inside
    (lacks_kept code p start behind (standing_local values) same c.in_ok-begun.ensures.values c.in_ok-values.ensures.ok kept left is run
    (λ keeps.
    let words = subst (λ (list : List (ℕ × List ℤ)). MayKeep code p same list) (ap (map entry_of) (sym c.as_slice.ensures.value)) keeps in
    let moved = subst (λ (b : Workplace). MayKeep code p (stands b.local far) (map entry_of c.as_slice.result.now)) (sym here) words in
    let yes : IsTrue c.in_ok-keeps.keeps = c.in_ok-keeps.ensures.keeps.1 moved in
    absurd cc)))

pub returns-clause-ok : goal.returns-clause-ok
returns-clause-ok c =
    let lines = c.args.lines.now in
    let code = c.args.code.now in
    let p = c.args.p in
    let start = drop c.args.from lines in
    let behind = drop c.in_ok-values.behind lines in
    let left = drop c.in_ok-kept.next lines in
    let values = c.in_ok-values.values in
    let kept = map entry_of c.in_ok-kept.kept.items in
    let far : Progress = record { made = values.made; index = values.index; member = values.member } in
    let same = stands c.in_ok-begun.begun.local far in
    let many = sym c.told_count-told.ensures in
    let is = (c.if-not-is_far.ensures.far (told_kept behind) many).0 refl in
    let run = subst (λ (b : Workplace). Run is_kept (IsKeptLine code p (stands b.local far)) [] behind kept left) c.is_far.ensures.same c.in_ok-kept.ensures.ok in
    let here = c.in_ok-kept.ensures.same ∙ c.is_far.ensures.same in
    let yes : IsTrue c.in_ok-keeps.keeps = search rules in
    let keeps = subst (λ (b : Workplace). MayKeep code p (stands b.local far) (map entry_of c.as_slice.result.now)) here (c.in_ok-keeps.ensures.keeps.0 yes) in
    kept_read code p start behind (standing_local values) same c.in_ok-begun.ensures.values c.in_ok-values.ensures.ok kept left is run
    (subst (λ (list : List (ℕ × List ℤ)). MayKeep code p same list) (ap (map entry_of) c.as_slice.ensures.value) keeps)
