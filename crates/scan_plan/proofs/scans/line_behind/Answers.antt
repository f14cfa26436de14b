use Rattle.std.proofs.Common.{◌≡◌, ◌-◌, ◌≤ℤ◌, ◌<ℤ◌, w64, to_z, of_z, get_or, set, pos, sym, ◌∙◌, ap, subst, arith}
use Rattle.std.proofs.lemmas.Int.{ints}
use Rattle.zpl_region.specs.declared.dims.Dim.TheVariants.{Flood}
use Rattle.zpl_region.specs.Region.{is_before}
use Rattle.scan_plan.proofs.BehindLemmas.{behind_missing, behind_none, behind_past, behind_some, found_member}
use Rattle.scan_plan.proofs.scans.line_behind.Goals as goal

pub place-requires-clause-member : goal.place-requires-clause-member
place-requires-clause-member c = found_member c.args.own.now (is_before c.args.h.now) c.in-Some.next c.requires.own (sym c.next_after.ensures ∙ c.in-Some.is)

pub returns-in_default-clause-behind : goal.returns-in_default-clause-behind
returns-in_default-clause-behind c = behind_none c.args.along c.args.own.now c.args.h.now c.requires.own c.if-along-eq0.false (sym c.least.ensures ∙ c.in_default.is)

pub returns-then-h-k-clause-behind : goal.returns-then-h-k-clause-behind
returns-then-h-k-clause-behind c =
    let least = c.in-Some-least.least in
    let h = c.args.h.now in
    let k_is : c.from-k.result - 1 ≡ c.args.along - 1 = ap (λ a. a - 1) c.from-k.ensures in
    let past : get_or least (c.from-k.result - 1) (pos 0) ≤ℤ get_or h (c.from-k.result - 1) (pos 0) = omega (arith, ints, c.if-h-k.true) in
    behind_past c.args.along c.args.own.now h least Flood c.if-along-eq0.false c.requires.along (omega arith) (omega arith) (sym c.least.ensures ∙ c.in-Some-least.is)
    (subst (λ k. get_or least k (pos 0) ≤ℤ get_or h k (pos 0)) k_is past)

pub returns-then-contains-clause-behind : goal.returns-then-contains-clause-behind
returns-then-contains-clause-behind c =
    let least = c.in-Some-least.least in
    let h = c.args.h.now in
    let j = c.from-k.result - 1 in
    let k_is : c.from-k.result - 1 ≡ c.args.along - 1 = ap (λ a. a - 1) c.from-k.ensures in
    let value_is : to_z w64 (of_z w64 (get_or least (c.from-k.result - 1) (pos 0))) ≡ get_or least (c.from-k.result - 1) (pos 0) = omega (arith, ints) in
    let before : get_or h (c.from-k.result - 1) (pos 0) <ℤ get_or least (c.from-k.result - 1) (pos 0) = omega (arith, ints, c.if-h-k.false) in
    behind_some c.args.along c.place-then-contains.result c.args.own.now h least _ Flood c.contains.result c.requires.own c.if-along-eq0.false c.requires.along (omega arith) (omega arith) (sym c.least.ensures ∙ c.in-Some-least.is)
    (subst (λ k. get_or h k (pos 0) <ℤ get_or least k (pos 0)) k_is before) (ap (set h j) value_is ∙ ap (λ k. set h k (get_or least k (pos 0))) k_is) c.contains.ensures c.if-contains.true c.place-then-contains.ensures.place

pub returns-else-contains-clause-behind : goal.returns-else-contains-clause-behind
returns-else-contains-clause-behind c =
    let least = c.in-Some-least.least in
    let h = c.args.h.now in
    let j = c.from-k.result - 1 in
    let k_is : c.from-k.result - 1 ≡ c.args.along - 1 = ap (λ a. a - 1) c.from-k.ensures in
    let value_is : to_z w64 (of_z w64 (get_or least (c.from-k.result - 1) (pos 0))) ≡ get_or least (c.from-k.result - 1) (pos 0) = omega (arith, ints) in
    let before : get_or h (c.from-k.result - 1) (pos 0) <ℤ get_or least (c.from-k.result - 1) (pos 0) = omega (arith, ints, c.if-h-k.false) in
    behind_missing c.args.along c.args.own.now h least _ Flood c.contains.result c.requires.own c.if-along-eq0.false c.requires.along (omega arith) (omega arith) (sym c.least.ensures ∙ c.in-Some-least.is)
    (subst (λ k. get_or h k (pos 0) <ℤ get_or least k (pos 0)) k_is before) (ap (set h j) value_is ∙ ap (λ k. set h k (get_or least k (pos 0))) k_is) c.contains.ensures c.if-contains.false
