use Rattle.std.proofs.Common.{◌+◌, get_or, pos, sym, ◌∙◌, ap, rules, arith, ◌∷◌, drop}
use Rattle.std.proofs.lemmas.Int.{to_z-of_z}
use Rattle.std.specs.Prelude.{FitsSigned}
use mir.Syntax.{w64}
use Rattle.node_local.specs.Computing.{operands_in}
use Rattle.node_local.proofs.StackLemmas.{stepped-pair, stepped-short}
use Rattle.node_local.proofs.values.step.Goals as goal

pub returns-then-stack-top-lt2-clause-stack : goal.returns-then-stack-top-lt2-clause-stack
returns-then-stack-top-lt2-clause-stack c =
    stepped-short (operands_in c.args.memory.now c.args.index.now) c.args.stack.now c.args.top c.args.word.now c.in-Pair.op
    c.in-Pair.is (omega arith)

pub returns-in-Some-clause-stack : goal.returns-in-Some-clause-stack
returns-in-Some-clause-stack c =
    let right = get_or c.args.stack.now c.args.top (pos 0) in
    let left = get_or c.args.stack.now (c.args.top + 1) (pos 0) in
    let fits_right : FitsSigned w64 right = search rules in
    let fits_left : FitsSigned w64 left = search rules in
    let fits : FitsSigned w64 c.in-Some.value = search rules in
    stepped-pair (operands_in c.args.memory.now c.args.index.now) c.args.stack.now _ c.args.top
    c.push-in-Some.result c.args.word.now c.in-Pair.op _ c.in-Pair.is (omega arith)
    (sym (rw (to_z-of_z w64 left fits_left, to_z-of_z w64 right fits_right) at c.in-Some.ensures.value))
    (c.push-in-Some.ensures.stack ∙ ap (λ v. v ∷ drop (c.args.top + 2) c.args.stack.now) (to_z-of_z w64 c.in-Some.value fits))
