use Rattle.std.proofs.Common.{Err, is_ok, sym, ap, ◌∙◌, inl, arith}
use Rattle.std.proofs.ResultArms.{chosen}
use Rattle.std.proofs.lemmas.Result.{err_from_is_err_and}
use Rattle.zpl_text.specs.declared.faults.LexFault.{LexFault}
use Rattle.zpl_text.specs.Cutting.{opens_ditto}
use Rattle.zpl_text.specs.Tokens.{Place, HasFault}
use Rattle.zpl_text.proofs.OneWay.{not_both, fault_unique}
use Rattle.zpl_text.proofs.Lexing.{IsCutUpTo-none, IsCutUpTo-more, appends_tokens, has_fault}
use Rattle.zpl_text.proofs.lexer.lex.Goals as goal
use Rattle.zpl_text.proofs.lexer.lex.Goals.{In_err-token}

pub loop-token-init : goal.loop-token-init
loop-token-init c =
    record {
      cut = IsCutUpTo-none c.args.bytes.now c.args.into.now.items (omega arith);
      room =
          omega arith;
    }

-- the fault at which the cutting stops
stopped : (c : In_err-token)
    → HasFault c.args.bytes.now c.loop-token.invariant.cut.found c.in_err-token.field-0.0
stopped c =
    has_fault c.args.bytes.now c.args.into.now.items c.loop-token.into.items
    (record { rest = c.loop-token.rest.now; ditto = c.loop-token.ditto })
    c.in_err-token.field-0.0 c.loop-token.invariant.cut (c.in_err-token.ensures {u = tt}).step

pub returns-in_err-token-clause-accepts : goal.returns-in_err-token-clause-accepts
returns-in_err-token-clause-accepts c = λ tokens is.
    absurd (not_both c.args.bytes.now tokens c.loop-token.invariant.cut.found
    c.in_err-token.field-0.0 is
    (stopped (goal.at.returns-in_err-token-clause-accepts c).In_err-token))

pub returns-in_err-token-clause-refuses : goal.returns-in_err-token-clause-refuses
returns-in_err-token-clause-refuses c = λ found fault is.
    let exit = err_from_is_err_and c.from_residual.result c.from_residual.ensures.1 in
    let same = fault_unique c.args.bytes.now found c.loop-token.invariant.cut.found fault
    c.in_err-token.field-0.0 is
    (stopped (goal.at.returns-in_err-token-clause-refuses c).In_err-token) in
    inl (exit.1 ∙ ap (λ (f : LexFault). Err f) (exit.2 ∙ sym same.1))

pub loop-token-preserved : goal.loop-token-preserved
loop-token-preserved c =
    let pushed = chosen _ _ _ _ c.push.ensures.items (ap is_ok c.in_ok-push.was) in
    let found = c.in_ok-token.ensures {u = tt} in
    let step = rw c.in-Some.is at found.step in
    let shorter = rw c.in-Some.is at found.shorter in
    let here : Place = record { rest = c.loop-token.rest.now; ditto = c.loop-token.ditto } in
    let next : Place =
    record { rest = c.in-Some.after.now; ditto = opens_ditto c.in-Some.token.kind } in
    let more = IsCutUpTo-more c.args.bytes.now c.args.into.now.items c.loop-token.into.items here
    next c.in-Some.token c.loop-token.invariant.cut step
    (omega (arith, shorter, c.loop-token.invariant.cut.shorter)) in
    record {
      cut = rw (pushed, c.opens_ditto-ditto.ensures) more;
      room =
          omega (arith, c.push.ensures.capacity, c.loop-token.invariant.room);
    }

pub returns-clause-refuses : goal.returns-clause-refuses
returns-clause-refuses c = λ found fault is.
    let gap = rw c.in_default.is at (c.in_ok-token.ensures {u = tt}).step in
    let all = appends_tokens c.args.bytes.now c.args.into.now.items c.loop-token.into.items
    (record { rest = c.loop-token.rest.now; ditto = c.loop-token.ditto })
    c.loop-token.invariant.cut gap in
    absurd (not_both c.args.bytes.now all.tokens found fault all.holds is)
