use Rattle.std.proofs.Common.{ℕ, List, [], drop, refl}
use Rattle.node_form.specs.declared.tables.Tables.{Tables}
use Rattle.node_form.specs.declared.words.ExprOp.{ExprOp}
use Rattle.listing_rules.specs.declared.parts.Part.TheVariants as part
use Rattle.listing_rules.specs.Reads.{Stops}
use Rattle.listing_rules.specs.Rules.{belongs, IsTextLine, IsExprLine}
use Rattle.listing_rules.specs.Stages.{Breaks, AtText, AtExpr, ReadTexts}
use Rattle.listing_rules.proofs.ReadsLemmas.{fault_passed}
use Rattle.listing_rules.proofs.tables.read_words.Goals as goal

pub returns-in_err-texts-clause-err : goal.returns-in_err-texts-clause-err
returns-in_err-texts-clause-err c =
    let lines = c.args.lines.now in
    fault_passed (Stops (belongs part.Texts) (λ (done : List (List ℕ)). IsTextLine) [] (drop c.in_ok-tables.at lines)) (Breaks lines) lines _ _ c.from_residual-in_err-texts.ensures.1 c.in_err-texts.ensures.err
    (λ left stops. AtText c.in_ok-tables.tables (drop c.in_ok-tables.at lines) left c.in_ok-tables.ensures.ok c.in_ok-tables.ensures.room stops)

pub returns-in_err-exprs-clause-err : goal.returns-in_err-exprs-clause-err
returns-in_err-exprs-clause-err c =
    let lines = c.args.lines.now in
    let tables : Tables = record c.in_ok-tables.tables { texts = c.in_ok-texts.texts } in
    let read : ReadTexts lines tables (drop c.in_ok-texts.at lines) = record { before = c.in_ok-tables.tables; behind = drop c.in_ok-tables.at lines; arrays = c.in_ok-tables.ensures.ok; room = c.in_ok-tables.ensures.room; rows = c.in_ok-texts.texts; reads = c.in_ok-texts.ensures.ok; made = refl } in
    fault_passed (Stops (belongs part.Exprs) (λ (done : List (List ExprOp)). IsExprLine tables) [] (drop c.in_ok-texts.at lines)) (Breaks lines) lines _ _ c.from_residual-in_err-exprs.ensures.1 c.in_err-exprs.ensures.err
    (λ left stops. AtExpr tables (drop c.in_ok-texts.at lines) left read stops)

pub returns-clause-ok : goal.returns-clause-ok
returns-clause-ok c =
    let lines = c.args.lines.now in
    let tables : Tables = record c.in_ok-tables.tables { texts = c.in_ok-texts.texts } in
    let read : ReadTexts lines tables (drop c.in_ok-texts.at lines) = record { before = c.in_ok-tables.tables; behind = drop c.in_ok-tables.at lines; arrays = c.in_ok-tables.ensures.ok; room = c.in_ok-tables.ensures.room; rows = c.in_ok-texts.texts; reads = c.in_ok-texts.ensures.ok; made = refl } in
    record { before = tables; behind = drop c.in_ok-texts.at lines; texts = read; rows = c.in_ok-exprs.exprs; reads = c.in_ok-exprs.ensures.ok; made = refl }
