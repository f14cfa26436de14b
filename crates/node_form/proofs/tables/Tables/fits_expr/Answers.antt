use Rattle.std.proofs.Common.{◌≡◌, ℕ, false, true, sym, ◌∙◌, arith}
use Rattle.std.specs.Prelude.{All}
use Rattle.node_form.specs.Fits.{FitsExpr, FitsWord}
use Rattle.node_form.proofs.RankLemmas.{at_three, expr_at}
use Rattle.node_form.proofs.tables.Tables.fits_expr.Goals.{then-words_fit, else-words_fit}
use Rattle.node_form.proofs.tables.Tables.fits_expr.Goals as goal

pub returns-then-words_fit-2 : goal.returns-then-words_fit-2
returns-then-words_fit-2 c =
    let stack = c.is_expression.ensures.0 c.if-is_expression.true in
    let fits : FitsExpr c.args.self.now c.args.words.now =
    elim c.if-words_fit.branch [
      | then-words_fit w ↦ expr_at c.args.self.now c.args.words.now 1 stack (omega arith, omega arith) (c.words_fit.ensures.0 w.if-words_fit.true)
      | else-words_fit w ↦ expr_at c.args.self.now c.args.words.now 2 stack (omega arith, omega arith) (w.words_fit-else-words_fit.ensures.0 (sym w.value-is ∙ c.if-words_fit-2.true))
    ] in
    (λ _. fits, λ _. c.if-words_fit-2.true)

pub returns-else-words_fit-2 : goal.returns-else-words_fit-2
returns-else-words_fit-2 c =
    let stack = c.is_expression.ensures.0 c.if-is_expression.true in
    let fit : ℕ → Type 0 = λ rank. All (FitsWord c.args.self.now rank) c.args.words.now in
    let three : FitsExpr c.args.self.now c.args.words.now → fit 3 =
    elim c.if-words_fit.branch [
      | then-words_fit w ↦ λ fits. let e : true ≡ false = sym w.if-words_fit.true ∙ (sym w.value-is ∙ c.if-words_fit-2.false) in cc
      | else-words_fit w ↦ λ fits. at_three fit (λ one. let e : true ≡ false = sym (c.words_fit.ensures.1 one) ∙ w.if-words_fit.false in cc) (λ two. let e : true ≡ false = sym (w.words_fit-else-words_fit.ensures.1 two) ∙ (sym w.value-is ∙ c.if-words_fit-2.false) in cc) fits.rank fits.is_rank fits.fit
    ] in
    (λ yes. expr_at c.args.self.now c.args.words.now 3 stack (omega arith, omega arith) (c.words_fit-else-words_fit-2.ensures.0 yes), λ fits. c.words_fit-else-words_fit-2.ensures.1 (three fits))
