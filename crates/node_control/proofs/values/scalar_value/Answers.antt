use Rattle.std.proofs.Common.{◌≡◌, List, [], ◌∷◌, ℤ, pos, sym, ap, ◌∙◌, subst, arith}
use Rattle.std.specs.Prelude.{Some, slice_get}
use Rattle.node_form.specs.declared.tables.Tables.{Tables}
use Rattle.node_form.specs.Value.{divided}
use Rattle.node_local.specs.Computing.{computed_by, value_here}
use Rattle.node_control.proofs.ValueLemmas.{there, told_value}
use Rattle.node_control.proofs.values.scalar_value.Goals as goal

pub returns-clause-value : goal.returns-clause-value
returns-clause-value c =
    let code = c.args.code.now in
    let local = c.args.local.now.local in
    let found = there code c.args.expr c.requires.expr in
    let here : slice_get code.exprs c.args.expr ≡ Some c.words_at-words.result.now =
    ap (λ (t : Tables). slice_get t.exprs c.args.expr) (sym c.tables.ensures.same) ∙ c.words_at-words.ensures in
    let both : Some c.words_at-words.result.now ≡ Some found.words = sym here ∙ found.found in
    let same : c.words_at-words.result.now ≡ found.words = cc in
    let zeros : List ℤ = pos 0 ∷ pos 0 ∷ pos 0 ∷ [] in
    told_value code local zeros c.args.expr found.words c.value_here.result found.found found.scalar
    (c.scalar_expressions_lack_nothing.ensures code local.scalars found.words
    (c.rows_fit.ensures.expr code c.args.expr found.words c.tables.ensures.fits found.found) found.scalar
    (omega (arith, c.requires.can.scalars)))
    (subst (λ words. value_here local zeros words ≡ computed_by c.value_here.result) same c.value_here.ensures.value)
    ∙ ap divided (sym c.ok.ensures.value)
