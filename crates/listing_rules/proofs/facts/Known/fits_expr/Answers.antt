use Rattle.std.proofs.Common.{◌≡◌, Bool, sym, subst, rules}
use Rattle.std.specs.Prelude.{IsTrue, ◌↔◌}
use Rattle.node_form.specs.Expression.{IsExpression}
use Rattle.node_form.specs.Fits.{FitsExpr}
use Rattle.listing_rules.specs.Ranks.{any_bit}
use Rattle.listing_rules.proofs.GroupLemmas.{expr_fits}
use Rattle.listing_rules.proofs.facts.Known.fits_expr.Goals as goal

pub returns-then-is_expression : goal.returns-then-is_expression
returns-then-is_expression c =
    let is : IsExpression c.args.words.now = search rules in
    let e : c.any.result ≡ any_bit c.expr_facts.result.ranks = search rules in
    subst (λ (b : Bool). IsTrue b ↔ FitsExpr c.args.self.now.tables c.args.words.now) (sym e)
    (expr_fits c.args.self.now.tables c.args.words.now c.expr_facts.result c.expr_facts.ensures is)
