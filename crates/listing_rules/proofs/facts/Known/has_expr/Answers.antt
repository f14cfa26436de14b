use Rattle.std.proofs.Common.{◌≡◌, ℕ, Bool, sym, subst, rules}
use Rattle.std.specs.Prelude.{All, IsTrue, ◌↔◌, Some, None, slice_get}
use Rattle.node_form.specs.Fits.{FitsWord}
use Rattle.listing_rules.specs.Facts.{AreExprFacts}
use Rattle.listing_rules.specs.Ranks.{bit}
use Rattle.listing_rules.proofs.FactsLemmas.{bit_tells, told, untold}
use Rattle.listing_rules.proofs.facts.Known.has_expr.Goals as goal

pub returns-in-Some : goal.returns-in-Some
returns-in-Some c =
    let t = c.args.self.now.tables in
    let facts = c.in-Some.facts.now in
    let found : slice_get c.args.self.now.exprs c.args.expr ≡ Some facts = search rules in
    let e : c.at.result ≡ bit c.args.rank facts.ranks = search rules in
    told (AreExprFacts t) (All (FitsWord t c.args.rank)) (IsTrue c.at.result) t.exprs c.args.self.now.exprs c.args.expr facts c.requires.knows.exprs found
    (λ words are. subst (λ (b : Bool). IsTrue b ↔ All (FitsWord t c.args.rank) words) (sym e) (bit_tells (λ (rank : ℕ). All (FitsWord t rank) words) facts.ranks c.args.rank are.ranks c.requires.rank))

pub returns-in-None : goal.returns-in-None
returns-in-None c =
    let t = c.args.self.now.tables in
    let none : slice_get c.args.self.now.exprs c.args.expr ≡ None = search rules in
    (λ h. cc, λ h. absurd (untold (AreExprFacts t) (All (FitsWord t c.args.rank)) t.exprs c.args.self.now.exprs c.args.expr c.requires.knows.exprs none h))
