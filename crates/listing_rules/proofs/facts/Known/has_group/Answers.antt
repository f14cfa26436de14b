use Rattle.std.proofs.Common.{◌≡◌, ℕ, Bool, sym, subst, rules}
use Rattle.std.specs.Prelude.{All, IsTrue, ◌↔◌, Some, None, slice_get}
use Rattle.node_form.specs.Fits.{FitsMember}
use Rattle.listing_rules.specs.Facts.{AreGroupFacts}
use Rattle.listing_rules.specs.Ranks.{bit}
use Rattle.listing_rules.proofs.FactsLemmas.{bit_tells, told, untold}
use Rattle.listing_rules.proofs.facts.Known.has_group.Goals as goal

pub returns-in-Some : goal.returns-in-Some
returns-in-Some c =
    let t = c.args.self.now.tables in
    let facts = c.in-Some.ranks.now in
    let found : slice_get c.args.self.now.groups c.args.group ≡ Some facts = search rules in
    let e : c.at.result ≡ bit c.args.rank facts = search rules in
    told (AreGroupFacts t) (All (FitsMember t c.args.rank)) (IsTrue c.at.result) t.groups c.args.self.now.groups c.args.group facts c.requires.knows.groups found
    (λ words are. subst (λ (b : Bool). IsTrue b ↔ All (FitsMember t c.args.rank) words) (sym e) (bit_tells (λ (rank : ℕ). All (FitsMember t rank) words) facts c.args.rank are c.requires.rank))

pub returns-in-None : goal.returns-in-None
returns-in-None c =
    let t = c.args.self.now.tables in
    let none : slice_get c.args.self.now.groups c.args.group ≡ None = search rules in
    (λ h. cc, λ h. absurd (untold (AreGroupFacts t) (All (FitsMember t c.args.rank)) t.groups c.args.self.now.groups c.args.group c.requires.knows.groups none h))
