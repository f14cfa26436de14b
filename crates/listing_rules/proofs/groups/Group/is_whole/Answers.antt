use Rattle.std.proofs.Common.{◌≡◌, Bool, length, sym, subst, rules}
use Rattle.std.specs.Prelude.{IsTrue, ◌↔◌, ◌==◌}
use Rattle.node_form.specs.Fits.{FitsGroup}
use Rattle.listing_rules.proofs.GroupLemmas.{whole_tells}
use Rattle.listing_rules.proofs.groups.Group.is_whole.Goals as goal

pub returns : goal.returns
returns c = λ tables are.
    let e : c.is_empty.result ≡ (length c.args.self.now.kept.items == 0) = search rules in
    subst (λ (b : Bool). IsTrue b ↔ FitsGroup tables c.args.self.now.members.items) (sym e)
    (whole_tells tables c.args.self.now.members.items c.args.self.now.ranks c.args.self.now.kept.items are)
