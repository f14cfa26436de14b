use Rattle.std.proofs.Common.{◌≡◌, ◌∙◌, ap, rules}
use Rattle.temp_norm.specs.Normalised.{temporaries, with_temporaries}
use Rattle.temp_norm.specs.Pieces.{written}
use Rattle.temp_norm.proofs.PieceLemmas.{made_is}
use Rattle.temp_norm.proofs.loops.normalise.Goals as goal

pub returns : goal.returns
returns c =
    let kinds : c.in_ok-rows.rows.items ≡ temporaries c.args.tables = search rules in
    let lent : c.deref.result.now ≡ c.in_ok-rows.rows.items = search rules in
    let lent_again : c.deref-2.result.now ≡ c.in_ok-rows.rows.items = search rules in
    let made : c.in_ok-code.field-0 ≡ written c.args.tables c.deref.result.now =
    c.in_ok-code.ensures in
    let added : c.add_temporaries.new.tables
    ≡ with_temporaries c.args.tables c.deref-2.result.now = c.in_ok-add_temporaries.ensures in
    made_is c.args.tables c.add_temporaries.new.tables c.in_ok-rows.rows.items c.in_ok-code.field-0
    kinds (added ∙ ap (with_temporaries c.args.tables) lent_again)
    (made ∙ ap (written c.args.tables) lent)
