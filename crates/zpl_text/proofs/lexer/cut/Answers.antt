use Rattle.zpl_text.specs.Cutting.{no_token}
use Rattle.zpl_text.proofs.lexer.cut.Goals as goal

pub returns-in-Some-clause-cut : goal.returns-in-Some-clause-cut
returns-in-Some-clause-cut c = let found = c.in-Some.ensures {u = tt} in
    (found.cut c.args.ditto, tt)

pub returns-in_default-clause-cut : goal.returns-in_default-clause-cut
returns-in_default-clause-cut c =
    let none = c.in_default.ensures {u = tt} in
    rw c.offset_of.ensures (no_token c.requires.past_gap none.cut)
