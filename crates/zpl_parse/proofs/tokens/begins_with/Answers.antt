use Rattle.zpl_parse.proofs.Sames.{begins_same}
use Rattle.zpl_parse.proofs.tokens.begins_with.Goals as goal

pub returns-clause-is : goal.returns-clause-is
returns-clause-is c = λ text. begins_same c.has_first.result c.args.wanted text c.args.tokens.now c.requires c.has_first.ensures
