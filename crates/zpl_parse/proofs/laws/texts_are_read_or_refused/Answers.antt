use Rattle.std.proofs.Common.{suc, length}
use Rattle.zpl_parse.proofs.Answering.{read_or_refused}
use Rattle.zpl_parse.proofs.laws.texts_are_read_or_refused.Goals as goal

pub returns : goal.returns
returns c = λ text tokens are.
    let told = c.rules_tell_trees_and_faults.ensures in
    read_or_refused text tokens (λ tree rest. told.tree text tokens (suc (length tokens)) tree rest
    are) (λ at. told.syntax text tokens at are) (told.too_deep text tokens are)
