use Rattle.std.proofs.Common.{◌∙◌}
use Rattle.fuse_contract.proofs.StateLemmas.{some_name}
use Rattle.fuse_contract.proofs.states.names.Goals as goal

pub returns : goal.returns
returns c = c.some_names.ensures ∙ some_name c.args.array c.args.words.now
