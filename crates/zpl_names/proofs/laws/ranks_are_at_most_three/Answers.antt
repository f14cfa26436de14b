use Rattle.zpl_names.proofs.RankLemmas.{rank_of-fits, operand-fits, inner-fits}
use Rattle.zpl_names.proofs.ShapeLemmas.{by_recursion}
use Rattle.zpl_names.proofs.laws.ranks_are_at_most_three.Goals as goal

pub returns : goal.returns
returns c = record {
  expressions = λ scope prefix handed expr h p k. rank_of-fits scope (by_recursion scope h) prefix handed p k expr;
  operands = λ scope prefix operand h p. operand-fits scope (by_recursion scope h) prefix p operand;
  regions = λ scope hint prefix region h k p. inner-fits scope (by_recursion scope h) hint prefix k p region;
}
