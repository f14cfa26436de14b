use Rattle.zpl_tree.specs.View.{syntax_of}
use Rattle.rank_types.proofs.JudgeLemmas.{entry-lacks, entry-there}
use Rattle.rank_types.proofs.checks.check_entry.Goals as goal

pub returns-then-has_entry-clause-ok : goal.returns-then-has_entry-clause-ok
returns-then-has_entry-clause-ok c =
    entry-there (syntax_of c.args.text.now.program.now) c.has_entry.result c.has_entry.ensures
    c.if-has_entry.true

pub returns-else-has_entry-clause-err : goal.returns-else-has_entry-clause-err
returns-else-has_entry-clause-err c =
    entry-lacks (syntax_of c.args.text.now.program.now) c.has_entry.result c.has_entry.ensures
    c.if-has_entry.false
