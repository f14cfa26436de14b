use Rattle.std.proofs.Common.{◌∙◌, ap, fold, List}
use Rattle.temp_norm.specs.of_code_parts.Uses.{member_words}
use Rattle.fuse_contract.specs.Naming.{word_noted}
use Rattle.fuse_contract.specs.declared.states.CellState.{CellState}
use Rattle.fuse_contract.proofs.UseLemmas.{both_exprs}
use Rattle.fuse_contract.proofs.states.note_member.Goals as goal

pub returns : goal.returns
returns c =
    both_exprs (word_noted c.args.group) c.args.tables.now c.args.member.now
    c.exprs_of-expr.result.expr c.exprs_of-expr.result.mask c.note_put.new.states.items
    c.note_words.new.states.items c.note_words-2.new.states.items c.exprs_of-expr.ensures
    c.note_words.ensures c.note_words-2.ensures
    ∙ ap (λ (states : List CellState). fold (word_noted c.args.group) states
    (member_words c.args.tables.now c.args.member.now)) c.note_put.ensures
