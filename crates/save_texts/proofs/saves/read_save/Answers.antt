use Rattle.save_texts.proofs.OneFault.{told_right}
use Rattle.save_texts.proofs.saves.read_save.Goals as goal

pub returns-clause-told : goal.returns-clause-told
returns-clause-told c = λ code grid is.
    told_right c.args.bytes.now code grid c.read_text.result is (c.texts_tell_one_grid.ensures c.args.bytes.now)
    (λ why explains. c.texts_are_saved_or_faulty.ensures.saved c.args.bytes.now code grid why is explains) c.read_text.ensures.ok c.read_text.ensures.err
