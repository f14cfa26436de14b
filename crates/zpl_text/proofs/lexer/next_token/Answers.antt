use Rattle.zpl_text.specs.Cutting.{open_comment}
use Rattle.zpl_text.proofs.lexer.next_token.Goals as goal

pub returns-in-Err-clause-step : goal.returns-in-Err-clause-step
returns-in-Err-clause-step c =
    let found = c.in-Err.ensures {u = tt} in
    record {
      begin = c.in-Err.comment.now;
      skips = found.skipped.0;
      wrong =
          rw c.offset_of.ensures (open_comment found.skipped.1);
    }
