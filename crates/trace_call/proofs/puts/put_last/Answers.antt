use Rattle.std.proofs.Common.{rules}
use Rattle.zpl_io.specs.Sink.{Takes, TakesFront}
use Rattle.trace_call.specs.Telling.IsPutLast.{cut, whole}
use Rattle.trace_call.proofs.puts.put_last.Goals as goal

pub returns-in-Ok-clause-put : goal.returns-in-Ok-clause-put
returns-in-Ok-clause-put g c =
    let takes : Takes (g.O.Sink.tells c.args.out.now) c.args.lines.now
    (g.O.Sink.tells c.put_piece.new.sink) = search rules in
    whole takes

pub returns-in-Err-clause-put : goal.returns-in-Err-clause-put
returns-in-Err-clause-put g c =
    let takes : TakesFront (g.O.Sink.tells c.args.out.now) c.args.lines.now
    (g.O.Sink.tells c.put_piece.new.sink) = search rules in
    cut takes
