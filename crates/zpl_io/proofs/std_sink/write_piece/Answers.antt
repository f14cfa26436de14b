use Rattle.std.proofs.Common.{◌++◌, take, arith}
use Rattle.std.proofs.KnownBytes.{Appends-trans}
use Rattle.std.proofs.lemmas.Grind.{common_steps}
use Rattle.zpl_io.proofs.std_sink.write_piece.Goals as goal

pub loop-rest-preserved : goal.loop-rest-preserved
loop-rest-preserved g c = record {
  written = c.loop-rest.invariant.written ++ take c.in-Ok.count c.loop-rest.rest.now;
  joins = grind (arith, common_steps);
  gained = Appends-trans _ _ _ _ _ c.loop-rest.invariant.gained c.in-Ok.ensures.bytes;
}
