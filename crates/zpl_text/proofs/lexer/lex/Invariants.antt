use Rattle.std.proofs.Common.{◌≤◌, length}
use Rattle.std.specs.Vec.{vec_capacity}
use Rattle.zpl_text.proofs.Lexing.{IsCutUpTo}
use Rattle.zpl_text.proofs.lexer.lex.Given as goal

abbrev pub invariant-loop-token : goal.invariant-loop-token
invariant-loop-token l = record {
  cut : IsCutUpTo l.bytes l.fn.into.items l.into.items (record { rest = l.rest; ditto = l.ditto });
  room : vec_capacity l.fn.into ≤ vec_capacity l.into;
}

abbrev pub decreases-loop-token : goal.decreases-loop-token
decreases-loop-token l = length l.rest
