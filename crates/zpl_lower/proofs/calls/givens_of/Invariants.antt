use Rattle.std.proofs.Common.{◌≡◌, ◌++◌, All, drop, map}
use Rattle.zpl_tree.specs.View.{exprs_of}
use Rattle.name_kinds.specs.Seen.{formal_of}
use Rattle.zpl_lowering.specs.Statement.{given_to}
use Rattle.lower_frames.specs.Frames.{IsGiven, given_of}
use Rattle.lower_frames.specs.of_lower_places.View.{where_of}
use Rattle.zpl_lower.proofs.calls.givens_of.Given as goal

abbrev pub invariant-loop-at : goal.invariant-loop-at
invariant-loop-at l = record {
  givens : map given_of l.givens.items ++ given_to (where_of l.place) l.scalar
      (map formal_of (drop l.at l.formals)) (exprs_of (drop l.at l.actuals))
      ≡ given_to (where_of l.place) l.initial.scalar (map formal_of l.formals)
      (exprs_of l.actuals);
  all : All IsGiven l.givens.items;
}
