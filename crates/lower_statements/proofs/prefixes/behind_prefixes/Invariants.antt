use Rattle.std.proofs.Common.{◌≡◌, drop, map}
use Rattle.zpl_tree.specs.View.{prefix_of}
use Rattle.zpl_lowering.specs.Lowered.{Lowered}
use Rattle.zpl_lowering.specs.Statement.{Calling, Lowering}
use Rattle.zpl_lowering.specs.Where.{Next}
use Rattle.lower_points.specs.of_lower_places.Sound.{IsPlace}
use Rattle.lower_points.specs.of_lower_places.View.{where_of}
use Rattle.lower_points.specs.Fit.{AreFitPrefixes}
use Rattle.lower_statements.proofs.PrefixLemmas.{ahead}
use Rattle.lower_statements.proofs.prefixes.behind_prefixes.Given as goal

abbrev pub invariant-loop-number : goal.invariant-loop-number
invariant-loop-number l = record {
  behind : (call : Calling → Next → Lowered) (rest : Lowering → Next → Lowered) →
      ahead l.borders call rest (where_of l.inner) l.draft
      (map prefix_of (drop l.number l.prefixes))
      ≡ ahead l.borders call rest (where_of l.place) l.initial.draft (map prefix_of l.prefixes);
  place : IsPlace l.inner;
  fit : AreFitPrefixes (map prefix_of (drop l.number l.prefixes));
}
