-- Node code of a plan on two processors, which divide and vote.
use Rattle.std.proofs.Common.{◌≡◌, [], ◌∷◌, true, None, Some, pos, refl}
use Rattle.std.specs.Fmt.{digits}
use Rattle.std.specs.Int.{int_wrap}
use Rattle.zpl_nums.specs.declared.ends.End.TheVariants.{Done}
use Rattle.zpl_nums.specs.declared.folds.Fold.TheVariants.{Sum}
use Rattle.node_form.specs.declared.instructions.Instr.TheVariants as instr
use Rattle.node_form.specs.declared.tables.Tables.{Tables}
use Rattle.node_form.specs.declared.words.ExprOp.TheVariants as word
use Rattle.row_runs.specs.Run.{Ends, Result}
use Rattle.plan_orders.specs.of_plan_meaning.Act.{plan_run}
use Rattle.node_emit.specs.Emit.{emitted}
use Rattle.plan_orders.specs.InStep.{stops_within}

-- both add up what they have of a scalar, and print it
plan : Tables
plan = record {
  grid = 2 ∷ [];
  scalars = 1;
  cells = 0;
  slots = [];
  arrays = [];
  texts = [];
  exprs = (word.Const (pos 3) ∷ []) ∷ (word.Scalar 0 ∷ []) ∷ [];
  groups = [];
  exchanges = [];
  code = instr.Set 0 0 1 ∷ instr.Fold 0 Sum ∷ instr.Number 1 ∷ [];
}

shown : Result
shown = record { bytes = 54 ∷ []; stop = Ends Done }

planned : plan_run plan None 1 1 ≡ shown
unfolding plan shown int_wrap digits
planned = refl

along_the_tree : plan_run (emitted true (2 ∷ []) plan) (Some 1) 1 1 ≡ shown
unfolding plan shown int_wrap digits
along_the_tree = refl

stops : stops_within (emitted true (2 ∷ []) plan) None 1 1 ≡ true
unfolding plan
stops = refl
