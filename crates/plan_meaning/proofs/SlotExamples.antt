-- A plan whose slots would have other regions on one processor than on another is wrong where it
-- makes such a region.
use Rattle.std.proofs.Common.{◌≡◌, ℤ, true, [], ◌∷◌, None, pos, refl}
use Rattle.std.specs.Int.{int_wrap}
use Rattle.zpl_nums.specs.declared.folds.Fold.TheVariants as fold
use Rattle.zpl_region.specs.declared.dims.Dim.TheVariants as dim
use Rattle.zpl_region.specs.declared.regions.Region.{Region}
use Rattle.zpl_region.specs.Region.{padding}
use Rattle.flat_form.specs.of_node_form.declared.arrays.ArrayDim.{ArrayDim}
use Rattle.flat_form.specs.of_node_form.declared.arrays.ArrayDim.TheVariants as axis
use Rattle.flat_form.specs.of_node_form.declared.instructions.DimRow.TheVariants as part
use Rattle.flat_form.specs.of_node_form.declared.instructions.Instr.TheVariants as instr
use Rattle.flat_form.specs.of_node_form.declared.members.Member.TheVariants as member
use Rattle.flat_form.specs.of_node_form.declared.tables.Tables.{Tables}
use Rattle.flat_form.specs.of_node_form.declared.words.ExprOp.TheVariants as word
use Rattle.flat_form.specs.of_row_runs.Run.{Ends, Wrong}
use Rattle.zpl_nums.specs.declared.ends.End.TheVariants.{Done}
use Rattle.plan_meaning.specs.Act.{plan_run}

abbrev no_range : ArrayDim
no_range = axis.Range (pos 0) (pos 0) (pos 0) (pos 0)

abbrev from_to : ℤ → ℤ → Region
from_to lo hi =
    record { rank = 1; dims = dim.Range lo hi (pos 1) lo ∷ padding ∷ padding ∷ [] }

-- Scalar 0 is accumulated: it is 2 on processor 0 and 3 on processor 1, until it is folded. So slot
-- 1 would be 1..2 on the one and 1..3 on the other.
abbrev apart : Tables
apart = record {
  grid = 2 ∷ 0 ∷ 0 ∷ [];
  scalars = 1;
  cells = 0;
  slots = 1 ∷ 1 ∷ [];
  arrays =
      (record {
        rank = 1;
        stored = true;
        dims = axis.Range (pos 1) (pos 4) (pos 0) (pos 0) ∷ no_range ∷ no_range ∷ [];
      })
      ∷ [];
  texts = [];
  exprs =
      (word.Coord 1 ∷ [])
      ∷ (word.Const (pos 1) ∷ [])
      ∷ (word.Scalar 0 ∷ [])
      ∷ [];
  groups = (member.Acc 0 fold.Sum 0 None 8 ∷ []) ∷ [];
  exchanges = [];
  code =
      instr.Fix 0 (from_to (pos 2) (pos 3))
      ∷ instr.Loop 0 0
      ∷ instr.Dims 1 (part.Span 1 2 ∷ part.Star ∷ part.Star ∷ []) 5
      ∷ instr.End
      ∷ [];
}

-- where the fold comes first, both are 1..5
abbrev together : Tables
together = record apart {
  code =
      instr.Fix 0 (from_to (pos 2) (pos 3))
      ∷ instr.Loop 0 0
      ∷ instr.Fold 0 fold.Sum
      ∷ instr.Dims 1 (part.Span 1 2 ∷ part.Star ∷ part.Star ∷ []) 5
      ∷ instr.End
      ∷ [];
}

apart_is_wrong : plan_run apart None 1 0 ≡ record { bytes = []; stop = Wrong }
unfolding int_wrap
apart_is_wrong = refl

together_ends : plan_run together None 1 0 ≡ record { bytes = []; stop = Ends Done }
unfolding int_wrap
together_ends = refl
