-- A fold of a fold over three places: its rows, what they do to a state, and the field that the term
-- has.
use Rattle.std.proofs.Common.{◌≡◌, refl, true, false, List, [], ◌∷◌, ℤ, pos, None}
use Rattle.std.specs.Int.{int_wrap}
use Rattle.zpl_nums.specs.declared.folds.Fold.TheVariants.{Sum}
use Rattle.zpl_nums.specs.declared.operators.Op.TheVariants as op
use Rattle.zpl_region.specs.declared.regions.Region.{Region}
use Rattle.zpl_region.specs.Hull.{all_from}
use Rattle.zpl_region.specs.Region.{padding}
use Rattle.zpl_arrays.specs.Array.{Array}
use Rattle.zpl_meaning.specs.Computed as mean
use Rattle.zpl_meaning.specs.Computed.{computed_then}
use Rattle.zpl_meaning.specs.Store.{Store}
use Rattle.zpl_meaning.specs.Term as term
use Rattle.zpl_meaning.specs.Term.{Term}
use Rattle.zpl_meaning.specs.Fields.{field_of}
use Rattle.node_form.specs.declared.arrays.ArrayDim.TheVariants.{Range}
use Rattle.node_form.specs.declared.arrays.ArrayRow.{ArrayRow}
use Rattle.node_form.specs.declared.instructions.Instr.TheVariants as instr
use Rattle.node_form.specs.declared.tables.Tables.{Tables}
use Rattle.node_form.specs.declared.words.ExprOp.TheVariants as word
use Rattle.node_form.specs.Expression.{Variable}
use Rattle.row_runs.specs.Structured.{flattened, goes_on}
use Rattle.flat_form.specs.Row as row
use Rattle.flat_form.specs.Whole.{Whole}
use Rattle.print_runs.specs.of_zpl_lowering.Where.{Numbers, Slotted}
use Rattle.print_runs.specs.of_zpl_lowering.Slate as slate
use Rattle.print_runs.specs.of_zpl_lowering.Slate.{Slate}
use Rattle.print_runs.specs.of_zpl_lowering.Hoist.{Free, hoisted}
use Rattle.row_runs.specs.Code.{Straight}
use Rattle.print_runs.specs.of_lowering_runs.Run.{does}
use Rattle.operator_runs.specs.Hoists.{tests_of}

abbrev line : Region
line = record { rank = 1; dims = all_from (pos 1) (pos 3) ∷ padding ∷ padding ∷ [] }

abbrev array_row : ArrayRow
array_row = record {
  rank = 1;
  stored = true;
  dims = Range (pos 1) (pos 3) (pos 0) (pos 0) ∷ Range (pos 0) (pos 0) (pos 0) (pos 0)
      ∷ Range (pos 0) (pos 0) (pos 0) (pos 0) ∷ [];
}

abbrev tables : Tables
tables = record {
  grid = 1 ∷ 0 ∷ 0 ∷ [];
  scalars = 2;
  cells = 0;
  slots = 1 ∷ [];
  arrays = array_row ∷ [];
  texts = [];
  exprs = [];
  groups = [];
  exchanges = [];
  code = [];
}

abbrev array : Array
array = record { storage = line; values = pos 4 ∷ pos 5 ∷ pos 6 ∷ [] }

abbrev state : List ℤ → Whole
state scalars = record {
  scalars = scalars;
  awaited = None ∷ None ∷ [];
  slots = line ∷ [];
  stores = array ∷ [];
}

abbrev numbers : Numbers
numbers = record { scalars = []; arrays = record { array = 0; storage = line } ∷ [] }

abbrev over : Slotted
over = record { slot = 0; flood = false ∷ []; mask = None }

-- `+<<(A * +<<A)`
abbrev one : Slate
one =
    slate.Folded Sum over
    (slate.Binary op.Mul (slate.Element 0 0 []) (slate.Folded Sum over (slate.Element 0 0 [])))

abbrev free : Free
free = record { scalars = 0; temps = 1 }

rows_are : flattened 0 (hoisted numbers 7 free one).code ≡ (
    Straight (row.Set 0 (word.Const (pos 0) ∷ []) 7) ∷
    Straight (row.Loop 0 (row.Acc 0 Sum (word.Here 0 ∷ []) None 7 ∷ [])) ∷
    Straight (row.Plain (instr.Fold 0 Sum)) ∷
    Straight (row.Set 1 (word.Const (pos 0) ∷ []) 7) ∷
    Straight (row.Loop 0 (row.Acc 1 Sum (word.Here 0 ∷ word.Scalar 0 ∷ word.Pair op.Mul ∷ []) None 7
    ∷ [])) ∷
    Straight (row.Plain (instr.Fold 1 Sum)) ∷ [])
rows_are = refl

left_is : (hoisted numbers 7 free one).left ≡ Variable 1
left_is = refl

rows_do_it : does tables 0 (hoisted numbers 7 free one).code (state (pos 0 ∷ pos 0 ∷ []))
    ≡ goes_on (state (pos 15 ∷ pos 225 ∷ []))
unfolding int_wrap
rows_do_it = refl

abbrev store : Store
store = record { scalars = []; arrays = array ∷ [] }

abbrev meant : Term
meant =
    term.Folded Sum (record { region = line; mask = None })
    (term.Binary op.Mul (term.Element line 0 [])
    (term.Folded Sum (record { region = line; mask = None }) (term.Element line 0 [])))

field_is : computed_then (field_of store meant) (λ field. field []) ≡ mean.Gives (pos 225)
unfolding int_wrap
field_is = refl

no_tests : tests_of one ≡ 0
no_tests = refl
