-- A shattered loop over two of four places: each counts up to 3 by itself.
use Rattle.std.proofs.Common.{◌≡◌, refl, true, List, [], ◌∷◌, ℤ, pos, None, Some}
use Rattle.std.specs.Int.{int_wrap}
use Rattle.zpl_nums.specs.declared.ends.End.TheVariants.{More}
use Rattle.zpl_nums.specs.declared.operators.Op.TheVariants as op
use Rattle.zpl_region.specs.declared.regions.Region.{Region}
use Rattle.zpl_region.specs.Hull.{all_from}
use Rattle.zpl_region.specs.Region.{padding}
use Rattle.zpl_meaning.specs.Points.{at_tuple}
use Rattle.zpl_meaning.specs.Store.{Store}
use Rattle.node_form.specs.declared.arrays.ArrayDim.TheVariants.{Range}
use Rattle.node_form.specs.declared.arrays.ArrayRow.{ArrayRow}
use Rattle.node_form.specs.declared.tables.Tables.{Tables}
use Rattle.node_form.specs.declared.words.ExprOp.TheVariants.{Here, Const, Pair}
use Rattle.row_runs.specs.Run.{Goes, Stops, Ends}
use Rattle.flat_form.specs.Loop.{Puts, looped}
use Rattle.flat_form.specs.Row.{Member, OpenWhile, Put, CloseWhile}
use Rattle.flat_form.specs.Whole.{Whole}
use Rattle.array_runs.specs.of_zpl_lowering.Where.{Stored}
use Rattle.array_runs.specs.of_lowering_runs.Seen.{seen_store}
use Rattle.point_runs.specs.Own.{own_store}

abbrev line : ℤ → ℤ → Region
line lo hi = record { rank = 1; dims = all_from lo hi ∷ padding ∷ padding ∷ [] }

abbrev row : ArrayRow
row = record {
  rank = 1;
  stored = true;
  dims = Range (pos 1) (pos 4) (pos 0) (pos 0) ∷ Range (pos 0) (pos 0) (pos 0) (pos 0)
      ∷ Range (pos 0) (pos 0) (pos 0) (pos 0) ∷ [];
}

abbrev tables : Tables
tables = record {
  grid = 1 ∷ 0 ∷ 0 ∷ [];
  scalars = 0;
  cells = 0;
  slots = 1 ∷ [];
  arrays = row ∷ [];
  texts = [];
  exprs = [];
  groups = [];
  exchanges = [];
  code = [];
}

abbrev state : List ℤ → Whole
state values = record {
  scalars = [];
  awaited = [];
  slots = line (pos 2) (pos 3) ∷ [];
  stores = record { storage = line (pos 1) (pos 4); values = values } ∷ [];
}

abbrev before : Whole
before = state (pos 5 ∷ pos 1 ∷ pos 2 ∷ pos 8 ∷ [])

-- while A < 3 do A := A + 1; end;
abbrev group : List Member
group =
    OpenWhile (Here 0 ∷ Const (pos 3) ∷ Pair op.Lt ∷ []) None 9
    ∷ Put 0 (Here 0 ∷ Const (pos 1) ∷ Pair op.Add ∷ []) None 9 ∷ CloseWhile ∷ []

loop_comes : looped tables 2 group before (Some (line (pos 2) (pos 3)))
    ≡ Goes [] (state (pos 5 ∷ pos 3 ∷ pos 3 ∷ pos 8 ∷ []))
unfolding int_wrap
loop_comes = refl

-- the first of the two wants a second turn
loop_wants : looped tables 1 group before (Some (line (pos 2) (pos 3))) ≡ Stops (Ends More)
unfolding int_wrap
loop_wants = refl

-- what the first has of its own, at first and behind two turns
abbrev stored : List Stored
stored = record { array = 0; storage = line (pos 1) (pos 4) } ∷ []

abbrev first : List ℤ
first = pos 2 ∷ pos 0 ∷ pos 0 ∷ []

abbrev own : ℤ → Store
own value = record {
  scalars = [];
  arrays = record {
    storage = record {
      rank = 1;
      dims = all_from (pos 2) (pos 2) ∷ all_from (pos 0) (pos 0) ∷ all_from (pos 0) (pos 0) ∷ [];
    };
    values = value ∷ [];
  } ∷ [];
}

begins : at_tuple first (seen_store [] stored before) ≡ own (pos 1)
begins = refl

behind : own_store [] stored before first (Puts 0 (pos 3) ∷ Puts 0 (pos 2) ∷ []) ≡ own (pos 3)
behind = refl
