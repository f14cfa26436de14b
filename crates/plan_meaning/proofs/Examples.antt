-- A plan on two processors, row by row, and the flat program that it is made of.
use Rattle.std.proofs.Common.{◌≡◌, ℕ, ℤ, true, false, List, [], ◌∷◌, Some, None}
use Rattle.std.proofs.Common.{pos, negsuc, codes, refl}
use Rattle.std.specs.Fmt.{digits}
use Rattle.std.specs.Int.{int_wrap}
use Rattle.zpl_nums.specs.declared.ends.End.TheVariants.{Done, More, Trap}
use Rattle.zpl_nums.specs.declared.operators.Op.TheVariants as op
use Rattle.zpl_nums.specs.declared.ends.Border.TheVariants as border
use Rattle.zpl_nums.specs.declared.ends.TrapKind.TheVariants as trap
use Rattle.zpl_nums.specs.declared.folds.Fold.TheVariants as fold
use Rattle.zpl_region.specs.declared.dims.Dim.{Dim}
use Rattle.zpl_region.specs.declared.dims.Dim.TheVariants as dim
use Rattle.zpl_region.specs.declared.regions.Region.{Region}
use Rattle.zpl_region.specs.Region.{padding}
use Rattle.flat_form.specs.of_node_form.declared.arrays.ArrayDim.{ArrayDim}
use Rattle.flat_form.specs.of_node_form.declared.arrays.ArrayDim.TheVariants as axis
use Rattle.flat_form.specs.of_node_form.declared.arrays.ArrayRow.{ArrayRow}
use Rattle.flat_form.specs.of_node_form.declared.arrays.Item.{Item}
use Rattle.flat_form.specs.of_node_form.declared.instructions.Instr.TheVariants as instr
use Rattle.flat_form.specs.of_node_form.declared.instructions.RegionForm.TheVariants as form
use Rattle.flat_form.specs.of_node_form.declared.instructions.SameKind.TheVariants as same_kind
use Rattle.flat_form.specs.of_node_form.declared.members.Member.TheVariants as member
use Rattle.flat_form.specs.of_node_form.declared.tables.Tables.{Tables}
use Rattle.flat_form.specs.of_node_form.declared.words.ExprOp.TheVariants as word
use Rattle.flat_form.specs.of_row_runs.Run.{Ends, Wrong}
use Rattle.flat_form.specs.Act.{flat_run}
use Rattle.plan_meaning.specs.Act.{plan_run}

abbrev no_range : ArrayDim
no_range = axis.Range (pos 0) (pos 0) (pos 0) (pos 0)

abbrev over_line : ArrayDim → ArrayRow
over_line one = record { rank = 1; stored = true; dims = one ∷ no_range ∷ no_range ∷ [] }

abbrev temporary : ArrayRow
temporary = record { rank = 1; stored = false; dims = no_range ∷ no_range ∷ no_range ∷ [] }

abbrev along : ℤ → List ℤ
along d = d ∷ pos 0 ∷ pos 0 ∷ []

abbrev line : Dim → Region
line one = record { rank = 1; dims = one ∷ padding ∷ padding ∷ [] }

abbrev item : ℕ → ℕ → List ℤ → Item
item array slot shift = record { array = array; slot = slot; shift = shift }

-- ---- a shifted read
abbrev shifted : Tables
shifted = record {
  grid = 1 ∷ 0 ∷ 0 ∷ [];
  scalars = 0;
  cells = 0;
  slots = 1 ∷ 1 ∷ 1 ∷ [];
  arrays =
      over_line (axis.Range (pos 1) (pos 4) (pos 0) (pos 1))
      ∷ over_line (axis.Range (pos 1) (pos 4) (pos 0) (pos 0))
      ∷ temporary
      ∷ [];
  texts = [];
  exprs =
      (word.Coord 1 ∷ [])
      ∷ (word.Shifted 0 (along (pos 1)) ∷ [])
      ∷ (word.Here 1 ∷ [])
      ∷ [];
  groups =
      (member.Put 0 0 None 7 ∷ [])
      ∷ (member.Put 1 1 None 8 ∷ [])
      ∷ (member.Put 2 2 None 9 ∷ [])
      ∷ [];
  exchanges = [];
  code =
      instr.Fix 0 (line (dim.Range (pos 1) (pos 4) (pos 1) (pos 1)))
      ∷ instr.Loop 0 0
      ∷ instr.Fix 1 (line (dim.Range (pos 1) (pos 3) (pos 1) (pos 1)))
      ∷ instr.Loop 1 1
      ∷ instr.Fix 2 (line (dim.Range (pos 1) (pos 3) (pos 1) (pos 1)))
      ∷ instr.Room 2 2
      ∷ instr.Loop 2 2
      ∷ instr.Gather false 2 2
      ∷ instr.End
      ∷ [];
}

shifted_shows :
    flat_run shifted 1 0 ≡ record { bytes = codes "2 3 4"; stop = Ends Done }
unfolding int_wrap digits
shifted_shows = refl

-- its plan
abbrev shifted_plan : Tables
shifted_plan = record shifted {
  grid = 2 ∷ 0 ∷ 0 ∷ [];
  exchanges =
      (item 0 1 (along (pos 1)) ∷ [])
      ∷ [];
  code =
      instr.Fix 0 (line (dim.Range (pos 1) (pos 4) (pos 1) (pos 1)))
      ∷ instr.Loop 0 0
      ∷ instr.Fix 1 (line (dim.Range (pos 1) (pos 3) (pos 1) (pos 1)))
      ∷ instr.Start 0
      ∷ instr.Finish 0
      ∷ instr.Loop 1 1
      ∷ instr.Fix 2 (line (dim.Range (pos 1) (pos 3) (pos 1) (pos 1)))
      ∷ instr.Room 2 2
      ∷ instr.Loop 2 2
      ∷ instr.Gather false 2 2
      ∷ instr.End
      ∷ [];
}

shifted_plan_runs :
    plan_run shifted_plan None 1 0 ≡ record { bytes = codes "2 3 4"; stop = Ends Done }
unfolding int_wrap digits
shifted_plan_runs = refl

shifted_plan_runs_in_turn :
    plan_run shifted_plan (Some 1) 1 0 ≡ record { bytes = codes "2 3 4"; stop = Ends Done }
unfolding int_wrap digits
shifted_plan_runs_in_turn = refl

-- ---- a loop, a fold and a zero divisor
abbrev looping : Tables
looping = record {
  grid = 1 ∷ 0 ∷ 0 ∷ [];
  scalars = 3;
  cells = 0;
  slots = 1 ∷ 1 ∷ 1 ∷ 1 ∷ [];
  arrays =
      over_line (axis.Range (pos 1) (pos 4) (pos 0) (pos 1))
      ∷ over_line (axis.Range (pos 1) (pos 4) (pos 0) (pos 0))
      ∷ [];
  texts =
      (codes "s")
      ∷ (codes "\n")
      ∷ (codes "\n")
      ∷ (codes "not printed")
      ∷ (codes "\n")
      ∷ [];
  exprs =
      (word.Coord 1 ∷ [])
      ∷ (word.Const (pos 2) ∷ [])
      ∷ (word.Scalar 0 ∷ word.Const (pos 0) ∷ word.Pair op.Gt ∷ [])
      ∷ (word.Shifted 0 (along (pos 1)) ∷ word.Const (pos 1) ∷ word.Pair op.Add ∷ [])
      ∷ (word.Here 1 ∷ [])
      ∷ (word.Scalar 0 ∷ word.Const (pos 1) ∷ word.Pair op.Sub ∷ [])
      ∷ (word.Here 0 ∷ [])
      ∷ (word.Const (pos 0) ∷ [])
      ∷ (word.Scalar 1 ∷ [])
      ∷ (word.Scalar 0 ∷ [])
      ∷ (word.Scalar 2 ∷ [])
      ∷ (word.Const (pos 7) ∷ word.Shifted 0 (along (pos 1)) ∷ word.Const (pos 5)
      ∷ word.Pair op.Sub ∷ word.Pair op.Div ∷ [])
      ∷ [];
  groups =
      (member.Put 0 0 None 8 ∷ [])
      ∷ (member.Put 1 3 None 11 ∷ [])
      ∷ (member.Put 0 4 None 13 ∷ [])
      ∷ (member.Acc 1 fold.Sum 6 None 16 ∷ [])
      ∷ (member.Put 1 11 None 18 ∷ [])
      ∷ [];
  exchanges = [];
  code =
      instr.Fix 0 (line (dim.Range (pos 1) (pos 4) (pos 1) (pos 1)))
      ∷ instr.Loop 0 0
      ∷ instr.Set 0 1 9
      ∷ instr.Unless 2 12 10
      ∷ instr.Fix 1 (line (dim.Range (pos 1) (pos 3) (pos 1) (pos 1)))
      ∷ instr.Loop 1 1
      ∷ instr.Print 0
      ∷ instr.Print 1
      ∷ instr.Fix 2 (line (dim.Range (pos 1) (pos 3) (pos 1) (pos 1)))
      ∷ instr.Loop 2 2
      ∷ instr.Set 0 5 14
      ∷ instr.Jump 3
      ∷ instr.Set 1 7 16
      ∷ instr.Loop 0 3
      ∷ instr.Fold 1 fold.Sum
      ∷ instr.Set 0 8 16
      ∷ instr.Set 2 9 17
      ∷ instr.Number 10
      ∷ instr.Print 2
      ∷ instr.Fix 3 (line (dim.Range (pos 1) (pos 2) (pos 1) (pos 1)))
      ∷ instr.Loop 3 4
      ∷ instr.Print 3
      ∷ instr.Print 4
      ∷ instr.End
      ∷ [];
}

looping_shows :
    flat_run looping 9 0 ≡ record {
      bytes = codes "s\ns\n20\n";
      stop = Ends (Trap trap.DivideByZero
          18);
    }
unfolding int_wrap digits
looping_shows = refl

looping_stops :
    flat_run looping 4 0 ≡ record { bytes = codes "s\ns\n"; stop = Ends More }
unfolding int_wrap digits
looping_stops = refl

-- its plan
abbrev looping_plan : Tables
looping_plan = record looping {
  grid = 2 ∷ 0 ∷ 0 ∷ [];
  exchanges =
      (item 0 1 (along (pos 1)) ∷ [])
      ∷ (item 0 3 (along (pos 1)) ∷ [])
      ∷ [];
  code =
      instr.Fix 0 (line (dim.Range (pos 1) (pos 4) (pos 1) (pos 1)))
      ∷ instr.Loop 0 0
      ∷ instr.Set 0 1 9
      ∷ instr.Unless 2 14 10
      ∷ instr.Fix 1 (line (dim.Range (pos 1) (pos 3) (pos 1) (pos 1)))
      ∷ instr.Start 0
      ∷ instr.Finish 0
      ∷ instr.Loop 1 1
      ∷ instr.Print 0
      ∷ instr.Print 1
      ∷ instr.Fix 2 (line (dim.Range (pos 1) (pos 3) (pos 1) (pos 1)))
      ∷ instr.Loop 2 2
      ∷ instr.Set 0 5 14
      ∷ instr.Jump 3
      ∷ instr.Set 1 7 16
      ∷ instr.Loop 0 3
      ∷ instr.Fold 1 fold.Sum
      ∷ instr.Set 0 8 16
      ∷ instr.Set 2 9 17
      ∷ instr.Number 10
      ∷ instr.Print 2
      ∷ instr.Fix 3 (line (dim.Range (pos 1) (pos 2) (pos 1) (pos 1)))
      ∷ instr.Start 1
      ∷ instr.Finish 1
      ∷ instr.Loop 3 4
      ∷ instr.Vote 4
      ∷ instr.Print 3
      ∷ instr.Print 4
      ∷ instr.End
      ∷ [];
}

looping_plan_runs :
    plan_run looping_plan None 9 0 ≡ record {
      bytes = codes "s\ns\n20\n";
      stop = Ends (Trap
          trap.DivideByZero 18);
    }
unfolding int_wrap digits
looping_plan_runs = refl

looping_plan_stops :
    plan_run looping_plan None 4 0 ≡ record { bytes = codes "s\ns\n"; stop = Ends More }
unfolding int_wrap digits
looping_plan_stops = refl

-- with all optimisations of exchanges, and along the tree
abbrev looping_early : Tables
looping_early = record looping {
  grid = 2 ∷ 0 ∷ 0 ∷ [];
  exchanges =
      (item 0 1 (along (pos 1)) ∷ [])
      ∷ (item 0 3 (along (pos 1)) ∷ [])
      ∷ [];
  code =
      instr.Fix 0 (line (dim.Range (pos 1) (pos 4) (pos 1) (pos 1)))
      ∷ instr.Loop 0 0
      ∷ instr.Set 0 1 9
      ∷ instr.Unless 2 14 10
      ∷ instr.Fix 1 (line (dim.Range (pos 1) (pos 3) (pos 1) (pos 1)))
      ∷ instr.Start 0
      ∷ instr.Finish 0
      ∷ instr.Loop 1 1
      ∷ instr.Print 0
      ∷ instr.Print 1
      ∷ instr.Fix 2 (line (dim.Range (pos 1) (pos 3) (pos 1) (pos 1)))
      ∷ instr.Loop 2 2
      ∷ instr.Set 0 5 14
      ∷ instr.Jump 3
      ∷ instr.Set 1 7 16
      ∷ instr.Loop 0 3
      ∷ instr.TreeFold 1 fold.Sum
      ∷ instr.Set 0 8 16
      ∷ instr.Set 2 9 17
      ∷ instr.Number 10
      ∷ instr.Print 2
      ∷ instr.Fix 3 (line (dim.Range (pos 1) (pos 2) (pos 1) (pos 1)))
      ∷ instr.Start 1
      ∷ instr.Finish 1
      ∷ instr.Loop 3 4
      ∷ instr.TreeVote 4
      ∷ instr.Print 3
      ∷ instr.Print 4
      ∷ instr.End
      ∷ [];
}

looping_early_runs :
    plan_run looping_early None 9 0 ≡ record {
      bytes = codes "s\ns\n20\n";
      stop = Ends (Trap
          trap.DivideByZero 18);
    }
unfolding int_wrap digits
looping_early_runs = refl

looping_early_stops :
    plan_run looping_early None 4 0 ≡ record { bytes = codes "s\ns\n"; stop = Ends More }
unfolding int_wrap digits
looping_early_stops = refl

-- ---- a shattered statement
abbrev shattered : Tables
shattered = record {
  grid = 1 ∷ 0 ∷ 0 ∷ [];
  scalars = 0;
  cells = 0;
  slots = 1 ∷ 1 ∷ 1 ∷ 1 ∷ [];
  arrays =
      over_line (axis.Range (pos 1) (pos 4) (pos 0) (pos 1))
      ∷ over_line (axis.Range (pos 1) (pos 4) (pos 0) (pos 0))
      ∷ temporary
      ∷ [];
  texts = [];
  exprs =
      (word.Coord 1 ∷ [])
      ∷ (word.Shifted 0 (along (pos 1)) ∷ [])
      ∷ (word.Here 0 ∷ word.Here 1 ∷ word.Const (pos 2) ∷ word.Pair op.Mul ∷ word.Pair op.Lt ∷ [])
      ∷ (word.Here 0 ∷ word.Here 1 ∷ word.Pair op.Add ∷ [])
      ∷ (word.Here 0 ∷ [])
      ∷ [];
  groups =
      (member.Put 0 0 None 7 ∷ [])
      ∷ (member.Put 1 1 None 8 ∷ [])
      ∷ (member.OpenWhile 2 None 9 ∷ member.Put 0 3 None 9 ∷ member.CloseWhile ∷ [])
      ∷ (member.Put 2 4 None 10 ∷ [])
      ∷ [];
  exchanges = [];
  code =
      instr.Fix 0 (line (dim.Range (pos 1) (pos 4) (pos 1) (pos 1)))
      ∷ instr.Loop 0 0
      ∷ instr.Fix 1 (line (dim.Range (pos 1) (pos 3) (pos 1) (pos 1)))
      ∷ instr.Loop 1 1
      ∷ instr.Fix 2 (line (dim.Range (pos 1) (pos 3) (pos 1) (pos 1)))
      ∷ instr.Loop 2 2
      ∷ instr.Fix 3 (line (dim.Range (pos 1) (pos 3) (pos 1) (pos 1)))
      ∷ instr.Room 2 3
      ∷ instr.Loop 3 3
      ∷ instr.Gather false 2 3
      ∷ instr.End
      ∷ [];
}

shattered_shows :
    flat_run shattered 1 5 ≡ record { bytes = codes "5 8 11"; stop = Ends Done }
unfolding int_wrap digits
shattered_shows = refl

shattered_wants :
    flat_run shattered 1 0 ≡ record { bytes = []; stop = Ends More }
unfolding int_wrap digits
shattered_wants = refl

-- its plan
abbrev shattered_plan : Tables
shattered_plan = record shattered {
  grid = 2 ∷ 0 ∷ 0 ∷ [];
  exchanges =
      (item 0 1 (along (pos 1)) ∷ [])
      ∷ [];
  code =
      instr.Fix 0 (line (dim.Range (pos 1) (pos 4) (pos 1) (pos 1)))
      ∷ instr.Loop 0 0
      ∷ instr.Fix 1 (line (dim.Range (pos 1) (pos 3) (pos 1) (pos 1)))
      ∷ instr.Start 0
      ∷ instr.Finish 0
      ∷ instr.Loop 1 1
      ∷ instr.Fix 2 (line (dim.Range (pos 1) (pos 3) (pos 1) (pos 1)))
      ∷ instr.Loop 2 2
      ∷ instr.Vote 2
      ∷ instr.Fix 3 (line (dim.Range (pos 1) (pos 3) (pos 1) (pos 1)))
      ∷ instr.Room 2 3
      ∷ instr.Loop 3 3
      ∷ instr.Gather false 2 3
      ∷ instr.End
      ∷ [];
}

shattered_plan_runs :
    plan_run shattered_plan None 1 5 ≡ record { bytes = codes "5 8 11"; stop = Ends Done }
unfolding int_wrap digits
shattered_plan_runs = refl

shattered_plan_wants :
    plan_run shattered_plan None 1 0 ≡ record { bytes = []; stop = Ends More }
unfolding int_wrap digits
shattered_plan_wants = refl

-- a turn is wanted while an exchange is open
abbrev wanting_while_open : Tables
wanting_while_open = record shattered_plan {
  code =
      instr.Fix 0 (line (dim.Range (pos 1) (pos 4) (pos 1) (pos 1)))
      ∷ instr.Loop 0 0
      ∷ instr.Fix 1 (line (dim.Range (pos 1) (pos 3) (pos 1) (pos 1)))
      ∷ instr.Start 0
      ∷ instr.Loop 1 2
      ∷ instr.Vote 2
      ∷ instr.Finish 0
      ∷ instr.End
      ∷ [];
}

wanting_while_open_is_wrong :
    plan_run wanting_while_open None 1 0 ≡ record { bytes = []; stop = Wrong }
unfolding int_wrap digits
wanting_while_open_is_wrong = refl

-- ---- several exchanges
abbrev several : Tables
several = record {
  grid = 1 ∷ 0 ∷ 0 ∷ [];
  scalars = 0;
  cells = 0;
  slots = 1 ∷ 1 ∷ 1 ∷ [];
  arrays =
      over_line (axis.Range (pos 1) (pos 4) (pos 0) (pos 1))
      ∷ over_line (axis.Range (pos 1) (pos 4) (pos 0) (pos 1))
      ∷ over_line (axis.Range (pos 1) (pos 4) (pos 0) (pos 1))
      ∷ temporary
      ∷ [];
  texts =
      (codes "on")
      ∷ (codes "\n")
      ∷ [];
  exprs =
      (word.Coord 1 ∷ [])
      ∷ (word.Coord 1 ∷ word.Const (pos 2) ∷ word.Pair op.Mul ∷ [])
      ∷ (word.Shifted 0 (along (pos 1)) ∷ word.Shifted 1 (along (pos 1)) ∷ word.Pair op.Add ∷ [])
      ∷ (word.Shifted 2 (along (pos 1)) ∷ word.Shifted 0 (along (pos 1)) ∷ word.Pair op.Add ∷ [])
      ∷ (word.Here 1 ∷ [])
      ∷ [];
  groups =
      (member.Put 0 0 None 7 ∷ [])
      ∷ (member.Put 1 1 None 9 ∷ [])
      ∷ (member.Put 2 2 None 10 ∷ [])
      ∷ (member.Put 1 3 None 12 ∷ [])
      ∷ (member.Put 3 4 None 14 ∷ [])
      ∷ [];
  exchanges = [];
  code =
      instr.Fix 0 (line (dim.Range (pos 1) (pos 4) (pos 1) (pos 1)))
      ∷ instr.Loop 0 0
      ∷ instr.Fix 1 (line (dim.Range (pos 1) (pos 3) (pos 1) (pos 1)))
      ∷ instr.Loop 1 1
      ∷ instr.Loop 1 2
      ∷ instr.Print 0
      ∷ instr.Print 1
      ∷ instr.Loop 1 3
      ∷ instr.Fix 2 (line (dim.Range (pos 1) (pos 3) (pos 1) (pos 1)))
      ∷ instr.Room 3 2
      ∷ instr.Loop 2 4
      ∷ instr.Gather false 3 2
      ∷ instr.End
      ∷ [];
}

several_shows :
    flat_run several 1 0 ≡ record { bytes = codes "on\n11 7 4"; stop = Ends Done }
unfolding int_wrap digits
several_shows = refl

-- without redundant ones, and neighbours merged
abbrev several_merged : Tables
several_merged = record several {
  grid = 2 ∷ 0 ∷ 0 ∷ [];
  exchanges =
      (item 0 1 (along (pos 1)) ∷ item 1 1 (along (pos 1)) ∷ [])
      ∷ (item 2 1 (along (pos 1)) ∷ [])
      ∷ [];
  code =
      instr.Fix 0 (line (dim.Range (pos 1) (pos 4) (pos 1) (pos 1)))
      ∷ instr.Loop 0 0
      ∷ instr.Fix 1 (line (dim.Range (pos 1) (pos 3) (pos 1) (pos 1)))
      ∷ instr.Loop 1 1
      ∷ instr.Start 0
      ∷ instr.Finish 0
      ∷ instr.Loop 1 2
      ∷ instr.Print 0
      ∷ instr.Print 1
      ∷ instr.Start 1
      ∷ instr.Finish 1
      ∷ instr.Loop 1 3
      ∷ instr.Fix 2 (line (dim.Range (pos 1) (pos 3) (pos 1) (pos 1)))
      ∷ instr.Room 3 2
      ∷ instr.Loop 2 4
      ∷ instr.Gather false 3 2
      ∷ instr.End
      ∷ [];
}

several_merged_runs :
    plan_run several_merged (Some 1) 1 0 ≡ record { bytes = codes "on\n11 7 4"; stop = Ends Done }
unfolding int_wrap digits
several_merged_runs = refl

-- early, for links that hold any number of messages
abbrev several_early : Tables
several_early = record several {
  grid = 2 ∷ 0 ∷ 0 ∷ [];
  exchanges =
      (item 0 1 (along (pos 1)) ∷ [])
      ∷ (item 1 1 (along (pos 1)) ∷ [])
      ∷ (item 2 1 (along (pos 1)) ∷ [])
      ∷ (item 0 1 (along (pos 1)) ∷ [])
      ∷ [];
  code =
      instr.Fix 0 (line (dim.Range (pos 1) (pos 4) (pos 1) (pos 1)))
      ∷ instr.Loop 0 0
      ∷ instr.Fix 1 (line (dim.Range (pos 1) (pos 3) (pos 1) (pos 1)))
      ∷ instr.Start 0
      ∷ instr.Loop 1 1
      ∷ instr.Start 1
      ∷ instr.Finish 0
      ∷ instr.Finish 1
      ∷ instr.Loop 1 2
      ∷ instr.Start 2
      ∷ instr.Start 3
      ∷ instr.Print 0
      ∷ instr.Print 1
      ∷ instr.Finish 2
      ∷ instr.Finish 3
      ∷ instr.Loop 1 3
      ∷ instr.Fix 2 (line (dim.Range (pos 1) (pos 3) (pos 1) (pos 1)))
      ∷ instr.Room 3 2
      ∷ instr.Loop 2 4
      ∷ instr.Gather false 3 2
      ∷ instr.End
      ∷ [];
}

several_early_runs :
    plan_run several_early None 1 0 ≡ record { bytes = codes "on\n11 7 4"; stop = Ends Done }
unfolding int_wrap digits
several_early_runs = refl

several_early_runs_in_room :
    plan_run several_early (Some 2) 1 0 ≡ record { bytes = codes "on\n11 7 4"; stop = Ends Done }
unfolding int_wrap digits
several_early_runs_in_room = refl

-- over links that hold one it may not stand: two exchanges are open at once
several_wrong :
    plan_run several_early (Some 1) 1 0 ≡ record { bytes = []; stop = Wrong }
unfolding int_wrap digits
several_wrong = refl

-- early, for links that hold one message
abbrev several_in_turn : Tables
several_in_turn = record several {
  grid = 2 ∷ 0 ∷ 0 ∷ [];
  exchanges =
      (item 0 1 (along (pos 1)) ∷ [])
      ∷ (item 1 1 (along (pos 1)) ∷ [])
      ∷ (item 2 1 (along (pos 1)) ∷ [])
      ∷ (item 0 1 (along (pos 1)) ∷ [])
      ∷ [];
  code =
      instr.Fix 0 (line (dim.Range (pos 1) (pos 4) (pos 1) (pos 1)))
      ∷ instr.Loop 0 0
      ∷ instr.Fix 1 (line (dim.Range (pos 1) (pos 3) (pos 1) (pos 1)))
      ∷ instr.Start 0
      ∷ instr.Loop 1 1
      ∷ instr.Finish 0
      ∷ instr.Start 1
      ∷ instr.Finish 1
      ∷ instr.Loop 1 2
      ∷ instr.Start 2
      ∷ instr.Print 0
      ∷ instr.Print 1
      ∷ instr.Finish 2
      ∷ instr.Start 3
      ∷ instr.Finish 3
      ∷ instr.Loop 1 3
      ∷ instr.Fix 2 (line (dim.Range (pos 1) (pos 3) (pos 1) (pos 1)))
      ∷ instr.Room 3 2
      ∷ instr.Loop 2 4
      ∷ instr.Gather false 3 2
      ∷ instr.End
      ∷ [];
}

several_in_turn_runs :
    plan_run several_in_turn (Some 1) 1 0 ≡ record { bytes = codes "on\n11 7 4"; stop = Ends Done }
unfolding int_wrap digits
several_in_turn_runs = refl

-- ---- a border, a scan and a remap read
abbrev moving : Tables
moving = record {
  grid = 1 ∷ 0 ∷ 0 ∷ [];
  scalars = 1;
  cells = 0;
  slots = 1 ∷ 1 ∷ 1 ∷ 1 ∷ [];
  arrays =
      over_line (axis.Range (pos 0) (pos 5) (pos 0) (pos 1))
      ∷ over_line (axis.Range (pos 0) (pos 5) (pos 0) (pos 0))
      ∷ temporary
      ∷ temporary
      ∷ temporary
      ∷ temporary
      ∷ temporary
      ∷ [];
  texts = [];
  exprs =
      (word.Coord 1 ∷ word.Const (pos 3) ∷ word.Pair op.Mul ∷ [])
      ∷ (word.Shifted 0 (along (pos 1)) ∷ [])
      ∷ (word.Here 1 ∷ [])
      ∷ (word.Here 3 ∷ [])
      ∷ (word.Const (pos 5) ∷ word.Coord 1 ∷ word.Pair op.Sub ∷ [])
      ∷ (word.Here 4 ∷ word.Const (pos 0) ∷ word.Pair op.Lt ∷ word.Here 4 ∷ word.Const (pos 5)
      ∷ word.Pair op.Gt ∷ word.Pair op.Or ∷ [])
      ∷ (word.Const (pos 0) ∷ [])
      ∷ (word.Scalar 0 ∷ [])
      ∷ (word.Here 5 ∷ [])
      ∷ (word.Here 1 ∷ [])
      ∷ [];
  groups =
      (member.Put 0 0 None 7 ∷ [])
      ∷ (member.Put 1 1 None 9 ∷ [])
      ∷ (member.Put 2 2 None 10 ∷ [])
      ∷ (member.Put 1 3 None 10 ∷ [])
      ∷ (member.Put 4 4 None 11 ∷ [])
      ∷ (member.Acc 0 fold.Any 5 None 11 ∷ [])
      ∷ (member.Put 1 8 None 11 ∷ [])
      ∷ (member.Put 6 9 None 12 ∷ [])
      ∷ [];
  exchanges = [];
  code =
      instr.Fix 0 (line (dim.Range (pos 1) (pos 4) (pos 1) (pos 1)))
      ∷ instr.Loop 0 0
      ∷ instr.Formed form.Of 1 0 (along (pos 1)) 8
      ∷ instr.Fits 0 (along (pos 1)) 8
      ∷ instr.Formed form.Inside 2 0 (along (negsuc 0)) 8
      ∷ instr.Need 1 0 (along (pos 0)) 8
      ∷ instr.Need 2 0 (along (pos 0)) 8
      ∷ instr.Edge border.Wrap 0 0 (along (pos 1))
      ∷ instr.Loop 0 1
      ∷ instr.Room 2 0
      ∷ instr.Loop 0 2
      ∷ instr.Room 3 0
      ∷ instr.Scan 3 0 fold.Sum 0 2 None
      ∷ instr.Loop 0 3
      ∷ instr.Room 4 0
      ∷ instr.Loop 0 4
      ∷ instr.Set 0 6 11
      ∷ instr.Loop 0 5
      ∷ instr.Fold 0 fold.Any
      ∷ instr.Unless 7 21 11
      ∷ instr.Trap trap.OutsideStorage 11
      ∷ instr.Room 5 0
      ∷ instr.Remap 5 0 1 (Some 4 ∷ None ∷ None ∷ [])
      ∷ instr.Loop 0 6
      ∷ instr.Fix 3 (line (dim.Range (pos 0) (pos 5) (pos 1) (pos 0)))
      ∷ instr.Room 6 3
      ∷ instr.Loop 3 7
      ∷ instr.Gather false 6 3
      ∷ instr.End
      ∷ [];
}

moving_shows :
    flat_run moving 2 0 ≡ record { bytes = codes "0 30 27 15 6 0"; stop = Ends Done }
unfolding int_wrap digits
moving_shows = refl

-- its plan
abbrev moving_plan : Tables
moving_plan = record moving {
  grid = 2 ∷ 0 ∷ 0 ∷ [];
  exchanges =
      (item 0 0 (along (pos 1)) ∷ [])
      ∷ [];
  code =
      instr.Fix 0 (line (dim.Range (pos 1) (pos 4) (pos 1) (pos 1)))
      ∷ instr.Loop 0 0
      ∷ instr.Formed form.Of 1 0 (along (pos 1)) 8
      ∷ instr.Fits 0 (along (pos 1)) 8
      ∷ instr.Formed form.Inside 2 0 (along (negsuc 0)) 8
      ∷ instr.Need 1 0 (along (pos 0)) 8
      ∷ instr.Need 2 0 (along (pos 0)) 8
      ∷ instr.Edge border.Wrap 0 0 (along (pos 1))
      ∷ instr.Start 0
      ∷ instr.Finish 0
      ∷ instr.Loop 0 1
      ∷ instr.Room 2 0
      ∷ instr.Loop 0 2
      ∷ instr.Room 3 0
      ∷ instr.Scan 3 0 fold.Sum 0 2 None
      ∷ instr.Loop 0 3
      ∷ instr.Room 4 0
      ∷ instr.Loop 0 4
      ∷ instr.Set 0 6 11
      ∷ instr.Loop 0 5
      ∷ instr.Fold 0 fold.Any
      ∷ instr.Unless 7 23 11
      ∷ instr.Trap trap.OutsideStorage 11
      ∷ instr.Room 5 0
      ∷ instr.Remap 5 0 1 (Some 4 ∷ None ∷ None ∷ [])
      ∷ instr.Loop 0 6
      ∷ instr.Fix 3 (line (dim.Range (pos 0) (pos 5) (pos 1) (pos 0)))
      ∷ instr.Room 6 3
      ∷ instr.Loop 3 7
      ∷ instr.Gather false 6 3
      ∷ instr.End
      ∷ [];
}

moving_plan_runs :
    plan_run moving_plan (Some 1) 2 0 ≡ record { bytes = codes "0 30 27 15 6 0"; stop = Ends Done }
unfolding int_wrap digits
moving_plan_runs = refl

-- ---- partial folds of rows, which are flooded, and a truth value
abbrev over_plane : ArrayDim → ArrayDim → ArrayRow
over_plane one two = record { rank = 2; stored = true; dims = one ∷ two ∷ no_range ∷ [] }

abbrev plane : Dim → Dim → Region
plane one two = record { rank = 2; dims = one ∷ two ∷ padding ∷ [] }

abbrev from_one : ℤ → Dim
from_one last = dim.Range (pos 1) last (pos 1) (pos 1)

-- the sums of the rows of a region, where it has as many rows as the target
abbrev spreading : ℤ → Tables
spreading rows = record {
  grid = 1 ∷ 0 ∷ 0 ∷ [];
  scalars = 1;
  cells = 0;
  slots = 2 ∷ 2 ∷ 2 ∷ [];
  arrays =
      over_plane (axis.Range (pos 1) (pos 2) (pos 0) (pos 0)) (axis.Range (pos 1) (pos 3) (pos 0) (pos 0))
      ∷ over_plane (axis.Range (pos 1) (pos 3) (pos 0) (pos 0)) (axis.Range (pos 1) (pos 3) (pos 0) (pos 0))
      ∷ over_plane (axis.Range (pos 1) (pos 2) (pos 0) (pos 0)) axis.Star
      ∷ [];
  texts = (codes "\n") ∷ [];
  exprs =
      (word.Const (pos 10) ∷ word.Coord 1 ∷ word.Pair op.Mul ∷ word.Coord 2 ∷ word.Pair op.Add ∷ [])
      ∷ (word.Here 2 ∷ word.Here 0 ∷ word.Pair op.Sub ∷ [])
      ∷ (word.Const (pos 4) ∷ [])
      ∷ (word.Scalar 0 ∷ word.Const (pos 3) ∷ word.Pair op.Gt ∷ [])
      ∷ [];
  groups =
      (member.Put 0 0 None 7 ∷ [])
      ∷ (member.Put 0 1 None 10 ∷ [])
      ∷ [];
  exchanges = [];
  code =
      instr.Fix 0 (plane (from_one (pos 2)) (from_one (pos 3)))
      ∷ instr.Loop 0 0
      ∷ instr.Fix 1 (plane (from_one rows) (from_one (pos 1)))
      ∷ instr.Same 1 0 same_kind.Part 8
      ∷ instr.Part 1 1 fold.Sum 0 0
      ∷ instr.Fix 2 (plane (from_one (pos 2)) dim.Flood)
      ∷ instr.Same 2 1 same_kind.Flood 9
      ∷ instr.Flood 2 2 1 1
      ∷ instr.Loop 0 1
      ∷ instr.Set 0 2 11
      ∷ instr.Truth 3
      ∷ instr.Print 0
      ∷ instr.Gather false 0 0
      ∷ instr.End
      ∷ [];
}

spreading_shows :
    flat_run (spreading (pos 2)) 1 0
    ≡ record { bytes = codes "true\n25 24 23\n45 44 43\n"; stop = Ends Done }
unfolding int_wrap digits
spreading_shows = refl

spreading_traps :
    flat_run (spreading (pos 3)) 1 0
    ≡ record { bytes = []; stop = Ends (Trap trap.RegionMismatch 8) }
unfolding int_wrap digits
spreading_traps = refl

-- its plan, in which the columns lie on two processors
abbrev spreading_plan : ℤ → Tables
spreading_plan rows = record (spreading rows) { grid = 1 ∷ 2 ∷ 0 ∷ [] }

spreading_plan_runs :
    plan_run (spreading_plan (pos 2)) None 1 0
    ≡ record { bytes = codes "true\n25 24 23\n45 44 43\n"; stop = Ends Done }
unfolding int_wrap digits
spreading_plan_runs = refl

spreading_plan_traps :
    plan_run (spreading_plan (pos 3)) None 1 0
    ≡ record { bytes = []; stop = Ends (Trap trap.RegionMismatch 8) }
unfolding int_wrap digits
spreading_plan_traps = refl
