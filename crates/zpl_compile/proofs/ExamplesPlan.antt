-- A flat program as node code, without optimisations and with those of exchanges.
use Rattle.std.proofs.Common.{◌≡◌, ℕ, ℤ, true, List, [], ◌∷◌, Some, None, Option}
use Rattle.std.proofs.Common.{pos, negsuc, codes, refl}
use Rattle.zpl_nums.specs.declared.operators.Op.TheVariants as op
use Rattle.zpl_nums.specs.declared.folds.Fold.TheVariants as fold
use Rattle.zpl_region.specs.declared.dims.Dim.{Dim}
use Rattle.zpl_region.specs.declared.dims.Dim.TheVariants as dim
use Rattle.zpl_region.specs.declared.regions.Region.{Region}
use Rattle.zpl_region.specs.Region.{padding}
use Rattle.node_form.specs.declared.arrays.ArrayDim.{ArrayDim}
use Rattle.node_form.specs.declared.arrays.ArrayDim.TheVariants as axis
use Rattle.node_form.specs.declared.arrays.ArrayRow.{ArrayRow}
use Rattle.node_form.specs.declared.arrays.Item.{Item}
use Rattle.node_form.specs.declared.instructions.Instr.TheVariants as instr
use Rattle.node_form.specs.declared.members.Member.TheVariants as member
use Rattle.node_form.specs.declared.tables.Tables.{Tables}
use Rattle.node_form.specs.declared.words.ExprOp.TheVariants as word
use Rattle.zpl_claims.specs.declared.options.Options.{Options}
use Rattle.zpl_claims.specs.Build.{Build, no_options, plain_build}
use Rattle.zpl_compile.specs.Compile.{emitted_for, plan_of, settled}

abbrev no_range : ArrayDim
no_range = axis.Range (pos 0) (pos 0) (pos 0) (pos 0)

abbrev over_line : ArrayDim → ArrayRow
over_line one = record { rank = 1; stored = true; dims = one ∷ no_range ∷ no_range ∷ [] }

abbrev along : ℤ → List ℤ
along d = d ∷ pos 0 ∷ pos 0 ∷ []

abbrev line : Dim → Region
line one = record { rank = 1; dims = one ∷ padding ∷ padding ∷ [] }

abbrev item : ℕ → ℕ → List ℤ → Item
item array slot shift = record { array = array; slot = slot; shift = shift }

abbrev two : List ℕ
two = 2 ∷ 0 ∷ 0 ∷ []

abbrev built_with : Options → Option ℕ → Build
built_with options links =
    record (plain_build links []) { grid = two; options = options }

abbrev flat : Tables
flat = record {
  grid = 1 ∷ 0 ∷ 0 ∷ [];
  scalars = 2;
  cells = 0;
  slots = 1 ∷ 1 ∷ 1 ∷ 1 ∷ 1 ∷ [];
  arrays =
      over_line (axis.Range (pos 1) (pos 4) (pos 1) (pos 1))
      ∷ over_line (axis.Range (pos 1) (pos 4) (pos 1) (pos 1))
      ∷ over_line (axis.Range (pos 1) (pos 4) (pos 1) (pos 0))
      ∷ [];
  texts =
      (codes "on")
      ∷ (codes "\n")
      ∷ [];
  exprs =
      (word.Coord 1 ∷ [])
      ∷ (word.Shifted 0 (along (pos 1)) ∷ word.Shifted 0 (along (negsuc 0)) ∷ word.Pair op.Add ∷ [])
      ∷ (word.Const (pos 5) ∷ [])
      ∷ (word.Shifted 0 (along (pos 1)) ∷ word.Here 1 ∷ word.Pair op.Div ∷ [])
      ∷ (word.Shifted 1 (along (negsuc 0)) ∷ [])
      ∷ (word.Scalar 0 ∷ word.Const (pos 0) ∷ word.Pair op.Gt ∷ [])
      ∷ (word.Shifted 0 (along (pos 1)) ∷ word.Shifted 1 (along (pos 1)) ∷ word.Pair op.Add ∷ [])
      ∷ (word.Shifted 2 (along (negsuc 0)) ∷ word.Shifted 0 (along (pos 1)) ∷ word.Pair op.Add ∷ [])
      ∷ (word.Scalar 0 ∷ word.Const (pos 1) ∷ word.Pair op.Sub ∷ [])
      ∷ (word.Shifted 1 (along (pos 1)) ∷ [])
      ∷ (word.Here 2 ∷ [])
      ∷ (word.Const (pos 0) ∷ [])
      ∷ (word.Scalar 1 ∷ [])
      ∷ [];
  groups =
      (member.Put 0 0 None 8 ∷ [])
      ∷ (member.Put 1 1 None 10 ∷ [])
      ∷ (member.Put 2 3 None 12 ∷ [])
      ∷ (member.Put 0 4 None 14 ∷ [])
      ∷ (member.Put 2 6 None 17 ∷ [])
      ∷ (member.Put 1 7 None 18 ∷ [])
      ∷ (member.Put 2 9 None 21 ∷ [])
      ∷ (member.Acc 1 fold.Sum 10 None 22 ∷ [])
      ∷ [];
  exchanges = [];
  code =
      instr.Fix 0 (line (dim.Range (pos 1) (pos 4) (pos 1) (pos 1)))
      ∷ instr.Loop 0 0
      ∷ instr.Fix 1 (line (dim.Range (pos 2) (pos 3) (pos 1) (pos 2)))
      ∷ instr.Loop 1 1
      ∷ instr.Set 0 2 11
      ∷ instr.Loop 1 2
      ∷ instr.Print 0
      ∷ instr.Print 1
      ∷ instr.Loop 1 3
      ∷ instr.Unless 5 16 16
      ∷ instr.Fix 2 (line (dim.Range (pos 2) (pos 3) (pos 1) (pos 2)))
      ∷ instr.Loop 2 4
      ∷ instr.Fix 3 (line (dim.Range (pos 2) (pos 3) (pos 1) (pos 2)))
      ∷ instr.Loop 3 5
      ∷ instr.Set 0 8 19
      ∷ instr.Jump 9
      ∷ instr.Fix 4 (line (dim.Range (pos 2) (pos 3) (pos 1) (pos 2)))
      ∷ instr.Loop 4 6
      ∷ instr.Set 1 11 22
      ∷ instr.Loop 0 7
      ∷ instr.Fold 1 fold.Sum
      ∷ instr.Set 0 12 22
      ∷ instr.End
      ∷ [];
}

abbrev code_of : Build → Tables
code_of build = emitted_for build (plan_of build (settled build flat))

-- without optimisations
plain :
    code_of (built_with no_options None) ≡ record flat {
      grid = two;
      exchanges =
          (item 0 1 (along (pos 1)) ∷ [])
          ∷ (item 0 1 (along (negsuc 0)) ∷ [])
          ∷ (item 0 1 (along (pos 1)) ∷ [])
          ∷ (item 1 1 (along (negsuc 0)) ∷ [])
          ∷ (item 0 2 (along (pos 1)) ∷ [])
          ∷ (item 1 2 (along (pos 1)) ∷ [])
          ∷ (item 2 3 (along (negsuc 0)) ∷ [])
          ∷ (item 0 3 (along (pos 1)) ∷ [])
          ∷ (item 1 4 (along (pos 1)) ∷ [])
          ∷ [];
      code =
          instr.Fix 0 (line (dim.Range (pos 1) (pos 4) (pos 1) (pos 1)))
          ∷ instr.Loop 0 0
          ∷ instr.Fix 1 (line (dim.Range (pos 2) (pos 3) (pos 1) (pos 2)))
          ∷ instr.Start 0
          ∷ instr.Finish 0
          ∷ instr.Start 1
          ∷ instr.Finish 1
          ∷ instr.Loop 1 1
          ∷ instr.Set 0 2 11
          ∷ instr.Start 2
          ∷ instr.Finish 2
          ∷ instr.Loop 1 2
          ∷ instr.Vote 2
          ∷ instr.Print 0
          ∷ instr.Print 1
          ∷ instr.Start 3
          ∷ instr.Finish 3
          ∷ instr.Loop 1 3
          ∷ instr.Unless 5 33 16
          ∷ instr.Fix 2 (line (dim.Range (pos 2) (pos 3) (pos 1) (pos 2)))
          ∷ instr.Start 4
          ∷ instr.Finish 4
          ∷ instr.Start 5
          ∷ instr.Finish 5
          ∷ instr.Loop 2 4
          ∷ instr.Fix 3 (line (dim.Range (pos 2) (pos 3) (pos 1) (pos 2)))
          ∷ instr.Start 6
          ∷ instr.Finish 6
          ∷ instr.Start 7
          ∷ instr.Finish 7
          ∷ instr.Loop 3 5
          ∷ instr.Set 0 8 19
          ∷ instr.Jump 18
          ∷ instr.Fix 4 (line (dim.Range (pos 2) (pos 3) (pos 1) (pos 2)))
          ∷ instr.Start 8
          ∷ instr.Finish 8
          ∷ instr.Loop 4 6
          ∷ instr.Set 1 11 22
          ∷ instr.Loop 0 7
          ∷ instr.Fold 1 fold.Sum
          ∷ instr.Set 0 12 22
          ∷ instr.End
          ∷ [];
    }
plain = refl

-- without redundant exchanges
fewer :
    code_of (built_with (record no_options { redundant = true }) None) ≡ record flat {
      grid = two;
      exchanges =
          (item 0 1 (along (pos 1)) ∷ [])
          ∷ (item 0 1 (along (negsuc 0)) ∷ [])
          ∷ (item 1 1 (along (negsuc 0)) ∷ [])
          ∷ (item 0 2 (along (pos 1)) ∷ [])
          ∷ (item 1 2 (along (pos 1)) ∷ [])
          ∷ (item 2 3 (along (negsuc 0)) ∷ [])
          ∷ (item 0 3 (along (pos 1)) ∷ [])
          ∷ (item 1 4 (along (pos 1)) ∷ [])
          ∷ [];
      code =
          instr.Fix 0 (line (dim.Range (pos 1) (pos 4) (pos 1) (pos 1)))
          ∷ instr.Loop 0 0
          ∷ instr.Fix 1 (line (dim.Range (pos 2) (pos 3) (pos 1) (pos 2)))
          ∷ instr.Start 0
          ∷ instr.Finish 0
          ∷ instr.Start 1
          ∷ instr.Finish 1
          ∷ instr.Loop 1 1
          ∷ instr.Set 0 2 11
          ∷ instr.Loop 1 2
          ∷ instr.Vote 2
          ∷ instr.Print 0
          ∷ instr.Print 1
          ∷ instr.Start 2
          ∷ instr.Finish 2
          ∷ instr.Loop 1 3
          ∷ instr.Unless 5 31 16
          ∷ instr.Fix 2 (line (dim.Range (pos 2) (pos 3) (pos 1) (pos 2)))
          ∷ instr.Start 3
          ∷ instr.Finish 3
          ∷ instr.Start 4
          ∷ instr.Finish 4
          ∷ instr.Loop 2 4
          ∷ instr.Fix 3 (line (dim.Range (pos 2) (pos 3) (pos 1) (pos 2)))
          ∷ instr.Start 5
          ∷ instr.Finish 5
          ∷ instr.Start 6
          ∷ instr.Finish 6
          ∷ instr.Loop 3 5
          ∷ instr.Set 0 8 19
          ∷ instr.Jump 16
          ∷ instr.Fix 4 (line (dim.Range (pos 2) (pos 3) (pos 1) (pos 2)))
          ∷ instr.Start 7
          ∷ instr.Finish 7
          ∷ instr.Loop 4 6
          ∷ instr.Set 1 11 22
          ∷ instr.Loop 0 7
          ∷ instr.Fold 1 fold.Sum
          ∷ instr.Set 0 12 22
          ∷ instr.End
          ∷ [];
    }
fewer = refl

-- neighbours merged
merged :
    code_of (built_with (record no_options { merge = true }) None) ≡ record flat {
      grid = two;
      exchanges =
          (item 0 1 (along (pos 1)) ∷ item 0 1 (along (negsuc 0)) ∷ [])
          ∷ (item 0 1 (along (pos 1)) ∷ [])
          ∷ (item 1 1 (along (negsuc 0)) ∷ [])
          ∷ (item 0 2 (along (pos 1)) ∷ item 1 2 (along (pos 1)) ∷ [])
          ∷ (item 2 3 (along (negsuc 0)) ∷ item 0 3 (along (pos 1)) ∷ [])
          ∷ (item 1 4 (along (pos 1)) ∷ [])
          ∷ [];
      code =
          instr.Fix 0 (line (dim.Range (pos 1) (pos 4) (pos 1) (pos 1)))
          ∷ instr.Loop 0 0
          ∷ instr.Fix 1 (line (dim.Range (pos 2) (pos 3) (pos 1) (pos 2)))
          ∷ instr.Start 0
          ∷ instr.Finish 0
          ∷ instr.Loop 1 1
          ∷ instr.Set 0 2 11
          ∷ instr.Start 1
          ∷ instr.Finish 1
          ∷ instr.Loop 1 2
          ∷ instr.Vote 2
          ∷ instr.Print 0
          ∷ instr.Print 1
          ∷ instr.Start 2
          ∷ instr.Finish 2
          ∷ instr.Loop 1 3
          ∷ instr.Unless 5 27 16
          ∷ instr.Fix 2 (line (dim.Range (pos 2) (pos 3) (pos 1) (pos 2)))
          ∷ instr.Start 3
          ∷ instr.Finish 3
          ∷ instr.Loop 2 4
          ∷ instr.Fix 3 (line (dim.Range (pos 2) (pos 3) (pos 1) (pos 2)))
          ∷ instr.Start 4
          ∷ instr.Finish 4
          ∷ instr.Loop 3 5
          ∷ instr.Set 0 8 19
          ∷ instr.Jump 16
          ∷ instr.Fix 4 (line (dim.Range (pos 2) (pos 3) (pos 1) (pos 2)))
          ∷ instr.Start 5
          ∷ instr.Finish 5
          ∷ instr.Loop 4 6
          ∷ instr.Set 1 11 22
          ∷ instr.Loop 0 7
          ∷ instr.Fold 1 fold.Sum
          ∷ instr.Set 0 12 22
          ∷ instr.End
          ∷ [];
    }
merged = refl

-- early, over links that hold any number of messages
early :
    code_of (built_with (record no_options { early = true }) None) ≡ record flat {
      grid = two;
      exchanges =
          (item 0 1 (along (pos 1)) ∷ [])
          ∷ (item 0 1 (along (negsuc 0)) ∷ [])
          ∷ (item 0 1 (along (pos 1)) ∷ [])
          ∷ (item 1 1 (along (negsuc 0)) ∷ [])
          ∷ (item 0 2 (along (pos 1)) ∷ [])
          ∷ (item 1 2 (along (pos 1)) ∷ [])
          ∷ (item 2 3 (along (negsuc 0)) ∷ [])
          ∷ (item 0 3 (along (pos 1)) ∷ [])
          ∷ (item 1 4 (along (pos 1)) ∷ [])
          ∷ [];
      code =
          instr.Fix 0 (line (dim.Range (pos 1) (pos 4) (pos 1) (pos 1)))
          ∷ instr.Loop 0 0
          ∷ instr.Fix 1 (line (dim.Range (pos 2) (pos 3) (pos 1) (pos 2)))
          ∷ instr.Start 0
          ∷ instr.Finish 0
          ∷ instr.Start 1
          ∷ instr.Finish 1
          ∷ instr.Start 2
          ∷ instr.Loop 1 1
          ∷ instr.Set 0 2 11
          ∷ instr.Finish 2
          ∷ instr.Loop 1 2
          ∷ instr.Vote 2
          ∷ instr.Start 3
          ∷ instr.Print 0
          ∷ instr.Print 1
          ∷ instr.Finish 3
          ∷ instr.Loop 1 3
          ∷ instr.Unless 5 33 16
          ∷ instr.Fix 2 (line (dim.Range (pos 2) (pos 3) (pos 1) (pos 2)))
          ∷ instr.Start 4
          ∷ instr.Start 5
          ∷ instr.Finish 4
          ∷ instr.Finish 5
          ∷ instr.Loop 2 4
          ∷ instr.Fix 3 (line (dim.Range (pos 2) (pos 3) (pos 1) (pos 2)))
          ∷ instr.Start 6
          ∷ instr.Start 7
          ∷ instr.Finish 6
          ∷ instr.Finish 7
          ∷ instr.Loop 3 5
          ∷ instr.Set 0 8 19
          ∷ instr.Jump 18
          ∷ instr.Fix 4 (line (dim.Range (pos 2) (pos 3) (pos 1) (pos 2)))
          ∷ instr.Start 8
          ∷ instr.Finish 8
          ∷ instr.Loop 4 6
          ∷ instr.Set 1 11 22
          ∷ instr.Loop 0 7
          ∷ instr.Fold 1 fold.Sum
          ∷ instr.Set 0 12 22
          ∷ instr.End
          ∷ [];
    }
early = refl

-- early, over links that hold two messages
early_in_room :
    code_of (built_with (record no_options { early = true }) (Some 2)) ≡ record flat {
      grid = two;
      exchanges =
          (item 0 1 (along (pos 1)) ∷ [])
          ∷ (item 0 1 (along (negsuc 0)) ∷ [])
          ∷ (item 0 1 (along (pos 1)) ∷ [])
          ∷ (item 1 1 (along (negsuc 0)) ∷ [])
          ∷ (item 0 2 (along (pos 1)) ∷ [])
          ∷ (item 1 2 (along (pos 1)) ∷ [])
          ∷ (item 2 3 (along (negsuc 0)) ∷ [])
          ∷ (item 0 3 (along (pos 1)) ∷ [])
          ∷ (item 1 4 (along (pos 1)) ∷ [])
          ∷ [];
      code =
          instr.Fix 0 (line (dim.Range (pos 1) (pos 4) (pos 1) (pos 1)))
          ∷ instr.Loop 0 0
          ∷ instr.Fix 1 (line (dim.Range (pos 2) (pos 3) (pos 1) (pos 2)))
          ∷ instr.Start 0
          ∷ instr.Finish 0
          ∷ instr.Start 1
          ∷ instr.Finish 1
          ∷ instr.Start 2
          ∷ instr.Loop 1 1
          ∷ instr.Set 0 2 11
          ∷ instr.Finish 2
          ∷ instr.Loop 1 2
          ∷ instr.Vote 2
          ∷ instr.Start 3
          ∷ instr.Print 0
          ∷ instr.Print 1
          ∷ instr.Finish 3
          ∷ instr.Loop 1 3
          ∷ instr.Unless 5 33 16
          ∷ instr.Fix 2 (line (dim.Range (pos 2) (pos 3) (pos 1) (pos 2)))
          ∷ instr.Start 4
          ∷ instr.Start 5
          ∷ instr.Finish 4
          ∷ instr.Finish 5
          ∷ instr.Loop 2 4
          ∷ instr.Fix 3 (line (dim.Range (pos 2) (pos 3) (pos 1) (pos 2)))
          ∷ instr.Start 6
          ∷ instr.Start 7
          ∷ instr.Finish 6
          ∷ instr.Finish 7
          ∷ instr.Loop 3 5
          ∷ instr.Set 0 8 19
          ∷ instr.Jump 18
          ∷ instr.Fix 4 (line (dim.Range (pos 2) (pos 3) (pos 1) (pos 2)))
          ∷ instr.Start 8
          ∷ instr.Finish 8
          ∷ instr.Loop 4 6
          ∷ instr.Set 1 11 22
          ∷ instr.Loop 0 7
          ∷ instr.Fold 1 fold.Sum
          ∷ instr.Set 0 12 22
          ∷ instr.End
          ∷ [];
    }
early_in_room = refl

-- early, over links that hold one
early_in_turn :
    code_of (built_with (record no_options { early = true }) (Some 1)) ≡ record flat {
      grid = two;
      exchanges =
          (item 0 1 (along (pos 1)) ∷ [])
          ∷ (item 0 1 (along (negsuc 0)) ∷ [])
          ∷ (item 0 1 (along (pos 1)) ∷ [])
          ∷ (item 1 1 (along (negsuc 0)) ∷ [])
          ∷ (item 0 2 (along (pos 1)) ∷ [])
          ∷ (item 1 2 (along (pos 1)) ∷ [])
          ∷ (item 2 3 (along (negsuc 0)) ∷ [])
          ∷ (item 0 3 (along (pos 1)) ∷ [])
          ∷ (item 1 4 (along (pos 1)) ∷ [])
          ∷ [];
      code =
          instr.Fix 0 (line (dim.Range (pos 1) (pos 4) (pos 1) (pos 1)))
          ∷ instr.Loop 0 0
          ∷ instr.Fix 1 (line (dim.Range (pos 2) (pos 3) (pos 1) (pos 2)))
          ∷ instr.Start 0
          ∷ instr.Finish 0
          ∷ instr.Start 1
          ∷ instr.Finish 1
          ∷ instr.Start 2
          ∷ instr.Loop 1 1
          ∷ instr.Set 0 2 11
          ∷ instr.Finish 2
          ∷ instr.Loop 1 2
          ∷ instr.Vote 2
          ∷ instr.Start 3
          ∷ instr.Print 0
          ∷ instr.Print 1
          ∷ instr.Finish 3
          ∷ instr.Loop 1 3
          ∷ instr.Unless 5 33 16
          ∷ instr.Fix 2 (line (dim.Range (pos 2) (pos 3) (pos 1) (pos 2)))
          ∷ instr.Start 4
          ∷ instr.Finish 4
          ∷ instr.Start 5
          ∷ instr.Finish 5
          ∷ instr.Loop 2 4
          ∷ instr.Fix 3 (line (dim.Range (pos 2) (pos 3) (pos 1) (pos 2)))
          ∷ instr.Start 6
          ∷ instr.Finish 6
          ∷ instr.Start 7
          ∷ instr.Finish 7
          ∷ instr.Loop 3 5
          ∷ instr.Set 0 8 19
          ∷ instr.Jump 18
          ∷ instr.Fix 4 (line (dim.Range (pos 2) (pos 3) (pos 1) (pos 2)))
          ∷ instr.Start 8
          ∷ instr.Finish 8
          ∷ instr.Loop 4 6
          ∷ instr.Set 1 11 22
          ∷ instr.Loop 0 7
          ∷ instr.Fold 1 fold.Sum
          ∷ instr.Set 0 12 22
          ∷ instr.End
          ∷ [];
    }
early_in_turn = refl

-- all of these, and agreements along the tree
all :
    code_of (built_with (record no_options {
      redundant = true;
      merge = true;
      early = true;
      tree =
          true;
    }) None) ≡ record flat {
      grid = two;
      exchanges =
          (item 0 1 (along (pos 1)) ∷ item 0 1 (along (negsuc 0)) ∷ [])
          ∷ (item 1 1 (along (negsuc 0)) ∷ [])
          ∷ (item 0 2 (along (pos 1)) ∷ item 1 2 (along (pos 1)) ∷ [])
          ∷ (item 2 3 (along (negsuc 0)) ∷ item 0 3 (along (pos 1)) ∷ [])
          ∷ (item 1 4 (along (pos 1)) ∷ [])
          ∷ [];
      code =
          instr.Fix 0 (line (dim.Range (pos 1) (pos 4) (pos 1) (pos 1)))
          ∷ instr.Loop 0 0
          ∷ instr.Fix 1 (line (dim.Range (pos 2) (pos 3) (pos 1) (pos 2)))
          ∷ instr.Start 0
          ∷ instr.Finish 0
          ∷ instr.Loop 1 1
          ∷ instr.Set 0 2 11
          ∷ instr.Loop 1 2
          ∷ instr.TreeVote 2
          ∷ instr.Start 1
          ∷ instr.Print 0
          ∷ instr.Print 1
          ∷ instr.Finish 1
          ∷ instr.Loop 1 3
          ∷ instr.Unless 5 25 16
          ∷ instr.Fix 2 (line (dim.Range (pos 2) (pos 3) (pos 1) (pos 2)))
          ∷ instr.Start 2
          ∷ instr.Finish 2
          ∷ instr.Loop 2 4
          ∷ instr.Fix 3 (line (dim.Range (pos 2) (pos 3) (pos 1) (pos 2)))
          ∷ instr.Start 3
          ∷ instr.Finish 3
          ∷ instr.Loop 3 5
          ∷ instr.Set 0 8 19
          ∷ instr.Jump 14
          ∷ instr.Fix 4 (line (dim.Range (pos 2) (pos 3) (pos 1) (pos 2)))
          ∷ instr.Start 4
          ∷ instr.Finish 4
          ∷ instr.Loop 4 6
          ∷ instr.Set 1 11 22
          ∷ instr.Loop 0 7
          ∷ instr.TreeFold 1 fold.Sum
          ∷ instr.Set 0 12 22
          ∷ instr.End
          ∷ [];
    }
all = refl
