-- Ranks: where two meet, and where none is given.
use Rattle.std.proofs.Common.{◌≡◌, true, false, [], ◌∷◌, Some, None, pos, codes, refl}
use Rattle.zpl_tree.specs.of_zpl_nums.declared.operators.Op.TheVariants as op
use Rattle.zpl_tree.specs.of_zpl_nums.declared.folds.Fold.TheVariants as fold
use Rattle.zpl_tree.specs.of_zpl_nums.declared.ends.Border.TheVariants as ends
use Rattle.zpl_tree.specs.Syntax.{Number, Coord, Named, Shifted, Around, Remap, Call, Paren, Pair, Reduce, Scan, Flood, NoExpr, ThenExpr, NamedDir, Vector, NamedRegion, Ditto, Rexpr, Dims, NoBracket, Bracketed, NoPost, ThenPost, One, Span, NoDim, ThenDim, Value, Prefixed, NoStmt, ThenStmt, Assign, Invoke, Block, If, For, Border, Write, Return, Tested, NoArm, ThenArm, NoElse, Integer, Constant, Regions, Defined}
use Rattle.zpl_names.specs.Accepted.{UnknownName, RankClash, NoRegion, RankUnknown}
use Rattle.zpl_names.proofs.Trees.{name, faults_of, statements, declared}

-- ---- RankClash

-- [Q] M := A * 2 + N;
ranks_the_right_operand : faults_of (statements [] (ThenStmt (Prefixed 4 ((record {
  at = 0;
  region =
      (Rexpr [] (NamedRegion (name (codes "Q") 1)) NoPost);
  mask = None;
}) ∷ []) (Assign (name (codes
    "M") 4) None (Pair 9 op.Add (Pair 9 op.Mul (Named 9 (name (codes "A") 9)) (Number 13 (pos 2)))
    (Named 17 (name (codes "N") 17))))) NoStmt)) ≡ (RankClash, 9) ∷ (RankClash, 17) ∷ []
ranks_the_right_operand = refl

-- [R] x := A + 1;
ranks_a_scalar_array : faults_of (statements [] (ThenStmt (Prefixed 4 ((record {
  at = 0;
  region =
      (Rexpr [] (NamedRegion (name (codes "R") 1)) NoPost);
  mask = None;
}) ∷ []) (Assign (name (codes
    "x") 4) None (Pair 9 op.Add (Named 9 (name (codes "A") 9)) (Number 13 (pos 1))))) NoStmt)) ≡
    (RankClash, 9) ∷ []
ranks_a_scalar_array = refl

-- [Q] M := +||[3] N;
ranks_a_scan_dimension : faults_of (statements [] (ThenStmt (Prefixed 4 ((record {
  at = 0;
  region =
      (Rexpr [] (NamedRegion (name (codes "Q") 1)) NoPost);
  mask = None;
}) ∷ []) (Assign (name (codes
    "M") 4) None (Scan 9 fold.Sum (Some (pos 3)) (Named 16 (name (codes "N") 16))))) NoStmt)) ≡
    (RankClash, 16) ∷ []
ranks_a_scan_dimension = refl

-- [Q] M := +||[0] N;
ranks_a_scan_dimension_0 : faults_of (statements [] (ThenStmt (Prefixed 4 ((record {
  at = 0;
  region
      = (Rexpr [] (NamedRegion (name (codes "Q") 1)) NoPost);
  mask = None;
}) ∷ []) (Assign (name
    (codes "M") 4) None (Scan 9 fold.Sum (Some (pos 0)) (Named 16 (name (codes "N") 16))))) NoStmt))
    ≡ (RankClash, 16) ∷ []
ranks_a_scan_dimension_0 = refl

-- [Q] M := +||[2] N;
ranks_a_scan_dimension_that_is : faults_of (statements [] (ThenStmt (Prefixed 4 ((record {
  at = 0;
  region = (Rexpr [] (NamedRegion (name (codes "Q") 1)) NoPost);
  mask = None;
}) ∷ []) (Assign
    (name (codes "M") 4) None (Scan 9 fold.Sum (Some (pos 2)) (Named 16 (name (codes "N") 16)))))
    NoStmt)) ≡ []
ranks_a_scan_dimension_that_is = refl

-- [Q] begin [R] A := +<<[Q] A; end;
ranks_a_partial_reduction : faults_of (statements [] (ThenStmt (Prefixed 4 ((record {
  at = 0;
  region
      = (Rexpr [] (NamedRegion (name (codes "Q") 1)) NoPost);
  mask = None;
}) ∷ []) (Block (ThenStmt
    (Prefixed 14 ((record {
      at = 10;
      region = (Rexpr [] (NamedRegion (name (codes "R") 11)) NoPost);
      mask = None;
    }) ∷ []) (Assign (name (codes "A") 14) None (Reduce 19 fold.Sum (Bracketed (Rexpr []
    (NamedRegion (name (codes "Q") 23)) NoPost)) (Named 26 (name (codes "A") 26))))) NoStmt)))
    NoStmt)) ≡ (RankClash, 19) ∷ (RankClash, 26) ∷ []
ranks_a_partial_reduction = refl

-- [Q] M := N + (A + 1);
ranks_another_rank_around : faults_of (statements [] (ThenStmt (Prefixed 4 ((record {
  at = 0;
  region
      = (Rexpr [] (NamedRegion (name (codes "Q") 1)) NoPost);
  mask = None;
}) ∷ []) (Assign (name
    (codes "M") 4) None (Pair 9 op.Add (Named 9 (name (codes "N") 9)) (Paren 13 (Pair 14 op.Add
    (Named 14 (name (codes "A") 14)) (Number 18 (pos 1))))))) NoStmt)) ≡ (RankClash, 13) ∷ []
ranks_another_rank_around = refl

-- [Q] M := N@[1];
ranks_a_vector_of_another_rank : faults_of (statements [] (ThenStmt (Prefixed 4 ((record {
  at = 0;
  region = (Rexpr [] (NamedRegion (name (codes "Q") 1)) NoPost);
  mask = None;
}) ∷ []) (Assign
    (name (codes "M") 4) None (Shifted 9 (name (codes "N") 9) (Vector (ThenExpr (Number 12 (pos 1))
    NoExpr))))) NoStmt)) ≡ (RankClash, 12) ∷ []
ranks_a_vector_of_another_rank = refl

-- [Q] M := N@^e;
ranks_of_another_rank : faults_of (statements [] (ThenStmt (Prefixed 4 ((record {
  at = 0;
  region =
      (Rexpr [] (NamedRegion (name (codes "Q") 1)) NoPost);
  mask = None;
}) ∷ []) (Assign (name (codes
    "M") 4) None (Around 9 (name (codes "N") 9) (NamedDir (name (codes "e") 12))))) NoStmt)) ≡
    (RankClash, 12) ∷ []
ranks_of_another_rank = refl

-- [Q] M := N#[1];
ranks_a_remap_with_too_few_indices : faults_of (statements [] (ThenStmt (Prefixed 4 ((record {
  at =
      0;
  region = (Rexpr [] (NamedRegion (name (codes "Q") 1)) NoPost);
  mask = None;
}) ∷ []) (Assign
    (name (codes "M") 4) None (Remap 9 (name (codes "N") 9) (ThenExpr (Number 12 (pos 1)) NoExpr))))
    NoStmt)) ≡ (RankClash, 9) ∷ []
ranks_a_remap_with_too_few_indices = refl

-- [R] A := B#[1, 2];
ranks_a_remap_with_too_many_indices : faults_of (statements [] (ThenStmt (Prefixed 4 ((record {
  at =
      0;
  region = (Rexpr [] (NamedRegion (name (codes "R") 1)) NoPost);
  mask = None;
}) ∷ []) (Assign
    (name (codes "A") 4) None (Remap 9 (name (codes "B") 9) (ThenExpr (Number 12 (pos 1)) (ThenExpr
    (Number 15 (pos 2)) NoExpr))))) NoStmt)) ≡ (RankClash, 9) ∷ []
ranks_a_remap_with_too_many_indices = refl

-- [Q] M := A#[Index1 + Index2];
ranks_a_remap_of_another_rank : faults_of (statements [] (ThenStmt (Prefixed 4 ((record {
  at = 0;
  region = (Rexpr [] (NamedRegion (name (codes "Q") 1)) NoPost);
  mask = None;
}) ∷ []) (Assign
    (name (codes "M") 4) None (Remap 9 (name (codes "A") 9) (ThenExpr (Pair 12 op.Add (Coord 12 1)
    (Coord 21 2)) NoExpr)))) NoStmt)) ≡ []
ranks_a_remap_of_another_rank = refl

-- [R] B := M#[A, Index1];
ranks_a_remap_of_its_indices_rank : faults_of (statements [] (ThenStmt (Prefixed 4 ((record {
  at =
      0;
  region = (Rexpr [] (NamedRegion (name (codes "R") 1)) NoPost);
  mask = None;
}) ∷ []) (Assign
    (name (codes "B") 4) None (Remap 9 (name (codes "M") 9) (ThenExpr (Named 12 (name (codes "A")
    12)) (ThenExpr (Coord 15 1) NoExpr))))) NoStmt)) ≡ []
ranks_a_remap_of_its_indices_rank = refl

-- [R] B := M#[A, N];
ranks_a_remap_of_two_ranks : faults_of (statements [] (ThenStmt (Prefixed 4 ((record {
  at = 0;
  region = (Rexpr [] (NamedRegion (name (codes "R") 1)) NoPost);
  mask = None;
}) ∷ []) (Assign
    (name (codes "B") 4) None (Remap 9 (name (codes "M") 9) (ThenExpr (Named 12 (name (codes "A")
    12)) (ThenExpr (Named 15 (name (codes "N") 15)) NoExpr))))) NoStmt)) ≡ (RankClash, 15) ∷ []
ranks_a_remap_of_two_ranks = refl

-- [Q] M := N + A#[B];
ranks_a_remap_in_another_rank : faults_of (statements [] (ThenStmt (Prefixed 4 ((record {
  at = 0;
  region = (Rexpr [] (NamedRegion (name (codes "Q") 1)) NoPost);
  mask = None;
}) ∷ []) (Assign
    (name (codes "M") 4) None (Pair 9 op.Add (Named 9 (name (codes "N") 9)) (Remap 13 (name (codes
    "A") 13) (ThenExpr (Named 16 (name (codes "B") 16)) NoExpr))))) NoStmt)) ≡ (RankClash, 13) ∷ []
ranks_a_remap_in_another_rank = refl

-- [R] B := A#[Index2];
ranks_indexk_in_an_index_of_a_remap : faults_of (statements [] (ThenStmt (Prefixed 4 ((record {
  at =
      0;
  region = (Rexpr [] (NamedRegion (name (codes "R") 1)) NoPost);
  mask = None;
}) ∷ []) (Assign
    (name (codes "B") 4) None (Remap 9 (name (codes "A") 9) (ThenExpr (Coord 12 2) NoExpr))))
    NoStmt)) ≡ (RankClash, 12) ∷ []
ranks_indexk_in_an_index_of_a_remap = refl

-- [R] x := A#[2];
ranks_a_remap_is_as_open_as_index1 : faults_of (statements [] (ThenStmt (Prefixed 4 ((record {
  at =
      0;
  region = (Rexpr [] (NamedRegion (name (codes "R") 1)) NoPost);
  mask = None;
}) ∷ []) (Assign
    (name (codes "x") 4) None (Remap 9 (name (codes "A") 9) (ThenExpr (Number 12 (pos 2)) NoExpr))))
    NoStmt)) ≡ (RankClash, 9) ∷ []
ranks_a_remap_is_as_open_as_index1 = refl

-- [R] begin [1..2, 1..2, 1..2, 1..2] x := 1; end;
ranks_a_fourth_part : faults_of (statements [] (ThenStmt (Prefixed 4 ((record {
  at = 0;
  region =
      (Rexpr [] (NamedRegion (name (codes "R") 1)) NoPost);
  mask = None;
}) ∷ []) (Block (ThenStmt
    (Prefixed 35 ((record {
      at = 10;
      region = (Dims (ThenDim (Span (Number 11 (pos 1)) (Number 14
          (pos 2))) (ThenDim (Span (Number 17 (pos 1)) (Number 20 (pos 2))) (ThenDim (Span (Number 23 (pos
          1)) (Number 26 (pos 2))) (ThenDim (Span (Number 29 (pos 1)) (Number 32 (pos 2))) NoDim)))));
      mask = None;
    }) ∷ []) (Assign (name (codes "x") 35) None (Number 40 (pos 1)))) NoStmt))) NoStmt))
    ≡ (RankClash, 29) ∷ []
ranks_a_fourth_part = refl

-- [R] B := A@[1, 2, 3, 4];
ranks_a_fourth_component : faults_of (statements [] (ThenStmt (Prefixed 4 ((record {
  at = 0;
  region
      = (Rexpr [] (NamedRegion (name (codes "R") 1)) NoPost);
  mask = None;
}) ∷ []) (Assign (name
    (codes "B") 4) None (Shifted 9 (name (codes "A") 9) (Vector (ThenExpr (Number 12 (pos 1))
    (ThenExpr (Number 15 (pos 2)) (ThenExpr (Number 18 (pos 3)) (ThenExpr (Number 21 (pos 4))
    NoExpr)))))))) NoStmt)) ≡ (RankClash, 21) ∷ []
ranks_a_fourth_component = refl

-- [se of R] A := 1;
ranks_of_a_direction_of_another_rank : faults_of (statements [] (ThenStmt (Prefixed 10 ((record {
  at
      = 0;
  region = (Rexpr ((record { dir = (name (codes "se") 1); outside = true }) ∷ [])
      (NamedRegion (name (codes "R") 7)) NoPost);
  mask = None;
}) ∷ []) (Assign (name (codes "A") 10)
    None (Number 15 (pos 1)))) NoStmt)) ≡ (RankClash, 7) ∷ []
ranks_of_a_direction_of_another_rank = refl

-- [e of se of Q] M := 1;
ranks_of_of : faults_of (statements [] (ThenStmt (Prefixed 15 ((record {
  at = 0;
  region = (Rexpr
      ((record { dir = (name (codes "e") 1); outside = true }) ∷ (record {
        dir = (name (codes "se")
            6);
        outside = true;
      }) ∷ []) (NamedRegion (name (codes "Q") 12)) NoPost);
  mask = None;
}) ∷ [])
    (Assign (name (codes "M") 15) None (Number 20 (pos 1)))) NoStmt)) ≡ (RankClash, 6) ∷ []
ranks_of_of = refl

-- [R at se] A := 1;
ranks_at_another_rank : faults_of (statements [] (ThenStmt (Prefixed 10 ((record {
  at = 0;
  region =
      (Rexpr [] (NamedRegion (name (codes "R") 1)) (ThenPost false (NamedDir (name (codes "se") 6))
      NoPost));
  mask = None;
}) ∷ []) (Assign (name (codes "A") 10) None (Number 15 (pos 1)))) NoStmt))
    ≡ (RankClash, 6) ∷ []
ranks_at_another_rank = refl

-- [R by [2, 2]] A := 1;
ranks_by_a_vector : faults_of (statements [] (ThenStmt (Prefixed 14 ((record {
  at = 0;
  region =
      (Rexpr [] (NamedRegion (name (codes "R") 1)) (ThenPost true (Vector (ThenExpr (Number 7 (pos 2))
      (ThenExpr (Number 10 (pos 2)) NoExpr))) NoPost));
  mask = None;
}) ∷ []) (Assign (name (codes "A")
    14) None (Number 19 (pos 1)))) NoStmt)) ≡ (RankClash, 7) ∷ []
ranks_by_a_vector = refl

-- [e of R at e] A := 1;
ranks_of_binds_weaker_than_at : faults_of (statements [] (ThenStmt (Prefixed 14 ((record {
  at = 0;
  region = (Rexpr ((record { dir = (name (codes "e") 1); outside = true }) ∷ []) (NamedRegion
      (name (codes "R") 6)) (ThenPost false (NamedDir (name (codes "e") 11)) NoPost));
  mask = None;
})
    ∷ []) (Assign (name (codes "A") 14) None (Number 19 (pos 1)))) NoStmt)) ≡ []
ranks_of_binds_weaker_than_at = refl

-- [1..A] B := 1;
ranks_a_bound_is_an_array : faults_of (statements [] (ThenStmt (Prefixed 7 ((record {
  at = 0;
  region
      = (Dims (ThenDim (Span (Number 1 (pos 1)) (Named 4 (name (codes "A") 4))) NoDim));
  mask = None;
}) ∷ []) (Assign (name (codes "B") 7) None (Number 12 (pos 1)))) NoStmt)) ≡ (RankClash, 4) ∷ []
ranks_a_bound_is_an_array = refl

-- [R] [1..Index1] B := 1;
ranks_a_coordinate_in_a_bound : faults_of (statements [] (ThenStmt (Prefixed 16 ((record {
  at = 0;
  region = (Rexpr [] (NamedRegion (name (codes "R") 1)) NoPost);
  mask = None;
}) ∷ (record {
  at =
      4;
  region = (Dims (ThenDim (Span (Number 5 (pos 1)) (Coord 8 1)) NoDim));
  mask = None;
}) ∷ [])
    (Assign (name (codes "B") 16) None (Number 21 (pos 1)))) NoStmt)) ≡ (RankClash, 8) ∷ []
ranks_a_coordinate_in_a_bound = refl

-- [A] B := 1;
ranks_an_index_that_is_an_array : faults_of (statements [] (ThenStmt (Prefixed 4 ((record {
  at = 0;
  region = (Rexpr [] (NamedRegion (name (codes "A") 1)) NoPost);
  mask = None;
}) ∷ []) (Assign
    (name (codes "B") 4) None (Number 9 (pos 1)))) NoStmt)) ≡ (RankClash, 1) ∷ []
ranks_an_index_that_is_an_array = refl

-- [R] B := A@[Index1];
ranks_a_coordinate_in_a_component : faults_of (statements [] (ThenStmt (Prefixed 4 ((record {
  at =
      0;
  region = (Rexpr [] (NamedRegion (name (codes "R") 1)) NoPost);
  mask = None;
}) ∷ []) (Assign
    (name (codes "B") 4) None (Shifted 9 (name (codes "A") 9) (Vector (ThenExpr (Coord 12 1)
    NoExpr))))) NoStmt)) ≡ (RankClash, 12) ∷ []
ranks_a_coordinate_in_a_component = refl

-- [R] for i := Index1 to 3 do x := 1; end;
ranks_a_coordinate_in_a_for_limit : faults_of (statements [] (ThenStmt (Prefixed 4 ((record {
  at =
      0;
  region = (Rexpr [] (NamedRegion (name (codes "R") 1)) NoPost);
  mask = None;
}) ∷ []) (For
    (record {
      name = (name (codes "i") 8);
      first = (Coord 13 1);
      down = false;
      last = (Number 23
          (pos 3));
      step = None;
    }) (ThenStmt (Prefixed 28 [] (Assign (name (codes "x") 28) None (Number 33
    (pos 1)))) NoStmt))) NoStmt)) ≡ (RankClash, 13) ∷ []
ranks_a_coordinate_in_a_for_limit = refl

-- [Q] [R] x := +<<Index1;
ranks_a_coordinate_of_the_innermost_prefix : faults_of (statements [] (ThenStmt (Prefixed 8 ((record
    { at = 0; region = (Rexpr [] (NamedRegion (name (codes "Q") 1)) NoPost); mask = None }) ∷
    (record { at = 4; region = (Rexpr [] (NamedRegion (name (codes "R") 5)) NoPost); mask = None })
    ∷ []) (Assign (name (codes "x") 8) None (Reduce 13 fold.Sum NoBracket (Coord 16 1)))) NoStmt)) ≡
    []
ranks_a_coordinate_of_the_innermost_prefix = refl

-- [Q] [R] x := +<<Index2;
ranks_a_coordinate_above_the_innermost_prefix : faults_of (statements [] (ThenStmt (Prefixed 8
    ((record { at = 0; region = (Rexpr [] (NamedRegion (name (codes "Q") 1)) NoPost); mask = None })
    ∷ (record {
      at = 4;
      region = (Rexpr [] (NamedRegion (name (codes "R") 5)) NoPost);
      mask = None;
    }) ∷ []) (Assign (name (codes "x") 8) None (Reduce 13 fold.Sum NoBracket (Coord 16 2))))
    NoStmt)) ≡ (RankClash, 16) ∷ []
ranks_a_coordinate_above_the_innermost_prefix = refl

-- [R] [Q] [R] M := Index2;
ranks_a_coordinate_of_the_assigned_array : faults_of (statements [] (ThenStmt (Prefixed 12 ((record
    { at = 0; region = (Rexpr [] (NamedRegion (name (codes "R") 1)) NoPost); mask = None }) ∷
    (record { at = 4; region = (Rexpr [] (NamedRegion (name (codes "Q") 5)) NoPost); mask = None })
    ∷ (record {
      at = 8;
      region = (Rexpr [] (NamedRegion (name (codes "R") 9)) NoPost);
      mask = None;
    }) ∷ []) (Assign (name (codes "M") 12) None (Coord 17 2))) NoStmt)) ≡ []
ranks_a_coordinate_of_the_assigned_array = refl

-- [Q] begin M := +<<Index2; [R] M := +<<Index2; end;
ranks_a_reduction_does_not_take_the_assigned_array : faults_of (statements [] (ThenStmt (Prefixed 4
    ((record { at = 0; region = (Rexpr [] (NamedRegion (name (codes "Q") 1)) NoPost); mask = None })
    ∷ []) (Block (ThenStmt (Prefixed 10 [] (Assign (name (codes "M") 10) None (Reduce 15 fold.Sum
    NoBracket (Coord 18 2)))) (ThenStmt (Prefixed 30 ((record {
      at = 26;
      region = (Rexpr []
          (NamedRegion (name (codes "R") 27)) NoPost);
      mask = None;
    }) ∷ []) (Assign (name (codes "M") 30)
    None (Reduce 35 fold.Sum NoBracket (Coord 38 2)))) NoStmt)))) NoStmt)) ≡ (RankClash, 38) ∷ []
ranks_a_reduction_does_not_take_the_assigned_array = refl

-- [Q] begin [R] M := +||Index2; end;
ranks_a_scan_takes_the_assigned_array : faults_of (statements [] (ThenStmt (Prefixed 4 ((record {
  at
      = 0;
  region = (Rexpr [] (NamedRegion (name (codes "Q") 1)) NoPost);
  mask = None;
}) ∷ []) (Block
    (ThenStmt (Prefixed 14 ((record {
      at = 10;
      region = (Rexpr [] (NamedRegion (name (codes "R")
          11)) NoPost);
      mask = None;
    }) ∷ []) (Assign (name (codes "M") 14) None (Scan 19 fold.Sum None
    (Coord 22 2)))) NoStmt))) NoStmt)) ≡ []
ranks_a_scan_takes_the_assigned_array = refl

-- [Q] M := >>[1, 1..4] Index2;
ranks_a_coordinate_under_a_flood : faults_of (statements [] (ThenStmt (Prefixed 4 ((record {
  at = 0;
  region = (Rexpr [] (NamedRegion (name (codes "Q") 1)) NoPost);
  mask = None;
}) ∷ []) (Assign
    (name (codes "M") 4) None (Flood 9 (Dims (ThenDim (One (Number 12 (pos 1))) (ThenDim (Span
    (Number 15 (pos 1)) (Number 18 (pos 4))) NoDim))) (Coord 21 2)))) NoStmt)) ≡ []
ranks_a_coordinate_under_a_flood = refl

-- [R] A := >>[1] Index2;
ranks_an_index_under_a_rank_1_flood : faults_of (statements [] (ThenStmt (Prefixed 4 ((record {
  at =
      0;
  region = (Rexpr [] (NamedRegion (name (codes "R") 1)) NoPost);
  mask = None;
}) ∷ []) (Assign
    (name (codes "A") 4) None (Flood 9 (Dims (ThenDim (One (Number 12 (pos 1))) NoDim)) (Coord 15
    2)))) NoStmt)) ≡ (RankClash, 15) ∷ []
ranks_an_index_under_a_rank_1_flood = refl

-- [R] ["with P] A := 1;
ranks_a_mask_of_another_rank_with_a_ditto : faults_of (statements [] (ThenStmt (Prefixed 14 ((record
    { at = 0; region = (Rexpr [] (NamedRegion (name (codes "R") 1)) NoPost); mask = None }) ∷
    (record {
      at = 4;
      region = (Rexpr [] (Ditto 5) NoPost);
      mask = (Some (record {
        name = (name
            (codes "P") 11);
        without = false;
      }));
    }) ∷ []) (Assign (name (codes "A") 14) None (Number 19 (pos
    1)))) NoStmt)) ≡ []
ranks_a_mask_of_another_rank_with_a_ditto = refl

-- [R] [e of "] A := 1;
ranks_of_a_ditto : faults_of (statements [] (ThenStmt (Prefixed 13 ((record {
  at = 0;
  region =
      (Rexpr [] (NamedRegion (name (codes "R") 1)) NoPost);
  mask = None;
}) ∷ (record {
  at = 4;
  region
      = (Rexpr ((record { dir = (name (codes "e") 5); outside = true }) ∷ []) (Ditto 10) NoPost);
  mask
      = None;
}) ∷ []) (Assign (name (codes "A") 13) None (Number 18 (pos 1)))) NoStmt)) ≡ []
ranks_of_a_ditto = refl

-- [Q] [se of e of "] M := 1;
ranks_of_a_ditto_of_another_rank : faults_of (statements [] (ThenStmt (Prefixed 19 ((record {
  at =
      0;
  region = (Rexpr [] (NamedRegion (name (codes "Q") 1)) NoPost);
  mask = None;
}) ∷ (record {
  at
      = 4;
  region = (Rexpr ((record { dir = (name (codes "se") 5); outside = true }) ∷ (record {
    dir =
        (name (codes "e") 11);
    outside = true;
  }) ∷ []) (Ditto 16) NoPost);
  mask = None;
}) ∷ []) (Assign
    (name (codes "M") 19) None (Number 24 (pos 1)))) NoStmt)) ≡ (RankClash, 11) ∷ (NoRegion, 16) ∷
    []
ranks_of_a_ditto_of_another_rank = refl

-- [e of R] wrap A, M;
ranks_a_border_of_two_arrays : faults_of (statements [] (ThenStmt (Prefixed 9 ((record {
  at = 0;
  region = (Rexpr ((record { dir = (name (codes "e") 1); outside = true }) ∷ []) (NamedRegion
      (name (codes "R") 6)) NoPost);
  mask = None;
}) ∷ []) (Border ends.Wrap ((name (codes "A") 14) ∷
    (name (codes "M") 17) ∷ []))) NoStmt)) ≡ (RankClash, 17) ∷ []
ranks_a_border_of_two_arrays = refl

-- procedure f() : integer; begin [R] return A; end; x := f();
ranks_a_result_that_is_an_array : faults_of (statements ((Defined (record {
  name = (name (codes "f")
      10);
  params = [];
  result = (Some Integer);
  locals = [];
  body = (Prefixed 25 [] (Block (ThenStmt
      (Prefixed 35 ((record {
        at = 31;
        region = (Rexpr [] (NamedRegion (name (codes "R") 32)) NoPost);
        mask = None;
      }) ∷ []) (Return (Named 42 (name (codes "A") 42)))) NoStmt)));
})) ∷ []) (ThenStmt
    (Prefixed 50 [] (Assign (name (codes "x") 50) None (Call 55 (name (codes "f") 55) NoExpr)))
    NoStmt)) ≡ (RankClash, 42) ∷ []
ranks_a_result_that_is_an_array = refl

-- constant c : integer = Index1; writeln(1);
ranks_an_array_as_a_default : faults_of (declared ((Constant ((record {
  name = (name (codes "c") 9);
  base = Integer;
  value = (Coord 23 1);
}) ∷ [])) ∷ []) (ThenStmt (Prefixed 31 [] (Write true
    ((Value (Number 39 (pos 1))) ∷ []))) NoStmt)) ≡ (RankUnknown, 23) ∷ []
ranks_an_array_as_a_default = refl

-- region R = [1..2, 1..2] at [1]; writeln(1);
ranks_posts_of_a_region_in_brackets : faults_of (declared ((Regions ((record {
  name = (name (codes
      "R") 7);
  body = (Dims (ThenDim (Span (Number 12 (pos 1)) (Number 15 (pos 2))) (ThenDim (Span
      (Number 18 (pos 1)) (Number 21 (pos 2))) NoDim)));
  posts = (ThenPost false (Vector (ThenExpr
      (Number 28 (pos 1)) NoExpr)) NoPost);
}) ∷ [])) ∷ []) (ThenStmt (Prefixed 32 [] (Write true
    ((Value (Number 40 (pos 1))) ∷ []))) NoStmt)) ≡ (RankClash, 28) ∷ []
ranks_posts_of_a_region_in_brackets = refl

-- ---- RankUnknown

-- if Index1 > 1 then x := 1; end;
unranked_a_coordinate_without_a_prefix : faults_of (statements [] (ThenStmt (Prefixed 0 [] (If
    (ThenArm (Tested 0 (Pair 3 op.Gt (Coord 3 1) (Number 12 (pos 1))) (ThenStmt (Prefixed 19 []
    (Assign (name (codes "x") 19) None (Number 24 (pos 1)))) NoStmt)) NoArm) NoElse)) NoStmt)) ≡
    (RankUnknown, 3) ∷ []
unranked_a_coordinate_without_a_prefix = refl

-- x := 1 + +||1;
unranked_a_scan_without_a_prefix : faults_of (statements [] (ThenStmt (Prefixed 0 [] (Assign (name
    (codes "x") 0) None (Pair 5 op.Add (Number 5 (pos 1)) (Scan 9 fold.Sum None (Number 12 (pos
    1)))))) NoStmt)) ≡ (RankUnknown, 5) ∷ []
unranked_a_scan_without_a_prefix = refl

-- x := A#[1];
unranked_a_remap_without_a_prefix : faults_of (statements [] (ThenStmt (Prefixed 0 [] (Assign (name
    (codes "x") 0) None (Remap 5 (name (codes "A") 5) (ThenExpr (Number 8 (pos 1)) NoExpr))))
    NoStmt)) ≡ (RankUnknown, 5) ∷ []
unranked_a_remap_without_a_prefix = refl

-- x := +<<1;
unranked_a_reduction_without_a_prefix : faults_of (statements [] (ThenStmt (Prefixed 0 [] (Assign
    (name (codes "x") 0) None (Reduce 5 fold.Sum NoBracket (Number 8 (pos 1))))) NoStmt)) ≡
    (RankUnknown, 8) ∷ []
unranked_a_reduction_without_a_prefix = refl

-- [R] x := +<<1;
unranked_a_reduction_under_a_prefix : faults_of (statements [] (ThenStmt (Prefixed 4 ((record {
  at =
      0;
  region = (Rexpr [] (NamedRegion (name (codes "R") 1)) NoPost);
  mask = None;
}) ∷ []) (Assign
    (name (codes "x") 4) None (Reduce 9 fold.Sum NoBracket (Number 12 (pos 1))))) NoStmt)) ≡ []
unranked_a_reduction_under_a_prefix = refl

-- ["with P] A := 1;
unranked_a_ditto_with_a_mask : faults_of (statements [] (ThenStmt (Prefixed 10 ((record {
  at = 0;
  region = (Rexpr [] (Ditto 1) NoPost);
  mask = (Some (record {
    name = (name (codes "P") 7);
    without = false;
  }));
}) ∷ []) (Assign (name (codes "A") 10) None (Number 15 (pos 1)))) NoStmt)) ≡
    (NoRegion, 1) ∷ []
unranked_a_ditto_with_a_mask = refl

-- [R] A := +<<["] B;
unranked_a_ditto_with_an_operand : faults_of (statements [] (ThenStmt (Prefixed 4 ((record {
  at = 0;
  region = (Rexpr [] (NamedRegion (name (codes "R") 1)) NoPost);
  mask = None;
}) ∷ []) (Assign
    (name (codes "A") 4) None (Reduce 9 fold.Sum (Bracketed (Rexpr [] (Ditto 13) NoPost)) (Named 16
    (name (codes "B") 16))))) NoStmt)) ≡ []
unranked_a_ditto_with_an_operand = refl

-- A := +<<["] 1;
unranked_a_ditto_without : faults_of (statements [] (ThenStmt (Prefixed 0 [] (Assign (name (codes
    "A") 0) None (Reduce 5 fold.Sum (Bracketed (Rexpr [] (Ditto 9) NoPost)) (Number 12 (pos 1)))))
    NoStmt)) ≡ (NoRegion, 0) ∷ (RankUnknown, 9) ∷ []
unranked_a_ditto_without = refl

-- procedure u(); begin writeln(Index1); end; [R] u();
unranked_a_caller_does_not_give_a_rank : faults_of (statements ((Defined (record {
  name = (name
      (codes "u") 10);
  params = [];
  result = None;
  locals = [];
  body = (Prefixed 15 [] (Block
      (ThenStmt (Prefixed 21 [] (Write true ((Value (Coord 29 1)) ∷ []))) NoStmt)));
})) ∷ [])
    (ThenStmt (Prefixed 47 ((record {
      at = 43;
      region = (Rexpr [] (NamedRegion (name (codes "R")
          44)) NoPost);
      mask = None;
    }) ∷ []) (Invoke (name (codes "u") 47) NoExpr)) NoStmt)) ≡
    (RankUnknown, 29) ∷ []
unranked_a_caller_does_not_give_a_rank = refl

-- x := z + Index1; [R] A := z; [z at e] M := 1; writeln(z);
unranked_an_unknown_name_leaves_the_rank_open : faults_of (statements [] (ThenStmt (Prefixed 0 []
    (Assign (name (codes "x") 0) None (Pair 5 op.Add (Named 5 (name (codes "z") 5)) (Coord 9 1))))
    (ThenStmt (Prefixed 21 ((record {
      at = 17;
      region = (Rexpr [] (NamedRegion (name (codes "R")
          18)) NoPost);
      mask = None;
    }) ∷ []) (Assign (name (codes "A") 21) None (Named 26 (name (codes
    "z") 26)))) (ThenStmt (Prefixed 38 ((record {
      at = 29;
      region = (Rexpr [] (NamedRegion (name
          (codes "z") 30)) (ThenPost false (NamedDir (name (codes "e") 35)) NoPost));
      mask = None;
    }) ∷ [])
    (Assign (name (codes "M") 38) None (Number 43 (pos 1)))) (ThenStmt (Prefixed 46 [] (Write true
    ((Value (Named 54 (name (codes "z") 54))) ∷ []))) NoStmt))))) ≡ (UnknownName, 5) ∷ (
      UnknownName,
      26,
    ) ∷ (UnknownName, 30) ∷ (UnknownName, 54) ∷ []
unranked_an_unknown_name_leaves_the_rank_open = refl

-- [z at e] begin A := 1; M := 1; writeln(A); end;
unranked_an_unknown_region_leaves_regions_open : faults_of (statements [] (ThenStmt (Prefixed 9
    ((record {
      at = 0;
      region = (Rexpr [] (NamedRegion (name (codes "z") 1)) (ThenPost false
          (NamedDir (name (codes "e") 6)) NoPost));
      mask = None;
    }) ∷ []) (Block (ThenStmt (Prefixed 15 []
    (Assign (name (codes "A") 15) None (Number 20 (pos 1)))) (ThenStmt (Prefixed 23 [] (Assign (name
    (codes "M") 23) None (Number 28 (pos 1)))) (ThenStmt (Prefixed 31 [] (Write true ((Value (Named
    39 (name (codes "A") 39))) ∷ []))) NoStmt))))) NoStmt)) ≡ (UnknownName, 1) ∷ []
unranked_an_unknown_region_leaves_regions_open = refl
