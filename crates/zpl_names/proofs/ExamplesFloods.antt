-- Flood dimensions.
use Rattle.std.proofs.Common.{◌≡◌, true, false, [], ◌∷◌, Some, None, pos, codes, refl}
use Rattle.zpl_tree.specs.of_zpl_nums.declared.operators.Op.TheVariants as op
use Rattle.zpl_tree.specs.of_zpl_nums.declared.folds.Fold.TheVariants as fold
use Rattle.zpl_tree.specs.of_zpl_nums.declared.ends.Border.TheVariants as ends
use Rattle.zpl_tree.specs.Syntax.{Number, Coord, Named, Around, Remap, Paren, Pair, Reduce, Scan, Flood, NoExpr, ThenExpr, NamedDir, Vector, NamedRegion, Ditto, Rexpr, Dims, NoBracket, Bracketed, NoPost, ThenPost, Blank, Star, One, Span, NoDim, ThenDim, Value, Prefixed, NoStmt, ThenStmt, Assign, Invoke, Block, Border, Write, Defined}
use Rattle.zpl_names.specs.Accepted.{FloodClash}
use Rattle.zpl_names.proofs.Trees.{name, faults_of, statements}

-- ---- FloodClash

-- [G1] H := A;
flood_read_under_a_flood : faults_of (statements [] (ThenStmt (Prefixed 5 ((record {
  at = 0;
  region
      = (Rexpr [] (NamedRegion (name (codes "G1") 1)) NoPost);
  mask = None;
}) ∷ []) (Assign (name
    (codes "H") 5) None (Named 10 (name (codes "A") 10)))) NoStmt)) ≡ (FloodClash, 10) ∷ []
flood_read_under_a_flood = refl

-- [R] A := H + 1; [G1] H := H + x;
flood_a_flood_array_everywhere : faults_of (statements [] (ThenStmt (Prefixed 4 ((record {
  at = 0;
  region = (Rexpr [] (NamedRegion (name (codes "R") 1)) NoPost);
  mask = None;
}) ∷ []) (Assign
    (name (codes "A") 4) None (Pair 9 op.Add (Named 9 (name (codes "H") 9)) (Number 13 (pos 1)))))
    (ThenStmt (Prefixed 21 ((record {
      at = 16;
      region = (Rexpr [] (NamedRegion (name (codes "G1")
          17)) NoPost);
      mask = None;
    }) ∷ []) (Assign (name (codes "H") 21) None (Pair 26 op.Add (Named 26
    (name (codes "H") 26)) (Named 30 (name (codes "x") 30))))) NoStmt))) ≡ []
flood_a_flood_array_everywhere = refl

-- [G1] A := x;
flood_a_written_array : faults_of (statements [] (ThenStmt (Prefixed 5 ((record {
  at = 0;
  region =
      (Rexpr [] (NamedRegion (name (codes "G1") 1)) NoPost);
  mask = None;
}) ∷ []) (Assign (name (codes
    "A") 5) None (Named 10 (name (codes "x") 10)))) NoStmt)) ≡ (FloodClash, 5) ∷ []
flood_a_written_array = refl

-- [R] H := A;
flood_a_written_flood_array : faults_of (statements [] (ThenStmt (Prefixed 4 ((record {
  at = 0;
  region = (Rexpr [] (NamedRegion (name (codes "R") 1)) NoPost);
  mask = None;
}) ∷ []) (Assign
    (name (codes "H") 4) None (Named 9 (name (codes "A") 9)))) NoStmt)) ≡ (FloodClash, 4) ∷ []
flood_a_written_flood_array = refl

-- [G1] H := A@^e;
flood_under_a_flood : faults_of (statements [] (ThenStmt (Prefixed 5 ((record {
  at = 0;
  region =
      (Rexpr [] (NamedRegion (name (codes "G1") 1)) NoPost);
  mask = None;
}) ∷ []) (Assign (name (codes
    "H") 5) None (Around 10 (name (codes "A") 10) (NamedDir (name (codes "e") 13))))) NoStmt)) ≡
    (FloodClash, 10) ∷ []
flood_under_a_flood = refl

-- [F] G := Index1 + Index2;
flood_an_index_under_a_flood : faults_of (statements [] (ThenStmt (Prefixed 4 ((record {
  at = 0;
  region = (Rexpr [] (NamedRegion (name (codes "F") 1)) NoPost);
  mask = None;
}) ∷ []) (Assign
    (name (codes "G") 4) None (Pair 9 op.Add (Coord 9 1) (Coord 18 2)))) NoStmt)) ≡ (FloodClash, 18)
    ∷ []
flood_an_index_under_a_flood = refl

-- [G1] x := +<<1;
flood_a_full_reduction_over_a_flood : faults_of (statements [] (ThenStmt (Prefixed 5 ((record {
  at =
      0;
  region = (Rexpr [] (NamedRegion (name (codes "G1") 1)) NoPost);
  mask = None;
}) ∷ []) (Assign
    (name (codes "x") 5) None (Reduce 10 fold.Sum NoBracket (Number 13 (pos 1))))) NoStmt)) ≡
    (FloodClash, 10) ∷ []
flood_a_full_reduction_over_a_flood = refl

-- [G1] H := +||H;
flood_a_scan_over_a_flood : faults_of (statements [] (ThenStmt (Prefixed 5 ((record {
  at = 0;
  region
      = (Rexpr [] (NamedRegion (name (codes "G1") 1)) NoPost);
  mask = None;
}) ∷ []) (Assign (name
    (codes "H") 5) None (Scan 10 fold.Sum None (Named 13 (name (codes "H") 13))))) NoStmt)) ≡
    (FloodClash, 10) ∷ []
flood_a_scan_over_a_flood = refl

-- [F] write(G + 1);
flood_a_print_over_a_flood : faults_of (statements [] (ThenStmt (Prefixed 4 ((record {
  at = 0;
  region = (Rexpr [] (NamedRegion (name (codes "F") 1)) NoPost);
  mask = None;
}) ∷ []) (Write false
    ((Value (Pair 10 op.Add (Named 10 (name (codes "G") 10)) (Number 14 (pos 1)))) ∷ []))) NoStmt))
    ≡ (FloodClash, 4) ∷ []
flood_a_print_over_a_flood = refl

-- [R] A := >>[*] H;
flood_a_flood_source : faults_of (statements [] (ThenStmt (Prefixed 4 ((record {
  at = 0;
  region =
      (Rexpr [] (NamedRegion (name (codes "R") 1)) NoPost);
  mask = None;
}) ∷ []) (Assign (name (codes
    "A") 4) None (Flood 9 (Dims (ThenDim (Star 12) NoDim)) (Named 15 (name (codes "H") 15)))))
    NoStmt)) ≡ (FloodClash, 9) ∷ []
flood_a_flood_source = refl

-- [R] A := +<<[*] H;
flood_a_partial_source : faults_of (statements [] (ThenStmt (Prefixed 4 ((record {
  at = 0;
  region =
      (Rexpr [] (NamedRegion (name (codes "R") 1)) NoPost);
  mask = None;
}) ∷ []) (Assign (name (codes
    "A") 4) None (Reduce 9 fold.Sum (Bracketed (Dims (ThenDim (Star 13) NoDim))) (Named 16 (name
    (codes "H") 16))))) NoStmt)) ≡ (FloodClash, 9) ∷ []
flood_a_partial_source = refl

-- [F] G := +<<[Q] M; [G1] H := >>[3] A;
flood_a_flood_target : faults_of (statements [] (ThenStmt (Prefixed 4 ((record {
  at = 0;
  region =
      (Rexpr [] (NamedRegion (name (codes "F") 1)) NoPost);
  mask = None;
}) ∷ []) (Assign (name (codes
    "G") 4) None (Reduce 9 fold.Sum (Bracketed (Rexpr [] (NamedRegion (name (codes "Q") 13))
    NoPost)) (Named 16 (name (codes "M") 16))))) (ThenStmt (Prefixed 24 ((record {
      at = 19;
      region =
          (Rexpr [] (NamedRegion (name (codes "G1") 20)) NoPost);
      mask = None;
    }) ∷ []) (Assign (name
    (codes "H") 24) None (Flood 29 (Dims (ThenDim (One (Number 32 (pos 3))) NoDim)) (Named 35 (name
    (codes "A") 35))))) NoStmt))) ≡ []
flood_a_flood_target = refl

-- [G1] H := A#[1];
flood_a_remap_over_a_flood : faults_of (statements [] (ThenStmt (Prefixed 5 ((record {
  at = 0;
  region = (Rexpr [] (NamedRegion (name (codes "G1") 1)) NoPost);
  mask = None;
}) ∷ []) (Assign
    (name (codes "H") 5) None (Remap 10 (name (codes "A") 10) (ThenExpr (Number 13 (pos 1))
    NoExpr)))) NoStmt)) ≡ (FloodClash, 10) ∷ []
flood_a_remap_over_a_flood = refl

-- [R] A := H#[1];
flood_a_remap_of_a_flood_array : faults_of (statements [] (ThenStmt (Prefixed 4 ((record {
  at = 0;
  region = (Rexpr [] (NamedRegion (name (codes "R") 1)) NoPost);
  mask = None;
}) ∷ []) (Assign
    (name (codes "A") 4) None (Remap 9 (name (codes "H") 9) (ThenExpr (Number 12 (pos 1)) NoExpr))))
    NoStmt)) ≡ (FloodClash, 9) ∷ []
flood_a_remap_of_a_flood_array = refl

-- [R] A := B#[1];
flood_a_remap_of_neither : faults_of (statements [] (ThenStmt (Prefixed 4 ((record {
  at = 0;
  region
      = (Rexpr [] (NamedRegion (name (codes "R") 1)) NoPost);
  mask = None;
}) ∷ []) (Assign (name
    (codes "A") 4) None (Remap 9 (name (codes "B") 9) (ThenExpr (Number 12 (pos 1)) NoExpr))))
    NoStmt)) ≡ []
flood_a_remap_of_neither = refl

-- [G1 with P] H := 1;
flood_a_mask_under_a_flood : faults_of (statements [] (ThenStmt (Prefixed 12 ((record {
  at = 0;
  region = (Rexpr [] (NamedRegion (name (codes "G1") 1)) NoPost);
  mask = (Some (record {
    name =
        (name (codes "P") 9);
    without = false;
  }));
}) ∷ []) (Assign (name (codes "H") 12) None (Number 17
    (pos 1)))) NoStmt)) ≡ (FloodClash, 9) ∷ []
flood_a_mask_under_a_flood = refl

-- [se of F] wrap G;
flood_a_border_over_a_flood : faults_of (statements [] (ThenStmt (Prefixed 10 ((record {
  at = 0;
  region = (Rexpr ((record { dir = (name (codes "se") 1); outside = true }) ∷ []) (NamedRegion
      (name (codes "F") 7)) NoPost);
  mask = None;
}) ∷ []) (Border ends.Wrap ((name (codes "G") 15) ∷
    []))) NoStmt)) ≡ (FloodClash, 10) ∷ []
flood_a_border_over_a_flood = refl

-- [F] G := >>[1..3, 2] (M + Index2);
flood_under_a_source_that_isn_t_flood : faults_of (statements [] (ThenStmt (Prefixed 4 ((record {
  at
      = 0;
  region = (Rexpr [] (NamedRegion (name (codes "F") 1)) NoPost);
  mask = None;
}) ∷ []) (Assign
    (name (codes "G") 4) None (Flood 9 (Dims (ThenDim (Span (Number 12 (pos 1)) (Number 15 (pos 3)))
    (ThenDim (One (Number 18 (pos 2))) NoDim))) (Paren 21 (Pair 22 op.Add (Named 22 (name (codes
    "M") 22)) (Coord 26 2)))))) NoStmt)) ≡ []
flood_under_a_source_that_isn_t_flood = refl

-- [F] [2, ] G := 1;
flood_a_blank_of_a_flood : faults_of (statements [] (ThenStmt (Prefixed 10 ((record {
  at = 0;
  region
      = (Rexpr [] (NamedRegion (name (codes "F") 1)) NoPost);
  mask = None;
}) ∷ (record {
  at = 4;
  region = (Dims (ThenDim (One (Number 5 (pos 2))) (ThenDim (Blank 8) NoDim)));
  mask = None;
}) ∷
    []) (Assign (name (codes "G") 10) None (Number 15 (pos 1)))) NoStmt)) ≡ []
flood_a_blank_of_a_flood = refl

-- [F] [2, ] M := 1;
flood_a_blank_of_a_flood_written : faults_of (statements [] (ThenStmt (Prefixed 10 ((record {
  at =
      0;
  region = (Rexpr [] (NamedRegion (name (codes "F") 1)) NoPost);
  mask = None;
}) ∷ (record {
  at
      = 4;
  region = (Dims (ThenDim (One (Number 5 (pos 2))) (ThenDim (Blank 8) NoDim)));
  mask = None;
}) ∷ []) (Assign (name (codes "M") 10) None (Number 15 (pos 1)))) NoStmt)) ≡ (FloodClash, 10) ∷
    []
flood_a_blank_of_a_flood_written = refl

-- [F] ["] M := 1;
flood_a_ditto_of_a_flood : faults_of (statements [] (ThenStmt (Prefixed 8 ((record {
  at = 0;
  region
      = (Rexpr [] (NamedRegion (name (codes "F") 1)) NoPost);
  mask = None;
}) ∷ (record {
  at = 4;
  region = (Rexpr [] (Ditto 5) NoPost);
  mask = None;
}) ∷ []) (Assign (name (codes "M") 8) None
    (Number 13 (pos 1)))) NoStmt)) ≡ (FloodClash, 8) ∷ []
flood_a_ditto_of_a_flood = refl

-- [F by [2, 1]] M := 1;
flood_by_keeps_a_flood : faults_of (statements [] (ThenStmt (Prefixed 14 ((record {
  at = 0;
  region =
      (Rexpr [] (NamedRegion (name (codes "F") 1)) (ThenPost true (Vector (ThenExpr (Number 7 (pos 2))
      (ThenExpr (Number 10 (pos 1)) NoExpr))) NoPost));
  mask = None;
}) ∷ []) (Assign (name (codes "M")
    14) None (Number 19 (pos 1)))) NoStmt)) ≡ (FloodClash, 14) ∷ []
flood_by_keeps_a_flood = refl

-- procedure u(); begin A := x; end; [G1] u();
flood_under_a_caller : faults_of (statements ((Defined (record {
  name = (name (codes "u") 10);
  params = [];
  result = None;
  locals = [];
  body = (Prefixed 15 [] (Block (ThenStmt (Prefixed 21 []
      (Assign (name (codes "A") 21) None (Named 26 (name (codes "x") 26)))) NoStmt)));
})) ∷ [])
    (ThenStmt (Prefixed 39 ((record {
      at = 34;
      region = (Rexpr [] (NamedRegion (name (codes "G1")
          35)) NoPost);
      mask = None;
    }) ∷ []) (Invoke (name (codes "u") 39) NoExpr)) NoStmt)) ≡
    (FloodClash, 21) ∷ []
flood_under_a_caller = refl

-- [G1] [1] A := 1;
flood_a_flood_index : faults_of (statements [] (ThenStmt (Prefixed 9 ((record {
  at = 0;
  region =
      (Rexpr [] (NamedRegion (name (codes "G1") 1)) NoPost);
  mask = None;
}) ∷ (record {
  at = 5;
  region
      = (Dims (ThenDim (One (Number 6 (pos 1))) NoDim));
  mask = None;
}) ∷ []) (Assign (name (codes
    "A") 9) None (Number 14 (pos 1)))) NoStmt)) ≡ []
flood_a_flood_index = refl
