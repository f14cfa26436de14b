-- Regions: where there is no current one.
use Rattle.std.proofs.Common.{◌≡◌, true, false, [], ◌∷◌, None, pos, codes, refl}
use Rattle.zpl_tree.specs.of_zpl_nums.declared.operators.Op.TheVariants as op
use Rattle.zpl_tree.specs.of_zpl_nums.declared.folds.Fold.TheVariants as fold
use Rattle.zpl_tree.specs.Syntax.{Number, Named, Shifted, Paren, Pair, Reduce, Scan, Flood, NoExpr, ThenExpr, Vector, NamedRegion, Ditto, Rexpr, Dims, NoBracket, Bracketed, NoPost, Blank, Star, One, Span, NoDim, ThenDim, Str, Value, Prefixed, NoStmt, ThenStmt, Assign, Invoke, Block, If, Write, Tested, NoArm, ThenArm, NoElse, Integer, Constant, Regions, Directions, Defined}
use Rattle.zpl_names.specs.Accepted.{NoRegion, RankUnknown}
use Rattle.zpl_names.proofs.Trees.{name, faults_of, statements, declared}

-- ---- NoRegion

-- [R] M := 1;
region_a_region_of_another_rank : faults_of (statements [] (ThenStmt (Prefixed 4 ((record {
  at = 0;
  region = (Rexpr [] (NamedRegion (name (codes "R") 1)) NoPost);
  mask = None;
}) ∷ []) (Assign
    (name (codes "M") 4) None (Number 9 (pos 1)))) NoStmt)) ≡ (NoRegion, 4) ∷ []
region_a_region_of_another_rank = refl

-- writeln(+||A);
region_a_scan_without : faults_of (statements [] (ThenStmt (Prefixed 0 [] (Write true ((Value (Scan
    8 fold.Sum None (Named 11 (name (codes "A") 11)))) ∷ []))) NoStmt)) ≡ (NoRegion, 0) ∷ (
      NoRegion,
      8,
    ) ∷ []
region_a_scan_without = refl

-- M := +<<[Q] N;
region_a_partial_reduction_without : faults_of (statements [] (ThenStmt (Prefixed 0 [] (Assign (name
    (codes "M") 0) None (Reduce 5 fold.Sum (Bracketed (Rexpr [] (NamedRegion (name (codes "Q") 9))
    NoPost)) (Named 12 (name (codes "N") 12))))) NoStmt)) ≡ (NoRegion, 0) ∷ (NoRegion, 5) ∷ []
region_a_partial_reduction_without = refl

-- A := >>[1] B;
region_a_flood_without : faults_of (statements [] (ThenStmt (Prefixed 0 [] (Assign (name (codes "A")
    0) None (Flood 5 (Dims (ThenDim (One (Number 8 (pos 1))) NoDim)) (Named 11 (name (codes "B")
    11))))) NoStmt)) ≡ (NoRegion, 0) ∷ (NoRegion, 5) ∷ []
region_a_flood_without = refl

-- [R] B := +<<[1..4] (A + +<<A);
region_inside_a_partial_reduction_its_region_is_there : faults_of (statements [] (ThenStmt (Prefixed
    4 ((record {
      at = 0;
      region = (Rexpr [] (NamedRegion (name (codes "R") 1)) NoPost);
      mask = None;
    }) ∷ []) (Assign (name (codes "B") 4) None (Reduce 9 fold.Sum (Bracketed (Dims (ThenDim (Span
    (Number 13 (pos 1)) (Number 16 (pos 4))) NoDim))) (Paren 19 (Pair 20 op.Add (Named 20 (name
    (codes "A") 20)) (Reduce 24 fold.Sum NoBracket (Named 27 (name (codes "A") 27)))))))) NoStmt)) ≡
    []
region_inside_a_partial_reduction_its_region_is_there = refl

-- [R] B := >>[2] (A + +<<M);
region_no_region_of_another_rank_inside : faults_of (statements [] (ThenStmt (Prefixed 4 ((record {
  at = 0;
  region = (Rexpr [] (NamedRegion (name (codes "R") 1)) NoPost);
  mask = None;
}) ∷ [])
    (Assign (name (codes "B") 4) None (Flood 9 (Dims (ThenDim (One (Number 12 (pos 2))) NoDim))
    (Paren 15 (Pair 16 op.Add (Named 16 (name (codes "A") 16)) (Reduce 20 fold.Sum NoBracket (Named
    23 (name (codes "M") 23)))))))) NoStmt)) ≡ (NoRegion, 20) ∷ []
region_no_region_of_another_rank_inside = refl

-- [R] [ , 1] M := 1;
region_a_blank_without : faults_of (statements [] (ThenStmt (Prefixed 11 ((record {
  at = 0;
  region =
      (Rexpr [] (NamedRegion (name (codes "R") 1)) NoPost);
  mask = None;
}) ∷ (record {
  at = 4;
  region
      = (Dims (ThenDim (Blank 6) (ThenDim (One (Number 8 (pos 1))) NoDim)));
  mask = None;
}) ∷ [])
    (Assign (name (codes "M") 11) None (Number 16 (pos 1)))) NoStmt)) ≡ (NoRegion, 6) ∷ []
region_a_blank_without = refl

-- [Q] [ , 1] M := 1;
region_a_blank_with : faults_of (statements [] (ThenStmt (Prefixed 11 ((record {
  at = 0;
  region =
      (Rexpr [] (NamedRegion (name (codes "Q") 1)) NoPost);
  mask = None;
}) ∷ (record {
  at = 4;
  region
      = (Dims (ThenDim (Blank 6) (ThenDim (One (Number 8 (pos 1))) NoDim)));
  mask = None;
}) ∷ [])
    (Assign (name (codes "M") 11) None (Number 16 (pos 1)))) NoStmt)) ≡ []
region_a_blank_with = refl

-- [Q] M := >>[ , 2] N;
region_a_blank_in_a_bracket : faults_of (statements [] (ThenStmt (Prefixed 4 ((record {
  at = 0;
  region = (Rexpr [] (NamedRegion (name (codes "Q") 1)) NoPost);
  mask = None;
}) ∷ []) (Assign
    (name (codes "M") 4) None (Flood 9 (Dims (ThenDim (Blank 13) (ThenDim (One (Number 15 (pos 2)))
    NoDim))) (Named 18 (name (codes "N") 18))))) NoStmt)) ≡ []
region_a_blank_in_a_bracket = refl

-- if A > 1 then A := 1; end;
region_a_shattered_statement_without : faults_of (statements [] (ThenStmt (Prefixed 0 [] (If
    (ThenArm (Tested 0 (Pair 3 op.Gt (Named 3 (name (codes "A") 3)) (Number 7 (pos 1))) (ThenStmt
    (Prefixed 14 [] (Assign (name (codes "A") 14) None (Number 19 (pos 1)))) NoStmt)) NoArm)
    NoElse)) NoStmt)) ≡ (NoRegion, 0) ∷ (NoRegion, 14) ∷ []
region_a_shattered_statement_without = refl

-- [R] if +<<A > 1 then x := 1; end;
region_a_condition_that_is_folded : faults_of (statements [] (ThenStmt (Prefixed 4 ((record {
  at =
      0;
  region = (Rexpr [] (NamedRegion (name (codes "R") 1)) NoPost);
  mask = None;
}) ∷ []) (If
    (ThenArm (Tested 4 (Pair 7 op.Gt (Reduce 7 fold.Sum NoBracket (Named 10 (name (codes "A") 10)))
    (Number 14 (pos 1))) (ThenStmt (Prefixed 21 [] (Assign (name (codes "x") 21) None (Number 26
    (pos 1)))) NoStmt)) NoArm) NoElse)) NoStmt)) ≡ []
region_a_condition_that_is_folded = refl

-- [R] writeln(+<<A);
region_a_print_of_a_fold : faults_of (statements [] (ThenStmt (Prefixed 4 ((record {
  at = 0;
  region
      = (Rexpr [] (NamedRegion (name (codes "R") 1)) NoPost);
  mask = None;
}) ∷ []) (Write true ((Value
    (Reduce 12 fold.Sum NoBracket (Named 15 (name (codes "A") 15)))) ∷ []))) NoStmt)) ≡ []
region_a_print_of_a_fold = refl

-- writeln("a", A);
region_a_print_of_an_array : faults_of (statements [] (ThenStmt (Prefixed 0 [] (Write true ((Str
    (codes "a")) ∷ (Value (Named 13 (name (codes "A") 13))) ∷ []))) NoStmt)) ≡ (NoRegion, 0) ∷ []
region_a_print_of_an_array = refl

-- procedure u(var a : [1..2] integer); begin end; u(A);
region_an_actual_that_is_an_array_is_not_read : faults_of (statements ((Defined (record {
  name =
      (name (codes "u") 10);
  params = ((record {
    by_ref = true;
    names = ((name (codes "a") 16) ∷ []);
    shape = (Bracketed (Dims (ThenDim (Span (Number 21 (pos 1)) (Number 24 (pos 2))) NoDim)));
    base
        = Integer;
  }) ∷ []);
  result = None;
  locals = [];
  body = (Prefixed 37 [] (Block NoStmt));
})) ∷ [])
    (ThenStmt (Prefixed 48 [] (Invoke (name (codes "u") 48) (ThenExpr (Named 50 (name (codes "A")
    50)) NoExpr))) NoStmt)) ≡ []
region_an_actual_that_is_an_array_is_not_read = refl

-- procedure v(); begin A := 1; end; procedure u(); begin v(); end; [R] u();
region_a_caller_gives_the_region : faults_of (statements ((Defined (record {
  name = (name (codes
      "v") 10);
  params = [];
  result = None;
  locals = [];
  body = (Prefixed 15 [] (Block (ThenStmt
      (Prefixed 21 [] (Assign (name (codes "A") 21) None (Number 26 (pos 1)))) NoStmt)));
})) ∷
    (Defined (record {
      name = (name (codes "u") 44);
      params = [];
      result = None;
      locals = [];
      body =
          (Prefixed 49 [] (Block (ThenStmt (Prefixed 55 [] (Invoke (name (codes "v") 55) NoExpr))
          NoStmt)));
    })) ∷ []) (ThenStmt (Prefixed 69 ((record {
      at = 65;
      region = (Rexpr [] (NamedRegion
          (name (codes "R") 66)) NoPost);
      mask = None;
    }) ∷ []) (Invoke (name (codes "u") 69) NoExpr))
    NoStmt)) ≡ []
region_a_caller_gives_the_region = refl

-- procedure v(); begin A := 1; end; procedure u(); begin v(); end; [R] u(); u();
region_one_of_two_callers_gives_none : faults_of (statements ((Defined (record {
  name = (name (codes
      "v") 10);
  params = [];
  result = None;
  locals = [];
  body = (Prefixed 15 [] (Block (ThenStmt
      (Prefixed 21 [] (Assign (name (codes "A") 21) None (Number 26 (pos 1)))) NoStmt)));
})) ∷
    (Defined (record {
      name = (name (codes "u") 44);
      params = [];
      result = None;
      locals = [];
      body =
          (Prefixed 49 [] (Block (ThenStmt (Prefixed 55 [] (Invoke (name (codes "v") 55) NoExpr))
          NoStmt)));
    })) ∷ []) (ThenStmt (Prefixed 69 ((record {
      at = 65;
      region = (Rexpr [] (NamedRegion
          (name (codes "R") 66)) NoPost);
      mask = None;
    }) ∷ []) (Invoke (name (codes "u") 69) NoExpr))
    (ThenStmt (Prefixed 74 [] (Invoke (name (codes "u") 74) NoExpr)) NoStmt))) ≡ (NoRegion, 21) ∷ []
region_one_of_two_callers_gives_none = refl

-- procedure u(); [R] begin A := 1; end; u();
region_a_prefix_in_the_callee : faults_of (statements ((Defined (record {
  name = (name (codes "u")
      10);
  params = [];
  result = None;
  locals = [];
  body = (Prefixed 19 ((record {
    at = 15;
    region =
        (Rexpr [] (NamedRegion (name (codes "R") 16)) NoPost);
    mask = None;
  }) ∷ []) (Block (ThenStmt
      (Prefixed 25 [] (Assign (name (codes "A") 25) None (Number 30 (pos 1)))) NoStmt)));
})) ∷ [])
    (ThenStmt (Prefixed 38 [] (Invoke (name (codes "u") 38) NoExpr)) NoStmt)) ≡ []
region_a_prefix_in_the_callee = refl

-- procedure u(); begin A := 1; [1..2, *] M := 1; end; x := 1;
region_a_callee_without_a_caller : faults_of (statements ((Defined (record {
  name = (name (codes
      "u") 10);
  params = [];
  result = None;
  locals = [];
  body = (Prefixed 15 [] (Block (ThenStmt
      (Prefixed 21 [] (Assign (name (codes "A") 21) None (Number 26 (pos 1)))) (ThenStmt (Prefixed 39
      ((record {
        at = 29;
        region = (Dims (ThenDim (Span (Number 30 (pos 1)) (Number 33 (pos 2)))
            (ThenDim (Star 36) NoDim)));
        mask = None;
      }) ∷ []) (Assign (name (codes "M") 39) None (Number 44
      (pos 1)))) NoStmt))));
})) ∷ []) (ThenStmt (Prefixed 52 [] (Assign (name (codes "x") 52) None
    (Number 57 (pos 1)))) NoStmt)) ≡ []
region_a_callee_without_a_caller = refl

-- procedure u(a : ["] integer); begin end; x := 1;
region_a_formal_with_a_ditto : faults_of (statements ((Defined (record {
  name = (name (codes "u")
      10);
  params = ((record {
    by_ref = false;
    names = ((name (codes "a") 12) ∷ []);
    shape =
        (Bracketed (Rexpr [] (Ditto 17) NoPost));
    base = Integer;
  }) ∷ []);
  result = None;
  locals = [];
  body = (Prefixed 30 [] (Block NoStmt));
})) ∷ []) (ThenStmt (Prefixed 41 [] (Assign (name (codes
    "x") 41) None (Number 46 (pos 1)))) NoStmt)) ≡ (NoRegion, 17) ∷ (RankUnknown, 17) ∷ []
region_a_formal_with_a_ditto = refl

-- procedure u(); var a : [] integer; begin end; x := 1;
region_a_local_with_a_blank : faults_of (statements ((Defined (record {
  name = (name (codes "u")
      10);
  params = [];
  result = None;
  locals = ((record {
    names = ((name (codes "a") 19) ∷ []);
    shape
        = (Bracketed (Dims (ThenDim (Blank 24) NoDim)));
    base = Integer;
  }) ∷ []);
  body = (Prefixed 35 []
      (Block NoStmt));
})) ∷ []) (ThenStmt (Prefixed 46 [] (Assign (name (codes "x") 46) None (Number
    51 (pos 1)))) NoStmt)) ≡ (NoRegion, 24) ∷ []
region_a_local_with_a_blank = refl

-- direction d = [1]; region S = d of "; writeln(1);
region_a_declared_ditto_with_a_direction : faults_of (declared ((Directions ((record {
  name = (name
      (codes "d") 10);
  parts = (ThenExpr (Number 15 (pos 1)) NoExpr);
}) ∷ [])) ∷ (Regions ((record {
  name = (name (codes "S") 26);
  body = (Rexpr ((record {
    dir = (name (codes "d") 30);
    outside =
        true;
  }) ∷ []) (Ditto 35) NoPost);
  posts = NoPost;
}) ∷ [])) ∷ []) (ThenStmt (Prefixed 38 []
    (Write true ((Value (Number 46 (pos 1))) ∷ []))) NoStmt)) ≡ (NoRegion, 35) ∷ []
region_a_declared_ditto_with_a_direction = refl

-- constant c : integer = +<<1; writeln(1);
region_a_reduction_in_a_declaration : faults_of (declared ((Constant ((record {
  name = (name (codes
      "c") 9);
  base = Integer;
  value = (Reduce 23 fold.Sum NoBracket (Number 26 (pos 1)));
}) ∷ [])) ∷
    []) (ThenStmt (Prefixed 29 [] (Write true ((Value (Number 37 (pos 1))) ∷ []))) NoStmt)) ≡
    (RankUnknown, 26) ∷ []
region_a_reduction_in_a_declaration = refl

-- [R] B := A@[+<<1];
region_a_reduction_in_a_vector : faults_of (statements [] (ThenStmt (Prefixed 4 ((record {
  at = 0;
  region = (Rexpr [] (NamedRegion (name (codes "R") 1)) NoPost);
  mask = None;
}) ∷ []) (Assign
    (name (codes "B") 4) None (Shifted 9 (name (codes "A") 9) (Vector (ThenExpr (Reduce 12 fold.Sum
    NoBracket (Number 15 (pos 1))) NoExpr))))) NoStmt)) ≡ (NoRegion, 12) ∷ (NoRegion, 12) ∷ []
region_a_reduction_in_a_vector = refl
