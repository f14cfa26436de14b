-- Types: where a boolean is wanted.
use Rattle.std.proofs.Common.{◌≡◌, true, false, [], ◌∷◌, Some, None, pos, codes, refl}
use Rattle.zpl_tree.specs.of_zpl_nums.declared.operators.Op.TheVariants as op
use Rattle.zpl_tree.specs.of_zpl_nums.declared.folds.Fold.TheVariants as fold
use Rattle.zpl_tree.specs.Syntax.{Number, Truth, Named, Shifted, Around, Remap, Call, Neg, Pair, Reduce, Scan, Flood, NoExpr, ThenExpr, NamedDir, Vector, NamedRegion, Rexpr, Dims, NoBracket, Bracketed, NoPost, One, Span, NoDim, ThenDim, Prefixed, NoStmt, ThenStmt, Assign, Invoke, Block, For, Return, Integer, Boolean, Defined}
use Rattle.zpl_names.specs.Accepted.{TypeClash, RankClash, NoRegion}
use Rattle.zpl_names.proofs.Trees.{name, faults_of, statements}

-- ---- TypeClash

-- x &= p;
clash_an_assigned_operand : faults_of (statements [] (ThenStmt (Prefixed 0 [] (Assign (name (codes
    "x") 0) (Some op.And) (Named 5 (name (codes "p") 5)))) NoStmt)) ≡ (TypeClash, 0) ∷ []
clash_an_assigned_operand = refl

-- p += 1;
clash_a_boolean_counts : faults_of (statements [] (ThenStmt (Prefixed 0 [] (Assign (name (codes "p")
    0) (Some op.Add) (Number 5 (pos 1)))) NoStmt)) ≡ (TypeClash, 5) ∷ []
clash_a_boolean_counts = refl

-- p |= q;
clash_a_boolean_op : faults_of (statements [] (ThenStmt (Prefixed 0 [] (Assign (name (codes "p") 0)
    (Some op.Or) (Named 5 (name (codes "q") 5)))) NoStmt)) ≡ []
clash_a_boolean_op = refl

-- for p := 1 to 2 do x := 1; end;
clash_a_boolean_for : faults_of (statements [] (ThenStmt (Prefixed 0 [] (For (record {
  name = (name
      (codes "p") 4);
  first = (Number 9 (pos 1));
  down = false;
  last = (Number 14 (pos 2));
  step =
      None;
}) (ThenStmt (Prefixed 19 [] (Assign (name (codes "x") 19) None (Number 24 (pos 1))))
    NoStmt))) NoStmt)) ≡ (TypeClash, 4) ∷ []
clash_a_boolean_for = refl

-- [R] [1..+<<A] B := 1;
clash_a_bound_has_a_reduction : faults_of (statements [] (ThenStmt (Prefixed 14 ((record {
  at = 0;
  region = (Rexpr [] (NamedRegion (name (codes "R") 1)) NoPost);
  mask = None;
}) ∷ (record {
  at =
      4;
  region = (Dims (ThenDim (Span (Number 5 (pos 1)) (Reduce 8 fold.Sum NoBracket (Named 11 (name
      (codes "A") 11)))) NoDim));
  mask = None;
}) ∷ []) (Assign (name (codes "B") 14) None (Number 19
    (pos 1)))) NoStmt)) ≡ (TypeClash, 8) ∷ []
clash_a_bound_has_a_reduction = refl

-- [R] [1..A#[1]] B := 1;
clash_a_bound_has_a_remap_read : faults_of (statements [] (ThenStmt (Prefixed 15 ((record {
  at = 0;
  region = (Rexpr [] (NamedRegion (name (codes "R") 1)) NoPost);
  mask = None;
}) ∷ (record {
  at =
      4;
  region = (Dims (ThenDim (Span (Number 5 (pos 1)) (Remap 8 (name (codes "A") 8) (ThenExpr
      (Number 11 (pos 1)) NoExpr))) NoDim));
  mask = None;
}) ∷ []) (Assign (name (codes "B") 15) None
    (Number 20 (pos 1)))) NoStmt)) ≡ (TypeClash, 8) ∷ (RankClash, 8) ∷ []
clash_a_bound_has_a_remap_read = refl

-- [R] B := A@[+||1];
clash_a_component_has_a_scan : faults_of (statements [] (ThenStmt (Prefixed 4 ((record {
  at = 0;
  region = (Rexpr [] (NamedRegion (name (codes "R") 1)) NoPost);
  mask = None;
}) ∷ []) (Assign
    (name (codes "B") 4) None (Shifted 9 (name (codes "A") 9) (Vector (ThenExpr (Scan 12 fold.Sum
    None (Number 15 (pos 1))) NoExpr))))) NoStmt)) ≡ (RankClash, 12) ∷ (NoRegion, 12) ∷ (
      NoRegion,
      12,
    ) ∷ []
clash_a_component_has_a_scan = refl

-- [R] for i := 1 to +<<A do x := i; end;
clash_a_for_limit_may_have_a_reduction : faults_of (statements [] (ThenStmt (Prefixed 4 ((record {
  at = 0;
  region = (Rexpr [] (NamedRegion (name (codes "R") 1)) NoPost);
  mask = None;
}) ∷ []) (For
    (record {
      name = (name (codes "i") 8);
      first = (Number 13 (pos 1));
      down = false;
      last = (Reduce
          18 fold.Sum NoBracket (Named 21 (name (codes "A") 21)));
      step = None;
    }) (ThenStmt (Prefixed 26
    [] (Assign (name (codes "x") 26) None (Named 31 (name (codes "i") 31)))) NoStmt))) NoStmt)) ≡ []
clash_a_for_limit_may_have_a_reduction = refl

-- [R] P := >>[2] P;
clash_a_boolean_flood : faults_of (statements [] (ThenStmt (Prefixed 4 ((record {
  at = 0;
  region =
      (Rexpr [] (NamedRegion (name (codes "R") 1)) NoPost);
  mask = None;
}) ∷ []) (Assign (name (codes
    "P") 4) None (Flood 9 (Dims (ThenDim (One (Number 12 (pos 2))) NoDim)) (Named 15 (name (codes
    "P") 15))))) NoStmt)) ≡ []
clash_a_boolean_flood = refl

-- [R] P := >>[2] A;
clash_an_integer_flood : faults_of (statements [] (ThenStmt (Prefixed 4 ((record {
  at = 0;
  region =
      (Rexpr [] (NamedRegion (name (codes "R") 1)) NoPost);
  mask = None;
}) ∷ []) (Assign (name (codes
    "P") 4) None (Flood 9 (Dims (ThenDim (One (Number 12 (pos 2))) NoDim)) (Named 15 (name (codes
    "A") 15))))) NoStmt)) ≡ (TypeClash, 9) ∷ []
clash_an_integer_flood = refl

-- [R] P := A#[1];
clash_an_integer_remap : faults_of (statements [] (ThenStmt (Prefixed 4 ((record {
  at = 0;
  region =
      (Rexpr [] (NamedRegion (name (codes "R") 1)) NoPost);
  mask = None;
}) ∷ []) (Assign (name (codes
    "P") 4) None (Remap 9 (name (codes "A") 9) (ThenExpr (Number 12 (pos 1)) NoExpr)))) NoStmt)) ≡
    (TypeClash, 9) ∷ []
clash_an_integer_remap = refl

-- [R] P := A@^e;
clash_an_integer : faults_of (statements [] (ThenStmt (Prefixed 4 ((record {
  at = 0;
  region = (Rexpr
      [] (NamedRegion (name (codes "R") 1)) NoPost);
  mask = None;
}) ∷ []) (Assign (name (codes "P") 4)
    None (Around 9 (name (codes "A") 9) (NamedDir (name (codes "e") 12))))) NoStmt)) ≡ (
      TypeClash,
      9,
    ) ∷ []
clash_an_integer = refl

-- p := -p;
clash_negation_gives_an_integer : faults_of (statements [] (ThenStmt (Prefixed 0 [] (Assign (name
    (codes "p") 0) None (Neg 5 (Named 6 (name (codes "p") 6))))) NoStmt)) ≡ (TypeClash, 5) ∷ []
clash_negation_gives_an_integer = refl

-- p := p < q;
clash_a_comparison_is_a_boolean : faults_of (statements [] (ThenStmt (Prefixed 0 [] (Assign (name
    (codes "p") 0) None (Pair 5 op.Lt (Named 5 (name (codes "p") 5)) (Named 9 (name (codes "q")
    9))))) NoStmt)) ≡ []
clash_a_comparison_is_a_boolean = refl

-- procedure f() : integer; begin return 1; end; p := f();
clash_an_integer_result : faults_of (statements ((Defined (record {
  name = (name (codes "f") 10);
  params = [];
  result = (Some Integer);
  locals = [];
  body = (Prefixed 25 [] (Block (ThenStmt
      (Prefixed 31 [] (Return (Number 38 (pos 1)))) NoStmt)));
})) ∷ []) (ThenStmt (Prefixed 46 []
    (Assign (name (codes "p") 46) None (Call 51 (name (codes "f") 51) NoExpr))) NoStmt)) ≡
    (TypeClash, 51) ∷ []
clash_an_integer_result = refl

-- procedure f() : boolean; begin return true; end; x := f();
clash_a_boolean_result_is_an_integer : faults_of (statements ((Defined (record {
  name = (name (codes
      "f") 10);
  params = [];
  result = (Some Boolean);
  locals = [];
  body = (Prefixed 25 [] (Block
      (ThenStmt (Prefixed 31 [] (Return (Truth 38 true))) NoStmt)));
})) ∷ []) (ThenStmt (Prefixed 49
    [] (Assign (name (codes "x") 49) None (Call 54 (name (codes "f") 54) NoExpr))) NoStmt)) ≡ []
clash_a_boolean_result_is_an_integer = refl

-- procedure u(a : integer; b : boolean); begin end; u(true, true);
clash_a_boolean_actual : faults_of (statements ((Defined (record {
  name = (name (codes "u") 10);
  params = ((record {
    by_ref = false;
    names = ((name (codes "a") 12) ∷ []);
    shape = NoBracket;
    base = Integer;
  }) ∷ (record {
    by_ref = false;
    names = ((name (codes "b") 25) ∷ []);
    shape =
        NoBracket;
    base = Boolean;
  }) ∷ []);
  result = None;
  locals = [];
  body = (Prefixed 39 [] (Block
      NoStmt));
})) ∷ []) (ThenStmt (Prefixed 50 [] (Invoke (name (codes "u") 50) (ThenExpr (Truth 52
    true) (ThenExpr (Truth 58 true) NoExpr)))) NoStmt)) ≡ []
clash_a_boolean_actual = refl

-- [R] P := &<<[R] A;
clash_all_of_integers : faults_of (statements [] (ThenStmt (Prefixed 4 ((record {
  at = 0;
  region =
      (Rexpr [] (NamedRegion (name (codes "R") 1)) NoPost);
  mask = None;
}) ∷ []) (Assign (name (codes
    "P") 4) None (Reduce 9 fold.All (Bracketed (Rexpr [] (NamedRegion (name (codes "R") 13))
    NoPost)) (Named 16 (name (codes "A") 16))))) NoStmt)) ≡ (TypeClash, 16) ∷ []
clash_all_of_integers = refl
