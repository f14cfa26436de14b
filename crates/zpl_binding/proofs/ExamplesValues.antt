-- Values of configs and constants, and vectors.
use Rattle.std.proofs.Common.{◌≡◌, true, false, [], ◌∷◌, None, pos, codes, refl}
use Rattle.std.specs.Prelude.{neg_ℤ}
use Rattle.std.specs.Int.{int_wrap}
use Rattle.zpl_tree.specs.of_zpl_nums.declared.operators.Op.TheVariants as op
use Rattle.zpl_tree.specs.Syntax.{Number, Truth, Named, Shifted, Neg, Not, Abs, Pair, NoExpr, ThenExpr, NamedDir, Vector, NamedRegion, Rexpr, Dims, Bracketed, NoPost, ThenPost, One, Span, NoDim, ThenDim, Value, Prefixed, NoStmt, ThenStmt, Assign, Block, Write, Integer, Boolean, Config, Constant, Regions, Directions, Vars, Defined}
use Rattle.zpl_binding.specs.Outcome.{BadConstant, DirectionLimit, Gives, Fails}
use Rattle.zpl_binding.specs.Bound.{computed_values, computed_vectors, faults_of}
use Rattle.zpl_binding.proofs.Trees.{name, declared, set}

-- ---- configs and constants

-- config var n : integer = 8; constant c : integer = n * 2 - 1; config var b : boolean = c > 3 &
-- !false;
defaults : computed_values (declared ((Config ((record {
  name = (name (codes "n") 11);
  base =
      Integer;
  value = (Number 25 (pos 8));
}) ∷ [])) ∷ (Constant ((record {
  name = (name (codes "c")
      37);
  base = Integer;
  value = (Pair 51 op.Sub (Pair 51 op.Mul (Named 51 (name (codes "n") 51))
      (Number 55 (pos 2))) (Number 59 (pos 1)));
}) ∷ [])) ∷ (Config ((record {
  name = (name (codes
      "b") 73);
  base = Boolean;
  value = (Pair 87 op.And (Pair 87 op.Gt (Named 87 (name (codes "c")
      87)) (Number 91 (pos 3))) (Not 95 (Truth 96 false)));
}) ∷ [])) ∷ []) (ThenStmt (Prefixed 106 []
    (Write true ((Value (Number 114 (pos 1))) ∷ []))) NoStmt)) [] ≡ ((Gives (pos 8)) ∷ (Gives (pos
    15)) ∷ (Gives (pos 1)) ∷ [])
unfolding int_wrap
defaults = refl

-- config var n : integer = 8; constant c : integer = n * 2 - 1; with n:=-3
a_setting_takes_the_place_of_a_default : computed_values (declared ((Config ((record {
  name = (name
      (codes "n") 11);
  base = Integer;
  value = (Number 25 (pos 8));
}) ∷ [])) ∷ (Constant ((record {
  name = (name (codes "c") 37);
  base = Integer;
  value = (Pair 51 op.Sub (Pair 51 op.Mul (Named 51
      (name (codes "n") 51)) (Number 55 (pos 2))) (Number 59 (pos 1)));
}) ∷ [])) ∷ []) (ThenStmt
    (Prefixed 65 [] (Write true ((Value (Number 73 (pos 1))) ∷ []))) NoStmt)) (set (codes "n")
    (codes "-3") ∷ []) ≡ ((Gives (neg_ℤ (pos 3))) ∷ (Gives (neg_ℤ (pos 7))) ∷ [])
unfolding int_wrap
a_setting_takes_the_place_of_a_default = refl

-- config var n : integer = 8; with n:=5 n:=6
the_first_setting_counts : computed_values (declared ((Config ((record {
  name = (name (codes "n")
      11);
  base = Integer;
  value = (Number 25 (pos 8));
}) ∷ [])) ∷ []) (ThenStmt (Prefixed 31 []
    (Write true ((Value (Number 39 (pos 1))) ∷ []))) NoStmt)) (set (codes "n") (codes "5") ∷ set
    (codes "n") (codes "6") ∷ []) ≡ ((Gives (pos 5)) ∷ [])
unfolding int_wrap
the_first_setting_counts = refl

-- config var n : integer = 1 / 0; constant c : integer = n + 1; with n:=4
a_default_that_is_set_is_not_computed : computed_values (declared ((Config ((record {
  name = (name
      (codes "n") 11);
  base = Integer;
  value = (Pair 25 op.Div (Number 25 (pos 1)) (Number 29 (pos
      0)));
}) ∷ [])) ∷ (Constant ((record {
  name = (name (codes "c") 41);
  base = Integer;
  value =
      (Pair 55 op.Add (Named 55 (name (codes "n") 55)) (Number 59 (pos 1)));
}) ∷ [])) ∷ []) (ThenStmt
    (Prefixed 65 [] (Write true ((Value (Number 73 (pos 1))) ∷ []))) NoStmt)) (set (codes "n")
    (codes "4") ∷ []) ≡ ((Gives (pos 4)) ∷ (Gives (pos 5)) ∷ [])
unfolding int_wrap
a_default_that_is_set_is_not_computed = refl

-- config var n : integer = 1 / 0; constant c : integer = n + 1;
and_without_the_setting_it_is : computed_values (declared ((Config ((record {
  name = (name (codes
      "n") 11);
  base = Integer;
  value = (Pair 25 op.Div (Number 25 (pos 1)) (Number 29 (pos 0)));
}) ∷
    [])) ∷ (Constant ((record {
      name = (name (codes "c") 41);
      base = Integer;
      value = (Pair 55
          op.Add (Named 55 (name (codes "n") 55)) (Number 59 (pos 1)));
    }) ∷ [])) ∷ []) (ThenStmt (Prefixed
    65 [] (Write true ((Value (Number 73 (pos 1))) ∷ []))) NoStmt)) [] ≡ ((Fails BadConstant) ∷
    (Fails BadConstant) ∷ [])
unfolding int_wrap
and_without_the_setting_it_is = refl

-- config var n : integer = 1; constant c : integer = 10 / n; with n:=0
a_setting_makes_a_divisor_0 : faults_of (declared ((Config ((record {
  name = (name (codes "n") 11);
  base = Integer;
  value = (Number 25 (pos 1));
}) ∷ [])) ∷ (Constant ((record {
  name = (name (codes
      "c") 37);
  base = Integer;
  value = (Pair 51 op.Div (Number 51 (pos 10)) (Named 56 (name (codes
      "n") 56)));
}) ∷ [])) ∷ []) (ThenStmt (Prefixed 62 [] (Write true ((Value (Number 70 (pos 1))) ∷
    []))) NoStmt)) (set (codes "n") (codes "0") ∷ []) ≡ (BadConstant ∷ [])
unfolding int_wrap
a_setting_makes_a_divisor_0 = refl

-- constant c : integer = 1 % 0;
a_remainder_by_0 : faults_of (declared ((Constant ((record {
  name = (name (codes "c") 9);
  base =
      Integer;
  value = (Pair 23 op.Rem (Number 23 (pos 1)) (Number 27 (pos 0)));
}) ∷ [])) ∷ [])
    (ThenStmt (Prefixed 33 [] (Write true ((Value (Number 41 (pos 1))) ∷ []))) NoStmt)) [] ≡
    (BadConstant ∷ [])
unfolding int_wrap
a_remainder_by_0 = refl

-- constant c : boolean = false & 1 / 0 = 1;
both_sides_are_computed : faults_of (declared ((Constant ((record {
  name = (name (codes "c") 9);
  base = Boolean;
  value = (Pair 23 op.And (Truth 23 false) (Pair 31 op.Eq (Pair 31 op.Div (Number
      31 (pos 1)) (Number 35 (pos 0))) (Number 39 (pos 1))));
}) ∷ [])) ∷ []) (ThenStmt (Prefixed 45 []
    (Write true ((Value (Number 53 (pos 1))) ∷ []))) NoStmt)) [] ≡ (BadConstant ∷ [])
unfolding int_wrap
both_sides_are_computed = refl

-- constant c : integer = 9223372036854775807 + 1; d : integer = c / -1; e : integer = abs(c);
a_value_wraps : computed_values (declared ((Constant ((record {
  name = (name (codes "c") 9);
  base =
      Integer;
  value = (Pair 23 op.Add (Number 23 (pos 9223372036854775807)) (Number 45 (pos 1)));
}) ∷
    (record {
      name = (name (codes "d") 48);
      base = Integer;
      value = (Pair 62 op.Div (Named 62 (name
          (codes "c") 62)) (Neg 66 (Number 67 (pos 1))));
    }) ∷ (record {
      name = (name (codes "e") 70);
      base
          = Integer;
      value = (Abs 84 (Named 88 (name (codes "c") 88)));
    }) ∷ [])) ∷ []) (ThenStmt (Prefixed
    95 [] (Write true ((Value (Number 103 (pos 1))) ∷ []))) NoStmt)) [] ≡ ((Gives (neg_ℤ (pos
    9223372036854775808))) ∷ (Gives (neg_ℤ (pos 9223372036854775808))) ∷ (Gives (neg_ℤ (pos
    9223372036854775808))) ∷ [])
unfolding int_wrap
a_value_wraps = refl

-- ---- directions and vectors

-- direction e = [1]; se = [1, -1]; region R = [1..4]; var A, B : [R] integer; constant c : integer
-- = 7; S: [R] B := A@[2] + A@[c]; [R at [3]] B := A@e;
directions_first : computed_vectors (declared ((Directions ((record {
  name = (name (codes "e") 10);
  parts = (ThenExpr (Number 15 (pos 1)) NoExpr);
}) ∷ (record {
  name = (name (codes "se") 19);
  parts = (ThenExpr (Number 25 (pos 1)) (ThenExpr (Neg 28 (Number 29 (pos 1))) NoExpr));
}) ∷ []))
    ∷ (Regions ((record {
      name = (name (codes "R") 40);
      body = (Dims (ThenDim (Span (Number 45 (pos
          1)) (Number 48 (pos 4))) NoDim));
      posts = NoPost;
    }) ∷ [])) ∷ (Vars ((record {
      names = ((name
          (codes "A") 56) ∷ (name (codes "B") 59) ∷ []);
      shape = (Bracketed (Rexpr [] (NamedRegion (name
          (codes "R") 64)) NoPost));
      base = Integer;
    }) ∷ [])) ∷ (Constant ((record {
      name = (name (codes
          "c") 85);
      base = Integer;
      value = (Number 99 (pos 7));
    }) ∷ [])) ∷ []) (ThenStmt (Prefixed 109
    ((record {
      at = 105;
      region = (Rexpr [] (NamedRegion (name (codes "R") 106)) NoPost);
      mask =
          None;
    }) ∷ []) (Assign (name (codes "B") 109) None (Pair 114 op.Add (Shifted 114 (name (codes
    "A") 114) (Vector (ThenExpr (Number 117 (pos 2)) NoExpr))) (Shifted 122 (name (codes "A") 122)
    (Vector (ThenExpr (Named 125 (name (codes "c") 125)) NoExpr)))))) (ThenStmt (Prefixed 140
    ((record {
      at = 129;
      region = (Rexpr [] (NamedRegion (name (codes "R") 130)) (ThenPost false
          (Vector (ThenExpr (Number 136 (pos 3)) NoExpr)) NoPost));
      mask = None;
    }) ∷ []) (Assign (name
    (codes "B") 140) None (Shifted 145 (name (codes "A") 145) (NamedDir (name (codes "e") 147)))))
    NoStmt))) [] ≡ ((Gives ((pos 1) ∷ (pos 0) ∷ (pos 0) ∷ [])) ∷ (Gives ((pos 1) ∷ (neg_ℤ (pos 1)) ∷
    (pos 0) ∷ [])) ∷ (Gives ((pos 2) ∷ (pos 0) ∷ (pos 0) ∷ [])) ∷ (Gives ((pos 7) ∷ (pos 0) ∷ (pos
    0) ∷ [])) ∷ (Gives ((pos 3) ∷ (pos 0) ∷ (pos 0) ∷ [])) ∷ [])
unfolding int_wrap
directions_first = refl

-- region R = [1..4] by [2]; var A : [R at [5]] integer; procedure u(a : [R at [6]] integer); begin
-- end;
vectors_in_declarations_are_none_of_them : computed_vectors (declared ((Regions ((record {
  name =
      (name (codes "R") 7);
  body = (Dims (ThenDim (Span (Number 12 (pos 1)) (Number 15 (pos 4)))
      NoDim));
  posts = (ThenPost true (Vector (ThenExpr (Number 22 (pos 2)) NoExpr)) NoPost);
}) ∷ []))
    ∷ (Vars ((record {
      names = ((name (codes "A") 30) ∷ []);
      shape = (Bracketed (Rexpr []
          (NamedRegion (name (codes "R") 35)) (ThenPost false (Vector (ThenExpr (Number 41 (pos 5))
          NoExpr)) NoPost)));
      base = Integer;
    }) ∷ [])) ∷ (Defined (record {
      name = (name (codes "u") 64);
      params = ((record {
        by_ref = false;
        names = ((name (codes "a") 66) ∷ []);
        shape = (Bracketed
            (Rexpr [] (NamedRegion (name (codes "R") 71)) (ThenPost false (Vector (ThenExpr (Number 77 (pos
            6)) NoExpr)) NoPost)));
        base = Integer;
      }) ∷ []);
      result = None;
      locals = [];
      body = (Prefixed 91
          [] (Block NoStmt));
    })) ∷ []) (ThenStmt (Prefixed 105 [] (Write true ((Value (Number 113 (pos
    1))) ∷ []))) NoStmt)) [] ≡ []
unfolding int_wrap
vectors_in_declarations_are_none_of_them = refl

-- var A : [1..4] integer; procedure u(); begin [1..2] A := A@[9]; end;
a_vector_in_a_procedure_that_nothing_calls : computed_vectors (declared ((Vars ((record {
  names =
      ((name (codes "A") 4) ∷ []);
  shape = (Bracketed (Dims (ThenDim (Span (Number 9 (pos 1)) (Number
      12 (pos 4))) NoDim)));
  base = Integer;
}) ∷ [])) ∷ (Defined (record {
  name = (name (codes "u")
      34);
  params = [];
  result = None;
  locals = [];
  body = (Prefixed 39 [] (Block (ThenStmt (Prefixed
      52 ((record {
        at = 45;
        region = (Dims (ThenDim (Span (Number 46 (pos 1)) (Number 49 (pos 2)))
            NoDim));
        mask = None;
      }) ∷ []) (Assign (name (codes "A") 52) None (Shifted 57 (name (codes "A")
      57) (Vector (ThenExpr (Number 60 (pos 9)) NoExpr))))) NoStmt)));
})) ∷ []) (ThenStmt (Prefixed 72
    [] (Write true ((Value (Number 80 (pos 1))) ∷ []))) NoStmt)) [] ≡ ((Gives ((pos 9) ∷ (pos 0) ∷
    (pos 0) ∷ [])) ∷ [])
unfolding int_wrap
a_vector_in_a_procedure_that_nothing_calls = refl

-- direction d = [32767, -32767];
the_greatest_components : computed_vectors (declared ((Directions ((record {
  name = (name (codes
      "d") 10);
  parts = (ThenExpr (Number 15 (pos 32767)) (ThenExpr (Neg 22 (Number 23 (pos 32767)))
      NoExpr));
}) ∷ [])) ∷ []) (ThenStmt (Prefixed 34 [] (Write true ((Value (Number 42 (pos 1))) ∷
    []))) NoStmt)) [] ≡ ((Gives ((pos 32767) ∷ (neg_ℤ (pos 32767)) ∷ (pos 0) ∷ [])) ∷ [])
unfolding int_wrap
the_greatest_components = refl

-- direction d = [32768];
one_more : faults_of (declared ((Directions ((record {
  name = (name (codes "d") 10);
  parts =
      (ThenExpr (Number 15 (pos 32768)) NoExpr);
}) ∷ [])) ∷ []) (ThenStmt (Prefixed 26 [] (Write true
    ((Value (Number 34 (pos 1))) ∷ []))) NoStmt)) [] ≡ (DirectionLimit ∷ [])
unfolding int_wrap
one_more = refl

-- direction d = [1, -32768];
one_less : faults_of (declared ((Directions ((record {
  name = (name (codes "d") 10);
  parts =
      (ThenExpr (Number 15 (pos 1)) (ThenExpr (Neg 18 (Number 19 (pos 32768))) NoExpr));
}) ∷ [])) ∷
    []) (ThenStmt (Prefixed 30 [] (Write true ((Value (Number 38 (pos 1))) ∷ []))) NoStmt)) [] ≡
    (DirectionLimit ∷ [])
unfolding int_wrap
one_less = refl

-- var A : [1..4] integer; S: [1..2] A := A@[40000];
in_a_statement : faults_of (declared ((Vars ((record {
  names = ((name (codes "A") 4) ∷ []);
  shape =
      (Bracketed (Dims (ThenDim (Span (Number 9 (pos 1)) (Number 12 (pos 4))) NoDim)));
  base = Integer;
}) ∷ [])) ∷ []) (ThenStmt (Prefixed 34 ((record {
  at = 27;
  region = (Dims (ThenDim (Span (Number
      28 (pos 1)) (Number 31 (pos 2))) NoDim));
  mask = None;
}) ∷ []) (Assign (name (codes "A") 34)
    None (Shifted 39 (name (codes "A") 39) (Vector (ThenExpr (Number 42 (pos 40000)) NoExpr)))))
    NoStmt)) [] ≡ (DirectionLimit ∷ [])
unfolding int_wrap
in_a_statement = refl

-- direction d = [1 / 0];
a_divisor_in_a_direction : faults_of (declared ((Directions ((record {
  name = (name (codes "d") 10);
  parts = (ThenExpr (Pair 15 op.Div (Number 15 (pos 1)) (Number 19 (pos 0))) NoExpr);
}) ∷ [])) ∷
    []) (ThenStmt (Prefixed 26 [] (Write true ((Value (Number 34 (pos 1))) ∷ []))) NoStmt)) [] ≡
    (BadConstant ∷ [])
unfolding int_wrap
a_divisor_in_a_direction = refl

-- var A : [1..4] integer; S: [1..2] A := A@[1 / 0];
a_divisor_in_a_vector : faults_of (declared ((Vars ((record {
  names = ((name (codes "A") 4) ∷ []);
  shape = (Bracketed (Dims (ThenDim (Span (Number 9 (pos 1)) (Number 12 (pos 4))) NoDim)));
  base =
      Integer;
}) ∷ [])) ∷ []) (ThenStmt (Prefixed 34 ((record {
  at = 27;
  region = (Dims (ThenDim (Span
      (Number 28 (pos 1)) (Number 31 (pos 2))) NoDim));
  mask = None;
}) ∷ []) (Assign (name (codes "A")
    34) None (Shifted 39 (name (codes "A") 39) (Vector (ThenExpr (Pair 42 op.Div (Number 42 (pos 1))
    (Number 46 (pos 0))) NoExpr))))) NoStmt)) [] ≡ (BadConstant ∷ [])
unfolding int_wrap
a_divisor_in_a_vector = refl

-- region R = [1..4]; S = R by [40000];
in_a_declared_region : faults_of (declared ((Regions ((record {
  name = (name (codes "R") 7);
  body =
      (Dims (ThenDim (Span (Number 12 (pos 1)) (Number 15 (pos 4))) NoDim));
  posts = NoPost;
}) ∷
    (record {
      name = (name (codes "S") 19);
      body = (Rexpr [] (NamedRegion (name (codes "R") 23))
          (ThenPost true (Vector (ThenExpr (Number 29 (pos 40000)) NoExpr)) NoPost));
      posts = NoPost;
    }) ∷
    [])) ∷ []) (ThenStmt (Prefixed 40 [] (Write true ((Value (Number 48 (pos 1))) ∷ []))) NoStmt))
    [] ≡ (DirectionLimit ∷ [])
unfolding int_wrap
in_a_declared_region = refl

-- region R = [1..4]; var A : [R at [40000]] integer;
in_a_shape : faults_of (declared ((Regions ((record {
  name = (name (codes "R") 7);
  body = (Dims
      (ThenDim (Span (Number 12 (pos 1)) (Number 15 (pos 4))) NoDim));
  posts = NoPost;
}) ∷ [])) ∷
    (Vars ((record {
      names = ((name (codes "A") 23) ∷ []);
      shape = (Bracketed (Rexpr [] (NamedRegion
          (name (codes "R") 28)) (ThenPost false (Vector (ThenExpr (Number 34 (pos 40000)) NoExpr))
          NoPost)));
      base = Integer;
    }) ∷ [])) ∷ []) (ThenStmt (Prefixed 54 [] (Write true ((Value (Number
    62 (pos 1))) ∷ []))) NoStmt)) [] ≡ (DirectionLimit ∷ [])
unfolding int_wrap
in_a_shape = refl

-- region R = [1..4]; procedure u(a : [R at [40000]] integer; b : [1 / 0] integer; c : [1..5000000]
-- integer); begin end;
a_shape_of_a_parameter_gives_no_fault : faults_of (declared ((Regions ((record {
  name = (name (codes
      "R") 7);
  body = (Dims (ThenDim (Span (Number 12 (pos 1)) (Number 15 (pos 4))) NoDim));
  posts =
      NoPost;
}) ∷ [])) ∷ (Defined (record {
  name = (name (codes "u") 29);
  params = ((record {
    by_ref =
        false;
    names = ((name (codes "a") 31) ∷ []);
    shape = (Bracketed (Rexpr [] (NamedRegion (name
        (codes "R") 36)) (ThenPost false (Vector (ThenExpr (Number 42 (pos 40000)) NoExpr)) NoPost)));
    base = Integer;
  }) ∷ (record {
    by_ref = false;
    names = ((name (codes "b") 59) ∷ []);
    shape =
        (Bracketed (Dims (ThenDim (One (Pair 64 op.Div (Number 64 (pos 1)) (Number 68 (pos 0))))
        NoDim)));
    base = Integer;
  }) ∷ (record {
    by_ref = false;
    names = ((name (codes "c") 80) ∷ []);
    shape = (Bracketed (Dims (ThenDim (Span (Number 85 (pos 1)) (Number 88 (pos 5000000))) NoDim)));
    base = Integer;
  }) ∷ []);
  result = None;
  locals = [];
  body = (Prefixed 107 [] (Block NoStmt));
}))
    ∷ []) (ThenStmt (Prefixed 121 [] (Write true ((Value (Number 129 (pos 1))) ∷ []))) NoStmt)) [] ≡
    []
unfolding int_wrap
a_shape_of_a_parameter_gives_no_fault = refl
