-- Names: what is declared where, and what a place takes.
use Rattle.std.proofs.Common.{◌≡◌, true, false, [], ◌∷◌, Some, None, pos, codes, refl}
use Rattle.zpl_tree.specs.of_zpl_nums.declared.operators.Op.TheVariants as op
use Rattle.zpl_tree.specs.of_zpl_nums.declared.ends.Border.TheVariants as ends
use Rattle.zpl_tree.specs.Syntax.{Number, Truth, Named, Shifted, Around, Remap, Pair, NoExpr, ThenExpr, NamedDir, Vector, NamedRegion, Rexpr, Dims, NoBracket, Bracketed, NoPost, One, Span, NoDim, ThenDim, Value, Prefixed, NoStmt, ThenStmt, Assign, Invoke, Block, For, Border, Write, Return, Integer, Boolean, Other, Config, Constant, Regions, Directions, Vars, Defined}
use Rattle.zpl_names.specs.Accepted.{UnknownName, TwiceNamed, UnknownType, MaskPlace}
use Rattle.zpl_names.proofs.Trees.{name, faults_of, statements, declared}

-- ---- UnknownName

-- x := x@e;
names_an_array_is_needed_before : faults_of (statements [] (ThenStmt (Prefixed 0 [] (Assign (name
    (codes "x") 0) None (Shifted 5 (name (codes "x") 5) (NamedDir (name (codes "e") 7))))) NoStmt))
    ≡ (UnknownName, 5) ∷ []
names_an_array_is_needed_before = refl

-- [R] B := x@^e;
names_and_before : faults_of (statements [] (ThenStmt (Prefixed 4 ((record {
  at = 0;
  region = (Rexpr
      [] (NamedRegion (name (codes "R") 1)) NoPost);
  mask = None;
}) ∷ []) (Assign (name (codes "B") 4)
    None (Around 9 (name (codes "x") 9) (NamedDir (name (codes "e") 12))))) NoStmt)) ≡ (
      UnknownName,
      9,
    ) ∷ []
names_and_before = refl

-- [R] B := x#[1];
names_and_before_more : faults_of (statements [] (ThenStmt (Prefixed 4 ((record {
  at = 0;
  region =
      (Rexpr [] (NamedRegion (name (codes "R") 1)) NoPost);
  mask = None;
}) ∷ []) (Assign (name (codes
    "B") 4) None (Remap 9 (name (codes "x") 9) (ThenExpr (Number 12 (pos 1)) NoExpr)))) NoStmt)) ≡
    (UnknownName, 9) ∷ []
names_and_before_more = refl

-- [R] B := A@^f;
names_a_direction_behind : faults_of (statements [] (ThenStmt (Prefixed 4 ((record {
  at = 0;
  region
      = (Rexpr [] (NamedRegion (name (codes "R") 1)) NoPost);
  mask = None;
}) ∷ []) (Assign (name
    (codes "B") 4) None (Around 9 (name (codes "A") 9) (NamedDir (name (codes "f") 12))))) NoStmt))
    ≡ (UnknownName, 12) ∷ []
names_a_direction_behind = refl

-- for A := 1 to 2 do x := 1; end;
names_a_for_variable_is_no_array : faults_of (statements [] (ThenStmt (Prefixed 0 [] (For (record {
  name = (name (codes "A") 4);
  first = (Number 9 (pos 1));
  down = false;
  last = (Number 14 (pos
      2));
  step = None;
}) (ThenStmt (Prefixed 19 [] (Assign (name (codes "x") 19) None (Number 24 (pos
    1)))) NoStmt))) NoStmt)) ≡ (UnknownName, 4) ∷ []
names_a_for_variable_is_no_array = refl

-- procedure u(a : integer); begin end; u(R);
names_a_region_is_no_argument : faults_of (statements ((Defined (record {
  name = (name (codes "u")
      10);
  params = ((record {
    by_ref = false;
    names = ((name (codes "a") 12) ∷ []);
    shape =
        NoBracket;
    base = Integer;
  }) ∷ []);
  result = None;
  locals = [];
  body = (Prefixed 26 [] (Block
      NoStmt));
})) ∷ []) (ThenStmt (Prefixed 37 [] (Invoke (name (codes "u") 37) (ThenExpr (Named 39
    (name (codes "R") 39)) NoExpr))) NoStmt)) ≡ (UnknownName, 39) ∷ []
names_a_region_is_no_argument = refl

-- [e of R] wrap x;
names_wrap_takes_arrays_alone : faults_of (statements [] (ThenStmt (Prefixed 9 ((record {
  at = 0;
  region = (Rexpr ((record { dir = (name (codes "e") 1); outside = true }) ∷ []) (NamedRegion
      (name (codes "R") 6)) NoPost);
  mask = None;
}) ∷ []) (Border ends.Wrap ((name (codes "x") 14) ∷
    []))) NoStmt)) ≡ (UnknownName, 14) ∷ []
names_wrap_takes_arrays_alone = refl

-- [R with x] B := 1;
names_a_mask_is_an_array : faults_of (statements [] (ThenStmt (Prefixed 11 ((record {
  at = 0;
  region
      = (Rexpr [] (NamedRegion (name (codes "R") 1)) NoPost);
  mask = (Some (record {
    name = (name
        (codes "x") 8);
    without = false;
  }));
}) ∷ []) (Assign (name (codes "B") 11) None (Number 16 (pos
    1)))) NoStmt)) ≡ (UnknownName, 8) ∷ (MaskPlace, 8) ∷ []
names_a_mask_is_an_array = refl

-- [R with n] B := 1;
names_a_mask_that_is_a_config : faults_of (statements [] (ThenStmt (Prefixed 11 ((record {
  at = 0;
  region = (Rexpr [] (NamedRegion (name (codes "R") 1)) NoPost);
  mask = (Some (record {
    name =
        (name (codes "n") 8);
    without = false;
  }));
}) ∷ []) (Assign (name (codes "B") 11) None (Number 16
    (pos 1)))) NoStmt)) ≡ (UnknownName, 8) ∷ (MaskPlace, 8) ∷ []
names_a_mask_that_is_a_config = refl

-- [x] A := 1;
names_a_single_name_that_is_no_region_is_an_index : faults_of (statements [] (ThenStmt (Prefixed 4
    ((record { at = 0; region = (Rexpr [] (NamedRegion (name (codes "x") 1)) NoPost); mask = None })
    ∷ []) (Assign (name (codes "A") 4) None (Number 9 (pos 1)))) NoStmt)) ≡ []
names_a_single_name_that_is_no_region_is_an_index = refl

-- [z] A := 1;
names_a_single_name_that_is_no_region_is_an_index_declared_or_not : faults_of (statements []
    (ThenStmt (Prefixed 4 ((record {
      at = 0;
      region = (Rexpr [] (NamedRegion (name (codes "z") 1))
          NoPost);
      mask = None;
    }) ∷ []) (Assign (name (codes "A") 4) None (Number 9 (pos 1)))) NoStmt)) ≡
    (UnknownName, 1) ∷ []
names_a_single_name_that_is_no_region_is_an_index_declared_or_not = refl

-- [R, 1] M := 1;
names_a_region_name_in_an_index_list : faults_of (statements [] (ThenStmt (Prefixed 7 ((record {
  at
      = 0;
  region = (Dims (ThenDim (One (Named 1 (name (codes "R") 1))) (ThenDim (One (Number 4 (pos
      1))) NoDim)));
  mask = None;
}) ∷ []) (Assign (name (codes "M") 7) None (Number 12 (pos 1))))
    NoStmt)) ≡ (UnknownName, 1) ∷ []
names_a_region_name_in_an_index_list = refl

-- [e] A := 1;
names_a_direction_as_a_region : faults_of (statements [] (ThenStmt (Prefixed 4 ((record {
  at = 0;
  region = (Rexpr [] (NamedRegion (name (codes "e") 1)) NoPost);
  mask = None;
}) ∷ []) (Assign
    (name (codes "A") 4) None (Number 9 (pos 1)))) NoStmt)) ≡ (UnknownName, 1) ∷ []
names_a_direction_as_a_region = refl

-- [e of x] A := 1;
names_a_region_behind_of : faults_of (statements [] (ThenStmt (Prefixed 9 ((record {
  at = 0;
  region
      = (Rexpr ((record { dir = (name (codes "e") 1); outside = true }) ∷ []) (NamedRegion (name
      (codes "x") 6)) NoPost);
  mask = None;
}) ∷ []) (Assign (name (codes "A") 9) None (Number 14 (pos
    1)))) NoStmt)) ≡ (UnknownName, 6) ∷ []
names_a_region_behind_of = refl

-- [R] B := A@[x];
names_variables_in_a_vector : faults_of (statements [] (ThenStmt (Prefixed 4 ((record {
  at = 0;
  region = (Rexpr [] (NamedRegion (name (codes "R") 1)) NoPost);
  mask = None;
}) ∷ []) (Assign
    (name (codes "B") 4) None (Shifted 9 (name (codes "A") 9) (Vector (ThenExpr (Named 12 (name
    (codes "x") 12)) NoExpr))))) NoStmt)) ≡ (UnknownName, 12) ∷ []
names_variables_in_a_vector = refl

-- [R] B := A@[A];
names_an_array_in_a_vector : faults_of (statements [] (ThenStmt (Prefixed 4 ((record {
  at = 0;
  region = (Rexpr [] (NamedRegion (name (codes "R") 1)) NoPost);
  mask = None;
}) ∷ []) (Assign
    (name (codes "B") 4) None (Shifted 9 (name (codes "A") 9) (Vector (ThenExpr (Named 12 (name
    (codes "A") 12)) NoExpr))))) NoStmt)) ≡ (UnknownName, 12) ∷ []
names_an_array_in_a_vector = refl

-- [R] B := A@[c - n];
names_a_constant_in_a_vector : faults_of (statements [] (ThenStmt (Prefixed 4 ((record {
  at = 0;
  region = (Rexpr [] (NamedRegion (name (codes "R") 1)) NoPost);
  mask = None;
}) ∷ []) (Assign
    (name (codes "B") 4) None (Shifted 9 (name (codes "A") 9) (Vector (ThenExpr (Pair 12 op.Sub
    (Named 12 (name (codes "c") 12)) (Named 16 (name (codes "n") 16))) NoExpr))))) NoStmt)) ≡ []
names_a_constant_in_a_vector = refl

-- procedure u(c : integer); begin [R] A := B@[c]; end; u(1);
names_a_hidden_constant_in_a_vector : faults_of (statements ((Defined (record {
  name = (name (codes
      "u") 10);
  params = ((record {
    by_ref = false;
    names = ((name (codes "c") 12) ∷ []);
    shape =
        NoBracket;
    base = Integer;
  }) ∷ []);
  result = None;
  locals = [];
  body = (Prefixed 26 [] (Block
      (ThenStmt (Prefixed 36 ((record {
        at = 32;
        region = (Rexpr [] (NamedRegion (name (codes "R")
            33)) NoPost);
        mask = None;
      }) ∷ []) (Assign (name (codes "A") 36) None (Shifted 41 (name (codes
      "B") 41) (Vector (ThenExpr (Named 44 (name (codes "c") 44)) NoExpr))))) NoStmt)));
})) ∷ [])
    (ThenStmt (Prefixed 53 [] (Invoke (name (codes "u") 53) (ThenExpr (Number 55 (pos 1)) NoExpr)))
    NoStmt)) ≡ (UnknownName, 44) ∷ []
names_a_hidden_constant_in_a_vector = refl

-- procedure u(a : integer); begin x := a; end; x := a;
names_a_name_of_another_procedure : faults_of (statements ((Defined (record {
  name = (name (codes
      "u") 10);
  params = ((record {
    by_ref = false;
    names = ((name (codes "a") 12) ∷ []);
    shape =
        NoBracket;
    base = Integer;
  }) ∷ []);
  result = None;
  locals = [];
  body = (Prefixed 26 [] (Block
      (ThenStmt (Prefixed 32 [] (Assign (name (codes "x") 32) None (Named 37 (name (codes "a") 37))))
      NoStmt)));
})) ∷ []) (ThenStmt (Prefixed 45 [] (Assign (name (codes "x") 45) None (Named 50 (name
    (codes "a") 50)))) NoStmt)) ≡ (UnknownName, 50) ∷ []
names_a_name_of_another_procedure = refl

-- procedure v(); begin end; procedure u(v : integer); begin v(); end; u(1);
names_a_hidden_procedure : faults_of (statements ((Defined (record {
  name = (name (codes "v") 10);
  params = [];
  result = None;
  locals = [];
  body = (Prefixed 15 [] (Block NoStmt));
})) ∷ (Defined
    (record {
      name = (name (codes "u") 36);
      params = ((record {
        by_ref = false;
        names = ((name
            (codes "v") 38) ∷ []);
        shape = NoBracket;
        base = Integer;
      }) ∷ []);
      result = None;
      locals = [];
      body = (Prefixed 52 [] (Block (ThenStmt (Prefixed 58 [] (Invoke (name (codes "v") 58) NoExpr))
          NoStmt)));
    })) ∷ []) (ThenStmt (Prefixed 68 [] (Invoke (name (codes "u") 68) (ThenExpr (Number 70
    (pos 1)) NoExpr))) NoStmt)) ≡ (UnknownName, 58) ∷ []
names_a_hidden_procedure = refl

-- procedure u(R : integer); var A : [R] integer; begin end; u(1);
names_a_local_region_name_is_hidden_in_the_head : faults_of (statements ((Defined (record {
  name =
      (name (codes "u") 10);
  params = ((record {
    by_ref = false;
    names = ((name (codes "R") 12) ∷ []);
    shape = NoBracket;
    base = Integer;
  }) ∷ []);
  result = None;
  locals = ((record {
    names = ((name
        (codes "A") 30) ∷ []);
    shape = (Bracketed (Rexpr [] (NamedRegion (name (codes "R") 35))
        NoPost));
    base = Integer;
  }) ∷ []);
  body = (Prefixed 47 [] (Block NoStmt));
})) ∷ []) (ThenStmt
    (Prefixed 58 [] (Invoke (name (codes "u") 58) (ThenExpr (Number 60 (pos 1)) NoExpr))) NoStmt)) ≡
    (UnknownName, 35) ∷ []
names_a_local_region_name_is_hidden_in_the_head = refl

-- constant c : integer = 3; region R = [1..c]; var A : [R] integer; direction d = [c]; writeln(1);
names_a_constant_that_stands_earlier : faults_of (declared ((Constant ((record {
  name = (name (codes
      "c") 9);
  base = Integer;
  value = (Number 23 (pos 3));
}) ∷ [])) ∷ (Regions ((record {
  name =
      (name (codes "R") 33);
  body = (Dims (ThenDim (Span (Number 38 (pos 1)) (Named 41 (name (codes
      "c") 41))) NoDim));
  posts = NoPost;
}) ∷ [])) ∷ (Vars ((record {
  names = ((name (codes "A") 49) ∷
      []);
  shape = (Bracketed (Rexpr [] (NamedRegion (name (codes "R") 54)) NoPost));
  base = Integer;
}) ∷ [])) ∷ (Directions ((record {
  name = (name (codes "d") 76);
  parts = (ThenExpr (Named 81
      (name (codes "c") 81)) NoExpr);
}) ∷ [])) ∷ []) (ThenStmt (Prefixed 85 [] (Write true ((Value
    (Number 93 (pos 1))) ∷ []))) NoStmt)) ≡ []
names_a_constant_that_stands_earlier = refl

-- config var n : integer = 8; m : integer = n * 2; writeln(1);
names_a_default_of_an_earlier_config : faults_of (declared ((Config ((record {
  name = (name (codes
      "n") 11);
  base = Integer;
  value = (Number 25 (pos 8));
}) ∷ (record {
  name = (name (codes "m")
      28);
  base = Integer;
  value = (Pair 42 op.Mul (Named 42 (name (codes "n") 42)) (Number 46 (pos
      2)));
}) ∷ [])) ∷ []) (ThenStmt (Prefixed 49 [] (Write true ((Value (Number 57 (pos 1))) ∷ [])))
    NoStmt)) ≡ []
names_a_default_of_an_earlier_config = refl

-- procedure f() : integer; begin return 1; end; constant c : integer = f; writeln(1);
names_a_procedure_in_a_default : faults_of (declared ((Defined (record {
  name = (name (codes "f")
      10);
  params = [];
  result = (Some Integer);
  locals = [];
  body = (Prefixed 25 [] (Block (ThenStmt
      (Prefixed 31 [] (Return (Number 38 (pos 1)))) NoStmt)));
})) ∷ (Constant ((record {
  name = (name
      (codes "c") 55);
  base = Integer;
  value = (Named 69 (name (codes "f") 69));
}) ∷ [])) ∷ [])
    (ThenStmt (Prefixed 72 [] (Write true ((Value (Number 80 (pos 1))) ∷ []))) NoStmt)) ≡
    (UnknownName, 69) ∷ []
names_a_procedure_in_a_default = refl

-- var n : integer; A : [n] integer; writeln(1);
names_a_variable_as_a_shape : faults_of (declared ((Vars ((record {
  names = ((name (codes "n") 4) ∷
      []);
  shape = NoBracket;
  base = Integer;
}) ∷ (record {
  names = ((name (codes "A") 17) ∷ []);
  shape = (Bracketed (Rexpr [] (NamedRegion (name (codes "n") 22)) NoPost));
  base = Integer;
}) ∷
    [])) ∷ []) (ThenStmt (Prefixed 34 [] (Write true ((Value (Number 42 (pos 1))) ∷ []))) NoStmt)) ≡
    (UnknownName, 22) ∷ []
names_a_variable_as_a_shape = refl

-- config var n : integer = 3; var A : [n] integer; [1..3] A := 1;
names_a_config_as_a_shape : faults_of (declared ((Config ((record {
  name = (name (codes "n") 11);
  base = Integer;
  value = (Number 25 (pos 3));
}) ∷ [])) ∷ (Vars ((record {
  names = ((name (codes
      "A") 32) ∷ []);
  shape = (Bracketed (Rexpr [] (NamedRegion (name (codes "n") 37)) NoPost));
  base
      = Integer;
}) ∷ [])) ∷ []) (ThenStmt (Prefixed 56 ((record {
  at = 49;
  region = (Dims (ThenDim
      (Span (Number 50 (pos 1)) (Number 53 (pos 3))) NoDim));
  mask = None;
}) ∷ []) (Assign (name
    (codes "A") 56) None (Number 61 (pos 1)))) NoStmt)) ≡ []
names_a_config_as_a_shape = refl

-- ---- TwiceNamed

-- config var u : integer = 1; procedure u(); begin end; writeln(1);
twice_a_config_and_a_procedure : faults_of (declared ((Config ((record {
  name = (name (codes "u")
      11);
  base = Integer;
  value = (Number 25 (pos 1));
}) ∷ [])) ∷ (Defined (record {
  name = (name
      (codes "u") 38);
  params = [];
  result = None;
  locals = [];
  body = (Prefixed 43 [] (Block NoStmt));
})) ∷ []) (ThenStmt (Prefixed 54 [] (Write true ((Value (Number 62 (pos 1))) ∷ []))) NoStmt)) ≡
    (TwiceNamed, 38) ∷ []
twice_a_config_and_a_procedure = refl

-- var x, x, x : integer; writeln(1);
twice_three_of_one_name : faults_of (declared ((Vars ((record {
  names = ((name (codes "x") 4) ∷
      (name (codes "x") 7) ∷ (name (codes "x") 10) ∷ []);
  shape = NoBracket;
  base = Integer;
}) ∷ []))
    ∷ []) (ThenStmt (Prefixed 23 [] (Write true ((Value (Number 31 (pos 1))) ∷ []))) NoStmt)) ≡
    (TwiceNamed, 7) ∷ (TwiceNamed, 10) ∷ []
twice_three_of_one_name = refl

-- procedure u(a : integer); begin end; procedure v(a : integer); var b : integer; begin end; writeln(1);
twice_one_name_in_two_procedures : faults_of (declared ((Defined (record {
  name = (name (codes "u")
      10);
  params = ((record {
    by_ref = false;
    names = ((name (codes "a") 12) ∷ []);
    shape =
        NoBracket;
    base = Integer;
  }) ∷ []);
  result = None;
  locals = [];
  body = (Prefixed 26 [] (Block
      NoStmt));
})) ∷ (Defined (record {
  name = (name (codes "v") 47);
  params = ((record {
    by_ref =
        false;
    names = ((name (codes "a") 49) ∷ []);
    shape = NoBracket;
    base = Integer;
  }) ∷ []);
  result
      = None;
  locals = ((record {
    names = ((name (codes "b") 67) ∷ []);
    shape = NoBracket;
    base =
        Integer;
  }) ∷ []);
  body = (Prefixed 80 [] (Block NoStmt));
})) ∷ []) (ThenStmt (Prefixed 91 []
    (Write true ((Value (Number 99 (pos 1))) ∷ []))) NoStmt)) ≡ []
twice_one_name_in_two_procedures = refl

-- var x : integer; procedure u(); var x : boolean; begin x := true; end; writeln(1);
twice_a_local_of_a_global_name : faults_of (declared ((Vars ((record {
  names = ((name (codes "x") 4)
      ∷ []);
  shape = NoBracket;
  base = Integer;
}) ∷ [])) ∷ (Defined (record {
  name = (name (codes "u")
      27);
  params = [];
  result = None;
  locals = ((record {
    names = ((name (codes "x") 36) ∷ []);
    shape
        = NoBracket;
    base = Boolean;
  }) ∷ []);
  body = (Prefixed 49 [] (Block (ThenStmt (Prefixed 55 []
      (Assign (name (codes "x") 55) None (Truth 60 true))) NoStmt)));
})) ∷ []) (ThenStmt (Prefixed 71
    [] (Write true ((Value (Number 79 (pos 1))) ∷ []))) NoStmt)) ≡ []
twice_a_local_of_a_global_name = refl

-- ---- UnknownType

-- procedure u(); var a : char; begin a := true; end; writeln(1);
types_a_local_of_an_unknown_type : faults_of (declared ((Defined (record {
  name = (name (codes "u")
      10);
  params = [];
  result = None;
  locals = ((record {
    names = ((name (codes "a") 19) ∷ []);
    shape
        = NoBracket;
    base = (Other (name (codes "char") 23));
  }) ∷ []);
  body = (Prefixed 29 [] (Block
      (ThenStmt (Prefixed 35 [] (Assign (name (codes "a") 35) None (Truth 40 true))) NoStmt)));
})) ∷
    []) (ThenStmt (Prefixed 51 [] (Write true ((Value (Number 59 (pos 1))) ∷ []))) NoStmt)) ≡
    (UnknownType, 23) ∷ []
types_a_local_of_an_unknown_type = refl
