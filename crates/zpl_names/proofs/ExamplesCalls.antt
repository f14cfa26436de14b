-- Calls, results and the entry procedure.
use Rattle.std.proofs.Common.{◌≡◌, true, false, [], ◌∷◌, Some, None, pos, codes, refl}
use Rattle.zpl_tree.specs.of_zpl_nums.declared.operators.Op.TheVariants as op
use Rattle.zpl_tree.specs.of_zpl_nums.declared.folds.Fold.TheVariants as fold
use Rattle.zpl_tree.specs.of_zpl_nums.declared.ends.Border.TheVariants as ends
use Rattle.zpl_tree.specs.Syntax.{Number, Truth, Coord, Named, Shifted, Call, Neg, Pair, Reduce, NoExpr, ThenExpr, Vector, NamedRegion, Rexpr, Dims, NoBracket, Bracketed, NoPost, Span, NoDim, ThenDim, Value, Prefixed, NoStmt, ThenStmt, Assign, Invoke, Block, If, For, Border, Write, Return, Tested, NoArm, ThenArm, NoElse, Integer, Boolean, Constant, Vars, Defined}
use Rattle.zpl_names.specs.Accepted.{UnknownName, NotAssignable, Arguments, Recursion, ReturnPlace, CallPlace, NoEntry, RankUnknown}
use Rattle.zpl_names.proofs.Trees.{name, faults_of, statements, declared}

-- ---- NotAssignable

-- c := 1;
fixed_a_constant : faults_of (statements [] (ThenStmt (Prefixed 0 [] (Assign (name (codes "c") 0)
    None (Number 5 (pos 1)))) NoStmt)) ≡ (NotAssignable, 0) ∷ []
fixed_a_constant = refl

-- for c := 1 to 2 do x := 1; end;
fixed_a_constant_for : faults_of (statements [] (ThenStmt (Prefixed 0 [] (For (record {
  name = (name
      (codes "c") 4);
  first = (Number 9 (pos 1));
  down = false;
  last = (Number 14 (pos 2));
  step =
      None;
}) (ThenStmt (Prefixed 19 [] (Assign (name (codes "x") 19) None (Number 24 (pos 1))))
    NoStmt))) NoStmt)) ≡ (NotAssignable, 4) ∷ []
fixed_a_constant_for = refl

-- procedure u(var a : integer); begin end; u(n);
fixed_a_config_as_a_var_actual : faults_of (statements ((Defined (record {
  name = (name (codes "u")
      10);
  params = ((record {
    by_ref = true;
    names = ((name (codes "a") 16) ∷ []);
    shape = NoBracket;
    base = Integer;
  }) ∷ []);
  result = None;
  locals = [];
  body = (Prefixed 30 [] (Block NoStmt));
}))
    ∷ []) (ThenStmt (Prefixed 41 [] (Invoke (name (codes "u") 41) (ThenExpr (Named 43 (name (codes
    "n") 43)) NoExpr))) NoStmt)) ≡ (NotAssignable, 43) ∷ []
fixed_a_config_as_a_var_actual = refl

-- procedure u(a : integer); begin a := 2; end; u(n);
fixed_a_config_as_a_value : faults_of (statements ((Defined (record {
  name = (name (codes "u") 10);
  params = ((record {
    by_ref = false;
    names = ((name (codes "a") 12) ∷ []);
    shape = NoBracket;
    base = Integer;
  }) ∷ []);
  result = None;
  locals = [];
  body = (Prefixed 26 [] (Block (ThenStmt
      (Prefixed 32 [] (Assign (name (codes "a") 32) None (Number 37 (pos 2)))) NoStmt)));
})) ∷ [])
    (ThenStmt (Prefixed 45 [] (Invoke (name (codes "u") 45) (ThenExpr (Named 47 (name (codes "n")
    47)) NoExpr))) NoStmt)) ≡ []
fixed_a_config_as_a_value = refl

-- procedure u(a : integer); begin for a := 1 to 3 do a := a; end; end; u(n);
fixed_a_value_parameter_is_assigned : faults_of (statements ((Defined (record {
  name = (name (codes
      "u") 10);
  params = ((record {
    by_ref = false;
    names = ((name (codes "a") 12) ∷ []);
    shape =
        NoBracket;
    base = Integer;
  }) ∷ []);
  result = None;
  locals = [];
  body = (Prefixed 26 [] (Block
      (ThenStmt (Prefixed 32 [] (For (record {
        name = (name (codes "a") 36);
        first = (Number 41 (pos
            1));
        down = false;
        last = (Number 46 (pos 3));
        step = None;
      }) (ThenStmt (Prefixed 51 [] (Assign
      (name (codes "a") 51) None (Named 56 (name (codes "a") 56)))) NoStmt))) NoStmt)));
})) ∷ [])
    (ThenStmt (Prefixed 69 [] (Invoke (name (codes "u") 69) (ThenExpr (Named 71 (name (codes "n")
    71)) NoExpr))) NoStmt)) ≡ []
fixed_a_value_parameter_is_assigned = refl

-- [e of R] wrap n;
fixed_a_config_in_a_wrap : faults_of (statements [] (ThenStmt (Prefixed 9 ((record {
  at = 0;
  region
      = (Rexpr ((record { dir = (name (codes "e") 1); outside = true }) ∷ []) (NamedRegion (name
      (codes "R") 6)) NoPost);
  mask = None;
}) ∷ []) (Border ends.Wrap ((name (codes "n") 14) ∷ [])))
    NoStmt)) ≡ (UnknownName, 14) ∷ []
fixed_a_config_in_a_wrap = refl

-- ---- Arguments

-- procedure u(a : integer); begin end; u(A);
actuals_an_array_for_a_scalar : faults_of (statements ((Defined (record {
  name = (name (codes "u")
      10);
  params = ((record {
    by_ref = false;
    names = ((name (codes "a") 12) ∷ []);
    shape =
        NoBracket;
    base = Integer;
  }) ∷ []);
  result = None;
  locals = [];
  body = (Prefixed 26 [] (Block
      NoStmt));
})) ∷ []) (ThenStmt (Prefixed 37 [] (Invoke (name (codes "u") 37) (ThenExpr (Named 39
    (name (codes "A") 39)) NoExpr))) NoStmt)) ≡ (Arguments, 37) ∷ []
actuals_an_array_for_a_scalar = refl

-- procedure u(a : integer); begin end; [R] u(A + 1);
actuals_an_expression_of_arrays : faults_of (statements ((Defined (record {
  name = (name (codes "u")
      10);
  params = ((record {
    by_ref = false;
    names = ((name (codes "a") 12) ∷ []);
    shape =
        NoBracket;
    base = Integer;
  }) ∷ []);
  result = None;
  locals = [];
  body = (Prefixed 26 [] (Block
      NoStmt));
})) ∷ []) (ThenStmt (Prefixed 41 ((record {
  at = 37;
  region = (Rexpr [] (NamedRegion
      (name (codes "R") 38)) NoPost);
  mask = None;
}) ∷ []) (Invoke (name (codes "u") 41) (ThenExpr
    (Pair 43 op.Add (Named 43 (name (codes "A") 43)) (Number 47 (pos 1))) NoExpr))) NoStmt)) ≡
    (Arguments, 41) ∷ []
actuals_an_expression_of_arrays = refl

-- procedure u(a : boolean); begin end; u(x);
actuals_an_integer_for_a_boolean : faults_of (statements ((Defined (record {
  name = (name (codes
      "u") 10);
  params = ((record {
    by_ref = false;
    names = ((name (codes "a") 12) ∷ []);
    shape =
        NoBracket;
    base = Boolean;
  }) ∷ []);
  result = None;
  locals = [];
  body = (Prefixed 26 [] (Block
      NoStmt));
})) ∷ []) (ThenStmt (Prefixed 37 [] (Invoke (name (codes "u") 37) (ThenExpr (Named 39
    (name (codes "x") 39)) NoExpr))) NoStmt)) ≡ (Arguments, 37) ∷ []
actuals_an_integer_for_a_boolean = refl

-- procedure u(var a : integer); begin end; u(p);
actuals_a_boolean_for_an_integer_var : faults_of (statements ((Defined (record {
  name = (name (codes
      "u") 10);
  params = ((record {
    by_ref = true;
    names = ((name (codes "a") 16) ∷ []);
    shape =
        NoBracket;
    base = Integer;
  }) ∷ []);
  result = None;
  locals = [];
  body = (Prefixed 30 [] (Block
      NoStmt));
})) ∷ []) (ThenStmt (Prefixed 41 [] (Invoke (name (codes "u") 41) (ThenExpr (Named 43
    (name (codes "p") 43)) NoExpr))) NoStmt)) ≡ (Arguments, 41) ∷ []
actuals_a_boolean_for_an_integer_var = refl

-- procedure u(var a : integer); begin end; u(A);
actuals_an_array_for_a_var_scalar : faults_of (statements ((Defined (record {
  name = (name (codes
      "u") 10);
  params = ((record {
    by_ref = true;
    names = ((name (codes "a") 16) ∷ []);
    shape =
        NoBracket;
    base = Integer;
  }) ∷ []);
  result = None;
  locals = [];
  body = (Prefixed 30 [] (Block
      NoStmt));
})) ∷ []) (ThenStmt (Prefixed 41 [] (Invoke (name (codes "u") 41) (ThenExpr (Named 43
    (name (codes "A") 43)) NoExpr))) NoStmt)) ≡ (Arguments, 41) ∷ []
actuals_an_array_for_a_var_scalar = refl

-- procedure u(a : [R] integer); begin end; u(x);
actuals_a_scalar_for_an_array : faults_of (statements ((Defined (record {
  name = (name (codes "u")
      10);
  params = ((record {
    by_ref = false;
    names = ((name (codes "a") 12) ∷ []);
    shape =
        (Bracketed (Rexpr [] (NamedRegion (name (codes "R") 17)) NoPost));
    base = Integer;
  }) ∷ []);
  result = None;
  locals = [];
  body = (Prefixed 30 [] (Block NoStmt));
})) ∷ []) (ThenStmt (Prefixed
    41 [] (Invoke (name (codes "u") 41) (ThenExpr (Named 43 (name (codes "x") 43)) NoExpr)))
    NoStmt)) ≡ (Arguments, 41) ∷ []
actuals_a_scalar_for_an_array = refl

-- procedure u(a : [R] integer); begin end; u(n);
actuals_a_config_for_an_array : faults_of (statements ((Defined (record {
  name = (name (codes "u")
      10);
  params = ((record {
    by_ref = false;
    names = ((name (codes "a") 12) ∷ []);
    shape =
        (Bracketed (Rexpr [] (NamedRegion (name (codes "R") 17)) NoPost));
    base = Integer;
  }) ∷ []);
  result = None;
  locals = [];
  body = (Prefixed 30 [] (Block NoStmt));
})) ∷ []) (ThenStmt (Prefixed
    41 [] (Invoke (name (codes "u") 41) (ThenExpr (Named 43 (name (codes "n") 43)) NoExpr)))
    NoStmt)) ≡ (Arguments, 41) ∷ []
actuals_a_config_for_an_array = refl

-- procedure u(a : [R] integer); begin end; u(M);
actuals_another_rank : faults_of (statements ((Defined (record {
  name = (name (codes "u") 10);
  params = ((record {
    by_ref = false;
    names = ((name (codes "a") 12) ∷ []);
    shape = (Bracketed
        (Rexpr [] (NamedRegion (name (codes "R") 17)) NoPost));
    base = Integer;
  }) ∷ []);
  result = None;
  locals = [];
  body = (Prefixed 30 [] (Block NoStmt));
})) ∷ []) (ThenStmt (Prefixed 41 [] (Invoke
    (name (codes "u") 41) (ThenExpr (Named 43 (name (codes "M") 43)) NoExpr))) NoStmt)) ≡
    (Arguments, 41) ∷ []
actuals_another_rank = refl

-- procedure u(a : [R] integer); begin end; u(P);
actuals_another_base_type : faults_of (statements ((Defined (record {
  name = (name (codes "u") 10);
  params = ((record {
    by_ref = false;
    names = ((name (codes "a") 12) ∷ []);
    shape = (Bracketed
        (Rexpr [] (NamedRegion (name (codes "R") 17)) NoPost));
    base = Integer;
  }) ∷ []);
  result = None;
  locals = [];
  body = (Prefixed 30 [] (Block NoStmt));
})) ∷ []) (ThenStmt (Prefixed 41 [] (Invoke
    (name (codes "u") 41) (ThenExpr (Named 43 (name (codes "P") 43)) NoExpr))) NoStmt)) ≡
    (Arguments, 41) ∷ []
actuals_another_base_type = refl

-- procedure u(a : [7..9] integer); begin end; u(A);
actuals_a_shape_that_counts_by_its_rank_alone : faults_of (statements ((Defined (record {
  name =
      (name (codes "u") 10);
  params = ((record {
    by_ref = false;
    names = ((name (codes "a") 12) ∷ []);
    shape = (Bracketed (Dims (ThenDim (Span (Number 17 (pos 7)) (Number 20 (pos 9))) NoDim)));
    base
        = Integer;
  }) ∷ []);
  result = None;
  locals = [];
  body = (Prefixed 33 [] (Block NoStmt));
})) ∷ [])
    (ThenStmt (Prefixed 44 [] (Invoke (name (codes "u") 44) (ThenExpr (Named 46 (name (codes "A")
    46)) NoExpr))) NoStmt)) ≡ []
actuals_a_shape_that_counts_by_its_rank_alone = refl

-- procedure f() : integer; begin return 1; end; x := f(1);
actuals_a_call_with_a_result : faults_of (statements ((Defined (record {
  name = (name (codes "f")
      10);
  params = [];
  result = (Some Integer);
  locals = [];
  body = (Prefixed 25 [] (Block (ThenStmt
      (Prefixed 31 [] (Return (Number 38 (pos 1)))) NoStmt)));
})) ∷ []) (ThenStmt (Prefixed 46 []
    (Assign (name (codes "x") 46) None (Call 51 (name (codes "f") 51) (ThenExpr (Number 53 (pos 1))
    NoExpr)))) NoStmt)) ≡ (Arguments, 51) ∷ []
actuals_a_call_with_a_result = refl

-- procedure u(a, b : integer); begin end; u(1, 2); u(1);
actuals_two_names_of_one_parameter : faults_of (statements ((Defined (record {
  name = (name (codes
      "u") 10);
  params = ((record {
    by_ref = false;
    names = ((name (codes "a") 12) ∷ (name (codes "b")
        15) ∷ []);
    shape = NoBracket;
    base = Integer;
  }) ∷ []);
  result = None;
  locals = [];
  body =
      (Prefixed 29 [] (Block NoStmt));
})) ∷ []) (ThenStmt (Prefixed 40 [] (Invoke (name (codes "u")
    40) (ThenExpr (Number 42 (pos 1)) (ThenExpr (Number 45 (pos 2)) NoExpr)))) (ThenStmt (Prefixed
    49 [] (Invoke (name (codes "u") 49) (ThenExpr (Number 51 (pos 1)) NoExpr))) NoStmt))) ≡
    (Arguments, 49) ∷ []
actuals_two_names_of_one_parameter = refl

-- procedure u(a : integer); begin end; [R] u(+<<A);
actuals_a_fold_as_an_actual : faults_of (statements ((Defined (record {
  name = (name (codes "u")
      10);
  params = ((record {
    by_ref = false;
    names = ((name (codes "a") 12) ∷ []);
    shape =
        NoBracket;
    base = Integer;
  }) ∷ []);
  result = None;
  locals = [];
  body = (Prefixed 26 [] (Block
      NoStmt));
})) ∷ []) (ThenStmt (Prefixed 41 ((record {
  at = 37;
  region = (Rexpr [] (NamedRegion
      (name (codes "R") 38)) NoPost);
  mask = None;
}) ∷ []) (Invoke (name (codes "u") 41) (ThenExpr
    (Reduce 43 fold.Sum NoBracket (Named 46 (name (codes "A") 46))) NoExpr))) NoStmt)) ≡ []
actuals_a_fold_as_an_actual = refl

-- procedure u(a : integer); begin end; u(Index1);
actuals_a_coordinate_as_an_actual : faults_of (statements ((Defined (record {
  name = (name (codes
      "u") 10);
  params = ((record {
    by_ref = false;
    names = ((name (codes "a") 12) ∷ []);
    shape =
        NoBracket;
    base = Integer;
  }) ∷ []);
  result = None;
  locals = [];
  body = (Prefixed 26 [] (Block
      NoStmt));
})) ∷ []) (ThenStmt (Prefixed 37 [] (Invoke (name (codes "u") 37) (ThenExpr (Coord 39
    1) NoExpr))) NoStmt)) ≡ (RankUnknown, 39) ∷ []
actuals_a_coordinate_as_an_actual = refl

-- procedure u(a : boolean); begin end; u(z);
actuals_an_unknown_actual : faults_of (statements ((Defined (record {
  name = (name (codes "u") 10);
  params = ((record {
    by_ref = false;
    names = ((name (codes "a") 12) ∷ []);
    shape = NoBracket;
    base = Boolean;
  }) ∷ []);
  result = None;
  locals = [];
  body = (Prefixed 26 [] (Block NoStmt));
}))
    ∷ []) (ThenStmt (Prefixed 37 [] (Invoke (name (codes "u") 37) (ThenExpr (Named 39 (name (codes
    "z") 39)) NoExpr))) NoStmt)) ≡ (UnknownName, 39) ∷ []
actuals_an_unknown_actual = refl

-- ---- Recursion

-- program t; procedure a(); begin b(); end; procedure b(); begin a(); end; procedure t(); begin end;
recursion_through_a_second_procedure : faults_of (record {
  name = (name (codes "t") 8);
  decls =
      ((Defined (record {
        name = (name (codes "a") 21);
        params = [];
        result = None;
        locals = [];
        body
            = (Prefixed 26 [] (Block (ThenStmt (Prefixed 32 [] (Invoke (name (codes "b") 32) NoExpr))
            NoStmt)));
      })) ∷ (Defined (record {
        name = (name (codes "b") 52);
        params = [];
        result = None;
        locals = [];
        body = (Prefixed 57 [] (Block (ThenStmt (Prefixed 63 [] (Invoke (name (codes "a")
            63) NoExpr)) NoStmt)));
      })) ∷ (Defined (record {
        name = (name (codes "t") 83);
        params = [];
        result = None;
        locals = [];
        body = (Prefixed 88 [] (Block NoStmt));
      })) ∷ []);
  source = [];
}) ≡
    (Recursion, 32) ∷ (Recursion, 63) ∷ []
recursion_through_a_second_procedure = refl

-- program t; procedure a(); begin a(); end; procedure t(); begin a(); end;
recursion_a_call_that_leads_into_a_cycle : faults_of (record {
  name = (name (codes "t") 8);
  decls =
      ((Defined (record {
        name = (name (codes "a") 21);
        params = [];
        result = None;
        locals = [];
        body
            = (Prefixed 26 [] (Block (ThenStmt (Prefixed 32 [] (Invoke (name (codes "a") 32) NoExpr))
            NoStmt)));
      })) ∷ (Defined (record {
        name = (name (codes "t") 52);
        params = [];
        result = None;
        locals = [];
        body = (Prefixed 57 [] (Block (ThenStmt (Prefixed 63 [] (Invoke (name (codes "a")
            63) NoExpr)) NoStmt)));
      })) ∷ []);
  source = [];
}) ≡ (Recursion, 32) ∷ []
recursion_a_call_that_leads_into_a_cycle = refl

-- program t; procedure a(); begin end; procedure b(); begin a(); a(); end; procedure t(); begin b(); a(); b(); end;
recursion_a_call_twice : faults_of (record {
  name = (name (codes "t") 8);
  decls = ((Defined (record {
    name = (name (codes "a") 21);
    params = [];
    result = None;
    locals = [];
    body = (Prefixed 26 []
        (Block NoStmt));
  })) ∷ (Defined (record {
    name = (name (codes "b") 47);
    params = [];
    result =
        None;
    locals = [];
    body = (Prefixed 52 [] (Block (ThenStmt (Prefixed 58 [] (Invoke (name (codes
        "a") 58) NoExpr)) (ThenStmt (Prefixed 63 [] (Invoke (name (codes "a") 63) NoExpr)) NoStmt))));
  })) ∷ (Defined (record {
    name = (name (codes "t") 83);
    params = [];
    result = None;
    locals = [];
    body = (Prefixed 88 [] (Block (ThenStmt (Prefixed 94 [] (Invoke (name (codes "b") 94) NoExpr))
        (ThenStmt (Prefixed 99 [] (Invoke (name (codes "a") 99) NoExpr)) (ThenStmt (Prefixed 104 []
        (Invoke (name (codes "b") 104) NoExpr)) NoStmt)))));
  })) ∷ []);
  source = [];
}) ≡ []
recursion_a_call_twice = refl

-- program t; var x : integer; procedure f() : integer; begin return f(); end; procedure t(); begin x := f(); end;
recursion_in_a_wrong_place : faults_of (record {
  name = (name (codes "t") 8);
  decls = ((Vars
      ((record { names = ((name (codes "x") 15) ∷ []); shape = NoBracket; base = Integer }) ∷ [])) ∷
      (Defined (record {
        name = (name (codes "f") 38);
        params = [];
        result = (Some Integer);
        locals =
            [];
        body = (Prefixed 53 [] (Block (ThenStmt (Prefixed 59 [] (Return (Call 66 (name (codes "f")
            66) NoExpr))) NoStmt)));
      })) ∷ (Defined (record {
        name = (name (codes "t") 86);
        params = [];
        result = None;
        locals = [];
        body = (Prefixed 91 [] (Block (ThenStmt (Prefixed 97 [] (Assign
            (name (codes "x") 97) None (Call 102 (name (codes "f") 102) NoExpr))) NoStmt)));
      })) ∷ []);
  source = [];
}) ≡ (Recursion, 66) ∷ (CallPlace, 66) ∷ []
recursion_in_a_wrong_place = refl

-- ---- ReturnPlace

-- program t; var x : integer; procedure f() : integer; begin begin return 1; end; end; procedure t(); begin x := f(); end;
return_in_a_nested_block : faults_of (record {
  name = (name (codes "t") 8);
  decls = ((Vars ((record
      { names = ((name (codes "x") 15) ∷ []); shape = NoBracket; base = Integer }) ∷ [])) ∷ (Defined
      (record {
        name = (name (codes "f") 38);
        params = [];
        result = (Some Integer);
        locals = [];
        body
            = (Prefixed 53 [] (Block (ThenStmt (Prefixed 59 [] (Block (ThenStmt (Prefixed 65 [] (Return
            (Number 72 (pos 1)))) NoStmt))) NoStmt)));
      })) ∷ (Defined (record {
        name = (name (codes "t") 95);
        params = [];
        result = None;
        locals = [];
        body = (Prefixed 100 [] (Block (ThenStmt (Prefixed 106
            [] (Assign (name (codes "x") 106) None (Call 111 (name (codes "f") 111) NoExpr))) NoStmt)));
      }))
      ∷ []);
  source = [];
}) ≡ (ReturnPlace, 38) ∷ (ReturnPlace, 65) ∷ []
return_in_a_nested_block = refl

-- program t; var x : integer; procedure f() : integer; begin if true then return 1; end; return 2; end; procedure t(); begin x := f(); end;
return_in_an_if : faults_of (record {
  name = (name (codes "t") 8);
  decls = ((Vars ((record {
    names =
        ((name (codes "x") 15) ∷ []);
    shape = NoBracket;
    base = Integer;
  }) ∷ [])) ∷ (Defined (record {
    name = (name (codes "f") 38);
    params = [];
    result = (Some Integer);
    locals = [];
    body =
        (Prefixed 53 [] (Block (ThenStmt (Prefixed 59 [] (If (ThenArm (Tested 59 (Truth 62 true)
        (ThenStmt (Prefixed 72 [] (Return (Number 79 (pos 1)))) NoStmt)) NoArm) NoElse)) (ThenStmt
        (Prefixed 87 [] (Return (Number 94 (pos 2)))) NoStmt))));
  })) ∷ (Defined (record {
    name = (name
        (codes "t") 112);
    params = [];
    result = None;
    locals = [];
    body = (Prefixed 117 [] (Block
        (ThenStmt (Prefixed 123 [] (Assign (name (codes "x") 123) None (Call 128 (name (codes "f") 128)
        NoExpr))) NoStmt)));
  })) ∷ []);
  source = [];
}) ≡ (ReturnPlace, 72) ∷ []
return_in_an_if = refl

-- program t; var x : integer; procedure f() : integer; begin x := 1; return x; end; procedure t(); begin x := f(); end;
return_the_last_one : faults_of (record {
  name = (name (codes "t") 8);
  decls = ((Vars ((record {
    names = ((name (codes "x") 15) ∷ []);
    shape = NoBracket;
    base = Integer;
  }) ∷ [])) ∷ (Defined
      (record {
        name = (name (codes "f") 38);
        params = [];
        result = (Some Integer);
        locals = [];
        body
            = (Prefixed 53 [] (Block (ThenStmt (Prefixed 59 [] (Assign (name (codes "x") 59) None (Number 64
            (pos 1)))) (ThenStmt (Prefixed 67 [] (Return (Named 74 (name (codes "x") 74)))) NoStmt))));
      })) ∷
      (Defined (record {
        name = (name (codes "t") 92);
        params = [];
        result = None;
        locals = [];
        body =
            (Prefixed 97 [] (Block (ThenStmt (Prefixed 103 [] (Assign (name (codes "x") 103) None (Call 108
            (name (codes "f") 108) NoExpr))) NoStmt)));
      })) ∷ []);
  source = [];
}) ≡ []
return_the_last_one = refl

-- ---- CallPlace

-- procedure f() : integer; begin return 1; end; if f() > 1 then x := 1; end;
call_in_a_condition : faults_of (statements ((Defined (record {
  name = (name (codes "f") 10);
  params
      = [];
  result = (Some Integer);
  locals = [];
  body = (Prefixed 25 [] (Block (ThenStmt (Prefixed 31
      [] (Return (Number 38 (pos 1)))) NoStmt)));
})) ∷ []) (ThenStmt (Prefixed 46 [] (If (ThenArm
    (Tested 46 (Pair 49 op.Gt (Call 49 (name (codes "f") 49) NoExpr) (Number 55 (pos 1))) (ThenStmt
    (Prefixed 62 [] (Assign (name (codes "x") 62) None (Number 67 (pos 1)))) NoStmt)) NoArm)
    NoElse)) NoStmt)) ≡ (CallPlace, 49) ∷ []
call_in_a_condition = refl

-- procedure f() : integer; begin return 1; end; procedure u(a : integer); begin end; u(f());
call_in_an_actual : faults_of (statements ((Defined (record {
  name = (name (codes "f") 10);
  params =
      [];
  result = (Some Integer);
  locals = [];
  body = (Prefixed 25 [] (Block (ThenStmt (Prefixed 31
      [] (Return (Number 38 (pos 1)))) NoStmt)));
})) ∷ (Defined (record {
  name = (name (codes "u")
      56);
  params = ((record {
    by_ref = false;
    names = ((name (codes "a") 58) ∷ []);
    shape =
        NoBracket;
    base = Integer;
  }) ∷ []);
  result = None;
  locals = [];
  body = (Prefixed 72 [] (Block
      NoStmt));
})) ∷ []) (ThenStmt (Prefixed 83 [] (Invoke (name (codes "u") 83) (ThenExpr (Call 85
    (name (codes "f") 85) NoExpr) NoExpr))) NoStmt)) ≡ (CallPlace, 85) ∷ []
call_in_an_actual = refl

-- procedure f() : integer; begin return 1; end; [R] B := A@[f()];
call_in_a_vector : faults_of (statements ((Defined (record {
  name = (name (codes "f") 10);
  params =
      [];
  result = (Some Integer);
  locals = [];
  body = (Prefixed 25 [] (Block (ThenStmt (Prefixed 31
      [] (Return (Number 38 (pos 1)))) NoStmt)));
})) ∷ []) (ThenStmt (Prefixed 50 ((record {
  at = 46;
  region = (Rexpr [] (NamedRegion (name (codes "R") 47)) NoPost);
  mask = None;
}) ∷ []) (Assign
    (name (codes "B") 50) None (Shifted 55 (name (codes "A") 55) (Vector (ThenExpr (Call 58 (name
    (codes "f") 58) NoExpr) NoExpr))))) NoStmt)) ≡ (CallPlace, 58) ∷ []
call_in_a_vector = refl

-- procedure f() : integer; begin return 1; end; writeln(1, f());
call_in_an_item : faults_of (statements ((Defined (record {
  name = (name (codes "f") 10);
  params =
      [];
  result = (Some Integer);
  locals = [];
  body = (Prefixed 25 [] (Block (ThenStmt (Prefixed 31
      [] (Return (Number 38 (pos 1)))) NoStmt)));
})) ∷ []) (ThenStmt (Prefixed 46 [] (Write true
    ((Value (Number 54 (pos 1))) ∷ (Value (Call 57 (name (codes "f") 57) NoExpr)) ∷ []))) NoStmt)) ≡
    (CallPlace, 57) ∷ []
call_in_an_item = refl

-- procedure f() : integer; begin return 1; end; procedure g() : integer; begin return f(); end; x := g();
call_in_a_result : faults_of (statements ((Defined (record {
  name = (name (codes "f") 10);
  params =
      [];
  result = (Some Integer);
  locals = [];
  body = (Prefixed 25 [] (Block (ThenStmt (Prefixed 31
      [] (Return (Number 38 (pos 1)))) NoStmt)));
})) ∷ (Defined (record {
  name = (name (codes "g")
      56);
  params = [];
  result = (Some Integer);
  locals = [];
  body = (Prefixed 71 [] (Block (ThenStmt
      (Prefixed 77 [] (Return (Call 84 (name (codes "f") 84) NoExpr))) NoStmt)));
})) ∷ []) (ThenStmt
    (Prefixed 94 [] (Assign (name (codes "x") 94) None (Call 99 (name (codes "g") 99) NoExpr)))
    NoStmt)) ≡ (CallPlace, 84) ∷ []
call_in_a_result = refl

-- procedure f() : integer; begin return 1; end; constant c : integer = f(); writeln(1);
call_in_a_default : faults_of (declared ((Defined (record {
  name = (name (codes "f") 10);
  params =
      [];
  result = (Some Integer);
  locals = [];
  body = (Prefixed 25 [] (Block (ThenStmt (Prefixed 31
      [] (Return (Number 38 (pos 1)))) NoStmt)));
})) ∷ (Constant ((record {
  name = (name (codes "c")
      55);
  base = Integer;
  value = (Call 69 (name (codes "f") 69) NoExpr);
}) ∷ [])) ∷ []) (ThenStmt
    (Prefixed 74 [] (Write true ((Value (Number 82 (pos 1))) ∷ []))) NoStmt)) ≡ (CallPlace, 69) ∷ []
call_in_a_default = refl

-- procedure f() : integer; begin return 1; end; x := -f();
call_negated : faults_of (statements ((Defined (record {
  name = (name (codes "f") 10);
  params = [];
  result = (Some Integer);
  locals = [];
  body = (Prefixed 25 [] (Block (ThenStmt (Prefixed 31 []
      (Return (Number 38 (pos 1)))) NoStmt)));
})) ∷ []) (ThenStmt (Prefixed 46 [] (Assign (name (codes
    "x") 46) None (Neg 51 (Call 52 (name (codes "f") 52) NoExpr)))) NoStmt)) ≡ (CallPlace, 52) ∷ []
call_negated = refl

-- procedure f() : integer; begin return 1; end; x := f(); [R] y := f();
call_the_whole_right_side : faults_of (statements ((Defined (record {
  name = (name (codes "f") 10);
  params = [];
  result = (Some Integer);
  locals = [];
  body = (Prefixed 25 [] (Block (ThenStmt
      (Prefixed 31 [] (Return (Number 38 (pos 1)))) NoStmt)));
})) ∷ []) (ThenStmt (Prefixed 46 []
    (Assign (name (codes "x") 46) None (Call 51 (name (codes "f") 51) NoExpr))) (ThenStmt (Prefixed
    60 ((record {
      at = 56;
      region = (Rexpr [] (NamedRegion (name (codes "R") 57)) NoPost);
      mask =
          None;
    }) ∷ []) (Assign (name (codes "y") 60) None (Call 65 (name (codes "f") 65) NoExpr)))
    NoStmt))) ≡ []
call_the_whole_right_side = refl

-- ---- NoEntry

-- program t; procedure u(t : integer); begin end;
entry_a_local_name : faults_of (record {
  name = (name (codes "t") 8);
  decls = ((Defined (record {
    name = (name (codes "u") 21);
    params = ((record {
      by_ref = false;
      names = ((name (codes "t") 23)
          ∷ []);
      shape = NoBracket;
      base = Integer;
    }) ∷ []);
    result = None;
    locals = [];
    body = (Prefixed
        37 [] (Block NoStmt));
  })) ∷ []);
  source = [];
}) ≡ (NoEntry, 8) ∷ []
entry_a_local_name = refl
