-- Programs of scalars: numbers, folds over no tuples, calls.
use Rattle.std.proofs.Common.{◌≡◌, ℕ, true, false, List, [], ◌∷◌, Some, None, pos, codes, refl}
use Rattle.std.specs.Fmt.{digits}
use Rattle.std.specs.Int.{int_wrap}
use Rattle.zpl_binding.specs.of_zpl_nums.declared.operators.Op.TheVariants as op
use Rattle.zpl_binding.specs.of_zpl_nums.declared.folds.Fold.TheVariants as fold
use Rattle.zpl_binding.specs.of_zpl_nums.declared.ends.End.TheVariants.{Done, Trap, More}
use Rattle.zpl_binding.specs.of_zpl_nums.declared.ends.TrapKind.TheVariants.{DivideByZero, RegionLimit}
use Rattle.zpl_binding.specs.of_zpl_tree.Syntax.{Name, Number, Named, Call, Paren, Neg, Pair, Reduce}
use Rattle.zpl_binding.specs.of_zpl_tree.Syntax.{NoExpr, ThenExpr, Dims, NoBracket, Bracketed, Span, NoDim, ThenDim}
use Rattle.zpl_binding.specs.of_zpl_tree.Syntax.{Str, Value, Prefixed, NoStmt, ThenStmt, Assign, Invoke, Block}
use Rattle.zpl_binding.specs.of_zpl_tree.Syntax.{If, While, Repeat, For, Write, Return, Tested, NoArm}
use Rattle.zpl_binding.specs.of_zpl_tree.Syntax.{ThenArm, NoElse, Integer, Boolean, Config, Constant, Vars, Defined}
use Rattle.zpl_binding.specs.of_zpl_tree.Syntax.{Program}
use Rattle.zpl_binding.specs.of_zpl_names.Reached.{longest_chain}
use Rattle.zpl_meaning.specs.Program.{mean_of, steps_of}

abbrev name : List ℕ → ℕ → Name
name text at = record { text = text; at = at }

-- a fold over no tuples is the unit
abbrev folds : Program
folds = record {
  name = (name (codes "t") 8);
  decls = ((Vars ((record {
    names = ((name (codes
        "Z") 15) ∷ []);
    shape = (Bracketed (Dims (ThenDim (Span (Number 20 (pos 1)) (Number 23 (pos
        4))) NoDim)));
    base = Integer;
  }) ∷ (record {
    names = ((name (codes "s") 35) ∷ []);
    shape =
        NoBracket;
    base = Integer;
  }) ∷ [])) ∷ (Defined (record {
    name = (name (codes "t") 58);
    params = [];
    result = None;
    locals = [];
    body = (Prefixed 63 [] (Block (ThenStmt (Prefixed
        76 ((record {
          at = 69;
          region = (Dims (ThenDim (Span (Number 70 (pos 1)) (Number 73 (pos
              0))) NoDim));
          mask = None;
        }) ∷ []) (Assign (name (codes "s") 76) None (Reduce 81 fold.Max
        NoBracket (Paren 86 (Pair 87 op.Div (Number 87 (pos 10)) (Named 92 (name (codes "Z")
        92))))))) (ThenStmt (Prefixed 96 [] (Write true ((Value (Named 104 (name (codes "s") 104)))
        ∷ []))) NoStmt))));
  })) ∷ []);
  source = (codes
      "program t;\nvar Z : [1..4] integer; s : integer;\nprocedure t();\nbegin\n[1..0] s := max<<(10 / Z);\nwriteln(s);\nend;\n");
}

empty_fold : mean_of folds [] 0 ≡
    record { bytes = (codes "-9223372036854775808\n"); ending = Done }
unfolding longest_chain int_wrap digits
empty_fold = refl

-- numbers wrap
abbrev numbers : Program
numbers = record {
  name = (name (codes "t") 8);
  decls = ((Vars ((record {
    names = ((name (codes
        "s") 15) ∷ []);
    shape = NoBracket;
    base = Integer;
  }) ∷ [])) ∷ (Defined (record {
    name =
        (name (codes "t") 38);
    params = [];
    result = None;
    locals = [];
    body = (Prefixed 43 []
        (Block (ThenStmt (Prefixed 49 [] (Assign (name (codes "s") 49) None (Number 54 (pos
        9223372036854775807)))) (ThenStmt (Prefixed 75 [] (Write true ((Value (Pair 83 op.Add (Named
        83 (name (codes "s") 83)) (Number 87 (pos 1)))) ∷ []))) (ThenStmt (Prefixed 91 [] (Assign
        (name (codes "s") 91) None (Pair 96 op.Sub (Neg 96 (Named 97 (name (codes "s") 97))) (Number
        101 (pos 1))))) (ThenStmt (Prefixed 104 [] (Write true ((Value (Pair 112 op.Div (Named 112
        (name (codes "s") 112)) (Neg 116 (Number 117 (pos 1))))) ∷ (Str (codes " ")) ∷ (Value (Pair
        125 op.Rem (Named 125 (name (codes "s") 125)) (Neg 129 (Number 130 (pos 1))))) ∷ [])))
        NoStmt))))));
  })) ∷ []);
  source = (codes
      "program t;\nvar s : integer;\nprocedure t();\nbegin\ns := 9223372036854775807;\nwriteln(s + 1);\ns := -s - 1;\nwriteln(s / -1, \" \", s % -1);\nend;\n");
}

numbers_wrap : mean_of numbers [] 0 ≡
    record { bytes = (codes "-9223372036854775808\n-9223372036854775808 0\n"); ending = Done }
unfolding longest_chain int_wrap digits
numbers_wrap = refl

-- a value parameter is a copy, a `var` parameter refers to its actual
abbrev calls : Program
calls = record {
  name = (name (codes "t") 8);
  decls = ((Vars ((record {
    names = ((name (codes
        "x") 15) ∷ (name (codes "y") 18) ∷ []);
    shape = NoBracket;
    base = Integer;
  }) ∷ [])) ∷
      (Defined (record {
        name = (name (codes "twice") 41);
        params = ((record {
          by_ref = false;
          names = ((name (codes "a") 47) ∷ []);
          shape = NoBracket;
          base = Integer;
        }) ∷ (record {
          by_ref = true;
          names = ((name (codes "b") 64) ∷ []);
          shape = NoBracket;
          base = Integer;
        }) ∷
            []);
        result = None;
        locals = [];
        body = (Prefixed 78 [] (Block (ThenStmt (Prefixed 84 []
            (Assign (name (codes "a") 84) None (Pair 89 op.Add (Named 89 (name (codes "a") 89)) (Named
            93 (name (codes "a") 93))))) (ThenStmt (Prefixed 96 [] (Assign (name (codes "b") 96) None
            (Named 101 (name (codes "a") 101)))) NoStmt))));
      })) ∷ (Defined (record {
        name = (name (codes
            "five") 119);
        params = [];
        result = (Some Integer);
        locals = [];
        body = (Prefixed 137 []
            (Block (ThenStmt (Prefixed 143 [] (Return (Number 150 (pos 5)))) NoStmt)));
      })) ∷ (Defined
      (record {
        name = (name (codes "t") 168);
        params = [];
        result = None;
        locals = [];
        body =
            (Prefixed 173 [] (Block (ThenStmt (Prefixed 179 [] (Assign (name (codes "x") 179) None (Call
            184 (name (codes "five") 184) NoExpr))) (ThenStmt (Prefixed 192 [] (Invoke (name (codes
            "twice") 192) (ThenExpr (Named 198 (name (codes "x") 198)) (ThenExpr (Named 201 (name (codes
            "y") 201)) NoExpr)))) (ThenStmt (Prefixed 205 [] (Write true ((Value (Named 213 (name (codes
            "x") 213))) ∷ (Str (codes " ")) ∷ (Value (Named 221 (name (codes "y") 221))) ∷ (Str (codes
            " ")) ∷ (Value (Pair 229 op.Lt (Named 229 (name (codes "x") 229)) (Named 233 (name (codes
            "y") 233)))) ∷ []))) NoStmt)))));
      })) ∷ []);
  source = (codes
      "program t;\nvar x, y : integer; procedure twice(a : integer; var b : integer); begin a := a + a; b := a; end; procedure five() : integer; begin return 5; end;\nprocedure t();\nbegin\nx := five();\ntwice(x, y);\nwriteln(x, \" \", y, \" \", x < y);\nend;\n");
}

calls_copy_and_refer : mean_of calls [] 0 ≡
    record { bytes = (codes "5 10 true\n"); ending = Done }
unfolding longest_chain int_wrap digits
calls_copy_and_refer = refl

-- the limit of regions, at the line of the prefix
abbrev limits : Program
limits = record {
  name = (name (codes "t") 8);
  decls = ((Vars ((record {
    names = ((name (codes
        "n") 15) ∷ []);
    shape = NoBracket;
    base = Integer;
  }) ∷ [])) ∷ (Defined (record {
    name =
        (name (codes "t") 38);
    params = [];
    result = None;
    locals = [];
    body = (Prefixed 43 []
        (Block (ThenStmt (Prefixed 49 [] (Assign (name (codes "n") 49) None (Number 54 (pos
        3000000000)))) (ThenStmt (Prefixed 73 ((record {
          at = 66;
          region = (Dims (ThenDim (Span
              (Number 67 (pos 1)) (Named 70 (name (codes "n") 70))) NoDim));
          mask = None;
        }) ∷ []) (Assign
        (name (codes "n") 73) None (Reduce 78 fold.Sum NoBracket (Number 81 (pos 1))))) NoStmt))));
  })) ∷ []);
  source = (codes
      "program t;\nvar n : integer;\nprocedure t();\nbegin\nn := 3000000000;\n[1..n] n := +<<1;\nend;\n");
}

past_the_limit : mean_of limits [] 0 ≡
    record { bytes = []; ending = Trap RegionLimit 6 }
unfolding longest_chain int_wrap
past_the_limit = refl

-- a statement that traps prints nothing of itself
abbrev nothing_printed : Program
nothing_printed = record {
  name = (name (codes "t") 8);
  decls = ((Vars ((record {
    names = ((name
        (codes "n") 15) ∷ []);
    shape = NoBracket;
    base = Integer;
  }) ∷ [])) ∷ (Defined (record {
    name
        = (name (codes "t") 38);
    params = [];
    result = None;
    locals = [];
    body = (Prefixed 43 []
        (Block (ThenStmt (Prefixed 49 [] (Write false ((Str (codes "a")) ∷ (Value (Pair 60 op.Div
        (Number 60 (pos 1)) (Named 64 (name (codes "n") 64)))) ∷ []))) NoStmt)));
  })) ∷ []);
  source =
      (codes "program t;\nvar n : integer;\nprocedure t();\nbegin\nwrite(\"a\", 1 / n);\nend;\n");
}

traps_before_it_prints : mean_of nothing_printed [] 0 ≡
    record { bytes = []; ending = Trap DivideByZero 5 }
unfolding longest_chain int_wrap
traps_before_it_prints = refl

-- a loop that ends in ten turns
abbrev sums : Program
sums = record {
  name = (name (codes "sum") 8);
  decls = ((Vars ((record {
    names = ((name (codes
        "i") 17) ∷ (name (codes "s") 20) ∷ []);
    shape = NoBracket;
    base = Integer;
  }) ∷ [])) ∷
      (Defined (record {
        name = (name (codes "sum") 43);
        params = [];
        result = None;
        locals = [];
        body = (Prefixed 50 [] (Block (ThenStmt (Prefixed 56 [] (Assign (name (codes "i") 56) None
            (Number 61 (pos 1)))) (ThenStmt (Prefixed 64 [] (While (Pair 70 op.Le (Named 70 (name (codes
            "i") 70)) (Number 75 (pos 10))) (ThenStmt (Prefixed 81 [] (Assign (name (codes "s") 81) None
            (Pair 86 op.Add (Named 86 (name (codes "s") 86)) (Named 90 (name (codes "i") 90)))))
            (ThenStmt (Prefixed 93 [] (Assign (name (codes "i") 93) None (Pair 98 op.Add (Named 98 (name
            (codes "i") 98)) (Number 102 (pos 1))))) NoStmt)))) (ThenStmt (Prefixed 110 [] (Write true
            ((Str (codes "sum ")) ∷ (Value (Named 126 (name (codes "s") 126))) ∷ []))) NoStmt)))));
      })) ∷
      []);
  source = (codes
      "program sum;\nvar i, s : integer;\nprocedure sum();\nbegin\ni := 1;\nwhile i <= 10 do s := s + i; i := i + 1; end;\nwriteln(\"sum \", s);\nend;\n");
}

sum_in_ten_turns : mean_of sums [] 10 ≡
    record { bytes = (codes "sum 55\n"); ending = Done }
unfolding longest_chain int_wrap digits
sum_in_ten_turns = refl

sum_in_nine_turns : mean_of sums [] 9 ≡
    record { bytes = []; ending = More }
unfolding longest_chain int_wrap
sum_in_nine_turns = refl

steps_of_the_sum : steps_of sums [] 10 ≡ 130
unfolding longest_chain int_wrap digits
steps_of_the_sum = refl

-- the line of an `elsif`
abbrev lines : Program
lines = record {
  name = (name (codes "t") 8);
  decls = ((Vars ((record {
    names = ((name (codes
        "i") 15) ∷ []);
    shape = NoBracket;
    base = Integer;
  }) ∷ [])) ∷ (Defined (record {
    name =
        (name (codes "t") 38);
    params = [];
    result = None;
    locals = [];
    body = (Prefixed 43 []
        (Block (ThenStmt (Prefixed 49 [] (If (ThenArm (Tested 49 (Pair 52 op.Eq (Named 52 (name
        (codes "i") 52)) (Number 56 (pos 1))) (ThenStmt (Prefixed 63 [] (Assign (name (codes "i")
        63) None (Number 68 (pos 2)))) NoStmt)) (ThenArm (Tested 71 (Pair 77 op.Eq (Pair 77 op.Div
        (Number 77 (pos 1)) (Named 81 (name (codes "i") 81))) (Number 85 (pos 2))) (ThenStmt
        (Prefixed 92 [] (Assign (name (codes "i") 92) None (Number 97 (pos 3)))) NoStmt)) NoArm))
        NoElse)) NoStmt)));
  })) ∷ []);
  source = (codes
      "program t;\nvar i : integer;\nprocedure t();\nbegin\nif i = 1 then\ni := 2;\nelsif 1 / i = 2 then\ni := 3;\nend;\nend;\n");
}

at_the_elsif : mean_of lines [] 0 ≡
    record { bytes = []; ending = Trap DivideByZero 7 }
unfolding longest_chain int_wrap
at_the_elsif = refl

-- the line of an `until`
abbrev until_lines : Program
until_lines = record {
  name = (name (codes "t") 8);
  decls = ((Vars ((record {
    names = ((name
        (codes "i") 15) ∷ []);
    shape = NoBracket;
    base = Integer;
  }) ∷ [])) ∷ (Defined (record {
    name
        = (name (codes "t") 38);
    params = [];
    result = None;
    locals = [];
    body = (Prefixed 43 []
        (Block (ThenStmt (Prefixed 49 [] (Repeat (ThenStmt (Prefixed 56 [] (Write false ((Value
        (Named 62 (name (codes "i") 62))) ∷ []))) NoStmt) 66 (Pair 72 op.Eq (Pair 72 op.Div (Number
        72 (pos 1)) (Named 76 (name (codes "i") 76))) (Number 80 (pos 2))))) NoStmt)));
  })) ∷ []);
  source = (codes
      "program t;\nvar i : integer;\nprocedure t();\nbegin\nrepeat\nwrite(i);\nuntil 1 / i = 2;\nend;\n");
}

at_the_until : mean_of until_lines [] 1 ≡
    record { bytes = (codes "0"); ending = Trap DivideByZero 7 }
unfolding longest_chain int_wrap digits
at_the_until = refl

-- the line of the `[` of a prefix
abbrev prefix_lines : Program
prefix_lines = record {
  name = (name (codes "t") 8);
  decls = ((Vars ((record {
    names = ((name
        (codes "i") 15) ∷ []);
    shape = NoBracket;
    base = Integer;
  }) ∷ (record {
    names = ((name
        (codes "A") 28) ∷ []);
    shape = (Bracketed (Dims (ThenDim (Span (Number 33 (pos 1)) (Number
        36 (pos 2))) NoDim)));
    base = Integer;
  }) ∷ [])) ∷ (Defined (record {
    name = (name (codes
        "t") 58);
    params = [];
    result = None;
    locals = [];
    body = (Prefixed 63 [] (Block (ThenStmt
        (Prefixed 80 ((record {
          at = 69;
          region = (Dims (ThenDim (Span (Number 70 (pos 1)) (Pair 73
              op.Div (Number 73 (pos 1)) (Named 77 (name (codes "i") 77)))) NoDim));
          mask = None;
        }) ∷ [])
        (Assign (name (codes "A") 80) None (Number 85 (pos 1)))) NoStmt)));
  })) ∷ []);
  source =
      (codes
      "program t;\nvar i : integer; A : [1..2] integer;\nprocedure t();\nbegin\n[1..1 / i]\nA := 1;\nend;\n");
}

at_the_bracket : mean_of prefix_lines [] 0 ≡
    record { bytes = []; ending = Trap DivideByZero 5 }
unfolding longest_chain int_wrap
at_the_bracket = refl

-- configs, constants and settings
abbrev configs : Program
configs = record {
  name = (name (codes "t") 8);
  decls = ((Config ((record {
    name = (name (codes
        "n") 22);
    base = Integer;
    value = (Number 36 (pos 4));
  }) ∷ [])) ∷ (Constant ((record {
    name
        = (name (codes "c") 48);
    base = Integer;
    value = (Pair 62 op.Mul (Named 62 (name (codes "n")
        62)) (Number 66 (pos 2)));
  }) ∷ [])) ∷ (Vars ((record {
    names = ((name (codes "b") 73) ∷ []);
    shape = NoBracket;
    base = Boolean;
  }) ∷ [])) ∷ (Defined (record {
    name = (name (codes "t")
        96);
    params = [];
    result = None;
    locals = [];
    body = (Prefixed 101 [] (Block (ThenStmt
        (Prefixed 107 [] (Assign (name (codes "b") 107) None (Pair 112 op.Lt (Named 112 (name (codes
        "n") 112)) (Named 116 (name (codes "c") 116))))) (ThenStmt (Prefixed 119 [] (Write true
        ((Value (Named 127 (name (codes "n") 127))) ∷ (Str (codes " ")) ∷ (Value (Named 135 (name
        (codes "c") 135))) ∷ (Str (codes " ")) ∷ (Value (Named 143 (name (codes "b") 143))) ∷ [])))
        NoStmt))));
  })) ∷ []);
  source = (codes
      "program t;\nconfig var n : integer = 4; constant c : integer = n * 2; var b : boolean;\nprocedure t();\nbegin\nb := n < c;\nwriteln(n, \" \", c, \" \", b);\nend;\n");
}

by_default : mean_of configs [] 0 ≡
    record { bytes = (codes "4 8 true\n"); ending = Done }
unfolding longest_chain int_wrap digits
by_default = refl

as_set : mean_of configs (record { name = (codes "n"); value = (codes "-3") } ∷ []) 0 ≡
    record { bytes = (codes "-3 -6 false\n"); ending = Done }
unfolding longest_chain int_wrap digits
as_set = refl

-- calls in calls, with local variables that begin with 0
abbrev answers : Program
answers = record {
  name = (name (codes "t") 8);
  decls = ((Vars ((record {
    names = ((name (codes
        "x") 15) ∷ []);
    shape = NoBracket;
    base = Integer;
  }) ∷ [])) ∷ (Defined (record {
    name =
        (name (codes "fact") 38);
    params = ((record {
      by_ref = false;
      names = ((name (codes "n") 43)
          ∷ []);
      shape = NoBracket;
      base = Integer;
    }) ∷ []);
    result = (Some Integer);
    locals =
        ((record {
          names = ((name (codes "i") 71) ∷ (name (codes "f") 74) ∷ []);
          shape = NoBracket;
          base = Integer;
        }) ∷ []);
    body = (Prefixed 87 [] (Block (ThenStmt (Prefixed 93 [] (Assign
        (name (codes "f") 93) None (Number 98 (pos 1)))) (ThenStmt (Prefixed 101 [] (For (record {
          name = (name (codes "i") 105);
          first = (Number 110 (pos 2));
          down = false;
          last = (Named 115
              (name (codes "n") 115));
          step = None;
        }) (ThenStmt (Prefixed 120 [] (Assign (name (codes "f")
        120) (Some op.Mul) (Named 125 (name (codes "i") 125)))) NoStmt))) (ThenStmt (Prefixed 133 []
        (Return (Named 140 (name (codes "f") 140)))) NoStmt)))));
  })) ∷ (Defined (record {
    name =
        (name (codes "both") 158);
    params = ((record {
      by_ref = false;
      names = ((name (codes "a")
          163) ∷ []);
      shape = NoBracket;
      base = Integer;
    }) ∷ (record {
      by_ref = true;
      names = ((name
          (codes "b") 180) ∷ []);
      shape = NoBracket;
      base = Integer;
    }) ∷ []);
    result = None;
    locals =
        ((record { names = ((name (codes "c") 198) ∷ []); shape = NoBracket; base = Integer }) ∷
        []);
    body = (Prefixed 211 [] (Block (ThenStmt (Prefixed 217 [] (Assign (name (codes "c")
        217) None (Call 222 (name (codes "fact") 222) (ThenExpr (Named 227 (name (codes "a") 227))
        NoExpr)))) (ThenStmt (Prefixed 231 [] (Assign (name (codes "b") 231) None (Call 236 (name
        (codes "fact") 236) (ThenExpr (Named 241 (name (codes "b") 241)) NoExpr)))) (ThenStmt
        (Prefixed 245 [] (Assign (name (codes "b") 245) (Some op.Add) (Named 250 (name (codes "c")
        250)))) NoStmt)))));
  })) ∷ (Defined (record {
    name = (name (codes "t") 268);
    params = [];
    result = None;
    locals = [];
    body = (Prefixed 273 [] (Block (ThenStmt (Prefixed 279 []
        (Assign (name (codes "x") 279) None (Number 284 (pos 3)))) (ThenStmt (Prefixed 287 []
        (Invoke (name (codes "both") 287) (ThenExpr (Number 292 (pos 4)) (ThenExpr (Named 295 (name
        (codes "x") 295)) NoExpr)))) (ThenStmt (Prefixed 299 [] (Write true ((Value (Named 307 (name
        (codes "x") 307))) ∷ []))) NoStmt)))));
  })) ∷ []);
  source = (codes
      "program t;\nvar x : integer; procedure fact(n : integer) : integer; var i, f : integer; begin f := 1; for i := 2 to n do f *= i; end; return f; end; procedure both(a : integer; var b : integer); var c : integer; begin c := fact(a); b := fact(b); b += c; end;\nprocedure t();\nbegin\nx := 3;\nboth(4, x);\nwriteln(x);\nend;\n");
}

calls_in_calls : mean_of answers [] 3 ≡
    record { bytes = (codes "30\n"); ending = Done }
unfolding longest_chain int_wrap digits
calls_in_calls = refl

two_turns_are_few : mean_of answers [] 2 ≡
    record { bytes = []; ending = More }
unfolding longest_chain int_wrap
two_turns_are_few = refl
