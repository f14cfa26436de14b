-- Shattered statements, and loops over arrays.
use Rattle.std.proofs.Common.{◌≡◌, ℕ, true, false, List, [], ◌∷◌, Some, None, pos, codes, refl}
use Rattle.std.specs.Fmt.{digits}
use Rattle.std.specs.Int.{int_wrap}
use Rattle.zpl_binding.specs.of_zpl_nums.declared.operators.Op.TheVariants as op
use Rattle.zpl_binding.specs.of_zpl_nums.declared.folds.Fold.TheVariants as fold
use Rattle.zpl_binding.specs.of_zpl_nums.declared.ends.End.TheVariants.{Done, Trap, More}
use Rattle.zpl_binding.specs.of_zpl_nums.declared.ends.TrapKind.TheVariants.{DivideByZero}
use Rattle.zpl_binding.specs.of_zpl_tree.Syntax.{Name, Number, Truth, Coord, Named, Shifted, Paren, Neg}
use Rattle.zpl_binding.specs.of_zpl_tree.Syntax.{Pair, Reduce, NoExpr, ThenExpr, NamedDir, NamedRegion, Rexpr, Dims}
use Rattle.zpl_binding.specs.of_zpl_tree.Syntax.{NoBracket, Bracketed, NoPost, Span, NoDim, ThenDim, Str, Value}
use Rattle.zpl_binding.specs.of_zpl_tree.Syntax.{Prefixed, NoStmt, ThenStmt, Assign, Block, If, While, Repeat}
use Rattle.zpl_binding.specs.of_zpl_tree.Syntax.{Write, Tested, NoArm, ThenArm, NoElse, Else, Integer, Boolean}
use Rattle.zpl_binding.specs.of_zpl_tree.Syntax.{Config, Regions, Directions, Vars, Defined, Program}
use Rattle.zpl_binding.specs.of_zpl_names.Reached.{longest_chain}
use Rattle.zpl_meaning.specs.Program.{mean_of, steps_of}

abbrev name : List ℕ → ℕ → Name
name text at = record { text = text; at = at }

-- each tuple has its own turns, and the statement ends where all do
abbrev split : Program
split = record {
  name = (name (codes "t") 8);
  decls = ((Config ((record {
    name = (name (codes
        "hold") 22);
    base = Integer;
    value = (Number 39 (pos 0));
  }) ∷ [])) ∷ (Regions ((record {
    name = (name (codes "R") 49);
    body = (Dims (ThenDim (Span (Number 54 (pos 1)) (Number 57
        (pos 5))) NoDim));
    posts = NoPost;
  }) ∷ [])) ∷ (Vars ((record {
    names = ((name (codes "A")
        65) ∷ []);
    shape = (Bracketed (Rexpr [] (NamedRegion (name (codes "R") 70)) NoPost));
    base =
        Integer;
  }) ∷ [])) ∷ (Defined (record {
    name = (name (codes "t") 92);
    params = [];
    result =
        None;
    locals = [];
    body = (Prefixed 97 [] (Block (ThenStmt (Prefixed 103 [] (Write true
        ((Str (codes "start")) ∷ []))) (ThenStmt (Prefixed 125 ((record {
          at = 121;
          region = (Rexpr
              [] (NamedRegion (name (codes "R") 122)) NoPost);
          mask = None;
        }) ∷ []) (Assign (name (codes
        "A") 125) None (Coord 130 1))) (ThenStmt (Prefixed 142 ((record {
          at = 138;
          region = (Rexpr
              [] (NamedRegion (name (codes "R") 139)) NoPost);
          mask = None;
        }) ∷ []) (While (Pair 148 op.Lt
        (Named 148 (name (codes "A") 148)) (Number 152 (pos 4))) (ThenStmt (Prefixed 157 [] (If
        (ThenArm (Tested 157 (Pair 160 op.Ne (Named 160 (name (codes "A") 160)) (Named 165 (name
        (codes "hold") 165))) (ThenStmt (Prefixed 175 [] (Assign (name (codes "A") 175) (Some
        op.Add) (Number 180 (pos 2)))) NoStmt)) NoArm) NoElse)) NoStmt))) (ThenStmt (Prefixed 197
        ((record {
          at = 193;
          region = (Rexpr [] (NamedRegion (name (codes "R") 194)) NoPost);
          mask =
              None;
        }) ∷ []) (Write true ((Value (Named 205 (name (codes "A") 205))) ∷ []))) NoStmt))))));
  })) ∷ []);
  source = (codes
      "program t;\nconfig var hold : integer = 0; region R = [1..5]; var A : [R] integer;\nprocedure t();\nbegin\nwriteln(\"start\");\n[R] A := Index1;\n[R] while A < 4 do if A != hold then A += 2; end; end;\n[R] writeln(A);\nend;\n");
}

each_by_itself : mean_of split [] 2 ≡
    record { bytes = (codes "start\n5 4 5 4 5\n"); ending = Done }
unfolding longest_chain int_wrap digits
each_by_itself = refl

one_goes_on : mean_of split (record { name = (codes "hold"); value = (codes "2") } ∷ []) 3 ≡
    record { bytes = (codes "start\n"); ending = More }
unfolding longest_chain int_wrap
one_goes_on = refl

too_few_turns : mean_of split [] 1 ≡
    record { bytes = (codes "start\n"); ending = More }
unfolding longest_chain int_wrap
too_few_turns = refl

steps_of_a_split : steps_of split [] 2 ≡ 14
unfolding longest_chain int_wrap digits
steps_of_a_split = refl

-- a zero divisor at one tuple traps at the line of the whole statement, and nothing is written
abbrev split_trap : Program
split_trap = record {
  name = (name (codes "t") 8);
  decls = ((Regions ((record {
    name = (name
        (codes "R") 18);
    body = (Dims (ThenDim (Span (Number 23 (pos 1)) (Number 26 (pos 3)))
        NoDim));
    posts = NoPost;
  }) ∷ [])) ∷ (Vars ((record {
    names = ((name (codes "A") 34) ∷ (name
        (codes "B") 37) ∷ []);
    shape = (Bracketed (Rexpr [] (NamedRegion (name (codes "R") 42))
        NoPost));
    base = Integer;
  }) ∷ [])) ∷ (Defined (record {
    name = (name (codes "t") 64);
    params
        = [];
    result = None;
    locals = [];
    body = (Prefixed 73 ((record {
      at = 69;
      region = (Rexpr []
          (NamedRegion (name (codes "R") 70)) NoPost);
      mask = None;
    }) ∷ []) (Block (ThenStmt (Prefixed
        79 [] (Assign (name (codes "A") 79) None (Pair 84 op.Sub (Coord 84 1) (Number 93 (pos 1)))))
        (ThenStmt (Prefixed 96 [] (If (ThenArm (Tested 96 (Pair 99 op.Eq (Named 99 (name (codes "A")
        99)) (Number 103 (pos 0))) (ThenStmt (Prefixed 110 [] (Assign (name (codes "B") 110) None
        (Number 115 (pos 5)))) NoStmt)) (ThenArm (Tested 118 (Pair 124 op.Gt (Pair 124 op.Div
        (Number 124 (pos 6)) (Paren 128 (Pair 129 op.Sub (Named 129 (name (codes "A") 129)) (Number
        133 (pos 1))))) (Number 138 (pos 0))) (ThenStmt (Prefixed 145 [] (Assign (name (codes "B")
        145) None (Number 150 (pos 4)))) NoStmt)) NoArm)) (Else (ThenStmt (Prefixed 158 [] (Assign
        (name (codes "B") 158) None (Number 163 (pos 3)))) NoStmt)))) NoStmt))));
  })) ∷ []);
  source =
      (codes
      "program t;\nregion R = [1..3]; var A, B : [R] integer;\nprocedure t();\n[R] begin\nA := Index1 - 1;\nif A = 0 then B := 5;\nelsif 6 / (A - 1) > 0 then\nB := 4;\nelse B := 3; end;\nend;\n");
}

one_tuple_traps : mean_of split_trap [] 0 ≡
    record { bytes = []; ending = Trap DivideByZero 6 }
unfolding longest_chain int_wrap digits
one_tuple_traps = refl

-- more turns that one tuple wants count before another's trap
abbrev split_more : Program
split_more = record {
  name = (name (codes "t") 8);
  decls = ((Regions ((record {
    name = (name
        (codes "R") 18);
    body = (Dims (ThenDim (Span (Number 23 (pos 1)) (Number 26 (pos 2)))
        NoDim));
    posts = NoPost;
  }) ∷ [])) ∷ (Vars ((record {
    names = ((name (codes "A") 34) ∷ (name
        (codes "B") 37) ∷ []);
    shape = (Bracketed (Rexpr [] (NamedRegion (name (codes "R") 42))
        NoPost));
    base = Integer;
  }) ∷ [])) ∷ (Defined (record {
    name = (name (codes "t") 64);
    params
        = [];
    result = None;
    locals = [];
    body = (Prefixed 69 [] (Block (ThenStmt (Prefixed 79
        ((record {
          at = 75;
          region = (Rexpr [] (NamedRegion (name (codes "R") 76)) NoPost);
          mask =
              None;
        }) ∷ []) (Assign (name (codes "A") 79) None (Pair 84 op.Sub (Coord 84 1) (Number 93
        (pos 1))))) (ThenStmt (Prefixed 100 ((record {
          at = 96;
          region = (Rexpr [] (NamedRegion
              (name (codes "R") 97)) NoPost);
          mask = None;
        }) ∷ []) (While (Pair 106 op.Ne (Named 106 (name
        (codes "A") 106)) (Number 111 (pos 9))) (ThenStmt (Prefixed 116 [] (Assign (name (codes "B")
        116) None (Pair 121 op.Div (Number 121 (pos 1)) (Named 125 (name (codes "A") 125)))))
        NoStmt))) NoStmt))));
  })) ∷ []);
  source = (codes
      "program t;\nregion R = [1..2]; var A, B : [R] integer;\nprocedure t();\nbegin\n[R] A := Index1 - 1;\n[R] while A != 9 do B := 1 / A; end;\nend;\n");
}

more_before_trap : mean_of split_more [] 2 ≡
    record { bytes = []; ending = More }
unfolding longest_chain int_wrap
more_before_trap = refl

-- the mask is read once
abbrev split_mask : Program
split_mask = record {
  name = (name (codes "t") 8);
  decls = ((Regions ((record {
    name = (name
        (codes "R") 18);
    body = (Dims (ThenDim (Span (Number 23 (pos 1)) (Number 26 (pos 4)))
        NoDim));
    posts = NoPost;
  }) ∷ [])) ∷ (Vars ((record {
    names = ((name (codes "A") 34) ∷ (name
        (codes "B") 37) ∷ []);
    shape = (Bracketed (Rexpr [] (NamedRegion (name (codes "R") 42))
        NoPost));
    base = Integer;
  }) ∷ (record {
    names = ((name (codes "M") 54) ∷ []);
    shape =
        (Bracketed (Rexpr [] (NamedRegion (name (codes "R") 59)) NoPost));
    base = Boolean;
  }) ∷ []))
      ∷ (Defined (record {
        name = (name (codes "t") 81);
        params = [];
        result = None;
        locals = [];
        body = (Prefixed 90 ((record {
          at = 86;
          region = (Rexpr [] (NamedRegion (name (codes "R")
              87)) NoPost);
          mask = None;
        }) ∷ []) (Block (ThenStmt (Prefixed 96 [] (Assign (name (codes
            "A") 96) None (Coord 101 1))) (ThenStmt (Prefixed 109 [] (Assign (name (codes "M") 109) None
            (Pair 114 op.Ne (Named 114 (name (codes "A") 114)) (Number 119 (pos 2))))) (ThenStmt
            (Prefixed 133 ((record {
              at = 122;
              region = (Rexpr [] (NamedRegion (name (codes "R") 123))
                  NoPost);
              mask = (Some (record { name = (name (codes "M") 130); without = false }));
            }) ∷ [])
            (Repeat (ThenStmt (Prefixed 140 [] (Assign (name (codes "A") 140) (Some op.Sub) (Number 145
            (pos 1)))) (ThenStmt (Prefixed 148 [] (If (ThenArm (Tested 148 (Pair 151 op.Lt (Named 151
            (name (codes "A") 151)) (Number 155 (pos 2))) (ThenStmt (Prefixed 162 [] (Assign (name
            (codes "M") 162) None (Truth 167 false))) (ThenStmt (Prefixed 174 [] (Assign (name (codes
            "B") 174) None (Pair 179 op.Add (Number 179 (pos 10)) (Named 184 (name (codes "A") 184)))))
            NoStmt))) NoArm) (Else (ThenStmt (Prefixed 192 [] (Block (ThenStmt (Prefixed 198 [] (Assign
            (name (codes "B") 198) (Some op.Add) (Number 203 (pos 1)))) NoStmt))) NoStmt)))) NoStmt))
            216 (Pair 222 op.Lt (Named 222 (name (codes "A") 222)) (Number 226 (pos 2))))) (ThenStmt
            (Prefixed 229 [] (Write true ((Value (Named 237 (name (codes "A") 237))) ∷ (Str (codes " "))
            ∷ (Value (Named 245 (name (codes "B") 245))) ∷ (Str (codes " ")) ∷ (Value (Named 253 (name
            (codes "M") 253))) ∷ []))) NoStmt))))));
      })) ∷ []);
  source = (codes
      "program t;\nregion R = [1..4]; var A, B : [R] integer; M : [R] boolean;\nprocedure t();\n[R] begin\nA := Index1; M := A != 2;\n[R with M] repeat A -= 1; if A < 2 then M := false; B := 10 + A; else begin B += 1; end; end; until A < 2;\nwriteln(A, \" \", B, \" \", M);\nend;\n");
}

mask_read_once : mean_of split_mask [] 3 ≡
    record { bytes = (codes "0 2 1 1 10 0 11 11 false false false false\n"); ending = Done }
unfolding longest_chain int_wrap digits
mask_read_once = refl

-- Jacobi's iteration
abbrev jacobi : Program
jacobi = record {
  name = (name (codes "jacobi") 8);
  decls = ((Config ((record {
    name = (name
        (codes "n") 27);
    base = Integer;
    value = (Number 41 (pos 8));
  }) ∷ (record {
    name = (name
        (codes "delta") 55);
    base = Integer;
    value = (Number 73 (pos 100));
  }) ∷ [])) ∷ (Regions
      ((record {
        name = (name (codes "R") 85);
        body = (Dims (ThenDim (Span (Number 90 (pos 1))
            (Named 93 (name (codes "n") 93))) (ThenDim (Span (Number 96 (pos 1)) (Named 99 (name (codes
            "n") 99))) NoDim)));
        posts = NoPost;
      }) ∷ [])) ∷ (Directions ((record {
        name = (name (codes
            "north") 113);
        parts = (ThenExpr (Neg 122 (Number 123 (pos 1))) (ThenExpr (Number 126 (pos
            0)) NoExpr));
      }) ∷ (record {
        name = (name (codes "south") 130);
        parts = (ThenExpr (Number 139
            (pos 1)) (ThenExpr (Number 142 (pos 0)) NoExpr));
      }) ∷ (record {
        name = (name (codes "west")
            156);
        parts = (ThenExpr (Number 164 (pos 0)) (ThenExpr (Neg 167 (Number 168 (pos 1)))
            NoExpr));
      }) ∷ (record {
        name = (name (codes "east") 172);
        parts = (ThenExpr (Number 180 (pos
            0)) (ThenExpr (Number 183 (pos 1)) NoExpr));
      }) ∷ [])) ∷ (Vars ((record {
        names = ((name
            (codes "A") 191) ∷ (name (codes "T") 194) ∷ []);
        shape = (Bracketed (Rexpr [] (NamedRegion
            (name (codes "R") 199)) NoPost));
        base = Integer;
      }) ∷ (record {
        names = ((name (codes "err")
            215) ∷ (name (codes "turns") 220) ∷ []);
        shape = NoBracket;
        base = Integer;
      }) ∷ [])) ∷
      (Defined (record {
        name = (name (codes "jacobi") 247);
        params = [];
        result = None;
        locals =
            [];
        body = (Prefixed 261 ((record {
          at = 257;
          region = (Rexpr [] (NamedRegion (name (codes
              "R") 258)) NoPost);
          mask = None;
        }) ∷ []) (Block (ThenStmt (Prefixed 282 ((record {
          at = 269;
          region = (Rexpr ((record { dir = (name (codes "north") 270); outside = true }) ∷ [])
              (NamedRegion (name (codes "R") 279)) NoPost);
          mask = None;
        }) ∷ []) (Assign (name (codes "A")
            282) None (Number 287 (pos 0)))) (ThenStmt (Prefixed 304 ((record {
              at = 292;
              region =
                  (Rexpr ((record { dir = (name (codes "west") 293); outside = true }) ∷ []) (NamedRegion
                  (name (codes "R") 301)) NoPost);
              mask = None;
            }) ∷ []) (Assign (name (codes "A") 304) None
            (Number 309 (pos 0)))) (ThenStmt (Prefixed 326 ((record {
              at = 314;
              region = (Rexpr ((record
                  { dir = (name (codes "east") 315); outside = true }) ∷ []) (NamedRegion (name (codes "R")
                  323)) NoPost);
              mask = None;
            }) ∷ []) (Assign (name (codes "A") 326) None (Number 331 (pos
            0)))) (ThenStmt (Prefixed 349 ((record {
              at = 336;
              region = (Rexpr ((record {
                dir = (name
                    (codes "south") 337);
                outside = true;
              }) ∷ []) (NamedRegion (name (codes "R") 346)) NoPost);
              mask = None;
            }) ∷ []) (Assign (name (codes "A") 349) None (Number 354 (pos 1000)))) (ThenStmt
            (Prefixed 362 [] (Repeat (ThenStmt (Prefixed 373 [] (Assign (name (codes "T") 373) None
            (Pair 378 op.Div (Paren 378 (Pair 379 op.Add (Pair 379 op.Add (Pair 379 op.Add (Shifted 379
            (name (codes "A") 379) (NamedDir (name (codes "north") 381))) (Shifted 389 (name (codes "A")
            389) (NamedDir (name (codes "south") 391)))) (Shifted 399 (name (codes "A") 399) (NamedDir
            (name (codes "west") 401)))) (Shifted 408 (name (codes "A") 408) (NamedDir (name (codes
            "east") 410))))) (Number 418 (pos 4))))) (ThenStmt (Prefixed 425 [] (Assign (name (codes
            "err") 425) None (Reduce 432 fold.Max NoBracket (Pair 437 op.Max (Pair 441 op.Sub (Named 441
            (name (codes "A") 441)) (Named 445 (name (codes "T") 445))) (Pair 448 op.Sub (Named 448
            (name (codes "T") 448)) (Named 452 (name (codes "A") 452))))))) (ThenStmt (Prefixed 460 []
            (Assign (name (codes "A") 460) None (Named 465 (name (codes "T") 465)))) (ThenStmt (Prefixed
            472 [] (Assign (name (codes "turns") 472) (Some op.Add) (Number 481 (pos 1)))) NoStmt))))
            486 (Pair 492 op.Lt (Named 492 (name (codes "err") 492)) (Named 498 (name (codes "delta")
            498))))) (ThenStmt (Prefixed 507 [] (Write true ((Str (codes "turns ")) ∷ (Value (Named 525
            (name (codes "turns") 525))) ∷ (Str (codes ", change ")) ∷ (Value (Named 545 (name (codes
            "err") 545))) ∷ []))) (ThenStmt (Prefixed 553 [] (Write false ((Value (Named 559 (name
            (codes "A") 559))) ∷ []))) NoStmt)))))))));
      })) ∷ []);
  source = (codes
      "program jacobi;\nconfig var n : integer = 8;\n           delta : integer = 100;\nregion R = [1..n, 1..n];\ndirection north = [-1, 0]; south = [1, 0];\n          west = [0, -1]; east = [0, 1];\nvar A, T : [R] integer;\n    err, turns : integer;\nprocedure jacobi();\n[R] begin\n  [north of R] A := 0;\n  [west of R] A := 0;\n  [east of R] A := 0;\n  [south of R] A := 1000;\n  repeat\n    T := (A@north + A@south + A@west + A@east) / 4;\n    err := max<<max(A - T, T - A);\n    A := T;\n    turns += 1;\n  until err < delta;\n  writeln(\"turns \", turns, \", change \", err);\n  write(A);\nend;\n");
}

small_jacobi : mean_of jacobi (record { name = (codes "n"); value = (codes "2") } ∷ record { name = (codes "delta"); value = (codes "1") } ∷ []) 9 ≡
    record { bytes = (codes "turns 9, change 0\n124 124\n374 374\n"); ending = Done }
unfolding longest_chain int_wrap digits
small_jacobi = refl
