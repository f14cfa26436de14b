-- Programs of arrays: assignments, shifts, borders, masks, prints, traps.
use Rattle.std.proofs.Common.{◌≡◌, ℕ, true, false, List, [], ◌∷◌, Some, None, pos, codes, refl}
use Rattle.std.specs.Fmt.{digits}
use Rattle.std.specs.Int.{int_wrap}
use Rattle.zpl_binding.specs.of_zpl_nums.declared.operators.Op.TheVariants as op
use Rattle.zpl_binding.specs.of_zpl_nums.declared.ends.Border.TheVariants as border
use Rattle.zpl_binding.specs.of_zpl_nums.declared.ends.End.TheVariants.{Done, Trap}
use Rattle.zpl_binding.specs.of_zpl_nums.declared.ends.TrapKind.TheVariants.{DivideByZero, OutsideStorage, RegionMismatch}
use Rattle.zpl_binding.specs.of_zpl_tree.Syntax.{Name, Number, Coord, Named, Shifted, Neg, Pair, NoExpr}
use Rattle.zpl_binding.specs.of_zpl_tree.Syntax.{ThenExpr, NamedDir, Vector, NamedRegion, Ditto, Rexpr, Dims, NoBracket}
use Rattle.zpl_binding.specs.of_zpl_tree.Syntax.{Bracketed, NoPost, ThenPost, Blank, One, Span, NoDim, ThenDim}
use Rattle.zpl_binding.specs.of_zpl_tree.Syntax.{Str, Value, Prefixed, NoStmt, ThenStmt, Assign, Invoke, Block}
use Rattle.zpl_binding.specs.of_zpl_tree.Syntax.{Border, Write, Integer, Boolean, Regions, Directions, Vars, Defined}
use Rattle.zpl_binding.specs.of_zpl_tree.Syntax.{Program}
use Rattle.zpl_binding.specs.of_zpl_names.Reached.{longest_chain}
use Rattle.zpl_meaning.specs.Program.{mean_of}

abbrev name : List ℕ → ℕ → Name
name text at = record { text = text; at = at }

-- of two statements that would trap the earlier one does
abbrev order_of_traps : Program
order_of_traps = record {
  name = (name (codes "t") 8);
  decls = ((Regions ((record {
    name = (name
        (codes "R") 18);
    body = (Dims (ThenDim (Span (Number 23 (pos 1)) (Number 26 (pos 4)))
        NoDim));
    posts = NoPost;
  }) ∷ [])) ∷ (Directions ((record {
    name = (name (codes "east") 40);
    parts = (ThenExpr (Number 48 (pos 1)) NoExpr);
  }) ∷ [])) ∷ (Vars ((record {
    names = ((name
        (codes "A") 56) ∷ (name (codes "B") 59) ∷ []);
    shape = (Bracketed (Rexpr [] (NamedRegion
        (name (codes "R") 64)) NoPost));
    base = Integer;
  }) ∷ [])) ∷ (Defined (record {
    name = (name
        (codes "t") 86);
    params = [];
    result = None;
    locals = [];
    body = (Prefixed 91 [] (Block
        (ThenStmt (Prefixed 101 ((record {
          at = 97;
          region = (Rexpr [] (NamedRegion (name (codes
              "R") 98)) NoPost);
          mask = None;
        }) ∷ []) (Assign (name (codes "A") 101) None (Pair 106 op.Div
        (Number 106 (pos 1)) (Named 110 (name (codes "A") 110))))) (ThenStmt (Prefixed 117 ((record
        { at = 113; region = (Rexpr [] (NamedRegion (name (codes "R") 114)) NoPost); mask = None })
        ∷ []) (Assign (name (codes "B") 117) None (Shifted 122 (name (codes "A") 122) (NamedDir
        (name (codes "east") 124))))) NoStmt))));
  })) ∷ []);
  source = (codes
      "program t;\nregion R = [1..4]; direction east = [1]; var A, B : [R] integer;\nprocedure t();\nbegin\n[R] A := 1 / A;\n[R] B := A@east;\nend;\n");
}

earlier_trap : mean_of order_of_traps [] 0 ≡
    record { bytes = []; ending = Trap DivideByZero 5 }
unfolding longest_chain int_wrap
earlier_trap = refl

-- a reference outside the storage
abbrev outside : Program
outside = record {
  name = (name (codes "t") 8);
  decls = ((Regions ((record {
    name = (name (codes
        "R") 18);
    body = (Dims (ThenDim (Span (Number 23 (pos 1)) (Number 26 (pos 4))) NoDim));
    posts = NoPost;
  }) ∷ [])) ∷ (Directions ((record {
    name = (name (codes "east") 40);
    parts =
        (ThenExpr (Number 48 (pos 1)) NoExpr);
  }) ∷ [])) ∷ (Vars ((record {
    names = ((name (codes
        "A") 56) ∷ (name (codes "B") 59) ∷ []);
    shape = (Bracketed (Rexpr [] (NamedRegion (name
        (codes "R") 64)) NoPost));
    base = Integer;
  }) ∷ [])) ∷ (Defined (record {
    name = (name (codes
        "t") 86);
    params = [];
    result = None;
    locals = [];
    body = (Prefixed 91 [] (Block (ThenStmt
        (Prefixed 101 ((record {
          at = 97;
          region = (Rexpr [] (NamedRegion (name (codes "R") 98))
              NoPost);
          mask = None;
        }) ∷ []) (Assign (name (codes "B") 101) None (Shifted 106 (name (codes
        "A") 106) (NamedDir (name (codes "east") 108))))) NoStmt)));
  })) ∷ []);
  source = (codes
      "program t;\nregion R = [1..4]; direction east = [1]; var A, B : [R] integer;\nprocedure t();\nbegin\n[R] B := A@east;\nend;\n");
}

outside_traps : mean_of outside [] 0 ≡
    record { bytes = []; ending = Trap OutsideStorage 5 }
unfolding longest_chain int_wrap
outside_traps = refl

-- a divisor that is 0 at one tuple
abbrev zero : Program
zero = record {
  name = (name (codes "t") 8);
  decls = ((Regions ((record {
    name = (name (codes
        "R") 18);
    body = (Dims (ThenDim (Span (Number 23 (pos 1)) (Number 26 (pos 4))) NoDim));
    posts = NoPost;
  }) ∷ [])) ∷ (Vars ((record {
    names = ((name (codes "A") 34) ∷ (name (codes
        "B") 37) ∷ []);
    shape = (Bracketed (Rexpr [] (NamedRegion (name (codes "R") 42)) NoPost));
    base = Integer;
  }) ∷ [])) ∷ (Defined (record {
    name = (name (codes "t") 64);
    params = [];
    result = None;
    locals = [];
    body = (Prefixed 69 [] (Block (ThenStmt (Prefixed 79 ((record {
      at = 75;
      region = (Rexpr [] (NamedRegion (name (codes "R") 76)) NoPost);
      mask = None;
    }) ∷
        []) (Assign (name (codes "A") 79) None (Pair 84 op.Sub (Coord 84 1) (Number 93 (pos 3)))))
        (ThenStmt (Prefixed 100 ((record {
          at = 96;
          region = (Rexpr [] (NamedRegion (name (codes
              "R") 97)) NoPost);
          mask = None;
        }) ∷ []) (Assign (name (codes "B") 100) None (Pair 105 op.Div
        (Number 105 (pos 12)) (Named 110 (name (codes "A") 110))))) (ThenStmt (Prefixed 113 []
        (Write true ((Str (codes "done")) ∷ []))) NoStmt)))));
  })) ∷ []);
  source = (codes
      "program t;\nregion R = [1..4]; var A, B : [R] integer;\nprocedure t();\nbegin\n[R] A := Index1 - 3;\n[R] B := 12 / A;\nwriteln(\"done\");\nend;\n");
}

one_zero_divisor : mean_of zero [] 0 ≡
    record { bytes = []; ending = Trap DivideByZero 6 }
unfolding longest_chain int_wrap
one_zero_divisor = refl

-- all values are computed before one is written
abbrev itself : Program
itself = record {
  name = (name (codes "t") 8);
  decls = ((Regions ((record {
    name = (name (codes
        "R") 18);
    body = (Dims (ThenDim (Span (Number 23 (pos 1)) (Number 26 (pos 4))) NoDim));
    posts = NoPost;
  }) ∷ [])) ∷ (Directions ((record {
    name = (name (codes "west") 40);
    parts =
        (ThenExpr (Neg 48 (Number 49 (pos 1))) NoExpr);
  }) ∷ [])) ∷ (Vars ((record {
    names = ((name
        (codes "A") 57) ∷ []);
    shape = (Bracketed (Rexpr [] (NamedRegion (name (codes "R") 62))
        NoPost));
    base = Integer;
  }) ∷ [])) ∷ (Defined (record {
    name = (name (codes "t") 84);
    params
        = [];
    result = None;
    locals = [];
    body = (Prefixed 89 [] (Block (ThenStmt (Prefixed 99
        ((record {
          at = 95;
          region = (Rexpr [] (NamedRegion (name (codes "R") 96)) NoPost);
          mask =
              None;
        }) ∷ []) (Assign (name (codes "A") 99) None (Coord 104 1))) (ThenStmt (Prefixed 119
        ((record {
          at = 112;
          region = (Dims (ThenDim (Span (Number 113 (pos 2)) (Number 116 (pos
              4))) NoDim));
          mask = None;
        }) ∷ []) (Assign (name (codes "A") 119) None (Shifted 124 (name
        (codes "A") 124) (NamedDir (name (codes "west") 126))))) (ThenStmt (Prefixed 136 ((record {
          at = 132;
          region = (Rexpr [] (NamedRegion (name (codes "R") 133)) NoPost);
          mask = None;
        }) ∷
        []) (Write true ((Value (Named 144 (name (codes "A") 144))) ∷ []))) NoStmt)))));
  })) ∷ []);
  source = (codes
      "program t;\nregion R = [1..4]; direction west = [-1]; var A : [R] integer;\nprocedure t();\nbegin\n[R] A := Index1;\n[2..4] A := A@west;\n[R] writeln(A);\nend;\n");
}

reads_before_writes : mean_of itself [] 0 ≡
    record { bytes = (codes "1 1 2 3\n"); ending = Done }
unfolding longest_chain int_wrap digits
reads_before_writes = refl

-- borders
abbrev edges : Program
edges = record {
  name = (name (codes "t") 8);
  decls = ((Regions ((record {
    name = (name (codes
        "R") 18);
    body = (Dims (ThenDim (Span (Number 23 (pos 1)) (Number 26 (pos 3))) NoDim));
    posts = NoPost;
  }) ∷ [])) ∷ (Directions ((record {
    name = (name (codes "d") 40);
    parts =
        (ThenExpr (Number 45 (pos 3)) NoExpr);
  }) ∷ (record {
    name = (name (codes "e") 49);
    parts =
        (ThenExpr (Neg 54 (Number 55 (pos 3))) NoExpr);
  }) ∷ (record {
    name = (name (codes "w") 59);
    parts = (ThenExpr (Number 64 (pos 4)) NoExpr);
  }) ∷ [])) ∷ (Vars ((record {
    names = ((name
        (codes "A") 72) ∷ []);
    shape = (Bracketed (Rexpr [] (NamedRegion (name (codes "R") 77))
        NoPost));
    base = Integer;
  }) ∷ [])) ∷ (Defined (record {
    name = (name (codes "t") 99);
    params
        = [];
    result = None;
    locals = [];
    body = (Prefixed 104 [] (Block (ThenStmt (Prefixed 114
        ((record {
          at = 110;
          region = (Rexpr [] (NamedRegion (name (codes "R") 111)) NoPost);
          mask =
              None;
        }) ∷ []) (Assign (name (codes "A") 114) None (Coord 119 1))) (ThenStmt (Prefixed 136
        ((record {
          at = 127;
          region = (Rexpr ((record {
            dir = (name (codes "d") 128);
            outside = true;
          }) ∷ []) (NamedRegion (name (codes "R") 133)) NoPost);
          mask = None;
        }) ∷ []) (Border
        border.Wrap ((name (codes "A") 141) ∷ []))) (ThenStmt (Prefixed 153 ((record {
          at = 144;
          region = (Rexpr ((record { dir = (name (codes "e") 145); outside = true }) ∷ [])
              (NamedRegion (name (codes "R") 150)) NoPost);
          mask = None;
        }) ∷ []) (Border border.Reflect
        ((name (codes "A") 161) ∷ []))) (ThenStmt (Prefixed 172 ((record {
          at = 164;
          region = (Dims
              (ThenDim (Span (Neg 165 (Number 166 (pos 2))) (Number 169 (pos 6))) NoDim));
          mask = None;
        })
        ∷ []) (Write true ((Value (Named 180 (name (codes "A") 180))) ∷ []))) (ThenStmt (Prefixed
        193 ((record {
          at = 184;
          region = (Rexpr ((record {
            dir = (name (codes "w") 185);
            outside =
                true;
          }) ∷ []) (NamedRegion (name (codes "R") 190)) NoPost);
          mask = None;
        }) ∷ []) (Border
        border.Wrap ((name (codes "A") 198) ∷ []))) NoStmt)))))));
  })) ∷ []);
  source = (codes
      "program t;\nregion R = [1..3]; direction d = [3]; e = [-3]; w = [4]; var A : [R] integer;\nprocedure t();\nbegin\n[R] A := Index1;\n[d of R] wrap A;\n[e of R] reflect A;\n[-2..6] writeln(A);\n[w of R] wrap A;\nend;\n");
}

wraps_and_reflects : mean_of edges [] 0 ≡
    record { bytes = (codes "3 2 1 1 2 3 1 2 3\n"); ending = Trap RegionMismatch 9 }
unfolding longest_chain int_wrap digits
wraps_and_reflects = refl

-- a border of the current region, of two arrays
abbrev two_borders : Program
two_borders = record {
  name = (name (codes "t") 8);
  decls = ((Regions ((record {
    name = (name
        (codes "R") 18);
    body = (Dims (ThenDim (Span (Number 23 (pos 1)) (Number 26 (pos 3)))
        NoDim));
    posts = NoPost;
  }) ∷ [])) ∷ (Directions ((record {
    name = (name (codes "d") 40);
    parts = (ThenExpr (Number 45 (pos 1)) NoExpr);
  }) ∷ [])) ∷ (Vars ((record {
    names = ((name
        (codes "A") 53) ∷ (name (codes "B") 56) ∷ []);
    shape = (Bracketed (Dims (ThenDim (Span
        (Number 61 (pos 1)) (Number 64 (pos 4))) NoDim)));
    base = Integer;
  }) ∷ [])) ∷ (Defined
      (record {
        name = (name (codes "t") 86);
        params = [];
        result = None;
        locals = [];
        body =
            (Prefixed 91 [] (Block (ThenStmt (Prefixed 101 ((record {
              at = 97;
              region = (Rexpr []
                  (NamedRegion (name (codes "R") 98)) NoPost);
              mask = None;
            }) ∷ []) (Assign (name (codes "A")
            101) None (Coord 106 1))) (ThenStmt (Prefixed 118 ((record {
              at = 114;
              region = (Rexpr []
                  (NamedRegion (name (codes "R") 115)) NoPost);
              mask = None;
            }) ∷ []) (Assign (name (codes "B")
            118) None (Pair 123 op.Mul (Number 123 (pos 10)) (Coord 128 1)))) (ThenStmt (Prefixed 149
            ((record {
              at = 136;
              region = (Rexpr [] (NamedRegion (name (codes "R") 137)) NoPost);
              mask =
                  None;
            }) ∷ (record {
              at = 140;
              region = (Rexpr ((record {
                dir = (name (codes "d") 141);
                outside = true;
              }) ∷ []) (Ditto 146) NoPost);
              mask = None;
            }) ∷ []) (Border border.Wrap ((name
            (codes "A") 154) ∷ (name (codes "B") 157) ∷ []))) (ThenStmt (Prefixed 167 ((record {
              at =
                  160;
              region = (Dims (ThenDim (Span (Number 161 (pos 1)) (Number 164 (pos 4))) NoDim));
              mask
                  = None;
            }) ∷ []) (Write true ((Value (Named 175 (name (codes "A") 175))) ∷ (Str (codes " "))
            ∷ (Value (Named 183 (name (codes "B") 183))) ∷ []))) NoStmt))))));
      })) ∷ []);
  source = (codes
      "program t;\nregion R = [1..3]; direction d = [1]; var A, B : [1..4] integer;\nprocedure t();\nbegin\n[R] A := Index1;\n[R] B := 10 * Index1;\n[R] [d of \"] wrap A, B;\n[1..4] writeln(A, \" \", B);\nend;\n");
}

wraps_two : mean_of two_borders [] 0 ≡
    record { bytes = (codes "1 2 3 1 10 20 30 10\n"); ending = Done }
unfolding longest_chain int_wrap digits
wraps_two = refl

-- blanks and dittos
abbrev blanks_and_dittos : Program
blanks_and_dittos = record {
  name = (name (codes "t") 8);
  decls = ((Regions ((record {
    name =
        (name (codes "R") 18);
    body = (Dims (ThenDim (Span (Number 23 (pos 1)) (Number 26 (pos 2)))
        (ThenDim (Span (Number 29 (pos 1)) (Number 32 (pos 3))) NoDim)));
    posts = NoPost;
  }) ∷ [])) ∷
      (Directions ((record {
        name = (name (codes "e") 46);
        parts = (ThenExpr (Number 51 (pos 0))
            (ThenExpr (Number 54 (pos 1)) NoExpr));
      }) ∷ [])) ∷ (Vars ((record {
        names = ((name (codes
            "A") 62) ∷ []);
        shape = (Bracketed (Rexpr [] (NamedRegion (name (codes "R") 67)) NoPost));
        base = Integer;
      }) ∷ [])) ∷ (Defined (record {
        name = (name (codes "t") 89);
        params = [];
        result = None;
        locals = [];
        body = (Prefixed 94 [] (Block (ThenStmt (Prefixed 104 ((record {
          at = 100;
          region = (Rexpr [] (NamedRegion (name (codes "R") 101)) NoPost);
          mask = None;
        }) ∷
            []) (Assign (name (codes "A") 104) None (Pair 109 op.Add (Pair 109 op.Mul (Number 109 (pos
            10)) (Coord 114 1)) (Coord 123 2)))) (ThenStmt (Prefixed 142 ((record {
              at = 131;
              region =
                  (Rexpr [] (NamedRegion (name (codes "R") 132)) NoPost);
              mask = None;
            }) ∷ (record {
              at = 135;
              region = (Dims (ThenDim (Blank 137) (ThenDim (One (Number 139 (pos 2))) NoDim)));
              mask =
                  None;
            }) ∷ []) (Write false ((Value (Named 148 (name (codes "A") 148))) ∷ []))) (ThenStmt
            (Prefixed 165 ((record {
              at = 152;
              region = (Rexpr [] (NamedRegion (name (codes "R") 153))
                  NoPost);
              mask = None;
            }) ∷ (record {
              at = 156;
              region = (Rexpr ((record {
                dir = (name (codes
                    "e") 157);
                outside = false;
              }) ∷ []) (Ditto 162) NoPost);
              mask = None;
            }) ∷ []) (Write false
            ((Value (Named 171 (name (codes "A") 171))) ∷ []))) (ThenStmt (Prefixed 204 ((record {
              at =
                  175;
              region = (Rexpr [] (NamedRegion (name (codes "R") 176)) NoPost);
              mask = None;
            }) ∷
            (record {
              at = 179;
              region = (Rexpr [] (Ditto 180) (ThenPost false (Vector (ThenExpr (Number
                  186 (pos 0)) (ThenExpr (Neg 189 (Number 190 (pos 1))) NoExpr))) NoPost));
              mask = None;
            }) ∷
            (record {
              at = 194;
              region = (Dims (ThenDim (Blank 196) (ThenDim (Span (Number 198 (pos 1))
                  (Number 201 (pos 2))) NoDim)));
              mask = None;
            }) ∷ []) (Write false ((Value (Shifted 210 (name
            (codes "A") 210) (NamedDir (name (codes "e") 212)))) ∷ []))) NoStmt))))));
      })) ∷ []);
  source
      = (codes
      "program t;\nregion R = [1..2, 1..3]; direction e = [0, 1]; var A : [R] integer;\nprocedure t();\nbegin\n[R] A := 10 * Index1 + Index2;\n[R] [ , 2] write(A);\n[R] [e in \"] write(A);\n[R] [\" at [0, -1]] [ , 1..2] write(A@e);\nend;\n");
}

parts_of_a_region : mean_of blanks_and_dittos [] 0 ≡
    record { bytes = (codes "12\n22\n13\n23\n12 13\n22 23\n"); ending = Done }
unfolding longest_chain int_wrap digits
parts_of_a_region = refl

-- nothing is computed at a tuple that is masked out
abbrev masks : Program
masks = record {
  name = (name (codes "t") 8);
  decls = ((Regions ((record {
    name = (name (codes
        "R") 18);
    body = (Dims (ThenDim (Span (Number 23 (pos 1)) (Number 26 (pos 4))) NoDim));
    posts = NoPost;
  }) ∷ [])) ∷ (Vars ((record {
    names = ((name (codes "A") 34) ∷ (name (codes
        "B") 37) ∷ []);
    shape = (Bracketed (Rexpr [] (NamedRegion (name (codes "R") 42)) NoPost));
    base = Integer;
  }) ∷ (record {
    names = ((name (codes "M") 54) ∷ []);
    shape = (Bracketed
        (Rexpr [] (NamedRegion (name (codes "R") 59)) NoPost));
    base = Boolean;
  }) ∷ [])) ∷ (Defined
      (record {
        name = (name (codes "t") 81);
        params = [];
        result = None;
        locals = [];
        body =
            (Prefixed 86 [] (Block (ThenStmt (Prefixed 96 ((record {
              at = 92;
              region = (Rexpr []
                  (NamedRegion (name (codes "R") 93)) NoPost);
              mask = None;
            }) ∷ []) (Assign (name (codes "A")
            96) None (Pair 101 op.Sub (Coord 101 1) (Number 110 (pos 2))))) (ThenStmt (Prefixed 117
            ((record {
              at = 113;
              region = (Rexpr [] (NamedRegion (name (codes "R") 114)) NoPost);
              mask =
                  None;
            }) ∷ []) (Assign (name (codes "M") 117) None (Pair 122 op.Ne (Named 122 (name (codes
            "A") 122)) (Number 127 (pos 0))))) (ThenStmt (Prefixed 141 ((record {
              at = 130;
              region =
                  (Rexpr [] (NamedRegion (name (codes "R") 131)) NoPost);
              mask = (Some (record {
                name = (name
                    (codes "M") 138);
                without = false;
              }));
            }) ∷ []) (Assign (name (codes "B") 141) None (Pair 146
            op.Div (Number 146 (pos 6)) (Named 150 (name (codes "A") 150))))) (ThenStmt (Prefixed 157
            ((record {
              at = 153;
              region = (Rexpr [] (NamedRegion (name (codes "R") 154)) NoPost);
              mask =
                  None;
            }) ∷ []) (Write true ((Value (Named 165 (name (codes "B") 165))) ∷ []))) (ThenStmt
            (Prefixed 183 ((record {
              at = 169;
              region = (Rexpr [] (NamedRegion (name (codes "R") 170))
                  NoPost);
              mask = (Some (record { name = (name (codes "M") 180); without = true }));
            }) ∷ [])
            (Assign (name (codes "B") 183) None (Number 188 (pos 7)))) (ThenStmt (Prefixed 195 ((record
            { at = 191; region = (Rexpr [] (NamedRegion (name (codes "R") 192)) NoPost); mask = None })
            ∷ []) (Write true ((Value (Named 203 (name (codes "B") 203))) ∷ (Str (codes " ")) ∷ (Value
            (Named 211 (name (codes "M") 211))) ∷ []))) NoStmt))))))));
      })) ∷ []);
  source = (codes
      "program t;\nregion R = [1..4]; var A, B : [R] integer; M : [R] boolean;\nprocedure t();\nbegin\n[R] A := Index1 - 2;\n[R] M := A != 0;\n[R with M] B := 6 / A;\n[R] writeln(B);\n[R without M] B := 7;\n[R] writeln(B, \" \", M);\nend;\n");
}

masked_out : mean_of masks [] 0 ≡
    record { bytes = (codes "-6 0 6 3\n-6 7 6 3 true false true true\n"); ending = Done }
unfolding longest_chain int_wrap digits
masked_out = refl

-- a print of rank 3
abbrev planes : Program
planes = record {
  name = (name (codes "t") 8);
  decls = ((Regions ((record {
    name = (name (codes
        "R") 18);
    body = (Dims (ThenDim (Span (Number 23 (pos 1)) (Number 26 (pos 2))) (ThenDim
        (Span (Number 29 (pos 1)) (Number 32 (pos 2))) (ThenDim (Span (Number 35 (pos 1)) (Number 38
        (pos 2))) NoDim))));
    posts = NoPost;
  }) ∷ [])) ∷ (Defined (record {
    name = (name (codes "t")
        52);
    params = [];
    result = None;
    locals = [];
    body = (Prefixed 57 [] (Block (ThenStmt
        (Prefixed 67 ((record {
          at = 63;
          region = (Rexpr [] (NamedRegion (name (codes "R") 64))
              NoPost);
          mask = None;
        }) ∷ []) (Write false ((Value (Pair 73 op.Add (Pair 73 op.Add (Pair 73
        op.Mul (Coord 73 1) (Number 82 (pos 4))) (Pair 86 op.Mul (Coord 86 2) (Number 95 (pos 2))))
        (Coord 99 3))) ∷ []))) NoStmt)));
  })) ∷ []);
  source = (codes
      "program t;\nregion R = [1..2, 1..2, 1..2];\nprocedure t();\nbegin\n[R] write(Index1 * 4 + Index2 * 2 + Index3);\nend;\n");
}

prints_planes : mean_of planes [] 0 ≡
    record { bytes = (codes "7 8\n9 10\n\n11 12\n13 14\n\n"); ending = Done }
unfolding longest_chain int_wrap digits
prints_planes = refl

-- a shift
abbrev far : Program
far = record {
  name = (name (codes "t") 8);
  decls = ((Regions ((record {
    name = (name (codes
        "R") 18);
    body = (Dims (ThenDim (Span (Number 23 (pos 1)) (Number 26 (pos 16))) NoDim));
    posts = NoPost;
  }) ∷ (record {
    name = (name (codes "S") 31);
    body = (Dims (ThenDim (Span
        (Number 36 (pos 1)) (Number 39 (pos 9))) NoDim));
    posts = NoPost;
  }) ∷ [])) ∷ (Directions
      ((record { name = (name (codes "d") 53); parts = (ThenExpr (Number 58 (pos 7)) NoExpr) }) ∷
      [])) ∷ (Vars ((record {
        names = ((name (codes "A") 66) ∷ (name (codes "B") 69) ∷ []);
        shape
            = (Bracketed (Rexpr [] (NamedRegion (name (codes "R") 74)) NoPost));
        base = Integer;
      }) ∷
      [])) ∷ (Defined (record {
        name = (name (codes "t") 96);
        params = [];
        result = None;
        locals =
            [];
        body = (Prefixed 101 [] (Block (ThenStmt (Prefixed 111 ((record {
          at = 107;
          region =
              (Rexpr [] (NamedRegion (name (codes "R") 108)) NoPost);
          mask = None;
        }) ∷ []) (Assign (name
            (codes "A") 111) None (Coord 116 1))) (ThenStmt (Prefixed 128 ((record {
              at = 124;
              region =
                  (Rexpr [] (NamedRegion (name (codes "S") 125)) NoPost);
              mask = None;
            }) ∷ []) (Assign (name
            (codes "B") 128) None (Shifted 133 (name (codes "A") 133) (NamedDir (name (codes "d")
            135))))) (ThenStmt (Prefixed 142 ((record {
              at = 138;
              region = (Rexpr [] (NamedRegion (name
                  (codes "S") 139)) NoPost);
              mask = None;
            }) ∷ []) (Write true ((Value (Named 150 (name (codes
            "B") 150))) ∷ []))) NoStmt)))));
      })) ∷ []);
  source = (codes
      "program t;\nregion R = [1..16]; S = [1..9]; direction d = [7]; var A, B : [R] integer;\nprocedure t();\nbegin\n[R] A := Index1;\n[S] B := A@d;\n[S] writeln(B);\nend;\n");
}

shifts : mean_of far [] 0 ≡
    record { bytes = (codes "8 9 10 11 12 13 14 15 16\n"); ending = Done }
unfolding longest_chain int_wrap digits
shifts = refl

-- a `var` array, a copy, a local array that begins with 0, and an inherited region
abbrev arrays_handed : Program
arrays_handed = record {
  name = (name (codes "t") 8);
  decls = ((Regions ((record {
    name = (name
        (codes "R") 18);
    body = (Dims (ThenDim (Span (Number 23 (pos 1)) (Number 26 (pos 3)))
        NoDim));
    posts = NoPost;
  }) ∷ [])) ∷ (Vars ((record {
    names = ((name (codes "A") 34) ∷ (name
        (codes "B") 37) ∷ []);
    shape = (Bracketed (Rexpr [] (NamedRegion (name (codes "R") 42))
        NoPost));
    base = Integer;
  }) ∷ (record {
    names = ((name (codes "s") 54) ∷ []);
    shape =
        NoBracket;
    base = Integer;
  }) ∷ [])) ∷ (Defined (record {
    name = (name (codes "add") 77);
    params = ((record {
      by_ref = true;
      names = ((name (codes "X") 85) ∷ []);
      shape = (Bracketed
          (Rexpr [] (NamedRegion (name (codes "R") 90)) NoPost));
      base = Integer;
    }) ∷ (record {
      by_ref
          = false;
      names = ((name (codes "Y") 102) ∷ []);
      shape = (Bracketed (Rexpr [] (NamedRegion
          (name (codes "R") 107)) NoPost));
      base = Integer;
    }) ∷ (record {
      by_ref = false;
      names =
          ((name (codes "k") 119) ∷ []);
      shape = NoBracket;
      base = Integer;
    }) ∷ []);
    result = None;
    locals = ((record {
      names = ((name (codes "L") 137) ∷ []);
      shape = (Bracketed (Dims (ThenDim
          (Span (Number 142 (pos 1)) (Number 145 (pos 3))) NoDim)));
      base = Integer;
    }) ∷ []);
    body =
        (Prefixed 157 [] (Block (ThenStmt (Prefixed 163 [] (Assign (name (codes "L") 163) None (Pair
        168 op.Add (Pair 168 op.Add (Named 168 (name (codes "L") 168)) (Named 172 (name (codes "X")
        172))) (Named 176 (name (codes "Y") 176))))) (ThenStmt (Prefixed 179 [] (Assign (name (codes
        "Y") 179) None (Number 184 (pos 0)))) (ThenStmt (Prefixed 187 [] (Assign (name (codes "X")
        187) None (Pair 192 op.Mul (Named 192 (name (codes "L") 192)) (Named 196 (name (codes "k")
        196))))) NoStmt)))));
  })) ∷ (Defined (record {
    name = (name (codes "t") 214);
    params = [];
    result = None;
    locals = [];
    body = (Prefixed 219 [] (Block (ThenStmt (Prefixed 229 ((record
        { at = 225; region = (Rexpr [] (NamedRegion (name (codes "R") 226)) NoPost); mask = None })
        ∷ []) (Assign (name (codes "A") 229) None (Coord 234 1))) (ThenStmt (Prefixed 246 ((record {
          at = 242;
          region = (Rexpr [] (NamedRegion (name (codes "R") 243)) NoPost);
          mask = None;
        }) ∷
        []) (Assign (name (codes "B") 246) None (Number 251 (pos 10)))) (ThenStmt (Prefixed 259
        ((record {
          at = 255;
          region = (Rexpr [] (NamedRegion (name (codes "R") 256)) NoPost);
          mask =
              None;
        }) ∷ []) (Invoke (name (codes "add") 259) (ThenExpr (Named 263 (name (codes "A") 263))
        (ThenExpr (Named 266 (name (codes "B") 266)) (ThenExpr (Number 269 (pos 2)) NoExpr)))))
        (ThenStmt (Prefixed 277 ((record {
          at = 273;
          region = (Rexpr [] (NamedRegion (name (codes
              "R") 274)) NoPost);
          mask = None;
        }) ∷ []) (Write true ((Value (Named 285 (name (codes "A")
        285))) ∷ (Str (codes " ")) ∷ (Value (Named 293 (name (codes "B") 293))) ∷ []))) (ThenStmt
        (Prefixed 301 ((record {
          at = 297;
          region = (Rexpr [] (NamedRegion (name (codes "R") 298))
              NoPost);
          mask = None;
        }) ∷ []) (Invoke (name (codes "add") 301) (ThenExpr (Named 305 (name
        (codes "A") 305)) (ThenExpr (Named 308 (name (codes "A") 308)) (ThenExpr (Number 311 (pos
        1)) NoExpr))))) (ThenStmt (Prefixed 319 ((record {
          at = 315;
          region = (Rexpr [] (NamedRegion
              (name (codes "R") 316)) NoPost);
          mask = None;
        }) ∷ []) (Write true ((Value (Named 327 (name
        (codes "A") 327))) ∷ []))) NoStmt))))))));
  })) ∷ []);
  source = (codes
      "program t;\nregion R = [1..3]; var A, B : [R] integer; s : integer; procedure add(var X : [R] integer; Y : [R] integer; k : integer); var L : [1..3] integer; begin L := L + X + Y; Y := 0; X := L * k; end;\nprocedure t();\nbegin\n[R] A := Index1;\n[R] B := 10;\n[R] add(A, B, 2);\n[R] writeln(A, \" \", B);\n[R] add(A, A, 1);\n[R] writeln(A);\nend;\n");
}

arrays_copy_and_refer : mean_of arrays_handed [] 0 ≡
    record { bytes = (codes "22 24 26 10 10 10\n44 48 52\n"); ending = Done }
unfolding longest_chain int_wrap digits
arrays_copy_and_refer = refl
