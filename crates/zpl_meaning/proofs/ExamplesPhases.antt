-- Masks and regions in operators, and the order of the phases.
use Rattle.std.proofs.Common.{◌≡◌, ℕ, true, false, List, [], ◌∷◌, Some, None, pos, codes, refl}
use Rattle.std.specs.Fmt.{digits}
use Rattle.std.specs.Int.{int_wrap}
use Rattle.zpl_binding.specs.of_zpl_nums.declared.operators.Op.TheVariants as op
use Rattle.zpl_binding.specs.of_zpl_nums.declared.folds.Fold.TheVariants as fold
use Rattle.zpl_binding.specs.of_zpl_nums.declared.ends.End.TheVariants.{Done, Trap}
use Rattle.zpl_binding.specs.of_zpl_nums.declared.ends.TrapKind.TheVariants.{DivideByZero, OutsideStorage, RegionMismatch}
use Rattle.zpl_binding.specs.of_zpl_tree.Syntax.{Name, Number, Coord, Named, Shifted, Paren, Neg, Pair}
use Rattle.zpl_binding.specs.of_zpl_tree.Syntax.{Reduce, Scan, Flood, NoExpr, ThenExpr, NamedDir, Vector, NamedRegion}
use Rattle.zpl_binding.specs.of_zpl_tree.Syntax.{Rexpr, Dims, NoBracket, Bracketed, NoPost, ThenPost, One, Span}
use Rattle.zpl_binding.specs.of_zpl_tree.Syntax.{NoDim, ThenDim, Str, Value, Prefixed, NoStmt, ThenStmt, Assign}
use Rattle.zpl_binding.specs.of_zpl_tree.Syntax.{Invoke, Block, If, While, For, Write, Tested, NoArm}
use Rattle.zpl_binding.specs.of_zpl_tree.Syntax.{ThenArm, Else, Integer, Boolean, Regions, Directions, Vars, Defined}
use Rattle.zpl_binding.specs.of_zpl_tree.Syntax.{Program}
use Rattle.zpl_binding.specs.of_zpl_names.Reached.{longest_chain}
use Rattle.zpl_meaning.specs.Program.{mean_of}

abbrev name : List ℕ → ℕ → Name
name text at = record { text = text; at = at }

-- reductions and scans leave out what is masked out, and a prefix without a mask has none
abbrev masked_operators : Program
masked_operators = record {
  name = (name (codes "t") 8);
  decls = ((Regions ((record {
    name =
        (name (codes "R") 18);
    body = (Dims (ThenDim (Span (Number 23 (pos 1)) (Number 26 (pos 4)))
        NoDim));
    posts = NoPost;
  }) ∷ [])) ∷ (Vars ((record {
    names = ((name (codes "A") 34) ∷ (name
        (codes "B") 37) ∷ []);
    shape = (Bracketed (Rexpr [] (NamedRegion (name (codes "R") 42))
        NoPost));
    base = Integer;
  }) ∷ (record {
    names = ((name (codes "M") 54) ∷ []);
    shape =
        (Bracketed (Rexpr [] (NamedRegion (name (codes "R") 59)) NoPost));
    base = Boolean;
  }) ∷
      (record { names = ((name (codes "s") 71) ∷ []); shape = NoBracket; base = Integer }) ∷ []))
      ∷ (Defined (record {
        name = (name (codes "t") 94);
        params = [];
        result = None;
        locals = [];
        body = (Prefixed 99 [] (Block (ThenStmt (Prefixed 109 ((record {
          at = 105;
          region = (Rexpr
              [] (NamedRegion (name (codes "R") 106)) NoPost);
          mask = None;
        }) ∷ []) (Assign (name (codes
            "A") 109) None (Coord 114 1))) (ThenStmt (Prefixed 126 ((record {
              at = 122;
              region = (Rexpr
                  [] (NamedRegion (name (codes "R") 123)) NoPost);
              mask = None;
            }) ∷ []) (Assign (name (codes
            "M") 126) None (Pair 131 op.Ne (Named 131 (name (codes "A") 131)) (Number 136 (pos 2)))))
            (ThenStmt (Prefixed 150 ((record {
              at = 139;
              region = (Rexpr [] (NamedRegion (name (codes
                  "R") 140)) NoPost);
              mask = (Some (record {
                name = (name (codes "M") 147);
                without = false;
              }));
            }) ∷ []) (Assign (name (codes "s") 150) None (Reduce 155 fold.Sum NoBracket (Named 158
            (name (codes "A") 158))))) (ThenStmt (Prefixed 161 [] (Write true ((Value (Named 169 (name
            (codes "s") 169))) ∷ []))) (ThenStmt (Prefixed 184 ((record {
              at = 173;
              region = (Rexpr []
                  (NamedRegion (name (codes "R") 174)) NoPost);
              mask = (Some (record {
                name = (name (codes
                    "M") 181);
                without = false;
              }));
            }) ∷ []) (Assign (name (codes "B") 184) None (Scan 189
            fold.Sum None (Named 192 (name (codes "A") 192))))) (ThenStmt (Prefixed 199 ((record {
              at =
                  195;
              region = (Rexpr [] (NamedRegion (name (codes "R") 196)) NoPost);
              mask = None;
            }) ∷ [])
            (Write true ((Value (Named 207 (name (codes "B") 207))) ∷ []))) (ThenStmt (Prefixed 222
            ((record {
              at = 211;
              region = (Rexpr [] (NamedRegion (name (codes "R") 212)) NoPost);
              mask =
                  (Some (record { name = (name (codes "M") 219); without = false }));
            }) ∷ []) (Block (ThenStmt
            (Prefixed 232 ((record {
              at = 228;
              region = (Rexpr [] (NamedRegion (name (codes "R") 229))
                  NoPost);
              mask = None;
            }) ∷ []) (Assign (name (codes "s") 232) None (Reduce 237 fold.Sum
            NoBracket (Named 240 (name (codes "A") 240))))) NoStmt))) (ThenStmt (Prefixed 248 [] (Write
            true ((Value (Named 256 (name (codes "s") 256))) ∷ []))) NoStmt))))))))));
      })) ∷ []);
  source
      = (codes
      "program t;\nregion R = [1..4]; var A, B : [R] integer; M : [R] boolean; s : integer;\nprocedure t();\nbegin\n[R] A := Index1;\n[R] M := A != 2;\n[R with M] s := +<<A;\nwriteln(s);\n[R with M] B := +||A;\n[R] writeln(B);\n[R with M] begin [R] s := +<<A; end; writeln(s);\nend;\n");
}

masks_in_operators : mean_of masked_operators [] 0 ≡
    record { bytes = (codes "8\n1 0 4 8\n10\n"); ending = Done }
unfolding longest_chain int_wrap digits
masks_in_operators = refl

-- the region of an operator isn't masked, and is the current one in its operand
abbrev masked_targets : Program
masked_targets = record {
  name = (name (codes "t") 8);
  decls = ((Regions ((record {
    name = (name
        (codes "R") 18);
    body = (Dims (ThenDim (Span (Number 23 (pos 1)) (Number 26 (pos 2)))
        (ThenDim (Span (Number 29 (pos 1)) (Number 32 (pos 3))) NoDim)));
    posts = NoPost;
  }) ∷
      (record {
        name = (name (codes "C") 36);
        body = (Dims (ThenDim (Span (Number 41 (pos 1))
            (Number 44 (pos 2))) (ThenDim (One (Number 47 (pos 1))) NoDim)));
        posts = NoPost;
      }) ∷ [])) ∷
      (Vars ((record {
        names = ((name (codes "A") 55) ∷ (name (codes "B") 58) ∷ []);
        shape =
            (Bracketed (Rexpr [] (NamedRegion (name (codes "R") 63)) NoPost));
        base = Integer;
      }) ∷
      (record {
        names = ((name (codes "M") 75) ∷ []);
        shape = (Bracketed (Rexpr [] (NamedRegion
            (name (codes "R") 80)) NoPost));
        base = Boolean;
      }) ∷ [])) ∷ (Defined (record {
        name = (name
            (codes "t") 102);
        params = [];
        result = None;
        locals = [];
        body = (Prefixed 107 [] (Block
            (ThenStmt (Prefixed 117 ((record {
              at = 113;
              region = (Rexpr [] (NamedRegion (name (codes
                  "R") 114)) NoPost);
              mask = None;
            }) ∷ []) (Assign (name (codes "A") 117) None (Pair 122
            op.Add (Pair 122 op.Mul (Number 122 (pos 10)) (Coord 127 1)) (Coord 136 2)))) (ThenStmt
            (Prefixed 148 ((record {
              at = 144;
              region = (Rexpr [] (NamedRegion (name (codes "R") 145))
                  NoPost);
              mask = None;
            }) ∷ []) (Assign (name (codes "M") 148) None (Pair 153 op.Eq (Coord 153
            1) (Number 162 (pos 2))))) (ThenStmt (Prefixed 176 ((record {
              at = 165;
              region = (Rexpr []
                  (NamedRegion (name (codes "C") 166)) NoPost);
              mask = (Some (record {
                name = (name (codes
                    "M") 173);
                without = false;
              }));
            }) ∷ []) (Assign (name (codes "B") 176) None (Reduce 181
            fold.Sum (Bracketed (Rexpr [] (NamedRegion (name (codes "R") 185)) NoPost)) (Paren 188 (Pair
            189 op.Mul (Named 189 (name (codes "A") 189)) (Reduce 193 fold.Sum NoBracket (Number 196
            (pos 1)))))))) (ThenStmt (Prefixed 204 ((record {
              at = 200;
              region = (Rexpr [] (NamedRegion
                  (name (codes "C") 201)) NoPost);
              mask = None;
            }) ∷ []) (Write false ((Value (Named 210 (name
            (codes "B") 210))) ∷ []))) NoStmt))))));
      })) ∷ []);
  source = (codes
      "program t;\nregion R = [1..2, 1..3]; C = [1..2, 1]; var A, B : [R] integer; M : [R] boolean;\nprocedure t();\nbegin\n[R] A := 10 * Index1 + Index2;\n[R] M := Index1 = 2;\n[C with M] B := +<<[R] (A * +<<1);\n[C] write(B);\nend;\n");
}

sources_unmasked : mean_of masked_targets [] 0 ≡
    record { bytes = (codes "0\n396\n"); ending = Done }
unfolding longest_chain int_wrap digits
sources_unmasked = refl

-- scans of rank 3, of numbers and of truth values
abbrev along : Program
along = record {
  name = (name (codes "t") 8);
  decls = ((Regions ((record {
    name = (name (codes
        "R") 18);
    body = (Dims (ThenDim (Span (Number 23 (pos 1)) (Number 26 (pos 2))) (ThenDim
        (Span (Number 29 (pos 1)) (Number 32 (pos 2))) (ThenDim (Span (Number 35 (pos 1)) (Number 38
        (pos 2))) NoDim))));
    posts = NoPost;
  }) ∷ [])) ∷ (Vars ((record {
    names = ((name (codes "A")
        46) ∷ []);
    shape = (Bracketed (Rexpr [] (NamedRegion (name (codes "R") 51)) NoPost));
    base =
        Integer;
  }) ∷ (record {
    names = ((name (codes "P") 63) ∷ []);
    shape = (Bracketed (Rexpr []
        (NamedRegion (name (codes "R") 68)) NoPost));
    base = Boolean;
  }) ∷ [])) ∷ (Defined (record {
    name = (name (codes "t") 90);
    params = [];
    result = None;
    locals = [];
    body = (Prefixed 95
        [] (Block (ThenStmt (Prefixed 105 ((record {
          at = 101;
          region = (Rexpr [] (NamedRegion (name
              (codes "R") 102)) NoPost);
          mask = None;
        }) ∷ []) (Assign (name (codes "A") 105) None (Pair
        110 op.Sub (Pair 110 op.Add (Pair 110 op.Add (Pair 110 op.Mul (Coord 110 1) (Number 119 (pos
        4))) (Pair 123 op.Mul (Coord 123 2) (Number 132 (pos 2)))) (Coord 136 3)) (Number 145 (pos
        7))))) (ThenStmt (Prefixed 152 ((record {
          at = 148;
          region = (Rexpr [] (NamedRegion (name
              (codes "R") 149)) NoPost);
          mask = None;
        }) ∷ []) (Write false ((Value (Scan 158 fold.Sum None
        (Named 161 (name (codes "A") 161)))) ∷ []))) (ThenStmt (Prefixed 169 ((record {
          at = 165;
          region = (Rexpr [] (NamedRegion (name (codes "R") 166)) NoPost);
          mask = None;
        }) ∷ [])
        (Assign (name (codes "P") 169) None (Pair 174 op.Lt (Named 174 (name (codes "A") 174))
        (Number 178 (pos 3))))) (ThenStmt (Prefixed 185 ((record {
          at = 181;
          region = (Rexpr []
              (NamedRegion (name (codes "R") 182)) NoPost);
          mask = None;
        }) ∷ []) (Write false ((Value
        (Scan 191 fold.Any (Some (pos 2)) (Named 198 (name (codes "P") 198)))) ∷ (Value (Scan 201
        fold.All (Some (pos 3)) (Named 208 (name (codes "P") 208)))) ∷ []))) NoStmt))))));
  })) ∷ []);
  source = (codes
      "program t;\nregion R = [1..2, 1..2, 1..2]; var A : [R] integer; P : [R] boolean;\nprocedure t();\nbegin\n[R] A := Index1 * 4 + Index2 * 2 + Index3 - 7;\n[R] write(+||A);\n[R] P := A < 3;\n[R] write(|||[2] P, &||[3] P);\nend;\n");
}

scans_of_rank_three : mean_of along [] 0 ≡
    record { bytes = (codes "0 1\n3 6\n\n10 15\n21 28\n\ntrue true\ntrue true\n\nfalse false\nfalse false\n\ntrue true\ntrue false\n\nfalse false\nfalse false\n\n"); ending = Done }
unfolding longest_chain int_wrap digits
scans_of_rank_three = refl

-- strided regions, and the part of one
abbrev strides : Program
strides = record {
  name = (name (codes "t") 8);
  decls = ((Regions ((record {
    name = (name (codes
        "R") 18);
    body = (Dims (ThenDim (Span (Number 23 (pos 1)) (Number 26 (pos 8))) NoDim));
    posts = NoPost;
  }) ∷ [])) ∷ (Directions ((record {
    name = (name (codes "up") 40);
    parts =
        (ThenExpr (Number 46 (pos 3)) NoExpr);
  }) ∷ (record {
    name = (name (codes "down") 50);
    parts
        = (ThenExpr (Neg 58 (Number 59 (pos 3))) NoExpr);
  }) ∷ [])) ∷ (Vars ((record {
    names = ((name
        (codes "A") 67) ∷ []);
    shape = (Bracketed (Rexpr [] (NamedRegion (name (codes "R") 72))
        NoPost));
    base = Integer;
  }) ∷ [])) ∷ (Defined (record {
    name = (name (codes "t") 94);
    params
        = [];
    result = None;
    locals = [];
    body = (Prefixed 99 [] (Block (ThenStmt (Prefixed 109
        ((record {
          at = 105;
          region = (Rexpr [] (NamedRegion (name (codes "R") 106)) NoPost);
          mask =
              None;
        }) ∷ []) (Assign (name (codes "A") 109) None (Coord 114 1))) (ThenStmt (Prefixed 132
        ((record {
          at = 122;
          region = (Rexpr [] (NamedRegion (name (codes "R") 123)) (ThenPost true
              (NamedDir (name (codes "up") 128)) NoPost));
          mask = None;
        }) ∷ []) (Write false ((Value
        (Named 138 (name (codes "A") 138))) ∷ (Str (codes " ")) ∷ []))) (ThenStmt (Prefixed 159
        ((record {
          at = 147;
          region = (Rexpr [] (NamedRegion (name (codes "R") 148)) (ThenPost true
              (NamedDir (name (codes "down") 153)) NoPost));
          mask = None;
        }) ∷ []) (Write false ((Value
        (Named 165 (name (codes "A") 165))) ∷ (Str (codes " ")) ∷ []))) (ThenStmt (Prefixed 192
        ((record {
          at = 174;
          region = (Rexpr ((record {
            dir = (name (codes "down") 175);
            outside =
                false;
          }) ∷ []) (NamedRegion (name (codes "R") 183)) (ThenPost true (NamedDir (name (codes
              "up") 188)) NoPost));
          mask = None;
        }) ∷ []) (Write false ((Value (Named 198 (name (codes "A")
        198))) ∷ (Str (codes " ")) ∷ []))) (ThenStmt (Prefixed 223 ((record {
          at = 207;
          region =
              (Rexpr ((record { dir = (name (codes "up") 208); outside = true }) ∷ []) (NamedRegion (name
              (codes "R") 214)) (ThenPost false (NamedDir (name (codes "up") 219)) NoPost));
          mask = None;
        }) ∷ []) (Write true ((Value (Coord 231 1)) ∷ []))) NoStmt)))))));
  })) ∷ []);
  source = (codes
      "program t;\nregion R = [1..8]; direction up = [3]; down = [-3]; var A : [R] integer;\nprocedure t();\nbegin\n[R] A := Index1;\n[R by up] write(A, \" \");\n[R by down] write(A, \" \");\n[down in R by up] write(A, \" \");\n[up of R at up] writeln(Index1);\nend;\n");
}

strides_align : mean_of strides [] 0 ≡
    record { bytes = (codes "1 4 7 2 5 8 1 12 13 14\n"); ending = Done }
unfolding longest_chain int_wrap digits
strides_align = refl

-- a region without tuples lies in every storage; a mask has to lie around its region
abbrev nothing_there : Program
nothing_there = record {
  name = (name (codes "t") 8);
  decls = ((Regions ((record {
    name = (name
        (codes "R") 18);
    body = (Dims (ThenDim (Span (Number 23 (pos 1)) (Number 26 (pos 3)))
        NoDim));
    posts = NoPost;
  }) ∷ [])) ∷ (Vars ((record {
    names = ((name (codes "A") 34) ∷ []);
    shape = (Bracketed (Rexpr [] (NamedRegion (name (codes "R") 39)) NoPost));
    base = Integer;
  })
      ∷ (record {
        names = ((name (codes "M") 51) ∷ []);
        shape = (Bracketed (Dims (ThenDim (Span
            (Number 56 (pos 2)) (Number 59 (pos 3))) NoDim)));
        base = Boolean;
      }) ∷ [])) ∷ (Defined
      (record {
        name = (name (codes "t") 81);
        params = [];
        result = None;
        locals = [];
        body =
            (Prefixed 86 [] (Block (ThenStmt (Prefixed 99 ((record {
              at = 92;
              region = (Dims (ThenDim
                  (Span (Number 93 (pos 1)) (Number 96 (pos 0))) NoDim));
              mask = None;
            }) ∷ []) (Assign (name
            (codes "A") 99) None (Shifted 104 (name (codes "A") 104) (Vector (ThenExpr (Number 107 (pos
            100)) NoExpr))))) (ThenStmt (Prefixed 117 ((record {
              at = 113;
              region = (Rexpr []
                  (NamedRegion (name (codes "R") 114)) NoPost);
              mask = None;
            }) ∷ []) (Write true ((Value
            (Named 125 (name (codes "A") 125))) ∷ []))) (ThenStmt (Prefixed 140 ((record {
              at = 129;
              region = (Rexpr [] (NamedRegion (name (codes "R") 130)) NoPost);
              mask = (Some (record {
                name
                    = (name (codes "M") 137);
                without = false;
              }));
            }) ∷ []) (Assign (name (codes "A") 140) None
            (Number 145 (pos 1)))) NoStmt)))));
      })) ∷ []);
  source = (codes
      "program t;\nregion R = [1..3]; var A : [R] integer; M : [2..3] boolean;\nprocedure t();\nbegin\n[1..0] A := A@[100];\n[R] writeln(A);\n[R with M] A := 1;\nend;\n");
}

empty_is_within : mean_of nothing_there [] 0 ≡
    record { bytes = (codes "0 0 0\n"); ending = Trap OutsideStorage 7 }
unfolding longest_chain int_wrap digits
empty_is_within = refl

-- floods, and one that doesn't conform
abbrev floods : Program
floods = record {
  name = (name (codes "t") 8);
  decls = ((Regions ((record {
    name = (name (codes
        "R") 18);
    body = (Dims (ThenDim (Span (Number 23 (pos 1)) (Number 26 (pos 2))) (ThenDim
        (Span (Number 29 (pos 1)) (Number 32 (pos 3))) NoDim)));
    posts = NoPost;
  }) ∷ [])) ∷ (Vars
      ((record {
        names = ((name (codes "A") 40) ∷ (name (codes "B") 43) ∷ []);
        shape = (Bracketed
            (Rexpr [] (NamedRegion (name (codes "R") 48)) NoPost));
        base = Integer;
      }) ∷ [])) ∷ (Defined
      (record {
        name = (name (codes "t") 70);
        params = [];
        result = None;
        locals = [];
        body =
            (Prefixed 75 [] (Block (ThenStmt (Prefixed 85 ((record {
              at = 81;
              region = (Rexpr []
                  (NamedRegion (name (codes "R") 82)) NoPost);
              mask = None;
            }) ∷ []) (Assign (name (codes "A")
            85) None (Pair 90 op.Add (Pair 90 op.Mul (Number 90 (pos 10)) (Coord 95 1)) (Coord 104 2))))
            (ThenStmt (Prefixed 116 ((record {
              at = 112;
              region = (Rexpr [] (NamedRegion (name (codes
                  "R") 113)) NoPost);
              mask = None;
            }) ∷ []) (Assign (name (codes "B") 116) None (Flood 121
            (Dims (ThenDim (One (Number 124 (pos 2))) (ThenDim (Span (Number 127 (pos 1)) (Number 130
            (pos 3))) NoDim))) (Named 133 (name (codes "A") 133))))) (ThenStmt (Prefixed 140 ((record {
              at = 136;
              region = (Rexpr [] (NamedRegion (name (codes "R") 137)) NoPost);
              mask = None;
            }) ∷
            []) (Write false ((Value (Named 146 (name (codes "B") 146))) ∷ []))) (ThenStmt (Prefixed 154
            ((record {
              at = 150;
              region = (Rexpr [] (NamedRegion (name (codes "R") 151)) NoPost);
              mask =
                  None;
            }) ∷ []) (Assign (name (codes "B") 154) None (Flood 159 (Dims (ThenDim (Span (Number
            162 (pos 1)) (Number 165 (pos 2))) (ThenDim (Span (Number 168 (pos 2)) (Number 171 (pos 3)))
            NoDim))) (Named 174 (name (codes "A") 174))))) NoStmt))))));
      })) ∷ []);
  source = (codes
      "program t;\nregion R = [1..2, 1..3]; var A, B : [R] integer;\nprocedure t();\nbegin\n[R] A := 10 * Index1 + Index2;\n[R] B := >>[2, 1..3] A;\n[R] write(B);\n[R] B := >>[1..2, 2..3] A;\nend;\n");
}

floods_rows : mean_of floods [] 0 ≡
    record { bytes = (codes "21 22 23\n21 22 23\n"); ending = Trap RegionMismatch 8 }
unfolding longest_chain int_wrap digits
floods_rows = refl

-- conformity comes before references, and these before values
abbrev order_of_phases : Program
order_of_phases = record {
  name = (name (codes "t") 8);
  decls = ((Regions ((record {
    name =
        (name (codes "R") 18);
    body = (Dims (ThenDim (Span (Number 23 (pos 1)) (Number 26 (pos 2)))
        (ThenDim (Span (Number 29 (pos 1)) (Number 32 (pos 3))) NoDim)));
    posts = NoPost;
  }) ∷ [])) ∷
      (Directions ((record {
        name = (name (codes "far") 46);
        parts = (ThenExpr (Number 53 (pos 9))
            (ThenExpr (Number 56 (pos 0)) NoExpr));
      }) ∷ [])) ∷ (Vars ((record {
        names = ((name (codes
            "A") 64) ∷ (name (codes "B") 67) ∷ []);
        shape = (Bracketed (Rexpr [] (NamedRegion (name
            (codes "R") 72)) NoPost));
        base = Integer;
      }) ∷ (record {
        names = ((name (codes "z") 84) ∷
            []);
        shape = NoBracket;
        base = Integer;
      }) ∷ [])) ∷ (Defined (record {
        name = (name (codes
            "t") 107);
        params = [];
        result = None;
        locals = [];
        body = (Prefixed 112 [] (Block (ThenStmt
            (Prefixed 122 ((record {
              at = 118;
              region = (Rexpr [] (NamedRegion (name (codes "R") 119))
                  NoPost);
              mask = None;
            }) ∷ []) (Assign (name (codes "B") 122) None (Pair 127 op.Add (Pair 127
            op.Add (Pair 127 op.Div (Number 127 (pos 1)) (Named 131 (name (codes "z") 131))) (Shifted
            135 (name (codes "A") 135) (NamedDir (name (codes "far") 137)))) (Flood 143 (Dims (ThenDim
            (Span (Number 146 (pos 1)) (Number 149 (pos 2))) (ThenDim (Span (Number 152 (pos 2)) (Number
            155 (pos 3))) NoDim))) (Named 158 (name (codes "A") 158)))))) NoStmt)));
      })) ∷ []);
  source =
      (codes
      "program t;\nregion R = [1..2, 1..3]; direction far = [9, 0]; var A, B : [R] integer; z : integer;\nprocedure t();\nbegin\n[R] B := 1 / z + A@far + >>[1..2, 2..3] A;\nend;\n");
}

mismatch_first : mean_of order_of_phases [] 0 ≡
    record { bytes = []; ending = Trap RegionMismatch 5 }
unfolding longest_chain int_wrap
mismatch_first = refl

-- references come before values
abbrev order_of_references : Program
order_of_references = record {
  name = (name (codes "t") 8);
  decls = ((Regions ((record {
    name =
        (name (codes "R") 18);
    body = (Dims (ThenDim (Span (Number 23 (pos 1)) (Number 26 (pos 2)))
        (ThenDim (Span (Number 29 (pos 1)) (Number 32 (pos 3))) NoDim)));
    posts = NoPost;
  }) ∷ [])) ∷
      (Directions ((record {
        name = (name (codes "far") 46);
        parts = (ThenExpr (Number 53 (pos 9))
            (ThenExpr (Number 56 (pos 0)) NoExpr));
      }) ∷ [])) ∷ (Vars ((record {
        names = ((name (codes
            "A") 64) ∷ (name (codes "B") 67) ∷ []);
        shape = (Bracketed (Rexpr [] (NamedRegion (name
            (codes "R") 72)) NoPost));
        base = Integer;
      }) ∷ (record {
        names = ((name (codes "z") 84) ∷
            []);
        shape = NoBracket;
        base = Integer;
      }) ∷ [])) ∷ (Defined (record {
        name = (name (codes
            "t") 107);
        params = [];
        result = None;
        locals = [];
        body = (Prefixed 112 [] (Block (ThenStmt
            (Prefixed 122 ((record {
              at = 118;
              region = (Rexpr [] (NamedRegion (name (codes "R") 119))
                  NoPost);
              mask = None;
            }) ∷ []) (Assign (name (codes "B") 122) None (Pair 127 op.Add (Pair 127
            op.Div (Number 127 (pos 1)) (Named 131 (name (codes "z") 131))) (Shifted 135 (name (codes
            "A") 135) (NamedDir (name (codes "far") 137)))))) NoStmt)));
      })) ∷ []);
  source = (codes
      "program t;\nregion R = [1..2, 1..3]; direction far = [9, 0]; var A, B : [R] integer; z : integer;\nprocedure t();\nbegin\n[R] B := 1 / z + A@far;\nend;\n");
}

reference_first : mean_of order_of_references [] 0 ≡
    record { bytes = []; ending = Trap OutsideStorage 5 }
unfolding longest_chain int_wrap
reference_first = refl

-- regions come first, all bounds of a bracket before its limit
abbrev order_of_regions : Program
order_of_regions = record {
  name = (name (codes "t") 8);
  decls = ((Regions ((record {
    name =
        (name (codes "R") 18);
    body = (Dims (ThenDim (Span (Number 23 (pos 1)) (Number 26 (pos 2)))
        (ThenDim (Span (Number 29 (pos 1)) (Number 32 (pos 3))) NoDim)));
    posts = NoPost;
  }) ∷ [])) ∷
      (Directions ((record {
        name = (name (codes "far") 46);
        parts = (ThenExpr (Number 53 (pos 9))
            (ThenExpr (Number 56 (pos 0)) NoExpr));
      }) ∷ [])) ∷ (Vars ((record {
        names = ((name (codes
            "A") 64) ∷ (name (codes "B") 67) ∷ []);
        shape = (Bracketed (Rexpr [] (NamedRegion (name
            (codes "R") 72)) NoPost));
        base = Integer;
      }) ∷ (record {
        names = ((name (codes "z") 84) ∷
            []);
        shape = NoBracket;
        base = Integer;
      }) ∷ [])) ∷ (Defined (record {
        name = (name (codes
            "t") 107);
        params = [];
        result = None;
        locals = [];
        body = (Prefixed 112 [] (Block (ThenStmt
            (Prefixed 122 ((record {
              at = 118;
              region = (Rexpr [] (NamedRegion (name (codes "R") 119))
                  NoPost);
              mask = None;
            }) ∷ []) (Assign (name (codes "B") 122) None (Pair 127 op.Add (Shifted
            127 (name (codes "A") 127) (NamedDir (name (codes "far") 129))) (Reduce 135 fold.Sum
            (Bracketed (Dims (ThenDim (Span (Number 139 (pos 1)) (Pair 144 op.Div (Number 144 (pos 1))
            (Named 148 (name (codes "z") 148)))) (ThenDim (Span (Number 151 (pos 1)) (Number 154 (pos
            3000000000))) NoDim)))) (Named 166 (name (codes "A") 166)))))) NoStmt)));
      })) ∷ []);
  source =
      (codes
      "program t;\nregion R = [1..2, 1..3]; direction far = [9, 0]; var A, B : [R] integer; z : integer;\nprocedure t();\nbegin\n[R] B := A@far + +<<[1 .. 1 / z, 1..3000000000] A;\nend;\n");
}

bounds_first : mean_of order_of_regions [] 0 ≡
    record { bytes = []; ending = Trap DivideByZero 5 }
unfolding longest_chain int_wrap
bounds_first = refl

-- a called procedure has the current region and its mask
abbrev inherited : Program
inherited = record {
  name = (name (codes "t") 8);
  decls = ((Regions ((record {
    name = (name
        (codes "R") 18);
    body = (Dims (ThenDim (Span (Number 23 (pos 1)) (Number 26 (pos 3)))
        NoDim));
    posts = NoPost;
  }) ∷ [])) ∷ (Vars ((record {
    names = ((name (codes "A") 34) ∷ (name
        (codes "B") 37) ∷ []);
    shape = (Bracketed (Rexpr [] (NamedRegion (name (codes "R") 42))
        NoPost));
    base = Integer;
  }) ∷ (record {
    names = ((name (codes "M") 54) ∷ []);
    shape =
        (Bracketed (Rexpr [] (NamedRegion (name (codes "R") 59)) NoPost));
    base = Boolean;
  }) ∷ []))
      ∷ (Defined (record {
        name = (name (codes "fill") 81);
        params = ((record {
          by_ref = false;
          names = ((name (codes "n") 86) ∷ []);
          shape = NoBracket;
          base = Integer;
        }) ∷ []);
        result =
            None;
        locals = [];
        body = (Prefixed 100 [] (Block (ThenStmt (Prefixed 106 [] (Assign (name
            (codes "A") 106) None (Named 111 (name (codes "n") 111)))) (ThenStmt (Prefixed 114 [] (If
            (ThenArm (Tested 114 (Pair 117 op.Eq (Named 117 (name (codes "B") 117)) (Number 121 (pos
            0))) (ThenStmt (Prefixed 128 [] (Assign (name (codes "B") 128) None (Named 133 (name (codes
            "A") 133)))) NoStmt)) (ThenArm (Tested 136 (Pair 142 op.Gt (Named 142 (name (codes "B")
            142)) (Number 146 (pos 1))) (ThenStmt (Prefixed 153 [] (Assign (name (codes "B") 153) None
            (Number 158 (pos 7)))) NoStmt)) NoArm)) (Else (ThenStmt (Prefixed 166 [] (Assign (name
            (codes "A") 166) None (Number 171 (pos 0)))) NoStmt)))) NoStmt))));
      })) ∷ (Defined (record {
        name = (name (codes "t") 194);
        params = [];
        result = None;
        locals = [];
        body = (Prefixed 199
            [] (Block (ThenStmt (Prefixed 209 ((record {
              at = 205;
              region = (Rexpr [] (NamedRegion (name
                  (codes "R") 206)) NoPost);
              mask = None;
            }) ∷ []) (Assign (name (codes "M") 209) None (Pair
            214 op.Ne (Coord 214 1) (Number 224 (pos 2))))) (ThenStmt (Prefixed 231 ((record {
              at = 227;
              region = (Rexpr [] (NamedRegion (name (codes "R") 228)) NoPost);
              mask = None;
            }) ∷ [])
            (Assign (name (codes "B") 231) None (Pair 236 op.Sub (Coord 236 1) (Number 245 (pos 1)))))
            (ThenStmt (Prefixed 259 ((record {
              at = 248;
              region = (Rexpr [] (NamedRegion (name (codes
                  "R") 249)) NoPost);
              mask = (Some (record {
                name = (name (codes "M") 256);
                without = false;
              }));
            }) ∷ []) (Invoke (name (codes "fill") 259) (ThenExpr (Number 264 (pos 5)) NoExpr)))
            (ThenStmt (Prefixed 272 ((record {
              at = 268;
              region = (Rexpr [] (NamedRegion (name (codes
                  "R") 269)) NoPost);
              mask = None;
            }) ∷ []) (Write true ((Value (Named 280 (name (codes "A")
            280))) ∷ (Str (codes " ")) ∷ (Value (Named 288 (name (codes "B") 288))) ∷ []))) NoStmt))))));
      })) ∷ []);
  source = (codes
      "program t;\nregion R = [1..3]; var A, B : [R] integer; M : [R] boolean; procedure fill(n : integer); begin A := n; if B = 0 then B := A; elsif B > 1 then B := 7; else A := 0; end; end;\nprocedure t();\nbegin\n[R] M := Index1 != 2;\n[R] B := Index1 - 1;\n[R with M] fill(5);\n[R] writeln(A, \" \", B);\nend;\n");
}

regions_inherited : mean_of inherited [] 0 ≡
    record { bytes = (codes "5 0 5 5 1 7\n"); ending = Done }
unfolding longest_chain int_wrap digits
regions_inherited = refl

-- loops over numbers and over reductions
abbrev counted : Program
counted = record {
  name = (name (codes "t") 8);
  decls = ((Regions ((record {
    name = (name (codes
        "R") 18);
    body = (Dims (ThenDim (Span (Number 23 (pos 1)) (Number 26 (pos 3))) NoDim));
    posts = NoPost;
  }) ∷ [])) ∷ (Vars ((record {
    names = ((name (codes "A") 34) ∷ []);
    shape =
        (Bracketed (Rexpr [] (NamedRegion (name (codes "R") 39)) NoPost));
    base = Integer;
  }) ∷
      (record {
        names = ((name (codes "i") 51) ∷ (name (codes "s") 54) ∷ []);
        shape = NoBracket;
        base = Integer;
      }) ∷ [])) ∷ (Defined (record {
        name = (name (codes "t") 77);
        params = [];
        result = None;
        locals = [];
        body = (Prefixed 82 [] (Block (ThenStmt (Prefixed 92 ((record {
          at = 88;
          region = (Rexpr [] (NamedRegion (name (codes "R") 89)) NoPost);
          mask = None;
        }) ∷
            []) (Assign (name (codes "A") 92) None (Coord 97 1))) (ThenStmt (Prefixed 109 ((record {
              at
                  = 105;
              region = (Rexpr [] (NamedRegion (name (codes "R") 106)) NoPost);
              mask = None;
            }) ∷ [])
            (For (record {
              name = (name (codes "i") 113);
              first = (Reduce 118 fold.Max NoBracket (Named
                  123 (name (codes "A") 123)));
              down = false;
              last = (Number 128 (pos 1));
              step = None;
            })
            (ThenStmt (Prefixed 133 [] (Write false ((Str (codes "never")) ∷ []))) NoStmt))) (ThenStmt
            (Prefixed 154 [] (For (record {
              name = (name (codes "i") 158);
              first = (Number 163 (pos 3));
              down = true;
              last = (Number 172 (pos 1));
              step = (Some (Number 177 (pos 2)));
            }) (ThenStmt
            (Prefixed 182 [] (Write false ((Value (Named 188 (name (codes "i") 188))) ∷ (Str (codes
            " ")) ∷ []))) NoStmt))) (ThenStmt (Prefixed 206 ((record {
              at = 202;
              region = (Rexpr []
                  (NamedRegion (name (codes "R") 203)) NoPost);
              mask = None;
            }) ∷ []) (While (Pair 212 op.Lt
            (Reduce 212 fold.Sum NoBracket (Named 215 (name (codes "A") 215))) (Number 219 (pos 10)))
            (ThenStmt (Prefixed 225 [] (Assign (name (codes "A") 225) (Some op.Add) (Named 230 (name
            (codes "i") 230)))) (ThenStmt (Prefixed 233 [] (Assign (name (codes "s") 233) (Some op.Add)
            (Number 238 (pos 1)))) NoStmt)))) (ThenStmt (Prefixed 250 ((record {
              at = 246;
              region =
                  (Rexpr [] (NamedRegion (name (codes "R") 247)) NoPost);
              mask = None;
            }) ∷ []) (Write true
            ((Value (Named 258 (name (codes "A") 258))) ∷ (Str (codes " ")) ∷ (Value (Named 266 (name
            (codes "s") 266))) ∷ []))) NoStmt)))))));
      })) ∷ []);
  source = (codes
      "program t;\nregion R = [1..3]; var A : [R] integer; i, s : integer;\nprocedure t();\nbegin\n[R] A := Index1;\n[R] for i := max<<A to 1 do write(\"never\"); end;\nfor i := 3 downto 1 by 2 do write(i, \" \"); end;\n[R] while +<<A < 10 do A += i; s += 1; end;\n[R] writeln(A, \" \", s);\nend;\n");
}

counts_down : mean_of counted [] 2 ≡
    record { bytes = (codes "3 1 3 4 5 2\n"); ending = Done }
unfolding longest_chain int_wrap digits
counts_down = refl
