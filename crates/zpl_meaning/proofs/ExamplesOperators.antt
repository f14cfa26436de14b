-- Programs with reductions, scans, floods, reads that wrap round and remap reads.
use Rattle.std.proofs.Common.{◌≡◌, ℕ, true, false, List, [], ◌∷◌, Some, None, pos, codes, refl}
use Rattle.std.specs.Fmt.{digits}
use Rattle.std.specs.Int.{int_wrap}
use Rattle.zpl_binding.specs.of_zpl_nums.declared.operators.Op.TheVariants as op
use Rattle.zpl_binding.specs.of_zpl_nums.declared.folds.Fold.TheVariants as fold
use Rattle.zpl_binding.specs.of_zpl_nums.declared.ends.End.TheVariants.{Done, Trap}
use Rattle.zpl_binding.specs.of_zpl_nums.declared.ends.TrapKind.TheVariants.{DivideByZero, OutsideStorage, RegionMismatch}
use Rattle.zpl_binding.specs.of_zpl_tree.Syntax.{Name, Number, Coord, Named, Around, Remap, Paren, Neg}
use Rattle.zpl_binding.specs.of_zpl_tree.Syntax.{Pair, Reduce, Scan, Flood, NoExpr, ThenExpr, NamedDir, Vector}
use Rattle.zpl_binding.specs.of_zpl_tree.Syntax.{NamedRegion, Rexpr, Dims, NoBracket, Bracketed, NoPost, ThenPost, Blank}
use Rattle.zpl_binding.specs.of_zpl_tree.Syntax.{Star, One, Span, NoDim, ThenDim, Value, Prefixed, NoStmt}
use Rattle.zpl_binding.specs.of_zpl_tree.Syntax.{ThenStmt, Assign, Block, For, Write, Integer, Boolean, Config}
use Rattle.zpl_binding.specs.of_zpl_tree.Syntax.{Regions, Directions, Vars, Defined, Program}
use Rattle.zpl_binding.specs.of_zpl_names.Reached.{longest_chain}
use Rattle.zpl_meaning.specs.Program.{mean_of}

abbrev name : List ℕ → ℕ → Name
name text at = record { text = text; at = at }

-- partial reductions
abbrev parts : Program
parts = record {
  name = (name (codes "t") 8);
  decls = ((Regions ((record {
    name = (name (codes
        "R") 18);
    body = (Dims (ThenDim (Span (Number 23 (pos 1)) (Number 26 (pos 2))) (ThenDim
        (Span (Number 29 (pos 1)) (Number 32 (pos 3))) NoDim)));
    posts = NoPost;
  }) ∷ (record {
    name
        = (name (codes "C") 36);
    body = (Dims (ThenDim (Span (Number 41 (pos 1)) (Number 44 (pos
        2))) (ThenDim (One (Number 47 (pos 1))) NoDim)));
    posts = NoPost;
  }) ∷ [])) ∷ (Vars ((record {
    names = ((name (codes "A") 55) ∷ (name (codes "B") 58) ∷ []);
    shape = (Bracketed (Rexpr []
        (NamedRegion (name (codes "R") 63)) NoPost));
    base = Integer;
  }) ∷ [])) ∷ (Defined (record {
    name = (name (codes "t") 85);
    params = [];
    result = None;
    locals = [];
    body = (Prefixed 90
        [] (Block (ThenStmt (Prefixed 100 ((record {
          at = 96;
          region = (Rexpr [] (NamedRegion (name
              (codes "R") 97)) NoPost);
          mask = None;
        }) ∷ []) (Assign (name (codes "A") 100) None (Pair 105
        op.Add (Pair 105 op.Mul (Number 105 (pos 10)) (Coord 110 1)) (Coord 119 2)))) (ThenStmt
        (Prefixed 131 ((record {
          at = 127;
          region = (Rexpr [] (NamedRegion (name (codes "C") 128))
              NoPost);
          mask = None;
        }) ∷ []) (Assign (name (codes "B") 131) None (Reduce 136 fold.Sum
        (Bracketed (Rexpr [] (NamedRegion (name (codes "R") 140)) NoPost)) (Named 143 (name (codes
        "A") 143))))) (ThenStmt (Prefixed 150 ((record {
          at = 146;
          region = (Rexpr [] (NamedRegion
              (name (codes "C") 147)) NoPost);
          mask = None;
        }) ∷ []) (Write false ((Value (Named 156 (name
        (codes "B") 156))) ∷ []))) (ThenStmt (Prefixed 173 ((record {
          at = 160;
          region = (Dims
              (ThenDim (Span (Number 161 (pos 1)) (Number 164 (pos 2))) (ThenDim (Span (Number 167 (pos
              1)) (Number 170 (pos 2))) NoDim)));
          mask = None;
        }) ∷ []) (Assign (name (codes "B") 173) None
        (Reduce 178 fold.Sum (Bracketed (Rexpr [] (NamedRegion (name (codes "R") 182)) NoPost))
        (Named 185 (name (codes "A") 185))))) NoStmt))))));
  })) ∷ []);
  source = (codes
      "program t;\nregion R = [1..2, 1..3]; C = [1..2, 1]; var A, B : [R] integer;\nprocedure t();\nbegin\n[R] A := 10 * Index1 + Index2;\n[C] B := +<<[R] A;\n[C] write(B);\n[1..2, 1..2] B := +<<[R] A;\nend;\n");
}

reduces_rows : mean_of parts [] 0 ≡
    record { bytes = (codes "36\n66\n"); ending = Trap RegionMismatch 8 }
unfolding longest_chain int_wrap digits
reduces_rows = refl

-- scans over a strided region
abbrev scans : Program
scans = record {
  name = (name (codes "t") 8);
  decls = ((Regions ((record {
    name = (name (codes
        "R") 18);
    body = (Dims (ThenDim (Span (Number 23 (pos 1)) (Number 26 (pos 4))) (ThenDim
        (Span (Number 29 (pos 1)) (Number 32 (pos 6))) NoDim)));
    posts = NoPost;
  }) ∷ (record {
    name
        = (name (codes "S") 36);
    body = (Rexpr [] (NamedRegion (name (codes "R") 40)) (ThenPost true
        (Vector (ThenExpr (Number 46 (pos 2)) (ThenExpr (Number 49 (pos 3)) NoExpr))) NoPost));
    posts = NoPost;
  }) ∷ [])) ∷ (Vars ((record {
    names = ((name (codes "A") 57) ∷ []);
    shape =
        (Bracketed (Rexpr [] (NamedRegion (name (codes "R") 62)) NoPost));
    base = Integer;
  }) ∷ []))
      ∷ (Defined (record {
        name = (name (codes "t") 84);
        params = [];
        result = None;
        locals = [];
        body = (Prefixed 89 [] (Block (ThenStmt (Prefixed 99 ((record {
          at = 95;
          region = (Rexpr []
              (NamedRegion (name (codes "R") 96)) NoPost);
          mask = None;
        }) ∷ []) (Assign (name (codes "A")
            99) None (Pair 104 op.Add (Pair 104 op.Mul (Number 104 (pos 10)) (Coord 109 1)) (Coord 118
            2)))) (ThenStmt (Prefixed 130 ((record {
              at = 126;
              region = (Rexpr [] (NamedRegion (name
                  (codes "S") 127)) NoPost);
              mask = None;
            }) ∷ []) (Write false ((Value (Scan 136 fold.Sum None
            (Named 139 (name (codes "A") 139)))) ∷ []))) (ThenStmt (Prefixed 147 ((record {
              at = 143;
              region = (Rexpr [] (NamedRegion (name (codes "S") 144)) NoPost);
              mask = None;
            }) ∷ []) (Write
            false ((Value (Scan 153 fold.Sum (Some (pos 1)) (Named 159 (name (codes "A") 159)))) ∷ [])))
            NoStmt)))));
      })) ∷ []);
  source = (codes
      "program t;\nregion R = [1..4, 1..6]; S = R by [2, 3]; var A : [R] integer;\nprocedure t();\nbegin\n[R] A := 10 * Index1 + Index2;\n[S] write(+||A);\n[S] write(+||[1]A);\nend;\n");
}

scans_through : mean_of scans [] 0 ≡
    record { bytes = (codes "11 25\n56 90\n11 14\n42 48\n"); ending = Done }
unfolding longest_chain int_wrap digits
scans_through = refl

-- a product of matrices by floods
abbrev products : Program
products = record {
  name = (name (codes "t") 8);
  decls = ((Config ((record {
    name = (name (codes
        "m") 22);
    base = Integer;
    value = (Number 36 (pos 2));
  }) ∷ (record {
    name = (name (codes
        "p") 39);
    base = Integer;
    value = (Number 53 (pos 3));
  }) ∷ (record {
    name = (name (codes
        "q") 56);
    base = Integer;
    value = (Number 70 (pos 2));
  }) ∷ [])) ∷ (Regions ((record {
    name =
        (name (codes "RA") 80);
    body = (Dims (ThenDim (Span (Number 86 (pos 1)) (Named 89 (name
        (codes "m") 89))) (ThenDim (Span (Number 92 (pos 1)) (Named 95 (name (codes "p") 95)))
        NoDim)));
    posts = NoPost;
  }) ∷ (record {
    name = (name (codes "RB") 99);
    body = (Dims (ThenDim
        (Span (Number 105 (pos 1)) (Named 108 (name (codes "p") 108))) (ThenDim (Span (Number 111
        (pos 1)) (Named 114 (name (codes "q") 114))) NoDim)));
    posts = NoPost;
  }) ∷ (record {
    name =
        (name (codes "RC") 118);
    body = (Dims (ThenDim (Span (Number 124 (pos 1)) (Named 127 (name
        (codes "m") 127))) (ThenDim (Span (Number 130 (pos 1)) (Named 133 (name (codes "q") 133)))
        NoDim)));
    posts = NoPost;
  }) ∷ (record {
    name = (name (codes "CF") 137);
    body = (Dims
        (ThenDim (Span (Number 143 (pos 1)) (Named 146 (name (codes "m") 146))) (ThenDim (Star 149)
        NoDim)));
    posts = NoPost;
  }) ∷ (record {
    name = (name (codes "RF") 153);
    body = (Dims
        (ThenDim (Star 159) (ThenDim (Span (Number 162 (pos 1)) (Named 165 (name (codes "q") 165)))
        NoDim)));
    posts = NoPost;
  }) ∷ [])) ∷ (Vars ((record {
    names = ((name (codes "A") 173) ∷ []);
    shape = (Bracketed (Rexpr [] (NamedRegion (name (codes "RA") 178)) NoPost));
    base = Integer;
  }) ∷ (record {
    names = ((name (codes "B") 191) ∷ []);
    shape = (Bracketed (Rexpr []
        (NamedRegion (name (codes "RB") 196)) NoPost));
    base = Integer;
  }) ∷ (record {
    names = ((name
        (codes "C") 209) ∷ []);
    shape = (Bracketed (Rexpr [] (NamedRegion (name (codes "RC") 214))
        NoPost));
    base = Integer;
  }) ∷ (record {
    names = ((name (codes "Col") 227) ∷ []);
    shape =
        (Bracketed (Rexpr [] (NamedRegion (name (codes "CF") 234)) NoPost));
    base = Integer;
  }) ∷
      (record {
        names = ((name (codes "Row") 247) ∷ []);
        shape = (Bracketed (Rexpr [] (NamedRegion
            (name (codes "RF") 254)) NoPost));
        base = Integer;
      }) ∷ (record {
        names = ((name (codes "k")
            267) ∷ []);
        shape = NoBracket;
        base = Integer;
      }) ∷ [])) ∷ (Defined (record {
        name = (name
            (codes "t") 290);
        params = [];
        result = None;
        locals = [];
        body = (Prefixed 295 [] (Block
            (ThenStmt (Prefixed 306 ((record {
              at = 301;
              region = (Rexpr [] (NamedRegion (name (codes
                  "RA") 302)) NoPost);
              mask = None;
            }) ∷ []) (Assign (name (codes "A") 306) None (Pair 311
            op.Add (Pair 311 op.Mul (Number 311 (pos 10)) (Coord 316 1)) (Coord 325 2)))) (ThenStmt
            (Prefixed 338 ((record {
              at = 333;
              region = (Rexpr [] (NamedRegion (name (codes "RB") 334))
                  NoPost);
              mask = None;
            }) ∷ []) (Assign (name (codes "B") 338) None (Pair 343 op.Sub (Coord
            343 1) (Coord 352 2)))) (ThenStmt (Prefixed 360 [] (For (record {
              name = (name (codes "k")
                  364);
              first = (Number 369 (pos 1));
              down = false;
              last = (Named 374 (name (codes "p") 374));
              step = None;
            }) (ThenStmt (Prefixed 384 ((record {
              at = 379;
              region = (Rexpr [] (NamedRegion
                  (name (codes "CF") 380)) NoPost);
              mask = None;
            }) ∷ []) (Assign (name (codes "Col") 384) None
            (Flood 391 (Dims (ThenDim (Blank 395) (ThenDim (One (Named 397 (name (codes "k") 397)))
            NoDim))) (Named 400 (name (codes "A") 400))))) (ThenStmt (Prefixed 408 ((record {
              at = 403;
              region = (Rexpr [] (NamedRegion (name (codes "RF") 404)) NoPost);
              mask = None;
            }) ∷ [])
            (Assign (name (codes "Row") 408) None (Flood 415 (Dims (ThenDim (One (Named 418 (name (codes
            "k") 418))) (ThenDim (Blank 421) NoDim))) (Named 423 (name (codes "B") 423))))) (ThenStmt
            (Prefixed 431 ((record {
              at = 426;
              region = (Rexpr [] (NamedRegion (name (codes "RC") 427))
                  NoPost);
              mask = None;
            }) ∷ []) (Assign (name (codes "C") 431) (Some op.Add) (Pair 436 op.Mul
            (Named 436 (name (codes "Col") 436)) (Named 442 (name (codes "Row") 442))))) NoStmt)))))
            (ThenStmt (Prefixed 457 ((record {
              at = 452;
              region = (Rexpr [] (NamedRegion (name (codes
                  "RC") 453)) NoPost);
              mask = None;
            }) ∷ []) (Write false ((Value (Named 463 (name (codes "C")
            463))) ∷ []))) NoStmt))))));
      })) ∷ []);
  source = (codes
      "program t;\nconfig var m : integer = 2; p : integer = 3; q : integer = 2; region RA = [1..m, 1..p]; RB = [1..p, 1..q]; RC = [1..m, 1..q]; CF = [1..m, *]; RF = [*, 1..q]; var A : [RA] integer; B : [RB] integer; C : [RC] integer; Col : [CF] integer; Row : [RF] integer; k : integer;\nprocedure t();\nbegin\n[RA] A := 10 * Index1 + Index2;\n[RB] B := Index1 - Index2;\nfor k := 1 to p do [CF] Col := >>[ , k] A; [RF] Row := >>[k, ] B; [RC] C += Col * Row; end;\n[RC] write(C);\nend;\n");
}

multiplies : mean_of products [] 3 ≡
    record { bytes = (codes "38 2\n68 2\n"); ending = Done }
unfolding longest_chain int_wrap digits
multiplies = refl

-- reads round the home box
abbrev round : Program
round = record {
  name = (name (codes "t") 8);
  decls = ((Regions ((record {
    name = (name (codes
        "R") 18);
    body = (Dims (ThenDim (Span (Number 23 (pos 1)) (Number 26 (pos 5))) NoDim));
    posts = NoPost;
  }) ∷ [])) ∷ (Directions ((record {
    name = (name (codes "e") 40);
    parts =
        (ThenExpr (Number 45 (pos 1)) NoExpr);
  }) ∷ (record {
    name = (name (codes "far") 49);
    parts =
        (ThenExpr (Neg 56 (Number 57 (pos 7))) NoExpr);
  }) ∷ [])) ∷ (Vars ((record {
    names = ((name
        (codes "A") 65) ∷ (name (codes "B") 68) ∷ []);
    shape = (Bracketed (Rexpr [] (NamedRegion
        (name (codes "R") 73)) NoPost));
    base = Integer;
  }) ∷ [])) ∷ (Defined (record {
    name = (name
        (codes "t") 95);
    params = [];
    result = None;
    locals = [];
    body = (Prefixed 100 [] (Block
        (ThenStmt (Prefixed 110 ((record {
          at = 106;
          region = (Rexpr [] (NamedRegion (name (codes
              "R") 107)) NoPost);
          mask = None;
        }) ∷ []) (Assign (name (codes "A") 110) None (Coord 115 1)))
        (ThenStmt (Prefixed 127 ((record {
          at = 123;
          region = (Rexpr [] (NamedRegion (name (codes
              "R") 124)) NoPost);
          mask = None;
        }) ∷ []) (Assign (name (codes "B") 127) None (Around 132
        (name (codes "A") 132) (NamedDir (name (codes "e") 135))))) (ThenStmt (Prefixed 142 ((record
        { at = 138; region = (Rexpr [] (NamedRegion (name (codes "R") 139)) NoPost); mask = None })
        ∷ []) (Write true ((Value (Named 150 (name (codes "B") 150))) ∷ []))) (ThenStmt (Prefixed
        158 ((record {
          at = 154;
          region = (Rexpr [] (NamedRegion (name (codes "R") 155)) NoPost);
          mask = None;
        }) ∷ []) (Write true ((Value (Around 166 (name (codes "A") 166) (NamedDir (name
        (codes "far") 169)))) ∷ []))) (ThenStmt (Prefixed 184 ((record {
          at = 175;
          region = (Rexpr
              ((record { dir = (name (codes "e") 176); outside = true }) ∷ []) (NamedRegion (name (codes
              "R") 181)) NoPost);
          mask = None;
        }) ∷ []) (Write true ((Value (Around 192 (name (codes "A")
        192) (NamedDir (name (codes "e") 195)))) ∷ []))) NoStmt)))))));
  })) ∷ []);
  source = (codes
      "program t;\nregion R = [1..5]; direction e = [1]; far = [-7]; var A, B : [R] integer;\nprocedure t();\nbegin\n[R] A := Index1;\n[R] B := A@^e;\n[R] writeln(B);\n[R] writeln(A@^far);\n[e of R] writeln(A@^e);\nend;\n");
}

reads_round : mean_of round [] 0 ≡
    record { bytes = (codes "2 3 4 5 1\n4 5 1 2 3\n"); ending = Trap OutsideStorage 9 }
unfolding longest_chain int_wrap digits
reads_round = refl

-- the same in two dimensions
abbrev torus : Program
torus = record {
  name = (name (codes "t") 8);
  decls = ((Regions ((record {
    name = (name (codes
        "R") 18);
    body = (Dims (ThenDim (Span (Number 23 (pos 1)) (Number 26 (pos 2))) (ThenDim
        (Span (Number 29 (pos 1)) (Number 32 (pos 3))) NoDim)));
    posts = NoPost;
  }) ∷ [])) ∷
      (Directions ((record {
        name = (name (codes "se") 46);
        parts = (ThenExpr (Number 52 (pos 1))
            (ThenExpr (Number 55 (pos 1)) NoExpr));
      }) ∷ [])) ∷ (Vars ((record {
        names = ((name (codes
            "A") 63) ∷ []);
        shape = (Bracketed (Rexpr [] (NamedRegion (name (codes "R") 68)) NoPost));
        base = Integer;
      }) ∷ [])) ∷ (Defined (record {
        name = (name (codes "t") 90);
        params = [];
        result = None;
        locals = [];
        body = (Prefixed 95 [] (Block (ThenStmt (Prefixed 105 ((record {
          at = 101;
          region = (Rexpr [] (NamedRegion (name (codes "R") 102)) NoPost);
          mask = None;
        }) ∷
            []) (Assign (name (codes "A") 105) None (Pair 110 op.Add (Pair 110 op.Mul (Number 110 (pos
            10)) (Coord 115 1)) (Coord 124 2)))) (ThenStmt (Prefixed 136 ((record {
              at = 132;
              region =
                  (Rexpr [] (NamedRegion (name (codes "R") 133)) NoPost);
              mask = None;
            }) ∷ []) (Write false
            ((Value (Around 142 (name (codes "A") 142) (NamedDir (name (codes "se") 145)))) ∷ [])))
            NoStmt))));
      })) ∷ []);
  source = (codes
      "program t;\nregion R = [1..2, 1..3]; direction se = [1, 1]; var A : [R] integer;\nprocedure t();\nbegin\n[R] A := 10 * Index1 + Index2;\n[R] write(A@^se);\nend;\n");
}

reads_round_both : mean_of torus [] 0 ≡
    record { bytes = (codes "22 23 21\n12 13 11\n"); ending = Done }
unfolding longest_chain int_wrap digits
reads_round_both = refl

-- remap reads
abbrev maps : Program
maps = record {
  name = (name (codes "t") 8);
  decls = ((Regions ((record {
    name = (name (codes
        "R") 18);
    body = (Dims (ThenDim (Span (Number 23 (pos 1)) (Number 26 (pos 4))) NoDim));
    posts = NoPost;
  }) ∷ (record {
    name = (name (codes "Q") 30);
    body = (Dims (ThenDim (Span
        (Number 35 (pos 1)) (Number 38 (pos 2))) (ThenDim (Span (Number 41 (pos 1)) (Number 44 (pos
        2))) NoDim)));
    posts = NoPost;
  }) ∷ [])) ∷ (Vars ((record {
    names = ((name (codes "A") 52) ∷
        []);
    shape = (Bracketed (Rexpr [] (NamedRegion (name (codes "R") 57)) NoPost));
    base =
        Integer;
  }) ∷ (record {
    names = ((name (codes "M") 69) ∷ (name (codes "T") 72) ∷ []);
    shape =
        (Bracketed (Rexpr [] (NamedRegion (name (codes "Q") 77)) NoPost));
    base = Integer;
  }) ∷ []))
      ∷ (Defined (record {
        name = (name (codes "t") 99);
        params = [];
        result = None;
        locals = [];
        body = (Prefixed 104 [] (Block (ThenStmt (Prefixed 114 ((record {
          at = 110;
          region = (Rexpr
              [] (NamedRegion (name (codes "R") 111)) NoPost);
          mask = None;
        }) ∷ []) (Assign (name (codes
            "A") 114) None (Pair 119 op.Mul (Number 119 (pos 10)) (Coord 124 1)))) (ThenStmt (Prefixed
            136 ((record {
              at = 132;
              region = (Rexpr [] (NamedRegion (name (codes "R") 133)) NoPost);
              mask = None;
            }) ∷ []) (Write true ((Value (Remap 144 (name (codes "A") 144) (ThenExpr (Pair
            147 op.Sub (Number 147 (pos 5)) (Coord 151 1)) NoExpr))) ∷ []))) (ThenStmt (Prefixed 165
            ((record {
              at = 161;
              region = (Rexpr [] (NamedRegion (name (codes "Q") 162)) NoPost);
              mask =
                  None;
            }) ∷ []) (Assign (name (codes "M") 165) None (Remap 170 (name (codes "A") 170)
            (ThenExpr (Pair 173 op.Add (Coord 173 1) (Coord 182 2)) NoExpr)))) (ThenStmt (Prefixed 195
            ((record {
              at = 191;
              region = (Rexpr [] (NamedRegion (name (codes "Q") 192)) NoPost);
              mask =
                  None;
            }) ∷ []) (Write false ((Value (Named 201 (name (codes "M") 201))) ∷ []))) (ThenStmt
            (Prefixed 209 ((record {
              at = 205;
              region = (Rexpr [] (NamedRegion (name (codes "Q") 206))
                  NoPost);
              mask = None;
            }) ∷ []) (Assign (name (codes "T") 209) None (Remap 214 (name (codes
            "M") 214) (ThenExpr (Coord 217 2) (ThenExpr (Pair 225 op.Add (Coord 225 1) (Number 234 (pos
            1))) NoExpr))))) NoStmt)))))));
      })) ∷ []);
  source = (codes
      "program t;\nregion R = [1..4]; Q = [1..2, 1..2]; var A : [R] integer; M, T : [Q] integer;\nprocedure t();\nbegin\n[R] A := 10 * Index1;\n[R] writeln(A#[5 - Index1]);\n[Q] M := A#[Index1 + Index2];\n[Q] write(M);\n[Q] T := M#[Index2, Index1 + 1];\nend;\n");
}

remaps : mean_of maps [] 0 ≡
    record { bytes = (codes "40 30 20 10\n20 30\n30 40\n"); ending = Trap OutsideStorage 9 }
unfolding longest_chain int_wrap digits
remaps = refl

-- operators come before the rest of an expression
abbrev masked_maps : Program
masked_maps = record {
  name = (name (codes "t") 8);
  decls = ((Regions ((record {
    name = (name
        (codes "R") 18);
    body = (Dims (ThenDim (Span (Number 23 (pos 1)) (Number 26 (pos 3)))
        NoDim));
    posts = NoPost;
  }) ∷ [])) ∷ (Vars ((record {
    names = ((name (codes "A") 34) ∷ (name
        (codes "B") 37) ∷ []);
    shape = (Bracketed (Rexpr [] (NamedRegion (name (codes "R") 42))
        NoPost));
    base = Integer;
  }) ∷ (record {
    names = ((name (codes "M") 54) ∷ []);
    shape =
        (Bracketed (Rexpr [] (NamedRegion (name (codes "R") 59)) NoPost));
    base = Boolean;
  }) ∷ []))
      ∷ (Defined (record {
        name = (name (codes "t") 81);
        params = [];
        result = None;
        locals = [];
        body = (Prefixed 86 [] (Block (ThenStmt (Prefixed 96 ((record {
          at = 92;
          region = (Rexpr []
              (NamedRegion (name (codes "R") 93)) NoPost);
          mask = None;
        }) ∷ []) (Assign (name (codes "A")
            96) None (Coord 101 1))) (ThenStmt (Prefixed 113 ((record {
              at = 109;
              region = (Rexpr []
                  (NamedRegion (name (codes "R") 110)) NoPost);
              mask = None;
            }) ∷ []) (Assign (name (codes "M")
            113) None (Pair 118 op.Lt (Coord 118 1) (Number 127 (pos 3))))) (ThenStmt (Prefixed 141
            ((record {
              at = 130;
              region = (Rexpr [] (NamedRegion (name (codes "R") 131)) NoPost);
              mask =
                  (Some (record { name = (name (codes "M") 138); without = false }));
            }) ∷ []) (Assign (name
            (codes "B") 141) None (Remap 146 (name (codes "A") 146) (ThenExpr (Pair 149 op.Add (Coord
            149 1) (Number 158 (pos 1))) NoExpr)))) (ThenStmt (Prefixed 166 ((record {
              at = 162;
              region
                  = (Rexpr [] (NamedRegion (name (codes "R") 163)) NoPost);
              mask = None;
            }) ∷ []) (Write true
            ((Value (Named 174 (name (codes "B") 174))) ∷ []))) (ThenStmt (Prefixed 182 ((record {
              at =
                  178;
              region = (Rexpr [] (NamedRegion (name (codes "R") 179)) NoPost);
              mask = None;
            }) ∷ [])
            (Assign (name (codes "B") 182) None (Pair 187 op.Add (Pair 187 op.Div (Number 187 (pos 1))
            (Paren 191 (Pair 192 op.Sub (Named 192 (name (codes "A") 192)) (Named 196 (name (codes "A")
            196))))) (Remap 201 (name (codes "A") 201) (ThenExpr (Number 204 (pos 4)) NoExpr)))))
            NoStmt)))))));
      })) ∷ []);
  source = (codes
      "program t;\nregion R = [1..3]; var A, B : [R] integer; M : [R] boolean;\nprocedure t();\nbegin\n[R] A := Index1;\n[R] M := Index1 < 3;\n[R with M] B := A#[Index1 + 1];\n[R] writeln(B);\n[R] B := 1 / (A - A) + A#[4];\nend;\n");
}

remap_before_divisor : mean_of masked_maps [] 0 ≡
    record { bytes = (codes "2 3 0\n"); ending = Trap OutsideStorage 9 }
unfolding longest_chain int_wrap digits
remap_before_divisor = refl

-- operators in operators, and an operand that isn't used
abbrev every_operand : Program
every_operand = record {
  name = (name (codes "t") 8);
  decls = ((Regions ((record {
    name = (name
        (codes "R") 18);
    body = (Dims (ThenDim (Span (Number 23 (pos 1)) (Number 26 (pos 3)))
        NoDim));
    posts = NoPost;
  }) ∷ [])) ∷ (Vars ((record {
    names = ((name (codes "A") 34) ∷ (name
        (codes "B") 37) ∷ []);
    shape = (Bracketed (Rexpr [] (NamedRegion (name (codes "R") 42))
        NoPost));
    base = Integer;
  }) ∷ (record {
    names = ((name (codes "s") 54) ∷ []);
    shape =
        NoBracket;
    base = Integer;
  }) ∷ [])) ∷ (Defined (record {
    name = (name (codes "t") 77);
    params = [];
    result = None;
    locals = [];
    body = (Prefixed 82 [] (Block (ThenStmt (Prefixed
        92 ((record {
          at = 88;
          region = (Rexpr [] (NamedRegion (name (codes "R") 89)) NoPost);
          mask
              = None;
        }) ∷ []) (Assign (name (codes "A") 92) None (Coord 97 1))) (ThenStmt (Prefixed 112
        ((record {
          at = 105;
          region = (Dims (ThenDim (Span (Number 106 (pos 1)) (Number 109 (pos
              2))) NoDim));
          mask = None;
        }) ∷ []) (Assign (name (codes "s") 112) None (Reduce 117 fold.Sum
        NoBracket (Paren 120 (Pair 121 op.Add (Named 121 (name (codes "A") 121)) (Reduce 125
        fold.Max NoBracket (Named 130 (name (codes "A") 130)))))))) (ThenStmt (Prefixed 134 []
        (Write true ((Value (Named 142 (name (codes "s") 142))) ∷ []))) (ThenStmt (Prefixed 150
        ((record {
          at = 146;
          region = (Rexpr [] (NamedRegion (name (codes "R") 147)) NoPost);
          mask =
              None;
        }) ∷ []) (Assign (name (codes "B") 150) None (Pair 155 op.Add (Pair 155 op.Mul (Paren
        155 (Reduce 156 fold.Sum NoBracket (Named 159 (name (codes "A") 159)))) (Named 164 (name
        (codes "A") 164))) (Scan 168 fold.Max None (Paren 173 (Pair 174 op.Sub (Number 174 (pos 3))
        (Named 178 (name (codes "A") 178)))))))) (ThenStmt (Prefixed 186 ((record {
          at = 182;
          region
              = (Rexpr [] (NamedRegion (name (codes "R") 183)) NoPost);
          mask = None;
        }) ∷ []) (Write true
        ((Value (Named 194 (name (codes "B") 194))) ∷ []))) (ThenStmt (Prefixed 202 ((record {
          at =
              198;
          region = (Rexpr [] (NamedRegion (name (codes "R") 199)) NoPost);
          mask = None;
        }) ∷ [])
        (Assign (name (codes "s") 202) None (Pair 207 op.Mul (Number 207 (pos 0)) (Reduce 211
        fold.Sum NoBracket (Paren 214 (Pair 215 op.Div (Number 215 (pos 1)) (Paren 219 (Pair 220
        op.Sub (Named 220 (name (codes "A") 220)) (Number 224 (pos 2)))))))))) NoStmt))))))));
  })) ∷
      []);
  source = (codes
      "program t;\nregion R = [1..3]; var A, B : [R] integer; s : integer;\nprocedure t();\nbegin\n[R] A := Index1;\n[1..2] s := +<<(A + max<<A);\nwriteln(s);\n[R] B := (+<<A) * A + max||(3 - A);\n[R] writeln(B);\n[R] s := 0 * +<<(1 / (A - 2));\nend;\n");
}

nested_operators : mean_of every_operand [] 0 ≡
    record { bytes = (codes "7\n8 14 20\n"); ending = Trap DivideByZero 10 }
unfolding longest_chain int_wrap digits
nested_operators = refl
