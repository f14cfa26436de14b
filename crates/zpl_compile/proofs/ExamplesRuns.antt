-- Programs compiled for two processors and four: their plans show what the programs mean.
use Rattle.std.proofs.Common.{◌≡◌, ℕ, true, false, List, [], ◌∷◌, Some, None, pos, codes, refl}
use Rattle.std.specs.Fmt.{digits}
use Rattle.std.specs.Int.{int_wrap}
use Rattle.zpl_nums.specs.declared.operators.Op.TheVariants as op
use Rattle.zpl_nums.specs.declared.folds.Fold.TheVariants as fold
use Rattle.zpl_nums.specs.declared.ends.Border.TheVariants as border
use Rattle.zpl_tree.specs.Syntax.{Name, NamedRegion, Number, Coord, Named, Shifted, Paren, Pair, Reduce, Flood, NoExpr, ThenExpr, NamedDir, Rexpr, Dims, NoBracket, Bracketed, NoPost, Star, One, Span, NoDim, ThenDim, Str, Value, Prefixed, NoStmt, ThenStmt, Assign, Block, Border, Write, Integer, Boolean, Regions, Directions, Vars, Defined, Program}
use Rattle.zpl_names.specs.Reached.{longest_chain}
use Rattle.row_runs.specs.Run.{Ends, Result}
use Rattle.zpl_nums.specs.declared.ends.End.TheVariants.{Done}
use Rattle.zpl_claims.specs.of_zpl_meaning.Program.{Meaning, mean_of}
use Rattle.zpl_claims.specs.declared.options.Options.{Options}
use Rattle.zpl_claims.specs.Build.{Build, no_options, plain_build}
use Rattle.plan_meaning.specs.Act.{plan_run}
use Rattle.zpl_compile.specs.Compile.{compiled}

abbrev name : List ℕ → ℕ → Name
name text at = record { text = text; at = at }

abbrev seen : Meaning → Result
seen meaning = record { bytes = meaning.bytes; stop = Ends meaning.ending }

abbrev built_on : List ℕ → Options → Build
built_on grid options =
    record (plain_build None []) { grid = grid; options = options }

abbrev square : Program
square = (record { name = (name (codes "t") 8); decls = ((Regions ((record { name = (name (codes "R") 18); body = (Dims (ThenDim (Span (Number 23 (pos 1)) (Number 26 (pos 2))) (ThenDim (Span (Number 29 (pos 1)) (Number 32 (pos 4))) NoDim))); posts = NoPost }) ∷ [])) ∷ (Directions ((record { name = (name (codes "e") 46); parts = (ThenExpr (Number 51 (pos 0)) (ThenExpr (Number 54 (pos 1)) NoExpr)) }) ∷ [])) ∷ (Vars ((record { names = ((name (codes "A") 62) ∷ (name (codes "B") 65) ∷ []); shape = (Bracketed (Rexpr ([]) (NamedRegion (name (codes "R") 70)) NoPost)); base = Integer }) ∷ [])) ∷ (Defined (record { name = (name (codes "t") 92); params = ([]); result = None; locals = ([]); body = (Prefixed 97 ([]) (Block (ThenStmt (Prefixed 109 ((record { at = 105; region = (Rexpr ([]) (NamedRegion (name (codes "R") 106)) NoPost); mask = None }) ∷ []) (Assign (name (codes "A") 109) None (Pair 114 op.Add (Pair 114 op.Mul (Coord 114 1) (Number 123 (pos 10))) (Coord 128 2)))) (ThenStmt (Prefixed 151 ((record { at = 138; region = (Dims (ThenDim (Span (Number 139 (pos 1)) (Number 142 (pos 2))) (ThenDim (Span (Number 145 (pos 1)) (Number 148 (pos 3))) NoDim))); mask = None }) ∷ []) (Assign (name (codes "B") 151) None (Pair 156 op.Add (Shifted 156 (name (codes "A") 156) (NamedDir (name (codes "e") 158))) (Number 162 (pos 1))))) (ThenStmt (Prefixed 180 ((record { at = 167; region = (Dims (ThenDim (Span (Number 168 (pos 1)) (Number 171 (pos 2))) (ThenDim (Span (Number 174 (pos 1)) (Number 177 (pos 3))) NoDim))); mask = None }) ∷ []) (Assign (name (codes "A") 180) None (Pair 185 op.Add (Shifted 185 (name (codes "B") 185) (NamedDir (name (codes "e") 187))) (Shifted 191 (name (codes "A") 191) (NamedDir (name (codes "e") 193)))))) (ThenStmt (Prefixed 202 ((record { at = 198; region = (Rexpr ([]) (NamedRegion (name (codes "R") 199)) NoPost); mask = None }) ∷ []) (Write true ((Value (Reduce 210 fold.Sum NoBracket (Named 213 (name (codes "A") 213)))) ∷ []))) NoStmt)))))) })) ∷ []); source = (codes "program t;\nregion R = [1..2, 1..4];\ndirection e = [0, 1];\nvar A, B : [R] integer;\nprocedure t();\nbegin\n  [R] A := Index1 * 10 + Index2;\n  [1..2, 1..3] B := A@e + 1;\n  [1..2, 1..3] A := B@e + A@e;\n  [R] writeln(+<<A);\nend;\n") })

square_means : seen (mean_of square [] 0) ≡ record { bytes = codes "224\n"; stop = Ends Done }
unfolding longest_chain int_wrap digits
square_means = refl

square_plain :
    plan_run (compiled (built_on (2 ∷ 0 ∷ 0 ∷ []) no_options) square) None 1 0
    ≡ record { bytes = codes "224\n"; stop = Ends Done }
unfolding longest_chain int_wrap digits
square_plain = refl

square_all :
    plan_run (compiled (built_on (2 ∷ 2 ∷ 0 ∷ []) (record no_options { fuse = true; contract = true; redundant = true; merge = true; early = true; tree = true })) square) None 1 0
    ≡ record { bytes = codes "224\n"; stop = Ends Done }
unfolding longest_chain int_wrap digits
square_all = refl

abbrev operators : Program
operators = (record { name = (name (codes "t") 8); decls = ((Regions ((record { name = (name (codes "R") 18); body = (Dims (ThenDim (Span (Number 23 (pos 1)) (Number 26 (pos 2))) (ThenDim (Span (Number 29 (pos 1)) (Number 32 (pos 4))) NoDim))); posts = NoPost }) ∷ (record { name = (name (codes "D") 36); body = (Dims (ThenDim (Star 41) (ThenDim (Span (Number 44 (pos 1)) (Number 47 (pos 4))) NoDim))); posts = NoPost }) ∷ [])) ∷ (Directions ((record { name = (name (codes "e") 61); parts = (ThenExpr (Number 66 (pos 0)) (ThenExpr (Number 69 (pos 1)) NoExpr)) }) ∷ (record { name = (name (codes "s") 73); parts = (ThenExpr (Number 78 (pos 1)) (ThenExpr (Number 81 (pos 0)) NoExpr)) }) ∷ [])) ∷ (Vars ((record { names = ((name (codes "A") 89) ∷ []); shape = (Bracketed (Dims (ThenDim (Span (Number 94 (pos 0)) (Number 97 (pos 3))) (ThenDim (Span (Number 100 (pos 0)) (Number 103 (pos 5))) NoDim)))); base = Integer }) ∷ (record { names = ((name (codes "F") 115) ∷ []); shape = (Bracketed (Rexpr ([]) (NamedRegion (name (codes "D") 120)) NoPost)); base = Integer }) ∷ (record { names = ((name (codes "M") 132) ∷ []); shape = (Bracketed (Rexpr ([]) (NamedRegion (name (codes "R") 137)) NoPost)); base = Boolean }) ∷ [])) ∷ (Defined (record { name = (name (codes "t") 159); params = ([]); result = None; locals = ([]); body = (Prefixed 164 ([]) (Block (ThenStmt (Prefixed 176 ((record { at = 172; region = (Rexpr ([]) (NamedRegion (name (codes "R") 173)) NoPost); mask = None }) ∷ []) (Assign (name (codes "A") 176) None (Pair 181 op.Add (Pair 181 op.Mul (Coord 181 1) (Number 190 (pos 3))) (Coord 194 2)))) (ThenStmt (Prefixed 213 ((record { at = 204; region = (Rexpr ((record { dir = (name (codes "e") 205); outside = true }) ∷ []) (NamedRegion (name (codes "R") 210)) NoPost); mask = None }) ∷ []) (Border border.Wrap ((name (codes "A") 218) ∷ []))) (ThenStmt (Prefixed 232 ((record { at = 223; region = (Rexpr ((record { dir = (name (codes "s") 224); outside = true }) ∷ []) (NamedRegion (name (codes "R") 229)) NoPost); mask = None }) ∷ []) (Border border.Reflect ((name (codes "A") 240) ∷ []))) (ThenStmt (Prefixed 249 ((record { at = 245; region = (Rexpr ([]) (NamedRegion (name (codes "R") 246)) NoPost); mask = None }) ∷ []) (Assign (name (codes "M") 249) None (Pair 254 op.Gt (Shifted 254 (name (codes "A") 254) (NamedDir (name (codes "e") 256))) (Number 260 (pos 6))))) (ThenStmt (Prefixed 276 ((record { at = 265; region = (Rexpr ([]) (NamedRegion (name (codes "R") 266)) NoPost); mask = (Some (record { name = (name (codes "M") 273); without = false })) }) ∷ []) (Assign (name (codes "A") 276) None (Pair 281 op.Sub (Shifted 281 (name (codes "A") 281) (NamedDir (name (codes "s") 283))) (Shifted 287 (name (codes "A") 287) (NamedDir (name (codes "e") 289)))))) (ThenStmt (Prefixed 298 ((record { at = 294; region = (Rexpr ([]) (NamedRegion (name (codes "D") 295)) NoPost); mask = None }) ∷ []) (Assign (name (codes "F") 298) None (Reduce 303 fold.Max (Bracketed (Rexpr ([]) (NamedRegion (name (codes "R") 309)) NoPost)) (Named 312 (name (codes "A") 312))))) (ThenStmt (Prefixed 321 ((record { at = 317; region = (Rexpr ([]) (NamedRegion (name (codes "R") 318)) NoPost); mask = None }) ∷ []) (Assign (name (codes "A") 321) None (Pair 326 op.Add (Named 326 (name (codes "A") 326)) (Named 330 (name (codes "F") 330))))) (ThenStmt (Prefixed 339 ((record { at = 335; region = (Rexpr ([]) (NamedRegion (name (codes "R") 336)) NoPost); mask = None }) ∷ []) (Assign (name (codes "A") 339) None (Pair 344 op.Add (Named 344 (name (codes "A") 344)) (Flood 348 (Dims (ThenDim (One (Number 351 (pos 1))) (ThenDim (Span (Number 354 (pos 1)) (Number 357 (pos 4))) NoDim))) (Named 360 (name (codes "A") 360)))))) (ThenStmt (Prefixed 369 ((record { at = 365; region = (Rexpr ([]) (NamedRegion (name (codes "R") 366)) NoPost); mask = None }) ∷ []) (Write true ((Value (Reduce 377 fold.Sum NoBracket (Paren 380 (Pair 381 op.Mul (Named 381 (name (codes "A") 381)) (Coord 385 2))))) ∷ (Str (codes " ")) ∷ (Value (Reduce 399 fold.All NoBracket (Named 402 (name (codes "M") 402)))) ∷ []))) NoStmt))))))))))) })) ∷ []); source = (codes "program t;\nregion R = [1..2, 1..4]; D = [*, 1..4];\ndirection e = [0, 1]; s = [1, 0];\nvar A : [0..3, 0..5] integer; F : [D] integer; M : [R] boolean;\nprocedure t();\nbegin\n  [R] A := Index1 * 3 + Index2;\n  [e of R] wrap A;\n  [s of R] reflect A;\n  [R] M := A@e > 6;\n  [R with M] A := A@s - A@e;\n  [D] F := max<<[R] A;\n  [R] A := A + F;\n  [R] A := A + >>[1, 1..4] A;\n  [R] writeln(+<<(A * Index2), \" \", &<<M);\nend;\n") })

operators_means : seen (mean_of operators [] 0) ≡ record { bytes = codes "342 false\n"; stop = Ends Done }
unfolding longest_chain int_wrap digits
operators_means = refl

operators_plain :
    plan_run (compiled (built_on (2 ∷ 0 ∷ 0 ∷ []) no_options) operators) None 4 0
    ≡ record { bytes = codes "342 false\n"; stop = Ends Done }
unfolding longest_chain int_wrap digits
operators_plain = refl

operators_all :
    plan_run (compiled (built_on (2 ∷ 2 ∷ 0 ∷ []) (record no_options { fuse = true; contract = true; redundant = true; merge = true; early = true; tree = true })) operators) None 4 0
    ≡ record { bytes = codes "342 false\n"; stop = Ends Done }
unfolding longest_chain int_wrap digits
operators_all = refl

abbrev line : Program
line = (record { name = (name (codes "t") 8); decls = ((Regions ((record { name = (name (codes "R") 18); body = (Dims (ThenDim (Span (Number 23 (pos 1)) (Number 26 (pos 4))) NoDim)); posts = NoPost }) ∷ [])) ∷ (Directions ((record { name = (name (codes "e") 40); parts = (ThenExpr (Number 45 (pos 1)) NoExpr) }) ∷ [])) ∷ (Vars ((record { names = ((name (codes "A") 53) ∷ (name (codes "B") 56) ∷ (name (codes "C") 59) ∷ []); shape = (Bracketed (Rexpr ([]) (NamedRegion (name (codes "R") 64)) NoPost)); base = Integer }) ∷ [])) ∷ (Defined (record { name = (name (codes "t") 86); params = ([]); result = None; locals = ([]); body = (Prefixed 91 ([]) (Block (ThenStmt (Prefixed 103 ((record { at = 99; region = (Rexpr ([]) (NamedRegion (name (codes "R") 100)) NoPost); mask = None }) ∷ []) (Assign (name (codes "A") 103) None (Coord 108 1))) (ThenStmt (Prefixed 125 ((record { at = 118; region = (Dims (ThenDim (Span (Number 119 (pos 1)) (Number 122 (pos 3))) NoDim)); mask = None }) ∷ []) (Block (ThenStmt (Prefixed 131 ([]) (Assign (name (codes "B") 131) None (Pair 136 op.Add (Shifted 136 (name (codes "A") 136) (NamedDir (name (codes "e") 138))) (Number 142 (pos 1))))) (ThenStmt (Prefixed 145 ([]) (Assign (name (codes "C") 145) None (Named 150 (name (codes "B") 150)))) (ThenStmt (Prefixed 153 ([]) (Assign (name (codes "A") 153) None (Pair 158 op.Add (Named 158 (name (codes "C") 158)) (Shifted 162 (name (codes "A") 162) (NamedDir (name (codes "e") 164)))))) NoStmt))))) (ThenStmt (Prefixed 178 ((record { at = 174; region = (Rexpr ([]) (NamedRegion (name (codes "R") 175)) NoPost); mask = None }) ∷ []) (Write true ((Value (Reduce 186 fold.Sum NoBracket (Named 189 (name (codes "A") 189)))) ∷ []))) NoStmt))))) })) ∷ []); source = (codes "program t;\nregion R = [1..4];\ndirection e = [1];\nvar A, B, C : [R] integer;\nprocedure t();\nbegin\n  [R] A := Index1;\n  [1..3] begin B := A@e + 1; C := B; A := C + A@e; end;\n  [R] writeln(+<<A);\nend;\n") })

line_means : seen (mean_of line [] 0) ≡ record { bytes = codes "25\n"; stop = Ends Done }
unfolding longest_chain int_wrap digits
line_means = refl

line_all :
    plan_run (compiled (built_on (2 ∷ 0 ∷ 0 ∷ []) (record no_options { fuse = true; contract = true; redundant = true; merge = true; early = true; tree = true })) line) None 1 0
    ≡ record { bytes = codes "25\n"; stop = Ends Done }
unfolding longest_chain int_wrap digits
line_all = refl
