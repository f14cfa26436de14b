-- Programs whose meaning ends, and for whose code the turns that a call gives are enough where its
-- words tell no number: `HasTurns` is met. They are those of `examples/sum.zpl`, for one processor,
-- and of `examples/jacobi.zpl`, for four and a plate of three by three.
use Rattle.std.proofs.Common.{◌≡◌, ◌≤◌, ℕ, true, false, List, [], ◌∷◌, Some, None, pos, codes, refl, sym, ◌∙◌, subst, arith}
use Rattle.std.specs.Fmt.{digits}
use Rattle.std.specs.Int.{int_wrap}
use Rattle.zpl_nums.specs.declared.ends.End.TheVariants.{Done, More}
use Rattle.zpl_nums.specs.declared.folds.Fold.TheVariants as fold
use Rattle.zpl_nums.specs.declared.operators.Op.TheVariants as op
use Rattle.zpl_tree.specs.Syntax.{Name, NamedRegion, Number, Named, Shifted, Paren, Neg, Abs, Pair, Reduce, NoExpr, ThenExpr, NamedDir, Rexpr, Dims, NoBracket, Bracketed, NoPost, Span, NoDim, ThenDim, Str, Value, Prefixed, NoStmt, ThenStmt, Assign, Block, While, Repeat, Write, Integer, Config, Regions, Directions, Vars, Defined, Program}
use Rattle.zpl_names.specs.Expansion.{shattered_loops}
use Rattle.zpl_names.specs.Reached.{longest_chain}
use Rattle.zpl_binding.specs.Settings.{Setting}
use Rattle.zpl_meaning.specs.Program.{mean_of, steps_of}
use Rattle.zpl_claims.specs.Bound.{turn_bound}
use Rattle.zpl_claims.specs.Build.{Build, plain_build}
use Rattle.call_claims.specs.declared.limits.TheConstants.{MOST_TURNS}
use Rattle.list_claims.specs.of_zpl_compile.Compile.{compiled}
use Rattle.run_claims.specs.Whole.{HasTurns}

abbrev name : List ℕ → ℕ → Name
name text at = record { text = text; at = at }

-- ---- a sum
abbrev sums : Program
sums = record { name = (name (codes "sum") 71); decls = ((Vars (record { names = ((name (codes "i") 80) ∷ (name (codes "s") 83) ∷ []); shape = NoBracket; base = Integer } ∷ [])) ∷ (Defined record { name = (name (codes "sum") 106); params = []; result = None; locals = ([]); body = (Prefixed 113 ([]) (Block (ThenStmt (Prefixed 121 ([]) (Assign (name (codes "i") 121) None (Number 126 (pos 1)))) (ThenStmt (Prefixed 131 ([]) (While (Pair 137 op.Le (Named 137 (name (codes "i") 137)) (Number 142 (pos 10))) (ThenStmt (Prefixed 152 ([]) (Assign (name (codes "s") 152) None (Pair 157 op.Add (Named 157 (name (codes "s") 157)) (Named 161 (name (codes "i") 161))))) (ThenStmt (Prefixed 168 ([]) (Assign (name (codes "i") 168) None (Pair 173 op.Add (Named 173 (name (codes "i") 173)) (Number 177 (pos 1))))) NoStmt)))) (ThenStmt (Prefixed 189 ([]) (Write true ((Str (codes "sum ")) ∷ (Value (Named 205 (name (codes "s") 205))) ∷ []))) NoStmt))))) }) ∷ []); source = (codes "-- The sum of the numbers from 1 to 10.\n-- Prints:\n--   sum 55\nprogram sum;\nvar i, s : integer;\nprocedure sum();\nbegin\n  i := 1;\n  while i <= 10 do\n    s := s + i;\n    i := i + 1;\n  end;\n  writeln(\"sum \", s);\nend;\n") }

abbrev alone : Build
alone = plain_build None []

sum_ends : (mean_of sums [] 10).ending ≡ Done
unfolding longest_chain int_wrap digits
sum_ends = refl

sum_bound : turn_bound (compiled alone sums) (steps_of sums []) (shattered_loops sums) 10 ≡ 193407746048
unfolding longest_chain int_wrap digits
sum_bound = refl

sum_has_turns : HasTurns alone sums 10 MOST_TURNS
sum_has_turns = record {
  ends = λ more. let no : Done ≡ More = sym sum_ends ∙ more in cc;
  enough = subst (λ k. k ≤ MOST_TURNS) (sym sum_bound) (omega arith);
}

-- ---- heat in a plate
abbrev plates : Program
plates = record { name = (name (codes "jacobi") 388); decls = ((Config (record { name = (name (codes "size") 407); base = Integer; value = (Number 424 (pos 8)) } ∷ record { name = (name (codes "slack") 438); base = Integer; value = (Number 456 (pos 1)) } ∷ [])) ∷ (Regions (record { name = (name (codes "Plate") 466); body = (Dims (ThenDim (Span (Number 475 (pos 1)) (Named 478 (name (codes "size") 478))) (ThenDim (Span (Number 484 (pos 1)) (Named 487 (name (codes "size") 487))) NoDim))); posts = NoPost } ∷ [])) ∷ (Directions (record { name = (name (codes "up") 504); parts = (ThenExpr (Neg 510 (Number 511 (pos 1))) (ThenExpr (Number 514 (pos 0)) NoExpr)) } ∷ record { name = (name (codes "down") 518); parts = (ThenExpr (Number 526 (pos 1)) (ThenExpr (Number 529 (pos 0)) NoExpr)) } ∷ record { name = (name (codes "left") 533); parts = (ThenExpr (Number 541 (pos 0)) (ThenExpr (Neg 544 (Number 545 (pos 1))) NoExpr)) } ∷ record { name = (name (codes "right") 549); parts = (ThenExpr (Number 558 (pos 0)) (ThenExpr (Number 561 (pos 1)) NoExpr)) } ∷ [])) ∷ (Vars (record { names = ((name (codes "Heat") 569) ∷ (name (codes "Next") 575) ∷ []); shape = (Bracketed (Rexpr ([]) (NamedRegion (name (codes "Plate") 583)) NoPost)); base = Integer } ∷ record { names = ((name (codes "sweeps") 603) ∷ (name (codes "change") 611) ∷ []); shape = NoBracket; base = Integer } ∷ [])) ∷ (Defined record { name = (name (codes "jacobi") 639); params = []; result = None; locals = ([]); body = (Prefixed 657 (record { at = 649; region = (Rexpr ([]) (NamedRegion (name (codes "Plate") 650)) NoPost); mask = None } ∷ []) (Block (ThenStmt (Prefixed 679 (record { at = 665; region = (Rexpr (record { dir = (name (codes "up") 666); outside = true } ∷ []) (NamedRegion (name (codes "Plate") 672)) NoPost); mask = None } ∷ []) (Assign (name (codes "Heat") 679) None (Number 687 (pos 0)))) (ThenStmt (Prefixed 708 (record { at = 692; region = (Rexpr (record { dir = (name (codes "left") 693); outside = true } ∷ []) (NamedRegion (name (codes "Plate") 701)) NoPost); mask = None } ∷ []) (Assign (name (codes "Heat") 708) None (Number 716 (pos 0)))) (ThenStmt (Prefixed 738 (record { at = 721; region = (Rexpr (record { dir = (name (codes "right") 722); outside = true } ∷ []) (NamedRegion (name (codes "Plate") 731)) NoPost); mask = None } ∷ []) (Assign (name (codes "Heat") 738) None (Number 746 (pos 0)))) (ThenStmt (Prefixed 767 (record { at = 751; region = (Rexpr (record { dir = (name (codes "down") 752); outside = true } ∷ []) (NamedRegion (name (codes "Plate") 760)) NoPost); mask = None } ∷ []) (Assign (name (codes "Heat") 767) None (Number 775 (pos 1000)))) (ThenStmt (Prefixed 783 ([]) (Repeat (ThenStmt (Prefixed 794 ([]) (Assign (name (codes "Next") 794) None (Pair 802 op.Div (Paren 802 (Pair 803 op.Add (Pair 803 op.Add (Pair 803 op.Add (Shifted 803 (name (codes "Heat") 803) (NamedDir (name (codes "up") 808))) (Shifted 813 (name (codes "Heat") 813) (NamedDir (name (codes "down") 818)))) (Shifted 825 (name (codes "Heat") 825) (NamedDir (name (codes "left") 830)))) (Shifted 837 (name (codes "Heat") 837) (NamedDir (name (codes "right") 842))))) (Number 851 (pos 4))))) (ThenStmt (Prefixed 858 ([]) (Assign (name (codes "change") 858) None (Reduce 868 fold.Max NoBracket (Abs 873 (Pair 877 op.Sub (Named 877 (name (codes "Next") 877)) (Named 884 (name (codes "Heat") 884))))))) (ThenStmt (Prefixed 895 ([]) (Assign (name (codes "Heat") 895) None (Named 903 (name (codes "Next") 903)))) (ThenStmt (Prefixed 913 ([]) (Assign (name (codes "sweeps") 913) (Some op.Add) (Number 923 (pos 1)))) NoStmt)))) 928 (Pair 934 op.Lt (Named 934 (name (codes "change") 934)) (Named 943 (name (codes "slack") 943))))) (ThenStmt (Prefixed 952 ([]) (Write true ((Value (Named 960 (name (codes "sweeps") 960))) ∷ (Str (codes " sweeps")) ∷ []))) (ThenStmt (Prefixed 982 ([]) (Write false ((Value (Named 988 (name (codes "Heat") 988))) ∷ []))) NoStmt))))))))) }) ∷ []); source = (codes "-- Heat in a plate, by Jacobi's method: its south edge is kept at 1000 and the others at 0, and each place\n-- becomes the mean of its four neighbours, until no place changes by `slack` or more.\n-- Command: mean\n-- Words: size:=5 slack:=10\n-- Prints:\n--   14 sweeps\n--   18 30 35 30 18\n--   48 81 92 81 48\n--   107 174 195 174 107\n--   221 336 371 336 221\n--   454 604 640 604 454\nprogram jacobi;\nconfig var size : integer = 8;\n           slack : integer = 1;\nregion Plate = [1..size, 1..size];\ndirection up = [-1, 0]; down = [1, 0]; left = [0, -1]; right = [0, 1];\nvar Heat, Next : [Plate] integer;\n    sweeps, change : integer;\nprocedure jacobi();\n[Plate] begin\n  [up of Plate] Heat := 0;\n  [left of Plate] Heat := 0;\n  [right of Plate] Heat := 0;\n  [down of Plate] Heat := 1000;\n  repeat\n    Next := (Heat@up + Heat@down + Heat@left + Heat@right) / 4;\n    change := max<<abs(Next - Heat);\n    Heat := Next;\n    sweeps += 1;\n  until change < slack;\n  writeln(sweeps, \" sweeps\");\n  write(Heat);\nend;\n") }

abbrev small : List Setting
small = record { name = codes "size"; value = codes "3" }
    ∷ record { name = codes "slack"; value = codes "10" } ∷ []

abbrev on_four : Build
on_four = record (plain_build None small) { grid = 2 ∷ 2 ∷ 0 ∷ [] }

plates_end : (mean_of plates small 8).ending ≡ Done
unfolding longest_chain int_wrap digits
plates_end = refl

plates_bound :
    turn_bound (compiled on_four plates) (steps_of plates small) (shattered_loops plates) 8 ≡ 16621523435520
unfolding longest_chain int_wrap digits
plates_bound = refl

plates_have_turns : HasTurns on_four plates 8 MOST_TURNS
plates_have_turns = record {
  ends = λ more. let no : Done ≡ More = sym plates_end ∙ more in cc;
  enough = subst (λ k. k ≤ MOST_TURNS) (sym plates_bound) (omega arith);
}
