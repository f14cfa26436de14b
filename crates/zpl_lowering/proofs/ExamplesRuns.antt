-- Flat programs show what the programs mean.
use Rattle.std.proofs.Common.{◌≡◌, ℕ, ℤ, Bool, true, false, List, [], ◌∷◌, Some, None, pos, negsuc, codes, refl}
use Rattle.std.specs.Prelude.{length, slice_get, take, drop}
use Rattle.std.specs.Fmt.{digits}
use Rattle.std.specs.Int.{int_wrap}
use Rattle.zpl_meaning.specs.of_zpl_nums.declared.operators.Op.TheVariants as op
use Rattle.zpl_meaning.specs.of_zpl_nums.declared.folds.Fold.TheVariants as fold
use Rattle.zpl_meaning.specs.of_zpl_nums.declared.ends.Border.TheVariants as border
use Rattle.zpl_meaning.specs.of_zpl_nums.declared.ends.TrapKind.TheVariants as trap
use Rattle.zpl_meaning.specs.of_zpl_region.declared.dims.Dim.TheVariants as dim
use Rattle.text_sharing.specs.of_node_form.declared.words.ExprOp.TheVariants as word
use Rattle.text_sharing.specs.of_node_form.declared.instructions.RegionForm.TheVariants as form
use Rattle.text_sharing.specs.of_node_form.declared.instructions.SameKind.TheVariants as same
use Rattle.zpl_meaning.specs.of_zpl_tree.Syntax.{Name, NamedRegion, Ditto, Number, Truth, Coord, Named, Shifted, Around, Remap, Call, Paren, Neg, Not, Abs, Pair, Reduce, Scan, Flood, NoExpr, ThenExpr, NamedDir, Vector, Rexpr, Dims, NoBracket, Bracketed, NoPost, ThenPost, Blank, Star, One, Span, NoDim, ThenDim, Str, Value, Prefixed, NoStmt, ThenStmt, Assign, Invoke, Block, If, While, Repeat, For, Border, Write, Return, Tested, NoArm, ThenArm, NoElse, Else, Integer, Boolean, Config, Constant, Regions, Directions, Vars, Defined, Program}
use Rattle.zpl_meaning.specs.of_zpl_names.Reached.{longest_chain}
use Rattle.text_sharing.specs.of_row_runs.Code.{CodeRow, Straight, Jump, Unless}
use Rattle.text_sharing.specs.of_row_runs.Structured.{flattened}
use Rattle.text_sharing.specs.of_flat_form.Row as row
use Rattle.text_sharing.specs.of_node_form.declared.instructions.Instr.TheVariants as instr
use Rattle.zpl_lowering.specs.Tables.{flat_tables}
use Rattle.text_sharing.specs.of_row_runs.Run.{Ends, Result}
use Rattle.text_sharing.specs.of_flat_form.Act.{flat_run}
use Rattle.zpl_meaning.specs.Program.{Meaning, mean_of}

abbrev name : List ℕ → ℕ → Name
name text at = record { text = text; at = at }

abbrev seen : Meaning → Result
seen meaning = record { bytes = meaning.bytes; stop = Ends meaning.ending }

abbrev scalars : Program
scalars = (record { name = (name (codes "t") 8); decls = ((Vars ((record { names = ((name (codes "i") 15) ∷ (name (codes "s") 18) ∷ []); shape = NoBracket; base = Integer }) ∷ [])) ∷ (Defined (record { name = (name (codes "t") 41); params = ([]); result = None; locals = ([]); body = (Prefixed 46 ([]) (Block (ThenStmt (Prefixed 54 ([]) (Assign (name (codes "i") 54) None (Number 59 (pos 1)))) (ThenStmt (Prefixed 64 ([]) (While (Pair 70 op.Le (Named 70 (name (codes "i") 70)) (Number 75 (pos 10))) (ThenStmt (Prefixed 81 ([]) (Assign (name (codes "s") 81) None (Pair 86 op.Add (Named 86 (name (codes "s") 86)) (Named 90 (name (codes "i") 90))))) (ThenStmt (Prefixed 93 ([]) (Assign (name (codes "i") 93) None (Pair 98 op.Add (Named 98 (name (codes "i") 98)) (Number 102 (pos 1))))) NoStmt)))) (ThenStmt (Prefixed 112 ([]) (For (record { name = (name (codes "i") 116); first = (Number 121 (pos 1)); down = false; last = (Named 126 (name (codes "s") 126)); step = (Some (Number 131 (pos 2))) }) (ThenStmt (Prefixed 136 ([]) (Assign (name (codes "s") 136) (Some op.Sub) (Number 141 (pos 1)))) NoStmt))) (ThenStmt (Prefixed 151 ([]) (If (ThenArm (Tested 151 (Pair 154 op.Eq (Named 154 (name (codes "s") 154)) (Number 158 (pos 1))) (ThenStmt (Prefixed 165 ([]) (Write true ((Str (codes "one")) ∷ []))) NoStmt)) (ThenArm (Tested 181 (Pair 187 op.Gt (Named 187 (name (codes "s") 187)) (Number 191 (pos 2))) (ThenStmt (Prefixed 198 ([]) (Write true ((Str (codes "two ")) ∷ (Value (Named 214 (name (codes "s") 214))) ∷ []))) NoStmt)) NoArm)) (Else (ThenStmt (Prefixed 223 ([]) (Assign (name (codes "s") 223) None (Number 228 (pos 3)))) NoStmt)))) (ThenStmt (Prefixed 238 ([]) (Repeat (ThenStmt (Prefixed 245 ([]) (Assign (name (codes "i") 245) None (Pair 250 op.Sub (Named 250 (name (codes "i") 250)) (Number 254 (pos 1))))) NoStmt) 257 (Pair 263 op.Lt (Named 263 (name (codes "i") 263)) (Number 267 (pos 0))))) (ThenStmt (Prefixed 272 ([]) (If (ThenArm (Tested 272 (Pair 275 op.Eq (Named 275 (name (codes "i") 275)) (Number 279 (pos 4))) (ThenStmt (Prefixed 286 ([]) (Assign (name (codes "i") 286) None (Number 291 (pos 5)))) NoStmt)) NoArm) NoElse)) (ThenStmt (Prefixed 301 ([]) (Write true ((Value (Pair 309 op.Lt (Named 309 (name (codes "i") 309)) (Named 313 (name (codes "s") 313)))) ∷ []))) NoStmt))))))))) })) ∷ []); source = (codes "program t;\nvar i, s : integer;\nprocedure t();\nbegin\n  i := 1;\n  while i <= 10 do s := s + i; i := i + 1; end;\n  for i := 1 to s by 2 do s -= 1; end;\n  if s = 1 then writeln(\"one\"); elsif s > 2 then writeln(\"two \", s); else s := 3; end;\n  repeat i := i - 1; until i < 0;\n  if i = 4 then i := 5; end;\n  writeln(i < s);\nend;\n") })

scalars_alike : flat_run (flat_tables scalars []) 600 100 ≡ seen (mean_of scalars [] 100)
unfolding longest_chain int_wrap digits
scalars_alike = refl

abbrev array : Program
array = (record { name = (name (codes "t") 8); decls = ((Regions ((record { name = (name (codes "R") 18); body = (Dims (ThenDim (Span (Number 23 (pos 1)) (Number 26 (pos 2))) NoDim)); posts = NoPost }) ∷ [])) ∷ (Vars ((record { names = ((name (codes "A") 35) ∷ []); shape = (Bracketed (Rexpr ([]) (NamedRegion (name (codes "R") 40)) NoPost)); base = Integer }) ∷ [])) ∷ (Defined (record { name = (name (codes "t") 62); params = ([]); result = None; locals = ([]); body = (Prefixed 67 ([]) (Block (ThenStmt (Prefixed 79 ((record { at = 75; region = (Rexpr ([]) (NamedRegion (name (codes "R") 76)) NoPost); mask = None }) ∷ []) (Assign (name (codes "A") 79) None (Coord 84 1))) (ThenStmt (Prefixed 98 ((record { at = 94; region = (Rexpr ([]) (NamedRegion (name (codes "R") 95)) NoPost); mask = None }) ∷ []) (Write true ((Value (Named 106 (name (codes "A") 106))) ∷ []))) NoStmt)))) })) ∷ []); source = (codes "program t;\nregion R = [1..2]; \nvar A : [R] integer;\nprocedure t();\nbegin\n  [R] A := Index1;\n  [R] writeln(A);\nend;\n") })

array_alike : flat_run (flat_tables array []) 9 0 ≡ seen (mean_of array [] 0)
unfolding longest_chain int_wrap digits
array_alike = refl
