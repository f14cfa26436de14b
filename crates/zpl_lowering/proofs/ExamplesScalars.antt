-- Lowered: scalars: assignments, choices and loops.
use Rattle.std.proofs.Common.{◌≡◌, ℕ, ℤ, Bool, true, false, List, [], ◌∷◌, Some, None, pos, negsuc, codes, refl}
use Rattle.std.specs.Prelude.{length, slice_get, take, drop}
use Rattle.std.specs.Fmt.{digits}
use Rattle.std.specs.Int.{int_wrap}
use Rattle.zpl_meaning.specs.of_zpl_nums.declared.operators.Op.TheVariants as op
use Rattle.zpl_meaning.specs.of_zpl_nums.declared.folds.Fold.TheVariants as fold
use Rattle.zpl_meaning.specs.of_zpl_nums.declared.ends.Border.TheVariants as border
use Rattle.zpl_meaning.specs.of_zpl_nums.declared.ends.TrapKind.TheVariants as trap
use Rattle.zpl_meaning.specs.of_zpl_region.declared.dims.Dim.TheVariants as dim
use Rattle.text_sharing.specs.of_node_form.declared.words.ExprOp.TheVariants as word
use Rattle.text_sharing.specs.of_node_form.declared.instructions.RegionForm.TheVariants as form
use Rattle.text_sharing.specs.of_node_form.declared.instructions.SameKind.TheVariants as same
use Rattle.zpl_meaning.specs.of_zpl_tree.Syntax.{Name, NamedRegion, Ditto, Number, Truth, Coord, Named, Shifted, Around, Remap, Call, Paren, Neg, Not, Abs, Pair, Reduce, Scan, Flood, NoExpr, ThenExpr, NamedDir, Vector, Rexpr, Dims, NoBracket, Bracketed, NoPost, ThenPost, Blank, Star, One, Span, NoDim, ThenDim, Str, Value, Prefixed, NoStmt, ThenStmt, Assign, Invoke, Block, If, While, Repeat, For, Border, Write, Return, Tested, NoArm, ThenArm, NoElse, Else, Integer, Boolean, Config, Constant, Regions, Directions, Vars, Defined, Program}
use Rattle.zpl_meaning.specs.of_zpl_names.Reached.{longest_chain}
use Rattle.text_sharing.specs.of_row_runs.Code.{CodeRow, Straight, Jump, Unless}
use Rattle.text_sharing.specs.of_row_runs.Structured.{flattened}
use Rattle.text_sharing.specs.of_flat_form.Row as row
use Rattle.text_sharing.specs.of_node_form.declared.instructions.Instr.TheVariants as instr
use Rattle.std.specs.Prelude.{not}
use Rattle.std.specs.List.{list_all, list_any}
use Rattle.text_sharing.specs.of_flat_form.Static.{word_has_fringe, has_one_unit, keeps_from, has_shift, mask_of, all_members}
use Rattle.zpl_lowering.specs.Program.{lowered_program}
use Rattle.zpl_lowering.specs.Tables.{flat_tables}

abbrev name : List ℕ → ℕ → Name
name text at = record { text = text; at = at }

abbrev example : Program
example = (record { name = (name (codes "t") 8); decls = ((Vars ((record { names = ((name (codes "i") 15) ∷ (name (codes "s") 18) ∷ []); shape = NoBracket; base = Integer }) ∷ [])) ∷ (Defined (record { name = (name (codes "t") 41); params = ([]); result = None; locals = ([]); body = (Prefixed 46 ([]) (Block (ThenStmt (Prefixed 54 ([]) (Assign (name (codes "i") 54) None (Number 59 (pos 1)))) (ThenStmt (Prefixed 64 ([]) (While (Pair 70 op.Le (Named 70 (name (codes "i") 70)) (Number 75 (pos 10))) (ThenStmt (Prefixed 81 ([]) (Assign (name (codes "s") 81) None (Pair 86 op.Add (Named 86 (name (codes "s") 86)) (Named 90 (name (codes "i") 90))))) (ThenStmt (Prefixed 93 ([]) (Assign (name (codes "i") 93) None (Pair 98 op.Add (Named 98 (name (codes "i") 98)) (Number 102 (pos 1))))) NoStmt)))) (ThenStmt (Prefixed 112 ([]) (For (record { name = (name (codes "i") 116); first = (Number 121 (pos 1)); down = false; last = (Named 126 (name (codes "s") 126)); step = (Some (Number 131 (pos 2))) }) (ThenStmt (Prefixed 136 ([]) (Assign (name (codes "s") 136) (Some op.Sub) (Number 141 (pos 1)))) NoStmt))) (ThenStmt (Prefixed 151 ([]) (If (ThenArm (Tested 151 (Pair 154 op.Eq (Named 154 (name (codes "s") 154)) (Number 158 (pos 1))) (ThenStmt (Prefixed 165 ([]) (Write true ((Str (codes "one")) ∷ []))) NoStmt)) (ThenArm (Tested 181 (Pair 187 op.Gt (Named 187 (name (codes "s") 187)) (Number 191 (pos 2))) (ThenStmt (Prefixed 198 ([]) (Write true ((Str (codes "two ")) ∷ (Value (Named 214 (name (codes "s") 214))) ∷ []))) NoStmt)) NoArm)) (Else (ThenStmt (Prefixed 223 ([]) (Assign (name (codes "s") 223) None (Number 228 (pos 3)))) NoStmt)))) (ThenStmt (Prefixed 238 ([]) (Repeat (ThenStmt (Prefixed 245 ([]) (Assign (name (codes "i") 245) None (Pair 250 op.Sub (Named 250 (name (codes "i") 250)) (Number 254 (pos 1))))) NoStmt) 257 (Pair 263 op.Lt (Named 263 (name (codes "i") 263)) (Number 267 (pos 0))))) (ThenStmt (Prefixed 272 ([]) (If (ThenArm (Tested 272 (Pair 275 op.Eq (Named 275 (name (codes "i") 275)) (Number 279 (pos 4))) (ThenStmt (Prefixed 286 ([]) (Assign (name (codes "i") 286) None (Number 291 (pos 5)))) NoStmt)) NoArm) NoElse)) (ThenStmt (Prefixed 301 ([]) (Write true ((Value (Pair 309 op.Lt (Named 309 (name (codes "i") 309)) (Named 313 (name (codes "s") 313)))) ∷ []))) NoStmt))))))))) })) ∷ []); source = (codes "program t;\nvar i, s : integer;\nprocedure t();\nbegin\n  i := 1;\n  while i <= 10 do s := s + i; i := i + 1; end;\n  for i := 1 to s by 2 do s -= 1; end;\n  if s = 1 then writeln(\"one\"); elsif s > 2 then writeln(\"two \", s); else s := 3; end;\n  repeat i := i - 1; until i < 0;\n  if i = 4 then i := 5; end;\n  writeln(i < s);\nend;\n") })

rows : flattened 0 (lowered_program example ([])).code ≡ (
    Straight (row.Set 0 (word.Const (pos 1) ∷ []) 5) ∷
    Unless (record { expr = (word.Scalar 0 ∷ word.Const (pos 10) ∷ word.Pair op.Le ∷ []); line = 6 }) 5 ∷
    Straight (row.Set 1 (word.Scalar 1 ∷ word.Scalar 0 ∷ word.Pair op.Add ∷ []) 6) ∷
    Straight (row.Set 0 (word.Scalar 0 ∷ word.Const (pos 1) ∷ word.Pair op.Add ∷ []) 6) ∷
    Jump 1 ∷
    Straight (row.Set 2 (word.Const (pos 1) ∷ []) 7) ∷
    Straight (row.Set 3 (word.Scalar 1 ∷ []) 7) ∷
    Straight (row.Set 4 (word.Const (pos 2) ∷ []) 7) ∷
    Unless (record { expr = (word.Scalar 4 ∷ word.Const (pos 1) ∷ word.Pair op.Ge ∷ word.Scalar 2 ∷ word.Scalar 3 ∷ word.Pair op.Le ∷ word.Pair op.And ∷ []); line = 7 }) 14 ∷
    Jump 10 ∷
    Straight (row.Set 0 (word.Scalar 2 ∷ []) 7) ∷
    Straight (row.Set 1 (word.Scalar 1 ∷ word.Const (pos 1) ∷ word.Pair op.Sub ∷ []) 7) ∷
    Straight (row.Set 2 (word.Scalar 2 ∷ word.Scalar 4 ∷ word.Pair op.Add ∷ []) 7) ∷
    Unless (record { expr = (word.Scalar 2 ∷ word.Scalar 4 ∷ word.Pair op.Sub ∷ word.Scalar 2 ∷ word.Pair op.Ge ∷ word.Scalar 2 ∷ word.Scalar 3 ∷ word.Pair op.Gt ∷ word.Pair op.Or ∷ []); line = 7 }) 10 ∷
    Unless (record { expr = (word.Scalar 1 ∷ word.Const (pos 1) ∷ word.Pair op.Eq ∷ []); line = 8 }) 18 ∷
    Straight (row.Print (codes "one")) ∷
    Straight (row.Print (codes "\n")) ∷
    Jump 25 ∷
    Unless (record { expr = (word.Scalar 1 ∷ word.Const (pos 2) ∷ word.Pair op.Gt ∷ []); line = 8 }) 24 ∷
    Straight (row.Set 5 (word.Scalar 1 ∷ []) 8) ∷
    Straight (row.Print (codes "two ")) ∷
    Straight (row.Number (word.Scalar 5 ∷ [])) ∷
    Straight (row.Print (codes "\n")) ∷
    Jump 25 ∷
    Straight (row.Set 1 (word.Const (pos 3) ∷ []) 8) ∷
    Jump 26 ∷
    Straight (row.Set 0 (word.Scalar 0 ∷ word.Const (pos 1) ∷ word.Pair op.Sub ∷ []) 9) ∷
    Unless (record { expr = (word.Scalar 0 ∷ word.Const (pos 0) ∷ word.Pair op.Lt ∷ []); line = 9 }) 26 ∷
    Unless (record { expr = (word.Scalar 0 ∷ word.Const (pos 4) ∷ word.Pair op.Eq ∷ []); line = 10 }) 30 ∷
    Straight (row.Set 0 (word.Const (pos 5) ∷ []) 10) ∷
    Straight (row.Set 6 (word.Scalar 0 ∷ word.Scalar 1 ∷ word.Pair op.Lt ∷ []) 11) ∷
    Straight (row.Truth (word.Scalar 6 ∷ [])) ∷
    Straight (row.Print (codes "\n")) ∷ [])
unfolding longest_chain int_wrap digits
rows = refl

scalars : (lowered_program example ([])).scalars ≡ 7
unfolding longest_chain int_wrap digits
scalars = refl

slots : (lowered_program example ([])).slots ≡ ([])
unfolding longest_chain int_wrap digits
slots = refl

has_fringes : list_all (λ words. list_all (word_has_fringe (flat_tables example [])) words) (flat_tables example []).exprs ≡ true
unfolding longest_chain int_wrap digits
has_fringes = refl

has_one_unit_a_loop : list_all has_one_unit (flat_tables example []).groups ≡ true
unfolding longest_chain int_wrap digits
has_one_unit_a_loop = refl

keeps_cells : list_all (keeps_from (flat_tables example []) 0 []) (flat_tables example []).groups ≡ true
unfolding longest_chain int_wrap digits
keeps_cells = refl

shifts_once : list_all (λ one. not (list_any (has_shift (flat_tables example [])) (mask_of one))) (all_members (flat_tables example [])) ≡ true
unfolding longest_chain int_wrap digits
shifts_once = refl
