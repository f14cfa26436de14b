-- Lowered: arrays under regions, masks, shifts and folds.
use Rattle.std.proofs.Common.{◌≡◌, ℕ, ℤ, Bool, true, false, List, [], ◌∷◌, Some, None, pos, negsuc, codes, refl}
use Rattle.std.specs.Prelude.{length, slice_get, take, drop}
use Rattle.std.specs.Fmt.{digits}
use Rattle.std.specs.Int.{int_wrap}
use Rattle.zpl_meaning.specs.of_zpl_nums.declared.operators.Op.TheVariants as op
use Rattle.zpl_meaning.specs.of_zpl_nums.declared.folds.Fold.TheVariants as fold
use Rattle.zpl_meaning.specs.of_zpl_nums.declared.ends.Border.TheVariants as border
use Rattle.zpl_meaning.specs.of_zpl_nums.declared.ends.TrapKind.TheVariants as trap
use Rattle.zpl_meaning.specs.of_zpl_region.declared.dims.Dim.TheVariants as dim
use Rattle.text_sharing.specs.of_node_form.declared.words.ExprOp.TheVariants as word
use Rattle.text_sharing.specs.of_node_form.declared.instructions.RegionForm.TheVariants as form
use Rattle.text_sharing.specs.of_node_form.declared.instructions.SameKind.TheVariants as same
use Rattle.zpl_meaning.specs.of_zpl_tree.Syntax.{Name, NamedRegion, Ditto, Number, Truth, Coord, Named, Shifted, Around, Remap, Call, Paren, Neg, Not, Abs, Pair, Reduce, Scan, Flood, NoExpr, ThenExpr, NamedDir, Vector, Rexpr, Dims, NoBracket, Bracketed, NoPost, ThenPost, Blank, Star, One, Span, NoDim, ThenDim, Str, Value, Prefixed, NoStmt, ThenStmt, Assign, Invoke, Block, If, While, Repeat, For, Border, Write, Return, Tested, NoArm, ThenArm, NoElse, Else, Integer, Boolean, Config, Constant, Regions, Directions, Vars, Defined, Program}
use Rattle.zpl_meaning.specs.of_zpl_names.Reached.{longest_chain}
use Rattle.text_sharing.specs.of_row_runs.Code.{CodeRow, Straight, Jump, Unless}
use Rattle.text_sharing.specs.of_row_runs.Structured.{flattened}
use Rattle.text_sharing.specs.of_flat_form.Row as row
use Rattle.text_sharing.specs.of_node_form.declared.instructions.Instr.TheVariants as instr
use Rattle.std.specs.Prelude.{not}
use Rattle.std.specs.List.{list_all, list_any}
use Rattle.text_sharing.specs.of_flat_form.Static.{word_has_fringe, has_one_unit, keeps_from, has_shift, mask_of, all_members}
use Rattle.zpl_lowering.specs.Program.{lowered_program}
use Rattle.zpl_lowering.specs.Tables.{flat_tables}

abbrev name : List ℕ → ℕ → Name
name text at = record { text = text; at = at }

abbrev example : Program
example = (record { name = (name (codes "t") 8); decls = ((Config ((record { name = (name (codes "n") 22); base = Integer; value = (Number 36 (pos 4)) }) ∷ [])) ∷ (Regions ((record { name = (name (codes "R") 46); body = (Dims (ThenDim (Span (Number 51 (pos 1)) (Named 54 (name (codes "n") 54))) (ThenDim (Span (Number 57 (pos 1)) (Named 60 (name (codes "n") 60))) NoDim))); posts = NoPost }) ∷ (record { name = (name (codes "Q") 64); body = (Dims (ThenDim (Span (Number 69 (pos 2)) (Pair 72 op.Sub (Named 72 (name (codes "n") 72)) (Number 74 (pos 1)))) (ThenDim (Span (Number 77 (pos 2)) (Pair 80 op.Sub (Named 80 (name (codes "n") 80)) (Number 82 (pos 1)))) NoDim))); posts = NoPost }) ∷ [])) ∷ (Directions ((record { name = (name (codes "north") 96); parts = (ThenExpr (Neg 105 (Number 106 (pos 1))) (ThenExpr (Number 109 (pos 0)) NoExpr)) }) ∷ (record { name = (name (codes "east") 113); parts = (ThenExpr (Number 121 (pos 0)) (ThenExpr (Number 124 (pos 1)) NoExpr)) }) ∷ [])) ∷ (Vars ((record { names = ((name (codes "A") 132) ∷ (name (codes "B") 135) ∷ []); shape = (Bracketed (Rexpr ([]) (NamedRegion (name (codes "R") 140)) NoPost)); base = Integer }) ∷ (record { names = ((name (codes "M") 152) ∷ []); shape = (Bracketed (Rexpr ([]) (NamedRegion (name (codes "R") 157)) NoPost)); base = Boolean }) ∷ (record { names = ((name (codes "x") 169) ∷ []); shape = NoBracket; base = Integer }) ∷ [])) ∷ (Defined (record { name = (name (codes "t") 192); params = ([]); result = None; locals = ([]); body = (Prefixed 197 ([]) (Block (ThenStmt (Prefixed 209 ((record { at = 205; region = (Rexpr ([]) (NamedRegion (name (codes "R") 206)) NoPost); mask = None }) ∷ []) (Assign (name (codes "A") 209) None (Pair 214 op.Add (Pair 214 op.Mul (Coord 214 1) (Number 223 (pos 10))) (Coord 228 2)))) (ThenStmt (Prefixed 242 ((record { at = 238; region = (Rexpr ([]) (NamedRegion (name (codes "R") 239)) NoPost); mask = None }) ∷ []) (Assign (name (codes "M") 242) None (Pair 247 op.Gt (Named 247 (name (codes "A") 247)) (Number 251 (pos 22))))) (ThenStmt (Prefixed 268 ((record { at = 257; region = (Rexpr ([]) (NamedRegion (name (codes "Q") 258)) NoPost); mask = (Some (record { name = (name (codes "M") 265); without = false })) }) ∷ []) (Assign (name (codes "B") 268) None (Pair 273 op.Add (Shifted 273 (name (codes "A") 273) (NamedDir (name (codes "north") 275))) (Shifted 283 (name (codes "A") 283) (NamedDir (name (codes "east") 285)))))) (ThenStmt (Prefixed 307 ((record { at = 293; region = (Rexpr ([]) (NamedRegion (name (codes "Q") 294)) NoPost); mask = (Some (record { name = (name (codes "M") 304); without = true })) }) ∷ []) (Assign (name (codes "B") 307) (Some op.Add) (Number 312 (pos 1)))) (ThenStmt (Prefixed 321 ((record { at = 317; region = (Rexpr ([]) (NamedRegion (name (codes "R") 318)) NoPost); mask = None }) ∷ []) (Assign (name (codes "x") 321) None (Reduce 326 fold.Sum NoBracket (Named 329 (name (codes "A") 329))))) (ThenStmt (Prefixed 347 ((record { at = 334; region = (Dims (ThenDim (Span (Number 335 (pos 1)) (Named 338 (name (codes "x") 338))) (ThenDim (Span (Number 341 (pos 2)) (Number 344 (pos 3))) NoDim))); mask = None }) ∷ []) (Assign (name (codes "A") 347) None (Number 352 (pos 7)))) (ThenStmt (Prefixed 370 ((record { at = 357; region = (Rexpr ((record { dir = (name (codes "north") 358); outside = true }) ∷ []) (NamedRegion (name (codes "R") 367)) NoPost); mask = None }) ∷ []) (Assign (name (codes "A") 370) None (Number 375 (pos 1)))) (ThenStmt (Prefixed 384 ((record { at = 380; region = (Rexpr ([]) (NamedRegion (name (codes "Q") 381)) NoPost); mask = None }) ∷ []) (Assign (name (codes "x") 384) None (Reduce 389 fold.Max NoBracket (Paren 394 (Pair 395 op.Sub (Shifted 395 (name (codes "A") 395) (NamedDir (name (codes "north") 397))) (Named 405 (name (codes "B") 405))))))) (ThenStmt (Prefixed 415 ((record { at = 411; region = (Rexpr ([]) (NamedRegion (name (codes "R") 412)) NoPost); mask = None }) ∷ []) (Write true ((Value (Named 423 (name (codes "A") 423))) ∷ []))) (ThenStmt (Prefixed 451 ((record { at = 429; region = (Rexpr ((record { dir = (name (codes "east") 430); outside = false }) ∷ []) (NamedRegion (name (codes "Q") 438)) (ThenPost false (Vector (ThenExpr (Number 444 (pos 1)) (ThenExpr (Number 447 (pos 0)) NoExpr))) NoPost)); mask = None }) ∷ []) (Assign (name (codes "B") 451) None (Number 456 (pos 3)))) NoStmt)))))))))))) })) ∷ []); source = (codes "program t;\nconfig var n : integer = 4;\nregion R = [1..n, 1..n]; Q = [2..n-1, 2..n-1];\ndirection north = [-1, 0]; east = [0, 1];\nvar A, B : [R] integer; M : [R] boolean; x : integer;\nprocedure t();\nbegin\n  [R] A := Index1 * 10 + Index2;\n  [R] M := A > 22;\n  [Q with M] B := A@north + A@east;\n  [Q without M] B += 1;\n  [R] x := +<<A;\n  [1..x, 2..3] A := 7;\n  [north of R] A := 1;\n  [Q] x := max<<(A@north - B);\n  [R] writeln(A);\n  [east in Q at [1, 0]] B := 3;\nend;\n") })

rows : flattened 0 (lowered_program example ([])).code ≡ (
    Straight (row.Plain (instr.Fix 0 (record { rank = 2; dims = (dim.Range (pos 1) (pos 4) (pos 1) (pos 1) ∷ dim.Range (pos 1) (pos 4) (pos 1) (pos 1) ∷ dim.Range (pos 0) (pos 0) (pos 1) (pos 0) ∷ []) }))) ∷
    Straight (row.Plain (instr.Fix 1 (record { rank = 2; dims = (dim.Range (pos 2) (pos 3) (pos 1) (pos 2) ∷ dim.Range (pos 2) (pos 3) (pos 1) (pos 2) ∷ dim.Range (pos 0) (pos 0) (pos 1) (pos 0) ∷ []) }))) ∷
    Straight (row.Plain (instr.Need 0 0 ((pos 0) ∷ (pos 0) ∷ (pos 0) ∷ []) 8)) ∷
    Straight (row.Loop 0 (row.Put 0 (word.Coord 1 ∷ word.Const (pos 10) ∷ word.Pair op.Mul ∷ word.Coord 2 ∷ word.Pair op.Add ∷ []) None 8 ∷ [])) ∷
    Straight (row.Plain (instr.Need 0 2 ((pos 0) ∷ (pos 0) ∷ (pos 0) ∷ []) 9)) ∷
    Straight (row.Plain (instr.Need 0 0 ((pos 0) ∷ (pos 0) ∷ (pos 0) ∷ []) 9)) ∷
    Straight (row.Loop 0 (row.Put 2 (word.Here 0 ∷ word.Const (pos 22) ∷ word.Pair op.Gt ∷ []) None 9 ∷ [])) ∷
    Straight (row.Plain (instr.Need 1 1 ((pos 0) ∷ (pos 0) ∷ (pos 0) ∷ []) 10)) ∷
    Straight (row.Plain (instr.Need 1 0 ((negsuc 0) ∷ (pos 0) ∷ (pos 0) ∷ []) 10)) ∷
    Straight (row.Plain (instr.Need 1 0 ((pos 0) ∷ (pos 1) ∷ (pos 0) ∷ []) 10)) ∷
    Straight (row.Plain (instr.Need 1 2 ((pos 0) ∷ (pos 0) ∷ (pos 0) ∷ []) 10)) ∷
    Straight (row.Loop 1 (row.Put 1 (word.Shifted 0 ((negsuc 0) ∷ (pos 0) ∷ (pos 0) ∷ []) ∷ word.Shifted 0 ((pos 0) ∷ (pos 1) ∷ (pos 0) ∷ []) ∷ word.Pair op.Add ∷ []) (Some (word.Here 2 ∷ [])) 10 ∷ [])) ∷
    Straight (row.Plain (instr.Need 1 1 ((pos 0) ∷ (pos 0) ∷ (pos 0) ∷ []) 11)) ∷
    Straight (row.Plain (instr.Need 1 2 ((pos 0) ∷ (pos 0) ∷ (pos 0) ∷ []) 11)) ∷
    Straight (row.Loop 1 (row.Put 1 (word.Here 1 ∷ word.Const (pos 1) ∷ word.Pair op.Add ∷ []) (Some (word.Here 2 ∷ word.Not ∷ [])) 11 ∷ [])) ∷
    Straight (row.Plain (instr.Need 0 0 ((pos 0) ∷ (pos 0) ∷ (pos 0) ∷ []) 12)) ∷
    Straight (row.Set 1 (word.Const (pos 0) ∷ []) 12) ∷
    Straight (row.Loop 0 (row.Acc 1 fold.Sum (word.Here 0 ∷ []) None 12 ∷ [])) ∷
    Straight (row.Plain (instr.Fold 1 fold.Sum)) ∷
    Straight (row.Set 0 (word.Scalar 1 ∷ []) 12) ∷
    Straight (row.Dims 2 (row.Span (word.Const (pos 1) ∷ []) (word.Scalar 0 ∷ []) ∷ row.Span (word.Const (pos 2) ∷ []) (word.Const (pos 3) ∷ []) ∷ row.Star ∷ []) 13) ∷
    Straight (row.Plain (instr.Need 2 0 ((pos 0) ∷ (pos 0) ∷ (pos 0) ∷ []) 13)) ∷
    Straight (row.Loop 2 (row.Put 0 (word.Const (pos 7) ∷ []) None 13 ∷ [])) ∷
    Straight (row.Plain (instr.Fix 3 (record { rank = 2; dims = (dim.Range (pos 0) (pos 0) (pos 1) (pos 1) ∷ dim.Range (pos 1) (pos 4) (pos 1) (pos 1) ∷ dim.Range (pos 0) (pos 0) (pos 1) (pos 0) ∷ []) }))) ∷
    Straight (row.Plain (instr.Need 3 0 ((pos 0) ∷ (pos 0) ∷ (pos 0) ∷ []) 14)) ∷
    Straight (row.Loop 3 (row.Put 0 (word.Const (pos 1) ∷ []) None 14 ∷ [])) ∷
    Straight (row.Plain (instr.Need 1 0 ((negsuc 0) ∷ (pos 0) ∷ (pos 0) ∷ []) 15)) ∷
    Straight (row.Plain (instr.Need 1 1 ((pos 0) ∷ (pos 0) ∷ (pos 0) ∷ []) 15)) ∷
    Straight (row.Set 2 (word.Const (negsuc 9223372036854775807) ∷ []) 15) ∷
    Straight (row.Loop 1 (row.Acc 2 fold.Max (word.Shifted 0 ((negsuc 0) ∷ (pos 0) ∷ (pos 0) ∷ []) ∷ word.Here 1 ∷ word.Pair op.Sub ∷ []) None 15 ∷ [])) ∷
    Straight (row.Plain (instr.Fold 2 fold.Max)) ∷
    Straight (row.Set 0 (word.Scalar 2 ∷ []) 15) ∷
    Straight (row.Plain (instr.Need 0 0 ((pos 0) ∷ (pos 0) ∷ (pos 0) ∷ []) 16)) ∷
    Straight (row.Plain (instr.Room 3 0)) ∷
    Straight (row.Loop 0 (row.Put 3 (word.Here 0 ∷ []) None 16 ∷ [])) ∷
    Straight (row.Plain (instr.Gather false 3 0)) ∷
    Straight (row.Print (codes "\n")) ∷
    Straight (row.Plain (instr.Fix 4 (record { rank = 2; dims = (dim.Range (pos 3) (pos 4) (pos 1) (pos 3) ∷ dim.Range (pos 3) (pos 3) (pos 1) (pos 2) ∷ dim.Range (pos 0) (pos 0) (pos 1) (pos 0) ∷ []) }))) ∷
    Straight (row.Plain (instr.Need 4 1 ((pos 0) ∷ (pos 0) ∷ (pos 0) ∷ []) 17)) ∷
    Straight (row.Loop 4 (row.Put 1 (word.Const (pos 3) ∷ []) None 17 ∷ [])) ∷ [])
unfolding longest_chain int_wrap digits
rows = refl

scalars : (lowered_program example ([])).scalars ≡ 3
unfolding longest_chain int_wrap digits
scalars = refl

slots : (lowered_program example ([])).slots ≡ (2 ∷ 2 ∷ 2 ∷ 2 ∷ 2 ∷ [])
unfolding longest_chain int_wrap digits
slots = refl

has_fringes : list_all (λ words. list_all (word_has_fringe (flat_tables example [])) words) (flat_tables example []).exprs ≡ true
unfolding longest_chain int_wrap digits
has_fringes = refl

has_one_unit_a_loop : list_all has_one_unit (flat_tables example []).groups ≡ true
unfolding longest_chain int_wrap digits
has_one_unit_a_loop = refl

keeps_cells : list_all (keeps_from (flat_tables example []) 0 []) (flat_tables example []).groups ≡ true
unfolding longest_chain int_wrap digits
keeps_cells = refl

shifts_once : list_all (λ one. not (list_any (has_shift (flat_tables example [])) (mask_of one))) (all_members (flat_tables example [])) ≡ true
unfolding longest_chain int_wrap digits
shifts_once = refl
