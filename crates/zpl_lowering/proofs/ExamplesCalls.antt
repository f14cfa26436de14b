-- Lowered: calls, and shattered statements.
use Rattle.std.proofs.Common.{◌≡◌, ℕ, ℤ, Bool, true, false, List, [], ◌∷◌, Some, None, pos, negsuc, codes, refl}
use Rattle.std.specs.Prelude.{length, slice_get, take, drop}
use Rattle.std.specs.Fmt.{digits}
use Rattle.std.specs.Int.{int_wrap}
use Rattle.zpl_meaning.specs.of_zpl_nums.declared.operators.Op.TheVariants as op
use Rattle.zpl_meaning.specs.of_zpl_nums.declared.folds.Fold.TheVariants as fold
use Rattle.zpl_meaning.specs.of_zpl_nums.declared.ends.Border.TheVariants as border
use Rattle.zpl_meaning.specs.of_zpl_nums.declared.ends.TrapKind.TheVariants as trap
use Rattle.zpl_meaning.specs.of_zpl_region.declared.dims.Dim.TheVariants as dim
use Rattle.text_sharing.specs.of_node_form.declared.words.ExprOp.TheVariants as word
use Rattle.text_sharing.specs.of_node_form.declared.instructions.RegionForm.TheVariants as form
use Rattle.text_sharing.specs.of_node_form.declared.instructions.SameKind.TheVariants as same
use Rattle.zpl_meaning.specs.of_zpl_tree.Syntax.{Name, NamedRegion, Ditto, Number, Truth, Coord, Named, Shifted, Around, Remap, Call, Paren, Neg, Not, Abs, Pair, Reduce, Scan, Flood, NoExpr, ThenExpr, NamedDir, Vector, Rexpr, Dims, NoBracket, Bracketed, NoPost, ThenPost, Blank, Star, One, Span, NoDim, ThenDim, Str, Value, Prefixed, NoStmt, ThenStmt, Assign, Invoke, Block, If, While, Repeat, For, Border, Write, Return, Tested, NoArm, ThenArm, NoElse, Else, Integer, Boolean, Config, Constant, Regions, Directions, Vars, Defined, Program}
use Rattle.zpl_meaning.specs.of_zpl_names.Reached.{longest_chain}
use Rattle.text_sharing.specs.of_row_runs.Code.{CodeRow, Straight, Jump, Unless}
use Rattle.text_sharing.specs.of_row_runs.Structured.{flattened}
use Rattle.text_sharing.specs.of_flat_form.Row as row
use Rattle.text_sharing.specs.of_node_form.declared.instructions.Instr.TheVariants as instr
use Rattle.std.specs.Prelude.{not}
use Rattle.std.specs.List.{list_all, list_any}
use Rattle.text_sharing.specs.of_flat_form.Static.{word_has_fringe, has_one_unit, keeps_from, has_shift, mask_of, all_members}
use Rattle.zpl_lowering.specs.Program.{lowered_program}
use Rattle.zpl_lowering.specs.Tables.{flat_tables}

abbrev name : List ℕ → ℕ → Name
name text at = record { text = text; at = at }

abbrev example : Program
example = (record { name = (name (codes "t") 8); decls = ((Regions ((record { name = (name (codes "R") 18); body = (Dims (ThenDim (Span (Number 23 (pos 1)) (Number 26 (pos 4))) NoDim)); posts = NoPost }) ∷ [])) ∷ (Directions ((record { name = (name (codes "e") 41); parts = (ThenExpr (Number 46 (pos 1)) NoExpr) }) ∷ [])) ∷ (Constant ((record { name = (name (codes "c") 60); base = Integer; value = (Number 74 (pos 3)) }) ∷ [])) ∷ (Vars ((record { names = ((name (codes "A") 81) ∷ (name (codes "B") 84) ∷ []); shape = (Bracketed (Rexpr ([]) (NamedRegion (name (codes "R") 89)) NoPost)); base = Integer }) ∷ (record { names = ((name (codes "M") 101) ∷ []); shape = (Bracketed (Rexpr ([]) (NamedRegion (name (codes "R") 106)) NoPost)); base = Boolean }) ∷ (record { names = ((name (codes "k") 118) ∷ (name (codes "m") 121) ∷ []); shape = NoBracket; base = Integer }) ∷ [])) ∷ (Defined (record { name = (name (codes "f") 144); params = ((record { by_ref = false; names = ((name (codes "x") 146) ∷ []); shape = NoBracket; base = Integer }) ∷ (record { by_ref = true; names = ((name (codes "y") 163) ∷ []); shape = NoBracket; base = Integer }) ∷ (record { by_ref = false; names = ((name (codes "P") 176) ∷ []); shape = (Bracketed (Rexpr ([]) (NamedRegion (name (codes "R") 181)) NoPost)); base = Integer }) ∷ (record { by_ref = true; names = ((name (codes "Q") 197) ∷ []); shape = (Bracketed (Rexpr ([]) (NamedRegion (name (codes "R") 202)) NoPost)); base = Integer }) ∷ []); result = (Some Integer); locals = ((record { names = ((name (codes "l") 229) ∷ []); shape = NoBracket; base = Integer }) ∷ (record { names = ((name (codes "T") 242) ∷ []); shape = (Bracketed (Rexpr ([]) (NamedRegion (name (codes "R") 247)) NoPost)); base = Integer }) ∷ (record { names = ((name (codes "U") 259) ∷ []); shape = (Bracketed (Dims (ThenDim (Span (Number 264 (pos 1)) (Number 267 (pos 2))) NoDim))); base = Boolean }) ∷ []); body = (Prefixed 279 ([]) (Block (ThenStmt (Prefixed 291 ((record { at = 287; region = (Rexpr ([]) (NamedRegion (name (codes "R") 288)) NoPost); mask = None }) ∷ []) (Assign (name (codes "T") 291) None (Pair 296 op.Add (Pair 296 op.Add (Around 296 (name (codes "P") 296) (NamedDir (name (codes "e") 299))) (Named 303 (name (codes "Q") 303))) (Named 307 (name (codes "x") 307))))) (ThenStmt (Prefixed 312 ([]) (Assign (name (codes "y") 312) None (Pair 317 op.Add (Named 317 (name (codes "y") 317)) (Number 321 (pos 1))))) (ThenStmt (Prefixed 326 ([]) (Assign (name (codes "Q") 326) None (Named 331 (name (codes "T") 331)))) (ThenStmt (Prefixed 336 ([]) (For (record { name = (name (codes "l") 340); first = (Named 345 (name (codes "c") 345)); down = true; last = (Number 354 (pos 1)); step = None }) (ThenStmt (Prefixed 363 ((record { at = 359; region = (Rexpr ([]) (NamedRegion (name (codes "R") 360)) NoPost); mask = None }) ∷ []) (Assign (name (codes "Q") 363) None (Pair 368 op.Add (Named 368 (name (codes "Q") 368)) (Named 372 (name (codes "l") 372))))) NoStmt))) (ThenStmt (Prefixed 382 ([]) (Return (Pair 389 op.Add (Named 389 (name (codes "x") 389)) (Named 393 (name (codes "l") 393))))) NoStmt))))))) })) ∷ (Defined (record { name = (name (codes "g") 411); params = ((record { by_ref = false; names = ((name (codes "P") 413) ∷ []); shape = (Bracketed (Rexpr ([]) (NamedRegion (name (codes "R") 418)) NoPost)); base = Integer }) ∷ []); result = None; locals = ([]); body = (Prefixed 431 ([]) (Block (ThenStmt (Prefixed 446 ((record { at = 439; region = (Dims (ThenDim (Span (Number 440 (pos 1)) (Number 443 (pos 2))) NoDim)); mask = None }) ∷ []) (Assign (name (codes "k") 446) None (Call 451 (name (codes "f") 451) (ThenExpr (Named 453 (name (codes "k") 453)) (ThenExpr (Named 456 (name (codes "m") 456)) (ThenExpr (Named 459 (name (codes "P") 459)) (ThenExpr (Named 462 (name (codes "A") 462)) NoExpr))))))) (ThenStmt (Prefixed 472 ((record { at = 468; region = (Rexpr ([]) (NamedRegion (name (codes "R") 469)) NoPost); mask = None }) ∷ []) (Assign (name (codes "P") 472) None (Around 477 (name (codes "P") 477) (NamedDir (name (codes "e") 480))))) NoStmt)))) })) ∷ (Defined (record { name = (name (codes "t") 498); params = ([]); result = None; locals = ((record { names = ((name (codes "z") 507) ∷ []); shape = NoBracket; base = Integer }) ∷ (record { names = ((name (codes "Z") 520) ∷ []); shape = (Bracketed (Rexpr ([]) (NamedRegion (name (codes "R") 525)) NoPost)); base = Integer }) ∷ []); body = (Prefixed 537 ([]) (Block (ThenStmt (Prefixed 549 ((record { at = 545; region = (Rexpr ([]) (NamedRegion (name (codes "R") 546)) NoPost); mask = None }) ∷ []) (Assign (name (codes "Z") 549) None (Coord 554 1))) (ThenStmt (Prefixed 568 ((record { at = 564; region = (Rexpr ([]) (NamedRegion (name (codes "R") 565)) NoPost); mask = None }) ∷ []) (Assign (name (codes "k") 568) None (Call 573 (name (codes "f") 573) (ThenExpr (Reduce 575 fold.Sum NoBracket (Named 578 (name (codes "Z") 578))) (ThenExpr (Named 581 (name (codes "z") 581)) (ThenExpr (Named 584 (name (codes "A") 584)) (ThenExpr (Named 587 (name (codes "B") 587)) NoExpr))))))) (ThenStmt (Prefixed 597 ((record { at = 593; region = (Rexpr ([]) (NamedRegion (name (codes "R") 594)) NoPost); mask = None }) ∷ []) (Invoke (name (codes "g") 597) (ThenExpr (Named 599 (name (codes "Z") 599)) NoExpr))) (ThenStmt (Prefixed 605 ([]) (Invoke (name (codes "g") 605) (ThenExpr (Named 607 (name (codes "B") 607)) NoExpr))) (ThenStmt (Prefixed 624 ((record { at = 613; region = (Rexpr ([]) (NamedRegion (name (codes "R") 614)) NoPost); mask = (Some (record { name = (name (codes "M") 621); without = false })) }) ∷ []) (If (ThenArm (Tested 624 (Pair 627 op.Gt (Named 627 (name (codes "A") 627)) (Named 631 (name (codes "B") 631))) (ThenStmt (Prefixed 638 ([]) (Assign (name (codes "A") 638) None (Number 643 (pos 1)))) NoStmt)) (ThenArm (Tested 646 (Pair 652 op.Eq (Named 652 (name (codes "B") 652)) (Number 656 (pos 2))) (ThenStmt (Prefixed 663 ([]) (While (Pair 669 op.Lt (Named 669 (name (codes "A") 669)) (Number 673 (pos 3))) (ThenStmt (Prefixed 678 ([]) (Assign (name (codes "A") 678) (Some op.Add) (Number 683 (pos 1)))) NoStmt))) NoStmt)) NoArm)) (Else (ThenStmt (Prefixed 696 ([]) (Block (ThenStmt (Prefixed 702 ([]) (Repeat (ThenStmt (Prefixed 709 ([]) (Assign (name (codes "A") 709) None (Pair 714 op.Sub (Named 714 (name (codes "A") 714)) (Number 718 (pos 1))))) NoStmt) 721 (Pair 727 op.Lt (Named 727 (name (codes "A") 727)) (Number 731 (pos 2))))) (ThenStmt (Prefixed 734 ([]) (Assign (name (codes "B") 734) None (Number 739 (pos 3)))) NoStmt)))) NoStmt)))) (ThenStmt (Prefixed 758 ((record { at = 754; region = (Rexpr ([]) (NamedRegion (name (codes "R") 755)) NoPost); mask = None }) ∷ []) (If (ThenArm (Tested 758 (Pair 761 op.Gt (Named 761 (name (codes "A") 761)) (Named 765 (name (codes "B") 765))) NoStmt) NoArm) NoElse)) (ThenStmt (Prefixed 783 ((record { at = 779; region = (Rexpr ([]) (NamedRegion (name (codes "R") 780)) NoPost); mask = None }) ∷ []) (While (Pair 789 op.Lt (Named 789 (name (codes "A") 789)) (Named 793 (name (codes "B") 793))) (ThenStmt (Prefixed 798 ([]) (If (ThenArm (Tested 798 (Pair 801 op.Eq (Named 801 (name (codes "A") 801)) (Number 805 (pos 1))) (ThenStmt (Prefixed 812 ([]) (Assign (name (codes "A") 812) None (Number 817 (pos 5)))) NoStmt)) NoArm) (Else NoStmt))) (ThenStmt (Prefixed 830 ([]) (Assign (name (codes "A") 830) None (Pair 835 op.Add (Named 835 (name (codes "A") 835)) (Number 839 (pos 1))))) NoStmt)))) (ThenStmt (Prefixed 856 ((record { at = 849; region = (Dims (ThenDim (Span (Named 850 (name (codes "k") 850)) (Named 853 (name (codes "m") 853))) NoDim)); mask = None }) ∷ []) (Assign (name (codes "A") 856) None (Number 861 (pos 1)))) (ThenStmt (Prefixed 875 ((record { at = 866; region = (Dims (ThenDim (Span (Named 867 (name (codes "c") 867)) (Pair 870 op.Add (Named 870 (name (codes "c") 870)) (Number 872 (pos 1)))) NoDim)); mask = None }) ∷ []) (Assign (name (codes "B") 875) None (Number 880 (pos 2)))) (ThenStmt (Prefixed 901 ((record { at = 885; region = (Rexpr ((record { dir = (name (codes "e") 886); outside = false }) ∷ []) (NamedRegion (name (codes "R") 891)) (ThenPost true (Vector (ThenExpr (Number 897 (pos 2)) NoExpr)) NoPost)); mask = None }) ∷ []) (Assign (name (codes "A") 901) None (Number 906 (pos 3)))) NoStmt)))))))))))) })) ∷ []); source = (codes "program t;\nregion R = [1..4]; \ndirection e = [1]; \nconstant c : integer = 3;\nvar A, B : [R] integer; M : [R] boolean; k, m : integer;\nprocedure f(x : integer; var y : integer; P : [R] integer; var Q : [R] integer) : integer;\nvar l : integer; T : [R] integer; U : [1..2] boolean;\nbegin\n  [R] T := P@^e + Q + x;\n  y := y + 1;\n  Q := T;\n  for l := c downto 1 do [R] Q := Q + l; end;\n  return x + l;\nend;\nprocedure g(P : [R] integer);\nbegin\n  [1..2] k := f(k, m, P, A);\n  [R] P := P@^e;\nend;\nprocedure t();\nvar z : integer; Z : [R] integer;\nbegin\n  [R] Z := Index1;\n  [R] k := f(+<<Z, z, A, B);\n  [R] g(Z);\n  g(B);\n  [R with M] if A > B then A := 1; elsif B = 2 then while A < 3 do A += 1; end; else begin repeat A := A - 1; until A < 2; B := 3; end; end;\n  [R] if A > B then end;\n  [R] while A < B do if A = 1 then A := 5; else end; A := A + 1; end;\n  [k..m] A := 1;\n  [c..c+1] B := 2;\n  [e in R by [2]] A := 3;\nend;\n") })

rows : flattened 0 (lowered_program example ([])).code ≡ (
    Straight (row.Plain (instr.Fix 0 (record { rank = 1; dims = (dim.Range (pos 1) (pos 4) (pos 1) (pos 1) ∷ dim.Range (pos 0) (pos 0) (pos 1) (pos 0) ∷ dim.Range (pos 0) (pos 0) (pos 1) (pos 0) ∷ []) }))) ∷
    Straight (row.Plain (instr.Need 0 3 ((pos 0) ∷ (pos 0) ∷ (pos 0) ∷ []) 23)) ∷
    Straight (row.Loop 0 (row.Put 3 (word.Coord 1 ∷ []) None 23 ∷ [])) ∷
    Straight (row.Plain (instr.Need 0 3 ((pos 0) ∷ (pos 0) ∷ (pos 0) ∷ []) 24)) ∷
    Straight (row.Set 3 (word.Const (pos 0) ∷ []) 24) ∷
    Straight (row.Loop 0 (row.Acc 3 fold.Sum (word.Here 3 ∷ []) None 24 ∷ [])) ∷
    Straight (row.Plain (instr.Fold 3 fold.Sum)) ∷
    Straight (row.Set 4 (word.Scalar 3 ∷ []) 24) ∷
    Straight (row.Plain (instr.Fix 1 (record { rank = 1; dims = (dim.Range (pos 1) (pos 4) (pos 1) (pos 1) ∷ dim.Range (pos 0) (pos 0) (pos 1) (pos 0) ∷ dim.Range (pos 0) (pos 0) (pos 1) (pos 0) ∷ []) }))) ∷
    Straight (row.Loop 1 (row.Put 4 (word.Here 0 ∷ []) None 24 ∷ [])) ∷
    Straight (row.Set 5 (word.Const (pos 0) ∷ []) 24) ∷
    Straight (row.Plain (instr.Clear 5)) ∷
    Straight (row.Plain (instr.Clear 6)) ∷
    Straight (row.Plain (instr.Need 0 5 ((pos 0) ∷ (pos 0) ∷ (pos 0) ∷ []) 9)) ∷
    Straight (row.Plain (instr.Need 0 15 ((pos 0) ∷ (pos 0) ∷ (pos 0) ∷ []) 9)) ∷
    Straight (row.Plain (instr.Need 0 15 ((pos 1) ∷ (pos 0) ∷ (pos 0) ∷ []) 9)) ∷
    Straight (row.Plain (instr.Need 0 1 ((pos 0) ∷ (pos 0) ∷ (pos 0) ∷ []) 9)) ∷
    Straight (row.Plain (instr.Fix 2 (record { rank = 1; dims = (dim.Range (pos 1) (pos 4) (pos 1) (pos 1) ∷ dim.Range (pos 0) (pos 0) (pos 1) (pos 0) ∷ dim.Range (pos 0) (pos 0) (pos 1) (pos 0) ∷ []) }))) ∷
    Straight (row.Loop 2 (row.Put 15 (word.Here 4 ∷ []) None 9 ∷ [])) ∷
    Straight (row.Plain (instr.Formed form.Of 3 2 ((pos 1) ∷ (pos 0) ∷ (pos 0) ∷ []) 9)) ∷
    Straight (row.Plain (instr.Formed form.Inside 4 2 ((negsuc 0) ∷ (pos 0) ∷ (pos 0) ∷ []) 9)) ∷
    Straight (row.Plain (instr.Edge border.Wrap 15 2 ((pos 1) ∷ (pos 0) ∷ (pos 0) ∷ []))) ∷
    Straight (row.Loop 0 (row.Put 5 (word.Shifted 15 ((pos 1) ∷ (pos 0) ∷ (pos 0) ∷ []) ∷ word.Here 1 ∷ word.Pair op.Add ∷ word.Scalar 4 ∷ word.Pair op.Add ∷ []) None 9 ∷ [])) ∷
    Straight (row.Set 2 (word.Scalar 2 ∷ word.Const (pos 1) ∷ word.Pair op.Add ∷ []) 10) ∷
    Straight (row.Plain (instr.Need 0 1 ((pos 0) ∷ (pos 0) ∷ (pos 0) ∷ []) 11)) ∷
    Straight (row.Plain (instr.Need 0 5 ((pos 0) ∷ (pos 0) ∷ (pos 0) ∷ []) 11)) ∷
    Straight (row.Loop 0 (row.Put 1 (word.Here 5 ∷ []) None 11 ∷ [])) ∷
    Straight (row.Set 6 (word.Const (pos 3) ∷ []) 12) ∷
    Straight (row.Set 7 (word.Const (pos 1) ∷ []) 12) ∷
    Straight (row.Set 8 (word.Const (pos 1) ∷ []) 12) ∷
    Unless (record { expr = (word.Scalar 8 ∷ word.Const (pos 1) ∷ word.Pair op.Ge ∷ word.Scalar 6 ∷ word.Scalar 7 ∷ word.Pair op.Ge ∷ word.Pair op.And ∷ []); line = 12 }) 37 ∷
    Jump 32 ∷
    Straight (row.Set 5 (word.Scalar 6 ∷ []) 12) ∷
    Straight (row.Plain (instr.Need 0 1 ((pos 0) ∷ (pos 0) ∷ (pos 0) ∷ []) 12)) ∷
    Straight (row.Loop 0 (row.Put 1 (word.Here 1 ∷ word.Scalar 5 ∷ word.Pair op.Add ∷ []) None 12 ∷ [])) ∷
    Straight (row.Set 6 (word.Scalar 6 ∷ word.Scalar 8 ∷ word.Pair op.Sub ∷ []) 12) ∷
    Unless (record { expr = (word.Scalar 6 ∷ word.Scalar 8 ∷ word.Pair op.Add ∷ word.Scalar 6 ∷ word.Pair op.Le ∷ word.Scalar 6 ∷ word.Scalar 7 ∷ word.Pair op.Lt ∷ word.Pair op.Or ∷ []); line = 12 }) 32 ∷
    Straight (row.Set 0 (word.Scalar 4 ∷ word.Scalar 5 ∷ word.Pair op.Add ∷ []) 13) ∷
    Straight (row.Plain (instr.Fix 5 (record { rank = 1; dims = (dim.Range (pos 1) (pos 4) (pos 1) (pos 1) ∷ dim.Range (pos 0) (pos 0) (pos 1) (pos 0) ∷ dim.Range (pos 0) (pos 0) (pos 1) (pos 0) ∷ []) }))) ∷
    Straight (row.Loop 5 (row.Put 7 (word.Here 3 ∷ []) None 25 ∷ [])) ∷
    Straight (row.Plain (instr.Fix 6 (record { rank = 1; dims = (dim.Range (pos 1) (pos 2) (pos 1) (pos 1) ∷ dim.Range (pos 0) (pos 0) (pos 1) (pos 0) ∷ dim.Range (pos 0) (pos 0) (pos 1) (pos 0) ∷ []) }))) ∷
    Straight (row.Set 9 (word.Scalar 0 ∷ []) 17) ∷
    Straight (row.Plain (instr.Fix 7 (record { rank = 1; dims = (dim.Range (pos 1) (pos 4) (pos 1) (pos 1) ∷ dim.Range (pos 0) (pos 0) (pos 1) (pos 0) ∷ dim.Range (pos 0) (pos 0) (pos 1) (pos 0) ∷ []) }))) ∷
    Straight (row.Loop 7 (row.Put 8 (word.Here 7 ∷ []) None 17 ∷ [])) ∷
    Straight (row.Set 10 (word.Const (pos 0) ∷ []) 17) ∷
    Straight (row.Plain (instr.Clear 9)) ∷
    Straight (row.Plain (instr.Clear 10)) ∷
    Straight (row.Plain (instr.Need 0 9 ((pos 0) ∷ (pos 0) ∷ (pos 0) ∷ []) 9)) ∷
    Straight (row.Plain (instr.Need 0 17 ((pos 0) ∷ (pos 0) ∷ (pos 0) ∷ []) 9)) ∷
    Straight (row.Plain (instr.Need 0 17 ((pos 1) ∷ (pos 0) ∷ (pos 0) ∷ []) 9)) ∷
    Straight (row.Plain (instr.Need 0 0 ((pos 0) ∷ (pos 0) ∷ (pos 0) ∷ []) 9)) ∷
    Straight (row.Plain (instr.Fix 8 (record { rank = 1; dims = (dim.Range (pos 1) (pos 4) (pos 1) (pos 1) ∷ dim.Range (pos 0) (pos 0) (pos 1) (pos 0) ∷ dim.Range (pos 0) (pos 0) (pos 1) (pos 0) ∷ []) }))) ∷
    Straight (row.Loop 8 (row.Put 17 (word.Here 8 ∷ []) None 9 ∷ [])) ∷
    Straight (row.Plain (instr.Formed form.Of 9 8 ((pos 1) ∷ (pos 0) ∷ (pos 0) ∷ []) 9)) ∷
    Straight (row.Plain (instr.Formed form.Inside 10 8 ((negsuc 0) ∷ (pos 0) ∷ (pos 0) ∷ []) 9)) ∷
    Straight (row.Plain (instr.Edge border.Wrap 17 8 ((pos 1) ∷ (pos 0) ∷ (pos 0) ∷ []))) ∷
    Straight (row.Loop 0 (row.Put 9 (word.Shifted 17 ((pos 1) ∷ (pos 0) ∷ (pos 0) ∷ []) ∷ word.Here 0 ∷ word.Pair op.Add ∷ word.Scalar 9 ∷ word.Pair op.Add ∷ []) None 9 ∷ [])) ∷
    Straight (row.Set 1 (word.Scalar 1 ∷ word.Const (pos 1) ∷ word.Pair op.Add ∷ []) 10) ∷
    Straight (row.Plain (instr.Need 6 0 ((pos 0) ∷ (pos 0) ∷ (pos 0) ∷ []) 11)) ∷
    Straight (row.Plain (instr.Need 6 9 ((pos 0) ∷ (pos 0) ∷ (pos 0) ∷ []) 11)) ∷
    Straight (row.Loop 6 (row.Put 0 (word.Here 9 ∷ []) None 11 ∷ [])) ∷
    Straight (row.Set 11 (word.Const (pos 3) ∷ []) 12) ∷
    Straight (row.Set 12 (word.Const (pos 1) ∷ []) 12) ∷
    Straight (row.Set 13 (word.Const (pos 1) ∷ []) 12) ∷
    Unless (record { expr = (word.Scalar 13 ∷ word.Const (pos 1) ∷ word.Pair op.Ge ∷ word.Scalar 11 ∷ word.Scalar 12 ∷ word.Pair op.Ge ∷ word.Pair op.And ∷ []); line = 12 }) 71 ∷
    Jump 66 ∷
    Straight (row.Set 10 (word.Scalar 11 ∷ []) 12) ∷
    Straight (row.Plain (instr.Need 0 0 ((pos 0) ∷ (pos 0) ∷ (pos 0) ∷ []) 12)) ∷
    Straight (row.Loop 0 (row.Put 0 (word.Here 0 ∷ word.Scalar 10 ∷ word.Pair op.Add ∷ []) None 12 ∷ [])) ∷
    Straight (row.Set 11 (word.Scalar 11 ∷ word.Scalar 13 ∷ word.Pair op.Sub ∷ []) 12) ∷
    Unless (record { expr = (word.Scalar 11 ∷ word.Scalar 13 ∷ word.Pair op.Add ∷ word.Scalar 11 ∷ word.Pair op.Le ∷ word.Scalar 11 ∷ word.Scalar 12 ∷ word.Pair op.Lt ∷ word.Pair op.Or ∷ []); line = 12 }) 66 ∷
    Straight (row.Set 0 (word.Scalar 9 ∷ word.Scalar 10 ∷ word.Pair op.Add ∷ []) 13) ∷
    Straight (row.Plain (instr.Need 0 7 ((pos 0) ∷ (pos 0) ∷ (pos 0) ∷ []) 18)) ∷
    Straight (row.Plain (instr.Need 0 16 ((pos 0) ∷ (pos 0) ∷ (pos 0) ∷ []) 18)) ∷
    Straight (row.Plain (instr.Need 0 16 ((pos 1) ∷ (pos 0) ∷ (pos 0) ∷ []) 18)) ∷
    Straight (row.Plain (instr.Fix 11 (record { rank = 1; dims = (dim.Range (pos 1) (pos 4) (pos 1) (pos 1) ∷ dim.Range (pos 0) (pos 0) (pos 1) (pos 0) ∷ dim.Range (pos 0) (pos 0) (pos 1) (pos 0) ∷ []) }))) ∷
    Straight (row.Loop 11 (row.Put 16 (word.Here 7 ∷ []) None 18 ∷ [])) ∷
    Straight (row.Plain (instr.Formed form.Of 12 11 ((pos 1) ∷ (pos 0) ∷ (pos 0) ∷ []) 18)) ∷
    Straight (row.Plain (instr.Formed form.Inside 13 11 ((negsuc 0) ∷ (pos 0) ∷ (pos 0) ∷ []) 18)) ∷
    Straight (row.Plain (instr.Edge border.Wrap 16 11 ((pos 1) ∷ (pos 0) ∷ (pos 0) ∷ []))) ∷
    Straight (row.Loop 0 (row.Put 7 (word.Shifted 16 ((pos 1) ∷ (pos 0) ∷ (pos 0) ∷ []) ∷ []) None 18 ∷ [])) ∷
    Straight (row.Plain (instr.Fix 14 (record { rank = 1; dims = (dim.Range (pos 1) (pos 4) (pos 1) (pos 1) ∷ dim.Range (pos 0) (pos 0) (pos 1) (pos 0) ∷ dim.Range (pos 0) (pos 0) (pos 1) (pos 0) ∷ []) }))) ∷
    Straight (row.Loop 14 (row.Put 11 (word.Here 1 ∷ []) None 26 ∷ [])) ∷
    Straight (row.Plain (instr.Fix 15 (record { rank = 1; dims = (dim.Range (pos 1) (pos 2) (pos 1) (pos 1) ∷ dim.Range (pos 0) (pos 0) (pos 1) (pos 0) ∷ dim.Range (pos 0) (pos 0) (pos 1) (pos 0) ∷ []) }))) ∷
    Straight (row.Set 14 (word.Scalar 0 ∷ []) 17) ∷
    Straight (row.Plain (instr.Fix 16 (record { rank = 1; dims = (dim.Range (pos 1) (pos 4) (pos 1) (pos 1) ∷ dim.Range (pos 0) (pos 0) (pos 1) (pos 0) ∷ dim.Range (pos 0) (pos 0) (pos 1) (pos 0) ∷ []) }))) ∷
    Straight (row.Loop 16 (row.Put 12 (word.Here 11 ∷ []) None 17 ∷ [])) ∷
    Straight (row.Set 15 (word.Const (pos 0) ∷ []) 17) ∷
    Straight (row.Plain (instr.Clear 13)) ∷
    Straight (row.Plain (instr.Clear 14)) ∷
    Straight (row.Plain (instr.Need 0 13 ((pos 0) ∷ (pos 0) ∷ (pos 0) ∷ []) 9)) ∷
    Straight (row.Plain (instr.Need 0 19 ((pos 0) ∷ (pos 0) ∷ (pos 0) ∷ []) 9)) ∷
    Straight (row.Plain (instr.Need 0 19 ((pos 1) ∷ (pos 0) ∷ (pos 0) ∷ []) 9)) ∷
    Straight (row.Plain (instr.Need 0 0 ((pos 0) ∷ (pos 0) ∷ (pos 0) ∷ []) 9)) ∷
    Straight (row.Plain (instr.Fix 17 (record { rank = 1; dims = (dim.Range (pos 1) (pos 4) (pos 1) (pos 1) ∷ dim.Range (pos 0) (pos 0) (pos 1) (pos 0) ∷ dim.Range (pos 0) (pos 0) (pos 1) (pos 0) ∷ []) }))) ∷
    Straight (row.Loop 17 (row.Put 19 (word.Here 12 ∷ []) None 9 ∷ [])) ∷
    Straight (row.Plain (instr.Formed form.Of 18 17 ((pos 1) ∷ (pos 0) ∷ (pos 0) ∷ []) 9)) ∷
    Straight (row.Plain (instr.Formed form.Inside 19 17 ((negsuc 0) ∷ (pos 0) ∷ (pos 0) ∷ []) 9)) ∷
    Straight (row.Plain (instr.Edge border.Wrap 19 17 ((pos 1) ∷ (pos 0) ∷ (pos 0) ∷ []))) ∷
    Straight (row.Loop 0 (row.Put 13 (word.Shifted 19 ((pos 1) ∷ (pos 0) ∷ (pos 0) ∷ []) ∷ word.Here 0 ∷ word.Pair op.Add ∷ word.Scalar 14 ∷ word.Pair op.Add ∷ []) None 9 ∷ [])) ∷
    Straight (row.Set 1 (word.Scalar 1 ∷ word.Const (pos 1) ∷ word.Pair op.Add ∷ []) 10) ∷
    Straight (row.Plain (instr.Need 15 0 ((pos 0) ∷ (pos 0) ∷ (pos 0) ∷ []) 11)) ∷
    Straight (row.Plain (instr.Need 15 13 ((pos 0) ∷ (pos 0) ∷ (pos 0) ∷ []) 11)) ∷
    Straight (row.Loop 15 (row.Put 0 (word.Here 13 ∷ []) None 11 ∷ [])) ∷
    Straight (row.Set 16 (word.Const (pos 3) ∷ []) 12) ∷
    Straight (row.Set 17 (word.Const (pos 1) ∷ []) 12) ∷
    Straight (row.Set 18 (word.Const (pos 1) ∷ []) 12) ∷
    Unless (record { expr = (word.Scalar 18 ∷ word.Const (pos 1) ∷ word.Pair op.Ge ∷ word.Scalar 16 ∷ word.Scalar 17 ∷ word.Pair op.Ge ∷ word.Pair op.And ∷ []); line = 12 }) 114 ∷
    Jump 109 ∷
    Straight (row.Set 15 (word.Scalar 16 ∷ []) 12) ∷
    Straight (row.Plain (instr.Need 0 0 ((pos 0) ∷ (pos 0) ∷ (pos 0) ∷ []) 12)) ∷
    Straight (row.Loop 0 (row.Put 0 (word.Here 0 ∷ word.Scalar 15 ∷ word.Pair op.Add ∷ []) None 12 ∷ [])) ∷
    Straight (row.Set 16 (word.Scalar 16 ∷ word.Scalar 18 ∷ word.Pair op.Sub ∷ []) 12) ∷
    Unless (record { expr = (word.Scalar 16 ∷ word.Scalar 18 ∷ word.Pair op.Add ∷ word.Scalar 16 ∷ word.Pair op.Le ∷ word.Scalar 16 ∷ word.Scalar 17 ∷ word.Pair op.Lt ∷ word.Pair op.Or ∷ []); line = 12 }) 109 ∷
    Straight (row.Set 0 (word.Scalar 14 ∷ word.Scalar 15 ∷ word.Pair op.Add ∷ []) 13) ∷
    Straight (row.Plain (instr.Need 0 11 ((pos 0) ∷ (pos 0) ∷ (pos 0) ∷ []) 18)) ∷
    Straight (row.Plain (instr.Need 0 18 ((pos 0) ∷ (pos 0) ∷ (pos 0) ∷ []) 18)) ∷
    Straight (row.Plain (instr.Need 0 18 ((pos 1) ∷ (pos 0) ∷ (pos 0) ∷ []) 18)) ∷
    Straight (row.Plain (instr.Fix 20 (record { rank = 1; dims = (dim.Range (pos 1) (pos 4) (pos 1) (pos 1) ∷ dim.Range (pos 0) (pos 0) (pos 1) (pos 0) ∷ dim.Range (pos 0) (pos 0) (pos 1) (pos 0) ∷ []) }))) ∷
    Straight (row.Loop 20 (row.Put 18 (word.Here 11 ∷ []) None 18 ∷ [])) ∷
    Straight (row.Plain (instr.Formed form.Of 21 20 ((pos 1) ∷ (pos 0) ∷ (pos 0) ∷ []) 18)) ∷
    Straight (row.Plain (instr.Formed form.Inside 22 20 ((negsuc 0) ∷ (pos 0) ∷ (pos 0) ∷ []) 18)) ∷
    Straight (row.Plain (instr.Edge border.Wrap 18 20 ((pos 1) ∷ (pos 0) ∷ (pos 0) ∷ []))) ∷
    Straight (row.Loop 0 (row.Put 11 (word.Shifted 18 ((pos 1) ∷ (pos 0) ∷ (pos 0) ∷ []) ∷ []) None 18 ∷ [])) ∷
    Straight (row.Plain (instr.Need 0 0 ((pos 0) ∷ (pos 0) ∷ (pos 0) ∷ []) 27)) ∷
    Straight (row.Plain (instr.Need 0 1 ((pos 0) ∷ (pos 0) ∷ (pos 0) ∷ []) 27)) ∷
    Straight (row.Plain (instr.Need 0 2 ((pos 0) ∷ (pos 0) ∷ (pos 0) ∷ []) 27)) ∷
    Straight (row.Loop 0 (row.OpenIf (word.Here 2 ∷ []) None 27 ∷ row.OpenIf (word.Here 0 ∷ word.Here 1 ∷ word.Pair op.Gt ∷ []) None 27 ∷ row.Put 0 (word.Const (pos 1) ∷ []) None 27 ∷ row.Otherwise ∷ row.OpenIf (word.Here 1 ∷ word.Const (pos 2) ∷ word.Pair op.Eq ∷ []) None 27 ∷ row.OpenWhile (word.Here 0 ∷ word.Const (pos 3) ∷ word.Pair op.Lt ∷ []) None 27 ∷ row.Put 0 (word.Here 0 ∷ word.Const (pos 1) ∷ word.Pair op.Add ∷ []) None 27 ∷ row.CloseWhile ∷ row.Otherwise ∷ row.OpenRepeat None 27 ∷ row.Put 0 (word.Here 0 ∷ word.Const (pos 1) ∷ word.Pair op.Sub ∷ []) None 27 ∷ row.Until (word.Here 0 ∷ word.Const (pos 2) ∷ word.Pair op.Lt ∷ []) ∷ row.Put 1 (word.Const (pos 3) ∷ []) None 27 ∷ row.CloseIf ∷ row.CloseIf ∷ row.CloseIf ∷ [])) ∷
    Straight (row.Plain (instr.Need 0 0 ((pos 0) ∷ (pos 0) ∷ (pos 0) ∷ []) 28)) ∷
    Straight (row.Plain (instr.Need 0 1 ((pos 0) ∷ (pos 0) ∷ (pos 0) ∷ []) 28)) ∷
    Straight (row.Loop 0 (row.OpenIf (word.Here 0 ∷ word.Here 1 ∷ word.Pair op.Gt ∷ []) None 28 ∷ row.CloseIf ∷ [])) ∷
    Straight (row.Set 19 (word.Const (pos 0) ∷ []) 28) ∷
    Straight (row.Plain (instr.Need 0 0 ((pos 0) ∷ (pos 0) ∷ (pos 0) ∷ []) 29)) ∷
    Straight (row.Plain (instr.Need 0 1 ((pos 0) ∷ (pos 0) ∷ (pos 0) ∷ []) 29)) ∷
    Straight (row.Loop 0 (row.OpenWhile (word.Here 0 ∷ word.Here 1 ∷ word.Pair op.Lt ∷ []) None 29 ∷ row.OpenIf (word.Here 0 ∷ word.Const (pos 1) ∷ word.Pair op.Eq ∷ []) None 29 ∷ row.Put 0 (word.Const (pos 5) ∷ []) None 29 ∷ row.CloseIf ∷ row.Put 0 (word.Here 0 ∷ word.Const (pos 1) ∷ word.Pair op.Add ∷ []) None 29 ∷ row.CloseWhile ∷ [])) ∷
    Straight (row.Dims 23 (row.Span (word.Scalar 0 ∷ []) (word.Scalar 1 ∷ []) ∷ row.Star ∷ row.Star ∷ []) 30) ∷
    Straight (row.Plain (instr.Need 23 0 ((pos 0) ∷ (pos 0) ∷ (pos 0) ∷ []) 30)) ∷
    Straight (row.Loop 23 (row.Put 0 (word.Const (pos 1) ∷ []) None 30 ∷ [])) ∷
    Straight (row.Plain (instr.Fix 24 (record { rank = 1; dims = (dim.Range (pos 3) (pos 4) (pos 1) (pos 3) ∷ dim.Range (pos 0) (pos 0) (pos 1) (pos 0) ∷ dim.Range (pos 0) (pos 0) (pos 1) (pos 0) ∷ []) }))) ∷
    Straight (row.Plain (instr.Need 24 1 ((pos 0) ∷ (pos 0) ∷ (pos 0) ∷ []) 31)) ∷
    Straight (row.Loop 24 (row.Put 1 (word.Const (pos 2) ∷ []) None 31 ∷ [])) ∷
    Straight (row.Plain (instr.Fix 25 (record { rank = 1; dims = (dim.Range (pos 4) (pos 4) (pos 2) (pos 1) ∷ dim.Range (pos 0) (pos 0) (pos 1) (pos 0) ∷ dim.Range (pos 0) (pos 0) (pos 1) (pos 0) ∷ []) }))) ∷
    Straight (row.Plain (instr.Need 25 0 ((pos 0) ∷ (pos 0) ∷ (pos 0) ∷ []) 32)) ∷
    Straight (row.Loop 25 (row.Put 0 (word.Const (pos 3) ∷ []) None 32 ∷ [])) ∷ [])
unfolding longest_chain int_wrap digits
rows = refl

scalars : (lowered_program example ([])).scalars ≡ 20
unfolding longest_chain int_wrap digits
scalars = refl

slots : (lowered_program example ([])).slots ≡ (1 ∷ 1 ∷ 1 ∷ 1 ∷ 1 ∷ 1 ∷ 1 ∷ 1 ∷ 1 ∷ 1 ∷ 1 ∷ 1 ∷ 1 ∷ 1 ∷ 1 ∷ 1 ∷ 1 ∷ 1 ∷ 1 ∷ 1 ∷ 1 ∷ 1 ∷ 1 ∷ 1 ∷ 1 ∷ 1 ∷ [])
unfolding longest_chain int_wrap digits
slots = refl

has_fringes : list_all (λ words. list_all (word_has_fringe (flat_tables example [])) words) (flat_tables example []).exprs ≡ true
unfolding longest_chain int_wrap digits
has_fringes = refl

has_one_unit_a_loop : list_all has_one_unit (flat_tables example []).groups ≡ true
unfolding longest_chain int_wrap digits
has_one_unit_a_loop = refl

keeps_cells : list_all (keeps_from (flat_tables example []) 0 []) (flat_tables example []).groups ≡ true
unfolding longest_chain int_wrap digits
keeps_cells = refl

shifts_once : list_all (λ one. not (list_any (has_shift (flat_tables example [])) (mask_of one))) (all_members (flat_tables example [])) ≡ true
unfolding longest_chain int_wrap digits
shifts_once = refl
