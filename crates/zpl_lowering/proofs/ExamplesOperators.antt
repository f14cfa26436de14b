-- Lowered: operators over regions, reads that wrap round, remap reads, borders, prints.
use Rattle.std.proofs.Common.{◌≡◌, ℕ, ℤ, Bool, true, false, List, [], ◌∷◌, Some, None, pos, negsuc, codes, refl}
use Rattle.std.specs.Prelude.{length, slice_get, take, drop}
use Rattle.std.specs.Fmt.{digits}
use Rattle.std.specs.Int.{int_wrap}
use Rattle.zpl_meaning.specs.of_zpl_nums.declared.operators.Op.TheVariants as op
use Rattle.zpl_meaning.specs.of_zpl_nums.declared.folds.Fold.TheVariants as fold
use Rattle.zpl_meaning.specs.of_zpl_nums.declared.ends.Border.TheVariants as border
use Rattle.zpl_meaning.specs.of_zpl_nums.declared.ends.TrapKind.TheVariants as trap
use Rattle.zpl_meaning.specs.of_zpl_region.declared.dims.Dim.TheVariants as dim
use Rattle.text_sharing.specs.of_node_form.declared.words.ExprOp.TheVariants as word
use Rattle.text_sharing.specs.of_node_form.declared.instructions.RegionForm.TheVariants as form
use Rattle.text_sharing.specs.of_node_form.declared.instructions.SameKind.TheVariants as same
use Rattle.zpl_meaning.specs.of_zpl_tree.Syntax.{Name, NamedRegion, Ditto, Number, Truth, Coord, Named, Shifted, Around, Remap, Call, Paren, Neg, Not, Abs, Pair, Reduce, Scan, Flood, NoExpr, ThenExpr, NamedDir, Vector, Rexpr, Dims, NoBracket, Bracketed, NoPost, ThenPost, Blank, Star, One, Span, NoDim, ThenDim, Str, Value, Prefixed, NoStmt, ThenStmt, Assign, Invoke, Block, If, While, Repeat, For, Border, Write, Return, Tested, NoArm, ThenArm, NoElse, Else, Integer, Boolean, Config, Constant, Regions, Directions, Vars, Defined, Program}
use Rattle.zpl_meaning.specs.of_zpl_names.Reached.{longest_chain}
use Rattle.text_sharing.specs.of_row_runs.Code.{CodeRow, Straight, Jump, Unless}
use Rattle.text_sharing.specs.of_row_runs.Structured.{flattened}
use Rattle.text_sharing.specs.of_flat_form.Row as row
use Rattle.text_sharing.specs.of_node_form.declared.instructions.Instr.TheVariants as instr
use Rattle.std.specs.Prelude.{not}
use Rattle.std.specs.List.{list_all, list_any}
use Rattle.text_sharing.specs.of_flat_form.Static.{word_has_fringe, has_one_unit, keeps_from, has_shift, mask_of, all_members}
use Rattle.zpl_lowering.specs.Program.{lowered_program}
use Rattle.zpl_lowering.specs.Tables.{flat_tables}

abbrev name : List ℕ → ℕ → Name
name text at = record { text = text; at = at }

abbrev example : Program
example = (record { name = (name (codes "t") 8); decls = ((Regions ((record { name = (name (codes "R") 18); body = (Dims (ThenDim (Span (Number 23 (pos 1)) (Number 26 (pos 3))) (ThenDim (Span (Number 29 (pos 1)) (Number 32 (pos 4))) NoDim))); posts = NoPost }) ∷ (record { name = (name (codes "C") 36); body = (Dims (ThenDim (Span (Number 41 (pos 1)) (Number 44 (pos 3))) (ThenDim (One (Number 47 (pos 4))) NoDim))); posts = NoPost }) ∷ (record { name = (name (codes "D") 51); body = (Dims (ThenDim (Star 56) (ThenDim (Span (Number 59 (pos 1)) (Number 62 (pos 4))) NoDim))); posts = NoPost }) ∷ (record { name = (name (codes "L") 66); body = (Dims (ThenDim (Span (Number 71 (pos 1)) (Number 74 (pos 4))) NoDim)); posts = NoPost }) ∷ [])) ∷ (Directions ((record { name = (name (codes "se") 88); parts = (ThenExpr (Number 94 (pos 1)) (ThenExpr (Number 97 (pos 1)) NoExpr)) }) ∷ (record { name = (name (codes "far") 101); parts = (ThenExpr (Neg 108 (Number 109 (pos 7))) (ThenExpr (Number 112 (pos 0)) NoExpr)) }) ∷ (record { name = (name (codes "e") 116); parts = (ThenExpr (Number 121 (pos 0)) (ThenExpr (Number 124 (pos 1)) NoExpr)) }) ∷ [])) ∷ (Vars ((record { names = ((name (codes "A") 132) ∷ (name (codes "B") 135) ∷ []); shape = (Bracketed (Rexpr ([]) (NamedRegion (name (codes "R") 140)) NoPost)); base = Integer }) ∷ (record { names = ((name (codes "S") 152) ∷ []); shape = (Bracketed (Rexpr ([]) (NamedRegion (name (codes "C") 157)) NoPost)); base = Integer }) ∷ (record { names = ((name (codes "F") 169) ∷ []); shape = (Bracketed (Rexpr ([]) (NamedRegion (name (codes "D") 174)) NoPost)); base = Integer }) ∷ (record { names = ((name (codes "V") 186) ∷ (name (codes "W") 189) ∷ []); shape = (Bracketed (Rexpr ([]) (NamedRegion (name (codes "L") 194)) NoPost)); base = Integer }) ∷ (record { names = ((name (codes "M") 206) ∷ []); shape = (Bracketed (Rexpr ([]) (NamedRegion (name (codes "R") 211)) NoPost)); base = Boolean }) ∷ (record { names = ((name (codes "k") 223) ∷ []); shape = NoBracket; base = Integer }) ∷ [])) ∷ (Defined (record { name = (name (codes "t") 246); params = ([]); result = None; locals = ([]); body = (Prefixed 251 ([]) (Block (ThenStmt (Prefixed 263 ((record { at = 259; region = (Rexpr ([]) (NamedRegion (name (codes "R") 260)) NoPost); mask = None }) ∷ []) (Assign (name (codes "A") 263) None (Pair 268 op.Add (Coord 268 1) (Coord 277 2)))) (ThenStmt (Prefixed 291 ((record { at = 287; region = (Rexpr ([]) (NamedRegion (name (codes "C") 288)) NoPost); mask = None }) ∷ []) (Assign (name (codes "S") 291) None (Pair 296 op.Mul (Reduce 296 fold.Sum (Bracketed (Rexpr ([]) (NamedRegion (name (codes "R") 300)) NoPost)) (Named 303 (name (codes "A") 303))) (Number 307 (pos 2))))) (ThenStmt (Prefixed 316 ((record { at = 312; region = (Rexpr ([]) (NamedRegion (name (codes "R") 313)) NoPost); mask = None }) ∷ []) (Assign (name (codes "B") 316) None (Flood 321 (Dims (ThenDim (One (Number 324 (pos 1))) (ThenDim (Span (Number 327 (pos 1)) (Number 330 (pos 4))) NoDim))) (Paren 333 (Pair 334 op.Add (Named 334 (name (codes "A") 334)) (Named 338 (name (codes "B") 338))))))) (ThenStmt (Prefixed 348 ((record { at = 344; region = (Rexpr ([]) (NamedRegion (name (codes "D") 345)) NoPost); mask = None }) ∷ []) (Assign (name (codes "F") 348) None (Reduce 353 fold.Max (Bracketed (Rexpr ([]) (NamedRegion (name (codes "R") 359)) NoPost)) (Named 362 (name (codes "A") 362))))) (ThenStmt (Prefixed 371 ((record { at = 367; region = (Rexpr ([]) (NamedRegion (name (codes "R") 368)) NoPost); mask = None }) ∷ []) (Assign (name (codes "B") 371) None (Pair 376 op.Add (Named 376 (name (codes "A") 376)) (Named 380 (name (codes "F") 380))))) (ThenStmt (Prefixed 389 ((record { at = 385; region = (Rexpr ([]) (NamedRegion (name (codes "R") 386)) NoPost); mask = None }) ∷ []) (Assign (name (codes "M") 389) None (Pair 394 op.Gt (Named 394 (name (codes "A") 394)) (Number 398 (pos 3))))) (ThenStmt (Prefixed 414 ((record { at = 403; region = (Rexpr ([]) (NamedRegion (name (codes "R") 404)) NoPost); mask = (Some (record { name = (name (codes "M") 411); without = false })) }) ∷ []) (Assign (name (codes "A") 414) None (Scan 419 fold.Sum None (Named 422 (name (codes "A") 422))))) (ThenStmt (Prefixed 441 ((record { at = 427; region = (Rexpr ([]) (NamedRegion (name (codes "R") 428)) NoPost); mask = (Some (record { name = (name (codes "M") 438); without = true })) }) ∷ []) (Assign (name (codes "A") 441) None (Scan 446 fold.Sum (Some (pos 2)) (Paren 453 (Pair 454 op.Add (Named 454 (name (codes "A") 454)) (Number 458 (pos 1))))))) (ThenStmt (Prefixed 468 ((record { at = 464; region = (Rexpr ([]) (NamedRegion (name (codes "R") 465)) NoPost); mask = None }) ∷ []) (Assign (name (codes "A") 468) None (Pair 473 op.Add (Around 473 (name (codes "B") 473) (NamedDir (name (codes "se") 476))) (Around 481 (name (codes "B") 481) (NamedDir (name (codes "far") 484)))))) (ThenStmt (Prefixed 495 ((record { at = 491; region = (Rexpr ([]) (NamedRegion (name (codes "L") 492)) NoPost); mask = None }) ∷ []) (Assign (name (codes "W") 495) None (Remap 500 (name (codes "V") 500) (ThenExpr (Pair 503 op.Sub (Number 503 (pos 5)) (Coord 507 1)) NoExpr)))) (ThenStmt (Prefixed 529 ((record { at = 518; region = (Rexpr ([]) (NamedRegion (name (codes "R") 519)) NoPost); mask = (Some (record { name = (name (codes "M") 526); without = false })) }) ∷ []) (Assign (name (codes "A") 529) None (Pair 534 op.Add (Remap 534 (name (codes "B") 534) (ThenExpr (Coord 537 1) (ThenExpr (Pair 545 op.Sub (Number 545 (pos 5)) (Coord 549 2)) NoExpr))) (Reduce 559 fold.Sum NoBracket (Paren 562 (Pair 563 op.Mul (Named 563 (name (codes "A") 563)) (Number 567 (pos 2)))))))) (ThenStmt (Prefixed 577 ((record { at = 573; region = (Rexpr ([]) (NamedRegion (name (codes "R") 574)) NoPost); mask = None }) ∷ []) (Assign (name (codes "A") 577) None (Remap 582 (name (codes "V") 582) (ThenExpr (Pair 585 op.Add (Coord 585 1) (Coord 594 2)) NoExpr)))) (ThenStmt (Prefixed 614 ((record { at = 605; region = (Rexpr ((record { dir = (name (codes "e") 606); outside = true }) ∷ []) (NamedRegion (name (codes "R") 611)) NoPost); mask = None }) ∷ []) (Border border.Wrap ((name (codes "A") 619) ∷ (name (codes "B") 622) ∷ []))) (ThenStmt (Prefixed 631 ((record { at = 627; region = (Rexpr ([]) (NamedRegion (name (codes "R") 628)) NoPost); mask = None }) ∷ []) (Block (ThenStmt (Prefixed 646 ((record { at = 637; region = (Rexpr ((record { dir = (name (codes "e") 638); outside = true }) ∷ []) (Ditto 643) NoPost); mask = None }) ∷ []) (Border border.Reflect ((name (codes "A") 654) ∷ []))) NoStmt))) (ThenStmt (Prefixed 668 ((record { at = 664; region = (Rexpr ([]) (NamedRegion (name (codes "R") 665)) NoPost); mask = None }) ∷ []) (Write false ((Value (Named 674 (name (codes "A") 674))) ∷ (Str (codes " x ")) ∷ (Value (Named 684 (name (codes "k") 684))) ∷ (Value (Named 687 (name (codes "M") 687))) ∷ []))) (ThenStmt (Prefixed 697 ((record { at = 693; region = (Rexpr ([]) (NamedRegion (name (codes "R") 694)) NoPost); mask = None }) ∷ []) (Assign (name (codes "k") 697) None (Reduce 702 fold.Sum NoBracket (Paren 705 (Flood 706 (Dims (ThenDim (One (Number 709 (pos 2))) (ThenDim (Span (Number 712 (pos 1)) (Number 715 (pos 4))) NoDim))) (Named 718 (name (codes "A") 718))))))) NoStmt)))))))))))))))))) })) ∷ []); source = (codes "program t;\nregion R = [1..3, 1..4]; C = [1..3, 4]; D = [*, 1..4]; L = [1..4];\ndirection se = [1, 1]; far = [-7, 0]; e = [0, 1];\nvar A, B : [R] integer; S : [C] integer; F : [D] integer; V, W : [L] integer; M : [R] boolean; k : integer;\nprocedure t();\nbegin\n  [R] A := Index1 + Index2;\n  [C] S := +<<[R] A * 2;\n  [R] B := >>[1, 1..4] (A + B);\n  [D] F := max<<[R] A;\n  [R] B := A + F;\n  [R] M := A > 3;\n  [R with M] A := +||A;\n  [R without M] A := +||[2] (A + 1);\n  [R] A := B@^se + B@^far;\n  [L] W := V#[5 - Index1];\n  [R with M] A := B#[Index1, 5 - Index2] + +<<(A * 2);\n  [R] A := V#[Index1 + Index2];\n  [e of R] wrap A, B;\n  [R] begin [e of \"] reflect A; end;\n  [R] write(A, \" x \", k, M);\n  [R] k := +<<(>>[2, 1..4] A);\nend;\n") })

rows : flattened 0 (lowered_program example ([])).code ≡ (
    Straight (row.Plain (instr.Fix 0 (record { rank = 2; dims = (dim.Range (pos 1) (pos 3) (pos 1) (pos 1) ∷ dim.Range (pos 1) (pos 4) (pos 1) (pos 1) ∷ dim.Range (pos 0) (pos 0) (pos 1) (pos 0) ∷ []) }))) ∷
    Straight (row.Plain (instr.Fix 1 (record { rank = 2; dims = (dim.Range (pos 1) (pos 3) (pos 1) (pos 1) ∷ dim.Range (pos 4) (pos 4) (pos 1) (pos 4) ∷ dim.Range (pos 0) (pos 0) (pos 1) (pos 0) ∷ []) }))) ∷
    Straight (row.Plain (instr.Fix 2 (record { rank = 2; dims = (dim.Flood ∷ dim.Range (pos 1) (pos 4) (pos 1) (pos 1) ∷ dim.Range (pos 0) (pos 0) (pos 1) (pos 0) ∷ []) }))) ∷
    Straight (row.Plain (instr.Fix 3 (record { rank = 1; dims = (dim.Range (pos 1) (pos 4) (pos 1) (pos 1) ∷ dim.Range (pos 0) (pos 0) (pos 1) (pos 0) ∷ dim.Range (pos 0) (pos 0) (pos 1) (pos 0) ∷ []) }))) ∷
    Straight (row.Plain (instr.Need 0 0 ((pos 0) ∷ (pos 0) ∷ (pos 0) ∷ []) 7)) ∷
    Straight (row.Loop 0 (row.Put 0 (word.Coord 1 ∷ word.Coord 2 ∷ word.Pair op.Add ∷ []) None 7 ∷ [])) ∷
    Straight (row.Plain (instr.Same 1 0 same.Part 8)) ∷
    Straight (row.Plain (instr.Need 1 2 ((pos 0) ∷ (pos 0) ∷ (pos 0) ∷ []) 8)) ∷
    Straight (row.Plain (instr.Need 0 0 ((pos 0) ∷ (pos 0) ∷ (pos 0) ∷ []) 8)) ∷
    Straight (row.Plain (instr.Room 9 0)) ∷
    Straight (row.Loop 0 (row.Put 9 (word.Here 0 ∷ []) None 8 ∷ [])) ∷
    Straight (row.Plain (instr.Room 10 1)) ∷
    Straight (row.Plain (instr.Part 10 1 fold.Sum 9 0)) ∷
    Straight (row.Loop 1 (row.Put 2 (word.Here 10 ∷ word.Const (pos 2) ∷ word.Pair op.Mul ∷ []) None 8 ∷ [])) ∷
    Straight (row.Plain (instr.Fix 4 (record { rank = 2; dims = (dim.Range (pos 1) (pos 1) (pos 1) (pos 1) ∷ dim.Range (pos 1) (pos 4) (pos 1) (pos 1) ∷ dim.Range (pos 0) (pos 0) (pos 1) (pos 0) ∷ []) }))) ∷
    Straight (row.Plain (instr.Same 0 4 same.Flood 9)) ∷
    Straight (row.Plain (instr.Need 0 1 ((pos 0) ∷ (pos 0) ∷ (pos 0) ∷ []) 9)) ∷
    Straight (row.Plain (instr.Need 4 0 ((pos 0) ∷ (pos 0) ∷ (pos 0) ∷ []) 9)) ∷
    Straight (row.Plain (instr.Need 4 1 ((pos 0) ∷ (pos 0) ∷ (pos 0) ∷ []) 9)) ∷
    Straight (row.Plain (instr.Room 11 4)) ∷
    Straight (row.Loop 4 (row.Put 11 (word.Here 0 ∷ word.Here 1 ∷ word.Pair op.Add ∷ []) None 9 ∷ [])) ∷
    Straight (row.Plain (instr.Room 12 0)) ∷
    Straight (row.Plain (instr.Flood 12 0 11 4)) ∷
    Straight (row.Loop 0 (row.Put 1 (word.Here 12 ∷ []) None 9 ∷ [])) ∷
    Straight (row.Plain (instr.Same 2 0 same.Part 10)) ∷
    Straight (row.Plain (instr.Need 2 3 ((pos 0) ∷ (pos 0) ∷ (pos 0) ∷ []) 10)) ∷
    Straight (row.Plain (instr.Need 0 0 ((pos 0) ∷ (pos 0) ∷ (pos 0) ∷ []) 10)) ∷
    Straight (row.Plain (instr.Room 13 0)) ∷
    Straight (row.Loop 0 (row.Put 13 (word.Here 0 ∷ []) None 10 ∷ [])) ∷
    Straight (row.Plain (instr.Room 14 2)) ∷
    Straight (row.Plain (instr.Part 14 2 fold.Max 13 0)) ∷
    Straight (row.Loop 2 (row.Put 3 (word.Here 14 ∷ []) None 10 ∷ [])) ∷
    Straight (row.Plain (instr.Need 0 1 ((pos 0) ∷ (pos 0) ∷ (pos 0) ∷ []) 11)) ∷
    Straight (row.Plain (instr.Need 0 0 ((pos 0) ∷ (pos 0) ∷ (pos 0) ∷ []) 11)) ∷
    Straight (row.Plain (instr.Need 0 3 ((pos 0) ∷ (pos 0) ∷ (pos 0) ∷ []) 11)) ∷
    Straight (row.Loop 0 (row.Put 1 (word.Here 0 ∷ word.Here 3 ∷ word.Pair op.Add ∷ []) None 11 ∷ [])) ∷
    Straight (row.Plain (instr.Need 0 6 ((pos 0) ∷ (pos 0) ∷ (pos 0) ∷ []) 12)) ∷
    Straight (row.Plain (instr.Need 0 0 ((pos 0) ∷ (pos 0) ∷ (pos 0) ∷ []) 12)) ∷
    Straight (row.Loop 0 (row.Put 6 (word.Here 0 ∷ word.Const (pos 3) ∷ word.Pair op.Gt ∷ []) None 12 ∷ [])) ∷
    Straight (row.Plain (instr.Need 0 0 ((pos 0) ∷ (pos 0) ∷ (pos 0) ∷ []) 13)) ∷
    Straight (row.Plain (instr.Need 0 6 ((pos 0) ∷ (pos 0) ∷ (pos 0) ∷ []) 13)) ∷
    Straight (row.Plain (instr.Room 15 0)) ∷
    Straight (row.Loop 0 (row.Put 15 (word.Here 0 ∷ []) (Some (word.Here 6 ∷ [])) 13 ∷ [])) ∷
    Straight (row.Plain (instr.Room 16 0)) ∷
    Straight (row.Plain (instr.Scan 16 0 fold.Sum 0 15 (Some 6))) ∷
    Straight (row.Loop 0 (row.Put 0 (word.Here 16 ∷ []) (Some (word.Here 6 ∷ [])) 13 ∷ [])) ∷
    Straight (row.Plain (instr.Need 0 0 ((pos 0) ∷ (pos 0) ∷ (pos 0) ∷ []) 14)) ∷
    Straight (row.Plain (instr.Need 0 6 ((pos 0) ∷ (pos 0) ∷ (pos 0) ∷ []) 14)) ∷
    Straight (row.Plain (instr.Room 17 0)) ∷
    Straight (row.Plain (instr.Room 18 0)) ∷
    Straight (row.Loop 0 (row.Put 17 (word.Here 0 ∷ word.Const (pos 1) ∷ word.Pair op.Add ∷ []) (Some (word.Here 6 ∷ word.Not ∷ [])) 14 ∷ row.Put 18 (word.Here 6 ∷ word.Not ∷ []) None 14 ∷ [])) ∷
    Straight (row.Plain (instr.Room 19 0)) ∷
    Straight (row.Plain (instr.Scan 19 0 fold.Sum 2 17 (Some 18))) ∷
    Straight (row.Loop 0 (row.Put 0 (word.Here 19 ∷ []) (Some (word.Here 6 ∷ word.Not ∷ [])) 14 ∷ [])) ∷
    Straight (row.Plain (instr.Need 0 0 ((pos 0) ∷ (pos 0) ∷ (pos 0) ∷ []) 15)) ∷
    Straight (row.Plain (instr.Need 0 7 ((pos 0) ∷ (pos 0) ∷ (pos 0) ∷ []) 15)) ∷
    Straight (row.Plain (instr.Need 0 7 ((pos 1) ∷ (pos 1) ∷ (pos 0) ∷ []) 15)) ∷
    Straight (row.Plain (instr.Need 0 8 ((pos 0) ∷ (pos 0) ∷ (pos 0) ∷ []) 15)) ∷
    Straight (row.Plain (instr.Need 0 8 ((negsuc 0) ∷ (pos 0) ∷ (pos 0) ∷ []) 15)) ∷
    Straight (row.Plain (instr.Fix 5 (record { rank = 2; dims = (dim.Range (pos 1) (pos 3) (pos 1) (pos 1) ∷ dim.Range (pos 1) (pos 4) (pos 1) (pos 1) ∷ dim.Range (pos 0) (pos 0) (pos 1) (pos 0) ∷ []) }))) ∷
    Straight (row.Loop 5 (row.Put 7 (word.Here 1 ∷ []) None 15 ∷ [])) ∷
    Straight (row.Plain (instr.Formed form.Of 6 5 ((pos 1) ∷ (pos 0) ∷ (pos 0) ∷ []) 15)) ∷
    Straight (row.Plain (instr.Formed form.Inside 7 5 ((negsuc 0) ∷ (pos 0) ∷ (pos 0) ∷ []) 15)) ∷
    Straight (row.Plain (instr.Edge border.Wrap 7 5 ((pos 1) ∷ (pos 0) ∷ (pos 0) ∷ []))) ∷
    Straight (row.Plain (instr.Formed form.Of 8 5 ((pos 0) ∷ (pos 1) ∷ (pos 0) ∷ []) 15)) ∷
    Straight (row.Plain (instr.Formed form.Inside 9 5 ((pos 0) ∷ (negsuc 0) ∷ (pos 0) ∷ []) 15)) ∷
    Straight (row.Plain (instr.Edge border.Wrap 7 5 ((pos 0) ∷ (pos 1) ∷ (pos 0) ∷ []))) ∷
    Straight (row.Plain (instr.Formed form.Of 10 5 ((pos 1) ∷ (pos 1) ∷ (pos 0) ∷ []) 15)) ∷
    Straight (row.Plain (instr.Formed form.Inside 11 5 ((negsuc 0) ∷ (negsuc 0) ∷ (pos 0) ∷ []) 15)) ∷
    Straight (row.Plain (instr.Edge border.Wrap 7 5 ((pos 1) ∷ (pos 1) ∷ (pos 0) ∷ []))) ∷
    Straight (row.Plain (instr.Fix 12 (record { rank = 2; dims = (dim.Range (pos 1) (pos 3) (pos 1) (pos 1) ∷ dim.Range (pos 1) (pos 4) (pos 1) (pos 1) ∷ dim.Range (pos 0) (pos 0) (pos 1) (pos 0) ∷ []) }))) ∷
    Straight (row.Loop 12 (row.Put 8 (word.Here 1 ∷ []) None 15 ∷ [])) ∷
    Straight (row.Plain (instr.Formed form.Of 13 12 ((negsuc 0) ∷ (pos 0) ∷ (pos 0) ∷ []) 15)) ∷
    Straight (row.Plain (instr.Formed form.Inside 14 12 ((pos 1) ∷ (pos 0) ∷ (pos 0) ∷ []) 15)) ∷
    Straight (row.Plain (instr.Edge border.Wrap 8 12 ((negsuc 0) ∷ (pos 0) ∷ (pos 0) ∷ []))) ∷
    Straight (row.Loop 0 (row.Put 0 (word.Shifted 7 ((pos 1) ∷ (pos 1) ∷ (pos 0) ∷ []) ∷ word.Shifted 8 ((negsuc 0) ∷ (pos 0) ∷ (pos 0) ∷ []) ∷ word.Pair op.Add ∷ []) None 15 ∷ [])) ∷
    Straight (row.Plain (instr.Need 3 5 ((pos 0) ∷ (pos 0) ∷ (pos 0) ∷ []) 16)) ∷
    Straight (row.Plain (instr.Room 20 3)) ∷
    Straight (row.Loop 3 (row.Put 20 (word.Const (pos 5) ∷ word.Coord 1 ∷ word.Pair op.Sub ∷ []) None 16 ∷ [])) ∷
    Straight (row.Set 1 (word.Const (pos 0) ∷ []) 16) ∷
    Straight (row.Loop 3 (row.Acc 1 fold.Any (word.Here 20 ∷ word.Const (pos 1) ∷ word.Pair op.Lt ∷ word.Here 20 ∷ word.Const (pos 4) ∷ word.Pair op.Gt ∷ word.Pair op.Or ∷ []) None 16 ∷ [])) ∷
    Straight (row.Plain (instr.Fold 1 fold.Any)) ∷
    Unless (record { expr = (word.Scalar 1 ∷ []); line = 16 }) 84 ∷
    Straight (row.Plain (instr.Trap trap.OutsideStorage 16)) ∷
    Straight (row.Plain (instr.Room 21 3)) ∷
    Straight (row.Plain (instr.Remap 21 3 4 (Some 20 ∷ None ∷ None ∷ []))) ∷
    Straight (row.Loop 3 (row.Put 5 (word.Here 21 ∷ []) None 16 ∷ [])) ∷
    Straight (row.Plain (instr.Need 0 0 ((pos 0) ∷ (pos 0) ∷ (pos 0) ∷ []) 17)) ∷
    Straight (row.Plain (instr.Need 0 6 ((pos 0) ∷ (pos 0) ∷ (pos 0) ∷ []) 17)) ∷
    Straight (row.Plain (instr.Room 22 0)) ∷
    Straight (row.Plain (instr.Room 23 0)) ∷
    Straight (row.Loop 0 (row.Put 22 (word.Coord 1 ∷ []) (Some (word.Here 6 ∷ [])) 17 ∷ row.Put 23 (word.Const (pos 5) ∷ word.Coord 2 ∷ word.Pair op.Sub ∷ []) (Some (word.Here 6 ∷ [])) 17 ∷ [])) ∷
    Straight (row.Set 2 (word.Const (pos 0) ∷ []) 17) ∷
    Straight (row.Loop 0 (row.Acc 2 fold.Any (word.Here 22 ∷ word.Const (pos 1) ∷ word.Pair op.Lt ∷ word.Here 22 ∷ word.Const (pos 3) ∷ word.Pair op.Gt ∷ word.Pair op.Or ∷ word.Here 23 ∷ word.Const (pos 1) ∷ word.Pair op.Lt ∷ word.Pair op.Or ∷ word.Here 23 ∷ word.Const (pos 5) ∷ word.Pair op.Gt ∷ word.Pair op.Or ∷ []) (Some (word.Here 6 ∷ [])) 17 ∷ [])) ∷
    Straight (row.Plain (instr.Fold 2 fold.Any)) ∷
    Unless (record { expr = (word.Scalar 2 ∷ []); line = 17 }) 97 ∷
    Straight (row.Plain (instr.Trap trap.OutsideStorage 17)) ∷
    Straight (row.Plain (instr.Room 24 0)) ∷
    Straight (row.Plain (instr.Remap 24 0 1 (Some 22 ∷ Some 23 ∷ None ∷ []))) ∷
    Straight (row.Set 3 (word.Const (pos 0) ∷ []) 17) ∷
    Straight (row.Loop 0 (row.Acc 3 fold.Sum (word.Here 0 ∷ word.Const (pos 2) ∷ word.Pair op.Mul ∷ []) (Some (word.Here 6 ∷ [])) 17 ∷ [])) ∷
    Straight (row.Plain (instr.Fold 3 fold.Sum)) ∷
    Straight (row.Loop 0 (row.Put 0 (word.Here 24 ∷ word.Scalar 3 ∷ word.Pair op.Add ∷ []) (Some (word.Here 6 ∷ [])) 17 ∷ [])) ∷
    Straight (row.Plain (instr.Need 0 0 ((pos 0) ∷ (pos 0) ∷ (pos 0) ∷ []) 18)) ∷
    Straight (row.Plain (instr.Room 25 0)) ∷
    Straight (row.Loop 0 (row.Put 25 (word.Coord 1 ∷ word.Coord 2 ∷ word.Pair op.Add ∷ []) None 18 ∷ [])) ∷
    Straight (row.Set 4 (word.Const (pos 0) ∷ []) 18) ∷
    Straight (row.Loop 0 (row.Acc 4 fold.Any (word.Here 25 ∷ word.Const (pos 1) ∷ word.Pair op.Lt ∷ word.Here 25 ∷ word.Const (pos 4) ∷ word.Pair op.Gt ∷ word.Pair op.Or ∷ []) None 18 ∷ [])) ∷
    Straight (row.Plain (instr.Fold 4 fold.Any)) ∷
    Unless (record { expr = (word.Scalar 4 ∷ []); line = 18 }) 111 ∷
    Straight (row.Plain (instr.Trap trap.OutsideStorage 18)) ∷
    Straight (row.Plain (instr.Room 26 0)) ∷
    Straight (row.Plain (instr.Remap 26 0 4 (Some 25 ∷ None ∷ None ∷ []))) ∷
    Straight (row.Loop 0 (row.Put 0 (word.Here 26 ∷ []) None 18 ∷ [])) ∷
    Straight (row.Plain (instr.Formed form.Of 15 0 ((pos 0) ∷ (pos 1) ∷ (pos 0) ∷ []) 19)) ∷
    Straight (row.Plain (instr.Fits 0 ((pos 0) ∷ (pos 1) ∷ (pos 0) ∷ []) 19)) ∷
    Straight (row.Plain (instr.Formed form.Inside 16 0 ((pos 0) ∷ (negsuc 0) ∷ (pos 0) ∷ []) 19)) ∷
    Straight (row.Plain (instr.Need 15 0 ((pos 0) ∷ (pos 0) ∷ (pos 0) ∷ []) 19)) ∷
    Straight (row.Plain (instr.Need 16 0 ((pos 0) ∷ (pos 0) ∷ (pos 0) ∷ []) 19)) ∷
    Straight (row.Plain (instr.Edge border.Wrap 0 0 ((pos 0) ∷ (pos 1) ∷ (pos 0) ∷ []))) ∷
    Straight (row.Plain (instr.Need 15 1 ((pos 0) ∷ (pos 0) ∷ (pos 0) ∷ []) 19)) ∷
    Straight (row.Plain (instr.Need 16 1 ((pos 0) ∷ (pos 0) ∷ (pos 0) ∷ []) 19)) ∷
    Straight (row.Plain (instr.Edge border.Wrap 1 0 ((pos 0) ∷ (pos 1) ∷ (pos 0) ∷ []))) ∷
    Straight (row.Plain (instr.Formed form.Of 17 0 ((pos 0) ∷ (pos 1) ∷ (pos 0) ∷ []) 20)) ∷
    Straight (row.Plain (instr.Fits 0 ((pos 0) ∷ (pos 1) ∷ (pos 0) ∷ []) 20)) ∷
    Straight (row.Plain (instr.Formed form.Inside 18 0 ((pos 0) ∷ (pos 1) ∷ (pos 0) ∷ []) 20)) ∷
    Straight (row.Plain (instr.Need 17 0 ((pos 0) ∷ (pos 0) ∷ (pos 0) ∷ []) 20)) ∷
    Straight (row.Plain (instr.Need 18 0 ((pos 0) ∷ (pos 0) ∷ (pos 0) ∷ []) 20)) ∷
    Straight (row.Plain (instr.Edge border.Reflect 0 0 ((pos 0) ∷ (pos 1) ∷ (pos 0) ∷ []))) ∷
    Straight (row.Plain (instr.Need 0 0 ((pos 0) ∷ (pos 0) ∷ (pos 0) ∷ []) 21)) ∷
    Straight (row.Plain (instr.Need 0 6 ((pos 0) ∷ (pos 0) ∷ (pos 0) ∷ []) 21)) ∷
    Straight (row.Plain (instr.Room 27 0)) ∷
    Straight (row.Loop 0 (row.Put 27 (word.Here 0 ∷ []) None 21 ∷ [])) ∷
    Straight (row.Set 5 (word.Scalar 0 ∷ []) 21) ∷
    Straight (row.Plain (instr.Room 28 0)) ∷
    Straight (row.Loop 0 (row.Put 28 (word.Here 6 ∷ []) None 21 ∷ [])) ∷
    Straight (row.Plain (instr.Gather false 27 0)) ∷
    Straight (row.Print (codes " x ")) ∷
    Straight (row.Number (word.Scalar 5 ∷ [])) ∷
    Straight (row.Plain (instr.Gather true 28 0)) ∷
    Straight (row.Plain (instr.Fix 19 (record { rank = 2; dims = (dim.Range (pos 2) (pos 2) (pos 1) (pos 2) ∷ dim.Range (pos 1) (pos 4) (pos 1) (pos 1) ∷ dim.Range (pos 0) (pos 0) (pos 1) (pos 0) ∷ []) }))) ∷
    Straight (row.Plain (instr.Same 0 19 same.Flood 22)) ∷
    Straight (row.Plain (instr.Need 19 0 ((pos 0) ∷ (pos 0) ∷ (pos 0) ∷ []) 22)) ∷
    Straight (row.Plain (instr.Room 29 19)) ∷
    Straight (row.Loop 19 (row.Put 29 (word.Here 0 ∷ []) None 22 ∷ [])) ∷
    Straight (row.Plain (instr.Room 30 0)) ∷
    Straight (row.Plain (instr.Flood 30 0 29 19)) ∷
    Straight (row.Set 6 (word.Const (pos 0) ∷ []) 22) ∷
    Straight (row.Loop 0 (row.Acc 6 fold.Sum (word.Here 30 ∷ []) None 22 ∷ [])) ∷
    Straight (row.Plain (instr.Fold 6 fold.Sum)) ∷
    Straight (row.Set 0 (word.Scalar 6 ∷ []) 22) ∷ [])
unfolding longest_chain int_wrap digits
rows = refl

scalars : (lowered_program example ([])).scalars ≡ 7
unfolding longest_chain int_wrap digits
scalars = refl

slots : (lowered_program example ([])).slots ≡ (2 ∷ 2 ∷ 2 ∷ 1 ∷ 2 ∷ 2 ∷ 2 ∷ 2 ∷ 2 ∷ 2 ∷ 2 ∷ 2 ∷ 2 ∷ 2 ∷ 2 ∷ 2 ∷ 2 ∷ 2 ∷ 2 ∷ 2 ∷ [])
unfolding longest_chain int_wrap digits
slots = refl

has_fringes : list_all (λ words. list_all (word_has_fringe (flat_tables example [])) words) (flat_tables example []).exprs ≡ true
unfolding longest_chain int_wrap digits
has_fringes = refl

has_one_unit_a_loop : list_all has_one_unit (flat_tables example []).groups ≡ true
unfolding longest_chain int_wrap digits
has_one_unit_a_loop = refl

keeps_cells : list_all (keeps_from (flat_tables example []) 0 []) (flat_tables example []).groups ≡ true
unfolding longest_chain int_wrap digits
keeps_cells = refl

shifts_once : list_all (λ one. not (list_any (has_shift (flat_tables example [])) (mask_of one))) (all_members (flat_tables example [])) ≡ true
unfolding longest_chain int_wrap digits
shifts_once = refl
