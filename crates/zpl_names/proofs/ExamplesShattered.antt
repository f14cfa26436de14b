-- Shattered statements.
use Rattle.std.proofs.Common.{◌≡◌, true, false, [], ◌∷◌, Some, None, pos, codes, refl}
use Rattle.zpl_tree.specs.of_zpl_nums.declared.operators.Op.TheVariants as op
use Rattle.zpl_tree.specs.of_zpl_nums.declared.folds.Fold.TheVariants as fold
use Rattle.zpl_tree.specs.Syntax.{Number, Truth, Coord, Named, Shifted, Around, Remap, Call, Pair, Reduce, NoExpr, ThenExpr, NamedDir, NamedRegion, Rexpr, NoBracket, NoPost, Value, Prefixed, NoStmt, ThenStmt, Assign, Block, If, While, Repeat, For, Write, Return, Tested, NoArm, ThenArm, NoElse, Else, Integer, Defined}
use Rattle.zpl_names.specs.Accepted.{ShatterBody, CallPlace}
use Rattle.zpl_names.proofs.Trees.{name, faults_of, statements}

-- ---- ShatterBody

-- [R] if P then A := B@e; end;
shattered_a_read_with : faults_of (statements [] (ThenStmt (Prefixed 4 ((record {
  at = 0;
  region =
      (Rexpr [] (NamedRegion (name (codes "R") 1)) NoPost);
  mask = None;
}) ∷ []) (If (ThenArm (Tested
    4 (Named 7 (name (codes "P") 7)) (ThenStmt (Prefixed 14 [] (Assign (name (codes "A") 14) None
    (Shifted 19 (name (codes "B") 19) (NamedDir (name (codes "e") 21))))) NoStmt)) NoArm) NoElse))
    NoStmt)) ≡ (ShatterBody, 19) ∷ []
shattered_a_read_with = refl

-- [R] if P then A := B@^e; end;
shattered_a_read_with_more : faults_of (statements [] (ThenStmt (Prefixed 4 ((record {
  at = 0;
  region = (Rexpr [] (NamedRegion (name (codes "R") 1)) NoPost);
  mask = None;
}) ∷ []) (If (ThenArm
    (Tested 4 (Named 7 (name (codes "P") 7)) (ThenStmt (Prefixed 14 [] (Assign (name (codes "A") 14)
    None (Around 19 (name (codes "B") 19) (NamedDir (name (codes "e") 22))))) NoStmt)) NoArm)
    NoElse)) NoStmt)) ≡ (ShatterBody, 19) ∷ []
shattered_a_read_with_more = refl

-- [R] if P then A := B#[1]; end;
shattered_a_remap_read : faults_of (statements [] (ThenStmt (Prefixed 4 ((record {
  at = 0;
  region =
      (Rexpr [] (NamedRegion (name (codes "R") 1)) NoPost);
  mask = None;
}) ∷ []) (If (ThenArm (Tested
    4 (Named 7 (name (codes "P") 7)) (ThenStmt (Prefixed 14 [] (Assign (name (codes "A") 14) None
    (Remap 19 (name (codes "B") 19) (ThenExpr (Number 22 (pos 1)) NoExpr)))) NoStmt)) NoArm)
    NoElse)) NoStmt)) ≡ (ShatterBody, 19) ∷ []
shattered_a_remap_read = refl

-- [R] if P then A := +<<B; end;
shattered_a_reduction : faults_of (statements [] (ThenStmt (Prefixed 4 ((record {
  at = 0;
  region =
      (Rexpr [] (NamedRegion (name (codes "R") 1)) NoPost);
  mask = None;
}) ∷ []) (If (ThenArm (Tested
    4 (Named 7 (name (codes "P") 7)) (ThenStmt (Prefixed 14 [] (Assign (name (codes "A") 14) None
    (Reduce 19 fold.Sum NoBracket (Named 22 (name (codes "B") 22))))) NoStmt)) NoArm) NoElse))
    NoStmt)) ≡ (ShatterBody, 19) ∷ []
shattered_a_reduction = refl

-- procedure f() : integer; begin return 1; end; [R] if P then A := f(); end;
shattered_a_call_in_it : faults_of (statements ((Defined (record {
  name = (name (codes "f") 10);
  params = [];
  result = (Some Integer);
  locals = [];
  body = (Prefixed 25 [] (Block (ThenStmt
      (Prefixed 31 [] (Return (Number 38 (pos 1)))) NoStmt)));
})) ∷ []) (ThenStmt (Prefixed 50
    ((record {
      at = 46;
      region = (Rexpr [] (NamedRegion (name (codes "R") 47)) NoPost);
      mask = None;
    }) ∷ []) (If (ThenArm (Tested 50 (Named 53 (name (codes "P") 53)) (ThenStmt (Prefixed 60 []
    (Assign (name (codes "A") 60) None (Call 65 (name (codes "f") 65) NoExpr))) NoStmt)) NoArm)
    NoElse)) NoStmt)) ≡ (ShatterBody, 65) ∷ (CallPlace, 65) ∷ []
shattered_a_call_in_it = refl

-- [R] if A@e > 1 then A := 1; end;
shattered_a_test_with : faults_of (statements [] (ThenStmt (Prefixed 4 ((record {
  at = 0;
  region =
      (Rexpr [] (NamedRegion (name (codes "R") 1)) NoPost);
  mask = None;
}) ∷ []) (If (ThenArm (Tested
    4 (Pair 7 op.Gt (Shifted 7 (name (codes "A") 7) (NamedDir (name (codes "e") 9))) (Number 13 (pos
    1))) (ThenStmt (Prefixed 20 [] (Assign (name (codes "A") 20) None (Number 25 (pos 1)))) NoStmt))
    NoArm) NoElse)) NoStmt)) ≡ (ShatterBody, 7) ∷ []
shattered_a_test_with = refl

-- [R] if P then A := 1; elsif +<<B > 2 then A := 2; end;
shattered_a_test_with_a_reduction : faults_of (statements [] (ThenStmt (Prefixed 4 ((record {
  at =
      0;
  region = (Rexpr [] (NamedRegion (name (codes "R") 1)) NoPost);
  mask = None;
}) ∷ []) (If
    (ThenArm (Tested 4 (Named 7 (name (codes "P") 7)) (ThenStmt (Prefixed 14 [] (Assign (name (codes
    "A") 14) None (Number 19 (pos 1)))) NoStmt)) (ThenArm (Tested 22 (Pair 28 op.Gt (Reduce 28
    fold.Sum NoBracket (Named 31 (name (codes "B") 31))) (Number 35 (pos 2))) (ThenStmt (Prefixed 42
    [] (Assign (name (codes "A") 42) None (Number 47 (pos 2)))) NoStmt)) NoArm)) NoElse)) NoStmt)) ≡
    (ShatterBody, 28) ∷ []
shattered_a_test_with_a_reduction = refl

-- [R] if +<<B > 2 then A := 1; elsif P then A := 2; end;
shattered_a_first_test_with_a_reduction : faults_of (statements [] (ThenStmt (Prefixed 4 ((record {
  at = 0;
  region = (Rexpr [] (NamedRegion (name (codes "R") 1)) NoPost);
  mask = None;
}) ∷ []) (If
    (ThenArm (Tested 4 (Pair 7 op.Gt (Reduce 7 fold.Sum NoBracket (Named 10 (name (codes "B") 10)))
    (Number 14 (pos 2))) (ThenStmt (Prefixed 21 [] (Assign (name (codes "A") 21) None (Number 26
    (pos 1)))) NoStmt)) (ThenArm (Tested 29 (Named 35 (name (codes "P") 35)) (ThenStmt (Prefixed 42
    [] (Assign (name (codes "A") 42) None (Number 47 (pos 2)))) NoStmt)) NoArm)) NoElse)) NoStmt)) ≡
    (ShatterBody, 7) ∷ []
shattered_a_first_test_with_a_reduction = refl

-- [R] if p then A := 1; elsif P then A := 2; end;
shattered_a_scalar_test : faults_of (statements [] (ThenStmt (Prefixed 4 ((record {
  at = 0;
  region =
      (Rexpr [] (NamedRegion (name (codes "R") 1)) NoPost);
  mask = None;
}) ∷ []) (If (ThenArm (Tested
    4 (Named 7 (name (codes "p") 7)) (ThenStmt (Prefixed 14 [] (Assign (name (codes "A") 14) None
    (Number 19 (pos 1)))) NoStmt)) (ThenArm (Tested 22 (Named 28 (name (codes "P") 28)) (ThenStmt
    (Prefixed 35 [] (Assign (name (codes "A") 35) None (Number 40 (pos 2)))) NoStmt)) NoArm))
    NoElse)) NoStmt)) ≡ []
shattered_a_scalar_test = refl

-- [Q] [R] while P do repeat A := 1; until L; end;
shattered_a_test_of_another_rank : faults_of (statements [] (ThenStmt (Prefixed 8 ((record {
  at = 0;
  region = (Rexpr [] (NamedRegion (name (codes "Q") 1)) NoPost);
  mask = None;
}) ∷ (record {
  at =
      4;
  region = (Rexpr [] (NamedRegion (name (codes "R") 5)) NoPost);
  mask = None;
}) ∷ []) (While
    (Named 14 (name (codes "P") 14)) (ThenStmt (Prefixed 19 [] (Repeat (ThenStmt (Prefixed 26 []
    (Assign (name (codes "A") 26) None (Number 31 (pos 1)))) NoStmt) 34 (Named 40 (name (codes "L")
    40)))) NoStmt))) NoStmt)) ≡ (ShatterBody, 40) ∷ []
shattered_a_test_of_another_rank = refl

-- [R] while P do x := 1; end;
shattered_a_scalar_in_it : faults_of (statements [] (ThenStmt (Prefixed 4 ((record {
  at = 0;
  region
      = (Rexpr [] (NamedRegion (name (codes "R") 1)) NoPost);
  mask = None;
}) ∷ []) (While (Named 10
    (name (codes "P") 10)) (ThenStmt (Prefixed 15 [] (Assign (name (codes "x") 15) None (Number 20
    (pos 1)))) NoStmt))) NoStmt)) ≡ (ShatterBody, 15) ∷ []
shattered_a_scalar_in_it = refl

-- [Q] [R] while P do M := 1; end;
shattered_an_array_of_another_rank_in_it : faults_of (statements [] (ThenStmt (Prefixed 8 ((record {
  at = 0;
  region = (Rexpr [] (NamedRegion (name (codes "Q") 1)) NoPost);
  mask = None;
}) ∷ (record
    { at = 4; region = (Rexpr [] (NamedRegion (name (codes "R") 5)) NoPost); mask = None }) ∷ [])
    (While (Named 14 (name (codes "P") 14)) (ThenStmt (Prefixed 19 [] (Assign (name (codes "M") 19)
    None (Number 24 (pos 1)))) NoStmt))) NoStmt)) ≡ (ShatterBody, 19) ∷ []
shattered_an_array_of_another_rank_in_it = refl

-- [R] while P do [R] A := 1; end;
shattered_a_prefix_in_it : faults_of (statements [] (ThenStmt (Prefixed 4 ((record {
  at = 0;
  region
      = (Rexpr [] (NamedRegion (name (codes "R") 1)) NoPost);
  mask = None;
}) ∷ []) (While (Named 10
    (name (codes "P") 10)) (ThenStmt (Prefixed 19 ((record {
      at = 15;
      region = (Rexpr []
          (NamedRegion (name (codes "R") 16)) NoPost);
      mask = None;
    }) ∷ []) (Assign (name (codes "A") 19)
    None (Number 24 (pos 1)))) NoStmt))) NoStmt)) ≡ (ShatterBody, 19) ∷ []
shattered_a_prefix_in_it = refl

-- [R] while P do begin writeln(1); end; end;
shattered_a_print_in_it : faults_of (statements [] (ThenStmt (Prefixed 4 ((record {
  at = 0;
  region =
      (Rexpr [] (NamedRegion (name (codes "R") 1)) NoPost);
  mask = None;
}) ∷ []) (While (Named 10
    (name (codes "P") 10)) (ThenStmt (Prefixed 15 [] (Block (ThenStmt (Prefixed 21 [] (Write true
    ((Value (Number 29 (pos 1))) ∷ []))) NoStmt))) NoStmt))) NoStmt)) ≡ (ShatterBody, 21) ∷ []
shattered_a_print_in_it = refl

-- [R] while P do for i := 1 to 2 do A := 1; end; end;
shattered_a_for_in_it : faults_of (statements [] (ThenStmt (Prefixed 4 ((record {
  at = 0;
  region =
      (Rexpr [] (NamedRegion (name (codes "R") 1)) NoPost);
  mask = None;
}) ∷ []) (While (Named 10
    (name (codes "P") 10)) (ThenStmt (Prefixed 15 [] (For (record {
      name = (name (codes "i") 19);
      first = (Number 24 (pos 1));
      down = false;
      last = (Number 29 (pos 2));
      step = None;
    }) (ThenStmt
    (Prefixed 34 [] (Assign (name (codes "A") 34) None (Number 39 (pos 1)))) NoStmt))) NoStmt)))
    NoStmt)) ≡ (ShatterBody, 15) ∷ []
shattered_a_for_in_it = refl

-- [R] repeat A := B + Index1 * x; if A > B & p then B -= 1; else while P do P := false; end; end; begin A := 2; end; until P;
shattered_all_that_it_may_have : faults_of (statements [] (ThenStmt (Prefixed 4 ((record {
  at = 0;
  region = (Rexpr [] (NamedRegion (name (codes "R") 1)) NoPost);
  mask = None;
}) ∷ []) (Repeat
    (ThenStmt (Prefixed 11 [] (Assign (name (codes "A") 11) None (Pair 16 op.Add (Named 16 (name
    (codes "B") 16)) (Pair 20 op.Mul (Coord 20 1) (Named 29 (name (codes "x") 29)))))) (ThenStmt
    (Prefixed 32 [] (If (ThenArm (Tested 32 (Pair 35 op.And (Pair 35 op.Gt (Named 35 (name (codes
    "A") 35)) (Named 39 (name (codes "B") 39))) (Named 43 (name (codes "p") 43))) (ThenStmt
    (Prefixed 50 [] (Assign (name (codes "B") 50) (Some op.Sub) (Number 55 (pos 1)))) NoStmt))
    NoArm) (Else (ThenStmt (Prefixed 63 [] (While (Named 69 (name (codes "P") 69)) (ThenStmt
    (Prefixed 74 [] (Assign (name (codes "P") 74) None (Truth 79 false))) NoStmt))) NoStmt))))
    (ThenStmt (Prefixed 96 [] (Block (ThenStmt (Prefixed 102 [] (Assign (name (codes "A") 102) None
    (Number 107 (pos 2)))) NoStmt))) NoStmt))) 115 (Named 121 (name (codes "P") 121)))) NoStmt)) ≡
    []
shattered_all_that_it_may_have = refl

-- [R] while p do x := +<<A; A := A@e; end;
shattered_one_that_is_not_shattered : faults_of (statements [] (ThenStmt (Prefixed 4 ((record {
  at =
      0;
  region = (Rexpr [] (NamedRegion (name (codes "R") 1)) NoPost);
  mask = None;
}) ∷ []) (While
    (Named 10 (name (codes "p") 10)) (ThenStmt (Prefixed 15 [] (Assign (name (codes "x") 15) None
    (Reduce 20 fold.Sum NoBracket (Named 23 (name (codes "A") 23))))) (ThenStmt (Prefixed 26 []
    (Assign (name (codes "A") 26) None (Shifted 31 (name (codes "A") 31) (NamedDir (name (codes "e")
    33))))) NoStmt)))) NoStmt)) ≡ []
shattered_one_that_is_not_shattered = refl
