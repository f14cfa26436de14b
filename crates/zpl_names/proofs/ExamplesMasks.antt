-- Masks and border statements.
use Rattle.std.proofs.Common.{◌≡◌, true, false, [], ◌∷◌, Some, None, pos, codes, refl}
use Rattle.zpl_tree.specs.of_zpl_nums.declared.folds.Fold.TheVariants as fold
use Rattle.zpl_tree.specs.of_zpl_nums.declared.ends.Border.TheVariants as ends
use Rattle.zpl_tree.specs.Syntax.{Number, Named, Reduce, NoExpr, ThenExpr, Vector, NamedRegion, Ditto, Rexpr, Dims, NoBracket, NoPost, ThenPost, Span, NoDim, ThenDim, Value, Prefixed, NoStmt, ThenStmt, Invoke, Block, Border, Write, Defined}
use Rattle.zpl_names.specs.Accepted.{MaskPlace, BorderForm}
use Rattle.zpl_names.proofs.Trees.{name, faults_of, statements}

-- ---- MaskPlace

-- [R with P] [e of R] wrap A;
mask_a_border_under_a_mask : faults_of (statements [] (ThenStmt (Prefixed 20 ((record {
  at = 0;
  region = (Rexpr [] (NamedRegion (name (codes "R") 1)) NoPost);
  mask = (Some (record {
    name =
        (name (codes "P") 8);
    without = false;
  }));
}) ∷ (record {
  at = 11;
  region = (Rexpr ((record {
    dir
        = (name (codes "e") 12);
    outside = true;
  }) ∷ []) (NamedRegion (name (codes "R") 17)) NoPost);
  mask = None;
}) ∷ []) (Border ends.Wrap ((name (codes "A") 25) ∷ []))) NoStmt)) ≡ []
mask_a_border_under_a_mask = refl

-- [R with P] ["] writeln(A);
mask_a_ditto_removes_a_mask : faults_of (statements [] (ThenStmt (Prefixed 15 ((record {
  at = 0;
  region = (Rexpr [] (NamedRegion (name (codes "R") 1)) NoPost);
  mask = (Some (record {
    name =
        (name (codes "P") 8);
    without = false;
  }));
}) ∷ (record {
  at = 11;
  region = (Rexpr [] (Ditto 12)
      NoPost);
  mask = None;
}) ∷ []) (Write true ((Value (Named 23 (name (codes "A") 23))) ∷ [])))
    NoStmt)) ≡ []
mask_a_ditto_removes_a_mask = refl

-- [R with P] [Q] write(M);
mask_another_rank_is_masked : faults_of (statements [] (ThenStmt (Prefixed 15 ((record {
  at = 0;
  region = (Rexpr [] (NamedRegion (name (codes "R") 1)) NoPost);
  mask = (Some (record {
    name =
        (name (codes "P") 8);
    without = false;
  }));
}) ∷ (record {
  at = 11;
  region = (Rexpr []
      (NamedRegion (name (codes "Q") 12)) NoPost);
  mask = None;
}) ∷ []) (Write false ((Value (Named 21
    (name (codes "M") 21))) ∷ []))) NoStmt)) ≡ []
mask_another_rank_is_masked = refl

-- procedure u(); begin writeln(A); end; [R with P] u();
mask_under_a_masked_caller : faults_of (statements ((Defined (record {
  name = (name (codes "u") 10);
  params = [];
  result = None;
  locals = [];
  body = (Prefixed 15 [] (Block (ThenStmt (Prefixed 21 []
      (Write true ((Value (Named 29 (name (codes "A") 29))) ∷ []))) NoStmt)));
})) ∷ []) (ThenStmt
    (Prefixed 49 ((record {
      at = 38;
      region = (Rexpr [] (NamedRegion (name (codes "R") 39)) NoPost);
      mask = (Some (record { name = (name (codes "P") 46); without = false }));
    }) ∷ []) (Invoke (name
    (codes "u") 49) NoExpr)) NoStmt)) ≡ (MaskPlace, 21) ∷ []
mask_under_a_masked_caller = refl

-- [R without P] writeln(A);
mask_without : faults_of (statements [] (ThenStmt (Prefixed 14 ((record {
  at = 0;
  region = (Rexpr []
      (NamedRegion (name (codes "R") 1)) NoPost);
  mask = (Some (record {
    name = (name (codes "P") 11);
    without = true;
  }));
}) ∷ []) (Write true ((Value (Named 22 (name (codes "A") 22))) ∷ [])))
    NoStmt)) ≡ (MaskPlace, 14) ∷ []
mask_without = refl

-- [R without P] writeln(+<<A, x);
mask_a_folded_print : faults_of (statements [] (ThenStmt (Prefixed 14 ((record {
  at = 0;
  region =
      (Rexpr [] (NamedRegion (name (codes "R") 1)) NoPost);
  mask = (Some (record {
    name = (name (codes
        "P") 11);
    without = true;
  }));
}) ∷ []) (Write true ((Value (Reduce 22 fold.Sum NoBracket (Named
    25 (name (codes "A") 25)))) ∷ (Value (Named 28 (name (codes "x") 28))) ∷ []))) NoStmt)) ≡ []
mask_a_folded_print = refl

-- ---- BorderForm

-- wrap A;
border_no_prefix : faults_of (statements [] (ThenStmt (Prefixed 0 [] (Border ends.Wrap ((name (codes
    "A") 5) ∷ []))) NoStmt)) ≡ (BorderForm, 0) ∷ []
border_no_prefix = refl

-- [e of R with P] wrap A;
border_a_mask : faults_of (statements [] (ThenStmt (Prefixed 16 ((record {
  at = 0;
  region = (Rexpr
      ((record { dir = (name (codes "e") 1); outside = true }) ∷ []) (NamedRegion (name (codes "R")
      6)) NoPost);
  mask = (Some (record { name = (name (codes "P") 13); without = false }));
}) ∷ [])
    (Border ends.Wrap ((name (codes "A") 21) ∷ []))) NoStmt)) ≡ (MaskPlace, 16) ∷ (BorderForm, 16) ∷
    []
border_a_mask = refl

-- [e of R by [2]] reflect A;
border_by : faults_of (statements [] (ThenStmt (Prefixed 16 ((record {
  at = 0;
  region = (Rexpr
      ((record { dir = (name (codes "e") 1); outside = true }) ∷ []) (NamedRegion (name (codes "R")
      6)) (ThenPost true (Vector (ThenExpr (Number 12 (pos 2)) NoExpr)) NoPost));
  mask = None;
}) ∷ [])
    (Border ends.Reflect ((name (codes "A") 24) ∷ []))) NoStmt)) ≡ (BorderForm, 16) ∷ []
border_by = refl

-- [1..4] wrap A;
border_an_index_list : faults_of (statements [] (ThenStmt (Prefixed 7 ((record {
  at = 0;
  region =
      (Dims (ThenDim (Span (Number 1 (pos 1)) (Number 4 (pos 4))) NoDim));
  mask = None;
}) ∷ [])
    (Border ends.Wrap ((name (codes "A") 12) ∷ []))) NoStmt)) ≡ (BorderForm, 7) ∷ []
border_an_index_list = refl

-- procedure u(); begin wrap A; end; [e of R] u();
border_a_callee : faults_of (statements ((Defined (record {
  name = (name (codes "u") 10);
  params =
      [];
  result = None;
  locals = [];
  body = (Prefixed 15 [] (Block (ThenStmt (Prefixed 21 [] (Border
      ends.Wrap ((name (codes "A") 26) ∷ []))) NoStmt)));
})) ∷ []) (ThenStmt (Prefixed 43 ((record {
  at = 34;
  region = (Rexpr ((record { dir = (name (codes "e") 35); outside = true }) ∷ [])
      (NamedRegion (name (codes "R") 40)) NoPost);
  mask = None;
}) ∷ []) (Invoke (name (codes "u") 43)
    NoExpr)) NoStmt)) ≡ (BorderForm, 21) ∷ []
border_a_callee = refl
