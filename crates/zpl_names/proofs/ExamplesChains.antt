-- Chains of 32 and of 33 procedures, each of which calls the next.
use Rattle.std.proofs.Common.{◌≡◌, ℕ, zero, suc, ◌+◌, Bool, true, false, List, [], ◌∷◌, Option, Some, None, refl, arith}
use Rattle.zpl_tree.specs.Syntax.{NoExpr, Prefixed, Stmts, NoStmt, ThenStmt, Invoke, Block, Decl, Defined, Program}
use Rattle.zpl_names.specs.Shapes.{unknown_shapes}
use Rattle.zpl_names.specs.Declared.{Routine, entry_of}
use Rattle.zpl_names.specs.Sites.{CallSite}
use Rattle.zpl_names.specs.Reached.{IsChain, Alone, Longer, IsDeepCall, longest_chain}
use Rattle.zpl_names.specs.Expansion.{is_shallow}
use Rattle.zpl_names.proofs.ListLemmas.{text_differs}
use Rattle.zpl_names.proofs.Trees.{name}

-- the k-th procedure, and the call of it, whose name stands at 100 + k
abbrev called : ℕ → CallSite
called k = record { name = name (k ∷ []) (100 + k); actuals = NoExpr; shapes = unknown_shapes }

abbrev procedure : ℕ → Stmts → Decl
procedure k body = Defined (record {
  name = name (k ∷ []) k;
  params = [];
  result = None;
  locals = [];
  body = Prefixed 0 [] (Block body);
})

-- procedures from the k-th on, of which so many call the next
abbrev procedures : ℕ → ℕ → List Decl
procedures zero k = procedure k NoStmt ∷ []
procedures (suc more) k =
    procedure k (ThenStmt (Prefixed 0 [] (Invoke (name ((k + 1) ∷ []) (100 + (k + 1))) NoExpr))
    NoStmt) ∷ procedures more (k + 1)

-- the entry procedure, and so many behind it
abbrev chained : ℕ → Program
chained more = record { name = name (0 ∷ []) 0; decls = procedures more 0; source = [] }

abbrev shallow : Program → ℕ → Option Routine → Bool
shallow program depth None = true
shallow program depth (Some entry) = is_shallow program depth entry

of_32_procedures : shallow (chained 31) 32 (entry_of (chained 31)) ≡ true
of_32_procedures = refl

of_33_procedures : shallow (chained 32) 32 (entry_of (chained 32)) ≡ false
of_33_procedures = refl

-- the names from the k-th down to the first
abbrev down_from : ℕ → List (List ℕ)
down_from zero = (0 ∷ []) ∷ []
down_from (suc k) = (suc k ∷ []) ∷ down_from k

-- the first 32 are a chain
chain_0 : IsChain (chained 32) (down_from 0)
chain_0 = Alone

chain_1 : IsChain (chained 32) (down_from 1)
chain_1 = Longer (0 ∷ []) [] (called 1) chain_0 (0, omega arith, refl)
    (text_differs (down_from 0) (1 ∷ []) refl)

chain_2 : IsChain (chained 32) (down_from 2)
chain_2 = Longer (1 ∷ []) (down_from 0) (called 2) chain_1 (0, omega arith, refl)
    (text_differs (down_from 1) (2 ∷ []) refl)

chain_3 : IsChain (chained 32) (down_from 3)
chain_3 = Longer (2 ∷ []) (down_from 1) (called 3) chain_2 (0, omega arith, refl)
    (text_differs (down_from 2) (3 ∷ []) refl)

chain_4 : IsChain (chained 32) (down_from 4)
chain_4 = Longer (3 ∷ []) (down_from 2) (called 4) chain_3 (0, omega arith, refl)
    (text_differs (down_from 3) (4 ∷ []) refl)

chain_5 : IsChain (chained 32) (down_from 5)
chain_5 = Longer (4 ∷ []) (down_from 3) (called 5) chain_4 (0, omega arith, refl)
    (text_differs (down_from 4) (5 ∷ []) refl)

chain_6 : IsChain (chained 32) (down_from 6)
chain_6 = Longer (5 ∷ []) (down_from 4) (called 6) chain_5 (0, omega arith, refl)
    (text_differs (down_from 5) (6 ∷ []) refl)

chain_7 : IsChain (chained 32) (down_from 7)
chain_7 = Longer (6 ∷ []) (down_from 5) (called 7) chain_6 (0, omega arith, refl)
    (text_differs (down_from 6) (7 ∷ []) refl)

chain_8 : IsChain (chained 32) (down_from 8)
chain_8 = Longer (7 ∷ []) (down_from 6) (called 8) chain_7 (0, omega arith, refl)
    (text_differs (down_from 7) (8 ∷ []) refl)

chain_9 : IsChain (chained 32) (down_from 9)
chain_9 = Longer (8 ∷ []) (down_from 7) (called 9) chain_8 (0, omega arith, refl)
    (text_differs (down_from 8) (9 ∷ []) refl)

chain_10 : IsChain (chained 32) (down_from 10)
chain_10 = Longer (9 ∷ []) (down_from 8) (called 10) chain_9 (0, omega arith, refl)
    (text_differs (down_from 9) (10 ∷ []) refl)

chain_11 : IsChain (chained 32) (down_from 11)
chain_11 = Longer (10 ∷ []) (down_from 9) (called 11) chain_10 (0, omega arith, refl)
    (text_differs (down_from 10) (11 ∷ []) refl)

chain_12 : IsChain (chained 32) (down_from 12)
chain_12 = Longer (11 ∷ []) (down_from 10) (called 12) chain_11 (0, omega arith, refl)
    (text_differs (down_from 11) (12 ∷ []) refl)

chain_13 : IsChain (chained 32) (down_from 13)
chain_13 = Longer (12 ∷ []) (down_from 11) (called 13) chain_12 (0, omega arith, refl)
    (text_differs (down_from 12) (13 ∷ []) refl)

chain_14 : IsChain (chained 32) (down_from 14)
chain_14 = Longer (13 ∷ []) (down_from 12) (called 14) chain_13 (0, omega arith, refl)
    (text_differs (down_from 13) (14 ∷ []) refl)

chain_15 : IsChain (chained 32) (down_from 15)
chain_15 = Longer (14 ∷ []) (down_from 13) (called 15) chain_14 (0, omega arith, refl)
    (text_differs (down_from 14) (15 ∷ []) refl)

chain_16 : IsChain (chained 32) (down_from 16)
chain_16 = Longer (15 ∷ []) (down_from 14) (called 16) chain_15 (0, omega arith, refl)
    (text_differs (down_from 15) (16 ∷ []) refl)

chain_17 : IsChain (chained 32) (down_from 17)
chain_17 = Longer (16 ∷ []) (down_from 15) (called 17) chain_16 (0, omega arith, refl)
    (text_differs (down_from 16) (17 ∷ []) refl)

chain_18 : IsChain (chained 32) (down_from 18)
chain_18 = Longer (17 ∷ []) (down_from 16) (called 18) chain_17 (0, omega arith, refl)
    (text_differs (down_from 17) (18 ∷ []) refl)

chain_19 : IsChain (chained 32) (down_from 19)
chain_19 = Longer (18 ∷ []) (down_from 17) (called 19) chain_18 (0, omega arith, refl)
    (text_differs (down_from 18) (19 ∷ []) refl)

chain_20 : IsChain (chained 32) (down_from 20)
chain_20 = Longer (19 ∷ []) (down_from 18) (called 20) chain_19 (0, omega arith, refl)
    (text_differs (down_from 19) (20 ∷ []) refl)

chain_21 : IsChain (chained 32) (down_from 21)
chain_21 = Longer (20 ∷ []) (down_from 19) (called 21) chain_20 (0, omega arith, refl)
    (text_differs (down_from 20) (21 ∷ []) refl)

chain_22 : IsChain (chained 32) (down_from 22)
chain_22 = Longer (21 ∷ []) (down_from 20) (called 22) chain_21 (0, omega arith, refl)
    (text_differs (down_from 21) (22 ∷ []) refl)

chain_23 : IsChain (chained 32) (down_from 23)
chain_23 = Longer (22 ∷ []) (down_from 21) (called 23) chain_22 (0, omega arith, refl)
    (text_differs (down_from 22) (23 ∷ []) refl)

chain_24 : IsChain (chained 32) (down_from 24)
chain_24 = Longer (23 ∷ []) (down_from 22) (called 24) chain_23 (0, omega arith, refl)
    (text_differs (down_from 23) (24 ∷ []) refl)

chain_25 : IsChain (chained 32) (down_from 25)
chain_25 = Longer (24 ∷ []) (down_from 23) (called 25) chain_24 (0, omega arith, refl)
    (text_differs (down_from 24) (25 ∷ []) refl)

chain_26 : IsChain (chained 32) (down_from 26)
chain_26 = Longer (25 ∷ []) (down_from 24) (called 26) chain_25 (0, omega arith, refl)
    (text_differs (down_from 25) (26 ∷ []) refl)

chain_27 : IsChain (chained 32) (down_from 27)
chain_27 = Longer (26 ∷ []) (down_from 25) (called 27) chain_26 (0, omega arith, refl)
    (text_differs (down_from 26) (27 ∷ []) refl)

chain_28 : IsChain (chained 32) (down_from 28)
chain_28 = Longer (27 ∷ []) (down_from 26) (called 28) chain_27 (0, omega arith, refl)
    (text_differs (down_from 27) (28 ∷ []) refl)

chain_29 : IsChain (chained 32) (down_from 29)
chain_29 = Longer (28 ∷ []) (down_from 27) (called 29) chain_28 (0, omega arith, refl)
    (text_differs (down_from 28) (29 ∷ []) refl)

chain_30 : IsChain (chained 32) (down_from 30)
chain_30 = Longer (29 ∷ []) (down_from 28) (called 30) chain_29 (0, omega arith, refl)
    (text_differs (down_from 29) (30 ∷ []) refl)

chain_31 : IsChain (chained 32) (down_from 31)
chain_31 = Longer (30 ∷ []) (down_from 29) (called 31) chain_30 (0, omega arith, refl)
    (text_differs (down_from 30) (31 ∷ []) refl)

-- and the call of the last one is too deep
deep : IsDeepCall (chained 32) 132
unfolding longest_chain
deep = record {
  last = 31 ∷ [];
  before = down_from 30;
  chain = chain_31;
  full = refl;
  call = called 32;
  called = (0, omega arith, refl);
  different = text_differs (down_from 31) (32 ∷ []) refl;
  place = refl;
}
