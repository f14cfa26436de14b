-- Statements that are one statement, with no other in it: they go through their phases once.
use Rattle.std.specs.Prelude.{◌≡◌, ℕ, true, List, [], ◌∷◌, Option, None}
use Rattle.zpl_binding.specs.of_zpl_nums.declared.operators.Op.{Op}
use Rattle.zpl_binding.specs.of_zpl_tree.Syntax.{Name, Expr, Call, Form, Assign, Invoke, Block, If, While, Repeat}
use Rattle.zpl_binding.specs.of_zpl_tree.Syntax.{For, Border, Write, Return}
use Rattle.zpl_meaning.specs.Store.{Store}
use Rattle.zpl_meaning.specs.Outcome.{Outcome}
use Rattle.zpl_meaning.specs.Statement.{Context, is_split}

-- the right side of an assignment is no call
abbrev pub HasNoCall : Option Op → Expr → Type 0
HasNoCall None (Call at name actuals) = ⊥
HasNoCall op value = Unit {0}

-- a border statement of several arrays is several statements
abbrev pub IsOneName : List Name → Type 0
IsOneName (first ∷ second ∷ names) = ⊥
IsOneName names = Unit {0}

-- an assignment without a call, a print, a border statement of one array, a `return`, or a
-- shattered statement
abbrev pub IsSingle : Context → Form → Type 0
IsSingle context (Assign name op value) = HasNoCall op value
IsSingle context (Write line items) = Unit {0}
IsSingle context (Border kind names) = IsOneName names
IsSingle context (Return value) = Unit {0}
IsSingle context (If arms otherwise) = is_split context (If arms otherwise) ≡ true
IsSingle context (While test body) = is_split context (While test body) ≡ true
IsSingle context (Repeat body until test) = is_split context (Repeat body until test) ≡ true
IsSingle context (Invoke name actuals) = ⊥
IsSingle context (Block body) = ⊥
IsSingle context (For head body) = ⊥

-- nothing was written and nothing printed, and the trap has this line
pub record HasTrapped (store : Store) (line : ℕ) (outcome : Outcome) (at : ℕ) : Type 0 where
  pub kept : outcome.store ≡ store
  pub nothing : outcome.bytes ≡ []
  pub there : at ≡ line
