-- Two trees that do alike, each by its own ways, from like states to like ones.
use Rattle.std.specs.Prelude.{◌≡◌, ℕ, ℤ, Option, Some, None, List, [], ◌∷◌, ⊤}
use Rattle.std.specs.Option.{IfSome}
use Rattle.node_form.specs.of_zpl_nums.declared.folds.Fold.{Fold}
use Rattle.node_form.specs.Nest.{Nest, Nothing, Putting, Keeping, Joining, Choosing, ChoosingElse}
use Rattle.node_form.specs.Nest.{Looping, Repeating}
use Rattle.nest_meaning.specs.Nested.{Ways, Told, Fine, Zero, Wants, Lost}

pub data AreTold {P Q : Type 0} (IsLike : P → Q → Type 0) : Told P → Told Q → Type 0 where
  BothFine : {p : P} {q : Q} → IsLike p q → AreTold IsLike (Fine p) (Fine q)
  BothZero : {p : P} {q : Q} → IsLike p q → AreTold IsLike (Zero p) (Zero q)
  BothWant : AreTold IsLike Wants Wants
  BothLost : AreTold IsLike Lost Lost

pub data AreBoth {P Q : Type 0} (IsLike : P → Q → Type 0) : Option P → Option Q → Type 0 where
  Neither : AreBoth IsLike None None
  Both : {p : P} {q : Q} → IsLike p q → AreBoth IsLike (Some p) (Some q)

-- a member that holds no others
pub data Leaf : Type 0 where
  PutLeaf : (array : ℕ) → Leaf
  KeepLeaf : (cell : ℕ) → Leaf
  JoinLeaf : (scalar : ℕ) (fold : Fold) → Leaf

abbrev pub leafed : Leaf → ℕ → Option ℕ → ℕ → Nest → Nest
leafed (PutLeaf array) expr mask line after = Putting array expr mask line after
leafed (KeepLeaf cell) expr mask line after = Keeping cell expr mask line after
leafed (JoinLeaf scalar fold) expr mask line after = Joining scalar fold expr mask line after

abbrev pub way_of : {P : Type 0} → Ways P → Leaf → ℤ → P → Option P
way_of ways (PutLeaf array) = ways.put array
way_of ways (KeepLeaf cell) = ways.keep cell
way_of ways (JoinLeaf scalar fold) = ways.join scalar fold

module _ {P Q : Type 0} (IsLike : P → Q → Type 0) (a : Ways P) (b : Ways Q) where
  pub record AreValues (expr expr' : ℕ) : Type 0 where
    pub same : (p : P) (q : Q) → IsLike p q → a.value p expr ≡ b.value q expr'

  pub data AreMasks : Option ℕ → Option ℕ → Type 0 where
    NoMasks : AreMasks None None
    Masks : {expr expr' : ℕ} → AreValues expr expr' → AreMasks (Some expr) (Some expr')

  pub record AreLeaves (leaf leaf' : Leaf) : Type 0 where
    pub steps : (v : ℤ) (p : P) (q : Q) → IsLike p q
        → AreBoth IsLike (way_of a leaf v p) (way_of b leaf' v q)

  -- trees of the same shape; a leaf may be of another kind than its partner, as a cell that is kept
  -- where an array was put
  pub data AreNests : Nest → Nest → Type 0 where
    BothNothing : AreNests Nothing Nothing
    Leaves : {leaf leaf' : Leaf} {expr expr' : ℕ} {mask mask' : Option ℕ} (line line' : ℕ)
        {after after' : Nest} → AreMasks mask mask' → AreValues expr expr' → AreLeaves leaf leaf'
        → AreNests after after'
        → AreNests (leafed leaf expr mask line after) (leafed leaf' expr' mask' line' after')
    Ifs : {expr expr' line line' : ℕ} {mask mask' : Option ℕ} {body body' after after' : Nest}
        → AreMasks mask mask' → AreValues expr expr' → AreNests body body' → AreNests after after'
        → AreNests (Choosing expr mask line body after) (Choosing expr' mask' line' body' after')
    Elses : {expr expr' line line' : ℕ} {mask mask' : Option ℕ}
        {body body' other other' after after' : Nest} → AreMasks mask mask' → AreValues expr expr'
        → AreNests body body' → AreNests other other' → AreNests after after'
        → AreNests (ChoosingElse expr mask line body other after)
        (ChoosingElse expr' mask' line' body' other' after')
    Whiles : {expr expr' line line' : ℕ} {mask mask' : Option ℕ} {body body' after after' : Nest}
        → AreMasks mask mask' → AreValues expr expr' → AreNests body body' → AreNests after after'
        → AreNests (Looping expr mask line body after) (Looping expr' mask' line' body' after')
    Repeats : {expr expr' line line' : ℕ} {mask mask' : Option ℕ} {body body' after after' : Nest}
        → AreMasks mask mask' → AreValues expr expr' → AreNests body body' → AreNests after after'
        → AreNests (Repeating mask line body expr after) (Repeating mask' line' body' expr' after')

  pub data AreUnits : List Nest → List Nest → Type 0 where
    NoUnits : AreUnits [] []
    MoreUnits : {unit unit' : Nest} {units units' : List Nest} → AreNests unit unit'
        → AreUnits units units' → AreUnits (unit ∷ units) (unit' ∷ units')

  -- ---- one tree by two ways: what is read and written in it is alike
  abbrev pub IsSame : ℕ → Type 0
  IsSame expr = AreValues expr expr

  abbrev pub IsLeafSame : Option ℕ → ℕ → Leaf → Type 0
  IsLeafSame mask expr leaf = IfSome mask IsSame × IsSame expr × AreLeaves leaf leaf

  abbrev pub IsNestSame : Nest → Type 0
  IsNestSame Nothing = ⊤
  IsNestSame (Putting array expr mask line after) =
      IsLeafSame mask expr (PutLeaf array) × IsNestSame after
  IsNestSame (Keeping cell expr mask line after) =
      IsLeafSame mask expr (KeepLeaf cell) × IsNestSame after
  IsNestSame (Joining scalar fold expr mask line after) =
      IsLeafSame mask expr (JoinLeaf scalar fold) × IsNestSame after
  IsNestSame (Choosing expr mask line body after) =
      IfSome mask IsSame × IsSame expr × IsNestSame body × IsNestSame after
  IsNestSame (ChoosingElse expr mask line body otherwise after) =
      IfSome mask IsSame × IsSame expr × IsNestSame body × IsNestSame otherwise × IsNestSame after
  IsNestSame (Looping expr mask line body after) =
      IfSome mask IsSame × IsSame expr × IsNestSame body × IsNestSame after
  IsNestSame (Repeating mask line body until after) =
      IfSome mask IsSame × IsSame until × IsNestSame body × IsNestSame after
