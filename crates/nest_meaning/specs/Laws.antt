-- The laws of trees of members.
use Rattle.std.specs.Prelude.{◌≡◌, ◌≢◌, ℕ, suc, ◌^◌, ◌≤◌, Some, List, ◌++◌, map}
use Rattle.node_form.specs.declared.members.Member.{Member}
use Rattle.node_form.specs.declared.tables.Tables.{Tables}
use Rattle.node_form.specs.Nest.{Nest, members_of}
use Rattle.node_form.specs.Group.{Access, Point, ran_from, units}
use Rattle.nest_meaning.specs.Nested.{Ways, Wants, then_do, nested, ways_of}
use Rattle.nest_meaning.specs.Units.{units_of, units_told, told_of, followed_by}
use Rattle.nest_meaning.specs.Alike.{AreTold, AreNests, AreUnits, IsNestSame}
use Rattle.nest_meaning.specs.Tree.{nest_of}
use Rattle.nest_meaning.specs.Turns.{Come, firsts, loops_in}

-- with more turns a loop that wanted more may come to something else, and all else stays
pub data IsUpTo {X : Type 0} (wants : X) : X → X → Type 0 where
  TheSame : {x : X} → IsUpTo wants x x
  Beyond : {x : X} → IsUpTo wants wants x

abbrev pub Grow : {P : Type 0} → Ways P → Type 0
Grow {P = P} ways =
    (less more : ℕ) → less ≤ more → (nest : Nest) (p : P)
    → IsUpTo Wants (nested ways less nest p) (nested ways more nest p)

-- two trees do alike; and one tree does by two ways
module _ {P Q : Type 0} (IsLike : P → Q → Type 0) where
  abbrev pub DoAlike : Type 0
  DoAlike =
      (a : Ways P) (b : Ways Q) (n : ℕ) (nest nest' : Nest) → AreNests IsLike a b nest nest'
      → (p : P) (q : Q) → IsLike p q → AreTold IsLike (nested a n nest p) (nested b n nest' q)

  abbrev pub DoesAlike : Type 0
  DoesAlike =
      (a : Ways P) (b : Ways Q) (n : ℕ) (nest : Nest) → IsNestSame IsLike a b nest
      → (p : P) (q : Q) → IsLike p q → AreTold IsLike (nested a n nest p) (nested b n nest q)

-- the units of two trees are alike
abbrev pub HaveLikeUnits : {P Q : Type 0} → (P → Q → Type 0) → Type 0
HaveLikeUnits {P = P} {Q = Q} IsLike =
    (a : Ways P) (b : Ways Q) (nest nest' : Nest) → AreNests IsLike a b nest nest'
    → AreUnits IsLike a b (units_of nest) (units_of nest')

-- a tree does what its units do, one after another
abbrev pub DoUnits : {P : Type 0} → Ways P → Type 0
DoUnits {P = P} ways =
    (n number : ℕ) (nest : Nest) (p : P)
    → nested ways n nest p ≡ told_of (units_told ways n number (units_of nest) p)

-- Members that are run turn by turn come to what their tree does, with fewer than (n + 1) ^ g turns
-- that go back, where the tree holds g loops; at least n, where it wants more.
abbrev pub ComeToTheSame : Type 0 → Type 0
ComeToTheSame S =
    (tables : Tables) (access : Access S) (nest : Nest) (n : ℕ) (p : Point S)
    → Come tables access (members_of nest) (firsts nest 0) n (suc n ^ loops_in nest)
    (ran_from tables access (members_of nest) 0 p)
    (units_told (ways_of tables access) n 0 (units_of nest) p)

-- A tree is read again from the members that it is spelled as, and what is read spells them.
abbrev pub ReadsAgain : Type 0
ReadsAgain = (nest : Nest) → nest_of (members_of nest) ≡ Some nest

abbrev pub ReadsOnly : Type 0
ReadsOnly =
    (members : List Member) (nest : Nest) → nest_of members ≡ Some nest → members_of nest ≡ members

-- the units of a tree are spelled as the units of its members
abbrev pub UnitsAreSpelled : Type 0
UnitsAreSpelled = (nest : Nest) → units (members_of nest) ≡ map members_of (units_of nest)

-- ---- a tree with another one behind it: what it does, its members and its units
abbrev pub DoBoth : {P : Type 0} → Ways P → Type 0
DoBoth {P = P} ways =
    (n : ℕ) (first second : Nest) (p : P)
    → nested ways n (followed_by first second) p
    ≡ then_do (nested ways n second) (nested ways n first p)

abbrev pub JoinMembers : Type 0
JoinMembers =
    (first second : Nest)
    → members_of (followed_by first second) ≡ members_of first ++ members_of second

abbrev pub JoinUnits : Type 0
JoinUnits =
    (first second : Nest)
    → units_of (followed_by first second) ≡ units_of first ++ units_of second

-- ---- without loops a tree wants nothing, whatever the bound is
abbrev pub WantNothing : {P : Type 0} → Ways P → Type 0
WantNothing {P = P} ways =
    (n : ℕ) (nest : Nest) (p : P) → loops_in nest ≡ 0 → nested ways n nest p ≢ Wants
