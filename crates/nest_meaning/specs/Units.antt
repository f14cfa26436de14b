-- The units of a tree: its outermost members, each with all that it encloses.
use Rattle.std.specs.Prelude.{ℕ, ◌+◌, Option, Some, None, List, [], ◌∷◌}
use Rattle.node_form.specs.Nest.{Nest, Nothing, Putting, Keeping, Joining, Choosing, ChoosingElse}
use Rattle.node_form.specs.Nest.{Looping, Repeating}
use Rattle.nest_meaning.specs.Nested.{Ways, Told, Fine, Zero, Wants, Lost, nested}

abbrev pub units_of : Nest → List Nest
units_of Nothing = []
units_of (Putting array expr mask line after) =
    Putting array expr mask line Nothing ∷ units_of after
units_of (Keeping cell expr mask line after) =
    Keeping cell expr mask line Nothing ∷ units_of after
units_of (Joining scalar fold expr mask line after) =
    Joining scalar fold expr mask line Nothing ∷ units_of after
units_of (Choosing expr mask line body after) =
    Choosing expr mask line body Nothing ∷ units_of after
units_of (ChoosingElse expr mask line body otherwise after) =
    ChoosingElse expr mask line body otherwise Nothing ∷ units_of after
units_of (Looping expr mask line body after) =
    Looping expr mask line body Nothing ∷ units_of after
units_of (Repeating mask line body until after) =
    Repeating mask line body until Nothing ∷ units_of after

-- what units come to, one after another: a state and, where one of them met a zero divisor, its
-- number, with those behind it left out; or a further turn is wanted; or something isn't there
pub data UnitsTold (P : Type 0) : Type 0 where
  UnitsDone : (p : P) (flag : Option ℕ) → UnitsTold P
  UnitsWant : UnitsTold P
  UnitsLost : UnitsTold P

abbrev pub unit_then : {P : Type 0} → ℕ → Told P → (P → UnitsTold P) → UnitsTold P
unit_then number (Fine p) next = next p
unit_then number (Zero p) next = UnitsDone p (Some number)
unit_then number Wants next = UnitsWant
unit_then number Lost next = UnitsLost

-- units, of which the first has this number
abbrev pub units_told : {P : Type 0} → Ways P → ℕ → ℕ → List Nest → P → UnitsTold P
units_told ways n number [] p = UnitsDone p None
units_told ways n number (unit ∷ units) p =
    unit_then number (nested ways n unit p) (λ p. units_told ways n (number + 1) units p)

-- without the number
abbrev pub flag_told : {P : Type 0} → P → Option ℕ → Told P
flag_told p None = Fine p
flag_told p (Some number) = Zero p

abbrev pub told_of : {P : Type 0} → UnitsTold P → Told P
told_of (UnitsDone p flag) = flag_told p flag
told_of UnitsWant = Wants
told_of UnitsLost = Lost

-- ---- a tree with another one behind it
abbrev pub followed_by : Nest → Nest → Nest
followed_by Nothing behind = behind
followed_by (Putting array expr mask line after) behind =
    Putting array expr mask line (followed_by after behind)
followed_by (Keeping cell expr mask line after) behind =
    Keeping cell expr mask line (followed_by after behind)
followed_by (Joining scalar fold expr mask line after) behind =
    Joining scalar fold expr mask line (followed_by after behind)
followed_by (Choosing expr mask line body after) behind =
    Choosing expr mask line body (followed_by after behind)
followed_by (ChoosingElse expr mask line body otherwise after) behind =
    ChoosingElse expr mask line body otherwise (followed_by after behind)
followed_by (Looping expr mask line body after) behind =
    Looping expr mask line body (followed_by after behind)
followed_by (Repeating mask line body until after) behind =
    Repeating mask line body until (followed_by after behind)
