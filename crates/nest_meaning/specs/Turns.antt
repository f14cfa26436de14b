-- The turns that members make at one index, against what they do as a tree.
use Rattle.std.specs.Prelude.{◌≡◌, ℕ, zero, suc, ◌+◌, ◌<◌, Some, None, List, [], ◌∷◌}
use Rattle.std.specs.Prelude.{slice_get, ⊤}
use Rattle.node_form.specs.declared.members.Member.{Member}
use Rattle.node_form.specs.declared.tables.Tables.{Tables}
use Rattle.node_form.specs.Nest.{Nest, Nothing, Putting, Keeping, Joining, Choosing, ChoosingElse}
use Rattle.node_form.specs.Nest.{Looping, Repeating}
use Rattle.node_form.specs.Group.{Access, Point, Ran, Through, Again, Divided, ran_from}
use Rattle.nest_meaning.specs.Units.{UnitsTold, UnitsDone, UnitsWant, UnitsLost}

-- the number behind a tree whose first member has a number
abbrev pub past : Nest → ℕ → ℕ
past Nothing number = number
past (Putting array expr mask line after) number = past after (number + 1)
past (Keeping cell expr mask line after) number = past after (number + 1)
past (Joining scalar fold expr mask line after) number = past after (number + 1)
past (Choosing expr mask line body after) number = past after (past body (number + 1) + 1)
past (ChoosingElse expr mask line body otherwise after) number =
    past after (past otherwise (past body (number + 1) + 1) + 1)
past (Looping expr mask line body after) number = past after (past body (number + 1) + 1)
past (Repeating mask line body until after) number = past after (past body (number + 1) + 1)

-- the numbers of the first members of the units
abbrev pub firsts : Nest → ℕ → List ℕ
firsts Nothing number = []
firsts (Putting array expr mask line after) number = number ∷ firsts after (number + 1)
firsts (Keeping cell expr mask line after) number = number ∷ firsts after (number + 1)
firsts (Joining scalar fold expr mask line after) number = number ∷ firsts after (number + 1)
firsts (Choosing expr mask line body after) number =
    number ∷ firsts after (past body (number + 1) + 1)
firsts (ChoosingElse expr mask line body otherwise after) number =
    number ∷ firsts after (past otherwise (past body (number + 1) + 1) + 1)
firsts (Looping expr mask line body after) number =
    number ∷ firsts after (past body (number + 1) + 1)
firsts (Repeating mask line body until after) number =
    number ∷ firsts after (past body (number + 1) + 1)

-- how many loops are in a tree
abbrev pub loops_in : Nest → ℕ
loops_in Nothing = 0
loops_in (Putting array expr mask line after) = loops_in after
loops_in (Keeping cell expr mask line after) = loops_in after
loops_in (Joining scalar fold expr mask line after) = loops_in after
loops_in (Choosing expr mask line body after) = loops_in body + loops_in after
loops_in (ChoosingElse expr mask line body otherwise after) =
    loops_in body + loops_in otherwise + loops_in after
loops_in (Looping expr mask line body after) = suc (loops_in body) + loops_in after
loops_in (Repeating mask line body until after) = suc (loops_in body) + loops_in after

module _ {S : Type 0} (tables : Tables) (access : Access S) (all : List Member) where
  -- so many turns go back, each to where the next one begins, and then it comes to this
  abbrev pub Leads : ℕ → Ran S → Ran S → Type 0
  Leads zero r end = r ≡ end
  Leads (suc k) r end =
      (back : ℕ) × (next : Point S) × (r ≡ Again back next)
      × Leads k (ran_from tables access all back next) end

  -- so many turns go back
  abbrev pub Stays : ℕ → Ran S → Type 0
  Stays zero r = ⊤
  Stays (suc k) r =
      (back : ℕ) × (next : Point S) × (r ≡ Again back next)
      × Stays k (ran_from tables access all back next)

  -- What units come to, against the turns: fewer than `most` go back, and then all is done, or the
  -- first member of the unit that met a zero divisor is named; or at least `wanted` go back. Where
  -- something isn't there, nothing is said.
  pub data Come (firsts : List ℕ) (wanted most : ℕ) (r : Ran S) : UnitsTold (Point S) → Type 0 where
    ComeThrough : {q : Point S} (k : ℕ) → k < most → Leads k r (Through q)
        → Come firsts wanted most r (UnitsDone q None)
    ComeDivided : {q : Point S} {unit : ℕ} (member k : ℕ) → k < most
        → slice_get firsts unit ≡ Some member → Leads k r (Divided member q)
        → Come firsts wanted most r (UnitsDone q (Some unit))
    ComeBack : Stays wanted r → Come firsts wanted most r UnitsWant
    ComeLost : Come firsts wanted most r UnitsLost
