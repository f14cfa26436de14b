-- Cells are kept before they are read, unit by unit.
--
--   KeepsMember   the cells that a member reads are kept
--   UnitsKeep     so are those of each unit, by the units in front of it
--   units_keep    where the group keeps its cells
use Rattle.std.proofs.Common.{◌≡◌, refl, subst, arith, ℕ, zero, suc, ◌+◌, ◌-◌}
use Rattle.std.proofs.Common.{Bool, true, false, ◌&&◌, List, [], ◌∷◌, Some, None}
use Rattle.std.specs.Prelude.{◌==◌, flat_map, if◌then◌else◌, ⊤}
use Rattle.std.proofs.lemmas.Bool.Decides.{nat_tests}
use Rattle.node_form.specs.declared.members.Member.{Member}
use Rattle.node_form.specs.declared.members.Member.TheVariants as member
use Rattle.node_form.specs.declared.tables.Tables.{Tables}
use Rattle.node_form.specs.Nest.{Nest, Nothing, Putting, Keeping, Joining, Choosing, ChoosingElse}
use Rattle.node_form.specs.Nest.{Looping, Repeating, members_of}
use Rattle.row_runs.specs.Straight.{Every}
use Rattle.nest_meaning.specs.Units.{units_of}
use Rattle.nest_meaning.proofs.Spelled.{spelled}
use Rattle.code_parts.specs.Uses.{member_words}
use Rattle.flat_form.specs.Static.{are_among, cells_in, keeps_from}
use Rattle.flat_form.proofs.WordLemmas.{every_append}
use Rattle.loop_runs.proofs.ShareLemmas.{IsSingle, known_behind}

both : (a b : Bool) → (a && b) ≡ true → (a ≡ true) × (b ≡ true)
both true b e = (refl, e)
both false b e = cc

module _ (code : Tables) where
  abbrev pub KeepsMember : List ℕ → Member → Type 0
  KeepsMember kept one = are_among kept (flat_map cells_in (member_words code one)) ≡ true

  abbrev Keeps : ℕ → List ℕ → List Member → Type 0
  Keeps depth kept members = keeps_from code depth kept members ≡ true

  deeper : (depth other : ℕ) (kept : List ℕ) (members : List Member) → depth ≡ other
      → Keeps depth kept members → Keeps other kept members
  deeper depth other kept members same keeps =
      subst (λ d. Keeps d kept members) same keeps

  inner_cell : (d : ℕ) (kept : List ℕ) (cell : ℕ) (rest : List Member)
      → Keeps (suc d) (if suc d == 0 then cell ∷ kept else kept) rest → Keeps (suc d) kept rest
  inner_cell d kept cell rest keeps =
      let none : (suc d == 0) ≡ false = grind (arith, nat_tests) in
      subst (λ b. Keeps (suc d) (if b then cell ∷ kept else kept) rest) none keeps

  -- within a unit no cell is added
  keeps_inner : (nest : Nest) (d : ℕ) (kept : List ℕ) (rest : List Member)
      → Keeps (suc d) kept (spelled nest rest)
      → Every (KeepsMember kept) (members_of nest) × Keeps (suc d) kept rest
  keeps_inner Nothing d kept rest keeps = (tt, keeps)
  keeps_inner (Putting array expr mask line after) d kept rest keeps =
      let parts = both _ _ keeps in
      let more = keeps_inner after d kept rest parts.1 in ((parts.0, more.0), more.1)
  keeps_inner (Keeping cell expr None line after) d kept rest keeps =
      let parts = both _ _ keeps in
      let more = keeps_inner after d kept rest
      (inner_cell d kept cell (spelled after rest) parts.1) in ((parts.0, more.0), more.1)
  keeps_inner (Keeping cell expr (Some mask) line after) d kept rest keeps =
      let parts = both _ _ keeps in
      let more = keeps_inner after d kept rest parts.1 in ((parts.0, more.0), more.1)
  keeps_inner (Joining scalar fold expr mask line after) d kept rest keeps =
      let parts = both _ _ keeps in
      let more = keeps_inner after d kept rest parts.1 in ((parts.0, more.0), more.1)
  keeps_inner (Choosing expr mask line body after) d kept rest keeps =
      let parts = both _ _ keeps in
      let inside = keeps_inner body (suc d) kept (member.CloseIf ∷ spelled after rest)
      (deeper (suc d + 1) (suc (suc d)) kept (spelled body (member.CloseIf ∷ spelled after rest))
      (omega arith) parts.1) in
      let close = both _ _ inside.1 in
      let more = keeps_inner after d kept rest
      (deeper (suc (suc d) - 1) (suc d) kept (spelled after rest) (omega arith) close.1) in (
        (parts.0, every_append (KeepsMember kept) (members_of body) _ inside.0 (close.0, more.0)),
        more.1,
      )
  keeps_inner (ChoosingElse expr mask line body otherwise after) d kept rest keeps =
      let parts = both _ _ keeps in
      let inside = keeps_inner body (suc d) kept
      (member.Otherwise ∷ spelled otherwise (member.CloseIf ∷ spelled after rest))
      (deeper (suc d + 1) (suc (suc d)) kept (spelled body
      (member.Otherwise ∷ spelled otherwise (member.CloseIf ∷ spelled after rest)))
      (omega arith) parts.1) in
      let turn = both _ _ inside.1 in
      let second = keeps_inner otherwise (suc d) kept (member.CloseIf ∷ spelled after rest) turn.1 in
      let close = both _ _ second.1 in
      let more = keeps_inner after d kept rest
      (deeper (suc (suc d) - 1) (suc d) kept (spelled after rest) (omega arith) close.1) in (
        (
          parts.0,
          every_append (KeepsMember kept) (members_of body) _ inside.0 (
            turn.0,
            every_append (KeepsMember kept) (members_of otherwise) _ second.0 (close.0, more.0),
          ),
        ),
        more.1,
      )
  keeps_inner (Looping expr mask line body after) d kept rest keeps =
      let parts = both _ _ keeps in
      let inside = keeps_inner body (suc d) kept (member.CloseWhile ∷ spelled after rest)
      (deeper (suc d + 1) (suc (suc d)) kept (spelled body (member.CloseWhile ∷ spelled after rest))
      (omega arith) parts.1) in
      let close = both _ _ inside.1 in
      let more = keeps_inner after d kept rest
      (deeper (suc (suc d) - 1) (suc d) kept (spelled after rest) (omega arith) close.1) in (
        (parts.0, every_append (KeepsMember kept) (members_of body) _ inside.0 (close.0, more.0)),
        more.1,
      )
  keeps_inner (Repeating mask line body until after) d kept rest keeps =
      let parts = both _ _ keeps in
      let inside = keeps_inner body (suc d) kept (member.Until until ∷ spelled after rest)
      (deeper (suc d + 1) (suc (suc d)) kept (spelled body (member.Until until ∷ spelled after rest))
      (omega arith) parts.1) in
      let close = both _ _ inside.1 in
      let more = keeps_inner after d kept rest
      (deeper (suc (suc d) - 1) (suc d) kept (spelled after rest) (omega arith) close.1) in (
        (parts.0, every_append (KeepsMember kept) (members_of body) _ inside.0 (close.0, more.0)),
        more.1,
      )

  -- ---- unit by unit
  abbrev pub UnitsKeep : List ℕ → List Nest → Type 0
  UnitsKeep kept [] = ⊤
  UnitsKeep kept (unit ∷ units) =
      (IsSingle unit × Every (KeepsMember kept) (members_of unit))
      × UnitsKeep (known_behind kept unit) units

  pub units_keep : (nest : Nest) (kept : List ℕ) → Keeps 0 kept (spelled nest [])
      → UnitsKeep kept (units_of nest)
  units_keep Nothing kept keeps = tt
  units_keep (Putting array expr mask line after) kept keeps =
      let parts = both _ _ keeps in ((tt, (parts.0, tt)), units_keep after kept parts.1)
  units_keep (Keeping cell expr None line after) kept keeps =
      let parts = both _ _ keeps in ((tt, (parts.0, tt)), units_keep after (cell ∷ kept) parts.1)
  units_keep (Keeping cell expr (Some mask) line after) kept keeps =
      let parts = both _ _ keeps in ((tt, (parts.0, tt)), units_keep after kept parts.1)
  units_keep (Joining scalar fold expr mask line after) kept keeps =
      let parts = both _ _ keeps in ((tt, (parts.0, tt)), units_keep after kept parts.1)
  units_keep (Choosing expr mask line body after) kept keeps =
      let parts = both _ _ keeps in
      let inside = keeps_inner body zero kept (member.CloseIf ∷ spelled after [])
      (deeper (0 + 1) (suc zero) kept (spelled body (member.CloseIf ∷ spelled after []))
      (omega arith) parts.1) in
      let close = both _ _ inside.1 in (
        (tt, (parts.0, every_append (KeepsMember kept) (members_of body) _ inside.0 (close.0, tt))),
        units_keep after kept (deeper (suc zero - 1) 0 kept (spelled after []) (omega arith) close.1),
      )
  units_keep (ChoosingElse expr mask line body otherwise after) kept keeps =
      let parts = both _ _ keeps in
      let inside = keeps_inner body zero kept
      (member.Otherwise ∷ spelled otherwise (member.CloseIf ∷ spelled after []))
      (deeper (0 + 1) (suc zero) kept (spelled body
      (member.Otherwise ∷ spelled otherwise (member.CloseIf ∷ spelled after [])))
      (omega arith) parts.1) in
      let turn = both _ _ inside.1 in
      let second = keeps_inner otherwise zero kept (member.CloseIf ∷ spelled after []) turn.1 in
      let close = both _ _ second.1 in (
        (
          tt,
          (
            parts.0,
            every_append (KeepsMember kept) (members_of body) _ inside.0 (
              turn.0,
              every_append (KeepsMember kept) (members_of otherwise) _ second.0 (close.0, tt),
            ),
          ),
        ),
        units_keep after kept (deeper (suc zero - 1) 0 kept (spelled after []) (omega arith) close.1),
      )
  units_keep (Looping expr mask line body after) kept keeps =
      let parts = both _ _ keeps in
      let inside = keeps_inner body zero kept (member.CloseWhile ∷ spelled after [])
      (deeper (0 + 1) (suc zero) kept (spelled body (member.CloseWhile ∷ spelled after []))
      (omega arith) parts.1) in
      let close = both _ _ inside.1 in (
        (tt, (parts.0, every_append (KeepsMember kept) (members_of body) _ inside.0 (close.0, tt))),
        units_keep after kept (deeper (suc zero - 1) 0 kept (spelled after []) (omega arith) close.1),
      )
  units_keep (Repeating mask line body until after) kept keeps =
      let parts = both _ _ keeps in
      let inside = keeps_inner body zero kept (member.Until until ∷ spelled after [])
      (deeper (0 + 1) (suc zero) kept (spelled body (member.Until until ∷ spelled after []))
      (omega arith) parts.1) in
      let close = both _ _ inside.1 in (
        (tt, (parts.0, every_append (KeepsMember kept) (members_of body) _ inside.0 (close.0, tt))),
        units_keep after kept (deeper (suc zero - 1) 0 kept (spelled after []) (omega arith) close.1),
      )
