-- Rows in which all processors come to one value: values go up a tree, in which each has a greater
-- number than its parent, and what they come to goes down again.
--
--   gathered      the words of some processors are kept
--   Agreeing      all stand before the row; what they come to, and the states behind it
--   Agree         then some order leads them through
--   joined_over   the values of all processors, joined in ascending order
--   AgreeAsStar, AgreeAsTree
--                 over a star that is what they come to; so it is over the tree of halves
--   AreTrees      the star and the tree of halves are trees
--   Partly        some processors stay away
--   Halt          then all others come to wait
use Rattle.std.specs.Prelude.{◌≡◌, ℕ, ◌-◌, ◌<◌, ◌≤◌, Bool, true, false, ℤ, List, [], ◌∷◌, All, fold, length, map, slice_get, Option, Some, None}
use Rattle.std.specs.List.{range_with_len}
use Rattle.grid_meaning.specs.of_grid_links.Machine.{Goes}
use Rattle.grid_meaning.specs.of_grid_links.Run.{count_of}
use Rattle.grid_meaning.specs.of_node_form.declared.instructions.Instr.{Instr}
use Rattle.grid_meaning.specs.of_node_form.declared.tables.Tables.{Tables}
use Rattle.grid_meaning.specs.Action.{Action}
use Rattle.grid_meaning.specs.Collective.{Kin, agreed, joined_values, keeping, agreeing_stages, star, tree}
use Rattle.grid_meaning.specs.Grid.{system_over}
use Rattle.grid_meaning.specs.Local.{Local, processors}
use Rattle.grid_meaning.specs.Rows.{collective}
use Rattle.grid_meaning.specs.Turn.{processes}
use Rattle.grid_paths.specs.Path.{Quiet, IsPath}
use Rattle.grid_paths.specs.Scene.{Leads}
use Rattle.grid_paths.specs.Tree.{times, parents, Tree, IsTree, Halted}
use Rattle.row_orders.specs.Rows.{at_turn, IsAtRow, quiet_scene}

-- the words of some processors are kept
abbrev pub gathered : (ℕ → ℤ) → Local → List ℕ → Local
gathered value local [] = local
gathered value local (q ∷ from) = gathered value (keeping local q (value q ∷ [])) from

pub record Agreeing (code : Tables) (links : Option ℕ) (kin : ℕ → Kin) (join : ℤ → ℤ → ℤ)
    (own : Local → ℤ) (last : Local → ℤ → Action)
    (value : ℤ) (one other : ℕ → Local) (shown : ℕ → List ℕ) : Type 0 where
  pub at_row : (p : ℕ) → p < count_of (system_over code links)
      → IsAtRow code p (agreed (kin p) join own last) (one p)
  pub made : (p : ℕ) → p < count_of (system_over code links) → (one p).made ≡ 0
  pub kept : (p : ℕ) → p < count_of (system_over code links) → (one p).kept ≡ []
  pub at : ℕ
  pub same_at : (p : ℕ) → p < count_of (system_over code links) → (one p).at ≡ at
  pub blind_own : (local : Local) (n : ℕ) → own (at_turn n local) ≡ own local
  pub blind_last : (local : Local) (n : ℕ) (value : ℤ)
      → last (at_turn n local) value ≡ last local value
  pub children : (p : ℕ) → p < count_of (system_over code links)
      → All (λ c. (p < c) × (c < count_of (system_over code links))) (kin p).children
  pub family : (p q : ℕ) → p < count_of (system_over code links)
      → q < count_of (system_over code links)
      → times q (kin p).children ≡ times p (parents (kin q).parent)
  pub once : (p q : ℕ) → p < count_of (system_over code links)
      → q < count_of (system_over code links) → times q (kin p).children ≤ 1
  pub parent : (q p : ℕ) → q < count_of (system_over code links) → (kin q).parent ≡ Some p → p < q
  pub sum : ℕ → ℤ
  pub sums : (p : ℕ) → p < count_of (system_over code links)
      → joined_values (kin p) join own (gathered sum (one p) (kin p).children) ≡ sum p
  pub root : (p : ℕ) → p < count_of (system_over code links) → (kin p).parent ≡ None → sum p ≡ value
  pub ends : (p : ℕ) → p < count_of (system_over code links)
      → last (gathered (λ q. value) (gathered sum (one p) (kin p).children)
      (parents (kin p).parent)) value ≡ Goes (other p) None (shown p)

abbrev pub Agree : Tables → Option ℕ → Type 0
Agree code links =
    (kin : ℕ → Kin) (join : ℤ → ℤ → ℤ) (own : Local → ℤ) (last : Local → ℤ → Action) (value : ℤ)
    (one other : ℕ → Local) (shown : ℕ → List ℕ)
    → Agreeing code links kin join own last value one other shown
    → Leads (system_over code links) (quiet_scene one) (quiet_scene other)
    (λ p. length (agreeing_stages (kin p))) shown

-- ---- over a star
abbrev pub joined_over : ℕ → (ℤ → ℤ → ℤ) → (Local → ℤ) → (ℕ → Local) → ℤ
joined_over count join own locals =
    fold (λ value p. join value (own (locals p))) (own (locals 0)) (range_with_len 1 (count - 1))

-- a row of the code in which all come to one value, and which doesn't look at kept words
pub record IsAgreementRow (code : Tables) (at : ℕ) (kin : ℕ → Kin) (join : ℤ → ℤ → ℤ)
    (own : Local → ℤ) (last : Local → ℤ → Action) : Type 0 where
  pub instr : Instr
  pub here : slice_get code.code at ≡ Some instr
  pub rows : (p : ℕ) → p < processors code
      → collective code p instr ≡ Some (agreed (kin p) join own last)
  pub blind_own : (local : Local) (n : ℕ) (kept : List (ℕ × List ℤ))
      → own (record local { made = n; kept = kept }) ≡ own local
  pub blind_last : (local : Local) (n : ℕ) (kept : List (ℕ × List ℤ)) (value : ℤ)
      → last (record local { made = n; kept = kept }) value ≡ last local value

-- a processor that stands before an instruction
pub record StandsBefore (at : ℕ) (local : Local) : Type 0 where
  pub stands : local.at ≡ at
  pub runs : local.ended ≡ None
  pub made : local.made ≡ 0
  pub kept : local.kept ≡ []

abbrev pub AgreeAsStar : Tables → Option ℕ → Type 0
AgreeAsStar code links =
    (join : ℤ → ℤ → ℤ) (own : Local → ℤ) (last : Local → ℤ → Action) (at : ℕ)
    (one other : ℕ → Local) (shown : ℕ → List ℕ) → IsAgreementRow code at (star code) join own last
    → ((p : ℕ) → StandsBefore at (one p))
    → ((p : ℕ) → p < processors code
    → last (one p) (joined_over (processors code) join own one) ≡ Goes (other p) None (shown p))
    → Leads (system_over code links) (quiet_scene one) (quiet_scene other)
    (λ p. length (agreeing_stages (star code p))) shown

-- the join of values that pass a test does, and on such values their order doesn't matter
pub record IsJoin (test : ℤ → Bool) (join : ℤ → ℤ → ℤ) : Type 0 where
  pub closed : (a b : ℤ) → test a ≡ true → test b ≡ true → test (join a b) ≡ true
  pub swaps : (a b : ℤ) → test a ≡ true → test b ≡ true → join a b ≡ join b a
  pub joins : (a b c : ℤ) → test a ≡ true → test b ≡ true → test c ≡ true
      → join (join a b) c ≡ join a (join b c)

-- and so over the tree of halves, for such values
abbrev pub AgreeAsTree : Tables → Option ℕ → Type 0
AgreeAsTree code links =
    (test : ℤ → Bool) (join : ℤ → ℤ → ℤ) (own : Local → ℤ) (last : Local → ℤ → Action) (at : ℕ)
    (one other : ℕ → Local) (shown : ℕ → List ℕ) → IsJoin test join
    → ((p : ℕ) → test (own (one p)) ≡ true)
    → IsAgreementRow code at (tree code) join own last → ((p : ℕ) → StandsBefore at (one p))
    → ((p : ℕ) → p < processors code
    → last (one p) (joined_over (processors code) join own one) ≡ Goes (other p) None (shown p))
    → Leads (system_over code links) (quiet_scene one) (quiet_scene other)
    (λ p. length (agreeing_stages (tree code p))) shown

-- ---- where some stay away
abbrev pub tree_of : (ℕ → Kin) → Tree
tree_of kin = record { children = λ p. (kin p).children; parent = λ p. (kin p).parent }

-- the kin of a row are a tree, be it a star or of halves
pub record AreTrees (code : Tables) (links : Option ℕ) : Type 0 where
  pub stars : IsTree (count_of (system_over code links)) (tree_of (star code))
  pub halves : IsTree (count_of (system_over code links)) (tree_of (tree code))

-- bytes: what each that stays away shows, move by move; on: the state that it goes on to; sum: what
-- the values below and at a processor come to
pub record Partly (code : Tables) (links : Option ℕ) (kin : ℕ → Kin) (join : ℤ → ℤ → ℤ)
    (own : Local → ℤ) (last : Local → ℤ → Action) (away : ℕ → Bool) (bytes : ℕ → List (List ℕ))
    (one on : ℕ → Local) : Type 0 where
  pub is_tree : IsTree (count_of (system_over code links)) (tree_of kin)
  pub some : ℕ
  pub some_below : some < count_of (system_over code links)
  pub some_away : away some ≡ true
  pub alone : (p : ℕ) → p < count_of (system_over code links) → away p ≡ true
      → IsPath (processes code) p (one p) (map Quiet (bytes p)) (on p)
  pub at_row : (p : ℕ) → p < count_of (system_over code links) → away p ≡ false
      → IsAtRow code p (agreed (kin p) join own last) (one p)
  pub made : (p : ℕ) → p < count_of (system_over code links) → away p ≡ false → (one p).made ≡ 0
  pub at : ℕ
  pub same_at : (p : ℕ) → p < count_of (system_over code links) → away p ≡ false → (one p).at ≡ at
  pub blind_own : (local : Local) (n : ℕ) → own (at_turn n local) ≡ own local
  pub blind_last : (local : Local) (n : ℕ) (value : ℤ)
      → last (at_turn n local) value ≡ last local value
  pub sum : ℕ → ℤ
  pub sums : (p : ℕ) → p < count_of (system_over code links) → away p ≡ false
      → joined_values (kin p) join own (gathered sum (one p) (kin p).children) ≡ sum p

abbrev pub Halt : Tables → Option ℕ → Type 0
Halt code links =
    (kin : ℕ → Kin) (join : ℤ → ℤ → ℤ) (own : Local → ℤ) (last : Local → ℤ → Action)
    (away : ℕ → Bool) (bytes : ℕ → List (List ℕ)) (one on : ℕ → Local)
    → Partly code links kin join own last away bytes one on
    → Halted (system_over code links) away bytes (quiet_scene one) on
