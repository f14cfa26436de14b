-- Code goes as what it was lowered from, wherever that stands.
use Rattle.std.specs.Prelude.{ℕ, ◌+◌, List, length}
use Rattle.zpl_tree.specs.Syntax.{Expr}
use Rattle.zpl_names.specs.Counts.{expr_nodes}
use Rattle.lowering_fits.specs.of_zpl_meaning.Store.{Store}
use Rattle.lowering_fits.specs.of_zpl_meaning.Context.{Place}
use Rattle.lowering_fits.specs.of_zpl_meaning.Outcome.{Outcome}
use Rattle.lowering_fits.specs.of_zpl_meaning.Calls.{Called}
use Rattle.lowering_fits.specs.of_zpl_meaning.Phases.{scalars_in}
use Rattle.lowering_fits.specs.of_zpl_meaning.Statement as mean
use Rattle.lowering_fits.specs.of_zpl_meaning.Statement.{Context}
use Rattle.node_form.specs.declared.tables.Tables.{Tables}
use Rattle.row_runs.specs.Straight.{Every}
use Rattle.lowering_fits.specs.of_flat_form.Whole.{Whole}
use Rattle.lowering_fits.specs.of_zpl_lowering.Where.{Where, Next, line_of}
use Rattle.lowering_fits.specs.of_zpl_lowering.Slate.{Placed}
use Rattle.lowering_fits.specs.of_zpl_lowering.Lowered.{Lowered, phased}
use Rattle.lowering_fits.specs.of_zpl_lowering.Statement as low
use Rattle.lowering_fits.specs.of_zpl_lowering.Statement.{Calling, Lowering}
use Rattle.lowering_runs.specs.Seen.{Sight, seen_place}
use Rattle.lowering_runs.specs.Run.{decide, does}
use Rattle.lowering_runs.specs.Heads.{Heads}
use Rattle.lowering_runs.specs.Values.{AreSet, Fills, meant, nodes_of}
use Rattle.lowering_runs.specs.Stands.{Stands, HasRoom, IsBefore, IsLike}
use Rattle.lowering_runs.specs.Agrees.{Agrees}

-- what calls do and become, with tables, and the turns that each loop may make
pub record World : Type 0 where
  pub tables : Tables
  pub turns : ℕ
  pub call : Called → Store → Outcome
  pub code : Calling → Next → Lowered

module _ (world : World) where
  abbrev pub context : Sight → Where → Whole → Context
  context sight w start = record { place = seen_place sight w start; call = world.call }

  abbrev pub lowering : Where → Lowering
  lowering w = record { place = w; call = world.code }

  -- From a state at the start of a statement, and any that it may come to: to stores and states that
  -- are related, by where the statement stands.
  abbrev pub GoesTo : (Sight → Where → Next → Whole → Store → Whole → Type 0)
      → (Where → Place → Type 0) → (Context → Store → Outcome) → (Lowering → Next → Lowered) → ℕ → Type 0
  GoesTo Ended IsServed run made spare =
      (sight : Sight) (w : Where) (next : Next) (start : Whole) → Stands sight.spots w next
      → IsServed w (seen_place sight w start)
      → HasRoom world.tables next (made (lowering w) next) → (store : Store) (now : Whole)
      → IsLike world.tables sight.spots w next start store now
      → Agrees (Ended sight w next start) world.turns spare
      (run (context sight w start) store)
      (does world.tables world.turns (made (lowering w) next).code now)

  -- to stores and states that are alike
  abbrev pub Goes : (Where → Place → Type 0) → (Context → Store → Outcome) → (Lowering → Next → Lowered)
      → ℕ → Type 0
  Goes IsServed run made spare =
      GoesTo (λ sight w next start. IsLike world.tables sight.spots w next start) IsServed run made
      spare

  -- So do the rows before a test, and the test, behind others of the statement that it is in. They
  -- make at most as many jumps as the test has nodes.
  abbrev pub TestsGo : (Expr → Where → Place → Type 0) → Type 0
  TestsGo IsTest =
      (sight : Sight) (w : Where) (next from : Next) (start : Whole) (at : ℕ) (test : Expr)
      → Stands sight.spots w next → IsBefore next from → IsTest test w (seen_place sight w start)
      → HasRoom world.tables from (low.test_of w from test at).before → (store : Store)
      (now : Whole) → IsLike world.tables sight.spots w next start store now
      → Heads (IsLike world.tables sight.spots w next start store)
      ((mean.test_of (seen_place sight w start) test at).value store) (line_of w at)
      (expr_nodes test)
      (decide world.tables world.turns (low.test_of w from test at).check)
      (does world.tables world.turns (low.test_of w from test at).before.code now)

  -- So does what computes the values of several expressions of a statement. It makes at most as many
  -- jumps as they have nodes.
  abbrev pub ValuesGo : (Expr → Where → Place → Type 0) → Type 0
  ValuesGo IsValue =
      (sight : Sight) (w : Where) (next : Next) (start : Whole) (line : ℕ) (exprs : List Placed)
      → Stands sight.spots w next → Every (λ placed. IsValue placed.expr w (seen_place sight w start)) exprs
      → (let phases = phased w line next exprs in
      let first = next.scalars + phases.lowered.scalars in
      let own = low.with_values line first phases in
      HasRoom world.tables next own → (store : Store) (now : Whole)
      → IsLike world.tables sight.spots w next start store now
      → Fills (λ values after.
      IsLike world.tables sight.spots w next start store after
      × AreSet first (length exprs) values after) line (nodes_of exprs)
      (scalars_in (seen_place sight w start) store (meant exprs))
      (does world.tables world.turns own.code now))
