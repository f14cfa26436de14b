-- Values of several expressions with operators over regions: all operators are computed before the
-- first value, and each value goes into a scalar of its own.
use Rattle.std.proofs.Common.{◌≡◌, refl, sym, ap, subst, arith, ℕ, ◌+◌, ◌≤◌, true, List, [], ◌∷◌, length, map, ℤ, None}
use Rattle.zpl_meaning.specs.Computed as mean
use Rattle.zpl_meaning.specs.Computed.{computed_then}
use Rattle.zpl_meaning.specs.Store.{Store}
use Rattle.zpl_meaning.specs.Context.{Place}
use Rattle.zpl_meaning.specs.Fields.{Field}
use Rattle.zpl_meaning.specs.Phases.{scalar_values, scalars_in}
use Rattle.zpl_meaning.specs.Settled as phase
use Rattle.node_form.specs.declared.tables.Tables.{Tables}
use Rattle.node_form.specs.Expression.{Expression}
use Rattle.node_form.specs.Value as flat
use Rattle.node_form.specs.Value.{scalar_operands, tree_value}
use Rattle.node_form.proofs.ValueLemmas.{value_of-words_of}
use Rattle.row_runs.specs.Straight.{Every}
use Rattle.row_runs.specs.Structured as code
use Rattle.row_runs.specs.Structured.{Course, rows_do}
use Rattle.flat_form.specs.Whole.{Whole}
use Rattle.print_runs.specs.of_zpl_lowering.Where.{Where, Next}
use Rattle.print_runs.specs.of_zpl_lowering.Slate as slate
use Rattle.print_runs.specs.of_zpl_lowering.Slate.{Placed, settled, settled_each}
use Rattle.print_runs.specs.of_zpl_lowering.Hoist.{all_hoisted}
use Rattle.print_runs.specs.of_zpl_lowering.Lowered.{Lowered, free_at, phased}
use Rattle.print_runs.specs.of_zpl_lowering.Statement.{value_rows, with_values}
use Rattle.print_runs.specs.of_lowering_runs.Seen.{Spot, Sight, numbered, seen_place, seen_store}
use Rattle.print_runs.specs.of_lowering_runs.Run.{decide, does, step}
use Rattle.print_runs.specs.of_lowering_runs.Goes.{World, ValuesGo}
use Rattle.print_runs.specs.of_lowering_runs.Scalars.{IsSameValue}
use Rattle.print_runs.specs.of_lowering_runs.Stands.{HasRoom, IsLike, Rises, Stands}
use Rattle.print_runs.specs.of_lowering_runs.Values.{AreSet, Falls, Fills, meant, nodes_of}
use Rattle.print_runs.proofs.of_lowering_runs.FitLemmas.{itself, like_anew, like_then, place_kept}
use Rattle.print_runs.proofs.of_lowering_runs.HeadLemmas.{phased_length}
use Rattle.print_runs.proofs.of_lowering_runs.ListLemmas.{AreSame, HasSet, MoreSame, NoneSame, alike_fills, led_fills, values_fill}
use Rattle.print_runs.proofs.of_lowering_runs.NumberLemmas.{rises_on}
use Rattle.print_runs.specs.of_array_runs.Integers.{GivesIntegers}
use Rattle.operator_runs.specs.Meant.{Site, Alone, IsSite}
use Rattle.operator_runs.specs.Hoists.{HaveValuesAt, MoreValues, NoValues, Own, Spares, Unused, beyond, copies_of_all, tests_of_all, unused_at}
use Rattle.operator_runs.specs.Operated.{IsOperated}
use Rattle.operator_runs.specs.Phases.{IsTakenSite, Phases, PassTo, OneTraps}
use Rattle.operator_runs.specs.Served.{OperatedValue}
use Rattle.operator_runs.proofs.JoinLemmas.{with_total}
use Rattle.operator_runs.proofs.LikeLemmas.{like_taken, taken_spared, taken_then}
use Rattle.operator_runs.proofs.MeantLemmas.{none_referred}
use Rattle.operator_runs.proofs.NodeLemmas.{tests_few}
use Rattle.operator_runs.proofs.PhaseLemmas.{phases_come, room_phases}
use Rattle.operator_runs.proofs.ScalarLemmas.{same_value}
use Rattle.operator_runs.proofs.ReadLemmas.{ReadsNone}
use Rattle.operator_runs.proofs.SettleLemmas.{AreOperated, NoneOperated, MoreOperated, placed_of}
use Rattle.operator_runs.proofs.SpareLemmas.{spares_all, spares_then, spares_total}

-- remap reads are among the nodes
each_few : (exprs : List Placed) (w : Where) (line : ℕ) (free : Next)
    → tests_of_all (settled_each w line free exprs).slate ≤ nodes_of exprs
each_few [] w line free = omega arith
each_few (placed ∷ exprs) w line free =
    let h = tests_few placed.expr w line free placed.rank in
    let k = each_few exprs w line (slate.behind free (settled w line free placed.rank placed.expr)) in
    omega (arith, h, k)

module _ (tables : Tables) (n : ℕ) (sight : Sight) (w : Where) (next : Next) (now : Whole)
    (stands : Stands sight.spots w next) (room : next.scalars ≤ tables.scalars) (line : ℕ) where
  abbrev spots : List Spot
  spots = sight.spots

  abbrev place : Place
  place = seen_place sight w now

  abbrev store : Store
  store = seen_store spots w.numbers.arrays now

  abbrev Like : Whole → Type 0
  Like = IsLike tables spots w next now store

  abbrev Set_ : ℕ → ℕ → List ℤ → Whole → Type 0
  Set_ k count values after = Like after × AreSet k count values after

  -- each value stands by itself
  abbrev all_alone : List Placed → List Site
  all_alone exprs = map (λ _. Alone) exprs

  each_alone : (exprs : List Placed) → Every (IsSite now.slots) (all_alone exprs)
  each_alone [] = tt
  each_alone (placed ∷ exprs) = (tt, each_alone exprs)

  each_taken : (exprs : List Placed) → Every (IsTakenSite next.slots) (all_alone exprs)
  each_taken [] = tt
  each_taken (placed ∷ exprs) = (tt, each_taken exprs)

  -- ---- behind the operators

  module _ (free : Unused) (le : next.scalars ≤ free.scalars) where
    abbrev Spared : Own → Whole → Whole → Type 0
    Spared own = Spares tables spots w.numbers.arrays own free

    rises : Rises 0 (numbered spots) free.scalars
    rises = rises_on 0 (numbered spots) next.scalars free.scalars le stands.rises

    lefts_same : (own : Own) (after : Whole) (exprs : List Placed) (fields : List Field)
        (lefts : List Expression)
        → HaveValuesAt tables spots w.numbers.arrays own (all_alone exprs) free after fields lefts
        → Every GivesIntegers fields → AreSame (Spared own after) (scalar_values fields) lefts
    lefts_same own after [] _ _ NoValues integers = NoneSame
    lefts_same own after (placed ∷ exprs) _ _ (MoreValues {field = field} {fields = fields}
        {left = left} {rest = lefts} v vs) integers =
        MoreSame
        (λ mid s.
        subst (λ (c : flat.Computed ℤ). IsSameValue (field []) c)
        (sym (value_of-words_of (scalar_operands mid.scalars) left))
        (same_value (field []) (tree_value (scalar_operands mid.scalars) left) (integers.0 [] tt)
        (v.values mid s [] [] refl)))
        (lefts_same own after exprs fields lefts vs integers.1)

    filled : (exprs : List Placed) (lefts : List Expression) (k few most : ℕ) → free.scalars ≤ k
        → k + length lefts ≤ tables.scalars → few ≤ most → Like now
        → (c : mean.Computed (List Field)) (course : Course Whole)
        → Phases tables spots w.numbers.arrays (all_alone exprs) next free line few now lefts c course
        → Fills (Set_ k (length lefts)) line most (computed_then c scalar_values)
        (code.then_do course (rows_do (step tables n) (decide tables n) (value_rows line k lefts)))
    filled exprs lefts k few most from fits below like c course (OneTraps less) =
        Falls (omega (arith, less, below))
    filled exprs lefts k few most from fits below like c course
        (PassTo own {after = after} {jumps = jumps} {fields = fields} apart t h integers less) =
        led_fills (Set_ k (length lefts)) line most jumps (scalar_values fields)
        (rows_do (step tables n) (decide tables n) (value_rows line k lefts) after)
        (omega (arith, less, below))
        (alike_fills (HasSet (Spared own after) k (length lefts) after) (Set_ k (length lefts)) line 0 0
        (scalar_values fields)
        (rows_do (step tables n) (decide tables n) (value_rows line k lefts) after) (omega arith)
        (λ vs end s. (
          like_taken tables spots w next now store now end stands like
              (taken_then tables spots w.numbers.arrays next now after end t
              (taken_spared tables spots w.numbers.arrays next own free after end apart le s.alike)),
          s.set,
        ))
        (values_fill tables n (Spared own after) free.scalars line (λ mid s. s.sound)
        (λ mid s v f j above lt.
        spares_then tables spots w.numbers.arrays own free free after mid (with_total mid j v)
        (record { scalars = omega arith; copies = omega arith; temps = omega arith }) s
        (spares_total tables spots w.numbers.arrays own free mid s.sound rises j above lt v f))
        (scalar_values fields) lefts (lefts_same own after exprs fields lefts h integers) k from fits after
        (spares_all tables spots w.numbers.arrays own free after t.sound)))

  -- ---- of a statement

  module _ (like : Like now) (exprs : List Placed)
      (operated : Every (λ placed. IsOperated w place None placed.expr) exprs) where
    each_meant : (exprs : List Placed)
        → map placed_of exprs ≡ meant exprs
    each_meant [] = refl
    each_meant (placed ∷ exprs) =
        ap (λ (rest : List phase.Placed).
        record { rank = placed.rank; expr = placed.expr } ∷ rest) (each_meant exprs)

    each_operated : (exprs : List Placed)
        → Every (λ placed. IsOperated w place None placed.expr) exprs
        → AreOperated sight w next now (all_alone exprs) exprs
    each_operated [] h = NoneOperated
    each_operated (placed ∷ exprs) h = MoreOperated ReadsNone h.0 (each_operated exprs h.1)

    pub values_come : (let phases = phased w line next exprs in
        let first = next.scalars + phases.lowered.scalars in
        let own = with_values line first phases in
        HasRoom tables next own
        → Fills (Set_ first (length exprs)) line (nodes_of exprs)
        (scalars_in place store (meant exprs)) (does tables n own.code now))
    values_come space =
        let none = none_referred tables spots w line like.held.stored now like.sound in
        let phases = phased w line next exprs in
        let first = next.scalars + phases.lowered.scalars in
        let course = does tables n (with_values line first phases).code now in
        let many : length phases.left ≡ length exprs = phased_length w line next exprs in
        subst (λ (es : List phase.Placed). Fills (Set_ first (length exprs)) line (nodes_of exprs)
        (scalars_in place store es) course) (each_meant exprs)
        (subst (λ (count : ℕ). Fills (Set_ first count) line (nodes_of exprs)
        (scalars_in place store
        (map placed_of exprs)) course) many
        (filled
        (beyond (unused_at next) (copies_of_all (settled_each w line next exprs).slate)
        (all_hoisted w.numbers line (free_at next 0) (settled_each w line next exprs).slate))
        (omega arith) exprs phases.left first
        (tests_of_all (settled_each w line next exprs).slate) (nodes_of exprs) (omega arith)
        (omega (arith, space.scalars)) (each_few exprs w line next) like _ _
        (phases_come tables n sight w line next now stands room like.sound like.held
        (all_alone exprs) (each_alone exprs) (each_taken exprs) [] true none tt [] true none tt exprs (each_operated exprs operated)
        (room_phases tables next phases.lowered _ space))))

-- ---- wherever the statement stands

pub operated_values : (world : World) → ValuesGo world OperatedValue
operated_values world sight w next start line exprs stands operated space store now like =
    let tables = world.tables in
    let phases = phased w line next exprs in
    let first = next.scalars + phases.lowered.scalars in
    let own : Lowered = with_values line first phases in
    let course = does tables world.turns own.code now in
    let Like = IsLike tables sight.spots w next in
    let Done : Whole → Store → List ℤ → Whole → Type 0 =
    λ begun s vs after. Like begun s after × AreSet first (length exprs) vs after in
    let same : seen_place sight w now ≡ seen_place sight w start =
    place_kept start now next.slots like.kept.slots sight w stands.taken stands.edge in
    let anew = like_anew tables sight.spots w next next start store now like in
    let room : next.scalars ≤ tables.scalars = omega (arith, space.scalars) in
    subst (λ (p : Place). Fills (Done start store) line (nodes_of exprs)
    (scalars_in p store (meant exprs)) course) same
    (alike_fills (Done now store) (Done start store) line (nodes_of exprs) (nodes_of exprs)
    (scalars_in (seen_place sight w now) store (meant exprs)) course (omega arith)
    (λ vs after l. (
      like_then tables sight.spots w next next start store now store after (itself next) like l.0,
      l.1,
    ))
    (subst (λ (s : Store). Fills (Done now s) line (nodes_of exprs)
    (scalars_in (seen_place sight w now) s (meant exprs)) course) (sym like.seen)
    (values_come tables world.turns sight w next now stands room line
    (subst (λ (s : Store). Like now s now) like.seen anew) exprs
    (subst (λ (p : Place). Every (λ placed. IsOperated w p None placed.expr) exprs) (sym same)
    operated) space)))
