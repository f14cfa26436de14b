-- Assignments whose values have operators over regions go alike, as statements.
use Rattle.operator_runs.proofs.PhaseLemmas.{room_phases}
use Rattle.std.proofs.Common.{◌≡◌, refl, sym, ◌∙◌, ap, subst, arith, ℕ, ◌≤◌, ◌<◌, List, length, Option, Some, None, ◌⊎◌, inl, inr}
use Rattle.std.specs.Option.{option_map}
use Rattle.std.specs.Prelude.{slice_get, slice_index_or}
use Rattle.zpl_nums.specs.declared.operators.Op.{Op}
use Rattle.zpl_tree.specs.Syntax.{Name, Expr, Number, Truth, Coord, Named, Shifted, Around, Remap, Call, Paren, Neg, Not, Abs, Pair, Reduce, Scan, Flood, Assign}
use Rattle.zpl_names.specs.Counts.{expr_nodes}
use Rattle.zpl_names.specs.Sites.{Assigned}
use Rattle.zpl_meaning.specs.Store.{Store, Thing, Scalar, ArrayAt, Fixed, thing_of}
use Rattle.zpl_meaning.specs.Context.{Place}
use Rattle.zpl_meaning.specs.Points.{assigned_expr}
use Rattle.zpl_meaning.specs.Proper.{IsTarget}
use Rattle.zpl_meaning.specs.Outcome.{Outcome}
use Rattle.zpl_meaning.specs.Statement as mean
use Rattle.zpl_meaning.specs.Statement.{Context}
use Rattle.flat_form.specs.Whole.{Whole}
use Rattle.print_runs.specs.of_zpl_lowering.Where.{Slotted, Where, Next, line_of}
use Rattle.print_runs.specs.of_zpl_lowering.Lowered.{Lowered}
use Rattle.print_runs.specs.of_zpl_lowering.Statement as low
use Rattle.print_runs.specs.of_zpl_lowering.Statement.{Lowering}
use Rattle.print_runs.specs.of_lowering_runs.Seen.{Sight, numbered, place_of, seen_place, seen_store, seen_thing}
use Rattle.print_runs.specs.of_lowering_runs.Run.{does}
use Rattle.print_runs.specs.of_lowering_runs.Agrees.{Agrees}
use Rattle.print_runs.specs.of_lowering_runs.Goes.{World, Goes, context, lowering}
use Rattle.print_runs.specs.of_lowering_runs.Stands.{HasRoom, IsLike, Stands}
use Rattle.print_runs.proofs.of_lowering_runs.FitLemmas.{anew_goes}
use Rattle.print_runs.proofs.of_lowering_runs.NumberLemmas.{get_some, number_below}
use Rattle.print_runs.proofs.of_lowering_runs.ValueLemmas.{known_thing, thing_seen}
use Rattle.operator_runs.specs.Operated.{IsOperated}
use Rattle.operator_runs.specs.Served.{IsScalarOperated, IsArrayOperated}
use Rattle.operator_runs.proofs.NodeLemmas.{assigned_few}
use Rattle.operator_runs.proofs.ScalarLemmas.{assigned}
use Rattle.operator_runs.proofs.ArrayLemmas.{array_agrees}

-- ---- the value is no call

module _ (w : Where) (place : Place) (under : Option Slotted) where
  assign_plain : (context : Context) (name : Name) (op : Option Op) (value : Expr) (line : ℕ)
      (store : Store) → IsOperated w place under (assigned_expr name op value)
      → mean.assign context name op value line store
      ≡ mean.assign_to context.place (Assigned name op)
      (thing_of context.place.environment name.text) (assigned_expr name op value) line store
  assign_plain context name (Some op) value line store h = refl
  assign_plain context name None (Number at number) line store h = refl
  assign_plain context name None (Truth at truth) line store h = refl
  assign_plain context name None (Coord at k) line store h = refl
  assign_plain context name None (Named at it) line store h = refl
  assign_plain context name None (Shifted at it shift) line store h = refl
  assign_plain context name None (Around at it shift) line store h = refl
  assign_plain context name None (Remap at it indices) line store h = refl
  assign_plain context name None (Paren at inside) line store h = refl
  assign_plain context name None (Neg at operand) line store h = refl
  assign_plain context name None (Not at operand) line store h = refl
  assign_plain context name None (Abs at operand) line store h = refl
  assign_plain context name None (Pair at o left right) line store h = refl
  assign_plain context name None (Reduce at operator over operand) line store h = refl
  assign_plain context name None (Scan at operator along operand) line store h = refl
  assign_plain context name None (Flood at source operand) line store h = refl
  assign_plain context name None (Call at it actuals) line store h = absurd h

  lowered_plain : (l : Lowering) (next : Next) (name : Name) (op : Option Op) (value : Expr)
      (line : ℕ) → IsOperated w place under (assigned_expr name op value)
      → low.lowered_assign l next name op value line
      ≡ low.lowered_to l.place (Assigned name op) line next (assigned_expr name op value)
      (thing_of l.place.environment name.text)
  lowered_plain l next name (Some op) value line h = refl
  lowered_plain l next name None (Number at number) line h = refl
  lowered_plain l next name None (Truth at truth) line h = refl
  lowered_plain l next name None (Coord at k) line h = refl
  lowered_plain l next name None (Named at it) line h = refl
  lowered_plain l next name None (Shifted at it shift) line h = refl
  lowered_plain l next name None (Around at it shift) line h = refl
  lowered_plain l next name None (Remap at it indices) line h = refl
  lowered_plain l next name None (Paren at inside) line h = refl
  lowered_plain l next name None (Neg at operand) line h = refl
  lowered_plain l next name None (Not at operand) line h = refl
  lowered_plain l next name None (Abs at operand) line h = refl
  lowered_plain l next name None (Pair at o left right) line h = refl
  lowered_plain l next name None (Reduce at operator over operand) line h = refl
  lowered_plain l next name None (Scan at operator along operand) line h = refl
  lowered_plain l next name None (Flood at source operand) line h = refl
  lowered_plain l next name None (Call at it actuals) line h = absurd h

-- ---- statements

module _ (world : World) (at : ℕ) (name : Name) (op : Option Op) (value : Expr) where
  abbrev run : Context → Store → Outcome
  run c store = mean.exec_form c world.turns at (Assign name op value) store

  abbrev made : Lowering → Next → Lowered
  made l next = low.lowered_form l next at (Assign name op value)

  module _ (sight : Sight) (w : Where) (next : Next) (now : Whole) (stands : Stands sight.spots w next)
      (like : IsLike world.tables sight.spots w next now
      (seen_store sight.spots w.numbers.arrays now) now) where
    abbrev place : Place
    place = seen_place sight w now

    abbrev store : Store
    store = seen_store sight.spots w.numbers.arrays now

    abbrev line : ℕ
    line = line_of w at

    abbrev expr : Expr
    expr = assigned_expr name op value

    -- what an assignment to a thing does
    abbrev ThingAgrees : Option Thing → Type 0
    ThingAgrees thing =
        (let own = low.lowered_to w (Assigned name op) line next expr thing in
        HasRoom world.tables next own
        → Agrees (IsLike world.tables sight.spots w next now) world.turns (expr_nodes value)
        (mean.assign_to place (Assigned name op) (option_map (seen_thing sight.spots) thing) expr line
        store) (does world.tables world.turns own.code now))

    of_form : (under : Option Slotted) → IsOperated w place under expr
        → ThingAgrees (thing_of w.environment name.text)
        → HasRoom world.tables next (made (lowering world w) next) → Agrees (IsLike world.tables sight.spots w next now) world.turns (expr_nodes value)
        (run (context world sight w now) store)
        (does world.tables world.turns (made (lowering world w) next).code now)
    of_form under operated h space =
        subst (λ (o : Outcome). Agrees (IsLike world.tables sight.spots w next now) world.turns (expr_nodes value) o
        (does world.tables world.turns (made (lowering world w) next).code now))
        (sym (assign_plain w place under (context world sight w now) name op value line store operated
        ∙ ap (λ (t : Option Thing). mean.assign_to place (Assigned name op) t expr line store)
        (thing_seen sight.spots w.environment.names name.text)))
        (subst (λ (x : Lowered). Agrees (IsLike world.tables sight.spots w next now) world.turns (expr_nodes value)
        (mean.assign_to place (Assigned name op)
        (option_map (seen_thing sight.spots) (thing_of w.environment name.text)) expr line store)
        (does world.tables world.turns x.code now))
        (sym (lowered_plain w place under (lowering world w) next name op value line operated))
        (h (subst (λ (x : Lowered). HasRoom world.tables next x)
        (lowered_plain w place under (lowering world w) next name op value line operated) space)))

    scalar_thing : IsOperated w place None expr → (thing : Option Thing)
        → thing_of w.environment name.text ≡ thing
        → IsTarget place.currents (Some 0) (option_map (seen_thing sight.spots) thing)
        → ThingAgrees thing
    scalar_thing operated (Some (Scalar q)) e t space =
        let k = slice_index_or (numbered sight.spots) q 0 in
        let below : q < length (numbered sight.spots) =
        known_thing (length (numbered sight.spots)) (length w.numbers.arrays)
        w.environment.names name.text (Scalar q) stands.known e in
        let found : slice_get (numbered sight.spots) q ≡ Some k =
        get_some (numbered sight.spots) q 0 below in
        let lt : k < next.scalars =
        (number_below 0 (numbered sight.spots) next.scalars q k stands.rises found).1 in
        let number : slice_get w.numbers.scalars q ≡ Some k =
        ap (λ (ks : List ℕ). slice_get ks q) (sym stands.numbers) ∙ found in
        at_number k number (omega (arith, lt, space.scalars)) found space
      where
        at_number : (k : ℕ) → slice_get w.numbers.scalars q ≡ Some k → k < world.tables.scalars
            → slice_get (numbered sight.spots) q ≡ Some k → ThingAgrees (Some (Scalar q))
        at_number k number lt found space =
            subst (λ (o : Option ℕ).
            (let own = low.lowered_scalar w line next (low.placed_in w (Assigned name op) expr) o in
            HasRoom world.tables next own
            → Agrees (IsLike world.tables sight.spots w next now) world.turns (expr_nodes value)
            (mean.assign_scalar place (Assigned name op) (place_of sight.spots q) expr line store)
            (does world.tables world.turns own.code now))) (sym number)
            (assigned world.tables world.turns sight w next now stands
            (let le : next.scalars ≤ world.tables.scalars = omega (arith, space.scalars) in le)
            (Assigned name op) line (expr_nodes value) q k expr
            (assigned_few name op value w line next (low.placed_in w (Assigned name op) expr).rank) operated
            found lt like) space
    scalar_thing operated (Some (ArrayAt q home)) e t space = absurd t
    scalar_thing operated (Some (Fixed number)) e t space = absurd t
    scalar_thing operated None e t space = absurd t

  pub scalar_goes : Goes world (IsScalarOperated name op value) run made (expr_nodes value)
  scalar_goes =
      anew_goes world (IsScalarOperated name op value) run made (expr_nodes value)
      (λ sight w next now stands served room like.
      of_form sight w next now stands like None served.operated
      (scalar_thing sight w next now stands like served.operated (thing_of w.environment name.text)
      refl (subst (λ (t : Option Thing). IsTarget (seen_place sight w now).currents (Some 0) t)
      (thing_seen sight.spots w.environment.names name.text) served.target)) room)

  module _ (sight : Sight) (w : Where) (next : Next) (now : Whole) (stands : Stands sight.spots w next)
      (like : IsLike world.tables sight.spots w next now
      (seen_store sight.spots w.numbers.arrays now) now)
      (served : IsArrayOperated name op value w (seen_place sight w now)) where
    array_thing : ThingAgrees sight w next now stands like
        (Some (ArrayAt served.target served.home))
    array_thing space =
        array_agrees world.tables world.turns sight w next now (Assigned name op) (line_of w at)
        served.target (expr_nodes value) (assigned_expr name op value)
        (assigned_few name op value w (line_of w at) next
        (low.placed_in w (Assigned name op) (assigned_expr name op value)).rank) stands
        (let le : next.scalars ≤ world.tables.scalars = omega (arith, space.scalars) in le) like served.current
        served.writable served.masked served.operated
        (room_phases world.tables next _ _ space)

    array_here : HasRoom world.tables next (made (lowering world w) next) → Agrees (IsLike world.tables sight.spots w next now) world.turns (expr_nodes value)
        (run (context world sight w now) (seen_store sight.spots w.numbers.arrays now))
        (does world.tables world.turns (made (lowering world w) next).code now)
    array_here space = by _ _ served.operated
      where
        thing : ThingAgrees sight w next now stands like (thing_of w.environment name.text)
        thing =
            subst (λ (t : Option Thing). ThingAgrees sight w next now stands like t) (sym served.named)
            array_thing

        by : (X : Type 0) (under : Option Slotted)
            → (X × IsOperated w (seen_place sight w now) under (assigned_expr name op value))
            ⊎ IsOperated w (seen_place sight w now) None (assigned_expr name op value)
            → Agrees (IsLike world.tables sight.spots w next now) world.turns (expr_nodes value)
            (run (context world sight w now) (seen_store sight.spots w.numbers.arrays now))
            (does world.tables world.turns (made (lowering world w) next).code now)
        by X under (inl h) = of_form sight w next now stands like under h.1 thing space
        by X under (inr h) = of_form sight w next now stands like None h thing space

  pub array_goes : Goes world (IsArrayOperated name op value) run made (expr_nodes value)
  array_goes =
      anew_goes world (IsArrayOperated name op value) run made (expr_nodes value)
      (λ sight w next now stands served room like.
      array_here sight w next now stands like served room)
