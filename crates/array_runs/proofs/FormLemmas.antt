-- The code of a statement that assigns an array goes as the statement does.
use Rattle.std.proofs.Common.{◌≡◌, refl, sym, ◌∙◌, ap, subst, ℕ, Option, Some, None}
use Rattle.std.specs.Option.{option_map}
use Rattle.zpl_nums.specs.declared.operators.Op.{Op}
use Rattle.zpl_region.specs.declared.regions.Region.{Region}
use Rattle.zpl_tree.specs.Syntax.{Name, Expr, Number, Truth, Coord, Named, Shifted, Around, Remap, Call, Paren, Neg, Not, Abs, Pair, Reduce, Scan, Flood, Assign}
use Rattle.zpl_names.specs.Sites.{Assigned, handed}
use Rattle.array_puts.specs.of_zpl_meaning.Store.{Store, Thing, ArrayAt, thing_of}
use Rattle.array_puts.specs.of_zpl_meaning.Context.{over_at, reach_of}
use Rattle.array_puts.specs.of_zpl_meaning.Points.{assigned_expr}
use Rattle.array_puts.specs.of_zpl_meaning.Outcome.{Outcome}
use Rattle.array_puts.specs.of_zpl_meaning.Statement as mean
use Rattle.array_puts.specs.of_zpl_meaning.Statement.{Context}
use Rattle.lowering_runs.specs.of_flat_form.Whole.{Whole}
use Rattle.lowering_runs.specs.of_zpl_lowering.Where.{Where, Next, line_of}
use Rattle.lowering_runs.specs.of_zpl_lowering.Lowered.{Lowered}
use Rattle.lowering_runs.specs.of_zpl_lowering.Statement as low
use Rattle.lowering_runs.specs.of_zpl_lowering.Statement.{Lowering}
use Rattle.lowering_runs.specs.Seen.{Sight, seen_place, seen_thing}
use Rattle.lowering_runs.specs.Run.{does}
use Rattle.lowering_runs.specs.Agrees.{Agrees}
use Rattle.lowering_runs.specs.Goes.{World, context, lowering}
use Rattle.lowering_runs.specs.Stands.{HasRoom, IsLike, Stands}
use Rattle.lowering_runs.proofs.FitLemmas.{room_here}
use Rattle.lowering_runs.proofs.ValueLemmas.{thing_seen}
use Rattle.array_runs.specs.Assigned.{IsArrayAssigned}
use Rattle.array_runs.specs.Elementwise.{IsElementwise}
use Rattle.array_runs.proofs.WholeLemmas.{array_agrees}

module _ (w : Where) (region : Region) where
  assign_plain : (context : Context) (name : Name) (op : Option Op) (value : Expr) (line : ℕ)
      (store : Store) → IsElementwise w region (assigned_expr name op value)
      → mean.assign context name op value line store
      ≡ mean.assign_to context.place (Assigned name op)
      (thing_of context.place.environment name.text) (assigned_expr name op value) line store
  assign_plain context name (Some op) value line store h = refl
  assign_plain context name None (Number at number) line store h = refl
  assign_plain context name None (Truth at truth) line store h = refl
  assign_plain context name None (Coord at k) line store h = refl
  assign_plain context name None (Named at it) line store h = refl
  assign_plain context name None (Shifted at it shift) line store h = refl
  assign_plain context name None (Around at it shift) line store h = refl
  assign_plain context name None (Remap at it indices) line store h = refl
  assign_plain context name None (Paren at inside) line store h = refl
  assign_plain context name None (Neg at operand) line store h = refl
  assign_plain context name None (Not at operand) line store h = refl
  assign_plain context name None (Abs at operand) line store h = refl
  assign_plain context name None (Pair at o left right) line store h = refl
  assign_plain context name None (Reduce at operator over operand) line store h = refl
  assign_plain context name None (Scan at operator along operand) line store h = refl
  assign_plain context name None (Flood at source operand) line store h = refl
  assign_plain context name None (Call at it actuals) line store h = absurd h

  lowered_plain : (l : Lowering) (next : Next) (name : Name) (op : Option Op) (value : Expr)
      (line : ℕ) → IsElementwise w region (assigned_expr name op value)
      → low.lowered_assign l next name op value line
      ≡ low.lowered_to l.place (Assigned name op) line next (assigned_expr name op value)
      (thing_of l.place.environment name.text)
  lowered_plain l next name (Some op) value line h = refl
  lowered_plain l next name None (Number at number) line h = refl
  lowered_plain l next name None (Truth at truth) line h = refl
  lowered_plain l next name None (Coord at k) line h = refl
  lowered_plain l next name None (Named at it) line h = refl
  lowered_plain l next name None (Shifted at it shift) line h = refl
  lowered_plain l next name None (Around at it shift) line h = refl
  lowered_plain l next name None (Remap at it indices) line h = refl
  lowered_plain l next name None (Paren at inside) line h = refl
  lowered_plain l next name None (Neg at operand) line h = refl
  lowered_plain l next name None (Not at operand) line h = refl
  lowered_plain l next name None (Abs at operand) line h = refl
  lowered_plain l next name None (Pair at o left right) line h = refl
  lowered_plain l next name None (Reduce at operator over operand) line h = refl
  lowered_plain l next name None (Scan at operator along operand) line h = refl
  lowered_plain l next name None (Flood at source operand) line h = refl
  lowered_plain l next name None (Call at it actuals) line h = absurd h

pub assign_goes : (world : World) (sight : Sight) (w : Where) (next : Next) (start : Whole)
    (at : ℕ) (name : Name) (op : Option Op) (value : Expr) → Stands sight.spots w next
    → IsArrayAssigned w (seen_place sight w start) name op value
    → HasRoom world.tables next (low.lowered_form (lowering world w) next at (Assign name op value))
    → (store : Store) (now : Whole) → IsLike world.tables sight.spots w next start store now
    → Agrees (IsLike world.tables sight.spots w next start) world.turns 0
    (mean.exec_form (context world sight w start) world.turns at (Assign name op value) store)
    (does world.tables world.turns
    (low.lowered_form (lowering world w) next at (Assign name op value)).code now)
assign_goes world sight w next start at name op value stands served room store now like =
    let Like = IsLike world.tables sight.spots w next start in
    let p = seen_place sight w start in
    let line = line_of w at in
    let role = Assigned name op in
    let expr = assigned_expr name op value in
    let region = (over_at p.currents (handed (reach_of p) role)).region in
    let here = room_here world.tables next
    (low.lowered_form (lowering world w) next at (Assign name op value)) room in
    subst (λ (o : Outcome). Agrees Like world.turns 0 o
    (does world.tables world.turns
    (low.lowered_assign (lowering world w) next name op value line).code now))
    (sym (assign_plain w region (context world sight w start) name op value line store
    served.is.elementwise))
    (subst (λ (x : Lowered). Agrees Like world.turns 0
    (mean.assign_to p role (thing_of p.environment name.text) expr line store)
    (does world.tables world.turns x.code now))
    (sym (lowered_plain w region (lowering world w) next name op value line served.is.elementwise))
    (subst (λ (t : Option Thing). Agrees Like world.turns 0
    (mean.assign_to p role t expr line store)
    (does world.tables world.turns
    (low.lowered_to w role line next expr (thing_of w.environment name.text)).code now))
    (sym (thing_seen sight.spots w.environment.names name.text
    ∙ ap (option_map (seen_thing sight.spots)) served.named))
    (subst (λ (t : Option Thing). Agrees Like world.turns 0
    (mean.assign_to p role (Some (ArrayAt served.target served.home)) expr line store)
    (does world.tables world.turns (low.lowered_to w role line next expr t).code now))
    (sym served.named)
    (array_agrees world.tables world.turns sight w next start role line served.target expr stands
    here served.is store now like))))
