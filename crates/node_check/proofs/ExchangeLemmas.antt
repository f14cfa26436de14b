-- What starts and finishes of exchanges leave.
use Rattle.std.proofs.Common.{◌≡◌, ◌<◌, ℕ, Bool, true, false, refl, sym, ◌∙◌, ap, subst, ℤ, List, [], ◌∷◌, length}
use Rattle.std.proofs.Common.{Option, Some, None}
use Rattle.std.specs.Prelude.{drop, option_and_then, slice_get, take, unwrap_or}
use Rattle.std.specs.Option.{option_map}
use Rattle.zpl_arrays.specs.Array.{Array}
use Rattle.node_form.specs.declared.arrays.Item.{Item}
use Rattle.node_form.specs.declared.instructions.Instr.{Instr}
use Rattle.node_form.specs.declared.instructions.Instr.TheVariants as instr
use Rattle.node_form.specs.declared.tables.Tables.{Tables}
use Rattle.grid_meaning.specs.Collective.{Collective}
use Rattle.grid_meaning.specs.Exchange as exchange
use Rattle.grid_meaning.specs.Exchange.{places_of, words_written}
use Rattle.grid_meaning.specs.Local.{Local, processors}
use Rattle.grid_meaning.specs.Place.{with_values}
use Rattle.row_orders.specs.Rows.{Flight, alone_where, taken_where, taking}
use Rattle.row_runs.specs.Run.{Does, Goes, Step}
use Rattle.plan_meaning.specs.Abreast.{Abreast, Share, go_where, locals_of, share_of}
use Rattle.plan_meaning.specs.Act.{found, row_does}
use Rattle.plan_meaning.specs.Messages.{finished, finished_in, from_of, middle_of, next_or}
use Rattle.plan_meaning.specs.Messages.{next_with, started, starts_alone}
use Rattle.plan_meaning.proofs.ThereLemmas.{either_share}
use Rattle.plan_passes.proofs.StartLemmas.{start_row, started_is}
use Rattle.plan_passes.proofs.TakenLemmas.{IfStores, values_kept}
use Rattle.plan_passes.proofs.WriteLemmas.{shape}
use Rattle.node_check.proofs.FrameLemmas.{Leaves}

goes_where : (b : Bool) (shown bytes : List ℕ) (next behind : Abreast)
    → go_where b shown next ≡ Goes bytes behind → next ≡ behind
goes_where true shown bytes next behind e = cc
goes_where false shown bytes next behind e = cc

does_on : (step : Step Abreast) (bytes : List ℕ) (after : Abreast)
    → Does step ≡ Does (Goes bytes after) → step ≡ Goes bytes after
does_on step bytes after e = cc

-- ---- the slots, and which places an array has
record ShareLeft (one other : Share) : Type 0 where
  slots : other.slots ≡ one.slots
  shapes : (a : ℕ) → shape other.stores a ≡ shape one.stores a

leaves_all : (code : Tables) (row : Instr) (all next : Abreast)
    → ((p : ℕ) → p < processors code → (all.shares p).slots ≡ (all.shares 0).slots)
    → ((p : ℕ) → ShareLeft (all.shares p) (next.shares p)) → Leaves code row all next
leaves_all code row all next alike left = record {
  slots = λ slot misses. ap (λ slots. slice_get slots slot) (left 0).slots;
  places = λ p array misses. (left p).shapes array;
  alike = λ p below. (left p).slots ∙ alike p below ∙ sym (left 0).slots;
}

module _ (code : Tables) (links : Option ℕ) (n number : ℕ) (next : Option Instr)
    (all after : Abreast) (bytes : List ℕ)
    (alike : (p : ℕ) → p < processors code → (all.shares p).slots ≡ (all.shares 0).slots) where
  -- ---- a start
  pub start_leaves : row_does code links n (instr.Start number) next all ≡ Does (Goes bytes after)
      → Leaves code (instr.Start number) all after
  start_leaves e = by (slice_get code.exchanges number) (does_on _ bytes after e)
    where
      by : (o : Option (List Item))
          → found o (λ items. started code (start_row code number items) all links number)
          ≡ Goes bytes after → Leaves code (instr.Start number) all after
      by None e = cc
      by (Some items) e =
          let same = goes_where _ _ bytes _ after (sym (started_is code number items all links) ∙ e) in
          leaves_all code (instr.Start number) all after alike (λ p.
          let share : all.shares p ≡ after.shares p = ap (λ (all : Abreast). all.shares p) same in
          record {
            slots = sym (ap (λ (s : Share). s.slots) share);
            shapes = λ a. sym (ap (λ (s : Share). shape s.stores a) share);
          })

  -- ---- a finish
  module _ (items : List Item) where
    abbrev finish_row : ℕ → Collective
    finish_row p = exchange.finished code p number items

    abbrev IfShapes : List Array → Option (List Array) → Type 0
    IfShapes s None = Unit {0}
    IfShapes s (Some r) = (a : ℕ) → shape r a ≡ shape s a

    then_shapes : (s m : List Array) (o : Option (List Array)) → ((a : ℕ) → shape m a ≡ shape s a)
        → IfShapes m o → IfShapes s o
    then_shapes s m None one more = tt
    then_shapes s m (Some r) one more = λ a. more a ∙ one a

    written_shapes : (local : Local) (from to : ℕ) (items : List Item) (words : List ℤ)
        (stores : List Array) → IfShapes stores (words_written code local from to items words stores)
    written_shapes local from to [] words stores = λ a. refl
    written_shapes local from to (item ∷ items) words stores =
        by (with_values item.array (places_of code local from to item)
        (take (length (places_of code local from to item)) words) stores)
        (values_kept item.array (places_of code local from to item)
        (take (length (places_of code local from to item)) words) stores)
        (λ m. written_shapes local from to items
        (drop (length (places_of code local from to item)) words) m)
      where
        by : (o : Option (List Array)) → IfStores item.array stores o
            → ((m : List Array) → IfShapes m (words_written code local from to items
            (drop (length (places_of code local from to item)) words) m))
            → IfShapes stores (option_and_then (words_written code local from to items
            (drop (length (places_of code local from to item)) words)) o)
        by None kept more = tt
        by (Some m) kept more =
            then_shapes stores m (words_written code local from to items
            (drop (length (places_of code local from to item)) words) m) kept.shapes (more m)

    abbrev LocalLeft : Local → Local → Type 0
    LocalLeft one other = ShareLeft (share_of one) (share_of other)

    abbrev IfLeft : Local → Option Local → Type 0
    IfLeft local None = Unit {0}
    IfLeft local (Some next) = LocalLeft local next

    same_left : (local : Local) → LocalLeft local local
    same_left local = record { slots = refl; shapes = λ a. refl }

    then_left : (local next : Local) (o : Option Local) → LocalLeft local next → IfLeft next o
        → IfLeft local o
    then_left local next None one more = tt
    then_left local next (Some last) one more = record {
      slots = more.slots ∙ one.slots;
      shapes = λ a. more.shapes a ∙ one.shapes a;
    }

    module _ (p : ℕ) where
      one_taken : (local : Local) (q : ℕ) (words : List ℤ) (b : Bool)
          → IfLeft local (taken_where b ((finish_row p).taken local q words))
      one_taken local q words false = tt
      one_taken local q words true =
          by (words_written code local q p items words local.stores)
          (written_shapes local q p items words local.stores)
        where
          by : (o : Option (List Array)) → IfShapes local.stores o
              → IfLeft local (option_map (λ stores. record local { stores = stores }) o)
          by None same = tt
          by (Some stores) same = record { slots = refl; shapes = same }

      all_taken : (words : ℕ → List ℤ) (local : Local) (from : List ℕ)
          → IfLeft local (taking (finish_row p) words local from)
      all_taken words local [] = same_left local
      all_taken words local (q ∷ from) =
          by (taken_where ((finish_row p).awaits local q (length (words q)))
          ((finish_row p).taken local q (words q)))
          (one_taken local q (words q) ((finish_row p).awaits local q (length (words q))))
          (λ next. all_taken words next from)
        where
          by : (o : Option Local) → IfLeft local o
              → ((next : Local) → IfLeft next (taking (finish_row p) words next from))
              → IfLeft local (option_and_then (λ next. taking (finish_row p) words next from) o)
          by None one more = tt
          by (Some next) one more =
              then_left local next (taking (finish_row p) words next from) one (more next)

      middle_same : (b : Bool) (local : Local)
          → unwrap_or (alone_where b (finish_row p) local) local ≡ local
      middle_same true local = refl
      middle_same false local = refl

    finish_left : (heard : ℕ → ℕ → List ℤ) (flights : List Flight) (p : ℕ)
        → ShareLeft (all.shares p)
        ((next_with code finish_row (locals_of all) heard flights).shares p)
    finish_left heard flights p =
        subst (λ local. ShareLeft (share_of local)
        ((next_with code finish_row (locals_of all) heard flights).shares p))
        (middle_same p (starts_alone ((finish_row p).stages (locals_of all p))) (locals_of all p))
        (by (taking (finish_row p) (λ q. heard q p) (middle_of code finish_row (locals_of all) p)
        (from_of code finish_row (locals_of all) p)) (middle_of code finish_row (locals_of all) p)
        (all_taken p (λ q. heard q p) (middle_of code finish_row (locals_of all) p)
        (from_of code finish_row (locals_of all) p)))
      where
        by : (o : Option Local) (middle : Local) → IfLeft middle o
            → ShareLeft (share_of middle)
            (share_of (next_or (unwrap_or o middle) ((finish_row p).last (unwrap_or o middle))))
        by None middle left = record { slots = refl; shapes = λ a. refl }
        by (Some next) middle left = record { slots = left.slots; shapes = left.shapes }

  pub finish_leaves_all : row_does code links n (instr.Finish number) next all ≡ Does (Goes bytes after)
      → Leaves code (instr.Finish number) all after
  finish_leaves_all e = by (slice_get code.exchanges number) (does_on _ bytes after e)
    where
      in_flights : (items : List Item) (flights : List Flight)
          → finished_in code (finish_row items) all number flights ≡ Goes bytes after
          → Leaves code (instr.Finish number) all after
      in_flights items [] e = cc
      in_flights items (flight ∷ flights) e =
          let same = goes_where _ _ bytes _ after e in
          leaves_all code (instr.Finish number) all after alike (λ p.
          subst (λ (next : Abreast). ShareLeft (all.shares p) (next.shares p)) same
          (either_share (ShareLeft (all.shares p)) code all
          (next_with code (finish_row items) (locals_of all) flight.words flights) p
          (record { slots = refl; shapes = λ a. refl })
          (finish_left items flight.words flights p)))

      by : (o : Option (List Item))
          → found o (λ items. finished code (λ p. exchange.finished code p number items) all number)
          ≡ Goes bytes after → Leaves code (instr.Finish number) all after
      by None e = cc
      by (Some items) e = in_flights items all.flights e
