-- The states that a processor may have are kept by its moves.
use Rattle.std.proofs.Common.{◌≡◌, ◌≢◌, inl, inr, ℕ, zero, suc, ◌+◌, ◌-◌, ◌*◌, ◌%◌, ◌<◌, ◌≤◌, ◌↔◌, Bool, true, false, List, [], ◌∷◌, ◌++◌, length, map, take, drop, replicate, refl, sym, ap, ◌∙◌, subst, cond, ◌==◌, ℤ, pos, arith, append_assoc, length-append, length-take}
use Rattle.std.specs.Prelude.{fold, nat_lt, Option, Some, None, IsSome, All, slice_get, slice_set, option_and_then, IsTrue}
use Rattle.std.specs.List.{AllZip, Any, filter_map}
use Rattle.std.proofs.lemmas.Bool.Decides.{nat_tests}
use Rattle.std.specs.Option.{IfSome, IsNone, IsSomeAnd, option_map}
use Rattle.std.proofs.lemmas.List.Sums.{fold-append}
use Rattle.grid_layout.specs.of_zpl_region.Hull.{all_from}
use Rattle.std.proofs.lemmas.List.{length-map, length-replicate, take-append-drop}
use Rattle.std.proofs.lemmas.List.Elements.{All-nil, All-cons, All-append, All-head, All-tail, All-replicate}
use Rattle.std.proofs.Math.ListN.{length-set}
use Rattle.std.proofs.lemmas.Option.{get_or_from_slice_get, slice_get_within}
use Rattle.node_form.specs.of_zpl_nums.declared.ends.End.{End}
use Rattle.node_form.specs.of_zpl_nums.declared.ends.Border.{Border}
use Rattle.node_form.specs.of_zpl_nums.declared.ends.TrapKind.{TrapKind}
use Rattle.grid_layout.specs.of_zpl_region.declared.dims.Dim.{Dim}
use Rattle.grid_layout.specs.of_zpl_region.declared.dims.Dim.TheVariants as dim
use Rattle.grid_layout.specs.of_zpl_region.declared.regions.Region.{Region}
use Rattle.grid_layout.specs.of_zpl_region.Dim.{HasStep}
use Rattle.grid_layout.specs.of_zpl_region.Ends.{has_none}
use Rattle.grid_layout.specs.of_zpl_region.Region.{components, members, padding, IsPadded, IsWithinLimit}
use Rattle.grid_layout.specs.of_zpl_region.Tests.{is_within_limit}
use Rattle.grid_links.specs.declared.messages.Message.{Message}
use Rattle.grid_links.specs.Machine.{Ended, Blocked, Goes, Awaits, Takes, Refuses}
use Rattle.node_form.specs.declared.tables.Tables.{Tables}
use Rattle.node_form.specs.declared.instructions.Instr.{Instr}
use Rattle.node_form.specs.declared.instructions.Instr.TheVariants as instr
use Rattle.node_form.specs.declared.members.Member.{Member}
use Rattle.node_form.specs.declared.arrays.ArrayRow.{ArrayRow}
use Rattle.node_form.specs.declared.arrays.Item.{Item}
use Rattle.node_form.specs.Group.{Ran, Runs, Through, Again, Divided, Unheld}
use Rattle.grid_meaning.proofs.LoopLemmas.{IsKeptRan, kept_ran}
use Rattle.grid_meaning.proofs.RemapLemmas.{IfApart, IsApart, IsAsked, IsAsked-request, IsOther, IsPart-later, IsPart-next, IsRequest-asked, asked_by, length-others, long_stages, parts_apart, same_stages, values_apart}
use Rattle.grid_meaning.proofs.RoomLemmas.{is_room, room_steps}
use Rattle.node_form.specs.Control.{Registers, Control, Steps, Leaps, Ends, Outside, control, with_computed, with_row, checked, limited, branched}
use Rattle.node_form.specs.Control.{part_dim, part_dims, region_of, register_value, formed_by, with_slot}
use Rattle.node_form.specs.declared.instructions.RegionForm.{RegionForm}
use Rattle.node_form.specs.declared.instructions.RegionForm.TheVariants.{Of, Inside, At, By}
use Rattle.node_form.specs.of_zpl_nums.Integer.{is_true}
use Rattle.node_form.specs.of_zpl_nums.declared.folds.Fold.{Fold}
use Rattle.grid_meaning.proofs.RegionLemmas.{HasStep-outside, HasStep-inside, HasStep-moved, HasStep-strided, steps-each, padded-each, padded-behind, length-each, no_steps, places_steps}
use Rattle.node_form.specs.of_zpl_arrays.Array.{Array, array_of, has_place, updated}
use Rattle.grid_layout.specs.Layout.{laid_out}
use Rattle.grid_meaning.specs.Stored.{arrangement_of, no_places}
use Rattle.node_form.specs.declared.instructions.DimRow.{DimRow}
use Rattle.node_form.specs.declared.instructions.DimRow.TheVariants as part
use Rattle.node_form.specs.Value.{Computed, Gives, Divides, Lacks, and_then, mapped, read}
use Rattle.std.proofs.lemmas.Int.{ints}
use Rattle.node_form.specs.Fits.{Fits, FitsArray, FitsGroup, FitsInstr, FitsRemap, IsIndexArray, IsRank}
use Rattle.grid_meaning.specs.Action.{Action, Feeding, WrongTag, WrongLength, ended_as, goes_on, prints}
use Rattle.grid_meaning.specs.Collective.{Collective, Stage, Alone, Sends, TakesFrom, Last, Use, AtOnce, InLast, Asking, Kin, to_parent, agreeing_stages, star, tree, others, others_where, decided, keeping, kept_with, voted, folded}
use Rattle.grid_meaning.specs.Delivery.{Delivery, delivered, each_word, edged, edging, flooded, flooding, parted, parting, combined_into, with_combined, with_words}
use Rattle.grid_meaning.specs.Exchange.{started, finished, places_of, word_count, words_written}
use Rattle.grid_meaning.specs.Gather.{gathered, gather_last, gather_stages, prints_gathered}
use Rattle.grid_meaning.specs.Loop.{access_at, after_members, flagged, looped, next_index, point_of, turn_at_index, with_point}
use Rattle.grid_meaning.specs.Owner.{region_in, tuples_of}
use Rattle.grid_meaning.specs.Place.{held_with, own_part, value_at, values_at, where_held, with_value, with_values}
use Rattle.grid_meaning.specs.Remap.{Want, is_asking, owns_all, remap_own, remapped, request_taken, some_wants, wants, wants_at_once, written}
use Rattle.grid_meaning.specs.Scan.{line_dim, line_heads, line_of, line_totals, scan_done, scan_last, scan_values, scanned_row, with_line, with_lines}
use Rattle.grid_meaning.specs.Local.{Local, left, processors, start_local, start_places}
use Rattle.grid_meaning.specs.Room.{cleared, room_of, roomed, with_store, zeros_at}
use Rattle.grid_meaning.specs.Rows.{collective}
use Rattle.grid_meaning.specs.Turn.{act, act_at, act_together, fed_together, fed, unless_ended, act_in, fed_at, controlled, fed_by, fed_in, sends, steps_on, takes, prints_text, prints_value, registers_of, with_registers}
use Rattle.grid_meaning.specs.State.{ArePlaces, NextHasThree, HasThree, placed, ascending, IsSlot, IsStore, HasParts, IsLocal, IsOutside, IsFresh, IsLooping, IsInLoop, IsIn, IsAt, IsRequest, KeepsWords, IsPart, Stands, senders}

-- ---- lists side by side
module _ {A B : Type 0} (R : A → B → Type 0) where
  AllZip-get : (xs : List A) (ys : List B) (i : ℕ) (x : A) → AllZip R xs ys → slice_get xs i ≡ Some x
      → (y : B) × (slice_get ys i ≡ Some y) × R x y
  AllZip-get [] ys i x all is = cc
  AllZip-get (x' ∷ xs) [] i x all is = absurd all
  AllZip-get (x' ∷ xs) (y ∷ ys) zero x all is =
      let same : x' ≡ x = cc in
      (y, refl, subst (λ z. R z y) same all.0)
  AllZip-get (x' ∷ xs) (y ∷ ys) (suc i) x all is = AllZip-get xs ys i x all.1 is

  AllZip-back : (xs : List A) (ys : List B) (i : ℕ) (y : B) → AllZip R xs ys → slice_get ys i ≡ Some y
      → (x : A) × (slice_get xs i ≡ Some x) × R x y
  AllZip-back [] [] i y all is = cc
  AllZip-back [] (y' ∷ ys) i y all is = absurd all
  AllZip-back (x ∷ xs) [] i y all is = cc
  AllZip-back (x ∷ xs) (y' ∷ ys) zero y all is =
      let same : y' ≡ y = cc in
      (x, refl, subst (R x) same all.0)
  AllZip-back (x ∷ xs) (y' ∷ ys) (suc i) y all is = AllZip-back xs ys i y all.1 is

  AllZip-set : (xs : List A) (ys : List B) (i : ℕ) (x : A) (y : B) → AllZip R xs ys → slice_get xs i ≡ Some x → R x y
      → AllZip R xs (slice_set ys i y)
  AllZip-set [] ys i x y all is r = cc
  AllZip-set (x' ∷ xs) [] i x y all is r = absurd all
  AllZip-set (x' ∷ xs) (y' ∷ ys) zero x y all is r =
      let same : x ≡ x' = cc in
      (subst (λ z. R z y) same r, all.1)
  AllZip-set (x' ∷ xs) (y' ∷ ys) (suc i) x y all is r = (all.0, AllZip-set xs ys i x y all.1 is r)

-- ---- stages: the last one stands at the end alone
abbrev IsNotLast : Stage → Type 0
IsNotLast Alone = Unit {0}
IsNotLast (Sends to) = Unit {0}
IsNotLast (TakesFrom from) = Unit {0}
IsNotLast Last = ⊥

record EndsOnce (stages : List Stage) : Type 0 where
  front : List Stage
  is : stages ≡ front ++ Last ∷ []
  before : All IsNotLast front

EndsOnce-last : EndsOnce (Last ∷ [])
EndsOnce-last = record { front = []; is = refl; before = All-nil IsNotLast }

EndsOnce-cons : (stage : Stage) (stages : List Stage) → IsNotLast stage → EndsOnce stages → EndsOnce (stage ∷ stages)
EndsOnce-cons stage stages not_last ends = record {
  front = stage ∷ ends.front;
  is = ap (λ rest. stage ∷ rest) ends.is;
  before = All-cons IsNotLast stage ends.front not_last ends.before;
}

EndsOnce-sends : {A : Type 0} (to : A → ℕ) (list : List A) (stages : List Stage) → EndsOnce stages
    → EndsOnce (map (λ a. Sends (to a)) list ++ stages)
EndsOnce-sends to [] stages ends = ends
EndsOnce-sends to (a ∷ list) stages ends = EndsOnce-cons (Sends (to a)) _ tt (EndsOnce-sends to list stages ends)

EndsOnce-takes : (list : List ℕ) (stages : List Stage) → EndsOnce stages → EndsOnce (map TakesFrom list ++ stages)
EndsOnce-takes [] stages ends = ends
EndsOnce-takes (a ∷ list) stages ends = EndsOnce-cons (TakesFrom a) _ tt (EndsOnce-takes list stages ends)

EndsOnce-parent : (parent : Option ℕ) (stages : List Stage) → EndsOnce stages → EndsOnce (to_parent parent ++ stages)
EndsOnce-parent None stages ends = ends
EndsOnce-parent (Some q) stages ends = EndsOnce-cons (Sends q) _ tt (EndsOnce-cons (TakesFrom q) _ tt ends)

begins : (stages : List Stage) → EndsOnce stages → 0 < length stages
begins stages ends = omega (arith, ap length ends.is, length-append ends.front (Last ∷ []))

goes_further : (front : List Stage) (i : ℕ) (stage : Stage) → All IsNotLast front
    → slice_get (front ++ Last ∷ []) i ≡ Some stage → IsNotLast stage → i + 1 < length (front ++ Last ∷ [])
goes_further [] zero stage before is not_last = let same : Last ≡ stage = cc in absurd (subst IsNotLast (sym same) not_last)
goes_further [] (suc i) stage before is not_last = cc
goes_further (first ∷ front) zero stage before is not_last = omega (arith, length-append front (Last ∷ []))
goes_further (first ∷ front) (suc i) stage before is not_last =
    let rest = goes_further front i stage (All-tail IsNotLast first front before) is not_last in
    omega arith

more_stages : (stages : List Stage) (i : ℕ) (stage : Stage) → EndsOnce stages → slice_get stages i ≡ Some stage
    → IsNotLast stage → i + 1 < length stages
more_stages stages i stage ends is not_last =
    subst (λ s. i + 1 < length s) (sym ends.is)
    (goes_further ends.front i stage ends.before (subst (λ s. slice_get s i ≡ Some stage) ends.is is) not_last)

-- what was taken in one turn more
senders-more : (stages : List Stage) (i : ℕ) (stage : Stage) → slice_get stages i ≡ Some stage
    → senders (take (i + 1) stages) ≡ senders (take i stages) ++ senders (stage ∷ [])
senders-more [] i stage is = cc
senders-more (first ∷ stages) zero stage is = let same : first ≡ stage = cc in ap (λ s. senders (s ∷ [])) same
senders-more (first ∷ stages) (suc i) stage is =
    let e : suc i + 1 ≡ suc (i + 1) = omega arith in
    ap (λ n. senders (take n (first ∷ stages))) e
    ∙ (further first (take (i + 1) stages)
    ∙ (ap (λ list. senders (first ∷ []) ++ list) (senders-more stages i stage is)
    ∙ (sym (append_assoc (senders (first ∷ [])) (senders (take i stages)) (senders (stage ∷ [])))
    ∙ ap (λ list. list ++ senders (stage ∷ [])) (sym (further first (take i stages))))))
  where
    further : (one : Stage) (list : List Stage) → senders (one ∷ list) ≡ senders (one ∷ []) ++ senders list
    further Alone list = refl
    further (Sends to) list = refl
    further (TakesFrom from) list = refl
    further Last list = refl

-- ---- senders in ascending order
ascending-more : (front rest : List ℕ) → ascending (front ++ rest) ≡ fold placed (ascending front) rest
ascending-more front rest = fold-append placed [] front rest

-- an entry is put where its sender is
senders-kept : (from : ℕ) (words : List ℤ) (kept : List (ℕ × List ℤ))
    → map (λ entry. entry.0) (kept_with from words kept) ≡ placed (map (λ entry. entry.0) kept) from
senders-kept from words [] = refl
senders-kept from words (entry ∷ kept) = by (nat_lt from entry.0) (senders-kept from words kept)
  where
    by : (before : Bool) → map (λ entry. entry.0) (kept_with from words kept) ≡ placed (map (λ entry. entry.0) kept) from → map (λ (e : ℕ × List ℤ). e.0) (cond before ((from, words) ∷ (entry ∷ kept)) (entry ∷ kept_with from words kept))
        ≡ cond before (from ∷ (entry.0 ∷ map (λ (e : ℕ × List ℤ). e.0) kept)) (entry.0 ∷ placed (map (λ (e : ℕ × List ℤ). e.0) kept) from)
    by true rest = refl
    by false rest = ap (λ list. entry.0 ∷ list) rest

All-kept : (P : ℕ × List ℤ → Type 0) (from : ℕ) (words : List ℤ) (kept : List (ℕ × List ℤ)) → P (from, words)
    → All P kept → All P (kept_with from words kept)
All-kept P from words [] one all = All-cons P (from, words) [] one all
All-kept P from words (entry ∷ kept) one all =
    by (nat_lt from entry.0) (All-kept P from words kept one (All-tail P entry kept all))
  where
    by : (before : Bool) → All P (kept_with from words kept) → All P (cond before ((from, words) ∷ (entry ∷ kept)) (entry ∷ kept_with from words kept))
    by true rest = All-cons P (from, words) (entry ∷ kept) one all
    by false rest = All-cons P entry (kept_with from words kept) (All-head P entry kept all) rest

-- ---- the stages of each row end so
module _ (code : Tables) (p : ℕ) where
  EndsOnce-delivered : (to from : List ℕ) → EndsOnce (Alone ∷ (map Sends to ++ (map TakesFrom from ++ Last ∷ [])))
  EndsOnce-delivered to from =
      EndsOnce-cons Alone _ tt (EndsOnce-sends (λ q. q) to _ (EndsOnce-takes from _ EndsOnce-last))

  EndsOnce-agreeing : (kin : Kin) → EndsOnce (agreeing_stages kin)
  EndsOnce-agreeing kin =
      EndsOnce-takes kin.children _
      (EndsOnce-parent kin.parent _ (EndsOnce-sends (λ q. q) kin.children _ EndsOnce-last))

  EndsOnce-started : (exchange : ℕ) (local : Local) (found : Option (List Item)) (c : Collective)
      → option_map (started code p exchange) found ≡ Some c → EndsOnce (c.stages local)
  EndsOnce-started exchange local None c is = cc
  EndsOnce-started exchange local (Some items) c is =
      let same : started code p exchange items ≡ c = cc in
      subst (λ row. EndsOnce (row.stages local)) same
      (EndsOnce-sends (λ q. q) (others_where code p (word_count code local items p)) _ EndsOnce-last)

  EndsOnce-finished : (exchange : ℕ) (local : Local) (found : Option (List Item)) (c : Collective)
      → option_map (finished code p exchange) found ≡ Some c → EndsOnce (c.stages local)
  EndsOnce-finished exchange local None c is = cc
  EndsOnce-finished exchange local (Some items) c is =
      let same : finished code p exchange items ≡ c = cc in
      subst (λ row. EndsOnce (row.stages local)) same
      (EndsOnce-takes (others_where code p (λ q. word_count code local items q p)) _ EndsOnce-last)

  EndsOnce-gather : (q : ℕ) (region : Region) → EndsOnce (gather_stages code q region)
  EndsOnce-gather zero region =
      EndsOnce-takes (others_where code 0 (λ q. length (tuples_of code q region))) _ EndsOnce-last
  EndsOnce-gather (suc q) region = by (length (tuples_of code (suc q) region) == 0)
    where
      by : (none : Bool) → EndsOnce (cond none (Last ∷ []) (Sends 0 ∷ Last ∷ []))
      by true = EndsOnce-last
      by false = EndsOnce-cons (Sends 0) _ tt EndsOnce-last

  EndsOnce-remapped : (array slot from : ℕ) (parts : List ℕ) (local : Local) (found : Option ArrayRow) (c : Collective)
      → option_map (remapped code p array slot from parts) found ≡ Some c → EndsOnce (c.stages local)
  EndsOnce-remapped array slot from parts local None c is = cc
  EndsOnce-remapped array slot from parts local (Some row) c is =
      let same : remapped code p array slot from parts row ≡ c = cc in
      subst (λ row. EndsOnce (row.stages local)) same
      (EndsOnce-cons Alone _ tt
      (EndsOnce-sends (λ q. q) (others code p) _
      (EndsOnce-takes (others code p) _
      (EndsOnce-sends (λ entry. entry.0) local.kept _
      (EndsOnce-takes _ _ EndsOnce-last)))))

  EndsOnce-row : (row : Instr) (c : Collective) (local : Local) → collective code p row ≡ Some c
      → EndsOnce (c.stages local)
  EndsOnce-row (instr.Start exchange) c local is = EndsOnce-started exchange local (slice_get code.exchanges exchange) c is
  EndsOnce-row (instr.Finish exchange) c local is = EndsOnce-finished exchange local (slice_get code.exchanges exchange) c is
  EndsOnce-row (instr.Edge kind array slot shift) c local is =
      let same : edged code p kind array slot shift ≡ c = cc in
      subst (λ row. EndsOnce (row.stages local)) same (EndsOnce-delivered _ _)
  EndsOnce-row (instr.Flood array target from source) c local is =
      let same : flooded code p array target from source ≡ c = cc in
      subst (λ row. EndsOnce (row.stages local)) same (EndsOnce-delivered _ _)
  EndsOnce-row (instr.Part array target f from source) c local is =
      let same : parted code p array target f from source ≡ c = cc in
      subst (λ row. EndsOnce (row.stages local)) same (EndsOnce-delivered _ _)
  EndsOnce-row (instr.Scan array slot f along from mask) c local is =
      let same : scanned_row code p f along from mask array slot ≡ c = cc in
      subst (λ row. EndsOnce (row.stages local)) same
      (EndsOnce-sends (λ q. q) _ _ (EndsOnce-takes _ _ EndsOnce-last))
  EndsOnce-row (instr.Gather truth array slot) c local is =
      let same : gathered code p truth array slot ≡ c = cc in
      subst (λ row. EndsOnce (row.stages local)) same (EndsOnce-gather p (region_in local slot))
  EndsOnce-row (instr.Remap array slot from parts) c local is =
      EndsOnce-remapped array slot from _ local (slice_get code.arrays from) c is
  EndsOnce-row (instr.Vote group) c local is =
      let same : voted code (star code p) group ≡ c = cc in
      subst (λ row. EndsOnce (row.stages local)) same (EndsOnce-agreeing (star code p))
  EndsOnce-row (instr.TreeVote group) c local is =
      let same : voted code (tree code p) group ≡ c = cc in
      subst (λ row. EndsOnce (row.stages local)) same (EndsOnce-agreeing (tree code p))
  EndsOnce-row (instr.Fold scalar f) c local is =
      let same : folded (star code p) scalar f ≡ c = cc in
      subst (λ row. EndsOnce (row.stages local)) same (EndsOnce-agreeing (star code p))
  EndsOnce-row (instr.TreeFold scalar f) c local is =
      let same : folded (tree code p) scalar f ≡ c = cc in
      subst (λ row. EndsOnce (row.stages local)) same (EndsOnce-agreeing (tree code p))
  EndsOnce-row row c local is = cc

-- ---- a row that is begun
KeepsWords-fresh : (code : Tables) (p : ℕ) (kind : Use) (row : Collective) (local : Local) → IsFresh local
    → KeepsWords code p kind row local
KeepsWords-fresh code p AtOnce row local fresh = fresh.kept
KeepsWords-fresh code p InLast row local fresh = (
  ap (map (λ entry. entry.0)) fresh.kept ∙ sym (ap (λ n. ascending (senders (take n (row.stages local)))) fresh.made),
  subst (All (λ entry. row.awaits local entry.0 (length entry.1) ≡ true)) (sym fresh.kept)
      (All-nil (λ entry. row.awaits local entry.0 (length entry.1) ≡ true)),
)
KeepsWords-fresh code p Asking row local fresh = (
  subst (λ kept. IsPart (map (λ entry. entry.0) kept) (take (local.made - processors code) (others code p)))
      (sym fresh.kept) tt,
  subst (All (IsRequest row (record local { made = 0 }))) (sym fresh.kept) (All-nil (IsRequest row (record local { made = 0 }))),
)

IsIn-fresh : (code : Tables) (p : ℕ) (row : Option Collective) (local : Local)
    → ((c : Collective) → row ≡ Some c → EndsOnce (c.stages local)) → IsFresh local → IsIn code p row local
IsIn-fresh code p None local ends fresh = fresh
IsIn-fresh code p (Some c) local ends fresh = (
  omega (arith, begins (c.stages local) (ends c refl), fresh.made),
  KeepsWords-fresh code p c.use_of_words c local fresh,
)

-- what holds of a row, if there is one
abbrev IfFits : Tables → Option Instr → Type 0
IfFits code None = Unit {0}
IfFits code (Some row) = FitsInstr code row

module _ (code : Tables) (p : ℕ) where
  IsLooping-fresh : (local : Local) (region : Option Region) (all : Option (List Member)) → IsSome region → IsSome all
      → IsOutside local → IsFresh local → IsLooping code p local region all
  IsLooping-fresh local None all there here outside fresh = cc
  IsLooping-fresh local (Some region) None there here outside fresh = cc
  IsLooping-fresh local (Some region) (Some all) there here outside fresh = record {
    fresh = fresh;
    index = omega (arith, outside.index);
    begins = inl outside.member;
  }

  some_row : {X : Type 0} (found : Option X) (P : X → Type 0) → IsSomeAnd found P → IsSome found
  some_row None P h = absurd h
  some_row (Some x) P h = refl

  IsAt-fresh : (local : Local) (found : Option Instr) → IfFits code found → HasParts code p local → IsOutside local
      → IsFresh local → IsAt code p local found
  IsAt-fresh local None fits parts outside fresh = (outside, fresh)
  IsAt-fresh local (Some (instr.Loop slot group)) fits parts outside fresh =
      let slots = AllZip-get IsSlot code.slots local.slots slot fits.rank parts.slots fits.fit.0 in
      IsLooping-fresh local (slice_get local.slots slot) (slice_get code.groups group)
      (subst (λ (o : Option Region). IsSome o) (sym slots.1) refl)
      (some_row (slice_get code.groups group) _ fits.fit.1) outside fresh
  IsAt-fresh local (Some row) fits parts outside fresh =
      (outside, IsIn-fresh code p (collective code p row) local (λ c is. EndsOnce-row code p row c local is) fresh)

  module _ (inside : p < processors code) (fits_tables : Fits code) (instr_fits : (tables : Tables) (i : ℕ) (row : Instr) → Fits tables
      → slice_get tables.code i ≡ Some row → FitsInstr tables row) where
    if_fits : (at : ℕ) (found : Option Instr) → slice_get code.code at ≡ found → IfFits code found
    if_fits at None is = tt
    if_fits at (Some row) is = instr_fits code at row fits_tables is

    -- another instruction is begun
    IsLocal-left : (local : Local) (at : ℕ) → HasParts code p local → at ≤ length code.code → IsLocal code p (left local at)
    IsLocal-left local at parts within = record {
      number = inside;
      parts = record {
        scalars = parts.scalars;
        cells = parts.cells;
        slots = parts.slots;
        stores = parts.stores;
        flag = parts.flag;
      };
      at = within;
      running = λ none. IsAt-fresh (left local at) (slice_get code.code at) (if_fits at (slice_get code.code at) refl)
          (record {
            scalars = parts.scalars;
            cells = parts.cells;
            slots = parts.slots;
            stores = parts.stores;
            flag = parts.flag;
          }) (record { index = refl; member = refl }) (record { made = refl; kept = refl });
      over = λ some. (record { index = refl; member = refl }, record { made = refl; kept = refl });
    }

    IsLocal-ended : (local : Local) (ending : End) → HasParts code p local → local.at ≤ length code.code
        → IsLocal code p (ended_as local ending)
    IsLocal-ended local ending parts within = record {
      number = inside;
      parts = record {
        scalars = parts.scalars;
        cells = parts.cells;
        slots = parts.slots;
        stores = parts.stores;
        flag = parts.flag;
      };
      at = within;
      running = λ none. cc;
      over = λ some. (record { index = refl; member = refl }, record { made = refl; kept = refl });
    }

    -- ---- rows that need scalars and slots alone
    -- what such a row may make of the registers, or where it may go
    abbrev IsFine : Control → Type 0
    IsFine (Steps registers) = (length registers.scalars ≡ code.scalars) × AllZip IsSlot code.slots registers.slots
    IsFine (Leaps goal) = goal ≤ length code.code
    IsFine (Ends ending) = Unit {0}
    IsFine Outside = Unit {0}

    abbrev IsKept : Action → Type 0
    IsKept (Goes next sent shown) = IsLocal code p next
    IsKept Ended = Unit {0}
    IsKept (Blocked kind) = Unit {0}
    IsKept (Awaits from) = Unit {0}

    IsKept-controlled : (local : Local) (c : Control) → HasParts code p local → local.at < length code.code → IsFine c
        → IsKept (controlled local c)
    IsKept-controlled local (Steps registers) parts below fine =
        IsLocal-left (with_registers local registers) (local.at + 1)
        (record { scalars = fine.0; cells = parts.cells; slots = fine.1; stores = parts.stores; flag = parts.flag })
        (omega arith)
    IsKept-controlled local (Leaps goal) parts below fine = IsLocal-left local goal parts fine
    IsKept-controlled local (Ends ending) parts below fine = IsLocal-ended local ending parts (omega arith)
    IsKept-controlled local Outside parts below fine = tt

    IsFine-computed : {X : Type 0} (value : Computed X) (line : ℕ) (next : X → Control)
        → ((x : X) → value ≡ Gives x → IsFine (next x)) → IsFine (with_computed value line next)
    IsFine-computed (Gives x) line next fine = fine x refl
    IsFine-computed Divides line next fine = tt
    IsFine-computed Lacks line next fine = tt

    IsFine-row : {X : Type 0} (row : Option X) (next : X → Control) → ((x : X) → row ≡ Some x → IsFine (next x))
        → IsFine (with_row row next)
    IsFine-row (Some x) next fine = fine x refl
    IsFine-row None next fine = tt

    IsFine-checked : (registers : Registers) (b : Bool) (kind : TrapKind) (line : ℕ) → IsFine (Steps registers)
        → IsFine (checked registers b kind line)
    IsFine-checked registers true kind line fine = fine
    IsFine-checked registers false kind line fine = tt

    module _ (slot_fits : (tables : Tables) (i rank : ℕ) → Fits tables → slice_get tables.slots i ≡ Some rank → IsRank rank)
        (limit_told : (r : Region) → All HasStep r.dims → IsTrue (is_within_limit r) ↔ IsWithinLimit r) where
      -- a slot becomes a region of its rank, with steps and padding
      IsFine-limited : (registers : Registers) (slot line rank : ℕ) (region : Region) (b : Bool) → is_within_limit region ≡ b
          → IsFine (Steps registers) → slice_get code.slots slot ≡ Some rank → IsRank rank → region.rank ≡ rank
          → length region.dims ≡ 3 → All HasStep region.dims → IsPadded region.rank region.dims
          → IsFine (limited registers slot line region b)
      IsFine-limited registers slot line rank region true is fine there ranked same many steps padded = (
        fine.0,
        AllZip-set IsSlot code.slots registers.slots slot rank region fine.1 there (record {
          ranked = same;
          many = many;
          fits = record {
            rank = subst IsRank (sym same) ranked;
            steps = steps;
            padded = padded;
            limit = (limit_told region steps).0 is;
          };
        }),
      )
      IsFine-limited registers slot line rank region false is fine there ranked same many steps padded = tt

      -- ---- dimensions that are made
      slot_steps : (registers : Registers) (slot number : ℕ) (region : Option Region) (d : Dim)
          → slice_get registers.slots slot ≡ region → AllZip IsSlot code.slots registers.slots
          → read (option_and_then (λ r. slice_get r.dims number) region) ≡ Gives d → HasStep d
      slot_steps registers slot number None d there slots is = cc
      slot_steps registers slot number (Some region) d there slots is =
          let found = AllZip-back IsSlot code.slots registers.slots slot region slots there in
          all_at region.dims number d found.2.fits.steps (read_is (slice_get region.dims number) is)
        where
          read_is : (o : Option Dim) → read o ≡ Gives d → o ≡ Some d
          read_is (Some x) e = let same : x ≡ d = cc in ap Some same
          read_is None e = cc

          all_at : (dims : List Dim) (i : ℕ) (x : Dim) → All HasStep dims → slice_get dims i ≡ Some x → HasStep x
          all_at [] i x all e = cc
          all_at (first ∷ dims) zero x all e =
              let same : first ≡ x = cc in
              subst HasStep same (All-head HasStep first dims all)
          all_at (first ∷ dims) (suc i) x all e = all_at dims i x (All-tail HasStep first dims all) e

      span_steps : (lo hi : Computed ℤ) (d : Dim)
          → and_then (λ low. mapped (λ high. dim.Range low high (pos 1) low) hi) lo ≡ Gives d → HasStep d
      span_steps (Gives low) (Gives high) d is =
          let same : dim.Range low high (pos 1) low ≡ d = cc in
          subst HasStep same (omega (arith, ints))
      span_steps (Gives low) Divides d is = cc
      span_steps (Gives low) Lacks d is = cc
      span_steps Divides hi d is = cc
      span_steps Lacks hi d is = cc

      part_steps : (registers : Registers) (number : ℕ) (part : DimRow) (d : Dim)
          → AllZip IsSlot code.slots registers.slots → part_dim code registers number part ≡ Gives d → HasStep d
      part_steps registers number (part.Span low high) d slots is =
          span_steps (register_value code registers low) (register_value code registers high) d is
      part_steps registers number part.Star d slots is =
          let same : dim.Flood ≡ d = cc in
          subst HasStep same tt
      part_steps registers number (part.Copied slot) d slots is =
          slot_steps registers slot number (slice_get registers.slots slot) d refl slots is

      record Made (many : ℕ) (dims : List Dim) : Type 0 where
        long : length dims ≡ many
        steps : All HasStep dims

      parts_made : (registers : Registers) (number : ℕ) (parts : List DimRow) (dims : List Dim)
          → AllZip IsSlot code.slots registers.slots → part_dims code registers number parts ≡ Gives dims
          → Made (length parts) dims
      parts_made registers number [] dims slots is =
          let same : [] ≡ dims = cc in
          subst (Made 0) same (record { long = refl; steps = All-nil HasStep })
      parts_made registers number (part ∷ parts) dims slots is =
          by (part_dim code registers number part) (part_dims code registers (suc number) parts) refl
          (λ ds more. parts_made registers (suc number) parts ds slots more) is
        where
          by : (first : Computed Dim) (rest : Computed (List Dim)) → part_dim code registers number part ≡ first
              → ((ds : List Dim) → rest ≡ Gives ds → Made (length parts) ds)
              → and_then (λ d. mapped (λ ds. d ∷ ds) rest) first ≡ Gives dims → Made (length (part ∷ parts)) dims
          by (Gives d) (Gives ds) one more all =
              let same : d ∷ ds ≡ dims = cc in
              let made = more ds refl in
              subst (Made (length (part ∷ parts))) same (record {
                long = omega (arith, made.long);
                steps = All-cons HasStep d ds (part_steps registers number part d slots one) made.steps;
              })
          by (Gives d) Divides one more all = cc
          by (Gives d) Lacks one more all = cc
          by Divides rest one more all = cc
          by Lacks rest one more all = cc

      -- ---- regions that are formed
      IsFine-formed : (registers : Registers) (slot line rank : ℕ) (form : RegionForm) (shift : List ℤ) (region : Region)
          → IsFine (Steps registers) → slice_get code.slots slot ≡ Some rank → IsSlot rank region
          → IsFine (with_slot registers slot line (formed_by form shift region))
      IsFine-formed registers slot line rank Of shift region fine there is =
          IsFine-limited registers slot line rank _ _ refl fine there (subst IsRank is.ranked is.fits.rank) is.ranked
          (length-each _ (components region.rank shift) region.dims ∙ is.many) (steps-each _ HasStep-outside (components region.rank shift) region.dims is.fits.steps)
          (padded-each _ refl region.rank (3 - region.rank) shift region.dims is.fits.padded)
      IsFine-formed registers slot line rank Inside shift region fine there is =
          IsFine-limited registers slot line rank _ _ refl fine there (subst IsRank is.ranked is.fits.rank) is.ranked
          (length-each _ (components region.rank shift) region.dims ∙ is.many) (steps-each _ HasStep-inside (components region.rank shift) region.dims is.fits.steps)
          (padded-each _ refl region.rank (3 - region.rank) shift region.dims is.fits.padded)
      IsFine-formed registers slot line rank At shift region fine there is =
          IsFine-limited registers slot line rank _ _ refl fine there (subst IsRank is.ranked is.fits.rank) is.ranked
          (length-each _ (components region.rank shift) region.dims ∙ is.many) (steps-each _ HasStep-moved (components region.rank shift) region.dims is.fits.steps)
          (padded-each _ refl region.rank (3 - region.rank) shift region.dims is.fits.padded)
      IsFine-formed registers slot line rank By shift region fine there is =
          IsFine-limited registers slot line rank _ _ refl fine there (subst IsRank is.ranked is.fits.rank) is.ranked
          (length-each _ (components region.rank shift) region.dims ∙ is.many) (steps-each _ HasStep-strided (components region.rank shift) region.dims is.fits.steps)
          (padded-each _ refl region.rank (3 - region.rank) shift region.dims is.fits.padded)

      -- ---- each row
      IsFine-dims : (registers : Registers) (slot line rank : ℕ) (parts : List DimRow) (dims : List Dim)
          → IsFine (Steps registers) → slice_get code.slots slot ≡ Some rank → length parts ≡ 3 → IsRank rank
          → part_dims code registers 0 (take rank parts) ≡ Gives dims
          → IsFine (with_slot registers slot line (region_of rank dims))
      IsFine-dims registers slot line rank parts dims fine there three ranked is =
          let made = parts_made registers 0 (take rank parts) dims fine.1 is in
          let long : length dims ≡ rank = omega (arith, made.long, length-take rank parts, three, ranked.1) in
          IsFine-limited registers slot line rank (region_of rank dims) _ refl fine there ranked refl
          (omega (arith, length-append dims (replicate (3 - rank) padding), length-replicate (3 - rank) padding, long, ranked.1))
          (All-append HasStep dims (replicate (3 - rank) padding) made.steps
          (All-replicate HasStep (3 - rank) padding (omega (arith, ints))))
          (padded-behind rank (3 - rank) dims long)

      IsFine-control : (registers : Registers) (row : Instr) → FitsInstr code row → HasThree code row → IsFine (Steps registers)
          → IsFine (control code registers row)
      IsFine-control registers (instr.Set scalar expr line) fits whole fine =
          IsFine-computed (register_value code registers expr) line _
          (λ value is. (length-set registers.scalars scalar value ∙ fine.0, fine.1))
      IsFine-control registers (instr.Fix slot region) fits whole fine = (
        fine.0,
        AllZip-set IsSlot code.slots registers.slots slot fits.rank region fine.1 fits.fit.0
            (record { ranked = fits.fit.2; many = whole; fits = fits.fit.1 }),
      )
      IsFine-control registers (instr.Dims slot parts line) fits whole fine =
          IsFine-row (slice_get code.slots slot) _ (λ rank there.
          IsFine-computed (part_dims code registers 0 (take rank parts)) line _ (λ dims is.
          IsFine-dims registers slot line rank parts dims fine there whole (slot_fits code slot rank fits_tables there) is))
      IsFine-control registers (instr.Formed form slot from shift line) fits whole fine =
          IsFine-row (slice_get registers.slots from) _ (λ region there.
          let found = AllZip-back IsSlot code.slots registers.slots from region fine.1 there in
          let same : found.0 ≡ fits.rank =
          let one = found.1 in let two = fits.fit.1 in cc in
          IsFine-formed registers slot line fits.rank form shift region fine fits.fit.0
          (subst (λ rank. IsSlot rank region) same found.2))
      IsFine-control registers (instr.Need slot array shift line) fits whole fine =
          IsFine-row (slice_get registers.slots slot) _ (λ region there.
          IsFine-row (slice_get code.arrays array) _ (λ row here. IsFine-checked registers _ _ line fine))
      IsFine-control registers (instr.Same target source kind line) fits whole fine =
          IsFine-row (slice_get registers.slots target) _ (λ region there.
          IsFine-row (slice_get registers.slots source) _ (λ other here. IsFine-checked registers _ _ line fine))
      IsFine-control registers (instr.Fits slot shift line) fits whole fine =
          IsFine-row (slice_get registers.slots slot) _ (λ region there. IsFine-checked registers _ _ line fine)
      IsFine-control registers (instr.Jump goal) fits whole fine = fits.fit
      IsFine-control registers (instr.Unless expr goal line) fits whole fine =
          IsFine-computed (register_value code registers expr) line _ (λ value is.
          branched_fine (is_true value) goal fits.fit.1)
        where
          branched_fine : (b : Bool) (goal : ℕ) → goal ≤ length code.code → IsFine (branched registers b goal)
          branched_fine true goal within = fine
          branched_fine false goal within = within
      IsFine-control registers (instr.Trap kind line) fits whole fine = tt
      IsFine-control registers instr.End fits whole fine = tt
      IsFine-control registers row fits whole fine = tt

    -- ---- rows that print
    IsKept-prints : (q : ℕ) (local : Local) (bytes : List ℕ) → HasParts code p local → local.at < length code.code
        → IsKept (prints q local bytes)
    IsKept-prints zero local bytes parts below = IsLocal-left local (local.at + 1) parts (omega arith)
    IsKept-prints (suc q) local bytes parts below = IsLocal-left local (local.at + 1) parts (omega arith)

    IsKept-value : (local : Local) (value : Computed ℤ) (text : ℤ → List ℕ) → HasParts code p local
        → local.at < length code.code → IsKept (prints_value p local value text)
    IsKept-value local (Gives value) text parts below = IsKept-prints p local (text value) parts below
    IsKept-value local Divides text parts below = IsLocal-ended local _ parts (omega arith)
    IsKept-value local Lacks text parts below = tt

    IsKept-text : (local : Local) (text : Option (List ℕ)) → HasParts code p local → local.at < length code.code
        → IsKept (prints_text p local text)
    IsKept-text local (Some text) parts below = IsKept-prints p local text parts below
    IsKept-text local None parts below = tt

    -- ---- rows that keep words until their last turn
    abbrev IsFedKept : Feeding → Type 0
    IsFedKept (Takes next) = IsLocal code p next
    IsFedKept (Refuses kind) = Unit {0}

    -- such a row, and a state in it
    record Keeping (c : Collective) (local : Local) : Type 0 where
      parts : HasParts code p local
      below : local.at < length code.code
      none : local.ended ≡ None
      outside : IsOutside local
      made : local.made < length (c.stages local)
      kept : KeepsWords code p InLast c local
      ends : EndsOnce (c.stages local)
      stands : (next : Local) → next.at ≡ local.at → IsOutside next → (next.made < length (c.stages next))
          → KeepsWords code p InLast c next → Stands code p next

    -- one more turn, with these words kept
    abbrev stepped : Local → List (ℕ × List ℤ) → Local
    stepped local kept = record local { made = local.made + 1; kept = kept }

    IsLocal-stepped : (c : Collective) (local : Local) (kept : List (ℕ × List ℤ)) (stage : Stage) → Keeping c local
        → slice_get (c.stages local) local.made ≡ Some stage → IsNotLast stage
        → map (λ entry. entry.0) kept ≡ fold placed (map (λ entry. entry.0) local.kept) (senders (stage ∷ []))
        → All (λ entry. c.awaits local entry.0 (length entry.1) ≡ true) kept
        → c.stages (stepped local kept) ≡ c.stages local
        → ((q many : ℕ) → c.awaits (stepped local kept) q many ≡ c.awaits local q many)
        → IsLocal code p (stepped local kept)
    IsLocal-stepped c local kept stage k here not_last from fit same_stages same_awaits =
        let next = stepped local kept in
        let further : next.made < length (c.stages next) =
        omega (arith, ap length same_stages, more_stages (c.stages local) local.made stage k.ends here not_last) in
        let all : map (λ (entry : ℕ × List ℤ). entry.0) next.kept ≡ ascending (senders (take next.made (c.stages next))) =
        from
        ∙ (ap (λ list. fold placed list (senders (stage ∷ []))) k.kept.0
        ∙ (sym (ascending-more (senders (take local.made (c.stages local))) (senders (stage ∷ [])))
        ∙ (ap ascending (sym (senders-more (c.stages local) local.made stage here))
        ∙ ap (λ stages. ascending (senders (take (local.made + 1) stages))) (sym same_stages)))) in
        let awaited : All (λ entry. c.awaits next entry.0 (length entry.1) ≡ true) next.kept =
        λ i d inside. same_awaits _ _ ∙ fit i d inside in
        record {
          number = inside;
          parts = record {
            scalars = k.parts.scalars;
            cells = k.parts.cells;
            slots = k.parts.slots;
            stores = k.parts.stores;
            flag = k.parts.flag;
          };
          at = omega (arith, k.below);
          running = λ none. k.stands next refl (record { index = k.outside.index; member = k.outside.member }) further
              (all, awaited);
          over = λ some. absurd (not_both local.ended k.none some);
        }
      where
        not_both : (ended : Option End) → ended ≡ None → IsSome ended → ⊥
        not_both None e h = cc
        not_both (Some ending) e h = cc

    -- a row that sends words and keeps words, and neither reads nor changes more of the state while it does
    record IsCalm (c : Collective) (local : Local) : Type 0 where
      alone : c.alone local ≡ None
      taken : (from : ℕ) (words : List ℤ) → c.taken local from words ≡ Some (keeping local from words)
      same_stages : (more : List (ℕ × List ℤ)) → c.stages (stepped local more) ≡ c.stages local
      same_awaits : (more : List (ℕ × List ℤ)) (q many : ℕ) → c.awaits (stepped local more) q many ≡ c.awaits local q many

    IsLocal-sent : (c : Collective) (local : Local) (to : ℕ) → Keeping c local → IsCalm c local
        → slice_get (c.stages local) local.made ≡ Some (Sends to) → IsLocal code p (record local { made = local.made + 1 })
    IsLocal-sent c local to k calm here =
        IsLocal-stepped c local local.kept (Sends to) k here tt refl k.kept.1
        (calm.same_stages local.kept) (calm.same_awaits local.kept)

    IsKept-sends : (c : Collective) (local : Local) (to : ℕ) (words : Option (List ℤ)) → Keeping c local → IsCalm c local
        → slice_get (c.stages local) local.made ≡ Some (Sends to) → IsKept (sends c local to words)
    IsKept-sends c local to (Some words) k calm here = IsLocal-sent c local to k calm here
    IsKept-sends c local to None k calm here = tt

    IsKept-in : (c : Collective) (local : Local) (stage : Option Stage) → Keeping c local → IsCalm c local
        → IsKept (c.last local) → slice_get (c.stages local) local.made ≡ stage → IsKept (act_in c local stage)
    IsKept-in c local (Some Alone) k calm last here = subst (λ next. IsKept (steps_on next)) (sym calm.alone) tt
    IsKept-in c local (Some (Sends to)) k calm last here = IsKept-sends c local to (c.words_to local to) k calm here
    IsKept-in c local (Some (TakesFrom from)) k calm last here = tt
    IsKept-in c local (Some Last) k calm last here = last
    IsKept-in c local None k calm last here = tt

    IsFedKept-by : (c : Collective) (local : Local) (from : ℕ) (message : Message) → Keeping c local → IsCalm c local
        → slice_get (c.stages local) local.made ≡ Some (TakesFrom from) → IsFedKept (fed_by c local from message)
    IsFedKept-by c local from message k calm here =
        by (message.tag == c.tag local) (c.awaits local from (length message.words)) refl
      where
        by : (tagged long : Bool) → c.awaits local from (length message.words) ≡ long
            → IsFedKept (cond tagged (cond long (takes (c.taken local from message.words)) (Refuses WrongLength)) (Refuses WrongTag))
        by true true fit =
            subst (λ next. IsFedKept (takes next)) (sym (calm.taken from message.words))
            (IsLocal-stepped c local (kept_with from message.words local.kept) (TakesFrom from) k here tt
            (senders-kept from message.words local.kept)
            (All-kept (λ entry. c.awaits local entry.0 (length entry.1) ≡ true) from message.words local.kept fit k.kept.1)
            (calm.same_stages _) (calm.same_awaits _))
        by true false fit = tt
        by false long fit = tt

    IsFedKept-in : (c : Collective) (local : Local) (message : Message) (stage : Option Stage) → Keeping c local
        → IsCalm c local → slice_get (c.stages local) local.made ≡ stage → IsFedKept (fed_in c local message stage)
    IsFedKept-in c local message (Some Alone) k calm here = tt
    IsFedKept-in c local message (Some (Sends to)) k calm here = tt
    IsFedKept-in c local message (Some (TakesFrom from)) k calm here = IsFedKept-by c local from message k calm here
    IsFedKept-in c local message (Some Last) k calm here = tt
    IsFedKept-in c local message None k calm here = tt

    -- ---- one value for all
    IsCalm-voted : (kin : Kin) (group : ℕ) (local : Local) → IsCalm (voted code kin group) local
    IsCalm-voted kin group local = record {
      alone = refl;
      taken = λ from words. refl;
      same_stages = λ more. refl;
      same_awaits = λ more q many. refl;
    }

    IsCalm-folded : (kin : Kin) (scalar : ℕ) (f : Fold) (local : Local) → IsCalm (folded kin scalar f) local
    IsCalm-folded kin scalar f local = record {
      alone = refl;
      taken = λ from words. refl;
      same_stages = λ more. refl;
      same_awaits = λ more q many. refl;
    }

    IsLocal-set : (local : Local) (scalar : ℕ) (value : ℤ) → HasParts code p local → local.at < length code.code
        → IsLocal code p (goes_on (record local { scalars = slice_set local.scalars scalar value }))
    IsLocal-set local scalar value parts below =
        IsLocal-left (record local { scalars = slice_set local.scalars scalar value }) (local.at + 1) (record {
          scalars = length-set local.scalars scalar value ∙ parts.scalars;
          cells = parts.cells;
          slots = parts.slots;
          stores = parts.stores;
          flag = parts.flag;
        }) (omega arith)

    IsKept-folded : (kin : Kin) (scalar : ℕ) (f : Fold) (local : Local) → HasParts code p local
        → local.at < length code.code → IsKept ((folded kin scalar f).last local)
    IsKept-folded kin scalar f local parts below = IsLocal-set local scalar _ parts below

    IsKept-decided : (group : ℕ) (local : Local) (flag : Option ℕ) → HasParts code p local
        → local.at < length code.code → IsKept (decided code group local flag)
    IsKept-decided group local None parts below =
        IsLocal-left (record local { flag = None }) (local.at + 1) (record {
          scalars = parts.scalars;
          cells = parts.cells;
          slots = parts.slots;
          stores = parts.stores;
          flag = tt;
        }) (omega arith)
    IsKept-decided group local (Some member) parts below =
        IsLocal-ended (record local { flag = None }) _ (record {
          scalars = parts.scalars;
          cells = parts.cells;
          slots = parts.slots;
          stores = parts.stores;
          flag = tt;
        }) (omega arith)

    -- ---- `gather`
    IsCalm-gathered : (truth : Bool) (array slot : ℕ) (local : Local) → IsCalm (gathered code p truth array slot) local
    IsCalm-gathered truth array slot local = record {
      alone = refl;
      taken = λ from words. refl;
      same_stages = λ more. refl;
      same_awaits = λ more q many. refl;
    }

    IsKept-gathered : (q : ℕ) (truth : Bool) (array : ℕ) (region : Region) (local : Local) → HasParts code p local
        → local.at < length code.code → IsKept (gather_last code q truth array region local)
    IsKept-gathered zero truth array region local parts below = by (values_at local.stores array (tuples_of code 0 region))
      where
        by : (own : Option (List ℤ)) → IsKept (prints_gathered code truth region local own)
        by (Some own) = IsLocal-left local (local.at + 1) parts (omega arith)
        by None = tt
    IsKept-gathered (suc q) truth array region local parts below = IsLocal-left local (local.at + 1) parts (omega arith)

    -- ---- rows that write to stores
    abbrev AreStores : List Array → Type 0
    AreStores stores = AllZip (IsStore code p) code.arrays stores

    abbrev IfStores : Option (List Array) → Type 0
    IfStores None = Unit {0}
    IfStores (Some stores) = AreStores stores

    IfStores-then : (first : Option (List Array)) (next : List Array → Option (List Array)) → IfStores first
        → ((stores : List Array) → AreStores stores → IfStores (next stores)) → IfStores (option_and_then next first)
    IfStores-then None next all goes = tt
    IfStores-then (Some stores) next all goes = goes stores all

    IsStore-updated : (row : ArrayRow) (store : Array) (t : List ℤ) (value : ℤ) → IsStore code p row store
        → IsStore code p row (updated store t value)
    IsStore-updated row store t value is = record {
      filled = record { filled = length-set store.values _ value ∙ is.filled.filled; steps = is.filled.steps };
      places = is.places;
    }

    IfStores-value : (stores : List Array) (array : ℕ) (t : List ℤ) (value : ℤ) → AreStores stores
        → IfStores (with_value stores array t value)
    IfStores-value stores array t value all = by (slice_get stores array) refl
      where
        held : (store : Array) (b : Bool) → slice_get stores array ≡ Some store
            → IfStores (option_map (slice_set stores array) (where_held b (updated store t value)))
        held store true is =
            let found = AllZip-back (IsStore code p) code.arrays stores array store all is in
            AllZip-set (IsStore code p) code.arrays stores array found.0 (updated store t value) all found.1
            (IsStore-updated found.0 store t value found.2)
        held store false is = tt

        by : (found : Option Array) → slice_get stores array ≡ found
            → IfStores (option_map (slice_set stores array) (option_and_then (held_with t value) found))
        by None is = tt
        by (Some store) is = held store (has_place store.storage t) is

    IfStores-values : (array : ℕ) (places : List (List ℤ)) (values : List ℤ) (stores : List Array) → AreStores stores
        → IfStores (with_values array places values stores)
    IfStores-values array [] values stores all = all
    IfStores-values array (t ∷ places) [] stores all = all
    IfStores-values array (t ∷ places) (value ∷ values) stores all =
        IfStores-then (with_value stores array t value) (with_values array places values)
        (IfStores-value stores array t value all) (λ more are. IfStores-values array places values more are)

    IfStores-written : (local : Local) (from to : ℕ) (items : List Item) (words : List ℤ) (stores : List Array)
        → AreStores stores → IfStores (words_written code local from to items words stores)
    IfStores-written local from to [] words stores all = all
    IfStores-written local from to (item ∷ items) words stores all =
        let places = places_of code local from to item in
        IfStores-then (with_values item.array places (take (length places) words) stores)
        (words_written code local from to items (drop (length places) words))
        (IfStores-values item.array places (take (length places) words) stores all)
        (λ more are. IfStores-written local from to items (drop (length places) words) more are)

    -- only the stores of a state change
    record OnlyStores (old next : Local) : Type 0 where
      stores : List Array
      is : next ≡ record old { stores = stores }
      are : AreStores stores

    abbrev IfOnly : Local → Option Local → Type 0
    IfOnly old None = Unit {0}
    IfOnly old (Some next) = OnlyStores old next

    IfOnly-stores : (old : Local) (stores : Option (List Array)) → IfStores stores
        → IfOnly old (option_map (λ s. record old { stores = s }) stores)
    IfOnly-stores old None all = tt
    IfOnly-stores old (Some stores) all = record { stores = stores; is = refl; are = all }

    IfOnly-then : {X : Type 0} (old : Local) (found : Option X) (next : X → Option Local) → ((x : X) → IfOnly old (next x))
        → IfOnly old (option_and_then next found)
    IfOnly-then old None next goes = tt
    IfOnly-then old (Some x) next goes = goes x

    -- such a row uses words at once
    record Using (c : Collective) (local : Local) : Type 0 where
      parts : HasParts code p local
      below : local.at < length code.code
      outside : IsOutside local
      none_kept : local.kept ≡ []
      none : local.ended ≡ None
      ends : EndsOnce (c.stages local)
      stands : (next : Local) → next.at ≡ local.at → IsOutside next → next.made < length (c.stages next)
          → next.kept ≡ [] → Stands code p next
      same_stages : (stores : List Array) → c.stages (record local { made = local.made + 1; stores = stores }) ≡ c.stages local
      alone : IfOnly local (c.alone local)
      taken : (from : ℕ) (words : List ℤ) → IfOnly local (c.taken local from words)

    IsLocal-used : (c : Collective) (local : Local) (stores : List Array) (stage : Stage) → Using c local → AreStores stores
        → slice_get (c.stages local) local.made ≡ Some stage → IsNotLast stage
        → IsLocal code p (record local { made = local.made + 1; stores = stores })
    IsLocal-used c local stores stage u are here not_last =
        let next = record local { made = local.made + 1; stores = stores } in
        record {
          number = inside;
          parts = record {
            scalars = u.parts.scalars;
            cells = u.parts.cells;
            slots = u.parts.slots;
            stores = are;
            flag = u.parts.flag;
          };
          at = omega (arith, u.below);
          running = λ none. u.stands next refl (record { index = u.outside.index; member = u.outside.member })
              (omega (
                arith,
                ap length (u.same_stages stores),
                more_stages (c.stages local) local.made stage u.ends here not_last,
              )) u.none_kept;
          over = λ some. absurd (not_both local.ended u.none some);
        }
      where
        not_both : (ended : Option End) → ended ≡ None → IsSome ended → ⊥
        not_both None e h = cc
        not_both (Some ending) e h = cc

    used_alone : (c : Collective) (local : Local) (next : Option Local) → Using c local → IfOnly local next
        → slice_get (c.stages local) local.made ≡ Some Alone → IsKept (steps_on next)
    used_alone c local None u only here = tt
    used_alone c local (Some next) u only here =
        subst (λ (n : Local). IsLocal code p (record n { made = n.made + 1 })) (sym only.is)
        (IsLocal-used c local only.stores Alone u only.are here tt)

    used_sends : (c : Collective) (local : Local) (to : ℕ) (words : Option (List ℤ)) → Using c local
        → slice_get (c.stages local) local.made ≡ Some (Sends to) → IsKept (sends c local to words)
    used_sends c local to (Some words) u here = IsLocal-used c local local.stores (Sends to) u u.parts.stores here tt
    used_sends c local to None u here = tt

    used_in : (c : Collective) (local : Local) (stage : Option Stage) → Using c local → IsKept (c.last local)
        → slice_get (c.stages local) local.made ≡ stage → IsKept (act_in c local stage)
    used_in c local (Some Alone) u last here = used_alone c local (c.alone local) u u.alone here
    used_in c local (Some (Sends to)) u last here = used_sends c local to (c.words_to local to) u here
    used_in c local (Some (TakesFrom from)) u last here = tt
    used_in c local (Some Last) u last here = last
    used_in c local None u last here = tt

    used_takes : (c : Collective) (local : Local) (from : ℕ) (next : Option Local) → Using c local → IfOnly local next
        → slice_get (c.stages local) local.made ≡ Some (TakesFrom from) → IsFedKept (takes next)
    used_takes c local from None u only here = tt
    used_takes c local from (Some next) u only here =
        subst (λ (n : Local). IsLocal code p (record n { made = n.made + 1 })) (sym only.is)
        (IsLocal-used c local only.stores (TakesFrom from) u only.are here tt)

    used_by : (c : Collective) (local : Local) (from : ℕ) (message : Message) → Using c local
        → slice_get (c.stages local) local.made ≡ Some (TakesFrom from) → IsFedKept (fed_by c local from message)
    used_by c local from message u here = by (message.tag == c.tag local) (c.awaits local from (length message.words))
      where
        by : (tagged long : Bool)
            → IsFedKept (cond tagged (cond long (takes (c.taken local from message.words)) (Refuses WrongLength)) (Refuses WrongTag))
        by true true = used_takes c local from (c.taken local from message.words) u (u.taken from message.words) here
        by true false = tt
        by false long = tt

    used_fed : (c : Collective) (local : Local) (message : Message) (stage : Option Stage) → Using c local
        → slice_get (c.stages local) local.made ≡ stage → IsFedKept (fed_in c local message stage)
    used_fed c local message (Some Alone) u here = tt
    used_fed c local message (Some (Sends to)) u here = tt
    used_fed c local message (Some (TakesFrom from)) u here = used_by c local from message u here
    used_fed c local message (Some Last) u here = tt
    used_fed c local message None u here = tt

    -- ---- deliveries
    IfOnly-words : (d : Delivery) (local : Local) (tuples : List (List ℤ)) (words : List ℤ) → AreStores local.stores
        → IfOnly local (with_words d local tuples words)
    IfOnly-words d local tuples words are =
        IfOnly-stores local _ (IfStores-values d.array tuples words local.stores are)

    IfStores-found : (found : Option ℤ) (next : ℤ → Option (List Array)) → ((old : ℤ) → IfStores (next old))
        → IfStores (option_and_then next found)
    IfStores-found None next goes = tt
    IfStores-found (Some old) next goes = goes old

    IfStores-combined : (d : Delivery) (tuples : List (List ℤ)) (words : List ℤ) (stores : List Array) → AreStores stores
        → IfStores (combined_into d tuples words stores)
    IfStores-combined d [] words stores all = all
    IfStores-combined d (t ∷ tuples) [] stores all = all
    IfStores-combined d (t ∷ tuples) (word ∷ words) stores all =
        IfStores-found (value_at stores d.array t) _ (λ old.
        IfStores-then (with_value stores d.array t (d.combined old word)) (combined_into d tuples words)
        (IfStores-value stores d.array t (d.combined old word) all)
        (λ more are. IfStores-combined d tuples words more are))

    IfOnly-combined : (d : Delivery) (local : Local) (tuples : List (List ℤ)) (words : List ℤ) → AreStores local.stores
        → IfOnly local (with_combined d local tuples words)
    IfOnly-combined d local tuples words are =
        IfOnly-stores local _ (IfStores-combined d tuples words local.stores are)

    IfOnly-own : (d : Delivery) (local : Local) → AreStores local.stores
        → IfOnly local ((delivered code p d).alone local)
    IfOnly-own d local are =
        IfOnly-then local (each_word (d.word local) (d.own local)) _ (λ words. IfOnly-words d local (d.own local) words are)

    -- ---- lines of a scan
    module _ (f : Fold) (along from : ℕ) (mask : Option ℕ) (array : ℕ) where
      OnlyStores-line : (old local : Local) (region : Region) (own head : List ℤ) → OnlyStores old local
          → IfOnly old (with_line code p f along from mask array old region own head local)
      OnlyStores-line old local region own head only =
          IfOnly-then old (scan_values old from mask (line_of code p region (line_dim region along) head)) _ (λ values.
          moved_on (with_values array _ _ local.stores) (IfStores-values array _ _ local.stores stores_are))
        where
          stores_are : AreStores local.stores
          stores_are = subst AreStores (sym (ap (λ (l : Local). l.stores) only.is)) only.are

          moved_on : (stores : Option (List Array)) → IfStores stores
              → IfOnly old (option_map (λ s. record local { stores = s }) stores)
          moved_on None all = tt
          moved_on (Some stores) all = record {
            stores = stores;
            is = ap (λ (l : Local). record l { stores = stores }) only.is;
            are = all;
          }

      OnlyStores-lines : (old local : Local) (region : Region) (own : List ℤ) (heads : List (List ℤ)) → OnlyStores old local
          → IfOnly old (with_lines code p f along from mask array old region own heads local)
      OnlyStores-lines old local region own [] only = only
      OnlyStores-lines old local region own (head ∷ heads) only =
          then_lines (with_line code p f along from mask array old region own head local)
          (OnlyStores-line old local region own head only)
          (λ next more. OnlyStores-lines old next region own heads more)
        where
          then_lines : (first : Option Local) → IfOnly old first
              → ((next : Local) → OnlyStores old next
              → IfOnly old (with_lines code p f along from mask array old region own heads next))
              → IfOnly old (option_and_then (with_lines code p f along from mask array old region own heads) first)
          then_lines None only goes = tt
          then_lines (Some next) only goes = goes next only

      IsKept-scan : (local : Local) (region : Region) → HasParts code p local → local.at < length code.code
          → IsKept (scan_last code p f along from mask array local region)
      IsKept-scan local region parts below =
          done (option_and_then (λ own. with_lines code p f along from mask array local region own
          (line_heads code p region (line_dim region along)) local) (line_totals code p f along from mask local region))
          (IfOnly-then local (line_totals code p f along from mask local region) _ (λ own.
          OnlyStores-lines local local region own _ (record { stores = local.stores; is = refl; are = parts.stores })))
        where
          done : (next : Option Local) → IfOnly local next → IsKept (scan_done code p f along from mask next)
          done None only = tt
          done (Some next) only =
              subst (λ n. IsLocal code p (goes_on n)) (sym only.is)
              (IsLocal-left (record local { stores = only.stores }) (local.at + 1) (record {
                scalars = parts.scalars;
                cells = parts.cells;
                slots = parts.slots;
                stores = only.are;
                flag = parts.flag;
              }) (omega arith))

    IsCalm-scanned : (f : Fold) (along from : ℕ) (mask : Option ℕ) (array slot : ℕ) (local : Local)
        → IsCalm (scanned_row code p f along from mask array slot) local
    IsCalm-scanned f along from mask array slot local = record {
      alone = refl;
      taken = λ q words. refl;
      same_stages = λ more. refl;
      same_awaits = λ more q many. refl;
    }

    -- ---- each row
    module _ (slot_fits : (tables : Tables) (i rank : ℕ) → Fits tables → slice_get tables.slots i ≡ Some rank → IsRank rank)
        (array_fits : (tables : Tables) (i : ℕ) (row : ArrayRow) → Fits tables → slice_get tables.arrays i ≡ Some row → FitsArray row)
        (group_fits : (tables : Tables) (i : ℕ) (members : List Member) → Fits tables → slice_get tables.groups i ≡ Some members
        → FitsGroup tables members)
        (limit_told : (r : Region) → All HasStep r.dims → IsTrue (is_within_limit r) ↔ IsWithinLimit r)
        (local : Local) (is_local : IsLocal code p local) (none : local.ended ≡ None) where
      keeping_in : (row : Instr) (c : Collective) → slice_get code.code local.at ≡ Some row → IsOutside local
          → local.made < length (c.stages local) → KeepsWords code p InLast c local → EndsOnce (c.stages local)
          → ((next : Local) → IsOutside next → (next.made < length (c.stages next)) → KeepsWords code p InLast c next
          → IsAt code p next (Some row)) → Keeping c local
      keeping_in row c here outside made kept ends again = record {
        parts = is_local.parts;
        below = slice_get_within code.code local.at row here;
        none = none;
        outside = outside;
        made = made;
        kept = kept;
        ends = ends;
        stands = λ next at out few words.
            subst (IsAt code p next) (sym (ap (slice_get code.code) at ∙ here)) (again next out few words);
      }

      using_in : (row : Instr) (c : Collective) → slice_get code.code local.at ≡ Some row → IsOutside local
          → local.kept ≡ [] → EndsOnce (c.stages local)
          → ((next : Local) → IsOutside next → (next.made < length (c.stages next)) → next.kept ≡ []
          → IsAt code p next (Some row))
          → ((stores : List Array) → c.stages (record local { made = local.made + 1; stores = stores }) ≡ c.stages local)
          → IfOnly local (c.alone local) → ((from : ℕ) (words : List ℤ) → IfOnly local (c.taken local from words))
          → Using c local
      using_in row c here outside none_kept ends again same alone taken = record {
        parts = is_local.parts;
        below = slice_get_within code.code local.at row here;
        outside = outside;
        none_kept = none_kept;
        none = none;
        ends = ends;
        stands = λ next at out few kept.
            subst (IsAt code p next) (sym (ap (slice_get code.code) at ∙ here)) (again next out few kept);
        same_stages = same;
        alone = alone;
        taken = taken;
      }

      using_edge : (kind : Border) (array slot : ℕ) (shift : List ℤ)
          → slice_get code.code local.at ≡ Some (instr.Edge kind array slot shift)
          → Using (edged code p kind array slot shift) local
      using_edge kind array slot shift here =
          let at = subst (IsAt code p local) here (is_local.running none) in
          let d = edging code p kind array slot shift in
          using_in (instr.Edge kind array slot shift) (edged code p kind array slot shift) here at.0 at.1.1
          (EndsOnce-delivered code p _ _) (λ next out few kept. (out, (few, kept))) (λ stores. refl)
          (IfOnly-own d local is_local.parts.stores) (λ from words. IfOnly-combined d local _ words is_local.parts.stores)

      using_flood : (array target from source : ℕ)
          → slice_get code.code local.at ≡ Some (instr.Flood array target from source)
          → Using (flooded code p array target from source) local
      using_flood array target from source here =
          let at = subst (IsAt code p local) here (is_local.running none) in
          let d = flooding code p array target from source in
          using_in (instr.Flood array target from source) (flooded code p array target from source) here at.0 at.1.1
          (EndsOnce-delivered code p _ _) (λ next out few kept. (out, (few, kept))) (λ stores. refl)
          (IfOnly-own d local is_local.parts.stores) (λ q words. IfOnly-combined d local _ words is_local.parts.stores)

      using_part : (array target : ℕ) (f : Fold) (from source : ℕ)
          → slice_get code.code local.at ≡ Some (instr.Part array target f from source)
          → Using (parted code p array target f from source) local
      using_part array target f from source here =
          let at = subst (IsAt code p local) here (is_local.running none) in
          let d = parting code p array target f from source in
          using_in (instr.Part array target f from source) (parted code p array target f from source) here at.0 at.1.1
          (EndsOnce-delivered code p _ _) (λ next out few kept. (out, (few, kept))) (λ stores. refl)
          (IfOnly-own d local is_local.parts.stores) (λ q words. IfOnly-combined d local _ words is_local.parts.stores)

      using_start : (exchange : ℕ) (items : List Item) → slice_get code.exchanges exchange ≡ Some items
          → slice_get code.code local.at ≡ Some (instr.Start exchange) → Using (started code p exchange items) local
      using_start exchange items is here =
          let at = subst (IsAt code p local) here (is_local.running none) in
          let in_row = subst (λ o. IsIn code p (option_map (started code p exchange) o) local) is at.1 in
          using_in (instr.Start exchange) (started code p exchange items) here at.0 in_row.1
          (EndsOnce-sends (λ q. q) _ _ EndsOnce-last)
          (λ next out few kept.
          (out, subst (λ o. IsIn code p (option_map (started code p exchange) o) next) (sym is) (few, kept)))
          (λ stores. refl) tt (λ from words. tt)

      using_finish : (exchange : ℕ) (items : List Item) → slice_get code.exchanges exchange ≡ Some items
          → slice_get code.code local.at ≡ Some (instr.Finish exchange) → Using (finished code p exchange items) local
      using_finish exchange items is here =
          let at = subst (IsAt code p local) here (is_local.running none) in
          let in_row = subst (λ o. IsIn code p (option_map (finished code p exchange) o) local) is at.1 in
          using_in (instr.Finish exchange) (finished code p exchange items) here at.0 in_row.1
          (EndsOnce-takes _ _ EndsOnce-last)
          (λ next out few kept.
          (out, subst (λ o. IsIn code p (option_map (finished code p exchange) o) next) (sym is) (few, kept)))
          (λ stores. refl) tt
          (λ from words. IfOnly-stores local _ (IfStores-written local from p items words local.stores is_local.parts.stores))

      kept_start : (exchange : ℕ) → slice_get code.code local.at ≡ Some (instr.Start exchange) → (found : Option (List Item))
          → slice_get code.exchanges exchange ≡ found
          → IsKept (act_together (option_map (started code p exchange) found) local Outside)
      kept_start exchange here None is = tt
      kept_start exchange here (Some items) is =
          used_in (started code p exchange items) local _ (using_start exchange items is here)
          (IsLocal-left local (local.at + 1) is_local.parts (omega (arith, slice_get_within code.code local.at _ here))) refl

      kept_finish : (exchange : ℕ) → slice_get code.code local.at ≡ Some (instr.Finish exchange) → (found : Option (List Item))
          → slice_get code.exchanges exchange ≡ found
          → IsKept (act_together (option_map (finished code p exchange) found) local Outside)
      kept_finish exchange here None is = tt
      kept_finish exchange here (Some items) is =
          used_in (finished code p exchange items) local _ (using_finish exchange items is here)
          (IsLocal-left local (local.at + 1) is_local.parts (omega (arith, slice_get_within code.code local.at _ here))) refl

      fed_start : (exchange : ℕ) (message : Message) → slice_get code.code local.at ≡ Some (instr.Start exchange)
          → (found : Option (List Item)) → slice_get code.exchanges exchange ≡ found
          → IsFedKept (fed_together (option_map (started code p exchange) found) local message)
      fed_start exchange message here None is = tt
      fed_start exchange message here (Some items) is =
          used_fed (started code p exchange items) local message _ (using_start exchange items is here) refl

      fed_finish : (exchange : ℕ) (message : Message) → slice_get code.code local.at ≡ Some (instr.Finish exchange)
          → (found : Option (List Item)) → slice_get code.exchanges exchange ≡ found
          → IsFedKept (fed_together (option_map (finished code p exchange) found) local message)
      fed_finish exchange message here None is = tt
      fed_finish exchange message here (Some items) is =
          used_fed (finished code p exchange items) local message _ (using_finish exchange items is here) refl

      kept_clear : (array : ℕ) (found : Option Array) → slice_get local.stores array ≡ found → local.at < length code.code
          → IsKept (cleared local array found)
      kept_clear array None is below = tt
      kept_clear array (Some store) is below =
          let found = AllZip-back (IsStore code p) code.arrays local.stores array store is_local.parts.stores is in
          IsLocal-left (with_store local array (zeros_at store.storage)) (local.at + 1) (record {
            scalars = is_local.parts.scalars;
            cells = is_local.parts.cells;
            slots = is_local.parts.slots;
            stores = AllZip-set (IsStore code p) code.arrays local.stores array found.0 (zeros_at store.storage)
                is_local.parts.stores found.1 (record {
                  filled = record { filled = length-map _ _; steps = found.2.filled.steps };
                  places = found.2.places;
                });
            flag = is_local.parts.flag;
          }) (omega arith)

      -- ---- `loop`
      not_ended : IsSome local.ended → ⊥
      not_ended some = by local.ended none some
        where
          by : (ended : Option End) → ended ≡ None → IsSome ended → ⊥
          by None e h = cc
          by (Some ending) e h = cc

      writes_kept : (t : List ℤ) (stores : List Array) (array : ℕ) (value : ℤ) → AreStores stores
          → IfSome ((access_at t).with_element stores array value) AreStores
      writes_kept t stores array value are =
          as_some (with_value stores array t value) (IfStores-value stores array t value are)
        where
          as_some : (found : Option (List Array)) → IfStores found → IfSome found AreStores
          as_some None all = tt
          as_some (Some more) all = all

      flag_kept : (group member : ℕ) (all : List Member) → slice_get code.groups group ≡ Some all → member < length all
          → (flag : Option ℕ) → IfSome flag (λ m. Any (λ members. m < length members) code.groups)
          → IfSome (flagged flag member) (λ m. Any (λ members. m < length members) code.groups)
      flag_kept group member all grouped below flag is = by flag is
        where
          here : Any (λ members. member < length members) code.groups
          here = (
            group,
            all,
            slice_get_within code.groups group all grouped,
            get_or_from_slice_get code.groups group all all grouped,
            below,
          )

          least : (b : Bool) (old : ℕ) → Any (λ members. old < length members) code.groups
              → IfSome (cond b (Some member) (Some old)) (λ m. Any (λ members. m < length members) code.groups)
          least true old there = here
          least false old there = there

          by : (flag : Option ℕ) → IfSome flag (λ m. Any (λ members. m < length members) code.groups)
              → IfSome (flagged flag member) (λ m. Any (λ members. m < length members) code.groups)
          by None old = here
          by (Some old) there = least (nat_lt member old) old there

      module _ (slot group : ℕ) (here : slice_get code.code local.at ≡ Some (instr.Loop slot group)) (region : Region)
          (there : slice_get local.slots slot ≡ Some region) (all : List Member)
          (grouped : slice_get code.groups group ≡ Some all) where
        in_loop : IsInLoop all (length (members (own_part code p region))) local
        in_loop =
            subst (λ a. IsLooping code p local (Some region) a) grouped
            (subst (λ r. IsLooping code p local r (slice_get code.groups group)) there
            (subst (IsAt code p local) here (is_local.running none)))

        IsLocal-looping : (next : Local) → HasParts code p next → next.at ≡ local.at → next.slots ≡ local.slots
            → next.ended ≡ local.ended → IsInLoop all (length (members (own_part code p region))) next → IsLocal code p next
        IsLocal-looping next parts same_at same_slots same_end looping = record {
          number = inside;
          parts = parts;
          at = omega (arith, is_local.at, same_at);
          running = λ open_still. subst (IsAt code p next) (sym (ap (slice_get code.code) same_at ∙ here))
              (subst (λ r. IsLooping code p next r (slice_get code.groups group)) (sym (ap (λ s. slice_get s slot) same_slots ∙ there))
              (subst (λ a. IsLooping code p next (Some region) a) (sym grouped) looping));
          over = λ some. absurd (not_ended (subst (λ (e : Option End). IsSome e) same_end some));
        }

        kept_ran_on : (t : List ℤ) → local.index < length (members (own_part code p region)) → (ran : Ran (List Array))
            → IsKeptRan code (access_at t) AreStores (writes_kept t) code.scalars code.cells all ran
            → IsKept (after_members local ran)
        kept_ran_on t below (Through point) is =
            IsLocal-looping (next_index (with_point local point)) (record {
              scalars = is.scalars_are;
              cells = is.cells_are;
              slots = is_local.parts.slots;
              stores = is.store_is;
              flag = is_local.parts.flag;
            }) refl refl refl (record {
              fresh = record { made = in_loop.fresh.made; kept = in_loop.fresh.kept };
              index = omega (arith, below);
              begins = inl refl;
            })
        kept_ran_on t below (Again member point) is =
            IsLocal-looping (record (with_point local point) { member = member }) (record {
              scalars = is.0.scalars_are;
              cells = is.0.cells_are;
              slots = is_local.parts.slots;
              stores = is.0.store_is;
              flag = is_local.parts.flag;
            }) refl refl refl (record {
              fresh = record { made = in_loop.fresh.made; kept = in_loop.fresh.kept };
              index = in_loop.index;
              begins = inr (below, is.1);
            })
        kept_ran_on t below (Divided member point) is =
            IsLocal-looping (record (next_index (with_point local point)) { flag = flagged local.flag member }) (record {
              scalars = is.0.scalars_are;
              cells = is.0.cells_are;
              slots = is_local.parts.slots;
              stores = is.0.store_is;
              flag = flag_kept group member all grouped is.1 local.flag is_local.parts.flag;
            }) refl refl refl (record {
              fresh = record { made = in_loop.fresh.made; kept = in_loop.fresh.kept };
              index = omega (arith, below);
              begins = inl refl;
            })
        kept_ran_on t below Unheld is = tt

        kept_index : (t : Option (List ℤ)) → slice_get (members (own_part code p region)) local.index ≡ t
            → IsKept (turn_at_index code all local t)
        kept_index (Some t) is =
            kept_ran_on t (slice_get_within (members (own_part code p region)) local.index t is) _
            (kept_ran code (access_at t) AreStores (writes_kept t) code.scalars code.cells all local.member Runs
            (drop local.member all) (point_of local) (group_fits code group all fits_tables grouped).nest refl (record {
              scalars_are = is_local.parts.scalars;
              cells_are = is_local.parts.cells;
              store_is = is_local.parts.stores;
            }))
        kept_index None is =
            IsLocal-left local (local.at + 1) is_local.parts (omega (arith, slice_get_within code.code local.at _ here))

      kept_loop : (slot group : ℕ) → slice_get code.code local.at ≡ Some (instr.Loop slot group) → (region : Option Region)
          → slice_get local.slots slot ≡ region → (all : Option (List Member)) → slice_get code.groups group ≡ all
          → IsKept (looped code p local region all)
      kept_loop slot group here None there None grouped = tt
      kept_loop slot group here None there (Some all) grouped = tt
      kept_loop slot group here (Some region) there None grouped = tt
      kept_loop slot group here (Some region) there (Some all) grouped =
          kept_index slot group here region there all grouped _ refl

      -- ---- `room`
      is_row : (array : ℕ) (row : ArrayRow) (P : ArrayRow → Type 0) → slice_get code.arrays array ≡ Some row
          → IsSomeAnd (slice_get code.arrays array) P → P row
      is_row array row P is there = subst (λ (o : Option ArrayRow). IsSomeAnd o P) is there

      IsStore-room : (row : ArrayRow) (region : Region) → FitsArray row → length row.dims ≡ 3 → row.stored ≡ false
          → IsSlot row.rank region → (empty : Bool) → has_none (own_part code p region) ≡ empty
          → IsStore code p row (zeros_at (room_of row (own_part code p region) empty))
      IsStore-room row region fits three temporary slot true is = record {
        filled = record { filled = length-map _ _; steps = no_steps row.rank };
        places = subst (λ b. ArePlaces code p row b (no_places row.rank)) (sym temporary) (inl refl);
      }
      IsStore-room row region fits three temporary slot false is = record {
        filled = record { filled = length-map _ _; steps = room_steps code p row region fits three slot is };
        places = subst (λ b. ArePlaces code p row b (room_of row (own_part code p region) false)) (sym temporary)
            (inr (is_room code p row region fits three slot is));
      }

      kept_room : (array slot : ℕ) → slice_get code.code local.at ≡ Some (instr.Room array slot)
          → FitsInstr code (instr.Room array slot) → HasThree code (instr.Room array slot) → (row : Option ArrayRow)
          → slice_get code.arrays array ≡ row → (region : Option Region) → slice_get local.slots slot ≡ region
          → IsKept (roomed code p local array row region)
      kept_room array slot here fits three None is None there = tt
      kept_room array slot here fits three None is (Some region) there = tt
      kept_room array slot here fits three (Some row) is None there = tt
      kept_room array slot here fits three (Some row) is (Some region) there =
          let found = AllZip-back IsSlot code.slots local.slots slot region is_local.parts.slots there in
          let ranked : row.rank ≡ fits.rank = is_row array row (λ r. r.rank ≡ fits.rank) is fits.fit.1 in
          let same : found.0 ≡ row.rank = let one = found.1 in let two = fits.fit.0 in cc in
          let store = zeros_at (room_of row (own_part code p region) (has_none (own_part code p region))) in
          IsLocal-left (with_store local array store) (local.at + 1) (record {
            scalars = is_local.parts.scalars;
            cells = is_local.parts.cells;
            slots = is_local.parts.slots;
            stores = AllZip-set (IsStore code p) code.arrays local.stores array row store is_local.parts.stores is
                (IsStore-room row region (array_fits code array row fits_tables is)
                (subst (λ (o : Option ArrayRow). IfSome o (λ r. length r.dims ≡ 3)) is three)
                (is_row array row (λ r. r.stored ≡ false) is fits.fit.2)
                (subst (λ rank. IsSlot rank region) same found.2) _ refl);
            flag = is_local.parts.flag;
          }) (omega (arith, slice_get_within code.code local.at _ here))

      -- ---- `remap`
      -- one more turn, after which this is the state
      abbrev IfNext : Option Local → Type 0
      IfNext None = Unit {0}
      IfNext (Some next) = IsLocal code p (record next { made = next.made + 1 })

      steps_next : (next : Option Local) → IfNext next → IsKept (steps_on next)
      steps_next None is = tt
      steps_next (Some next) is = is

      takes_next : (next : Option Local) → IfNext next → IsFedKept (takes next)
      takes_next None is = tt
      takes_next (Some next) is = is

      module _ (array slot from : ℕ) (ps : List ℕ) (row : ArrayRow) (apart : All (λ part. part ≢ array) ps)
          (below : local.at < length code.code) (outside : IsOutside local)
          (in_row : IsIn code p (Some (remapped code p array slot from ps row)) local)
          (again : (next : Local) → next.at ≡ local.at → IsOutside next
          → IsIn code p (Some (remapped code p array slot from ps row)) next → Stands code p next) where
        abbrev remap_row : Collective
        remap_row = remapped code p array slot from ps row

        remap_ends : EndsOnce (remap_row.stages local)
        remap_ends = EndsOnce-remapped code p array slot from ps local (Some row) remap_row refl

        still_asked : (next : Local) → All (IsRequest remap_row (record next { made = 0 })) local.kept
        still_asked next =
            λ i d within. IsRequest-asked code p array slot from ps row next _
            (IsAsked-request code p array slot from ps row local _ (in_row.1.1 i d within))

        -- words are written to the target, or nothing is
        wrote : (stores : List Array) (stage : Stage) → AreStores stores → IsApart array local.stores stores
            → slice_get (remap_row.stages local) local.made ≡ Some stage → IsNotLast stage
            → IsLocal code p (record local { made = local.made + 1; stores = stores })
        wrote stores stage are same here not_last =
            let next = record local { made = local.made + 1; stores = stores } in
            let longer : next.made < length (remap_row.stages next) =
            omega (
              arith,
              ap length (same_stages code p array slot from ps row local next refl refl same apart),
              more_stages (remap_row.stages local) local.made stage remap_ends here not_last,
            ) in
            record {
              number = inside;
              parts = record {
                scalars = is_local.parts.scalars;
                cells = is_local.parts.cells;
                slots = is_local.parts.slots;
                stores = are;
                flag = is_local.parts.flag;
              };
              at = is_local.at;
              running = λ open_still. again next refl (record { index = outside.index; member = outside.member })
                  (longer, (IsPart-later _ (others code p) local.made (processors code) in_row.1.0, still_asked next));
              over = λ some. absurd (not_ended some);
            }

        wrote_words : (places : List (List ℤ)) (words : List ℤ) (stage : Stage)
            → slice_get (remap_row.stages local) local.made ≡ Some stage → IsNotLast stage
            → IfNext (option_map (λ stores. record local { stores = stores }) (with_values array places words local.stores))
        wrote_words places words stage here not_last =
            by (with_values array places words local.stores)
            (IfStores-values array places words local.stores is_local.parts.stores)
            (values_apart array places words local.stores)
          where
            by : (stores : Option (List Array)) → IfStores stores → IfApart array local.stores stores
                → IfNext (option_map (λ s. record local { stores = s }) stores)
            by None are same = tt
            by (Some stores) are same = wrote stores stage are same here not_last

        stayed : (stage : Stage) → slice_get (remap_row.stages local) local.made ≡ Some stage → IsNotLast stage
            → IsLocal code p (record local { made = local.made + 1 })
        stayed stage here not_last =
            wrote local.stores stage is_local.parts.stores (record { same = λ other e. refl }) here not_last

        -- a request is kept
        kept_request : (q : ℕ) (words : List ℤ) → slice_get (remap_row.stages local) local.made ≡ Some (TakesFrom q)
            → local.made ≤ 2 * (processors code - 1) → IsAsked code p array slot from ps row (q, words)
            → IsLocal code p (record (keeping local q words) { made = local.made + 1 })
        kept_request q words here early asked =
            let next = record (keeping local q words) { made = local.made + 1 } in
            let many = length-others code p inside in
            let by = asked_by (others code p) _ local.made q here (omega (arith, many, early)) in
            let before : local.made - processors code ≡ by.k = omega (arith, by.is, many) in
            let behind : suc by.k ≡ local.made + 1 - processors code = omega (arith, by.is, many) in
            let longer : next.made < length (remap_row.stages next) =
            omega (arith, long_stages code p array slot from ps row next, many, early) in
            let senders_are : IsPart (map (λ (entry : ℕ × List ℤ). entry.0) next.kept) (take (local.made + 1 - processors code) (others code p)) =
            subst (λ n. IsPart (map (λ (entry : ℕ × List ℤ). entry.0) next.kept) (take n (others code p))) behind
            (subst (λ list. IsPart list (take (suc by.k) (others code p))) (sym (senders-kept q words local.kept))
            (IsPart-next code p by.k q _ by.there
            (subst (λ n. IsPart (map (λ (entry : ℕ × List ℤ). entry.0) local.kept) (take n (others code p))) before in_row.1.0))) in
            record {
              number = inside;
              parts = record {
                scalars = is_local.parts.scalars;
                cells = is_local.parts.cells;
                slots = is_local.parts.slots;
                stores = is_local.parts.stores;
                flag = is_local.parts.flag;
              };
              at = is_local.at;
              running = λ open_still. again next refl (record { index = outside.index; member = outside.member }) (
                longer,
                (
                  senders_are,
                  All-kept (IsRequest remap_row (record next { made = 0 })) q words local.kept
                      (IsRequest-asked code p array slot from ps row next (q, words) asked) (still_asked next),
                ),
              );
              over = λ some. absurd (not_ended some);
            }

        remap_taken : (q : ℕ) (words : List ℤ) → slice_get (remap_row.stages local) local.made ≡ Some (TakesFrom q)
            → remap_row.awaits local q (length words) ≡ true → IfNext (remap_row.taken local q words)
        remap_taken q words here fit = by (is_asking code p array slot from ps row local) refl
          where
            whole : is_asking code p array slot from ps row local ≡ true → (length words % row.rank == 0) ≡ true
            whole asking = subst (λ b. cond b (length words % row.rank == 0)
                (length words == length (some_wants code p array slot from ps row (wants code p array slot from ps row local) q)) ≡ true) asking fit

            as_words : (none : Bool) → (length words == 0) ≡ none → is_asking code p array slot from ps row local ≡ true
                → owns_all code p array slot from ps row words ≡ true → IfNext (Some (cond none local (keeping local q words)))
            as_words true empty asking owned = stayed (TakesFrom q) here tt
            as_words false some asking owned =
                let early : local.made ≤ 2 * (processors code - 1) = grind (arith, nat_tests) in
                kept_request q words here early (record {
                  some = grind (arith, nat_tests);
                  whole = whole asking;
                  owned = owned;
                })

            as_owned : (owned : Bool) → owns_all code p array slot from ps row words ≡ owned
                → is_asking code p array slot from ps row local ≡ true
                → IfNext (request_taken code p array slot from ps row local q words owned)
            as_owned true owned asking = as_words (length words == 0) refl asking owned
            as_owned false owned asking = tt

            by : (asking : Bool) → is_asking code p array slot from ps row local ≡ asking
                → IfNext (cond asking (request_taken code p array slot from ps row local q words (owns_all code p array slot from ps row words))
                (written code p array slot from ps row (some_wants code p array slot from ps row (wants code p array slot from ps row local) q) words local))
            by true asking = as_owned (owns_all code p array slot from ps row words) refl asking
            by false asking = wrote_words _ words (TakesFrom q) here tt

        remap_alone : slice_get (remap_row.stages local) local.made ≡ Some Alone → IfNext (remap_row.alone local)
        remap_alone here = by (wants code p array slot from ps row local)
          where
            with_values_of : (all : List Want) (values : Option (List ℤ))
                → IfNext (option_and_then (λ found. written code p array slot from ps row (wants_at_once code p array slot from ps row all) found local) values)
            with_values_of all None = tt
            with_values_of all (Some values) = wrote_words _ values Alone here tt

            by : (all : Option (List Want)) → IfNext (option_and_then (remap_own code p array slot from ps row local) all)
            by None = tt
            by (Some all) = with_values_of all _

        remap_in : (stage : Option Stage) → slice_get (remap_row.stages local) local.made ≡ stage
            → IsKept (act_in remap_row local stage)
        remap_in (Some Alone) here = steps_next _ (remap_alone here)
        remap_in (Some (Sends to)) here = by (remap_row.words_to local to)
          where
            by : (words : Option (List ℤ)) → IsKept (sends remap_row local to words)
            by (Some words) = stayed (Sends to) here tt
            by None = tt
        remap_in (Some (TakesFrom q)) here = tt
        remap_in (Some Last) here = IsLocal-left local (local.at + 1) is_local.parts (omega (arith, below))
        remap_in None here = tt

        remap_by : (q : ℕ) (message : Message) → slice_get (remap_row.stages local) local.made ≡ Some (TakesFrom q)
            → IsFedKept (fed_by remap_row local q message)
        remap_by q message here = by (message.tag == remap_row.tag local) (remap_row.awaits local q (length message.words)) refl
          where
            by : (tagged long : Bool) → remap_row.awaits local q (length message.words) ≡ long
                → IsFedKept (cond tagged (cond long (takes (remap_row.taken local q message.words)) (Refuses WrongLength)) (Refuses WrongTag))
            by true true fit = takes_next _ (remap_taken q message.words here fit)
            by true false fit = tt
            by false long fit = tt

        remap_fed : (message : Message) (stage : Option Stage) → slice_get (remap_row.stages local) local.made ≡ stage
            → IsFedKept (fed_in remap_row local message stage)
        remap_fed message (Some Alone) here = tt
        remap_fed message (Some (Sends to)) here = tt
        remap_fed message (Some (TakesFrom q)) here = remap_by q message here
        remap_fed message (Some Last) here = tt
        remap_fed message None here = tt

      remap_apart : (array slot from : ℕ) (parts : List (Option ℕ)) (row : ArrayRow)
          → FitsInstr code (instr.Remap array slot from parts) → slice_get code.arrays from ≡ Some row
          → All (λ part. part ≢ array) (filter_map (λ part. part) parts)
      remap_apart array slot from parts row fits is =
          let remap = is_row from row (FitsRemap code fits.rank array parts) is fits.fit.3 in
          parts_apart array parts
          (subst (All (IsOther array)) (take-append-drop row.rank parts)
          (All-append (IsOther array) (take row.rank parts) (drop row.rank parts)
          (λ i d within. given _ (remap.given i d within)) (λ i d within. absent _ (remap.absent i d within))))
        where
          given : (part : Option ℕ) → IsSomeAnd part (IsIndexArray code fits.rank array) → IsOther array part
          given None there = tt
          given (Some part) there = there.2

          absent : (part : Option ℕ) → IsNone part → IsOther array part
          absent None there = tt
          absent (Some part) there = cc

      module _ (array slot from : ℕ) (parts : List (Option ℕ))
          (here : slice_get code.code local.at ≡ Some (instr.Remap array slot from parts))
          (fits : FitsInstr code (instr.Remap array slot from parts)) where
        remap_at : IsAt code p local (Some (instr.Remap array slot from parts))
        remap_at = subst (IsAt code p local) here (is_local.running none)

        remap_again : (row : ArrayRow) → slice_get code.arrays from ≡ Some row → (next : Local) → next.at ≡ local.at → IsOutside next
            → IsIn code p (Some (remapped code p array slot from (filter_map (λ part. part) parts) row)) next → Stands code p next
        remap_again row is next same out in_row =
            subst (IsAt code p next) (sym (ap (slice_get code.code) same ∙ here))
            (out, subst (λ o. IsIn code p (option_map (remapped code p array slot from (filter_map (λ part. part) parts)) o) next) (sym is) in_row)

        remap_row_in : (row : ArrayRow) → slice_get code.arrays from ≡ Some row
            → IsIn code p (Some (remapped code p array slot from (filter_map (λ part. part) parts) row)) local
        remap_row_in row is =
            subst (λ o. IsIn code p (option_map (remapped code p array slot from (filter_map (λ part. part) parts)) o) local) is remap_at.1

        kept_remap : (found : Option ArrayRow) → slice_get code.arrays from ≡ found
            → IsKept (act_together (option_map (remapped code p array slot from (filter_map (λ part. part) parts)) found) local Outside)
        kept_remap None is = tt
        kept_remap (Some row) is =
            remap_in array slot from _ row (remap_apart array slot from parts row fits is)
            (slice_get_within code.code local.at _ here) remap_at.0 (remap_row_in row is) (remap_again row is) _ refl

        fed_remap : (message : Message) (found : Option ArrayRow) → slice_get code.arrays from ≡ found
            → IsFedKept (fed_together (option_map (remapped code p array slot from (filter_map (λ part. part) parts)) found) local message)
        fed_remap message None is = tt
        fed_remap message (Some row) is =
            remap_fed array slot from _ row (remap_apart array slot from parts row fits is)
            (slice_get_within code.code local.at _ here) remap_at.0 (remap_row_in row is) (remap_again row is) message _ refl

      standing : (row : Instr) → slice_get code.code local.at ≡ Some row → IsAt code p local (Some row)
      standing row here = subst (IsAt code p local) here (is_local.running none)

      below_of : (row : Instr) → slice_get code.code local.at ≡ Some row → local.at < length code.code
      below_of row here = slice_get_within code.code local.at row here

      controlled_row : (row : Instr) → slice_get code.code local.at ≡ Some row → FitsInstr code row → HasThree code row
          → IsKept (controlled local (control code (registers_of local) row))
      controlled_row row here fits whole =
          IsKept-controlled local _ is_local.parts (below_of row here)
          (IsFine-control slot_fits limit_told (registers_of local) row fits whole (is_local.parts.scalars, is_local.parts.slots))

      kept_row : (row : Instr) → slice_get code.code local.at ≡ Some row → FitsInstr code row → HasThree code row
          → IsKept (act_at code p local (Some row))
      kept_row (instr.Set scalar expr line) here fits three = controlled_row _ here fits tt
      kept_row (instr.Fix slot region) here fits three = controlled_row _ here fits three
      kept_row (instr.Dims slot parts line) here fits three = controlled_row _ here fits three
      kept_row (instr.Formed form slot from shift line) here fits three = controlled_row _ here fits tt
      kept_row (instr.Need slot array shift line) here fits three = controlled_row _ here fits tt
      kept_row (instr.Same target source kind line) here fits three = controlled_row _ here fits tt
      kept_row (instr.Fits slot shift line) here fits three = controlled_row _ here fits tt
      kept_row (instr.Room array slot) here fits three =
          kept_room array slot here fits three (slice_get code.arrays array) refl (slice_get local.slots slot) refl
      kept_row (instr.Clear array) here fits three = kept_clear array (slice_get local.stores array) refl (below_of _ here)
      kept_row (instr.Loop slot group) here fits three =
          kept_loop slot group here (slice_get local.slots slot) refl (slice_get code.groups group) refl
      kept_row (instr.Start exchange) here fits three = kept_start exchange here (slice_get code.exchanges exchange) refl
      kept_row (instr.Finish exchange) here fits three = kept_finish exchange here (slice_get code.exchanges exchange) refl
      kept_row (instr.Edge kind array slot shift) here fits three =
          used_in (edged code p kind array slot shift) local _ (using_edge kind array slot shift here)
          (IsLocal-left local (local.at + 1) is_local.parts (omega (arith, below_of _ here))) refl
      kept_row (instr.Flood array target from source) here fits three =
          used_in (flooded code p array target from source) local _ (using_flood array target from source here)
          (IsLocal-left local (local.at + 1) is_local.parts (omega (arith, below_of _ here))) refl
      kept_row (instr.Part array target f from source) here fits three =
          used_in (parted code p array target f from source) local _ (using_part array target f from source here)
          (IsLocal-left local (local.at + 1) is_local.parts (omega (arith, below_of _ here))) refl
      kept_row (instr.Scan array slot f along from mask) here fits three =
          let c = scanned_row code p f along from mask array slot in
          let at = standing (instr.Scan array slot f along from mask) here in
          IsKept-in c local _ (keeping_in (instr.Scan array slot f along from mask) c here at.0 at.1.0 at.1.1
          (EndsOnce-sends (λ q. q) _ _ (EndsOnce-takes _ _ EndsOnce-last)) (λ next out few words. (out, (few, words))))
          (IsCalm-scanned f along from mask array slot local)
          (IsKept-scan f along from mask array local (region_in local slot) is_local.parts (below_of _ here)) refl
      kept_row (instr.Remap array slot from parts) here fits three =
          kept_remap array slot from parts here fits (slice_get code.arrays from) refl
      kept_row (instr.Vote group) here fits three =
          let c = voted code (star code p) group in
          let at = standing (instr.Vote group) here in
          IsKept-in c local _ (keeping_in (instr.Vote group) c here at.0 at.1.0 at.1.1 (EndsOnce-agreeing code p (star code p))
          (λ next out few words. (out, (few, words)))) (IsCalm-voted (star code p) group local)
          (IsKept-decided group local _ is_local.parts (below_of _ here)) refl
      kept_row (instr.TreeVote group) here fits three =
          let c = voted code (tree code p) group in
          let at = standing (instr.TreeVote group) here in
          IsKept-in c local _ (keeping_in (instr.TreeVote group) c here at.0 at.1.0 at.1.1 (EndsOnce-agreeing code p (tree code p))
          (λ next out few words. (out, (few, words)))) (IsCalm-voted (tree code p) group local)
          (IsKept-decided group local _ is_local.parts (below_of _ here)) refl
      kept_row (instr.Fold scalar f) here fits three =
          let c = folded (star code p) scalar f in
          let at = standing (instr.Fold scalar f) here in
          IsKept-in c local _ (keeping_in (instr.Fold scalar f) c here at.0 at.1.0 at.1.1 (EndsOnce-agreeing code p (star code p))
          (λ next out few words. (out, (few, words)))) (IsCalm-folded (star code p) scalar f local)
          (IsKept-folded (star code p) scalar f local is_local.parts (below_of _ here)) refl
      kept_row (instr.TreeFold scalar f) here fits three =
          let c = folded (tree code p) scalar f in
          let at = standing (instr.TreeFold scalar f) here in
          IsKept-in c local _ (keeping_in (instr.TreeFold scalar f) c here at.0 at.1.0 at.1.1 (EndsOnce-agreeing code p (tree code p))
          (λ next out few words. (out, (few, words)))) (IsCalm-folded (tree code p) scalar f local)
          (IsKept-folded (tree code p) scalar f local is_local.parts (below_of _ here)) refl
      kept_row (instr.Print text) here fits three =
          IsKept-text local (slice_get code.texts text) is_local.parts (below_of _ here)
      kept_row (instr.Number expr) here fits three = IsKept-value local _ _ is_local.parts (below_of _ here)
      kept_row (instr.Truth expr) here fits three = IsKept-value local _ _ is_local.parts (below_of _ here)
      kept_row (instr.Gather truth array slot) here fits three =
          let c = gathered code p truth array slot in
          let at = standing (instr.Gather truth array slot) here in
          IsKept-in c local _ (keeping_in (instr.Gather truth array slot) c here at.0 at.1.0 at.1.1
          (EndsOnce-gather code p p (region_in local slot)) (λ next out few words. (out, (few, words))))
          (IsCalm-gathered truth array slot local)
          (IsKept-gathered p truth array (region_in local slot) local is_local.parts (below_of _ here)) refl
      kept_row (instr.Jump goal) here fits three = controlled_row _ here fits tt
      kept_row (instr.Unless expr goal line) here fits three = controlled_row _ here fits tt
      kept_row (instr.Trap kind line) here fits three = controlled_row _ here fits tt
      kept_row instr.End here fits three = controlled_row _ here fits tt

      kept_next : (next : Option Instr) → slice_get code.code local.at ≡ next → IfSome next (HasThree code)
          → IsKept (act_at code p local next)
      kept_next None here three = IsLocal-ended local _ is_local.parts is_local.at
      kept_next (Some row) here three = kept_row row here (instr_fits code local.at row fits_tables here) three

      -- ---- and messages
      fed_row : (row : Instr) (message : Message) → slice_get code.code local.at ≡ Some row
          → IsFedKept (fed_at code p local message (Some row))
      fed_row (instr.Start exchange) message here =
          fed_start exchange message here (slice_get code.exchanges exchange) refl
      fed_row (instr.Finish exchange) message here =
          fed_finish exchange message here (slice_get code.exchanges exchange) refl
      fed_row (instr.Edge kind array slot shift) message here =
          used_fed (edged code p kind array slot shift) local message _ (using_edge kind array slot shift here) refl
      fed_row (instr.Flood array target from source) message here =
          used_fed (flooded code p array target from source) local message _ (using_flood array target from source here) refl
      fed_row (instr.Part array target f from source) message here =
          used_fed (parted code p array target f from source) local message _ (using_part array target f from source here) refl
      fed_row (instr.Scan array slot f along from mask) message here =
          let c = scanned_row code p f along from mask array slot in
          let at = standing (instr.Scan array slot f along from mask) here in
          IsFedKept-in c local message _ (keeping_in (instr.Scan array slot f along from mask) c here at.0 at.1.0 at.1.1
          (EndsOnce-sends (λ q. q) _ _ (EndsOnce-takes _ _ EndsOnce-last)) (λ next out few words. (out, (few, words))))
          (IsCalm-scanned f along from mask array slot local) refl
      fed_row (instr.Remap array slot from parts) message here =
          fed_remap array slot from parts here (instr_fits code local.at _ fits_tables here) message (slice_get code.arrays from) refl
      fed_row (instr.Vote group) message here =
          let c = voted code (star code p) group in
          let at = standing (instr.Vote group) here in
          IsFedKept-in c local message _ (keeping_in (instr.Vote group) c here at.0 at.1.0 at.1.1
          (EndsOnce-agreeing code p (star code p)) (λ next out few words. (out, (few, words))))
          (IsCalm-voted (star code p) group local) refl
      fed_row (instr.TreeVote group) message here =
          let c = voted code (tree code p) group in
          let at = standing (instr.TreeVote group) here in
          IsFedKept-in c local message _ (keeping_in (instr.TreeVote group) c here at.0 at.1.0 at.1.1
          (EndsOnce-agreeing code p (tree code p)) (λ next out few words. (out, (few, words))))
          (IsCalm-voted (tree code p) group local) refl
      fed_row (instr.Fold scalar f) message here =
          let c = folded (star code p) scalar f in
          let at = standing (instr.Fold scalar f) here in
          IsFedKept-in c local message _ (keeping_in (instr.Fold scalar f) c here at.0 at.1.0 at.1.1
          (EndsOnce-agreeing code p (star code p)) (λ next out few words. (out, (few, words))))
          (IsCalm-folded (star code p) scalar f local) refl
      fed_row (instr.TreeFold scalar f) message here =
          let c = folded (tree code p) scalar f in
          let at = standing (instr.TreeFold scalar f) here in
          IsFedKept-in c local message _ (keeping_in (instr.TreeFold scalar f) c here at.0 at.1.0 at.1.1
          (EndsOnce-agreeing code p (tree code p)) (λ next out few words. (out, (few, words))))
          (IsCalm-folded (tree code p) scalar f local) refl
      fed_row (instr.Gather truth array slot) message here =
          let c = gathered code p truth array slot in
          let at = standing (instr.Gather truth array slot) here in
          IsFedKept-in c local message _ (keeping_in (instr.Gather truth array slot) c here at.0 at.1.0 at.1.1
          (EndsOnce-gather code p p (region_in local slot)) (λ next out few words. (out, (few, words))))
          (IsCalm-gathered truth array slot local) refl
      fed_row row message here = tt

      fed_next : (next : Option Instr) (message : Message) → slice_get code.code local.at ≡ next
          → IsFedKept (fed_at code p local message next)
      fed_next None message here = tt
      fed_next (Some row) message here = fed_row row message here

    -- ---- moves and messages
    module _ (slot_fits : (tables : Tables) (i rank : ℕ) → Fits tables → slice_get tables.slots i ≡ Some rank → IsRank rank)
        (array_fits : (tables : Tables) (i : ℕ) (row : ArrayRow) → Fits tables → slice_get tables.arrays i ≡ Some row → FitsArray row)
        (group_fits : (tables : Tables) (i : ℕ) (members : List Member) → Fits tables → slice_get tables.groups i ≡ Some members
        → FitsGroup tables members)
        (limit_told : (r : Region) → All HasStep r.dims → IsTrue (is_within_limit r) ↔ IsWithinLimit r) where
      pub IsLocal-act : (local next : Local) (sent : Option (ℕ × Message)) (shown : List ℕ)
          → NextHasThree code local → IsLocal code p local → act code p local ≡ Goes next sent shown
          → IsLocal code p next
      IsLocal-act local next sent shown three is_local goes = by local.ended refl
        where
          ended_is : (ended : Option End) (ending : End) (action : Action) → ended ≡ Some ending
              → unless_ended ended action ≡ Ended
          ended_is (Some e) ending action is = refl
          ended_is None ending action is = cc

          by : (ended : Option End) → local.ended ≡ ended → IsLocal code p next
          by (Some ending) is =
              let ended : act code p local ≡ Ended =
              ended_is local.ended ending (act_at code p local (slice_get code.code local.at)) is in
              let no : Ended ≡ Goes next sent shown = sym ended ∙ goes in cc
          by None is =
              let open_still : act code p local ≡ act_at code p local (slice_get code.code local.at) =
              ap (λ e. unless_ended e (act_at code p local (slice_get code.code local.at))) is in
              subst IsKept (sym open_still ∙ goes)
              (kept_next slot_fits array_fits group_fits limit_told local is_local is (slice_get code.code local.at) refl three)

      pub IsLocal-fed : (local next : Local) (from : ℕ) (message : Message)
          → IsLocal code p local → act code p local ≡ Awaits from
          → fed code p local message ≡ Takes next → IsLocal code p next
      IsLocal-fed local next from message is_local awaits takes = by local.ended refl
        where
          ended_is : (ended : Option End) (ending : End) (action : Action) → ended ≡ Some ending
              → unless_ended ended action ≡ Ended
          ended_is (Some e) ending action is = refl
          ended_is None ending action is = cc

          by : (ended : Option End) → local.ended ≡ ended → IsLocal code p next
          by (Some ending) is =
              let ended : act code p local ≡ Ended =
              ended_is local.ended ending (act_at code p local (slice_get code.code local.at)) is in
              let no : Ended ≡ Awaits from = sym ended ∙ awaits in cc
          by None is =
              subst IsFedKept takes
              (fed_next slot_fits array_fits group_fits limit_told local is_local is (slice_get code.code local.at) message refl)

      -- ---- the start
      none_within : (rank : ℕ) → IsRank rank → is_within_limit (no_places rank) ≡ true
      none_within zero ranked = absurd (omega (arith, ranked.0))
      none_within (suc zero) ranked = refl
      none_within (suc (suc zero)) ranked = refl
      none_within (suc (suc (suc zero))) ranked = refl
      none_within (suc (suc (suc (suc rank)))) ranked = absurd (omega (arith, ranked.1))

      IsSlot-none : (rank : ℕ) → IsRank rank → IsSlot rank (no_places rank)
      IsSlot-none rank ranked =
          let steps = no_steps rank in
          record {
            ranked = refl;
            many = omega (
              arith,
              length-append (replicate rank (all_from (pos 1) (pos 0))) (replicate (3 - rank) padding),
              length-replicate rank (all_from (pos 1) (pos 0)),
              length-replicate (3 - rank) padding,
              ranked.1,
            );
            fits = record {
              rank = ranked;
              steps = steps;
              padded = padded-behind rank (3 - rank) _ (length-replicate rank _);
              limit = (limit_told (no_places rank) steps).0 (none_within rank ranked);
            };
          }

      slots_start : (ranks : List ℕ) → All IsRank ranks → AllZip IsSlot ranks (map no_places ranks)
      slots_start [] all = tt
      slots_start (rank ∷ ranks) all =
          (IsSlot-none rank (All-head IsRank rank ranks all), slots_start ranks (All-tail IsRank rank ranks all))

      IsStore-start : (row : ArrayRow) (is_stored : Bool) → row.stored ≡ is_stored
          → IsStore code p row (array_of (start_places (laid_out (arrangement_of code)) p row row.stored) (λ t. pos 0))
      IsStore-start row true is = record {
        filled = record { filled = length-map _ _; steps = places_steps (laid_out (arrangement_of code)) p row row.stored };
        places = subst (λ b. ArePlaces code p row b (start_places (laid_out (arrangement_of code)) p row b)) (sym is) refl;
      }
      IsStore-start row false is = record {
        filled = record { filled = length-map _ _; steps = places_steps (laid_out (arrangement_of code)) p row row.stored };
        places = subst (λ b. ArePlaces code p row b (start_places (laid_out (arrangement_of code)) p row b)) (sym is) (inl refl);
      }

      stores_start : (rows : List ArrayRow) → AllZip (IsStore code p) rows
          (map (λ row. array_of (start_places (laid_out (arrangement_of code)) p row row.stored) (λ t. pos 0)) rows)
      stores_start [] = tt
      stores_start (row ∷ rows) = (IsStore-start row row.stored refl, stores_start rows)

      pub IsLocal-start : IsLocal code p (start_local code p)
      IsLocal-start =
          let parts : HasParts code p (start_local code p) = record {
            scalars = length-replicate code.scalars (pos 0);
            cells = length-replicate code.cells (pos 0);
            slots = slots_start code.slots fits_tables.slots;
            stores = stores_start code.arrays;
            flag = tt;
          } in
          IsLocal-left (start_local code p) 0 parts (omega arith)
