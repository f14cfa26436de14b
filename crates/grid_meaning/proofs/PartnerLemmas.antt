-- Whom a processor sends to, and whom it awaits; and how many links there are.
use Rattle.std.proofs.Common.{◌≡◌, ℕ, zero, suc, ◌+◌, ◌-◌, ◌*◌, ◌<◌, ◌≤◌, ◌==◌, Bool, true, false, cond, nat_lt, List, [], ◌∷◌, ◌++◌, length, map, take, refl, sym, ap, ◌∙◌, subst, ℤ, arith}
use Rattle.std.specs.Prelude.{Option, Some, None, All, IsSome, fold, slice_get, filter}
use Rattle.std.specs.List.{range_with_len}
use Rattle.std.specs.Option.{option_map}
use Rattle.std.proofs.lemmas.List.{length-replicate}
use Rattle.std.proofs.lemmas.List.Elements.{All-nil, All-cons, All-filter, All-head, All-tail, All-take}
use Rattle.std.proofs.Math.ListN.{length-set}
use Rattle.std.proofs.Math.Nat.{div-le_self}
use Rattle.std.proofs.lemmas.Bool.{ltb-true}
use Rattle.std.specs.Option.{IfSome}
use Rattle.std.proofs.lemmas.List.Elements.{filter_passes}
use Rattle.grid_layout.specs.of_zpl_region.declared.regions.Region.{Region}
use Rattle.grid_links.specs.declared.messages.Message.{Message}
use Rattle.grid_links.specs.Machine.{Ended, Blocked, Goes, Awaits, Moves, Waiting, Over, Stuck}
use Rattle.node_form.specs.of_zpl_nums.declared.ends.End.{End}
use Rattle.node_form.specs.of_zpl_nums.declared.folds.Fold.{Fold}
use Rattle.node_form.specs.of_zpl_arrays.Array.{Array}
use Rattle.std.specs.Fmt.{signed_decimal}
use Rattle.node_form.specs.of_zpl_arrays.ArrayText.{truth_text}
use Rattle.node_form.specs.Control.{Control, Steps, Leaps, Ends, Outside, control}
use Rattle.node_form.specs.Value.{Computed, Gives, Divides, Lacks}
use Rattle.node_form.specs.Group as group
use Rattle.node_form.specs.Group.{Ran, Through, Again, Divided}
use Rattle.node_form.specs.declared.arrays.ArrayRow.{ArrayRow}
use Rattle.node_form.specs.declared.members.Member.{Member}
use Rattle.grid_meaning.specs.Action.{Action, NamesBelow, prints}
use Rattle.grid_meaning.specs.State.{IsAt, IsIn, IsLocal, IsLooping, KeepsWords, placed, senders}
use Rattle.grid_meaning.proofs.RemapLemmas.{IsPart-all}
use Rattle.grid_meaning.specs.Loop.{after_members, looped, turn_at_index}
use Rattle.grid_meaning.specs.Place.{values_at}
use Rattle.grid_meaning.specs.Room.{cleared, roomed}
use Rattle.grid_links.specs.Run as run
use Rattle.node_form.specs.declared.tables.Tables.{Tables}
use Rattle.node_form.specs.declared.instructions.Instr.{Instr}
use Rattle.node_form.specs.declared.instructions.Instr.TheVariants as instr
use Rattle.grid_meaning.specs.Delivery.{edged, flooded, parted}
use Rattle.grid_meaning.specs.Exchange.{started, finished, word_count}
use Rattle.grid_meaning.specs.Remap.{remapped}
use Rattle.grid_meaning.specs.Rows.{collective}
use Rattle.grid_meaning.specs.Scan.{scan_done, scanned_row}
use Rattle.grid_meaning.specs.Collective.{Collective, decided, folded, voted, Stage, Alone, Sends, TakesFrom, Last, Use, AtOnce, InLast, Asking, Kin, agreeing_stages, parent_of, others, others_where, star, to_parent, tree}
use Rattle.grid_meaning.specs.Gather.{gather_last, gather_stages, gathered, prints_gathered}
use Rattle.grid_meaning.specs.Owner.{region_in, tuples_of}
use Rattle.grid_meaning.specs.Grid.{Grid, start_grid, next_turn, given_turn, after_from, after}
use Rattle.grid_meaning.specs.Local.{Local, processors, processor_numbers, start_locals}
use Rattle.grid_meaning.specs.Turn.{Turn, act, act_at, act_in, act_together, controlled, expression_value, prints_text, prints_value, registers_of, sends, steps_on, unless_ended}
use Rattle.grid_meaning.proofs.GridLemmas.{length-start_locals}

-- ---- links
links-sent : (count p : ℕ) (sent : Option (ℕ × Message)) (links : List (List Message))
    → length (run.links_sent count p sent links) ≡ length links
links-sent count p None links = refl
links-sent count p (Some sent) links = length-set links _ _

links-taken : (count p : ℕ) (taken : Option ℕ) (links : List (List Message))
    → length (run.links_taken count p taken links) ≡ length links
links-taken count p None links = refl
links-taken count p (Some from) links = length-set links _ _

links-turn : (count p : ℕ) (turn : Turn) (world : run.World Local Message)
    → length (run.after_turn count p turn world).links ≡ length world.links
links-turn count p (Moves move) world =
    links-sent count p move.sent (run.links_taken count p move.taken world.links) ∙ links-taken count p move.taken world.links
links-turn count p Waiting world = refl
links-turn count p Over world = refl
links-turn count p (Stuck kind) world = refl

links-from : (code : Tables) (links : Option ℕ) (grid : Grid) (order : List ℕ)
    → length (after_from code links grid order).world.links ≡ length grid.world.links
links-from code links grid [] = refl
links-from code links grid (p ∷ order) =
    links-from code links (given_turn code links grid p) order
    ∙ links-turn (length (start_locals code)) p (next_turn code links grid p) grid.world

pub links-after : (code : Tables) (links : Option ℕ) (order : List ℕ)
    → length (after code links order).world.links ≡ processors code * processors code
links-after code links order =
    let many = length-start_locals code in
    links-from code links (start_grid code) order
    ∙ (length-replicate _ _ ∙ ap (λ n. n * n) many)

-- ---- partners: the processors that a stage names
abbrev IsAmong : ℕ → Stage → Type 0
IsAmong count Alone = Unit {0}
IsAmong count (Sends to) = to < count
IsAmong count (TakesFrom from) = from < count
IsAmong count Last = Unit {0}

abbrev AreBelow : ℕ → List ℕ → Type 0
AreBelow count list = All (λ q. q < count) list

below-range : (from many count : ℕ) → from + many ≤ count → AreBelow count (range_with_len from many)
below-range from zero count enough = All-nil (λ q. q < count)
below-range from (suc many) count enough =
    All-cons (λ q. q < count) from (range_with_len (from + 1) many) (omega arith)
    (below-range (from + 1) many count (omega arith))

below-others : (code : Tables) (p : ℕ) → AreBelow (processors code) (others code p)
below-others code p =
    All-filter _ (λ q. q < processors code) (processor_numbers code) (below-range 0 (processors code) (processors code) (omega arith))

below-others_where : (code : Tables) (p : ℕ) (many : ℕ → ℕ) → AreBelow (processors code) (others_where code p many)
below-others_where code p many = All-filter _ (λ q. q < processors code) (others code p) (below-others code p)

among-sends : (count : ℕ) (list : List ℕ) (stages : List Stage) → AreBelow count list → All (IsAmong count) stages
    → All (IsAmong count) (map Sends list ++ stages)
among-sends count [] stages below all = all
among-sends count (q ∷ list) stages below all =
    All-cons (IsAmong count) (Sends q) (map Sends list ++ stages) (All-head (λ q. q < count) q list below)
    (among-sends count list stages (All-tail (λ q. q < count) q list below) all)

among-takes : (count : ℕ) (list : List ℕ) (stages : List Stage) → AreBelow count list → All (IsAmong count) stages
    → All (IsAmong count) (map TakesFrom list ++ stages)
among-takes count [] stages below all = all
among-takes count (q ∷ list) stages below all =
    All-cons (IsAmong count) (TakesFrom q) (map TakesFrom list ++ stages) (All-head (λ q. q < count) q list below)
    (among-takes count list stages (All-tail (λ q. q < count) q list below) all)

among-last : (count : ℕ) → All (IsAmong count) (Last ∷ [])
among-last count = All-cons (IsAmong count) Last [] tt (All-nil (IsAmong count))

among-entries : (count : ℕ) (kept : List (ℕ × List ℤ)) (stages : List Stage)
    → All (λ entry. entry.0 < count) kept → All (IsAmong count) stages
    → All (IsAmong count) (map (λ entry. Sends entry.0) kept ++ stages)
among-entries count [] stages below all = all
among-entries count (entry ∷ kept) stages below all =
    All-cons (IsAmong count) (Sends entry.0) (map (λ entry. Sends entry.0) kept ++ stages)
    (All-head (λ (e : ℕ × List ℤ). e.0 < count) entry kept below)
    (among-entries count kept stages (All-tail (λ (e : ℕ × List ℤ). e.0 < count) entry kept below) all)

-- ---- kin
record AreKin (count : ℕ) (kin : Kin) : Type 0 where
  children : AreBelow count kin.children
  parent : IfSome kin.parent (λ q. q < count)

among-parent : (count : ℕ) (parent : Option ℕ) (stages : List Stage) → IfSome parent (λ q. q < count)
    → All (IsAmong count) stages → All (IsAmong count) (to_parent parent ++ stages)
among-parent count None stages below all = all
among-parent count (Some q) stages below all =
    All-cons (IsAmong count) (Sends q) (TakesFrom q ∷ stages) below
    (All-cons (IsAmong count) (TakesFrom q) stages below all)

among-agreeing : (count : ℕ) (kin : Kin) → AreKin count kin → All (IsAmong count) (agreeing_stages kin)
among-agreeing count kin are =
    among-takes count kin.children _ are.children
    (among-parent count kin.parent _ are.parent (among-sends count kin.children _ are.children (among-last count)))

kin-star : (code : Tables) (p : ℕ) → p < processors code → AreKin (processors code) (star code p)
kin-star code zero below = record {
  children = below-range 1 (processors code - 1) (processors code) (omega arith);
  parent = tt;
}
kin-star code (suc p) below = record { children = All-nil (λ q. q < processors code); parent = omega arith }

kin-tree : (code : Tables) (p : ℕ) → p < processors code → AreKin (processors code) (tree code p)
kin-tree code p below = record { children = fits ((2 * p + 1) ∷ (2 * p + 2) ∷ []); parent = parent_below p below }
  where
    fits : (list : List ℕ) → AreBelow (processors code) (filter (λ q. nat_lt q (processors code)) list)
    fits list = λ k d inside.
        let passes = filter_passes (λ q. nat_lt q (processors code)) list k d inside in
        ltb-true _ _ passes

    parent_below : (q : ℕ) → q < processors code → IfSome (parent_of q) (λ r. r < processors code)
    parent_below zero h = tt
    parent_below (suc q) h = omega (arith, div-le_self q 2)

-- ---- a move without a message, or being stuck: not the end
abbrev IsQuiet : Action → Type 0
IsQuiet Ended = ⊥
IsQuiet (Blocked kind) = Unit {0}
IsQuiet (Goes next sent shown) = sent ≡ None
IsQuiet (Awaits from) = ⊥

quiet-controlled : (local : Local) (c : Control) → IsQuiet (controlled local c)
quiet-controlled local (Steps registers) = refl
quiet-controlled local (Leaps goal) = refl
quiet-controlled local (Ends ending) = refl
quiet-controlled local Outside = tt

quiet-prints : (p : ℕ) (local : Local) (bytes : List ℕ) → IsQuiet (prints p local bytes)
quiet-prints zero local bytes = refl
quiet-prints (suc p) local bytes = refl

quiet-text : (p : ℕ) (local : Local) (text : Option (List ℕ)) → IsQuiet (prints_text p local text)
quiet-text p local (Some text) = quiet-prints p local text
quiet-text p local None = tt

quiet-value : (p : ℕ) (local : Local) (value : Computed ℤ) (text : ℤ → List ℕ) → IsQuiet (prints_value p local value text)
quiet-value p local (Gives value) text = quiet-prints p local (text value)
quiet-value p local Divides text = refl
quiet-value p local Lacks text = tt

-- ---- each row
module _ (code : Tables) (p : ℕ) (inside : p < processors code) where
  abbrev Among : List Stage → Type 0
  Among stages = All (IsAmong (processors code)) stages

  among-delivered : (to from : List ℕ) → AreBelow (processors code) to → AreBelow (processors code) from
      → Among (Alone ∷ (map Sends to ++ (map TakesFrom from ++ Last ∷ [])))
  among-delivered to from below under =
      All-cons (IsAmong (processors code)) Alone _ tt
      (among-sends (processors code) to _ below (among-takes (processors code) from _ under (among-last (processors code))))

  among-gather : (q : ℕ) (region : Region) → Among (gather_stages code q region)
  among-gather zero region =
      among-takes (processors code) _ _ (below-others_where code 0 (λ q. length (tuples_of code q region)))
      (among-last (processors code))
  among-gather (suc q) region = by (length (tuples_of code (suc q) region) == 0)
    where
      by : (none : Bool) → Among (cond none (Last ∷ []) (Sends 0 ∷ Last ∷ []))
      by true = among-last (processors code)
      by false = All-cons (IsAmong (processors code)) (Sends 0) (Last ∷ []) (omega arith) (among-last (processors code))

  -- ---- the stages of each row name processors; those of `remap` also who asked
  among-of : {X : Type 0} (found : Option X) (row : X → Collective) (c : Collective) (local : Local)
      → option_map row found ≡ Some c → ((x : X) → Among ((row x).stages local)) → Among (c.stages local)
  among-of None row c local is all = cc
  among-of (Some x) row c local is all =
      let same : row x ≡ c = cc in
      subst (λ r. Among (r.stages local)) same (all x)

  among-same : (one c : Collective) (local : Local) → Some one ≡ Some c → Among (one.stages local) → Among (c.stages local)
  among-same one c local is all = let same : one ≡ c = cc in subst (λ r. Among (r.stages local)) same all

  asking_of : (array slot from : ℕ) (parts : List ℕ) (found : Option ArrayRow) (c : Collective)
      → option_map (remapped code p array slot from parts) found ≡ Some c → c.use_of_words ≡ Asking
  asking_of array slot from parts None c is = cc
  asking_of array slot from parts (Some row) c is =
      let same : remapped code p array slot from parts row ≡ c = cc in
      ap (λ (r : Collective). r.use_of_words) (sym same)

  among-row : (row : Instr) (c : Collective) (local : Local) → collective code p row ≡ Some c
      → (c.use_of_words ≡ Asking → All (λ entry. entry.0 < processors code) local.kept) → Among (c.stages local)
  among-row (instr.Start exchange) c local is kept =
      among-of (slice_get code.exchanges exchange) (started code p exchange) c local is (λ items.
      among-sends (processors code) _ _ (below-others_where code p (word_count code local items p)) (among-last (processors code)))
  among-row (instr.Finish exchange) c local is kept =
      among-of (slice_get code.exchanges exchange) (finished code p exchange) c local is (λ items.
      among-takes (processors code) _ _ (below-others_where code p (λ q. word_count code local items q p))
      (among-last (processors code)))
  among-row (instr.Edge kind array slot shift) c local is kept =
      among-same (edged code p kind array slot shift) c local is
      (among-delivered _ _ (below-others_where code p _) (below-others_where code p _))
  among-row (instr.Flood array target from source) c local is kept =
      among-same (flooded code p array target from source) c local is
      (among-delivered _ _ (below-others_where code p _) (below-others_where code p _))
  among-row (instr.Part array target f from source) c local is kept =
      among-same (parted code p array target f from source) c local is
      (among-delivered _ _ (below-others_where code p _) (below-others_where code p _))
  among-row (instr.Scan array slot f along from mask) c local is kept =
      among-same (scanned_row code p f along from mask array slot) c local is
      (among-sends (processors code) _ _ (below-others_where code p _)
      (among-takes (processors code) _ _ (below-others_where code p _) (among-last (processors code))))
  among-row (instr.Gather truth array slot) c local is kept =
      among-same (gathered code p truth array slot) c local is (among-gather p (region_in local slot))
  among-row (instr.Remap array slot from parts) c local is kept =
      among-of (slice_get code.arrays from) (remapped code p array slot from _) c local is (λ row.
      All-cons (IsAmong (processors code)) Alone _ tt
      (among-sends (processors code) (others code p) _ (below-others code p)
      (among-takes (processors code) (others code p) _ (below-others code p)
      (among-entries (processors code) local.kept _ (kept (asking_of array slot from _ (slice_get code.arrays from) c is))
      (among-takes (processors code) _ _
      (All-filter _ (λ q. q < processors code) (others code p) (below-others code p)) (among-last (processors code)))))))
  among-row (instr.Vote group) c local is kept =
      among-same (voted code (star code p) group) c local is (among-agreeing (processors code) (star code p) (kin-star code p inside))
  among-row (instr.TreeVote group) c local is kept =
      among-same (voted code (tree code p) group) c local is (among-agreeing (processors code) (tree code p) (kin-tree code p inside))
  among-row (instr.Fold scalar f) c local is kept =
      among-same (folded (star code p) scalar f) c local is (among-agreeing (processors code) (star code p) (kin-star code p inside))
  among-row (instr.TreeFold scalar f) c local is kept =
      among-same (folded (tree code p) scalar f) c local is (among-agreeing (processors code) (tree code p) (kin-tree code p inside))
  among-row row c local is kept = cc

  -- ---- the last turn of each row sends nothing
  quiet-of : {X : Type 0} (found : Option X) (row : X → Collective) (c : Collective) (local : Local)
      → option_map row found ≡ Some c → ((x : X) → IsQuiet ((row x).last local)) → IsQuiet (c.last local)
  quiet-of None row c local is quiet = cc
  quiet-of (Some x) row c local is quiet =
      let same : row x ≡ c = cc in
      subst (λ r. IsQuiet (r.last local)) same (quiet x)

  quiet-same : (one c : Collective) (local : Local) → Some one ≡ Some c → IsQuiet (one.last local) → IsQuiet (c.last local)
  quiet-same one c local is quiet = let same : one ≡ c = cc in subst (λ r. IsQuiet (r.last local)) same quiet

  quiet-decided : (group : ℕ) (local : Local) (flag : Option ℕ) → IsQuiet (decided code group local flag)
  quiet-decided group local None = refl
  quiet-decided group local (Some member) = refl

  quiet-scan : (done : Option Local) (f : Fold) (along from : ℕ) (mask : Option ℕ)
      → IsQuiet (scan_done code p f along from mask done)
  quiet-scan (Some local) f along from mask = refl
  quiet-scan None f along from mask = tt

  quiet-gather : (q : ℕ) (truth : Bool) (array : ℕ) (region : Region) (local : Local)
      → IsQuiet (gather_last code q truth array region local)
  quiet-gather zero truth array region local = by (values_at local.stores array (tuples_of code 0 region))
    where
      by : (own : Option (List ℤ)) → IsQuiet (prints_gathered code truth region local own)
      by (Some own) = refl
      by None = tt
  quiet-gather (suc q) truth array region local = refl

  quiet-row : (row : Instr) (c : Collective) (local : Local) → collective code p row ≡ Some c → IsQuiet (c.last local)
  quiet-row (instr.Start exchange) c local is =
      quiet-of (slice_get code.exchanges exchange) (started code p exchange) c local is (λ items. refl)
  quiet-row (instr.Finish exchange) c local is =
      quiet-of (slice_get code.exchanges exchange) (finished code p exchange) c local is (λ items. refl)
  quiet-row (instr.Edge kind array slot shift) c local is = quiet-same (edged code p kind array slot shift) c local is refl
  quiet-row (instr.Flood array target from source) c local is =
      quiet-same (flooded code p array target from source) c local is refl
  quiet-row (instr.Part array target f from source) c local is =
      quiet-same (parted code p array target f from source) c local is refl
  quiet-row (instr.Scan array slot f along from mask) c local is =
      quiet-same (scanned_row code p f along from mask array slot) c local is (quiet-scan _ f along from mask)
  quiet-row (instr.Gather truth array slot) c local is =
      quiet-same (gathered code p truth array slot) c local is (quiet-gather p truth array (region_in local slot) local)
  quiet-row (instr.Remap array slot from parts) c local is =
      quiet-of (slice_get code.arrays from) (remapped code p array slot from _) c local is (λ row. refl)
  quiet-row (instr.Vote group) c local is =
      quiet-same (voted code (star code p) group) c local is (quiet-decided group local _)
  quiet-row (instr.TreeVote group) c local is =
      quiet-same (voted code (tree code p) group) c local is (quiet-decided group local _)
  quiet-row (instr.Fold scalar f) c local is = quiet-same (folded (star code p) scalar f) c local is refl
  quiet-row (instr.TreeFold scalar f) c local is = quiet-same (folded (tree code p) scalar f) c local is refl
  quiet-row row c local is = cc

  -- ---- what a processor does names others below the count
  abbrev Names : Action → Type 0
  Names action = NamesBelow (processors code) action

  names_quiet : (action : Action) → IsQuiet action → Names action
  names_quiet Ended quiet = absurd quiet
  names_quiet (Blocked kind) quiet = tt
  names_quiet (Goes next None shown) quiet = tt
  names_quiet (Goes next (Some sent) shown) quiet = cc
  names_quiet (Awaits from) quiet = absurd quiet

  stage_at : (stages : List Stage) (i : ℕ) (stage : Stage) → Among stages → slice_get stages i ≡ Some stage
      → IsAmong (processors code) stage
  stage_at [] i stage all is = cc
  stage_at (first ∷ stages) zero stage all is =
      let same : first ≡ stage = cc in
      subst (IsAmong (processors code)) same (All-head (IsAmong (processors code)) first stages all)
  stage_at (first ∷ stages) (suc i) stage all is =
      stage_at stages i stage (All-tail (IsAmong (processors code)) first stages all) is

  names_sends : (c : Collective) (local : Local) (to : ℕ) (words : Option (List ℤ)) → to < processors code
      → Names (sends c local to words)
  names_sends c local to (Some words) below = below
  names_sends c local to None below = tt

  names_alone : (next : Option Local) → Names (steps_on next)
  names_alone (Some next) = tt
  names_alone None = tt

  names_in : (c : Collective) (local : Local) (stage : Option Stage) → slice_get (c.stages local) local.made ≡ stage
      → Among (c.stages local) → IsQuiet (c.last local) → Names (act_in c local stage)
  names_in c local (Some Alone) is all quiet = names_alone (c.alone local)
  names_in c local (Some (Sends to)) is all quiet =
      names_sends c local to (c.words_to local to) (stage_at (c.stages local) local.made (Sends to) all is)
  names_in c local (Some (TakesFrom from)) is all quiet = stage_at (c.stages local) local.made (TakesFrom from) all is
  names_in c local (Some Last) is all quiet = names_quiet (c.last local) quiet
  names_in c local None is all quiet = tt

  names_together : (row : Instr) (found : Option Collective) (local : Local) (alone : Control) → collective code p row ≡ found
      → All (λ entry. entry.0 < processors code) local.kept → Names (act_together found local alone)
  names_together row (Some c) local alone is kept =
      names_in c local _ refl (among-row row c local is (λ asking. kept)) (quiet-row row c local is)
  names_together row None local alone is kept = names_quiet _ (quiet-controlled local alone)

  quiet-ran : (local : Local) (ran : Ran (List Array)) → IsQuiet (after_members local ran)
  quiet-ran local (Through point) = refl
  quiet-ran local (Again member point) = refl
  quiet-ran local (Divided member point) = refl
  quiet-ran local group.Unheld = tt

  quiet-index : (local : Local) (all : List Member) (t : Option (List ℤ)) → IsQuiet (turn_at_index code all local t)
  quiet-index local all (Some t) = quiet-ran local _
  quiet-index local all None = refl

  quiet-loop : (local : Local) (region : Option Region) (all : Option (List Member)) → IsQuiet (looped code p local region all)
  quiet-loop local None None = tt
  quiet-loop local None (Some all) = tt
  quiet-loop local (Some region) None = tt
  quiet-loop local (Some region) (Some all) = quiet-index local all _

  quiet-room : (local : Local) (array : ℕ) (row : Option ArrayRow) (region : Option Region)
      → IsQuiet (roomed code p local array row region)
  quiet-room local array None None = tt
  quiet-room local array None (Some region) = tt
  quiet-room local array (Some row) None = tt
  quiet-room local array (Some row) (Some region) = refl

  quiet-clear : (local : Local) (array : ℕ) (store : Option Array) → IsQuiet (cleared local array store)
  quiet-clear local array None = tt
  quiet-clear local array (Some store) = refl

  names_at : (local : Local) (next : Option Instr) → All (λ entry. entry.0 < processors code) local.kept
      → Names (act_at code p local next)
  names_at local None kept = tt
  names_at local (Some (instr.Loop slot group)) kept =
      names_quiet _ (quiet-loop local (slice_get local.slots slot) (slice_get code.groups group))
  names_at local (Some (instr.Room array slot)) kept =
      names_quiet _ (quiet-room local array (slice_get code.arrays array) (slice_get local.slots slot))
  names_at local (Some (instr.Clear array)) kept = names_quiet _ (quiet-clear local array (slice_get local.stores array))
  names_at local (Some (instr.Print text)) kept = names_quiet _ (quiet-text p local (slice_get code.texts text))
  names_at local (Some (instr.Number expr)) kept =
      names_quiet _ (quiet-value p local (expression_value code local expr) signed_decimal)
  names_at local (Some (instr.Truth expr)) kept =
      names_quiet _ (quiet-value p local (expression_value code local expr) truth_text)
  names_at local (Some row) kept = names_together row (collective code p row) local (control code (registers_of local) row) refl kept

  names_unless : (ended : Option End) (action : Action) → Names action → Names (unless_ended ended action)
  names_unless (Some ending) action names = tt
  names_unless None action names = names

  pub names-act : (local : Local) → All (λ entry. entry.0 < processors code) local.kept → Names (act code p local)
  names-act local kept = names_unless local.ended (act_at code p local (slice_get code.code local.at)) (names_at local (slice_get code.code local.at) kept)

  -- ---- a processor that hasn't ended does something
  abbrev pub IsOpen : Action → Type 0
  IsOpen Ended = ⊥
  IsOpen (Blocked kind) = Unit {0}
  IsOpen (Goes next sent shown) = Unit {0}
  IsOpen (Awaits from) = Unit {0}

  open_quiet : (action : Action) → IsQuiet action → IsOpen action
  open_quiet Ended quiet = absurd quiet
  open_quiet (Blocked kind) quiet = tt
  open_quiet (Goes next sent shown) quiet = tt
  open_quiet (Awaits from) quiet = tt

  open_sends : (c : Collective) (local : Local) (to : ℕ) (words : Option (List ℤ)) → IsOpen (sends c local to words)
  open_sends c local to (Some words) = tt
  open_sends c local to None = tt

  open_alone : (next : Option Local) → IsOpen (steps_on next)
  open_alone (Some next) = tt
  open_alone None = tt

  open_in : (c : Collective) (local : Local) (stage : Option Stage) → IsQuiet (c.last local) → IsOpen (act_in c local stage)
  open_in c local (Some Alone) quiet = open_alone (c.alone local)
  open_in c local (Some (Sends to)) quiet = open_sends c local to (c.words_to local to)
  open_in c local (Some (TakesFrom from)) quiet = tt
  open_in c local (Some Last) quiet = open_quiet (c.last local) quiet
  open_in c local None quiet = tt

  open_together : (row : Instr) (found : Option Collective) (local : Local) (alone : Control) → collective code p row ≡ found
      → IsOpen (act_together found local alone)
  open_together row (Some c) local alone is = open_in c local _ (quiet-row row c local is)
  open_together row None local alone is = open_quiet _ (quiet-controlled local alone)

  pub open_at : (local : Local) (next : Option Instr) → IsOpen (act_at code p local next)
  open_at local None = tt
  open_at local (Some (instr.Loop slot group)) =
      open_quiet _ (quiet-loop local (slice_get local.slots slot) (slice_get code.groups group))
  open_at local (Some (instr.Room array slot)) =
      open_quiet _ (quiet-room local array (slice_get code.arrays array) (slice_get local.slots slot))
  open_at local (Some (instr.Clear array)) = open_quiet _ (quiet-clear local array (slice_get local.stores array))
  open_at local (Some (instr.Print text)) = open_quiet _ (quiet-text p local (slice_get code.texts text))
  open_at local (Some (instr.Number expr)) =
      open_quiet _ (quiet-value p local (expression_value code local expr) signed_decimal)
  open_at local (Some (instr.Truth expr)) =
      open_quiet _ (quiet-value p local (expression_value code local expr) truth_text)
  open_at local (Some row) = open_together row (collective code p row) local (control code (registers_of local) row) refl

  -- ---- the words that are kept are of processors
  below_senders : (stages : List Stage) → Among stages → AreBelow (processors code) (senders stages)
  below_senders [] all = All-nil (λ q. q < processors code)
  below_senders (Alone ∷ stages) all = below_senders stages (All-tail (IsAmong (processors code)) Alone stages all)
  below_senders (Sends to ∷ stages) all = below_senders stages (All-tail (IsAmong (processors code)) (Sends to) stages all)
  below_senders (TakesFrom from ∷ stages) all =
      All-cons (λ q. q < processors code) from (senders stages) (All-head (IsAmong (processors code)) (TakesFrom from) stages all)
      (below_senders stages (All-tail (IsAmong (processors code)) (TakesFrom from) stages all))
  below_senders (Last ∷ stages) all = below_senders stages (All-tail (IsAmong (processors code)) Last stages all)

  below_placed : (numbers : List ℕ) (n : ℕ) → AreBelow (processors code) numbers → n < processors code
      → AreBelow (processors code) (placed numbers n)
  below_placed [] n all here = All-cons (λ q. q < processors code) n [] here all
  below_placed (m ∷ numbers) n all here =
      by (nat_lt n m) (below_placed numbers n (All-tail (λ q. q < processors code) m numbers all) here)
    where
      by : (before : Bool) → AreBelow (processors code) (placed numbers n) → AreBelow (processors code) (cond before (n ∷ (m ∷ numbers)) (m ∷ placed numbers n))
      by true rest = All-cons (λ q. q < processors code) n (m ∷ numbers) here all
      by false rest = All-cons (λ q. q < processors code) m (placed numbers n) (All-head (λ q. q < processors code) m numbers all) rest

  below_fold : (front numbers : List ℕ) → AreBelow (processors code) front → AreBelow (processors code) numbers
      → AreBelow (processors code) (fold placed front numbers)
  below_fold front [] before all = before
  below_fold front (n ∷ numbers) before all =
      below_fold (placed front n) numbers (below_placed front n before (All-head (λ q. q < processors code) n numbers all))
      (All-tail (λ q. q < processors code) n numbers all)

  below_entries : (kept : List (ℕ × List ℤ)) → AreBelow (processors code) (map (λ entry. entry.0) kept)
      → All (λ entry. entry.0 < processors code) kept
  below_entries [] all = All-nil (λ (entry : ℕ × List ℤ). entry.0 < processors code)
  below_entries (entry ∷ kept) all =
      All-cons (λ (e : ℕ × List ℤ). e.0 < processors code) entry kept (All-head (λ q. q < processors code) entry.0 _ all)
      (below_entries kept (All-tail (λ q. q < processors code) entry.0 _ all))

  none_kept : (kept : List (ℕ × List ℤ)) → kept ≡ [] → All (λ entry. entry.0 < processors code) kept
  none_kept kept none =
      subst (All (λ (entry : ℕ × List ℤ). entry.0 < processors code)) (sym none) (All-nil (λ (entry : ℕ × List ℤ). entry.0 < processors code))

  -- those that a row keeps
  kept_words : (kind : Use) (row : Instr) (c : Collective) (local : Local) → collective code p row ≡ Some c
      → c.use_of_words ≡ kind → KeepsWords code p kind c local → All (λ entry. entry.0 < processors code) local.kept
  kept_words AtOnce row c local is used words = none_kept local.kept words
  kept_words InLast row c local is used words =
      below_entries local.kept
      (subst (AreBelow (processors code)) (sym words.0)
      (below_fold [] (senders (take local.made (c.stages local))) (All-nil (λ q. q < processors code))
      (below_senders (take local.made (c.stages local)) (All-take (IsAmong (processors code)) local.made (c.stages local)
      (among-row row c local is (λ asking. let no : InLast ≡ Asking = sym used ∙ asking in cc))))))
  kept_words Asking row c local is used words =
      below_entries local.kept
      (IsPart-all (λ q. q < processors code) _ _ words.0
      (All-take (λ q. q < processors code) (local.made - processors code) (others code p) (below-others code p)))

  kept_in : (row : Instr) (found : Option Collective) (local : Local) → collective code p row ≡ found → IsIn code p found local
      → All (λ entry. entry.0 < processors code) local.kept
  kept_in row None local is fresh = none_kept local.kept fresh.kept
  kept_in row (Some c) local is words = kept_words c.use_of_words row c local is refl words.1

  kept_looping : (local : Local) (region : Option Region) (all : Option (List Member)) → IsLooping code p local region all
      → All (λ entry. entry.0 < processors code) local.kept
  kept_looping local None None is = absurd is
  kept_looping local None (Some all) is = absurd is
  kept_looping local (Some region) None is = absurd is
  kept_looping local (Some region) (Some all) is = none_kept local.kept is.fresh.kept

  kept_at : (local : Local) (next : Option Instr) → IsAt code p local next → All (λ entry. entry.0 < processors code) local.kept
  kept_at local None at = none_kept local.kept at.1.kept
  kept_at local (Some (instr.Loop slot group)) at =
      kept_looping local (slice_get local.slots slot) (slice_get code.groups group) at
  kept_at local (Some row) at = kept_in row (collective code p row) local refl at.1

-- ---- of a state that can be
pub kept-below : (code : Tables) (p : ℕ) (local : Local) → IsLocal code p local
    → All (λ entry. entry.0 < processors code) local.kept
kept-below code p local is = by local.ended refl
  where
    by : (ended : Option End) → local.ended ≡ ended → All (λ entry. entry.0 < processors code) local.kept
    by (Some ending) e =
        none_kept code p is.number local.kept (is.over (subst (λ (o : Option End). IsSome o) (sym e) refl)).1.kept
    by None e = kept_at code p is.number local (slice_get code.code local.at) (is.running e)

pub names-local : (code : Tables) (p : ℕ) (local : Local) → IsLocal code p local
    → NamesBelow (processors code) (act code p local)
names-local code p local is = names-act code p is.number local (kept-below code p local is)
