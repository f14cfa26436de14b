-- Whom a processor sends to, and whom it awaits, are others.
use Rattle.std.proofs.Common.{◌≡◌, ◌≢◌, ℕ, zero, suc, ◌+◌, ◌-◌, ◌*◌, ◌==◌, Bool, true, false, cond, nat_lt, List, [], ◌∷◌, ◌++◌, length, map, take, refl, sym, ap, ◌∙◌, subst, ℤ, arith}
use Rattle.std.specs.Prelude.{Option, Some, None, All, IsSome, fold, not, slice_get}
use Rattle.std.specs.List.{range_with_len}
use Rattle.std.specs.Option.{IfSome, option_map}
use Rattle.std.proofs.lemmas.Bool.{eqb-false, not-true}
use Rattle.std.proofs.lemmas.List.Elements.{All-nil, All-cons, All-filter, All-head, All-tail, All-take, filter_passes}
use Rattle.std.proofs.Math.Nat.{div-le_self}
use Rattle.zpl_nums.specs.declared.ends.End.{End}
use Rattle.zpl_region.specs.declared.regions.Region.{Region}
use Rattle.grid_meaning.specs.of_node_form.declared.arrays.ArrayRow.{ArrayRow}
use Rattle.grid_meaning.specs.of_node_form.declared.instructions.Instr.{Instr}
use Rattle.grid_meaning.specs.of_node_form.declared.instructions.Instr.TheVariants as instr
use Rattle.grid_meaning.specs.of_node_form.declared.members.Member.{Member}
use Rattle.grid_meaning.specs.of_node_form.declared.tables.Tables.{Tables}
use Rattle.grid_meaning.specs.Collective.{Collective, Stage, Alone, Sends, TakesFrom, Last, Use, AtOnce, InLast, Asking, Kin, agreeing_stages, folded, others, others_where, parent_of, star, to_parent, tree, voted}
use Rattle.grid_meaning.specs.Delivery.{edged, flooded, parted}
use Rattle.grid_meaning.specs.Exchange.{finished, started, word_count}
use Rattle.grid_meaning.specs.Gather.{gather_stages, gathered}
use Rattle.grid_meaning.specs.Local.{Local, processor_numbers, processors}
use Rattle.grid_meaning.specs.Owner.{region_in, tuples_of}
use Rattle.grid_meaning.specs.Remap.{remapped}
use Rattle.grid_meaning.specs.Rows.{collective}
use Rattle.grid_meaning.specs.Scan.{scanned_row}
use Rattle.grid_meaning.specs.State.{IsAt, IsIn, IsLocal, IsLooping, KeepsWords, placed, senders}
use Rattle.grid_meaning.proofs.RemapLemmas.{IsPart-all}
use Rattle.grid_save.specs.Onward.{KeepsOthers}

-- ---- stages that name others
abbrev pub IsOfOther : ℕ → Stage → Type 0
IsOfOther p Alone = Unit {0}
IsOfOther p (Sends to) = to ≢ p
IsOfOther p (TakesFrom from) = from ≢ p
IsOfOther p Last = Unit {0}

abbrev pub AreOthers : ℕ → List ℕ → Type 0
AreOthers p list = All (λ q. q ≢ p) list

abbrev pub OfOthers : ℕ → List Stage → Type 0
OfOthers p stages = All (IsOfOther p) stages

pub others_are : (code : Tables) (p : ℕ) → AreOthers p (others code p)
others_are code p = λ k d inside.
    eqb-false _ p (not-true _ (filter_passes (λ q. not (q == p)) (processor_numbers code) k d inside))

others_where_are : (code : Tables) (p : ℕ) (many : ℕ → ℕ) → AreOthers p (others_where code p many)
others_where_are code p many = All-filter _ (λ q. q ≢ p) (others code p) (others_are code p)

sent_others : (p : ℕ) (list : List ℕ) (stages : List Stage) → AreOthers p list → OfOthers p stages
    → OfOthers p (map Sends list ++ stages)
sent_others p [] stages are all = all
sent_others p (q ∷ list) stages are all =
    All-cons (IsOfOther p) (Sends q) (map Sends list ++ stages) (All-head (λ q. q ≢ p) q list are)
    (sent_others p list stages (All-tail (λ q. q ≢ p) q list are) all)

taken_others : (p : ℕ) (list : List ℕ) (stages : List Stage) → AreOthers p list → OfOthers p stages
    → OfOthers p (map TakesFrom list ++ stages)
taken_others p [] stages are all = all
taken_others p (q ∷ list) stages are all =
    All-cons (IsOfOther p) (TakesFrom q) (map TakesFrom list ++ stages) (All-head (λ q. q ≢ p) q list are)
    (taken_others p list stages (All-tail (λ q. q ≢ p) q list are) all)

last_others : (p : ℕ) → OfOthers p (Last ∷ [])
last_others p = All-cons (IsOfOther p) Last [] tt (All-nil (IsOfOther p))

asked_others : (p : ℕ) (kept : List (ℕ × List ℤ)) (stages : List Stage)
    → All (λ entry. entry.0 ≢ p) kept → OfOthers p stages
    → OfOthers p (map (λ entry. Sends entry.0) kept ++ stages)
asked_others p [] stages are all = all
asked_others p (entry ∷ kept) stages are all =
    All-cons (IsOfOther p) (Sends entry.0) (map (λ entry. Sends entry.0) kept ++ stages)
    (All-head (λ (e : ℕ × List ℤ). e.0 ≢ p) entry kept are)
    (asked_others p kept stages (All-tail (λ (e : ℕ × List ℤ). e.0 ≢ p) entry kept are) all)

-- ---- kin
record AreKin (p : ℕ) (kin : Kin) : Type 0 where
  children : AreOthers p kin.children
  parent : IfSome kin.parent (λ q. q ≢ p)

with_parent : (p : ℕ) (parent : Option ℕ) (stages : List Stage) → IfSome parent (λ q. q ≢ p)
    → OfOthers p stages → OfOthers p (to_parent parent ++ stages)
with_parent p None stages other all = all
with_parent p (Some q) stages other all =
    All-cons (IsOfOther p) (Sends q) (TakesFrom q ∷ stages) other
    (All-cons (IsOfOther p) (TakesFrom q) stages other all)

agreeing_others : (p : ℕ) (kin : Kin) → AreKin p kin → OfOthers p (agreeing_stages kin)
agreeing_others p kin are =
    taken_others p kin.children _ are.children
    (with_parent p kin.parent _ are.parent (sent_others p kin.children _ are.children (last_others p)))

past_zero : (from many : ℕ) → AreOthers 0 (range_with_len (suc from) many)
past_zero from zero = All-nil (λ q. q ≢ 0)
past_zero from (suc many) =
    All-cons (λ q. q ≢ 0) (suc from) (range_with_len (suc from + 1) many) (λ same. omega (arith, same))
    (let e : suc from + 1 ≡ suc (from + 1) = omega arith in
    subst (λ n. AreOthers 0 (range_with_len n many)) (sym e) (past_zero (from + 1) many))

kin_star : (code : Tables) (p : ℕ) → AreKin p (star code p)
kin_star code zero = record { children = past_zero 0 (processors code - 1); parent = tt }
kin_star code (suc p) =
    record { children = All-nil (λ q. q ≢ suc p); parent = λ same. omega (arith, same) }

kin_tree : (code : Tables) (p : ℕ) → AreKin p (tree code p)
kin_tree code p = record {
  children = All-filter (λ q. nat_lt q (processors code)) (λ q. q ≢ p) ((2 * p + 1) ∷ (2 * p + 2) ∷ [])
      (All-cons (λ q. q ≢ p) (2 * p + 1) ((2 * p + 2) ∷ []) (λ same. omega (arith, same))
      (All-cons (λ q. q ≢ p) (2 * p + 2) [] (λ same. omega (arith, same)) (All-nil (λ q. q ≢ p))));
  parent = other p;
}
  where
    other : (q : ℕ) → IfSome (parent_of q) (λ r. r ≢ q)
    other zero = tt
    other (suc q) = λ same. omega (arith, same, div-le_self q 2)

-- ---- each row
module _ (code : Tables) (p : ℕ) where
  delivered_others : (to from : List ℕ) → AreOthers p to → AreOthers p from
      → OfOthers p (Alone ∷ (map Sends to ++ (map TakesFrom from ++ Last ∷ [])))
  delivered_others to from are also =
      All-cons (IsOfOther p) Alone _ tt (sent_others p to _ are (taken_others p from _ also (last_others p)))

  of_found : {X : Type 0} (found : Option X) (row : X → Collective) (c : Collective) (local : Local)
      → option_map row found ≡ Some c → ((x : X) → OfOthers p ((row x).stages local)) → OfOthers p (c.stages local)
  of_found None row c local is all = cc
  of_found (Some x) row c local is all =
      let same : row x ≡ c = cc in
      subst (λ r. OfOthers p (r.stages local)) same (all x)

  of_same : (one c : Collective) (local : Local) → Some one ≡ Some c → OfOthers p (one.stages local)
      → OfOthers p (c.stages local)
  of_same one c local is all = let same : one ≡ c = cc in subst (λ r. OfOthers p (r.stages local)) same all

  asking_of : (array slot from : ℕ) (parts : List ℕ) (found : Option ArrayRow) (c : Collective)
      → option_map (remapped code p array slot from parts) found ≡ Some c → c.use_of_words ≡ Asking
  asking_of array slot from parts None c is = cc
  asking_of array slot from parts (Some row) c is =
      let same : remapped code p array slot from parts row ≡ c = cc in
      ap (λ (r : Collective). r.use_of_words) (sym same)

gather_others : (code : Tables) (q : ℕ) (region : Region) → OfOthers q (gather_stages code q region)
gather_others code zero region =
    taken_others 0 _ _ (others_where_are code 0 (λ q. length (tuples_of code q region))) (last_others 0)
gather_others code (suc q) region = by (length (tuples_of code (suc q) region) == 0)
  where
    by : (none : Bool) → OfOthers (suc q) (cond none (Last ∷ []) (Sends 0 ∷ Last ∷ []))
    by true = last_others (suc q)
    by false =
        All-cons (IsOfOther (suc q)) (Sends 0) (Last ∷ []) (λ same. omega (arith, same)) (last_others (suc q))

module _ (code : Tables) (p : ℕ) where
  pub row_others : (row : Instr) (c : Collective) (local : Local) → collective code p row ≡ Some c
      → (c.use_of_words ≡ Asking → KeepsOthers p local) → OfOthers p (c.stages local)
  row_others (instr.Start exchange) c local is kept =
      of_found code p (slice_get code.exchanges exchange) (started code p exchange) c local is (λ items.
      sent_others p _ _ (others_where_are code p (word_count code local items p)) (last_others p))
  row_others (instr.Finish exchange) c local is kept =
      of_found code p (slice_get code.exchanges exchange) (finished code p exchange) c local is (λ items.
      taken_others p _ _ (others_where_are code p (λ q. word_count code local items q p)) (last_others p))
  row_others (instr.Edge kind array slot shift) c local is kept =
      of_same code p (edged code p kind array slot shift) c local is
      (delivered_others code p _ _ (others_where_are code p _) (others_where_are code p _))
  row_others (instr.Flood array target from source) c local is kept =
      of_same code p (flooded code p array target from source) c local is
      (delivered_others code p _ _ (others_where_are code p _) (others_where_are code p _))
  row_others (instr.Part array target f from source) c local is kept =
      of_same code p (parted code p array target f from source) c local is
      (delivered_others code p _ _ (others_where_are code p _) (others_where_are code p _))
  row_others (instr.Scan array slot f along from mask) c local is kept =
      of_same code p (scanned_row code p f along from mask array slot) c local is
      (sent_others p _ _ (others_where_are code p _)
      (taken_others p _ _ (others_where_are code p _) (last_others p)))
  row_others (instr.Gather truth array slot) c local is kept =
      of_same code p (gathered code p truth array slot) c local is (gather_others code p (region_in local slot))
  row_others (instr.Remap array slot from parts) c local is kept =
      of_found code p (slice_get code.arrays from) (remapped code p array slot from _) c local is (λ row.
      All-cons (IsOfOther p) Alone _ tt
      (sent_others p (others code p) _ (others_are code p)
      (taken_others p (others code p) _ (others_are code p)
      (asked_others p local.kept _ (kept (asking_of code p array slot from _ (slice_get code.arrays from) c is))
      (taken_others p _ _ (All-filter _ (λ q. q ≢ p) (others code p) (others_are code p)) (last_others p))))))
  row_others (instr.Vote group) c local is kept =
      of_same code p (voted code (star code p) group) c local is (agreeing_others p (star code p) (kin_star code p))
  row_others (instr.TreeVote group) c local is kept =
      of_same code p (voted code (tree code p) group) c local is (agreeing_others p (tree code p) (kin_tree code p))
  row_others (instr.Fold scalar f) c local is kept =
      of_same code p (folded (star code p) scalar f) c local is (agreeing_others p (star code p) (kin_star code p))
  row_others (instr.TreeFold scalar f) c local is kept =
      of_same code p (folded (tree code p) scalar f) c local is (agreeing_others p (tree code p) (kin_tree code p))
  row_others row c local is kept = cc

-- ---- the words that are kept of a state that can be
module _ (p : ℕ) where
  sender_others : (stages : List Stage) → OfOthers p stages → AreOthers p (senders stages)
  sender_others [] all = All-nil (λ q. q ≢ p)
  sender_others (Alone ∷ stages) all = sender_others stages (All-tail (IsOfOther p) Alone stages all)
  sender_others (Sends to ∷ stages) all = sender_others stages (All-tail (IsOfOther p) (Sends to) stages all)
  sender_others (TakesFrom from ∷ stages) all =
      All-cons (λ q. q ≢ p) from (senders stages) (All-head (IsOfOther p) (TakesFrom from) stages all)
      (sender_others stages (All-tail (IsOfOther p) (TakesFrom from) stages all))
  sender_others (Last ∷ stages) all = sender_others stages (All-tail (IsOfOther p) Last stages all)

  placed_others : (numbers : List ℕ) (n : ℕ) → AreOthers p numbers → n ≢ p → AreOthers p (placed numbers n)
  placed_others [] n all here = All-cons (λ q. q ≢ p) n [] here all
  placed_others (m ∷ numbers) n all here =
      by (nat_lt n m) (placed_others numbers n (All-tail (λ q. q ≢ p) m numbers all) here)
    where
      by : (before : Bool) → AreOthers p (placed numbers n) → AreOthers p (cond before (n ∷ (m ∷ numbers)) (m ∷ placed numbers n))
      by true rest = All-cons (λ q. q ≢ p) n (m ∷ numbers) here all
      by false rest = All-cons (λ q. q ≢ p) m (placed numbers n) (All-head (λ q. q ≢ p) m numbers all) rest

  ordered_others : (front numbers : List ℕ) → AreOthers p front → AreOthers p numbers
      → AreOthers p (fold placed front numbers)
  ordered_others front [] before all = before
  ordered_others front (n ∷ numbers) before all =
      ordered_others (placed front n) numbers (placed_others front n before (All-head (λ q. q ≢ p) n numbers all))
      (All-tail (λ q. q ≢ p) n numbers all)

  entry_others : (kept : List (ℕ × List ℤ)) → AreOthers p (map (λ entry. entry.0) kept)
      → All (λ entry. entry.0 ≢ p) kept
  entry_others [] all = All-nil (λ (entry : ℕ × List ℤ). entry.0 ≢ p)
  entry_others (entry ∷ kept) all =
      All-cons (λ (e : ℕ × List ℤ). e.0 ≢ p) entry kept (All-head (λ q. q ≢ p) entry.0 _ all)
      (entry_others kept (All-tail (λ q. q ≢ p) entry.0 _ all))

  none_kept : (kept : List (ℕ × List ℤ)) → kept ≡ [] → All (λ entry. entry.0 ≢ p) kept
  none_kept kept none =
      subst (All (λ (entry : ℕ × List ℤ). entry.0 ≢ p)) (sym none) (All-nil (λ (entry : ℕ × List ℤ). entry.0 ≢ p))

module _ (code : Tables) (p : ℕ) where
  kept_words : (kind : Use) (row : Instr) (c : Collective) (local : Local) → collective code p row ≡ Some c
      → c.use_of_words ≡ kind → KeepsWords code p kind c local → KeepsOthers p local
  kept_words AtOnce row c local is used words = none_kept p local.kept words
  kept_words InLast row c local is used words =
      entry_others p local.kept
      (subst (AreOthers p) (sym words.0)
      (ordered_others p [] (senders (take local.made (c.stages local))) (All-nil (λ q. q ≢ p))
      (sender_others p (take local.made (c.stages local)) (All-take (IsOfOther p) local.made (c.stages local)
      (row_others code p row c local is (λ asking. let no : InLast ≡ Asking = sym used ∙ asking in cc))))))
  kept_words Asking row c local is used words =
      entry_others p local.kept
      (IsPart-all (λ q. q ≢ p) _ _ words.0
      (All-take (λ q. q ≢ p) (local.made - processors code) (others code p) (others_are code p)))

  kept_in : (row : Instr) (found : Option Collective) (local : Local) → collective code p row ≡ found
      → IsIn code p found local → KeepsOthers p local
  kept_in row None local is fresh = none_kept p local.kept fresh.kept
  kept_in row (Some c) local is words = kept_words c.use_of_words row c local is refl words.1

  kept_looping : (local : Local) (region : Option Region) (all : Option (List Member))
      → IsLooping code p local region all → KeepsOthers p local
  kept_looping local None None is = absurd is
  kept_looping local None (Some all) is = absurd is
  kept_looping local (Some region) None is = absurd is
  kept_looping local (Some region) (Some all) is = none_kept p local.kept is.fresh.kept

  kept_at : (local : Local) (next : Option Instr) → IsAt code p local next → KeepsOthers p local
  kept_at local None at = none_kept p local.kept at.1.kept
  kept_at local (Some (instr.Loop slot group)) at =
      kept_looping local (slice_get local.slots slot) (slice_get code.groups group) at
  kept_at local (Some row) at = kept_in row (collective code p row) local refl at.1

  pub keeps_others : (local : Local) → IsLocal code p local → KeepsOthers p local
  keeps_others local is = by local.ended refl
    where
      by : (ended : Option End) → local.ended ≡ ended → KeepsOthers p local
      by (Some ending) e =
          none_kept p local.kept (is.over (subst (λ (o : Option End). IsSome o) (sym e) refl)).1.kept
      by None e = kept_at local (slice_get code.code local.at) (is.running e)
