-- The stages of a row name processors of the grid, and are few.
use Rattle.std.proofs.Common.{◌≡◌, ℕ, zero, suc, ◌+◌, ◌-◌, ◌*◌, ◌<◌, ◌≤◌, ◌^◌, ◌==◌, Bool, true, false, cond, nat_lt, List, [], ◌∷◌, ◌++◌, length, map, take, refl, sym, ap, ◌∙◌, subst, ℤ, arith, length-append, inl, inr}
use Rattle.std.specs.Prelude.{Option, Some, None, All, slice_get, filter, count_by}
use Rattle.std.specs.List.{filter_map, range_with_len}
use Rattle.std.specs.Option.{IfSome, option_map}
use Rattle.std.proofs.lemmas.Bool.{ltb-true}
use Rattle.std.proofs.lemmas.List.{length-map, length-take}
use Rattle.std.proofs.lemmas.List.Elements.{All-nil, All-cons, All-filter, All-head, All-tail, All-take, filter_passes}
use Rattle.std.proofs.lemmas.List.FromFn.{length-range_with_len}
use Rattle.std.proofs.lemmas.List.Sums.{length-filter}
use Rattle.std.proofs.lemmas.Option.{slice_get_within}
use Rattle.std.proofs.Math.Nat.{div-le_self}
use Rattle.node_form.specs.declared.arrays.ArrayRow.{ArrayRow}
use Rattle.node_form.specs.declared.instructions.Instr.{Instr}
use Rattle.node_form.specs.declared.instructions.Instr.TheVariants as instr
use Rattle.node_form.specs.declared.tables.Tables.{Tables}
use Rattle.grid_meaning.specs.Collective.{Collective, Stage, stage_of, Alone, Sends, TakesFrom, Last, Kin, agreeing_stages, parent_of, others, others_where, star, to_parent, tree}
use Rattle.grid_meaning.specs.Exchange.{started, finished}
use Rattle.grid_meaning.specs.Gather.{gather_stages}
use Rattle.grid_meaning.specs.Local.{Local, processors, processor_numbers}
use Rattle.grid_meaning.specs.Owner.{region_in, tuples_of}
use Rattle.grid_meaning.specs.Remap.{remapped}
use Rattle.grid_meaning.specs.Rows.{collective}
use Rattle.grid_meaning.specs.State.{IsAt, IsIn, IsPart}
use Rattle.grid_meaning.proofs.RemapLemmas.{IsPart-all}
use Rattle.node_local.specs.Workplace.{Workplace}
use Rattle.row_turn.proofs.RecordLemmas.{is_row}
use Rattle.row_turn.proofs.StandLemmas.{stands_at}
use Rattle.row_turn.specs.Placed.{IsAtRow}
use Rattle.row_turn.specs.Together.{IsTogether, NamesOne, OfRow}

-- some of the processors, each named once at most
pub record AreSome (count : ℕ) (list : List ℕ) : Type 0 where
  pub below : All (λ q. q < count) list
  pub few : length list ≤ count

pub record AreBounded (count most : ℕ) (stages : List Stage) : Type 0 where
  pub named : All (NamesOne count) stages
  pub few : length stages ≤ most

-- ---- lists of processors
below-range : (from many count : ℕ) → from + many ≤ count → All (λ q. q < count) (range_with_len from many)
below-range from zero count enough = All-nil (λ q. q < count)
below-range from (suc many) count enough =
    All-cons (λ q. q < count) from (range_with_len (from + 1) many) (omega arith)
    (below-range (from + 1) many count (omega arith))

fewer : (p : ℕ → Bool) (list : List ℕ) → length (filter p list) ≤ length list
fewer p [] = omega arith
fewer p (q ∷ list) = by (p q) (fewer p list)
  where
    by : (b : Bool) → length (filter p list) ≤ length list → length (cond b (q ∷ filter p list) (filter p list)) ≤ suc (length list)
    by true le = omega arith
    by false le = omega arith

some-filter : (count : ℕ) (p : ℕ → Bool) (list : List ℕ) → AreSome count list → AreSome count (filter p list)
some-filter count p list are = record {
  below = All-filter p (λ q. q < count) list are.below;
  few = let le = fewer p list in let few = are.few in omega arith;
}

some-numbers : (code : Tables) → AreSome (processors code) (processor_numbers code)
some-numbers code = record {
  below = below-range 0 (processors code) (processors code) (omega arith);
  few = let many = length-range_with_len 0 (processors code) in omega (arith, many);
}

pub some-others : (code : Tables) (p : ℕ) → AreSome (processors code) (others code p)
some-others code p = some-filter (processors code) _ (processor_numbers code) (some-numbers code)

pub some-others_where : (code : Tables) (p : ℕ) (many : ℕ → ℕ) → AreSome (processors code) (others_where code p many)
some-others_where code p many = some-filter (processors code) _ (others code p) (some-others code p)

-- some of the first of them
part_fewer : (xs ys : List ℕ) → IsPart xs ys → length xs ≤ length ys
part_fewer [] ys is = omega arith
part_fewer (x ∷ xs) [] is = absurd is
part_fewer (x ∷ xs) (y ∷ ys) (inl here) = let le = part_fewer xs ys here.1 in omega arith
part_fewer (x ∷ xs) (y ∷ ys) (inr later) = let le = part_fewer (x ∷ xs) ys later in omega arith

some-first : (count n : ℕ) (list : List ℕ) → AreSome count list → AreSome count (take n list)
some-first count n list are = record {
  below = All-take (λ q. q < count) n list are.below;
  few = let many = length-take n list in let few = are.few in omega (arith, many);
}

some-part : (count : ℕ) (xs ys : List ℕ) → IsPart xs ys → AreSome count ys → AreSome count xs
some-part count xs ys part are = record {
  below = IsPart-all (λ q. q < count) xs ys part are.below;
  few = let le = part_fewer xs ys part in let few = are.few in omega arith;
}

-- ---- stages for them
named-map : (count : ℕ) (stage : ℕ → Stage) (list : List ℕ) (stages : List Stage) → ((q : ℕ) → q < count → NamesOne count (stage q))
    → All (λ q. q < count) list → All (NamesOne count) stages → All (NamesOne count) (map stage list ++ stages)
named-map count stage [] stages one below all = all
named-map count stage (q ∷ list) stages one below all =
    All-cons (NamesOne count) (stage q) (map stage list ++ stages) (one q (All-head (λ r. r < count) q list below))
    (named-map count stage list stages one (All-tail (λ r. r < count) q list below) all)

few-map : (count most : ℕ) (stage : ℕ → Stage) (list : List ℕ) (stages : List Stage) → length list ≤ count → length stages ≤ most
    → length (map stage list ++ stages) ≤ count + most
few-map count most stage list stages few le = omega (arith, length-append (map stage list) stages, length-map list stage)

pub bounded-last : (count : ℕ) → AreBounded count 1 (Last ∷ [])
bounded-last count = record { named = All-cons (NamesOne count) Last [] tt (All-nil (NamesOne count)); few = omega arith }

pub bounded-first : (count most : ℕ) (stage : Stage) (stages : List Stage) → NamesOne count stage → AreBounded count most stages
    → AreBounded count (1 + most) (stage ∷ stages)
bounded-first count most stage stages one are = record {
  named = All-cons (NamesOne count) stage stages one are.named;
  few = let few = are.few in omega arith;
}

pub bounded-sends : (count most : ℕ) (list : List ℕ) (stages : List Stage) → AreSome count list → AreBounded count most stages
    → AreBounded count (count + most) (map Sends list ++ stages)
bounded-sends count most list stages some are = record {
  named = named-map count Sends list stages (λ q below. below) some.below are.named;
  few = few-map count most Sends list stages some.few are.few;
}

pub bounded-takes : (count most : ℕ) (list : List ℕ) (stages : List Stage) → AreSome count list → AreBounded count most stages
    → AreBounded count (count + most) (map TakesFrom list ++ stages)
bounded-takes count most list stages some are = record {
  named = named-map count TakesFrom list stages (λ q below. below) some.below are.named;
  few = few-map count most TakesFrom list stages some.few are.few;
}

-- to those whose words are kept
bounded-answers : (count most : ℕ) (kept : List (ℕ × List ℤ)) (stages : List Stage) → AreSome count (map (λ entry. entry.0) kept)
    → AreBounded count most stages → AreBounded count (count + most) (map (λ entry. Sends entry.0) kept ++ stages)
bounded-answers count most kept stages some are =
    subst (λ sends. AreBounded count (count + most) (sends ++ stages)) (map-map kept)
    (bounded-sends count most (map (λ entry. entry.0) kept) stages some are)
  where
    map-map : (kept : List (ℕ × List ℤ)) → map Sends (map (λ entry. entry.0) kept) ≡ map (λ entry. Sends entry.0) kept
    map-map [] = refl
    map-map (entry ∷ kept) = ap (λ sends. Sends entry.0 ∷ sends) (map-map kept)

pub bounded-more : (count most more : ℕ) (stages : List Stage) → most ≤ more → AreBounded count most stages → AreBounded count more stages
bounded-more count most more stages le are = record { named = are.named; few = let few = are.few in omega arith }

-- ---- kin
record AreKin (count : ℕ) (kin : Kin) : Type 0 where
  children : AreSome count kin.children
  parent : IfSome kin.parent (λ q. q < count)

bounded-parent : (count most : ℕ) (parent : Option ℕ) (stages : List Stage) → IfSome parent (λ q. q < count)
    → AreBounded count most stages → AreBounded count (2 + most) (to_parent parent ++ stages)
bounded-parent count most None stages below are = bounded-more count most (2 + most) stages (omega arith) are
bounded-parent count most (Some q) stages below are =
    bounded-more count (1 + (1 + most)) (2 + most) (Sends q ∷ (TakesFrom q ∷ stages)) (omega arith)
    (bounded-first count (1 + most) (Sends q) (TakesFrom q ∷ stages) below (bounded-first count most (TakesFrom q) stages below are))

bounded-agreeing : (count : ℕ) (kin : Kin) → AreKin count kin → AreBounded count (count + (2 + (count + 1))) (agreeing_stages kin)
bounded-agreeing count kin are =
    bounded-takes count (2 + (count + 1)) kin.children _ are.children
    (bounded-parent count (count + 1) kin.parent _ are.parent (bounded-sends count 1 kin.children _ are.children (bounded-last count)))

kin-star : (code : Tables) (p : ℕ) → p < processors code → AreKin (processors code) (star code p)
kin-star code zero below = record {
  children = record {
    below = below-range 1 (processors code - 1) (processors code) (omega arith);
    few = let many = length-range_with_len 1 (processors code - 1) in omega (arith, many);
  };
  parent = tt;
}
kin-star code (suc p) below = record {
  children = record { below = All-nil (λ q. q < processors code); few = omega arith };
  parent = omega arith;
}

-- two children there are at most where there are three processors
two-children : (count p : ℕ) → p < count → length (filter (λ q. nat_lt q count) ((2 * p + 1) ∷ (2 * p + 2) ∷ [])) ≤ count
two-children count p below = by (nat_lt (2 * p + 1) count) (nat_lt (2 * p + 2) count) refl
  where
    by : (a b : Bool) → nat_lt (2 * p + 2) count ≡ b
        → length (cond a ((2 * p + 1) ∷ cond b ((2 * p + 2) ∷ []) []) (cond b ((2 * p + 2) ∷ []) [])) ≤ count
    by true true is = let inside : 2 * p + 2 < count = ltb-true _ _ is in omega arith
    by true false is = omega arith
    by false true is = omega arith
    by false false is = omega arith

kin-tree : (code : Tables) (p : ℕ) → p < processors code → AreKin (processors code) (tree code p)
kin-tree code p below = record {
  children = record {
    below = fits ((2 * p + 1) ∷ (2 * p + 2) ∷ []);
    few = two-children (processors code) p below;
  };
  parent = parent_below p below;
}
  where
    fits : (list : List ℕ) → All (λ q. q < processors code) (filter (λ q. nat_lt q (processors code)) list)
    fits list = λ k d inside.
        let passes = filter_passes (λ q. nat_lt q (processors code)) list k d inside in
        ltb-true _ _ passes

    parent_below : (q : ℕ) → q < processors code → IfSome (parent_of q) (λ r. r < processors code)
    parent_below zero h = tt
    parent_below (suc q) h = omega (arith, div-le_self q 2)

-- ---- each row
module _ (code : Tables) (p : ℕ) (local : Local) (inside : p < processors code) where
  abbrev most : ℕ
  most = 4 * processors code + 4

  -- so are the stages of a row
  abbrev IsBounded : Collective → Type 0
  IsBounded row = AreBounded (processors code) most (row.stages local)

  bounded-delivered : (to from : List ℕ) → AreSome (processors code) to → AreSome (processors code) from
      → AreBounded (processors code) most (Alone ∷ (map Sends to ++ (map TakesFrom from ++ Last ∷ [])))
  bounded-delivered to from one other =
      bounded-more (processors code) (1 + (processors code + (processors code + 1))) most _ (omega arith)
      (bounded-first (processors code) (processors code + (processors code + 1)) Alone _ tt
      (bounded-sends (processors code) (processors code + 1) to _ one
      (bounded-takes (processors code) 1 from _ other (bounded-last (processors code)))))

  bounded-gather : (q : ℕ) (slot : ℕ) → AreBounded (processors code) most (gather_stages code q (region_in local slot))
  bounded-gather zero slot =
      bounded-more (processors code) (processors code + 1) most _ (omega arith)
      (bounded-takes (processors code) 1 _ _ (some-others_where code 0 (λ q. length (tuples_of code q (region_in local slot))))
      (bounded-last (processors code)))
  bounded-gather (suc q) slot = by (length (tuples_of code (suc q) (region_in local slot)) == 0)
    where
      by : (none : Bool) → AreBounded (processors code) most (cond none (Last ∷ []) (Sends 0 ∷ Last ∷ []))
      by true = bounded-more (processors code) 1 most (Last ∷ []) (omega arith) (bounded-last (processors code))
      by false =
          bounded-more (processors code) 2 most (Sends 0 ∷ Last ∷ []) (omega arith)
          (bounded-first (processors code) 1 (Sends 0) (Last ∷ []) (omega arith) (bounded-last (processors code)))

  bounded-kin : (kin : Kin) → AreKin (processors code) kin → AreBounded (processors code) most (agreeing_stages kin)
  bounded-kin kin are =
      bounded-more (processors code) (processors code + (2 + (processors code + 1))) most _ (omega arith)
      (bounded-agreeing (processors code) kin are)

  bounded-remap : (array slot from : ℕ) (parts : List ℕ) (read : Option ArrayRow)
      → IsIn code p (option_map (remapped code p array slot from parts) read) local
      → IfSome (option_map (remapped code p array slot from parts) read) IsBounded
  bounded-remap array slot from parts None is = tt
  bounded-remap array slot from parts (Some read) is =
      let all = some-others code p in
      let kept = some-part (processors code) (map (λ entry. entry.0) local.kept) _ is.1.0 (some-first (processors code) _ (others code p) all) in
      bounded-more (processors code) (1 + (processors code + (processors code + (processors code + (processors code + 1))))) most _ (omega arith)
      (bounded-first (processors code) _ Alone _ tt
      (bounded-sends (processors code) _ (others code p) _ all
      (bounded-takes (processors code) _ (others code p) _ all
      (bounded-answers (processors code) _ local.kept _ kept
      (bounded-takes (processors code) 1 _ _ (some-filter (processors code) _ (others code p) all) (bounded-last (processors code)))))))

  found : {X : Type 0} (o : Option X) (row : X → Collective) → ((x : X) → IsBounded (row x)) → IfSome (option_map row o) IsBounded
  found None row all = tt
  found (Some x) row all = all x

  pub bounded-row : (row : Instr) → IsTogether row → IsAt code p local (Some row) → OfRow code p row IsBounded
  bounded-row (instr.Start exchange) is stands =
      found (slice_get code.exchanges exchange) (started code p exchange) (λ items.
      bounded-more (processors code) (processors code + 1) most _ (omega arith)
      (bounded-sends (processors code) 1 _ _ (some-others_where code p _) (bounded-last (processors code))))
  bounded-row (instr.Finish exchange) is stands =
      found (slice_get code.exchanges exchange) (finished code p exchange) (λ items.
      bounded-more (processors code) (processors code + 1) most _ (omega arith)
      (bounded-takes (processors code) 1 _ _ (some-others_where code p _) (bounded-last (processors code))))
  bounded-row (instr.Edge kind array slot shift) is stands =
      bounded-delivered _ _ (some-others_where code p _) (some-others_where code p _)
  bounded-row (instr.Flood array target from source) is stands =
      bounded-delivered _ _ (some-others_where code p _) (some-others_where code p _)
  bounded-row (instr.Part array target f from source) is stands =
      bounded-delivered _ _ (some-others_where code p _) (some-others_where code p _)
  bounded-row (instr.Scan array slot f along from mask) is stands =
      bounded-more (processors code) (processors code + (processors code + 1)) most _ (omega arith)
      (bounded-sends (processors code) (processors code + 1) _ _ (some-others_where code p _)
      (bounded-takes (processors code) 1 _ _ (some-others_where code p _) (bounded-last (processors code))))
  bounded-row (instr.Gather truth array slot) is stands = bounded-gather p slot
  bounded-row (instr.Remap array slot from parts) is stands =
      bounded-remap array slot from (filter_map (λ part. part) parts) (slice_get code.arrays from) stands.1
  bounded-row (instr.Vote group) is stands = bounded-kin (star code p) (kin-star code p inside)
  bounded-row (instr.TreeVote group) is stands = bounded-kin (tree code p) (kin-tree code p inside)
  bounded-row (instr.Fold scalar f) is stands = bounded-kin (star code p) (kin-star code p inside)
  bounded-row (instr.TreeFold scalar f) is stands = bounded-kin (tree code p) (kin-tree code p inside)
  bounded-row row is stands = absurd is

-- ---- of a processor at a row
stage_named : (count : ℕ) (stages : List Stage) (i : ℕ) (stage : Stage) → All (NamesOne count) stages → slice_get stages i ≡ Some stage
    → NamesOne count stage
stage_named count [] i stage all is = cc
stage_named count (first ∷ stages) zero stage all is =
    let same : first ≡ stage = cc in
    subst (NamesOne count) same (All-head (NamesOne count) first stages all)
stage_named count (first ∷ stages) (suc i) stage all is =
    stage_named count stages i stage (All-tail (NamesOne count) first stages all) is

pub named_stage : (code : Tables) (p : ℕ) (w : Workplace) (row : Instr) → IsTogether row → IsAtRow code p w row → (stage : Stage)
    → OfRow code p row (λ c. stage_of c w.local ≡ Some stage) → NamesOne (processors code) stage
named_stage code p w row is at stage staged =
    let there = is_row code p row is at.fits in
    let bounded = subst (λ o. IfSome o (IsBounded code p w.local at.ready.state.number)) there.is (bounded-row code p w.local at.ready.state.number row is (stands_at code p w row at)) in
    let here = subst (λ o. IfSome o (λ c. stage_of c w.local ≡ Some stage)) there.is staged in
    stage_named (processors code) (there.together.stages w.local) w.local.made stage bounded.named here

pub few_made : (code : Tables) (p : ℕ) (w : Workplace) (row : Instr) → IsTogether row → IsAtRow code p w row → (stage : Stage)
    → OfRow code p row (λ c. stage_of c w.local ≡ Some stage) → (count : ℕ) → count ≡ processors code → count ≤ 64 → w.local.made < 2 ^ 32
few_made code p w row is at stage staged count same small =
    let there = is_row code p row is at.fits in
    let bounded = subst (λ o. IfSome o (IsBounded code p w.local at.ready.state.number)) there.is (bounded-row code p w.local at.ready.state.number row is (stands_at code p w row at)) in
    let here = subst (λ o. IfSome o (λ c. stage_of c w.local ≡ Some stage)) there.is staged in
    let below : w.local.made < length (there.together.stages w.local) = slice_get_within (there.together.stages w.local) w.local.made stage here in
    let few : length (there.together.stages w.local) ≤ 4 * processors code + 4 = bounded.few in
    omega (arith, below, few, same, small)
