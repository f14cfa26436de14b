-- What expressions that are settled have of the statement's own: the slots of copies are among those
-- that were free; what stands for a term does so in any slots that differ in the statement's own alone.
use Rattle.std.proofs.Common.{◌≡◌, ◌≢◌, refl, sym, ◌∙◌, ap, subst, arith, ℕ, zero, suc, ◌+◌, ◌≤◌, ◌<◌, Bool, ◌&&◌, List, [], ◌∷◌, ◌++◌, length, ℤ, Option, Some, None}
use Rattle.std.specs.Prelude.{slice_get, slice_set}
use Rattle.std.specs.List.{list_all}
use Rattle.std.proofs.lemmas.List.{length-append, length-replicate}
use Rattle.std.proofs.lemmas.List.Elements.{recursion_from_All}
use Rattle.zpl_region.specs.declared.regions.Region.{Region}
use Rattle.zpl_tree.specs.Syntax.{Expr, Number, Truth, Coord, Named, Shifted, Around, Remap, Call, Paren, Neg, Not, Abs, Pair, Reduce, Scan, Flood, Exprs, NoExpr, ThenExpr, NoBracket, Bracketed}
use Rattle.zpl_names.specs.Kinds.{Rank}
use Rattle.zpl_names.specs.Ranks.{operand_rank}
use Rattle.zpl_region.specs.Dim.{HasStep}
use Rattle.zpl_region.proofs.HullLemmas.{has_steps}
use Rattle.zpl_region.proofs.TestLemmas.{is_within_limit_iff}
use Rattle.zpl_arrays.specs.Around.{copy_shift, copy_storage}
use Rattle.print_runs.specs.of_zpl_lowering.Hoist as hoist
use Rattle.print_runs.specs.of_zpl_lowering.Tables.{stored_row}
use Rattle.print_runs.specs.of_lowering_fits.Storages.{IsStorage}
use Rattle.print_runs.proofs.of_lowering_fits.ArrayLemmas.{row_storage, row_three}
use Rattle.print_runs.proofs.of_lowering_fits.StorageLemmas.{copy_is}
use Rattle.zpl_meaning.specs.Store.{Thing, Scalar, ArrayAt, Fixed, thing_of}
use Rattle.zpl_meaning.specs.Context.{Mask}
use Rattle.zpl_meaning.specs.Regions.{vector_in}
use Rattle.zpl_meaning.specs.Term.{Term, Terms}
use Rattle.node_form.specs.declared.tables.Tables.{Tables}
use Rattle.row_runs.specs.Straight.{Every}
use Rattle.print_runs.specs.of_zpl_lowering.Where.{Next, Numbers, SlotCurrents, Slotted, Stored, Where, slotted_at, with_slotted}
use Rattle.print_runs.specs.of_zpl_lowering.Reference.{Reference, all_referred, mask_reference, refer_to, referred}
use Rattle.print_runs.specs.of_zpl_lowering.Slate as slate
use Rattle.print_runs.specs.of_zpl_lowering.Slate.{Placed, Settled, Slate, Slates, NoSlate, ThenSlate, around_slate, border_slots, named_slate, of_opened, opened_source, remap_slate, settled, settled_all, settled_each, shifted_slate, source_of, source_rank, under_source}
use Rattle.print_runs.specs.of_lowering_runs.Seen.{Spot}
use Rattle.print_runs.specs.of_lowering_runs.Stands.{CopiesAt, IsStored, IsTaken, Misses, Stands, array_numbers}
use Rattle.print_runs.proofs.of_lowering_runs.FitLemmas.{copies_first, copies_rest}
use Rattle.print_runs.proofs.of_lowering_runs.NumberLemmas.{misses_free}
use Rattle.print_runs.specs.of_array_runs.Gates.{lies}
use Rattle.operator_runs.specs.Copies.{AllTakeOthers, AreMissed, HasCopies, IsMissed, IsMissedSite, TakesOthers, all_copy_slots, copy_slots, numbers_from}
use Rattle.operator_runs.specs.Hoists.{Own}
use Rattle.operator_runs.specs.Phases.{AreOwn, IsTakenSite}
use Rattle.operator_runs.proofs.StateLemmas.{holds_in}
use Rattle.operator_runs.specs.Meant.{Site, Alone, Under, InSlot, IsAround, IsSite, IsMeant, AreMeant, AreMeantAt, NoneAt, MoreAt}
use Rattle.operator_runs.specs.Meant.{ConstantMeant, VariableMeant, CoordinateMeant, ElementMeant, WrappedMeant}
use Rattle.operator_runs.specs.Meant.{UnaryMeant, BinaryMeant, FoldedMeant, PartFoldedMeant, ScannedMeant, FloodedMeant, RemappedMeant, NoneMeant, MoreMeant}

-- ---- numbers that lists miss

pub misses_left : (xs ys : List ℕ) (k : ℕ) → Misses (xs ++ ys) k → Misses xs k
misses_left [] ys k h = tt
misses_left (x ∷ xs) ys k h = (h.0, misses_left xs ys k h.1)

pub misses_right : (xs ys : List ℕ) (k : ℕ) → Misses (xs ++ ys) k → Misses ys k
misses_right [] ys k h = h
misses_right (x ∷ xs) ys k h = misses_right xs ys k h.1

pub misses_append : (xs ys : List ℕ) (k : ℕ) → Misses xs k → Misses ys k → Misses (xs ++ ys) k
misses_append [] ys k h m = m
misses_append (x ∷ xs) ys k h m = (h.0, misses_append xs ys k h.1 m)

-- all of a list are from one number on, and below another
pub record IsWithin (xs : List ℕ) (from to : ℕ) : Type 0 where
  pub below : (k : ℕ) → k < from → Misses xs k
  pub above : (k : ℕ) → to ≤ k → Misses xs k

pub none_within : (from to : ℕ) → IsWithin [] from to
none_within from to = record { below = λ k lt. tt; above = λ k le. tt }

pub append_within : (xs ys : List ℕ) (from mid to : ℕ) → from ≤ mid → mid ≤ to
    → IsWithin xs from mid → IsWithin ys mid to → IsWithin (xs ++ ys) from to
append_within xs ys from mid to a b h k = record {
  below = λ i lt. misses_append xs ys i (h.below i lt) (k.below i (omega (arith, a, lt)));
  above = λ i le. misses_append xs ys i (h.above i (omega (arith, b, le))) (k.above i le);
}

numbers_below : (first count k : ℕ) → k < first → Misses (numbers_from first count) k
numbers_below first zero k lt = tt
numbers_below first (suc count) k lt =
    ((λ e. absurd (omega (arith, lt, e))), numbers_below (suc first) count k (omega (arith, lt)))

numbers_above : (first count k : ℕ) → first + count ≤ k → Misses (numbers_from first count) k
numbers_above first zero k le = tt
numbers_above first (suc count) k le =
    ((λ e. absurd (omega (arith, le, e))), numbers_above (suc first) count k (omega (arith, le)))

pub numbers_within : (first count : ℕ) → IsWithin (numbers_from first count) first (first + count)
numbers_within first count =
    record { below = numbers_below first count; above = numbers_above first count }

-- each of them is there
pub numbers_missed : (first count k : ℕ) → k < count → Misses (numbers_from first count) (first + k)
    → ⊥
numbers_missed first zero k lt m = absurd (omega (arith, lt))
numbers_missed first (suc count) zero lt m = m.0 (omega arith)
numbers_missed first (suc count) (suc k) lt m =
    numbers_missed (suc first) count k (omega (arith, lt))
    (subst (Misses (numbers_from (suc first) count))
    (let e : first + suc k ≡ suc first + k = omega arith in e) m.1)

-- ---- the slots of copies are among those that were free

abbrev WithinNext : {A : Type 0} → Next → Settled A → List ℕ → Type 0
WithinNext next it filled = IsWithin filled next.slots (next.slots + length it.slots)

both_within : {A B C : Type 0} (f : A → B → C) (next : Next) (first : Settled A) (rest : Settled B)
    (xs ys : List ℕ) → WithinNext next first xs → WithinNext (slate.behind next first) rest ys
    → WithinNext next (slate.both f first rest) (xs ++ ys)
both_within f next first rest xs ys h k =
    let mid = next.slots + length first.slots in
    append_within xs ys next.slots mid (next.slots + length (first.slots ++ rest.slots)) (omega arith)
    (omega (arith, length-append first.slots rest.slots)) h
    (subst (IsWithin ys mid)
    (let e : mid + length rest.slots ≡ next.slots + length (first.slots ++ rest.slots) =
    omega (arith, length-append first.slots rest.slots) in e) k)

named_within : (next : Next) (over : Slotted) (thing : Option Thing)
    → WithinNext next (slate.alone (named_slate over thing)) (copy_slots (named_slate over thing))
named_within next over (Some (Scalar place)) = none_within _ _
named_within next over (Some (Fixed value)) = none_within _ _
named_within next over (Some (ArrayAt place home)) = none_within _ _
named_within next over None = none_within _ _

shifted_within : (next : Next) (over : Slotted) (shift : List ℤ) (thing : Option Thing)
    → WithinNext next (slate.alone (shifted_slate over shift thing))
    (copy_slots (shifted_slate over shift thing))
shifted_within next over shift (Some (Scalar place)) = none_within _ _
shifted_within next over shift (Some (Fixed value)) = none_within _ _
shifted_within next over shift (Some (ArrayAt place home)) = none_within _ _
shifted_within next over shift None = none_within _ _

around_within : (next : Next) (over : Slotted) (shift : List ℤ) (thing : Option Thing)
    → WithinNext next (around_slate next over shift thing)
    (copy_slots (around_slate next over shift thing).slate)
around_within next over shift (Some (Scalar place)) = none_within _ _
around_within next over shift (Some (Fixed value)) = none_within _ _
around_within next over shift (Some (ArrayAt place home)) =
    let many = border_slots (copy_shift home shift) in
    subst (IsWithin (numbers_from next.slots many) next.slots)
    (ap (λ k. next.slots + k) (sym (length-replicate many home.rank)))
    (numbers_within next.slots many)
around_within next over shift None = none_within _ _

remap_within : (next : Next) (over : Slotted) (thing : Option Thing) (all : Settled Slates)
    → WithinNext next all (all_copy_slots all.slate)
    → WithinNext next (slate.mapped (remap_slate over thing) all)
    (copy_slots (remap_slate over thing all.slate))
remap_within next over (Some (Scalar place)) all h = none_within _ _
remap_within next over (Some (Fixed value)) all h = none_within _ _
remap_within next over (Some (ArrayAt place home)) all h = h
remap_within next over None all h = none_within _ _

mutual
  pub expr_within : (w : Where) (line : ℕ) (next : Next) (rank : Rank) (expr : Expr)
      → WithinNext next (settled w line next rank expr)
      (copy_slots (settled w line next rank expr).slate)
  expr_within w line next rank (Number at value) = none_within _ _
  expr_within w line next rank (Truth at value) = none_within _ _
  expr_within w line next rank (Coord at k) = none_within _ _
  expr_within w line next rank (Named at name) =
      named_within next (slotted_at w.currents rank) (thing_of w.environment name.text)
  expr_within w line next rank (Shifted at name shift) =
      shifted_within next (slotted_at w.currents rank) (vector_in w.setup.known shift)
      (thing_of w.environment name.text)
  expr_within w line next rank (Around at name shift) =
      around_within next (slotted_at w.currents rank) (vector_in w.setup.known shift)
      (thing_of w.environment name.text)
  expr_within w line next rank (Remap at name indices) =
      remap_within next (slotted_at w.currents rank) (thing_of w.environment name.text)
      (settled_all w line next rank indices) (exprs_within w line next rank indices)
  expr_within w line next rank (Call at name actuals) = none_within _ _
  expr_within w line next rank (Paren at inside) = expr_within w line next rank inside
  expr_within w line next rank (Neg at operand) = expr_within w line next rank operand
  expr_within w line next rank (Not at operand) = expr_within w line next rank operand
  expr_within w line next rank (Abs at operand) = expr_within w line next rank operand
  expr_within w line next rank (Pair at op left right) =
      let first = settled w line next rank left in
      let after = slate.behind next first in
      let second = settled w line after rank right in
      both_within (slate.Binary op) next first second (copy_slots first.slate)
      (copy_slots second.slate) (expr_within w line next rank left)
      (expr_within w line after rank right)
  expr_within w line next rank (Reduce at operator NoBracket operand) =
      expr_within w line next (operand_rank w.scope w.prefix operand) operand
  expr_within w line next rank (Reduce at operator (Bracketed source) operand) =
      let over = source_rank w source operand in
      let opened = opened_source w next line source operand in
      let after = slate.behind next (of_opened opened) in
      let inner = under_source w over (source_of opened) in
      let second = settled inner line after over operand in
      both_within (slate.PartFolded operator (slotted_at w.currents over)) next (of_opened opened)
      second [] (copy_slots second.slate) (none_within _ _)
      (expr_within inner line after over operand)
  expr_within w line next rank (Scan at operator along operand) =
      expr_within w line next rank operand
  expr_within w line next rank (Flood at source operand) =
      let over = source_rank w source operand in
      let opened = opened_source w next line source operand in
      let after = slate.behind next (of_opened opened) in
      let inner = under_source w over (source_of opened) in
      let second = settled inner line after over operand in
      both_within (slate.Flooded (slotted_at w.currents over)) next (of_opened opened) second []
      (copy_slots second.slate) (none_within _ _) (expr_within inner line after over operand)

  pub exprs_within : (w : Where) (line : ℕ) (next : Next) (rank : Rank) (exprs : Exprs)
      → WithinNext next (settled_all w line next rank exprs)
      (all_copy_slots (settled_all w line next rank exprs).slate)
  exprs_within w line next rank NoExpr = none_within _ _
  exprs_within w line next rank (ThenExpr first rest) =
      let one = settled w line next rank first in
      let after = slate.behind next one in
      let others = settled_all w line after rank rest in
      both_within ThenSlate next one others (copy_slots one.slate) (all_copy_slots others.slate)
      (expr_within w line next rank first) (exprs_within w line after rank rest)

pub each_within : (w : Where) (line : ℕ) (next : Next) (exprs : List Placed)
    → WithinNext next (settled_each w line next exprs)
    (all_copy_slots (settled_each w line next exprs).slate)
each_within w line next [] = none_within _ _
each_within w line next (placed ∷ rest) =
    let one = settled w line next placed.rank placed.expr in
    let after = slate.behind next one in
    let others = settled_each w line after rest in
    both_within ThenSlate next one others (copy_slots one.slate) (all_copy_slots others.slate)
    (expr_within w line next placed.rank placed.expr) (each_within w line after rest)

-- ---- parts of what there is of the statement's own

module _ (tables : Tables) (w : Where) (own : Own) (slot number : ℕ) (slots more : List ℕ)
    (copies others : List Region) (xs ys : List ℕ)
    (h : HasCopies tables w own slot number (slots ++ more) (copies ++ others) (xs ++ ys)) where
  pub has_first : IsWithin ys (slot + length slots) (slot + length slots + length more)
      → HasCopies tables w own slot number slots copies xs
  has_first k = record {
    arrays = h.arrays;
    apart = h.apart;
    stored = copies_first tables.arrays h.arrays own.temps h.arrays number copies others
        (omega arith) h.stored;
    owned = λ i m. misses_left xs ys i (h.owned i m);
    others = λ i le lt m. h.others i le
        (omega (arith, lt, length-append slots more))
        (misses_append xs ys i m (k.below i lt));
    declared = h.declared;
    currents = h.currents;
  }

  pub has_rest : IsWithin xs slot (slot + length slots)
      → HasCopies tables w own (slot + length slots) (number + length copies) more others ys
  has_rest k = record {
    arrays = h.arrays;
    apart = h.apart;
    stored = copies_rest tables.arrays h.arrays own.temps h.arrays own.temps number copies others
        (omega arith) (omega arith) h.stored;
    owned = λ i m. misses_right xs ys i (h.owned i m);
    others = λ i le lt m. h.others i (omega (arith, le))
        (omega (arith, lt, length-append slots more))
        (misses_append xs ys i (k.above i le) m);
    declared = h.declared;
    currents = h.currents;
  }

-- the row of a copy is stored, with the storage that it has been laid out with
pub copy_row : (tables : Tables) (k : ℕ) (home : Region) (d : List ℤ) (stored : Stored)
    → IsAround home d stored → (shifts : List hoist.Shifted)
    → slice_get tables.arrays k ≡ Some (stored_row k shifts (copy_storage home d))
    → IsStored tables (record { array = k; storage = copy_storage home d })
copy_row tables k home d stored around shifts found =
    let a = around.is in
    let s : IsStorage (copy_storage home d) =
    copy_is is_within_limit_iff home.rank home d (a.rank_above, a.rank_below)
    (record {
      steps = recursion_from_All HasStep home.dims (has_steps home.dims a.dims);
      padded = a.padded;
      three = around.three;
      same = refl;
    }) around.copy_limit in
    record {
      row = stored_row k shifts (copy_storage home d);
      found = found;
      kept = refl;
      three = row_three k shifts (copy_storage home d) s;
      storage = row_storage k shifts (copy_storage home d) s;
    }

-- ---- current regions

missed_with : (own : List ℕ) (currents : SlotCurrents) (rank : Rank) (slotted : Slotted)
    → Misses own slotted.slot → AreMissed own currents
    → AreMissed own (with_slotted currents rank slotted)
missed_with own currents (Some (suc zero)) slotted m h =
    record { one = m; two = h.two; three = h.three }
missed_with own currents (Some (suc (suc zero))) slotted m h =
    record { one = h.one; two = m; three = h.three }
missed_with own currents (Some (suc (suc (suc zero)))) slotted m h =
    record { one = h.one; two = h.two; three = m }
missed_with own currents (Some zero) slotted m h = h
missed_with own currents (Some (suc (suc (suc (suc k))))) slotted m h = h
missed_with own currents None slotted m h = h

-- also under another one
pub has_under : (tables : Tables) (w : Where) (own : Own) (slot number : ℕ) (slots : List ℕ)
    (copies : List Region) (filled : List ℕ) (rank : Rank) (slotted : Slotted)
    → Misses own.slots slotted.slot → HasCopies tables w own slot number slots copies filled
    → HasCopies tables (under_source w rank slotted) own slot number slots copies filled
has_under tables w own slot number slots copies filled rank slotted m h = record {
  arrays = h.arrays;
  apart = h.apart;
  stored = h.stored;
  owned = h.owned;
  others = h.others;
  declared = h.declared;
  currents = missed_with own.slots w.currents rank slotted m h.currents;
}

-- ---- slots that differ in the statement's own alone

module _ (w : Where) (spots : List Spot) (own : List ℕ) (slots others : List Region)
    (same : (k : ℕ) → Misses own k → slice_get others k ≡ slice_get slots k) where
  in_slot_same : (over : Slotted) (region : Region) → InSlot slots over region
      → Misses own over.slot → InSlot others over region
  in_slot_same over region i m = record {
    found = same over.slot m ∙ i.found;
    is = i.is;
    three = i.three;
    flood = i.flood;
  }

  mutual
    meant_same : (site : Site) (one : Slate) (meant : Term)
        → IsMeant w spots slots site one meant → TakesOthers own one
        → IsMeant w spots others site one meant
    meant_same site _ _ (ConstantMeant is) t = ConstantMeant is
    meant_same site _ _ VariableMeant t = VariableMeant
    meant_same _ _ _ (CoordinateMeant lt) t = CoordinateMeant lt
    meant_same _ _ _ (ElementMeant r) t = ElementMeant r
    meant_same _ _ _ (WrappedMeant found is ranked covers) t = WrappedMeant found is ranked covers
    meant_same site _ _ (UnaryMeant {one = one} {operand = operand} h) t =
        UnaryMeant (meant_same site one operand h t)
    meant_same site _ _ (BinaryMeant {one = one} {other = other} {left = left} {right = right} h k) t =
        BinaryMeant (meant_same site one left h t.0) (meant_same site other right k t.1)
    meant_same site _ _ (FoldedMeant {over = over} {region = region} {one = one} {operand = operand}
        i readable flat h) t =
        FoldedMeant (in_slot_same over region i t.0) readable flat
        (meant_same (Under over region) one operand h t.1)
    meant_same _ _ _ (PartFoldedMeant {source = source} {tuples = tuples} {one = one}
        {operand = operand} i readable flat h) t =
        PartFoldedMeant (in_slot_same source tuples i t.0) readable flat
        (meant_same (Under source tuples) one operand h t.1)
    meant_same _ _ _ (ScannedMeant {over = over} {region = region} {one = one} {operand = operand}
        readable along flat h) t =
        ScannedMeant readable along flat (meant_same (Under over region) one operand h t)
    meant_same _ _ _ (FloodedMeant {source = source} {tuples = tuples} {one = one}
        {operand = operand} i readable h) t =
        FloodedMeant (in_slot_same source tuples i t.0) readable
        (meant_same (Under source tuples) one operand h t.1)
    meant_same _ _ _ (RemappedMeant {over = over} {region = region} {indices = indices}
        {terms = terms} found is counted readable flat h) t =
        RemappedMeant found is counted readable flat
        (are_meant_same (Under over region) indices terms h t)

    are_meant_same : (site : Site) (slates : Slates) (terms : Terms)
        → AreMeant w spots slots site slates terms → AllTakeOthers own slates
        → AreMeant w spots others site slates terms
    are_meant_same site _ _ NoneMeant t = NoneMeant
    are_meant_same site _ _ (MoreMeant {one = one} {rest = rest} {first = first} {terms = terms} h k)
        t =
        MoreMeant (meant_same site one first h t.0) (are_meant_same site rest terms k t.1)

  pub each_meant_same : (sites : List Site) (slates : Slates) (terms : Terms)
      → AreMeantAt w spots slots sites slates terms → AllTakeOthers own slates
      → AreMeantAt w spots others sites slates terms
  each_meant_same _ _ _ NoneAt t = NoneAt
  each_meant_same _ _ _ (MoreAt {site = site} {sites = sites} {one = one} {rest = rest}
      {first = first} {terms = terms} h k) t =
      MoreAt (meant_same site one first h t.0) (each_meant_same sites rest terms k t.1)

-- ---- references

module _ (tables : Tables) (own : List ℕ) (slots others : List Region)
    (same : (k : ℕ) → Misses own k → slice_get others k ≡ slice_get slots k) where
  abbrev MissEach : List Reference → Type 0
  MissEach refs = Every (λ (one : Reference). Misses own one.slot) refs

  miss_append : (one other : List Reference) → MissEach one → MissEach other
      → MissEach (one ++ other)
  miss_append [] other h k = k
  miss_append (first ∷ one) other h k = (h.0, miss_append one other h.1 k)

  refer_missed : (slot : ℕ) (shift : List ℤ) (o : Option Stored) → Misses own slot
      → MissEach (refer_to slot shift o)
  refer_missed slot shift None m = tt
  refer_missed slot shift (Some stored) m = (m, tt)

  over_missed : (numbers : Numbers) (slot : ℕ) (mask : Option Mask) → Misses own slot
      → MissEach (mask_reference numbers slot mask)
  over_missed numbers slot None m = tt
  over_missed numbers slot (Some mask) m =
      refer_missed slot [] (slice_get numbers.arrays mask.array) m

  module _ (w : Where) (spots : List Spot) where
    mutual
      referred_missed : (site : Site) (one : Slate) (meant : Term)
          → IsMeant w spots slots site one meant → IsMissedSite own site
          → TakesOthers own one → MissEach (referred w.numbers one)
      referred_missed site _ _ (ConstantMeant is) m t = tt
      referred_missed site _ _ VariableMeant m t = tt
      referred_missed _ _ _ (CoordinateMeant lt) m t = tt
      referred_missed _ _ _ (ElementMeant {over = over} {place = place} {shift = shift} r) m t =
          refer_missed over.slot shift (slice_get w.numbers.arrays place) m
      referred_missed _ _ _ (WrappedMeant found is ranked covers) m t = (m, (m, tt))
      referred_missed site _ _ (UnaryMeant {one = one} {operand = operand} h) m t =
          referred_missed site one operand h m t
      referred_missed site _ _ (BinaryMeant {one = one} {other = other} {left = left}
          {right = right} h k) m t =
          miss_append (referred w.numbers one) (referred w.numbers other)
          (referred_missed site one left h m t.0) (referred_missed site other right k m t.1)
      referred_missed site _ _ (FoldedMeant {over = over} {region = region} {one = one}
          {operand = operand} i readable flat h) m t =
          miss_append (referred w.numbers one) (mask_reference w.numbers over.slot over.mask)
          (referred_missed (Under over region) one operand h t.0 t.1)
          (over_missed w.numbers over.slot over.mask t.0)
      referred_missed _ _ _ (PartFoldedMeant {over = over} {source = source} {tuples = tuples}
          {one = one} {operand = operand} i readable flat h) m t =
          miss_append (mask_reference w.numbers over.slot over.mask) (referred w.numbers one)
          (over_missed w.numbers over.slot over.mask m)
          (referred_missed (Under source tuples) one operand h t.0 t.1)
      referred_missed _ _ _ (ScannedMeant {over = over} {region = region} {one = one}
          {operand = operand} readable along flat h) m t =
          miss_append (referred w.numbers one) (mask_reference w.numbers over.slot over.mask)
          (referred_missed (Under over region) one operand h m t)
          (over_missed w.numbers over.slot over.mask m)
      referred_missed _ _ _ (FloodedMeant {over = over} {source = source} {tuples = tuples}
          {one = one} {operand = operand} i readable h) m t =
          miss_append (mask_reference w.numbers over.slot over.mask) (referred w.numbers one)
          (over_missed w.numbers over.slot over.mask m)
          (referred_missed (Under source tuples) one operand h t.0 t.1)
      referred_missed _ _ _ (RemappedMeant {over = over} {region = region} {indices = indices}
          {terms = terms} found is counted readable flat h) m t =
          miss_append (mask_reference w.numbers over.slot over.mask) (all_referred w.numbers indices)
          (over_missed w.numbers over.slot over.mask m)
          (all_referred_missed (Under over region) indices terms h m t)

      all_referred_missed : (site : Site) (slates : Slates) (terms : Terms)
          → AreMeant w spots slots site slates terms → IsMissedSite own site
          → AllTakeOthers own slates → MissEach (all_referred w.numbers slates)
      all_referred_missed site _ _ NoneMeant m t = tt
      all_referred_missed site _ _ (MoreMeant {one = one} {rest = rest} {first = first}
          {terms = terms} h k) m t =
          miss_append (referred w.numbers one) (all_referred w.numbers rest)
          (referred_missed site one first h m t.0) (all_referred_missed site rest terms k m t.1)

    each_referred_missed : (sites : List Site) (slates : Slates) (terms : Terms)
        → AreMeantAt w spots slots sites slates terms → Every (IsMissedSite own) sites
        → AllTakeOthers own slates → MissEach (all_referred w.numbers slates)
    each_referred_missed _ _ _ NoneAt m t = tt
    each_referred_missed _ _ _ (MoreAt {site = site} {sites = sites} {one = one} {rest = rest}
        {first = first} {terms = terms} h k) m t =
        miss_append (referred w.numbers one) (all_referred w.numbers rest)
        (referred_missed site one first h m.0 t.0) (each_referred_missed sites rest terms k m.1 t.1)

    -- they hold in these slots as they do in those
    pub each_held_same : (sites : List Site) (slates : Slates) (terms : Terms)
        → AreMeantAt w spots slots sites slates terms → Every (IsMissedSite own) sites
        → AllTakeOthers own slates
        → list_all (holds_in tables others) (all_referred w.numbers slates)
        ≡ list_all (holds_in tables slots) (all_referred w.numbers slates)
    each_held_same sites slates terms are m t =
        all (all_referred w.numbers slates) (each_referred_missed sites slates terms are m t)
      where
        all : (refs : List Reference) → MissEach refs
            → list_all (holds_in tables others) refs ≡ list_all (holds_in tables slots) refs
        all [] m = refl
        all (one ∷ refs) m =
            ap (λ (o : Option Region). lies one.shift o (slice_get tables.arrays one.array)
            && list_all (holds_in tables others) refs) (same one.slot m.0)
            ∙ ap (λ (b : Bool). holds_in tables slots one && b) (all refs m.1)

  -- ---- sites

  pub sites_same : (sites : List Site) → Every (IsSite slots) sites → Every (IsMissedSite own) sites
      → Every (IsSite others) sites
  sites_same [] i m = tt
  sites_same (site ∷ sites) i m = (one site i.0 m.0, sites_same sites i.1 m.1)
    where
      one : (site : Site) → IsSite slots site → IsMissedSite own site → IsSite others site
      one Alone i m = tt
      one (Under over region) i m = record {
        found = same over.slot m ∙ i.found;
        is = i.is;
        three = i.three;
        flood = i.flood;
      }

-- a slot that was taken is none of the statement's own
pub sites_missed : (slots : ℕ) (own : Own) → AreOwn slots own → (sites : List Site)
    → Every (IsTakenSite slots) sites → Every (IsMissedSite own.slots) sites
sites_missed slots own free [] h = tt
sites_missed slots own free (site ∷ sites) h = (one site h.0, sites_missed slots own free sites h.1)
  where
    one : (site : Site) → IsTakenSite slots site → IsMissedSite own.slots site
    one Alone h = tt
    one (Under over region) h = free over.slot h

-- ---- slots without the statement's own

-- no expression stands under it
abbrev no_box : Region
no_box = record { rank = 0; dims = [] }

abbrev pub without_own : List ℕ → List Region → List Region
without_own [] slots = slots
without_own (k ∷ own) slots = slice_set (without_own own slots) k no_box

set_other : (xs : List Region) (k j : ℕ) (r : Region) → k ≢ j
    → slice_get (slice_set xs k r) j ≡ slice_get xs j
set_other [] k j r ne = refl
set_other (x ∷ xs) zero zero r ne = absurd (ne refl)
set_other (x ∷ xs) zero (suc j) r ne = refl
set_other (x ∷ xs) (suc k) zero r ne = refl
set_other (x ∷ xs) (suc k) (suc j) r ne = set_other xs k j r (λ e. ne (ap suc e))

set_same : (xs : List Region) (k : ℕ) (r s : Region) → slice_get (slice_set xs k r) k ≡ Some s
    → r ≡ s
set_same [] zero r s e = absurd (let no : ⊥ = cc in no)
set_same [] (suc k) r s e = absurd (let no : ⊥ = cc in no)
set_same (x ∷ xs) zero r s e = cc
set_same (x ∷ xs) (suc k) r s e = set_same xs k r s e

pub without_same : (own : List ℕ) (slots : List Region) (k : ℕ) → Misses own k
    → slice_get (without_own own slots) k ≡ slice_get slots k
without_same [] slots k m = refl
without_same (one ∷ own) slots k m =
    set_other (without_own own slots) one k no_box m.0 ∙ without_same own slots k m.1

-- no region of an expression is in one of these
pub without_apart : (own : List ℕ) (slots : List Region) (over : Slotted) (region : Region)
    → InSlot (without_own own slots) over region → Misses own over.slot
without_apart [] slots over region i = tt
without_apart (one ∷ own) slots over region i =
    let other : one ≢ over.slot = λ e. none (subst (λ (k : ℕ).
    slice_get (slice_set (without_own own slots) k no_box) over.slot ≡ Some region) e i.found) in (
      other,
      without_apart own slots over region
          (record {
            found = sym (set_other (without_own own slots) one over.slot no_box other) ∙ i.found;
            is = i.is;
            three = i.three;
            flood = i.flood;
          }),
    )
  where
    none : slice_get (slice_set (without_own own slots) over.slot no_box) over.slot ≡ Some region → ⊥
    none e =
        let three = ap (λ (r : Region). length r.dims)
        (set_same (without_own own slots) over.slot no_box region e) ∙ i.three in
        omega (arith, three)

-- ---- what a statement has of its own

-- the slots of the copies in its expressions
abbrev pub own_of : Next → Slates → Own
own_of next slates = record { slots = all_copy_slots slates; temps = next.temps }

module _ (tables : Tables) (spots : List Spot) (w : Where) (line : ℕ) (next : Next)
    (stands : Stands spots w next) (exprs : List Placed) where
  abbrev it : Settled Slates
  it = settled_each w line next exprs

  -- they were free
  pub own_free : AreOwn next.slots (own_of next it.slate)
  own_free k lt = (each_within w line next exprs).below k lt

  current_missed : (one : Option Slotted) → IsTaken one next.slots
      → IsMissed (all_copy_slots it.slate) one
  current_missed None t = tt
  current_missed (Some slotted) t = own_free slotted.slot t

  -- where the copies are stored, behind arrays and before temporaries
  pub own_copies : (arrays : ℕ) → next.arrays ≤ arrays
      → CopiesAt tables.arrays arrays next.temps next.copies it.copies
      → HasCopies tables w (own_of next it.slate) next.slots next.copies it.slots it.copies
      (all_copy_slots it.slate)
  own_copies arrays above stored = record {
    arrays = arrays;
    apart = λ k le.
        misses_free 0 (array_numbers w.numbers.arrays) next.arrays k stands.stored
        (omega (arith, le, above));
    stored = stored;
    owned = λ k m. m;
    others = λ k le lt m. m;
    declared = λ k lt. own_free k (omega (arith, lt, stands.declared));
    currents = record {
      one = current_missed w.currents.one stands.taken.one;
      two = current_missed w.currents.two stands.taken.two;
      three = current_missed w.currents.three stands.taken.three;
    };
  }
