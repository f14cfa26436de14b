-- What the meaning and the lowering settle expressions to stands for the same, behind the rows of
-- the brackets that stand in them.
use Rattle.std.proofs.Common.{◌≡◌, refl, sym, ◌∙◌, ap, subst, arith, ℕ, suc, ◌+◌, ◌≤◌, Bool, false, List, [], ◌∷◌, ◌++◌, length, map, ℤ, pos}
use Rattle.std.proofs.Common.{Option, Some, None}
use Rattle.std.specs.Prelude.{filter, replicate, slice_get, ◌*◌, ◌^◌, ◌-◌}
use Rattle.std.proofs.lemmas.List.{length-append, length-replicate}
use Rattle.zpl_arrays.specs.Around.{copy_shift}
use Rattle.std.specs.Option.{option_map}
use Rattle.zpl_nums.specs.declared.folds.Fold.{Fold}
use Rattle.zpl_nums.specs.declared.operators.Op.{Op}
use Rattle.zpl_nums.specs.declared.operators.UnaryOp.{UnaryOp}
use Rattle.zpl_nums.specs.declared.operators.UnaryOp.TheVariants as unary
use Rattle.zpl_nums.specs.Integer.{truth}
use Rattle.zpl_nums.proofs.IntegerLemmas.{IsInteger-truth}
use Rattle.zpl_region.specs.declared.regions.Region.{Region}
use Rattle.zpl_tree.specs.Syntax.{Name, Dir, Expr, Number, Truth, Coord, Named, Shifted, Around, Remap, Call, Paren, Neg, Not, Abs, Pair, Reduce, Scan, Flood, Exprs, NoExpr, ThenExpr, Inner, NoBracket, Bracketed}
use Rattle.zpl_names.specs.Kinds.{Rank}
use Rattle.zpl_names.specs.Ranks.{exprs_count, operand_rank}
use Rattle.zpl_meaning.specs.Computed as mean
use Rattle.zpl_meaning.specs.Computed.{both_then, computed_then}
use Rattle.zpl_meaning.specs.Store.{Thing, Scalar, ArrayAt, Fixed, Store, thing_of}
use Rattle.zpl_meaning.specs.Context.{Currents, Edge, Over, Place, over_at}
use Rattle.zpl_meaning.specs.Proper.{HasCurrent}
use Rattle.zpl_meaning.specs.Regions as mean_regions
use Rattle.zpl_meaning.specs.Regions.{vector_in}
use Rattle.zpl_meaning.specs.Settled as phase
use Rattle.zpl_meaning.specs.Settled.{around_term, named_term, remap_term, shifted_term}
use Rattle.zpl_meaning.specs.Term as term
use Rattle.zpl_meaning.specs.Term.{Term, Terms, NoTerm, ThenTerm}
use Rattle.node_form.specs.declared.tables.Tables.{Tables}
use Rattle.row_runs.specs.Structured as code
use Rattle.row_runs.specs.Structured.{Course, rows_do}
use Rattle.flat_form.specs.Row.{Row}
use Rattle.flat_form.specs.Whole.{Whole}
use Rattle.print_runs.specs.of_zpl_lowering.Where.{SlotCurrents, Slotted, Where, Next, slotted_at}
use Rattle.print_runs.specs.of_zpl_lowering.Slate as slate
use Rattle.print_runs.specs.of_zpl_lowering.Slate.{Placed, Settled, Slate, Slates, NoSlate, ThenSlate, around_slate, border_slots, is_moving, named_slate, of_opened, opened_source, remap_slate, settled, settled_all, settled_each, shifted_slate, source_of, source_rank, under_source}
use Rattle.print_runs.specs.of_lowering_runs.Seen.{Spot, Sight, numbered, seen_currents, seen_edge, seen_place, seen_store, seen_thing}
use Rattle.print_runs.specs.of_lowering_runs.Run.{decide, step}
use Rattle.print_runs.specs.of_lowering_runs.Stands.{IsHeld, IsKnown, IsSound, Misses, SlotsAt, Stands}
use Rattle.print_runs.proofs.of_lowering_runs.PrintLemmas.{rows_append}
use Rattle.print_runs.proofs.of_lowering_runs.ValueLemmas.{known_thing, thing_seen}
use Rattle.print_runs.specs.of_array_runs.Floods.{IsElementAs, IsReadableMaskAs, slot_floods}
use Rattle.print_runs.proofs.of_array_runs.CodedLemmas.{current_of}
use Rattle.print_runs.proofs.of_array_runs.FloodLemmas.{current_floods, readable, mask_readable}
use Rattle.call_runs.specs.of_prefix_runs.Filled.{IsFilled}
use Rattle.call_runs.proofs.of_prefix_runs.FillLemmas.{filled_itself, filled_then, slots_below}
use Rattle.call_runs.proofs.of_prefix_runs.ShapeLemmas.{flood_length}
use Rattle.call_runs.proofs.of_prefix_runs.UnderLemmas.{taken_at}
use Rattle.operator_runs.proofs.CurrentLemmas.{current_in}
use Rattle.operator_runs.proofs.ReadLemmas.{Fits, Reads, ReadsNone, ReadsUnder, fits_current, fits_on, none_flood, reads_on, three_none}
use Rattle.operator_runs.proofs.SourceLemmas.{IsHere, Leaves, LeavesIt, LeavesNone, alone_leaves, at, both_is, here_behind, inner_currents, inner_here, inner_meant, inner_reads, mapped_leaves, opened_as, seen_at, slots_first, slots_rest, source_leaves, then_leaves}
use Rattle.operator_runs.specs.Meant.{Site, Under, InSlot, IsMeant, count_of}
use Rattle.operator_runs.specs.Meant.{ConstantMeant, VariableMeant, CoordinateMeant, ElementMeant, WrappedMeant}
use Rattle.operator_runs.specs.Meant.{UnaryMeant, BinaryMeant, FoldedMeant, PartFoldedMeant, ScannedMeant, FloodedMeant, RemappedMeant, AreMeant, NoneMeant, MoreMeant, AreMeantAt, NoneAt, MoreAt}
use Rattle.operator_runs.specs.Operated.{AreIndices, HaveNoFlood, IsCoordinateIn, IsNameIn, IsOperated, IsRemappedIn, IsScannedIn, IsUnderSource, IsWrapped, IsWrappedIn, OpensSource}
use Rattle.operator_runs.specs.Copies.{AllCopied, AllTakeOthers, AreCopied, HasCopies, TakesOthers, all_copy_slots, copy_slots}
use Rattle.operator_runs.specs.Hoists.{Own, copies_of, copies_of_all}
use Rattle.operator_runs.proofs.OwnLemmas.{IsWithin, copy_row, each_within, expr_within, exprs_within, has_first, has_rest, has_under, none_within, numbers_missed}
use Rattle.operator_runs.proofs.SlotLemmas.{bracket_missed, missed_at}
use Rattle.operator_runs.specs.Settles.{Settles, SettlesTo, Unsettled}

abbrev pub placed_of : Placed → phase.Placed
placed_of placed = record { rank = placed.rank; expr = placed.expr }

-- as many slates as expressions
count_settled : (w : Where) (line : ℕ) (next : Next) (rank : Rank) (exprs : Exprs)
    → count_of (settled_all w line next rank exprs).slate ≡ exprs_count exprs
count_settled w line next rank NoExpr = refl
count_settled w line next rank (ThenExpr first rest) =
    ap suc (count_settled w line (slate.behind next (settled w line next rank first)) rank rest)

module _ (tables : Tables) (n : ℕ) (sight : Sight) (base : Where) (line : ℕ) (store : Store)
    (edge : Option Edge) (own : Own) where
  abbrev spots : List Spot
  spots = sight.spots

  abbrev w : SlotCurrents → Where
  w currents = at tables n sight base line store edge currents

  abbrev p : Currents → Place
  p meant = seen_at tables n sight base line store edge meant

  abbrev rows : List Row → Whole → Course Whole
  rows = rows_do (step tables n) (decide tables n)

  abbrev Here : SlotCurrents → Currents → Next → Whole → Type 0
  Here = IsHere tables n sight base line store edge

  abbrev At : Site → List Region → Slate → Term → Type 0
  At site slots one meant = IsMeant base spots slots site one meant

  abbrev AllAt : Site → List Region → Slates → Terms → Type 0
  AllAt site slots slates terms = AreMeant base spots slots site slates terms

  -- ---- what slates have of the statement's own

  -- from a number of copies on
  abbrev Owned : ℕ → List Region → Slate → Type 0
  Owned number copies one =
      AreCopied tables base own number one × (copies_of one ≡ length copies)
      × TakesOthers own.slots one

  abbrev AllOwned : ℕ → List Region → Slates → Type 0
  AllOwned number copies slates =
      AllCopied tables base own number slates × (copies_of_all slates ≡ length copies)
      × AllTakeOthers own.slots slates

  -- a slate that stands for a term, and has such
  record SettledAt (number : ℕ) (copies : List Region) (site : Site) (slots : List Region)
      (one : Slate) (meant : Term) : Type 0 where
    is : At site slots one meant
    owned : Owned number copies one

  record AllSettledAt (number : ℕ) (copies : List Region) (site : Site) (slots : List Region)
      (slates : Slates) (terms : Terms) : Type 0 where
    is : AllAt site slots slates terms
    owned : AllOwned number copies slates

  abbrev Has : {A : Type 0} → SlotCurrents → Next → Settled A → List ℕ → Type 0
  Has currents next it filled =
      HasCopies tables (w currents) own next.slots next.copies it.slots it.copies filled

  pair_owned : (op : Op) (number : ℕ) (copies more : List Region) (one other : Slate)
      → Owned number copies one → Owned (number + length copies) more other
      → Owned number (copies ++ more) (slate.Binary op one other)
  pair_owned op number copies more one other h k = (
    (
      h.0,
      subst (λ (i : ℕ). AreCopied tables base own (number + i) other) (sym h.1) k.0,
    ),
    omega (arith, h.1, k.1, length-append copies more),
    (h.2, k.2),
  )

  then_owned : (number : ℕ) (copies more : List Region) (one : Slate) (rest : Slates)
      → Owned number copies one → AllOwned (number + length copies) more rest
      → AllOwned number (copies ++ more) (ThenSlate one rest)
  then_owned number copies more one rest h k = (
    (
      h.0,
      subst (λ (i : ℕ). AllCopied tables base own (number + i) rest) (sym h.1) k.0,
    ),
    omega (arith, h.1, k.1, length-append copies more),
    (h.2, k.2),
  )

  module _ {A B C : Type 0} (currents : SlotCurrents) (next : Next) (f : A → B → C)
      (first : Settled A) (rest : Settled B) (xs ys : List ℕ)
      (has : Has currents next (slate.both f first rest) (xs ++ ys)) where
    first_has : IsWithin ys (next.slots + length first.slots)
        (next.slots + length first.slots + length rest.slots) → Has currents next first xs
    first_has within =
        has_first tables (w currents) own next.slots next.copies first.slots rest.slots first.copies
        rest.copies xs ys has within

    rest_has : IsWithin xs next.slots (next.slots + length first.slots)
        → Has currents (slate.behind next first) rest ys
    rest_has within =
        has_rest tables (w currents) own next.slots next.copies first.slots rest.slots first.copies
        rest.copies xs ys has within

  named_owned : (number : ℕ) (over : Slotted) (thing : Option Thing)
      → Owned number [] (named_slate over thing)
  named_owned number over (Some (Scalar place)) = (tt, refl, tt)
  named_owned number over (Some (Fixed value)) = (tt, refl, tt)
  named_owned number over (Some (ArrayAt place home)) = (tt, refl, tt)
  named_owned number over None = (tt, refl, tt)

  shifted_owned : (number : ℕ) (over : Slotted) (shift : List ℤ) (thing : Option Thing)
      → Owned number [] (shifted_slate over shift thing)
  shifted_owned number over shift (Some (Scalar place)) = (tt, refl, tt)
  shifted_owned number over shift (Some (Fixed value)) = (tt, refl, tt)
  shifted_owned number over shift (Some (ArrayAt place home)) = (tt, refl, tt)
  shifted_owned number over shift None = (tt, refl, tt)

  remapped_owned : (number : ℕ) (copies : List Region) (currents : SlotCurrents)
      (under : Option Slotted) (over : Slotted) (thing : Option Thing) (count : ℕ) (indices : Slates)
      → IsRemappedIn (w currents) under thing count → AllOwned number copies indices
      → Owned number copies (remap_slate over thing indices)
  remapped_owned number copies currents None over thing count indices h m = absurd h
  remapped_owned number copies currents (Some there) over thing count indices h m =
      subst (λ (o : Option Thing). Owned number copies (remap_slate over o indices)) (sym h.named) m

  -- the slots of the copies in a remap read are those of its indices
  remapped_slots : (currents : SlotCurrents) (under : Option Slotted) (over : Slotted)
      (thing : Option Thing) (count : ℕ) (indices : Slates)
      → IsRemappedIn (w currents) under thing count
      → copy_slots (remap_slate over thing indices) ≡ all_copy_slots indices
  remapped_slots currents None over thing count indices h = absurd h
  remapped_slots currents (Some there) over thing count indices h =
      ap (λ (o : Option Thing). copy_slots (remap_slate over o indices)) h.named

  -- ---- what stands under a region

  module _ (currents : SlotCurrents) (meant : Currents) (taken : ℕ) (slots : List Region) (rank : Rank) where
    abbrev slotted : Slotted
    slotted = slotted_at currents rank

    abbrev over : Over
    over = over_at meant rank

    -- what is said of the region and the slot is said of the current ones
    current_meant : (one : Slotted) (region : Region) → Fits currents meant taken slots rank one region
        → (f : Slotted → Slate) (g : Over → Term)
        → At (Under one region) slots (f one) (g (record { region = region; mask = one.mask }))
        → At (Under one region) slots (f slotted) (g over)
    current_meant one region fits f g m =
        subst (λ (s : Slotted). At (Under one region) slots (f s) (g over)) (sym fits.slotted_is)
        (subst (λ (o : Over). At (Under one region) slots (f one) (g o)) (sym fits.over_is) m)

    element_meant : (one : Slotted) (region : Region) → Fits currents meant taken slots rank one region
        → (target : ℕ) (home : Region) (shift : List ℤ)
        → IsElementAs (w currents) one shift (Some (ArrayAt target home))
        → At (Under one region) slots (slate.Element slotted.slot target shift)
        (term.Element over.region target shift)
    element_meant one region fits target home shift h =
        current_meant one region fits (λ s. slate.Element s.slot target shift)
        (λ o. term.Element o.region target shift)
        (ElementMeant (readable base slots region.rank one
        (current_in slots one region fits.in_slot) shift (slice_get base.numbers.arrays target) h))

    zero_meant : (site : Site) → At site slots (slate.Constant (pos 0)) (term.Constant (pos 0))
    zero_meant site = ConstantMeant (IsInteger-truth false)

    named : (site : Site) (under : Option Slotted) → Reads currents meant taken slots rank site under
        → (thing : Option Thing) → ((found : Thing) → thing ≡ Some found
        → IsKnown (length (numbered spots)) (length base.numbers.arrays) found)
        → IsNameIn (w currents) under [] thing
        → At site slots (named_slate slotted thing) (named_term over (option_map (seen_thing spots) thing))
    named site under r (Some (Scalar target)) k h = VariableMeant
    named site under r (Some (Fixed value)) k h = ConstantMeant (k (Fixed value) refl)
    named site under r None k h = zero_meant site
    named _ _ ReadsNone (Some (ArrayAt target home)) k h = absurd h
    named _ _ (ReadsUnder {over = one} {region = region} fits) (Some (ArrayAt target home)) k h =
        element_meant one region fits target home [] h

    shifted : (site : Site) (under : Option Slotted) → Reads currents meant taken slots rank site under
        → (shift : List ℤ) (thing : Option Thing) → IsNameIn (w currents) under shift thing
        → At site slots (shifted_slate slotted shift thing)
        (shifted_term over shift (option_map (seen_thing spots) thing))
    shifted site under r shift (Some (Scalar target)) h = zero_meant site
    shifted site under r shift (Some (Fixed value)) h = zero_meant site
    shifted site under r shift None h = zero_meant site
    shifted _ _ ReadsNone shift (Some (ArrayAt target home)) h = absurd h
    shifted _ _ (ReadsUnder {over = one} {region = region} fits) shift (Some (ArrayAt target home)) h =
        element_meant one region fits target home shift h

    wrapped : (one : Slotted) (region : Region) → Fits currents meant taken slots rank one region
        → (d : List ℤ) (thing : Option Thing) (h : IsWrapped (w currents) one d thing)
        → (copy first : ℕ)
        → At (Under one region) slots
        (slate.Wrapped slotted.slot h.target h.home (copy_shift h.home d) copy first)
        (term.Wrapped over.region h.target h.home d)
    wrapped one region fits d thing h copy first =
        let c = current_in slots one region fits.in_slot in
        current_meant one region fits
        (λ s. slate.Wrapped s.slot h.target h.home (copy_shift h.home d) copy first)
        (λ o. term.Wrapped o.region h.target h.home d)
        (WrappedMeant h.found h.is
        (flood_length region fits.in_slot.is fits.in_slot.three
        ∙ ap (λ (bs : List Bool). length bs) fits.in_slot.flood ∙ h.ranked)
        (readable base slots region.rank one c []
        (Some (record { array = 0; storage = h.home })) (h.covers, tt)).0)

    coordinate : (site : Site) (under : Option Slotted) → Reads currents meant taken slots rank site under
        → (k : ℕ) → IsCoordinateIn under k → At site slots (slate.Coordinate k) (term.Coordinate k)
    coordinate _ _ ReadsNone k h = absurd h
    coordinate _ _ (ReadsUnder fits) k h = CoordinateMeant h

    scanned : (operator : Fold) (along : Option ℤ) (site : Site) (under : Option Slotted)
        → Reads currents meant taken slots rank site under → IsScannedIn (w currents) under along
        → (one : Slate) (operand : Term) → At site slots one operand
        → At site slots (slate.Scanned operator along slotted one) (term.Scanned operator along over operand)
    scanned operator along _ _ ReadsNone h one operand m = absurd h
    scanned operator along _ _ (ReadsUnder {over = there} {region = region} fits) h one operand m =
        let c = current_in slots there region fits.in_slot in
        current_meant there region fits (λ s. slate.Scanned operator along s one)
        (λ o. term.Scanned operator along o operand)
        (ScannedMeant (mask_readable base slots region.rank there c there.mask h.0) h.1
        (none_flood region.dims (slot_floods there) (current_floods slots region.rank there c)
        (three_none 3 there.flood h.2)) m)

    folded : (operator : Fold) (site : Site) (there : Slotted) (region : Region)
        → Fits currents meant taken slots rank there region
        → IsReadableMaskAs (w currents) there there.mask → HaveNoFlood there.flood
        → (one : Slate) (operand : Term) → At (Under there region) slots one operand
        → At site slots (slate.Folded operator slotted one) (term.Folded operator over operand)
    folded operator site there region fits masked plain one operand m =
        let c = current_in slots there region fits.in_slot in
        subst (λ (s : Slotted). At site slots (slate.Folded operator s one)
        (term.Folded operator over operand)) (sym fits.slotted_is)
        (subst (λ (o : Over). At site slots (slate.Folded operator there one)
        (term.Folded operator o operand)) (sym fits.over_is)
        (FoldedMeant fits.in_slot (mask_readable base slots region.rank there c there.mask masked)
        (none_flood region.dims (slot_floods there) (current_floods slots region.rank there c)
        (three_none 3 there.flood plain)) m))

    part_folded : (operator : Fold) (there source : Slotted) (region tuples : Region)
        → Fits currents meant taken slots rank there region
        → IsReadableMaskAs (w currents) there there.mask → InSlot slots source tuples
        → HaveNoFlood source.flood → (one : Slate) (operand : Term)
        → At (Under source tuples) slots one operand
        → At (Under there region) slots (slate.PartFolded operator slotted source one)
        (term.PartFolded operator over tuples operand)
    part_folded operator there source region tuples fits masked in_slot plain one operand m =
        let c = current_in slots there region fits.in_slot in
        let d = current_in slots source tuples in_slot in
        current_meant there region fits (λ s. slate.PartFolded operator s source one)
        (λ o. term.PartFolded operator o tuples operand)
        (PartFoldedMeant in_slot (mask_readable base slots region.rank there c there.mask masked)
        (none_flood tuples.dims (slot_floods source) (current_floods slots tuples.rank source d)
        (three_none 3 source.flood plain)) m)

    flooded : (there source : Slotted) (region tuples : Region)
        → Fits currents meant taken slots rank there region
        → IsReadableMaskAs (w currents) there there.mask → InSlot slots source tuples
        → (one : Slate) (operand : Term) → At (Under source tuples) slots one operand
        → At (Under there region) slots (slate.Flooded slotted source one)
        (term.Flooded over tuples operand)
    flooded there source region tuples fits masked in_slot one operand m =
        let c = current_in slots there region fits.in_slot in
        current_meant there region fits (λ s. slate.Flooded s source one)
        (λ o. term.Flooded o tuples operand)
        (FloodedMeant in_slot (mask_readable base slots region.rank there c there.mask masked) m)

    remapped : (site : Site) (under : Option Slotted) → Reads currents meant taken slots rank site under
        → (thing : Option Thing) (indices : Slates) (terms : Terms)
        → IsRemappedIn (w currents) under thing (count_of indices) → AllAt site slots indices terms
        → At site slots (remap_slate slotted thing indices)
        (remap_term over (option_map (seen_thing spots) thing) terms)
    remapped _ _ ReadsNone thing indices terms h m = absurd h
    remapped _ _ (ReadsUnder {over = there} {region = region} fits) thing indices terms h m =
        let c = current_in slots there region fits.in_slot in
        subst (λ (o : Option Thing). At (Under there region) slots (remap_slate slotted o indices)
        (remap_term over (option_map (seen_thing spots) o) terms)) (sym h.named)
        (current_meant there region fits (λ s. slate.Remapped s h.target indices)
        (λ o. term.Remapped o h.target terms)
        (RemappedMeant h.found h.is h.counted
        (mask_readable base slots region.rank there c there.mask h.masked)
        (none_flood region.dims (slot_floods there) (current_floods slots region.rank there c)
        (three_none 3 there.flood h.plain)) m))

  -- ---- the current region of another rank

  fits_here : (currents : SlotCurrents) (meant : Currents) (next : Next) (now : Whole)
      → Here currents meant next now → (rank : Rank) → HasCurrent meant rank
      → (region : Region) × Fits currents meant next.slots now.slots rank (slotted_at currents rank) region
  fits_here currents meant next now here rank has =
      let there = subst (λ (c : Currents). HasCurrent c rank) (sym here.currents_are) has in
      let c = current_of tables (w currents) now rank here.held there in (
        c.current.region,
        subst (λ (m : Currents). Fits currents m next.slots now.slots rank (slotted_at currents rank)
            c.current.region) here.currents_are
            (fits_current (w currents) now rank next.slots
            (taken_at currents now rank next.slots here.stands.taken there) c),
      )

  -- a bracket has the rank of the region under which its operator stands
  fits_source : (currents : SlotCurrents) (meant : Currents) (next : Next) (now : Whole)
      → Here currents meant next now → (rank : Rank) (over : Slotted) (region : Region)
      → Fits currents meant next.slots now.slots rank over region → (source : Inner) (operand : Expr)
      → OpensSource (w currents) (p meant) over source operand
      → Fits currents meant next.slots now.slots (source_rank (w currents) source operand) over region
  fits_source currents meant next now here rank over region fits source operand o =
      subst (λ (r : Rank). Fits currents meant next.slots now.slots r over region) (sym o.ranked)
      (same (slotted_at currents (Some o.rank)) o.same
      (fits_here currents meant next now here (Some o.rank) o.current))
    where
      one : (a b : Region) → Some a ≡ Some b → a ≡ b
      one a b e = cc

      same : (s : Slotted) → s ≡ over
          → ((r : Region) × Fits currents meant next.slots now.slots (Some o.rank) s r)
          → Fits currents meant next.slots now.slots (Some o.rank) over region
      same s e f =
          let g = subst (λ (t : Slotted).
          Fits currents meant next.slots now.slots (Some o.rank) t f.0) e f.1 in
          subst (λ (r : Region). Fits currents meant next.slots now.slots (Some o.rank) over r)
          (one f.0 region (sym g.in_slot.found ∙ fits.in_slot.found)) g

  -- ---- parts behind one another

  module _ {A B C T U V : Type 0} (Meant : List Region → A → T → Type 0)
      (Also : T → List Region → B → U → Type 0) (Made : List Region → C → V → Type 0)
      (next : Next) (now : Whole) (first : Settled A) (rest : Settled B) (f : A → B → C)
      (g : T → U → V)
      (to : (meant : T) (other : U) (later : Whole) → IsFilled next.slots now later
      → Meant later.slots first.slate meant → Also meant later.slots rest.slate other
      → Made later.slots (f first.slate rest.slate) (g meant other)) where
    rows_leave : (value : mean.Computed T) (after : T → mean.Computed U)
        → Leaves Meant line next now first value (rows first.rows now)
        → ((meant : T) → value ≡ mean.Gives meant → (there : Whole) → IsFilled next.slots now there
        → ((later : Whole) → IsFilled (next.slots + length first.slots) there later
        → Meant later.slots first.slate meant)
        → Leaves (Also meant) line (slate.behind next first) there rest (after meant)
        (rows rest.rows there))
        → Leaves Made line next now (slate.both f first rest)
        (computed_then value (λ meant. computed_then (after meant) (λ other.
        mean.Gives (g meant other)))) (rows (first.rows ++ rest.rows) now)
    rows_leave value after h k =
        subst (λ (c : Course Whole). Leaves Made line next now (slate.both f first rest)
        (computed_then value (λ meant. computed_then (after meant) (λ other.
        mean.Gives (g meant other)))) c) (sym (rows_append tables n first.rows rest.rows now))
        (then_leaves Meant Also Made line next now first rest f g to rows value after
        (rows first.rows now) h k)

  both_leave : {A B C T U V : Type 0} (Meant : List Region → A → T → Type 0)
      (Also : List Region → B → U → Type 0) (Made : List Region → C → V → Type 0)
      (next : Next) (now : Whole) (first : Settled A) (rest : Settled B) (f : A → B → C)
      (g : T → U → V)
      → ((meant : T) (other : U) (later : Whole) → Meant later.slots first.slate meant
      → Also later.slots rest.slate other
      → Made later.slots (f first.slate rest.slate) (g meant other))
      → (value : mean.Computed T) (other : mean.Computed U)
      → Leaves Meant line next now first value (rows first.rows now)
      → ((there : Whole) → IsFilled next.slots now there
      → Leaves Also line (slate.behind next first) there rest other (rows rest.rows there))
      → Leaves Made line next now (slate.both f first rest)
      (both_then value other (λ one two. mean.Gives (g one two))) (rows (first.rows ++ rest.rows) now)
  both_leave Meant Also Made next now first rest f g to value other h k =
      subst (λ v. Leaves Made line next now (slate.both f first rest) v
      (rows (first.rows ++ rest.rows) now))
      (sym (both_is value other (λ one two. mean.Gives (g one two))))
      (rows_leave Meant (λ meant. Also) Made next now first rest f g
      (λ meant also later filled m o. to meant also later m o) value (λ meant. other) h
      (λ meant e there filled m. k there filled))

  -- ---- expressions

  -- it is settled wherever what is asked of it holds
  abbrev IsSettling : Expr → Type 0
  IsSettling expr =
      (currents : SlotCurrents) (meant : Currents) (next : Next) (now : Whole)
      → Here currents meant next now → (rank : Rank) (site : Site) (under : Option Slotted)
      → Reads currents meant next.slots now.slots rank site under
      → IsOperated (w currents) (p meant) under expr
      → SlotsAt tables.slots next.slots (settled (w currents) line next rank expr).slots
      → Has currents next (settled (w currents) line next rank expr)
      (copy_slots (settled (w currents) line next rank expr).slate)
      → Leaves (SettledAt next.copies (settled (w currents) line next rank expr).copies site) line next
      now (settled (w currents) line next rank expr)
      (phase.settled (p meant) store rank expr)
      (rows (settled (w currents) line next rank expr).rows now)

  abbrev AreSettling : Exprs → Type 0
  AreSettling exprs =
      (currents : SlotCurrents) (meant : Currents) (next : Next) (now : Whole)
      → Here currents meant next now → (rank : Rank) (site : Site) (under : Option Slotted)
      → Reads currents meant next.slots now.slots rank site under
      → AreIndices (w currents) (p meant) under exprs
      → SlotsAt tables.slots next.slots (settled_all (w currents) line next rank exprs).slots
      → Has currents next (settled_all (w currents) line next rank exprs)
      (all_copy_slots (settled_all (w currents) line next rank exprs).slate)
      → Leaves (AllSettledAt next.copies (settled_all (w currents) line next rank exprs).copies site)
      line next now (settled_all (w currents) line next rank exprs)
      (phase.settled_all (p meant) store rank exprs)
      (rows (settled_all (w currents) line next rank exprs).rows now)

  known : (currents : SlotCurrents) (meant : Currents) (next : Next) (now : Whole)
      → Here currents meant next now → (text : List ℕ) (thing : Thing)
      → thing_of base.environment text ≡ Some thing
      → IsKnown (length (numbered spots)) (length base.numbers.arrays) thing
  known currents meant next now here text thing e =
      known_thing (length (numbered spots)) (length base.numbers.arrays) base.environment.names text
      thing here.stands.known e

  number_settles : (at : ℕ) (value : ℤ) → IsSettling (Number at value)
  number_settles at value currents meant next now here rank site under r h room has =
      alone_leaves (SettledAt next.copies [] site) line next now (slate.Constant value)
      (term.Constant value)
      (λ later k. record { is = ConstantMeant h; owned = (tt, refl, tt) })

  truth_settles : (at : ℕ) (value : Bool) → IsSettling (Truth at value)
  truth_settles at value currents meant next now here rank site under r h room has =
      alone_leaves (SettledAt next.copies [] site) line next now (slate.Constant (truth value))
      (term.Constant (truth value))
      (λ later k. record {
        is = ConstantMeant (IsInteger-truth value);
        owned = (tt, refl, tt);
      })

  coordinate_settles : (at k : ℕ) → IsSettling (Coord at k)
  coordinate_settles at k currents meant next now here rank site under r h room has =
      alone_leaves (SettledAt next.copies [] site) line next now (slate.Coordinate k) (term.Coordinate k)
      (λ later filled. record {
        is = coordinate currents meant next.slots later.slots rank site under
            (reads_on currents meant next.slots next.slots (omega arith) now later filled rank site
            under r) k h;
        owned = (tt, refl, tt);
      })

  named_settles : (at : ℕ) (name : Name) → IsSettling (Named at name)
  named_settles at name currents meant next now here rank site under r h room has =
      subst (λ (o : Option Thing). Leaves (SettledAt next.copies [] site) line next now
      (settled (w currents) line next rank (Named at name))
      (mean.Gives (named_term (over_at meant rank) o)) (code.goes_on now))
      (sym (thing_seen spots base.environment.names name.text))
      (alone_leaves (SettledAt next.copies [] site) line next now
      (named_slate (slotted_at currents rank) (thing_of base.environment name.text))
      (named_term (over_at meant rank)
      (option_map (seen_thing spots) (thing_of base.environment name.text)))
      (λ later filled. record {
        is = named currents meant next.slots later.slots rank site under
            (reads_on currents meant next.slots next.slots (omega arith) now later filled rank site
            under r) (thing_of base.environment name.text)
            (known currents meant next now here name.text) h;
        owned = named_owned next.copies (slotted_at currents rank)
            (thing_of base.environment name.text);
      }))

  shifted_settles : (at : ℕ) (name : Name)
      (shift : Dir) → IsSettling (Shifted at name shift)
  shifted_settles at name shift currents meant next now here rank site under r h room has =
      let d = vector_in base.setup.known shift in
      subst (λ (o : Option Thing). Leaves (SettledAt next.copies [] site) line next now
      (settled (w currents) line next rank (Shifted at name shift))
      (mean.Gives (shifted_term (over_at meant rank) d o)) (code.goes_on now))
      (sym (thing_seen spots base.environment.names name.text))
      (alone_leaves (SettledAt next.copies [] site) line next now
      (shifted_slate (slotted_at currents rank) d (thing_of base.environment name.text))
      (shifted_term (over_at meant rank) d
      (option_map (seen_thing spots) (thing_of base.environment name.text)))
      (λ later filled. record {
        is = shifted currents meant next.slots later.slots rank site under
            (reads_on currents meant next.slots next.slots (omega arith) now later filled rank site
            under r) d (thing_of base.environment name.text) h;
        owned = shifted_owned next.copies (slotted_at currents rank) d
            (thing_of base.environment name.text);
      }))

  -- a copy, and slots of its own
  module _ (currents : SlotCurrents) (meant : Currents) (next : Next) (now : Whole) (rank : Rank)
      (d : List ℤ) where
    abbrev one : Option Thing → Settled Slate
    one thing = around_slate next (slotted_at currents rank) d thing

    wrapped_leaves : (there : Slotted) (region : Region)
        → Fits currents meant next.slots now.slots rank there region → (thing : Option Thing)
        → IsWrapped (w currents) there d thing
        → SlotsAt tables.slots next.slots (one thing).slots
        → Has currents next (one thing) (copy_slots (one thing).slate)
        → Leaves (SettledAt next.copies (one thing).copies (Under there region)) line next now
        (one thing)
        (mean.Gives (around_term (over_at meant rank) d (option_map (seen_thing spots) thing)))
        (rows (one thing).rows now)
    wrapped_leaves there region fits thing h room has =
        subst (λ (o : Option Thing). SlotsAt tables.slots next.slots (one o).slots
        → Has currents next (one o) (copy_slots (one o).slate)
        → Leaves (SettledAt next.copies (one o).copies (Under there region)) line next now (one o)
        (mean.Gives (around_term (over_at meant rank) d (option_map (seen_thing spots) o)))
        (rows (one o).rows now)) (sym h.named)
        (λ room has.
        let many = border_slots (copy_shift h.home d) in
        LeavesIt (filled_itself next.slots now)
        (λ later k. record {
          is = wrapped currents meant next.slots later.slots rank there region
              (fits_on currents meant next.slots next.slots (omega arith) now later
              (filled_then next.slots
              (next.slots + length (replicate many h.home.rank)) now now
              later (omega arith) (filled_itself next.slots now) k) rank there region fits)
              d thing h next.copies next.slots;
          owned = (
            record {
              numbered = refl;
              below = has.stored.1;
              apart = has.apart next.copies has.stored.0;
              stored = copy_row tables next.copies h.home d h.stored h.is has.stored.2.0
                  has.stored.2.1;
              fills = λ k lt m.
                  numbers_missed next.slots many k lt (has.owned (next.slots + k) m);
              many =
                  let l = slots_below tables.slots next.slots
                  (replicate many h.home.rank) room
                  (2 * (2 ^ length (filter is_moving (copy_shift h.home d)) - 1))
                  (let n = length-replicate many h.home.rank in
                  omega (arith, n)) in
                  omega (arith, l);
            },
            refl,
            tt,
          );
        })) room has

    around_leaves : (thing : Option Thing) → SlotsAt tables.slots next.slots (one thing).slots
        → Has currents next (one thing) (copy_slots (one thing).slate) → (site : Site)
        (under : Option Slotted)
        → Reads currents meant next.slots now.slots rank site under
        → IsWrappedIn (w currents) under d thing
        → Leaves (SettledAt next.copies (one thing).copies site) line next now (one thing)
        (mean.Gives (around_term (over_at meant rank) d (option_map (seen_thing spots) thing)))
        (rows (one thing).rows now)
    around_leaves thing room has _ _ ReadsNone h = absurd h
    around_leaves thing room has _ _ (ReadsUnder {over = there} {region = region} fits) h =
        wrapped_leaves there region fits thing h room has

  around_settles : (at : ℕ) (name : Name) (shift : Dir) → IsSettling (Around at name shift)
  around_settles at name shift currents meant next now here rank site under r h room has =
      let d = vector_in base.setup.known shift in
      let thing = thing_of base.environment name.text in
      subst (λ (o : Option Thing).
      Leaves (SettledAt next.copies (around_slate next (slotted_at currents rank) d thing).copies site)
      line next now (around_slate next (slotted_at currents rank) d thing)
      (mean.Gives (around_term (over_at meant rank) d o))
      (rows (around_slate next (slotted_at currents rank) d thing).rows now)) (sym (thing_seen spots base.environment.names name.text))
      (around_leaves currents meant next now rank d thing room has site under r h)

  unary_leaves : (op : UnaryOp) (site : Site) (next : Next) (now : Whole) (it : Settled Slate)
      (value : mean.Computed Term)
      → Leaves (SettledAt next.copies it.copies site) line next now it value (rows it.rows now)
      → Leaves (SettledAt next.copies it.copies site) line next now (slate.mapped (slate.Unary op) it)
      (computed_then value (λ one. mean.Gives (term.Unary op one))) (rows it.rows now)
  unary_leaves op site next now it value h =
      mapped_leaves (SettledAt next.copies it.copies site) (SettledAt next.copies it.copies site) line
      next now (slate.Unary op) (term.Unary op) it value (rows it.rows now)
      (λ meant later filled m. record { is = UnaryMeant m.is; owned = m.owned }) h

  pair_settles : (at : ℕ) (op : Op) (left right : Expr) → IsSettling left → IsSettling right
      → IsSettling (Pair at op left right)
  pair_settles at op left right a b currents meant next now here rank site under r h room has =
      let first = settled (w currents) line next rank left in
      let after = slate.behind next first in
      let second = settled (w currents) line after rank right in
      both_leave (SettledAt next.copies first.copies site) (SettledAt after.copies second.copies site)
      (SettledAt next.copies (first.copies ++ second.copies) site) next now first second
      (slate.Binary op) (term.Binary op)
      (λ one two later m o. record {
        is = BinaryMeant m.is o.is;
        owned =
            pair_owned op next.copies first.copies second.copies first.slate second.slate m.owned
            o.owned;
      }) (phase.settled (p meant) store rank left) (phase.settled (p meant) store rank right)
      (a currents meant next now here rank site under r h.0
      (slots_first tables next here.space first.slots second.slots room)
      (first_has currents next (slate.Binary op) first second (copy_slots first.slate)
      (copy_slots second.slate) has (expr_within (w currents) line after rank right)))
      (λ there filled.
      b currents meant after there
      (here_behind tables n sight base line store edge first currents meant next now there here filled)
      rank site under
      (reads_on currents meant next.slots after.slots (omega arith) now there filled rank site under r)
      h.1 (slots_rest tables next here.space first.slots second.slots room)
      (rest_has currents next (slate.Binary op) first second (copy_slots first.slate)
      (copy_slots second.slate) has (expr_within (w currents) line next rank left)))

  fold_settles : (at : ℕ) (operator : Fold) (operand : Expr) → IsSettling operand
      → IsSettling (Reduce at operator NoBracket operand)
  fold_settles at operator operand a currents meant next now here rank site under r h room has =
      let inner = operand_rank base.scope base.prefix operand in
      let over = slotted_at currents inner in
      let f = fits_here currents meant next now here inner h.0.current in
      let it = settled (w currents) line next inner operand in
      mapped_leaves (SettledAt next.copies it.copies (Under over f.0))
      (SettledAt next.copies it.copies site) line next now (slate.Folded operator over)
      (term.Folded operator (over_at meant inner)) it (phase.settled (p meant) store inner operand)
      (rows it.rows now)
      (λ term later filled m. record {
        is = folded currents meant next.slots later.slots inner operator site over f.0
            (fits_on currents meant next.slots next.slots (omega arith) now later filled inner over f.0
            f.1) h.0.masked h.0.plain it.slate term m.is;
        owned =
            let o = m.owned in (
              o.0,
              o.1,
              (
                missed_at own.slots currents now inner has.currents
                    (subst (λ (c : Currents). HasCurrent c inner) (sym here.currents_are)
                    h.0.current),
                o.2,
              ),
            );
      })
      (a currents meant next now here inner (Under over f.0) (Some over) (ReadsUnder f.1) h.1 room has)

  scan_settles : (at : ℕ) (operator : Fold) (along : Option ℤ) (operand : Expr) → IsSettling operand
      → IsSettling (Scan at operator along operand)
  scan_settles at operator along operand a currents meant next now here rank site under r h room has =
      let it = settled (w currents) line next rank operand in
      mapped_leaves (SettledAt next.copies it.copies site) (SettledAt next.copies it.copies site) line
      next now (slate.Scanned operator along (slotted_at currents rank))
      (term.Scanned operator along (over_at meant rank)) it
      (phase.settled (p meant) store rank operand) (rows it.rows now)
      (λ term later filled m. record {
        is = scanned currents meant next.slots later.slots rank operator along site under
            (reads_on currents meant next.slots next.slots (omega arith) now later filled rank site
            under r) h.0 it.slate term m.is;
        owned = m.owned;
      })
      (a currents meant next now here rank site under r h.1 room has)

  remap_settles : (at : ℕ) (name : Name) (indices : Exprs)
      → AreSettling indices → IsSettling (Remap at name indices)
  remap_settles at name indices a currents meant next now here rank site under r h room has =
      let all = settled_all (w currents) line next rank indices in
      let thing = thing_of base.environment name.text in
      subst (λ (o : Option Thing). Leaves (SettledAt next.copies all.copies site) line next now
      (slate.mapped (remap_slate (slotted_at currents rank) thing) all)
      (computed_then (phase.settled_all (p meant) store rank indices) (λ terms.
      mean.Gives (remap_term (over_at meant rank) o terms))) (rows all.rows now))
      (sym (thing_seen spots base.environment.names name.text))
      (mapped_leaves (AllSettledAt next.copies all.copies site)
      (SettledAt next.copies all.copies site) line next now (remap_slate (slotted_at currents rank) thing)
      (remap_term (over_at meant rank) (option_map (seen_thing spots) thing)) all
      (phase.settled_all (p meant) store rank indices) (rows all.rows now)
      (λ terms later filled m. record {
        is = remapped currents meant next.slots later.slots rank site under
            (reads_on currents meant next.slots next.slots (omega arith) now later filled rank site
            under r) thing all.slate terms
            (subst (λ (k : ℕ). IsRemappedIn (w currents) under thing k)
            (sym (count_settled (w currents) line next rank indices)) h.0) m.is;
        owned =
            remapped_owned next.copies all.copies currents under (slotted_at currents rank) thing
            (exprs_count indices) all.slate h.0 m.owned;
      })
      (a currents meant next now here rank site under r h.1 room
      (subst (λ (filled : List ℕ). Has currents next all filled)
      (remapped_slots currents under (slotted_at currents rank) thing (exprs_count indices) all.slate
      h.0) has)))

  -- ---- the brackets of operators

  module _ (currents : SlotCurrents) (meant : Currents) (next : Next) (now : Whole)
      (here : Here currents meant next now) (over : Slotted) (source : Inner) (operand : Expr)
      (a : IsSettling operand) (o : OpensSource (w currents) (p meant) over source operand)
      (h : IsUnderSource (w currents) (p meant) source operand
      (λ inner there over. IsOperated inner there (Some over) operand)) where
    abbrev rank : Rank
    rank = source_rank (w currents) source operand

    abbrev first : Settled Slotted
    first = of_opened (opened_source (w currents) next line source operand)

    abbrev after : Next
    after = slate.behind next first

    abbrev src : Slotted
    src = source_of (opened_source (w currents) next line source operand)

    abbrev second : Settled Slate
    second = settled (under_source (w currents) rank src) line after rank operand

    -- all that there is of the statement's own is the operand's
    abbrev OperandHas : Type 0
    OperandHas =
        HasCopies tables (w currents) own next.slots next.copies (first.slots ++ second.slots)
        second.copies (copy_slots second.slate)

    within : IsWithin (copy_slots second.slate) after.slots (after.slots + length second.slots)
    within = expr_within (under_source (w currents) rank src) line after rank operand

    src_missed : OperandHas → Misses own.slots src.slot
    src_missed has =
        bracket_missed own.slots (w currents) (p meant) refl refl next.slots line o.rank
        (slotted_at currents rank)
        (λ current. missed_at own.slots currents now rank has.currents
        (subst (λ (r : Rank). HasCurrent (seen_currents now currents) r) (sym o.ranked)
        (subst (λ (m : Currents). HasCurrent m (Some o.rank)) (sym here.currents_are) o.current)))
        has.declared source o.opens
        (λ k le lt. has.others k le (omega (arith, lt, length-append first.slots second.slots))
        (within.below k lt))

    inner_has : OperandHas
        → Has (inner_currents tables n sight base line store edge currents meant next now here over source operand o)
        after second (copy_slots second.slate)
    inner_has has =
        has_under tables (w currents) own after.slots after.copies second.slots second.copies
        (copy_slots second.slate) rank src (src_missed has)
        (has_rest tables (w currents) own next.slots next.copies first.slots second.slots []
        second.copies [] (copy_slots second.slate) has
        (none_within next.slots (next.slots + length first.slots)))

    operand_leaves : SlotsAt tables.slots after.slots second.slots → OperandHas → (tuples : Region)
        → phase.source_in (p meant) store source operand ≡ mean.Gives tuples → (there : Whole)
        → IsFilled next.slots now there
        → ((later : Whole) → IsFilled (next.slots + length first.slots) there later
        → InSlot later.slots src tuples)
        → Leaves (SettledAt after.copies second.copies (Under src tuples)) line after there second
        (phase.settled (mean_regions.under_source (p meant) rank tuples) store rank operand)
        (rows second.rows there)
    operand_leaves room has tuples e there filled m =
        let found = (m there (filled_itself (next.slots + length first.slots) there)).found in
        a (inner_currents tables n sight base line store edge currents meant next now here over source operand o)
        (inner_meant tables n sight base line store edge currents meant next now here over source operand o tuples)
        after there
        (inner_here tables n sight base line store edge currents meant next now here over source operand o
        tuples e there filled found)
        rank (Under src tuples) (Some src)
        (inner_reads tables n sight base line store edge currents meant next now here over source operand o
        tuples e there filled found)
        (h next line store tuples e
        (opened_as tables n sight base line store edge currents meant next now here over source operand o
        tuples e))
        room (inner_has has)

    bracket_leaves : (site : Site) (make : Slotted → Slate → Slate) (made : Region → Term → Term)
        → ((tuples : Region) (operand : Term) (later : Whole) → IsFilled next.slots now later
        → InSlot later.slots src tuples → At (Under src tuples) later.slots second.slate operand
        → At site later.slots (make src second.slate) (made tuples operand))
        → ((number : ℕ) → Owned number second.copies second.slate → Misses own.slots src.slot
        → Owned number second.copies (make src second.slate))
        → SlotsAt tables.slots next.slots (first.slots ++ second.slots) → OperandHas
        → Leaves (SettledAt next.copies second.copies site) line next now (slate.both make first second)
        (computed_then (phase.source_in (p meant) store source operand) (λ tuples.
        computed_then (phase.settled (mean_regions.under_source (p meant) rank tuples) store rank
        operand) (λ operand. mean.Gives (made tuples operand))))
        (rows (first.rows ++ second.rows) now)
    bracket_leaves site make made to owns room has =
        rows_leave InSlot (λ tuples. SettledAt after.copies second.copies (Under src tuples))
        (SettledAt next.copies second.copies site) next now first second make made
        (λ tuples operand later filled in_slot m. record {
          is = to tuples operand later filled in_slot m.is;
          owned =
              owns next.copies
              (subst (λ (k : ℕ). Owned k second.copies second.slate)
              (let zero_more : next.copies + 0 ≡ next.copies = omega arith in zero_more) m.owned)
              (src_missed has);
        })
        (phase.source_in (p meant) store source operand)
        (λ tuples. phase.settled (mean_regions.under_source (p meant) rank tuples) store rank operand)
        (source_leaves tables n sight base line store edge currents meant next now here over source operand o
        (slots_first tables next here.space first.slots second.slots room))
        (operand_leaves (slots_rest tables next here.space first.slots second.slots room) has)

  part_settles : (at : ℕ) (operator : Fold) (source : Inner) (operand : Expr) → IsSettling operand
      → IsSettling (Reduce at operator (Bracketed source) operand)
  part_settles at operator source operand a currents meant next now here rank _ _ ReadsNone h room has =
      absurd h.0
  part_settles at operator source operand a currents meant next now here rank _ _
      (ReadsUnder {over = over} {region = region} fits) h room has =
      let r = source_rank (w currents) source operand in
      let f = fits_source currents meant next now here rank over region fits source operand h.0 in
      let src = source_of (opened_source (w currents) next line source operand) in
      let after = slate.behind next (of_opened (opened_source (w currents) next line source operand)) in
      let second = settled (under_source (w currents) r src) line after r operand in
      bracket_leaves currents meant next now here over source operand a h.0 h.2 (Under over region)
      (slate.PartFolded operator (slotted_at currents r)) (term.PartFolded operator (over_at meant r))
      (λ tuples operand later filled in_slot m.
      part_folded currents meant next.slots later.slots r operator over src region tuples
      (fits_on currents meant next.slots next.slots (omega arith) now later filled r over region f)
      h.0.masked in_slot (h.1 next line) second.slate operand m)
      (λ number x m. (x.0, x.1, (m, x.2))) room has

  flood_settles : (at : ℕ) (source : Inner) (operand : Expr) → IsSettling operand
      → IsSettling (Flood at source operand)
  flood_settles at source operand a currents meant next now here rank _ _ ReadsNone h room has =
      absurd h.0
  flood_settles at source operand a currents meant next now here rank _ _
      (ReadsUnder {over = over} {region = region} fits) h room has =
      let r = source_rank (w currents) source operand in
      let f = fits_source currents meant next now here rank over region fits source operand h.0 in
      let src = source_of (opened_source (w currents) next line source operand) in
      let after = slate.behind next (of_opened (opened_source (w currents) next line source operand)) in
      let second = settled (under_source (w currents) r src) line after r operand in
      bracket_leaves currents meant next now here over source operand a h.0 h.1 (Under over region)
      (slate.Flooded (slotted_at currents r)) (term.Flooded (over_at meant r))
      (λ tuples operand later filled in_slot m.
      flooded currents meant next.slots later.slots r over src region tuples
      (fits_on currents meant next.slots next.slots (omega arith) now later filled r over region f)
      h.0.masked in_slot second.slate operand m) (λ number x m. (x.0, x.1, (m, x.2))) room has

  -- ---- all of them

  mutual
    expr_settles : (expr : Expr) → IsSettling expr
    expr_settles (Number at value) = number_settles at value
    expr_settles (Truth at value) = truth_settles at value
    expr_settles (Coord at k) = coordinate_settles at k
    expr_settles (Named at name) = named_settles at name
    expr_settles (Shifted at name shift) = shifted_settles at name shift
    expr_settles (Around at name shift) = around_settles at name shift
    expr_settles (Remap at name indices) = remap_settles at name indices (all_settle indices)
    expr_settles (Call at name actuals) =
        λ currents meant next now here rank site under r h room has. absurd h
    expr_settles (Paren at inside) = expr_settles inside
    expr_settles (Neg at operand) = λ currents meant next now here rank site under r h room has.
        unary_leaves unary.Neg site next now (settled (w currents) line next rank operand)
        (phase.settled (p meant) store rank operand)
        (expr_settles operand currents meant next now here rank site under r h room has)
    expr_settles (Not at operand) = λ currents meant next now here rank site under r h room has.
        unary_leaves unary.Not site next now (settled (w currents) line next rank operand)
        (phase.settled (p meant) store rank operand)
        (expr_settles operand currents meant next now here rank site under r h room has)
    expr_settles (Abs at operand) = λ currents meant next now here rank site under r h room has.
        unary_leaves unary.Abs site next now (settled (w currents) line next rank operand)
        (phase.settled (p meant) store rank operand)
        (expr_settles operand currents meant next now here rank site under r h room has)
    expr_settles (Pair at op left right) =
        pair_settles at op left right (expr_settles left) (expr_settles right)
    expr_settles (Reduce at operator NoBracket operand) =
        fold_settles at operator operand (expr_settles operand)
    expr_settles (Reduce at operator (Bracketed source) operand) =
        part_settles at operator source operand (expr_settles operand)
    expr_settles (Scan at operator along operand) =
        scan_settles at operator along operand (expr_settles operand)
    expr_settles (Flood at source operand) = flood_settles at source operand (expr_settles operand)

    all_settle : (exprs : Exprs) → AreSettling exprs
    all_settle NoExpr = λ currents meant next now here rank site under r h room has.
        alone_leaves (AllSettledAt next.copies [] site) line next now NoSlate NoTerm
        (λ later k. record { is = NoneMeant; owned = (tt, refl, tt) })
    all_settle (ThenExpr first rest) =
        λ currents meant next now here rank site under r h room has.
        let one = settled (w currents) line next rank first in
        let after = slate.behind next one in
        let others = settled_all (w currents) line after rank rest in
        both_leave (SettledAt next.copies one.copies site)
        (AllSettledAt after.copies others.copies site)
        (AllSettledAt next.copies (one.copies ++ others.copies) site) next now one others ThenSlate
        ThenTerm
        (λ meant terms later m o. record {
          is = MoreMeant m.is o.is;
          owned =
              then_owned next.copies one.copies others.copies one.slate others.slate m.owned
              o.owned;
        }) (phase.settled (p meant) store rank first) (phase.settled_all (p meant) store rank rest)
        (expr_settles first currents meant next now here rank site under r h.0
        (slots_first tables next here.space one.slots others.slots room)
        (first_has currents next ThenSlate one others (copy_slots one.slate)
        (all_copy_slots others.slate) has (exprs_within (w currents) line after rank rest)))
        (λ there filled.
        all_settle rest currents meant after there
        (here_behind tables n sight base line store edge one currents meant next now there here filled)
        rank site under
        (reads_on currents meant next.slots after.slots (omega arith) now there filled rank site under
        r) h.1 (slots_rest tables next here.space one.slots others.slots room)
        (rest_has currents next ThenSlate one others (copy_slots one.slate)
        (all_copy_slots others.slate) has (expr_within (w currents) line next rank first)))

  -- ---- the expressions of a statement

  abbrev EachAt : List Site → List Region → Slates → Terms → Type 0
  EachAt sites slots slates terms = AreMeantAt base spots slots sites slates terms

  record EachSettledAt (number : ℕ) (copies : List Region) (sites : List Site) (slots : List Region)
      (slates : Slates) (terms : Terms) : Type 0 where
    is : EachAt sites slots slates terms
    owned : AllOwned number copies slates

  data AreEach (currents : SlotCurrents) (meant : Currents) (next : Next) (now : Whole)
      : List Site → List Placed → Type 0 where
    NoneEach : AreEach currents meant next now [] []
    MoreEach : {site : Site} {sites : List Site} {under : Option Slotted} {placed : Placed}
        {rest : List Placed} → Reads currents meant next.slots now.slots placed.rank site under
        → IsOperated (w currents) (p meant) under placed.expr
        → AreEach currents meant next now sites rest
        → AreEach currents meant next now (site ∷ sites) (placed ∷ rest)

  each_on : (currents : SlotCurrents) (meant : Currents) (next more : Next) (now there : Whole)
      → next.slots ≤ more.slots → IsFilled next.slots now there → (sites : List Site)
      (exprs : List Placed) → AreEach currents meant next now sites exprs
      → AreEach currents meant more there sites exprs
  each_on currents meant next more now there le filled _ _ NoneEach = NoneEach
  each_on currents meant next more now there le filled _ _ (MoreEach {site = site} {sites = sites}
      {under = under} {placed = placed} {rest = rest} r h k) =
      MoreEach
      (reads_on currents meant next.slots more.slots le now there filled placed.rank site under r) h
      (each_on currents meant next more now there le filled sites rest k)

  each_settles : (sites : List Site) (exprs : List Placed) (currents : SlotCurrents)
      (meant : Currents) (next : Next) (now : Whole) → Here currents meant next now
      → AreEach currents meant next now sites exprs
      → SlotsAt tables.slots next.slots (settled_each (w currents) line next exprs).slots
      → Has currents next (settled_each (w currents) line next exprs)
      (all_copy_slots (settled_each (w currents) line next exprs).slate)
      → Leaves (EachSettledAt next.copies (settled_each (w currents) line next exprs).copies sites)
      line next now (settled_each (w currents) line next exprs)
      (phase.settled_each (p meant) store (map placed_of exprs))
      (rows (settled_each (w currents) line next exprs).rows now)
  each_settles _ [] currents meant next now here NoneEach room has =
      alone_leaves (EachSettledAt next.copies [] []) line next now NoSlate NoTerm
      (λ later k. record { is = NoneAt; owned = (tt, refl, tt) })
  each_settles _ (placed ∷ rest) currents meant next now here
      (MoreEach {site = site} {sites = sites} {under = under} r h k) room has =
      let one = settled (w currents) line next placed.rank placed.expr in
      let after = slate.behind next one in
      let others = settled_each (w currents) line after rest in
      both_leave (SettledAt next.copies one.copies site)
      (EachSettledAt after.copies others.copies sites)
      (EachSettledAt next.copies (one.copies ++ others.copies) (site ∷ sites)) next now one others
      ThenSlate ThenTerm
      (λ meant terms later m o. record {
        is = MoreAt m.is o.is;
        owned =
            then_owned next.copies one.copies others.copies one.slate others.slate m.owned
            o.owned;
      }) (phase.settled (p meant) store placed.rank placed.expr)
      (phase.settled_each (p meant) store (map placed_of rest))
      (expr_settles placed.expr currents meant next now here placed.rank site under r h
      (slots_first tables next here.space one.slots others.slots room)
      (first_has currents next ThenSlate one others (copy_slots one.slate)
      (all_copy_slots others.slate) has (each_within (w currents) line after rest)))
      (λ there filled.
      each_settles sites rest currents meant after there
      (here_behind tables n sight base line store edge one currents meant next now there here filled)
      (each_on currents meant next after now there (omega arith) filled sites rest k)
      (slots_rest tables next here.space one.slots others.slots room)
      (rest_has currents next ThenSlate one others (copy_slots one.slate)
      (all_copy_slots others.slate) has
      (expr_within (w currents) line next placed.rank placed.expr)))

-- ---- the first phase of a statement

module _ (sight : Sight) (w : Where) (next : Next) (now : Whole) where
  -- arrays are read under the site's region, or not at all, and more is asked of each expression
  pub data AreOperated : List Site → List Placed → Type 0 where
    NoneOperated : AreOperated [] []
    MoreOperated : {site : Site} {sites : List Site} {under : Option Slotted} {placed : Placed}
        {rest : List Placed}
        → Reads w.currents (seen_currents now w.currents) next.slots now.slots placed.rank site under
        → IsOperated w (seen_place sight w now) under placed.expr
        → AreOperated sites rest → AreOperated (site ∷ sites) (placed ∷ rest)

module _ (tables : Tables) (n : ℕ) (own : Own) (sight : Sight) (w : Where) (line : ℕ)
    (next : Next) (now : Whole) where
  abbrev it : List Placed → Settled Slates
  it exprs = settled_each w line next exprs

  pub settles : Stands sight.spots w next → next.scalars ≤ tables.scalars → IsSound tables now
      → IsHeld tables w.setup.known w.numbers.arrays w.currents now.slots → (sites : List Site)
      (exprs : List Placed) → AreOperated sight w next now sites exprs
      → SlotsAt tables.slots next.slots (it exprs).slots
      → HasCopies tables w own next.slots next.copies (it exprs).slots (it exprs).copies
      (all_copy_slots (it exprs).slate)
      → Settles tables own w sight.spots sites line next now (it exprs).slate
      (phase.settled_each (seen_place sight w now) (seen_store sight.spots w.numbers.arrays now)
      (map placed_of exprs))
      (rows_do (step tables n) (decide tables n) (it exprs).rows now)
  settles stands space sound held sites exprs operated room has =
      by (phase.settled_each (seen_place sight w now) (seen_store sight.spots w.numbers.arrays now)
      (map placed_of exprs)) (rows_do (step tables n) (decide tables n) (it exprs).rows now)
      (each_settles tables n sight w line (seen_store sight.spots w.numbers.arrays now)
      (option_map (seen_edge now) w.edge) own sites exprs w.currents
      (seen_currents now w.currents) next now
      (record {
        stands = stands;
        held = held;
        sound = sound;
        space = space;
        currents_are = refl;
        edge_is = refl;
        store_is = refl;
      }) (each sites exprs operated) room has)
    where
      each : (sites : List Site) (exprs : List Placed)
          → AreOperated sight w next now sites exprs
          → AreEach tables n sight w line (seen_store sight.spots w.numbers.arrays now)
          (option_map (seen_edge now) w.edge) own w.currents (seen_currents now w.currents) next
          now sites exprs
      each _ _ NoneOperated = NoneEach
      each _ _ (MoreOperated {sites = sites} {rest = rest} r h k) = MoreEach r h (each sites rest k)

      by : (value : mean.Computed Terms) (course : Course Whole)
          → Leaves (EachSettledAt tables n sight w line (seen_store sight.spots w.numbers.arrays now)
          (option_map (seen_edge now) w.edge) own next.copies (it exprs).copies sites) line next
          now (it exprs) value course
          → Settles tables own w sight.spots sites line next now (it exprs).slate value course
      by _ _ (LeavesIt {there = there} filled m) =
          let last = m there (filled_itself (next.slots + length (it exprs).slots) there) in
          SettlesTo filled last.is (last.owned.0, last.owned.2)
      by _ _ LeavesNone = Unsettled
