-- The code of a bracket fills a slot with the region that the bracket means, or ends with the same
-- trap.
use Rattle.std.proofs.Common.{◌≡◌, refl, sym, ◌∙◌, ap, subst, arith, ℕ, suc, ◌+◌, ◌≤◌, ◌<◌}
use Rattle.std.proofs.Common.{Bool, true, false, List, [], ◌∷◌, length, Option, Some, None}
use Rattle.std.specs.Prelude.{slice_get}
use Rattle.zpl_region.specs.declared.regions.Region.{Region}
use Rattle.zpl_tree.specs.Syntax.{Name, Pre, NamedRegion, Ditto, Named, Inner, Rexpr, Dims, Posts, One, DimTexts, NoDim, ThenDim}
use Rattle.zpl_names.specs.Ranks.{dims_count, is_index}
use Rattle.zpl_binding.specs.Outcome as bound
use Rattle.zpl_binding.specs.Outcome.{Outcome, Computed, value_or}
use Rattle.zpl_binding.specs.Regions.{no_region, behind, before, region_named}
use Rattle.array_runs.specs.of_zpl_meaning.Computed as mean
use Rattle.array_runs.specs.of_zpl_meaning.Store.{Store}
use Rattle.array_runs.specs.of_zpl_meaning.Context.{Place}
use Rattle.array_runs.specs.of_zpl_meaning.Proper.{HasCurrent}
use Rattle.array_runs.specs.of_zpl_meaning.Regions.{computed_of, span_in, name_in, inner_over}
use Rattle.node_form.specs.declared.instructions.Instr.TheVariants as instr
use Rattle.node_form.specs.declared.tables.Tables.{Tables}
use Rattle.row_runs.specs.Run.{Step}
use Rattle.row_runs.specs.Structured as code
use Rattle.row_runs.specs.Structured.{Course, by_step, rows_do}
use Rattle.array_runs.specs.of_flat_form.Row as row
use Rattle.array_runs.specs.of_flat_form.Row.{Row}
use Rattle.array_runs.specs.of_flat_form.Whole.{Whole}
use Rattle.array_runs.specs.of_zpl_lowering.Where.{Slotted, Where, Next, flood_of}
use Rattle.array_runs.specs.of_zpl_lowering.Bracket as low
use Rattle.array_runs.specs.of_zpl_lowering.Bracket.{Opened, Form, forms_of, formed, standing, named_region, region_slot, dims_flood, three_parts, parts_of, spanned, name_opened, computed, constant_region, one_row, fixed_or, bracket}
use Rattle.array_runs.specs.of_lowering_runs.Seen.{Sight, seen_place, seen_store}
use Rattle.array_runs.specs.of_lowering_runs.Run.{step, decide}
use Rattle.array_runs.specs.of_lowering_runs.Stands.{Stands, SlotsAt, IsSound, AreDeclared}
use Rattle.array_runs.proofs.of_lowering_runs.NumberLemmas.{get_same}
use Rattle.array_runs.proofs.of_lowering_runs.EntryLemmas.{fix_step}
use Rattle.prefix_runs.specs.Opens.{IsOpenedAs, IsGivenRegion, AreGivenPres, AreGivenPosts, OpenDims, OpensName, Opens}
use Rattle.prefix_runs.proofs.PartLemmas.{dims_step}
use Rattle.prefix_runs.proofs.ShapeLemmas.{flood_length, opened_itself}
use Rattle.prefix_runs.proofs.ShapedLemmas.{shaped, forms_are, Told, shaped_told}
use Rattle.prefix_runs.proofs.SpanLemmas.{CurrentIf, span_told, span_step, spans_is}
use Rattle.prefix_runs.proofs.FillLemmas.{filled_itself, filled_more, Filling, Fills, Refuses, slots_below, declared_first, region_below, forms_fill, formed_flood, formed_many, formed_slot}
use Rattle.prefix_runs.proofs.ConstantLemmas.{constant_region_is}

module _ (tables : Tables) (n : ℕ) (sight : Sight) (w : Where) (next : Next) (now : Whole)
    (stands : Stands sight.spots w next) (room : next.scalars ≤ tables.scalars)
    (sound : IsSound tables now) (declared : AreDeclared 0 w.setup.known.regions now.slots)
    (line rank : ℕ) (above : 1 ≤ rank) (few : rank ≤ 3) (slotted : Slotted) (current : Region)
    (has : CurrentIf now (seen_place sight w now) rank slotted current)
    (taken : HasCurrent (seen_place sight w now).currents (Some rank) → slotted.slot < next.slots)
  where
    abbrev place : Place
    place = seen_place sight w now

    abbrev store : Store
    store = seen_store sight.spots w.numbers.arrays now

    abbrev bottom : ℕ
    bottom = next.slots

    abbrev rows : List Row → Whole → Course Whole
    rows = rows_do (step tables n) (decide tables n)

    -- what a bracket's code comes to, whose region is this
    pub record Comes (opened : Opened) (value : mean.Computed Region) : Type 0 where
      pub fills : SlotsAt tables.slots bottom opened.slots
          → Filling bottom opened.slot line now value (rows opened.rows now)
      pub told : Told opened.flood value
      pub ranked : length opened.flood ≡ rank
      pub slot : opened.slot < bottom + length opened.slots

    same_value : (opened : Opened) (one other : mean.Computed Region) → one ≡ other
        → Comes opened one → Comes opened other
    same_value opened one other e h = subst (λ (v : mean.Computed Region). Comes opened v) e h

    inside : (ranks : List ℕ) → SlotsAt tables.slots bottom ranks → (i : ℕ) → i < length ranks
        → bottom + i < length now.slots
    inside ranks h i lt =
        let l = slots_below tables.slots bottom ranks h i lt in
        omega (arith, l, sound.filled.slots)

    -- ---- bounds

    span_comes : (dims : DimTexts) → dims_count dims ≡ rank → OpenDims place (Some rank) dims
        → Comes (spanned w bottom line slotted dims) (span_in place.environment store current dims)
    span_comes dims count h =
        let flood = dims_flood slotted 0 dims in
        let parts = three_parts 3 (parts_of w slotted.slot dims) in
        let many : length flood ≡ rank = flood_is 0 dims ∙ count in
        record {
          fills = λ at.
              subst (λ (s : Step Whole). Filling bottom bottom line now
              (span_in place.environment store current dims)
              (by_step now s (λ after. code.goes_on after)))
              (sym (dims_step tables n now sound.settled bottom line rank parts
              (subst (λ (k : ℕ). slice_get tables.slots bottom ≡ Some k) many at.0)
              ∙ spans_is tables sight w next now stands room sound rank few slotted current has bottom
              line dims count h))
              (by (span_in place.environment store current dims)
              (let l = inside (length flood ∷ []) at 0 (omega arith) in omega (arith, l)));
          told = span_told tables sight w next now stands room sound rank few slotted current has dims
              count above h;
          ranked = many;
          slot = omega arith;
        }
      where
        flood_is : (k : ℕ) (texts : DimTexts) → length (dims_flood slotted k texts) ≡ dims_count texts
        flood_is k NoDim = refl
        flood_is k (ThenDim first rest) = ap suc (flood_is (suc k) rest)

        by : (value : mean.Computed Region) → bottom < length now.slots
            → Filling bottom bottom line now value
            (by_step now (span_step tables sight w next now stands room sound rank few slotted current
            has bottom line value) (λ after. code.goes_on after))
        by (mean.Gives region) lt =
            Fills (get_same now.slots bottom region lt)
            (filled_more bottom now now bottom region (omega arith) (filled_itself bottom now))
        by (mean.Traps kind) lt = Refuses

    -- ---- forms around a region that has a slot

    none_more : (k : ℕ) → 0 + k ≡ k
    none_more k = omega arith

    around : (pre : List Pre) (post : Posts) (slot : ℕ) (flood : List Bool) (region : Region)
        (outcome : Outcome Region) → AreGivenPres w.setup.known pre → AreGivenPosts w.setup.known post
        → outcome ≡ bound.Gives region → slice_get now.slots slot ≡ Some region
        → IsOpenedAs flood region → length flood ≡ rank → slot < bottom
        → Comes (formed bottom line (forms_of w.setup.known pre post) (standing slot flood))
        (computed_of (before w.setup.known pre (behind w.setup.known outcome post)))
    around pre post slot flood region outcome gpre gpost given found opened many lt =
        let known = w.setup.known in
        let forms : List Form = forms_of known pre post in
        let base : Opened = standing slot flood in
        let last = formed bottom line forms base in
        let count : length last.slots ≡ length forms = formed_many forms bottom line base
        ∙ none_more (length forms) in
        same_value last (shaped forms (mean.Gives region))
        (computed_of (before known pre (behind known outcome post)))
        (sym (forms_are known pre post outcome gpre gpost
        ∙ ap (λ (o : Outcome Region). shaped forms (computed_of o)) given))
        (record {
          fills = λ at.
              forms_fill tables n bottom line now sound.settled forms bottom base (mean.Gives region)
              (omega arith)
              (λ i l. inside last.slots at i (omega (arith, l, count)))
              (Fills found (filled_itself bottom now));
          told = subst (λ (bs : List Bool). Told bs (shaped forms (mean.Gives region)))
              (sym (formed_flood forms bottom line base))
              (shaped_told flood forms (mean.Gives region) opened);
          ranked = ap (λ (bs : List Bool). length bs) (formed_flood forms bottom line base) ∙ many;
          slot = formed_slot forms bottom bottom line base (omega arith) (omega (arith, lt));
        })

    -- ---- names

    flood_given : (name : Name) (g : IsGivenRegion w.setup.known name)
        → (named_region w.setup.known name).flood ≡ flood_of g.region
    flood_given name g =
        ap (λ (o : Outcome Region). flood_of (value_or no_region o)) g.named

    slot_given : (name : Name) (g : IsGivenRegion w.setup.known name)
        → slice_get now.slots (region_slot w.setup.known name) ≡ Some g.region
    slot_given name g =
        declared_first w.setup.known.regions now.slots (region_slot w.setup.known name) g.one declared
        g.in_slot
        ∙ ap (λ (o : Outcome Region). Some (value_or no_region o)) g.outcome

    name_comes : (index : Bool) (pre : List Pre) (name : Name) (post : Posts)
        → OpensName index place rank pre name post
        → Comes (name_opened index w bottom line slotted pre name post)
        (name_in index place store current pre name post)
    name_comes true pre name post h =
        span_comes (ThenDim (One (Named name.at name)) NoDim) h.0 (h.1, tt)
    name_comes false pre name post h =
        let known = w.setup.known in
        let g = h.0 in
        let flood = (named_region known name).flood in
        let itself = opened_itself g.region g.is g.three in
        around pre post (region_slot known name) flood g.region (region_named known name) h.1.1 h.1.2
        g.named (slot_given name g)
        (subst (λ (bs : List Bool). IsOpenedAs bs g.region) (sym (flood_given name g)) itself)
        (ap (λ (bs : List Bool). length bs) (flood_given name g)
        ∙ sym (flood_length g.region g.is g.three) ∙ h.1.0)
        (let l = region_below known.regions (region_slot known name) g.one g.in_slot in
        omega (arith, l, stands.declared))

    -- ---- all brackets

    pub computed_comes : (inner : Inner) → Opens place rank inner
        → Comes (computed w bottom line slotted inner) (inner_over place store current inner)
    computed_comes (Rexpr pre (NamedRegion name) post) h =
        name_comes (is_index w.scope pre name post) pre name post h
    computed_comes (Rexpr pre (Ditto at) post) h =
        let c = has h.0 in
        let region = c.0.region in
        subst (λ (r : Region).
        Comes (formed bottom line (forms_of w.setup.known pre post)
        (standing slotted.slot slotted.flood))
        (computed_of (before w.setup.known pre (behind w.setup.known (bound.Gives r) post)))) c.1
        (around pre post slotted.slot slotted.flood region (bound.Gives region) h.1 h.2 refl c.0.found
        (subst (λ (bs : List Bool). IsOpenedAs bs region) c.0.flood
        (opened_itself region c.0.is c.0.three))
        (ap (λ (bs : List Bool). length bs) (sym c.0.flood)
        ∙ sym (flood_length region c.0.is c.0.three) ∙ c.0.ranked) (taken h.0))
    computed_comes (Dims dims) h = span_comes dims h.0 h.3

    fixed_comes : (region : Region) (rows_ : List Row) (opened : Opened)
        → Comes opened (mean.Gives region)
        → Comes (one_row rows_ opened
        (low.filled bottom (flood_of region) (row.Plain (instr.Fix bottom region))))
        (mean.Gives region)
    fixed_comes region [] opened h = h
    fixed_comes region (one ∷ rest) opened h =
        let o : IsOpenedAs opened.flood region = h.told in
        record {
          fills = λ at.
              subst (λ (s : Step Whole). Filling bottom bottom line now (mean.Gives region)
              (by_step now s (λ after. code.goes_on after)))
              (sym (fix_step tables n now sound bottom region))
              (let l = inside (length (flood_of region) ∷ []) at 0 (omega arith) in
              Fills (get_same now.slots bottom region (omega (arith, l)))
              (filled_more bottom now now bottom region (omega arith) (filled_itself bottom now)));
          told = opened_itself region o.is o.three;
          ranked = ap (λ (bs : List Bool). length bs) o.flood_is ∙ h.ranked;
          slot = omega arith;
        }

    bracket_by : (inner : Inner) (o : Option Region)
        → ((region : Region) → o ≡ Some region
        → inner_over place store current inner ≡ mean.Gives region)
        → Comes (computed w bottom line slotted inner) (inner_over place store current inner)
        → Comes (fixed_or o bottom (computed w bottom line slotted inner))
        (inner_over place store current inner)
    bracket_by inner None e h = h
    bracket_by inner (Some region) e h =
        let opened = computed w bottom line slotted inner in
        let given = e region refl in
        same_value (one_row opened.rows opened
        (low.filled bottom (flood_of region) (row.Plain (instr.Fix bottom region))))
        (mean.Gives region) (inner_over place store current inner) (sym given)
        (fixed_comes region opened.rows opened
        (same_value opened (inner_over place store current inner) (mean.Gives region) given h))

    pub bracket_comes : (inner : Inner) → Opens place rank inner
        → Comes (bracket w bottom line slotted inner) (inner_over place store current inner)
    bracket_comes inner h =
        bracket_by inner (constant_region w inner)
        (λ region e. constant_region_is sight w now store current inner region e)
        (computed_comes inner h)
