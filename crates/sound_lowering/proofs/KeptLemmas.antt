-- Facts of slots that no decided check tells are facts of tables: what is known behind a row that is
-- seen inline is learnt there, and what it demands is met.
use Rattle.std.proofs.Common.{◌≡◌, ◌⊎◌, inl, inr, ℕ, zero, suc, ◌+◌, ◌==◌, Bool, true, false, ◌&&◌, ◌||◌, ℤ, refl, sym, ap, ◌∙◌, subst, true≢false}
use Rattle.std.proofs.Common.{List, [], ◌∷◌, ◌++◌, map}
use Rattle.std.specs.Prelude.{if◌then◌else◌, Option, Some, None, filter, flat_map, not, slice_get}
use Rattle.std.specs.Cmp.Lexicographic.{pointwise}
use Rattle.std.specs.List.{list_all, list_any}
use Rattle.std.specs.Ordering.{int_eq}
use Rattle.std.proofs.lemmas.Bool.Decides.{Decides-eqb, Decides-int_eq}
use Rattle.std.proofs.lemmas.Slice.Eq.{slice_eq-Decides}
use Rattle.code_parts.specs.of_zpl_region.declared.regions.Region.{Region}
use Rattle.code_parts.specs.of_zpl_region.Tests.{is_within_limit}
use Rattle.code_parts.specs.of_zpl_arrays.Border.{border_conforms}
use Rattle.zpl_lowering.specs.of_node_form.Control.{conforms, formed_by}
use Rattle.zpl_lowering.specs.of_node_form.Value.{unmoved}
use Rattle.zpl_lowering.specs.of_node_form.declared.instructions.DimRow.{DimRow}
use Rattle.zpl_lowering.specs.of_node_form.declared.instructions.Instr.{Instr}
use Rattle.zpl_lowering.specs.of_node_form.declared.instructions.Instr.TheVariants as instr
use Rattle.zpl_lowering.specs.of_node_form.declared.instructions.RegionForm.{RegionForm}
use Rattle.zpl_lowering.specs.of_node_form.declared.instructions.RegionForm.TheVariants.{Of, Inside}
use Rattle.zpl_lowering.specs.of_node_form.declared.instructions.SameKind.{SameKind}
use Rattle.zpl_lowering.specs.of_node_form.declared.instructions.SameKind.TheVariants as same
use Rattle.zpl_lowering.specs.of_node_form.declared.tables.Tables.{Tables}
use Rattle.code_parts.specs.Needs.{passes}
use Rattle.code_parts.specs.Uses.{as_list}
use Rattle.code_parts.proofs.ListLemmas.{In, filtered, from_each, from_mapped, in_append, in_back, in_each, in_front, in_mapped, some_passes, unfiltered}
use Rattle.zpl_lowering.specs.of_flat_form.Row.{Row, inlined}
use Rattle.node_check.specs.declared.facts.Fact.{Fact}
use Rattle.node_check.specs.declared.facts.Fact.TheVariants.{Agree, Border, Held, Made, Stands, Uniform}
use Rattle.node_check.specs.Learn.{learnt, loses, made, made_where, is_side, region_in, regions_of}
use Rattle.node_check.specs.Demand.{are_held, do_agree, has_border, has_own, is_held, is_kind, is_met, is_stored, made_in, slots_made, source_shift, tells_agree, tells_border, tells_held}
use Rattle.sound_lowering.specs.Goes.{AllHere, AreIn, ByCheck, ByRegion, HasBorder, HasSide, IsHere, MeetsPlain, behind_row, is_decided_held, is_of_slots}
use Rattle.sound_lowering.specs.Uniform.{is_whole}
use Rattle.sound_lowering.proofs.UniformLemmas.{learnt_kept, learnt_made}

abbrev pub keeps : Tables → Fact → Bool
keeps code fact = is_of_slots fact && not (is_decided_held code fact)

abbrev pub kept_of : Tables → List Fact → List Fact
kept_of code facts = filter (keeps code) facts

both_true : (a b : Bool) → a ≡ true → b ≡ true → (a && b) ≡ true
both_true true b first rest = rest
both_true false b first rest = absurd (true≢false (sym first))

either_left : (a b : Bool) → a ≡ true → (a || b) ≡ true
either_left true b is = refl
either_left false b is = absurd (true≢false (sym is))

either_right : (a b : Bool) → b ≡ true → (a || b) ≡ true
either_right true b is = refl
either_right false b is = is

module _ (code : Tables) (facts : List Fact) where
  abbrev few : List Fact
  few = kept_of code facts

  pub kept_is : (fact : Fact) → In few fact → (In facts fact) × (keeps code fact ≡ true)
  kept_is fact h = unfiltered (keeps code) facts fact h

  is_kept : (fact : Fact) → In facts fact → keeps code fact ≡ true → In few fact
  is_kept fact h is = filtered (keeps code) facts fact h is

  -- ---- what is learnt behind a row
  region_kept : (slot : ℕ) (region : Region) (fact : Fact) → In (region_in slot fact) region
      → keeps code fact ≡ true
  region_kept slot region (Stands other one) h = refl
  region_kept slot region (Uniform scalar) h = absurd h
  region_kept slot region (Made form own from shift) h = absurd h
  region_kept slot region (Held own array shift) h = absurd h
  region_kept slot region (Agree target source kind) h = absurd h
  region_kept slot region (Border own shift) h = absurd h

  regions_kept : (slot : ℕ) (region : Region) → In (regions_of facts slot) region
      → In (regions_of few slot) region
  regions_kept slot region h =
      let one = from_each (region_in slot) facts region h in
      in_each (region_in slot) few one.0 region
      (is_kept one.0 one.1 (region_kept slot region one.0 one.2)) one.2

  formed_kept : (form : RegionForm) (from : ℕ) (slot : ℕ) (shift : List ℤ) (fact : Fact)
      → In (map (Stands slot) (filter is_within_limit
      (map (formed_by form shift) (regions_of facts from)))) fact
      → In (map (Stands slot) (filter is_within_limit
      (map (formed_by form shift) (regions_of few from)))) fact
  formed_kept form from slot shift fact h =
      let regions = map (formed_by form shift) (regions_of facts from) in
      let one = from_mapped (Stands slot) (filter is_within_limit regions) fact h in
      let two = unfiltered is_within_limit regions one.0 one.1 in
      let three = from_mapped (formed_by form shift) (regions_of facts from) one.0 two.0 in
      let there : In (map (formed_by form shift) (regions_of few from)) one.0 =
      subst (In (map (formed_by form shift) (regions_of few from))) three.2
      (in_mapped (formed_by form shift) (regions_of few from) three.0
      (regions_kept from three.0 three.1)) in
      subst (In (map (Stands slot) (filter is_within_limit
      (map (formed_by form shift) (regions_of few from))))) one.2
      (in_mapped (Stands slot) (filter is_within_limit
      (map (formed_by form shift) (regions_of few from))) one.0
      (filtered is_within_limit (map (formed_by form shift) (regions_of few from)) one.0 there two.1))

  -- what is made of slots is made of the facts that are kept, too
  made_kept : (row : Instr) (fact : Fact) → In (made code facts row) fact
      → keeps code fact ≡ true → In (made code few row) fact
  made_kept (instr.Set scalar expr line) fact h is = by _ fact h is
    where
      by : (b : Bool) (fact : Fact) → In (made_where b (Uniform scalar)) fact
          → keeps code fact ≡ true → In (made code few (instr.Set scalar expr line)) fact
      by true fact (inl same) is =
          absurd (true≢false (sym (ap (keeps code) same ∙ is)))
      by true fact (inr h) is = absurd h
      by false fact h is = absurd h
  made_kept (instr.Formed form slot from shift line) fact h is =
      which (in_append (map (Stands slot) (filter is_within_limit
      (map (formed_by form shift) (regions_of facts from))))
      (made_where (is_side form && not (slot == from)) (Made form slot from shift)) fact h)
    where
      which : In (map (Stands slot) (filter is_within_limit
          (map (formed_by form shift) (regions_of facts from)))) fact
          ⊎ In (made_where (is_side form && not (slot == from)) (Made form slot from shift)) fact
          → In (map (Stands slot) (filter is_within_limit
          (map (formed_by form shift) (regions_of few from)))
          ++ made_where (is_side form && not (slot == from)) (Made form slot from shift)) fact
      which (inl h) =
          in_front (map (Stands slot) (filter is_within_limit
          (map (formed_by form shift) (regions_of few from))))
          (made_where (is_side form && not (slot == from)) (Made form slot from shift)) fact
          (formed_kept form from slot shift fact h)
      which (inr h) =
          in_back (map (Stands slot) (filter is_within_limit
          (map (formed_by form shift) (regions_of few from))))
          (made_where (is_side form && not (slot == from)) (Made form slot from shift)) fact h
  made_kept row fact h is = h

  learnt_few : (row : Instr) (fact : Fact) → In (learnt code facts row) fact
      → keeps code fact ≡ true → In (learnt code few row) fact
  learnt_few row fact h is =
      by (in_append (filter (λ fact. not (loses code row fact)) facts) (made code facts row) fact h)
    where
      twice : (b : Bool) → not b ≡ true → b ≡ false
      twice true is = absurd (true≢false (sym is))
      twice false is = refl

      by : In (filter (λ fact. not (loses code row fact)) facts) fact
          ⊎ In (made code facts row) fact → In (learnt code few row) fact
      by (inl there) =
          let one = unfiltered (λ fact. not (loses code row fact)) facts fact there in
          learnt_kept code few row fact (is_kept fact one.0 is) (twice (loses code row fact) one.1)
      by (inr there) = learnt_made code few row fact (made_kept row fact there is)

  -- rows that write no slot and make no room lose nothing of slots
  still : (row : Instr) (fact : Fact) → In facts fact → keeps code fact ≡ true
      → loses code row fact ≡ false → In (learnt code few row) fact
  still row fact h is none = learnt_kept code few row fact (is_kept fact h is) none

  loop_loses : (slot group : ℕ) (fact : Fact) → keeps code fact ≡ true
      → loses code (instr.Loop slot group) fact ≡ false
  loop_loses slot group (Uniform scalar) is = absurd (true≢false (sym is))
  loop_loses slot group (Stands other region) is = refl
  loop_loses slot group (Made form other from shift) is = refl
  loop_loses slot group (Held other array shift) is = refl
  loop_loses slot group (Agree target source kind) is = refl
  loop_loses slot group (Border other shift) is = refl

  set_loses : (scalar expr line : ℕ) (fact : Fact) → keeps code fact ≡ true
      → loses code (instr.Set scalar expr line) fact ≡ false
  set_loses scalar expr line (Uniform other) is = absurd (true≢false (sym is))
  set_loses scalar expr line (Stands other region) is = refl
  set_loses scalar expr line (Made form other from shift) is = refl
  set_loses scalar expr line (Held other array shift) is = refl
  set_loses scalar expr line (Agree target source kind) is = refl
  set_loses scalar expr line (Border other shift) is = refl

  print_loses : (text : ℕ) (fact : Fact) → loses code (instr.Print text) fact ≡ false
  print_loses text (Uniform other) = refl
  print_loses text (Stands other region) = refl
  print_loses text (Made form other from shift) = refl
  print_loses text (Held other array shift) = refl
  print_loses text (Agree target source kind) = refl
  print_loses text (Border other shift) = refl

  number_loses : (expr : ℕ) (fact : Fact) → loses code (instr.Number expr) fact ≡ false
  number_loses expr (Uniform other) = refl
  number_loses expr (Stands other region) = refl
  number_loses expr (Made form other from shift) = refl
  number_loses expr (Held other array shift) = refl
  number_loses expr (Agree target source kind) = refl
  number_loses expr (Border other shift) = refl

  truth_loses : (expr : ℕ) (fact : Fact) → loses code (instr.Truth expr) fact ≡ false
  truth_loses expr (Uniform other) = refl
  truth_loses expr (Stands other region) = refl
  truth_loses expr (Made form other from shift) = refl
  truth_loses expr (Held other array shift) = refl
  truth_loses expr (Agree target source kind) = refl
  truth_loses expr (Border other shift) = refl

  test_loses : (expr goal line : ℕ) (fact : Fact)
      → loses code (instr.Unless expr goal line) fact ≡ false
  test_loses expr goal line (Uniform other) = refl
  test_loses expr goal line (Stands other region) = refl
  test_loses expr goal line (Made form other from shift) = refl
  test_loses expr goal line (Held other array shift) = refl
  test_loses expr goal line (Agree target source kind) = refl
  test_loses expr goal line (Border other shift) = refl

  dims_lose : (slot line : ℕ) (parts : List DimRow) (fact : Fact)
      → loses code (instr.Dims slot parts line) fact ≡ loses code (instr.Dims slot [] line) fact
  dims_lose slot line parts (Uniform other) = refl
  dims_lose slot line parts (Stands other region) = refl
  dims_lose slot line parts (Made form other from shift) = refl
  dims_lose slot line parts (Held other array shift) = refl
  dims_lose slot line parts (Agree target source kind) = refl
  dims_lose slot line parts (Border other shift) = refl

  of_slots_alone : (fact : Fact) → In (filter is_of_slots facts) fact → In facts fact
  of_slots_alone fact h = (unfiltered is_of_slots facts fact h).0

  pub learnt_behind : (row : Instr) (fact : Fact) → In (behind_row code facts (inlined code row)) fact
      → keeps code fact ≡ true → In (learnt code few row) fact
  learnt_behind (instr.Set scalar expr line) fact h is =
      still (instr.Set scalar expr line) fact (of_slots_alone fact h) is
      (set_loses scalar expr line fact is)
  learnt_behind (instr.Loop slot group) fact h is =
      still (instr.Loop slot group) fact (of_slots_alone fact h) is
      (loop_loses slot group fact is)
  learnt_behind (instr.Dims slot parts line) fact h is =
      by (in_append (filter (λ fact. not (loses code (instr.Dims slot [] line) fact)) facts) [] fact h)
    where
      twice : (b : Bool) → not b ≡ true → b ≡ false
      twice true is = absurd (true≢false (sym is))
      twice false is = refl

      by : In (filter (λ fact. not (loses code (instr.Dims slot [] line) fact)) facts) fact
          ⊎ In [] fact → In (learnt code few (instr.Dims slot parts line)) fact
      by (inl there) =
          let one = unfiltered (λ fact. not (loses code (instr.Dims slot [] line) fact)) facts fact
          there in
          still (instr.Dims slot parts line) fact one.0 is
          (dims_lose slot line parts fact ∙ twice (loses code (instr.Dims slot [] line) fact) one.1)
      by (inr there) = absurd there
  learnt_behind (instr.Print text) fact h is =
      still (instr.Print text) fact h is (print_loses text fact)
  learnt_behind (instr.Number expr) fact h is =
      still (instr.Number expr) fact h is (number_loses expr fact)
  learnt_behind (instr.Truth expr) fact h is =
      still (instr.Truth expr) fact h is (truth_loses expr fact)
  learnt_behind (instr.Unless expr goal line) fact h is =
      still (instr.Unless expr goal line) fact h is (test_loses expr goal line fact)
  learnt_behind row fact h is = learnt_few row fact h is

  -- ---- what is demanded
  vector_same : (shift : List ℤ) → pointwise int_eq shift shift ≡ true
  vector_same shift = (slice_eq-Decides Decides-int_eq shift shift _ refl).1 refl

  number_same : (n : ℕ) → (n == n) ≡ true
  number_same n = (Decides-eqb n n).1 refl

  in_region : (slot : ℕ) (region : Region) → In (region_in slot (Stands slot region)) region
  in_region slot region = by (slot == slot) (number_same slot)
    where
      by : (b : Bool) → b ≡ true → In (if b then region ∷ [] else []) region
      by true is = inl refl
      by false is = absurd (true≢false (sym is))

  stands_kept : (slot : ℕ) (region : Region) → In facts (Stands slot region)
      → In (regions_of few slot) region
  stands_kept slot region h =
      in_each (region_in slot) few (Stands slot region) region
      (is_kept (Stands slot region) h refl) (in_region slot region)

  pub held_kept : (slot array : ℕ) (shift : List ℤ) → IsHere code facts slot array shift
      → is_held code few array shift slot ≡ true
  held_kept slot array shift (ByRegion region h stored passing) =
      either_right (list_any (tells_held slot array shift) few)
      (is_stored code array && list_any (passes code array shift) (regions_of few slot))
      (both_true (is_stored code array) (list_any (passes code array shift) (regions_of few slot))
      stored
      (some_passes (passes code array shift) (regions_of few slot) region
      (stands_kept slot region h) passing))
  held_kept slot array shift (ByCheck h told) =
      either_left (list_any (tells_held slot array shift) few)
      (is_stored code array && list_any (passes code array shift) (regions_of few slot))
      (some_passes (tells_held slot array shift) few (Held slot array shift)
      (is_kept (Held slot array shift) h (ap not told))
      (both_true (slot == slot) ((array == array) && pointwise int_eq shift shift)
      (number_same slot)
      (both_true (array == array) (pointwise int_eq shift shift) (number_same array)
      (vector_same shift))))

  all_kept : (slot : ℕ) (arrays : List ℕ) → AllHere code facts slot arrays
      → are_held code few [] slot arrays ≡ true
  all_kept slot [] here = refl
  all_kept slot (array ∷ arrays) here =
      both_true (is_held code few array unmoved slot) (are_held code few [] slot arrays)
      (held_kept slot array unmoved here.0) (all_kept slot arrays here.1)

  kind_same : (kind : SameKind) → is_kind kind kind ≡ true
  kind_same same.Part = refl
  kind_same same.Flood = refl

  agree_kept : (kind : SameKind) (target source : ℕ) → In facts (Agree target source kind)
      → do_agree few kind target source ≡ true
  agree_kept kind target source h =
      either_left (list_any (tells_agree kind target source) few)
      (list_any (λ region. list_any (conforms kind region) (regions_of few source))
      (regions_of few target))
      (some_passes (tells_agree kind target source) few (Agree target source kind)
      (is_kept (Agree target source kind) h refl)
      (both_true (target == target) ((source == source) && is_kind kind kind) (number_same target)
      (both_true (source == source) (is_kind kind kind) (number_same source) (kind_same kind))))

  border_kept : (slot : ℕ) (shift : List ℤ) → HasBorder code facts slot shift
      → has_border few slot shift ≡ true
  border_kept slot shift (inl h) =
      either_left (list_any (tells_border slot shift) few)
      (list_any (border_conforms shift) (regions_of few slot))
      (some_passes (tells_border slot shift) few (Border slot shift)
      (is_kept (Border slot shift) h refl)
      (both_true (slot == slot) (pointwise int_eq shift shift) (number_same slot)
      (vector_same shift)))
  border_kept slot shift (inr (region, (h, is))) =
      either_right (list_any (tells_border slot shift) few)
      (list_any (border_conforms shift) (regions_of few slot))
      (some_passes (border_conforms shift) (regions_of few slot) region (stands_kept slot region h)
      is)

  of_kept : (array slot : ℕ) (shift : List ℤ) → HasSide code facts Of array slot shift
      → list_any (is_held code few array unmoved) (slots_made few Of slot shift) ≡ true
  of_kept array slot shift (side, (h, here)) =
      some_passes (is_held code few array unmoved) (slots_made few Of slot shift) side
      (in_each (made_in Of slot shift) few (Made Of side slot shift) side
      (is_kept (Made Of side slot shift) h refl)
      (by ((slot == slot) && pointwise int_eq shift shift)
      (both_true (slot == slot) (pointwise int_eq shift shift) (number_same slot)
      (vector_same shift))))
      (held_kept side array unmoved here)
    where
      by : (b : Bool) → b ≡ true → In (if b then side ∷ [] else []) side
      by true is = inl refl
      by false is = absurd (true≢false (sym is))

  inside_kept : (array slot : ℕ) (shift : List ℤ) → HasSide code facts Inside array slot shift
      → list_any (is_held code few array unmoved) (slots_made few Inside slot shift) ≡ true
  inside_kept array slot shift (side, (h, here)) =
      some_passes (is_held code few array unmoved) (slots_made few Inside slot shift) side
      (in_each (made_in Inside slot shift) few (Made Inside side slot shift) side
      (is_kept (Made Inside side slot shift) h refl)
      (by ((slot == slot) && pointwise int_eq shift shift)
      (both_true (slot == slot) (pointwise int_eq shift shift) (number_same slot)
      (vector_same shift))))
      (held_kept side array unmoved here)
    where
      by : (b : Bool) → b ≡ true → In (if b then side ∷ [] else []) side
      by true is = inl refl
      by false is = absurd (true≢false (sym is))

  -- a row of whole arrays
  pub plain_met : (row : Instr) → is_whole row ≡ true → MeetsPlain code facts row
      → has_own code few [] row ≡ true
  plain_met (instr.Edge border array slot shift) is (edge, outside, within) =
      both_true _ _ (both_true _ _ (border_kept slot shift edge) (of_kept array slot shift outside))
      (inside_kept array slot (source_shift border shift) within)
  plain_met (instr.Flood array target from source) is (agree, one, other) =
      both_true _ _
      (both_true _ _ (agree_kept same.Flood target source agree)
      (all_kept target (array ∷ []) (one, tt)))
      (all_kept source (from ∷ []) (other, tt))
  plain_met (instr.Part array target fold from source) is (agree, one, other) =
      both_true _ _
      (both_true _ _ (agree_kept same.Part target source agree)
      (all_kept target (array ∷ []) (one, tt)))
      (all_kept source (from ∷ []) (other, tt))
  plain_met (instr.Scan array slot fold along from mask) is here =
      all_kept slot (array ∷ from ∷ as_list mask) here
  plain_met (instr.Gather truth array slot) is here = all_kept slot (array ∷ []) here
  plain_met (instr.Remap array slot from parts) is here =
      all_kept slot (array ∷ flat_map as_list parts) here
  plain_met row is met = absurd (true≢false (sym is))
