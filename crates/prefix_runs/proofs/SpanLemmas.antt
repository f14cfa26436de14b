-- Brackets with bounds: what each dimension is in the meaning, and in the row.
use Rattle.std.proofs.Common.{◌≡◌, refl, sym, ◌∙◌, ap, subst, arith, ℕ, zero, suc, ◌+◌, ◌-◌, ◌≤◌, ◌<◌}
use Rattle.std.proofs.Common.{Bool, true, false, ℤ, pos, List, [], ◌∷◌, ◌++◌, length, map, take}
use Rattle.std.proofs.Common.{replicate, Option, Some}
use Rattle.std.specs.Prelude.{slice_get, slice_index_or, get_or, option_and_then}
use Rattle.std.specs.List.{AllByRecursion}
use Rattle.std.proofs.lemmas.List.{length-map}
use Rattle.zpl_nums.specs.declared.ends.End.TheVariants.{Trap}
use Rattle.zpl_nums.specs.declared.ends.TrapKind.TheVariants as trap
use Rattle.zpl_region.specs.declared.dims.Dim.{Dim}
use Rattle.zpl_region.specs.declared.dims.Dim.TheVariants as dim
use Rattle.zpl_region.specs.declared.regions.Region.{Region}
use Rattle.zpl_region.specs.Dim.{HasStep}
use Rattle.zpl_region.specs.Region.{dim_at, padding}
use Rattle.zpl_region.specs.Hull.{all_from}
use Rattle.zpl_region.specs.Tests.{is_within_limit}
use Rattle.zpl_tree.specs.Syntax.{Expr, DimText, Blank, Star, One, Span, DimTexts, NoDim, ThenDim}
use Rattle.zpl_names.specs.Ranks.{dims_count}
use Rattle.zpl_binding.specs.Regions.{dims_of, region_over, limited}
use Rattle.array_runs.specs.of_zpl_meaning.Computed as mean
use Rattle.array_runs.specs.of_zpl_meaning.Computed.{both_then, computed_then}
use Rattle.array_runs.specs.of_zpl_meaning.Store.{Store}
use Rattle.array_runs.specs.of_zpl_meaning.Value.{value_of as mean_value}
use Rattle.array_runs.specs.of_zpl_meaning.Context.{Place}
use Rattle.array_runs.specs.of_zpl_meaning.Proper.{HasCurrent}
use Rattle.array_runs.specs.of_zpl_meaning.Regions.{computed_of, dim_in, dims_in, span_in}
use Rattle.node_form.specs.declared.tables.Tables.{Tables}
use Rattle.node_form.specs.Control.{Registers, region_of, with_computed, with_slot}
use Rattle.node_form.specs.Expression.{words_of}
use Rattle.node_form.specs.Value as flat
use Rattle.node_form.specs.Value.{and_then, mapped, read, scalar_operands, tree_value}
use Rattle.node_form.proofs.ValueLemmas.{value_of-words_of}
use Rattle.row_runs.specs.Run.{Step, Stops, Ends}
use Rattle.array_runs.specs.of_flat_form.Act.{controlled}
use Rattle.array_runs.specs.of_flat_form.Row.{Part}
use Rattle.array_runs.specs.of_flat_form.Whole.{Whole, registers_of}
use Rattle.array_runs.specs.of_zpl_lowering.Where.{Slotted, Where, Next, is_flood}
use Rattle.array_runs.specs.of_zpl_lowering.Words.{scalar_code}
use Rattle.array_runs.specs.of_zpl_lowering.Bracket.{part_of, parts_of, dim_flood, dims_flood, three_parts}
use Rattle.array_runs.specs.of_lowering_runs.Seen.{Sight, seen_place, seen_store}
use Rattle.array_runs.specs.of_lowering_runs.Run.{straight}
use Rattle.array_runs.specs.of_lowering_runs.Scalars.{IsSameValue, BothGive, BothDivide, IsScalarAt}
use Rattle.array_runs.specs.of_lowering_runs.Stands.{Stands, IsCurrent, IsSound}
use Rattle.array_runs.proofs.of_lowering_runs.ValueLemmas.{value_same}
use Rattle.prefix_runs.specs.Opens.{OpensDim, OpenDims}
use Rattle.prefix_runs.proofs.PartLemmas.{part_value, parts_value, spans}
use Rattle.prefix_runs.proofs.ShapeLemmas.{formed_of, over_opened}
use Rattle.prefix_runs.proofs.ShapedLemmas.{limit_step, slot_step, at_limit, limited_is, Told, limit_told}

-- ---- the same in the meaning and in code

pub data Same {A : Type 0} : mean.Computed A → flat.Computed A → Type 0 where
  Give : {value : A} → Same (mean.Gives value) (flat.Gives value)
  Divide : Same (mean.Traps trap.DivideByZero) flat.Divides

one_same : (value : mean.Computed ℤ) (code : flat.Computed ℤ) → IsSameValue value code
    → Same (computed_then value (λ v. mean.Gives (all_from v v)))
    (and_then (λ lo. mapped (λ hi. dim.Range lo hi (pos 1) lo) code) code)
one_same value code (BothGive f) = Give
one_same value code BothDivide = Divide

two_same : (low high : mean.Computed ℤ) (one other : flat.Computed ℤ) → IsSameValue low one
    → IsSameValue high other
    → Same (both_then low high (λ a b. mean.Gives (all_from a b)))
    (and_then (λ lo. mapped (λ hi. dim.Range lo hi (pos 1) lo) other) one)
two_same low high one other (BothGive f) (BothGive g) = Give
two_same low high one other (BothGive f) BothDivide = Divide
two_same low high one other BothDivide h = Divide

more_same : (first : mean.Computed Dim) (rest : mean.Computed (List Dim)) (one : flat.Computed Dim)
    (others : flat.Computed (List Dim)) → Same first one → Same rest others
    → Same (both_then first rest (λ dim dims. mean.Gives (dim ∷ dims)))
    (and_then (λ first. mapped (λ rest. first ∷ rest) others) one)
more_same first rest one others Give Give = Give
more_same first rest one others Give Divide = Divide
more_same first rest one others Divide h = Divide

get_there : (dims : List Dim) (k : ℕ) → k < length dims
    → slice_get dims k ≡ Some (slice_index_or dims k dim.Flood)
get_there [] k lt = absurd (omega (arith, lt))
get_there (one ∷ dims) zero lt = refl
get_there (one ∷ dims) (suc k) lt = get_there dims k (omega (arith, lt))

-- a slot's region, if a blank asks for it
abbrev pub CurrentIf : Whole → Place → ℕ → Slotted → Region → Type 0
CurrentIf now place rank slotted region =
    HasCurrent place.currents (Some rank)
    → (c : IsCurrent now.slots rank slotted) × (c.region ≡ region)

module _ (tables : Tables) (sight : Sight) (w : Where) (next : Next) (now : Whole)
    (stands : Stands sight.spots w next) (room : next.scalars ≤ tables.scalars)
    (sound : IsSound tables now) (rank : ℕ) (few : rank ≤ 3) (slotted : Slotted) (current : Region)
    (has : CurrentIf now (seen_place sight w now) rank slotted current) where
  abbrev place : Place
  place = seen_place sight w now

  abbrev store : Store
  store = seen_store sight.spots w.numbers.arrays now

  abbrev registers : Registers
  registers = registers_of now

  words_same : (index : Expr) → IsScalarAt place index
      → IsSameValue (mean_value place.environment store index)
      (flat.value_of (scalar_operands now.scalars) (words_of (scalar_code w index)))
  words_same index h =
      subst (λ (c : flat.Computed ℤ). IsSameValue (mean_value place.environment store index) c)
      (sym (value_of-words_of (scalar_operands now.scalars) (scalar_code w index)))
      (value_same tables sight.spots w next now stands room sound index h.0 h.1)

  dim_same : (k : ℕ) (text : DimText) → k < rank → OpensDim place (Some rank) text
      → Same (dim_in place.environment store (dim_at current (suc k)) text)
      (part_value registers k (part_of w slotted.slot text))
  dim_same k (Blank at) lt h =
      let c = has h in
      let inside : k < length c.0.region.dims = omega (arith, lt, few, c.0.three) in
      subst (λ (o : Option Region). Same (mean.Gives (dim_at current (suc k)))
      (read (option_and_then (λ region. slice_get region.dims k) o)))
      (sym c.0.found)
      (subst (λ (o : Option Dim). Same (mean.Gives (dim_at current (suc k))) (read o))
      (sym (get_there c.0.region.dims k inside))
      (subst (λ (r : Region). Same (mean.Gives (dim_at r (suc k)))
      (flat.Gives (slice_index_or c.0.region.dims k dim.Flood))) c.1
      (subst (λ (i : ℕ). Same (mean.Gives (slice_index_or c.0.region.dims i dim.Flood))
      (flat.Gives (slice_index_or c.0.region.dims k dim.Flood))) (back k) Give)))
    where
      back : (k : ℕ) → k ≡ suc k - 1
      back k = omega arith
  dim_same k (Star at) lt h = Give
  dim_same k (One index) lt h = one_same _ _ (words_same index h)
  dim_same k (Span low high) lt h = two_same _ _ _ _ (words_same low h.0) (words_same high h.1)

  dims_same : (k : ℕ) (texts : DimTexts) → k + dims_count texts ≤ rank
      → OpenDims place (Some rank) texts
      → Same (dims_in place.environment store current (suc k) texts)
      (parts_value registers k (parts_of w slotted.slot texts))
  dims_same k NoDim le h = Give
  dims_same k (ThenDim first rest) le h =
      more_same _ _ _ _ (dim_same k first (omega (arith, le)) h.0)
      (dims_same (suc k) rest (omega (arith, le)) h.1)

  -- ---- flood dimensions, and steps

  abbrev DimTold : Bool → mean.Computed Dim → Type 0
  DimTold flood (mean.Gives one) = (is_flood one ≡ flood) × HasStep one
  DimTold flood (mean.Traps kind) = Unit {0}

  abbrev DimsTold : List Bool → mean.Computed (List Dim) → Type 0
  DimsTold flood (mean.Gives dims) = (map is_flood dims ≡ flood) × AllByRecursion HasStep dims
  DimsTold flood (mean.Traps kind) = Unit {0}

  told_at : (flood : List Bool) (dims : List Dim) (rank k : ℕ) → k < rank → k < length dims
      → map is_flood (take rank dims) ≡ flood → AllByRecursion HasStep dims
      → (is_flood (slice_index_or dims k dim.Flood) ≡ get_or flood k false)
      × HasStep (slice_index_or dims k dim.Flood)
  told_at flood [] rank k lt in_ e h = absurd (omega (arith, in_))
  told_at flood (one ∷ dims) zero k lt in_ e h = absurd (omega (arith, lt))
  told_at flood (one ∷ dims) (suc rank) zero lt in_ e h =
      (ap (λ (bs : List Bool). get_or bs 0 false) e, h.0)
  told_at flood (one ∷ dims) (suc rank) (suc k) lt in_ e h =
      let t = told_at (map is_flood (take rank dims)) dims rank k (omega (arith, lt))
      (omega (arith, in_)) refl h.1 in
      (t.0 ∙ ap (λ (bs : List Bool). get_or bs (suc k) false) e, t.1)

  value_told : (value : mean.Computed ℤ)
      → DimTold false (computed_then value (λ v. mean.Gives (all_from v v)))
  value_told (mean.Gives v) = (refl, omega arith)
  value_told (mean.Traps kind) = tt

  values_told : (low high : mean.Computed ℤ)
      → DimTold false (both_then low high (λ a b. mean.Gives (all_from a b)))
  values_told (mean.Gives a) (mean.Gives b) = (refl, omega arith)
  values_told (mean.Gives a) (mean.Traps kind) = tt
  values_told (mean.Traps kind) high = tt

  dim_told : (k : ℕ) (text : DimText) → k < rank → OpensDim place (Some rank) text
      → DimTold (dim_flood slotted k text)
      (dim_in place.environment store (dim_at current (suc k)) text)
  dim_told k (Blank at) lt h =
      let c = has h in
      let region = c.0.region in
      let inside : k < length region.dims = omega (arith, lt, few, c.0.three) in
      subst (λ (r : Region). DimTold (get_or slotted.flood k false) (mean.Gives (dim_at r (suc k))))
      c.1
      (subst (λ (i : ℕ). DimTold (get_or slotted.flood k false)
      (mean.Gives (slice_index_or region.dims i dim.Flood))) (back k)
      (told_at slotted.flood region.dims rank k lt inside
      (subst (λ (n : ℕ). map is_flood (take n region.dims) ≡ slotted.flood) c.0.ranked c.0.flood)
      (formed_of region c.0.is).0))
    where
      back : (k : ℕ) → k ≡ suc k - 1
      back k = omega arith
  dim_told k (Star at) lt h = (refl, tt)
  dim_told k (One index) lt h = value_told (mean_value place.environment store index)
  dim_told k (Span low high) lt h =
      values_told (mean_value place.environment store low) (mean_value place.environment store high)

  dims_told : (k : ℕ) (texts : DimTexts) → k + dims_count texts ≤ rank
      → OpenDims place (Some rank) texts
      → DimsTold (dims_flood slotted k texts)
      (dims_in place.environment store current (suc k) texts)
  dims_told k NoDim le h = (refl, tt)
  dims_told k (ThenDim first rest) le h =
      by (dim_in place.environment store (dim_at current (suc k)) first)
      (dims_in place.environment store current (suc (suc k)) rest)
      (dim_told k first (omega (arith, le)) h.0) (dims_told (suc k) rest (omega (arith, le)) h.1)
    where
      by : (one : mean.Computed Dim) (others : mean.Computed (List Dim))
          → DimTold (dim_flood slotted k first) one → DimsTold (dims_flood slotted (suc k) rest) others
          → DimsTold (dim_flood slotted k first ∷ dims_flood slotted (suc k) rest)
          (both_then one others (λ dim dims. mean.Gives (dim ∷ dims)))
      by (mean.Gives one) (mean.Gives others) a b = (
        ap (λ c. c ∷ map is_flood others) a.0
            ∙ ap (λ cs. dim_flood slotted k first ∷ cs) b.0,
        (a.1, b.1),
      )
      by (mean.Gives one) (mean.Traps kind) a b = tt
      by (mean.Traps kind) others a b = tt

  -- ---- the region

  flood_count : (k : ℕ) (texts : DimTexts) → length (dims_flood slotted k texts) ≡ dims_count texts
  flood_count k NoDim = refl
  flood_count k (ThenDim first rest) = ap suc (flood_count (suc k) rest)

  pub span_told : (texts : DimTexts) → dims_count texts ≡ rank → 1 ≤ rank
      → OpenDims place (Some rank) texts
      → Told (dims_flood slotted 0 texts) (span_in place.environment store current texts)
  span_told texts count above h =
      by (dims_in place.environment store current 1 texts)
      (dims_told 0 texts (omega (arith, count)) h)
    where
      by : (dims : mean.Computed (List Dim)) → DimsTold (dims_flood slotted 0 texts) dims
          → Told (dims_flood slotted 0 texts)
          (computed_then dims (λ all. computed_of (limited (region_over all))))
      by (mean.Traps kind) t = tt
      by (mean.Gives dims) t =
          let many : length dims ≡ rank =
          sym (length-map dims is_flood) ∙ ap (λ (bs : List Bool). length bs) t.0
          ∙ flood_count 0 texts ∙ count in
          subst (λ (v : mean.Computed Region). Told (dims_flood slotted 0 texts) v)
          (sym (limited_is (region_over dims)))
          (limit_told (dims_flood slotted 0 texts) (region_over dims)
          (is_within_limit (region_over dims)) refl
          (λ within. over_opened (dims_flood slotted 0 texts) dims t.0 t.1
          (omega (arith, above, many)) (omega (arith, few, many)) within))

  parts_length : (texts : DimTexts) → length (parts_of w slotted.slot texts) ≡ dims_count texts
  parts_length NoDim = refl
  parts_length (ThenDim first rest) = ap suc (parts_length rest)

  three_front : (m : ℕ) (parts : List Part) → length parts ≤ m
      → take (length parts) (three_parts m parts) ≡ parts
  three_front m [] le = refl
  three_front zero (part ∷ parts) le = absurd (omega (arith, le))
  three_front (suc m) (part ∷ parts) le =
      ap (λ ps. part ∷ ps) (three_front m parts (omega (arith, le)))

  blank_dims : (m : ℕ) → replicate m padding ≡ dims_of m []
  blank_dims zero = refl
  blank_dims (suc m) = ap (λ ds. padding ∷ ds) (blank_dims m)

  padded : (m : ℕ) (dims : List Dim) (k : ℕ) → length dims + k ≡ m
      → dims ++ replicate k padding ≡ dims_of m dims
  padded m [] k e =
      let same : k ≡ m = omega (arith, e) in
      ap (λ (n : ℕ). replicate n padding) same ∙ blank_dims m
  padded zero (one ∷ dims) k e = absurd (omega (arith, e))
  padded (suc m) (one ∷ dims) k e =
      ap (λ ds. one ∷ ds) (padded m dims k (omega (arith, e)))

  -- the step that a region leads to, or a trap
  abbrev pub span_step : ℕ → ℕ → mean.Computed Region → Step Whole
  span_step slot line (mean.Gives region) = limit_step now slot line region true
  span_step slot line (mean.Traps kind) = Stops (Ends (Trap kind line))

  pub spans_is : (slot line : ℕ) (texts : DimTexts) → dims_count texts ≡ rank
      → OpenDims place (Some rank) texts
      → spans now slot line rank (three_parts 3 (parts_of w slotted.slot texts))
      ≡ span_step slot line (span_in place.environment store current texts)
  spans_is slot line texts count h =
      let parts = parts_of w slotted.slot texts in
      let many : length parts ≡ rank = parts_length texts ∙ count in
      ap (λ ps. straight (controlled now (with_computed (parts_value registers 0 ps) line
      (λ dims. with_slot registers slot line (region_of rank dims)))))
      (subst (λ (n : ℕ). take n (three_parts 3 parts) ≡ parts) many
      (three_front 3 parts (omega (arith, many, few))))
      ∙ by (dims_in place.environment store current 1 texts) (parts_value registers 0 parts)
      (dims_same 0 texts (omega (arith, count)) h)
      (dims_told 0 texts (omega (arith, count)) h)
    where
      limit_is : (region : Region) (b : Bool) → limit_step now slot line region b
          ≡ span_step slot line (at_limit region b)
      limit_is region true = refl
      limit_is region false = refl

      by : (dims : mean.Computed (List Dim)) (code : flat.Computed (List Dim)) → Same dims code
          → DimsTold (dims_flood slotted 0 texts) dims
          → straight (controlled now (with_computed code line
          (λ dims. with_slot registers slot line (region_of rank dims))))
          ≡ span_step slot line
          (computed_then dims (λ all. computed_of (limited (region_over all))))
      by dims code (Give {value = all}) t =
          let many : length all ≡ rank =
          sym (length-map all is_flood) ∙ ap (λ (bs : List Bool). length bs) t.0
          ∙ flood_count 0 texts ∙ count in
          let region = region_over all in
          let same : region_of rank all ≡ region =
          subst (λ (n : ℕ). region_of n all ≡ region) many
          (ap (λ (ds : List Dim). let r : Region = record { rank = length all; dims = ds } in r)
          (padded 3 all (3 - length all) (omega (arith, many, few)))) in
          ap (λ (r : Region). straight (controlled now (with_slot registers slot line r))) same
          ∙ slot_step now slot line region
          ∙ limit_is region (is_within_limit region)
          ∙ ap (span_step slot line) (sym (limited_is region))
      by dims code Divide t = refl
