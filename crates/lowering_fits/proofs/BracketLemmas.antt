-- The rows of a bracket fit, and the slot that it is in has its rank.
use Rattle.std.proofs.Common.{◌≡◌, ℕ, zero, suc, ◌≤◌, Bool, true, false, if◌then◌else◌, ℤ, List, [], ◌∷◌, ◌++◌, length, take, refl, sym, ap, ◌∙◌, subst, arith, append_assoc, append-nil}
use Rattle.std.proofs.lemmas.Int.{ints}
use Rattle.std.specs.Prelude.{◌≤ℤ◌, pos, Option, Some, None, IsTrue, ◌↔◌, option_map, option_and_then, slice_get, All, replicate}
use Rattle.std.specs.List.{AllByRecursion}
use Rattle.std.proofs.lemmas.List.{length-map}
use Rattle.std.proofs.lemmas.List.Elements.{All-from_recursion}
use Rattle.zpl_region.specs.declared.dims.Dim.{Dim}
use Rattle.zpl_region.specs.declared.regions.Region.{Region}
use Rattle.zpl_region.specs.Dim.{HasStep, dim_outside_of, dim_inside_of, dim_moved, dim_strided}
use Rattle.zpl_region.specs.Region.{IsPadded, IsWithinLimit, each, outside_of, inside_of, moved, strided, formed, components}
use Rattle.zpl_region.specs.Tests.{is_within_limit}
use Rattle.zpl_region.specs.Hull.{all_from}
use Rattle.meaning_ranks.specs.of_zpl_tree.Syntax.{Name, Pre, NamedRegion, Ditto, Expr, Number, Truth, Coord, Named, Shifted, Around, Remap, Call, Paren, Neg, Not, Abs, Pair, Reduce, Scan, Flood, NamedDir, Inner, Rexpr, Dims, Posts, NoPost, ThenPost, DimText, Blank, Star, One, Span, DimTexts, NoDim, ThenDim}
use Rattle.meaning_ranks.specs.of_zpl_names.Kinds.{Rank}
use Rattle.meaning_ranks.specs.of_zpl_names.Scope.{Scope, kind_of}
use Rattle.meaning_ranks.specs.of_zpl_names.Ranks.{is_index, inner_rank, region_shape, dims_count}
use Rattle.meaning_ranks.proofs.of_zpl_binding.KeptLemmas.{formed-kept}
use Rattle.meaning_ranks.specs.of_zpl_binding.Outcome.{RegionLimit, Outcome, Gives, Fails, outcome_of, value_or}
use Rattle.meaning_ranks.specs.of_zpl_binding.Regions.{Known, dims_of, region_over, limited, formed_by, behind, before, no_region, region_named}
use Rattle.meaning_ranks.specs.of_zpl_binding.Vectors.{three_components, dir_of}
use Rattle.meaning_ranks.specs.of_zpl_meaning.Store.{Environment, Thing, Scalar, ArrayAt, Fixed, thing_of}
use Rattle.meaning_ranks.specs.of_zpl_meaning.Regions.{vector_in}
use Rattle.meaning_ranks.specs.of_zpl_meaning.Context.{Currents, Edge}
use Rattle.meaning_ranks.specs.of_zpl_meaning.Context.{no_currents}
use Rattle.meaning_ranks.specs.of_zpl_meaning.Proper.{HasCurrent, IsProperName, IsProperInner, AreProperDims}
use Rattle.meaning_ranks.specs.Ranked.{ArePresOf, ArePostsOf, IsInnerOf}
use Rattle.stored_shifts.specs.of_node_form.Expression.{words_of}
use Rattle.stored_shifts.specs.of_node_form.declared.tables.Tables.{Tables}
use Rattle.stored_shifts.specs.of_node_form.declared.instructions.Instr.TheVariants as instr
use Rattle.stored_shifts.specs.of_node_form.Fits.{IsRank, HasSlot}
use Rattle.lower_numbers.specs.of_flat_form.Row as row
use Rattle.lower_numbers.specs.of_flat_form.Row.{Row, Part}
use Rattle.lower_numbers.specs.of_zpl_lowering.Where.{Slotted, Where, flood_of, is_flood}
use Rattle.lower_numbers.specs.of_zpl_lowering.Words.{thing_code, scalar_code}
use Rattle.lower_numbers.specs.of_zpl_lowering.Bracket.{Form, Opened, standing, filled, parts_of, dims_flood, three_parts, spanned, post_forms, pre_form, pre_forms, forms_of, formed as formed_rows, named_region, name_opened, computed, one_row, fixed_or, bracket, both, constant_of, constant_dim, constant_dims, within, constant_span, constant_name, constant_region}
use Rattle.lowering_fits.specs.Inline.{FitsScalar, FitRows, AllDims, AllStars, StarsPast}
use Rattle.lowering_fits.specs.Slates.{SlotsAt, FitNumbers, FitsBox, FitsTree, FitsVector}
use Rattle.lowering_fits.specs.Reach.{IsBox, IsGivenBox, FitsKnown, place_at}
use Rattle.lowering_fits.proofs.TreeLemmas.{scalar_tree, variable_fits, below_at}
use Rattle.lowering_fits.proofs.SlateLemmas.{rows_both}

-- ---- ranks

-- a rank as a number, which is 0 where it is left open
abbrev pub rank_number : Rank → ℕ
rank_number None = 0
rank_number (Some rank) = rank

-- the bracket's slots and rows, and where its region is then
abbrev pub SameRanks : ℕ → List ℕ → Type 0
SameRanks rank [] = Unit {0}
SameRanks rank (slot ∷ slots) = (slot ≡ rank) × SameRanks rank slots

pub same_both : (rank : ℕ) (xs ys : List ℕ) → SameRanks rank xs → SameRanks rank ys →
    SameRanks rank (xs ++ ys)
same_both rank [] ys first rest = rest
same_both rank (x ∷ xs) ys first rest = (first.0, same_both rank xs ys first.1 rest)

pub record FitsOpened (tables : Tables) (rank : ℕ) (opened : Opened) : Type 0 where
  pub slots : SameRanks rank opened.slots
  pub rows : FitRows tables 0 opened.rows
  pub has : HasSlot tables rank opened.slot
  pub floods : length opened.flood ≡ rank

-- ---- bounds

pub scalar_fits : (base : Tables) (w : Where) (one : Expr) → FitNumbers base w.numbers →
    FitsTree base 0 (scalar_code w one)
scalar_fits base w (Number at value) fits = tt
scalar_fits base w (Truth at value) fits = tt
scalar_fits base w (Named at name) fits = by (thing_of w.environment name.text)
  where
    by : (thing : Option Thing) → FitsTree base 0 (thing_code w.numbers thing)
    by (Some (Scalar place)) =
        variable_fits base 0 (slice_get w.numbers.scalars place)
        (below_at base w.numbers.scalars place fits.scalars)
    by (Some (Fixed value)) = tt
    by (Some (ArrayAt place home)) = tt
    by None = tt
scalar_fits base w (Paren at inside) fits = scalar_fits base w inside fits
scalar_fits base w (Neg at operand) fits = scalar_fits base w operand fits
scalar_fits base w (Not at operand) fits = scalar_fits base w operand fits
scalar_fits base w (Abs at operand) fits = scalar_fits base w operand fits
scalar_fits base w (Pair at op left right) fits =
    (scalar_fits base w left fits, scalar_fits base w right fits)
scalar_fits base w (Coord at k) fits = tt
scalar_fits base w (Shifted at name shift) fits = tt
scalar_fits base w (Around at name shift) fits = tt
scalar_fits base w (Remap at name indices) fits = tt
scalar_fits base w (Call at name actuals) fits = tt
scalar_fits base w (Reduce at operator over operand) fits = tt
scalar_fits base w (Scan at operator along operand) fits = tt
scalar_fits base w (Flood at source operand) fits = tt

module _ (base : Tables) (w : Where) (numbers : FitNumbers base w.numbers) where
  words_fit : (one : Expr) → FitsScalar base (words_of (scalar_code w one))
  words_fit one = scalar_tree base (scalar_code w one) (scalar_fits base w one numbers)

  -- ---- dimensions

  dims_fit : (currents : Currents) (result : ℕ) (edge : Option Edge) (rank : ℕ)
      (current : Slotted) (dims : DimTexts) →
      (HasCurrent currents (Some rank) → HasSlot base rank current.slot) →
      AreProperDims (place_at w result currents edge) (Some rank) dims →
      AllDims base rank (parts_of w current.slot dims)
  dims_fit currents result edge rank current NoDim has proper = tt
  dims_fit currents result edge rank current (ThenDim (Blank at) rest) has proper =
      (has proper.0, dims_fit currents result edge rank current rest has proper.1)
  dims_fit currents result edge rank current (ThenDim (Star at) rest) has proper =
      (tt, dims_fit currents result edge rank current rest has proper.1)
  dims_fit currents result edge rank current (ThenDim (One index) rest) has proper = (
    (words_fit index, words_fit index),
    dims_fit currents result edge rank current rest has proper.1,
  )
  dims_fit currents result edge rank current (ThenDim (Span low high) rest) has proper = (
    (words_fit low, words_fit high),
    dims_fit currents result edge rank current rest has proper.1,
  )

  parts_count : (slot : ℕ) (dims : DimTexts) → length (parts_of w slot dims) ≡ dims_count dims
  parts_count slot NoDim = refl
  parts_count slot (ThenDim first rest) = ap suc (parts_count slot rest)

floods_count : (current : Slotted) (k : ℕ) (dims : DimTexts) →
    length (dims_flood current k dims) ≡ dims_count dims
floods_count current k NoDim = refl
floods_count current k (ThenDim first rest) = ap suc (floods_count current (suc k) rest)

three_fit : (base : Tables) (rank n : ℕ) (parts : List Part) → AllDims base rank parts →
    AllDims base rank (three_parts n parts)
three_fit base rank zero parts fit = tt
three_fit base rank (suc n) [] fit = (tt, three_fit base rank n [] tt)
three_fit base rank (suc n) (part ∷ parts) fit = (fit.0, three_fit base rank n parts fit.1)

three_count : (n : ℕ) (parts : List Part) → length (three_parts n parts) ≡ n
three_count zero parts = refl
three_count (suc n) [] = ap suc (three_count n [])
three_count (suc n) (part ∷ parts) = ap suc (three_count n parts)

all_stars : (n : ℕ) → AllStars (three_parts n [])
all_stars zero = tt
all_stars (suc n) = (tt, all_stars n)

three_stars : (n : ℕ) (parts : List Part) → StarsPast (length parts) (three_parts n parts)
three_stars zero [] = tt
three_stars zero (part ∷ parts) = tt
three_stars (suc n) [] = (tt, all_stars n)
three_stars (suc n) (part ∷ parts) = three_stars n parts

module _ (base : Tables) (w : Where) (numbers : FitNumbers base w.numbers) where
  spanned_fits : (currents : Currents) (result : ℕ) (edge : Option Edge) (next line : ℕ)
      (current : Slotted) (dims : DimTexts) →
      (HasCurrent currents (Some (dims_count dims)) →
      HasSlot base (dims_count dims) current.slot) →
      AreProperDims (place_at w result currents edge) (Some (dims_count dims)) dims →
      SlotsAt base next (spanned w next line current dims).slots →
      FitsOpened base (dims_count dims) (spanned w next line current dims)
  spanned_fits currents result edge next line current dims has proper at =
      let rank : ℕ = dims_count dims in
      let parts : List Part = parts_of w current.slot dims in
      let counted : length (dims_flood current 0 dims) ≡ rank = floods_count current 0 dims in
      let here : HasSlot base rank next = subst (λ r. HasSlot base r next) counted at.0 in
      record {
        slots = (counted, tt);
        rows = (
          record {
            rank = rank;
            over = here;
            fit = three_fit base rank 3 parts
                (dims_fit base w numbers currents result edge rank current dims has proper);
            stars = subst (λ r. StarsPast r (three_parts 3 parts))
                (parts_count base w numbers current.slot dims) (three_stars 3 parts);
            three = three_count 3 parts;
          },
          tt,
        );
        has = here;
        floods = counted;
      }

-- ---- forms around a region

abbrev AllForms : ℕ → List Form → Type 0
AllForms rank [] = Unit {0}
AllForms rank (one ∷ rest) = FitsVector rank one.shift × AllForms rank rest

forms_both : (rank : ℕ) (xs ys : List Form) → AllForms rank xs → AllForms rank ys →
    AllForms rank (xs ++ ys)
forms_both rank [] ys first rest = rest
forms_both rank (x ∷ xs) ys first rest = (first.0, forms_both rank xs ys first.1 rest)

module _ (base : Tables) (known : Known) (scope : Scope) (fits : FitsKnown base known scope)
    (rank : ℕ) where
  posts_fit : (post : Posts) → ArePostsOf scope (Some rank) post →
      AllForms rank (post_forms known post)
  posts_fit NoPost are = tt
  posts_fit (ThenPost stride dir rest) are = (fits.dirs rank dir are.0, posts_fit rest are.1)

  pres_fit : (pre : List Pre) → ArePresOf scope (Some rank) pre →
      AllForms rank (pre_forms known pre)
  pres_fit [] are = tt
  pres_fit (pre ∷ rest) are =
      forms_both rank (pre_forms known rest)
      (record {
        form = pre_form pre.outside;
        shift = vector_in known (NamedDir pre.dir);
      } ∷ []) (pres_fit rest are.1) (fits.dirs rank (NamedDir pre.dir) are.0, tt)

-- ---- rows of forms

-- so many slots more
pub formed_slots : (next line : ℕ) (forms : List Form) (opened : Opened) →
    (formed_rows next line forms opened).slots
    ≡ opened.slots ++ replicate (length forms) (length opened.flood)
formed_slots next line [] opened = sym (append-nil opened.slots)
formed_slots next line (one ∷ rest) opened =
    formed_slots (suc next) line rest (record {
      rows = opened.rows
          ++ row.Plain (instr.Formed one.form next opened.slot one.shift line) ∷ [];
      slots = opened.slots ++ length opened.flood ∷ [];
      slot = next;
      flood = opened.flood;
    })
    ∙ append_assoc opened.slots (length opened.flood ∷ [])
    (replicate (length rest) (length opened.flood))

pub formed_fits : (base : Tables) (rank next line : ℕ) (forms : List Form) (opened : Opened) →
    AllForms rank forms → FitsOpened base rank opened →
    SlotsAt base next (replicate (length forms) rank) →
    FitsOpened base rank (formed_rows next line forms opened)
formed_fits base rank next line [] opened all fits at = fits
formed_fits base rank next line (one ∷ rest) opened all fits at =
    formed_fits base rank (suc next) line rest (record {
      rows = opened.rows
          ++ row.Plain (instr.Formed one.form next opened.slot one.shift line) ∷ [];
      slots = opened.slots ++ length opened.flood ∷ [];
      slot = next;
      flood = opened.flood;
    }) all.1
    (record {
      slots = same_both rank opened.slots (length opened.flood ∷ []) fits.slots (fits.floods, tt);
      rows = rows_both base opened.rows
          (row.Plain (instr.Formed one.form next opened.slot one.shift line) ∷ []) fits.rows
          ((record { rank = rank; fit = (at.0, fits.has, all.0.0) }, all.0.1), tt);
      has = at.0;
      floods = fits.floods;
    }) at.1

-- ---- boxes

pub flood_count : (rank : ℕ) (region : Region) → rank ≤ 3 → IsBox rank region →
    length (flood_of region) ≡ rank
flood_count rank region few is =
    length-map (take region.rank region.dims) is_flood
    ∙ (ap (λ n. length (take n region.dims)) is.same
    ∙ taken rank region.dims (omega (arith, is.three)))
  where
    taken : (n : ℕ) (dims : List Dim) → n ≤ length dims → length (take n dims) ≡ n
    taken zero dims within = refl
    taken (suc n) [] within = absurd (omega arith)
    taken (suc n) (one ∷ dims) within = ap suc (taken n dims (omega arith))

module _ (base : Tables) (w : Where) (numbers : FitNumbers base w.numbers)
    (known : FitsKnown base w.setup.known w.scope) where
  named_fits : (rank : ℕ) (name : Name) → rank ≤ 3 →
      option_map length (region_shape (kind_of w.scope name)) ≡ Some rank →
      FitsOpened base rank (named_region w.setup.known name)
  named_fits rank name few is = record {
    slots = tt;
    rows = tt;
    has = known.slots rank name is;
    floods = by (region_named w.setup.known name) (known.boxes rank name is);
  }
    where
      by : (outcome : Outcome Region) → IsGivenBox rank outcome →
          length (flood_of (value_or no_region outcome)) ≡ rank
      by (Gives region) is = flood_count rank region few is.0
      by (Fails fault) is = absurd is

  all_forms : (rank : ℕ) (pre : List Pre) (post : Posts) →
      ArePresOf w.scope (Some rank) pre → ArePostsOf w.scope (Some rank) post →
      AllForms rank (forms_of w.setup.known pre post)
  all_forms rank pre post pres posts =
      forms_both rank (post_forms w.setup.known post) (pre_forms w.setup.known pre)
      (posts_fit base w.setup.known w.scope known rank post posts)
      (pres_fit base w.setup.known w.scope known rank pre pres)

  -- around a region that has a slot
  around_fits : (rank next line : ℕ) (pre : List Pre) (post : Posts) (opened : Opened) →
      opened.slots ≡ [] → ArePresOf w.scope (Some rank) pre →
      ArePostsOf w.scope (Some rank) post → FitsOpened base rank opened →
      SlotsAt base next
      (formed_rows next line (forms_of w.setup.known pre post) opened).slots →
      FitsOpened base rank (formed_rows next line (forms_of w.setup.known pre post) opened)
  around_fits rank next line pre post opened none pres posts fits at =
      let forms : List Form = forms_of w.setup.known pre post in
      let slots : (formed_rows next line forms opened).slots ≡ replicate (length forms) rank =
      formed_slots next line forms opened
      ∙ (ap (λ xs. xs ++ replicate (length forms) (length opened.flood)) none
      ∙ ap (λ n. replicate (length forms) n) fits.floods) in
      formed_fits base rank next line forms opened (all_forms rank pre post pres posts) fits
      (subst (SlotsAt base next) slots at)

  name_fits : (index : Bool) (currents : Currents) (result : ℕ) (edge : Option Edge)
      (rank next line : ℕ) (current : Slotted) (pre : List Pre) (name : Name) (post : Posts) →
      rank ≤ 3 →
      (if index then Some 1 else option_map length (region_shape (kind_of w.scope name)))
      ≡ Some rank →
      ArePresOf w.scope (Some rank) pre → ArePostsOf w.scope (Some rank) post →
      IsProperName index w.environment name →
      SlotsAt base next (name_opened index w next line current pre name post).slots →
      FitsOpened base rank (name_opened index w next line current pre name post)
  name_fits true currents result edge rank next line current pre name post few is pres posts
      proper at =
      let dims : DimTexts = ThenDim (One (Named name.at name)) NoDim in
      let one : 1 ≡ rank = cc in
      subst (λ n. FitsOpened base n (spanned w next line current dims)) one
      (spanned_fits base w numbers no_currents result edge next line current dims
      (λ has. let no : ⊥ = cc in absurd no) (proper, tt) at)
  name_fits false currents result edge rank next line current pre name post few is pres posts
      proper at =
      around_fits rank next line pre post (named_region w.setup.known name) refl pres posts
      (named_fits rank name few is) at

  -- what stands between brackets, of a rank
  pub computed_fits : (currents : Currents) (result : ℕ) (edge : Option Edge) (hint : Rank)
      (rank next line : ℕ) (current : Slotted) (inner : Inner) → rank ≤ 3 →
      inner_rank w.scope hint w.prefix inner ≡ Some rank →
      (HasCurrent currents (Some rank) →
      HasSlot base rank current.slot × (length current.flood ≡ rank)) →
      IsProperInner (place_at w result currents edge) (Some rank) inner →
      IsInnerOf w.scope (Some rank) inner →
      SlotsAt base next (computed w next line current inner).slots →
      FitsOpened base rank (computed w next line current inner)
  computed_fits currents result edge hint rank next line current
      (Rexpr pre (NamedRegion name) post) few is has proper of at =
      name_fits (is_index w.scope pre name post) currents result edge rank next line current pre
      name post few is of.0 of.1 proper at
  computed_fits currents result edge hint rank next line current (Rexpr pre (Ditto at) post) few is
      has proper of slots =
      around_fits rank next line pre post (standing current.slot current.flood) refl of.0 of.1
      (record { slots = tt; rows = tt; has = (has proper).0; floods = (has proper).1 }) slots
  computed_fits currents result edge hint rank next line current (Dims dims) few is has proper of
      at =
      let same : dims_count dims ≡ rank = cc in
      subst (λ n. FitsOpened base n (spanned w next line current dims)) same
      (spanned_fits base w numbers currents result edge next line current dims
      (subst (λ n. HasCurrent currents (Some n) → HasSlot base n current.slot) (sym same)
      (λ there. (has there).0))
      (subst (λ n. AreProperDims (place_at w result currents edge) (Some n) dims) (sym same)
      proper) at)

-- ---- regions that are known before the run

abbrev pub LimitsAreTold : Type 0
LimitsAreTold =
    (region : Region) → All HasStep region.dims →
    IsTrue (is_within_limit region) ↔ IsWithinLimit region

abbrev pub HoldsFixed : ℕ → Outcome Region → Type 0
HoldsFixed rank (Gives region) = IsBox rank region × IsTrue (is_within_limit region)
HoldsFixed rank (Fails fault) = Unit {0}

each_count : (form : ℤ → Dim → Dim) (v : List ℤ) (dims : List Dim) →
    length (each form v dims) ≡ length dims
each_count form [] dims = refl
each_count form (d ∷ v) [] = refl
each_count form (d ∷ v) (one ∷ dims) = ap suc (each_count form v dims)

box_kept : (rank : ℕ) (region : Region) (form : ℤ → Dim → Dim) (d : List ℤ) →
    IsBox rank region →
    AllByRecursion HasStep (formed form d region).dims
    × IsPadded region.rank (formed form d region).dims →
    IsBox rank (formed form d region)
box_kept rank region form d is kept = record {
  steps = kept.0;
  padded = kept.1;
  three = each_count form (components region.rank d) region.dims ∙ is.three;
  same = is.same;
}

pub outside_box : (rank : ℕ) (d : List ℤ) (region : Region) → IsBox rank region →
    IsBox rank (outside_of d region)
outside_box rank d region is =
    box_kept rank region dim_outside_of d is (formed-kept.outside d region (is.steps, is.padded))

inside_box : (rank : ℕ) (d : List ℤ) (region : Region) → IsBox rank region →
    IsBox rank (inside_of d region)
inside_box rank d region is =
    box_kept rank region dim_inside_of d is (formed-kept.inside d region (is.steps, is.padded))

pub moved_box : (rank : ℕ) (d : List ℤ) (region : Region) → IsBox rank region →
    IsBox rank (moved d region)
moved_box rank d region is =
    box_kept rank region dim_moved d is (formed-kept.moves d region (is.steps, is.padded))

strided_box : (rank : ℕ) (d : List ℤ) (region : Region) → IsBox rank region →
    IsBox rank (strided d region)
strided_box rank d region is =
    box_kept rank region dim_strided d is (formed-kept.strides d region (is.steps, is.padded))

pub limited_box : (rank : ℕ) (region : Region) → IsBox rank region → HoldsFixed rank (limited region)
limited_box rank region is = by (is_within_limit region) (λ yes. yes)
  where
    by : (b : Bool) → (IsTrue b → IsTrue (is_within_limit region)) →
        HoldsFixed rank (if b then Gives region else Fails RegionLimit)
    by true told = (is, told refl)
    by false told = tt

form_box : (rank : ℕ) (form : List ℤ → Region → Region) (vector : Outcome (List ℤ))
    (region : Outcome Region) →
    ((d : List ℤ) (r : Region) → IsBox rank r → IsBox rank (form d r)) →
    HoldsFixed rank region → HoldsFixed rank (formed_by form vector region)
form_box rank form vector (Fails fault) keeps is = tt
form_box rank form (Fails fault) (Gives region) keeps is = tt
form_box rank form (Gives d) (Gives region) keeps is =
    limited_box rank (form d region) (keeps d region is.0)

pub behind_box : (rank : ℕ) (known : Known) (post : Posts) (region : Outcome Region) →
    HoldsFixed rank region → HoldsFixed rank (behind known region post)
behind_box rank known NoPost region is = is
behind_box rank known (ThenPost true dir rest) region is =
    behind_box rank known rest
    (formed_by strided (dir_of known.values known.directions dir) region)
    (form_box rank strided (dir_of known.values known.directions dir) region (strided_box rank) is)
behind_box rank known (ThenPost false dir rest) region is =
    behind_box rank known rest
    (formed_by moved (dir_of known.values known.directions dir) region)
    (form_box rank moved (dir_of known.values known.directions dir) region (moved_box rank) is)

pub before_box : (rank : ℕ) (known : Known) (pre : List Pre) (region : Outcome Region) →
    HoldsFixed rank region → HoldsFixed rank (before known pre region)
before_box rank known [] region is = is
before_box rank known (pre ∷ rest) region is =
    by pre.outside (before_box rank known rest region is)
  where
    vector : Outcome (List ℤ)
    vector = outcome_of (three_components []) known.directions pre.dir.text

    by : (b : Bool) → HoldsFixed rank (before known rest region) →
        HoldsFixed rank (formed_by (if b then outside_of else inside_of) vector
        (before known rest region))
    by true is =
        form_box rank outside_of vector (before known rest region) (outside_box rank) is
    by false is = form_box rank inside_of vector (before known rest region) (inside_box rank) is

abbrev OnFixed : ℕ → Option Region → Type 0
OnFixed rank None = Unit {0}
OnFixed rank (Some region) = IsBox rank region × IsTrue (is_within_limit region)

within_fixed : (rank : ℕ) (outcome : Outcome Region) → HoldsFixed rank outcome →
    OnFixed rank (within outcome)
within_fixed rank (Gives region) holds = holds
within_fixed rank (Fails fault) holds = tt

abbrev OnDims : ℕ → Option (List Dim) → Type 0
OnDims n None = Unit {0}
OnDims n (Some dims) = (length dims ≡ n) × AllByRecursion HasStep dims

abbrev OnDim : Option Dim → Type 0
OnDim None = Unit {0}
OnDim (Some one) = HasStep one

one_step : pos 1 ≤ℤ pos 1
one_step = omega (arith, ints)

dim_steps : (environment : Environment) (one : DimText) → OnDim (constant_dim environment one)
dim_steps environment (Blank at) = tt
dim_steps environment (Star at) = tt
dim_steps environment (One index) = by (constant_of environment index)
  where
    by : (value : Option ℤ) → OnDim (option_map (λ value. all_from value value) value)
    by None = tt
    by (Some value) = one_step
dim_steps environment (Span low high) =
    by (constant_of environment low) (constant_of environment high)
  where
    by : (low high : Option ℤ) → OnDim (both low high (λ a b. Some (all_from a b)))
    by None None = tt
    by None (Some high) = tt
    by (Some low) None = tt
    by (Some low) (Some high) = one_step

dims_steps : (environment : Environment) (dims : DimTexts) →
    OnDims (dims_count dims) (constant_dims environment dims)
dims_steps environment NoDim = (refl, tt)
dims_steps environment (ThenDim first rest) =
    by (constant_dim environment first) (constant_dims environment rest)
    (dim_steps environment first) (dims_steps environment rest)
  where
    by : (one : Option Dim) (all : Option (List Dim)) → OnDim one → OnDims (dims_count rest) all →
        OnDims (suc (dims_count rest))
        (option_and_then (λ dim. option_map (λ dims. dim ∷ dims) all) one)
    by None all is are = tt
    by (Some one) None is are = tt
    by (Some one) (Some all) is are = (ap suc are.0, (is, are.1))

three_dims : (n : ℕ) (dims : List Dim) → length (dims_of n dims) ≡ n
three_dims zero dims = refl
three_dims (suc n) [] = ap suc (three_dims n [])
three_dims (suc n) (one ∷ dims) = ap suc (three_dims n dims)

pub over_box : (dims : List Dim) → AllByRecursion HasStep dims →
    IsBox (length dims) (region_over dims)
over_box dims steps =
    let kept = formed-kept.over dims steps in
    record { steps = kept.0; padded = kept.1; three = three_dims 3 dims; same = refl }

span_fixed : (rank : ℕ) (environment : Environment) (dims : DimTexts) → dims_count dims ≡ rank →
    OnFixed rank (constant_span environment dims)
span_fixed rank environment dims same =
    by (constant_dims environment dims) (dims_steps environment dims)
  where
    by : (all : Option (List Dim)) → OnDims (dims_count dims) all →
        OnFixed rank (option_and_then (λ all. within (limited (region_over all))) all)
    by None are = tt
    by (Some all) are =
        within_fixed rank (limited (region_over all))
        (limited_box rank (region_over all)
        (subst (λ n. IsBox n (region_over all)) (are.0 ∙ same) (over_box all are.1)))

module _ (base : Tables) (w : Where) (known : FitsKnown base w.setup.known w.scope) where
  name_fixed : (index : Bool) (rank : ℕ) (pre : List Pre) (name : Name) (post : Posts) →
      (if index then Some 1 else option_map length (region_shape (kind_of w.scope name)))
      ≡ Some rank →
      OnFixed rank (constant_name index w.environment w.setup.known pre name post)
  name_fixed true rank pre name post is =
      let one : 1 ≡ rank = cc in
      span_fixed rank w.environment (ThenDim (One (Named name.at name)) NoDim) one
  name_fixed false rank pre name post is =
      within_fixed rank
      (before w.setup.known pre
      (behind w.setup.known (region_named w.setup.known name) post))
      (before_box rank w.setup.known pre
      (behind w.setup.known (region_named w.setup.known name) post)
      (behind_box rank w.setup.known post (region_named w.setup.known name)
      (given (region_named w.setup.known name) (known.boxes rank name is))))
    where
      given : (outcome : Outcome Region) → IsGivenBox rank outcome → HoldsFixed rank outcome
      given (Gives region) is = is
      given (Fails fault) is = absurd is

  pub constant_fixed : (hint : Rank) (rank : ℕ) (inner : Inner) →
      inner_rank w.scope hint w.prefix inner ≡ Some rank →
      IsInnerOf w.scope (Some rank) inner → OnFixed rank (constant_region w inner)
  constant_fixed hint rank (Rexpr pre (NamedRegion name) post) is of =
      name_fixed (is_index w.scope pre name post) rank pre name post is
  constant_fixed hint rank (Rexpr pre (Ditto at) post) is of = tt
  constant_fixed hint rank (Dims dims) is of =
      let same : dims_count dims ≡ rank = cc in span_fixed rank w.environment dims same

-- such a region may stand in a row
pub box_region : LimitsAreTold → (rank : ℕ) (region : Region) → IsRank rank → IsBox rank region →
    IsTrue (is_within_limit region) → FitsBox region
box_region limits rank region is box within =
    let steps : All HasStep region.dims = All-from_recursion HasStep region.dims box.steps in (
      record {
        rank = subst IsRank (sym box.same) is;
        steps = steps;
        padded = box.padded;
        limit = (limits region steps).0 within;
      },
      box.three,
    )

module _ (limits : LimitsAreTold) (base : Tables) (w : Where) (numbers : FitNumbers base w.numbers)
    (known : FitsKnown base w.setup.known w.scope) where
  fixed_fits : (rank next : ℕ) (fixed : Option Region) (opened : Opened) → IsRank rank →
      OnFixed rank fixed → (SlotsAt base next opened.slots → FitsOpened base rank opened) →
      SlotsAt base next (fixed_or fixed next opened).slots →
      FitsOpened base rank (fixed_or fixed next opened)
  fixed_fits rank next None opened is on fits at = fits at
  fixed_fits rank next (Some region) opened is on fits at = by opened.rows at
    where
      fixed : Opened
      fixed = filled next (flood_of region) (row.Plain (instr.Fix next region))

      by : (rows : List Row) → SlotsAt base next (one_row rows opened fixed).slots →
          FitsOpened base rank (one_row rows opened fixed)
      by [] at = fits at
      by (one ∷ rows) at =
          let below = is.1 in
          let counted : length (flood_of region) ≡ rank = flood_count rank region below on.0 in
          let here : HasSlot base rank next = subst (λ r. HasSlot base r next) counted at.0 in
          record {
            slots = (counted, tt);
            rows = (
              (
                record {
                  rank = rank;
                  fit = (here, (box_region limits rank region is on.0 on.1).0, on.0.same);
                },
                on.0.three,
              ),
              tt,
            );
            has = here;
            floods = counted;
          }

  pub bracket_fits : (currents : Currents) (result : ℕ) (edge : Option Edge) (hint : Rank)
      (rank next line : ℕ) (current : Slotted) (inner : Inner) → IsRank rank →
      inner_rank w.scope hint w.prefix inner ≡ Some rank →
      (HasCurrent currents (Some rank) →
      HasSlot base rank current.slot × (length current.flood ≡ rank)) →
      IsProperInner (place_at w result currents edge) (Some rank) inner →
      IsInnerOf w.scope (Some rank) inner →
      SlotsAt base next (bracket w next line current inner).slots →
      FitsOpened base rank (bracket w next line current inner)
  bracket_fits currents result edge hint rank next line current inner is ranked has proper of at =
      fixed_fits rank next (constant_region w inner) (computed w next line current inner) is
      (constant_fixed base w known hint rank inner ranked of)
      (computed_fits base w numbers known currents result edge hint rank next line current inner
      is.1 ranked has proper of) at
