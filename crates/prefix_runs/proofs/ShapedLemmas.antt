-- Forms around a region, one after another, and their rows.
use Rattle.std.proofs.Common.{◌≡◌, refl, sym, ◌∙◌, ap, subst, ℕ}
use Rattle.std.proofs.Common.{Bool, true, false, ℤ, List, [], ◌∷◌, ◌++◌, Some}
use Rattle.std.specs.Prelude.{slice_get, slice_set, if◌then◌else◌}
use Rattle.zpl_nums.specs.declared.ends.End.TheVariants.{Trap}
use Rattle.zpl_nums.specs.declared.ends.TrapKind.TheVariants as trap
use Rattle.zpl_region.specs.declared.regions.Region.{Region}
use Rattle.zpl_region.specs.Region.{outside_of, inside_of, moved, strided}
use Rattle.zpl_region.specs.Tests.{is_within_limit}
use Rattle.zpl_tree.specs.Syntax.{Pre, NamedDir, Posts, NoPost, ThenPost}
use Rattle.zpl_binding.specs.Outcome as bound
use Rattle.zpl_binding.specs.Outcome.{BindFault, UnknownConfig, ConfigType, TwiceSet, BadConstant, RegionLimit, DirectionLimit, Outcome, and_then, outcome_of}
use Rattle.zpl_binding.specs.Vectors.{dir_of, three_components}
use Rattle.zpl_binding.specs.Regions.{Known, limited, behind, before}
use Rattle.zpl_binding.specs.Regions as bind
use Rattle.array_runs.specs.of_zpl_meaning.Computed as mean
use Rattle.array_runs.specs.of_zpl_meaning.Computed.{computed_then}
use Rattle.array_runs.specs.of_zpl_meaning.Regions.{fault_trap, computed_of, vector_in}
use Rattle.node_form.specs.declared.instructions.Instr.TheVariants as instr
use Rattle.node_form.specs.declared.tables.Tables.{Tables}
use Rattle.node_form.specs.Control as control
use Rattle.node_form.specs.Control.{formed_by, with_row, with_slot}
use Rattle.row_runs.specs.Run.{Step, Goes, Stops, Ends}
use Rattle.array_runs.specs.of_flat_form.Act.{controlled}
use Rattle.array_runs.specs.of_flat_form.Row as row
use Rattle.array_runs.specs.of_flat_form.Right.{is_settled}
use Rattle.array_runs.specs.of_flat_form.Whole.{Whole, registers_of}
use Rattle.array_runs.specs.of_zpl_lowering.Bracket.{Form, post_form, pre_form, post_forms, pre_forms, forms_of}
use Rattle.array_runs.specs.of_lowering_runs.Run.{straight, step}
use Rattle.array_runs.proofs.of_lowering_runs.RowLemmas.{settled_act}
use Rattle.prefix_runs.specs.Opens.{IsOpenedAs, IsGiven, AreGivenPres, AreGivenPosts}
use Rattle.prefix_runs.proofs.ShapeLemmas.{form_opened}

-- ---- a slot that is filled

abbrev pub filled : Whole → ℕ → Region → Whole
filled whole slot region = record whole { slots = slice_set whole.slots slot region }

abbrev pub limit_step : Whole → ℕ → ℕ → Region → Bool → Step Whole
limit_step whole slot line region true = Goes [] (filled whole slot region)
limit_step whole slot line region false = Stops (Ends (Trap trap.RegionLimit line))

pub slot_step : (whole : Whole) (slot line : ℕ) (region : Region)
    → straight (controlled whole (with_slot (registers_of whole) slot line region))
    ≡ limit_step whole slot line region (is_within_limit region)
slot_step whole slot line region = by (is_within_limit region)
  where
    by : (b : Bool)
        → straight (controlled whole (control.limited (registers_of whole) slot line region b))
        ≡ limit_step whole slot line region b
    by true = refl
    by false = refl

pub form_step : (tables : Tables) (n : ℕ) (whole : Whole) → ((k : ℕ) → is_settled whole k ≡ true)
    → (one : Form) (slot from line : ℕ) (region : Region) → slice_get whole.slots from ≡ Some region
    → step tables n (row.Plain (instr.Formed one.form slot from one.shift line)) whole
    ≡ limit_step whole slot line (formed_by one.form one.shift region)
    (is_within_limit (formed_by one.form one.shift region))
form_step tables n whole settled one slot from line region has =
    ap straight (settled_act tables n whole settled
    (row.Plain (instr.Formed one.form slot from one.shift line)))
    ∙ ap (λ o. straight (controlled whole (with_row o (λ region.
    with_slot (registers_of whole) slot line (formed_by one.form one.shift region))))) has
    ∙ slot_step whole slot line (formed_by one.form one.shift region)

-- ---- what forms mean

-- a region that is tested at the limit
abbrev pub at_limit : Region → Bool → mean.Computed Region
at_limit region true = mean.Gives region
at_limit region false = mean.Traps trap.RegionLimit

pub limited_is : (region : Region)
    → computed_of (limited region) ≡ at_limit region (is_within_limit region)
limited_is region = by (is_within_limit region)
  where
    by : (b : Bool) → computed_of (if b then bound.Gives region else bound.Fails RegionLimit)
        ≡ at_limit region b
    by true = refl
    by false = refl

abbrev pub shaped_once : Form → Region → mean.Computed Region
shaped_once one region = computed_of (limited (formed_by one.form one.shift region))

abbrev pub shaped : List Form → mean.Computed Region → mean.Computed Region
shaped [] value = value
shaped (one ∷ forms) value = shaped forms (computed_then value (shaped_once one))

shaped_append : (first rest : List Form) (value : mean.Computed Region)
    → shaped (first ++ rest) value ≡ shaped rest (shaped first value)
shaped_append [] rest value = refl
shaped_append (one ∷ first) rest value =
    shaped_append first rest (computed_then value (shaped_once one))

fault_stays : (fault : BindFault) (next : Region → mean.Computed Region)
    → fault_trap fault ≡ computed_then (fault_trap fault) next
fault_stays UnknownConfig next = refl
fault_stays ConfigType next = refl
fault_stays TwiceSet next = refl
fault_stays BadConstant next = refl
fault_stays RegionLimit next = refl
fault_stays DirectionLimit next = refl

once_is : (change : List ℤ → Region → Region) (one : Form) (vector : Outcome (List ℤ))
    (region : Outcome Region)
    → ((r : Region) → change one.shift r ≡ formed_by one.form one.shift r)
    → vector ≡ bound.Gives one.shift
    → computed_of (bind.formed_by change vector region)
    ≡ computed_then (computed_of region) (shaped_once one)
once_is change one vector (bound.Fails fault) same given = fault_stays fault (shaped_once one)
once_is change one vector (bound.Gives region) same given =
    ap (λ v. computed_of (and_then v (λ d. limited (change d region)))) given
    ∙ ap (λ r. computed_of (limited r)) (same region)

-- a vector that was given stands in the form
given_vector : (outcome : Outcome (List ℤ)) → IsGiven outcome
    → outcome ≡ bound.Gives (bound.value_or (three_components []) outcome)
given_vector (bound.Gives v) h = refl
given_vector (bound.Fails fault) h = absurd h

posts_are : (known : Known) (post : Posts) (region : Outcome Region) → AreGivenPosts known post
    → computed_of (behind known region post)
    ≡ shaped (post_forms known post) (computed_of region)
posts_are known NoPost region h = refl
posts_are known (ThenPost stride dir rest) region h =
    let vector = dir_of known.values known.directions dir in
    let one : Form = record { form = post_form stride; shift = vector_in known dir } in
    posts_are known rest (bind.formed_by (if stride then strided else moved) vector region) h.1
    ∙ ap (shaped (post_forms known rest))
    (once_is (if stride then strided else moved) one vector region (same stride)
    (given_vector vector h.0))
  where
    same : (b : Bool) (r : Region)
        → (if b then strided else moved) (vector_in known dir) r
        ≡ formed_by (post_form b) (vector_in known dir) r
    same true r = refl
    same false r = refl

pres_are : (known : Known) (pre : List Pre) (region : Outcome Region) → AreGivenPres known pre
    → computed_of (before known pre region) ≡ shaped (pre_forms known pre) (computed_of region)
pres_are known [] region h = refl
pres_are known (pre ∷ rest) region h =
    let vector = outcome_of (three_components []) known.directions pre.dir.text in
    let one : Form =
    record { form = pre_form pre.outside; shift = vector_in known (NamedDir pre.dir) } in
    once_is (if pre.outside then outside_of else inside_of) one vector (before known rest region)
    (same pre.outside) (given_vector vector h.0)
    ∙ ap (λ v. computed_then v (shaped_once one)) (pres_are known rest region h.1)
    ∙ sym (shaped_append (pre_forms known rest) (one ∷ []) (computed_of region))
  where
    same : (b : Bool) (r : Region)
        → (if b then outside_of else inside_of) (vector_in known (NamedDir pre.dir)) r
        ≡ formed_by (pre_form b) (vector_in known (NamedDir pre.dir)) r
    same true r = refl
    same false r = refl

pub forms_are : (known : Known) (pre : List Pre) (post : Posts) (region : Outcome Region)
    → AreGivenPres known pre → AreGivenPosts known post
    → computed_of (before known pre (behind known region post))
    ≡ shaped (forms_of known pre post) (computed_of region)
forms_are known pre post region h k =
    pres_are known pre (behind known region post) h
    ∙ ap (shaped (pre_forms known pre)) (posts_are known post region k)
    ∙ sym (shaped_append (post_forms known post) (pre_forms known pre) (computed_of region))

-- ---- what is told of the region

abbrev pub Told : List Bool → mean.Computed Region → Type 0
Told flood (mean.Gives region) = IsOpenedAs flood region
Told flood (mean.Traps kind) = Unit {0}

pub limit_told : (flood : List Bool) (region : Region) (b : Bool) → is_within_limit region ≡ b
    → (is_within_limit region ≡ true → IsOpenedAs flood region) → Told flood (at_limit region b)
limit_told flood region true e h = h e
limit_told flood region false e h = tt

once_told : (flood : List Bool) (one : Form) (value : mean.Computed Region) → Told flood value
    → Told flood (computed_then value (shaped_once one))
once_told flood one (mean.Traps kind) h = tt
once_told flood one (mean.Gives region) h =
    let next = formed_by one.form one.shift region in
    subst (λ (v : mean.Computed Region). Told flood v) (sym (limited_is next))
    (limit_told flood next (is_within_limit next) refl
    (λ within. form_opened flood one.form one.shift region within h))

pub shaped_told : (flood : List Bool) (forms : List Form) (value : mean.Computed Region)
    → Told flood value → Told flood (shaped forms value)
shaped_told flood [] value h = h
shaped_told flood (one ∷ forms) value h =
    shaped_told flood forms (computed_then value (shaped_once one)) (once_told flood one value h)
