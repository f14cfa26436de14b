-- The regions that stand in statements, as rows.
use Rattle.std.specs.Prelude.{ℕ, zero, suc, ◌+◌, ◌-◌, Bool, true, false, ℤ, List, [], ◌∷◌, ◌++◌, length, Option, Some, None, option_map, option_and_then, get_or, position}
use Rattle.std.specs.Str.{bytes_eq}
use Rattle.zpl_meaning.specs.of_zpl_nums.Integer.{truth, negated, denied, absolute}
use Rattle.zpl_meaning.specs.of_zpl_nums.Op.{applied}
use Rattle.zpl_meaning.specs.of_zpl_region.declared.dims.Dim.{Dim}
use Rattle.zpl_meaning.specs.of_zpl_region.declared.dims.Dim.TheVariants as dim
use Rattle.zpl_meaning.specs.of_zpl_region.declared.regions.Region.{Region}
use Rattle.zpl_meaning.specs.of_zpl_region.Hull.{all_from}
use Rattle.zpl_meaning.specs.of_zpl_tree.Syntax.{Name, Pre, RegionBase, NamedRegion, Ditto, Expr, Number, Truth, Coord, Named, Shifted, Around, Remap, Call, Paren, Neg, Not, Abs, Pair, Reduce, Scan, Flood, NamedDir, Inner, Rexpr, Dims, Posts, NoPost, ThenPost, DimText, Blank, Star, One, Span, DimTexts, NoDim, ThenDim}
use Rattle.zpl_meaning.specs.of_zpl_names.Ranks.{is_index}
use Rattle.zpl_meaning.specs.of_zpl_binding.Outcome.{Outcome, value_or}
use Rattle.zpl_meaning.specs.of_zpl_binding.Outcome as bound
use Rattle.zpl_meaning.specs.of_zpl_binding.Regions.{Known, region_over, limited, behind, before, no_region, region_named}
use Rattle.zpl_meaning.specs.Store.{Thing, Scalar, ArrayAt, Fixed, Environment, thing_of}
use Rattle.zpl_meaning.specs.Regions.{vector_in}
use Rattle.text_sharing.specs.of_node_form.Expression.{Expression, Constant, words_of}
use Rattle.text_sharing.specs.of_node_form.declared.instructions.RegionForm.{RegionForm}
use Rattle.text_sharing.specs.of_node_form.declared.instructions.RegionForm.TheVariants as form
use Rattle.text_sharing.specs.of_node_form.declared.instructions.Instr.TheVariants as instr
use Rattle.text_sharing.specs.of_flat_form.Row as row
use Rattle.text_sharing.specs.of_flat_form.Row.{Row, Part}
use Rattle.zpl_lowering.specs.Where.{Slotted, Where, flood_of}
use Rattle.zpl_lowering.specs.Words.{scalar_code}

-- ---- brackets that are known before the run

abbrev pub fixed_value : Option Thing → Option ℤ
fixed_value (Some (Fixed value)) = Some value
fixed_value thing = None

abbrev pub both : {A : Type 0} → Option ℤ → Option ℤ → (ℤ → ℤ → Option A) → Option A
both left right next =
    option_and_then (λ a. option_and_then (λ b. next a b) right) left

-- The value of numbers, configs and constants; there is none of a variable, and none where a
-- divisor is 0.
abbrev pub constant_of : Environment → Expr → Option ℤ
constant_of environment (Number at value) = Some value
constant_of environment (Truth at value) = Some (truth value)
constant_of environment (Named at name) = fixed_value (thing_of environment name.text)
constant_of environment (Paren at inside) = constant_of environment inside
constant_of environment (Neg at operand) = option_map negated (constant_of environment operand)
constant_of environment (Not at operand) = option_map denied (constant_of environment operand)
constant_of environment (Abs at operand) = option_map absolute (constant_of environment operand)
constant_of environment (Pair at op left right) =
    both (constant_of environment left) (constant_of environment right) (λ a b. applied op a b)
constant_of environment (Coord at k) = None
constant_of environment (Shifted at name shift) = None
constant_of environment (Around at name shift) = None
constant_of environment (Remap at name indices) = None
constant_of environment (Call at name actuals) = None
constant_of environment (Reduce at operator over operand) = None
constant_of environment (Scan at operator along operand) = None
constant_of environment (Flood at source operand) = None

abbrev pub constant_dim : Environment → DimText → Option Dim
constant_dim environment (Blank at) = None
constant_dim environment (Star at) = Some dim.Flood
constant_dim environment (One index) =
    option_map (λ value. all_from value value) (constant_of environment index)
constant_dim environment (Span low high) =
    both (constant_of environment low) (constant_of environment high) (λ a b. Some (all_from a b))

abbrev pub constant_dims : Environment → DimTexts → Option (List Dim)
constant_dims environment NoDim = Some []
constant_dims environment (ThenDim first rest) =
    option_and_then (λ dim. option_map (λ dims. dim ∷ dims) (constant_dims environment rest))
    (constant_dim environment first)

-- a region that passes no limit on the way
abbrev pub within : Outcome Region → Option Region
within (bound.Gives region) = Some region
within (bound.Fails fault) = None

abbrev pub constant_span : Environment → DimTexts → Option Region
constant_span environment dims =
    option_and_then (λ all. within (limited (region_over all))) (constant_dims environment dims)

abbrev pub constant_name : Bool → Environment → Known → List Pre → Name → Posts → Option Region
constant_name true environment known pre name post =
    constant_span environment (ThenDim (One (Named name.at name)) NoDim)
constant_name false environment known pre name post =
    within (before known pre (behind known (region_named known name) post))

abbrev pub constant_region : Where → Inner → Option Region
constant_region w (Rexpr pre (NamedRegion name) post) =
    constant_name (is_index w.scope pre name post) w.environment w.setup.known pre name post
constant_region w (Rexpr pre (Ditto at) post) = None
constant_region w (Dims dims) = constant_span w.environment dims

-- ---- slots of declared regions: each has one, in the order of the text

abbrev pub region_slot : Known → Name → ℕ
region_slot known name =
    slot_or (position (λ one. bytes_eq one.name name.text) known.regions)
  where
    slot_or : Option ℕ → ℕ
    slot_or None = 0
    slot_or (Some slot) = slot

-- ---- brackets

-- rows that fill slots of their own, with their ranks, and where the region is then
pub record Opened : Type 0 where
  pub rows : List Row
  pub slots : List ℕ
  pub slot : ℕ
  pub flood : List Bool

-- there is a slot with the region already
abbrev pub standing : ℕ → List Bool → Opened
standing slot flood = record { rows = []; slots = []; slot = slot; flood = flood }

-- one row fills the next slot
abbrev pub filled : ℕ → List Bool → Row → Opened
filled next flood row =
    record { rows = row ∷ []; slots = length flood ∷ []; slot = next; flood = flood }

-- bounds
abbrev pub part_of : Where → ℕ → DimText → Part
part_of w current (Blank at) = row.Copied current
part_of w current (Star at) = row.Star
part_of w current (One index) =
    row.Span (words_of (scalar_code w index)) (words_of (scalar_code w index))
part_of w current (Span low high) =
    row.Span (words_of (scalar_code w low)) (words_of (scalar_code w high))

abbrev pub parts_of : Where → ℕ → DimTexts → List Part
parts_of w current NoDim = []
parts_of w current (ThenDim first rest) = part_of w current first ∷ parts_of w current rest

-- a blank is flood where the current region is
abbrev pub dim_flood : Slotted → ℕ → DimText → Bool
dim_flood current k (Blank at) = get_or current.flood k false
dim_flood current k (Star at) = true
dim_flood current k (One index) = false
dim_flood current k (Span low high) = false

abbrev pub dims_flood : Slotted → ℕ → DimTexts → List Bool
dims_flood current k NoDim = []
dims_flood current k (ThenDim first rest) =
    dim_flood current k first ∷ dims_flood current (suc k) rest

-- past the rank a part is a flood dimension
abbrev pub three_parts : ℕ → List Part → List Part
three_parts zero parts = []
three_parts (suc count) [] = row.Star ∷ three_parts count []
three_parts (suc count) (part ∷ parts) = part ∷ three_parts count parts

abbrev pub spanned : Where → ℕ → ℕ → Slotted → DimTexts → Opened
spanned w next line current dims =
    filled next (dims_flood current 0 dims)
    (row.Dims next (three_parts 3 (parts_of w current.slot dims)) line)

-- forms, from the one next to the region on: `at` and `by` first, and of `of` and `in` the last
pub record Form : Type 0 where
  pub form : RegionForm
  pub shift : List ℤ

abbrev pub post_form : Bool → RegionForm
post_form true = form.By
post_form false = form.At

abbrev pub pre_form : Bool → RegionForm
pre_form true = form.Of
pre_form false = form.Inside

abbrev pub post_forms : Known → Posts → List Form
post_forms known NoPost = []
post_forms known (ThenPost stride dir rest) =
    record { form = post_form stride; shift = vector_in known dir } ∷ post_forms known rest

abbrev pub pre_forms : Known → List Pre → List Form
pre_forms known [] = []
pre_forms known (pre ∷ rest) =
    pre_forms known rest
    ++ record { form = pre_form pre.outside; shift = vector_in known (NamedDir pre.dir) } ∷ []

abbrev pub forms_of : Known → List Pre → Posts → List Form
forms_of known pre post = post_forms known post ++ pre_forms known pre

-- each fills a slot more
abbrev pub formed : ℕ → ℕ → List Form → Opened → Opened
formed next line [] opened = opened
formed next line (one ∷ rest) opened =
    formed (suc next) line rest
    (record {
      rows = opened.rows ++ row.Plain (instr.Formed one.form next opened.slot one.shift line) ∷ [];
      slots = opened.slots ++ length opened.flood ∷ [];
      slot = next;
      flood = opened.flood;
    })

abbrev pub named_region : Known → Name → Opened
named_region known name =
    standing (region_slot known name) (flood_of (value_or no_region (region_named known name)))

abbrev pub name_opened : Bool → Where → ℕ → ℕ → Slotted → List Pre → Name → Posts → Opened
name_opened true w next line current pre name post =
    spanned w next line current (ThenDim (One (Named name.at name)) NoDim)
name_opened false w next line current pre name post =
    formed next line (forms_of w.setup.known pre post) (named_region w.setup.known name)

-- rows that compute it at its place
abbrev pub computed : Where → ℕ → ℕ → Slotted → Inner → Opened
computed w next line current (Rexpr pre (NamedRegion name) post) =
    name_opened (is_index w.scope pre name post) w next line current pre name post
computed w next line current (Rexpr pre (Ditto at) post) =
    formed next line (forms_of w.setup.known pre post) (standing current.slot current.flood)
computed w next line current (Dims dims) = spanned w next line current dims

-- a region that is known is one row, unless there is a slot with it already
abbrev pub one_row : List Row → Opened → Opened → Opened
one_row [] opened fixed = opened
one_row (row ∷ rows) opened fixed = fixed

abbrev pub fixed_or : Option Region → ℕ → Opened → Opened
fixed_or None next opened = opened
fixed_or (Some region) next opened =
    one_row opened.rows opened (filled next (flood_of region) (row.Plain (instr.Fix next region)))

-- A bracket, where this is the current region of its rank, with the free slot and the line.
abbrev pub bracket : Where → ℕ → ℕ → Slotted → Inner → Opened
bracket w next line current inner =
    fixed_or (constant_region w inner) next (computed w next line current inner)
