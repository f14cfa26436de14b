-- The slots of current regions are below what is free.
use Rattle.std.proofs.Common.{◌≡◌, ℕ, zero, suc, ◌+◌, ◌<◌, ◌≤◌, Bool, true, false, if◌then◌else◌, List, [], ◌∷◌, ◌++◌, length, refl, subst, arith, length-append}
use Rattle.std.specs.Prelude.{Option, Some, None, option_map, IsSome}
use Rattle.zpl_region.specs.declared.regions.Region.{Region}
use Rattle.zpl_tree.specs.Syntax.{Name, NamedRegion, Ditto, Inner, Rexpr, Dims, Prefix}
use Rattle.zpl_names.specs.Kinds.{Rank}
use Rattle.zpl_names.specs.Scope.{Scope, kind_of}
use Rattle.zpl_names.specs.Ranks.{region_shape, inner_rank, is_index, mask_rank}
use Rattle.zpl_binding.specs.Regions.{Known}
use Rattle.zpl_meaning.specs.Context.{Over, Currents, with_over, Edge}
use Rattle.zpl_meaning.specs.Proper.{HasCurrent, IsArrayRank, IsProperPrefix, IsProperRegion}
use Rattle.meaning_ranks.specs.Ranked.{IsRankedPrefix, IsRegionOf}
use Rattle.lowering_fits.specs.of_flat_form.Row.{Row}
use Rattle.lowering_fits.specs.of_flat_form.Row as row
use Rattle.node_form.specs.declared.instructions.Instr.TheVariants as instr
use Rattle.lowering_fits.specs.of_zpl_lowering.Where.{Slotted, SlotCurrents, slotted_or, slotted_at, with_slotted, Where}
use Rattle.lowering_fits.specs.of_zpl_lowering.Bracket.{Opened, Form, standing, formed, named_region, name_opened, forms_of, computed, one_row, fixed_or, constant_region, bracket, region_slot}
use Rattle.lowering_fits.specs.of_zpl_lowering.Statement.{prefix_opened, current_for}
use Rattle.lowering_fits.specs.Reach.{place_at}

-- ---- current regions

abbrev pub IsHeld : ℕ → Option Over → Option Slotted → Type 0
IsHeld n None slotted = Unit {0}
IsHeld n (Some over) slotted = (slotted_or slotted).slot < n

-- where the meaning has one of a rank, its slot is below
pub record AreHeld (n : ℕ) (currents : Currents) (slots : SlotCurrents) : Type 0 where
  pub one : IsHeld n currents.one slots.one
  pub two : IsHeld n currents.two slots.two
  pub three : IsHeld n currents.three slots.three

there_held : (n : ℕ) (over : Option Over) (slotted : Option Slotted) → IsSome over →
    IsHeld n over slotted → (slotted_or slotted).slot < n
there_held n None slotted is held = let no : ⊥ = cc in absurd no
there_held n (Some over) slotted is held = held

pub held_at : (n : ℕ) (currents : Currents) (slots : SlotCurrents) (rank : Rank) →
    AreHeld n currents slots → HasCurrent currents rank → (slotted_at slots rank).slot < n
held_at n currents slots None held has = absurd has
held_at n currents slots (Some zero) held has = absurd has
held_at n currents slots (Some (suc zero)) held has =
    there_held n currents.one slots.one has held.one
held_at n currents slots (Some (suc (suc zero))) held has =
    there_held n currents.two slots.two has held.two
held_at n currents slots (Some (suc (suc (suc zero)))) held has =
    there_held n currents.three slots.three has held.three
held_at n currents slots (Some (suc (suc (suc (suc rank))))) held has = absurd has

one_more : (n m : ℕ) (over : Option Over) (slotted : Option Slotted) → n ≤ m →
    IsHeld n over slotted → IsHeld m over slotted
one_more n m None slotted less held = tt
one_more n m (Some over) slotted less held = omega (arith, less, held)

pub held_more : (n m : ℕ) (currents : Currents) (slots : SlotCurrents) → n ≤ m →
    AreHeld n currents slots → AreHeld m currents slots
held_more n m currents slots less held = record {
  one = one_more n m currents.one slots.one less held.one;
  two = one_more n m currents.two slots.two less held.two;
  three = one_more n m currents.three slots.three less held.three;
}

pub held_with : (n : ℕ) (currents : Currents) (slots : SlotCurrents) (rank : Rank) (over : Over)
    (slotted : Slotted) → AreHeld n currents slots → slotted.slot < n →
    AreHeld n (with_over currents rank over) (with_slotted slots rank slotted)
held_with n currents slots None over slotted held below = held
held_with n currents slots (Some zero) over slotted held below = held
held_with n currents slots (Some (suc zero)) over slotted held below =
    record { one = below; two = held.two; three = held.three }
held_with n currents slots (Some (suc (suc zero))) over slotted held below =
    record { one = held.one; two = below; three = held.three }
held_with n currents slots (Some (suc (suc (suc zero)))) over slotted held below =
    record { one = held.one; two = held.two; three = below }
held_with n currents slots (Some (suc (suc (suc (suc rank))))) over slotted held below = held

-- ---- brackets

-- the region is in a slot that was there, or in one of its own
abbrev IsOwn : ℕ → Opened → Type 0
IsOwn n opened = opened.slot < n + length opened.slots

formed_own : (n next line : ℕ) (forms : List Form) (opened : Opened) →
    next ≡ n + length opened.slots → IsOwn n opened → IsOwn n (formed next line forms opened)
formed_own n next line [] opened same own = own
formed_own n next line (one ∷ rest) opened same own =
    let many = length-append opened.slots (length opened.flood ∷ []) in
    formed_own n (suc next) line rest
    (record {
      rows = opened.rows
          ++ row.Plain (instr.Formed one.form next opened.slot one.shift line) ∷ [];
      slots = opened.slots ++ length opened.flood ∷ [];
      slot = next;
      flood = opened.flood;
    }) (omega (arith, same, many)) (omega (arith, same, many))

-- what a bracket stands on has a slot
abbrev StandsOn : Where → ℕ → Slotted → Inner → Type 0
StandsOn w n current (Rexpr pre (NamedRegion name) post) =
    is_index w.scope pre name post ≡ false → region_slot w.setup.known name < n
StandsOn w n current (Rexpr pre (Ditto at) post) = current.slot < n
StandsOn w n current (Dims dims) = Unit {0}

computed_own : (w : Where) (n line : ℕ) (current : Slotted) (inner : Inner) →
    StandsOn w n current inner → IsOwn n (computed w n line current inner)
computed_own w n line current (Rexpr pre (NamedRegion name) post) stands =
    by (is_index w.scope pre name post) stands
  where
    by : (b : Bool) → (b ≡ false → region_slot w.setup.known name < n) →
        IsOwn n (name_opened b w n line current pre name post)
    by true below = omega arith
    by false below =
        let slot = below refl in
        formed_own n n line (forms_of w.setup.known pre post) (named_region w.setup.known name)
        (omega arith) (omega (arith, slot))
computed_own w n line current (Rexpr pre (Ditto at) post) stands =
    formed_own n n line (forms_of w.setup.known pre post) (standing current.slot current.flood)
    (omega arith) (omega (arith, stands))
computed_own w n line current (Dims dims) stands = omega arith

one_own : (n : ℕ) (rows : List Row) (opened fixed : Opened) → IsOwn n opened → IsOwn n fixed →
    IsOwn n (one_row rows opened fixed)
one_own n [] opened fixed first rest = first
one_own n (one ∷ rows) opened fixed first rest = rest

bracket_own : (w : Where) (n line : ℕ) (current : Slotted) (inner : Inner) →
    StandsOn w n current inner → IsOwn n (bracket w n line current inner)
bracket_own w n line current inner stands =
    by (constant_region w inner) (computed w n line current inner)
    (computed_own w n line current inner stands)
  where
    by : (found : Option Region) (opened : Opened) → IsOwn n opened →
        IsOwn n (fixed_or found n opened)
    by None opened own = own
    by (Some region) opened own = one_own n opened.rows opened _ own (omega arith)

prefix_own : (b : Bool) (w : Where) (n line : ℕ) (current : Slotted) (inner : Inner) →
    StandsOn w n current inner → IsOwn n (prefix_opened b w n line current inner)
prefix_own true w n line current inner stands = computed_own w n line current inner stands
prefix_own false w n line current inner stands = bracket_own w n line current inner stands

-- ---- declared regions

-- each that is in reach has a slot below
abbrev pub HasRegions : ℕ → Known → Scope → Type 0
HasRegions n known scope =
    (rank : ℕ) (name : Name) →
    option_map length (region_shape (kind_of scope name)) ≡ Some rank → region_slot known name < n

array_rank_is : (rank : Rank) → IsArrayRank rank → (k : ℕ) × (rank ≡ Some k)
array_rank_is None is = absurd is
array_rank_is (Some k) is = (k, refl)

stands_on : (n : ℕ) (w : Where) (result : ℕ) (currents : Currents) (edge : Option Edge)
    (hint : Rank) (inner : Inner) → HasRegions n w.setup.known w.scope →
    AreHeld n currents w.currents →
    IsProperRegion (place_at w result currents edge) hint inner →
    IsRegionOf (place_at w result currents edge) hint inner →
    StandsOn w n (slotted_at w.currents (inner_rank w.scope hint w.prefix inner)) inner
stands_on n w result currents edge hint (Rexpr pre (NamedRegion name) post) regions held proper
    ranked = λ not_index.
    let rank : Rank = option_map length (region_shape (kind_of w.scope name)) in
    let is : IsArrayRank rank =
    subst (λ b. IsArrayRank (if b then Some 1 else rank)) not_index ranked.0 in
    let found = array_rank_is rank is in
    regions found.0 name found.1
stands_on n w result currents edge hint (Rexpr pre (Ditto at) post) regions held proper ranked =
    held_at n currents w.currents (inner_rank w.scope hint w.prefix (Rexpr pre (Ditto at) post)) held
    proper
stands_on n w result currents edge hint (Dims dims) regions held proper ranked = tt

pub opened_below : (b : Bool) (n line : ℕ) (w : Where) (result : ℕ) (currents : Currents)
    (edge : Option Edge) (prefix : Prefix) → HasRegions n w.setup.known w.scope →
    AreHeld n currents w.currents → IsProperPrefix (place_at w result currents edge) prefix →
    IsRankedPrefix (place_at w result currents edge) prefix →
    (let opened = prefix_opened b w n line (current_for w prefix) prefix.region in
    opened.slot < n + length opened.slots)
opened_below b n line w result currents edge prefix regions held proper ranked =
    prefix_own b w n line (current_for w prefix) prefix.region
    (stands_on n w result currents edge (mask_rank w.scope prefix.mask) prefix.region regions held
    proper.0 ranked.0)
