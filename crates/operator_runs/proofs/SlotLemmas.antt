-- The slot in which a bracket's region is: that of a declared region or of the current one, or one that
-- was free. So it is none of a list that misses these.
use Rattle.std.proofs.Common.{◌≡◌, refl, ap, subst, arith, ℕ, zero, suc, ◌+◌, ◌≤◌, ◌<◌, Bool, true, false, List, [], ◌∷◌, ◌++◌, length, Option, Some, None}
use Rattle.std.proofs.lemmas.List.{length-append}
use Rattle.zpl_region.specs.declared.regions.Region.{Region}
use Rattle.zpl_tree.specs.Syntax.{Name, Pre, NamedRegion, Ditto, Inner, Rexpr, Dims, Posts}
use Rattle.zpl_names.specs.Kinds.{Rank}
use Rattle.zpl_names.specs.Ranks.{is_index}
use Rattle.zpl_meaning.specs.Context.{Place}
use Rattle.zpl_meaning.specs.Proper.{HasCurrent}
use Rattle.node_form.specs.declared.instructions.Instr.TheVariants as instr
use Rattle.flat_form.specs.Row as row
use Rattle.flat_form.specs.Row.{Row}
use Rattle.flat_form.specs.Whole.{Whole}
use Rattle.print_runs.specs.of_zpl_lowering.Where.{SlotCurrents, Slotted, Where, flood_of, slotted_at, slotted_or}
use Rattle.print_runs.specs.of_zpl_lowering.Bracket as low
use Rattle.print_runs.specs.of_zpl_lowering.Bracket.{Form, Opened, bracket, computed, constant_region, fixed_or, formed, forms_of, name_opened, named_region, one_row, region_slot, standing}
use Rattle.print_runs.specs.of_lowering_runs.Seen.{seen_currents}
use Rattle.print_runs.specs.of_lowering_runs.Stands.{Misses}
use Rattle.call_runs.specs.of_prefix_runs.Opens.{Opens, OpensName}
use Rattle.call_runs.proofs.of_prefix_runs.FillLemmas.{formed_many, region_below}
use Rattle.operator_runs.specs.Copies.{AreMissed, IsMissed}

-- ---- forms

formed_missed : (own : List ℕ) (forms : List Form) (first slot line : ℕ) (opened : Opened)
    → slot ≡ first + length opened.slots → Misses own opened.slot
    → ((k : ℕ) → first ≤ k → k < first + length (formed slot line forms opened).slots
    → Misses own k)
    → Misses own (formed slot line forms opened).slot
formed_missed own [] first slot line opened e m free = m
formed_missed own (one ∷ forms) first slot line opened e m free =
    let l = length-append opened.slots (length opened.flood ∷ []) in
    let many = formed_many forms (suc slot) line
    (record {
      rows = opened.rows ++ row.Plain (instr.Formed one.form slot opened.slot one.shift line) ∷ [];
      slots = opened.slots ++ length opened.flood ∷ [];
      slot = slot;
      flood = opened.flood;
    }) in
    formed_missed own forms first (suc slot) line _ (omega (arith, e, l))
    (free slot (omega (arith, e)) (omega (arith, e, l, many))) free

-- ---- brackets

module _ (own : List ℕ) (w : Where) (place : Place) (same : place.setup ≡ w.setup)
    (scoped : place.scope ≡ w.scope)
    (next line rank : ℕ) (current : Slotted)
    (here : HasCurrent place.currents (Some rank) → Misses own current.slot)
    (declared : (k : ℕ) → k < length w.setup.known.regions → Misses own k) where
  abbrev IsFree : Opened → Type 0
  IsFree opened = (k : ℕ) → next ≤ k → k < next + length opened.slots → Misses own k

  forms_missed : (pre : List Pre) (post : Posts) (base : Opened) → base.slots ≡ []
      → Misses own base.slot → IsFree (formed next line (forms_of w.setup.known pre post) base)
      → Misses own (formed next line (forms_of w.setup.known pre post) base).slot
  forms_missed pre post base none m free =
      formed_missed own (forms_of w.setup.known pre post) next next line base
      (omega (arith, ap (λ (xs : List ℕ). length xs) none)) m free

  name_missed : (index : Bool) (pre : List Pre) (name : Name) (post : Posts)
      → OpensName index place rank pre name post
      → IsFree (name_opened index w next line current pre name post)
      → Misses own (name_opened index w next line current pre name post).slot
  name_missed true pre name post h free = free next (omega arith) (omega arith)
  name_missed false pre name post h free =
      forms_missed pre post (named_region w.setup.known name) refl
      (declared (region_slot w.setup.known name)
      (subst (λ s. region_slot s.known name < length s.known.regions) same
      (region_below place.setup.known.regions (region_slot place.setup.known name) h.0.one
      h.0.in_slot))) free

  computed_missed : (inner : Inner) → Opens place rank inner
      → IsFree (computed w next line current inner)
      → Misses own (computed w next line current inner).slot
  computed_missed (Rexpr pre (NamedRegion name) post) h free =
      name_missed (is_index w.scope pre name post) pre name post
      (subst (λ scope. OpensName (is_index scope pre name post) place rank pre name post) scoped h) free
  computed_missed (Rexpr pre (Ditto at) post) h free =
      forms_missed pre post (standing current.slot current.flood) refl (here h.0) free
  computed_missed (Dims dims) h free = free next (omega arith) (omega arith)

  fixed_missed : (region : Region) (rows : List Row) (opened : Opened)
      → (IsFree opened → Misses own opened.slot)
      → IsFree (one_row rows opened
      (low.filled next (flood_of region) (row.Plain (instr.Fix next region))))
      → Misses own (one_row rows opened
      (low.filled next (flood_of region) (row.Plain (instr.Fix next region)))).slot
  fixed_missed region [] opened h free = h free
  fixed_missed region (one ∷ rows) opened h free = free next (omega arith) (omega arith)

  fixed_or_missed : (o : Option Region) (opened : Opened) → (IsFree opened → Misses own opened.slot)
      → IsFree (fixed_or o next opened) → Misses own (fixed_or o next opened).slot
  fixed_or_missed None opened h free = h free
  fixed_or_missed (Some region) opened h free = fixed_missed region opened.rows opened h free

  pub bracket_missed : (inner : Inner) → Opens place rank inner
      → IsFree (bracket w next line current inner)
      → Misses own (bracket w next line current inner).slot
  bracket_missed inner h free =
      fixed_or_missed (constant_region w inner) (computed w next line current inner)
      (computed_missed inner h) free

-- ---- current regions

slot_missed : (own : List ℕ) (whole : Whole) (o : Option Slotted) → IsMissed own o
    → HasCurrent (seen_currents whole (record { one = o; two = None; three = None })) (Some 1)
    → Misses own (slotted_or o).slot
slot_missed own whole None m h = absurd (let bad : false ≡ true = h in cc)
slot_missed own whole (Some one) m h = m

-- a current region that there is
pub missed_at : (own : List ℕ) (currents : SlotCurrents) (whole : Whole) (rank : Rank)
    → AreMissed own currents → HasCurrent (seen_currents whole currents) rank
    → Misses own (slotted_at currents rank).slot
missed_at own currents whole (Some (suc zero)) t h = slot_missed own whole currents.one t.one h
missed_at own currents whole (Some (suc (suc zero))) t h = slot_missed own whole currents.two t.two h
missed_at own currents whole (Some (suc (suc (suc zero)))) t h =
    slot_missed own whole currents.three t.three h
missed_at own currents whole (Some zero) t h = absurd h
missed_at own currents whole (Some (suc (suc (suc (suc k))))) t h = absurd h
missed_at own currents whole None t h = absurd h
