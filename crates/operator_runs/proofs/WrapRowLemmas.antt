-- The rows that fill the copy of a read that wraps round: the home box comes into a slot, the array's
-- values into the copy over it, and each border of the copy is wrapped.
use Rattle.std.proofs.Common.{◌≡◌, refl, sym, ◌∙◌, ap, subst, arith, ℕ, suc, ◌+◌, ◌*◌, ◌<◌, true}
use Rattle.std.proofs.Common.{List, [], ◌∷◌, length, map, ℤ, neg_ℤ, All, Some, inl, inr}
use Rattle.std.specs.Prelude.{slice_get}
use Rattle.zpl_nums.specs.declared.ends.Border.TheVariants.{Wrap}
use Rattle.zpl_nums.specs.Integer.{IsInteger}
use Rattle.zpl_region.specs.declared.regions.Region.{Region}
use Rattle.zpl_region.specs.Dim.{HasStep}
use Rattle.zpl_region.specs.Region.{outside_of}
use Rattle.zpl_region.specs.Tests.{is_within_limit}
use Rattle.zpl_region.proofs.ListLemmas.{Among}
use Rattle.zpl_arrays.specs.Around.{copy_shift, copy_storage}
use Rattle.zpl_arrays.specs.Array.{Array, IsArray, element}
use Rattle.zpl_arrays.specs.Border.{border_conforms, border_source, border_sources}
use Rattle.zpl_arrays.specs.Reference.{lies_in}
use Rattle.zpl_arrays.proofs.ArrayLemmas.{array_of_is_array}
use Rattle.zpl_meaning.specs.Fields.{everywhere}
use Rattle.node_form.specs.declared.instructions.Instr.TheVariants as instr
use Rattle.node_form.specs.declared.instructions.RegionForm.TheVariants as form
use Rattle.node_form.specs.declared.tables.Tables.{Tables}
use Rattle.row_runs.specs.Run.{Goes}
use Rattle.row_runs.specs.Straight.{Every}
use Rattle.row_runs.specs.Structured as code
use Rattle.row_runs.specs.Structured.{Course, by_step, rows_do}
use Rattle.flat_form.specs.Row as row
use Rattle.flat_form.specs.Row.{Row}
use Rattle.flat_form.specs.Whole.{Whole}
use Rattle.normal_runs.proofs.PlaceLemmas.{set_there}
use Rattle.print_runs.specs.of_zpl_lowering.Where.{Stored, Where}
use Rattle.print_runs.specs.of_zpl_lowering.Hoist.{border_rows}
use Rattle.print_runs.specs.of_lowering_runs.Run.{decide, step}
use Rattle.print_runs.specs.of_lowering_runs.Seen.{Spot}
use Rattle.print_runs.specs.of_lowering_runs.Stands.{IsSound, Misses}
use Rattle.print_runs.proofs.of_lowering_runs.NumberLemmas.{get_other}
use Rattle.print_runs.specs.of_array_puts.Put.{with_array_in}
use Rattle.print_runs.specs.of_array_runs.Reads.{EachCovers, EachMatches}
use Rattle.print_runs.proofs.of_array_runs.IntegerLemmas.{element_integer, made_integers}
use Rattle.print_runs.proofs.of_array_runs.StoredLemmas.{IsFound, found_array}
use Rattle.call_runs.proofs.of_prefix_runs.ShapedLemmas.{filled, form_step, limit_step}
use Rattle.border_runs.proofs.EdgeLemmas.{edge_step}
use Rattle.operator_runs.specs.Hoists.{Own, Spares, Unused}
use Rattle.operator_runs.specs.Copies.{IsCopy}
use Rattle.operator_runs.proofs.SpareLemmas.{IsFreer, spares_all, spares_copy, spares_slot, spares_then}
use Rattle.operator_runs.proofs.WrapCopyLemmas.{all_bordered, bordered}

-- ---- what is asked of a border, so that its rows may stand

pub record IsBordering (home : Region) (d v : List ℤ) : Type 0 where
  pub conforms : border_conforms v home ≡ true
  pub limit : is_within_limit (outside_of v home) ≡ true
  pub steps : All HasStep (outside_of v home).dims
  pub three : length (outside_of v home).dims ≡ 3
  pub matching : EachMatches (copy_storage home d).dims (outside_of v home).dims
  pub lies : lies_in (outside_of v home) (copy_storage home d) ≡ true
  pub own_limit : is_within_limit (border_sources Wrap home v) ≡ true
  pub own_steps : All HasStep (border_sources Wrap home v).dims
  pub own_three : length (border_sources Wrap home v).dims ≡ 3
  pub covers : EachCovers (copy_storage home d).dims (border_sources Wrap home v).dims
  pub own_lies : lies_in (border_sources Wrap home v) (copy_storage home d) ≡ true

module _ (tables : Tables) (n : ℕ) (spots : List Spot) (w : Where) (line : ℕ) (own : Own)
    (home : Region) (d : List ℤ) (copy first : ℕ) (free : Unused)
    (is_copy : IsCopy tables w own free.copies home (copy_shift home d) copy first) where
  abbrev Spared : Whole → Whole → Type 0
  Spared = Spares tables spots w.numbers.arrays own free

  abbrev rows : List Row → Whole → Course Whole
  rows = rows_do (step tables n) (decide tables n)

  abbrev pub copy_stored : Stored
  copy_stored = record { array = copy; storage = copy_storage home d }

  -- ---- the copy in a state

  pub copy_found : (state : Whole) → IsSound tables state
      → IsFound tables [] (copy_stored ∷ []) state 0 copy_stored
  copy_found state sound =
      found_array tables [] (copy_stored ∷ []) state 0 copy_stored sound.filled (is_copy.stored, tt) refl

  same_array : (one other : Array) → Some one ≡ Some other → one ≡ other
  same_array one other e = cc

  same_free : IsFreer free free
  same_free = record { scalars = omega arith; copies = omega arith; temps = omega arith }

  -- with other values
  pub copy_spared : (state : Whole) → IsSound tables state → (new : Array)
      → new.storage ≡ copy_storage home d → IsArray new → Every IsInteger new.values
      → Spared state (with_array_in state copy new)
  copy_spared state sound new storage is integers =
      let f = copy_found state sound in
      spares_copy tables spots w.numbers.arrays own state sound copy f.row f.in_tables new
      (record { filled = is.filled; placed = λ h. storage ∙ sym f.storage_row }) free
      (let e = is_copy.numbered in omega (arith, e)) is_copy.below is_copy.apart integers

  -- a slot of its own, with a region
  pub slot_spared : (state : Whole) → IsSound tables state → (k : ℕ)
      → (Misses own.slots k → ⊥) → (region : Region) → Spared state (filled state k region)
  slot_spared state sound k owned region =
      spares_slot tables spots w.numbers.arrays own free state sound k owned region

  then_spared : (before mid after : Whole) → Spared before mid → Spared mid after
      → Spared before after
  then_spared before mid after s t =
      spares_then tables spots w.numbers.arrays own free free before mid after same_free s t

  -- ---- borders

  pub record AreBordered (vs : List (List ℤ)) (next : ℕ) (c : Array) (state : Whole) : Type 0 where
    pub end : Whole
    pub does : rows (border_rows line copy first next vs) state ≡ code.goes_on end
    pub spared : Spared state end
    pub there : slice_get end.stores copy ≡ Some (all_bordered home c vs)

  module _ (next : ℕ) (after_first : first < next) (state : Whole) (sound : IsSound tables state)
      (has : slice_get state.slots first ≡ Some home) (c : Array)
      (held : slice_get state.stores copy ≡ Some c) (storage : c.storage ≡ copy_storage home d)
      (integers : Every IsInteger c.values) (v : List ℤ) (b : IsBordering home d v)
      (one_own : Misses own.slots next → ⊥) (two_own : Misses own.slots (suc next) → ⊥) where
    abbrev one_filled : Whole
    one_filled = filled state next (outside_of v home)

    abbrev two_filled : Whole
    two_filled = filled one_filled (suc next) (border_sources Wrap home v)

    abbrev pub wrapped : Whole
    wrapped = with_array_in two_filled copy (bordered home c v)

    sp_one : Spared state one_filled
    sp_one = slot_spared state sound next one_own (outside_of v home)

    sp_two : Spared one_filled two_filled
    sp_two = slot_spared one_filled sp_one.sound (suc next) two_own (border_sources Wrap home v)

    has_one : slice_get one_filled.slots first ≡ Some home
    has_one =
        get_other state.slots next first (outside_of v home) (λ e. absurd (omega (arith, e, after_first)))
        ∙ has

    has_two : slice_get two_filled.slots first ≡ Some home
    has_two =
        get_other one_filled.slots (suc next) first (border_sources Wrap home v)
        (λ e. absurd (omega (arith, e, after_first)))
        ∙ has_one

    f : IsFound tables [] (copy_stored ∷ []) two_filled 0 copy_stored
    f = copy_found two_filled sp_two.sound

    array_is : f.array ≡ c
    array_is = same_array f.array c (sym f.in_stores ∙ held)

    is_array : IsArray c
    is_array = subst (λ (a : Array). IsArray a) array_is f.is

    pub wrapped_is : IsArray (bordered home c v)
    wrapped_is = array_of_is_array c.storage _ is_array.steps

    pub wrapped_integers : Every IsInteger (bordered home c v).values
    wrapped_integers =
        made_integers c (outside_of v home) everywhere (λ t. element c (border_source Wrap home v t))
        integers (λ t. element_integer c integers (border_source Wrap home v t))

    sp_copy : Spared two_filled wrapped
    sp_copy =
        copy_spared two_filled sp_two.sound (bordered home c v) storage wrapped_is wrapped_integers

    pub border_spared : Spared state wrapped
    border_spared =
        then_spared state two_filled wrapped (then_spared state one_filled two_filled sp_one sp_two)
        sp_copy

    pub still_home : slice_get wrapped.slots first ≡ Some home
    still_home = has_two

    pub wrapped_there : slice_get wrapped.stores copy ≡ Some (bordered home c v)
    wrapped_there = set_there two_filled.stores copy (bordered home c v) c held

    pub border_does : (rest : List Row)
        → rows (row.Plain (instr.Formed form.Of next first v line)
        ∷ row.Plain (instr.Formed form.Inside (suc next) first (map neg_ℤ v) line)
        ∷ row.Plain (instr.Edge Wrap copy first v) ∷ rest) state
        ≡ rows rest wrapped
    border_does rest =
        let last = row.Plain (instr.Edge Wrap copy first v) ∷ rest in
        ap (λ x. by_step state x (rows (row.Plain (instr.Formed form.Inside (suc next) first
        (map neg_ℤ v) line) ∷ last)))
        (form_step tables n state sound.settled (record { form = form.Of; shift = v }) next first line
        home has
        ∙ ap (limit_step state next line (outside_of v home)) b.limit)
        ∙ ap (λ x. by_step one_filled x (rows last))
        (form_step tables n one_filled sp_one.sound.settled
        (record { form = form.Inside; shift = map neg_ℤ v }) (suc next) first line home has_one
        ∙ ap (limit_step one_filled (suc next) line (border_sources Wrap home v)) b.own_limit)
        ∙ ap (λ x. by_step two_filled x (rows rest))
        (edge_step tables n [] (copy_stored ∷ []) two_filled sp_two.sound.settled 0 copy_stored f Wrap
        first v home has_two b.conforms b.steps b.three b.matching
        (ap (lies_in (outside_of v home)) f.storage ∙ b.lies) b.own_steps b.own_three b.covers
        (ap (lies_in (border_sources Wrap home v)) f.storage ∙ b.own_lies)
        ∙ ap (λ (a : Array). Goes [] (with_array_in two_filled copy (bordered home a v))) array_is)

  pub borders_do : (vs : List (List ℤ))
      → ((v : List ℤ) → Among vs v → IsBordering home d v) → (next : ℕ) → first < next
      → ((k : ℕ) → k < 2 * length vs → Misses own.slots (next + k) → ⊥) → (state : Whole)
      → IsSound tables state → slice_get state.slots first ≡ Some home → (c : Array)
      → slice_get state.stores copy ≡ Some c → c.storage ≡ copy_storage home d
      → Every IsInteger c.values → AreBordered vs next c state
  borders_do [] each next after_first owned state sound has c held storage integers = record {
    end = state;
    does = refl;
    spared = spares_all tables spots w.numbers.arrays own free state sound;
    there = held;
  }
  borders_do (v ∷ vs) each next after_first owned state sound has c held storage integers =
      let b = each v (inl refl) in
      let one_own : Misses own.slots next → ⊥ =
      λ m. owned 0 (omega arith)
      (subst (λ (i : ℕ). Misses own.slots i) (let e : next ≡ next + 0 = omega arith in e) m) in
      let two_own : Misses own.slots (suc next) → ⊥ =
      λ m. owned 1 (omega arith)
      (subst (λ (i : ℕ). Misses own.slots i) (let e : suc next ≡ next + 1 = omega arith in e) m) in
      let s = border_spared next after_first state sound has c held storage integers v b one_own two_own
      in
      let mid = wrapped next after_first state sound has c held storage integers v b one_own two_own in
      let more = borders_do vs (λ u k. each u (inr k)) (suc (suc next)) (omega (arith, after_first))
      (λ k lt m. owned (suc (suc k)) (omega (arith, lt))
      (subst (λ (i : ℕ). Misses own.slots i)
      (let e : suc (suc next) + k ≡ next + suc (suc k) = omega arith in e) m)) mid s.sound
      (still_home next after_first state sound has c held storage integers v b one_own two_own)
      (bordered home c v)
      (wrapped_there next after_first state sound has c held storage integers v b one_own two_own)
      storage
      (wrapped_integers next after_first state sound has c held storage integers v b one_own two_own) in
      record {
        end = more.end;
        does = border_does next after_first state sound has c held storage integers v b one_own two_own
            (border_rows line copy first (suc (suc next)) vs) ∙ more.does;
        spared = then_spared state mid more.end s more.spared;
        there = more.there;
      }
