-- What the declarations of a program make of a draft, as the code of the global variables.
use Rattle.std.proofs.Common.{◌≡◌, refl, sym, ap, ap₂, ◌∙◌, arith, ℕ, suc, ◌+◌, ◌-◌, ◌<◌}
use Rattle.std.proofs.Common.{List, [], ◌∷◌, ◌++◌}
use Rattle.std.proofs.Common.{length, map, append_assoc, append-nil, ℤ}
use Rattle.zpl_region.specs.declared.regions.Region.{Region}
use Rattle.zpl_arrays.specs.Array.{Array}
use Rattle.zpl_binding.specs.Outcome.{value_or}
use Rattle.zpl_binding.specs.Regions.{Known, no_region}
use Rattle.zpl_bind.specs.Tables.{computed}
use Rattle.zpl_meaning.specs.Variables.{Frame}
use Rattle.node_form.specs.declared.instructions.Instr.TheVariants as instr
use Rattle.node_form.specs.declared.tables.Tables.{Tables}
use Rattle.flat_form.specs.Row as row
use Rattle.flat_form.specs.Row.{Row, with_row, with_rows}
use Rattle.zpl_lowering.specs.Program.{arrays_from, global_numbers, globals_made, region_rows}
use Rattle.zpl_lowering.specs.Program.{scalars_from}
use Rattle.zpl_lowering.specs.Where.{Numbers, Stored}
use Rattle.lower_draft.specs.Drafted.{Drafted, all_pushed, grown, pushed, with_array, with_scalars, with_slot}
use Rattle.lower_draft.proofs.GrowthLemmas.{rows_grown}
use Rattle.lower_places.specs.Numbers.{no_numbers}
use Rattle.lower_frames.specs.Openings.{IsFirst, arrays_added, arrays_numbered, regions_pushed}
use Rattle.lower_frames.specs.Openings.{scalars_added, storages_in}

-- ---- regions
abbrev fix_rows : ℕ → List Region → List Row
fix_rows slot [] = []
fix_rows slot (region ∷ regions) =
    row.Plain (instr.Fix slot region) ∷ fix_rows (suc slot) regions

abbrev with_regions : Drafted → Tables → ℕ → List ℕ → Drafted
with_regions draft tables slots ranks =
    record draft { tables = tables; next = record draft.next { slots = slots }; slots = ranks }

abbrev ranks_of : List Region → List ℕ
ranks_of regions = map (λ region. region.rank) regions

regions_are : (draft : Drafted) (regions : List Region)
    → regions_pushed draft regions
    ≡ with_regions draft (with_rows draft.tables (fix_rows draft.next.slots regions))
    (draft.next.slots + length (ranks_of regions)) (draft.slots ++ ranks_of regions)
regions_are draft [] =
    let same : draft.next.slots ≡ draft.next.slots + 0 = omega arith in
    ap (λ n. with_regions draft draft.tables n draft.slots) same
    ∙ ap (with_regions draft draft.tables (draft.next.slots + 0)) (sym (append-nil draft.slots))
regions_are draft (region ∷ regions) =
    let one = row.Plain (instr.Fix draft.next.slots region) in
    let next = pushed (with_slot draft region.rank) one in
    let more : draft.next.slots + 1 ≡ suc draft.next.slots = omega arith in
    let all : draft.next.slots + 1 + length (ranks_of regions)
    ≡ draft.next.slots + length (region.rank ∷ ranks_of regions) = omega arith in
    regions_are next regions
    ∙ (ap (λ n. with_regions draft (with_rows (with_row draft.tables one) (fix_rows n regions))
    (draft.next.slots + 1 + length (ranks_of regions))
    ((draft.slots ++ region.rank ∷ []) ++ ranks_of regions)) more
    ∙ (ap (λ n. with_regions draft
    (with_rows (with_row draft.tables one) (fix_rows (suc draft.next.slots) regions)) n
    ((draft.slots ++ region.rank ∷ []) ++ ranks_of regions)) all
    ∙ ap (with_regions draft
    (with_rows (with_row draft.tables one) (fix_rows (suc draft.next.slots) regions))
    (draft.next.slots + length (region.rank ∷ ranks_of regions)))
    (append_assoc draft.slots (region.rank ∷ []) (ranks_of regions))))

-- ---- arrays
abbrev with_storages : Drafted → ℕ → List Region → Drafted
with_storages draft arrays storages =
    record draft { next = record draft.next { arrays = arrays }; arrays = storages }

arrays_are : (draft : Drafted) (storages : List Region)
    → arrays_added draft storages
    ≡ with_storages draft (draft.next.arrays + length storages) (draft.arrays ++ storages)
arrays_are draft [] =
    let same : draft.next.arrays ≡ draft.next.arrays + 0 = omega arith in
    ap (λ n. with_storages draft n draft.arrays) same
    ∙ ap (with_storages draft (draft.next.arrays + 0)) (sym (append-nil draft.arrays))
arrays_are draft (storage ∷ storages) =
    let all : draft.next.arrays + 1 + length storages
    ≡ draft.next.arrays + length (storage ∷ storages) = omega arith in
    arrays_are (with_array draft storage) storages
    ∙ (ap (λ n. with_storages draft n ((draft.arrays ++ storage ∷ []) ++ storages)) all
    ∙ ap (with_storages draft (draft.next.arrays + length (storage ∷ storages)))
    (append_assoc draft.arrays (storage ∷ []) storages))

-- ---- numbers
pub scalars_are : (numbers : Numbers) (scalar : ℕ) (values : List ℤ)
    → scalars_added numbers scalar (length values)
    ≡ record numbers { scalars = numbers.scalars ++ scalars_from scalar values }
scalars_are numbers scalar [] =
    ap (λ s. record numbers { scalars = s }) (sym (append-nil numbers.scalars))
scalars_are numbers scalar (value ∷ values) =
    scalars_are (record numbers { scalars = numbers.scalars ++ scalar ∷ [] }) (suc scalar) values
    ∙ ap (λ s. record numbers { scalars = s })
    (append_assoc numbers.scalars (scalar ∷ []) (scalars_from (suc scalar) values))

pub arrays_numbered_are : (numbers : Numbers) (array : ℕ) (arrays : List Array)
    → arrays_numbered numbers array (storages_in arrays)
    ≡ record numbers { arrays = numbers.arrays ++ arrays_from array arrays }
arrays_numbered_are numbers array [] =
    ap (λ s. record numbers { arrays = s }) (sym (append-nil numbers.arrays))
arrays_numbered_are numbers array (first ∷ arrays) =
    arrays_numbered_are (record numbers {
      arrays = numbers.arrays ++ record { array = array; storage = first.storage } ∷ [];
    }) (suc array) arrays
    ∙ ap (λ (s : List Stored). record numbers { arrays = s })
    (append_assoc numbers.arrays (record { array = array; storage = first.storage } ∷ [])
    (arrays_from (suc array) arrays))

-- ---- regions that were computed
rows_computed : (slot : ℕ) (entries : List (List ℕ × Region))
    → fix_rows slot (map (λ entry. entry.1) entries) ≡ region_rows slot (computed entries)
rows_computed slot [] = refl
rows_computed slot (entry ∷ entries) =
    ap (λ rows. row.Plain (instr.Fix slot entry.1) ∷ rows) (rows_computed (suc slot) entries)

ranks_computed : (entries : List (List ℕ × Region))
    → map (λ region. region.rank) (map (λ entry. entry.1) entries)
    ≡ map (λ one. (value_or no_region one.outcome).rank) (computed entries)
ranks_computed [] = refl
ranks_computed (entry ∷ entries) = ap (λ ranks. entry.1.rank ∷ ranks) (ranks_computed entries)

-- ---- the whole
abbrev finishing : Drafted → ℕ → List ℕ → List Region → Drafted → Drafted
finishing draft scalars ranks storages made = record made {
  next = record made.next {
    scalars = draft.next.scalars + scalars;
    slots = draft.next.slots + length ranks;
    arrays = draft.next.arrays + length storages;
  };
  slots = draft.slots ++ ranks;
  arrays = draft.arrays ++ storages;
}

finished_by : (draft : Drafted) (regions storages : List Region) (scalars : ℕ)
    → arrays_added (with_scalars (regions_pushed draft regions) scalars) storages
    ≡ finishing draft scalars (ranks_of regions) storages
    (all_pushed draft (fix_rows draft.next.slots regions))
finished_by draft regions storages scalars =
    ap (λ d. arrays_added (with_scalars d scalars) storages) (regions_are draft regions)
    ∙ arrays_are (with_scalars (with_regions draft
    (with_rows draft.tables (fix_rows draft.next.slots regions))
    (draft.next.slots + length (ranks_of regions)) (draft.slots ++ ranks_of regions)) scalars)
    storages

-- the draft with the rows of regions, the scalars and the arrays is that with the code of the
-- global variables
pub opening_grown : (draft : Drafted) (known : Known) (entries : List (List ℕ × Region))
    (frame : Frame) → IsFirst draft.next → known.regions ≡ computed entries
    → arrays_added (with_scalars (regions_pushed draft (map (λ entry. entry.1) entries))
    (length frame.store.scalars)) (storages_in frame.store.arrays)
    ≡ grown draft (globals_made known frame)
opening_grown draft known entries frame first is =
    let regions : List Region = map (λ entry. entry.1) entries in
    let storages = storages_in frame.store.arrays in
    let count = length frame.store.scalars in
    let ranks : List ℕ = map (λ one. (value_or no_region one.outcome).rank) known.regions in
    finished_by draft regions storages count
    ∙ (ap (λ rows. finishing draft count (ranks_of regions) storages (all_pushed draft rows))
    (ap (λ slot. fix_rows slot regions) first.slots ∙ (rows_computed 0 entries
    ∙ sym (ap (region_rows 0) is)))
    ∙ (ap (λ r. finishing draft count r storages
    (all_pushed draft (region_rows 0 known.regions)))
    (ranks_computed entries
    ∙ sym (ap (map (λ one. (value_or no_region one.outcome).rank)) is))
    ∙ ap (finishing draft count ranks storages) (rows_grown draft (region_rows 0 known.regions))))

-- ---- loops
pub scalars_next : (d0 d1 whole : Drafted) (count i : ℕ) → i < count → d1 ≡ with_scalars d0 1
    → with_scalars d0 (count - i) ≡ whole → with_scalars d1 (count - (i + 1)) ≡ whole
scalars_next d0 d1 whole count i less one had =
    let same : d0.next.scalars + 1 + (count - (i + 1)) ≡ d0.next.scalars + (count - i) =
    omega (arith, less) in
    ap (λ d. with_scalars d (count - (i + 1))) one
    ∙ (ap (λ n. record d0 { next = record d0.next { scalars = n } }) same ∙ had)

pub numbers_next : (n0 n1 whole : Numbers) (scalar next later count i : ℕ) → i < count
    → scalar ≡ next → later ≡ next + 1
    → n1 ≡ record n0 { scalars = n0.scalars ++ scalar ∷ [] }
    → scalars_added n0 next (count - i) ≡ whole
    → scalars_added n1 later (count - (i + 1)) ≡ whole
numbers_next n0 n1 whole scalar next later count i less number behind one had =
    let k = count - (i + 1) in
    let more : later ≡ suc next = omega (arith, behind) in
    let same : suc k ≡ count - i = omega (arith, less) in
    ap (λ n. scalars_added n later k) one
    ∙ (ap (λ s. scalars_added (record n0 { scalars = n0.scalars ++ s ∷ [] }) later k) number
    ∙ (ap (λ s. scalars_added (record n0 { scalars = n0.scalars ++ next ∷ [] }) s k) more
    ∙ (ap (scalars_added n0 next) same ∙ had)))

-- ---- regions in memory
pub regions_listed : {A : Type 0} (name : A → List ℕ) (entries : List (A × Region))
    → map (λ (entry : A × Region). entry.1) entries
    ≡ map (λ (entry : List ℕ × Region). entry.1)
    (map (λ (entry : A × Region). (name entry.0, entry.1)) entries)
regions_listed name [] = refl
regions_listed name (entry ∷ entries) =
    ap (λ regions. entry.1 ∷ regions) (regions_listed name entries)

-- ---- the numbers of the global variables
pub numbers_grown : (d0 d1 d2 : Drafted) (n0 n1 n2 : Numbers) (regions : List Region)
    (frame : Frame) (count : ℕ) → IsFirst d0.next → d1 ≡ regions_pushed d0 regions
    → d2 ≡ with_scalars d1 count → count ≡ length frame.store.scalars → n0 ≡ no_numbers
    → n1 ≡ scalars_added n0 d1.next.scalars count
    → n2 ≡ arrays_numbered n1 d2.next.arrays (storages_in frame.store.arrays)
    → n2 ≡ global_numbers frame
numbers_grown d0 d1 d2 n0 n1 n2 regions frame count first one two all none scalars arrays =
    let pushed_is = one ∙ regions_are d0 regions in
    let scalar : d1.next.scalars ≡ 0 = ap (λ d. d.next.scalars) pushed_is ∙ first.scalars in
    let array : d2.next.arrays ≡ 0 =
    ap (λ d. d.next.arrays) two ∙ (ap (λ d. d.next.arrays) pushed_is ∙ first.arrays) in
    let are : n1 ≡ record no_numbers { scalars = scalars_from 0 frame.store.scalars } =
    scalars ∙ (ap (λ n. scalars_added n d1.next.scalars count) none
    ∙ (ap₂ (scalars_added no_numbers) scalar all ∙ scalars_are no_numbers 0 frame.store.scalars)) in
    arrays
    ∙ (ap₂ (λ n a. arrays_numbered n a (storages_in frame.store.arrays)) are array
    ∙ arrays_numbered_are (record no_numbers { scalars = scalars_from 0 frame.store.scalars }) 0
    frame.store.arrays)
