-- The rows of arrays fit, and what code has of its own is laid out in its tables.
use Rattle.std.proofs.Common.{◌≡◌, ℕ, zero, suc, ◌+◌, ◌-◌, ◌^◌, Bool, true, false, ℤ, List, [], ◌∷◌, ◌++◌, map, length, drop, take, refl, sym, ap, ◌∙◌, subst, arith, length-append, append_assoc}
use Rattle.std.specs.Prelude.{pos, neg_ℤ, cond, filter, ◌==◌, ◌≤ℤ◌, replicate, Some, slice_get, All}
use Rattle.std.specs.List.{AllByRecursion}
use Rattle.std.specs.Option.{IsSomeAnd}
use Rattle.std.specs.Int.{int_max}
use Rattle.std.proofs.lemmas.Int.{ints, clamps}
use Rattle.std.proofs.lemmas.List.{length-map}
use Rattle.std.proofs.lemmas.List.Elements.{All-append, All-cons, All-nil, All-head, All-tail, All-from_recursion}
use Rattle.zpl_region.specs.declared.dims.Dim.{Dim}
use Rattle.zpl_region.specs.declared.dims.Dim.TheVariants as dim
use Rattle.zpl_region.specs.declared.regions.Region.{Region}
use Rattle.zpl_region.specs.Dim.{IsUpTo}
use Rattle.zpl_region.specs.Region.{padding, IsWithinLimit}
use Rattle.stored_shifts.specs.of_node_form.declared.arrays.ArrayDim.{ArrayDim}
use Rattle.stored_shifts.specs.of_node_form.declared.arrays.ArrayRow.{ArrayRow}
use Rattle.stored_shifts.specs.of_node_form.declared.tables.Tables.{Tables}
use Rattle.stored_shifts.specs.of_node_form.Fits.{IsRank, storage_dim, storage_of, IsWidth, HasFringe, IsUnused, IsUnusedOrStar, IsRange, FitsArray}
use Rattle.stored_shifts.specs.of_node_form.Grid.{IsGrid}
use Rattle.lower_numbers.specs.of_flat_form.Flat.{IsFlat}
use Rattle.lower_numbers.specs.of_zpl_lowering.Hoist.{Shifted}
use Rattle.lower_numbers.specs.of_zpl_lowering.Where.{Next}
use Rattle.lower_numbers.specs.of_zpl_lowering.Lowered.{Lowered}
use Rattle.lower_numbers.specs.of_zpl_lowering.Tables.{Fringe, no_fringe, wider, all_wider, widened, fringes_of, stored_dims, stored_row, stored_rows, temp_dims, temp_row, empty_tables, tables_of}
use Rattle.lowering_fits.specs.Slates.{SlotsAt, TempsAt, AllRanges, AreDimsOf, IsRowOf, StoragesAt, AllTemps, AllShifts}
use Rattle.lowering_fits.specs.Lowerings.{AllRanks, IsLaidOut, FitsLowered}
use Rattle.lowering_fits.specs.Whole.{IsNumbered}
use Rattle.lowering_fits.specs.Storages.{AllBoxed, IsStorage, AllStorages}
use Rattle.lowering_fits.proofs.PieceLemmas.{code_makes_flat}
use Rattle.lowering_fits.proofs.FringeLemmas.{whole_covered}
use Rattle.lowering_fits.proofs.TreeLemmas.{storages_first, storages_rest}

-- ---- fringes

abbrev IsFringe : Fringe → Type 0
IsFringe fringe = IsWidth fringe.low × IsWidth fringe.high

abbrev AreFringes : List Fringe → Type 0
AreFringes [] = Unit {0}
AreFringes (one ∷ rest) = IsFringe one × AreFringes rest

greater_width : (width d : ℤ) → IsWidth width → d ≤ℤ pos (2 ^ 31) → IsWidth (int_max width d)
greater_width width d is small =
    let low = is.0 in let high = is.1 in
    (omega (arith, ints, clamps), omega (arith, ints, clamps))

wider_fits : (fringe : Fringe) (d : ℤ) → IsFringe fringe → IsUpTo 31 d → IsFringe (wider fringe d)
wider_fits fringe d is small =
    let low = small.0 in let high = small.1 in (
      greater_width fringe.low (neg_ℤ d) is.0 (omega (arith, ints)),
      greater_width fringe.high d is.1 high,
    )

all_wider_fit : (fringes : List Fringe) (shift : List ℤ) → AreFringes fringes →
    All (IsUpTo 31) shift → AreFringes (all_wider fringes shift)
all_wider_fit [] shift are small = tt
all_wider_fit (fringe ∷ fringes) [] are small = are
all_wider_fit (fringe ∷ fringes) (d ∷ shift) are small = (
  wider_fits fringe d are.0 (All-head (IsUpTo 31) d shift small),
  all_wider_fit fringes shift are.1 (All-tail (IsUpTo 31) d shift small),
)

wider_count : (fringes : List Fringe) (shift : List ℤ) →
    length (all_wider fringes shift) ≡ length fringes
wider_count [] shift = refl
wider_count (fringe ∷ fringes) [] = refl
wider_count (fringe ∷ fringes) (d ∷ shift) = ap suc (wider_count fringes shift)

widened_fit : (fringes : List Fringe) (shifts : List Shifted) → AreFringes fringes →
    AllShifts shifts → AreFringes (widened fringes shifts)
widened_fit fringes [] are small = are
widened_fit fringes (one ∷ shifts) are small =
    widened_fit (all_wider fringes one.shift) shifts
    (all_wider_fit fringes one.shift are small.0) small.1

widened_count : (fringes : List Fringe) (shifts : List Shifted) →
    length (widened fringes shifts) ≡ length fringes
widened_count fringes [] = refl
widened_count fringes (one ∷ shifts) =
    widened_count (all_wider fringes one.shift) shifts ∙ wider_count fringes one.shift

filtered : (test : Shifted → Bool) (shifts : List Shifted) → AllShifts shifts →
    AllShifts (filter test shifts)
filtered test [] small = tt
filtered test (one ∷ shifts) small = by (test one) (filtered test shifts small.1)
  where
    by : (b : Bool) → AllShifts (filter test shifts) →
        AllShifts (cond b (one ∷ filter test shifts) (filter test shifts))
    by true later = (small.0, later)
    by false later = later

no_width : IsWidth (pos 0)
no_width = (omega (arith, ints), omega (arith, ints))

fringes_fit : (k : ℕ) (shifts : List Shifted) → AllShifts shifts → AreFringes (fringes_of k shifts)
fringes_fit k shifts small =
    widened_fit (no_fringe ∷ no_fringe ∷ no_fringe ∷ []) (filter (λ one. one.array == k) shifts)
    ((no_width, no_width), ((no_width, no_width), ((no_width, no_width), tt)))
    (filtered (λ one. one.array == k) shifts small)

pub fringes_count : (k : ℕ) (shifts : List Shifted) → length (fringes_of k shifts) ≡ 3
fringes_count k shifts =
    widened_count (no_fringe ∷ no_fringe ∷ no_fringe ∷ [])
    (filter (λ one. one.array == k) shifts)

-- ---- stored arrays

-- past the rank all is padding
abbrev pub PadsFrom : ℕ → List Dim → Type 0
PadsFrom rank [] = Unit {0}
PadsFrom zero (one ∷ dims) = (one ≡ padding) × PadsFrom zero dims
PadsFrom (suc rank) (one ∷ dims) = PadsFrom rank dims

pads_all : (n : ℕ) (dims : List Dim) → dims ≡ replicate n padding → PadsFrom zero dims
pads_all n [] is = tt
pads_all zero (one ∷ dims) is = let no : ⊥ = cc in absurd no
pads_all (suc n) (one ∷ dims) is =
    let first : one ≡ padding = cc in
    let rest : dims ≡ replicate n padding = cc in
    (first, pads_all n dims rest)

pub pads : (n rank : ℕ) (dims : List Dim) → drop rank dims ≡ replicate n padding → PadsFrom rank dims
pads n rank [] is = tt
pads n zero (one ∷ dims) is = pads_all n (one ∷ dims) is
pads n (suc rank) (one ∷ dims) is = pads n rank dims is

dims_same : (rank : ℕ) (dims : List Dim) (fringes : List Fringe) →
    length dims ≡ length fringes → AllBoxed dims → PadsFrom rank dims →
    map storage_dim (stored_dims rank dims fringes) ≡ dims
dims_same rank [] fringes same boxed padded = refl
dims_same rank (one ∷ dims) [] same boxed padded = let no : ⊥ = omega arith in absurd no
dims_same zero (one ∷ dims) (fringe ∷ fringes) same boxed padded =
    by (dims_same zero dims fringes (omega arith) boxed.1 padded.1) padded.0
  where
    by : map storage_dim (stored_dims zero dims fringes) ≡ dims → one ≡ padding →
        padding ∷ map storage_dim (stored_dims zero dims fringes) ≡ one ∷ dims
    by rest first = cc
dims_same (suc rank) (dim.Range lo hi step align ∷ dims) (fringe ∷ fringes) same boxed padded =
    by (dims_same rank dims fringes (omega arith) boxed.1 padded) boxed.0.0 boxed.0.1
  where
    by : map storage_dim (stored_dims rank dims fringes) ≡ dims → step ≡ pos 1 → align ≡ lo →
        dim.Range lo hi (pos 1) lo ∷ map storage_dim (stored_dims rank dims fringes)
        ≡ dim.Range lo hi step align ∷ dims
    by rest one first = cc
dims_same (suc rank) (dim.Flood ∷ dims) (fringe ∷ fringes) same boxed padded =
    ap (λ rest. dim.Flood ∷ rest) (dims_same rank dims fringes (omega arith) boxed.1 padded)

stored_unused : (rank : ℕ) (dims : List Dim) (fringes : List Fringe) →
    AllByRecursion IsUnused (drop rank (stored_dims rank dims fringes))
stored_unused zero [] fringes = tt
stored_unused (suc rank) [] fringes = tt
stored_unused zero (one ∷ dims) [] = tt
stored_unused (suc rank) (one ∷ dims) [] = tt
stored_unused zero (one ∷ dims) (fringe ∷ fringes) =
    ((refl, refl, refl, refl), stored_unused zero dims fringes)
stored_unused (suc rank) (one ∷ dims) (fringe ∷ fringes) = stored_unused rank dims fringes

stored_fringes : (rank : ℕ) (dims : List Dim) (fringes : List Fringe) → AreFringes fringes →
    AllByRecursion HasFringe (stored_dims rank dims fringes)
stored_fringes rank [] fringes are = tt
stored_fringes rank (one ∷ dims) [] are = tt
stored_fringes zero (one ∷ dims) (fringe ∷ fringes) are =
    ((no_width, no_width), stored_fringes zero dims fringes are.1)
stored_fringes (suc rank) (dim.Range lo hi step align ∷ dims) (fringe ∷ fringes) are =
    (are.0, stored_fringes rank dims fringes are.1)
stored_fringes (suc rank) (dim.Flood ∷ dims) (fringe ∷ fringes) are =
    (tt, stored_fringes rank dims fringes are.1)

stored_ranges : (rank : ℕ) (dims : List Dim) (fringes : List Fringe) →
    AllRanges (take rank dims) → AllByRecursion IsRange (stored_dims rank dims fringes)
stored_ranges rank [] fringes ranges = tt
stored_ranges rank (one ∷ dims) [] ranges = tt
stored_ranges zero (one ∷ dims) (fringe ∷ fringes) ranges =
    (tt, stored_ranges zero dims fringes tt)
stored_ranges (suc rank) (dim.Range lo hi step align ∷ dims) (fringe ∷ fringes) ranges =
    (tt, stored_ranges rank dims fringes ranges)
stored_ranges (suc rank) (dim.Flood ∷ dims) (fringe ∷ fringes) ranges = absurd ranges

dims_of : (rank : ℕ) (dims : List Dim) (fringes : List Fringe) →
    AreDimsOf rank dims (stored_dims rank dims fringes)
dims_of rank [] fringes = tt
dims_of rank (one ∷ dims) [] = tt
dims_of zero (one ∷ dims) (fringe ∷ fringes) =
    ((refl, refl, refl, refl), dims_of zero dims fringes)
dims_of (suc rank) (dim.Range lo hi step align ∷ dims) (fringe ∷ fringes) =
    (tt, dims_of rank dims fringes)
dims_of (suc rank) (dim.Flood ∷ dims) (fringe ∷ fringes) = dims_of rank dims fringes

row_dims : (k : ℕ) (shifts : List Shifted) (storage : Region) → IsStorage storage →
    map storage_dim (stored_row k shifts storage).dims ≡ storage.dims
row_dims k shifts storage is =
    let fringes : List Fringe = fringes_of k shifts in
    dims_same storage.rank storage.dims fringes (is.three ∙ sym (fringes_count k shifts))
    is.boxed (pads (3 - storage.rank) storage.rank storage.dims is.padded)

-- the row of a storage has it
pub row_storage : (k : ℕ) (shifts : List Shifted) (storage : Region) → IsStorage storage →
    storage_of (stored_row k shifts storage) ≡ storage
row_storage k shifts storage is =
    ap (λ (all : List Dim). record { rank = storage.rank; dims = all }) (row_dims k shifts storage is)

pub row_three : (k : ℕ) (shifts : List Shifted) (storage : Region) → IsStorage storage →
    length (stored_row k shifts storage).dims ≡ 3
row_three k shifts storage is =
    sym (length-map (stored_row k shifts storage).dims storage_dim)
    ∙ ap length (row_dims k shifts storage is) ∙ is.three

row_fits : (k : ℕ) (shifts : List Shifted) (storage : Region) → AllShifts shifts →
    IsStorage storage → FitsArray (stored_row k shifts storage)
row_fits k shifts storage small is =
    let fringes : List Fringe = fringes_of k shifts in
    let dims : List ArrayDim = stored_dims storage.rank storage.dims fringes in
    let same : map storage_dim dims ≡ storage.dims = row_dims k shifts storage is in
    record {
      rank = is.is_rank;
      padded = All-from_recursion IsUnused (drop storage.rank dims)
          (stored_unused storage.rank storage.dims fringes);
      limit = λ stored. subst (λ all. IsWithinLimit (record { rank = storage.rank; dims = all }))
          (sym same) is.limit;
      fringes = λ stored. All-from_recursion HasFringe dims
          (stored_fringes storage.rank storage.dims fringes (fringes_fit k shifts small));
      without_storage = λ stored. let no : ⊥ = cc in absurd no;
    }

row_of : (k : ℕ) (shifts : List Shifted) (storage : Region) →
    IsRowOf storage (stored_row k shifts storage)
row_of k shifts storage = record {
  rank = refl;
  is_stored = refl;
  ranges = λ ranges. All-from_recursion IsRange
      (stored_dims storage.rank storage.dims (fringes_of k shifts))
      (stored_ranges storage.rank storage.dims (fringes_of k shifts) ranges);
  dims = dims_of storage.rank storage.dims (fringes_of k shifts);
}

rows_fit : (k : ℕ) (shifts : List Shifted) (storages : List Region) → AllShifts shifts →
    AllStorages storages → All FitsArray (stored_rows k shifts storages)
rows_fit k shifts [] small are = All-nil FitsArray
rows_fit k shifts (storage ∷ storages) small are =
    All-cons FitsArray (stored_row k shifts storage) (stored_rows (suc k) shifts storages)
    (row_fits k shifts storage small are.0) (rows_fit (suc k) shifts storages small are.1)

-- ---- temporaries

temp_unused : (n : ℕ) (flood : List Bool) →
    AllByRecursion IsUnused (drop (length flood) (temp_dims n flood))
temp_unused zero [] = tt
temp_unused zero (one ∷ flood) = tt
temp_unused (suc n) [] = ((refl, refl, refl, refl), temp_unused n [])
temp_unused (suc n) (one ∷ flood) = temp_unused n flood

temp_stars : (n : ℕ) (flood : List Bool) → AllByRecursion IsUnusedOrStar (temp_dims n flood)
temp_stars zero flood = tt
temp_stars (suc n) [] = ((refl, refl, refl, refl), temp_stars n [])
temp_stars (suc n) (true ∷ flood) = (tt, temp_stars n flood)
temp_stars (suc n) (false ∷ flood) = ((refl, refl, refl, refl), temp_stars n flood)

temps_fit : (temps : List (List Bool)) → AllTemps temps → All FitsArray (map temp_row temps)
temps_fit [] are = All-nil FitsArray
temps_fit (flood ∷ temps) are =
    All-cons FitsArray (temp_row flood) (map temp_row temps)
    (record {
      rank = are.0;
      padded = All-from_recursion IsUnused (drop (length flood) (temp_dims 3 flood))
          (temp_unused 3 flood);
      limit = λ stored. let no : ⊥ = cc in absurd no;
      fringes = λ stored. let no : ⊥ = cc in absurd no;
      without_storage = λ stored. All-from_recursion IsUnusedOrStar (temp_dims 3 flood)
          (temp_stars 3 flood);
    }) (temps_fit temps are.1)

-- ---- where they are

placed : {X : Type 0} (front : List X) (x : X) (rest : List X) →
    slice_get (front ++ x ∷ rest) (length front) ≡ Some x
placed [] x rest = refl
placed (y ∷ front) x rest = placed front x rest

one_more : {X : Type 0} (front : List X) (x : X) → length (front ++ x ∷ []) ≡ suc (length front)
one_more front x = omega (arith, length-append front (x ∷ []))

storages_stand : (base : Tables) (shifts : List Shifted) (front : List ArrayRow)
    (storages : List Region) (rest : List ArrayRow) →
    base.arrays ≡ front ++ (stored_rows (length front) shifts storages ++ rest) →
    StoragesAt base (length front) storages
storages_stand base shifts front [] rest is = tt
storages_stand base shifts front (storage ∷ storages) rest is =
    let k : ℕ = length front in
    let one : ArrayRow = stored_row k shifts storage in
    let more : List ArrayRow = stored_rows (suc k) shifts storages in
    let next : ℕ = length (front ++ one ∷ []) in
    let same : next ≡ suc k = one_more front one in
    let whole : base.arrays ≡ (front ++ one ∷ []) ++ (stored_rows next shifts storages ++ rest) =
    is ∙ (sym (append_assoc front (one ∷ []) (more ++ rest))
    ∙ ap (λ n. (front ++ one ∷ []) ++ (stored_rows n shifts storages ++ rest)) (sym same)) in (
      subst (λ found. IsSomeAnd found (IsRowOf storage))
          (sym (ap (λ all. slice_get all k) is ∙ placed front one (more ++ rest)))
          (row_of k shifts storage),
      subst (λ n. StoragesAt base n storages) same
          (storages_stand base shifts (front ++ one ∷ []) storages rest whole),
    )

temps_stand : (base : Tables) (front : List ArrayRow) (temps : List (List Bool)) →
    base.arrays ≡ front ++ map temp_row temps → TempsAt base (length front) temps
temps_stand base front [] is = tt
temps_stand base front (flood ∷ temps) is =
    let one : ArrayRow = temp_row flood in
    let same : length (front ++ one ∷ []) ≡ suc (length front) = one_more front one in
    let whole : base.arrays ≡ (front ++ one ∷ []) ++ map temp_row temps =
    is ∙ sym (append_assoc front (one ∷ []) (map temp_row temps)) in
    let found : slice_get base.arrays (length front) ≡ Some one =
    ap (λ all. slice_get all (length front)) is ∙ placed front one (map temp_row temps) in (
      (
        subst (λ o. IsSomeAnd o (λ row. row.rank ≡ length flood)) (sym found) refl,
        subst (λ o. IsSomeAnd o (λ row. row.stored ≡ false)) (sym found) refl,
      ),
      subst (λ n. TempsAt base n temps) same
          (temps_stand base (front ++ one ∷ []) temps whole),
    )

slots_stand : (base : Tables) (front slots : List ℕ) → base.slots ≡ front ++ slots →
    SlotsAt base (length front) slots
slots_stand base front [] is = tt
slots_stand base front (slot ∷ slots) is =
    let same : length (front ++ slot ∷ []) ≡ suc (length front) = one_more front slot in (
      ap (λ all. slice_get all (length front)) is ∙ placed front slot slots,
      subst (λ n. SlotsAt base n slots) same
          (slots_stand base (front ++ slot ∷ []) slots
          (is ∙ sym (append_assoc front (slot ∷ []) slots))),
    )

rows_count : (k : ℕ) (shifts : List Shifted) (storages : List Region) →
    length (stored_rows k shifts storages) ≡ length storages
rows_count k shifts [] = refl
rows_count k shifts (storage ∷ storages) = ap suc (rows_count (suc k) shifts storages)

-- ---- all code

pub whole_laid : (grid : List ℕ) (next : Next) (lowered : Lowered) → IsNumbered next lowered →
    IsLaidOut (empty_tables grid lowered) next lowered
whole_laid grid next lowered is =
    let base : Tables = empty_tables grid lowered in
    let all : List Region = lowered.arrays ++ (lowered.copies ++ lowered.later) in
    let rows = stored_rows 0 lowered.shifts all in
    let stand = storages_stand base lowered.shifts [] all (map temp_row lowered.temps) refl in
    let front = storages_first base 0 lowered.arrays (lowered.copies ++ lowered.later) stand in
    let behind = storages_rest base 0 lowered.arrays (lowered.copies ++ lowered.later) stand in
    let none : lowered.copies ++ lowered.later ≡ lowered.later =
    ap (λ copies. copies ++ lowered.later) is.no_copies in
    let at_later : 0 + length lowered.arrays ≡ next.later = omega (arith, is.later) in
    let counted : length rows ≡ next.temps =
    rows_count 0 lowered.shifts all
    ∙ omega (
      arith,
      length-append lowered.arrays (lowered.copies ++ lowered.later),
      ap length none,
      is.temps,
    ) in
    let none_at : StoragesAt base next.copies [] = tt in
    record {
      below = omega (arith, is.scalars);
      slots_at = subst (λ n. SlotsAt base n lowered.slots) (sym is.slots)
          (slots_stand base [] lowered.slots refl);
      arrays_at = subst (λ n. StoragesAt base n lowered.arrays) (sym is.arrays) front;
      copies_at = subst (StoragesAt base next.copies) (sym is.no_copies) none_at;
      later_at = subst (λ n. StoragesAt base n lowered.later) at_later
          (subst (StoragesAt base (0 + length lowered.arrays)) none behind);
      temps_at = subst (λ n. TempsAt base n lowered.temps) counted
          (temps_stand base rows lowered.temps refl);
      shifts_at = whole_covered base lowered.shifts all lowered.temps refl;
    }

ranks_all : (slots : List ℕ) → AllRanks slots → All IsRank slots
ranks_all [] are = All-nil IsRank
ranks_all (slot ∷ slots) are = All-cons IsRank slot slots are.0 (ranks_all slots are.1)

pub whole_flat : (grid : List ℕ) (lowered : Lowered) → IsGrid grid →
    AllStorages (lowered.arrays ++ (lowered.copies ++ lowered.later)) →
    FitsLowered (empty_tables grid lowered) lowered → IsFlat (tables_of grid lowered)
whole_flat grid lowered is storages fits =
    code_makes_flat grid lowered is (ranks_all lowered.slots fits.slot_ranks)
    (All-append FitsArray
    (stored_rows 0 lowered.shifts (lowered.arrays ++ (lowered.copies ++ lowered.later)))
    (map temp_row lowered.temps)
    (rows_fit 0 lowered.shifts (lowered.arrays ++ (lowered.copies ++ lowered.later))
    fits.small_shifts storages) (temps_fit lowered.temps fits.temp_ranks)) fits.code_fits
