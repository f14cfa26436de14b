-- What a processor needs of an array for a shifted read: each place that is read is needed, each
-- place that is needed is in some owner's piece, and the owner has it.
use Rattle.std.proofs.Common.{◌≡◌, refl, sym, ◌∙◌, ap, subst, arith, ℕ, zero, suc, ◌<◌}
use Rattle.std.proofs.Common.{Bool, true, false, ◌==◌, List, [], ◌∷◌, length, map, All, ℤ, pos, ◌+ℤ◌, ◌≤ℤ◌, eqb-true}
use Rattle.std.proofs.Common.{Some, eq-eqb}
use Rattle.std.specs.Prelude.{if◌then◌else◌, drop, int_le, slice_get}
use Rattle.std.specs.Int.{int_max, int_min}
use Rattle.std.specs.List.{AllZip}
use Rattle.std.proofs.lemmas.Bool.Decides.{nat_tests}
use Rattle.std.proofs.lemmas.Int.{clamps, ints}
use Rattle.std.proofs.lemmas.List.{length-map}
use Rattle.std.proofs.lemmas.List.Elements.{All-nil, All-cons, All-head, All-tail}
use Rattle.std.proofs.lemmas.Option.{get_or_from_slice_get}
use Rattle.zpl_region.specs.declared.dims.Dim.{Dim}
use Rattle.zpl_region.specs.declared.dims.Dim.TheVariants as dim
use Rattle.zpl_region.specs.declared.regions.Region.{Region}
use Rattle.zpl_region.specs.Dim.{HasBounds, HasStep, IsCoordinate, coordinates}
use Rattle.zpl_region.specs.Ends.{coordinate_count, has_none, tuple_count}
use Rattle.zpl_region.specs.Hull.{IsBoxed, emptied}
use Rattle.zpl_region.specs.Region.{IsMember, components, each_met, members}
use Rattle.zpl_region.proofs.HullLemmas.{some_tuple}
use Rattle.zpl_region.proofs.LawLemmas.{members_iff}
use Rattle.zpl_region.proofs.ListLemmas.{Among, Among-filter, among_filtered, Contains-from_among, among_from_Contains}
use Rattle.zpl_region.proofs.TupleLemmas.{among_tuples}
use Rattle.zpl_arrays.specs.Array.{has_place}
use Rattle.grid_layout.specs.declared.axes.Axis.{Axis}
use Rattle.grid_layout.specs.declared.blocks.Blocks.{Blocks}
use Rattle.grid_layout.specs.Block.{block_first, block_last}
use Rattle.grid_layout.specs.Grid.{blocks_at, cuts, processors_of}
use Rattle.grid_layout.specs.Layout.{AreBlocks, HasThree, IsArrayBox, axes_at, box_at}
use Rattle.grid_layout.specs.Layout.{held_of, laid_out, no_box, own_first, own_last}
use Rattle.grid_layout.specs.Piece.{each_needed, needed_dim, needed_in, nothing, owned_part, owner_for, part, place_dim, range_or_nothing}
use Rattle.grid_layout.proofs.OwnerLemmas.{AreCuts, are_cuts, axes_three}
use Rattle.grid_layout.proofs.PartLemmas.{blocks_are_below, blocks_length, has_each, has_owner_for, near_of, owner_for_below, parts_by_owner}
use Rattle.grid_layout.proofs.SoundLemmas.{block_past, blocks_are, cut_past, needed_has_bounds, needed_length}
use Rattle.grid_layout.proofs.HeldLemmas.{held_in_storage, region_of_held}
use Rattle.plan_meaning.specs.of_grid_meaning.Local.{processors}
use Rattle.plan_meaning.specs.of_grid_meaning.Place.{moved_by, own_part}
use Rattle.plan_meaning.specs.of_grid_meaning.State.{IsSlot}
use Rattle.plan_meaning.specs.of_grid_meaning.Stored.{arrangement_of, box_number, box_of, stored, width_above, width_below}
use Rattle.plan_meaning.proofs.of_grid_meaning.BoxLemmas.{box_is}
use Rattle.node_form.specs.declared.arrays.ArrayDim.{ArrayDim}
use Rattle.node_form.specs.declared.arrays.ArrayDim.TheVariants.{Range, Star}
use Rattle.node_form.specs.declared.arrays.ArrayRow.{ArrayRow}
use Rattle.node_form.specs.declared.tables.Tables.{Tables}
use Rattle.node_form.specs.Fits.{FitsArray, IsUnused, storage_dim, storage_of}
use Rattle.plan_meaning.specs.of_flat_form.Right.{each_covers}
use Rattle.plan_meaning.specs.of_flat_form.Static.{is_in_fringe}
use Rattle.needs_runs.specs.Agree.{HasLayout}
use Rattle.needs_runs.specs.Holds.{lies_in_own}
use Rattle.needs_runs.proofs.NeedLemmas.{InBlocks, held_dims, needs_are_held, place_of, reads_are_needed}
use Rattle.needs_runs.proofs.OwnerLemmas.{AreUncut, AreZeroPast, KindsAs, boxed_steps, boxes_of_rows, emptied_boxed, emptied_kinds, emptied_many, held_boxed, held_kinds, held_many, in_blocks, lies_by_owner, map_at, processors_are, stored_at, uncut_three}
use Rattle.needs_runs.proofs.RoomRows.{all_get}

pub zip_many : {X Y : Type 0} (R : X → Y → Type 0) (xs : List X) (ys : List Y) → AllZip R xs ys
    → length ys ≡ length xs
zip_many R [] [] all = refl
zip_many R [] (y ∷ ys) all = absurd all
zip_many R (x ∷ xs) [] all = absurd all
zip_many R (x ∷ xs) (y ∷ ys) all = ap suc (zip_many R xs ys all.1)

-- a tuple of a part is one of the whole
met_coordinates : (lows highs : List ℤ) (dims : List Dim) (t : List ℤ)
    → AllZip IsCoordinate (each_met lows highs dims) t → AllZip IsCoordinate dims t
met_coordinates [] highs dims t are = are
met_coordinates (l ∷ lows) [] dims t are = are
met_coordinates (l ∷ lows) (h ∷ highs) [] t are = are
met_coordinates (l ∷ lows) (h ∷ highs) (d ∷ dims) [] are = absurd are
met_coordinates (l ∷ lows) (h ∷ highs) (dim.Flood ∷ dims) (x ∷ t) are =
    (are.0, met_coordinates lows highs dims t are.1)
met_coordinates (l ∷ lows) (h ∷ highs) (dim.Range from to step align ∷ dims) (x ∷ t) are = (
  (omega (arith, ints, clamps, are.0.0), omega (arith, ints, clamps, are.0.1), are.0.2),
  met_coordinates lows highs dims t are.1,
)

-- ---- steps of what is needed
range_step : (lo hi step align : ℤ) → pos 1 ≤ℤ step → HasStep (range_or_nothing lo hi step align)
range_step lo hi step align positive = by (int_le lo hi)
  where
    by : (b : Bool) → HasStep (if b then dim.Range lo hi step align else nothing)
    by true = positive
    by false = omega (arith, ints)

place_step : (held : Dim) (v : ℤ) (own : Dim) → HasStep own → HasStep (place_dim held v own)
place_step dim.Flood v own step = by (coordinate_count own == 0)
  where
    by : (b : Bool) → HasStep (if b then nothing else dim.Flood)
    by true = omega (arith, ints)
    by false = tt
place_step (dim.Range lo hi stride base) v dim.Flood step =
    range_step (int_max (pos 0) lo) (int_min (pos 0) hi) (pos 1) (pos 0) (omega (arith, ints))
place_step (dim.Range lo hi stride base) v (dim.Range from to s align) step =
    range_step (int_max (from +ℤ v) lo) (int_min (to +ℤ v) hi) s (align +ℤ v) step

part_step : (lo hi : ℤ) (d : Dim) → HasStep d → HasStep (part lo hi d)
part_step lo hi dim.Flood step = tt
part_step lo hi (dim.Range from to s align) step =
    range_step (int_max from lo) (int_min to hi) s align step

needed_steps : (axes : List Axis) (ns ks : List ℕ) (helds : List Dim) (v : List ℤ) (dims : List Dim)
    → All HasStep dims → All HasStep (each_needed axes ns ks helds v dims)
needed_steps [] ns ks helds v dims steps = All-nil HasStep
needed_steps (axis ∷ axes) [] ks helds v dims steps = All-nil HasStep
needed_steps (axis ∷ axes) (n ∷ ns) [] helds v dims steps = All-nil HasStep
needed_steps (axis ∷ axes) (n ∷ ns) (k ∷ ks) [] v dims steps = All-nil HasStep
needed_steps (axis ∷ axes) (n ∷ ns) (k ∷ ks) (held ∷ helds) [] dims steps = All-nil HasStep
needed_steps (axis ∷ axes) (n ∷ ns) (k ∷ ks) (held ∷ helds) (w ∷ v) [] steps = All-nil HasStep
needed_steps (axis ∷ axes) (n ∷ ns) (k ∷ ks) (held ∷ helds) (w ∷ v) (d ∷ dims) steps =
    All-cons HasStep (needed_dim axis n k held w d) (each_needed axes ns ks helds v dims)
    (place_step held w (part (block_first axis n k) (block_last axis n k) d)
    (part_step (block_first axis n k) (block_last axis n k) d (All-head HasStep d dims steps)))
    (needed_steps axes ns ks helds v dims (All-tail HasStep d dims steps))

-- past the rank an array has the one coordinate 0
zero_past : (rank : ℕ) (rows : List ArrayDim) (u : List ℤ) → All IsUnused (drop rank rows)
    → AllZip IsCoordinate (map storage_dim rows) u → AreZeroPast rank rows u
zero_past zero [] u unused are = tt
zero_past (suc rank) [] u unused are = tt
zero_past zero (row ∷ rows) [] unused are = tt
zero_past (suc rank) (row ∷ rows) [] unused are = tt
zero_past (suc rank) (row ∷ rows) (x ∷ u) unused are = zero_past rank rows u unused are.1
zero_past zero (Star ∷ rows) (x ∷ u) unused are =
    absurd (All-head IsUnused Star rows unused)
zero_past zero (Range lo hi low high ∷ rows) (x ∷ u) unused are =
    let one = All-head IsUnused (Range lo hi low high) rows unused in
    let first : lo ≡ pos 0 = one.0 in
    let last : hi ≡ pos 0 = one.1 in (
      omega (arith, ints, first, last, are.0.0, are.0.1),
      zero_past zero rows u (All-tail IsUnused (Range lo hi low high) rows unused) are.1,
    )

pub components_many : (rank : ℕ) (v : List ℤ) → length (components rank v) ≡ length v
components_many zero [] = refl
components_many (suc rank) [] = refl
components_many zero (x ∷ v) = ap suc (components_many zero v)
components_many (suc rank) (x ∷ v) = ap suc (components_many rank v)

no_none : (n : ℕ) → 0 < n → (n == 0) ≡ false
no_none n some = grind (arith, nat_tests)

module _ (code : Tables) (layout : HasLayout code) (array : ℕ) (row : ArrayRow)
    (there : slice_get code.arrays array ≡ Some row) (told : row.stored ≡ true) where
  abbrev pub blocks : Blocks
  blocks = laid_out (arrangement_of code)

  abbrev pub number : ℕ
  number = box_number code array

  pub fit : FitsArray row
  fit = all_get FitsArray code.arrays array row layout.arrays there

  pub three_dims : length row.dims ≡ 3
  three_dims = all_get (λ (row : ArrayRow). length row.dims ≡ 3) code.arrays array row layout.three there

  boxes : All IsArrayBox (arrangement_of code).boxes
  boxes = boxes_of_rows code.arrays layout.arrays layout.three

  pub are_blocks : AreBlocks blocks
  are_blocks = blocks_are code.grid (arrangement_of code).boxes boxes

  is_box : IsArrayBox (box_of row)
  is_box = box_is row three_dims told fit

  has_three : HasThree (box_of row)
  has_three = record {
    dims = length-map row.dims storage_dim ∙ three_dims;
    low = length-map row.dims width_below ∙ three_dims;
    high = length-map row.dims width_above ∙ three_dims;
  }

  pub box_there : box_at (arrangement_of code) number ≡ box_of row
  box_there =
      get_or_from_slice_get (arrangement_of code).boxes number (box_of row) no_box
      (map_at box_of (stored code.arrays) number row (stored_at code.arrays array row there told))

  abbrev ns : List ℕ
  ns = cuts code.grid row.rank

  abbrev axes : List Axis
  axes = axes_at blocks row.rank

  pub cuts_are : AreCuts code.grid row.rank
  cuts_are = are_cuts code.grid row.rank fit.rank.0 fit.rank.1

  pub axes_many : length axes ≡ 3
  axes_many = axes_three blocks row.rank are_blocks fit.rank.0 fit.rank.1

  module _ (p : ℕ) (below : p < processors code) where
    pub inside : p < processors_of code.grid
    inside = subst (λ n. p < n) (processors_are code) below

    abbrev ks : List ℕ
    ks = blocks_at ns p

    pub ks_many : length ks ≡ 3
    ks_many = blocks_length ns p ∙ cuts_are.three

    abbrev helds : List Dim
    helds = held_dims row.dims axes ns ks

    abbrev pub held : Region
    held = held_of blocks (box_of row) p

    helds_many : length helds ≡ 3
    helds_many =
        let dims_many = has_three.dims in
        held_many axes ns ks (map width_below row.dims) (map width_above row.dims) (map storage_dim row.dims)
        (axes_many ∙ sym dims_many) (cuts_are.three ∙ sym dims_many) (ks_many ∙ sym dims_many)
        (has_three.low ∙ sym dims_many) (has_three.high ∙ sym dims_many) ∙ dims_many

    abbrev held_by : Bool → List Dim
    held_by b =
        let r : Region = if b then record { rank = row.rank; dims = emptied row.rank helds } else record { rank = row.rank; dims = helds } in
        r.dims

    abbrev is_none : Bool
    is_none = has_none (record { rank = row.rank; dims = helds })

    pub kinds : KindsAs row.dims held.dims
    kinds = by is_none
      where
        all : KindsAs row.dims helds
        all = held_kinds row.dims axes ns ks (map width_below row.dims) (map width_above row.dims)

        by : (b : Bool) → KindsAs row.dims (held_by b)
        by true = emptied_kinds row.rank row.dims helds all
        by false = all

    helds_boxed : All IsBoxed helds
    helds_boxed = held_boxed row.dims axes ns ks (map width_below row.dims) (map width_above row.dims)

    pub boxed : All IsBoxed held.dims
    boxed = by is_none
      where
        by : (b : Bool) → All IsBoxed (held_by b)
        by true = emptied_boxed row.rank helds helds_boxed
        by false = helds_boxed

    pub held_many_dims : length held.dims ≡ 3
    held_many_dims = by is_none
      where
        by : (b : Bool) → length (held_by b) ≡ 3
        by true = emptied_many row.rank helds ∙ helds_many
        by false = helds_many

    module _ (region : Region) (slot : IsSlot row.rank region) (shift : List ℤ)
        (long : length shift ≡ 3) (flat_shift : components row.rank shift ≡ shift) where
      abbrev pub needed : Region
      needed = needed_in blocks held p region shift

      -- the same by the array's rank
      abbrev needed_dims : List Dim → ℕ → List Dim
      needed_dims boxes rank =
          each_needed (axes_at blocks rank) (cuts code.grid rank) (blocks_at (cuts code.grid rank) p)
          boxes (components rank shift) region.dims

      pub read_needed : (t : List ℤ) → IsMember (own_part code p region) t
          → each_covers row.dims region.dims ≡ true
          → has_place (storage_of row) (moved_by shift t) ≡ true
          → is_in_fringe row.dims shift ≡ true → IsMember needed (place_of row.dims shift t)
      read_needed t own covers place fringe =
          let here : AllZip IsCoordinate (each_met (components row.rank (own_first blocks row.rank p)) (components row.rank (own_last blocks row.rank p)) region.dims) t =
          subst (λ rank. AllZip IsCoordinate (each_met (components rank (own_first blocks rank p)) (components rank (own_last blocks rank p)) region.dims) t) slot.ranked own in
          let is : AllZip IsCoordinate region.dims t = met_coordinates _ _ region.dims t here in
          let t_many : length t ≡ 3 = zip_many IsCoordinate region.dims t is ∙ slot.many in
          let uncut : AreUncut row.rank ns ks =
          uncut_three row.rank ns ks fit.rank.0 fit.rank.1 cuts_are.three ks_many (λ i past most.
          (cut_past code.grid row.rank i fit.rank.0 past most, block_past code.grid row.rank p i fit.rank.0 fit.rank.1 past most inside)) in
          let within : InBlocks axes ns ks region.dims t =
          in_blocks row.rank axes ns ks region.dims t uncut (axes_many ∙ sym slot.many) (cuts_are.three ∙ sym slot.many) (ks_many ∙ sym slot.many) here in
          let reads = reads_are_needed row.dims axes ns ks region.dims shift t (record {
            axes_many = axes_many ∙ sym three_dims;
            ns_many = cuts_are.three ∙ sym three_dims;
            ks_many = ks_many ∙ sym three_dims;
            dims_many = slot.many ∙ sym three_dims;
            v_many = long ∙ sym three_dims;
            t_many = t_many ∙ sym three_dims;
          }) (blocks_are_below ns p cuts_are.some (let count = cuts_are.count in omega (arith, count, inside)))
          slot.fits.steps is within covers place fringe in
          let some : is_none ≡ false =
          no_none (tuple_count helds) (some_tuple helds (place_of row.dims shift t) (boxed_steps helds helds_boxed) reads.0) in
          subst (λ rank. AllZip IsCoordinate (needed_dims held.dims rank) (place_of row.dims shift t)) (sym slot.ranked)
          (subst (λ v. AllZip IsCoordinate (each_needed axes ns ks held.dims v region.dims) (place_of row.dims shift t)) (sym flat_shift)
          (subst (λ b. AllZip IsCoordinate (each_needed axes ns ks (held_by b) shift region.dims) (place_of row.dims shift t)) (sym some) reads.1))

      needed_many : length needed.dims ≡ 3
      needed_many = needed_length blocks held p region shift are_blocks slot.fits.rank.0 slot.fits.rank.1 held_many_dims slot.many long

      needed_bounds : All HasBounds needed.dims
      needed_bounds =
          needed_has_bounds blocks held p region shift are_blocks slot.fits.rank.0 slot.fits.rank.1 held_many_dims slot.many long
          (λ k d here. ((region_of_held blocks (box_of row) p are_blocks is_box has_three inside).dims k d here).1)

      needed_step : All HasStep needed.dims
      needed_step = needed_steps (axes_at blocks region.rank) (cuts code.grid region.rank) (blocks_at (cuts code.grid region.rank) p) held.dims (components region.rank shift) region.dims slot.fits.steps

      abbrev pub owner : List ℤ → ℕ
      owner u = owner_for blocks p needed u

      pub owner_below : (u : List ℤ) → owner u < processors code
      owner_below u =
          subst (λ n. owner_for blocks p needed u < n) (sym (processors_are code))
          (owner_for_below blocks p needed u slot.fits.rank.0 slot.fits.rank.1 inside)

      -- what is needed is in its owner's piece
      pub needed_owned : (u : List ℤ) → IsMember needed u
          → Among (members (owned_part blocks (owner u) p needed)) u
      needed_owned u is =
          let from = owner_for blocks p needed u in
          subst (λ ts. Among ts u)
          (sym (parts_by_owner blocks from p needed are_blocks slot.fits.rank.0 slot.fits.rank.1 needed_many needed_bounds inside
          (owner_for_below blocks p needed u slot.fits.rank.0 slot.fits.rank.1 inside)))
          (Among-filter (λ t. owner_for blocks p needed t == from) (members needed) u
          (among_from_Contains (members needed) u ((members_iff needed u needed_step).1 is))
          (eq-eqb from from refl))

      -- what is needed is held
      pub needed_held : (u : List ℤ) → IsMember needed u → IsMember held u
      needed_held u is =
          needs_are_held (axes_at blocks region.rank) (cuts code.grid region.rank) (blocks_at (cuts code.grid region.rank) p) held.dims (components region.rank shift) region.dims u
          (axes_three blocks region.rank are_blocks slot.fits.rank.0 slot.fits.rank.1 ∙ sym held_many_dims)
          ((are_cuts code.grid region.rank slot.fits.rank.0 slot.fits.rank.1).three ∙ sym held_many_dims)
          (blocks_length (cuts code.grid region.rank) p ∙ ((are_cuts code.grid region.rank slot.fits.rank.0 slot.fits.rank.1).three ∙ sym held_many_dims))
          (components_many region.rank shift ∙ (long ∙ sym held_many_dims)) (slot.many ∙ sym held_many_dims) boxed is

      -- a place of a piece is one that is held, and lies in the owner's own block
      pub piece_place : (from : ℕ) → from < processors code → (u : List ℤ)
          → Among (members (owned_part blocks from p needed)) u
          → IsMember held u × IsMember (storage_of row) u × (lies_in_own code from row u ≡ true)
      piece_place from from_below u among =
          let from_inside : from < processors_of code.grid = subst (λ n. from < n) (processors_are code) from_below in
          let parts = among_filtered (λ t. owner_for blocks p needed t == from) (members needed) u
          (subst (λ ts. Among ts u) (parts_by_owner blocks from p needed are_blocks slot.fits.rank.0 slot.fits.rank.1 needed_many needed_bounds inside from_inside) among) in
          let is : IsMember needed u = (members_iff needed u needed_step).0 (Contains-from_among (members needed) u parts.0) in
          let in_held : IsMember held u = needed_held u is in
          let stored_there : IsMember (storage_of row) u = held_in_storage blocks (box_of row) p are_blocks is_box has_three inside u in_held in
          let near = near_of needed.dims u needed_bounds (among_tuples (map coordinates needed.dims) u parts.0) in
          let has : has_each (axes_at blocks region.rank) (cuts code.grid region.rank) (blocks_at (cuts code.grid region.rank) from) (blocks_at (cuts code.grid region.rank) p) needed.dims u ≡ true =
          (has_owner_for blocks from p needed u are_blocks slot.fits.rank.0 slot.fits.rank.1 needed_many inside from_inside near).1
          (sym (eqb-true (owner_for blocks p needed u) from parts.1)) in
          let has_here : has_each axes ns (blocks_at ns from) ks (needed_dims held.dims row.rank) u ≡ true =
          subst (λ rank. has_each (axes_at blocks rank) (cuts code.grid rank) (blocks_at (cuts code.grid rank) from) (blocks_at (cuts code.grid rank) p) (needed_dims held.dims rank) u ≡ true) slot.ranked has in (
            in_held,
            stored_there,
            lies_by_owner row.rank row.dims axes ns (blocks_at ns from) ks held.dims (components row.rank shift) region.dims u
                (axes_many ∙ sym three_dims) (cuts_are.three ∙ sym three_dims) (blocks_length ns from ∙ (cuts_are.three ∙ sym three_dims))
                (ks_many ∙ sym three_dims) (held_many_dims ∙ sym three_dims) (components_many row.rank shift ∙ (long ∙ sym three_dims))
                (slot.many ∙ sym three_dims) kinds (zero_past row.rank row.dims u fit.padded stored_there) has_here,
          )

      -- a place of a piece is one that is held, and the owner's block has it
      pub piece_has : (from : ℕ) → from < processors code → (u : List ℤ)
          → Among (members (owned_part blocks from p needed)) u
          → IsMember held u × AllZip IsCoordinate (needed_dims held.dims row.rank) u
          × (has_each axes ns (blocks_at ns from) ks (needed_dims held.dims row.rank) u ≡ true)
      piece_has from from_below u among =
          let from_inside : from < processors_of code.grid = subst (λ n. from < n) (processors_are code) from_below in
          let parts = among_filtered (λ t. owner_for blocks p needed t == from) (members needed) u
          (subst (λ ts. Among ts u) (parts_by_owner blocks from p needed are_blocks slot.fits.rank.0 slot.fits.rank.1 needed_many needed_bounds inside from_inside) among) in
          let is : IsMember needed u = (members_iff needed u needed_step).0 (Contains-from_among (members needed) u parts.0) in
          let near = near_of needed.dims u needed_bounds (among_tuples (map coordinates needed.dims) u parts.0) in
          let has : has_each (axes_at blocks region.rank) (cuts code.grid region.rank) (blocks_at (cuts code.grid region.rank) from) (blocks_at (cuts code.grid region.rank) p) needed.dims u ≡ true =
          (has_owner_for blocks from p needed u are_blocks slot.fits.rank.0 slot.fits.rank.1 needed_many inside from_inside near).1
          (sym (eqb-true (owner_for blocks p needed u) from parts.1)) in (
            needed_held u is,
            subst (λ rank. AllZip IsCoordinate (needed_dims held.dims rank) u) slot.ranked is,
            subst (λ rank. has_each (axes_at blocks rank) (cuts code.grid rank) (blocks_at (cuts code.grid rank) from) (blocks_at (cuts code.grid rank) p) (needed_dims held.dims rank) u ≡ true) slot.ranked has,
          )
