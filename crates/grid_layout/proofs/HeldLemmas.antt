-- What a processor holds: places of the storage, and all those that it owns. What it needs is in the pieces of all owners.
use Rattle.std.proofs.Common.{◌≡◌, refl, sym, ◌∙◌, ap, subst, arith, ℕ, zero, suc, ◌<◌, ◌≤◌, Bool, true, false, not, ◌&&◌, List, [], ◌∷◌, length, get_or, All, IsPermutation, ℤ, pos, ◌+ℤ◌, ◌-ℤ◌, ◌*ℤ◌, ◌≤ℤ◌}
use Rattle.std.specs.Prelude.{◌==◌, if◌then◌else◌, int_le}
use Rattle.std.specs.Int.{int_max, int_min}
use Rattle.std.specs.List.{AllZip, flat_map}
use Rattle.std.specs.Ordering.{int_eq}
use Rattle.std.proofs.lemmas.Bool.{and_parts}
use Rattle.std.proofs.lemmas.Bool.Decides.{Decides-int_eq, nat_tests}
use Rattle.std.proofs.lemmas.Int.{clamps, ints}
use Rattle.std.proofs.lemmas.List.Elements.{AllZip-get_or}
use Rattle.zpl_region.specs.declared.dims.Dim.{Dim}
use Rattle.zpl_region.specs.declared.dims.Dim.TheVariants.{Range, Flood}
use Rattle.zpl_region.specs.declared.regions.Region.{Region}
use Rattle.zpl_region.specs.Dim.{HasBounds, HasStep, IsCoordinate, IsMultiple}
use Rattle.zpl_region.specs.Ends.{has_none, tuple_count}
use Rattle.zpl_region.specs.Hull.{all_from, emptied}
use Rattle.zpl_region.specs.Region.{IsMember, IsRegion, members, padding}
use Rattle.zpl_region.proofs.EndLemmas.{length-tuple_count}
use Rattle.zpl_region.proofs.HullLemmas.{has_steps, no_count}
use Rattle.zpl_region.proofs.LawLemmas.{each_among, members_iff}
use Rattle.zpl_region.proofs.ListLemmas.{le_from_test}
use Rattle.grid_layout.specs.declared.axes.Axis.{Axis}
use Rattle.grid_layout.specs.declared.blocks.Blocks.{Blocks}
use Rattle.grid_layout.specs.declared.boxes.ArrayBox.{ArrayBox}
use Rattle.grid_layout.specs.Block.{block_first, block_last, block_start, is_block_empty}
use Rattle.grid_layout.specs.Grid.{blocks_at, cuts, processors_of}
use Rattle.grid_layout.specs.Layout.{AreBlocks, Arrangement, HasThree, IsArrayBox, IsBoxDim, IsFringe, axes_at, box_at, each_held, held_box_of, held_dim, held_of, laid_out, no_box, or_emptied}
use Rattle.grid_layout.specs.Piece.{needed_of, nothing, owner_for, piece_of}
use Rattle.grid_layout.specs.Words.{processors}
use Rattle.grid_layout.proofs.BlockLemmas.{last_of_more}
use Rattle.grid_layout.proofs.OwnerLemmas.{AreCuts, are_cuts, axes_three}
use Rattle.grid_layout.proofs.PartLemmas.{AreBelow, blocks_are_below, blocks_length, has_dim, has_each, has_owner_for, near_of, parts_of_owners}
use Rattle.grid_layout.proofs.SoundLemmas.{all_by_number, blocks_are, emptied_length, by_number, held_is_region, held_number, helds_are, needed_has_bounds, needed_length, no_axis}
use Rattle.grid_layout.proofs.ThreeLemmas.{rebuilt, three}

-- ---- coordinates
unit_multiple : (x align step : ℤ) → step ≡ pos 1 → IsMultiple step (x -ℤ align)
unit_multiple x align step e = let whole : x -ℤ align ≡ (x -ℤ align) *ℤ pos 1 = omega (arith, ints) in subst (λ s. IsMultiple s (x -ℤ align)) (sym e) (x -ℤ align, whole)

no_coordinate : (x : ℤ) → IsCoordinate nothing x → ⊥
no_coordinate x is = let low = is.0 in let high = is.1 in omega (arith, ints, low, high)

held_coordinate : (axis : Axis) (n c : ℕ) (low high : ℤ) (dim : Dim) (x : ℤ) → IsBoxDim dim → IsCoordinate (held_dim axis n c low high dim) x → IsCoordinate dim x
held_coordinate axis n c low high Flood x full is = is
held_coordinate axis n c low high (Range lo hi step align) x full is = by_test (is_block_empty axis n c) is
  where
    by_test : (b : Bool) → IsCoordinate (if b then nothing else all_from (int_max lo (block_first axis n c -ℤ low)) (int_min hi (block_last axis n c +ℤ high))) x → IsCoordinate (Range lo hi step align) x
    by_test true is = absurd (no_coordinate x is)
    by_test false is = let a = is.0 in let b = is.1 in (omega (arith, ints, clamps, a), omega (arith, ints, clamps, b), unit_multiple x align step full)

-- a block that has a coordinate isn't empty
differs : (a b : ℕ) → (a == b) ≡ false → a ≡ b → ⊥
differs a b e is = grind (arith, nat_tests)

not_empty : (axis : Axis) (n c : ℕ) (x : ℤ) → c < n → block_first axis n c ≤ℤ x → x ≤ℤ block_last axis n c → is_block_empty axis n c ≡ false
not_empty axis n zero x below first last = refl
not_empty axis n (suc c) x below first last = by_test (is_block_empty axis n (suc c)) refl
  where
    by_test : (b : Bool) → is_block_empty axis n (suc c) ≡ b → b ≡ false
    by_test false e = refl
    by_test true e =
        let p = and_parts (not (suc (suc c) == n)) (int_eq (block_start axis n (suc c)) (block_start axis n (suc (suc c)))) e in
        let same : block_start axis n (suc c) ≡ block_start axis n (suc (suc c)) = (Decides-int_eq _ _).0 p.1 in
        let inner : suc (suc c) < n = within (suc (suc c) == n) refl p.0 in
        let end : block_last axis n (suc c) ≡ block_start axis n (suc (suc c)) -ℤ pos 1 = last_of_more axis n (suc c) inner in
        absurd (omega (arith, ints, first, last, same, end))
      where
        within : (b : Bool) → (suc (suc c) == n) ≡ b → not b ≡ true → suc (suc c) < n
        within true e t = absurd (let bad : false ≡ true = t in cc)
        within false e t = let other = differs (suc (suc c)) n e in omega (arith, below, other)

coordinate_held : (axis : Axis) (n c : ℕ) (low high : ℤ) (dim : Dim) (x : ℤ) → c < n → IsFringe low → IsFringe high → has_dim axis n c c dim x ≡ true → IsCoordinate dim x → IsCoordinate (held_dim axis n c low high dim) x
coordinate_held axis n c low high Flood x below down up has is = is
coordinate_held axis n c low high (Range lo hi step align) x below down up has is =
    let p = and_parts (int_le (block_first axis n c) x) (int_le x (block_last axis n c)) has in
    let first : block_first axis n c ≤ℤ x = le_from_test _ _ p.0 in
    let last : x ≤ℤ block_last axis n c = le_from_test _ _ p.1 in
    let some : is_block_empty axis n c ≡ false = not_empty axis n c x below first last in
    let a = is.0 in
    let b = is.1 in
    let d = down.0 in
    let u = up.0 in
    rw some (omega (arith, ints, clamps, a, first, d), omega (arith, ints, clamps, b, last, u), unit_multiple x _ (pos 1) refl)

-- ---- tuples
each_from : (f g : ℕ → Dim) (t : List ℤ) → ((i : ℕ) (x : ℤ) → i < 3 → x ≡ get_or t i (pos 0) → IsCoordinate (f i) x → IsCoordinate (g i) x) → AllZip IsCoordinate (by_number f) t → AllZip IsCoordinate (by_number g) t
each_from f g [] each z = absurd z
each_from f g (a ∷ []) each z = absurd z.1
each_from f g (a ∷ b ∷ []) each z = absurd z.1.1
each_from f g (a ∷ b ∷ c ∷ []) each z = (each 0 a (omega arith) refl z.0, (each 1 b (omega arith) refl z.1.0, (each 2 c (omega arith) refl z.1.1.0, tt)))
each_from f g (a ∷ b ∷ c ∷ d ∷ t) each z = absurd z.1.1.1

emptied_member : (rank : ℕ) (dims : List Dim) (t : List ℤ) → AllZip IsCoordinate (emptied rank dims) t → AllZip IsCoordinate dims t
emptied_member zero dims t z = z
emptied_member (suc rank) [] t z = z
emptied_member (suc rank) (d ∷ dims) [] z = absurd z
emptied_member (suc rank) (Flood ∷ dims) (x ∷ t) z = (z.0, emptied_member rank dims t z.1)
emptied_member (suc rank) (Range lo hi step align ∷ dims) (x ∷ t) z = absurd (no_coordinate x z.0)

has_some : (r : Region) (t : List ℤ) → All HasStep r.dims → IsMember r t → has_none r ≡ false
has_some r t steps is =
    let some = (members_iff r t steps).1 is in
    let place = some.1 in
    let count = length-tuple_count r.dims steps in
    no_count (tuple_count r.dims) (omega (arith, place, count))

has_told : (axes : List Axis) (ns cs ks : List ℕ) (dims : List Dim) (t : List ℤ) (e : Axis) (d : Dim) → length axes ≡ 3 → length ns ≡ 3 → length cs ≡ 3 → length ks ≡ 3 → length dims ≡ 3 → length t ≡ 3
    → has_each axes ns cs ks dims t ≡ has_each (three axes e) (three ns 0) (three cs 0) (three ks 0) (three dims d) (three t (pos 0))
has_told axes ns cs ks dims t e d la ln lc lk ld lt =
    ap (λ l. has_each l ns cs ks dims t) (rebuilt axes e la)
    ∙ (ap (λ l. has_each (three axes e) l cs ks dims t) (rebuilt ns 0 ln)
    ∙ (ap (λ l. has_each (three axes e) (three ns 0) l ks dims t) (rebuilt cs 0 lc)
    ∙ (ap (λ l. has_each (three axes e) (three ns 0) (three cs 0) l dims t) (rebuilt ks 0 lk)
    ∙ (ap (λ l. has_each (three axes e) (three ns 0) (three cs 0) (three ks 0) l t) (rebuilt dims d ld)
    ∙ ap (λ l. has_each (three axes e) (three ns 0) (three cs 0) (three ks 0) (three dims d) l) (rebuilt t (pos 0) lt)))))

three_parts : (a b c : Bool) → (a && (b && (c && true))) ≡ true → (a ≡ true) × (b ≡ true) × (c ≡ true)
three_parts true true true e = (refl, refl, refl)
three_parts true true false e = absurd (let bad : false ≡ true = e in cc)
three_parts true false c e = absurd (let bad : false ≡ true = e in cc)
three_parts false b c e = absurd (let bad : false ≡ true = e in cc)

member_length : (dims : List Dim) (t : List ℤ) → AllZip IsCoordinate dims t → length t ≡ length dims
member_length [] [] z = refl
member_length [] (x ∷ t) z = absurd z
member_length (d ∷ dims) [] z = absurd z
member_length (d ∷ dims) (x ∷ t) z = ap suc (member_length dims t z.1)

-- ---- held boxes
module _ (blocks : Blocks) (box : ArrayBox) (p : ℕ) (are : AreBlocks blocks) (array : IsArrayBox box) (has : HasThree box) (inside : p < processors_of blocks.grid) where
  abbrev f : ℕ → Dim
  f i = held_number blocks box p are array has.low has.high has.dims inside i

  same : by_number f ≡ each_held (axes_at blocks box.shape.rank) (cuts blocks.grid box.shape.rank) (blocks_at (cuts blocks.grid box.shape.rank) p) box.low box.high box.shape.dims
  same = helds_are blocks box p are array has.low has.high has.dims inside

  pub region_of_held : IsRegion (held_of blocks box p)
  region_of_held = held_is_region blocks box p are array has.low has.high has.dims inside

  abbrev axis_of : ℕ → Axis
  axis_of i = get_or (axes_at blocks box.shape.rank) i no_axis

  abbrev cut_of : ℕ → ℕ
  cut_of i = get_or (cuts blocks.grid box.shape.rank) i 0

  abbrev block_at : ℕ → ℕ
  block_at i = get_or (blocks_at (cuts blocks.grid box.shape.rank) p) i 0

  abbrev low_of : ℕ → ℤ
  low_of i = get_or box.low i (pos 0)

  abbrev high_of : ℕ → ℤ
  high_of i = get_or box.high i (pos 0)

  abbrev dim_of : ℕ → Dim
  dim_of i = get_or box.shape.dims i padding

  abbrev held_dims : List Dim
  held_dims = each_held (axes_at blocks box.shape.rank) (cuts blocks.grid box.shape.rank) (blocks_at (cuts blocks.grid box.shape.rank) p) box.low box.high box.shape.dims

  from_held : (t : List ℤ) → AllZip IsCoordinate held_dims t → AllZip IsCoordinate box.shape.dims t
  from_held t z =
      subst (λ ds. AllZip IsCoordinate ds t) (sym (rebuilt box.shape.dims padding has.dims))
      (each_from f dim_of t (λ i x below e c. held_coordinate (axis_of i) (cut_of i) (block_at i) (low_of i) (high_of i) (dim_of i) x (array.full i padding (omega (arith, has.dims, below))) c)
      (subst (λ ds. AllZip IsCoordinate ds t) (sym same) z))

  pub held_in_storage : (t : List ℤ) → IsMember (held_of blocks box p) t → IsMember box.shape t
  held_in_storage t is = by_test (has_none (record { rank = box.shape.rank; dims = held_dims })) is
    where
      by_test : (b : Bool) → IsMember (if b then record { rank = box.shape.rank; dims = emptied box.shape.rank held_dims } else record { rank = box.shape.rank; dims = held_dims }) t → IsMember box.shape t
      by_test true z = from_held t (emptied_member box.shape.rank held_dims t z)
      by_test false z = from_held t z

  -- the processor's block has the tuple's coordinate in the dimension
  abbrev IsHere : List ℤ → ℕ → Type 0
  IsHere t i = has_dim (axis_of i) (cut_of i) (block_at i) (block_at i) (dim_of i) (get_or t i (pos 0)) ≡ true

  -- a place of the storage that the processor owns is held
  pub owned_is_held : (t : List ℤ) → IsMember box.shape t → owner_for blocks p box.shape t ≡ p → IsMember (held_of blocks box p) t
  owned_is_held t is owner =
      let rank = box.shape.rank in
      let ns = cuts blocks.grid rank in
      let axes = axes_at blocks rank in
      let above = array.region.rank_above in
      let below = array.region.rank_below in
      let c : AreCuts blocks.grid rank = are_cuts blocks.grid rank above below in
      let bounds : All HasBounds box.shape.dims = λ k d here. (array.region.dims k d here).1 in
      let steps : All HasStep box.shape.dims = has_steps box.shape.dims array.region.dims in
      let near = near_of box.shape.dims t bounds (each_among box.shape.dims t steps is) in
      let told : has_each axes ns (blocks_at ns p) (blocks_at ns p) box.shape.dims t ≡ true =
      (has_owner_for blocks p p box.shape t are above below has.dims inside inside near).1 (sym owner) in
      let long : length t ≡ 3 = member_length box.shape.dims t is ∙ has.dims in
      let parts = three_parts _ _ _ (sym (has_told axes ns (blocks_at ns p) (blocks_at ns p) box.shape.dims t no_axis padding (axes_three blocks rank are above below) c.three (blocks_length ns p ∙ c.three) (blocks_length ns p ∙ c.three) has.dims long) ∙ told) in
      let each : (i : ℕ) (x : ℤ) → i < 3 → x ≡ get_or t i (pos 0) → IsCoordinate (dim_of i) x → IsCoordinate (f i) x =
      λ i x most e coordinate. coordinate_held (axis_of i) (cut_of i) (block_at i) (low_of i) (high_of i) (dim_of i) x (block_inside i most) (array.low i (pos 0) (omega (arith, has.low, most))) (array.high i (pos 0) (omega (arith, has.high, most)))
      (subst (λ y. has_dim (axis_of i) (cut_of i) (block_at i) (block_at i) (dim_of i) y ≡ true) (sym e) (part_at i most parts)) coordinate in
      let held : AllZip IsCoordinate held_dims t =
      subst (λ ds. AllZip IsCoordinate ds t) same (each_from dim_of f t each (subst (λ ds. AllZip IsCoordinate ds t) (rebuilt box.shape.dims padding has.dims) is)) in
      some_held held
    where
      block_inside : (i : ℕ) → i < 3 → block_at i < cut_of i
      block_inside i most =
          let ns = cuts blocks.grid box.shape.rank in
          let c : AreCuts blocks.grid box.shape.rank = are_cuts blocks.grid box.shape.rank array.region.rank_above array.region.rank_below in
          let count = c.count in
          let low : AreBelow (blocks_at ns p) ns = blocks_are_below ns p c.some (omega (arith, count, inside)) in
          AllZip-get_or ◌<◌ (blocks_at ns p) ns i 0 0 low (omega (arith, blocks_length ns p, c.three, most))

      part_at : (i : ℕ) → i < 3 → IsHere t 0 × IsHere t 1 × IsHere t 2 → IsHere t i
      part_at zero most h = h.0
      part_at (suc zero) most h = h.1
      part_at (suc (suc zero)) most h = h.2
      part_at (suc (suc (suc i))) most h = absurd (omega (arith, most))

      held_step : (dim : Dim) (axis : Axis) (n c : ℕ) (low high : ℤ) → HasStep (held_dim axis n c low high dim)
      held_step Flood axis n c low high = tt
      held_step (Range lo hi step align) axis n c low high = by_test (is_block_empty axis n c)
        where
          by_test : (b : Bool) → HasStep (if b then nothing else all_from (int_max lo (block_first axis n c -ℤ low)) (int_min hi (block_last axis n c +ℤ high)))
          by_test true = omega (arith, ints)
          by_test false = omega (arith, ints)

      some_held : AllZip IsCoordinate held_dims t → IsMember (held_of blocks box p) t
      some_held z =
          let steps : All HasStep held_dims = subst (All HasStep) same (all_by_number HasStep f (λ i most. held_step (dim_of i) (axis_of i) (cut_of i) (block_at i) (low_of i) (high_of i))) in
          let some : has_none (record { rank = box.shape.rank; dims = held_dims }) ≡ false = has_some (record { rank = box.shape.rank; dims = held_dims }) t steps z in
          by_test (has_none (record { rank = box.shape.rank; dims = held_dims })) some
        where
          by_test : (b : Bool) → b ≡ false → IsMember (if b then record { rank = box.shape.rank; dims = emptied box.shape.rank held_dims } else record { rank = box.shape.rank; dims = held_dims }) t
          by_test true e = absurd (let bad : true ≡ false = e in cc)
          by_test false e = z

-- ---- needs
abbrev IsLong : Region → Type 0
IsLong r = length r.dims ≡ 3

box_is : (a : Arrangement) (array : ℕ) → All IsArrayBox a.boxes → array < length a.boxes → IsArrayBox (box_at a array)
box_is a array arrays below = arrays array no_box below

pub needs_of : (a : Arrangement) (array to : ℕ) (r : Region) (shift : List ℤ) → All IsArrayBox a.boxes → array < length a.boxes → HasThree (box_at a array) → to < processors_of a.grid
    → 1 ≤ r.rank → r.rank ≤ 3 → length r.dims ≡ 3 → length shift ≡ 3
    → IsPermutation (members (needed_of a array to r shift)) (flat_map (λ from. members (piece_of a array from to r shift)) (processors a.grid))
needs_of a array to r shift arrays below has inside rank_above rank_below wide long =
    let blocks = laid_out a in
    let box = box_at a array in
    let are = blocks_are a.grid a.boxes arrays in
    let held : IsRegion (held_box_of a array to) = region_of_held blocks box to are (box_is a array arrays below) has inside in
    let own : length (held_box_of a array to).dims ≡ 3 = held_length box.shape.rank (each_held (axes_at blocks box.shape.rank) (cuts blocks.grid box.shape.rank) (blocks_at (cuts blocks.grid box.shape.rank) to) box.low box.high box.shape.dims)
    (sym (ap length (helds_are blocks box to are (box_is a array arrays below) has.low has.high has.dims inside))) in
    parts_of_owners blocks to (needed_of a array to r shift) are rank_above rank_below
    (needed_length blocks (held_box_of a array to) to r shift are rank_above rank_below own wide long)
    (needed_has_bounds blocks (held_box_of a array to) to r shift are rank_above rank_below own wide long (λ k d here. (held.dims k d here).1)) inside
  where
    held_length : (rank : ℕ) (dims : List Dim) → length dims ≡ 3 → length (or_emptied (record { rank = rank; dims = dims })).dims ≡ 3
    held_length rank dims l = by_test (has_none (record { rank = rank; dims = dims }))
      where
        by_test : (b : Bool) → IsLong (if b then record { rank = rank; dims = emptied rank dims } else record { rank = rank; dims = dims })
        by_test true = emptied_length rank dims ∙ l
        by_test false = l
