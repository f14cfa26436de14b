-- The places that a temporary gets are those that it may have.
use Rattle.std.proofs.Common.{◌≡◌, inl, inr, ℕ, zero, suc, ◌-◌, ◌*◌, ◌<◌, false, cond, List, [], ◌∷◌, length, length-drop, map, drop, replicate, refl, sym, ap, ◌∙◌, subst, ℤ, pos, ◌≤ℤ◌, ◌-ℤ◌, ◌*ℤ◌, arith}
use Rattle.std.specs.Prelude.{All}
use Rattle.std.specs.Int.{int_max, int_min}
use Rattle.std.proofs.lemmas.Int.{int_max_is, int_min_is, ints}
use Rattle.std.proofs.lemmas.List.{length-map}
use Rattle.std.proofs.lemmas.List.Elements.{All-nil, All-cons, All-head, All-tail}
use Rattle.grid_layout.specs.of_zpl_region.declared.dims.Dim.{Dim}
use Rattle.grid_layout.specs.of_zpl_region.declared.dims.Dim.TheVariants.{Range, Flood}
use Rattle.grid_layout.specs.of_zpl_region.declared.regions.Region.{Region}
use Rattle.grid_layout.specs.of_zpl_region.Dim.{HasStep, dim_met}
use Rattle.grid_layout.specs.of_zpl_region.Ends.{coordinate_count, first_of, last_of, has_none, tuple_count}
use Rattle.grid_layout.specs.of_zpl_region.Hull.{all_from, dim_hull, hull, emptied}
use Rattle.grid_layout.specs.of_zpl_region.Region.{components, each_met, padding}
use Rattle.grid_layout.proofs.of_zpl_region.DimLemmas.{Among-coordinates}
use Rattle.grid_layout.proofs.of_zpl_region.EndLemmas.{length-tuple_count, positive_left, positive_right, some_coordinate}
use Rattle.grid_layout.proofs.of_zpl_region.HullLemmas.{ends_in_bounds, some_from}
use Rattle.grid_layout.specs.Layout.{laid_out, own_first, own_last}
use Rattle.node_form.specs.declared.arrays.ArrayDim.{ArrayDim}
use Rattle.node_form.specs.declared.arrays.ArrayDim.TheVariants as array
use Rattle.node_form.specs.declared.arrays.ArrayRow.{ArrayRow}
use Rattle.node_form.specs.declared.tables.Tables.{Tables}
use Rattle.node_form.specs.Fits.{FitsArray, IsUnused}
use Rattle.grid_meaning.specs.Place.{own_part}
use Rattle.grid_meaning.specs.Room.{each_room, room_dim, room_of}
use Rattle.grid_meaning.specs.State.{AreRoomIn, IsRoom, IsRoomIn, IsSlot}
use Rattle.grid_meaning.specs.Stored.{arrangement_of}

-- ---- one dimension of the room has coordinates
record IsSolid (d : Dim) : Type 0 where
  some : 0 < coordinate_count d
  step : HasStep d

some_between : (lo hi : ℤ) → lo ≤ℤ hi → IsSolid (all_from lo hi)
some_between lo hi ordered =
    let step : HasStep (all_from lo hi) = omega (arith, ints) in
    let none : lo -ℤ lo ≡ pos 0 *ℤ pos 1 = omega (arith, ints) in
    let least : lo ≤ℤ lo = omega (arith, ints) in
    record {
      some = some_coordinate (all_from lo hi) lo step
          (Among-coordinates (all_from lo hi) lo step (least, ordered, (pos 0, none)));
      step = step;
    }

solid_room : (row : ArrayDim) (d : Dim) → HasStep d → 0 < coordinate_count d → IsSolid (room_dim row (dim_hull d))
solid_room array.Star d step some = record { some = omega arith; step = tt }
solid_room (array.Range a b c e) Flood step some = some_between (pos 0) (pos 0) (omega (arith, ints))
solid_room (array.Range a b c e) (Range lo hi step align) stepped some =
    some_between (first_of (Range lo hi step align)) (last_of (Range lo hi step align))
    (ends_in_bounds lo hi step align stepped some).1

solid_rooms : (rows : List ArrayDim) (dims : List Dim) → All HasStep dims → 0 < tuple_count dims
    → All IsSolid (each_room rows (map dim_hull dims))
solid_rooms [] dims steps some = All-nil IsSolid
solid_rooms (row ∷ rows) [] steps some = All-nil IsSolid
solid_rooms (row ∷ rows) (d ∷ dims) steps some =
    All-cons IsSolid (room_dim row (dim_hull d)) (each_room rows (map dim_hull dims))
    (solid_room row d (All-head HasStep d dims steps) (positive_left (coordinate_count d) (tuple_count dims) some))
    (solid_rooms rows dims (All-tail HasStep d dims steps) (positive_right (coordinate_count d) (tuple_count dims) some))

solid_count : (dims : List Dim) → All IsSolid dims → 0 < tuple_count dims
solid_count [] solid = omega arith
solid_count (d ∷ dims) solid = positive (All-head IsSolid d dims solid).some (solid_count dims (All-tail IsSolid d dims solid))
  where
    positive : {m n : ℕ} → 0 < m → 0 < n → 0 < m * n
    positive {m} {n} f g = grind arith

solid_steps : (dims : List Dim) → All IsSolid dims → All HasStep dims
solid_steps dims solid = λ k e below. (solid k e below).step

-- ---- it lies in the block, or is the position `0..0`
room_within : (row : ArrayDim) (low high : ℤ) (d : Dim) → HasStep d → 0 < coordinate_count (dim_met low high d)
    → IsRoomIn row low high (room_dim row (dim_hull (dim_met low high d)))
room_within array.Star low high d step some = tt
room_within (array.Range a b c e) low high Flood step some = (refl, inl (refl, refl))
room_within (array.Range a b c e) low high (Range lo hi step align) stepped some =
    let ends = ends_in_bounds (int_max lo low) (int_min hi high) step align stepped some in
    (refl, inr (above lo low _ ends.0, below hi high _ ends.2))
  where
    above : (a b x : ℤ) → int_max a b ≤ℤ x → b ≤ℤ x
    above a b x most = omega (arith, ints, int_max_is a b)

    below : (a b x : ℤ) → x ≤ℤ int_min a b → x ≤ℤ b
    below a b x least = omega (arith, ints, int_min_is a b)

-- past the rank a temporary's dimension is a range, and the region's is padding
room_padding : (row : ArrayDim) → IsUnused row → room_dim row padding ≡ padding
room_padding (array.Range a b c e) unused = refl
room_padding array.Star unused = absurd unused

padding_within : (row : ArrayDim) (low high : ℤ) → IsUnused row → IsRoomIn row low high (room_dim row padding)
padding_within (array.Range a b c e) low high unused = (refl, inl (refl, refl))
padding_within array.Star low high unused = absurd unused

met_padding : (lows highs : List ℤ) (k : ℕ)
    → each_met (components zero lows) (components zero highs) (replicate k padding) ≡ replicate k padding
met_padding [] highs k = refl
met_padding (l ∷ lows) [] k = refl
met_padding (l ∷ lows) (h ∷ highs) zero = refl
met_padding (l ∷ lows) (h ∷ highs) (suc k) = ap (λ dims. padding ∷ dims) (met_padding lows highs k)

hull_padding : (k : ℕ) → map dim_hull (replicate k padding) ≡ replicate k padding
hull_padding zero = refl
hull_padding (suc k) = ap (λ dims. padding ∷ dims) (hull_padding k)

paddings_within : (rows : List ArrayDim) (lows highs : List ℤ) (k : ℕ) → All IsUnused rows
    → AreRoomIn rows lows highs (each_room rows (replicate k padding))
paddings_within [] lows highs k unused = tt
paddings_within (row ∷ rows) [] highs k unused = tt
paddings_within (row ∷ rows) (l ∷ lows) [] k unused = tt
paddings_within (row ∷ rows) (l ∷ lows) (h ∷ highs) zero unused = tt
paddings_within (row ∷ rows) (l ∷ lows) (h ∷ highs) (suc k) unused = (
  padding_within row l h (All-head IsUnused row rows unused),
  paddings_within rows lows highs k (All-tail IsUnused row rows unused),
)

rooms_within : (rank k : ℕ) (rows : List ArrayDim) (lows highs : List ℤ) (dims : List Dim) → All HasStep dims
    → 0 < tuple_count (each_met (components rank lows) (components rank highs) dims) → drop rank dims ≡ replicate k padding
    → All IsUnused (drop rank rows)
    → AreRoomIn rows lows highs (each_room rows (map dim_hull (each_met (components rank lows) (components rank highs) dims)))
rooms_within zero k rows lows highs dims steps some padded unused =
    let same : map dim_hull (each_met (components zero lows) (components zero highs) dims) ≡ replicate k padding =
    ap (λ ds. map dim_hull (each_met (components zero lows) (components zero highs) ds)) padded
    ∙ (ap (map dim_hull) (met_padding lows highs k) ∙ hull_padding k) in
    subst (λ ds. AreRoomIn rows lows highs (each_room rows ds)) (sym same) (paddings_within rows lows highs k unused)
rooms_within (suc rank) k [] lows highs dims steps some padded unused = tt
rooms_within (suc rank) k (row ∷ rows) [] highs dims steps some padded unused = tt
rooms_within (suc rank) k (row ∷ rows) (l ∷ lows) [] dims steps some padded unused = tt
rooms_within (suc rank) k (row ∷ rows) (l ∷ lows) (h ∷ highs) [] steps some padded unused = tt
rooms_within (suc rank) k (row ∷ rows) (l ∷ lows) (h ∷ highs) (d ∷ dims) steps some padded unused =
    let rest = each_met (components rank lows) (components rank highs) dims in (
      room_within row l h d (All-head HasStep d dims steps)
          (positive_left (coordinate_count (dim_met l h d)) (tuple_count rest) some),
      rooms_within rank k rows lows highs dims (All-tail HasStep d dims steps)
          (positive_right (coordinate_count (dim_met l h d)) (tuple_count rest) some) padded unused,
    )

-- ---- padding, and three dimensions
met_padded : (rank k : ℕ) (lows highs : List ℤ) (dims : List Dim) → drop rank dims ≡ replicate k padding
    → drop rank (each_met (components rank lows) (components rank highs) dims) ≡ replicate k padding
met_padded zero k lows highs dims is =
    ap (each_met (components zero lows) (components zero highs)) is ∙ met_padding lows highs k
met_padded (suc rank) k [] highs dims is = is
met_padded (suc rank) k (l ∷ lows) [] dims is = is
met_padded (suc rank) k (l ∷ lows) (h ∷ highs) [] is = is
met_padded (suc rank) k (l ∷ lows) (h ∷ highs) (d ∷ dims) is = met_padded rank k lows highs dims is

met_steps : (lows highs : List ℤ) (dims : List Dim) → All HasStep dims → All HasStep (each_met lows highs dims)
met_steps [] highs dims steps = steps
met_steps (l ∷ lows) [] dims steps = steps
met_steps (l ∷ lows) (h ∷ highs) [] steps = All-nil HasStep
met_steps (l ∷ lows) (h ∷ highs) (d ∷ dims) steps =
    All-cons HasStep (dim_met l h d) (each_met lows highs dims) (kept d (All-head HasStep d dims steps))
    (met_steps lows highs dims (All-tail HasStep d dims steps))
  where
    kept : (e : Dim) → HasStep e → HasStep (dim_met l h e)
    kept Flood step = tt
    kept (Range lo hi step align) stepped = stepped

met_many : (lows highs : List ℤ) (dims : List Dim) → length (each_met lows highs dims) ≡ length dims
met_many [] highs dims = refl
met_many (l ∷ lows) [] dims = refl
met_many (l ∷ lows) (h ∷ highs) [] = refl
met_many (l ∷ lows) (h ∷ highs) (d ∷ dims) =
    let rest = met_many lows highs dims in
    omega arith

drop_hulls : (rank : ℕ) (dims : List Dim) → drop rank (map dim_hull dims) ≡ map dim_hull (drop rank dims)
drop_hulls zero dims = refl
drop_hulls (suc rank) [] = refl
drop_hulls (suc rank) (d ∷ dims) = drop_hulls rank dims

no_room : (rows : List ArrayDim) → each_room rows [] ≡ []
no_room [] = refl
no_room (row ∷ rows) = refl

drop_rooms : (rank : ℕ) (rows : List ArrayDim) (dims : List Dim)
    → drop rank (each_room rows dims) ≡ each_room (drop rank rows) (drop rank dims)
drop_rooms zero rows dims = refl
drop_rooms (suc rank) [] dims = refl
drop_rooms (suc rank) (row ∷ rows) [] = sym (no_room (drop rank rows))
drop_rooms (suc rank) (row ∷ rows) (d ∷ dims) = drop_rooms rank rows dims

rooms_of_padding : (rows : List ArrayDim) (k : ℕ) → length rows ≡ k → All IsUnused rows
    → each_room rows (replicate k padding) ≡ replicate k padding
rooms_of_padding [] zero long unused = refl
rooms_of_padding [] (suc k) long unused = absurd (omega arith)
rooms_of_padding (row ∷ rows) zero long unused = absurd (omega arith)
rooms_of_padding (row ∷ rows) (suc k) long unused =
    ap (λ d. d ∷ each_room rows (replicate k padding)) (room_padding row (All-head IsUnused row rows unused))
    ∙ ap (λ dims. padding ∷ dims) (rooms_of_padding rows k (omega arith) (All-tail IsUnused row rows unused))

rooms_many : (rows : List ArrayDim) (dims : List Dim) → length rows ≡ length dims → length (each_room rows dims) ≡ length rows
rooms_many [] dims same = refl
rooms_many (row ∷ rows) [] same = absurd (omega arith)
rooms_many (row ∷ rows) (d ∷ dims) same =
    let rest = rooms_many rows dims (omega arith) in
    omega arith

-- ---- the room of a region
module _ (code : Tables) (p : ℕ) (row : ArrayRow) (region : Region) (fits : FitsArray row) (three : length row.dims ≡ 3)
    (slot : IsSlot row.rank region) where
  own_steps : All HasStep (own_part code p region).dims
  own_steps = met_steps _ _ region.dims slot.fits.steps

  hull_steps : has_none (own_part code p region) ≡ false
      → All HasStep (each_room row.dims (map dim_hull (own_part code p region).dims))
  hull_steps some = solid_steps _ (solid_rooms row.dims _ own_steps (some_from (own_part code p region) some))

  is_hulls : has_none (own_part code p region) ≡ false
      → IsRoom code p row (record { rank = row.rank; dims = each_room row.dims (map dim_hull (own_part code p region).dims) })
  is_hulls some =
      let own = own_part code p region in
      let solid : All IsSolid (each_room row.dims (map dim_hull own.dims)) =
      solid_rooms row.dims own.dims own_steps (some_from own some) in
      record {
        some = λ none. absurd (omega (
          arith,
          ap length none,
          length-tuple_count (each_room row.dims (map dim_hull own.dims)) (solid_steps _ solid),
          solid_count _ solid,
        ));
        ranked = refl;
        padded = drop_rooms row.rank row.dims (map dim_hull own.dims)
            ∙ (ap (each_room (drop row.rank row.dims)) (hulls ∙ hull_padding (3 - row.rank))
            ∙ rooms_of_padding (drop row.rank row.dims) (3 - row.rank) (left_over row.rank row.dims three) fits.padded);
        many = rooms_many row.dims (map dim_hull own.dims)
            (three ∙ sym (length-map own.dims dim_hull ∙ (met_many _ _ region.dims ∙ slot.many))) ∙ three;
        dims = subst (λ rank. AreRoomIn row.dims (own_first (laid_out (arrangement_of code)) rank p)
            (own_last (laid_out (arrangement_of code)) rank p) (each_room row.dims (map dim_hull own.dims))) slot.ranked
            (rooms_within region.rank (3 - region.rank) row.dims _ _ region.dims slot.fits.steps (some_from own some)
            slot.fits.padded (subst (λ rank. All IsUnused (drop rank row.dims)) (sym slot.ranked) fits.padded));
      }
    where
      hulls : drop row.rank (map dim_hull (own_part code p region).dims) ≡ map dim_hull (replicate (3 - row.rank) padding)
      hulls =
          drop_hulls row.rank (own_part code p region).dims
          ∙ ap (map dim_hull)
          (subst (λ rank. drop rank (own_part code p region).dims ≡ replicate (3 - rank) padding) slot.ranked
          (met_padded region.rank (3 - region.rank) _ _ region.dims slot.fits.padded))

      left_over : (rank : ℕ) (rows : List ArrayDim) → length rows ≡ 3 → length (drop rank rows) ≡ 3 - rank
      left_over rank rows long = omega (arith, length-drop rank rows, long)

  hull_dims : has_none (own_part code p region) ≡ false → (hull (own_part code p region)).dims ≡ map dim_hull (own_part code p region).dims
  hull_dims some =
      ap (λ none. cond none (emptied (own_part code p region).rank (own_part code p region).dims)
      (map dim_hull (own_part code p region).dims)) some

  pub room_steps : has_none (own_part code p region) ≡ false → All HasStep (room_of row (own_part code p region) false).dims
  room_steps some = subst (λ dims. All HasStep (each_room row.dims dims)) (sym (hull_dims some)) (hull_steps some)

  pub is_room : has_none (own_part code p region) ≡ false → IsRoom code p row (room_of row (own_part code p region) false)
  is_room some =
      subst (λ dims. IsRoom code p row (record { rank = row.rank; dims = each_room row.dims dims })) (sym (hull_dims some))
      (is_hulls some)
