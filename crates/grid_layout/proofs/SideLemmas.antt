-- The blocks of a processor: what is said of them is said of the dimensions' blocks.
use Rattle.std.proofs.Common.{◌≡◌, refl, sym, ◌∙◌, ap, subst, ℕ, false, List, [], ◌∷◌, length, get_or, map, ℤ, pos, ◌+ℤ◌, ◌-ℤ◌}
use Rattle.std.specs.Int.{int_max, int_min}
use Rattle.zpl_region.specs.declared.dims.Dim.{Dim}
use Rattle.zpl_region.specs.declared.dims.Dim.TheVariants.{Range, Flood}
use Rattle.zpl_region.specs.Hull.{all_from}
use Rattle.zpl_region.specs.declared.regions.Region.{Region}
use Rattle.zpl_region.specs.Region.{components}
use Rattle.grid_layout.specs.declared.axes.Axis.{Axis}
use Rattle.grid_layout.specs.declared.blocks.Blocks.{Blocks}
use Rattle.grid_layout.specs.declared.boxes.ArrayBox.{ArrayBox}
use Rattle.grid_layout.specs.declared.sides.Side.{Side}
use Rattle.grid_layout.specs.Block.{block_first, block_last}
use Rattle.grid_layout.specs.Grid.{blocks_at, cuts}
use Rattle.grid_layout.specs.Layout.{axes_at, each_bound, each_held, held_of, or_emptied}
use Rattle.grid_layout.specs.Piece.{each_needed, each_owned, needed_in, owned_part, part, place_dim}
use Rattle.grid_layout.specs.Sides.{each_side, each_side_held, each_side_needed, each_side_owned, held_between, needed_between, owned_between, side_held, side_needed, side_of, side_owned, sides_of}
use Rattle.grid_layout.proofs.ThreeLemmas.{rebuilt, three, three_same}

-- ---- what the blocks' bounds say
pub firsts_of : (axes : List Axis) (ns cs : List ℕ) → map (λ side. side.first) (each_side axes ns cs) ≡ each_bound block_first axes ns cs
firsts_of [] ns cs = refl
firsts_of (axis ∷ axes) [] cs = refl
firsts_of (axis ∷ axes) (n ∷ ns) [] = refl
firsts_of (axis ∷ axes) (n ∷ ns) (c ∷ cs) = ap (λ t. block_first axis n c ∷ t) (firsts_of axes ns cs)

pub lasts_of : (axes : List Axis) (ns cs : List ℕ) → map (λ side. side.last) (each_side axes ns cs) ≡ each_bound block_last axes ns cs
lasts_of [] ns cs = refl
lasts_of (axis ∷ axes) [] cs = refl
lasts_of (axis ∷ axes) (n ∷ ns) [] = refl
lasts_of (axis ∷ axes) (n ∷ ns) (c ∷ cs) = ap (λ t. block_last axis n c ∷ t) (lasts_of axes ns cs)

pub helds_of : (axes : List Axis) (ns cs : List ℕ) (lows highs : List ℤ) (dims : List Dim)
    → each_side_held (each_side axes ns cs) lows highs dims ≡ each_held axes ns cs lows highs dims
helds_of [] ns cs lows highs dims = refl
helds_of (axis ∷ axes) [] cs lows highs dims = refl
helds_of (axis ∷ axes) (n ∷ ns) [] lows highs dims = refl
helds_of (axis ∷ axes) (n ∷ ns) (c ∷ cs) [] highs dims = refl
helds_of (axis ∷ axes) (n ∷ ns) (c ∷ cs) (low ∷ lows) [] dims = refl
helds_of (axis ∷ axes) (n ∷ ns) (c ∷ cs) (low ∷ lows) (high ∷ highs) [] = refl
helds_of (axis ∷ axes) (n ∷ ns) (c ∷ cs) (low ∷ lows) (high ∷ highs) (Range lo hi step align ∷ dims) =
    ap (λ t. side_held (side_of axis n c) low high (Range lo hi step align) ∷ t) (helds_of axes ns cs lows highs dims)
helds_of (axis ∷ axes) (n ∷ ns) (c ∷ cs) (low ∷ lows) (high ∷ highs) (Flood ∷ dims) =
    ap (λ t. Flood ∷ t) (helds_of axes ns cs lows highs dims)

pub needs_of : (axes : List Axis) (ns cs : List ℕ) (helds : List Dim) (v : List ℤ) (dims : List Dim)
    → each_side_needed (each_side axes ns cs) helds v dims ≡ each_needed axes ns cs helds v dims
needs_of [] ns cs helds v dims = refl
needs_of (axis ∷ axes) [] cs helds v dims = refl
needs_of (axis ∷ axes) (n ∷ ns) [] helds v dims = refl
needs_of (axis ∷ axes) (n ∷ ns) (c ∷ cs) [] v dims = refl
needs_of (axis ∷ axes) (n ∷ ns) (c ∷ cs) (held ∷ helds) [] dims = refl
needs_of (axis ∷ axes) (n ∷ ns) (c ∷ cs) (held ∷ helds) (d ∷ v) [] = refl
needs_of (axis ∷ axes) (n ∷ ns) (c ∷ cs) (held ∷ helds) (d ∷ v) (dim ∷ dims) =
    ap (λ t. side_needed (side_of axis n c) held d dim ∷ t) (needs_of axes ns cs helds v dims)

pub owns_of : (axes : List Axis) (ns cs ks : List ℕ) (dims : List Dim)
    → each_side_owned (each_side axes ns cs) (each_side axes ns ks) dims ≡ each_owned axes ns cs ks dims
owns_of [] ns cs ks dims = refl
owns_of (axis ∷ axes) [] cs ks dims = refl
owns_of (axis ∷ axes) (n ∷ ns) [] ks dims = refl
owns_of (axis ∷ axes) (n ∷ ns) (c ∷ cs) [] dims = refl
owns_of (axis ∷ axes) (n ∷ ns) (c ∷ cs) (k ∷ ks) [] = refl
owns_of (axis ∷ axes) (n ∷ ns) (c ∷ cs) (k ∷ ks) (Range lo hi step align ∷ dims) =
    ap (λ t. part (block_first axis n c) (block_last axis n c) (Range lo hi step align) ∷ t) (owns_of axes ns cs ks dims)
owns_of (axis ∷ axes) (n ∷ ns) (c ∷ cs) (k ∷ ks) (Flood ∷ dims) =
    ap (λ t. side_owned (side_of axis n c) (side_of axis n k) Flood ∷ t) (owns_of axes ns cs ks dims)

-- ---- what is held, needed and owned
pub held_is : (blocks : Blocks) (box : ArrayBox) (p : ℕ) (sides : List Side) (held : Region) → sides ≡ sides_of blocks box.shape.rank p
    → held ≡ held_between sides box → held ≡ held_of blocks box p
held_is blocks box p sides held are is =
    let rank = box.shape.rank in
    let ns = cuts blocks.grid rank in
    is ∙ (ap (λ ss. held_between ss box) are
    ∙ ap (λ dims. or_emptied (record { rank = rank; dims = dims })) (helds_of (axes_at blocks rank) ns (blocks_at ns p) box.low box.high box.shape.dims))

pub needed_is : (blocks : Blocks) (held : Region) (to : ℕ) (r : Region) (shift : List ℤ) (sides : List Side) (needed : Region) → sides ≡ sides_of blocks r.rank to
    → needed ≡ needed_between sides held r shift → needed ≡ needed_in blocks held to r shift
needed_is blocks held to r shift sides needed are is =
    let ns = cuts blocks.grid r.rank in
    is ∙ (ap (λ ss. needed_between ss held r shift) are
    ∙ ap (λ dims. record { rank = r.rank; dims = dims }) (needs_of (axes_at blocks r.rank) ns (blocks_at ns to) held.dims (components r.rank shift) r.dims))

pub owned_is : (blocks : Blocks) (from to : ℕ) (r : Region) (sides others : List Side) (owned : Region) → sides ≡ sides_of blocks r.rank from
    → others ≡ sides_of blocks r.rank to → owned ≡ owned_between sides others r → owned ≡ owned_part blocks from to r
owned_is blocks from to r sides others owned are those is =
    let ns = cuts blocks.grid r.rank in
    is ∙ (ap (λ ss. owned_between ss others r) are
    ∙ (ap (λ ss. owned_between (sides_of blocks r.rank from) ss r) those
    ∙ ap (λ dims. record { rank = r.rank; dims = dims }) (owns_of (axes_at blocks r.rank) ns (blocks_at ns from) (blocks_at ns to) r.dims)))

-- ---- one dimension
pub side_held_told : (side : Side) (low high : ℤ) (dim : Dim) (lo hi step align a b : ℤ) (x : Dim) → dim ≡ Range lo hi step align → side.is_empty ≡ false
    → a ≡ int_max lo (side.first -ℤ low) → b ≡ int_min hi (side.last +ℤ high) → x ≡ all_from a b → x ≡ side_held side low high dim
side_held_told side low high dim lo hi step align a b x is some p q e =
    subst (λ d. x ≡ side_held side low high d) (sym is) (rw some (e ∙ (ap (λ z. all_from z b) p ∙ ap (all_from (int_max lo (side.first -ℤ low))) q)))

pub side_needed_told : (x : Dim) (side : Side) (held : Dim) (d d' : ℤ) (dim own : Dim) (f l : ℤ) → x ≡ place_dim held d' own → d' ≡ d → own ≡ part f l dim
    → f ≡ side.first → l ≡ side.last → x ≡ side_needed side held d dim
side_needed_told x side held d d' dim own f l e p q r s =
    e ∙ (ap (λ z. place_dim held z own) p ∙ ap (place_dim held d) (q ∙ (ap (λ z. part z l dim) r ∙ ap (λ z. part side.first z dim) s)))

-- ---- three dimensions
pub sides_told : (axes : List Axis) (ns cs : List ℕ) (e : Axis) (x y z : Side) → length axes ≡ 3 → length ns ≡ 3 → length cs ≡ 3
    → x ≡ side_of (get_or axes 0 e) (get_or ns 0 0) (get_or cs 0 0) → y ≡ side_of (get_or axes 1 e) (get_or ns 1 0) (get_or cs 1 0)
    → z ≡ side_of (get_or axes 2 e) (get_or ns 2 0) (get_or cs 2 0) → x ∷ y ∷ z ∷ [] ≡ each_side axes ns cs
sides_told axes ns cs e x y z la ln lc p q r =
    three_same x y z _ _ _ p q r
    ∙ sym (ap (λ l. each_side l ns cs) (rebuilt axes e la)
    ∙ (ap (λ l. each_side (three axes e) l cs) (rebuilt ns 0 ln)
    ∙ ap (λ l. each_side (three axes e) (three ns 0) l) (rebuilt cs 0 lc)))

pub helds_told : (sides : List Side) (lows highs : List ℤ) (dims : List Dim) (s : Side) (d : Dim) (x y z : Dim)
    → length sides ≡ 3 → length lows ≡ 3 → length highs ≡ 3 → length dims ≡ 3
    → x ≡ side_held (get_or sides 0 s) (get_or lows 0 (pos 0)) (get_or highs 0 (pos 0)) (get_or dims 0 d)
    → y ≡ side_held (get_or sides 1 s) (get_or lows 1 (pos 0)) (get_or highs 1 (pos 0)) (get_or dims 1 d)
    → z ≡ side_held (get_or sides 2 s) (get_or lows 2 (pos 0)) (get_or highs 2 (pos 0)) (get_or dims 2 d)
    → x ∷ y ∷ z ∷ [] ≡ each_side_held sides lows highs dims
helds_told sides lows highs dims s d x y z ls ll lh ld p q r =
    three_same x y z _ _ _ p q r
    ∙ sym (ap (λ l. each_side_held l lows highs dims) (rebuilt sides s ls)
    ∙ (ap (λ l. each_side_held (three sides s) l highs dims) (rebuilt lows (pos 0) ll)
    ∙ (ap (λ l. each_side_held (three sides s) (three lows (pos 0)) l dims) (rebuilt highs (pos 0) lh)
    ∙ ap (λ l. each_side_held (three sides s) (three lows (pos 0)) (three highs (pos 0)) l) (rebuilt dims d ld))))

pub needs_told : (sides : List Side) (helds : List Dim) (v : List ℤ) (dims : List Dim) (s : Side) (d : Dim) (x y z : Dim)
    → length sides ≡ 3 → length helds ≡ 3 → length v ≡ 3 → length dims ≡ 3
    → x ≡ side_needed (get_or sides 0 s) (get_or helds 0 d) (get_or v 0 (pos 0)) (get_or dims 0 d)
    → y ≡ side_needed (get_or sides 1 s) (get_or helds 1 d) (get_or v 1 (pos 0)) (get_or dims 1 d)
    → z ≡ side_needed (get_or sides 2 s) (get_or helds 2 d) (get_or v 2 (pos 0)) (get_or dims 2 d)
    → x ∷ y ∷ z ∷ [] ≡ each_side_needed sides helds v dims
needs_told sides helds v dims s d x y z ls lh lv ld p q r =
    three_same x y z _ _ _ p q r
    ∙ sym (ap (λ l. each_side_needed l helds v dims) (rebuilt sides s ls)
    ∙ (ap (λ l. each_side_needed (three sides s) l v dims) (rebuilt helds d lh)
    ∙ (ap (λ l. each_side_needed (three sides s) (three helds d) l dims) (rebuilt v (pos 0) lv)
    ∙ ap (λ l. each_side_needed (three sides s) (three helds d) (three v (pos 0)) l) (rebuilt dims d ld))))

pub owns_told : (from to : List Side) (dims : List Dim) (s : Side) (d : Dim) (x y z : Dim)
    → length from ≡ 3 → length to ≡ 3 → length dims ≡ 3
    → x ≡ side_owned (get_or from 0 s) (get_or to 0 s) (get_or dims 0 d)
    → y ≡ side_owned (get_or from 1 s) (get_or to 1 s) (get_or dims 1 d)
    → z ≡ side_owned (get_or from 2 s) (get_or to 2 s) (get_or dims 2 d)
    → x ∷ y ∷ z ∷ [] ≡ each_side_owned from to dims
owns_told from to dims s d x y z lf lt ld p q r =
    three_same x y z _ _ _ p q r
    ∙ sym (ap (λ l. each_side_owned l to dims) (rebuilt from s lf)
    ∙ (ap (λ l. each_side_owned (three from s) l dims) (rebuilt to s lt)
    ∙ ap (λ l. each_side_owned (three from s) (three to s) l) (rebuilt dims d ld)))
