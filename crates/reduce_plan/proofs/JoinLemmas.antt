-- Lemmas on the joins of partial folds.
use Rattle.std.proofs.Common.{◌≡◌, ℕ, ◌<◌, Bool, true, false, cond, ◌||◌, List, [], ◌∷◌, ◌++◌, All, map, length, get_or, ℤ, IsPermutation, inl, inr, refl, sym, ◌∙◌, ap, subst}
use Rattle.std.specs.List.{filter, flat_map, list_any}
use Rattle.region_places.specs.of_zpl_nums.declared.folds.Fold.{Fold}
use Rattle.region_places.specs.of_zpl_nums.Fold.{folded, joined, unit_of}
use Rattle.region_places.proofs.of_zpl_nums.FoldLemmas.{folded-IsPermutation, folded-cons, settled-folded}
use Rattle.grid_layout.specs.of_zpl_region.declared.regions.Region.{Region}
use Rattle.grid_layout.specs.of_zpl_region.Dim.{HasBounds, HasStep, IsDim}
use Rattle.grid_layout.specs.of_zpl_region.Region.{IsRegion, members}
use Rattle.grid_layout.proofs.of_zpl_region.LawLemmas.{members_iff}
use Rattle.grid_layout.proofs.of_zpl_region.ListLemmas.{Among, Contains-from_among, cons_same}
use Rattle.region_places.specs.of_zpl_arrays.Array.{array_of, element}
use Rattle.region_places.specs.of_zpl_arrays.Fold.{agrees, kept_fold, partly_reduced}
use Rattle.region_places.proofs.of_zpl_arrays.ArrayLemmas.{element_of_member}
use Rattle.region_places.proofs.of_zpl_arrays.FoldLemmas.{fold_of_parts}
use Rattle.grid_layout.specs.declared.blocks.Blocks.{Blocks}
use Rattle.grid_layout.specs.Grid.{processors_of}
use Rattle.grid_layout.specs.Layout.{AreBlocks}
use Rattle.grid_layout.specs.Piece.{owned_part}
use Rattle.grid_layout.specs.Words.{processors}
use Rattle.grid_layout.proofs.PartLemmas.{parts_of_owners}
use Rattle.reduce_plan.specs.Partial.{is_reached, partials_of}

-- ---- values of a function
map-kept : {X Y : Type 0} (f g : X → Y) (p : X → Bool) (xs : List X) → ((x : X) → Among xs x → f x ≡ g x) → map f (filter p xs) ≡ map g (filter p xs)
map-kept f g p [] same = refl
map-kept f g p (x ∷ xs) same = by_test (p x) (map-kept f g p xs (λ y m. same y (inr m)))
  where
    by_test : (b : Bool) → map f (filter p xs) ≡ map g (filter p xs) → map f (cond b (x ∷ filter p xs) (filter p xs)) ≡ map g (cond b (x ∷ filter p xs) (filter p xs))
    by_test true further = cons_same (same x (inl refl)) further
    by_test false further = further

map-agree : {X Y : Type 0} (f g : X → Y) (xs : List X) → ((x : X) → f x ≡ g x) → map f xs ≡ map g xs
map-agree f g [] same = refl
map-agree f g (x ∷ xs) same = cons_same (same x) (map-agree f g xs same)

over_the_block : (op : Fold) (target block : Region) (e : List ℤ → ℤ) (x : List ℤ) → All HasStep block.dims
    → partly_reduced op target block (element (array_of block e)) x ≡ partly_reduced op target block e x
over_the_block op target block e x h =
    ap (folded op) (map-kept (element (array_of block e)) e (agrees target.dims x) (members block)
    (λ t m. element_of_member block e t h ((members_iff block t h).0 (Contains-from_among (members block) t m))))

pub partials-array_of : (op : Fold) (target within block : Region) (e : List ℤ → ℤ) → All HasStep block.dims
    → partials_of op target within (array_of block e) ≡ map (partly_reduced op target block e) (filter (is_reached target block) (members within))
partials-array_of op target within block e h =
    map-agree (partly_reduced op target block (element (array_of block e))) (partly_reduced op target block e) (filter (is_reached target block) (members within))
    (λ x. over_the_block op target block e x h)

-- ---- blocks that don't reach an index add nothing
none_kept : (p : List ℤ → Bool) (ts : List (List ℤ)) → list_any p ts ≡ false → filter p ts ≡ []
none_kept p [] h = refl
none_kept p (t ∷ ts) h = by_test (p t) h (none_kept p ts)
  where
    by_test : (b : Bool) → (b || list_any p ts) ≡ false → (list_any p ts ≡ false → filter p ts ≡ []) → cond b (t ∷ filter p ts) (filter p ts) ≡ []
    by_test true k further = absurd (let both : true ≡ false = k in cc)
    by_test false k further = further k

reached_alone : (op : Fold) (target : Region) (e : List ℤ → ℤ) (x : List ℤ) (blocks : List Region)
    → folded op (map (λ block. partly_reduced op target block e x) (filter (λ block. is_reached target block x) blocks)) ≡ folded op (map (λ block. partly_reduced op target block e x) blocks)
reached_alone op target e x [] = refl
reached_alone op target e x (block ∷ blocks) = by_test (is_reached target block x) refl (reached_alone op target e x blocks)
  where
    g : Region → ℤ
    g b = partly_reduced op target b e x

    kept : List Region
    kept = filter (λ b. is_reached target b x) blocks

    by_test : (b : Bool) → is_reached target block x ≡ b → folded op (map g kept) ≡ folded op (map g blocks) → folded op (map g (cond b (block ∷ kept) kept)) ≡ folded op (g block ∷ map g blocks)
    by_test true t further = folded-cons op (g block) (map g kept) ∙ (ap (joined op (g block)) further ∙ sym (folded-cons op (g block) (map g blocks)))
    by_test false t further =
        let nothing : g block ≡ unit_of op = ap (λ l. folded op (map e l)) (none_kept (agrees target.dims x) (members block) t) in
        further ∙ sym (ap (λ z. folded op (z ∷ map g blocks)) nothing ∙ (folded-cons op (unit_of op) (map g blocks) ∙ settled-folded op (map g blocks)))

-- ---- the join
flat-map : {X Y : Type 0} (f : X → List Y) (xs : List X) → flat_map f xs ≡ flat_map (λ part. part) (map f xs)
flat-map f [] = refl
flat-map f (x ∷ xs) = ap (λ l. f x ++ l) (flat-map f xs)

map-map : {X Y Z : Type 0} (f : X → Y) (g : Y → Z) (xs : List X) → map g (map f xs) ≡ map (λ x. g (f x)) xs
map-map f g [] = refl
map-map f g (x ∷ xs) = ap (λ l. g (f x) ∷ l) (map-map f g xs)

pub join_is_fold : (op : Fold) (target source : Region) (e : List ℤ → ℤ) (x : List ℤ) (blocks : List Region) (folds : List ℤ) → IsPermutation (members source) (flat_map members blocks)
    → IsPermutation (map (λ block. partly_reduced op target block e x) (filter (λ block. is_reached target block x) blocks)) folds
    → folded op folds ≡ partly_reduced op target source e x
join_is_fold op target source e x blocks folds parts order =
    let g : Region → ℤ = λ b. partly_reduced op target b e x in
    folded-IsPermutation op (map g (filter (λ b. is_reached target b x) blocks)) folds order
    ∙ (reached_alone op target e x blocks
    ∙ sym (fold_of_parts op (agrees target.dims x) e (members source) (map members blocks) (subst (IsPermutation (members source)) (flat-map members blocks) parts)
    ∙ ap (folded op) (map-map members (kept_fold op (agrees target.dims x) e) blocks)))

have_bounds : (r : Region) → IsRegion r → All HasBounds r.dims
have_bounds r is = λ k d below. let h : IsDim (get_or r.dims k d) = is.dims k d below in h.1

pub join_of_processors : (cut : Blocks) (to : ℕ) (op : Fold) (target source : Region) (e : List ℤ → ℤ) (x : List ℤ) (folds : List ℤ) → AreBlocks cut → IsRegion source → length source.dims ≡ 3 → to < processors_of cut.grid
    → IsPermutation (map (λ block. partly_reduced op target block e x) (filter (λ block. is_reached target block x) (map (λ from. owned_part cut from to source) (processors cut.grid)))) folds
    → folded op folds ≡ partly_reduced op target source e x
join_of_processors cut to op target source e x folds are is long below order =
    join_is_fold op target source e x (map (λ from. owned_part cut from to source) (processors cut.grid)) folds
    (subst (IsPermutation (members source)) (flat_map-map (λ from. owned_part cut from to source) members (processors cut.grid)) (parts_of_owners cut to source are is.rank_above is.rank_below long (have_bounds source is) below)) order
  where
    flat_map-map : {X Y Z : Type 0} (f : X → Y) (g : Y → List Z) (xs : List X) → flat_map (λ x. g (f x)) xs ≡ flat_map g (map f xs)
    flat_map-map f g [] = refl
    flat_map-map f g (x ∷ xs) = ap (λ l. g (f x) ++ l) (flat_map-map f g xs)
