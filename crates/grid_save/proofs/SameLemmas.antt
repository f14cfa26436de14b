-- Lines of states are those of one grid: each part of a state is told by its lines.
use Rattle.std.proofs.Common.{◌≡◌, ℕ, zero, suc, ◌-◌, ◌<◌, ◌≤◌, Bool, true, false, ℤ, List, [], ◌∷◌, ◌++◌, length, take, drop, map, inl, inr, refl, ap, sym, ◌∙◌, subst, arith}
use Rattle.std.specs.Prelude.{All, replicate}
use Rattle.std.specs.List.{AllZip, flat_map}
use Rattle.std.proofs.lemmas.List.{take-append-drop}
use Rattle.std.proofs.lemmas.List.Elements.{All-head, All-tail}
use Rattle.zpl_region.specs.declared.dims.Dim.{Dim}
use Rattle.zpl_region.specs.declared.dims.Dim.TheVariants as dim
use Rattle.zpl_region.specs.declared.regions.Region.{Region}
use Rattle.zpl_region.specs.Hull.{all_from}
use Rattle.zpl_region.specs.Region.{IsPadded, members, padding}
use Rattle.zpl_arrays.specs.Array.{Array}
use Rattle.node_form.specs.declared.arrays.ArrayDim.{ArrayDim}
use Rattle.node_form.specs.declared.arrays.ArrayDim.TheVariants as axis
use Rattle.node_form.specs.declared.arrays.ArrayRow.{ArrayRow}
use Rattle.node_form.specs.declared.tables.Tables.{Tables}
use Rattle.node_form.specs.Fits.{FitsArray}
use Rattle.grid_meaning.specs.of_grid_layout.Layout.{laid_out, own_first, own_last}
use Rattle.grid_meaning.proofs.WorldLemmas.{processors_alike}
use Rattle.grid_meaning.specs.Local.{processors}
use Rattle.grid_meaning.specs.State.{ArePlaces, AreRoomIn, IsRoom, IsRoomIn, IsSlot, IsStore}
use Rattle.grid_meaning.specs.Stored.{arrangement_of, no_places}
use Rattle.node_text.specs.Typed.{TypedArray}
use Rattle.grid_save.specs.Written.{box_dim, slot_line, store_line}
use Rattle.grid_save.proofs.BoxLemmas.{blocks_of_code, firsts_are, lasts_are}
use Rattle.grid_save.proofs.CutLemmas.{Every, every-append}

-- ---- lists up to the first of a kind
abbrev pub Stops : {X : Type 0} → (X → Bool) → List X → Type 0
Stops stop [] = Unit {0}
Stops stop (x ∷ xs) = stop x ≡ true

abbrev pub GoesOn : {X : Type 0} → (X → Bool) → X → Type 0
GoesOn stop x = stop x ≡ false

pub every_more : {X : Type 0} (P Q : X → Type 0) → ((x : X) → P x → Q x) → (xs : List X) → Every P xs → Every Q xs
every_more P Q more [] each = tt
every_more P Q more (x ∷ xs) each = (more x each.0, every_more P Q more xs each.1)

pub every-flat_map : {X Y : Type 0} (P : Y → Type 0) (f : X → List Y) (xs : List X) → ((x : X) → Every P (f x)) → Every P (flat_map f xs)
every-flat_map P f [] each = tt
every-flat_map P f (x ∷ xs) each = every-append P (f x) (flat_map f xs) (each x) (every-flat_map P f xs each)

pub cut_lists : {X : Type 0} (stop : X → Bool) (xs ys rest others : List X) → Every (GoesOn stop) xs → Every (GoesOn stop) ys → Stops stop rest →
    Stops stop others → xs ++ rest ≡ ys ++ others → (xs ≡ ys) × (rest ≡ others)
cut_lists stop [] [] rest others hx hy hr ho e = (refl, e)
cut_lists stop [] (y ∷ ys) rest others hx hy hr ho e =
    let stops : stop y ≡ true = subst (Stops stop) e hr in
    let goes : stop y ≡ false = hy.0 in
    absurd cc
cut_lists stop (x ∷ xs) [] rest others hx hy hr ho e =
    let stops : stop x ≡ true = subst (Stops stop) (sym e) ho in
    let goes : stop x ≡ false = hx.0 in
    absurd cc
cut_lists stop (x ∷ xs) (y ∷ ys) rest others hx hy hr ho e =
    let tails : xs ++ rest ≡ ys ++ others = cc in
    let below = cut_lists stop xs ys rest others hx.1 hy.1 hr ho tails in
    let head : x ≡ y = cc in
    let same = below.0 in
    (cc, below.1)

pub stops_append : {X : Type 0} (stop : X → Bool) (xs ys : List X) → Stops stop xs → Stops stop ys → Stops stop (xs ++ ys)
stops_append stop [] ys hx hy = hy
stops_append stop (x ∷ xs) ys hx hy = hx

pub stops_every : {X : Type 0} (stop : X → Bool) (xs : List X) → Every (λ x. stop x ≡ true) xs → Stops stop xs
stops_every stop [] each = tt
stops_every stop (x ∷ xs) each = each.0

-- ---- a slot
made : (r s : ℕ) (ds es : List Dim) → r ≡ s → ds ≡ es → ◌≡◌ {A = Region} (record { rank = r; dims = ds }) (record { rank = s; dims = es })
made r s ds es p q =
    ap (λ (k : ℕ). let region : Region = record { rank = k; dims = ds } in region) p
    ∙ ap (λ (l : List Dim). let region : Region = record { rank = s; dims = l } in region) q

pub same_region : (a b : Region) → a.rank ≡ b.rank → take a.rank a.dims ≡ take b.rank b.dims → IsPadded a.rank a.dims → IsPadded b.rank b.dims → a ≡ b
same_region a b ranks fronts one other =
    let backs : drop a.rank a.dims ≡ drop b.rank b.dims = one ∙ (ap padding_at ranks ∙ sym other) in
    let dims : a.dims ≡ b.dims =
    sym (take-append-drop a.rank a.dims) ∙ (ap (λ front. front ++ drop a.rank a.dims) fronts
    ∙ (ap (λ back. take b.rank b.dims ++ back) backs ∙ take-append-drop b.rank b.dims)) in
    made a.rank b.rank a.dims b.dims ranks dims
  where
    padding_at : ℕ → List Dim
    padding_at rank = replicate (3 - rank) padding

same_slot : (rank : ℕ) (a b : Region) → IsSlot rank a → IsSlot rank b → slot_line a ≡ slot_line b → a ≡ b
same_slot rank a b one other e =
    let fronts : take a.rank a.dims ≡ take b.rank b.dims = cc in
    same_region a b (one.ranked ∙ sym other.ranked) fronts one.fits.padded other.fits.padded

pub same_slots : (ranks : List ℕ) (xs ys : List Region) → AllZip IsSlot ranks xs → AllZip IsSlot ranks ys → map slot_line xs ≡ map slot_line ys → xs ≡ ys
same_slots [] [] [] one other e = refl
same_slots [] (x ∷ xs) ys one other e = absurd one
same_slots [] [] (y ∷ ys) one other e = absurd other
same_slots (rank ∷ ranks) [] ys one other e = absurd one
same_slots (rank ∷ ranks) (x ∷ xs) [] one other e = absurd other
same_slots (rank ∷ ranks) (x ∷ xs) (y ∷ ys) one other e =
    let first : slot_line x ≡ slot_line y = cc in
    let others : map slot_line xs ≡ map slot_line ys = cc in
    let head = same_slot rank x y one.0 other.0 first in
    let tails = same_slots ranks xs ys one.1 other.1 others in
    cc

-- ---- a store
same_room_dim : (row : ArrayDim) (low high : ℤ) (d e : Dim) → IsRoomIn row low high d → IsRoomIn row low high e → box_dim d ≡ box_dim e → d ≡ e
same_room_dim axis.Star low high dim.Flood dim.Flood one other same = refl
same_room_dim axis.Star low high dim.Flood (dim.Range lo hi step align) one other same = absurd other
same_room_dim axis.Star low high (dim.Range lo hi step align) e one other same = absurd one
same_room_dim (axis.Range p q u v) low high dim.Flood e one other same = absurd one
same_room_dim (axis.Range p q u v) low high (dim.Range lo hi step align) dim.Flood one other same = absurd other
same_room_dim (axis.Range p q u v) low high (dim.Range a b s t) (dim.Range lo hi step align) one other same =
    let first : a ≡ lo = cc in
    let last : b ≡ hi = cc in
    one.0 ∙ (ap (λ (n : ℤ). all_from n b) first ∙ (ap (λ (n : ℤ). all_from lo n) last ∙ sym other.0))

same_rooms : (rows : List ArrayDim) (lows highs : List ℤ) (ds es : List Dim) → length rows ≡ length ds → length lows ≡ length ds →
    length highs ≡ length ds → AreRoomIn rows lows highs ds → AreRoomIn rows lows highs es → map box_dim ds ≡ map box_dim es → ds ≡ es
same_rooms rows lows highs [] [] r l h one other e = refl
same_rooms rows lows highs [] (y ∷ ys) r l h one other e = absurd cc
same_rooms rows lows highs (x ∷ xs) [] r l h one other e = absurd cc
same_rooms [] lows highs (x ∷ xs) (y ∷ ys) r l h one other e = absurd (omega (arith, r))
same_rooms (row ∷ rows) [] highs (x ∷ xs) (y ∷ ys) r l h one other e = absurd (omega (arith, l))
same_rooms (row ∷ rows) (low ∷ lows) [] (x ∷ xs) (y ∷ ys) r l h one other e = absurd (omega (arith, h))
same_rooms (row ∷ rows) (low ∷ lows) (high ∷ highs) (x ∷ xs) (y ∷ ys) r l h one other e =
    let first : box_dim x ≡ box_dim y = cc in
    let others : map box_dim xs ≡ map box_dim ys = cc in
    let r' : length rows ≡ length xs = omega (arith, r) in
    let l' : length lows ≡ length xs = omega (arith, l) in
    let h' : length highs ≡ length xs = omega (arith, h) in
    let head = same_room_dim row low high x y one.0 other.0 first in
    let tails = same_rooms rows lows highs xs ys r' l' h' one.1 other.1 others in
    cc

boxes_from : (rank : ℕ) (ds es : List Dim) → map box_dim (take rank ds) ≡ map box_dim (take rank es) → drop rank ds ≡ drop rank es →
    map box_dim ds ≡ map box_dim es
boxes_from zero ds es fronts backs = ap (map box_dim) backs
boxes_from (suc rank) [] [] fronts backs = refl
boxes_from (suc rank) [] (y ∷ ys) fronts backs = absurd cc
boxes_from (suc rank) (x ∷ xs) [] fronts backs = absurd cc
boxes_from (suc rank) (x ∷ xs) (y ∷ ys) fronts backs =
    let first : box_dim x ≡ box_dim y = cc in
    let others : map box_dim (take rank xs) ≡ map box_dim (take rank ys) = cc in
    let tails = boxes_from rank xs ys others backs in
    cc

no_members : (rank : ℕ) → 1 ≤ rank → rank ≤ 3 → members (no_places rank) ≡ []
no_members zero above below = absurd (omega (arith, above))
no_members (suc zero) above below = refl
no_members (suc (suc zero)) above below = refl
no_members (suc (suc (suc zero))) above below = refl
no_members (suc (suc (suc (suc n)))) above below = absurd (omega (arith, below))

made_array : (a b : Array) → a.storage ≡ b.storage → a.values ≡ b.values → a ≡ b
made_array a b p q =
    ap (λ (r : Region). let array : Array = record { storage = r; values = a.values } in array) p
    ∙ ap (λ (vs : List ℤ). let array : Array = record { storage = b.storage; values = vs } in array) q

module _ (code : Tables) (p : ℕ) (all : All FitsArray code.arrays) (inside : p < processors code) where
  same_room : (row : ArrayRow) (a b : Region) → FitsArray row → length row.dims ≡ 3 → IsRoom code p row a → IsRoom code p row b →
      map box_dim (take a.rank a.dims) ≡ map box_dim (take b.rank b.dims) → a ≡ b
  same_room row a b fits three one other e =
      let blocks = blocks_of_code code all in
      let above = fits.rank.0 in
      let below = fits.rank.1 in
      let firsts = firsts_are (laid_out (arrangement_of code)) row.rank p blocks above below in
      let lasts = lasts_are (laid_out (arrangement_of code)) row.rank p blocks above below (let same = processors_alike code.grid in omega (arith, inside, same)) in
      let ranks : a.rank ≡ b.rank = one.ranked ∙ sym other.ranked in
      let fronts : map box_dim (take a.rank a.dims) ≡ map box_dim (take a.rank b.dims) = e ∙ ap (λ rank. map box_dim (take rank b.dims)) (sym ranks) in
      let backs : drop a.rank a.dims ≡ drop a.rank b.dims =
      one.padded ∙ (ap (λ rank. replicate (3 - rank) padding) ranks ∙ (sym other.padded ∙ ap (λ rank. drop rank b.dims) (sym ranks))) in
      let dims = same_rooms row.dims (own_first (laid_out (arrangement_of code)) row.rank p) (own_last (laid_out (arrangement_of code)) row.rank p) a.dims b.dims
      (three ∙ sym one.many) (firsts.0 ∙ sym one.many) (lasts.0 ∙ sym one.many) one.dims other.dims (boxes_from a.rank a.dims b.dims fronts backs) in
      made a.rank b.rank a.dims b.dims ranks dims

  -- no values, and some
  empty_or_not : (row : ArrayRow) (a b : Array) → FitsArray row → IsStore code p row a → IsStore code p row b → a.storage ≡ no_places row.rank →
      IsRoom code p row b.storage → a.values ≡ b.values → ⊥
  empty_or_not row a b fits one other none room e =
      let long : length a.values ≡ 0 = one.filled.filled ∙ (ap (λ (r : Region). length (members r)) none ∙ ap length (no_members row.rank fits.rank.0 fits.rank.1)) in
      let as_long : length (members b.storage) ≡ 0 = sym other.filled.filled ∙ (ap length (sym e) ∙ long) in
      room.some (none_in (members b.storage) as_long)
    where
      none_in : (ts : List (List ℤ)) → length ts ≡ 0 → ts ≡ []
      none_in [] e' = refl
      none_in (t ∷ ts) e' = absurd (omega (arith, e'))

  same_store : (row : ArrayRow) (a b : Array) → FitsArray row → length row.dims ≡ 3 → IsStore code p row a → IsStore code p row b → store_line a ≡ store_line b → a ≡ b
  same_store row a b fits three one other e = by row.stored one.places other.places where
    values : a.values ≡ b.values
    values = cc

    dims : map box_dim (take a.storage.rank a.storage.dims) ≡ map box_dim (take b.storage.rank b.storage.dims)
    dims = cc

    by : (stored : Bool) → ArePlaces code p row stored a.storage → ArePlaces code p row stored b.storage → a ≡ b
    by true is also = made_array a b (is ∙ sym also) values
    by false (inl is) (inl also) = made_array a b (is ∙ sym also) values
    by false (inl is) (inr also) = absurd (empty_or_not row a b fits one other is also values)
    by false (inr is) (inl also) = absurd (empty_or_not row b a fits other one also is (sym values))
    by false (inr is) (inr also) = made_array a b (same_room row a.storage b.storage fits three is also dims) values

  pub same_stores : (rows : List ArrayRow) (xs ys : List Array) → All FitsArray rows → All TypedArray rows → AllZip (IsStore code p) rows xs →
      AllZip (IsStore code p) rows ys → map store_line xs ≡ map store_line ys → xs ≡ ys
  same_stores [] [] [] fit typed one other e = refl
  same_stores [] (x ∷ xs) ys fit typed one other e = absurd one
  same_stores [] [] (y ∷ ys) fit typed one other e = absurd other
  same_stores (row ∷ rows) [] ys fit typed one other e = absurd one
  same_stores (row ∷ rows) (x ∷ xs) [] fit typed one other e = absurd other
  same_stores (row ∷ rows) (x ∷ xs) (y ∷ ys) fit typed one other e =
      let first : store_line x ≡ store_line y = cc in
      let others : map store_line xs ≡ map store_line ys = cc in
      let head = same_store row x y (All-head FitsArray row rows fit) (All-head TypedArray row rows typed).three one.0 other.0 first in
      let tails = same_stores rows xs ys (All-tail FitsArray row rows fit) (All-tail TypedArray row rows typed) one.1 other.1 others in
      cc
