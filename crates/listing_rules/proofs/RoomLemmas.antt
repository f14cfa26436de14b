-- Arrays as they are laid out.
use Rattle.std.proofs.Common.{◌≡◌, ℕ, zero, suc, ◌+◌, ◌<◌, ◌≤◌, Bool, true, false, List, [], ◌∷◌, ◌++◌, length, take, drop, sym, ◌∙◌, ap, refl, arith}
use Rattle.std.specs.Prelude.{All, sum_by, min, Some, slice_get}
use Rattle.std.proofs.lemmas.List.{append_assoc, append-nil}
use Rattle.std.proofs.lemmas.List.Sums.{sum_by-append}
use Rattle.std.proofs.lemmas.List.Elements.{All-nil, All-cons, All-head, All-tail, All-append}
use Rattle.node_form.specs.declared.arrays.ArrayRow.{ArrayRow}
use Rattle.node_form.specs.Fits.{FitsArray}
use Rattle.grid_layout.specs.Layout.{IsArrayBox}
use Rattle.grid_layout.specs.declared.boxes.ArrayBox.{ArrayBox}
use Rattle.grid_layout.specs.Words.{box_words}
use Rattle.node_form.specs.declared.tables.Tables.{Tables}
use Rattle.listing_rows.specs.of_listing_lines.declared.lines.Line.{Line}
use Rattle.listing_rules.proofs.FactsLemmas.{take_at}
use Rattle.grid_meaning.specs.Stored.{box_of}
use Rattle.grid_meaning.proofs.BoxLemmas.{box_is}
use Rattle.listing_rules.specs.Room.{HasThree, LacksRoom, blocks_for, boxes_of, stored_box, words_in}

one_box : (row : ArrayRow) (stored : Bool) → row.stored ≡ stored → length row.dims ≡ 3 → FitsArray row → All IsArrayBox (stored_box stored row)
one_box row true e n fits = All-cons IsArrayBox (box_of row) [] (box_is row n e fits) (All-nil IsArrayBox)
one_box row false e n fits = All-nil IsArrayBox

pub boxes_are : (rows : List ArrayRow) → All HasThree rows → All FitsArray rows → All IsArrayBox (boxes_of rows)
boxes_are [] three fit = All-nil IsArrayBox
boxes_are (row ∷ rows) three fit =
    All-append IsArrayBox (stored_box row.stored row) (boxes_of rows) (one_box row row.stored refl (All-head HasThree row rows three) (All-head FitsArray row rows fit))
    (boxes_are rows (All-tail HasThree row rows three) (All-tail FitsArray row rows fit))

pub boxes-append : (front behind : List ArrayRow) → boxes_of (front ++ behind) ≡ boxes_of front ++ boxes_of behind
boxes-append [] behind = refl
boxes-append (row ∷ front) behind = ap (λ (boxes : List ArrayBox). stored_box row.stored row ++ boxes) (boxes-append front behind) ∙ sym (append_assoc (stored_box row.stored row) (boxes_of front) (boxes_of behind))

pub words-append : (tables : Tables) (front behind : List ArrayRow) → words_in tables (front ++ behind) ≡ words_in tables front + words_in tables behind
words-append tables front behind = rw (boxes-append front behind) (sum_by-append (box_words (blocks_for tables)) (boxes_of front) (boxes_of behind))

one-words : (tables : Tables) (row : ArrayRow) → words_in tables (row ∷ []) ≡ sum_by (box_words (blocks_for tables)) (stored_box row.stored row)
one-words tables row = ap (sum_by (box_words (blocks_for tables))) (append-nil (stored_box row.stored row))

-- ---- sums that stop at the greatest number
small_sum : (a s w most : ℕ) → 16777216 < most → a ≤ 16777216 → w ≡ min (a + min s most) most → w ≤ 16777216 → w ≡ a + s
small_sum a s w most great small is within = omega arith

great_sum : (a s w most : ℕ) → 16777216 < most → w ≡ min (a + min s most) most → 16777216 < w → 16777216 < a + s
great_sum a s w most great is past = omega arith

-- the words with one array more
pub words_more : (tables : Tables) (rows : List ArrayRow) (i : ℕ) (row : ArrayRow) (old new most : ℕ) → slice_get rows i ≡ Some row → old ≡ words_in tables (take i rows) → old ≤ 16777216 → 16777216 < most →
    new ≡ min (old + min (sum_by (box_words (blocks_for tables)) (stored_box row.stored row)) most) most → new ≤ 16777216 → new ≡ words_in tables (take (i + 1) rows)
words_more tables rows i row old new most here is small great sum within =
    let split = take_at rows i row here in
    let all = words-append tables (take i rows) (row ∷ []) in
    let one = one-words tables row in
    let w = small_sum old _ new most great small sum within in
    rw split (omega (arith, all, one, w, is))

pub words_past : (tables : Tables) (rows : List ArrayRow) (i : ℕ) (row : ArrayRow) (old new most : ℕ) → old ≡ words_in tables (take i rows) → 16777216 < most →
    new ≡ min (old + min (sum_by (box_words (blocks_for tables)) (stored_box row.stored row)) most) most → 16777216 < new → 16777216 < words_in tables (take i rows ++ row ∷ [])
words_past tables rows i row old new most is great sum past =
    let all = words-append tables (take i rows) (row ∷ []) in
    let one = one-words tables row in
    let w = great_sum old _ new most great sum past in
    omega (arith, all, one, w, is)

split_at : {X : Type 0} (xs : List X) (i : ℕ) (x : X) → slice_get xs i ≡ Some x → xs ≡ take i xs ++ x ∷ drop (i + 1) xs
split_at [] i x e = absurd cc
split_at (y ∷ xs) zero x e = let same : y ≡ x = cc in rw same refl
split_at (y ∷ xs) (suc i) x e =
    let next : suc i + 1 ≡ suc (i + 1) = omega arith in
    rw next (ap (λ (l : List _). y ∷ l) (split_at xs i x e))

length-take-at : {X : Type 0} (xs : List X) (i : ℕ) (x : X) → slice_get xs i ≡ Some x → length (take i xs) ≡ i
length-take-at [] i x e = absurd cc
length-take-at (y ∷ xs) zero x e = refl
length-take-at (y ∷ xs) (suc i) x e = ap suc (length-take-at xs i x e)

pub lacks : (lines : List Line) (tables : Tables) (i : ℕ) (row : ArrayRow) (old new most : ℕ) → slice_get tables.arrays i ≡ Some row → old ≡ words_in tables (take i tables.arrays) → old ≤ 16777216 → 16777216 < most →
    new ≡ min (old + min (sum_by (box_words (blocks_for tables)) (stored_box row.stored row)) most) most → 16777216 < new → LacksRoom lines tables (drop (5 + i) lines)
lacks lines tables i row old new most here is small great sum past = record {
  front = take i tables.arrays;
  row = row;
  behind = drop (i + 1) tables.arrays;
  split = split_at tables.arrays i row here;
  before = omega arith;
  past = words_past tables tables.arrays i row old new most is great sum past;
  here = ap (λ (n : ℕ). drop (5 + n) lines) (sym (length-take-at tables.arrays i row here));
}
