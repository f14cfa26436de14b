-- Each line is written in its own way.
use Rattle.std.proofs.Common.{◌≡◌, ℕ, true, false, List, [], ◌∷◌, ◌++◌, length, map, ℤ, sym, ◌∙◌, ap, refl, codes}
use Rattle.std.specs.Prelude.{All, ◌==◌, Option, Some, find}
use Rattle.std.specs.Str.{bytes_eq}
use Rattle.std.specs.Fmt.{signed_decimal}
use Rattle.std.specs.List.{slice_split}
use Rattle.std.proofs.lemmas.Fmt.{signed_decimal_injective}
use Rattle.std.proofs.lemmas.List.Elements.{All-head, All-tail}
use Rattle.zpl_nums.specs.Integer.{IsInteger}
use Rattle.zpl_region.specs.declared.dims.Dim.{Dim}
use Rattle.zpl_region.specs.declared.dims.Dim.TheVariants as dim
use Rattle.listing_lines.proofs.Numerals.{small}
use Rattle.save_lines.specs.declared.lines.BoxDim.{BoxDim}
use Rattle.save_lines.specs.declared.lines.BoxDim.TheVariants.{Range, Star}
use Rattle.save_lines.specs.declared.lines.EndWord.{EndWord}
use Rattle.save_lines.specs.declared.lines.EndWord.TheVariants.{Going, Done, Trap}
use Rattle.save_lines.specs.declared.lines.Kind.{Kind}
use Rattle.save_lines.specs.declared.lines.Kind.TheVariants as kind
use Rattle.save_lines.specs.declared.lines.ProcRow.{ProcRow}
use Rattle.save_lines.specs.declared.lines.SavedLine.{SavedLine}
use Rattle.save_lines.specs.declared.lines.SavedLine.TheVariants.{Proc, Scalars, Slot, Cells, Store, Kept, Msg}
use Rattle.save_lines.specs.Line.{IsBoxWord, IsDimWord, IsEndWord, IsProcRow, IsSavedLine, box_word, dim_word, end_word, kind_of, kind_text, line_text, number_words, proc_words, words_behind, words_of}
use Rattle.save_lines.specs.Reading.{IsOther, is_cut, range_pieces, side_pieces}
use Rattle.save_lines.proofs.Gaps.{range_cut, side_cut, split_line, trap_cut}

-- ---- words
same_number : (x y : ℤ) → IsInteger x → IsInteger y → signed_decimal x ≡ signed_decimal y → x ≡ y
same_number x y is also e = signed_decimal_injective x y (small x is) (small y also) e

same_numbers : (xs ys : List ℤ) → All IsInteger xs → All IsInteger ys → number_words xs ≡ number_words ys → xs ≡ ys
same_numbers [] [] hx hy e = refl
same_numbers [] (y ∷ ys) hx hy e = absurd cc
same_numbers (x ∷ xs) [] hx hy e = absurd cc
same_numbers (x ∷ xs) (y ∷ ys) hx hy e =
    let first : signed_decimal x ≡ signed_decimal y = cc in
    let others : number_words xs ≡ number_words ys = cc in
    let one = same_number x y (All-head IsInteger x xs hx) (All-head IsInteger y ys hy) first in
    let more = same_numbers xs ys (All-tail IsInteger x xs hx) (All-tail IsInteger y ys hy) others in
    cc

same_dim : (one other : Dim) → IsDimWord one → IsDimWord other → dim_word one ≡ dim_word other → one ≡ other
same_dim dim.Flood dim.Flood is also e = refl
same_dim dim.Flood (dim.Range lo hi step align) is also e =
    let pieces : (42 ∷ []) ∷ [] ≡ range_pieces lo hi step align = ap (slice_split is_cut) e ∙ range_cut lo hi step align also in
    absurd cc
same_dim (dim.Range lo hi step align) dim.Flood is also e =
    let pieces : (42 ∷ []) ∷ [] ≡ range_pieces lo hi step align = ap (slice_split is_cut) (sym e) ∙ range_cut lo hi step align is in
    absurd cc
same_dim (dim.Range a b c d) (dim.Range lo hi step align) is also e =
    let pieces = sym (range_cut a b c d is) ∙ (ap (slice_split is_cut) e ∙ range_cut lo hi step align also) in
    let one = same_number a lo is.0 also.0 cc in
    let two = same_number b hi is.1 also.1 cc in
    let three = same_number c step is.2 also.2 cc in
    let four = same_number d align is.3 also.3 cc in
    cc

same_box : (one other : BoxDim) → IsBoxWord one → IsBoxWord other → box_word one ≡ box_word other → one ≡ other
same_box Star Star is also e = refl
same_box Star (Range lo hi) is also e =
    let pieces : (42 ∷ []) ∷ [] ≡ side_pieces lo hi = ap (slice_split is_cut) e ∙ side_cut lo hi also in
    absurd cc
same_box (Range lo hi) Star is also e =
    let pieces : (42 ∷ []) ∷ [] ≡ side_pieces lo hi = ap (slice_split is_cut) (sym e) ∙ side_cut lo hi is in
    absurd cc
same_box (Range a b) (Range lo hi) is also e =
    let pieces = sym (side_cut a b is) ∙ (ap (slice_split is_cut) e ∙ side_cut lo hi also) in
    let one = same_number a lo is.0 also.0 cc in
    let two = same_number b hi is.1 also.1 cc in
    cc

same_end : (one other : EndWord) → IsEndWord one → IsEndWord other → end_word one ≡ end_word other → one ≡ other
same_end Going Going is also e = refl
same_end Done Done is also e = refl
same_end (Trap k l) (Trap kind line) is also e =
    let pieces = sym (trap_cut k l is) ∙ (ap (slice_split is_cut) e ∙ trap_cut kind line also) in
    let one = same_number k kind is.0 also.0 cc in
    let two = same_number l line is.1 also.1 cc in
    cc
same_end one other is also e = absurd cc

-- no dimension is written as a `:`
three_pieces : (word : List ℕ) (lo hi : ℤ) → IsBoxWord (Range lo hi) → box_word (Range lo hi) ≡ word → length (slice_split is_cut word) ≡ 3
three_pieces word lo hi is e = ap (λ text. length (slice_split is_cut text)) (sym e) ∙ ap length (side_cut lo hi is)

untrue : false ≡ true → ⊥
untrue h = cc

not_colon : (d : BoxDim) → IsBoxWord d → box_word d ≡ codes ":" → ⊥
not_colon Star is e = untrue (ap (λ text. bytes_eq text (codes ":")) e)
not_colon (Range lo hi) is e = two_or_three (three_pieces (codes ":") lo hi is e) where
  two_or_three : ◌≡◌ {A = ℕ} 2 3 → ⊥
  two_or_three same = cc

pub box_other : (d : BoxDim) → IsBoxWord d → IsOther (codes ":") (box_word d)
box_other d is = not_colon d is

same_dims : (xs ys : List Dim) → All IsDimWord xs → All IsDimWord ys → map dim_word xs ≡ map dim_word ys → xs ≡ ys
same_dims [] [] hx hy e = refl
same_dims [] (y ∷ ys) hx hy e = absurd cc
same_dims (x ∷ xs) [] hx hy e = absurd cc
same_dims (x ∷ xs) (y ∷ ys) hx hy e =
    let first : dim_word x ≡ dim_word y = cc in
    let others : map dim_word xs ≡ map dim_word ys = cc in
    let one = same_dim x y (All-head IsDimWord x xs hx) (All-head IsDimWord y ys hy) first in
    let more = same_dims xs ys (All-tail IsDimWord x xs hx) (All-tail IsDimWord y ys hy) others in
    cc

-- dimensions in front of a `:`, and numbers behind it
same_store : (xs ys : List BoxDim) (vs ws : List ℤ) → All IsBoxWord xs → All IsBoxWord ys → All IsInteger vs → All IsInteger ws →
    map box_word xs ++ codes ":" ∷ number_words vs ≡ map box_word ys ++ codes ":" ∷ number_words ws → (xs ≡ ys) × (vs ≡ ws)
same_store [] [] vs ws hx hy hv hw e =
    let others : number_words vs ≡ number_words ws = cc in
    (refl, same_numbers vs ws hv hw others)
same_store [] (y ∷ ys) vs ws hx hy hv hw e = absurd (box_other y (All-head IsBoxWord y ys hy) cc)
same_store (x ∷ xs) [] vs ws hx hy hv hw e = absurd (box_other x (All-head IsBoxWord x xs hx) cc)
same_store (x ∷ xs) (y ∷ ys) vs ws hx hy hv hw e =
    let first : box_word x ≡ box_word y = cc in
    let others : map box_word xs ++ codes ":" ∷ number_words vs ≡ map box_word ys ++ codes ":" ∷ number_words ws = cc in
    let one = same_box x y (All-head IsBoxWord x xs hx) (All-head IsBoxWord y ys hy) first in
    let more = same_store xs ys vs ws (All-tail IsBoxWord x xs hx) (All-tail IsBoxWord y ys hy) hv hw others in
    let tails = more.0 in
    (cc, more.1)

row_of : ℤ → ℤ → ℤ → ℤ → ℤ → ℤ → EndWord → ProcRow
row_of processor at made index member flag end = record {
  processor = processor;
  at = at;
  made = made;
  index = index;
  member = member;
  flag = flag;
  end = end;
}

same_row : (one other : ProcRow) → IsProcRow one → IsProcRow other → proc_words one ≡ proc_words other → one ≡ other
unfolding row_of
same_row one other is also e =
    let processor = same_number one.processor other.processor is.processor also.processor cc in
    let at = same_number one.at other.at is.at also.at cc in
    let made = same_number one.made other.made is.made also.made cc in
    let index = same_number one.index other.index is.index also.index cc in
    let member = same_number one.member other.member is.member also.member cc in
    let flag = same_number one.flag other.flag is.flag also.flag cc in
    let end = same_end one.end other.end is.end also.end cc in
    let same : row_of one.processor one.at one.made one.index one.member one.flag one.end
    ≡ row_of other.processor other.at other.made other.index other.member other.flag other.end = cc in
    same

-- ---- lines
abbrev all_kinds : List Kind
all_kinds = kind.Proc ∷ kind.Scalars ∷ kind.Slot ∷ kind.Cells ∷ kind.Store ∷ kind.Kept ∷ kind.Msg ∷ []

abbrev named_so : List ℕ → Option Kind
named_so text = find (λ k. bytes_eq (kind_text k) text) all_kinds

own : (k : Kind) → named_so (kind_text k) ≡ Some k
own kind.Proc = refl
own kind.Scalars = refl
own kind.Slot = refl
own kind.Cells = refl
own kind.Store = refl
own kind.Kept = refl
own kind.Msg = refl

pub same_kind : (one other : Kind) → kind_text one ≡ kind_text other → one ≡ other
same_kind one other same = let e : Some one ≡ Some other = sym (own one) ∙ (ap named_so same ∙ own other) in cc

same_behind : (one other : SavedLine) → kind_of one ≡ kind_of other → IsSavedLine one → IsSavedLine other →
    words_behind one ≡ words_behind other → one ≡ other
same_behind (Proc x) (Proc y) kinds is also e = ap Proc (same_row x y is also e)
same_behind (Scalars xs) (Scalars ys) kinds is also e = ap Scalars (same_numbers xs ys is also e)
same_behind (Slot xs) (Slot ys) kinds is also e = ap Slot (same_dims xs ys is.1 also.1 e)
same_behind (Cells xs) (Cells ys) kinds is also e = ap Cells (same_numbers xs ys is also e)
same_behind (Store xs vs) (Store ys ws) kinds is also e =
    let parts = same_store xs ys vs ws is.1 also.1 is.2 also.2 e in
    ap (λ dims. Store dims vs) parts.0 ∙ ap (Store ys) parts.1
same_behind (Kept p vs) (Kept q ws) kinds is also e =
    let from = same_number p q is.0 also.0 cc in
    let values = same_numbers vs ws is.1 also.1 cc in
    ap (λ who. Kept who vs) from ∙ ap (Kept q) values
same_behind (Msg p m vs) (Msg q n ws) kinds is also e =
    let to = same_number p q is.0 also.0 cc in
    let tag = same_number m n is.1 also.1 cc in
    let values = same_numbers vs ws is.2 also.2 cc in
    ap (λ who. Msg who m vs) to ∙ (ap (λ what. Msg q what vs) tag ∙ ap (Msg q n) values)
same_behind one other kinds is also _ = absurd cc

same_words : (one other : SavedLine) → IsSavedLine one → IsSavedLine other → words_of one ≡ words_of other → one ≡ other
same_words one other is also e =
    same_behind one other (same_kind (kind_of one) (kind_of other) (first e)) is also (rest e) where
      first : {a b : List ℕ} {xs ys : List (List ℕ)} → a ∷ xs ≡ b ∷ ys → a ≡ b
      first h = cc

      rest : {a b : List ℕ} {xs ys : List (List ℕ)} → a ∷ xs ≡ b ∷ ys → xs ≡ ys
      rest h = cc

pub same_line : (one other : SavedLine) → IsSavedLine one → IsSavedLine other → line_text one ≡ line_text other → one ≡ other
same_line one other is also e =
    same_words one other is also (sym (split_line one is) ∙ (ap (slice_split (λ byte. byte == 32)) e ∙ split_line other also))
