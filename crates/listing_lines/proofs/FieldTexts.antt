-- What is found of a field in the word that it is written as: its numbers and its mark.
use Rattle.std.proofs.Common.{◌≡◌, ℕ, ◌<◌, Bool, true, false, not, ◌&&◌, List, [], ◌∷◌, ◌++◌, length, map, ℤ, ◌∙◌, ap, refl, arith, Ok}
use Rattle.std.specs.Prelude.{All, IsTrue, ◌==◌, slice_index}
use Rattle.std.specs.Fmt.{signed_decimal}
use Rattle.std.specs.List.{list_all, slice_split}
use Rattle.std.proofs.lemmas.Bool.{eqb-true}
use Rattle.std.proofs.lemmas.List.{append-nil}
use Rattle.std.proofs.lemmas.List.Elements.{All-head, All-tail, All-cons, All-nil}
use Rattle.std.proofs.lemmas.List.Splits.{slice_split_none, slice_split_at, slice_split-cons_yes}
use Rattle.hex.specs.Hex.{IsBytes, decode_of, encode_lower, lower_digits}
use Rattle.hex.proofs.HexLemmas.{decode_of-encode_lower, length-encode_with}
use Rattle.zpl_nums.specs.Integer.{IsInteger}
use Rattle.listing_lines.specs.declared.fields.Mark.{Mark}
use Rattle.listing_lines.specs.declared.fields.Mark.TheVariants.{Plain, Range, Bounds, Span, Copied, Constant, Scalar, Here, Shifted, Cell, Coord}
use Rattle.listing_lines.specs.declared.fields.Nth.{Nth}
use Rattle.listing_lines.specs.declared.fields.Nth.TheVariants.{First, Second, Third, Later}
use Rattle.listing_lines.specs.Field.{before, behind, numbers_text, bytes_text, has_count, are_some}
use Rattle.listing_lines.specs.Reading.{is_number_byte, some_texts, number_texts, has_byte, mark_of}
use Rattle.listing_lines.proofs.Numerals.{number_bytes, some_bytes}

-- ---- numbers
-- a byte that parts numbers
abbrev parts : ℕ → Bool
parts byte = not (is_number_byte byte)

abbrev PartsFirst : List ℕ → Type 0
PartsFirst [] = Unit {0}
PartsFirst (byte ∷ bytes) = parts byte ≡ true

both : (a b : Bool) → (a && b) ≡ true → (a ≡ true) × (b ≡ true)
both true b h = (refl, h)
both false b h = absurd cc

all_parted : (xs : List ℕ) → list_all is_number_byte xs ≡ true → All (λ byte. parts byte ≡ false) xs
all_parted [] h = All-nil _
all_parted (x ∷ xs) h =
    let split = both (is_number_byte x) (list_all is_number_byte xs) h in
    All-cons (λ byte. parts byte ≡ false) x xs (rw (split.0)) (all_parted xs split.1)

number_texts-skip : (bytes rest : List ℕ) → list_all parts bytes ≡ true → number_texts (bytes ++ rest) ≡ number_texts rest
number_texts-skip [] rest h = refl
number_texts-skip (byte ∷ bytes) rest h =
    let split = both (parts byte) (list_all parts bytes) h in
    rw (slice_split-cons_yes parts byte (bytes ++ rest) split.0) (number_texts-skip bytes rest split.1)

some_texts-cons : (text : List ℕ) (texts : List (List ℕ)) → 0 < length text → some_texts (text ∷ texts) ≡ text ∷ some_texts texts
some_texts-cons [] texts h = absurd (omega arith)
some_texts-cons (byte ∷ bytes) texts h = refl

number_texts-number : (text rest : List ℕ) → list_all is_number_byte text ≡ true → 0 < length text → PartsFirst rest →
    number_texts (text ++ rest) ≡ text ∷ number_texts rest
number_texts-number text [] h some first =
    rw (append-nil text, slice_split_none parts text (all_parted text h)) (some_texts-cons text [] some)
number_texts-number text (byte ∷ bytes) h some first =
    rw (slice_split_at parts text byte bytes (all_parted text h) first, slice_split-cons_yes parts byte bytes first)
    (some_texts-cons text (slice_split parts bytes) some)

before_parts : (mark : Mark) (nth : Nth) → list_all parts (before mark nth) ≡ true
before_parts Plain First = refl
before_parts Plain Second = refl
before_parts Plain Third = refl
before_parts Plain Later = refl
before_parts Range First = refl
before_parts Range Second = refl
before_parts Range Third = refl
before_parts Range Later = refl
before_parts Bounds First = refl
before_parts Bounds Second = refl
before_parts Bounds Third = refl
before_parts Bounds Later = refl
before_parts Span First = refl
before_parts Span Second = refl
before_parts Span Third = refl
before_parts Span Later = refl
before_parts Copied nth = refl
before_parts Constant nth = refl
before_parts Scalar nth = refl
before_parts Here nth = refl
before_parts Shifted First = refl
before_parts Shifted Second = refl
before_parts Shifted Third = refl
before_parts Shifted Later = refl
before_parts Cell nth = refl
before_parts Coord nth = refl

-- what stands in front of a number that isn't the first one begins with such a byte
before_first : (mark : Mark) (nth : Nth) (rest : List ℕ) → PartsFirst (before mark (behind nth) ++ rest)
before_first Plain First rest = refl
before_first Plain Second rest = refl
before_first Plain Third rest = refl
before_first Plain Later rest = refl
before_first Range First rest = refl
before_first Range Second rest = refl
before_first Range Third rest = refl
before_first Range Later rest = refl
before_first Bounds First rest = refl
before_first Bounds Second rest = refl
before_first Bounds Third rest = refl
before_first Bounds Later rest = refl
before_first Span First rest = refl
before_first Span Second rest = refl
before_first Span Third rest = refl
before_first Span Later rest = refl
before_first Copied nth rest = refl
before_first Constant nth rest = refl
before_first Scalar nth rest = refl
before_first Here nth rest = refl
before_first Shifted First rest = refl
before_first Shifted Second rest = refl
before_first Shifted Third rest = refl
before_first Shifted Later rest = refl
before_first Cell nth rest = refl
before_first Coord nth rest = refl

parts_behind : (mark : Mark) (nth : Nth) (numbers : List ℤ) → PartsFirst (numbers_text mark (behind nth) numbers)
parts_behind mark nth [] = tt
parts_behind mark nth (number ∷ numbers) = before_first mark nth _

-- the numbers of a field are the texts of numbers in its word
pub numbers_found : (mark : Mark) (nth : Nth) (numbers : List ℤ) → All IsInteger numbers →
    number_texts (numbers_text mark nth numbers) ≡ map signed_decimal numbers
numbers_found mark nth [] range = refl
numbers_found mark nth (number ∷ numbers) range =
    let own = All-head IsInteger number numbers range in
    number_texts-skip (before mark nth) (signed_decimal number ++ numbers_text mark (behind nth) numbers) (before_parts mark nth)
    ∙ (number_texts-number (signed_decimal number) (numbers_text mark (behind nth) numbers) (number_bytes number own) (some_bytes number own) (parts_behind mark nth numbers)
    ∙ ap (λ texts. signed_decimal number ∷ texts) (numbers_found mark (behind nth) numbers (All-tail IsInteger number numbers range)))

-- ---- marks
has_byte-number : (wanted : ℕ) (text rest : List ℕ) → list_all is_number_byte text ≡ true → is_number_byte wanted ≡ false →
    has_byte wanted (text ++ rest) ≡ has_byte wanted rest
has_byte-number wanted [] rest h none = refl
has_byte-number wanted (byte ∷ bytes) rest h none =
    let split = both (is_number_byte byte) (list_all is_number_byte bytes) h in
    let other = differs byte wanted split.0 none in
    rw other (has_byte-number wanted bytes rest split.1 none) where
      tells : (byte wanted : ℕ) (b : Bool) → (byte == wanted) ≡ b → is_number_byte byte ≡ true → is_number_byte wanted ≡ false → (byte == wanted) ≡ false
      tells byte wanted true e holds none' =
          let same = eqb-true byte wanted e in
          let other : is_number_byte byte ≡ false = rw same none' in
          absurd cc
      tells byte wanted false e holds none' = e

      differs : (byte wanted : ℕ) → is_number_byte byte ≡ true → is_number_byte wanted ≡ false → (byte == wanted) ≡ false
      differs byte wanted holds none' = tells byte wanted (byte == wanted) refl holds none'

-- a byte of a mark isn't in a number
skip : (wanted : ℕ) (number : ℤ) (rest : List ℕ) → IsInteger number → is_number_byte wanted ≡ false →
    has_byte wanted (signed_decimal number ++ rest) ≡ has_byte wanted rest
skip wanted number rest range none = has_byte-number wanted (signed_decimal number) rest (number_bytes number range) none

first_of_number : (text rest : List ℕ) → list_all is_number_byte text ≡ true → 0 < length text → is_number_byte (slice_index (text ++ rest) 0) ≡ true
first_of_number [] rest h some = absurd (omega arith)
first_of_number (byte ∷ bytes) rest h some = (both (is_number_byte byte) (list_all is_number_byte bytes) h).0

first_byte : (number : ℤ) (rest : List ℕ) → IsInteger number → is_number_byte (slice_index (signed_decimal number ++ rest) 0) ≡ true
first_byte number rest range = first_of_number (signed_decimal number) rest (number_bytes number range) (some_bytes number range)

no_dots : (nth : Nth) (numbers : List ℤ) → All IsInteger numbers → has_byte 46 (numbers_text Plain nth numbers) ≡ false
no_dots nth [] range = refl
no_dots First (number ∷ numbers) range =
    skip 46 number _ (All-head IsInteger number numbers range) refl ∙ no_dots Second numbers (All-tail IsInteger number numbers range)
no_dots Second (number ∷ numbers) range =
    skip 46 number _ (All-head IsInteger number numbers range) refl ∙ no_dots Third numbers (All-tail IsInteger number numbers range)
no_dots Third (number ∷ numbers) range =
    skip 46 number _ (All-head IsInteger number numbers range) refl ∙ no_dots Later numbers (All-tail IsInteger number numbers range)
no_dots Later (number ∷ numbers) range =
    skip 46 number _ (All-head IsInteger number numbers range) refl ∙ no_dots Later numbers (All-tail IsInteger number numbers range)

-- ---- the mark of a word
plain_mark : (numbers : List ℤ) → IsTrue (are_some numbers) → All IsInteger numbers → mark_of (numbers_text Plain First numbers) ≡ Plain
plain_mark [] some range = absurd cc
plain_mark (a ∷ numbers) some range =
    rw (first_byte a (numbers_text Plain Second numbers) (All-head IsInteger a numbers range), no_dots First (a ∷ numbers) range) refl

-- numbers from the first one on, and a byte that isn't of a number behind each
span_mark : (a b : ℤ) → IsInteger a → IsInteger b → mark_of (numbers_text Span First (a ∷ b ∷ [])) ≡ Span
span_mark a b ia ib =
    let behind_b : has_byte 58 (signed_decimal b ++ []) ≡ false = skip 58 b [] ib refl in
    let dots : has_byte 46 (numbers_text Span First (a ∷ b ∷ [])) ≡ true = skip 46 a _ ia refl in
    let colon : has_byte 58 (numbers_text Span First (a ∷ b ∷ [])) ≡ false = skip 58 a _ ia refl ∙ behind_b in
    rw (first_byte a (numbers_text Span Second (b ∷ [])) ia, dots, colon) refl

range_mark : (a b c d : ℤ) → IsInteger a → IsInteger b → IsInteger c → mark_of (numbers_text Range First (a ∷ b ∷ c ∷ d ∷ [])) ≡ Range
range_mark a b c d ia ib ic =
    let word = numbers_text Range First (a ∷ b ∷ c ∷ d ∷ []) in
    let dots : has_byte 46 word ≡ true = skip 46 a _ ia refl in
    let colon : has_byte 58 word ≡ true = skip 58 a _ ia refl ∙ skip 58 b _ ib refl in
    let comma : has_byte 44 word ≡ true = skip 44 a _ ia refl ∙ (skip 44 b _ ib refl ∙ skip 44 c _ ic refl) in
    rw (first_byte a (numbers_text Range Second (b ∷ c ∷ d ∷ [])) ia, dots, colon, comma) refl

bounds_mark : (a b c d : ℤ) → IsInteger a → IsInteger b → IsInteger c → IsInteger d → mark_of (numbers_text Bounds First (a ∷ b ∷ c ∷ d ∷ [])) ≡ Bounds
bounds_mark a b c d ia ib ic id =
    let word = numbers_text Bounds First (a ∷ b ∷ c ∷ d ∷ []) in
    let dots : has_byte 46 word ≡ true = skip 46 a _ ia refl in
    let colon : has_byte 58 word ≡ true = skip 58 a _ ia refl ∙ skip 58 b _ ib refl in
    let comma : has_byte 44 word ≡ false = skip 44 a _ ia refl ∙ (skip 44 b _ ib refl ∙ (skip 44 c _ ic refl ∙ skip 44 d [] id refl)) in
    rw (first_byte a (numbers_text Bounds Second (b ∷ c ∷ d ∷ [])) ia, dots, colon, comma) refl

here_mark : (a : ℤ) → IsInteger a → mark_of (numbers_text Here First (a ∷ [])) ≡ Here
here_mark a ia = let at : has_byte 64 (signed_decimal a ++ []) ≡ false = skip 64 a [] ia refl in rw at refl

shifted_mark : (a b : ℤ) (numbers : List ℤ) → IsInteger a → mark_of (numbers_text Shifted First (a ∷ b ∷ numbers)) ≡ Shifted
shifted_mark a b numbers ia =
    let at : has_byte 64 (signed_decimal a ++ numbers_text Shifted Second (b ∷ numbers)) ≡ true = skip 64 a _ ia refl in rw at refl

-- the first numbers of a list are of 64 bits
at_first : (a : ℤ) (xs : List ℤ) → All IsInteger (a ∷ xs) → IsInteger a
at_first a xs range = All-head IsInteger a xs range

at_second : (a b : ℤ) (xs : List ℤ) → All IsInteger (a ∷ b ∷ xs) → IsInteger b
at_second a b xs range = at_first b xs (All-tail IsInteger a (b ∷ xs) range)

at_third : (a b c : ℤ) (xs : List ℤ) → All IsInteger (a ∷ b ∷ c ∷ xs) → IsInteger c
at_third a b c xs range = at_second b c xs (All-tail IsInteger a (b ∷ c ∷ xs) range)

at_fourth : (a b c d : ℤ) (xs : List ℤ) → All IsInteger (a ∷ b ∷ c ∷ d ∷ xs) → IsInteger d
at_fourth a b c d xs range = at_third b c d xs (All-tail IsInteger a (b ∷ c ∷ d ∷ xs) range)

pub mark_found : (mark : Mark) (numbers : List ℤ) → IsTrue (has_count mark numbers) → All IsInteger numbers →
    mark_of (numbers_text mark First numbers) ≡ mark
mark_found Plain numbers count range = plain_mark numbers count range
mark_found Range (a ∷ b ∷ c ∷ d ∷ []) count range =
    range_mark a b c d (at_first a (b ∷ c ∷ d ∷ []) range) (at_second a b (c ∷ d ∷ []) range) (at_third a b c (d ∷ []) range)
mark_found Bounds (a ∷ b ∷ c ∷ d ∷ []) count range =
    bounds_mark a b c d (at_first a (b ∷ c ∷ d ∷ []) range) (at_second a b (c ∷ d ∷ []) range) (at_third a b c (d ∷ []) range) (at_fourth a b c d [] range)
mark_found Span (a ∷ b ∷ []) count range = span_mark a b (at_first a (b ∷ []) range) (at_second a b [] range)
mark_found Copied (a ∷ numbers) count range = refl
mark_found Constant (a ∷ numbers) count range = refl
mark_found Scalar (a ∷ numbers) count range = refl
mark_found Here (a ∷ []) count range = here_mark a (at_first a [] range)
mark_found Shifted (a ∷ b ∷ numbers) count range = shifted_mark a b numbers (at_first a (b ∷ numbers) range)
mark_found Cell (a ∷ numbers) count range = refl
mark_found Coord (a ∷ numbers) count range = refl
mark_found mark numbers count range = absurd cc

-- ---- bytes
-- one byte is the text of no bytes alone
pub no_bytes_in : (bytes : List ℕ) → 45 ∷ [] ≡ bytes_text bytes → [] ≡ bytes
no_bytes_in [] h = refl
no_bytes_in (byte ∷ bytes) h =
    let long = length-encode_with lower_digits (byte ∷ bytes) in
    let same : 1 ≡ length (encode_lower (byte ∷ bytes)) = ap length h in
    absurd (omega (arith, long, same))

-- other bytes are decoded
pub decoded : (word bytes : List ℕ) → IsBytes bytes → word ≡ bytes_text bytes → (word ≡ 45 ∷ [] → ⊥) → decode_of word ≡ Ok bytes
decoded word [] range written other = absurd (other written)
decoded word (byte ∷ bytes) range written other = rw written (decode_of-encode_lower (byte ∷ bytes) range)
