-- A text is cut in one way: into its counts, its listing and the lines of its states.
use Rattle.std.proofs.Common.{◌≡◌, ℕ, ◌^◌, ◌<◌, true, false, List, [], ◌∷◌, ◌++◌, drop, map, refl, ap, sym, ◌∙◌, subst, arith}
use Rattle.std.specs.Prelude.{◌≢◌, ◌==◌, All, codes}
use Rattle.std.specs.Fmt.{decimal}
use Rattle.std.specs.List.{slice_split}
use Rattle.std.specs.Str.{bytes_eq}
use Rattle.std.specs.Char.{digit_value}
use Rattle.std.specs.Str.Parse.{AllDigits, digits_value}
use Rattle.std.proofs.lemmas.Fmt.{decimal_is_IsNumeral_wide}
use Rattle.std.proofs.lemmas.List.{append_assoc}
use Rattle.std.proofs.lemmas.List.Elements.{All-head, All-tail}
use Rattle.listing_lines.specs.declared.keywords.Keyword.{Keyword}
use Rattle.listing_lines.specs.declared.keywords.Keyword.TheVariants as key
use Rattle.listing_lines.specs.declared.lines.Line.{Line}
use Rattle.listing_lines.specs.Field.{field_text}
use Rattle.listing_lines.specs.Keyword.{keyword_text}
use Rattle.listing_lines.specs.Line.{IsLine, line_text as listed_text, lines_text}
use Rattle.listing_lines.proofs.LineTexts.{line_ends as listed_ends, split_line as split_listed}
use Rattle.listing_lines.proofs.OneText.{same_line as same_listed}
use Rattle.save_lines.specs.declared.lines.Kind.TheVariants as kind
use Rattle.save_lines.specs.declared.lines.SavedLine.{SavedLine}
use Rattle.save_lines.specs.Line.{AreSavedLines, IsSavedLine, kind_of, kind_text, line_text, saved_text, words_of}
use Rattle.save_lines.proofs.Gaps.{line_ends, split_line}
use Rattle.grid_save.specs.Written.{counts_text}

-- ---- of each element
abbrev pub Every : {X : Type 0} → (X → Type 0) → List X → Type 0
Every P [] = Unit {0}
Every P (x ∷ xs) = P x × Every P xs

pub every-append : {X : Type 0} (P : X → Type 0) (xs ys : List X) → Every P xs → Every P ys → Every P (xs ++ ys)
every-append P [] ys hx hy = hy
every-append P (x ∷ xs) ys hx hy = (hx.0, every-append P xs ys hx.1 hy)

pub every-map : {X Y : Type 0} (P : Y → Type 0) (f : X → Y) (xs : List X) → ((x : X) → P (f x)) → Every P (map f xs)
every-map P f [] each = tt
every-map P f (x ∷ xs) each = (each x, every-map P f xs each)

pub every_of_all : {X : Type 0} (P Q : X → Type 0) → ((x : X) → P x → Q x) → (xs : List X) → All P xs → Every Q xs
every_of_all P Q more [] all = tt
every_of_all P Q more (x ∷ xs) all = (more x (All-head P x xs all), every_of_all P Q more xs (All-tail P x xs all))

-- ---- bytes up to the first of a kind
pub cut : (stop : ℕ) (xs ys rest others : List ℕ) → Every (λ b. b ≢ stop) xs → Every (λ b. b ≢ stop) ys →
    xs ++ stop ∷ rest ≡ ys ++ stop ∷ others → (xs ≡ ys) × (rest ≡ others)
cut stop [] [] rest others hx hy e = (refl, cc)
cut stop [] (y ∷ ys) rest others hx hy e = absurd (hy.0 cc)
cut stop (x ∷ xs) [] rest others hx hy e = absurd (hx.0 cc)
cut stop (x ∷ xs) (y ∷ ys) rest others hx hy e =
    let tails : xs ++ stop ∷ rest ≡ ys ++ stop ∷ others = cc in
    let below = cut stop xs ys rest others hx.1 hy.1 tails in
    let head : x ≡ y = cc in
    let same = below.0 in
    (cc, below.1)

-- ---- numbers
digits_differ : (stop : ℕ) → (digit_value stop < 10 → ⊥) → (ds : List ℕ) → AllDigits 10 ds → Every (λ b. b ≢ stop) ds
digits_differ stop none [] all = tt
digits_differ stop none (d ∷ ds) all = ((λ same. none (subst (λ b. digit_value b < 10) same all.0)), digits_differ stop none ds all.1)

pub same_number : (stop : ℕ) → (digit_value stop < 10 → ⊥) → (m n : ℕ) (rest others : List ℕ) → m < 10 ^ 64 → n < 10 ^ 64 →
    decimal m ++ stop ∷ rest ≡ decimal n ++ stop ∷ others → (m ≡ n) × (rest ≡ others)
same_number stop none m n rest others small also e =
    let one = decimal_is_IsNumeral_wide m small in
    let other = decimal_is_IsNumeral_wide n also in
    let parts = cut stop (decimal m) (decimal n) rest others (digits_differ stop none (decimal m) one.0.1) (digits_differ stop none (decimal n) other.0.1) e in
    (sym one.1 ∙ (ap (digits_value 10) parts.0 ∙ other.1), parts.1)

no_space : digit_value 32 < 10 → ⊥
no_space h = omega (arith, h)

no_newline : digit_value 10 < 10 → ⊥
no_newline h = omega (arith, h)

-- the counts
abbrev front : ℕ → List ℕ → List ℕ
front n more = decimal n ++ 32 ∷ more

abbrev behind_turns : ℕ → ℕ → List ℕ
behind_turns m n = decimal m ++ 32 ∷ (decimal n ++ 10 ∷ [])

pub record SameCounts (a b c d e f : ℕ) (rest others : List ℕ) : Type 0 where
  pub turns : a ≡ d
  pub sends : b ≡ e
  pub words : c ≡ f
  pub behind : rest ≡ others

pub same_counts : (a b c d e f : ℕ) (rest others : List ℕ) → a < 10 ^ 64 → b < 10 ^ 64 → c < 10 ^ 64 → d < 10 ^ 64 → e < 10 ^ 64 → f < 10 ^ 64 →
    counts_text a b c ++ rest ≡ counts_text d e f ++ others → SameCounts a b c d e f rest others
same_counts a b c d e f rest others ha hb hc hd he hf same =
    let whole : front a (behind_turns b c) ++ rest ≡ front d (behind_turns e f) ++ others = ap (drop 7) same in
    let first = same_number 32 no_space a d (behind_turns b c ++ rest) (behind_turns e f ++ others) ha hd
    (sym (append_assoc (decimal a) (32 ∷ behind_turns b c) rest) ∙ (whole ∙ append_assoc (decimal d) (32 ∷ behind_turns e f) others)) in
    let second = same_number 32 no_space b e ((decimal c ++ 10 ∷ []) ++ rest) ((decimal f ++ 10 ∷ []) ++ others) hb he
    (sym (append_assoc (decimal b) (32 ∷ (decimal c ++ 10 ∷ [])) rest) ∙ (first.1 ∙ append_assoc (decimal e) (32 ∷ (decimal f ++ 10 ∷ [])) others)) in
    let third = same_number 10 no_newline c f rest others hc hf
    (sym (append_assoc (decimal c) (10 ∷ []) rest) ∙ (second.1 ∙ append_assoc (decimal f) (10 ∷ []) others)) in
    record { turns = first.0; sends = second.0; words = third.0; behind = third.1 }

-- ---- the lines of a listing, and those of states
-- lines of states begin with where a processor stands
abbrev pub BeginsProc : List SavedLine → Type 0
BeginsProc [] = Unit {0}
BeginsProc (line ∷ lines) = kind_of line ≡ kind.Proc

not_proc : (k : Keyword) → bytes_eq (keyword_text k) (codes "proc") ≡ false
not_proc key.Version = refl
not_proc k = refl

untrue : true ≡ false → ⊥
untrue h = cc

other_line : (line : SavedLine) (listed : Line) → IsSavedLine line → IsLine listed → kind_of line ≡ kind.Proc → line_text line ≡ listed_text listed → ⊥
other_line line listed is also proc same =
    let words : words_of line ≡ keyword_text listed.keyword ∷ map field_text listed.fields =
    sym (split_line line is) ∙ (ap (slice_split (λ byte. byte == 32)) same ∙ split_listed listed also) in
    let first : kind_text (kind_of line) ≡ keyword_text listed.keyword = cc in
    let named : codes "proc" ≡ keyword_text listed.keyword = sym (ap kind_text proc) ∙ first in
    untrue (ap (λ text. bytes_eq text (codes "proc")) named ∙ not_proc listed.keyword)

differs : (b stop : ℕ) → (stop == stop) ≡ true → (b == stop) ≡ false → b ≢ stop
differs b stop own other same = let e : true ≡ false = sym own ∙ subst (λ n. (n == stop) ≡ false) same other in cc

ends : (line : SavedLine) → IsSavedLine line → Every (λ b. b ≢ 10) (line_text line)
ends line is = every_of_all (λ b. (b == 10) ≡ false) (λ b. b ≢ 10) (λ b. differs b 10 refl) (line_text line) (line_ends line is)

listed_ends' : (line : Line) → IsLine line → Every (λ b. b ≢ 10) (listed_text line)
listed_ends' line is = every_of_all (λ b. (b == 10) ≡ false) (λ b. b ≢ 10) (λ b. differs b 10 refl) (listed_text line) (listed_ends line is)

first_listed : (line : Line) (lines : List Line) (rest : List ℕ) →
    lines_text (line ∷ lines) ++ rest ≡ listed_text line ++ 10 ∷ (lines_text lines ++ rest)
first_listed line lines rest =
    append_assoc (listed_text line ++ 10 ∷ []) (lines_text lines) rest ∙ append_assoc (listed_text line) (10 ∷ []) (lines_text lines ++ rest)

first_saved : (line : SavedLine) (lines : List SavedLine) → saved_text (line ∷ lines) ≡ line_text line ++ 10 ∷ saved_text lines
first_saved line lines = append_assoc (line_text line) (10 ∷ []) (saved_text lines)

nothing : (front rest : List ℕ) → [] ≡ front ++ 10 ∷ rest → ⊥
nothing [] rest e = cc
nothing (b ∷ front) rest e = cc

-- no line of a listing begins lines of states
no_listed : (states : List SavedLine) (line : Line) (rest : List ℕ) → AreSavedLines states → BeginsProc states → IsLine line →
    saved_text states ≡ listed_text line ++ 10 ∷ rest → ⊥
no_listed [] line rest are begins is e = nothing (listed_text line) rest e
no_listed (state ∷ states) line rest are begins is e =
    let own = All-head IsSavedLine state states are in
    let parts = cut 10 (line_text state) (listed_text line) (saved_text states) rest (ends state own) (listed_ends' line is) (sym (first_saved state states) ∙ e) in
    other_line state line own is begins parts.0

pub same_listing : (one other : List Line) (states more : List SavedLine) → All IsLine one → All IsLine other → AreSavedLines states → AreSavedLines more →
    BeginsProc states → BeginsProc more → lines_text one ++ saved_text states ≡ lines_text other ++ saved_text more →
    (one ≡ other) × (saved_text states ≡ saved_text more)
same_listing [] [] states more hx hy hs hm bs bm e = (refl, e)
same_listing [] (y ∷ ys) states more hx hy hs hm bs bm e =
    absurd (no_listed states y (lines_text ys ++ saved_text more) hs bs (All-head IsLine y ys hy) (e ∙ first_listed y ys (saved_text more)))
same_listing (x ∷ xs) [] states more hx hy hs hm bs bm e =
    absurd (no_listed more x (lines_text xs ++ saved_text states) hm bm (All-head IsLine x xs hx) (sym e ∙ first_listed x xs (saved_text states)))
same_listing (x ∷ xs) (y ∷ ys) states more hx hy hs hm bs bm e =
    let own = All-head IsLine x xs hx in
    let other = All-head IsLine y ys hy in
    let parts = cut 10 (listed_text x) (listed_text y) (lines_text xs ++ saved_text states) (lines_text ys ++ saved_text more) (listed_ends' x own) (listed_ends' y other)
    (sym (first_listed x xs (saved_text states)) ∙ (e ∙ first_listed y ys (saved_text more))) in
    let head = same_listed x y own other parts.0 in
    let below = same_listing xs ys states more (All-tail IsLine x xs hx) (All-tail IsLine y ys hy) hs hm bs bm parts.1 in
    let tails = below.0 in
    (cc, below.1)
