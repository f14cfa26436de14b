-- At a place there is one step or one fault, and not both.
use Rattle.std.proofs.Common.{◌≡◌, ℕ, Bool, true, false, List, [], ◌∷◌, ◌++◌, length, take, drop}
use Rattle.std.proofs.Common.{codes, refl, sym, ap, subst, ◌∙◌, arith, ⊎_elim, nat_eq}
use Rattle.std.proofs.Common.{if◌then◌else◌}
use Rattle.std.specs.Prelude.{◌==◌}
use Rattle.std.specs.List.{list_all, starts_with}
use Rattle.std.specs.Char.{is_ascii_digit}
use Rattle.std.proofs.lemmas.Bool.{false≢true, both_ways, cases_Bool, and_parts, eqb-true}
use Rattle.std.proofs.lemmas.Bool.{cond-true, cond-false, false_from_ne_true}
use Rattle.std.proofs.lemmas.Bool.Decides.{Decides-eqb}
use Rattle.std.proofs.lemmas.List.{append_cancel_left, take_at}
use Rattle.std.proofs.lemmas.Slice.Eq.{starts_is}
use Rattle.zpl_tokens.specs.declared.Kind.{Kind}
use Rattle.zpl_tokens.specs.declared.Kind.TheVariants.{Name, Number, Str, Ditto, Symbol, Word, End}
use Rattle.zpl_text.specs.Bytes.{quote, is_word_start, BeginsWith}
use Rattle.zpl_text.specs.Kinds.{IsToken}
use Rattle.zpl_text.specs.Cutting.{MayStand, IsCut}
use Rattle.zpl_text.proofs.Cuts.{heads, nil≢cons}
use Rattle.zpl_text.proofs.Shapes.{HasShape, is_mark, shape_of, apart_word_digit, apart_word_quote}
use Rattle.zpl_text.proofs.Shapes.{apart_digit_quote, apart_mark_word, apart_mark_digit}
use Rattle.zpl_text.proofs.Written.{keyword_text_injective, symbol_text_injective}

-- what a first byte begins: 1 a word, 2 a number, 3 a string or ditto, 4 a symbol
abbrev pub class_of : Kind → ℕ
class_of Name = 1
class_of (Word k) = 1
class_of (Number n) = 2
class_of Str = 3
class_of Ditto = 3
class_of (Symbol s) = 4
class_of End = 0

abbrev pub byte_class : ℕ → ℕ
byte_class b = if is_mark b then 4 else
    (if b == quote then 3 else (if is_ascii_digit b then 2 else 1))

class_word : (b : ℕ) → is_word_start b ≡ true → 1 ≡ byte_class b
class_word b word =
    sym
    (cond-false (is_mark b) 4 (if b == quote then 3 else (if is_ascii_digit b then 2 else 1))
    (false_from_ne_true (is_mark b) (λ mark. apart_mark_word b mark word))
    ∙ cond-false (b == quote) 3 (if is_ascii_digit b then 2 else 1)
    (false_from_ne_true (b == quote) (λ same. apart_word_quote b word (eqb-true b quote same)))
    ∙ cond-false (is_ascii_digit b) 2 1
    (false_from_ne_true (is_ascii_digit b) (apart_word_digit b word)))

class_digit : (b : ℕ) → is_ascii_digit b ≡ true → 2 ≡ byte_class b
class_digit b digit =
    sym
    (cond-false (is_mark b) 4 (if b == quote then 3 else (if is_ascii_digit b then 2 else 1))
    (false_from_ne_true (is_mark b) (λ mark. apart_mark_digit b mark digit))
    ∙ cond-false (b == quote) 3 (if is_ascii_digit b then 2 else 1)
    (false_from_ne_true (b == quote) (λ same. apart_digit_quote b digit (eqb-true b quote same)))
    ∙ cond-true (is_ascii_digit b) 2 1 digit)

class_quote : (b : ℕ) → b ≡ quote → 3 ≡ byte_class b
class_quote b same = ap byte_class (sym same)

class_mark : (b : ℕ) → is_mark b ≡ true → 4 ≡ byte_class b
class_mark b mark = sym
    (cond-true (is_mark b) 4 (if b == quote then 3 else (if is_ascii_digit b then 2 else 1)) mark)

-- a token's class is that of its first byte
class_of-shape : (kind : Kind) (b : ℕ) (front : List ℕ) → HasShape kind (b ∷ front)
    → class_of kind ≡ byte_class b
class_of-shape Name b front shape = class_word b shape.0
class_of-shape (Word k) b front shape = class_word b shape.0
class_of-shape (Number n) b front shape =
    class_digit b (and_parts (is_ascii_digit b) (list_all is_ascii_digit front) shape).0
class_of-shape Str b front shape = class_quote b (heads shape.2)
class_of-shape Ditto b front shape = class_quote b (heads shape)
class_of-shape (Symbol s) b front shape = class_mark b shape.first
class_of-shape End b front shape = absurd (nil≢cons shape)

-- what is cut off has a byte
shape_some : (ditto : Bool) (kind : Kind) → HasShape kind [] → MayStand ditto kind → ⊥
shape_some ditto Name shape may = shape
shape_some ditto (Word k) shape may = shape
shape_some ditto (Number n) shape may = shape
shape_some ditto Str shape may = nil≢cons (sym shape.2)
shape_some ditto Ditto shape may = nil≢cons (sym shape)
shape_some ditto (Symbol s) shape may = shape.first
shape_some ditto End shape may = may

-- bytes are of one kind at most
kinds_alike : (ditto : Bool) (bytes : List ℕ) (kind other : Kind) → class_of kind ≡ class_of other
    → IsToken bytes kind → IsToken bytes other → MayStand ditto kind → MayStand ditto other
    → kind ≡ other
kinds_alike ditto bytes Name Name same token token' may may' = refl
kinds_alike ditto bytes Name (Word k) same token token' may may' = absurd (token.1 k token')
kinds_alike ditto bytes (Word k) Name same token token' may may' = absurd (token'.1 k token)
kinds_alike ditto bytes (Word k) (Word l) same token token' may may' =
    ap Word (keyword_text_injective k l (sym token ∙ token'))
kinds_alike ditto bytes (Number n) (Number m) same token token' may may' =
    ap Number (token.1 ∙ sym token'.1)
kinds_alike ditto bytes Str Str same token token' may may' = refl
kinds_alike ditto bytes Str Ditto same token token' may may' = absurd (both_ways ditto may may')
kinds_alike ditto bytes Ditto Str same token token' may may' = absurd (both_ways ditto may' may)
kinds_alike ditto bytes Ditto Ditto same token token' may may' = refl
kinds_alike ditto bytes (Symbol s) (Symbol t) same token token' may may' =
    ap Symbol (symbol_text_injective s t (sym token ∙ token'))
kinds_alike ditto bytes End End same token token' may may' = refl
kinds_alike ditto bytes _ _ same token token' may may' = absurd (omega (arith, same))

kind_unique : (ditto : Bool) (front : List ℕ) (kind other : Kind) → IsToken front kind
    → IsToken front other → MayStand ditto kind → MayStand ditto other → kind ≡ other
kind_unique ditto [] kind other token token' may may' =
    absurd (shape_some ditto kind (shape_of kind [] token) may)
kind_unique ditto (b ∷ front) kind other token token' may may' =
    kinds_alike ditto (b ∷ front) kind other
    (class_of-shape kind b front (shape_of kind (b ∷ front) token)
    ∙ sym (class_of-shape other b front (shape_of other (b ∷ front) token')))
    token token' may may'

-- fronts of one length are one
front_unique : (front other after rest : List ℕ) → length front ≡ length other
    → front ++ after ≡ other ++ rest → front ≡ other
front_unique front other after rest long same =
    sym (take_at front after (length front) refl)
    ∙ ap (λ (xs : List ℕ). take (length front) xs) same
    ∙ take_at other rest (length front) (sym long)

module _ (ditto : Bool) (bytes : List ℕ) where
  cut_front : (kind other : Kind) (after rest : List ℕ) (one : IsCut ditto bytes kind after)
      (two : IsCut ditto bytes other rest) → one.front ≡ two.front
  cut_front kind other after rest one two =
      ⊎_elim
      (λ test.
      let bars : BeginsWith (codes "|||") bytes =
      (drop 3 bytes, (starts_is Decides-eqb bytes (codes "|||") true (sym test)).0 refl) in
      one.first_bar bars ∙ sym (two.first_bar bars))
      (λ test.
      let no_bars : BeginsWith (codes "|||") bytes → ⊥ =
      λ bars. false≢true
      ((starts_is Decides-eqb bytes (codes "|||") false (sym test)).1 bars.0 bars.1) in
      let short = one.longest no_bars two.front other
      (record { at_front = (rest, two.split); token = two.token; place = two.place }) in
      let long = two.longest no_bars one.front kind
      (record { at_front = (after, one.split); token = one.token; place = one.place }) in
      front_unique one.front two.front after rest (omega arith) (sym one.split ∙ two.split))
      (cases_Bool (starts_with nat_eq bytes (codes "|||")))

  -- one token at most is cut off
  pub cut_kind : (kind other : Kind) (after rest : List ℕ) → IsCut ditto bytes kind after
      → IsCut ditto bytes other rest → kind ≡ other
  cut_kind kind other after rest one two =
      let same = cut_front kind other after rest one two in
      kind_unique ditto one.front kind other one.token
      (subst (λ (xs : List ℕ). IsToken xs other) (sym same) two.token) one.place two.place

  pub cut_after : (kind other : Kind) (after rest : List ℕ) → IsCut ditto bytes kind after
      → IsCut ditto bytes other rest → after ≡ rest
  cut_after kind other after rest one two =
      let same = cut_front kind other after rest one two in
      append_cancel_left one.front after rest
      (sym one.split ∙ two.split ∙ ap (λ (xs : List ℕ). xs ++ rest) (sym same))

-- the front has a byte, which is the first
first_shape : (ditto : Bool) (b : ℕ) (bytes front after : List ℕ) (kind : Kind)
    → b ∷ bytes ≡ front ++ after → HasShape kind front → MayStand ditto kind
    → (rest : List ℕ) × HasShape kind (b ∷ rest)
first_shape ditto b bytes [] after kind same shape may = absurd (shape_some ditto kind shape may)
first_shape ditto b bytes (c ∷ front) after kind same shape may =
    (front, subst (λ (n : ℕ). HasShape kind (n ∷ front)) (sym (heads same)) shape)

pub cut_shape : (ditto : Bool) (bytes : List ℕ) (kind : Kind) (after : List ℕ) (b : ℕ)
    (rest : List ℕ) → IsCut ditto bytes kind after → bytes ≡ b ∷ rest
    → (front : List ℕ) × HasShape kind (b ∷ front)
cut_shape ditto bytes kind after b rest cut starts =
    first_shape ditto b rest cut.front after kind (sym starts ∙ cut.split)
    (shape_of kind cut.front cut.token) cut.place

pub cut_class : (ditto : Bool) (bytes : List ℕ) (kind : Kind) (after : List ℕ) (b : ℕ)
    (rest : List ℕ) → IsCut ditto bytes kind after → bytes ≡ b ∷ rest → class_of kind ≡ byte_class b
cut_class ditto bytes kind after b rest cut starts =
    let shape = cut_shape ditto bytes kind after b rest cut starts in
    class_of-shape kind b shape.0 shape.1

pub cut_front_some : (ditto : Bool) (bytes : List ℕ) (kind : Kind) (after : List ℕ)
    (cut : IsCut ditto bytes kind after) → cut.front ≡ [] → ⊥
cut_front_some ditto bytes kind after cut empty =
    shape_some ditto kind (subst (HasShape kind) empty (shape_of kind cut.front cut.token))
    cut.place

pub cut_some : (ditto : Bool) (bytes : List ℕ) (kind : Kind) (after : List ℕ)
    → IsCut ditto bytes kind after → bytes ≡ [] → ⊥
cut_some ditto bytes kind after cut empty =
    no_front ditto cut.front after kind (sym empty ∙ cut.split) (shape_of kind cut.front cut.token)
    cut.place
  where
    no_front : (ditto : Bool) (front after : List ℕ) (kind : Kind) → [] ≡ front ++ after
        → HasShape kind front → MayStand ditto kind → ⊥
    no_front ditto [] after kind same shape may = shape_some ditto kind shape may
    no_front ditto (b ∷ front) after kind same shape may = nil≢cons (sym same)
