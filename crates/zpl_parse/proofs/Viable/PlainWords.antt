-- Words that may stand anywhere in a text: so what goes on with them is writable as far as what
-- stands before it is.
use Rattle.std.proofs.Common.{◌≡◌, ℕ, ◌<◌, ◌==◌, ℤ, pos, Bool, true, false, ◌&&◌, List, [], ◌∷◌, ◌++◌, length, codes, refl, sym, ap, subst, arith}
use Rattle.std.specs.Bool.{⊤}
use Rattle.std.proofs.lemmas.Bool.{false≢true, and_parts, and_from, eqb-true}
use Rattle.std.specs.Fmt.{digits, signed_decimal}
use Rattle.zpl_tokens.specs.declared.Kind.TheVariants as kind
use Rattle.zpl_tokens.specs.declared.keywords.Key.{Key}
use Rattle.zpl_tokens.specs.declared.keywords.Key.TheVariants as key
use Rattle.zpl_tokens.specs.Key.{keyword_text}
use Rattle.zpl_text.specs.Kinds.{IsToken}
use Rattle.zpl_text.specs.Cutting.{opens_ditto}
use Rattle.zpl_tree.specs.Word.{Word, kind_of}
use Rattle.zpl_tree.specs.Word as word
use Rattle.zpl_grammar.specs.Writable.{IsWritable, EachIsWritable}
use Rattle.zpl_parse.proofs.Sound.Tokens.{IsSign}

-- the name x
abbrev is_x : List ℕ → Bool
is_x (b ∷ []) = b == 120
is_x _ = false

abbrev is_nought : ℤ → Bool
is_nought (pos n) = n == 0
is_nought _ = false

-- one name, one number, and each symbol and keyword
abbrev is_plain : Word → Bool
is_plain (word.Name text) = is_x text
is_plain (word.Number value) = is_nought value
is_plain (word.Symbol s) = true
is_plain (word.Keyword k) = true
is_plain _ = false

abbrev are_plain : List Word → Bool
are_plain [] = true
are_plain (w ∷ words) = is_plain w && are_plain words

-- words of which each may stand anywhere
abbrev pub ArePlain : List Word → Type 0
ArePlain words = are_plain words ≡ true

pub plain_then : (words more : List Word) → ArePlain words → ArePlain more
    → ArePlain (words ++ more)
plain_then [] more plain after = after
plain_then (w ∷ words) more plain after =
    let parts = and_parts (is_plain w) (are_plain words) plain in
    and_from (is_plain w) (are_plain (words ++ more)) parts.0 (plain_then words more parts.1 after)

-- symbols and keywords
abbrev pub IsMark : Word → Type 0
IsMark (word.Symbol s) = ⊤
IsMark (word.Keyword k) = ⊤
IsMark _ = ⊥

pub mark_is_sign : (w : Word) → IsMark w → IsSign w
mark_is_sign (word.Symbol s) is = tt
mark_is_sign (word.Keyword k) is = tt
mark_is_sign (word.Name text) is = absurd is
mark_is_sign (word.Number value) is = absurd is
mark_is_sign (word.Str bytes) is = absurd is
mark_is_sign word.Ditto is = absurd is
mark_is_sign word.End is = absurd is

pub mark_is_plain : (w : Word) → IsMark w → ArePlain (w ∷ [])
mark_is_plain (word.Symbol s) is = refl
mark_is_plain (word.Keyword k) is = refl
mark_is_plain (word.Name text) is = absurd is
mark_is_plain (word.Number value) is = absurd is
mark_is_plain (word.Str bytes) is = absurd is
mark_is_plain word.Ditto is = absurd is
mark_is_plain word.End is = absurd is

-- The name x is no keyword: those have two letters or more.
keyword_longer : (k : Key) → 1 < length (keyword_text k)
keyword_longer key.Program = omega arith
keyword_longer _ = omega arith

no_keyword : (k : Key) → codes "x" ≡ keyword_text k → ⊥
no_keyword k same = let long = keyword_longer k in let long' = ap length same in omega arith

x_token : IsToken (codes "x") kind.Name
x_token = ((refl, refl), no_keyword)

x_is : (text : List ℕ) → is_x text ≡ true → codes "x" ≡ text
x_is [] is = absurd (false≢true is)
x_is (b ∷ []) is = let same : b ≡ 120 = eqb-true b 120 is in cc
x_is (b ∷ c ∷ text) is = absurd (false≢true is)

nought_token : IsToken (signed_decimal (pos 0)) (kind.Number (pos 0))
unfolding digits
nought_token = (refl, refl)

-- each where a quote is a ditto, and where it isn't
name_writable : (ditto : Bool) (text : List ℕ) → codes "x" ≡ text
    → IsWritable ditto (word.Name text)
name_writable ditto text is =
    subst (λ (bytes : List ℕ). IsWritable ditto (word.Name bytes)) is (record {
      token =
          x_token;
      stands = tt;
      limit = tt;
    })

number_writable : (ditto : Bool) (n : ℕ) → (n == 0) ≡ true → IsWritable ditto (word.Number (pos n))
number_writable ditto n is =
    subst (λ (m : ℕ). IsWritable ditto (word.Number (pos m))) (sym (eqb-true n 0 is))
    (record { token = nought_token; stands = tt; limit = omega arith })

plain_writable : (ditto : Bool) (w : Word) → is_plain w ≡ true → IsWritable ditto w
plain_writable ditto (word.Name text) is = name_writable ditto text (x_is text is)
plain_writable ditto (word.Number (pos n)) is = number_writable ditto n is
plain_writable ditto (word.Number _) is = absurd (false≢true is)
plain_writable ditto (word.Str bytes) is = absurd (false≢true is)
plain_writable ditto word.Ditto is = absurd (false≢true is)
plain_writable ditto (word.Symbol s) is = record { token = refl; stands = tt; limit = tt }
plain_writable ditto (word.Keyword k) is = record { token = refl; stands = tt; limit = tt }
plain_writable ditto word.End is = absurd (false≢true is)

-- writable words with plain ones behind them
each_plain : (ditto : Bool) (words : List Word) → ArePlain words → EachIsWritable ditto words
each_plain ditto [] plain = tt
each_plain ditto (w ∷ words) plain =
    let parts = and_parts (is_plain w) (are_plain words) plain in
    (plain_writable ditto w parts.0, each_plain (opens_ditto (kind_of w)) words parts.1)

pub writable_then : (ditto : Bool) (words more : List Word) → EachIsWritable ditto words
    → ArePlain more → EachIsWritable ditto (words ++ more)
writable_then ditto [] more each plain = each_plain ditto more plain
writable_then ditto (w ∷ words) more each plain =
    (each.0, writable_then (opens_ditto (kind_of w)) words more each.1 plain)
