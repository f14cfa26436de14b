-- The numbers among the words of a text are of 64 bits.
use Rattle.std.proofs.Common.{◌≡◌, ℕ, Bool, false, ℤ, pos, ◌≤ℤ◌, List, [], ◌∷◌, ◌++◌, sym, subst, arith}
use Rattle.std.specs.Bool.{⊤}
use Rattle.std.proofs.lemmas.Int.{ints}
use Rattle.std.specs.List.{AllByRecursion}
use Rattle.zpl_nums.specs.Integer.{IsInteger}
use Rattle.zpl_text.specs.Cutting.{greatest, opens_ditto}
use Rattle.zpl_tree.specs.Word.{Word, Name, Number, Str, Ditto, Symbol, Keyword, End, kind_of}
use Rattle.zpl_grammar.specs.Writable.{IsWritable, EachIsWritable, AreWritable}

abbrev pub IsSmallWord : Word → Type 0
IsSmallWord (Number value) = IsInteger value
IsSmallWord (Name text) = ⊤
IsSmallWord (Str bytes) = ⊤
IsSmallWord Ditto = ⊤
IsSmallWord (Symbol symbol) = ⊤
IsSmallWord (Keyword key) = ⊤
IsSmallWord End = ⊤

abbrev pub AreSmallWords : List Word → Type 0
AreSmallWords words = AllByRecursion IsSmallWord words

digits_small : (value : ℤ) (n : ℕ) → value ≡ pos n → value ≤ℤ greatest → IsInteger value
digits_small value n is limit = record { sfits = omega (arith, ints, is, limit) }

word_small : (ditto : Bool) (word : Word) → IsWritable ditto word → IsSmallWord word
word_small ditto (Number value) is = digits_small value _ is.token.1 is.limit
word_small ditto (Name text) is = tt
word_small ditto (Str bytes) is = tt
word_small ditto Ditto is = tt
word_small ditto (Symbol symbol) is = tt
word_small ditto (Keyword key) is = tt
word_small ditto End is = tt

-- and then the end
each_small : (ditto : Bool) (words : List Word) → EachIsWritable ditto words
    → AreSmallWords (words ++ End ∷ [])
each_small ditto [] each = (tt, tt)
each_small ditto (word ∷ words) each =
    (word_small ditto word each.0, each_small (opens_ditto (kind_of word)) words each.1)

pub writable_small : (words : List Word) → AreWritable words → AreSmallWords words
writable_small words writable =
    subst AreSmallWords (sym writable.split) (each_small false writable.before writable.each)
