-- The tokens of a text are one list of words.
use Rattle.std.proofs.Common.{◌≡◌, ℕ, ◌-◌, List, [], ◌∷◌, ◌++◌, length, take, drop, refl, sym, ◌∙◌, ap, subst, arith, length-append}
use Rattle.std.proofs.lemmas.List.{take_at}
use Rattle.zpl_tokens.specs.declared.Kind.{Kind}
use Rattle.zpl_tokens.specs.declared.Kind.TheVariants as kind
use Rattle.zpl_text.specs.declared.tokens.Token.{Token}
use Rattle.zpl_text.specs.Bytes.{quote}
use Rattle.zpl_text.specs.Tokens.{IsTokens}
use Rattle.zpl_tree.specs.Word.{Word, Name, Number, Str, Ditto, Symbol, Keyword, End, kind_of, word_text}
use Rattle.zpl_grammar.specs.Written.{token_text, HasBytes, IsWord, AreWords}
use Rattle.zpl_grammar.specs.Writable.{HasWords}

-- the word of a token, by its kind and its bytes
abbrev between_quotes : List ℕ → List ℕ
between_quotes bytes = take (length bytes - 2) (drop 1 bytes)

abbrev word_of : Kind → List ℕ → Word
word_of kind.Name bytes = Name bytes
word_of (kind.Number value) bytes = Number value
word_of kind.Str bytes = Str (between_quotes bytes)
word_of kind.Ditto bytes = Ditto
word_of (kind.Symbol symbol) bytes = Symbol symbol
word_of (kind.Word key) bytes = Keyword key
word_of kind.End bytes = End

between_quotes_of : (bytes : List ℕ) → between_quotes (word_text (Str bytes)) ≡ bytes
between_quotes_of bytes =
    let long : length (word_text (Str bytes)) - 2 ≡ length bytes =
    omega (arith, length-append bytes (quote ∷ [])) in
    ap (λ (n : ℕ). take n (bytes ++ quote ∷ [])) long
    ∙ take_at bytes (quote ∷ []) (length bytes) refl

is_word_of : (word : Word) (bytes : List ℕ) → HasBytes word bytes
    → word ≡ word_of (kind_of word) bytes
is_word_of (Name name) bytes has = ap Name (sym has)
is_word_of (Number value) bytes has = refl
is_word_of (Str string) bytes has =
    ap Str (sym (between_quotes_of string) ∙ ap between_quotes (sym has))
is_word_of Ditto bytes has = refl
is_word_of (Symbol symbol) bytes has = refl
is_word_of (Keyword key) bytes has = refl
is_word_of End bytes has = refl

token_word : (text : List ℕ) (t : Token) (word : Word) → IsWord text t word
    → word ≡ word_of t.kind (token_text text t)
token_word text t word is = is_word_of word (token_text text t) is.bytes
    ∙ ap (λ (k : Kind). word_of k (token_text text t)) (sym is.kind)

words_unique : (text : List ℕ) (tokens : List Token) (words others : List Word)
    → AreWords text tokens words → AreWords text tokens others → words ≡ others
words_unique text [] [] [] are are' = refl
words_unique text [] [] (other ∷ others) are are' = absurd are'
words_unique text [] (word ∷ words) others are are' = absurd are
words_unique text (t ∷ tokens) [] others are are' = absurd are
words_unique text (t ∷ tokens) (word ∷ words) [] are are' = absurd are'
words_unique text (t ∷ tokens) (word ∷ words) (other ∷ others) are are' =
    let first = token_word text t word are.0 ∙ sym (token_word text t other are'.0) in
    let rest = words_unique text tokens words others are.1 are'.1 in
    λ i. first i ∷ rest i

pub text_words_unique : (text : List ℕ) (words others : List Word)
    → ((tokens more : List Token) → IsTokens text tokens → IsTokens text more → tokens ≡ more)
    → HasWords text words → HasWords text others → words ≡ others
text_words_unique text words others one has has' =
    let same = one has'.tokens has.tokens has'.are_tokens has.are_tokens in
    words_unique text has.tokens words others has.are
    (subst (λ (ts : List Token). AreWords text ts others) same has'.are)
