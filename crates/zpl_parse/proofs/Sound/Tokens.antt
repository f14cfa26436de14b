-- Soundness of the rules of single tokens.
use Rattle.std.proofs.Common.{◌≡◌, ℕ, zero, suc, Bool, true, false, List, [], ◌∷◌, ◌++◌, refl, sym, ap, append_assoc}
use Rattle.std.specs.Bool.{⊤}
use Rattle.std.proofs.lemmas.Bool.{false≢true}
use Rattle.zpl_tokens.specs.declared.Kind.{Kind}
use Rattle.zpl_tokens.specs.declared.Kind.TheVariants as kind
use Rattle.zpl_tokens.specs.declared.keywords.Key.{Key}
use Rattle.zpl_tokens.specs.declared.keywords.Key.TheVariants as key
use Rattle.zpl_tokens.specs.declared.symbols.Sym.{Sym}
use Rattle.zpl_tokens.specs.declared.symbols.Sym.TheVariants as sym
use Rattle.zpl_tree.specs.Spelling.{name_words, names_words, end_words, each_after, separated}
use Rattle.zpl_tree.specs.Grammar.{HasAny}
use Rattle.zpl_tree.specs.Word.{Word, kind_of}
use Rattle.zpl_tree.specs.Word as word
use Rattle.zpl_grammar.specs.Lexeme.{Lexeme, head_kind, behind}
use Rattle.zpl_parse.specs.Outcome.{Outcome, Reader, and_then, made}
use Rattle.zpl_grammar.specs.Same.{same}
use Rattle.zpl_parse.specs.Tokens.{next_is, taken, expect, name, name_of_kind, names, closing, string_of, in_quotes}
use Rattle.zpl_parse.proofs.Sound.Base.{Reads, IsNoEnd, Takes, nothing, one, here, IsSound, Spelled, done, wrong, behind_words, weaken, step, finish, choose, same_symbol, same_keyword}

-- words that are told by their kinds alone
abbrev pub IsSign : Word → Type 0
IsSign (word.Symbol s) = ⊤
IsSign (word.Keyword k) = ⊤
IsSign word.Ditto = ⊤
IsSign _ = ⊥

same_is_symbol : (k : Kind) (s : Sym) → same k (kind.Symbol s) ≡ true → k ≡ kind.Symbol s
same_is_symbol (kind.Symbol a) s e = ap kind.Symbol (same_symbol a s e)
same_is_symbol _ s e = absurd (false≢true e)

same_is_keyword : (k : Kind) (s : Key) → same k (kind.Word s) ≡ true → k ≡ kind.Word s
same_is_keyword (kind.Word a) s e = ap kind.Word (same_keyword a s e)
same_is_keyword _ s e = absurd (false≢true e)

same_is_ditto : (k : Kind) → same k kind.Ditto ≡ true → k ≡ kind.Ditto
same_is_ditto kind.Ditto e = refl
same_is_ditto _ e = absurd (false≢true e)

pub same_is_name : (k : Kind) → same k kind.Name ≡ true → k ≡ kind.Name
same_is_name kind.Name e = refl
same_is_name _ e = absurd (false≢true e)

pub same_is_string : (k : Kind) → same k kind.Str ≡ true → k ≡ kind.Str
same_is_string kind.Str e = refl
same_is_string _ e = absurd (false≢true e)

pub same_is_end : (k : Kind) → same k kind.End ≡ true → k ≡ kind.End
same_is_end kind.End e = refl
same_is_end _ e = absurd (false≢true e)

-- one lexeme
pub takes_one : (w : Word) {first : Lexeme} {rest : List Lexeme} → Reads first w → IsNoEnd w
    → Takes (first ∷ rest) (w ∷ []) rest
takes_one w reads inner = one reads inner nothing

-- a lexeme of the kind of a sign
pub takes_sign : (w : Word) → IsSign w → {first : Lexeme} {rest : List Lexeme} → first.kind
    ≡ kind_of w → Takes (first ∷ rest) (w ∷ []) rest
takes_sign (word.Symbol s) is e = one (record { kind = e; bytes = tt }) tt nothing
takes_sign (word.Keyword k) is e = one (record { kind = e; bytes = tt }) tt nothing
takes_sign word.Ditto is e = one (record { kind = e; bytes = tt }) tt nothing
takes_sign (word.Name text) is e = absurd is
takes_sign (word.Number value) is e = absurd is
takes_sign (word.Str bytes) is e = absurd is
takes_sign word.End is e = absurd is

same_is_sign : (w : Word) → IsSign w → (k : Kind) → same k (kind_of w) ≡ true → k ≡ kind_of w
same_is_sign (word.Symbol s) is k e = same_is_symbol k s e
same_is_sign (word.Keyword s) is k e = same_is_keyword k s e
same_is_sign word.Ditto is k e = same_is_ditto k e
same_is_sign (word.Name text) is k e = absurd is
same_is_sign (word.Number value) is k e = absurd is
same_is_sign (word.Str bytes) is k e = absurd is
same_is_sign word.End is k e = absurd is

-- a choice by the first lexeme, which is then taken
pub at_sign : {A : Type 0} {Says : A → List Word → Type 0} (w : Word) → IsSign w
    → (lexemes : List Lexeme) {x y : Outcome A} →
    IsSound (λ tree more. Says tree (w ∷ more)) (behind lexemes) x → IsSound Says lexemes y →
    IsSound Says lexemes (elim (next_is (kind_of w) lexemes) [ true ↦ x | false ↦ y ])
at_sign w is [] so other = other
at_sign w is (first ∷ rest) {x = x} so other = choose (same first.kind (kind_of w))
    (λ e. behind_words x (takes_sign w is (same_is_sign w is first.kind e)) so)
    (λ e. other)

-- one that must be there
expected : (w : Word) → IsSign w → (first : Lexeme) (rest : List Lexeme) (test : Bool)
    → same first.kind (kind_of w) ≡ test →
    IsSound (Spelled (λ at. w ∷ []) (λ (at : ℕ). ⊤)) (first ∷ rest) (taken test first rest)
expected w is first rest true e =
    record { tells = (w ∷ [], takes_sign w is (same_is_sign w is first.kind e), (refl, tt)) }
expected w is first rest false e = record { tells = here }

pub expect_sound : (w : Word) → IsSign w → (lexemes : List Lexeme)
    → IsSound (Spelled (λ at. w ∷ []) (λ (at : ℕ). ⊤)) lexemes (expect (kind_of w) lexemes)
expect_sound w is [] = record { tells = here }
expect_sound w is (first ∷ rest) = expected w is first rest (same first.kind (kind_of w)) refl

-- one that must be there before what follows
pub sign : {A : Type 0} {Says : A → List Word → Type 0} (w : Word) → IsSign w
    → {lexemes : List Lexeme} {next : ℕ → Reader A} →
    ((at : ℕ) (rest : List Lexeme)
    → IsSound (λ tree more. Says tree (w ∷ more)) rest (next at rest)) →
    IsSound Says lexemes (and_then (expect (kind_of w) lexemes) next)
sign w is {lexemes = lexemes} so = step (expect_sound w is lexemes) (λ at rest fact. so at rest)

-- one that must be there last
pub last_sign : {A : Type 0} {Says : A → List Word → Type 0} (w : Word) → IsSign w
    → {lexemes : List Lexeme} (tree : A) →
    Says tree (w ∷ []) → IsSound Says lexemes (made (λ at. tree) (expect (kind_of w) lexemes))
last_sign w is {lexemes = lexemes} tree so =
    finish (λ at. tree) (expect_sound w is lexemes) (λ at fact. so)

named : (k : Kind) (first : Lexeme) (rest : List Lexeme) → first.kind ≡ k
    → IsSound (Spelled name_words (λ name. ⊤)) (first ∷ rest) (name_of_kind k first rest)
named kind.Name first rest e =
    record {
      tells =
          (word.Name first.bytes ∷ [], one (record { kind = e; bytes = refl }) tt nothing, (refl, tt));
    }
named _ first rest e = record { tells = here }

pub name_sound : (lexemes : List Lexeme)
    → IsSound (Spelled name_words (λ name. ⊤)) lexemes (name lexemes)
name_sound [] = record { tells = here }
name_sound (first ∷ rest) = named first.kind first rest refl

-- one more before others with a separator
pub one_more : {A : Type 0} (separator : List Word) (words : A → List Word) (xs : List A)
    → HasAny xs → separator ++ separated separator words xs ≡ each_after separator words xs
one_more separator words [] has = absurd has
one_more separator words (x ∷ xs) has =
    sym (append_assoc separator (words x) (each_after separator words xs))

pub names_sound : (most : ℕ) (lexemes : List Lexeme)
    → IsSound (Spelled names_words HasAny) lexemes (names most lexemes)
names_sound zero lexemes = wrong
names_sound (suc most) lexemes = step (name_sound lexemes) (λ first rest fact.
    at_sign (word.Symbol sym.Comma) tt rest
    (finish (λ others. first ∷ others) (names_sound most (behind rest)) (λ others has. (
      ap (λ w. name_words first ++ w) (one_more (word.Symbol sym.Comma ∷ []) name_words others
          has),
      tt,
    )))
    (done (refl, tt)))

pub closing_sound : (lexemes : List Lexeme)
    → IsSound (Spelled (λ at. end_words) (λ (at : ℕ). ⊤)) lexemes (closing lexemes)
closing_sound lexemes =
    sign (word.Keyword key.End) tt (λ at rest.
    weaken (expect_sound (word.Symbol sym.Semicolon) tt rest) (λ at words says.
    (ap (λ w. word.Keyword key.End ∷ w) says.0, tt)))

pub string_at : (lexemes : List Lexeme) → next_is kind.Str lexemes ≡ true
    → IsSound (Spelled (λ bytes. word.Str bytes ∷ []) (λ (bytes : List ℕ). ⊤)) lexemes
    (string_of lexemes)
string_at [] e = wrong
string_at (first ∷ rest) e =
    record {
      tells = (
        word.Str (in_quotes first.bytes) ∷ [],
        one (record { kind = same_is_string first.kind e; bytes = refl }) tt nothing,
        (refl, tt),
      );
    }

-- a first lexeme that is a sign
no_sign_end : (w : Word) → IsSign w → kind.End ≡ kind_of w → ⊥
no_sign_end (word.Symbol s) is e = cc
no_sign_end (word.Keyword k) is e = cc
no_sign_end word.Ditto is e = cc
no_sign_end (word.Name text) is e = is
no_sign_end (word.Number value) is e = is
no_sign_end (word.Str bytes) is e = is
no_sign_end word.End is e = is

pub takes_head : (w : Word) → IsSign w → (lexemes : List Lexeme) → head_kind lexemes ≡ kind_of w
    → Takes lexemes (w ∷ []) (behind lexemes)
takes_head w is [] e = absurd (no_sign_end w is e)
takes_head w is (first ∷ rest) e = takes_sign w is e

pub takes_next : (w : Word) → IsSign w → (lexemes : List Lexeme) → next_is (kind_of w) lexemes
    ≡ true → Takes lexemes (w ∷ []) (behind lexemes)
takes_next w is [] e = absurd (false≢true e)
takes_next w is (first ∷ rest) e = takes_sign w is (same_is_sign w is first.kind e)
