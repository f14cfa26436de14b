-- What is claimed of a text, of what the rule of programs makes of its tokens.
use Rattle.std.proofs.Common.{◌≡◌, ◌-◌, ◌⊎◌, inl, inr, ℕ, suc, ◌+◌, ◌<◌, ◌≤◌, false, List, [], ◌∷◌, ◌++◌, length, map, refl, sym, ap, subst, ◌∙◌, arith, append_assoc, length-append}
use Rattle.std.specs.Bool.{⊤}
use Rattle.std.proofs.lemmas.List.{append_cancel_right, length-take, length-drop}
use Rattle.std.specs.List.{slice_range}
use Rattle.zpl_tokens.specs.declared.Kind.{Kind}
use Rattle.zpl_tokens.specs.declared.Kind.TheVariants as kind
use Rattle.zpl_tokens.specs.declared.keywords.Key.{Key}
use Rattle.zpl_tokens.specs.declared.keywords.Key.TheVariants as key
use Rattle.zpl_tokens.specs.declared.symbols.Sym.{Sym}
use Rattle.zpl_tokens.specs.declared.symbols.Sym.TheVariants as sym
use Rattle.zpl_tokens.specs.Key.{keyword_text}
use Rattle.zpl_tokens.specs.Sym.{symbol_text}
use Rattle.zpl_text.specs.declared.tokens.Token.{Token}
use Rattle.zpl_text.specs.Kinds.{IsToken}
use Rattle.zpl_text.specs.Spans.{AreSpans, IsSpan}
use Rattle.zpl_text.specs.Tokens.{end_of, IsTokens}
use Rattle.zpl_tree.specs.Syntax.{Program}
use Rattle.zpl_tree.specs.Depth.{depth}
use Rattle.zpl_tree.specs.Shape.{SameShape}
use Rattle.zpl_tree.specs.Grammar.{Spells}
use Rattle.zpl_tree.specs.Word.{Word}
use Rattle.zpl_tree.specs.Word as word
use Rattle.zpl_grammar.specs.Lexeme.{Lexeme, lexeme_of, lexemes_of, lexeme_at, head_at}
use Rattle.zpl_parse.specs.Written.{IsLexeme, AreLexemes}
use Rattle.zpl_parse.specs.Outcome.{Outcome, Done, Wrong, Deep}
use Rattle.zpl_parse.specs.Declarations.{program}
use Rattle.zpl_grammar.specs.Written.{IsWord, AreWords}
use Rattle.zpl_grammar.specs.Writable.{EachIsWritable}
use Rattle.zpl_grammar.specs.Texts.{most_deep, AreFirstWords, BeginsWords, BeginsText, IsSyntaxFault, IsTooDeep}
use Rattle.zpl_parse.proofs.Sound.Base.{Reads, Takes, nothing, one, no_end}
use Rattle.zpl_parse.proofs.Sound.Programs.{heads, tails, HaveNoEnd, found_no_end, word_of_token, IsLeft, wrong_is_left, token_is_left}
use Rattle.zpl_parse.proofs.Local.Base.{LocalAt, SameHead, IsWrong, IsNotDone}
use Rattle.zpl_parse.proofs.Local.Tokens.{Turns}
use Rattle.zpl_parse.proofs.Local.Declarations.{program_local}
use Rattle.zpl_parse.proofs.Complete.Programs.{program_is_complete}
use Rattle.zpl_parse.proofs.Viable.PlainWords.{writable_then}
use Rattle.zpl_parse.proofs.Viable.Base.{Goes, Begun}
use Rattle.zpl_parse.proofs.Viable.Declarations.{SpellsBefore, program_viable}
use Rattle.zpl_parse.proofs.OneTree.{length-lexemes_of}

-- offsets that rise from one token to the next
abbrev Rise : ℕ → List Token → Type 0
Rise at [] = ⊤
Rise at (t ∷ tokens) = (at ≤ t.from) × Rise (suc t.from) tokens

rise_later : (low high : ℕ) (tokens : List Token) → low ≤ high → Rise high tokens → Rise low tokens
rise_later low high [] below rise = tt
rise_later low high (t ∷ tokens) below rise = (omega (arith, rise.0), rise.1)

-- what is no end has bytes
symbol_has : (s : Sym) → 0 < length (symbol_text s)
symbol_has sym.Assign = omega arith
symbol_has _ = omega arith

keyword_has : (k : Key) → 0 < length (keyword_text k)
keyword_has key.Program = omega arith
keyword_has _ = omega arith

some_bytes : (bytes : List ℕ) (k : Kind) → IsToken bytes k → (k ≡ kind.End → ⊥) → 0 < length bytes
some_bytes [] kind.Name token inner = absurd token.0
some_bytes [] (kind.Number n) token inner = absurd token.0
some_bytes [] kind.Str token inner = let e = token.2 in absurd cc
some_bytes [] kind.Ditto token inner = absurd cc
some_bytes [] (kind.Symbol s) token inner = subst (λ b. 0 < length b) (sym token) (symbol_has s)
some_bytes [] (kind.Word k) token inner = subst (λ b. 0 < length b) (sym token) (keyword_has k)
some_bytes [] kind.End token inner = absurd (inner refl)
some_bytes (b ∷ bytes) k token inner = omega arith

length-slice : (text : List ℕ) (from to : ℕ) → length (slice_range text from to) ≤ to - from
length-slice text from to = simp (length-take, length-drop) (omega arith)

-- tokens of a text begin one behind another
span_rises : (text : List ℕ) (at : ℕ) (t : Token) → IsSpan text at t → (t.kind ≡ kind.End → ⊥)
    → t.from < t.to
span_rises text at t span inner =
    let some = some_bytes (slice_range text t.from t.to) t.kind span.text_of inner in
    omega (arith, some, length-slice text t.from t.to)

spans_rise : (text : List ℕ) (at : ℕ) (found : List Token) (last : Token) → HaveNoEnd found
    → AreSpans text at (found ++ last ∷ []) → Rise at (found ++ last ∷ [])
spans_rise text at [] last inner spans = (spans.0.behind, tt)
spans_rise text at (t ∷ found) last inner spans = (
  spans.0.behind,
  rise_later (suc t.from) t.to (found ++ last ∷
      []) (span_rises text at t spans.0 inner.0) (spans_rise text t.to found last inner.1
      spans.1),
)

tokens_rise : (text : List ℕ) (tokens : List Token) → IsTokens text tokens → AreSpans text 0 tokens
    → Rise 0 tokens
tokens_rise text tokens are spans = subst (Rise 0) (sym are.all)
    (spans_rise text 0 are.found (end_of text) (found_no_end are.cuts)
    (subst (AreSpans text 0) are.all spans))

later_is_above : (at : ℕ) (front : List Token) (t : Token) (back : List Token)
    → Rise at (front ++ t ∷ back) → at ≤ t.from
later_is_above at [] t back rise = rise.0
later_is_above at (x ∷ front) t back rise = let h =
    later_is_above (suc x.from) front t back rise.1 in omega (arith, h, rise.0)

-- there is one token at an offset
same_place : (at : ℕ) (front others : List Token) (t u : Token) (back behind : List Token)
    → Rise at (front ++ t ∷ back) → front ++ t ∷ back ≡ others ++ u ∷ behind → t.from ≡ u.from →
    (front ≡ others) × (t ≡ u)
same_place at [] [] t u back behind rise e place = (refl, cc)
same_place at [] (x ∷ others) t u back behind rise e place =
    let first : t ≡ x = cc in
    let rest : back ≡ others ++ u ∷ behind = cc in
    let above : suc t.from ≤ u.from =
    later_is_above (suc t.from) others u behind (subst (Rise (suc t.from)) rest rise.1) in
    absurd (omega arith)
same_place at (x ∷ front) [] t u back behind rise e place =
    let first : x ≡ u = cc in
    let above : suc x.from ≤ t.from = later_is_above (suc x.from) front t back rise.1 in
    let same : x.from ≡ u.from = ap (λ (t : Token). t.from) first in
    absurd (omega arith)
same_place at (x ∷ front) (y ∷ others) t u back behind rise e place =
    let first : x ≡ y = cc in
    let rest : front ++ t ∷ back ≡ others ++ u ∷ behind = cc in
    let found = same_place (suc x.from) front others t u back behind rise.1 rest place in
    (ap₂ first found.0, found.1)
  where
    ap₂ : x ≡ y → front ≡ others → x ∷ front ≡ y ∷ others
    ap₂ p q = cc

-- a lexeme that stands for a word
word_stands : (w : Word) → IsLexeme (lexeme_at 0 w) w
word_stands (word.Name text) = record { kind = refl; bytes = refl }
word_stands (word.Number value) = record { kind = refl; bytes = tt }
word_stands (word.Str bytes) = record { kind = refl; bytes = refl }
word_stands word.Ditto = record { kind = refl; bytes = tt }
word_stands (word.Symbol s) = record { kind = refl; bytes = tt }
word_stands (word.Keyword k) = record { kind = refl; bytes = tt }
word_stands word.End = record { kind = refl; bytes = tt }

words_stand : (words : List Word) → AreLexemes (map (lexeme_at 0) words) words
words_stand [] = tt
words_stand (w ∷ words) = (word_stands w, words_stand words)

-- lexemes of a text that begins with those of tokens
pub record Continues (text : List ℕ) (tokens : List Token) (words : List Word) : Type 0 where
  pub more : List Lexeme
  pub are : AreLexemes (lexemes_of text tokens ++ more) words

continue : (text : List ℕ) (tokens : List Token) (words : List Word)
    → AreFirstWords text tokens words → Continues text tokens words
continue text [] words first = record { more = map (lexeme_at 0) words; are = words_stand words }
continue text (t ∷ tokens) [] first = absurd first
continue text (t ∷ tokens) (w ∷ words) first =
    let rest = continue text tokens words first.1 in
    record {
      more = rest.more;
      are =
          (record { kind = first.0.kind; bytes = first.0.bytes }, rest.are);
    }

lexemes_of-append : (text : List ℕ) (front back : List Token) → lexemes_of text (front ++ back)
    ≡ lexemes_of text front ++ lexemes_of text back
lexemes_of-append text [] back = refl
lexemes_of-append text (t ∷ front) back =
    ap (λ l. lexeme_of text t ∷ l) (lexemes_of-append text front back)

not_wrong : {A : Type 0} (tree : A) (rest : List Lexeme) (outcome : Outcome A)
    → outcome ≡ Done tree rest → IsWrong outcome → ⊥
not_wrong tree rest outcome is wrong = subst IsWrong is wrong

deep_not_wrong : {A : Type 0} (rest : List Lexeme) (outcome : Outcome A) → outcome ≡ Deep rest
    → IsWrong outcome → ⊥
deep_not_wrong rest outcome is wrong = subst IsWrong is wrong

-- as many turns on both sides
as_many : (m : ℕ) → Turns ⊤ m m
as_many m = record { within = omega arith; equal = λ exact. refl }

more_turns : (m n : ℕ) → m ≤ n → Turns ⊥ m n
more_turns m n below = record { within = below; equal = λ exact. absurd exact }

-- Wrong at a token: so it is of all lexemes that go on from that token in another way.
wrong_anyhow : (source text : List ℕ) (most : ℕ) (front back : List Token) (t : Token)
    (rest others : List Lexeme) →
    program source most (lexemes_of text (front ++ t ∷ back)) ≡ Wrong rest
    → rest ≡ lexemes_of text (t ∷ back) →
    IsWrong (program source most (lexemes_of text (front ++ t ∷ []) ++ others))
wrong_anyhow source text most front back t rest others wrong left =
    let lexemes = lexemes_of text (front ++ t ∷ back) in
    let here : LocalAt ⊤ ⊥ (program source most) lexemes (Wrong rest) =
    subst (LocalAt ⊤ ⊥ (program source most) lexemes) wrong ((program_local {Exact = ⊤} {Sure =
    ⊥} source (as_many most)).at lexemes) in
    let same : here.0 ≡ lexemes_of text front =
    append_cancel_right here.0 (lexemes_of text front) (lexemes_of text (t ∷ back))
    (ap (λ l. here.0 ++ l) (sym left) ∙ (sym here.1 ∙ lexemes_of-append text front (t ∷ back))) in
    let joined : lexemes_of text (front ++ t ∷ []) ++ others ≡ here.0 ++ lexeme_of text t ∷ others =
    ap (λ l. l ++ others) (lexemes_of-append text front (t ∷ []))
    ∙ (append_assoc (lexemes_of text front) (lexeme_of text t ∷ []) others
    ∙ ap (λ l. l ++ lexeme_of text t ∷ others) (sym same)) in
    subst (λ l. IsWrong (program source most l)) (sym joined)
    (here.2 tt (lexeme_of text t ∷ others) (subst (λ l. SameHead l (lexeme_of text t ∷ others))
    (sym left) refl))

-- Too deep behind tokens: whatever stands behind them, the program is not done.
deep_anyhow : (source text : List ℕ) (most wide : ℕ) → most ≤ wide
    → (front back : List Token) (rest others : List Lexeme) →
    program source most (lexemes_of text (front ++ back)) ≡ Deep rest → rest ≡ lexemes_of text back
    → IsNotDone (program source wide (lexemes_of text front ++ others))
deep_anyhow source text most wide below front back rest others deep left =
    let lexemes = lexemes_of text (front ++ back) in
    let here : LocalAt ⊥ ⊤ (program source wide) lexemes (Deep rest) =
    subst (LocalAt ⊥ ⊤ (program source wide) lexemes) deep ((program_local {Exact = ⊥} {Sure =
    ⊤} source (more_turns most wide below)).at lexemes) in
    let same : here.0 ∷ here.1 ≡ lexemes_of text front =
    append_cancel_right (here.0 ∷ here.1) (lexemes_of text front) (lexemes_of text back)
    (ap (λ l. here.0 ∷ (here.1 ++ l)) (sym left) ∙ (sym here.2 ∙ lexemes_of-append text front back))
    in
    subst (λ l. IsNotDone (program source wide (l ++ others))) same (here.3 tt others)

-- what the rule of programs answers, whatever bounds its lists, if that is more than there are
-- tokens
abbrev pub AnswersWrong : List ℕ → List ℕ → List Token → ℕ → Type 0
AnswersWrong source text tokens at =
    (most : ℕ) → length tokens < most → (rest : List Lexeme) ×
    (program source most (lexemes_of text tokens) ≡ Wrong rest) × (at ≡ head_at rest)

abbrev pub AnswersDeep : List ℕ → List ℕ → List Token → Type 0
AnswersDeep source text tokens = (most : ℕ) → length tokens < most → (rest : List Lexeme) ×
    (program source most (lexemes_of text tokens) ≡ Deep rest)

-- the lexemes of tokens that begin a program's words, and the rest of them
long_enough : (text : List ℕ) (tokens : List Token) (more : List Lexeme)
    → length (lexemes_of text tokens ++ more) < suc (length tokens + length more)
long_enough text tokens more = let e = length-append (lexemes_of text tokens) more in
    let f = length-lexemes_of text tokens in omega arith

-- the words that were taken are those of the tokens before what is left
pub record TakesTokens (text : List ℕ) (tokens : List Token) (words : List Word)
    (rest : List Lexeme) : Type 0 where
  pub is_left : IsLeft text tokens rest
  pub are : AreWords text is_left.front words

takes_tokens : (text : List ℕ) (at : ℕ) (tokens : List Token) → AreSpans text at tokens
    → {lexemes rest : List Lexeme} {words : List Word} → Takes lexemes words rest
    → lexemes ≡ lexemes_of text tokens →
    TakesTokens text tokens words rest
takes_tokens text at tokens spans nothing same =
    record {
      is_left = record { front = []; back = tokens; split = refl; none = tt; left = same };
      are = tt;
    }
takes_tokens text at [] spans (one reads inner more) same = absurd (cc)
takes_tokens text at (t ∷ tokens) spans (one {first = first} {w = w} reads inner more) same =
    let is : IsWord text t w =
    word_of_token text t at w spans.0 (subst (λ (l : Lexeme). Reads l w) (heads same) reads) in
    let rest = takes_tokens text t.to tokens spans.1 more (tails same) in
    record {
      is_left = record {
        front = t ∷ rest.is_left.front;
        back = rest.is_left.back;
        split = ap (λ l. t ∷ l) rest.is_left.split;
        none = (λ end. no_end t.kind w is.kind inner end, rest.is_left.none);
        left = rest.is_left.left;
      };
      are = (is, rest.are);
    }

first_words : (text : List ℕ) (tokens : List Token) (words more : List Word)
    → AreWords text tokens words → AreFirstWords text tokens (words ++ more)
first_words text [] words more are = tt
first_words text (t ∷ tokens) [] more are = absurd are
first_words text (t ∷ tokens) (w ∷ words) more are =
    (are.0, first_words text tokens words more are.1)

-- the words before a token of a text are writable
abbrev pub AreWritableBefore : Type 0
AreWritableBefore =
    (text : List ℕ) (tokens front back : List Token) (token : Token) (words : List Word)
    → IsTokens text tokens → tokens ≡ front ++ token ∷ back → AreWords text front words →
    EachIsWritable false words

-- where some program goes on with the words that were taken, their tokens begin a text
begins_text : AreWritableBefore
    → (text : List ℕ) (tokens : List Token) (words : List Word) (rest : List Lexeme)
    → IsTokens text tokens → (taken : TakesTokens text tokens words rest)
    → Goes SpellsBefore words →
    BeginsText text taken.is_left.front
begins_text writable text tokens words rest are taken goes =
    let front = taken.is_left.front in
    let found = token_is_left text tokens rest are taken.is_left in
    let split : tokens ≡ front ++ found.0 ∷ found.1 = taken.is_left.split
    ∙ ap (λ l. front ++ l) found.2 in
    let each : EachIsWritable false words =
    writable text tokens front found.1 found.0 words are split taken.are in
    record {
      begun = record {
        program = goes.tree;
        words = (words ++ goes.more) ++ word.End ∷ [];
        spells = goes.says;
        first = subst (AreFirstWords text front)
            (sym (append_assoc words goes.more (word.End ∷ [])))
            (first_words text front words (goes.more ++ word.End ∷ []) taken.are);
      };
      writable = record {
        before = words ++ goes.more;
        split = refl;
        each =
            writable_then false words goes.more each goes.plain;
      };
    }

-- no program's words begin with the tokens up to one at which the rule is wrong
none_begins : (source text : List ℕ) (tokens : List Token) (at : ℕ) → IsTokens text tokens
    → AreSpans text 0 tokens → AnswersWrong source text tokens at →
    (front back : List Token) (t : Token) → tokens ≡ front ++ t ∷ back → t.from ≡ at
    → ¬ BeginsWords text (front ++ t ∷ [])
none_begins source text tokens at are spans wrong front back t split place begins =
    let on = continue text (front ++ t ∷ []) begins.words begins.first in
    let lexemes : List Lexeme = lexemes_of text (front ++ t ∷ []) ++ on.more in
    let most : ℕ = suc (length tokens + suc (length (front ++ t ∷ []) + length on.more)) in
    let here = wrong most (omega arith) in
    let left = wrong_is_left source text most tokens here.0 here.1 in
    let found = token_is_left text tokens here.0 are left in
    let there : tokens ≡ left.front ++ found.0 ∷ found.1 =
    left.split ∙ ap (λ l. left.front ++ l) found.2 in
    let begun : here.0 ≡ lexemes_of text (found.0 ∷ found.1) =
    left.left ∙ ap (lexemes_of text) found.2 in
    let same_from : t.from ≡ found.0.from = place ∙ (here.2 ∙ ap head_at begun) in
    let rise : Rise 0 (front ++ t ∷ back) =
    subst (Rise 0) split (tokens_rise text tokens are spans) in
    let same = same_place 0 front left.front t found.0 back found.1 rise (sym split
    ∙ there) same_from in
    let is_wrong : IsWrong (program source most lexemes) =
    subst (λ f. IsWrong (program source most (lexemes_of text f ++ on.more)))
    (sym (ap (λ f. f ++ t ∷ []) same.0 ∙ ap (λ u. left.front ++ u ∷ []) same.1))
    (wrong_anyhow source text most left.front found.1 found.0 here.0 on.more
    (ap (λ l. program source most (lexemes_of text l)) (sym there) ∙ here.1) begun) in
    go most lexemes begins.program is_wrong (program_is_complete source most begins.program
    begins.words lexemes begins.spells on.are (let e =
    long_enough text (front ++ t ∷ []) on.more in omega arith))
  where
    go : (most : ℕ) (lexemes : List Lexeme) (tree : Program)
        → IsWrong (program source most lexemes) →
        ((depth tree ≤ most_deep) ×
        ((other : Program) × (program source most lexemes ≡ Done other []) ×
        SameShape other tree)) ⊎
        ((most_deep < depth tree) ×
        ((rest : List Lexeme) × (program source most lexemes ≡ Deep rest))) → ⊥
    go most lexemes tree wrong (inl read) =
        not_wrong read.1.0 [] (program source most lexemes) read.1.1 wrong
    go most lexemes tree wrong (inr deep) =
        deep_not_wrong deep.1.0 (program source most lexemes) deep.1.1 wrong

-- every tree whose words begin with those that were taken is too deep
too_deep_anyhow : (source text : List ℕ) (most : ℕ) (front back : List Token) (rest : List Lexeme)
    → program source most (lexemes_of text (front ++ back)) ≡ Deep rest
    → rest ≡ lexemes_of text back →
    (tree : Program) (words : List Word) → Spells tree words → AreFirstWords text front words
    → most_deep < depth tree
too_deep_anyhow source text most front back rest deep left tree words spells first =
    let on = continue text front words first in
    let wide : ℕ = most + suc (length front + length on.more) in
    let open_ : IsNotDone (program source wide (lexemes_of text front ++ on.more)) =
    deep_anyhow source text most wide (omega arith) front back rest on.more deep left in
    go wide (lexemes_of text front ++ on.more) open_ (program_is_complete source wide tree words
    (lexemes_of text front ++ on.more) spells on.are (let e = long_enough text front on.more in
    omega arith))
  where
    go : (wide : ℕ) (lexemes : List Lexeme) → IsNotDone (program source wide lexemes) →
        ((depth tree ≤ most_deep) ×
        ((other : Program) × (program source wide lexemes ≡ Done other []) ×
        SameShape other tree)) ⊎
        ((most_deep < depth tree) ×
        ((rest : List Lexeme) × (program source wide lexemes ≡ Deep rest)))
        → most_deep < depth tree
    go wide lexemes open_ (inl read) = absurd (subst IsNotDone read.1.1 open_)
    go wide lexemes open_ (inr deep) = deep.0

-- Where the rule is wrong there is a fault.
pub wrong_is_fault : AreWritableBefore → (source text : List ℕ) (tokens : List Token) (at : ℕ)
    → IsTokens text tokens → AreSpans text 0 tokens → AnswersWrong source text tokens at
    → IsSyntaxFault text tokens at
wrong_is_fault writable source text tokens at are spans wrong =
    let most : ℕ = suc (length tokens) in
    let here = wrong most (omega arith) in
    let begun : Begun SpellsBefore (lexemes_of text tokens) (Wrong here.0) =
    subst (Begun SpellsBefore (lexemes_of text tokens)) here.1
    (program_viable source most (lexemes_of text tokens)).begun in
    let taken = takes_tokens text 0 tokens spans begun.1 refl in
    let left = taken.is_left in
    let found = token_is_left text tokens here.0 are left in
    let split : tokens ≡ left.front ++ found.0 ∷ found.1 =
    left.split ∙ ap (λ l. left.front ++ l) found.2 in
    let place : found.0.from ≡ at =
    sym (here.2 ∙ ap head_at (left.left ∙ ap (lexemes_of text) found.2)) in
    record {
      front = left.front;
      token = found.0;
      back = found.1;
      split = split;
      offset = place;
      begins = begins_text writable text tokens begun.0 here.0 are taken begun.2;
      none = none_begins source text tokens at are spans wrong left.front found.1 found.0 split
          place;
    }

-- Where the rule is too deep every tree is.
pub deep_is_fault : AreWritableBefore → (source text : List ℕ) (tokens : List Token)
    → IsTokens text tokens → AreSpans text 0 tokens → AnswersDeep source text tokens
    → IsTooDeep text tokens
deep_is_fault writable source text tokens are spans deep =
    let most : ℕ = suc (length tokens) in
    let here = deep most (omega arith) in
    let begun : Begun SpellsBefore (lexemes_of text tokens) (Deep here.0) =
    subst (Begun SpellsBefore (lexemes_of text tokens)) here.1
    (program_viable source most (lexemes_of text tokens)).begun in
    let taken = takes_tokens text 0 tokens spans begun.1 refl in
    let left = taken.is_left in
    record {
      front = left.front;
      back = left.back;
      split = left.split;
      begins = begins_text writable text tokens begun.0 here.0 are taken begun.2;
      deep = λ tree words spells first. too_deep_anyhow source text most left.front left.back here.0
          (ap (λ l. program source most (lexemes_of text l)) (sym left.split)
          ∙ here.1) left.left tree words spells first;
    }
