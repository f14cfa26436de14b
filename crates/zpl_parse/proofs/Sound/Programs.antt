-- What a whole program's rule makes of the tokens of a text is a tree of the text.
use Rattle.std.proofs.Common.{◌≡◌, ℕ, ◌≤◌, List, [], ◌∷◌, ◌++◌, refl, sym, ap, subst, ◌∙◌, append-nil}
use Rattle.std.specs.List.{AllByRecursion}
use Rattle.zpl_tokens.specs.declared.Kind.{Kind}
use Rattle.zpl_tokens.specs.declared.Kind.TheVariants as kind
use Rattle.zpl_text.specs.declared.tokens.Token.{Token}
use Rattle.zpl_text.specs.Bytes.{quote}
use Rattle.zpl_text.specs.Kinds.{IsToken}
use Rattle.zpl_text.specs.Cutting.{MayStand}
use Rattle.zpl_text.specs.Spans.{AreSpans, IsSpan}
use Rattle.zpl_text.specs.Tokens.{Place, Cuts, nothing as no_cut, token as one_cut, end_of, IsTokens}
use Rattle.zpl_tree.specs.Depth.{depth}
use Rattle.zpl_tree.specs.Syntax.{Program}
use Rattle.zpl_tree.specs.Word.{Word, kind_of}
use Rattle.zpl_tree.specs.Word as word
use Rattle.zpl_grammar.specs.Written.{token_text, HasBytes, IsWord, AreWords}
use Rattle.zpl_grammar.specs.Lexeme.{Lexeme, lexeme_of, lexemes_of}
use Rattle.zpl_parse.specs.Outcome.{Done, Wrong, Deep}
use Rattle.zpl_parse.specs.Tokens.{without_last, in_quotes}
use Rattle.zpl_parse.specs.Declarations.{program}
use Rattle.zpl_grammar.specs.Texts.{most_deep, TokensSpell}
use Rattle.zpl_parse.proofs.Sound.Base.{Reads, ReadsBytes, IsNoEnd, Takes, nothing, one, Past, here, further, no_end}
use Rattle.zpl_parse.proofs.Sound.Declarations.{IsWhole, SaysProgram, program_whole}

-- no token is the end
abbrev pub HaveNoEnd : List Token → Type 0
HaveNoEnd tokens = AllByRecursion (λ (t : Token). t.kind ≡ kind.End → ⊥) tokens

kind_no_end : (ditto : _) (k : Kind) → MayStand ditto k → k ≡ kind.End → ⊥
kind_no_end ditto k may end = subst (MayStand ditto) end may

pub found_no_end : {text : List ℕ} {first last : Place} {tokens : List Token}
    → Cuts text first tokens last → HaveNoEnd tokens
found_no_end no_cut = tt
found_no_end (one_cut {here = place} {t = t} takes more) =
    (kind_no_end place.ditto t.kind takes.cut.place, found_no_end more)

without_last_is : (body : List ℕ) (q : ℕ) → without_last (body ++ q ∷ []) ≡ body
without_last_is [] q = refl
without_last_is (b ∷ []) q = refl
without_last_is (b ∷ c ∷ body) q = ap (λ xs. b ∷ xs) (without_last_is (c ∷ body) q)

-- the bytes of a lexeme of a text are its word's
pub word_bytes : (bytes : List ℕ) (w : Word) → IsToken bytes (kind_of w) → ReadsBytes w bytes
    → HasBytes w bytes
word_bytes bytes (word.Name text) token reads = reads
word_bytes bytes (word.Str string) (body, within, e) reads =
    let inside : in_quotes bytes ≡ body = ap in_quotes e ∙ without_last_is body quote in
    e ∙ ap (λ xs. quote ∷ (xs ++ quote ∷ [])) (sym inside ∙ reads)
word_bytes bytes (word.Number value) token reads = tt
word_bytes bytes word.Ditto token reads = tt
word_bytes bytes (word.Symbol s) token reads = tt
word_bytes bytes (word.Keyword k) token reads = tt
word_bytes bytes word.End token reads = tt

-- nothing is taken of no lexemes
none_left : {lexemes : List Lexeme} {words : List Word} {e : Lexeme} {rest : List Lexeme}
    → Takes lexemes words (e ∷ rest) → lexemes ≡ [] → ⊥
none_left nothing e = cc
none_left (one reads inner more) e = cc

pub heads : {x y : Lexeme} {xs ys : List Lexeme} → x ∷ xs ≡ y ∷ ys → x ≡ y
heads e = cc

pub tails : {x y : Lexeme} {xs ys : List Lexeme} → x ∷ xs ≡ y ∷ ys → xs ≡ ys
tails e = cc

first_tokens : {x y : Token} {xs ys : List Token} → x ∷ xs ≡ y ∷ ys → x ≡ y
first_tokens e = cc

last_tokens : {x y : Token} {xs ys : List Token} → x ∷ xs ≡ y ∷ ys → xs ≡ ys
last_tokens e = cc

-- the end that was taken is the last token
last_end : (text : List ℕ) (found : List Token) (last : Token) → HaveNoEnd found
    → {lexemes rest : List Lexeme} {words : List Word} {e : Lexeme} →
    Takes lexemes words (e ∷ rest) → lexemes ≡ lexemes_of text (found ++ last ∷ [])
    → e.kind ≡ kind.End → rest ≡ []
last_end text [] last none nothing same end = tails same
last_end text [] last none (one reads inner more) same end = absurd (none_left more (tails same))
last_end text (t ∷ found) last none nothing same end =
    absurd (none.0 (ap (λ (l : Lexeme). l.kind) (sym (heads same)) ∙ end))
last_end text (t ∷ found) last none (one reads inner more) same end =
    last_end text found last none.1 more (tails same) end

no_tokens : (text : List ℕ) (tokens : List Token) → lexemes_of text tokens ≡ []
    → AreWords text tokens []
no_tokens text [] e = tt
no_tokens text (t ∷ tokens) e = absurd (cc)

pub word_of_token : (text : List ℕ) (t : Token) (at : ℕ) (w : Word) → IsSpan text at t
    → Reads (lexeme_of text t) w → IsWord text t w
word_of_token text t at w span reads = record {
  kind = reads.kind;
  bytes = word_bytes (token_text text t) w (subst (IsToken (token_text text t)) reads.kind
      span.text_of) reads.bytes;
}

-- the lexemes of tokens, read one by one, are words
words_are : (text : List ℕ) (tokens : List Token) (at : ℕ) → AreSpans text at tokens
    → {lexemes left : List Lexeme} {words : List Word} (e : Lexeme) →
    Takes lexemes words left → lexemes ≡ lexemes_of text tokens → left ≡ e ∷ [] → e.kind ≡ kind.End
    → AreWords text tokens (words ++ word.End ∷ [])
words_are text [] at spans e nothing same left end = absurd (cc)
words_are text [] at spans e (one reads inner more) same left end = absurd (cc)
words_are text (t ∷ tokens) at spans e nothing same left end =
    let split : lexeme_of text t ∷ lexemes_of text tokens ≡ e ∷ [] = sym same ∙ left in (
      record { kind = ap (λ (l : Lexeme). l.kind) (heads split) ∙ end; bytes = tt },
      no_tokens text tokens (tails split),
    )
words_are text (t ∷ tokens) at spans e (one {first = first} {w = w} reads inner more) same left end
    = (
      word_of_token text t at w spans.0 (subst (λ (l : Lexeme). Reads l w) (heads same) reads),
      words_are text tokens t.to spans.1 e more (tails same) left end,
    )

-- the tokens spell a tree that isn't too deep, over this source, and nothing is left
pub record IsReadWhole (source text : List ℕ) (tokens : List Token) (tree : Program)
    (rest : List Lexeme) : Type 0 where
  pub spelled : TokensSpell text tokens tree
  pub shallow : depth tree ≤ most_deep
  pub source_is : tree.source ≡ source
  pub none : rest ≡ []

whole_is : (source text : List ℕ) (tokens : List Token) (tree : Program) (rest : List Lexeme)
    → IsTokens text tokens → AreSpans text 0 tokens → (words : List Word) (e : Lexeme) →
    Takes (lexemes_of text tokens) words (e ∷ rest) → e.kind ≡ kind.End
    → SaysProgram source tree words → IsReadWhole source text tokens tree rest
whole_is source text tokens tree rest are spans words e takes end says =
    let none : rest ≡ [] =
    last_end text are.found (end_of text) (found_no_end are.cuts) takes
    (ap (lexemes_of text) are.all) end in
    record {
      spelled = record {
        words = words ++ word.End ∷ [];
        spells = says.0;
        are = words_are text tokens 0 spans e takes refl (ap (λ xs. e ∷ xs) none) end;
      };
      shallow = says.1;
      source_is = says.2;
      none = none;
    }

-- What the rule of programs makes of a text's tokens is a tree of the text, and nothing is left.
pub program_is_sound : (source text : List ℕ) (most : ℕ) (tokens : List Token) (tree : Program)
    (rest : List Lexeme) →
    program source most (lexemes_of text tokens) ≡ Done tree rest → IsTokens text tokens
    → AreSpans text 0 tokens → IsReadWhole source text tokens tree rest
program_is_sound source text most tokens tree rest done are spans =
    let whole : IsWhole (SaysProgram source) (lexemes_of text tokens) (Done tree rest) =
    subst (IsWhole (SaysProgram source) (lexemes_of text tokens)) done
    (program_whole source most (lexemes_of text tokens)) in
    whole_is source text tokens tree rest are spans whole.tells.0 whole.tells.1 whole.tells.2
    whole.tells.3 whole.tells.4

-- what is left behind the lexemes of tokens is the lexemes of tokens
pub record IsLeft (text : List ℕ) (tokens : List Token) (rest : List Lexeme) : Type 0 where
  pub front : List Token
  pub back : List Token
  pub split : tokens ≡ front ++ back
  pub none : HaveNoEnd front
  pub left : rest ≡ lexemes_of text back

past_left : (text : List ℕ) (tokens : List Token) {lexemes rest : List Lexeme} → Past lexemes rest
    → lexemes ≡ lexemes_of text tokens → IsLeft text tokens rest
past_left text tokens here same = record {
  front = [];
  back = tokens;
  split = refl;
  none =
      tt;
  left = same;
}
past_left text [] (further inner more) same = absurd (cc)
past_left text (t ∷ tokens) (further inner more) same =
    let is = past_left text tokens more (tails same) in
    record {
      front = t ∷ is.front;
      back = is.back;
      split = ap (λ xs. t ∷ xs) is.split;
      none =
          (λ end. inner (ap (λ (l : Lexeme). l.kind) (heads same) ∙ end), is.none);
      left = is.left;
    }

has_end : (found front : List Token) (last : Token) → last.kind ≡ kind.End → HaveNoEnd front
    → found ++ last ∷ [] ≡ front → ⊥
has_end [] [] last end none same = cc
has_end [] (t ∷ front) last end none same =
    none.0 (ap (λ (l : Token). l.kind) (first_tokens (sym same)) ∙ end)
has_end (f ∷ found) [] last end none same = cc
has_end (f ∷ found) (t ∷ front) last end none same =
    has_end found front last end none.1 (last_tokens same)

-- the tokens of a text go on behind those that are no end
goes_on : (text : List ℕ) (tokens found front back : List Token) (last : Token)
    → tokens ≡ found ++ last ∷ [] → last.kind ≡ kind.End → tokens ≡ front ++ back
    → HaveNoEnd front →
    (token : Token) × (more : List Token) × (back ≡ token ∷ more)
goes_on text tokens found front [] last all end split none =
    absurd (has_end found front last end none (sym all ∙ (split ∙ append-nil front)))
goes_on text tokens found front (t ∷ back) last all end split none = (t, back, refl)

pub wrong_is_left : (source text : List ℕ) (most : ℕ) (tokens : List Token) (rest : List Lexeme)
    → program source most (lexemes_of text tokens) ≡ Wrong rest → IsLeft text tokens rest
wrong_is_left source text most tokens rest wrong =
    let whole : IsWhole (SaysProgram source) (lexemes_of text tokens) (Wrong rest) =
    subst (IsWhole (SaysProgram source) (lexemes_of text tokens)) wrong
    (program_whole source most (lexemes_of text tokens)) in
    past_left text tokens whole.tells refl

-- where a text is wrong a token stands
pub token_is_left : (text : List ℕ) (tokens : List Token) (rest : List Lexeme)
    → IsTokens text tokens → (is : IsLeft text tokens rest)
    → (token : Token) × (more : List Token) × (is.back ≡ token ∷ more)
token_is_left text tokens rest are is =
    goes_on text tokens are.found is.front is.back (end_of text) are.all refl is.split is.none
