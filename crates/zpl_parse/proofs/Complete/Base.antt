-- What a reader makes of words that stand before others: how one reader's completeness follows from
-- those that it is made of.
use Rattle.std.proofs.Common.{◌≡◌, ℕ, suc, ◌<◌, ◌≤◌, ◌==◌, max, true, List, [], ◌∷◌, ◌++◌, length, refl, ap, subst, arith, rules, append_assoc}
use Rattle.std.specs.Bool.{⊤}
use Rattle.zpl_tokens.specs.declared.Kind.TheVariants as kind
use Rattle.zpl_tokens.specs.declared.keywords.Key.{Key}
use Rattle.zpl_tokens.specs.declared.keywords.Key.TheVariants as key
use Rattle.zpl_tokens.specs.declared.symbols.Sym.{Sym}
use Rattle.zpl_tokens.specs.declared.symbols.Sym.TheVariants as sym
use Rattle.zpl_tree.specs.Word.{Word, kind_of, word_text}
use Rattle.zpl_tree.specs.Word as word
use Rattle.zpl_grammar.specs.Lexeme.{Lexeme}
use Rattle.zpl_parse.specs.Outcome.{Outcome, Done, Deep, Reader, and_then, made}
use Rattle.zpl_grammar.specs.Same.{same, symbol_number, key_number}
use Rattle.zpl_parse.specs.Tokens.{symbol, keyword, in_quotes, without_last, closing}

-- the bytes of a word, which only a name and a string say
abbrev pub bytes_of : Word → List ℕ → List ℕ
bytes_of (word.Name text) bytes = text
bytes_of (word.Str string) bytes = word_text (word.Str string)
bytes_of _ bytes = bytes

-- a lexeme that is the word
abbrev pub lexeme : Word → List ℕ → ℕ → Lexeme
lexeme w bytes at = record { kind = kind_of w; bytes = bytes_of w bytes; at = at }

-- The lexemes begin with these words, and the rest stands behind them; there are fewer than `most`
-- of them.
pub data Begins (most : ℕ) : List Word → List Lexeme → List Lexeme → Type 0 where
  none : {rest : List Lexeme} → length rest < most → Begins most [] rest rest
  more : {words : List Word} {lexemes rest : List Lexeme} (w : Word) (bytes : List ℕ) (at : ℕ)
      → suc (length lexemes) < most → Begins most words lexemes rest
      → Begins most (w ∷ words) (lexeme w bytes at ∷ lexemes) rest

-- where the one part of the words ends and the other begins
pub record Split (most : ℕ) (front back : List Word) (lexemes rest : List Lexeme) : Type 0 where
  pub middle : List Lexeme
  pub first : Begins most front lexemes middle
  pub then : Begins most back middle rest

pub bound_of : {most : ℕ} {words : List Word} {lexemes rest : List Lexeme}
    → Begins most words lexemes rest → length lexemes < most
bound_of (none bound) = bound
bound_of (more w bytes at bound b) = bound

pub bound_behind : {most : ℕ} {words : List Word} {lexemes rest : List Lexeme}
    → Begins most words lexemes rest → length rest < most
bound_behind (none bound) = bound
bound_behind (more w bytes at bound b) = bound_behind b

pub shorter : {most : ℕ} {words : List Word} {lexemes rest : List Lexeme}
    → Begins most words lexemes rest → length rest ≤ length lexemes
shorter (none bound) = omega arith
shorter (more w bytes at bound b) = let h = shorter b in omega arith

-- where there is a word at least
pub shorter_by_one : {most : ℕ} {w : Word} {words : List Word} {lexemes rest : List Lexeme}
    → Begins most (w ∷ words) lexemes rest → length rest < length lexemes
shorter_by_one (more w bytes at bound b) = let h = shorter b in omega arith

pub split : {most : ℕ} (front back : List Word) {lexemes rest : List Lexeme}
    → Begins most (front ++ back) lexemes rest → Split most front back lexemes rest
split [] back b = record { middle = _; first = none (bound_of b); then = b }
split (w ∷ front) back (more v bytes at bound b) =
    let parts = split front back b in
    record { middle = parts.middle; first = more w bytes at bound parts.first; then = parts.then }

-- words, and others behind them
pub joined : {most : ℕ} {front back : List Word} {lexemes middle rest : List Lexeme}
    → Begins most front lexemes middle → Begins most back middle rest
    → Begins most (front ++ back) lexemes rest
joined (none bound) c = c
joined (more w bytes at bound b) c = more w bytes at bound (joined b c)

-- the same for words of which one stands between others
pub split_at : {most : ℕ} (front : List Word) (w : Word) (back : List Word)
    {lexemes rest : List Lexeme} → Begins most ((front ++ w ∷ []) ++ back) lexemes rest
    → Split most front (w ∷ back) lexemes rest
split_at {most = most} front w back {lexemes = lexemes} {rest = rest} b =
    split front (w ∷ back) (subst (λ words. Begins most words lexemes rest) (append_assoc front (w ∷
    []) back) b)

-- a tree is read that is as wanted, and the rest is left, where it isn't too deep; and else it is
-- too deep
pub data Reads {A : Type 0} (Same : A → Type 0) (rest : List Lexeme) (need budget : ℕ) : Outcome A
    → Type 0 where
  read : (tree : A) → need ≤ budget → Same tree → Reads Same rest need budget (Done tree rest)
  deep : (left : List Lexeme) → budget < need → Reads Same rest need budget (Deep left)

abbrev pub Anything : {A : Type 0} → A → Type 0
Anything x = ⊤

-- the depth and the budget in other words
pub weigh : {A : Type 0} {Same : A → Type 0} {rest : List Lexeme} {n d m e : ℕ}
    {outcome : Outcome A} →
    (n ≤ d → m ≤ e) → (d < n → e < m) → Reads Same rest n d outcome → Reads Same rest m e outcome
weigh fits sinks (read tree h same) = read tree (fits h) same
weigh fits sinks (deep left h) = deep left (sinks h)

pub made_reads : {A B : Type 0} {Same : A → Type 0} {Alike : B
    → Type 0} {rest : List Lexeme} {n d : ℕ} {outcome : Outcome A} (f : A → B) →
    ((tree : A) → Same tree → Alike (f tree)) → Reads Same rest n d outcome
    → Reads Alike rest n d (made f outcome)
made_reads f alike (read tree h same) = read (f tree) h (alike tree same)
made_reads f alike (deep left h) = deep left h

pub then_reads : {A B : Type 0} {Same : A → Type 0} {Alike : B → Type 0} {middle rest : List Lexeme}
    {n m d : ℕ} {outcome : Outcome A} (next : A → Reader B) →
    Reads Same middle n d outcome
    → ((tree : A) → Same tree → Reads Alike rest m d (next tree middle))
    → Reads Alike rest (max n m) d (and_then outcome next)
then_reads next (read tree h alike) others =
    weigh (λ k. omega arith) (λ k. omega arith) (others tree alike)
then_reads next (deep left h) others = deep left (omega arith)

equal_self : (n : ℕ) → n == n ≡ true
equal_self n = search rules

pub same_symbol : (s : Sym) → same (kind.Symbol s) (kind.Symbol s) ≡ true
same_symbol s = equal_self (symbol_number s)

pub same_keyword : (k : Key) → same (kind.Word k) (kind.Word k) ≡ true
same_keyword k = equal_self (key_number k)

-- one symbol or keyword, and then others
pub symbol_reads : {most : ℕ} {lexemes rest : List Lexeme} (s : Sym) {d : ℕ}
    → Begins most (word.Symbol s ∷ []) lexemes rest → Reads Anything rest 0 d (symbol s lexemes)
symbol_reads s (more w bytes at bound (none b)) = rw (same_symbol s) (read at (omega arith) tt)

-- what holds of each list of lexemes that begins with the word
pub at_head : {most : ℕ} {w : Word} {words : List Word} {lexemes rest : List Lexeme}
    (P : List Lexeme → Type 0) →
    ((bytes : List ℕ) (at : ℕ) (others : List Lexeme) → P (lexeme w bytes at ∷ others))
    → Begins most (w ∷ words) lexemes rest → P lexemes
at_head P holds (more w bytes at bound b) = holds bytes at _

-- a rule, and a symbol behind it
pub ends_with : {most : ℕ} {A B : Type 0} {Same : A → Type 0} {Alike : B
    → Type 0} {middle rest : List Lexeme} {n d : ℕ} {outcome : Outcome A} (s : Sym) (f : A → B) →
    ((tree : A) → Same tree → Alike (f tree)) → Reads Same middle n d outcome
    → Begins most (word.Symbol s ∷ []) middle rest
    → Reads Alike rest n d (and_then outcome (λ tree left. made (λ at. f tree) (symbol s left)))
ends_with {n = n} {d = d} s f alike reads b =
    weigh {n = max n 0} {d =
    d} (λ k. omega arith) (λ k. omega arith)
    (then_reads _ reads (λ tree equal. made_reads (λ at. f tree) (λ at any. alike tree equal)
    (symbol_reads s {d = d} b)))

-- "end" ";"
pub closing_reads : {most : ℕ} {lexemes rest : List Lexeme} {d : ℕ}
    → Begins most (word.Keyword key.End ∷ word.Symbol sym.Semicolon ∷ []) lexemes rest
    → Reads Anything rest 0 d (closing lexemes)
closing_reads (more w bytes at bound (more v other place limit (none b))) =
    read place (omega arith) tt

-- what begins with more lexemes than a greater number allows
pub wider : {most wide : ℕ} {words : List Word} {lexemes rest : List Lexeme} → most ≤ wide
    → Begins most words lexemes rest → Begins wide words lexemes rest
wider fits (none bound) = none (omega arith)
wider fits (more w bytes at bound b) = more w bytes at (omega arith) (wider fits b)

unquoted : (bytes : List ℕ) (quote : ℕ) → without_last (bytes ++ quote ∷ []) ≡ bytes
unquoted [] quote = refl
unquoted (first ∷ []) quote = refl
unquoted (first ∷ next ∷ bytes) quote = ap (λ those. first ∷ those) (unquoted (next ∷ bytes) quote)

-- what stands between the quotes of a string
pub string_inside : (bytes : List ℕ) → in_quotes (word_text (word.Str bytes)) ≡ bytes
string_inside bytes = unquoted bytes 34

-- the same with a smaller number, where it is still enough
pub narrower : {most wide : ℕ} {words : List Word} {lexemes rest : List Lexeme}
    → length lexemes < most → Begins wide words lexemes rest → Begins most words lexemes rest
narrower fits (none bound) = none fits
narrower fits (more w bytes at bound b) = more w bytes at fits (narrower (omega arith) b)

pub reword : {most : ℕ} {words others : List Word} (lexemes rest : List Lexeme) → words ≡ others
    → Begins most words lexemes rest → Begins most others lexemes rest
reword {most = most} lexemes rest e b = subst (λ those. Begins most those lexemes rest) e b

-- a rule behind two others
pub then_then_reads : {A B C : Type 0} {Same : A → Type 0} {Alike : C
    → Type 0} {middle rest : List Lexeme} {n m d : ℕ} {outcome : Outcome A} (inner : A
    → Reader B) (next : B → Reader C) →
    Reads Same middle n d outcome
    → ((tree : A) → Same tree → Reads Alike rest m d (and_then (inner tree middle) next))
    → Reads Alike rest (max n m) d (and_then (and_then outcome inner) next)
then_then_reads inner next (read tree h alike) others =
    weigh (λ k. omega arith) (λ k. omega arith) (others tree alike)
then_then_reads inner next (deep left h) others = deep left (omega arith)
