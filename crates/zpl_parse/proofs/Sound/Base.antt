-- What a reader took: how one reader's soundness follows from those that it is made of.
use Rattle.std.proofs.Common.{◌≡◌, ℕ, ◌==◌, Bool, true, false, List, [], ◌∷◌, ◌++◌, Option, Some, None, refl, sym, ap, subst, ◌∙◌, get_or}
use Rattle.std.specs.Bool.{⊤}
use Rattle.std.proofs.lemmas.Bool.{eqb-true}
use Rattle.zpl_tokens.specs.declared.Kind.{Kind}
use Rattle.zpl_tokens.specs.declared.Kind.TheVariants as kind
use Rattle.zpl_tokens.specs.declared.keywords.Key.{Key}
use Rattle.zpl_tokens.specs.declared.keywords.Key.TheVariants as key
use Rattle.zpl_tokens.specs.declared.symbols.Sym.{Sym}
use Rattle.zpl_tokens.specs.declared.symbols.Sym.TheVariants as sym
use Rattle.zpl_tree.specs.Word.{Word, kind_of}
use Rattle.zpl_tree.specs.Word as word
use Rattle.zpl_grammar.specs.Lexeme.{Lexeme}
use Rattle.zpl_parse.specs.Outcome.{Outcome, Done, Wrong, Deep, Reader, and_then, made}
use Rattle.zpl_grammar.specs.Same.{symbol_number, key_number}
use Rattle.zpl_parse.specs.Tokens.{in_quotes}

-- the word says what a rule keeps of the lexeme's bytes
abbrev pub ReadsBytes : Word → List ℕ → Type 0
ReadsBytes (word.Name text) bytes = bytes ≡ text
ReadsBytes (word.Str string) bytes = in_quotes bytes ≡ string
ReadsBytes _ bytes = ⊤

pub record Reads (lexeme : Lexeme) (w : Word) : Type 0 where
  pub kind : lexeme.kind ≡ kind_of w
  pub bytes : ReadsBytes w lexeme.bytes

abbrev pub IsNoEnd : Word → Type 0
IsNoEnd word.End = ⊥
IsNoEnd _ = ⊤

-- the first lexemes are read as these words, none of which is the end, and the rest is left
pub data Takes : List Lexeme → List Word → List Lexeme → Type 0 where
  nothing : {rest : List Lexeme} → Takes rest [] rest
  one : {first : Lexeme} {w : Word} {more rest : List Lexeme} {words : List Word} → Reads first w
      → IsNoEnd w → Takes more words rest → Takes (first ∷ more) (w ∷ words) rest

-- some lexemes are left behind others, none of which is the end
pub data Past : List Lexeme → List Lexeme → Type 0 where
  here : {rest : List Lexeme} → Past rest rest
  further : {first : Lexeme} {more rest : List Lexeme} → (first.kind ≡ kind.End → ⊥)
      → Past more rest → Past (first ∷ more) rest

pub takes_then : {a b c : List Lexeme} {v w : List Word} → Takes a v b → Takes b w c
    → Takes a (v ++ w) c
takes_then nothing after = after
takes_then (one reads inner more) after = one reads inner (takes_then more after)

pub no_end : (k : Kind) (w : Word) → k ≡ kind_of w → IsNoEnd w → k ≡ kind.End → ⊥
no_end k (word.Name text) e inner end = absurd (cc)
no_end k (word.Number value) e inner end = absurd (cc)
no_end k (word.Str bytes) e inner end = absurd (cc)
no_end k word.Ditto e inner end = absurd (cc)
no_end k (word.Symbol s) e inner end = absurd (cc)
no_end k (word.Keyword s) e inner end = absurd (cc)
no_end k word.End e inner end = inner

pub past_then : {a b c : List Lexeme} {w : List Word} → Takes a w b → Past b c → Past a c
past_then nothing after = after
past_then (one {first = first} {w = w} reads inner more) after =
    further (no_end first.kind w reads.kind inner) (past_then more after)

-- What an outcome of these lexemes says: of a tree, with its words.
abbrev pub Tells : {A : Type 0} → (A → List Word → Type 0) → List Lexeme → Outcome A → Type 0
Tells Says lexemes (Done tree rest) = (words : List Word) × Takes lexemes words rest ×
    Says tree words
Tells Says lexemes (Wrong rest) = Past lexemes rest
Tells Says lexemes (Deep rest) = Past lexemes rest

pub record IsSound {A : Type 0} (Says : A → List Word
    → Type 0) (lexemes : List Lexeme) (outcome : Outcome A) : Type 0 where
  pub tells : Tells Says lexemes outcome

-- the words are those of the tree, of which a fact holds
abbrev pub Spelled : {A : Type 0} → (A → List Word) → (A → Type 0) → A → List Word → Type 0
Spelled spelling Is tree words = (words ≡ spelling tree) × Is tree

pub done : {A : Type 0} {Says : A → List Word → Type 0} {lexemes : List Lexeme} {tree : A}
    → Says tree [] → IsSound Says lexemes (Done tree lexemes)
done says = record { tells = ([], nothing, says) }

pub wrong : {A : Type 0} {Says : A → List Word → Type 0} {lexemes : List Lexeme}
    → IsSound Says lexemes (Wrong lexemes)
wrong = record { tells = here }

-- words that were taken before
pub behind_words : {A : Type 0} {Says : A → List Word → Type 0} {lexemes rest : List Lexeme}
    {words : List Word} (outcome : Outcome A) → Takes lexemes words rest →
    IsSound (λ tree more. Says tree (words ++ more)) rest outcome → IsSound Says lexemes outcome
behind_words {words = words} (Done tree rest) takes sound =
    record { tells = (words ++ sound.tells.0, takes_then takes sound.tells.1, sound.tells.2) }
behind_words (Wrong rest) takes sound = record { tells = past_then takes sound.tells }
behind_words (Deep rest) takes sound = record { tells = past_then takes sound.tells }

pub weaken : {A : Type 0} {Says Other : A → List Word
    → Type 0} {lexemes : List Lexeme} {outcome : Outcome A} → IsSound Says lexemes outcome →
    ((tree : A) (words : List Word) → Says tree words → Other tree words)
    → IsSound Other lexemes outcome
weaken {outcome = Done tree rest} sound so =
    record { tells = (sound.tells.0, sound.tells.1, so tree sound.tells.0 sound.tells.2) }
weaken {outcome = Wrong rest} sound so = record { tells = sound.tells }
weaken {outcome = Deep rest} sound so = record { tells = sound.tells }

-- one rule and then another
then_says : {A B : Type 0} (Other : A → List Word → Type 0) (Says : B → List Word
    → Type 0) (lexemes : List Lexeme) (outcome : Outcome A) (next : A → Reader B) →
    IsSound Other lexemes outcome →
    ((tree : A) (rest : List Lexeme) (words : List Word) → Other tree words
    → IsSound (λ made more. Says made (words ++ more)) rest (next tree rest)) →
    IsSound Says lexemes (and_then outcome next)
then_says Other Says lexemes (Done tree rest) next sound so =
    behind_words (next tree rest) sound.tells.1 (so tree rest sound.tells.0 sound.tells.2)
then_says Other Says lexemes (Wrong rest) next sound so = record { tells = sound.tells }
then_says Other Says lexemes (Deep rest) next sound so = record { tells = sound.tells }

pub step_says : {A B : Type 0} {Other : A → List Word → Type 0} {Says : B → List Word
    → Type 0} {lexemes : List Lexeme} {outcome : Outcome A} {next : A → Reader B} →
    IsSound Other lexemes outcome →
    ((tree : A) (rest : List Lexeme) (words : List Word) → Other tree words
    → IsSound (λ made more. Says made (words ++ more)) rest (next tree rest)) →
    IsSound Says lexemes (and_then outcome next)
step_says {Other = Other} {Says = Says} {lexemes = lexemes} {outcome = outcome} {next =
    next} sound so = then_says Other Says lexemes outcome next sound so

pub step : {A B : Type 0} {spelling : A → List Word} {Is : A → Type 0} {Says : B → List Word
    → Type 0} {lexemes : List Lexeme} {outcome : Outcome A} {next : A → Reader B} →
    IsSound (Spelled spelling Is) lexemes outcome →
    ((tree : A) (rest : List Lexeme) → Is tree
    → IsSound (λ made more. Says made (spelling tree ++ more)) rest (next tree rest)) →
    IsSound Says lexemes (and_then outcome next)
step {spelling = spelling} {Is = Is} {Says = Says} {lexemes = lexemes} {outcome = outcome} {next =
    next} sound so =
    then_says (Spelled spelling Is) Says lexemes outcome next sound (λ tree rest words says.
    subst (λ (w : List Word). IsSound (λ made more. Says made (w ++ more)) rest (next tree rest))
    (sym says.0) (so tree rest says.1))

-- the same words for another tree
pub made_says : {A B : Type 0} {Says : B → List Word → Type 0} {lexemes : List Lexeme} (f : A
    → B) {outcome : Outcome A} →
    IsSound (λ tree words. Says (f tree) words) lexemes outcome
    → IsSound Says lexemes (made f outcome)
made_says f {outcome = Done tree rest} sound = record { tells = sound.tells }
made_says f {outcome = Wrong rest} sound = record { tells = sound.tells }
made_says f {outcome = Deep rest} sound = record { tells = sound.tells }

pub finish : {A B : Type 0} {spelling : A → List Word} {Is : A → Type 0} {Says : B → List Word
    → Type 0} {lexemes : List Lexeme} (f : A → B) {outcome : Outcome A} →
    IsSound (Spelled spelling Is) lexemes outcome
    → ((tree : A) → Is tree → Says (f tree) (spelling tree))
    → IsSound Says lexemes (made f outcome)
finish {spelling = spelling} {Says = Says} f sound so =
    made_says f (weaken sound (λ tree words says. subst (λ (w : List Word). Says (f tree) w)
    (sym says.0) (so tree says.1)))

-- choices
choose_by : {A : Type 0} (Says : A → List Word → Type 0) (lexemes : List Lexeme) (test : Bool)
    (x y : Outcome A) →
    (test ≡ true → IsSound Says lexemes x) → (test ≡ false → IsSound Says lexemes y)
    → IsSound Says lexemes (elim test [ true ↦ x | false ↦ y ])
choose_by Says lexemes true x y so other = so refl
choose_by Says lexemes false x y so other = other refl

pub choose : {A : Type 0} {Says : A → List Word → Type 0} {lexemes : List Lexeme} (test : Bool)
    {x y : Outcome A} →
    (test ≡ true → IsSound Says lexemes x) → (test ≡ false → IsSound Says lexemes y)
    → IsSound Says lexemes (elim test [ true ↦ x | false ↦ y ])
choose {Says = Says} {lexemes = lexemes} test {x = x} {y = y} so other =
    choose_by Says lexemes test x y so other

choose_some_by : {A B : Type 0} (Says : A → List Word
    → Type 0) (lexemes : List Lexeme) (option : Option B) (x : Outcome A) (y : B → Outcome A) →
    (option ≡ None → IsSound Says lexemes x)
    → ((b : B) → option ≡ Some b → IsSound Says lexemes (y b))
    → IsSound Says lexemes (elim option [ None ↦ x | Some b ↦ y b ])
choose_some_by Says lexemes None x y so other = so refl
choose_some_by Says lexemes (Some b) x y so other = other b refl

pub choose_some : {A B : Type 0} {Says : A → List Word
    → Type 0} {lexemes : List Lexeme} (option : Option B) {x : Outcome A} {y : B → Outcome A} →
    (option ≡ None → IsSound Says lexemes x)
    → ((b : B) → option ≡ Some b → IsSound Says lexemes (y b))
    → IsSound Says lexemes (elim option [ None ↦ x | Some b ↦ y b ])
choose_some {Says = Says} {lexemes = lexemes} option {x = x} {y = y} so other =
    choose_some_by Says lexemes option x y so other

-- the numbers of symbols and keywords tell them apart
symbols : List Sym
symbols = sym.Assign ∷ sym.AddAssign ∷ sym.SubAssign ∷ sym.MulAssign ∷ sym.DivAssign ∷
    sym.RemAssign ∷ sym.AndAssign ∷ sym.OrAssign ∷ sym.DotDot ∷ sym.Reduce ∷ sym.Flood ∷ sym.Scan ∷
    sym.LessEqual ∷ sym.GreaterEqual ∷ sym.NotEqual ∷ sym.Equal ∷ sym.Less ∷ sym.Greater ∷
    sym.Plus ∷ sym.Minus ∷ sym.Star ∷ sym.Slash ∷ sym.Percent ∷ sym.And ∷ sym.Or ∷ sym.Not ∷
    sym.OpenParen ∷ sym.CloseParen ∷ sym.OpenBracket ∷ sym.CloseBracket ∷ sym.Comma ∷
    sym.Semicolon ∷ sym.Colon ∷ sym.At ∷ sym.Hash ∷ sym.Caret ∷ []

symbol_back : (s : Sym) → get_or symbols (symbol_number s) sym.Caret ≡ s
unfolding symbols
symbol_back sym.Assign = refl
symbol_back sym.AddAssign = refl
symbol_back sym.SubAssign = refl
symbol_back sym.MulAssign = refl
symbol_back sym.DivAssign = refl
symbol_back sym.RemAssign = refl
symbol_back sym.AndAssign = refl
symbol_back sym.OrAssign = refl
symbol_back sym.DotDot = refl
symbol_back sym.Reduce = refl
symbol_back sym.Flood = refl
symbol_back sym.Scan = refl
symbol_back sym.LessEqual = refl
symbol_back sym.GreaterEqual = refl
symbol_back sym.NotEqual = refl
symbol_back sym.Equal = refl
symbol_back sym.Less = refl
symbol_back sym.Greater = refl
symbol_back sym.Plus = refl
symbol_back sym.Minus = refl
symbol_back sym.Star = refl
symbol_back sym.Slash = refl
symbol_back sym.Percent = refl
symbol_back sym.And = refl
symbol_back sym.Or = refl
symbol_back sym.Not = refl
symbol_back sym.OpenParen = refl
symbol_back sym.CloseParen = refl
symbol_back sym.OpenBracket = refl
symbol_back sym.CloseBracket = refl
symbol_back sym.Comma = refl
symbol_back sym.Semicolon = refl
symbol_back sym.Colon = refl
symbol_back sym.At = refl
symbol_back sym.Hash = refl
symbol_back sym.Caret = refl

keywords : List Key
keywords = key.Program ∷ key.Config ∷ key.Var ∷ key.Constant ∷ key.Region ∷ key.Direction ∷
    key.Procedure ∷ key.Begin ∷ key.End ∷ key.If ∷ key.Then ∷ key.Elsif ∷ key.Else ∷ key.While ∷
    key.Do ∷ key.Repeat ∷ key.Until ∷ key.For ∷ key.To ∷ key.Downto ∷ key.By ∷ key.Of ∷ key.In ∷
    key.At ∷ key.With ∷ key.Without ∷ key.Wrap ∷ key.Reflect ∷ key.Return ∷ key.Integer ∷
    key.Boolean ∷ key.True ∷ key.False ∷ key.Max ∷ key.Min ∷ key.Abs ∷ key.Write ∷ key.Writeln ∷
    key.Index1 ∷ key.Index2 ∷ key.Index3 ∷ []

keyword_back : (k : Key) → get_or keywords (key_number k) key.Index3 ≡ k
unfolding keywords
keyword_back key.Program = refl
keyword_back key.Config = refl
keyword_back key.Var = refl
keyword_back key.Constant = refl
keyword_back key.Region = refl
keyword_back key.Direction = refl
keyword_back key.Procedure = refl
keyword_back key.Begin = refl
keyword_back key.End = refl
keyword_back key.If = refl
keyword_back key.Then = refl
keyword_back key.Elsif = refl
keyword_back key.Else = refl
keyword_back key.While = refl
keyword_back key.Do = refl
keyword_back key.Repeat = refl
keyword_back key.Until = refl
keyword_back key.For = refl
keyword_back key.To = refl
keyword_back key.Downto = refl
keyword_back key.By = refl
keyword_back key.Of = refl
keyword_back key.In = refl
keyword_back key.At = refl
keyword_back key.With = refl
keyword_back key.Without = refl
keyword_back key.Wrap = refl
keyword_back key.Reflect = refl
keyword_back key.Return = refl
keyword_back key.Integer = refl
keyword_back key.Boolean = refl
keyword_back key.True = refl
keyword_back key.False = refl
keyword_back key.Max = refl
keyword_back key.Min = refl
keyword_back key.Abs = refl
keyword_back key.Write = refl
keyword_back key.Writeln = refl
keyword_back key.Index1 = refl
keyword_back key.Index2 = refl
keyword_back key.Index3 = refl

pub same_symbol : (a b : Sym) → (symbol_number a == symbol_number b) ≡ true → a ≡ b
same_symbol a b e =
    let numbers : symbol_number a ≡ symbol_number b =
    eqb-true (symbol_number a) (symbol_number b) e in
    sym (symbol_back a) ∙ (ap (λ (n : ℕ). get_or symbols n sym.Caret) numbers ∙ symbol_back b)

pub same_keyword : (a b : Key) → (key_number a == key_number b) ≡ true → a ≡ b
same_keyword a b e =
    let numbers : key_number a ≡ key_number b = eqb-true (key_number a) (key_number b) e in
    sym (keyword_back a) ∙ (ap (λ (n : ℕ). get_or keywords n key.Index3) numbers ∙ keyword_back b)
