-- What a reader took before a tree got too deep, or before a lexeme that can't stand there, begins
-- some tree: how it follows
-- for one reader from those that it is made of.
use Rattle.std.proofs.Common.{codes, ◌≡◌, ℕ, Bool, true, false, List, [], ◌∷◌, ◌++◌, Option, Some, None, refl, sym, ap, subst, append_assoc, append-nil, zero, suc}
use Rattle.std.specs.Bool.{⊤}
use Rattle.std.proofs.lemmas.Bool.{false≢true}
use Rattle.zpl_tokens.specs.declared.Kind.{Kind}
use Rattle.zpl_tokens.specs.declared.Kind.TheVariants as kind
use Rattle.zpl_tokens.specs.declared.keywords.Key.TheVariants as key
use Rattle.zpl_tokens.specs.declared.symbols.Sym.TheVariants as sym
use Rattle.zpl_tree.specs.Syntax.{Name}
use Rattle.zpl_tree.specs.Spelling.{name_words, names_words, end_words}
use Rattle.zpl_tree.specs.Grammar.{HasAny}
use Rattle.zpl_tree.specs.Word.{Word, kind_of}
use Rattle.zpl_tree.specs.Word as word
use Rattle.zpl_grammar.specs.Lexeme.{Lexeme, behind}
use Rattle.zpl_parse.specs.Outcome.{Outcome, Done, Wrong, Deep, Reader, and_then, made}
use Rattle.zpl_grammar.specs.Same.{same}
use Rattle.zpl_parse.specs.Tokens.{next_is, taken, expect, name, name_of_kind, names, closing, string_of}
use Rattle.zpl_parse.proofs.Sound.Base.{Takes, nothing, one, takes_then, Spelled}
use Rattle.zpl_parse.proofs.Viable.PlainWords.{ArePlain, plain_then, IsMark, mark_is_sign, mark_is_plain}
use Rattle.zpl_parse.proofs.Sound.Tokens.{IsSign, takes_one, takes_next, one_more, string_at}

-- words that some tree goes on with, and that may stand anywhere
pub record Goes {A : Type 0} (Says : A → List Word → Type 0) (front : List Word) : Type 0 where
  pub tree : A
  pub more : List Word
  pub says : Says tree (front ++ more)
  pub plain : ArePlain more

-- the lexemes before those that are left begin some tree
abbrev pub Begins : {A : Type 0} → (A → List Word → Type 0) → List Lexeme → List Lexeme → Type 0
Begins Says lexemes rest = (front : List Word) × Takes lexemes front rest × Goes Says front

-- where a tree is done, the lexemes that were taken are its words; where one can't stand, or a tree
-- got too deep, they begin some tree
abbrev pub Shows : {A : Type 0} → (A → List Word → Type 0) → List Lexeme → Outcome A → Type 0
Shows Says lexemes (Done tree rest) = (words : List Word) × Takes lexemes words rest ×
    Says tree words
Shows Says lexemes (Wrong rest) = Begins Says lexemes rest
Shows Says lexemes (Deep rest) = Begins Says lexemes rest

pub record IsViable {A : Type 0} (Says : A → List Word
    → Type 0) (lexemes : List Lexeme) (outcome : Outcome A) : Type 0 where
  pub shows : Shows Says lexemes outcome

pub viable_done : {A : Type 0} {Says : A → List Word → Type 0} {lexemes : List Lexeme} {tree : A}
    → Says tree [] → IsViable Says lexemes (Done tree lexemes)
viable_done says = record { shows = ([], nothing, says) }

pub viable_wrong : {A : Type 0} {Says : A → List Word → Type 0} {lexemes : List Lexeme}
    → Goes Says [] → IsViable Says lexemes (Wrong lexemes)
viable_wrong goes = record { shows = ([], nothing, goes) }

pub viable_deep : {A : Type 0} {Says : A → List Word → Type 0} {lexemes rest : List Lexeme}
    {front : List Word} → Takes lexemes front rest → Goes Says front
    → IsViable Says lexemes (Deep rest)
viable_deep {front = front} takes goes = record { shows = (front, takes, goes) }

-- all words of a tree
pub goes_all : {A : Type 0} {spelling : A → List Word} {Is : A → Type 0} (tree : A) → Is tree
    → ArePlain (spelling tree) → Goes (Spelled spelling Is) []
goes_all {spelling = spelling} tree is plain = record {
  tree = tree;
  more = spelling tree;
  says =
      (refl, is);
  plain = plain;
}

-- words to which none is added
pub exactly : {A : Type 0} {Says : A → List Word → Type 0} {words : List Word} (tree : A)
    → Says tree words → Goes Says words
exactly {Says = Says} {words = words} tree says = record {
  tree = tree;
  more = [];
  says =
      subst (Says tree) (sym (append-nil words)) says;
  plain = refl;
}

goes_on : {A : Type 0} (Says : A → List Word → Type 0) (words front : List Word)
    → Goes (λ tree more. Says tree (words ++ more)) front → Goes Says (words ++ front)
goes_on Says words front goes = record {
  tree = goes.tree;
  more = goes.more;
  says =
      subst (Says goes.tree) (sym (append_assoc words front goes.more)) goes.says;
  plain =
      goes.plain;
}

goes_as : {A B : Type 0} (Other : A → List Word → Type 0) (Says : B → List Word → Type 0) (f : A
    → B) (front : List Word) → Goes Other front →
    ((tree : A) (words : List Word) → Other tree words → Says (f tree) words) → Goes Says front
goes_as Other Says f front goes so = record {
  tree = f goes.tree;
  more = goes.more;
  says =
      so goes.tree (front ++ goes.more) goes.says;
  plain = goes.plain;
}

-- of no lexemes none are taken
none_taken : {lexemes rest : List Lexeme} {words : List Word} → lexemes ≡ []
    → Takes lexemes words rest → words ≡ []
none_taken none nothing = refl
none_taken none (one reads inner more) = absurd (cc)

goes_from : {A : Type 0} (Says : A → List Word → Type 0) (words : List Word) → words ≡ []
    → Goes Says words → Goes Says []
goes_from Says words none goes = subst (Goes Says) none goes

-- there is some tree, by what a reader does where there are no lexemes
some_by : {A : Type 0} (Says : A → List Word → Type 0) (lexemes : List Lexeme) (outcome : Outcome A)
    → lexemes ≡ [] → IsViable Says lexemes outcome → Goes Says []
some_by Says lexemes (Done tree rest) none h =
    goes_from Says h.shows.0 (none_taken none h.shows.1) (exactly tree h.shows.2)
some_by Says lexemes (Wrong rest) none h =
    goes_from Says h.shows.0 (none_taken none h.shows.1) h.shows.2
some_by Says lexemes (Deep rest) none h =
    goes_from Says h.shows.0 (none_taken none h.shows.1) h.shows.2

pub some_tree : {A : Type 0} {Says : A → List Word
    → Type 0} {lexemes : List Lexeme} {outcome : Outcome A} → lexemes ≡ []
    → IsViable Says lexemes outcome → Goes Says []
some_tree {Says = Says} {lexemes = lexemes} {outcome = outcome} none h =
    some_by Says lexemes outcome none h

-- words that were taken before
viable_past : {A : Type 0} (Says : A → List Word → Type 0) (lexemes rest : List Lexeme)
    (words : List Word) (outcome : Outcome A) → Takes lexemes words rest →
    IsViable (λ tree more. Says tree (words ++ more)) rest outcome → IsViable Says lexemes outcome
viable_past Says lexemes rest words (Done tree left) takes h =
    record { shows = (words ++ h.shows.0, takes_then takes h.shows.1, h.shows.2) }
viable_past Says lexemes rest words (Wrong left) takes h =
    record {
      shows =
          (words ++ h.shows.0, takes_then takes h.shows.1, goes_on Says words h.shows.0 h.shows.2);
    }
viable_past Says lexemes rest words (Deep left) takes h =
    record {
      shows =
          (words ++ h.shows.0, takes_then takes h.shows.1, goes_on Says words h.shows.0 h.shows.2);
    }

pub viable_behind : {A : Type 0} {Says : A → List Word → Type 0} {lexemes rest : List Lexeme}
    {words : List Word} {outcome : Outcome A} → Takes lexemes words rest →
    IsViable (λ tree more. Says tree (words ++ more)) rest outcome → IsViable Says lexemes outcome
viable_behind {Says = Says} {lexemes = lexemes} {rest = rest} {words = words} {outcome =
    outcome} takes h = viable_past Says lexemes rest words outcome takes h

-- the same words for another tree
made_by : {A B : Type 0} (Other : A → List Word → Type 0) (Says : B → List Word → Type 0) (f : A
    → B) (lexemes : List Lexeme) (outcome : Outcome A) → IsViable Other lexemes outcome →
    ((tree : A) (words : List Word) → Other tree words → Says (f tree) words)
    → IsViable Says lexemes (made f outcome)
made_by Other Says f lexemes (Done tree rest) h so =
    record { shows = (h.shows.0, h.shows.1, so tree h.shows.0 h.shows.2) }
made_by Other Says f lexemes (Wrong rest) h so =
    record { shows = (h.shows.0, h.shows.1, goes_as Other Says f h.shows.0 h.shows.2 so) }
made_by Other Says f lexemes (Deep rest) h so =
    record { shows = (h.shows.0, h.shows.1, goes_as Other Says f h.shows.0 h.shows.2 so) }

pub viable_made : {A B : Type 0} {Other : A → List Word → Type 0} {Says : B → List Word
    → Type 0} {lexemes : List Lexeme} (f : A → B) {outcome : Outcome A} →
    IsViable Other lexemes outcome → ((tree : A) (words : List Word) → Other tree words
    → Says (f tree) words) → IsViable Says lexemes (made f outcome)
viable_made {Other = Other} {Says = Says} {lexemes = lexemes} f {outcome = outcome} h so =
    made_by Other Says f lexemes outcome h so

pub viable_finish : {A B : Type 0} {spelling : A → List Word} {Is : A → Type 0} {Says : B
    → List Word → Type 0} {lexemes : List Lexeme} (f : A → B) {outcome : Outcome A} →
    IsViable (Spelled spelling Is) lexemes outcome
    → ((tree : A) → Is tree → Says (f tree) (spelling tree))
    → IsViable Says lexemes (made f outcome)
viable_finish {spelling = spelling} {Is = Is} {Says = Says} {lexemes = lexemes} f {outcome =
    outcome} h so =
    made_by (Spelled spelling Is) Says f lexemes outcome h (λ tree words says.
    subst (Says (f tree)) (sym says.0) (so tree says.1))

-- the same outcome says something else
weaken_by : {A : Type 0} (Other Says : A → List Word
    → Type 0) (lexemes : List Lexeme) (outcome : Outcome A) → IsViable Other lexemes outcome →
    ((tree : A) (words : List Word) → Other tree words → Says tree words)
    → IsViable Says lexemes outcome
weaken_by Other Says lexemes (Done tree rest) h so =
    record { shows = (h.shows.0, h.shows.1, so tree h.shows.0 h.shows.2) }
weaken_by Other Says lexemes (Wrong rest) h so =
    record {
      shows =
          (h.shows.0, h.shows.1, goes_as Other Says (λ tree. tree) h.shows.0 h.shows.2 so);
    }
weaken_by Other Says lexemes (Deep rest) h so =
    record {
      shows =
          (h.shows.0, h.shows.1, goes_as Other Says (λ tree. tree) h.shows.0 h.shows.2 so);
    }

pub viable_weaken : {A : Type 0} {Other Says : A → List Word
    → Type 0} {lexemes : List Lexeme} {outcome : Outcome A} → IsViable Other lexemes outcome →
    ((tree : A) (words : List Word) → Other tree words → Says tree words)
    → IsViable Says lexemes outcome
viable_weaken {Other = Other} {Says = Says} {lexemes = lexemes} {outcome = outcome} h so =
    weaken_by Other Says lexemes outcome h so

-- what begins one tree begins another that goes on with its words
pub goes_fill : {A B : Type 0} (Other : A → List Word → Type 0) (Says : B → List Word
    → Type 0) (front : List Word) → Goes Other front →
    ((tree : A) (words : List Word) → Other tree words → Goes Says words) → Goes Says front
goes_fill Other Says front goes so =
    let on = so goes.tree (front ++ goes.more) goes.says in
    record {
      tree = on.tree;
      more = goes.more ++ on.more;
      says =
          subst (Says on.tree) (append_assoc front goes.more on.more) on.says;
      plain =
          plain_then goes.more on.more goes.plain on.plain;
    }

goes_here : {A : Type 0} (Says : A → List Word → Type 0) (words : List Word)
    → Goes (λ tree more. Says tree (words ++ more)) [] → Goes Says words
goes_here Says words goes = record {
  tree = goes.tree;
  more = goes.more;
  says = goes.says;
  plain =
      goes.plain;
}

-- one rule and then another
then_by : {A B : Type 0} (Other : A → List Word → Type 0) (Says : B → List Word
    → Type 0) (lexemes : List Lexeme) (outcome : Outcome A) (next : A → Reader B)
    → IsViable Other lexemes outcome →
    ((tree : A) (rest : List Lexeme) (words : List Word) → Other tree words
    → IsViable (λ made more. Says made (words ++ more)) rest (next tree rest)) →
    IsViable Says lexemes (and_then outcome next)
then_by Other Says lexemes (Done tree rest) next h so =
    viable_past Says lexemes rest h.shows.0 (next tree rest) h.shows.1
    (so tree rest h.shows.0 h.shows.2)
then_by Other Says lexemes (Wrong rest) next h so =
    record {
      shows = (
        h.shows.0,
        h.shows.1,
        goes_fill Other Says h.shows.0 h.shows.2 (λ tree words says.
            goes_here Says words (some_tree refl (so tree [] words says))),
      );
    }
then_by Other Says lexemes (Deep rest) next h so =
    record {
      shows = (
        h.shows.0,
        h.shows.1,
        goes_fill Other Says h.shows.0 h.shows.2 (λ tree words says.
            goes_here Says words (some_tree refl (so tree [] words says))),
      );
    }

pub viable_then : {A B : Type 0} {Other : A → List Word → Type 0} {Says : B → List Word
    → Type 0} {lexemes : List Lexeme} {outcome : Outcome A} {next : A → Reader B}
    → IsViable Other lexemes outcome →
    ((tree : A) (rest : List Lexeme) (words : List Word) → Other tree words
    → IsViable (λ made more. Says made (words ++ more)) rest (next tree rest)) →
    IsViable Says lexemes (and_then outcome next)
viable_then {Other = Other} {Says = Says} {lexemes = lexemes} {outcome = outcome} {next =
    next} h so = then_by Other Says lexemes outcome next h so

-- where the words are those of the tree
pub viable_step : {A B : Type 0} {spelling : A → List Word} {Is : A → Type 0} {Says : B → List Word
    → Type 0} {lexemes : List Lexeme} {outcome : Outcome A} {next : A → Reader B} →
    IsViable (Spelled spelling Is) lexemes outcome →
    ((tree : A) (rest : List Lexeme) → Is tree
    → IsViable (λ made more. Says made (spelling tree ++ more)) rest (next tree rest)) →
    IsViable Says lexemes (and_then outcome next)
viable_step {spelling = spelling} {Is = Is} {Says = Says} {lexemes = lexemes} {outcome =
    outcome} {next = next} h so =
    then_by (Spelled spelling Is) Says lexemes outcome next h
    (λ tree rest words says.
    subst (λ (w : List Word). IsViable (λ made more. Says made (w ++ more)) rest
    (next tree rest)) (sym says.0) (so tree rest says.1))

-- choices
choose_by : {A : Type 0} (Says : A → List Word → Type 0) (lexemes : List Lexeme) (test : Bool)
    (x y : Outcome A) →
    (test ≡ true → IsViable Says lexemes x) → (test ≡ false → IsViable Says lexemes y)
    → IsViable Says lexemes (elim test [ true ↦ x | false ↦ y ])
choose_by Says lexemes true x y so other = so refl
choose_by Says lexemes false x y so other = other refl

pub viable_choose : {A : Type 0} {Says : A → List Word
    → Type 0} {lexemes : List Lexeme} (test : Bool) {x y : Outcome A} →
    (test ≡ true → IsViable Says lexemes x) → (test ≡ false → IsViable Says lexemes y)
    → IsViable Says lexemes (elim test [ true ↦ x | false ↦ y ])
viable_choose {Says = Says} {lexemes = lexemes} test {x = x} {y = y} so other =
    choose_by Says lexemes test x y so other

choose_some_by : {A B : Type 0} (Says : A → List Word
    → Type 0) (lexemes : List Lexeme) (option : Option B) (x : Outcome A) (y : B → Outcome A) →
    (option ≡ None → IsViable Says lexemes x)
    → ((b : B) → option ≡ Some b → IsViable Says lexemes (y b))
    → IsViable Says lexemes (elim option [ None ↦ x | Some b ↦ y b ])
choose_some_by Says lexemes None x y so other = so refl
choose_some_by Says lexemes (Some b) x y so other = other b refl

pub viable_some : {A B : Type 0} {Says : A → List Word
    → Type 0} {lexemes : List Lexeme} (option : Option B) {x : Outcome A} {y : B → Outcome A} →
    (option ≡ None → IsViable Says lexemes x)
    → ((b : B) → option ≡ Some b → IsViable Says lexemes (y b))
    → IsViable Says lexemes (elim option [ None ↦ x | Some b ↦ y b ])
viable_some {Says = Says} {lexemes = lexemes} option {x = x} {y = y} so other =
    choose_some_by Says lexemes option x y so other

-- a choice by the first lexeme, which is then taken
pub viable_at_sign : {A : Type 0} {Says : A → List Word → Type 0} (w : Word) → IsSign w
    → (lexemes : List Lexeme) {x y : Outcome A} →
    IsViable (λ tree more. Says tree (w ∷ more)) (behind lexemes) x → IsViable Says lexemes y →
    IsViable Says lexemes (elim (next_is (kind_of w) lexemes) [ true ↦ x | false ↦ y ])
viable_at_sign w is lexemes so other = viable_choose (next_is (kind_of w) lexemes)
    (λ e. viable_behind (takes_next w is lexemes e) so)
    (λ e. other)

-- one that must be there
expected : (w : Word) → IsMark w → (first : Lexeme) (rest : List Lexeme) (test : Bool)
    → same first.kind (kind_of w) ≡ test →
    IsViable (Spelled (λ at. w ∷ []) (λ (at : ℕ). ⊤)) (first ∷ rest) (taken test first rest)
expected w is first rest true e =
    record { shows = (w ∷ [], takes_next w (mark_is_sign w is) (first ∷ rest) e, (refl, tt)) }
expected w is first rest false e = viable_wrong (goes_all 0 tt (mark_is_plain w is))

pub expect_viable : (w : Word) → IsMark w → (lexemes : List Lexeme)
    → IsViable (Spelled (λ at. w ∷ []) (λ (at : ℕ). ⊤)) lexemes (expect (kind_of w) lexemes)
expect_viable w is [] = viable_wrong (goes_all 0 tt (mark_is_plain w is))
expect_viable w is (first ∷ rest) = expected w is first rest (same first.kind (kind_of w)) refl

-- one that must be there before what follows
pub viable_sign : {A : Type 0} {Says : A → List Word → Type 0} (w : Word) → IsMark w
    → {lexemes : List Lexeme} {next : ℕ → Reader A} →
    ((at : ℕ) (rest : List Lexeme)
    → IsViable (λ tree more. Says tree (w ∷ more)) rest (next at rest)) →
    IsViable Says lexemes (and_then (expect (kind_of w) lexemes) next)
viable_sign w is {lexemes = lexemes} so =
    viable_step (expect_viable w is lexemes) (λ at rest fact. so at rest)

-- one that must be there last
pub viable_last : {A : Type 0} {Says : A → List Word → Type 0} (w : Word) → IsMark w
    → {lexemes : List Lexeme} (tree : A) →
    Says tree (w ∷ []) → IsViable Says lexemes (made (λ at. tree) (expect (kind_of w) lexemes))
viable_last w is {lexemes = lexemes} tree so =
    viable_finish (λ at. tree) (expect_viable w is lexemes) (λ at fact. so)

-- the rules of other single lexemes
abbrev pub some_name : Name
some_name = record { text = codes "x"; at = 0 }

named : (k : Kind) (first : Lexeme) (rest : List Lexeme) → first.kind ≡ k
    → IsViable (Spelled name_words (λ name. ⊤)) (first ∷ rest) (name_of_kind k first rest)
named kind.Name first rest e =
    record {
      shows = (
        word.Name first.bytes ∷ [],
        takes_one (word.Name first.bytes) (record {
          kind = e;
          bytes =
              refl;
        }) tt,
        (refl, tt),
      );
    }
named _ first rest e = viable_wrong (goes_all some_name tt refl)

pub name_viable : (lexemes : List Lexeme)
    → IsViable (Spelled name_words (λ name. ⊤)) lexemes (name lexemes)
name_viable [] = viable_wrong (goes_all some_name tt refl)
name_viable (first ∷ rest) = named first.kind first rest refl

pub names_viable : (most : ℕ) (lexemes : List Lexeme)
    → IsViable (Spelled names_words HasAny) lexemes (names most lexemes)
names_viable zero lexemes = viable_wrong (goes_all (some_name ∷ []) tt refl)
names_viable (suc most) lexemes = viable_step (name_viable lexemes) (λ first rest fact.
    viable_at_sign (word.Symbol sym.Comma) tt rest
    (viable_finish (λ others. first ∷ others) (names_viable most (behind rest)) (λ others has. (
      ap (λ w. name_words first ++ w) (one_more (word.Symbol sym.Comma ∷ []) name_words others
          has),
      tt,
    )))
    (viable_done (refl, tt)))

pub closing_viable : (lexemes : List Lexeme)
    → IsViable (Spelled (λ at. end_words) (λ (at : ℕ). ⊤)) lexemes (closing lexemes)
closing_viable lexemes =
    viable_sign (word.Keyword key.End) tt (λ at rest.
    viable_weaken (expect_viable (word.Symbol sym.Semicolon) tt rest) (λ at words says.
    (ap (λ w. word.Keyword key.End ∷ w) says.0, tt)))

pub string_viable : (lexemes : List Lexeme) → next_is kind.Str lexemes ≡ true
    → IsViable (Spelled (λ bytes. word.Str bytes ∷ []) (λ (bytes : List ℕ). ⊤)) lexemes
    (string_of lexemes)
string_viable [] e = absurd (false≢true e)
string_viable (first ∷ rest) e = record { shows = (string_at (first ∷ rest) e).tells }

-- where a whole program is wrong or too deep, the lexemes that were taken begin one; where it is
-- done, the end was taken too
abbrev pub Begun : {A : Type 0} → (A → List Word → Type 0) → List Lexeme → Outcome A → Type 0
Begun Says lexemes (Done tree rest) = ⊤
Begun Says lexemes (Wrong rest) = Begins Says lexemes rest
Begun Says lexemes (Deep rest) = Begins Says lexemes rest

pub record IsBegun {A : Type 0} (Says : A → List Word
    → Type 0) (lexemes : List Lexeme) (outcome : Outcome A) : Type 0 where
  pub some : lexemes ≡ [] → Goes Says []
  pub begun : Begun Says lexemes outcome

-- words that were taken before a part of the program
begun_past : {A : Type 0} (Says : A → List Word → Type 0) (lexemes rest : List Lexeme)
    (words : List Word) (outcome : Outcome A) → Takes lexemes words rest →
    IsBegun (λ tree more. Says tree (words ++ more)) rest outcome → Begun Says lexemes outcome
begun_past Says lexemes rest words (Done tree left) takes h = tt
begun_past Says lexemes rest words (Wrong left) takes h =
    (words ++ h.begun.0, takes_then takes h.begun.1, goes_on Says words h.begun.0 h.begun.2)
begun_past Says lexemes rest words (Deep left) takes h =
    (words ++ h.begun.0, takes_then takes h.begun.1, goes_on Says words h.begun.0 h.begun.2)

-- one rule and then the others
begun_by : {A B : Type 0} (Other : A → List Word → Type 0) (Says : B → List Word
    → Type 0) (lexemes : List Lexeme) (outcome : Outcome A) (next : A → Reader B)
    → IsViable Other lexemes outcome →
    ((tree : A) (words : List Word) → Other tree words → Goes Says words) →
    ((tree : A) (rest : List Lexeme) (words : List Word) → Other tree words
    → IsBegun (λ made more. Says made (words ++ more)) rest (next tree rest)) →
    Begun Says lexemes (and_then outcome next)
begun_by Other Says lexemes (Done tree rest) next h fill so =
    begun_past Says lexemes rest h.shows.0 (next tree rest) h.shows.1
    (so tree rest h.shows.0 h.shows.2)
begun_by Other Says lexemes (Wrong rest) next h fill so =
    (h.shows.0, h.shows.1, goes_fill Other Says h.shows.0 h.shows.2 fill)
begun_by Other Says lexemes (Deep rest) next h fill so =
    (h.shows.0, h.shows.1, goes_fill Other Says h.shows.0 h.shows.2 fill)

pub begun_then : {A B : Type 0} (Other : A → List Word → Type 0) (Says : B → List Word
    → Type 0) (lexemes : List Lexeme) (outcome : Outcome A) (next : A → Reader B)
    → IsViable Other lexemes outcome →
    ((tree : A) (rest : List Lexeme) (words : List Word) → Other tree words
    → IsBegun (λ made more. Says made (words ++ more)) rest (next tree rest)) →
    IsBegun Says lexemes (and_then outcome next)
begun_then {A = A} Other Says lexemes outcome next h so =
    let fill : (tree : A) (words : List Word) → Other tree words → Goes Says words =
    λ tree words says. goes_here Says words ((so tree [] words says).some refl) in
    record {
      some = λ none. goes_fill Other Says [] (some_tree none h) fill;
      begun =
          begun_by Other Says lexemes outcome next h fill so;
    }

pub begun_sign : {A : Type 0} (Says : A → List Word → Type 0) (w : Word) → IsMark w
    → (lexemes : List Lexeme) (next : ℕ → Reader A) →
    ((at : ℕ) (rest : List Lexeme)
    → IsBegun (λ tree more. Says tree (w ∷ more)) rest (next at rest)) →
    IsBegun Says lexemes (and_then (expect (kind_of w) lexemes) next)
begun_sign Says w is lexemes next so =
    begun_then (Spelled (λ at. w ∷ []) (λ (at : ℕ). ⊤)) Says lexemes (expect (kind_of w) lexemes)
    next (expect_viable w is lexemes)
    (λ at rest words says.
    subst (λ (v : List Word). IsBegun (λ made more. Says made (v ++ more)) rest (next at rest))
    (sym says.0) (so at rest))

-- what begins a part begins a program
begun_as : {A B : Type 0} (Other : A → List Word → Type 0) (Says : B → List Word → Type 0) (f : A
    → B) (lexemes : List Lexeme) (outcome : Outcome A) → IsBegun Other lexemes outcome →
    ((tree : A) (words : List Word) → Other tree words → Goes Says words)
    → Begun Says lexemes (made f outcome)
begun_as Other Says f lexemes (Done tree rest) h fill = tt
begun_as Other Says f lexemes (Wrong rest) h fill =
    (h.begun.0, h.begun.1, goes_fill Other Says h.begun.0 h.begun.2 fill)
begun_as Other Says f lexemes (Deep rest) h fill =
    (h.begun.0, h.begun.1, goes_fill Other Says h.begun.0 h.begun.2 fill)

pub begun_made : {A B : Type 0} (Other : A → List Word → Type 0) (Says : B → List Word
    → Type 0) (f : A → B) (lexemes : List Lexeme) (outcome : Outcome A)
    → IsBegun Other lexemes outcome →
    ((tree : A) (words : List Word) → Other tree words → Goes Says words)
    → IsBegun Says lexemes (made f outcome)
begun_made Other Says f lexemes outcome h fill =
    record {
      some = λ none. goes_fill Other Says [] (h.some none) fill;
      begun =
          begun_as Other Says f lexemes outcome h fill;
    }

pub begun_choose : {A : Type 0} (Says : A → List Word
    → Type 0) (lexemes : List Lexeme) (test : Bool) (x y : Outcome A) →
    IsBegun Says lexemes x → IsBegun Says lexemes y
    → IsBegun Says lexemes (elim test [ true ↦ x | false ↦ y ])
begun_choose Says lexemes true x y so other = so
begun_choose Says lexemes false x y so other = other
