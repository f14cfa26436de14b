-- Where the trees of a reader stand: how one reader's facts follow from those that it is made of.
use Rattle.std.proofs.Common.{◌≡◌, ℕ, zero, suc, Bool, true, false, List, [], ◌∷◌, ◌++◌, Option, Some, None, refl, sym, ap, subst, ◌∙◌}
use Rattle.std.specs.Bool.{⊤}
use Rattle.zpl_tokens.specs.declared.Kind.{Kind}
use Rattle.zpl_tokens.specs.declared.Kind.TheVariants as kind
use Rattle.zpl_tokens.specs.declared.symbols.Sym.TheVariants as sym
use Rattle.zpl_tree.specs.Word.{Word}
use Rattle.zpl_grammar.specs.Lexeme.{Lexeme, head_at, behind}
use Rattle.zpl_parse.specs.Outcome.{Outcome, Done, Wrong, Deep, Reader, and_then, made}
use Rattle.zpl_grammar.specs.Same.{same}
use Rattle.zpl_parse.specs.Tokens.{next_is, taken, expect, name, name_of_kind, names}
use Rattle.zpl_grammar.specs.Offsets.{past, NameAt, NamesAt}
use Rattle.zpl_parse.proofs.Sound.Base.{Takes, nothing, one, IsSound, Spelled}
use Rattle.zpl_parse.proofs.Sound.Tokens.{name_sound}

-- what an outcome says of its tree and of what is left, where it has one
abbrev pub Holds : {A : Type 0} → (A → List Lexeme → Type 0) → Outcome A → Type 0
Holds Says (Done tree rest) = Says tree rest
Holds Says (Wrong rest) = ⊤
Holds Says (Deep rest) = ⊤

pub record IsAt {A : Type 0} (Says : A → List Lexeme → Type 0) (outcome : Outcome A) : Type 0 where
  pub holds : Holds Says outcome

pub done_at : {A : Type 0} {Says : A → List Lexeme → Type 0} {tree : A} {rest : List Lexeme}
    → Says tree rest → IsAt Says (Done tree rest)
done_at says = record { holds = says }

pub wrong_at : {A : Type 0} {Says : A → List Lexeme → Type 0} {rest : List Lexeme}
    → IsAt Says (Wrong rest)
wrong_at = record { holds = tt }

pub deep_at : {A : Type 0} {Says : A → List Lexeme → Type 0} {rest : List Lexeme}
    → IsAt Says (Deep rest)
deep_at = record { holds = tt }

pub takes_past : {lexemes rest : List Lexeme} {words : List Word} → Takes lexemes words rest
    → rest ≡ past words lexemes
takes_past nothing = refl
takes_past (one reads inner more) = takes_past more

pub past_append : (a b : List Word) (lexemes : List Lexeme) → past (a ++ b) lexemes
    ≡ past b (past a lexemes)
past_append [] b lexemes = refl
past_append (w ∷ a) b lexemes = past_append a b (behind lexemes)

then_at_by : {A B : Type 0} (Other : A → List Lexeme → Type 0) (Says : B → List Lexeme
    → Type 0) (outcome : Outcome A) (next : A → Reader B) → IsAt Other outcome →
    ((tree : A) (rest : List Lexeme) → Other tree rest → IsAt Says (next tree rest))
    → IsAt Says (and_then outcome next)
then_at_by Other Says (Done tree rest) next at so = so tree rest at.holds
then_at_by Other Says (Wrong rest) next at so = record { holds = tt }
then_at_by Other Says (Deep rest) next at so = record { holds = tt }

pub then_at : {A B : Type 0} {Other : A → List Lexeme → Type 0} {Says : B → List Lexeme
    → Type 0} {outcome : Outcome A} {next : A → Reader B} → IsAt Other outcome →
    ((tree : A) (rest : List Lexeme) → Other tree rest → IsAt Says (next tree rest))
    → IsAt Says (and_then outcome next)
then_at {Other = Other} {Says = Says} {outcome = outcome} {next = next} at so =
    then_at_by Other Says outcome next at so

-- a rule, and where what is behind it stands
step_at_by : {A B : Type 0} (spelling : A → List Word) (Is : A → Type 0) (Other : A → List Lexeme
    → Type 0) (Says : B → List Lexeme → Type 0) (lexemes : List Lexeme) (outcome : Outcome A)
    (next : A → Reader B) →
    IsSound (Spelled spelling Is) lexemes outcome → IsAt Other outcome →
    ((tree : A) → Other tree (past (spelling tree) lexemes)
    → IsAt Says (next tree (past (spelling tree) lexemes))) → IsAt Says (and_then outcome next)
step_at_by spelling Is Other Says lexemes (Done tree rest) next sound at so =
    let lands : rest ≡ past (spelling tree) lexemes = takes_past sound.tells.1
    ∙ ap (λ (w : List Word). past w lexemes) sound.tells.2.0 in
    subst (λ (l : List Lexeme). IsAt Says (next tree l)) (sym lands)
    (so tree (subst (Other tree) lands at.holds))
step_at_by spelling Is Other Says lexemes (Wrong rest) next sound at so = record { holds = tt }
step_at_by spelling Is Other Says lexemes (Deep rest) next sound at so = record { holds = tt }

pub step_at : {A B : Type 0} {spelling : A → List Word} {Is : A → Type 0} {Other : A → List Lexeme
    → Type 0} {Says : B → List Lexeme → Type 0} {lexemes : List Lexeme} {outcome : Outcome A}
    (next : A → Reader B) →
    IsSound (Spelled spelling Is) lexemes outcome → IsAt Other outcome →
    ((tree : A) → Other tree (past (spelling tree) lexemes)
    → IsAt Says (next tree (past (spelling tree) lexemes))) → IsAt Says (and_then outcome next)
step_at {spelling = spelling} {Is = Is} {Other = Other} {Says = Says} {lexemes = lexemes} {outcome =
    outcome} next sound at so =
    step_at_by spelling Is Other Says lexemes outcome next sound at so

-- the same with what is known of the tree
step_is_at_by : {A B : Type 0} (spelling : A → List Word) (Is : A → Type 0) (Other : A → List Lexeme
    → Type 0) (Says : B → List Lexeme → Type 0) (lexemes : List Lexeme) (outcome : Outcome A)
    (next : A → Reader B) →
    IsSound (Spelled spelling Is) lexemes outcome → IsAt Other outcome →
    ((tree : A) → Is tree → Other tree (past (spelling tree) lexemes)
    → IsAt Says (next tree (past (spelling tree) lexemes))) → IsAt Says (and_then outcome next)
step_is_at_by spelling Is Other Says lexemes (Done tree rest) next sound at so =
    let lands : rest ≡ past (spelling tree) lexemes = takes_past sound.tells.1
    ∙ ap (λ (w : List Word). past w lexemes) sound.tells.2.0 in
    subst (λ (l : List Lexeme). IsAt Says (next tree l)) (sym lands)
    (so tree sound.tells.2.1 (subst (Other tree) lands at.holds))
step_is_at_by spelling Is Other Says lexemes (Wrong rest) next sound at so = record { holds = tt }
step_is_at_by spelling Is Other Says lexemes (Deep rest) next sound at so = record { holds = tt }

pub step_is_at : {A B : Type 0} {spelling : A → List Word} {Is : A → Type 0} {Other : A
    → List Lexeme → Type 0} {Says : B → List Lexeme
    → Type 0} {lexemes : List Lexeme} {outcome : Outcome A} (next : A → Reader B) →
    IsSound (Spelled spelling Is) lexemes outcome → IsAt Other outcome →
    ((tree : A) → Is tree → Other tree (past (spelling tree) lexemes)
    → IsAt Says (next tree (past (spelling tree) lexemes))) → IsAt Says (and_then outcome next)
step_is_at {spelling = spelling} {Is = Is} {Other = Other} {Says = Says} {lexemes =
    lexemes} {outcome = outcome} next sound at so =
    step_is_at_by spelling Is Other Says lexemes outcome next sound at so

finish_at_by : {A B : Type 0} (Other : A → List Lexeme → Type 0) (Says : B → List Lexeme
    → Type 0) (f : A → B) (outcome : Outcome A) → IsAt Other outcome →
    ((tree : A) (rest : List Lexeme) → Other tree rest → Says (f tree) rest)
    → IsAt Says (made f outcome)
finish_at_by Other Says f (Done tree rest) at so = record { holds = so tree rest at.holds }
finish_at_by Other Says f (Wrong rest) at so = record { holds = tt }
finish_at_by Other Says f (Deep rest) at so = record { holds = tt }

pub finish_at : {A B : Type 0} {Other : A → List Lexeme → Type 0} {Says : B → List Lexeme
    → Type 0} (f : A → B) {outcome : Outcome A} → IsAt Other outcome →
    ((tree : A) (rest : List Lexeme) → Other tree rest → Says (f tree) rest)
    → IsAt Says (made f outcome)
finish_at {Other = Other} {Says = Says} f {outcome = outcome} at so =
    finish_at_by Other Says f outcome at so

-- a rule of which nothing but what it makes counts
pub anywhere : {A : Type 0} (outcome : Outcome A) → IsAt (λ tree rest. ⊤) outcome
anywhere (Done tree rest) = record { holds = tt }
anywhere (Wrong rest) = record { holds = tt }
anywhere (Deep rest) = record { holds = tt }

pub last_at : {A B : Type 0} {Says : B → List Lexeme → Type 0} (f : A → B) (outcome : Outcome A)
    → ((tree : A) (rest : List Lexeme) → Says (f tree) rest) → IsAt Says (made f outcome)
last_at f outcome so = finish_at f (anywhere outcome) (λ tree rest fact. so tree rest)

choose_at_by : {A : Type 0} (Says : A → List Lexeme → Type 0) (test : Bool) (x y : Outcome A)
    → (test ≡ true → IsAt Says x) → (test ≡ false → IsAt Says y)
    → IsAt Says (elim test [ true ↦ x | false ↦ y ])
choose_at_by Says true x y so other = so refl
choose_at_by Says false x y so other = other refl

pub choose_at : {A : Type 0} {Says : A → List Lexeme → Type 0} (test : Bool) {x y : Outcome A}
    → (test ≡ true → IsAt Says x) → (test ≡ false → IsAt Says y)
    → IsAt Says (elim test [ true ↦ x | false ↦ y ])
choose_at {Says = Says} test {x = x} {y = y} so other = choose_at_by Says test x y so other

choose_some_at_by : {A B : Type 0} (Says : A → List Lexeme
    → Type 0) (option : Option B) (x : Outcome A) (y : B → Outcome A) →
    (option ≡ None → IsAt Says x) → ((b : B) → option ≡ Some b → IsAt Says (y b))
    → IsAt Says (elim option [ None ↦ x | Some b ↦ y b ])
choose_some_at_by Says None x y so other = so refl
choose_some_at_by Says (Some b) x y so other = other b refl

pub choose_some_at : {A B : Type 0} {Says : A → List Lexeme
    → Type 0} (option : Option B) {x : Outcome A} {y : B → Outcome A} →
    (option ≡ None → IsAt Says x) → ((b : B) → option ≡ Some b → IsAt Says (y b))
    → IsAt Says (elim option [ None ↦ x | Some b ↦ y b ])
choose_some_at {Says = Says} option {x = x} {y = y} so other =
    choose_some_at_by Says option x y so other

-- one lexeme of a kind, before what follows
expect_at_by : {A : Type 0} (Says : A → List Lexeme → Type 0) (test : Bool) (first : Lexeme)
    (rest : List Lexeme) (next : ℕ → Reader A) → IsAt Says (next first.at rest)
    → IsAt Says (and_then (taken test first rest) next)
expect_at_by Says true first rest next so = so
expect_at_by Says false first rest next so = record { holds = tt }

pub sign_at : {A : Type 0} {Says : A → List Lexeme → Type 0} (wanted : Kind) (lexemes : List Lexeme)
    (next : ℕ → Reader A) →
    IsAt Says (next (head_at lexemes) (behind lexemes))
    → IsAt Says (and_then (expect wanted lexemes) next)
sign_at wanted [] next so = record { holds = tt }
sign_at {Says = Says} wanted (first ∷ rest) next so =
    expect_at_by Says (same first.kind wanted) first rest next so

named_at : (k : Kind) (first : Lexeme) (rest : List Lexeme)
    → IsAt (λ name left. NameAt (first ∷ rest) name) (name_of_kind k first rest)
named_at kind.Name first rest = record { holds = refl }
named_at _ first rest = record { holds = tt }

pub name_at : (lexemes : List Lexeme) → IsAt (λ name rest. NameAt lexemes name) (name lexemes)
name_at [] = record { holds = tt }
name_at (first ∷ rest) = named_at first.kind first rest

-- whether a sign stands first
abbrev pub at_comma : List Lexeme → Bool
at_comma lexemes = next_is (kind.Symbol sym.Comma) lexemes

pub names_at : (most : ℕ) (lexemes : List Lexeme)
    → IsAt (λ names rest. NamesAt lexemes names) (names most lexemes)
names_at zero lexemes = wrong_at
names_at (suc most) lexemes =
    step_at _ (name_sound lexemes) (name_at lexemes) (λ first here.
    choose_at (at_comma (behind lexemes))
    (λ comma. finish_at (λ others. first ∷ others) (names_at most _) (λ others rest there.
    (here, there)))
    (λ other. done_at (here, tt)))

-- a rule, with where it leaves off
lands_at_by : {A : Type 0} (spelling : A → List Word) (Is : A → Type 0) (Other : A → List Lexeme
    → Type 0) (lexemes : List Lexeme) (outcome : Outcome A) →
    IsSound (Spelled spelling Is) lexemes outcome → IsAt Other outcome
    → IsAt (λ tree rest. Other tree rest × (rest ≡ past (spelling tree) lexemes)) outcome
lands_at_by spelling Is Other lexemes (Done tree rest) sound at =
    record {
      holds = (
        at.holds,
        takes_past sound.tells.1
            ∙ ap (λ (w : List Word). past w lexemes) sound.tells.2.0,
      );
    }
lands_at_by spelling Is Other lexemes (Wrong rest) sound at = record { holds = tt }
lands_at_by spelling Is Other lexemes (Deep rest) sound at = record { holds = tt }

pub lands_at : {A : Type 0} {spelling : A → List Word} {Is : A → Type 0} {Other : A → List Lexeme
    → Type 0} {lexemes : List Lexeme} {outcome : Outcome A} →
    IsSound (Spelled spelling Is) lexemes outcome → IsAt Other outcome
    → IsAt (λ tree rest. Other tree rest × (rest ≡ past (spelling tree) lexemes)) outcome
lands_at {spelling = spelling} {Is = Is} {Other = Other} {lexemes = lexemes} {outcome =
    outcome} sound at = lands_at_by spelling Is Other lexemes outcome sound at

-- one lexeme of a kind, which is the last
end_at_by : {A : Type 0} (Says : A → List Lexeme → Type 0) (test : Bool) (first : Lexeme)
    (rest : List Lexeme) (tree : A) → Says tree rest
    → IsAt Says (made (λ at. tree) (taken test first rest))
end_at_by Says true first rest tree says = record { holds = says }
end_at_by Says false first rest tree says = record { holds = tt }

pub end_at : {A : Type 0} {Says : A → List Lexeme → Type 0} (wanted : Kind) (lexemes : List Lexeme)
    (tree : A) → Says tree (behind lexemes) → IsAt Says (made (λ at. tree) (expect wanted lexemes))
end_at wanted [] tree says = record { holds = tt }
end_at {Says = Says} wanted (first ∷ rest) tree says =
    end_at_by Says (same first.kind wanted) first rest tree says
