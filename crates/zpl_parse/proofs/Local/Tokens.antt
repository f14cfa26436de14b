-- The rules of single tokens are local.
use Rattle.std.proofs.Common.{◌≡◌, ℕ, suc, zero, ◌≤◌, ℤ, Bool, true, false, List, [], ◌∷◌, Option, Some, None, refl, sym, ◌∙◌, ap, subst, arith}
use Rattle.zpl_tokens.specs.declared.Kind.{Kind}
use Rattle.zpl_tokens.specs.declared.Kind.TheVariants as kind
use Rattle.zpl_tokens.specs.declared.keywords.Key.{Key}
use Rattle.zpl_tokens.specs.declared.keywords.Key.TheVariants as key
use Rattle.zpl_tokens.specs.declared.symbols.Sym.{Sym}
use Rattle.zpl_tokens.specs.declared.symbols.Sym.TheVariants as sym
use Rattle.zpl_tree.specs.Syntax.{Name}
use Rattle.zpl_parse.specs.declared.classes.Opening.{Opening}
use Rattle.zpl_parse.specs.declared.classes.Opening.TheVariants as opening
use Rattle.zpl_parse.specs.Classes.{opening_of}
use Rattle.zpl_grammar.specs.Lexeme.{Lexeme, head_kind, head_at}
use Rattle.zpl_parse.specs.Outcome.{Outcome, Done, Wrong, Reader}
use Rattle.zpl_grammar.specs.Same.{same}
use Rattle.zpl_parse.specs.Tokens.{next_is, taken, expect, symbol, keyword, name_of_kind, name, natural_of, natural, names, closing, in_quotes, string_of}
use Rattle.zpl_parse.proofs.Local.Base.{IsLocal, LocalAt, SameHead, IsWrong, IsOfHead, local_then, local_made, local_done, local_cons, local_behind, local_if}

-- what is told by the first lexeme
pub told_cons : {B : Type 0} (test : List Lexeme → B) → ((x : Lexeme) (rest others : List Lexeme)
    → test (x ∷ others) ≡ test (x ∷ rest)) → IsOfHead test
told_cons test h = record { same = go }
  where
    go : (lexemes others : List Lexeme) → SameHead lexemes others → test others ≡ test lexemes
    go [] others same = absurd same
    go (x ∷ rest) [] same = absurd same
    go (x ∷ rest) (y ∷ others) same =
        subst (λ z. test (z ∷ others) ≡ test (x ∷ rest)) same (h x rest others)

pub next_told : (wanted : Kind) → IsOfHead (next_is wanted)
next_told wanted = told_cons (next_is wanted) (λ x rest others. refl)

pub kind_told : {B : Type 0} (f : Kind → B) → IsOfHead (λ l. f (head_kind l))
kind_told f = told_cons (λ l. f (head_kind l)) (λ x rest others. refl)

pub at_told : IsOfHead head_at
at_told = told_cons head_at (λ x rest others. refl)

-- what takes one lexeme, or is wrong there
abbrev one : {A : Type 0} → Option A → Lexeme → List Lexeme → Outcome A
one (Some a) x rest = Done a rest
one None x rest = Wrong (x ∷ rest)

one_at : (Exact Sure : Type 0) {A : Type 0} (p : Reader A) (o : Lexeme → Option A)
    → ((x : Lexeme) (rest : List Lexeme) → p (x ∷ rest) ≡ one (o x) x rest) →
    (x : Lexeme) (rest : List Lexeme) (a : Option A) → o x ≡ a
    → LocalAt Exact Sure p (x ∷ rest) (one a x rest)
one_at Exact Sure p o is x rest (Some a) e =
    (x ∷ [], refl, λ others head. is x others ∙ ap (λ b. one b x others) e)
one_at Exact Sure p o is x rest None e = ([], refl, λ exact others head. wrong others head)
  where
    wrong : (others : List Lexeme) → SameHead (x ∷ rest) others → IsWrong (p others)
    wrong [] head = absurd head
    wrong (y ∷ others) head =
        subst (λ z. IsWrong (p (z ∷ others))) head
        (subst IsWrong (sym (is x others ∙ ap (λ b. one b x others) e)) tt)

local_one : {Exact Sure A : Type 0} (p : Reader A) (o : Lexeme → Option A) → p [] ≡ Wrong []
    → ((x : Lexeme) (rest : List Lexeme) → p (x ∷ rest) ≡ one (o x) x rest) →
    IsLocal Exact Sure p p
local_one {Exact} {Sure} p o none is =
    local_cons p p (subst (LocalAt Exact Sure p []) (sym none) (
      [],
      refl,
      λ exact others head.
          absurd head,
    ))
    (λ x rest. subst (LocalAt Exact Sure p (x ∷ rest)) (sym (is x rest))
    (one_at Exact Sure p o is x rest (o x) refl))

pub expect_local : {Exact Sure : Type 0} (wanted : Kind)
    → IsLocal Exact Sure (expect wanted) (expect wanted)
expect_local wanted =
    local_one (expect wanted) (λ x. place (same x.kind wanted) x) refl (λ x rest.
    go (same x.kind wanted) x rest)
  where
    place : Bool → Lexeme → Option ℕ
    place true x = Some x.at
    place false x = None

    go : (b : Bool) (x : Lexeme) (rest : List Lexeme) → taken b x rest ≡ one (place b x) x rest
    go true x rest = refl
    go false x rest = refl

pub symbol_local : {Exact Sure : Type 0} (wanted : Sym)
    → IsLocal Exact Sure (symbol wanted) (symbol wanted)
symbol_local wanted = expect_local (kind.Symbol wanted)

pub keyword_local : {Exact Sure : Type 0} (wanted : Key)
    → IsLocal Exact Sure (keyword wanted) (keyword wanted)
keyword_local wanted = expect_local (kind.Word wanted)

pub name_local : {Exact Sure : Type 0} → IsLocal Exact Sure name name
name_local = local_one name (λ x. called x.kind x) refl (λ x rest. go x.kind x rest)
  where
    called : Kind → Lexeme → Option Name
    called kind.Name x = Some (record { text = x.bytes; at = x.at })
    called _ x = None

    go : (k : Kind) (x : Lexeme) (rest : List Lexeme) → name_of_kind k x rest
        ≡ one (called k x) x rest
    go kind.Name x rest = refl
    go _ x rest = refl

pub natural_local : {Exact Sure : Type 0} → IsLocal Exact Sure natural natural
natural_local =
    local_one natural (λ x. value (opening_of x.kind)) refl (λ x rest.
    go (opening_of x.kind) x rest)
  where
    value : Option Opening → Option ℤ
    value (Some (opening.Number n)) = Some n
    value _ = None

    go : (o : Option Opening) (x : Lexeme) (rest : List Lexeme) → natural_of o (x ∷ rest)
        ≡ one (value o) x rest
    go (Some (opening.Number n)) x rest = refl
    go _ x rest = refl

pub string_local : {Exact Sure : Type 0} → IsLocal Exact Sure string_of string_of
string_local = local_one string_of (λ x. Some (in_quotes x.bytes)) refl (λ x rest. refl)

pub closing_local : {Exact Sure : Type 0} → IsLocal Exact Sure closing closing
closing_local = local_then (keyword_local key.End) (λ at. symbol_local sym.Semicolon)

-- How often two loops may turn: the second at least as often as the first, and where Exact as
-- often.
pub record Turns (Exact : Type 0) (most most' : ℕ) : Type 0 where
  pub within : most ≤ most'
  pub equal : Exact → most ≡ most'

-- a loop whose turns are local is local
pub turn : {Exact : Type 0} {m m' : ℕ} → Turns Exact (suc m) (suc m') → Turns Exact m m'
turn {Exact} {m} {m'} turns = record {
  within = omega (arith, turns.within);
  equal =
      λ exact. let e = turns.equal exact in omega arith;
}

pub no_turn : {Exact : Type 0} {m : ℕ} → Turns Exact (suc m) zero → ⊥
no_turn turns = omega (arith, turns.within)

-- with no turn left
pub out_local : {Exact Sure A : Type 0} (p : Reader A) (p' : ℕ → Reader A) {m' : ℕ}
    → Turns Exact zero m' → ((l : List Lexeme) → p l ≡ Wrong l)
    → ((l : List Lexeme) → IsWrong (p' zero l)) →
    IsLocal Exact Sure p (p' m')
out_local {Exact} {Sure} p p' {m'} turns none none' =
    record {
      at = λ l. subst (LocalAt Exact Sure (p' m') l) (sym (none l)) (
        [],
        refl,
        λ exact others head. subst (λ n. IsWrong (p' n others)) (turns.equal exact)
            (none' others),
      );
    }

loop_at : {Exact Sure X A : Type 0} (p p' : ℕ → X → Reader A)
    → ((x : X) (l : List Lexeme) → p zero x l ≡ Wrong l)
    → ((x : X) (l : List Lexeme) → IsWrong (p' zero x l)) →
    ((m m' : ℕ) → Turns Exact m m' → ((x : X) → IsLocal Exact Sure (p m x) (p' m' x)) → (x : X)
    → IsLocal Exact Sure (p (suc m) x) (p' (suc m') x)) →
    (m m' : ℕ) → Turns Exact m m' → (x : X) → IsLocal Exact Sure (p m x) (p' m' x)
loop_at p p' none none' step zero m' turns x =
    out_local (p zero x) (λ m. p' m x) turns (none x) (none' x)
loop_at p p' none none' step (suc m) zero turns x = absurd (no_turn turns)
loop_at p p' none none' step (suc m) (suc m') turns x =
    step m m' (turn turns) (loop_at p p' none none' step m m' (turn turns)) x

pub local_loop : {Exact Sure X A : Type 0} (p p' : ℕ → X → Reader A)
    → ((x : X) (l : List Lexeme) → p zero x l ≡ Wrong l)
    → ((x : X) (l : List Lexeme) → IsWrong (p' zero x l)) →
    ((m m' : ℕ) → Turns Exact m m' → ((x : X) → IsLocal Exact Sure (p m x) (p' m' x)) → (x : X)
    → IsLocal Exact Sure (p (suc m) x) (p' (suc m') x)) →
    {m m' : ℕ} → Turns Exact m m' → (x : X) → IsLocal Exact Sure (p m x) (p' m' x)
local_loop p p' none none' step {m} {m'} turns x = loop_at p p' none none' step m m' turns x

-- the same of one that carries nothing on
pub local_turns : {Exact Sure A : Type 0} (p p' : ℕ → Reader A)
    → ((l : List Lexeme) → p zero l ≡ Wrong l) → ((l : List Lexeme) → IsWrong (p' zero l)) →
    ((m m' : ℕ) → Turns Exact m m' → IsLocal Exact Sure (p m) (p' m')
    → IsLocal Exact Sure (p (suc m)) (p' (suc m'))) →
    {m m' : ℕ} → Turns Exact m m' → IsLocal Exact Sure (p m) (p' m')
local_turns p p' none none' step {m} {m'} turns =
    loop_at (λ m x. p m) (λ m x. p' m) (λ x. none) (λ x. none') (λ m m' turns before x.
    step m m' turns (before x)) m m' turns (tt {0})

pub names_local : {Exact Sure : Type 0} {m m' : ℕ} → Turns Exact m m'
    → IsLocal Exact Sure (names m) (names m')
names_local = local_turns names names (λ l. refl) (λ l. tt) (λ m m' turns before.
    local_then name_local (λ first. local_if (next_told (kind.Symbol sym.Comma))
    (local_made (λ others. first ∷ others) (local_behind before)) local_done))
