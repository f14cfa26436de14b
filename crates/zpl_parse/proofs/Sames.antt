-- Kinds that are the same are equal, where they have no value of their own.
use Rattle.std.proofs.Common.{◌≡◌, ℕ, Bool, true, false, List, [], ◌∷◌, ◌↔◌, IsTrue, get_or, refl, sym, ap, subst, ◌∙◌}
use Rattle.std.proofs.lemmas.Bool.{eqb-true, eq-eqb, false≢true}
use Rattle.zpl_tokens.specs.declared.Kind.{Kind}
use Rattle.zpl_tokens.specs.declared.Kind.TheVariants.{Name, Number, Str, Ditto, Symbol, Word, End}
use Rattle.zpl_tokens.specs.declared.keywords.Key.{Key}
use Rattle.zpl_tokens.specs.declared.keywords.Key.TheVariants as key
use Rattle.zpl_tokens.specs.declared.symbols.Sym.{Sym}
use Rattle.zpl_tokens.specs.declared.symbols.Sym.TheVariants as sym
use Rattle.zpl_grammar.specs.Same.{same, symbol_number, key_number}
use Rattle.zpl_text.specs.declared.tokens.Token.{Token}
use Rattle.zpl_parse.specs.Following.{HasNoValue, BeginsWith}
use Rattle.zpl_grammar.specs.Lexeme.{lexemes_of}
use Rattle.zpl_parse.specs.Tokens.{next_is}

abbrev symbols : List Sym
symbols = sym.Assign ∷ sym.AddAssign ∷ sym.SubAssign ∷ sym.MulAssign ∷ sym.DivAssign ∷
    sym.RemAssign ∷ sym.AndAssign ∷ sym.OrAssign ∷ sym.DotDot ∷ sym.Reduce ∷ sym.Flood ∷ sym.Scan ∷
    sym.LessEqual ∷ sym.GreaterEqual ∷ sym.NotEqual ∷ sym.Equal ∷ sym.Less ∷ sym.Greater ∷
    sym.Plus ∷ sym.Minus ∷ sym.Star ∷ sym.Slash ∷ sym.Percent ∷ sym.And ∷ sym.Or ∷ sym.Not ∷
    sym.OpenParen ∷ sym.CloseParen ∷ sym.OpenBracket ∷ sym.CloseBracket ∷ sym.Comma ∷
    sym.Semicolon ∷ sym.Colon ∷ sym.At ∷ sym.Hash ∷ sym.Caret ∷ []

abbrev keys : List Key
keys = key.Program ∷ key.Config ∷ key.Var ∷ key.Constant ∷ key.Region ∷ key.Direction ∷
    key.Procedure ∷ key.Begin ∷ key.End ∷ key.If ∷ key.Then ∷ key.Elsif ∷ key.Else ∷ key.While ∷
    key.Do ∷ key.Repeat ∷ key.Until ∷ key.For ∷ key.To ∷ key.Downto ∷ key.By ∷ key.Of ∷ key.In ∷
    key.At ∷ key.With ∷ key.Without ∷ key.Wrap ∷ key.Reflect ∷ key.Return ∷ key.Integer ∷
    key.Boolean ∷ key.True ∷ key.False ∷ key.Max ∷ key.Min ∷ key.Abs ∷ key.Write ∷ key.Writeln ∷
    key.Index1 ∷ key.Index2 ∷ key.Index3 ∷ []

abbrev symbol_at : ℕ → Sym
symbol_at n = get_or symbols n sym.Assign

abbrev key_at : ℕ → Key
key_at n = get_or keys n key.Program

symbol_at-symbol_number : (s : Sym) → symbol_at (symbol_number s) ≡ s
symbol_at-symbol_number s = elim s as (λ s. symbol_at (symbol_number s) ≡ s) [
  | sym.Assign ↦
      refl
  | sym.AddAssign ↦ refl
  | sym.SubAssign ↦ refl
  | sym.MulAssign ↦ refl
  | sym.DivAssign ↦
      refl
  | sym.RemAssign ↦ refl
  | sym.AndAssign ↦ refl
  | sym.OrAssign ↦ refl
  | sym.DotDot ↦
      refl
  | sym.Reduce ↦ refl
  | sym.Flood ↦ refl
  | sym.Scan ↦ refl
  | sym.LessEqual ↦
      refl
  | sym.GreaterEqual ↦ refl
  | sym.NotEqual ↦ refl
  | sym.Equal ↦ refl
  | sym.Less ↦
      refl
  | sym.Greater ↦ refl
  | sym.Plus ↦ refl
  | sym.Minus ↦ refl
  | sym.Star ↦ refl
  | sym.Slash ↦
      refl
  | sym.Percent ↦ refl
  | sym.And ↦ refl
  | sym.Or ↦ refl
  | sym.Not ↦ refl
  | sym.OpenParen ↦
      refl
  | sym.CloseParen ↦ refl
  | sym.OpenBracket ↦ refl
  | sym.CloseBracket ↦ refl
  | sym.Comma ↦
      refl
  | sym.Semicolon ↦ refl
  | sym.Colon ↦ refl
  | sym.At ↦ refl
  | sym.Hash ↦ refl
  | sym.Caret ↦
      refl
]

key_at-key_number : (k : Key) → key_at (key_number k) ≡ k
key_at-key_number k = elim k as (λ k. key_at (key_number k) ≡ k) [
  | key.Program ↦ refl
  | key.Config ↦
      refl
  | key.Var ↦ refl
  | key.Constant ↦ refl
  | key.Region ↦ refl
  | key.Direction ↦
      refl
  | key.Procedure ↦ refl
  | key.Begin ↦ refl
  | key.End ↦ refl
  | key.If ↦ refl
  | key.Then ↦
      refl
  | key.Elsif ↦ refl
  | key.Else ↦ refl
  | key.While ↦ refl
  | key.Do ↦ refl
  | key.Repeat ↦
      refl
  | key.Until ↦ refl
  | key.For ↦ refl
  | key.To ↦ refl
  | key.Downto ↦ refl
  | key.By ↦
      refl
  | key.Of ↦ refl
  | key.In ↦ refl
  | key.At ↦ refl
  | key.With ↦ refl
  | key.Without ↦
      refl
  | key.Wrap ↦ refl
  | key.Reflect ↦ refl
  | key.Return ↦ refl
  | key.Integer ↦
      refl
  | key.Boolean ↦ refl
  | key.True ↦ refl
  | key.False ↦ refl
  | key.Max ↦ refl
  | key.Min ↦
      refl
  | key.Abs ↦ refl
  | key.Write ↦ refl
  | key.Writeln ↦ refl
  | key.Index1 ↦ refl
  | key.Index2 ↦
      refl
  | key.Index3 ↦ refl
]

pub symbol_injective : (a b : Sym) → symbol_number a ≡ symbol_number b → a ≡ b
symbol_injective a b e = sym (symbol_at-symbol_number a) ∙ ap symbol_at e
    ∙ symbol_at-symbol_number b

pub key_injective : (a b : Key) → key_number a ≡ key_number b → a ≡ b
key_injective a b e = sym (key_at-key_number a) ∙ ap key_at e ∙ key_at-key_number b

pub same_self : (a : Kind) → same a a ≡ true
same_self Name = refl
same_self (Number a) = refl
same_self Str = refl
same_self Ditto = refl
same_self (Symbol a) = eq-eqb (symbol_number a) (symbol_number a) refl
same_self (Word a) = eq-eqb (key_number a) (key_number a) refl
same_self End = refl

pub same_is : (a b : Kind) → HasNoValue b → same a b ≡ true → a ≡ b
same_is Name Name n e = refl
same_is (Number a) (Number b) n e = absurd n
same_is Str Str n e = refl
same_is Ditto Ditto n e = refl
same_is (Symbol a) (Symbol b) n e =
    ap Symbol (symbol_injective a b (eqb-true (symbol_number a) (symbol_number b) e))
same_is (Word a) (Word b) n e =
    ap Word (key_injective a b (eqb-true (key_number a) (key_number b) e))
same_is End End n e = refl
same_is a b n e = absurd (false≢true e)

-- a test that says whether two kinds are equal is that of whether they are the same
pub tests_same : (r : Bool) (a b : Kind) → HasNoValue b → (IsTrue r ↔ (a ≡ b)) → r ≡ same a b
tests_same r a b n tells =
    tests_by r (same a b) (λ e. subst (λ k. same a k ≡ true) (tells.0 e) (same_self a)) (λ e.
    tells.1 (same_is a b n e))
  where
    tests_by : (r s : Bool) → (IsTrue r → s ≡ true) → (s ≡ true → IsTrue r) → r ≡ s
    tests_by true s to from = sym (to refl)
    tests_by false true to from = absurd (false≢true (from refl))
    tests_by false false to from = refl

pub begins_same : (r : Bool) (wanted : Kind) (text : List ℕ) (tokens : List Token)
    → HasNoValue wanted → (IsTrue r ↔ BeginsWith wanted tokens)
    → r ≡ next_is wanted (lexemes_of text tokens)
begins_same true wanted text [] n tells = absurd (tells.0 refl)
begins_same false wanted text [] n tells = refl
begins_same r wanted text (first ∷ rest) n tells = tests_same r first.kind wanted n tells
