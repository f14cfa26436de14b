-- No two keywords and no two symbols are written alike, and each text is looked up.
use Rattle.std.proofs.Common.{◌≡◌, ℕ, Bool, true, List, [], ◌∷◌, Option, Some, None, refl, sym, ap}
use Rattle.std.proofs.Common.{◌∙◌}
use Rattle.std.proofs.Common.{subst, ⊎_elim}
use Rattle.std.specs.List.{find}
use Rattle.std.specs.Str.{bytes_eq}
use Rattle.std.proofs.lemmas.Bool.{cases_Bool, cond-true, cond-false}
use Rattle.std.proofs.lemmas.Option.{none-some, same_Some}
use Rattle.std.proofs.lemmas.Slice.Eq.{bytes_eq-Decides}
use Rattle.zpl_tokens.specs.declared.keywords.Key.{Key}
use Rattle.zpl_tokens.specs.declared.keywords.Key.TheVariants.{Program, Config, Var, Constant}
use Rattle.zpl_tokens.specs.declared.keywords.Key.TheVariants.{Region, Direction, Procedure, Begin}
use Rattle.zpl_tokens.specs.declared.keywords.Key.TheVariants.{End, If, Then, Elsif, Else, While}
use Rattle.zpl_tokens.specs.declared.keywords.Key.TheVariants.{Do, Repeat, Until, For, To, Downto}
use Rattle.zpl_tokens.specs.declared.keywords.Key.TheVariants.{By, Of, In, At, With, Without, Wrap}
use Rattle.zpl_tokens.specs.declared.keywords.Key.TheVariants.{Reflect, Return, Integer, Boolean}
use Rattle.zpl_tokens.specs.declared.keywords.Key.TheVariants.{True, False, Max, Min, Abs, Write}
use Rattle.zpl_tokens.specs.declared.keywords.Key.TheVariants.{Writeln, Index1, Index2, Index3}
use Rattle.zpl_tokens.specs.declared.symbols.Sym.{Sym}
use Rattle.zpl_tokens.specs.declared.symbols.Sym.TheVariants as symbols
use Rattle.zpl_tokens.specs.Key.{keyword_text}
use Rattle.zpl_tokens.specs.Sym.{symbol_text}

abbrev all_keywords : List Key
all_keywords =
    Program ∷ Config ∷ Var ∷ Constant ∷ Region ∷ Direction ∷ Procedure ∷ Begin ∷ End ∷ If ∷ Then ∷
    Elsif ∷ Else ∷ While ∷ Do ∷ Repeat ∷ Until ∷ For ∷ To ∷ Downto ∷ By ∷ Of ∷ In ∷ At ∷ With ∷
    Without ∷ Wrap ∷ Reflect ∷ Return ∷ Integer ∷ Boolean ∷ True ∷ False ∷ Max ∷ Min ∷ Abs ∷ Write ∷
    Writeln ∷ Index1 ∷ Index2 ∷ Index3 ∷ []

-- the keyword of a text, looked up in a list of all
abbrev pub keyword_of : List ℕ → Option Key
keyword_of text = find (λ k. bytes_eq (keyword_text k) text) all_keywords

keyword_of-text : (k : Key) → keyword_of (keyword_text k) ≡ Some k
keyword_of-text Program = refl
keyword_of-text _ = refl

pub keyword_text_injective : (a b : Key) → keyword_text a ≡ keyword_text b → a ≡ b
keyword_text_injective a b same =
    same_Some a b (sym (keyword_of-text a) ∙ ap keyword_of same ∙ keyword_of-text b)

abbrev all_symbols : List Sym
all_symbols =
    symbols.Assign ∷ symbols.AddAssign ∷ symbols.SubAssign ∷ symbols.MulAssign ∷
    symbols.DivAssign ∷ symbols.RemAssign ∷ symbols.AndAssign ∷ symbols.OrAssign ∷ symbols.DotDot ∷
    symbols.Reduce ∷ symbols.Flood ∷ symbols.Scan ∷ symbols.LessEqual ∷ symbols.GreaterEqual ∷
    symbols.NotEqual ∷ symbols.Equal ∷ symbols.Less ∷ symbols.Greater ∷ symbols.Plus ∷
    symbols.Minus ∷ symbols.Star ∷ symbols.Slash ∷ symbols.Percent ∷ symbols.And ∷ symbols.Or ∷
    symbols.Not ∷ symbols.OpenParen ∷ symbols.CloseParen ∷ symbols.OpenBracket ∷
    symbols.CloseBracket ∷ symbols.Comma ∷ symbols.Semicolon ∷ symbols.Colon ∷ symbols.At ∷
    symbols.Hash ∷ symbols.Caret ∷ []

-- the symbol of a text, likewise
abbrev pub symbol_of : List ℕ → Option Sym
symbol_of text = find (λ s. bytes_eq (symbol_text s) text) all_symbols

symbol_of-text : (s : Sym) → symbol_of (symbol_text s) ≡ Some s
symbol_of-text symbols.Assign = refl
symbol_of-text _ = refl

pub symbol_text_injective : (a b : Sym) → symbol_text a ≡ symbol_text b → a ≡ b
symbol_text_injective a b same =
    same_Some a b (sym (symbol_of-text a) ∙ ap symbol_of same ∙ symbol_of-text b)

-- no symbol has a text that the look-up doesn't find
pub symbol_absent : (text : List ℕ) → symbol_of text ≡ None → (s : Sym) → symbol_text s ≡ text → ⊥
symbol_absent text none s same = none-some s (sym none ∙ ap symbol_of (sym same) ∙ symbol_of-text s)

pub keyword_absent : (text : List ℕ) → keyword_of text ≡ None → (k : Key) → text ≡ keyword_text k
    → ⊥
keyword_absent text none k same = none-some k (sym none ∙ ap keyword_of same ∙ keyword_of-text k)

-- what a look-up finds is written so
find_passes : {X : Type 0} (test : X → Bool) (xs : List X) (y : X) → find test xs ≡ Some y
    → test y ≡ true
find_passes test [] y is = absurd (none-some y is)
find_passes test (x ∷ xs) y is =
    ⊎_elim
    (λ yes. subst (λ z. test z ≡ true)
    (same_Some x y (sym (cond-true (test x) (Some x) (find test xs) yes) ∙ is)) yes)
    (λ no. find_passes test xs y (sym (cond-false (test x) (Some x) (find test xs) no) ∙ is))
    (cases_Bool (test x))

pub keyword_found : (text : List ℕ) (k : Key) → keyword_of text ≡ Some k → text ≡ keyword_text k
keyword_found text k is =
    sym ((bytes_eq-Decides (keyword_text k) text).0
    (find_passes (λ key. bytes_eq (keyword_text key) text) all_keywords k is))

pub symbol_found : (text : List ℕ) (s : Sym) → symbol_of text ≡ Some s → symbol_text s ≡ text
symbol_found text s is =
    (bytes_eq-Decides (symbol_text s) text).0
    (find_passes (λ sign. bytes_eq (symbol_text sign) text) all_symbols s is)
