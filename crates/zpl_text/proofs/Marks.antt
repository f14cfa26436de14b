-- Symbols at the front of bytes.
use Rattle.std.proofs.Common.{◌≡◌, ℕ, ◌-◌, ◌<◌, ◌≤◌, Bool, true, false, not, List, [], ◌∷◌, ◌++◌}
use Rattle.std.proofs.Common.{length, get_or, take, drop, codes, refl, sym, ap, subst, ◌∙◌, arith}
use Rattle.std.proofs.Common.{◌⊎◌, inl, inr, ⊎_elim, nat_eq, Option, Some, None, MatchOption}
use Rattle.std.specs.Prelude.{◌==◌}
use Rattle.std.specs.Char.{is_ascii_digit}
use Rattle.std.specs.List.{list_all, starts_with}
use Rattle.std.proofs.lemmas.Bool.{false≢true, and_from, and_parts, not_from_false}
use Rattle.std.proofs.lemmas.Bool.{false_from_ne_true, eqb-true}
use Rattle.std.proofs.lemmas.Bool.Decides.{Decides-eqb}
use Rattle.std.proofs.lemmas.List.{take_rest, drop_at}
use Rattle.std.proofs.lemmas.Slice.Eq.{starts_is}
use Rattle.zpl_tokens.specs.declared.Kind.{Kind}
use Rattle.zpl_tokens.specs.declared.Kind.TheVariants.{Name, Number, Str, Ditto, Symbol, Word, End}
use Rattle.zpl_tokens.specs.declared.symbols.Sym.{Sym}
use Rattle.zpl_tokens.specs.declared.symbols.Sym.TheVariants.{Or}
use Rattle.zpl_tokens.specs.Sym.{symbol_text}
use Rattle.zpl_text.specs.Scanning.{AllAreSingle, IsDoubleAt}
use Rattle.zpl_text.specs.Bytes.{quote, is_word_byte, BeginsWith, FirstPasses}
use Rattle.zpl_text.specs.Kinds.{IsToken}
use Rattle.zpl_text.specs.Cutting.{IsCut, BeginsNoToken}
use Rattle.zpl_text.proofs.Cuts.{heads, nil≢cons}
use Rattle.zpl_text.proofs.Quoted.{first_and_rest}
use Rattle.zpl_text.proofs.Shapes.{HasShape, is_mark, shape_of, symbol_marked, apart_mark_word}
use Rattle.zpl_text.proofs.Shapes.{apart_mark_digit, apart_mark_quote}

-- what is no word's and no number's byte and no quote is a mark
pub marked : (bytes : List ℕ) → 0 < length bytes → (FirstPasses is_word_byte bytes → ⊥)
    → (BeginsWith (quote ∷ []) bytes → ⊥) → FirstPasses is_mark bytes
marked [] some no_word no_quote = absurd (omega arith)
marked (b ∷ bytes) some no_word no_quote =
    and_from (not (is_word_byte b)) (not (b == quote))
    (not_from_false (is_word_byte b) (false_from_ne_true (is_word_byte b) no_word))
    (not_from_false (b == quote)
    (false_from_ne_true (b == quote)
    (λ same. no_quote (bytes, ap (λ (n : ℕ). n ∷ bytes) (eqb-true b quote same)))))

-- of tokens, only symbols begin with a mark
mark_token : (front : List ℕ) (kind : Kind) → FirstPasses is_mark front → IsToken front kind
    → (s : Sym) × (front ≡ symbol_text s)
mark_token [] kind mark token = elim mark [ ]
mark_token (b ∷ front) Name mark token = absurd (apart_mark_word b mark token.0.0)
mark_token (b ∷ front) (Word k) mark token =
    let shape : HasShape (Word k) (b ∷ front) = shape_of (Word k) (b ∷ front) token in
    absurd (apart_mark_word b mark shape.0)
mark_token (b ∷ front) (Number n) mark token =
    absurd (apart_mark_digit b mark
    (and_parts (is_ascii_digit b) (list_all is_ascii_digit front) token.0).0)
mark_token (b ∷ front) Str mark token = absurd (apart_mark_quote b mark (heads token.2))
mark_token (b ∷ front) Ditto mark token = absurd (apart_mark_quote b mark (heads token))
mark_token (b ∷ front) (Symbol s) mark token = (s, token)
mark_token (b ∷ front) End mark token = absurd (nil≢cons token)

-- so a front is empty or a symbol
pub mark_front : (bytes front : List ℕ) (kind : Kind) → FirstPasses is_mark bytes
    → BeginsWith front bytes → IsToken front kind
    → (front ≡ []) ⊎ ((s : Sym) × (front ≡ symbol_text s))
mark_front bytes [] kind mark at_front token = inl refl
mark_front bytes (b ∷ front) kind mark at_front token =
    inr (mark_token (b ∷ front) kind (subst (FirstPasses is_mark) at_front.1 mark) token)

-- two bytes at the front are a symbol or none
pub double_from_pair : (bytes : List ℕ) (s : Sym) → 2 ≤ length bytes
    → (BeginsWith (codes "|||") bytes → ⊥)
    → symbol_text s ≡ get_or bytes 0 0 ∷ get_or bytes 1 0 ∷ [] → IsDoubleAt bytes s
double_from_pair [] s two no_bars is = absurd (omega arith)
double_from_pair (b ∷ []) s two no_bars is = absurd (omega arith)
double_from_pair (b ∷ c ∷ bytes) s two no_bars is = record {
  no_bars = no_bars;
  at_front = (bytes, ap (λ (xs : List ℕ). xs ++ bytes) (sym is));
  two = ap length is;
}

-- a symbol has at most two bytes, and so is its first byte, or its first two
single_or_pair : (bytes text : List ℕ) → BeginsWith text bytes → length text ≤ 2
    → (length text ≤ 1) ⊎ ((2 ≤ length bytes) × (text ≡ get_or bytes 0 0 ∷ get_or bytes 1 0 ∷ []))
single_or_pair bytes [] (after, same) short = inl (omega arith)
single_or_pair bytes (b ∷ []) (after, same) short = inl (omega arith)
single_or_pair bytes (b ∷ c ∷ []) (after, same) short =
    inr (
      omega (arith, ap length same),
      ap (λ (xs : List ℕ). get_or xs 0 0 ∷ get_or xs 1 0 ∷ [])
          (sym same),
    )
single_or_pair bytes (b ∷ c ∷ d ∷ text) (after, same) short = absurd (omega arith)

pub single_from_pairs : (bytes : List ℕ)
    → ((s : Sym) → symbol_text s ≡ get_or bytes 0 0 ∷ get_or bytes 1 0 ∷ [] → ⊥)
    → AllAreSingle bytes
single_from_pairs bytes none = λ _ s at_front.
    ⊎_elim (λ single. single) (λ pair. absurd (none s pair.1))
    (single_or_pair bytes (symbol_text s) at_front (symbol_marked s).short)

pub single_from_short : (bytes : List ℕ) → length bytes < 2 → AllAreSingle bytes
single_from_short bytes short = λ _ s at_front.
    ⊎_elim (λ single. single) (λ pair. absurd (omega (arith, pair.0)))
    (single_or_pair bytes (symbol_text s) at_front (symbol_marked s).short)

-- a symbol of two bytes is the longest front
pub double_cut : (ditto : Bool) (bytes : List ℕ) (s : Sym) → FirstPasses is_mark bytes
    → IsDoubleAt bytes s → IsCut ditto bytes (Symbol s) (take (length bytes - 2) (drop 2 bytes))
double_cut ditto bytes s mark double =
    let after = double.at_front.0 in
    let rest : take (length bytes - 2) (drop 2 bytes) ≡ after =
    take_rest bytes 2 ∙ ap (λ (xs : List ℕ). drop 2 xs) double.at_front.1
    ∙ drop_at (symbol_text s) after 2 double.two in
    record {
      front = symbol_text s;
      split = double.at_front.1 ∙ ap (λ (xs : List ℕ). symbol_text s ++ xs) (sym rest);
      token = refl;
      place = tt;
      longest = λ _ other k at.
          ⊎_elim (λ empty. omega (arith, ap length empty))
          (λ symbol. omega (arith, ap length symbol.1, (symbol_marked symbol.0).short, double.two))
          (mark_front bytes other k mark at.at_front at.token);
      first_bar = λ bars. absurd (double.no_bars bars);
    }

-- a symbol of one byte is where none of two is
pub single_cut : (ditto : Bool) (bytes : List ℕ) (s : Sym) → FirstPasses is_mark bytes
    → 0 < length bytes → AllAreSingle bytes → symbol_text s ≡ get_or bytes 0 0 ∷ []
    → IsCut ditto bytes (Symbol s) (take (length bytes - 1) (drop 1 bytes))
single_cut ditto bytes s mark some single is = record {
  front = get_or bytes 0 0 ∷ [];
  split = first_and_rest bytes (get_or bytes 0 0) some refl;
  token = sym is;
  place = tt;
  longest = λ no_bars other k at.
      ⊎_elim (λ empty. omega (arith, ap length empty))
      (λ symbol. omega (
        arith,
        ap length symbol.1,
        single no_bars symbol.0
            (subst (λ (xs : List ℕ). BeginsWith xs bytes) symbol.1 at.at_front),
      ))
      (mark_front bytes other k mark at.at_front at.token);
  first_bar = λ bars. ap (λ (xs : List ℕ). get_or xs 0 0 ∷ []) bars.1;
}

-- a text of one byte is the first
single_is : (bytes text : List ℕ) → BeginsWith text bytes → FirstPasses is_mark text
    → length text ≤ 1 → text ≡ get_or bytes 0 0 ∷ []
single_is bytes [] (after, same) mark short = elim mark [ ]
single_is bytes (b ∷ []) (after, same) mark short =
    ap (λ (xs : List ℕ). get_or xs 0 0 ∷ []) (sym same)
single_is bytes (b ∷ c ∷ text) (after, same) mark short = absurd (omega arith)

-- where no symbol stands, no token does
pub no_symbol : (bytes : List ℕ) → FirstPasses is_mark bytes → 0 < length bytes → AllAreSingle bytes
    → ((s : Sym) → symbol_text s ≡ get_or bytes 0 0 ∷ [] → ⊥) → BeginsNoToken bytes
no_symbol bytes mark some single none = record {
  some = some;
  none = λ front kind at_front token.
      let no_bars = λ (bars : BeginsWith (codes "|||") bytes). none Or
      (ap (λ (xs : List ℕ). get_or xs 0 0 ∷ []) (sym bars.1)) in
      ⊎_elim (λ empty. empty)
      (λ symbol.
      let symbol_at = subst (λ (xs : List ℕ). BeginsWith xs bytes) symbol.1 at_front in
      absurd (none symbol.0
      (single_is bytes (symbol_text symbol.0) symbol_at (symbol_marked symbol.0).first
      (single no_bars symbol.0 symbol_at))))
      (mark_front bytes front kind mark at_front token);
}

-- what a look-up of the first two bytes tells
pub double_from : (bytes : List ℕ) (found : Option Sym) → 2 ≤ length bytes
    → false ≡ starts_with nat_eq bytes (codes "|||")
    → MatchOption found ((s : Sym) → symbol_text s ≡ get_or bytes 0 0 ∷ get_or bytes 1 0 ∷ [] → ⊥)
    (λ s. symbol_text s ≡ get_or bytes 0 0 ∷ get_or bytes 1 0 ∷ [])
    → MatchOption found (AllAreSingle bytes) (IsDoubleAt bytes)
double_from bytes None two test none = single_from_pairs bytes none
double_from bytes (Some s) two test is =
    double_from_pair bytes s two
    (λ bars. false≢true
    ((starts_is Decides-eqb bytes (codes "|||") false test).1 bars.0 bars.1)) is

-- where three bars stand, nothing is said of symbols of two bytes
pub single_from_bars : (bytes : List ℕ) → true ≡ starts_with nat_eq bytes (codes "|||")
    → AllAreSingle bytes
single_from_bars bytes test =
    λ no_bars. absurd
    (no_bars (drop 3 bytes, (starts_is Decides-eqb bytes (codes "|||") true test).0 refl))
