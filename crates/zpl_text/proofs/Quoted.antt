-- Strings and dittos at the front of bytes.
use Rattle.std.proofs.Common.{◌≡◌, ℕ, ◌-◌, ◌<◌, ◌≤◌, true, false, List, [], ◌∷◌, ◌++◌, length}
use Rattle.std.proofs.Common.{get_or, take, drop, codes, refl, sym, ap, subst, ◌∙◌, arith}
use Rattle.std.proofs.Common.{append_assoc, length-append, ◌⊎◌, inl, inr, ⊎_elim, nat_eq}
use Rattle.std.specs.Char.{is_ascii_digit}
use Rattle.std.specs.List.{list_all, starts_with}
use Rattle.std.proofs.lemmas.Bool.Decides.{Decides-eqb}
use Rattle.std.proofs.lemmas.Slice.Eq.{starts_is}
use Rattle.std.proofs.lemmas.Bool.{false≢true, true≢false, cases_eq, and_parts}
use Rattle.std.proofs.lemmas.List.{take_rest}
use Rattle.zpl_tokens.specs.declared.Kind.{Kind}
use Rattle.zpl_tokens.specs.declared.Kind.TheVariants.{Name, Number, Str, Ditto, Symbol, Word, End}
use Rattle.zpl_text.specs.Scanning.{BeginsEscape, BeginsPlain, IsWholeBody}
use Rattle.zpl_text.specs.declared.faults.LexFault.TheVariants.{BadByte}
use Rattle.zpl_text.specs.Bytes.{quote, backslash, is_escape, BeginsWith, FirstPasses, EndsLine}
use Rattle.zpl_text.specs.Kinds.{IsBody, nothing, plain, escape, IsToken}
use Rattle.zpl_text.specs.Cutting.{MayStand, IsCut, IsOpenString, IsBadEscape, offset_of, IsWrong}
use Rattle.zpl_text.specs.Cutting.{bad_escape}
use Rattle.zpl_text.proofs.Cuts.{heads, nil≢cons}
use Rattle.zpl_text.proofs.Shapes.{HasShape, shape_of, apart_word_quote, apart_digit_quote}
use Rattle.zpl_text.proofs.Shapes.{apart_mark_quote}

-- a body can't go on with these bytes
pub record StopsBody (bytes : List ℕ) : Type 0 where
  pub no_escape : BeginsEscape bytes → ⊥
  pub no_plain : BeginsPlain bytes → ⊥

-- bytes with a body at the front, which stops, have no other such body
pub body_unique : {body other : List ℕ} (tail rest : List ℕ) → IsBody body → IsBody other
    → StopsBody tail → StopsBody rest → body ++ tail ≡ other ++ rest → body ≡ other
body_unique tail rest nothing nothing stops ends same = refl
body_unique tail rest nothing (plain no_quote no_newline no_backslash more) stops ends same =
    absurd (stops.no_plain (subst BeginsPlain (sym same) (no_quote, no_newline, no_backslash)))
body_unique tail rest nothing (escape is more) stops ends same =
    absurd (stops.no_escape (subst BeginsEscape (sym same) (refl, is)))
body_unique tail rest (plain no_quote no_newline no_backslash more) nothing stops ends same =
    absurd (ends.no_plain (subst BeginsPlain same (no_quote, no_newline, no_backslash)))
body_unique tail rest (plain {after = body} no_quote no_newline no_backslash more)
    (plain {after = other} _ _ _ more') stops ends same =
    let tails : body ++ tail ≡ other ++ rest = cc in
    λ i. heads same i ∷ body_unique tail rest more more' stops ends tails i
body_unique tail rest (plain no_quote no_newline no_backslash more) (escape is more') stops ends
    same = absurd (no_backslash (heads same))
body_unique tail rest (escape is more) nothing stops ends same =
    absurd (ends.no_escape (subst BeginsEscape same (refl, is)))
body_unique tail rest (escape is more) (plain no_quote no_newline no_backslash more') stops ends
    same = absurd (no_backslash (sym (heads same)))
body_unique tail rest (escape {b = b} {after = body} is more)
    (escape {b = c} {after = other} _ more') stops ends same =
    let letters : b ≡ c = cc in
    let tails : body ++ tail ≡ other ++ rest = cc in
    λ i. backslash ∷ (letters i ∷ body_unique tail rest more more' stops ends tails i)

-- a quote stops a body
pub StopsBody-quote : (after : List ℕ) → StopsBody (quote ∷ after)
StopsBody-quote after = record {
  no_escape = λ is. let differ : quote ≡ backslash → ⊥ = λ same. omega arith in differ is.0;
  no_plain = λ is. is.0 refl;
}

-- a quote, a body and what stops it
pub record IsQuoted (bytes tail : List ℕ) : Type 0 where
  pub body : List ℕ
  pub split : bytes ≡ quote ∷ (body ++ tail)
  pub within : IsBody body
  pub stops : StopsBody tail

pub IsQuoted-from : (bytes tail : List ℕ) → BeginsWith (quote ∷ []) bytes
    → IsWholeBody (take (length bytes - 1) (drop 1 bytes)) tail → IsQuoted bytes tail
IsQuoted-from bytes tail (after, split) whole =
    let rest : take (length bytes - 1) (drop 1 bytes) ≡ after =
    take_rest bytes 1 ∙ ap (λ (xs : List ℕ). drop 1 xs) split in
    record {
      body = whole.body;
      split = split ∙ ap (λ (xs : List ℕ). quote ∷ xs) (sym rest ∙ whole.split);
      within = whole.within;
      stops = record { no_escape = whole.no_escape; no_plain = whole.no_plain };
    }

-- the first byte, with what is behind it
pub first_and_rest : (bytes : List ℕ) (b : ℕ) → 0 < length bytes → get_or bytes 0 0 ≡ b
    → bytes ≡ b ∷ take (length bytes - 1) (drop 1 bytes)
first_and_rest [] b some is = absurd (omega arith)
first_and_rest (c ∷ bytes) b some is = λ i. is i ∷ sym (take_rest (c ∷ bytes) 1) i

-- nothing but a string or a ditto begins with a quote
quoted_token : (bytes longer rest : List ℕ) (kind : Kind) → longer ++ rest ≡ quote ∷ bytes
    → HasShape kind longer → (longer ≡ []) ⊎ ((kind ≡ Ditto) ⊎ (kind ≡ Str))
quoted_token bytes [] rest kind same shape = inl refl
quoted_token bytes (c ∷ longer) rest Name same shape =
    absurd (apart_word_quote c shape.0 (heads same))
quoted_token bytes (c ∷ longer) rest (Word k) same shape =
    absurd (apart_word_quote c shape.0 (heads same))
quoted_token bytes (c ∷ longer) rest (Number n) same shape =
    absurd (apart_digit_quote c
    (and_parts (is_ascii_digit c) (list_all is_ascii_digit longer) shape).0 (heads same))
quoted_token bytes (c ∷ longer) rest Str same shape = inr (inr refl)
quoted_token bytes (c ∷ longer) rest Ditto same shape = inr (inl refl)
quoted_token bytes (c ∷ longer) rest (Symbol s) same shape =
    absurd (apart_mark_quote c shape.first (heads same))
quoted_token bytes (c ∷ longer) rest End same shape = absurd (nil≢cons shape)

-- bars don't begin with a quote
no_bars_quoted : (bytes after : List ℕ) → bytes ≡ quote ∷ after → BeginsWith (codes "|||") bytes → ⊥
no_bars_quoted bytes after split (rest, bars) =
    let same : quote ≡ 124 = heads (sym split ∙ bars) in
    omega arith

-- a string is no shorter than another string at the front
other_string : (body after longer rest : List ℕ) → IsBody body
    → longer ++ rest ≡ quote ∷ (body ++ quote ∷ after) → IsToken longer Str
    → length longer ≤ length (quote ∷ (body ++ quote ∷ []))
other_string body after longer rest within same (other, inside, is) =
    let whole : quote ∷ (other ++ quote ∷ rest) ≡ quote ∷ (body ++ quote ∷ after) =
    ap (λ (xs : List ℕ). quote ∷ xs) (sym (append_assoc other (quote ∷ []) rest))
    ∙ ap (λ (xs : List ℕ). xs ++ rest) (sym is) ∙ same in
    let tails : other ++ quote ∷ rest ≡ body ++ quote ∷ after = cc in
    let equal = body_unique (quote ∷ rest) (quote ∷ after) inside within (StopsBody-quote rest)
    (StopsBody-quote after) tails in
    omega (
      arith,
      ap length is,
      ap length equal,
      length-append body (quote ∷ []),
      length-append
          other (quote ∷ []),
    )

-- where no dittos stand, a string is the longest front
string_longest : (body after longer rest : List ℕ) (kind : Kind) → IsBody body
    → longer ++ rest ≡ quote ∷ (body ++ quote ∷ after) → IsToken longer kind → MayStand false kind
    → length longer ≤ length (quote ∷ (body ++ quote ∷ []))
string_longest body after longer rest kind within same token may =
    ⊎_elim (λ empty. omega (arith, ap length empty))
    (⊎_elim (λ is_ditto. absurd (false≢true (subst (MayStand false) is_ditto may)))
    (λ is_string. other_string body after longer rest within same
    (subst (IsToken longer) is_string token)))
    (quoted_token (body ++ quote ∷ after) longer rest kind same (shape_of kind longer token))

-- where dittos stand, a ditto is
ditto_longest : (after longer rest : List ℕ) (kind : Kind) → longer ++ rest ≡ quote ∷ after
    → IsToken longer kind → MayStand true kind → length longer ≤ 1
ditto_longest after longer rest kind same token may =
    ⊎_elim (λ empty. omega (arith, ap length empty))
    (⊎_elim (λ is_ditto. let is = subst (IsToken longer) is_ditto token in
    omega (arith, ap length is))
    (λ is_string. absurd (true≢false (subst (MayStand true) is_string may))))
    (quoted_token after longer rest kind same (shape_of kind longer token))

pub ditto_cut : (bytes : List ℕ) → 0 < length bytes → get_or bytes 0 0 ≡ quote
    → IsCut true bytes Ditto (take (length bytes - 1) (drop 1 bytes))
ditto_cut bytes some is =
    let after = take (length bytes - 1) (drop 1 bytes) in
    let split = first_and_rest bytes quote some is in
    record {
      front = quote ∷ [];
      split = split;
      token = refl;
      place = refl;
      longest = λ _ other k at. ditto_longest after other at.at_front.0 k
          (sym at.at_front.1 ∙ split) at.token at.place;
      first_bar = λ bars. absurd (no_bars_quoted bytes after split bars);
    }

pub string_cut : (bytes tail : List ℕ) → IsQuoted bytes tail
    → true ≡ starts_with nat_eq tail (quote ∷ [])
    → IsCut false bytes Str (take (length tail - 1) (drop 1 tail))
string_cut bytes tail quoted ends =
    let after = take (length tail - 1) (drop 1 tail) in
    let closed : tail ≡ quote ∷ after =
    (starts_is Decides-eqb tail (quote ∷ []) true ends).0 refl
    ∙ ap (λ (xs : List ℕ). quote ∷ xs) (sym (take_rest tail 1)) in
    let split = quoted.split ∙ ap (λ (xs : List ℕ). quote ∷ (quoted.body ++ xs)) closed in
    record {
      front = quote ∷ (quoted.body ++ quote ∷ []);
      split = split ∙ ap (λ (xs : List ℕ). quote ∷ xs)
          (sym (append_assoc quoted.body (quote ∷ []) after));
      token = (quoted.body, quoted.within, refl);
      place = refl;
      longest = λ _ other k at. string_longest quoted.body after other at.at_front.0 k quoted.within
          (sym at.at_front.1 ∙ split) at.token at.place;
      first_bar = λ bars. absurd (no_bars_quoted bytes (quoted.body ++ tail) quoted.split bars);
    }

pub string_open : (bytes tail : List ℕ) → IsQuoted bytes tail → EndsLine tail → IsOpenString bytes
string_open bytes tail quoted ends =
    record {
      body = quoted.body;
      rest = tail;
      split = quoted.split;
      within = quoted.within;
      ends =
          ends;
    }

-- a body that neither a quote nor the end of the line stops is stopped by a backslash
bad_tail : (tail : List ℕ) → StopsBody tail → (EndsLine tail → ⊥)
    → (BeginsWith (quote ∷ []) tail → ⊥)
    → (after : List ℕ) × (tail ≡ backslash ∷ after) × (FirstPasses is_escape after → ⊥)
bad_tail [] stops on_line unquoted = absurd (on_line tt)
bad_tail (b ∷ tail) stops on_line unquoted =
    ⊎_elim
    (λ same. (tail, ap (λ (n : ℕ). n ∷ tail) same, λ is. stops.no_escape (same, is)))
    (λ differs. absurd
    (stops.no_plain
    ((λ same. unquoted (tail, ap (λ (n : ℕ). n ∷ tail) same)), on_line, differs)))
    (cases_eq b backslash)

pub string_bad : (text bytes tail : List ℕ) → IsQuoted bytes tail
    → false ≡ starts_with nat_eq tail (quote ∷ []) → (EndsLine tail → ⊥)
    → IsWrong text false bytes (BadByte (offset_of text tail))
string_bad text bytes tail quoted unquoted on_line =
    let bad = bad_tail tail quoted.stops on_line
    (λ starts. false≢true
    ((starts_is Decides-eqb tail (quote ∷ []) false unquoted).1 starts.0 starts.1)) in
    let escape_at : IsBadEscape bytes bad.0 =
    record {
      body = quoted.body;
      split = quoted.split
          ∙ ap (λ (xs : List ℕ). quote ∷ (quoted.body ++ xs)) bad.1;
      within = quoted.within;
      unknown =
          bad.2;
    } in
    rw bad.1 (bad_escape refl escape_at)
