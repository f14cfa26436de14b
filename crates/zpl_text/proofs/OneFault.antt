-- At a place there is one fault at most, and none where a token is cut off.
use Rattle.std.proofs.Common.{◌≡◌, ℕ, ℤ, Bool, true, false, List, [], ◌∷◌, ◌++◌, length, codes}
use Rattle.std.proofs.Common.{refl, sym, ap, subst, ◌∙◌, arith, append_assoc}
use Rattle.std.specs.List.{list_all}
use Rattle.std.specs.Char.{is_ascii_digit}
use Rattle.std.proofs.lemmas.Bool.{false≢true, both_ways, and_parts}
use Rattle.std.proofs.lemmas.Bool.Decides.{nat_tests}
use Rattle.std.proofs.lemmas.Int.{ints}
use Rattle.std.proofs.lemmas.List.{append_cancel_left}
use Rattle.zpl_tokens.specs.declared.Kind.{Kind}
use Rattle.zpl_tokens.specs.declared.Kind.TheVariants.{Number, Str, Ditto}
use Rattle.zpl_text.specs.declared.faults.LexFault.{LexFault}
use Rattle.zpl_text.specs.declared.faults.LexFault.TheVariants.{BadByte}
use Rattle.zpl_text.specs.Bytes.{quote, newline, backslash, is_white, is_escape, FirstPasses}
use Rattle.zpl_text.specs.Bytes.{StandsIn, EndsLine}
use Rattle.zpl_text.specs.Kinds.{IsToken}
use Rattle.zpl_text.specs.Gaps.{IsOpenComment, IsPastGap}
use Rattle.zpl_text.specs.Cutting.{MayStand, IsCut, IsSound, IsFloatTail, BeginsNoToken}
use Rattle.zpl_text.specs.Cutting.{IsOpenString, IsBadEscape, offset_of, IsWrong, no_token}
use Rattle.zpl_text.specs.Cutting.{bad_escape, open_comment, open_string, too_large, float_text}
use Rattle.zpl_text.proofs.Cuts.{heads, nil≢cons}
use Rattle.zpl_text.proofs.OneGap.{IsStop, IsStop-past_gap}
use Rattle.zpl_text.proofs.OneStep.{class_of, byte_class, cut_kind, cut_after, cut_shape, cut_class}
use Rattle.zpl_text.proofs.OneStep.{cut_front_some, cut_some}
use Rattle.zpl_text.proofs.Quoted.{StopsBody, StopsBody-quote, body_unique, IsQuoted}

-- where no token begins, none is cut off, and no string begins
none_no_cut : (ditto : Bool) (bytes : List ℕ) (kind : Kind) (after : List ℕ) → BeginsNoToken bytes
    → IsCut ditto bytes kind after → ⊥
none_no_cut ditto bytes kind after none cut =
    cut_front_some ditto bytes kind after cut
    (none.none cut.front kind (after, cut.split) cut.token)

none_no_quote : (bytes after : List ℕ) → BeginsNoToken bytes → bytes ≡ quote ∷ after → ⊥
none_no_quote bytes after none starts = nil≢cons (none.none (quote ∷ []) Ditto (after, starts) refl)

-- what stands behind a body in a string
quoted_unique : (bytes tail rest : List ℕ) → IsQuoted bytes tail → IsQuoted bytes rest → tail ≡ rest
quoted_unique bytes tail rest one other =
    let whole : quote ∷ (one.body ++ tail) ≡ quote ∷ (other.body ++ rest) =
    sym one.split ∙ other.split in
    let same : one.body ++ tail ≡ other.body ++ rest = cc in
    let bodies = body_unique tail rest one.within other.within one.stops other.stops same in
    append_cancel_left one.body tail rest (same ∙ ap (λ (xs : List ℕ). xs ++ rest) (sym bodies))

StopsBody-bad : (after : List ℕ) → (FirstPasses is_escape after → ⊥) → StopsBody (backslash ∷ after)
StopsBody-bad after unknown = record { no_escape = λ is. unknown is.1; no_plain = λ is. is.2 refl }

StopsBody-end : (rest : List ℕ) → EndsLine rest → StopsBody rest
StopsBody-end [] ends = record { no_escape = λ is. is; no_plain = λ is. is }
StopsBody-end (b ∷ rest) ends = record {
  no_escape = λ is. let differ : newline ≡ backslash = sym ends ∙ is.0 in absurd (omega arith);
  no_plain = λ is. is.1 ends;
}

quoted_bad : (bytes after : List ℕ) → IsBadEscape bytes after → IsQuoted bytes (backslash ∷ after)
quoted_bad bytes after bad =
    record {
      body = bad.body;
      split = bad.split;
      within = bad.within;
      stops =
          StopsBody-bad after bad.unknown;
    }

quoted_open : (bytes : List ℕ) (string : IsOpenString bytes) → IsQuoted bytes string.rest
quoted_open bytes string =
    record {
      body = string.body;
      split = string.split;
      within = string.within;
      stops =
          StopsBody-end string.rest string.ends;
    }

-- a string that is cut off is closed by a quote
quoted_cut : (bytes after rest : List ℕ) (kind : Kind) → class_of kind ≡ 3 → (front : List ℕ)
    → bytes ≡ front ++ after → IsToken front kind → MayStand false kind
    → IsQuoted bytes (quote ∷ after)
quoted_cut bytes after rest Str is front split token may = record {
  body = token.0;
  split = split ∙ ap (λ (xs : List ℕ). xs ++ after) token.2
      ∙ ap (λ (xs : List ℕ). quote ∷ xs) (append_assoc token.0 (quote ∷ []) after);
  within = token.1;
  stops = StopsBody-quote after;
}
quoted_cut bytes after rest Ditto is front split token may = absurd (false≢true may)
quoted_cut bytes after rest _ is front split token may = absurd (omega (arith, is))

cut_quoted : (ditto : Bool) (bytes after rest : List ℕ) (kind : Kind) → ditto ≡ false
    → bytes ≡ quote ∷ rest → IsCut ditto bytes kind after → IsQuoted bytes (quote ∷ after)
cut_quoted ditto bytes after rest kind strings starts cut =
    quoted_cut bytes after rest kind (cut_class ditto bytes kind after quote rest cut starts)
    cut.front cut.split cut.token (subst (λ (b : Bool). MayStand b kind) strings cut.place)

-- what ends a string's body in three ways is no two of them
quote_no_bad : (after rest : List ℕ) → quote ∷ after ≡ backslash ∷ rest → ⊥
quote_no_bad after rest same = let differ = heads same in omega arith

ends_no : (b : ℕ) (after rest : List ℕ) → EndsLine rest → rest ≡ b ∷ after → b ≡ newline
ends_no b after rest ends same = subst EndsLine same ends

-- a number doesn't begin with these
number_no : (ditto : Bool) (bytes : List ℕ) (n : ℤ) (after : List ℕ) (b : ℕ) (rest : List ℕ)
    → IsCut ditto bytes (Number n) after → bytes ≡ b ∷ rest → 2 ≡ byte_class b
number_no ditto bytes n after b rest cut starts =
    cut_class ditto bytes (Number n) after b rest cut starts

-- two numbers at a place are one
number_same : (ditto : Bool) (bytes : List ℕ) (n m : ℤ) (after rest : List ℕ)
    → IsCut ditto bytes (Number n) after → IsCut ditto bytes (Number m) rest → after ≡ rest
number_same ditto bytes n m after rest one other =
    cut_after ditto bytes (Number n) (Number m) after rest one other

-- of two faults at a place, the second is the first
module _ {text : List ℕ} {ditto : Bool} {rest : List ℕ} where
  pub wrong_unique : {fault other : LexFault} → IsWrong text ditto rest fault
      → IsWrong text ditto rest other → fault ≡ other
  wrong_unique (no_token past none) (no_token past' none') = refl
  wrong_unique (no_token past none) (bad_escape {after = after} strings bad) =
      absurd (none_no_quote rest (bad.body ++ backslash ∷ after) none bad.split)
  wrong_unique (no_token past none) (open_comment comment) =
      absurd (past.no_block (comment.body, comment.split))
  wrong_unique (no_token past none) (open_string strings string) =
      absurd (none_no_quote rest (string.body ++ string.rest) none string.split)
  wrong_unique (no_token past none) (too_large {n = n} {after = after} cut sound over) =
      absurd (none_no_cut ditto rest (Number n) after none cut)
  wrong_unique (no_token past none) (float_text {n = n} {after = after} cut floats) =
      absurd (none_no_cut ditto rest (Number n) after none cut)
  wrong_unique (bad_escape {after = after} strings bad) (no_token past none) =
      absurd (none_no_quote rest (bad.body ++ backslash ∷ after) none bad.split)
  wrong_unique (bad_escape {after = after} strings bad) (bad_escape {after = other} strings' bad') =
      ap (λ (xs : List ℕ). BadByte (offset_of text xs))
      (quoted_unique rest (backslash ∷ after) (backslash ∷ other) (quoted_bad rest after bad)
      (quoted_bad rest other bad'))
  wrong_unique (bad_escape strings bad) (open_comment comment) =
      absurd (omega (arith, heads (sym bad.split ∙ comment.split)))
  wrong_unique (bad_escape {after = after} strings bad) (open_string strings' string) =
      absurd (omega (
        arith,
        ends_no backslash after string.rest string.ends
            (quoted_unique rest string.rest (backslash ∷ after) (quoted_open rest string)
            (quoted_bad rest after bad)),
      ))
  wrong_unique (bad_escape {after = tail} strings bad)
      (too_large {n = n} {after = after} cut sound over) =
      absurd (omega
      (arith, number_no ditto rest n after quote (bad.body ++ backslash ∷ tail) cut bad.split))
  wrong_unique (bad_escape {after = tail} strings bad)
      (float_text {n = n} {after = after} cut floats) =
      absurd (omega
      (arith, number_no ditto rest n after quote (bad.body ++ backslash ∷ tail) cut bad.split))
  wrong_unique (open_comment comment) (no_token past none) =
      absurd (past.no_block (comment.body, comment.split))
  wrong_unique (open_comment comment) (bad_escape strings bad) =
      absurd (omega (arith, heads (sym bad.split ∙ comment.split)))
  wrong_unique (open_comment comment) (open_comment comment') = refl
  wrong_unique (open_comment comment) (open_string strings string) =
      absurd (omega (arith, heads (sym string.split ∙ comment.split)))
  wrong_unique (open_comment comment) (too_large {n = n} {after = after} cut sound over) =
      absurd (omega (arith, number_no ditto rest n after 47 (42 ∷ comment.body) cut comment.split))
  wrong_unique (open_comment comment) (float_text {n = n} {after = after} cut floats) =
      absurd (omega (arith, number_no ditto rest n after 47 (42 ∷ comment.body) cut comment.split))
  wrong_unique (open_string strings string) (no_token past none) =
      absurd (none_no_quote rest (string.body ++ string.rest) none string.split)
  wrong_unique (open_string strings string) (bad_escape {after = after} strings' bad) =
      absurd (omega (
        arith,
        ends_no backslash after string.rest string.ends
            (quoted_unique rest string.rest (backslash ∷ after) (quoted_open rest string)
            (quoted_bad rest after bad)),
      ))
  wrong_unique (open_string strings string) (open_comment comment) =
      absurd (omega (arith, heads (sym string.split ∙ comment.split)))
  wrong_unique (open_string strings string) (open_string strings' string') = refl
  wrong_unique (open_string strings string) (too_large {n = n} {after = after} cut sound over) =
      absurd (omega
      (arith, number_no ditto rest n after quote (string.body ++ string.rest) cut string.split))
  wrong_unique (open_string strings string) (float_text {n = n} {after = after} cut floats) =
      absurd (omega
      (arith, number_no ditto rest n after quote (string.body ++ string.rest) cut string.split))
  wrong_unique (too_large {n = n} {after = after} cut sound over) (no_token past none) =
      absurd (none_no_cut ditto rest (Number n) after none cut)
  wrong_unique (too_large {n = n} {after = after} cut sound over)
      (bad_escape {after = tail} strings bad) =
      absurd (omega
      (arith, number_no ditto rest n after quote (bad.body ++ backslash ∷ tail) cut bad.split))
  wrong_unique (too_large {n = n} {after = after} cut sound over) (open_comment comment) =
      absurd (omega (arith, number_no ditto rest n after 47 (42 ∷ comment.body) cut comment.split))
  wrong_unique (too_large {n = n} {after = after} cut sound over) (open_string strings string) =
      absurd (omega
      (arith, number_no ditto rest n after quote (string.body ++ string.rest) cut string.split))
  wrong_unique (too_large cut sound over) (too_large cut' sound' over') = refl
  wrong_unique (too_large {n = n} {after = after} cut sound over)
      (float_text {n = m} {after = after'} cut' floats) =
      absurd (sound (subst IsFloatTail (number_same ditto rest m n after' after cut' cut) floats))
  wrong_unique (float_text {n = n} {after = after} cut floats) (no_token past none) =
      absurd (none_no_cut ditto rest (Number n) after none cut)
  wrong_unique (float_text {n = n} {after = after} cut floats)
      (bad_escape {after = tail} strings bad) =
      absurd (omega
      (arith, number_no ditto rest n after quote (bad.body ++ backslash ∷ tail) cut bad.split))
  wrong_unique (float_text {n = n} {after = after} cut floats) (open_comment comment) =
      absurd (omega (arith, number_no ditto rest n after 47 (42 ∷ comment.body) cut comment.split))
  wrong_unique (float_text {n = n} {after = after} cut floats) (open_string strings string) =
      absurd (omega
      (arith, number_no ditto rest n after quote (string.body ++ string.rest) cut string.split))
  wrong_unique (float_text {n = n} {after = after} cut floats)
      (too_large {n = m} {after = after'} cut' sound over) =
      absurd (sound (subst IsFloatTail (number_same ditto rest n m after after' cut cut') floats))
  wrong_unique (float_text cut floats) (float_text cut' floats') = refl

  -- where a token is cut off, nothing is wrong
  pub wrong_no_cut : {kind : Kind} {after : List ℕ} {fault : LexFault} → IsPastGap rest
      → IsCut ditto rest kind after → IsSound kind after → IsWrong text ditto rest fault → ⊥
  wrong_no_cut {kind = kind} {after = after} past cut sound (no_token past' none) =
      none_no_cut ditto rest kind after none cut
  wrong_no_cut {kind = kind} {after = after} past cut sound
      (bad_escape {after = tail} strings bad) =
      quote_no_bad after tail
      (quoted_unique rest (quote ∷ after) (backslash ∷ tail)
      (cut_quoted ditto rest after (bad.body ++ backslash ∷ tail) kind strings bad.split cut)
      (quoted_bad rest tail bad))
  wrong_no_cut past cut sound (open_comment comment) = past.no_block (comment.body, comment.split)
  wrong_no_cut {kind = kind} {after = after} past cut sound (open_string strings string) =
      let first = ends_no quote after string.rest string.ends
      (quoted_unique rest string.rest (quote ∷ after) (quoted_open rest string)
      (cut_quoted ditto rest after (string.body ++ string.rest) kind strings string.split
      cut)) in
      omega arith
  wrong_no_cut {kind = kind} {after = after} past cut sound
      (too_large {n = n} {after = after'} cut' sound' over) =
      let fits : IsSound (Number n) after =
      subst (λ (k : Kind). IsSound k after)
      (cut_kind ditto rest kind (Number n) after after' cut cut') sound in
      omega (arith, ints, over, fits.1)
  wrong_no_cut {kind = kind} {after = after} past cut sound
      (float_text {n = n} {after = after'} cut' floats) =
      let fits : IsSound (Number n) after =
      subst (λ (k : Kind). IsSound k after)
      (cut_kind ditto rest kind (Number n) after after' cut cut') sound in
      fits.0 (subst IsFloatTail (cut_after ditto rest (Number n) kind after' after cut' cut) floats)

-- where a fault is, no gap goes on
IsStop-first : (bytes : List ℕ) (b : ℕ) (rest : List ℕ) → bytes ≡ b ∷ rest → is_white b ≡ false
    → (b ≡ 45 → ⊥) → (b ≡ 47 → ⊥) → IsStop bytes
IsStop-first bytes b rest starts black no_dash no_slash = record {
  no_white = λ first. both_ways (is_white b) black (subst (FirstPasses is_white) starts first);
  no_line = λ after comment. no_dash (heads (sym starts ∙ comment.split));
  no_block = λ after comment. no_slash (heads (sym starts ∙ comment.split));
}

IsStop-quote : (bytes rest : List ℕ) → bytes ≡ quote ∷ rest → IsStop bytes
IsStop-quote bytes rest starts =
    IsStop-first bytes quote rest starts refl (λ same. omega (arith, same))
    (λ same. omega (arith, same))

IsStop-comment : (bytes : List ℕ) → IsOpenComment bytes → IsStop bytes
IsStop-comment bytes comment = record {
  no_white = λ first. false≢true (subst (FirstPasses is_white) comment.split first);
  no_line = λ after other. let same = heads (sym comment.split ∙ other.split) in
      omega (arith, same);
  no_block = λ after other. comment.is_open
      (closed_body other.body after comment.body (sym comment.split ∙ other.split));
}
  where
    closed_body : (body after whole : List ℕ)
        → 47 ∷ 42 ∷ whole ≡ 47 ∷ 42 ∷ (body ++ (42 ∷ 47 ∷ after)) → StandsIn (codes "*/") whole
    closed_body body after whole same = (body, after, cc)

digit_black : (b : ℕ) → is_ascii_digit b ≡ true → is_white b ≡ false
digit_black b digit = grind (arith, nat_tests)

IsStop-number : (ditto : Bool) (bytes : List ℕ) (n : ℤ) (after : List ℕ)
    → IsCut ditto bytes (Number n) after → IsStop bytes
IsStop-number ditto [] n after cut = absurd (cut_some ditto [] (Number n) after cut refl)
IsStop-number ditto (b ∷ bytes) n after cut =
    let shape = cut_shape ditto (b ∷ bytes) (Number n) after b bytes cut refl in
    let digit = (and_parts (is_ascii_digit b) (list_all is_ascii_digit shape.0) shape.1).0 in
    IsStop-first (b ∷ bytes) b bytes refl (digit_black b digit)
    (λ same. both_ways (is_ascii_digit 45) refl
    (subst (λ (n : ℕ). is_ascii_digit n ≡ true) same digit))
    (λ same. both_ways (is_ascii_digit 47) refl
    (subst (λ (n : ℕ). is_ascii_digit n ≡ true) same digit))

pub wrong_stops : {text : List ℕ} {ditto : Bool} {rest : List ℕ} {fault : LexFault}
    → IsWrong text ditto rest fault → IsStop rest
wrong_stops {rest = rest} (no_token past none) = IsStop-past_gap rest past
wrong_stops {rest = rest} (bad_escape {after = after} strings bad) =
    IsStop-quote rest (bad.body ++ backslash ∷ after) bad.split
wrong_stops {rest = rest} (open_comment comment) = IsStop-comment rest comment
wrong_stops {rest = rest} (open_string strings string) =
    IsStop-quote rest (string.body ++ string.rest) string.split
wrong_stops {ditto = ditto} {rest = rest} (too_large {n = n} {after = after} cut sound over) =
    IsStop-number ditto rest n after cut
wrong_stops {ditto = ditto} {rest = rest} (float_text {n = n} {after = after} cut floats) =
    IsStop-number ditto rest n after cut

-- nothing is wrong where nothing is left
pub wrong_some : {text : List ℕ} {ditto : Bool} {rest : List ℕ} {fault : LexFault}
    → IsWrong text ditto rest fault → rest ≡ [] → ⊥
wrong_some (no_token past none) empty = omega (arith, none.some, ap length empty)
wrong_some (bad_escape strings bad) empty = nil≢cons (sym bad.split ∙ empty)
wrong_some (open_comment comment) empty = nil≢cons (sym comment.split ∙ empty)
wrong_some (open_string strings string) empty = nil≢cons (sym string.split ∙ empty)
wrong_some {ditto = ditto} {rest = rest} (too_large {n = n} {after = after} cut sound over) empty =
    cut_some ditto rest (Number n) after cut empty
wrong_some {ditto = ditto} {rest = rest} (float_text {n = n} {after = after} cut floats) empty =
    cut_some ditto rest (Number n) after cut empty
