-- A gap ends somewhere, or at a comment that isn't closed.
use Rattle.std.proofs.Common.{◌≡◌, ℕ, zero, suc, ◌+◌, ◌-◌, ◌≤◌, List, [], ◌∷◌, ◌++◌, length}
use Rattle.std.proofs.Common.{get_or}
use Rattle.std.proofs.Common.{codes, refl, sym, ap, subst, ◌∙◌, arith, length-append, ◌⊎◌, inl, inr}
use Rattle.std.proofs.Common.{⊎_elim}
use Rattle.std.specs.Prelude.{◌≢◌}
use Rattle.std.specs.List.{AllByRecursion}
use Rattle.std.proofs.Math.Nat.{eq-or-lt_of_le}
use Rattle.std.proofs.lemmas.Bool.{both_ways, cases_Bool, cases_eq, cases_lt}
use Rattle.zpl_text.specs.Bytes.{newline, is_white, EndsLine}
use Rattle.zpl_text.specs.Gaps.{IsLineComment, IsBlockComment, IsOpenComment, IsPastGap}
use Rattle.zpl_text.specs.Gaps.{Skips, nothing, white, line, block}
use Rattle.zpl_text.proofs.Comments.{NoneBefore, block_comment_at, open_comment_from}
use Rattle.zpl_text.proofs.Cuts.{nil≢cons}
use Rattle.zpl_text.proofs.Decided.{of_front}
use Rattle.zpl_text.proofs.Skipping.{Skips-trans}

-- where the line ends
record LineEnd (bytes : List ℕ) : Type 0 where
  body : List ℕ
  after : List ℕ
  split : bytes ≡ body ++ after
  on_line : AllByRecursion (λ b. b ≢ newline) body
  ends : EndsLine after

line_end : (bytes : List ℕ) → LineEnd bytes
line_end [] = record { body = []; after = []; split = refl; on_line = tt; ends = tt }
line_end (b ∷ bytes) =
    let more = line_end bytes in
    ⊎_elim
    (λ is. record { body = []; after = b ∷ bytes; split = refl; on_line = tt; ends = is })
    (λ differs. record {
      body = b ∷ more.body;
      after = more.after;
      split = ap (λ (xs : List ℕ). b ∷ xs) more.split;
      on_line = (differs, more.on_line);
      ends = more.ends;
    })
    (cases_eq b newline)

-- no `*/` ends one byte further on, where none ends before and none there
none_further : (bytes : List ℕ) (j : ℕ) → NoneBefore bytes (suc j)
    → (get_or bytes j 0 ≡ 42 → get_or bytes (suc j) 0 ≡ 47 → ⊥) → NoneBefore bytes (suc (suc j))
none_further bytes j none not_here k below star slash =
    ⊎_elim
    (λ same. not_here (ap (λ (n : ℕ). get_or bytes n 0) (sym same) ∙ star)
    (ap (λ (n : ℕ). get_or bytes (suc n) 0) (sym same) ∙ slash))
    (λ less. none k (omega arith) star slash)
    (let le : k ≤ j = omega arith in eq-or-lt_of_le le)

-- behind `/*` a comment closes, or stays open
block_end : (n : ℕ) (bytes : List ℕ) (j : ℕ) → NoneBefore bytes (suc j) → length bytes ≤ suc j + n
    → ((after : List ℕ) × IsBlockComment (47 ∷ 42 ∷ bytes) after) ⊎ IsOpenComment (47 ∷ 42 ∷ bytes)
block_end zero bytes j none past = inr (open_comment_from bytes (suc j) none (omega arith))
block_end (suc n) bytes j none past =
    let on : (get_or bytes j 0 ≡ 42 → get_or bytes (suc j) 0 ≡ 47 → ⊥)
    → ((after : List ℕ) × IsBlockComment (47 ∷ 42 ∷ bytes) after) ⊎ IsOpenComment
    (47 ∷ 42 ∷ bytes) =
    λ not_here. block_end n bytes (suc j) (none_further bytes j none not_here) (omega arith) in
    let back : suc j - 1 ≡ j = omega arith in
    ⊎_elim
    (λ inside.
    ⊎_elim
    (λ star.
    ⊎_elim
    (λ slash. inl (
      _,
      block_comment_at bytes (suc j) none (omega arith) inside
          (ap (λ (k : ℕ). get_or bytes k 0) back ∙ star) slash,
    ))
    (λ differs. on (λ _ is. differs is))
    (cases_eq (get_or bytes (suc j) 0) 47))
    (λ differs. on (λ is _. differs is))
    (cases_eq (get_or bytes j 0) 42))
    (λ outside. inr (open_comment_from bytes (suc j) none outside))
    (cases_lt (suc j) (length bytes))

-- what is behind the gap, or the comment that isn't closed
abbrev pub GapEnds : List ℕ → Type 0
GapEnds bytes =
    ((rest : List ℕ) × Skips bytes rest × IsPastGap rest)
    ⊎ ((rest : List ℕ) × Skips bytes rest × IsOpenComment rest)

through : {bytes next : List ℕ} → Skips bytes next → GapEnds next → GapEnds bytes
through skips (inl (rest, more, past)) = inl (rest, Skips-trans skips more, past)
through skips (inr (rest, more, unclosed)) = inr (rest, Skips-trans skips more, unclosed)

pub gap_ends : (n : ℕ) (bytes : List ℕ) → length bytes ≤ n → GapEnds bytes
gap_ends n [] fits =
    inl (
      [],
      nothing,
      record {
        no_white = λ is. is;
        no_line = λ is. nil≢cons (sym is.1);
        no_block =
            λ is. nil≢cons (sym is.1);
      },
    )
gap_ends zero (b ∷ bytes) fits = absurd (omega arith)
gap_ends (suc n) (b ∷ bytes) fits =
    ⊎_elim
    (λ is. through (white is nothing) (gap_ends n bytes (omega arith)))
    (λ no_white.
    ⊎_elim
    (λ dashes.
    let end = line_end dashes.0 in
    let comment : IsLineComment (b ∷ bytes) end.after = record {
      body = end.body;
      split = dashes.1 ∙ ap (λ (xs : List ℕ). 45 ∷ 45 ∷ xs) end.split;
      on_line = end.on_line;
      ends_line = end.ends;
    } in
    let shorter : length end.after ≤ n =
    omega (arith, ap length comment.split, length-append end.body end.after) in
    through (line comment nothing) (gap_ends n end.after shorter))
    (λ no_line.
    ⊎_elim
    (λ opens.
    ⊎_elim
    (λ closed.
    let comment = subst (λ (xs : List ℕ). IsBlockComment xs closed.0) (sym opens.1) closed.1 in
    let shorter : length closed.0 ≤ n =
    omega (arith, ap length comment.split, length-append comment.body (42 ∷ 47 ∷ closed.0)) in
    through (block comment nothing) (gap_ends n closed.0 shorter))
    (λ unclosed. inr (b ∷ bytes, nothing, subst IsOpenComment (sym opens.1) unclosed))
    (block_end (length opens.0) opens.0 0 (λ k below. absurd (omega arith)) (omega arith)))
    (λ no_block. inl (
      b ∷ bytes,
      nothing,
      record {
        no_white = λ is. both_ways (is_white b) no_white is;
        no_line = no_line;
        no_block = no_block;
      },
    ))
    (of_front (codes "/*") (b ∷ bytes)))
    (of_front (codes "--") (b ∷ bytes)))
    (cases_Bool (is_white b))
