-- A gap ends at one place.
use Rattle.std.proofs.Common.{◌≡◌, ℕ, true, false, IsTrue, List, [], ◌∷◌, ◌++◌, codes, refl, sym}
use Rattle.std.proofs.Common.{ap, subst, ◌∙◌, arith}
use Rattle.std.specs.Prelude.{◌≢◌}
use Rattle.std.specs.List.{AllByRecursion}
use Rattle.std.proofs.lemmas.Bool.{both_ways}
use Rattle.zpl_text.specs.Bytes.{newline, is_white, FirstPasses, StandsIn, EndsLine}
use Rattle.zpl_text.specs.Gaps.{IsLineComment, IsBlockComment, Skips, nothing, white, line, block}
use Rattle.zpl_text.specs.Gaps.{IsPastGap}
use Rattle.zpl_text.proofs.Cuts.{heads}

-- no white space and no comment can be skipped here
pub record IsStop (bytes : List ℕ) : Type 0 where
  pub no_white : FirstPasses is_white bytes → ⊥
  pub no_line : (after : List ℕ) → IsLineComment bytes after → ⊥
  pub no_block : (after : List ℕ) → IsBlockComment bytes after → ⊥

pub IsStop-past_gap : (bytes : List ℕ) → IsPastGap bytes → IsStop bytes
IsStop-past_gap bytes past = record {
  no_white = past.no_white;
  no_line = λ after comment. past.no_line (comment.body ++ after, comment.split);
  no_block = λ after comment. past.no_block (comment.body ++ (codes "*/" ++ after), comment.split);
}

-- the line ends at one place
line_end_unique : (body other after rest : List ℕ) → AllByRecursion (λ b. b ≢ newline) body
    → AllByRecursion (λ b. b ≢ newline) other → EndsLine after → EndsLine rest
    → body ++ after ≡ other ++ rest → after ≡ rest
line_end_unique [] [] after rest on_line on_line' ends ends' same = same
line_end_unique [] (c ∷ other) after rest on_line on_line' ends ends' same =
    absurd (on_line'.0 (subst EndsLine same ends))
line_end_unique (b ∷ body) [] after rest on_line on_line' ends ends' same =
    absurd (on_line.0 (subst EndsLine (sym same) ends'))
line_end_unique (b ∷ body) (c ∷ other) after rest on_line on_line' ends ends' same =
    let tails : body ++ after ≡ other ++ rest = cc in
    line_end_unique body other after rest on_line.1 on_line'.1 ends ends' tails

line_unique : (bytes after rest : List ℕ) → IsLineComment bytes after → IsLineComment bytes rest
    → after ≡ rest
line_unique bytes after rest one other =
    let whole : 45 ∷ 45 ∷ (one.body ++ after) ≡ 45 ∷ 45 ∷ (other.body ++ rest) =
    sym one.split ∙ other.split in
    let same : one.body ++ after ≡ other.body ++ rest = cc in
    line_end_unique one.body other.body after rest one.on_line other.on_line one.ends_line
    other.ends_line same

-- what stands in a list stands in a longer one
StandsIn-cons : (part bytes : List ℕ) (b : ℕ) → StandsIn part bytes → StandsIn part (b ∷ bytes)
StandsIn-cons part bytes b (front, after, split) =
    (b ∷ front, after, ap (λ (xs : List ℕ). b ∷ xs) split)

-- a body that goes on past a `*/` has it
passes_close : (body after rest : List ℕ) (c : ℕ) → 42 ∷ 47 ∷ after ≡ c ∷ (body ++ (42 ∷ 47 ∷ rest))
    → StandsIn (codes "*/") (c ∷ body)
passes_close [] after rest c same =
    let slash : ◌≡◌ {A = ℕ} 47 42 = cc in
    absurd (omega arith)
passes_close (d ∷ body) after rest c same =
    let star : 42 ≡ c = cc in
    let slash : 47 ≡ d = cc in
    ([], body, λ i. sym star i ∷ (sym slash i ∷ body))

-- the next `*/` is at one place
close_unique : (body other after rest : List ℕ) → (StandsIn (codes "*/") body → ⊥)
    → (StandsIn (codes "*/") other → ⊥) → body ++ (42 ∷ 47 ∷ after) ≡ other ++ (42 ∷ 47 ∷ rest)
    → after ≡ rest
close_unique [] [] after rest none none' same = cc
close_unique [] (c ∷ other) after rest none none' same =
    absurd (none' (passes_close other after rest c same))
close_unique (b ∷ body) [] after rest none none' same =
    absurd (none (passes_close body rest after b (sym same)))
close_unique (b ∷ body) (c ∷ other) after rest none none' same =
    let tails : body ++ (42 ∷ 47 ∷ after) ≡ other ++ (42 ∷ 47 ∷ rest) = cc in
    close_unique body other after rest (λ stands. none (StandsIn-cons (codes "*/") body b stands))
    (λ stands. none' (StandsIn-cons (codes "*/") other c stands)) tails

block_unique : (bytes after rest : List ℕ) → IsBlockComment bytes after → IsBlockComment bytes rest
    → after ≡ rest
block_unique bytes after rest one other =
    let whole : 47 ∷ 42 ∷ (one.body ++ (42 ∷ 47 ∷ after))
    ≡ 47 ∷ 42 ∷ (other.body ++ (42 ∷ 47 ∷ rest)) = sym one.split ∙ other.split in
    let same : one.body ++ (42 ∷ 47 ∷ after) ≡ other.body ++ (42 ∷ 47 ∷ rest) = cc in
    close_unique one.body other.body after rest one.is_next other.is_next same

-- a comment doesn't begin with white space
not_white : (b c : ℕ) → IsTrue (is_white b) → b ≡ c → is_white c ≡ false → ⊥
not_white b c is same black =
    both_ways (is_white c) black (subst (λ (n : ℕ). is_white n ≡ true) same is)

lines_no_blocks : (bytes after rest : List ℕ) → IsLineComment bytes after
    → IsBlockComment bytes rest → ⊥
lines_no_blocks bytes after rest one other =
    let first : ◌≡◌ {A = ℕ} 45 47 = heads (sym one.split ∙ other.split) in
    omega arith

pub Skips-unique : {bytes after rest : List ℕ} → Skips bytes after → Skips bytes rest → IsStop after
    → IsStop rest → after ≡ rest
Skips-unique nothing nothing stop stop' = refl
Skips-unique nothing (white is more) stop stop' = absurd (stop.no_white is)
Skips-unique nothing (line {next = next} comment more) stop stop' =
    absurd (stop.no_line next comment)
Skips-unique nothing (block {next = next} comment more) stop stop' =
    absurd (stop.no_block next comment)
Skips-unique (white is more) nothing stop stop' = absurd (stop'.no_white is)
Skips-unique (white is more) (white is' more') stop stop' = Skips-unique more more' stop stop'
Skips-unique (white {b = b} is more) (line comment more') stop stop' =
    absurd (not_white b 45 is (heads comment.split) refl)
Skips-unique (white {b = b} is more) (block comment more') stop stop' =
    absurd (not_white b 47 is (heads comment.split) refl)
Skips-unique (line {next = next} comment more) nothing stop stop' =
    absurd (stop'.no_line next comment)
Skips-unique (line comment more) (white {b = b} is more') stop stop' =
    absurd (not_white b 45 is (heads comment.split) refl)
Skips-unique {rest = rest} (line {bytes = bytes} {next = next} comment more)
    (line {next = next'} comment' more') stop stop' =
    Skips-unique more
    (subst (λ (xs : List ℕ). Skips xs rest) (line_unique bytes next' next comment' comment)
    more') stop stop'
Skips-unique (line {bytes = bytes} {next = next} comment more) (block {next = next'} comment' more')
    stop stop' = absurd (lines_no_blocks bytes next next' comment comment')
Skips-unique (block {next = next} comment more) nothing stop stop' =
    absurd (stop'.no_block next comment)
Skips-unique (block comment more) (white {b = b} is more') stop stop' =
    absurd (not_white b 47 is (heads comment.split) refl)
Skips-unique (block {bytes = bytes} {next = next} comment more) (line {next = next'} comment' more')
    stop stop' = absurd (lines_no_blocks bytes next' next comment' comment)
Skips-unique {rest = rest} (block {bytes = bytes} {next = next} comment more)
    (block {next = next'} comment' more') stop stop' =
    Skips-unique more
    (subst (λ (xs : List ℕ). Skips xs rest) (block_unique bytes next' next comment' comment)
    more') stop stop'
