-- Going over a gap.
use Rattle.std.proofs.Common.{◌≡◌, ℕ, ◌-◌, ◌≤◌, true, List, [], ◌∷◌, length, take, drop, nat_eq}
use Rattle.std.proofs.Common.{refl, sym, ap, subst, ◌∙◌, arith, length-append}
use Rattle.std.specs.List.{starts_with}
use Rattle.std.proofs.lemmas.Bool.Decides.{Decides-eqb}
use Rattle.std.proofs.lemmas.Slice.Eq.{starts_is}
use Rattle.std.proofs.lemmas.List.{take_rest}
use Rattle.zpl_text.specs.Bytes.{is_white, FirstPasses}
use Rattle.zpl_text.specs.Gaps.{Skips, nothing, white, line, block}

pub Skips-trans : {bytes next after : List ℕ} → Skips bytes next → Skips next after
    → Skips bytes after
Skips-trans nothing more = more
Skips-trans (white is first) more = white is (Skips-trans first more)
Skips-trans (line comment first) more = line comment (Skips-trans first more)
Skips-trans (block comment first) more = block comment (Skips-trans first more)

-- a byte of white space is a gap
pub Skips-white : (bytes : List ℕ) → FirstPasses is_white bytes
    → Skips bytes (take (length bytes - 1) (drop 1 bytes))
Skips-white [] is = elim is [ ]
Skips-white (b ∷ bytes) is = rw (take_rest (b ∷ bytes) 1) (white is nothing)

-- what is left is no longer
pub Skips-length : {bytes after : List ℕ} → Skips bytes after → length after ≤ length bytes
Skips-length nothing = omega arith
Skips-length (white is more) = let short = Skips-length more in omega arith
Skips-length (line {next = next} comment more) =
    let short = Skips-length more in
    omega (arith, ap length comment.split, length-append comment.body next)
Skips-length (block {next = next} comment more) =
    let short = Skips-length more in
    omega (arith, ap length comment.split, length-append comment.body (42 ∷ 47 ∷ next))

-- where bytes begin with two known ones, a fact of those and the rest is one of the bytes
pub after_two : (b c : ℕ) (fact : List ℕ → Type 0) (bytes : List ℕ)
    → true ≡ starts_with nat_eq bytes (b ∷ c ∷ [])
    → fact (b ∷ c ∷ take (length bytes - 2) (drop 2 bytes)) → fact bytes
after_two b c fact bytes test holds =
    let split = (starts_is Decides-eqb bytes (b ∷ c ∷ []) true test).0 refl in
    subst fact (ap (λ (xs : List ℕ). b ∷ c ∷ xs) (take_rest bytes 2) ∙ sym split) holds
