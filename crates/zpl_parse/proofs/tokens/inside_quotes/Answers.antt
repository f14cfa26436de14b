use Rattle.std.proofs.Common.{◌≡◌, ◌≤◌, ◌-◌, ℕ, suc, [], ◌∷◌, List, length, take, drop, refl, ap, arith}
use Rattle.zpl_parse.specs.Tokens.{in_quotes, without_last}
use Rattle.zpl_parse.proofs.tokens.inside_quotes.Goals as goal

take_less : (bytes : List ℕ) (n : ℕ) → n ≡ length bytes - 1 → take n bytes ≡ without_last bytes
take_less [] n e = rw e refl
take_less (x ∷ []) n e = rw e refl
take_less (x ∷ y ∷ rest) n e =
    let m : n ≡ suc (length rest) = omega arith in
    rw m (ap (λ l. x ∷ l) (take_less (y ∷ rest) (length rest) (omega arith)))

within : (text : List ℕ) → 2 ≤ length text → take (length text - 1 - 1) (drop 1 text) ≡ in_quotes text
within [] h = absurd (omega arith)
within (x ∷ rest) h = take_less rest (length (x ∷ rest) - 1 - 1) (omega arith)

pub returns-in-len2-up : goal.returns-in-len2-up
returns-in-len2-up c = within c.args.text.now (omega arith)
