-- Lines of the offsets of a text, one after the other.
use Rattle.std.proofs.Common.{◌≡◌, ℕ, suc, ◌+◌, ◌<◌, ◌≤◌, Bool, true, false, ◌==◌, List, [], ◌∷◌, ◌++◌, take, length, get_or, refl, sym, ap, ◌∙◌, subst, arith}
use Rattle.std.specs.Prelude.{count_by, min}
use Rattle.std.proofs.lemmas.List.Sums.{count_by_more_no, count_by_more_yes}
use Rattle.zpl_text.specs.Lines.{line_at}

pub line-behind-newline : (source : List ℕ) (i : ℕ) → i < length source →
    (get_or source i 0 == 10) ≡ true → line_at source (i + 1) ≡ line_at source i + 1
line-behind-newline source i below is =
    let more = count_by_more_yes (λ b. b == 10) source i 0 below is in
    omega (arith, more)

pub line-behind-byte : (source : List ℕ) (i : ℕ) → i < length source →
    (get_or source i 0 == 10) ≡ false → line_at source (i + 1) ≡ line_at source i
line-behind-byte source i below is =
    let more = count_by_more_no (λ b. b == 10) source i 0 below is in
    omega (arith, more)
