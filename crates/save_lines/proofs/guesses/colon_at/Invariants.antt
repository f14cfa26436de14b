use Rattle.std.proofs.Common.{◌≢◌, ℕ, ◌<◌, [], codes, get_or, map}
use Rattle.save_lines.proofs.guesses.colon_at.Given as goal

abbrev pub invariant-loop-i : goal.invariant-loop-i
invariant-loop-i l = (k : ℕ) → k < l.i → get_or (map (λ word. word.now) l.words) k [] ≢ codes ":"
