-- A run has one last turn.
use Rattle.std.proofs.Common.{◌≡◌, ℕ, ◌<◌, ◌≤◌, inl, inr, arith}
use Rattle.grid_runs.specs.Run.{GoesOnTo, Run, turns_in}
use Rattle.run_claims.specs.Decided.{IsLast}

no_later : (run : Run) (k j : ℕ) → GoesOnTo run j → j ≤ turns_in run → IsLast run k → k < j → ⊥
no_later run k j goes within last less = elim last
    [ inl stops ↦ (goes k less).0 stops | inr all ↦ omega (arith, within, all) ]

pub run_is_one : (run : Run) (k j : ℕ) → GoesOnTo run k → GoesOnTo run j → k ≤ turns_in run
    → j ≤ turns_in run → IsLast run k → IsLast run j → k ≡ j
run_is_one run k j f g within also last end =
    let not_below : k < j → ⊥ = no_later run k j g also last in
    let not_above : j < k → ⊥ = no_later run j k f within end in
    omega arith
