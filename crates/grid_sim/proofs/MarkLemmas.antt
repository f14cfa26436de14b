-- Marks of processors.
use Rattle.std.proofs.Common.{◌≡◌, Bool, true, false, cond, not, List, [], ◌∷◌, refl, arith}
use Rattle.std.specs.Prelude.{All}
use Rattle.std.specs.List.{count_by}
use Rattle.std.proofs.lemmas.List.Sums.{sum_by-cons}
use Rattle.std.proofs.lemmas.List.Elements.{All-nil, All-cons, All-head, All-tail}

abbrev pub IsMarked : Bool → Type 0
IsMarked mark = mark ≡ true

pub all_marked : (marks : List Bool) → count_by not marks ≡ 0 → All (λ mark. mark ≡ true) marks
all_marked [] none = All-nil IsMarked
all_marked (true ∷ marks) none = All-cons IsMarked true marks refl (all_marked marks none)
all_marked (false ∷ marks) none =
    let more = sum_by-cons (λ mark. cond (not mark) 1 0) false marks in absurd (omega (arith, more, none))

pub none_unmarked : (marks : List Bool) → All (λ mark. mark ≡ true) marks → count_by not marks ≡ 0
none_unmarked [] all = refl
none_unmarked (true ∷ marks) all = none_unmarked marks (All-tail IsMarked true marks all)
none_unmarked (false ∷ marks) all = let first = All-head IsMarked false marks all in cc
