-- The first draws and lines of the program that is drawn from 1.
use Rattle.std.proofs.Common.{◌≡◌, ℕ, ◌/◌, ◌++◌, List, [], ◌∷◌, refl}
use Rattle.std.specs.Prelude.{codes}
use Rattle.program_texts.specs.Text.{line_behind, line_text, lines_text, next_state}

abbrev draws : ℕ → List ℕ
draws x =
    let line = line_behind x in
    (line.form / 65536) ∷ (line.left / 65536) ∷ (line.right / 65536) ∷ (line.direction / 65536) ∷ []

first_draws : draws 1 ≡ 16838 ∷ 5758 ∷ 10113 ∷ 17515 ∷ []
first_draws = refl

second_draws : draws (line_behind 1).direction ≡ 31051 ∷ 5627 ∷ 23010 ∷ 7419 ∷ []
second_draws = refl

first_line : line_text (line_behind 1) ≡ codes "  [east of R] wrap B;\n"
first_line = refl

two_lines : lines_text 2 1 ≡ codes "  [east of R] wrap B;\n  s := +<<(C - A);\n"
two_lines = refl
