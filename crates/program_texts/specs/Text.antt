-- The program that is drawn from a number. It works on three arrays of 16 to 32 rows and columns:
-- their borders and elements are set, then come 40 to 99 drawn lines, and at last it prints sums of
-- the arrays and one of them.
--
--   next_state     the state of draws, one draw later
--   line_behind    the draws of a line
--   line_text      a line of the program
--   drawn_program  its text
use Rattle.std.specs.Prelude.{ℕ, zero, suc, ◌+◌, ◌*◌, ◌/◌, ◌%◌, ◌==◌, if◌then◌else◌, List, [], ◌∷◌, ◌++◌}
use Rattle.std.specs.Prelude.{codes}
use Rattle.std.specs.Fmt.{decimal}
use Rattle.std.specs.List.{concat}
use Rattle.program_texts.specs.declared.lines.Line.{Line}

-- ---- draws
-- The state begins as the number. Each draw goes on to the next one, whose upper bits are drawn.
abbrev pub next_state : ℕ → ℕ
next_state x = (x * 1103515245 + 12345) % 2147483648

-- the states of the four draws of a line: for its form, for two arrays, and for a direction
abbrev pub line_behind : ℕ → Line
line_behind x = record {
  form = next_state x;
  left = next_state (next_state x);
  right = next_state (next_state (next_state x));
  direction = next_state (next_state (next_state (next_state x)));
}

-- what a state draws, of so many
abbrev pub drawn_of : ℕ → ℕ → ℕ
drawn_of many x = x / 65536 % many

-- ---- lines
abbrev pub array_name : ℕ → List ℕ
array_name k = if k == 0 then codes "A" else if k == 1 then codes "B" else codes "C"

abbrev pub direction_name : ℕ → List ℕ
direction_name k =
    if k == 0 then codes "north" else if k == 1 then codes "south" else if k == 2 then codes "west"
    else codes "east"

-- a line of each form, for the names of two arrays and of a direction
abbrev pub shifted_line : List ℕ → List ℕ → List ℕ → List ℕ
shifted_line p q d =
    concat (codes "  " ∷ p ∷ codes " := (" ∷ p ∷ codes "@" ∷ d ∷ codes " + " ∷ q
    ∷ codes " * 3) % 1000;\n" ∷ [])

abbrev pub folded_line : List ℕ → List ℕ → List ℕ
folded_line p q =
    concat (codes "  s := +<<(" ∷ p ∷ codes " - " ∷ q ∷ codes ");\n" ∷ [])

abbrev pub wrapped_line : List ℕ → List ℕ → List ℕ
wrapped_line p d =
    concat (codes "  [" ∷ d ∷ codes " of R] wrap " ∷ p ∷ codes ";\n" ∷ [])

abbrev pub summed_line : List ℕ → List ℕ → List ℕ
summed_line p q =
    concat (codes "  " ∷ p ∷ codes " := " ∷ q ∷ codes " + s;\n" ∷ [])

abbrev pub chosen_line : List ℕ → List ℕ → List ℕ
chosen_line p q =
    concat (codes "  if " ∷ p ∷ codes " > " ∷ q ∷ codes " then " ∷ p ∷ codes " := " ∷ q
    ∷ codes "; else " ∷ q ∷ codes " := " ∷ p ∷ codes " + 1; end;\n" ∷ [])

abbrev pub scanned_line : List ℕ → List ℕ → List ℕ
scanned_line p q =
    concat (codes "  " ∷ p ∷ codes " := +||[2] " ∷ q ∷ codes ";\n" ∷ [])

abbrev pub line_of_form : ℕ → List ℕ → List ℕ → List ℕ → List ℕ
line_of_form form p q d =
    if form == 0 then shifted_line p q d else if form == 1 then folded_line p q
    else if form == 2 then wrapped_line p d else if form == 3 then summed_line p q
    else if form == 4 then chosen_line p q else scanned_line p q

abbrev pub line_text : Line → List ℕ
line_text line =
    line_of_form (drawn_of 6 line.form) (array_name (drawn_of 3 line.left))
    (array_name (drawn_of 3 line.right)) (direction_name (drawn_of 4 line.direction))

-- so many lines, from a state on
abbrev pub lines_text : ℕ → ℕ → List ℕ
lines_text zero x = []
lines_text (suc count) x =
    line_text (line_behind x) ++ lines_text count (line_behind x).direction

-- ---- the program
-- its declarations, over arrays of so many rows and columns
abbrev pub declarations_text : ℕ → List ℕ
declarations_text size =
    concat (codes "program gen;\nconfig var n : integer = " ∷ decimal size ∷ codes ";\n"
    ∷ codes "region R = [1..n, 1..n];\ndirection north = [-1, 0]; south = [1, 0]; "
    ∷ codes "west = [0, -1]; east = [0, 1];\nvar A, B, C : [R] integer;\n    s : integer;\n" ∷ [])

-- what is set first: the borders of A, A and B
abbrev pub beginning_text : List ℕ
beginning_text =
    concat (codes "procedure gen();\n[R] begin\n"
    ∷ codes "  [north of R] A := 1;\n  [south of R] A := 2;\n"
    ∷ codes "  [west of R] A := 3;\n  [east of R] A := 4;\n"
    ∷ codes "  A := Index1 * 7 + Index2;\n  B := Index2;\n" ∷ [])

-- what is printed
abbrev pub end_text : List ℕ
end_text =
    concat (codes "  writeln(+<<A, \" \", +<<B, \" \", +<<C, \" \", s);\n"
    ∷ codes "  write(A);\nend;\n" ∷ [])

abbrev pub drawn_program : ℕ → List ℕ
drawn_program seed =
    declarations_text (16 + seed % 17)
    ++ (beginning_text ++ (lines_text (40 + seed % 60) seed ++ end_text))
