-- Loops that read with a shift what they put, among rows seen inline.
use Rattle.std.specs.Prelude.{ℕ, ◌+◌, Bool, false, List, [], ◌∷◌, cond, flat_map}
use Rattle.code_parts.specs.Uses.{share, shifted_in}
use Rattle.flat_form.specs.Row as row
use Rattle.flat_form.specs.Row.{Member, Row, Words, member_words}

-- the array that a member puts
abbrev pub put_in : Member → List ℕ
put_in (row.Put array expr mask line) = array ∷ []
put_in other = []

-- the arrays that expressions read with a shift
abbrev pub shifted_by : List Words → List ℕ
shifted_by exprs = flat_map (λ words. flat_map shifted_in words) exprs

-- the group reads with a shift an array that it puts
abbrev pub group_reads_itself : List Member → Bool
group_reads_itself group = share (flat_map put_in group) (shifted_by (flat_map member_words group))

-- the row is a loop whose group does
abbrev pub is_on_itself : Row → Bool
is_on_itself (row.Loop slot group) = group_reads_itself group
is_on_itself one = false

-- how many rows are
abbrev pub rows_on_themselves : List Row → ℕ
rows_on_themselves [] = 0
rows_on_themselves (one ∷ rows) = cond (is_on_itself one) 1 0 + rows_on_themselves rows
