-- Loops in the groups of rows.
--
--   RowsHave         what each group of these rows has
--   turns_in         how many `while` and `repeat` a group has
--   RowsTurn         no group of these rows has more than so many
--   units_in         how many units end in a group: its outermost members, each with all that it
--                    encloses
--   LoopsInOneUnit   a group that has loops is one unit
use Rattle.std.specs.Prelude.{ℕ, zero, suc, ◌≤◌, List, [], ◌∷◌}
use Rattle.flat_form.specs.Row as row
use Rattle.flat_form.specs.Row.{Row, Member}

abbrev pub RowHas : (List Member → Type 0) → Row → Type 0
RowHas G (row.Loop slot group) = G group
RowHas G one = Unit {0}

abbrev pub RowsHave : (List Member → Type 0) → List Row → Type 0
RowsHave G [] = Unit {0}
RowsHave G (one ∷ rows) = RowHas G one × RowsHave G rows

-- ---- how many loops
abbrev pub turns_in : List Member → ℕ
turns_in [] = 0
turns_in (row.OpenWhile expr mask line ∷ group) = suc (turns_in group)
turns_in (row.OpenRepeat mask line ∷ group) = suc (turns_in group)
turns_in (one ∷ group) = turns_in group

abbrev pub RowsTurn : ℕ → List Row → Type 0
RowsTurn most = RowsHave (λ group. turns_in group ≤ most)

-- ---- how many outermost members
abbrev pub one_less : ℕ → ℕ
one_less zero = zero
one_less (suc n) = n

-- how many members are open behind one
abbrev pub depth_past : ℕ → Member → ℕ
depth_past depth (row.Put array expr mask line) = depth
depth_past depth (row.Cell cell expr mask line) = depth
depth_past depth (row.Acc scalar operator expr mask line) = depth
depth_past depth (row.OpenIf expr mask line) = suc depth
depth_past depth row.Otherwise = depth
depth_past depth row.CloseIf = one_less depth
depth_past depth (row.OpenWhile expr mask line) = suc depth
depth_past depth row.CloseWhile = one_less depth
depth_past depth (row.OpenRepeat mask line) = suc depth
depth_past depth (row.Until expr) = one_less depth

-- one more, where nothing is open
abbrev pub ended : ℕ → ℕ → ℕ
ended zero n = suc n
ended (suc depth) n = n

-- where so many members are open in front of the group
abbrev pub units_in : ℕ → List Member → ℕ
units_in depth [] = 0
units_in depth (one ∷ group) = ended (depth_past depth one) (units_in (depth_past depth one) group)

abbrev pub LoopsInOneUnit : List Member → Type 0
LoopsInOneUnit group = 1 ≤ turns_in group → units_in 0 group ≤ 1
