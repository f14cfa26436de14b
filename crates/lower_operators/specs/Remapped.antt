-- The rows of reads at computed indices, by the words of the indices.
use Rattle.std.specs.Prelude.{ℕ, suc, pos, List, [], ◌∷◌, ◌++◌, length, replicate, Option}
use Rattle.zpl_nums.specs.declared.operators.Op.TheVariants as op
use Rattle.zpl_nums.specs.declared.folds.Fold.TheVariants as fold
use Rattle.node_form.specs.declared.instructions.Instr.TheVariants as instr
use Rattle.node_form.specs.declared.words.ExprOp.TheVariants.{Pair}
use Rattle.node_form.specs.Expression.{Constant, Expression, words_of}
use Rattle.flat_form.specs.Row as row
use Rattle.flat_form.specs.Row.{Member, Row, Words}
use Rattle.lower_regions.specs.of_zpl_lowering.Where.{Numbers, Slotted}
use Rattle.lower_regions.specs.of_zpl_lowering.Hoist.{mask_code, rooms}
use Rattle.lower_regions.specs.of_zpl_lowering.Lowered.{Lowered}
use Rattle.lower_operators.specs.Code.{owning}

-- numbers from one on, as many as there are others
abbrev pub numbered : {A : Type 0} → ℕ → List A → List ℕ
numbered n [] = []
numbered n (x ∷ xs) = n ∷ numbered (suc n) xs

abbrev pub puts_of : ℕ → Option Words → ℕ → List Words → List Member
puts_of line mask temp [] = []
puts_of line mask temp (words ∷ rest) =
    row.Put temp words mask line ∷ puts_of line mask (suc temp) rest

-- room for each of the indices
abbrev pub with_rooms : Slotted → ℕ → List Words → Lowered
with_rooms over temp indices =
    owning 0 (replicate (length indices) over.flood) (rooms over.slot (numbered temp indices))

-- and their values
abbrev pub index_rows : Numbers → ℕ → Slotted → ℕ → List Words → List Row
index_rows numbers line over temp indices =
    rooms over.slot (numbered temp indices)
    ++ row.Loop over.slot (puts_of line (mask_code numbers over.mask) temp indices) ∷ []

-- whether one is outside
abbrev pub test_rows : ℕ → ℕ → ℕ → Words → Option Words → List Row
test_rows line scalar slot outside mask =
    row.Set scalar (words_of (Constant (pos 0))) line
    ∷ row.Loop slot (row.Acc scalar fold.Any outside mask line ∷ [])
    ∷ row.Plain (instr.Fold scalar fold.Any) ∷ []

abbrev pub read_rows : ℕ → ℕ → ℕ → List (Option ℕ) → List Row
read_rows temp slot array parts =
    row.Plain (instr.Room temp slot) ∷ row.Plain (instr.Remap temp slot array parts) ∷ []

-- words that are joined by `or` with those of one more
abbrev pub ored : Words → Expression → Words
ored [] expr = words_of expr
ored (word ∷ words) expr = (word ∷ words) ++ (words_of expr ++ Pair op.Or ∷ [])
