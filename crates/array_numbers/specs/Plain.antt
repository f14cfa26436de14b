-- Words that read an array with a shift.
use Rattle.std.specs.Prelude.{ℕ, Bool, ◌==◌, List, flat_map}
use Rattle.std.specs.List.{list_any}
use Rattle.node_form.specs.declared.words.ExprOp.{ExprOp}
use Rattle.code_parts.specs.Uses.{shifted_in}

-- one of the words reads the array with this number with a shift
abbrev pub reads_number : ℕ → List ExprOp → Bool
reads_number number words = list_any (λ other. number == other) (flat_map shifted_in words)
