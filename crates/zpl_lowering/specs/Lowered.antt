-- Code, with what it has of its own; and the rows of the phases that are common to statements.
use Rattle.std.specs.Prelude.{ℕ, zero, suc, ◌+◌, Bool, ℤ, pos, List, [], ◌∷◌, ◌++◌, length, Option, Some, None}
use Rattle.zpl_meaning.specs.of_zpl_region.declared.regions.Region.{Region}
use Rattle.text_sharing.specs.of_node_form.Expression.{Expression, words_of}
use Rattle.text_sharing.specs.of_row_runs.Structured as piece
use Rattle.text_sharing.specs.of_row_runs.Structured.{Piece}
use Rattle.text_sharing.specs.of_flat_form.Row.{Row}
use Rattle.zpl_lowering.specs.Check.{Check}
use Rattle.zpl_lowering.specs.Where.{Where, Next}
use Rattle.zpl_lowering.specs.Reference.{Reference, needs, all_conforming, all_referred}
use Rattle.zpl_lowering.specs.Slate.{Slates, Settled, Placed, settled_each}
use Rattle.zpl_lowering.specs.Slate as settle
use Rattle.zpl_lowering.specs.Hoist.{Shifted, Hoisted, Free, all_hoisted}

-- ---- code

-- What code has of its own: how many scalars, the rank of each slot, the storages of arrays, of the
-- copies of the procedure that it stands in, and of those in calls, the flood dimensions of each
-- temporary, and the shifts with which arrays are read.
pub record Lowered : Type 0 where
  pub code : Piece Row Check
  pub scalars : ℕ
  pub slots : List ℕ
  pub arrays : List Region
  pub copies : List Region
  pub later : List Region
  pub temps : List (List Bool)
  pub shifts : List Shifted

abbrev pub coded : Piece Row Check → Lowered
coded code = record {
  code = code;
  scalars = 0;
  slots = [];
  arrays = [];
  copies = [];
  later = [];
  temps = [];
  shifts = [];
}

abbrev pub rows_alone : List Row → Lowered
rows_alone rows = coded (piece.Rows rows)

-- the numbers that are free behind it
abbrev pub behind : Next → Lowered → Next
behind next lowered = record {
  scalars = next.scalars + lowered.scalars;
  slots = next.slots + length lowered.slots;
  arrays = next.arrays + length lowered.arrays;
  copies = next.copies + length lowered.copies;
  later = next.later + length lowered.later;
  temps = next.temps + length lowered.temps;
}

-- code of two parts
abbrev pub joined : Piece Row Check → Lowered → Lowered → Lowered
joined code first second = record {
  code = code;
  scalars = first.scalars + second.scalars;
  slots = first.slots ++ second.slots;
  arrays = first.arrays ++ second.arrays;
  copies = first.copies ++ second.copies;
  later = first.later ++ second.later;
  temps = first.temps ++ second.temps;
  shifts = first.shifts ++ second.shifts;
}

abbrev pub both : Lowered → Lowered → Lowered
both first second = joined (piece.Then first.code second.code) first second

abbrev pub followed : Next → Lowered → (Next → Lowered) → Lowered
followed next first rest = both first (rest (behind next first))

-- ---- the phases of a statement

-- what is left of its expressions behind the rows of the first four phases, and the code of these
pub record Phased : Type 0 where
  pub lowered : Lowered
  pub left : List Expression

-- scalars of the statement's own come before those of its operators
abbrev pub free_at : Next → ℕ → Free
free_at next own = record { scalars = next.scalars + own; temps = next.temps }

abbrev pub phases_of : ℕ → List Reference → List Reference → Settled Slates →
    Hoisted (List Expression) → Phased
phases_of line first last settled hoisted = record {
  lowered = record {
    code = piece.Then
        (piece.Rows (settled.rows ++ (all_conforming line settled.slate
        ++ needs line (first ++ last))))
        hoisted.code;
    scalars = hoisted.scalars;
    slots = settled.slots;
    arrays = [];
    copies = settled.copies;
    later = [];
    temps = hoisted.temps;
    shifts = hoisted.shifts;
  };
  left = hoisted.left;
}

-- The expressions of a statement, at its line; it has references of its own before theirs and
-- behind them.
abbrev pub phased_with : Where → ℕ → Next → List Reference → List Reference → List Placed → Phased
phased_with w line next own last exprs =
    let settled = settled_each w line next exprs in
    phases_of line own (all_referred w.numbers settled.slate ++ last) settled
    (all_hoisted w.numbers line (free_at next 0) settled.slate)

abbrev pub phased : Where → ℕ → Next → List Placed → Phased
phased w line next exprs = phased_with w line next [] [] exprs

-- the first of what is left
abbrev pub first_left : List Expression → Expression
first_left [] = Expression.Constant (pos 0)
first_left (expr ∷ exprs) = expr

abbrev pub words_left : Phased → List Expression
words_left phased = phased.left

-- a statement's own rows behind its phases
abbrev pub then_rows : Phased → List Row → Lowered
then_rows phased rows = both phased.lowered (rows_alone rows)

-- ---- tests
abbrev pub check_of : Expression → ℕ → Check
check_of expr line = record { expr = words_of expr; line = line }
