-- Procedures as they are counted, and what their numbers add up to over calls.
use Rattle.std.specs.Prelude.{ℕ, zero, suc, List, [], map, fold, Option, Some, None, slice_get}
use Rattle.expanded_counts.specs.of_zpl_names.Declared.{Routine}
use Rattle.expanded_counts.specs.of_zpl_names.Expansion.{expanded, expanded_of}
use Rattle.zpl_tree.specs.Syntax.{Program}
use Rattle.lower_draft.specs.of_zpl_lowering.Program.{reads_round}
use Rattle.expanded_counts.specs.Bodies.{called_numbers}
use Rattle.expanded_counts.specs.Counts.{capped_sum, more}
use Rattle.lower_numbers.specs.declared.bodies.Body.{Body}
use Rattle.lower_numbers.specs.declared.counts.Counts.{Counts}
use Rattle.lower_numbers.specs.Arrays.{own_arrays}

-- ---- counts

abbrev pub no_counts : Counts
no_counts = record { arrays = 0; copies = 0 }

abbrev pub plus : Counts → Counts → Counts
plus one other = record {
  arrays = capped_sum one.arrays other.arrays;
  copies = capped_sum one.copies other.copies;
}

abbrev pub counts_or : Option Counts → Counts
counts_or None = no_counts
counts_or (Some counts) = counts

abbrev pub counted : ℕ → ℕ → Counts
counted arrays copies = record { arrays = more 0 arrays; copies = more 0 copies }

-- ---- procedures

-- a procedure by itself, with the numbers of those that it calls
pub record Counted : Type 0 where
  pub own : Counts
  pub calls : List ℕ

abbrev pub body_in : Body → Counted
body_in body = record { own = body.own; calls = body.calls.items }

abbrev pub counted_body : Program → List (List ℕ) → Routine → Counted
counted_body program names routine = record {
  own = counted (own_arrays routine) (reads_round program routine);
  calls = called_numbers program names routine;
}

-- ---- sums over calls

-- one with the counts of those that it calls
abbrev pub summed : List Counts → Counted → Counts
summed below body =
    fold (λ counts call. plus counts (counts_or (slice_get below call))) body.own body.calls

-- the counts of all, down a chain of so many procedures
abbrev pub sums_down : List Counted → ℕ → List Counts
sums_down bodies zero = []
sums_down bodies (suc depth) = map (summed (sums_down bodies depth)) bodies

abbrev pub expanded_down : Program → ℕ → Routine → Counts
expanded_down program depth routine =
    counted (expanded program own_arrays depth routine)
    (expanded program (reads_round program) depth routine)

-- the counts of the expanded program
abbrev pub expanded_counts : Program → Counts
expanded_counts program =
    counted (expanded_of program own_arrays) (expanded_of program (reads_round program))
