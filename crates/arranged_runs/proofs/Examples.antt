-- Rows of a stretch between whose starts and finishes others stand.
use Rattle.std.proofs.Common.{◌≡◌, ◌⊎◌, true, inl, inr, refl, ℕ, List, [], ◌∷◌, Some, None}
use Rattle.node_form.specs.declared.instructions.Instr.{Instr}
use Rattle.node_form.specs.declared.instructions.Instr.TheVariants as instr
use Rattle.node_form.specs.declared.tables.Tables.{Tables}
use Rattle.arranged_runs.specs.Sent.{IsSentInOrder, StandInOrder, may_stand_between}

abbrev with_rows : List Instr → Tables
with_rows rows = record {
  grid = 2 ∷ 0 ∷ 0 ∷ [];
  scalars = 0;
  cells = 0;
  slots = [];
  arrays = [];
  texts = [];
  exprs = [];
  groups = [];
  exchanges = [];
  code = rows;
}

-- two are open at once, and each ends in its turn
abbrev both_open : Tables
both_open = with_rows
    (instr.Start 0 ∷ instr.Loop 0 0 ∷ instr.Start 1 ∷ instr.Finish 0 ∷ instr.Print 0
    ∷ instr.Finish 1 ∷ instr.Vote 0 ∷ instr.End ∷ [])

in_order : IsSentInOrder (Some 2) both_open
in_order = ((refl, (inr refl, (refl, (refl, (inr refl, (refl, (inl refl, refl))))))), tt)

-- over links that hold one message the second one finds no room
too_many : IsSentInOrder (Some 1) both_open → ⊥
too_many stands = let full = stands.0.1.1.0 in cc

-- a vote may not stand between, and a start has its finish behind it in its stretch
vote_between : StandInOrder both_open None
    (instr.Start 0 ∷ instr.Vote 0 ∷ instr.Finish 0 ∷ []) [] → ⊥
vote_between stands = by stands.1.0
  where
    by : (◌≡◌ {A = List ℕ} (0 ∷ []) []) ⊎ (may_stand_between both_open (instr.Vote 0) ≡ true) → ⊥
    by (inl some) = cc
    by (inr may) = cc

never_finished : StandInOrder both_open None (instr.Start 0 ∷ instr.Print 0 ∷ []) [] → ⊥
never_finished stands = let some = stands.1.1 in cc

out_of_turn : StandInOrder both_open None
    (instr.Start 0 ∷ instr.Start 1 ∷ instr.Finish 1 ∷ instr.Finish 0 ∷ []) [] → ⊥
out_of_turn stands = let other = stands.1.1.0 in cc
