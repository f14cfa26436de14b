-- What is answered once goals know no less any more: by a further walk, along which demands and
-- open exchanges are compared.
use Rattle.std.specs.Prelude.{ℕ, suc, ◌==◌, nat_lt, Bool, true, false, not, ◌&&◌, ◌||◌, max, min, List, [], ◌∷◌, Option, Some, None}
use Rattle.std.specs.Prelude.{length}
use Rattle.std.specs.Cmp.Lexicographic.{pointwise}
use Rattle.node_form.specs.declared.instructions.Instr.{Instr}
use Rattle.node_form.specs.declared.tables.Tables.{Tables}
use Rattle.node_check.specs.declared.verdicts.Verdict.{Verdict}
use Rattle.node_check.specs.Demand.{is_met}
use Rattle.node_check.specs.Front.{Point, behind}
use Rattle.node_check.specs.Walk.{falls, front_at, goal_of, here, next_where}

abbrev pub no_verdict : Verdict
no_verdict = record { current = None; least = None; links = 1 }

abbrev pub least_with : Option ℕ → ℕ → Option ℕ
least_with None number = Some number
least_with (Some least) number = Some (min least number)

abbrev pub noted : Bool → ℕ → Option ℕ → Option ℕ
noted true number least = least_with least number
noted false number least = least

abbrev pub are_same : List ℕ → List ℕ → Bool
are_same one other = pointwise (λ a b. a == b) one other

-- other exchanges are open than is known there
abbrev pub differs : Option Point → Option Point → Bool
differs None current = false
differs (Some front) None = false
differs (Some front) (Some point) = not (are_same front.opened point.opened)

abbrev pub is_unmet : Tables → Instr → Option Point → Bool
is_unmet code row None = false
is_unmet code row (Some point) = not (is_met code point.facts point.opened row)

abbrev pub is_wrong : Tables → List (Option Point) → ℕ → Instr → Option Point → Bool
is_wrong code fronts at row current =
    differs (front_at fronts at) current || is_unmet code row (here (front_at fronts at) current)

-- at the goal, where it is an instruction, other exchanges are open
abbrev pub differs_at : Tables → List (Option Point) → ℕ → Point → Bool
differs_at code fronts goal point =
    nat_lt goal (length code.code) && differs (front_at fronts goal) (Some point)

abbrev pub noted_goal : Tables → List (Option Point) → Option ℕ → Point → Option ℕ → Option ℕ
noted_goal code fronts None point least = least
noted_goal code fronts (Some goal) point least =
    noted (differs_at code fronts goal point) goal least

abbrev pub judged_behind : Tables → List (Option Point) → Instr → Point → Verdict → Verdict
judged_behind code fronts row point verdict = record {
  current = next_where (falls row) point;
  least = noted_goal code fronts (goal_of row) point verdict.least;
  links = max verdict.links (length point.opened);
}

abbrev pub judged_from : Tables → List (Option Point) → Instr → Option Point → Verdict → Verdict
judged_from code fronts row None verdict = record verdict { current = None }
judged_from code fronts row (Some point) verdict =
    judged_behind code fronts row (behind code point row) verdict

abbrev pub judged_at : Tables → List (Option Point) → ℕ → Instr → Verdict → Verdict
judged_at code fronts at row verdict =
    judged_from code fronts row (here (front_at fronts at) verdict.current)
    (record verdict { least = noted (is_wrong code fronts at row verdict.current) at verdict.least })

abbrev pub judged : Tables → List (Option Point) → ℕ → List Instr → Verdict → Verdict
judged code fronts at [] verdict = verdict
judged code fronts at (row ∷ rows) verdict =
    judged code fronts (suc at) rows (judged_at code fronts at row verdict)
