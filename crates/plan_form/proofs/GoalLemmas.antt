-- Marks of goals, one row after another.
use Rattle.std.proofs.Common.{◌≡◌, ◌≢◌, ◌⊎◌, inl, inr, refl, sym, ap, ◌∙◌, arith, subst, ℕ, zero, suc}
use Rattle.std.proofs.Common.{◌+◌, ◌<◌, ◌≤◌, Bool, true, false, List, [], ◌∷◌, ◌++◌, length, take}
use Rattle.std.proofs.Common.{get_or, set, eq-eqb, eqb-true, true≢false}
use Rattle.std.specs.Prelude.{◌||◌, ◌==◌, Option, Some, slice_get, slice_set}
use Rattle.std.specs.List.{list_any}
use Rattle.std.proofs.lemmas.List.{get_or-set_other, get_or-set_same}
use Rattle.std.proofs.Math.ListN.{length-set}
use Rattle.std.proofs.lemmas.List.Folds.{list_any-append}
use Rattle.flat_passes.specs.of_node_form.declared.instructions.Instr.{Instr}
use Rattle.flat_passes.specs.of_node_form.declared.instructions.Instr.TheVariants as instr
use Rattle.flat_passes.specs.of_code_parts.Stretch.{is_goal, leads_to}
use Rattle.plan_form.specs.Goals.{AreGoals, marked_by}
use Rattle.plan_form.proofs.ItemLemmas.{taken_more}

-- the goals of these rows are marked, of so many
pub record AreMarked (rows : List Instr) (count : ℕ) (marks : List Bool) : Type 0 where
  pub as_many : length marks ≡ count
  pub marked : (at : ℕ) → at < count → get_or marks at false ≡ is_goal rows at

pub none_marked : (count : ℕ) (marks : List Bool) → length marks ≡ count
    → ((at : ℕ) → at < count → get_or marks at false ≡ false) → AreMarked [] count marks
none_marked count marks long are = record { as_many = long; marked = are }

marked_length : (row : Instr) (marks : List Bool) → length (marked_by row marks) ≡ length marks
marked_length (instr.Jump goal) marks = length-set marks goal true
marked_length (instr.Unless expr goal line) marks = length-set marks goal true
marked_length row marks = refl

-- whether a number is the goal
one_mark : (goal at : ℕ) (marks : List Bool) → at < length marks
    → get_or (set marks goal true) at false ≡ (get_or marks at false || (goal == at))
one_mark goal at marks within = by (goal == at) refl
  where
    or_true : (a : Bool) → true ≡ (a || true)
    or_true true = refl
    or_true false = refl

    or_false : (a : Bool) → a ≡ (a || false)
    or_false true = refl
    or_false false = refl

    by : (b : Bool) → (goal == at) ≡ b
        → get_or (set marks goal true) at false ≡ (get_or marks at false || b)
    by true is =
        let same : goal ≡ at = eqb-true goal at is in
        subst (λ g. get_or (set marks g true) at false ≡ (get_or marks at false || true)) (sym same)
        (get_or-set_same marks at true false within ∙ or_true (get_or marks at false))
    by false is =
        get_or-set_other marks goal at true false
        (λ same. true≢false (sym (eq-eqb goal at (sym same)) ∙ is))
        ∙ or_false (get_or marks at false)

row_marks : (row : Instr) (at : ℕ) (marks : List Bool) → at < length marks
    → get_or (marked_by row marks) at false ≡ (get_or marks at false || leads_to at row)
row_marks (instr.Jump goal) at marks within = one_mark goal at marks within
row_marks (instr.Unless expr goal line) at marks within = one_mark goal at marks within
row_marks row at marks within = or_none (get_or marks at false)
  where
    or_none : (a : Bool) → a ≡ (a || false)
    or_none true = refl
    or_none false = refl

pub one_more_marked : (code : List Instr) (k count : ℕ) (row : Instr) (marks new : List Bool)
    → slice_get code k ≡ Some row → AreMarked (take k code) count marks
    → new ≡ marked_by row marks → AreMarked (take (k + 1) code) count new
one_more_marked code k count row marks new there are is = record {
  as_many = ap length is ∙ (marked_length row marks ∙ are.as_many);
  marked = λ at within.
      ap (λ l. get_or l at false) is
      ∙ (row_marks row at marks (subst (λ n. at < n) (sym are.as_many) within)
      ∙ (ap (λ b. b || leads_to at row) (are.marked at within)
      ∙ (ap (λ b. list_any (leads_to at) (take k code) || b) (or_none (leads_to at row))
      ∙ (sym (list_any-append (leads_to at) (take k code) (row ∷ []))
      ∙ ap (list_any (leads_to at)) (sym (taken_more code k row there))))));
}
  where
    or_none : (a : Bool) → a ≡ (a || false)
    or_none true = refl
    or_none false = refl

pub all_marked : (code : List Instr) (marks : List Bool)
    → AreMarked code (length code) marks → AreGoals code marks
all_marked code marks are = record { as_many = are.as_many; marked = are.marked }
