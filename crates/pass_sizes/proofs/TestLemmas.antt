-- The tests that sizes ask for look neither at goals, nor at groups.
use Rattle.std.proofs.Common.{◌≡◌, refl, ℕ}
use Rattle.std.specs.Prelude.{not}
use Rattle.node_form.specs.declared.instructions.Instr.{Instr}
use Rattle.node_form.specs.declared.instructions.Instr.TheVariants as instr
use Rattle.code_parts.specs.Counts.{is_counted, is_loop, is_vote}
use Rattle.comm_needs.specs.of_flat_passes.Rewritten.{with_moved_goal}
use Rattle.pass_sizes.specs.Sizes.{IsBlind, PassesNoExchange, is_unflat}

counted_goals : (moved : ℕ → ℕ) (row : Instr) →
    is_counted (with_moved_goal moved row) ≡ is_counted row
counted_goals moved (instr.Jump goal) = refl
counted_goals moved (instr.Unless expr goal line) = refl
counted_goals moved row = refl

uncounted_goals : (moved : ℕ → ℕ) (row : Instr) →
    not (is_counted (with_moved_goal moved row)) ≡ not (is_counted row)
uncounted_goals moved (instr.Jump goal) = refl
uncounted_goals moved (instr.Unless expr goal line) = refl
uncounted_goals moved row = refl

loop_goals : (moved : ℕ → ℕ) (row : Instr) → is_loop (with_moved_goal moved row) ≡ is_loop row
loop_goals moved (instr.Jump goal) = refl
loop_goals moved (instr.Unless expr goal line) = refl
loop_goals moved row = refl

no_loop_goals : (moved : ℕ → ℕ) (row : Instr) →
    not (is_loop (with_moved_goal moved row)) ≡ not (is_loop row)
no_loop_goals moved (instr.Jump goal) = refl
no_loop_goals moved (instr.Unless expr goal line) = refl
no_loop_goals moved row = refl

vote_goals : (moved : ℕ → ℕ) (row : Instr) → is_vote (with_moved_goal moved row) ≡ is_vote row
vote_goals moved (instr.Jump goal) = refl
vote_goals moved (instr.Unless expr goal line) = refl
vote_goals moved row = refl

unflat_goals : (moved : ℕ → ℕ) (row : Instr) → is_unflat (with_moved_goal moved row) ≡ is_unflat row
unflat_goals moved (instr.Jump goal) = refl
unflat_goals moved (instr.Unless expr goal line) = refl
unflat_goals moved row = refl

pub counted_blind : IsBlind is_counted
counted_blind = record { goals = counted_goals; loops = λ slot group other. refl }

pub uncounted_blind : IsBlind (λ row. not (is_counted row))
uncounted_blind = record { goals = uncounted_goals; loops = λ slot group other. refl }

pub counted_pass : PassesNoExchange is_counted
counted_pass = record { starts = λ exchange. refl; finishes = λ exchange. refl }

pub loop_blind : IsBlind is_loop
loop_blind = record { goals = loop_goals; loops = λ slot group other. refl }

pub no_loop_blind : IsBlind (λ row. not (is_loop row))
no_loop_blind = record { goals = no_loop_goals; loops = λ slot group other. refl }

pub loop_pass : PassesNoExchange is_loop
loop_pass = record { starts = λ exchange. refl; finishes = λ exchange. refl }

pub vote_blind : IsBlind is_vote
vote_blind = record { goals = vote_goals; loops = λ slot group other. refl }

pub vote_pass : PassesNoExchange is_vote
vote_pass = record { starts = λ exchange. refl; finishes = λ exchange. refl }

pub unflat_blind : IsBlind is_unflat
unflat_blind = record { goals = unflat_goals; loops = λ slot group other. refl }
