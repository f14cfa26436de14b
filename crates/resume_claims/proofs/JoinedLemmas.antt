-- What comes of a run that goes on from another one comes of both as one run.
use Rattle.std.proofs.Common.{◌≡◌, ℕ, ◌+◌, ◌-◌, ◌<◌, ◌≤◌, Bool, true, false, List, [], ◌++◌, length, Option, None, inl, inr}
use Rattle.std.proofs.Common.{refl, sym, ◌∙◌, ap, subst, arith, append-nil}
use Rattle.std.proofs.lemmas.List.{length-append}
use Rattle.std.proofs.Math.Dec.{ltb}
use Rattle.std.proofs.lemmas.Bool.{ltb-true}
use Rattle.std.proofs.lemmas.Bool.Decides.{nat_tests}
use Rattle.zpl_nums.specs.declared.ends.End.{End}
use Rattle.node_form.specs.declared.tables.Tables.{Tables}
use Rattle.grid_links.specs.Machine.{Stuck}
use Rattle.grid_meaning.specs.Action.{StuckKind}
use Rattle.grid_meaning.specs.Grid.{EndsAs, Grid, IsIdle, after_from, next_turn, processors}
use Rattle.grid_meaning.specs.Order.{given, turn_number}
use Rattle.grid_meaning.proofs.GridLemmas.{length-given}
use Rattle.grid_runs.specs.Run.{GoesOnTo, HasNext, IsFirstRunning, IsIdleAt, IsLimitedAt, IsStopped, IsStuckAt, IsStuckNext, Run, Stops, grid_at, next_processor}
use Rattle.grid_runs.proofs.TurnLemmas.{turns_at}
use Rattle.saved_runs.specs.of_grid_save.Saved.{IsSaved}
use Rattle.exec_claims.specs.of_call_claims.Command.{Asked}
use Rattle.exec_claims.specs.of_call_claims.Texts.{trap_text, turn_limit_text}
use Rattle.exec_claims.specs.Cause.{RunCause, report_at}
use Rattle.exec_claims.specs.Cause.RunCause.{done, trap, turn_limit, stuck, idle}
use Rattle.exec_claims.specs.Texts.{idle_name, kind_name, report_text, stuck_text}
use Rattle.resume_claims.specs.Cause.{OnwardCause, onward_run, report_from}
use Rattle.resume_claims.specs.Onward.{AreOne, EndAsOne, GoesOnFrom, after_both, both, in_front, joined}
use Rattle.resume_claims.specs.Saving.{saved_at}
use Rattle.resume_claims.proofs.CutLemmas.{given-both, given-front, given-number, given-number-front}
use Rattle.resume_claims.proofs.OnwardLemmas.{IsOneGrid, grid_on}

-- what was printed before decides nothing
module _ (code : Tables) (links : Option ℕ) (bytes : List ℕ) (grid : Grid) where
  idle_behind : IsIdle code links (in_front bytes grid) → IsIdle code links grid
  idle_behind is = record { not_over = is.not_over; resting = is.resting }

  idle_before : IsIdle code links grid → IsIdle code links (in_front bytes grid)
  idle_before is = record { not_over = is.not_over; resting = is.resting }

  stopped_behind : IsStopped code links (in_front bytes grid) → IsStopped code links grid
  stopped_behind (inl over) = inl over
  stopped_behind (inr is) = inr (idle_behind is)

  ends_before : (ending : End) → EndsAs grid ending → EndsAs (in_front bytes grid) ending
  ends_before ending is = record { over = is.over; first = is.first }

  first_before : (p : ℕ) → IsFirstRunning grid p → IsFirstRunning (in_front bytes grid) p
  first_before p is = record { there = is.there; running = is.running; before = is.before }

-- a run that goes on from the saved grid of another one, under an order and a limit of its own
module _ (run : Run) (k : ℕ) (order : List ℕ) (limit : ℕ) where
  abbrev onward : Run
  onward = record {
    code = run.code;
    capacity = run.capacity;
    start = saved_at run k;
    order = order;
    limit = limit;
  }

  abbrev one : Run
  one = joined run k onward

  abbrev printed : List ℕ
  printed = (grid_at run k).printed

  turns_of_both : (j : ℕ) → given one.order (processors run.code) (k + j) ≡ both run k onward j
  turns_of_both j = given-both (processors run.code) run.order order k j

  joined_grid : (j : ℕ) → grid_at one (k + j) ≡ in_front printed (grid_at onward j)
  joined_grid j =
      ap (after_from run.code run.capacity run.start) (turns_of_both j)
      ∙ grid_on run k onward j (record { code = refl; capacity = refl; start = refl })

  front_grid : (i : ℕ) → i ≤ k → grid_at one i ≡ grid_at run i
  front_grid i within =
      ap (after_from run.code run.capacity run.start) (given-front (processors run.code) run.order order k i within)

  stops_on : (j : ℕ) → Stops one (k + j) → Stops onward j
  stops_on j stops =
      stopped_behind run.code run.capacity printed (grid_at onward j)
      (subst (IsStopped run.code run.capacity) (joined_grid j) stops)

  -- whose turn is next, and that it is stuck
  stuck_front : (i : ℕ) → i < k → IsStuckNext one i → IsStuckNext run i
  stuck_front i less halt =
      let number : next_processor one i ≡ next_processor run i =
      given-number-front (processors run.code) run.order order k i less in (
        halt.0,
        subst (λ g. next_turn run.code run.capacity g (next_processor run i) ≡ Stuck halt.0)
            (front_grid i (omega (arith, less)))
            (subst (λ p. next_turn run.code run.capacity (grid_at one i) p ≡ Stuck halt.0) number halt.1),
      )

  stuck_behind : (j : ℕ) → IsStuckNext one (k + j) → IsStuckNext onward j
  stuck_behind j halt =
      let number : next_processor one (k + j) ≡ next_processor onward j =
      given-number (processors run.code) run.order order k j in (
        halt.0,
        subst (λ g. next_turn run.code run.capacity g (next_processor onward j) ≡ Stuck halt.0)
            (joined_grid j)
            (subst (λ p. next_turn run.code run.capacity (grid_at one (k + j)) p ≡ Stuck halt.0) number halt.1),
      )

  joined_goes_on : (j : ℕ) → GoesOnTo run k → GoesOnTo onward j → GoesOnTo one (k + j)
  joined_goes_on j first more i below = by (ltb i k) refl
    where
      by : (test : Bool) → ltb i k ≡ test → (Stops one i → ⊥) × (IsStuckNext one i → ⊥)
      by true e =
          let less = ltb-true i k e in (
            λ stops. (first i less).0
                (subst (IsStopped run.code run.capacity) (front_grid i (omega (arith, less))) stops),
            λ halt. (first i less).1 (stuck_front i less halt),
          )
      by false e =
          let behind : k ≤ i = grind (arith, nat_tests, e) in
          let is : i ≡ k + (i - k) = omega (arith, behind) in
          let on = more (i - k) (omega (arith, below, behind)) in (
            λ stops. on.0 (stops_on (i - k) (subst (Stops one) is stops)),
            λ halt. on.1 (stuck_behind (i - k) (subst (IsStuckNext one) is halt)),
          )

  -- how it ends
  ends : (j : ℕ) (ending : End) → EndsAs (grid_at onward j) ending → EndsAs (grid_at one (k + j)) ending
  ends j ending is =
      subst (λ g. EndsAs g ending) (sym (joined_grid j))
      (ends_before run.code run.capacity printed (grid_at onward j) ending is)

  abbrev turns_before : ℕ
  turns_before = length (given run.order (processors run.code) k)

  limited : (j : ℕ) → IsLimitedAt onward j → IsLimitedAt one (k + j)
  limited j is = record {
    goes_on = λ stops. is.goes_on (stops_on j stops);
    all_given = omega (
      arith,
      is.all_given,
      length-append (given run.order (processors run.code) k) order,
      length-given run.order (processors run.code) k,
    );
  }

  next : (j : ℕ) → HasNext onward j → HasNext one (k + j)
  next j is = record {
    goes_on = λ stops. is.goes_on (stops_on j stops);
    left = omega (
      arith,
      is.left,
      length-append (given run.order (processors run.code) k) order,
      length-given run.order (processors run.code) k,
    );
  }

  stuck_on : (j p : ℕ) (kind : StuckKind) → IsStuckAt onward j p kind → IsStuckAt one (k + j) p kind
  stuck_on j p kind is = record {
    next = next j is.next;
    processor = is.processor ∙ sym (given-number (processors run.code) run.order order k j);
    stuck = subst (λ g. next_turn run.code run.capacity g p ≡ Stuck kind) (sym (joined_grid j)) is.stuck;
  }

  idle_on : (j p : ℕ) → IsIdleAt onward j p → IsIdleAt one (k + j) p
  idle_on j p is = record {
    idle = subst (IsIdle run.code run.capacity) (sym (joined_grid j))
        (idle_before run.code run.capacity printed (grid_at onward j) is.idle);
    first = subst (λ g. IsFirstRunning g p) (sym (joined_grid j))
        (first_before run.code run.capacity printed (grid_at onward j) p is.first);
  }

  -- the report
  reported : run.start.turns ≡ 0 → (j : ℕ) (wanted : Bool)
      → report_from onward wanted j ≡ report_at one wanted (k + j)
  reported zero j false = refl
  reported zero j true =
      let counted : (grid_at one (k + j)).turns ≡ k + j = omega (arith, turns_at one (k + j), zero) in
      ap (λ g. report_text g.turns g.sends g.words) (sym (joined_grid j))
      ∙ ap (λ n. report_text n (grid_at one (k + j)).sends (grid_at one (k + j)).words) counted

  module _ (zero : run.start.turns ≡ 0) (j : ℕ) (wanted : Bool) where
    -- the report behind a text that is one of a run without a report
    behind : (text told : List ℕ) → told ≡ (text ++ []) ++ report_from onward wanted j
        → text ++ report_at one wanted (k + j) ≡ told
    behind text told is =
        sym (is ∙ (ap (λ t. t ++ report_from onward wanted j) (append-nil text)
        ∙ ap (λ r. text ++ r) (reported zero j wanted)))

    came : {n : ℕ} {text : List ℕ} (told : List ℕ) → RunCause onward false j n text
        → told ≡ text ++ report_from onward wanted j → RunCause one wanted (k + j) n told
    came told (done e) is =
        subst (RunCause one wanted (k + j) _) (sym (is ∙ reported zero j wanted)) (done (ends j _ e))
    came told (trap kind line e) is =
        subst (RunCause one wanted (k + j) _) (behind (trap_text kind line) told is) (trap kind line (ends j _ e))
    came told (turn_limit l) is =
        subst (RunCause one wanted (k + j) _) (behind turn_limit_text told is) (turn_limit (limited j l))
    came told (stuck p kind s) is =
        subst (RunCause one wanted (k + j) _) (behind (stuck_text p (kind_name kind)) told is)
        (stuck p kind (stuck_on j p kind s))
    came told (idle p s) is =
        subst (RunCause one wanted (k + j) _) (behind (stuck_text p idle_name) told is) (idle p (idle_on j p s))

  end_as_one : run.start.turns ≡ 0 → (j : ℕ) → EndAsOne run k onward j
  end_as_one zero j = record {
    goes_on = joined_goes_on j;
    cause = λ wanted n told c. came zero j wanted told c.cause c.reported;
  }

-- any run that goes on from there is such a one
same_run : (run : Run) (k : ℕ) (more : Run) → GoesOnFrom run k more → onward run k more.order more.limit ≡ more
same_run run k more from =
    ap (λ c. record {
      code = c;
      capacity = run.capacity;
      start = saved_at run k;
      order = more.order;
      limit = more.limit;
    }) (sym from.code)
    ∙ (ap (λ c. record {
      code = more.code;
      capacity = c;
      start = saved_at run k;
      order = more.order;
      limit = more.limit;
    }) (sym from.capacity)
    ∙ ap (λ g. record {
      code = more.code;
      capacity = more.capacity;
      start = g;
      order = more.order;
      limit = more.limit;
    }) (sym from.start))

pub ends_as_one : (run : Run) (k : ℕ) (more : Run) (j : ℕ) → GoesOnFrom run k more → run.start.turns ≡ 0
    → EndAsOne run k more j
ends_as_one run k more j from zero =
    subst (λ r. EndAsOne run k r j) (same_run run k more from) (end_as_one run k more.order more.limit zero j)

pub are_one : (run : Run) (k : ℕ) (more : Run) (j : ℕ) → GoesOnFrom run k more → AreOne run k more j
are_one run k more j from =
    record { turns = given-both (processors run.code) run.order more.order k j; grid = grid_on run k more j from }

pub saved_on : IsOneGrid → (bytes : List ℕ) (run : Run) (k : ℕ) → run.capacity ≡ None
    → IsSaved bytes run.code (saved_at run k) → (code : Tables) (grid : Grid) → IsSaved bytes code grid
    → (asked : Asked) (order : List ℕ) → GoesOnFrom run k (onward_run code grid asked order)
saved_on one bytes run k capacity saved code grid also asked order =
    let same = one bytes code run.code grid (saved_at run k) also saved in
    record { code = same.0; capacity = sym capacity; start = same.1 }

-- the grid of the joined run
pub joined_to : (run : Run) (k : ℕ) (more : Run) (j : ℕ) → GoesOnFrom run k more
    → grid_at (joined run k more) (k + j) ≡ in_front (grid_at run k).printed (grid_at more j)
joined_to run k more j from =
    ap (after_from run.code run.capacity run.start) (given-both (processors run.code) run.order more.order k j)
    ∙ grid_on run k more j from
