-- Runs of plans by rows that don't look at the next one: a loop that wants a further turn leaves it
-- to the row behind it to say whether that may be.
use Rattle.std.proofs.Common.{◌≡◌, refl, sym, ◌∙◌, ap, arith, ℕ, zero, suc, ◌+◌, Bool, true, false}
use Rattle.std.proofs.Common.{List, [], ◌∷◌, ◌++◌, drop, true≢false}
use Rattle.std.proofs.lemmas.Bool.Decides.{nat_tests}
use Rattle.std.specs.Prelude.{◌==◌, not, ◌&&◌, Option, Some, None, if◌then◌else◌, slice_get}
use Rattle.zpl_nums.specs.declared.ends.End.TheVariants.{Done, Trap, More}
use Rattle.node_form.specs.declared.instructions.Instr.{Instr}
use Rattle.node_form.specs.declared.instructions.Instr.TheVariants as instr
use Rattle.node_form.specs.declared.members.Member.{Member}
use Rattle.node_form.specs.declared.tables.Tables.{Tables}
use Rattle.node_form.specs.Nest.{Nest}
use Rattle.nest_meaning.specs.Tree.{nest_of}
use Rattle.nest_meaning.specs.Units.{units_of}
use Rattle.code_parts.specs.Counts.{is_loop}
use Rattle.row_runs.specs.Run.{Stop, Ends, Wrong, Result, Step, Goes, Stops, Effect, Does, Leaps}
use Rattle.row_runs.specs.Run.{Passes, printed, stepped, stopped, went, walked, runs}
use Rattle.needs_runs.specs.of_plan_meaning.Abreast.{Abreast, every, is_quiet, start_abreast}
use Rattle.needs_runs.specs.of_plan_meaning.Loops.{lacks, looped, shared, tree_looped, wants}
use Rattle.needs_runs.specs.of_plan_meaning.Act.{all_followed, found, is_vote_of, loop_does, plan_act}
use Rattle.needs_runs.specs.of_plan_meaning.Act.{plan_run, row_does}

-- a state; or a loop of a group wants a further turn
pub data Await : Type 0 where
  Ready : (all : Abreast) → Await
  Wanted : (group : ℕ) → Await

abbrev pub wanted_stop : Bool → Stop
wanted_stop true = Ends More
wanted_stop false = Wrong

abbrev pub looping : ℕ → Step Abreast → Step Await
looping group (Goes bytes all) = Goes bytes (Ready all)
looping group (Stops (Ends More)) = Goes [] (Wanted group)
looping group (Stops stop) = Stops stop

abbrev pub ready_step : Step Abreast → Step Await
ready_step (Goes bytes all) = Goes bytes (Ready all)
ready_step (Stops stop) = Stops stop

abbrev pub ready : Effect Abreast → Effect Await
ready (Does step) = Does (ready_step step)
ready (Leaps goal) = Leaps goal
ready Passes = Passes

module _ (code : Tables) (links : Option ℕ) (n : ℕ) where
  abbrev pub ready_act : Instr → Abreast → Effect Await
  ready_act (instr.Loop slot group) all =
      Does (looping group (loop_does code links n slot group (Some (instr.Vote group)) all))
  ready_act row all = ready (row_does code links n row None all)

  abbrev pub await_act : Instr → Await → Effect Await
  await_act row (Wanted group) = Does (Stops (wanted_stop (is_vote_of group (Some row))))
  await_act row (Ready all) = ready_act row all

-- ---- a loop, whatever is next
abbrev pub next_as : Bool → Step Abreast → Step Abreast
next_as b (Stops (Ends More)) = Stops (wanted_stop b)
next_as b step = step

picked : (a w b q : Bool) (all : Abreast)
    → (if a then (if w then Goes [] all else (if b && q then Stops (Ends More) else Stops Wrong))
    else Stops Wrong)
    ≡ next_as b
    (if a then (if w then Goes [] all else (if true && q then Stops (Ends More) else Stops Wrong))
    else Stops Wrong)
picked true true b q all = refl
picked true false true true all = refl
picked true false true false all = refl
picked true false false true all = refl
picked true false false false all = refl
picked false w b q all = refl

module _ (code : Tables) (links : Option ℕ) (n : ℕ) where
  tree_next : (slot : ℕ) (nest : Option Nest) (b : Bool) (all : Abreast)
      → tree_looped code n b slot nest all ≡ next_as b (tree_looped code n true slot nest all)
  tree_next slot None b all = refl
  tree_next slot (Some nest) b all =
      picked (every code (λ p. not (lacks code n (shared code n (units_of nest) slot all p))))
      (every code (λ p. not (wants code n (shared code n (units_of nest) slot all p)))) b
      (is_quiet all) _

  found_next : (slot : ℕ) (members : Option (List Member)) (b : Bool) (all : Abreast)
      → found members (λ members. looped code n b slot members all)
      ≡ next_as b (found members (λ members. looped code n true slot members all))
  found_next slot None b all = refl
  found_next slot (Some members) b all = tree_next slot (nest_of members) b all

  same_group : (group : ℕ) → (group == group) ≡ true
  same_group group = let one : (group == group) ≡ true = grind (arith, nat_tests) in one

  pub loop_next : (slot group : ℕ) (next : Option Instr) (all : Abreast)
      → loop_does code links n slot group next all
      ≡ next_as (is_vote_of group next)
      (loop_does code links n slot group (Some (instr.Vote group)) all)
  loop_next slot group next all =
      found_next slot (slice_get code.groups group) (is_vote_of group next) all
      ∙ ap (λ b. next_as (is_vote_of group next)
      (found (slice_get code.groups group) (λ members. looped code n b slot members all)))
      (sym (same_group group))

  -- ---- other rows don't look at the next one
  next_blind : (row : Instr) (next : Option Instr) (all : Abreast) → is_loop row ≡ false
      → row_does code links n row next all ≡ row_does code links n row None all
  next_blind (instr.Loop slot group) next all e = absurd (true≢false e)
  next_blind row next all e = refl

  other_ready : (row : Instr) (all : Abreast) → is_loop row ≡ false
      → ready_act code links n row all ≡ ready (row_does code links n row None all)
  other_ready (instr.Loop slot group) all e = absurd (true≢false e)
  other_ready row all e = refl

  -- ---- whole runs
  abbrev IsClosed : List Instr → Type 0
  IsClosed [] = Unit {0}
  IsClosed (row ∷ []) = is_loop row ≡ false
  IsClosed (row ∷ next ∷ rows) = IsClosed (next ∷ rows)

  data Loopy : Instr → Type 0 where
    IsLoop : {slot group : ℕ} → Loopy (instr.Loop slot group)
    NoLoop : {row : Instr} → is_loop row ≡ false → Loopy row

  loopy : (row : Instr) → Loopy row
  loopy (instr.Loop slot group) = IsLoop
  loopy row = NoLoop refl

  module _ (leap : ℕ → Abreast → Result) (leap' : ℕ → Await → Result)
      (leaps : (g : ℕ) (all : Abreast) → leap g all ≡ leap' g (Ready all)) where
    abbrev old_end : Abreast → Result
    old_end _ = stopped (Ends Done)

    abbrev new_end : Await → Result
    new_end _ = stopped (Ends Done)

    abbrev Walks : ℕ → List Instr → Abreast → Type 0
    Walks at rows all =
        walked (plan_act code links n) leap old_end at (all_followed rows) all
        ≡ walked (await_act code links n) leap' new_end at rows (Ready all)

    went_ready : (at : ℕ) (all : Abreast) (e : Effect Abreast) (rest : Abreast → Result)
        (rest' : Await → Result) → ((next : Abreast) → rest next ≡ rest' (Ready next))
        → went leap at all e rest ≡ went leap' at (Ready all) (ready e) rest'
    went_ready at all (Does (Goes bytes next)) rest rest' more = ap (printed bytes) (more next)
    went_ready at all (Does (Stops stop)) rest rest' more = refl
    went_ready at all (Leaps goal) rest rest' more = leaps goal all
    went_ready at all Passes rest rest' more = leaps (at + 1) all

    stepped_loop : (group : ℕ) (next : Instr) (rows : List Instr) (at : ℕ)
        (step : Step Abreast) → ((all : Abreast) → Walks at (next ∷ rows) all)
        → stepped (next_as (is_vote_of group (Some next)) step)
        (walked (plan_act code links n) leap old_end at (all_followed (next ∷ rows)))
        ≡ stepped (looping group step) (walked (await_act code links n) leap' new_end at (next ∷ rows))
    stepped_loop group next rows at (Goes bytes all) more = ap (printed bytes) (more all)
    stepped_loop group next rows at (Stops (Ends More)) more = refl
    stepped_loop group next rows at (Stops (Ends Done)) more = refl
    stepped_loop group next rows at (Stops (Ends (Trap kind line))) more = refl
    stepped_loop group next rows at (Stops Wrong) more = refl

    walks : (at : ℕ) (rows : List Instr) (all : Abreast) → IsClosed rows → Walks at rows all
    walks at [] all closed = refl
    walks at (row ∷ []) all closed =
        went_ready at all (row_does code links n row None all) old_end new_end (λ next. refl)
        ∙ ap (λ e. went leap' at (Ready all) e new_end) (sym (other_ready row all closed))
    walks at (row ∷ next ∷ rows) all closed =
        by row (loopy row) (λ all. walks (at + 1) (next ∷ rows) all closed)
      where
        by : (row : Instr) → Loopy row → ((all : Abreast) → Walks (at + 1) (next ∷ rows) all)
            → Walks at (row ∷ next ∷ rows) all
        by row (IsLoop {slot = slot} {group = group}) more =
            ap (λ s. stepped s (walked (plan_act code links n) leap old_end (at + 1)
            (all_followed (next ∷ rows)))) (loop_next slot group (Some next) all)
            ∙ stepped_loop group next rows (at + 1)
            (loop_does code links n slot group (Some (instr.Vote group)) all) more
        by row (NoLoop e) more =
            ap (λ f. went leap at all f (walked (plan_act code links n) leap old_end (at + 1)
            (all_followed (next ∷ rows)))) (next_blind row (Some next) all e)
            ∙ (went_ready at all (row_does code links n row None all)
            (walked (plan_act code links n) leap old_end (at + 1) (all_followed (next ∷ rows)))
            (walked (await_act code links n) leap' new_end (at + 1) (next ∷ rows)) more
            ∙ ap (λ f. went leap' at (Ready all) f
            (walked (await_act code links n) leap' new_end (at + 1) (next ∷ rows)))
            (sym (other_ready row all e)))

  drop_followed : (at : ℕ) (rows : List Instr)
      → drop at (all_followed rows) ≡ all_followed (drop at rows)
  drop_followed zero rows = refl
  drop_followed (suc at) [] = refl
  drop_followed (suc zero) (row ∷ []) = refl
  drop_followed (suc (suc at)) (row ∷ []) = refl
  drop_followed (suc at) (row ∷ next ∷ rows) = drop_followed at (next ∷ rows)

  drop_closed : (at : ℕ) (rows : List Instr) → IsClosed rows → IsClosed (drop at rows)
  drop_closed zero rows closed = closed
  drop_closed (suc at) [] closed = tt
  drop_closed (suc zero) (row ∷ []) closed = tt
  drop_closed (suc (suc at)) (row ∷ []) closed = tt
  drop_closed (suc at) (row ∷ next ∷ rows) closed = drop_closed at (next ∷ rows) closed

  end_closed : (rows : List Instr) → IsClosed (rows ++ instr.End ∷ [])
  end_closed [] = refl
  end_closed (row ∷ []) = refl
  end_closed (row ∷ next ∷ rows) = end_closed (next ∷ rows)

  runs_await : (rows : List Instr) → IsClosed rows → (a at : ℕ) (all : Abreast)
      → runs (plan_act code links n) (all_followed rows) a at all
      ≡ runs (await_act code links n) rows a at (Ready all)
  runs_await rows closed zero at all = refl
  runs_await rows closed (suc a) at all =
      ap (λ r. walked (plan_act code links n) (runs (plan_act code links n) (all_followed rows) a)
      (λ _. stopped (Ends Done)) at r all) (drop_followed at rows)
      ∙ walks (runs (plan_act code links n) (all_followed rows) a)
      (runs (await_act code links n) rows a) (λ g all. runs_await rows closed a g all) at
      (drop at rows) all (drop_closed at rows closed)

  -- the run of a plan
  pub plan_awaits : (a : ℕ)
      → plan_run code links a n
      ≡ runs (await_act code links n) (code.code ++ instr.End ∷ []) a 0 (Ready (start_abreast code))
  plan_awaits a =
      runs_await (code.code ++ instr.End ∷ []) (end_closed code.code) a 0 (start_abreast code)
