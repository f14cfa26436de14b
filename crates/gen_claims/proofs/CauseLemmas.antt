-- A status of `gen` that has its cause comes just where its own cause is.
use Rattle.std.proofs.Common.{◌≡◌, ◌≢◌, ◌↔◌, ℕ, false, List, [], ◌∷◌, ◌++◌, get_or, Some, All}
use Rattle.std.proofs.Common.{refl, sym, ◌∙◌, ap, subst, inl, inr, arith}
use Rattle.std.proofs.lemmas.List.Elements.{All-append, All-cons, All-head, All-nil, All-tail}
use Rattle.std.specs.Str.Parse.{digits_value}
use Rattle.node_form.specs.declared.tables.Tables.{Tables}
use Rattle.grid_meaning.specs.Grid.{IsCapacity}
use Rattle.grid_runs.specs.Run.{IsLimitedAt, Run}
use Rattle.zpl_claims.specs.Build.{Build}
use Rattle.call_claims.specs.Command.{Asked, IsGen, asked_on, build_of}
use Rattle.call_claims.specs.Decided.{IsDecided}
use Rattle.call_claims.specs.Execution.{Execution}
use Rattle.call_claims.specs.declared.status.TheConstants.{DONE, REFUSED, UNBOUND}
use Rattle.call_claims.specs.declared.status.TheConstants.{TRAPPED, TURN_LIMIT}
use Rattle.call_claims.proofs.MetLemmas.{is_met}
use Rattle.call_claims.proofs.OneLemmas.{worded_once}
use Rattle.run_claims.specs.of_exec_claims.Cause.{RunCause, run_of}
use Rattle.run_claims.specs.of_exec_claims.Cause.RunCause.{done, trap, turn_limit, stuck, idle}
use Rattle.run_claims.specs.of_exec_claims.Decided.{IsDoneAt, IsStuckOrIdleAt, IsTrapAt}
use Rattle.run_claims.specs.of_exec_claims.declared.status.TheConstants.{STUCK}
use Rattle.run_claims.proofs.of_exec_claims.OneCause.{run_one}
use Rattle.run_claims.specs.of_list_claims.Cause.{TextFault}
use Rattle.run_claims.specs.of_list_claims.Cause.TextFault.{refused, unbound}
use Rattle.run_claims.specs.of_list_claims.Code.{HasNoProgram, IsCodeOf}
use Rattle.run_claims.specs.of_list_claims.Refusal.{HasUnbound, IsRefused}
use Rattle.run_claims.proofs.of_list_claims.ProgramLemmas.{fault_none}
use Rattle.run_claims.proofs.CodeLemmas.{Laws, never_idle, never_stuck, too_few}
use Rattle.program_texts.specs.Text.{drawn_program}
use Rattle.gen_claims.specs.Cause.{Cause, GenCause, Gens}
use Rattle.gen_claims.specs.Cause.Cause.{no_memory, gen}
use Rattle.gen_claims.specs.Cause.GenCause.{all_done, faulty, ended}
use Rattle.gen_claims.specs.Decided.{HasComeTo, HasRun, HasRunOn, IsCutShort, IsExact}
use Rattle.gen_claims.specs.Grids.{NamedGrid, five, grids, one, three_by_one, two_by_two}
use Rattle.gen_claims.specs.Runs.{EndsNormally, IsRunOf, Went, execution_with}
use Rattle.gen_claims.specs.Runs.Went.{none_yet, one_more}

-- ---- words draw one program, and ask for one thing
pub gens_one : (words : List (List ℕ)) (n m : ℕ) (asked more : Asked) → IsGen words n asked
    → IsGen words m more → (n ≡ m) × (asked ≡ more)
gens_one words n m asked more f g =
    let same = worded_once words _ _ f.text g.text asked more f.worded g.worded in (
      f.seed.number.value ∙ (ap (λ t. digits_value 10 t) same.1 ∙ sym g.seed.number.value),
      same.2,
    )

-- what is said of any holds of these
pub as_given : {words : List (List ℕ)} {Holds : ℕ → Asked → Type 0} (n : ℕ) (asked : Asked)
    → IsGen words n asked → Gens words Holds → Holds n asked
as_given {words} {Holds} n asked given h =
    let same = gens_one words n h.seed asked h.asked given h.given in
    subst (λ m. Holds m asked) (sym same.0) (subst (λ a. Holds h.seed a) (sym same.1) h.holds)

-- ---- grids
no_more : {A : Type 0} (xs : List A) (x : A) → xs ++ x ∷ [] ≡ [] → ⊥
no_more [] x e = cc
no_more (y ∷ xs) x e = cc

last_is_five : (before : List NamedGrid) (grid : NamedGrid) → before ++ grid ∷ [] ≡ grids
    → grid ≡ five
last_is_five [] grid e = absurd (let no : ⊥ = cc in no)
last_is_five (a ∷ []) grid e = absurd (let no : ⊥ = cc in no)
last_is_five (a ∷ b ∷ []) grid e = absurd (let no : ⊥ = cc in no)
last_is_five (a ∷ b ∷ c ∷ []) grid e = let is : grid ≡ five = cc in is
last_is_five (a ∷ b ∷ c ∷ d ∷ more) grid e =
    absurd (no_more more grid (let ends : more ++ grid ∷ [] ≡ [] = cc in ends))

factor : NamedGrid → ℕ
factor grid = get_or grid.factors 0 0

fewer : (grid other : NamedGrid) → grid ≡ other → get_or other.factors 0 0 ≢ 5
    → grid.factors ≡ five.factors → ⊥
fewer grid other is differ same =
    differ (sym (ap (λ (g : NamedGrid). get_or g.factors 0 0) is) ∙ ap (λ fs. get_or fs 0 0) same)

some_more : {A : Type 0} (xs rest : List A) (x : A) → [] ≡ xs ++ x ∷ rest → ⊥
some_more [] rest x e = cc
some_more (y ∷ xs) rest x e = cc

-- the grid before another one isn't the last
not_five : (before : List NamedGrid) (grid next : NamedGrid) (rest : List NamedGrid)
    → grids ≡ (before ++ grid ∷ []) ++ next ∷ rest → grid.factors ≡ five.factors → ⊥
not_five [] grid next rest e =
    fewer grid one (let is : grid ≡ one = cc in is) (λ f. omega (arith, f))
not_five (a ∷ []) grid next rest e =
    fewer grid two_by_two (let is : grid ≡ two_by_two = cc in is) (λ f. omega (arith, f))
not_five (a ∷ b ∷ []) grid next rest e =
    fewer grid three_by_one (let is : grid ≡ three_by_one = cc in is) (λ f. omega (arith, f))
not_five (a ∷ b ∷ c ∷ []) grid next rest e = λ same. let no : ⊥ = cc in no
not_five (a ∷ b ∷ c ∷ d ∷ more) grid next rest e = λ same.
    some_more (more ++ grid ∷ []) rest next
    (let ends : [] ≡ (more ++ grid ∷ []) ++ next ∷ rest = cc in ends)

-- The first one without is one, in whichever way the list is split there.
met : {A : Type 0} (P : A → Type 0) (xs ys : List A) (x y : A) (rest more : List A)
    → xs ++ x ∷ rest ≡ ys ++ y ∷ more → All P xs → All P ys → ¬ P x → ¬ P y → x ≡ y
met P [] [] x y rest more e all also no_x no_y = let same : x ≡ y = cc in same
met P [] (b ∷ ys) x y rest more e all also no_x no_y =
    absurd (no_x (subst P (let same : b ≡ x = cc in same) (All-head P b ys also)))
met P (a ∷ xs) [] x y rest more e all also no_x no_y =
    absurd (no_y (subst P (let same : a ≡ y = cc in same) (All-head P a xs all)))
met P (a ∷ xs) (b ∷ ys) x y rest more e all also no_x no_y =
    met P xs ys x y rest more (let same : xs ++ x ∷ rest ≡ ys ++ y ∷ more = cc in same)
    (All-tail P a xs all) (All-tail P b ys also) no_x no_y

All-behind : {A : Type 0} (P : A → Type 0) (xs ys : List A) → All P (xs ++ ys) → All P ys
All-behind P [] ys all = all
All-behind P (x ∷ xs) ys all = All-behind P xs ys (All-tail P x (xs ++ ys) all)

-- code is for the grid that it was built for
pub grid_of_code : {text : List ℕ} {build : Build} {code : Tables} → IsCodeOf text build code
    → code.grid ≡ build.grid
grid_of_code of_text = ap (λ (t : Tables). t.grid) of_text.is

-- ---- the last run, where all ended normally
same_code : (code other : Tables) → Some code ≡ Some other → code ≡ other
same_code code other e = let same : code ≡ other = cc in same

module _ (seed : ℕ) (asked : Asked) where
  -- it did
  last_ended : {all : List NamedGrid} {last : Execution} {lines : List ℕ} (code : Tables)
      → Went seed asked all last lines → last.code ≡ Some code
      → EndsNormally asked code last.turns
  last_ended code none_yet made = absurd (let no : ⊥ = cc in no)
  last_ended code (one_more grid other turns went run ends) made =
      subst (λ c. EndsNormally asked c turns) (same_code other code made) ends

  -- and on the last of the grids
  last_on : {all : List NamedGrid} {last : Execution} {lines : List ℕ} (code : Tables)
      → Went seed asked all last lines → last.code ≡ Some code
      → (before : List NamedGrid) × (grid : NamedGrid) × (all ≡ before ++ grid ∷ [])
      × IsRunOf seed asked grid code last.turns
  last_on code none_yet made = absurd (let no : ⊥ = cc in no)
  last_on code (one_more {before = before} grid other turns went run ends) made =
      (before, grid, refl, subst (λ c. IsRunOf seed asked grid c turns) (same_code other code made) run)

  all_on_five : {all : List NamedGrid} {last : Execution} {lines : List ℕ}
      → Went seed asked all last lines → all ≡ grids → HasRunOn seed asked last five IsDoneAt
  all_on_five none_yet is = absurd (let no : ⊥ = cc in no)
  all_on_five (one_more {before = before} grid code turns went run ends) is =
      subst (λ g. HasRunOn seed asked (execution_with code turns) g IsDoneAt) (last_is_five before grid is) (record {
        code = code;
        of_text = run.of_text;
        made = refl;
        goes_on = run.goes_on;
        holds = ends;
      })

  -- ---- how the last run ended
  abbrev CausedBy : Tables → ℕ → ℕ → Type 0
  CausedBy code turns n = (told : List ℕ) × RunCause (run_of code asked []) false turns n told

  -- ---- no code
  abbrev IsCoded : NamedGrid → Type 0
  IsCoded grid = (code : Tables)
      × IsCodeOf (drawn_program seed) (build_of (asked_on asked grid.factors)) code

  -- there is code for all grids on which runs ended
  all_coded : {all : List NamedGrid} {last : Execution} {lines : List ℕ}
      → Went seed asked all last lines → All IsCoded all
  all_coded none_yet = All-nil IsCoded
  all_coded (one_more {before = before} grid code turns went run ends) =
      All-append IsCoded before (grid ∷ []) (all_coded went)
      (All-cons IsCoded grid [] (code, run.of_text) (All-nil IsCoded))

  uncoded : (grid : NamedGrid)
      → HasNoProgram (drawn_program seed) (build_of (asked_on asked grid.factors)) → ¬ IsCoded grid
  uncoded grid none coded = none coded.1.program coded.1.accepted

  -- Where the call has its status, it came to such a grid.
  come_so : {execution : Execution} {lines told : List ℕ} {n : ℕ} (m : ℕ)
      (Holds : List ℕ → Build → Type 0) → GenCause seed asked execution lines n told → n ≡ m
      → m ≢ DONE → ((run : Run) (k : ℕ) (other : List ℕ) → RunCause run false k n other → n ≢ m)
      → ((text : List ℕ) (build : Build) → TextFault text build n told → Holds text build)
      → HasComeTo seed asked execution Holds
  come_so m Holds (all_done went) e other differ to = absurd (other (sym e))
  come_so {lines = lines} m Holds (faulty {before = gone} grid went next fault) e other differ to =
      record {
        before = gone;
        lines = lines;
        went = went;
        grid = grid;
        next = next;
        holds = to (drawn_program seed) (build_of (asked_on asked grid.factors)) fault;
      }
  come_so m Holds (ended {told = told} grid code turns went next run why un) e other differ to =
      absurd (differ (run_of code asked []) turns told why e)

  -- And where it came to one, it has that status.
  came_to : {execution : Execution} {lines told : List ℕ} {n : ℕ} (m : ℕ)
      (Holds : List ℕ → Build → Type 0) → GenCause seed asked execution lines n told
      → ((text : List ℕ) (build : Build) → Holds text build → HasNoProgram text build)
      → ((text : List ℕ) (build : Build) → Holds text build → TextFault text build n told → n ≡ m)
      → HasComeTo seed asked execution Holds → n ≡ m
  came_to m Holds (all_done went) none to h =
      absurd (uncoded h.grid (none _ _ h.holds)
      (All-head IsCoded h.grid h.next.rest
      (All-behind IsCoded h.before (h.grid ∷ h.next.rest)
      (subst (All IsCoded) h.next.is (all_coded went)))))
  came_to {told = told} {n = n} m Holds (faulty {before = before} grid went next fault) none to h =
      let same : h.grid ≡ grid = met IsCoded h.before before h.grid grid h.next.rest next.rest
      (sym h.next.is ∙ next.is) (all_coded h.went) (all_coded went)
      (uncoded h.grid (none _ _ h.holds)) (uncoded grid (fault_none fault)) in
      to (drawn_program seed) (build_of (asked_on asked grid.factors))
      (subst (λ (g : NamedGrid). Holds (drawn_program seed) (build_of (asked_on asked g.factors)))
      same h.holds) fault
  came_to m Holds (ended grid code turns went next run why differs) none to h =
      absurd (differs (run_one _ _ _ why (done (last_ended code h.went refl))))

  fault_not : {text told : List ℕ} {build : Build} {n : ℕ} (m : ℕ) → TextFault text build n told
      → m ≢ 4 → m ≢ 5 → n ≢ m
  fault_not m (refused told is) other also e = other (sym e)
  fault_not m (unbound told is) other also e = also (sym e)

  -- so the call has its status
  status_is : {execution : Execution} {lines told : List ℕ} {n : ℕ} (m : ℕ) (code : Tables)
      → GenCause seed asked execution lines n told → execution.code ≡ Some code
      → CausedBy code execution.turns m → m ≢ DONE → n ≡ m
  status_is m code (all_done went) made cause other =
      absurd (other (run_one _ _ _ cause.1 (done (last_ended code went made))))
  status_is m code (faulty grid went next fault) made cause other =
      absurd (other (run_one _ _ _ cause.1 (done (last_ended code went made))))
  status_is m code (ended {told = told} {status = status} grid own turns went next run why differs) made cause other =
      run_one _ _ _
      (subst (λ c. RunCause (run_of c asked []) false turns status told) (same_code own code made) why)
      cause.1

  -- and where the call has its status it ended so
  run_so : {execution : Execution} {lines told : List ℕ} {n : ℕ} (m : ℕ)
      (Holds : Run → ℕ → Type 0) → GenCause seed asked execution lines n told → n ≡ m
      → m ≢ DONE → m ≢ 4 → m ≢ 5
      → ((run : Run) (k : ℕ) (other : List ℕ) → RunCause run false k n other → Holds run k)
      → HasRun seed asked execution Holds
  run_so m Holds (all_done went) e other refuses unbinds to = absurd (other (sym e))
  run_so m Holds (faulty grid went next fault) e other refuses unbinds to =
      absurd (fault_not m fault refuses unbinds e)
  run_so m Holds (ended {before = before} {told = told} grid code turns went next run why differs) e other refuses unbinds to = record {
    before = before;
    grid = grid;
    next = next;
    on = record {
      code = code;
      of_text = run.of_text;
      made = refl;
      goes_on = run.goes_on;
      holds = to (run_of code asked []) turns told why;
    };
  }

  -- ---- status 0
  done_so : {execution : Execution} {lines told : List ℕ} {n : ℕ}
      → GenCause seed asked execution lines n told → n ≡ DONE
      → HasRunOn seed asked execution five IsDoneAt
  done_so (all_done went) e = all_on_five went refl
  done_so (faulty grid went next fault) e =
      absurd (fault_not DONE fault (λ f. omega arith) (λ f. omega arith) e)
  done_so (ended grid code turns went next run why differs) e = absurd (differs e)

  is_done : {execution : Execution} {lines told : List ℕ} {n : ℕ}
      → GenCause seed asked execution lines n told
      → HasRunOn seed asked execution five IsDoneAt → n ≡ DONE
  is_done (all_done went) h = refl
  is_done (faulty grid went next fault) h =
      let on = last_on h.code went h.made in
      let split : grids ≡ (on.0 ++ on.1 ∷ []) ++ grid ∷ next.rest =
      next.is ∙ ap (λ front. front ++ grid ∷ next.rest) on.2 in
      absurd (not_five on.0 on.1 grid next.rest split
      (sym (grid_of_code on.3.of_text) ∙ grid_of_code h.of_text))
  is_done (ended {told = told} {status = status} grid own turns went next run why differs) h =
      absurd (differs (run_one _ _ _
      (subst (λ c. RunCause (run_of c asked []) false turns status told) (same_code own h.code h.made) why)
      (done h.holds)))

-- ---- how a run ended, by its status
trap_at : (run : Run) (k n : ℕ) (told : List ℕ) → RunCause run false k n told → n ≡ TRAPPED
    → IsTrapAt run k
trap_at run k n told (trap kind line e) is = (kind, line, e)
trap_at run k n told (done e) is = absurd (omega (arith, is))
trap_at run k n told (turn_limit e) is = absurd (omega (arith, is))
trap_at run k n told (stuck p kind e) is = absurd (omega (arith, is))
trap_at run k n told (idle p e) is = absurd (omega (arith, is))

limit_at : (run : Run) (k n : ℕ) (told : List ℕ) → RunCause run false k n told → n ≡ TURN_LIMIT
    → IsLimitedAt run k
limit_at run k n told (turn_limit e) is = e
limit_at run k n told (trap kind line e) is = absurd (omega (arith, is))
limit_at run k n told (done e) is = absurd (omega (arith, is))
limit_at run k n told (stuck p kind e) is = absurd (omega (arith, is))
limit_at run k n told (idle p e) is = absurd (omega (arith, is))

stuck_at : (run : Run) (k n : ℕ) (told : List ℕ) → RunCause run false k n told → n ≡ STUCK
    → IsStuckOrIdleAt run k
stuck_at run k n told (stuck p kind e) is = inl (p, kind, e)
stuck_at run k n told (idle p e) is = inr (p, e)
stuck_at run k n told (turn_limit e) is = absurd (omega (arith, is))
stuck_at run k n told (trap kind line e) is = absurd (omega (arith, is))
stuck_at run k n told (done e) is = absurd (omega (arith, is))

-- ---- a text without code, by its status
refused_by : {text told : List ℕ} {build : Build} {n : ℕ} → TextFault text build n told
    → n ≡ REFUSED → IsRefused text build
refused_by (refused told is) e = record { none = is.none; not_unbound = is.not_unbound }
refused_by (unbound told is) e = absurd (omega (arith, e))

refused_alone : {text told : List ℕ} {build : Build} {n : ℕ} → IsRefused text build
    → TextFault text build n told → n ≡ REFUSED
refused_alone so (refused told is) = refl
refused_alone so (unbound told is) = absurd (so.not_unbound (told, is))

unbound_by : {text told : List ℕ} {build : Build} {n : ℕ} → TextFault text build n told
    → n ≡ UNBOUND → HasUnbound text build
unbound_by (refused told is) e = absurd (omega (arith, e))
unbound_by (unbound told is) e = (told, is)

unbound_alone : {text told : List ℕ} {build : Build} {n : ℕ} → HasUnbound text build
    → TextFault text build n told → n ≡ UNBOUND
unbound_alone so (refused told is) = absurd (is.not_unbound so)
unbound_alone so (unbound told is) = refl

-- no run has such a status
run_coded : {run : Run} {k n : ℕ} {told : List ℕ} → RunCause run false k n told
    → (n ≢ REFUSED) × (n ≢ UNBOUND)
run_coded (done e) = (λ f. omega (arith, f), λ f. omega (arith, f))
run_coded (trap kind line e) = (λ f. omega (arith, f), λ f. omega (arith, f))
run_coded (turn_limit e) = (λ f. omega (arith, f), λ f. omega (arith, f))
run_coded (stuck p kind e) = (λ f. omega (arith, f), λ f. omega (arith, f))
run_coded (idle p e) = (λ f. omega (arith, f), λ f. omega (arith, f))

-- ---- the law
module _ (words : List (List ℕ)) (execution : Execution) where
  gens_of : {n : ℕ} {told : List ℕ} → Cause words execution n told → IsDecided n
      → Gens words (λ seed asked. (lines : List ℕ) × GenCause seed asked execution lines n told)
  gens_of no_memory d = absurd (d.memory refl)
  gens_of (gen is) d = is

  exact_done : {n : ℕ} {told : List ℕ} → Cause words execution n told → IsDecided n
      → (n ≡ DONE) ↔ Gens words (λ seed asked. HasRunOn seed asked execution five IsDoneAt)
  exact_done cause d =
      let is = gens_of cause d in (
        λ e. record {
          seed = is.seed;
          asked = is.asked;
          given = is.given;
          holds = done_so is.seed is.asked is.holds.1 e;
        },
        λ h. is_done is.seed is.asked is.holds.1 (as_given is.seed is.asked is.given h),
      )

  exact_run : {n : ℕ} {told : List ℕ} (m : ℕ) (Holds : Run → ℕ → Type 0)
      → Cause words execution n told → IsDecided n → m ≢ DONE → m ≢ 4 → m ≢ 5
      → ((run : Run) (k : ℕ) (other : List ℕ) → RunCause run false k n other → n ≡ m → Holds run k)
      → ((run : Run) (k : ℕ) → Holds run k → (other : List ℕ) × RunCause run false k m other)
      → (n ≡ m) ↔ Gens words (λ seed asked. HasRun seed asked execution Holds)
  exact_run m Holds cause d other refuses unbinds to from =
      let is = gens_of cause d in (
        λ e. record {
          seed = is.seed;
          asked = is.asked;
          given = is.given;
          holds = run_so is.seed is.asked m Holds is.holds.1 e other refuses unbinds
              (λ run k told why. to run k told why e);
        },
        λ h.
            let on = (as_given is.seed is.asked is.given h).on in
            status_is is.seed is.asked m on.code is.holds.1 on.made
            (from (run_of on.code is.asked []) execution.turns on.holds) other,
      )

  exact_none : {n : ℕ} {told : List ℕ} (m : ℕ) (Holds : List ℕ → Build → Type 0)
      → Cause words execution n told → IsDecided n → m ≢ DONE
      → ((run : Run) (k : ℕ) (other : List ℕ) → RunCause run false k n other → n ≢ m)
      → ((text : List ℕ) (build : Build) (other : List ℕ) → TextFault text build n other → n ≡ m
      → Holds text build)
      → ((text : List ℕ) (build : Build) → Holds text build → HasNoProgram text build)
      → ((text : List ℕ) (build : Build) (other : List ℕ) → Holds text build
      → TextFault text build n other → n ≡ m)
      → (n ≡ m) ↔ Gens words (λ seed asked. HasComeTo seed asked execution Holds)
  exact_none {told = told} m Holds cause d other differ to none back =
      let is = gens_of cause d in (
        λ e. record {
          seed = is.seed;
          asked = is.asked;
          given = is.given;
          holds = come_so is.seed is.asked m Holds is.holds.1 e other differ
              (λ text build fault. to text build told fault e);
        },
        λ h. came_to is.seed is.asked m Holds is.holds.1 none
            (λ text build holds fault. back text build told holds fault)
            (as_given is.seed is.asked is.given h),
      )

  module _ (laws : Laws) where
    cut_short : (seed : ℕ) (asked : Asked) → IsGen words seed asked
        → HasRun seed asked execution IsLimitedAt → IsCutShort seed asked execution
    cut_short seed asked given ran = record {
      ran = ran;
      too_few = too_few laws (asked_on asked ran.grid.factors) ran.on.of_text
          (is_met given.worded).links [] [] refl execution.turns ran.on.holds;
    }

    exact_limit : {n : ℕ} {told : List ℕ} → Cause words execution n told → IsDecided n
        → (n ≡ TURN_LIMIT) ↔ Gens words (λ seed asked. IsCutShort seed asked execution)
    exact_limit {n = n} cause d =
        let limited = exact_run TURN_LIMIT IsLimitedAt cause d (λ f. omega arith)
        (λ f. omega arith) (λ f. omega arith) (λ run k told why e. limit_at run k n told why e)
        (λ run k is. (_, turn_limit is)) in (
          λ e.
              let r = limited.0 e in
              record {
                seed = r.seed;
                asked = r.asked;
                given = r.given;
                holds = cut_short r.seed r.asked r.given r.holds;
              },
          λ h. limited.1 (record {
            seed = h.seed;
            asked = h.asked;
            given = h.given;
            holds = h.holds.ran;
          }),
        )

    -- code is never stuck
    goes_on : (seed : ℕ) (asked : Asked) → IsGen words seed asked
        → HasRun seed asked execution IsStuckOrIdleAt → ⊥
    goes_on seed asked given ran =
        let capacity : IsCapacity asked.links = (is_met given.worded).links in
        let on : Asked = asked_on asked ran.grid.factors in
        let of_text = ran.on.of_text in
        elim ran.on.holds [
          | inl is ↦ never_stuck laws on of_text capacity [] [] refl execution.turns is.0 is.1 is.2
          | inr is ↦ never_idle laws on of_text capacity [] [] refl execution.turns is.0 is.1
        ]

    never : {n : ℕ} {told : List ℕ} → Cause words execution n told → n ≢ STUCK
    never no_memory e = omega (arith, e)
    never {n = n} (gen is) e =
        goes_on is.seed is.asked is.given
        (run_so is.seed is.asked STUCK IsStuckOrIdleAt is.holds.1 e (λ f. omega arith)
        (λ f. omega arith) (λ f. omega arith)
        (λ run k told why. stuck_at run k n told why e))

pub exact : (words : List (List ℕ)) (execution : Execution) → Laws → (n : ℕ) (told : List ℕ)
    → Cause words execution n told → IsExact words execution n
exact words execution laws n told cause = record {
  done = λ d. exact_done words execution cause d;
  refused = λ d. exact_none words execution REFUSED IsRefused cause d (λ f. omega arith)
      (λ run k other why. (run_coded why).0) (λ text build other fault e. refused_by fault e)
      (λ text build is. is.none) (λ text build other is fault. refused_alone is fault);
  unbound = λ d. exact_none words execution UNBOUND HasUnbound cause d (λ f. omega arith)
      (λ run k other why. (run_coded why).1) (λ text build other fault e. unbound_by fault e)
      (λ text build is. is.1.none) (λ text build other is fault. unbound_alone is fault);
  trap = λ d. exact_run words execution TRAPPED IsTrapAt cause d (λ f. omega arith)
      (λ f. omega arith) (λ f. omega arith) (λ run k told why e. trap_at run k n told why e)
      (λ run k is. (_, trap is.0 is.1 is.2));
  turn_limit = λ d. exact_limit words execution laws cause d;
  never_stuck = never words execution laws cause;
}
