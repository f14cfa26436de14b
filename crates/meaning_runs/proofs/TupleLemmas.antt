-- A shattered statement wants more where the run of a tuple comes to a loop that does.
use Rattle.std.proofs.Common.{◌≡◌, ℕ, ℤ, List, [], ◌∷◌, map, inl, inr, refl, sym, ap}
use Rattle.std.proofs.Common.{◌∙◌}
use Rattle.zpl_nums.specs.declared.ends.End.TheVariants.{Trap, More}
use Rattle.zpl_meaning.specs.of_zpl_tree.Syntax.{Stmt, Prefixed, Form, Assign, Invoke, Block, If, While}
use Rattle.zpl_meaning.specs.of_zpl_tree.Syntax.{Repeat, For, Border, Write, Return, Otherwise, NoElse, Else}
use Rattle.zpl_meaning.proofs.of_zpl_names.ListLemmas.{Among, among_from_Contains, Contains-from_among}
use Rattle.zpl_meaning.specs.Computed.{Computed, Gives, Traps}
use Rattle.zpl_meaning.specs.Store.{Store, thing_of}
use Rattle.zpl_meaning.specs.Context.{Place}
use Rattle.zpl_meaning.specs.Fields.{Field}
use Rattle.zpl_meaning.specs.Outcome.{Outcome, goes_on, with_value}
use Rattle.zpl_meaning.specs.Points.{assigned_expr, Point, point_value, point_form, point_arms}
use Rattle.zpl_meaning.specs.Points.{point_otherwise, with_element, Run, run_at, runs_of, all_runs}
use Rattle.zpl_meaning.specs.Points.{at_tuple, kept_tuples, parts_in, shattered, point_stmt}
use Rattle.zpl_meaning.specs.Visited.{parts_of}
use Rattle.zpl_meaning.proofs.MoreLemmas.{tuples_exact}
use Rattle.meaning_runs.specs.Runner.{runner_of}
use Rattle.meaning_runs.specs.Comes.{ComesIn, WantsTurn}
use Rattle.meaning_runs.specs.Tuple.{IsMetAt, split_rank, split_over, point_at}
use Rattle.meaning_runs.specs.Stops.{SomeTupleStops}
use Rattle.meaning_runs.proofs.PartLemmas.{by_parts, form_among}
use Rattle.meaning_runs.proofs.FormLemmas.{done_no_more, Runs, else_run, Wants, finds, comes_wants}
use Rattle.meaning_runs.proofs.FormLemmas.{turn_wants}
use Rattle.zpl_meaning.proofs.MoreLemmas.{trap_no_more}

pub value_wants : {A : Type 0} (computed : Computed A) (store : Store) (line : ℕ)
    (next : A → Outcome) → (with_value computed store line next).ending ≡ More
    → (value : A) × (computed ≡ Gives value) × ((next value).ending ≡ More)
value_wants (Gives value) store line next e = (value, refl, e)
value_wants (Traps kind) store line next e = trap_no_more kind line e

pub value_goes : {A : Type 0} (computed : Computed A) (store : Store) (line : ℕ)
    (next : A → Outcome) (value : A) → computed ≡ Gives value
    → (with_value computed store line next).ending ≡ (next value).ending
value_goes computed store line next value is =
    ap (λ (c : Computed _). (with_value c store line next).ending) is

abbrev form_of : Stmt → Form
form_of (Prefixed at prefixes form) = form

module _ (point : Point) (n : ℕ) where
  abbrev pub point_runs : Runs (runner_of point n)
  point_runs = record {
    arms = λ at arms last store. point_arms point n arms last store;
    none = λ store. refl;
    next = λ first rest store. refl;
    last_arm = λ at last store. refl;
    first_arm = λ at own test body rest last store. refl;
  }

  abbrev PointWants : Form → Store → Type 0
  PointWants form store = Wants (runner_of point n) point_runs 0 form store

  point_else : (otherwise : Otherwise)
      → point_otherwise point n otherwise ≡ else_run (runner_of point n) otherwise
  point_else NoElse = refl
  point_else (Else body) = refl

  wants_from : (form : Form) (store : Store) → (point_form point n form store).ending ≡ More
      → PointWants form store
  wants_from (Block body) store e = e
  wants_from (If arms otherwise) store e =
      sym (ap (λ last. (point_arms point n arms last store).ending) (point_else otherwise)) ∙ e
  wants_from (While test body) store e = e
  wants_from (Repeat body until test) store e = e
  wants_from (Assign name op value) store e =
      let given = value_wants (point_value point store (assigned_expr name op value)) store
      point.line (λ new.
      goes_on (with_element (thing_of point.place.environment name.text) point.tuple new store)) e
      in done_no_more given.2
  wants_from (Invoke name actuals) store e = done_no_more e
  wants_from (For head body) store e = done_no_more e
  wants_from (Border kind names) store e = done_no_more e
  wants_from (Write line items) store e = done_no_more e
  wants_from (Return value) store e = done_no_more e

  from_wants : (form : Form) (store : Store) → PointWants form store
      → (point_form point n form store).ending ≡ More
  from_wants (Block body) store wants = wants
  from_wants (If arms otherwise) store wants =
      ap (λ last. (point_arms point n arms last store).ending) (point_else otherwise) ∙ wants
  from_wants (While test body) store wants = wants
  from_wants (Repeat body until test) store wants = wants
  from_wants (Assign name op value) store wants = absurd wants
  from_wants (Invoke name actuals) store wants = absurd wants
  from_wants (For head body) store wants = absurd wants
  from_wants (Border kind names) store wants = absurd wants
  from_wants (Write line items) store wants = absurd wants
  from_wants (Return value) store wants = absurd wants

  module _ (whole : Form) (first : Store) where
    record LoopFound : Type 0 where
      loop : Form
      there : Store
      met : IsMetAt point n whole first loop there
      wants : WantsTurn (runner_of point n) 0 loop there

    part_met : (part : Stmt) (form : Form) (store later : Store)
        → IsMetAt point n whole first form store
        → ComesIn (runner_of point n) 0 form store part later
        → IsMetAt point n whole first (form_of part) later
    part_met (Prefixed at prefixes part) form store later met comes =
        IsMetAt.Within form store at prefixes part later met comes

    abbrev Finds : Stmt → Type 0
    Finds stmt =
        (store : Store) → IsMetAt point n whole first (form_of stmt) store
        → (point_stmt point n stmt store).ending ≡ More → LoopFound

    form_finds : (form : Form)
        → ((part : Stmt) → Among (parts_of form) part → Finds part)
        → (store : Store) → IsMetAt point n whole first form store
        → (point_form point n form store).ending ≡ More → LoopFound
    form_finds form deeper store met e =
        finds (runner_of point n) point_runs LoopFound 0 form store (wants_from form store e)
        (λ wants. record { loop = form; there = store; met = met; wants = wants })
        (λ part later comes more. deeper part
        (form_among (runner_of point n) 0 form store part later comes) later
        (part_met part form store later met comes) more)

    stmt_finds : (stmt : Stmt) → Finds stmt
    stmt_finds =
        by_parts Finds (λ at prefixes form deeper store met e. form_finds form deeper store met e)

    loop_found : (point_form point n whole first).ending ≡ More → LoopFound
    loop_found e = stmt_finds (Prefixed 0 [] whole) first IsMetAt.Whole e

    met_wants : (form : Form) (store : Store) → IsMetAt point n whole first form store
        → (point_form point n form store).ending ≡ More
        → (point_form point n whole first).ending ≡ More
    met_wants form store IsMetAt.Whole e = e
    met_wants form store (IsMetAt.Within outer earlier at prefixes part later met comes) e =
        met_wants outer earlier met (from_wants outer earlier
        (comes_wants (runner_of point n) point_runs 0 outer earlier (Prefixed at prefixes part)
        later comes e))

    loop_wants : (loop : Form) (there : Store) → IsMetAt point n whole first loop there
        → WantsTurn (runner_of point n) 0 loop there
        → (point_form point n whole first).ending ≡ More
    loop_wants loop there met wants =
        met_wants loop there met (from_wants loop there
        (turn_wants (runner_of point n) point_runs 0 loop there wants))

-- ---- all tuples

mapped : {A B : Type 0} (f : A → B) (xs : List A) (y : B) → Among (map f xs) y
    → (x : A) × Among xs x × (f x ≡ y)
mapped f [] y m = absurd m
mapped f (x ∷ xs) y (inl e) = (x, inl refl, e)
mapped f (x ∷ xs) y (inr m) = let found = mapped f xs y m in (found.0, inr found.1, found.2)

in_map : {A B : Type 0} (f : A → B) (xs : List A) (x : A) → Among xs x → Among (map f xs) (f x)
in_map f [] x m = absurd m
in_map f (y ∷ ys) x (inl e) = inl (ap f e)
in_map f (y ∷ ys) x (inr m) = inr (in_map f ys x m)

module _ (place : Place) (line n : ℕ) (form : Form) (store : Store) where
  abbrev outcome_at : List ℤ → Outcome
  outcome_at = run_at place (split_rank place form) line n form store

  abbrev tuples : List (List ℤ)
  tuples = kept_tuples store (split_over place form)

  abbrev to_run : List ℤ → Run
  to_run t = record { tuple = t; outcome = outcome_at t }

  abbrev checked : Computed (List Field)
  checked = parts_in place (split_rank place form) (split_over place form) form store

  pub tuple_found : (shattered place line n form store).ending ≡ More
      → SomeTupleStops place line n form store
  tuple_found e =
      let ran = value_wants checked store line
      (λ _. all_runs store (runs_of outcome_at tuples)) e in
      let wanting = (tuples_exact store (runs_of outcome_at tuples)).0 ran.2 in
      let from = mapped to_run tuples wanting.run
      (among_from_Contains (runs_of outcome_at tuples) wanting.run wanting.there) in
      let more : (outcome_at from.0).ending ≡ More =
      ap (λ (run : Run). run.outcome.ending) from.2 ∙ wanting.wants in
      let found = loop_found (point_at place line form from.0) n form (at_tuple from.0 store) more
      in
      record {
        tuple = from.0;
        runs = record {
          fields = ran.0;
          checked = ran.1;
          kept = Contains-from_among tuples from.0 from.1;
        };
        loop = found.loop;
        there = found.there;
        met = found.met;
        wants = found.wants;
      }

  pub tuple_stops : SomeTupleStops place line n form store
      → (shattered place line n form store).ending ≡ More
  tuple_stops stops =
      value_goes checked store line (λ _. all_runs store (runs_of outcome_at tuples))
      stops.runs.fields stops.runs.checked
      ∙ (tuples_exact store (runs_of outcome_at tuples)).1 (record {
        run = to_run stops.tuple;
        there = Contains-from_among (runs_of outcome_at tuples) (to_run stops.tuple)
            (in_map to_run tuples stops.tuple
            (among_from_Contains tuples stops.tuple stops.runs.kept));
        wants = loop_wants (point_at place line form stops.tuple) n form
            (at_tuple stops.tuple store) stops.loop stops.there stops.met stops.wants;
      })
