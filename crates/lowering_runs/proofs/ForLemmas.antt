-- Counted loops: three scalars that are free hold the counter, the last value and the step.
use Rattle.std.proofs.Common.{◌≡◌, ◌≢◌, ℕ, suc, ◌+◌, ◌≤◌, ◌<◌, Bool, true, false, not, ◌&&◌}
use Rattle.std.proofs.Common.{◌||◌, ℤ, pos, ◌+ℤ◌, ◌-ℤ◌, ◌≤ℤ◌, [], ◌∷◌, length, Option, Some}
use Rattle.std.proofs.Common.{refl, sym, ap, ◌∙◌, subst, arith}
use Rattle.std.specs.Prelude.{slice_get, int_lt, int_le}
use Rattle.zpl_nums.specs.declared.operators.Op.{Op}
use Rattle.zpl_nums.specs.declared.operators.Op.TheVariants as op
use Rattle.zpl_nums.specs.Integer.{IsInteger, wrapped, is_true, truth}
use Rattle.zpl_nums.specs.Op.{applied}
use Rattle.zpl_nums.proofs.IntegerLemmas.{is_true-truth, IsInteger-truth, IsInteger-wrapped}
use Rattle.lowering_fits.specs.of_zpl_meaning.Computed as mean
use Rattle.lowering_fits.specs.of_zpl_meaning.Store.{Store}
use Rattle.lowering_fits.specs.of_zpl_meaning.Store as mean_store
use Rattle.lowering_fits.specs.of_zpl_meaning.Context.{Place}
use Rattle.lowering_fits.specs.of_zpl_meaning.Outcome as out
use Rattle.lowering_fits.specs.of_zpl_meaning.Outcome.{Outcome, Count, is_past, next_value}
use Rattle.lowering_fits.specs.of_zpl_meaning.Statement.{Context}
use Rattle.node_form.specs.Expression.{Expression, Variable, Operation, words_of}
use Rattle.node_form.specs.Value as flat
use Rattle.node_form.specs.Value.{scalar_operands, value_of, tree_value}
use Rattle.node_form.proofs.ValueLemmas.{value_of-words_of}
use Rattle.row_runs.specs.Run.{Step}
use Rattle.row_runs.specs.Code.{Says}
use Rattle.row_runs.specs.Structured as code
use Rattle.row_runs.specs.Structured.{Course, rows_do, by_step}
use Rattle.lowering_fits.specs.of_flat_form.Whole.{Whole}
use Rattle.lowering_fits.specs.of_zpl_lowering.Where.{Where, Next}
use Rattle.lowering_fits.specs.of_zpl_lowering.Lowered.{Lowered, check_of}
use Rattle.lowering_fits.specs.of_zpl_lowering.Statement as low
use Rattle.lowering_fits.specs.of_zpl_lowering.Statement.{Lowering, Counter, counter_from}
use Rattle.lowering_runs.specs.Seen.{scalar_in, Sight, numbered, place_of, seen_place}
use Rattle.lowering_runs.specs.Run.{step, decide, does}
use Rattle.lowering_runs.specs.Agrees.{Agrees}
use Rattle.lowering_runs.specs.Scalars.{BothGive, IsSameValue}
use Rattle.lowering_runs.specs.Stands.{IsBefore, Stands, HasRoom, IsLike}
use Rattle.lowering_runs.specs.Goes.{World, context, lowering, Goes}
use Rattle.lowering_runs.proofs.NumberLemmas.{get_some, get_set_same, get_set_other, misses_free}
use Rattle.lowering_runs.proofs.NumberLemmas.{number_below}
use Rattle.lowering_runs.proofs.AgreeLemmas.{trailed_agrees}
use Rattle.lowering_runs.proofs.LoopLemmas.{for_agrees}
use Rattle.lowering_runs.proofs.FitLemmas.{like_then, inner_goes}
use Rattle.lowering_runs.proofs.RowLemmas.{set, set_to, set_step, check_says, like_variable, like_hidden}
use Rattle.lowering_runs.proofs.StepLemmas.{le_not, next_up, next_down, done_up, done_down}

-- ---- the tests' values, by those of the three scalars

abbrev pair : Op → flat.Computed ℤ → flat.Computed ℤ → flat.Computed ℤ
pair o left right =
    flat.and_then (λ a. flat.and_then (λ b. flat.divided (applied o a b)) right) left

abbrev enters_of : Bool → flat.Computed ℤ → flat.Computed ℤ → flat.Computed ℤ → flat.Computed ℤ
enters_of down at to by =
    pair op.And (pair op.Ge by (flat.Gives (pos 1))) (pair (low.comparison down) at to)

abbrev done_of : Bool → flat.Computed ℤ → flat.Computed ℤ → flat.Computed ℤ → flat.Computed ℤ
done_of down at to by =
    pair op.Or (pair (low.comparison (not down)) (pair (low.backward down) at by) at)
    (pair (low.strict (not down)) at to)

abbrev moved : Bool → ℤ → ℤ → ℤ
moved true v by = v -ℤ by
moved false v by = v +ℤ by

-- whether the value isn't past the last one
abbrev pub within : Bool → ℤ → ℤ → Bool
within true v last = int_le last v
within false v last = int_le v last

-- whether it is done
abbrev ended : Bool → ℤ → ℤ → ℤ → Bool
ended true v by last = int_le (wrapped (v +ℤ by)) v || int_lt v last
ended false v by last = int_le v (wrapped (v -ℤ by)) || int_lt last v

pub within_is : (d : Bool) (v by last : ℤ)
    → within d v last ≡ not (is_past (record { down = d; by = by; last = last }) v)
within_is true v by last = le_not last v
within_is false v by last = le_not v last

enters_is : (down : Bool) (v last by : ℤ)
    → enters_of down (flat.Gives v) (flat.Gives last) (flat.Gives by)
    ≡ flat.Gives (truth (int_le (pos 1) by && within down v last))
enters_is true v last by =
    ap (λ b. flat.Gives (truth (b && is_true (truth (int_le last v))))) (is_true-truth (int_le (pos 1) by))
    ∙ ap (λ b. flat.Gives (truth (int_le (pos 1) by && b))) (is_true-truth (int_le last v))
enters_is false v last by =
    ap (λ b. flat.Gives (truth (b && is_true (truth (int_le v last))))) (is_true-truth (int_le (pos 1) by))
    ∙ ap (λ b. flat.Gives (truth (int_le (pos 1) by && b))) (is_true-truth (int_le v last))

done_is : (down : Bool) (v last by : ℤ)
    → done_of down (flat.Gives v) (flat.Gives last) (flat.Gives by)
    ≡ flat.Gives (truth (ended down v by last))
done_is true v last by =
    ap (λ b. flat.Gives (truth (b || is_true (truth (int_lt v last)))))
    (is_true-truth (int_le (wrapped (v +ℤ by)) v))
    ∙ ap (λ b. flat.Gives (truth (int_le (wrapped (v +ℤ by)) v || b))) (is_true-truth (int_lt v last))
done_is false v last by =
    ap (λ b. flat.Gives (truth (b || is_true (truth (int_lt last v)))))
    (is_true-truth (int_le v (wrapped (v -ℤ by))))
    ∙ ap (λ b. flat.Gives (truth (int_le v (wrapped (v -ℤ by)) || b))) (is_true-truth (int_lt last v))

step_is : (down : Bool) (v by : ℤ)
    → pair (low.onward down) (flat.Gives v) (flat.Gives by) ≡ flat.Gives (wrapped (moved down v by))
step_is true v by = refl
step_is false v by = refl

by_three : (f : flat.Computed ℤ → flat.Computed ℤ → flat.Computed ℤ → flat.Computed ℤ)
    (x y z a b c : flat.Computed ℤ) → x ≡ a → y ≡ b → z ≡ c → f x y z ≡ f a b c
by_three f x y z a b c p q r =
    ap (λ x. f x y z) p ∙ ap (λ y. f a y z) q ∙ ap (λ z. f a b z) r

-- ---- the loop

module _ (world : World) (sight : Sight) (w : Where) (next : Next) (start : Whole)
    (stands : Stands sight.spots w next) (c : ℕ) (free : next.scalars ≤ c)
    (fits : c + 3 ≤ world.tables.scalars) (down : Bool) (by last : ℤ) (line : ℕ) where
  abbrev Like : Store → Whole → Type 0
  Like = IsLike world.tables sight.spots w next start

  abbrev count : Count
  count = record { down = down; by = by; last = last }

  abbrev counter : Counter
  counter = counter_from c

  -- the three scalars hold these
  pub record AtTurn (v : ℤ) (store : Store) (now : Whole) : Type 0 where
    pub like : Like store now
    pub at : scalar_in now c ≡ v
    pub to : scalar_in now (suc c) ≡ last
    pub step_by : scalar_in now (suc (suc c)) ≡ by

  -- behind a turn
  pub record AtPast (v : ℤ) (store : Store) (now : Whole) : Type 0 where
    pub turn : AtTurn (wrapped (moved down v by)) store now
    pub was : IsInteger v

  held : (now : Whole) (k : ℕ) (v : ℤ) → k < length now.scalars → scalar_in now k ≡ v
      → tree_value (scalar_operands now.scalars) (Variable k) ≡ flat.Gives v
  held now k v lt e =
      ap (λ (o : Option ℤ). flat.read o) (get_some now.scalars k (pos 0) lt)
      ∙ ap (λ (x : ℤ). flat.Gives x) e

  inside : (store : Store) (now : Whole) → Like store now → (i : ℕ) → i ≤ suc (suc c)
      → i < length now.scalars
  inside store now like i le = omega (arith, le, fits, like.sound.filled.scalars)

  -- a test of these three
  three : (f : flat.Computed ℤ → flat.Computed ℤ → flat.Computed ℤ → flat.Computed ℤ)
      (expr : Expression) (v : ℤ) (store : Store) (now : Whole) (h : AtTurn v store now)
      → tree_value (scalar_operands now.scalars) expr
      ≡ f (tree_value (scalar_operands now.scalars) (Variable c))
      (tree_value (scalar_operands now.scalars) (Variable (suc c)))
      (tree_value (scalar_operands now.scalars) (Variable (suc (suc c))))
      → value_of (scalar_operands now.scalars) (words_of expr)
      ≡ f (flat.Gives v) (flat.Gives last) (flat.Gives by)
  three f expr v store now h e =
      value_of-words_of (scalar_operands now.scalars) expr ∙ e
      ∙ by_three f _ _ _ (flat.Gives v) (flat.Gives last) (flat.Gives by)
      (held now c v (inside store now h.like c (omega arith)) h.at)
      (held now (suc c) last (inside store now h.like (suc c) (omega arith)) h.to)
      (held now (suc (suc c)) by (inside store now h.like (suc (suc c)) (omega arith)) h.step_by)

  check_is : (expr : Expression) (b : Bool) (store : Store) (now : Whole) → Like store now
      → value_of (scalar_operands now.scalars) (words_of expr) ≡ flat.Gives (truth b)
      → decide world.tables world.turns (check_of expr line) now ≡ Says b
  check_is expr b store now like e =
      check_says world.tables world.turns now like.sound.settled (check_of expr line)
      (mean.Gives (truth b))
      (subst (λ (v : flat.Computed ℤ). IsSameValue (mean.Gives (truth b)) v) (sym e)
      (BothGive (IsInteger-truth b)))
      ∙ ap (λ b. Says b) (is_true-truth b)

  pub enters_says : (v : ℤ) (store : Store) (now : Whole) → AtTurn v store now
      → decide world.tables world.turns (check_of (low.enters down counter) line) now
      ≡ Says (int_le (pos 1) by && within down v last)
  enters_says v store now h =
      check_is (low.enters down counter) (int_le (pos 1) by && within down v last) store now h.like
      (three (enters_of down) (low.enters down counter) v store now h refl
      ∙ enters_is down v last by)

  done_says : (v : ℤ) (store : Store) (now : Whole) → AtTurn v store now
      → decide world.tables world.turns (check_of (low.is_done down counter) line) now
      ≡ Says (ended down v by last)
  done_says v store now h =
      check_is (low.is_done down counter) (ended down v by last) store now h.like
      (three (done_of down) (low.is_done down counter) v store now h refl
      ∙ done_is down v last by)

  module _ (one : pos 1 ≤ℤ by) where
    past_is : (v : ℤ) → IsInteger v → IsInteger by → IsInteger last → (d : Bool) → d ≡ down
        → ended d (wrapped (moved d v by)) by last
        ≡ is_past (record { down = d; by = by; last = last })
        (next_value (record { down = d; by = by; last = last }) v)
    past_is v fv fb fl true e = done_down v by last fv fb fl one
    past_is v fv fb fl false e = done_up v by last fv fb fl one

    next_is : (v : ℤ) → IsInteger v → IsInteger by → IsInteger last → (d : Bool)
        → is_past (record { down = d; by = by; last = last })
        (next_value (record { down = d; by = by; last = last }) v) ≡ false
        → wrapped (moved d v by) ≡ next_value (record { down = d; by = by; last = last }) v
    next_is v fv fb fl true e = next_down v by last fv fb fl one e
    next_is v fv fb fl false e = next_up v by last fv fb fl one e

    integer_by : (v : ℤ) (store : Store) (now : Whole) → AtTurn v store now → IsInteger by
    integer_by v store now h =
        subst (λ (x : ℤ). IsInteger x) h.step_by (h.like.sound.integers (suc (suc c)))

    integer_last : (v : ℤ) (store : Store) (now : Whole) → AtTurn v store now → IsInteger last
    integer_last v store now h =
        subst (λ (x : ℤ). IsInteger x) h.to (h.like.sound.integers (suc c))

    -- ---- a turn: the variable is set, the body, and the step

    module _ (p k : ℕ) (found : slice_get (numbered sight.spots) p ≡ Some k)
        (more : Next) (before : IsBefore next more) (taken : c + 3 ≤ more.scalars)
        (IsServed : Where → Place → Type 0) (run : Context → Store → Outcome)
        (made : Lowering → Next → Lowered) (goes : Goes world IsServed run made 0)
        (served : IsServed w (seen_place sight w start))
        (room : HasRoom world.tables more (made (lowering world w) more)) where
      abbrev set_variable : ℤ → Store → Store
      set_variable v store = mean_store.with_scalar store (place_of sight.spots p) v

      abbrev body : Whole → Course Whole
      body = does world.tables world.turns (made (lowering world w) more).code

      abbrev variable_rows : Whole → Course Whole
      variable_rows = rows_do (step world.tables world.turns) (decide world.tables world.turns)
          (low.set_row line (Variable c) (Some k))

      abbrev step_rows : Whole → Course Whole
      step_rows = rows_do (step world.tables world.turns) (decide world.tables world.turns)
          (low.step_row down counter line ∷ [])

      abbrev turn_of : Whole → Course Whole
      turn_of now = code.then_do (code.then_do (variable_rows now) body) step_rows

      below : k < next.scalars
      below = (number_below 0 (numbered sight.spots) next.scalars p k stands.rises found).1

      apart : (i : ℕ) → c ≤ i → i ≢ k
      apart i le e = absurd (omega (arith, le, free, below, e))

      abbrev at_first : Whole → ℤ → Whole
      at_first now v = set world.tables world.turns now k v

      abbrev at_last : ℤ → Whole → Whole
      at_last v after = set world.tables world.turns after c (wrapped (moved down v by))

      variable_set : (v : ℤ) (store : Store) (now : Whole) → AtTurn v store now
          → variable_rows now ≡ code.goes_on (at_first now v)
      variable_set v store now h =
          ap (λ (s : Step Whole). by_step now s (λ after. code.goes_on after))
          (set_step world.tables world.turns now h.like.sound.settled k line (words_of (Variable c)))
          ∙ ap (λ (x : flat.Computed ℤ). by_step now (set_to world.tables world.turns now k line x)
          (λ after. code.goes_on after))
          (value_of-words_of (scalar_operands now.scalars) (Variable c)
          ∙ held now c v (inside store now h.like c (omega arith)) h.at)

      -- the three scalars are what they were, behind the body
      frame : (v : ℤ) (store : Store) (now : Whole) → AtTurn v store now → (s : Store)
          (after : Whole) → IsLike world.tables sight.spots w more (at_first now v) s after
          → (i : ℕ) → c ≤ i → i < c + 3 → scalar_in after i ≡ scalar_in now i
      frame v store now h s after l i le lt =
          l.kept.hidden i (omega (arith, lt, taken))
          (misses_free 0 (numbered sight.spots) next.scalars i stands.rises
          (omega (arith, le, free)))
          ∙ get_set_other now.scalars k i v (apart i le)

      stepped : (v : ℤ) (store : Store) (now : Whole) → AtTurn v store now → (s : Store)
          (after : Whole) → IsLike world.tables sight.spots w more (at_first now v) s after
          → (step_rows after ≡ code.goes_on (at_last v after)) × AtPast v s (at_last v after)
      stepped v store now h s after l =
          let x = wrapped (moved down v by) in
          let was : IsInteger v = subst (λ (y : ℤ). IsInteger y) h.at (h.like.sound.integers c) in
          let k1 : k < world.tables.scalars = omega (arith, below, free, fits) in
          let first = like_variable world.tables world.turns sight.spots w next start store now
          h.like stands.rises v was p k found k1 in
          let far = like_then world.tables sight.spots w next more start
          (set_variable v store) (at_first now v) s after before first l in
          let keep = frame v store now h s after l in
          let here : scalar_in after c ≡ v = keep c (omega arith) (omega arith) ∙ h.at in
          let to : scalar_in after (suc c) ≡ last =
          keep (suc c) (omega arith) (omega arith) ∙ h.to in
          let gap : scalar_in after (suc (suc c)) ≡ by =
          keep (suc (suc c)) (omega arith) (omega arith) ∙ h.step_by in
          let lt : c < world.tables.scalars = omega (arith, fits) in
          let within_after : c < length after.scalars = inside s after far c (omega arith) in
          let value : value_of (scalar_operands after.scalars)
          (words_of (Operation (low.onward down) (Variable c) (Variable (suc (suc c)))))
          ≡ flat.Gives x =
          value_of-words_of (scalar_operands after.scalars)
          (Operation (low.onward down) (Variable c) (Variable (suc (suc c))))
          ∙ ap (λ (a : flat.Computed ℤ). pair (low.onward down) a
          (tree_value (scalar_operands after.scalars) (Variable (suc (suc c)))))
          (held after c v within_after here)
          ∙ ap (λ (b : flat.Computed ℤ). pair (low.onward down) (flat.Gives v) b)
          (held after (suc (suc c)) by (inside s after far (suc (suc c)) (omega arith)) gap)
          ∙ step_is down v by in (
            ap (λ (o : Step Whole). by_step after o (λ w'. code.goes_on w'))
                (set_step world.tables world.turns after far.sound.settled c line
                (words_of (Operation (low.onward down) (Variable c) (Variable (suc (suc c))))))
                ∙ ap (λ (y : flat.Computed ℤ). by_step after
                (set_to world.tables world.turns after c line y) (λ w'. code.goes_on w')) value,
            record {
              turn = record {
                like = like_hidden world.tables world.turns sight.spots w next start s after far
                    stands.rises x (IsInteger-wrapped (moved down v by)) c free lt;
                at = get_set_same after.scalars c x within_after;
                to = get_set_other after.scalars c (suc c) x (λ e. absurd (omega (arith, e))) ∙ to;
                step_by = get_set_other after.scalars c (suc (suc c)) x
                    (λ e. absurd (omega (arith, e))) ∙ gap;
              };
              was = was;
            },
          )

      turn_agrees : (v : ℤ) (store : Store) (now : Whole) → AtTurn v store now
          → Agrees (AtPast v) world.turns 0
          (run (context world sight w start) (set_variable v store)) (turn_of now)
      turn_agrees v store now h =
          let was : IsInteger v = subst (λ (y : ℤ). IsInteger y) h.at (h.like.sound.integers c) in
          let k1 : k < world.tables.scalars = omega (arith, below, free, fits) in
          let first = like_variable world.tables world.turns sight.spots w next start store now
          h.like stands.rises v was p k found k1 in
          subst (λ (o : Course Whole). Agrees (AtPast v) world.turns 0
          (run (context world sight w start) (set_variable v store))
          (code.then_do (code.then_do o body) step_rows)) (sym (variable_set v store now h))
          (trailed_agrees (IsLike world.tables sight.spots w more (at_first now v)) (AtPast v)
          world.turns 0 _ _ step_rows (at_last v)
          (λ s after l. stepped v store now h s after l)
          (inner_goes world IsServed run made 0 goes sight w next more start before stands served
          room (set_variable v store) (at_first now v) first))

      pub turns_agree : (m : ℕ) → m ≤ world.turns → (v : ℤ) (store : Store) (now : Whole)
          → AtTurn v store now → is_past count v ≡ false
          → Agrees Like m 0
          (out.for_turns m count set_variable (run (context world sight w start)) v store)
          (code.repeat_turns (step world.tables world.turns) (decide world.tables world.turns) m
          turn_of (λ s. code.goes_on s) (check_of (low.is_done down counter) line) now)
      turns_agree =
          for_agrees (step world.tables world.turns) (decide world.tables world.turns) Like count
          set_variable (check_of (low.is_done down counter) line) world.turns
          (run (context world sight w start)) (λ s. code.goes_on s) turn_of AtTurn AtPast
          (λ v store now h. turn_agrees v store now h) (λ now. refl)
          (λ v store now h. done_says (wrapped (moved down v by)) store now h.turn
          ∙ ap (λ b. Says b)
          (past_is v h.was (integer_by (wrapped (moved down v by)) store now h.turn)
          (integer_last (wrapped (moved down v by)) store now h.turn) down refl))
          (λ v store now h. h.turn.like)
          (λ v store now h e. subst (λ (x : ℤ). AtTurn x store now)
          (next_is v h.was (integer_by (wrapped (moved down v by)) store now h.turn)
          (integer_last (wrapped (moved down v by)) store now h.turn) down e) h.turn)
