-- Values that are computed one after another, each into a free scalar of its own.
use Rattle.std.proofs.Common.{◌≡◌, ℕ, suc, ◌+◌, ◌≤◌, ◌<◌, ℤ, List, [], ◌∷◌, length}
use Rattle.std.proofs.Common.{refl, sym, ap, ◌∙◌, subst, arith}
use Rattle.zpl_nums.specs.Integer.{IsInteger}
use Rattle.lowering_fits.specs.of_zpl_meaning.Computed as mean
use Rattle.lowering_fits.specs.of_zpl_meaning.Store.{Store}
use Rattle.lowering_fits.specs.of_zpl_meaning.Context.{Place}
use Rattle.lowering_fits.specs.of_zpl_meaning.Value as mean_value
use Rattle.lowering_fits.specs.of_zpl_meaning.Scalars.{values_of}
use Rattle.lowering_fits.specs.of_zpl_meaning.Outcome as out
use Rattle.lowering_fits.specs.of_zpl_meaning.Outcome.{Outcome}
use Rattle.node_form.specs.declared.tables.Tables.{Tables}
use Rattle.node_form.specs.Expression.{Expression, words_of}
use Rattle.node_form.specs.Value as flat
use Rattle.node_form.specs.Value.{scalar_operands, value_of}
use Rattle.node_form.proofs.ValueLemmas.{value_of-words_of}
use Rattle.row_runs.specs.Run.{Step}
use Rattle.row_runs.specs.Straight.{Every}
use Rattle.row_runs.specs.Structured as code
use Rattle.row_runs.specs.Structured.{Course, rows_do, by_step}
use Rattle.lowering_fits.specs.of_flat_form.Whole.{Whole}
use Rattle.lowering_fits.specs.of_zpl_lowering.Where.{Where, Next}
use Rattle.lowering_fits.specs.of_zpl_lowering.Words.{scalar_code}
use Rattle.lowering_fits.specs.of_zpl_lowering.Slate as low
use Rattle.lowering_fits.specs.of_zpl_lowering.Hoist.{Free, all_hoisted, hoisted}
use Rattle.lowering_fits.specs.of_zpl_lowering.Hoist as hoist
use Rattle.lowering_fits.specs.of_zpl_lowering.Statement.{value_rows}
use Rattle.lowering_runs.specs.Seen.{Sight, scalar_in, seen_place}
use Rattle.lowering_runs.specs.Run.{step, decide}
use Rattle.lowering_runs.specs.Agrees.{Agrees, Trapping}
use Rattle.lowering_runs.specs.Scalars.{IsScalarAt, IsSameValue, BothGive, BothDivide}
use Rattle.lowering_runs.specs.Stands.{IsSound, Stands, IsLike}
use Rattle.lowering_runs.specs.Values.{AreSet, Falls, Filled, Fills, meant}
use Rattle.lowering_runs.proofs.AgreeLemmas.{led_agrees, sum_of, weaker_agrees}
use Rattle.lowering_runs.proofs.NumberLemmas.{get_set_same, get_set_other}
use Rattle.lowering_runs.proofs.ValueLemmas.{value_same}
use Rattle.lowering_runs.proofs.BareLemmas.{codes_of}
use Rattle.lowering_runs.proofs.RowLemmas.{set, set_to, set_step, like_hidden}

pub meant_length : (exprs : List low.Placed) → length (meant exprs) ≡ length exprs
meant_length [] = refl
meant_length (placed ∷ exprs) = ap suc (meant_length exprs)

abbrev pub AreScalarsAt : Place → List low.Placed → Type 0
AreScalarsAt place exprs = Every (λ placed. IsScalarAt place placed.expr) exprs

-- as much is left as there are expressions
pub left_length : (w : Where) (line : ℕ) (exprs : List low.Placed) (next : Next) (free : Free)
    → length (all_hoisted w.numbers line free (low.settled_each w line next exprs).slate).left
    ≡ length exprs
left_length w line [] next free = refl
left_length w line (placed ∷ exprs) next free =
    let one = low.settled w line next placed.rank placed.expr in
    ap suc (left_length w line exprs (low.behind next one)
    (hoist.behind free (hoisted w.numbers line free one.slate)))

-- ---- rows that set values

-- What is left of each expression has its value in all states of a kind.
pub data AreSame (IsAlike : Whole → Type 0) : mean.Computed (List ℤ) → List Expression → Type 0 where
  NoneSame : AreSame IsAlike (mean.Gives []) []
  MoreSame : {value : mean.Computed ℤ} {values : mean.Computed (List ℤ)} {left : Expression}
      {lefts : List Expression}
      → ((now : Whole) → IsAlike now
      → IsSameValue value (value_of (scalar_operands now.scalars) (words_of left)))
      → AreSame IsAlike values lefts
      → AreSame IsAlike (mean.both_then value values (λ v vs. mean.Gives (v ∷ vs))) (left ∷ lefts)

-- The values are set, in a state of the kind; scalars below them are as they were.
pub record HasSet (IsAlike : Whole → Type 0) (k count : ℕ) (before : Whole) (values : List ℤ)
    (after : Whole) : Type 0 where
  pub alike : IsAlike after
  pub set : AreSet k count values after
  pub below : (j : ℕ) → j < k → scalar_in after j ≡ scalar_in before j

-- setting a scalar that is free leads to a state of the kind
module _ (tables : Tables) (n : ℕ) (IsAlike : Whole → Type 0) (free line : ℕ)
    (sound : (now : Whole) → IsAlike now → IsSound tables now)
    (sets : (now : Whole) → IsAlike now → (v : ℤ) → IsInteger v → (k : ℕ) → free ≤ k
    → k < tables.scalars → IsAlike (set tables n now k v)) where
  abbrev rows : ℕ → List Expression → Whole → Course Whole
  rows k lefts now = rows_do (step tables n) (decide tables n) (value_rows line k lefts) now

  abbrev Sets : ℕ → ℕ → Whole → mean.Computed (List ℤ) → Course Whole → Type 0
  Sets k count now = Fills (HasSet IsAlike k count now) line 0

  one_more : (k count : ℕ) (now : Whole) (v : ℤ) → IsInteger v → k < length now.scalars
      → (values : mean.Computed (List ℤ)) (course : Course Whole)
      → Sets (suc k) count (set tables n now k v) values course
      → Sets k (suc count) now
      (mean.both_then (mean.Gives v) values (λ v vs. mean.Gives (v ∷ vs))) course
  one_more k count now v f inside values course (Filled h few) =
      Filled
      (record {
        alike = h.alike;
        set = record {
          held = (h.below k (omega arith) ∙ get_set_same now.scalars k v inside, h.set.held);
          integers = (f, h.set.integers);
          as_many = ap suc h.set.as_many;
        };
        below = λ j lt. h.below j (omega (arith, lt))
            ∙ get_set_other now.scalars k j v (λ q. absurd (omega (arith, lt, q)));
      })
      few
  one_more k count now v f inside values course (Falls few) = Falls few

  first_fills : (k count : ℕ) (now : Whole) (value : mean.Computed ℤ)
      (values : mean.Computed (List ℤ)) (one : flat.Computed ℤ) (more : Whole → Course Whole)
      → k < length now.scalars → IsSameValue value one
      → ((v : ℤ) → IsInteger v → Sets (suc k) count (set tables n now k v) values
      (more (set tables n now k v)))
      → Sets k (suc count) now (mean.both_then value values (λ v vs. mean.Gives (v ∷ vs)))
      (by_step now (set_to tables n now k line one) more)
  first_fills k count now value values one more inside (BothGive {value = v} f) h =
      one_more k count now v f inside values (more (set tables n now k v)) (h v f)
  first_fills k count now value values one more inside BothDivide h = Falls (omega arith)

  pub values_fill : (values : mean.Computed (List ℤ)) (lefts : List Expression)
      → AreSame IsAlike values lefts → (k : ℕ) → free ≤ k → k + length lefts ≤ tables.scalars
      → (now : Whole) → IsAlike now → Sets k (length lefts) now values (rows k lefts now)
  values_fill values lefts NoneSame k from fits now like =
      Filled
      (record {
        alike = like;
        set = record { held = tt; integers = tt; as_many = refl };
        below = λ j lt. refl;
      })
      (omega arith)
  values_fill values lefts (MoreSame {value = value} {values = others} {left = left} {lefts = more}
      one rest) k from fits now like =
      let s = sound now like in
      let lt : k < tables.scalars = omega (arith, fits) in
      subst (λ (x : Step Whole). Sets k (suc (length more)) now
      (mean.both_then value others (λ v vs. mean.Gives (v ∷ vs))) (by_step now x (rows (suc k) more)))
      (sym (set_step tables n now s.settled k line (words_of left)))
      (first_fills k (length more) now value others
      (value_of (scalar_operands now.scalars) (words_of left)) (rows (suc k) more)
      (omega (arith, lt, s.filled.scalars)) (one now like)
      (λ v f. values_fill others more rest (suc k) (omega (arith, from)) (omega (arith, fits))
      (set tables n now k v) (sets now like v f k from lt)))

-- the same, where what is alike is so in another way too
pub alike_fills : (One Other : List ℤ → Whole → Type 0) (line few most : ℕ)
    (values : mean.Computed (List ℤ)) (course : Course Whole) → few ≤ most
    → ((vs : List ℤ) (after : Whole) → One vs after → Other vs after)
    → Fills One line few values course → Fills Other line most values course
alike_fills One Other line few most values course le f (Filled h less) =
    Filled (f _ _ h) (omega (arith, le, less))
alike_fills One Other line few most values course le f (Falls less) = Falls (omega (arith, le, less))

-- behind jumps
pub led_fills : (IsAlike : List ℤ → Whole → Type 0) (line most jumps : ℕ)
    (values : mean.Computed (List ℤ)) (course : Course Whole) → jumps ≤ most
    → Fills IsAlike line 0 values course
    → Fills IsAlike line most values (code.behind [] jumps course)
led_fills IsAlike line most jumps values course le (Filled {jumps = j} h few) =
    Filled h (omega (arith, sum_of jumps j, few, le))
led_fills IsAlike line most jumps values course le (Falls {jumps = j} few) =
    Falls (omega (arith, sum_of jumps j, few, le))

-- what goes on from the values
pub filled_agrees : (IsAlike : Store → Whole → Type 0) (Like : List ℤ → Whole → Type 0)
    (turns spare line most total : ℕ) (store : Store) (rest : List ℤ → Outcome)
    (others : Whole → Course Whole) (values : mean.Computed (List ℤ)) (course : Course Whole)
    → most + spare ≤ total
    → ((vs : List ℤ) (after : Whole) → Like vs after
    → Agrees IsAlike turns spare (rest vs) (others after))
    → Fills Like line most values course
    → Agrees IsAlike turns total (out.with_value values store line rest)
    (code.then_do course others)
filled_agrees IsAlike Like turns spare line most total store rest others values course le h
    (Filled {after = after} {jumps = jumps} {values = vs} l few) =
    weaker_agrees IsAlike turns turns (jumps + spare) total (rest vs)
    (code.behind [] jumps (others after)) (omega arith) (omega (arith, few, le))
    (led_agrees IsAlike turns spare jumps (rest vs) (others after) (h vs after l))
filled_agrees IsAlike Like turns spare line most total store rest others values course le h
    (Falls few) =
    Trapping (omega (arith, few, le))

-- ---- of scalars

module _ (tables : Tables) (n : ℕ) (sight : Sight) (w : Where) (next : Next) (start : Whole)
    (stands : Stands sight.spots w next) (room : next.scalars ≤ tables.scalars) (line : ℕ)
    (store : Store) where
  abbrev place : Place
  place = seen_place sight w start

  abbrev Like : Whole → Type 0
  Like = IsLike tables sight.spots w next start store

  codes_same : (exprs : List low.Placed) → AreScalarsAt place exprs
      → AreSame Like (values_of place.environment store (meant exprs)) (codes_of w exprs)
  codes_same [] s = NoneSame
  codes_same (placed ∷ exprs) s =
      MoreSame
      (λ now like.
      subst (λ (v : flat.Computed ℤ).
      IsSameValue (mean_value.value_of place.environment store placed.expr) v)
      (sym (value_of-words_of (scalar_operands now.scalars) (scalar_code w placed.expr)))
      (subst (λ (t : Store). IsSameValue (mean_value.value_of place.environment t placed.expr)
      (flat.tree_value (scalar_operands now.scalars) (scalar_code w placed.expr))) (sym like.seen)
      (value_same tables sight.spots w next now stands room like.sound placed.expr s.0.0 s.0.1)))
      (codes_same exprs s.1)

  codes_length : (exprs : List low.Placed) → length (codes_of w exprs) ≡ length exprs
  codes_length [] = refl
  codes_length (placed ∷ exprs) = ap suc (codes_length exprs)

  abbrev Set_ : ℕ → ℕ → List ℤ → Whole → Type 0
  Set_ k count values after = Like after × AreSet k count values after

  pub scalars_fill : (exprs : List low.Placed) (k : ℕ) (now : Whole) → AreScalarsAt place exprs
      → next.scalars ≤ k → k + length exprs ≤ tables.scalars → Like now
      → Fills (Set_ k (length exprs)) line 0 (values_of place.environment store (meant exprs))
      (rows_do (step tables n) (decide tables n) (value_rows line k (codes_of w exprs)) now)
  scalars_fill exprs k now s from fits like =
      subst (λ (count : ℕ). Fills (Set_ k count) line 0
      (values_of place.environment store (meant exprs))
      (rows_do (step tables n) (decide tables n) (value_rows line k (codes_of w exprs)) now))
      (codes_length exprs)
      (alike_fills (HasSet Like k (length (codes_of w exprs)) now) (Set_ k (length (codes_of w exprs)))
      line 0 0 _ _ (omega arith) (λ vs after h. (h.alike, h.set))
      (values_fill tables n Like next.scalars line (λ now like. like.sound)
      (λ now like v f k free lt.
      like_hidden tables n sight.spots w next start store now like stands.rises v f k free lt)
      (values_of place.environment store (meant exprs)) (codes_of w exprs) (codes_same exprs s) k from
      (omega (arith, fits, codes_length exprs)) now like))

  pub values_agree : (IsAlike : Store → Whole → Type 0) (turns spare : ℕ) (exprs : List low.Placed)
      (k : ℕ) (now : Whole) (rest : List ℤ → Outcome) (others : Whole → Course Whole)
      → AreScalarsAt place exprs → next.scalars ≤ k → k + length exprs ≤ tables.scalars → Like now
      → ((values : List ℤ) (after : Whole) → Like after → AreSet k (length exprs) values after
      → Agrees IsAlike turns spare (rest values) (others after))
      → Agrees IsAlike turns spare
      (out.with_value (values_of place.environment store (meant exprs)) store line rest)
      (code.then_do (rows_do (step tables n) (decide tables n)
      (value_rows line k (codes_of w exprs)) now) others)
  values_agree IsAlike turns spare exprs k now rest others s from fits like h =
      filled_agrees IsAlike (Set_ k (length exprs)) turns spare line 0 spare store rest others _ _
      (omega arith) (λ vs after l. h vs after l.0 l.1) (scalars_fill exprs k now s from fits like)
