-- A loop of one accumulation may stand where its words read well.
use Rattle.std.proofs.Common.{◌≡◌, refl, ◌∙◌, ap, arith, ℕ, ◌<◌, Bool, true, false, ◌&&◌, not}
use Rattle.std.proofs.Common.{List, [], ◌∷◌, ◌++◌, ℤ, Option, Some, None, append-nil}
use Rattle.std.specs.Prelude.{◌==◌, ◌||◌, flat_map, slice_get}
use Rattle.std.specs.List.{list_all}
use Rattle.std.specs.Ordering.{int_eq}
use Rattle.std.proofs.lemmas.Bool.Decides.{Decides-int_eq, Decides-eqb}
use Rattle.zpl_nums.specs.declared.folds.Fold.{Fold}
use Rattle.zpl_nums.specs.Fold.{unit_of}
use Rattle.zpl_region.specs.declared.regions.Region.{Region}
use Rattle.zpl_meaning.specs.Context.{Mask}
use Rattle.node_form.specs.declared.tables.Tables.{Tables}
use Rattle.node_form.specs.declared.words.ExprOp.{ExprOp}
use Rattle.node_form.specs.Expression.{words_of}
use Rattle.row_runs.specs.Straight.{Every}
use Rattle.flat_form.specs.Loop.{loop_stands}
use Rattle.flat_form.specs.Names.{word_reads, word_scalars}
use Rattle.flat_form.specs.Right.{can_read, is_among, is_value, no_flood}
use Rattle.flat_form.specs.Row.{Words, mask_words}
use Rattle.flat_form.specs.Whole.{Whole}
use Rattle.print_runs.specs.of_zpl_lowering.Where.{Stored, Numbers}
use Rattle.print_runs.specs.of_zpl_lowering.Hoist.{array_code, mask_code, mask_word}
use Rattle.print_runs.proofs.of_array_runs.AssignLemmas.{all_read}
use Rattle.operator_runs.proofs.JoinLemmas.{acc_group}

-- ---- a scalar isn't among those that are below it

int_same : (z : ℤ) → int_eq z z ≡ true
int_same z = (Decides-int_eq z z).1 refl

apart : (j k : ℕ) → j < k → (j == k) ≡ false
apart j k lt = by (j == k) refl
  where
    by : (b : Bool) → (j == k) ≡ b → (j == k) ≡ false
    by false e = e
    by true e = let same : j ≡ k = (Decides-eqb j k).0 e in absurd (omega (arith, lt, same))

abbrev pub NamesBelow : ℕ → ExprOp → Type 0
NamesBelow k one = Every (λ j. j < k) (word_scalars one)

none_here : (k : ℕ) (js : List ℕ) → Every (λ j. j < k) js → is_among k js ≡ false
none_here k [] h = refl
none_here k (j ∷ js) h =
    ap (λ b. b || is_among k js) (apart j k h.0) ∙ none_here k js h.1

any_append : (k : ℕ) (xs ys : List ℕ) → is_among k xs ≡ false → is_among k ys ≡ false
    → is_among k (xs ++ ys) ≡ false
any_append k [] ys h i = i
any_append k (x ∷ xs) ys h i = by (x == k) (λ e. any_append k xs ys e i) h
  where
    by : (b : Bool) → (is_among k xs ≡ false → is_among k (xs ++ ys) ≡ false)
        → (b || is_among k xs) ≡ false → (b || is_among k (xs ++ ys)) ≡ false
    by true more e = e
    by false more e = more e

none_in : (k : ℕ) (words : Words) → Every (NamesBelow k) words
    → is_among k (flat_map word_scalars words) ≡ false
none_in k [] h = refl
none_in k (one ∷ words) h =
    any_append k (word_scalars one) (flat_map word_scalars words) (none_here k (word_scalars one) h.0)
    (none_in k words h.1)

none_among : (k : ℕ) (exprs : List Words) → Every (λ (words : Words). Every (NamesBelow k) words) exprs
    → is_among k (flat_map (λ expr. flat_map word_scalars expr) exprs) ≡ false
none_among k [] h = refl
none_among k (words ∷ exprs) h =
    any_append k (flat_map word_scalars words) _ (none_in k words h.0) (none_among k exprs h.1)

-- masks name no scalars
pub mask_names : (numbers : Numbers) (k : ℕ) (mask : Option Mask)
    → Every (λ (words : Words). Every (NamesBelow k) words) (mask_words (mask_code numbers mask))
mask_names numbers k None = tt
mask_names numbers k (Some mask) = (by mask.without (slice_get numbers.arrays mask.array), tt)
  where
    by : (without : Bool) (o : Option Stored)
        → Every (NamesBelow k) (words_of (mask_word without (array_code o)))
    by true None = (tt, (tt, tt))
    by true (Some stored) = (tt, (tt, tt))
    by false None = (tt, tt)
    by false (Some stored) = (tt, tt)

-- ---- the loop

pub acc_stands : (tables : Tables) (whole : Whole) (region : Region) (scalar : ℕ) (operator : Fold)
    (expr : Words) (mask : Option Words) (line : ℕ) → no_flood region ≡ true
    → slice_get whole.scalars scalar ≡ Some (unit_of operator)
    → Every (λ (words : Words). Every (λ one.
    list_all (can_read tables whole region) (word_reads one) ≡ true) words) (expr ∷ mask_words mask)
    → Every (λ (words : Words). Every (NamesBelow scalar) words) (expr ∷ mask_words mask)
    → loop_stands tables whole region (acc_group scalar operator expr mask line) ≡ true
acc_stands tables whole region scalar operator expr mask line flat unit reads names =
    ap (λ (es : List Words). list_all (can_read tables whole region)
    (flat_map (λ expr. flat_map word_reads expr) es)
    && (no_flood region && ((is_value (unit_of operator) (slice_get whole.scalars scalar)
    && not (is_among scalar (flat_map (λ expr. flat_map word_scalars expr) es))) && true)))
    (append-nil (expr ∷ mask_words mask))
    ∙ ap (λ b. b && (no_flood region && ((is_value (unit_of operator)
    (slice_get whole.scalars scalar)
    && not (is_among scalar (flat_map (λ expr. flat_map word_scalars expr)
    (expr ∷ mask_words mask)))) && true)))
    (all_read (can_read tables whole region) (expr ∷ mask_words mask) reads)
    ∙ ap (λ b. b && ((is_value (unit_of operator) (slice_get whole.scalars scalar)
    && not (is_among scalar (flat_map (λ expr. flat_map word_scalars expr)
    (expr ∷ mask_words mask)))) && true)) flat
    ∙ ap (λ o. (is_value (unit_of operator) o
    && not (is_among scalar (flat_map (λ expr. flat_map word_scalars expr)
    (expr ∷ mask_words mask)))) && true) unit
    ∙ ap (λ b. (b && not (is_among scalar (flat_map (λ expr. flat_map word_scalars expr)
    (expr ∷ mask_words mask)))) && true) (int_same (unit_of operator))
    ∙ ap (λ b. not b && true) (none_among scalar (expr ∷ mask_words mask) names)
