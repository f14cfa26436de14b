-- The values of configs and constants are of 64 bits.
use Rattle.std.proofs.Common.{◌≡◌, ℕ, Bool, true, false, ◌&&◌, ℤ, pos, List, [], ◌∷◌, ◌++◌, Option, Some, None, if◌then◌else◌, find, refl, arith, ◌==◌, neg_ℤ, int_le, IfSome}
use Rattle.std.specs.Bool.{⊤}
use Rattle.std.proofs.lemmas.Int.{ints}
use Rattle.std.specs.List.{AllByRecursion}
use Rattle.std.specs.Str.{bytes_eq}
use Rattle.zpl_nums.specs.Integer.{IsInteger, least, greatest, truth}
use Rattle.zpl_nums.specs.Op.{applied}
use Rattle.zpl_nums.proofs.IntegerLemmas.{IsInteger-truth}
use Rattle.zpl_nums.proofs.OperatorLemmas.{IsInteger-applied, IsInteger-negated, IsInteger-absolute}
use Rattle.zpl_tree.specs.Syntax.{Base, Integer, Boolean, Other, Expr, Number, Truth, Coord, Named, Shifted, Around, Remap, Call, Paren, Neg, Not, Abs, Pair, Reduce, Scan, Flood, Define, Decl, Config, Constant, Regions, Directions, Vars, Defined, Program}
use Rattle.zpl_binding.specs.Outcome.{Outcome, Gives, Fails, and_then, value_or, Computed, outcome_or, outcome_of}
use Rattle.zpl_binding.specs.Settings.{Setting, setting_of, integer_in_range, digits_of, number_in_range, integer_of, truth_of, value_in, minus, true_text, false_text}
use Rattle.zpl_binding.specs.Constants.{given, value_of, taken, config_value}
use Rattle.zpl_binding.specs.Regions.{Known}
use Rattle.zpl_binding.specs.Declarations.{with_config, with_constant, with_region, with_direction, with_all, with_decl, nothing_known, known_of}
use Rattle.zpl_binding.proofs.DeclarationLemmas.{all-keep}
use Rattle.shown_texts.specs.Numerals.{IsSmallExpr, IsSmallDefine, IsSmallDecl, HasSmallNumerals}

-- the value, where there is one
abbrev IsSmallOutcome : Outcome ℤ → Type 0
IsSmallOutcome (Gives value) = IsInteger value
IsSmallOutcome (Fails fault) = ⊤

abbrev AreSmallValues : List (Computed ℤ) → Type 0
AreSmallValues values = AllByRecursion (λ one. IsSmallOutcome one.outcome) values

zero_small : IsInteger (pos 0)
zero_small = IsInteger-truth false

then_small : (outcome : Outcome ℤ) (next : ℤ → Outcome ℤ) → IsSmallOutcome outcome
    → ((value : ℤ) → IsInteger value → IsSmallOutcome (next value))
    → IsSmallOutcome (and_then outcome next)
then_small (Gives value) next small after = after value small
then_small (Fails fault) next small after = tt

-- ---- values of names

found_small : (test : Computed ℤ → Bool) (values : List (Computed ℤ)) → AreSmallValues values
    → IsSmallOutcome (outcome_or (pos 0) (find test values))
found_small test [] small = zero_small
found_small test (one ∷ rest) small =
    elim (test one) as (λ t. IsSmallOutcome (outcome_or (pos 0)
    (if t then Some one else find test rest))) [
      | true ↦ small.0
      | false ↦ found_small test rest small.1
    ]

name_small : (values : List (Computed ℤ)) (text : List ℕ) → AreSmallValues values
    → IsSmallOutcome (outcome_of (pos 0) values text)
name_small values text small = found_small (λ one. bytes_eq one.name text) values small

value_small : (outcome : Outcome ℤ) → IsSmallOutcome outcome → IsInteger (value_or (pos 0) outcome)
value_small (Gives value) small = small
value_small (Fails fault) small = zero_small

-- ---- values of expressions

given_small : (value : Option ℤ) → IfSome value IsInteger → IsSmallOutcome (given value)
given_small None small = tt
given_small (Some value) small = small

expr_value : (values : List (Computed ℤ)) → AreSmallValues values → (expr : Expr)
    → IsSmallExpr expr → IsSmallOutcome (value_of values expr)
expr_value values all (Number at value) small = small
expr_value values all (Truth at value) small = IsInteger-truth value
expr_value values all (Named at name) small = name_small values name.text all
expr_value values all (Paren at inside) small = expr_value values all inside small
expr_value values all (Neg at operand) small =
    then_small (value_of values operand) _ (expr_value values all operand small)
    (λ value is. IsInteger-negated value)
expr_value values all (Not at operand) small =
    then_small (value_of values operand) _ (expr_value values all operand small)
    (λ value is. IsInteger-truth _)
expr_value values all (Abs at operand) small =
    then_small (value_of values operand) _ (expr_value values all operand small)
    (λ value is. IsInteger-absolute value is)
expr_value values all (Pair at op left right) small =
    then_small (value_of values left) _ (expr_value values all left small.0)
    (λ first one. then_small (value_of values right) _ (expr_value values all right small.1)
    (λ second other. given_small (applied op first second)
    (IsInteger-applied op first second one other)))
expr_value values all (Coord at dimension) small = zero_small
expr_value values all (Shifted at name shift) small = zero_small
expr_value values all (Around at name shift) small = zero_small
expr_value values all (Remap at name indices) small = zero_small
expr_value values all (Call at name actuals) small = zero_small
expr_value values all (Reduce at operator over operand) small = zero_small
expr_value values all (Scan at operator along operand) small = zero_small
expr_value values all (Flood at source operand) small = zero_small

-- ---- values of settings

abbrev IsSmallOption : Option ℤ → Type 0
IsSmallOption None = ⊤
IsSmallOption (Some value) = IsInteger value

range_small : (value : ℤ) → IsSmallOption (integer_in_range value)
range_small value = at (int_le least value) (int_le value greatest) refl refl
  where
    at : (low high : Bool) → int_le least value ≡ low → int_le value greatest ≡ high
        → IsSmallOption (if low && high then Some value else None)
    at true true above below = grind (arith, ints)
    at true false above below = tt
    at false high above below = tt

number_small : (signed : ℤ → ℤ) (number : Option ℕ)
    → IsSmallOption (number_in_range signed number)
number_small signed None = tt
number_small signed (Some number) = range_small (signed (pos number))

integer_small : (text : List ℕ) → IsSmallOption (integer_of text)
integer_small [] = tt
integer_small (first ∷ rest) =
    elim (first == minus) as (λ t. IsSmallOption
    (if t then number_in_range neg_ℤ (digits_of rest)
    else number_in_range (λ number. number) (digits_of (first ∷ rest)))) [
      | true ↦ number_small neg_ℤ (digits_of rest)
      | false ↦ number_small (λ number. number) (digits_of (first ∷ rest))
    ]

truth_small : (text : List ℕ) → IsSmallOption (truth_of text)
truth_small text = at (bytes_eq text true_text) (bytes_eq text false_text)
  where
    at : (one other : Bool) → IsSmallOption
        (if one then Some (truth true) else if other then Some (truth false) else None)
    at true other = IsInteger-truth true
    at false true = IsInteger-truth false
    at false false = tt

setting_small : (base : Base) (text : List ℕ) → IsSmallOption (value_in base text)
setting_small Integer text = integer_small text
setting_small Boolean text = truth_small text
setting_small (Other name) text = integer_small text

taken_small : (value : Option ℤ) → IsSmallOption value → IsSmallOutcome (taken value)
taken_small None small = tt
taken_small (Some value) small = small

config_small : (text : Option (List ℕ)) (values : List (Computed ℤ)) → AreSmallValues values
    → (config : Define) → IsSmallDefine config → IsSmallOutcome (config_value text values config)
config_small None values all config small = expr_value values all config.value small
config_small (Some text) values all config small =
    taken_small (value_in config.base text) (setting_small config.base text)

-- ---- all that is computed

one_more : (values : List (Computed ℤ)) (one : Computed ℤ) → AreSmallValues values
    → IsSmallOutcome one.outcome → AreSmallValues (values ++ one ∷ [])
one_more [] one all small = (small, tt)
one_more (first ∷ rest) one all small = (all.0, one_more rest one all.1 small)

-- what each addition keeps, of items of which something holds
each_keeps : {A : Type 0} (P : Known → Type 0) (Is : A → Type 0) (adds : Known → A → Known) →
    ((known : Known) (item : A) → Is item → P known → P (adds known item)) →
    (items : List A) → AllByRecursion Is items → (known : Known) → P known
    → P (with_all adds known items)
each_keeps P Is adds keeps [] are known h = h
each_keeps P Is adds keeps (item ∷ items) are known h =
    each_keeps P Is adds keeps items are.1 (adds known item) (keeps known item are.0 h)

abbrev KnowsSmall : Known → Type 0
KnowsSmall known = AreSmallValues known.values

decl_keeps : (settings : List Setting) (known : Known) (decl : Decl) → IsSmallDecl decl
    → KnowsSmall known → KnowsSmall (with_decl settings known decl)
decl_keeps settings known (Config configs) small all =
    each_keeps KnowsSmall IsSmallDefine (with_config settings)
    (λ now config is h. one_more now.values _ h
    (config_small (setting_of settings config.name.text) now.values h config is))
    configs small known all
decl_keeps settings known (Constant constants) small all =
    each_keeps KnowsSmall IsSmallDefine with_constant
    (λ now constant is h. one_more now.values _ h (expr_value now.values h constant.value is))
    constants small known all
decl_keeps settings known (Regions regions) small all =
    all-keep KnowsSmall with_region (λ now region h. h) regions known all
decl_keeps settings known (Directions directions) small all =
    all-keep KnowsSmall with_direction (λ now direction h. h) directions known all
decl_keeps settings known (Vars vars) small all = all
decl_keeps settings known (Defined procedure) small all = all

pub values_small : (program : Program) (settings : List Setting) → HasSmallNumerals program
    → (text : List ℕ)
    → IsInteger (value_or (pos 0) (outcome_of (pos 0) (known_of program settings).values text))
values_small program settings small text =
    value_small (outcome_of (pos 0) (known_of program settings).values text)
    (name_small (known_of program settings).values text
    (each_keeps KnowsSmall IsSmallDecl (with_decl settings)
    (λ now decl is h. decl_keeps settings now decl is h) program.decls small nothing_known tt))
