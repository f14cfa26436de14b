-- A loop whose group is one put: the values at all tuples, and then all of them written.
use Rattle.std.proofs.Common.{◌≡◌, refl, sym, ◌∙◌, ap, arith, ℕ, zero, suc, ◌≤◌, ◌<◌}
use Rattle.std.proofs.Common.{Bool, true, false, List, [], ◌∷◌, ◌++◌, map, replicate, ℤ, pos}
use Rattle.std.proofs.Common.{Option, Some, None}
use Rattle.std.specs.Prelude.{if◌then◌else◌, flat_map, fold, max, option_and_then, slice_get, ⊤}
use Rattle.zpl_nums.specs.declared.ends.End.TheVariants.{Trap}
use Rattle.zpl_nums.specs.declared.ends.TrapKind.TheVariants.{DivideByZero}
use Rattle.zpl_nums.specs.Integer.{is_true}
use Rattle.zpl_region.specs.declared.regions.Region.{Region}
use Rattle.zpl_region.specs.Region.{members}
use Rattle.temp_norm.specs.of_row_runs.Run.{Ends, Goes, Step, Stops, Wrong}
use Rattle.temp_norm.specs.of_row_runs.Straight.{Every}
use Rattle.temp_norm.specs.of_node_form.declared.tables.Tables.{Tables}
use Rattle.temp_norm.specs.of_node_form.declared.touches.Thing.{Thing}
use Rattle.temp_norm.specs.of_node_form.declared.touches.Thing.TheVariants as thing
use Rattle.temp_norm.specs.of_node_form.declared.words.ExprOp.{ExprOp}
use Rattle.temp_norm.specs.of_node_form.declared.words.ExprOp.TheVariants as word
use Rattle.temp_norm.specs.of_node_form.Nest.{Nest, Nothing, Putting}
use Rattle.temp_norm.specs.of_node_form.Value.{Computed, Divides, Gives, Lacks, and_then, mapped}
use Rattle.temp_norm.specs.of_node_form.Value.{unmoved, value_of}
use Rattle.temp_norm.specs.of_grid_meaning.Place.{held_value, moved_by}
use Rattle.temp_norm.specs.of_nest_meaning.Nested.{Fine, Lost, Told, Zero, then_do, with_state, with_value}
use Rattle.temp_norm.specs.of_flat_form.Loop.{AllFine, AllTold, Column, Point, Puts, SomeLost, SomeZero}
use Rattle.temp_norm.specs.of_flat_form.Loop.{all_awaiting, all_told, all_written, both_told, from_written}
use Rattle.temp_norm.specs.of_flat_form.Loop.{logged, loop_stands, looped, operands_at, unit_at}
use Rattle.temp_norm.specs.of_flat_form.Loop.{unit_does, units_do, written}
use Rattle.temp_norm.specs.of_flat_form.Names.{group_cells, word_cells}
use Rattle.temp_norm.specs.of_flat_form.Right.{is_unmoved}
use Rattle.temp_norm.specs.of_flat_form.Row.{Member, Put, Words, mask_words, numbered}
use Rattle.temp_norm.specs.of_flat_form.Whole.{Whole}
use Rattle.temp_norm.proofs.of_flat_form.AgreeLemmas.{Agree, AlikeStates, BothStates, NoState, put_alike}
use Rattle.temp_norm.proofs.of_flat_form.NamedLemmas.{ExprNamed, WordNamed}
use Rattle.temp_norm.proofs.of_flat_form.WordLemmas.{ReadsSame, every_more, value_same}

-- ---- what is put at a tuple: nothing where the mask is 0
abbrev pub start_point : List ℤ → Point
start_point cells = record { cells = cells; log = [] }

abbrev pub value_in : Whole → List ℤ → Words → List ℤ → Computed ℤ
value_in before cells words t = value_of (operands_at before t (start_point cells)) words

abbrev pub put_if : Bool → Computed ℤ → Computed (Option ℤ)
put_if true value = mapped (λ v. Some v) value
put_if false value = Gives None

abbrev pub wanted : Whole → List ℤ → Words → Option Words → List ℤ → Computed (Option ℤ)
wanted before cells expr None t = mapped (λ v. Some v) (value_in before cells expr t)
wanted before cells expr (Some mask) t =
    and_then (λ v. put_if (is_true v) (value_in before cells expr t))
    (value_in before cells mask t)

abbrev pub point_put : ℕ → List ℤ → Option ℤ → Point
point_put array cells None = start_point cells
point_put array cells (Some v) = record { cells = cells; log = Puts array v ∷ [] }

abbrev told_put : ℕ → List ℤ → Computed (Option ℤ) → Told Point
told_put array cells (Gives o) = Fine (point_put array cells o)
told_put array cells Divides = Zero (start_point cells)
told_put array cells Lacks = Lost

put_told : (array : ℕ) (cells : List ℤ) (value : Computed ℤ)
    → then_do (λ p. Fine p) (with_value (start_point cells) value
    (λ v. with_state (Some (point_put array cells (Some v)))))
    ≡ told_put array cells (mapped (λ v. Some v) value)
put_told array cells (Gives v) = refl
put_told array cells Divides = refl
put_told array cells Lacks = refl

if_told : (array : ℕ) (cells : List ℤ) (b : Bool) (value : Computed ℤ)
    → then_do (λ p. Fine p) (if b then with_value (start_point cells) value
    (λ v. with_state (Some (point_put array cells (Some v)))) else Fine (start_point cells))
    ≡ told_put array cells (put_if b value)
if_told array cells true value = put_told array cells value
if_told array cells false value = refl

mask_told : (array : ℕ) (cells : List ℤ) (mask value : Computed ℤ)
    → then_do (λ p. Fine p) (with_value (start_point cells) mask (λ m. if is_true m
    then with_value (start_point cells) value
    (λ v. with_state (Some (point_put array cells (Some v)))) else Fine (start_point cells)))
    ≡ told_put array cells (and_then (λ v. put_if (is_true v) value) mask)
mask_told array cells (Gives m) value = if_told array cells (is_true m) value
mask_told array cells Divides value = refl
mask_told array cells Lacks value = refl

abbrev put_tree : ℕ → Option Words → ℕ → Nest
put_tree array mask line = Putting array 0 (numbered 1 mask) line Nothing

unit_is : (n array : ℕ) (expr : Words) (mask : Option Words) (line : ℕ) (before : Whole)
    (column : Column)
    → unit_at n (expr ∷ mask_words mask) (put_tree array mask line) before column
    ≡ told_put array column.cells (wanted before column.cells expr mask column.at)
unit_is n array expr None line before column =
    put_told array column.cells (value_in before column.cells expr column.at)
unit_is n array expr (Some mask) line before column =
    mask_told array column.cells (value_in before column.cells mask column.at)
    (value_in before column.cells expr column.at)

-- ---- at all tuples
pub data Sum : Type 0 where
  AllGive : (os : List (Option ℤ)) → Sum
  SomeDivides : Sum
  SomeLacks : Sum

abbrev pub with_one : Computed (Option ℤ) → Sum → Sum
with_one (Gives o) (AllGive os) = AllGive (o ∷ os)
with_one (Gives o) SomeDivides = SomeDivides
with_one (Gives o) SomeLacks = SomeLacks
with_one Divides (AllGive os) = SomeDivides
with_one Divides SomeDivides = SomeDivides
with_one Divides SomeLacks = SomeLacks
with_one Lacks rest = SomeLacks

abbrev pub summed : (List ℤ → Computed (Option ℤ)) → List (List ℤ) → Sum
summed value [] = AllGive []
summed value (t ∷ ts) = with_one (value t) (summed value ts)

abbrev told_sum : ℕ → List ℤ → Sum → AllTold
told_sum array cells (AllGive os) = AllFine (map (point_put array cells) os)
told_sum array cells SomeDivides = SomeZero
told_sum array cells SomeLacks = SomeLost

both_is : (array : ℕ) (cells : List ℤ) (value : Computed (Option ℤ)) (rest : Sum)
    → both_told (told_put array cells value) (told_sum array cells rest)
    ≡ told_sum array cells (with_one value rest)
both_is array cells (Gives o) (AllGive os) = refl
both_is array cells (Gives o) SomeDivides = refl
both_is array cells (Gives o) SomeLacks = refl
both_is array cells Divides (AllGive os) = refl
both_is array cells Divides SomeDivides = refl
both_is array cells Divides SomeLacks = refl
both_is array cells Lacks rest = refl

abbrev columns : List ℤ → List (List ℤ) → List Column
columns cells ts = map (λ t. record { at = t; cells = cells }) ts

told_is : (n array : ℕ) (expr : Words) (mask : Option Words) (line : ℕ) (before : Whole)
    (cells : List ℤ) (ts : List (List ℤ))
    → all_told (unit_at n (expr ∷ mask_words mask) (put_tree array mask line) before)
    (columns cells ts)
    ≡ told_sum array cells (summed (wanted before cells expr mask) ts)
told_is n array expr mask line before cells [] = refl
told_is n array expr mask line before cells (t ∷ ts) =
    ap (λ told. both_told told (all_told
    (unit_at n (expr ∷ mask_words mask) (put_tree array mask line) before) (columns cells ts)))
    (unit_is n array expr mask line before (record { at = t; cells = cells }))
    ∙ (ap (both_told (told_put array cells (wanted before cells expr mask t)))
    (told_is n array expr mask line before cells ts)
    ∙ both_is array cells (wanted before cells expr mask t)
    (summed (wanted before cells expr mask) ts))

-- ---- all of them written
abbrev pub one_written : ℕ → List ℤ → Option ℤ → Whole → Option Whole
one_written array t None whole = Some whole
one_written array t (Some v) whole = written t (Puts array v) whole

abbrev pub puts : ℕ → List (List ℤ) → List (Option ℤ) → Whole → Option Whole
puts array (t ∷ ts) (o ∷ os) whole =
    option_and_then (puts array ts os) (one_written array t o whole)
puts array ts os whole = Some whole

then_same : {X Y : Type 0} (f g : X → Option Y) (x : Option X) → ((v : X) → f v ≡ g v)
    → option_and_then f x ≡ option_and_then g x
then_same f g None same = refl
then_same f g (Some v) same = same v

written_is : (array : ℕ) (cells : List ℤ) (ts : List (List ℤ)) (os : List (Option ℤ))
    (whole : Whole)
    → all_written (columns cells ts) (map (point_put array cells) os) whole
    ≡ puts array ts os whole
written_is array cells [] os whole = refl
written_is array cells (t ∷ ts) [] whole = refl
written_is array cells (t ∷ ts) (None ∷ os) whole = written_is array cells ts os whole
written_is array cells (t ∷ ts) (Some v ∷ os) whole =
    then_same (all_written (columns cells ts) (map (point_put array cells) os)) (puts array ts os)
    (written t (Puts array v) whole) (written_is array cells ts os)

abbrev pub after_sum : ℕ → ℕ → List (List ℤ) → Whole → Sum → Step Whole
after_sum array line ts whole (AllGive os) =
    from_written (puts array ts os whole) (λ next. Goes [] next)
after_sum array line ts whole SomeDivides = Stops (Ends (Trap DivideByZero line))
after_sum array line ts whole SomeLacks = Stops Wrong

sum_does : (array line : ℕ) (cells : List ℤ) (ts : List (List ℤ)) (whole : Whole) (sum : Sum)
    → unit_does line (columns cells ts) whole (told_sum array cells sum)
    (λ columns whole. Goes [] whole)
    ≡ after_sum array line ts whole sum
sum_does array line cells ts whole (AllGive os) =
    ap (λ o. from_written o (λ next. Goes [] next)) (written_is array cells ts os whole)
sum_does array line cells ts whole SomeDivides = refl
sum_does array line cells ts whole SomeLacks = refl

none_awaited : (step : Step Whole) → all_awaiting [] step ≡ step
none_awaited (Goes bytes whole) = refl
none_awaited (Stops stop) = refl

-- ---- the loop
abbrev pub put_group : ℕ → Words → Option Words → ℕ → List Member
put_group array expr mask line = Put array expr mask line ∷ []

abbrev pub cells_of : ℕ → Words → Option Words → ℕ → List ℤ
cells_of array expr mask line = replicate (group_cells (put_group array expr mask line)) (pos 0)

module _ (tables : Tables) (n : ℕ) where
  abbrev pub put_does : ℕ → Words → Option Words → ℕ → Whole → Region → Step Whole
  put_does array expr mask line whole region =
      after_sum array line (members region) whole
      (summed (wanted whole (cells_of array expr mask line) expr mask) (members region))

  loop_tree : (array : ℕ) (expr : Words) (mask : Option Words) (line : ℕ) (whole : Whole)
      (region : Region)
      → all_awaiting [] (units_do n (expr ∷ mask_words mask) (put_tree array mask line ∷ [])
      (columns (cells_of array expr mask line) (members region)) whole)
      ≡ put_does array expr mask line whole region
  loop_tree array expr mask line whole region =
      let cells = cells_of array expr mask line in
      none_awaited (units_do n (expr ∷ mask_words mask) (put_tree array mask line ∷ [])
      (columns cells (members region)) whole)
      ∙ (ap (λ told. unit_does line (columns cells (members region)) whole told
      (λ columns whole. Goes [] whole))
      (told_is n array expr mask line whole cells (members region))
      ∙ sum_does array line cells (members region) whole
      (summed (wanted whole cells expr mask) (members region)))

  pub looped_put : (array : ℕ) (expr : Words) (mask : Option Words) (line : ℕ) (whole : Whole)
      (region : Region)
      → looped tables n (put_group array expr mask line) whole (Some region)
      ≡ (if loop_stands tables whole region (put_group array expr mask line)
      then put_does array expr mask line whole region else Stops Wrong)
  looped_put array expr None line whole region =
      ap (λ step. if loop_stands tables whole region (put_group array expr None line) then step
      else Stops Wrong) (loop_tree array expr None line whole region)
  looped_put array expr (Some mask) line whole region =
      ap (λ step. if loop_stands tables whole region (put_group array expr (Some mask) line)
      then step else Stops Wrong) (loop_tree array expr (Some mask) line whole region)

-- ---- the same words
pub summed_same : (f g : List ℤ → Computed (Option ℤ)) (ts : List (List ℤ))
    → ((t : List ℤ) → f t ≡ g t) → summed f ts ≡ summed g ts
summed_same f g [] same = refl
summed_same f g (t ∷ ts) same =
    ap (λ value. with_one value (summed f ts)) (same t)
    ∙ ap (with_one (g t)) (summed_same f g ts same)

abbrev pub CellSame : List ℤ → List ℤ → ExprOp → Type 0
CellSame one two (word.Cell cell) = slice_get one cell ≡ slice_get two cell
CellSame one two row = ⊤

module _ (tables other : Tables) (Q : Thing → Type 0) where
  reads_same : (one two : Whole) → Agree tables other Q one two → (t : List ℤ) (p q : Point)
      → p.log ≡ [] → q.log ≡ [] → (w : ExprOp) → WordNamed Q w × CellSame p.cells q.cells w
      → ReadsSame (operands_at one t p) (operands_at two t q) w
  reads_same one two agree t p q e f (word.Scalar scalar) is =
      (agree (thing.Scalar scalar) is.0).0
  reads_same one two agree t p q e f (word.Here array) is =
      ap (λ store. logged p.log array
      (option_and_then (held_value (moved_by unmoved t)) store))
      (agree (thing.Array array) is.0).1
      ∙ ap (λ log. logged log array (option_and_then (held_value (moved_by unmoved t))
      (slice_get two.stores array))) (e ∙ sym f)
  reads_same one two agree t p q e f (word.Shifted array shift) is =
      ap (λ store. if is_unmoved shift then logged p.log array
      (option_and_then (held_value (moved_by shift t)) store) else option_and_then
      (held_value (moved_by shift t)) store)
      (agree (thing.Array array) is.0).1
      ∙ ap (λ log. if is_unmoved shift then logged log array
      (option_and_then (held_value (moved_by shift t)) (slice_get two.stores array))
      else option_and_then (held_value (moved_by shift t)) (slice_get two.stores array))
      (e ∙ sym f)
  reads_same one two agree t p q e f (word.Const value) is = tt
  reads_same one two agree t p q e f (word.Cell cell) is = is.1
  reads_same one two agree t p q e f (word.Coord dimension) is = refl
  reads_same one two agree t p q e f (word.Pair op) is = tt
  reads_same one two agree t p q e f word.Neg is = tt
  reads_same one two agree t p q e f word.Not is = tt
  reads_same one two agree t p q e f word.Abs is = tt

  -- words that name what is the same have the same value, with cells that are the same for them
  pub value_in_same : (one two : Whole) → Agree tables other Q one two → (cells others : List ℤ)
      (words : Words) → Every (λ w. WordNamed Q w × CellSame cells others w) words
      → (t : List ℤ) → value_in one cells words t ≡ value_in two others words t
  value_in_same one two agree cells others words named t =
      value_same (operands_at one t (start_point cells)) (operands_at two t (start_point others))
      words
      (every_more (reads_same one two agree t (start_point cells) (start_point others) refl refl)
      words named)

  cells_alone : (cells : List ℤ) (w : ExprOp) → CellSame cells cells w
  cells_alone cells (word.Cell cell) = refl
  cells_alone cells (word.Scalar scalar) = tt
  cells_alone cells (word.Here array) = tt
  cells_alone cells (word.Shifted array shift) = tt
  cells_alone cells (word.Const value) = tt
  cells_alone cells (word.Coord dimension) = tt
  cells_alone cells (word.Pair op) = tt
  cells_alone cells word.Neg = tt
  cells_alone cells word.Not = tt
  cells_alone cells word.Abs = tt

  abbrev pub MaskNamed : Option Words → Type 0
  MaskNamed None = ⊤
  MaskNamed (Some mask) = ExprNamed Q mask

  own_cells : (cells : List ℤ) (words : Words) → ExprNamed Q words
      → Every (λ w. WordNamed Q w × CellSame cells cells w) words
  own_cells cells words named = every_more (λ w is. (is, cells_alone cells w)) words named

  pub wanted_same : (one two : Whole) → Agree tables other Q one two → (cells : List ℤ)
      (expr : Words) (mask : Option Words) → ExprNamed Q expr → MaskNamed mask
      → (t : List ℤ) → wanted one cells expr mask t ≡ wanted two cells expr mask t
  wanted_same one two agree cells expr None named masked t =
      ap (mapped (λ v. Some v))
      (value_in_same one two agree cells cells expr (own_cells cells expr named) t)
  wanted_same one two agree cells expr (Some mask) named masked t =
      ap (λ value. and_then (λ v. put_if (is_true v) value) (value_in one cells mask t))
      (value_in_same one two agree cells cells expr (own_cells cells expr named) t)
      ∙ ap (and_then (λ v. put_if (is_true v) (value_in two cells expr t)))
      (value_in_same one two agree cells cells mask (own_cells cells mask masked) t)

  -- ---- what is put into an array that is the same
  one_alike : (one two : Whole) (array : ℕ) (t : List ℤ) (o : Option ℤ) → Q (thing.Array array)
      → Agree tables other Q one two
      → AlikeStates tables other Q (one_written array t o one) (one_written array t o two)
  one_alike one two array t None is agree = BothStates agree
  one_alike one two array t (Some v) is agree = put_alike tables other Q one two array t v is agree

  then_alike : (a b : Option Whole) (f g : Whole → Option Whole) → AlikeStates tables other Q a b
      → ((one two : Whole) → Agree tables other Q one two
      → AlikeStates tables other Q (f one) (g two))
      → AlikeStates tables other Q (option_and_then f a) (option_and_then g b)
  then_alike a b f g NoState more = NoState
  then_alike a b f g (BothStates {one = one} {two = two} agree) more = more one two agree

  pub puts_alike : (array : ℕ) (ts : List (List ℤ)) (os : List (Option ℤ)) (one two : Whole)
      → Q (thing.Array array) → Agree tables other Q one two
      → AlikeStates tables other Q (puts array ts os one) (puts array ts os two)
  puts_alike array [] os one two is agree = BothStates agree
  puts_alike array (t ∷ ts) [] one two is agree = BothStates agree
  puts_alike array (t ∷ ts) (o ∷ os) one two is agree =
      then_alike (one_written array t o one) (one_written array t o two) (puts array ts os)
      (puts array ts os) (one_alike one two array t o is agree)
      (λ one two agree. puts_alike array ts os one two is agree)

-- ---- the cells of a group: all that a mask names are there
fold_above : (xs : List ℕ) (n : ℕ) → n ≤ fold max n xs
fold_above [] n = omega arith
fold_above (x ∷ xs) n = omega (arith, fold_above xs (max n x))

fold_most : (xs : List ℕ) (n : ℕ) → Every (λ x. x ≤ fold max n xs) xs
fold_most [] n = tt
fold_most (x ∷ xs) n = (omega (arith, fold_above xs (max n x)), fold_most xs (max n x))

every_behind : {X : Type 0} (P : X → Type 0) (xs ys : List X) → Every P (xs ++ ys) → Every P ys
every_behind P [] ys all = all
every_behind P (x ∷ xs) ys all = every_behind P xs ys all.1

every_before : {X : Type 0} (P : X → Type 0) (xs ys : List X) → Every P (xs ++ ys) → Every P xs
every_before P [] ys all = tt
every_before P (x ∷ xs) ys all = (all.0, every_before P xs ys all.1)

cells_few : (most : ℕ) (words : Words)
    → Every (λ cells. cells ≤ most) (flat_map (λ w. word_cells w ∷ []) words)
    → Every (λ w. word_cells w ≤ most) words
cells_few most [] all = tt
cells_few most (w ∷ words) all = (all.0, cells_few most words all.1)

zero_there : (n k : ℕ) → k < n → slice_get (replicate n (pos 0)) k ≡ Some (pos 0)
zero_there zero k below = absurd (omega (arith, below))
zero_there (suc n) zero below = refl
zero_there (suc n) (suc k) below = zero_there n k (omega (arith, below))

pub mask_cells : (array : ℕ) (expr mask : Words) (line : ℕ)
    → Every (λ w. word_cells w ≤ group_cells (put_group array expr (Some mask) line)) mask
mask_cells array expr mask line =
    let names : Words → List ℕ = λ words. flat_map (λ w. word_cells w ∷ []) words in
    let all = 0 ∷ (names expr ++ (names mask ++ [])) in
    let most = fold max 0 all in
    cells_few most mask
    (every_before (λ cells. cells ≤ most) (names mask) []
    (every_behind (λ cells. cells ≤ most) (names expr) (names mask ++ [])
    (fold_most all 0).1))

pub cells_there : (n m : ℕ) (w : ExprOp) → word_cells w ≤ n → word_cells w ≤ m
    → CellSame (replicate n (pos 0)) (replicate m (pos 0)) w
cells_there n m (word.Cell cell) few less =
    zero_there n cell (omega (arith, few)) ∙ sym (zero_there m cell (omega (arith, less)))
cells_there n m (word.Scalar scalar) few less = tt
cells_there n m (word.Here array) few less = tt
cells_there n m (word.Shifted array shift) few less = tt
cells_there n m (word.Const value) few less = tt
cells_there n m (word.Coord dimension) few less = tt
cells_there n m (word.Pair op) few less = tt
cells_there n m word.Neg few less = tt
cells_there n m word.Not few less = tt
cells_there n m word.Abs few less = tt
