-- A turn of a group, and one of the counted group: they do alike.
use Rattle.std.proofs.Common.{◌≡◌, refl, sym, ◌∙◌, ap, ap₂, subst, ℕ, zero, suc, ◌+◌, ◌<◌, ◌≤◌}
use Rattle.std.proofs.Common.{◌==◌, Bool, true, false, List, [], ◌∷◌, ◌++◌, length, drop}
use Rattle.std.proofs.Common.{arith}
use Rattle.std.proofs.Common.{pos, ℤ, eqb-true, true≢false}
use Rattle.std.specs.Prelude.{Option, Some, None, slice_get, slice_set, All, if◌then◌else◌, nat_lt}
use Rattle.std.specs.Prelude.{nat_le, ◌&&◌, ◌||◌}
use Rattle.std.specs.Option.{IfSome, IsSomeAnd}
use Rattle.std.proofs.lemmas.List.Elements.{All-drop, All-head, All-tail}
use Rattle.std.proofs.lemmas.Bool.Decides.{nat_tests}
use Rattle.zpl_nums.specs.Integer.{is_true, truth}
use Rattle.zpl_nums.specs.Fold.{joined}
use Rattle.node_form.specs.declared.members.Member.{Member}
use Rattle.node_form.specs.declared.members.Member.TheVariants as member
use Rattle.node_form.specs.declared.tables.Tables.{Tables}
use Rattle.node_form.specs.declared.words.ExprOp.{ExprOp}
use Rattle.node_form.specs.declared.words.ExprOp.TheVariants as word
use Rattle.node_form.specs.Fits.{FitsMember, FitsWord, HasExpr}
use Rattle.node_form.specs.Value.{Computed, Gives, Divides, Lacks, Operands, and_then, evaluated}
use Rattle.node_form.specs.Value.{only_value, pushed, read, stepped, value_of}
use Rattle.node_form.specs.Group.{Access, Again, Divided, DividesHere, GoesBack, GoesOn, LacksHere}
use Rattle.node_form.specs.Group.{Mode, Point, Ran, Runs, Skips}
use Rattle.node_form.specs.Group.{Step, Through, Unheld, chosen, goes_on, innermost_of, masked}
use Rattle.node_form.specs.Group.{member_step, operands_at, outermost_of}
use Rattle.node_form.specs.Group.{ran, ran_from, run_member, skipped, value_at, with_found}
use Rattle.node_form.specs.Group.{with_store, with_value}
use Rattle.code_parts.specs.Uses.{is_turning}
use Rattle.counted_code.specs.Counted.{counted, counted_group, counted_member}
use Rattle.counted_code.specs.Counted.{counting, idling}
use Rattle.counted_code.specs.Counted.{until_expr, while_expr}
use Rattle.counted_code.specs.Alike.{stretched}
use Rattle.counted_code.proofs.TableLemmas.{old_there, until_there, while_there}
use Rattle.counted_code.proofs.ValueLemmas.{below_is, most_is, tested_by, until_value, while_value}
use Rattle.counted_code.proofs.CountLemmas.{are_counting, are_idling}
use Rattle.counted_code.proofs.CountLemmas.{cells_skipped}
use Rattle.counted_code.proofs.CountLemmas.{drop_stretched, idle_run, innermost_far, outermost_far}
use Rattle.counted_code.proofs.CountLemmas.{set_count, step_counts}
use Rattle.counted_code.proofs.CountLemmas.{step_skips, stretched_next}

-- ---- cells with the counting one behind them
pub get_last : (cells : List ℤ) (x : ℤ) (k : ℕ) → length cells ≡ k
    → slice_get (cells ++ x ∷ []) k ≡ Some x
get_last [] x zero e = refl
get_last [] x (suc k) e = absurd (omega (arith, e))
get_last (y ∷ cells) x zero e = absurd (omega (arith, e))
get_last (y ∷ cells) x (suc k) e = get_last cells x k (omega (arith, e))

pub get_before : (cells : List ℤ) (x : ℤ) (k : ℕ) → k < length cells
    → slice_get (cells ++ x ∷ []) k ≡ slice_get cells k
get_before [] x k less = absurd (omega (arith, less))
get_before (y ∷ cells) x zero less = refl
get_before (y ∷ cells) x (suc k) less = get_before cells x k (omega (arith, less))

pub set_last : (cells : List ℤ) (x y : ℤ) (k : ℕ) → length cells ≡ k
    → slice_set (cells ++ x ∷ []) k y ≡ cells ++ y ∷ []
set_last [] x y zero e = refl
set_last [] x y (suc k) e = absurd (omega (arith, e))
set_last (z ∷ cells) x y zero e = absurd (omega (arith, e))
set_last (z ∷ cells) x y (suc k) e = ap (λ l. z ∷ l) (set_last cells x y k (omega (arith, e)))

pub set_before : (cells : List ℤ) (x y : ℤ) (k : ℕ) → k < length cells
    → slice_set (cells ++ x ∷ []) k y ≡ slice_set cells k y ++ x ∷ []
set_before [] x y k less = absurd (omega (arith, less))
set_before (z ∷ cells) x y zero less = refl
set_before (z ∷ cells) x y (suc k) less =
    ap (λ l. z ∷ l) (set_before cells x y k (omega (arith, less)))

pub set_long : (cells : List ℤ) (y : ℤ) (k : ℕ) → length (slice_set cells k y) ≡ length cells
set_long [] y k = refl
set_long (z ∷ cells) y zero = refl
set_long (z ∷ cells) y (suc k) = ap suc (set_long cells y k)

pub below_true : (a b : ℕ) → a < b → nat_lt a b ≡ true
below_true a b less = let e : nat_lt a b ≡ true = grind (arith, nat_tests, less) in e

pub above_false : (a b : ℕ) → b < a → nat_le a b ≡ false
above_false a b less = let e : nat_le a b ≡ false = grind (arith, nat_tests, less) in e

-- ---- what becomes of a member, and what stands behind it
abbrev pub head : ℕ → Tables → Member → Member
head n code (member.OpenWhile expr mask line) = member.OpenWhile (while_expr n code expr) mask line
head n code (member.Until expr) = member.Until (until_expr n code expr)
head n code one = one

abbrev pub block : ℕ → Tables → Bool → List Member
block n code true = counting n code n
block n code false = idling n code n

pub split : (n : ℕ) (code : Tables) (one : Member)
    → counted_member n code one ≡ head n code one ∷ block n code (is_turning one)
split n code (member.OpenWhile expr mask line) = refl
split n code (member.OpenRepeat mask line) = refl
split n code (member.Until expr) = refl
split n code (member.Put array expr mask line) = refl
split n code (member.Cell cell expr mask line) = refl
split n code (member.Acc scalar fold expr mask line) = refl
split n code (member.OpenIf expr mask line) = refl
split n code member.Otherwise = refl
split n code member.CloseIf = refl
split n code member.CloseWhile = refl

skipped_head : (n : ℕ) (code : Tables) (depth : ℕ) (to_else : Bool) (one : Member)
    → skipped depth to_else (head n code one) ≡ skipped depth to_else one
skipped_head n code depth to_else (member.OpenWhile expr mask line) = refl
skipped_head n code depth to_else (member.Until expr) = refl
skipped_head n code depth to_else one = refl

unequal : (a b : ℕ) → (a == b) ≡ false → ¬ (a ≡ b)
unequal a b e same =
    let one : (a == b) ≡ true = grind (arith, nat_tests, same) in absurd (true≢false (sym one ∙ e))

smaller : (a b : ℕ) → a < suc b → ¬ (a ≡ b) → a < b
smaller a b less apart = omega (arith, less, apart)

abbrev pub counted_point : {S : Type 0} → ℕ → Point S → Point S
counted_point count point = record point { cells = point.cells ++ pos count ∷ [] }

module _ {S : Type 0} (n : ℕ) (code : Tables) (access : Access S) where
  abbrev real : Tables
  real = counted n code

  abbrev pub IsLong : Point S → Type 0
  IsLong point = length point.cells ≡ code.cells

  -- ---- values
  module _ (rank count : ℕ) (point : Point S) (long : IsLong point) where
    abbrev other : Point S
    other = counted_point count point

    abbrev ops : Operands
    ops = operands_at access point

    abbrev more : Operands
    more = operands_at access other

    step_same : (w : ExprOp) (stack : List ℤ) → FitsWord code rank w
        → stepped more w stack ≡ stepped ops w stack
    step_same (word.Cell cell) stack fits =
        ap (λ o. pushed stack (read o))
        (get_before point.cells (pos count) cell (subst (λ k. cell < k) (sym long) fits))
    step_same (word.Const value) stack fits = refl
    step_same (word.Scalar scalar) stack fits = refl
    step_same (word.Here array) stack fits = refl
    step_same (word.Shifted array shift) stack fits = refl
    step_same (word.Coord dimension) stack fits = refl
    step_same (word.Pair op) [] fits = refl
    step_same (word.Pair op) (a ∷ []) fits = refl
    step_same (word.Pair op) (a ∷ b ∷ stack) fits = refl
    step_same word.Neg [] fits = refl
    step_same word.Neg (a ∷ stack) fits = refl
    step_same word.Not [] fits = refl
    step_same word.Not (a ∷ stack) fits = refl
    step_same word.Abs [] fits = refl
    step_same word.Abs (a ∷ stack) fits = refl

    words_same : (words : List ExprOp) (stack : List ℤ) → All (FitsWord code rank) words
        → evaluated more words stack ≡ evaluated ops words stack
    words_same [] stack fits = refl
    words_same (w ∷ words) stack fits =
        ap (and_then (evaluated more words))
        (step_same w stack (All-head (FitsWord code rank) w words fits))
        ∙ by (stepped ops w stack)
        (λ next. words_same words next (All-tail (FitsWord code rank) w words fits))
      where
        by : (o : Computed (List ℤ)) → ((next : List ℤ) → evaluated more words next
            ≡ evaluated ops words next)
            → and_then (evaluated more words) o ≡ and_then (evaluated ops words) o
        by (Gives next) same = same next
        by Divides same = refl
        by Lacks same = refl

    pub value_same : (expr : ℕ) → HasExpr code rank expr
        → value_at real access other expr ≡ value_at code access point expr
    value_same expr has = by (slice_get code.exprs expr) refl has
      where
        by : (o : Option (List ExprOp)) → slice_get code.exprs expr ≡ o
            → IsSomeAnd o (All (FitsWord code rank))
            → value_at real access other expr ≡ and_then (value_of ops) (read o)
        by None e has = absurd has
        by (Some words) e has =
            ap (λ o. and_then (value_of more) (read o)) (old_there n code expr words e)
            ∙ ap (and_then only_value) (words_same words [] has)

    here : slice_get other.cells code.cells ≡ Some (pos count)
    here = get_last point.cells (pos count) code.cells long

    pub while_same : (expr : ℕ) → HasExpr code rank expr
        → value_at real access other (while_expr n code expr)
        ≡ tested_by (λ b. b && nat_lt count n) (value_at code access point expr)
    while_same expr has = by (slice_get code.exprs expr) refl has
      where
        by : (o : Option (List ExprOp)) → slice_get code.exprs expr ≡ o
            → IsSomeAnd o (All (FitsWord code rank))
            → value_at real access other (while_expr n code expr)
            ≡ tested_by (λ b. b && nat_lt count n) (and_then (value_of ops) (read o))
        by None e has = absurd has
        by (Some words) e has =
            ap (λ o. and_then (value_of more) (read o)) (while_there n code expr words e)
            ∙ (while_value more code.cells count n here words
            ∙ ap₂ (λ (v : Computed ℤ) (d : Bool). tested_by (λ b. b && d) v)
            (ap (and_then only_value) (words_same words [] has)) (below_is count n))

    pub until_same : (expr : ℕ) → HasExpr code rank expr
        → value_at real access other (until_expr n code expr)
        ≡ tested_by (λ b. b || nat_le n count) (value_at code access point expr)
    until_same expr has = by (slice_get code.exprs expr) refl has
      where
        by : (o : Option (List ExprOp)) → slice_get code.exprs expr ≡ o
            → IsSomeAnd o (All (FitsWord code rank))
            → value_at real access other (until_expr n code expr)
            ≡ tested_by (λ b. b || nat_le n count) (and_then (value_of ops) (read o))
        by None e has = absurd has
        by (Some words) e has =
            ap (λ o. and_then (value_of more) (read o)) (until_there n code expr words e)
            ∙ (until_value more code.cells count n here words
            ∙ ap₂ (λ (v : Computed ℤ) (d : Bool). tested_by (λ b. b || d) v)
            (ap (and_then only_value) (words_same words [] has)) (most_is n count))

  -- ---- one member
  pub data AreSteps (count : ℕ) : Step S → Step S → Type 0 where
    BothGoOn : (mode : Mode) (point : Point S) → IsLong point
        → AreSteps count (GoesOn mode point) (GoesOn mode (counted_point count point))
    BothGoBack : (point : Point S) → IsLong point
        → AreSteps count (GoesBack point) (GoesBack (counted_point count point))
    BothDivide : AreSteps count DividesHere DividesHere
    BothLack : AreSteps count LacksHere LacksHere

  module _ (rank count : ℕ) (point : Point S) (long : IsLong point) where
    abbrev there : Point S
    there = counted_point count point

    given_alike : (v : Computed ℤ) (next then_next : ℤ → Step S)
        → ((x : ℤ) → AreSteps count (next x) (then_next x))
        → AreSteps count (with_value v next) (with_value v then_next)
    given_alike (Gives x) next then_next alike = alike x
    given_alike Divides next then_next alike = BothDivide
    given_alike Lacks next then_next alike = BothLack

    value_alike : (expr : ℕ) (next then_next : ℤ → Step S) → HasExpr code rank expr
        → ((x : ℤ) → AreSteps count (next x) (then_next x))
        → AreSteps count (with_value (value_at code access point expr) next)
        (with_value (value_at real access there expr) then_next)
    value_alike expr next then_next has alike =
        subst (λ v. AreSteps count (with_value (value_at code access point expr) next)
        (with_value v then_next))
        (sym (value_same rank count point long expr has))
        (given_alike (value_at code access point expr) next then_next alike)

    masked_alike : (mask : Option ℕ) (skip : Mode) (run then_run : Step S)
        → IfSome mask (HasExpr code rank)
        → AreSteps count run then_run
        → AreSteps count (masked code access point mask skip run)
        (masked real access there mask skip then_run)
    masked_alike None skip run then_run has alike = alike
    masked_alike (Some mask) skip run then_run has alike =
        value_alike mask (λ x. if is_true x then run else GoesOn skip point)
        (λ x. if is_true x then then_run else GoesOn skip there) has (λ x. by (is_true x))
      where
        by : (b : Bool) → AreSteps count (if b then run else GoesOn skip point)
            (if b then then_run else GoesOn skip there)
        by true = alike
        by false = BothGoOn skip point long

    chosen_alike : (b to_else : Bool)
        → AreSteps count (chosen code access point b to_else) (chosen real access there b to_else)
    chosen_alike true to_else = BothGoOn Runs point long
    chosen_alike false to_else = BothGoOn (Skips 0 to_else) point long

    found_alike : (o : Option S)
        → AreSteps count (with_found (with_store code access point o))
        (with_found (with_store real access there o))
    found_alike None = BothLack
    found_alike (Some store) = BothGoOn Runs (record point { store = store }) long

    cell_alike : (cell : ℕ) (x : ℤ) → cell < code.cells
        → AreSteps count (GoesOn Runs (record point { cells = slice_set point.cells cell x }))
        (GoesOn Runs (record there { cells = slice_set there.cells cell x }))
    cell_alike cell x less =
        subst (λ cells. AreSteps count (GoesOn Runs
        (record point { cells = slice_set point.cells cell x }))
        (GoesOn Runs (record there { cells = cells })))
        (sym (set_before point.cells (pos count) x cell (subst (λ k. cell < k) (sym long) less)))
        (BothGoOn Runs (record point { cells = slice_set point.cells cell x })
        (set_long point.cells x cell ∙ long))

    fold_alike : (scalar : ℕ) (f : _) (x : ℤ) (o : Option ℤ)
        → AreSteps count
        (with_value (read o) (λ own. GoesOn Runs
        (record point { scalars = slice_set point.scalars scalar (joined f own x) })))
        (with_value (read o) (λ own. GoesOn Runs
        (record there { scalars = slice_set there.scalars scalar (joined f own x) })))
    fold_alike scalar f x None = BothLack
    fold_alike scalar f x (Some own) =
        BothGoOn Runs (record point { scalars = slice_set point.scalars scalar (joined f own x) })
        long

    while_alike : (less : count < n) (v : Computed ℤ)
        → AreSteps count (with_value v (λ x. chosen code access point (is_true x) false))
        (with_value (tested_by (λ b. b && nat_lt count n) v)
        (λ x. chosen real access there (is_true x) false))
    while_alike less Divides = BothDivide
    while_alike less Lacks = BothLack
    while_alike less (Gives x) =
        subst (λ c. AreSteps count (chosen code access point (is_true x) false)
        (chosen real access there (is_true (truth (is_true x && c))) false))
        (sym (below_true count n less))
        (by (is_true x))
      where
        by : (b : Bool) → AreSteps count (chosen code access point b false)
            (chosen real access there (is_true (truth (b && true))) false)
        by true = BothGoOn Runs point long
        by false = BothGoOn (Skips 0 false) point long

    until_alike : (less : count < n) (v : Computed ℤ)
        → AreSteps count (with_value v (λ x. if is_true x then GoesOn Runs point else GoesBack
        point))
        (with_value (tested_by (λ b. b || nat_le n count) v)
        (λ x. if is_true x then GoesOn Runs there else GoesBack there))
    until_alike less Divides = BothDivide
    until_alike less Lacks = BothLack
    until_alike less (Gives x) =
        subst (λ c. AreSteps count (if is_true x then GoesOn Runs point else GoesBack point)
        (if is_true (truth (is_true x || c)) then GoesOn Runs there else GoesBack there))
        (sym (above_false n count less))
        (by (is_true x))
      where
        by : (b : Bool) → AreSteps count (if b then GoesOn Runs point else GoesBack point)
            (if is_true (truth (b || false)) then GoesOn Runs there else GoesBack there)
        by true = BothGoOn Runs point long
        by false = BothGoBack point long

    pub member_alike : (one : Member) → FitsMember code rank one → count < n
        → AreSteps count (run_member code access point one)
        (run_member real access there (head n code one))
    member_alike (member.Put array expr mask line) fits less =
        masked_alike mask Runs _ _ fits.2
        (value_alike expr _ _ fits.1 (λ x. found_alike (access.with_element point.store array x)))
    member_alike (member.Cell cell expr mask line) fits less =
        masked_alike mask Runs _ _ fits.2
        (value_alike expr _ _ fits.1 (λ x. cell_alike cell x fits.0))
    member_alike (member.Acc scalar f expr mask line) fits less =
        masked_alike mask Runs _ _ fits.2
        (value_alike expr _ _ fits.1 (λ x. fold_alike scalar f x (slice_get point.scalars scalar)))
    member_alike (member.OpenIf expr mask line) fits less =
        masked_alike mask (Skips 0 false) _ _ fits.1
        (value_alike expr _ _ fits.0 (λ x. chosen_alike (is_true x) true))
    member_alike member.Otherwise fits less = BothGoOn (Skips 0 false) point long
    member_alike member.CloseIf fits less = BothGoOn Runs point long
    member_alike (member.OpenWhile expr mask line) fits less =
        masked_alike mask (Skips 0 false) _ _ fits.1
        (subst (λ v. AreSteps count (with_value (value_at code access point expr)
        (λ x. chosen code access point (is_true x) false))
        (with_value v (λ x. chosen real access there (is_true x) false)))
        (sym (while_same rank count point long expr fits.0))
        (while_alike less (value_at code access point expr)))
    member_alike member.CloseWhile fits less = BothGoBack point long
    member_alike (member.OpenRepeat mask line) fits less =
        masked_alike mask (Skips 0 false) _ _ fits (BothGoOn Runs point long)
    member_alike (member.Until expr) fits less =
        subst (λ v. AreSteps count (with_value (value_at code access point expr)
        (λ x. if is_true x then GoesOn Runs point else GoesBack point))
        (with_value v (λ x. if is_true x then GoesOn Runs there else GoesBack there)))
        (sym (until_same rank count point long expr fits))
        (until_alike less (value_at code access point expr))

  -- ---- a turn
  pub data AreRan (most : ℕ) : Ran S → Ran S → Type 0 where
    BothThrough : (point : Point S) (count : ℕ) → IsLong point → count ≤ most
        → AreRan most (Through point) (Through (counted_point count point))
    BothAgain : (member : ℕ) (point : Point S) (count : ℕ) → IsLong point → count ≤ most
        → AreRan most (Again member point) (Again (stretched n member) (counted_point count point))
    BothDivided : (member : ℕ) (point : Point S) (count : ℕ) → IsLong point → count ≤ most
        → AreRan most (Divided member point)
        (Divided (stretched n member) (counted_point count point))
    BothUnheld : AreRan most Unheld Unheld

  more_ran : (few most : ℕ) (r s : Ran S) → few ≤ most → AreRan few r s → AreRan most r s
  more_ran few most _ _ less (BothThrough point count long up) =
      BothThrough point count long (omega (arith, less, up))
  more_ran few most _ _ less (BothAgain member point count long up) =
      BothAgain member point count long (omega (arith, less, up))
  more_ran few most _ _ less (BothDivided member point count long up) =
      BothDivided member point count long (omega (arith, less, up))
  more_ran few most _ _ less BothUnheld = BothUnheld

  module _ (all : List Member) where
    abbrev group : List Member
    group = counted_group n code all

    abbrev one_run : ℕ → Mode → List Member → Point S → Ran S
    one_run number mode rest point = ran code access all number mode rest point

    abbrev real_run : ℕ → Mode → List Member → Point S → Ran S
    real_run number mode rest point = ran real access group number mode rest point

    goes_alike : (count most number : ℕ) (point : Point S) (one other : Step S)
        (next then_next : Mode → Point S → Ran S) → IsLong point → count ≤ most
        → AreSteps count one other
        → ((mode : Mode) (point : Point S) → IsLong point
        → AreRan most (next mode point) (then_next mode (counted_point count point)))
        → AreRan most (goes_on code access all number point one next)
        (goes_on real access group (stretched n number) (counted_point count point) other then_next)
    goes_alike count most number point _ _ next then_next long up (BothGoOn mode behind is) alike =
        alike mode behind is
    goes_alike count most number point _ _ next then_next long up (BothGoBack behind is) alike =
        subst (λ k. AreRan most (Again (innermost_of all number) behind)
        (Again k (counted_point count behind)))
        (sym (innermost_far n code all number))
        (BothAgain (innermost_of all number) behind count is up)
    goes_alike count most number point _ _ next then_next long up BothDivide alike =
        subst (λ k. AreRan most (Divided (outermost_of all number) point)
        (Divided k (counted_point count point)))
        (sym (outermost_far n code all number))
        (BothDivided (outermost_of all number) point count long up)
    goes_alike count most number point _ _ next then_next long up BothLack alike = BothUnheld

    -- members that count
    counting_past : (k count number : ℕ) (rest : List Member) (point : Point S) → k ≤ n → k ≤ count
        → slice_get point.cells code.cells ≡ Some (pos count)
        → real_run number Runs (counting n code k ++ rest) point
        ≡ real_run (number + k) Runs rest point
    counting_past zero count number rest point few past counts =
        ap (λ k. real_run k Runs rest point) (omega arith)
    counting_past (suc k) count number rest point few past counts =
        ap (λ s. goes_on real access group number point s
        (λ mode point. real_run (number + 1) mode (counting n code k ++ rest) point))
        (step_skips n code access group k count point (omega (arith, few)) counts
        (λ e. omega (arith, e, past)))
        ∙ (counting_past k count (number + 1) rest point (omega (arith, few)) (omega (arith, past))
        counts
        ∙ ap (λ k. real_run k Runs rest point) (plus number k))
      where
        plus : (a b : ℕ) → a + 1 + b ≡ a + suc b
        plus a b = omega arith

    counting_hits : (k count number : ℕ) (rest : List Member) (point : Point S) → k ≤ n → count < k
        → IsLong point
        → real_run number Runs (counting n code k ++ rest) (counted_point count point)
        ≡ real_run (number + k) Runs rest (counted_point (suc count) point)
    counting_hits zero count number rest point few below long = absurd (omega (arith, below))
    counting_hits (suc k) count number rest point few below long =
        by (count == k) refl
        (λ less. counting_hits k count (number + 1) rest point (omega (arith, few)) less long)
      where
        plus : (a b : ℕ) → a + 1 + b ≡ a + suc b
        plus a b = omega arith

        counts : slice_get (counted_point count point).cells code.cells ≡ Some (pos count)
        counts = get_last point.cells (pos count) code.cells long

        counted_now : (j : ℕ) → set_count n code access group (counted_point count point) j
            ≡ counted_point j point
        counted_now j =
            ap (λ cells. record point { cells = cells })
            (set_last point.cells (pos count) (pos j) code.cells long)

        after_is : (j : ℕ) → slice_get (counted_point j point).cells code.cells ≡ Some (pos j)
        after_is j = get_last point.cells (pos j) code.cells long

        by : (b : Bool) → (count == k) ≡ b
            → (count < k → real_run (number + 1) Runs (counting n code k ++ rest)
            (counted_point count point)
            ≡ real_run (number + 1 + k) Runs rest (counted_point (suc count) point))
            → real_run number Runs (counting n code (suc k) ++ rest) (counted_point count point)
            ≡ real_run (number + suc k) Runs rest (counted_point (suc count) point)
        by true e ih =
            ap (λ s. goes_on real access group number (counted_point count point) s
            (λ mode point. real_run (number + 1) mode (counting n code k ++ rest) point))
            (step_counts n code access group k count (counted_point count point)
            (omega (arith, few)) counts (eqb-true count k e))
            ∙ (ap (real_run (number + 1) Runs (counting n code k ++ rest)) (counted_now (suc k))
            ∙ (counting_past k (suc k) (number + 1) rest (counted_point (suc k) point)
            (omega (arith, few)) (omega arith) (after_is (suc k))
            ∙ ap₂ (λ j c. real_run j Runs rest (counted_point (suc c) point)) (plus number k)
            (sym (eqb-true count k e))))
        by false e ih =
            ap (λ s. goes_on real access group number (counted_point count point) s
            (λ mode point. real_run (number + 1) mode (counting n code k ++ rest) point))
            (step_skips n code access group k count (counted_point count point) (omega (arith, few))
            counts (unequal count k e))
            ∙ (ih (smaller count k below (unequal count k e))
            ∙ ap (λ j. real_run j Runs rest (counted_point (suc count) point)) (plus number k))

    -- so many cells, in any mode
    idles_any : (mode : Mode) (number : ℕ) (rest : List Member) (point : Point S)
        → real_run number mode (idling n code n ++ rest) point
        ≡ real_run (number + n) mode rest point
    idles_any Runs number rest point = idle_run n code access group n number rest point
    idles_any (Skips depth to_else) number rest point =
        cells_skipped n code access group (are_idling n code n) number depth to_else rest point

    next_number : (number : ℕ) → stretched n number + 1 + n ≡ stretched n (number + 1)
    next_number number = plus (stretched n number) ∙ sym (stretched_next n number)
      where
        plus : (a : ℕ) → a + 1 + n ≡ a + suc n
        plus a = omega arith

    abbrev Further : ℕ → List Member → Type 0
    Further number rest =
        (mode : Mode) (count : ℕ) (point : Point S) → IsLong point → count + length rest ≤ n
        → AreRan (count + length rest) (one_run number mode rest point)
        (real_run (stretched n number) mode (counted_group n code rest) (counted_point count point))

    behind : (b : Bool) (number : ℕ) (rest : List Member) → Further (number + 1) rest
        → (mode : Mode) (count : ℕ) (point : Point S) → IsLong point → count + suc (length rest) ≤ n
        → AreRan (count + suc (length rest)) (one_run (number + 1) mode rest point)
        (real_run (stretched n number + 1) mode (block n code b ++ counted_group n code rest)
        (counted_point count point))
    behind false number rest further mode count point long room =
        subst (AreRan (count + suc (length rest)) (one_run (number + 1) mode rest point))
        (sym (idles_any mode (stretched n number + 1) (counted_group n code rest)
        (counted_point count point)
        ∙ ap (λ k. real_run k mode (counted_group n code rest) (counted_point count point))
        (next_number number)))
        (more_ran (count + length rest) (count + suc (length rest)) _ _ (omega arith)
        (further mode count point long (omega (arith, room))))
    behind true number rest further (Skips depth to_else) count point long room =
        subst (AreRan (count + suc (length rest))
        (one_run (number + 1) (Skips depth to_else) rest point))
        (sym (cells_skipped n code access group (are_counting n code n) (stretched n number + 1)
        depth to_else (counted_group n code rest) (counted_point count point)
        ∙ ap (λ k. real_run k (Skips depth to_else) (counted_group n code rest)
        (counted_point count point)) (next_number number)))
        (more_ran (count + length rest) (count + suc (length rest)) _ _ (omega arith)
        (further (Skips depth to_else) count point long (omega (arith, room))))
    behind true number rest further Runs count point long room =
        subst (AreRan (count + suc (length rest)) (one_run (number + 1) Runs rest point))
        (sym (counting_hits n count (stretched n number + 1) (counted_group n code rest) point
        (omega arith) (omega (arith, room)) long
        ∙ ap (λ k. real_run k Runs (counted_group n code rest) (counted_point (suc count) point))
        (next_number number)))
        (more_ran (suc count + length rest) (count + suc (length rest)) _ _ (omega arith)
        (further Runs (suc count) point long (omega (arith, room))))

    module _ (rank : ℕ) where
      step_alike : (mode : Mode) (count : ℕ) (point : Point S) (one : Member) → IsLong point
          → FitsMember code rank one → count < n
          → AreSteps count (member_step code access mode point one)
          (member_step real access mode (counted_point count point) (head n code one))
      step_alike Runs count point one long fits less =
          member_alike rank count point long one fits less
      step_alike (Skips depth to_else) count point one long fits less =
          subst (λ mode. AreSteps count (GoesOn (skipped depth to_else one) point)
          (GoesOn mode (counted_point count point)))
          (sym (skipped_head n code depth to_else one))
          (BothGoOn (skipped depth to_else one) point long)

      ran_alike : (rest : List Member) (number : ℕ) → All (FitsMember code rank) rest
          → Further number rest
      ran_alike [] number fits mode count point long room =
          BothThrough point count long (omega arith)
      ran_alike (one ∷ rest) number fits mode count point long room =
          subst (λ l. AreRan (count + suc (length rest)) (one_run number mode (one ∷ rest) point)
          (real_run (stretched n number) mode (l ++ counted_group n code rest)
          (counted_point count point)))
          (sym (split n code one))
          (goes_alike count (count + suc (length rest)) number point _ _ _ _ long (omega arith)
          (step_alike mode count point one long (All-head (FitsMember code rank) one rest fits)
          (omega (arith, room)))
          (λ mode point long.
          behind (is_turning one) number rest
          (ran_alike rest (number + 1) (All-tail (FitsMember code rank) one rest fits)) mode count
          point long room))

      pub from_alike : (number count : ℕ) (point : Point S) → All (FitsMember code rank) all
          → IsLong point
          → count + length all ≤ n
          → AreRan (count + length all) (ran_from code access all number point)
          (ran_from real access group (stretched n number) (counted_point count point))
      from_alike number count point fits long room =
          subst (λ l. AreRan (count + length all) (ran_from code access all number point)
          (real_run (stretched n number) Runs l (counted_point count point)))
          (sym (drop_stretched n code number all))
          (more_ran (count + length (drop number all)) (count + length all) _ _
          (shorter number count all)
          (ran_alike (drop number all) number (All-drop (FitsMember code rank) number all fits) Runs
          count point long
          (omega (arith, room, shorter number count all))))
        where
          shorter : (k c : ℕ) (xs : List Member) → c + length (drop k xs) ≤ c + length xs
          shorter zero c xs = omega arith
          shorter (suc k) c [] = omega arith
          shorter (suc k) c (x ∷ xs) = let ih = shorter k c xs in omega (arith, ih)
