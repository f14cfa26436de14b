-- What the members of a group do at an index keeps what a processor has, and a turn that goes back begins at a `while` or
-- `repeat`.
use Rattle.std.proofs.Common.{◌≡◌, ℕ, zero, suc, ◌+◌, ◌<◌, ◌≤◌, Bool, true, false, cond, List, [], ◌∷◌, ◌++◌, length, take, drop, refl, sym, ap, ◌∙◌, subst, ℤ, arith, append_assoc, length-append, length-set}
use Rattle.std.specs.Prelude.{Option, Some, None, All, slice_get, option_and_then, unwrap_or}
use Rattle.std.specs.List.{AllZip}
use Rattle.std.specs.Option.{IfSome, IsSomeAnd}
use Rattle.std.proofs.lemmas.List.Elements.{All-nil, All-cons, All-head, All-tail}
use Rattle.node_form.specs.of_zpl_nums.Integer.{is_true}
use Rattle.node_form.specs.declared.tables.Tables.{Tables}
use Rattle.node_form.specs.declared.members.Member.{Member}
use Rattle.node_form.specs.declared.members.Member.TheVariants.{Put, Cell, Acc, OpenIf, Otherwise, CloseIf, OpenWhile, CloseWhile, OpenRepeat, Until}
use Rattle.node_form.specs.declared.nests.Opening.{Opening}
use Rattle.node_form.specs.declared.nests.Opening.TheVariants.{If, Else, While, Repeat}
use Rattle.node_form.specs.Nest.{IsNest, open_behind, opened}
use Rattle.node_form.specs.Value.{Computed, Gives, Divides, Lacks, read}
use Rattle.node_form.specs.Group.{Access, Point, Mode, Runs, Skips, Step, GoesOn, GoesBack, DividesHere, LacksHere, Ran, Through, Again, Divided, Unheld, chosen, goes_on, innermost_of, last_or, masked, member_step, open_before, open_from, open_numbers, outermost_of, ran, run_member, value_at, with_found, with_store, with_value}
use Rattle.node_form.proofs.NestLemmas.{IsNest-opened, opened-append}
use Rattle.grid_meaning.specs.State.{IsAgain}

-- ---- what is open: a loop's opening is a member that may be run again
abbrev IsOpening : List Member → Opening → ℕ → Type 0
IsOpening all If number = Unit {0}
IsOpening all Else number = Unit {0}
IsOpening all While number = IsSomeAnd (slice_get all number) IsAgain
IsOpening all Repeat number = IsSomeAnd (slice_get all number) IsAgain

abbrev AreOpen : List Member → List Opening → List ℕ → Type 0
AreOpen all openings numbers = AllZip (IsOpening all) openings numbers

same_open : (all : List Member) (openings after : List Opening) (numbers : List ℕ) → Some openings ≡ Some after
    → AreOpen all openings numbers → AreOpen all after numbers
same_open all openings after numbers is are = let same : openings ≡ after = cc in subst (λ o. AreOpen all o numbers) same are

else_open : (all : List Member) (openings after : List Opening) (numbers : List ℕ) → AreOpen all openings numbers
    → open_behind openings Otherwise ≡ Some after → AreOpen all after numbers
else_open all [] after numbers are is = cc
else_open all (If ∷ openings) after [] are is = absurd are
else_open all (If ∷ openings) after (n ∷ numbers) are is = same_open all (Else ∷ openings) after (n ∷ numbers) is (tt, are.1)
else_open all (Else ∷ openings) after numbers are is = cc
else_open all (While ∷ openings) after numbers are is = cc
else_open all (Repeat ∷ openings) after numbers are is = cc

if_open : (all : List Member) (openings after : List Opening) (numbers : List ℕ) → AreOpen all openings numbers
    → open_behind openings CloseIf ≡ Some after → AreOpen all after (drop 1 numbers)
if_open all [] after numbers are is = cc
if_open all (If ∷ openings) after [] are is = absurd are
if_open all (If ∷ openings) after (n ∷ numbers) are is = same_open all openings after numbers is are.1
if_open all (Else ∷ openings) after [] are is = absurd are
if_open all (Else ∷ openings) after (n ∷ numbers) are is = same_open all openings after numbers is are.1
if_open all (While ∷ openings) after numbers are is = cc
if_open all (Repeat ∷ openings) after numbers are is = cc

while_open : (all : List Member) (openings after : List Opening) (numbers : List ℕ) → AreOpen all openings numbers
    → open_behind openings CloseWhile ≡ Some after → AreOpen all after (drop 1 numbers)
while_open all [] after numbers are is = cc
while_open all (If ∷ openings) after numbers are is = cc
while_open all (Else ∷ openings) after numbers are is = cc
while_open all (While ∷ openings) after [] are is = absurd are
while_open all (While ∷ openings) after (n ∷ numbers) are is = same_open all openings after numbers is are.1
while_open all (Repeat ∷ openings) after numbers are is = cc

repeat_open : (all : List Member) (openings after : List Opening) (numbers : List ℕ) (expr : ℕ) → AreOpen all openings numbers
    → open_behind openings (Until expr) ≡ Some after → AreOpen all after (drop 1 numbers)
repeat_open all [] after numbers expr are is = cc
repeat_open all (If ∷ openings) after numbers expr are is = cc
repeat_open all (Else ∷ openings) after numbers expr are is = cc
repeat_open all (While ∷ openings) after numbers expr are is = cc
repeat_open all (Repeat ∷ openings) after [] expr are is = absurd are
repeat_open all (Repeat ∷ openings) after (n ∷ numbers) expr are is = same_open all openings after numbers is are.1

-- behind one member
open_next : (all : List Member) (openings after : List Opening) (numbers : List ℕ) (number : ℕ) (member : Member)
    → AreOpen all openings numbers → slice_get all number ≡ Some member → open_behind openings member ≡ Some after
    → AreOpen all after (open_numbers number numbers member)
open_next all openings after numbers number (Put array expr mask line) are here is = same_open all openings after numbers is are
open_next all openings after numbers number (Cell cell expr mask line) are here is = same_open all openings after numbers is are
open_next all openings after numbers number (Acc scalar fold expr mask line) are here is = same_open all openings after numbers is are
open_next all openings after numbers number (OpenIf expr mask line) are here is =
    same_open all (If ∷ openings) after (number ∷ numbers) is (tt, are)
open_next all openings after numbers number Otherwise are here is = else_open all openings after numbers are is
open_next all openings after numbers number CloseIf are here is = if_open all openings after numbers are is
open_next all openings after numbers number (OpenWhile expr mask line) are here is =
    same_open all (While ∷ openings) after (number ∷ numbers) is
    (subst (λ (o : Option Member). IsSomeAnd o IsAgain) (sym here) tt, are)
open_next all openings after numbers number CloseWhile are here is = while_open all openings after numbers are is
open_next all openings after numbers number (OpenRepeat mask line) are here is =
    same_open all (Repeat ∷ openings) after (number ∷ numbers) is
    (subst (λ (o : Option Member). IsSomeAnd o IsAgain) (sym here) tt, are)
open_next all openings after numbers number (Until expr) are here is = repeat_open all openings after numbers expr are is

-- ---- members by number
at_front : (front rest : List Member) (member : Member) → slice_get (front ++ member ∷ rest) (length front) ≡ Some member
at_front [] rest member = refl
at_front (first ∷ front) rest member = at_front front rest member

drop_next : (all rest : List Member) (number : ℕ) (member : Member) → drop number all ≡ member ∷ rest
    → (slice_get all number ≡ Some member) × (drop (number + 1) all ≡ rest) × (number < length all)
drop_next [] rest zero member is = cc
drop_next [] rest (suc number) member is = cc
drop_next (first ∷ all) rest zero member is =
    let same : first ≡ member = cc in
    let behind : all ≡ rest = cc in
    (ap Some same, behind, omega arith)
drop_next (first ∷ all) rest (suc number) member is =
    let there = drop_next all rest number member is in
    let next : suc number + 1 ≡ suc (number + 1) = omega arith in
    (there.0, ap (λ n. drop n (first ∷ all)) next ∙ there.1, omega (arith, there.2))

split : (all : List Member) (number : ℕ) (member : Member) → slice_get all number ≡ Some member
    → (take number all ++ member ∷ drop (number + 1) all ≡ all) × (length (take number all) ≡ number)
split [] number member is = cc
split (first ∷ all) zero member is = let same : first ≡ member = cc in (ap (λ m. m ∷ all) (sym same), refl)
split (first ∷ all) (suc number) member is =
    let there = split all number member is in
    let next : suc number + 1 ≡ suc (number + 1) = omega arith in (
      ap (λ n. first ∷ (take number all ++ member ∷ drop n (first ∷ all))) next ∙ ap (λ rest. first ∷ rest) there.0,
      omega (arith, there.1),
    )

-- behind members one after another
open_all : (all : List Member) (openings after : List Opening) (numbers : List ℕ) (front members rest : List Member)
    → front ++ (members ++ rest) ≡ all → AreOpen all openings numbers → opened openings members ≡ Some after
    → AreOpen all after (open_from (length front) numbers members)
open_all all openings after numbers front [] rest whole are is = same_open all openings after numbers is are
open_all all openings after numbers front (member ∷ members) rest whole are is =
    by (open_behind openings member) refl is
    (λ next more said.
    open_all all next after (open_numbers (length front) numbers member) (front ++ member ∷ []) members rest
    (append_assoc front (member ∷ []) (members ++ rest) ∙ whole) more said)
  where
    here : slice_get all (length front) ≡ Some member
    here = ap (λ list. slice_get list (length front)) (sym whole) ∙ at_front front (members ++ rest) member

    long : length (front ++ member ∷ []) ≡ length front + 1
    long = length-append front (member ∷ [])

    by : (next : Option (List Opening)) → open_behind openings member ≡ next
        → option_and_then (λ o. opened o members) next ≡ Some after
        → ((o : List Opening) → AreOpen all o (open_numbers (length front) numbers member) → opened o members ≡ Some after
        → AreOpen all after (open_from (length (front ++ member ∷ [])) (open_numbers (length front) numbers member) members))
        → AreOpen all after (open_from (length front) numbers (member ∷ members))
    by None e said further = cc
    by (Some next) e said further =
        subst (λ n. AreOpen all after (open_from n (open_numbers (length front) numbers member) members)) long
        (further next (open_next all openings next numbers (length front) member are here e) said)

-- a member that goes back, and what it goes back to
abbrev IsBack : Member → Type 0
IsBack (Put array expr mask line) = ⊥
IsBack (Cell cell expr mask line) = ⊥
IsBack (Acc scalar fold expr mask line) = ⊥
IsBack (OpenIf expr mask line) = ⊥
IsBack Otherwise = ⊥
IsBack CloseIf = ⊥
IsBack (OpenWhile expr mask line) = ⊥
IsBack CloseWhile = Unit {0}
IsBack (OpenRepeat mask line) = ⊥
IsBack (Until expr) = Unit {0}

abbrev first_or : List ℕ → ℕ → ℕ
first_or [] number = number
first_or (n ∷ numbers) number = n

first_is : (numbers : List ℕ) (number : ℕ) → unwrap_or (slice_get numbers 0) number ≡ first_or numbers number
first_is [] number = refl
first_is (n ∷ numbers) number = refl

top_again : (all : List Member) (openings after : List Opening) (numbers : List ℕ) (number : ℕ) (member : Member) → IsBack member
    → AreOpen all openings numbers → open_behind openings member ≡ Some after
    → IsSomeAnd (slice_get all (first_or numbers number)) IsAgain
top_again all [] after numbers number CloseWhile back are is = cc
top_again all (If ∷ openings) after numbers number CloseWhile back are is = cc
top_again all (Else ∷ openings) after numbers number CloseWhile back are is = cc
top_again all (While ∷ openings) after [] number CloseWhile back are is = absurd are
top_again all (While ∷ openings) after (n ∷ numbers) number CloseWhile back are is = are.0
top_again all (Repeat ∷ openings) after numbers number CloseWhile back are is = cc
top_again all [] after numbers number (Until expr) back are is = cc
top_again all (If ∷ openings) after numbers number (Until expr) back are is = cc
top_again all (Else ∷ openings) after numbers number (Until expr) back are is = cc
top_again all (While ∷ openings) after numbers number (Until expr) back are is = cc
top_again all (Repeat ∷ openings) after [] number (Until expr) back are is = absurd are
top_again all (Repeat ∷ openings) after (n ∷ numbers) number (Until expr) back are is = are.0
top_again all openings after numbers number member back are is = absurd back

goes_to_again : (all : List Member) (number : ℕ) (member : Member) → IsNest all → slice_get all number ≡ Some member → IsBack member
    → IsSomeAnd (slice_get all (innermost_of all number)) IsAgain
goes_to_again all number member nest here back =
    subst (λ n. IsSomeAnd (slice_get all n) IsAgain) (sym (first_is (open_before all number) number))
    (by (opened [] (take number all)) refl)
  where
    parts : (take number all ++ member ∷ drop (number + 1) all ≡ all) × (length (take number all) ≡ number)
    parts = split all number member here

    closed : option_and_then (λ next. opened next (member ∷ drop (number + 1) all)) (opened [] (take number all)) ≡ Some []
    closed =
        sym (opened-append [] (take number all) (member ∷ drop (number + 1) all))
        ∙ (ap (opened []) parts.0 ∙ (IsNest-opened all).0 nest)

    next_open : (openings : List Opening) (next : Option (List Opening)) → open_behind openings member ≡ next
        → option_and_then (λ o. opened o (drop (number + 1) all)) next ≡ Some []
        → AreOpen all openings (open_before all number)
        → IsSomeAnd (slice_get all (first_or (open_before all number) number)) IsAgain
    next_open openings None e said are = cc
    next_open openings (Some next) e said are = top_again all openings next (open_before all number) number member back are e

    by : (openings : Option (List Opening)) → opened [] (take number all) ≡ openings
        → IsSomeAnd (slice_get all (first_or (open_before all number) number)) IsAgain
    by None e = let no : option_and_then (λ next. opened next (member ∷ drop (number + 1) all)) None ≡ Some [] =
        subst (λ o. option_and_then (λ next. opened next (member ∷ drop (number + 1) all)) o ≡ Some []) e closed in cc
    by (Some openings) e =
        next_open openings (open_behind openings member) refl
        (subst (λ o. option_and_then (λ next. opened next (member ∷ drop (number + 1) all)) o ≡ Some []) e closed)
        (open_all all [] openings [] [] (take number all) (member ∷ drop (number + 1) all) parts.0 tt e)

-- ---- numbers that are open are those of members
below_drop : (most : ℕ) (numbers : List ℕ) → All (λ n. n < most) numbers → All (λ n. n < most) (drop 1 numbers)
below_drop most [] all = all
below_drop most (n ∷ numbers) all = All-tail (λ n. n < most) n numbers all

below_next : (most number : ℕ) (numbers : List ℕ) (member : Member) → number < most → All (λ n. n < most) numbers
    → All (λ n. n < most) (open_numbers number numbers member)
below_next most number numbers (Put array expr mask line) here all = all
below_next most number numbers (Cell cell expr mask line) here all = all
below_next most number numbers (Acc scalar fold expr mask line) here all = all
below_next most number numbers (OpenIf expr mask line) here all = All-cons (λ n. n < most) number numbers here all
below_next most number numbers Otherwise here all = all
below_next most number numbers CloseIf here all = below_drop most numbers all
below_next most number numbers (OpenWhile expr mask line) here all = All-cons (λ n. n < most) number numbers here all
below_next most number numbers CloseWhile here all = below_drop most numbers all
below_next most number numbers (OpenRepeat mask line) here all = All-cons (λ n. n < most) number numbers here all
below_next most number numbers (Until expr) here all = below_drop most numbers all

below_open : (most number : ℕ) (numbers : List ℕ) (members : List Member) → number + length members ≤ most
    → All (λ n. n < most) numbers → All (λ n. n < most) (open_from number numbers members)
below_open most number numbers [] few all = all
below_open most number numbers (member ∷ members) few all =
    below_open most (number + 1) (open_numbers number numbers member) members (omega arith)
    (below_next most number numbers member (omega arith) all)

last_below : (most number : ℕ) (numbers : List ℕ) → number < most → All (λ n. n < most) numbers → last_or number numbers < most
last_below most number [] here all = here
last_below most number (first ∷ numbers) here all =
    last_below most first numbers (All-head (λ n. n < most) first numbers all) (All-tail (λ n. n < most) first numbers all)

outermost_below : (all : List Member) (number : ℕ) (member : Member) → slice_get all number ≡ Some member
    → number < length all → outermost_of all number < length all
outermost_below all number member here below =
    let parts = split all number member here in
    last_below (length all) number (open_before all number) below
    (below_open (length all) 0 [] (take number all) (omega (arith, parts.1)) (All-nil (λ n. n < length all)))

-- ---- what members keep: how many scalars and cells there are, and what holds of the store
module _ {S : Type 0} (tables : Tables) (access : Access S) (P : S → Type 0)
    (writes : (store : S) (array : ℕ) (value : ℤ) → P store → IfSome (access.with_element store array value) P)
    (scalars cells : ℕ) where
  pub record IsPoint (point : Point S) : Type 0 where
    pub scalars_are : length point.scalars ≡ scalars
    pub cells_are : length point.cells ≡ cells
    pub store_is : P point.store

  abbrev IsKeptStep : Member → Step S → Type 0
  IsKeptStep member (GoesOn mode point) = IsPoint point
  IsKeptStep member (GoesBack point) = IsPoint point × IsBack member
  IsKeptStep member DividesHere = Unit {0}
  IsKeptStep member LacksHere = Unit {0}

  kept_value : (member : Member) (value : Computed ℤ) (next : ℤ → Step S) → ((v : ℤ) → IsKeptStep member (next v))
      → IsKeptStep member (with_value value next)
  kept_value member (Gives value) next kept = kept value
  kept_value member Divides next kept = tt
  kept_value member Lacks next kept = tt

  kept_either : (member : Member) (b : Bool) (one two : Step S) → IsKeptStep member one → IsKeptStep member two
      → IsKeptStep member (cond b one two)
  kept_either member true one two h g = h
  kept_either member false one two h g = g

  kept_masked : (member : Member) (point : Point S) (mask : Option ℕ) (skip : Mode) (run : Step S) → IsPoint point
      → IsKeptStep member run → IsKeptStep member (masked tables access point mask skip run)
  kept_masked member point None skip run is kept = kept
  kept_masked member point (Some mask) skip run is kept =
      kept_value member (value_at tables access point mask) _ (λ v. kept_either member (is_true v) run (GoesOn skip point) kept is)

  kept_chosen : (member : Member) (point : Point S) (b to_else : Bool) → IsPoint point
      → IsKeptStep member (chosen tables access point b to_else)
  kept_chosen member point true to_else is = is
  kept_chosen member point false to_else is = is

  kept_store : (member : Member) (point : Point S) (store : Option S) → IsPoint point → IfSome store P
      → IsKeptStep member (with_found (with_store tables access point store))
  kept_store member point None is kept = tt
  kept_store member point (Some store) is kept =
      record { scalars_are = is.scalars_are; cells_are = is.cells_are; store_is = kept }

  kept_run : (point : Point S) (member : Member) → IsPoint point → IsKeptStep member (run_member tables access point member)
  kept_run point (Put array expr mask line) is =
      kept_masked (Put array expr mask line) point mask Runs _ is
      (kept_value (Put array expr mask line) (value_at tables access point expr) _ (λ v.
      kept_store (Put array expr mask line) point (access.with_element point.store array v) is
      (writes point.store array v is.store_is)))
  kept_run point (Cell cell expr mask line) is =
      kept_masked (Cell cell expr mask line) point mask Runs _ is
      (kept_value (Cell cell expr mask line) (value_at tables access point expr) _ (λ v. record {
        scalars_are = is.scalars_are;
        cells_are = length-set point.cells cell v ∙ is.cells_are;
        store_is = is.store_is;
      }))
  kept_run point (Acc scalar fold expr mask line) is =
      kept_masked (Acc scalar fold expr mask line) point mask Runs _ is
      (kept_value (Acc scalar fold expr mask line) (value_at tables access point expr) _ (λ v.
      kept_value (Acc scalar fold expr mask line) (read (slice_get point.scalars scalar)) _ (λ own. record {
        scalars_are = length-set point.scalars scalar _ ∙ is.scalars_are;
        cells_are = is.cells_are;
        store_is = is.store_is;
      })))
  kept_run point (OpenIf expr mask line) is =
      kept_masked (OpenIf expr mask line) point mask (Skips 0 false) _ is
      (kept_value (OpenIf expr mask line) (value_at tables access point expr) _ (λ v.
      kept_chosen (OpenIf expr mask line) point (is_true v) true is))
  kept_run point Otherwise is = is
  kept_run point CloseIf is = is
  kept_run point (OpenWhile expr mask line) is =
      kept_masked (OpenWhile expr mask line) point mask (Skips 0 false) _ is
      (kept_value (OpenWhile expr mask line) (value_at tables access point expr) _ (λ v.
      kept_chosen (OpenWhile expr mask line) point (is_true v) false is))
  kept_run point CloseWhile is = (is, tt)
  kept_run point (OpenRepeat mask line) is = kept_masked (OpenRepeat mask line) point mask (Skips 0 false) _ is is
  kept_run point (Until expr) is =
      kept_value (Until expr) (value_at tables access point expr) _ (λ v.
      kept_either (Until expr) (is_true v) (GoesOn Runs point) (GoesBack point) is (is, tt))

  kept_step : (mode : Mode) (point : Point S) (member : Member) → IsPoint point
      → IsKeptStep member (member_step tables access mode point member)
  kept_step Runs point member is = kept_run point member is
  kept_step (Skips depth to_else) point member is = is

  -- the end of a turn
  abbrev pub IsKeptRan : List Member → Ran S → Type 0
  IsKeptRan all (Through point) = IsPoint point
  IsKeptRan all (Again member point) = IsPoint point × IsSomeAnd (slice_get all member) IsAgain
  IsKeptRan all (Divided member point) = IsPoint point × (member < length all)
  IsKeptRan all Unheld = Unit {0}

  pub kept_ran : (all : List Member) (number : ℕ) (mode : Mode) (rest : List Member) (point : Point S) → IsNest all
      → drop number all ≡ rest → IsPoint point → IsKeptRan all (ran tables access all number mode rest point)
  kept_ran all number mode [] point nest is kept = kept
  kept_ran all number mode (member ∷ rest) point nest is kept =
      by (member_step tables access mode point member) (kept_step mode point member kept)
      (λ more next after. kept_ran all (number + 1) more rest next nest there.1 after)
    where
      there : (slice_get all number ≡ Some member) × (drop (number + 1) all ≡ rest) × (number < length all)
      there = drop_next all rest number member is

      by : (step : Step S) → IsKeptStep member step
          → ((more : Mode) (next : Point S) → IsPoint next → IsKeptRan all (ran tables access all (number + 1) more rest next))
          → IsKeptRan all
          (goes_on tables access all number point step (λ more next. ran tables access all (number + 1) more rest next))
      by (GoesOn more next) after further = further more next after
      by (GoesBack next) after further = (after.0, goes_to_again all number member nest there.0 after.1)
      by DividesHere after further = (kept, outermost_below all number member there.0 there.2)
      by LacksHere after further = tt
