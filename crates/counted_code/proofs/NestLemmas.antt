-- Counted groups as trees, and that their loops end.
use Rattle.std.proofs.Common.{◌≡◌, ◌⊎◌, inl, inr, refl, sym, ◌∙◌, ap, ap₂, subst, ℕ, zero, suc}
use Rattle.std.proofs.Common.{◌+◌, ◌==◌, ◌<◌, ◌≤◌, Bool, true, false, List, [], ◌∷◌, ◌++◌}
use Rattle.std.proofs.Common.{arith}
use Rattle.std.proofs.Common.{pos, ℤ, eqb-true, append_assoc, ltb-true, ltb-false}
use Rattle.std.proofs.Common.{leb-false}
use borrow.Author.Tests.{eqb-false}
use Rattle.std.specs.Prelude.{⊤, Option, Some, None, slice_get, slice_set, All, if◌then◌else◌}
use Rattle.std.specs.Prelude.{nat_lt, nat_le, ◌&&◌, ◌||◌}
use Rattle.std.specs.Option.{IsSomeAnd, option_map}
use Rattle.std.proofs.lemmas.Grind.{flat_map-append}
use Rattle.zpl_nums.specs.Integer.{is_true, truth}
use Rattle.zpl_nums.specs.Fold.{joined}
use Rattle.std.specs.Ordering.{int_eq}
use Rattle.node_form.specs.declared.members.Member.{Member}
use Rattle.node_form.specs.declared.members.Member.TheVariants as member
use Rattle.node_form.specs.declared.tables.Tables.{Tables}
use Rattle.node_form.specs.declared.words.ExprOp.{ExprOp}
use Rattle.node_form.specs.Fits.{FitsWord, HasExpr}
use Rattle.node_form.specs.Value.{Computed, Divides, Gives, Lacks, and_then, read, value_of}
use Rattle.node_form.specs.Group.{Access, Point, operands_at, value_at}
use Rattle.node_form.specs.Nest.{Choosing, ChoosingElse, Joining, Keeping, Looping, Nest, Nothing}
use Rattle.node_form.specs.Nest.{Putting, Repeating, members_of}
use Rattle.nest_meaning.specs.Nested.{Fine, Lost, Told, Wants, Ways, Zero, leaf_does, masked}
use Rattle.nest_meaning.specs.Nested.{nested, repeat_turns, then_do}
use Rattle.nest_meaning.specs.Nested.{until_done, ways_of, while_turns, with_state, with_value}
use Rattle.nest_meaning.specs.Units.{units_of}
use Rattle.plan_passes.proofs.ControlLemmas.{other_set}
use Rattle.counted_code.specs.Counted.{counted, counted_group, counted_member}
use Rattle.counted_code.specs.Counted.{counting, equal_expr, idling}
use Rattle.counted_code.specs.Counted.{number_expr, until_expr, while_expr}
use Rattle.counted_code.proofs.TableLemmas.{equal_there, number_there, until_there, while_there}
use Rattle.counted_code.proofs.ValueLemmas.{below_is, equal_is, equal_value, most_is, tested_by}
use Rattle.counted_code.proofs.ValueLemmas.{unequal_is, until_value}
use Rattle.counted_code.proofs.ValueLemmas.{while_value}

-- ---- the tree of a counted group
module _ (n : ℕ) (code : Tables) where
  abbrev pub idle_then : ℕ → Nest → Nest
  idle_then zero after = after
  idle_then (suc k) after =
      Keeping code.cells (number_expr n code 0) (Some (number_expr n code 0)) 0 (idle_then k after)

  abbrev pub count_then : ℕ → Nest → Nest
  count_then zero after = after
  count_then (suc k) after =
      Keeping code.cells (number_expr n code (suc k)) (Some (equal_expr n code k)) 0
      (count_then k after)

  abbrev pub counted_nest : Nest → Nest
  counted_nest Nothing = Nothing
  counted_nest (Putting array expr mask line after) =
      Putting array expr mask line (idle_then n (counted_nest after))
  counted_nest (Keeping cell expr mask line after) =
      Keeping cell expr mask line (idle_then n (counted_nest after))
  counted_nest (Joining scalar f expr mask line after) =
      Joining scalar f expr mask line (idle_then n (counted_nest after))
  counted_nest (Choosing expr mask line body after) =
      Choosing expr mask line (idle_then n (counted_nest body)) (idle_then n (counted_nest after))
  counted_nest (ChoosingElse expr mask line body otherwise after) =
      ChoosingElse expr mask line (idle_then n (counted_nest body))
      (idle_then n (counted_nest otherwise))
      (idle_then n (counted_nest after))
  counted_nest (Looping expr mask line body after) =
      Looping (while_expr n code expr) mask line (count_then n (counted_nest body))
      (idle_then n (counted_nest after))
  counted_nest (Repeating mask line body until after) =
      Repeating mask line (count_then n (counted_nest body)) (until_expr n code until)
      (idle_then n (counted_nest after))

  idle_members : (k : ℕ) (after : Nest) → members_of (idle_then k after)
      ≡ idling n code k ++ members_of after
  idle_members zero after = refl
  idle_members (suc k) after =
      ap (λ l. member.Cell code.cells (number_expr n code 0) (Some (number_expr n code 0)) 0 ∷ l)
      (idle_members k after)

  count_members : (k : ℕ) (after : Nest) → members_of (count_then k after)
      ≡ counting n code k ++ members_of after
  count_members zero after = refl
  count_members (suc k) after =
      ap (λ l. member.Cell code.cells (number_expr n code (suc k)) (Some (equal_expr n code k)) 0 ∷
      l)
      (count_members k after)

  abbrev group : List Member → List Member
  group members = counted_group n code members

  idle_group : (nest : Nest) → members_of (counted_nest nest) ≡ group (members_of nest)
      → members_of (idle_then n (counted_nest nest)) ≡ idling n code n ++ group (members_of nest)
  idle_group nest e = idle_members n (counted_nest nest) ∙ ap (λ l. idling n code n ++ l) e

  count_group : (nest : Nest) → members_of (counted_nest nest) ≡ group (members_of nest)
      → members_of (count_then n (counted_nest nest)) ≡ counting n code n ++ group (members_of nest)
  count_group nest e = count_members n (counted_nest nest) ∙ ap (λ l. counting n code n ++ l) e

  -- members that stand in a bracket, and those behind it
  closed : (block body rest there others : List Member) (one : Member) (behind : List Member)
      → there ≡ block ++ group body → counted_member n code one ≡ behind → others ≡ group rest
      → there ++ (behind ++ others) ≡ block ++ group (body ++ one ∷ rest)
  closed block body rest there others one behind e f g =
      ap₂ (λ l r. l ++ r) e (ap₂ (λ l r. l ++ r) (sym f) g)
      ∙ (append_assoc block (group body) (counted_member n code one ++ group rest)
      ∙ ap (λ l. block ++ l) (sym (flat_map-append (counted_member n code) body (one ∷ rest))))

  pub nest_members : (nest : Nest) → members_of (counted_nest nest) ≡ group (members_of nest)
  nest_members Nothing = refl
  nest_members (Putting array expr mask line after) =
      ap (λ l. member.Put array expr mask line ∷ l) (idle_group after (nest_members after))
  nest_members (Keeping cell expr mask line after) =
      ap (λ l. member.Cell cell expr mask line ∷ l) (idle_group after (nest_members after))
  nest_members (Joining scalar f expr mask line after) =
      ap (λ l. member.Acc scalar f expr mask line ∷ l) (idle_group after (nest_members after))
  nest_members (Choosing expr mask line body after) =
      ap (λ l. member.OpenIf expr mask line ∷ l)
      (ap (λ l. members_of (idle_then n (counted_nest body)) ++ member.CloseIf ∷ l)
      (idle_group after (nest_members after))
      ∙ closed (idling n code n) (members_of body) (members_of after) _ (group (members_of after))
      member.CloseIf _
      (idle_group body (nest_members body)) refl refl)
  nest_members (ChoosingElse expr mask line body otherwise after) =
      ap (λ l. member.OpenIf expr mask line ∷ l)
      (ap (λ l. members_of (idle_then n (counted_nest body)) ++ member.Otherwise ∷ l)
      (ap (λ l. members_of (idle_then n (counted_nest otherwise)) ++ member.CloseIf ∷ l)
      (idle_group after (nest_members after))
      ∙ closed (idling n code n) (members_of otherwise) (members_of after) _
      (group (members_of after)) member.CloseIf _
      (idle_group otherwise (nest_members otherwise)) refl refl)
      ∙ closed (idling n code n) (members_of body)
      (members_of otherwise ++ member.CloseIf ∷ members_of after) _
      (group (members_of otherwise ++ member.CloseIf ∷ members_of after)) member.Otherwise _
      (idle_group body (nest_members body)) refl refl)
  nest_members (Looping expr mask line body after) =
      ap (λ l. member.OpenWhile (while_expr n code expr) mask line ∷ l)
      (ap (λ l. members_of (count_then n (counted_nest body)) ++ member.CloseWhile ∷ l)
      (idle_group after (nest_members after))
      ∙ closed (counting n code n) (members_of body) (members_of after) _ (group (members_of after))
      member.CloseWhile _
      (count_group body (nest_members body)) refl refl)
  nest_members (Repeating mask line body until after) =
      ap (λ l. member.OpenRepeat mask line ∷ l)
      (ap (λ l. members_of (count_then n (counted_nest body)) ++ member.Until
      (until_expr n code until) ∷ l)
      (idle_group after (nest_members after))
      ∙ closed (counting n code n) (members_of body) (members_of after) _ (group (members_of after))
      (member.Until until) _
      (count_group body (nest_members body)) refl refl)

-- the loops of a tree have their expressions, and its cells are old ones
abbrev pub NestFits : Tables → ℕ → Nest → Type 0
NestFits code rank Nothing = ⊤
NestFits code rank (Putting array expr mask line after) = NestFits code rank after
NestFits code rank (Keeping cell expr mask line after) =
    (cell < code.cells) × NestFits code rank after
NestFits code rank (Joining scalar f expr mask line after) = NestFits code rank after
NestFits code rank (Choosing expr mask line body after) =
    NestFits code rank body × NestFits code rank after
NestFits code rank (ChoosingElse expr mask line body otherwise after) =
    NestFits code rank body × NestFits code rank otherwise × NestFits code rank after
NestFits code rank (Looping expr mask line body after) =
    HasExpr code rank expr × NestFits code rank body × NestFits code rank after
NestFits code rank (Repeating mask line body until after) =
    HasExpr code rank until × NestFits code rank body × NestFits code rank after

-- ---- what it comes to
-- the counting cell has gone from a number on, but not past n; no further turn is wanted
abbrev Has : {S : Type 0} → Tables → Point S → ℕ → Type 0
Has code point count = slice_get point.cells code.cells ≡ Some (pos count)

pub record IsBetween {S : Type 0} (n : ℕ) (code : Tables) (least : ℕ) (point : Point S) : Type 0
  where
    pub count : ℕ
    pub more : least ≤ count
    pub few : count ≤ n
    pub here : Has code point count

abbrev pub IsTame : {S : Type 0} → ℕ → Tables → ℕ → Told (Point S) → Type 0
IsTame n code least (Fine point) = IsBetween n code least point
IsTame n code least (Zero point) = IsBetween n code least point
IsTame n code least Wants = ⊥
IsTame n code least Lost = ⊤

module _ {S : Type 0} (n : ℕ) (code : Tables) (access : Access S) (m : ℕ) (above : n < m) where
  abbrev real : Tables
  real = counted n code

  abbrev ways : Ways (Point S)
  ways = ways_of real access

  abbrev Between : ℕ → Point S → Type 0
  Between least point = IsBetween n code least point

  abbrev Tame : ℕ → Told (Point S) → Type 0
  Tame least told = IsTame n code least told

  -- from every state
  abbrev pub EachTame : (Point S → Told (Point S)) → Type 0
  EachTame does = (count : ℕ) (point : Point S) → count ≤ n → Has code point count
      → Tame count (does point)

  same_between : (count : ℕ) (point : Point S) → count ≤ n → Has code point count
      → Between count point
  same_between count point few here =
      record { count = count; more = omega arith; few = few; here = here }

  less_between : (less least : ℕ) (point : Point S) → less ≤ least → Between least point
      → Between less point
  less_between less least point up is = record {
    count = is.count;
    more = omega (arith, up, is.more);
    few = is.few;
    here = is.here;
  }

  less_tame : (less least : ℕ) (told : Told (Point S)) → less ≤ least → Tame least told
      → Tame less told
  less_tame less least (Fine point) up is = less_between less least point up is
  less_tame less least (Zero point) up is = less_between less least point up is
  less_tame less least Wants up is = is
  less_tame less least Lost up is = tt

  then_tame : (least : ℕ) (next : Point S → Told (Point S)) (told : Told (Point S))
      → Tame least told
      → ((count : ℕ) (point : Point S) → least ≤ count → count ≤ n → Has code point count
      → Tame count (next point))
      → Tame least (then_do next told)
  then_tame least next (Fine point) is more =
      less_tame least is.count (next point) is.more (more is.count point is.more is.few is.here)
  then_tame least next (Zero point) is more = is
  then_tame least next Wants is more = absurd is
  then_tame least next Lost is more = tt

  value_tame : (count : ℕ) (point : Point S) → count ≤ n → Has code point count → (v : Computed ℤ)
      → (next : ℤ → Told (Point S)) → ((x : ℤ) → Tame count (next x))
      → Tame count (with_value point v next)
  value_tame count point few here (Gives x) next tame = tame x
  value_tame count point few here Divides next tame = same_between count point few here
  value_tame count point few here Lacks next tame = tt

  masked_tame : (count : ℕ) (point : Point S) → count ≤ n → Has code point count → (mask : Option ℕ)
      → (run : Told (Point S)) → Tame count run → Tame count (masked ways mask point run)
  masked_tame count point few here None run tame = tame
  masked_tame count point few here (Some mask) run tame =
      value_tame count point few here (ways.value point mask)
      (λ v. if is_true v then run else Fine point) (λ x. by (is_true x))
    where
      by : (b : Bool) → Tame count (if b then run else Fine point)
      by true = tame
      by false = same_between count point few here

  -- ---- idle members
  zero_value : (point : Point S) → value_at real access point (number_expr n code 0) ≡ Gives (pos 0)
  zero_value point =
      ap (λ o. and_then (value_of (operands_at access point)) (read o))
      (number_there n code 0 (omega arith))

  pub idle_same : (k : ℕ) (after : Nest) (point : Point S)
      → nested ways m (idle_then n code k after) point ≡ nested ways m after point
  idle_same zero after point = refl
  idle_same (suc k) after point =
      ap (λ v. then_do (nested ways m (idle_then n code k after))
      (with_value point v (λ v. if is_true v
      then with_value point (ways.value point (number_expr n code 0))
      (λ v. with_state (ways.keep code.cells v point))
      else Fine point))) (zero_value point)
      ∙ idle_same k after point

  idle_tame : (after : Nest) → EachTame (nested ways m after)
      → EachTame (nested ways m (idle_then n code n after))
  idle_tame after tame count point few here =
      subst (Tame count) (sym (idle_same n after point)) (tame count point few here)

  -- ---- members that count
  abbrev set_to : Point S → ℕ → Point S
  set_to point count = record point { cells = slice_set point.cells code.cells (pos count) }

  set_here : (cells : List ℤ) (k : ℕ) (x y : ℤ) → slice_get cells k ≡ Some x
      → slice_get (slice_set cells k y) k ≡ Some y
  set_here [] k x y e = cc
  set_here (z ∷ cells) zero x y e = refl
  set_here (z ∷ cells) (suc k) x y e = set_here cells k x y e

  abbrev step_by : Point S → Bool → Computed ℤ → Told (Point S)
  step_by point b value =
      if b then with_value point value (λ v. with_state (ways.keep code.cells v point)) else Fine
      point

  mask_value : (k count : ℕ) (point : Point S) → k < n → Has code point count
      → value_at real access point (equal_expr n code k)
      ≡ Gives (truth (int_eq (pos count) (pos k)))
  mask_value k count point less here =
      ap (λ o. and_then (value_of (operands_at access point)) (read o)) (equal_there n code k less)
      ∙ equal_value (operands_at access point) code.cells count n here k

  next_value : (k : ℕ) (point : Point S) → k < n
      → value_at real access point (number_expr n code (suc k)) ≡ Gives (pos (suc k))
  next_value k point less =
      ap (λ o. and_then (value_of (operands_at access point)) (read o))
      (number_there n code (suc k) (omega (arith, less)))

  abbrev cell_does : ℕ → Point S → Told (Point S)
  cell_does k point =
      leaf_does ways (number_expr n code (suc k)) (Some (equal_expr n code k))
      (ways.keep code.cells) point

  does_count : (k count : ℕ) (point : Point S) → k < n → Has code point count → count ≡ k
      → cell_does k point ≡ Fine (set_to point (suc k))
  does_count k count point less here same =
      ap (λ v. with_value point v (λ v. step_by point (is_true v)
      (value_at real access point (number_expr n code (suc k)))))
      (mask_value k count point less here)
      ∙ (ap (λ b. step_by point b (value_at real access point (number_expr n code (suc k))))
      (equal_is count k same)
      ∙ ap (step_by point true) (next_value k point less))

  does_skip : (k count : ℕ) (point : Point S) → k < n → Has code point count → ¬ (count ≡ k)
      → cell_does k point ≡ Fine point
  does_skip k count point less here apart =
      ap (λ v. with_value point v (λ v. step_by point (is_true v)
      (value_at real access point (number_expr n code (suc k)))))
      (mask_value k count point less here)
      ∙ ap (λ b. step_by point b (value_at real access point (number_expr n code (suc k))))
      (unequal_is count k apart)

  abbrev then_nest : ℕ → Nest → Told (Point S) → Told (Point S)
  then_nest k after told = then_do (nested ways m (count_then n code k after)) told

  count_past : (k count : ℕ) (after : Nest) (point : Point S) → k ≤ n → k ≤ count
      → Has code point count
      → nested ways m (count_then n code k after) point ≡ nested ways m after point
  count_past zero count after point few past here = refl
  count_past (suc k) count after point few past here =
      ap (then_nest k after) (does_skip k count point (omega (arith, few)) here
      (λ e. omega (arith, e, past)))
      ∙ count_past k count after point (omega (arith, few)) (omega (arith, past)) here

  count_hits : (k count : ℕ) (after : Nest) (point : Point S) → k ≤ n → count < k
      → Has code point count
      → nested ways m (count_then n code k after) point
      ≡ nested ways m after (set_to point (suc count))
  count_hits zero count after point few below here = absurd (omega (arith, below))
  count_hits (suc k) count after point few below here =
      by (count == k) refl (λ less. count_hits k count after point (omega (arith, few)) less here)
    where
      by : (b : Bool) → (count == k) ≡ b
          → (count < k → nested ways m (count_then n code k after) point
          ≡ nested ways m after (set_to point (suc count)))
          → nested ways m (count_then n code (suc k) after) point
          ≡ nested ways m after (set_to point (suc count))
      by true e ih =
          ap (then_nest k after) (does_count k count point (omega (arith, few)) here
          (eqb-true count k e))
          ∙ (count_past k (suc k) after (set_to point (suc k)) (omega (arith, few)) (omega arith)
          (set_here point.cells code.cells (pos count) (pos (suc k)) here)
          ∙ ap (λ c. nested ways m after (set_to point (suc c))) (sym (eqb-true count k e)))
      by false e ih =
          ap (then_nest k after) (does_skip k count point (omega (arith, few)) here (apart e))
          ∙ ih (smaller below (apart e))
        where
          apart : (count == k) ≡ false → ¬ (count ≡ k)
          apart e same = eqb-false count k e same

          smaller : count < suc k → ¬ (count ≡ k) → count < k
          smaller less apart = omega (arith, less, apart)

  -- a body: it goes on by one, unless the cell is full
  abbrev pub BodyTame : (Point S → Told (Point S)) → Type 0
  BodyTame does =
      ((count : ℕ) (point : Point S) → count < n → Has code point count
      → Tame (suc count) (does point))
      × ((count : ℕ) (point : Point S) → count ≡ n → Has code point count → Tame count (does point))

  count_tame : (after : Nest) → EachTame (nested ways m after)
      → BodyTame (nested ways m (count_then n code n after))
  count_tame after tame = (
    λ count point less here.
        subst (Tame (suc count)) (sym (count_hits n count after point (omega arith) less here))
        (tame (suc count) (set_to point (suc count)) (omega (arith, less))
        (set_here point.cells code.cells (pos count) (pos (suc count)) here)),
    λ count point full here.
        subst (Tame count) (sym (count_past n count after point (omega arith) (omega (arith, full))
        here))
        (tame count point (omega (arith, full)) here),
  )

  -- ---- loops
  while_value_at : (rank expr count : ℕ) (point : Point S) → HasExpr code rank expr
      → Has code point count
      → (old : Computed ℤ) × (ways.value point (while_expr n code expr)
      ≡ tested_by (λ b. b && nat_lt count n) old)
  while_value_at rank expr count point has here = by (slice_get code.exprs expr) refl has
    where
      by : (o : Option (List ExprOp)) → slice_get code.exprs expr ≡ o
          → IsSomeAnd o (All (FitsWord code rank))
          → (old : Computed ℤ) × (ways.value point (while_expr n code expr)
          ≡ tested_by (λ b. b && nat_lt count n) old)
      by None e has = absurd has
      by (Some words) e has = (
        value_of (operands_at access point) words,
        ap (λ o. and_then (value_of (operands_at access point)) (read o))
            (while_there n code expr words e)
            ∙ (while_value (operands_at access point) code.cells count n here words
            ∙ ap (λ d. tested_by (λ b. b && d) (value_of (operands_at access point) words))
            (below_is count n)),
      )

  until_value_at : (rank expr count : ℕ) (point : Point S) → HasExpr code rank expr
      → Has code point count
      → (old : Computed ℤ) × (ways.value point (until_expr n code expr)
      ≡ tested_by (λ b. b || nat_le n count) old)
  until_value_at rank expr count point has here = by (slice_get code.exprs expr) refl has
    where
      by : (o : Option (List ExprOp)) → slice_get code.exprs expr ≡ o
          → IsSomeAnd o (All (FitsWord code rank))
          → (old : Computed ℤ) × (ways.value point (until_expr n code expr)
          ≡ tested_by (λ b. b || nat_le n count) old)
      by None e has = absurd has
      by (Some words) e has = (
        value_of (operands_at access point) words,
        ap (λ o. and_then (value_of (operands_at access point)) (read o))
            (until_there n code expr words e)
            ∙ (until_value (operands_at access point) code.cells count n here words
            ∙ ap (λ d. tested_by (λ b. b || d) (value_of (operands_at access point) words))
            (most_is n count)),
      )

  module _ (rank expr : ℕ) (has : HasExpr code rank expr) (mask : Option ℕ)
      (body : Point S → Told (Point S))
      (tame : BodyTame body) where
    while_tame : (t count : ℕ) (point : Point S) → count ≤ n → n < t + count → Has code point count
        → Tame count (while_turns ways t mask (while_expr n code expr) body point)
    while_tame zero count point few enough here = absurd (omega (arith, few, enough))
    while_tame (suc t) count point few enough here =
        masked_tame count point few here mask _
        (let value = while_value_at rank expr count point has here in
        subst (λ v. Tame count (with_value point v (λ v. if is_true v
        then then_do (while_turns ways t mask (while_expr n code expr) body) (body point) else Fine
        point)))
        (sym value.1)
        (by value.0 (λ less more behind above few here. while_tame t more behind few
        (omega (arith, enough, above)) here)))
      where
        go : (b c : Bool) → nat_lt count n ≡ c
            → ((less : count < n) (more : ℕ) (behind : Point S) → suc count ≤ more → more ≤ n
            → Has code behind more
            → Tame more (while_turns ways t mask (while_expr n code expr) body behind))
            → Tame count (if is_true (truth (b && c))
            then then_do (while_turns ways t mask (while_expr n code expr) body) (body point) else
            Fine point)
        go false c e ih = same_between count point few here
        go true false e ih = same_between count point few here
        go true true e ih =
            let less = ltb-true count n e in
            less_tame count (suc count) _ (omega arith)
            (then_tame (suc count) (while_turns ways t mask (while_expr n code expr) body)
            (body point)
            (tame.0 count point less here) (λ more behind above few here. ih less more behind above
            few here))

        by : (old : Computed ℤ)
            → ((less : count < n) (more : ℕ) (behind : Point S) → suc count ≤ more → more ≤ n
            → Has code behind more
            → Tame more (while_turns ways t mask (while_expr n code expr) body behind))
            → Tame count (with_value point (tested_by (λ b. b && nat_lt count n) old)
            (λ v. if is_true v
            then then_do (while_turns ways t mask (while_expr n code expr) body) (body point) else
            Fine point))
        by Divides ih = same_between count point few here
        by Lacks ih = tt
        by (Gives x) ih = go (is_true x) (nat_lt count n) refl ih

    module _ (t : ℕ) where
      abbrev Further : Type 0
      Further =
          (more : ℕ) (behind : Point S) → more ≤ n → n < t + more → Has code behind more
          → Tame more (repeat_turns ways t mask (until_expr n code expr) body behind)

      abbrev test : Point S → Computed ℤ → Told (Point S)
      test behind value =
          with_value behind value (λ v. if is_true v then Fine behind
          else repeat_turns ways t mask (until_expr n code expr) body behind)

      -- behind a turn that was counted, or with the cell full
      tested : (more : ℕ) (behind : Point S) → more ≤ n → Has code behind more
          → (n < t + more) ⊎ (n ≤ more) → Further → (old : Computed ℤ)
          → Tame more (test behind (tested_by (λ b. b || nat_le n more) old))
      tested more behind few here goes ih Divides = same_between more behind few here
      tested more behind few here goes ih Lacks = tt
      tested more behind few here goes ih (Gives x) = go (is_true x) (nat_le n more) refl goes
        where
          go : (b c : Bool) → nat_le n more ≡ c → (n < t + more) ⊎ (n ≤ more)
              → Tame more (if is_true (truth (b || c)) then Fine behind
              else repeat_turns ways t mask (until_expr n code expr) body behind)
          go true c e goes = same_between more behind few here
          go false true e goes = same_between more behind few here
          go false false e (inl enough) = ih more behind few enough here
          go false false e (inr full) =
              let less = leb-false n more e in absurd (omega (arith, less, full))

      until_at : (more : ℕ) (behind : Point S) → more ≤ n → Has code behind more
          → (n < t + more) ⊎ (n ≤ more) → Further
          → Tame more (until_done ways (repeat_turns ways t mask (until_expr n code expr) body)
          (until_expr n code expr) behind)
      until_at more behind few here goes ih =
          let value = until_value_at rank expr more behind has here in
          subst (λ v. Tame more (test behind v)) (sym value.1)
          (tested more behind few here goes ih value.0)

      abbrev turn_of : Point S → Told (Point S)
      turn_of point =
          then_do (until_done ways (repeat_turns ways t mask (until_expr n code expr) body)
          (until_expr n code expr))
          (body point)

      turn_tame : (count : ℕ) (point : Point S) → count ≤ n → n < suc t + count
          → Has code point count
          → (c : Bool) → nat_lt count n ≡ c → Further → Tame count (turn_of point)
      turn_tame count point few enough here true e ih =
          let less = ltb-true count n e in
          less_tame count (suc count) (turn_of point) (omega arith)
          (then_tame (suc count) _ (body point) (tame.0 count point less here)
          (λ more behind above few here. until_at more behind few here
          (inl (omega (arith, enough, above))) ih))
      turn_tame count point few enough here false e ih =
          let full = ltb-false count n e in
          then_tame count _ (body point) (tame.1 count point (omega (arith, few, full)) here)
          (λ more behind above few here. until_at more behind few here
          (inr (omega (arith, full, above))) ih)

    repeat_tame : (t count : ℕ) (point : Point S) → count ≤ n → n < t + count → Has code point count
        → Tame count (repeat_turns ways t mask (until_expr n code expr) body point)
    repeat_tame zero count point few enough here = absurd (omega (arith, few, enough))
    repeat_tame (suc t) count point few enough here =
        masked_tame count point few here mask (turn_of t point)
        (turn_tame t count point few enough here (nat_lt count n) refl
        (λ more behind few enough here. repeat_tame t more behind few enough here))

  -- ---- trees
  -- a member that holds no others
  put_tame : (array expr : ℕ) (mask : Option ℕ)
      → EachTame (leaf_does ways expr mask (ways.put array))
  put_tame array expr mask count point few here =
      masked_tame count point few here mask _
      (value_tame count point few here (ways.value point expr) _
      (λ x. by (access.with_element point.store array x)))
    where
      by : (o : Option S) → Tame count
          (with_state (option_map (λ store. record point { store = store }) o))
      by None = tt
      by (Some store) = same_between count (record point { store = store }) few here

  keep_tame : (cell expr : ℕ) (mask : Option ℕ) → cell < code.cells
      → EachTame (leaf_does ways expr mask (ways.keep cell))
  keep_tame cell expr mask less count point few here =
      masked_tame count point few here mask _
      (value_tame count point few here (ways.value point expr) _
      (λ x. same_between count (record point { cells = slice_set point.cells cell x }) few
      (other_set point.cells cell code.cells x (λ e. omega (arith, less, e)) ∙ here)))

  join_tame : (scalar expr : ℕ) (f : _) (mask : Option ℕ)
      → EachTame (leaf_does ways expr mask (ways.join scalar f))
  join_tame scalar expr f mask count point few here =
      masked_tame count point few here mask _
      (value_tame count point few here (ways.value point expr) _
      (λ x. by x (slice_get point.scalars scalar)))
    where
      by : (x : ℤ) (o : Option ℤ)
          → Tame count (with_state (option_map
          (λ own. record point { scalars = slice_set point.scalars scalar (joined f own x) }) o))
      by x None = tt
      by x (Some own) = same_between count (record point { scalars = _ }) few here

  -- one thing behind another
  both_tame : (first second : Point S → Told (Point S)) → EachTame first → EachTame second
      → EachTame (λ point. then_do second (first point))
  both_tame first second one two count point few here =
      then_tame count second (first point) (one count point few here)
      (λ more behind above few here. two more behind few here)

  if_tame : (expr : ℕ) (mask : Option ℕ) (yes_does no_does : Point S → Told (Point S))
      → EachTame yes_does → EachTame no_does
      → EachTame (λ point. masked ways mask point (with_value point (ways.value point expr)
      (λ v. if is_true v then yes_does point else no_does point)))
  if_tame expr mask yes_does no_does one two count point few here =
      masked_tame count point few here mask _
      (value_tame count point few here (ways.value point expr) _ (λ x. by (is_true x)))
    where
      by : (b : Bool) → Tame count (if b then yes_does point else no_does point)
      by true = one count point few here
      by false = two count point few here

  fine_tame : EachTame (λ point. Fine point)
  fine_tame count point few here = same_between count point few here

  loop_tame : (rank expr : ℕ) (mask : Option ℕ) (body : Nest) → HasExpr code rank expr
      → EachTame (nested ways m (counted_nest n code body))
      → EachTame (while_turns ways m mask (while_expr n code expr)
      (nested ways m (count_then n code n (counted_nest n code body))))
  loop_tame rank expr mask body has tame count point few here =
      while_tame rank expr has mask _ (count_tame (counted_nest n code body) tame) m count point few
      (omega (arith, above)) here

  again_tame : (rank expr : ℕ) (mask : Option ℕ) (body : Nest) → HasExpr code rank expr
      → EachTame (nested ways m (counted_nest n code body))
      → EachTame (repeat_turns ways m mask (until_expr n code expr)
      (nested ways m (count_then n code n (counted_nest n code body))))
  again_tame rank expr mask body has tame count point few here =
      repeat_tame rank expr has mask _ (count_tame (counted_nest n code body) tame) m count point
      few (omega (arith, above)) here

  pub nest_tame : (rank : ℕ) (nest : Nest) → NestFits code rank nest
      → EachTame (nested ways m (counted_nest n code nest))
  nest_tame rank Nothing fits = fine_tame
  nest_tame rank (Putting array expr mask line after) fits =
      both_tame _ _ (put_tame array expr mask)
      (idle_tame (counted_nest n code after) (nest_tame rank after fits))
  nest_tame rank (Keeping cell expr mask line after) fits =
      both_tame _ _ (keep_tame cell expr mask fits.0)
      (idle_tame (counted_nest n code after) (nest_tame rank after fits.1))
  nest_tame rank (Joining scalar f expr mask line after) fits =
      both_tame _ _ (join_tame scalar expr f mask)
      (idle_tame (counted_nest n code after) (nest_tame rank after fits))
  nest_tame rank (Choosing expr mask line body after) fits =
      both_tame _ _
      (if_tame expr mask _ (λ point. Fine point)
      (idle_tame (counted_nest n code body) (nest_tame rank body fits.0)) fine_tame)
      (idle_tame (counted_nest n code after) (nest_tame rank after fits.1))
  nest_tame rank (ChoosingElse expr mask line body otherwise after) fits =
      both_tame _ _
      (if_tame expr mask _ _ (idle_tame (counted_nest n code body) (nest_tame rank body fits.0))
      (idle_tame (counted_nest n code otherwise) (nest_tame rank otherwise fits.1)))
      (idle_tame (counted_nest n code after) (nest_tame rank after fits.2))
  nest_tame rank (Looping expr mask line body after) fits =
      both_tame _ _ (loop_tame rank expr mask body fits.0 (nest_tame rank body fits.1))
      (idle_tame (counted_nest n code after) (nest_tame rank after fits.2))
  nest_tame rank (Repeating mask line body until after) fits =
      both_tame _ _ (again_tame rank until mask body fits.0 (nest_tame rank body fits.1))
      (idle_tame (counted_nest n code after) (nest_tame rank after fits.2))

  -- ---- units
  pub data AllTame : List Nest → Type 0 where
    NoneTame : AllTame []
    MoreTame : {unit : Nest} {units : List Nest} → EachTame (nested ways m unit) → AllTame units
        → AllTame (unit ∷ units)

  single_tame : (does : Point S → Told (Point S)) → EachTame does
      → EachTame (λ point. then_do (λ p. Fine p) (does point))
  single_tame does tame = both_tame does (λ p. Fine p) tame fine_tame

  idle_units : (k : ℕ) (after : Nest) → AllTame (units_of after)
      → AllTame (units_of (idle_then n code k after))
  idle_units zero after tame = tame
  idle_units (suc k) after tame =
      MoreTame (λ count point few here. subst (Tame count) (sym (idle_same 1 Nothing point))
      (same_between count point few here))
      (idle_units k after tame)

  pub units_tame : (rank : ℕ) (nest : Nest) → NestFits code rank nest
      → AllTame (units_of (counted_nest n code nest))
  units_tame rank Nothing fits = NoneTame
  units_tame rank (Putting array expr mask line after) fits =
      MoreTame (single_tame _ (put_tame array expr mask))
      (idle_units n (counted_nest n code after) (units_tame rank after fits))
  units_tame rank (Keeping cell expr mask line after) fits =
      MoreTame (single_tame _ (keep_tame cell expr mask fits.0))
      (idle_units n (counted_nest n code after) (units_tame rank after fits.1))
  units_tame rank (Joining scalar f expr mask line after) fits =
      MoreTame (single_tame _ (join_tame scalar expr f mask))
      (idle_units n (counted_nest n code after) (units_tame rank after fits))
  units_tame rank (Choosing expr mask line body after) fits =
      MoreTame (single_tame _
      (if_tame expr mask _ (λ point. Fine point)
      (idle_tame (counted_nest n code body) (nest_tame rank body fits.0)) fine_tame))
      (idle_units n (counted_nest n code after) (units_tame rank after fits.1))
  units_tame rank (ChoosingElse expr mask line body otherwise after) fits =
      MoreTame (single_tame _
      (if_tame expr mask _ _ (idle_tame (counted_nest n code body) (nest_tame rank body fits.0))
      (idle_tame (counted_nest n code otherwise) (nest_tame rank otherwise fits.1))))
      (idle_units n (counted_nest n code after) (units_tame rank after fits.2))
  units_tame rank (Looping expr mask line body after) fits =
      MoreTame (single_tame _ (loop_tame rank expr mask body fits.0 (nest_tame rank body fits.1)))
      (idle_units n (counted_nest n code after) (units_tame rank after fits.2))
  units_tame rank (Repeating mask line body until after) fits =
      MoreTame (single_tame _ (again_tame rank until mask body fits.0 (nest_tame rank body fits.1)))
      (idle_units n (counted_nest n code after) (units_tame rank after fits.2))
