-- Groups as they stand in tables have the loops, and the units, that they have in rows.
use Rattle.std.proofs.Common.{◌≡◌, ℕ, zero, suc, ◌+◌, ◌-◌, ◌≤◌, nat_le, Bool, true, false, not, List, [], ◌∷◌, ◌++◌, length, refl, ap, ◌∙◌, arith}
use Rattle.std.specs.Prelude.{All, cond, ◌||◌}
use Rattle.std.specs.List.{list_any}
use Rattle.std.proofs.lemmas.List.Elements.{All-append, All-cons, All-nil}
use Rattle.std.proofs.lemmas.List.Sums.{sum_by-cons}
use Rattle.node_form.specs.declared.members.Member as number
use Rattle.node_form.specs.declared.tables.Tables.{Tables}
use Rattle.node_form.specs.Group.{depth_behind, next_unit, units, units_from}
use Rattle.code_parts.specs.Uses.{is_turning}
use Rattle.flat_form.specs.Static.{HasOneUnitALoop, has_one_unit}
use Rattle.flat_form.specs.Row as row
use Rattle.flat_form.specs.Row.{Row, Member, group_coded, member_coded, member_words, row_groups, with_row, with_rows}
use Rattle.pass_promises.specs.Promises.{HasLoopsUpTo, loops_in}
use Rattle.lowering_loops.specs.Turns.{turns_in, RowHas, RowsHave, RowsTurn, one_less, depth_past}
use Rattle.lowering_loops.specs.Turns.{ended, units_in, LoopsInOneUnit}

one_more : (one : number.Member) (group : List number.Member) →
    loops_in (one ∷ group) ≡ cond (is_turning one) 1 0 + loops_in group
one_more one group = sum_by-cons (λ one. cond (is_turning one) 1 0) one group

coded_turns : (n : ℕ) (group : List Member) → loops_in (group_coded n group) ≡ turns_in group
coded_turns n [] = refl
coded_turns n (row.Put array expr mask line ∷ group) =
    let after : ℕ = n + length (member_words (row.Put array expr mask line)) in
    omega (
      arith,
      one_more (member_coded n (row.Put array expr mask line)) (group_coded after group),
      coded_turns after group,
    )
coded_turns n (row.Cell cell expr mask line ∷ group) =
    let after : ℕ = n + length (member_words (row.Cell cell expr mask line)) in
    omega (
      arith,
      one_more (member_coded n (row.Cell cell expr mask line)) (group_coded after group),
      coded_turns after group,
    )
coded_turns n (row.Acc scalar operator expr mask line ∷ group) =
    let after : ℕ = n + length (member_words (row.Acc scalar operator expr mask line)) in
    omega (
      arith,
      one_more (member_coded n (row.Acc scalar operator expr mask line)) (group_coded after group),
      coded_turns after group,
    )
coded_turns n (row.OpenIf expr mask line ∷ group) =
    let after : ℕ = n + length (member_words (row.OpenIf expr mask line)) in
    omega (
      arith,
      one_more (member_coded n (row.OpenIf expr mask line)) (group_coded after group),
      coded_turns after group,
    )
coded_turns n (row.Otherwise ∷ group) =
    let after : ℕ = n + length (member_words row.Otherwise) in
    omega (
      arith,
      one_more (member_coded n row.Otherwise) (group_coded after group),
      coded_turns after group,
    )
coded_turns n (row.CloseIf ∷ group) =
    let after : ℕ = n + length (member_words row.CloseIf) in
    omega (
      arith,
      one_more (member_coded n row.CloseIf) (group_coded after group),
      coded_turns after group,
    )
coded_turns n (row.OpenWhile expr mask line ∷ group) =
    let after : ℕ = n + length (member_words (row.OpenWhile expr mask line)) in
    omega (
      arith,
      one_more (member_coded n (row.OpenWhile expr mask line)) (group_coded after group),
      coded_turns after group,
    )
coded_turns n (row.CloseWhile ∷ group) =
    let after : ℕ = n + length (member_words row.CloseWhile) in
    omega (
      arith,
      one_more (member_coded n row.CloseWhile) (group_coded after group),
      coded_turns after group,
    )
coded_turns n (row.OpenRepeat mask line ∷ group) =
    let after : ℕ = n + length (member_words (row.OpenRepeat mask line)) in
    omega (
      arith,
      one_more (member_coded n (row.OpenRepeat mask line)) (group_coded after group),
      coded_turns after group,
    )
coded_turns n (row.Until expr ∷ group) =
    let after : ℕ = n + length (member_words (row.Until expr)) in
    omega (
      arith,
      one_more (member_coded n (row.Until expr)) (group_coded after group),
      coded_turns after group,
    )

-- ---- what groups have in rows, and in tables

module _ (G : List Member → Type 0) (H : List number.Member → Type 0)
    (goes : (n : ℕ) (group : List Member) → G group → H (group_coded n group)) where
  row_has : (n : ℕ) (one : Row) → RowHas G one → All H (row_groups n one)
  row_has n (row.Loop slot group) has =
      All-cons H (group_coded n group) [] (goes n group has) (All-nil H)
  row_has n (row.Set scalar expr line) has = All-nil H
  row_has n (row.Dims slot parts line) has = All-nil H
  row_has n (row.Print text) has = All-nil H
  row_has n (row.Number expr) has = All-nil H
  row_has n (row.Truth expr) has = All-nil H
  row_has n (row.Unless expr goal line) has = All-nil H
  row_has n (row.Plain one) has = All-nil H

  rows_have : (base : Tables) (rows : List Row) → RowsHave G rows → All H base.groups →
      All H (with_rows base rows).groups
  rows_have base [] have all = all
  rows_have base (one ∷ rows) have all =
      rows_have (with_row base one) rows have.1
      (All-append H base.groups (row_groups (length base.exprs) one) all
      (row_has (length base.exprs) one have.0))

pub rows_turn : (most : ℕ) (base : Tables) (rows : List Row) → RowsTurn most rows →
    HasLoopsUpTo most base → HasLoopsUpTo most (with_rows base rows)
rows_turn most =
    rows_have (λ group. turns_in group ≤ most) (λ group. loops_in group ≤ most)
    (λ n group few. omega (arith, coded_turns n group, few))

-- ---- units

less : (depth : ℕ) → depth - 1 ≡ one_less depth
less zero = refl
less (suc depth) = omega arith

same_depth : (n depth : ℕ) (one : Member) →
    depth_behind depth (member_coded n one) ≡ depth_past depth one
same_depth n depth (row.Put array expr mask line) = refl
same_depth n depth (row.Cell cell expr mask line) = refl
same_depth n depth (row.Acc scalar operator expr mask line) = refl
same_depth n depth (row.OpenIf expr mask line) = omega arith
same_depth n depth row.Otherwise = refl
same_depth n depth row.CloseIf = less depth
same_depth n depth (row.OpenWhile expr mask line) = omega arith
same_depth n depth row.CloseWhile = less depth
same_depth n depth (row.OpenRepeat mask line) = omega arith
same_depth n depth (row.Until expr) = less depth

coded_units : (n depth : ℕ) (unit : List number.Member) (group : List Member) →
    length (units_from depth unit (group_coded n group)) ≡ units_in depth group
coded_units n depth unit [] = refl
coded_units n depth unit (one ∷ group) =
    let after : ℕ = n + length (member_words one) in
    ap (λ d. length (next_unit d (unit ++ member_coded n one ∷ []) (λ depth unit.
    units_from depth unit (group_coded after group)))) (same_depth n depth one)
    ∙ by after (unit ++ member_coded n one ∷ []) (depth_past depth one)
    (λ depth unit. coded_units after depth unit group)
  where
    by : (after : ℕ) (unit : List number.Member) (d : ℕ) →
        ((depth : ℕ) (unit : List number.Member) →
        length (units_from depth unit (group_coded after group)) ≡ units_in depth group) →
        length (next_unit d unit (λ depth unit. units_from depth unit (group_coded after group)))
        ≡ ended d (units_in d group)
    by after unit zero rest = ap suc (rest 0 [])
    by after unit (suc d) rest = rest (suc d) unit

turns_there : (n : ℕ) (group : List Member) → list_any is_turning (group_coded n group) ≡ true →
    1 ≤ turns_in group
turns_there n [] is = let no : ⊥ = cc in absurd no
turns_there n (row.Put array expr mask line ∷ group) is =
    turns_there (n + length (member_words (row.Put array expr mask line))) group is
turns_there n (row.Cell cell expr mask line ∷ group) is =
    turns_there (n + length (member_words (row.Cell cell expr mask line))) group is
turns_there n (row.Acc scalar operator expr mask line ∷ group) is =
    turns_there (n + length (member_words (row.Acc scalar operator expr mask line))) group is
turns_there n (row.OpenIf expr mask line ∷ group) is =
    turns_there (n + length (member_words (row.OpenIf expr mask line))) group is
turns_there n (row.Otherwise ∷ group) is = turns_there (n + 0) group is
turns_there n (row.CloseIf ∷ group) is = turns_there (n + 0) group is
turns_there n (row.OpenWhile expr mask line ∷ group) is = omega arith
turns_there n (row.CloseWhile ∷ group) is = turns_there (n + 0) group is
turns_there n (row.OpenRepeat mask line ∷ group) is = omega arith
turns_there n (row.Until expr ∷ group) is =
    turns_there (n + length (member_words (row.Until expr))) group is

few_is : (k : ℕ) → k ≤ 1 → nat_le k 1 ≡ true
few_is zero few = refl
few_is (suc zero) few = refl
few_is (suc (suc k)) few = let no : ⊥ = omega (arith, few) in absurd no

pub coded_unit : (n : ℕ) (group : List Member) → LoopsInOneUnit group →
    has_one_unit (group_coded n group) ≡ true
coded_unit n group one =
    by (list_any is_turning (group_coded n group)) (λ is. one (turns_there n group is))
  where
    by : (turns : Bool) → (turns ≡ true → units_in 0 group ≤ 1) →
        (not turns || nat_le (length (units (group_coded n group))) 1) ≡ true
    by false few = refl
    by true few =
        ap (λ k. nat_le k 1) (coded_units n 0 [] group) ∙ few_is (units_in 0 group) (few refl)

pub rows_unit : (base : Tables) (rows : List Row) → RowsHave LoopsInOneUnit rows →
    HasOneUnitALoop base → HasOneUnitALoop (with_rows base rows)
rows_unit =
    rows_have LoopsInOneUnit (λ group. has_one_unit group ≡ true) coded_unit
