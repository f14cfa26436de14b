-- The members that enclose one, found on the way back from it.
use Rattle.std.proofs.Common.{◌≡◌, ℕ, zero, suc, ◌+◌, ◌<◌, ◌≤◌, List, [], ◌∷◌, ◌++◌, length, take, drop, get_or, refl, sym, ap, ◌∙◌, arith}
use Rattle.std.specs.Prelude.{Some, None, slice_get, unwrap_or}
use Rattle.std.proofs.lemmas.List.{drop-drop, length-take-le, take_more}
use Rattle.node_form.specs.declared.members.Member.{Member}
use Rattle.node_form.specs.declared.members.Member.TheVariants as member
use Rattle.node_form.specs.Group.{innermost_of, last_or, open_before, open_from, open_numbers, outermost_of}
use Rattle.node_loop.specs.declared.brackets.Bracket.{Bracket}
use Rattle.node_loop.specs.declared.brackets.Bracket.TheVariants.{Plain, Opens, Otherwise, Closes}
use Rattle.node_loop.specs.Bracket.{back_over, bracket_of, open_after}

-- ---- what members do, by their brackets
open_numbers_by : (number : ℕ) (numbers : List ℕ) (member : Member)
    → open_numbers number numbers member ≡ open_after (bracket_of member) number numbers
open_numbers_by number numbers (member.Put array expr mask line) = refl
open_numbers_by number numbers (member.Cell cell expr mask line) = refl
open_numbers_by number numbers (member.Acc scalar fold expr mask line) = refl
open_numbers_by number numbers (member.OpenIf expr mask line) = refl
open_numbers_by number numbers member.Otherwise = refl
open_numbers_by number numbers member.CloseIf = refl
open_numbers_by number numbers (member.OpenWhile expr mask line) = refl
open_numbers_by number numbers member.CloseWhile = refl
open_numbers_by number numbers (member.OpenRepeat mask line) = refl
open_numbers_by number numbers (member.Until expr) = refl

-- ---- what is open behind one member more
open_from-more : (number : ℕ) (numbers : List ℕ) (front : List Member) (member : Member)
    → open_from number numbers (front ++ member ∷ [])
    ≡ open_numbers (number + length front) (open_from number numbers front) member
open_from-more number numbers [] member =
    let same : number ≡ number + 0 = omega arith in
    ap (λ n. open_numbers n numbers member) same
open_from-more number numbers (first ∷ front) member =
    let same : number + 1 + length front ≡ number + suc (length front) = omega arith in
    open_from-more (number + 1) (open_numbers number numbers first) front member
    ∙ ap (λ n. open_numbers n (open_from (number + 1) (open_numbers number numbers first) front) member) same

open_more : (all : List Member) (i : ℕ) (d : Member) → i < length all
    → open_before all (i + 1) ≡ open_after (bracket_of (get_or all i d)) i (open_before all i)
open_more all i d inside =
    let long : 0 + length (take i all) ≡ i = omega (arith, length-take-le i all (omega arith)) in
    ap (open_from 0 []) (take_more all i d inside)
    ∙ (open_from-more 0 [] (take i all) (get_or all i d)
    ∙ (ap (λ n. open_numbers n (open_before all i) (get_or all i d)) long
    ∙ open_numbers_by i (open_before all i) (get_or all i d)))

-- ---- one step back
passed : (bracket : Bracket) (depth next number : ℕ) (numbers : List ℕ) → back_over bracket depth ≡ Some next
    → drop depth (open_after bracket number numbers) ≡ drop next numbers
passed Plain depth next number numbers is = let same : depth ≡ next = cc in ap (λ n. drop n numbers) same
passed Opens zero next number numbers is = cc
passed Opens (suc depth) next number numbers is = let same : depth ≡ next = cc in ap (λ n. drop n numbers) same
passed Otherwise depth next number numbers is = let same : depth ≡ next = cc in ap (λ n. drop n numbers) same
passed Closes depth next number numbers is =
    let same : depth + 1 ≡ next = cc in
    let turned : 1 + depth ≡ next = omega arith in
    drop-drop depth 1 numbers ∙ ap (λ n. drop n numbers) turned

reached : (bracket : Bracket) (depth number : ℕ) (numbers : List ℕ) → back_over bracket depth ≡ None
    → (drop depth (open_after bracket number numbers) ≡ number ∷ numbers) × (depth ≡ 0)
reached Plain depth number numbers is = cc
reached Opens zero number numbers is = (refl, refl)
reached Opens (suc depth) number numbers is = cc
reached Otherwise depth number numbers is = cc
reached Closes depth number numbers is = cc

small : (bracket : Bracket) (depth next : ℕ) → back_over bracket depth ≡ Some next → next ≤ depth + 1
small Plain depth next is = let same : depth ≡ next = cc in omega arith
small Opens zero next is = cc
small Opens (suc depth) next is = let same : depth ≡ next = cc in omega arith
small Otherwise depth next is = let same : depth ≡ next = cc in omega arith
small Closes depth next is = let same : depth + 1 ≡ next = cc in omega arith

-- ---- the innermost one
-- what is looked for stands behind so many openings among those that are open in front of `rest`
pub record IsInward (all : List Member) (number rest depth : ℕ) : Type 0 where
  pub deep : depth + rest ≤ number
  pub found : innermost_of all number ≡ unwrap_or (slice_get (drop depth (open_before all rest)) 0) number

pub inward-starts : (all : List Member) (number : ℕ) → IsInward all number number 0
inward-starts all number = record { deep = omega arith; found = refl }

pub inward-passes : (all : List Member) (number rest i depth next : ℕ) (d : Member) → rest ≡ i + 1 → i < length all
    → IsInward all number rest depth → back_over (bracket_of (get_or all i d)) depth ≡ Some next
    → IsInward all number i next
inward-passes all number rest i depth next d more inside at is =
    let few = small (bracket_of (get_or all i d)) depth next is in
    let deep = at.deep in
    record {
      deep = omega arith;
      found = at.found
          ∙ (ap (λ n. unwrap_or (slice_get (drop depth (open_before all n)) 0) number) more
          ∙ (ap (λ numbers. unwrap_or (slice_get (drop depth numbers) 0) number) (open_more all i d inside)
          ∙ ap (λ numbers. unwrap_or (slice_get numbers 0) number)
          (passed (bracket_of (get_or all i d)) depth next i (open_before all i) is)));
    }

pub inward-ends : (all : List Member) (number rest i depth : ℕ) (d : Member) → rest ≡ i + 1 → i < length all
    → IsInward all number rest depth → back_over (bracket_of (get_or all i d)) depth ≡ None
    → i ≡ innermost_of all number
inward-ends all number rest i depth d more inside at is =
    sym (at.found
    ∙ (ap (λ n. unwrap_or (slice_get (drop depth (open_before all n)) 0) number) more
    ∙ (ap (λ numbers. unwrap_or (slice_get (drop depth numbers) 0) number) (open_more all i d inside)
    ∙ ap (λ numbers. unwrap_or (slice_get numbers 0) number)
    (reached (bracket_of (get_or all i d)) depth i (open_before all i) is).0)))

none_open : (depth : ℕ) → drop depth (open_from 0 [] []) ≡ []
none_open zero = refl
none_open (suc depth) = refl

pub inward-none : (all : List Member) (number rest depth : ℕ) → rest ≡ 0 → IsInward all number rest depth
    → number ≡ innermost_of all number
inward-none all number rest depth none at =
    sym (at.found
    ∙ (ap (λ n. unwrap_or (slice_get (drop depth (open_before all n)) 0) number) none
    ∙ ap (λ numbers. unwrap_or (slice_get numbers 0) number) (none_open depth)))

-- ---- the outermost one
pub record IsOutward (all : List Member) (number rest depth outer : ℕ) : Type 0 where
  pub deep : depth + rest ≤ number
  pub found : outermost_of all number ≡ last_or outer (drop depth (open_before all rest))

pub outward-passes : (all : List Member) (number rest i depth next outer : ℕ) (d : Member) → rest ≡ i + 1 → i < length all
    → IsOutward all number rest depth outer → back_over (bracket_of (get_or all i d)) depth ≡ Some next
    → IsOutward all number i next outer
outward-passes all number rest i depth next outer d more inside at is =
    let few = small (bracket_of (get_or all i d)) depth next is in
    let deep = at.deep in
    record {
      deep = omega arith;
      found = at.found
          ∙ (ap (λ n. last_or outer (drop depth (open_before all n))) more
          ∙ (ap (λ numbers. last_or outer (drop depth numbers)) (open_more all i d inside)
          ∙ ap (last_or outer) (passed (bracket_of (get_or all i d)) depth next i (open_before all i) is)));
    }

pub outward-reaches : (all : List Member) (number rest i depth outer : ℕ) (d : Member) → rest ≡ i + 1 → i < length all
    → IsOutward all number rest depth outer → back_over (bracket_of (get_or all i d)) depth ≡ None
    → IsOutward all number i depth i
outward-reaches all number rest i depth outer d more inside at is =
    let there = reached (bracket_of (get_or all i d)) depth i (open_before all i) is in
    let none : depth ≡ 0 = there.1 in
    let deep = at.deep in
    record {
      deep = omega arith;
      found = at.found
          ∙ (ap (λ n. last_or outer (drop depth (open_before all n))) more
          ∙ (ap (λ numbers. last_or outer (drop depth numbers)) (open_more all i d inside)
          ∙ (ap (last_or outer) there.0 ∙ ap (λ n. last_or i (drop n (open_before all i))) (sym none))));
    }
