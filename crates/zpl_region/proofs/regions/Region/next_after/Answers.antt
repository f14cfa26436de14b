use Rattle.std.proofs.Common.{◌≡◌, w64, to_z, of_z, ℤ, pos, List, [], ◌∷◌, Option, Some, None, Contains, length, get_or, sym, ◌∙◌, ap, subst, arith}
use Rattle.std.specs.List.{find}
use Rattle.std.specs.Option.{option_and_then, option_map}
use Rattle.std.specs.Int.RustNames.{int_lt}
use Rattle.std.proofs.lemmas.Bool.{false≢true}
use Rattle.std.proofs.lemmas.Int.{ints}
use Rattle.zpl_region.specs.Progression.{terms}
use Rattle.zpl_region.specs.Region.{is_before, members, tuples}
use Rattle.zpl_region.proofs.TupleLemmas.{joined, find-tuples_here, find-tuples_next}
use Rattle.zpl_region.proofs.ListLemmas.{Contains-from_among, among_from_Contains}
use Rattle.zpl_region.proofs.WalkLemmas.{blank, found_in, joined_no_column, joined_no_row, joined_two, terms_rise}
use Rattle.zpl_region.proofs.regions.Region.next_after.Goals as goal
use Rattle.zpl_region.proofs.regions.Region.next_after.Goals.{In-None, then-contains, else-contains}

some_triple : {x x' y y' z z' : ℤ} → x ≡ x' → y ≡ y' → z ≡ z' → ◌≡◌ {A = Option (List ℤ)} (Some (x ∷ y ∷ z ∷ [])) (Some (x' ∷ y' ∷ z' ∷ []))
some_triple e f g = cc

pub returns-in-Some : goal.returns-in-Some
returns-in-Some c =
    let ps = c.progressions.result in
    let x = c.args.x in
    let x0 = get_or x 0 (pos 0) in
    let x1 = get_or x 1 (pos 0) in
    let x2 = get_or x 2 (pos 0) in
    let xs = terms (get_or ps 0 blank) in
    let ys = terms (get_or ps 1 blank) in
    let zs = terms (get_or ps 2 blank) in
    let x0_is : to_z w64 (of_z w64 (get_or c.args.x 0 (pos 0))) ≡ get_or c.args.x 0 (pos 0) = omega (arith, ints) in
    let x1_is : to_z w64 (of_z w64 (get_or c.args.x 1 (pos 0))) ≡ get_or c.args.x 1 (pos 0) = omega (arith, ints) in
    let x2_is : to_z w64 (of_z w64 (get_or c.args.x 2 (pos 0))) ≡ get_or c.args.x 2 (pos 0) = omega (arith, ints) in
    let row_is : to_z w64 (of_z w64 c.in-Some.row) ≡ c.in-Some.row = omega (arith, ints) in
    let column_is : to_z w64 (of_z w64 c.in-Some.column) ≡ c.in-Some.column = omega (arith, ints) in
    let three : length c.progressions.result ≡ 3 = omega arith in
    elim c.if-contains.branch [
      | then-contains w ↦
          (let has = subst (Contains xs) x0_is (c.contains.ensures.0 w.if-contains.true) in
          let said : option_map (λ t. t.0 ∷ t.1 ∷ []) w.next_in_plane-here.result ≡ find (is_before (to_z w64 (of_z w64 x1) ∷ to_z w64 (of_z w64 x2) ∷ [])) (tuples (ys ∷ zs ∷ [])) = w.next_in_plane-here.ensures in
          let found : find (is_before (x1 ∷ x2 ∷ [])) (tuples (ys ∷ zs ∷ [])) ≡ Some (c.in-Some.row ∷ c.in-Some.column ∷ []) =
          ap (λ t. find (is_before (t ∷ x2 ∷ [])) (tuples (ys ∷ zs ∷ []))) (sym x1_is)
          ∙ (ap (λ t. find (is_before (to_z w64 (of_z w64 x1) ∷ t ∷ [])) (tuples (ys ∷ zs ∷ []))) (sym x2_is)
          ∙ (sym said ∙ ap (option_map (λ t. t.0 ∷ t.1 ∷ [])) (sym w.here-is ∙ c.in-Some.is))) in
          some_triple x0_is row_is column_is
          ∙ found_in ps c.args.self.now x (Some (x0 ∷ c.in-Some.row ∷ c.in-Some.column ∷ [])) three (omega arith) c.progressions.ensures.terms
          (find-tuples_here xs (ys ∷ zs ∷ []) x0 (x1 ∷ x2 ∷ []) (c.in-Some.row ∷ c.in-Some.column ∷ []) (terms_rise ps 0 c.progressions.ensures.normal (omega arith)) (among_from_Contains xs x0 has) found))
      | else-contains w ↦ absurd (let none : Some (c.in-Some.row, c.in-Some.column) ≡ None = sym c.in-Some.is ∙ w.here-is in cc)
    ]

-- what the search in the plane left: the next tuple begins with the next plane
next : (c : In-None) (o : Option ℤ) → find (int_lt (to_z w64 (of_z w64 (get_or c.args.x 0 (pos 0))))) (terms (get_or c.progressions.result 0 blank)) ≡ o
    → option_and_then (joined (tuples (terms (get_or c.progressions.result 1 blank) ∷ terms (get_or c.progressions.result 2 blank) ∷ [])) 0) o ≡ find (is_before c.args.x) (members c.args.self.now)
next c o above_is =
    let ps = c.progressions.result in
    let x = c.args.x in
    let x0 = get_or x 0 (pos 0) in
    let x1 = get_or x 1 (pos 0) in
    let x2 = get_or x 2 (pos 0) in
    let xs = terms (get_or ps 0 blank) in
    let ys = terms (get_or ps 1 blank) in
    let zs = terms (get_or ps 2 blank) in
    let x0_is : to_z w64 (of_z w64 (get_or c.args.x 0 (pos 0))) ≡ get_or c.args.x 0 (pos 0) = omega (arith, ints) in
    let x1_is : to_z w64 (of_z w64 (get_or c.args.x 1 (pos 0))) ≡ get_or c.args.x 1 (pos 0) = omega (arith, ints) in
    let x2_is : to_z w64 (of_z w64 (get_or c.args.x 2 (pos 0))) ≡ get_or c.args.x 2 (pos 0) = omega (arith, ints) in
    let three : length c.progressions.result ≡ 3 = omega arith in
    let above : find (int_lt x0) xs ≡ o = ap (λ t. find (int_lt t) xs) (sym x0_is) ∙ above_is in
    found_in ps c.args.self.now x (option_and_then (joined (tuples (ys ∷ zs ∷ [])) 0) o) three (omega arith) c.progressions.ensures.terms
    (find-tuples_next xs (ys ∷ zs ∷ []) x0 (x1 ∷ x2 ∷ []) (λ has. elim c.if-contains.branch [
      | then-contains w ↦
          (let said : option_map (λ t. t.0 ∷ t.1 ∷ []) w.next_in_plane-here.result ≡ find (is_before (to_z w64 (of_z w64 x1) ∷ to_z w64 (of_z w64 x2) ∷ [])) (tuples (ys ∷ zs ∷ [])) = w.next_in_plane-here.ensures in
          ap (λ t. find (is_before (t ∷ x2 ∷ [])) (tuples (ys ∷ zs ∷ []))) (sym x1_is)
          ∙ (ap (λ t. find (is_before (to_z w64 (of_z w64 x1) ∷ t ∷ [])) (tuples (ys ∷ zs ∷ []))) (sym x2_is)
          ∙ (sym said ∙ ap (option_map (λ t. t.0 ∷ t.1 ∷ [])) (sym w.here-is ∙ c.in-None.is))))
      | else-contains w ↦ absurd (false≢true (sym w.if-contains.false ∙ c.contains.ensures.1 (subst (Contains xs) (sym x0_is) (Contains-from_among xs x0 has))))
    ]) ∙ ap (option_and_then (joined (tuples (ys ∷ zs ∷ [])) 0)) above)

pub returns-in_err-above-in-None : goal.returns-in_err-above-in-None
returns-in_err-above-in-None c =
    let w = (goal.at.returns-in_err-above-in-None c).In-None in
    c.from_residual.ensures ∙ next w None (sym c.above.ensures ∙ c.in_err-above-in-None.was)

pub returns-in_err-least-in-None : goal.returns-in_err-least-in-None
returns-in_err-least-in-None c =
    let w = (goal.at.returns-in_err-least-in-None c).In-None in
    let ps = c.progressions.result in
    let above = c.in_ok-above-in-None in
    c.from_residual-in_err-least-in-None.ensures
    ∙ (sym (joined_no_row (terms (get_or ps 1 blank)) (terms (get_or ps 2 blank)) (sym c.least.ensures ∙ c.in_err-least-in-None.was) above.field-0)
    ∙ next w (Some above.field-0) (sym c.above.ensures ∙ above.was))

pub returns-in_err-least-in-None-2 : goal.returns-in_err-least-in-None-2
returns-in_err-least-in-None-2 c =
    let w = (goal.at.returns-in_err-least-in-None-2 c).In-None in
    let ps = c.progressions.result in
    let above = c.in_ok-above-in-None in
    let row = c.in_ok-least-in-None in
    c.from_residual-in_err-least-in-None-2.ensures
    ∙ (sym (joined_no_column (terms (get_or ps 1 blank)) (terms (get_or ps 2 blank)) row.field-0 (sym c.least.ensures ∙ row.was) (sym c.least-in-None.ensures ∙ c.in_err-least-in-None-2.was) above.field-0)
    ∙ next w (Some above.field-0) (sym c.above.ensures ∙ above.was))

pub returns-in_ok-least-in-None-2 : goal.returns-in_ok-least-in-None-2
returns-in_ok-least-in-None-2 c =
    let w = (goal.at.returns-in_ok-least-in-None-2 c).In-None in
    let ps = c.progressions.result in
    let above = c.in_ok-above-in-None in
    let row = c.in_ok-least-in-None in
    let column = c.in_ok-least-in-None-2 in
    let above_is : to_z w64 (of_z w64 above.field-0) ≡ above.field-0 = omega (arith, ints) in
    let row_is : to_z w64 (of_z w64 row.field-0) ≡ row.field-0 = omega (arith, ints) in
    let column_is : to_z w64 (of_z w64 column.field-0) ≡ column.field-0 = omega (arith, ints) in
    some_triple above_is row_is column_is
    ∙ (sym (joined_two (terms (get_or ps 1 blank)) (terms (get_or ps 2 blank)) row.field-0 column.field-0 (sym c.least.ensures ∙ row.was) (sym c.least-in-None.ensures ∙ column.was) above.field-0)
    ∙ next w (Some above.field-0) (sym c.above.ensures ∙ above.was))
