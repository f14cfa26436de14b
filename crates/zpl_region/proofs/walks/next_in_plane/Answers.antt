use Rattle.std.proofs.Common.{◌≡◌, w64, to_z, of_z, ℤ, List, [], ◌∷◌, Option, Some, None, Contains, slice_get, sym, ◌∙◌, ap, subst, arith}
use Rattle.std.specs.List.{find}
use Rattle.std.specs.Option.{option_and_then, option_map}
use Rattle.std.specs.Int.RustNames.{int_lt}
use Rattle.std.proofs.lemmas.Bool.{false≢true}
use Rattle.std.proofs.lemmas.Int.{ints, to_z-of_z}
use Rattle.zpl_region.specs.Progression.{terms}
use Rattle.zpl_region.specs.Region.{is_before, tuples}
use Rattle.zpl_region.proofs.DimLemmas.{Rises-progression}
use Rattle.zpl_region.proofs.TupleLemmas.{joined}
use Rattle.zpl_region.proofs.WalkLemmas.{joined_one, pair_here, pair_next}
use Rattle.zpl_region.proofs.walks.next_in_plane.Goals as goal
use Rattle.zpl_region.proofs.walks.next_in_plane.Goals.{In-None, then-contains, else-contains}

some_pair : {x x' y y' : ℤ} → x ≡ x' → y ≡ y' → ◌≡◌ {A = Option (List ℤ)} (Some (x ∷ y ∷ [])) (Some (x' ∷ y' ∷ []))
some_pair e f = cc

pub returns-in-Some : goal.returns-in-Some
returns-in-Some c =
    let p = c.args.rows in
    let row_is = to_z-of_z w64 c.args.row c.ranges.row in
    let column_is = to_z-of_z w64 c.args.column c.ranges.column in
    let next_is : to_z w64 (of_z w64 c.in-Some.column) ≡ c.in-Some.column = omega (arith, ints) in
    elim c.if-contains.branch [
      | then-contains w ↦
          (let has = subst (Contains (terms p)) row_is (c.contains.ensures.0 w.if-contains.true) in
          let found = ap (λ z. find (int_lt z) (terms c.args.columns)) (sym column_is) ∙ (sym w.above-here.ensures ∙ (sym w.here-is ∙ c.in-Some.is)) in
          some_pair row_is next_is ∙ sym (pair_here (terms p) (terms c.args.columns) c.args.row c.args.column c.in-Some.column (Rises-progression p.first p.step p.count c.requires.rows.rising) has found))
      | else-contains w ↦ absurd (let none : Some c.in-Some.column ≡ None = sym c.in-Some.is ∙ w.here-is in cc)
    ]

-- what the search in the row left: the next pair begins with the next row
next : (c : In-None) → find (is_before (c.args.row ∷ c.args.column ∷ [])) (tuples (terms c.args.rows ∷ terms c.args.columns ∷ []))
    ≡ option_and_then (joined (tuples (terms c.args.columns ∷ [])) 0) (find (int_lt c.args.row) (terms c.args.rows))
next c =
    let row_is = to_z-of_z w64 c.args.row c.ranges.row in
    let column_is = to_z-of_z w64 c.args.column c.ranges.column in
    pair_next (terms c.args.rows) (terms c.args.columns) c.args.row c.args.column (λ has. elim c.if-contains.branch [
      | then-contains w ↦ ap (λ z. find (int_lt z) (terms c.args.columns)) (sym column_is) ∙ (sym w.above-here.ensures ∙ (sym w.here-is ∙ c.in-None.is))
      | else-contains w ↦ absurd (false≢true (sym w.if-contains.false ∙ c.contains.ensures.1 (subst (Contains (terms c.args.rows)) (sym row_is) has)))
    ])

pub returns-in_err-above-in-None : goal.returns-in_err-above-in-None
returns-in_err-above-in-None c =
    let w = (goal.at.returns-in_err-above-in-None c).In-None in
    let row_is = to_z-of_z w64 c.args.row c.ranges.row in
    let none : find (int_lt c.args.row) (terms c.args.rows) ≡ None = ap (λ z. find (int_lt z) (terms c.args.rows)) (sym row_is) ∙ (sym c.above.ensures ∙ c.in_err-above-in-None.was) in
    ap (option_map (λ t. t.0 ∷ t.1 ∷ [])) c.from_residual.ensures ∙ sym (next w ∙ ap (option_and_then (joined (tuples (terms c.args.columns ∷ [])) 0)) none)

pub returns-in_err-least-in-None : goal.returns-in_err-least-in-None
returns-in_err-least-in-None c =
    let w = (goal.at.returns-in_err-least-in-None c).In-None in
    let row_is = to_z-of_z w64 c.args.row c.ranges.row in
    let above = c.in_ok-above-in-None in
    let found : find (int_lt c.args.row) (terms c.args.rows) ≡ Some above.field-0 = ap (λ z. find (int_lt z) (terms c.args.rows)) (sym row_is) ∙ (sym c.above.ensures ∙ above.was) in
    let none : slice_get (terms c.args.columns) 0 ≡ None = sym c.least.ensures ∙ c.in_err-least-in-None.was in
    ap (option_map (λ t. t.0 ∷ t.1 ∷ [])) c.from_residual-in_err-least-in-None.ensures
    ∙ sym (next w ∙ (ap (option_and_then (joined (tuples (terms c.args.columns ∷ [])) 0)) found ∙ joined_one (terms c.args.columns) None none above.field-0))

pub returns-in_ok-least-in-None : goal.returns-in_ok-least-in-None
returns-in_ok-least-in-None c =
    let w = (goal.at.returns-in_ok-least-in-None c).In-None in
    let row_is = to_z-of_z w64 c.args.row c.ranges.row in
    let above = c.in_ok-above-in-None in
    let least = c.in_ok-least-in-None in
    let above_is : to_z w64 (of_z w64 above.field-0) ≡ above.field-0 = omega (arith, ints) in
    let least_is : to_z w64 (of_z w64 least.field-0) ≡ least.field-0 = omega (arith, ints) in
    let found : find (int_lt c.args.row) (terms c.args.rows) ≡ Some above.field-0 = ap (λ z. find (int_lt z) (terms c.args.rows)) (sym row_is) ∙ (sym c.above.ensures ∙ above.was) in
    let first : slice_get (terms c.args.columns) 0 ≡ Some least.field-0 = sym c.least.ensures ∙ least.was in
    some_pair above_is least_is ∙ sym (next w ∙ (ap (option_and_then (joined (tuples (terms c.args.columns ∷ [])) 0)) found ∙ joined_one (terms c.args.columns) (Some least.field-0) first above.field-0))
