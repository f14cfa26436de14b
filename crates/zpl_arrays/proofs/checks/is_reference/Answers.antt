use Rattle.std.proofs.Common.{◌≡◌, false, w64, to_z, of_z, get_or, pos, map, sym, ◌∙◌, ap, arith}
use Rattle.std.proofs.lemmas.Int.{ints}
use Rattle.zpl_region.specs.declared.dims.Dim.{Dim}
use Rattle.zpl_region.specs.declared.dims.Dim.TheVariants.{Range}
use Rattle.zpl_region.specs.Dim.{dim_moved}
use Rattle.zpl_region.specs.Ends.{first_of, has_none, last_of}
use Rattle.zpl_region.specs.Region.{components}
use Rattle.zpl_region.proofs.HullLemmas.{some_from}
use Rattle.zpl_arrays.specs.Reference.{dim_lies_in}
use Rattle.zpl_arrays.proofs.CheckLemmas.{all_three, end_at, greatest_is, least_is, none_from_least, reference_of_none, reference_of_three, some_at}
use Rattle.zpl_arrays.proofs.checks.is_reference.Goals as goal
use Rattle.zpl_arrays.proofs.checks.is_reference.Goals.{In-Some, In-Some-greatest}

abbrev none : Dim
none = Range (pos 0) (pos 0) (pos 0) (pos 0)

pub returns-in_default : goal.returns-in_default
returns-in_default c =
    sym (reference_of_none c.args.shift.now c.args.region.now c.args.storage.now (none_from_least c.args.region.now (sym c.least.ensures ∙ c.in_default.is)))

some : (c : In-Some) → has_none c.args.region.now ≡ false
some c = (least_is c.args.region.now c.in-Some.first (sym c.least.ensures ∙ c.in-Some.is)).0

first_is : (c : In-Some) → c.in-Some.first ≡ map first_of c.args.region.now.dims
first_is c = (least_is c.args.region.now c.in-Some.first (sym c.least.ensures ∙ c.in-Some.is)).1

last_is : (c : In-Some-greatest) → c.in-Some-greatest.last ≡ map last_of c.args.region.now.dims
last_is c = (greatest_is c.args.region.now c.in-Some-greatest.last (sym c.greatest.ensures ∙ c.in-Some-greatest.is)).1

pub dim_lies_in-along_rows-requires-clause-some : goal.dim_lies_in-along_rows-requires-clause-some
dim_lies_in-along_rows-requires-clause-some c =
    let w = (goal.at.dim_lies_in-along_rows-requires-clause-some c).In-Some in
    some_at c.args.region.now.dims 1 none (omega arith) (some_from c.args.region.now (some w))

pub dim_lies_in-along_columns-requires-clause-some : goal.dim_lies_in-along_columns-requires-clause-some
dim_lies_in-along_columns-requires-clause-some c =
    let w = (goal.at.dim_lies_in-along_columns-requires-clause-some c).In-Some in
    some_at c.args.region.now.dims 2 none (omega arith) (some_from c.args.region.now (some w))

pub dim_lies_in-along_columns-requires-clause-first : goal.dim_lies_in-along_columns-requires-clause-first
dim_lies_in-along_columns-requires-clause-first c =
    let w = (goal.at.dim_lies_in-along_columns-requires-clause-first c).In-Some in
    let here : to_z w64 (of_z w64 (get_or c.in-Some.first 2 (pos 0))) ≡ get_or c.in-Some.first 2 (pos 0) = omega (arith, ints) in
    here ∙ (ap (λ l. get_or l 2 (pos 0)) (first_is w) ∙ end_at first_of c.args.region.now.dims 2 none (pos 0) (omega arith))

pub dim_lies_in-along_columns-requires-clause-last : goal.dim_lies_in-along_columns-requires-clause-last
dim_lies_in-along_columns-requires-clause-last c =
    let w = (goal.at.dim_lies_in-along_columns-requires-clause-last c).In-Some-greatest in
    let here : to_z w64 (of_z w64 (get_or c.in-Some-greatest.last 2 (pos 0))) ≡ get_or c.in-Some-greatest.last 2 (pos 0) = omega (arith, ints) in
    here ∙ (ap (λ l. get_or l 2 (pos 0)) (last_is w) ∙ end_at last_of c.args.region.now.dims 2 none (pos 0) (omega arith))

pub returns : goal.returns
returns c =
    let r = c.args.region.now in
    let storage = c.args.storage.now in
    let v = components r.rank c.args.shift.now in
    let w = (goal.at.returns c).In-Some in
    let x : to_z w64 (of_z w64 c.component-x.result) ≡ get_or v 0 (pos 0) = omega (arith, ints, c.component-x.ensures) in
    let y : to_z w64 (of_z w64 c.component-y.result) ≡ get_or v 1 (pos 0) = omega (arith, ints, c.component-y.ensures) in
    let z : to_z w64 (of_z w64 c.component-z.result) ≡ get_or v 2 (pos 0) = omega (arith, ints, c.component-z.ensures) in
    all_three _ _ _ _ _ _ (c.dim_lies_in-along_planes.ensures ∙ ap (λ d. dim_lies_in (dim_moved d (get_or r.dims 0 none)) (get_or storage.dims 0 none)) x)
    (c.dim_lies_in-along_rows.ensures ∙ ap (λ d. dim_lies_in (dim_moved d (get_or r.dims 1 none)) (get_or storage.dims 1 none)) y)
    (c.dim_lies_in-along_columns.ensures ∙ ap (λ d. dim_lies_in (dim_moved d (get_or r.dims 2 none)) (get_or storage.dims 2 none)) z)
    ∙ reference_of_three c.args.shift.now r storage none (omega arith) (omega arith) (omega arith) (some w)
