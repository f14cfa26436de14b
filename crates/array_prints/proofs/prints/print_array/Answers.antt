use Rattle.std.proofs.Common.{rules, ◌≡◌, ◌*◌, ◌≤◌, ◌++◌, get_or, pos, [], sym, ap, ◌∙◌, subst, arith, append-nil}
use Rattle.std.proofs.lemmas.Bool.{false≢true}
use Rattle.zpl_region.specs.declared.dims.Dim.{Dim}
use Rattle.zpl_region.specs.declared.dims.Dim.TheVariants.{Range}
use Rattle.zpl_region.specs.Ends.{coordinate_count}
use Rattle.zpl_region.specs.Region.{members}
use Rattle.zpl_region.proofs.EndLemmas.{length-tuple_count}
use Rattle.zpl_region.proofs.HullLemmas.{has_steps}
use Rattle.array_prints.specs.RowText.{line_text, parts_text}
use Rattle.array_prints.proofs.TextLemmas.{line_case, no_text, plane_case, plane_count, some_planes, some_text, space_case, space_count, told_text}
use Rattle.array_prints.proofs.prints.print_array.Goals as goal

abbrev blank : Dim
blank = Range (pos 0) (pos 0) (pos 0) (pos 0)

pub returns-then-is_empty : goal.returns-then-is_empty
returns-then-is_empty c = λ e is.
    let region = c.args.region.now in
    let none : members region ≡ [] = c.is_empty.ensures.0 c.if-is_empty.true in
    sym (ap (λ list. c.args.into.now.items ++ list) (no_text c.args.truth region e (has_steps region.dims c.requires.region.dims) none) ∙ append-nil c.args.into.now.items)

pub push_plane-requires : goal.push_plane-requires
push_plane-requires c =
    let region = c.args.region.now in
    c.requires.filled
    ∙ (length-tuple_count region.dims (has_steps region.dims c.requires.region.dims)
    ∙ (plane_count region.rank region.dims blank c.in-2.is (omega arith) c.requires.region.padded
    ∙ (ap (λ n. n * coordinate_count (get_or region.dims 1 blank)) (sym c.size.ensures.size)
    ∙ ap (λ n. c.size.result * n) (sym c.size-in-2.ensures.size))))

pub push_space-requires-clause-some : goal.push_space-requires-clause-some
push_space-requires-clause-some c =
    let region = c.args.region.now in
    subst (λ n. 1 ≤ n) (sym c.size-in_default.ensures.size)
    (some_planes region (coordinate_count (get_or region.dims 0 blank)) _ (has_steps region.dims c.requires.region.dims)
    (λ none. false≢true (sym c.if-is_empty.false ∙ c.is_empty.ensures.1 none)) (space_count region.dims blank (omega arith)))

pub push_space-requires-clause-filled : goal.push_space-requires-clause-filled
push_space-requires-clause-filled c =
    let region = c.args.region.now in
    c.requires.filled
    ∙ (length-tuple_count region.dims (has_steps region.dims c.requires.region.dims)
    ∙ (space_count region.dims blank (omega arith)
    ∙ (ap (λ n. n * (coordinate_count (get_or region.dims 1 blank) * coordinate_count (get_or region.dims 2 blank))) (sym c.size-in_default.ensures.size)
    ∙ (ap (λ n. c.size-in_default.result * (n * coordinate_count (get_or region.dims 2 blank))) (sym c.size-in_default-2.ensures.size)
    ∙ ap (λ n. c.size-in_default.result * (c.size-in_default-2.result * n)) (sym c.size-in_default-3.ensures.size)))))

pub returns-in-1 : goal.returns-in-1
returns-in-1 c = λ e is.
    let region = c.args.region.now in
    let some = λ (none : members region ≡ []). false≢true (sym c.if-is_empty.false ∙ c.is_empty.ensures.1 none) in
    told_text c.push_line.result c.push_line.new.into.items c.args.into.now.items _ _ c.push_line.ensures
    (sym (line_case c.args.truth region.rank region.dims c.args.values.now c.in-1.is)
    ∙ some_text c.args.truth region e c.args.values.now (has_steps region.dims c.requires.region.dims) some is)

pub returns-in-2 : goal.returns-in-2
returns-in-2 c = λ e is.
    let region = c.args.region.now in
    let some = λ (none : members region ≡ []). false≢true (sym c.if-is_empty.false ∙ c.is_empty.ensures.1 none) in
    told_text c.push_plane.result c.push_plane.new.into.items c.args.into.now.items _ _ c.push_plane.ensures
    (ap (λ n. parts_text (line_text c.args.truth) n c.size-in-2.result c.args.values.now) c.size.ensures.size
    ∙ (ap (λ n. parts_text (line_text c.args.truth) (coordinate_count (get_or region.dims 0 blank)) n c.args.values.now) c.size-in-2.ensures.size
    ∙ (sym (plane_case c.args.truth region.rank region.dims c.args.values.now blank c.in-2.is (omega arith) c.requires.region.padded)
    ∙ some_text c.args.truth region e c.args.values.now (has_steps region.dims c.requires.region.dims) some is)))

pub returns-in_default : goal.returns-in_default
returns-in_default c = λ e is.
    let region = c.args.region.now in
    let some = λ (none : members region ≡ []). false≢true (sym c.if-is_empty.false ∙ c.is_empty.ensures.1 none) in
    let three : region.rank ≡ 3 = search rules in
    told_text c.push_space.result c.push_space.new.into.items c.args.into.now.items _ _ c.push_space.ensures
    (ap (λ n. parts_text (parts_text (line_text c.args.truth) c.size-in_default-2.result c.size-in_default-3.result) n (c.size-in_default-2.result * c.size-in_default-3.result) c.args.values.now) c.size-in_default.ensures.size
    ∙ (ap (λ n. parts_text (parts_text (line_text c.args.truth) n c.size-in_default-3.result) (coordinate_count (get_or region.dims 0 blank)) (n * c.size-in_default-3.result) c.args.values.now) c.size-in_default-2.ensures.size
    ∙ (ap (λ n. parts_text (parts_text (line_text c.args.truth) (coordinate_count (get_or region.dims 1 blank)) n) (coordinate_count (get_or region.dims 0 blank)) (coordinate_count (get_or region.dims 1 blank) * n) c.args.values.now) c.size-in_default-3.ensures.size
    ∙ (sym (space_case c.args.truth region.rank region.dims c.args.values.now blank three (omega arith))
    ∙ some_text c.args.truth region e c.args.values.now (has_steps region.dims c.requires.region.dims) some is))))
