use Rattle.std.proofs.Common.{◌∙◌, ap}
use Rattle.zpl_tree.specs.View.{expr_of}
use Rattle.zpl_names.specs.Types.{type_of}
use Rattle.name_kinds.proofs.PartLemmas.{part-base}
use Rattle.lower_points.specs.of_lower_places.View.{where_of}
use Rattle.lower_statements.specs.Writes.{is_boolean}
use Rattle.lower_statements.proofs.ItemLemmas.{boolean_seen}
use Rattle.lower_statements.proofs.writes.prints_truth.Goals as goal

pub returns : goal.returns
returns c =
    let w = where_of c.args.place.now in
    let expr = expr_of c.args.expr.now in
    c.is_boolean.ensures ∙ ap (λ part. is_boolean part.base) c.part_of.ensures
    ∙ ap is_boolean (part-base w.scope w.prefix expr) ∙ boolean_seen (type_of w.scope expr)
