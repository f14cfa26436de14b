use Rattle.std.proofs.Common.{sym, ap, ◌∙◌, ◌≡◌, []}
use Rattle.std.specs.Prelude.{unwrap_or}
use Rattle.zpl_tree.specs.Syntax as plain
use Rattle.zpl_tree.specs.View.{dir_of as seen_dir, exprs_of}
use Rattle.zpl_tree.proofs.Views.{dir_of-Vector}
use Rattle.zpl_parts.specs.of_zpl_binding.Outcome.{Gives}
use Rattle.zpl_parts.specs.of_zpl_binding.Vectors.{three_components, dir_of}
use Rattle.zpl_bind.specs.Tables.{listed, computed}
use Rattle.zpl_bind.proofs.TableLemmas.{outcome-found}
use Rattle.zpl_bind.proofs.vectors.dir_of.Goals as goal

pub returns-in-Named : goal.returns-in-Named
returns-in-Named c =
    ap (λ dir. dir_of (computed (listed c.args.values.now)) (computed (listed c.args.directions.now))
    (seen_dir dir)) c.in-Named.is
    ∙ outcome-found (three_components []) (listed c.args.directions.now) c.in-Named.name.text.now
    ∙ ap Gives (sym (c.unwrap_or.ensures
    ∙ ap (λ (o : _). unwrap_or o (three_components [])) c.find.ensures))

pub returns-in-Vector : goal.returns-in-Vector
returns-in-Vector c =
    let is : seen_dir c.args.dir.now ≡ plain.Vector (exprs_of c.in-Vector.parts.now) =
    ap seen_dir c.in-Vector.is ∙ dir_of-Vector c.in-Vector.parts in
    rw is c.vector_of.ensures.computes
