use Rattle.std.proofs.Common.{sym, ap, ◌∙◌, subst, refl, []}
use Rattle.std.specs.Prelude.{unwrap_or}
use Rattle.zpl_parts.specs.of_zpl_binding.Bound.{IsVector}
use Rattle.zpl_parts.specs.of_zpl_binding.Outcome.{Gives}
use Rattle.zpl_parts.specs.of_zpl_binding.Vectors.{three_components}
use Rattle.zpl_bind.specs.Tables.{listed}
use Rattle.zpl_bind.proofs.TableLemmas.{outcome-found}
use Rattle.zpl_bind.proofs.RegionLemmas.{found-or-holds}
use Rattle.zpl_bind.proofs.regions.direction_named.Goals as goal

pub returns-clause-named : goal.returns-clause-named
returns-clause-named c =
    outcome-found (three_components []) (listed c.args.known.now.directions)
    c.args.name.now.text.now
    ∙ ap Gives (sym (c.unwrap_or.ensures
    ∙ ap (λ (o : _). unwrap_or o (three_components [])) c.find.ensures))

pub returns-clause-vector : goal.returns-clause-vector
returns-clause-vector c =
    subst IsVector (sym (c.unwrap_or.ensures
    ∙ ap (λ (o : _). unwrap_or o (three_components [])) c.find.ensures))
    (found-or-holds IsVector (three_components []) (listed c.args.known.now.directions)
    c.args.name.now.text.now c.requires.vectors (refl, refl))
