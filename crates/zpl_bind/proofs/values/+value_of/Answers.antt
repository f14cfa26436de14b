use Rattle.std.proofs.Common.{ap, sym, ◌∙◌, pos, arith, w64}
use mir.Val.{SFits}
use Rattle.std.proofs.lemmas.Int.{ints, to_z-of_z}
use Rattle.std.specs.Prelude.{unwrap_or}
use Rattle.zpl_tree.specs.View.{form_of}
use Rattle.zpl_parts.specs.of_zpl_binding.Constants.{value_of}
use Rattle.zpl_parts.specs.of_zpl_binding.Outcome.{Gives}
use Rattle.zpl_bind.specs.Tables.{computed, listed}
use Rattle.zpl_bind.proofs.TableLemmas.{outcome-found}
use Rattle.zpl_bind.proofs.values.+value_of.Goals as goal

pub returns-in-Named : goal.returns-in-Named
returns-in-Named t c =
    let fits : SFits w64 c.unwrap_or.result = omega (arith, ints, c.unwrap_or.type_inv) in
    rw (to_z-of_z w64 c.unwrap_or.result fits)
    (ap (λ form. value_of (computed (listed c.args.values.now)) (form_of c.args.expr.now.at form))
    c.in-Named.is
    ∙ outcome-found (pos 0) (listed c.args.values.now) c.in-Named.name.text.now
    ∙ ap Gives (sym (c.unwrap_or.ensures ∙ ap (λ (o : _). unwrap_or o (pos 0)) c.find.ensures)))
