use Rattle.std.proofs.Common.{◌≡◌, sym, ap, ◌∙◌, subst}
use Rattle.std.specs.Prelude.{Some, slice_get}
use Rattle.node_form.specs.declared.touches.Touch.TheVariants.{Writes}
use Rattle.node_form.specs.Touch.{IsTouch}
use Rattle.node_form.proofs.TouchLemmas.{told-Writes}
use Rattle.node_form.proofs.tables.Tables.touches.Goals as goal

pub returns-then-writes : goal.returns-then-writes
returns-then-writes c =
    let row : Some c.in-Some.instr.now ≡ slice_get c.args.self.now.code c.from.result = c.in-Some.ensures.row in
    let at : c.from.result ≡ c.args.at = c.from.ensures in
    let there : Some c.in-Some.instr.now ≡ slice_get c.args.self.now.code c.args.at = row ∙ ap (slice_get c.args.self.now.code) at in
    subst (λ row. IsTouch c.args.self.now row c.args.thing Writes) there (told-Writes c.args.self.now c.in-Some.instr.now c.args.thing (c.writes.ensures.0 c.if-writes.true))
