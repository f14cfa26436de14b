use Rattle.std.proofs.Common.{◌<◌, length, ap, sym, ◌∙◌, rules, arith}
use Rattle.std.proofs.lemmas.Int.{to_z-of_z}
use Rattle.std.proofs.lemmas.Option.{slice_get-get_or}
use Rattle.std.specs.Prelude.{FitsSigned, Some}
use mir.Syntax.{w64}
use mir.Val.{to_z, of_z}
use Rattle.node_local.proofs.StoreLemmas.{put_back}
use Rattle.node_local.proofs.memories.Memory.set_value.Goals as goal

pub returns-clause-back : goal.returns-clause-back
returns-clause-back c =
    let stores = c.args.self.now.stores.items in
    let store = c.index_mut-store.result.now in
    let there : c.args.array < length stores = omega arith in
    let fits : FitsSigned w64 c.replace.result = search rules in
    ap (λ stores. record { scalars = c.args.self.now.scalars.items; cells = c.args.self.now.cells.items; store = stores })
    (put_back stores c.args.array c.in_ok-place.place store c.replace.new.self (to_z w64 (of_z w64 c.replace.result)) _
    (slice_get-get_or stores c.args.array store there ∙ ap Some (sym c.index_mut-store.ensures.value))
    (c.replace.ensures.old ∙ ap Some (sym (to_z-of_z w64 c.replace.result fits)))
    c.replace.ensures.new)
