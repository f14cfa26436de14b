use Rattle.std.proofs.Common.{◌∙◌, ap, arith, sym, ℕ}
use Rattle.fuse_contract.specs.Contracting.{begins_it}
use Rattle.fuse_contract.proofs.StateLemmas.{not_outermost}
use Rattle.fuse_contract.proofs.states.begins_it.Goals as goal

pub returns-then-depth-eq0 : goal.returns-then-depth-eq0
returns-then-depth-eq0 c =
    c.begins_outermost.ensures
    ∙ ap (λ (d : ℕ). begins_it c.args.tables.now c.args.array d c.args.member.now)
    (sym c.if-depth-eq0.true)

pub returns-else-depth-eq0 : goal.returns-else-depth-eq0
returns-else-depth-eq0 c =
    not_outermost c.args.tables.now c.args.array c.args.depth c.args.member.now
    (λ same. omega (arith, same))
