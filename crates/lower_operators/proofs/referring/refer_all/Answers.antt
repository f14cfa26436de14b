use Rattle.std.proofs.Common.{arith, ap, ◌∙◌}
use Rattle.lower_regions.specs.of_zpl_lowering.Reference.{referred}
use Rattle.lower_operators.specs.Once.{with_references}
use Rattle.lower_operators.specs.View.{slate_of}
use Rattle.lower_operators.proofs.SlateLemmas.{refer-end, refer-next}
use Rattle.lower_operators.proofs.referring.refer_all.Goals as goal

pub loop-slate-preserved : goal.loop-slate-preserved
loop-slate-preserved c =
    refer-next c.args.numbers.now c.loop-slate.references c.refer.new.references _
    c.args.slates.now c.loop-slate.slate-index _ (omega arith)
    (c.in_ok-refer.ensures
    ∙ ap (λ slate. with_references c.loop-slate.references
    (referred c.args.numbers.now (slate_of slate.now))) c.slate-item.is)
    c.loop-slate.invariant

pub returns : goal.returns
returns c =
    refer-end c.args.numbers.now c.loop-slate.references _ c.args.slates.now
    c.loop-slate.slate-index (omega arith) c.loop-slate.invariant
