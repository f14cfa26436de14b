use Rattle.std.proofs.Common.{arith, ap, ◌∙◌}
use Rattle.lower_regions.specs.of_zpl_lowering.Lowered.{rows_alone}
use Rattle.lower_regions.specs.of_zpl_lowering.Reference.{conforming}
use Rattle.lower_regions.specs.of_lower_draft.Drafted.{grown}
use Rattle.lower_operators.specs.View.{slate_of}
use Rattle.lower_operators.proofs.SlateLemmas.{conform-end, conform-next}
use Rattle.lower_operators.proofs.conforming.conform_all.Goals as goal

pub loop-slate-preserved : goal.loop-slate-preserved
loop-slate-preserved c =
    conform-next c.args.line c.loop-slate.draft c.conform.new.draft _ c.args.slates.now
    c.loop-slate.slate-index _ (omega arith)
    (c.in_ok-conform.ensures
    ∙ ap (λ slate. grown c.loop-slate.draft
    (rows_alone (conforming c.args.line (slate_of slate.now)))) c.slate-item.is)
    c.loop-slate.invariant

pub returns : goal.returns
returns c =
    conform-end c.args.line c.loop-slate.draft _ c.args.slates.now c.loop-slate.slate-index
    (omega arith) c.loop-slate.invariant
