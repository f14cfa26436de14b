use Rattle.std.specs.Prelude.{replicate}
use Rattle.node_form.specs.declared.instructions.Instr.TheVariants as instr
use Rattle.listing_rules.proofs.facts.Known.fits_instr.Goals as goal

pub returns : goal.returns
returns c = (
  λ h. record { rank = c.rank_of.result; fit = c.fits_at.ensures.0 h },
  λ fits. c.fits_at.ensures.1 (c.rank_of.ensures.elsewhere (replicate c.args.count instr.End) fits),
)
