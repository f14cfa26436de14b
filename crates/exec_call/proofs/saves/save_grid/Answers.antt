use Rattle.std.proofs.Common.{ℕ, List, ◌++◌, refl, ◌∙◌, ap}
use Rattle.resume_claims.specs.of_grid_save.Written.{save_text}
use Rattle.exec_call.proofs.SaveLemmas.{on_ok, saved_text}
use Rattle.exec_call.proofs.saves.save_grid.Goals as goal

pub returns-in-Ok-clause-saved : goal.returns-in-Ok-clause-saved
returns-in-Ok-clause-saved c =
    let written = on_ok _ _ c.in-Ok.is c.write_save-written.ensures.ok in
    let begun = ap (λ (t : List ℕ). t ++ save_text c.args.sim.code c.args.sim.grid) c.new-text.ensures.items in (
      refl,
      saved_text _ c.args.sim.code c.args.sim.grid c.requires.listed (written ∙ begun)
          (on_ok _ _ c.in-Ok.is c.write_save-written.ensures.saveable c.requires.fits),
    )
