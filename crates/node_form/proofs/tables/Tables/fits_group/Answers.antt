use Rattle.std.proofs.Common.{◌≡◌, ℕ, false, true, sym, ◌∙◌, arith}
use Rattle.std.specs.Prelude.{All}
use Rattle.node_form.specs.Fits.{FitsGroup, FitsMember}
use Rattle.node_form.proofs.RankLemmas.{at_three, group_at}
use Rattle.node_form.proofs.tables.Tables.fits_group.Goals.{then-members_fit, else-members_fit}
use Rattle.node_form.proofs.tables.Tables.fits_group.Goals as goal

pub returns-then-members_fit-2 : goal.returns-then-members_fit-2
returns-then-members_fit-2 c =
    let stack = c.is_nest.ensures.0 c.if-is_nest.true in
    let fits : FitsGroup c.args.self.now c.args.members.now =
    elim c.if-members_fit.branch [
      | then-members_fit w ↦ group_at c.args.self.now c.args.members.now 1 stack (omega arith, omega arith) (c.members_fit.ensures.0 w.if-members_fit.true)
      | else-members_fit w ↦ group_at c.args.self.now c.args.members.now 2 stack (omega arith, omega arith) (w.members_fit-else-members_fit.ensures.0 (sym w.value-is ∙ c.if-members_fit-2.true))
    ] in
    (λ _. fits, λ _. c.if-members_fit-2.true)

pub returns-else-members_fit-2 : goal.returns-else-members_fit-2
returns-else-members_fit-2 c =
    let stack = c.is_nest.ensures.0 c.if-is_nest.true in
    let fit : ℕ → Type 0 = λ rank. All (FitsMember c.args.self.now rank) c.args.members.now in
    let three : FitsGroup c.args.self.now c.args.members.now → fit 3 =
    elim c.if-members_fit.branch [
      | then-members_fit w ↦ λ fits. let e : true ≡ false = sym w.if-members_fit.true ∙ (sym w.value-is ∙ c.if-members_fit-2.false) in cc
      | else-members_fit w ↦ λ fits. at_three fit (λ one. let e : true ≡ false = sym (c.members_fit.ensures.1 one) ∙ w.if-members_fit.false in cc) (λ two. let e : true ≡ false = sym (w.members_fit-else-members_fit.ensures.1 two) ∙ (sym w.value-is ∙ c.if-members_fit-2.false) in cc) fits.rank fits.is_rank fits.fit
    ] in
    (λ yes. group_at c.args.self.now c.args.members.now 3 stack (omega arith, omega arith) (c.members_fit-else-members_fit-2.ensures.0 yes), λ fits. c.members_fit-else-members_fit-2.ensures.1 (three fits))
