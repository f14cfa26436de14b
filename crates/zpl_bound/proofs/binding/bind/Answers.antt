use Rattle.std.proofs.Common.{sym, ◌∙◌, subst}
use Rattle.zpl_tree.specs.View.{syntax_of}
use Rattle.zpl_binding.specs.Copies.{HasCopyPastLimit}
use Rattle.zpl_bind.specs.Lists.{settings_of}
use Rattle.zpl_bound.proofs.binding.bind.Goals as goal

pub returns-clause-accepted : goal.returns-clause-accepted
returns-clause-accepted c =
    let program = syntax_of c.args.typed.now.program.now in
    let settings = settings_of c.args.settings.now in
    let binds = c.in_ok-bound.ensures.bound in
    c.accepted_settings_bind.ensures.accepts program settings _ binds
    (sym (c.accepted_settings_bind.ensures.only program settings _ binds) ∙ c.in_ok-bound.ensures.accepted c.args.typed.now.faultless)
    (subst (λ k. ¬ HasCopyPastLimit program k) c.in_ok-bound.ensures.computed c.in_ok-copies_within.ensures.ok)

pub returns-clause-bound : goal.returns-clause-bound
returns-clause-bound c = record {
  lists = c.in_ok-bound.ensures.bound;
  tables = c.in_ok-bound.ensures.known;
  known = c.in_ok-bound.ensures.computed;
  parts = c.in_ok-bound.ensures.parts;
}
