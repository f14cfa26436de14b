use Rattle.std.proofs.Common.{◌≡◌, ◌<◌, take, drop, ◌++◌, ◌∷◌, length, get_or, pos, to_z, of_z, w64, ap, sym, ◌∙◌, subst, rules, arith}
use Rattle.std.specs.Prelude.{FitsSigned}
use Rattle.std.proofs.lemmas.Int.{to_z-of_z}
use Rattle.std.proofs.lemmas.List.{get_or_read}
use Rattle.grid_meaning.specs.Loop.{point_of}
use Rattle.node_local.specs.Inside.{workplace_of}
use Rattle.node_local.specs.Undo.{undone}
use Rattle.node_local.specs.Workplace.{Workplace}
use Rattle.node_local.specs.declared.changes.Change.TheVariants.{Scalar}
use Rattle.node_local.proofs.LogLemmas.{whole_log, scalar_undone}
use Rattle.node_local.proofs.locals.Local.log_scalar.Goals as goal

pub returns-clause-back : goal.returns-clause-back
returns-clause-back c =
    let old = c.index-old.result.now in
    let log = c.self.inside.log.items in
    let more = c.push-self-inside.new.log in
    let scalars = c.self.inside.memory.scalars.items in
    let there : c.args.scalar < length scalars = search rules in
    let fits : FitsSigned w64 old = search rules in
    let whole : take c.self.inside.log.len (more ++ drop (length more) log) ≡ more =
    whole_log log more c.self.inside.log.len (search rules) (search rules) in
    scalar_undone (point_of (workplace_of c.self.inside).local) c.args.scalar (to_z w64 (of_z w64 old)) _
    (drop c.self.inside.logged log) _
    (to_z-of_z w64 old fits ∙ get_or_read scalars c.args.scalar old there c.index-old.ensures (pos 0))
    (ap (drop c.push-self-inside.result) whole
    ∙ (c.push-self-inside.ensures.log
    ∙ ap (λ changes. Scalar c.args.scalar (to_z w64 (of_z w64 old)) ∷ drop c.self.inside.logged changes) c.as_mut_slice.ensures.value))
    ∙ ap (λ (w : Workplace). undone w.log (point_of w.local)) c.self.view_is
