use Rattle.std.proofs.Common.{◌≡◌, true, set, sym, ap, ◌∙◌, rules, w64, to_z, of_z}
use Rattle.std.specs.Prelude.{FitsSigned, Some, slice_get}
use Rattle.std.proofs.lemmas.Int.{to_z-of_z}
use Rattle.std.proofs.lemmas.Option.{slice_get_within}
use Rattle.node_form.specs.Group as group
use Rattle.node_form.specs.Group.{GoesOn, chosen, value_at, with_found, with_store, with_value}
use Rattle.node_form.specs.Value.{read}
use Rattle.zpl_nums.specs.Fold.{joined}
use Rattle.grid_meaning.specs.Loop.{access_at, point_of}
use Rattle.node_local.specs.Workplace.{Workplace}
use Rattle.node_loop.proofs.StepLemmas.{none_of_value, of_value, scalar_joined}
use Rattle.node_loop.proofs.members.accumulate.Goals as goal

pub returns-in_err-value : goal.returns-in_err-value
returns-in_err-value c =
    let passes : c.in_ok-passes.field-0 ≡ true = search rules in
    let none = c.in_err-value.field-0.0 in
    none_of_value c.in_ok-passes.field-0 none _ _ _ _ c.args.local.now c.value.new.local c.from_residual-in_err-value.result
    (c.in_ok-passes.ensures.mask group.Runs _) passes
    (ap (λ (w : Workplace). value_at c.args.code.now (access_at c.args.index.now) (point_of w.local) c.args.expr) (sym c.in_ok-passes.ensures.same)
    ∙ c.in_err-value.ensures.value)
    (c.in_err-value.ensures.same ∙ c.in_ok-passes.ensures.same) (search rules)

pub log_scalar-requires-clause-there : goal.log_scalar-requires-clause-there
log_scalar-requires-clause-there c =
    slice_get_within c.value.new.local.local.scalars c.args.scalar c.in-Some.own (sym c.scalar.ensures ∙ c.in-Some.is)

pub returns : goal.returns
returns c =
    let v = c.in_ok-value.value in
    let own = c.in-Some.own in
    let passes : c.in_ok-passes.field-0 ≡ true = search rules in
    let fits : FitsSigned w64 v = search rules in
    let own_fits : FitsSigned w64 own = search rules in
    let join_fits : FitsSigned w64 c.join.result = search rules in
    let w = c.args.local.now in
    let t = c.args.index.now in
    let fold = c.args.fold in
    let same : c.value.new.local ≡ w = c.in_ok-value.ensures.same ∙ c.in_ok-passes.ensures.same in
    let found : slice_get w.local.scalars c.args.scalar ≡ Some own =
    ap (λ (x : Workplace). slice_get x.local.scalars c.args.scalar) (sym same) ∙ (sym c.scalar.ensures ∙ c.in-Some.is) in
    let joined_is : to_z w64 (of_z w64 c.join.result) ≡ joined fold own v =
    to_z-of_z w64 c.join.result join_fits
    ∙ (c.join.ensures
    ∙ (ap (λ a. joined fold a (to_z w64 (of_z w64 v))) (to_z-of_z w64 own own_fits)
    ∙ ap (joined fold own) (to_z-of_z w64 v fits))) in
    scalar_joined w c.value.new.local c.log_scalar.new.self c.args.scalar (to_z w64 (of_z w64 c.join.result)) _ same
    c.log_scalar.ensures.scalars c.log_scalar.ensures.back c.log_scalar.ensures.long
    (of_value c.in_ok-passes.field-0 v _ _ _ _ (c.in_ok-passes.ensures.mask group.Runs _) passes
    (ap (λ (x : Workplace). value_at c.args.code.now (access_at t) (point_of x.local) c.args.expr) (sym c.in_ok-passes.ensures.same)
    ∙ c.in_ok-value.ensures.value)
    ∙ (ap (λ o. with_value (read o) (λ a. GoesOn group.Runs (record (point_of w.local) {
      scalars = set w.local.scalars c.args.scalar (joined fold a v);
    }))) found
    ∙ ap (λ x. GoesOn group.Runs (record (point_of w.local) { scalars = set w.local.scalars c.args.scalar x })) (sym joined_is)))
