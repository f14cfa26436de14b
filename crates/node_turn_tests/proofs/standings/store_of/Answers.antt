use Rattle.std.proofs.Common.{rules, refl, sym, ap, ◌∙◌, subst, []}
use Rattle.std.specs.Prelude.{slice_get, Some}
use Rattle.zpl_region.specs.Region.{members}
use Rattle.grid_meaning.specs.Place.{values_at}
use Rattle.fold_messages.specs.Reading.{IsRead}
use Rattle.node_turn_tests.proofs.StandingLemmas.{array_told}
use Rattle.node_turn_tests.proofs.standings.store_of.Goals as goal

pub returns : goal.returns
returns c =
    let stores = c.args.local.now.local.stores in
    let read : IsRead (values_at stores c.args.array (members c.in-Some.shape)) [] c.push_values.new.into.items c.in_ok-push_values.field-0 =
    subst (λ before. IsRead (values_at stores c.args.array (members c.in-Some.shape)) before c.push_values.new.into.items c.in_ok-push_values.field-0)
    c.new-values.ensures.items c.in_ok-push_values.ensures in
    array_told stores c.args.array c.in-Some.shape c.push_values.new.into.items c.in_ok-push_values.field-0 (slice_get stores c.args.array)
    c.requires refl (sym c.shape.ensures ∙ c.in-Some.is) read (search rules)
    ∙ ap (λ words. Some (record { storage = c.in-Some.shape; values = words })) (sym c.of.ensures)
