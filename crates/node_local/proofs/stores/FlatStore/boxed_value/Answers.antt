use Rattle.std.proofs.Common.{sym, ◌∙◌, ap}
use Rattle.grid_meaning.specs.of_zpl_arrays.Array.{Array}
use Rattle.node_local.specs.Reading.{is_flat}
use Rattle.node_local.proofs.StoreLemmas.{boxed_flat, not_boxed}
use Rattle.node_local.proofs.stores.FlatStore.boxed_value.Goals as goal

pub returns-then-is_flat : goal.returns-then-is_flat
returns-then-is_flat c =
    boxed_flat c.args.self.now c.args.x.now
    (ap (λ (a : Array). is_flat a.storage.dims c.args.x.now) (sym c.self.view_is) ∙ sym c.if-is_flat.ensures) c.value_at.ensures

pub returns-else-is_flat : goal.returns-else-is_flat
returns-else-is_flat c =
    not_boxed c.args.self.now c.args.x.now
    (ap (λ (a : Array). is_flat a.storage.dims c.args.x.now) (sym c.self.view_is) ∙ sym c.if-is_flat.ensures)
