use Rattle.std.proofs.Common.{[], sym, ◌∙◌}
use Rattle.zpl_tree.specs.View.{inner_of}
use Rattle.zpl_bind.specs.Known.{known_in}
use Rattle.zpl_bind.specs.Storages.{borders_in}
use Rattle.zpl_bind.proofs.KnownLemmas.{told-err}
use Rattle.zpl_bind.proofs.StorageFaults.{arrays-next, storages-fail}
use Rattle.zpl_tree.specs.declared.names.Name.{Name}
use Rattle.zpl_bind.proofs.storages.add_arrays.Goals as goal

-- what stands past the end of a list of names
abbrev no_name : Name
no_name = record { text = record { ref_ptr = (0, 0); now = [] }; at = 0 }

pub returns-in_err-storage-clause-err : goal.returns-in_err-storage-clause-err
returns-in_err-storage-clause-err c =
    told-err c.from_residual.result c.in_err-storage.field-0.0 _ c.from_residual.ensures.1
    (storages-fail (known_in c.args.known.now) (borders_in c.args.borders.now) c.args.names.now
    (inner_of c.args.inner.now) c.in_err-storage.field-0.0
    (sym c.is_empty.ensures ∙ c.if-is_empty.false) c.in_err-storage.ensures)

pub loop-name-preserved : goal.loop-name-preserved
loop-name-preserved c =
    arrays-next (known_in c.args.known.now) (borders_in c.args.borders.now)
    (inner_of c.args.inner.now) c.args.names.now c.loop-name._name-index no_name
    c.loop-name.into.items c.push.new.self.items c.in_ok-storage.storage _ c.loop-name-test.true
    c.in_ok-storage.ensures c.in_ok-push.ensures.items c.loop-name.invariant
