use Rattle.std.proofs.Common.{sym, ap}
use Rattle.array_store.specs.of_zpl_arrays.Array.{Array}
use Rattle.array_terms.proofs.checks.storage_of.Goals as goal

pub returns-in-None-clause-storage : goal.returns-in-None-clause-storage
returns-in-None-clause-storage c = ap (λ (a : Array). a.storage) (sym c.in-None.ensures)
