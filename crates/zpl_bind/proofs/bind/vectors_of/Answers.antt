use Rattle.std.proofs.Common.{subst, map, [], ◌∷◌}
use Rattle.zpl_parts.specs.of_zpl_binding.Outcome.{failures}
use Rattle.zpl_parts.specs.of_zpl_binding.Vectors.{vector_of}
use Rattle.zpl_parts.specs.View.{part_of}
use Rattle.zpl_bind.specs.Fault.{IsAmong}
use Rattle.zpl_bind.specs.Known.{known_in}
use Rattle.zpl_bind.specs.Storages.{vectors_among}
use Rattle.zpl_bind.proofs.KnownLemmas.{told-err}
use Rattle.zpl_bind.proofs.StorageFaults.{vectors-fail}
use Rattle.zpl_bind.proofs.bind.vectors_of.Goals as goal

pub returns-in_err-add_vector-clause-err : goal.returns-in_err-add_vector-clause-err
returns-in_err-add_vector-clause-err c =
    let f = vector_of (known_in c.args.known.now).values in
    let fault = c.in_err-add_vector.field-0.0 in
    told-err c.from_residual-in_err-add_vector.result fault _
    c.from_residual-in_err-add_vector.ensures.1
    (vectors-fail f c.args.parts.now c.loop-part.part-index c.part-item.result fault
    c.loop-part-test.true
    (subst (λ part. IsAmong fault (failures (map f (vectors_among (part_of part ∷ [])))))
    c.part-item.is c.in_err-add_vector.ensures.err))
