use Rattle.array_numbers.proofs.PlainLemmas.{mask_free, plain_reads}
use Rattle.array_numbers.proofs.laws.plain_assignments_stand_apart.Goals as goal

pub returns : goal.returns
returns c = record { words = plain_reads; masks = mask_free }
