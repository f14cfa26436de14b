use Rattle.code_parts.proofs.UseLemmas.{arrays_either_way, slots_either_way}
use Rattle.code_parts.proofs.laws.rows_write_what_is_listed.Goals as goal

pub returns : goal.returns
returns c = record { arrays = arrays_either_way; slots = slots_either_way }
