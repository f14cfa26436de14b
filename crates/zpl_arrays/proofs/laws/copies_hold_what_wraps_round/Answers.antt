use Rattle.zpl_arrays.proofs.AroundLemmas.{copy_over_home, home_by_copy, read_of_copy, wraps_fill_copy}
use Rattle.zpl_arrays.proofs.laws.copies_hold_what_wraps_round.Goals as goal

pub returns : goal.returns
returns c = record { read = read_of_copy; home = copy_over_home; border = wraps_fill_copy; lies = home_by_copy }
