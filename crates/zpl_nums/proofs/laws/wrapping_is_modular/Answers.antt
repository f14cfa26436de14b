use Rattle.std.proofs.Common.{w64}
use Rattle.std.proofs.lemmas.Int.{SFits-int_wrap}
use Rattle.zpl_nums.proofs.IntegerLemmas.{wrapped_differs, wrapped_only}
use Rattle.zpl_nums.proofs.laws.wrapping_is_modular.Goals as goal

pub returns : goal.returns
returns c = record { fits = SFits-int_wrap w64; differs = wrapped_differs; only = wrapped_only }
