-- The status of work that is over, by how what is meant ends.
use Rattle.std.specs.Prelude.{ℕ}
use Rattle.zpl_nums.specs.declared.ends.End.{End}
use Rattle.zpl_nums.specs.declared.ends.End.TheVariants.{Done, Trap}
use Rattle.zpl_nums.specs.declared.ends.TrapKind.{TrapKind}
use Rattle.call_claims.specs.declared.status.TheConstants.{DONE, TRAPPED}

-- normally, or with a trap
pub data IsStatusOf : End → ℕ → Type 0 where
  normal : IsStatusOf Done DONE
  trapped : {kind : TrapKind} {line : ℕ} → IsStatusOf (Trap kind line) TRAPPED
