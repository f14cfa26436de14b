-- Whether a group puts an array is told by its members, whatever mask is around them.
use Rattle.std.proofs.Common.{◌≡◌, ℕ, List, [], ◌∷◌, ◌++◌, refl}
use Rattle.std.specs.Prelude.{Option, Some, None}
use Rattle.text_sharing.specs.of_flat_form.Row as row
use Rattle.text_sharing.specs.of_flat_form.Row.{Member, Words}
use Rattle.zpl_lowering.specs.Statement.{has_put, masked_members}

closed_put : (members : List Member) → has_put (members ++ row.CloseIf ∷ []) ≡ has_put members
closed_put [] = refl
closed_put (row.Put array expr mask line ∷ members) = refl
closed_put (row.Cell cell expr mask line ∷ members) = closed_put members
closed_put (row.Acc scalar operator expr mask line ∷ members) = closed_put members
closed_put (row.OpenIf expr mask line ∷ members) = closed_put members
closed_put (row.Otherwise ∷ members) = closed_put members
closed_put (row.CloseIf ∷ members) = closed_put members
closed_put (row.OpenWhile expr mask line ∷ members) = closed_put members
closed_put (row.CloseWhile ∷ members) = closed_put members
closed_put (row.OpenRepeat mask line ∷ members) = closed_put members
closed_put (row.Until expr ∷ members) = closed_put members

pub masked_put : (mask : Option Words) (line : ℕ) (members : List Member) →
    has_put (masked_members mask line members) ≡ has_put members
masked_put None line members = refl
masked_put (Some words) line members = closed_put members
