-- Every row but `remap` is blind.
use Rattle.std.proofs.Common.{◌≡◌, ℕ, List, [], Option, Some, None, option_map, slice_get, refl, subst}
use Rattle.std.specs.Prelude.{slice_set}
use Rattle.zpl_nums.specs.Fold.{joined}
use Rattle.grid_meaning.specs.of_node_form.declared.instructions.Instr.TheVariants as instr
use Rattle.grid_meaning.specs.of_node_form.declared.tables.Tables.{Tables}
use Rattle.grid_meaning.specs.of_node_form.declared.arrays.Item.{Item}
use Rattle.zpl_nums.specs.declared.folds.Fold.{Fold}
use Rattle.grid_meaning.specs.Action.{moves, goes_on}
use Rattle.grid_meaning.specs.Collective.{Collective, Kin, decided, flag_word, word_flag, least_flag, folded, voted, scalar_at, star, tree}
use Rattle.grid_meaning.specs.Delivery.{edging, edged, flooding, flooded, parting, parted}
use Rattle.grid_meaning.specs.Exchange.{started, finished}
use Rattle.grid_meaning.specs.Gather.{gathered}
use Rattle.grid_meaning.specs.Local.{Local}
use Rattle.grid_meaning.specs.Scan.{scanned_row}
use Rattle.row_orders.specs.Rows.{at_turn, IsBlind, AreBlind}
use Rattle.row_orders.proofs.AgreementLemmas.{agreed_blind}
use Rattle.row_orders.proofs.BlindLemmas.{delivered_blind, edging_by_slots, flooding_by_slots, parting_by_slots, started_blind, finished_blind, gathered_blind, scanned_blind}

decided_blind : (code : Tables) (group : ℕ) (local : Local) (n : ℕ) (flag : Option ℕ)
    → decided code group (at_turn n local) flag ≡ decided code group local flag
decided_blind code group local n None = refl
decided_blind code group local n (Some member) = refl

pub voted_blind : (code : Tables) (kin : Kin) (group : ℕ) → IsBlind (voted code kin group)
voted_blind code kin group =
    agreed_blind kin least_flag (λ local. flag_word local.flag)
    (λ local word. decided code group local (word_flag word)) (λ local n. refl)
    (λ local n word. decided_blind code group local n (word_flag word))

pub folded_blind : (kin : Kin) (scalar : ℕ) (f : Fold) → IsBlind (folded kin scalar f)
folded_blind kin scalar f =
    agreed_blind kin (joined f) (scalar_at scalar) (λ local value.
    moves (goes_on (record local { scalars = slice_set local.scalars scalar value })) [])
    (λ local n. refl) (λ local n value. refl)

same_blind : (one row : Collective) → Some one ≡ Some row → IsBlind one → IsBlind row
same_blind one row e blind = let same : one ≡ row = cc in subst IsBlind same blind

items_blind : (row_of : List Item → Collective) → ((items : List Item) → IsBlind (row_of items))
    → (items : Option (List Item)) (row : Collective) → option_map row_of items ≡ Some row
    → IsBlind row
items_blind row_of blind None row e = cc
items_blind row_of blind (Some items) row e = same_blind (row_of items) row e (blind items)

pub are_blind : (code : Tables) → AreBlind code
are_blind code p (instr.Start exchange) row e other =
    items_blind (started code p exchange) (started_blind code p exchange)
    (slice_get code.exchanges exchange) row e
are_blind code p (instr.Finish exchange) row e other =
    items_blind (finished code p exchange) (finished_blind code p exchange)
    (slice_get code.exchanges exchange) row e
are_blind code p (instr.Edge kind array slot shift) row e other =
    same_blind (edged code p kind array slot shift) row e
    (delivered_blind code p (edging code p kind array slot shift)
    (edging_by_slots code p kind array slot shift))
are_blind code p (instr.Flood array target from source) row e other =
    same_blind (flooded code p array target from source) row e
    (delivered_blind code p (flooding code p array target from source)
    (flooding_by_slots code p array target from source))
are_blind code p (instr.Part array target f from source) row e other =
    same_blind (parted code p array target f from source) row e
    (delivered_blind code p (parting code p array target f from source)
    (parting_by_slots code p array target f from source))
are_blind code p (instr.Scan array slot f along from mask) row e other =
    same_blind (scanned_row code p f along from mask array slot) row e
    (scanned_blind code p f along from mask array slot)
are_blind code p (instr.Gather truth array slot) row e other =
    same_blind (gathered code p truth array slot) row e (gathered_blind code p truth array slot)
are_blind code p (instr.Remap array slot from parts) row e other = cc
are_blind code p (instr.Vote group) row e other =
    same_blind (voted code (star code p) group) row e (voted_blind code (star code p) group)
are_blind code p (instr.TreeVote group) row e other =
    same_blind (voted code (tree code p) group) row e (voted_blind code (tree code p) group)
are_blind code p (instr.Fold scalar f) row e other =
    same_blind (folded (star code p) scalar f) row e (folded_blind (star code p) scalar f)
are_blind code p (instr.TreeFold scalar f) row e other =
    same_blind (folded (tree code p) scalar f) row e (folded_blind (tree code p) scalar f)
are_blind code p i row e other = cc
