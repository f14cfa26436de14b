-- Statements that don't stand under a mask: prints of arrays, and borders.
use Rattle.std.specs.Prelude.{◌≡◌, List, [], ◌∷◌, None}
use Rattle.meaning_runs.specs.of_zpl_tree.Syntax.{Item, Str, Value, Form, Assign, Invoke, Block, If, While, Repeat}
use Rattle.meaning_runs.specs.of_zpl_tree.Syntax.{For, Border, Write, Return}
use Rattle.meaning_runs.specs.of_zpl_names.Kinds.{Rank}
use Rattle.meaning_runs.specs.of_zpl_names.Sites.{Printed}
use Rattle.meaning_runs.specs.of_zpl_meaning.Context.{Place, over_at, rank_in}

-- the current region of the rank has no mask
abbrev pub HasNoMask : Place → Rank → Type 0
HasNoMask place rank = (over_at place.currents rank).mask ≡ None

abbrev pub AreUnmaskedItems : Place → List Item → Type 0
AreUnmaskedItems place [] = Unit {0}
AreUnmaskedItems place (Str bytes ∷ items) = AreUnmaskedItems place items
AreUnmaskedItems place (Value expr ∷ items) =
    HasNoMask place (rank_in place Printed expr) × AreUnmaskedItems place items

abbrev pub IsUnmasked : Place → Form → Type 0
IsUnmasked place (Write line items) = AreUnmaskedItems place items
IsUnmasked place (Border kind names) = HasNoMask place place.prefix
IsUnmasked place (Assign name op value) = Unit {0}
IsUnmasked place (Invoke name actuals) = Unit {0}
IsUnmasked place (Block body) = Unit {0}
IsUnmasked place (If arms otherwise) = Unit {0}
IsUnmasked place (While test body) = Unit {0}
IsUnmasked place (Repeat body until test) = Unit {0}
IsUnmasked place (For head body) = Unit {0}
IsUnmasked place (Return value) = Unit {0}
