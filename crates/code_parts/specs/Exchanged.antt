-- Exchanges that bring nothing new are left out, and neighbours are one exchange.
use Rattle.std.specs.Prelude.{◌≡◌, ℕ, Bool, true, false, not, List, [], ◌∷◌, ◌++◌, Contains}
use Rattle.std.specs.Prelude.{filter}
use Rattle.std.specs.List.{AllByRecursion, list_any}
use Rattle.node_form.specs.declared.arrays.Item.{Item}
use Rattle.node_form.specs.declared.instructions.Instr.{Instr}
use Rattle.node_form.specs.declared.instructions.Instr.TheVariants as instr
use Rattle.node_form.specs.declared.tables.Tables.{Tables}
use Rattle.code_parts.specs.Uses.{changes, is_item, items_of}
use Rattle.code_parts.specs.Stretch.{IsStretch, is_right_throughout}

-- ---- repeats
-- what was exchanged is no longer fresh behind the row; a `finish` counts as no write
abbrev pub stales : Tables → Item → Instr → Bool
stales tables item (instr.Finish exchange) = false
stales tables item row = changes tables row item

-- two starts of exchanges with an equal item, and no row between them that writes its array or its
-- slot
pub record HasRepeat (tables : Tables) (rows : List Instr) : Type 0 where
  pub one : ℕ
  pub other : ℕ
  pub item : Item
  pub before : List Instr
  pub between : List Instr
  pub after : List Instr
  pub place : rows ≡ before ++ instr.Start one ∷ (between ++ instr.Start other ∷ after)
  pub first : Contains (items_of tables one) item
  pub again : Contains (items_of tables other) item
  pub kept : AllByRecursion (λ row. stales tables item row ≡ false) between

abbrev pub HasNoRepeats : Tables → Type 0
HasNoRepeats tables = (rows : List Instr) → IsStretch tables.code rows → ¬ HasRepeat tables rows

-- by a walk: what is known is the items that are fresh
abbrev pub fresh_behind : Tables → List Item → Instr → List Item
fresh_behind tables fresh (instr.Start exchange) = items_of tables exchange ++ fresh
fresh_behind tables fresh row = filter (λ item. not (stales tables item row)) fresh

abbrev pub is_among : List Item → Item → Bool
is_among items item = list_any (is_item item) items

abbrev pub starts_new : Tables → List Item → Instr → Bool
starts_new tables fresh (instr.Start exchange) =
    not (list_any (is_among fresh) (items_of tables exchange))
starts_new tables fresh row = true

abbrev pub has_no_repeats : Tables → Bool
has_no_repeats tables =
    is_right_throughout [] (fresh_behind tables) (starts_new tables) tables.code

-- ---- neighbours
abbrev pub is_exchange_row : Instr → Bool
is_exchange_row (instr.Start exchange) = true
is_exchange_row (instr.Finish exchange) = true
is_exchange_row row = false

-- two finishes with starts and finishes alone between them
pub record HasNeighbours (rows : List Instr) : Type 0 where
  pub one : ℕ
  pub other : ℕ
  pub before : List Instr
  pub between : List Instr
  pub after : List Instr
  pub place : rows ≡ before ++ instr.Finish one ∷ (between ++ instr.Finish other ∷ after)
  pub near : AllByRecursion (λ row. is_exchange_row row ≡ true) between

abbrev pub IsMerged : Tables → Type 0
IsMerged tables = (rows : List Instr) → IsStretch tables.code rows → ¬ HasNeighbours rows

-- by a walk: what is known is whether there is a finish with starts and finishes alone behind it
abbrev pub is_behind_finish : Bool → Instr → Bool
is_behind_finish known (instr.Finish exchange) = true
is_behind_finish known (instr.Start exchange) = known
is_behind_finish known row = false

abbrev pub is_apart : Bool → Instr → Bool
is_apart known (instr.Finish exchange) = not known
is_apart known row = true

abbrev pub is_merged : Tables → Bool
is_merged tables = is_right_throughout false is_behind_finish is_apart tables.code
