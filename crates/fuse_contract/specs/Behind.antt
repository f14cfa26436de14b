-- What the code keeps while it joins loops stands for facts.
--
--   IsGrown, IsLast  a loop that others may still join, in memory
--   IsBehind         what is known behind a row, in memory
--   GoesOn           rows are written, and other facts are known behind them
--   FitsReference    a reference as the loop of a program that fits may have it
use Rattle.std.specs.Prelude.{◌≡◌, ℕ, Option, Some, None, List}
use Rattle.temp_norm.specs.of_node_form.declared.arrays.Item.{Item}
use Rattle.temp_norm.specs.of_node_form.declared.tables.Tables.{Tables}
use Rattle.temp_norm.specs.of_node_form.Fits.{HasArray, HasSlot, IsVector}
use Rattle.temp_norm.specs.of_flat_passes.Draft.{with_rows}
use Rattle.temp_norm.specs.of_flat_passes.Grouped.{Grouped}
use Rattle.fuse_contract.specs.Fusing.{Loop}
use Rattle.fuse_contract.specs.Joining.{Facts, no_numbers, uses_of, with_uses}
use Rattle.fuse_contract.specs.Known.{IsKnown}
use Rattle.fuse_contract.specs.declared.joins.Grown.{Grown}
use Rattle.fuse_contract.specs.declared.joins.Walk.{Walk}

pub record IsGrown (tables : Tables) (grown : Grown) (loop : Loop) : Type 0 where
  pub slot : grown.slot ≡ loop.slot
  pub members : grown.members.items ≡ loop.group
  pub used : grown.used ≡ with_uses no_numbers (uses_of tables loop.slot loop.group)

abbrev pub IsLast : Tables → Option Grown → Option Loop → Type 0
IsLast tables None None = Unit {0}
IsLast tables (Some grown) (Some loop) = IsGrown tables grown loop
IsLast tables None (Some loop) = ⊥
IsLast tables (Some grown) None = ⊥

pub record IsBehind (tables : Tables) (walk : Walk) (facts : Facts) : Type 0 where
  pub known : IsKnown walk.known facts.known
  pub last : IsLast tables walk.last facts.last

abbrev pub GoesOn : Tables → Walk → Walk → (Facts → List Grouped) → (Facts → Facts) → Type 0
GoesOn tables old new rows behind =
    (facts : Facts) → IsBehind tables old facts →
    (new.draft ≡ with_rows old.draft (rows facts)) × IsBehind tables new (behind facts)

pub record FitsReference (tables : Tables) (item : Item) : Type 0 where
  pub rank : ℕ
  pub slot : HasSlot tables rank item.slot
  pub array : HasArray tables rank item.array
  pub shift : IsVector rank item.shift
