-- Rows that need no other processor are always defined.
use Rattle.std.proofs.Common.{◌≡◌, ℕ, zero, suc, ◌<◌, List, [], ◌∷◌, length, refl, sym, ap, ◌∙◌, subst, ℤ, arith}
use Rattle.std.specs.Prelude.{Option, Some, None, All, true, slice_get}
use Rattle.std.specs.List.{AllZip}
use Rattle.std.specs.Option.{IsSomeAnd}
use Rattle.zpl_region.specs.declared.regions.Region.{Region}
use Rattle.zpl_region.specs.Region.{members}
use Rattle.zpl_arrays.specs.Array.{Array}
use Rattle.grid_links.specs.Machine.{Blocked}
use Rattle.node_form.specs.declared.arrays.ArrayRow.{ArrayRow}
use Rattle.node_form.specs.declared.instructions.Instr.TheVariants as instr
use Rattle.node_form.specs.declared.members.Member.{Member}
use Rattle.node_form.specs.declared.tables.Tables.{Tables}
use Rattle.node_form.specs.Fits.{FitsMember}
use Rattle.node_form.specs.Group.{Ran, Through, Again, Divided, ran_from}
use Rattle.node_form.specs.Group as group
use Rattle.grid_meaning.specs.Action.{Undefined, moves}
use Rattle.grid_meaning.specs.Local.{Local}
use Rattle.grid_meaning.specs.Loop.{access_at, after_members, looped, point_of, turn_at_index}
use Rattle.grid_meaning.specs.Place.{own_part}
use Rattle.grid_meaning.specs.Room.{cleared, roomed}
use Rattle.grid_meaning.specs.State.{IsSlot, IsStore}
use Rattle.node_local.specs.Workplace.{Workplace}
use Rattle.row_turn.proofs.StandLemmas.{IsThere, slot_there, slot_within}
use Rattle.row_turn.specs.Placed.{IsAtRow}

-- ---- `loop`
after_defined : (local : Local) (ran : Ran (List Array)) → after_members local ran ≡ Blocked Undefined → ⊥
after_defined local (Through point) is = cc
after_defined local (Again member point) is = cc
after_defined local (Divided member point) is = cc
after_defined local group.Unheld is = cc

index_defined : (code : Tables) (all : List Member) (local : Local) (index : Option (List ℤ))
    → turn_at_index code all local index ≡ Blocked Undefined → ⊥
index_defined code all local (Some t) is = after_defined local (ran_from code (access_at t) all local.member (point_of local)) is
index_defined code all local None is = cc

pub loop_defined : (code : Tables) (p slot number : ℕ) (w : Workplace) → IsAtRow code p w (instr.Loop slot number)
    → looped code p w.local (slice_get w.local.slots slot) (slice_get code.groups number) ≡ Blocked Undefined → ⊥
loop_defined code p slot number w at is =
    by (slice_get code.groups number) at.fits.fit.1
    (sym (ap (λ o. looped code p w.local o (slice_get code.groups number)) there.1.found) ∙ is)
  where
    there : (region : Region) × IsThere code.slots w.local.slots slot region
    there = slot_there code.slots w.local.slots slot at.ready.state.parts.slots (slot_within code slot at.fits.rank at.fits.fit.0)

    by : (found : Option (List Member)) → IsSomeAnd found (All (FitsMember code at.fits.rank)) → looped code p w.local (Some there.0) found ≡ Blocked Undefined → ⊥
    by (Some all) some e = index_defined code all w.local (slice_get (members (own_part code p there.0)) w.local.index) e
    by None some e = absurd some

-- ---- `room` and `clear`
pub room_defined : (code : Tables) (p array slot : ℕ) (w : Workplace) → IsAtRow code p w (instr.Room array slot)
    → roomed code p w.local array (slice_get code.arrays array) (slice_get w.local.slots slot) ≡ Blocked Undefined → ⊥
room_defined code p array slot w at is =
    by (slice_get code.arrays array) at.fits.fit.1
    (sym (ap (roomed code p w.local array (slice_get code.arrays array)) there.1.found) ∙ is)
  where
    there : (region : Region) × IsThere code.slots w.local.slots slot region
    there = slot_there code.slots w.local.slots slot at.ready.state.parts.slots (slot_within code slot at.fits.rank at.fits.fit.0)

    by : (found : Option ArrayRow) → IsSomeAnd found (λ row. row.rank ≡ at.fits.rank) → roomed code p w.local array found (Some there.0) ≡ Blocked Undefined → ⊥
    by (Some row) some e = cc
    by None some e = absurd some

store_there : (code : Tables) (p : ℕ) (rows : List ArrayRow) (stores : List Array) (array : ℕ) → AllZip (IsStore code p) rows stores
    → IsSomeAnd (slice_get rows array) (λ row. row.stored ≡ true) → (store : Array) × (slice_get stores array ≡ Some store)
store_there code p [] stores array are some = absurd some
store_there code p (row ∷ rows) [] array are some = absurd are
store_there code p (row ∷ rows) (store ∷ stores) zero are some = (store, refl)
store_there code p (row ∷ rows) (store ∷ stores) (suc array) are some = store_there code p rows stores array are.1 some

pub clear_defined : (code : Tables) (p array : ℕ) (w : Workplace) → IsAtRow code p w (instr.Clear array)
    → cleared w.local array (slice_get w.local.stores array) ≡ Blocked Undefined → ⊥
clear_defined code p array w at is =
    let there = store_there code p code.arrays w.local.stores array at.ready.state.parts.stores at.fits.fit in
    let moves_on = sym (ap (cleared w.local array) there.1) ∙ is in
    cc
