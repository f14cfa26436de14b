use Rattle.std.proofs.Common.{◌≡◌, drop}
use Rattle.lower_frames.specs.Openings.{arrays_added, arrays_numbered, storages_in}
use Rattle.lower_frames.proofs.openings.add_arrays.Given as goal

abbrev pub invariant-loop-place : goal.invariant-loop-place
invariant-loop-place l = record {
  draft : arrays_added l.draft (storages_in (drop l.place l.store.arrays))
      ≡ arrays_added l.initial.draft (storages_in l.store.arrays);
  numbers : arrays_numbered l.numbers l.draft.next.arrays (storages_in (drop l.place l.store.arrays))
      ≡ arrays_numbered l.initial.numbers l.initial.draft.next.arrays (storages_in l.store.arrays);
}
