-- The numbers of the store's places, in memory.
use Rattle.std.specs.Prelude.{ℕ, List, [], map}
use Rattle.lower_draft.specs.of_zpl_lowering.Where as plain
use Rattle.lower_places.specs.declared.stored.Stored.{Stored}

abbrev pub stored_of : Stored → plain.Stored
stored_of stored = record { array = stored.array; storage = stored.storage }

abbrev pub numbers_in : List ℕ → List Stored → plain.Numbers
numbers_in scalars arrays = record { scalars = scalars; arrays = map stored_of arrays }

abbrev pub no_numbers : plain.Numbers
no_numbers = record { scalars = []; arrays = [] }
