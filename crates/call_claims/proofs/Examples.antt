-- Letters of optimisations, computed.
use Rattle.std.specs.Prelude.{◌≡◌, true, false, None, Some, codes, refl}
use Rattle.zpl_claims.specs.Build.{no_options}
use Rattle.call_claims.specs.Words.{with_letters}

-- each letter's own
fused : with_letters no_options (codes "f") ≡ Some (record no_options { fuse = true })
fused = refl

contracted : with_letters no_options (codes "c") ≡ Some (record no_options { contract = true })
contracted = refl

without_repeats : with_letters no_options (codes "r") ≡ Some (record no_options { redundant = true })
without_repeats = refl

merged : with_letters no_options (codes "m") ≡ Some (record no_options { merge = true })
merged = refl

early : with_letters no_options (codes "e") ≡ Some (record no_options { early = true })
early = refl

by_trees : with_letters no_options (codes "t") ≡ Some (record no_options { tree = true })
by_trees = refl

-- all of them, in any order
all_six : with_letters no_options (codes "fcrmet") ≡ Some (record {
  fuse = true;
  contract = true;
  redundant = true;
  merge = true;
  early = true;
  tree = true;
})
all_six = refl

in_any_order : with_letters no_options (codes "temrcf") ≡ with_letters no_options (codes "fcrmet")
in_any_order = refl

-- none where one comes again, or is no letter
asked_again : with_letters no_options (codes "frf") ≡ None
asked_again = refl

no_letter : with_letters no_options (codes "fx") ≡ None
no_letter = refl

upper_case : with_letters no_options (codes "F") ≡ None
upper_case = refl
