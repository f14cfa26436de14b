use Rattle.meaning_ranks.specs.of_zpl_binding.Declarations.{known_of}
use Rattle.meaning_ranks.specs.of_zpl_binding.Storages.{borders_of}
use Rattle.lowering_fits.proofs.RegionLemmas.{known_good}
use Rattle.lowering_fits.proofs.HullLemmas.{storage_like}
use Rattle.lowering_fits.proofs.StorageLemmas.{storage_is, copy_is}
use Rattle.lowering_fits.proofs.laws.storages_are_boxes.Goals as goal

pub returns : goal.returns
returns c = record {
  like = λ program settings. storage_like (known_of program settings) (borders_of program);
  declared = λ program settings inner storage given rank.
      storage_is (λ region steps. c.tests_tell_the_facts.ensures.limit region steps)
      (known_of program settings) (borders_of program) inner (known_good program settings) storage
      given rank;
  copies = copy_is (λ region steps. c.tests_tell_the_facts.ensures.limit region steps);
}
