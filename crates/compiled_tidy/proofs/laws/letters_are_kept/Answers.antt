use Rattle.zpl_claims.specs.Build.{Build}
use Rattle.compiled_tidy.specs.Lowered.{lowered_for}
use Rattle.compiled_tidy.proofs.FlatLemmas.{can_be_fused, first_fits}
use Rattle.compiled_tidy.proofs.LetterLemmas.{all_contracted, all_early, all_fused, all_merged, all_new}
use Rattle.compiled_tidy.proofs.laws.letters_are_kept.Goals as goal

pub returns : goal.returns
returns c = record {
  fused = λ build program is checks stands asked.
      all_fused build (lowered_for build program)
      (can_be_fused (lowered_for build program) is checks stands) asked;
  contracted = λ build program is asked.
      all_contracted build (lowered_for build program)
      (first_fits (lowered_for build program) is build.options.fuse) asked;
  not_redundant = λ build program asked. all_new build (lowered_for build program) asked;
  merged = λ build program asked. all_merged build (lowered_for build program) asked;
  early = λ build program asked. all_early build (lowered_for build program) asked;
}
