use Rattle.std.proofs.Common.{◌≡◌, ◌∙◌, ap, rules, Some, ◌+◌}
use Rattle.std.specs.Prelude.{drop, fold, slice_get}
use Rattle.text_sharing.specs.Shared.{with_text}
use Rattle.text_sharing.proofs.ChangeLemmas.{fold_more}
use Rattle.text_sharing.proofs.different.different_of.Goals as goal

pub loop-i-preserved : goal.loop-i-preserved
loop-i-preserved c =
    let texts = c.args.texts.now in
    let i = c.loop-i.i in
    let there : slice_get texts i ≡ Some c.as_slice.result.now = search rules in
    record {
      rest =
          ap (λ l. fold with_text l (drop (i + 1) texts)) c.in_ok-add.ensures.added
          ∙ fold_more with_text c.loop-i.found.texts texts i c.as_slice.result.now there
          ∙ c.loop-i.invariant.rest;
      numbered = c.in_ok-add.ensures.numbered;
    }
