use Rattle.std.proofs.Common.{◌≡◌, ◌++◌, rules}
use Rattle.grid_save.specs.Fault.{AtCounts, AtVersion}
use Rattle.grid_save.specs.Saved.{AreCounted}
use Rattle.grid_save.specs.Written.{counts_text}
use Rattle.save_texts.proofs.Faults.{parts_of, parts_told, saved_on}
use Rattle.save_texts.proofs.saves.read_text.Goals as goal

pub returns-in_default-clause-err : goal.returns-in_default-clause-err
returns-in_default-clause-err c = AtVersion c.in_default.ensures

pub returns-in_default-take_counts-clause-err : goal.returns-in_default-take_counts-clause-err
returns-in_default-take_counts-clause-err c = AtCounts c.in-Some.behind.now c.in-Some.ensures c.in_default-take_counts.ensures

pub returns-in-Ok-clause-ok : goal.returns-in-Ok-clause-ok
returns-in-Ok-clause-ok c =
    let counted : AreCounted c.in-Some-take_counts.counts.turns c.in-Some-take_counts.counts.sends c.in-Some-take_counts.counts.words = search rules in
    let written : c.in-Some.behind.now ≡ counts_text c.in-Some-take_counts.counts.turns c.in-Some-take_counts.counts.sends c.in-Some-take_counts.counts.words ++ c.in-Some-take_counts.rest.now =
    search rules in
    let parts = parts_told c.args.bytes.now c.in-Some.behind.now c.in-Some-take_counts.rest.now c.split_at.result.0.now c.split_at.result.1.now c.in-Some-take_counts.counts c.listing_len.result
    c.in-Some.ensures counted written c.listing_len.ensures.cut c.split_at.ensures.front c.split_at.ensures.back in
    saved_on c.args.bytes.now c.in-Some-take_counts.counts c.split_at.result.0.now c.split_at.result.1.now c.grid_of.result parts c.grid_of.ensures.ok

pub returns-in-Err-clause-err : goal.returns-in-Err-clause-err
returns-in-Err-clause-err c =
    let counted : AreCounted c.in-Some-take_counts.counts.turns c.in-Some-take_counts.counts.sends c.in-Some-take_counts.counts.words = search rules in
    let written : c.in-Some.behind.now ≡ counts_text c.in-Some-take_counts.counts.turns c.in-Some-take_counts.counts.sends c.in-Some-take_counts.counts.words ++ c.in-Some-take_counts.rest.now =
    search rules in
    let parts = parts_told c.args.bytes.now c.in-Some.behind.now c.in-Some-take_counts.rest.now c.split_at.result.0.now c.split_at.result.1.now c.in-Some-take_counts.counts c.listing_len.result
    c.in-Some.ensures counted written c.listing_len.ensures.cut c.split_at.ensures.front c.split_at.ensures.back in
    c.of_listing.ensures.explains c.args.bytes.now (parts_of c.args.bytes.now c.in-Some-take_counts.counts c.split_at.result.0.now c.split_at.result.1.now parts)
