use Rattle.std.proofs.Common.{◌≡◌, ℕ, ◌+◌, ◌-◌, ◌^◌, min, subst, ◌∙◌, ap, rules, arith, lit<}
use Rattle.std.specs.Prelude.{Some, slice_get, sum_by}
use Rattle.grid_layout.specs.declared.blocks.Blocks.{Blocks}
use Rattle.grid_layout.specs.Words.{box_words}
use Rattle.listing_rules.specs.Room.{LacksRoom, blocks_for, stored_box}
use Rattle.listing_rules.proofs.ReadsLemmas.{fault_here}
use Rattle.listing_rules.proofs.RoomLemmas.{lacks, words_more}
use Rattle.listing_rules.proofs.rooms.check_room.Goals as goal

pub returns-then-words-gt-STORAGE_LIMIT-clause-err : goal.returns-then-words-gt-STORAGE_LIMIT-clause-err
returns-then-words-gt-STORAGE_LIMIT-clause-err c =
    let lines = c.args.lines.now in
    let t = c.args.tables.now in
    let row = c.unwrap-row.result.now in
    let here : slice_get t.arrays c.loop-i.i ≡ Some row = search rules in
    let words = subst (λ (b : Blocks). c.words_of.result ≡ min (sum_by (box_words b) (stored_box row.stored row)) (2 ^ 128 - 1)) c.in_ok-blocks.ensures.0 c.words_of.ensures in
    let sum : c.saturating_add-words.result ≡ min (c.loop-i.words + min (sum_by (box_words (blocks_for t)) (stored_box row.stored row)) (2 ^ 128 - 1)) (2 ^ 128 - 1) =
    c.saturating_add-words.ensures ∙ ap (λ (n : ℕ). min (c.loop-i.words + n) (2 ^ 128 - 1)) words in
    rw c.bad_table.ensures (fault_here (LacksRoom lines t) lines (5 + c.loop-i.i) (omega (arith, c.requires.inside, c.loop-i-test.true, c.len-i-end.ensures))
    (lacks lines t c.loop-i.i row c.loop-i.words c.saturating_add-words.result (2 ^ 128 - 1) here c.loop-i.invariant.words c.loop-i.invariant.within (lit< tt) sum c.if-words-gt-STORAGE_LIMIT.true))

pub loop-i-preserved : goal.loop-i-preserved
loop-i-preserved c =
    let t = c.args.tables.now in
    let row = c.unwrap-row.result.now in
    let here : slice_get t.arrays c.loop-i.i ≡ Some row = search rules in
    let words = subst (λ (b : Blocks). c.words_of.result ≡ min (sum_by (box_words b) (stored_box row.stored row)) (2 ^ 128 - 1)) c.in_ok-blocks.ensures.0 c.words_of.ensures in
    let sum : c.saturating_add-words.result ≡ min (c.loop-i.words + min (sum_by (box_words (blocks_for t)) (stored_box row.stored row)) (2 ^ 128 - 1)) (2 ^ 128 - 1) =
    c.saturating_add-words.ensures ∙ ap (λ (n : ℕ). min (c.loop-i.words + n) (2 ^ 128 - 1)) words in
    record {
      words = words_more t t.arrays c.loop-i.i row c.loop-i.words c.saturating_add-words.result (2 ^ 128 - 1) here c.loop-i.invariant.words c.loop-i.invariant.within (lit< tt) sum c.if-words-gt-STORAGE_LIMIT.false;
      within = c.if-words-gt-STORAGE_LIMIT.false;
    }
