use Rattle.std.proofs.Common.{sym, ◌∙◌}
use Rattle.zpl_text.specs.Gaps.{IsLineComment, IsBlockComment, nothing, line, block}
use Rattle.zpl_text.proofs.Skipping.{Skips-trans, Skips-white, Skips-length, after_two}
use Rattle.zpl_text.proofs.gaps.past_gap.Goals as goal

pub loop-rest-init : goal.loop-rest-init
loop-rest-init c = let skipped = nothing {bytes = c.args.bytes.now} in
    record { skipped = skipped; shorter = Skips-length skipped }

pub loop-rest-preserved-then-begins_white : goal.loop-rest-preserved-then-begins_white
loop-rest-preserved-then-begins_white c =
    let skipped = Skips-trans c.loop-rest.invariant.skipped
    (Skips-white c.loop-rest.rest.now (c.begins_white.ensures.0 c.if-begins_white.true)) in
    record { skipped = skipped; shorter = Skips-length skipped }

pub loop-rest-preserved-then-starts_with : goal.loop-rest-preserved-then-starts_with
loop-rest-preserved-then-starts_with c =
    let comment = after_two 45 45 (λ whole. IsLineComment whole c.past_line-rest.result.now)
    c.loop-rest.rest.now (sym c.if-starts_with.true ∙ c.starts_with.ensures.value)
    c.past_line-rest.ensures.comment in
    let skipped = Skips-trans c.loop-rest.invariant.skipped (line comment nothing) in
    record { skipped = skipped; shorter = Skips-length skipped }

pub loop-rest-preserved : goal.loop-rest-preserved
loop-rest-preserved c =
    let comment = after_two 47 42 (λ whole. IsBlockComment whole c.in-Some.after.now)
    c.loop-rest.rest.now
    (sym c.if-starts_with-2.true ∙ c.starts_with-else-starts_with.ensures.value)
    c.in-Some.ensures.comment in
    let skipped = Skips-trans c.loop-rest.invariant.skipped (block comment nothing) in
    record { skipped = skipped; shorter = Skips-length skipped }
