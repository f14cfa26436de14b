use Rattle.std.proofs.Common.{◌≡◌, ◌∙◌, ℕ, ◌+◌, false, List, [], ◌∷◌, ◌++◌, ap, drop, map, sym, subst, rules, arith}
use Rattle.std.proofs.lemmas.List.{map-append}
use Rattle.save_lines.specs.Line.{IsSavedLine}
use Rattle.grid_save.specs.Reads.{begins, IsMessageLine, RunBreaks}
use Rattle.grid_save.specs.Reads as read
use Rattle.save_reading.specs.Sent.{IsFrom, sent_pair}
use Rattle.save_reading.proofs.ReadLemmas.{fault_here, going_on, going_over, going_stop, line_is}
use Rattle.save_reading.proofs.SentLemmas.{is_message, least_on, message_is, not_found}
use Rattle.save_reading.proofs.messages.take_messages.Goals as goal

pub read_message-requires : goal.read_message-requires
read_message-requires c =
    line_is IsSavedLine c.args.lines.now c.loop-line.at c.in-Some.line.now (drop (c.loop-line.at + 1) c.args.lines.now) c.requires.lines c.in-Some.ensures.1

pub returns-in_default-2-clause-err : goal.returns-in_default-2-clause-err
returns-in_default-2-clause-err c =
    let lines = c.args.lines.now in
    let start = drop c.args.from lines in
    let code = c.args._code.now in
    let done = map sent_pair c.loop-line.sent.items in
    let before = c.loop-line.invariant in
    let line = c.in-Some.line.now in
    rw c.bad_state.ensures (fault_here (RunBreaks read.is_message (IsMessageLine code c.args.p) [] start) lines c.loop-line.at before.inside
    (going_stop read.is_message (IsMessageLine code c.args.p) start done (drop c.loop-line.at lines) line (drop (c.loop-line.at + 1) lines) before.going c.in-Some.ensures.1 c.in-Some.ensures.0
    (λ sent told. not_found _ line c.processor_count-count.result c.args.p c.loop-line.least c.in_ok-one.ensures.found c.in_default-2.is sent
    (subst (λ n. IsFrom n c.args.p c.loop-line.least line sent) (sym c.processor_count-count.ensures) (is_message code c.args.p c.loop-line.least done before.least line sent told)))))

pub loop-line-preserved : goal.loop-line-preserved
loop-line-preserved c =
    let lines = c.args.lines.now in
    let start = drop c.args.from lines in
    let code = c.args._code.now in
    let done = map sent_pair c.loop-line.sent.items in
    let before = c.loop-line.invariant in
    let line = c.in-Some.line.now in
    let one = c.in-Some-2.one in
    let from = rw c.in-Some-2.is at c.in_ok-one.ensures.right in
    let counted = subst (λ n. IsFrom n c.args.p c.loop-line.least line (sent_pair one)) c.processor_count-count.ensures from in
    let is = message_is code c.args.p c.loop-line.least done before.least line (sent_pair one) counted in
    let grown : c.keep.new.list.items ≡ c.loop-line.sent.items ++ c.in-Some-2.one ∷ [] = search rules in
    let told = ap (map sent_pair) grown ∙ map-append sent_pair c.loop-line.sent.items (one ∷ []) in
    let inside = c.in-Some.ensures.2 in
    record {
      going = going_on read.is_message (IsMessageLine code c.args.p) start done (map sent_pair c.keep.new.list.items) (drop c.loop-line.at lines) line (drop (c.loop-line.at + 1) lines) (sent_pair one)
          before.going c.in-Some.ensures.1 c.in-Some.ensures.0 is told;
      inside = omega arith;
      least = least_on c.loop-line.least done (map sent_pair c.keep.new.list.items) (sent_pair one) before.least from.from_least told;
    }

pub returns-clause-ok : goal.returns-clause-ok
returns-clause-ok c =
    let lines = c.args.lines.now in
    let stop : begins read.is_message (drop c.loop-line.at lines) ≡ false = search rules in
    going_over read.is_message (IsMessageLine c.args._code.now c.args.p) (drop c.args.from lines) (map sent_pair c.loop-line.sent.items) (drop c.loop-line.at lines) c.loop-line.invariant.going stop
