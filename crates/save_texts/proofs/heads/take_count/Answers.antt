use Rattle.std.proofs.Common.{◌≡◌, ◌^◌, ◌<◌, ◌∷◌, ◌++◌, rules, arith}
use Rattle.std.specs.Fmt.{decimal}
use Rattle.save_texts.proofs.HeadLemmas.{too_many}
use Rattle.save_texts.proofs.heads.take_count.Goals as goal
use Rattle.save_texts.proofs.heads.take_count.Goals.{in_default-via-in-Some+else-number-lt-MOST_COUNT, in_default-via-in_default}

pub returns-in_default : goal.returns-in_default
returns-in_default c = λ n rest below e.
    elim c.in_default.branch [
      | in_default-via-in-Some+else-number-lt-MOST_COUNT w ↦ (
          let few : w.in-Some.number < 2 ^ 126 = search rules in
          let is : c.args.bytes.now ≡ decimal w.in-Some.number ++ 32 ∷ w.in-Some.rest.now = search rules in
          too_many c.args.bytes.now w.in-Some.rest.now rest w.in-Some.number n few is (omega (arith, w.if-number-lt-MOST_COUNT.false)) below e)
      | in_default-via-in_default w ↦ w.in_default.ensures n rest (omega (arith, below)) e
    ]
