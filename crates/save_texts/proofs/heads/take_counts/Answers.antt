use Rattle.std.proofs.Common.{◌≡◌, ◌^◌, ◌<◌, ◌∷◌, ◌++◌, rules}
use Rattle.std.specs.Fmt.{decimal}
use Rattle.save_texts.proofs.HeadLemmas.{no_sends, no_words}
use Rattle.save_texts.proofs.heads.take_counts.Goals as goal

pub returns-in_default-take_count-2 : goal.returns-in_default-take_count-2
returns-in_default-take_count-2 c = λ rest has.
    let turns = c.in-Some-take_count.turns in
    let few : c.in-Some-take_count.turns < 2 ^ 62 = search rules in
    let is : c.in-Some.numbers.now ≡ decimal c.in-Some-take_count.turns ++ 32 ∷ c.in-Some-take_count.behind_turns.now = search rules in
    no_sends c.args.bytes.now c.in-Some.numbers.now c.in-Some-take_count.behind_turns.now rest turns c.in-Some.ensures few is c.in_default-take_count-2.ensures has

pub returns-in_default-take_number : goal.returns-in_default-take_number
returns-in_default-take_number c = λ rest has.
    let turns = c.in-Some-take_count.turns in
    let sends = c.in-Some-take_count-2.sends in
    let few : c.in-Some-take_count.turns < 2 ^ 62 = search rules in
    let is : c.in-Some.numbers.now ≡ decimal c.in-Some-take_count.turns ++ 32 ∷ c.in-Some-take_count.behind_turns.now = search rules in
    let less : c.in-Some-take_count-2.sends < 2 ^ 62 = search rules in
    let also : c.in-Some-take_count.behind_turns.now ≡ decimal c.in-Some-take_count-2.sends ++ 32 ∷ c.in-Some-take_count-2.behind_sends.now = search rules in
    no_words c.args.bytes.now c.in-Some.numbers.now c.in-Some-take_count.behind_turns.now c.in-Some-take_count-2.behind_sends.now rest turns sends
    c.in-Some.ensures few is less also c.in_default-take_number.ensures has
