use Rattle.std.proofs.Common.{rules, pos, ◌≡◌, ◌++◌, [], ◌∷◌}
use Rattle.std.proofs.lemmas.List.Elements.{All-push}
use Rattle.std.specs.Fmt.{signed_decimal}
use Rattle.zpl_nums.specs.Integer.{IsInteger}
use Rattle.save_lines.proofs.Found.{taken_all, taken_more, taken_none}
use Rattle.save_lines.proofs.numbers.numbers_of.Goals as goal

pub returns-in_default-clause-found : goal.returns-in_default-clause-found
returns-in_default-clause-found c =
    taken_none IsInteger signed_decimal (λ word. word.now) record { ref_ptr = (0, 0); now = [] } (pos 0) c.args.words.now c.loop-word.word-index c.loop-word-test.true
    (rw c.in_default.is at c.number_of.ensures.found)

pub loop-word-preserved : goal.loop-word-preserved
loop-word-preserved c =
    let grown : c.push.new.self.items ≡ c.loop-word.numbers.items ++ c.in-Some.number ∷ [] = search rules in
    record {
      taken = rw grown (taken_more IsInteger signed_decimal (λ word. word.now) record { ref_ptr = (0, 0); now = [] } (pos 0) c.args.words.now c.loop-word.numbers.items
          c.loop-word.word-index c.in-Some.number c.loop-word-test.true c.loop-word.invariant.taken (rw c.in-Some.is at c.number_of.ensures.found));
      are = rw grown (All-push IsInteger c.loop-word.numbers.items c.in-Some.number c.loop-word.invariant.are (rw c.in-Some.is at c.number_of.ensures.range));
    }

pub returns-clause-found : goal.returns-clause-found
returns-clause-found c =
    taken_all IsInteger signed_decimal (λ word. word.now) record { ref_ptr = (0, 0); now = [] } (pos 0) c.args.words.now c.loop-word.numbers.items c.loop-word.word-index c.loop-word-test.false
    c.loop-word.invariant.taken
