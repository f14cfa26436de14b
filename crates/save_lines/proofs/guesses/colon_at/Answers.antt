use Rattle.std.proofs.Common.{[], codes, map, ◌∙◌, sym, arith}
use Rattle.std.proofs.lemmas.List.{length-map}
use Rattle.save_lines.proofs.Colon.{first_word, get_or-now, none_more}
use Rattle.save_lines.proofs.guesses.colon_at.Goals as goal

pub returns-then-is_word-clause-found : goal.returns-then-is_word-clause-found
returns-then-is_word-clause-found c = λ front back others e.
    first_word (codes ":") (map (λ word. word.now) c.args.words.now) front back c.loop-i.i [] others e c.loop-i.invariant
    (rw length-map (omega (arith, c.loop-i-test.true)))
    (λ below. get_or-now (λ word. word.now) c.args.words.now c.loop-i.i record { ref_ptr = (0, 0); now = [] } [] c.loop-i-test.true ∙ c.is_word.ensures.0 c.if-is_word.true)

pub loop-i-preserved : goal.loop-i-preserved
loop-i-preserved c =
    none_more (map (λ word. word.now) c.args.words.now) (codes ":") [] c.loop-i.i c.loop-i.invariant (λ here.
    let own = sym (get_or-now (λ word. word.now) c.args.words.now c.loop-i.i record { ref_ptr = (0, 0); now = [] } [] c.loop-i-test.true) ∙ here in
    let yes = c.is_word.ensures.1 own in
    let no = c.if-is_word.false in
    absurd cc)

pub returns-clause-found : goal.returns-clause-found
returns-clause-found c = λ front back others e.
    first_word (codes ":") (map (λ word. word.now) c.args.words.now) front back _ [] others e (λ k below. c.loop-i.invariant k (omega (arith, below, c.loop-i-test.false)))
    (rw length-map (omega arith)) (λ below. absurd (omega (arith, rw length-map at below)))
