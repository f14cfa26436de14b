use Rattle.std.proofs.Common.{◌≡◌, ℕ, ◌+◌, Bool, false, sym, ap, ◌∙◌, subst, arith}
use Rattle.grid_meaning.specs.of_grid_layout.Grid.{processors_of}
use Rattle.grid_meaning.specs.Exchange.{word_count}
use Rattle.grid_meaning.specs.Local.{processors}
use Rattle.node_stages.specs.Slots.{at_slots}
use Rattle.node_stages.proofs.PieceLemmas.{grid_count}
use Rattle.node_stages.proofs.WalkLemmas.{Listed, fails_itself, fails_without, is_partner, listed_all, listed_by, listed_few, listed_from, listed_more, listed_on, passes, passes_not}
use Rattle.node_stages.proofs.exchanges.find_receivers.Goals as goal
use Rattle.node_stages.proofs.exchanges.find_receivers.Goals.{then-q-p+then-has_words, else-q-p, else-q-p-via-then-q-p+else-has_words, else-q-p-via-else-q-p}

pub loop-q-init : goal.loop-q-init
loop-q-init c =
    let count : c.count-count.result ≡ processors c.args.code.now =
    c.count-count.ensures.count ∙ (ap processors_of c.grid.ensures ∙ grid_count c.args.code.now c.args.layout.now c.requires.layout) in
    let words : ℕ → ℕ = word_count c.args.code.now (at_slots c.args.slots.now) c.args.items.now c.args.p in
    subst (Listed (is_partner c.args.p words) c.count-count.result c.first_from-q.result) (sym c.none-found.ensures)
    (listed_from (is_partner c.args.p words) c.count-count.result c.first_from-q.result
    (λ k above below within. passes_not c.args.p k words (λ some. c.first_from-q.ensures.none k above below (c.receivers-reach.ensures.all k (omega (arith, count, within)) some))))

pub has_words-requires-clause-receiver : goal.has_words-requires-clause-receiver
has_words-requires-clause-receiver c =
    let count : c.count-count.result ≡ processors c.args.code.now =
    c.count-count.ensures.count ∙ (ap processors_of c.grid.ensures ∙ grid_count c.args.code.now c.args.layout.now c.requires.layout) in
    omega arith

pub add-requires-clause-room : goal.add-requires-clause-room
add-requires-clause-room c =
    let words : ℕ → ℕ = word_count c.args.code.now (at_slots c.args.slots.now) c.args.items.now c.args.p in
    listed_few (is_partner c.args.p words) c.count-count.result c.loop-q.q c.loop-q.found c.loop-q-test.true c.count-count.ensures.few c.loop-q.invariant

pub add-requires-clause-few : goal.add-requires-clause-few
add-requires-clause-few c =
    let below = c.loop-q-test.true in
    let most = c.count-count.ensures.few in
    omega (arith, below, most)

pub loop-q-preserved : goal.loop-q-preserved
loop-q-preserved c =
    let count : c.count-count.result ≡ processors c.args.code.now =
    c.count-count.ensures.count ∙ (ap processors_of c.grid.ensures ∙ grid_count c.args.code.now c.args.layout.now c.requires.layout) in
    let words : ℕ → ℕ = word_count c.args.code.now (at_slots c.args.slots.now) c.args.items.now c.args.p in
    let test : ℕ → Bool = is_partner c.args.p words in
    let q = c.loop-q.q in
    let listed : Listed test c.count-count.result (q + 1) c.if-q-p.found = elim c.if-q-p.branch [
      | then-q-p+then-has_words w ↦
          subst (Listed test c.count-count.result (q + 1)) (sym (w.found-is ∙ w.add.ensures))
          (listed_more test c.count-count.result q c.loop-q.found c.loop-q-test.true
          (passes c.args.p q words w.has_words.result w.if-q-p.true w.has_words.ensures w.if-has_words.true) c.loop-q.invariant)
      | else-q-p w ↦
          let fails : test q ≡ false = elim w.else-q-p.branch [
            | else-q-p-via-then-q-p+else-has_words v ↦ fails_without c.args.p q words v.has_words.result v.has_words.ensures v.if-has_words.false
            | else-q-p-via-else-q-p v ↦ fails_itself c.args.p q words v.if-q-p.false
          ] in
          subst (Listed test c.count-count.result (q + 1)) (sym w.found-is)
          (listed_by test c.count-count.result q c.loop-q.found c.loop-q-test.true fails c.loop-q.invariant)
    ] in
    listed_on test c.count-count.result (q + 1) c.first_from-q-in-loop-q.result c.if-q-p.found c.first_from-q-in-loop-q.ensures.behind
    (λ k above below within. passes_not c.args.p k words (λ some. c.first_from-q-in-loop-q.ensures.none k above below (c.receivers-reach.ensures.all k (omega (arith, count, within)) some)))
    listed

pub returns : goal.returns
returns c =
    let count : c.count-count.result ≡ processors c.args.code.now =
    c.count-count.ensures.count ∙ (ap processors_of c.grid.ensures ∙ grid_count c.args.code.now c.args.layout.now c.requires.layout) in
    let words : ℕ → ℕ = word_count c.args.code.now (at_slots c.args.slots.now) c.args.items.now c.args.p in
    listed_all c.args.code.now c.args.p words c.count-count.result c.loop-q.q c.loop-q.found count (let past = c.loop-q-test.false in omega (arith, past)) c.loop-q.invariant
