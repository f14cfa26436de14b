use Rattle.std.proofs.Common.{◌≡◌, ℕ, ◌+◌, length, Bool, false, sym, ap, ◌∙◌, subst, arith}
use Rattle.grid_meaning.specs.of_grid_layout.Grid.{processors_of}
use Rattle.grid_meaning.specs.Delivery.{border_targets}
use Rattle.grid_meaning.specs.Local.{processors}
use Rattle.node_stages.proofs.PieceLemmas.{grid_count}
use Rattle.node_stages.proofs.WalkLemmas.{Walked, fails_itself, fails_without, found_behind, found_there, is_partner, passes, passes_not, walk_by, walk_from, walk_on, walk_past}
use Rattle.node_stages.proofs.edges.nth_edge_sender.Goals as goal
use Rattle.node_stages.proofs.edges.nth_edge_sender.Goals.{then-q-p+then-has_edge_words+else-left-eq0, else-q-p, else-q-p-via-then-q-p+else-has_edge_words, else-q-p-via-else-q-p}

pub loop-q-init : goal.loop-q-init
loop-q-init c =
    let count : c.count-count.result ≡ processors c.args.code.now =
    c.count-count.ensures.count ∙ (ap processors_of c.grid.ensures ∙ grid_count c.args.code.now c.args.layout.now c.requires.layout) in
    let words : ℕ → ℕ = λ q. length (border_targets c.args.code.now c.args.kind c.args.region.now c.args.shift.now q c.args.p) in
    walk_from (is_partner c.args.p words) c.count-count.result c.first_from-q.result c.args.place
    (λ k above below within. passes_not c.args.p k words (λ some. c.first_from-q.ensures.none k above below (c.edge_senders-reach.ensures.all k (omega (arith, count, within)) some)))

pub has_edge_words-requires-clause-owner : goal.has_edge_words-requires-clause-owner
has_edge_words-requires-clause-owner c =
    let count : c.count-count.result ≡ processors c.args.code.now =
    c.count-count.ensures.count ∙ (ap processors_of c.grid.ensures ∙ grid_count c.args.code.now c.args.layout.now c.requires.layout) in
    omega arith

pub returns-then-left-eq0 : goal.returns-then-left-eq0
returns-then-left-eq0 c =
    let count : c.count-count.result ≡ processors c.args.code.now =
    c.count-count.ensures.count ∙ (ap processors_of c.grid.ensures ∙ grid_count c.args.code.now c.args.layout.now c.requires.layout) in
    let words : ℕ → ℕ = λ q. length (border_targets c.args.code.now c.args.kind c.args.region.now c.args.shift.now q c.args.p) in
    found_there c.args.code.now c.args.p words c.count-count.result c.loop-q.q c.args.place count c.loop-q-test.true
    (passes c.args.p c.loop-q.q words c.has_edge_words.result c.if-q-p.true c.has_edge_words.ensures c.if-has_edge_words.true)
    (subst (λ left. Walked (is_partner c.args.p words) c.count-count.result c.loop-q.q left c.args.place) c.if-left-eq0.true c.loop-q.invariant)

pub loop-q-preserved : goal.loop-q-preserved
loop-q-preserved c =
    let count : c.count-count.result ≡ processors c.args.code.now =
    c.count-count.ensures.count ∙ (ap processors_of c.grid.ensures ∙ grid_count c.args.code.now c.args.layout.now c.requires.layout) in
    let words : ℕ → ℕ = λ q. length (border_targets c.args.code.now c.args.kind c.args.region.now c.args.shift.now q c.args.p) in
    let test : ℕ → Bool = is_partner c.args.p words in
    let q = c.loop-q.q in
    let walked : Walked test c.count-count.result (q + 1) c.if-q-p.left c.args.place = elim c.if-q-p.branch [
      | then-q-p+then-has_edge_words+else-left-eq0 w ↦
          let other = w.if-left-eq0.false in
          subst (λ left. Walked test c.count-count.result (q + 1) left c.args.place) (sym w.left-is)
          (walk_past test c.count-count.result q c.loop-q.left c.args.place c.loop-q-test.true
          (passes c.args.p q words w.has_edge_words.result w.if-q-p.true w.has_edge_words.ensures w.if-has_edge_words.true) (omega (arith, other)) c.loop-q.invariant)
      | else-q-p w ↦
          let fails : test q ≡ false = elim w.else-q-p.branch [
            | else-q-p-via-then-q-p+else-has_edge_words v ↦ fails_without c.args.p q words v.has_edge_words.result v.has_edge_words.ensures v.if-has_edge_words.false
            | else-q-p-via-else-q-p v ↦ fails_itself c.args.p q words v.if-q-p.false
          ] in
          subst (λ left. Walked test c.count-count.result (q + 1) left c.args.place) (sym w.left-is)
          (walk_by test c.count-count.result q c.loop-q.left c.args.place c.loop-q-test.true fails c.loop-q.invariant)
    ] in
    walk_on test c.count-count.result (q + 1) c.first_from-q-in-loop-q.result c.if-q-p.left c.args.place c.first_from-q-in-loop-q.ensures.behind
    (λ k above below within. passes_not c.args.p k words (λ some. c.first_from-q-in-loop-q.ensures.none k above below (c.edge_senders-reach.ensures.all k (omega (arith, count, within)) some)))
    walked

pub returns : goal.returns
returns c =
    let count : c.count-count.result ≡ processors c.args.code.now =
    c.count-count.ensures.count ∙ (ap processors_of c.grid.ensures ∙ grid_count c.args.code.now c.args.layout.now c.requires.layout) in
    let words : ℕ → ℕ = λ q. length (border_targets c.args.code.now c.args.kind c.args.region.now c.args.shift.now q c.args.p) in
    found_behind c.args.code.now c.args.p words c.count-count.result c.loop-q.q c.loop-q.left c.args.place count (let past = c.loop-q-test.false in omega (arith, past)) c.loop-q.invariant
