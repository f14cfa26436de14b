use Rattle.std.proofs.Common.{◌≡◌, ◌<◌, inl, inr, [], length, ap, ◌∙◌, arith}
use Rattle.grid_meaning.specs.of_grid_layout.Grid.{processors_of}
use Rattle.grid_meaning.specs.Exchange.{places_of}
use Rattle.grid_meaning.specs.Local.{processors}
use Rattle.node_stages.specs.Slots.{at_slots}
use Rattle.node_stages.proofs.PieceLemmas.{first_or_rest, grid_count, none_left}
use Rattle.node_stages.proofs.exchanges.receivers.Goals as goal

pub loop-item-preserved : goal.loop-item-preserved
loop-item-preserved c = record {
  sound = c.with-reach.ensures.sound;
  all = λ q below some.
      let count : c.count-count.result ≡ processors c.args.code.now =
      c.count-count.ensures.count ∙ (ap processors_of c.grid.ensures ∙ grid_count c.args.code.now c.args.layout.now c.requires.layout) in
      let most = c.count-count.ensures.few in
      let few : q < 64 = omega (arith, count, most, below) in
      elim (c.loop-item.invariant.all q below some) [
        | inl lies ↦ inl (c.with-reach.ensures.mine q few lies)
        | inr rest ↦ elim (first_or_rest (λ item. length (places_of c.args.code.now (at_slots c.args.slots.now) c.args.p q item)) c.args.items.now c.loop-item.item-index
            (record { array = 0; slot = 0; shift = [] }) c.loop-item-test.true rest) [
              | inl here ↦ inl (c.with-reach.ensures.other q few (c.item_receivers-more.ensures.all q below here))
              | inr later ↦ inr later
            ]
      ];
}

pub returns-clause-all : goal.returns-clause-all
returns-clause-all c = λ q below some. elim (c.loop-item.invariant.all q below some) [
  | inl lies ↦ lies
  | inr rest ↦ absurd (omega (arith, none_left (λ item. length (places_of c.args.code.now (at_slots c.args.slots.now) c.args.p q item)) c.args.items.now c.loop-item.item-index (omega arith) rest))
]
