use Rattle.std.proofs.Common.{◌≡◌, ◌∙◌, refl, sym, ap, ◌+◌, ◌-◌, ◌*◌, ◌++◌, take, drop, List, ℤ, Vec, Global}
use Rattle.remap_plan.specs.Request.{is_home}
use Rattle.remap_plan.specs.Tuples.{tuple_at}
use Rattle.remap_plan.proofs.RequestLemmas.{asked_more, asked_same, range_is_tuple}
use Rattle.remap_plan.proofs.requests.asks.Goals as goal
use Rattle.remap_plan.proofs.requests.asks.Goals.{then-is_home+in_ok-append, else-is_home}

abbrev items_of : Vec ℤ Global → List ℤ
items_of v = v.items

pub loop-i-preserved : goal.loop-i-preserved
loop-i-preserved c =
    let p = is_home c.args.layout.now c.args.array c.args.to in
    let k = c.from-rank.result in
    let i = c.loop-i.i in
    let xs = c.args.wanted.now in
    let old = c.args.into.now.items in
    let items = c.loop-i.into.items in
    let new = c.if-is_home.into.items in
    let range : take (i * k + k - i * k) (drop (i * k) xs) ≡ tuple_at k i xs = range_is_tuple k i xs _ refl in
    let test = c.is_home.ensures ∙ ap p range in
    elim c.if-is_home.branch [
      | then-is_home+in_ok-append w ↦
          asked_more p k i xs old items new c.loop-i.invariant (sym test ∙ w.if-is_home.true) (ap items_of w.into-is ∙ (w.in_ok-append.ensures.ok ∙ ap (λ t. items ++ t) range))
      | else-is_home w ↦ asked_same p k i xs old items new c.loop-i.invariant (sym test ∙ w.if-is_home.false) (ap items_of w.into-is)
    ]
