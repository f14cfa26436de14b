use Rattle.std.proofs.Common.{◌≡◌, ◌<◌, ◌∙◌, Some, arith, length, rules, subst}
use Rattle.std.specs.Prelude.{slice_get, slice_set}
use Rattle.std.proofs.lemmas.List.{length-set}
use Rattle.node_check.specs.Strike.{AreMarks, IsLostAt, IsMarkAt}
use Rattle.node_check.proofs.StrikeLemmas.{at_mark, set_marks}
use Rattle.node_check.proofs.strikes.carry.Goals as goal

pub loop-i-preserved : goal.loop-i-preserved
loop-i-preserved c =
    let code = c.args.tables.now in
    let i = c.loop-i.i in
    let row = c.unwrap.result.now in
    let old = c.loop-i.marks.items in
    let here : slice_get code.code i ≡ Some row = search rules in
    let below : i < length old = omega (arith, c.loop-i.invariant.many) in
    let mine : IsMarkAt code i c.index_mut.result.now =
    subst (λ o. IsMarkAt code i o)
    (at_mark old i c.index_mut.result.now below c.index_mut.ensures.value)
    (c.loop-i.invariant.marks i) in
    let current : IsLostAt code i c.in_ok-current.current =
    c.in_ok-current.ensures.current code i mine c.loop-i.invariant.current in
    let marks : AreMarks code (slice_set old i c.enter.new.slot) =
    set_marks (IsMarkAt code) old i c.enter.new.slot c.loop-i.invariant.marks
    (c.in_ok-current.ensures.slot code i mine c.loop-i.invariant.current) in
    record {
      marks = c.leave-current.ensures.marks i here current marks;
      current = c.leave-current.ensures.current i here current;
      many =
          c.leave-current.ensures.many
          ∙ (length-set old i c.enter.new.slot ∙ c.loop-i.invariant.many);
    }
