use Rattle.std.proofs.Common.{rules, ◌≡◌, ◌<◌, ◌++◌, get_or, length, drop, w64, to_z, of_z, pos, sym, ap, ◌∙◌, arith, append_assoc}
use Rattle.array_prints.specs.RowText.{line_text, value_text}
use Rattle.array_prints.proofs.PartLemmas.{line_starts, line_step, rest_text}
use Rattle.array_prints.proofs.prints.push_line.Goals as goal

pub loop-i-init : goal.loop-i-init
loop-i-init c =
    let values = c.args.values.now in
    let text = value_text c.args.truth in
    let some : 0 < length values = search rules in
    let back : to_z w64 (of_z w64 (get_or values 0 (pos 0))) ≡ get_or values 0 (pos 0) = search rules in
    ap (λ list. list ++ rest_text text (drop 1 values)) (c.in_ok-push_value.ensures ∙ ap (λ v. c.args.into.now.items ++ text v) back)
    ∙ (append_assoc c.args.into.now.items (text (get_or values 0 (pos 0))) (rest_text text (drop 1 values))
    ∙ ap (λ list. c.args.into.now.items ++ list) (sym (line_starts c.args.truth values some)))

pub loop-i-preserved : goal.loop-i-preserved
loop-i-preserved c =
    let values = c.args.values.now in
    let text = value_text c.args.truth in
    let back : to_z w64 (of_z w64 (get_or values c.loop-i.i (pos 0))) ≡ get_or values c.loop-i.i (pos 0) = search rules in
    line_step text values c.loop-i.i c.loop-i.into.items c.push.new.self.items c.push_value-in-loop-i.new.into.items
    (c.args.into.now.items ++ line_text c.args.truth values) (omega arith) c.loop-i.invariant (search rules)
    (c.in_ok-push_value-2.ensures ∙ ap (λ v. c.push.new.self.items ++ text v) back)
