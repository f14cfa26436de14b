use Rattle.std.proofs.Common.{rules, ◌≡◌, ◌++◌, [], ◌∷◌, pos, arith, ap, subst, ◌∙◌}
use Rattle.std.specs.Prelude.{All, unwrap_or}
use Rattle.zpl_nums.specs.Integer.{IsInteger}
use Rattle.save_lines.specs.declared.lines.SavedLine.TheVariants.{Cells}
use Rattle.save_lines.specs.Line.{saved_text}
use Rattle.save_lines.proofs.Appends.{by_ok}
use Rattle.grid_save.proofs.WriteLemmas.{value_more, values_end, writes_one}
use Rattle.grid_save.proofs.states.add_cells.Goals as goal

pub loop-i-preserved : goal.loop-i-preserved
loop-i-preserved c =
    let is : c.push.new.self.items ≡ c.loop-i.values.items ++ unwrap_or c.cell.result (pos 0) ∷ [] = search rules in
    value_more c.args.local.now.local.cells c.loop-i.values.items c.push.new.self.items c.loop-i.i c.cell.result
    (omega (arith, c.loop-i-test.true, c.requires)) c.cell.ensures c.loop-i.invariant is

pub returns : goal.returns
returns c =
    let cells = c.args.local.now.local.cells in
    let all = values_end cells c.loop-i.values.items c.loop-i.i (omega (arith, c.loop-i-test.false, c.requires)) c.loop-i.invariant in
    let range : All IsInteger cells = subst (All IsInteger) (c.as_slice.ensures.value ∙ all) c.values_are_integers.ensures in
    by_ok c.write_line.result _ _ c.write_line.ensures (λ last. writes_one c.args.text.now.items c.write_line.new.into.items (Cells cells) range
    (last ∙ ap (λ values. c.args.text.now.items ++ saved_text (Cells values ∷ [])) (c.of.ensures ∙ all)))
