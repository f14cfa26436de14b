use Rattle.std.proofs.Common.{◌≡◌, ◌≤◌, length, take, sym, ◌∙◌, arith}
use Rattle.std.proofs.lemmas.Bool.{eqb-false, eqb-true}
use Rattle.lower_regions.specs.of_zpl_lowering.Hoist.{past_dims}
use Rattle.lower_operators.proofs.RemapLemmas.{outside-none, outside-some}
use Rattle.lower_operators.proofs.remapping.outside_row.Goals as goal

pub returns-in_ok-put : goal.returns-in_ok-put
returns-in_ok-put c =
    let storage = c.args.storage.now in
    let words = c.in_ok-words.words in
    let none : length words.items ≡ 0 =
    sym words.ok.0 ∙ eqb-true words.len 0 (sym c.is_empty.ensures ∙ c.if-is_empty.true) in
    c.of.ensures
    ∙ outside-none (past_dims c.args.first (take storage.rank storage.dims)) words.items
    c.put.new.words.items c.in_ok-words.ensures none c.in_ok-put.ensures

pub returns-else-is_empty : goal.returns-else-is_empty
returns-else-is_empty c =
    let storage = c.args.storage.now in
    let words = c.in_ok-words.words in
    let some : 1 ≤ length words.items =
    omega (arith, words.ok.0, eqb-false words.len 0 (sym c.is_empty.ensures ∙ c.if-is_empty.false))
    in
    c.of-else-is_empty.ensures
    ∙ outside-some (past_dims c.args.first (take storage.rank storage.dims)) words.items
    c.in_ok-words.ensures some
