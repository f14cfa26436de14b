use Rattle.std.proofs.Common.{◌≡◌, ◌∙◌, ap, List, map, rules, ℕ}
use Rattle.std.specs.Prelude.{Option}
use Rattle.fuse_contract.specs.Contracting.{member_contracted, word_contracted}
use Rattle.fuse_contract.specs.Naming.{cell_at, cells_behind, cells_from}
use Rattle.fuse_contract.proofs.StateLemmas.{made_is}
use Rattle.fuse_contract.proofs.cells.contract.Goals as goal

pub returns : goal.returns
returns c =
    let states : c.deref.result.now ≡ c.in_ok-states.states.items = search rules in
    let cells : c.deref-2.result.now ≡ c.in_ok-of_arrays.field-0.of_arrays.items = search rules in
    let again : c.deref-3.result.now ≡ c.in_ok-of_arrays.field-0.of_arrays.items = search rules in
    made_is c.args.tables c.in_ok-states.states.items c.in_ok-of_arrays.field-0.of_arrays.items
    c.in_ok-of_arrays.field-0.count c.in_ok-exprs.exprs c.in_ok-groups.groups
    c.in_ok-states.ensures
    (c.in_ok-of_arrays.ensures.of_arrays ∙ ap (cells_from c.args.tables.cells) states)
    (c.in_ok-of_arrays.ensures.count ∙ ap (cells_behind c.args.tables.cells) states)
    (c.in_ok-exprs.ensures ∙ ap (λ (l : List (Option ℕ)). map (map (word_contracted (cell_at l)))
    c.args.tables.exprs) cells)
    (c.in_ok-groups.ensures ∙ ap (λ (l : List (Option ℕ)). map (map (member_contracted (cell_at l)))
    c.args.tables.groups) again)
