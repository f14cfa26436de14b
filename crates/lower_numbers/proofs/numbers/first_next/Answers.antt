use Rattle.std.proofs.Common.{◌≡◌, ◌+◌, min, ◌^◌, ◌-◌, sym, ◌∙◌, ap, ap₂, length}
use Rattle.zpl_tree.specs.View.{syntax_of}
use Rattle.expanded_counts.specs.of_zpl_names.Expansion.{expanded_arrays, expanded_copies, expanded_of}
use Rattle.lower_draft.specs.of_zpl_lowering.Program.{reads_round}
use Rattle.lower_numbers.specs.Arrays.{first_numbers, global_arrays, own_arrays}
use Rattle.lower_numbers.proofs.SumLemmas.{behind_is, exact}
use Rattle.lower_numbers.proofs.InstanceLemmas.{arrays_are, copies_are}
use Rattle.lower_numbers.proofs.numbers.first_next.Goals as goal

pub returns : goal.returns
returns c =
    let program = syntax_of c.args.text.now.program.now in
    let globals = global_arrays program in
    let own = expanded_of program own_arrays in
    let copies = expanded_of program (reads_round program) in
    let arrays : c.in_ok-arrays.arrays ≡ length (expanded_arrays program) =
    exact (globals + own) c.in_ok-arrays.arrays
    (c.in_ok-arrays.ensures.same ∙ c.saturating_add.ensures
    ∙ ap₂ (λ a b. min (a + b) (2 ^ 64 - 1)) c.in_ok-globals.ensures
    (ap (λ counts. counts.arrays) c.in_ok-counts.ensures)
    ∙ behind_is globals own) c.in_ok-arrays.ensures.small
    ∙ sym (arrays_are program c.requires.grammar c.requires.faultless
    (c.counts_add_up.ensures.calls program)) in
    let reads : c.in_ok-copies.copies ≡ length (expanded_copies program) =
    exact copies c.in_ok-copies.copies
    (c.in_ok-copies.ensures.same ∙ ap (λ counts. counts.copies) c.in_ok-counts.ensures)
    c.in_ok-copies.ensures.small
    ∙ sym (copies_are program c.requires.grammar c.requires.faultless
    (c.counts_add_up.ensures.calls program)) in
    c.in_ok-next.ensures ∙ ap₂ first_numbers arrays reads
