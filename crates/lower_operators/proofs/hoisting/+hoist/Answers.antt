use Rattle.std.proofs.Common.{◌++◌, ◌∷◌, map, sym, ap, ◌∙◌}
use Rattle.node_form.specs.Expression.{Operation, words_of}
use Rattle.lower_regions.specs.of_zpl_lowering.Hoist.{all_hoisted, hoisted}
use Rattle.lower_regions.specs.of_lower_draft.Drafted.{grown}
use Rattle.lower_operators.specs.Code.{free_of, of_hoisted}
use Rattle.lower_operators.specs.View.{slate_of, slates_of}
use Rattle.lower_operators.proofs.GrowthLemmas.{hoisted_then}
use Rattle.lower_operators.proofs.hoisting.+hoist.Goals as goal

pub hoist-returns-in_ok-put-in-Binary-clause-rows :
    goal.hoist-returns-in_ok-put-in-Binary-clause-rows
hoist-returns-in_ok-put-in-Binary-clause-rows t c =
    let numbers = c.args.numbers.now in
    hoisted_then (Operation c.in-Binary.op) c.args.draft.now c.hoist-in-Binary.new.draft
    c.hoist-in-Binary-2.new.draft
    (hoisted numbers c.args.line (free_of c.args.draft.now.next) (slate_of c.in-Binary.left.now))
    (λ free. hoisted numbers c.args.line free (slate_of c.in-Binary.right.now))
    c.in_ok-hoist-in-Binary.ensures.rows c.in_ok-hoist-in-Binary-2.ensures.rows
    ∙ sym (ap (λ s. grown c.args.draft.now (of_hoisted (hoisted numbers c.args.line
    (free_of c.args.draft.now.next) (slate_of s)))) c.in-Binary.is)

pub hoist-returns-in_ok-put-in-Remapped-clause-rows :
    goal.hoist-returns-in_ok-put-in-Remapped-clause-rows
hoist-returns-in_ok-put-in-Remapped-clause-rows t c =
    let numbers = c.args.numbers.now in
    let all = all_hoisted numbers c.args.line (free_of c.args.draft.now.next)
    (slates_of c.in-Remapped.indices.now) in
    c.in_ok-word-in-Remapped.ensures.rows c.args.draft.now all
    c.in_ok-hoist_indices-in-Remapped.ensures.rows
    (c.in_ok-hoist_indices-in-Remapped.ensures.left
    ∙ ap (λ l. l ++ map words_of all.left) c.new-rows.ensures.items)
    ∙ sym (ap (λ s. grown c.args.draft.now (of_hoisted (hoisted numbers c.args.line
    (free_of c.args.draft.now.next) (slate_of s)))) c.in-Remapped.is)

pub hoist-returns-in_ok-put-in-Remapped-clause-left :
    goal.hoist-returns-in_ok-put-in-Remapped-clause-left
hoist-returns-in_ok-put-in-Remapped-clause-left t c =
    let numbers = c.args.numbers.now in
    let all = all_hoisted numbers c.args.line (free_of c.args.draft.now.next)
    (slates_of c.in-Remapped.indices.now) in
    c.in_ok-put-in-Remapped.ensures
    ∙ ap (λ l. c.args.words.now.items ++ l)
    (c.in_ok-word-in-Remapped.ensures.left c.args.draft.now all
    c.in_ok-hoist_indices-in-Remapped.ensures.rows
    (c.in_ok-hoist_indices-in-Remapped.ensures.left
    ∙ ap (λ l. l ++ map words_of all.left) c.new-rows.ensures.items))
    ∙ sym (ap (λ s. c.args.words.now.items ++ words_of (hoisted numbers c.args.line
    (free_of c.args.draft.now.next) (slate_of s)).left) c.in-Remapped.is)

pub hoist_indices-returns-in_ok-hoist_indices-in-Then-clause-rows :
    goal.hoist_indices-returns-in_ok-hoist_indices-in-Then-clause-rows
hoist_indices-returns-in_ok-hoist_indices-in-Then-clause-rows t c =
    let numbers = c.args.numbers.now in
    hoisted_then (λ one others. one ∷ others) c.args.draft.now c.hoisted.new.draft
    c.hoist_indices.new.draft
    (hoisted numbers c.args.line (free_of c.args.draft.now.next) (slate_of c.in-Then.first.now))
    (λ free. all_hoisted numbers c.args.line free (slates_of c.in-Then.rest.now))
    c.in_ok-row-in-Then.ensures.rows c.in_ok-hoist_indices-in-Then.ensures.rows
    ∙ sym (ap (λ s. grown c.args.draft.now (of_hoisted (all_hoisted numbers c.args.line
    (free_of c.args.draft.now.next) (slates_of s)))) c.in-Then.is)
