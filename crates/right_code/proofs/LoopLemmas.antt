-- Plans have the groups of their flat program, and so no more loops in a group.
use Rattle.std.proofs.Common.{◌≡◌, ℕ, zero, suc, ◌+◌, ◌≤◌, Bool, true, false, List, [], ◌∷◌, refl, sym, ap, ◌∙◌, subst, arith}
use Rattle.std.specs.Prelude.{All, cond, fold, max}
use Rattle.std.specs.List.{AllByRecursion}
use Rattle.std.proofs.lemmas.List.Elements.{recursion_from_All}
use Rattle.std.proofs.lemmas.List.Sums.{sum_by-cons}
use Rattle.node_form.specs.declared.members.Member.{Member}
use Rattle.node_form.specs.declared.members.Member.TheVariants as member
use Rattle.node_form.specs.declared.tables.Tables.{Tables}
use Rattle.code_parts.specs.Uses.{is_turning}
use Rattle.comm_needs.specs.Needs.{planned}
use Rattle.comm_combine.specs.Merge.{neighbours_merged}
use Rattle.comm_combine.specs.Repeats.{repeats_dropped}
use Rattle.comm_early.specs.Send.{sent_early}
use Rattle.owed_tables.specs.of_pass_promises.Promises.{HasLoopsUpTo, loops_in}
use Rattle.compiled_runs.specs.of_plan_orders.Brings.{loops_among, most_loops}
use Rattle.zpl_claims.specs.Build.{Build}
use Rattle.compiled_runs.specs.of_zpl_compile.Compile.{if_asked, plan_of}

one_more : (one : Member) (group : List Member) →
    loops_in (one ∷ group) ≡ cond (is_turning one) 1 0 + loops_in group
one_more one group = sum_by-cons (λ one. cond (is_turning one) 1 0) one group

loops_are : (group : List Member) → loops_among group ≡ loops_in group
loops_are [] = refl
loops_are (member.Put array expr mask line ∷ group) =
    omega (arith, one_more (member.Put array expr mask line) group, loops_are group)
loops_are (member.Cell cell expr mask line ∷ group) =
    omega (arith, one_more (member.Cell cell expr mask line) group, loops_are group)
loops_are (member.Acc scalar operator expr mask line ∷ group) =
    omega (arith, one_more (member.Acc scalar operator expr mask line) group, loops_are group)
loops_are (member.OpenIf expr mask line ∷ group) =
    omega (arith, one_more (member.OpenIf expr mask line) group, loops_are group)
loops_are (member.Otherwise ∷ group) =
    omega (arith, one_more member.Otherwise group, loops_are group)
loops_are (member.CloseIf ∷ group) =
    omega (arith, one_more member.CloseIf group, loops_are group)
loops_are (member.OpenWhile expr mask line ∷ group) =
    omega (arith, one_more (member.OpenWhile expr mask line) group, loops_are group)
loops_are (member.CloseWhile ∷ group) =
    omega (arith, one_more member.CloseWhile group, loops_are group)
loops_are (member.OpenRepeat mask line ∷ group) =
    omega (arith, one_more (member.OpenRepeat mask line) group, loops_are group)
loops_are (member.Until expr ∷ group) =
    omega (arith, one_more (member.Until expr) group, loops_are group)

folded_within : (most least : ℕ) (groups : List (List Member)) → least ≤ most →
    AllByRecursion (λ group. loops_in group ≤ most) groups →
    fold (λ so_far members. max so_far (loops_among members)) least groups ≤ most
folded_within most least [] few all = few
folded_within most least (group ∷ groups) few all =
    folded_within most (max least (loops_among group)) groups
    (omega (arith, few, all.0, loops_are group)) all.1

pub most_within : (most : ℕ) (code : Tables) → HasLoopsUpTo most code → most_loops code ≤ most
most_within most code all =
    folded_within most 0 code.groups (omega arith)
    (recursion_from_All (λ group. loops_in group ≤ most) code.groups all)

-- ---- the passes over plans
groups_asked : (is : Bool) (pass : Tables → Tables) →
    ((code : Tables) → (pass code).groups ≡ code.groups) → (code : Tables) →
    (if_asked is pass code).groups ≡ code.groups
groups_asked true pass same code = same code
groups_asked false pass same code = refl

pub plan_groups : (build : Build) (flat : Tables) → (plan_of build flat).groups ≡ flat.groups
plan_groups build flat =
    let one : Tables = planned build.grid flat in
    let two : Tables = if_asked build.options.redundant repeats_dropped one in
    let three : Tables = if_asked build.options.merge neighbours_merged two in
    groups_asked build.options.early (sent_early build.links) (λ code. refl) three
    ∙ groups_asked build.options.merge neighbours_merged (λ code. refl) two
    ∙ groups_asked build.options.redundant repeats_dropped (λ code. refl) one
