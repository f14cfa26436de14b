-- The passes on plans leave no loops that can be joined, where there were none.
use Rattle.std.proofs.Common.{◌≡◌, inl, inr, refl, ap, ◌∙◌, ℕ, Bool, true, false}
use Rattle.std.proofs.Common.{List, [], ◌∷◌, ◌++◌, append-nil}
use Rattle.std.specs.Prelude.{flat_map, map, Option, Some, None}
use Rattle.std.specs.List.{AllByRecursion}
use Rattle.std.proofs.lemmas.Grind.{flat_map-append}
use Rattle.node_form.specs.declared.arrays.Item.{Item}
use Rattle.node_form.specs.declared.instructions.Instr.{Instr}
use Rattle.node_form.specs.declared.instructions.Instr.TheVariants as instr
use Rattle.node_form.specs.declared.tables.Tables.{Tables}
use Rattle.code_parts.specs.Fused.{IsFused, is_fused}
use Rattle.code_parts.specs.Stretch.{ends_stretch}
use Rattle.code_parts.proofs.FusedLemmas.{fused_either_way}
use Rattle.code_parts.proofs.WalkLemmas.{every_append}
use Rattle.pass_sizes.specs.of_plan_form.Rewrite.{rows_by}
use Rattle.pass_sizes.specs.of_plan_form.Units.{Single, unit_of, unit_rows, units_of}
use Rattle.pass_sizes.proofs.of_plan_form.PassLemmas as pass
use Rattle.pass_sizes.specs.of_comm_needs.Needs.{is_voted_on, needed_alone, needs_of, planned, row_with_needs}
use Rattle.pass_sizes.specs.of_comm_needs.Needs.{vote_if, with_needs}
use Rattle.pass_sizes.proofs.of_comm_needs.PlanLemmas as plans
use Rattle.pass_sizes.specs.of_comm_combine.Merge.{neighbours_merged, pending_behind, pending_units, row_units}
use Rattle.pass_sizes.specs.of_comm_combine.Merge.{units_merged}
use Rattle.pass_sizes.specs.of_comm_combine.Repeats.{exchange_if_any, repeats_dropped}
use Rattle.pass_sizes.proofs.of_comm_combine.DropLemmas as drops
use Rattle.pass_sizes.proofs.of_comm_combine.MergeLemmas.{closed_rows_are}
use Rattle.pass_sizes.proofs.of_comm_combine.ReachLemmas.{units_walked}
use Rattle.pass_parts.proofs.FusedPlans.{stays_fused}
use Rattle.pass_parts.proofs.NearLemmas.{IsNearUnit, StepsNear}

-- ---- exchanges and votes that are added
alone_near : (items : List Item) → AllByRecursion IsNearUnit (map needed_alone items)
alone_near [] = tt
alone_near (item ∷ items) = (tt, alone_near items)

vote_near : (b : Bool) (group : ℕ) → AllByRecursion IsNearUnit (vote_if b group)
vote_near true group = (refl, tt)
vote_near false group = tt

needs_near : (tables : Tables) (row : Instr) → ends_stretch row ≡ false
    → StepsNear row (row_with_needs tables row)
needs_near tables (instr.Loop slot group) ends =
    inr (
      refl,
      record {
        before = map needed_alone (needs_of tables slot group);
        after = vote_if (is_voted_on tables group) group;
        is = append-nil (map needed_alone (needs_of tables slot group)
            ++ Single (instr.Loop slot group) ∷ vote_if (is_voted_on tables group) group);
        near_before = alone_near (needs_of tables slot group);
        near_after = vote_near (is_voted_on tables group) group;
      },
    )
needs_near tables (instr.Start exchange) ends = inl (refl, (tt, tt))
needs_near tables (instr.Finish exchange) ends = inl (refl, tt)
needs_near tables (instr.Vote group) ends = inl (refl, (refl, tt))
needs_near tables (instr.TreeVote group) ends = inl (refl, (refl, tt))
needs_near tables row ends =
    inr (refl, record { before = []; after = []; is = refl; near_before = tt; near_after = tt })

same_rows : (tables : Tables) (rows : List Instr)
    → rows_by tables (flat_map (with_needs tables)) rows
    ≡ pass.closed_rows {F = plans.Nothing} tables tt (plans.step tables) plans.learn plans.close rows
same_rows tables [] = refl
same_rows tables (row ∷ rows) =
    ap (flat_map unit_rows)
    (flat_map-append (with_needs tables) (unit_of tables row) (units_of tables rows))
    ∙ (flat_map-append unit_rows (row_with_needs tables row)
    (flat_map (with_needs tables) (units_of tables rows))
    ∙ ap (λ l. flat_map unit_rows (row_with_needs tables row) ++ l) (same_rows tables rows))

pub planned_fused : (grid : List ℕ) (tables : Tables) → IsFused tables
    → IsFused (planned grid tables)
planned_fused grid tables fused =
    (fused_either_way (planned grid tables)).0
    (ap is_fused
    (ap (λ (plan : Tables). record plan { grid = grid })
    (units_walked {F = plans.Nothing} tables tt (plans.step tables) plans.learn plans.close refl
    (flat_map (with_needs tables)) (same_rows tables)))
    ∙ stays_fused {F = plans.Nothing} tables tt (plans.step tables) plans.learn plans.close refl
    (λ facts. tt) (λ facts row ends. needs_near tables row ends)
    ((fused_either_way tables).1 fused))

-- ---- exchanges that are left out
any_near : (items : List Item) → AllByRecursion IsNearUnit (exchange_if_any items)
any_near [] = tt
any_near (item ∷ items) = (tt, tt)

drops_near : (tables : Tables) (known : List Item) (row : Instr) → ends_stretch row ≡ false
    → StepsNear row (drops.step tables known row)
drops_near tables known (instr.Start exchange) ends = inl (refl, any_near _)
drops_near tables known (instr.Finish exchange) ends = inl (refl, tt)
drops_near tables known (instr.Vote group) ends = inl (refl, (refl, tt))
drops_near tables known (instr.TreeVote group) ends = inl (refl, (refl, tt))
drops_near tables known row ends =
    inr (refl, record { before = []; after = []; is = refl; near_before = tt; near_after = tt })

pub dropped_fused : (plan : Tables) → IsFused plan → IsFused (repeats_dropped plan)
dropped_fused plan fused =
    (fused_either_way (repeats_dropped plan)).0
    (ap is_fused
    (units_walked {F = List Item} plan [] (drops.step plan) (drops.learn plan) drops.close refl
    (drops.rewriting plan []) (drops.all_rows plan []))
    ∙ stays_fused {F = List Item} plan [] (drops.step plan) (drops.learn plan) drops.close refl
    (λ known. tt) (drops_near plan) ((fused_either_way plan).1 fused))

-- ---- exchanges that become one
pending_near : (pending : Option (List Item)) → AllByRecursion IsNearUnit (pending_units pending)
pending_near None = tt
pending_near (Some items) = (tt, tt)

merges_near : (pending : Option (List Item)) (row : Instr) → ends_stretch row ≡ false
    → StepsNear row (row_units pending row)
merges_near pending (instr.Start exchange) ends = inl (refl, tt)
merges_near pending (instr.Finish exchange) ends = inl (refl, tt)
merges_near pending (instr.Vote group) ends =
    inl (
      refl,
      every_append IsNearUnit (pending_units pending) (Single (instr.Vote group) ∷ [])
          (pending_near pending) (refl, tt),
    )
merges_near pending (instr.TreeVote group) ends =
    inl (
      refl,
      every_append IsNearUnit (pending_units pending) (Single (instr.TreeVote group) ∷ [])
          (pending_near pending) (refl, tt),
    )
merges_near pending row ends =
    inr (
      refl,
      record {
        before = pending_units pending;
        after = [];
        is = refl;
        near_before = pending_near pending;
        near_after = tt;
      },
    )

pub merged_fused : (plan : Tables) → IsFused plan → IsFused (neighbours_merged plan)
merged_fused plan fused =
    (fused_either_way (neighbours_merged plan)).0
    (ap is_fused
    (units_walked {F = Option (List Item)} plan None row_units (pending_behind plan)
    pending_units refl units_merged (λ rows. closed_rows_are plan None rows))
    ∙ stays_fused {F = Option (List Item)} plan None row_units (pending_behind plan)
    pending_units refl pending_near merges_near ((fused_either_way plan).1 fused))
