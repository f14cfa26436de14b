-- Every row of code that fits has its order; and so has every run.
use Rattle.std.proofs.Common.{◌+◌, ◌*◌, ◌<◌, ◌++◌, ◌∷◌, [], ◌∙◌, length, length-append, ◌≡◌, ◌≢◌, ℕ, List, drop, filter_map, take, All, slice_get, Option, Some, None, option_map, refl, ap, subst, arith}
use Rattle.std.specs.Prelude.{IsNone}
use Rattle.std.specs.Option.{IsSomeAnd}
use Rattle.std.proofs.lemmas.List.{take-append-drop}
use Rattle.std.proofs.lemmas.List.Elements.{All-append, All-nil}
use Rattle.node_form.specs.Fits.{Fits, FitsInstr, FitsRemap, IsIndexArray}
use Rattle.node_form.specs.declared.arrays.ArrayRow.{ArrayRow}
use Rattle.node_form.specs.declared.instructions.Instr.{Instr}
use Rattle.node_form.specs.declared.instructions.Instr.TheVariants as instr
use Rattle.node_form.specs.declared.tables.Tables.{Tables}
use Rattle.grid_meaning.specs.Grid.{IsCapacity}
use Rattle.grid_meaning.specs.Remap as remap
use Rattle.grid_meaning.proofs.RemapLemmas.{IsOther, parts_apart}
use Rattle.row_runs.specs.Run.{Does}
use Rattle.plan_meaning.specs.Abreast.{start_abreast}
use Rattle.plan_meaning.specs.Act.{found, plan_rows, plan_run}
use Rattle.plan_meaning.specs.Messages.{remapped}
use Rattle.plan_orders.specs.Brings.{GoesWell, HasOrder, HaveOrders, IsFollowed, in_front, row_most}
use Rattle.plan_orders.specs.InStep.{ComesInStep, least_moves, run_most, stops_within}
use Rattle.plan_orders.proofs.BeginLemmas.{start_never}
use Rattle.grid_links.specs.Machine.{Awaits, Goes, Takes}
use Rattle.grid_links.specs.declared.messages.Message.{Message}
use Rattle.grid_meaning.specs.Local.{Local, processors, start_local}
use Rattle.grid_meaning.specs.State.{HasThree, IsLocal, NextHasThree}
use Rattle.grid_meaning.specs.Turn.{act, fed}
use Rattle.plan_orders.proofs.AgreeLemmas.{fold_ordered, tree_fold_ordered, tree_vote_ordered, vote_ordered}
use Rattle.plan_orders.proofs.ControlLemmas.{dims_ordered, end_ordered, fits_ordered, fix_ordered, formed_ordered, jump_ordered, need_ordered, same_ordered, set_ordered, trap_ordered, unless_ordered}
use Rattle.plan_orders.proofs.LoopRowLemmas.{loop_ordered}
use Rattle.plan_orders.proofs.MessageLemmas.{edge_ordered, finish_ordered, flood_ordered, gather_ordered, part_ordered, scan_ordered, start_ordered}
use Rattle.plan_orders.proofs.PlanLemmas.{Arrives, arrive_first, long_rows}
use Rattle.plan_orders.proofs.PrintLemmas.{clear_ordered, number_ordered, print_ordered, room_ordered, truth_ordered}
use Rattle.plan_orders.proofs.RemapRowLemmas.{remapped_well}
use Rattle.plan_orders.proofs.StartLemmas.{Reach, in_step, reach_limits, reach_on, start_reach}
use Rattle.plan_orders.proofs.TestLemmas.{all_at, no_room}

-- ---- the index arrays of a remap read are others than its target
remap_apart : (code : Tables) (array slot from : ℕ) (parts : List (Option ℕ)) (row : ArrayRow)
    → FitsInstr code (instr.Remap array slot from parts) → slice_get code.arrays from ≡ Some row
    → All (λ part. part ≢ array) (filter_map (λ part. part) parts)
remap_apart code array slot from parts row fits is =
    let fit : FitsRemap code fits.rank array parts row =
    subst (λ (o : Option ArrayRow). IsSomeAnd o (FitsRemap code fits.rank array parts)) is
    fits.fit.3 in
    parts_apart array parts
    (subst (All (IsOther array)) (take-append-drop row.rank parts)
    (All-append (IsOther array) (take row.rank parts) (drop row.rank parts)
    (λ i d within. given _ (fit.given i d within))
    (λ i d within. absent _ (fit.absent i d within))))
  where
    given : (part : Option ℕ) → IsSomeAnd part (IsIndexArray code fits.rank array)
        → IsOther array part
    given None there = tt
    given (Some part) there = there.2

    absent : (part : Option ℕ) → IsNone part → IsOther array part
    absent None there = tt
    absent (Some part) there = cc

module _ (code : Tables) (links : Option ℕ) (capable : IsCapacity links) where
  remap_ordered : (n at : ℕ) (next : Option Instr) (array slot from : ℕ)
      (parts : List (Option ℕ)) → FitsInstr code (instr.Remap array slot from parts)
      → slice_get code.code at ≡ Some (instr.Remap array slot from parts)
      → HasOrder code links n at (instr.Remap array slot from parts) next
  remap_ordered n at next array slot from parts fits here all open_now =
      by (slice_get code.arrays from) refl
    where
      by : (row : Option ArrayRow) → slice_get code.arrays from ≡ row
          → GoesWell code links n at all (Does (found row (λ row.
          remapped code (λ p. remap.remapped code p array slot from
          (filter_map (λ part. part) parts) row) all)))
      by None is = tt
      by (Some row) is =
          remapped_well code links at array slot from (filter_map (λ part. part) parts) row
          (instr.Remap array slot from parts) here
          (λ p. ap (option_map (remap.remapped code p array slot from
          (filter_map (λ part. part) parts))) is)
          (remap_apart code array slot from parts row fits is) all n capable

  row_ordered : (n at : ℕ) (row : Instr) (next : Option Instr) → FitsInstr code row
      → IsFollowed code at next → slice_get code.code at ≡ Some row
      → HasOrder code links n at row next
  row_ordered n at (instr.Set scalar expr line) next fits followed here =
      set_ordered code links n at next scalar expr line here
  row_ordered n at (instr.Fix slot region) next fits followed here =
      fix_ordered code links n at next slot region here
  row_ordered n at (instr.Dims slot parts line) next fits followed here =
      dims_ordered code links n at next slot parts line here
  row_ordered n at (instr.Formed form slot from shift line) next fits followed here =
      formed_ordered code links n at next form slot from shift line here
  row_ordered n at (instr.Need slot array shift line) next fits followed here =
      need_ordered code links n at next slot array shift line here
  row_ordered n at (instr.Same target source kind line) next fits followed here =
      same_ordered code links n at next target source kind line here
  row_ordered n at (instr.Fits slot shift line) next fits followed here =
      fits_ordered code links n at next slot shift line here
  row_ordered n at (instr.Room array slot) next fits followed here =
      room_ordered code links n at next array slot here
  row_ordered n at (instr.Clear array) next fits followed here =
      clear_ordered code links n at next array here
  row_ordered n at (instr.Loop slot group) next fits followed here =
      loop_ordered code links capable n at next followed slot group here
  row_ordered n at (instr.Start exchange) next fits followed here =
      start_ordered code links capable n at next exchange here
  row_ordered n at (instr.Finish exchange) next fits followed here =
      finish_ordered code links capable n at next exchange here
  row_ordered n at (instr.Edge kind array slot shift) next fits followed here =
      edge_ordered code links capable n at next kind array slot shift here
  row_ordered n at (instr.Flood array target from source) next fits followed here =
      flood_ordered code links capable n at next array target from source here
  row_ordered n at (instr.Part array target f from source) next fits followed here =
      part_ordered code links capable n at next array target f from source here
  row_ordered n at (instr.Scan array slot f along from mask) next fits followed here =
      scan_ordered code links capable n at next array slot f along from mask here
  row_ordered n at (instr.Vote group) next fits followed here =
      vote_ordered code links capable n at next group here
  row_ordered n at (instr.Fold scalar f) next fits followed here =
      fold_ordered code links capable n at next scalar f here
  row_ordered n at (instr.TreeVote group) next fits followed here =
      tree_vote_ordered code links capable n at next group here
  row_ordered n at (instr.TreeFold scalar f) next fits followed here =
      tree_fold_ordered code links capable n at next scalar f here
  row_ordered n at (instr.Print text) next fits followed here =
      print_ordered code links n at next text here
  row_ordered n at (instr.Number expr) next fits followed here =
      number_ordered code links n at next expr here
  row_ordered n at (instr.Truth expr) next fits followed here =
      truth_ordered code links n at next expr here
  row_ordered n at (instr.Gather truth array slot) next fits followed here =
      gather_ordered code links capable n at next truth array slot here
  row_ordered n at (instr.Jump goal) next fits followed here =
      jump_ordered code links n at next goal fits.fit here
  row_ordered n at (instr.Unless expr goal line) next fits followed here =
      unless_ordered code links n at next expr goal line fits.fit.1 here
  row_ordered n at (instr.Trap kind line) next fits followed here =
      trap_ordered code links n at next kind line here
  row_ordered n at instr.End next fits followed here = end_ordered code links n at next here
  row_ordered n at (instr.Remap array slot from parts) next fits followed here =
      remap_ordered n at next array slot from parts fits here

  pub have_orders : Fits code → HaveOrders code links
  have_orders fits n at row next here followed =
      row_ordered n at row next (all_at (FitsInstr code) code.code at row fits.code here) followed
      here

  pub come_in_step : (fits : Fits code)
      (start_kept : (p : ℕ) → p < processors code → IsLocal code p (start_local code p))
      (moves_keep : (p : ℕ) (local next : Local) (sent : Option (ℕ × Message)) (shown : List ℕ)
      → NextHasThree code local → IsLocal code p local
      → act code p local ≡ Goes next sent shown → IsLocal code p next)
      (messages_keep : (p : ℕ) (local next : Local) (from : ℕ) (message : Message)
      → IsLocal code p local → act code p local ≡ Awaits from
      → fed code p local message ≡ Takes next → IsLocal code p next)
      → ComesInStep code links
  come_in_step fits start_kept moves_keep messages_keep a n right =
      let long : length (plan_rows code) ≡ length code.code + 1 =
      long_rows (code.code ++ instr.End ∷ []) ∙ length-append code.code (instr.End ∷ []) in
      in_step code links n a (least_moves (stops_within code links a n) a n) (run_most code a n)
      (stops_within code links a n) (omega arith) (plan_run code links a n)
      (subst (λ k. Arrives code links n a (All (HasThree code) code.code)
      (a * (k * row_most code n)) (in_front 0 (start_abreast code))
      (stops_within code links a n) (plan_run code links a n)) long
      (arrive_first code links n (have_orders fits) (All (HasThree code) code.code)
      (Reach code links)
      (reach_limits code links fits start_kept moves_keep messages_keep) (reach_on code links n)
      (start_abreast code) (start_reach code links)
      (record { flights = All-nil _; room = no_room links })
      (start_never code links n fits.slots) a right))
