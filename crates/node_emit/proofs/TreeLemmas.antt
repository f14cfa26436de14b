-- Rows with their forms along the tree: what they are told apart by stays, but that they agree
-- along the tree.
use Rattle.std.proofs.Common.{◌≡◌, refl, sym, ap, ◌∙◌, ℕ, ◌+◌, Bool, true, false, List, []}
use Rattle.std.proofs.Common.{◌∷◌, arith, get_or, length}
use Rattle.std.specs.Prelude.{◌||◌, ◌&&◌, not, All, cond, count_by, fold, map, if◌then◌else◌}
use Rattle.std.specs.Prelude.{Option, Some, None}
use Rattle.std.specs.Option.{option_map}
use Rattle.std.proofs.lemmas.List.{length-map}
use Rattle.std.proofs.lemmas.List.Elements.{All-map}
use Rattle.zpl_nums.specs.declared.folds.Fold.{Fold}
use Rattle.flat_passes.specs.of_node_form.declared.arrays.Item.{Item}
use Rattle.flat_passes.specs.of_node_form.declared.instructions.Instr.{Instr}
use Rattle.flat_passes.specs.of_node_form.declared.instructions.Instr.TheVariants as instr
use Rattle.flat_passes.specs.of_node_form.declared.tables.Tables.{Tables}
use Rattle.flat_passes.specs.of_code_parts.Counts.{GoesByTrees, code_size, count_of, is_counted, is_loop, is_star}
use Rattle.flat_passes.specs.of_code_parts.Counts.{is_vote}
use Rattle.flat_passes.specs.of_code_parts.Early.{IsEarly, Passed, crosses_last, is_in_time, may_cross}
use Rattle.flat_passes.specs.of_code_parts.Early.{none_passed}
use Rattle.flat_passes.specs.of_code_parts.Early.{open_behind, passed_by}
use Rattle.flat_passes.specs.of_code_parts.Exchanged.{HasNoRepeats, IsMerged, fresh_behind}
use Rattle.flat_passes.specs.of_code_parts.Exchanged.{is_apart, is_behind_finish, starts_new}
use Rattle.flat_passes.specs.of_code_parts.Fused.{IsFused, begins_anew, last_loop}
use Rattle.flat_passes.specs.of_code_parts.Stretch.{ends_stretch, is_goal, leads_to}
use Rattle.flat_passes.specs.of_code_parts.Stretch.{right_from}
use Rattle.flat_passes.proofs.of_code_parts.EarlyLemmas.{early_either_way}
use Rattle.flat_passes.proofs.of_code_parts.FusedLemmas.{fused_either_way}
use Rattle.flat_passes.proofs.of_code_parts.MergedLemmas.{merged_either_way}
use Rattle.flat_passes.proofs.of_code_parts.RepeatLemmas.{repeats_either_way}
use Rattle.node_emit.specs.Emit.{along_tree, emitted}

-- ---- a row is a vote, a fold, or stays
data Treed : Instr → Type 0 where
  VoteRow : (group : ℕ) → Treed (instr.Vote group)
  FoldRow : (scalar : ℕ) (fold : Fold) → Treed (instr.Fold scalar fold)
  StaysRow : {row : Instr} → along_tree row ≡ row → is_star row ≡ false → Treed row

treed : (row : Instr) → Treed row
treed (instr.Vote group) = VoteRow group
treed (instr.Fold scalar fold) = FoldRow scalar fold
treed (instr.Set scalar expr line) = StaysRow refl refl
treed (instr.Fix slot region) = StaysRow refl refl
treed (instr.Dims slot parts line) = StaysRow refl refl
treed (instr.Formed form slot from shift line) = StaysRow refl refl
treed (instr.Need slot array shift line) = StaysRow refl refl
treed (instr.Same target source kind line) = StaysRow refl refl
treed (instr.Fits slot shift line) = StaysRow refl refl
treed (instr.Room array slot) = StaysRow refl refl
treed (instr.Clear array) = StaysRow refl refl
treed (instr.Loop slot group) = StaysRow refl refl
treed (instr.Start exchange) = StaysRow refl refl
treed (instr.Finish exchange) = StaysRow refl refl
treed (instr.Edge kind array slot shift) = StaysRow refl refl
treed (instr.Flood array target from source) = StaysRow refl refl
treed (instr.Part array target fold from source) = StaysRow refl refl
treed (instr.Scan array slot fold along from mask) = StaysRow refl refl
treed (instr.TreeVote group) = StaysRow refl refl
treed (instr.TreeFold scalar fold) = StaysRow refl refl
treed (instr.Print text) = StaysRow refl refl
treed (instr.Number expr) = StaysRow refl refl
treed (instr.Truth expr) = StaysRow refl refl
treed (instr.Gather truth array slot) = StaysRow refl refl
treed (instr.Jump goal) = StaysRow refl refl
treed (instr.Unless expr goal line) = StaysRow refl refl
treed (instr.Trap kind line) = StaysRow refl refl
treed instr.End = StaysRow refl refl
treed (instr.Remap array slot from parts) = StaysRow refl refl

same_ends : (row : Instr) → Treed row → ends_stretch (along_tree row) ≡ ends_stretch row
same_ends _ (VoteRow group) = refl
same_ends _ (FoldRow scalar fold) = refl
same_ends row (StaysRow same none) = ap (λ row. ends_stretch row) same

same_leads : (at : ℕ) (row : Instr) → Treed row → leads_to at (along_tree row) ≡ leads_to at row
same_leads at _ (VoteRow group) = refl
same_leads at _ (FoldRow scalar fold) = refl
same_leads at row (StaysRow same none) = ap (λ row. leads_to at row) same

starless : (row : Instr) → Treed row → is_star (along_tree row) ≡ false
starless _ (VoteRow group) = refl
starless _ (FoldRow scalar fold) = refl
starless row (StaysRow same none) = ap is_star same ∙ none

same_goals : (at : ℕ) (code : List Instr) → is_goal (map along_tree code) at ≡ is_goal code at
same_goals at [] = refl
same_goals at (row ∷ code) = by (same_leads at row (treed row)) (same_goals at code)
  where
    by : leads_to at (along_tree row) ≡ leads_to at row
        → is_goal (map along_tree code) at ≡ is_goal code at
        → (leads_to at (along_tree row) || is_goal (map along_tree code) at)
        ≡ (leads_to at row || is_goal code at)
    by one rest =
        ap (λ b. b || is_goal (map along_tree code) at) one
        ∙ ap (λ b. leads_to at row || b) rest

one_counted : (row : Instr) → Treed row → is_counted (along_tree row) ≡ is_counted row
one_counted _ (VoteRow group) = refl
one_counted _ (FoldRow scalar fold) = refl
one_counted row (StaysRow same none) = ap (λ row. is_counted row) same

one_votes : (row : Instr) → Treed row → is_vote (along_tree row) ≡ is_vote row
one_votes _ (VoteRow group) = refl
one_votes _ (FoldRow scalar fold) = refl
one_votes row (StaysRow same none) = ap (λ row. is_vote row) same

one_loops : (row : Instr) → Treed row → is_loop (along_tree row) ≡ is_loop row
one_loops _ (VoteRow group) = refl
one_loops _ (FoldRow scalar fold) = refl
one_loops row (StaysRow same none) = ap (λ row. is_loop row) same

-- ---- counts
same_sum : (test : Instr → Bool) → ((row : Instr) → test (along_tree row) ≡ test row) → (n : ℕ)
    → (rows : List Instr)
    → fold (λ n row. n + cond (test row) 1 0) n (map along_tree rows)
    ≡ fold (λ n row. n + cond (test row) 1 0) n rows
same_sum test alike n [] = refl
same_sum test alike n (row ∷ rows) =
    ap (λ b. fold (λ n row. n + cond (test row) 1 0) (n + cond b 1 0) (map along_tree rows))
    (alike row)
    ∙ same_sum test alike (n + cond (test row) 1 0) rows

same_count : (test : Instr → Bool) → ((row : Instr) → test (along_tree row) ≡ test row)
    → (rows : List Instr) → count_by test (map along_tree rows) ≡ count_by test rows
same_count test alike rows = same_sum test alike 0 rows

pub counted_stay : (tree : Bool) (grid : List ℕ) (plan : Tables)
    → count_of is_counted (emitted tree grid plan) ≡ count_of is_counted plan
counted_stay true grid plan =
    same_count is_counted (λ row. one_counted row (treed row)) plan.code
counted_stay false grid plan = refl

pub votes_stay : (tree : Bool) (grid : List ℕ) (plan : Tables)
    → count_of is_vote (emitted tree grid plan) ≡ count_of is_vote plan
votes_stay true grid plan = same_count is_vote (λ row. one_votes row (treed row)) plan.code
votes_stay false grid plan = refl

pub loops_stay : (tree : Bool) (grid : List ℕ) (plan : Tables)
    → count_of is_loop (emitted tree grid plan) ≡ count_of is_loop plan
loops_stay true grid plan = same_count is_loop (λ row. one_loops row (treed row)) plan.code
loops_stay false grid plan = refl

pub size_stays : (tree : Bool) (grid : List ℕ) (plan : Tables)
    → code_size (emitted tree grid plan) ≡ code_size plan
size_stays true grid plan = omega (arith, length-map plan.code along_tree)
size_stays false grid plan = refl

-- ---- along the tree
all_starless : (rows : List Instr) → All (λ row. is_star (along_tree row) ≡ false) rows
all_starless rows = λ k d inside. starless (get_or rows k d) (treed (get_or rows k d))

pub by_trees : (grid : List ℕ) (plan : Tables) → GoesByTrees (emitted true grid plan)
by_trees grid plan =
    All-map (λ row. is_star row ≡ false) along_tree plan.code (all_starless plan.code)

-- ---- walks: from what is known of rows follows what is known of them along the tree, and what is
-- asked comes out the same
module _ {F : Type 0} (nothing : F) (learn : F → Instr → F) (is_right : F → Instr → Bool)
    (seen : F → F) (same_nothing : seen nothing ≡ nothing)
    (same_learn : (facts : F) (row : Instr)
    → learn (seen facts) (along_tree row) ≡ seen (learn facts row))
    (same_right : (facts : F) (row : Instr)
    → is_right (seen facts) (along_tree row) ≡ is_right facts row)
    (code : List Instr) where
  abbrev walk : List Instr → ℕ → F → List Instr → Bool
  walk code = right_from nothing learn is_right code

  forgotten : (goal : Bool) (facts : F)
      → (if goal then nothing else seen facts) ≡ seen (if goal then nothing else facts)
  forgotten true facts = sym same_nothing
  forgotten false facts = refl

  abbrev step : Bool → F → Instr → (F → Bool) → Bool
  step ends known row next =
      (ends || is_right known row) && next (if ends then nothing else learn known row)

  same_step : (ends : Bool) (known : F) (row : Instr) (next next' : F → Bool)
      → ((facts : F) → next (seen facts) ≡ next' facts)
      → step ends (seen known) (along_tree row) next ≡ step ends known row next'
  same_step true known row next next' same =
      ap next (sym same_nothing) ∙ same nothing
  same_step false known row next next' same =
      ap (λ b. b && next (learn (seen known) (along_tree row))) (same_right known row)
      ∙ ap (λ facts. is_right known row && next facts) (same_learn known row)
      ∙ ap (λ b. is_right known row && b) (same (learn known row))

  same_walk : (at : ℕ) (facts : F) (rows : List Instr)
      → walk (map along_tree code) at (seen facts) (map along_tree rows) ≡ walk code at facts rows
  same_walk at facts [] = refl
  same_walk at facts (row ∷ rows) =
      ap (λ goal. step (ends_stretch (along_tree row)) (if goal then nothing else seen facts)
      (along_tree row)
      (λ facts. walk (map along_tree code) (at + 1) facts (map along_tree rows)))
      (same_goals at code)
      ∙ ap (λ known. step (ends_stretch (along_tree row)) known (along_tree row)
      (λ facts. walk (map along_tree code) (at + 1) facts (map along_tree rows)))
      (forgotten (is_goal code at) facts)
      ∙ ap (λ ends. step ends (seen (if is_goal code at then nothing else facts)) (along_tree row)
      (λ facts. walk (map along_tree code) (at + 1) facts (map along_tree rows)))
      (same_ends row (treed row))
      ∙ same_step (ends_stretch row) (if is_goal code at then nothing else facts) row
      (λ facts. walk (map along_tree code) (at + 1) facts (map along_tree rows))
      (λ facts. walk code (at + 1) facts rows) (λ facts. same_walk (at + 1) facts rows)

-- ---- the parts of tidy code
fused_learn : (plan : Tables) (facts : Option (ℕ × ℕ)) (row : Instr) → Treed row
    → last_loop facts (along_tree row) ≡ last_loop facts row
fused_learn plan facts _ (VoteRow group) = refl
fused_learn plan facts _ (FoldRow scalar fold) = refl
fused_learn plan facts row (StaysRow same none) = ap (λ row. last_loop facts row) same

fused_right : (plan : Tables) (facts : Option (ℕ × ℕ)) (row : Instr) → Treed row
    → begins_anew plan facts (along_tree row) ≡ begins_anew plan facts row
fused_right plan facts _ (VoteRow group) = refl
fused_right plan facts _ (FoldRow scalar fold) = refl
fused_right plan facts row (StaysRow same none) = ap (λ row. begins_anew plan facts row) same

pub fused_stay : (tree : Bool) (grid : List ℕ) (plan : Tables)
    → IsFused plan → IsFused (emitted tree grid plan)
fused_stay true grid plan is =
    (fused_either_way (emitted true grid plan)).0
    (same_walk None (last_loop) (begins_anew plan) (λ facts. facts) refl
    (λ facts row. fused_learn plan facts row (treed row))
    (λ facts row. fused_right plan facts row (treed row)) plan.code 0 None plan.code
    ∙ (fused_either_way plan).1 is)
fused_stay false grid plan is =
    (fused_either_way (emitted false grid plan)).0 ((fused_either_way plan).1 is)

repeats_learn : (plan : Tables) (facts : List Item) (row : Instr) → Treed row
    → fresh_behind plan facts (along_tree row) ≡ fresh_behind plan facts row
repeats_learn plan facts _ (VoteRow group) = refl
repeats_learn plan facts _ (FoldRow scalar fold) = refl
repeats_learn plan facts row (StaysRow same none) = ap (λ row. fresh_behind plan facts row) same

repeats_right : (plan : Tables) (facts : List Item) (row : Instr) → Treed row
    → starts_new plan facts (along_tree row) ≡ starts_new plan facts row
repeats_right plan facts _ (VoteRow group) = refl
repeats_right plan facts _ (FoldRow scalar fold) = refl
repeats_right plan facts row (StaysRow same none) = ap (λ row. starts_new plan facts row) same

pub repeats_stay : (tree : Bool) (grid : List ℕ) (plan : Tables)
    → HasNoRepeats plan → HasNoRepeats (emitted tree grid plan)
repeats_stay true grid plan is =
    (repeats_either_way (emitted true grid plan)).0
    (same_walk [] (fresh_behind plan) (starts_new plan) (λ facts. facts) refl
    (λ facts row. repeats_learn plan facts row (treed row))
    (λ facts row. repeats_right plan facts row (treed row)) plan.code 0 [] plan.code
    ∙ (repeats_either_way plan).1 is)
repeats_stay false grid plan is =
    (repeats_either_way (emitted false grid plan)).0 ((repeats_either_way plan).1 is)

merged_learn : (plan : Tables) (facts : Bool) (row : Instr) → Treed row
    → is_behind_finish facts (along_tree row) ≡ is_behind_finish facts row
merged_learn plan facts _ (VoteRow group) = refl
merged_learn plan facts _ (FoldRow scalar fold) = refl
merged_learn plan facts row (StaysRow same none) = ap (λ row. is_behind_finish facts row) same

merged_right : (plan : Tables) (facts : Bool) (row : Instr) → Treed row
    → is_apart facts (along_tree row) ≡ is_apart facts row
merged_right plan facts _ (VoteRow group) = refl
merged_right plan facts _ (FoldRow scalar fold) = refl
merged_right plan facts row (StaysRow same none) = ap (λ row. is_apart facts row) same

pub merged_stay : (tree : Bool) (grid : List ℕ) (plan : Tables)
    → IsMerged plan → IsMerged (emitted tree grid plan)
merged_stay true grid plan is =
    (merged_either_way (emitted true grid plan)).0
    (same_walk false (is_behind_finish) (is_apart) (λ facts. facts) refl
    (λ facts row. merged_learn plan facts row (treed row))
    (λ facts row. merged_right plan facts row (treed row)) plan.code 0 false plan.code
    ∙ (merged_either_way plan).1 is)
merged_stay false grid plan is =
    (merged_either_way (emitted false grid plan)).0 ((merged_either_way plan).1 is)

-- ---- early starts: the last row is known, along the tree
abbrev along_last : Passed → Passed
along_last passed = record passed { last = option_map along_tree passed.last }

open_alike : (numbers : List ℕ) (row : Instr) → Treed row
    → open_behind numbers (along_tree row) ≡ open_behind numbers row
open_alike numbers _ (VoteRow group) = refl
open_alike numbers _ (FoldRow scalar fold) = refl
open_alike numbers row (StaysRow same none) = ap (λ row. open_behind numbers row) same

early_learn : (passed : Passed) (row : Instr)
    → passed_by (along_last passed) (along_tree row) ≡ along_last (passed_by passed row)
early_learn passed row =
    ap (λ numbers. record {
      last = Some (along_tree row);
      open_before = passed.open_now;
      open_now = numbers;
    }) (open_alike passed.open_now row (treed row))

module _ (plan : Tables) (links : Option ℕ) where
  cross_alike : (count exchange : ℕ) (row : Instr) → Treed row
      → may_cross plan links count (along_tree row) exchange
      ≡ may_cross plan links count row exchange
  cross_alike count exchange _ (VoteRow group) = refl
  cross_alike count exchange _ (FoldRow scalar fold) = refl
  cross_alike count exchange row (StaysRow same none) =
      ap (λ row. may_cross plan links count row exchange) same

  last_alike : (count exchange : ℕ) (last : Option Instr)
      → crosses_last plan links count (option_map along_tree last) exchange
      ≡ crosses_last plan links count last exchange
  last_alike count exchange None = refl
  last_alike count exchange (Some row) = cross_alike count exchange row (treed row)

  early_right : (passed : Passed) (row : Instr)
      → is_in_time plan links (along_last passed) (along_tree row)
      ≡ is_in_time plan links passed row
  early_right passed (instr.Start exchange) =
      ap (λ b. not b) (last_alike (length passed.open_before) exchange passed.last)
  early_right passed (instr.Set scalar expr line) = refl
  early_right passed (instr.Fix slot region) = refl
  early_right passed (instr.Dims slot parts line) = refl
  early_right passed (instr.Formed form slot from shift line) = refl
  early_right passed (instr.Need slot array shift line) = refl
  early_right passed (instr.Same target source kind line) = refl
  early_right passed (instr.Fits slot shift line) = refl
  early_right passed (instr.Room array slot) = refl
  early_right passed (instr.Clear array) = refl
  early_right passed (instr.Loop slot group) = refl
  early_right passed (instr.Finish exchange) = refl
  early_right passed (instr.Edge kind array slot shift) = refl
  early_right passed (instr.Flood array target from source) = refl
  early_right passed (instr.Part array target fold from source) = refl
  early_right passed (instr.Scan array slot fold along from mask) = refl
  early_right passed (instr.Vote group) = refl
  early_right passed (instr.Fold scalar fold) = refl
  early_right passed (instr.TreeVote group) = refl
  early_right passed (instr.TreeFold scalar fold) = refl
  early_right passed (instr.Print text) = refl
  early_right passed (instr.Number expr) = refl
  early_right passed (instr.Truth expr) = refl
  early_right passed (instr.Gather truth array slot) = refl
  early_right passed (instr.Jump goal) = refl
  early_right passed (instr.Unless expr goal line) = refl
  early_right passed (instr.Trap kind line) = refl
  early_right passed instr.End = refl
  early_right passed (instr.Remap array slot from parts) = refl

pub early_stay : (links : Option ℕ) (tree : Bool) (grid : List ℕ) (plan : Tables)
    → IsEarly links plan → IsEarly links (emitted tree grid plan)
early_stay links true grid plan is =
    (early_either_way links (emitted true grid plan)).0
    (same_walk none_passed passed_by (is_in_time plan links) along_last refl early_learn
    (early_right plan links) plan.code 0 none_passed plan.code
    ∙ (early_either_way links plan).1 is)
early_stay links false grid plan is =
    (early_either_way links (emitted false grid plan)).0 ((early_either_way links plan).1 is)
