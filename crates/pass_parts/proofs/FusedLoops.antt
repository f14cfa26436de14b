-- Loops are joined wherever they can be.
use Rattle.std.proofs.Common.{◌≡◌, refl, sym, ap, ◌∙◌, subst, arith, ℕ, ◌+◌, ◌==◌, Bool, true}
use Rattle.std.proofs.Common.{false, not, true≢false, List, [], ◌∷◌, ◌++◌, length, append_assoc}
use Rattle.std.proofs.Common.{length-append}
use Rattle.std.specs.Prelude.{◌&&◌, ◌||◌, if◌then◌else◌, Option, Some, None}
use Rattle.std.specs.List.{AllByRecursion}
use Rattle.std.proofs.Math.Path.{fun_ext}
use Rattle.std.proofs.lemmas.Bool.Decides.{Decides-eqb}
use Rattle.std.proofs.lemmas.List.Elements.{recursion_from_All}
use Rattle.node_form.specs.declared.arrays.Item.{Item}
use Rattle.node_form.specs.declared.members.Member.{Member}
use Rattle.node_form.specs.declared.instructions.Instr.{Instr}
use Rattle.node_form.specs.declared.instructions.Instr.TheVariants as instr
use Rattle.node_form.specs.declared.tables.Tables.{Tables}
use Rattle.row_runs.specs.Cut.{passed}
use Rattle.code_parts.specs.Fused.{IsFused, begins_anew, is_between_loops}
use Rattle.code_parts.specs.Stretch.{ends_stretch, is_goal, right_from}
use Rattle.code_parts.specs.Uses.{members_of}
use Rattle.code_parts.proofs.FusedLemmas.{fused_either_way}
use Rattle.code_parts.proofs.WalkLemmas.{both_left, both_right}
use Rattle.node_emit.specs.of_flat_passes.Rewritten.{stretches_of, with_moved_goal}
use Rattle.node_emit.specs.of_flat_passes.Grouped.{Grouped, Plain, Runs, all_numbered, ended_by, groups_of}
use Rattle.node_emit.specs.of_flat_passes.Grouped.{with_grouped}
use Rattle.pass_sizes.proofs.of_plan_form.WalkLemmas as walks
use Rattle.pass_sizes.specs.of_fuse_contract.Fusing.{Loop, can_join, fused, joins, known_behind}
use Rattle.pass_sizes.specs.of_fuse_contract.Fusing.{last_rows, references_of, stands_with}
use Rattle.pass_sizes.specs.of_fuse_contract.Fusing.{both as both_loops}
use Rattle.pass_sizes.specs.of_fuse_contract.Joining.{Facts, behind_row, joins_last, last_with, loop_over}
use Rattle.pass_sizes.specs.of_fuse_contract.Joining.{no_facts, row_rows}
use Rattle.pass_sizes.proofs.of_fuse_contract.JoinedLemmas.{closed_is}
use Rattle.pass_sizes.proofs.of_comm_combine.ReachLemmas.{GoalsMoved}
use Rattle.pass_parts.specs.Parts.{CanBeFused}
use Rattle.pass_parts.proofs.GoalLemmas as goals
use Rattle.pass_parts.proofs.GoalLemmas.{all_moved, group_there, new}
use Rattle.pass_parts.proofs.JoinableLemmas.{AreApart, apart, can_be, first_apart, last_apart}
use Rattle.pass_parts.proofs.NearLemmas.{end_row, ends_moved, from, reset}
use Rattle.pass_parts.proofs.SeenLemmas.{Seen, all_known, could_join, is_known, known_throughout}
use Rattle.pass_parts.proofs.SeenLemmas.{may_stand, nothing_seen, seen_with}
use Rattle.pass_parts.proofs.StandLemmas.{both_stand}

both : (a b : Bool) → a ≡ true → b ≡ true → (a && b) ≡ true
both true b one other = other
both false b one other = one

abbrev IsFar : Instr → Type 0
IsFar row = is_between_loops row ≡ false

abbrev close : Facts → List Grouped
close facts = last_rows facts.last

abbrev facts_of : List Item → Option Loop → Facts
facts_of known last = record { known = known; last = last }

module _ (tables : Tables) where
  abbrev made : List Grouped
  made = new {F = Facts} tables no_facts (row_rows tables) (behind_row tables) close refl

  abbrev plan : Tables
  plan = with_grouped tables made

  fused_is : fused tables ≡ plan
  fused_is =
      ap (λ f. with_grouped tables (passed f ended_by (stretches_of tables.code)))
      (fun_ext (λ rows. sym (closed_is tables [] None rows)))
      ∙ ap (with_grouped tables)
      (walks.passed_walk {F = Facts} {Old = Instr} {New = Grouped} ends_stretch
      (is_goal tables.code) no_facts (row_rows tables) (behind_row tables) close ended_by refl
      tables.code)

  abbrev walked : Facts → ℕ → List Instr → List Grouped
  walked = goals.walk {F = Facts} tables no_facts (row_rows tables) (behind_row tables) close refl

  abbrev counted : Facts → ℕ → ℕ → List Instr → List ℕ
  counted = goals.numbers {F = Facts} tables no_facts (row_rows tables) (behind_row tables) close refl

  abbrev moves : ℕ → ℕ
  moves = goals.moved {F = Facts} tables no_facts (row_rows tables) (behind_row tables) close refl

  abbrev put : Bool → (ℕ → ℕ) → Facts → Instr → List Grouped
  put = goals.put {F = Facts} tables no_facts (row_rows tables) (behind_row tables) close refl

  abbrev known_at : Bool → Facts → Facts
  known_at = goals.known {F = Facts} tables no_facts (row_rows tables) (behind_row tables) close refl

  abbrev learnt : Bool → Facts → Instr → Facts
  learnt = goals.learnt {F = Facts} tables no_facts (row_rows tables) (behind_row tables) close refl

  abbrev front : Bool → Facts → List Grouped
  front = goals.in_front {F = Facts} tables no_facts (row_rows tables) (behind_row tables) close refl

  abbrev seen_from : ℕ → Seen → List Instr → Bool
  seen_from at seen rows =
      right_from nothing_seen (seen_with tables) (is_known tables) tables.code at seen rows

  -- ---- the loop that others may still join is the one that was seen last, with what it joined
  record EndsWith (last : Loop) (loop : ℕ × ℕ) : Type 0 where
    slot : last.slot ≡ loop.0
    before : List Member
    is : last.group ≡ before ++ members_of tables loop.1
    stands : (other : List Member)
        → stands_with tables (members_of tables loop.1) other ≡ true
        → stands_with tables last.group other ≡ true

  abbrev IsLastSeen : Option Loop → Option (ℕ × ℕ) → Type 0
  IsLastSeen None None = Unit {0}
  IsLastSeen (Some last) (Some loop) = EndsWith last loop
  IsLastSeen None (Some loop) = ⊥
  IsLastSeen (Some last) None = ⊥

  record AreSame (facts : Facts) (seen : Seen) : Type 0 where
    known : facts.known ≡ seen.known
    last : IsLastSeen facts.last seen.last

  none_same : AreSame no_facts nothing_seen
  none_same = record { known = refl; last = tt }

  -- ---- it can't join the last loop that is written
  abbrev CanStand : Option (ℕ × ℕ) → Option Loop → Type 0
  CanStand None last = Unit {0}
  CanStand (Some loop) None = ⊥
  CanStand (Some loop) (Some last) =
      ((loop.0 == last.slot) && can_join tables (members_of plan loop.1) last.group) ≡ false

  stands_any : (known : Option (ℕ × ℕ)) (last : Option Loop) → CanStand known None
      → CanStand known last
  stands_any None last stands = tt
  stands_any (Some loop) last stands = absurd stands

  reset_stands : (n : ℕ) (known : Option (ℕ × ℕ)) (last : Option Loop) → CanStand known last
      → CanStand (reset plan n known) last
  reset_stands n known last stands = by (is_goal plan.code n)
    where
      by : (b : Bool) → CanStand (if b then None else known) last
      by true = tt
      by false = stands

  none_stands : (n : ℕ) (last : Option Loop) → CanStand (reset plan n None) last
  none_stands n last = reset_stands n None last tt

  loop_stands : (known : Option (ℕ × ℕ)) (last : Loop) (count : ℕ)
      → members_of plan count ≡ last.group → CanStand known (Some last)
      → begins_anew plan known (instr.Loop last.slot count) ≡ true
  loop_stands None last count there stands = refl
  loop_stands (Some loop) last count there stands =
      ap not (ap (λ group. (loop.0 == last.slot)
      && can_join tables (members_of plan loop.1) group) there ∙ stands)

  smaller : (a b c : Bool) → (b ≡ true → c ≡ true) → (a && c) ≡ false → (a && b) ≡ false
  smaller true true c more none = absurd (true≢false (sym (more refl) ∙ none))
  smaller true false c more none = refl
  smaller false b c more none = refl

  grown_stands : (known : Option (ℕ × ℕ)) (last loop : Loop) → CanStand known (Some last)
      → CanStand known (Some (both_loops tables last loop))
  grown_stands None last loop stands = tt
  grown_stands (Some one) last loop stands =
      smaller (one.0 == last.slot)
      (can_join tables (members_of plan one.1) (last.group ++ loop.group))
      (can_join tables (members_of plan one.1) last.group)
      (λ joins. can_be tables (members_of plan one.1) last.group
      (first_apart tables (members_of plan one.1) last.group loop.group
      (apart tables (members_of plan one.1) (last.group ++ loop.group) joins))) stands

  -- ---- where a loop doesn't join the last one, it can't
  could : (last loop : Loop) (one : ℕ × ℕ) (group : ℕ) → loop.group ≡ members_of tables group
      → EndsWith last one
      → ((last.slot == loop.slot) && can_join tables last.group loop.group) ≡ true
      → could_join tables (Some one) loop.slot group ≡ true
  could last loop one group same ends joins =
      both (one.0 == loop.slot) _
      (ap (λ n. n == loop.slot) (sym ends.slot)
      ∙ both_left (last.slot == loop.slot) _ joins)
      (ap (can_join tables (members_of tables one.1)) (sym same)
      ∙ can_be tables (members_of tables one.1) loop.group
      (last_apart tables ends.before (members_of tables one.1) loop.group
      (subst (λ group. AreApart tables group loop.group) ends.is
      (apart tables last.group loop.group
      (both_right (last.slot == loop.slot) _ joins)))))

  -- truth values: without the others nothing is left of the first one
  no_join : (a s c d r : Bool) → (a && s && c) ≡ false → (a ≡ true → (not d || (r && c)) ≡ true)
      → (a ≡ true → d ≡ true) → (r ≡ true → s ≡ true) → a ≡ false
  no_join true s c d r none known joins stands =
      by d r c (known refl) (joins refl) (λ e. stands e) none
    where
      by : (d r c : Bool) → (not d || (r && c)) ≡ true → d ≡ true → (r ≡ true → s ≡ true)
          → (s && c) ≡ false → true ≡ false
      by true true true there joins stands none =
          absurd (true≢false (sym (ap (λ b. b && true) (stands refl)) ∙ none))
      by true true false there joins stands none = absurd (true≢false (sym there))
      by true false c there joins stands none = absurd (true≢false (sym there))
      by false r c there joins stands none = absurd (true≢false (sym joins))
  no_join false s c d r none known joins stands = refl

  not_joined : (known : List Item) (last : Loop) (seen : Seen) (slot group : ℕ)
      → joins tables known last (loop_over tables slot group) ≡ false
      → AreSame (facts_of known (Some last)) seen
      → is_known tables seen (instr.Loop slot group) ≡ true
      → ((last.slot == slot) && can_join tables last.group (members_of tables group)) ≡ false
  not_joined known last seen slot group none same there =
      by seen.last same.last (ap (λ l. not (could_join tables seen.last slot group)
      || (may_stand tables seen.last group && all_known tables l slot group)) same.known ∙ there)
    where
      by : (one : Option (ℕ × ℕ)) → IsLastSeen (Some last) one
          → (not (could_join tables one slot group)
          || (may_stand tables one group && all_known tables known slot group)) ≡ true
          → ((last.slot == slot) && can_join tables last.group (members_of tables group)) ≡ false
      by None ends there = absurd ends
      by (Some one) ends there =
          no_join ((last.slot == slot) && can_join tables last.group (members_of tables group))
          (stands_with tables last.group (members_of tables group))
          (all_known tables known slot group) (could_join tables (Some one) slot group)
          (stands_with tables (members_of tables one.1) (members_of tables group)) none
          (λ joins. there)
          (λ joins. could last (loop_over tables slot group) one group refl ends joins)
          (λ stands. ends.stands (members_of tables group) stands)

  -- ---- rows from a number on are right, where so many groups stand before them
  abbrev AreRight : ℕ → ℕ → Option (ℕ × ℕ) → List (List Member) → List Grouped → Type 0
  AreRight n count known before rows =
      plan.groups ≡ before ++ groups_of rows → length before ≡ count
      → from plan n known (all_numbered count rows) ≡ true

  one_written : (last : Loop) (n count : ℕ) (known : Option (ℕ × ℕ))
      (before : List (List Member)) (more : List Grouped)
      → CanStand (reset plan n known) (Some last)
      → (members_of plan count ≡ last.group
      → AreRight (n + 1) (count + 1) (Some (last.slot, count)) (before ++ last.group ∷ []) more)
      → AreRight n count known before (Runs last.slot last.group ∷ more)
  one_written last n count known before more stands rest is size =
      let there : members_of plan count ≡ last.group =
      group_there plan before (groups_of more) last.group count is size in
      both (begins_anew plan (reset plan n known) (instr.Loop last.slot count)) _
      (loop_stands (reset plan n known) last count there stands)
      (rest there (is ∙ sym (append_assoc before (last.group ∷ []) (groups_of more)))
      (length-append before (last.group ∷ []) ∙ ap (λ k. k + 1) size))

  written : (last : Option Loop) (n count : ℕ) (known : Option (ℕ × ℕ))
      (before : List (List Member)) (more : List Grouped)
      → CanStand (reset plan n known) last
      → ((m other : ℕ) (later : Option (ℕ × ℕ)) (all : List (List Member))
      → m ≡ n + length (last_rows last) → AreRight m other later all more)
      → AreRight n count known before (last_rows last ++ more)
  written None n count known before more stands rest is size =
      rest n count known before (omega arith) is size
  written (Some last) n count known before more stands rest is size =
      one_written last n count known before more stands
      (λ there. rest (n + 1) (count + 1) (Some (last.slot, count)) (before ++ last.group ∷ [])
      (omega arith)) is size

  abbrev IsLater : ℕ → Facts → Seen → List Instr → Type 0
  IsLater at facts seen rows =
      (n count : ℕ) (known : Option (ℕ × ℕ)) (before : List (List Member))
      → GoalsMoved tables.code plan.code at (counted facts at n rows)
      → AreSame facts seen → CanStand (reset plan n known) facts.last
      → seen_from at seen rows ≡ true → AllByRecursion IsFar rows
      → AreRight n count known before (walked facts at rows)

  -- ---- a row that ends a stretch
  ended_row : (row : Instr) (facts : Facts) (at : ℕ) (rows : List Instr)
      → ends_stretch row ≡ true → IsLater (at + 1) no_facts nothing_seen rows
      → (n count : ℕ) (known : Option (ℕ × ℕ)) (before : List (List Member))
      → GoalsMoved tables.code plan.code (at + 1) (counted no_facts (at + 1)
      (n + length (close facts ++ ended_by (λ g. g) row ∷ [])) rows)
      → CanStand (reset plan n known) facts.last
      → seen_from (at + 1) nothing_seen rows ≡ true → AllByRecursion IsFar rows
      → AreRight n count known before
      ((close facts ++ ended_by moves row ∷ []) ++ walked no_facts (at + 1) rows)
  ended_row row facts at rows ends later n count known before goals stands right far =
      subst (AreRight n count known before)
      (sym (append_assoc (close facts) (ended_by moves row ∷ []) (walked no_facts (at + 1) rows)))
      (written facts.last n count known before (ended_by moves row ∷ walked no_facts (at + 1) rows)
      stands
      (λ m other now all place is size.
      end_row plan (with_moved_goal moves row)
      (all_numbered (other + 0) (walked no_facts (at + 1) rows)) m now
      (ends_moved moves row ∙ ends)
      (later (m + 1) (other + 0) None all
      (subst (λ k. GoalsMoved tables.code plan.code (at + 1) (counted no_facts (at + 1) k rows))
      (number m place) goals) none_same (none_stands (m + 1) None) right far is
      (plus_none (length all) other size))))
    where
      number : (m : ℕ) → m ≡ n + length (close facts)
          → n + length (close facts ++ ended_by (λ g. g) row ∷ []) ≡ m + 1
      number m place =
          omega (arith, place, length-append (close facts) (ended_by (λ g. g) row ∷ []))

      plus_none : (k other : ℕ) → k ≡ other → k ≡ other + 0
      plus_none k other same = omega (arith, same)

  -- ---- a row that is no loop
  plain_row : (row : Instr) (known : List Item) (last : Option Loop) (at : ℕ) (rows : List Instr)
      (seen : Seen)
      → ((m : ℕ) (later : Option (ℕ × ℕ)) (more : List Instr)
      → from plan m later (row ∷ more) ≡ from plan (m + 1) None more)
      → IsLater (at + 1) (facts_of (known_behind known row) None)
      (record { known = known_behind seen.known row; last = None }) rows
      → (n count : ℕ) (k : Option (ℕ × ℕ)) (before : List (List Member))
      → GoalsMoved tables.code plan.code (at + 1)
      (counted (facts_of (known_behind known row) None) (at + 1)
      (n + length (last_rows last ++ Plain row ∷ [])) rows)
      → AreSame (facts_of known last) seen → CanStand (reset plan n k) last
      → seen_from (at + 1) (record { known = known_behind seen.known row; last = None }) rows ≡ true
      → AllByRecursion IsFar rows
      → AreRight n count k before ((last_rows last ++ Plain row ∷ [])
      ++ walked (facts_of (known_behind known row) None) (at + 1) rows)
  plain_row row known last at rows seen past later n count k before goals same stands right far =
      subst (AreRight n count k before)
      (sym (append_assoc (last_rows last) (Plain row ∷ [])
      (walked (facts_of (known_behind known row) None) (at + 1) rows)))
      (written last n count k before
      (Plain row ∷ walked (facts_of (known_behind known row) None) (at + 1) rows) stands
      (λ m other now all place is size.
      past m now (all_numbered (other + 0)
      (walked (facts_of (known_behind known row) None) (at + 1) rows))
      ∙ later (m + 1) (other + 0) None all
      (subst (λ k. GoalsMoved tables.code plan.code (at + 1)
      (counted (facts_of (known_behind known row) None) (at + 1) k rows)) (number m place) goals)
      (record { known = ap (λ l. known_behind l row) same.known; last = tt })
      (none_stands (m + 1) None) right far is (plus_none (length all) other size)))
    where
      number : (m : ℕ) → m ≡ n + length (last_rows last)
          → n + length (last_rows last ++ Plain row ∷ []) ≡ m + 1
      number m place = omega (arith, place, length-append (last_rows last) (Plain row ∷ []))

      plus_none : (k other : ℕ) → k ≡ other → k ≡ other + 0
      plus_none k other same = omega (arith, same)

  -- ---- a loop
  module _ (slot group : ℕ) where
    abbrev loop : Loop
    loop = loop_over tables slot group

    -- behind it, where it joins the last loop and where it doesn't
    abbrev next : List Item → Option Loop → Bool → Facts
    next known last joined = record {
      known = references_of tables slot (members_of tables group) ++ known;
      last = Some (if joined then last_with tables last loop else loop);
    }

    abbrev next_seen : Seen → Seen
    next_seen seen = seen_with tables seen (instr.Loop slot group)

    alone : EndsWith loop (slot, group)
    alone = record { slot = refl; before = []; is = refl; stands = λ other stands. stands }

    loop_by : (known : List Item) (last : Option Loop) (at : ℕ) (rows : List Instr) (seen : Seen)
        → ((now : Facts) (past : Seen) → IsLater (at + 1) now past rows)
        → (joined : Bool) → joins_last tables known last loop ≡ joined
        → (n count : ℕ) (k : Option (ℕ × ℕ)) (before : List (List Member))
        → GoalsMoved tables.code plan.code (at + 1) (counted (next known last joined) (at + 1)
        (n + length (if joined then [] else last_rows last)) rows)
        → AreSame (facts_of known last) seen → CanStand (reset plan n k) last
        → is_known tables seen (instr.Loop slot group) ≡ true
        → seen_from (at + 1) (next_seen seen) rows ≡ true → AllByRecursion IsFar rows
        → AreRight n count k before ((if joined then [] else last_rows last)
        ++ walked (next known last joined) (at + 1) rows)
    loop_by known None at rows seen later true is n count k before goals same stands there right far =
        absurd (true≢false (sym is))
    loop_by known None at rows seen later false is n count k before goals same stands there right far =
        later (next known None false) (next_seen seen) n count k before
        (subst (λ number. GoalsMoved tables.code plan.code (at + 1)
        (counted (next known None false) (at + 1) number rows)) none goals)
        (record {
          known = ap (λ l. references_of tables slot (members_of tables group) ++ l) same.known;
          last = alone;
        })
        (stands_any (reset plan n k) (Some loop) stands) right far
      where
        none : n + 0 ≡ n
        none = omega arith
    loop_by known (Some last) at rows seen later true is n count k before goals same stands there right far =
        later (next known (Some last) true) (next_seen seen) n count k before
        (subst (λ number. GoalsMoved tables.code plan.code (at + 1)
        (counted (next known (Some last) true) (at + 1) number rows)) none goals)
        (record {
          known = ap (λ l. references_of tables slot (members_of tables group) ++ l) same.known;
          last = record {
            slot = (Decides-eqb last.slot slot).0
                (both_left (last.slot == slot) _
                (both_left ((last.slot == slot)
                && can_join tables last.group (members_of tables group)) _
                (both_left ((last.slot == slot)
                && can_join tables last.group (members_of tables group)
                && stands_with tables last.group (members_of tables group)) _ is)));
            before = last.group;
            is = refl;
            stands = λ other stands.
                both_stand tables last.group (members_of tables group) other
                (both_right ((last.slot == slot)
                && can_join tables last.group (members_of tables group)) _
                (both_left ((last.slot == slot)
                && can_join tables last.group (members_of tables group)
                && stands_with tables last.group (members_of tables group)) _ is)) stands;
          };
        })
        (grown_stands (reset plan n k) last loop stands) right far
      where
        none : n + 0 ≡ n
        none = omega arith
    loop_by known (Some last) at rows seen later false is n count k before goals same stands there right far =
        one_written last n count k before (walked (next known (Some last) false) (at + 1) rows)
        stands
        (λ written.
        later (next known (Some last) false) (next_seen seen) (n + 1) (count + 1)
        (Some (last.slot, count)) (before ++ last.group ∷ []) goals
        (record {
          known = ap (λ l. references_of tables slot (members_of tables group) ++ l) same.known;
          last = alone;
        })
        (reset_stands (n + 1) (Some (last.slot, count)) (Some loop)
        (ap (λ members. (last.slot == slot)
        && can_join tables members (members_of tables group)) written
        ∙ not_joined known last seen slot group is same there)) right far)

  -- ---- rows
  straight_row : (row : Instr) (facts : Facts) (at : ℕ) (rows : List Instr) (seen : Seen)
      → ends_stretch row ≡ false → IsFar row
      → ((now : Facts) (past : Seen) → IsLater (at + 1) now past rows)
      → (n count : ℕ) (known : Option (ℕ × ℕ)) (before : List (List Member))
      → GoalsMoved tables.code plan.code (at + 1) (counted (behind_row tables facts row) (at + 1)
      (n + length (row_rows tables facts row)) rows)
      → AreSame facts seen → CanStand (reset plan n known) facts.last
      → is_known tables seen row ≡ true
      → seen_from (at + 1) (seen_with tables seen row) rows ≡ true → AllByRecursion IsFar rows
      → AreRight n count known before
      (row_rows tables facts row ++ walked (behind_row tables facts row) (at + 1) rows)
  straight_row (instr.Loop slot group) facts at rows seen ends far later n count known before goals
      same stands there right others =
      loop_by slot group facts.known facts.last at rows seen later
      (joins_last tables facts.known facts.last (loop_over tables slot group)) refl n count known
      before goals (record { known = same.known; last = same.last }) stands there right others
  straight_row (instr.Vote group) facts at rows seen ends far later n count known before goals
      same stands there right others = absurd (true≢false far)
  straight_row (instr.TreeVote group) facts at rows seen ends far later n count known before goals
      same stands there right others = absurd (true≢false far)
  straight_row (instr.Start exchange) facts at rows seen ends far later n count known before goals
      same stands there right others = absurd (true≢false far)
  straight_row (instr.Finish exchange) facts at rows seen ends far later n count known before goals
      same stands there right others = absurd (true≢false far)
  straight_row (instr.Jump goal) facts at rows seen ends far later n count known before goals
      same stands there right others = absurd (true≢false ends)
  straight_row (instr.Unless expr goal line) facts at rows seen ends far later n count known before
      goals same stands there right others = absurd (true≢false ends)
  straight_row (instr.Trap kind line) facts at rows seen ends far later n count known before goals
      same stands there right others = absurd (true≢false ends)
  straight_row instr.End facts at rows seen ends far later n count known before goals same stands
      there right others = absurd (true≢false ends)
  straight_row row facts at rows seen ends far later n count known before goals same stands there
      right others =
      plain_row row facts.known facts.last at rows seen (λ m now more. refl)
      (later (facts_of (known_behind facts.known row) None)
      (record { known = known_behind seen.known row; last = None })) n count known before goals
      (record { known = same.known; last = same.last }) stands right others

  one_row : (row : Instr) (facts : Facts) (at : ℕ) (rows : List Instr) (seen : Seen)
      → IsFar row → ((now : Facts) (past : Seen) → IsLater (at + 1) now past rows)
      → (n count : ℕ) (known : Option (ℕ × ℕ)) (before : List (List Member))
      → (e : Bool) → ends_stretch row ≡ e
      → GoalsMoved tables.code plan.code (at + 1) (counted (learnt e facts row) (at + 1)
      (n + length (put e (λ g. g) facts row)) rows)
      → AreSame facts seen → CanStand (reset plan n known) facts.last
      → ((e || is_known tables seen row)
      && seen_from (at + 1) (if e then nothing_seen else seen_with tables seen row) rows) ≡ true
      → AllByRecursion IsFar rows
      → AreRight n count known before
      (put e moves facts row ++ walked (learnt e facts row) (at + 1) rows)
  one_row row facts at rows seen far later n count known before true ends goals same stands right
      others =
      ended_row row facts at rows ends (later no_facts nothing_seen) n count known before goals
      stands right others
  one_row row facts at rows seen far later n count known before false ends goals same stands right
      others =
      straight_row row facts at rows seen ends far later n count known before goals same stands
      (both_left (is_known tables seen row) _ right)
      (both_right (is_known tables seen row) _ right) others

  -- in front of a row, whether it is a goal
  at_row : (b : Bool) (row : Instr) (facts : Facts) (at : ℕ) (rows : List Instr) (seen : Seen)
      → is_goal tables.code at ≡ b → IsFar row
      → ((now : Facts) (past : Seen) → IsLater (at + 1) now past rows)
      → (n count : ℕ) (known : Option (ℕ × ℕ)) (before : List (List Member))
      → ((is_goal tables.code at ≡ true → is_goal plan.code (n + length (front b facts)) ≡ true)
      × GoalsMoved tables.code plan.code (at + 1)
      (counted (learnt (ends_stretch row) (known_at b facts) row) (at + 1)
      ((n + length (front b facts))
      + length (put (ends_stretch row) (λ g. g) (known_at b facts) row)) rows))
      → AreSame facts seen → CanStand (reset plan n known) facts.last
      → ((ends_stretch row || is_known tables (if b then nothing_seen else seen) row)
      && seen_from (at + 1) (if ends_stretch row then nothing_seen
      else seen_with tables (if b then nothing_seen else seen) row) rows) ≡ true
      → AllByRecursion IsFar rows
      → AreRight n count known before (front b facts
      ++ (put (ends_stretch row) moves (known_at b facts) row
      ++ walked (learnt (ends_stretch row) (known_at b facts) row) (at + 1) rows))
  at_row true row facts at rows seen goal far later n count known before goals same stands right
      others =
      written facts.last n count known before (put (ends_stretch row) moves no_facts row
      ++ walked (learnt (ends_stretch row) no_facts row) (at + 1) rows) stands
      (λ m other now all place.
      one_row row no_facts at rows nothing_seen far later m other now all (ends_stretch row) refl
      (subst (λ k. GoalsMoved tables.code plan.code (at + 1)
      (counted (learnt (ends_stretch row) no_facts row) (at + 1)
      (k + length (put (ends_stretch row) (λ g. g) no_facts row)) rows)) (sym place) goals.1)
      none_same
      (subst (λ b. CanStand (if b then None else now) None)
      (sym (ap (is_goal plan.code) place ∙ goals.0 goal)) tt) right others)
  at_row false row facts at rows seen inner far later n count known before goals same stands right
      others =
      one_row row facts at rows seen far later n count known before (ends_stretch row) refl
      (subst (λ k. GoalsMoved tables.code plan.code (at + 1)
      (counted (learnt (ends_stretch row) facts row) (at + 1)
      (k + length (put (ends_stretch row) (λ g. g) facts row)) rows)) none_more goals.1) same stands
      right others
    where
      none_more : n + 0 ≡ n
      none_more = omega arith

  last_right : (facts : Facts) (n count : ℕ) (known : Option (ℕ × ℕ))
      (before : List (List Member)) → CanStand (reset plan n known) facts.last
      → AreRight n count known before (close facts)
  last_right facts n count known before stands =
      by facts.last stands
    where
      by : (last : Option Loop) → CanStand (reset plan n known) last
          → AreRight n count known before (last_rows last)
      by None stands is size = refl
      by (Some last) stands is size =
          one_written last n count known before [] stands (λ there is size. refl) is size

  all_right : (rows : List Instr) (at : ℕ) (facts : Facts) (seen : Seen)
      → IsLater at facts seen rows
  all_right [] at facts seen n count known before goals same stands right far =
      last_right facts n count known before stands
  all_right (row ∷ rows) at facts seen n count known before goals same stands right far =
      at_row (is_goal tables.code at) row facts at rows seen refl far.0
      (λ now past. all_right rows (at + 1) now past) n count known before goals same stands right
      far.1

  pub all_joined : CanBeFused tables → IsFused (fused tables)
  all_joined can =
      subst IsFused (sym fused_is)
      ((fused_either_way plan).0
      (all_right tables.code 0 no_facts nothing_seen 0 0 None []
      (all_moved {F = Facts} tables no_facts (row_rows tables) (behind_row tables) close refl)
      none_same (none_stands 0 None) (known_throughout tables can)
      (recursion_from_All IsFar tables.code can.flat) refl refl))
