-- Loops joined one row after another are those of the pass.
use Rattle.std.proofs.Common.{◌≡◌, refl, sym, ap, ◌∙◌, subst, ℕ, ◌+◌, ◌≤◌, Bool, true, false}
use Rattle.std.proofs.Common.{List, [], ◌∷◌, ◌++◌, length, map, append_assoc}
use Rattle.std.specs.Prelude.{Option, Some, None, if◌then◌else◌, slice_get}
use Rattle.std.specs.List.{AllByRecursion}
use Rattle.std.proofs.Math.Path.{fun_ext}
use Rattle.temp_norm.specs.of_row_runs.Cut.{passed}
use Rattle.temp_norm.specs.of_node_form.declared.arrays.Item.{Item}
use Rattle.temp_norm.specs.of_node_form.declared.instructions.Instr.{Instr}
use Rattle.temp_norm.specs.of_node_form.declared.instructions.Instr.TheVariants as instr
use Rattle.temp_norm.specs.of_node_form.declared.tables.Tables.{Tables}
use Rattle.temp_norm.specs.of_code_parts.Stretch.{ends_stretch, is_goal}
use Rattle.temp_norm.specs.of_flat_passes.declared.draft.Draft.{Draft}
use Rattle.temp_norm.specs.of_flat_passes.Draft.{empty_draft, moved_draft, with_rows}
use Rattle.temp_norm.specs.of_flat_passes.Grouped.{Grouped, Plain, Runs, all_numbered, ended_by, grouped, groups_of}
use Rattle.temp_norm.specs.of_flat_passes.Rewritten.{stretches_of}
use Rattle.temp_norm.proofs.of_flat_passes.StretchLemmas.{every_append}
use Rattle.fuse_contract.specs.Behind.{GoesOn, IsBehind}
use Rattle.fuse_contract.specs.Fusing.{Loop, both, fused, joined, joins, known_behind, last_rows}
use Rattle.fuse_contract.specs.Fusing.{references_of, with_loop}
use Rattle.fuse_contract.specs.Joining.{Facts, behind_loop, behind_row, facts_behind, front_facts}
use Rattle.fuse_contract.specs.Joining.{front_rows, loop_over, loop_rows, no_facts, row_rows}
use Rattle.fuse_contract.specs.declared.joins.Walk.{Walk}
use Rattle.fuse_contract.proofs.WalkedLemmas as walked
use Rattle.fuse_contract.proofs.WalkedLemmas.{IsStraightRow, draft_with}

abbrev close : Facts → List Grouped
close facts = last_rows facts.last

abbrev facts_of : List Item → Option Loop → Facts
facts_of known last = record { known = known; last = last }

module _ (tables : Tables) where
  abbrev closed : Facts → List Instr → List Grouped
  closed = walked.closed {F = Facts} tables.code no_facts (row_rows tables) (behind_row tables) close

  -- ---- a stretch
  loop_closed : (known : List Item) (last : Option Loop) (loop : Loop) (rows : List Instr)
      (rest : Loop → List Grouped)
      → ((one : Loop) → closed (facts_of (references_of tables loop.slot loop.group ++ known)
      (Some one)) rows ≡ rest one)
      → loop_rows tables (facts_of known last) loop
      ++ closed (behind_loop tables (facts_of known last) loop) rows
      ≡ with_loop tables known last loop rest
  loop_closed known None loop rows rest same = same loop
  loop_closed known (Some last) loop rows rest same = by (joins tables known last loop)
    where
      by : (b : Bool)
          → (if b then [] else last_rows (Some last))
          ++ closed (facts_of (references_of tables loop.slot loop.group ++ known)
          (Some (if b then both tables last loop else loop))) rows
          ≡ (if b then rest (both tables last loop) else Runs last.slot last.group ∷ rest loop)
      by true = same (both tables last loop)
      by false = ap (λ l. Runs last.slot last.group ∷ l) (same loop)

  plain_closed : (known more : List Item) (last : Option Loop) (row : Instr) (rows : List Instr)
      → closed (facts_of more None) rows ≡ joined tables more None (map (grouped tables) rows)
      → (last_rows last ++ Plain row ∷ []) ++ closed (facts_of more None) rows
      ≡ last_rows last ++ Plain row ∷ joined tables more None (map (grouped tables) rows)
  plain_closed known more last row rows same =
      append_assoc (last_rows last) (Plain row ∷ []) (closed (facts_of more None) rows)
      ∙ ap (λ l. last_rows last ++ Plain row ∷ l) same

  pub closed_is : (known : List Item) (last : Option Loop) (rows : List Instr)
      → closed (facts_of known last) rows ≡ joined tables known last (map (grouped tables) rows)
  closed_is known last [] = refl
  closed_is known last (instr.Loop slot group ∷ rows) =
      let loop = loop_over tables slot group in
      loop_closed known last loop rows
      (λ one. joined tables (references_of tables loop.slot loop.group ++ known) (Some one)
      (map (grouped tables) rows))
      (λ one. closed_is (references_of tables loop.slot loop.group ++ known) (Some one) rows)
  closed_is known last (row ∷ rows) =
      plain_closed known (known_behind known row) last row rows
      (closed_is (known_behind known row) None rows)

  -- ---- what is written is straight
  last_straight : (last : Option Loop) → AllByRecursion IsStraightRow (last_rows last)
  last_straight None = tt
  last_straight (Some loop) = (tt, tt)

  loop_straight : (b : Bool) (last : Option Loop)
      → AllByRecursion IsStraightRow (if b then [] else last_rows last)
  loop_straight true last = tt
  loop_straight false last = last_straight last

  joins_of : (facts : Facts) (loop : Loop)
      → AllByRecursion IsStraightRow (loop_rows tables facts loop)
  joins_of facts loop = loop_straight _ facts.last

  row_straight : (facts : Facts) (row : Instr) → ends_stretch row ≡ false
      → AllByRecursion IsStraightRow (row_rows tables facts row)
  row_straight facts (instr.Loop slot group) ends = joins_of facts (loop_over tables slot group)
  row_straight facts row ends =
      every_append IsStraightRow (last_rows facts.last) (Plain row ∷ []) (last_straight facts.last)
      (ends, tt)

  -- ---- the rows in front of one
  abbrev pub IsJoining : Draft → List ℕ → Facts → ℕ → Type 0
  IsJoining draft noted facts at =
      walked.IsWalked {F = Facts} tables.code no_facts (row_rows tables) (behind_row tables) close draft noted facts at

  put_is : (facts : Facts) (row : Instr)
      → row_rows tables facts row
      ≡ walked.put_rows {F = Facts} tables.code no_facts (row_rows tables) (behind_row tables) close
      (ends_stretch row) facts row
  put_is facts (instr.Loop slot group) = refl
  put_is facts row = refl

  learnt_is : (facts : Facts) (row : Instr)
      → walked.learnt {F = Facts} tables.code no_facts (row_rows tables) (behind_row tables) close
      (ends_stretch row) facts row
      ≡ facts_behind tables facts row
  learnt_is facts (instr.Loop slot group) = refl
  learnt_is facts row = refl

  front_is : (b : Bool) (facts : Facts)
      → front_rows b facts
      ≡ walked.in_front {F = Facts} tables.code no_facts (row_rows tables) (behind_row tables) close b
      facts
  front_is true facts = refl
  front_is false facts = refl

  known_is : (b : Bool) (facts : Facts)
      → walked.known {F = Facts} tables.code no_facts (row_rows tables) (behind_row tables) close b
      facts
      ≡ front_facts b facts
  known_is true facts = refl
  known_is false facts = refl

  joining_steps : (old front new : Draft) (noted : List ℕ) (facts : Facts) (at : ℕ) (row : Instr)
      → slice_get tables.code at ≡ Some row → (b : Bool) → is_goal tables.code at ≡ b
      → front ≡ with_rows old (front_rows b facts)
      → new ≡ with_rows front (row_rows tables (front_facts b facts) row)
      → IsJoining old noted facts at
      → IsJoining new (noted ++ length front.code ∷ [])
      (facts_behind tables (front_facts b facts) row) (at + 1)
  joining_steps old front new noted facts at row there b goal front_written new_written is =
      let now = walked.known {F = Facts} tables.code no_facts (row_rows tables) (behind_row tables)
      close b facts in
      subst (λ next. IsJoining new (noted ++ length front.code ∷ []) next (at + 1))
      (learnt_is now row ∙ ap (λ f. facts_behind tables f row) (known_is b facts))
      (walked.walk_steps {F = Facts} tables.code no_facts (row_rows tables) (behind_row tables) close
      old front new noted facts at row there b goal
      (front_written ∙ ap (with_rows old) (front_is b facts))
      (new_written ∙ ap (with_rows front)
      (ap (λ f. row_rows tables f row) (sym (known_is b facts)) ∙ put_is now row)) is)

  -- ---- the walk in memory
  pub record IsFusing (walk : Walk) (noted : List ℕ) (at : ℕ) : Type 0 where
    pub facts : Facts
    pub joining : IsJoining walk.draft noted facts at
    pub behind : IsBehind tables walk facts

  pub fusing_begins : (walk : Walk) (noted : List ℕ) → walk.draft ≡ empty_draft → noted ≡ []
      → IsBehind tables walk no_facts → IsFusing walk noted 0
  fusing_begins walk noted none no_numbers behind = record {
    facts = no_facts;
    joining =
        subst (λ draft. IsJoining draft noted no_facts 0) (sym none)
        (subst (λ n. IsJoining empty_draft n no_facts 0) (sym no_numbers)
        (walked.walk_begins {F = Facts} tables.code no_facts (row_rows tables) (behind_row tables)
        close));
    behind = behind;
  }

  pub fusing_steps : (old front new : Walk) (noted more : List ℕ) (at : ℕ) (row : Instr) (b : Bool)
      → slice_get tables.code at ≡ Some row → is_goal tables.code at ≡ b
      → GoesOn tables old front (front_rows b) (front_facts b)
      → more ≡ noted ++ length front.draft.code ∷ []
      → GoesOn tables front new (λ facts. row_rows tables facts row)
      (λ facts. facts_behind tables facts row)
      → IsFusing old noted at → IsFusing new more (at + 1)
  fusing_steps old front new noted more at row b there goal to_front noting to_new is =
      let first = to_front is.facts is.behind in
      let second = to_new (front_facts b is.facts) first.1 in
      record {
        facts = facts_behind tables (front_facts b is.facts) row;
        joining =
            subst (λ n. IsJoining new.draft n (facts_behind tables (front_facts b is.facts) row)
            (at + 1)) (sym noting)
            (joining_steps old.draft front.draft new.draft noted is.facts at row there b goal
            first.0 second.0 is.joining);
        behind = second.1;
      }

  pub fusing_ends : (old last : Walk) (noted : List ℕ) (at : ℕ) → length tables.code ≤ at
      → GoesOn tables old last (λ facts. last_rows facts.last) (λ facts. record facts { last = None })
      → IsFusing old noted at
      → moved_draft noted last.draft
      ≡ draft_with (fused tables).code (fused tables).groups
  fusing_ends old last noted at past closing is =
      walked.walk_ends {F = Facts} tables.code no_facts (row_rows tables) (behind_row tables) close
      refl (λ facts. last_straight facts.last) row_straight old.draft last.draft noted is.facts at
      past (closing is.facts is.behind).0 is.joining
      ∙ ap (λ f. draft_with (all_numbered 0 (passed f ended_by (stretches_of tables.code)))
      (groups_of (passed f ended_by (stretches_of tables.code))))
      (fun_ext (λ rows. closed_is [] None rows))
