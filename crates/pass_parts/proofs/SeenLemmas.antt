-- What is seen of references and loops along the rows of a stretch.
use Rattle.std.proofs.Common.{◌≡◌, ◌⊎◌, inl, inr, refl, ap, ◌∙◌, subst, ℕ, ◌==◌, Bool, true}
use Rattle.std.proofs.Common.{false, not, List, [], ◌∷◌, ◌++◌, append_assoc}
use Rattle.std.specs.Prelude.{◌&&◌, ◌||◌, fold, Option, Some, None}
use Rattle.std.specs.List.{list_all}
use Rattle.std.proofs.lemmas.Bool.{and_from}
use Rattle.std.proofs.lemmas.Bool.Decides.{Decides-eqb}
use Rattle.node_form.specs.declared.arrays.Item.{Item}
use Rattle.node_form.specs.declared.instructions.Instr.{Instr}
use Rattle.node_form.specs.declared.instructions.Instr.TheVariants as instr
use Rattle.node_form.specs.declared.tables.Tables.{Tables}
use Rattle.code_parts.specs.Fused.{are_joinable}
use Rattle.code_parts.specs.Stretch.{IsRightInStretches, IsStretch, is_right_throughout}
use Rattle.code_parts.specs.Uses.{members_of}
use Rattle.code_parts.proofs.WalkLemmas.{throughout}
use Rattle.pass_sizes.specs.of_fuse_contract.Fusing.{known_behind, lies_within, references_of, stands_with}
use Rattle.pass_parts.specs.Parts.{CanBeFused, known_after, known_with}

-- the references that are known, and the loop directly in front of a row
pub record Seen : Type 0 where
  pub known : List Item
  pub last : Option (ℕ × ℕ)

abbrev pub nothing_seen : Seen
nothing_seen = record { known = []; last = None }

module _ (tables : Tables) where
  abbrev pub seen_with : Seen → Instr → Seen
  seen_with seen (instr.Loop slot group) = record {
    known = references_of tables slot (members_of tables group) ++ seen.known;
    last = Some (slot, group);
  }
  seen_with seen row = record { known = known_behind seen.known row; last = None }

  abbrev pub could_join : Option (ℕ × ℕ) → ℕ → ℕ → Bool
  could_join None slot group = false
  could_join (Some loop) slot group = (loop.0 == slot) && are_joinable tables loop.1 group

  abbrev pub all_known : List Item → ℕ → ℕ → Bool
  all_known known slot group =
      list_all (lies_within tables known) (references_of tables slot (members_of tables group))

  -- the loop may stand wherever the last one does
  abbrev pub may_stand : Option (ℕ × ℕ) → ℕ → Bool
  may_stand None group = true
  may_stand (Some loop) group =
      stands_with tables (members_of tables loop.1) (members_of tables group)

  abbrev pub is_known : Seen → Instr → Bool
  is_known seen (instr.Loop slot group) =
      not (could_join seen.last slot group)
      || (may_stand seen.last group && all_known seen.known slot group)
  is_known seen row = true

  -- ---- behind rows
  abbrev seen_after : List Instr → Seen
  seen_after rows = fold seen_with nothing_seen rows

  one_known : (seen : Seen) (row : Instr)
      → (seen_with seen row).known ≡ known_with tables seen.known row
  one_known seen (instr.Loop slot group) = refl
  one_known seen row = refl

  same_known : (rows : List Instr) (seen : Seen) (known : List Item) → seen.known ≡ known
      → (fold seen_with seen rows).known ≡ fold (known_with tables) known rows
  same_known [] seen known is = is
  same_known (row ∷ rows) seen known is =
      same_known rows (seen_with seen row) (known_with tables known row)
      (one_known seen row ∙ ap (λ l. known_with tables l row) is)

  -- the loop stands last
  record IsLast (rows : List Instr) (loop : ℕ × ℕ) : Type 0 where
    before : List Instr
    is : rows ≡ before ++ instr.Loop loop.0 loop.1 ∷ []

  one_last : (seen : Seen) (row : Instr) (loop : ℕ × ℕ) → (seen_with seen row).last ≡ Some loop
      → row ≡ instr.Loop loop.0 loop.1
  one_last seen (instr.Loop slot group) loop is =
      let same : (slot, group) ≡ loop = cc in
      ap (λ (loop : ℕ × ℕ). instr.Loop loop.0 loop.1) same
  one_last seen row loop is = let none : None ≡ Some loop = is in cc

  found : (rows : List Instr) (seen : Seen) (loop : ℕ × ℕ)
      → (fold seen_with seen rows).last ≡ Some loop
      → ((rows ≡ []) × (seen.last ≡ Some loop)) ⊎ IsLast rows loop
  found [] seen loop is = inl (refl, is)
  found (row ∷ rows) seen loop is = by (found rows (seen_with seen row) loop is)
    where
      by : ((rows ≡ []) × ((seen_with seen row).last ≡ Some loop)) ⊎ IsLast rows loop
          → ((row ∷ rows ≡ []) × (seen.last ≡ Some loop)) ⊎ IsLast (row ∷ rows) loop
      by (inl here) =
          inr (record {
            before = [];
            is =
                ap (λ l. row ∷ l) here.0
                ∙ ap (λ one. one ∷ []) (one_last seen row loop here.1);
          })
      by (inr l) = inr (record { before = row ∷ l.before; is = ap (λ l. row ∷ l) l.is })

  last_of : (rows : List Instr) (loop : ℕ × ℕ) → (seen_after rows).last ≡ Some loop
      → IsLast rows loop
  last_of rows loop is = by (found rows nothing_seen loop is)
    where
      by : ((rows ≡ []) × (None ≡ Some loop)) ⊎ IsLast rows loop → IsLast rows loop
      by (inl none) = let e : None ≡ Some loop = none.1 in cc
      by (inr l) = l

  -- ---- what can be fused is known wherever a loop could be joined
  known_there : CanBeFused tables → (before : List Instr) (slot group : ℕ)
      → IsStretch tables.code (before ++ instr.Loop slot group ∷ [])
      → (not (could_join (seen_after before).last slot group)
      || (may_stand (seen_after before).last group
      && all_known (seen_after before).known slot group)) ≡ true
  known_there can before slot group s = by (seen_after before).last refl
    where
      standing : (loop : ℕ × ℕ) → IsLast before loop → (loop.0 == slot) ≡ true
          → are_joinable tables loop.1 group ≡ true
          → (stands_with tables (members_of tables loop.1) (members_of tables group)
          && all_known (seen_after before).known slot group) ≡ true
      standing loop l same joinable =
          let here : loop.0 ≡ slot = (Decides-eqb loop.0 slot).0 same in
          let rows : before ≡ l.before ++ instr.Loop slot loop.1 ∷ [] =
          l.is ∙ ap (λ n. l.before ++ instr.Loop n loop.1 ∷ []) here in
          let place : before ++ instr.Loop slot group ∷ []
          ≡ l.before ++ instr.Loop slot loop.1 ∷ instr.Loop slot group ∷ [] =
          ap (λ rows. rows ++ instr.Loop slot group ∷ []) rows
          ∙ append_assoc l.before (instr.Loop slot loop.1 ∷ []) (instr.Loop slot group ∷ []) in
          let stretch = subst (IsStretch tables.code) place s in
          and_from (stands_with tables (members_of tables loop.1) (members_of tables group))
          (all_known (seen_after before).known slot group)
          (can.stands l.before slot loop.1 group stretch joinable)
          (ap (λ known. all_known known slot group)
          (same_known before nothing_seen [] refl ∙ ap (known_after tables) rows)
          ∙ can.known l.before slot loop.1 group stretch joinable)

      cases : (loop : ℕ × ℕ) → IsLast before loop → (a b : Bool) → (loop.0 == slot) ≡ a
          → are_joinable tables loop.1 group ≡ b
          → (not (a && b)
          || (stands_with tables (members_of tables loop.1) (members_of tables group)
          && all_known (seen_after before).known slot group)) ≡ true
      cases loop l true true same joinable = standing loop l same joinable
      cases loop l true false same joinable = refl
      cases loop l false b same joinable = refl

      by : (last : Option (ℕ × ℕ)) → (seen_after before).last ≡ last
          → (not (could_join last slot group)
          || (may_stand last group && all_known (seen_after before).known slot group)) ≡ true
      by None is = refl
      by (Some loop) is =
          cases loop (last_of before loop is) (loop.0 == slot) (are_joinable tables loop.1 group)
          refl refl

  all_there : CanBeFused tables → IsRightInStretches nothing_seen seen_with is_known tables.code
  all_there can before (instr.Loop slot group) s = known_there can before slot group s
  all_there can before row s = refl

  pub known_throughout : CanBeFused tables
      → is_right_throughout nothing_seen seen_with is_known tables.code ≡ true
  known_throughout can = throughout nothing_seen seen_with is_known tables.code (all_there can)
