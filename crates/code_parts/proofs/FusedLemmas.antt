-- The walk for fused loops says what is said of stretches.
use Rattle.std.proofs.Common.{◌≡◌, ◌⊎◌, inl, inr, ◌↔◌, ℕ, ◌==◌, Bool, true, false, not, refl, sym}
use Rattle.std.proofs.Common.{ap, ◌∙◌, subst, List, [], ◌∷◌, ◌++◌, Option, Some, None, true≢false}
use Rattle.std.proofs.Common.{append_assoc}
use Rattle.std.specs.Prelude.{◌&&◌, fold}
use Rattle.std.specs.List.{AllByRecursion}
use Rattle.std.proofs.lemmas.Bool.Decides.{Decides-eqb}
use Rattle.std.proofs.lemmas.List.Sums.{fold-append}
use Rattle.node_form.specs.declared.instructions.Instr.{Instr}
use Rattle.node_form.specs.declared.instructions.Instr.TheVariants as instr
use Rattle.node_form.specs.declared.tables.Tables.{Tables}
use Rattle.code_parts.specs.Fused.{IsFused, are_joinable, begins_anew, is_between_loops}
use Rattle.code_parts.specs.Fused.{is_fused, joins_last, last_loop}
use Rattle.code_parts.specs.Stretch.{IsRightInStretches, IsStretch}
use Rattle.code_parts.proofs.WalkLemmas.{in_stretches, stretch_front}
use Rattle.code_parts.proofs.WalkLemmas.{throughout}

abbrev IsNear : Instr → Type 0
IsNear row = is_between_loops row ≡ true

-- votes and exchanges keep the last loop
kept_by : (row : Instr) (last : Option (ℕ × ℕ)) → IsNear row → last_loop last row ≡ last
kept_by (instr.Vote group) last near = refl
kept_by (instr.TreeVote group) last near = refl
kept_by (instr.Start exchange) last near = refl
kept_by (instr.Finish exchange) last near = refl
kept_by _ last near = absurd (true≢false (sym near))

kept : (rows : List Instr) (last : Option (ℕ × ℕ)) → AllByRecursion IsNear rows
    → fold last_loop last rows ≡ last
kept [] last near = refl
kept (row ∷ rows) last near =
    ap (λ known. fold last_loop known rows) (kept_by row last near.0) ∙ kept rows last near.1

same_number : (n : ℕ) → (n == n) ≡ true
same_number n = (Decides-eqb n n).1 refl

not_true : (b : Bool) → b ≡ true → not b ≡ true → ⊥
not_true b is denied = true≢false (sym denied ∙ ap not is)

-- ---- where the last loop stands
record Last (rows : List Instr) (loop : ℕ × ℕ) : Type 0 where
  before : List Instr
  between : List Instr
  place : rows ≡ before ++ instr.Loop loop.0 loop.1 ∷ between
  near : AllByRecursion IsNear between

behind_row : (row : Instr) (rows : List Instr) (loop : ℕ × ℕ) → Last rows loop
    → Last (row ∷ rows) loop
behind_row row rows loop l = record {
  before = row ∷ l.before;
  between = l.between;
  place = ap (λ rest. row ∷ rest) l.place;
  near = l.near;
}

-- the row is the last loop, or keeps it
one_row : (row : Instr) (rows : List Instr) (known : Option (ℕ × ℕ)) (loop : ℕ × ℕ)
    → last_loop known row ≡ Some loop → AllByRecursion IsNear rows
    → ((known ≡ Some loop) × IsNear row) ⊎ Last (row ∷ rows) loop
one_row (instr.Loop slot group) rows known loop is near =
    let same : (slot, group) ≡ loop = cc in
    inr (record {
      before = [];
      between = rows;
      place = ap (λ (loop : ℕ × ℕ). instr.Loop loop.0 loop.1 ∷ rows) same;
      near = near;
    })
one_row (instr.Vote group) rows known loop is near = inl (is, refl)
one_row (instr.TreeVote group) rows known loop is near = inl (is, refl)
one_row (instr.Start exchange) rows known loop is near = inl (is, refl)
one_row (instr.Finish exchange) rows known loop is near = inl (is, refl)
one_row _ rows known loop is near = let no_loop : None ≡ Some loop = is in cc

found : (rows : List Instr) (known : Option (ℕ × ℕ)) (loop : ℕ × ℕ)
    → fold last_loop known rows ≡ Some loop
    → ((known ≡ Some loop) × AllByRecursion IsNear rows) ⊎ Last rows loop
found [] known loop is = inl (is, tt)
found (row ∷ rows) known loop is = from (found rows (last_loop known row) loop is)
  where
    over : AllByRecursion IsNear rows → ((known ≡ Some loop) × IsNear row) ⊎ Last (row ∷ rows) loop
        → ((known ≡ Some loop) × AllByRecursion IsNear (row ∷ rows)) ⊎ Last (row ∷ rows) loop
    over near (inl here) = inl (here.0, (here.1, near))
    over near (inr last) = inr last

    from : ((last_loop known row ≡ Some loop) × AllByRecursion IsNear rows) ⊎ Last rows loop
        → ((known ≡ Some loop) × AllByRecursion IsNear (row ∷ rows)) ⊎ Last (row ∷ rows) loop
    from (inl here) = over here.1 (one_row row rows known loop here.0 here.1)
    from (inr last) = inr (behind_row row rows loop last)

module _ (tables : Tables) where
  -- ---- from the walk to stretches
  fused_stretches : IsRightInStretches None last_loop (begins_anew tables) tables.code
      → IsFused tables
  fused_stretches right rows s h =
      let front = h.before ++ instr.Loop h.slot h.one ∷ h.between in
      let second = instr.Loop h.slot h.other in
      let place : rows ≡ (front ++ second ∷ []) ++ h.after =
      h.place
      ∙ sym (append_assoc h.before (instr.Loop h.slot h.one ∷ h.between) (second ∷ h.after))
      ∙ sym (append_assoc front (second ∷ []) h.after) in
      let part = stretch_front tables.code (front ++ second ∷ []) h.after
      (subst (IsStretch tables.code) place s) in
      let known : fold last_loop None front ≡ Some (h.slot, h.one) =
      fold-append last_loop None h.before (instr.Loop h.slot h.one ∷ h.between)
      ∙ kept h.between (Some (h.slot, h.one)) h.near in
      let joins : joins_last tables (fold last_loop None front) h.slot h.other ≡ true =
      ap (λ last. joins_last tables last h.slot h.other) known
      ∙ ap (λ b. b && are_joinable tables h.one h.other) (same_number h.slot)
      ∙ h.joinable in
      not_true (joins_last tables (fold last_loop None front) h.slot h.other) joins
      (right front second part)

  -- ---- and back
  right_loop : IsFused tables → (before : List Instr) (slot group : ℕ)
      → IsStretch tables.code (before ++ instr.Loop slot group ∷ [])
      → not (joins_last tables (fold last_loop None before) slot group) ≡ true
  right_loop fused before slot group s = by (fold last_loop None before) refl
    where
      joined : (loop : ℕ × ℕ) → Last before loop → (loop.0 == slot) ≡ true
          → are_joinable tables loop.1 group ≡ true → ⊥
      joined loop l same joinable =
          let here : loop.0 ≡ slot = (Decides-eqb loop.0 slot).0 same in
          fused (before ++ instr.Loop slot group ∷ []) s (record {
            slot = slot;
            one = loop.1;
            other = group;
            before = l.before;
            between = l.between;
            after = [];
            place =
                ap (λ rows. rows ++ instr.Loop slot group ∷ []) (l.place
                ∙ ap (λ n. l.before ++ instr.Loop n loop.1 ∷ l.between) here)
                ∙ append_assoc l.before (instr.Loop slot loop.1 ∷ l.between)
                (instr.Loop slot group ∷ []);
            near = l.near;
            joinable = joinable;
          })

      apart : (loop : ℕ × ℕ) → Last before loop → (a b : Bool) → (loop.0 == slot) ≡ a
          → are_joinable tables loop.1 group ≡ b → not (a && b) ≡ true
      apart loop l true true same joinable = absurd (joined loop l same joinable)
      apart loop l true false same joinable = refl
      apart loop l false b same joinable = refl

      standing : (loop : ℕ × ℕ)
          → ((None ≡ Some loop) × AllByRecursion IsNear before) ⊎ Last before loop
          → Last before loop
      standing loop (inl here) = let none : None ≡ Some loop = here.0 in cc
      standing loop (inr last) = last

      by : (known : Option (ℕ × ℕ)) → fold last_loop None before ≡ known
          → not (joins_last tables known slot group) ≡ true
      by None is = refl
      by (Some loop) is =
          apart loop (standing loop (found before None loop is)) (loop.0 == slot)
          (are_joinable tables loop.1 group) refl refl

  stretches_fused : IsFused tables
      → IsRightInStretches None last_loop (begins_anew tables) tables.code
  stretches_fused fused before (instr.Loop slot group) s = right_loop fused before slot group s
  stretches_fused fused before _ s = refl

  pub fused_either_way : (is_fused tables ≡ true) ↔ IsFused tables
  fused_either_way = (
    λ right. fused_stretches
        (in_stretches None last_loop (begins_anew tables) tables.code right),
    λ fused. throughout None last_loop (begins_anew tables) tables.code
        (stretches_fused fused),
  )
