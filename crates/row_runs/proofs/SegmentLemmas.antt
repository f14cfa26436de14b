-- A program rewritten segment by segment runs alike.
use Rattle.std.proofs.Common.{◌≡◌, refl, sym, ◌∙◌, ap, subst, arith, ℕ, zero, suc, ◌+◌, List, []}
use Rattle.std.proofs.Common.{◌∷◌}
use Rattle.std.proofs.Common.{◌++◌, length, drop}
use Rattle.zpl_nums.specs.declared.ends.End.TheVariants.{Done}
use Rattle.row_runs.specs.Run.{Ends, Result, Effect, stopped, walked, runs}
use Rattle.row_runs.specs.Segments.{Keeps, Same, Segment, olds, news, IsStart, Here, Behind}
use Rattle.row_runs.specs.Segments.{AllAlike}
use Rattle.row_runs.specs.Laws.{KeepRuns}
use Rattle.row_runs.proofs.RunLemmas.{walked_append}

drop_over : {X : Type 0} (xs ys : List X) (g : ℕ) → drop (length xs + g) (xs ++ ys) ≡ drop g ys
drop_over [] ys g = let e : 0 + g ≡ g = omega arith in ap (λ n. drop n ys) e
drop_over (x ∷ xs) ys g =
    let e : length (x ∷ xs) + g ≡ suc (length xs + g) = omega arith in
    ap (λ n. drop n (x ∷ xs ++ ys)) e ∙ drop_over xs ys g

module _ {S T Old New : Type 0} (act : Old → S → Effect S) (act' : New → T → Effect T)
    (IsLike : S → T → Type 0) where
  record Found (IsGoal : ℕ → ℕ → Type 0) (segments : List (Segment Old New))
      (g h : ℕ) : Type 0 where
    rest : List (Segment Old New)
    old : drop g (olds segments) ≡ olds rest
    new : drop h (news segments) ≡ news rest
    alike : (at at' : ℕ) → AllAlike act act' IsLike IsGoal segments at at'
        → AllAlike act act' IsLike IsGoal rest (at + g) (at' + h)

  found : (IsGoal : ℕ → ℕ → Type 0) (segments : List (Segment Old New)) (g h : ℕ)
      → IsStart segments g h
      → Found IsGoal segments g h
  found IsGoal segments g h (Here {segments = rest}) = record {
    rest = segments;
    old = refl;
    new = refl;
    alike = λ at at' all.
        let e : at ≡ at + 0 = omega arith in
        let f : at' ≡ at' + 0 = omega arith in
        subst (λ n. AllAlike act act' IsLike IsGoal segments n (at' + 0)) e
        (subst (λ n. AllAlike act act' IsLike IsGoal segments at n) f all);
  }
  found IsGoal segments g h (Behind {segment = first} {segments = others} {g = i} {h = j} start) =
      let more = found IsGoal others i j start in record {
        rest = more.rest;
        old = drop_over first.old (olds others) i ∙ more.old;
        new = drop_over first.new (news others) j ∙ more.new;
        alike = λ at at' all.
            let e : at + length first.old + i ≡ at + (length first.old + i) = omega arith in
            let f : at' + length first.new + j ≡ at' + (length first.new + j) = omega arith in
            subst (λ n. AllAlike act act' IsLike IsGoal more.rest n (at' + (length first.new + j)))
            e
            (subst (λ n. AllAlike act act' IsLike IsGoal more.rest (at + length first.old + i) n) f
            (more.alike (at + length first.old) (at' + length first.new) all.1));
      }

  abbrev old_end : S → Result
  old_end _ = stopped (Ends Done)

  abbrev new_end : T → Result
  new_end _ = stopped (Ends Done)

  walk_all : (IsGoal : ℕ → ℕ → Type 0) (leap : ℕ → S → Result) (leap' : ℕ → T → Result)
      → ((g h : ℕ) (s : S) (t : T) → IsGoal g h → IsLike s t → Keeps (leap g s) (leap' h t))
      → (segments : List (Segment Old New)) (at at' : ℕ)
      → AllAlike act act' IsLike IsGoal segments at at'
      → (s : S) (t : T) → IsLike s t
      → Keeps (walked act leap old_end at (olds segments) s)
      (walked act' leap' new_end at' (news segments) t)
  walk_all IsGoal leap leap' leaps [] at at' all s t like = Same refl
  walk_all IsGoal leap leap' leaps (first ∷ others) at at' all s t like =
      let old_rest : S → Result =
      λ s. walked act leap old_end (at + length first.old) (olds others) s in
      let new_rest : T → Result =
      λ t. walked act' leap' new_end (at' + length first.new) (news others) t in
      subst (λ r. Keeps r (walked act' leap' new_end at' (news (first ∷ others)) t))
      (sym (walked_append act leap old_end at first.old (olds others) s))
      (subst (λ r. Keeps (walked act leap old_rest at first.old s) r)
      (sym (walked_append act' leap' new_end at' first.new (news others) t))
      (all.0.alike leap leap' old_rest new_rest s t leaps
      (λ s t like.
      walk_all IsGoal leap leap' leaps others (at + length first.old)
      (at' + length first.new) all.1 s t like)
      like))

  -- from each start, and for each number of leaps and tests
  pub keeps_runs : KeepRuns act act' IsLike
  keeps_runs segments all zero g h s t start like = Same refl
  keeps_runs segments all (suc more) g h s t start like =
      let there = found (IsStart segments) segments g h start in
      let leap = runs act (olds segments) more in
      let leap' = runs act' (news segments) more in
      let e : 0 + g ≡ g = omega arith in
      let f : 0 + h ≡ h = omega arith in
      subst (λ rows. Keeps (walked act leap old_end g rows s)
      (runs act' (news segments) (suc more) h t))
      (sym there.old)
      (subst (λ rows. Keeps (walked act leap old_end g (olds there.rest) s)
      (walked act' leap' new_end h rows t))
      (sym there.new)
      (walk_all (IsStart segments) leap leap'
      (λ g h s t goal like. keeps_runs segments all more g h s t goal like) there.rest g h
      (subst (λ n. AllAlike act act' IsLike (IsStart segments) there.rest n h) e
      (subst (λ n. AllAlike act act' IsLike (IsStart segments) there.rest (0 + g) n) f
      (there.alike 0 0 all))) s t like))
