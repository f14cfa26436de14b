-- All tuples of a region: what each comes to, together.
use Rattle.std.proofs.Common.{◌≡◌, refl, sym, ap, subst, ℕ, Bool, true, false, List, [], ◌∷◌, filter, ℤ, inl, inr}
use Rattle.std.specs.Prelude.{cond}
use Rattle.zpl_nums.specs.declared.ends.End.TheVariants.{Done, Trap, More}
use Rattle.zpl_nums.specs.declared.ends.TrapKind.TheVariants.{DivideByZero}
use Rattle.zpl_region.specs.declared.regions.Region.{Region}
use Rattle.zpl_region.specs.Region.{IsMember}
use Rattle.zpl_region.proofs.ListLemmas.{Among}
use Rattle.zpl_meaning.specs.Outcome.{Outcome}
use Rattle.zpl_meaning.specs.Points.{Run, runs_of, worse, worst}
use Rattle.node_form.specs.declared.tables.Tables.{Tables}
use Rattle.nest_meaning.specs.Nested.{Told, Fine}
use Rattle.flat_form.specs.Loop.{AllTold, AllFine, SomeZero, SomeWant, Column, Point, all_told, both_told}
use Rattle.flat_form.specs.Whole.{Whole}
use Rattle.array_runs.specs.of_zpl_lowering.Where.{Stored}
use Rattle.array_runs.specs.of_lowering_runs.Seen.{Spot}
use Rattle.point_runs.specs.Own.{own_store}
use Rattle.point_runs.proofs.AlikeLemmas.{GoAlike, BothGo, BothTrap, BothWant}
use Rattle.point_runs.proofs.MergeLemmas.{IsTarget, Left, NoneLeft, OneLeft, OneOut, columns}

module _ (tables : Tables) (region : Region) (spots : List Spot) (arrays : List Stored) (now : Whole)
    (cells : List ℤ) (line : ℕ) (outcome : List ℤ → Outcome) (kept : List ℤ → Bool)
    (told : Column → Told Point) where
  abbrev column : List ℤ → Column
  column t = record { at = t; cells = cells }

  abbrev Alike : List ℤ → Outcome → Told Point → Type 0
  Alike t = GoAlike (IsTarget tables region) (own_store spots arrays now t) line

  abbrev Lefts : List (List ℤ) → List Run → List Point → Type 0
  Lefts = Left tables region spots arrays now cells

  -- what a tuple comes to that isn't masked out, or is
  pub record EachAlike : Type 0 where
    pub runs : (t : List ℤ) → IsMember region t → kept t ≡ true
        → Alike t (outcome t) (told (column t))
    pub out : (t : List ℤ) → IsMember region t → kept t ≡ false
        → told (column t) ≡ Fine (record { cells = cells; log = [] })

  pub data AllAlike (ts : List (List ℤ)) (runs : List Run) : AllTold → Type 0 where
    AllGo : {points : List Point} → worst runs ≡ Done → Lefts ts runs points
        → AllAlike ts runs (AllFine points)
    OneTraps : worst runs ≡ Trap DivideByZero line → AllAlike ts runs SomeZero
    OneWants : worst runs ≡ More → AllAlike ts runs SomeWant

  one_more : (t : List ℤ) (ts : List (List ℤ)) (one : Outcome) (runs : List Run) (first : Told Point)
      (rest : AllTold) → Alike t one first → AllAlike ts runs rest
      → AllAlike (t ∷ ts) (record { tuple = t; outcome = one } ∷ runs) (both_told first rest)
  one_more t ts one runs first rest (BothGo puts) (AllGo e left) = AllGo e (OneLeft t puts left)
  one_more t ts one runs first rest (BothGo puts) (OneTraps e) = OneTraps e
  one_more t ts one runs first rest (BothGo puts) (OneWants e) = OneWants e
  one_more t ts one runs first rest BothTrap (AllGo e left) =
      OneTraps (ap (worse (Trap DivideByZero line)) e)
  one_more t ts one runs first rest BothTrap (OneTraps e) =
      OneTraps (ap (worse (Trap DivideByZero line)) e)
  one_more t ts one runs first rest BothTrap (OneWants e) =
      OneWants (ap (worse (Trap DivideByZero line)) e)
  one_more t ts one runs first rest BothWant (AllGo e left) = OneWants refl
  one_more t ts one runs first rest BothWant (OneTraps e) = OneWants refl
  one_more t ts one runs first rest BothWant (OneWants e) = OneWants refl

  one_out : (t : List ℤ) (ts : List (List ℤ)) (runs : List Run) (rest : AllTold)
      → AllAlike ts runs rest
      → AllAlike (t ∷ ts) runs (both_told (Fine (record { cells = cells; log = [] })) rest)
  one_out t ts runs rest (AllGo e left) = AllGo e (OneOut t left)
  one_out t ts runs rest (OneTraps e) = OneTraps e
  one_out t ts runs rest (OneWants e) = OneWants e

  abbrev pub together : List (List ℤ) → AllTold
  together ts = all_told told (columns tables region spots arrays now cells ts)

  by_kept : (t : List ℤ) (ts : List (List ℤ)) → EachAlike → IsMember region t → (b : Bool)
      → kept t ≡ b → AllAlike ts (runs_of outcome (filter kept ts)) (together ts)
      → AllAlike (t ∷ ts) (runs_of outcome (cond b (t ∷ filter kept ts) (filter kept ts)))
      (both_told (told (column t)) (together ts))
  by_kept t ts each m true e h =
      one_more t ts (outcome t) (runs_of outcome (filter kept ts)) (told (column t)) (together ts)
      (each.runs t m e) h
  by_kept t ts each m false e h =
      subst (λ (x : Told Point). AllAlike (t ∷ ts) (runs_of outcome (filter kept ts))
      (both_told x (together ts))) (sym (each.out t m e))
      (one_out t ts (runs_of outcome (filter kept ts)) (together ts) h)

  pub all_alike : EachAlike → (ts : List (List ℤ)) → ((u : List ℤ) → Among ts u → IsMember region u)
      → AllAlike ts (runs_of outcome (filter kept ts)) (together ts)
  all_alike each [] members = AllGo refl NoneLeft
  all_alike each (t ∷ ts) members =
      by_kept t ts each (members t (inl refl)) (kept t) refl
      (all_alike each ts (λ u k. members u (inr k)))
