-- All units at one index, in turns.
use Rattle.std.proofs.Common.{◌≡◌, refl, sym, ◌∙◌, ap, subst, ℕ, zero, suc, ◌+◌, ◌*◌, ◌<◌}
use Rattle.std.proofs.Common.{List, []}
use Rattle.std.proofs.Common.{◌∷◌, drop, append-nil, arith}
use Rattle.std.specs.Prelude.{Some, slice_get}
use Rattle.node_form.specs.declared.members.Member.{Member}
use Rattle.node_form.specs.declared.tables.Tables.{Tables}
use Rattle.node_form.specs.Nest.{Nest, Nothing, Putting, Keeping, Joining, Choosing, ChoosingElse}
use Rattle.node_form.specs.Nest.{Looping, Repeating, members_of}
use Rattle.node_form.specs.Group.{Access, Point, Runs, Ran, Through, Divided, ran, ran_from}
use Rattle.nest_meaning.specs.Nested.{Ways, Told, Fine, then_do, ways_of}
use Rattle.nest_meaning.specs.Units.{units_of, UnitsTold, unit_then, units_told}
use Rattle.nest_meaning.specs.Turns.{past, firsts, Leads, Come, ComeThrough}
use Rattle.nest_meaning.specs.Turns.{ComeDivided, ComeBack, ComeLost}
use Rattle.nest_meaning.specs.Laws.{ComeToTheSame}
use Rattle.nest_meaning.proofs.Spelled.{spelled, weight, positive, IsAt, drop_next, next_at}
use Rattle.nest_meaning.proofs.Spelled.{past_at}
use Rattle.nest_meaning.proofs.Spelled.{spelled_is, weight_is}
use Rattle.nest_meaning.proofs.TurnLemmas.{Comes, Passes, Ends, Waits, Loses, outer_there}
use Rattle.nest_meaning.proofs.TurnLemmas.{leads_then}
use Rattle.nest_meaning.proofs.TurnLemmas.{stays_then, stays_less, less_comes, put_comes}
use Rattle.nest_meaning.proofs.TurnLemmas.{keep_comes}
use Rattle.nest_meaning.proofs.TurnLemmas.{join_comes, choose_comes, choose_else_comes, while_comes}
use Rattle.nest_meaning.proofs.TurnLemmas.{repeat_comes, nest_comes, fits_times, fits_one}
use Rattle.nest_meaning.proofs.TurnLemmas.{loop_wide}

drop_first : {X : Type 0} (n : ℕ) (xs : List X) (x : X) (rest : List X) → drop n xs ≡ x ∷ rest
    → slice_get xs n ≡ Some x
drop_first zero [] x rest e = cc
drop_first zero (y ∷ xs) x rest e =
    let same : y ≡ x = cc in
    ap Some same
drop_first (suc n) [] x rest e = cc
drop_first (suc n) (y ∷ xs) x rest e = drop_first n xs x rest e

module _ {S : Type 0} (tables : Tables) (access : Access S) (all : List Member)
    (names : List ℕ) where
  abbrev run_on : ℕ → List Member → Point S → Ran S
  run_on number rest p = ran tables access all number Runs rest p

  abbrev ways : Ways (Point S)
  ways = ways_of tables access

  abbrev Own_by : ℕ → ℕ → Ran S → UnitsTold (Point S) → Type 0
  Own_by = Come tables access all names

  lead_owns : (j m v w : ℕ) → ((k : ℕ) → k < v → j + k < w)
      → (r s : Ran S) (own : UnitsTold (Point S)) → Leads tables access all j r s
      → Own_by m v s own → Own_by m w r own
  lead_owns j m v w fits r s own leads (ComeThrough {q = q} k less more) =
      ComeThrough (j + k) (fits k less)
      (leads_then tables access all j k r s (Through q) leads more)
  lead_owns j m v w fits r s own leads (ComeDivided {q = q} member k less named more) =
      ComeDivided member (j + k) (fits k less) named
      (leads_then tables access all j k r s (Divided member q) leads more)
  lead_owns j m v w fits r s own leads (ComeBack stays) =
      ComeBack (stays_less tables access all m (j + m) r (omega arith)
      (stays_then tables access all j m r s leads stays))
  lead_owns j m v w fits r s own leads ComeLost = ComeLost

  unit_owns : (m u v w : ℕ) → 0 < v → ((j k : ℕ) → j < u → k < v → j + k < w)
      → (r : Ran S) (mid : Point S → Ran S) (unit flag : ℕ)
      → slice_get names unit ≡ Some flag
      → (told : Told (Point S)) (next : Point S → UnitsTold (Point S))
      → Comes tables access all m u r mid flag told → ((q : Point S) → Own_by m v (mid q) (next q))
      → Own_by m w r (unit_then unit (then_do Fine told) next)
  unit_owns m u v w positive fits r mid unit flag named told next
      (Passes {q = q} j less leads) more =
      lead_owns j m v w (λ k l. fits j k less l) r (mid q) (next q) leads (more q)
  unit_owns m u v w positive fits r mid unit flag named told next (Ends k less leads) more =
      ComeDivided flag k
      (let e : k + 0 < w = fits k 0 less positive in omega (arith, e)) named leads
  unit_owns m u v w positive fits r mid unit flag named told next (Waits stays) more =
      ComeBack stays
  unit_owns m u v w positive fits r mid unit flag named told next Loses more = ComeLost

  pub nest_come : (n : ℕ) (nest : Nest) (number unit : ℕ) → IsAt all number (spelled nest []) []
      → drop unit names ≡ firsts nest number → (p : Point S)
      → Own_by n (weight n nest) (run_on number (spelled nest []) p)
      (units_told ways n unit (units_of nest) p)
  nest_come n Nothing number unit at named p = ComeThrough 0 (omega arith) refl
  nest_come n (Putting array expr mask line after) number unit at named p =
      unit_owns n 1 (weight n after) (weight n after) (positive n after)
      (fits_one (weight n after)) _ (λ q. run_on (number + 1) (spelled after []) q)
      unit number (drop_first unit names number _ named) _
      (λ q. units_told ways n (unit + 1) (units_of after) q)
      (put_comes tables access all n number number (spelled after [])
      (outer_there tables access all number number _ [] at refl) p array expr mask line)
      (λ q. nest_come n after (number + 1) (unit + 1) (next_at all number _ _ [] at)
      (drop_next unit names number _ named) q)
  nest_come n (Keeping cell expr mask line after) number unit at named p =
      unit_owns n 1 (weight n after) (weight n after) (positive n after)
      (fits_one (weight n after)) _ (λ q. run_on (number + 1) (spelled after []) q)
      unit number (drop_first unit names number _ named) _
      (λ q. units_told ways n (unit + 1) (units_of after) q)
      (keep_comes tables access all n number number (spelled after [])
      (outer_there tables access all number number _ [] at refl) p cell expr mask line)
      (λ q. nest_come n after (number + 1) (unit + 1) (next_at all number _ _ [] at)
      (drop_next unit names number _ named) q)
  nest_come n (Joining scalar fold expr mask line after) number unit at named p =
      unit_owns n 1 (weight n after) (weight n after) (positive n after)
      (fits_one (weight n after)) _ (λ q. run_on (number + 1) (spelled after []) q)
      unit number (drop_first unit names number _ named) _
      (λ q. units_told ways n (unit + 1) (units_of after) q)
      (join_comes tables access all n number number (spelled after [])
      (outer_there tables access all number number _ [] at refl) p scalar fold expr mask line)
      (λ q. nest_come n after (number + 1) (unit + 1) (next_at all number _ _ [] at)
      (drop_next unit names number _ named) q)
  nest_come n (Choosing expr mask line body after) number unit at named p =
      unit_owns n (weight n body) (weight n after) (weight n body * weight n after)
      (positive n after)
      (fits_times (weight n body) (weight n after)) _
      (λ q. run_on (past body (number + 1) + 1) (spelled after []) q)
      unit number (drop_first unit names number _ named) _
      (λ q. units_told ways n (unit + 1) (units_of after) q)
      (choose_comes tables access all n number number (spelled after []) [] refl expr mask line body
      (nest_comes tables access all n body) at p)
      (λ q. nest_come n after (past body (number + 1) + 1) (unit + 1)
      (past_at all (Choosing expr mask line body Nothing) number (spelled after []) [] at)
      (drop_next unit names number _ named) q)
  nest_come n (ChoosingElse expr mask line body otherwise after) number unit at named p =
      unit_owns n (weight n body * weight n otherwise) (weight n after)
      (weight n body * weight n otherwise * weight n after) (positive n after)
      (fits_times (weight n body * weight n otherwise) (weight n after)) _
      (λ q. run_on (past otherwise (past body (number + 1) + 1) + 1) (spelled after []) q)
      unit number (drop_first unit names number _ named) _
      (λ q. units_told ways n (unit + 1) (units_of after) q)
      (choose_else_comes tables access all n number number
      (spelled after []) [] refl expr mask line body otherwise (nest_comes tables access all n body)
      (nest_comes tables access all n otherwise) at p)
      (λ q. nest_come n after (past otherwise (past body (number + 1) + 1) + 1) (unit + 1)
      (past_at all (ChoosingElse expr mask line body otherwise Nothing) number
      (spelled after []) [] at) (drop_next unit names number _ named) q)
  nest_come n (Looping expr mask line body after) number unit at named p =
      unit_owns n (suc n * weight n body) (weight n after) (suc n * weight n body * weight n after)
      (positive n after)
      (fits_times (suc n * weight n body) (weight n after)) _
      (λ q. run_on (past body (number + 1) + 1) (spelled after []) q)
      unit number (drop_first unit names number _ named) _
      (λ q. units_told ways n (unit + 1) (units_of after) q)
      (less_comes tables access all n (suc (n * weight n body)) n (suc n * weight n body)
      (omega arith)
      (loop_wide n (weight n body) (positive n body)) _ _ _ number _ refl
      (while_comes tables access all n number number (spelled after []) [] refl mask line body
      (nest_comes tables access all n body) expr n (omega arith) at p))
      (λ q. nest_come n after (past body (number + 1) + 1) (unit + 1)
      (past_at all (Looping expr mask line body Nothing) number (spelled after []) [] at)
      (drop_next unit names number _ named) q)
  nest_come n (Repeating mask line body until after) number unit at named p =
      unit_owns n (suc n * weight n body) (weight n after) (suc n * weight n body * weight n after)
      (positive n after)
      (fits_times (suc n * weight n body) (weight n after)) _
      (λ q. run_on (past body (number + 1) + 1) (spelled after []) q)
      unit number (drop_first unit names number _ named) _
      (λ q. units_told ways n (unit + 1) (units_of after) q)
      (less_comes tables access all n (suc (n * weight n body)) n (suc n * weight n body)
      (omega arith)
      (loop_wide n (weight n body) (positive n body)) _ _ _ number _ refl
      (repeat_comes tables access all n number number (spelled after []) [] refl mask line body
      (nest_comes tables access all n body) until n (omega arith) at p))
      (λ q. nest_come n after (past body (number + 1) + 1) (unit + 1)
      (past_at all (Repeating mask line body until Nothing) number (spelled after []) [] at)
      (drop_next unit names number _ named) q)

pub come_to_the_same : (S : Type 0) → ComeToTheSame S
come_to_the_same S tables access nest n p =
    let all = members_of nest in
    let is : spelled nest [] ≡ all = spelled_is nest [] ∙ append-nil all in
    subst (λ w. Come tables access all (firsts nest 0) n w (ran_from tables access all 0 p)
    (units_told (ways_of tables access) n 0 (units_of nest) p)) (weight_is n nest)
    (subst (λ members. Come tables access all (firsts nest 0) n (weight n nest)
    (ran tables access all 0 Runs members p)
    (units_told (ways_of tables access) n 0 (units_of nest) p)) is
    (nest_come tables access all (firsts nest 0) n nest 0 0
    (record { ahead = sym is; open_there = refl }) refl p))
