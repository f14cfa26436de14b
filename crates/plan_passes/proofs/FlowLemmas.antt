-- Flows that are tied by being the same, and good.
use Rattle.std.proofs.Common.{◌≡◌, refl, sym, subst, ℕ, List, []}
use Rattle.row_runs.specs.Straight.{Flow, Halts, OnTo, Tied, TiedHalt, TiedOn, TiedWrong, flow_behind}
use Rattle.row_runs.specs.Straight.{flow_then}
use Rattle.plan_passes.proofs.AwaitLemmas.{Await}
use Rattle.plan_passes.proofs.EarlyLemmas.{IfOn}

module _ (P : Await → Type 0) where
  abbrev pub Like : Await → Await → Type 0
  Like s t = (s ≡ t) × P t

  pub tied_self : (f : Flow Await) → IfOn P f → Tied Like f f
  tied_self (OnTo bytes s) is = TiedOn (refl, is)
  tied_self (Halts bytes stop) is = TiedHalt

  pub tied_behind : (bytes : List ℕ) (f g : Flow Await) → Tied Like f g
      → Tied Like (flow_behind bytes f) (flow_behind bytes g)
  tied_behind bytes f g TiedWrong = TiedWrong
  tied_behind bytes f g (TiedOn like) = TiedOn like
  tied_behind bytes f g TiedHalt = TiedHalt

  pub tied_then : (f : Flow Await) (next other : Await → Flow Await) → IfOn P f
      → ((s : Await) → P s → Tied Like (next s) (other s))
      → Tied Like (flow_then f next) (flow_then f other)
  tied_then (OnTo bytes s) next other is more = tied_behind bytes (next s) (other s) (more s is)
  tied_then (Halts bytes stop) next other is more = TiedHalt

  pub tied_trans : (f g h : Flow Await) → Tied Like f g → Tied Like g h → Tied Like f h
  tied_trans f g h TiedWrong two = TiedWrong
  tied_trans f g h (TiedOn {bytes = bytes} like) two =
      subst (λ s. Tied Like (OnTo bytes s) h) (sym like.0) two
  tied_trans f g h TiedHalt two = two

pub behind_nothing : (f : Flow Await) → flow_behind [] f ≡ f
behind_nothing (OnTo bytes s) = refl
behind_nothing (Halts bytes stop) = refl

pub weaker_on : (P Q : Await → Type 0) → ((s : Await) → P s → Q s) → (f : Flow Await) → IfOn P f
    → IfOn Q f
weaker_on P Q more (OnTo bytes s) is = more s is
weaker_on P Q more (Halts bytes stop) is = tt
