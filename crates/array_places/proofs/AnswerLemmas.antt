-- What is passed on by `?`, and what stops a computation that goes on.
use Rattle.std.proofs.Common.{◌≡◌, sym, ap, ◌∙◌, subst}
use Rattle.std.specs.Prelude.{Result, Ok, Err, IsErrAnd}
use Rattle.zpl_nums.specs.declared.ends.TrapKind.{TrapKind}
use Rattle.array_stops.specs.of_zpl_meaning.Computed.{Computed, Gives, Traps, computed_then, both_then}
use Rattle.array_stops.specs.declared.stops.Stop.{Stop}
use Rattle.array_stops.specs.declared.stops.Stop.TheVariants.{Trap, NoMemory}
use Rattle.array_stops.specs.Answer.{Answers, Computes, ComputesAs, Stops}

-- ---- calls that take no memory

pub passed : {B : Type 0} (r : Result B TrapKind) (kind : TrapKind) (o : Computed B) →
    IsErrAnd r (λ e. e ≡ kind) → o ≡ Traps kind → Computes r o
passed (Err e) kind o is traps = traps ∙ ap Traps (sym is)
passed (Ok x) kind o is traps = absurd is

pub passed-as : {A B : Type 0} (r : Result A TrapKind) (kind : TrapKind) (seen : A → B)
    (o : Computed B) → IsErrAnd r (λ e. e ≡ kind) → o ≡ Traps kind → ComputesAs r seen o
passed-as (Err e) kind seen o is traps = traps ∙ ap Traps (sym is)
passed-as (Ok x) kind seen o is traps = absurd is

-- ---- calls that take memory

pub stopped : {A B : Type 0} (r : Result A Stop) (stop : Stop) (seen : A → B) (o : Computed B) →
    IsErrAnd r (λ e. e ≡ stop) → Stops stop o → Answers r seen o
stopped (Err e) stop seen o is stops = subst (λ e. Stops e o) (sym is) stops
stopped (Ok x) stop seen o is stops = absurd is

pub trapped : {A B : Type 0} (r : Result A Stop) (kind : TrapKind) (seen : A → B)
    (o : Computed B) → IsErrAnd r (λ e. e ≡ Trap kind) → o ≡ Traps kind → Answers r seen o
trapped r kind seen o is traps = stopped r (Trap kind) seen o is traps

pub wanting : {A B : Type 0} (r : Result A Stop) (seen : A → B) (o : Computed B) →
    IsErrAnd r (λ e. e ≡ NoMemory) → Answers r seen o
wanting r seen o is = stopped r NoMemory seen o is tt

-- ---- what goes on behind it stops too

pub stops-then : {A B : Type 0} (stop : Stop) (o : Computed A) (next : A → Computed B) →
    Stops stop o → Stops stop (computed_then o next)
stops-then (Trap kind) o next stops = ap (λ c. computed_then c next) stops
stops-then NoMemory o next stops = tt

pub stops-first : {A B C : Type 0} (stop : Stop) (one : Computed A) (other : Computed B)
    (next : A → B → Computed C) → Stops stop one → Stops stop (both_then one other next)
stops-first (Trap kind) one other next stops = ap (λ c. both_then c other next) stops
stops-first NoMemory one other next stops = tt

pub stops-second : {A B C : Type 0} (stop : Stop) (one : Computed A) (other : Computed B)
    (next : A → B → Computed C) (first : A) → one ≡ Gives first → Stops stop other →
    Stops stop (both_then one other next)
stops-second (Trap kind) one other next first is stops =
    ap (λ c. both_then c other next) is ∙ ap (λ c. both_then (Gives first) c next) stops
stops-second NoMemory one other next first is stops = tt
