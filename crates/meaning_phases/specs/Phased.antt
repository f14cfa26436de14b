-- The five phases of a statement that has no other in it, and what it is that they come one after
-- the other.
use Rattle.std.specs.Prelude.{◌≡◌, ◌⊎◌, ℕ, Bool, true, false}
use Rattle.zpl_nums.specs.declared.ends.End.TheVariants.{Trap}
use Rattle.zpl_nums.specs.declared.ends.TrapKind.{TrapKind}
use Rattle.zpl_nums.specs.declared.ends.TrapKind.TheVariants.{OutsideStorage, RegionMismatch}
use Rattle.zpl_meaning.specs.Computed.{Computed, Gives, Traps}
use Rattle.zpl_meaning.specs.Store.{Store}
use Rattle.zpl_meaning.specs.Term.{Terms}
use Rattle.zpl_meaning.specs.Outcome.{Outcome, ends}

-- What each of them does, and what comes of all: a new store and bytes, or what a test, a loop or a
-- call goes on with.
pub record Phases (Values Effect : Type 0) : Type 0 where
  -- the regions written in it, in text order; its expressions are terms then
  pub regions : Computed Terms
  -- whether the regions conform
  pub conformity : Terms → Bool
  -- whether all references lie in the storages
  pub references : Terms → Bool
  -- the values at each tuple that isn't masked out
  pub values : Terms → Computed Values
  -- what is written, printed or handed on
  pub effect : Values → Effect

module _ {Values Effect : Type 0} (phases : Phases Values Effect) where
  -- the first of them that fails gives the trap
  pub data Fails : TrapKind → Type 0 where
    InRegions : (kind : TrapKind) → phases.regions ≡ Traps kind → Fails kind
    InConformity : (terms : Terms) → phases.regions ≡ Gives terms →
        phases.conformity terms ≡ false → Fails RegionMismatch
    InReferences : (terms : Terms) → phases.regions ≡ Gives terms →
        phases.conformity terms ≡ true → phases.references terms ≡ false → Fails OutsideStorage
    InValues : (terms : Terms) (kind : TrapKind) → phases.regions ≡ Gives terms →
        phases.conformity terms ≡ true → phases.references terms ≡ true →
        phases.values terms ≡ Traps kind → Fails kind

  -- none fails, and these are the values
  pub record Has (values : Values) : Type 0 where
    pub terms : Terms
    pub regions : phases.regions ≡ Gives terms
    pub conforms : phases.conformity terms ≡ true
    pub refers : phases.references terms ≡ true
    pub computed : phases.values terms ≡ Gives values

  -- one fails, or none
  abbrev pub FailsOrHas : Type 0
  FailsOrHas = ((kind : TrapKind) × Fails kind) ⊎ ((values : Values) × Has values)

  -- an evaluation that is these phases, one after the other
  pub record IsComputedIn (computed : Computed Effect) : Type 0 where
    pub fails : (kind : TrapKind) → Fails kind → computed ≡ Traps kind
    pub has : (values : Values) → Has values → computed ≡ Gives (phases.effect values)
    pub decided : FailsOrHas

-- A statement that is these phases: where one fails it ends with the trap, and has written and
-- printed nothing; where none does, it has its whole effect.
pub record IsRunIn {Values : Type 0} (phases : Phases Values Outcome) (store : Store) (line : ℕ)
    (outcome : Outcome) : Type 0 where
  pub fails : (kind : TrapKind) → Fails phases kind → outcome ≡ ends store (Trap kind line)
  pub has : (values : Values) → Has phases values → outcome ≡ phases.effect values
  pub decided : FailsOrHas phases
