-- What is computed of a program's declarations before it runs, or the fault that stops it.
use Rattle.std.specs.Prelude.{ℕ, List, [], ◌∷◌, Option, Some, None, find}
use Rattle.std.specs.Str.{bytes_eq}

-- What can be wrong with settings, and with declarations under these settings.
pub data BindFault : Type 0 where
  -- a setting's name is no config's
  UnknownConfig : BindFault
  -- a setting's value is none of its config's type
  ConfigType : BindFault
  -- a name is set a second time
  TwiceSet : BindFault
  -- a divisor is 0 in a declaration or a vector
  BadConstant : BindFault
  -- a declared region, a storage or the storage of a copy passes the limit of regions
  RegionLimit : BindFault
  -- a component of a vector is out of range
  DirectionLimit : BindFault

-- A value, or a fault: its own, or that of something that it is computed from.
pub data Outcome (A : Type 0) : Type 0 where
  Gives : (value : A) → Outcome A
  Fails : (fault : BindFault) → Outcome A

-- goes on with the value, where there is one
abbrev pub and_then : {A B : Type 0} → Outcome A → (A → Outcome B) → Outcome B
and_then (Gives value) next = next value
and_then (Fails fault) next = Fails fault

abbrev pub outcome_map : {A B : Type 0} → (A → B) → Outcome A → Outcome B
outcome_map f (Gives value) = Gives (f value)
outcome_map f (Fails fault) = Fails fault

-- the value, where there is one
abbrev pub value_or : {A : Type 0} → A → Outcome A → A
value_or default (Gives value) = value
value_or default (Fails fault) = default

-- the fault, where there is one
abbrev pub failures : {A : Type 0} → List (Outcome A) → List BindFault
failures [] = []
failures (Gives value ∷ rest) = failures rest
failures (Fails fault ∷ rest) = fault ∷ failures rest

-- What was computed for a name.
pub record Computed (A : Type 0) : Type 0 where
  pub name : List ℕ
  pub outcome : Outcome A

abbrev pub outcome_or : {A : Type 0} → A → Option (Computed A) → Outcome A
outcome_or default None = Gives default
outcome_or default (Some computed) = computed.outcome

-- That of a name, of two of one name the first. A name for which there is none, as no name of an
-- accepted program is, counts as the given value.
abbrev pub outcome_of : {A : Type 0} → A → List (Computed A) → List ℕ → Outcome A
outcome_of default all text = outcome_or default (find (λ one. bytes_eq one.name text) all)
