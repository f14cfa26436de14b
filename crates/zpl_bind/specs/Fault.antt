-- Faults, how they are called, and what they say of what is computed.
use Rattle.std.specs.Prelude.{◌≡◌, ℕ, List, codes, Option, Some, None, Contains, Result, Ok, Err, MatchOption}
use Rattle.zpl_bind.specs.declared.faults.BindFault.{BindFault}
use Rattle.zpl_bind.specs.declared.faults.BindFault.TheVariants.{UnknownConfig, ConfigType, TwiceSet, BadConstant, RegionLimit, DirectionLimit, NoMemory}
use Rattle.zpl_parts.specs.of_zpl_binding.Outcome as plain
use Rattle.zpl_parts.specs.of_zpl_binding.Outcome.{Outcome, Gives, Fails}

abbrev pub fault_name : BindFault → List ℕ
fault_name UnknownConfig = codes "UnknownConfig"
fault_name ConfigType = codes "ConfigType"
fault_name TwiceSet = codes "TwiceSet"
fault_name BadConstant = codes "BadConstant"
fault_name RegionLimit = codes "RegionLimit"
fault_name DirectionLimit = codes "DirectionLimit"
fault_name NoMemory = codes "NoMemory"

-- the fault of settings or declarations that it tells, which want of memory is not
abbrev pub fault_of : BindFault → Option plain.BindFault
fault_of UnknownConfig = Some plain.UnknownConfig
fault_of ConfigType = Some plain.ConfigType
fault_of TwiceSet = Some plain.TwiceSet
fault_of BadConstant = Some plain.BadConstant
fault_of RegionLimit = Some plain.RegionLimit
fault_of DirectionLimit = Some plain.DirectionLimit
fault_of NoMemory = None

-- the outcome is this fault
pub record FailsAs {A : Type 0} (fault : BindFault) (outcome : Outcome A) : Type 0 where
  pub told : plain.BindFault
  pub tells : fault_of fault ≡ Some told
  pub fails : outcome ≡ Fails told

-- a call that takes no memory computes the outcome
abbrev pub Computes : {A : Type 0} → Result A BindFault → Outcome A → Type 0
Computes (Ok value) outcome = outcome ≡ Gives value
Computes (Err fault) outcome = FailsAs fault outcome

-- the fault is among these, or memory was wanting
abbrev pub IsAmong : BindFault → List plain.BindFault → Type 0
IsAmong fault faults = MatchOption (fault_of fault) (Unit {0}) (Contains faults)
