-- Faults that are told hold.
use Rattle.std.proofs.Common.{◌≡◌, List, Result, Ok, Err, IfErr, IsErrAnd, inl, inr, sym, subst}
use Rattle.zpl_tree.specs.Syntax.{Program}
use Rattle.zpl_binding.specs.Settings.{Setting}
use Rattle.zpl_binding.specs.Regions.{Known}
use Rattle.zpl_binding.specs.Declarations.{known_of}
use Rattle.zpl_binding.specs.Copies.{HasCopyPastLimit}
use Rattle.zpl_binding.specs.Bound.{faults_of}
use Rattle.zpl_bind.specs.declared.faults.BindFault.{BindFault}
use Rattle.zpl_bind.specs.declared.faults.BindFault.TheVariants.{UnknownConfig, ConfigType, TwiceSet, BadConstant, RegionLimit, DirectionLimit, NoMemory}
use Rattle.zpl_bind.specs.Fault.{IsAmong}
use Rattle.zpl_copies.specs.Flows.{TellsOf}
use Rattle.zpl_bound.specs.Faults.{Holds}

among-holds : (program : Program) (settings : List Setting) (fault : BindFault) →
    IsAmong fault (faults_of program settings) → Holds program settings fault
among-holds program settings UnknownConfig h = h
among-holds program settings ConfigType h = h
among-holds program settings TwiceSet h = h
among-holds program settings BadConstant h = h
among-holds program settings RegionLimit h = inl h
among-holds program settings DirectionLimit h = h
among-holds program settings NoMemory h = tt

copy-holds : (program : Program) (settings : List Setting) (known : Known) (fault : BindFault) →
    known ≡ known_of program settings → TellsOf (HasCopyPastLimit program known) fault →
    Holds program settings fault
copy-holds program settings known RegionLimit same h =
    inr (subst (HasCopyPastLimit program) same h)
copy-holds program settings known NoMemory same h = tt
copy-holds program settings known UnknownConfig same h = absurd h
copy-holds program settings known ConfigType same h = absurd h
copy-holds program settings known TwiceSet same h = absurd h
copy-holds program settings known BadConstant same h = absurd h
copy-holds program settings known DirectionLimit same h = absurd h

pub told-declared : {T : Type 0} (r : Result T BindFault) (program : Program)
    (settings : List Setting) (fault : BindFault) → IsErrAnd r (λ e. e ≡ fault) →
    IsAmong fault (faults_of program settings) → IfErr r (Holds program settings)
told-declared (Err e) program settings fault is there =
    subst (Holds program settings) (sym is) (among-holds program settings fault there)
told-declared (Ok x) program settings fault is there = absurd is

pub told-copy : {T : Type 0} (r : Result T BindFault) (program : Program)
    (settings : List Setting) (known : Known) (fault : BindFault) → IsErrAnd r (λ e. e ≡ fault) →
    known ≡ known_of program settings → TellsOf (HasCopyPastLimit program known) fault →
    IfErr r (Holds program settings)
told-copy (Err e) program settings known fault is same there =
    subst (Holds program settings) (sym is) (copy-holds program settings known fault same there)
told-copy (Ok x) program settings known fault is same there = absurd is
