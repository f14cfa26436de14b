-- Faults and calls that are found, as the definitions see them.
use Rattle.std.specs.Prelude.{Option, Some, None}
use Rattle.name_kinds.specs.of_zpl_names.Accepted as kind
use Rattle.site_faults.specs.Findings as findings
use Rattle.site_faults.specs.declared.findings.FaultKind.{FaultKind}
use Rattle.site_faults.specs.declared.findings.FaultKind.TheVariants.{UnknownName, TwiceNamed, UnknownType, TypeClash, RankClash, NoRegion, FloodClash, ShatterBody, NotAssignable, Arguments, Recursion, ReturnPlace, CallPlace, MaskPlace, BorderForm, NoEntry, RankUnknown, DeepCalls}
use Rattle.site_faults.specs.declared.findings.Found.{Found}

abbrev pub kind_of : FaultKind → kind.FaultKind
kind_of UnknownName = kind.UnknownName
kind_of TwiceNamed = kind.TwiceNamed
kind_of UnknownType = kind.UnknownType
kind_of TypeClash = kind.TypeClash
kind_of RankClash = kind.RankClash
kind_of NoRegion = kind.NoRegion
kind_of FloodClash = kind.FloodClash
kind_of ShatterBody = kind.ShatterBody
kind_of NotAssignable = kind.NotAssignable
kind_of Arguments = kind.Arguments
kind_of Recursion = kind.Recursion
kind_of ReturnPlace = kind.ReturnPlace
kind_of CallPlace = kind.CallPlace
kind_of MaskPlace = kind.MaskPlace
kind_of BorderForm = kind.BorderForm
kind_of NoEntry = kind.NoEntry
kind_of RankUnknown = kind.RankUnknown
kind_of DeepCalls = kind.DeepCalls

abbrev pub found_of : Found → findings.Found
found_of found = (kind_of found.kind, found.at)

abbrev pub found_in : Option Found → Option findings.Found
found_in None = None
found_in (Some found) = Some (found_of found)
