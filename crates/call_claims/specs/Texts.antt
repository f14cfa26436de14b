-- The texts that the program tells on the stream for errors, each one piece.
use Rattle.std.specs.Prelude.{ℕ, List, ◌++◌, codes}
use Rattle.std.specs.Fmt.{decimal}
use Rattle.zpl_nums.specs.declared.ends.TrapKind.{TrapKind}
use Rattle.zpl_nums.specs.declared.ends.TrapKind.TheVariants.{DivideByZero, OutsideStorage}
use Rattle.zpl_nums.specs.declared.ends.TrapKind.TheVariants.{RegionLimit, RegionMismatch}
use Rattle.zpl_claims.specs.of_zpl_names.Accepted.{FaultKind}
use Rattle.zpl_claims.specs.of_zpl_names.Accepted as judged
use Rattle.zpl_claims.specs.of_zpl_binding.Outcome.{BindFault}
use Rattle.zpl_claims.specs.of_zpl_binding.Outcome as bound

abbrev pub usage_text : List ℕ
usage_text = codes "usage: zplgrid run|mean|list|exec|gen WORD [words]\n"

abbrev pub unreadable_text : List ℕ → List ℕ
unreadable_text file = codes "cannot read " ++ (file ++ codes "\n")

abbrev pub too_long_text : List ℕ → List ℕ
too_long_text file = codes "too long: " ++ (file ++ codes "\n")

-- a fault by its name, at a line and a byte
abbrev pub fault_text : List ℕ → ℕ → ℕ → List ℕ
fault_text name line byte =
    codes "refused: " ++ (name ++ (codes ", line " ++ (decimal line
    ++ (codes ", byte " ++ (decimal byte ++ codes "\n")))))

-- a fault of the whole text, by its name
abbrev pub whole_text : List ℕ → List ℕ
whole_text name = codes "refused: " ++ (name ++ codes "\n")

abbrev pub too_deep_text : List ℕ
too_deep_text = codes "refused: TooDeep\n"

-- how a fault of names, ranks and types is called
abbrev pub judged_name : FaultKind → List ℕ
judged_name judged.UnknownName = codes "UnknownName"
judged_name judged.TwiceNamed = codes "TwiceNamed"
judged_name judged.UnknownType = codes "UnknownType"
judged_name judged.TypeClash = codes "TypeClash"
judged_name judged.RankClash = codes "RankClash"
judged_name judged.NoRegion = codes "NoRegion"
judged_name judged.FloodClash = codes "FloodClash"
judged_name judged.ShatterBody = codes "ShatterBody"
judged_name judged.NotAssignable = codes "NotAssignable"
judged_name judged.Arguments = codes "Arguments"
judged_name judged.Recursion = codes "Recursion"
judged_name judged.ReturnPlace = codes "ReturnPlace"
judged_name judged.CallPlace = codes "CallPlace"
judged_name judged.MaskPlace = codes "MaskPlace"
judged_name judged.BorderForm = codes "BorderForm"
judged_name judged.NoEntry = codes "NoEntry"
judged_name judged.RankUnknown = codes "RankUnknown"
judged_name judged.DeepCalls = codes "DeepCalls"

-- how a fault of settings and declarations is called
abbrev pub bind_name : BindFault → List ℕ
bind_name bound.UnknownConfig = codes "UnknownConfig"
bind_name bound.ConfigType = codes "ConfigType"
bind_name bound.TwiceSet = codes "TwiceSet"
bind_name bound.BadConstant = codes "BadConstant"
bind_name bound.RegionLimit = codes "RegionLimit"
bind_name bound.DirectionLimit = codes "DirectionLimit"

-- such a fault, by its name
abbrev pub settings_text : List ℕ → List ℕ
settings_text name = codes "settings refused: " ++ (name ++ codes "\n")

-- a grid that is none, and arrays that have no room on it
abbrev pub bad_shape_text : List ℕ
bad_shape_text = settings_text (codes "BadShape")

abbrev pub too_much_storage_text : List ℕ
too_much_storage_text = settings_text (codes "TooMuchStorage")

abbrev pub trap_name : TrapKind → List ℕ
trap_name DivideByZero = codes "division by zero"
trap_name OutsideStorage = codes "reference outside storage"
trap_name RegionLimit = codes "region limit"
trap_name RegionMismatch = codes "regions do not conform"

abbrev pub trap_text : TrapKind → ℕ → List ℕ
trap_text kind line =
    codes "trap: " ++ (trap_name kind ++ (codes ", line " ++ (decimal line ++ codes "\n")))

abbrev pub turn_limit_text : List ℕ
turn_limit_text = codes "turn limit\n"

abbrev pub no_memory_text : List ℕ
no_memory_text = codes "no memory\n"
