-- How the line of a state may say that a processor ended.
use Rattle.std.specs.Prelude.{◌^◌, ◌<◌, Option, Some, None}
use Rattle.zpl_nums.specs.declared.ends.End.{End}
use Rattle.zpl_nums.specs.declared.ends.End.TheVariants as ending

-- no processor ends in wanting more, and the line of a trap is one of 32 bits
abbrev pub IsEnding : Option End → Type 0
IsEnding None = Unit {0}
IsEnding (Some ending.More) = ⊥
IsEnding (Some ending.Done) = Unit {0}
IsEnding (Some (ending.Trap kind line)) = line < 2 ^ 32
