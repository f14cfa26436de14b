-- What tidy code asks of the tables that a program is lowered to.
use Rattle.std.specs.Prelude.{◌≡◌}
use Rattle.zpl_tree.specs.Syntax.{Program}
use Rattle.node_form.specs.declared.tables.Tables.{Tables}
use Rattle.grid_meaning.specs.Stored.{arrangement_of}
use Rattle.zpl_lowering.specs.Tables.{flat_tables}
use Rattle.compiled_sizes.specs.of_lowering_sizes.Sizes.{HasTokens}
use Rattle.compiled_sizes.specs.of_pass_parts.Checks.{ChecksWhatFollows}
use Rattle.compiled_sizes.specs.of_lowering_checks.Stands.{PutsAlike, ReadsApart}
use Rattle.compiled_sizes.specs.of_lowering_checks.Totals.{FirstPuts, NoneAccumulates}
use Rattle.zpl_claims.specs.Build.{Build}
use Rattle.zpl_claims.specs.Origin.{Origin}
use Rattle.compiled_sizes.specs.Lowered.{IsLowered}

-- the lowered tables of a program
abbrev pub lowered_for : Build → Program → Tables
lowered_for build program = flat_tables program build.settings

-- The program is lowered to a flat program, and is written as at most so many tokens. Wherever
-- checks alone stand between two loops, neither accumulates, and the first one puts an array; and
-- over one slot, the second one reads no scalar that some loop accumulates, puts arrays with the
-- flood dimensions of what the first one puts, and its references are among theirs. Its stored arrays
-- are the program's.
pub record IsLoweredTidily (origin : Origin) : Type 0 where
  pub lowered : IsLowered origin.build origin.program
  pub tokens : HasTokens origin.program origin.tokens
  pub checks : ChecksWhatFollows (lowered_for origin.build origin.program)
  pub totals : NoneAccumulates (lowered_for origin.build origin.program)
  pub puts : FirstPuts (lowered_for origin.build origin.program)
  pub reads : ReadsApart (lowered_for origin.build origin.program)
  pub alike : PutsAlike (lowered_for origin.build origin.program)
  pub boxes : (arrangement_of (lowered_for origin.build origin.program)).boxes ≡ origin.boxes
