-- Of a small text, computed: with `fuse` its code has no two loops that could be one. The first one,
-- a shattered statement that assigns nothing, puts nothing, and a row that sets a scalar stands
-- behind it.
--
--   program p; region R = [1..9]; var A, B : [R] integer;
--   procedure p(); [R] begin if A > 0 then end; B := 1; end;
use Rattle.std.proofs.Common.{◌≡◌, true, [], None, refl}
use Rattle.std.specs.Fmt.{digits}
use Rattle.std.specs.Int.{int_wrap}
use Rattle.zpl_names.specs.Reached.{longest_chain}
use Rattle.code_parts.specs.Fused.{is_fused}
use Rattle.zpl_claims.specs.Build.{Build, no_options, one_processor}
use Rattle.compiled_sizes.specs.of_zpl_compile.Compile.{compiled}
use Rattle.compiled_sizes.proofs.of_lowering_checks.Examples.{example}

abbrev build : Build
build = record {
  grid = one_processor;
  options = record no_options { fuse = true };
  links = None;
  settings = [];
}

loops_apart : is_fused (compiled build example) ≡ true
unfolding longest_chain int_wrap digits
loops_apart = refl
