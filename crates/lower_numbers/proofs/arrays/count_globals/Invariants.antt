use Rattle.std.proofs.Common.{◌≡◌, ◌+◌, drop, map}
use Rattle.std.specs.Prelude.{sum_by}
use Rattle.zpl_tree.specs.View.{decl_of}
use Rattle.lower_numbers.specs.Arrays.{decl_arrays}
use Rattle.lower_numbers.proofs.arrays.count_globals.Given as goal

-- the count so far, with the rest
abbrev pub invariant-loop-decl : goal.invariant-loop-decl
invariant-loop-decl l =
    l.count + sum_by decl_arrays (map decl_of (drop l.decl-index l.decls)) ≡
    l.initial.count + sum_by decl_arrays (map decl_of l.decls)
