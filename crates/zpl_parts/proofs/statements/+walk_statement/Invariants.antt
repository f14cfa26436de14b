use Rattle.std.proofs.Common.{◌≡◌, ◌++◌, drop}
use Rattle.zpl_binding.specs.of_zpl_tree.View.{stmts_of, arms_of}
use Rattle.zpl_parts.specs.View.{seen}
use Rattle.zpl_parts.specs.Walk.{stmts_parts, arms_parts}
use Rattle.zpl_parts.proofs.statements.+walk_statement.Given as goal

-- what is listed and what is left to list are the whole
abbrev pub invariant-walk_stmts-loop-stmt : goal.invariant-walk_stmts-loop-stmt
invariant-walk_stmts-loop-stmt l =
    seen l.into ++ stmts_parts (stmts_of (drop l.stmt-index l.stmts))
    ≡ seen l.initial.into ++ stmts_parts (stmts_of l.stmts)

abbrev pub invariant-walk_arms-loop-arm : goal.invariant-walk_arms-loop-arm
invariant-walk_arms-loop-arm l =
    seen l.into ++ arms_parts (arms_of (drop l.arm-index l.arms))
    ≡ seen l.initial.into ++ arms_parts (arms_of l.arms)
