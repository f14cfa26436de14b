use Rattle.std.proofs.Common.{◌≡◌, drop}
use Rattle.zpl_tree.specs.View.{exprs_of}
use Rattle.name_kinds.specs.Part.{parts_of}
use Rattle.name_kinds.specs.Reach.{scope_of}
use Rattle.name_kinds.proofs.PartLemmas.{joined}
use Rattle.name_kinds.proofs.parts.+part.Given as goal

-- what is known so far and what is known of the rest are the whole
abbrev pub invariant-parts_of-loop-expr : goal.invariant-parts_of-loop-expr
invariant-parts_of-loop-expr l =
    joined l.parts (parts_of (scope_of l.scope) l.prefix (exprs_of (drop l.expr-index l.exprs))) ≡
    parts_of (scope_of l.scope) l.prefix (exprs_of l.exprs)
