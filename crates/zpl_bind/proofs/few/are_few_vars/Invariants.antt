use Rattle.std.proofs.Common.{◌≡◌, drop, map}
use Rattle.std.specs.List.{list_all}
use Rattle.zpl_tree.specs.View.{var_of}
use Rattle.zpl_bind.specs.Few.{is_few_bracket}
use Rattle.zpl_bind.proofs.few.are_few_vars.Given as goal

-- what is left decides
abbrev pub invariant-loop-var : goal.invariant-loop-var
invariant-loop-var l =
    list_all (λ var. is_few_bracket var.shape) (map var_of (drop l.var-index l.vars))
    ≡ list_all (λ var. is_few_bracket var.shape) (map var_of l.vars)
