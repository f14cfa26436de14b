use Rattle.std.proofs.Common.{◌≡◌, drop, map}
use Rattle.std.specs.List.{list_all}
use Rattle.zpl_tree.specs.View.{region_of}
use Rattle.zpl_bind.specs.Few.{is_few}
use Rattle.zpl_bind.proofs.few.are_few_regions.Given as goal

-- what is left decides
abbrev pub invariant-loop-region : goal.invariant-loop-region
invariant-loop-region l =
    list_all (λ region. is_few region.body) (map region_of (drop l.region-index l.regions))
    ≡ list_all (λ region. is_few region.body) (map region_of l.regions)
