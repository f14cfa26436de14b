use Rattle.std.proofs.Common.{◌≡◌, take}
use Rattle.zpl_region.specs.Region.{members}
use Rattle.scan_plan.specs.Scan.{gone_through, lines_of, parts_of}
use Rattle.scan_plan.proofs.scans.befores.Given as goal

-- the lines of the first processors' parts are gone through
abbrev pub invariant-loop-q : goal.invariant-loop-q
invariant-loop-q l = l.kept.items ≡ gone_through l.fold l.along (members l.own) (lines_of l.k (take l.q (parts_of l.blocks l.p l.region)) (take l.q l.all))
