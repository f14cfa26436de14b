use Rattle.std.proofs.Common.{rules, ◌≡◌, ◌<◌, pos, get_or, length, subst, sym, arith, w64, to_z}
use Rattle.std.proofs.Common.{of_z}
use Rattle.zpl_region.specs.Dim.{IsUpTo}
use Rattle.lower_draft.proofs.FringeLemmas.{each_wider}
use Rattle.lower_draft.proofs.fringes.all_wider.Goals as goal

pub wider-requires-3 : goal.wider-requires-3
wider-requires-3 c =
    let long : 2 < length c.args.shift = omega arith in
    let near : IsUpTo 41 (get_or c.args.shift 2 (pos 0)) = c.requires 2 (pos 0) long in
    let same : to_z w64 (of_z w64 (get_or c.args.shift 2 (pos 0))) ≡ get_or c.args.shift 2 (pos 0) =
    search rules in
    subst (IsUpTo 41) (sym same) near

pub returns : goal.returns
returns c =
    let wide : length c.args.fringes ≡ 3 = omega arith in
    let long : length c.args.shift ≡ 3 = omega arith in
    let first : to_z w64 (of_z w64 (get_or c.args.shift 0 (pos 0))) ≡ get_or c.args.shift 0 (pos 0)
    =
    search rules in
    let second : to_z w64 (of_z w64 (get_or c.args.shift 1 (pos 0))) ≡ get_or c.args.shift 1 (pos
    0) =
    search rules in
    let third : to_z w64 (of_z w64 (get_or c.args.shift 2 (pos 0))) ≡ get_or c.args.shift 2 (pos 0)
    =
    search rules in
    each_wider c.args.fringes c.args.shift _ _ _ _ _ _ _ _ _ wide long first second third
    c.wider.ensures c.wider-2.ensures c.wider-3.ensures
