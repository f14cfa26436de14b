use Rattle.std.proofs.Common.{◌≡◌, ◌/◌, ◌<◌, Vec, Global, w64, to_z, of_z, ℤ, pos, None, get_or, set, length, map, sym, ◌∙◌, ap, subst, arith}
use Rattle.std.proofs.lemmas.Int.{ints}
use Rattle.zpl_nums.specs.Fold.{joined}
use Rattle.zpl_region.specs.declared.regions.Region.{Region}
use Rattle.zpl_region.specs.Region.{IsRegion, members}
use Rattle.grid_layout.specs.declared.blocks.Blocks.{Blocks}
use Rattle.grid_layout.specs.Layout.{laid_out}
use Rattle.grid_layout.specs.Piece.{owned_part}
use Rattle.scan_plan.specs.Line.{heads, line_dim, line_number}
use Rattle.scan_plan.specs.Scan.{before}
use Rattle.scan_plan.proofs.GoneLemmas.{none_from_default, pushed}
use Rattle.scan_plan.proofs.LineLemmas.{along_of, inner_of}
use Rattle.scan_plan.proofs.OwnedLemmas.{owned_region}
use Rattle.scan_plan.proofs.ScanLemmas.{LinesTold, length-so_far, length-stepped, lines_for, lines_told, number_told, scanned_none, scanned_one, some_from_test}
use Rattle.scan_plan.proofs.StepLemmas.{stepped}
use Rattle.scan_plan.proofs.SumLemmas.{get_or_any}
use Rattle.scan_plan.proofs.scans.scan_block.Goals as goal
use Rattle.scan_plan.proofs.scans.scan_block.Goals.{After-owned, After-of-lines, After-number-line, Joined-value, in-Some, in_default}

part_is : (c : After-owned) → ◌≡◌ {A = Region} c.owned.result (owned_part (laid_out c.args.layout.now) c.args.p c.args.p c.args.region.now)
part_is c = c.owned.ensures.owned ∙ ap (λ (b : Blocks). owned_part b c.args.p c.args.p c.args.region.now) c.blocks-blocks.ensures.blocks

is_region : (c : After-owned) → IsRegion (owned_part (laid_out c.args.layout.now) c.args.p c.args.p c.args.region.now)
is_region c =
    subst (λ (b : Blocks). IsRegion (owned_part b c.args.p c.args.p c.args.region.now)) c.blocks-blocks.ensures.blocks
    (owned_region c.blocks-blocks.result.now c.args.p c.args.p c.args.region.now c.blocks-blocks.ensures.sound c.requires.region)

pub of-lines-requires-clause-region : goal.of-lines-requires-clause-region
of-lines-requires-clause-region c = let w = (goal.at.of-lines-requires-clause-region c).After-owned in subst IsRegion (sym (part_is w)) (is_region w)

pub of-lines-requires-clause-some : goal.of-lines-requires-clause-some
of-lines-requires-clause-some c =
    let some : 0 < length c.args.values.now = some_from_test c.is_empty.result (length c.args.values.now) c.is_empty.ensures c.if-is_empty.false in
    let same : length (members c.owned.result) ≡ length c.args.values.now = ap (λ (r : Region). length (members r)) (part_is (goal.at.of-lines-requires-clause-some c).After-owned) ∙ sym c.requires.filled in
    omega (arith, some, same)

pub of-lines-requires-clause-fits : goal.of-lines-requires-clause-fits
of-lines-requires-clause-fits c =
    let same : length (members c.owned.result) ≡ length c.args.values.now = ap (λ (r : Region). length (members r)) (part_is (goal.at.of-lines-requires-clause-fits c).After-owned) ∙ sym c.requires.filled in
    omega (arith, same)

told : (c : After-of-lines) → ◌≡◌ {A = Region} c.owned.result (owned_part (laid_out c.args.layout.now) c.args.p c.args.p c.args.region.now) → IsRegion (owned_part (laid_out c.args.layout.now) c.args.p c.args.p c.args.region.now)
    → LinesTold (owned_part (laid_out c.args.layout.now) c.args.p c.args.p c.args.region.now) c.args.along c.of-lines.result.along c.of-lines.result.inner
told c part is =
    let some : 0 < length c.args.values.now = some_from_test c.is_empty.result (length c.args.values.now) c.is_empty.ensures c.if-is_empty.false in
    let same : length (members c.owned.result) ≡ length c.args.values.now = ap (λ (r : Region). length (members r)) part ∙ sym c.requires.filled in
    let rank : c.owned.result.rank ≡ c.args.region.now.rank = ap (λ (r : Region). r.rank) part in
    subst (λ (r : Region). LinesTold r c.args.along c.of-lines.result.along c.of-lines.result.inner) part
    (lines_told c.owned.result c.args.along c.line_dim.result _ _ (subst IsRegion (sym part) is) (omega (arith, rank, c.requires.along)) c.of-lines.ensures.dims (omega (arith, same, some))
    (c.line_dim.ensures ∙ ap (λ n. line_dim n c.args.along) (sym rank)) c.of-lines.ensures.along c.of-lines.ensures.inner)

pub nonzero_div-count : goal.nonzero_div-count
nonzero_div-count c = let w = goal.at.nonzero_div-count c in (told w.After-of-lines (part_is w.After-owned) (is_region w.After-owned)).some

pub befores-requires-clause-count : goal.befores-requires-clause-count
befores-requires-clause-count c =
    let w = goal.at.befores-requires-clause-count c in
    let t = told w.After-of-lines (part_is w.After-owned) (is_region w.After-owned) in
    ap (λ n. n / c.of-lines.result.along) c.requires.filled
    ∙ (t.count ∙ ap (λ (b : Blocks). length (members (heads (line_dim c.args.region.now.rank c.args.along) (owned_part b c.args.p c.args.p c.args.region.now)))) (sym c.blocks-blocks.ensures.blocks))

pub loop-i-init : goal.loop-i-init
loop-i-init c =
    scanned_none c.args.fold c.args.along (laid_out c.args.layout.now) c.args.p c.args.region.now c.args.all.now c.args.values.now c.in_ok-so_far.so_far.items c.in_ok-scanned.scanned.items
    (c.in_ok-so_far.ensures
    ∙ ap (λ (b : Blocks). map (before c.args.fold c.args.along (lines_for c.args.along b c.args.p c.args.region.now c.args.all.now)) (members (heads (line_dim c.args.region.now.rank c.args.along) (owned_part b c.args.p c.args.p c.args.region.now)))) c.blocks-blocks.ensures.blocks)
    c.in_ok-scanned.ensures.items

pub number-line-requires-clause-along : goal.number-line-requires-clause-along
number-line-requires-clause-along c = let w = goal.at.number-line-requires-clause-along c in (told w.After-of-lines (part_is w.After-owned) (is_region w.After-owned)).some

pub number-line-requires-clause-inner : goal.number-line-requires-clause-inner
number-line-requires-clause-inner c = let w = goal.at.number-line-requires-clause-inner c in (told w.After-of-lines (part_is w.After-owned) (is_region w.After-owned)).more

pub number-line-requires-clause-fits : goal.number-line-requires-clause-fits
number-line-requires-clause-fits c =
    let w = goal.at.number-line-requires-clause-fits c in
    let few = (told w.After-of-lines (part_is w.After-owned) (is_region w.After-owned)).few in
    omega (arith, few, c.requires.filled)

below : (c : After-number-line) → LinesTold (owned_part (laid_out c.args.layout.now) c.args.p c.args.p c.args.region.now) c.args.along c.of-lines.result.along c.of-lines.result.inner
    → c.number-line.result < length c.loop-i.so_far.items
below c t =
    let long = length-so_far c.args.fold c.args.along (laid_out c.args.layout.now) c.args.p c.args.region.now c.args.all.now c.args.values.now c.loop-i.so_far.items c.loop-i.scanned.items c.loop-i.i c.loop-i.invariant in
    let line = t.number_below c.loop-i.i (omega (arith, c.requires.filled)) in
    omega (arith, long, line, c.number-line.ensures.number)

pub index-requires : goal.index-requires
index-requires c = let w = goal.at.index-requires c in let low = below w.After-number-line (told w.After-of-lines (part_is w.After-owned) (is_region w.After-owned)) in omega (arith, low)

pub index_mut-requires : goal.index_mut-requires
index_mut-requires c = let w = goal.at.index_mut-requires c in let low = below w.After-number-line (told w.After-of-lines (part_is w.After-owned) (is_region w.After-owned)) in omega (arith, low)

-- the folds after a value
more_is : (c : Joined-value) → LinesTold (owned_part (laid_out c.args.layout.now) c.args.p c.args.p c.args.region.now) c.args.along c.of-lines.result.along c.of-lines.result.inner
    → c.number-line.result < length c.loop-i.so_far.items
    → c.match-value.so_far.items
    ≡ stepped c.args.fold (line_number (along_of (line_dim c.args.region.now.rank c.args.along) (owned_part (laid_out c.args.layout.now) c.args.p c.args.p c.args.region.now).dims)
    (inner_of (line_dim c.args.region.now.rank c.args.along) (owned_part (laid_out c.args.layout.now) c.args.p c.args.p c.args.region.now).dims) c.loop-i.i) (get_or c.args.values.now c.loop-i.i None) c.loop-i.so_far.items
more_is c t low =
    let op = c.args.fold in
    let values = c.args.values.now in
    let folds = c.loop-i.so_far.items in
    let i = c.loop-i.i in
    let line = c.number-line.result in
    let number = number_told (owned_part (laid_out c.args.layout.now) c.args.p c.args.p c.args.region.now) c.args.along _ _ i line t c.number-line.ensures.number in
    elim c.match-value.branch [
      | in-Some w ↦
          (let value_is : to_z w64 (of_z w64 w.in-Some.value) ≡ w.in-Some.value = omega (arith, ints) in
          let result_is : to_z w64 (of_z w64 w.join.result) ≡ w.join.result = omega (arith, ints) in
          let old_is : to_z w64 (of_z w64 w.index.result.now) ≡ w.index.result.now = omega (arith, ints) in
          let old : w.index.result.now ≡ get_or folds line (pos 0) = w.index.ensures ∙ get_or_any folds line w.index.result.now (pos 0) low in
          let joined_is : to_z w64 (of_z w64 w.join.result) ≡ joined op (get_or folds line (pos 0)) w.in-Some.value =
          result_is ∙ (w.join.ensures ∙ (ap (λ z. joined op z (to_z w64 (of_z w64 w.in-Some.value))) (old_is ∙ old) ∙ ap (joined op (get_or folds line (pos 0))) value_is)) in
          ap (λ (v : Vec ℤ Global). v.items) w.so_far-is
          ∙ (ap (set folds line) joined_is
          ∙ (ap (λ o. stepped op line o folds) (sym w.in-Some.is) ∙ ap (λ j. stepped op j (get_or values i None) folds) number)))
      | in_default w ↦
          (let none : get_or values i None ≡ None = none_from_default (get_or values i None) w.in_default.not-Some in
          ap (λ (v : Vec ℤ Global). v.items) w.so_far-is
          ∙ (ap (λ o. stepped op line o folds) (sym none) ∙ ap (λ j. stepped op j (get_or values i None) folds) number))
    ]

pub index-requires-in-loop-i : goal.index-requires-in-loop-i
index-requires-in-loop-i c =
    let w = goal.at.index-requires-in-loop-i c in
    let t = told w.After-of-lines (part_is w.After-owned) (is_region w.After-owned) in
    let low = below w.After-number-line t in
    let more = more_is w.Joined-value t low in
    let long = ap length more ∙ length-stepped c.args.fold _ (get_or c.args.values.now c.loop-i.i None) c.loop-i.so_far.items in
    omega (arith, low, long)

pub loop-i-preserved : goal.loop-i-preserved
loop-i-preserved c =
    let w = goal.at.loop-i-preserved c in
    let t = told w.After-of-lines (part_is w.After-owned) (is_region w.After-owned) in
    let low = below w.After-number-line t in
    let more = more_is w.Joined-value t low in
    let part = owned_part (laid_out c.args.layout.now) c.args.p c.args.p c.args.region.now in
    let long = ap length more ∙ length-stepped c.args.fold _ (get_or c.args.values.now c.loop-i.i None) c.loop-i.so_far.items in
    let number = number_told part c.args.along _ _ c.loop-i.i c.number-line.result t c.number-line.ensures.number in
    let value_is : to_z w64 (of_z w64 c.index-in-loop-i.result.now) ≡ c.index-in-loop-i.result.now = omega (arith, ints) in
    let there : c.number-line.result < length c.match-value.so_far.items = omega (arith, low, long) in
    let value : to_z w64 (of_z w64 c.index-in-loop-i.result.now) ≡ get_or c.match-value.so_far.items (line_number (along_of (line_dim c.args.region.now.rank c.args.along) part.dims) (inner_of (line_dim c.args.region.now.rank c.args.along) part.dims) c.loop-i.i) (pos 0) =
    value_is ∙ (c.index-in-loop-i.ensures ∙ (get_or_any c.match-value.so_far.items c.number-line.result c.index-in-loop-i.result.now (pos 0) there ∙ ap (λ j. get_or c.match-value.so_far.items j (pos 0)) number)) in
    scanned_one c.args.fold c.args.along (laid_out c.args.layout.now) c.args.p c.args.region.now c.args.all.now c.args.values.now c.loop-i.so_far.items c.match-value.so_far.items c.loop-i.scanned.items c.push.new.self.items c.loop-i.i
    (is_region w.After-owned) t.dim_below (omega (arith, c.requires.filled)) c.loop-i.invariant more
    (pushed c.push.result c.push.new.self.items c.loop-i.scanned.items _ _ c.in_ok-push.field-0 c.push.ensures.items c.in_ok-push.was value)
