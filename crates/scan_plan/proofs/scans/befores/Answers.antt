use Rattle.std.proofs.Common.{◌≡◌, Vec, Global, ◌-◌, ◌<◌, ◌≤◌, w64, to_z, of_z, ℤ, [], ◌++◌, length, replicate, take, get_or, map, sym, ◌∙◌, ap, subst, arith}
use Rattle.std.specs.List.{zip}
use Rattle.std.proofs.lemmas.Int.{ints}
use Rattle.zpl_nums.specs.Fold.{unit_of}
use Rattle.zpl_region.specs.declared.regions.Region.{Region}
use Rattle.zpl_region.specs.declared.dims.Dim.TheVariants.{Flood}
use Rattle.zpl_region.specs.Ends.{coordinate_count}
use Rattle.zpl_region.specs.Region.{IsRegion, members}
use Rattle.grid_layout.specs.Grid.{processors_of}
use Rattle.grid_layout.specs.Piece.{owned_part}
use Rattle.scan_plan.specs.Line.{heads, line_dim}
use Rattle.scan_plan.specs.Scan.{before, gone_through, lines_of, parts_of, sums}
use Rattle.scan_plan.proofs.BeforeLemmas.{all_lines, ended_above, ended_zero, gone_none, length-parts, lines_more, members_ascend, part_at}
use Rattle.scan_plan.proofs.LineLemmas.{heads_alone, line_dim_above}
use Rattle.scan_plan.proofs.OwnedLemmas.{owned_region}
use Rattle.scan_plan.proofs.SumLemmas.{written_back}
use Rattle.scan_plan.proofs.scans.befores.Goals as goal
use Rattle.scan_plan.proofs.scans.befores.Goals.{After-heads-own, then-along-eq0, else-along-eq0}

pub heads-own-requires-clause-region : goal.heads-own-requires-clause-region
heads-own-requires-clause-region c = subst IsRegion (sym c.owned.ensures.owned) (owned_region c.args.blocks.now c.args.p c.args.p c.args.region.now c.requires.blocks c.requires.region)

own_is : (c : After-heads-own) → ◌≡◌ {A = Region} c.heads-own.result (heads (line_dim c.args.region.now.rank c.args.along) (owned_part c.args.blocks.now c.args.p c.args.p c.args.region.now))
own_is c =
    c.heads-own.ensures.heads ∙ (ap (λ k. heads k c.owned.result) c.line_dim-k.ensures ∙ ap (heads (line_dim c.args.region.now.rank c.args.along)) c.owned.ensures.owned)

pub loop-q-init : goal.loop-q-init
loop-q-init c =
    let own = own_is (goal.at.loop-q-init c).After-heads-own in
    let unit_is : to_z w64 (of_z w64 c.unit.result) ≡ unit_of c.args.fold = omega (arith, ints, c.unit.ensures) in
    let count_is : c.args.count ≡ length (members c.heads-own.result) = c.requires.count ∙ ap (λ (r : Region). length (members r)) (sym own) in
    c.in_ok-kept.ensures.items_if_clones_equal (λ y e. e)
    ∙ (ap (replicate c.args.count) unit_is ∙ (ap (λ n. replicate n (unit_of c.args.fold)) count_is ∙ gone_none c.args.fold c.args.along (members c.heads-own.result)))

pub heads-part-requires-clause-region : goal.heads-part-requires-clause-region
heads-part-requires-clause-region c =
    subst IsRegion (sym c.owned-in-loop-q.ensures.owned) (owned_region c.args.blocks.now c.loop-q.q c.args.p c.args.region.now c.requires.blocks c.requires.region)

pub add_totals-requires-clause-alone : goal.add_totals-requires-clause-alone
add_totals-requires-clause-alone c = λ some.
    let k_is : c.line_dim-k.result ≡ c.args.along - 1 = c.line_dim-k.ensures ∙ line_dim_above c.args.region.now.rank c.args.along some in
    let alone = heads_alone c.line_dim-k.result c.owned.result.dims in
    subst (λ k. coordinate_count (get_or c.heads-own.result.dims k Flood) ≤ 1) k_is (subst (λ (r : Region). coordinate_count (get_or r.dims c.line_dim-k.result Flood) ≤ 1) (sym c.heads-own.ensures.heads) alone)

pub loop-q-preserved : goal.loop-q-preserved
loop-q-preserved c =
    let blocks = c.args.blocks.now in
    let parts = parts_of blocks c.args.p c.args.region.now in
    let all = c.args.all.now in
    let k = c.line_dim-k.result in
    let q = c.loop-q.q in
    let below : c.loop-q.q < processors_of blocks.grid = omega (arith, c.count-q-end.ensures.count) in
    let so_far = lines_of k (take q parts) (take q all) in
    let part_is : ◌≡◌ {A = Region} c.heads-part.result (heads k (get_or parts q (owned_part blocks 0 c.args.p c.args.region.now))) =
    c.heads-part.ensures.heads ∙ ap (heads k) (c.owned-in-loop-q.ensures.owned ∙ sym (part_at blocks c.args.p q c.args.region.now below)) in
    written_back c.loop-q.kept.len c.add_totals.new.kept c.loop-q.kept.items (omega (arith, c.deref_mut.ensures.len)) (omega arith)
    ∙ (c.add_totals.ensures so_far (c.deref_mut.ensures.value ∙ c.loop-q.invariant)
    ∙ ap (gone_through c.args.fold c.args.along (members c.heads-own.result))
    (ap (λ (r : Region). so_far ++ zip (members r) c.list.result.now) part_is
    ∙ (ap (λ l. so_far ++ zip (members (heads k (get_or parts q (owned_part blocks 0 c.args.p c.args.region.now)))) l) c.list.ensures
    ∙ sym (lines_more k parts all q (owned_part blocks 0 c.args.p c.args.region.now) [] (omega (arith, length-parts blocks c.args.p c.args.region.now, below)) (omega (arith, c.requires.lists, below))))))

pub returns : goal.returns
returns c =
    let blocks = c.args.blocks.now in
    let parts = parts_of blocks c.args.p c.args.region.now in
    let all = c.args.all.now in
    let op = c.args.fold in
    let hs = members c.heads-own.result in
    let lines = lines_of (line_dim c.args.region.now.rank c.args.along) parts all in
    let own = own_is (goal.at.returns c).After-heads-own in
    let ended : c.loop-q.q ≡ processors_of blocks.grid = omega (arith, c.count-q-end.ensures.count) in
    let whole : c.loop-q.kept.items ≡ gone_through op c.args.along hs lines =
    c.loop-q.invariant ∙ ap (gone_through op c.args.along hs)
    (all_lines c.line_dim-k.result parts all c.loop-q.q (length-parts blocks c.args.p c.args.region.now ∙ sym ended) (c.requires.lists ∙ sym ended) ∙ ap (λ k. lines_of k parts all) c.line_dim-k.ensures) in
    (elim c.if-along-eq0.branch [
      | then-along-eq0 w ↦
          (let old = w.deref_mut-then-along-eq0.ensures in
          ap (λ (v : Vec ℤ Global). v.items) w.kept-is
          ∙ (written_back c.loop-q.kept.len w.join_up.new.values c.loop-q.kept.items (omega (arith, old.len)) (omega arith)
          ∙ (w.join_up.ensures ∙ (ap (sums op (unit_of op)) old.value ∙ ended_zero op c.args.along hs lines c.loop-q.kept.items w.if-along-eq0.true (members_ascend c.heads-own.result) whole))))
      | else-along-eq0 w ↦ ap (λ (v : Vec ℤ Global). v.items) w.kept-is ∙ (whole ∙ ended_above op c.args.along hs lines w.if-along-eq0.false)
    ]) ∙ ap (λ (r : Region). map (before op c.args.along lines) (members r)) own
