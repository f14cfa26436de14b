use Rattle.std.proofs.Common.{◌≡◌, ◌<◌, Vec, Global, w64, to_z, of_z, ℤ, Bool, true, false, List, ◌++◌, map, None, Some, sym, ◌∙◌, ap, subst, arith}
use Rattle.std.specs.List.{filter}
use Rattle.std.proofs.lemmas.Bool.{false≢true}
use Rattle.std.proofs.lemmas.Int.{ints}
use Rattle.region_places.specs.of_zpl_nums.Fold.{folded}
use Rattle.grid_layout.specs.of_zpl_region.Region.{members}
use Rattle.grid_layout.proofs.of_zpl_region.EndLemmas.{first_member}
use Rattle.grid_layout.proofs.of_zpl_region.HullLemmas.{has_steps}
use Rattle.region_places.specs.of_zpl_arrays.Array.{Array, element}
use Rattle.region_places.specs.of_zpl_arrays.Fold.{agrees, partly_reduced}
use Rattle.reduce_plan.specs.Partial.{is_reached}
use Rattle.reduce_plan.proofs.ReachedLemmas.{kept_few, kept_inside, kept_none, kept_one, reached_any}
use Rattle.reduce_plan.proofs.WalkLemmas.{IsThrough, appended, fewer_left, left, none_from_default, nothing_more, pushed, through_ends, through_step}
use Rattle.reduce_plan.proofs.folds.partials.Goals as goal
use Rattle.reduce_plan.proofs.folds.partials.Goals.{After-is_empty, then-not-is_empty+in_ok-push, else-not-is_empty}

pub loop-next-init : goal.loop-next-init
loop-next-init c = record {
  passed = 0;
  next_is = c.least-next.ensures ∙ sym (first_member c.args.within.now (has_steps c.args.within.now.dims c.requires.within.dims));
  made_is = c.new-folds.ensures.items;
}

-- the walk, at a tuple
at_some : (c : After-is_empty) → IsThrough c.args.within.now (is_reached c.args.target.now c.args.block.now)
    (partly_reduced c.args.fold c.args.target.now c.args.block.now (element (record { storage = c.args.block.now; values = c.args.values.now }))) (Some c.in-Some.x) c.loop-next.folds.items
at_some c =
    subst (λ o. IsThrough c.args.within.now (is_reached c.args.target.now c.args.block.now)
    (partly_reduced c.args.fold c.args.target.now c.args.block.now (element (record { storage = c.args.block.now; values = c.args.values.now }))) o c.loop-next.folds.items) c.in-Some.is c.loop-next.invariant

pub fold_at-requires-clause-inside : goal.fold_at-requires-clause-inside
fold_at-requires-clause-inside c =
    kept_inside c.args.block.now (agrees c.args.target.now.dims c.in-Some.x) (members c.reached-tuples.result) (has_steps c.args.block.now.dims c.requires.block.dims) c.reached-tuples.ensures.tuples

pub fold_at-requires-clause-few : goal.fold_at-requires-clause-few
fold_at-requires-clause-few c =
    kept_few c.args.block.now (agrees c.args.target.now.dims c.in-Some.x) (members c.reached-tuples.result) c.reached-tuples.ensures.tuples

pub loop-next-smaller : goal.loop-next-smaller
loop-next-smaller c =
    let a : Array = record { storage = c.args.block.now; values = c.args.values.now } in
    let fewer = fewer_left c.args.within.now (is_reached c.args.target.now c.args.block.now) (partly_reduced c.args.fold c.args.target.now c.args.block.now (element a)) c.in-Some.x c.next_after-next.result c.loop-next.folds.items
    (has_steps c.args.within.now.dims c.requires.within.dims) (at_some (goal.at.loop-next-smaller c).After-is_empty) c.next_after-next.ensures in
    subst (λ o. left c.args.within.now c.next_after-next.result < left c.args.within.now o) (sym c.in-Some.is) fewer

pub loop-next-preserved : goal.loop-next-preserved
loop-next-preserved c =
    let target = c.args.target.now in
    let block = c.args.block.now in
    let op = c.args.fold in
    let x = c.in-Some.x in
    let a : Array = record { storage = block; values = c.args.values.now } in
    let f : List ℤ → ℤ = partly_reduced op target block (element a) in
    let p : List ℤ → Bool = is_reached target block in
    let ms = members c.reached-tuples.result in
    let any = reached_any target block x ms c.reached-tuples.ensures.tuples in
    through_step c.args.within.now p f x c.next_after-next.result c.loop-next.folds.items c.if-not-is_empty.folds.items (at_some (goal.at.loop-next-preserved c).After-is_empty) c.next_after-next.ensures
    (elim c.if-not-is_empty.branch [
      | then-not-is_empty+in_ok-push w ↦
          (let kept : p x ≡ true = any.1 (λ none. false≢true (sym w.if-not-is_empty.true ∙ c.is_empty.ensures.1 none)) in
          let value_is : to_z w64 (of_z w64 w.fold_at.result) ≡ w.fold_at.result = omega (arith, ints) in
          let fold_is : w.fold_at.result ≡ f x = w.fold_at.ensures ∙ ap (λ l. folded op (map (element a) l)) c.reached-tuples.ensures.tuples in
          ap (λ (v : Vec ℤ Global). v.items) w.folds-is
          ∙ (pushed w.push.result w.push.new.self.items c.loop-next.folds.items _ (f x) w.in_ok-push.field-0 w.push.ensures.items w.in_ok-push.was (value_is ∙ fold_is)
          ∙ ap (λ l. c.loop-next.folds.items ++ l) (sym (kept_one p f x kept))))
      | else-not-is_empty w ↦
          (let kept : p x ≡ false = any.0 (c.is_empty.ensures.0 w.if-not-is_empty.false) in
          ap (λ (v : Vec ℤ Global). v.items) w.folds-is ∙ (nothing_more c.loop-next.folds.items ∙ ap (λ l. c.loop-next.folds.items ++ l) (sym (kept_none p f x kept))))
    ])

pub returns-clause-ok : goal.returns-clause-ok
returns-clause-ok c =
    let target = c.args.target.now in
    let block = c.args.block.now in
    let a : Array = record { storage = block; values = c.args.values.now } in
    let f : List ℤ → ℤ = partly_reduced c.args.fold target block (element a) in
    let p : List ℤ → Bool = is_reached target block in
    let none : c.loop-next.next ≡ None = none_from_default c.loop-next.next c.in_default.not-Some in
    let made : c.loop-next.folds.items ≡ map f (filter p (members c.args.within.now)) =
    through_ends c.args.within.now p f c.loop-next.folds.items (subst (λ o. IsThrough c.args.within.now p f o c.loop-next.folds.items) none c.loop-next.invariant) in
    appended c.extend_from_slice.result c.extend_from_slice.new.self.items c.args.into.now.items c.deref.result.now _ c.extend_from_slice.ensures.items (c.deref.ensures.value ∙ made)
