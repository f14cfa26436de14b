use Rattle.std.proofs.Common.{◌+◌, ◌++◌, map, drop, subst, ap, ◌∙◌, arith}
use Rattle.std.proofs.lemmas.List.{at_drop_more}
use Rattle.node_form.specs.Expression.{words_of}
use Rattle.lower_regions.specs.of_zpl_lowering.Hoist.{all_hoisted, hoisted}
use Rattle.lower_regions.specs.of_lower_draft.Drafted.{grown}
use Rattle.lower_operators.specs.Code.{free_of, of_hoisted}
use Rattle.lower_operators.specs.Sound.{AreSound}
use Rattle.lower_operators.specs.View.{slate_of, slates_in}
use Rattle.lower_operators.proofs.SlateLemmas.{hoist-next, left-next}
use Rattle.lower_operators.proofs.hoisting.hoist_all.Goals as goal

pub loop-slate-preserved : goal.loop-slate-preserved
loop-slate-preserved c =
    let numbers = c.args.numbers.now in
    let line = c.args.line in
    let slates = c.args.slates.now in
    let i = c.loop-slate.slate-index in
    let draft = c.loop-slate.draft in
    let free = free_of draft.next in
    let d = c.slate-item.result in
    let h = c.in_ok-row.ensures.rows
    ∙ ap (λ slate. grown draft (of_hoisted (hoisted numbers line free (slate_of slate.now))))
    c.slate-item.is in
    let same = c.in_ok-row.ensures.left
    ∙ ap (λ slate. words_of (hoisted numbers line free (slate_of slate.now)).left)
    c.slate-item.is in
    record {
      rows =
          hoist-next numbers line draft c.hoisted.new.draft _ slates i d (omega arith) h
          c.loop-slate.invariant.rows;
      left =
          ap (λ l. l ++ map words_of (all_hoisted numbers line (free_of c.hoisted.new.draft.next)
          (slates_in (drop (i + 1) slates))).left) c.in_ok-push.ensures.items
          ∙ left-next numbers line draft c.hoisted.new.draft c.loop-slate.rows.items c.in_ok-row.row
          _ slates i d (omega arith) h same c.loop-slate.invariant.left;
      sound =
          (subst AreSound (at_drop_more slates_in slates i d (omega arith))
          c.loop-slate.invariant.sound).1;
    }
