use Rattle.std.proofs.Common.{◌≡◌, ◌+◌, drop, ap, ◌∙◌, sym, subst, arith}
use Rattle.zpl_tree.specs.Syntax as syntax
use Rattle.zpl_tree.specs.View.{expr_of, exprs_of, form_of, name_of}
use Rattle.zpl_tree.proofs.Views.{form_of-Remap}
use Rattle.lower_regions.specs.of_zpl_lowering.Slate.{settled, settled_all}
use Rattle.lower_regions.specs.of_lower_draft.Drafted.{grown}
use Rattle.lower_regions.specs.of_lower_places.View.{slotted_of, where_of}
use Rattle.lower_operators.specs.Code.{of_settled}
use Rattle.lower_operators.specs.Sound.{AreSound}
use Rattle.lower_operators.specs.View.{slate_of, slates_before, slates_in}
use Rattle.lower_operators.proofs.PhaseLemmas.{each_ok}
use Rattle.lower_operators.proofs.SettleLemmas.{all-next, fit-next, slates-end, slates-next, sound-more, same-remap}
use Rattle.lower_operators.proofs.settling.+settled.Goals as goal

pub settled-indices_are_fit-requires-clause-is : goal.settled-indices_are_fit-requires-clause-is
settled-indices_are_fit-requires-clause-is t c =
    ap (form_of c.args.expr.now.at) c.in-Remap.is
    ∙ form_of-Remap c.args.expr.now.at c.in-Remap.name c.in-Remap.indices

pub settled-returns-in_ok-over-in-Remap-clause-rows :
    goal.settled-returns-in_ok-over-in-Remap-clause-rows
settled-returns-in_ok-over-in-Remap-clause-rows t c =
    let w = where_of c.args.place.now in
    let draft = c.args.draft.now in
    let is : expr_of c.args.expr.now ≡ syntax.Remap c.args.expr.now.at (name_of c.in-Remap.name)
    (exprs_of c.in-Remap.indices.now) =
    ap (form_of c.args.expr.now.at) c.in-Remap.is
    ∙ form_of-Remap c.args.expr.now.at c.in-Remap.name c.in-Remap.indices in
    let rows = c.in_ok-indices-in-Remap.ensures.rows
    ∙ sym (ap (λ expr. grown draft
    (of_settled (settled w c.args.line draft.next c.args.rank expr))) is) in
    each_ok c.place_slate-in-Remap.result (λ _ _. rows) c.place_slate-in-Remap.ensures

pub settled-returns-in_ok-over-in-Remap-clause-slate :
    goal.settled-returns-in_ok-over-in-Remap-clause-slate
settled-returns-in_ok-over-in-Remap-clause-slate t c =
    let w = where_of c.args.place.now in
    let draft = c.args.draft.now in
    let is : expr_of c.args.expr.now ≡ syntax.Remap c.args.expr.now.at (name_of c.in-Remap.name)
    (exprs_of c.in-Remap.indices.now) =
    ap (form_of c.args.expr.now.at) c.in-Remap.is
    ∙ form_of-Remap c.args.expr.now.at c.in-Remap.name c.in-Remap.indices in
    let made = c.remap_slate.ensures.slate
    ∙ same-remap (ap slotted_of c.in_ok-over-in-Remap.ensures ∙ c.current.ensures)
    c.find-in-Remap.ensures
    (c.in_ok-indices-in-Remap-2.ensures ∙ ap slates_in c.deref.ensures.value
    ∙ c.in_ok-indices-in-Remap.ensures.slates)
    ∙ sym (ap (λ expr. (settled w c.args.line draft.next c.args.rank expr).slate) is) in
    each_ok c.place_slate-in-Remap.result (λ placed same. ap slate_of same ∙ made)
    c.place_slate-in-Remap.ensures

pub settled_all-loop-expr-preserved : goal.settled_all-loop-expr-preserved
settled_all-loop-expr-preserved t c =
    let w = where_of c.args.place.now in
    let line = c.args.line in
    let rank = c.args.rank in
    let exprs = c.args.exprs.now in
    let i = c.loop-expr.expr-index in
    let draft = c.loop-expr.draft in
    let new = c.settled.new.draft in
    let slates = c.loop-expr.slates.items in
    let one = c.in_ok-slate.slate in
    let h = c.in_ok-slate.ensures.rows in
    record {
      rows = all-next w line rank draft new exprs i _ (omega arith) h _ c.loop-expr.invariant.rows;
      slates =
          ap (λ l. slates_before l
          (settled_all w line new.next rank (exprs_of (drop (i + 1) exprs))).slate)
          c.in_ok-push.ensures.items
          ∙ slates-next w line rank draft new exprs i _ (omega arith) h slates one _
          c.in_ok-slate.ensures.slate c.loop-expr.invariant.slates;
      sound =
          subst (λ l. AreSound (slates_in l)) (sym c.in_ok-push.ensures.items)
          (sound-more slates one c.loop-expr.invariant.sound c.in_ok-slate.ensures.sound);
      fit = fit-next exprs i (omega arith) c.loop-expr.invariant.fit;
    }

pub settled_all-returns-clause-slates : goal.settled_all-returns-clause-slates
settled_all-returns-clause-slates t c =
    slates-end (where_of c.args.place.now) c.args.line c.args.rank c.loop-expr.draft.next
    c.loop-expr.slates.items _ c.args.exprs.now c.loop-expr.expr-index (omega arith)
    c.loop-expr.invariant.slates
