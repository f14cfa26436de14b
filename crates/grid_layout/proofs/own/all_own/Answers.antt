use Rattle.std.proofs.Common.{◌≡◌, ◌∙◌, ap, arith, subst, sym, ◌++◌, ◌∷◌, [], All}
use Rattle.std.proofs.lemmas.List.Elements.{All-append, All-cons, All-nil}
use Rattle.grid_layout.specs.Own.{HasBlocks, first_own}
use Rattle.grid_layout.proofs.OwnLemmas.{first_own_more}
use Rattle.grid_layout.proofs.own.all_own.Goals as goal

pub loop-p-preserved : goal.loop-p-preserved
loop-p-preserved c =
    let more : c.push.new.self.items ≡ c.loop-p.own.items ++ c.own_blocks.result ∷ [] = c.in_ok-push.ensures.items in (
      more ∙ (ap (λ own. own ++ c.own_blocks.result ∷ []) c.loop-p.invariant.0
          ∙ (ap (λ x. first_own c.args.blocks.now c.loop-p.p ++ x ∷ []) c.own_blocks.ensures.own
          ∙ sym (first_own_more c.args.blocks.now c.loop-p.p))),
      subst (All HasBlocks) (sym more)
          (All-append HasBlocks c.loop-p.own.items (c.own_blocks.result ∷ []) c.loop-p.invariant.1 (All-cons HasBlocks c.own_blocks.result [] c.own_blocks.ensures.bounds (All-nil HasBlocks))),
    )

pub returns-clause-own : goal.returns-clause-own
returns-clause-own c =
    let same : c.loop-p.p ≡ c.count-p-end.result = omega arith in
    c.loop-p.invariant.0 ∙ ap (λ n. first_own c.args.blocks.now n) (same ∙ c.count-p-end.ensures.count)

pub returns-clause-bounds : goal.returns-clause-bounds
returns-clause-bounds c = c.loop-p.invariant.1
