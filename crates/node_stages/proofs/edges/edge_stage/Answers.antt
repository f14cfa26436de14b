use Rattle.std.proofs.Common.{◌≡◌, ℕ, zero, suc, ◌-◌, List, ◌∷◌, length, refl, sym, ap, ◌∙◌, arith}
use Rattle.std.specs.Prelude.{Some, slice_get}
use Rattle.grid_meaning.specs.Collective.{Stage, others_where}
use Rattle.grid_meaning.specs.Delivery.{border_targets}
use Rattle.node_stages.specs.Partners.{exchanging}
use Rattle.node_stages.specs.Stage.{staged}
use Rattle.node_stages.proofs.edges.edge_stage.Goals as goal

-- behind the first stage
later : (first : Stage) (rest : List Stage) (made : ℕ) (stage : Stage) → (made ≡ 0 → ⊥) → slice_get rest (made - 1) ≡ Some stage
    → slice_get (first ∷ rest) made ≡ Some stage
later first rest zero stage some is = absurd (some refl)
later first rest (suc made) stage some is = let same : suc made - 1 ≡ made = omega arith in ap (slice_get rest) (sym same) ∙ is

first_stage : (first : Stage) (rest : List Stage) (made : ℕ) → made ≡ 0 → slice_get (first ∷ rest) made ≡ Some first
first_stage first rest made none = ap (slice_get (first ∷ rest)) none

pub returns-then-made-eq0 : goal.returns-then-made-eq0
returns-then-made-eq0 c = first_stage _ _ c.args.made c.if-made-eq0.true

pub later_edge_stage-requires-clause-there : goal.later_edge_stage-requires-clause-there
later_edge_stage-requires-clause-there c = let within = c.requires.made in omega arith

pub returns : goal.returns
returns c =
    later _ (exchanging (others_where c.args.code.now c.args.p (λ q. length (border_targets c.args.code.now c.args.kind c.args.region.now c.args.shift.now c.args.p q)))
    (others_where c.args.code.now c.args.p (λ q. length (border_targets c.args.code.now c.args.kind c.args.region.now c.args.shift.now q c.args.p))))
    c.args.made (staged c.later_edge_stage.result) (λ none. absurd (omega (arith, none))) c.later_edge_stage.ensures
