use Rattle.std.proofs.Common.{◌≡◌, ℕ, zero, suc, ◌<◌, length, refl, sym, ap, ◌∙◌, subst}
use Rattle.std.specs.Prelude.{Some, slice_get}
use Rattle.reduce_plan.specs.of_zpl_region.declared.regions.Region.{Region}
use Rattle.grid_meaning.specs.of_grid_layout.Grid.{processors_of}
use Rattle.grid_meaning.specs.of_node_form.declared.tables.Tables.{Tables}
use Rattle.grid_meaning.specs.Collective.{others_where}
use Rattle.grid_meaning.specs.Gather.{gather_stages}
use Rattle.grid_meaning.specs.Local.{processors}
use Rattle.grid_meaning.specs.Owner.{tuples_of}
use Rattle.node_stages.specs.Partners.{flagged, taking}
use Rattle.node_stages.specs.Stage.{staged}
use Rattle.node_stages.proofs.PieceLemmas.{grid_count}
use Rattle.node_stages.proofs.gathers.gather_stage.Goals as goal

-- the stages of processor 0
first_gathers : (code : Tables) (p : ℕ) (region : Region) → p ≡ 0
    → gather_stages code p region ≡ taking (others_where code p (λ q. length (tuples_of code q region)))
first_gathers code zero region is = refl
first_gathers code (suc p) region is = cc

pub taking_stage-requires-clause-there : goal.taking_stage-requires-clause-there
taking_stage-requires-clause-there c =
    let count : c.count.result ≡ processors c.args.code.now =
    c.count.ensures.count ∙ (ap processors_of c.grid.ensures ∙ grid_count c.args.code.now c.args.layout.now c.requires.layout) in
    subst (λ stages. c.args.made < length stages)
    (first_gathers c.args.code.now c.args.p c.args.region.now c.if-p-eq0.true
    ∙ ap taking (sym (ap (flagged c.mark_holders.new.flags) count ∙ c.mark_holders.ensures))) c.requires.made

pub returns-then-p-eq0 : goal.returns-then-p-eq0
returns-then-p-eq0 c =
    let count : c.count.result ≡ processors c.args.code.now =
    c.count.ensures.count ∙ (ap processors_of c.grid.ensures ∙ grid_count c.args.code.now c.args.layout.now c.requires.layout) in
    subst (λ stages. slice_get stages c.args.made ≡ Some (staged c.taking_stage.result))
    (ap taking (ap (flagged c.mark_holders.new.flags) count ∙ c.mark_holders.ensures)
    ∙ sym (first_gathers c.args.code.now c.args.p c.args.region.now c.if-p-eq0.true)) c.taking_stage.ensures
