use Rattle.node_form.specs.declared.tables.Tables.{Tables}
use Rattle.zpl_lowering.specs.Tables.{flat_tables}
use Rattle.settled_runs.specs.of_zpl_compile.Compile.{plan_of, settled}
use Rattle.compiled_runs.proofs.SharableLemmas.{plannable}
use Rattle.compiled_runs.proofs.ShownLemmas.{code_shows, plan_shows}
use Rattle.compiled_runs.proofs.compiled_plans_keep_runs.Goals as goal

pub returns-clause-plan : goal.returns-clause-plan
returns-clause-plan c build flat is whole typed none sharable links built a n =
    let low : Tables = settled build flat in
    plan_shows c.plans_keep_runs.ensures build flat is sharable links built a n
    (c.flat_passes_keep_runs.ensures build flat whole typed none a n)
    (c.plan_passes_keep_runs.ensures.runs build low is (plannable low sharable) links built a n)

pub returns-clause-code : goal.returns-clause-code
returns-clause-code c build flat is whole typed none sharable links built a n =
    let low : Tables = settled build flat in
    code_shows c.plans_keep_runs.ensures build flat is sharable links built a n
    (c.node_code_runs_as_its_plan.ensures.runs build.options.tree build.grid (plan_of build low)
    (c.plan_passes_keep_runs.ensures.grid build low) links a n)
    (c.flat_passes_keep_runs.ensures build flat whole typed none a n)
    (c.plan_passes_keep_runs.ensures.runs build low is (plannable low sharable) links built a n)

pub returns-clause-program : goal.returns-clause-program
returns-clause-program c build program is whole typed none sharable links built a n =
    let flat : Tables = flat_tables program build.settings in
    let low : Tables = settled build flat in
    code_shows c.plans_keep_runs.ensures build flat is sharable links built a n
    (c.node_code_runs_as_its_plan.ensures.runs build.options.tree build.grid (plan_of build low)
    (c.plan_passes_keep_runs.ensures.grid build low) links a n)
    (c.flat_passes_keep_runs.ensures build flat whole typed none a n)
    (c.plan_passes_keep_runs.ensures.runs build low is (plannable low sharable) links built a n)
