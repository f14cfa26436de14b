-- The passes one behind the other.
use Rattle.std.proofs.Common.{◌≡◌, ◌∙◌, ap}
use Rattle.node_form.specs.declared.tables.Tables.{Tables}
use Rattle.temp_norm.specs.Normalised.{normalised}
use Rattle.bound_check.specs.Checked.{checked}
use Rattle.comm_needs.specs.Needs.{planned}
use Rattle.node_emit.specs.Emit.{emitted}
use Rattle.flat_code.specs.Passes.{improved, node_tables, settled}
use Rattle.flat_code.specs.declared.builds.Build.{Build}

pub whole : (build : Build) (flat taken normal sound loops plan better code : Tables)
    → taken ≡ flat → normal ≡ normalised taken → sound ≡ checked normal
    → loops ≡ settled build.options sound → plan ≡ planned build.grid loops
    → better ≡ improved build.options build.links plan
    → code ≡ emitted build.options.tree build.grid better → code ≡ node_tables build flat
whole build flat taken normal sound loops plan better code a b c d e f g =
    let last = λ (t : Tables). emitted build.options.tree build.grid t in
    let plans = λ (t : Tables). last (improved build.options build.links t) in
    let needs = λ (t : Tables). plans (planned build.grid t) in
    let joins = λ (t : Tables). needs (settled build.options t) in
    g
    ∙ (ap last f
    ∙ (ap plans e
    ∙ (ap needs d
    ∙ (ap joins c
    ∙ (ap (λ t. joins (checked t)) b
    ∙ ap (λ t. joins (checked (normalised t))) a)))))
