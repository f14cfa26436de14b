use Rattle.std.proofs.Common.{◌∙◌, ap}
use Rattle.zpl_tree.specs.View.{syntax_of}
use Rattle.zpl_bind.specs.Lists.{bound_of}
use Rattle.text_sharing.specs.Shared.{texts_shared}
use Rattle.zpl_lower.proofs.KnownLemmas.{same-known}
use Rattle.zpl_lower.proofs.programs.lower.Goals as goal

pub returns-clause-lowered : goal.returns-clause-lowered
returns-clause-lowered c = λ settings binds.
    let own = c.requires.bound.binds in
    let follow = c.bound_lists_follow_the_text.ensures in
    c.in_ok-tables.ensures
    ∙ ap texts_shared (c.in_ok-unshared.ensures settings
    (own.known ∙ same-known
    (record { values = follow.values; regions = follow.regions; directions = follow.directions })
    (syntax_of c.args.typed.now.program.now) c.requires.bound.settings settings
    (bound_of c.args.bound.now) own.lists binds))
