-- The code of a shattered statement: its rows, and one behind a loop that puts nothing.
use Rattle.std.proofs.Common.{◌≡◌, ℕ, ◌+◌, Bool, ap, ◌∙◌, arith}
use Rattle.std.specs.Prelude.{Option}
use Rattle.zpl_tree.specs.Syntax.{Form}
use Rattle.zpl_meaning.specs.Context.{Mask}
use Rattle.zpl_lowering.specs.Where.{Where}
use Rattle.zpl_lowering.specs.Lowered.{Lowered}
use Rattle.zpl_lowering.specs.Hoist.{mask_code}
use Rattle.zpl_lowering.specs.Statement.{Inside, has_put, kept_apart, masked_members, shattered}
use Rattle.zpl_lowering.proofs.PutLemmas.{masked_put}
use Rattle.lower_operators.specs.of_lower_draft.Drafted.{Drafted, grown}
use Rattle.lower_operators.proofs.of_lower_draft.GrowthLemmas.{both_grown}
use Rattle.lower_points.specs.Inside.{whole_inside, whole_rows}

-- whatever mask is around its members
pub group_put : (w : Where) (line : ℕ) (mask : Option Mask) (inside : Inside) →
    has_put (masked_members (mask_code w.numbers mask) line inside.members)
    ≡ has_put inside.members
group_put w line mask inside = masked_put (mask_code w.numbers mask) line inside.members

-- the rows of the statement, and what stands behind them
pub shattered_grown : (draft mid last : Drafted) (w : Where) (line : ℕ) (form : Form)
    (put : Bool) → mid ≡ grown draft (whole_rows w line draft.next form) →
    put ≡ has_put (whole_inside w line draft.next form).members →
    last ≡ grown mid (kept_apart put line mid.next.scalars) →
    last ≡ grown draft (shattered w line draft.next form)
shattered_grown draft mid last w line form put rows is behind =
    let first : Lowered = whole_rows w line draft.next form in
    let own : Bool = has_put (whole_inside w line draft.next form).members in
    let same : draft.next.scalars + 0 ≡ draft.next.scalars = omega arith in
    behind ∙ ap (λ d. grown d (kept_apart put line d.next.scalars)) rows
    ∙ ap (λ b. grown (grown draft first) (kept_apart b line (draft.next.scalars + 0))) is
    ∙ ap (λ k. grown (grown draft first) (kept_apart own line k)) same
    ∙ both_grown draft first (kept_apart own line draft.next.scalars)
