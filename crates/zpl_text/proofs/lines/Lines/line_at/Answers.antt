use Rattle.std.proofs.Common.{◌≡◌, ◌==◌, ℕ, ◌+◌, ◌≤◌, take, length, refl, sym, ap, ◌∙◌, subst}
use Rattle.std.proofs.Common.{arith}
use Rattle.std.specs.Prelude.{count_by}
use Rattle.zpl_text.specs.declared.lines.Lines.TheInside.{Inside}
use Rattle.zpl_text.specs.Lines.{line_at}
use Rattle.zpl_text.proofs.Newlines.{counted, at_end, told_line}
use Rattle.zpl_text.proofs.lines.Lines.line_at.Goals as goal
use Rattle.zpl_text.proofs.lines.Lines.line_at.Goals.{then-offset-self, else-offset-self}
use Rattle.zpl_text.proofs.lines.Lines.line_at.Goals.{After-newlines_in}

-- of this source so many newlines stand before the offset
abbrev HasCounted : Inside → Inside → ℕ → Type 0
HasCounted start inside offset =
    (inside.source.now ≡ start.source.now)
    × (inside.offset ≤ offset)
    × (inside.newlines ≡ count_by (λ b. b == 10) (take inside.offset inside.source.now))

-- where the counting goes on, or begins anew
begun : (c : After-newlines_in)
    → HasCounted c.self.inside c.if-offset-self.self-inside c.min-offset.result
begun c =
    elim c.if-offset-self.branch [
      | then-offset-self w ↦
          subst (λ i. HasCounted c.self.inside i c.min-offset.result) (sym w.self-inside-is)
          (refl, omega arith, refl)
      | else-offset-self w ↦
          subst (λ i. HasCounted c.self.inside i c.min-offset.result) (sym w.self-inside-is)
          (refl, w.if-offset-self.false, c.self.invariant.1)
    ]

-- what is counted then
all : (c : After-newlines_in) →
    c.if-offset-self.self-inside.newlines + c.newlines_in.result
    ≡ count_by (λ b. b == 10) (take c.min-offset.result c.if-offset-self.self-inside.source.now)
all c =
    let inside = c.if-offset-self.self-inside in
    let before = begun c in
    counted (λ b. b == 10) inside.offset c.min-offset.result inside.newlines c.newlines_in.result
    inside.source.now before.1 before.2 c.newlines_in.ensures.count

pub invariant_of-self : goal.invariant_of-self
invariant_of-self c =
    let before = begun (goal.at.invariant_of-self c).After-newlines_in in (
      omega (arith, c.min-offset.ensures, ap length before.0),
      all
          (goal.at.invariant_of-self c).After-newlines_in,
    )

pub returns-clause-line : goal.returns-clause-line
returns-clause-line c =
    let before = begun (goal.at.returns-clause-line c).After-newlines_in in
    let line : 1 + (c.if-offset-self.self-inside.newlines + c.newlines_in.result) ≡ line_at
    c.args.self.now c.args.at =
    ap (λ n. 1 + n)
    (all (goal.at.returns-clause-line c).After-newlines_in
    ∙ ap (λ s. count_by (λ b. b == 10) (take c.min-offset.result s)) before.0
    ∙ at_end (λ b. b == 10) c.args.at c.min-offset.result c.self.inside.source.now
    c.min-offset.ensures
    ∙ ap (λ s. count_by (λ b. b == 10) (take c.args.at s)) c.self.view_is) in
    told_line c.try_from.result c.ok.result _ (line_at c.args.self.now c.args.at) c.try_from.ensures
    c.ok.ensures.value line
