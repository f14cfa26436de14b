use Rattle.std.proofs.Common.{◌<◌, ◌≤◌, subst, sym}
use Rattle.lower_operators.proofs.RemapLemmas.{parts-are}
use Rattle.lower_operators.proofs.remapping.parts_from.Goals as goal

pub returns : goal.returns
returns c = λ words is.
    parts-are c.args.first words c.in_ok-one.one c.in_ok-two.two c.in_ok-three.three
    (λ h. c.in_ok-one.ensures.there (subst (λ n. 0 < n) (sym is) h))
    (λ h. c.in_ok-one.ensures.none (subst (λ n. n ≤ 0) (sym is) h))
    (λ h. c.in_ok-two.ensures.there (subst (λ n. 1 < n) (sym is) h))
    (λ h. c.in_ok-two.ensures.none (subst (λ n. n ≤ 1) (sym is) h))
    (λ h. c.in_ok-three.ensures.there (subst (λ n. 2 < n) (sym is) h))
    (λ h. c.in_ok-three.ensures.none (subst (λ n. n ≤ 2) (sym is) h))
