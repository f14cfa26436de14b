use Rattle.std.proofs.Common.{◌≡◌, Bool, true, false, ℤ, List, [], ◌∷◌, refl, ap, ◌∙◌, map, ◌&&◌}
use Rattle.std.specs.Ordering.{int_eq}
use Rattle.std.proofs.Math.Dec.{eqb}
use Rattle.lower_regions.specs.of_zpl_lowering.Reference.{is_same, is_same_vector}
use Rattle.lower_operators.specs.declared.references.Reference.{Reference}
use Rattle.lower_operators.specs.contracts.references.ReferencePartialEq.TheImpl.{eq-value as reference_eq}
use Rattle.lower_operators.specs.Once.{reference_of, with_reference}
use Rattle.lower_operators.proofs.OnceLemmas.{added-key}
use Rattle.lower_operators.proofs.references.References.add.Goals as goal

module _ (p : List ℤ → List ℤ → Bool) (none : p [] [] ≡ true)
    (less : (e : ℤ) (w : List ℤ) → p [] (e ∷ w) ≡ false)
    (more : (d : ℤ) (v : List ℤ) → p (d ∷ v) [] ≡ false)
    (both : (d e : ℤ) (v w : List ℤ) → p (d ∷ v) (e ∷ w) ≡ (int_eq d e && p v w)) where
  vectors-agree : (v w : List ℤ) → p v w ≡ is_same_vector v w
  vectors-agree [] [] = none
  vectors-agree [] (e ∷ w) = less e w
  vectors-agree (d ∷ v) [] = more d v
  vectors-agree (d ∷ v) (e ∷ w) = both d e v w ∙ ap (λ b. int_eq d e && b) (vectors-agree v w)

-- two vectors, compared as parts of references are
abbrev compared : List ℤ → List ℤ → Bool
compared v w =
    reference_eq.it (record { slot = 0; array = 0; shift = v })
    (record { slot = 0; array = 0; shift = w })

grouped : (a b c : Bool) → a && (b && c) ≡ ((a && b) && c)
grouped true b c = refl
grouped false b c = refl

agree : (x y : Reference) → reference_eq.it x y ≡ is_same (reference_of x) (reference_of y)
agree x y =
    ap (λ b. eqb x.slot y.slot && (eqb x.array y.array && b)) (vectors-agree compared refl
    (λ e w. refl) (λ d v. refl) (λ d e v w. refl) x.shift y.shift)
    ∙ grouped (eqb x.slot y.slot) (eqb x.array y.array) (is_same_vector x.shift y.shift)

pub returns : goal.returns
returns c =
    ap (λ keys. map reference_of keys) c.in_ok-insert.ensures.keys
    ∙ added-key reference_eq.it reference_of agree c.self.inside.items.keys c.args.one
    ∙ ap (λ references. with_reference references (reference_of c.args.one)) c.self.view_is
