-- Fringes, and the dimensions of stored arrays.
use Rattle.std.proofs.Common.{◌≡◌, ℕ, zero, suc, ◌≤◌, ℤ, pos, neg_ℤ, List, [], ◌∷◌, get_or, length}
use Rattle.std.proofs.Common.{refl, sym, ap, ◌∙◌, arith}
use Rattle.std.specs.Int.{int_max}
use Rattle.zpl_region.specs.declared.dims.Dim.{Dim}
use Rattle.zpl_region.specs.declared.dims.Dim.TheVariants as dim
use Rattle.zpl_lowering.specs.of_node_form.declared.arrays.ArrayDim.{ArrayDim}
use Rattle.zpl_lowering.specs.Tables.{Fringe, all_wider, no_fringe, no_range, stored_dim}
use Rattle.zpl_lowering.specs.Tables.{stored_dims, wider}
use Rattle.lower_draft.proofs.PushLemmas.{three_of}

pub stored_all : (rank : ℕ) (a b c : Dim) (x y z : Fringe) → 3 ≤ rank →
    stored_dims rank (a ∷ b ∷ c ∷ []) (x ∷ y ∷ z ∷ [])
    ≡ stored_dim a x ∷ stored_dim b y ∷ stored_dim c z ∷ []
stored_all zero a b c x y z low = absurd (omega arith)
stored_all (suc zero) a b c x y z low = absurd (omega arith)
stored_all (suc (suc zero)) a b c x y z low = absurd (omega arith)
stored_all (suc (suc (suc rank))) a b c x y z low = refl

pub stored_none : (rank : ℕ) (a b c : Dim) (x y z : Fringe) → rank ≡ 0 →
    stored_dims rank (a ∷ b ∷ c ∷ []) (x ∷ y ∷ z ∷ []) ≡ no_range ∷ no_range ∷ no_range ∷ []
stored_none zero a b c x y z is = refl
stored_none (suc rank) a b c x y z is = absurd (omega arith)

pub stored_one : (rank : ℕ) (a b c : Dim) (x y z : Fringe) → rank ≡ 1 →
    stored_dims rank (a ∷ b ∷ c ∷ []) (x ∷ y ∷ z ∷ [])
    ≡ stored_dim a x ∷ no_range ∷ no_range ∷ []
stored_one zero a b c x y z is = absurd (omega arith)
stored_one (suc zero) a b c x y z is = refl
stored_one (suc (suc rank)) a b c x y z is = absurd (omega arith)

pub stored_two : (rank : ℕ) (a b c : Dim) (x y z : Fringe) → rank ≡ 2 →
    stored_dims rank (a ∷ b ∷ c ∷ []) (x ∷ y ∷ z ∷ [])
    ≡ stored_dim a x ∷ stored_dim b y ∷ no_range ∷ []
stored_two zero a b c x y z is = absurd (omega arith)
stored_two (suc zero) a b c x y z is = absurd (omega arith)
stored_two (suc (suc zero)) a b c x y z is = refl
stored_two (suc (suc (suc rank))) a b c x y z is = absurd (omega arith)

-- the same of lists of three
spelled : (rank : ℕ) (dims : List Dim) (fringes : List Fringe) (a b c : Dim) (x y z : Fringe) →
    length dims ≡ 3 → length fringes ≡ 3 →
    stored_dims rank dims fringes
    ≡ stored_dims rank (get_or dims 0 a ∷ get_or dims 1 b ∷ get_or dims 2 c ∷ [])
    (get_or fringes 0 x ∷ get_or fringes 1 y ∷ get_or fringes 2 z ∷ [])
spelled rank dims fringes a b c x y z wide long =
    sym (ap (λ (ds : List Dim). stored_dims rank ds
    (get_or fringes 0 x ∷ get_or fringes 1 y ∷ get_or fringes 2 z ∷ [])) (three_of dims a b c wide)
    ∙ ap (stored_dims rank dims) (three_of fringes x y z long))

pub none_listed : (rank : ℕ) (dims : List Dim) (fringes : List Fringe) → length dims ≡ 3 →
    length fringes ≡ 3 → rank ≡ 0 →
    no_range ∷ no_range ∷ no_range ∷ [] ≡ stored_dims rank dims fringes
none_listed rank dims fringes wide long is =
    let d : Dim = dim.Flood in
    let f : Fringe = no_fringe in
    sym (spelled rank dims fringes d d d f f f wide long
    ∙ stored_none rank (get_or dims 0 d) (get_or dims 1 d) (get_or dims 2 d)
    (get_or fringes 0 f) (get_or fringes 1 f) (get_or fringes 2 f) is)

pub one_listed : (rank : ℕ) (dims : List Dim) (fringes : List Fringe) (one : ArrayDim) (a : Dim)
    (x : Fringe) → length dims ≡ 3 → length fringes ≡ 3 → rank ≡ 1 →
    one ≡ stored_dim (get_or dims 0 a) (get_or fringes 0 x) →
    one ∷ no_range ∷ no_range ∷ [] ≡ stored_dims rank dims fringes
one_listed rank dims fringes one a x wide long is one-is =
    ap (λ (d : ArrayDim). d ∷ no_range ∷ no_range ∷ []) one-is
    ∙ sym (spelled rank dims fringes a a a x x x wide long
    ∙ stored_one rank (get_or dims 0 a) (get_or dims 1 a) (get_or dims 2 a)
    (get_or fringes 0 x) (get_or fringes 1 x) (get_or fringes 2 x) is)

pub two_listed : (rank : ℕ) (dims : List Dim) (fringes : List Fringe) (one two : ArrayDim)
    (a b : Dim) (x y : Fringe) → length dims ≡ 3 → length fringes ≡ 3 → rank ≡ 2 →
    one ≡ stored_dim (get_or dims 0 a) (get_or fringes 0 x) →
    two ≡ stored_dim (get_or dims 1 b) (get_or fringes 1 y) →
    one ∷ two ∷ no_range ∷ [] ≡ stored_dims rank dims fringes
two_listed rank dims fringes one two a b x y wide long is one-is two-is =
    ap (λ (d : ArrayDim). d ∷ two ∷ no_range ∷ []) one-is
    ∙ ap (λ (d : ArrayDim). stored_dim (get_or dims 0 a) (get_or fringes 0 x) ∷ d ∷ no_range ∷ [])
    two-is
    ∙ sym (spelled rank dims fringes a b b x y y wide long
    ∙ stored_two rank (get_or dims 0 a) (get_or dims 1 b) (get_or dims 2 b)
    (get_or fringes 0 x) (get_or fringes 1 y) (get_or fringes 2 y) is)

-- ---- wider fringes

pub wider_by : (fringe : Fringe) (low high d lower upper : ℤ) →
    record { low = low; high = high } ≡ fringe → lower ≡ int_max low (neg_ℤ d) →
    upper ≡ int_max high d → record { low = lower; high = upper } ≡ wider fringe d
wider_by fringe low high d lower upper is lower-is upper-is =
    ap (λ (x : ℤ). let made : Fringe = record { low = x; high = upper } in made) lower-is
    ∙ ap (λ (x : ℤ). let made : Fringe = record { low = int_max low (neg_ℤ d); high = x } in made)
    upper-is
    ∙ ap (λ (one : Fringe). wider one d) is

pub each_wider : (fringes : List Fringe) (shift : List ℤ) (x y z : Fringe) (d e f : ℤ)
    (a b c : Fringe) → length fringes ≡ 3 → length shift ≡ 3 →
    d ≡ get_or shift 0 (pos 0) → e ≡ get_or shift 1 (pos 0) → f ≡ get_or shift 2 (pos 0) →
    a ≡ wider (get_or fringes 0 x) d → b ≡ wider (get_or fringes 1 y) e →
    c ≡ wider (get_or fringes 2 z) f → a ∷ b ∷ c ∷ [] ≡ all_wider fringes shift
each_wider (p ∷ q ∷ r ∷ []) (u ∷ v ∷ w ∷ []) x y z d e f a b c wide long d-is e-is f-is a-is b-is
    c-is =
    ap (λ (one : Fringe). one ∷ b ∷ c ∷ []) (a-is ∙ ap (wider p) d-is)
    ∙ ap (λ (one : Fringe). wider p u ∷ one ∷ c ∷ []) (b-is ∙ ap (wider q) e-is)
    ∙ ap (λ (one : Fringe). wider p u ∷ wider q v ∷ one ∷ []) (c-is ∙ ap (wider r) f-is)
each_wider [] shift x y z d e f a b c wide long d-is e-is f-is a-is b-is c-is =
    absurd (omega (arith, wide))
each_wider (p ∷ []) shift x y z d e f a b c wide long d-is e-is f-is a-is b-is c-is =
    absurd (omega (arith, wide))
each_wider (p ∷ q ∷ []) shift x y z d e f a b c wide long d-is e-is f-is a-is b-is c-is =
    absurd (omega (arith, wide))
each_wider (p ∷ q ∷ r ∷ s ∷ t) shift x y z d e f a b c wide long d-is e-is f-is a-is b-is c-is =
    absurd (omega (arith, wide))
each_wider (p ∷ q ∷ r ∷ []) [] x y z d e f a b c wide long d-is e-is f-is a-is b-is c-is =
    absurd (omega (arith, long))
each_wider (p ∷ q ∷ r ∷ []) (u ∷ []) x y z d e f a b c wide long d-is e-is f-is a-is b-is c-is =
    absurd (omega (arith, long))
each_wider (p ∷ q ∷ r ∷ []) (u ∷ v ∷ []) x y z d e f a b c wide long d-is e-is f-is a-is b-is c-is
    = absurd (omega (arith, long))
each_wider (p ∷ q ∷ r ∷ []) (u ∷ v ∷ w ∷ s ∷ t) x y z d e f a b c wide long d-is e-is f-is a-is
    b-is c-is =
    absurd (omega (arith, long))
