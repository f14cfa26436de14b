-- Which fault is kept doesn't depend on the order in which they are told.
use Rattle.std.proofs.Common.{◌≡◌, ℕ, ◌+◌, ◌*◌, ◌<◌, Bool, true, false, cond, ltb, List, [], ◌∷◌, Option, Some, None, refl, sym, ◌∙◌, ap, ap₂, arith, lit<}
use Rattle.std.specs.List.{fold}
use Rattle.std.specs.Prelude.{slice_index_or}
use Rattle.std.proofs.lemmas.Bool.{ltb-true, ltb-false}
use Rattle.name_kinds.specs.of_zpl_names.Accepted as kind
use Rattle.name_kinds.specs.of_zpl_names.Accepted.{FaultKind}
use Rattle.name_kinds.specs.of_zpl_names.Sites.{Site, CallSite, call_of}
use Rattle.name_kinds.specs.of_zpl_names.Faults.{unknown_names, twice_named, unknown_types, type_clashes, rank_clashes, no_regions, flood_clashes, shatter_bodies, not_assignable, arguments, return_places, call_places, mask_places, masked_statements, border_forms, unknown_ranks}
use Rattle.site_faults.specs.Findings.{Found, State, after, earlier_of, kept, number_of, order_of, region_told, tells, text_told, told, where_reached, with_call}

-- ---- kinds by their numbers

abbrev kinds : List FaultKind
kinds = kind.UnknownName ∷ kind.TwiceNamed ∷ kind.UnknownType ∷ kind.TypeClash ∷ kind.RankClash ∷
    kind.NoRegion ∷ kind.FloodClash ∷ kind.ShatterBody ∷ kind.NotAssignable ∷ kind.Arguments ∷
    kind.Recursion ∷ kind.ReturnPlace ∷ kind.CallPlace ∷ kind.MaskPlace ∷ kind.BorderForm ∷
    kind.NoEntry ∷ kind.RankUnknown ∷ kind.DeepCalls ∷ []

abbrev kind_with : ℕ → FaultKind
kind_with number = slice_index_or kinds number kind.UnknownName

kind-again : (k : FaultKind) → kind_with (number_of k) ≡ k
kind-again kind.UnknownName = refl
kind-again kind.TwiceNamed = refl
kind-again kind.UnknownType = refl
kind-again kind.TypeClash = refl
kind-again kind.RankClash = refl
kind-again kind.NoRegion = refl
kind-again kind.FloodClash = refl
kind-again kind.ShatterBody = refl
kind-again kind.NotAssignable = refl
kind-again kind.Arguments = refl
kind-again kind.Recursion = refl
kind-again kind.ReturnPlace = refl
kind-again kind.CallPlace = refl
kind-again kind.MaskPlace = refl
kind-again kind.BorderForm = refl
kind-again kind.NoEntry = refl
kind-again kind.RankUnknown = refl
kind-again kind.DeepCalls = refl

small : (k : FaultKind) → number_of k < 18
small kind.UnknownName = lit< tt
small kind.TwiceNamed = lit< tt
small kind.UnknownType = lit< tt
small kind.TypeClash = lit< tt
small kind.RankClash = lit< tt
small kind.NoRegion = lit< tt
small kind.FloodClash = lit< tt
small kind.ShatterBody = lit< tt
small kind.NotAssignable = lit< tt
small kind.Arguments = lit< tt
small kind.Recursion = lit< tt
small kind.ReturnPlace = lit< tt
small kind.CallPlace = lit< tt
small kind.MaskPlace = lit< tt
small kind.BorderForm = lit< tt
small kind.NoEntry = lit< tt
small kind.RankUnknown = lit< tt
small kind.DeepCalls = lit< tt

digits : (a b m n : ℕ) → m < 18 → n < 18 → a * 18 + m ≡ b * 18 + n → (a ≡ b) × (m ≡ n)
digits a b m n p q e = (omega arith, omega arith)

-- faults at one place of the order are one
order-one : (f g : Found) → order_of f ≡ order_of g → f ≡ g
order-one f g e =
    let parts = digits f.1 g.1 (number_of f.0) (number_of g.0) (small f.0) (small g.0) e in
    ap₂ (λ kind at. (kind, at))
    (sym (kind-again f.0) ∙ ap kind_with parts.1 ∙ kind-again g.0) parts.0

-- ---- of three faults the first

earlier-swap : (e f g : Found) → earlier_of (earlier_of e f) g ≡ earlier_of (earlier_of e g) f
earlier-swap e f g =
    by (ltb (order_of f) (order_of e)) (ltb (order_of g) (order_of e))
    (ltb (order_of g) (order_of f)) (ltb (order_of f) (order_of g)) refl refl refl refl
  where
    by : (fe ge gf fg : Bool) → ltb (order_of f) (order_of e) ≡ fe →
        ltb (order_of g) (order_of e) ≡ ge → ltb (order_of g) (order_of f) ≡ gf →
        ltb (order_of f) (order_of g) ≡ fg →
        earlier_of (cond fe f e) g ≡ earlier_of (cond ge g e) f
    by true true true true p q r s =
        let one = ltb-true (order_of g) (order_of f) r in
        let two = ltb-true (order_of f) (order_of g) s in absurd (omega arith)
    by true true true false p q r s = ap (λ b. cond b g f) r ∙ sym (ap (λ b. cond b f g) s)
    by true true false true p q r s = ap (λ b. cond b g f) r ∙ sym (ap (λ b. cond b f g) s)
    by true true false false p q r s =
        let one = ltb-false (order_of g) (order_of f) r in
        let two = ltb-false (order_of f) (order_of g) s in
        ap (λ b. cond b g f) r ∙ order-one f g (omega arith) ∙ sym (ap (λ b. cond b f g) s)
    by true false true fg p q r s =
        let one = ltb-true (order_of f) (order_of e) p in
        let two = ltb-false (order_of g) (order_of e) q in
        let three = ltb-true (order_of g) (order_of f) r in absurd (omega arith)
    by true false false fg p q r s = ap (λ b. cond b g f) r ∙ sym (ap (λ b. cond b f e) p)
    by false true gf true p q r s =
        let one = ltb-false (order_of f) (order_of e) p in
        let two = ltb-true (order_of g) (order_of e) q in
        let three = ltb-true (order_of f) (order_of g) s in absurd (omega arith)
    by false true gf false p q r s = ap (λ b. cond b g e) q ∙ sym (ap (λ b. cond b f g) s)
    by false false gf fg p q r s = ap (λ b. cond b g e) q ∙ sym (ap (λ b. cond b f e) p)

kept-swap : (s : Option Found) (f g : Found) → kept (kept s f) g ≡ kept (kept s g) f
kept-swap None f g = ap Some (two (ltb (order_of g) (order_of f)) (ltb (order_of f) (order_of g))
    refl refl)
  where
    two : (gf fg : Bool) → ltb (order_of g) (order_of f) ≡ gf → ltb (order_of f) (order_of g) ≡ fg →
        cond gf g f ≡ cond fg f g
    two true true r s =
        let one = ltb-true (order_of g) (order_of f) r in
        let two = ltb-true (order_of f) (order_of g) s in absurd (omega arith)
    two true false r s = refl
    two false true r s = refl
    two false false r s =
        let one = ltb-false (order_of g) (order_of f) r in
        let two = ltb-false (order_of f) (order_of g) s in order-one f g (omega arith)
kept-swap (Some e) f g = ap Some (earlier-swap e f g)

-- ---- places told

told-kept : (kind : FaultKind) (places : List ℕ) (s : Option Found) (g : Found) →
    told kind (kept s g) places ≡ kept (told kind s places) g
told-kept kind [] s g = refl
told-kept kind (at ∷ places) s g =
    ap (λ s. told kind s places) (kept-swap s g (kind, at)) ∙
    told-kept kind places (kept s (kind, at)) g

told-swap : (k l : FaultKind) (ps qs : List ℕ) (s : Option Found) →
    told k (told l s qs) ps ≡ told l (told k s ps) qs
told-swap k l ps [] s = refl
told-swap k l ps (q ∷ qs) s =
    told-swap k l ps qs (kept s (l, q)) ∙ ap (λ s. told l s qs) (told-kept k ps s (l, q))

abbrev Row : Type 0
Row = FaultKind × List ℕ

abbrev put : State → Row → State
put state row = tells row.0 row.1 state

tells-swap : (k l : FaultKind) (ps qs : List ℕ) (s : State) →
    tells k ps (tells l qs s) ≡ tells l qs (tells k ps s)
unfolding tells
tells-swap k l ps qs s =
    ap (λ fault. record s { fault = fault }) (told-swap k l ps qs s.fault)

put-tells : (rows : List Row) (k : FaultKind) (ps : List ℕ) (s : State) →
    fold put (tells k ps s) rows ≡ tells k ps (fold put s rows)
put-tells [] k ps s = refl
put-tells (row ∷ rows) k ps s =
    ap (λ s. fold put s rows) (tells-swap row.0 k row.1 ps s) ∙
    put-tells rows k ps (tells row.0 row.1 s)

put-swap : (rows more : List Row) (s : State) →
    fold put (fold put s rows) more ≡ fold put (fold put s more) rows
put-swap [] more s = refl
put-swap (row ∷ rows) more s =
    put-swap rows more (tells row.0 row.1 s) ∙
    ap (λ s. fold put s rows) (put-tells more row.0 row.1 s)

put-reached : (rows : List Row) (s : State) → (fold put s rows).reached ≡ s.reached
unfolding tells
put-reached [] s = refl
put-reached (row ∷ rows) s = put-reached rows (tells row.0 row.1 s)

with_call-tells : (call : Option CallSite) (k : FaultKind) (ps : List ℕ) (s : State) →
    with_call call (tells k ps s) ≡ tells k ps (with_call call s)
unfolding tells
with_call-tells None k ps s = refl
with_call-tells (Some call) k ps s = refl

with_call-put : (call : Option CallSite) (rows : List Row) (s : State) →
    with_call call (fold put s rows) ≡ fold put (with_call call s) rows
with_call-put call [] s = refl
with_call-put call (row ∷ rows) s =
    with_call-put call rows (tells row.0 row.1 s) ∙
    ap (λ s. fold put s rows) (with_call-tells call row.0 row.1 s)

with_call-reached : (call : Option CallSite) (s : State) → (with_call call s).reached ≡ s.reached
with_call-reached None s = refl
with_call-reached (Some call) s = refl

-- ---- sites

-- all that is told of a site
abbrev rows_of : Bool → Site → List Row
rows_of reached site =
    (kind.UnknownName, unknown_names site) ∷ (kind.TwiceNamed, twice_named site) ∷
    (kind.UnknownType, unknown_types site) ∷ (kind.TypeClash, type_clashes site) ∷
    (kind.RankClash, rank_clashes site) ∷ (kind.NoRegion, no_regions site) ∷
    (kind.ShatterBody, shatter_bodies site) ∷ (kind.NotAssignable, not_assignable site) ∷
    (kind.Arguments, arguments site) ∷ (kind.ReturnPlace, return_places site) ∷
    (kind.CallPlace, call_places site) ∷ (kind.MaskPlace, mask_places site) ∷
    (kind.BorderForm, border_forms site) ∷ (kind.RankUnknown, unknown_ranks site) ∷
    (kind.FloodClash, where_reached reached (flood_clashes site)) ∷
    (kind.MaskPlace, where_reached reached (masked_statements site)) ∷ []

pub after-rows : (s : State) (site : Site) →
    after s site ≡ with_call (call_of site) (fold put s (rows_of s.reached site))
unfolding after text_told region_told tells
after-rows s site = refl

quiet-rows : (s : State) (site : Site) → call_of site ≡ None →
    after s site ≡ fold put s (rows_of s.reached site)
quiet-rows s site quiet =
    after-rows s site ∙
    ap (λ call. with_call call (fold put s (rows_of s.reached site))) quiet

after-reached : (s : State) (site : Site) → (after s site).reached ≡ s.reached
after-reached s site =
    ap (λ s. s.reached) (after-rows s site) ∙
    with_call-reached (call_of site) (fold put s (rows_of s.reached site)) ∙
    put-reached (rows_of s.reached site) s

after-swap : (s : State) (x y : Site) → call_of x ≡ None →
    after (after s x) y ≡ after (after s y) x
after-swap s x y quiet =
    let xs = rows_of s.reached x in
    let ys = rows_of s.reached y in
    after-rows (after s x) y ∙
    ap₂ (λ reached s. with_call (call_of y) (fold put s (rows_of reached y))) (after-reached s x)
    (quiet-rows s x quiet) ∙
    ap (with_call (call_of y)) (put-swap xs ys s) ∙
    with_call-put (call_of y) xs (fold put s ys) ∙
    ap₂ (λ reached s. fold put s (rows_of reached x)) (sym (after-reached s y))
    (sym (after-rows s y)) ∙
    sym (quiet-rows (after s y) x quiet)

-- a site without a call may be looked at behind others
pub late : (s : State) (x : Site) (xs : List Site) → call_of x ≡ None →
    after (fold after s xs) x ≡ fold after (after s x) xs
late s x [] quiet = refl
late s x (y ∷ xs) quiet =
    late (after s y) x xs quiet ∙ ap (λ s. fold after s xs) (sym (after-swap s x y quiet))
