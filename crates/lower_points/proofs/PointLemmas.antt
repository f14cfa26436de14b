-- Members and references, one part behind another.
use Rattle.std.proofs.Common.{◌≡◌, ◌<◌, ◌≤◌, ℕ, ◌+◌, List, [], ◌∷◌, ◌++◌, drop, get_or, length, Option, Some, None, refl, sym, ◌∙◌, ap, ap₂, append_assoc, append-nil, add-one, drop-cons, arith, length-append}
use Rattle.std.proofs.lemmas.List.Sums.{fold-append}
use Rattle.std.proofs.lemmas.List.{at_drop_all}
use Rattle.zpl_tree.specs.Syntax as plain
use Rattle.zpl_tree.specs.View.{arms_of, expr_of, statement_of, stmts_of}
use Rattle.zpl_tree.specs.declared.statements.Arm.{Arm, out-Arm}
use Rattle.zpl_tree.specs.declared.statements.Stmt.{Stmt}
use Rattle.zpl_tree.proofs.Views.{arm_of-parts}
use Rattle.flat_form.specs.Row as row
use Rattle.flat_form.specs.Row.{Member}
use Rattle.zpl_meaning.specs.Store.{Thing, Scalar, ArrayAt, Fixed}
use Rattle.zpl_lowering.specs.Reference.{Reference, over_reference}
use Rattle.zpl_lowering.specs.Statement.{Elementwise, Inside, otherwise_members, put_member, put_thing}
use Rattle.zpl_lowering.specs.Where.{Slotted, Where}
use Rattle.lower_operators.specs.Once.{with_reference, with_references}
use Rattle.lower_operators.proofs.OnceLemmas.{added-once}
use Rattle.lower_points.specs.Inside.{arms_at, form_at, needed_of, stmts_at, stored_named}
use Rattle.lower_points.specs.declared.points.Point.{Point}

pub references_both : (old xs ys : List Reference) →
    with_references (with_references old xs) ys ≡ with_references old (xs ++ ys)
references_both old xs ys = sym (fold-append with_reference old xs ys)

-- members between two others
pub between : (old inside close : List Member) (m : Member) →
    ((old ++ m ∷ []) ++ inside) ++ close ≡ old ++ (m ∷ (inside ++ close))
between old inside close m =
    append_assoc (old ++ m ∷ []) inside close ∙ append_assoc old (m ∷ []) (inside ++ close)

pub dropped : {A : Type 0} (xs : List A) (i : ℕ) (d : A) → i < length xs →
    drop i xs ≡ get_or xs i d ∷ drop (i + 1) xs
dropped xs i d less = drop-cons xs i d less ∙ ap (λ n. get_or xs i d ∷ drop n xs) (sym (add-one i))

pub dropped_all : {A : Type 0} (xs : List A) (i : ℕ) → length xs ≤ i → drop i xs ≡ []
dropped_all xs i past = at_drop_all (λ rest. rest) xs i past

-- ---- statements, one after another

module _ (at : Point) (stmts : List Stmt) (i : ℕ) where
  module _ (d : Stmt) (less : i < length stmts) where
    pub members_on : (old new all : List Member) →
        new ≡ old ++ (form_at at (statement_of (get_or stmts i d).form)).members →
        old ++ (stmts_at at (stmts_of (drop i stmts))).members ≡ all →
        new ++ (stmts_at at (stmts_of (drop (i + 1) stmts))).members ≡ all
    members_on old new all is had =
        let rest = (stmts_at at (stmts_of (drop (i + 1) stmts))).members in
        ap (λ n. n ++ rest) is
        ∙ append_assoc old (form_at at (statement_of (get_or stmts i d).form)).members rest
        ∙ ap (λ s. old ++ (stmts_at at (stmts_of s)).members) (sym (dropped stmts i d less))
        ∙ had

    pub references_on : (old new all : List Reference) →
        new ≡ with_references old (form_at at (statement_of (get_or stmts i d).form)).references →
        with_references old (stmts_at at (stmts_of (drop i stmts))).references ≡ all →
        with_references new (stmts_at at (stmts_of (drop (i + 1) stmts))).references ≡ all
    references_on old new all is had =
        let rest = (stmts_at at (stmts_of (drop (i + 1) stmts))).references in
        ap (λ n. with_references n rest) is
        ∙ references_both old (form_at at (statement_of (get_or stmts i d).form)).references rest
        ∙ ap (λ s. with_references old (stmts_at at (stmts_of s)).references)
        (sym (dropped stmts i d less))
        ∙ had

  module _ (past : length stmts ≤ i) where
    pub members_all : (old all : List Member) →
        old ++ (stmts_at at (stmts_of (drop i stmts))).members ≡ all → old ≡ all
    members_all old all had =
        sym (append-nil old)
        ∙ ap (λ s. old ++ (stmts_at at (stmts_of s)).members) (sym (dropped_all stmts i past))
        ∙ had

    pub references_all : (old all : List Reference) →
        with_references old (stmts_at at (stmts_of (drop i stmts))).references ≡ all → old ≡ all
    references_all old all had =
        ap (λ s. with_references old (stmts_at at (stmts_of s)).references)
        (sym (dropped_all stmts i past))
        ∙ had

-- ---- what is assigned to

pub put_stored : (w : Where) (line slot : ℕ) (value : Elementwise) (thing : Option Thing) →
    put_thing w line slot value thing ≡ put_member line slot value (stored_named w thing)
put_stored w line slot value (Some (ArrayAt place home)) = refl
put_stored w line slot value (Some (Scalar place)) = refl
put_stored w line slot value (Some (Fixed number)) = refl
put_stored w line slot value None = refl

-- ---- choices

pub choice_members : (old body rest close : List Member) (m : Member) →
    ((old ++ m ∷ []) ++ body) ++ (rest ++ close) ≡ old ++ (m ∷ ((body ++ rest) ++ close))
choice_members old body rest close m =
    append_assoc (old ++ m ∷ []) body (rest ++ close)
    ∙ append_assoc old (m ∷ []) (body ++ (rest ++ close))
    ∙ ap (λ l. old ++ (m ∷ l)) (sym (append_assoc body rest close))

pub references_three : (old v b l : List Reference) →
    with_references (with_references (with_references old v) b) l ≡
    with_references old (v ++ (b ++ l))
references_three old v b l =
    references_both (with_references old v) b l ∙ references_both old v (b ++ l)

pub arms_first : (at : Point) (arms : List Arm) (i : ℕ) (one : Arm) (o : plain.Otherwise) →
    i < length arms → one ≡ get_or arms i one →
    arms_at at (arms_of (drop i arms)) o
    ≡ arms_at at (plain.ThenArm (plain.Tested (out-Arm one).at (expr_of (out-Arm one).test.now)
    (stmts_of (out-Arm one).body.now)) (arms_of (drop (i + 1) arms))) o
arms_first at arms i one o less is =
    ap (λ l. arms_at at (arms_of l) o)
    (dropped arms i one less ∙ ap (λ x. x ∷ drop (i + 1) arms) (sym is))
    ∙ ap (λ a. arms_at at (plain.ThenArm a (arms_of (drop (i + 1) arms))) o) (arm_of-parts one)

-- members behind an open one, and what closes it
pub opened_closed : (old one two new inside close all : List Member) (m m' : Member) →
    one ≡ old ++ m ∷ [] → m ≡ m' → two ≡ one ++ inside → new ≡ two ++ close →
    old ++ (m' ∷ (inside ++ close)) ≡ all → new ≡ all
opened_closed old one two new inside close all m m' first same second third last =
    third ∙ ap (λ l. l ++ close) (second ∙ ap (λ l. l ++ inside)
    (first ∙ ap (λ x. old ++ x ∷ []) same))
    ∙ between old inside close m' ∙ last

-- the same with another branch
pub branches_closed : (old one two three four new body last all : List Member) (m m' : Member)
    (behind : ℕ) → one ≡ old ++ m ∷ [] → m ≡ m' → two ≡ one ++ body →
    three ≡ two ++ row.Otherwise ∷ [] → behind ≡ length three → four ≡ three ++ last →
    ((opened last : List Member) → behind ≡ length opened + 1 →
    four ≡ opened ++ row.Otherwise ∷ last →
    new ≡ opened ++ (otherwise_members last ++ row.CloseIf ∷ [])) →
    old ++ (m' ∷ ((body ++ otherwise_members last) ++ row.CloseIf ∷ [])) ≡ all → new ≡ all
branches_closed old one two three four new body last all m m' behind first same second third at
    fourth closes whole =
    closes two last
    (let e : behind ≡ length two + 1 =
    omega (arith, at, ap length third, length-append two (row.Otherwise ∷ [])) in e)
    (fourth ∙ ap (λ l. l ++ last) third ∙ append_assoc two (row.Otherwise ∷ []) last)
    ∙ ap (λ l. l ++ (otherwise_members last ++ row.CloseIf ∷ []))
    (second ∙ ap (λ l. l ++ body) (first ∙ ap (λ x. old ++ x ∷ []) same))
    ∙ choice_members old body (otherwise_members last) (row.CloseIf ∷ []) m' ∙ whole

-- references of two parts
pub references_after : (old one two xs ys all : List Reference) → one ≡ with_references old xs →
    two ≡ with_references one ys → with_references old (xs ++ ys) ≡ all → two ≡ all
references_after old one two xs ys all first second whole =
    second ∙ ap (λ l. with_references l ys) first ∙ references_both old xs ys ∙ whole

-- those of a whole statement, the mask of its region last
pub all_needed : (w : Where) (over : Slotted) (inside : Inside) (one two mask : List Reference) →
    one ≡ with_references [] inside.references → mask ≡ over_reference w.numbers over →
    two ≡ with_references one mask → two ≡ needed_of w over inside
all_needed w over inside one two mask first same second =
    second ∙ ap₂ with_references first same
    ∙ references_both [] inside.references (over_reference w.numbers over)
    ∙ added-once (inside.references ++ over_reference w.numbers over)
