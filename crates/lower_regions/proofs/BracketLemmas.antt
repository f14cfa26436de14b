-- Brackets that are one row, and those that stand in a slot already.
use Rattle.std.proofs.Common.{◌≡◌, ℕ, suc, Bool, true, false, not, ◌&&◌, ◌==◌, List, [], ◌∷◌, ◌++◌, map, length, Option, Some, None, refl, sym, ap, ◌∙◌, subst, arith, eqb-true}
use Rattle.zpl_region.specs.declared.regions.Region.{Region}
use Rattle.flat_form.specs.Row.{Row}
use Rattle.zpl_tree.specs.Syntax.{Ditto, Inner, Name, NamedRegion, Posts, Pre, Rexpr}
use Rattle.zpl_tree.specs.View.{posts_of, pre_of}
use Rattle.zpl_tree.specs.declared.regions.Post.{Post}
use Rattle.zpl_tree.specs.declared.regions.Pre.{Pre as Before}
use Rattle.zpl_names.specs.Ranks.{is_index}
use Rattle.zpl_binding.specs.Regions.{Known}
use Rattle.lower_places.specs.of_zpl_lowering.Where.{Slotted, Where}
use Rattle.lower_places.specs.of_zpl_lowering.Bracket.{Form, Opened, computed, fixed_or, formed, forms_of, name_opened, named_region, one_row, pre_forms, standing}
use Rattle.lower_regions.specs.Opened.{are_none, fixed_at, has_no}

behind_some : (rows : List Row) (row : Row) → are_none (rows ++ row ∷ []) ≡ false
behind_some [] row = refl
behind_some (other ∷ rows) row = refl

-- rows that are there stay there
pub formed_some : (next line : ℕ) (forms : List Form) (opened : Opened) →
    are_none opened.rows ≡ false → are_none (formed next line forms opened).rows ≡ false
formed_some next line [] opened is = is
formed_some next line (form ∷ forms) opened is =
    formed_some (suc next) line forms _ (behind_some opened.rows _)

pub formed_rows : (next line : ℕ) (forms : List Form) (opened : Opened) →
    are_none opened.rows ≡ true → are_none (formed next line forms opened).rows ≡ has_no forms
formed_rows next line [] opened is = is
formed_rows next line (form ∷ forms) opened is =
    formed_some (suc next) line forms _ (behind_some opened.rows _)

-- ---- one row

none-some : false ≡ true → ⊥
none-some e = cc

pub fixed_stands : (constant : Option Region) (next : ℕ) (opened : Opened) →
    are_none opened.rows ≡ true → fixed_or constant next opened ≡ opened
fixed_stands None next opened is = refl
fixed_stands (Some region) next opened is = by opened.rows is
  where
    by : (rows : List Row) → are_none rows ≡ true →
        one_row rows opened (fixed_at next region) ≡ opened
    by [] is = refl
    by (row ∷ rows) is = absurd (none-some is)

pub fixed_fills : (region : Region) (next : ℕ) (opened : Opened) →
    are_none opened.rows ≡ false → fixed_or (Some region) next opened ≡ fixed_at next region
fixed_fills region next opened is = by opened.rows is
  where
    by : (rows : List Row) → are_none rows ≡ false →
        one_row rows opened (fixed_at next region) ≡ fixed_at next region
    by [] is = absurd (none-some (sym is))
    by (row ∷ rows) is = refl

-- ---- what stands in a slot already

no_length : {A : Type 0} (x : A) (xs : List A) → (length (x ∷ xs) == 0) ≡ false
no_length {A} x xs = by (length (x ∷ xs) == 0) refl
  where
    by : (b : Bool) → (length (x ∷ xs) == 0) ≡ b → b ≡ false
    by true e = absurd (omega (arith, eqb-true (length (x ∷ xs)) 0 e))
    by false e = refl

behind_form : (forms : List Form) (form : Form) → has_no (forms ++ form ∷ []) ≡ false
behind_form [] form = refl
behind_form (other ∷ forms) form = refl

pub forms_none : (known : Known) (pre : List Before) (post : List Post) →
    ((length pre == 0) && (length post == 0))
    ≡ has_no (forms_of known (map pre_of pre) (posts_of post))
forms_none known [] [] = refl
forms_none known [] (post ∷ rest) = no_length post rest
forms_none known (pre ∷ more) [] =
    ap (λ (b : Bool). b && true) (no_length pre more)
    ∙ sym (behind_form (pre_forms known (map pre_of more)) _)
forms_none known (pre ∷ more) (post ∷ rest) =
    ap (λ (b : Bool). b && (length (post ∷ rest) == 0)) (no_length pre more)

pub named_rows : (w : Where) (next line : ℕ) (current : Slotted) (pre : List Pre) (name : Name)
    (post : Posts) →
    are_none (computed w next line current (Rexpr pre (NamedRegion name) post)).rows
    ≡ (not (is_index w.scope pre name post) && has_no (forms_of w.setup.known pre post))
named_rows w next line current pre name post = by (is_index w.scope pre name post)
  where
    by : (b : Bool) → are_none (name_opened b w next line current pre name post).rows
        ≡ (not b && has_no (forms_of w.setup.known pre post))
    by true = refl
    by false =
        formed_rows next line (forms_of w.setup.known pre post)
        (named_region w.setup.known name) refl

pub ditto_rows : (w : Where) (next line : ℕ) (current : Slotted) (pre : List Pre) (at : ℕ)
    (post : Posts) → are_none (computed w next line current (Rexpr pre (Ditto at) post)).rows
    ≡ has_no (forms_of w.setup.known pre post)
ditto_rows w next line current pre at post =
    formed_rows next line (forms_of w.setup.known pre post)
    (standing current.slot current.flood) refl

pub ditto_stands : (w : Where) (next line : ℕ) (current : Slotted) (pre : List Pre) (at : ℕ)
    (post : Posts) (inner : Inner) (none : Bool) → inner ≡ Rexpr pre (Ditto at) post →
    none ≡ has_no (forms_of w.setup.known pre post) →
    none ≡ are_none (computed w next line current inner).rows
ditto_stands w next line current pre at post inner none is told =
    told
    ∙ sym (ap (λ (one : Inner). are_none (computed w next line current one).rows) is
    ∙ ditto_rows w next line current pre at post)
