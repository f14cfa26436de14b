-- Forms of a region, one after the other.
use Rattle.std.proofs.Common.{◌≡◌, ℕ, suc, ◌+◌, ◌<◌, Bool, List, [], ◌∷◌, ◌++◌, length, map, drop, drop-cons, get_or, refl, sym, ap, ◌∙◌, subst, arith, append_assoc, length-append}
use Rattle.node_form.specs.declared.instructions.Instr.TheVariants as instr
use Rattle.flat_form.specs.Row as row
use Rattle.zpl_tree.specs.Syntax.{Posts, Pre}
use Rattle.zpl_tree.specs.View.{posts_of, pre_of}
use Rattle.zpl_tree.specs.declared.regions.Post.{Post}
use Rattle.zpl_tree.specs.declared.regions.Pre.{Pre as Before}
use Rattle.zpl_binding.specs.Regions.{Known}
use Rattle.lower_places.specs.of_zpl_lowering.Bracket.{Form, Opened, formed, post_forms, pre_forms, standing}
use Rattle.lower_places.specs.of_lower_draft.Drafted.{Drafted}
use Rattle.lower_regions.specs.declared.opened.Opened as code
use Rattle.lower_regions.specs.Opened.{IsOpened, standing_at, with_opened}
use Rattle.lower_regions.proofs.OpenedLemmas.{opened_then, standing_grown, then_grown}

-- a form more
abbrev pub formed_one : ℕ → ℕ → Form → Opened → Opened
formed_one next line form opened = record {
  rows = opened.rows ++ row.Plain (instr.Formed form.form next opened.slot form.shift line) ∷ [];
  slots = opened.slots ++ length opened.flood ∷ [];
  slot = next;
  flood = opened.flood;
}

-- Where the forms that are left make of what is opened so far this whole, behind a start.
pub record Forming (start : Drafted) (line : ℕ) (whole : Opened) (draft : Drafted)
    (opened : code.Opened) (left : List Form) : Type 0 where
  pub so : Opened
  pub grown : draft ≡ with_opened start so
  pub slot : opened.slot ≡ so.slot
  pub flood : opened.flood ≡ so.flood
  pub rest : formed (start.next.slots + length so.slots) line left so ≡ whole

no_more : (n : ℕ) → n + 0 ≡ n
no_more n = omega arith

pub forming_begins : (start : Drafted) (line : ℕ) (base : code.Opened) (forms : List Form) →
    Forming start line (formed start.next.slots line forms (standing_at base)) start base forms
forming_begins start line base forms = record {
  so = standing_at base;
  grown = standing_grown start base.slot base.flood;
  slot = refl;
  flood = refl;
  rest = ap (λ (k : ℕ). formed k line forms (standing_at base)) (no_more start.next.slots);
}

one_more : {A : Type 0} (n : ℕ) (xs : List A) (x : A) →
    n + length (xs ++ x ∷ []) ≡ suc (n + length xs)
one_more n xs x = omega (arith, length-append xs (x ∷ []))

same_standing : (opened : code.Opened) (so : Opened) → opened.slot ≡ so.slot →
    opened.flood ≡ so.flood → standing_at opened ≡ standing so.slot so.flood
same_standing opened so slot flood =
    ap (λ (k : ℕ). standing k opened.flood) slot ∙ ap (standing so.slot) flood

pub forming_goes : (start : Drafted) (line : ℕ) (whole : Opened) (draft next : Drafted)
    (opened after : code.Opened) (form : Form) (left : List Form) →
    Forming start line whole draft opened (form ∷ left) →
    next ≡ with_opened draft (formed draft.next.slots line (form ∷ []) (standing_at opened)) →
    IsOpened (formed draft.next.slots line (form ∷ []) (standing_at opened)) after →
    Forming start line whole next after left
forming_goes start line whole draft next opened after form left forming grown is =
    let so = forming.so in
    let at = start.next.slots + length so.slots in
    let here = same_standing opened so forming.slot forming.flood in
    let slots : draft.next.slots ≡ at = ap (λ (d : Drafted). d.next.slots) forming.grown in
    record {
      so = formed_one at line form so;
      grown =
          grown
          ∙ ap (λ (s : Opened). with_opened draft (formed_one draft.next.slots line form s)) here
          ∙ ap (λ (k : ℕ). with_opened draft (formed_one k line form (standing so.slot so.flood))) slots
          ∙ ap (λ (d : Drafted). with_opened d (formed_one at line form (standing so.slot so.flood)))
          forming.grown
          ∙ then_grown start so (formed_one at line form (standing so.slot so.flood));
      slot = is.slot ∙ slots;
      flood = is.flood ∙ forming.flood;
      rest =
          ap (λ (k : ℕ). formed k line left (formed_one at line form so))
          (one_more start.next.slots so.slots (length so.flood))
          ∙ forming.rest;
    }

pub forming_grown : (start : Drafted) (line : ℕ) (whole : Opened) (draft : Drafted)
    (opened : code.Opened) → Forming start line whole draft opened [] →
    draft ≡ with_opened start whole
forming_grown start line whole draft opened forming =
    forming.grown ∙ ap (with_opened start) forming.rest

pub forming_opened : (start : Drafted) (line : ℕ) (whole : Opened) (draft : Drafted)
    (opened : code.Opened) → Forming start line whole draft opened [] → IsOpened whole opened
forming_opened start line whole draft opened forming = record {
  slot = forming.slot ∙ ap (λ (o : Opened). o.slot) forming.rest;
  flood = forming.flood ∙ ap (λ (o : Opened). o.flood) forming.rest;
}

-- ---- which forms they are

one-more : (i : ℕ) → suc i ≡ i + 1
one-more i = omega arith

pub posts_more : (known : Known) (posts : List Post) (i : ℕ) (post : Post)
    (done all : List Form) (form : Form) → i < length posts →
    form ∷ [] ≡ post_forms known (posts_of (get_or posts i post ∷ [])) →
    done ++ post_forms known (posts_of (drop i posts)) ≡ all →
    (done ++ form ∷ []) ++ post_forms known (posts_of (drop (i + 1) posts)) ≡ all
posts_more known posts i post done all form below is rest =
    let P : ℕ → Type 0 = λ n. (done ++ form ∷ []) ++ post_forms known (posts_of (drop n posts)) ≡ all in
    subst P (one-more i)
    (append_assoc done (form ∷ []) (post_forms known (posts_of (drop (suc i) posts)))
    ∙ ap (λ (one : List Form). done ++ (one ++ post_forms known (posts_of (drop (suc i) posts)))) is
    ∙ ap (λ (l : List Post). done ++ post_forms known (posts_of l))
    (sym (drop-cons posts i post below))
    ∙ rest)

pub pres_more : (known : Known) (pre : List Before) (i : ℕ) (one : Before)
    (done start : List Form) (form : Form) → i < length pre →
    form ∷ [] ≡ pre_forms known (pre_of (get_or pre i one) ∷ []) →
    done ≡ start ++ pre_forms known (map pre_of (drop (i + 1) pre)) →
    done ++ form ∷ [] ≡ start ++ pre_forms known (map pre_of (drop i pre))
pres_more known pre i one done start form below is rest =
    let behind = pre_forms known (map pre_of (drop (suc i) pre)) in
    let P : ℕ → Type 0 = λ n. done ≡ start ++ pre_forms known (map pre_of (drop n pre)) in
    ap (λ (forms : List Form). forms ++ form ∷ []) (subst P (sym (one-more i)) rest)
    ∙ append_assoc start behind (form ∷ [])
    ∙ ap (λ (l : List Form). start ++ (behind ++ l)) is
    ∙ ap (λ (l : List Before). start ++ pre_forms known (map pre_of l))
    (sym (drop-cons pre i one below))
