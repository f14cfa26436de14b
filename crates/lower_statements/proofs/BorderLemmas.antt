-- Borders, one array behind another.
use Rattle.std.proofs.Common.{◌≡◌, ◌<◌, ◌≤◌, ℕ, ◌+◌, List, [], ◌∷◌, ◌++◌, drop, get_or, length, map, sym, ap, ◌∙◌, ℤ, pos, neg_ℤ, arith}
use Rattle.std.proofs.lemmas.List.{at_drop_more, at_drop_all}
use Rattle.zpl_nums.specs.declared.ends.Border.{Border}
use Rattle.zpl_nums.specs.declared.ends.Border.TheVariants as border
use Rattle.zpl_tree.specs.View.{name_of}
use Rattle.zpl_tree.specs.declared.names.Name.{Name}
use Rattle.zpl_meaning.specs.Store.{thing_of}
use Rattle.flat_form.specs.Row.{Row}
use Rattle.zpl_lowering.specs.Statement.{border_thing, each_border, source_shift}
use Rattle.zpl_lowering.specs.Where.{SlotEdge, Where}
use Rattle.lower_draft.specs.Drafted.{Drafted, all_pushed}
use Rattle.lower_draft.proofs.LaidLemmas.{rows_behind}

-- rows behind rows
pub pushed_both : (draft : Drafted) (xs ys : List Row) →
    all_pushed (all_pushed draft xs) ys ≡ all_pushed draft (xs ++ ys)
pushed_both draft xs ys = ap (λ t. record draft { tables = t }) (rows_behind draft.tables xs ys)

module _ (w : Where) (kind : Border) (edge : SlotEdge) (border source line : ℕ)
    (names : List Name) (i : ℕ) where
  abbrev rows_from : List Name → List Row
  rows_from names = each_border w kind edge border source line (map name_of names)

  pub borders_on : (d : Name) (draft new whole : Drafted) → i < length names →
      new ≡ all_pushed draft (border_thing w.numbers kind edge border source line
      (thing_of w.environment (name_of (get_or names i d)).text)) →
      all_pushed draft (rows_from (drop i names)) ≡ whole →
      all_pushed new (rows_from (drop (i + 1) names)) ≡ whole
  borders_on d draft new whole less is had =
      ap (λ n. all_pushed n (rows_from (drop (i + 1) names))) is
      ∙ pushed_both draft (border_thing w.numbers kind edge border source line
      (thing_of w.environment (name_of (get_or names i d)).text)) (rows_from (drop (i + 1) names))
      ∙ sym (at_drop_more (λ l. all_pushed draft (rows_from l)) names i d less) ∙ had

  pub borders_all : (draft whole : Drafted) → length names ≤ i →
      all_pushed draft (rows_from (drop i names)) ≡ whole → draft ≡ whole
  borders_all draft whole past had =
      sym (at_drop_all (λ l. all_pushed draft (rows_from l)) names i past) ∙ had

-- the opposite of a vector
pub negated_three : (v : List ℤ) (x y z : ℤ) → length v ≡ 3 → x ≡ neg_ℤ (get_or v 0 (pos 0)) →
    y ≡ neg_ℤ (get_or v 1 (pos 0)) → z ≡ neg_ℤ (get_or v 2 (pos 0)) →
    x ∷ y ∷ z ∷ [] ≡ source_shift border.Wrap v
negated_three [] x y z is a b c = absurd (omega (arith, is))
negated_three (d ∷ []) x y z is a b c = absurd (omega (arith, is))
negated_three (d ∷ e ∷ []) x y z is a b c = absurd (omega (arith, is))
negated_three (d ∷ e ∷ f ∷ []) x y z is a b c = cc
negated_three (d ∷ e ∷ f ∷ g ∷ v) x y z is a b c = absurd (omega (arith, is))
