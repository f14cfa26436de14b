use Rattle.std.proofs.Common.{◌≡◌, ◌∙◌, ap, sym, refl, map, Bool, true, false, ◌&&◌, ◌==◌}
use Rattle.std.specs.Cmp.Lexicographic.{pointwise}
use Rattle.std.specs.Ordering.{int_eq}
use Rattle.flat_passes.specs.of_code_parts.Uses.{is_item}
use Rattle.plan_form.specs.Units.{with_item}
use Rattle.plan_form.specs.Items.{item_of}
use Rattle.plan_form.specs.declared.items.ItemKey.{ItemKey}
use Rattle.plan_form.specs.contracts.items.ItemKeyPartialEq.TheImpl.{eq-value as key_eq}
use Rattle.plan_form.proofs.ItemLemmas.{item_added}
use Rattle.plan_form.proofs.items.ItemSet.add.Goals as goal

grouped : (a b c : Bool) → (a && (b && c)) ≡ ((a && b) && c)
grouped true b c = refl
grouped false b c = refl

same : (x y : ItemKey) → key_eq.it x y ≡ is_item (item_of x) (item_of y)
same x y = grouped (x.array == y.array) (x.slot == y.slot) (pointwise int_eq x.shift y.shift)

pub returns : goal.returns
returns c =
    ap (λ keys. map item_of keys) c.in_ok-insert.ensures.keys
    ∙ (item_added key_eq.it same c.self.inside.items.keys _
    ∙ ap (λ items. with_item items c.args.item) c.self.view_is)
