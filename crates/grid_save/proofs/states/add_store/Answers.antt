use Rattle.std.proofs.Common.{◌≡◌, ◌++◌, [], ◌∷◌, map, take, ap, sym, subst, ◌∙◌}
use Rattle.std.specs.Prelude.{All, Option, Some}
use Rattle.zpl_nums.specs.Integer.{IsInteger}
use Rattle.zpl_region.specs.declared.regions.Region.{Region}
use Rattle.zpl_region.specs.Region.{members}
use Rattle.zpl_arrays.specs.Array.{Array}
use Rattle.grid_meaning.specs.Place.{values_at}
use Rattle.save_lines.specs.declared.lines.SavedLine.{SavedLine}
use Rattle.save_lines.specs.declared.lines.SavedLine.TheVariants.{Store}
use Rattle.save_lines.specs.Line.{IsSavedLine, saved_text}
use Rattle.save_lines.proofs.Appends.{by_ok}
use Rattle.grid_save.specs.Writing.{Writes}
use Rattle.grid_save.specs.Written.{box_dim, found_lines, store_line}
use Rattle.grid_save.proofs.NumberLemmas.{store_saved}
use Rattle.grid_save.proofs.StoreLemmas.{array_there, boxed, read_all, values_there}
use Rattle.grid_save.proofs.WriteLemmas.{writes_one}
use Rattle.grid_save.proofs.states.add_store.Goals as goal

pub push_values-requires : goal.push_values-requires
push_values-requires c = c.requires.region c.in-Some.places c.in-Some.is

pub returns : goal.returns
returns c =
    let stores = c.args.local.now.local.stores in
    let old = c.args.text.now.items in
    let places = c.in-Some.places in
    let there = boxed _ places (sym c.in-Some.is ∙ c.requires.places) in
    let store = there.0 in
    let is_array = array_there stores c.args.array store c.requires.arrays there.1.0 in
    let whole : values_at stores c.args.array (members places) ≡ Some store.values =
    subst (λ (r : Region). values_at stores c.args.array (members r) ≡ Some store.values) there.1.1 (values_there stores c.args.array store there.1.0 is_array) in
    let read = read_all _ _ _ store.values _ c.in_ok-push_values.ensures whole in
    let values : c.push_values.new.into.items ≡ store.values = read ∙ ap (λ old. old ++ store.values) c.new-values.ensures.items in
    let boxed_line : c.in_ok-store_line.field-0 ≡ Store (map box_dim (take places.rank places.dims)) c.push_values.new.into.items = c.in_ok-store_line.ensures in
    let line : c.in_ok-store_line.field-0 ≡ store_line store =
    boxed_line ∙ (ap (λ all. Store (map box_dim (take places.rank places.dims)) all) values
    ∙ ap (λ (r : Region). Store (map box_dim (take r.rank r.dims)) store.values) (sym there.1.1)) in
    let range : All IsInteger c.push_values.new.into.items = subst (All IsInteger) c.as_slice.ensures.value c.values_are_integers.ensures in
    let is : IsSavedLine (store_line store) =
    subst IsSavedLine (sym boxed_line ∙ line)
    (store_saved places c.push_values.new.into.items (c.requires.region places c.in-Some.is) c.places_have_three.ensures range) in
    by_ok c.write_line.result _ _ c.write_line.ensures (λ last.
    subst (λ (found : Option Array). Writes old (found_lines store_line found) c.write_line.new.into.items) (sym there.1.0)
    (writes_one old c.write_line.new.into.items (store_line store) is
    (last ∙ ap (λ (one : SavedLine). old ++ saved_text (one ∷ [])) line)))
