use Rattle.std.proofs.Common.{ap, cond, is_some, length, sym, ◌∙◌, ◌≡◌, false, rules, Some, ◌++◌, ◌∷◌, []}
use Rattle.std.specs.Str.{bytes_eq}
use Rattle.std.proofs.lemmas.Map.Text.{hash_map_updates_str}
use Rattle.text_sharing.specs.Shared.{number_of}
use Rattle.text_sharing.proofs.NumberLemmas.{number-new}
use Rattle.text_sharing.proofs.different.Different.add.Goals as goal

pub returns-in_ok-insert-clause-numbered : goal.returns-in_ok-insert-clause-numbered
returns-in_ok-insert-clause-numbered c =
    let old = c.args.self.now in
    let name = c.args.text.now in
    let none : is_some (number_of old.texts name) ≡ false =
    ap is_some (sym (c.requires.finds name)) ∙ sym c.contains_key.ensures
    ∙ c.if-not-contains_key.true in
    let number : c.in_ok-number.number ≡ length old.texts = search rules in
    let texts : c.push.new.self ≡ old.texts ++ name ∷ [] = search rules in
    record {
      finds = λ text.
          hash_map_updates_str name old.numbers c.insert.new.self (Some c.in_ok-number.number)
          c.in_ok-insert.ensures.updates text
          ∙ ap (cond (bytes_eq name text) (Some c.in_ok-number.number)) (c.requires.finds text)
          ∙ ap (λ n. cond (bytes_eq name text) (Some n) (number_of old.texts text)) number
          ∙ sym (number-new old.texts name none text)
          ∙ ap (λ l. number_of l text) (sym texts);
    }
