use Rattle.std.proofs.Common.{ap, sym, ◌∙◌, cond, Some, map, ◌≡◌, true, false}
use Rattle.std.specs.Prelude.{is_some}
use Rattle.std.specs.Str.{bytes_eq}
use Rattle.std.proofs.lemmas.List.{map-append}
use Rattle.std.proofs.lemmas.Map.Text.{hash_map_updates_str}
use Rattle.zpl_bind.specs.Tables.{found, listed}
use Rattle.zpl_bind.proofs.TableLemmas.{found-again, found-new}
use Rattle.zpl_bind.proofs.tables.Table.add.Goals as goal

pub returns-in_ok-insert-clause-table : goal.returns-in_ok-insert-clause-table
returns-in_ok-insert-clause-table g c =
    let old = listed c.args.self.now in
    let name = c.args.name.now in
    let none : is_some (found old name) ≡ false =
    ap is_some (sym (c.requires.finds name)) ∙ sym c.contains_key.ensures ∙
    c.if-not-contains_key.true in
    record {
      finds = λ text.
          hash_map_updates_str name c.args.self.now.first c.insert.new.self
          (Some c.args.value) c.in_ok-insert.ensures.updates text
          ∙ ap (cond (bytes_eq name text) (Some c.args.value)) (c.requires.finds text)
          ∙ sym (found-new old name c.args.value none text)
          ∙ ap (λ l. found l text)
          (sym (ap (map (λ entry. (entry.0.now, entry.1))) c.in_ok-push.ensures.items ∙
          map-append (λ entry. (entry.0.now, entry.1)) c.args.self.now.entries.items _));
    }

pub returns-else-not-contains_key-clause-table : goal.returns-else-not-contains_key-clause-table
returns-else-not-contains_key-clause-table g c =
    let old = listed c.args.self.now in
    let name = c.args.name.now in
    let there : is_some (found old name) ≡ true =
    ap is_some (sym (c.requires.finds name)) ∙ sym c.contains_key.ensures ∙
    c.if-not-contains_key.false in
    record {
      finds = λ text.
          c.requires.finds text
          ∙ sym (found-again old name c.args.value there text)
          ∙ ap (λ l. found l text)
          (sym (ap (map (λ entry. (entry.0.now, entry.1))) c.in_ok-push.ensures.items ∙
          map-append (λ entry. (entry.0.now, entry.1)) c.args.self.now.entries.items _));
    }
