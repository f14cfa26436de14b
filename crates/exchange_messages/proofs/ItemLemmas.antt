-- Items, one after another: the words of those that are left.
use Rattle.std.proofs.Common.{◌≡◌, ℕ, suc, ◌+◌, ◌-◌, ◌<◌, List, ◌∷◌, ◌++◌, length, take, drop, get_or, ap, ◌∙◌, ℤ, arith, drop-cons, length-drop}
use Rattle.std.specs.Prelude.{Option}
use Rattle.std.specs.Option.{option_map}
use Rattle.std.proofs.lemmas.List.{take_all}
use Rattle.node_messages.specs.of_node_form.declared.arrays.Item.{Item}
use Rattle.node_messages.specs.of_node_form.declared.tables.Tables.{Tables}
use Rattle.node_messages.specs.of_grid_meaning.Exchange.{words_between}
use Rattle.node_messages.specs.of_grid_meaning.Local.{Local}

-- the words that were read, and behind them those of the items that are left
abbrev pub words_onward : Tables → Local → ℕ → ℕ → List ℤ → List Item → Option (List ℤ)
words_onward code local from to words items = option_map (λ rest. words ++ rest) (words_between code local items from to)

pub next_of : {X : Type 0} (xs : List X) (i : ℕ) (d : X) → i < length xs → drop i xs ≡ get_or xs i d ∷ drop (i + 1) xs
next_of xs i d within =
    let more : suc i ≡ i + 1 = omega arith in
    drop-cons xs i d within ∙ ap (λ n. get_or xs i d ∷ drop n xs) more

-- all that is left
pub whole_rest : {X : Type 0} (n : ℕ) (xs : List X) → take (length xs - n) (drop n xs) ≡ drop n xs
whole_rest n xs = take_all (length xs - n) (drop n xs) (omega (arith, length-drop n xs))
