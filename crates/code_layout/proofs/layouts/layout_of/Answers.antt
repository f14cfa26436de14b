use Rattle.std.proofs.Common.{◌≡◌, ◌<◌, ◌≤◌, ◌∙◌, List, ℕ, ap, subst, sym, map, arith}
use Rattle.grid_layout.specs.declared.boxes.ArrayBox.{ArrayBox}
use Rattle.grid_layout.specs.Words.{words_of}
use Rattle.grid_meaning.specs.Stored.{arrangement_of, box_of, stored}
use Rattle.grid_meaning.specs.of_node_form.declared.tables.Tables.{Tables}
use Rattle.code_layout.proofs.layouts.layout_of.Goals as goal

-- no more words than there is room for
no_more : (code : Tables) (grid : List ℕ) (boxes : List ArrayBox) → grid ≡ code.grid → boxes ≡ map box_of (stored code.arrays)
    → words_of (arrangement_of code) ≤ 16777216 → 16777216 < words_of (record { grid = grid; boxes = boxes }) → ⊥
no_more code grid boxes same are room past =
    let more : 16777216 < words_of (arrangement_of code) =
    subst (λ g. 16777216 < words_of (record { grid = g; boxes = map box_of (stored code.arrays) })) same
    (subst (λ bs. 16777216 < words_of (record { grid = grid; boxes = bs })) are past) in
    omega arith

pub unreachable-requires : goal.unreachable-requires
unreachable-requires c =
    let same : c.tables-tables.result.now ≡ c.args.code.now = c.tables-tables.ensures.same in
    no_more c.args.code.now c.grid_of.result c.deref.result.now
    (c.grid_of.ensures ∙ ap (λ (t : Tables). t.grid) same)
    (c.deref.ensures.value ∙ (c.in_ok-boxes.ensures.boxes ∙ ap (λ (t : Tables). map box_of (stored t.arrays)) same))
    c.requires (c.in-Err-TooMuchStorage.ensures.storage (λ none. cc))
