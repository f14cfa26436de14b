use Rattle.std.proofs.Common.{◌≡◌, ◌<◌, ◌≤◌, ◌∙◌, List, ℕ, ap, subst, sym, refl, map, arith}
use Rattle.std.proofs.Common.{true≢false}
use Rattle.grid_layout.specs.declared.boxes.ArrayBox.{ArrayBox}
use Rattle.grid_layout.specs.Layout.{Arrangement}
use Rattle.grid_layout.specs.Words.{words_of}
use Rattle.grid_meaning.specs.Stored.{arrangement_of, box_of, stored}
use Rattle.grid_meaning.specs.of_node_form.declared.tables.Tables.{Tables}
use Rattle.code_layout.proofs.layouts.has_room.Goals as goal

-- the layout is the program's
few_words : (code : Tables) (grid : List ℕ) (boxes : List ArrayBox) (layout : Arrangement)
    → grid ≡ code.grid → boxes ≡ map box_of (stored code.arrays)
    → layout ≡ record { grid = grid; boxes = boxes } → words_of layout ≤ 16777216
    → words_of (arrangement_of code) ≤ 16777216
few_words code grid boxes layout same are is few =
    subst (λ g. words_of (record { grid = g; boxes = map box_of (stored code.arrays) }) ≤ 16777216)
    same
    (subst (λ bs. words_of (record { grid = grid; boxes = bs }) ≤ 16777216) are
    (subst (λ l. words_of l ≤ 16777216) is few))

no_more : (code : Tables) (grid : List ℕ) (boxes : List ArrayBox) → grid ≡ code.grid
    → boxes ≡ map box_of (stored code.arrays) → words_of (arrangement_of code) ≤ 16777216
    → 16777216 < words_of (record { grid = grid; boxes = boxes }) → ⊥
no_more code grid boxes same are room past =
    let more : 16777216 < words_of (arrangement_of code) =
    subst
    (λ g. 16777216 < words_of (record { grid = g; boxes = map box_of (stored code.arrays) }))
    same (subst (λ bs. 16777216 < words_of (record { grid = grid; boxes = bs })) are past) in
    omega arith

pub returns-in-Ok : goal.returns-in-Ok
returns-in-Ok c =
    let same : c.tables-tables.result.now ≡ c.args.code.now = c.tables-tables.ensures.same in
    let room : words_of (arrangement_of c.args.code.now) ≤ 16777216 =
    few_words c.args.code.now c.grid_of.result c.deref.result.now c.in-Ok.field-0
    (c.grid_of.ensures ∙ ap (λ (t : Tables). t.grid) same)
    (c.deref.ensures.value
    ∙ (c.in_ok-boxes.ensures.boxes
    ∙ ap (λ (t : Tables). map box_of (stored t.arrays)) same))
    c.in-Ok.ensures.layout c.in-Ok.ensures.fits in
    (λ is. room, λ has. refl)

pub returns-in-Err-TooMuchStorage : goal.returns-in-Err-TooMuchStorage
returns-in-Err-TooMuchStorage c =
    let same : c.tables-tables.result.now ≡ c.args.code.now = c.tables-tables.ensures.same in (
      λ is. absurd (true≢false (sym is)),
      λ has. absurd (no_more c.args.code.now c.grid_of.result c.deref.result.now
          (c.grid_of.ensures ∙ ap (λ (t : Tables). t.grid) same)
          (c.deref.ensures.value
          ∙ (c.in_ok-boxes.ensures.boxes
          ∙ ap (λ (t : Tables). map box_of (stored t.arrays)) same))
          has (c.in-Err-TooMuchStorage.ensures.storage (λ none. cc))),
    )
