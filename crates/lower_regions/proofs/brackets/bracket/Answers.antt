use Rattle.std.proofs.Common.{◌≡◌, ap, sym, ◌∙◌, subst, Some, None, Option}
use Rattle.std.specs.Prelude.{IfOk, OnOk}
use Rattle.zpl_region.specs.declared.regions.Region.{Region}
use Rattle.zpl_tree.specs.View.{inner_of}
use Rattle.lower_places.specs.of_zpl_lowering.Bracket.{Opened, computed, constant_region, fixed_or}
use Rattle.lower_places.specs.View.{slotted_of, where_of}
use Rattle.lower_regions.specs.Opened.{IsOpened, with_opened}
use Rattle.lower_regions.proofs.BracketLemmas.{fixed_fills, fixed_stands}
use Rattle.lower_regions.proofs.brackets.bracket.Goals as goal

pub returns-then-is_standing-clause-rows : goal.returns-then-is_standing-clause-rows
returns-then-is_standing-clause-rows c =
    let w = where_of c.args.place.now in
    let inner = inner_of c.args.inner.now in
    let next = c.args.draft.now.next.slots in
    let current = slotted_of c.args.current.now in
    let P : Opened → Type 0 = λ opened. OnOk c.computed.result
    (c.computed.new.draft ≡ with_opened c.args.draft.now opened) in
    subst P (sym (fixed_stands (constant_region w inner) next
    (computed w next c.args.line current inner)
    (sym (c.is_standing.ensures next c.args.line current) ∙ c.if-is_standing.true)))
    c.computed.ensures.rows

pub returns-then-is_standing-clause-opened : goal.returns-then-is_standing-clause-opened
returns-then-is_standing-clause-opened c =
    let w = where_of c.args.place.now in
    let inner = inner_of c.args.inner.now in
    let next = c.args.draft.now.next.slots in
    let current = slotted_of c.args.current.now in
    let P : Opened → Type 0 = λ opened. IfOk c.computed.result (IsOpened opened) in
    subst P (sym (fixed_stands (constant_region w inner) next
    (computed w next c.args.line current inner)
    (sym (c.is_standing.ensures next c.args.line current) ∙ c.if-is_standing.true)))
    c.computed.ensures.opened

pub returns-in-Some-clause-rows : goal.returns-in-Some-clause-rows
returns-in-Some-clause-rows c =
    let w = where_of c.args.place.now in
    let inner = inner_of c.args.inner.now in
    let next = c.args.draft.now.next.slots in
    let current = slotted_of c.args.current.now in
    let opened = computed w next c.args.line current inner in
    let P : Opened → Type 0 = λ opened. OnOk c.fix.result
    (c.fix.new.draft ≡ with_opened c.args.draft.now opened) in
    subst P (sym (ap (λ (constant : Option Region). fixed_or constant next opened)
    (sym c.constant_region.ensures ∙ c.in-Some.is)
    ∙ fixed_fills c.in-Some.region next opened
    (sym (c.is_standing.ensures next c.args.line current) ∙ c.if-is_standing.false)))
    c.fix.ensures.rows

pub returns-in-Some-clause-opened : goal.returns-in-Some-clause-opened
returns-in-Some-clause-opened c =
    let w = where_of c.args.place.now in
    let inner = inner_of c.args.inner.now in
    let next = c.args.draft.now.next.slots in
    let current = slotted_of c.args.current.now in
    let opened = computed w next c.args.line current inner in
    let P : Opened → Type 0 = λ opened. IfOk c.fix.result (IsOpened opened) in
    subst P (sym (ap (λ (constant : Option Region). fixed_or constant next opened)
    (sym c.constant_region.ensures ∙ c.in-Some.is)
    ∙ fixed_fills c.in-Some.region next opened
    (sym (c.is_standing.ensures next c.args.line current) ∙ c.if-is_standing.false)))
    c.fix.ensures.opened

pub returns-in-None-clause-rows : goal.returns-in-None-clause-rows
returns-in-None-clause-rows c =
    let w = where_of c.args.place.now in
    let inner = inner_of c.args.inner.now in
    let next = c.args.draft.now.next.slots in
    let current = slotted_of c.args.current.now in
    let opened = computed w next c.args.line current inner in
    let P : Opened → Type 0 = λ opened. OnOk c.computed-in-None.result
    (c.computed-in-None.new.draft ≡ with_opened c.args.draft.now opened) in
    subst P (sym (ap (λ (constant : Option Region). fixed_or constant next opened)
    (sym c.constant_region.ensures ∙ c.in-None.is)))
    c.computed-in-None.ensures.rows

pub returns-in-None-clause-opened : goal.returns-in-None-clause-opened
returns-in-None-clause-opened c =
    let w = where_of c.args.place.now in
    let inner = inner_of c.args.inner.now in
    let next = c.args.draft.now.next.slots in
    let current = slotted_of c.args.current.now in
    let opened = computed w next c.args.line current inner in
    let P : Opened → Type 0 = λ opened. IfOk c.computed-in-None.result (IsOpened opened) in
    subst P (sym (ap (λ (constant : Option Region). fixed_or constant next opened)
    (sym c.constant_region.ensures ∙ c.in-None.is)))
    c.computed-in-None.ensures.opened
