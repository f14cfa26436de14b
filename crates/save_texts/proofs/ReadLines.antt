-- Lines that are read as states are written as these states.
use Rattle.std.proofs.Common.{◌≡◌, ℕ, zero, suc, ◌<◌, ◌≤◌, Bool, true, false, not, List, [], ◌∷◌, ◌++◌, length, get_or, map, refl, ap, sym, ◌∙◌, subst, arith}
use Rattle.std.specs.Prelude.{◌≢◌, ◌==◌, All, filter, if◌then◌else◌}
use Rattle.std.specs.List.{Any}
use Rattle.std.proofs.lemmas.List.{append_assoc}
use Rattle.std.proofs.lemmas.List.Elements.{All-head, All-tail}
use Rattle.grid_links.specs.declared.messages.Message.{Message}
use Rattle.node_form.specs.declared.tables.Tables.{Tables}
use Rattle.grid_meaning.specs.Collective.{others}
use Rattle.grid_meaning.specs.Local.{Local, processor_numbers, processors}
use Rattle.save_lines.specs.declared.lines.SavedLine.{SavedLine}
use Rattle.save_lines.specs.declared.lines.SavedLine.TheVariants.{Proc, Scalars, Cells}
use Rattle.grid_save.specs.Reads.{State, Each, Over, More, First, Run, Ends, GoesOn, IsKeptLine, IsMessageLine, IsSlotLine, IsStoreLine, ReadsState, ReadsValues, is_kept, is_message}
use Rattle.grid_save.specs.Written.{kept_line, proc_row, slot_line, store_line}
use Rattle.grid_save.proofs.CutLemmas.{Every}
use Rattle.grid_save.proofs.OrderLemmas.{range_below}
use Rattle.save_texts.proofs.Groups.{BeforeSent, InOrder, same_test, sent_line}

-- ---- lines one after another
pub each_written : {R X : Type 0} (Is : R → SavedLine → X → Type 0) (line_of : X → SavedLine) → ((row : R) (line : SavedLine) (x : X) → Is row line x → line ≡ line_of x) →
    {rows : List R} {lines : List SavedLine} {xs : List X} {rest : List SavedLine} → Each (λ row. First (Is row)) rows lines xs rest → lines ≡ map line_of xs ++ rest
each_written Is line_of is (Over lines) = refl
each_written Is line_of is (More row rows lines x behind xs rest first more) =
    let here : first.line ≡ line_of x = is row first.line x first.is in
    let others = each_written Is line_of is more in
    first.first ∙ (ap (λ line. line ∷ behind) here ∙ ap (λ ls. line_of x ∷ ls) others)

pub run_written : {X : Type 0} (p : SavedLine → Bool) (Is : List X → SavedLine → X → Type 0) (line_of : X → SavedLine) →
    ((done : List X) (line : SavedLine) (x : X) → Is done line x → line ≡ line_of x) →
    {done : List X} {lines : List SavedLine} {xs : List X} {rest : List SavedLine} → Run p Is done lines xs rest → lines ≡ map line_of xs ++ rest
run_written p Is line_of is (Ends done lines stop) = refl
run_written p Is line_of is (GoesOn done line lines x xs rest begins here more) =
    let first = is done line x here in
    let others = run_written p Is line_of is more in
    ap (λ l. l ∷ lines) first ∙ ap (λ ls. line_of x ∷ ls) others

-- ---- a state
-- its lines, without the messages that it sent
abbrev pub own_lines : ℕ → Local → List SavedLine
own_lines p local =
    Proc (proc_row p local) ∷ Scalars local.scalars
    ∷ (map slot_line local.slots ++ (Cells local.cells ∷ (map store_line local.stores ++ map kept_line local.kept)))

abbrev values_lines : ℕ → Local → List SavedLine → List SavedLine
values_lines p local more =
    Proc (proc_row p local) ∷ Scalars local.scalars
    ∷ (map slot_line local.slots ++ (Cells local.cells ∷ (map store_line local.stores ++ more)))

values_written : (code : Tables) (p : ℕ) (lines rest : List SavedLine) (local : Local) → ReadsValues code p lines local rest → lines ≡ values_lines p local rest
values_written code p lines rest local reads =
    let proc : lines ≡ Proc (proc_row p reads.placed) ∷ reads.behind_proc = reads.proc.first ∙ ap (λ line. line ∷ reads.behind_proc) reads.proc.is.written in
    let scalars : reads.behind_proc ≡ Scalars reads.scalars ∷ reads.behind_scalars =
    reads.scalars_are.first ∙ ap (λ line. line ∷ reads.behind_scalars) reads.scalars_are.is.written in
    let slots = each_written IsSlotLine slot_line (λ rank line region is. is.written) reads.slots_are in
    let cells : reads.behind_slots ≡ Cells reads.cells ∷ reads.behind_cells =
    reads.cells_are.first ∙ ap (λ line. line ∷ reads.behind_cells) reads.cells_are.is.written in
    let stores = each_written (IsStoreLine code p) store_line (λ row line store is. is.written) reads.stores_are in
    let made = reads.made in
    subst (λ l. lines ≡ values_lines p l rest) (sym made)
    (proc ∙ ap (λ ls. Proc (proc_row p reads.placed) ∷ ls) (scalars ∙ ap (λ ls. Scalars reads.scalars ∷ ls)
    (slots ∙ ap (λ ls. map slot_line reads.slots ++ ls) (cells ∙ ap (λ ls. Cells reads.cells ∷ ls) stores))))

regrouped : (slots : List SavedLine) (cell : SavedLine) (stores kept rest : List SavedLine) →
    slots ++ (cell ∷ (stores ++ (kept ++ rest))) ≡ (slots ++ (cell ∷ (stores ++ kept))) ++ rest
regrouped slots cell stores kept rest =
    ap (λ ls. slots ++ (cell ∷ ls)) (sym (append_assoc stores kept rest)) ∙ sym (append_assoc slots (cell ∷ (stores ++ kept)) rest)

pub state_written : (code : Tables) (p : ℕ) (lines rest : List SavedLine) (state : State) → ReadsState code p lines state rest →
    lines ≡ (own_lines p state.local ++ map sent_line state.sent) ++ rest
state_written code p lines rest state reads =
    let values = values_written code p lines reads.behind_values reads.values reads.values_are in
    let kept = run_written is_kept (IsKeptLine code p reads.values) kept_line (λ done line entry is. is.written) reads.kept_is in
    let sent = run_written is_message (IsMessageLine code p) sent_line (λ done line one is. is.written) reads.sent_is in
    let v = reads.values in
    let whole : lines ≡ values_lines p v (map kept_line reads.kept ++ (map sent_line state.sent ++ rest)) =
    values ∙ ap (values_lines p v) (kept ∙ ap (λ ls. map kept_line reads.kept ++ ls) sent) in
    let grouped = ap (λ ls. Proc (proc_row p v) ∷ Scalars v.scalars ∷ ls)
    (regrouped (map slot_line v.slots) (Cells v.cells) (map store_line v.stores) (map kept_line reads.kept) (map sent_line state.sent ++ rest)) in
    let own : lines ≡ own_lines p (record v { kept = reads.kept }) ++ (map sent_line state.sent ++ rest) = whole ∙ grouped in
    let same = reads.local_is in
    subst (λ l. lines ≡ own_lines p l ++ (map sent_line state.sent ++ rest)) (sym same) own
    ∙ sym (append_assoc (own_lines p state.local) (map sent_line state.sent) rest)

-- ---- the receivers of messages
All-at : {X : Type 0} (P : X → Type 0) (front : List X) (x : X) (back : List X) → All P (front ++ x ∷ back) → P x
All-at P [] x back all = All-head P x back all
All-at P (y ∷ front) x back all = All-at P front x back (All-tail P y (front ++ x ∷ back) all)

-- behind a message there is none for an earlier receiver
behind_one : (code : Tables) (p : ℕ) (front : List (ℕ × Message)) (x : ℕ × Message) (back : List (ℕ × Message)) {done : List (ℕ × Message)} {lines : List SavedLine}
    {sents : List (ℕ × Message)} {rest : List SavedLine} → Run is_message (IsMessageLine code p) done lines sents rest → done ≡ front ++ x ∷ back → Every (λ y. x.0 ≤ y.0) sents
behind_one code p front x back (Ends done lines stop) e = tt
behind_one code p front x back (GoesOn done line lines y ys rest begins is more) e = (
  All-at (λ earlier. earlier.0 ≤ y.0) front x back (subst (All (λ earlier. earlier.0 ≤ y.0)) e is.behind),
  behind_one code p front x (back ++ y ∷ []) more (ap (λ ls. ls ++ y ∷ []) e ∙ append_assoc front (x ∷ back) (y ∷ [])),
)

pub sent_ordered : (code : Tables) (p : ℕ) {done : List (ℕ × Message)} {lines : List SavedLine} {sents : List (ℕ × Message)} {rest : List SavedLine} →
    Run is_message (IsMessageLine code p) done lines sents rest → InOrder BeforeSent sents
sent_ordered code p (Ends done lines stop) = tt
sent_ordered code p (GoesOn done line lines y ys rest begins is more) = (behind_one code p done y [] more refl, sent_ordered code p more)

-- a receiver is another processor
member_of : (P : ℕ → Type 0) (ns : List ℕ) (q : ℕ) → Every P ns → Any (λ n. n ≡ q) ns → P q
member_of P ns q each (k, x, inside, here, is) = subst P is (at ns k x each inside here) where
  at : (ms : List ℕ) (i y : ℕ) → Every P ms → i < length ms → get_or ms i y ≡ y → P y
  at [] i y all within same = absurd (omega (arith, within))
  at (m ∷ ms) zero y all within same = subst P same all.0
  at (m ∷ ms) (suc i) y all within same = at ms i y all.1 (omega (arith, within)) same

kept_others : (p top : ℕ) (ns : List ℕ) → Every (λ n. n < top) ns → Every (λ n. (n < top) × (n ≢ p)) (filter (λ q. not (q == p)) ns)
kept_others p top [] each = tt
kept_others p top (n ∷ ns) each = by (n == p) refl (kept_others p top ns each.1) where
  by : (b : Bool) → (n == p) ≡ b → Every (λ m. (m < top) × (m ≢ p)) (filter (λ q. not (q == p)) ns) →
      Every (λ m. (m < top) × (m ≢ p)) (if not b then n ∷ filter (λ q. not (q == p)) ns else filter (λ q. not (q == p)) ns)
  by true e more = more
  by false e more = ((each.0, λ same. apart same e), more)
    where
      apart : n ≡ p → (n == p) ≡ false → ⊥
      apart same test = let own = same_test p in let e' : (p == p) ≡ false = subst (λ m. (m == p) ≡ false) same test in cc

pub others_are : (code : Tables) (p q : ℕ) → Any (λ n. n ≡ q) (others code p) → (q < processors code) × (q ≢ p)
others_are code p q any =
    member_of (λ n. (n < processors code) × (n ≢ p)) (others code p) q
    (kept_others p (processors code) (processor_numbers code) (range_below (processors code) 0 (processors code) (omega arith))) any

pub sent_others : (code : Tables) (p : ℕ) {done : List (ℕ × Message)} {lines : List SavedLine} {sents : List (ℕ × Message)} {rest : List SavedLine} →
    Run is_message (IsMessageLine code p) done lines sents rest → Every (λ sent. (sent.0 < processors code) × (sent.0 ≢ p)) sents
sent_others code p (Ends done lines stop) = tt
sent_others code p (GoesOn done line lines y ys rest begins is more) = (others_are code p y.0 is.other, sent_others code p more)
