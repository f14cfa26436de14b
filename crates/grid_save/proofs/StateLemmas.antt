-- A state is told by its lines, and so are all states and the messages.
use Rattle.std.proofs.Common.{◌≡◌, ℕ, zero, suc, ◌+◌, ◌<◌, ◌≤◌, Bool, true, false, ℤ, pos, List, [], ◌∷◌, ◌++◌, length, inl, inr, ◌⊎◌, map, refl, ap, sym, ◌∙◌, subst, arith}
use Rattle.std.specs.Prelude.{◌==◌, All, Option, Some, None, find, slice_get}
use Rattle.std.specs.List.{flat_map, range_with_len}
use Rattle.std.proofs.lemmas.Option.{get_or_from_slice_get, slice_get_within}
use Rattle.zpl_nums.specs.declared.ends.End.{End}
use Rattle.zpl_nums.specs.declared.ends.End.TheVariants as ending
use Rattle.zpl_nums.specs.declared.ends.TrapKind.{TrapKind}
use Rattle.zpl_nums.specs.declared.ends.TrapKind.TheVariants as trap
use Rattle.zpl_region.specs.declared.regions.Region.{Region}
use Rattle.zpl_arrays.specs.Array.{Array}
use Rattle.grid_links.specs.declared.messages.Message.{Message}
use Rattle.grid_links.specs.Links.{link_of}
use Rattle.node_form.specs.declared.tables.Tables.{Tables}
use Rattle.node_form.specs.Fits.{FitsArray}
use Rattle.node_text.specs.Typed.{TypedArray}
use Rattle.grid_meaning.specs.Local.{Local, processor_numbers, processors}
use Rattle.grid_meaning.specs.State.{IsLocal}
use Rattle.listing_rows.specs.Rows.{trap_number}
use Rattle.save_lines.specs.declared.lines.Kind.{Kind}
use Rattle.save_lines.specs.declared.lines.Kind.TheVariants as kind
use Rattle.save_lines.specs.declared.lines.ProcRow.{ProcRow}
use Rattle.save_lines.specs.declared.lines.SavedLine.{SavedLine}
use Rattle.save_lines.specs.declared.lines.SavedLine.TheVariants.{Proc, Scalars, Cells}
use Rattle.save_lines.specs.Line.{kind_of}
use Rattle.grid_save.specs.Kept.{IsEnding}
use Rattle.grid_save.specs.Written.{end_of, flag_number, kept_from, kept_lines, local_lines, message_lines, proc_row, slot_line, state_lines, store_line}
use Rattle.grid_save.proofs.CutLemmas.{Every, every-append, every-map}
use Rattle.grid_save.proofs.OrderLemmas.{order, other_test, same_kept, senders_of}
use Rattle.grid_save.proofs.SameLemmas.{Stops, cut_lists, every_more, same_slots, same_stores}
use Rattle.grid_save.proofs.SenderLemmas.{kept_in_order}
use Rattle.grid_save.proofs.TellLemmas.{keeps_kept, messages_sent, same_found, same_links, same_state}

-- ---- how a processor ended
same_trap : (one other : TrapKind) → trap_number one ≡ trap_number other → one ≡ other
same_trap trap.DivideByZero trap.DivideByZero e = refl
same_trap trap.OutsideStorage trap.OutsideStorage e = refl
same_trap trap.RegionLimit trap.RegionLimit e = refl
same_trap trap.RegionMismatch trap.RegionMismatch e = refl
same_trap one other e = absurd cc

same_ending : (one other : Option End) → IsEnding one → IsEnding other → end_of one ≡ end_of other → one ≡ other
same_ending None None is also e = refl
same_ending None (Some ending.More) is also e = absurd also
same_ending None (Some ending.Done) is also e = absurd cc
same_ending None (Some (ending.Trap k l)) is also e = absurd cc
same_ending (Some ending.More) other is also e = absurd is
same_ending (Some ending.Done) None is also e = absurd cc
same_ending (Some ending.Done) (Some ending.More) is also e = absurd also
same_ending (Some ending.Done) (Some ending.Done) is also e = refl
same_ending (Some ending.Done) (Some (ending.Trap k l)) is also e = absurd cc
same_ending (Some (ending.Trap k l)) None is also e = absurd cc
same_ending (Some (ending.Trap k l)) (Some ending.More) is also e = absurd also
same_ending (Some (ending.Trap k l)) (Some ending.Done) is also e = absurd cc
same_ending (Some (ending.Trap k l)) (Some (ending.Trap k' l')) is also e =
    let kinds : trap_number k ≡ trap_number k' = cc in
    let lines : l ≡ l' = cc in
    ap (λ (t : TrapKind). Some (ending.Trap t l)) (same_trap k k' kinds) ∙ ap (λ (n : ℕ). Some (ending.Trap k' n)) lines

same_flag : (one other : Option ℕ) → flag_number one ≡ flag_number other → one ≡ other
same_flag None None e = refl
same_flag None (Some m) e = absurd cc
same_flag (Some m) None e = absurd cc
same_flag (Some m) (Some n) e = let same : m ≡ n = cc in ap Some same

-- ---- a state
local_from : ℕ → ℕ → ℕ → ℕ → Option ℕ → Option End → List ℤ → List Region → List ℤ → List Array → List (ℕ × List ℤ) → Local
local_from at made index member flag ended scalars slots cells stores kept = record {
  at = at;
  made = made;
  index = index;
  member = member;
  flag = flag;
  ended = ended;
  scalars = scalars;
  slots = slots;
  cells = cells;
  stores = stores;
  kept = kept;
}

record SameParts (a b : Local) : Type 0 where
  pub at : a.at ≡ b.at
  pub made : a.made ≡ b.made
  pub index : a.index ≡ b.index
  pub member : a.member ≡ b.member
  pub flag : a.flag ≡ b.flag
  pub ended : a.ended ≡ b.ended
  pub scalars : a.scalars ≡ b.scalars
  pub slots : a.slots ≡ b.slots
  pub cells : a.cells ≡ b.cells
  pub stores : a.stores ≡ b.stores
  pub kept : a.kept ≡ b.kept

from_parts : (a b : Local) → SameParts a b → a ≡ b
unfolding local_from
from_parts a b same =
    let at = same.at in
    let made = same.made in
    let index = same.index in
    let member = same.member in
    let flag = same.flag in
    let ended = same.ended in
    let scalars = same.scalars in
    let slots = same.slots in
    let cells = same.cells in
    let stores = same.stores in
    let kept = same.kept in
    let whole : local_from a.at a.made a.index a.member a.flag a.ended a.scalars a.slots a.cells a.stores a.kept
    ≡ local_from b.at b.made b.index b.member b.flag b.ended b.scalars b.slots b.cells b.stores b.kept = cc in
    whole

record SameRow (p : ℕ) (a b : Local) : Type 0 where
  pub at : a.at ≡ b.at
  pub made : a.made ≡ b.made
  pub index : a.index ≡ b.index
  pub member : a.member ≡ b.member
  pub flag : flag_number a.flag ≡ flag_number b.flag
  pub ended : end_of a.ended ≡ end_of b.ended

same_row : (p : ℕ) (a b : Local) → proc_row p a ≡ proc_row p b → SameRow p a b
same_row p a b e = record {
  at = let h : pos a.at ≡ pos b.at = ap (λ (row : ProcRow). row.at) e in cc;
  made = let h : pos a.made ≡ pos b.made = ap (λ (row : ProcRow). row.made) e in cc;
  index = let h : pos a.index ≡ pos b.index = ap (λ (row : ProcRow). row.index) e in cc;
  member = let h : pos a.member ≡ pos b.member = ap (λ (row : ProcRow). row.member) e in cc;
  flag = ap (λ (row : ProcRow). row.flag) e;
  ended = ap (λ (row : ProcRow). row.end) e;
}

-- ---- lines that begin a state
abbrev proc_kind : Kind → Bool
proc_kind kind.Proc = true
proc_kind k = false

abbrev is_proc : SavedLine → Bool
is_proc line = proc_kind (kind_of line)

abbrev NoProc : SavedLine → Type 0
NoProc line = proc_kind (kind_of line) ≡ false

-- one such line in front, and no other
pub record IsBlock (lines : List SavedLine) : Type 0 where
  pub row : ProcRow
  pub tail : List SavedLine
  pub is : lines ≡ Proc row ∷ tail
  pub once : Every (λ line. proc_kind (kind_of line) ≡ false) tail

block_stops : (lines : List SavedLine) → IsBlock lines → (rest : List SavedLine) → Stops is_proc (lines ++ rest)
block_stops lines block rest = subst (λ ls. Stops is_proc (ls ++ rest)) (sym block.is) refl

pub local_block : (code : Tables) (p : ℕ) (local : Local) (links : List (List Message)) → IsBlock (local_lines code p local ++ message_lines code links p)
local_block code p local links = record {
  row = proc_row p local;
  tail = Scalars local.scalars ∷ ((map slot_line local.slots ++ (Cells local.cells ∷ (map store_line local.stores ++ kept_lines code local.kept))) ++ message_lines code links p);
  is = refl;
  once = (
    refl,
    every-append NoProc (map slot_line local.slots ++ (Cells local.cells ∷ (map store_line local.stores ++ kept_lines code local.kept))) (message_lines code links p)
        (every-append NoProc (map slot_line local.slots) (Cells local.cells ∷ (map store_line local.stores ++ kept_lines code local.kept)) (every-map NoProc slot_line local.slots (λ s. refl)) (
          refl,
          every-append NoProc (map store_line local.stores) (kept_lines code local.kept) (every-map NoProc store_line local.stores (λ s. refl))
              (every_more (λ line. kind_of line ≡ kind.Kept) NoProc (λ line h. ap proc_kind h) (kept_lines code local.kept) (keeps_kept code local.kept)),
        ))
        (every_more (λ line. kind_of line ≡ kind.Msg) NoProc (λ line h. ap proc_kind h) (message_lines code links p) (messages_sent code links p)),
  );
}

-- blocks one after another
same_blocks : (f g : ℕ → List SavedLine) (ps : List ℕ) → Every (λ p. IsBlock (f p)) ps → Every (λ p. IsBlock (g p)) ps → flat_map f ps ≡ flat_map g ps →
    Every (λ p. f p ≡ g p) ps
same_blocks f g [] one other e = tt
same_blocks f g (p ∷ ps) one other e =
    let a = one.0 in
    let b = other.0 in
    let whole : Proc a.row ∷ (a.tail ++ flat_map f ps) ≡ Proc b.row ∷ (b.tail ++ flat_map g ps) =
    ap (λ ls. ls ++ flat_map f ps) (sym a.is) ∙ (e ∙ ap (λ ls. ls ++ flat_map g ps) b.is) in
    let rows : a.row ≡ b.row = cc in
    let behind : a.tail ++ flat_map f ps ≡ b.tail ++ flat_map g ps = cc in
    let parts = cut_lists is_proc a.tail b.tail (flat_map f ps) (flat_map g ps) a.once b.once (stops_at f ps one.1) (stops_at g ps other.1) behind in
    (a.is ∙ (ap (λ (row : ProcRow). Proc row ∷ a.tail) rows ∙ (ap (λ ls. Proc b.row ∷ ls) parts.0 ∙ sym b.is)), same_blocks f g ps one.1 other.1 parts.1)
  where
    stops_at : (h : ℕ → List SavedLine) (qs : List ℕ) → Every (λ q. IsBlock (h q)) qs → Stops is_proc (flat_map h qs)
    stops_at h [] blocks = tt
    stops_at h (q ∷ qs) blocks = block_stops (h q) blocks.0 (flat_map h qs)

-- ---- what is kept, of each sender
pub each_number : (P : ℕ → Type 0) (k n q : ℕ) → Every P (range_with_len k n) → k ≤ q → q < k + n → P q
each_number P k zero q each above below = absurd (omega (arith, above, below))
each_number P k (suc n) q each above below = by (order k q) (λ less. each_number P (k + 1) n q each.1 (omega (arith, less)) (omega (arith, below))) where
  by : (k ≡ q) ⊎ ((k < q) ⊎ (q < k)) → (k < q → P q) → P q
  by (inl same) later = subst P same each.0
  by (inr (inl less)) later = later less
  by (inr (inr more)) later = absurd (omega (arith, above, more))

past_all : (top q : ℕ) (kept : List (ℕ × List ℤ)) → Every (λ m. m < top) (senders_of kept) → top ≤ q → find (λ entry. entry.0 == q) kept ≡ None
past_all top q [] below past = refl
past_all top q (entry ∷ kept) below past =
    let here = below.0 in
    let test : (entry.0 == q) ≡ false = other_test entry.0 q (λ same. let e : entry.0 ≡ q = same in omega (arith, here, past, e)) in
    rw test (past_all top q kept below.1 past)

agree_all : (top : ℕ) (one other : List (ℕ × List ℤ)) → Every (λ m. m < top) (senders_of one) → Every (λ m. m < top) (senders_of other) →
    Every (λ q. kept_from q (find (λ entry. entry.0 == q) one) ≡ kept_from q (find (λ entry. entry.0 == q) other)) (range_with_len 0 top) →
    (q : ℕ) → kept_from q (find (λ entry. entry.0 == q) one) ≡ kept_from q (find (λ entry. entry.0 == q) other)
agree_all top one other low also each q = by (order q top) where
  past : top ≤ q → kept_from q (find (λ entry. entry.0 == q) one) ≡ kept_from q (find (λ entry. entry.0 == q) other)
  past far = ap (kept_from q) (past_all top q one low far ∙ sym (past_all top q other also far))

  by : (q ≡ top) ⊎ ((q < top) ⊎ (top < q)) → kept_from q (find (λ entry. entry.0 == q) one) ≡ kept_from q (find (λ entry. entry.0 == q) other)
  by (inl same) = past (omega (arith, same))
  by (inr (inl less)) = each_number (λ r. kept_from r (find (λ entry. entry.0 == r) one) ≡ kept_from r (find (λ entry. entry.0 == r) other)) 0 top q each (omega arith) (omega (arith, less))
  by (inr (inr more)) = past (omega (arith, more))

module _ (code : Tables) (fit : All FitsArray code.arrays) (typed : All TypedArray code.arrays) where
  -- the states of a processor with these lines, and the links from it
  pub same_local : (p : ℕ) (a b : Local) (one other : List (List Message)) → IsLocal code p a → IsLocal code p b → IsEnding a.ended → IsEnding b.ended →
      local_lines code p a ++ message_lines code one p ≡ local_lines code p b ++ message_lines code other p →
      (a ≡ b) × Every (λ q. link_of (processors code) one p q ≡ link_of (processors code) other p q) (processor_numbers code)
  same_local p a b one other is also ends stops e =
      let parts = same_state (proc_row p a) (proc_row p b) a.scalars b.scalars a.slots b.slots a.cells b.cells a.stores b.stores
      (kept_lines code a.kept) (kept_lines code b.kept) (message_lines code one p) (message_lines code other p)
      (keeps_kept code a.kept) (keeps_kept code b.kept) (messages_sent code one p) (messages_sent code other p) e in
      let row = same_row p a b parts.row in
      let order = kept_in_order code p a is in
      let orders = kept_in_order code p b also in (
        from_parts a b record {
          at = row.at;
          made = row.made;
          index = row.index;
          member = row.member;
          flag = same_flag a.flag b.flag row.flag;
          ended = same_ending a.ended b.ended ends stops row.ended;
          scalars = parts.scalars;
          slots = same_slots code.slots a.slots b.slots is.parts.slots also.parts.slots parts.slots;
          cells = parts.cells;
          stores = same_stores code p fit is.number code.arrays a.stores b.stores fit typed is.parts.stores also.parts.stores parts.stores;
          kept = same_kept a.kept b.kept order.ascends orders.ascends (agree_all (processors code) a.kept b.kept order.below orders.below (same_found code a.kept b.kept parts.kept));
        },
        same_links code one other p parts.sent,
      )

  -- ---- all states
  -- the states of all processors
  pub record AreStates (locals : List Local) : Type 0 where
    pub many : length locals ≡ processors code
    pub each : (p : ℕ) (local : Local) → slice_get locals p ≡ Some local → IsLocal code p local
    pub ended : All (λ local. IsEnding local.ended) locals

  there : (locals : List Local) (p : ℕ) → p < length locals → (local : Local) × (slice_get locals p ≡ Some local)
  there [] p below = absurd (omega (arith, below))
  there (local ∷ locals) zero below = (local, refl)
  there (local ∷ locals) (suc p) below = there locals p (omega (arith, below))

  pub block_at : (locals : List Local) (links : List (List Message)) (p : ℕ) → p < length locals → IsBlock (state_lines code links p (slice_get locals p))
  block_at locals links p below =
      let found = there locals p below in
      subst (λ local. IsBlock (state_lines code links p local)) (sym found.1) (local_block code p found.0 links)

  numbers_every : (P : ℕ → Type 0) (k n : ℕ) → ((q : ℕ) → q < k + n → P q) → Every P (range_with_len k n)
  numbers_every P k zero each = tt
  numbers_every P k (suc n) each = (each k (omega arith), numbers_every P (k + 1) n (λ q below. each q (omega (arith, below))))

  pub same_states : (one other : List Local) (links more : List (List Message)) → AreStates one → AreStates other →
      flat_map (λ p. state_lines code links p (slice_get one p)) (processor_numbers code) ≡ flat_map (λ p. state_lines code more p (slice_get other p)) (processor_numbers code) →
      (p : ℕ) → p < processors code →
      (slice_get one p ≡ slice_get other p) × Every (λ q. link_of (processors code) links p q ≡ link_of (processors code) more p q) (processor_numbers code)
  same_states one other links more are also e p below =
      let many = are.many in
      let more_many = also.many in
      let f : ℕ → List SavedLine = λ q. state_lines code links q (slice_get one q) in
      let g : ℕ → List SavedLine = λ q. state_lines code more q (slice_get other q) in
      let all = same_blocks f g (processor_numbers code) (numbers_every (λ q. IsBlock (f q)) 0 (processors code) (λ q h. block_at one links q (omega (arith, h, many))))
      (numbers_every (λ q. IsBlock (g q)) 0 (processors code) (λ q h. block_at other more q (omega (arith, h, more_many)))) e in
      let here : f p ≡ g p = each_number (λ q. f q ≡ g q) 0 (processors code) p all (omega arith) (omega (arith, below)) in
      let a = there one p (omega (arith, below, many)) in
      let b = there other p (omega (arith, below, more_many)) in
      let lines : local_lines code p a.0 ++ message_lines code links p ≡ local_lines code p b.0 ++ message_lines code more p =
      ap (state_lines code links p) (sym a.1) ∙ (here ∙ ap (state_lines code more p) b.1) in
      let same = same_local p a.0 b.0 links more (are.each p a.0 a.1) (also.each p b.0 b.1) (ending_at one p a.0 are.ended a.1) (ending_at other p b.0 also.ended b.1) lines in
      (a.1 ∙ (ap (λ (local : Local). Some local) same.0 ∙ sym b.1), same.1)
    where
      ending_at : (locals : List Local) (q : ℕ) (local : Local) → All (λ l. IsEnding l.ended) locals → slice_get locals q ≡ Some local → IsEnding local.ended
      ending_at locals q local ended at =
          subst (λ (l : Local). IsEnding l.ended) (get_or_from_slice_get locals q local local at) (ended q local (slice_get_within locals q local at))

-- ---- lists by their elements
pub same_list : {X : Type 0} (xs ys : List X) → length xs ≡ length ys → ((k : ℕ) → k < length xs → slice_get xs k ≡ slice_get ys k) → xs ≡ ys
same_list [] [] long each = refl
same_list [] (y ∷ ys) long each = absurd (omega (arith, long))
same_list (x ∷ xs) [] long each = absurd (omega (arith, long))
same_list (x ∷ xs) (y ∷ ys) long each =
    let first : Some x ≡ Some y = each 0 (omega arith) in
    let head : x ≡ y = cc in
    let tails = same_list xs ys (omega (arith, long)) (λ k below. each (suc k) (omega (arith, below))) in
    ap (λ z. z ∷ xs) head ∙ ap (λ zs. y ∷ zs) tails
