-- Lines of states tell the states, with what they keep, and the messages.
use Rattle.std.proofs.Common.{◌≡◌, ℕ, zero, suc, ◌+◌, ◌<◌, Bool, true, false, not, ℤ, List, [], ◌∷◌, ◌++◌, map, refl, ap, sym, ◌∙◌, arith}
use Rattle.std.specs.Prelude.{◌≢◌, ◌==◌, Option, Some, None, find, unsigned_abs}
use Rattle.std.specs.List.{flat_map, range_with_len}
use Rattle.std.proofs.lemmas.Bool.Decides.{nat_tests}
use Rattle.std.proofs.lemmas.List.{append_assoc}
use Rattle.zpl_region.specs.declared.regions.Region.{Region}
use Rattle.zpl_arrays.specs.Array.{Array}
use Rattle.grid_links.specs.declared.messages.Message.{Message}
use Rattle.grid_links.specs.Links.{link_of}
use Rattle.node_form.specs.declared.tables.Tables.{Tables}
use Rattle.grid_meaning.specs.Local.{processor_numbers, processors}
use Rattle.save_lines.specs.declared.lines.Kind.{Kind}
use Rattle.save_lines.specs.declared.lines.Kind.TheVariants as kind
use Rattle.save_lines.specs.declared.lines.ProcRow.{ProcRow}
use Rattle.save_lines.specs.declared.lines.SavedLine.{SavedLine}
use Rattle.save_lines.specs.declared.lines.SavedLine.TheVariants.{Proc, Scalars, Cells, Kept, Msg}
use Rattle.save_lines.specs.Line.{kind_of}
use Rattle.grid_save.specs.Written.{kept_from, kept_lines, message_line, message_lines, slot_line, store_line}
use Rattle.grid_save.proofs.CutLemmas.{Every, every-map}
use Rattle.grid_save.proofs.SameLemmas.{GoesOn, Stops, cut_lists, every-flat_map, every_more, stops_append, stops_every}

-- ---- a state's lines by their kinds
abbrev cells_kind : Kind → Bool
cells_kind kind.Cells = true
cells_kind k = false

abbrev other_kind : Kind → Bool
other_kind kind.Store = false
other_kind k = true

abbrev sent_kind : Kind → Bool
sent_kind kind.Msg = true
sent_kind k = false

abbrev Of : Kind → SavedLine → Type 0
Of k line = kind_of line ≡ k

-- the lines of a state, and of the messages behind it
abbrev pub state_of : ProcRow → List ℤ → List Region → List ℤ → List Array → List SavedLine → List SavedLine → List SavedLine
state_of row scalars slots cells stores kept sent =
    (Proc row ∷ Scalars scalars ∷ (map slot_line slots ++ (Cells cells ∷ (map store_line stores ++ kept)))) ++ sent

pub record SameState (r1 r2 : ProcRow) (v1 v2 : List ℤ) (s1 s2 : List Region) (c1 c2 : List ℤ) (b1 b2 : List Array) (k1 k2 m1 m2 : List SavedLine) : Type 0 where
  pub row : r1 ≡ r2
  pub scalars : v1 ≡ v2
  pub slots : map slot_line s1 ≡ map slot_line s2
  pub cells : c1 ≡ c2
  pub stores : map store_line b1 ≡ map store_line b2
  pub kept : k1 ≡ k2
  pub sent : m1 ≡ m2

pub same_state : (r1 r2 : ProcRow) (v1 v2 : List ℤ) (s1 s2 : List Region) (c1 c2 : List ℤ) (b1 b2 : List Array) (k1 k2 m1 m2 : List SavedLine) →
    Every (Of kind.Kept) k1 → Every (Of kind.Kept) k2 → Every (Of kind.Msg) m1 → Every (Of kind.Msg) m2 →
    state_of r1 v1 s1 c1 b1 k1 m1 ≡ state_of r2 v2 s2 c2 b2 k2 m2 → SameState r1 r2 v1 v2 s1 s2 c1 c2 b1 b2 k1 k2 m1 m2
same_state r1 r2 v1 v2 s1 s2 c1 c2 b1 b2 k1 k2 m1 m2 hk1 hk2 hm1 hm2 e =
    let row : r1 ≡ r2 = cc in
    let scalars : v1 ≡ v2 = cc in
    let behind : (map slot_line s1 ++ (Cells c1 ∷ (map store_line b1 ++ k1))) ++ m1 ≡ (map slot_line s2 ++ (Cells c2 ∷ (map store_line b2 ++ k2))) ++ m2 = cc in
    let first = cut_lists is_cells (map slot_line s1) (map slot_line s2) (Cells c1 ∷ ((map store_line b1 ++ k1) ++ m1)) (Cells c2 ∷ ((map store_line b2 ++ k2) ++ m2))
    (every-map (GoesOn is_cells) slot_line s1 (λ s. refl)) (every-map (GoesOn is_cells) slot_line s2 (λ s. refl)) refl refl
    (sym (append_assoc (map slot_line s1) (Cells c1 ∷ (map store_line b1 ++ k1)) m1) ∙ (behind ∙ append_assoc (map slot_line s2) (Cells c2 ∷ (map store_line b2 ++ k2)) m2)) in
    let tails = first.1 in
    let cells : c1 ≡ c2 = cc in
    let stored : (map store_line b1 ++ k1) ++ m1 ≡ (map store_line b2 ++ k2) ++ m2 = cc in
    let second = cut_lists is_other (map store_line b1) (map store_line b2) (k1 ++ m1) (k2 ++ m2)
    (every-map (GoesOn is_other) store_line b1 (λ b. refl)) (every-map (GoesOn is_other) store_line b2 (λ b. refl))
    (stops_append is_other k1 m1 (kept_stops k1 hk1) (sent_stops m1 hm1)) (stops_append is_other k2 m2 (kept_stops k2 hk2) (sent_stops m2 hm2))
    (sym (append_assoc (map store_line b1) k1 m1) ∙ (stored ∙ append_assoc (map store_line b2) k2 m2)) in
    let third = cut_lists is_sent k1 k2 m1 m2 (kept_goes k1 hk1) (kept_goes k2 hk2) (stops_every is_sent m1 (every_more (Of kind.Msg) (λ l. is_sent l ≡ true) (λ l h. ap sent_kind h) m1 hm1))
    (stops_every is_sent m2 (every_more (Of kind.Msg) (λ l. is_sent l ≡ true) (λ l h. ap sent_kind h) m2 hm2)) second.1 in
    record { row = row; scalars = scalars; slots = first.0; cells = cells; stores = second.0; kept = third.0; sent = third.1 }
  where
    is_cells : SavedLine → Bool
    is_cells line = cells_kind (kind_of line)

    is_other : SavedLine → Bool
    is_other line = other_kind (kind_of line)

    is_sent : SavedLine → Bool
    is_sent line = sent_kind (kind_of line)

    kept_stops : (ks : List SavedLine) → Every (Of kind.Kept) ks → Stops is_other ks
    kept_stops ks hk = stops_every is_other ks (every_more (Of kind.Kept) (λ l. is_other l ≡ true) (λ l h. ap other_kind h) ks hk)

    sent_stops : (ks : List SavedLine) → Every (Of kind.Msg) ks → Stops is_other ks
    sent_stops ks hk = stops_every is_other ks (every_more (Of kind.Msg) (λ l. is_other l ≡ true) (λ l h. ap other_kind h) ks hk)

    kept_goes : (ks : List SavedLine) → Every (Of kind.Kept) ks → Every (GoesOn is_sent) ks
    kept_goes ks hk = every_more (Of kind.Kept) (GoesOn is_sent) (λ l h. ap sent_kind h) ks hk

-- ---- lines with a number in each, one number after another
abbrev pub data_key : SavedLine → ℕ
data_key (Kept q words) = unsigned_abs q
data_key (Msg q tag words) = unsigned_abs q
data_key line = 0

abbrev pub Distinct : List ℕ → Type 0
Distinct [] = Unit {0}
Distinct (q ∷ qs) = Every (λ r. r ≢ q) qs × Distinct qs

ranges_differ : (k j n : ℕ) → k < j → Every (λ r. r ≢ k) (range_with_len j n)
ranges_differ k j zero below = tt
ranges_differ k j (suc n) below = ((λ same. let e : j ≡ k = same in omega (arith, below, e)), ranges_differ k (j + 1) n (omega (arith, below)))

pub distinct_range : (k n : ℕ) → Distinct (range_with_len k n)
distinct_range k zero = tt
distinct_range k (suc n) = (ranges_differ k (k + 1) n (omega arith), distinct_range (k + 1) n)

same_test : (a : ℕ) → (a == a) ≡ true
same_test a = grind (arith, nat_tests)

differs_test : (a b : ℕ) → a ≢ b → (a == b) ≡ false
differs_test a b h = by (a == b) refl where
  by : (t : Bool) → (a == b) ≡ t → t ≡ false
  by false e = refl
  by true e = absurd (h (grind (arith, nat_tests)))

module _ (f g : ℕ → List SavedLine) (own : (q : ℕ) → Every (λ line. data_key line ≡ q) (f q)) (also : (q : ℕ) → Every (λ line. data_key line ≡ q) (g q)) where
  pub keyed_blocks : (qs : List ℕ) → Distinct qs → flat_map f qs ≡ flat_map g qs → Every (λ q. f q ≡ g q) qs
  keyed_blocks [] distinct e = tt
  keyed_blocks (q ∷ qs) distinct e =
      let stop : SavedLine → Bool = λ line. not (data_key line == q) in
      let parts = cut_lists stop (f q) (g q) (flat_map f qs) (flat_map g qs)
      (every_more (λ line. data_key line ≡ q) (GoesOn stop) (goes q) (f q) (own q)) (every_more (λ line. data_key line ≡ q) (GoesOn stop) (goes q) (g q) (also q))
      (stops_at f own q qs distinct.0) (stops_at g also q qs distinct.0) e in
      (parts.0, keyed_blocks qs distinct.1 parts.1)
    where
      goes : (r : ℕ) (line : SavedLine) → data_key line ≡ r → not (data_key line == r) ≡ false
      goes r line h = ap not (ap (λ k. k == r) h ∙ same_test r)

      stops : (r s : ℕ) (line : SavedLine) → s ≢ r → data_key line ≡ s → not (data_key line == r) ≡ true
      stops r s line other h = ap not (ap (λ k. k == r) h ∙ differs_test s r other)

      stops_at : (h : ℕ → List SavedLine) → ((s : ℕ) → Every (λ line. data_key line ≡ s) (h s)) → (r : ℕ) (rs : List ℕ) → Every (λ s. s ≢ r) rs →
          Stops (λ line. not (data_key line == r)) (flat_map h rs)
      stops_at h each r [] others = tt
      stops_at h each r (s ∷ rs) others =
          stops_append (λ line. not (data_key line == r)) (h s) (flat_map h rs)
          (stops_every (λ line. not (data_key line == r)) (h s) (every_more (λ line. data_key line ≡ s) (λ line. not (data_key line == r) ≡ true) (λ line. stops r s line others.0) (h s) (each s)))
          (stops_at h each r rs others.1)

-- ---- messages
same_messages : (q : ℕ) (xs ys : List Message) → map (message_line q) xs ≡ map (message_line q) ys → xs ≡ ys
same_messages q [] [] e = refl
same_messages q [] (y ∷ ys) e = absurd cc
same_messages q (x ∷ xs) [] e = absurd cc
same_messages q (x ∷ xs) (y ∷ ys) e =
    let tags : x.tag ≡ y.tag = cc in
    let words : x.words ≡ y.words = cc in
    let others : map (message_line q) xs ≡ map (message_line q) ys = cc in
    let head = made_message x.tag y.tag x.words y.words tags words in
    let tails = same_messages q xs ys others in
    ap (λ (m : Message). m ∷ xs) head ∙ ap (λ ms. y ∷ ms) tails
  where
    made_message : (t u : ℕ) (v w : List ℤ) → t ≡ u → v ≡ w → ◌≡◌ {A = Message} (record { tag = t; words = v }) (record { tag = u; words = w })
    made_message t u v w p r =
        ap (λ (n : ℕ). let message : Message = record { tag = n; words = v } in message) p
        ∙ ap (λ (l : List ℤ). let message : Message = record { tag = u; words = l } in message) r

message_keys : (q : ℕ) (messages : List Message) → Every (λ line. data_key line ≡ q) (map (message_line q) messages)
message_keys q messages = every-map (λ line. data_key line ≡ q) (message_line q) messages (λ message. refl)

-- the links from a processor
pub same_links : (code : Tables) (one other : List (List Message)) (p : ℕ) → message_lines code one p ≡ message_lines code other p →
    Every (λ q. link_of (processors code) one p q ≡ link_of (processors code) other p q) (processor_numbers code)
same_links code one other p e =
    every_more (λ q. map (message_line q) (link_of (processors code) one p q) ≡ map (message_line q) (link_of (processors code) other p q))
    (λ q. link_of (processors code) one p q ≡ link_of (processors code) other p q)
    (λ q. same_messages q (link_of (processors code) one p q) (link_of (processors code) other p q)) (processor_numbers code)
    (keyed_blocks (λ q. map (message_line q) (link_of (processors code) one p q)) (λ q. map (message_line q) (link_of (processors code) other p q))
    (λ q. message_keys q (link_of (processors code) one p q)) (λ q. message_keys q (link_of (processors code) other p q)) (processor_numbers code)
    (distinct_range 0 (processors code)) e)

pub messages_sent : (code : Tables) (links : List (List Message)) (p : ℕ) → Every (Of kind.Msg) (message_lines code links p)
messages_sent code links p =
    every-flat_map (Of kind.Msg) (λ q. map (message_line q) (link_of (processors code) links p q)) (processor_numbers code)
    (λ q. every-map (Of kind.Msg) (message_line q) (link_of (processors code) links p q) (λ message. refl))

-- ---- what is kept
found_keys : (q : ℕ) (found : Option (ℕ × List ℤ)) → Every (λ line. data_key line ≡ q) (kept_from q found)
found_keys q None = tt
found_keys q (Some entry) = (refl, tt)

kept_kinds : (q : ℕ) (found : Option (ℕ × List ℤ)) → Every (Of kind.Kept) (kept_from q found)
kept_kinds q None = tt
kept_kinds q (Some entry) = (refl, tt)

pub keeps_kept : (code : Tables) (kept : List (ℕ × List ℤ)) → Every (Of kind.Kept) (kept_lines code kept)
keeps_kept code kept =
    every-flat_map (Of kind.Kept) (λ q. kept_from q (find (λ entry. entry.0 == q) kept)) (processor_numbers code)
    (λ q. kept_kinds q (find (λ entry. entry.0 == q) kept))

pub same_found : (code : Tables) (one other : List (ℕ × List ℤ)) → kept_lines code one ≡ kept_lines code other →
    Every (λ q. kept_from q (find (λ entry. entry.0 == q) one) ≡ kept_from q (find (λ entry. entry.0 == q) other)) (processor_numbers code)
same_found code one other e =
    keyed_blocks (λ q. kept_from q (find (λ entry. entry.0 == q) one)) (λ q. kept_from q (find (λ entry. entry.0 == q) other))
    (λ q. found_keys q (find (λ entry. entry.0 == q) one)) (λ q. found_keys q (find (λ entry. entry.0 == q) other)) (processor_numbers code)
    (distinct_range 0 (processors code)) e
