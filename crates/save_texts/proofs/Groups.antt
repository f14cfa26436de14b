-- Lines that ascend by a number in each are those of one number after another.
use Rattle.std.proofs.Common.{◌≡◌, ℕ, zero, suc, ◌+◌, ◌<◌, ◌≤◌, Bool, true, false, ℤ, List, [], ◌∷◌, ◌++◌, map, inl, inr, ◌⊎◌, refl, ap, sym, ◌∙◌, subst, arith}
use Rattle.std.specs.Prelude.{◌≢◌, ◌==◌, None, find}
use Rattle.std.specs.List.{flat_map, range_with_len}
use Rattle.std.proofs.lemmas.Bool.Decides.{nat_tests}
use Rattle.grid_links.specs.declared.messages.Message.{Message}
use Rattle.node_form.specs.declared.tables.Tables.{Tables}
use Rattle.grid_meaning.specs.Local.{Local, processors}
use Rattle.grid_meaning.specs.State.{IsLocal}
use Rattle.save_lines.specs.declared.lines.SavedLine.{SavedLine}
use Rattle.grid_save.specs.Written.{kept_from, kept_line, kept_lines, message_line}
use Rattle.grid_save.proofs.CutLemmas.{Every}
use Rattle.grid_save.proofs.SameLemmas.{every_more}
use Rattle.grid_save.proofs.OrderLemmas.{Ascends, order, senders_of}
use Rattle.grid_save.proofs.SenderLemmas.{kept_in_order}
use Rattle.save_texts.specs.Links.{sent_to}

pub same_test : (a : ℕ) → (a == a) ≡ true
same_test a = grind (arith, nat_tests)

pub differs_test : (a b : ℕ) → a ≢ b → (a == b) ≡ false
differs_test a b h = by (a == b) refl where
  by : (t : Bool) → (a == b) ≡ t → t ≡ false
  by false e = refl
  by true e = absurd (h (grind (arith, nat_tests)))

-- ---- blocks of lines by the number of their items
-- a block is that of the items with its number, each in front of those that follow it
pub record AreBlocks {E : Type 0} (key : E → ℕ) (line : E → SavedLine) (Before : E → List E → Type 0) (block : List E → ℕ → List SavedLine) : Type 0 where
  pub none : (q : ℕ) → block [] q ≡ []
  pub other : (x : E) (xs : List E) (q : ℕ) → key x ≢ q → block (x ∷ xs) q ≡ block xs q
  pub own : (x : E) (xs : List E) → Before x xs → block (x ∷ xs) (key x) ≡ line x ∷ block xs (key x)
  pub least : (x : E) (xs : List E) → Before x xs → Every (λ y. key x ≤ key y) xs

abbrev pub InOrder : {E : Type 0} → (E → List E → Type 0) → List E → Type 0
InOrder Before [] = Unit {0}
InOrder Before (x ∷ xs) = Before x xs × InOrder Before xs

module _ {E : Type 0} (key : E → ℕ) (line : E → SavedLine) (Before : E → List E → Type 0) (block : List E → ℕ → List SavedLine) (are : AreBlocks key line Before block) where
  empty_below : (xs : List E) (q : ℕ) → Every (λ y. q < key y) xs → block xs q ≡ []
  empty_below [] q below = are.none q
  empty_below (x ∷ xs) q below =
      are.other x xs q (λ same. let e : key x ≡ q = same in let h = below.0 in omega (arith, h, e)) ∙ empty_below xs q below.1

  -- behind its own block
  past_own : (x : E) (xs : List E) (j n : ℕ) → key x < j → flat_map (block (x ∷ xs)) (range_with_len j n) ≡ flat_map (block xs) (range_with_len j n)
  past_own x xs j zero above = refl
  past_own x xs j (suc n) above =
      let here = are.other x xs j (λ same. let e : key x ≡ j = same in omega (arith, above, e)) in
      let more = past_own x xs (j + 1) n (omega (arith, above)) in
      ap (λ ls. ls ++ flat_map (block (x ∷ xs)) (range_with_len (j + 1) n)) here ∙ ap (λ ls. block xs j ++ ls) more

  with_one : (x : E) (xs : List E) (k n : ℕ) → Before x xs → k ≤ key x → key x < k + n →
      flat_map (block (x ∷ xs)) (range_with_len k n) ≡ line x ∷ flat_map (block xs) (range_with_len k n)
  with_one x xs k zero before above below = absurd (omega (arith, above, below))
  with_one x xs k (suc n) before above below = by (order k (key x)) (λ less. with_one x xs (k + 1) n before (omega (arith, less)) (omega (arith, below))) where
    at : (j : ℕ) → key x ≡ j → block (x ∷ xs) j ++ flat_map (block (x ∷ xs)) (range_with_len (j + 1) n) ≡ line x ∷ (block xs j ++ flat_map (block xs) (range_with_len (j + 1) n))
    at j same =
        let own = subst (λ q. block (x ∷ xs) q ≡ line x ∷ block xs q) same (are.own x xs before) in
        let more = past_own x xs (j + 1) n (omega (arith, same)) in
        ap (λ ls. ls ++ flat_map (block (x ∷ xs)) (range_with_len (j + 1) n)) own ∙ ap (λ ls. line x ∷ (block xs j ++ ls)) more

    by : (k ≡ key x) ⊎ ((k < key x) ⊎ (key x < k)) →
        (k < key x → flat_map (block (x ∷ xs)) (range_with_len (k + 1) n) ≡ line x ∷ flat_map (block xs) (range_with_len (k + 1) n)) →
        flat_map (block (x ∷ xs)) (range_with_len k (suc n)) ≡ line x ∷ flat_map (block xs) (range_with_len k (suc n))
    by (inl same) later = at k (sym same)
    by (inr (inl less)) later =
        let some = are.other x xs k (λ same. let e : key x ≡ k = same in omega (arith, less, e)) in
        let empty = empty_below xs k (every_more (λ y. key x ≤ key y) (λ y. k < key y) (λ y h. omega (arith, less, h)) xs (are.least x xs before)) in
        ap (λ ls. ls ++ flat_map (block (x ∷ xs)) (range_with_len (k + 1) n)) (some ∙ empty)
        ∙ (later less ∙ ap (λ ls. line x ∷ (ls ++ flat_map (block xs) (range_with_len (k + 1) n))) (sym empty))
    by (inr (inr more)) later = absurd (omega (arith, above, more))

  no_blocks : (k n : ℕ) → flat_map (block []) (range_with_len k n) ≡ []
  no_blocks k zero = refl
  no_blocks k (suc n) = ap (λ ls. ls ++ flat_map (block []) (range_with_len (k + 1) n)) (are.none k) ∙ no_blocks (k + 1) n

  pub grouped : (xs : List E) (n : ℕ) → InOrder Before xs → Every (λ x. key x < n) xs → flat_map (block xs) (range_with_len 0 n) ≡ map line xs
  grouped [] n ordered below = no_blocks 0 n
  grouped (x ∷ xs) n ordered below =
      with_one x xs 0 n ordered.0 (omega arith) (let h = below.0 in omega (arith, h)) ∙ ap (λ ls. line x ∷ ls) (grouped xs n ordered.1 below.1)

-- ---- messages, by their receivers
abbrev pub sent_line : ℕ × Message → SavedLine
sent_line sent = message_line sent.0 sent.1

abbrev pub sent_block : List (ℕ × Message) → ℕ → List SavedLine
sent_block sents q = map (message_line q) (sent_to q sents)

-- no later message is for an earlier receiver
abbrev pub BeforeSent : ℕ × Message → List (ℕ × Message) → Type 0
BeforeSent sent more = Every (λ other. sent.0 ≤ other.0) more

sent_blocks : AreBlocks (λ (sent : ℕ × Message). sent.0) sent_line BeforeSent sent_block
sent_blocks = record {
  none = λ q. refl;
  other = λ x xs q differ. let test = differs_test x.0 q differ in rw test refl;
  own = λ x xs before. let test = same_test x.0 in rw test refl;
  least = λ x xs before. before;
}

pub sent_grouped : (sents : List (ℕ × Message)) (n : ℕ) → InOrder BeforeSent sents → Every (λ sent. sent.0 < n) sents →
    flat_map (sent_block sents) (range_with_len 0 n) ≡ map sent_line sents
sent_grouped sents n = grouped (λ (sent : ℕ × Message). sent.0) sent_line BeforeSent sent_block sent_blocks sents n

-- ---- what is kept, by its senders
abbrev kept_block : List (ℕ × List ℤ) → ℕ → List SavedLine
kept_block kept q = kept_from q (find (λ entry. entry.0 == q) kept)

abbrev BeforeKept : ℕ × List ℤ → List (ℕ × List ℤ) → Type 0
BeforeKept entry more = Every (λ other. entry.0 < other.0) more

none_found : (q : ℕ) (kept : List (ℕ × List ℤ)) → Every (λ other. q < other.0) kept → find (λ entry. entry.0 == q) kept ≡ None
none_found q [] above = refl
none_found q (entry ∷ kept) above =
    let test = differs_test entry.0 q (λ same. let e : entry.0 ≡ q = same in let h = above.0 in omega (arith, h, e)) in
    rw test (none_found q kept above.1)

kept_blocks : AreBlocks (λ (entry : ℕ × List ℤ). entry.0) kept_line BeforeKept kept_block
kept_blocks = record {
  none = λ q. refl;
  other = λ x xs q differ. let test = differs_test x.0 q differ in rw test refl;
  own = λ x xs before. let test = same_test x.0 in let none = none_found x.0 xs before in rw (test, none) refl;
  least = λ x xs before. every_more (λ other. x.0 < other.0) (λ other. x.0 ≤ other.0) (λ other h. omega (arith, h)) xs before;
}

kept_ordered : (kept : List (ℕ × List ℤ)) → Ascends (senders_of kept) → InOrder BeforeKept kept
kept_ordered [] up = tt
kept_ordered (entry ∷ kept) up = (each kept up.0, kept_ordered kept up.1) where
  each : (more : List (ℕ × List ℤ)) → Every (λ m. entry.0 < m) (senders_of more) → Every (λ other. entry.0 < other.0) more
  each [] above = tt
  each (other ∷ more) above = (above.0, each more above.1)

kept_below : (n : ℕ) (kept : List (ℕ × List ℤ)) → Every (λ q. q < n) (senders_of kept) → Every (λ entry. entry.0 < n) kept
kept_below n [] below = tt
kept_below n (entry ∷ kept) below = (below.0, kept_below n kept below.1)

-- the lines of what a processor keeps
pub kept_grouped : (code : Tables) (p : ℕ) (local : Local) → IsLocal code p local → kept_lines code local.kept ≡ map kept_line local.kept
kept_grouped code p local is =
    let ordered = kept_in_order code p local is in
    grouped (λ (entry : ℕ × List ℤ). entry.0) kept_line BeforeKept kept_block kept_blocks local.kept (processors code)
    (kept_ordered local.kept ordered.ascends) (kept_below (processors code) local.kept ordered.below)
