-- Lists of events.
use Rattle.std.proofs.Common.{◌≡◌, ℕ, suc, ◌+◌, ◌<◌, Bool, true, false, cond, ◌==◌, List, [], ◌∷◌, ◌++◌, map, All, replicate, refl, sym, ◌∙◌, ap, ap₂, subst, arith, append_assoc, eqb-true, zero-add}
use Rattle.std.proofs.lemmas.List.Sums.{sum_by-cons}
use Rattle.std.proofs.lemmas.List.Elements.{All-head, All-tail}
use Rattle.grid_links.specs.Machine.{Processes}
use Rattle.grid_links.specs.Run.{message_where}
use Rattle.grid_paths.specs.Path.{AreOthers, Event, Quiet, Sent, Taken, IsPath, messages_to, messages_from, shown_in, NamesOthers}
use Rattle.grid_paths.specs.Tree.{times}

pub path_through : {L M K : Type 0} (processes : Processes L M K) (p : ℕ) (one two three : L)
    (first second : List (Event M))
    → IsPath processes p one first two → IsPath processes p two second three
    → IsPath processes p one (first ++ second) three
path_through processes p one two three [] second a b = subst
    (λ l. IsPath processes p l second three) (sym a) b
path_through processes p one two three (event ∷ first) second (next, step, a) b =
    (next, step, path_through processes p next two three first second a b)

pub messages_to-append : {M : Type 0} (q : ℕ) (first second : List (Event M))
    → messages_to q (first ++ second) ≡ messages_to q first ++ messages_to q second
messages_to-append q [] second = refl
messages_to-append q (Quiet shown ∷ first) second = messages_to-append q first second
messages_to-append q (Sent r message ∷ first) second =
    ap (λ l. message_where (r == q) message ++ l) (messages_to-append q first second)
    ∙ sym (append_assoc (message_where (r == q) message) (messages_to q first)
    (messages_to q second))
messages_to-append q (Taken r message ∷ first) second = messages_to-append q first second

pub messages_from-append : {M : Type 0} (q : ℕ) (first second : List (Event M))
    → messages_from q (first ++ second) ≡ messages_from q first ++ messages_from q second
messages_from-append q [] second = refl
messages_from-append q (Quiet shown ∷ first) second = messages_from-append q first second
messages_from-append q (Sent r message ∷ first) second = messages_from-append q first second
messages_from-append q (Taken r message ∷ first) second =
    ap (λ l. message_where (r == q) message ++ l) (messages_from-append q first second)
    ∙ sym (append_assoc (message_where (r == q) message) (messages_from q first)
    (messages_from q second))

pub shown_in-append : {M : Type 0} (first second : List (Event M)) → shown_in (first ++ second)
    ≡ shown_in first ++ shown_in second
shown_in-append [] second = refl
shown_in-append (Quiet shown ∷ first) second =
    ap (λ l. shown ++ l) (shown_in-append first second)
    ∙ sym (append_assoc shown (shown_in first) (shown_in second))
shown_in-append (Sent r message ∷ first) second = shown_in-append first second
shown_in-append (Taken r message ∷ first) second = shown_in-append first second

pub named-append : {M : Type 0} (count p : ℕ) (first second : List (Event M))
    → NamesOthers count p first → NamesOthers count p second
    → NamesOthers count p (first ++ second)
named-append count p [] second a b = b
named-append count p (event ∷ first) second a b = (a.0, named-append count p first second a.1 b)

-- ---- events that only send, and that only take
pub sends_named : {M : Type 0} (count p : ℕ) (message : ℕ → M) (to : List ℕ) → AreOthers count p to
    → NamesOthers count p (map (λ q. Sent q (message q)) to)
sends_named count p message [] are = tt
sends_named count p message (q ∷ to) are = (
  All-head (λ r. (r < count) × ((r == p) ≡ false)) q to are,
  sends_named count p message to (All-tail (λ r. (r < count) × ((r == p) ≡ false)) q to are),
)

pub takes_named : {M : Type 0} (count p : ℕ) (message : ℕ → M) (from : List ℕ)
    → AreOthers count p from
    → NamesOthers count p (map (λ q. Taken q (message q)) from)
takes_named count p message [] are = tt
takes_named count p message (q ∷ from) are = (
  All-head (λ r. (r < count) × ((r == p) ≡ false)) q from are,
  takes_named count p message from (All-tail (λ r. (r < count) × ((r == p) ≡ false)) q from are),
)

pub sends_take_none : {M : Type 0} (q : ℕ) (message : ℕ → M) (to : List ℕ)
    → messages_from q (map (λ r. Sent r (message r)) to) ≡ []
sends_take_none q message [] = refl
sends_take_none q message (r ∷ to) = sends_take_none q message to

pub takes_send_none : {M : Type 0} (q : ℕ) (message : ℕ → M) (from : List ℕ)
    → messages_to q (map (λ r. Taken r (message r)) from) ≡ []
takes_send_none q message [] = refl
takes_send_none q message (r ∷ from) = takes_send_none q message from

pub sends_show_none : {M : Type 0} (message : ℕ → M) (to : List ℕ)
    → shown_in (map (λ r. Sent r (message r)) to) ≡ []
sends_show_none message [] = refl
sends_show_none message (r ∷ to) = sends_show_none message to

pub takes_show_none : {M : Type 0} (message : ℕ → M) (from : List ℕ)
    → shown_in (map (λ r. Taken r (message r)) from) ≡ []
takes_show_none message [] = refl
takes_show_none message (r ∷ from) = takes_show_none message from

-- the message as often as the number is in the list
as_often : {M : Type 0} (q r : ℕ) (message : ℕ → M) (rest : List M) (n : ℕ) (b : Bool) → (r == q)
    ≡ b → rest ≡ replicate n (message q)
    → message_where b (message r) ++ rest ≡ replicate (cond b 1 0 + n) (message q)
as_often q r message rest n true e is =
    let one_more : suc n ≡ 1 + n = omega arith in
    ap₂ (λ k l. message k ∷ l) (eqb-true r q e) is ∙ ap (λ k. replicate k (message q)) one_more
as_often q r message rest n false e is = is ∙ ap (λ k. replicate k (message q)) (sym (zero-add n))

pub sends_send : {M : Type 0} (q : ℕ) (message : ℕ → M) (to : List ℕ)
    → messages_to q (map (λ r. Sent r (message r)) to) ≡ replicate (times q to) (message q)
sends_send q message [] = refl
sends_send q message (r ∷ to) =
    as_often q r message (messages_to q (map (λ k. Sent k (message k)) to)) (times q to) (r == q)
    refl (sends_send q message to)
    ∙ ap (λ k. replicate k (message q)) (sym (sum_by-cons (λ m. cond (m == q) 1 0) r to))

pub takes_take : {M : Type 0} (q : ℕ) (message : ℕ → M) (from : List ℕ)
    → messages_from q (map (λ r. Taken r (message r)) from) ≡ replicate (times q from) (message q)
takes_take q message [] = refl
takes_take q message (r ∷ from) =
    as_often q r message (messages_from q (map (λ k. Taken k (message k)) from)) (times q from)
    (r == q) refl (takes_take q message from)
    ∙ ap (λ k. replicate k (message q)) (sym (sum_by-cons (λ m. cond (m == q) 1 0) r from))
