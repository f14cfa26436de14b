-- Sends and takes one after another, in rows whose turns are counted along with what they do.
use Rattle.std.proofs.Common.{◌≡◌, ℕ, suc, ◌+◌, ◌*◌, ◌<◌, ◌≤◌, Bool, true, false, ℤ, List, [], ◌∷◌, ◌++◌, length, map, All, slice_get, Option, Some, None, option_map, option_and_then, refl, sym, ◌∙◌, ap, ap₂, subst, arith, length-append, append_assoc}
use Rattle.std.proofs.lemmas.List.Elements.{All-head, All-tail}
use Rattle.node_form.specs.declared.instructions.Instr.{Instr}
use Rattle.node_form.specs.declared.tables.Tables.{Tables}
use Rattle.grid_meaning.specs.Collective.{Collective, Stage, Sends, TakesFrom}
use Rattle.grid_meaning.specs.Local.{Local}
use Rattle.grid_meaning.specs.Rows.{collective}
use Rattle.row_orders.specs.Halves.{Sending, Taking}
use Rattle.row_orders.specs.Rows.{IsAtRow, taken_where, taking}

-- in front of a row with a number, with so many turns made in it
abbrev pub re : ℕ → ℕ → Local → Local
re at m local = record local { at = at; made = m }

pub place_of : {X : Type 0} (front : List X) (x : X) (rest : List X)
    → slice_get (front ++ x ∷ rest) (length front) ≡ Some x
place_of [] x rest = refl
place_of (y ∷ front) x rest = place_of front x rest

pub push : {X : Type 0} (front : List X) (x : X) (rest : List X)
    → front ++ x ∷ rest ≡ (front ++ x ∷ []) ++ rest
push front x rest = sym (append_assoc front (x ∷ []) rest)

pub longer : {X : Type 0} (front : List X) (x : X) (m : ℕ) → m ≡ length front
    → m + 1 ≡ length (front ++ x ∷ [])
longer front x m is = ap (λ k. k + 1) is ∙ sym (length-append front (x ∷ []))

module _ (code : Tables) (p at : ℕ) (instr : Instr)
    (here : slice_get code.code at ≡ Some instr) (row : Collective)
    (row_of : collective code p instr ≡ Some row)
    (tagged : (m : ℕ) (base : Local) → row.tag (re at m base) ≡ 2 * at + 1) where
  at_row : (m : ℕ) (base : Local) → base.ended ≡ None → IsAtRow code p row (re at m base)
  at_row m base running = record {
    running = running;
    instr = instr;
    here = here;
    row_of = row_of;
  }

  -- in turns from a low number on, below a high one, these words are said
  abbrev pub Says : Local → (ℕ → List ℤ) → ℕ → ℕ → ℕ → Type 0
  Says base words low high q =
      (m : ℕ) → low ≤ m → m < high → row.words_to (re at m base) q ≡ Some (words q)

  pub sends_chain : (words : ℕ → List ℤ) (base : Local) → base.ended ≡ None
      → (stages : List Stage) → ((m : ℕ) → row.stages (re at m base) ≡ stages)
      → (low high : ℕ) (to : List ℕ) (front rest : List Stage)
      → stages ≡ front ++ (map Sends to ++ rest) → (m : ℕ) → m ≡ length front → low ≤ m
      → m + length to ≤ high → All (Says base words low high) to
      → Sending code p row (2 * at + 1) words (re at m base) to (re at (m + length to) base)
  sends_chain words base running stages same low high [] front rest is m many from until says =
      let none : m ≡ m + 0 = omega arith in ap (λ k. re at k base) none
  sends_chain words base running stages same low high (q ∷ to) front rest is m many from until
      says =
      let none : m + 1 + length to ≡ m + suc (length to) = omega arith in (
        at_row m base running,
        tagged m base,
        ap (λ s. slice_get s m) (same m ∙ is)
            ∙ (ap (slice_get (front ++ Sends q ∷ (map Sends to ++ rest))) many
            ∙ place_of front (Sends q) (map Sends to ++ rest)),
        All-head (Says base words low high) q to says m from (omega (arith, until)),
        subst (λ k. Sending code p row (2 * at + 1) words (re at (m + 1) base) to (re at k base))
            none
            (sends_chain words base running stages same low high to (front ++ Sends q ∷ []) rest
            (is ∙ push front (Sends q) (map Sends to ++ rest)) (m + 1)
            (longer front (Sends q) m many) (omega (arith, from)) (omega (arith, until))
            (All-tail (Says base words low high) q to says)),
      )

  -- What is kept of a state while words are taken: then these turns are like the ones that are made
  -- with another number.
  module _ (Keeps : Local → Type 0) (Passes : ℕ → Type 0) (low high : ℕ)
      (runs : (base : Local) → Keeps base → base.ended ≡ None)
      (same_awaits : (base : Local) → Keeps base → (m : ℕ) → low ≤ m → m < high
      → (q many : ℕ) → row.awaits (re at m base) q many ≡ row.awaits base q many)
      (same_taken : (base : Local) → Keeps base → (m : ℕ) → low ≤ m → m < high
      → (q : ℕ) (words : List ℤ)
      → row.taken (re at m base) q words ≡ option_map (re at m) (row.taken base q words))
      (keeps : (base next : Local) (q : ℕ) (words : List ℤ) → Keeps base → Passes q
      → row.taken base q words ≡ Some next → Keeps next) where
    abbrev pub Chained : (ℕ → List ℤ) → List ℕ → Type 0
    Chained words from =
        (front : List Stage)
        → ((base : Local) → Keeps base → (m : ℕ) → (rest : List Stage)
        × (row.stages (re at m base) ≡ front ++ (map TakesFrom from ++ rest)))
        → (m : ℕ) → m ≡ length front → low ≤ m → m + length from ≤ high
        → All Passes from → (base final : Local) → Keeps base
        → taking row words base from ≡ Some final
        → Keeps final
        × Taking code p row (2 * at + 1) words (re at m base) from (re at (m + length from) final)

    pub takes_chain : (words : ℕ → List ℤ) (from : List ℕ) → Chained words from
    takes_chain words [] front stages m many above until passes base final kept is =
        let same : base ≡ final = cc in
        let none : m ≡ m + 0 = omega arith in (
          subst Keeps same kept,
          ap₂ (λ k l. re at k l) none same,
        )
    takes_chain words (q ∷ from) front stages m many above until passes base final kept is =
        by (row.awaits base q (length (words q))) (row.taken base q (words q)) refl refl is
        (takes_chain words from)
      where
        by : (b : Bool) (o : Option Local) → row.awaits base q (length (words q)) ≡ b
            → row.taken base q (words q) ≡ o
            → option_and_then (λ next. taking row words next from) (taken_where b o) ≡ Some final
            → Chained words from
            → Keeps final
            × Taking code p row (2 * at + 1) words (re at m base) (q ∷ from)
            (re at (m + length (q ∷ from)) final)
        by true None waits takes is rest_of = cc
        by true (Some next) waits takes is rest_of =
            let kept_next : Keeps next =
            keeps base next q (words q) kept (All-head Passes q from passes) takes in
            let below : m < high = omega (arith, until) in
            let (rest, shape) = stages base kept m in
            let (kept_final, chain) =
            rest_of (front ++ TakesFrom q ∷ [])
            (λ base kept m. next_stages base kept m (stages base kept m)) (m + 1)
            (longer front (TakesFrom q) m many) (omega (arith, above)) (omega (arith, until))
            (All-tail Passes q from passes) next final kept_next is in
            let none : m + 1 + length from ≡ m + suc (length from) = omega arith in (
              kept_final,
              (
                re at m next,
                at_row m base (runs base kept),
                tagged m base,
                ap (λ s. slice_get s m) shape
                    ∙ (ap (slice_get (front ++ TakesFrom q ∷ (map TakesFrom from ++ rest))) many
                    ∙ place_of front (TakesFrom q) (map TakesFrom from ++ rest)),
                ap₂ taken_where (same_awaits base kept m above below q (length (words q)) ∙ waits)
                    (same_taken base kept m above below q (words q)
                    ∙ ap (option_map (re at m)) takes),
                subst (λ k. Taking code p row (2 * at + 1) words (re at (m + 1) next) from
                    (re at k final)) none chain,
              ),
            )
          where
            next_stages : (base : Local) → Keeps base → (m : ℕ) → ((rest : List Stage)
                × (row.stages (re at m base) ≡ front ++ (map TakesFrom (q ∷ from) ++ rest)))
                → (rest : List Stage)
                × (row.stages (re at m base)
                ≡ (front ++ TakesFrom q ∷ []) ++ (map TakesFrom from ++ rest))
            next_stages base kept m (rest, shape) =
                (rest, shape ∙ push front (TakesFrom q) (map TakesFrom from ++ rest))
        by false o waits takes is rest_of = cc
