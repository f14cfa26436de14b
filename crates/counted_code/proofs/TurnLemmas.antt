-- What a processor does next in code and in counted code, in a row with messages.
use Rattle.std.proofs.Common.{◌≡◌, refl, sym, ◌∙◌, ap, ap₂, subst, ℕ, suc, ◌+◌, ◌*◌, ◌/◌, ◌%◌}
use Rattle.std.proofs.Common.{◌==◌, ◌≤◌, Bool, true, false, ◌&&◌, List, [], ◌∷◌, ◌++◌, length}
use Rattle.std.proofs.Common.{arith}
use Rattle.std.proofs.Common.{pos, ℤ, eqb-true}
use Rattle.std.specs.Prelude.{Option, Some, None, slice_get, if◌then◌else◌}
use Rattle.std.specs.Option.{option_map}
use Rattle.grid_links.specs.declared.messages.Message.{Message}
use Rattle.grid_links.specs.Machine.{Awaits, Blocked, Ended, Goes as Moves, Refuses, Takes}
use Rattle.node_form.specs.declared.tables.Tables.{Tables}
use Rattle.grid_meaning.specs.Action.{Action, Feeding, StuckKind, Undefined, Unheld, WrongLength}
use Rattle.grid_meaning.specs.Action.{WrongTag}
use Rattle.grid_meaning.specs.Collective.{Collective, Stage, Alone, Sends, TakesFrom, Last, row_tag}
use Rattle.grid_meaning.specs.Collective.{stage_of}
use Rattle.grid_meaning.specs.Local.{Local, left}
use Rattle.grid_meaning.specs.Turn.{act_in, fed_by, fed_in, sends, steps_on, takes}
use Rattle.counted_code.specs.Alike.{IsAlike, counted_message, counted_sent}
use Rattle.counted_code.specs.Alike.{is_of_vote, kept_as}
use Rattle.counted_code.specs.Alike.{stretched, votes_at, words_as}
use Rattle.counted_code.proofs.WornLemmas.{BothBlocked, BothLeave, HasTag, IsKept, IsLastKept}
use Rattle.counted_code.proofs.WornLemmas.{IsWorn}
use Rattle.counted_code.proofs.WornLemmas.{LastAlike, OfExchange, OfRow, Wear, alone_kept}
use Rattle.counted_code.proofs.WornLemmas.{last_kept, taken_kept}
use Rattle.counted_code.proofs.WornLemmas.{worn}

abbrev pub counting_wear : ℕ → ℕ → Wear
counting_wear n count = record {
  at = λ k. k;
  member = stretched n;
  flag = option_map (stretched n);
  cells = λ cells. cells ++ pos count ∷ [];
}

-- with what is kept of a vote, or of another row
abbrev pub image : Bool → ℕ → ℕ → Local → Local
image v n count local =
    record (worn (counting_wear n count) local) { kept = kept_as v n local.kept }

pub kept_none : (v : Bool) (n : ℕ) → kept_as v n [] ≡ []
kept_none true n = refl
kept_none false n = refl

pub words_long : (v : Bool) (n : ℕ) (words : List ℤ) → length (words_as v n words) ≡ length words
words_long false n words = refl
words_long true n [] = refl
words_long true n (x ∷ words) = ap suc (words_long true n words)

-- ---- acts
pub data ActsAlike (code : Tables) (n most : ℕ) : Action → Action → Type 0 where
  BothGo : {next other : Local} {sent sent' : Option (ℕ × Message)} (shown : List ℕ)
      → IsAlike code n most next other → sent' ≡ counted_sent code n sent
      → ActsAlike code n most (Moves next sent shown) (Moves other sent' shown)
  BothStop : (kind : StuckKind) → ActsAlike code n most (Blocked kind) (Blocked kind)
  BothAwait : (from : ℕ) → ActsAlike code n most (Awaits from) (Awaits from)
  BothEnded : ActsAlike code n most Ended Ended

pub data FedAlike (code : Tables) (n most : ℕ) : Feeding → Feeding → Type 0 where
  BothTake : {next other : Local} → IsAlike code n most next other
      → FedAlike code n most (Takes next) (Takes other)
  BothRefuse : (kind : StuckKind) → FedAlike code n most (Refuses kind) (Refuses kind)

module _ (code : Tables) (n most count : ℕ) (few : count ≤ most) where
  abbrev pub IsLongOf : Local → Type 0
  IsLongOf local = length local.cells ≡ code.cells

  pub image_alike : (v : Bool) (next : Local) → IsLongOf next → votes_at code next.at ≡ v
      → IsAlike code n most next (image v n count next)
  image_alike v next long votes = record {
    count = count;
    few = few;
    long = long;
    same =
        ap (λ b. record (worn (counting_wear n count) next) { kept = kept_as b n next.kept })
        (sym votes);
  }

  -- an instruction is left
  pub left_alike : (v : Bool) (local : Local) (to : ℕ) → IsLongOf local
      → IsAlike code n most (left local to) (left (image v n count local) to)
  left_alike v local to long = record {
    count = count;
    few = few;
    long = long;
    same =
        ap (λ kept. record (worn (counting_wear n count) (left local to)) { kept = kept })
        (sym (kept_none (votes_at code to) n));
  }

  -- ---- a row of the code and one of the counted code
  pub record RowsAlike (v : Bool) (row other : Collective) : Type 0 where
    pub same_tag : (local : Local) → other.tag (image v n count local) ≡ row.tag local
    pub of_vote : (local : Local) → votes_at code local.at ≡ v → is_of_vote code (row.tag local) ≡ v
    pub stages : (local : Local) → other.stages (image v n count local) ≡ row.stages local
    pub alone : (local : Local)
        → other.alone (image v n count local) ≡ option_map (image v n count) (row.alone local)
    pub words_to : (local : Local) (q : ℕ)
        → other.words_to (image v n count local) q
        ≡ option_map (words_as v n) (row.words_to local q)
    pub awaits : (local : Local) (q many : ℕ)
        → other.awaits (image v n count local) q many ≡ row.awaits local q many
    pub taken : (local : Local) (q : ℕ) (words : List ℤ)
        → other.taken (image v n count local) q (words_as v n words)
        ≡ option_map (image v n count) (row.taken local q words)
    pub last : (local : Local) → IsLongOf local
        → ActsAlike code n most (row.last local) (other.last (image v n count local))
    pub alone_keeps : (local next : Local) → row.alone local ≡ Some next → IsKept local next
    pub taken_keeps : (local next : Local) (q : ℕ) (words : List ℤ) → row.taken local q words
        ≡ Some next
        → IsKept local next

  module _ (v : Bool) (row other : Collective) (rows : RowsAlike v row other)
      (local : Local) (long : IsLongOf local) (votes : votes_at code local.at ≡ v) where
    abbrev there : Local
    there = image v n count local

    next_kept : (next : Local) → IsKept local next
        → IsAlike code n most (record next { made = next.made + 1 })
        (record (image v n count next) { made = next.made + 1 })
    next_kept next kept =
        image_alike v (record next { made = next.made + 1 })
        (ap length kept.cells ∙ long) (ap (votes_at code) kept.at ∙ votes)

    steps_alike : (o : Option Local) → row.alone local ≡ o
        → ActsAlike code n most (steps_on o) (steps_on (option_map (image v n count) o))
    steps_alike None e = BothStop Unheld
    steps_alike (Some next) e = BothGo [] (next_kept next (rows.alone_keeps local next e)) refl

    sent_same : (to : ℕ) (words : List ℤ)
        → Some (to, record { tag = row.tag local; words = words_as v n words })
        ≡ counted_sent code n (Some (to, record { tag = row.tag local; words = words }))
    sent_same to words =
        ap (λ b. Some (to, record { tag = row.tag local; words = words_as b n words }))
        (sym (rows.of_vote local votes))

    sends_alike : (to : ℕ) (o : Option (List ℤ))
        → ActsAlike code n most (sends row local to o)
        (sends other there to (option_map (words_as v n) o))
    sends_alike to None = BothStop Unheld
    sends_alike to (Some words) =
        BothGo [] (image_alike v (record local { made = local.made + 1 }) long votes)
        (ap (λ tag. Some (to, record { tag = tag; words = words_as v n words }))
        (rows.same_tag local)
        ∙ sent_same to words)

    in_alike : (o : Option Stage) → ActsAlike code n most (act_in row local o)
        (act_in other there o)
    in_alike None = BothStop Undefined
    in_alike (Some Alone) =
        subst (λ o. ActsAlike code n most (steps_on (row.alone local)) (steps_on o))
        (sym (rows.alone local))
        (steps_alike (row.alone local) refl)
    in_alike (Some (Sends to)) =
        subst (λ o. ActsAlike code n most (sends row local to (row.words_to local to))
        (sends other there to o))
        (sym (rows.words_to local to)) (sends_alike to (row.words_to local to))
    in_alike (Some (TakesFrom from)) = BothAwait from
    in_alike (Some Last) = rows.last local long

    same_stage : stage_of other there ≡ stage_of row local
    same_stage = ap (λ stages. slice_get stages local.made) (rows.stages local)

    pub acts_alike : ActsAlike code n most (act_in row local (stage_of row local))
        (act_in other there (stage_of other there))
    acts_alike =
        subst (λ o. ActsAlike code n most (act_in row local (stage_of row local))
        (act_in other there o))
        (sym same_stage) (in_alike (stage_of row local))

    -- ---- a message
    takes_alike : (from : ℕ) (words : List ℤ) (o : Option Local) → row.taken local from words ≡ o
        → FedAlike code n most (takes o) (takes (option_map (image v n count) o))
    takes_alike from words None e = BothRefuse Unheld
    takes_alike from words (Some next) e =
        BothTake (next_kept next (rows.taken_keeps local next from words e))

    long_alike : (from : ℕ) (words : List ℤ) (b : Bool)
        → FedAlike code n most
        (if b then takes (row.taken local from words) else Refuses WrongLength)
        (if b then takes (other.taken there from (words_as v n words)) else Refuses WrongLength)
    long_alike from words false = BothRefuse WrongLength
    long_alike from words true =
        subst (λ o. FedAlike code n most (takes (row.taken local from words)) (takes o))
        (sym (rows.taken local from words))
        (takes_alike from words (row.taken local from words) refl)

    abbrev fed_words : List ℤ → ℕ → Feeding
    fed_words words from =
        if other.awaits there from (length words) then takes (other.taken there from words)
        else Refuses WrongLength

    tag_alike : (from : ℕ) (message : Message) (b : Bool) → (message.tag == row.tag local) ≡ b
        → FedAlike code n most
        (if b then (if row.awaits local from (length message.words) then takes
        (row.taken local from message.words)
        else Refuses WrongLength) else Refuses WrongTag)
        (if b then fed_words (words_as (is_of_vote code message.tag) n message.words) from
        else Refuses WrongTag)
    tag_alike from message false e = BothRefuse WrongTag
    tag_alike from message true e =
        subst (λ words. FedAlike code n most
        (if row.awaits local from (length message.words) then takes
        (row.taken local from message.words)
        else Refuses WrongLength) (fed_words words from))
        (sym (ap (λ b. words_as b n message.words)
        (ap (is_of_vote code) (eqb-true message.tag (row.tag local) e) ∙ rows.of_vote local votes)))
        (subst (λ b. FedAlike code n most
        (if row.awaits local from (length message.words) then takes
        (row.taken local from message.words)
        else Refuses WrongLength)
        (if b then takes (other.taken there from (words_as v n message.words)) else Refuses
        WrongLength))
        (sym (rows.awaits local from (length (words_as v n message.words))
        ∙ ap (row.awaits local from) (words_long v n message.words)))
        (long_alike from message.words (row.awaits local from (length message.words))))

    by_alike : (from : ℕ) (message : Message)
        → FedAlike code n most (fed_by row local from message)
        (fed_by other there from (counted_message code n message))
    by_alike from message =
        subst (λ tag. FedAlike code n most (fed_by row local from message)
        (if message.tag == tag then fed_words
        (words_as (is_of_vote code message.tag) n message.words) from
        else Refuses WrongTag)) (sym (rows.same_tag local))
        (tag_alike from message (message.tag == row.tag local) refl)

    fed_alike_in : (message : Message) (o : Option Stage)
        → FedAlike code n most (fed_in row local message o)
        (fed_in other there (counted_message code n message) o)
    fed_alike_in message None = BothRefuse Undefined
    fed_alike_in message (Some Alone) = BothRefuse Undefined
    fed_alike_in message (Some (Sends to)) = BothRefuse Undefined
    fed_alike_in message (Some (TakesFrom from)) = by_alike from message
    fed_alike_in message (Some Last) = BothRefuse Undefined

    pub fed_alike : (message : Message)
        → FedAlike code n most (fed_in row local message (stage_of row local))
        (fed_in other there (counted_message code n message) (stage_of other there))
    fed_alike message =
        subst (λ o. FedAlike code n most (fed_in row local message (stage_of row local))
        (fed_in other there (counted_message code n message) o)) (sym same_stage)
        (fed_alike_in message (stage_of row local))

  -- ---- rows but votes
  odd_tag : (a : ℕ) → ((2 * a + 1) % 2 ≡ 1) × ((2 * a + 1) / 2 ≡ a)
  odd_tag a = (omega arith, omega arith)

  even_tag : (a : ℕ) → (2 * a) % 2 ≡ 0
  even_tag a = omega arith

  pub row_of_vote : (local : Local) → is_of_vote code (row_tag local) ≡ votes_at code local.at
  row_of_vote local =
      ap₂ (λ r k. r == 1 && votes_at code k) (odd_tag local.at).0 (odd_tag local.at).1

  pub worn_alike : (row : Collective) → IsWorn row → RowsAlike false row row
  worn_alike row is = record {
    same_tag = λ local. tag is.tag local;
    of_vote = λ local votes. vote is.tag local votes;
    stages = λ local. is.stages local (counting_wear n count);
    alone = λ local. is.alone local (counting_wear n count);
    words_to = λ local q. is.words_to local (counting_wear n count) q ∙ same (row.words_to local q);
    awaits = λ local q many. is.awaits local (counting_wear n count) q many;
    taken = λ local q words. is.taken local (counting_wear n count) q words;
    last = λ local long.
        last local long (row.last local) (row.last (worn (counting_wear n count) local))
        (last_kept row is local) (is.last local (counting_wear n count));
    alone_keeps = alone_kept row is;
    taken_keeps = taken_kept row is;
  }
    where
      tag : HasTag row → (local : Local) → row.tag (image false n count local) ≡ row.tag local
      tag (OfRow is) local = is (worn (counting_wear n count) local) ∙ sym (is local)
      tag (OfExchange exchange is) local = is (worn (counting_wear n count) local) ∙ sym (is local)

      vote : HasTag row → (local : Local) → votes_at code local.at ≡ false
          → is_of_vote code (row.tag local) ≡ false
      vote (OfRow is) local votes = ap (is_of_vote code) (is local) ∙ (row_of_vote local ∙ votes)
      vote (OfExchange exchange is) local votes =
          ap (is_of_vote code) (is local)
          ∙ ap (λ r. r == 1 && votes_at code ((2 * exchange) / 2)) (even_tag exchange)

      same : (o : Option (List ℤ)) → o ≡ option_map (words_as false n) o
      same None = refl
      same (Some words) = refl

      last : (local : Local) → IsLongOf local → (one other : Action) → IsLastKept local one
          → LastAlike (counting_wear n count) one other → ActsAlike code n most one other
      last local long _ _ kept (BothLeave behind bytes) =
          BothGo bytes (left_alike false behind (behind.at + 1) (ap length kept ∙ long)) refl
      last local long _ _ kept (BothBlocked kind) = BothStop kind
