-- What processors have in front of a row that an order from the start leads to.
use Rattle.std.proofs.Common.{◌≡◌, ◌⊎◌, ℕ, zero, suc, Bool, true, false, List, [], ◌∷◌, All, slice_get, slice_set, Option, Some, None, refl, sym, ◌∙◌, ap, subst, inl, inr}
use Rattle.std.specs.List.{AllZip}
use Rattle.std.specs.Option.{IfSome}
use Rattle.zpl_region.specs.declared.regions.Region.{Region}
use Rattle.grid_links.specs.Machine.{Awaits, Blocked, Ended, Goes, Move, Moves, Refuses, Takes, awaits, over_links, takes_from, where_room}
use Rattle.grid_links.specs.Run as run
use Rattle.grid_links.specs.Run.{World, heads_at, rooms_at, turn_or_over}
use Rattle.grid_links.specs.declared.messages.Message.{Message}
use Rattle.grid_paths.specs.Scene.{OnlyMoves}
use Rattle.node_form.specs.Fits.{FitsRegion}
use Rattle.node_form.specs.declared.instructions.Instr.{Instr}
use Rattle.node_form.specs.declared.tables.Tables.{Tables}
use Rattle.grid_meaning.specs.Action.{Action, Feeding, StuckKind}
use Rattle.grid_meaning.specs.Grid.{system_over}
use Rattle.grid_meaning.specs.Local.{Local}
use Rattle.grid_meaning.specs.State.{HasThree, IsLocal, IsSlot, NextHasThree}
use Rattle.grid_meaning.specs.Turn.{Turn, act, fed}
use Rattle.plan_orders.proofs.TestLemmas.{all_at}

-- the region of a slot fits
pub slot_fits : (ranks : List ℕ) (slots : List Region) → AllZip IsSlot ranks slots → (slot : ℕ)
    (region : Region) → slice_get slots slot ≡ Some region → FitsRegion region
slot_fits [] [] all slot region e = cc
slot_fits [] (first ∷ slots) all slot region e = absurd all
slot_fits (rank ∷ ranks) [] all slot region e = absurd all
slot_fits (rank ∷ ranks) (first ∷ slots) all zero region e =
    let same : first ≡ region = cc in subst FitsRegion same all.0.fits
slot_fits (rank ∷ ranks) (first ∷ slots) all (suc slot) region e =
    slot_fits ranks slots all.1 slot region e

-- what stands in a changed list
set_get : {X : Type 0} (xs : List X) (p q : ℕ) (x y : X) → slice_get (slice_set xs p x) q ≡ Some y
    → ((q ≡ p) × (x ≡ y)) ⊎ (slice_get xs q ≡ Some y)
set_get [] p q x y e = inr e
set_get (first ∷ xs) zero zero x y e = let same : x ≡ y = cc in inl (refl, same)
set_get (first ∷ xs) zero (suc q) x y e = inr e
set_get (first ∷ xs) (suc p) zero x y e = inr e
set_get (first ∷ xs) (suc p) (suc q) x y e = by (set_get xs p q x y e)
  where
    by : ((q ≡ p) × (x ≡ y)) ⊎ (slice_get xs q ≡ Some y)
        → ((suc q ≡ suc p) × (x ≡ y)) ⊎ (slice_get xs q ≡ Some y)
    by (inl (same, is)) = inl (ap suc same, is)
    by (inr is) = inr is

-- rows whose arrays of three have three elements
abbrev pub AreThree : Tables → Type 0
AreThree code = All (HasThree code) code.code

abbrev as_turn : Move Local Message → Turn
as_turn move = Moves move

module _ (code : Tables) (links : Option ℕ) (three : AreThree code)
    (moves_keep : (p : ℕ) (local next : Local) (sent : Option (ℕ × Message)) (shown : List ℕ)
    → NextHasThree code local → IsLocal code p local → act code p local ≡ Goes next sent shown
    → IsLocal code p next)
    (messages_keep : (p : ℕ) (local next : Local) (from : ℕ) (message : Message)
    → IsLocal code p local → act code p local ≡ Awaits from → fed code p local message ≡ Takes next
    → IsLocal code p next) where
  abbrev system : run.System Local Message StuckKind
  system = system_over code links

  next_three : (local : Local) → NextHasThree code local
  next_three local = by (slice_get code.code local.at) refl
    where
      by : (row : Option Instr) → slice_get code.code local.at ≡ row → IfSome row (HasThree code)
      by (Some row) is = all_at (HasThree code) code.code local.at row three is
      by None is = tt

  move_kept : (p : ℕ) (local : Local) (heads : _) (rooms : _) (move : Move Local Message)
      → IsLocal code p local
      → over_links (fed code p local) heads rooms (act code p local) ≡ Moves move
      → IsLocal code p move.next
  move_kept p local heads rooms move is turn = by (act code p local) refl turn
    where
      same_next : (next : Local) (one : Move Local Message) → one.next ≡ next
          → IsLocal code p next → as_turn one ≡ Moves move → IsLocal code p move.next
      same_next next one named kept e =
          let same : one ≡ move = cc in
          subst (IsLocal code p) (sym named ∙ ap (λ m. m.next) same) kept

      taken : (from : ℕ) (message : Message) (feeding : Feeding)
          → act code p local ≡ Awaits from → fed code p local message ≡ feeding
          → takes_from from feeding ≡ Moves move → IsLocal code p move.next
      taken from message (Takes next) waits takes e =
          same_next next _ refl (messages_keep p local next from message is waits takes) e
      taken from message (Refuses kind) waits takes e = cc

      waited : (from : ℕ) (head : Option Message) → act code p local ≡ Awaits from
          → awaits (fed code p local) from head ≡ Moves move → IsLocal code p move.next
      waited from None waits e = cc
      waited from (Some message) waits e =
          taken from message (fed code p local message) waits refl e

      sent_on : (b : Bool) (next : Local) (one : Move Local Message) → one.next ≡ next
          → IsLocal code p next → where_room b (as_turn one) ≡ Moves move
          → IsLocal code p move.next
      sent_on true next one named kept e = same_next next one named kept e
      sent_on false next one named kept e = cc

      by : (action : Action) → act code p local ≡ action
          → over_links (fed code p local) heads rooms action ≡ Moves move
          → IsLocal code p move.next
      by Ended acts e = cc
      by (Blocked kind) acts e = cc
      by (Goes next None shown) acts e =
          same_next next _ refl (moves_keep p local next None shown (next_three local) is acts) e
      by (Goes next (Some sent) shown) acts e =
          sent_on (rooms sent.0) next _ refl
          (moves_keep p local next (Some sent) shown (next_three local) is acts) e
      by (Awaits from) acts e = waited from (heads from) acts e

  abbrev AreLocals : World Local Message → Type 0
  AreLocals world =
      (p : ℕ) (local : Local) → slice_get world.locals p ≡ Some local → IsLocal code p local

  turn_kept : (world : World Local Message) (p : ℕ) (move : Move Local Message) → AreLocals world
      → run.next_turn system world p ≡ Moves move → AreLocals (run.given_turn system world p)
  turn_kept world p move are turn q local here =
      by (set_get world.locals p q move.next local
      (sym (ap (λ t. slice_get (run.after_turn (run.count_of system) p t world).locals q) turn)
      ∙ here))
    where
      moved : (found : Option Local) → slice_get world.locals p ≡ found
          → turn_or_over system world p found ≡ Moves move → IsLocal code p move.next
      moved None there e = cc
      moved (Some old) there e =
          move_kept p old (heads_at (run.count_of system) world.links p)
          (rooms_at system.capacity (run.count_of system) world.links p) move (are p old there) e

      by : ((q ≡ p) × (move.next ≡ local)) ⊎ (slice_get world.locals q ≡ Some local)
          → IsLocal code q local
      by (inl (same, is)) =
          subst (IsLocal code q) is
          (subst (λ k. IsLocal code k move.next) (sym same)
          (moved (slice_get world.locals p) refl turn))
      by (inr is) = are q local is

  pub order_kept : (order : List ℕ) (world : World Local Message) → AreLocals world
      → OnlyMoves system world order → AreLocals (run.after_from system world order)
  order_kept [] world are moves = are
  order_kept (p ∷ order) world are (move, turn, rest) =
      order_kept order (run.given_turn system world p) (turn_kept world p move are turn) rest
