-- Statements in statements, and what is right of all that a run visits.
use Rattle.std.proofs.Common.{zero, suc, List, [], ◌∷◌, ◌++◌, refl, arith}
use Rattle.std.specs.Prelude.{Contains}
use Rattle.meaning_ranks.specs.of_zpl_tree.Syntax.{Stmt}
use Rattle.meaning_ranks.specs.of_zpl_meaning.Context.{Setup, Place}
use Rattle.meaning_ranks.specs.of_zpl_meaning.Proper.{IsProperStmt}
use Rattle.meaning_ranks.specs.of_zpl_meaning.Visited.{IsVisited}
use Rattle.meaning_ranks.specs.Ranked.{IsRankedStmt}

-- ---- lists

pub contains_first : {A : Type 0} (x : A) (xs : List A) → Contains (x ∷ xs) x
contains_first x xs = (0, omega arith, refl)

pub contains_later : {A : Type 0} (y x : A) (xs : List A) → Contains xs x → Contains (y ∷ xs) x
contains_later y x xs in_it = let below = in_it.1 in (suc in_it.0, omega arith, in_it.2)

pub contains_left : {A : Type 0} (xs ys : List A) (x : A) → Contains xs x → Contains (xs ++ ys) x
contains_left [] ys x in_it = let below = in_it.1 in absurd (omega arith)
contains_left (y ∷ xs) ys x (zero, below, is) = (zero, omega arith, is)
contains_left (y ∷ xs) ys x (suc k, below, is) =
    contains_later y x (xs ++ ys) (contains_left xs ys x (k, omega arith, is))

pub contains_right : {A : Type 0} (xs ys : List A) (x : A) → Contains ys x → Contains (xs ++ ys) x
contains_right [] ys x in_it = in_it
contains_right (y ∷ xs) ys x in_it = contains_later y x (xs ++ ys) (contains_right xs ys x in_it)

-- each visited statement is proper, and its ranks agree
abbrev pub AreRight : Setup → Type 0
AreRight setup =
    (place : Place) (stmt : Stmt) → IsVisited setup place stmt →
    IsProperStmt place stmt × IsRankedStmt place stmt
