-- The kind of a name is known where those of all entries in reach are; and what is counted is known.
use Rattle.std.proofs.Common.{◌≡◌, ℕ, Bool, true, false, cond, List, [], ◌∷◌, Option, Some, None, option_map, IsSome, refl}
use Rattle.std.specs.List.{AllByRecursion, find}
use Rattle.std.specs.Option.{option_or}
use Rattle.std.specs.Str.{bytes_eq}
use Rattle.zpl_tree.specs.Syntax.{Name, Exprs, NoExpr, ThenExpr}
use Rattle.zpl_names.specs.Kinds.{Kind, Config, Constant, Region, Direction, Scalar, Array, Procedure}
use Rattle.zpl_names.specs.Scope.{Entry, Scope, kind_in, kind_of, in_reach}
use Rattle.zpl_names.specs.Ranks.{IsKnownKind, at_most_three, exprs_count}
use Rattle.zpl_names.specs.Faults.{fourth_part}

abbrev pub OptKnown : Option Kind → Type 0
OptKnown None = Unit {0}
OptKnown (Some kind) = IsKnownKind kind

in_known : (entries : List Entry) (text : List ℕ)
    → AllByRecursion (λ entry. IsKnownKind entry.kind) entries → OptKnown (kind_in entries text)
in_known [] text h = tt
in_known (first ∷ rest) text h = by (bytes_eq first.name.text text) (in_known rest text h.1)
  where
    by : (b : Bool) → OptKnown (kind_in rest text)
        → OptKnown (option_map (λ entry. entry.kind)
        (cond b (Some first) (find (λ entry. bytes_eq entry.name.text text) rest)))
    by true later = h.0
    by false later = later

or_known : (one other : Option Kind) → OptKnown one → OptKnown other → OptKnown (option_or one other)
or_known None other h k = k
or_known (Some kind) other h k = h

reach_known : (constants : Bool) (kind : Option Kind) → OptKnown kind
    → OptKnown (in_reach constants kind)
reach_known true None h = tt
reach_known true (Some (Config base)) h = tt
reach_known true (Some (Constant base)) h = tt
reach_known true (Some (Region shape)) h = h
reach_known true (Some (Direction rank)) h = h
reach_known true (Some (Scalar base)) h = tt
reach_known true (Some (Array base shape)) h = tt
reach_known true (Some (Procedure signature)) h = tt
reach_known false kind h = h

pub kind_known : (scope : Scope) (name : Name)
    → AllByRecursion (λ entry. IsKnownKind entry.kind) scope.own
    → AllByRecursion (λ entry. IsKnownKind entry.kind) scope.globals → OptKnown (kind_of scope name)
kind_known scope name own globals =
    reach_known scope.constants (option_or (kind_in scope.own name.text)
    (kind_in scope.globals name.text))
    (or_known (kind_in scope.own name.text) (kind_in scope.globals name.text)
    (in_known scope.own name.text own) (in_known scope.globals name.text globals))

pub few_parts : (parts : Exprs) → fourth_part parts ≡ [] → IsSome (at_most_three (exprs_count parts))
few_parts NoExpr h = refl
few_parts (ThenExpr one NoExpr) h = refl
few_parts (ThenExpr one (ThenExpr two NoExpr)) h = refl
few_parts (ThenExpr one (ThenExpr two (ThenExpr three NoExpr))) h = refl
few_parts (ThenExpr one (ThenExpr two (ThenExpr three (ThenExpr four rest)))) h = cc
