-- The faults of a program, each with the offset of its place, and the programs that have none.
use Rattle.std.specs.Prelude.{◌≡◌, ℕ, ◌<◌, Bool, true, false, not, List, [], ◌++◌, map, flat_map, Option, Some, None, IsSome, Contains, ◌⊎◌}
use Rattle.zpl_tree.specs.Syntax.{Program}
use Rattle.zpl_tree.specs.Syntax as plain
use Rattle.zpl_names.specs.Ranks.{inner_rank}
use Rattle.zpl_names.specs.Shapes.{Shapes}
use Rattle.zpl_names.specs.Declared.{globals_of, Routine, entry_of}
use Rattle.zpl_names.specs.Sites.{Site, AtWhole, AtExpr, AtRegion, AtStmt, whole_rank, text_sites}
use Rattle.zpl_names.specs.Faults.{at_if, unknown_names, repeated, twice_named, unknown_types, type_clashes, rank_clashes, no_regions, flood_clashes, shatter_bodies, not_assignable, arguments, return_places, call_places, mask_places, masked_statements, border_forms, unknown_ranks}
use Rattle.zpl_names.specs.Reached.{IsClosed, IsHeight, IsReachedFault, IsRecursion, IsDeepCall, longest_chain, sites_at}
use Rattle.zpl_names.specs.Expansion.{expanded_statements, expanded_nodes}

pub data FaultKind : Type 0 where
  UnknownName : FaultKind
  TwiceNamed : FaultKind
  UnknownType : FaultKind
  TypeClash : FaultKind
  RankClash : FaultKind
  NoRegion : FaultKind
  FloodClash : FaultKind
  ShatterBody : FaultKind
  NotAssignable : FaultKind
  Arguments : FaultKind
  Recursion : FaultKind
  ReturnPlace : FaultKind
  CallPlace : FaultKind
  MaskPlace : FaultKind
  BorderForm : FaultKind
  NoEntry : FaultKind
  RankUnknown : FaultKind
  DeepCalls : FaultKind

-- the places of a fault in the whole text
abbrev pub in_text : (Site → List ℕ) → Program → List ℕ
in_text fault program = flat_map fault (text_sites program)

-- global names that stand for a second thing, and own names of procedures that do
abbrev pub names_twice : Program → List ℕ
names_twice program =
    repeated [] (map (λ entry. entry.name) (globals_of program)) ++ in_text twice_named program

-- NoEntry: no procedure has the program's name, or it has parameters or a result; at the program's
-- name
abbrev pub is_entry : Option Routine → Bool
is_entry None = false
is_entry (Some routine) = is_bare routine.procedure.params routine.procedure.result
  where
    is_bare : List plain.Param → Option plain.Base → Bool
    is_bare [] None = true
    is_bare params result = false

abbrev pub no_entry : Program → List ℕ
no_entry program = at_if (not (is_entry (entry_of program))) program.name.at

-- A fault about the current region counts where some chain of calls that begins at the entry
-- procedure meets it. What stands outside statements has no such region: there the text decides.
abbrev pub HasFault : Program → FaultKind → ℕ → Type 0
HasFault program UnknownName at = Contains (in_text unknown_names program) at
HasFault program TwiceNamed at = Contains (names_twice program) at
HasFault program UnknownType at = Contains (in_text unknown_types program) at
HasFault program TypeClash at = Contains (in_text type_clashes program) at
HasFault program RankClash at = Contains (in_text rank_clashes program) at
HasFault program NoRegion at =
    Contains (in_text no_regions program) at ⊎ IsReachedFault program no_regions at
HasFault program FloodClash at = IsReachedFault program flood_clashes at
HasFault program ShatterBody at = Contains (in_text shatter_bodies program) at
HasFault program NotAssignable at = Contains (in_text not_assignable program) at
HasFault program Arguments at = Contains (in_text arguments program) at
HasFault program Recursion at = IsRecursion program at
HasFault program ReturnPlace at = Contains (in_text return_places program) at
HasFault program CallPlace at = Contains (in_text call_places program) at
HasFault program MaskPlace at =
    Contains (in_text mask_places program) at ⊎ IsReachedFault program masked_statements at
HasFault program BorderForm at = Contains (in_text border_forms program) at
HasFault program NoEntry at = Contains (no_entry program) at
HasFault program RankUnknown at = Contains (in_text unknown_ranks program) at
HasFault program DeepCalls at = IsDeepCall program at

-- No fault holds at any place.
abbrev pub IsFaultless : Program → Type 0
IsFaultless program = (kind : FaultKind) (at : ℕ) → ¬ HasFault program kind at

-- ---- all faults of a site

abbrev pub tagged : FaultKind → List ℕ → List (FaultKind × ℕ)
tagged kind places = map (λ at. (kind, at)) places

-- those that the text alone tells
abbrev pub site_faults : Site → List (FaultKind × ℕ)
site_faults site =
    tagged UnknownName (unknown_names site) ++
    tagged TwiceNamed (twice_named site) ++
    tagged UnknownType (unknown_types site) ++
    tagged TypeClash (type_clashes site) ++
    tagged RankClash (rank_clashes site) ++
    tagged NoRegion (no_regions site) ++
    tagged ShatterBody (shatter_bodies site) ++
    tagged NotAssignable (not_assignable site) ++
    tagged Arguments (arguments site) ++
    tagged ReturnPlace (return_places site) ++
    tagged CallPlace (call_places site) ++
    tagged MaskPlace (mask_places site) ++
    tagged BorderForm (border_forms site) ++
    tagged RankUnknown (unknown_ranks site)

-- those that speak of the current regions
abbrev pub region_faults : Site → List (FaultKind × ℕ)
region_faults site =
    tagged NoRegion (no_regions site) ++
    tagged FloodClash (flood_clashes site) ++
    tagged MaskPlace (masked_statements site)

-- What shows that a program has no fault: no site of its text has one; none has one under any pair
-- of a list that is closed under calls; and numbers that fall with each call.
pub record IsClean (program : Program) (pairs : List (List ℕ × Shapes)) (height : List ℕ → ℕ) : Type
    0 where
  pub text : flat_map site_faults (text_sites program) ≡ []
  pub once : repeated [] (map (λ entry. entry.name) (globals_of program)) ≡ []
  pub entered : no_entry program ≡ []
  pub closed : IsClosed program pairs
  pub under : (text : List ℕ) (shapes : Shapes) → Contains pairs (text, shapes) →
      flat_map region_faults (sites_at program text shapes) ≡ []
  pub falling : IsHeight program height
  pub short : height program.name.text < longest_chain

-- Of a site, no fault that the text alone tells holds.
pub record HasNoFault (site : Site) : Type 0 where
  pub known : unknown_names site ≡ []
  pub once : twice_named site ≡ []
  pub typed : unknown_types site ≡ []
  pub types : type_clashes site ≡ []
  pub ranks : rank_clashes site ≡ []
  pub shattered : shatter_bodies site ≡ []
  pub assignable : not_assignable site ≡ []
  pub fitting : arguments site ≡ []
  pub returns : return_places site ≡ []
  pub calls : call_places site ≡ []
  pub masks : mask_places site ≡ []
  pub borders : border_forms site ≡ []
  pub ranked : unknown_ranks site ≡ []

-- And under the current regions that it stands under, no fault that speaks of them.
pub record HasNoFaultUnder (site : Site) : Type 0 where
  pub regions : no_regions site ≡ []
  pub floods : flood_clashes site ≡ []
  pub unmasked : masked_statements site ≡ []

-- The rank that a site is about isn't left open.
abbrev pub HasKnownRank : Site → Type 0
HasKnownRank (AtWhole reach role expr) = IsSome (whole_rank reach role expr)
HasKnownRank (AtExpr reach rank expr) = IsSome rank
HasKnownRank (AtRegion reach hint region) =
    IsSome (inner_rank reach.scope hint reach.prefix region)
HasKnownRank (AtStmt reach at prefixes form) = IsSome reach.prefix
HasKnownRank site = Unit {0}

-- ---- what is too much to compile

-- the statements of the program with its calls expanded
abbrev pub most_statements : ℕ
most_statements = 20000

abbrev pub HasTooManyStatements : Program → Type 0
HasTooManyStatements program = most_statements < expanded_statements program

-- and the nodes of their expressions
abbrev pub most_nodes : ℕ
most_nodes = 200000

abbrev pub HasTooManyNodes : Program → Type 0
HasTooManyNodes program = most_nodes < expanded_nodes program
