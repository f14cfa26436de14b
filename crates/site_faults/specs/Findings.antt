-- What a walk over sites finds: the first fault in the text, and the calls.
use Rattle.std.specs.Prelude.{ℕ, ◌+◌, ◌*◌, Bool, true, false, nat_lt, if◌then◌else◌, fold, List, [], ◌∷◌, ◌++◌, Option, Some, None}
use Rattle.name_kinds.specs.of_zpl_names.Sites.{Site, CallSite, call_of}
use Rattle.name_kinds.specs.of_zpl_names.Faults.{unknown_names, twice_named, unknown_types, type_clashes, rank_clashes, no_regions, flood_clashes, shatter_bodies, not_assignable, arguments, return_places, call_places, mask_places, masked_statements, border_forms, unknown_ranks}
use Rattle.name_kinds.specs.of_zpl_names.Accepted as kind
use Rattle.name_kinds.specs.of_zpl_names.Accepted.{FaultKind}

-- ---- of two faults the first

-- how the kinds are told apart where two stand at one place
abbrev pub number_of : FaultKind → ℕ
number_of kind.UnknownName = 0
number_of kind.TwiceNamed = 1
number_of kind.UnknownType = 2
number_of kind.TypeClash = 3
number_of kind.RankClash = 4
number_of kind.NoRegion = 5
number_of kind.FloodClash = 6
number_of kind.ShatterBody = 7
number_of kind.NotAssignable = 8
number_of kind.Arguments = 9
number_of kind.Recursion = 10
number_of kind.ReturnPlace = 11
number_of kind.CallPlace = 12
number_of kind.MaskPlace = 13
number_of kind.BorderForm = 14
number_of kind.NoEntry = 15
number_of kind.RankUnknown = 16
number_of kind.DeepCalls = 17

abbrev pub Found : Type 0
Found = FaultKind × ℕ

-- by the place, and at one place by the kind
abbrev pub order_of : Found → ℕ
order_of found = found.1 * 18 + number_of found.0

abbrev pub earlier_of : Found → Found → Found
earlier_of old new = if nat_lt (order_of new) (order_of old) then new else old

abbrev pub kept : Option Found → Found → Option Found
kept None new = Some new
kept (Some old) new = Some (earlier_of old new)

-- ---- what is found so far

pub record State : Type 0 where
  pub fault : Option Found
  pub calls : List CallSite
  -- the current regions are those that some chain of calls gives
  pub reached : Bool

-- a fault at these places
abbrev pub told : FaultKind → Option Found → List ℕ → Option Found
told kind fault places = fold (λ fault at. kept fault (kind, at)) fault places

unfoldable pub tells : FaultKind → List ℕ → State → State
tells kind places state = record state { fault = told kind state.fault places }

-- the places of a fault that is told under chains of calls alone
abbrev pub where_reached : Bool → List ℕ → List ℕ
where_reached reached [] = []
where_reached true (at ∷ places) = at ∷ places
where_reached false (at ∷ places) = []

abbrev pub with_call : Option CallSite → State → State
with_call None state = state
with_call (Some call) state = record state { calls = state.calls ++ call ∷ [] }

-- a site's faults that the text tells
unfoldable pub text_told : Site → State → State
text_told site state =
    tells kind.RankUnknown (unknown_ranks site)
    (tells kind.BorderForm (border_forms site)
    (tells kind.MaskPlace (mask_places site)
    (tells kind.CallPlace (call_places site)
    (tells kind.ReturnPlace (return_places site)
    (tells kind.Arguments (arguments site)
    (tells kind.NotAssignable (not_assignable site)
    (tells kind.ShatterBody (shatter_bodies site)
    (tells kind.NoRegion (no_regions site)
    (tells kind.RankClash (rank_clashes site)
    (tells kind.TypeClash (type_clashes site)
    (tells kind.UnknownType (unknown_types site)
    (tells kind.TwiceNamed (twice_named site)
    (tells kind.UnknownName (unknown_names site) state)))))))))))))

-- and those that are told under chains of calls
unfoldable pub region_told : Site → State → State
region_told site state =
    tells kind.MaskPlace (where_reached state.reached (masked_statements site))
    (tells kind.FloodClash (where_reached state.reached (flood_clashes site)) state)

-- one more site
unfoldable pub after : State → Site → State
after state site = with_call (call_of site) (region_told site (text_told site state))

abbrev pub walked : State → List Site → State
walked state sites = fold after state sites
