-- The faults of a program, by its sites.
use Rattle.std.proofs.Common.{◌≡◌, ℕ, inl, inr, List, [], ◌∷◌, ◌++◌, map, Contains, ap, subst}
use Rattle.std.specs.List.{flat_map}
use Rattle.zpl_tree.specs.Syntax.{Program}
use Rattle.zpl_names.specs.Shapes.{Shapes}
use Rattle.zpl_names.specs.Declared.{globals_of}
use Rattle.zpl_names.specs.Sites.{Site, text_sites}
use Rattle.zpl_names.specs.Faults.{repeated, unknown_names, twice_named, unknown_types, type_clashes, rank_clashes, no_regions, shatter_bodies, not_assignable, arguments, return_places, call_places, mask_places, border_forms, unknown_ranks, flood_clashes, masked_statements}
use Rattle.zpl_names.specs.Reached.{IsReached, IsReachedFault, sites_at}
use Rattle.zpl_names.specs.Accepted.{FaultKind, UnknownName, TwiceNamed, UnknownType, TypeClash, RankClash, NoRegion, FloodClash, ShatterBody, NotAssignable, Arguments, Recursion, ReturnPlace, CallPlace, MaskPlace, BorderForm, NoEntry, RankUnknown, DeepCalls, in_text, names_twice, no_entry, HasFault, IsFaultless, tagged, site_faults, region_faults, IsClean}
use Rattle.zpl_names.proofs.ListLemmas.{Among, among_from_Contains, Contains-from_among}
use Rattle.zpl_names.proofs.FaultlessLemmas.{flat_among, flat_parts, split, left-among, right-among, twice-in}
use Rattle.zpl_names.proofs.ReachedLemmas.{closed-has, no_recursion, no_deep_call}

-- ---- tagged places

tagged-parts : (kind : FaultKind) (places : List ℕ) (found : FaultKind) (at : ℕ) →
    Among (tagged kind places) (found, at) →
    (kind ≡ found) × Among places at
tagged-parts kind [] found at m = absurd m
tagged-parts kind (place ∷ places) found at (inl e) =
    (ap (λ pair. pair.0) e, inl (ap (λ pair. pair.1) e))
tagged-parts kind (place ∷ places) found at (inr m) =
    let parts = tagged-parts kind places found at m in (parts.0, inr parts.1)

among-tagged : (kind : FaultKind) (places : List ℕ) (at : ℕ) → Among places at →
    Among (tagged kind places) (kind, at)
among-tagged kind [] at m = absurd m
among-tagged kind (place ∷ places) at (inl e) = inl (ap (λ at. (kind, at)) e)
among-tagged kind (place ∷ places) at (inr m) = inr (among-tagged kind places at m)

-- a place of a fault at a site of a list is one of the list's
placed-among : (fault : Site → List ℕ) (sites : List Site) (site : Site) (at : ℕ) →
    Among sites site → Among (fault site) at →
    Contains (flat_map fault sites) at
placed-among fault sites site at m n =
    Contains-from_among (flat_map fault sites) at (flat_among fault sites site at m n)

-- a fault of one kind that is told as another, which it is
as_kind : (program : Program) (kind found : FaultKind) (at : ℕ) → kind ≡ found →
    HasFault program kind at → HasFault program found at
as_kind program kind found at e h =
    let P : FaultKind → Type 0 = λ kind. HasFault program kind at in subst P e h

-- ---- a fault of a site is one of the program

text-fault : (program : Program) (site : Site) (found : FaultKind) (at : ℕ) →
    Among (text_sites program) site →
    Among (site_faults site) (found, at) → HasFault program found at
text-fault program site found at m n = step_14 n
  where
    is_1 : Among (tagged UnknownName (unknown_names site)) (found, at) → HasFault program found at
    is_1 n = let h = tagged-parts UnknownName (unknown_names site) found at n in
        as_kind program UnknownName found at h.0
        (placed-among unknown_names (text_sites program) site at m h.1)

    is_2 : Among (tagged TwiceNamed (twice_named site)) (found, at) → HasFault program found at
    is_2 n = let h = tagged-parts TwiceNamed (twice_named site) found at n in
        as_kind program TwiceNamed found at h.0
        (twice-in program at (placed-among twice_named (text_sites program) site at m h.1))

    is_3 : Among (tagged UnknownType (unknown_types site)) (found, at) → HasFault program found at
    is_3 n = let h = tagged-parts UnknownType (unknown_types site) found at n in
        as_kind program UnknownType found at h.0
        (placed-among unknown_types (text_sites program) site at m h.1)

    is_4 : Among (tagged TypeClash (type_clashes site)) (found, at) → HasFault program found at
    is_4 n = let h = tagged-parts TypeClash (type_clashes site) found at n in
        as_kind program TypeClash found at h.0
        (placed-among type_clashes (text_sites program) site at m h.1)

    is_5 : Among (tagged RankClash (rank_clashes site)) (found, at) → HasFault program found at
    is_5 n = let h = tagged-parts RankClash (rank_clashes site) found at n in
        as_kind program RankClash found at h.0
        (placed-among rank_clashes (text_sites program) site at m h.1)

    is_6 : Among (tagged NoRegion (no_regions site)) (found, at) → HasFault program found at
    is_6 n = let h = tagged-parts NoRegion (no_regions site) found at n in
        as_kind program NoRegion found at h.0
        (inl (placed-among no_regions (text_sites program) site at m h.1))

    is_7 : Among (tagged ShatterBody (shatter_bodies site)) (found, at) → HasFault program found at
    is_7 n = let h = tagged-parts ShatterBody (shatter_bodies site) found at n in
        as_kind program ShatterBody found at h.0
        (placed-among shatter_bodies (text_sites program) site at m h.1)

    is_8 : Among (tagged NotAssignable (not_assignable site)) (found, at) →
        HasFault program found at
    is_8 n = let h = tagged-parts NotAssignable (not_assignable site) found at n in
        as_kind program NotAssignable found at h.0
        (placed-among not_assignable (text_sites program) site at m h.1)

    is_9 : Among (tagged Arguments (arguments site)) (found, at) → HasFault program found at
    is_9 n = let h = tagged-parts Arguments (arguments site) found at n in
        as_kind program Arguments found at h.0
        (placed-among arguments (text_sites program) site at m h.1)

    is_10 : Among (tagged ReturnPlace (return_places site)) (found, at) → HasFault program found at
    is_10 n = let h = tagged-parts ReturnPlace (return_places site) found at n in
        as_kind program ReturnPlace found at h.0
        (placed-among return_places (text_sites program) site at m h.1)

    is_11 : Among (tagged CallPlace (call_places site)) (found, at) → HasFault program found at
    is_11 n = let h = tagged-parts CallPlace (call_places site) found at n in
        as_kind program CallPlace found at h.0
        (placed-among call_places (text_sites program) site at m h.1)

    is_12 : Among (tagged MaskPlace (mask_places site)) (found, at) → HasFault program found at
    is_12 n = let h = tagged-parts MaskPlace (mask_places site) found at n in
        as_kind program MaskPlace found at h.0
        (inl (placed-among mask_places (text_sites program) site at m h.1))

    is_13 : Among (tagged BorderForm (border_forms site)) (found, at) → HasFault program found at
    is_13 n = let h = tagged-parts BorderForm (border_forms site) found at n in
        as_kind program BorderForm found at h.0
        (placed-among border_forms (text_sites program) site at m h.1)

    is_14 : Among (tagged RankUnknown (unknown_ranks site)) (found, at) → HasFault program found at
    is_14 n = let h = tagged-parts RankUnknown (unknown_ranks site) found at n in
        as_kind program RankUnknown found at h.0
        (placed-among unknown_ranks (text_sites program) site at m h.1)

    step_1 : Among (tagged UnknownName (unknown_names site)) (found, at) → HasFault program found at
    step_1 n = is_1 n

    step_2 : Among (tagged UnknownName (unknown_names site) ++ tagged TwiceNamed (twice_named site))
        (found, at) → HasFault program found at
    step_2 n =
        elim (split (tagged UnknownName (unknown_names site)) (tagged TwiceNamed (twice_named site))
        (found, at) n) [ inl h ↦ step_1 h | inr h ↦ is_2 h ]

    step_3 : Among (tagged UnknownName (unknown_names site) ++
        tagged TwiceNamed (twice_named site) ++ tagged UnknownType (unknown_types site)) (found, at)
        → HasFault program found at
    step_3 n =
        elim
        (split (tagged UnknownName (unknown_names site) ++ tagged TwiceNamed (twice_named site))
        (tagged UnknownType (unknown_types site)) (found, at) n)
        [ inl h ↦ step_2 h | inr h ↦ is_3 h ]

    step_4 : Among (tagged UnknownName (unknown_names site) ++
        tagged TwiceNamed (twice_named site) ++ tagged UnknownType (unknown_types site) ++
        tagged TypeClash (type_clashes site)) (found, at) → HasFault program found at
    step_4 n =
        elim
        (split (tagged UnknownName (unknown_names site) ++ tagged TwiceNamed (twice_named site) ++
        tagged UnknownType (unknown_types site)) (tagged TypeClash (type_clashes site)) (found, at)
        n) [ inl h ↦ step_3 h | inr h ↦ is_4 h ]

    step_5 : Among (tagged UnknownName (unknown_names site) ++
        tagged TwiceNamed (twice_named site) ++ tagged UnknownType (unknown_types site) ++
        tagged TypeClash (type_clashes site) ++ tagged RankClash (rank_clashes site)) (found, at) →
        HasFault program found at
    step_5 n =
        elim
        (split (tagged UnknownName (unknown_names site) ++ tagged TwiceNamed (twice_named site) ++
        tagged UnknownType (unknown_types site) ++ tagged TypeClash (type_clashes site))
        (tagged RankClash (rank_clashes site)) (found, at) n) [ inl h ↦ step_4 h | inr h ↦ is_5 h ]

    step_6 : Among (tagged UnknownName (unknown_names site) ++
        tagged TwiceNamed (twice_named site) ++ tagged UnknownType (unknown_types site) ++
        tagged TypeClash (type_clashes site) ++ tagged RankClash (rank_clashes site) ++
        tagged NoRegion (no_regions site)) (found, at) → HasFault program found at
    step_6 n =
        elim
        (split (tagged UnknownName (unknown_names site) ++ tagged TwiceNamed (twice_named site) ++
        tagged UnknownType (unknown_types site) ++ tagged TypeClash (type_clashes site) ++
        tagged RankClash (rank_clashes site)) (tagged NoRegion (no_regions site)) (found, at) n)
        [ inl h ↦ step_5 h | inr h ↦ is_6 h ]

    step_7 : Among (tagged UnknownName (unknown_names site) ++
        tagged TwiceNamed (twice_named site) ++ tagged UnknownType (unknown_types site) ++
        tagged TypeClash (type_clashes site) ++ tagged RankClash (rank_clashes site) ++
        tagged NoRegion (no_regions site) ++ tagged ShatterBody (shatter_bodies site)) (found, at) →
        HasFault program found at
    step_7 n =
        elim
        (split (tagged UnknownName (unknown_names site) ++ tagged TwiceNamed (twice_named site) ++
        tagged UnknownType (unknown_types site) ++ tagged TypeClash (type_clashes site) ++
        tagged RankClash (rank_clashes site) ++ tagged NoRegion (no_regions site))
        (tagged ShatterBody (shatter_bodies site)) (found, at) n)
        [ inl h ↦ step_6 h | inr h ↦ is_7 h ]

    step_8 : Among (tagged UnknownName (unknown_names site) ++
        tagged TwiceNamed (twice_named site) ++ tagged UnknownType (unknown_types site) ++
        tagged TypeClash (type_clashes site) ++ tagged RankClash (rank_clashes site) ++
        tagged NoRegion (no_regions site) ++ tagged ShatterBody (shatter_bodies site) ++
        tagged NotAssignable (not_assignable site)) (found, at) → HasFault program found at
    step_8 n =
        elim
        (split (tagged UnknownName (unknown_names site) ++ tagged TwiceNamed (twice_named site) ++
        tagged UnknownType (unknown_types site) ++ tagged TypeClash (type_clashes site) ++
        tagged RankClash (rank_clashes site) ++ tagged NoRegion (no_regions site) ++
        tagged ShatterBody (shatter_bodies site)) (tagged NotAssignable (not_assignable site))
        (found, at) n) [ inl h ↦ step_7 h | inr h ↦ is_8 h ]

    step_9 : Among (tagged UnknownName (unknown_names site) ++
        tagged TwiceNamed (twice_named site) ++ tagged UnknownType (unknown_types site) ++
        tagged TypeClash (type_clashes site) ++ tagged RankClash (rank_clashes site) ++
        tagged NoRegion (no_regions site) ++ tagged ShatterBody (shatter_bodies site) ++
        tagged NotAssignable (not_assignable site) ++ tagged Arguments (arguments site)) (found, at)
        → HasFault program found at
    step_9 n =
        elim
        (split (tagged UnknownName (unknown_names site) ++ tagged TwiceNamed (twice_named site) ++
        tagged UnknownType (unknown_types site) ++ tagged TypeClash (type_clashes site) ++
        tagged RankClash (rank_clashes site) ++ tagged NoRegion (no_regions site) ++
        tagged ShatterBody (shatter_bodies site) ++ tagged NotAssignable (not_assignable site))
        (tagged Arguments (arguments site)) (found, at) n) [ inl h ↦ step_8 h | inr h ↦ is_9 h ]

    step_10 : Among (tagged UnknownName (unknown_names site) ++
        tagged TwiceNamed (twice_named site) ++ tagged UnknownType (unknown_types site) ++
        tagged TypeClash (type_clashes site) ++ tagged RankClash (rank_clashes site) ++
        tagged NoRegion (no_regions site) ++ tagged ShatterBody (shatter_bodies site) ++
        tagged NotAssignable (not_assignable site) ++ tagged Arguments (arguments site) ++
        tagged ReturnPlace (return_places site)) (found, at) → HasFault program found at
    step_10 n =
        elim
        (split (tagged UnknownName (unknown_names site) ++ tagged TwiceNamed (twice_named site) ++
        tagged UnknownType (unknown_types site) ++ tagged TypeClash (type_clashes site) ++
        tagged RankClash (rank_clashes site) ++ tagged NoRegion (no_regions site) ++
        tagged ShatterBody (shatter_bodies site) ++ tagged NotAssignable (not_assignable site) ++
        tagged Arguments (arguments site)) (tagged ReturnPlace (return_places site)) (found, at) n)
        [ inl h ↦ step_9 h | inr h ↦ is_10 h ]

    step_11 : Among (tagged UnknownName (unknown_names site) ++
        tagged TwiceNamed (twice_named site) ++ tagged UnknownType (unknown_types site) ++
        tagged TypeClash (type_clashes site) ++ tagged RankClash (rank_clashes site) ++
        tagged NoRegion (no_regions site) ++ tagged ShatterBody (shatter_bodies site) ++
        tagged NotAssignable (not_assignable site) ++ tagged Arguments (arguments site) ++
        tagged ReturnPlace (return_places site) ++ tagged CallPlace (call_places site)) (found, at)
        → HasFault program found at
    step_11 n =
        elim
        (split (tagged UnknownName (unknown_names site) ++ tagged TwiceNamed (twice_named site) ++
        tagged UnknownType (unknown_types site) ++ tagged TypeClash (type_clashes site) ++
        tagged RankClash (rank_clashes site) ++ tagged NoRegion (no_regions site) ++
        tagged ShatterBody (shatter_bodies site) ++ tagged NotAssignable (not_assignable site) ++
        tagged Arguments (arguments site) ++ tagged ReturnPlace (return_places site))
        (tagged CallPlace (call_places site)) (found, at) n) [ inl h ↦ step_10 h | inr h ↦ is_11 h ]

    step_12 : Among (tagged UnknownName (unknown_names site) ++
        tagged TwiceNamed (twice_named site) ++ tagged UnknownType (unknown_types site) ++
        tagged TypeClash (type_clashes site) ++ tagged RankClash (rank_clashes site) ++
        tagged NoRegion (no_regions site) ++ tagged ShatterBody (shatter_bodies site) ++
        tagged NotAssignable (not_assignable site) ++ tagged Arguments (arguments site) ++
        tagged ReturnPlace (return_places site) ++ tagged CallPlace (call_places site) ++
        tagged MaskPlace (mask_places site)) (found, at) → HasFault program found at
    step_12 n =
        elim
        (split (tagged UnknownName (unknown_names site) ++ tagged TwiceNamed (twice_named site) ++
        tagged UnknownType (unknown_types site) ++ tagged TypeClash (type_clashes site) ++
        tagged RankClash (rank_clashes site) ++ tagged NoRegion (no_regions site) ++
        tagged ShatterBody (shatter_bodies site) ++ tagged NotAssignable (not_assignable site) ++
        tagged Arguments (arguments site) ++ tagged ReturnPlace (return_places site) ++
        tagged CallPlace (call_places site)) (tagged MaskPlace (mask_places site)) (found, at) n)
        [ inl h ↦ step_11 h | inr h ↦ is_12 h ]

    step_13 : Among (tagged UnknownName (unknown_names site) ++
        tagged TwiceNamed (twice_named site) ++ tagged UnknownType (unknown_types site) ++
        tagged TypeClash (type_clashes site) ++ tagged RankClash (rank_clashes site) ++
        tagged NoRegion (no_regions site) ++ tagged ShatterBody (shatter_bodies site) ++
        tagged NotAssignable (not_assignable site) ++ tagged Arguments (arguments site) ++
        tagged ReturnPlace (return_places site) ++ tagged CallPlace (call_places site) ++
        tagged MaskPlace (mask_places site) ++ tagged BorderForm (border_forms site)) (found, at) →
        HasFault program found at
    step_13 n =
        elim
        (split (tagged UnknownName (unknown_names site) ++ tagged TwiceNamed (twice_named site) ++
        tagged UnknownType (unknown_types site) ++ tagged TypeClash (type_clashes site) ++
        tagged RankClash (rank_clashes site) ++ tagged NoRegion (no_regions site) ++
        tagged ShatterBody (shatter_bodies site) ++ tagged NotAssignable (not_assignable site) ++
        tagged Arguments (arguments site) ++ tagged ReturnPlace (return_places site) ++
        tagged CallPlace (call_places site) ++ tagged MaskPlace (mask_places site))
        (tagged BorderForm (border_forms site)) (found, at) n)
        [ inl h ↦ step_12 h | inr h ↦ is_13 h ]

    step_14 : Among (tagged UnknownName (unknown_names site) ++
        tagged TwiceNamed (twice_named site) ++ tagged UnknownType (unknown_types site) ++
        tagged TypeClash (type_clashes site) ++ tagged RankClash (rank_clashes site) ++
        tagged NoRegion (no_regions site) ++ tagged ShatterBody (shatter_bodies site) ++
        tagged NotAssignable (not_assignable site) ++ tagged Arguments (arguments site) ++
        tagged ReturnPlace (return_places site) ++ tagged CallPlace (call_places site) ++
        tagged MaskPlace (mask_places site) ++ tagged BorderForm (border_forms site) ++
        tagged RankUnknown (unknown_ranks site)) (found, at) → HasFault program found at
    step_14 n =
        elim
        (split (tagged UnknownName (unknown_names site) ++ tagged TwiceNamed (twice_named site) ++
        tagged UnknownType (unknown_types site) ++ tagged TypeClash (type_clashes site) ++
        tagged RankClash (rank_clashes site) ++ tagged NoRegion (no_regions site) ++
        tagged ShatterBody (shatter_bodies site) ++ tagged NotAssignable (not_assignable site) ++
        tagged Arguments (arguments site) ++ tagged ReturnPlace (return_places site) ++
        tagged CallPlace (call_places site) ++ tagged MaskPlace (mask_places site) ++
        tagged BorderForm (border_forms site)) (tagged RankUnknown (unknown_ranks site)) (found, at)
        n) [ inl h ↦ step_13 h | inr h ↦ is_14 h ]

region-fault : (program : Program) (text : List ℕ) (shapes : Shapes) →
    IsReached program text shapes →
    (site : Site) (found : FaultKind) (at : ℕ) → Among (sites_at program text shapes) site →
    Among (region_faults site) (found, at) → HasFault program found at
region-fault program text shapes reached site found at m n = step_3 n
  where
    reached-fault : (fault : Site → List ℕ) → Among (fault site) at →
        IsReachedFault program fault at
    reached-fault fault h = record {
      text = text;
      shapes = shapes;
      reached = reached;
      there =
          placed-among fault (sites_at program text shapes) site at m h;
    }

    is_1 : Among (tagged NoRegion (no_regions site)) (found, at) → HasFault program found at
    is_1 n = let h = tagged-parts NoRegion (no_regions site) found at n in
        as_kind program NoRegion found at h.0 (inr (reached-fault no_regions h.1))

    is_2 : Among (tagged FloodClash (flood_clashes site)) (found, at) → HasFault program found at
    is_2 n = let h = tagged-parts FloodClash (flood_clashes site) found at n in
        as_kind program FloodClash found at h.0 (reached-fault flood_clashes h.1)

    is_3 : Among (tagged MaskPlace (masked_statements site)) (found, at) → HasFault program found at
    is_3 n = let h = tagged-parts MaskPlace (masked_statements site) found at n in
        as_kind program MaskPlace found at h.0 (inr (reached-fault masked_statements h.1))

    step_2 : Among (tagged NoRegion (no_regions site) ++ tagged FloodClash (flood_clashes site))
        (found, at) → HasFault program found at
    step_2 n =
        elim (split (tagged NoRegion (no_regions site)) (tagged FloodClash (flood_clashes site))
        (found, at) n) [ inl h ↦ is_1 h | inr h ↦ is_2 h ]

    step_3 : Among (tagged NoRegion (no_regions site) ++ tagged FloodClash (flood_clashes site) ++
        tagged MaskPlace (masked_statements site)) (found, at) → HasFault program found at
    step_3 n =
        elim (split (tagged NoRegion (no_regions site) ++ tagged FloodClash (flood_clashes site))
        (tagged MaskPlace (masked_statements site)) (found, at) n)
        [ inl h ↦ step_2 h | inr h ↦ is_3 h ]

pub text_has : (program : Program) (found : FaultKind) (at : ℕ) →
    Contains (flat_map site_faults (text_sites program)) (found, at) → HasFault program found at
text_has program found at c =
    let parts = flat_parts site_faults (text_sites program) (found, at)
    (among_from_Contains (flat_map site_faults (text_sites program)) (found, at) c) in
    text-fault program parts.0 found at parts.1 parts.2

pub region_has : (program : Program) (text : List ℕ) (shapes : Shapes) →
    IsReached program text shapes →
    (found : FaultKind) (at : ℕ) → Contains (flat_map region_faults (sites_at program text shapes))
    (found, at) → HasFault program found at
region_has program text shapes reached found at c =
    let parts = flat_parts region_faults (sites_at program text shapes) (found, at)
    (among_from_Contains (flat_map region_faults (sites_at program text shapes)) (found, at) c)
    in
    region-fault program text shapes reached parts.0 found at parts.1 parts.2

-- ---- a program whose sites have none

none-in : {A : Type 0} (xs : List A) (x : A) → xs ≡ [] → Among xs x → ⊥
none-in [] x e m = m
none-in (y ∷ ys) x e m = cc

text-unknown_names : (site : Site) (at : ℕ) → Among (unknown_names site) at →
    Among (site_faults site) (UnknownName, at)
text-unknown_names site at h = let m = among-tagged UnknownName (unknown_names site) at h in
    (left-among (tagged UnknownName (unknown_names site) ++ tagged TwiceNamed (twice_named site) ++
    tagged UnknownType (unknown_types site) ++ tagged TypeClash (type_clashes site) ++
    tagged RankClash (rank_clashes site) ++ tagged NoRegion (no_regions site) ++
    tagged ShatterBody (shatter_bodies site) ++ tagged NotAssignable (not_assignable site) ++
    tagged Arguments (arguments site) ++ tagged ReturnPlace (return_places site) ++
    tagged CallPlace (call_places site) ++ tagged MaskPlace (mask_places site) ++
    tagged BorderForm (border_forms site)) (tagged RankUnknown (unknown_ranks site))
    (UnknownName, at)
    (left-among (tagged UnknownName (unknown_names site) ++ tagged TwiceNamed (twice_named site) ++
    tagged UnknownType (unknown_types site) ++ tagged TypeClash (type_clashes site) ++
    tagged RankClash (rank_clashes site) ++ tagged NoRegion (no_regions site) ++
    tagged ShatterBody (shatter_bodies site) ++ tagged NotAssignable (not_assignable site) ++
    tagged Arguments (arguments site) ++ tagged ReturnPlace (return_places site) ++
    tagged CallPlace (call_places site) ++ tagged MaskPlace (mask_places site))
    (tagged BorderForm (border_forms site)) (UnknownName, at)
    (left-among (tagged UnknownName (unknown_names site) ++ tagged TwiceNamed (twice_named site) ++
    tagged UnknownType (unknown_types site) ++ tagged TypeClash (type_clashes site) ++
    tagged RankClash (rank_clashes site) ++ tagged NoRegion (no_regions site) ++
    tagged ShatterBody (shatter_bodies site) ++ tagged NotAssignable (not_assignable site) ++
    tagged Arguments (arguments site) ++ tagged ReturnPlace (return_places site) ++
    tagged CallPlace (call_places site)) (tagged MaskPlace (mask_places site)) (UnknownName, at)
    (left-among (tagged UnknownName (unknown_names site) ++ tagged TwiceNamed (twice_named site) ++
    tagged UnknownType (unknown_types site) ++ tagged TypeClash (type_clashes site) ++
    tagged RankClash (rank_clashes site) ++ tagged NoRegion (no_regions site) ++
    tagged ShatterBody (shatter_bodies site) ++ tagged NotAssignable (not_assignable site) ++
    tagged Arguments (arguments site) ++ tagged ReturnPlace (return_places site))
    (tagged CallPlace (call_places site)) (UnknownName, at)
    (left-among (tagged UnknownName (unknown_names site) ++ tagged TwiceNamed (twice_named site) ++
    tagged UnknownType (unknown_types site) ++ tagged TypeClash (type_clashes site) ++
    tagged RankClash (rank_clashes site) ++ tagged NoRegion (no_regions site) ++
    tagged ShatterBody (shatter_bodies site) ++ tagged NotAssignable (not_assignable site) ++
    tagged Arguments (arguments site)) (tagged ReturnPlace (return_places site)) (UnknownName, at)
    (left-among (tagged UnknownName (unknown_names site) ++ tagged TwiceNamed (twice_named site) ++
    tagged UnknownType (unknown_types site) ++ tagged TypeClash (type_clashes site) ++
    tagged RankClash (rank_clashes site) ++ tagged NoRegion (no_regions site) ++
    tagged ShatterBody (shatter_bodies site) ++ tagged NotAssignable (not_assignable site))
    (tagged Arguments (arguments site)) (UnknownName, at)
    (left-among (tagged UnknownName (unknown_names site) ++ tagged TwiceNamed (twice_named site) ++
    tagged UnknownType (unknown_types site) ++ tagged TypeClash (type_clashes site) ++
    tagged RankClash (rank_clashes site) ++ tagged NoRegion (no_regions site) ++
    tagged ShatterBody (shatter_bodies site)) (tagged NotAssignable (not_assignable site))
    (UnknownName, at)
    (left-among (tagged UnknownName (unknown_names site) ++ tagged TwiceNamed (twice_named site) ++
    tagged UnknownType (unknown_types site) ++ tagged TypeClash (type_clashes site) ++
    tagged RankClash (rank_clashes site) ++ tagged NoRegion (no_regions site))
    (tagged ShatterBody (shatter_bodies site)) (UnknownName, at)
    (left-among (tagged UnknownName (unknown_names site) ++ tagged TwiceNamed (twice_named site) ++
    tagged UnknownType (unknown_types site) ++ tagged TypeClash (type_clashes site) ++
    tagged RankClash (rank_clashes site)) (tagged NoRegion (no_regions site)) (UnknownName, at)
    (left-among (tagged UnknownName (unknown_names site) ++ tagged TwiceNamed (twice_named site) ++
    tagged UnknownType (unknown_types site) ++ tagged TypeClash (type_clashes site))
    (tagged RankClash (rank_clashes site)) (UnknownName, at)
    (left-among (tagged UnknownName (unknown_names site) ++ tagged TwiceNamed (twice_named site) ++
    tagged UnknownType (unknown_types site)) (tagged TypeClash (type_clashes site))
    (UnknownName, at)
    (left-among (tagged UnknownName (unknown_names site) ++ tagged TwiceNamed (twice_named site))
    (tagged UnknownType (unknown_types site)) (UnknownName, at)
    (left-among (tagged UnknownName (unknown_names site)) (tagged TwiceNamed (twice_named site))
    (UnknownName, at) m)))))))))))))

text-twice_named : (site : Site) (at : ℕ) → Among (twice_named site) at →
    Among (site_faults site) (TwiceNamed, at)
text-twice_named site at h = let m = among-tagged TwiceNamed (twice_named site) at h in
    (left-among (tagged UnknownName (unknown_names site) ++ tagged TwiceNamed (twice_named site) ++
    tagged UnknownType (unknown_types site) ++ tagged TypeClash (type_clashes site) ++
    tagged RankClash (rank_clashes site) ++ tagged NoRegion (no_regions site) ++
    tagged ShatterBody (shatter_bodies site) ++ tagged NotAssignable (not_assignable site) ++
    tagged Arguments (arguments site) ++ tagged ReturnPlace (return_places site) ++
    tagged CallPlace (call_places site) ++ tagged MaskPlace (mask_places site) ++
    tagged BorderForm (border_forms site)) (tagged RankUnknown (unknown_ranks site))
    (TwiceNamed, at)
    (left-among (tagged UnknownName (unknown_names site) ++ tagged TwiceNamed (twice_named site) ++
    tagged UnknownType (unknown_types site) ++ tagged TypeClash (type_clashes site) ++
    tagged RankClash (rank_clashes site) ++ tagged NoRegion (no_regions site) ++
    tagged ShatterBody (shatter_bodies site) ++ tagged NotAssignable (not_assignable site) ++
    tagged Arguments (arguments site) ++ tagged ReturnPlace (return_places site) ++
    tagged CallPlace (call_places site) ++ tagged MaskPlace (mask_places site))
    (tagged BorderForm (border_forms site)) (TwiceNamed, at)
    (left-among (tagged UnknownName (unknown_names site) ++ tagged TwiceNamed (twice_named site) ++
    tagged UnknownType (unknown_types site) ++ tagged TypeClash (type_clashes site) ++
    tagged RankClash (rank_clashes site) ++ tagged NoRegion (no_regions site) ++
    tagged ShatterBody (shatter_bodies site) ++ tagged NotAssignable (not_assignable site) ++
    tagged Arguments (arguments site) ++ tagged ReturnPlace (return_places site) ++
    tagged CallPlace (call_places site)) (tagged MaskPlace (mask_places site)) (TwiceNamed, at)
    (left-among (tagged UnknownName (unknown_names site) ++ tagged TwiceNamed (twice_named site) ++
    tagged UnknownType (unknown_types site) ++ tagged TypeClash (type_clashes site) ++
    tagged RankClash (rank_clashes site) ++ tagged NoRegion (no_regions site) ++
    tagged ShatterBody (shatter_bodies site) ++ tagged NotAssignable (not_assignable site) ++
    tagged Arguments (arguments site) ++ tagged ReturnPlace (return_places site))
    (tagged CallPlace (call_places site)) (TwiceNamed, at)
    (left-among (tagged UnknownName (unknown_names site) ++ tagged TwiceNamed (twice_named site) ++
    tagged UnknownType (unknown_types site) ++ tagged TypeClash (type_clashes site) ++
    tagged RankClash (rank_clashes site) ++ tagged NoRegion (no_regions site) ++
    tagged ShatterBody (shatter_bodies site) ++ tagged NotAssignable (not_assignable site) ++
    tagged Arguments (arguments site)) (tagged ReturnPlace (return_places site)) (TwiceNamed, at)
    (left-among (tagged UnknownName (unknown_names site) ++ tagged TwiceNamed (twice_named site) ++
    tagged UnknownType (unknown_types site) ++ tagged TypeClash (type_clashes site) ++
    tagged RankClash (rank_clashes site) ++ tagged NoRegion (no_regions site) ++
    tagged ShatterBody (shatter_bodies site) ++ tagged NotAssignable (not_assignable site))
    (tagged Arguments (arguments site)) (TwiceNamed, at)
    (left-among (tagged UnknownName (unknown_names site) ++ tagged TwiceNamed (twice_named site) ++
    tagged UnknownType (unknown_types site) ++ tagged TypeClash (type_clashes site) ++
    tagged RankClash (rank_clashes site) ++ tagged NoRegion (no_regions site) ++
    tagged ShatterBody (shatter_bodies site)) (tagged NotAssignable (not_assignable site))
    (TwiceNamed, at)
    (left-among (tagged UnknownName (unknown_names site) ++ tagged TwiceNamed (twice_named site) ++
    tagged UnknownType (unknown_types site) ++ tagged TypeClash (type_clashes site) ++
    tagged RankClash (rank_clashes site) ++ tagged NoRegion (no_regions site))
    (tagged ShatterBody (shatter_bodies site)) (TwiceNamed, at)
    (left-among (tagged UnknownName (unknown_names site) ++ tagged TwiceNamed (twice_named site) ++
    tagged UnknownType (unknown_types site) ++ tagged TypeClash (type_clashes site) ++
    tagged RankClash (rank_clashes site)) (tagged NoRegion (no_regions site)) (TwiceNamed, at)
    (left-among (tagged UnknownName (unknown_names site) ++ tagged TwiceNamed (twice_named site) ++
    tagged UnknownType (unknown_types site) ++ tagged TypeClash (type_clashes site))
    (tagged RankClash (rank_clashes site)) (TwiceNamed, at)
    (left-among (tagged UnknownName (unknown_names site) ++ tagged TwiceNamed (twice_named site) ++
    tagged UnknownType (unknown_types site)) (tagged TypeClash (type_clashes site)) (TwiceNamed, at)
    (left-among (tagged UnknownName (unknown_names site) ++ tagged TwiceNamed (twice_named site))
    (tagged UnknownType (unknown_types site)) (TwiceNamed, at)
    (right-among (tagged UnknownName (unknown_names site)) (tagged TwiceNamed (twice_named site))
    (TwiceNamed, at) m)))))))))))))

text-unknown_types : (site : Site) (at : ℕ) → Among (unknown_types site) at →
    Among (site_faults site) (UnknownType, at)
text-unknown_types site at h = let m = among-tagged UnknownType (unknown_types site) at h in
    (left-among (tagged UnknownName (unknown_names site) ++ tagged TwiceNamed (twice_named site) ++
    tagged UnknownType (unknown_types site) ++ tagged TypeClash (type_clashes site) ++
    tagged RankClash (rank_clashes site) ++ tagged NoRegion (no_regions site) ++
    tagged ShatterBody (shatter_bodies site) ++ tagged NotAssignable (not_assignable site) ++
    tagged Arguments (arguments site) ++ tagged ReturnPlace (return_places site) ++
    tagged CallPlace (call_places site) ++ tagged MaskPlace (mask_places site) ++
    tagged BorderForm (border_forms site)) (tagged RankUnknown (unknown_ranks site))
    (UnknownType, at)
    (left-among (tagged UnknownName (unknown_names site) ++ tagged TwiceNamed (twice_named site) ++
    tagged UnknownType (unknown_types site) ++ tagged TypeClash (type_clashes site) ++
    tagged RankClash (rank_clashes site) ++ tagged NoRegion (no_regions site) ++
    tagged ShatterBody (shatter_bodies site) ++ tagged NotAssignable (not_assignable site) ++
    tagged Arguments (arguments site) ++ tagged ReturnPlace (return_places site) ++
    tagged CallPlace (call_places site) ++ tagged MaskPlace (mask_places site))
    (tagged BorderForm (border_forms site)) (UnknownType, at)
    (left-among (tagged UnknownName (unknown_names site) ++ tagged TwiceNamed (twice_named site) ++
    tagged UnknownType (unknown_types site) ++ tagged TypeClash (type_clashes site) ++
    tagged RankClash (rank_clashes site) ++ tagged NoRegion (no_regions site) ++
    tagged ShatterBody (shatter_bodies site) ++ tagged NotAssignable (not_assignable site) ++
    tagged Arguments (arguments site) ++ tagged ReturnPlace (return_places site) ++
    tagged CallPlace (call_places site)) (tagged MaskPlace (mask_places site)) (UnknownType, at)
    (left-among (tagged UnknownName (unknown_names site) ++ tagged TwiceNamed (twice_named site) ++
    tagged UnknownType (unknown_types site) ++ tagged TypeClash (type_clashes site) ++
    tagged RankClash (rank_clashes site) ++ tagged NoRegion (no_regions site) ++
    tagged ShatterBody (shatter_bodies site) ++ tagged NotAssignable (not_assignable site) ++
    tagged Arguments (arguments site) ++ tagged ReturnPlace (return_places site))
    (tagged CallPlace (call_places site)) (UnknownType, at)
    (left-among (tagged UnknownName (unknown_names site) ++ tagged TwiceNamed (twice_named site) ++
    tagged UnknownType (unknown_types site) ++ tagged TypeClash (type_clashes site) ++
    tagged RankClash (rank_clashes site) ++ tagged NoRegion (no_regions site) ++
    tagged ShatterBody (shatter_bodies site) ++ tagged NotAssignable (not_assignable site) ++
    tagged Arguments (arguments site)) (tagged ReturnPlace (return_places site)) (UnknownType, at)
    (left-among (tagged UnknownName (unknown_names site) ++ tagged TwiceNamed (twice_named site) ++
    tagged UnknownType (unknown_types site) ++ tagged TypeClash (type_clashes site) ++
    tagged RankClash (rank_clashes site) ++ tagged NoRegion (no_regions site) ++
    tagged ShatterBody (shatter_bodies site) ++ tagged NotAssignable (not_assignable site))
    (tagged Arguments (arguments site)) (UnknownType, at)
    (left-among (tagged UnknownName (unknown_names site) ++ tagged TwiceNamed (twice_named site) ++
    tagged UnknownType (unknown_types site) ++ tagged TypeClash (type_clashes site) ++
    tagged RankClash (rank_clashes site) ++ tagged NoRegion (no_regions site) ++
    tagged ShatterBody (shatter_bodies site)) (tagged NotAssignable (not_assignable site))
    (UnknownType, at)
    (left-among (tagged UnknownName (unknown_names site) ++ tagged TwiceNamed (twice_named site) ++
    tagged UnknownType (unknown_types site) ++ tagged TypeClash (type_clashes site) ++
    tagged RankClash (rank_clashes site) ++ tagged NoRegion (no_regions site))
    (tagged ShatterBody (shatter_bodies site)) (UnknownType, at)
    (left-among (tagged UnknownName (unknown_names site) ++ tagged TwiceNamed (twice_named site) ++
    tagged UnknownType (unknown_types site) ++ tagged TypeClash (type_clashes site) ++
    tagged RankClash (rank_clashes site)) (tagged NoRegion (no_regions site)) (UnknownType, at)
    (left-among (tagged UnknownName (unknown_names site) ++ tagged TwiceNamed (twice_named site) ++
    tagged UnknownType (unknown_types site) ++ tagged TypeClash (type_clashes site))
    (tagged RankClash (rank_clashes site)) (UnknownType, at)
    (left-among (tagged UnknownName (unknown_names site) ++ tagged TwiceNamed (twice_named site) ++
    tagged UnknownType (unknown_types site)) (tagged TypeClash (type_clashes site))
    (UnknownType, at)
    (right-among (tagged UnknownName (unknown_names site) ++ tagged TwiceNamed (twice_named site))
    (tagged UnknownType (unknown_types site)) (UnknownType, at) m))))))))))))

text-type_clashes : (site : Site) (at : ℕ) → Among (type_clashes site) at →
    Among (site_faults site) (TypeClash, at)
text-type_clashes site at h = let m = among-tagged TypeClash (type_clashes site) at h in
    (left-among (tagged UnknownName (unknown_names site) ++ tagged TwiceNamed (twice_named site) ++
    tagged UnknownType (unknown_types site) ++ tagged TypeClash (type_clashes site) ++
    tagged RankClash (rank_clashes site) ++ tagged NoRegion (no_regions site) ++
    tagged ShatterBody (shatter_bodies site) ++ tagged NotAssignable (not_assignable site) ++
    tagged Arguments (arguments site) ++ tagged ReturnPlace (return_places site) ++
    tagged CallPlace (call_places site) ++ tagged MaskPlace (mask_places site) ++
    tagged BorderForm (border_forms site)) (tagged RankUnknown (unknown_ranks site)) (TypeClash, at)
    (left-among (tagged UnknownName (unknown_names site) ++ tagged TwiceNamed (twice_named site) ++
    tagged UnknownType (unknown_types site) ++ tagged TypeClash (type_clashes site) ++
    tagged RankClash (rank_clashes site) ++ tagged NoRegion (no_regions site) ++
    tagged ShatterBody (shatter_bodies site) ++ tagged NotAssignable (not_assignable site) ++
    tagged Arguments (arguments site) ++ tagged ReturnPlace (return_places site) ++
    tagged CallPlace (call_places site) ++ tagged MaskPlace (mask_places site))
    (tagged BorderForm (border_forms site)) (TypeClash, at)
    (left-among (tagged UnknownName (unknown_names site) ++ tagged TwiceNamed (twice_named site) ++
    tagged UnknownType (unknown_types site) ++ tagged TypeClash (type_clashes site) ++
    tagged RankClash (rank_clashes site) ++ tagged NoRegion (no_regions site) ++
    tagged ShatterBody (shatter_bodies site) ++ tagged NotAssignable (not_assignable site) ++
    tagged Arguments (arguments site) ++ tagged ReturnPlace (return_places site) ++
    tagged CallPlace (call_places site)) (tagged MaskPlace (mask_places site)) (TypeClash, at)
    (left-among (tagged UnknownName (unknown_names site) ++ tagged TwiceNamed (twice_named site) ++
    tagged UnknownType (unknown_types site) ++ tagged TypeClash (type_clashes site) ++
    tagged RankClash (rank_clashes site) ++ tagged NoRegion (no_regions site) ++
    tagged ShatterBody (shatter_bodies site) ++ tagged NotAssignable (not_assignable site) ++
    tagged Arguments (arguments site) ++ tagged ReturnPlace (return_places site))
    (tagged CallPlace (call_places site)) (TypeClash, at)
    (left-among (tagged UnknownName (unknown_names site) ++ tagged TwiceNamed (twice_named site) ++
    tagged UnknownType (unknown_types site) ++ tagged TypeClash (type_clashes site) ++
    tagged RankClash (rank_clashes site) ++ tagged NoRegion (no_regions site) ++
    tagged ShatterBody (shatter_bodies site) ++ tagged NotAssignable (not_assignable site) ++
    tagged Arguments (arguments site)) (tagged ReturnPlace (return_places site)) (TypeClash, at)
    (left-among (tagged UnknownName (unknown_names site) ++ tagged TwiceNamed (twice_named site) ++
    tagged UnknownType (unknown_types site) ++ tagged TypeClash (type_clashes site) ++
    tagged RankClash (rank_clashes site) ++ tagged NoRegion (no_regions site) ++
    tagged ShatterBody (shatter_bodies site) ++ tagged NotAssignable (not_assignable site))
    (tagged Arguments (arguments site)) (TypeClash, at)
    (left-among (tagged UnknownName (unknown_names site) ++ tagged TwiceNamed (twice_named site) ++
    tagged UnknownType (unknown_types site) ++ tagged TypeClash (type_clashes site) ++
    tagged RankClash (rank_clashes site) ++ tagged NoRegion (no_regions site) ++
    tagged ShatterBody (shatter_bodies site)) (tagged NotAssignable (not_assignable site))
    (TypeClash, at)
    (left-among (tagged UnknownName (unknown_names site) ++ tagged TwiceNamed (twice_named site) ++
    tagged UnknownType (unknown_types site) ++ tagged TypeClash (type_clashes site) ++
    tagged RankClash (rank_clashes site) ++ tagged NoRegion (no_regions site))
    (tagged ShatterBody (shatter_bodies site)) (TypeClash, at)
    (left-among (tagged UnknownName (unknown_names site) ++ tagged TwiceNamed (twice_named site) ++
    tagged UnknownType (unknown_types site) ++ tagged TypeClash (type_clashes site) ++
    tagged RankClash (rank_clashes site)) (tagged NoRegion (no_regions site)) (TypeClash, at)
    (left-among (tagged UnknownName (unknown_names site) ++ tagged TwiceNamed (twice_named site) ++
    tagged UnknownType (unknown_types site) ++ tagged TypeClash (type_clashes site))
    (tagged RankClash (rank_clashes site)) (TypeClash, at)
    (right-among (tagged UnknownName (unknown_names site) ++ tagged TwiceNamed (twice_named site) ++
    tagged UnknownType (unknown_types site)) (tagged TypeClash (type_clashes site)) (TypeClash, at)
    m)))))))))))

text-rank_clashes : (site : Site) (at : ℕ) → Among (rank_clashes site) at →
    Among (site_faults site) (RankClash, at)
text-rank_clashes site at h = let m = among-tagged RankClash (rank_clashes site) at h in
    (left-among (tagged UnknownName (unknown_names site) ++ tagged TwiceNamed (twice_named site) ++
    tagged UnknownType (unknown_types site) ++ tagged TypeClash (type_clashes site) ++
    tagged RankClash (rank_clashes site) ++ tagged NoRegion (no_regions site) ++
    tagged ShatterBody (shatter_bodies site) ++ tagged NotAssignable (not_assignable site) ++
    tagged Arguments (arguments site) ++ tagged ReturnPlace (return_places site) ++
    tagged CallPlace (call_places site) ++ tagged MaskPlace (mask_places site) ++
    tagged BorderForm (border_forms site)) (tagged RankUnknown (unknown_ranks site)) (RankClash, at)
    (left-among (tagged UnknownName (unknown_names site) ++ tagged TwiceNamed (twice_named site) ++
    tagged UnknownType (unknown_types site) ++ tagged TypeClash (type_clashes site) ++
    tagged RankClash (rank_clashes site) ++ tagged NoRegion (no_regions site) ++
    tagged ShatterBody (shatter_bodies site) ++ tagged NotAssignable (not_assignable site) ++
    tagged Arguments (arguments site) ++ tagged ReturnPlace (return_places site) ++
    tagged CallPlace (call_places site) ++ tagged MaskPlace (mask_places site))
    (tagged BorderForm (border_forms site)) (RankClash, at)
    (left-among (tagged UnknownName (unknown_names site) ++ tagged TwiceNamed (twice_named site) ++
    tagged UnknownType (unknown_types site) ++ tagged TypeClash (type_clashes site) ++
    tagged RankClash (rank_clashes site) ++ tagged NoRegion (no_regions site) ++
    tagged ShatterBody (shatter_bodies site) ++ tagged NotAssignable (not_assignable site) ++
    tagged Arguments (arguments site) ++ tagged ReturnPlace (return_places site) ++
    tagged CallPlace (call_places site)) (tagged MaskPlace (mask_places site)) (RankClash, at)
    (left-among (tagged UnknownName (unknown_names site) ++ tagged TwiceNamed (twice_named site) ++
    tagged UnknownType (unknown_types site) ++ tagged TypeClash (type_clashes site) ++
    tagged RankClash (rank_clashes site) ++ tagged NoRegion (no_regions site) ++
    tagged ShatterBody (shatter_bodies site) ++ tagged NotAssignable (not_assignable site) ++
    tagged Arguments (arguments site) ++ tagged ReturnPlace (return_places site))
    (tagged CallPlace (call_places site)) (RankClash, at)
    (left-among (tagged UnknownName (unknown_names site) ++ tagged TwiceNamed (twice_named site) ++
    tagged UnknownType (unknown_types site) ++ tagged TypeClash (type_clashes site) ++
    tagged RankClash (rank_clashes site) ++ tagged NoRegion (no_regions site) ++
    tagged ShatterBody (shatter_bodies site) ++ tagged NotAssignable (not_assignable site) ++
    tagged Arguments (arguments site)) (tagged ReturnPlace (return_places site)) (RankClash, at)
    (left-among (tagged UnknownName (unknown_names site) ++ tagged TwiceNamed (twice_named site) ++
    tagged UnknownType (unknown_types site) ++ tagged TypeClash (type_clashes site) ++
    tagged RankClash (rank_clashes site) ++ tagged NoRegion (no_regions site) ++
    tagged ShatterBody (shatter_bodies site) ++ tagged NotAssignable (not_assignable site))
    (tagged Arguments (arguments site)) (RankClash, at)
    (left-among (tagged UnknownName (unknown_names site) ++ tagged TwiceNamed (twice_named site) ++
    tagged UnknownType (unknown_types site) ++ tagged TypeClash (type_clashes site) ++
    tagged RankClash (rank_clashes site) ++ tagged NoRegion (no_regions site) ++
    tagged ShatterBody (shatter_bodies site)) (tagged NotAssignable (not_assignable site))
    (RankClash, at)
    (left-among (tagged UnknownName (unknown_names site) ++ tagged TwiceNamed (twice_named site) ++
    tagged UnknownType (unknown_types site) ++ tagged TypeClash (type_clashes site) ++
    tagged RankClash (rank_clashes site) ++ tagged NoRegion (no_regions site))
    (tagged ShatterBody (shatter_bodies site)) (RankClash, at)
    (left-among (tagged UnknownName (unknown_names site) ++ tagged TwiceNamed (twice_named site) ++
    tagged UnknownType (unknown_types site) ++ tagged TypeClash (type_clashes site) ++
    tagged RankClash (rank_clashes site)) (tagged NoRegion (no_regions site)) (RankClash, at)
    (right-among (tagged UnknownName (unknown_names site) ++ tagged TwiceNamed (twice_named site) ++
    tagged UnknownType (unknown_types site) ++ tagged TypeClash (type_clashes site))
    (tagged RankClash (rank_clashes site)) (RankClash, at) m))))))))))

text-no_regions : (site : Site) (at : ℕ) → Among (no_regions site) at →
    Among (site_faults site) (NoRegion, at)
text-no_regions site at h = let m = among-tagged NoRegion (no_regions site) at h in
    (left-among (tagged UnknownName (unknown_names site) ++ tagged TwiceNamed (twice_named site) ++
    tagged UnknownType (unknown_types site) ++ tagged TypeClash (type_clashes site) ++
    tagged RankClash (rank_clashes site) ++ tagged NoRegion (no_regions site) ++
    tagged ShatterBody (shatter_bodies site) ++ tagged NotAssignable (not_assignable site) ++
    tagged Arguments (arguments site) ++ tagged ReturnPlace (return_places site) ++
    tagged CallPlace (call_places site) ++ tagged MaskPlace (mask_places site) ++
    tagged BorderForm (border_forms site)) (tagged RankUnknown (unknown_ranks site)) (NoRegion, at)
    (left-among (tagged UnknownName (unknown_names site) ++ tagged TwiceNamed (twice_named site) ++
    tagged UnknownType (unknown_types site) ++ tagged TypeClash (type_clashes site) ++
    tagged RankClash (rank_clashes site) ++ tagged NoRegion (no_regions site) ++
    tagged ShatterBody (shatter_bodies site) ++ tagged NotAssignable (not_assignable site) ++
    tagged Arguments (arguments site) ++ tagged ReturnPlace (return_places site) ++
    tagged CallPlace (call_places site) ++ tagged MaskPlace (mask_places site))
    (tagged BorderForm (border_forms site)) (NoRegion, at)
    (left-among (tagged UnknownName (unknown_names site) ++ tagged TwiceNamed (twice_named site) ++
    tagged UnknownType (unknown_types site) ++ tagged TypeClash (type_clashes site) ++
    tagged RankClash (rank_clashes site) ++ tagged NoRegion (no_regions site) ++
    tagged ShatterBody (shatter_bodies site) ++ tagged NotAssignable (not_assignable site) ++
    tagged Arguments (arguments site) ++ tagged ReturnPlace (return_places site) ++
    tagged CallPlace (call_places site)) (tagged MaskPlace (mask_places site)) (NoRegion, at)
    (left-among (tagged UnknownName (unknown_names site) ++ tagged TwiceNamed (twice_named site) ++
    tagged UnknownType (unknown_types site) ++ tagged TypeClash (type_clashes site) ++
    tagged RankClash (rank_clashes site) ++ tagged NoRegion (no_regions site) ++
    tagged ShatterBody (shatter_bodies site) ++ tagged NotAssignable (not_assignable site) ++
    tagged Arguments (arguments site) ++ tagged ReturnPlace (return_places site))
    (tagged CallPlace (call_places site)) (NoRegion, at)
    (left-among (tagged UnknownName (unknown_names site) ++ tagged TwiceNamed (twice_named site) ++
    tagged UnknownType (unknown_types site) ++ tagged TypeClash (type_clashes site) ++
    tagged RankClash (rank_clashes site) ++ tagged NoRegion (no_regions site) ++
    tagged ShatterBody (shatter_bodies site) ++ tagged NotAssignable (not_assignable site) ++
    tagged Arguments (arguments site)) (tagged ReturnPlace (return_places site)) (NoRegion, at)
    (left-among (tagged UnknownName (unknown_names site) ++ tagged TwiceNamed (twice_named site) ++
    tagged UnknownType (unknown_types site) ++ tagged TypeClash (type_clashes site) ++
    tagged RankClash (rank_clashes site) ++ tagged NoRegion (no_regions site) ++
    tagged ShatterBody (shatter_bodies site) ++ tagged NotAssignable (not_assignable site))
    (tagged Arguments (arguments site)) (NoRegion, at)
    (left-among (tagged UnknownName (unknown_names site) ++ tagged TwiceNamed (twice_named site) ++
    tagged UnknownType (unknown_types site) ++ tagged TypeClash (type_clashes site) ++
    tagged RankClash (rank_clashes site) ++ tagged NoRegion (no_regions site) ++
    tagged ShatterBody (shatter_bodies site)) (tagged NotAssignable (not_assignable site))
    (NoRegion, at)
    (left-among (tagged UnknownName (unknown_names site) ++ tagged TwiceNamed (twice_named site) ++
    tagged UnknownType (unknown_types site) ++ tagged TypeClash (type_clashes site) ++
    tagged RankClash (rank_clashes site) ++ tagged NoRegion (no_regions site))
    (tagged ShatterBody (shatter_bodies site)) (NoRegion, at)
    (right-among (tagged UnknownName (unknown_names site) ++ tagged TwiceNamed (twice_named site) ++
    tagged UnknownType (unknown_types site) ++ tagged TypeClash (type_clashes site) ++
    tagged RankClash (rank_clashes site)) (tagged NoRegion (no_regions site)) (NoRegion, at)
    m)))))))))

text-shatter_bodies : (site : Site) (at : ℕ) → Among (shatter_bodies site) at →
    Among (site_faults site) (ShatterBody, at)
text-shatter_bodies site at h = let m = among-tagged ShatterBody (shatter_bodies site) at h in
    (left-among (tagged UnknownName (unknown_names site) ++ tagged TwiceNamed (twice_named site) ++
    tagged UnknownType (unknown_types site) ++ tagged TypeClash (type_clashes site) ++
    tagged RankClash (rank_clashes site) ++ tagged NoRegion (no_regions site) ++
    tagged ShatterBody (shatter_bodies site) ++ tagged NotAssignable (not_assignable site) ++
    tagged Arguments (arguments site) ++ tagged ReturnPlace (return_places site) ++
    tagged CallPlace (call_places site) ++ tagged MaskPlace (mask_places site) ++
    tagged BorderForm (border_forms site)) (tagged RankUnknown (unknown_ranks site))
    (ShatterBody, at)
    (left-among (tagged UnknownName (unknown_names site) ++ tagged TwiceNamed (twice_named site) ++
    tagged UnknownType (unknown_types site) ++ tagged TypeClash (type_clashes site) ++
    tagged RankClash (rank_clashes site) ++ tagged NoRegion (no_regions site) ++
    tagged ShatterBody (shatter_bodies site) ++ tagged NotAssignable (not_assignable site) ++
    tagged Arguments (arguments site) ++ tagged ReturnPlace (return_places site) ++
    tagged CallPlace (call_places site) ++ tagged MaskPlace (mask_places site))
    (tagged BorderForm (border_forms site)) (ShatterBody, at)
    (left-among (tagged UnknownName (unknown_names site) ++ tagged TwiceNamed (twice_named site) ++
    tagged UnknownType (unknown_types site) ++ tagged TypeClash (type_clashes site) ++
    tagged RankClash (rank_clashes site) ++ tagged NoRegion (no_regions site) ++
    tagged ShatterBody (shatter_bodies site) ++ tagged NotAssignable (not_assignable site) ++
    tagged Arguments (arguments site) ++ tagged ReturnPlace (return_places site) ++
    tagged CallPlace (call_places site)) (tagged MaskPlace (mask_places site)) (ShatterBody, at)
    (left-among (tagged UnknownName (unknown_names site) ++ tagged TwiceNamed (twice_named site) ++
    tagged UnknownType (unknown_types site) ++ tagged TypeClash (type_clashes site) ++
    tagged RankClash (rank_clashes site) ++ tagged NoRegion (no_regions site) ++
    tagged ShatterBody (shatter_bodies site) ++ tagged NotAssignable (not_assignable site) ++
    tagged Arguments (arguments site) ++ tagged ReturnPlace (return_places site))
    (tagged CallPlace (call_places site)) (ShatterBody, at)
    (left-among (tagged UnknownName (unknown_names site) ++ tagged TwiceNamed (twice_named site) ++
    tagged UnknownType (unknown_types site) ++ tagged TypeClash (type_clashes site) ++
    tagged RankClash (rank_clashes site) ++ tagged NoRegion (no_regions site) ++
    tagged ShatterBody (shatter_bodies site) ++ tagged NotAssignable (not_assignable site) ++
    tagged Arguments (arguments site)) (tagged ReturnPlace (return_places site)) (ShatterBody, at)
    (left-among (tagged UnknownName (unknown_names site) ++ tagged TwiceNamed (twice_named site) ++
    tagged UnknownType (unknown_types site) ++ tagged TypeClash (type_clashes site) ++
    tagged RankClash (rank_clashes site) ++ tagged NoRegion (no_regions site) ++
    tagged ShatterBody (shatter_bodies site) ++ tagged NotAssignable (not_assignable site))
    (tagged Arguments (arguments site)) (ShatterBody, at)
    (left-among (tagged UnknownName (unknown_names site) ++ tagged TwiceNamed (twice_named site) ++
    tagged UnknownType (unknown_types site) ++ tagged TypeClash (type_clashes site) ++
    tagged RankClash (rank_clashes site) ++ tagged NoRegion (no_regions site) ++
    tagged ShatterBody (shatter_bodies site)) (tagged NotAssignable (not_assignable site))
    (ShatterBody, at)
    (right-among (tagged UnknownName (unknown_names site) ++ tagged TwiceNamed (twice_named site) ++
    tagged UnknownType (unknown_types site) ++ tagged TypeClash (type_clashes site) ++
    tagged RankClash (rank_clashes site) ++ tagged NoRegion (no_regions site))
    (tagged ShatterBody (shatter_bodies site)) (ShatterBody, at) m))))))))

text-not_assignable : (site : Site) (at : ℕ) → Among (not_assignable site) at →
    Among (site_faults site) (NotAssignable, at)
text-not_assignable site at h = let m = among-tagged NotAssignable (not_assignable site) at h in
    (left-among (tagged UnknownName (unknown_names site) ++ tagged TwiceNamed (twice_named site) ++
    tagged UnknownType (unknown_types site) ++ tagged TypeClash (type_clashes site) ++
    tagged RankClash (rank_clashes site) ++ tagged NoRegion (no_regions site) ++
    tagged ShatterBody (shatter_bodies site) ++ tagged NotAssignable (not_assignable site) ++
    tagged Arguments (arguments site) ++ tagged ReturnPlace (return_places site) ++
    tagged CallPlace (call_places site) ++ tagged MaskPlace (mask_places site) ++
    tagged BorderForm (border_forms site)) (tagged RankUnknown (unknown_ranks site))
    (NotAssignable, at)
    (left-among (tagged UnknownName (unknown_names site) ++ tagged TwiceNamed (twice_named site) ++
    tagged UnknownType (unknown_types site) ++ tagged TypeClash (type_clashes site) ++
    tagged RankClash (rank_clashes site) ++ tagged NoRegion (no_regions site) ++
    tagged ShatterBody (shatter_bodies site) ++ tagged NotAssignable (not_assignable site) ++
    tagged Arguments (arguments site) ++ tagged ReturnPlace (return_places site) ++
    tagged CallPlace (call_places site) ++ tagged MaskPlace (mask_places site))
    (tagged BorderForm (border_forms site)) (NotAssignable, at)
    (left-among (tagged UnknownName (unknown_names site) ++ tagged TwiceNamed (twice_named site) ++
    tagged UnknownType (unknown_types site) ++ tagged TypeClash (type_clashes site) ++
    tagged RankClash (rank_clashes site) ++ tagged NoRegion (no_regions site) ++
    tagged ShatterBody (shatter_bodies site) ++ tagged NotAssignable (not_assignable site) ++
    tagged Arguments (arguments site) ++ tagged ReturnPlace (return_places site) ++
    tagged CallPlace (call_places site)) (tagged MaskPlace (mask_places site)) (NotAssignable, at)
    (left-among (tagged UnknownName (unknown_names site) ++ tagged TwiceNamed (twice_named site) ++
    tagged UnknownType (unknown_types site) ++ tagged TypeClash (type_clashes site) ++
    tagged RankClash (rank_clashes site) ++ tagged NoRegion (no_regions site) ++
    tagged ShatterBody (shatter_bodies site) ++ tagged NotAssignable (not_assignable site) ++
    tagged Arguments (arguments site) ++ tagged ReturnPlace (return_places site))
    (tagged CallPlace (call_places site)) (NotAssignable, at)
    (left-among (tagged UnknownName (unknown_names site) ++ tagged TwiceNamed (twice_named site) ++
    tagged UnknownType (unknown_types site) ++ tagged TypeClash (type_clashes site) ++
    tagged RankClash (rank_clashes site) ++ tagged NoRegion (no_regions site) ++
    tagged ShatterBody (shatter_bodies site) ++ tagged NotAssignable (not_assignable site) ++
    tagged Arguments (arguments site)) (tagged ReturnPlace (return_places site)) (NotAssignable, at)
    (left-among (tagged UnknownName (unknown_names site) ++ tagged TwiceNamed (twice_named site) ++
    tagged UnknownType (unknown_types site) ++ tagged TypeClash (type_clashes site) ++
    tagged RankClash (rank_clashes site) ++ tagged NoRegion (no_regions site) ++
    tagged ShatterBody (shatter_bodies site) ++ tagged NotAssignable (not_assignable site))
    (tagged Arguments (arguments site)) (NotAssignable, at)
    (right-among (tagged UnknownName (unknown_names site) ++ tagged TwiceNamed (twice_named site) ++
    tagged UnknownType (unknown_types site) ++ tagged TypeClash (type_clashes site) ++
    tagged RankClash (rank_clashes site) ++ tagged NoRegion (no_regions site) ++
    tagged ShatterBody (shatter_bodies site)) (tagged NotAssignable (not_assignable site))
    (NotAssignable, at) m)))))))

text-arguments : (site : Site) (at : ℕ) → Among (arguments site) at →
    Among (site_faults site) (Arguments, at)
text-arguments site at h = let m = among-tagged Arguments (arguments site) at h in
    (left-among (tagged UnknownName (unknown_names site) ++ tagged TwiceNamed (twice_named site) ++
    tagged UnknownType (unknown_types site) ++ tagged TypeClash (type_clashes site) ++
    tagged RankClash (rank_clashes site) ++ tagged NoRegion (no_regions site) ++
    tagged ShatterBody (shatter_bodies site) ++ tagged NotAssignable (not_assignable site) ++
    tagged Arguments (arguments site) ++ tagged ReturnPlace (return_places site) ++
    tagged CallPlace (call_places site) ++ tagged MaskPlace (mask_places site) ++
    tagged BorderForm (border_forms site)) (tagged RankUnknown (unknown_ranks site)) (Arguments, at)
    (left-among (tagged UnknownName (unknown_names site) ++ tagged TwiceNamed (twice_named site) ++
    tagged UnknownType (unknown_types site) ++ tagged TypeClash (type_clashes site) ++
    tagged RankClash (rank_clashes site) ++ tagged NoRegion (no_regions site) ++
    tagged ShatterBody (shatter_bodies site) ++ tagged NotAssignable (not_assignable site) ++
    tagged Arguments (arguments site) ++ tagged ReturnPlace (return_places site) ++
    tagged CallPlace (call_places site) ++ tagged MaskPlace (mask_places site))
    (tagged BorderForm (border_forms site)) (Arguments, at)
    (left-among (tagged UnknownName (unknown_names site) ++ tagged TwiceNamed (twice_named site) ++
    tagged UnknownType (unknown_types site) ++ tagged TypeClash (type_clashes site) ++
    tagged RankClash (rank_clashes site) ++ tagged NoRegion (no_regions site) ++
    tagged ShatterBody (shatter_bodies site) ++ tagged NotAssignable (not_assignable site) ++
    tagged Arguments (arguments site) ++ tagged ReturnPlace (return_places site) ++
    tagged CallPlace (call_places site)) (tagged MaskPlace (mask_places site)) (Arguments, at)
    (left-among (tagged UnknownName (unknown_names site) ++ tagged TwiceNamed (twice_named site) ++
    tagged UnknownType (unknown_types site) ++ tagged TypeClash (type_clashes site) ++
    tagged RankClash (rank_clashes site) ++ tagged NoRegion (no_regions site) ++
    tagged ShatterBody (shatter_bodies site) ++ tagged NotAssignable (not_assignable site) ++
    tagged Arguments (arguments site) ++ tagged ReturnPlace (return_places site))
    (tagged CallPlace (call_places site)) (Arguments, at)
    (left-among (tagged UnknownName (unknown_names site) ++ tagged TwiceNamed (twice_named site) ++
    tagged UnknownType (unknown_types site) ++ tagged TypeClash (type_clashes site) ++
    tagged RankClash (rank_clashes site) ++ tagged NoRegion (no_regions site) ++
    tagged ShatterBody (shatter_bodies site) ++ tagged NotAssignable (not_assignable site) ++
    tagged Arguments (arguments site)) (tagged ReturnPlace (return_places site)) (Arguments, at)
    (right-among (tagged UnknownName (unknown_names site) ++ tagged TwiceNamed (twice_named site) ++
    tagged UnknownType (unknown_types site) ++ tagged TypeClash (type_clashes site) ++
    tagged RankClash (rank_clashes site) ++ tagged NoRegion (no_regions site) ++
    tagged ShatterBody (shatter_bodies site) ++ tagged NotAssignable (not_assignable site))
    (tagged Arguments (arguments site)) (Arguments, at) m))))))

text-return_places : (site : Site) (at : ℕ) → Among (return_places site) at →
    Among (site_faults site) (ReturnPlace, at)
text-return_places site at h = let m = among-tagged ReturnPlace (return_places site) at h in
    (left-among (tagged UnknownName (unknown_names site) ++ tagged TwiceNamed (twice_named site) ++
    tagged UnknownType (unknown_types site) ++ tagged TypeClash (type_clashes site) ++
    tagged RankClash (rank_clashes site) ++ tagged NoRegion (no_regions site) ++
    tagged ShatterBody (shatter_bodies site) ++ tagged NotAssignable (not_assignable site) ++
    tagged Arguments (arguments site) ++ tagged ReturnPlace (return_places site) ++
    tagged CallPlace (call_places site) ++ tagged MaskPlace (mask_places site) ++
    tagged BorderForm (border_forms site)) (tagged RankUnknown (unknown_ranks site))
    (ReturnPlace, at)
    (left-among (tagged UnknownName (unknown_names site) ++ tagged TwiceNamed (twice_named site) ++
    tagged UnknownType (unknown_types site) ++ tagged TypeClash (type_clashes site) ++
    tagged RankClash (rank_clashes site) ++ tagged NoRegion (no_regions site) ++
    tagged ShatterBody (shatter_bodies site) ++ tagged NotAssignable (not_assignable site) ++
    tagged Arguments (arguments site) ++ tagged ReturnPlace (return_places site) ++
    tagged CallPlace (call_places site) ++ tagged MaskPlace (mask_places site))
    (tagged BorderForm (border_forms site)) (ReturnPlace, at)
    (left-among (tagged UnknownName (unknown_names site) ++ tagged TwiceNamed (twice_named site) ++
    tagged UnknownType (unknown_types site) ++ tagged TypeClash (type_clashes site) ++
    tagged RankClash (rank_clashes site) ++ tagged NoRegion (no_regions site) ++
    tagged ShatterBody (shatter_bodies site) ++ tagged NotAssignable (not_assignable site) ++
    tagged Arguments (arguments site) ++ tagged ReturnPlace (return_places site) ++
    tagged CallPlace (call_places site)) (tagged MaskPlace (mask_places site)) (ReturnPlace, at)
    (left-among (tagged UnknownName (unknown_names site) ++ tagged TwiceNamed (twice_named site) ++
    tagged UnknownType (unknown_types site) ++ tagged TypeClash (type_clashes site) ++
    tagged RankClash (rank_clashes site) ++ tagged NoRegion (no_regions site) ++
    tagged ShatterBody (shatter_bodies site) ++ tagged NotAssignable (not_assignable site) ++
    tagged Arguments (arguments site) ++ tagged ReturnPlace (return_places site))
    (tagged CallPlace (call_places site)) (ReturnPlace, at)
    (right-among (tagged UnknownName (unknown_names site) ++ tagged TwiceNamed (twice_named site) ++
    tagged UnknownType (unknown_types site) ++ tagged TypeClash (type_clashes site) ++
    tagged RankClash (rank_clashes site) ++ tagged NoRegion (no_regions site) ++
    tagged ShatterBody (shatter_bodies site) ++ tagged NotAssignable (not_assignable site) ++
    tagged Arguments (arguments site)) (tagged ReturnPlace (return_places site)) (ReturnPlace, at)
    m)))))

text-call_places : (site : Site) (at : ℕ) → Among (call_places site) at →
    Among (site_faults site) (CallPlace, at)
text-call_places site at h = let m = among-tagged CallPlace (call_places site) at h in
    (left-among (tagged UnknownName (unknown_names site) ++ tagged TwiceNamed (twice_named site) ++
    tagged UnknownType (unknown_types site) ++ tagged TypeClash (type_clashes site) ++
    tagged RankClash (rank_clashes site) ++ tagged NoRegion (no_regions site) ++
    tagged ShatterBody (shatter_bodies site) ++ tagged NotAssignable (not_assignable site) ++
    tagged Arguments (arguments site) ++ tagged ReturnPlace (return_places site) ++
    tagged CallPlace (call_places site) ++ tagged MaskPlace (mask_places site) ++
    tagged BorderForm (border_forms site)) (tagged RankUnknown (unknown_ranks site)) (CallPlace, at)
    (left-among (tagged UnknownName (unknown_names site) ++ tagged TwiceNamed (twice_named site) ++
    tagged UnknownType (unknown_types site) ++ tagged TypeClash (type_clashes site) ++
    tagged RankClash (rank_clashes site) ++ tagged NoRegion (no_regions site) ++
    tagged ShatterBody (shatter_bodies site) ++ tagged NotAssignable (not_assignable site) ++
    tagged Arguments (arguments site) ++ tagged ReturnPlace (return_places site) ++
    tagged CallPlace (call_places site) ++ tagged MaskPlace (mask_places site))
    (tagged BorderForm (border_forms site)) (CallPlace, at)
    (left-among (tagged UnknownName (unknown_names site) ++ tagged TwiceNamed (twice_named site) ++
    tagged UnknownType (unknown_types site) ++ tagged TypeClash (type_clashes site) ++
    tagged RankClash (rank_clashes site) ++ tagged NoRegion (no_regions site) ++
    tagged ShatterBody (shatter_bodies site) ++ tagged NotAssignable (not_assignable site) ++
    tagged Arguments (arguments site) ++ tagged ReturnPlace (return_places site) ++
    tagged CallPlace (call_places site)) (tagged MaskPlace (mask_places site)) (CallPlace, at)
    (right-among (tagged UnknownName (unknown_names site) ++ tagged TwiceNamed (twice_named site) ++
    tagged UnknownType (unknown_types site) ++ tagged TypeClash (type_clashes site) ++
    tagged RankClash (rank_clashes site) ++ tagged NoRegion (no_regions site) ++
    tagged ShatterBody (shatter_bodies site) ++ tagged NotAssignable (not_assignable site) ++
    tagged Arguments (arguments site) ++ tagged ReturnPlace (return_places site))
    (tagged CallPlace (call_places site)) (CallPlace, at) m))))

text-mask_places : (site : Site) (at : ℕ) → Among (mask_places site) at →
    Among (site_faults site) (MaskPlace, at)
text-mask_places site at h = let m = among-tagged MaskPlace (mask_places site) at h in
    (left-among (tagged UnknownName (unknown_names site) ++ tagged TwiceNamed (twice_named site) ++
    tagged UnknownType (unknown_types site) ++ tagged TypeClash (type_clashes site) ++
    tagged RankClash (rank_clashes site) ++ tagged NoRegion (no_regions site) ++
    tagged ShatterBody (shatter_bodies site) ++ tagged NotAssignable (not_assignable site) ++
    tagged Arguments (arguments site) ++ tagged ReturnPlace (return_places site) ++
    tagged CallPlace (call_places site) ++ tagged MaskPlace (mask_places site) ++
    tagged BorderForm (border_forms site)) (tagged RankUnknown (unknown_ranks site)) (MaskPlace, at)
    (left-among (tagged UnknownName (unknown_names site) ++ tagged TwiceNamed (twice_named site) ++
    tagged UnknownType (unknown_types site) ++ tagged TypeClash (type_clashes site) ++
    tagged RankClash (rank_clashes site) ++ tagged NoRegion (no_regions site) ++
    tagged ShatterBody (shatter_bodies site) ++ tagged NotAssignable (not_assignable site) ++
    tagged Arguments (arguments site) ++ tagged ReturnPlace (return_places site) ++
    tagged CallPlace (call_places site) ++ tagged MaskPlace (mask_places site))
    (tagged BorderForm (border_forms site)) (MaskPlace, at)
    (right-among (tagged UnknownName (unknown_names site) ++ tagged TwiceNamed (twice_named site) ++
    tagged UnknownType (unknown_types site) ++ tagged TypeClash (type_clashes site) ++
    tagged RankClash (rank_clashes site) ++ tagged NoRegion (no_regions site) ++
    tagged ShatterBody (shatter_bodies site) ++ tagged NotAssignable (not_assignable site) ++
    tagged Arguments (arguments site) ++ tagged ReturnPlace (return_places site) ++
    tagged CallPlace (call_places site)) (tagged MaskPlace (mask_places site)) (MaskPlace, at) m)))

text-border_forms : (site : Site) (at : ℕ) → Among (border_forms site) at →
    Among (site_faults site) (BorderForm, at)
text-border_forms site at h = let m = among-tagged BorderForm (border_forms site) at h in
    (left-among (tagged UnknownName (unknown_names site) ++ tagged TwiceNamed (twice_named site) ++
    tagged UnknownType (unknown_types site) ++ tagged TypeClash (type_clashes site) ++
    tagged RankClash (rank_clashes site) ++ tagged NoRegion (no_regions site) ++
    tagged ShatterBody (shatter_bodies site) ++ tagged NotAssignable (not_assignable site) ++
    tagged Arguments (arguments site) ++ tagged ReturnPlace (return_places site) ++
    tagged CallPlace (call_places site) ++ tagged MaskPlace (mask_places site) ++
    tagged BorderForm (border_forms site)) (tagged RankUnknown (unknown_ranks site))
    (BorderForm, at)
    (right-among (tagged UnknownName (unknown_names site) ++ tagged TwiceNamed (twice_named site) ++
    tagged UnknownType (unknown_types site) ++ tagged TypeClash (type_clashes site) ++
    tagged RankClash (rank_clashes site) ++ tagged NoRegion (no_regions site) ++
    tagged ShatterBody (shatter_bodies site) ++ tagged NotAssignable (not_assignable site) ++
    tagged Arguments (arguments site) ++ tagged ReturnPlace (return_places site) ++
    tagged CallPlace (call_places site) ++ tagged MaskPlace (mask_places site))
    (tagged BorderForm (border_forms site)) (BorderForm, at) m))

text-unknown_ranks : (site : Site) (at : ℕ) → Among (unknown_ranks site) at →
    Among (site_faults site) (RankUnknown, at)
text-unknown_ranks site at h = let m = among-tagged RankUnknown (unknown_ranks site) at h in
    (right-among (tagged UnknownName (unknown_names site) ++ tagged TwiceNamed (twice_named site) ++
    tagged UnknownType (unknown_types site) ++ tagged TypeClash (type_clashes site) ++
    tagged RankClash (rank_clashes site) ++ tagged NoRegion (no_regions site) ++
    tagged ShatterBody (shatter_bodies site) ++ tagged NotAssignable (not_assignable site) ++
    tagged Arguments (arguments site) ++ tagged ReturnPlace (return_places site) ++
    tagged CallPlace (call_places site) ++ tagged MaskPlace (mask_places site) ++
    tagged BorderForm (border_forms site)) (tagged RankUnknown (unknown_ranks site))
    (RankUnknown, at) m)

region-no_regions : (site : Site) (at : ℕ) → Among (no_regions site) at →
    Among (region_faults site) (NoRegion, at)
region-no_regions site at h = let m = among-tagged NoRegion (no_regions site) at h in
    (left-among (tagged NoRegion (no_regions site) ++ tagged FloodClash (flood_clashes site))
    (tagged MaskPlace (masked_statements site)) (NoRegion, at)
    (left-among (tagged NoRegion (no_regions site)) (tagged FloodClash (flood_clashes site))
    (NoRegion, at) m))

region-flood_clashes : (site : Site) (at : ℕ) → Among (flood_clashes site) at →
    Among (region_faults site) (FloodClash, at)
region-flood_clashes site at h = let m = among-tagged FloodClash (flood_clashes site) at h in
    (left-among (tagged NoRegion (no_regions site) ++ tagged FloodClash (flood_clashes site))
    (tagged MaskPlace (masked_statements site)) (FloodClash, at)
    (right-among (tagged NoRegion (no_regions site)) (tagged FloodClash (flood_clashes site))
    (FloodClash, at) m))

region-masked_statements : (site : Site) (at : ℕ) → Among (masked_statements site) at →
    Among (region_faults site) (MaskPlace, at)
region-masked_statements site at h = let m = among-tagged MaskPlace (masked_statements site) at h in
    (right-among (tagged NoRegion (no_regions site) ++ tagged FloodClash (flood_clashes site))
    (tagged MaskPlace (masked_statements site)) (MaskPlace, at) m)

none-of-text : (program : Program) → flat_map site_faults (text_sites program) ≡ [] →
    (kind : FaultKind) (fault : Site → List ℕ) →
    ((site : Site) (at : ℕ) → Among (fault site) at → Among (site_faults site) (kind, at)) →
    (at : ℕ) → Contains (in_text fault program) at → ⊥
none-of-text program clean kind fault within at c =
    let parts = flat_parts fault (text_sites program) at
    (among_from_Contains (in_text fault program) at c) in
    none-in (flat_map site_faults (text_sites program)) (kind, at) clean
    (flat_among site_faults (text_sites program) parts.0 (kind, at) parts.1
    (within parts.0 at parts.2))

none-reached : (program : Program) (pairs : List (List ℕ × Shapes)) (height : List ℕ → ℕ) →
    IsClean program pairs height →
    (kind : FaultKind) (fault : Site → List ℕ) →
    ((site : Site) (at : ℕ) → Among (fault site) at → Among (region_faults site) (kind, at)) →
    (at : ℕ) → IsReachedFault program fault at → ⊥
none-reached program pairs height clean kind fault within at h =
    let parts = flat_parts fault (sites_at program h.text h.shapes) at
    (among_from_Contains (flat_map fault (sites_at program h.text h.shapes)) at h.there) in
    none-in (flat_map region_faults (sites_at program h.text h.shapes)) (kind, at)
    (clean.under h.text h.shapes (closed-has program pairs clean.closed h.text h.shapes h.reached))
    (flat_among region_faults (sites_at program h.text h.shapes) parts.0 (kind, at) parts.1
    (within parts.0 at parts.2))

pub clean_is_faultless : (program : Program) (pairs : List (List ℕ × Shapes)) (height : List ℕ → ℕ)
    →
    IsClean program pairs height → IsFaultless program
clean_is_faultless program pairs height clean UnknownName at h =
    none-of-text program clean.text UnknownName unknown_names text-unknown_names at h
clean_is_faultless program pairs height clean UnknownType at h =
    none-of-text program clean.text UnknownType unknown_types text-unknown_types at h
clean_is_faultless program pairs height clean TypeClash at h =
    none-of-text program clean.text TypeClash type_clashes text-type_clashes at h
clean_is_faultless program pairs height clean RankClash at h =
    none-of-text program clean.text RankClash rank_clashes text-rank_clashes at h
clean_is_faultless program pairs height clean ShatterBody at h =
    none-of-text program clean.text ShatterBody shatter_bodies text-shatter_bodies at h
clean_is_faultless program pairs height clean NotAssignable at h =
    none-of-text program clean.text NotAssignable not_assignable text-not_assignable at h
clean_is_faultless program pairs height clean Arguments at h =
    none-of-text program clean.text Arguments arguments text-arguments at h
clean_is_faultless program pairs height clean ReturnPlace at h =
    none-of-text program clean.text ReturnPlace return_places text-return_places at h
clean_is_faultless program pairs height clean CallPlace at h =
    none-of-text program clean.text CallPlace call_places text-call_places at h
clean_is_faultless program pairs height clean BorderForm at h =
    none-of-text program clean.text BorderForm border_forms text-border_forms at h
clean_is_faultless program pairs height clean RankUnknown at h =
    none-of-text program clean.text RankUnknown unknown_ranks text-unknown_ranks at h
clean_is_faultless program pairs height clean TwiceNamed at h =
    elim (split (repeated [] (map (λ entry. entry.name) (globals_of program)))
    (in_text twice_named program) at (among_from_Contains (names_twice program) at h)) [
      | inl m ↦ none-in (repeated [] (map (λ entry. entry.name) (globals_of program))) at clean.once m
      | inr m ↦ none-of-text program clean.text TwiceNamed twice_named text-twice_named at
          (Contains-from_among (in_text twice_named program) at m)
    ]
clean_is_faultless program pairs height clean NoRegion at (inl h) =
    none-of-text program clean.text NoRegion no_regions text-no_regions at h
clean_is_faultless program pairs height clean NoRegion at (inr h) =
    none-reached program pairs height clean NoRegion no_regions region-no_regions at h
clean_is_faultless program pairs height clean FloodClash at h =
    none-reached program pairs height clean FloodClash flood_clashes region-flood_clashes at h
clean_is_faultless program pairs height clean MaskPlace at (inl h) =
    none-of-text program clean.text MaskPlace mask_places text-mask_places at h
clean_is_faultless program pairs height clean MaskPlace at (inr h) =
    none-reached program pairs height clean MaskPlace masked_statements region-masked_statements at
    h
clean_is_faultless program pairs height clean Recursion at h =
    no_recursion program height clean.falling at h
clean_is_faultless program pairs height clean NoEntry at h =
    none-in (no_entry program) at clean.entered (among_from_Contains (no_entry program) at h)
clean_is_faultless program pairs height clean DeepCalls at h =
    no_deep_call program height clean.falling clean.short at h
