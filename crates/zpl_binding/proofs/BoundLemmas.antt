-- Settings that are accepted bind a program in one way.
use Rattle.std.proofs.Common.{◌≡◌, ℤ, List, [], ◌++◌, Contains, inl, refl, ◌∙◌, inr, ap, ap₂}
use Rattle.std.proofs.lemmas.List.{append-nil}
use Rattle.zpl_arrays.specs.of_zpl_region.declared.regions.Region.{Region}
use Rattle.zpl_tree.specs.Syntax.{Program}
use Rattle.zpl_binding.specs.Outcome.{BindFault, UnknownConfig, ConfigType, TwiceSet, BadConstant, RegionLimit, DirectionLimit, failures}
use Rattle.zpl_binding.specs.Settings.{Setting}
use Rattle.zpl_binding.specs.Declarations.{known_of}
use Rattle.zpl_binding.specs.Copies.{HasCopyPastLimit}
use Rattle.zpl_binding.specs.Bound.{Bound, Binds, computed_values, computed_regions, computed_vectors, computed_storages, faults_of_settings, faults_of, HasBindFault, IsAcceptedWith}
use Rattle.zpl_binding.proofs.OutcomeLemmas.{given-none, no-contains, no_member, empty-left, empty-right, gains, all-give, same-given}

listed-holds : (program : Program) (settings : List Setting) (fault : BindFault) →
    Contains (faults_of program settings) fault → HasBindFault program settings fault
listed-holds program settings UnknownConfig h = h
listed-holds program settings ConfigType h = h
listed-holds program settings TwiceSet h = h
listed-holds program settings BadConstant h = h
listed-holds program settings RegionLimit h = inl h
listed-holds program settings DirectionLimit h = h

pub faultless-binds : (program : Program) (settings : List Setting) →
    faults_of program settings ≡ [] → (bound : Bound) × Binds program settings bound
faultless-binds program settings h =
    let a = faults_of_settings program settings in
    let b = failures (computed_values program settings) in
    let c = failures (computed_regions program settings) in
    let d = failures (computed_vectors program settings) in
    let e = failures (computed_storages program settings) in
    by a b c d e h refl refl refl refl
  where
    by : (a b c d e : List BindFault) → a ++ b ++ c ++ d ++ e ≡ [] →
        failures (computed_values program settings) ≡ b →
        failures (computed_regions program settings) ≡ c →
        failures (computed_vectors program settings) ≡ d →
        failures (computed_storages program settings) ≡ e →
        (bound : Bound) × Binds program settings bound
    by a b c d e h values regions vectors storages =
        let abcd = empty-left (a ++ b ++ c ++ d) e h in
        let abc = empty-left (a ++ b ++ c) d abcd in
        let ab = empty-left (a ++ b) c abc in (
          record {
            values = gains (computed_values program settings);
            regions = gains (computed_regions program settings);
            vectors = gains (computed_vectors program settings);
            storages = gains (computed_storages program settings);
          },
          record {
            values =
                all-give (computed_values program settings) (values ∙ empty-right a b ab);
            regions =
                all-give (computed_regions program settings)
                (regions ∙ empty-right (a ++ b) c abc);
            vectors =
                all-give (computed_vectors program settings)
                (vectors ∙ empty-right (a ++ b ++ c) d abcd);
            storages =
                all-give (computed_storages program settings)
                (storages ∙ empty-right (a ++ b ++ c ++ d) e h);
          },
        )

pub accepted-binds : (program : Program) (settings : List Setting) →
    IsAcceptedWith program settings → (bound : Bound) × Binds program settings bound
accepted-binds program settings accepted =
    faultless-binds program settings
    (no_member (faults_of program settings)
    (λ fault h. accepted fault (listed-holds program settings fault h)))

abbrev made : List ℤ → List Region → List (List ℤ) → List Region → Bound
made a b c d = record { values = a; regions = b; vectors = c; storages = d }

made-alike : (a a' : List ℤ) (b b' : List Region) (c c' : List (List ℤ)) (d d' : List Region) →
    a ≡ a' → b ≡ b' → c ≡ c' → d ≡ d' → made a b c d ≡ made a' b' c' d'
made-alike a a' b b' c c' d d' e f g h = cc

pub bound-once : (program : Program) (settings : List Setting) (bound other : Bound) →
    Binds program settings bound → Binds program settings other → bound ≡ other
bound-once program settings bound other one two =
    made-alike bound.values other.values bound.regions other.regions bound.vectors other.vectors
    bound.storages other.storages
    (same-given _ bound.values other.values one.values two.values)
    (same-given _ bound.regions other.regions one.regions two.regions)
    (same-given _ bound.vectors other.vectors one.vectors two.vectors)
    (same-given _ bound.storages other.storages one.storages two.storages)

pub only-settings : (program : Program) (settings : List Setting) (bound : Bound) →
    Binds program settings bound → faults_of program settings ≡ faults_of_settings program settings
only-settings program settings bound binds =
    ap₂ (λ front last. front ++ last)
    (ap₂ (λ front last. front ++ last)
    (ap₂ (λ front last. front ++ last)
    (ap (λ last. faults_of_settings program settings ++ last)
    (given-none (computed_values program settings) bound.values binds.values))
    (given-none (computed_regions program settings) bound.regions binds.regions))
    (given-none (computed_vectors program settings) bound.vectors binds.vectors))
    (given-none (computed_storages program settings) bound.storages binds.storages) ∙
    nothing-more (faults_of_settings program settings)
  where
    nothing-more : (faults : List BindFault) → faults ++ [] ++ [] ++ [] ++ [] ≡ faults
    nothing-more faults =
        append-nil (faults ++ [] ++ [] ++ []) ∙ append-nil (faults ++ [] ++ []) ∙
        append-nil (faults ++ []) ∙ append-nil faults

pub bound-accepts : (program : Program) (settings : List Setting) (bound : Bound) →
    Binds program settings bound → faults_of_settings program settings ≡ [] →
    ¬ HasCopyPastLimit program (known_of program settings) → IsAcceptedWith program settings
bound-accepts program settings bound binds none copies = each
  where
    unlisted : (fault : BindFault) → ¬ Contains (faults_of program settings) fault
    unlisted fault =
        no-contains (faults_of program settings) fault
        (only-settings program settings bound binds ∙ none)

    each : (fault : BindFault) → ¬ HasBindFault program settings fault
    each UnknownConfig h = unlisted UnknownConfig h
    each ConfigType h = unlisted ConfigType h
    each TwiceSet h = unlisted TwiceSet h
    each BadConstant h = unlisted BadConstant h
    each RegionLimit (inl h) = unlisted RegionLimit h
    each RegionLimit (inr copy) = copies copy
    each DirectionLimit h = unlisted DirectionLimit h
