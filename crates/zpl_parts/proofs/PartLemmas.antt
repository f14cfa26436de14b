-- The border that a region expression is.
use Rattle.std.proofs.Common.{◌≡◌, ◌≢◌, ℕ, suc, ◌==◌, ◌<◌, Bool, true, false, List, [], ◌∷◌, ◌++◌, map, length, refl, sym, ◌∙◌, ap, if◌then◌else◌, arith}
use Rattle.std.proofs.lemmas.List.{append-nil, map-append}
use borrow.Author.Tests.{eqb-true}
use Rattle.zpl_binding.specs.of_zpl_tree.Syntax as plain
use Rattle.zpl_binding.specs.of_zpl_tree.Syntax.{NoPost, NamedRegion, Ditto}
use Rattle.zpl_binding.specs.of_zpl_tree.View.{posts_of, pre_of, base_of}
use Rattle.zpl_binding.specs.of_zpl_tree.declared.regions.Post.{Post}
use Rattle.zpl_binding.specs.of_zpl_tree.declared.regions.Pre.{Pre}
use Rattle.zpl_binding.specs.Storages.{Border, innermost}
use Rattle.zpl_parts.specs.Part.{Part, BorderPart}
use Rattle.zpl_parts.specs.Walk.{border_parts}

abbrev pub the_border : plain.Pre → plain.Name → List Part
the_border pre region = BorderPart (record { direction = pre.dir; region = region }) ∷ []

pub border-behind : (pre : List plain.Pre) (base : plain.RegionBase) (posts : List Post) →
    (length posts == 0) ≡ false → border_parts pre base (posts_of posts) ≡ []
border-behind pre base [] h = cc
border-behind pre (NamedRegion region) (post ∷ posts) h = refl
border-behind pre (Ditto at) (post ∷ posts) h = refl

innermost-last : (front : List plain.Pre) (last : plain.Pre) (region : plain.Name) →
    map BorderPart (innermost (front ++ last ∷ []) region)
    ≡ (if last.outside then the_border last region else [])
innermost-last [] last region = by last.outside
  where
    by : (b : Bool) →
        map BorderPart (if b then record { direction = last.dir; region = region } ∷ [] else [])
        ≡ (if b then the_border last region else [])
    by true = refl
    by false = refl
innermost-last (first ∷ []) last region = innermost-last [] last region
innermost-last (first ∷ second ∷ rest) last region = innermost-last (second ∷ rest) last region

no_posts : (posts : List Post) → (length posts == 0) ≡ true → posts_of posts ≡ NoPost
no_posts [] h = refl
no_posts (post ∷ posts) h = absurd (omega (arith, eqb-true (length (post ∷ posts)) 0 h))

pub border-last : (pre front : List Pre) (last : Pre) (base : plain.RegionBase)
    (region : plain.Name) (posts : List Post) → base ≡ NamedRegion region →
    (length posts == 0) ≡ true → pre ≡ front ++ last ∷ [] →
    border_parts (map pre_of pre) base (posts_of posts)
    ≡ (if last.outside then the_border (pre_of last) region else [])
border-last pre front last base region posts is none ends =
    ap (λ b. border_parts (map pre_of pre) b (posts_of posts)) is ∙
    ap (border_parts (map pre_of pre) (NamedRegion region)) (no_posts posts none) ∙
    ap (λ l. map BorderPart (innermost l region))
    (ap (map pre_of) ends ∙ map-append pre_of front (last ∷ [])) ∙
    innermost-last (map pre_of front) (pre_of last) region

-- what is appended is nothing
pub append-nothing : (xs ys : List Part) → ys ≡ [] → xs ≡ xs ++ ys
append-nothing xs ys none = sym (ap (λ l. xs ++ l) none ∙ append-nil xs)
