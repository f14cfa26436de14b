-- What may stand wherever the second of two groups does may stand wherever both do, where the second
-- one may stand wherever the first one does.
use Rattle.std.proofs.Common.{◌≡◌, refl, sym, ap, ◌∙◌, ℕ, ◌==◌, Bool, true, false, not}
use Rattle.std.proofs.Common.{true≢false, List, [], ◌∷◌, ◌++◌}
use Rattle.std.specs.Prelude.{◌&&◌, ◌||◌, flat_map, Option, Some, None, slice_get}
use Rattle.std.specs.List.{list_all, list_any}
use Rattle.std.specs.Cmp.Lexicographic.{pointwise}
use Rattle.std.proofs.lemmas.Bool.{and_from, and_parts}
use Rattle.std.proofs.lemmas.Bool.Decides.{Decides-eqb}
use Rattle.std.proofs.lemmas.Grind.{flat_map-append}
use Rattle.std.proofs.lemmas.List.Folds.{list_any-append}
use Rattle.node_form.specs.declared.arrays.ArrayDim.{ArrayDim}
use Rattle.node_form.specs.declared.arrays.ArrayDim.TheVariants as axis
use Rattle.node_form.specs.declared.arrays.ArrayRow.{ArrayRow}
use Rattle.node_form.specs.declared.members.Member.{Member}
use Rattle.node_form.specs.declared.tables.Tables.{Tables}
use Rattle.code_parts.specs.Uses.{member_words, put_by, scalars_in, share}
use Rattle.pass_sizes.specs.of_temp_norm.Normalised.{is_same_kind}
use Rattle.pass_sizes.specs.of_fuse_contract.Fusing.{all_accumulated, are_like, are_put_alike, are_rows_like}
use Rattle.pass_sizes.specs.of_fuse_contract.Fusing.{is_accumulating, stands_with}

-- ---- arrays that are like one another
kinds : (one mid other : ArrayDim) → is_same_kind one mid ≡ true → is_same_kind mid other ≡ true
    → is_same_kind one other ≡ true
kinds axis.Star axis.Star other e f = f
kinds axis.Star (axis.Range lo hi low high) other e f = absurd (true≢false (sym e))
kinds (axis.Range lo hi low high) axis.Star other e f = absurd (true≢false (sym e))
kinds (axis.Range lo hi low high) (axis.Range from to before after) axis.Star e f =
    absurd (true≢false (sym f))
kinds (axis.Range lo hi low high) (axis.Range from to before after)
    (axis.Range first last down up) e f = refl

all_kinds : (one mid other : List ArrayDim) → pointwise is_same_kind one mid ≡ true
    → pointwise is_same_kind mid other ≡ true → pointwise is_same_kind one other ≡ true
all_kinds [] [] other e f = f
all_kinds [] (d ∷ mid) other e f = absurd (true≢false (sym e))
all_kinds (d ∷ one) [] other e f = absurd (true≢false (sym e))
all_kinds (d ∷ one) (c ∷ mid) [] e f = absurd (true≢false (sym f))
all_kinds (d ∷ one) (c ∷ mid) (b ∷ other) e f =
    let first = and_parts (is_same_kind d c) (pointwise is_same_kind one mid) e in
    let second = and_parts (is_same_kind c b) (pointwise is_same_kind mid other) f in
    and_from (is_same_kind d b) (pointwise is_same_kind one other)
    (kinds d c b first.0 second.0) (all_kinds one mid other first.1 second.1)

rows_like : (one mid other : Option ArrayRow) → are_rows_like one mid ≡ true
    → are_rows_like mid other ≡ true → are_rows_like one other ≡ true
rows_like None mid other e f = absurd (true≢false (sym e))
rows_like (Some row) None other e f = absurd (true≢false (sym e))
rows_like (Some row) (Some mid) None e f = absurd (true≢false (sym f))
rows_like (Some row) (Some mid) (Some other) e f =
    let first = and_parts (row.rank == mid.rank) (pointwise is_same_kind row.dims mid.dims) e in
    let second = and_parts (mid.rank == other.rank)
    (pointwise is_same_kind mid.dims other.dims) f in
    and_from (row.rank == other.rank) (pointwise is_same_kind row.dims other.dims)
    ((Decides-eqb row.rank other.rank).1
    ((Decides-eqb row.rank mid.rank).0 first.0 ∙ (Decides-eqb mid.rank other.rank).0 second.0))
    (all_kinds row.dims mid.dims other.dims first.1 second.1)

pub four : (a b c d : Bool) → (a && b && c && d) ≡ true
    → (a ≡ true) × (b ≡ true) × (c ≡ true) × (d ≡ true)
four true true true true e = (refl, refl, refl, refl)
four true true true false e = absurd (true≢false (sym e))
four true true false d e = absurd (true≢false (sym e))
four true false c d e = absurd (true≢false (sym e))
four false b c d e = absurd (true≢false (sym e))

pub all_four : (a b c d : Bool) → a ≡ true → b ≡ true → c ≡ true → d ≡ true
    → (a && b && c && d) ≡ true
all_four true true true d e f g h = h
all_four true true false d e f g h = absurd (true≢false (sym g))
all_four true false c d e f g h = absurd (true≢false (sym f))
all_four false b c d e f g h = absurd (true≢false (sym e))

module _ (tables : Tables) where
  each_like : (array mid : ℕ) → are_like tables array mid ≡ true → (others : List ℕ)
      → list_all (are_like tables mid) others ≡ true
      → list_all (are_like tables array) others ≡ true
  each_like array mid like [] e = refl
  each_like array mid like (other ∷ others) e =
      let parts = and_parts (are_like tables mid other) (list_all (are_like tables mid) others) e in
      and_from (are_like tables array other) (list_all (are_like tables array) others)
      (rows_like (slice_get tables.arrays array) (slice_get tables.arrays mid)
      (slice_get tables.arrays other) like parts.0)
      (each_like array mid like others parts.1)

  puts_like : (arrays mids others : List ℕ) → are_put_alike tables arrays mids ≡ true
      → are_put_alike tables mids others ≡ true
      → are_put_alike tables (arrays ++ mids) others ≡ true
  puts_like [] [] others e f = f
  puts_like [] (mid ∷ mids) others e f = absurd (true≢false (sym e))
  puts_like (array ∷ arrays) [] [] e f = refl
  puts_like (array ∷ arrays) [] (other ∷ others) e f = absurd (true≢false (sym f))
  puts_like (array ∷ arrays) (mid ∷ mids) others e f =
      each_like array mid
      (and_parts (are_like tables array mid) (list_all (are_like tables array) mids) e).0 others f

  -- ---- groups
  neither : (a b : Bool) → not a ≡ true → not b ≡ true → not (a || b) ≡ true
  neither true b e f = e
  neither false b e f = f

  pub both_stand : (one mid other : List Member) → stands_with tables one mid ≡ true
      → stands_with tables mid other ≡ true → stands_with tables (one ++ mid) other ≡ true
  both_stand one mid other e f =
      let scalars = λ (group : List Member). flat_map scalars_in
      (flat_map (member_words tables) group) in
      let apart = λ (group : List Member). not (share (scalars group) (all_accumulated tables)) in
      let first = four (not (list_any is_accumulating one)) (not (list_any is_accumulating mid))
      (apart mid) (are_put_alike tables (flat_map put_by one) (flat_map put_by mid)) e in
      let second = four (not (list_any is_accumulating mid)) (not (list_any is_accumulating other))
      (apart other) (are_put_alike tables (flat_map put_by mid) (flat_map put_by other)) f in
      all_four (not (list_any is_accumulating (one ++ mid)))
      (not (list_any is_accumulating other)) (apart other)
      (are_put_alike tables (flat_map put_by (one ++ mid)) (flat_map put_by other))
      (ap not (list_any-append is_accumulating one mid)
      ∙ neither (list_any is_accumulating one) (list_any is_accumulating mid) first.0 first.1)
      second.1 second.2
      (ap (λ l. are_put_alike tables l (flat_map put_by other)) (flat_map-append put_by one mid)
      ∙ puts_like (flat_map put_by one) (flat_map put_by mid) (flat_map put_by other) first.3
      second.3)
