-- Tables of names, by their entries.
use Rattle.std.proofs.Common.{◌≡◌, ℕ, Bool, true, false, cond, List, [], ◌∷◌, ◌++◌, map, Option, Some, None, option_map, is_some, IsSome, Bor, refl, sym, ◌∙◌, ap, subst, true≢false}
use Rattle.std.specs.Map.{lookup}
use Rattle.std.specs.Str.{bytes_eq}
use Rattle.std.proofs.lemmas.Slice.Eq.{bytes_eq-Decides}
use Rattle.std.proofs.lemmas.List.{map-append}
use Rattle.indexmap.specs.IndexMap.{insert_entry}
use Rattle.zpl_names.specs.Kinds.{Kind}
use Rattle.zpl_names.specs.Scope.{Entry, kind_in}
use Rattle.zpl_names.proofs.NameLemmas.{kind_in-cons, found}
use Rattle.name_kinds.specs.declared.names.Known.{Known}
use Rattle.name_kinds.specs.Names.{Adds, entry_of}
use Rattle.name_kinds.specs.Seen.{known_of}

abbrev Row : Type 0
Row = Bor (List ℕ) × Known

pub bytes_eq-comm : (xs ys : List ℕ) → bytes_eq xs ys ≡ bytes_eq ys xs
bytes_eq-comm xs ys =
    by (bytes_eq xs ys) (bytes_eq ys xs) (bytes_eq-Decides xs ys).0 (bytes_eq-Decides xs ys).1
    (bytes_eq-Decides ys xs).0 (bytes_eq-Decides ys xs).1
  where
    by : (a b : Bool) → (a ≡ true → xs ≡ ys) → (xs ≡ ys → a ≡ true) → (b ≡ true → ys ≡ xs) →
        (ys ≡ xs → b ≡ true) → a ≡ b
    by true b f g h k = sym (k (sym (f refl)))
    by false true f g h k = g (sym (h refl))
    by false false f g h k = refl

-- what the first row with a name says
abbrev seen : Option Known → Option Kind
seen found = known_of (option_map (λ known. known.kind) found)

pub lookup-found : (rows : List Row) (text : List ℕ) →
    seen (lookup (λ key. bytes_eq text key.now) rows) ≡ kind_in (map entry_of rows) text
lookup-found [] text = refl
lookup-found (row ∷ rows) text =
    by (bytes_eq text row.0.now) (bytes_eq row.0.now text) (bytes_eq-comm text row.0.now)
    (lookup-found rows text) ∙
    sym (kind_in-cons (entry_of row) (map entry_of rows) text)
  where
    by : (a b : Bool) → a ≡ b →
        seen (lookup (λ key. bytes_eq text key.now) rows) ≡ kind_in (map entry_of rows) text →
        seen (cond a (Some row.1) (lookup (λ key. bytes_eq text key.now) rows)) ≡
        found b (entry_of row).kind (kind_in (map entry_of rows) text)
    by true true e later = refl
    by true false e later = absurd (true≢false e)
    by false true e later = absurd (true≢false (sym e))
    by false false e later = later

is_some-seen : (o : Option Known) → is_some o ≡ true → IsSome (seen o)
is_some-seen None h = absurd (true≢false (sym h))
is_some-seen (Some known) h = refl

none-seen : (o : Option Known) → is_some o ≡ false → seen o ≡ None
none-seen None h = refl
none-seen (Some known) h = absurd (true≢false h)

-- a name that is there
pub there-already : (rows : List Row) (text : List ℕ) (old : List Entry) → map entry_of rows ≡ old →
    is_some (lookup (λ key. bytes_eq text key.now) rows) ≡ true → IsSome (kind_in old text)
there-already rows text old view h =
    let P : List Entry → Type 0 = λ names. IsSome (kind_in names text) in
    let Q : Option Kind → Type 0 = λ found. IsSome found in
    subst P view (subst Q (lookup-found rows text)
    (is_some-seen (lookup (λ key. bytes_eq text key.now) rows) h))

insert-new : (rows : List Row) (key : Bor (List ℕ)) (known : Known) →
    is_some (lookup (λ other. bytes_eq key.now other.now) rows) ≡ false →
    insert_entry (λ one two. bytes_eq one.now two.now) rows key known ≡ rows ++ (key, known) ∷ []
insert-new [] key known h = refl
insert-new (row ∷ rows) key known h = by (bytes_eq key.now row.0.now) h (insert-new rows key known)
  where
    by : (b : Bool) →
        is_some (cond b (Some row.1) (lookup (λ other. bytes_eq key.now other.now) rows)) ≡ false →
        (is_some (lookup (λ other. bytes_eq key.now other.now) rows) ≡ false →
        insert_entry (λ one two. bytes_eq one.now two.now) rows key known ≡
        rows ++ (key, known) ∷ []) →
        cond b ((row.0, known) ∷ rows)
        (row ∷ insert_entry (λ one two. bytes_eq one.now two.now) rows key known) ≡
        row ∷ rows ++ (key, known) ∷ []
    by true h later = absurd (true≢false h)
    by false h later = ap (λ rest. row ∷ rest) (later h)

-- a new name goes last
pub added-last : (rows new : List Row) (key : Bor (List ℕ)) (known : Known) (old : List Entry) →
    map entry_of rows ≡ old →
    is_some (lookup (λ other. bytes_eq key.now other.now) rows) ≡ false →
    new ≡ insert_entry (λ one two. bytes_eq one.now two.now) rows key known →
    Adds (entry_of (key, known)).name (entry_of (key, known)).kind old (map entry_of new) true
added-last rows new key known old view h is = (
  sym (ap (λ names. kind_in names key.now) view) ∙ sym (lookup-found rows key.now) ∙
      none-seen (lookup (λ other. bytes_eq key.now other.now) rows) h,
  ap (map entry_of) (is ∙ insert-new rows key known h) ∙
      map-append entry_of rows ((key, known) ∷ []) ∙
      ap (λ names. names ++ entry_of (key, known) ∷ []) view,
)
