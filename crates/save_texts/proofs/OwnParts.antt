-- The parts of the saved text of a grid, and that bytes have one way to be parted.
use Rattle.std.proofs.Common.{◌≡◌, ℕ, zero, suc, ◌^◌, ◌<◌, false, List, [], ◌∷◌, ◌++◌, length, take, drop, inl, inr, ◌⊎◌, refl, ap, sym, ◌∙◌, subst, arith, Some}
use Rattle.std.specs.Prelude.{◌≢◌, ◌==◌, All, codes, slice_get}
use Rattle.std.specs.List.{flat_map, range_with_len}
use Rattle.std.specs.Str.{bytes_eq}
use Rattle.std.proofs.lemmas.List.{append_assoc, append-nil}
use Rattle.std.proofs.lemmas.List.Elements.{All-head, All-tail}
use Rattle.listing_lines.specs.declared.fields.Field.{Field}
use Rattle.listing_lines.specs.declared.keywords.Keyword.{Keyword}
use Rattle.listing_lines.specs.declared.keywords.Keyword.TheVariants as key
use Rattle.listing_lines.specs.declared.lines.Line.{Line}
use Rattle.listing_lines.specs.Field.{field_text}
use Rattle.listing_lines.specs.Keyword.{keyword_text}
use Rattle.listing_lines.specs.Line.{IsLine, line_text, lines_text, spaced}
use Rattle.listing_lines.proofs.LineTexts.{line_ends}
use Rattle.listing_rows.specs.Listing.{listing_of}
use Rattle.node_form.specs.declared.tables.Tables.{Tables}
use Rattle.grid_meaning.specs.Grid.{Grid}
use Rattle.grid_meaning.specs.Local.{Local, processors}
use Rattle.save_lines.specs.Line.{saved_text}
use Rattle.grid_save.specs.Fault.{BeginsState, EndsLine, HasCounts, HasHead, HasParts, IsCut, proc_text}
use Rattle.grid_save.specs.Saved.{IsSaveable, IsSaved}
use Rattle.grid_save.specs.Written.{counts_text, grid_lines, save_text, state_lines, version_text}
use Rattle.grid_save.proofs.CutLemmas.{Every, every_of_all, same_counts}
use Rattle.save_texts.proofs.CutOnce.{cut_once}

-- ---- one way
few : (n : ℕ) → n < 2 ^ 62 → n < 10 ^ 64
few n below = omega (arith, below)

less : (n : ℕ) → n < 2 ^ 126 → n < 10 ^ 64
less n below = omega (arith, below)

pub version_once : (one other : List ℕ) → version_text ++ one ≡ version_text ++ other → one ≡ other
version_once one other e = ap (drop 10) e

pub counts_once : (bytes one other : List ℕ) → HasCounts bytes one → HasCounts bytes other → one ≡ other
counts_once bytes one other is also =
    (same_counts is.turns is.sends is.words also.turns also.sends also.words one other (few is.turns is.counted.few_turns) (few is.sends is.counted.few_sends)
    (less is.words is.counted.few_words) (few also.turns also.counted.few_turns) (few also.sends also.counted.few_sends) (less also.words also.counted.few_words)
    (sym is.written ∙ also.written)).behind

head_once : (bytes one other : List ℕ) → HasHead bytes one → HasHead bytes other → one ≡ other
head_once bytes one other is also =
    let same = version_once is.behind also.behind (sym is.version ∙ also.version) in
    counts_once also.behind one other (subst (λ bs. HasCounts bs one) same is.counts) also.counts

pub parts_once : (bytes l1 s1 l2 s2 : List ℕ) → HasParts bytes l1 s1 → HasParts bytes l2 s2 → (l1 ≡ l2) × (s1 ≡ s2)
parts_once bytes l1 s1 l2 s2 is also =
    let same = head_once bytes is.rest also.rest is.head also.head in
    cut_once also.rest l1 s1 l2 s2 (subst (λ bs. IsCut bs l1 s1) same is.cut) also.cut

-- ---- no line of a listing begins a state
not_proc : (k : Keyword) (b : ℕ) (more : List ℕ) → bytes_eq (take 5 (keyword_text k ++ b ∷ more)) (codes "proc ") ≡ false
not_proc key.Version b more = refl
not_proc k b more = refl

untrue : (b : ℕ) (more rest : List ℕ) (k : Keyword) → keyword_text k ++ b ∷ more ≡ proc_text ++ rest → ⊥
untrue b more rest k e =
    let own : bytes_eq (take 5 (proc_text ++ rest)) (codes "proc ") ≡ false = subst (λ bs. bytes_eq (take 5 bs) (codes "proc ") ≡ false) e (not_proc k b more) in
    cc

-- a keyword, and a space or a newline behind it
opened : (k : Keyword) (fields : List Field) (more : List ℕ) →
    (b : ℕ) × (rest : List ℕ) × ((keyword_text k ++ flat_map (λ field. spaced (field_text field)) fields) ++ 10 ∷ more ≡ keyword_text k ++ b ∷ rest)
opened k [] more = (10, more, ap (λ text. text ++ 10 ∷ more) (append-nil (keyword_text k)))
opened k (field ∷ fields) more = (
  32,
  (field_text field ++ flat_map (λ f. spaced (field_text f)) fields) ++ 10 ∷ more,
  append_assoc (keyword_text k) (flat_map (λ f. spaced (field_text f)) (field ∷ fields)) (10 ∷ more),
)

line_begins : (line : Line) (more back : List ℕ) → back ≡ line_text line ++ 10 ∷ more → BeginsState back → ⊥
line_begins line more back e begins =
    let cut = opened line.keyword line.fields more in
    untrue cut.0 cut.1 begins.0 line.keyword (sym cut.2 ∙ (sym e ∙ begins.1))

first_newline : (xs f rest back : List ℕ) → Every (λ b. b ≢ 10) xs → xs ++ 10 ∷ rest ≡ f ++ 10 ∷ back → (rest ≡ back) ⊎ ((g : List ℕ) × (rest ≡ g ++ 10 ∷ back))
first_newline [] [] rest back none e = inl cc
first_newline [] (y ∷ f) rest back none e = inr (f, cc)
first_newline (x ∷ xs) [] rest back none e = absurd (none.0 cc)
first_newline (x ∷ xs) (y ∷ f) rest back none e = let tails : xs ++ 10 ∷ rest ≡ f ++ 10 ∷ back = cc in first_newline xs f rest back none.1 tails

first_line : (line : Line) (lines : List Line) → lines_text (line ∷ lines) ≡ line_text line ++ 10 ∷ lines_text lines
first_line line lines = append_assoc (line_text line) (10 ∷ []) (lines_text lines)

differs : (b : ℕ) → (b == 10) ≡ false → b ≢ 10
differs b test same = let e : (10 == 10) ≡ false = subst (λ n. (n == 10) ≡ false) same test in cc

no_newline : (line : Line) → IsLine line → Every (λ b. b ≢ 10) (line_text line)
no_newline line is = every_of_all (λ b. (b == 10) ≡ false) (λ b. b ≢ 10) differs (line_text line) (line_ends line is)

no_state : (lines : List Line) → All IsLine lines → (front back : List ℕ) → lines_text lines ≡ front ++ back → EndsLine front → BeginsState back → ⊥
no_state [] all front back e ends begins = none front back e begins where
  none : (xs ys : List ℕ) → [] ≡ xs ++ ys → BeginsState ys → ⊥
  none [] ys h begun = let whole : [] ≡ proc_text ++ begun.0 = h ∙ begun.1 in cc
  none (x ∷ xs) ys h begun = cc
no_state (line ∷ lines) all front back e (inl none) begins =
    line_begins line (lines_text lines) back (sym (sym (first_line line lines) ∙ (e ∙ ap (λ f. f ++ back) none))) begins
no_state (line ∷ lines) all front back e (inr (f, last)) begins =
    by (first_newline (line_text line) f (lines_text lines) back (no_newline line (All-head IsLine line lines all))
    (sym (first_line line lines) ∙ (e ∙ (ap (λ g. g ++ back) last ∙ append_assoc f (10 ∷ []) back))))
    (λ front' whole ends. no_state lines (All-tail IsLine line lines all) front' back whole ends begins)
  where
    by : (lines_text lines ≡ back) ⊎ ((g : List ℕ) × (lines_text lines ≡ g ++ 10 ∷ back)) →
        ((front' : List ℕ) → lines_text lines ≡ front' ++ back → EndsLine front' → ⊥) → ⊥
    by (inl same) more = more [] same (inl refl)
    by (inr (g, whole)) more = more (g ++ 10 ∷ []) (whole ∙ sym (append_assoc g (10 ∷ []) back)) (inr (g, refl))

ends_line : (lines : List Line) → EndsLine (lines_text lines)
ends_line [] = inl refl
ends_line (line ∷ lines) = by (ends_line lines) where
  by : EndsLine (lines_text lines) → EndsLine (lines_text (line ∷ lines))
  by (inl none) = inr (line_text line, ap (λ bs. (line_text line ++ 10 ∷ []) ++ bs) none ∙ append-nil (line_text line ++ 10 ∷ []))
  by (inr (f, last)) =
      inr ((line_text line ++ 10 ∷ []) ++ f, ap (λ bs. (line_text line ++ 10 ∷ []) ++ bs) last ∙ sym (append_assoc (line_text line ++ 10 ∷ []) f (10 ∷ [])))

-- ---- the parts of a saved text
first_state : (code : Tables) (grid : Grid) → IsSaveable code grid → (saved_text (grid_lines code grid) ≡ []) ⊎ BeginsState (saved_text (grid_lines code grid))
first_state code grid is = by (processors code) refl where
  there : (ls : List Local) → 0 < length ls → (local : Local) × (slice_get ls 0 ≡ Some local)
  there [] some = absurd (omega (arith, some))
  there (local ∷ ls) some = (local, refl)

  by : (n : ℕ) → n ≡ processors code →
      (saved_text (flat_map (λ p. state_lines code grid.world.links p (slice_get grid.world.locals p)) (range_with_len 0 n)) ≡ [])
      ⊎ BeginsState (saved_text (flat_map (λ p. state_lines code grid.world.links p (slice_get grid.world.locals p)) (range_with_len 0 n)))
  by zero e = inl refl
  by (suc n) e =
      let many = is.locals.many in
      let found = there grid.world.locals (omega (arith, e, many)) in
      inr (subst (λ l. BeginsState (saved_text (state_lines code grid.world.links 0 l ++ flat_map (λ p. state_lines code grid.world.links p (slice_get grid.world.locals p)) (range_with_len 1 n))))
      (sym found.1)
      (drop 5 (saved_text (state_lines code grid.world.links 0 (Some found.0) ++ flat_map (λ p. state_lines code grid.world.links p (slice_get grid.world.locals p)) (range_with_len 1 n))), refl))

pub own_parts : (bytes : List ℕ) (code : Tables) (grid : Grid) → IsSaved bytes code grid → HasParts bytes (listing_of code) (saved_text (grid_lines code grid))
unfolding save_text
own_parts bytes code grid is = record {
  rest = listing_of code ++ saved_text (grid_lines code grid);
  head = record {
    behind = counts_text grid.turns grid.sends grid.words ++ (listing_of code ++ saved_text (grid_lines code grid));
    version = is.written;
    counts = record {
      turns = grid.turns;
      sends = grid.sends;
      words = grid.words;
      counted = record { few_turns = is.grid_is.counts.few_turns; few_sends = is.grid_is.counts.few_sends; few_words = is.grid_is.counts.few_words };
      written = refl;
    };
  };
  cut = record {
    whole = refl;
    state_begins = begins (first_state code grid is.grid_is);
    listing_lacks = λ front back e. no_state is.listed.lines is.listed.are.lead.lines_are front back (sym is.listed.are.written ∙ e);
  };
} where
  begins : (saved_text (grid_lines code grid) ≡ []) ⊎ BeginsState (saved_text (grid_lines code grid)) →
      (saved_text (grid_lines code grid) ≡ []) ⊎ (EndsLine (listing_of code) × BeginsState (saved_text (grid_lines code grid)))
  begins (inl none) = inl none
  begins (inr state) = inr (subst EndsLine (sym is.listed.are.written) (ends_line is.listed.lines), state)
