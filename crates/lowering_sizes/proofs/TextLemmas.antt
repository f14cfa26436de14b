-- Each text of the tables is a newline or what a string of the program stands for; and different
-- ones of these are no longer than the source.
use Rattle.std.proofs.Common.{◌≡◌, ℕ, zero, suc, ◌+◌, ◌*◌, ◌≤◌, ◌<◌, Bool, true, false, not, ◌||◌, if◌then◌else◌, List, [], ◌∷◌, ◌++◌, length, Option, Some, None, refl, sym, ap, subst, arith, length-append}
use Rattle.std.specs.Prelude.{◌==◌, flat_map, filter, find, cond, sum_by, slice_index_or, All, Contains}
use Rattle.std.specs.List.{cons_option, list_any, AllByRecursion, IsDistinct}
use Rattle.std.specs.Str.{bytes_eq}
use Rattle.std.proofs.lemmas.List.Folds.{Any-from_list_any}
use Rattle.std.proofs.lemmas.List.Sums.{sum_by-cons, get_or-le-sum_by}
use Rattle.std.proofs.lemmas.Slice.Eq.{bytes_eq-Decides}
use Rattle.zpl_text.specs.Bytes.{backslash}
use Rattle.zpl_text.specs.Escapes.{unescaped, behind_backslash}
use Rattle.zpl_tree.specs.Word.{Word, word_text}
use Rattle.zpl_tree.specs.Word as word
use Rattle.zpl_tree.specs.Syntax.{Procedure, Decl, Config, Constant, Regions, Directions, Vars, Defined, Program}
use Rattle.zpl_tree.specs.Spelling.{stmt_words, heading_words, locals_words, procedure_words, decl_words, before_end, program_words}
use Rattle.zpl_names.specs.Accepted.{IsFaultless}
use Rattle.zpl_names.specs.Scope.{Entry}
use Rattle.zpl_names.specs.Shapes.{unknown_shapes}
use Rattle.zpl_names.specs.Declared.{with_decl, with_procedure, Routine, routine_of, routines_behind, routine_named, entry_of}
use Rattle.zpl_names.specs.Reached.{longest_chain}
use Rattle.zpl_names.specs.Sites.{CallSite, calls_under}
use Rattle.zpl_names.specs.Expansion.{callees, expanded, expanded_from, expanded_of, body_tokens, names_count, source_size}
use Rattle.zpl_binding.specs.Settings.{Setting}
use Rattle.code_parts.specs.Counts.{code_size}
use Rattle.text_sharing.proofs.DifferentLemmas.{different-distinct, different-old}
use Rattle.zpl_lowering.specs.Program.{lowered_program}
use Rattle.zpl_lowering.specs.Tables.{flat_tables, unshared_tables}
use Rattle.lowering_sizes.specs.Sizes.{HoldsItsWords}
use Rattle.lowering_sizes.specs.Texts.{string_of, texts_of}
use Rattle.lowering_sizes.proofs.Costs.{cost}
use Rattle.lowering_sizes.proofs.LaidOut.{sized, tables_size}
use Rattle.lowering_sizes.proofs.ProgramLemmas.{of_found, own_cost, found_all}
use Rattle.lowering_sizes.proofs.DeclaredLemmas.{bytes, bytes_sum}
use Rattle.lowering_sizes.proofs.SpelledLemmas.{same_strings}
use Rattle.lowering_sizes.proofs.SizeLemmas.{bare_law, program_apart, program_weight}

-- ---- a text among others

abbrev has : List ℕ → List (List ℕ) → Bool
has text all = list_any (λ one. bytes_eq one text) all

itself : (text : List ℕ) → bytes_eq text text ≡ true
itself text = (bytes_eq-Decides text text).1 refl

first_has : (text : List ℕ) (all : List (List ℕ)) → has text (text ∷ all) ≡ true
first_has text all = by (bytes_eq text text) (itself text)
  where
    by : (b : Bool) → b ≡ true → (b || has text all) ≡ true
    by true e = refl
    by false e = cc

rest_has : (text one : List ℕ) (all : List (List ℕ)) → has text all ≡ true →
    has text (one ∷ all) ≡ true
rest_has text one all e = by (bytes_eq one text)
  where
    by : (b : Bool) → (b || has text all) ≡ true
    by true = refl
    by false = e

found_in : (text : List ℕ) (all : List (List ℕ)) → has text all ≡ true → Contains all text
found_in text all e =
    let any = Any-from_list_any (λ one. bytes_eq one text) all e in
    (any.0, any.2, by any.1 any.4 any.3)
  where
    by : (one : List ℕ) → bytes_eq one text ≡ true →
        slice_index_or all (Any-from_list_any (λ one. bytes_eq one text) all e).0 one ≡ one →
        slice_index_or all (Any-from_list_any (λ one. bytes_eq one text) all e).0 text ≡ text
    by one same at =
        subst
        (λ t. slice_index_or all (Any-from_list_any (λ one. bytes_eq one text) all e).0 t ≡ t)
        ((bytes_eq-Decides one text).0 same) at

-- ---- texts that aren't among these weigh much

abbrev strange : List (List ℕ) → ℕ → List ℕ → ℕ
strange all much text = cond (has text all) 0 much

known_light : (all : List (List ℕ)) (much : ℕ) (text : List ℕ) → has text all ≡ true →
    strange all much text ≡ 0
known_light all much text e = by (has text all) e
  where
    by : (b : Bool) → b ≡ true → cond b 0 much ≡ 0
    by true e = refl
    by false e = cc

light_known : (all : List (List ℕ)) (much : ℕ) (text : List ℕ) → strange all much text < much →
    has text all ≡ true
light_known all much text = by (has text all)
  where
    by : (b : Bool) → cond b 0 much < much → b ≡ true
    by true light = refl
    by false light = absurd (omega arith)

abbrev string_weight : (List ℕ → ℕ) → Word → ℕ
string_weight text (word.Str bytes) = text (unescaped bytes)
string_weight text (word.Name name) = 0
string_weight text (word.Number value) = 0
string_weight text word.Ditto = 0
string_weight text (word.Symbol symbol) = 0
string_weight text (word.Keyword key) = 0
string_weight text word.End = 0

abbrev strings_weight : (List ℕ → ℕ) → List Word → ℕ
strings_weight text [] = 0
strings_weight text (one ∷ words) = string_weight text one + strings_weight text words

strings_both : (text : List ℕ → ℕ) (xs ys : List Word) →
    strings_weight text (xs ++ ys) ≡ strings_weight text xs + strings_weight text ys
strings_both text [] ys = omega arith
strings_both text (x ∷ xs) ys = omega (arith, strings_both text xs ys)

cost_words : (text : List ℕ → ℕ) (words : List Word) →
    cost text words ≡ 32 * length words + strings_weight text words
cost_words text [] = refl
cost_words text (word.Str bytes ∷ words) = omega (arith, cost_words text words)
cost_words text (word.Name name ∷ words) = omega (arith, cost_words text words)
cost_words text (word.Number value ∷ words) = omega (arith, cost_words text words)
cost_words text (word.Ditto ∷ words) = omega (arith, cost_words text words)
cost_words text (word.Symbol symbol ∷ words) = omega (arith, cost_words text words)
cost_words text (word.Keyword key ∷ words) = omega (arith, cost_words text words)
cost_words text (word.End ∷ words) = omega (arith, cost_words text words)

none_strange : (all : List (List ℕ)) (much : ℕ) (words : List Word) →
    ((text : List ℕ) → has text (flat_map string_of words) ≡ true → has text all ≡ true) →
    strings_weight (strange all much) words ≡ 0
none_strange all much [] among = refl
none_strange all much (word.Str bytes ∷ words) among =
    omega (
      arith,
      known_light all much (unescaped bytes)
          (among (unescaped bytes) (first_has (unescaped bytes) (flat_map string_of words))),
      none_strange all much words
          (λ text e.
          among text (rest_has text (unescaped bytes) (flat_map string_of words) e)),
    )
none_strange all much (word.Name name ∷ words) among =
    omega (arith, none_strange all much words among)
none_strange all much (word.Number value ∷ words) among =
    omega (arith, none_strange all much words among)
none_strange all much (word.Ditto ∷ words) among =
    omega (arith, none_strange all much words among)
none_strange all much (word.Symbol symbol ∷ words) among =
    omega (arith, none_strange all much words among)
none_strange all much (word.Keyword key ∷ words) among =
    omega (arith, none_strange all much words among)
none_strange all much (word.End ∷ words) among =
    omega (arith, none_strange all much words among)

-- ---- of a program's procedures none

abbrev body_weight : (List ℕ → ℕ) → Routine → ℕ
body_weight text routine = strings_weight text (stmt_words routine.procedure.body)

procedure_strings : (text : List ℕ → ℕ) (procedure : Procedure) →
    strings_weight text (stmt_words procedure.body)
    ≤ strings_weight text (procedure_words procedure)
procedure_strings text procedure =
    omega (
      arith,
      strings_both text (heading_words procedure ++ locals_words procedure.locals)
          (stmt_words procedure.body),
    )

body_strings : (text : List ℕ → ℕ) (test : Routine → Bool) (earlier : List Entry)
    (decls : List Decl) →
    of_found (body_weight text) (find test (routines_behind earlier decls))
    ≤ strings_weight text (flat_map decl_words decls)
body_strings text test earlier [] = omega arith
body_strings text test earlier (Defined procedure ∷ decls) =
    by (test (routine_of earlier procedure))
    (body_strings text test (with_procedure earlier procedure) decls)
  where
    by : (b : Bool) →
        of_found (body_weight text)
        (find test (routines_behind (with_procedure earlier procedure) decls))
        ≤ strings_weight text (flat_map decl_words decls) →
        of_found (body_weight text) (cond b (Some (routine_of earlier procedure))
        (find test (routines_behind (with_procedure earlier procedure) decls)))
        ≤ strings_weight text (flat_map decl_words (Defined procedure ∷ decls))
    by true few =
        omega (
          arith,
          procedure_strings text procedure,
          strings_both text (procedure_words procedure) (flat_map decl_words decls),
        )
    by false few =
        omega (arith, strings_both text (procedure_words procedure) (flat_map decl_words decls))
body_strings text test earlier (Config defines ∷ decls) =
    omega (
      arith,
      body_strings text test (with_decl earlier (Config defines)) decls,
      strings_both text (decl_words (Config defines)) (flat_map decl_words decls),
    )
body_strings text test earlier (Constant defines ∷ decls) =
    omega (
      arith,
      body_strings text test (with_decl earlier (Constant defines)) decls,
      strings_both text (decl_words (Constant defines)) (flat_map decl_words decls),
    )
body_strings text test earlier (Regions regions ∷ decls) =
    omega (
      arith,
      body_strings text test (with_decl earlier (Regions regions)) decls,
      strings_both text (decl_words (Regions regions)) (flat_map decl_words decls),
    )
body_strings text test earlier (Directions directions ∷ decls) =
    omega (
      arith,
      body_strings text test (with_decl earlier (Directions directions)) decls,
      strings_both text (decl_words (Directions directions)) (flat_map decl_words decls),
    )
body_strings text test earlier (Vars vars ∷ decls) =
    omega (
      arith,
      body_strings text test (with_decl earlier (Vars vars)) decls,
      strings_both text (decl_words (Vars vars)) (flat_map decl_words decls),
    )

named_strings : (text : List ℕ → ℕ) (program : Program) (name : List ℕ) →
    of_found (body_weight text) (routine_named program name)
    ≤ strings_weight text (flat_map decl_words program.decls)
named_strings text program name =
    body_strings text (λ routine. bytes_eq routine.procedure.name.text name) [] program.decls

program_strings : (text : List ℕ → ℕ) (program : Program) →
    strings_weight text (flat_map decl_words program.decls)
    ≤ strings_weight text (program_words program)
program_strings text program =
    omega (arith, strings_both text (before_end program) (word.End ∷ []))

-- ---- and of all calls none

abbrev NoneFound : Program → (Routine → ℕ) → Type 0
NoneFound program bad = (name : List ℕ) → of_found bad (routine_named program name) ≡ 0

none_found : (program : Program) (bad all : Routine → ℕ) → NoneFound program bad →
    ((routine : Routine) → bad routine ≡ 0 → all routine ≡ 0) → (calls : List CallSite) →
    sum_by all (found_all program calls) ≡ 0
none_found program bad all none each [] = refl
none_found program bad all none each (call ∷ calls) =
    by (routine_named program call.name.text) (none call.name.text)
    (none_found program bad all none each calls)
  where
    by : (found : Option Routine) → of_found bad found ≡ 0 →
        sum_by all (found_all program calls) ≡ 0 →
        sum_by all (cons_option found (found_all program calls)) ≡ 0
    by None here others = others
    by (Some routine) here others =
        omega (
          arith,
          each routine here,
          others,
          sum_by-cons all routine (found_all program calls),
        )

none_expanded : (program : Program) (bad : Routine → ℕ) → NoneFound program bad → (depth : ℕ)
    (routine : Routine) → bad routine ≡ 0 → expanded program bad depth routine ≡ 0
none_expanded program bad none zero routine here = refl
none_expanded program bad none (suc depth) routine here =
    omega (
      arith,
      here,
      none_found program bad (expanded program bad depth) none (none_expanded program bad none depth)
          (calls_under program unknown_shapes routine),
    )

none_of_all : (program : Program) (bad : Routine → ℕ) → NoneFound program bad →
    expanded_of program bad ≡ 0
none_of_all program bad none = by (entry_of program) (none program.name.text)
  where
    by : (found : Option Routine) → of_found bad found ≡ 0 → expanded_from program bad found ≡ 0
    by None here = refl
    by (Some entry) here = none_expanded program bad none longest_chain entry here

-- ---- the texts of the tables

abbrev much_of : Program → ℕ
much_of program =
    3 * length program.source + 32 * expanded_of program body_tokens
    + 6 * expanded_of program (λ routine. sum_by names_count (callees program routine)) + 2

bounded : (program : Program) (settings : List Setting) → IsFaultless program →
    HoldsItsWords program →
    sized (strange (texts_of program) (much_of program)) (unshared_tables program settings)
    < much_of program
bounded program settings faultless holds =
    let all = texts_of program in
    let text = strange all (much_of program) in
    let words = program_words program in
    let light : text (10 ∷ []) ≡ 0 =
    known_light all (much_of program) (10 ∷ []) (first_has (10 ∷ []) (flat_map string_of words)) in
    let one : text (10 ∷ []) ≤ 1 = omega (arith, light) in
    let none : strings_weight text words ≡ 0 =
    none_strange all (much_of program) words
    (λ t e. rest_has t (10 ∷ []) (flat_map string_of words) e) in
    omega (
      arith,
      program_weight text one program settings faultless holds,
      tables_size text (1 ∷ 0 ∷ 0 ∷ []) (lowered_program program settings),
      program_apart program (own_cost text program) body_tokens (body_weight text)
          (λ routine. sum_by names_count (callees program routine))
          (λ routine. omega (arith, cost_words text (stmt_words routine.procedure.body))),
      none_of_all program (body_weight text)
          (λ name.
          omega (arith, none, named_strings text program name, program_strings text program)),
    )

unshared_law : (program : Program) (settings : List Setting) → IsFaultless program →
    HoldsItsWords program →
    All (λ text. Contains (texts_of program) text) (unshared_tables program settings).texts
unshared_law program settings faultless holds k d inside =
    let all = texts_of program in
    let texts = (unshared_tables program settings).texts in
    let text = strange all (much_of program) in
    let one = slice_index_or texts k d in
    let light : text one < much_of program =
    omega (
      arith,
      bounded program settings faultless holds,
      get_or-le-sum_by text texts k d inside,
    ) in
    found_in one all (light_known all (much_of program) one light)

pub texts_law : (program : Program) (settings : List Setting) → IsFaultless program →
    HoldsItsWords program →
    All (λ text. Contains (texts_of program) text) (flat_tables program settings).texts
texts_law program settings faultless holds k d inside =
    let old = (unshared_tables program settings).texts in
    let one = slice_index_or (flat_tables program settings).texts k d in
    let there = different-old old k d inside in
    subst (λ text. Contains (texts_of program) text) there.2
    (unshared_law program settings faultless holds there.0 one there.1)

-- ---- different texts

abbrev without : List ℕ → List (List ℕ) → List (List ℕ)
without text all = filter (λ one. not (bytes_eq one text)) all

abbrev total : List (List ℕ) → ℕ
total [] = 0
total (one ∷ all) = length one + total all

less_total : (text : List ℕ) (all : List (List ℕ)) → total (without text all) ≤ total all
less_total text [] = omega arith
less_total text (one ∷ all) = by (not (bytes_eq one text)) (less_total text all)
  where
    by : (b : Bool) → total (without text all) ≤ total all →
        total (cond b (one ∷ without text all) (without text all)) ≤ length one + total all
    by true few = omega arith
    by false few = omega arith

taken_total : (text : List ℕ) (all : List (List ℕ)) → has text all ≡ true →
    length text + total (without text all) ≤ total all
taken_total text [] e = cc
taken_total text (one ∷ all) e =
    by (bytes_eq one text) (bytes_eq-Decides one text).0 e (less_total text all)
    (taken_total text all)
  where
    by : (b : Bool) → (b ≡ true → one ≡ text) → (b || has text all) ≡ true →
        total (without text all) ≤ total all →
        (has text all ≡ true → length text + total (without text all) ≤ total all) →
        length text + total (cond (not b) (one ∷ without text all) (without text all))
        ≤ length one + total all
    by true same e few others = omega (arith, ap length (same refl), few)
    by false same e few others = omega (arith, others e)

apart : (one other : List ℕ) → bytes_eq one other ≡ false → bytes_eq other one ≡ false
apart one other e = by (bytes_eq other one) (bytes_eq-Decides other one).0
  where
    by : (b : Bool) → (b ≡ true → other ≡ one) → b ≡ false
    by false same = refl
    by true same =
        let there = (bytes_eq-Decides one other).1 (sym (same refl)) in
        cc

still_has : (text one : List ℕ) (all : List (List ℕ)) → bytes_eq text one ≡ false →
    has one all ≡ true → has one (without text all) ≡ true
still_has text one [] e there = cc
still_has text one (first ∷ all) e there =
    by (bytes_eq first one) (bytes_eq first text) refl (bytes_eq-Decides first one).0 refl there
    (still_has text one all e)
  where
    by : (b c : Bool) → bytes_eq first one ≡ b → (b ≡ true → first ≡ one) →
        bytes_eq first text ≡ c → (b || has one all) ≡ true →
        (has one all ≡ true → has one (without text all) ≡ true) →
        has one (cond (not c) (first ∷ without text all) (without text all)) ≡ true
    by true false here same kept there others = rw here refl
    by true true here same kept there others =
        let gone = apart text one e in
        let at : bytes_eq one text ≡ true =
        subst (λ t. bytes_eq t text ≡ true) (same refl) kept in
        cc
    by false true here same kept there others = others there
    by false false here same kept there others = rest_has one first (without text all) (others there)

-- each of a list's texts is among these
abbrev AreAmong : List (List ℕ) → List (List ℕ) → Type 0
AreAmong texts all = AllByRecursion (λ text. has text all ≡ true) texts

still_among : (text : List ℕ) (texts all : List (List ℕ)) →
    AllByRecursion (λ other. bytes_eq text other ≡ false) texts → AreAmong texts all →
    AreAmong texts (without text all)
still_among text [] all apart among = tt
still_among text (one ∷ texts) all apart among =
    (still_has text one all apart.0 among.0, still_among text texts all apart.1 among.1)

distinct_total : (texts all : List (List ℕ)) → IsDistinct bytes_eq texts → AreAmong texts all →
    sum_by length texts ≤ total all
unfolding IsDistinct
distinct_total [] all distinct among = omega arith
distinct_total (text ∷ texts) all distinct among =
    omega (
      arith,
      sum_by-cons length text texts,
      taken_total text all among.0,
      distinct_total texts (without text all) distinct.1
          (still_among text texts all distinct.0 among.1),
    )

has_found : (text : List ℕ) (all : List (List ℕ)) (k : ℕ) → k < length all →
    slice_index_or all k text ≡ text → has text all ≡ true
has_found text [] k inside e = absurd (omega arith)
has_found text (one ∷ all) zero inside e = subst (λ t. has text (t ∷ all) ≡ true) (sym e) (first_has text all)
has_found text (one ∷ all) (suc k) inside e =
    rest_has text one all (has_found text all k (omega arith) e)

all_among : (texts all : List (List ℕ)) → All (λ text. Contains all text) texts →
    AreAmong texts all
all_among [] all each = tt
all_among (text ∷ texts) all each =
    let here = each 0 text (omega arith) in (
      has_found text all here.0 here.1 here.2,
      all_among texts all (λ k d inside. each (suc k) d (omega arith)),
    )

-- ---- and the source

mutual
  fewer : (text : List ℕ) → length (unescaped text) ≤ length text
  fewer [] = omega arith
  fewer (b ∷ rest) = by (b == backslash) (fewer_behind rest) (fewer rest)
    where
      by : (c : Bool) → length (behind_backslash rest) ≤ length rest →
          length (unescaped rest) ≤ length rest →
          length (if c then behind_backslash rest else b ∷ unescaped rest)
          ≤ suc (length rest)
      by true few less = omega arith
      by false few less = omega arith

  fewer_behind : (text : List ℕ) → length (behind_backslash text) ≤ length text
  fewer_behind [] = omega arith
  fewer_behind (letter ∷ rest) = omega (arith, fewer rest)

string_total : (words : List Word) → total (flat_map string_of words) ≤ bytes words
string_total [] = omega arith
string_total (word.Str text ∷ words) =
    omega (arith, string_total words, fewer text, quoted text)
  where
    quoted : (text : List ℕ) → length text ≤ length (word_text (word.Str text))
    quoted text = omega (arith, length-append text (34 ∷ []))
string_total (word.Name name ∷ words) = omega (arith, string_total words)
string_total (word.Number value ∷ words) = omega (arith, string_total words)
string_total (word.Ditto ∷ words) = omega (arith, string_total words)
string_total (word.Symbol symbol ∷ words) = omega (arith, string_total words)
string_total (word.Keyword key ∷ words) = omega (arith, string_total words)
string_total (word.End ∷ words) = omega (arith, string_total words)

pub different_law : (program : Program) (texts : List (List ℕ)) → HoldsItsWords program →
    All (λ text. Contains (texts_of program) text) texts → IsDistinct bytes_eq texts →
    sum_by length texts ≤ length program.source + 1
different_law program texts holds among distinct =
    omega (
      arith,
      holds.fit,
      bytes_sum holds.words,
      string_total holds.words,
      ap total (same_strings program holds.words holds.spells),
      distinct_total texts (texts_of program) distinct (all_among texts (texts_of program) among),
    )

-- ---- the whole size
pub size_law : (program : Program) (settings : List Setting) → IsFaultless program →
    HoldsItsWords program →
    code_size (flat_tables program settings) ≤ 32 * (source_size program + 1)
size_law program settings faultless holds =
    let texts = (flat_tables program settings).texts in
    omega (
      arith,
      bare_law program settings faultless holds,
      different_law program texts holds (texts_law program settings faultless holds)
          (different-distinct (unshared_tables program settings).texts),
    )
