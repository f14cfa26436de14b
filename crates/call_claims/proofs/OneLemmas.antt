-- A text is one word at most, and words ask for one thing.
use Rattle.std.proofs.Common.{◌≡◌, ◌≢◌, ℕ, suc, ◌+◌, Bool, true, false, ◌&&◌, ◌||◌, List, [], ◌∷◌, ◌++◌, length, take, drop, get_or}
use Rattle.std.proofs.Common.{codes, IsTrue, Option, Some, None, refl, sym, ◌∙◌, ap, subst, arith, cond}
use Rattle.std.proofs.Math.Seq.{take-append_seam, drop-append_seam}
use Rattle.std.proofs.lemmas.List.{append-nil, length-append}
use Rattle.std.specs.List.{list_all, prefix_len}
use Rattle.std.specs.Char.{is_ascii_digit}
use Rattle.std.specs.Str.Parse.{digits_value}
use Rattle.zpl_text.specs.Bytes.{is_word_start, is_word_byte}
use Rattle.zpl_text.specs.Kinds.{IsWord as IsWordText}
use Rattle.zpl_claims.specs.of_zpl_binding.Settings.{Setting}
use Rattle.call_claims.specs.Words.{AreFactors, IsFactor, IsNumber, IsTurnsWord, IsSettingWord, IsWord, Word, Order}
use Rattle.call_claims.specs.Words.AreFactors.{last_factor, one_factor}
use Rattle.call_claims.specs.Words.{AreLetters, Turns, Report, Checked, Save, Links, Latency, Grid, Letters, Sets, grid_of, with_letters}
use Rattle.zpl_claims.specs.Build.{no_options}
use Rattle.zpl_claims.specs.declared.options.Options.{Options}
use Rattle.call_claims.specs.Command.{Asked, Adds, AddAll, Asks, IsCommandOf, IsWorded, asked_more}
use Rattle.call_claims.specs.Command.AddAll.{no_more, one_more}
use Rattle.call_claims.specs.Setting.{setting_in, set_by}

-- ---- settings
both : (a b : Bool) → IsTrue (a && b) → IsTrue a × IsTrue b
both true b h = (refl, h)
both false b h = cc

either : (a b : Bool) → IsTrue a → IsTrue (a || b)
either true b h = refl
either false b h = cc

and_true : (a b : Bool) → IsTrue a → IsTrue b → IsTrue (a && b)
and_true true b h i = i
and_true false b h i = cc

word_bytes : (name : List ℕ) → IsWordText name → IsTrue (list_all is_word_byte name)
word_bytes [] is = absurd is
word_bytes (b ∷ after) is =
    and_true (is_word_byte b) (list_all is_word_byte after)
    (either (is_word_start b) _ is.0) is.1

one_further : (b : Bool) (n m : ℕ) → IsTrue b → n ≡ m → cond b (1 + n) 0 ≡ 1 + m
one_further true n m h e = ap (λ k. 1 + k) e
one_further false n m h e = cc

-- bytes that pass a test, where none follows that does
pub front_len : (test : ℕ → Bool) (front rest : List ℕ) → IsTrue (list_all test front)
    → prefix_len test rest ≡ 0 → prefix_len test (front ++ rest) ≡ length front
front_len test [] rest all ends = ends
front_len test (b ∷ front) rest all ends =
    let parts = both (test b) (list_all test front) all in
    one_further (test b) (prefix_len test (front ++ rest)) (length front) parts.0
    (front_len test front rest parts.1 ends) ∙ grind arith

-- so the bytes of a word
whole_word : (name rest : List ℕ) → IsTrue (list_all is_word_byte name)
    → prefix_len is_word_byte rest ≡ 0 → prefix_len is_word_byte (name ++ rest) ≡ length name
whole_word = front_len is_word_byte

-- a setting's word sets that
pub set_word : (word : List ℕ) (setting : Setting) → IsSettingWord word setting
    → setting_in word ≡ Some setting
set_word word setting is =
    let rest : List ℕ = codes ":=" ++ setting.value in
    let at : prefix_len is_word_byte (setting.name ++ rest) ≡ length setting.name =
    whole_word setting.name rest (word_bytes setting.name is.named.0) refl in
    let here : setting_in word ≡ setting_in (setting.name ++ rest) = ap setting_in is.split in
    let cut : setting_in (setting.name ++ rest)
    ≡ set_by (take (length setting.name) (setting.name ++ rest))
    (drop (length setting.name) (setting.name ++ rest)) =
    ap (λ n. set_by (take n (setting.name ++ rest)) (drop n (setting.name ++ rest))) at in
    let front : set_by (take (length setting.name) (setting.name ++ rest))
    (drop (length setting.name) (setting.name ++ rest)) ≡ set_by setting.name rest =
    ap (λ n. set_by n (drop (length setting.name) (setting.name ++ rest))) (take-append_seam setting.name rest)
    ∙ ap (set_by setting.name) (drop-append_seam setting.name rest) in
    here ∙ (cut ∙ front)

-- and that of turns sets nothing
pub turns_word : (word : List ℕ) (n : ℕ) → IsTurnsWord word n → setting_in word ≡ None
turns_word word n is = ap setting_in is.split

-- ---- what a word sets
abbrev pub sets : Word → Option Setting
sets (Order file) = None
sets (Turns n) = None
sets Report = None
sets Checked = None
sets Save = None
sets (Links capacity) = None
sets (Latency ticks) = None
sets (Grid grid) = None
sets (Letters options) = None
sets (Sets setting) = Some setting

pub sets_are : (text : List ℕ) (word : Word) → IsWord text word → setting_in text ≡ sets word
sets_are text (Order file) is = ap setting_in is
sets_are text (Turns n) is = turns_word text n is
sets_are text Report is = ap setting_in is
sets_are text Checked is = ap setting_in is
sets_are text Save is = ap setting_in is
sets_are text (Links capacity) is = ap setting_in is.split
sets_are text (Latency ticks) is = ap setting_in is.split
sets_are text (Grid grid) is = ap setting_in is.split
sets_are text (Letters options) is = ap setting_in is.split
sets_are text (Sets setting) is = set_word text setting is

-- ---- a word
-- the letter that a word begins with that sets nothing
abbrev letter : Word → ℕ
letter (Order file) = 111
letter (Turns n) = 116
letter Report = 114
letter Checked = 99
letter Save = 115
letter (Links capacity) = 108
letter (Latency ticks) = 108
letter (Grid grid) = 103
letter (Letters options) = 111
letter (Sets setting) = 0

begins : (text : List ℕ) (word : Word) → sets word ≡ None → IsWord text word
    → get_or text 0 0 ≡ letter word
begins text (Order file) none is = ap (λ t. get_or t 0 0) is
begins text (Turns n) none is = ap (λ t. get_or t 0 0) is.split
begins text Report none is = ap (λ t. get_or t 0 0) is
begins text Checked none is = ap (λ t. get_or t 0 0) is
begins text Save none is = ap (λ t. get_or t 0 0) is
begins text (Links capacity) none is = ap (λ t. get_or t 0 0) is.split
begins text (Latency ticks) none is = ap (λ t. get_or t 0 0) is.split
begins text (Grid grid) none is = ap (λ t. get_or t 0 0) is.split
begins text (Letters options) none is = ap (λ t. get_or t 0 0) is.split
begins text (Sets setting) none is = absurd (let no : ⊥ = cc in no)

number_is_one : (text other : List ℕ) (n m : ℕ) → text ≡ other → IsNumber text n
    → IsNumber other m → n ≡ m
number_is_one text other n m same f g = f.value ∙ (ap (λ t. digits_value 10 t) same ∙ sym g.value)

-- ---- factors
-- the digits before an `x`
pub digits_before : (front rest : List ℕ) → IsTrue (list_all is_ascii_digit front)
    → prefix_len is_ascii_digit (front ++ (codes "x" ++ rest)) ≡ length front
digits_before front rest all = front_len is_ascii_digit front (codes "x" ++ rest) all refl

digits_alone : (text : List ℕ) → IsTrue (list_all is_ascii_digit text)
    → prefix_len is_ascii_digit text ≡ length text
digits_alone text all =
    ap (prefix_len is_ascii_digit) (sym (append-nil text)) ∙ front_len is_ascii_digit text [] all refl

-- digits have no `x` among them
pub digits_end : (text front rest : List ℕ) → IsTrue (list_all is_ascii_digit text)
    → IsTrue (list_all is_ascii_digit front) → text ≡ front ++ (codes "x" ++ rest) → ⊥
digits_end text front rest all some split =
    let long : length text ≡ length front + length (codes "x" ++ rest) =
    ap length split ∙ length-append front (codes "x" ++ rest) in
    let some_more : length (codes "x" ++ rest) ≡ suc (length rest) = refl in
    let short : length text ≡ length front =
    sym (digits_alone text all) ∙ (ap (prefix_len is_ascii_digit) split
    ∙ digits_before front rest some) in
    omega (arith, long, some_more, short)

-- and end at one `x`
pub parts_one : (front rest first behind : List ℕ) → IsTrue (list_all is_ascii_digit front)
    → IsTrue (list_all is_ascii_digit first)
    → front ++ (codes "x" ++ rest) ≡ first ++ (codes "x" ++ behind)
    → (front ≡ first) × (rest ≡ behind)
parts_one front rest first behind all some same =
    let many : length front ≡ length first = sym (digits_before front rest all)
    ∙ (ap (prefix_len is_ascii_digit) same ∙ digits_before first behind some) in
    let fronts : front ≡ first = sym (take-append_seam front (codes "x" ++ rest))
    ∙ (ap (take (length front)) same
    ∙ (ap (λ n. take n (first ++ (codes "x" ++ behind))) many
    ∙ take-append_seam first (codes "x" ++ behind))) in
    let backs : codes "x" ++ rest ≡ codes "x" ++ behind =
    sym (drop-append_seam front (codes "x" ++ rest))
    ∙ (ap (drop (length front)) same
    ∙ (ap (λ n. drop n (first ++ (codes "x" ++ behind))) many
    ∙ drop-append_seam first (codes "x" ++ behind))) in
    (fronts, ap (drop 1) backs)

factor_one : (text : List ℕ) (n m : ℕ) → IsFactor text n → IsFactor text m → n ≡ m
factor_one text n m f g = f.number.value ∙ sym g.number.value

pub factors_one : (text : List ℕ) (one other : List ℕ) → AreFactors text one
    → AreFactors text other → one ≡ other
factors_one text one other (last_factor {n = n} f) (last_factor {n = m} g) =
    ap (λ k. k ∷ []) (factor_one text n m f g)
factors_one text one other (last_factor f) (one_factor {front = front} {rest = rest} split g more) =
    absurd (digits_end text front rest f.number.digits g.number.digits split)
factors_one text one other (one_factor {front = front} {rest = rest} split f more) (last_factor g) =
    absurd (digits_end text front rest g.number.digits f.number.digits split)
factors_one text one other (one_factor {front = front} {rest = rest} {n = n} {factors = ns} split f more) (one_factor {front = first} {rest = behind} {n = m} {factors = ms} cut g others) =
    let parts = parts_one front rest first behind f.number.digits g.number.digits
    (sym split ∙ cut) in
    let heads : n ≡ m = factor_one first n m (subst (λ t. IsFactor t n) parts.0 f) g in
    let tails : ns ≡ ms = factors_one behind ns ms (subst (λ t. AreFactors t ns) parts.1 more)
    others in
    ap (λ k. k ∷ ns) heads ∙ ap (λ (ks : List ℕ). m ∷ ks) tails

-- `links=` and `latency=` begin with one letter
seconds_differ : (capacity ticks : List ℕ) → codes "links=" ++ capacity ≢ codes "latency=" ++ ticks
seconds_differ capacity ticks same = omega (arith, ap (λ t. get_or t 1 0) same)

-- and so do `order=` and `opt=`
seconds_of_o : (file letters : List ℕ) → codes "order=" ++ file ≢ codes "opt=" ++ letters
seconds_of_o file letters same = omega (arith, ap (λ t. get_or t 1 0) same)

letters_are_one : (letters other : List ℕ) (one two : Options) → letters ≡ other
    → AreLetters letters one → AreLetters other two → one ≡ two
letters_are_one letters other one two same f g =
    let both : Some one ≡ Some two = sym f.told ∙ (ap (with_letters no_options) same ∙ g.told) in cc

same_word : (text : List ℕ) (one other : Word) → sets one ≡ None → letter one ≡ letter other
    → IsWord text one → IsWord text other → one ≡ other
same_word text (Order f) (Order g) none e a b = ap Order (ap (drop 6) (sym a ∙ b))
same_word text (Turns n) (Turns m) none e a b =
    ap Turns (number_is_one a.digits b.digits n m (ap (drop 6) (sym a.split ∙ b.split)) a.number b.number)
same_word text Report Report none e a b = refl
same_word text Checked Checked none e a b = refl
same_word text Save Save none e a b = refl
same_word text (Links n) (Links m) none e a b =
    ap Links (number_is_one a.digits b.digits n m (ap (drop 6) (sym a.split ∙ b.split)) a.links.number b.links.number)
same_word text (Latency n) (Latency m) none e a b =
    ap Latency (number_is_one a.digits b.digits n m (ap (drop 8) (sym a.split ∙ b.split)) a.latency.number b.latency.number)
same_word text (Grid g) (Grid h) none e a b =
    let texts : a.text ≡ b.text = ap (drop 5) (sym a.split ∙ b.split) in
    let factors : a.tells.factors ≡ b.tells.factors =
    factors_one b.text a.tells.factors b.tells.factors
    (subst (λ t. AreFactors t a.tells.factors) texts a.tells.are) b.tells.are in
    ap Grid (a.tells.is ∙ (ap grid_of factors ∙ sym b.tells.is))
same_word text (Letters x) (Letters y) none e a b =
    ap Letters (letters_are_one a.letters b.letters x y (ap (drop 4) (sym a.split ∙ b.split)) a.are b.are)
same_word text (Letters x) (Turns m) none e a b = absurd (omega (arith, e))
same_word text (Turns n) (Letters y) none e a b = absurd (omega (arith, e))
same_word text (Letters x) Report none e a b = absurd (omega (arith, e))
same_word text Report (Letters y) none e a b = absurd (omega (arith, e))
same_word text (Letters x) (Links m) none e a b = absurd (omega (arith, e))
same_word text (Links n) (Letters y) none e a b = absurd (omega (arith, e))
same_word text (Letters x) (Latency m) none e a b = absurd (omega (arith, e))
same_word text (Latency n) (Letters y) none e a b = absurd (omega (arith, e))
same_word text (Letters x) (Grid h) none e a b = absurd (omega (arith, e))
same_word text (Grid g) (Letters y) none e a b = absurd (omega (arith, e))
same_word text (Letters x) (Sets s) none e a b = absurd (omega (arith, e))
same_word text (Order f) (Letters y) none e a b =
    absurd (seconds_of_o f b.letters (sym a ∙ b.split))
same_word text (Letters x) (Order g) none e a b =
    absurd (seconds_of_o g a.letters (sym b ∙ a.split))
same_word text (Grid g) (Order h) none e a b = absurd (omega (arith, e))
same_word text (Grid g) (Turns m) none e a b = absurd (omega (arith, e))
same_word text (Grid g) Report none e a b = absurd (omega (arith, e))
same_word text (Grid g) (Links m) none e a b = absurd (omega (arith, e))
same_word text (Grid g) (Latency m) none e a b = absurd (omega (arith, e))
same_word text (Grid g) (Sets s) none e a b = absurd (omega (arith, e))
same_word text (Order f) (Grid h) none e a b = absurd (omega (arith, e))
same_word text (Turns n) (Grid h) none e a b = absurd (omega (arith, e))
same_word text Report (Grid h) none e a b = absurd (omega (arith, e))
same_word text (Links n) (Grid h) none e a b = absurd (omega (arith, e))
same_word text (Latency n) (Grid h) none e a b = absurd (omega (arith, e))
same_word text (Links n) (Latency m) none e a b =
    absurd (seconds_differ a.digits b.digits (sym a.split ∙ b.split))
same_word text (Latency n) (Links m) none e a b =
    absurd (seconds_differ b.digits a.digits (sym b.split ∙ a.split))
same_word text (Order f) (Turns m) none e a b = absurd (omega (arith, e))
same_word text (Order f) Report none e a b = absurd (omega (arith, e))
same_word text (Order f) (Links m) none e a b = absurd (omega (arith, e))
same_word text (Order f) (Latency m) none e a b = absurd (omega (arith, e))
same_word text (Turns n) (Latency m) none e a b = absurd (omega (arith, e))
same_word text Report (Latency m) none e a b = absurd (omega (arith, e))
same_word text (Latency n) (Order g) none e a b = absurd (omega (arith, e))
same_word text (Latency n) (Turns m) none e a b = absurd (omega (arith, e))
same_word text (Latency n) Report none e a b = absurd (omega (arith, e))
same_word text (Latency n) (Sets s) none e a b = absurd (omega (arith, e))
same_word text (Order f) (Sets s) none e a b = absurd (omega (arith, e))
same_word text (Turns n) (Order g) none e a b = absurd (omega (arith, e))
same_word text (Turns n) Report none e a b = absurd (omega (arith, e))
same_word text (Turns n) (Links m) none e a b = absurd (omega (arith, e))
same_word text (Turns n) (Sets s) none e a b = absurd (omega (arith, e))
same_word text Report (Order g) none e a b = absurd (omega (arith, e))
same_word text Report (Turns m) none e a b = absurd (omega (arith, e))
same_word text Report (Links m) none e a b = absurd (omega (arith, e))
same_word text Report (Sets s) none e a b = absurd (omega (arith, e))
same_word text (Links n) (Order g) none e a b = absurd (omega (arith, e))
same_word text (Links n) (Turns m) none e a b = absurd (omega (arith, e))
same_word text (Links n) Report none e a b = absurd (omega (arith, e))
same_word text (Links n) (Sets s) none e a b = absurd (omega (arith, e))
same_word text Checked (Order g) none e a b = absurd (omega (arith, e))
same_word text (Order f) Checked none e a b = absurd (omega (arith, e))
same_word text Checked (Turns m) none e a b = absurd (omega (arith, e))
same_word text (Turns n) Checked none e a b = absurd (omega (arith, e))
same_word text Checked Report none e a b = absurd (omega (arith, e))
same_word text Report Checked none e a b = absurd (omega (arith, e))
same_word text Checked (Links m) none e a b = absurd (omega (arith, e))
same_word text (Links n) Checked none e a b = absurd (omega (arith, e))
same_word text Checked (Latency m) none e a b = absurd (omega (arith, e))
same_word text (Latency n) Checked none e a b = absurd (omega (arith, e))
same_word text Checked (Grid h) none e a b = absurd (omega (arith, e))
same_word text (Grid g) Checked none e a b = absurd (omega (arith, e))
same_word text Checked (Letters y) none e a b = absurd (omega (arith, e))
same_word text (Letters x) Checked none e a b = absurd (omega (arith, e))
same_word text Checked (Sets s) none e a b = absurd (omega (arith, e))
same_word text Save (Order g) none e a b = absurd (omega (arith, e))
same_word text (Order f) Save none e a b = absurd (omega (arith, e))
same_word text Save (Turns m) none e a b = absurd (omega (arith, e))
same_word text (Turns n) Save none e a b = absurd (omega (arith, e))
same_word text Save Report none e a b = absurd (omega (arith, e))
same_word text Report Save none e a b = absurd (omega (arith, e))
same_word text Save (Links m) none e a b = absurd (omega (arith, e))
same_word text (Links n) Save none e a b = absurd (omega (arith, e))
same_word text Save (Latency m) none e a b = absurd (omega (arith, e))
same_word text (Latency n) Save none e a b = absurd (omega (arith, e))
same_word text Save (Grid h) none e a b = absurd (omega (arith, e))
same_word text (Grid g) Save none e a b = absurd (omega (arith, e))
same_word text Save (Letters y) none e a b = absurd (omega (arith, e))
same_word text (Letters x) Save none e a b = absurd (omega (arith, e))
same_word text Save (Sets s) none e a b = absurd (omega (arith, e))
same_word text Checked Save none e a b = absurd (omega (arith, e))
same_word text Save Checked none e a b = absurd (omega (arith, e))
same_word text (Sets s) other none e a b = absurd (let no : ⊥ = cc in no)

the_setting : (word : Word) (setting : Setting) → sets word ≡ Some setting → word ≡ Sets setting
the_setting (Sets s) setting e = ap Sets (let same : s ≡ setting = cc in same)
the_setting (Order file) setting e = absurd (let no : ⊥ = cc in no)
the_setting (Turns n) setting e = absurd (let no : ⊥ = cc in no)
the_setting Report setting e = absurd (let no : ⊥ = cc in no)
the_setting Checked setting e = absurd (let no : ⊥ = cc in no)
the_setting Save setting e = absurd (let no : ⊥ = cc in no)
the_setting (Links capacity) setting e = absurd (let no : ⊥ = cc in no)
the_setting (Latency ticks) setting e = absurd (let no : ⊥ = cc in no)
the_setting (Grid grid) setting e = absurd (let no : ⊥ = cc in no)
the_setting (Letters options) setting e = absurd (let no : ⊥ = cc in no)

word_by : (text : List ℕ) (one other : Word) (set : Option Setting) → sets one ≡ set
    → sets other ≡ set → IsWord text one → IsWord text other → one ≡ other
word_by text one other None e f a b =
    same_word text one other e (sym (begins text one e a) ∙ begins text other f b) a b
word_by text one other (Some setting) e f a b =
    the_setting one setting e ∙ sym (the_setting other setting f)

pub word_is_one : (text : List ℕ) (one other : Word) → IsWord text one → IsWord text other
    → one ≡ other
word_is_one text one other a b =
    word_by text one other (setting_in text) (sym (sets_are text one a))
    (sym (sets_are text other b)) a b

-- ---- words
pub adds_one : (before : Asked) (text : List ℕ) (one other : Asked) → Adds before text one
    → Adds before text other → one ≡ other
adds_one before text one other f g =
    let same : f.word ≡ g.word = word_is_one text f.word g.word f.is g.is in
    let both : Some one ≡ Some other = sym f.adds ∙ (ap (asked_more before) same ∙ g.adds) in
    cc

pub add_all_one : (texts : List (List ℕ)) (before one other : Asked) → AddAll before texts one
    → AddAll before texts other → one ≡ other
add_all_one [] before one other no_more no_more = refl
add_all_one (text ∷ texts) before one other (one_more {next = next} a f) (one_more {next = more} b g) =
    add_all_one texts more one other
    (subst (λ n. AddAll n texts one) (adds_one before text next more a b) f) g

-- ---- commands
pub worded_once : (words : List (List ℕ)) (name next file other : List ℕ) (asked more : Asked)
    → IsWorded words name file asked → IsWorded words next other more
    → (name ≡ next) × (file ≡ other) × (asked ≡ more)
worded_once words name next file other asked more f g =
    let same : name ∷ file ∷ f.more ≡ next ∷ other ∷ g.more = sym f.split ∙ g.split in
    let names : name ≡ next = cc in
    let files : file ≡ other = cc in
    let mores : f.more ≡ g.more = cc in (
      names,
      files,
      add_all_one g.more _ asked more (subst (λ ws. AddAll _ ws asked) mores f.are) g.are,
    )

-- what holds of the file of a command and of what is asked for holds of each such
module _ (name : List ℕ) (Takes : Asked → Type 0) (words : List (List ℕ)) where
  pub of_given : {Holds : List ℕ → Asked → Type 0} (file : List ℕ) (asked : Asked)
      → IsCommandOf name Takes words file asked → Asks (IsCommandOf name Takes) words Holds
      → Holds file asked
  of_given {Holds} file asked given h =
      let same = worded_once words name name file h.file asked h.asked given.worded h.given.worded
      in
      subst (λ f. Holds f asked) (sym same.1)
      (subst (λ a. Holds h.file a) (sym same.2) h.holds)

  pub as_asked : {Holds Also : List ℕ → Asked → Type 0}
      (r : Asks (IsCommandOf name Takes) words Also) → Asks (IsCommandOf name Takes) words Holds
      → Holds r.file r.asked
  as_asked r h = of_given r.file r.asked r.given h
