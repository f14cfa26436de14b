-- Votes in code and in counted code: their words are numbers of members.
use Rattle.std.proofs.Common.{◌≡◌, refl, sym, ◌∙◌, ap, ap₂, subst, ℕ, zero, suc, ◌+◌, ◌==◌, ◌<◌}
use Rattle.std.proofs.Common.{◌≤◌, Bool, true, false, cond, List, [], ◌∷◌, ◌++◌, length, map, arith}
use Rattle.std.proofs.Common.{pos, negsuc, ℤ, le-ltb, lt-ltb, ltb-true, ltb-false, ltb, fold, find}
use Rattle.std.specs.Prelude.{Option, Some, None, slice_get, if◌then◌else◌, int_lt, nat_lt}
use Rattle.std.specs.Prelude.{option_and_then}
use Rattle.std.specs.Int.{int_min}
use Rattle.std.specs.Option.{option_map}
use Rattle.std.proofs.lemmas.Option.{slice_get-map}
use Rattle.node_form.specs.of_zpl_nums.declared.ends.End.TheVariants.{Trap}
use Rattle.node_form.specs.of_zpl_nums.declared.ends.TrapKind.TheVariants.{DivideByZero}
use Rattle.node_form.specs.declared.members.Member.{Member}
use Rattle.node_form.specs.declared.members.Member.TheVariants as member
use Rattle.node_form.specs.declared.tables.Tables.{Tables}
use Rattle.grid_meaning.specs.Collective.{Kin, decided, first_word, flag_word}
use Rattle.grid_meaning.specs.Collective.{group_line, joined_values, kept_with}
use Rattle.grid_meaning.specs.Collective.{keeping, least_flag, line_or_zero, member_line, value_for}
use Rattle.grid_meaning.specs.Collective.{value_of_all, voted}
use Rattle.grid_meaning.specs.Collective.{word_flag, word_from, word_or_zero}
use Rattle.grid_meaning.specs.Local.{Local, left}
use Rattle.counted_code.specs.Counted.{counted, counted_group, counted_member}
use Rattle.counted_code.specs.Alike.{stretched, stretched_entry, stretched_word}
use Rattle.counted_code.specs.Alike.{votes_at}
use Rattle.zpl_region.proofs.ListLemmas.{slice_get-append_right}
use Rattle.counted_code.proofs.CountLemmas.{member_long}
use Rattle.counted_code.proofs.GroupLemmas.{head, split}
use Rattle.counted_code.proofs.TurnLemmas.{ActsAlike, BothGo, IsLongOf, RowsAlike, image}
use Rattle.counted_code.proofs.TurnLemmas.{kept_none, left_alike}
use Rattle.counted_code.proofs.TurnLemmas.{counting_wear, row_of_vote}
use Rattle.counted_code.proofs.WornLemmas.{worn}

-- ---- numbers go on in their order
pub stretched_less : (n k m : ℕ) → k < m → stretched n k < stretched n m
stretched_less n k zero less = absurd (omega (arith, less))
stretched_less n zero (suc m) less = omega arith
stretched_less n (suc k) (suc m) less =
    let ih = stretched_less n k m (omega (arith, less)) in omega (arith, ih)

pub stretched_most : (n k m : ℕ) → k ≤ m → stretched n k ≤ stretched n m
stretched_most n zero m less = omega arith
stretched_most n (suc k) zero less = absurd (omega (arith, less))
stretched_most n (suc k) (suc m) less =
    let ih = stretched_most n k m (omega (arith, less)) in omega (arith, ih)

pub stretched_test : (n k m : ℕ) → ltb (stretched n k) (stretched n m) ≡ ltb k m
stretched_test n k m = by (ltb k m) refl
  where
    by : (b : Bool) → ltb k m ≡ b → ltb (stretched n k) (stretched n m) ≡ b
    by true e = lt-ltb (stretched n k) (stretched n m) (stretched_less n k m (ltb-true k m e))
    by false e = le-ltb (stretched n k) (stretched n m) (stretched_most n m k (ltb-false k m e))

-- ---- words of flags
not_below : (m : ℕ) → int_lt (pos m) (pos 0) ≡ false
not_below m = le-ltb m 0 (omega arith)

flag_far : (n : ℕ) (flag : Option ℕ) → flag_word (option_map (stretched n) flag)
    ≡ stretched_word n (flag_word flag)
flag_far n None = refl
flag_far n (Some member) = refl

some_none : (m k : ℕ) → least_flag (pos m) (negsuc k) ≡ pos m
some_none m k = ap (λ b. cond b (negsuc k) (pos m)) (not_below m)

some_some : (m k : ℕ) → least_flag (pos m) (pos k) ≡ int_min (pos m) (pos k)
some_some m k =
    ap (λ b. cond b (pos k) (cond (int_lt (pos k) (pos 0)) (pos m) (int_min (pos m) (pos k))))
    (not_below m)
    ∙ ap (λ b. cond b (pos m) (int_min (pos m) (pos k))) (not_below k)

least_far : (n : ℕ) (a b : ℤ)
    → least_flag (stretched_word n a) (stretched_word n b) ≡ stretched_word n (least_flag a b)
least_far n (pos m) (pos k) =
    some_some (stretched n m) (stretched n k)
    ∙ (ap (λ b. cond b (pos (stretched n k)) (pos (stretched n m))) (stretched_test n k m)
    ∙ (by (ltb k m) ∙ ap (stretched_word n) (sym (some_some m k))))
  where
    by : (b : Bool) → cond b (pos (stretched n k)) (pos (stretched n m))
        ≡ stretched_word n (cond b (pos k) (pos m))
    by true = refl
    by false = refl
least_far n (pos m) (negsuc k) =
    some_none (stretched n m) k ∙ ap (stretched_word n) (sym (some_none m k))
least_far n (negsuc m) b = refl

word_far : (n : ℕ) (word : ℤ) → word_flag (stretched_word n word)
    ≡ option_map (stretched n) (word_flag word)
word_far n (pos k) =
    ap (λ b. if b then None else Some (stretched n k)) (not_below (stretched n k))
    ∙ ap (λ b. option_map (stretched n) (if b then None else Some k)) (sym (not_below k))
word_far n (negsuc k) = refl

-- ---- what is kept
first_far : (n : ℕ) (words : List ℤ) → first_word (map (stretched_word n) words)
    ≡ stretched_word n (first_word words)
first_far n [] = refl
first_far n (word ∷ words) = refl

joined_far : (n : ℕ) (kept : List (ℕ × List ℤ)) (value : ℤ)
    → fold (λ value entry. least_flag value (first_word entry.1)) (stretched_word n value)
    (map (stretched_entry n) kept)
    ≡ stretched_word n (fold (λ value entry. least_flag value (first_word entry.1)) value kept)
joined_far n [] value = refl
joined_far n (entry ∷ kept) value =
    ap (λ value. fold (λ value entry. least_flag value (first_word entry.1)) value
    (map (stretched_entry n) kept))
    (ap (least_flag (stretched_word n value)) (first_far n entry.1)
    ∙ least_far n value (first_word entry.1))
    ∙ joined_far n kept (least_flag value (first_word entry.1))

found_far : (n from : ℕ) (kept : List (ℕ × List ℤ))
    → word_or_zero (find (λ entry. entry.0 == from) (map (stretched_entry n) kept))
    ≡ stretched_word n (word_or_zero (find (λ entry. entry.0 == from) kept))
found_far n from [] = refl
found_far n from (entry ∷ kept) = by (entry.0 == from) (found_far n from kept)
  where
    by : (b : Bool)
        → word_or_zero (find (λ entry. entry.0 == from) (map (stretched_entry n) kept))
        ≡ stretched_word n (word_or_zero (find (λ entry. entry.0 == from) kept))
        → word_or_zero (cond b (Some (stretched_entry n entry))
        (find (λ entry. entry.0 == from) (map (stretched_entry n) kept)))
        ≡ stretched_word n (word_or_zero
        (cond b (Some entry) (find (λ entry. entry.0 == from) kept)))
    by true rest = first_far n entry.1
    by false rest = rest

kept_far : (n from : ℕ) (words : List ℤ) (kept : List (ℕ × List ℤ))
    → kept_with from (map (stretched_word n) words) (map (stretched_entry n) kept)
    ≡ map (stretched_entry n) (kept_with from words kept)
kept_far n from words [] = refl
kept_far n from words (entry ∷ kept) = by (nat_lt from entry.0) (kept_far n from words kept)
  where
    by : (b : Bool)
        → kept_with from (map (stretched_word n) words) (map (stretched_entry n) kept)
        ≡ map (stretched_entry n) (kept_with from words kept)
        → (if b then (from, map (stretched_word n) words) ∷
        (stretched_entry n entry ∷ map (stretched_entry n) kept)
        else stretched_entry n entry ∷ kept_with from (map (stretched_word n) words)
        (map (stretched_entry n) kept))
        ≡ map (stretched_entry n)
        (if b then (from, words) ∷ (entry ∷ kept) else entry ∷ kept_with from words kept)
    by true rest = refl
    by false rest = ap (λ l. stretched_entry n entry ∷ l) rest

-- ---- the line of a member
line_head : (n : ℕ) (code : Tables) (one : Member) → member_line (head n code one) ≡ member_line one
line_head n code (member.OpenWhile expr mask line) = refl
line_head n code (member.Until expr) = refl
line_head n code one = refl

get_far : (n : ℕ) (code : Tables) (k : ℕ) (members : List Member)
    → slice_get (counted_group n code members) (stretched n k)
    ≡ option_map (head n code) (slice_get members k)
get_far n code k [] = none (stretched n k)
  where
    none : (j : ℕ) → slice_get {X = Member} [] j ≡ None
    none zero = refl
    none (suc j) = refl
get_far n code zero (one ∷ members) =
    ap (λ l. slice_get (l ++ counted_group n code members) 0) (split n code one)
get_far n code (suc k) (one ∷ members) =
    ap (slice_get (counted_member n code one ++ counted_group n code members))
    (swap (stretched n k) (length (counted_member n code one)) (member_long n code one))
    ∙ (slice_get-append_right (counted_member n code one) (counted_group n code members)
    (stretched n k)
    ∙ get_far n code k members)
  where
    swap : (b c : ℕ) → c ≡ suc n → b + suc n ≡ c + b
    swap b c e = omega (arith, e)

line_far : (n : ℕ) (code : Tables) (group k : ℕ)
    → group_line (counted n code) group (stretched n k) ≡ group_line code group k
line_far n code group k =
    ap (λ o. line_or_zero (option_and_then (λ members. slice_get members (stretched n k)) o))
    (slice_get-map (counted_group n code) code.groups group)
    ∙ by (slice_get code.groups group)
  where
    line_by : (o : Option Member) → line_or_zero (option_map (head n code) o) ≡ line_or_zero o
    line_by None = refl
    line_by (Some one) = line_head n code one

    by : (o : Option (List Member))
        → line_or_zero (option_and_then (λ members. slice_get members (stretched n k))
        (option_map (counted_group n code) o))
        ≡ line_or_zero (option_and_then (λ members. slice_get members k) o)
    by None = refl
    by (Some members) = ap line_or_zero (get_far n code k members) ∙ line_by (slice_get members k)

-- ---- a vote
module _ (code : Tables) (n most count : ℕ) (few : count ≤ most) (kin : Kin) (group : ℕ) where
  abbrev own : Local → ℤ
  own local = flag_word local.flag

  abbrev there : Local → Local
  there local = image true n count local

  joined_there : (local : Local)
      → joined_values kin least_flag own (there local)
      ≡ stretched_word n (joined_values kin least_flag own local)
  joined_there local =
      ap (λ value. fold (λ value entry. least_flag value (first_word entry.1)) value
      (map (stretched_entry n) local.kept))
      (flag_far n local.flag)
      ∙ joined_far n local.kept (own local)

  all_there : (parent : Option ℕ) (local : Local)
      → value_of_all kin least_flag own parent (there local)
      ≡ stretched_word n (value_of_all kin least_flag own parent local)
  all_there None local = joined_there local
  all_there (Some parent) local = found_far n parent local.kept

  for_there : (parent : Option ℕ) (local : Local) (to : ℕ)
      → value_for kin least_flag own parent (there local) to
      ≡ stretched_word n (value_for kin least_flag own parent local to)
  for_there None local to = joined_there local
  for_there (Some parent) local to = by (to == parent)
    where
      by : (b : Bool)
          → (if b then joined_values kin least_flag own (there local) else word_from (there local)
          parent)
          ≡ stretched_word n (if b then joined_values kin least_flag own local else word_from local
          parent)
      by true = joined_there local
      by false = found_far n parent local.kept

  decided_alike : (local : Local) → IsLongOf code n most count few local → (flag : Option ℕ)
      → ActsAlike code n most (decided code group local flag)
      (decided (counted n code) group (there local) (option_map (stretched n) flag))
  decided_alike local long None =
      BothGo [] (left_alike code n most count few true (record local { flag = None }) (local.at + 1)
      long) refl
  decided_alike local long (Some k) =
      BothGo [] (record {
        count = count;
        few = few;
        long = long;
        same =
            ap₂ (λ kept line. record (worn (counting_wear n count)
            (left (record local { flag = None }) local.at)) {
              kept = kept;
              ended = Some (Trap DivideByZero line);
            }) (sym (kept_none (votes_at code local.at) n)) (line_far n code group k);
      }) refl

  pub voted_alike : RowsAlike code n most count few true (voted code kin group)
      (voted (counted n code) kin group)
  voted_alike = record {
    same_tag = λ local. refl;
    of_vote = λ local votes. row_of_vote code n most count few local ∙ votes;
    stages = λ local. refl;
    alone = λ local. refl;
    words_to = λ local q. ap (λ x. Some (x ∷ [])) (for_there kin.parent local q);
    awaits = λ local q many. refl;
    taken = λ local q words.
        ap (λ kept. Some (record (worn (counting_wear n count) local) { kept = kept }))
        (kept_far n q words local.kept);
    last = λ local long.
        subst (λ flag. ActsAlike code n most
        (decided code group local (word_flag (value_of_all kin least_flag own kin.parent local)))
        (decided (counted n code) group (there local) flag))
        (sym (ap word_flag (all_there kin.parent local)
        ∙ word_far n (value_of_all kin least_flag own kin.parent local)))
        (decided_alike local long (word_flag (value_of_all kin least_flag own kin.parent local)));
    alone_keeps = λ local next e. cc;
    taken_keeps = λ local next q words e.
        let same : keeping local q words ≡ next = cc in
        record {
          at = ap (λ (l : Local). l.at) (sym same);
          cells = ap (λ (l : Local). l.cells) (sym same);
        };
  }
