-- Votes and folds, by the first processor or along the tree of halves.
use Rattle.std.proofs.Common.{◌*◌, ◌-◌, ◌≡◌, ℕ, zero, suc, ◌+◌, ◌<◌, ◌≤◌, Bool, true, false, cond, ℤ, pos, negsuc, List, [], ◌∷◌, ◌++◌, length, map, slice_get, slice_set, Option, Some, None, refl, sym, ◌∙◌, ap, arith, le-ltb, length-append}
use Rattle.std.specs.Prelude.{int_lt, nat_lt}
use Rattle.std.specs.Int.{int_min}
use Rattle.std.specs.List.{flat_map}
use Rattle.zpl_nums.specs.declared.ends.End.TheVariants.{Trap}
use Rattle.zpl_nums.specs.declared.ends.TrapKind.TheVariants.{DivideByZero}
use Rattle.zpl_nums.specs.declared.folds.Fold.{Fold}
use Rattle.zpl_nums.specs.declared.folds.Fold.TheVariants.{Min}
use Rattle.zpl_nums.specs.Fold.{joined}
use Rattle.zpl_nums.proofs.FoldLemmas.{joined_assoc, joined_comm}
use Rattle.grid_links.specs.Machine.{Goes as Moves}
use Rattle.grid_links.specs.Run.{count_of}
use Rattle.grid_paths.specs.Scene.{Agrees, Leads}
use Rattle.grid_paths.proofs.RoundLemmas.{leads_agreed}
use Rattle.node_form.specs.declared.instructions.Instr.{Instr}
use Rattle.node_form.specs.declared.instructions.Instr.TheVariants as instr
use Rattle.node_form.specs.declared.tables.Tables.{Tables}
use Rattle.grid_meaning.specs.Action.{Action, ended_as, ends, goes_on, moves}
use Rattle.grid_meaning.specs.Collective.{Kin, agreeing_stages, decided, flag_word, folded, group_line, least_flag, scalar_at, star, to_parent, tree, voted, word_flag, TakesFrom, Sends, Last}
use Rattle.grid_meaning.specs.Grid.{IsCapacity, system_over}
use Rattle.grid_meaning.specs.Local.{Local, processors}
use Rattle.grid_meaning.specs.Rows.{collective}
use Rattle.row_orders.specs.Agreement.{IsAgreementRow, IsJoin, StandsBefore, joined_over}
use Rattle.row_orders.specs.Rows.{Flight, flight_messages, flying, quiet_scene}
use Rattle.row_orders.proofs.StarLemmas.{agree_as_star}
use Rattle.row_orders.proofs.SumLemmas.{agree_as_tree}
use Rattle.row_runs.specs.Run.{Does}
use Rattle.plan_meaning.specs.Abreast.{Abreast, Share, go_where, is_quiet, locals_of}
use Rattle.plan_meaning.specs.Act.{ends_where, voted_as}
use Rattle.plan_orders.specs.Brings.{AreOpen, ComesToEnd, GoesWell, HasOrder, LeadsTo, in_front, standing_at}
use Rattle.plan_orders.proofs.QuietLemmas.{most_some}
use Rattle.std.proofs.lemmas.List.{length-map}
use Rattle.std.proofs.lemmas.List.FromFn.{length-range_with_len}
use Rattle.plan_orders.proofs.TestLemmas.{fewer, no_flights}

-- ---- where no exchange is open
pub quiet_near : (count : ℕ) (locals : ℕ → Local) (flights : List Flight) → flights ≡ []
    → Agrees count (flying locals flights) (quiet_scene locals)
quiet_near count locals flights none = record {
  local = λ p below. refl;
  link = λ p q a b.
      ap (λ f. flat_map (λ flight. flight_messages flight p q) f) none;
}

pub quiet_far : (count : ℕ) (locals : ℕ → Local) (flights : List Flight) → flights ≡ []
    → Agrees count (quiet_scene locals) (flying locals flights)
quiet_far count locals flights none = record {
  local = λ p below. refl;
  link = λ p q a b.
      sym (ap (λ f. flat_map (λ flight. flight_messages flight p q) f) none);
}

-- ---- each makes a turn at least
parent_few : (parent : Option ℕ) → length (to_parent parent) ≤ 2
parent_few None = omega arith
parent_few (Some parent) = omega arith

-- and a few at most
stages_few : (kin : Kin) (many : ℕ) → length kin.children ≤ many
    → length (agreeing_stages kin) ≤ many + many + 3
stages_few kin many few =
    omega (
      arith,
      few,
      parent_few kin.parent,
      length-map kin.children TakesFrom,
      length-map kin.children Sends,
      length-append (map TakesFrom kin.children)
          (to_parent kin.parent ++ (map Sends kin.children ++ Last ∷ [])),
      length-append (to_parent kin.parent) (map Sends kin.children ++ Last ∷ []),
      length-append (map Sends kin.children) (Last ∷ []),
    )

star_few : (code : Tables) (p : ℕ) → length (star code p).children ≤ processors code
star_few code zero =
    let long = length-range_with_len 1 (processors code - 1) in omega (arith, long)
star_few code (suc p) = omega arith

tree_few : (code : Tables) (p : ℕ) → length (tree code p).children ≤ 2
tree_few code p = fewer (λ q. nat_lt q (processors code)) ((2 * p + 1) ∷ (2 * p + 2) ∷ [])

stages_some : (kin : Kin) → 1 ≤ length (agreeing_stages kin)
stages_some kin =
    omega (
      arith,
      length-append (map TakesFrom kin.children)
          (to_parent kin.parent ++ (map Sends kin.children ++ Last ∷ [])),
      length-append (to_parent kin.parent) (map Sends kin.children ++ Last ∷ []),
      length-append (map Sends kin.children) (Last ∷ []),
    )

-- ---- a row in which all come to one value
module _ (code : Tables) (links : Option ℕ) (n at : ℕ) (kin : ℕ → Kin) (join : ℤ → ℤ → ℤ)
    (own : Local → ℤ) (last : Local → ℤ → Action)
    (agree : (one other : ℕ → Local) (shown : ℕ → List ℕ) → ((p : ℕ) → StandsBefore at (one p))
    → ((p : ℕ) → p < processors code
    → last (one p) (joined_over (processors code) join own one) ≡ Moves (other p) None (shown p))
    → Leads (system_over code links) (quiet_scene one) (quiet_scene other)
    (λ p. length (agreeing_stages (kin p))) shown)
    (slim : (p : ℕ) → length (kin p).children ≤ processors code + 2)
    (all : Abreast) (open_now : AreOpen code links all) where
  abbrev one : ℕ → Local
  one p = standing_at at (all.shares p)

  abbrev value : ℤ
  value = joined_over (processors code) join own one

  pub agree_brings : (other : ℕ → Local) (flights : List Flight) → all.flights ≡ []
      → flights ≡ []
      → ((p : ℕ) → p < processors code → last (one p) value ≡ Moves (other p) None [])
      → LeadsTo code links n all (in_front at all) (flying other flights) []
  agree_brings other flights none behind ends = record {
    many = λ p. length (agreeing_stages (kin p));
    shown = λ p. [];
    leads =
        leads_agreed (system_over code links) (quiet_scene one) (quiet_scene other)
        (in_front at all) (flying other flights) (λ p. length (agreeing_stages (kin p)))
        (λ p. length (agreeing_stages (kin p))) (λ p. []) (λ p. [])
        (quiet_near (count_of (system_over code links)) one all.flights none)
        (quiet_far (count_of (system_over code links)) other flights behind)
        (λ p below. refl) (λ p below. refl)
        (agree one other (λ p. []) (λ p. record {
          stands = refl;
          runs = refl;
          made = refl;
          kept = refl;
        }) ends);
    enough = λ p below. stages_some (kin p);
    few = λ limited p below.
        let some = most_some code n in
        let short = stages_few (kin p) (processors code + 2) (slim p) in
        omega (arith, some, short, limited.count);
    printed = refl;
  }

  -- all go on
  pub agree_goes : (shares : ℕ → Share)
      → ((p : ℕ) → p < processors code
      → last (one p) value ≡ Moves (standing_at (at + 1) (shares p)) None [])
      → GoesWell code links n at all
      (Does (go_where (is_quiet all) [] (record all { shares = shares })))
  agree_goes shares ends = by (is_quiet all) refl
    where
      by : (b : Bool) → is_quiet all ≡ b
          → GoesWell code links n at all
          (Does (go_where b [] (record all { shares = shares })))
      by false e = tt
      by true e =
          let none = no_flights all.flights e in (
            agree_brings (λ p. standing_at (at + 1) (shares p)) all.flights none none ends,
            record { flights = open_now.flights; room = open_now.room },
          )

  -- all end
  pub agree_ends : (line : ℕ) (before : ℕ → Local)
      → ((p : ℕ) → p < processors code
      → last (one p) value ≡ ends (before p) (Trap DivideByZero line))
      → GoesWell code links n at all (Does (ends_where (is_quiet all) (Trap DivideByZero line)))
  agree_ends line before ended = by (is_quiet all) refl
    where
      by : (b : Bool) → is_quiet all ≡ b
          → GoesWell code links n at all (Does (ends_where b (Trap DivideByZero line)))
      by false e = tt
      by true e =
          ComesToEnd (record {
            over = flying (λ p. ended_as (before p) (Trap DivideByZero line)) [];
            brings =
                agree_brings (λ p. ended_as (before p) (Trap DivideByZero line)) []
                (no_flights all.flights e) refl ended;
            ended = λ p below. refl;
            quiet = λ p q a b. refl;
            last = λ more. cc;
          })

-- ---- words of flags are joined in any order
abbrev is_flag_word : ℤ → Bool
is_flag_word (pos n) = true
is_flag_word (negsuc zero) = true
is_flag_word (negsuc (suc n)) = false

not_below : (m : ℕ) → int_lt (pos m) (pos 0) ≡ false
not_below m = le-ltb m 0 (omega arith)

some_none : (m : ℕ) → least_flag (pos m) (negsuc 0) ≡ pos m
some_none m = ap (λ b. cond b (negsuc 0) (pos m)) (not_below m)

some_some : (m k : ℕ) → least_flag (pos m) (pos k) ≡ int_min (pos m) (pos k)
some_some m k =
    ap (λ b. cond b (pos k) (cond (int_lt (pos k) (pos 0)) (pos m) (int_min (pos m) (pos k))))
    (not_below m)
    ∙ ap (λ b. cond b (pos m) (int_min (pos m) (pos k))) (not_below k)

abbrev lesser : ℕ → ℕ → ℕ
lesser m k = cond (int_lt (pos k) (pos m)) k m

min_is : (m k : ℕ) → int_min (pos m) (pos k) ≡ pos (lesser m k)
min_is m k = by (int_lt (pos k) (pos m))
  where
    by : (b : Bool) → cond b (pos k) (pos m) ≡ pos (cond b k m)
    by true = refl
    by false = refl

flags_join : IsJoin is_flag_word least_flag
flags_join = record { closed = closed; swaps = swaps; joins = joins }
  where
    closed : (a b : ℤ) → is_flag_word a ≡ true → is_flag_word b ≡ true
        → is_flag_word (least_flag a b) ≡ true
    closed (pos m) (pos k) s t = ap is_flag_word (some_some m k ∙ min_is m k)
    closed (pos m) (negsuc zero) s t = ap is_flag_word (some_none m)
    closed (pos m) (negsuc (suc k)) s t = cc
    closed (negsuc zero) b s t = t
    closed (negsuc (suc m)) b s t = cc

    swaps : (a b : ℤ) → is_flag_word a ≡ true → is_flag_word b ≡ true
        → least_flag a b ≡ least_flag b a
    swaps (pos m) (pos k) s t =
        some_some m k ∙ (joined_comm Min (pos m) (pos k) ∙ sym (some_some k m))
    swaps (pos m) (negsuc zero) s t = some_none m
    swaps (pos m) (negsuc (suc k)) s t = cc
    swaps (negsuc zero) (pos k) s t = sym (some_none k)
    swaps (negsuc zero) (negsuc zero) s t = refl
    swaps (negsuc zero) (negsuc (suc k)) s t = cc
    swaps (negsuc (suc m)) b s t = cc

    joins : (a b c : ℤ) → is_flag_word a ≡ true → is_flag_word b ≡ true → is_flag_word c ≡ true
        → least_flag (least_flag a b) c ≡ least_flag a (least_flag b c)
    joins (pos m) (pos k) (pos l) s t u =
        ap (λ x. least_flag x (pos l)) (some_some m k ∙ min_is m k)
        ∙ (some_some (lesser m k) l
        ∙ (ap (λ x. int_min x (pos l)) (sym (min_is m k))
        ∙ (joined_assoc Min (pos m) (pos k) (pos l)
        ∙ (ap (int_min (pos m)) (min_is k l)
        ∙ (sym (some_some m (lesser k l))
        ∙ ap (least_flag (pos m)) (sym (some_some k l ∙ min_is k l)))))))
    joins (pos m) (pos k) (negsuc zero) s t u =
        ap (λ x. least_flag x (negsuc 0)) (some_some m k ∙ min_is m k)
        ∙ (some_none (lesser m k)
        ∙ (sym (some_some m k ∙ min_is m k)
        ∙ ap (least_flag (pos m)) (sym (some_none k))))
    joins (pos m) (pos k) (negsuc (suc l)) s t u = cc
    joins (pos m) (negsuc zero) c s t u = ap (λ x. least_flag x c) (some_none m)
    joins (pos m) (negsuc (suc k)) c s t u = cc
    joins (negsuc zero) b c s t u = refl
    joins (negsuc (suc m)) b c s t u = cc

flag_passes : (flag : Option ℕ) → is_flag_word (flag_word flag) ≡ true
flag_passes (Some member) = refl
flag_passes None = refl

folds_join : (f : Fold) → IsJoin (λ v. true) (joined f)
folds_join f = record {
  closed = λ a b s t. refl;
  swaps = λ a b s t. joined_comm f a b;
  joins = λ a b c s t u. joined_assoc f a b c;
}

-- ---- the rows
abbrev fold_last : ℕ → Local → ℤ → Action
fold_last scalar local value =
    moves (goes_on (record local { scalars = slice_set local.scalars scalar value })) []

abbrev pub vote_last : Tables → ℕ → Local → ℤ → Action
vote_last code group local word = decided code group local (word_flag word)

abbrev pub flag_of : Local → ℤ
flag_of local = flag_word local.flag

pub decided_blind : (code : Tables) (group : ℕ) (local : Local) (n : ℕ) (kept : List (ℕ × List ℤ))
    (flag : Option ℕ)
    → decided code group (record local { made = n; kept = kept }) flag
    ≡ decided code group local flag
decided_blind code group local n kept None = refl
decided_blind code group local n kept (Some member) = refl

module _ (code : Tables) (links : Option ℕ) (capable : IsCapacity links) (n at : ℕ)
    (next : Option Instr) where
  abbrev Here : Instr → Type 0
  Here row = slice_get code.code at ≡ Some row

  abbrev Ordered : Instr → Type 0
  Ordered row = HasOrder code links n at row next

  fold_row : (kin : ℕ → Kin) (scalar : ℕ) (f : Fold) (row : Instr) → Here row
      → ((p : ℕ) → collective code p row ≡ Some (folded (kin p) scalar f))
      → IsAgreementRow code at kin (joined f) (scalar_at scalar) (fold_last scalar)
  fold_row kin scalar f row here is = record {
    instr = row;
    here = here;
    rows = λ p below. is p;
    blind_own = λ local n kept. refl;
    blind_last = λ local n kept value. refl;
  }

  vote_row : (kin : ℕ → Kin) (group : ℕ) (row : Instr) → Here row
      → ((p : ℕ) → collective code p row ≡ Some (voted code (kin p) group))
      → IsAgreementRow code at kin least_flag flag_of (vote_last code group)
  vote_row kin group row here is = record {
    instr = row;
    here = here;
    rows = λ p below. is p;
    blind_own = λ local n kept. refl;
    blind_last = λ local n kept value. decided_blind code group local n kept (word_flag value);
  }

  pub fold_ordered : (scalar : ℕ) (f : Fold) → Here (instr.Fold scalar f)
      → Ordered (instr.Fold scalar f)
  fold_ordered scalar f here all open_now =
      agree_goes code links n at (star code) (joined f) (scalar_at scalar) (fold_last scalar)
      (λ one other shown stands ends.
      agree_as_star code links capable (joined f) (scalar_at scalar) (fold_last scalar) at one other
      shown (fold_row (star code) scalar f (instr.Fold scalar f) here (λ p. refl)) stands ends)
      (λ p. let few = star_few code p in omega (arith, few)) all open_now _ (λ p below. refl)

  pub tree_fold_ordered : (scalar : ℕ) (f : Fold) → Here (instr.TreeFold scalar f)
      → Ordered (instr.TreeFold scalar f)
  tree_fold_ordered scalar f here all open_now =
      agree_goes code links n at (tree code) (joined f) (scalar_at scalar) (fold_last scalar)
      (λ one other shown stands ends.
      agree_as_tree code links capable (λ v. true) (joined f) (scalar_at scalar) (fold_last scalar)
      at one other shown (folds_join f) (λ p. refl)
      (fold_row (tree code) scalar f (instr.TreeFold scalar f) here (λ p. refl)) stands ends)
      (λ p. let few = tree_few code p in omega (arith, few)) all open_now _ (λ p below. refl)

  -- ---- votes
  vote_where : (kin : ℕ → Kin) (group : ℕ)
      → ((p : ℕ) → length (kin p).children ≤ processors code + 2) → (all : Abreast)
      → AreOpen code links all
      → ((one other : ℕ → Local) (shown : ℕ → List ℕ) → ((p : ℕ) → StandsBefore at (one p))
      → ((p : ℕ) → p < processors code
      → vote_last code group (one p) (joined_over (processors code) least_flag flag_of one)
      ≡ Moves (other p) None (shown p))
      → Leads (system_over code links) (quiet_scene one) (quiet_scene other)
      (λ p. length (agreeing_stages (kin p))) shown)
      → (flag : Option ℕ)
      → word_flag (joined_over (processors code) least_flag flag_of (locals_of all)) ≡ flag
      → GoesWell code links n at all (Does (voted_as code all group flag))
  vote_where kin group slim all open_now agree None is =
      agree_goes code links n at kin least_flag flag_of (vote_last code group) agree slim all
      open_now _
      (λ p below. ap (decided code group (standing_at at (all.shares p))) is)
  vote_where kin group slim all open_now agree (Some member) is =
      agree_ends code links n at kin least_flag flag_of (vote_last code group) agree slim all
      open_now
      (group_line code group member) (λ p. record (standing_at at (all.shares p)) { flag = None })
      (λ p below. ap (decided code group (standing_at at (all.shares p))) is)

  pub vote_ordered : (group : ℕ) → Here (instr.Vote group) → Ordered (instr.Vote group)
  vote_ordered group here all open_now =
      vote_where (star code) group (λ p. let few = star_few code p in omega (arith, few)) all
      open_now
      (λ one other shown stands ends.
      agree_as_star code links capable least_flag flag_of (vote_last code group) at one other shown
      (vote_row (star code) group (instr.Vote group) here (λ p. refl)) stands ends)
      (word_flag (joined_over (processors code) least_flag flag_of (locals_of all))) refl

  pub tree_vote_ordered : (group : ℕ) → Here (instr.TreeVote group)
      → Ordered (instr.TreeVote group)
  tree_vote_ordered group here all open_now =
      vote_where (tree code) group (λ p. let few = tree_few code p in omega (arith, few)) all
      open_now
      (λ one other shown stands ends.
      agree_as_tree code links capable is_flag_word least_flag flag_of (vote_last code group) at one
      other shown flags_join (λ p. flag_passes (one p).flag)
      (vote_row (tree code) group (instr.TreeVote group) here (λ p. refl)) stands ends)
      (word_flag (joined_over (processors code) least_flag flag_of (locals_of all))) refl
