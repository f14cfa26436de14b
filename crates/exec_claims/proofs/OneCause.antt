-- Of what was made and run in a call there is a cause of one status.
use Rattle.std.proofs.Common.{◌≡◌, ◌≢◌, ℕ, Bool, List, [], length, Option, Some, None, Result, Ok, Err, codes}
use Rattle.std.proofs.Common.{refl, sym, ◌∙◌, ap, subst, inl, inr, arith}
use Rattle.zpl_nums.specs.declared.ends.End.TheVariants.{Done, Trap}
use Rattle.zpl_nums.specs.declared.ends.End.{End}
use Rattle.zpl_nums.specs.declared.ends.TrapKind.{TrapKind}
use Rattle.node_form.specs.declared.tables.Tables.{Tables}
use Rattle.listing_lines.specs.Listing.{IsBadLine}
use Rattle.node_text.specs.Listing.{IsBadTable, IsListing}
use Rattle.call_claims.specs.Call.{Call}
use Rattle.call_claims.specs.Decided.{IsSettled}
use Rattle.call_claims.specs.Execution.{Execution}
use Rattle.call_claims.specs.declared.status.TheConstants.{UNREADABLE}
use Rattle.call_claims.specs.Command.{Asked, ExecTakes}
use Rattle.call_claims.proofs.OneLemmas.{as_asked}
use Rattle.grid_runs.specs.Run.{Run}
use Rattle.exec_claims.specs.Cause.{RunCause, OrderCause, TextCause, OrderFileCause, CodeCause, ListingCause}
use Rattle.exec_claims.specs.Cause.{ListedCause, ListingFileCause, Cause, Source, IsTooLong, run_of}
use Rattle.exec_claims.specs.Cause.RunCause.{done, trap, turn_limit, stuck, idle}
use Rattle.exec_claims.specs.Cause.OrderCause.{bad_item, ran}
use Rattle.exec_claims.specs.Cause.TextCause.{unreadable, too_long, work}
use Rattle.exec_claims.specs.Cause.CodeCause.{fails, passes}
use Rattle.exec_claims.specs.Cause.ListingCause.{bad_line, bad_table, listed}
use Rattle.exec_claims.specs.Cause.Cause.{no_memory, exec}
use Rattle.exec_claims.proofs.CheckLemmas.{fails_one, not_failed}

-- ---- a run
ends_one : (ending : Option End) (kind : TrapKind) (line : ℕ) → ending ≡ Some Done
    → ending ≡ Some (Trap kind line) → ⊥
ends_one ending kind line a b = let no : Some Done ≡ Some (Trap kind line) = sym a ∙ b in cc

module _ (run : Run) (report : Bool) (k : ℕ) where
  pub run_one : {n m : ℕ} {told other : List ℕ} → RunCause run report k n told
      → RunCause run report k m other → n ≡ m
  run_one (done e) (done f) = refl
  run_one (done e) (trap kind line f) = absurd (ends_one _ kind line e.first f.first)
  run_one (done e) (turn_limit f) = absurd (f.goes_on (inl e.over))
  run_one (done e) (stuck p kind f) = absurd (f.next.goes_on (inl e.over))
  run_one (done e) (idle p f) = absurd (f.idle.not_over e.over)
  run_one (trap kind line e) (done f) = absurd (ends_one _ kind line f.first e.first)
  run_one (trap kind line e) (trap other at f) = refl
  run_one (trap kind line e) (turn_limit f) = absurd (f.goes_on (inl e.over))
  run_one (trap kind line e) (stuck p other f) = absurd (f.next.goes_on (inl e.over))
  run_one (trap kind line e) (idle p f) = absurd (f.idle.not_over e.over)
  run_one (turn_limit e) (done f) = absurd (e.goes_on (inl f.over))
  run_one (turn_limit e) (trap kind line f) = absurd (e.goes_on (inl f.over))
  run_one (turn_limit e) (turn_limit f) = refl
  run_one (turn_limit e) (stuck p kind f) = absurd (omega (arith, e.all_given, f.next.left))
  run_one (turn_limit e) (idle p f) = absurd (e.goes_on (inr f.idle))
  run_one (stuck p kind e) (done f) = absurd (e.next.goes_on (inl f.over))
  run_one (stuck p kind e) (trap other line f) = absurd (e.next.goes_on (inl f.over))
  run_one (stuck p kind e) (turn_limit f) = absurd (omega (arith, f.all_given, e.next.left))
  run_one (stuck p kind e) (stuck q other f) = refl
  run_one (stuck p kind e) (idle q f) = refl
  run_one (idle p e) (done f) = absurd (e.idle.not_over f.over)
  run_one (idle p e) (trap kind line f) = absurd (e.idle.not_over f.over)
  run_one (idle p e) (turn_limit f) = absurd (f.goes_on (inr e.idle))
  run_one (idle p e) (stuck q kind f) = refl
  run_one (idle p e) (idle q f) = refl

-- ---- the text of an order
pub read_one : {read : Result (List ℕ) ℕ} (at : ℕ) (order : List ℕ) → read ≡ Err at → read ≡ Ok order → ⊥
read_one at order a b = let no : Err at ≡ Ok order = sym a ∙ b in cc

pub same_order : (read : Result (List ℕ) ℕ) (order other : List ℕ) → read ≡ Ok order → read ≡ Ok other
    → order ≡ other
same_order read order other a b = let same : Ok order ≡ Ok other = sym a ∙ b in cc

module _ (code : Tables) (asked : Asked) (turns : ℕ) (text : List ℕ) where
  order_one : {n m : ℕ} {told other : List ℕ} → OrderCause code asked turns text n told
      → OrderCause code asked turns text m other → n ≡ m
  order_one (bad_item at e z) (bad_item other f y) = refl
  order_one (bad_item at e z) (ran order f goes c) = absurd (read_one at order e f)
  order_one (ran order e goes c) (bad_item at f z) = absurd (read_one at order f e)
  order_one {n = n} {told = told} (ran order e goes c) (ran other f went d) =
      run_one (run_of code asked other) asked.report turns
      (subst (λ o. RunCause (run_of code asked o) asked.report turns n told)
      (same_order _ order other e f) c) d

-- ---- files
pub TellsOne : Call → Type 0
TellsOne call = (file text other : List ℕ) → call.tells file text → call.tells file other → text ≡ other

-- work on one text has one status, where no fetch failed
IsOneWork : (List ℕ → ℕ → List ℕ → Type 0) → Type 0
IsOneWork Works = (text : List ℕ) (n m : ℕ) (told other : List ℕ) → Works text n told
    → Works text m other → n ≢ UNREADABLE → m ≢ UNREADABLE → n ≡ m

abbrev pub TellsOneAt : Call → List ℕ → Type 0
TellsOneAt call file = (text other : List ℕ) → call.tells file text → call.tells file other → text ≡ other

module _ (call : Call) (file : List ℕ) (one : TellsOneAt call file) where
  pub not_long : IsTooLong call file → Source call file → ⊥
  not_long long source =
      let same : length long.text ≡ length source.text = ap length (one long.text source.text long.told source.told) in
      omega (arith, same, long.long, source.short)

  pub same_text : (a b : Source call file) → a.text ≡ b.text
  same_text a b = one a.text b.text a.told b.told

  text_one : {May Ends : Type 0} {Works : List ℕ → ℕ → List ℕ → Type 0} {n m : ℕ}
      {told other : List ℕ} → IsOneWork Works → TextCause call file May Ends Works n told
      → TextCause call file May Ends Works m other → n ≢ UNREADABLE → m ≢ UNREADABLE → n ≡ m
  unfolding IsOneWork
  text_one works (unreadable may ends) d a b = absurd (a refl)
  text_one works (too_long long ends) (unreadable may ended) a b = absurd (b refl)
  text_one works (too_long long ends) (too_long also ended) a b = refl
  text_one works (too_long long ends) (work source w) a b = absurd (not_long long source)
  text_one works (work source w) (unreadable may ends) a b = absurd (b refl)
  text_one works (work source w) (too_long long ends) a b = absurd (not_long long source)
  text_one {Works = Works} {n = n} {m = m} {told = told} {other = other} works (work source w)
      (work also v) a b =
      works also.text n m told other (subst (λ t. Works t n told) (same_text source also) w) v a b

-- ---- the order's file, and the text of a listing
orders_one : (code : Tables) (asked : Asked) (turns : ℕ) → IsOneWork (OrderCause code asked turns)
unfolding IsOneWork
orders_one code asked turns = λ text n m told other c d a b. order_one code asked turns text c d

-- where words name the file of the order, both statuses are of a fetch that didn't fail, and it tells
-- one text
abbrev pub IsOneFile : Call → ℕ → ℕ → Option (List ℕ) → Type 0
IsOneFile call n m None = Unit {0}
IsOneFile call n m (Some file) = (n ≢ UNREADABLE) × (m ≢ UNREADABLE) × TellsOneAt call file

pub order_file_one : (call : Call) (asked : Asked) (code : Tables) (turns : ℕ)
    (file : Option (List ℕ)) (n m : ℕ) (told other : List ℕ) → IsOneFile call n m file
    → OrderFileCause call code asked turns file n told
    → OrderFileCause call code asked turns file m other → n ≡ m
order_file_one call asked code turns None n m told other is c d =
    order_one code asked turns [] c d
order_file_one call asked code turns (Some file) n m told other is c d =
    text_one call file is.2 (orders_one code asked turns) c d is.0 is.1

one_file : (call : Call) → TellsOne call → (n m : ℕ) (file : Option (List ℕ)) → n ≢ UNREADABLE
    → m ≢ UNREADABLE → IsOneFile call n m file
unfolding TellsOne
one_file call one n m None a b = tt
one_file call one n m (Some file) a b = (a, b, one file)

-- ---- the code
-- work on one code has one status, where no fetch failed
pub IsOneCode : (Tables → ℕ → List ℕ → Type 0) → Type 0
IsOneCode Works = (code : Tables) (n m : ℕ) (told other : List ℕ) → Works code n told
    → Works code m other → n ≢ UNREADABLE → m ≢ UNREADABLE → n ≡ m

pub one_code : (Works : Tables → ℕ → List ℕ → Type 0)
    → ((code : Tables) (n m : ℕ) (told other : List ℕ) → Works code n told → Works code m other
    → n ≢ UNREADABLE → m ≢ UNREADABLE → n ≡ m) → IsOneCode Works
unfolding IsOneCode
one_code Works one = one

code_one : (call : Call) → TellsOne call → (asked : Asked) (turns : ℕ) (code : Tables)
    {n m : ℕ} {told other : List ℕ} → CodeCause call asked turns code n told
    → CodeCause call asked turns code m other → n ≢ UNREADABLE → m ≢ UNREADABLE → n ≡ m
code_one call one asked turns code (fails asks z f) (fails also y g) a b = fails_one f g
code_one call one asked turns code (fails asks z f) (passes is c) a b =
    absurd (not_failed asked is asks f)
code_one call one asked turns code (passes is c) (fails asks z f) a b =
    absurd (not_failed asked is asks f)
code_one call one asked turns code {n = n} {m = m} {told = told} {other = other} (passes is c) (passes also d) a b =
    order_file_one call asked code turns asked.order n m told other
    (one_file call one n m asked.order a b) c d

-- ---- the listing
module _ (call : Call) (one : TellsOne call) (execution : Execution)
    (Works : Tables → ℕ → List ℕ → Type 0) (works : IsOneCode Works)
    (line_law : (bytes : List ℕ) (tables : Tables) (number : ℕ) → IsListing bytes tables
    → IsBadLine bytes number → ⊥)
    (table_law : (bytes : List ℕ) (tables : Tables) (number : ℕ) → IsListing bytes tables
    → IsBadTable bytes number → ⊥) where
  same_code : (code other : Tables) → execution.code ≡ Some code → execution.code ≡ Some other
      → code ≡ other
  same_code code other a b = let same : Some code ≡ Some other = sym a ∙ b in cc

  listing_one : (text : List ℕ) {n m : ℕ} {told other : List ℕ}
      → ListingCause execution Works text n told → ListingCause execution Works text m other
      → n ≢ UNREADABLE → m ≢ UNREADABLE → n ≡ m
  unfolding IsOneCode
  listing_one text (bad_line line e z) (bad_line at f none) a b = refl
  listing_one text (bad_line line e z) (bad_table at f none) a b = refl
  listing_one text (bad_line line e z) (listed code is made c) a b = absurd (line_law text code line is e)
  listing_one text (bad_table line e z) (bad_line at f none) a b = refl
  listing_one text (bad_table line e z) (bad_table at f none) a b = refl
  listing_one text (bad_table line e z) (listed code is made c) a b = absurd (table_law text code line is e)
  listing_one text (listed code is made c) (bad_line line e z) a b = absurd (line_law text code line is e)
  listing_one text (listed code is made c) (bad_table line e z) a b = absurd (table_law text code line is e)
  listing_one text {n = n} {m = m} {told = told} {other = other} (listed code is made c)
      (listed more also too d) a b =
      works more n m told other
      (subst (λ t. Works t n told) (same_code code more made too) c) d a b

  listings_one : IsOneWork (ListingCause execution Works)
  unfolding IsOneWork
  listings_one = λ text n m told other c d a b. listing_one text c d a b

  pub listed_one : (file : List ℕ) {n m : ℕ} {told other : List ℕ}
      → ListedCause call file execution Works n told
      → ListedCause call file execution Works m other → n ≢ UNREADABLE → m ≢ UNREADABLE
      → n ≡ m
  unfolding TellsOne
  listed_one file c d a b = text_one call file (one file) listings_one c d a b

module _ (call : Call) (one : TellsOne call) (asked : Asked) (execution : Execution)
    (line_law : (bytes : List ℕ) (tables : Tables) (number : ℕ) → IsListing bytes tables
    → IsBadLine bytes number → ⊥)
    (table_law : (bytes : List ℕ) (tables : Tables) (number : ℕ) → IsListing bytes tables
    → IsBadTable bytes number → ⊥) where
  codes_one : IsOneCode (CodeCause call asked execution.turns)
  codes_one =
      one_code (CodeCause call asked execution.turns) (λ code n m told other c d a b.
      code_one call one asked execution.turns code c d a b)

  pub file_one : (file : List ℕ) {n m : ℕ} {told other : List ℕ}
      → ListingFileCause call file asked execution n told
      → ListingFileCause call file asked execution m other → n ≢ UNREADABLE → m ≢ UNREADABLE
      → n ≡ m
  file_one file c d a b =
      listed_one call one execution (CodeCause call asked execution.turns) codes_one line_law
      table_law file c d a b

-- ---- any call
pub tells_one : (call : Call) (n : ℕ) → IsSettled call n → TellsOne call
unfolding TellsOne
tells_one call n settled = settled.one

pub text_short : (call : Call) (file : List ℕ) (n : ℕ) → IsSettled call n → IsTooLong call file
    → Source call file → ⊥
text_short call file n settled long source = not_long call file (settled.one file) long source

pub texts_same : (call : Call) (file : List ℕ) (n : ℕ) → IsSettled call n
    → (one other : Source call file) → one.text ≡ other.text
texts_same call file n settled one other = same_text call file (settled.one file) one other

pub cause_one : (call : Call) (execution : Execution) (n m : ℕ) (told other : List ℕ)
    → ((bytes : List ℕ) (tables : Tables) (number : ℕ) → IsListing bytes tables
    → IsBadLine bytes number → ⊥)
    → ((bytes : List ℕ) (tables : Tables) (number : ℕ) → IsListing bytes tables
    → IsBadTable bytes number → ⊥)
    → Cause call execution n told → Cause call execution m other → IsSettled call n
    → IsSettled call m → n ≡ m
cause_one call ex n m told other line table no_memory d s t = absurd (s.decided.memory refl)
cause_one call ex n m told other line table (exec is) no_memory s t = absurd (t.decided.memory refl)
cause_one call ex n m told other line table (exec is) (exec also) s t =
    file_one call (tells_one call n s) is.asked ex line table is.file is.holds
    (as_asked (codes "exec") ExecTakes call.words is also) s.read t.read
