-- What a tree of members does at one index, up to n turns of each loop that is entered, over any
-- states.
use Rattle.std.specs.Prelude.{ℕ, zero, suc, if◌then◌else◌, ℤ}
use Rattle.std.specs.Prelude.{Option, Some, None, slice_get, slice_set}
use Rattle.std.specs.Option.{option_map}
use Rattle.node_form.specs.of_zpl_nums.declared.folds.Fold.{Fold}
use Rattle.node_form.specs.of_zpl_nums.Integer.{is_true}
use Rattle.node_form.specs.of_zpl_nums.Fold.{joined}
use Rattle.node_form.specs.declared.tables.Tables.{Tables}
use Rattle.node_form.specs.Group.{Access, Point, value_at}
use Rattle.node_form.specs.Nest.{Nest, Nothing, Putting, Keeping, Joining, Choosing, ChoosingElse}
use Rattle.node_form.specs.Nest.{Looping, Repeating}
use Rattle.node_form.specs.Value.{Computed, Gives, Divides, Lacks}

-- What members ask of a state: the value of an expression; and the state with an element of an
-- array put, a cell kept, or a value joined to a scalar, where these are there.
pub record Ways (P : Type 0) : Type 0 where
  pub value : P → ℕ → Computed ℤ
  pub put : ℕ → ℤ → P → Option P
  pub keep : ℕ → ℤ → P → Option P
  pub join : ℕ → Fold → ℤ → P → Option P

-- what members come to: the state behind them; or the one in front of the member that met a zero
-- divisor; or a further turn is wanted; or something isn't there
pub data Told (P : Type 0) : Type 0 where
  Fine : (p : P) → Told P
  Zero : (p : P) → Told P
  Wants : Told P
  Lost : Told P

abbrev pub then_do : {P : Type 0} → (P → Told P) → Told P → Told P
then_do next (Fine p) = next p
then_do next (Zero p) = Zero p
then_do next Wants = Wants
then_do next Lost = Lost

abbrev pub with_value : {P : Type 0} → P → Computed ℤ → (ℤ → Told P) → Told P
with_value p (Gives value) next = next value
with_value p Divides next = Zero p
with_value p Lacks next = Lost

abbrev pub with_state : {P : Type 0} → Option P → Told P
with_state (Some p) = Fine p
with_state None = Lost

module _ {P : Type 0} (ways : Ways P) where
  -- a member whose mask is 0 is left out
  abbrev pub masked : Option ℕ → P → Told P → Told P
  masked None p run = run
  masked (Some mask) p run =
      with_value p (ways.value p mask) (λ v. if is_true v then run else Fine p)

  -- a loop that tests before each turn, with at most so many turns
  abbrev pub while_turns : ℕ → Option ℕ → ℕ → (P → Told P) → P → Told P
  while_turns zero mask expr body p =
      masked mask p (with_value p (ways.value p expr) (λ v. if is_true v then Wants else Fine p))
  while_turns (suc n) mask expr body p =
      masked mask p (with_value p (ways.value p expr)
      (λ v. if is_true v then then_do (while_turns n mask expr body) (body p) else Fine p))

  abbrev pub until_done : (P → Told P) → ℕ → P → Told P
  until_done more expr p =
      with_value p (ways.value p expr) (λ v. if is_true v then Fine p else more p)

  -- a loop that tests after each turn
  abbrev pub repeat_turns : ℕ → Option ℕ → ℕ → (P → Told P) → P → Told P
  repeat_turns zero mask expr body p = masked mask p Wants
  repeat_turns (suc n) mask expr body p =
      masked mask p (then_do (until_done (repeat_turns n mask expr body) expr) (body p))

  -- a member that holds no others
  abbrev pub leaf_does : ℕ → Option ℕ → (ℤ → P → Option P) → P → Told P
  leaf_does expr mask way p =
      masked mask p (with_value p (ways.value p expr) (λ v. with_state (way v p)))

  abbrev pub nested : ℕ → Nest → P → Told P
  nested n Nothing p = Fine p
  nested n (Putting array expr mask line after) p =
      then_do (nested n after) (leaf_does expr mask (ways.put array) p)
  nested n (Keeping cell expr mask line after) p =
      then_do (nested n after) (leaf_does expr mask (ways.keep cell) p)
  nested n (Joining scalar fold expr mask line after) p =
      then_do (nested n after) (leaf_does expr mask (ways.join scalar fold) p)
  nested n (Choosing expr mask line body after) p =
      then_do (nested n after) (masked mask p (with_value p (ways.value p expr)
      (λ v. if is_true v then nested n body p else Fine p)))
  nested n (ChoosingElse expr mask line body otherwise after) p =
      then_do (nested n after) (masked mask p (with_value p (ways.value p expr)
      (λ v. if is_true v then nested n body p else nested n otherwise p)))
  nested n (Looping expr mask line body after) p =
      then_do (nested n after) (while_turns n mask expr (nested n body) p)
  nested n (Repeating mask line body until after) p =
      then_do (nested n after) (repeat_turns n mask until (nested n body) p)

-- ---- the members of a group over the stores that an access reaches
abbrev pub ways_of : {S : Type 0} → Tables → Access S → Ways (Point S)
ways_of tables access = record {
  value = λ p expr. value_at tables access p expr;
  put = λ array v p.
      option_map (λ store. record p { store = store }) (access.with_element p.store array v);
  keep = λ cell v p. Some (record p { cells = slice_set p.cells cell v });
  join = λ scalar fold v p.
      option_map (λ own. record p { scalars = slice_set p.scalars scalar (joined fold own v) })
      (slice_get p.scalars scalar);
}
