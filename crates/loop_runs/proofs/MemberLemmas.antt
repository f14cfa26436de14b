-- Each unit of a group reads and writes what the flat loop has tested.
--
--   units_of_group    units, and the cells that are kept in front of each
--   units_good        nothing that they read is missing
use Rattle.std.proofs.Common.{◌≡◌, inl, inr, refl, sym, ap, subst, arith, ℕ, ◌+◌}
use Rattle.std.proofs.Common.{◌<◌, ◌≤◌, Bool, true, false, ◌||◌, List, [], ◌∷◌, ◌++◌, length, map, All, ℤ}
use Rattle.std.proofs.Common.{Option, Some, None, max, eqb-true}
use Rattle.std.specs.Prelude.{◌==◌, flat_map, fold, slice_get}
use Rattle.std.specs.List.{list_any}
use Rattle.std.specs.Option.{IfSome, IsSomeAnd}
use Rattle.std.proofs.lemmas.List.Elements.{All-tail}
use Rattle.zpl_nums.specs.declared.folds.Fold.{Fold}
use Rattle.zpl_region.specs.declared.regions.Region.{Region}
use Rattle.zpl_region.proofs.ListLemmas.{Among}
use Rattle.zpl_arrays.specs.Array.{Array}
use Rattle.row_runs.specs.Straight.{Every}
use Rattle.node_form.specs.declared.members.Member as number
use Rattle.node_form.specs.declared.members.Member.TheVariants as member
use Rattle.node_form.specs.declared.tables.Tables.{Tables}
use Rattle.node_form.specs.declared.words.ExprOp.{ExprOp}
use Rattle.node_form.specs.declared.words.ExprOp.TheVariants as word
use Rattle.node_form.specs.Expression.{IsExpression}
use Rattle.node_form.specs.Fits.{FitsExpr, FitsMember, FitsWord, HasArray, HasExpr}
use Rattle.node_form.specs.Nest.{Nest, members_of}
use Rattle.code_parts.specs.Uses.{as_list, exprs_of}
use Rattle.code_parts.specs.Uses as uses
use Rattle.comm_needs.specs.Needs.{is_voted_on}
use Rattle.grid_meaning.specs.Place.{moved_by}
use Rattle.flat_form.specs.Loop.{loop_stands}
use Rattle.flat_form.specs.Names.{Total as Accumulated}
use Rattle.flat_form.specs.Names.{group_cells, group_puts, group_totals, group_words, each_word}
use Rattle.flat_form.specs.Names.{member_cells, member_puts, member_totals, word_cells}
use Rattle.flat_form.specs.Right.{are_settled}
use Rattle.flat_form.specs.Row.{Loop, Member, Words, member_inlined}
use Rattle.flat_form.specs.Static.{cells_in}
use Rattle.flat_form.specs.Whole.{Whole}
use Rattle.loop_runs.proofs.GroupLemmas.{ReadOf, SettledOf, TotalOf, all_at, all_member}
use Rattle.loop_runs.proofs.GroupLemmas.{among_of_is, among_flat, among_get, among_left, among_map, divides}
use Rattle.loop_runs.proofs.GroupLemmas.{is_among_of, puts_it, read_far, read_here, scalar, settled_is}
use Rattle.loop_runs.proofs.KeepLemmas.{KeepsMember}
use Rattle.loop_runs.proofs.NestLemmas.{MemberOf, NestOf, nest_from}
use Rattle.loop_runs.proofs.ShareLemmas.{ExprGood, IsHeld, WordGood}
use Rattle.loop_runs.proofs.WordLemmas.{ExprOf, LeafOf, WordOf}

every_of : {X : Type 0} (P : X → Type 0) (xs : List X) → ((x : X) → Among xs x → P x) → Every P xs
every_of P [] all = tt
every_of P (x ∷ xs) all = (all x (inl refl), every_of P xs (λ y k. all y (inr k)))

cell_among : (c : ℕ) (known : List ℕ) → list_any (λ other. c == other) known ≡ true → Among known c
cell_among c [] e = cc
cell_among c (k ∷ known) e = by (c == k) refl e (λ e. cell_among c known e)
  where
    by : (b : Bool) → (c == k) ≡ b → (b || list_any (λ other. c == other) known) ≡ true
        → (list_any (λ other. c == other) known ≡ true → Among known c) → Among (k ∷ known) c
    by true same e rest = inl (sym (eqb-true c k same))
    by false same e rest = inr (rest e)

max_from : (low : ℕ) (xs : List ℕ) → low ≤ fold max low xs
max_from low [] = omega arith
max_from low (x ∷ xs) = let more = max_from (max low x) xs in omega (arith, more)

max_among : (low : ℕ) (xs : List ℕ) (x : ℕ) → Among xs x → x ≤ fold max low xs
max_among low [] x among = absurd among
max_among low (y ∷ xs) x (inl same) = let more = max_from (max low y) xs in omega (arith, more, same)
max_among low (y ∷ xs) x (inr among) = max_among (max low y) xs x among

module _ (code : Tables) (exprs_fit : All (FitsExpr code) code.exprs) (slot group rank : ℕ)
    (members : List number.Member) (there : slice_get code.groups group ≡ Some members)
    (fit : All (FitsMember code rank) members)
    (apart : uses.share (uses.put_arrays code group) (uses.shifted_arrays code group) ≡ false)
    (whole : Whole) (region : Region) where
  abbrev pub members_inline : List Member
  members_inline = map (member_inlined code) members

  abbrev pub count : ℕ
  count = group_cells members_inline

  abbrev pub Read : ℕ → List ℤ → Type 0
  Read = ReadOf code exprs_fit slot group rank count members there fit apart whole region

  abbrev pub Settled : ℕ → Type 0
  Settled = SettledOf code exprs_fit slot group rank count members there fit apart whole region

  abbrev pub Puts : ℕ → Bool
  Puts = puts_it code exprs_fit slot group rank count members there fit apart whole region

  abbrev pub Total : ℕ → Fold → Type 0
  Total = TotalOf code exprs_fit slot group rank count members there fit apart whole region

  abbrev pub Cell : ℕ → Type 0
  Cell c = (c < code.cells) × (c < count)

  abbrev pub Voted : Type 0
  Voted = is_voted_on code group ≡ true

  cell_low : (one : number.Member) → Among members one → (c : ℕ)
      → member_cells (member_inlined code one) ≡ c + 1 → c < count
  cell_low one among c is =
      let most = max_among 0
      (map member_cells members_inline
      ++ each_word (λ w. word_cells w ∷ []) (group_words members_inline)) (c + 1)
      (among_left (map member_cells members_inline) _ (c + 1)
      (subst (Among (map member_cells members_inline)) is
      (among_map member_cells members_inline (member_inlined code one)
      (among_map (member_inlined code) members one among)))) in omega (arith, most)

  pub total_low : (k : ℕ) (f : Fold) → Total k f → k < code.scalars
  total_low k f is = from members fit is
    where
      from : (all : List number.Member) → All (FitsMember code rank) all
          → Among (group_totals (map (member_inlined code) all)) (record { scalar = k; operator = f })
          → k < code.scalars
      from [] fits among = absurd among
      from (one ∷ all) fits among = by one (all_member (FitsMember code rank) (one ∷ all) one fits (inl refl))
          among (λ among. from all (All-tail (FitsMember code rank) one all fits) among)
        where
          by : (one : number.Member) → FitsMember code rank one
              → Among (member_totals (member_inlined code one)
              ++ group_totals (map (member_inlined code) all)) (record { scalar = k; operator = f })
              → (Among (group_totals (map (member_inlined code) all))
              (record { scalar = k; operator = f }) → k < code.scalars) → k < code.scalars
          by (member.Acc j operator expr mask line) fits (inl same) rest =
              subst (λ j. j < code.scalars) (ap (λ (total : Accumulated). total.scalar) same) fits.0
          by (member.Acc j operator expr mask line) fits (inr among) rest = rest among
          by (member.Put array expr mask line) fits among rest = rest among
          by (member.Cell cell expr mask line) fits among rest = rest among
          by (member.OpenIf expr mask line) fits among rest = rest among
          by member.Otherwise fits among rest = rest among
          by member.CloseIf fits among rest = rest among
          by (member.OpenWhile expr mask line) fits among rest = rest among
          by member.CloseWhile fits among rest = rest among
          by (member.OpenRepeat mask line) fits among rest = rest among
          by (member.Until expr) fits among rest = rest among

  pub put_ranked : (a : ℕ) → Puts a ≡ true → HasArray code rank a
  put_ranked a is = from members fit (among_of_is a (group_puts members_inline) is)
    where
      from : (all : List number.Member) → All (FitsMember code rank) all
          → Among (group_puts (map (member_inlined code) all)) a → HasArray code rank a
      from [] fits among = absurd among
      from (one ∷ all) fits among = by one (all_member (FitsMember code rank) (one ∷ all) one fits (inl refl))
          among (λ among. from all (All-tail (FitsMember code rank) one all fits) among)
        where
          by : (one : number.Member) → FitsMember code rank one
              → Among (member_puts (member_inlined code one)
              ++ group_puts (map (member_inlined code) all)) a
              → (Among (group_puts (map (member_inlined code) all)) a → HasArray code rank a)
              → HasArray code rank a
          by (member.Put array expr mask line) fits (inl same) rest =
              subst (HasArray code rank) same fits.0
          by (member.Put array expr mask line) fits (inr among) rest = rest among
          by (member.Acc j operator expr mask line) fits among rest = rest among
          by (member.Cell cell expr mask line) fits among rest = rest among
          by (member.OpenIf expr mask line) fits among rest = rest among
          by member.Otherwise fits among rest = rest among
          by member.CloseIf fits among rest = rest among
          by (member.OpenWhile expr mask line) fits among rest = rest among
          by member.CloseWhile fits among rest = rest among
          by (member.OpenRepeat mask line) fits among rest = rest among
          by (member.Until expr) fits among rest = rest among

  module _ (settled : are_settled whole (Loop slot members_inline) ≡ true)
      (stands : loop_stands code whole region members_inline ≡ true) where
    -- ---- what an expression has of each of its words
    module _ (one : number.Member) (among : Among members one) (e : ℕ)
        (expr : Among (exprs_of one) e) where
      stack_of : (words : Words) → slice_get code.exprs e ≡ Some words → IsExpression words
      stack_of words is =
          (all_member (FitsExpr code) code.exprs words exprs_fit (among_get code.exprs e words is)).stack

      expr_of : (known : List ℕ) → KeepsMember code known one → HasExpr code rank e
          → ExprOf code rank code.exprs Read Settled known e
      expr_of known keeps has = by (slice_get code.exprs e) refl has
        where
          word_of : (words : Words) → slice_get code.exprs e ≡ Some words
              → All (FitsWord code rank) words → (w : ExprOp)
              → Among words w → WordOf code rank code.exprs Read Settled known w
          word_of words is fits (word.Scalar k) inside = record {
            settled = settled_is code exprs_fit slot group rank count members there fit apart whole
                region settled stands one among e expr words is (word.Scalar k) inside k
                (scalar code exprs_fit slot group rank count members there fit apart whole region
                settled stands one among e expr words is (word.Scalar k) inside k (inl refl));
            read = scalar code exprs_fit slot group rank count members there fit apart whole region
                settled stands one among e expr words is (word.Scalar k) inside k (inl refl);
          }
          word_of words is fits (word.Here a) inside =
              read_here code exprs_fit slot group rank count members there fit apart whole region
              settled stands one among e expr words is fits a inside
          word_of words is fits (word.Shifted a shift) inside =
              read_far code exprs_fit slot group rank count members there fit apart whole region
              settled stands one among e expr words is fits a shift inside
          word_of words is fits (word.Cell c) inside =
              cell_among c known
              (all_at (λ cell. list_any (λ other. cell == other) known)
              (flat_map cells_in (uses.member_words code one)) c keeps
              (among_flat cells_in (uses.member_words code one) (word.Cell c) c
              (among_flat (uses.words_of code) (exprs_of one) e (word.Cell c) expr
              (subst (λ found. Among (uses.rows_or_none found) (word.Cell c)) (sym is) inside))
              (inl refl)))
          word_of words is fits (word.Coord dimension) inside = tt
          word_of words is fits (word.Const value) inside = tt
          word_of words is fits (word.Pair op) inside = tt
          word_of words is fits word.Neg inside = tt
          word_of words is fits word.Not inside = tt
          word_of words is fits word.Abs inside = tt

          by : (o : Option Words) → slice_get code.exprs e ≡ o
              → IsSomeAnd o (All (FitsWord code rank))
              → ExprOf code rank code.exprs Read Settled known e
          by None is has = absurd has
          by (Some words) is has = record {
            words = words;
            there = is;
            each = every_of (WordOf code rank code.exprs Read Settled known) words (word_of words is has);
            stack = stack_of words is;
            fit = has;
          }

      module _ (n : ℕ) (stores : List Array) (t : List ℤ) (long : rank ≤ length t)
          (reads : (a : ℕ) (shift : List ℤ) → Read a shift → IsHeld stores a (moved_by shift t))
          (writes : (a : ℕ) → Puts a ≡ true → IsHeld stores a t) where
        abbrev Good : ℕ → Type 0
        Good = ExprGood code rank n Read Puts Total Cell Voted stores t long reads writes total_low

        expr_good : HasExpr code rank e → Good e
        expr_good has = by (slice_get code.exprs e) refl has
          where
            word_good : (words : Words) → slice_get code.exprs e ≡ Some words
                → All (FitsWord code rank) words → (w : ExprOp) → Among words w
                → WordGood code rank n Read Puts Total Cell Voted stores t long reads writes total_low w
            word_good words is fits (word.Here a) inside =
                read_here code exprs_fit slot group rank count members there fit apart whole region
                settled stands one among e expr words is fits a inside
            word_good words is fits (word.Shifted a shift) inside =
                read_far code exprs_fit slot group rank count members there fit apart whole region
                settled stands one among e expr words is fits a shift inside
            word_good words is fits (word.Pair op) inside =
                divides code exprs_fit slot group rank count members there fit apart whole region
                settled stands one among e expr words is (word.Pair op) inside
            word_good words is fits (word.Scalar k) inside = tt
            word_good words is fits (word.Cell c) inside = tt
            word_good words is fits (word.Coord dimension) inside = tt
            word_good words is fits (word.Const value) inside = tt
            word_good words is fits word.Neg inside = tt
            word_good words is fits word.Not inside = tt
            word_good words is fits word.Abs inside = tt

            by : (o : Option Words) → slice_get code.exprs e ≡ o
                → IsSomeAnd o (All (FitsWord code rank)) → Good e
            by None is has = absurd has
            by (Some words) is has = record {
              words = words;
              there = is;
              stack = stack_of words is;
              fit = has;
              each = every_of
                  (WordGood code rank n Read Puts Total Cell Voted stores t long reads writes total_low)
                  words (word_good words is has);
            }

    -- ---- a member, by a fact of each of its expressions
    module _ (E : ℕ → Type 0) (one : number.Member) (among : Among members one)
        (each : (e : ℕ) → Among (exprs_of one) e → HasExpr code rank e → E e) where
      mask_of : (e : ℕ) (mask : Option ℕ) → ((m : ℕ) → Among (as_list mask) m → Among (exprs_of one) m)
          → IfSome mask (HasExpr code rank) → IfSome mask E
      mask_of e None inside has = tt
      mask_of e (Some m) inside has = each m (inside m (inl refl)) has

    member_of : (E : ℕ → Type 0) (one : number.Member) → Among members one
        → ((e : ℕ) → Among (exprs_of one) e → HasExpr code rank e → E e)
        → FitsMember code rank one → MemberOf E (LeafOf Puts Total Cell) one
    member_of E (member.Put a e mask line) among each fits = (
      mask_of E (member.Put a e mask line) among each e mask (λ m k. inr k) fits.2,
      each e (inl refl) fits.1,
      is_among_of a (group_puts members_inline)
          (among_flat member_puts members_inline (member_inlined code (member.Put a e mask line)) a
          (among_map (member_inlined code) members (member.Put a e mask line) among) (inl refl)),
    )
    member_of E (member.Cell c e mask line) among each fits = (
      mask_of E (member.Cell c e mask line) among each e mask (λ m k. inr k) fits.2,
      each e (inl refl) fits.1,
      (fits.0, cell_low (member.Cell c e mask line) among c refl),
    )
    member_of E (member.Acc k f e mask line) among each fits = (
      mask_of E (member.Acc k f e mask line) among each e mask (λ m k. inr k) fits.2,
      each e (inl refl) fits.1,
      among_flat member_totals members_inline (member_inlined code (member.Acc k f e mask line))
          (record { scalar = k; operator = f })
          (among_map (member_inlined code) members (member.Acc k f e mask line) among) (inl refl),
    )
    member_of E (member.OpenIf e mask line) among each fits = (
      mask_of E (member.OpenIf e mask line) among each e mask (λ m k. inr k) fits.1,
      each e (inl refl) fits.0,
    )
    member_of E member.Otherwise among each fits = tt
    member_of E member.CloseIf among each fits = tt
    member_of E (member.OpenWhile e mask line) among each fits = (
      mask_of E (member.OpenWhile e mask line) among each e mask (λ m k. inr k) fits.1,
      each e (inl refl) fits.0,
    )
    member_of E member.CloseWhile among each fits = tt
    member_of E (member.OpenRepeat mask line) among each fits =
        mask_of E (member.OpenRepeat mask line) among each 0 mask (λ m k. k) fits
    member_of E (member.Until e) among each fits = each e (inl refl) fits

    -- ---- units, whose members are all of the group
    abbrev pub Reads : List ℕ → ℕ → Type 0
    Reads known = ExprOf code rank code.exprs Read Settled known

    members_keep : (known : List ℕ) (some : List number.Member)
        → ((one : number.Member) → Among some one → Among members one)
        → Every (KeepsMember code known) some
        → Every (MemberOf (Reads known) (LeafOf Puts Total Cell)) some
    members_keep known [] inside keeps = tt
    members_keep known (one ∷ some) inside keeps = (
      member_of (Reads known) one (inside one (inl refl))
          (λ e expr has. expr_of one (inside one (inl refl)) e expr known keeps.0 has)
          (all_member (FitsMember code rank) members one fit (inside one (inl refl))),
      members_keep known some (λ other k. inside other (inr k)) keeps.1,
    )

    pub unit_reads : (known : List ℕ) (unit : Nest)
        → ((one : number.Member) → Among (members_of unit) one → Among members one)
        → Every (KeepsMember code known) (members_of unit)
        → NestOf (Reads known) (LeafOf Puts Total Cell) unit
    unit_reads known unit inside keeps =
        nest_from (Reads known) (LeafOf Puts Total Cell) unit
        (members_keep known (members_of unit) inside keeps)

    module _ (n : ℕ) (stores : List Array) (t : List ℤ) (long : rank ≤ length t)
        (reads : (a : ℕ) (shift : List ℤ) → Read a shift → IsHeld stores a (moved_by shift t))
        (writes : (a : ℕ) → Puts a ≡ true → IsHeld stores a t) where
      abbrev GoodExpr : ℕ → Type 0
      GoodExpr = ExprGood code rank n Read Puts Total Cell Voted stores t long reads writes total_low

      members_good : (some : List number.Member)
          → ((one : number.Member) → Among some one → Among members one)
          → Every (MemberOf GoodExpr (LeafOf Puts Total Cell)) some
      members_good [] inside = tt
      members_good (one ∷ some) inside = (
        member_of GoodExpr one (inside one (inl refl))
            (λ e expr has.
            expr_good one (inside one (inl refl)) e expr n stores t long reads writes has)
            (all_member (FitsMember code rank) members one fit (inside one (inl refl))),
        members_good some (λ other k. inside other (inr k)),
      )

      pub unit_good : (unit : Nest)
          → ((one : number.Member) → Among (members_of unit) one → Among members one)
          → NestOf GoodExpr (LeafOf Puts Total Cell) unit
      unit_good unit inside =
          nest_from GoodExpr (LeafOf Puts Total Cell) unit (members_good (members_of unit) inside)
