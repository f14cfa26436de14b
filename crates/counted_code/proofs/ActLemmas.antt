-- What a processor does next, and what a message does, in code and in counted code.
use Rattle.std.proofs.Common.{◌≡◌, refl, sym, ◌∙◌, ap, ap₂, subst, ℕ, zero, suc, ◌+◌, ◌≤◌}
use Rattle.std.proofs.Common.{Bool, true, false, List, [], ◌∷◌, ◌++◌, length, arith}
use Rattle.std.proofs.Common.{pos, ℤ, take}
use Rattle.std.specs.Prelude.{Option, Some, None, slice_get, All, nat_lt, if◌then◌else◌}
use Rattle.std.specs.Fmt.{signed_decimal}
use Rattle.std.specs.Option.{IsSomeAnd, option_map}
use Rattle.std.proofs.lemmas.Option.{slice_get-map}
use Rattle.std.proofs.lemmas.List.Elements.{All-head, All-tail}
use Rattle.zpl_arrays.specs.ArrayText.{truth_text}
use Rattle.zpl_nums.specs.Integer.{is_true}
use Rattle.zpl_region.specs.declared.dims.Dim.{Dim}
use Rattle.zpl_region.specs.declared.dims.Dim.TheVariants as dim
use Rattle.zpl_region.specs.declared.regions.Region.{Region}
use Rattle.zpl_region.specs.Region.{members}
use Rattle.zpl_arrays.specs.Array.{Array}
use Rattle.grid_links.specs.declared.messages.Message.{Message}
use Rattle.node_form.specs.of_zpl_nums.declared.ends.End.{End}
use Rattle.node_form.specs.of_zpl_nums.declared.ends.End.TheVariants.{Done, Trap}
use Rattle.node_form.specs.of_zpl_nums.declared.ends.TrapKind.TheVariants.{DivideByZero}
use Rattle.node_form.specs.declared.arrays.ArrayRow.{ArrayRow}
use Rattle.node_form.specs.declared.instructions.DimRow.{DimRow}
use Rattle.node_form.specs.declared.instructions.DimRow.TheVariants as part
use Rattle.node_form.specs.declared.instructions.Instr.{Instr}
use Rattle.node_form.specs.declared.instructions.Instr.TheVariants as instr
use Rattle.node_form.specs.declared.members.Member.{Member}
use Rattle.node_form.specs.declared.tables.Tables.{Tables}
use Rattle.node_form.specs.declared.words.ExprOp.{ExprOp}
use Rattle.node_form.specs.Control as control
use Rattle.node_form.specs.Control.{Control, Registers, branched, part_dim, part_dims, region_of}
use Rattle.node_form.specs.Control.{register_value, with_computed}
use Rattle.node_form.specs.Control.{with_row, with_scalar, with_slot}
use Rattle.node_form.specs.Fits.{FitsAt, FitsInstr, FitsMember, FitsPart, HasScalarExpr}
use Rattle.node_form.specs.Fits.{IsScalarWord}
use Rattle.node_form.specs.Group.{Ran}
use Rattle.node_form.specs.Value.{Computed, Divides, Gives, Lacks, and_then, mapped, read}
use Rattle.node_form.specs.Value.{scalar_operands, value_of}
use Rattle.grid_meaning.specs.Action.{Action, Undefined, Unheld, ended_as}
use Rattle.grid_meaning.specs.Action.{prints}
use Rattle.grid_meaning.specs.Collective.{Collective, star, tree, voted}
use Rattle.grid_meaning.specs.Local.{Local, left}
use Rattle.grid_meaning.specs.Loop.{access_at, after_members, flagged, looped, point_of}
use Rattle.grid_meaning.specs.Loop.{turn_at_index}
use Rattle.grid_meaning.specs.Place.{own_part}
use Rattle.grid_meaning.specs.Room.{cleared, roomed, with_store, zeros_at}
use Rattle.grid_meaning.specs.Rows.{collective}
use Rattle.grid_meaning.specs.Turn.{act, act_at, act_together, controlled, expression_value}
use Rattle.grid_meaning.specs.Turn.{fed, fed_at, fed_together}
use Rattle.grid_meaning.specs.Turn.{prints_text, prints_value, registers_of, unless_ended}
use Rattle.grid_meaning.specs.Turn.{with_registers}
use Rattle.counted_code.specs.Counted.{counted, counted_group}
use Rattle.counted_code.specs.Alike.{IsAlike, counted_local, counted_message, is_vote, kept_as}
use Rattle.counted_code.specs.Alike.{stretched, votes_at}
use Rattle.counted_code.proofs.TableLemmas.{old_there}
use Rattle.counted_code.proofs.GroupLemmas.{AreRan, BothAgain, BothDivided, BothThrough, BothUnheld}
use Rattle.counted_code.proofs.GroupLemmas.{from_alike}
use Rattle.counted_code.proofs.TurnLemmas.{ActsAlike, BothEnded, BothGo, BothRefuse}
use Rattle.counted_code.proofs.TurnLemmas.{BothStop, FedAlike, IsLongOf}
use Rattle.counted_code.proofs.TurnLemmas.{RowsAlike, acts_alike, counting_wear, fed_alike, image}
use Rattle.counted_code.proofs.TurnLemmas.{kept_none, left_alike}
use Rattle.counted_code.proofs.TurnLemmas.{worn_alike}
use Rattle.counted_code.proofs.VoteLemmas.{stretched_test, voted_alike}
use Rattle.counted_code.proofs.WornLemmas.{row_worn, worn}

-- ---- expressions without an index
module _ (n : ℕ) (code : Tables) (registers : Registers) where
  abbrev real : Tables
  real = counted n code

  pub register_same : (expr : ℕ) → HasScalarExpr code expr
      → register_value real registers expr ≡ register_value code registers expr
  register_same expr has = by (slice_get code.exprs expr) refl has
    where
      by : (o : Option (List ExprOp)) → slice_get code.exprs expr ≡ o
          → IsSomeAnd o (All IsScalarWord)
          → register_value real registers expr
          ≡ and_then (value_of (scalar_operands registers.scalars)) (read o)
      by None e has = absurd has
      by (Some words) e has =
          ap (λ o. and_then (value_of (scalar_operands registers.scalars)) (read o))
          (old_there n code expr words e)

  part_same : (rank k : ℕ) (one : DimRow) → FitsPart code rank one
      → part_dim real registers k one ≡ part_dim code registers k one
  part_same rank k (part.Span low high) fits =
      ap₂ (λ (lo hi : Computed ℤ). and_then (λ l. mapped (λ h. dim.Range l h (pos 1) l) hi) lo)
      (register_same low fits.0) (register_same high fits.1)
  part_same rank k part.Star fits = refl
  part_same rank k (part.Copied slot) fits = refl

  parts_same : (rank k m : ℕ) (parts : List DimRow) → All (FitsPart code rank) parts
      → part_dims real registers k (take m parts) ≡ part_dims code registers k (take m parts)
  parts_same rank k zero parts fits = refl
  parts_same rank k (suc m) [] fits = refl
  parts_same rank k (suc m) (one ∷ parts) fits =
      ap₂ (λ (first : Computed Dim) (rest : Computed (List Dim)). and_then
      (λ d. mapped (λ l. d ∷ l) rest) first)
      (part_same rank k one (All-head (FitsPart code rank) one parts fits))
      (parts_same rank (suc k) m parts (All-tail (FitsPart code rank) one parts fits))

module _ (n : ℕ) (code : Tables) (p most count : ℕ) (few : count ≤ most) (local : Local)
    (long : IsLongOf code n most count few local) where
  abbrev there : Bool → Local
  there v = image v n count local

  abbrev Both : Action → Action → Type 0
  Both one other = ActsAlike code n most one other

  leaves : (v : Bool) (next : Local) (to : ℕ) → IsLongOf code n most count few next
      → IsAlike code n most (left next to) (left (image v n count next) to)
  leaves v next to long = left_alike code n most count few v next to long

  ended_alike : (v : Bool) (ending : End)
      → IsAlike code n most (ended_as local ending) (ended_as (there v) ending)
  ended_alike v ending = record {
    count = count;
    few = few;
    long = long;
    same =
        ap (λ kept. record (worn (counting_wear n count) (left local local.at)) {
          kept = kept;
          ended = Some ending;
        }) (sym (kept_none (votes_at code local.at) n));
  }

  controlled_alike : (v : Bool) (c : Control) → Both (controlled local c) (controlled (there v) c)
  controlled_alike v (control.Steps registers) =
      BothGo [] (leaves v (with_registers local registers) (local.at + 1) long) refl
  controlled_alike v (control.Leaps goal) = BothGo [] (leaves v local goal long) refl
  controlled_alike v (control.Ends ending) = BothGo [] (ended_alike v ending) refl
  controlled_alike v control.Outside = BothStop Undefined

  prints_alike : (q : ℕ) (v : Bool) (bytes : List ℕ)
      → Both (prints q local bytes) (prints q (there v) bytes)
  prints_alike zero v bytes = BothGo bytes (leaves v local (local.at + 1) long) refl
  prints_alike (suc q) v bytes = BothGo [] (leaves v local (local.at + 1) long) refl

  text_alike : (v : Bool) (o : Option (List ℕ))
      → Both (prints_text p local o) (prints_text p (there v) o)
  text_alike v None = BothStop Undefined
  text_alike v (Some text) = prints_alike p v text

  value_alike : (v : Bool) (value : Computed ℤ) (text : ℤ → List ℕ)
      → Both (prints_value p local value text) (prints_value p (there v) value text)
  value_alike v (Gives value) text = prints_alike p v (text value)
  value_alike v Divides text = BothGo [] (ended_alike v (Trap DivideByZero 0)) refl
  value_alike v Lacks text = BothStop Undefined

  room_alike : (v : Bool) (array : ℕ) (row : Option ArrayRow) (region : Option Region)
      → Both (roomed code p local array row region)
      (roomed (counted n code) p (there v) array row region)
  room_alike v array None region = BothStop Undefined
  room_alike v array (Some row) None = BothStop Undefined
  room_alike v array (Some row) (Some region) =
      BothGo [] (leaves v (with_store local array _) (local.at + 1) long) refl

  clear_alike : (v : Bool) (array : ℕ) (store : Option Array)
      → Both (cleared local array store) (cleared (there v) array store)
  clear_alike v array None = BothStop Undefined
  clear_alike v array (Some store) =
      BothGo [] (leaves v (with_store local array (zeros_at store.storage)) (local.at + 1) long)
      refl

  -- ---- rows with messages
  same_alike : (o : Option Collective) (c : Control) → votes_at code local.at ≡ false
      → ((row : Collective) → o ≡ Some row → RowsAlike code n most count few false row row)
      → Both (act_together o local c) (act_together o (there false) c)
  same_alike None c votes rows = controlled_alike false c
  same_alike (Some row) c votes rows =
      acts_alike code n most count few false row row (rows row refl) local long votes

  -- ---- loops
  flag_far : (flag : Option ℕ) (member : ℕ)
      → flagged (option_map (stretched n) flag) (stretched n member)
      ≡ option_map (stretched n) (flagged flag member)
  flag_far None member = refl
  flag_far (Some old) member =
      ap (λ b. if b then Some (stretched n member) else Some (stretched n old))
      (stretched_test n member old)
      ∙ by (nat_lt member old)
    where
      by : (b : Bool) → (if b then Some (stretched n member) else Some (stretched n old))
          ≡ option_map (stretched n) (if b then Some member else Some old)
      by true = refl
      by false = refl

  abbrev Grid : Type 0
  Grid = List Array

  after_alike : (t : List ℤ) (more : ℕ) (v : Bool) (r s : Ran Grid) → more ≤ most
      → votes_at code local.at ≡ v → AreRan n code (access_at t) more r s
      → Both (after_members local r) (after_members (there v) s)
  after_alike t more v r s up votes alike = by r s alike
    where
      by : (r s : Ran Grid) → AreRan n code (access_at t) more r s
          → Both (after_members local r) (after_members (there v) s)
      by _ _ (BothThrough point j cells less) = BothGo [] (record {
        count = j;
        few = omega (arith, less, up);
        long = cells;
        same = ap (λ b. record (worn (counting_wear n j) local) {
          index = local.index + 1;
          member = 0;
          scalars = point.scalars;
          stores = point.store;
          cells = point.cells ++ pos j ∷ [];
          kept = kept_as b n local.kept;
        }) (sym votes);
      }) refl
      by _ _ (BothAgain member point j cells less) = BothGo [] (record {
        count = j;
        few = omega (arith, less, up);
        long = cells;
        same = ap (λ b. record (worn (counting_wear n j) local) {
          member = stretched n member;
          scalars = point.scalars;
          stores = point.store;
          cells = point.cells ++ pos j ∷ [];
          kept = kept_as b n local.kept;
        }) (sym votes);
      }) refl
      by _ _ (BothDivided member point j cells less) = BothGo [] (record {
        count = j;
        few = omega (arith, less, up);
        long = cells;
        same = ap₂ (λ b flag. record (worn (counting_wear n j) local) {
          index = local.index + 1;
          member = 0;
          scalars = point.scalars;
          stores = point.store;
          flag = flag;
          cells = point.cells ++ pos j ∷ [];
          kept = kept_as b n local.kept;
        }) (sym votes) (flag_far local.flag member);
      }) refl
      by _ _ BothUnheld = BothStop Unheld

  loop_alike : (v : Bool) (rank : ℕ) (region : Option Region) (group : Option (List Member))
      → votes_at code local.at ≡ v → IsSomeAnd group (All (FitsMember code rank))
      → IsSomeAnd group (λ members. (count + length members ≤ n) × (count + length members ≤ most))
      → Both (looped code p local region group)
      (looped (counted n code) p (there v) region (option_map (counted_group n code) group))
  loop_alike v rank region None votes fits room = absurd fits
  loop_alike v rank None (Some all) votes fits room = BothStop Undefined
  loop_alike v rank (Some region) (Some all) votes fits room =
      at_index (slice_get (members (own_part code p region)) local.index)
    where
      at_index : (o : Option (List ℤ))
          → Both (turn_at_index code all local o)
          (turn_at_index (counted n code) (counted_group n code all) (there v) o)
      at_index None = BothGo [] (leaves v local (local.at + 1) long) refl
      at_index (Some t) =
          after_alike t (count + length all) v _ _ room.1 votes
          (from_alike n code (access_at t) all rank local.member count (point_of local) fits long
          room.0)

  -- ---- every row
  abbrev HasRoom : Type 0
  HasRoom = (k : ℕ) (members : List Member) → slice_get code.groups k ≡ Some members
      → (count + length members ≤ n) × (count + length members ≤ most)

  room_at : HasRoom → (k : ℕ) (o : Option (List Member)) → slice_get code.groups k ≡ o
      → (rank : ℕ) → IsSomeAnd o (All (FitsMember code rank))
      → IsSomeAnd o (λ members. (count + length members ≤ n) × (count + length members ≤ most))
  room_at room k None e rank fits = fits
  room_at room k (Some members) e rank fits = room k members e

  abbrev regs : Registers
  regs = registers_of local

  abbrev IsRowAlike : Bool → Instr → Type 0
  IsRowAlike v row = Both (act_at code p local (Some row))
      (act_at (counted n code) p (there v) (Some row))

  controlled_as : (c d : Control) → d ≡ c → Both (controlled local c) (controlled (there false) d)
  controlled_as c d e =
      subst (λ d. Both (controlled local c) (controlled (there false) d)) (sym e)
      (controlled_alike false c)

  value_as : (c d : Computed ℤ) (text : ℤ → List ℕ) → d ≡ c
      → Both (prints_value p local c text) (prints_value p (there false) d text)
  value_as c d text e =
      subst (λ d. Both (prints_value p local c text) (prints_value p (there false) d text)) (sym e)
      (value_alike false c text)

  dims_same : (rank slot line : ℕ) (parts : List DimRow) → All (FitsPart code rank) parts
      → (o : Option ℕ)
      → with_row o (λ rank. with_computed (part_dims (counted n code) regs 0 (take rank parts)) line
      (λ dims. with_slot regs slot line (region_of rank dims)))
      ≡ with_row o (λ rank. with_computed (part_dims code regs 0 (take rank parts)) line
      (λ dims. with_slot regs slot line (region_of rank dims)))
  dims_same rank slot line parts fits None = refl
  dims_same rank slot line parts fits (Some m) =
      ap (λ o. with_computed o line (λ dims. with_slot regs slot line (region_of m dims)))
      (parts_same n code regs rank 0 m parts fits)

  row_alike : HasRoom → (row : Instr) (rank : ℕ) → votes_at code local.at ≡ is_vote (Some row)
      → FitsAt code rank row → IsRowAlike (is_vote (Some row)) row
  row_alike room (instr.Loop slot group) rank votes fits =
      subst (λ o. Both (looped code p local (slice_get local.slots slot)
      (slice_get code.groups group))
      (looped (counted n code) p (there false) (slice_get local.slots slot) o))
      (sym (slice_get-map (counted_group n code) code.groups group))
      (loop_alike false rank (slice_get local.slots slot) (slice_get code.groups group) votes fits.1
      (room_at room group (slice_get code.groups group) refl rank fits.1))
  row_alike room (instr.Room array slot) rank votes fits =
      room_alike false array (slice_get code.arrays array) (slice_get local.slots slot)
  row_alike room (instr.Clear array) rank votes fits =
      clear_alike false array (slice_get local.stores array)
  row_alike room (instr.Print text) rank votes fits = text_alike false (slice_get code.texts text)
  row_alike room (instr.Number expr) rank votes fits =
      value_as (expression_value code local expr)
      (expression_value (counted n code) (there false) expr)
      signed_decimal (register_same n code regs expr fits)
  row_alike room (instr.Truth expr) rank votes fits =
      value_as (expression_value code local expr)
      (expression_value (counted n code) (there false) expr)
      truth_text (register_same n code regs expr fits)
  row_alike room (instr.Set scalar expr line) rank votes fits =
      controlled_as _ _ (ap (λ o. with_computed o line (with_scalar regs scalar))
      (register_same n code regs expr fits.1))
  row_alike room (instr.Dims slot parts line) rank votes fits =
      controlled_as _ _ (dims_same rank slot line parts fits.1.0 (slice_get code.slots slot))
  row_alike room (instr.Unless expr goal line) rank votes fits =
      controlled_as _ _ (ap (λ o. with_computed o line
      (λ value. branched regs (is_true value) goal))
      (register_same n code regs expr fits.0))
  row_alike room (instr.Vote group) rank votes fits =
      acts_alike code n most count few true (voted code (star code p) group)
      (voted (counted n code) (star code p) group)
      (voted_alike code n most count few (star code p) group) local long votes
  row_alike room (instr.TreeVote group) rank votes fits =
      acts_alike code n most count few true (voted code (tree code p) group)
      (voted (counted n code) (tree code p) group)
      (voted_alike code n most count few (tree code p) group) local long votes
  row_alike room row rank votes fits =
      same_alike (collective code p row) (control.control code regs row) votes
      (λ c e. worn_alike code n most count few c (row_worn code p row c refl e))

  abbrev IsFedAlike : Bool → Message → Instr → Type 0
  IsFedAlike v message row =
      FedAlike code n most (fed_at code p local message (Some row))
      (fed_at (counted n code) p (there v) (counted_message code n message) (Some row))

  fed_same : (message : Message) (o : Option Collective) → votes_at code local.at ≡ false
      → ((row : Collective) → o ≡ Some row → RowsAlike code n most count few false row row)
      → FedAlike code n most (fed_together o local message)
      (fed_together o (there false) (counted_message code n message))
  fed_same message None votes rows = BothRefuse Undefined
  fed_same message (Some row) votes rows =
      fed_alike code n most count few false row row (rows row refl) local long votes message

  row_fed : (message : Message) (row : Instr) → votes_at code local.at ≡ is_vote (Some row)
      → IsFedAlike (is_vote (Some row)) message row
  row_fed message (instr.Vote group) votes =
      fed_alike code n most count few true (voted code (star code p) group)
      (voted (counted n code) (star code p) group)
      (voted_alike code n most count few (star code p) group) local long votes message
  row_fed message (instr.TreeVote group) votes =
      fed_alike code n most count few true (voted code (tree code p) group)
      (voted (counted n code) (tree code p) group)
      (voted_alike code n most count few (tree code p) group) local long votes message
  row_fed message row votes =
      fed_same message (collective code p row) votes
      (λ c e. worn_alike code n most count few c (row_worn code p row c refl e))

  -- ---- whatever is next
  abbrev vote_now : Bool
  vote_now = votes_at code local.at

  abbrev FitsNext : Option Instr → Type 0
  FitsNext o = (row : Instr) → o ≡ Some row → FitsInstr code row

  at_alike : HasRoom → (o : Option Instr) → slice_get code.code local.at ≡ o → FitsNext o
      → Both (act_at code p local o) (act_at (counted n code) p (there vote_now) o)
  at_alike room None e fits = BothGo [] (ended_alike vote_now Done) refl
  at_alike room (Some row) e fits =
      let votes : votes_at code local.at ≡ is_vote (Some row) = ap is_vote e in
      let fit = fits row refl in
      subst (λ v. IsRowAlike v row) (sym votes) (row_alike room row fit.rank votes fit.fit)

  pub act_alike : HasRoom → FitsNext (slice_get code.code local.at)
      → Both (act code p local) (act (counted n code) p (counted_local code n count local))
  act_alike room fits = by local.ended
    where
      by : (o : Option End)
          → Both (unless_ended o (act_at code p local (slice_get code.code local.at)))
          (unless_ended o (act_at (counted n code) p (there vote_now)
          (slice_get code.code local.at)))
      by (Some ending) = BothEnded
      by None = at_alike room (slice_get code.code local.at) refl fits

  fed_at_alike : (message : Message) (o : Option Instr) → slice_get code.code local.at ≡ o
      → FedAlike code n most (fed_at code p local message o)
      (fed_at (counted n code) p (there vote_now) (counted_message code n message) o)
  fed_at_alike message None e = BothRefuse Undefined
  fed_at_alike message (Some row) e =
      let votes : votes_at code local.at ≡ is_vote (Some row) = ap is_vote e in
      subst (λ v. IsFedAlike v message row) (sym votes) (row_fed message row votes)

  pub fed_both : (message : Message)
      → FedAlike code n most (fed code p local message)
      (fed (counted n code) p (counted_local code n count local) (counted_message code n message))
  fed_both message = fed_at_alike message (slice_get code.code local.at) refl
