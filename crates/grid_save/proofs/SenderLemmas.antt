-- The senders of what a processor keeps ascend, and are numbers of processors.
use Rattle.std.proofs.Common.{◌≡◌, ℕ, zero, suc, ◌+◌, ◌-◌, ◌*◌, ◌/◌, ◌<◌, Bool, true, false, List, [], ◌∷◌, ◌++◌, length, map, take, refl, ap, sym, ◌∙◌, subst, arith}
use Rattle.std.specs.Prelude.{◌≢◌, ◌==◌, Option, Some, None, IsSome, filter, if◌then◌else◌, nat_lt, slice_get}
use Rattle.std.specs.List.{filter_map, range_with_len}
use Rattle.std.specs.Option.{option_map}
use Rattle.std.proofs.Math.Nat.{div-mul-le_self}
use Rattle.std.proofs.lemmas.Bool.Decides.{nat_tests}
use Rattle.std.proofs.lemmas.List.{append-nil}
use Rattle.zpl_nums.specs.declared.ends.End.{End}
use Rattle.node_form.specs.declared.instructions.Instr.{Instr}
use Rattle.node_form.specs.declared.instructions.Instr.TheVariants as instr
use Rattle.node_form.specs.declared.arrays.ArrayRow.{ArrayRow}
use Rattle.node_form.specs.declared.arrays.Item.{Item}
use Rattle.node_form.specs.declared.members.Member.{Member}
use Rattle.node_form.specs.declared.tables.Tables.{Tables}
use Rattle.zpl_region.specs.declared.regions.Region.{Region}
use Rattle.grid_meaning.specs.Collective.{Kin, Stage, Alone, Sends, TakesFrom, Last, agreeing_stages, others, others_where, parent_of, star, to_parent, tree}
use Rattle.grid_meaning.specs.Exchange.{finished, started}
use Rattle.grid_meaning.specs.Gather.{gather_stages}
use Rattle.grid_meaning.specs.Owner.{region_in, tuples_of}
use Rattle.grid_meaning.specs.Remap.{remapped}
use Rattle.grid_meaning.specs.Scan.{line_count}
use Rattle.grid_meaning.specs.Local.{Local, processor_numbers, processors}
use Rattle.grid_meaning.specs.Rows.{collective}
use Rattle.grid_meaning.specs.State.{IsAt, IsIn, IsLocal, IsLooping, IsPart, ascending, senders}
use Rattle.grid_save.proofs.CutLemmas.{Every, every-append}
use Rattle.grid_save.proofs.OrderLemmas.{Ascends, Differ, ascending_ascends, ascending_every, differ_of_ascends, every-filter, filter_ascends, part_ascends, part_every, range_ascends, range_below, senders_of, take_ascends, take_every}
use Rattle.grid_save.proofs.SameLemmas.{every_more}

abbrev pub IsBelow : Tables → ℕ → Type 0
IsBelow code q = q < processors code

-- senders that differ, each a processor
pub record AreSenders (code : Tables) (ns : List ℕ) : Type 0 where
  pub differ : Differ ns
  pub below : Every (λ q. q < processors code) ns

-- what is kept is in order
pub record IsOrdered (code : Tables) (local : Local) : Type 0 where
  pub ascends : Ascends (senders_of local.kept)
  pub below : Every (λ q. q < processors code) (senders_of local.kept)

-- ---- the senders of stages
senders-take : (P : ℕ → Type 0) (k : ℕ) (stages : List Stage) → Every P (senders stages) → Every P (senders (take k stages))
senders-take P zero stages each = tt
senders-take P (suc k) [] each = tt
senders-take P (suc k) (Alone ∷ stages) each = senders-take P k stages each
senders-take P (suc k) (Sends to ∷ stages) each = senders-take P k stages each
senders-take P (suc k) (TakesFrom from ∷ stages) each = (each.0, senders-take P k stages each.1)
senders-take P (suc k) (Last ∷ stages) each = senders-take P k stages each

senders_differ : (k : ℕ) (stages : List Stage) → Differ (senders stages) → Differ (senders (take k stages))
senders_differ zero stages differ = tt
senders_differ (suc k) [] differ = tt
senders_differ (suc k) (Alone ∷ stages) differ = senders_differ k stages differ
senders_differ (suc k) (Sends to ∷ stages) differ = senders_differ k stages differ
senders_differ (suc k) (TakesFrom from ∷ stages) differ = (senders-take (λ m. m ≢ from) k stages differ.0, senders_differ k stages differ.1)
senders_differ (suc k) (Last ∷ stages) differ = senders_differ k stages differ

senders-takes : (ns : List ℕ) (rest : List Stage) → senders (map TakesFrom ns ++ rest) ≡ ns ++ senders rest
senders-takes [] rest = refl
senders-takes (n ∷ ns) rest = ap (λ ms. n ∷ ms) (senders-takes ns rest)

senders-sends : (ns : List ℕ) (rest : List Stage) → senders (map Sends ns ++ rest) ≡ senders rest
senders-sends [] rest = refl
senders-sends (n ∷ ns) rest = senders-sends ns rest

-- ---- processors
others_ascend : (code : Tables) (p : ℕ) → Ascends (others code p)
others_ascend code p = filter_ascends _ (processor_numbers code) (range_ascends 0 (processors code))

others_below : (code : Tables) (p : ℕ) → Every (IsBelow code) (others code p)
others_below code p = every-filter (IsBelow code) _ (processor_numbers code) (range_below (processors code) 0 (processors code) (omega arith))

where_senders : (code : Tables) (p : ℕ) (many : ℕ → ℕ) → AreSenders code (others_where code p many)
where_senders code p many = record {
  differ = differ_of_ascends (others_where code p many) (filter_ascends _ (others code p) (others_ascend code p));
  below = every-filter (IsBelow code) _ (others code p) (others_below code p);
}

-- ---- who agree
parents : Option ℕ → List ℕ
parents None = []
parents (Some parent) = parent ∷ []

agreeing_senders : (kin : Kin) → senders (agreeing_stages kin) ≡ kin.children ++ parents kin.parent
unfolding parents
agreeing_senders kin = senders-takes kin.children _ ∙ ap (λ ms. kin.children ++ ms) (by kin.parent) where
  by : (parent : Option ℕ) → senders (to_parent parent ++ (map Sends kin.children ++ Last ∷ [])) ≡ parents parent
  by None = senders-sends kin.children (Last ∷ [])
  by (Some parent) = ap (λ ms. parent ∷ ms) (senders-sends kin.children (Last ∷ []))

differ_more : (ns : List ℕ) (q : ℕ) → Differ ns → Every (λ m. q ≢ m) ns → Differ (ns ++ q ∷ [])
differ_more [] q differ new = (tt, tt)
differ_more (n ∷ ns) q differ new =
    (every-append (λ m. m ≢ n) ns (q ∷ []) differ.0 (new.0, tt), differ_more ns q differ.1 new.1)

pub record AreKin (code : Tables) (kin : Kin) : Type 0 where
  pub senders_are : AreSenders code (senders (agreeing_stages kin))

stars : (code : Tables) (p : ℕ) → p < processors code → AreKin code (star code p)
unfolding parents
stars code zero inside = record { senders_are = subst (AreSenders code) (sym same) record { differ = differ_of_ascends ns up; below = low } } where
  ns : List ℕ
  ns = range_with_len 1 (processors code - 1)

  same : senders (agreeing_stages (star code 0)) ≡ range_with_len 1 (processors code - 1)
  same = agreeing_senders (star code 0) ∙ append-nil (range_with_len 1 (processors code - 1))

  up : Ascends (range_with_len 1 (processors code - 1))
  up = range_ascends 1 (processors code - 1)

  low : Every (IsBelow code) (range_with_len 1 (processors code - 1))
  low = range_below (processors code) 1 (processors code - 1) (omega (arith, inside))
stars code (suc p) inside = record { senders_are = record { differ = (tt, tt); below = (omega (arith, inside), tt) } }

-- the children of a processor lie behind it, and its parent before it
filter_passes : (p : ℕ → Bool) (ns : List ℕ) → Every (λ n. p n ≡ true) (filter p ns)
filter_passes p [] = tt
filter_passes p (n ∷ ns) = by (p n) refl (filter_passes p ns) where
  by : (b : Bool) → p n ≡ b → Every (λ m. p m ≡ true) (filter p ns) → Every (λ m. p m ≡ true) (if b then n ∷ filter p ns else filter p ns)
  by true e others = (e, others)
  by false e others = others

passed : (m n : ℕ) → nat_lt m n ≡ true → m < n
passed m n e = grind (arith, nat_tests)

parent_before : (p parent : ℕ) → parent_of p ≡ Some parent → parent < p
parent_before zero parent e = absurd cc
parent_before (suc p) parent e =
    let same : p / 2 ≡ parent = cc in
    let most = div-mul-le_self p 2 in
    omega (arith, same, most)

trees : (code : Tables) (p : ℕ) → p < processors code → AreKin code (tree code p)
unfolding parents
trees code p inside = record { senders_are = subst (AreSenders code) (sym (agreeing_senders (tree code p))) (by p (parent_of p) refl) } where
  two : (q : ℕ) → Ascends ((2 * q + 1) ∷ (2 * q + 2) ∷ [])
  two q = ((omega arith, tt), (tt, tt))

  up : (q : ℕ) → Ascends (filter (λ m. nat_lt m (processors code)) ((2 * q + 1) ∷ (2 * q + 2) ∷ []))
  up q = filter_ascends (λ m. nat_lt m (processors code)) ((2 * q + 1) ∷ (2 * q + 2) ∷ []) (two q)

  behind : (q : ℕ) → Every (λ m. q < m) (filter (λ m. nat_lt m (processors code)) ((2 * q + 1) ∷ (2 * q + 2) ∷ []))
  behind q = every-filter (λ m. q < m) (λ m. nat_lt m (processors code)) ((2 * q + 1) ∷ (2 * q + 2) ∷ []) (omega arith, (omega arith, tt))

  low : (ms : List ℕ) → Every (IsBelow code) (filter (λ m. nat_lt m (processors code)) ms)
  low ms = every_more (λ m. nat_lt m (processors code) ≡ true) (IsBelow code) (λ m e. passed m (processors code) e) (filter (λ m. nat_lt m (processors code)) ms)
      (filter_passes (λ m. nat_lt m (processors code)) ms)

  by : (q : ℕ) (parent : Option ℕ) → parent_of p ≡ parent → AreSenders code ((tree code p).children ++ parents parent)
  by q None e = subst (AreSenders code) (sym (append-nil (tree code p).children)) record { differ = differ_of_ascends (tree code p).children (up p); below = low ((2 * p + 1) ∷ (2 * p + 2) ∷ []) }
  by q (Some parent) e =
      let before : parent < p = parent_before p parent e in
      record {
        differ = differ_more (tree code p).children parent (differ_of_ascends (tree code p).children (up p))
            (every_more (λ m. p < m) (λ m. parent ≢ m) (λ m above same. let f : parent ≡ m = same in omega (arith, above, before, f)) (tree code p).children (behind p));
        below = every-append (IsBelow code) (tree code p).children (parent ∷ []) (low ((2 * p + 1) ∷ (2 * p + 2) ∷ [])) (omega (arith, before, inside), tt);
      }

-- ---- what is kept in a row
module _ (code : Tables) (p : ℕ) (local : Local) (inside : p < processors code) where
  nothing_kept : local.kept ≡ [] → IsOrdered code local
  nothing_kept none = record {
    ascends = subst (λ kept. Ascends (senders_of kept)) (sym none) tt;
    below = subst (λ kept. Every (IsBelow code) (senders_of kept)) (sym none) tt;
  }

  in_last : (stages : List Stage) → AreSenders code (senders stages) → map (λ entry. entry.0) local.kept ≡ ascending (senders (take local.made stages)) → IsOrdered code local
  in_last stages are same = record {
    ascends = subst Ascends (sym same) (ascending_ascends (senders (take local.made stages)) (senders_differ local.made stages are.differ));
    below = subst (Every (IsBelow code)) (sym same) (ascending_every (IsBelow code) (senders (take local.made stages)) (senders-take (IsBelow code) local.made stages are.below));
  }

  scan_senders : (many : ℕ → ℕ) (to : List ℕ) → AreSenders code (senders (map Sends to ++ (map TakesFrom (others_where code p many) ++ Last ∷ [])))
  scan_senders many to =
      subst (AreSenders code) (sym (senders-sends to _ ∙ (senders-takes (others_where code p many) (Last ∷ []) ∙ append-nil (others_where code p many)))) (where_senders code p many)

  gather_senders : (q : ℕ) (region : Region) → AreSenders code (senders (gather_stages code q region))
  gather_senders zero region =
      subst (AreSenders code) (sym (senders-takes (others_where code 0 (λ r. length (tuples_of code r region))) (Last ∷ []) ∙ append-nil (others_where code 0 (λ r. length (tuples_of code r region)))))
      (where_senders code 0 (λ r. length (tuples_of code r region)))
  gather_senders (suc q) region = by (length (tuples_of code (suc q) region) == 0) where
    by : (b : Bool) → AreSenders code (senders (if b then Last ∷ [] else Sends 0 ∷ Last ∷ []))
    by true = record { differ = tt; below = tt }
    by false = record { differ = tt; below = tt }

  some_others : (k : ℕ) → IsPart (map (λ entry. entry.0) local.kept) (take k (others code p)) → IsOrdered code local
  some_others k part = record {
    ascends = part_ascends (senders_of local.kept) (take k (others code p)) part (take_ascends k (others code p) (others_ascend code p));
    below = part_every (IsBelow code) (senders_of local.kept) (take k (others code p)) part (take_every (IsBelow code) k (others code p) (others_below code p));
  }

  started_row : (exchange : ℕ) (found : Option (List Item)) → IsIn code p (option_map (started code p exchange) found) local → IsOrdered code local
  started_row exchange None is = nothing_kept is.kept
  started_row exchange (Some items) is = nothing_kept is.1

  finished_row : (exchange : ℕ) (found : Option (List Item)) → IsIn code p (option_map (finished code p exchange) found) local → IsOrdered code local
  finished_row exchange None is = nothing_kept is.kept
  finished_row exchange (Some items) is = nothing_kept is.1

  remapped_row : (array slot from : ℕ) (parts : List ℕ) (found : Option ArrayRow) → IsIn code p (option_map (remapped code p array slot from parts) found) local → IsOrdered code local
  remapped_row array slot from parts None is = nothing_kept is.kept
  remapped_row array slot from parts (Some row) is = some_others (local.made - processors code) is.1.0

  in_row : (row : Instr) → IsIn code p (collective code p row) local → IsOrdered code local
  in_row (instr.Start exchange) is = started_row exchange (slice_get code.exchanges exchange) is
  in_row (instr.Finish exchange) is = finished_row exchange (slice_get code.exchanges exchange) is
  in_row (instr.Edge k array slot shift) is = nothing_kept is.1
  in_row (instr.Flood array target from source) is = nothing_kept is.1
  in_row (instr.Part array target f from source) is = nothing_kept is.1
  in_row (instr.Scan array slot f along from mask) is =
      in_last _ (scan_senders (line_count code p f along from mask local slot) (others_where code p (λ q. line_count code p f along from mask local slot p))) is.1.0
  in_row (instr.Gather truth array slot) is = in_last _ (gather_senders p (region_in local slot)) is.1.0
  in_row (instr.Remap array slot from parts) is =
      remapped_row array slot from (filter_map (λ part. part) parts) (slice_get code.arrays from) is
  in_row (instr.Vote group) is = in_last _ (stars code p inside).senders_are is.1.0
  in_row (instr.TreeVote group) is = in_last _ (trees code p inside).senders_are is.1.0
  in_row (instr.Fold scalar f) is = in_last _ (stars code p inside).senders_are is.1.0
  in_row (instr.TreeFold scalar f) is = in_last _ (trees code p inside).senders_are is.1.0
  in_row row is = nothing_kept is.kept

  looping : (region : Option Region) (all : Option (List Member)) → IsLooping code p local region all → IsOrdered code local
  looping (Some region) (Some all) is = nothing_kept is.fresh.kept
  looping None all is = absurd is
  looping (Some region) None is = absurd is

  at_row : (row : Option Instr) → IsAt code p local row → IsOrdered code local
  at_row None is = nothing_kept is.1.kept
  at_row (Some (instr.Loop slot group)) is = looping (slice_get local.slots slot) (slice_get code.groups group) is
  at_row (Some row) is = in_row row is.1

pub kept_in_order : (code : Tables) (p : ℕ) (local : Local) → IsLocal code p local → IsOrdered code local
kept_in_order code p local is = by local.ended refl where
  by : (ended : Option End) → local.ended ≡ ended → IsOrdered code local
  by None e = at_row code p local is.number (slice_get code.code local.at) (is.running e)
  by (Some end) e = nothing_kept code p local is.number (is.over (subst IsSome (sym e) refl)).1.kept
