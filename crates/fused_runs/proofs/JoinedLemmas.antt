-- A loop over two groups in a row does what a loop over the first one does, and then one over the
-- second.
use Rattle.std.proofs.Common.{◌≡◌, refl, sym, ◌∙◌, ap, subst, ℕ, Bool, true, false}
use Rattle.std.proofs.Common.{List, [], ◌∷◌, ◌++◌, map, Option, Some, None, ℤ}
use Rattle.std.specs.Prelude.{◌&&◌, flat_map, fold, if◌then◌else◌, option_and_then, is_none}
use Rattle.std.specs.Prelude.{slice_get}
use Rattle.std.specs.List.{AllByRecursion, list_all}
use Rattle.std.specs.Option.{option_map}
use Rattle.std.proofs.lemmas.Bool.{and_from, and_parts}
use Rattle.std.proofs.lemmas.Grind.{flat_map-append}
use Rattle.std.proofs.lemmas.List.{map-append}
use Rattle.std.proofs.lemmas.List.Elements.{All-from_recursion}
use Rattle.std.proofs.lemmas.List.Folds.{list_all-append}
use Rattle.zpl_region.specs.declared.regions.Region.{Region}
use Rattle.zpl_arrays.specs.Array.{Array}
use Rattle.row_runs.specs.Run.{Does, Effect, Goes, Step, Stops, Wrong}
use Rattle.row_runs.specs.Straight.{Flow, Halts, OnTo, Tied, TiedHalt, TiedOn, TiedWrong}
use Rattle.row_runs.specs.Straight.{flow_behind, flow_step}
use Rattle.node_form.specs.declared.arrays.ArrayRow.{ArrayRow}
use Rattle.node_form.specs.declared.instructions.Instr.TheVariants as instr
use Rattle.node_form.specs.declared.members.Member as number
use Rattle.node_form.specs.declared.members.Member.TheVariants as member
use Rattle.node_form.specs.declared.tables.Tables.{Tables}
use Rattle.node_form.specs.declared.touches.Thing.{Thing}
use Rattle.node_form.specs.declared.touches.Thing.TheVariants as thing
use Rattle.node_form.specs.Nest.{Nest}
use Rattle.node_form.specs.Touch.{IsWrittenByMember}
use Rattle.node_form.specs.Value.{unmoved}
use Rattle.nest_meaning.specs.Tree.{nest_of}
use Rattle.code_parts.specs.Uses.{accumulated_by, scalars_in, share}
use Rattle.code_parts.specs.Uses as uses
use Rattle.flat_form.specs.Act.{act}
use Rattle.flat_form.specs.Loop.{all_awaiting, awaiting, loop_stands, looped, tree_does}
use Rattle.flat_form.specs.Names.{Read, Total, each_word, group_cells, group_puts, group_reads}
use Rattle.flat_form.specs.Names.{group_totals, group_words, member_puts, member_totals}
use Rattle.flat_form.specs.Names.{word_reads, word_scalars}
use Rattle.flat_form.specs.Right.{all_begin, are_settled, can_read, can_write, has_places}
use Rattle.flat_form.specs.Right.{is_settled, matches}
use Rattle.flat_form.specs.Right.{may_read, reads_well, totals_begin, writes_well}
use Rattle.flat_form.specs.Row.{Loop, Member, group_coded, member_inlined, member_words}
use Rattle.flat_form.specs.Touches.{HaveSame}
use Rattle.flat_form.specs.Whole.{Whole}
use Rattle.flat_form.proofs.ChangeLemmas.{change_written}
use Rattle.normal_runs.proofs.NameLemmas.{any_all}
use Rattle.contracted_runs.proofs.StorageLemmas.{SameStorages, loop_same}
use Rattle.fused_runs.proofs.AwaitLemmas.{await_either}
use Rattle.fused_runs.proofs.BeginLemmas.{NotAmong, all_apart, first_begins, inline, reads_are}
use Rattle.fused_runs.proofs.BeginLemmas.{second_begins, totals_are}
use Rattle.fused_runs.proofs.UnitLemmas.{IsQuiet, QuietOn, QuietStop, both_do, coded_does}
use Rattle.fused_runs.proofs.UnitLemmas.{nest_does}
use Rattle.fused_runs.proofs.UnitLemmas.{nest_quiet, step_then}

-- ---- lists
pub each_both : {X Y : Type 0} (f : X → List Y) (xs ys : List X)
    → flat_map f (xs ++ ys) ≡ flat_map f xs ++ flat_map f ys
each_both f xs ys = flat_map-append f xs ys

pub all_parts : {X : Type 0} (f : X → Bool) (xs ys : List X) → list_all f (xs ++ ys) ≡ true
    → (list_all f xs ≡ true) × (list_all f ys ≡ true)
all_parts f xs ys e =
    and_parts (list_all f xs) (list_all f ys) (sym (list_all-append f xs ys) ∙ e)

pub all_on : {X : Type 0} (f g : X → Bool) (xs : List X) → AllByRecursion (λ x. f x ≡ true → g x
    ≡ true) xs
    → list_all f xs ≡ true → list_all g xs ≡ true
all_on f g [] same e = refl
all_on f g (x ∷ xs) same e =
    let parts = and_parts (f x) (list_all f xs) e in
    and_from (g x) (list_all g xs) (same.0 parts.0) (all_on f g xs same.1 parts.1)

pub any_list : {X : Type 0} (P : X → Type 0) → ((x : X) → P x) → (xs : List X) → AllByRecursion P xs
any_list P all [] = tt
any_list P all (x ∷ xs) = (all x, any_list P all xs)

pub each_of : {X : Type 0} (P Q : X → Type 0) → ((x : X) → P x → Q x) → (xs : List X)
    → AllByRecursion P xs → AllByRecursion Q xs
each_of P Q one [] all = tt
each_of P Q one (x ∷ xs) all = (one x all.0, each_of P Q one xs all.1)

pub both_all : {X : Type 0} (P : X → Type 0) (xs ys : List X) → AllByRecursion P xs
    → AllByRecursion P ys → AllByRecursion P (xs ++ ys)
both_all P [] ys first second = second
both_all P (x ∷ xs) ys first second = (first.0, both_all P xs ys first.1 second)

-- ---- the same flow
abbrev pub IsSame : Flow Whole → Flow Whole → Type 0
IsSame f g = Tied (λ (s t : Whole). s ≡ t) f g

pub behind_none : (flow : Flow Whole) → flow_behind [] flow ≡ flow
behind_none (OnTo bytes s) = refl
behind_none (Halts bytes stop) = refl

pub same_flow : (flow : Flow Whole) → IsSame flow flow
same_flow (OnTo bytes s) = TiedOn refl
same_flow (Halts bytes stop) = TiedHalt

-- ---- arrays with the same storage
pub reads_same : (row : Option ArrayRow) (o p : Option Array) (region : Region) (shift : List ℤ)
    → option_map (λ (store : Array). store.storage) p
    ≡ option_map (λ (store : Array). store.storage) o
    → reads_well row o region shift ≡ reads_well row p region shift
reads_same None None None region shift e = refl
reads_same None None (Some q) region shift e = refl
reads_same None (Some p) None region shift e = refl
reads_same None (Some p) (Some q) region shift e = refl
reads_same (Some row) None None region shift e = refl
reads_same (Some row) None (Some q) region shift e = cc
reads_same (Some row) (Some p) None region shift e = cc
reads_same (Some row) (Some p) (Some q) region shift e =
    let same : p.storage ≡ q.storage = cc in
    ap (λ places. may_read row region shift
    && has_places (record { storage = places; values = [] }) region shift) same

pub writes_same : (row : Option ArrayRow) (o p : Option Array) (region : Region)
    → option_map (λ (store : Array). store.storage) p
    ≡ option_map (λ (store : Array). store.storage) o
    → writes_well row o region ≡ writes_well row p region
writes_same None None None region e = refl
writes_same None None (Some q) region e = refl
writes_same None (Some p) None region e = refl
writes_same None (Some p) (Some q) region e = refl
writes_same (Some row) None None region e = refl
writes_same (Some row) None (Some q) region e = cc
writes_same (Some row) (Some p) None region e = cc
writes_same (Some row) (Some p) (Some q) region e =
    let same : p.storage ≡ q.storage = cc in
    ap (λ places. matches row region
    && has_places (record { storage = places; values = [] }) region
    unmoved) same

module _ (tables : Tables) (n slot : ℕ) where
  abbrev pub does : List number.Member → Whole → Effect Whole
  does group s = act tables n (Loop slot (inline tables group)) s

  -- what a loop does where it may stand
  pub loop_is : (group : List number.Member) (s : Whole) (region : Region)
      → are_settled s (Loop slot (inline tables group)) ≡ true
      → slice_get s.slots slot ≡ Some region
      → loop_stands tables s region (inline tables group) ≡ true
      → group_cells (inline tables group) ≡ 0
      → does group s
      ≡ Does (all_awaiting (group_totals (inline tables group))
      (nest_does tables n region (nest_of group) s))
  loop_is group s region settled here stands few =
      let G = inline tables group in
      ap (λ b. if b then Does (looped tables n G s (slice_get s.slots slot))
      else Does (Stops Wrong)) settled
      ∙ (ap (λ o. Does (looped tables n G s o)) here
      ∙ (ap (λ b. Does (if b then tree_does n region G s (nest_of (group_coded 0 G))
      else Stops Wrong)) stands
      ∙ ap Does (coded_does tables n region group s few)))

  -- ---- what a loop leaves as it was
  abbrev alone : List number.Member → Tables
  alone group = record tables { groups = group ∷ [] }

  none_writes : (k : ℕ) (group : List number.Member)
      → NotAmong (flat_map accumulated_by group) k
      → AllByRecursion (λ one. IsWrittenByMember (thing.Scalar k) one → ⊥) group
  none_writes k [] all = tt
  none_writes k (member.Acc scalar operator expr mask line ∷ group) all =
      (λ is. all.0 (sames is), none_writes k group all.1)
    where
      sames : thing.Scalar k ≡ thing.Scalar scalar → scalar ≡ k
      sames e = cc
  none_writes k (member.Put array expr mask line ∷ group) all =
      (λ is. cc, none_writes k group all)
  none_writes k (one ∷ group) all = (λ is. is, none_writes k group all)

  none_slot : (k : ℕ) (one : number.Member) → IsWrittenByMember (thing.Slot k) one → ⊥
  none_slot k (member.Put array expr mask line) is = cc
  none_slot k (member.Acc scalar operator expr mask line) is = cc
  none_slot k one is = is

  module _ (group : List number.Member) (s next : Whole) (bytes : List ℕ)
      (goes : does group s ≡ Does (Goes bytes next)) where
    unwritten : (it : Thing) → AllByRecursion (λ one. IsWrittenByMember it one → ⊥) group
        → HaveSame tables tables s next it
    unwritten it none =
        change_written (alone group) n (instr.Loop slot 0) s next bytes goes it
        (λ any. any_all (λ one. IsWrittenByMember it one → ⊥) (IsWrittenByMember it) ⊥ group
        (λ one free is. free is)
        (All-from_recursion (λ one. IsWrittenByMember it one → ⊥) group none) any)

    pub scalar_left : (k : ℕ) → NotAmong (flat_map accumulated_by group) k
        → HaveSame tables tables s next (thing.Scalar k)
    scalar_left k free = unwritten (thing.Scalar k) (none_writes k group free)

    pub slot_left : (k : ℕ) → slice_get s.slots k ≡ slice_get next.slots k
    slot_left k =
        (unwritten (thing.Slot k)
        (any_list (λ one. IsWrittenByMember (thing.Slot k) one → ⊥) (none_slot k) group)).1

    pub storages : SameStorages s next
    storages = loop_same tables n slot (inline tables group) s next bytes goes

  -- ---- two groups
  module _ (one other : List number.Member)
      (apart_totals : share (flat_map accumulated_by one) (flat_map accumulated_by other) ≡ false)
      (apart_reads : share (flat_map accumulated_by one)
      (flat_map scalars_in (flat_map (uses.member_words tables) other)) ≡ false)
      (few : group_cells (inline tables one) ≡ 0) (few_other : group_cells (inline tables other)
      ≡ 0)
      (few_both : group_cells (inline tables (one ++ other)) ≡ 0)
      (first second : Nest) (read : nest_of one ≡ Some first) (read_other : nest_of other
      ≡ Some second)
    where
      abbrev G : List Member
      G = inline tables one

      abbrev H : List Member
      H = inline tables other

      abbrev J : List Member
      J = inline tables (one ++ other)

      joined : J ≡ G ++ H
      joined = map-append (member_inlined tables) one other

      abbrev pub scalars_of : List Member → List ℕ
      scalars_of group = each_word word_scalars (group_words group)

      words_both : group_words J ≡ group_words G ++ group_words H
      words_both = ap group_words joined ∙ each_both member_words G H

      pub scalars_both : scalars_of J ≡ scalars_of G ++ scalars_of H
      scalars_both =
          ap (each_word word_scalars) words_both
          ∙ each_both (λ words. flat_map word_scalars words) (group_words G) (group_words H)

      pub reads_both : group_reads J ≡ group_reads G ++ group_reads H
      reads_both =
          ap (each_word word_reads) words_both
          ∙ each_both (λ words. flat_map word_reads words) (group_words G) (group_words H)

      pub puts_both : group_puts J ≡ group_puts G ++ group_puts H
      puts_both = ap group_puts joined ∙ each_both member_puts G H

      pub totals_both : group_totals J ≡ group_totals G ++ group_totals H
      totals_both = ap group_totals joined ∙ each_both member_totals G H

      abbrev own : List Member → List ℕ
      own group = map (λ (total : Total). total.scalar) (group_totals group)

      pub own_both : own J ≡ own G ++ own H
      own_both =
          ap (λ totals. map (λ (total : Total). total.scalar) totals) totals_both
          ∙ map-append (λ (total : Total). total.scalar) (group_totals G) (group_totals H)

      begins : (s : Whole) (region : Region) → totals_begin s region J ≡ true
          → all_begin s region (scalars_of G ++ scalars_of H)
          (group_totals G ++ group_totals H) ≡ true
      begins s region e =
          subst (λ scalars. all_begin s region scalars
          (group_totals G ++ group_totals H) ≡ true) scalars_both
          (subst (λ totals. all_begin s region (scalars_of J) totals
          ≡ true) totals_both e)

      -- ---- both may stand
      record Both (s : Whole) (region : Region) : Type 0 where
        settled : are_settled s (Loop slot G) ≡ true
        settled_other : are_settled s (Loop slot H) ≡ true
        stands : loop_stands tables s region G ≡ true
        reads : list_all (can_read tables s region) (group_reads H) ≡ true
        puts : list_all (can_write tables s region) (group_puts H) ≡ true
        totals : totals_begin s region J ≡ true

      both_stand : (s : Whole) (region : Region) → are_settled s (Loop slot J) ≡ true
          → loop_stands tables s region J ≡ true → Both s region
      both_stand s region settled stands =
          let named = all_parts (is_settled s) (own J) (scalars_of J) settled in
          let owns = all_parts (is_settled s) (own G) (own H)
          (subst (λ l. list_all (is_settled s) l ≡ true) own_both named.0) in
          let reads = all_parts (is_settled s) (scalars_of G) (scalars_of H)
          (subst (λ l. list_all (is_settled s) l ≡ true) scalars_both named.1) in
          let parts = and_parts (list_all (can_read tables s region) (group_reads J))
          (list_all (can_write tables s region) (group_puts J) && totals_begin s region J) stands in
          let more = and_parts (list_all (can_write tables s region) (group_puts J))
          (totals_begin s region J) parts.1 in
          let read = all_parts (can_read tables s region) (group_reads G) (group_reads H)
          (subst (λ l. list_all (can_read tables s region) l ≡ true) reads_both parts.0) in
          let put = all_parts (can_write tables s region) (group_puts G) (group_puts H)
          (subst (λ l. list_all (can_write tables s region) l ≡ true) puts_both more.0) in
          record {
            settled = all_of s (own G) (scalars_of G) owns.0 reads.0;
            settled_other = all_of s (own H) (scalars_of H) owns.1 reads.1;
            stands = and_from (list_all (can_read tables s region) (group_reads G))
                (list_all (can_write tables s region) (group_puts G) && totals_begin s region G)
                read.0
                (and_from (list_all (can_write tables s region) (group_puts G))
                (totals_begin s region G) put.0
                (first_begins s region (scalars_of G) (scalars_of H) (group_totals G)
                (group_totals H) (begins s region more.1)));
            reads = read.1;
            puts = put.1;
            totals = more.1;
          }
        where
          all_of : (s : Whole) (xs ys : List ℕ) → list_all (is_settled s) xs ≡ true
              → list_all (is_settled s) ys ≡ true → list_all (is_settled s) (xs ++ ys) ≡ true
          all_of s xs ys e f =
              list_all-append (is_settled s) xs ys
              ∙ and_from (list_all (is_settled s) xs) (list_all (is_settled s) ys) e f

      -- the scalars of the second group aren't accumulated by the first one
      pub own_apart : AllByRecursion (NotAmong (flat_map accumulated_by one)) (own H)
      own_apart =
          subst (AllByRecursion (NotAmong (flat_map accumulated_by one)))
          (sym (totals_are tables other))
          (all_apart (flat_map accumulated_by one) (flat_map accumulated_by other) apart_totals)

      pub scalars_apart : AllByRecursion (NotAmong (flat_map accumulated_by one)) (scalars_of H)
      scalars_apart =
          subst (AllByRecursion (NotAmong (flat_map accumulated_by one)))
          (sym (reads_are tables other))
          (all_apart (flat_map accumulated_by one)
          (flat_map scalars_in (flat_map (uses.member_words tables) other)) apart_reads)

      -- ---- the second one behind the first one
      module _ (s next : Whole) (region : Region) (bytes : List ℕ)
          (goes : does one s ≡ Does (Goes bytes next)) (both : Both s region) where
        still_settled : are_settled next (Loop slot H) ≡ true
        still_settled =
            all_on (is_settled s) (is_settled next) (own H ++ scalars_of H)
            (each_of (NotAmong (flat_map accumulated_by one))
            (λ k. is_settled s k ≡ true → is_settled next k ≡ true)
            (λ k free e. ap (λ o. is_none (option_and_then (λ awaited. awaited) o))
            (sym (scalar_left one s next bytes goes k free).1) ∙ e) (own H ++ scalars_of H)
            (both_all (NotAmong (flat_map accumulated_by one)) (own H) (scalars_of H) own_apart
            scalars_apart)) both.settled_other

        still_stands : loop_stands tables next region H ≡ true
        still_stands =
            let same = (storages one s next bytes goes).same in
            and_from (list_all (can_read tables next region) (group_reads H))
            (list_all (can_write tables next region) (group_puts H) && totals_begin next region H)
            (all_on (can_read tables s region) (can_read tables next region) (group_reads H)
            (any_list (λ (read : Read). can_read tables s region read ≡ true
            → can_read tables next region read ≡ true)
            (λ read e. sym (reads_same (slice_get tables.arrays read.array)
            (slice_get s.stores read.array) (slice_get next.stores read.array) region read.shift
            (same read.array)) ∙ e) (group_reads H)) both.reads)
            (and_from (list_all (can_write tables next region) (group_puts H))
            (totals_begin next region H)
            (all_on (can_write tables s region) (can_write tables next region) (group_puts H)
            (any_list (λ array. can_write tables s region array ≡ true
            → can_write tables next region array ≡ true)
            (λ array e. sym (writes_same (slice_get tables.arrays array)
            (slice_get s.stores array) (slice_get next.stores array) region (same array)) ∙ e)
            (group_puts H)) both.puts)
            (second_begins s region (scalars_of G) (scalars_of H) (group_totals G)
            (group_totals H) (begins s region both.totals) next
            (each_of (NotAmong (flat_map accumulated_by one))
            (λ k. slice_get s.scalars k ≡ slice_get next.scalars k)
            (λ k free. (scalar_left one s next bytes goes k free).0) (own H) own_apart)))

      -- ---- both loops
      abbrev in_turn : Whole → (Whole → Flow Whole) → Flow Whole
      in_turn s more = flow_step (does one s) (λ next. flow_step (does other next) more)

      module _ (s : Whole) (more : Whole → Flow Whole) where
        module _ (region : Region) (here : slice_get s.slots slot ≡ Some region)
            (both : Both s region) where
          abbrev after : Step Whole → Step Whole
          after step = step_then step (λ next. nest_does tables n region (nest_of other) next)

          by_step : (step : Step Whole) → IsQuiet step
              → nest_does tables n region (nest_of one) s ≡ step
              → IsSame (flow_step (Does (all_awaiting (group_totals G ++ group_totals H)
              (after step)))
              more)
              (flow_step (Does (all_awaiting (group_totals G) step))
              (λ next. flow_step (does other next) more))
          by_step step QuietStop e = TiedHalt
          by_step step (QuietOn {next = mid}) e =
              let next = fold awaiting mid (group_totals G) in
              let goes : does one s ≡ Does (Goes [] next) =
              loop_is one s region both.settled here both.stands few
              ∙ ap (λ u. Does (all_awaiting (group_totals G) u)) e in
              let second : does other next
              ≡ Does (all_awaiting (group_totals H) (nest_does tables n region
              (nest_of other) next)) =
              loop_is other next region (still_settled s next region [] goes both)
              (sym (slot_left one s next [] goes slot) ∙ here)
              (still_stands s next region [] goes both) few_other in
              let same : flow_step (Does (all_awaiting (group_totals G ++ group_totals H)
              (nest_does tables n region (nest_of other) mid))) more
              ≡ flow_behind [] (flow_step (does other next) more) =
              ap (λ step. flow_step (Does step) more)
              (await_either tables n region (nest_of other) (group_totals G) (group_totals H) mid)
              ∙ (ap (λ effect. flow_step effect more) (sym second)
              ∙ sym (behind_none (flow_step (does other next) more))) in
              subst (λ flow. IsSame flow (flow_behind [] (flow_step (does other next) more)))
              (sym same) (same_flow (flow_behind [] (flow_step (does other next) more)))

          standing : are_settled s (Loop slot J) ≡ true → loop_stands tables s region J ≡ true
              → IsSame (flow_step (does (one ++ other) s) more) (in_turn s more)
          standing settled stands =
              let step = nest_does tables n region (nest_of one) s in
              let whole : does (one ++ other) s
              ≡ Does (all_awaiting (group_totals G ++ group_totals H) (after step)) =
              loop_is (one ++ other) s region settled here stands few_both
              ∙ (ap (λ totals. Does (all_awaiting totals
              (nest_does tables n region (nest_of (one ++ other)) s))) totals_both
              ∙ ap (λ u. Does (all_awaiting (group_totals G ++ group_totals H) u))
              (both_do tables n region one other first second read read_other s)) in
              let part : does one s ≡ Does (all_awaiting (group_totals G) step) =
              loop_is one s region both.settled here both.stands few in
              subst (λ effect. IsSame (flow_step effect more) (in_turn s more)) (sym whole)
              (subst (λ effect. IsSame (flow_step (Does (all_awaiting
              (group_totals G ++ group_totals H) (after step))) more)
              (flow_step effect (λ next. flow_step (does other next) more))) (sym part)
              (by_step step (nest_quiet tables n region (nest_of one) s) refl))

        by_stands : (region : Region) (b : Bool) → slice_get s.slots slot ≡ Some region
            → are_settled s (Loop slot J) ≡ true → loop_stands tables s region J ≡ b
            → IsSame (flow_step (does (one ++ other) s) more) (in_turn s more)
        by_stands region true here settled stands =
            standing region here (both_stand s region settled stands) settled stands
        by_stands region false here settled stands =
            let wrong : does (one ++ other) s ≡ Does (Stops Wrong) =
            ap (λ b. if b then Does (looped tables n J s (slice_get s.slots slot))
            else Does (Stops Wrong)) settled
            ∙ (ap (λ o. Does (looped tables n J s o)) here
            ∙ ap (λ b. Does (if b then tree_does n region J s (nest_of (group_coded 0 J))
            else Stops Wrong)) stands) in
            subst (λ effect. IsSame (flow_step effect more) (in_turn s more)) (sym wrong) TiedWrong

        by_region : (o : Option Region) → slice_get s.slots slot ≡ o
            → are_settled s (Loop slot J) ≡ true
            → IsSame (flow_step (does (one ++ other) s) more) (in_turn s more)
        by_region (Some region) here settled =
            by_stands region (loop_stands tables s region J) here settled refl
        by_region None here settled =
            let wrong : does (one ++ other) s ≡ Does (Stops Wrong) =
            ap (λ b. if b then Does (looped tables n J s (slice_get s.slots slot))
            else Does (Stops Wrong)) settled
            ∙ ap (λ o. Does (looped tables n J s o)) here in
            subst (λ effect. IsSame (flow_step effect more) (in_turn s more)) (sym wrong) TiedWrong

        by_settled : (b : Bool) → are_settled s (Loop slot J) ≡ b
            → IsSame (flow_step (does (one ++ other) s) more) (in_turn s more)
        by_settled true settled = by_region (slice_get s.slots slot) refl settled
        by_settled false settled =
            let wrong : does (one ++ other) s ≡ Does (Stops Wrong) =
            ap (λ b. if b then Does (looped tables n J s (slice_get s.slots slot))
            else Does (Stops Wrong)) settled in
            subst (λ effect. IsSame (flow_step effect more) (in_turn s more)) (sym wrong) TiedWrong

        -- unless the loop over both may not stand there, it is the two in turn
        pub loops_in_turn : IsSame (flow_step (does (one ++ other) s) more) (in_turn s more)
        loops_in_turn = by_settled (are_settled s (Loop slot J)) refl
