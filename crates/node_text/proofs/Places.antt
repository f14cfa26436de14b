-- The lines of a program stand in their places.
use Rattle.std.proofs.Common.{◌≡◌, Bool, true, List, [], ◌∷◌, ◌++◌, map, sym, ◌∙◌, ap, subst, refl}
use Rattle.std.specs.Prelude.{Option, Some, None, option_and_then, All}
use Rattle.std.specs.List.{flat_map}
use Rattle.std.specs.Option.{option_map}
use Rattle.std.proofs.lemmas.List.Elements.{All-nil, All-cons, All-head, All-tail, All-append}
use Rattle.node_form.specs.declared.instructions.Instr.{Instr}
use Rattle.node_form.specs.declared.instructions.Instr.TheVariants as instr
use Rattle.node_form.specs.declared.instructions.RegionForm.TheVariants as form
use Rattle.node_form.specs.declared.members.Member.{Member}
use Rattle.node_form.specs.declared.members.Member.TheVariants as member
use Rattle.node_form.specs.declared.nests.Opening.TheVariants as nest
use Rattle.node_form.specs.declared.nests.Opening as Nests
use Rattle.node_form.specs.declared.tables.Tables.{Tables}
use Rattle.node_form.specs.Nest as Nest
use Rattle.zpl_nums.specs.declared.ends.Border.TheVariants as border
use Rattle.listing_rules.specs.of_listing_lines.declared.lines.Line.{Line}
use Rattle.listing_rules.specs.of_listing_lines.declared.places.Opening.{Opening}
use Rattle.listing_rules.specs.of_listing_lines.declared.places.Opening.TheVariants.{If, Else, While, Repeat}
use Rattle.listing_rules.specs.of_listing_lines.declared.places.Part.{Part}
use Rattle.listing_rules.specs.of_listing_lines.declared.places.Part.TheVariants as part
use Rattle.listing_rules.specs.of_listing_lines.declared.places.Role.TheVariants as role
use Rattle.listing_rules.specs.of_listing_lines.Form.{has_form}
use Rattle.listing_rules.specs.of_listing_lines.Line.{IsLine}
use Rattle.listing_rules.specs.of_listing_lines.Listing.{Lead}
use Rattle.listing_rules.specs.of_listing_lines.Place.{Place, formed_behind, open_behind, part_behind, place_after, place_behind, role_of, with_part}
use Rattle.listing_rules.specs.of_listing_rows.Rows.{member_line, instr_line}
use Rattle.node_text.specs.Typed.{TypedMember}
use Rattle.node_text.proofs.Forms.{Stands, member_stands}

abbrev pub clear : Part → Place
clear part = record { part = part; openings = [] }

-- ---- steps
pub placed : (place : Place) (line : Line) (p : Part) (openings : List Opening) → has_form line ≡ true → part_behind place.part (role_of line.keyword) ≡ Some p →
    open_behind place.openings line.keyword ≡ Some openings → place_behind place line ≡ Some (record { part = p; openings = openings })
placed place line p openings formed is opens =
    ap (λ (b : Bool). formed_behind place line b) formed
    ∙ (ap (λ (o : Option Part). option_and_then (with_part (open_behind place.openings line.keyword)) o) is ∙ ap (λ (o : Option (List Opening)). with_part o p) opens)

pub lead_none : (place : Place) → Lead place [] place
lead_none place = record { lines_are = All-nil IsLine; reached = refl }

pub lead_first : (from next to : Place) (line : Line) (lines : List Line) → place_behind from line ≡ Some next → IsLine line → Lead next lines to → Lead from (line ∷ lines) to
lead_first from next to line lines step is lead = record {
  lines_are = All-cons IsLine line lines is lead.lines_are;
  reached = ap (λ (o : Option Place). option_and_then (λ n. place_after n lines) o) step ∙ lead.reached;
}

both_bound : (p : Option Place) (g h : Place → Option Place) (mid to : Place) → ((next : Place) → g next ≡ Some mid → h next ≡ Some to) → option_and_then g p ≡ Some mid → option_and_then h p ≡ Some to
both_bound None g h mid to says e = absurd cc
both_bound (Some next) g h mid to says e = says next e

after_both : (from : Place) (xs ys : List Line) (mid to : Place) → place_after from xs ≡ Some mid → place_after mid ys ≡ Some to → place_after from (xs ++ ys) ≡ Some to
after_both from [] ys mid to e f = let same : from ≡ mid = cc in subst (λ (p : Place). place_after p ys ≡ Some to) (sym same) f
after_both from (x ∷ xs) ys mid to e f =
    both_bound (place_behind from x) (λ next. place_after next xs) (λ next. place_after next (xs ++ ys)) mid to (λ next g. after_both next xs ys mid to g f) e

pub lead_both : (from mid to : Place) (xs ys : List Line) → Lead from xs mid → Lead mid ys to → Lead from (xs ++ ys) to
lead_both from mid to xs ys one other = record {
  lines_are = All-append IsLine xs ys one.lines_are other.lines_are;
  reached = after_both from xs ys mid to one.reached other.reached;
}

-- ---- parts
-- lines lead from one part, where nothing is open, to one of which this holds
pub record Parted (Ready : Part → Type 0) (from : Part) (lines : List Line) : Type 0 where
  pub to : Part
  pub ready : Ready to
  pub lead : Lead (clear from) lines (clear to)

-- the lines of a row lead into its part, and on in it
abbrev pub Leads : Part → Part → List Line → Type 0
Leads from inner lines = Lead (clear from) lines (clear inner) × Lead (clear inner) lines (clear inner)

inside : {X : Type 0} (f : X → List Line) (from inner : Part) (rows : List X) → All (λ row. Leads from inner (f row)) rows → Lead (clear inner) (flat_map f rows) (clear inner)
inside f from inner [] all = lead_none (clear inner)
inside {X} f from inner (row ∷ rows) all =
    let P : X → Type 0 = λ row. Leads from inner (f row) in
    lead_both (clear inner) (clear inner) (clear inner) (f row) (flat_map f rows) (All-head P row rows all).1 (inside f from inner rows (All-tail P row rows all))

pub parted : {X : Type 0} (Ready : Part → Type 0) (f : X → List Line) (from inner : Part) (rows : List X) → Ready from → Ready inner → All (λ row. Leads from inner (f row)) rows →
    Parted Ready from (flat_map f rows)
parted Ready f from inner [] here there all = record { to = from; ready = here; lead = lead_none (clear from) }
parted {X} Ready f from inner (row ∷ rows) here there all =
    let P : X → Type 0 = λ row. Leads from inner (f row) in
    record {
      to = inner;
      ready = there;
      lead = lead_both (clear from) (clear inner) (clear inner) (f row) (flat_map f rows) (All-head P row rows all).0 (inside f from inner rows (All-tail P row rows all));
    }

-- rows of one line each
pub one_each : {X : Type 0} (f : X → Line) (rows : List X) → flat_map (λ row. f row ∷ []) rows ≡ map f rows
one_each f [] = refl
one_each f (row ∷ rows) = ap (λ (lines : List Line). f row ∷ lines) (one_each f rows)

pub parted_rows : {X : Type 0} (Ready : Part → Type 0) (f : X → Line) (from inner : Part) (rows : List X) → Ready from → Ready inner → All (λ row. Leads from inner (f row ∷ [])) rows →
    Parted Ready from (map f rows)
parted_rows Ready f from inner rows here there all =
    subst (λ (lines : List Line). Parted Ready from lines) (one_each f rows) (parted Ready (λ row. f row ∷ []) from inner rows here there all)

pub row_leads : (from inner : Part) (line : Line) → Stands line → part_behind from (role_of line.keyword) ≡ Some inner → part_behind inner (role_of line.keyword) ≡ Some inner →
    open_behind [] line.keyword ≡ Some [] → Leads from inner (line ∷ [])
row_leads from inner line stands into on opens = (
  lead_first (clear from) (clear inner) (clear inner) line [] (placed (clear from) line inner [] stands.form into opens) stands.is (lead_none (clear inner)),
  lead_first (clear inner) (clear inner) (clear inner) line [] (placed (clear inner) line inner [] stands.form on opens) stands.is (lead_none (clear inner)),
)

-- a heading, and lines of its part
pub block_leads : (from inner : Part) (heading : Line) (lines : List Line) → Stands heading → part_behind from (role_of heading.keyword) ≡ Some inner →
    part_behind inner (role_of heading.keyword) ≡ Some inner → open_behind [] heading.keyword ≡ Some [] → Lead (clear inner) lines (clear inner) → Leads from inner (heading ∷ lines)
block_leads from inner heading lines stands into on opens lead = (
  lead_first (clear from) (clear inner) (clear inner) heading lines (placed (clear from) heading inner [] stands.form into opens) stands.is lead,
  lead_first (clear inner) (clear inner) (clear inner) heading lines (placed (clear inner) heading inner [] stands.form on opens) stands.is lead,
)

-- ---- members
-- an opening of members, as one of lines
abbrev pub like : Nests.Opening → Opening
like nest.If = If
like nest.Else = Else
like nest.While = While
like nest.Repeat = Repeat

abbrev pub alike : List Nests.Opening → List Opening
alike openings = map like openings

abbrev likewise : Option (List Nests.Opening) → Option (List Opening)
likewise openings = option_map alike openings

opens_alike : (openings : List Nests.Opening) (row : Member) → open_behind (alike openings) (member_line row).keyword ≡ likewise (Nest.open_behind openings row)
opens_alike openings (member.Put a e m l) = refl
opens_alike openings (member.Cell c e m l) = refl
opens_alike openings (member.Acc s f e m l) = refl
opens_alike openings (member.OpenIf e m l) = refl
opens_alike [] member.Otherwise = refl
opens_alike (nest.If ∷ openings) member.Otherwise = refl
opens_alike (nest.Else ∷ openings) member.Otherwise = refl
opens_alike (nest.While ∷ openings) member.Otherwise = refl
opens_alike (nest.Repeat ∷ openings) member.Otherwise = refl
opens_alike [] member.CloseIf = refl
opens_alike (nest.If ∷ openings) member.CloseIf = refl
opens_alike (nest.Else ∷ openings) member.CloseIf = refl
opens_alike (nest.While ∷ openings) member.CloseIf = refl
opens_alike (nest.Repeat ∷ openings) member.CloseIf = refl
opens_alike openings (member.OpenWhile e m l) = refl
opens_alike [] member.CloseWhile = refl
opens_alike (nest.If ∷ openings) member.CloseWhile = refl
opens_alike (nest.Else ∷ openings) member.CloseWhile = refl
opens_alike (nest.While ∷ openings) member.CloseWhile = refl
opens_alike (nest.Repeat ∷ openings) member.CloseWhile = refl
opens_alike openings (member.OpenRepeat m l) = refl
opens_alike [] (member.Until e) = refl
opens_alike (nest.If ∷ openings) (member.Until e) = refl
opens_alike (nest.Else ∷ openings) (member.Until e) = refl
opens_alike (nest.While ∷ openings) (member.Until e) = refl
opens_alike (nest.Repeat ∷ openings) (member.Until e) = refl

member_role : (row : Member) → role_of (member_line row).keyword ≡ role.Member
member_role (member.Put a e m l) = refl
member_role (member.Cell c e m l) = refl
member_role (member.Acc s f e m l) = refl
member_role (member.OpenIf e m l) = refl
member_role member.Otherwise = refl
member_role member.CloseIf = refl
member_role (member.OpenWhile e m l) = refl
member_role member.CloseWhile = refl
member_role (member.OpenRepeat m l) = refl
member_role (member.Until e) = refl

abbrev in_group : List Nests.Opening → Place
in_group openings = record { part = part.Groups; openings = alike openings }

member_placed : (openings next : List Nests.Opening) (row : Member) → TypedMember row → Nest.open_behind openings row ≡ Some next → place_behind (in_group openings) (member_line row) ≡ Some (in_group next)
member_placed openings next row typed opens =
    placed (in_group openings) (member_line row) part.Groups (alike next) (member_stands row typed).form (ap (λ r. part_behind part.Groups r) (member_role row))
    (opens_alike openings row ∙ ap likewise opens)

first_there : {A B : Type 0} (o : Option A) (g : A → Option B) (v : B) → option_and_then g o ≡ Some v → (x : A) × (o ≡ Some x) × (g x ≡ Some v)
first_there None g v e = absurd cc
first_there (Some x) g v e = (x, refl, e)

pub members_lead : (openings next : List Nests.Opening) (members : List Member) → All TypedMember members → Nest.opened openings members ≡ Some next →
    Lead (in_group openings) (map member_line members) (in_group next)
members_lead openings next [] typed opens = let same : openings ≡ next = cc in subst (λ (o : List Nests.Opening). Lead (in_group openings) [] (in_group o)) same (lead_none (in_group openings))
members_lead openings next (row ∷ members) typed opens =
    let step = first_there (Nest.open_behind openings row) (λ (o : List Nests.Opening). Nest.opened o members) next opens in
    let here = All-head TypedMember row members typed in
    lead_first (in_group openings) (in_group step.0) (in_group next) (member_line row) (map member_line members) (member_placed openings step.0 row here step.1)
    (member_stands row here).is (members_lead step.0 next members (All-tail TypedMember row members typed) step.2)

-- ---- instructions
pub instr_place : (tables : Tables) (row : Instr) → (role_of (instr_line tables row).keyword ≡ role.Instruction) × (open_behind [] (instr_line tables row).keyword ≡ Some [])
instr_place tables (instr.Set a b c) = (refl, refl)
instr_place tables (instr.Fix a b) = (refl, refl)
instr_place tables (instr.Dims a b c) = (refl, refl)
instr_place tables (instr.Formed form.Of a b c d) = (refl, refl)
instr_place tables (instr.Formed form.Inside a b c d) = (refl, refl)
instr_place tables (instr.Formed form.At a b c d) = (refl, refl)
instr_place tables (instr.Formed form.By a b c d) = (refl, refl)
instr_place tables (instr.Need a b c d) = (refl, refl)
instr_place tables (instr.Same a b c d) = (refl, refl)
instr_place tables (instr.Fits a b c) = (refl, refl)
instr_place tables (instr.Room a b) = (refl, refl)
instr_place tables (instr.Clear a) = (refl, refl)
instr_place tables (instr.Loop a b) = (refl, refl)
instr_place tables (instr.Start a) = (refl, refl)
instr_place tables (instr.Finish a) = (refl, refl)
instr_place tables (instr.Edge border.Wrap a b c) = (refl, refl)
instr_place tables (instr.Edge border.Reflect a b c) = (refl, refl)
instr_place tables (instr.Flood a b c d) = (refl, refl)
instr_place tables (instr.Part a b c d e) = (refl, refl)
instr_place tables (instr.Scan a b c d e f) = (refl, refl)
instr_place tables (instr.Vote a) = (refl, refl)
instr_place tables (instr.Fold a b) = (refl, refl)
instr_place tables (instr.TreeVote a) = (refl, refl)
instr_place tables (instr.TreeFold a b) = (refl, refl)
instr_place tables (instr.Print a) = (refl, refl)
instr_place tables (instr.Number a) = (refl, refl)
instr_place tables (instr.Truth a) = (refl, refl)
instr_place tables (instr.Gather a b c) = (refl, refl)
instr_place tables (instr.Jump a) = (refl, refl)
instr_place tables (instr.Unless a b c) = (refl, refl)
instr_place tables (instr.Trap a b) = (refl, refl)
instr_place tables instr.End = (refl, refl)
instr_place tables (instr.Remap a b c d) = (refl, refl)

pub instr_leads : (tables : Tables) (row : Instr) → Stands (instr_line tables row) → Leads part.Code part.Code (instr_line tables row ∷ [])
instr_leads tables row stands =
    let is = instr_place tables row in
    let stays = ap (λ r. part_behind part.Code r) is.0 in
    row_leads part.Code part.Code (instr_line tables row) stands stays stays is.1
