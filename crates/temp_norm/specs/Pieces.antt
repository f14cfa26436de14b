-- The pieces of the pass, one for each function of the code.
use Rattle.std.specs.Prelude.{ℕ, ◌==◌, Bool, false, ◌||◌, Option, Some, None, if◌then◌else◌}
use Rattle.std.specs.Prelude.{List, [], ◌∷◌, ◌+◌, flat_map, length, slice_get}
use Rattle.std.specs.List.{list_any}
use Rattle.flat_passes.specs.of_node_form.declared.words.ExprOp.{ExprOp}
use Rattle.flat_passes.specs.of_node_form.declared.words.ExprOp.TheVariants as word
use Rattle.flat_passes.specs.of_node_form.declared.members.Member.{Member}
use Rattle.flat_passes.specs.of_node_form.declared.members.Member.TheVariants as member
use Rattle.flat_passes.specs.of_node_form.declared.arrays.ArrayRow.{ArrayRow}
use Rattle.flat_passes.specs.of_node_form.declared.instructions.Instr.{Instr}
use Rattle.flat_passes.specs.of_node_form.declared.instructions.Instr.TheVariants as instr
use Rattle.flat_passes.specs.of_node_form.declared.tables.Tables.{Tables}
use Rattle.flat_passes.specs.of_code_parts.Uses.{members_of, words_of}
use Rattle.flat_passes.specs.declared.draft.Draft.{Draft}
use Rattle.flat_passes.specs.Grouped.{Grouped, Runs, Plain, all_numbered, groups_of}
use Rattle.flat_passes.specs.Grouped.{rewritten_rows}
use Rattle.temp_norm.specs.Normalised.{place_among, row_through, with_one_like}
use Rattle.temp_norm.specs.declared.reads.Put.{Put}

-- the word reads the array with a shift, an expression does, and a mask
abbrev pub word_reads : ℕ → ExprOp → Bool
word_reads array (word.Shifted other shift) = array == other
word_reads array other = false

abbrev pub reads_shifted : Tables → ℕ → ℕ → Bool
reads_shifted tables array expr = list_any (λ one. word_reads array one) (words_of tables expr)

abbrev pub mask_reads : Tables → ℕ → Option ℕ → Bool
mask_reads tables array None = false
mask_reads tables array (Some expr) = reads_shifted tables array expr

-- the put that is the one member of a group
abbrev pub only_put : List Member → Option Put
only_put (member.Put array expr mask line ∷ []) =
    Some (record { array = array; expr = expr; mask = mask; line = line })
only_put members = None

-- where it reads with a shift the array that it puts
abbrev pub if_reads : Tables → Option Put → Option Put
if_reads tables None = None
if_reads tables (Some put) =
    if reads_shifted tables put.array put.expr || mask_reads tables put.array put.mask
    then Some put else None

abbrev pub self_put : Tables → List Member → Option Put
self_put tables members = if_reads tables (only_put members)

-- ---- temporaries
-- the array of a put, and that whose values go through a temporary at a row
abbrev pub kind_put : Tables → Option Put → Option ArrayRow
kind_put tables None = None
kind_put tables (Some put) = slice_get tables.arrays put.array

abbrev pub kind_through : Tables → Instr → Option ArrayRow
kind_through tables (instr.Loop slot group) =
    kind_put tables (self_put tables (members_of tables group))
kind_through tables row = None

abbrev pub with_kind : List ArrayRow → Option ArrayRow → List ArrayRow
with_kind rows None = rows
with_kind rows (Some row) = with_one_like rows row

-- ---- rows
-- those of a put whose values go through a temporary
abbrev pub put_rows : ℕ → ℕ → ℕ → Put → List Grouped
put_rows temporary read slot put =
    Plain (instr.Room temporary slot)
    ∷ Runs slot (member.Put temporary put.expr put.mask put.line ∷ [])
    ∷ Runs slot (member.Put put.array read put.mask put.line ∷ [])
    ∷ []

-- those of a loop, by the put of its group that reads itself
abbrev pub through_rows : Tables → List ArrayRow → ℕ → List Member → Option Put → List Grouped
through_rows tables rows slot members None = Runs slot members ∷ []
through_rows tables rows slot members (Some put) =
    let place = place_among rows (slice_get tables.arrays put.array) in
    put_rows (length tables.arrays + place) (length tables.exprs + place) slot put

-- those of any row
abbrev pub row_written : Tables → List ArrayRow → Instr → List Grouped
row_written tables rows (instr.Loop slot group) =
    let members = members_of tables group in
    through_rows tables rows slot members (self_put tables members)
row_written tables rows row = Plain row ∷ []

-- all of them, and their groups
abbrev pub written : Tables → List ArrayRow → Draft
written tables rows =
    let made = rewritten_rows tables (flat_map (row_through tables rows)) in
    record { code = all_numbered 0 made; groups = groups_of made }
