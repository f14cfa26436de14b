use Rattle.std.proofs.Common.{◌≡◌, ℕ, List, ◌++◌, [], ap, ◌∙◌}
use Rattle.std.specs.Prelude.{Result, Ok, Err, OnOk, if◌then◌else◌}
use Rattle.std.specs.Result.{is_ok}
use Rattle.node_form.specs.declared.tables.Tables.{Tables}
use Rattle.listing_rows.specs.Listing.{listing_of}
use Rattle.save_lines.specs.Line.{saved_text}
use Rattle.grid_sim.specs.declared.counts.Counts.{Counts}
use Rattle.grid_save.specs.Written.{counts_text, grid_lines, save_text, version_text}
use Rattle.grid_save.proofs.OnwardLemmas.{on_ok, saveable}
use Rattle.grid_save.proofs.WriteLemmas.{whole_saved}
use Rattle.grid_save.proofs.writes.write_save.Goals as goal

ok_appended : {V E : Type 0} (r : Result V E) (new old more all : List ℕ) → new ≡ (if is_ok r then old ++ more else old) → more ≡ all →
    OnOk r (new ≡ old ++ all)
ok_appended (Ok v) new old more all e same = e ∙ ap (λ t. old ++ t) same
ok_appended (Err x) new old more all e same = tt

pub returns-clause-ok : goal.returns-clause-ok
unfolding save_text
returns-clause-ok c =
    let sim = c.args.sim.now in
    let grid = sim.grid in
    let one = c.extend_from_slice.new.self.items in
    let two = c.add_counts.new.text.items in
    let three = c.write_listing.new.into.items in
    let four = c.add_states.new.text.items in
    let is_one : one ≡ [] ++ version_text = c.in_ok-extend_from_slice.ensures.items ∙ ap (λ t. t ++ version_text) c.new-text.ensures.items in
    let is_two : two ≡ one ++ counts_text grid.turns grid.sends grid.words =
    c.in_ok-add_counts.ensures ∙ ap (λ (counts : Counts). one ++ counts_text counts.turns counts.sends counts.words) c.counts.ensures in
    let is_three : three ≡ two ++ listing_of sim.code =
    c.in_ok-write_listing.ensures.ok ∙ ap (λ (code : Tables). two ++ listing_of code) c.code.ensures in
    let whole = whole_saved [] one two three four version_text (counts_text grid.turns grid.sends grid.words) (listing_of sim.code)
    (saved_text (grid_lines sim.code grid)) is_one is_two is_three c.in_ok-add_states.ensures.text in
    ok_appended c.extend_from_slice-2.result c.extend_from_slice-2.new.self.items c.args.into.now.items c.deref.result.now _
    c.extend_from_slice-2.ensures.items (c.deref.ensures.value ∙ whole)

pub returns-clause-saveable : goal.returns-clause-saveable
returns-clause-saveable c =
    let sim = c.args.sim.now in
    on_ok c.extend_from_slice-2.result _ (saveable sim.code sim.grid c.in_ok-add_states.ensures.are c.states_may_be.ensures)
