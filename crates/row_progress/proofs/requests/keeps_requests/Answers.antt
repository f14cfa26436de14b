use Rattle.std.proofs.Common.{◌≡◌, ◌-◌, true, false, map, sym, ap, ◌∙◌, subst, arith, take}
use Rattle.std.specs.Prelude.{IsTrue, is_some, ◌↔◌, All}
use Rattle.grid_layout.specs.Grid.{processors_of}
use Rattle.grid_meaning.specs.Collective.{others}
use Rattle.grid_meaning.specs.Local.{processors}
use Rattle.grid_meaning.specs.State.{IsRequest}
use Rattle.grid_save.specs.Reads.{IsFar, MayBegin, MayKeep, MayStand}
use Rattle.node_local.specs.Standing.{entry_of}
use Rattle.node_stages.proofs.PieceLemmas.{grid_count}
use Rattle.row_turn.specs.Together.{OfRow}
use Rattle.row_progress.specs.Begun.{stands}
use Rattle.row_progress.specs.Kept.{is_part}
use Rattle.row_progress.specs.May.{froms_of}
use Rattle.row_progress.proofs.RequestLemmas.{askers, no_part, ok_map, requests_kept, start_of_requests, told_begin, told_keep}
use Rattle.row_progress.proofs.requests.keeps_requests.Goals as goal

pub are_some_others-requires : goal.are_some_others-requires
are_some_others-requires c =
    let count : c.count-count.result ≡ processors c.args.code.now =
    c.count-count.ensures.count ∙ (ap processors_of c.grid.ensures ∙ grid_count c.args.code.now c.args.layout.now c.requires.layout) in
    omega (arith, count, c.requires.begun.ready.state.number)

pub returns-then-not-are_some_others-clause-begins : goal.returns-then-not-are_some_others-clause-begins
returns-then-not-are_some_others-clause-begins c =
    let count : c.count-count.result ≡ processors c.args.code.now =
    c.count-count.ensures.count ∙ (ap processors_of c.grid.ensures ∙ grid_count c.args.code.now c.args.layout.now c.requires.layout) in
    let first : c.saturating_sub-first.result ≡ c.args.far.now.made - processors c.args.code.now = omega (arith, c.saturating_sub-first.ensures, c.from.ensures, count) in
    let start = start_of_requests c.args.code.now c.args.p c.args.local.now c.args.row.now c.requires.begun c.requires.next
    (c.rows_fit.ensures.instr c.args.code.now c.args.local.now.local.at c.args.row.now c.tables-fits.ensures.fits c.requires.next.here) c.requires.requests in
    told_begin c.args.code.now c.args.p c.args.local.now c.args.row.now start c.requires.requests c.args.far.now (map entry_of c.args.kept.now) false
    (no_part c.args.code.now c.args.p c.args.local.now c.args.row.now start c.requires.requests c.args.far.now c.args.kept.now
    (subst (λ n. is_part (froms_of c.args.kept.now) (take n (others c.args.code.now c.args.p)) ≡ false) first (c.if-not-are_some_others.ensures c.args.code.now (sym count))))

pub returns-then-not-are_some_others-clause-keeps : goal.returns-then-not-are_some_others-clause-keeps
returns-then-not-are_some_others-clause-keeps c may far_is =
    let count : c.count-count.result ≡ processors c.args.code.now =
    c.count-count.ensures.count ∙ (ap processors_of c.grid.ensures ∙ grid_count c.args.code.now c.args.layout.now c.requires.layout) in
    let first : c.saturating_sub-first.result ≡ c.args.far.now.made - processors c.args.code.now = omega (arith, c.saturating_sub-first.ensures, c.from.ensures, count) in
    let start = start_of_requests c.args.code.now c.args.p c.args.local.now c.args.row.now c.requires.begun c.requires.next
    (c.rows_fit.ensures.instr c.args.code.now c.args.local.now.local.at c.args.row.now c.tables-fits.ensures.fits c.requires.next.here) c.requires.requests in
    told_keep c.args.code.now c.args.p c.args.local.now c.args.row.now start c.requires.requests c.args.far.now (map entry_of c.args.kept.now) false
    (no_part c.args.code.now c.args.p c.args.local.now c.args.row.now start c.requires.requests c.args.far.now c.args.kept.now
    (subst (λ n. is_part (froms_of c.args.kept.now) (take n (others c.args.code.now c.args.p)) ≡ false) first (c.if-not-are_some_others.ensures c.args.code.now (sym count))))
    may far_is

pub are_requests-requires-clause-below : goal.are_requests-requires-clause-below
are_requests-requires-clause-below c =
    let count : c.count-count.result ≡ processors c.args.code.now =
    c.count-count.ensures.count ∙ (ap processors_of c.grid.ensures ∙ grid_count c.args.code.now c.args.layout.now c.requires.layout) in
    askers c.args.code.now c.args.p c.saturating_sub-first.result (froms_of c.args.kept.now) (c.if-not-are_some_others.ensures c.args.code.now (sym count))

pub returns-clause-begins : goal.returns-clause-begins
returns-clause-begins c =
    let count : c.count-count.result ≡ processors c.args.code.now =
    c.count-count.ensures.count ∙ (ap processors_of c.grid.ensures ∙ grid_count c.args.code.now c.args.layout.now c.requires.layout) in
    let first : c.saturating_sub-first.result ≡ c.args.far.now.made - processors c.args.code.now = omega (arith, c.saturating_sub-first.ensures, c.from.ensures, count) in
    let start = start_of_requests c.args.code.now c.args.p c.args.local.now c.args.row.now c.requires.begun c.requires.next
    (c.rows_fit.ensures.instr c.args.code.now c.args.local.now.local.at c.args.row.now c.tables-fits.ensures.fits c.requires.next.here) c.requires.requests in
    ok_map c.are_requests.result (λ b. OfRow c.args.code.now c.args.p c.args.row.now (λ r. IsTrue b ↔ All (IsRequest r c.args.local.now.local) (map entry_of c.args.kept.now)))
    (λ b. IsTrue b ↔ MayBegin c.args.code.now c.args.p (stands c.args.local.now.local c.args.far.now) (map entry_of c.args.kept.now))
    (λ b told. told_begin c.args.code.now c.args.p c.args.local.now c.args.row.now start c.requires.requests c.args.far.now (map entry_of c.args.kept.now) b
    (requests_kept c.args.code.now c.args.p c.args.local.now c.args.row.now start c.requires.requests c.args.far.now c.args.kept.now b
    (subst (λ n. is_part (froms_of c.args.kept.now) (take n (others c.args.code.now c.args.p)) ≡ true) first (c.if-not-are_some_others.ensures c.args.code.now (sym count))) told))
    c.are_requests.ensures.requests

pub returns-clause-keeps : goal.returns-clause-keeps
returns-clause-keeps c =
    let count : c.count-count.result ≡ processors c.args.code.now =
    c.count-count.ensures.count ∙ (ap processors_of c.grid.ensures ∙ grid_count c.args.code.now c.args.layout.now c.requires.layout) in
    let first : c.saturating_sub-first.result ≡ c.args.far.now.made - processors c.args.code.now = omega (arith, c.saturating_sub-first.ensures, c.from.ensures, count) in
    let start = start_of_requests c.args.code.now c.args.p c.args.local.now c.args.row.now c.requires.begun c.requires.next
    (c.rows_fit.ensures.instr c.args.code.now c.args.local.now.local.at c.args.row.now c.tables-fits.ensures.fits c.requires.next.here) c.requires.requests in
    ok_map c.are_requests.result (λ b. OfRow c.args.code.now c.args.p c.args.row.now (λ r. IsTrue b ↔ All (IsRequest r c.args.local.now.local) (map entry_of c.args.kept.now)))
    (λ b. MayStand c.args.code.now (stands c.args.local.now.local c.args.far.now) (is_some c.args.local.now.local.ended)
    → IsFar c.args.code.now c.args.p (stands c.args.local.now.local c.args.far.now) (map entry_of c.args.kept.now) (is_some c.args.local.now.local.ended)
    → (IsTrue b ↔ MayKeep c.args.code.now c.args.p (stands c.args.local.now.local c.args.far.now) (map entry_of c.args.kept.now)))
    (λ b told. told_keep c.args.code.now c.args.p c.args.local.now c.args.row.now start c.requires.requests c.args.far.now (map entry_of c.args.kept.now) b
    (requests_kept c.args.code.now c.args.p c.args.local.now c.args.row.now start c.requires.requests c.args.far.now c.args.kept.now b
    (subst (λ n. is_part (froms_of c.args.kept.now) (take n (others c.args.code.now c.args.p)) ≡ true) first (c.if-not-are_some_others.ensures c.args.code.now (sym count))) told))
    c.are_requests.ensures.requests
