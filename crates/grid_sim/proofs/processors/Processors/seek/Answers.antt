use Rattle.std.proofs.Common.{◌≡◌, ◌<◌, ◌≤◌, ◌+◌, ◌-◌, ◌∙◌, ap, sym, subst, arith, refl}
use Rattle.grid_layout.specs.Grid.{processors_of}
use Rattle.grid_layout.specs.Layout.{Arrangement}
use Rattle.grid_meaning.specs.Local.{processors}
use Rattle.grid_meaning.proofs.WorldLemmas.{processors_alike}
use Rattle.grid_sim.specs.declared.processors.Processors.{Processors as Team}
use Rattle.grid_sim.proofs.TeamLemmas.{look_awake, look_more, looked_links, looked_locals, sought_all, sought_none}
use Rattle.grid_sim.proofs.processors.Processors.seek.Goals as goal

pub loop-k-init : goal.loop-k-init
loop-k-init c = record { locals = refl; links = refl; sought = sought_none c.args.code.now c.args.self.now c.requires.marks }

pub look-requires-clause-processor : goal.look-requires-clause-processor
look-requires-clause-processor c =
    let n : c.count-count.result ≡ processors c.args.code.now =
    c.count-count.ensures.count
    ∙ (ap processors_of (c.grid.ensures ∙ ap (λ (a : Arrangement). a.grid) c.requires.layout) ∙ sym (processors_alike c.args.code.now.grid)) in
    omega (arith, n, c.loop-k-test.true)

pub look-requires-clause-marks : goal.look-requires-clause-marks
look-requires-clause-marks c = c.loop-k.invariant.sought.marks

pub returns-then-not-look-clause-processors : goal.returns-then-not-look-clause-processors
returns-then-not-look-clause-processors c =
    let n : c.count-count.result ≡ processors c.args.code.now =
    c.count-count.ensures.count
    ∙ (ap processors_of (c.grid.ensures ∙ ap (λ (a : Arrangement). a.grid) c.requires.layout) ∙ sym (processors_alike c.args.code.now.grid)) in
    let q = c.count-count.result - 1 - c.loop-k.k in
    look_awake c.args.code.now c.loop-k.self c.look.new.self q c.look.result c.loop-k.invariant.sought.marks (omega (arith, n, c.loop-k-test.true))
    c.look.ensures.rest c.look.ensures.looked c.if-not-look.true

pub returns-then-not-look-clause-locals : goal.returns-then-not-look-clause-locals
returns-then-not-look-clause-locals c =
    ap (λ (t : Team). t.locals) c.look.ensures.looked ∙ (looked_locals c.look.result c.loop-k.self _ ∙ c.loop-k.invariant.locals)

pub returns-then-not-look-clause-links : goal.returns-then-not-look-clause-links
returns-then-not-look-clause-links c =
    ap (λ (t : Team). t.links) c.look.ensures.looked ∙ (looked_links c.look.result c.loop-k.self _ ∙ c.loop-k.invariant.links)

pub loop-k-preserved : goal.loop-k-preserved
loop-k-preserved c =
    let n : c.count-count.result ≡ processors c.args.code.now =
    c.count-count.ensures.count
    ∙ (ap processors_of (c.grid.ensures ∙ ap (λ (a : Arrangement). a.grid) c.requires.layout) ∙ sym (processors_alike c.args.code.now.grid)) in
    let q = c.count-count.result - 1 - c.loop-k.k in
    record {
      locals = ap (λ (t : Team). t.locals) c.look.ensures.looked ∙ (looked_locals c.look.result c.loop-k.self q ∙ c.loop-k.invariant.locals);
      links = ap (λ (t : Team). t.links) c.look.ensures.looked ∙ (looked_links c.look.result c.loop-k.self q ∙ c.loop-k.invariant.links);
      sought = look_more c.args.code.now c.loop-k.self c.look.new.self c.loop-k.k q c.look.result c.loop-k.invariant.sought
          (omega (arith, n, c.loop-k-test.true)) (omega (arith, n, c.loop-k-test.true)) c.look.ensures.rest c.look.ensures.looked c.if-not-look.false;
    }

pub returns-clause-processors : goal.returns-clause-processors
returns-clause-processors c =
    let n : c.count-count.result ≡ processors c.args.code.now =
    c.count-count.ensures.count
    ∙ (ap processors_of (c.grid.ensures ∙ ap (λ (a : Arrangement). a.grid) c.requires.layout) ∙ sym (processors_alike c.args.code.now.grid)) in
    sought_all c.args.code.now c.loop-k.self c.loop-k.k c.loop-k.invariant.sought (subst (λ k. k ≤ c.loop-k.k) n c.loop-k-test.false)
