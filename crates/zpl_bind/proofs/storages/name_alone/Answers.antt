use Rattle.std.proofs.Common.{◌≡◌, ap, ap₂, sym, ◌∙◌, [], map, subst, refl}
use Rattle.std.specs.Prelude.{is_some}
use Rattle.zpl_tree.specs.Syntax as plain
use Rattle.zpl_tree.specs.Syntax.{Inner}
use Rattle.zpl_tree.specs.View.{base_of, name_of, posts_of, pre_of}
use Rattle.zpl_bind.specs.Known.{known_in}
use Rattle.zpl_bind.specs.Storages.{HasNoBorders, HasBordersOf}
use Rattle.zpl_bind.specs.Tables.{listed}
use Rattle.zpl_bind.proofs.RegionLemmas.{plain-name}
use Rattle.zpl_bind.proofs.StorageLemmas.{with-something, region-borders, index-borders}
use Rattle.zpl_bind.proofs.storages.name_alone.Goals as goal

pub returns-then-not-is_plain : goal.returns-then-not-is_plain
returns-then-not-is_plain c =
    subst (λ base. HasNoBorders (known_in c.args.known.now)
    (plain.Rexpr (map pre_of c.args.pre.now) (base_of base) (posts_of c.args.post.now)))
    (sym c.in-Named.is)
    (with-something (known_in c.args.known.now) c.args.pre.now c.args.post.now
    (name_of c.in-Named.name) (sym c.is_plain.ensures ∙ c.if-not-is_plain.true))

pub returns-in-Some : goal.returns-in-Some
returns-in-Some c =
    let none = plain-name c.args.pre.now c.args.post.now
    (sym c.is_plain.ensures ∙ c.if-not-is_plain.false) in
    let is : plain.Rexpr (map pre_of c.args.pre.now) (base_of c.args.base.now) (posts_of c.args.post.now)
    ≡ plain.Rexpr [] (plain.NamedRegion (name_of c.in-Named.name)) plain.NoPost =
    ap (λ b. plain.Rexpr (map pre_of c.args.pre.now) (base_of b) (posts_of c.args.post.now)) c.in-Named.is
    ∙ ap₂ (λ pre post. plain.Rexpr (map pre_of pre) (plain.NamedRegion (name_of c.in-Named.name)) (posts_of post))
    none.0 none.1 in
    subst (λ inner. HasBordersOf (known_in c.args.known.now) inner c.in-Named.name.text.now) (sym is)
    (region-borders (listed c.args.known.now.regions) (known_in c.args.known.now)
    (name_of c.in-Named.name) refl (ap is_some (sym c.find.ensures ∙ c.in-Some.is)))

pub returns-in-None : goal.returns-in-None
returns-in-None c =
    let none = plain-name c.args.pre.now c.args.post.now
    (sym c.is_plain.ensures ∙ c.if-not-is_plain.false) in
    let is : plain.Rexpr (map pre_of c.args.pre.now) (base_of c.args.base.now) (posts_of c.args.post.now)
    ≡ plain.Rexpr [] (plain.NamedRegion (name_of c.in-Named.name)) plain.NoPost =
    ap (λ b. plain.Rexpr (map pre_of c.args.pre.now) (base_of b) (posts_of c.args.post.now)) c.in-Named.is
    ∙ ap₂ (λ pre post. plain.Rexpr (map pre_of pre) (plain.NamedRegion (name_of c.in-Named.name)) (posts_of post))
    none.0 none.1 in
    subst (HasNoBorders (known_in c.args.known.now)) (sym is)
    (index-borders (listed c.args.known.now.regions) (known_in c.args.known.now)
    (name_of c.in-Named.name) refl (ap is_some (sym c.find.ensures ∙ c.in-None.is)))
