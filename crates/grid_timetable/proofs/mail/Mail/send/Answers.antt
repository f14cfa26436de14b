use Rattle.std.proofs.Common.{◌≡◌, [], ◌∷◌, ◌++◌, sym, ◌∙◌, ap, subst}
use Rattle.grid_timetable.specs.Mail.{Post, HasLink, link_number, sending}
use Rattle.grid_timetable.specs.Post.{post_of}
use Rattle.grid_timetable.proofs.MailLemmas.{post_of-changed, putting_same}
use Rattle.grid_timetable.proofs.mail.Mail.send.Goals as goal

pub returns-in-Err-clause-kept : goal.returns-in-Err-clause-kept
returns-in-Err-clause-kept c =
    let there : HasLink (post_of c.self.inside) c.args.from c.args.to =
    subst (λ (n : Post). HasLink n c.args.from c.args.to) (sym c.self.view_is) c.requires in
    let at : c.place-place.result ≡ link_number c.self.inside.count c.args.from c.args.to =
    c.place-place.ensures ∙ ap (λ (n : Post). link_number n.count c.args.from c.args.to) (sym c.self.view_is) in
    post_of-changed c.self.inside c.args.from c.args.to c.place-place.result _ c.push_back.new.self
    (λ link. link)
    c.self.invariant there at c.index_mut-queue.ensures.value c.in-Err.ensures.items
    ∙ putting_same (post_of c.self.inside) (link_number c.self.inside.count c.args.from c.args.to)
    ∙ c.self.view_is

pub returns-clause-sent : goal.returns-clause-sent
returns-clause-sent c =
    let there : HasLink (post_of c.self.inside) c.args.from c.args.to =
    subst (λ (n : Post). HasLink n c.args.from c.args.to) (sym c.self.view_is) c.requires in
    let at : c.place-place.result ≡ link_number c.self.inside.count c.args.from c.args.to =
    c.place-place.ensures ∙ ap (λ (n : Post). link_number n.count c.args.from c.args.to) (sym c.self.view_is) in
    post_of-changed c.self.inside c.args.from c.args.to c.place-place.result _ c.push_back.new.self
    (λ link. link ++ c.args.sender ∷ [])
    c.self.invariant there at c.index_mut-queue.ensures.value c.in_default.ensures.items
    ∙ ap (λ (n : Post). sending n c.args.from c.args.to c.args.sender) c.self.view_is
