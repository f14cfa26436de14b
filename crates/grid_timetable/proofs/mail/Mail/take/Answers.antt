use Rattle.std.proofs.Common.{◌≡◌, drop, sym, ◌∙◌, ap, subst}
use Rattle.grid_timetable.specs.Mail.{Post, HasLink, link_number, taking}
use Rattle.grid_timetable.specs.Post.{post_of}
use Rattle.grid_timetable.proofs.MailLemmas.{post_of-changed}
use Rattle.grid_timetable.proofs.mail.Mail.take.Goals as goal

pub returns : goal.returns
returns c =
    let there : HasLink (post_of c.self.inside) c.args.from c.args.to =
    subst (λ (n : Post). HasLink n c.args.from c.args.to) (sym c.self.view_is) c.requires in
    let at : c.place-place.result ≡ link_number c.self.inside.count c.args.from c.args.to =
    c.place-place.ensures ∙ ap (λ (n : Post). link_number n.count c.args.from c.args.to) (sym c.self.view_is) in
    post_of-changed c.self.inside c.args.from c.args.to c.place-place.result _ c.pop_front.new.self
    (drop 1)
    c.self.invariant there at c.index_mut-queue.ensures.value c.pop_front.ensures.rest
    ∙ ap (λ (n : Post). taking n c.args.from c.args.to) c.self.view_is
