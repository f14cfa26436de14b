use Rattle.std.proofs.Common.{◌≡◌, true, false, List, [], ◌∷◌, ◌++◌, sym, ◌∙◌, ap, subst, refl, rules}
use Rattle.std.specs.Prelude.{Some}
use Rattle.node_form.specs.declared.members.Member.{Member}
use Rattle.listing_rows.specs.Rows.{member_line}
use Rattle.listing_rules.specs.declared.facts.Ranks.{Ranks}
use Rattle.listing_rules.specs.Facts.{AreMembers}
use Rattle.listing_rules.specs.Found.{member_in}
use Rattle.listing_rules.specs.Ranks.{any_bit, both}
use Rattle.listing_rules.specs.Rules.{BeginsGroup}
use Rattle.listing_rules.proofs.GroupLemmas.{ranks_more, not_any, not_open, one_more, same_row}
use Rattle.listing_rules.proofs.groups.Group.take.Goals as goal

pub returns-then-not-any : goal.returns-then-not-any
returns-then-not-any c = λ row is.
    let t = c.args.known.now.tables in
    let old = c.args.self.now.members.items in
    let member = c.in-Some.member in
    let told : member_in c.args.line.now.keyword c.args.line.now.fields ≡ Some member = search rules in
    let facts = ranks_more t old (old ++ member ∷ []) member c.args.self.now.ranks c.member_ranks.result refl c.requires.are.ranks_are c.member_ranks.ensures in
    let none : any_bit (both c.args.self.now.ranks c.member_ranks.result) ≡ false = ap any_bit (sym c.and-ranks.ensures) ∙ (sym c.any.ensures ∙ c.if-not-any.true) in
    not_any t old (old ++ member ∷ []) (both c.args.self.now.ranks c.member_ranks.result) facts none
    (subst (λ (m : Member). BeginsGroup t (old ++ m ∷ [])) (same_row _ row member is.told told) is.fits)

pub returns-then-not-stands : goal.returns-then-not-stands
returns-then-not-stands c = λ row is.
    let t = c.args.known.now.tables in
    let old = c.args.self.now.members.items in
    let member = c.in-Some.member in
    let told : member_in c.args.line.now.keyword c.args.line.now.fields ≡ Some member = search rules in
    let none = rw c.if-not-stands.true at c.in_ok-stands.ensures in
    not_open t old member c.args.self.now.kept.items c.requires.are.opens none
    (subst (λ (m : Member). BeginsGroup t (old ++ m ∷ [])) (same_row _ row member is.told told) is.fits)

pub returns : goal.returns
returns c =
    let t = c.args.known.now.tables in
    let old = c.args.self.now.members.items in
    let member = c.in-Some.member in
    let told : member_in c.args.line.now.keyword c.args.line.now.fields ≡ Some member = search rules in
    let written : c.args.line.now ≡ member_line member = c.same_line.ensures.0 c.if-not-same_line.false ∙ c.in_ok-written.ensures in
    let some : any_bit (both c.args.self.now.ranks c.member_ranks.result) ≡ true = ap any_bit (sym c.and-ranks.ensures) ∙ (sym c.any.ensures ∙ c.if-not-any.false) in
    let stands = rw c.if-not-stands.false at c.in_ok-stands.ensures in
    let more = one_more t old member c.args.self.now.ranks c.member_ranks.result c.args.self.now.kept.items c.reopen.new.kept.items c.requires.are c.member_ranks.ensures some stands in
    let grown : c.push.new.self.items ≡ old ++ member ∷ [] = search rules in
    record {
      row = member;
      is = record { told = told; written = written; fits = more.begins };
      added = grown;
      are = subst (λ (list : List Member). AreMembers t list c.and-ranks.result c.reopen.new.kept.items) (sym grown)
          (subst (λ (ranks : Ranks). AreMembers t (old ++ member ∷ []) ranks c.reopen.new.kept.items) (sym c.and-ranks.ensures) more.are);
    }
