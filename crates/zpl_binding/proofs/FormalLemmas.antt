-- What parameters may stand for.
use Rattle.std.proofs.Common.{◌≡◌, ℕ, List, inl, inr, Contains, sym, subst}
use Rattle.zpl_tree.specs.Syntax.{Program}
use Rattle.zpl_names.specs.Reached.{Reaches, Itself, ByCall}
use Rattle.zpl_binding.specs.Outcome.{RegionLimit, Fails}
use Rattle.zpl_binding.specs.Regions.{Known}
use Rattle.zpl_binding.specs.Copies.{copy_of, HasCopiesWithin, HasCopyPastLimit}
use Rattle.zpl_binding.specs.Formals as formals
use Rattle.zpl_binding.specs.Formals.{AreClosed, IsCalled, IsListed, Standing, StandsFor, Parameter}

reached-listed : (program : Program) (called : List (List ℕ)) (standings : List Standing) →
    AreClosed program called standings → (text other : List ℕ) → Reaches program text other →
    Contains called text → Contains called other
reached-listed program called standings closed text other (Itself same) there = there
reached-listed program called standings closed text other (ByCall from to call calls rest) there =
    reached-listed program called standings closed call.name.text to rest
    (closed.calls from call there calls)

pub called-listed : (program : Program) (called : List (List ℕ)) (standings : List Standing) →
    AreClosed program called standings → (text : List ℕ) → IsCalled program text →
    Contains called text
called-listed program called standings closed text reached =
    reached-listed program called standings closed program.name.text text reached closed.entry

pub standing-listed : (program : Program) (called : List (List ℕ)) (standings : List Standing) →
    AreClosed program called standings → (text name : List ℕ) (variable : ℕ) →
    StandsFor program text name variable → IsListed program standings text name variable
standing-listed program called standings closed text name variable
    (formals.Itself in_text its_name at is) = inl is
standing-listed program called standings closed text name variable
    (Parameter caller call handed at reached calls hands before) =
    inr (closed.handed caller call handed at
    (called-listed program called standings closed caller reached) calls hands
    (standing-listed program called standings closed caller handed.actual at before))

pub copies-within : (program : Program) (called : List (List ℕ)) (standings : List Standing)
    (known : Known) → AreClosed program called standings →
    HasCopiesWithin program known called standings → ¬ HasCopyPastLimit program known
copies-within program called standings known closed within found =
    within found.read.text found.read.read found.variable
    (called-listed program called standings closed found.read.text found.read.called)
    found.read.there
    (standing-listed program called standings closed found.read.text found.read.read.array
    found.variable found.read.stands)
    (subst (λ shift. copy_of program known found.variable shift ≡ Fails RegionLimit)
    (sym found.read.shifted) found.past)
