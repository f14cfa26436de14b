-- The program of an accepted text is listed.
use Rattle.std.proofs.Common.{◌≡◌, ◌∙◌, ℕ, List, Some, codes, refl, ap, subst}
use Rattle.zpl_text.specs.declared.tokens.Token.{Token}
use Rattle.zpl_text.specs.Tokens.{IsTokens}
use Rattle.zpl_tree.specs.Syntax.{Program}
use Rattle.zpl_grammar.specs.Texts.{IsTreeOf}
use Rattle.zpl_compile.specs.Compile.{compiled}
use Rattle.call_claims.specs.Accepted.{IsAccepted}
use Rattle.call_claims.specs.Call.{Call}
use Rattle.call_claims.specs.Cause.FileCause.{unreadable, too_long, work}
use Rattle.call_claims.specs.Command.{Asked, IsList, ListTakes, build_of}
use Rattle.call_claims.specs.Decided.{IsSettled}
use Rattle.call_claims.specs.Execution.{Execution}
use Rattle.call_claims.proofs.OneLemmas.{as_asked}
use Rattle.list_claims.specs.Cause.{Cause, ListCause, Lists}
use Rattle.list_claims.specs.Cause.Cause.{no_memory, list}
use Rattle.list_claims.specs.Cause.CodeCause.{faulty, made}
use Rattle.list_claims.specs.Cause.IsListed.{listed}
use Rattle.list_claims.specs.Code.{IsAcceptedFor}
use Rattle.list_claims.specs.Whole.{CanList, HasListed}
use Rattle.list_claims.proofs.ProgramLemmas.{fault_none, text_short, texts_same}

-- ---- the program of a text

abbrev pub OneProgram : Type 0
OneProgram = (text : List ℕ) (program other : Program) → IsAccepted text program
    → IsAccepted text other → program ≡ other

pub one_program : ((text : List ℕ) (tokens others : List Token) → IsTokens text tokens
    → IsTokens text others → tokens ≡ others)
    → ((text : List ℕ) (tokens : List Token) (tree other : Program) → IsTreeOf text tokens tree
    → IsTreeOf text tokens other → tree ≡ other)
    → OneProgram
one_program cut trees text program other one two =
    trees text two.tokens program other
    (subst (λ tokens. IsTreeOf text tokens program)
    (cut text one.tokens two.tokens one.of_text two.of_text) one.tree.tree) two.tree.tree

-- ---- any call

module _ (one : OneProgram) (call : Call) (ex : Execution) where
  of_file : {n : ℕ} {told : List ℕ} (file : List ℕ) (asked : Asked) → IsSettled call n
      → (can : CanList call file asked) → ListCause call file asked ex n told
      → HasListed can ex n
  of_file file asked settled can (unreadable may none) = absurd (settled.read refl)
  of_file file asked settled can (too_long long none) =
      absurd (text_short call file (settled.one file) long can.source)
  of_file file asked settled can (work source (faulty fault none)) =
      absurd (fault_none fault can.program
      (subst (λ t. IsAcceptedFor t (build_of asked) can.program)
      (texts_same call file (settled.one file) can.source source) can.accepted))
  of_file file asked settled can (work source (made code of_text is (listed none))) =
      let same = one can.source.text of_text.program can.program
      (subst (λ t. IsAccepted t of_text.program)
      (texts_same call file (settled.one file) source can.source)
      of_text.accepted.under.accepted) can.accepted.under.accepted in
      record {
        done = refl;
        made = is ∙ ap (λ code. Some code) of_text.is
            ∙ ap (λ program. Some (compiled (build_of asked) program)) same;
      }

  pub lists : {n : ℕ} {told : List ℕ} (file : List ℕ) (asked : Asked) → IsSettled call n
      → IsList call.words file asked → (can : CanList call file asked) → Cause call ex n told
      → HasListed can ex n
  lists file asked settled given can no_memory = absurd (settled.decided.memory refl)
  lists file asked settled given can (list r) =
      of_file file asked settled can (as_asked (codes "list") ListTakes call.words mine r)
    where
      mine : Lists call (λ file asked. Unit {0})
      mine = record { file = file; asked = asked; given = given; holds = tt }
