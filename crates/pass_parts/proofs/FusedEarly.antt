-- No loops can be joined where starts are moved up, if none could before.
use Rattle.std.proofs.Common.{◌≡◌, refl, ap, ◌∙◌, ℕ, Bool, true, false, List, [], ◌∷◌, length}
use Rattle.std.specs.Prelude.{◌&&◌, if◌then◌else◌, Option, None}
use Rattle.node_form.specs.declared.instructions.Instr.{Instr}
use Rattle.node_form.specs.declared.instructions.Instr.TheVariants as instr
use Rattle.node_form.specs.declared.tables.Tables.{Tables}
use Rattle.code_parts.specs.Early.{may_cross}
use Rattle.code_parts.specs.Fused.{IsFused, begins_anew, last_loop}
use Rattle.code_parts.proofs.FusedLemmas.{fused_either_way}
use Rattle.pass_sizes.specs.of_comm_early.Send.{open_behind_all, put_early, put_row, sent_early}
use Rattle.pass_sizes.proofs.of_comm_early.PassedLemmas.{facts_back, right_back, stays_right}

both : (a b : Bool) → a ≡ true → b ≡ true → (a && b) ≡ true
both true b one other = other
both false b one other = one

module _ (tables : Tables) (links : Option ℕ) where
  abbrev last_back : List Instr → Option (ℕ × ℕ)
  last_back before = facts_back None last_loop (begins_anew tables) before

  abbrev apart_back : List Instr → Bool
  apart_back before = right_back None last_loop (begins_anew tables) before

  -- a start that comes to stand among them tells nothing of loops
  put_last : (exchange : ℕ) (before : List Instr)
      → last_back (put_early tables links exchange before) ≡ last_back before
  put_last exchange [] = refl
  put_last exchange (last ∷ before) =
      by (may_cross tables links (length (open_behind_all before)) last exchange)
      (put_last exchange before)
    where
      by : (b : Bool)
          → last_back (put_early tables links exchange before) ≡ last_back before
          → last_back (if b then last ∷ put_early tables links exchange before
          else instr.Start exchange ∷ last ∷ before) ≡ last_back (last ∷ before)
      by true rest = ap (λ known. last_loop known last) rest
      by false rest = refl

  put_apart : (exchange : ℕ) (before : List Instr)
      → apart_back (put_early tables links exchange before) ≡ apart_back before
  put_apart exchange [] = refl
  put_apart exchange (last ∷ before) =
      by (may_cross tables links (length (open_behind_all before)) last exchange)
      (put_apart exchange before)
    where
      by : (b : Bool)
          → apart_back (put_early tables links exchange before) ≡ apart_back before
          → apart_back (if b then last ∷ put_early tables links exchange before
          else instr.Start exchange ∷ last ∷ before) ≡ apart_back (last ∷ before)
      by true rest =
          ap (λ known. begins_anew tables known last
          && apart_back (put_early tables links exchange before)) (put_last exchange before)
          ∙ ap (λ b. begins_anew tables (last_back before) last && b) rest
      by false rest = refl

  record IsApartAs (before : List Instr) (known : Option (ℕ × ℕ)) : Type 0 where
    same : last_back before ≡ known
    right : apart_back before ≡ true

  row_apart : (before : List Instr) (known : Option (ℕ × ℕ)) (row : Instr)
      → begins_anew tables known row ≡ true → IsApartAs before known
      → IsApartAs (put_row tables links before row) (last_loop known row)
  row_apart before known (instr.Start exchange) fine is = record {
    same = put_last exchange before ∙ is.same;
    right = put_apart exchange before ∙ is.right;
  }
  row_apart before known row fine is = record {
    same = ap (λ last. last_loop last row) is.same;
    right = both (begins_anew tables (last_back before) row) _
        (ap (λ last. begins_anew tables last row) is.same ∙ fine) is.right;
  }

  pub still_fused : IsFused tables → IsFused (sent_early links tables)
  still_fused fused =
      (fused_either_way (sent_early links tables)).0
      (stays_right tables links None last_loop (begins_anew tables) None last_loop
      (begins_anew tables) IsApartAs (record { same = refl; right = refl }) row_apart
      (λ before known is. is.right) ((fused_either_way tables).1 fused))
