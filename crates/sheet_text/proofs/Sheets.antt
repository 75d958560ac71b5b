-- The sheet's text where the check refuses, and the outcome once a text is written. Assumes nothing.
use Prim.Native.Nat.{ℕ, ◌+◌, ◌≤◌, ◌<◌}
use mathlib.Core.List.{List, ◌++◌}
use mathlib.Core.Path.{◌≡◌, sym, ap, ◌∙◌}
use native.Mathlib.Nat.{zero-add}
use native.Mathlib.Omega.{arith}
use lib.ListN.{length, drop}
use lib.Seq.{sets-eq}
use borrow.Author.Tests.{le-leb, lt-leb}
use Rattle.laws.proofs.Tests.{cond_true, cond_false}
use Rattle.timetable.specs.Verdict.{by_verdict}
use Rattle.std.specs.Prelude.{Option, Some, None, Err}
use Rattle.timetable.specs.declared.Refusal.{Refusal}
use Rattle.file_layout.specs.declared.Format.{Format}
use Rattle.file_layout.specs.Check.{checked_as}
use Rattle.file_layout.specs.Decode.{decode}
use Rattle.query.specs.declared.Query.{Query}
use Rattle.query.specs.Query.{query_in}
use Rattle.plans.specs.Plan.{planned}
use Rattle.planner.specs.Admission.{no_room}
use Rattle.planner.proofs.Admitting.{check_refused}
use Rattle.text.specs.Put.{Put}
use Rattle.sheet_text.specs.Sheet.{refused_text, planned_text, asked_text, sheet_text}
use Rattle.sheet_text.specs.Room.{sheet_room}
use Rattle.sheet_text.specs.Outcome.{text_given, sheet_outcome}

module _ (f : Format) (sailings query : List ℕ) where
  pub refused_sheet : {refusal : Refusal ℕ} → checked_as f sailings ≡ Err refusal → refused_text refusal.number ≡ sheet_text f sailings query
  unfolding sheet_text asked_text
  refused_sheet {refusal} refused =
      sym (ap (by_verdict (λ number place. refused_text number) (planned_text (planned (decode f sailings) (query_in query))))
      (check_refused f sailings (query_in query) no_room no_room refusal.number refusal.place refused))

  pub asked_sheet : {q : Query} → q ≡ query_in query → asked_text f sailings q ≡ sheet_text f sailings query
  unfolding sheet_text
  asked_sheet is = ap (asked_text f sailings) is

  -- what is answered, and the bytes afterwards
  abbrev pub Answers : (out : List ℕ) → Option ℕ → List ℕ → Type 0
  Answers out answer after = (answer ≡ (sheet_outcome f sailings query out).answer) × (after ≡ (sheet_outcome f sailings query out).out)

  pub no_room_lem : (out : List ℕ) → length out < sheet_room → Answers out None out
  unfolding sheet_outcome
  no_room_lem out short =
      let e = cond_false (text_given (sheet_text f sailings query) out) _ (lt-leb sheet_room (length out) short) in
      (sym (ap (λ o. o.answer) e), sym (ap (λ o. o.out) e))

  pub sheet_written : (out : List ℕ) → sheet_room ≤ length out → {text after : List ℕ} {next : ℕ} → Put out 0 text after next
      → next ≤ length out → text ≡ sheet_text f sailings query → Answers out (Some next) after
  unfolding sheet_outcome text_given
  sheet_written out room {text} {after} {next} p inside same =
      let fits : 0 + length text ≤ length out = omega (arith, p.ends) in
      let e = cond_true (text_given (sheet_text f sailings query) out) _ (le-leb sheet_room (length out) room) in (
        ap Some (p.ends ∙ zero-add (length text) ∙ ap length same) ∙ sym (ap (λ o. o.answer) e),
        p.says ∙ sets-eq text out 0 fits ∙ ap (λ k. text ++ drop k out) (zero-add (length text)) ∙ ap (λ t. t ++ drop (length t) out) same
            ∙ sym (ap (λ o. o.out) e),
      )
