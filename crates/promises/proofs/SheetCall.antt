-- The demands of the sheet's text, for every pair of files and lent bytes, over the contract of its call. Assumes nothing.
use Prim.Native.Nat.{ℕ, ◌≤◌, ◌<◌}
use native.Mathlib.Omega.{arith}
use mathlib.Core.Bool.{Bool, true, false, cond}
use mathlib.Core.List.{List, ◌++◌}
use mathlib.Core.Logic.{◌↔◌}
use mathlib.Core.Option.{Option, none, some}
use mathlib.Core.Path.{◌≡◌, refl, sym, ap, subst, ◌∙◌}
use lib.Dec.{leb}
use lib.ListN.{length, get_or, take, drop}
use lib.Seq.{take-append_seam, drop-append_seam}
use contract.Lifetimes.{Lfts}
use denote.Triple.Clauses.{AtExit}
use borrow.Author.Tests.{le-leb, lt-leb}
use borrow.Fn.Kinds.{Dens, res_t, ended_of}
use Rattle.timetable.specs.Timetable.{Timetable}
use Rattle.timetable.specs.Verdict.{Verdict, fine, fault, by_verdict}
use Rattle.file_layout.specs.Format.{version_one}
use Rattle.file_layout.specs.Decode.{decode}
use Rattle.query.specs.declared.Query.{Query}
use Rattle.query.specs.Query.{query_in}
use Rattle.plans.specs.Journeys.{Journey}
use Rattle.plans.specs.Plan.{Plan, planned}
use Rattle.demands.proofs.Demanded.{plan_demanded}
use Rattle.planner.specs.Admission.{no_room, admission}
use Rattle.planner.proofs.Admitting.{refused_roomless}
use Rattle.std.specs.Prelude.{Some, None}
use Rattle.sheet_text.specs.Room.{sheet_room}
use Rattle.sheet_text.specs.Sheet.{refused_text, first_text, plan_text, planned_text, asked_text, sheet_text}
use Rattle.sheet_text.specs.Outcome.{SheetOutcome, text_given, sheet_outcome}
use Rattle.sheet_text.proofs.sheet.Kinds as kinds
use Rattle.sheet_text.proofs.sheet.Reads as reads
use Rattle.promises.specs.Returned.{SheetShows}
use Rattle.promises.proofs.Admitted.{is_timely, no_plan_exactly}

-- too little room is no text, and two equal texts end alike
no_room_no_text : {end : ℕ} → None ≡ Some end → ⊥
no_room_no_text e = let z : ◌≡◌ {A = ℕ} 0 1 = cc in let y : ⊥ = omega arith in y

same_end : {one other : ℕ} → Some one ≡ Some other → one ≡ other
same_end e = cc

-- what is answered and left, by whether there is room for any text
abbrev given_in : Bool → (text out : List ℕ) → SheetOutcome
given_in room text out = cond room (text_given text out) (record { answer = None; out = out })

-- a text that is answered stands in the bytes up to its end, and the bytes behind it are as they were
text_there : (room : Bool) (text out : List ℕ) (end : ℕ) → (given_in room text out).answer ≡ Some end
    → (take end (given_in room text out).out ≡ text) × (drop end (given_in room text out).out ≡ drop end out)
unfolding text_given
text_there false text out end told = absurd (no_room_no_text told)
text_there true text out end told =
    let same : length text ≡ end = same_end told in (
      ap (λ k. take k (text ++ drop (length text) out)) (sym same) ∙ take-append_seam text (drop (length text) out),
      subst (λ k. drop k (text ++ drop (length text) out) ≡ drop k out) same (drop-append_seam text (drop (length text) out)),
    )

-- a plan's first letter is not a refusal's
plan_not_refused : (p : Plan) (number : ℕ) → plan_text p ≡ refused_text number → ⊥
unfolding plan_text first_text refused_text
plan_not_refused p number e = let z : ◌≡◌ {A = ℕ} 112 114 = ap (λ (l : List ℕ). get_or l 0 0) e in let y : ⊥ = omega arith in y

module _ (sailings : List ℕ) (q : Query) where
  abbrev t : Timetable
  t = decode version_one sailings

  -- refusals 1 to 6: the program lends all the room there need be
  abbrev pub verdict : Verdict
  verdict = admission version_one sailings q no_room no_room

  refused_text_lem : (number place : ℕ) → verdict ≡ fault number place → asked_text version_one sailings q ≡ refused_text number
  unfolding asked_text
  refused_text_lem number place e = ap (by_verdict (λ n p. refused_text n) (planned_text (planned t q))) e

  planned_text_lem : verdict ≡ fine → asked_text version_one sailings q ≡ planned_text (planned t q)
  unfolding asked_text
  planned_text_lem e = ap (by_verdict (λ n p. refused_text n) (planned_text (planned t q))) e

  eight_told : (o : Option Plan) → planned_text o ≡ refused_text 8 → o ≡ none
  unfolding planned_text
  eight_told none e = refl
  eight_told (some p) e = absurd (plan_not_refused p 8 e)

  printed : (text : List ℕ) → verdict ≡ fine → (o : Option Plan) → planned t q ≡ o → text ≡ planned_text o → (text ≡ refused_text 8 → ⊥)
      → SheetShows t q text
  unfolding planned_text plan_text
  printed text e none is says not_eight = absurd (not_eight says)
  printed text e (some p) is says not_eight =
      record {
        rides = p.rides;
        expected = p.expected;
        latest = p.latest;
        bound = p.bound;
        demanded_plan = plan_demanded t (is_timely sailings q no_room no_room e) q p is;
        lines = says;
      }

-- whatever answer and bytes the contract permits
module _ (κs : Lfts 3) (arguments : Dens κs kinds.ps) (answer : (res_t kinds.r κs).Denot) (ending : AtExit (ended_of 3 kinds.ps kinds.r) κs)
    (permitted : reads.Post κs arguments answer ending) where
  abbrev sailings : List ℕ
  sailings = arguments.0.now

  abbrev q : Query
  q = query_in arguments.1.0.now

  abbrev out : List ℕ
  out = arguments.1.1.0.now

  abbrev out' : List ℕ
  out' = ending.1.1.0.now

  given : (answer ≡ (given_in (leb sheet_room (length out)) (asked_text version_one sailings q) out).answer)
      × (out' ≡ (given_in (leb sheet_room (length out)) (asked_text version_one sailings q) out).out)
  unfolding sheet_outcome sheet_text
  given = permitted

  -- where the bytes are enough for any sheet, a text is answered
  pub text_told : sheet_room ≤ length out → (end : ℕ) × (answer ≡ Some end)
  unfolding text_given
  text_told room = (
    length (asked_text version_one sailings q),
    given.0 ∙ ap (λ b. (given_in b (asked_text version_one sailings q) out).answer) (le-leb sheet_room (length out) room),
  )

  -- where they are fewer, that is answered, and no byte changes
  pub no_room_lem : length out < sheet_room → (answer ≡ None) × (out' ≡ out)
  no_room_lem short =
      let few = lt-leb sheet_room (length out) short in (
        given.0 ∙ ap (λ b. (given_in b (asked_text version_one sailings q) out).answer) few,
        given.1 ∙ ap (λ b. (given_in b (asked_text version_one sailings q) out).out) few,
      )

  -- where a text is answered
  module _ (end : ℕ) (told : answer ≡ Some end) where
    -- what is printed
    abbrev text : List ℕ
    text = take end out'

    there : (take end (given_in (leb sheet_room (length out)) (asked_text version_one sailings q) out).out ≡ asked_text version_one sailings q)
        × (drop end (given_in (leb sheet_room (length out)) (asked_text version_one sailings q) out).out ≡ drop end out)
    there = text_there (leb sheet_room (length out)) (asked_text version_one sailings q) out end (sym given.0 ∙ told)

    text_is : text ≡ asked_text version_one sailings q
    text_is = ap (take end) given.1 ∙ there.0

    -- the bytes behind the text are as they were
    pub beyond : drop end out' ≡ drop end out
    beyond = ap (drop end) given.1 ∙ there.1

    -- `refused 1` to `refused 6`, by the check's numbers and then the query's
    pub refuses : (number place : ℕ) → verdict sailings q ≡ fault number place → (text ≡ refused_text number) × (1 ≤ number) × (number ≤ 6)
    refuses number place e =
        let between = refused_roomless version_one sailings q number place e in
        (text_is ∙ refused_text_lem sailings q number place e, between.0, between.1)

    module _ (admitted : verdict sailings q ≡ fine) where
      -- `refused 8` exactly if there is no safe journey
      pub eight_exactly : (text ≡ refused_text 8) ↔ ((end : ℕ) → Journey (decode version_one sailings) q end → ⊥)
      unfolding planned_text
      eight_exactly =
          let exactly = no_plan_exactly sailings q no_room no_room admitted in
          let says = text_is ∙ planned_text_lem sailings q admitted in (
            λ is. exactly.0 (eight_told sailings q (planned (decode version_one sailings) q) (sym says ∙ is)),
            λ gone. says ∙ ap planned_text (exactly.1 gone),
          )

      -- otherwise its lines are the rides that demands 2 and 3 ask
      pub delivers : (text ≡ refused_text 8 → ⊥) → SheetShows (decode version_one sailings) q text
      delivers not_eight =
          printed sailings q text admitted (planned (decode version_one sailings) q) refl (text_is ∙ planned_text_lem sailings q admitted) not_eight
