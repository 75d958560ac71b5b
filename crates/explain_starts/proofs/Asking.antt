-- What the earliest safe arrival of a start tells: there is one exactly if it arrives; and work is left cleared, once or again. Assumes nothing.
use Prim.Native.Nat.{ℕ, ◌+◌, ◌*◌, zero-le, ◌≤◌, ◌<◌}
use native.Mathlib.Omega.{arith}
use mathlib.Core.Bool.{true, true≢false, false≢true}
use mathlib.Core.List.{List, ◌++◌}
use mathlib.Core.Logic.{◌≢◌, inl}
use mathlib.Core.Path.{◌≡◌, refl, sym, ap, ◌∙◌}
use lib.ListN.{length, drop, replicate, length-replicate}
use lib.Seq.{drop_at}
use borrow.Author.Tests.{le-leb}
use Rattle.rooms.specs.Rooms.{work_numbers}
use Rattle.timetable.specs.Timetable.{Timetable}
use Rattle.timetable.specs.Verdict.{fine}
use Rattle.file_layout.specs.declared.Format.{Format}
use Rattle.file_layout.specs.declared.Trailer.{Trailer}
use Rattle.std.specs.Prelude.{Option, Some, Result, Ok, Err, is_ok}
use Rattle.timetable.specs.declared.Refusal.{Refusal}
use Rattle.file_layout.specs.Check.{checked_as}
use Rattle.file_layout.specs.Decode.{decode}
use Rattle.file_layout.proofs.Sound.{checked_gives}
use Rattle.query.specs.declared.Query.{Query}
use Rattle.query.specs.Query.{plain_query, with_gate, most_gate, no_query, query_rule}
use Rattle.query.proofs.Rules.{minute_decides, gate_decides_rule, no_code, margin_decides, gate_decides}
use Rattle.plans.specs.Sound.{Timely}
use Rattle.plans.specs.Plan.{earliest}
use Rattle.plans.proofs.EarliestSafe.{earliest_is_least, no_earliest}
use Rattle.plan_rows.specs.Sections.{Plannable}
use Rattle.plan_rows.proofs.Standing.{timely}
use Rattle.planner.specs.Admission.{needs, enough, work_room, no_room, admission}
use Rattle.planner.specs.Outcome.{cleared, work_after, EarliestOutcome, earliest_answered, earliest_outcome}
use Rattle.planner.proofs.Admitting.{behind_check, not_refused, enough_none, few_stops_rows}
use Rattle.planner.proofs.Answered.{answered_earliest, arrival_is, refused_is, work_is}
use Rattle.explain_starts.specs.Starts.{Starts, LastStart, until, never, Tells, StartFits}

-- the minute of an answer is one that a clock prints
pub until_small : (f : Format) → Plannable f → {t : Timetable} {source target gate : ℕ} {start : Option ℕ} (minute : ℕ)
    → LastStart t source target gate f.lastminute start → start ≡ Some minute → minute < 4294967296
until_small f plannable minute (never none) is = absurd (let z : ◌≡◌ {A = ℕ} 0 1 = cc in let y : ⊥ = omega arith in y)
until_small f plannable minute (until {minute = m} within there behind) is =
    let same : m ≡ minute = cc in omega (arith, within, same, plannable.minutes_fit)

-- two stops of a sound file that differ can be asked for, with a gate time that keeps its rule
pub stops_fit : {f : Format} {file : List ℕ} {h : Trailer} (source target gate : ℕ) {work : List ℕ} → Plannable f → checked_as f file ≡ Ok h
    → source < h.stops → target < h.stops → source ≢ target → gate ≤ most_gate → 4 * h.rows + 2500 ≤ length work
    → StartFits f file h source target gate work
stops_fit source target gate plannable sound first second apart early room =
    record {
      plannable = plannable;
      sound = sound;
      fits = record { source = first; target = second; apart = apart; minute = zero-le; code = inl refl; margin = (omega arith, omega arith); gate = early };
      room = room;
    }

-- what a program lends is enough for every sound file
pub lent_enough : (f : Format) (file : List ℕ) (h : Trailer) → Plannable f → checked_as f file ≡ Ok h → 4 * h.rows + 2500 ≤ work_numbers
lent_enough f file h plannable sound =
    omega (arith, (few_stops_rows f file no_query no_room no_room h sound plannable.readable).1)

-- work that was cleared stays as it is when it is cleared again
cleared_twice : (room : ℕ) (work : List ℕ) → cleared room (cleared room work) ≡ cleared room work
unfolding cleared
cleared_twice room work =
    ap (λ (l : List ℕ). replicate room 0 ++ l) (drop_at (replicate room 0) (drop room work) room (length-replicate {A = ℕ} room 0))

pub cleared_again : (f : Format) (file work : List ℕ) {after : List ℕ} → after ≡ work_after f file work → work_after f file after ≡ work_after f file work
cleared_again f file work is = ap (work_after f file) is ∙ cleared_twice _ work

module _ {f : Format} {file : List ℕ} {h : Trailer} {source target gate : ℕ} {work : List ℕ} (call : StartFits f file h source target gate work) where
  abbrev t : Timetable
  t = decode f file

  -- the same of work that is as long
  pub fits_again : {after : List ℕ} → length after ≡ length work → StartFits f file h source target gate after
  fits_again same =
      record { plannable = call.plannable; sound = call.sound; fits = call.fits; room = omega (arith, call.room, same) }

  is_timely : Timely t
  unfolding decode
  is_timely =
      let stands = timely f call.plannable file (checked_gives f file h call.plannable.readable call.sound) in
      record { rising = stands.rising; forward = stands.forward; shared = stands.shared }

  module _ (minute : ℕ) (inside : minute ≤ f.lastminute) where
    abbrev q : Query
    q = with_gate gate (plain_query source target minute)

    rule_kept : query_rule h.stops f.lastminute q ≡ true
    rule_kept =
        sym (gate_decides_rule h.stops f.lastminute q
        (sym (minute_decides h.stops f.lastminute q call.fits.source call.fits.target call.fits.apart)
        ∙ le-leb minute f.lastminute inside) (sym (no_code q refl)) (sym (margin_decides q (omega arith))))
        ∙ sym (gate_decides q) ∙ le-leb gate most_gate call.fits.gate

    room_enough : enough (work_room (length work)) h ≡ true
    unfolding enough
    room_enough = le-leb (needs (work_room (length work)) h) (length work) (omega (arith, call.room))

    admitted_start : admission f file q (work_room (length work)) no_room ≡ fine
    admitted_start =
        behind_check f file q (work_room (length work)) no_room h call.sound
        ∙ not_refused f h q (work_room (length work)) no_room rule_kept room_enough (enough_none h)

    answered_start : earliest_outcome f file q work ≡ earliest_answered (earliest t q) (work_after f file work)
    answered_start = answered_earliest f file q work admitted_start

    arrival_starts : (e : ℕ) → Ok e ≡ (earliest_outcome f file q work).answer → Starts t source target gate minute
    arrival_starts e told =
        let found = arrival_is (earliest t q) (work_after f file work) e (sym (told ∙ ap (λ (x : EarliestOutcome). x.answer) answered_start)) in
        (e, (earliest_is_least t is_timely q e found).reached)

    refused_starts : (refusal : Refusal ℕ) → Err refusal ≡ (earliest_outcome f file q work).answer → Starts t source target gate minute → ⊥
    refused_starts refusal told there =
        let gone = refused_is (earliest t q) (work_after f file work) refusal
        (sym (told ∙ ap (λ (x : EarliestOutcome). x.answer) answered_start)) in
        no_earliest t is_timely q call.fits.apart gone there.0 there.1

    -- so it arrives exactly if there is one
    pub starts_told : (answer : Result ℕ (Refusal ℕ)) → answer ≡ (earliest_outcome f file q work).answer
        → Tells (Starts t source target gate minute) (is_ok answer)
    starts_told (Ok e) told = record { yes = λ _. arrival_starts e told; no = λ is. absurd (true≢false is) }
    starts_told (Err refusal) told = record { yes = λ is. absurd (false≢true is); no = λ _. refused_starts refusal told }

    pub clears_start : (earliest_outcome f file q work).work ≡ work_after f file work
    clears_start = ap (λ (x : EarliestOutcome). x.work) answered_start ∙ work_is (earliest t q) (work_after f file work)
