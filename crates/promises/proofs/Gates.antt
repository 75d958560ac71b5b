-- What a larger gate time does to what the calls return, over their contracts. Assumes nothing.
use Prim.Native.Nat.{ℕ, ◌≤◌}
use mathlib.Core.List.{List}
use mathlib.Core.Path.{◌≡◌}
use Rattle.timetable.specs.Timetable.{Timetable}
use Rattle.std.specs.Prelude.{Result, Ok}
use Rattle.timetable.specs.Verdict.{fine}
use Rattle.timetable.specs.declared.Refusal.{Refusal}
use Rattle.file_layout.specs.Format.{version_one}
use Rattle.file_layout.specs.Decode.{decode}
use Rattle.query.specs.declared.Query.{Query}
use Rattle.query.specs.Query.{with_gate, least_margin}
use Rattle.plans.specs.Sound.{Timely}
use Rattle.demands.proofs.AnyGate.{journey_kept, earliest_kept, gate_no_earlier}
use Rattle.promises.specs.Returned.{AsDesk, AsArrival, Booked, SheetShows}
use Rattle.promises.proofs.ArrivalCall as arrival
use Rattle.promises.proofs.DeskCall.{verdict, eight_exactly}

module _ (file : List ℕ) (q : Query) (wider : ℕ) (more : q.gate ≤ wider) where
  -- where the desk finds no safe journey, it finds none with a larger gate time
  pub eight_kept :
      (out out' bytes bytes' : List ℕ) (answer answer' : ℕ) → AsDesk file q out answer bytes → AsDesk file (with_gate wider q) out' answer' bytes'
      → verdict file q out ≡ fine → verdict file (with_gate wider q) out' ≡ fine → answer ≡ 10008 → answer' ≡ 10008
  eight_kept out out' bytes bytes' answer answer' asked asked' admitted admitted' told =
      (eight_exactly file (with_gate wider q) out' answer' bytes' asked' admitted').1
      (λ end j. (eight_exactly file q out answer bytes asked admitted).0 told end (journey_kept (decode version_one file) q wider more j))

  -- and the earliest safe arrival is no earlier
  pub arrivals_no_earlier :
      (work work' after after' : List ℕ) (answer answer' : Result ℕ (Refusal ℕ)) {e e' : ℕ} (asked : AsArrival file q work answer after)
      (asked' : AsArrival file (with_gate wider q) work' answer' after') → arrival.verdict file q work answer after asked ≡ fine
      → arrival.verdict file (with_gate wider q) work' answer' after' asked' ≡ fine → answer ≡ Ok e → answer' ≡ Ok e' → e ≤ e'
  arrivals_no_earlier work work' after after' answer answer' {e} {e'} asked asked' admitted admitted' told told' =
      earliest_kept (decode version_one file) q wider more (arrival.earliest_answered_lem file q work answer after asked admitted e told)
      (arrival.earliest_answered_lem file (with_gate wider q) work' answer' after' asked' admitted' e' told')

-- with no bound and margin 1, neither is the expected arrival that a host or a pier reads
module _ {t : Timetable} (timely : Timely t) {q : Query} (wider : ℕ) (more : q.gate ≤ wider) (no_code : q.code ≡ 0) (least : q.margin ≡ least_margin) where
  pub bookings_no_earlier :
      {out out' bytes bytes' : List ℕ} {answer answer' : ℕ} (near : Booked t q out answer bytes)
      (far : Booked t (with_gate wider q) out' answer' bytes') → near.expected ≤ far.expected
  bookings_no_earlier near far = gate_no_earlier wider timely more no_code least near.demanded_plan far.demanded_plan

  pub sheets_no_earlier :
      {text text' : List ℕ} (near : SheetShows t q text) (far : SheetShows t (with_gate wider q) text') → near.expected ≤ far.expected
  sheets_no_earlier near far = gate_no_earlier wider timely more no_code least near.demanded_plan far.demanded_plan
