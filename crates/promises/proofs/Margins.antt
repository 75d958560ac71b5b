-- What a margin costs in what the calls return, against the same call with margin 1, over their contracts. Assumes nothing.
use Prim.Native.Nat.{ℕ, ◌+◌, ◌-◌, ◌*◌, ◌≤◌}
use mathlib.Core.List.{List}
use mathlib.Core.Path.{◌≡◌, refl, subst, ap}
use lib.ListN.{take}
use contract.Lifetimes.{Lfts}
use denote.Triple.Clauses.{AtExit}
use borrow.Fn.Kinds.{Dens, res_t, ended_of}
use Rattle.timetable.specs.Timetable.{Timetable}
use Rattle.file_layout.specs.Format.{version_one}
use Rattle.file_layout.specs.Decode.{decode}
use Rattle.query.specs.declared.Query.{Query}
use Rattle.query.specs.Query.{with_margin, least_margin}
use Rattle.plans.specs.Worth.{rides_of}
use Rattle.demands.specs.Demanded.{Demanded}
use Rattle.demands.specs.Walk.{longest_way}
use Rattle.demands.proofs.AnyMargin.{margin_loses}
use Rattle.plan_slice.specs.Slice.{rides_in}
use Rattle.planner.specs.Outcome.{as_plan}
use Rattle.planner.proofs.plan.Kinds as kinds
use Rattle.planner.proofs.plan.Reads as reads
use Rattle.sayurimpak.specs.Host.{numbers_in}
use Rattle.promises.specs.Returned.{Booked, SheetShows}
use Rattle.promises.proofs.PlanCall.{delivers}

-- two outcomes of the planning call on one file, one with margin 1
module _ (κs κs' : Lfts 3) (arguments : Dens κs kinds.ps) (one : Dens κs' kinds.ps) (answer : (res_t kinds.r κs).Denot)
    (answer' : (res_t kinds.r κs').Denot) (ending : AtExit (ended_of 3 kinds.ps kinds.r) κs) (ending' : AtExit (ended_of 3 kinds.ps kinds.r) κs')
    (permitted : reads.Post κs arguments answer ending) (permitted' : reads.Post κs' one answer' ending')
    (one_file : one.0.now ≡ arguments.0.now) (one_query : one.1.0 ≡ with_margin least_margin arguments.1.0) where
  abbrev t : Timetable
  t = decode version_one arguments.0.now

  abbrev q : Query
  q = arguments.1.0

  -- one bound, and at most the margin less one for each ride of the longest way through margin 1's plan
  pub plans_lose : (rides expected latest bound rides' expected' latest' bound' : ℕ) → answer ≡ as_plan rides expected latest bound
      → answer' ≡ as_plan rides' expected' latest' bound'
      → (bound ≡ bound')
      × (expected ≤ expected' + (q.margin - 1) * longest_way q (rides_of (rides_in t (take (3 * rides') ending'.1.1.1.0.now))))
  plans_lose rides expected latest bound rides' expected' latest' bound' told told' =
      margin_loses (delivers κs arguments answer ending permitted rides expected latest bound told).0
      (subst (λ (x : Query). Demanded t x (rides_in t (take (3 * rides') plan')) expected' latest' bound') one_query
      (subst (λ (f : List ℕ). Demanded (decode version_one f) one.1.0 (rides_in (decode version_one f) (take (3 * rides') plan')) expected' latest' bound')
      one_file (delivers κs' one answer' ending' permitted' rides' expected' latest' bound' told').0))
    where
      plan' : List ℕ
      plan' = ending'.1.1.1.0.now

-- what a host reads, and what a pier reads, with a margin and with margin 1
module _ {t : Timetable} {q : Query} where
  pub bookings_lose : {out out' bytes bytes' : List ℕ} {answer answer' : ℕ} (booked : Booked t q out answer bytes)
      (one : Booked t (with_margin least_margin q) out' answer' bytes')
      → (booked.bound ≡ one.bound)
      × (booked.expected ≤ one.expected + (q.margin - 1) * longest_way q (rides_of (rides_in t (numbers_in (3 * answer') bytes'))))
  bookings_lose booked one = margin_loses booked.demanded_plan one.demanded_plan

  pub sheets_lose : {text text' : List ℕ} (shown : SheetShows t q text) (one : SheetShows t (with_margin least_margin q) text')
      → (shown.bound ≡ one.bound) × (shown.expected ≤ one.expected + (q.margin - 1) * longest_way q (rides_of one.rides))
  sheets_lose shown one = margin_loses shown.demanded_plan one.demanded_plan
