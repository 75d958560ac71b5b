-- What the call for a log returns, for every log's bytes and tally, over its contract. Assumes nothing.
use Prim.Native.Nat.{ℕ, ◌<◌}
use mathlib.Core.List.{List, [], ◌∷◌}
use mathlib.Core.Logic.{◌↔◌}
use mathlib.Core.Path.{◌≡◌, ap, sym, ◌∙◌}
use lib.ListN.{length, take}
use contract.Lifetimes.{Lfts}
use denote.Triple.Clauses.{AtExit}
use borrow.Fn.Kinds.{Dens, res_t, ended_of}
use Rattle.std.specs.Prelude.{Ok}
use Rattle.timetable.specs.Verdict.{refused}
use Rattle.file_layout.specs.Format.{version_one}
use Rattle.tally.specs.declared.Landing.{Landing}
use Rattle.tally.specs.Tally.{empty_tally}
use Rattle.tally.specs.Log.{tally_of, InWeeks, InLimit}
use Rattle.tally.specs.LogOutcome.{landings_in, log_outcome, log_answer}
use Rattle.tally.proofs.Logs.{log_exactly, log_tallied}
use Rattle.tally.proofs.Stopped.{stopped_tallied}
use Rattle.tally.proofs.tally_log.Kinds as kinds
use Rattle.tally.proofs.tally_log.Reads as reads

-- whatever answer and tally the contract permits, from an empty tally
module _ (κs : Lfts 2) (arguments : Dens κs kinds.ps) (answer : (res_t kinds.r κs).Denot) (ending : AtExit (ended_of 2 kinds.ps kinds.r) κs)
    (permitted : reads.Post κs arguments answer ending) (empty : arguments.1.0.now ≡ empty_tally 120) where
  abbrev log : List Landing
  log = landings_in arguments.0.now

  abbrev tally' : List ℕ
  tally' = ending.1.0.now

  answered : answer ≡ (log_outcome version_one 0 log (empty_tally 120)).answer
  answered = permitted.0 ∙ ap (λ (t : List ℕ). (log_outcome version_one 0 log t).answer) empty

  -- all of a log is counted exactly if no minute is above 10,079 and no count of its tally passes 1,000,000
  pub all_exactly : (answer ≡ Ok (length log)) ↔ (InWeeks version_one log × InLimit 120 log)
  all_exactly = (λ told. (log_exactly version_one log).0 (sym answered ∙ told), λ clear. answered ∙ (log_exactly version_one log).1 clear)

  -- and then the tally is that of its landings
  pub tallied : (n : ℕ) → answer ≡ Ok n → (n ≡ length log) × (tally' ≡ tally_of 120 log)
  tallied n told =
      let found = log_tallied version_one log n (sym answered ∙ told) in
      (found.0, permitted.1 ∙ ap (λ (t : List ℕ). (log_outcome version_one 0 log t).tally) empty ∙ found.1)

  -- where a landing is refused, the tally is that of the landings ahead of it
  pub stopped : (number place : ℕ) → answer ≡ refused number place → (place < length log) × (tally' ≡ tally_of 120 (take place log))
  stopped number place told =
      let found = stopped_tallied version_one log number place (sym answered ∙ told) in
      (found.0, permitted.1 ∙ ap (λ (t : List ℕ). (log_outcome version_one 0 log t).tally) empty ∙ found.1)

  -- answered by number 0, place 0 and how many landings were counted; a refusal by its number, at the landing's place in the log
  pub all_by_number : (n : ℕ) → answer ≡ Ok n → log_answer answer ≡ record { number = 0; place = 0; values = n ∷ [] }
  unfolding log_answer
  all_by_number n told = ap log_answer told

  pub refused_by_number : (number place : ℕ) → answer ≡ refused number place → log_answer answer ≡ record { number = number; place = place; values = [] }
  unfolding log_answer
  refused_by_number number place told = ap log_answer told
