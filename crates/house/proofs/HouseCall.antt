-- What the call for a house share returns, for every pair number and minute, over its contract. Assumes nothing.
use Prim.Native.Nat.{ℕ, ◌<◌}
use mathlib.Core.Bool.{Bool}
use mathlib.Core.Logic.{◌↔◌, ◌⊎◌, inl, inr}
use mathlib.Core.Path.{◌≡◌, ap, sym, ◌∙◌}
use native.Mathlib.Omega.{arith}
use lib.Dec.{leb}
use borrow.Author.Tests.{leb-true, leb-false}
use contract.Lifetimes.{Lfts}
use denote.Triple.Clauses.{AtExit}
use borrow.Fn.Kinds.{Dens, res_t, ended_of}
use Rattle.std.specs.Prelude.{Ok}
use Rattle.laws.proofs.Tests.{ifb}
use Rattle.timetable.specs.Classes.{share_total}
use Rattle.timetable.specs.Verdict.{refused, told_fault}
use Rattle.house.specs.House.{maximum, pair_of, cumulative}
use Rattle.house.specs.HouseShare.{Inside, Outside}
use Rattle.house.proofs.Answers.{inside_or_not, pair_refused, minute_refused, share_inside}
use Rattle.house.proofs.Rule.{at_latest, cumulative_below}
use Rattle.house.proofs.house_share.Kinds as kinds
use Rattle.house.proofs.house_share.Reads as reads

-- whatever answer the contract permits
module _ (κs : Lfts 0) (arguments : Dens κs kinds.ps) (answer : (res_t kinds.r κs).Denot) (ending : AtExit (ended_of 0 kinds.ps kinds.r) κs)
    (permitted : reads.Post κs arguments answer ending) where
  abbrev pair : ℕ
  pair = arguments.0

  abbrev minute : ℕ
  minute = arguments.1.0

  refusal_of : Outside pair minute → answer ≡ refused 6 0
  refusal_of (inl past) = permitted ∙ sym (pair_refused pair minute past)
  refusal_of (inr past) = permitted ∙ sym (minute_refused pair minute past)

  shared : Inside pair minute → answer ≡ Ok (cumulative (pair_of pair).change (pair_of pair).parameter minute)
  shared inside = permitted ∙ share_inside pair minute inside.0 inside.1

  not_both : {P : Type 0} {share number place : ℕ} → answer ≡ Ok share → answer ≡ refused number place → P
  not_both share refusal = let z : ◌≡◌ {A = ℕ} 0 1 = cc in absurd (omega (arith, z))

  -- refusal 6, at place 0, exactly for a pair number above 7 or a minute above M
  pub six_exactly : (answer ≡ refused 6 0) ↔ Outside pair minute
  six_exactly = (λ told. outside told (inside_or_not pair minute), refusal_of)
    where
      outside : answer ≡ refused 6 0 → Outside pair minute ⊎ Inside pair minute → Outside pair minute
      outside told (inl there) = there
      outside told (inr inside) = not_both (shared inside) told

  -- and no refusal is another
  pub refuses : (number place : ℕ) → answer ≡ refused number place → (number ≡ 6) × (place ≡ 0)
  refuses number place told = known (inside_or_not pair minute)
    where
      known : Outside pair minute ⊎ Inside pair minute → (number ≡ 6) × (place ≡ 0)
      known (inl there) = let six = ap told_fault (sym told ∙ refusal_of there) in (cc, cc)
      known (inr inside) = not_both (shared inside) told

  -- a share is answered exactly for the others, and it is the one by the rule
  pub share_exactly : (share : ℕ)
      → (answer ≡ Ok share) ↔ (Inside pair minute × (share ≡ cumulative (pair_of pair).change (pair_of pair).parameter minute))
  share_exactly share = (λ told. inside told (inside_or_not pair minute), λ known. shared known.0 ∙ ap Ok (sym known.1))
    where
      inside : answer ≡ Ok share → Outside pair minute ⊎ Inside pair minute
          → Inside pair minute × (share ≡ cumulative (pair_of pair).change (pair_of pair).parameter minute)
      inside told (inl there) = not_both told (refusal_of there)
      inside told (inr there) = let same = shared there in (there, cc)

  -- all landings, 4,096 of them, are that late or less exactly at M
  pub whole_exactly : (share : ℕ) → answer ≡ Ok share → (share ≡ share_total) ↔ (minute ≡ maximum (pair_of pair))
  whole_exactly share told = (last, λ late. known.1 ∙ at_latest (pair_of pair).change (pair_of pair).parameter minute (omega (arith, late)))
    where
      known : Inside pair minute × (share ≡ cumulative (pair_of pair).change (pair_of pair).parameter minute)
      known = (share_exactly share).0 told

      early_less : minute < maximum (pair_of pair) → share < share_total
      early_less early = omega (arith, known.1, cumulative_below (pair_of pair).change (pair_of pair).parameter minute early)

      last : share ≡ share_total → minute ≡ maximum (pair_of pair)
      last whole =
          ifb (λ (_ : Bool). minute ≡ maximum (pair_of pair)) (leb (maximum (pair_of pair)) minute)
          (λ late. omega (arith, leb-true (maximum (pair_of pair)) minute late, known.0.1))
          (λ early. absurd (omega (arith, early_less (leb-false (maximum (pair_of pair)) minute early), whole)))
