-- The search in a stop's stack for the first ride that can be boarded: what a look tells, and where the answer stands after it.
use Rattle.std.specs.Prelude.{ℕ, ◌+◌, ◌≤◌, ◌<◌, cond, List, leb}
use Rattle.plan_stacks.specs.Stacks.{entry_departure, Falling}

-- 1 if one who stands there at `minute` can board what departs at `departure`, else 0
abbrev pub look : (minute departure : ℕ) → ℕ
look minute departure = cond (leb minute departure) 1 0

-- of a stack of `size` entries, the highest that can be boarded at `minute` is one of the `left` entries from place `low` up
pub record Narrowed (work : List ℕ) (start size minute low left : ℕ) : Type 0 where
  pub some_entry : 0 < left
  pub inside : low + left ≤ size
  pub opens : minute ≤ entry_departure work start low
  pub missed : (k : ℕ) → low + left ≤ k → k < size → entry_departure work start k < minute

-- a stack cut above the `left` entries from place `low` up, the lowest of which can be boarded at `minute`
pub record Searched (work : List ℕ) (start minute low left : ℕ) : Type 0 where
  pub falling : Falling work start (low + left) minute
  pub some_entry : 0 < left
  pub opens : minute ≤ entry_departure work start low
