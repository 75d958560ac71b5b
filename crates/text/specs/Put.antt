-- A text written into lent bytes: where it stands, and where the next one goes.
use Rattle.std.specs.Prelude.{ℕ, ◌+◌, ◌≤◌, List, ◌++◌, ◌≡◌, length, take, drop}
use Rattle.std.proofs.lemmas.List.Edits.{sets}
use Rattle.text.specs.Decimal.{decimal}

-- the text went over the bytes from `at` on, and ends where `next` says
pub record Put (out : List ℕ) (at : ℕ) (text after : List ℕ) (next : ℕ) : Type 0 where
  pub says : after ≡ sets out at text
  pub ends : next ≡ at + length text

-- the characters of a number of 64 bits, at most
abbrev pub number_width : ℕ
number_width = 20

-- the digits of a number went over the bytes ahead of `at`, and start where `start` says; the other bytes are as they were
pub record Ahead (out : List ℕ) (at n : ℕ) (after : List ℕ) (start : ℕ) : Type 0 where
  pub says : after ≡ take start out ++ decimal n (drop at out)
  pub ends : start + length (decimal n (drop at out)) ≡ length out
  pub inside : start ≤ at
