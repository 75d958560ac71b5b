-- Document 01, "What every contract settles": any two permitted outcomes coincide, said of a function's own contract. Assumes nothing.
use Prim.Native.Nat.{ℕ}
use mathlib.Core.Path.{◌≡◌}
use mathlib.Core.List.{List}
use contract.Lifetimes.{Lfts}
use denote.Triple.Clauses.{AtExit}
use borrow.Fn.Kinds.{ParamKind, ResultKind, res_t, Dens, Out, ended_of}

-- two results that the contract permits on the same arguments are equal: all there is to an outcome where nothing is lent to be written
abbrev pub SettlesResult : (n : ℕ) (parameters : List (ParamKind n)) (result : ResultKind n) → Out n parameters result → Type 0
SettlesResult n parameters result permits =
    (κs : Lfts n) (arguments : Dens κs parameters) (one other : (res_t result κs).Denot) (ending another : AtExit (ended_of n parameters result) κs)
    → permits κs arguments one ending → permits κs arguments other another → one ≡ other
