-- Four numbers of two bytes stored one behind the other, and two runs of bytes behind them: a row, a trailer. Assumes nothing.
use Prim.Native.Nat.{ℕ, ◌+◌}
use mathlib.Core.List.{List, ◌++◌}
use mathlib.Core.Path.{◌≡◌, refl}
use native.Mathlib.Omega.{arith}
use lib.ListN.{length}
use lib.Seq.{sets}
use Rattle.laws.proofs.Lists.{sets_on}
use Rattle.numbers.specs.Numbers.{u16_bytes}

module _ (l : List ℕ) (at a b c d : ℕ) where
  pub four_stored : {first second third fourth : List ℕ} → first ≡ sets l at (u16_bytes a) → second ≡ sets first (at + 2) (u16_bytes b)
      → third ≡ sets second (at + 4) (u16_bytes c) → fourth ≡ sets third (at + 6) (u16_bytes d)
      → fourth ≡ sets l at (u16_bytes a ++ u16_bytes b ++ u16_bytes c ++ u16_bytes d)
  unfolding u16_bytes
  four_stored e f g h =
      let two = sets_on l at (u16_bytes a) (u16_bytes b) 2 refl e f in
      let three = sets_on l at (u16_bytes a ++ u16_bytes b) (u16_bytes c) 4 refl two g in
      sets_on l at (u16_bytes a ++ u16_bytes b ++ u16_bytes c) (u16_bytes d) 6 refl three h

  -- `behind` is where the second run starts
  pub six_stored : (x y : List ℕ) (behind : ℕ) {fourth fifth sixth : List ℕ} → 8 + length x ≡ behind
      → fourth ≡ sets l at (u16_bytes a ++ u16_bytes b ++ u16_bytes c ++ u16_bytes d)
      → fifth ≡ sets fourth (at + 8) x → sixth ≡ sets fifth (at + behind) y
      → sixth ≡ sets l at (u16_bytes a ++ (u16_bytes b ++ (u16_bytes c ++ (u16_bytes d ++ (x ++ y)))))
  unfolding u16_bytes
  six_stored x y behind size e f g =
      let front : List ℕ = u16_bytes a ++ u16_bytes b ++ u16_bytes c ++ u16_bytes d in
      sets_on l at (front ++ x) y behind (omega arith) (sets_on l at front x 8 refl e f) g
