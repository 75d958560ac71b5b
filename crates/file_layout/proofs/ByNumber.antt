-- The check's answer by document 01's number, place and values: a sound file, and each refusal. Assumes nothing.
use Prim.Native.Nat.{ℕ}
use mathlib.Core.List.{List, [], ◌∷◌}
use mathlib.Core.Path.{◌≡◌, ap}
use Rattle.timetable.specs.Verdict.{fine, fault}
use Rattle.file_layout.specs.Format.{version_one}
use Rattle.file_layout.specs.Decode.{trailer_of}
use Rattle.file_layout.specs.Check.{answer_of, file_verdict, checked}
use Rattle.file_layout.proofs.Sound.{fine_answered, fault_answered}

-- a sound file is answered with S, n and K
pub sound_by_number : (s : List ℕ) → file_verdict version_one s ≡ fine
    → answer_of (checked s)
    ≡ record {
      number = 0;
      place = 0;
      values = (trailer_of version_one s).stops ∷ (trailer_of version_one s).rows ∷ (trailer_of version_one s).classes ∷ [];
    }
unfolding checked answer_of
sound_by_number s e = ap answer_of (fine_answered version_one s e)

-- a refusal carries its number and place and nothing else
pub refused_by_number : (s : List ℕ) (number place : ℕ) → file_verdict version_one s ≡ fault number place
    → answer_of (checked s) ≡ record { number = number; place = place; values = [] }
unfolding checked answer_of
refused_by_number s number place e = ap answer_of (fault_answered version_one s number place e)
