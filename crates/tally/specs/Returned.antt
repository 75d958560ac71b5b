-- What is true of what the call for a landing returns: how it ends, in document 02's words.
use Rattle.std.specs.Prelude.{ℕ, suc, ◌<◌, List, ◌⊎◌, ◌≡◌, length, Result, Ok}
use Rattle.timetable.specs.Verdict.{refused}
use Rattle.timetable.specs.declared.Refusal.{Refusal}
use Rattle.file_layout.specs.declared.Format.{Format}
use Rattle.tally.specs.declared.Landing.{Landing}
use Rattle.tally.specs.Tally.{count_at, place_of, most_count, with_landing}

-- a minute above the version's last, either one
abbrev pub MinuteAbove : Format → Landing → Type 0
MinuteAbove f l = (f.lastminute < l.planned) ⊎ (f.lastminute < l.actual)

-- a given count above its limit
abbrev pub CountAbove : List ℕ → Type 0
CountAbove tally = (place : ℕ) × (place < length tally) × (most_count < count_at tally place)

-- a landing for a count at its limit
abbrev pub CountFull : Format → Landing → List ℕ → Type 0
CountFull f l tally = count_at tally (place_of f.delay l) ≡ most_count

-- exactly one count has grown by one
pub record GrownAt (place : ℕ) (tally tally' : List ℕ) : Type 0 where
  pub one_more : count_at tally' place ≡ suc (count_at tally place)
  pub others : (other : ℕ) → (other ≡ place → ⊥) → count_at tally' other ≡ count_at tally other
  pub same_length : length tally' ≡ length tally

-- how a landing ends
pub data LandingEnds (f : Format) (l : Landing) (tally : List ℕ) : Result Unit (Refusal ℕ) → List ℕ → Type 0 where
  minute : MinuteAbove f l → LandingEnds f l tally (refused 14 0) tally
  above : (MinuteAbove f l → ⊥) → CountAbove tally → LandingEnds f l tally (refused 15 0) tally
  full : (MinuteAbove f l → ⊥) → (CountAbove tally → ⊥) → CountFull f l tally → LandingEnds f l tally (refused 15 0) tally
  counted : (MinuteAbove f l → ⊥) → (CountAbove tally → ⊥) → (CountFull f l tally → ⊥)
      → LandingEnds f l tally (Ok tt) (with_landing f.delay l tally)
