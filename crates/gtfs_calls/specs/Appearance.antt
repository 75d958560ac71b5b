-- Document 02, E2: "Ids of 1 to 16 bytes are numbered by first appearance": where an id first appears, and its number.
use Rattle.std.specs.Prelude.{ℕ, ◌≡◌, length}
use mathlib.Core.List.{List, ◌∷◌, ◌++◌, Memᴰ}
use Rattle.gtfs_stop_time.specs.StopTime.{StopTime}

-- no call that was read before `call` has the id, and the number is how many different ids these have;
-- `id_of` is a call's trip or its stop, and `ids` all of them; calls are given the last one first
pub record FirstAppears (id_of : StopTime → List ℕ) (ids : List StopTime → List (List ℕ)) (calls : List StopTime) (id : List ℕ) (number : ℕ) : Type 0 where
  pub later : List StopTime
  pub call : StopTime
  pub earlier : List StopTime
  pub read : calls ≡ later ++ (call ∷ earlier)
  pub own : id_of call ≡ id
  pub none_earlier : (other : StopTime) → Memᴰ other earlier → id_of other ≡ id → ⊥
  pub counted : number ≡ length (ids earlier)
