-- An id packed into two numbers of 64 bits and its length.
use Rattle.std.specs.Prelude.{ℕ, ◌+◌, ◌*◌, ◌%◌, Bool, ◌&&◌, List, [], ◌∷◌, eqb, length, take, drop}
use Rattle.gtfs_ids.specs.declared.Key.{Key}

-- bytes as one number, behind bytes that were worth `before`: the first counts most
unfoldable pub packed_behind : (before : ℕ) → List ℕ → ℕ
packed_behind before [] = before
packed_behind before (byte ∷ rest) = packed_behind (256 * before + byte) rest

unfoldable pub packed : List ℕ → ℕ
packed bytes = packed_behind 0 bytes

-- the first eight bytes, the others, and how many there are: an id and the same with a zero byte ahead pack alike
unfoldable pub key_of : List ℕ → Key
key_of id = record { front = packed (take 8 id); back = packed (drop 8 id); size = length id }

unfoldable pub same_key : Key → Key → Bool
same_key a b = eqb a.front b.front && eqb a.back b.back && eqb a.size b.size

-- keys are looked for among those of their bucket
abbrev pub buckets : ℕ
buckets = 1021

unfoldable pub bucket_of : Key → ℕ
bucket_of key = (256 * (key.front % buckets) + key.back % buckets) % buckets
