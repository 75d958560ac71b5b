-- A line that is read with more kept beside is read alike. Assumes nothing.
use Prim.Native.Nat.{ℕ, suc}
use mathlib.Core.List.{List, [], ◌∷◌}
use mathlib.Core.Path.{◌≡◌, ap, ◌∙◌}
use Rattle.std.specs.Prelude.{Some}
use Rattle.gtfs_lines.specs.declared.Span.{Span}
use Rattle.gtfs_lines.specs.Cut.{last_end, read_from}

module _ {K L R : Type 0} (told : K → ℕ → R) (keep : ℕ → Span → K → K) (keep' : ℕ → Span → L → L) (along : L → K)
    (same : (column : ℕ) (span : Span) (kept : L) → keep column span (along kept) ≡ along (keep' column span kept)) (text : List ℕ) where
  pub read_along : (column from at : ℕ) (kept : L) (rest : List ℕ)
      → read_from told keep text column from at (along kept) rest ≡ read_from (λ l n. told (along l) n) keep' text column from at kept rest
  unfolding read_from
  read_along column from at kept [] = ap (λ k. Some (told k at)) (same column (record { from = from; to = at }) kept)
  read_along column from at kept (byte ∷ rest) =
      let ends = ap (λ k. Some (told k (suc at))) (same column (record { from = from; to = last_end text from at }) kept) in
      let span : Span = record { from = from; to = at } in
      let next = ap (λ k. read_from told keep text (suc column) (suc at) (suc at) k rest) (same column span kept)
      ∙ read_along (suc column) (suc at) (suc at) (keep' column span kept) rest
      in
      let on = read_along column from (suc at) kept rest in
      rw (ends, next, on)
