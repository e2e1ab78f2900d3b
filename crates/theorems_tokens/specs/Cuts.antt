-- A place at which no character is cut: the end, or right before or after an ASCII byte. `clean_cut` in proofs/Lexing.antt
-- proves that cutting UTF-8 there leaves UTF-8 on both sides.
-- Assumes nothing.
use Rattle.std.specs.Prelude.{ℕ, suc, ◌<◌, List, [], ◌∷◌}

pub data Clean : List ℕ → ℕ → Type 0 where
  at_end : Clean [] 0
  before : {b : ℕ} {s : List ℕ} → b < 0x80 → Clean (b ∷ s) 0
  after : {b : ℕ} {s : List ℕ} → b < 0x80 → Clean (b ∷ s) 1
  further : {b n : ℕ} {s : List ℕ} → Clean s n → Clean (b ∷ s) (suc n)
