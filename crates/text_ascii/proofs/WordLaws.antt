-- Eight bytes as one number, or four: where none of their high bits is on in it, all of them are ASCII. And two such words
-- that reach from one end of a list to the other.
-- Assumes nothing.
use Prim.Native.Nat.{ℕ, zero, suc, ◌+◌, ◌-◌, ◌*◌, ◌^◌, ◌%◌, ◌≤◌, ◌<◌}
use mathlib.Core.Path.{◌≡◌, refl, sym, ap, ◌∙◌}
use mathlib.Core.Bool.{Bool, true, false, cond}
use mathlib.Core.List.{List, [], ◌∷◌}
use native.Mathlib.Nat.{le-mul_of_pos_right, mod-eq_of_lt, zero-add}
use native.Mathlib.Omega.{arith}
use borrow.Author.Tests.{eq-eqb, ltb-true, lt-ltb}
use lib.Bits.{bit_and, bit_or, and_block, or_shifted_r}
use lib.Dec.{eqb, ltb}
use lib.ListN.{length, get_or, drop}
use lib.Pow.{pow_pos}
use lib.Seq.{drop-drop}
use Rattle.text_classes.specs.Runs.{run}
use Rattle.text_classes.proofs.ByteTable.{classes_agree}
use Rattle.text_classes.proofs.RunLaws.{Block, block_start, block_step, block_end, run_end}
use Rattle.text_ascii.specs.Words.{four_at}
use Rattle.text_scalars.specs.Utf8Read.{ascii}

-- ---- two parts, the lower of k bits

-- the bits of both joined, where a number below n has room for them
pub joined : (k n a b : ℕ) → a < 2 ^ k → b * 2 ^ k < n → bit_or a ((b * 2 ^ k) % n) ≡ b * 2 ^ k + a
joined k n a b ha hb = ap (λ (x : ℕ). bit_or a x) (mod-eq_of_lt hb) ∙ or_shifted_r b k a ha

-- where both together have no bit of a mask, neither has one
off : (k a b r s : ℕ) → r < 2 ^ k → s < 2 ^ k → bit_and (a * 2 ^ k + r) (b * 2 ^ k + s) ≡ 0 → (bit_and a b ≡ 0) × (bit_and r s ≡ 0)
off k a b r s hr hs e =
    let sum = sym (and_block k a b r s hr hs) ∙ e in
    (omega (arith, sum, le-mul_of_pos_right (bit_and a b) (pow_pos k)), omega (arith, sum))

-- ---- the high bits

high_off : (b : ℕ) → b < 256 → bit_and b 0x80 ≡ 0 → b < 0x80
high_off b h e =
    let same = classes_agree (λ n. eqb (bit_and n 0x80) 0) (λ n. ltb n 0x80) 0 256 tt b (omega arith) h in
    ltb-true _ _ (sym same ∙ eq-eqb _ _ e)

-- of a pair
pair_off : (a b : ℕ) → a < 256 → b < 256 → bit_and (b * 2 ^ 8 + a) 0x8080 ≡ 0 → (a < 0x80) × (b < 0x80)
pair_off a b ha hb e =
    let each = off 8 b 0x80 a 0x80 ha (omega arith) e in
    (high_off a ha each.1, high_off b hb each.0)

-- of four pairs, as the code joins them
abbrev top : ℕ
top = 0x10000000000000000

abbrev pub word_of : ℕ → ℕ → ℕ → ℕ → ℕ
word_of p q r s = bit_or (bit_or p ((q * 2 ^ 16) % top)) ((bit_or r ((s * 2 ^ 16) % top) * 2 ^ 32) % top)

module _ (p q r s : ℕ) (hp : p < 0x10000) (hq : q < 0x10000) (hr : r < 0x10000) (hs : s < 0x10000) where
  lower : bit_or p ((q * 2 ^ 16) % top) ≡ q * 2 ^ 16 + p
  lower = joined 16 top p q hp (omega arith)

  upper : bit_or r ((s * 2 ^ 16) % top) ≡ s * 2 ^ 16 + r
  upper = joined 16 top r s hr (omega arith)

  word_is : word_of p q r s ≡ (s * 2 ^ 16 + r) * 2 ^ 32 + (q * 2 ^ 16 + p)
  word_is = rw (lower, upper) (joined 32 top (q * 2 ^ 16 + p) (s * 2 ^ 16 + r) (omega arith) (omega arith))

  word_off : bit_and (word_of p q r s) 0x8080808080808080 ≡ 0
      → (bit_and p 0x8080 ≡ 0) × (bit_and q 0x8080 ≡ 0) × (bit_and r 0x8080 ≡ 0) × (bit_and s 0x8080 ≡ 0)
  word_off e =
      let both = off 32 (s * 2 ^ 16 + r) 0x80808080 (q * 2 ^ 16 + p) 0x80808080 (omega arith) (omega arith) (rw word_is at e) in
      let low = off 16 q 0x8080 p 0x8080 hp (omega arith) both.1 in
      let high = off 16 s 0x8080 r 0x8080 hr (omega arith) both.0 in
      (low.1, low.0, high.1, high.0)

-- ---- n bytes from i on

module _ (s : List ℕ) (i n : ℕ) (h : i + n ≤ length s) (byte : (k : ℕ) → get_or s k 0 < 256) where
  one : (j : ℕ) → j < n → get_or s (i + j) 0 < 0x80 → Block ascii s i j → Block ascii s i (j + 1)
  one j l b passed = block_step ascii s i j (omega arith) (lt-ltb _ _ b) passed

  -- where j bytes passed, the pair after them, at the places x and y
  two : (j x y : ℕ) → j + 1 < n → x ≡ i + j → y ≡ i + (j + 1) → bit_and (get_or s y 0 * 2 ^ 8 + get_or s x 0) 0x8080 ≡ 0
      → Block ascii s i j → Block ascii s i (j + 2)
  two j x y l ex ey e passed =
      let each = pair_off (get_or s x 0) (get_or s y 0) (byte x) (byte y) e in
      let first = one j (omega arith) (rw ex at each.0) passed in
      block_end ascii s i (j + 1 + 1) (j + 2) (omega arith) (one (j + 1) (omega arith) (rw ey at each.1) first)

-- eight of them
module _ (s : List ℕ) (i : ℕ) (h : i + 8 ≤ length s) (byte : (k : ℕ) → get_or s k 0 < 256) where
  pub word_ascii : (p q r t : ℕ) → p ≡ get_or s (i + 1) 0 * 2 ^ 8 + get_or s i 0 → q ≡ get_or s (i + 3) 0 * 2 ^ 8 + get_or s (i + 2) 0
      → r ≡ get_or s (i + 5) 0 * 2 ^ 8 + get_or s (i + 4) 0 → t ≡ get_or s (i + 7) 0 * 2 ^ 8 + get_or s (i + 6) 0
      → bit_and (word_of p q r t) 0x8080808080808080 ≡ 0 → Block ascii s i 8
  word_ascii p q r t ep eq er et e =
      let each = word_off p q r t (small _ _ p ep) (small _ _ q eq) (small _ _ r er) (small _ _ t et) e in
      two s i 8 h byte 6 (i + 6) (i + 7) (omega arith) (omega arith) (omega arith) (rw et at each.3)
      (two s i 8 h byte 4 (i + 4) (i + 5) (omega arith) (omega arith) (omega arith) (rw er at each.2)
      (two s i 8 h byte 2 (i + 2) (i + 3) (omega arith) (omega arith) (omega arith) (rw eq at each.1)
      (two s i 8 h byte 0 i (i + 1) (omega arith) (omega arith) (omega arith) (rw ep at each.0) (block_start ascii s i))))
    where
      small : (x y z : ℕ) → z ≡ get_or s y 0 * 2 ^ 8 + get_or s x 0 → z < 0x10000
      small x y z is = omega (arith, byte x, byte y)

-- four
module _ (s : List ℕ) (i : ℕ) (h : i + 4 ≤ length s) (byte : (k : ℕ) → get_or s k 0 < 256) where
  pub four_ascii : (w : ℕ) → w ≡ four_at s i → bit_and w 0x80808080 ≡ 0 → Block ascii s i 4
  four_ascii w is e =
      let front : get_or s (i + 1) 0 * 2 ^ 8 + get_or s i 0 < 0x10000 = omega (arith, byte i, byte (i + 1)) in
      let each = off 16 (get_or s (i + 3) 0 * 2 ^ 8 + get_or s (i + 2) 0) 0x8080 _ 0x8080 front (omega arith) (rw is at e) in
      two s i 4 h byte 2 (i + 2) (i + 3) (omega arith) (omega arith) (omega arith) each.0
      (two s i 4 h byte 0 i (i + 1) (omega arith) (omega arith) (omega arith) each.1 (block_start ascii s i))

-- ---- two blocks of n, one at the front and one at the end

-- a run goes on after each part of it
run_on : (p : ℕ → Bool) (k : ℕ) (s : List ℕ) → k ≤ run p s → run p s ≡ k + run p (drop k s)
unfolding run
run_on p zero s h = omega arith
run_on p (suc k) [] h = absurd (omega arith)
run_on p (suc k) (b ∷ s) h = go (p b) refl (run_on p k s)
  where
    go : (t : Bool) → p b ≡ t → (k ≤ run p s → run p s ≡ k + run p (drop k s)) → cond (p b) (suc (run p s)) 0 ≡ suc k + run p (drop k s)
    go true e more = rw e (omega (arith, more (omega (arith, rw e at h))))
    go false e more = absurd (omega (arith, rw e at h))

-- where they meet or overlap, the run is the whole
pub whole_run : (p : ℕ → Bool) (s : List ℕ) (n last : ℕ) → last + n ≡ length s → last ≤ n → Block p s 0 n → Block p s last n
    → run p s ≡ length s
whole_run p s n last e l front back =
    let k = n - last in
    let end : run p (drop last s) ≡ n = omega (arith, back, run_end p s (last + n) (omega arith)) in
    let on = run_on p k (drop last s) (omega arith) in
    let place : last + k ≡ n = omega arith in
    let rest : run p (drop last s) ≡ k + run p (drop n s) = rw (drop-drop k last s, place) at on in
    omega (arith, rw zero-add at front, end, rest)
