-- Where four bytes can be read, the table's row for the first byte and the bytes after it tell a character's length.
-- Assumes nothing.
use Prim.Native.Nat.{ℕ, zero, suc, ◌+◌, ◌≤◌, ◌<◌}
use mathlib.Core.Path.{◌≡◌, refl, sym, ap, subst}
use mathlib.Core.Bool.{Bool, true, false}
use Rattle.std.specs.Bool.{then_some}
use mathlib.Core.List.{List}
use native.Mathlib.Nat.{add-zero}
use native.Mathlib.Omega.{arith}
use lib.ListN.{length, get_or, drop}
use Rattle.text_characters.specs.declared.Lead.{Lead}
use Rattle.text_characters.specs.Lead.{row, lead_of, Among, Asked, CharacterAt, WideAt, BegunAt}
use Rattle.text_scalars.specs.Utf8Read.{char_len, Along}
use Rattle.text_characters.proofs.LeadLaws.{all_begun, row_is, lead_high}
use Rattle.text_characters.proofs.BegunLaws.{begun_1}
use Rattle.text_scalars.proofs.ReadLaws.{valid_step}

-- the second byte is as the row asks
pub asked : (a n low high b : ℕ) → row n low high ≡ lead_of a → Among low high b → Asked a n b
asked a n low high b e m = (ap (λ (l : Lead). l.0) (sym e), subst (λ (l : Lead). Among l.1 l.2 b) e m)

-- all its bytes are beyond ASCII
pub wide_high : (s : List ℕ) (i n k : ℕ) → CharacterAt s i n → k < n → 0x80 ≤ get_or s (i + k) 0
wide_high s i n zero w h = rw add-zero (lead_high (get_or s i 0) (omega (arith, w.some, w.asked.0))).0
wide_high s i n (suc zero) w h =
    omega (arith, w.asked.1, lead_high (get_or s i 0) (omega (arith, w.some, w.asked.0)))
wide_high s i n (suc (suc zero)) w h = (w.third (omega arith)).0
wide_high s i n (suc (suc (suc zero))) w h = (w.fourth (omega arith)).0
wide_high s i n (suc (suc (suc (suc k)))) w h = absurd (omega (arith, w.some))

-- a character of n bytes that was found may be answered
pub wide_found : (s : List ℕ) (i n : ℕ) (found : Bool) → i + n ≤ length s → (found ≡ true → CharacterAt s i n)
    → WideAt s i (then_some found n)
wide_found s i n true fits is = (fits, is refl)
wide_found s i n false fits is = tt

module _ (s : List ℕ) (start i : ℕ) where
  abbrev a : ℕ
  a = get_or s i 0

  -- where whole characters stand up to i, and one of n bytes at i, they stand up to i + n
  on : (n : ℕ) → 0 < n → i + n ≤ length s → (lead_of a).0 ≡ n → BegunAt s i (lead_of a) n → Along s start i → Along s start (i + n)
  on n p h e begun along =
      let here : (lead_of a).0 ≡ char_len (drop i s) = all_begun s i (lead_of a) refl n begun (omega arith) in
      let step = valid_step s i n p (omega arith) in
      (omega arith, omega arith, omega (arith, along, step))

  one_byte_lem : a < 0x80 → (lead_of a).0 ≡ 1
  unfolding lead_of
  one_byte_lem l = ap (λ (x : Lead). x.0) (sym (row_is (row 1 0 0) 0 0x80 tt a (omega arith) l))

  pub along_ascii : i < length s → a < 0x80 → Along s start i → Along s start (i + 1)
  along_ascii h l along =
      let one = one_byte_lem l in
      on 1 (omega arith) (omega arith) one (begun_1 (omega arith) (λ k m n. omega arith)) along

  pub along_whole : (n : ℕ) → i + n ≤ length s → CharacterAt s i n → Along s start i → Along s start (i + n)
  along_whole n h w along =
      let few = w.some in
      let len = w.asked.0 in
      on n (omega arith) (omega arith) len (record {
        some = omega arith;
        second = λ k. (omega arith, w.asked.1);
        third = λ k. (omega arith, w.third k);
        fourth = λ k. (omega arith, w.fourth k);
        not_second = λ e. absurd (omega arith);
        not_third = λ e k. absurd (omega arith);
        not_fourth = λ e k. absurd (omega arith);
      }) along
