-- What going over a comment keeps, and that its text is UTF-8 where whole characters stand up to its end.
-- Assumes nothing.
use Rattle.std.proofs.Common.{◌≡◌, ℕ, zero, suc, Some, ◌+◌, ◌-◌, ◌%◌, ◌^◌, ◌<◌, ◌≤◌, Bool, true, false, ltb, leb, List, [], ◌∷◌, length, get_or, take, drop, refl, ap, ◌∙◌, inl, inr, add-zero, arith, length-drop, length-take-le, get_or-drop, get_or-take, take-take, drop-drop, ltb-true, lt-ltb, ne_eqb, le-leb, leb-true}
use native.Mathlib.Decide.{dec_lt}
use lib.ListN.{get_or-eq_default}
use Rattle.text_classes.specs.Runs.{run}
use Rattle.text_classes.proofs.Conds.{both_left, both_right, not_both}
use Rattle.text_classes.proofs.ByteTable.{classes_agree}
use Rattle.text_classes.proofs.RunLaws.{SameEnd, run_le, run_step, run_stop, run_halts, same_end_start, same_end_byte}
use Rattle.text_scalars.specs.Utf8.{Utf8}
use Rattle.text_scalars.specs.Utf8Read.{Along, valid_prefix}
use Rattle.text_scalars.proofs.ReadLaws.{valid_is, valid_le}
use Rattle.text_scalars.proofs.CutLaws.{cut_at}
use Rattle.text_characters.specs.Lead.{row, lead_of, Among, Character, CharacterAt, WideAt}
use Rattle.text_characters.proofs.LeadLaws.{row_is}
use Rattle.text_characters.proofs.CharLaws.{asked, along_ascii, along_whole, wide_high}
use Rattle.lexer_scans.specs.Extents.{in_comment}
use Rattle.lexer_comments.specs.Fronts.{own_byte, Fronted}

-- ---- bytes

pub own_of : (b : ℕ) → 0x0E ≤ b → b < 0x80 → own_byte b ≡ true
own_of b l h = rw (le-leb 0x0E b l, lt-ltb b 0x80 h)

own_low : (b : ℕ) → own_byte b ≡ true → b < 0x80
own_low b e = ltb-true b 0x80 (both_right (leb 0x0E b) (ltb b 0x80) e)

on_from : (b : ℕ) → 0x0E ≤ b → in_comment b ≡ true
on_from b h = rw (ne_eqb b 0x0D (λ e. omega arith), ne_eqb b 0x0A (λ e. omega arith))

own_on : (b : ℕ) → own_byte b ≡ true → in_comment b ≡ true
own_on b e = on_from b (leb-true 0x0E b (both_left (leb 0x0E b) (ltb b 0x80) e))

-- the sum by which it is told
pub own_sum : (b sum : ℕ) → b < 2 ^ 8 → sum ≡ (b + 0x80) % 2 ^ 8 → leb 0x8E sum ≡ own_byte b
own_sum b sum byte is = ap (leb 0x8E) is ∙ classes_agree (λ n. leb 0x8E ((n + 0x80) % 2 ^ 8)) own_byte 0 256 tt b (omega arith) byte

-- ---- going over it

module _ (doc : List ℕ) (start : ℕ) where
  pub front_start : start ≤ length doc → Fronted doc start start
  front_start h = record { along = (omega arith, h, refl); same = same_end_start in_comment doc start h }

  -- over one own byte, and over two
  pub own_one : (i : ℕ) → i < length doc → own_byte (get_or doc i 0) ≡ true → Fronted doc start i → Fronted doc start (i + 1)
  own_one i h own to =
      record {
        along = along_ascii doc start i h (own_low (get_or doc i 0) own) to.along;
        same = same_end_byte in_comment doc start i h (own_on (get_or doc i 0) own) to.same;
      }

  pub own_two : (i : ℕ) → i + 1 < length doc → own_byte (get_or doc i 0) ≡ true → own_byte (get_or doc (i + 1) 0) ≡ true
      → Fronted doc start i → Fronted doc start (i + 2)
  own_two i h one two to =
      let next : i + 1 + 1 ≡ i + 2 = omega arith in
      rw next at (own_one (i + 1) h two (own_one i (omega arith) one to))

  -- over n own bytes
  own_over : (n i : ℕ) → n ≤ run own_byte (drop i doc) → Fronted doc start i → Fronted doc start (i + n)
  own_over zero i h to = rw add-zero to
  own_over (suc n) i h to = go (own_byte (get_or doc i 0)) refl (own_over n (i + 1))
    where
      here : i < length doc
      here = omega (arith, run_le own_byte (drop i doc), length-drop i doc)

      go : (x : Bool) → own_byte (get_or doc i 0) ≡ x
          → (n ≤ run own_byte (drop (i + 1) doc) → Fronted doc start (i + 1) → Fronted doc start (i + 1 + n)) → Fronted doc start (i + suc n)
      go true first more =
          let place : i + suc n ≡ i + 1 + n = omega arith in
          rw place (more (omega (arith, run_step own_byte doc i here first)) (own_one i here first to))
      go false first more = absurd (omega (arith, run_stop own_byte doc i here first))

  pub own_on_to : (i r : ℕ) → i ≤ r → r + run own_byte (drop r doc) ≡ i + run own_byte (drop i doc) → Fronted doc start i → Fronted doc start r
  own_on_to i r h e to =
      let place : i + (r - i) ≡ r = omega arith in
      rw place at (own_over (r - i) i (omega arith) to)

  -- over n bytes that a comment goes on with
  same_over : (n i : ℕ) → i + n ≤ length doc → ((k : ℕ) → k < n → in_comment (get_or doc (i + k) 0) ≡ true)
      → SameEnd (run in_comment) doc start i → SameEnd (run in_comment) doc start (i + n)
  same_over zero i h each same = rw add-zero same
  same_over (suc n) i h each same =
      let place : i + suc n ≡ i + 1 + n = omega arith in
      let first = rw add-zero at (each 0 (omega arith)) in
      rw place (same_over n (i + 1) (omega arith)
      (λ k l. let next : i + suc k ≡ i + 1 + k = omega arith in rw next at (each (suc k) (omega arith)))
      (same_end_byte in_comment doc start i (omega arith) first same))

  -- over a character beyond ASCII
  pub wide_over : (i n : ℕ) → WideAt doc i (Some n) → Fronted doc start i → Fronted doc start (i + n)
  wide_over i n wide to =
      let fits = wide.0 in
      let char = wide.1 in
      record {
        along = along_whole doc start i n fits char to.along;
        same = same_over n i fits (λ k h. on_from (get_or doc (i + k) 0) (omega (arith, wide_high doc i n k char h))) to.same;
      }

  -- over two of two bytes
  pub twos_over : (i : ℕ) → i + 4 ≤ length doc → CharacterAt doc i 2 → CharacterAt doc (i + 2) 2 → Fronted doc start i → Fronted doc start (i + 4)
  twos_over i h one two to =
      let next : i + 2 + 2 ≡ i + 4 = omega arith in
      rw next at (wide_over (i + 2) 2 (omega arith, two) (wide_over i 2 (omega arith, one) to))

-- ---- a character of two bytes, told by their ranges

pub two_there : (a b : ℕ) → Among 0xC2 0xDF a → Among 0x80 0xBF b → (c d : ℕ) → Character a b c d 2
unfolding lead_of
two_there a b first second c d =
    record {
      some = omega arith;
      asked = asked a 2 0x80 0xBF b (row_is (row 2 0x80 0xBF) 0xC2 30 tt a first.0 (omega arith)) second;
      third = λ k. absurd (omega arith);
      fourth = λ k. absurd (omega arith);
    }

-- ---- its end

-- a run ends where it ends
behind : (p : ℕ → Bool) (l : List ℕ) → run p (drop (run p l) l) ≡ 0
unfolding run
behind p [] = refl
behind p (b ∷ l) = go (p b) refl (behind p l)
  where
    go : (x : Bool) → p b ≡ x → run p (drop (run p l) l) ≡ 0 → run p (drop (run p (b ∷ l)) (b ∷ l)) ≡ 0
    go true e rest = rw e rest
    go false e rest = rw (e, e)

pub run_behind : (p : ℕ → Bool) (s : List ℕ) (i : ℕ) → run p (drop (i + run p (drop i s)) s) ≡ 0
run_behind p s i = rw (← drop-drop (run p (drop i s)) i s) (behind p (drop i s))

pub cr_ends : (doc : List ℕ) (i : ℕ) → get_or doc i 0 ≡ 0x0D → run in_comment (drop i doc) ≡ 0
cr_ends doc i e = run_halts in_comment doc i (rw e)

pub lf_ends : (doc : List ℕ) (i : ℕ) → get_or doc i 0 ≡ 0x0A → run in_comment (drop i doc) ≡ 0
lf_ends doc i e = run_halts in_comment doc i (rw e)

eol_low : (b : ℕ) → in_comment b ≡ false → b < 0x80
eol_low b e = go (dec_lt b 0x0E)
  where
    go : Dec (b < 0x0E) → b < 0x80
    go (yes h) = omega arith
    go (no h) = not_both (on_from b (omega arith)) e

-- where a comment ends, ASCII stands, or nothing
pub end_low : (doc : List ℕ) (i : ℕ) → run in_comment (drop i doc) ≡ 0 → get_or doc i 0 < 0x80
end_low doc i e = go (dec_lt i (length doc)) (in_comment (get_or doc i 0)) refl
  where
    go : Dec (i < length doc) → (x : Bool) → in_comment (get_or doc i 0) ≡ x → get_or doc i 0 < 0x80
    go (yes h) true f = absurd (omega (arith, run_step in_comment doc i h f))
    go (yes h) false f = eol_low (get_or doc i 0) f
    go (no h) x f = omega (arith, get_or-eq_default doc 0 {n = i} (omega arith))

-- ---- its text

-- whole characters up to a place at which ASCII stands are UTF-8
pub along_cut : (s : List ℕ) (a r : ℕ) → Along s a r → get_or s r 0 < 0x80 → Utf8 (take (r - a) (drop a s))
along_cut s a r along low = go (dec_lt n p)
  where
    t : List ℕ
    t = drop a s

    n : ℕ
    n = r - a

    p : ℕ
    p = valid_prefix t

    same : p ≡ n + valid_prefix (drop r s)
    same = omega (arith, along)

    go : Dec (n < p) → Utf8 (take n t)
    go (yes h) =
        let long : length (take p t) ≡ p = length-take-le p t (valid_le t) in
        let place : a + n ≡ r = omega (arith, along) in
        let byte : get_or (take p t) n 0 ≡ get_or s r 0 = get_or-take p t n 0 h ∙ get_or-drop a s n 0 ∙ ap (λ (k : ℕ). get_or s k 0) place in
        rw (take-take n p t (omega arith)) at (cut_at (take p t) n (valid_is t) (inr (omega arith, inl (omega arith)))).0
    go (no h) = let all : n ≡ p = omega arith in rw all (valid_is t)
