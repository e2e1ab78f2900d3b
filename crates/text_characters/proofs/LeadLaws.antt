-- The table of first bytes is right: a character of n bytes stands where they pass the table, and only there.
-- Assumes nothing.
use Prim.Native.Nat.{ℕ, zero, suc, ◌+◌, ◌*◌, ◌/◌, ◌%◌, ◌-◌, ◌≤◌, ◌<◌}
use mathlib.Core.Path.{◌≡◌, refl, sym, ap, ◌∙◌, subst}
use mathlib.Core.Logic.{inl, inr}
use mathlib.Core.List.{List, [], ◌∷◌, ◌++◌}
use mathlib.Core.Bool.{Bool, ◌&&◌}
use native.Mathlib.Omega.{arith}
use native.Mathlib.Decide.{dec_lt}
use native.Mathlib.Nat.{add-zero}
use lib.ListN.{length, get_or, drop, length-drop}
use lib.Seq.{get_or-drop}
use lib.Dec.{T, eqb, eqb→eq}
use Rattle.text_characters.specs.declared.Lead.{Lead}
use Rattle.text_scalars.specs.Utf8.{Scalar, encode_scalar}
use Rattle.text_scalars.specs.Utf8Read.{guess, char_len}
use Rattle.text_characters.specs.Lead.{row, lead_of, Among, BegunAt}
use Rattle.text_classes.proofs.Conds.{by_lt}
use Rattle.text_classes.proofs.ByteTable.{all_from, at_each, and_left, and_right}
use Rattle.text_scalars.proofs.EncodeLaws.{Size, one, two, low, high, four, size, encode_1, encode_2, encode_3, encode_4}
use Rattle.text_scalars.proofs.ReadLaws.{char_length, char_sound}

-- ---- the table, row by row

abbrev same_lead : Lead → Lead → Bool
same_lead l m = eqb l.0 m.0 && (eqb l.1 m.1 && eqb l.2 m.2)

lead_ext : (l m : Lead) → l.0 ≡ m.0 → l.1 ≡ m.1 → l.2 ≡ m.2 → l ≡ m
lead_ext l m e f g = rw (e, f, g)

same_lead_lem : (l m : Lead) → T (same_lead l m) → l ≡ m
same_lead_lem l m t =
    let u = and_right (eqb l.0 m.0) (eqb l.1 m.1 && eqb l.2 m.2) t in
    lead_ext l m
    (eqb→eq _ _ (and_left (eqb l.0 m.0) (eqb l.1 m.1 && eqb l.2 m.2) t))
    (eqb→eq _ _ (and_left (eqb l.1 m.1) (eqb l.2 m.2) u))
    (eqb→eq _ _ (and_right (eqb l.1 m.1) (eqb l.2 m.2) u))

-- two tables agree at each of the n bytes from a on
pub leads_agree : (f g : ℕ → Lead) (a n : ℕ) → T (all_from (λ b. same_lead (f b) (g b)) a n)
    → (b : ℕ) → a ≤ b → b < a + n → f b ≡ g b
leads_agree f g a n t b h k = same_lead_lem (f b) (g b) (at_each (λ b. same_lead (f b) (g b)) a n t b h k)

-- all of the n bytes from a on have the row l
pub row_is : (l : Lead) (a n : ℕ) → T (all_from (λ b. same_lead l (lead_of b)) a n) → (b : ℕ) → a ≤ b → b < a + n → l ≡ lead_of b
row_is l = leads_agree (λ b. l) lead_of

data Row (a : ℕ) : Lead → Type 0 where
  r00 : a < 0x80 → Row a (row 1 0 0)
  r80 : 0x80 ≤ a → a < 0xC2 → Row a (row 0 0 0)
  rc2 : 0xC2 ≤ a → a < 0xE0 → Row a (row 2 0x80 0xBF)
  re0 : 0xE0 ≤ a → a < 0xE1 → Row a (row 3 0xA0 0xBF)
  re1 : 0xE1 ≤ a → a < 0xED → Row a (row 3 0x80 0xBF)
  red : 0xED ≤ a → a < 0xEE → Row a (row 3 0x80 0x9F)
  ree : 0xEE ≤ a → a < 0xF0 → Row a (row 3 0x80 0xBF)
  rf0 : 0xF0 ≤ a → a < 0xF1 → Row a (row 4 0x90 0xBF)
  rf1 : 0xF1 ≤ a → a < 0xF4 → Row a (row 4 0x80 0xBF)
  rf4 : 0xF4 ≤ a → a < 0xF5 → Row a (row 4 0x80 0x8F)
  rf5 : 0xF5 ≤ a → Row a (row 0 0 0)

rows : (a : ℕ) → Row a (lead_of a)
unfolding lead_of
rows a =
    by_lt (Row a) a 0x80 (λ h. r00 h)
    λ l. by_lt (Row a) a 0xC2 (λ h. r80 l h)
    λ l. by_lt (Row a) a 0xE0 (λ h. rc2 l h)
    λ l. by_lt (Row a) a 0xE1 (λ h. re0 l h)
    λ l. by_lt (Row a) a 0xED (λ h. re1 l h)
    λ l. by_lt (Row a) a 0xEE (λ h. red l h)
    λ l. by_lt (Row a) a 0xF0 (λ h. ree l h)
    λ l. by_lt (Row a) a 0xF1 (λ h. rf0 l h)
    λ l. by_lt (Row a) a 0xF4 (λ h. rf1 l h)
    λ l. by_lt (Row a) a 0xF5 (λ h. rf4 l h) (λ l. rf5 l)

row_fits : {a : ℕ} {l : Lead} → Row a l → (l.0 ≤ 4) × (l.1 ≤ l.2)
row_fits (r00 h) = omega arith
row_fits (r80 l h) = omega arith
row_fits (rc2 l h) = omega arith
row_fits (re0 l h) = omega arith
row_fits (re1 l h) = omega arith
row_fits (red l h) = omega arith
row_fits (ree l h) = omega arith
row_fits (rf0 l h) = omega arith
row_fits (rf1 l h) = omega arith
row_fits (rf4 l h) = omega arith
row_fits (rf5 l) = omega arith

pub lead_fits : (a : ℕ) → ((lead_of a).0 ≤ 4) × ((lead_of a).1 ≤ (lead_of a).2)
lead_fits a = row_fits (rows a)

-- beyond one byte all are 80 or above
row_high : {a : ℕ} {l : Lead} → Row a l → 2 ≤ l.0 → (0x80 ≤ a) × (0x80 ≤ l.1)
row_high (r00 h) p = absurd (omega arith)
row_high (r80 l h) p = absurd (omega arith)
row_high (rc2 l h) p = omega arith
row_high (re0 l h) p = omega arith
row_high (re1 l h) p = omega arith
row_high (red l h) p = omega arith
row_high (ree l h) p = omega arith
row_high (rf0 l h) p = omega arith
row_high (rf1 l h) p = omega arith
row_high (rf4 l h) p = omega arith
row_high (rf5 l) p = absurd (omega arith)

pub lead_high : (a : ℕ) → 2 ≤ (lead_of a).0 → (0x80 ≤ a) × (0x80 ≤ (lead_of a).1)
lead_high a = row_high (rows a)

-- ---- what the table asks of a character of n bytes: `left` bytes are there, and b, c, d are the second to the fourth

pub record LeadSeen (l : Lead) (left b c d n : ℕ) : Type 0 where
  pub len : l.0 ≡ n
  pub fits : n ≤ left
  pub second : 2 ≤ n → Among l.1 l.2 b
  pub third : 3 ≤ n → Among 0x80 0xBF c
  pub fourth : 4 ≤ n → Among 0x80 0xBF d

abbrev pub SeenIn : List ℕ → ℕ → Type 0
SeenIn x n = LeadSeen (lead_of (get_or x 0 0)) (length x) (get_or x 1 0) (get_or x 2 0) (get_or x 3 0) n

-- ---- each encoding passes

module _ (v : ℕ) (t : List ℕ) where
  pub encode_seen : Size v → SeenIn (encode_scalar v ++ t) (length (encode_scalar v))
  unfolding lead_of
  encode_seen (one h) = rw (encode_1 v h, ← row_is (row 1 0 0) 0 0x80 tt v (omega arith) h) (omega arith)
  encode_seen (two l h) =
      rw (encode_2 v l h, ← row_is (row 2 0x80 0xBF) 0xC2 30 tt (0xC0 + v / 64) (omega arith) (omega arith)) (omega arith)
  encode_seen (low l h) =
      rw (encode_3 v l (omega arith)) (elim (dec_lt v 0x1000) [
        | yes p ↦ rw (← row_is (row 3 0xA0 0xBF) 0xE0 1 tt (0xE0 + v / 4096) (omega arith) (omega arith)) (omega arith)
        | no p ↦ elim (dec_lt v 0xD000) [
          | yes q ↦ rw (← row_is (row 3 0x80 0xBF) 0xE1 12 tt (0xE0 + v / 4096) (omega arith) (omega arith)) (omega arith)
          | no q ↦ rw (← row_is (row 3 0x80 0x9F) 0xED 1 tt (0xE0 + v / 4096) (omega arith) (omega arith)) (omega arith)
        ]
      ])
  encode_seen (high l h) =
      rw (encode_3 v (omega arith) h)
      (rw (← row_is (row 3 0x80 0xBF) 0xEE 2 tt (0xE0 + v / 4096) (omega arith) (omega arith)) (omega arith))
  encode_seen (four l h) =
      rw (encode_4 v l) (elim (dec_lt v 0x40000) [
        | yes p ↦ rw (← row_is (row 4 0x90 0xBF) 0xF0 1 tt (0xF0 + v / 262144) (omega arith) (omega arith)) (omega arith)
        | no p ↦ elim (dec_lt v 0x100000) [
          | yes q ↦ rw (← row_is (row 4 0x80 0xBF) 0xF1 3 tt (0xF0 + v / 262144) (omega arith) (omega arith)) (omega arith)
          | no q ↦ rw (← row_is (row 4 0x80 0x8F) 0xF4 1 tt (0xF0 + v / 262144) (omega arith) (omega arith)) (omega arith)
        ]
      ])

char_seen : (x : List ℕ) (n : ℕ) → char_len x ≡ suc n → SeenIn x (suc n)
char_seen x n e =
    let h = char_sound x n e in
    subst (λ (y : List ℕ). SeenIn y (suc n)) h.split
    (rw h.size at (encode_seen (guess x) (drop (suc n) x) (size (guess x) h.scalar)))

-- ---- and what passes is an encoding: that of the value in its bit fields

module _ (v : ℕ) (sc : Scalar v) where
  here : (x t : List ℕ) (n : ℕ) → x ≡ encode_scalar v ++ t → length (encode_scalar v) ≡ n → char_len x ≡ n
  here x t n p e = ap char_len p ∙ char_length v sc t ∙ e

  here_1 : (x : List ℕ) → v < 0x80 → 1 ≤ length x → get_or x 0 0 ≡ v → char_len x ≡ 1
  here_1 [] h f e = absurd (omega arith)
  here_1 (a ∷ t) h f e = here (a ∷ t) t 1 (rw (encode_1 v h, e)) (ap length (encode_1 v h))

  here_2 : (x : List ℕ) → 0x80 ≤ v → v < 0x800 → 2 ≤ length x
      → get_or x 0 0 ≡ 0xC0 + v / 64 → get_or x 1 0 ≡ 0x80 + v % 64 → char_len x ≡ 2
  here_2 [] l h f e e1 = absurd (omega arith)
  here_2 (a ∷ []) l h f e e1 = absurd (omega arith)
  here_2 (a ∷ b ∷ t) l h f e e1 = here (a ∷ b ∷ t) t 2 (rw (encode_2 v l h, e, e1)) (ap length (encode_2 v l h))

  here_3 : (x : List ℕ) → 0x800 ≤ v → v < 0x10000 → 3 ≤ length x
      → get_or x 0 0 ≡ 0xE0 + v / 4096 → get_or x 1 0 ≡ 0x80 + v / 64 % 64 → get_or x 2 0 ≡ 0x80 + v % 64 → char_len x ≡ 3
  here_3 [] l h f e e1 e2 = absurd (omega arith)
  here_3 (a ∷ []) l h f e e1 e2 = absurd (omega arith)
  here_3 (a ∷ b ∷ []) l h f e e1 e2 = absurd (omega arith)
  here_3 (a ∷ b ∷ c ∷ t) l h f e e1 e2 =
      here (a ∷ b ∷ c ∷ t) t 3 (rw (encode_3 v l h, e, e1, e2)) (ap length (encode_3 v l h))

  here_4 : (x : List ℕ) → 0x10000 ≤ v → 4 ≤ length x → get_or x 0 0 ≡ 0xF0 + v / 262144 → get_or x 1 0 ≡ 0x80 + v / 4096 % 64
      → get_or x 2 0 ≡ 0x80 + v / 64 % 64 → get_or x 3 0 ≡ 0x80 + v % 64 → char_len x ≡ 4
  here_4 [] l f e e1 e2 e3 = absurd (omega arith)
  here_4 (a ∷ []) l f e e1 e2 e3 = absurd (omega arith)
  here_4 (a ∷ b ∷ []) l f e e1 e2 e3 = absurd (omega arith)
  here_4 (a ∷ b ∷ c ∷ []) l f e e1 e2 e3 = absurd (omega arith)
  here_4 (a ∷ b ∷ c ∷ d ∷ t) l f e e1 e2 e3 =
      here (a ∷ b ∷ c ∷ d ∷ t) t 4 (rw (encode_4 v l, e, e1, e2, e3)) (ap length (encode_4 v l))

abbrev Within : ℕ → Type 0
Within b = Among 0x80 0xBF b

-- the value of two to four bytes, in Horner's form, so that omega sees through it
abbrev val2 : ℕ → ℕ → ℕ
val2 a b = (a - 0xC0) * 64 + (b - 0x80)

abbrev val3 : ℕ → ℕ → ℕ → ℕ
val3 a b c = ((a - 0xE0) * 64 + (b - 0x80)) * 64 + (c - 0x80)

abbrev val4 : ℕ → ℕ → ℕ → ℕ → ℕ
val4 a b c d = (((a - 0xF0) * 64 + (b - 0x80)) * 64 + (c - 0x80)) * 64 + (d - 0x80)

fields_3 : (a b c : ℕ) → 0xE0 ≤ a → Within b → Within c
    → (a ≡ 0xE0 + val3 a b c / 4096) × (b ≡ 0x80 + val3 a b c / 64 % 64) × (c ≡ 0x80 + val3 a b c % 64)
fields_3 a b c h hb hc = omega arith

fields_4 : (a b c d : ℕ) → 0xF0 ≤ a → Within b → Within c → Within d
    → (a ≡ 0xF0 + val4 a b c d / 262144) × (b ≡ 0x80 + val4 a b c d / 4096 % 64)
    × (c ≡ 0x80 + val4 a b c d / 64 % 64) × (d ≡ 0x80 + val4 a b c d % 64)
fields_4 a b c d h hb hc hd = omega arith

module _ (x : List ℕ) (n : ℕ) where
  abbrev byte : ℕ → ℕ
  byte i = get_or x i 0

  abbrev Fits : Lead → Type 0
  Fits l = LeadSeen l (length x) (byte 1) (byte 2) (byte 3) n

  abbrev v2 : ℕ
  v2 = val2 (byte 0) (byte 1)

  abbrev v3 : ℕ
  v3 = val3 (byte 0) (byte 1) (byte 2)

  abbrev v4 : ℕ
  v4 = val4 (byte 0) (byte 1) (byte 2) (byte 3)

  -- a row of three bytes, and of four: where its bytes hold a value of that length, they are its encoding
  three : {l : Lead} → Fits l → (l.0 ≡ 3) × (0xE0 ≤ byte 0) × (byte 0 < 0xF0) × (0x80 ≤ l.1) × (l.2 ≤ 0xBF)
      → (Among l.1 l.2 (byte 1) → Within (byte 2) → Scalar v3 × (0x800 ≤ v3)) → char_len x ≡ n
  three s (len, from, under, least, most) k =
      let hb = s.second (omega arith) in
      let hc = s.third (omega arith) in
      let f = fields_3 (byte 0) (byte 1) (byte 2) from (omega arith) hc in
      let g = k hb hc in
      here_3 v3 g.0 x g.1 (omega arith) (omega arith) f.0 f.1 f.2 ∙ omega arith

  four_bytes : {l : Lead} → Fits l → (l.0 ≡ 4) × (0xF0 ≤ byte 0) × (0x80 ≤ l.1) × (l.2 ≤ 0xBF)
      → (Among l.1 l.2 (byte 1) → Within (byte 2) → Within (byte 3) → (0x10000 ≤ v4) × (v4 < 0x110000)) → char_len x ≡ n
  four_bytes s (len, from, least, most) k =
      let hb = s.second (omega arith) in
      let hc = s.third (omega arith) in
      let hd = s.fourth (omega arith) in
      let f = fields_4 (byte 0) (byte 1) (byte 2) (byte 3) from (omega arith) hc hd in
      let g = k hb hc hd in
      here_4 v4 (inr (omega arith, g.1)) x g.0 (omega arith) f.0 f.1 f.2 f.3 ∙ omega arith

  seen_row : {l : Lead} → 0 < n → Row (byte 0) l → Fits l → char_len x ≡ n
  seen_row p (r00 h) s = here_1 (byte 0) (inl (omega arith)) x h (omega arith) refl ∙ s.len
  seen_row p (r80 l h) s = absurd (omega (arith, s.len))
  seen_row p (rc2 l h) s =
      let hb = s.second (omega arith) in
      here_2 v2 (inl (omega arith)) x (omega arith) (omega arith) (omega arith) (omega arith) (omega arith) ∙ s.len
  seen_row p (re0 l h) s = three s (omega arith) (λ hb hc. (inl (omega arith), omega arith))
  seen_row p (re1 l h) s = three s (omega arith) (λ hb hc. (inl (omega arith), omega arith))
  seen_row p (red l h) s = three s (omega arith) (λ hb hc. (inl (omega arith), omega arith))
  seen_row p (ree l h) s = three s (omega arith) (λ hb hc. (inr (omega arith, omega arith), omega arith))
  seen_row p (rf0 l h) s = four_bytes s (omega arith) (λ hb hc hd. (omega arith, omega arith))
  seen_row p (rf1 l h) s = four_bytes s (omega arith) (λ hb hc hd. (omega arith, omega arith))
  seen_row p (rf4 l h) s = four_bytes s (omega arith) (λ hb hc hd. (omega arith, omega arith))
  seen_row p (rf5 l) s = absurd (omega (arith, s.len))

pub seen_char : (x : List ℕ) (n : ℕ) → 0 < n → SeenIn x n → char_len x ≡ n
seen_char x n p s = seen_row x n p (rows (get_or x 0 0)) s

-- ---- the same at a place of a list, over the numbers that the code reads

module _ (s : List ℕ) (at : ℕ) (l : Lead) (e : l ≡ lead_of (get_or s at 0)) where
  abbrev SeenAt : ℕ → Type 0
  SeenAt n = LeadSeen l (length s - at) (get_or s (at + 1) 0) (get_or s (at + 2) 0) (get_or s (at + 3) 0) n

  lead_le : l.0 ≤ 4
  lead_le = rw e (lead_fits (get_or s at 0)).0

  -- a character of n bytes stands at `at`
  char_here : (n : ℕ) → 0 < n → SeenAt n → n ≡ char_len (drop at s)
  char_here n p h =
      sym (seen_char (drop at s) n p (simp (get_or-drop, length-drop, add-zero) (rw e at h)))

  seen_at : (n : ℕ) → char_len (drop at s) ≡ suc n → SeenAt (suc n)
  seen_at n h = rw e (simp (get_or-drop, length-drop, add-zero) at (char_seen (drop at s) n h))

  -- no character stands at `at`
  none_here : ((n : ℕ) → SeenAt (suc n) → ⊥) → 0 ≡ char_len (drop at s)
  none_here f = go (char_len (drop at s)) refl
    where
      go : (m : ℕ) → char_len (drop at s) ≡ m → 0 ≡ char_len (drop at s)
      go zero h = sym h
      go (suc n) h = absurd (f n (seen_at n h))

  -- as many bytes stand there as the first one asks for, or fewer
  pub all_begun : (r : ℕ) → BegunAt s at l r → l.0 ≤ r → l.0 ≡ char_len (drop at s)
  all_begun r h k =
      elim (dec_lt 0 l.0) [
        | yes p ↦ char_here l.0 p (record {
          len = refl;
          fits = omega (arith, h.some);
          second = λ n. (h.second (omega arith)).1;
          third = λ n. (h.third (omega arith)).1;
          fourth = λ n. (h.fourth (omega arith)).1;
        })
        | no p ↦ omega (arith, none_here (λ n t. omega (arith, t.len)))
      ]

  pub part_begun : (r : ℕ) → BegunAt s at l r → r < l.0 → 0 ≡ char_len (drop at s)
  part_begun r h k = none_here (λ n t. less (omega (arith, t.len)) t)
    where
      less : {n : ℕ} → l.0 ≡ n → SeenAt n → ⊥
      less e t =
          let fits = t.fits in
          let some = h.some in
          let few = lead_le in
          elim (dec_lt r 2) [
            | yes p ↦ h.not_second (omega arith) (omega arith) (omega arith) (t.second (omega arith))
            | no p ↦ elim (dec_lt r 3) [
              | yes q ↦ h.not_third (omega arith) (omega arith) (omega arith) (t.third (omega arith))
              | no q ↦ h.not_fourth (omega arith) (omega arith) (omega arith) (t.fourth (omega arith))
            ]
          ]
