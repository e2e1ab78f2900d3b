-- Where a document's first fault lies, and how long it is, is told by the first token that is not UTF-8 and by the one byte after it:
-- a token ends where no character is cut, so the fault begins within it, and reaches no further than that byte.
-- Assumes nothing.
use Prim.Native.Nat.{ℕ, zero, suc, ◌+◌, ◌-◌, ◌≤◌, ◌<◌}
use mathlib.Core.Path.{◌≡◌, refl, sym, ap, ◌∙◌, subst}
use mathlib.Core.Bool.{Bool, cond}
use mathlib.Core.Logic.{◌⊎◌, inl, inr, ⊎_elim}
use mathlib.Core.List.{List, ◌∷◌}
use native.Mathlib.Omega.{arith}
use native.Mathlib.Decide.{dec_lt}
use borrow.Author.Tests.{ne_eqb, le-ltb}
use lib.Dec.{eqb}
use lib.ListN.{length, get_or, take, drop, length-take, length-drop, take-append-drop}
use lib.Seq.{take-take, take_all, length-take-le, get_or-take, get_or-drop, drop-drop}
use Rattle.text_refusals.specs.Refusals.{limit, refusal_value, refusal_length}
use Rattle.text_scalars.specs.Utf8.{Utf8}
use Rattle.text_scalars.specs.Utf8Read.{valid_prefix}
use Rattle.text_characters.specs.Lead.{lead_of, Begun, begun_by, fault_len}
use Rattle.text.specs.CheckMeans.{check_of}
use Rattle.text_refusals.specs.declared.Refusal.{Refusal}
use Rattle.text_refusals.specs.declared.Refusal.TheVariants.{NotUtf8}
use Rattle.std.specs.Prelude.{Ok, Err}
use Rattle.text_scalars.proofs.ReadLaws.{valid_le, valid_is, valid_longest, valid_append}
use Rattle.text_characters.proofs.LeadLaws.{lead_high}
use Rattle.text_characters.proofs.BegunLaws.{begun_by_lem, begun_only}
use Rattle.text.proofs.AnswerLaws.{told, longest_one, checked}
use Rattle.decoder_rules.proofs.AsciiLaws.{front_one, front_add}
use Rattle.theorems_tokens.specs.Cuts.{Clean, at_end, before, after, further}
use Rattle.theorems_tokens.proofs.Lexing.{clean_cut}
use Rattle.built_broken.specs.Broken.{not_utf8}
use Rattle.built_broken.proofs.ReadableLaws.{check_refused}

-- ---- a place at which no character is cut

clean_take : {s : List ℕ} {n : ℕ} → Clean s n → (w : ℕ) → n ≤ w → Clean (take w s) n
clean_take at_end zero l = at_end
clean_take at_end (suc w) l = at_end
clean_take (before h) zero l = at_end
clean_take (before h) (suc w) l = before h
clean_take (after h) zero l = absurd (omega arith)
clean_take (after h) (suc w) l = after h
clean_take (further c) zero l = absurd (omega arith)
clean_take (further c) (suc w) l = further (clean_take c w (omega arith))

-- it is the end, or an ASCII byte stands there, or one stands right before it
clean_place : {s : List ℕ} {n : ℕ} → Clean s n
    → (n ≡ length s) ⊎ (((n < length s) × (get_or s n 0 < 0x80)) ⊎ ((0 < n) × (n ≤ length s) × (get_or s (n - 1) 0 < 0x80)))
clean_place at_end = inl refl
clean_place (before h) = inr (inl (omega arith, h))
clean_place (after h) = inr (inr (omega arith, omega arith, h))
clean_place (further {b} {n} {s} c) =
    ⊎_elim (λ e. inl (ap suc e))
    (λ w. inr (⊎_elim (λ x. inl (omega (arith, x.0), x.1))
    (λ x.
    let same : get_or s (n - 1) 0 ≡ get_or (b ∷ s) (suc (n - 1)) 0 = refl in
    let place : suc (n - 1) ≡ suc n - 1 = omega (arith, x.0) in
    inr (omega arith, omega (arith, x.1), omega (arith, x.2, same, ap (λ (k : ℕ). get_or (b ∷ s) k 0) place))) w))
    (clean_place c)

-- ---- how long a fault is

-- it reaches no further than an ASCII byte, other than the first, so two texts that are the same up to there have the same
module _ (t u : List ℕ) (j : ℕ) (some : 1 ≤ j) (in-t : j < length t) (in-u : j < length u) (low : get_or t j 0 < 0x80)
    (same : (k : ℕ) → k ≤ j → get_or u k 0 ≡ get_or t k 0) where
  r : ℕ
  r = begun_by (lead_of (get_or t 0 0)) (length t) (get_or t 1 0) (get_or t 2 0) (get_or t 3 0)

  begun : Begun (lead_of (get_or t 0 0)) (length t) (get_or t 1 0) (get_or t 2 0) (get_or t 3 0) r
  unfolding r
  begun = begun_by_lem (omega arith)

  at_j : (k : ℕ) → j ≡ k → get_or t k 0 < 0x80
  at_j k e = omega (arith, low, ap (λ (x : ℕ). get_or t x 0) e)

  reach : r ≤ j
  reach =
      let b = begun in
      elim (dec_lt j r) [
        | no h ↦ omega arith
        | yes h ↦ elim (dec_lt j 2) [
          | yes one ↦
              let second = b.second (omega arith) in
              absurd (omega (arith, at_j 1 (omega arith), second.1, lead_high (get_or t 0 0) second.0))
          | no more ↦ elim (dec_lt j 3) [
            | yes two ↦ absurd (omega (arith, at_j 2 (omega arith), (b.third (omega arith)).1))
            | no three ↦ absurd (omega (arith, at_j 3 (omega (arith, b.some)), (b.fourth (omega (arith, b.some))).1))
          ]
        ]
      ]

  begun_too : Begun (lead_of (get_or t 0 0)) (length u) (get_or u 1 0) (get_or u 2 0) (get_or u 3 0) r
  begun_too =
      let b = begun in
      let near = reach in
      record {
        some = (b.some.0, omega arith, b.some.2);
        second = λ h. rw (same 1 (omega arith)) (b.second h);
        third = λ h. rw (same 2 (omega arith)) (b.third h);
        fourth = λ h. rw (same 3 (omega arith)) (b.fourth h);
        not_second = λ e l h a. b.not_second e l (omega arith) (rw (same 1 (omega arith)) at a);
        not_third = λ e l h a. b.not_third e l (omega arith) (rw (same 2 (omega arith)) at a);
        not_fourth = λ e l h a. b.not_fourth e l (omega arith) (rw (same 3 (omega arith)) at a);
      }

  begun_same : begun_by (lead_of (get_or u 0 0)) (length u) (get_or u 1 0) (get_or u 2 0) (get_or u 3 0) ≡ r
  begun_same =
      let of-u : Begun (lead_of (get_or t 0 0)) (length u) (get_or u 1 0) (get_or u 2 0) (get_or u 3 0)
      (begun_by (lead_of (get_or t 0 0)) (length u) (get_or u 1 0) (get_or u 2 0) (get_or u 3 0)) = begun_by_lem (omega arith) in
      ap (λ (x : ℕ). begun_by (lead_of x) (length u) (get_or u 1 0) (get_or u 2 0) (get_or u 3 0)) (same 0 (omega arith))
      ∙ begun_only _ r of-u begun_too

  pub fault_same : fault_len u ≡ fault_len t
  unfolding fault_len r
  fault_same =
      let short-u : r ≡ length u → ⊥ = λ e. omega (arith, reach) in
      let short-t : r ≡ length t → ⊥ = λ e. omega (arith, reach) in
      let by : ℕ → ℕ → Bool → ℕ = λ first q all. cond (eqb (lead_of first).0 0) 1 (cond all 0 q) in
      let q = begun_by (lead_of (get_or u 0 0)) (length u) (get_or u 1 0) (get_or u 2 0) (get_or u 3 0) in
      ap (λ (x : ℕ). by x q (eqb q (length u))) (same 0 (omega arith))
      ∙ ap (λ (x : ℕ). by (get_or t 0 0) x (eqb x (length u))) begun_same
      ∙ ap (by (get_or t 0 0) r) (ne_eqb r (length u) short-u ∙ sym (ne_eqb r (length t) short-t))

-- ---- the token that is not UTF-8, at the front of s, with n bytes

module _ (s : List ℕ) (n : ℕ) (clean : Clean s n) (fits : n ≤ length s) (broken : Utf8 (take n s) → ⊥) where
  -- it, and the byte after it
  abbrev part : List ℕ
  part = take (suc n) s

  -- no front of s that is UTF-8 reaches its end
  ends_before : (k : ℕ) → Utf8 (take k s) → k < n
  ends_before k u =
      elim (dec_lt k n) [
        | yes h ↦ h
        | no h ↦
            let cut = (clean_cut (take k s) n (clean_take clean k (omega arith)) u).0 in
            absurd (broken (subst Utf8 (take-take n k s (omega arith)) cut))
      ]

  valid_short : valid_prefix s < n
  valid_short = ends_before (valid_prefix s) (valid_is s)

  pub part_broken : Utf8 part → ⊥
  part_broken u = omega (arith, ends_before (suc n) u)

  pub part_valid : valid_prefix part ≡ valid_prefix s
  part_valid =
      let v = valid_prefix s in
      let short = valid_short in
      longest_one part v record {
        within = omega (arith, length-take (suc n) s, valid_le s);
        valid = rw (take-take v (suc n) s (omega arith)) (valid_is s);
        longest = λ k l u.
            let size = length-take (suc n) s in
            valid_longest s k (omega arith) (subst Utf8 (take-take k (suc n) s (omega arith)) u);
      }

  -- the fault begins with no ASCII byte
  not_ascii : get_or s (valid_prefix s) 0 < 0x80 → ⊥
  not_ascii h =
      let v = valid_prefix s in
      let short = valid_short in
      let here : v + 0 ≡ v = omega arith in
      let low : get_or (drop v s) 0 0 < 0x80 = omega (arith, get_or-drop v s 0 0, ap (λ (k : ℕ). get_or s k 0) here) in
      let one = front_one (drop v s) (omega (arith, length-drop v s)) low in
      let more = valid_longest s (v + 1) (omega arith) (front_add v 1 s (valid_is s) one) in
      omega arith

  -- an ASCII byte at m, after the fault's first byte and at the token's end at the latest
  fault_at : (m : ℕ) → valid_prefix s < m → m ≤ n → m < length s → get_or s m 0 < 0x80
      → fault_len (drop (valid_prefix s) part) ≡ fault_len (drop (valid_prefix s) s)
  fault_at m behind near there low =
      let v = valid_prefix s in
      let t = drop v s in
      let u = drop v part in
      let size = length-take (suc n) s in
      let in-t : m - v < length t = omega (arith, length-drop v s) in
      let in-u : m - v < length u = omega (arith, length-drop v part) in
      let here : v + (m - v) ≡ m = omega arith in
      let low-t : get_or t (m - v) 0 < 0x80 = omega (arith, get_or-drop v s (m - v) 0, ap (λ (k : ℕ). get_or s k 0) here) in
      fault_same t u (m - v) (omega arith) in-t in-u low-t
      (λ k l. get_or-drop v part k 0 ∙ get_or-take (suc n) s (v + k) 0 (omega arith) ∙ sym (get_or-drop v s k 0))

  pub part_fault : fault_len (drop (valid_prefix part) part) ≡ fault_len (drop (valid_prefix s) s)
  part_fault =
      let v = valid_prefix s in
      let short = valid_short in
      ap (λ (k : ℕ). fault_len (drop k part)) part_valid
      ∙ ⊎_elim
      (λ e. ap (λ (x : List ℕ). fault_len (drop v x)) (take_all (suc n) s (omega arith)))
      (⊎_elim
      (λ w. fault_at n short (omega arith) w.0 w.1)
      (λ w.
      elim (dec_lt v (n - 1)) [
        | yes h ↦ fault_at (n - 1) h (omega arith) (omega (arith, w.0, w.1)) w.2
        | no h ↦
            let here : n - 1 ≡ v = omega (arith, w.0) in
            absurd (not_ascii (omega (arith, w.2, ap (λ (k : ℕ). get_or s k 0) here)))
      ]))
      (clean_place clean)

-- ---- the whole document's two numbers, where all before the token is UTF-8

module _ (doc : List ℕ) (at n : ℕ) (within : at ≤ length doc) (front : Utf8 (take at doc)) (clean : Clean (drop at doc) n)
    (fits : n ≤ length (drop at doc)) (broken : Utf8 (take n (drop at doc)) → ⊥) where
  abbrev token : List ℕ
  token = take (suc n) (drop at doc)

  pub whole_valid : valid_prefix doc ≡ at + valid_prefix token
  whole_valid =
      let s = drop at doc in
      let split = ap valid_prefix (take-append-drop at doc) in
      omega (arith, valid_append (take at doc) front s, length-take-le at doc within, part_valid s n clean fits broken)

  pub whole_fault : fault_len (drop (valid_prefix doc) doc) ≡ fault_len (drop (valid_prefix token) token)
  whole_fault =
      let s = drop at doc in
      let v : valid_prefix doc ≡ at + valid_prefix s = whole_valid ∙ ap (λ (k : ℕ). at + k) (part_valid s n clean fits broken) in
      ap (λ (k : ℕ). fault_len (drop k doc)) v
      ∙ ap fault_len (sym (drop-drop (valid_prefix s) at doc))
      ∙ sym (part_fault s n clean fits broken)

  pub token_invalid : Ok (tt {0}) ≡ check_of token → ⊥
  token_invalid e = part_broken (drop at doc) n clean fits broken (checked token (sym e)).1

  -- as the check of the token and the byte after it tells them
  module _ (small : length doc ≤ limit) (r : Refusal) (e : Err r ≡ check_of token) where
    size : length token ≤ limit
    size = omega (arith, length-take (suc n) (drop at doc), length-drop at doc)

    pub value_told : refusal_value r ≡ valid_prefix token
    value_told = simp (le-ltb limit (length token) size, check_refused token r size e) at (told token (Err r) e).value

    fault : refusal_length r ≡ fault_len (drop (valid_prefix token) token)
    fault = simp (le-ltb limit (length token) size, check_refused token r size e) at (told token (Err r) e).length

    pub fault_told : Err (NotUtf8 (at + refusal_value r) (refusal_length r)) ≡ not_utf8 doc
    fault_told = rw (value_told, fault, ← whole_fault, ← whole_valid)
