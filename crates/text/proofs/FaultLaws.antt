-- The length of a faulty sequence is right: as many bytes begin a character as the table of first bytes lets through, and
-- no more do.
-- Assumes nothing.
use Prim.Native.Nat.{ℕ, zero, suc, ◌+◌, ◌-◌, ◌≤◌, ◌<◌}
use mathlib.Core.Path.{◌≡◌, refl, sym, ap, ◌∙◌}
use mathlib.Core.Logic.{inl}
use mathlib.Core.List.{List, [], ◌∷◌, ◌++◌, append-nil}
use mathlib.Core.Bool.{cond}
use native.Mathlib.Omega.{arith}
use native.Mathlib.Decide.{dec_lt}
use native.Mathlib.Nat.{add-zero}
use lib.ListN.{length, get_or, take, drop, length-append, length-drop, get_or-append}
use lib.Seq.{take-suc, take_at, take-append-add, length-take-le, get_or-take, get_or-drop}
use lib.Dec.{eqb}
use borrow.Author.Tests.{eq-eqb, ne_eqb}
use Rattle.text_characters.specs.declared.Lead.{Lead}
use Rattle.text_scalars.specs.Utf8.{encode_scalar}
use Rattle.text_scalars.specs.Utf8Read.{guess}
use Rattle.text.specs.CheckMeans.{Begins, LongestBegun, faulty, Fault}
use Rattle.text_characters.specs.Lead.{lead_of, Among, Begun, BegunAt, begun_len, fault_len}
use Rattle.text_classes.proofs.Conds.{by_eq}
use Rattle.text_scalars.proofs.EncodeLaws.{encode_length, size}
use Rattle.text_scalars.proofs.ReadLaws.{Char, char_sound}
use Rattle.text_characters.proofs.LeadLaws.{LeadSeen, SeenIn, lead_fits, encode_seen, seen_char}
use Rattle.text_characters.proofs.BegunLaws.{begun_only, begun_by_lem}

-- the length that the first byte asks for
abbrev asked : List ℕ → ℕ
asked t = (lead_of (get_or t 0 0)).0

-- `BegunAt` at the front of the list
abbrev pub BegunIn : List ℕ → ℕ → Type 0
BegunIn t r = Begun (lead_of (get_or t 0 0)) (length t) (get_or t 1 0) (get_or t 2 0) (get_or t 3 0) r

-- ---- what begins a character passes the table

begins_few : (t : List ℕ) (r k : ℕ) → BegunIn t r → k ≤ length t → 1 ≤ k → Begins (take k t) → (k ≤ r) × (1 ≤ asked t)
begins_few t r k h within p (v, more, sc, e) =
    go (rw (append-nil (encode_scalar v), e) at (encode_seen v [] (size v sc)))
  where
    size_is : length (take k t ++ more) ≡ k + length more
    size_is = length-append (take k t) more ∙ ap (λ (n : ℕ). n + length more) (length-take-le k t within)

    same : (i : ℕ) → i < k → get_or (take k t ++ more) i 0 ≡ get_or t i 0
    same i l = get_or-append (take k t) more 0 i (omega (arith, length-take-le k t within)) ∙ get_or-take k t i 0 l

    go : SeenIn (take k t ++ more) (length (take k t ++ more)) → (k ≤ r) × (1 ≤ asked t)
    go seen =
        let x = take k t ++ more in
        let s : LeadSeen (lead_of (get_or t 0 0)) (length x) (get_or x 1 0) (get_or x 2 0) (get_or x 3 0) (length x) = rw (same 0 p) at seen in
        let asks = s.len in
        let sized = size_is in
        let few = (encode_length v).1 in
        let long = ap length e in
        let some = h.some in (
          elim (dec_lt r k) [
            | no q ↦ omega arith
            | yes q ↦ elim (dec_lt r 2) [
              | yes u ↦
                  let y : Among (lead_of (get_or t 0 0)).1 (lead_of (get_or t 0 0)).2 (get_or t 1 0) =
                  rw (same 1 (omega arith)) at (s.second (omega arith)) in
                  absurd (h.not_second (omega arith) (omega arith) (omega arith) y)
              | no u ↦ elim (dec_lt r 3) [
                | yes w ↦
                    let y : Among 0x80 0xBF (get_or t 2 0) = rw (same 2 (omega arith)) at (s.third (omega arith)) in
                    absurd (h.not_third (omega arith) (omega arith) (omega arith) y)
                | no w ↦
                    let y : Among 0x80 0xBF (get_or t 3 0) = rw (same 3 (omega arith)) at (s.fourth (omega arith)) in
                    absurd (h.not_fourth (omega arith) (omega arith) (omega arith) y)
              ]
            ]
          ],
          omega arith,
        )

-- ---- and what passes the table begins a character: the lowest bytes that the table lets through make it whole

complete : (p more : List ℕ) (n : ℕ) → length p ≤ n → 0 < n → SeenIn (p ++ more) n → Begins p
complete p more zero h q s = absurd (omega arith)
complete p more (suc m) h q s = go (char_sound (p ++ more) m (seen_char (p ++ more) (suc m) q s))
  where
    k : ℕ
    k = suc m - length p

    go : Char (p ++ more) (suc m) → Begins p
    go c =
        let v = guess (p ++ more) in
        let n : suc m ≡ length p + k = omega arith in
        let whole : encode_scalar v ≡ take (suc m) (p ++ more) =
        sym (take_at (encode_scalar v) (drop (suc m) (p ++ more)) (suc m) c.size) ∙ ap (take (suc m)) c.split in (
          v,
          take k more,
          c.scalar,
          whole ∙ ap (λ (j : ℕ). take j (p ++ more)) n ∙ take-append-add p more k,
        )

module _ (a : ℕ) where
  abbrev l : Lead
  l = lead_of a

  -- p begins a character where `more`, appended to p, makes four bytes that are as the first one asks
  begins_by : (p more : List ℕ) (b c d : ℕ) → p ++ more ≡ a ∷ b ∷ c ∷ d ∷ [] → length p ≤ l.0 → 1 ≤ l.0
      → Among l.1 l.2 b → Among 0x80 0xBF c → Among 0x80 0xBF d → Begins p
  begins_by p more b c d e h some hb hc hd =
      complete p more l.0 h some (rw e (record {
        len = refl;
        fits = (lead_fits a).0;
        second = λ n. hb;
        third = λ n. hc;
        fourth = λ n. hd;
      }))

  begins_1 : 1 ≤ l.0 → Begins (a ∷ [])
  begins_1 h =
      let lowest : Among l.1 l.2 l.1 = (omega arith, (lead_fits a).1) in
      begins_by (a ∷ []) (l.1 ∷ 0x80 ∷ 0x80 ∷ []) l.1 0x80 0x80 refl h h lowest (omega arith) (omega arith)

  begins_2 : (b : ℕ) → 2 ≤ l.0 → Among l.1 l.2 b → Begins (a ∷ b ∷ [])
  begins_2 b h hb =
      begins_by (a ∷ b ∷ []) (0x80 ∷ 0x80 ∷ []) b 0x80 0x80 refl h (omega arith) hb (omega arith) (omega arith)

  begins_3 : (b c : ℕ) → 3 ≤ l.0 → Among l.1 l.2 b → Among 0x80 0xBF c → Begins (a ∷ b ∷ c ∷ [])
  begins_3 b c h hb hc =
      begins_by (a ∷ b ∷ c ∷ []) (0x80 ∷ []) b c 0x80 refl h (omega arith) hb hc (omega arith)

  begins_4 : (b c d : ℕ) → 4 ≤ l.0 → Among l.1 l.2 b → Among 0x80 0xBF c → Among 0x80 0xBF d → Begins (a ∷ b ∷ c ∷ d ∷ [])
  begins_4 b c d h hb hc hd = begins_by (a ∷ b ∷ c ∷ d ∷ []) [] b c d refl h (omega arith) hb hc hd

module _ (t : List ℕ) where
  take_1 : 1 ≤ length t → take 1 t ≡ get_or t 0 0 ∷ []
  take_1 h = rw (take-suc t 0 0 h)

  take_2 : 2 ≤ length t → take 2 t ≡ get_or t 0 0 ∷ get_or t 1 0 ∷ []
  take_2 h = rw (take-suc t 1 0 h, take_1 (omega arith))

  take_3 : 3 ≤ length t → take 3 t ≡ get_or t 0 0 ∷ get_or t 1 0 ∷ get_or t 2 0 ∷ []
  take_3 h = rw (take-suc t 2 0 h, take_2 (omega arith))

  take_4 : 4 ≤ length t → take 4 t ≡ get_or t 0 0 ∷ get_or t 1 0 ∷ get_or t 2 0 ∷ get_or t 3 0 ∷ []
  take_4 h = rw (take-suc t 3 0 h, take_3 (omega arith))

begins_is : (t : List ℕ) (r : ℕ) → BegunIn t r → 1 ≤ asked t → Begins (take r t)
begins_is t r h p =
    let some = h.some in
    elim (dec_lt r 2) [
      | yes u ↦ let e : r ≡ 1 = omega arith in rw (e, take_1 t (omega arith)) (begins_1 (get_or t 0 0) p)
      | no u ↦
          let b = h.second (omega arith) in
          elim (dec_lt r 3) [
            | yes v ↦
                let e : r ≡ 2 = omega arith in
                rw (e, take_2 t (omega arith)) (begins_2 (get_or t 0 0) (get_or t 1 0) b.0 b.1)
            | no v ↦
                let c = h.third (omega arith) in
                elim (dec_lt r 4) [
                  | yes w ↦
                      let e : r ≡ 3 = omega arith in
                      rw (e, take_3 t (omega arith))
                      (begins_3 (get_or t 0 0) (get_or t 1 0) (get_or t 2 0) c.0 b.1 c.1)
                  | no w ↦
                      let d = h.fourth (omega arith) in
                      let e : r ≡ 4 = omega arith in
                      rw (e, take_4 t (omega arith))
                      (begins_4 (get_or t 0 0) (get_or t 1 0) (get_or t 2 0) (get_or t 3 0) d.0 b.1 c.1 d.1)
                ]
          ]
    ]

-- ---- so the computed length is the one that `Fault` says, and there is one only

begins_none : Begins []
begins_none = (0, encode_scalar 0, inl (omega arith), refl)

module _ (t : List ℕ) (h : 1 ≤ length t) where
  no_lead : asked t ≡ 0 → Fault t 1
  no_lead z =
      let d : 0 ≡ length t → ⊥ = omega arith in
      record {
        begun = 0;
        is = record {
          within = omega arith;
          begins = begins_none;
          longest = λ k w b. elim (dec_lt 0 k) [
            | no q ↦ omega arith
            | yes q ↦ absurd (omega (arith, (begins_few t (begun_len t) k (begun_by_lem h) w q b).1))
          ];
        };
        told = simp (ne_eqb _ _ d);
      }

  some_lead : (asked t ≡ 0 → ⊥) → (r : ℕ) → BegunIn t r → Fault t (faulty r (length t))
  some_lead z r b =
      record {
        begun = r;
        is = record {
          within = omega (arith, b.some);
          begins = begins_is t r b (omega arith);
          longest = λ k w y. elim (dec_lt 0 k) [
            | no q ↦ omega arith
            | yes q ↦ (begins_few t r k b w q y).0
          ];
        };
        told = refl;
      }

  faulty_some : (r : ℕ) → 1 ≤ r → faulty r (length t) ≡ cond (eqb r (length t)) 0 r
  faulty_some r p =
      let d : r ≡ 0 → ⊥ = omega arith in
      simp (ne_eqb _ _ d)

  pub fault_is : Fault t (fault_len t)
  unfolding fault_len
  fault_is =
      by_eq (Fault t) (asked t) 0 no_lead
      λ z. rw (← faulty_some (begun_len t) (begun_by_lem h).some.0) (some_lead z (begun_len t) (begun_by_lem h))

longest_begun_one : (t : List ℕ) (n m : ℕ) → LongestBegun t n → LongestBegun t m → n ≡ m
longest_begun_one t n m h k = omega (arith, h.longest m k.within k.begins, k.longest n h.within h.begins)

pub fault_one : (t : List ℕ) (r q : ℕ) → Fault t r → Fault t q → r ≡ q
fault_one t r q f g =
    f.told ∙ ap (λ (n : ℕ). faulty n (length t)) (longest_begun_one t f.begun g.begun f.is g.is) ∙ sym g.told

-- ---- the same at a place of a list, over the numbers that the code reads

module _ (s : List ℕ) (at : ℕ) (l : Lead) (e : l ≡ lead_of (get_or s at 0)) where
  here : lead_of (get_or (drop at s) 0 0) ≡ l
  here = simp (get_or-drop, add-zero) (sym e)

  begun_is : at < length s → (r : ℕ) → BegunAt s at l r → r ≡ begun_len (drop at s)
  begun_is h r b =
      let n : 1 ≤ length (drop at s) = omega (arith, length-drop at s) in
      let k : BegunIn (drop at s) r = simp (get_or-drop, length-drop, add-zero) (rw e at b) in
      begun_only r (begun_len (drop at s)) k (begun_by_lem n)

  pub fault_lead : l.0 ≡ 0 → 1 ≡ fault_len (drop at s)
  unfolding fault_len
  fault_lead z = rw here (simp (eq-eqb _ _ z))

  module _ (h : at < length s) (z : l.0 ≡ 0 → ⊥) (r : ℕ) (b : BegunAt s at l r) where
    asks : asked (drop at s) ≡ 0 → ⊥
    asks = rw (here, asked) z

    pub fault_end : r ≡ length s - at → 0 ≡ fault_len (drop at s)
    unfolding fault_len
    fault_end k =
        let j : begun_len (drop at s) ≡ length (drop at s) = omega (arith, begun_is h r b, length-drop at s) in
        simp (ne_eqb _ _ asks, eq-eqb _ _ j)

    pub fault_within : (r ≡ length s - at → ⊥) → r ≡ fault_len (drop at s)
    unfolding fault_len
    fault_within k =
        let j : begun_len (drop at s) ≡ length (drop at s) → ⊥ = λ q. k (omega (arith, begun_is h r b, length-drop at s)) in
        begun_is h r b ∙ simp (ne_eqb _ _ asks, ne_eqb _ _ j)
