-- Which of two texts is preferred: the shorter one, and of two of one length the one with the smaller byte at the first
-- difference. This goes through a concatenation, so a text may be chosen piece by piece.
use Prim.Native.Nat.{ℕ, ◌≤◌, ◌<◌}
use mathlib.Core.Path.{◌≡◌, refl, ap}
use mathlib.Core.Logic.{⊎_elim}
use mathlib.Core.List.{List, [], ◌∷◌, ◌++◌}
use native.Mathlib.Nat.{eq-or-lt_of_le}
use native.Mathlib.Omega.{arith}
use lib.ListN.{length, length-append}
use Rattle.theorems_writing.specs.Shortest.{NotAfter, end, smaller, same}

-- ---- the first difference

pub not_after_self : (s : List ℕ) → NotAfter s s
not_after_self [] = end
not_after_self (a ∷ s) = same (not_after_self s)

pub not_after_cons : {a b : ℕ} {s t : List ℕ} → a ≤ b → NotAfter s t → NotAfter (a ∷ s) (b ∷ t)
not_after_cons h r = ⊎_elim (λ e. rw (← e) (same r)) (λ l. smaller l) (eq-or-lt_of_le h)

not_after_join : {s t s₂ t₂ : List ℕ} → NotAfter s t → NotAfter s₂ t₂ → NotAfter (s ++ s₂) (t ++ t₂)
not_after_join end r = r
not_after_join (smaller h) r = smaller h
not_after_join (same q) r = same (not_after_join q r)

-- with two names for each text, since a case of the one order does not yet say what the other is between
both_at : {s t s₂ t₂ : List ℕ} → NotAfter s t → NotAfter t₂ s₂ → s ≡ s₂ → t ≡ t₂ → s ≡ t
both_at end end e f = refl
both_at end (smaller k) e f = cc
both_at end (same q) e f = cc
both_at (smaller h) end e f = cc
both_at (same p) end e f = cc
both_at (smaller {a} {b} h) (smaller {a = c} {b = d} k) e f =
    let a_is : a ≡ d = cc in
    let b_is : b ≡ c = cc in
    absurd (omega arith)
both_at (smaller {a} {b} h) (same {a = c} q) e f =
    let a_is : a ≡ c = cc in
    let b_is : b ≡ c = cc in
    absurd (omega arith)
both_at (same {a} p) (smaller {a = c} {b = d} k) e f =
    let a_is : a ≡ d = cc in
    let b_is : a ≡ c = cc in
    absurd (omega arith)
both_at (same {a} p) (same q) e f = ap (a ∷◌) (both_at p q (cc) (cc))

pub not_after_both : {s t : List ℕ} → NotAfter s t → NotAfter t s → s ≡ t
not_after_both p q = both_at p q refl refl

-- ---- the order

pub data Leads (s t : List ℕ) : Type 0 where
  shorter : length s < length t → Leads s t
  level : length s ≡ length t → NotAfter s t → Leads s t

pub leads_self : (s : List ℕ) → Leads s s
leads_self s = level refl (not_after_self s)

pub leads_long : {s t : List ℕ} → Leads s t → length s ≤ length t
leads_long (shorter h) = omega arith
leads_long (level e r) = omega arith

pub leads_level : {s t : List ℕ} → Leads s t → length t ≡ length s → NotAfter s t
leads_level (shorter h) e = absurd (omega arith)
leads_level (level d r) e = r

pub leads_join : {s t s₂ t₂ : List ℕ} → Leads s t → Leads s₂ t₂ → Leads (s ++ s₂) (t ++ t₂)
leads_join {s} {t} {s₂} {t₂} (shorter h) q = shorter (simp length-append (omega (arith, leads_long q)))
leads_join {s} {t} {s₂} {t₂} (level e r) (shorter k) = shorter (simp length-append (omega arith))
leads_join {s} {t} {s₂} {t₂} (level e r) (level f q) = level (simp length-append (omega arith)) (not_after_join r q)
