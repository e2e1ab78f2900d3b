-- The marks: their ends case by case, and that the body lies within the text.
-- Assumes nothing.
use Prim.Native.Nat.{ℕ, suc, ◌+◌, ◌-◌, ◌≤◌, ◌<◌}
use mathlib.Core.Path.{◌≡◌, refl, sym, ap, ◌∙◌}
use mathlib.Core.Bool.{Bool, true, false, cond, ◌&&◌}
use mathlib.Core.List.{List, [], ◌∷◌, ◌++◌}
use native.Mathlib.Nat.{zero-add}
use native.Mathlib.Omega.{arith}
use lib.Dec.{eqb, leb, ltb, eqb-suc-zero}
use lib.ListN.{length, take, drop, get_or, length-drop}
use lib.Seq.{take-suc, length-take-le}
use borrow.Author.Tests.{eq-eqb, ne_eqb, lt-ltb, le-ltb, ltb-true, leb-true, le-leb, lt-leb, eqb-true}
use Rattle.text_classes.proofs.Conds.{cond_case, by_eq, both_left, both_right}
use Rattle.decoder_rules.specs.declared.Encoding.{Encoding}
use Rattle.decoder_rules.specs.declared.Encoding.TheVariants.{LiteralString, BasicString, MlLiteralString, MlBasicString, UnquotedKey}
use Rattle.decoder_rules.specs.declared.Ends.{Ends}
use Rattle.decoder_rules.specs.Marks.{line_opened, line_start, line_closed, line_end, line_ends, newline_len, ml_start, ml_closed, trimmed, ml_end, ml_ends, key_ends, ends_of}
use Rattle.text_classes.specs.Runs.{triple}
use Rattle.text_classes.proofs.RunLaws.{there}
use Rattle.text_classes.proofs.TripleLaws.{triple_fits}
use Rattle.decoder_rules.proofs.PlaceForms.{newline_len_is}

-- ---- one mark at each end

module _ (q : ℕ) (t : List ℕ) where
  pub line_both : 1 < length t → get_or t 0 0 ≡ q → get_or t (length t - 1) 0 ≡ q
      → record { opened = true; closed = true; start = 1; end = length t - 1 } ≡ line_ends q t
  unfolding line_ends
  line_both n o e = simp (lt-ltb 0 (length t) (omega arith), lt-ltb 1 (length t) n, eq-eqb _ q o, eq-eqb _ q e)

-- ---- three marks at each end

pub newline_le : (s : List ℕ) → newline_len s ≤ length s
newline_le s =
    rw newline_len_is
    (by_eq (λ (n : ℕ). n ≤ length s) (get_or s 0 0) 0x0A (λ e. let k = there s 0 (omega arith) in k)
    λ e. cond_case (λ (n : ℕ). n ≤ length s) (eqb (get_or s 0 0) 0x0D && eqb (get_or s 1 0) 0x0A)
    (λ f.
    let g = eqb-true (get_or s 1 0) 0x0A (both_right (eqb (get_or s 0 0) 0x0D) _ f) in
    there s 1 (omega arith))
    (λ f. omega arith))

pub start_open : (t : List ℕ) → 3 + newline_len (drop 3 t) ≡ ml_start true t
unfolding ml_start
start_open t = refl

pub start_bare : (t : List ℕ) → newline_len t ≡ ml_start false t
unfolding ml_start
start_bare t = sym (zero-add (newline_len t))

pub start_le : (t : List ℕ) (o : Bool) → (o ≡ true → 3 ≤ length t) → ml_start o t ≤ length t
start_le t true h = omega (arith, start_open t, newline_le (drop 3 t), length-drop 3 t, h refl)
start_le t false h = omega (arith, start_bare t, newline_le t)

module _ (q a : ℕ) (t : List ℕ) where
  pub closed_is : a + 3 ≤ length t → triple q (drop (length t - 3) t) ≡ ml_closed q a t
  unfolding ml_closed
  closed_is h = simp (le-leb (a + 3) (length t) h)

  pub closed_long : ml_closed q a t ≡ true → a + 3 ≤ length t
  unfolding ml_closed
  closed_long e = leb-true (a + 3) (length t) (both_left (leb (a + 3) (length t)) _ e)

  pub closed_triple : ml_closed q a t ≡ true → triple q (drop (length t - 3) t) ≡ true
  unfolding ml_closed
  closed_triple e = both_right (leb (a + 3) (length t)) _ e

  pub end_closed : (trims : Bool) → length t - 3 ≡ ml_end trims q a t true
  unfolding ml_end
  end_closed trims = refl

  pub end_trims : a + trimmed q (drop a t) ≡ ml_end true q a t false
  unfolding ml_end
  end_trims = refl

  pub end_whole : length t ≡ ml_end false q a t false
  unfolding ml_end
  end_whole = refl

pub ml_is : (trims : Bool) (q : ℕ) (t : List ℕ) (o c : Bool) (a e : ℕ)
    → o ≡ triple q t → a ≡ ml_start o t → c ≡ ml_closed q a t → e ≡ ml_end trims q a t c
    → record { opened = o; closed = c; start = a; end = e } ≡ ml_ends trims q t
unfolding ml_ends
ml_is trims q t o c a e eo ea ec ee = rw (ee, ec, ea, eo)

-- ---- the marks at the end that are dropped

-- a mark at the end goes, and any other byte stays
pub trimmed_mark : (q : ℕ) (s : List ℕ) → trimmed q (s ++ (q ∷ [])) ≡ trimmed q s
unfolding trimmed
trimmed_mark q [] = simp (eq-eqb q q refl)
trimmed_mark q (b ∷ r) = rw (trimmed_mark q r)

pub trimmed_other : (q b : ℕ) (s : List ℕ) → (b ≡ q → ⊥) → trimmed q (s ++ (b ∷ [])) ≡ suc (length s)
unfolding trimmed
trimmed_other q b [] n = simp (ne_eqb b q n)
trimmed_other q b (c ∷ r) n = rw (trimmed_other q b r n) (simp (eqb-suc-zero (length r)))

pub trimmed_le : (q : ℕ) (s : List ℕ) → trimmed q s ≤ length s
unfolding trimmed
trimmed_le q [] = omega arith
trimmed_le q (b ∷ r) =
    let i = trimmed_le q r in
    cond_case (λ (n : ℕ). n ≤ suc (length r)) (eqb (trimmed q r) 0)
    (λ e. cond_case (λ (n : ℕ). n ≤ suc (length r)) (eqb b q) (λ f. omega arith) (λ f. omega arith)) (λ e. omega arith)

-- ---- the body lies within the text

abbrev pub Within : Ends → List ℕ → Type 0
Within d t = (d.start ≤ d.end) × (d.end ≤ length t)

module _ (q : ℕ) (t : List ℕ) where
  line_cases : (o c : Bool) → line_opened q t ≡ o → line_closed (cond o 1 0) q t ≡ c
      → (cond o 1 0 ≤ cond c (length t - 1) (length t)) × (cond c (length t - 1) (length t) ≤ length t)
  line_cases true true eo ec = omega (arith, ltb-true 1 (length t) (both_left (ltb 1 (length t)) _ ec))
  line_cases true false eo ec = omega (arith, ltb-true 0 (length t) (both_left (ltb 0 (length t)) _ eo))
  line_cases false true eo ec = omega arith
  line_cases false false eo ec = omega arith

  line_within : Within (line_ends q t) t
  unfolding line_ends
  line_within = line_cases (line_opened q t) (line_closed (cond (line_opened q t) 1 0) q t) refl refl

end_within : (trims : Bool) (q a : ℕ) (t : List ℕ) (c : Bool) → a ≤ length t → (c ≡ true → a + 3 ≤ length t)
    → (a ≤ ml_end trims q a t c) × (ml_end trims q a t c ≤ length t)
end_within trims q a t true h l = omega (arith, l refl, end_closed q a t trims)
end_within true q a t false h l = omega (arith, end_trims q a t, trimmed_le q (drop a t), length-drop a t)
end_within false q a t false h l = omega (arith, end_whole q a t)

ml_within : (trims : Bool) (q : ℕ) (t : List ℕ) → Within (ml_ends trims q t) t
unfolding ml_ends
ml_within trims q t =
    let a = ml_start (triple q t) t in
    end_within trims q a t (ml_closed q a t) (start_le t (triple q t) (triple_fits q t)) (closed_long q a t)

key_within : (t : List ℕ) → Within (key_ends t) t
unfolding key_ends
key_within t = omega arith

pub ends_within : (e : Encoding) (t : List ℕ) → Within (ends_of e t) t
ends_within LiteralString t = line_within 0x27 t
ends_within MlLiteralString t = ml_within true 0x27 t
ends_within (BasicString v) t = line_within 0x22 t
ends_within (MlBasicString v) t = ml_within false 0x22 t
ends_within UnquotedKey t = key_within t

pub ends_fit : (e : Encoding) (t : List ℕ) (d : Ends) → d ≡ ends_of e t → Within d t
ends_fit e t d h = rw h (ends_within e t)
