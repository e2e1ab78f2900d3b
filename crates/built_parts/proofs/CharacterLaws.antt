-- A character in progress: which bytes of it were read, what one byte more makes of them, and that they are no whole character.
-- Assumes nothing.
use Prim.Native.Nat.{ℕ, zero, suc, ◌-◌, ◌≤◌, ◌<◌}
use mathlib.Core.Path.{◌≡◌, refl, sym, ◌∙◌}
use mathlib.Core.Bool.{false}
use mathlib.Core.List.{List, [], ◌∷◌, ◌++◌}
use native.Mathlib.Omega.{arith}
use Rattle.std.specs.Prelude.{Option, Some, None}
use lib.ListN.{length, get_or}
use lib.Dec.{ltb}
use borrow.Author.Tests.{le-ltb}
use Rattle.text_classes.proofs.Conds.{by_lt}
use Rattle.text_scalars.specs.Utf8Read.{char_len, valid_prefix}
use Rattle.text_scalars.proofs.ReadLaws.{valid_none, valid_le}
use Rattle.text_characters.specs.Lead.{lead_of, Among, BegunAt, fault_len}
use Rattle.text_characters.proofs.LeadLaws.{lead_fits, all_begun, part_begun}
use Rattle.text_characters.proofs.BegunLaws.{begun_1, begun_2, begun_3, begun_4, begun_by_lem}
use Rattle.text.proofs.FaultLaws.{fault_lead, fault_end, fault_within}
use Rattle.built_characters.specs.declared.Character.{Character}
use Rattle.built_characters.specs.declared.Character.TheVariants.{Whole, Begun}
use Rattle.built_characters.specs.Characters.{led, led_by, as_asked, character_turn}

-- the bytes of a character that were read: none, or one to three that are as the first asks, and not all that it asks for
pub data Read : List ℕ → Character → Type 0 where
  none : Read [] Whole
  first : {a n : ℕ} → (lead_of a).0 ≡ suc n → 1 ≤ n → Read (a ∷ []) (Begun n (lead_of a).1 (lead_of a).2)
  second : {a b n : ℕ} → (lead_of a).0 ≡ suc (suc n) → 1 ≤ n → Among (lead_of a).1 (lead_of a).2 b → Read (a ∷ b ∷ []) (Begun n 0x80 0xBF)
  third : {a b c : ℕ} → (lead_of a).0 ≡ 4 → Among (lead_of a).1 (lead_of a).2 b → Among 0x80 0xBF c → Read (a ∷ b ∷ c ∷ []) (Begun 1 0x80 0xBF)

-- the length of the faulty sequence that such bytes are, where the next is not as asked for
abbrev pub fault_of : List ℕ → ℕ
fault_of [] = 1
fault_of (a ∷ r) = suc (length r)

-- what one byte more makes of them
pub data Makes (r : List ℕ) (b : ℕ) : Option Character → Type 0 where
  breaks : ((e : List ℕ) → char_len (r ++ (b ∷ e)) ≡ 0) → ((e : List ℕ) → fault_len (r ++ (b ∷ e)) ≡ fault_of r) → Makes r b None
  goes : {left low high : ℕ} → Read (r ++ (b ∷ [])) (Begun left low high) → Makes r b (Some (Begun left low high))
  whole : char_len (r ++ (b ∷ [])) ≡ suc (length r) → Makes r b (Some Whole)

-- the first r bytes of s are as its first byte asks, and the next is not, or is not asked for, or is not there
abbrev BegunOf : List ℕ → ℕ → Type 0
BegunOf s r = BegunAt s 0 (lead_of (get_or s 0 0)) r

module _ (s : List ℕ) (r : ℕ) (h : BegunOf s r) where
  no_char : r < (lead_of (get_or s 0 0)).0 → char_len s ≡ 0
  no_char k = sym (part_begun s 0 (lead_of (get_or s 0 0)) refl r h k)

  all_char : (lead_of (get_or s 0 0)).0 ≤ r → char_len s ≡ (lead_of (get_or s 0 0)).0
  all_char k = sym (all_begun s 0 (lead_of (get_or s 0 0)) refl r h k)

  fault_inside : 0 < length s → ((lead_of (get_or s 0 0)).0 ≡ 0 → ⊥) → (r ≡ length s - 0 → ⊥) → fault_len s ≡ r
  fault_inside p z k = sym (fault_within s 0 (lead_of (get_or s 0 0)) refl p z r h k)

  fault_at_end : 0 < length s → ((lead_of (get_or s 0 0)).0 ≡ 0 → ⊥) → r ≡ length s - 0 → fault_len s ≡ 0
  fault_at_end p z k = sym (fault_end s 0 (lead_of (get_or s 0 0)) refl p z r h k)

-- ---- the first byte

lead_makes : (b n : ℕ) → (lead_of b).0 ≡ n → Makes [] b (led n (lead_of b).1 (lead_of b).2)
lead_makes b zero e =
    breaks
    (λ x. all_char (b ∷ x) _ (begun_by_lem (omega arith)) (omega arith) ∙ e)
    (λ x. sym (fault_lead (b ∷ x) 0 (lead_of b) refl e))
lead_makes b (suc zero) e =
    whole (all_char (b ∷ []) 1 (begun_1 (omega arith) (λ h. absurd (omega arith))) (omega arith) ∙ e)
lead_makes b (suc (suc n)) e =
    let one : ltb (suc (suc n)) 1 ≡ false = le-ltb (suc (suc n)) 1 (omega arith) in
    let two : ltb (suc (suc n)) 2 ≡ false = le-ltb (suc (suc n)) 2 (omega arith) in
    let less : suc (suc n) - 1 ≡ suc n = omega arith in
    rw (one, two, less) (goes (first e (omega arith)))

-- ---- a further byte

out_of : (low high b : ℕ) → (b < low → ⊥) → (high < b → ⊥) → Among low high b
out_of low high b f g = (omega (arith, f), omega (arith, g))

in_range : (r : List ℕ) (left low high b : ℕ) → ((Among low high b → ⊥) → Makes r b None) → (Among low high b → Makes r b (Some (as_asked left)))
    → Makes r b (character_turn (Begun left low high) b)
unfolding character_turn
in_range r left low high b f g =
    by_lt (Makes r b) b low (λ h. f (λ k. omega arith))
    (λ h. by_lt (Makes r b) high b (λ k. f (λ j. omega arith)) (λ k. g (h, k)))

asked_one : (r : List ℕ) (b : ℕ) → char_len (r ++ (b ∷ [])) ≡ suc (length r) → Makes r b (Some (as_asked 1))
asked_one r b e = whole e

asked_more : (r : List ℕ) (b n : ℕ) → 1 ≤ n → Read (r ++ (b ∷ [])) (Begun n 0x80 0xBF) → Makes r b (Some (as_asked (suc n)))
asked_more r b n h p =
    let e : ltb (suc n) 2 ≡ false = le-ltb (suc n) 2 (omega arith) in
    let d : suc n - 1 ≡ n = omega arith in
    rw (e, d) (goes p)

module _ (a b : ℕ) where
  second_breaks : 2 ≤ (lead_of a).0 → (Among (lead_of a).1 (lead_of a).2 b → ⊥) → Makes (a ∷ []) b None
  second_breaks h f =
      let is : (x : List ℕ) → BegunOf (a ∷ b ∷ x) 1 = λ x. begun_1 (omega arith) (λ k j m. f m) in
      breaks (λ x. no_char (a ∷ b ∷ x) 1 (is x) (omega arith))
      (λ x. fault_inside (a ∷ b ∷ x) 1 (is x) (omega arith) (λ z. omega arith) (λ z. omega arith))

  second_makes : (n : ℕ) → (lead_of a).0 ≡ suc n → 1 ≤ n → Among (lead_of a).1 (lead_of a).2 b → Makes (a ∷ []) b (Some (as_asked n))
  second_makes zero e h m = absurd (omega arith)
  second_makes (suc zero) e h m =
      asked_one (a ∷ []) b (all_char (a ∷ b ∷ []) 2 (begun_2 (omega arith) (omega arith) m (λ k. absurd (omega arith))) (omega arith) ∙ e)
  second_makes (suc (suc n)) e h m = asked_more (a ∷ []) b (suc n) (omega arith) (second e (omega arith) m)

module _ (a x b : ℕ) (m : Among (lead_of a).1 (lead_of a).2 x) where
  third_breaks : 3 ≤ (lead_of a).0 → (Among 0x80 0xBF b → ⊥) → Makes (a ∷ x ∷ []) b None
  third_breaks h f =
      let is : (t : List ℕ) → BegunOf (a ∷ x ∷ b ∷ t) 2 = λ t. begun_2 (omega arith) (omega arith) m (λ k j y. f y) in
      breaks (λ t. no_char (a ∷ x ∷ b ∷ t) 2 (is t) (omega arith))
      (λ t. fault_inside (a ∷ x ∷ b ∷ t) 2 (is t) (omega arith) (λ z. omega arith) (λ z. omega arith))

  third_makes : (n : ℕ) → (lead_of a).0 ≡ suc (suc n) → 1 ≤ n → Among 0x80 0xBF b → Makes (a ∷ x ∷ []) b (Some (as_asked n))
  third_makes zero e h y = absurd (omega arith)
  third_makes (suc zero) e h y =
      asked_one (a ∷ x ∷ []) b
      (all_char (a ∷ x ∷ b ∷ []) 3 (begun_3 (omega arith) (omega arith) m y (λ k. absurd (omega arith))) (omega arith) ∙ e)
  third_makes (suc (suc zero)) e h y = asked_more (a ∷ x ∷ []) b 1 (omega arith) (third e m y)
  third_makes (suc (suc (suc n))) e h y = absurd (omega (arith, (lead_fits a).0))

module _ (a x y b : ℕ) (m : Among (lead_of a).1 (lead_of a).2 x) (k : Among 0x80 0xBF y) (e : (lead_of a).0 ≡ 4) where
  fourth_breaks : (Among 0x80 0xBF b → ⊥) → Makes (a ∷ x ∷ y ∷ []) b None
  fourth_breaks f =
      let is : (t : List ℕ) → BegunOf (a ∷ x ∷ y ∷ b ∷ t) 3 = λ t. begun_3 (omega arith) (omega arith) m k (λ h j z. f z) in
      breaks (λ t. no_char (a ∷ x ∷ y ∷ b ∷ t) 3 (is t) (omega arith))
      (λ t. fault_inside (a ∷ x ∷ y ∷ b ∷ t) 3 (is t) (omega arith) (λ z. omega arith) (λ z. omega arith))

  fourth_makes : Among 0x80 0xBF b → Makes (a ∷ x ∷ y ∷ []) b (Some (as_asked 1))
  fourth_makes z =
      asked_one (a ∷ x ∷ y ∷ []) b
      (all_char (a ∷ x ∷ y ∷ b ∷ []) 4 (begun_4 (omega arith) (omega arith) m k z) (omega arith) ∙ e)

pub makes : (r : List ℕ) (c : Character) (b : ℕ) → Read r c → Makes r b (character_turn c b)
unfolding character_turn led_by
makes r c b none = lead_makes b (lead_of b).0 refl
makes r c b (first {a} {n} e h) =
    in_range (a ∷ []) n (lead_of a).1 (lead_of a).2 b (second_breaks a b (omega arith)) (second_makes a b n e h)
makes r c b (second {a} {b = x} {n} e h m) =
    in_range (a ∷ x ∷ []) n 0x80 0xBF b (third_breaks a x b m (omega arith)) (third_makes a x b m n e h)
makes r c b (third {a} {b = x} {c = y} e m k) =
    in_range (a ∷ x ∷ y ∷ []) 1 0x80 0xBF b (fourth_breaks a x y b m k e) (fourth_makes a x y b m k e)

-- ---- bytes of a character that is not whole

-- they are no character
pub read_none : (r : List ℕ) (c : Character) → Read r c → valid_prefix r ≡ 0
read_none r c none = omega (arith, valid_le [])
read_none r c (first {a} e h) = valid_none (a ∷ []) (no_char (a ∷ []) 1 (begun_1 (omega arith) (λ k j. absurd (omega arith))) (omega arith))
read_none r c (second {a} {b} e h m) =
    valid_none (a ∷ b ∷ []) (no_char (a ∷ b ∷ []) 2 (begun_2 (omega arith) (omega arith) m (λ k j. absurd (omega arith))) (omega arith))
read_none r c (third {a} {b} {c = y} e m k) =
    valid_none (a ∷ b ∷ y ∷ [])
    (no_char (a ∷ b ∷ y ∷ []) 3 (begun_3 (omega arith) (omega arith) m k (λ h j. absurd (omega arith))) (omega arith))

-- the bytes end inside it: none are at fault
pub read_fault : (r : List ℕ) (c : Character) → Read r c → 0 < length r → fault_len r ≡ 0
read_fault r c none p = absurd (omega arith)
read_fault r c (first {a} e h) p =
    fault_at_end (a ∷ []) 1 (begun_1 (omega arith) (λ k j. absurd (omega arith))) p (λ z. omega arith) (omega arith)
read_fault r c (second {a} {b} e h m) p =
    fault_at_end (a ∷ b ∷ []) 2 (begun_2 (omega arith) (omega arith) m (λ k j. absurd (omega arith))) p (λ z. omega arith) (omega arith)
read_fault r c (third {a} {b} {c = y} e m k) p =
    fault_at_end (a ∷ b ∷ y ∷ []) 3 (begun_3 (omega arith) (omega arith) m k (λ h j. absurd (omega arith))) p (λ z. omega arith) (omega arith)

-- there are some exactly where a character is in progress
pub read_some : (r : List ℕ) (left low high : ℕ) → Read r (Begun left low high) → 0 < length r
read_some r left low high (first e h) = omega arith
read_some r left low high (second e h m) = omega arith
read_some r left low high (third e m k) = omega arith

pub read_all : (r : List ℕ) → Read r Whole → r ≡ []
read_all r none = refl
