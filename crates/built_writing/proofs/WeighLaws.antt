-- What a byte, a block and what is passed over come to in a basic string: what the loops that measure a value show.
-- Assumes nothing.
use Rattle.std.proofs.Common.{◌≡◌, ℕ, ◌+◌, ◌%◌, ◌<◌, Bool, true, false, not, ◌||◌, T, eqb, ltb, List, [], ◌∷◌, ◌++◌, length, get_or, take, sym, refl, ap, ⊎_elim, zero-add, add-one, arith, length-append, length-take-le, eqb-true}
use Rattle.std.proofs.Math.Seq.{take-suc}
use Rattle.text_classes.specs.Runs.{run}
use Rattle.built_writing.proofs.SpellLaws.{spelt_append}
use types.Run.{OneOf}
use lib.Bits.{bit_xor}
use Rattle.text_classes.specs.Classes.{literal_char, basic_unescaped}
use Rattle.text_classes.proofs.ByteTable.{same, all_of, classes_agree, keys_are, rest_is}
use Rattle.text_classes.proofs.Conds.{or_inv, not_both}
use Rattle.built_writing.specs.Writing.{spelling_of, spell, spelt}
use Rattle.built_writing.specs.Measured.{control, Passed}

-- ---- a byte

-- with the tab's bits turned and 1 taken off, wrapped, the controls but the tab are the 31 from 0 on
pub control_is : (b w : ℕ) → b < 256 → w < 256 → (w + 1) % 256 ≡ bit_xor b 9 → ltb w 31 ≡ control b
control_is b w h i e =
    let x : bit_xor b 9 < 256 = omega arith in
    let same : (bit_xor b 9 + 255) % 256 ≡ w = omega arith in
    rw same at (classes_agree (λ n. ltb ((bit_xor n 9 + 255) % 256) 31) control 0 256 tt b (omega arith) h)

-- what one test says, computed over all bytes
module _ (b : ℕ) (byte : b < 256) where
  pub literal_else : control b ≡ false → (OneOf (0x27 ∷ 0x7F ∷ []) b → ⊥) → literal_char b ≡ true
  unfolding literal_char
  literal_else c k =
      or_inv (literal_char b) (control b)
      (sym (rest_is true (λ n. literal_char n || control n) (0x27 ∷ 0x7F ∷ []) 0 256 tt b k (omega arith) byte))
      (λ t. t) (λ t. not_both t c)

  -- a byte of a literal string that has no letter after a backslash is written as it is
  pub itself : (OneOf (0x22 ∷ 0x5C ∷ []) b → ⊥) → literal_char b ≡ true → length (spell b) ≡ 1
  unfolding spell spelling_of literal_char basic_unescaped
  itself k l =
      or_inv (not (literal_char b)) (eqb (length (spell b)) 1)
      (sym (rest_is true (λ n. not (literal_char n) || eqb (length (spell n)) 1) (0x22 ∷ 0x5C ∷ []) 0 256 tt b k (omega arith) byte))
      (λ t. not_both t (ap not l)) (λ t. eqb-true _ _ t)

  -- what has no letter after a backslash, and is not DEL
  module _ (k : OneOf (0x08 ∷ 0x0A ∷ 0x0C ∷ 0x22 ∷ 0x5C ∷ []) b → ⊥) (r : b ≡ 0x0D → ⊥) (d : b ≡ 0x7F → ⊥) where
    others : OneOf (0x0D ∷ 0x7F ∷ 0x08 ∷ 0x0A ∷ 0x0C ∷ 0x22 ∷ 0x5C ∷ []) b → ⊥
    others = ⊎_elim r (⊎_elim d k)

    pub coded : control b ≡ true → length (spell b) ≡ 6
    unfolding spell spelling_of basic_unescaped
    coded c =
        or_inv (not (control b)) (eqb (length (spell b)) 6)
        (sym (rest_is true (λ n. not (control n) || eqb (length (spell n)) 6) (0x0D ∷ 0x7F ∷ 0x08 ∷ 0x0A ∷ 0x0C ∷ 0x22 ∷ 0x5C ∷ []) 0 256 tt b others (omega arith) byte))
        (λ t. not_both t (ap not c)) (λ t. eqb-true _ _ t)

    pub unchanged : control b ≡ false → length (spell b) ≡ 1
    unfolding spell spelling_of basic_unescaped
    unchanged c =
        or_inv (control b) (eqb (length (spell b)) 1)
        (sym (rest_is true (λ n. control n || eqb (length (spell n)) 1) (0x0D ∷ 0x7F ∷ 0x08 ∷ 0x0A ∷ 0x0C ∷ 0x22 ∷ 0x5C ∷ []) 0 256 tt b others (omega arith) byte))
        (λ t. not_both t c) (λ t. eqb-true _ _ t)

-- the bytes of an arm are written with so many
pub arm : (n : ℕ) (ks : List ℕ) → T (all_of (λ b. same true (eqb (length (spell b)) n)) ks)
    → (b : ℕ) → OneOf ks b → length (spell b) ≡ n
arm n ks t b o = eqb-true _ _ (sym (keys_are true (λ b. eqb (length (spell b)) n) ks t o))

-- ---- a block, up to place i

-- one byte more
pub weighs_more : (s : List ℕ) (i m : ℕ) → i < length s → length (spell (get_or s i 0)) ≡ m
    → length (spelt (take (i + 1) s)) ≡ length (spelt (take i s)) + m
unfolding spelt
weighs_more s i m h e =
    let b = get_or s i 0 in
    let more : take (i + 1) s ≡ take i s ++ (b ∷ []) = rw add-one (take-suc s i 0 h) in
    let said = spelt_append (take i s) (b ∷ []) in
    omega (arith, ap (λ (t : List ℕ). length (spelt t)) more, ap length said, length-append (spelt (take i s)) (spelt (b ∷ [])), length-append (spell b) [], e)

pub run_append : (p : ℕ → Bool) (a b : List ℕ) → run p a ≡ length a → run p (a ++ b) ≡ length a + run p b
unfolding run
run_append p [] b all = rw zero-add
run_append p (x ∷ a) b all = go (p x) refl (run_append p a b)
  where
    go : (t : Bool) → p x ≡ t → (run p a ≡ length a → run p (a ++ b) ≡ length a + run p b)
        → run p ((x ∷ a) ++ b) ≡ length (x ∷ a) + run p b
    go true e more =
        let one = rw e at all in
        let rest : run p a ≡ length a = omega (arith, one) in
        rw e (omega (arith, more rest))
    go false e more = let one = rw e at all in absurd (omega (arith, one))

pub run_more : (p : ℕ → Bool) (s : List ℕ) (i : ℕ) → i < length s → p (get_or s i 0) ≡ true → run p (take i s) ≡ i → run p (take (i + 1) s) ≡ i + 1
unfolding run
run_more p s i h t all =
    let b = get_or s i 0 in
    let more : take (i + 1) s ≡ take i s ++ (b ∷ []) = rw add-one (take-suc s i 0 h) in
    let size = length-take-le i s (omega arith) in
    let whole = run_append p (take i s) (b ∷ []) (omega (arith, all, size)) in
    rw (more, whole, size, t)

-- ---- what is passed over

pub passed_none : (rest : List ℕ) (n : ℕ) → Passed rest n rest n
passed_none rest n = record { left = refl; same = omega arith }

pub passed_on : {a b c : List ℕ} {n m k : ℕ} → Passed a n b m → Passed b m c k → Passed a n c k
passed_on p q = record { left = omega (arith, p.left, q.left); same = omega (arith, p.same, q.same) }

pub passed_block : (rest block after : List ℕ) (n m : ℕ) → rest ≡ block ++ after → run literal_char block ≡ length block
    → length (spelt block) ≡ m → Passed rest n after (n + m)
passed_block rest block after n m parts all weighs =
    let said = ap length (spelt_append block after) in
    let runs = run_append literal_char block after all in
    record {
      left = rw parts (omega (arith, said, length-append (spelt block) (spelt after), weighs));
      same = rw parts (omega (arith, runs, length-append block after));
    }

pub passed_byte : (rest : List ℕ) (b : ℕ) (after : List ℕ) (n m : ℕ) → rest ≡ b ∷ after → literal_char b ≡ true → length (spell b) ≡ m
    → Passed rest n after (n + m)
unfolding spelt run
passed_byte rest b after n m parts plain weighs =
    let said = length-append (spell b) (spelt after) in
    record { left = rw parts (omega (arith, said, weighs)); same = rw (parts, plain) (omega arith) }

-- ---- where a run ends

pub run_ended : (p : ℕ → Bool) (s : List ℕ) → length s ≡ 0 → run p s ≡ 0
unfolding run
run_ended p [] none = refl
run_ended p (b ∷ s) none = absurd (omega (arith, none))

pub run_stopped : (p : ℕ → Bool) (s : List ℕ) (b : ℕ) (after : List ℕ) → s ≡ b ∷ after → p b ≡ false → run p s ≡ 0
unfolding run
run_stopped p s b after parts stop = rw (parts, stop)
