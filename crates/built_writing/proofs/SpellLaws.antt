-- The spelling of a value, byte by byte and a run at a time: what the loops that count and write it show of what is left.
-- Assumes nothing.
use Rattle.std.proofs.Common.{◌≡◌, ℕ, ◌+◌, ◌*◌, ◌<◌, ◌≤◌, Bool, true, false, Option, Some, None, List, [], ◌∷◌, ◌++◌, length, take, drop, sym, refl, ap, ◌∙◌, arith, length-append, append_assoc}
use lib.Seq.{sets}
use Rattle.text_classes.specs.Classes.{basic_unescaped}
use Rattle.text_classes.specs.Runs.{run}
use Rattle.text_classes.proofs.Conds.{cond_case}
use Rattle.decoder_rules.proofs.StoreLaws.{Stored, sets_append}
use Rattle.built_writing.specs.Writing.{spelling_of, spelling, escape_of, spell, spelt}

-- ---- how many bytes a byte has

spelling_six : (r : Option ℕ) (b : ℕ) → length (spelling r b) ≤ 6
spelling_six (Some x) b = omega arith
spelling_six None b = omega arith

spell_six : (b : ℕ) → length (spell b) ≤ 6
unfolding spell
spell_six b =
    cond_case (λ (w : List ℕ). length w ≤ 6) (basic_unescaped b) (λ e. omega arith) (λ e. spelling_six (spelling_of b) b)

pub spelt_six : (s : List ℕ) → length (spelt s) ≤ 6 * length s
unfolding spelt
spelt_six [] = omega arith
spelt_six (b ∷ s) = omega (arith, length-append (spell b) (spelt s), spell_six b, spelt_six s)

-- ---- in parts

pub spelt_append : (a b : List ℕ) → spelt (a ++ b) ≡ spelt a ++ spelt b
unfolding spelt
spelt_append [] b = refl
spelt_append (x ∷ a) b = rw (spelt_append a b) (sym (append_assoc (spell x) (spelt a) (spelt b)))

-- a run of bytes that stand for themselves, at the front
run_said : (s : List ℕ) → spelt s ≡ take (run basic_unescaped s) s ++ spelt (drop (run basic_unescaped s) s)
unfolding spelt spell run
run_said [] = refl
run_said (b ∷ s) = go (basic_unescaped b) refl (run_said s)
  where
    go : (t : Bool) → basic_unescaped b ≡ t → spelt s ≡ take (run basic_unescaped s) s ++ spelt (drop (run basic_unescaped s) s)
        → spelt (b ∷ s) ≡ take (run basic_unescaped (b ∷ s)) (b ∷ s) ++ spelt (drop (run basic_unescaped (b ∷ s)) (b ∷ s))
    go true e more = rw e (ap (b ∷◌) more)
    go false e more = simp e

module _ (rest : List ℕ) where
  pub spelt_run : (front back : List ℕ) (k : ℕ) → k ≡ run basic_unescaped rest → front ≡ take k rest → back ≡ drop k rest
      → spelt rest ≡ front ++ spelt back
  spelt_run front back k is ahead behind = rw (ahead, behind, is) (run_said rest)

  module _ (b : ℕ) (after : List ℕ) (parts : rest ≡ b ∷ after) where
    pub run_some : basic_unescaped b ≡ true → 0 < run basic_unescaped rest
    unfolding run
    run_some plain = rw (parts, plain) (omega arith)

    -- a byte that does not stand for itself, at the front
    pub spelt_byte : basic_unescaped b ≡ false → spelt rest ≡ escape_of b ++ spelt after
    unfolding spelt spell
    spelt_byte other = rw (parts, other)

-- ---- the loop that writes s from place o₀ on of memory that held `old`: `rest` is left, and it has come to place o

pub record Putting (s old : List ℕ) (o₀ : ℕ) (out rest : List ℕ) (o : ℕ) : Type 0 where
  pub long : length out ≡ length old
  pub left : o + length (spelt rest) ≡ o₀ + length (spelt s)
  pub holds : sets out o (spelt rest) ≡ sets old o₀ (spelt s)

module _ {s old out : List ℕ} {o₀ o : ℕ} (rest w rest' : List ℕ) (said : spelt rest ≡ w ++ spelt rest') (p : Putting s old o₀ out rest o) where
  -- there is room for what a turn writes
  pub putting_room : o₀ + length (spelt s) ≤ length old → o + length w ≤ length out
  putting_room room = omega (arith, p.left, p.long, ap length said, length-append w (spelt rest'))

  pub putting_turn : (out₁ : List ℕ) (o₁ : ℕ) → length out₁ ≡ length out → Stored out o w o₁ out₁ → Putting s old o₀ out₁ rest' o₁
  putting_turn out₁ o₁ same stored =
      record {
        long = same ∙ p.long;
        left = omega (arith, p.left, stored.place, ap length said, length-append w (spelt rest'));
        holds =
            rw (stored.place, stored.holds) (sym (sets_append out o w (spelt rest')))
            ∙ ap (sets out o) (sym said) ∙ p.holds;
      }

nothing_spelt : (rest : List ℕ) → length rest ≡ 0 → spelt rest ≡ []
unfolding spelt
nothing_spelt [] none = refl
nothing_spelt (b ∷ rest) none = absurd (omega (arith, none))

pub spelt_none : (rest : List ℕ) → length rest ≡ 0 → length (spelt rest) ≡ 0
spelt_none rest none = rw (nothing_spelt rest none)

pub putting_end : {s old out : List ℕ} {o₀ o : ℕ} (rest : List ℕ) → length rest ≡ 0 → Putting s old o₀ out rest o → Stored old o₀ (spelt s) o out
putting_end {out = out} {o = o} rest none p =
    let nothing = nothing_spelt rest none in
    record { place = omega (arith, p.left, ap length nothing); holds = sym (ap (sets out o) nothing) ∙ p.holds }
