-- Each token ends at a place where no character is cut: at the end, or right before or after an ASCII byte.
-- Assumes nothing.
use Prim.Native.Nat.{ℕ, suc, ◌+◌, ◌<◌}
use mathlib.Core.Path.{◌≡◌, refl}
use mathlib.Core.Bool.{Bool, true, false, not, ◌&&◌, ◌||◌, false≢true}
use mathlib.Core.List.{List, [], ◌∷◌}
use native.Mathlib.Omega.{arith}
use lib.ListN.{drop}
use lib.Dec.{T, eqb, ltb, ltb→lt}
use borrow.Author.Tests.{eqb-true, not-false}
use Rattle.text_classes.specs.Classes.{wschar, token_start}
use Rattle.text_classes.specs.Runs.{run, triple}
use Rattle.text_classes.proofs.Conds.{cond_case, both_right, not_both}
use Rattle.text_classes.proofs.ByteTable.{all_of, and_left as front_of, and_right as rest_of}
use Rattle.lexer_token.specs.declared.TokenKind.{TokenKind}
use Rattle.lexer_scans.specs.Extents.{eol, hides, closes, in_comment, in_atom}
use Rattle.lexer_scans.specs.Extents.{line_tail, up_to_two, ml_tail, newline_tail}
use Rattle.lexer.specs.Table.{kind_of, extent, token_len}
use Rattle.lexer.proofs.KindLaws.{by_kind}
use Rattle.theorems_tokens.specs.Cuts.{Clean, at_end, before, after, further}

-- ---- the classes of ASCII bytes

abbrev Ascii : (ℕ → Bool) → Type 0
Ascii p = (b : ℕ) → p b ≡ true → b < 0x80

-- the class of one ASCII byte
one_ascii : (n : ℕ) → n < 0x80 → Ascii (λ b. eqb b n)
one_ascii n h b t = omega (arith, eqb-true b n t)

or_ascii : (p q : ℕ → Bool) → Ascii p → Ascii q → Ascii (λ b. p b || q b)
or_ascii p q f g b = go (p b) (f b)
  where
    go : (x : Bool) → (x ≡ true → b < 0x80) → (x || q b) ≡ true → b < 0x80
    go true h t = h refl
    go false h t = g b t

eol_ascii : Ascii eol
eol_ascii = or_ascii (λ b. eqb b 13) (λ b. eqb b 10) (one_ascii 13 (omega arith)) (one_ascii 10 (omega arith))

wschar_ascii : Ascii wschar
unfolding wschar
wschar_ascii = or_ascii (λ b. eqb b 0x20) (λ b. eqb b 0x09) (one_ascii 0x20 (omega arith)) (one_ascii 0x09 (omega arith))

-- the byte is one of a list
abbrev among : List ℕ → ℕ → Bool
among [] b = false
among (n ∷ []) b = eqb b n
among (n ∷ m ∷ ns) b = eqb b n || among (m ∷ ns) b

abbrev low : ℕ → Bool
low n = ltb n 0x80

among_ascii : (ns : List ℕ) → T (all_of low ns) → Ascii (among ns)
among_ascii [] h b t = absurd (false≢true t)
among_ascii (n ∷ []) h b t = one_ascii n (ltb→lt n 0x80 (front_of (low n) true h)) b t
among_ascii (n ∷ m ∷ ns) h b t =
    or_ascii (λ b. eqb b n) (among (m ∷ ns)) (one_ascii n (ltb→lt n 0x80 (front_of (low n) (all_of low (m ∷ ns)) h)))
    (among_ascii (m ∷ ns) (rest_of (low n) (all_of low (m ∷ ns)) h)) b t

start_ascii : Ascii token_start
unfolding token_start
start_ascii =
    among_ascii (0x2E ∷ 0x3D ∷ 0x2C ∷ 0x5B ∷ 0x5D ∷ 0x7B ∷ 0x7D ∷ 0x20 ∷ 0x09 ∷ 0x23 ∷ 0x0D ∷ 0x0A ∷ []) tt

-- ---- each extent

-- a run that only an ASCII byte stops
run_clean : (p : ℕ → Bool) → ((b : ℕ) → p b ≡ false → b < 0x80) → (s : List ℕ) → Clean s (run p s)
unfolding run
run_clean p f [] = at_end
run_clean p f (b ∷ s) = cond_case (Clean (b ∷ s)) (p b) (λ _. further (run_clean p f s)) (λ t. before (f b t))

-- an ASCII byte and a run of ASCII bytes after it
run_after : (p : ℕ → Bool) → Ascii p → (a : ℕ) (s : List ℕ) → a < 0x80 → Clean (a ∷ s) (suc (run p s))
unfolding run
run_after p f a [] h = after h
run_after p f a (b ∷ s) h =
    cond_case (λ (n : ℕ). Clean (a ∷ b ∷ s) (suc n)) (p b) (λ t. further (run_after p f b s (f b t))) (λ t. after h)

line_clean : (q : ℕ) (h : Bool) (s : List ℕ) → q < 0x80 → Clean s (line_tail q h s)
unfolding line_tail
line_clean q h [] l = at_end
line_clean q h (b ∷ s) l =
    cond_case (Clean (b ∷ s)) (closes q h b) (λ t. after (one_ascii q l b (both_right (not h) _ t)))
    λ _. cond_case (Clean (b ∷ s)) (eqb b 10) (λ t. before (one_ascii 10 (omega arith) b t))
    (λ _. further (line_clean q (hides q h b) s l))

-- an ASCII byte and up to two marks after it
two_after : (q a : ℕ) (s : List ℕ) → q < 0x80 → a < 0x80 → Clean (a ∷ s) (suc (up_to_two q s))
unfolding up_to_two
two_after q a [] m h = after h
two_after q a (x ∷ []) m h =
    cond_case (λ (n : ℕ). Clean (a ∷ x ∷ []) (suc n)) (eqb x q) (λ t. further (after (one_ascii q m x t))) (λ _. after h)
two_after q a (x ∷ y ∷ s) m h =
    let P : ℕ → Type 0 = λ n. Clean (a ∷ x ∷ y ∷ s) (suc n) in
    cond_case P (eqb x q)
    (λ t. cond_case P (eqb y q) (λ u. further (further (after (one_ascii q m y u)))) (λ _. further (after (one_ascii q m x t))))
    (λ _. after h)

closing_clean : (q : ℕ) (s : List ℕ) → q < 0x80 → triple q s ≡ true → Clean s (suc (suc (suc (up_to_two q (drop 3 s)))))
unfolding triple
closing_clean q [] m t = not_both t refl
closing_clean q (x ∷ []) m t = not_both (both_right (eqb x q) _ t) refl
closing_clean q (x ∷ y ∷ []) m t = not_both (both_right (eqb y q) _ (both_right (eqb x q) _ t)) refl
closing_clean q (x ∷ y ∷ z ∷ s) m t =
    further (further (two_after q z s m (one_ascii q m z (both_right (eqb y q) _ (both_right (eqb x q) _ t)))))

ml_clean : (q : ℕ) (h : Bool) (s : List ℕ) → q < 0x80 → Clean s (ml_tail q h s)
unfolding ml_tail
ml_clean q h [] m = at_end
ml_clean q h (b ∷ s) m =
    cond_case (Clean (b ∷ s)) (not h && triple q (b ∷ s))
    (λ t.
    let e : 3 + up_to_two q (drop 3 (b ∷ s)) ≡ suc (suc (suc (up_to_two q (drop 3 (b ∷ s))))) = omega arith in
    rw e (closing_clean q (b ∷ s) m (both_right (not h) _ t)))
    (λ t. further (ml_clean q (hides q h b) s m))

-- a multi-line string with its opening of three marks
ml_whole_clean : (q b : ℕ) (s : List ℕ) → q < 0x80 → triple b (b ∷ s) ≡ true
    → Clean (b ∷ s) (suc (suc (suc (ml_tail q false (drop 3 (b ∷ s))))))
unfolding triple
ml_whole_clean q b [] m t = not_both (both_right (eqb b b) _ t) refl
ml_whole_clean q b (y ∷ []) m t = not_both (both_right (eqb y b) _ (both_right (eqb b b) _ t)) refl
ml_whole_clean q b (y ∷ z ∷ s) m t = further (further (further (ml_clean q false s m)))

newline_clean : (b : ℕ) (s : List ℕ) → b < 0x80 → Clean (b ∷ s) (suc (newline_tail (b ∷ s)))
unfolding newline_tail
newline_clean b [] h =
    cond_case (λ (n : ℕ). Clean (b ∷ []) (suc n)) (eqb b 13 && false) (λ t. not_both (both_right (eqb b 13) _ t) refl) (λ _. after h)
newline_clean b (x ∷ s) h =
    cond_case (λ (n : ℕ). Clean (b ∷ x ∷ s) (suc n)) (eqb b 13 && eqb x 10)
    (λ t. further (after (one_ascii 10 (omega arith) x (both_right (eqb b 13) _ t)))) (λ _. after h)

pub token_clean : (s : List ℕ) → Clean s (token_len s)
unfolding token_len kind_of extent
token_clean [] = at_end
token_clean (b ∷ s) =
    by_kind (λ (k : TokenKind). Clean (b ∷ s) (extent k (b ∷ s))) b (triple b (b ∷ s))
    (λ e. after (omega arith)) (λ e. after (omega arith)) (λ e. after (omega arith)) (λ e. after (omega arith))
    (λ e. after (omega arith)) (λ e. after (omega arith)) (λ e. after (omega arith))
    (λ t. run_after wschar wschar_ascii b s (wschar_ascii b t))
    (λ e. further (run_clean in_comment (λ x u. eol_ascii x (not-false _ u)) s))
    (λ t. newline_clean b s (eol_ascii b t))
    (λ e. further (line_clean 39 false s (omega arith)))
    (λ e. further (line_clean 34 false s (omega arith)))
    (λ _. ml_whole_clean 39 b s (omega arith))
    (λ _. ml_whole_clean 34 b s (omega arith))
    (further (run_clean in_atom (λ x u. start_ascii x (not-false _ u)) s))
