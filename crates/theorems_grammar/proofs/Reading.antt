-- What it is to read a part of a body without error, for any definition of pieces.
-- The rest of the crate uses these names for what the four kinds of string have in common.
use Prim.Native.Nat.{ℕ, suc, ◌+◌, ◌≤◌, ◌<◌}
use mathlib.Core.Path.{◌≡◌, refl, sym, ◌∙◌, ap}
use mathlib.Core.Bool.{Bool, true, false, cond}
use mathlib.Core.List.{List, [], ◌∷◌, ◌++◌, append_assoc, append-eq-nil_iff}
use native.Mathlib.Omega.{arith}
use lib.ListN.{length, length-append, take, drop}
use lib.Seq.{take_at, drop_at}
use Rattle.text_classes.specs.Runs.{run}
use Rattle.text_scalars.specs.Utf8.{encode_scalar, encodes, All}
use Rattle.decoder_rules.specs.declared.Piece.{Piece}
use Rattle.std.specs.Prelude.{None}
use Rattle.decoder_rules.specs.Pieces.{gives, notes, notes_at, Pieces, collect, copy_piece, char_piece, drop_piece}
use Rattle.decoder_rules.proofs.PieceLaws.{gives_copy, gives_char, gives_nothing, collect_step, notes_none, notes_clean}
use Rattle.theorems_grammar.specs.Grammar.{Newline}
use Rattle.theorems_grammar.proofs.Encoded.{char_bytes}

-- X holds if the piece p has no error
abbrev pub IfClean : Type 0 → Piece → Type 0
IfClean X p = p.verdict ≡ None → X

-- a byte of the class f and the run of that class after it are one piece, which copies them
abbrev pub CopiesRuns : Pieces → (ℕ → Bool) → Type 0
CopiesRuns pieces f = (at b : ℕ) (s : List ℕ) → f b ≡ true → pieces false at (b ∷ s) ≡ copy_piece (suc (run f s))

module _ (pieces : Pieces) where
  -- the bytes s, which stand at `at`, have no error; d says whether they begin within a line-ending escape
  abbrev pub ErrorFree : Bool → ℕ → List ℕ → Type 0
  ErrorFree d at s = collect pieces notes_at 0 d at s ≡ []

  -- s, which stands at `at`, gives the bytes o without error, and s' is left, at `to`; d and d' say whether s and s' begin
  -- within a line-ending escape
  pub record Reads (d : Bool) (at : ℕ) (s o : List ℕ) (d' : Bool) (s' : List ℕ) : Type 0 where
    pub to : ℕ
    pub place : to + length s' ≡ at + length s
    pub quiet : collect pieces notes_at 0 d at s ≡ collect pieces notes_at 0 d' to s'
    pub bytes : collect pieces gives 0 d at s ≡ o ++ collect pieces gives 0 d' to s'

  pub reads_none : (d : Bool) (at : ℕ) (s : List ℕ) → Reads d at s [] d s
  reads_none d at s = record { to = at; place = refl; quiet = refl; bytes = refl }

  pub reads_then : {d : Bool} {at : ℕ} {d₁ d₂ : Bool} {s o s₁ o₁ s₂ : List ℕ}
      → (first : Reads d at s o d₁ s₁) → Reads d₁ first.to s₁ o₁ d₂ s₂ → Reads d at s (o ++ o₁) d₂ s₂
  reads_then {o = o} {o₁ = o₁} first second =
      record {
        to = second.to;
        place = second.place ∙ first.place;
        quiet = first.quiet ∙ second.quiet;
        bytes = first.bytes ∙ (ap (λ x. o ++ x) second.bytes ∙ sym (append_assoc o o₁ _));
      }

  -- the first piece, which takes t, has no error and gives o
  reads_piece : (d : Bool) (at : ℕ) (t s o : List ℕ) (p : Piece) → pieces d at (t ++ s) ≡ p → 0 < length t → p.take ≡ length t
      → p.verdict ≡ None → gives p (t ++ s) ≡ o → Reads d at (t ++ s) o p.dropping s
  reads_piece d at t s o p piece some-text taken clean given =
      let some : 0 < length (t ++ s) = omega (arith, length-append t s) in
      let takes : 0 < (pieces d at (t ++ s)).take = rw piece (omega arith) in
      let left : drop p.take (t ++ s) ≡ s = drop_at t s p.take (sym taken) in
      record {
        to = at + p.take;
        place = omega (arith, length-append t s);
        quiet = collect_step pieces notes_at d at (t ++ s) some takes ∙ rw (piece, notes_none p clean, left);
        bytes = collect_step pieces gives d at (t ++ s) some takes ∙ rw (piece, given, left);
      }

  -- it gives its bytes as they are, a character, or nothing
  pub reads_copy : (d : Bool) (at : ℕ) (t s : List ℕ) → pieces d at (t ++ s) ≡ copy_piece (length t) → 0 < length t
      → Reads d at (t ++ s) t false s
  reads_copy d at t s piece some =
      let copy = copy_piece (length t) in
      reads_piece d at t s t copy piece some refl refl (gives_copy copy (t ++ s) refl ∙ take_at t s (length t) refl)

  pub reads_for : (d : Bool) (at : ℕ) (t s : List ℕ) (v : ℕ) → pieces d at (t ++ s) ≡ char_piece (length t) v → 0 < length t
      → Reads d at (t ++ s) (encode_scalar v) false s
  reads_for d at t s v piece some =
      let char = char_piece (length t) v in
      reads_piece d at t s (encode_scalar v) char piece some refl refl (gives_char char (t ++ s) v refl)

  pub reads_drop : (d : Bool) (at : ℕ) (t s : List ℕ) → pieces d at (t ++ s) ≡ drop_piece (length t) → 0 < length t
      → Reads d at (t ++ s) [] true s
  reads_drop d at t s piece some =
      let dropped = drop_piece (length t) in
      reads_piece d at t s [] dropped piece some refl refl (gives_nothing dropped (t ++ s) refl)

  -- the code points cs give the value v, and nothing is left
  abbrev pub ReadsAs : List ℕ → List ℕ → Type 0
  ReadsAs cs v = (at : ℕ) → Reads false at (encodes cs) (encodes v) false []

  -- a code point of the class f gives itself
  abbrev pub ReadsChars : (ℕ → Bool) → Type 0
  ReadsChars f = (c at : ℕ) (s : List ℕ) → f c ≡ true → Reads false at (encode_scalar c ++ s) (encode_scalar c) false s

  -- a newline gives itself
  abbrev pub ReadsNewlines : Type 0
  ReadsNewlines = (n : List ℕ) → Newline n → (at : ℕ) (s : List ℕ) → Reads false at (n ++ s) n false s

  -- the first piece of a body that is read without error has no error
  pub first_clean : (d : Bool) (at b : ℕ) (r : List ℕ) → ErrorFree d at (b ∷ r) → (pieces d at (b ∷ r)).verdict ≡ None
  first_clean d at b r clean =
      notes_clean (pieces d at (b ∷ r)) (ap length ((append-eq-nil_iff {p = notes (pieces d at (b ∷ r))}).0 clean).0)

  -- a whole run of plain bytes is one piece, and yet its bytes may be read one by one
  module _ (f : ℕ → Bool) (plain : CopiesRuns pieces f) where
    -- g says `h n` of a piece that copies n bytes: what it says of the rest of a run, it says of its bytes one by one
    module _ {A : Type 0} (g : Piece → List ℕ → List A) (h : ℕ → List ℕ → List A) (none : (s : List ℕ) → h 0 s ≡ [])
        (copied : (n : ℕ) (s : List ℕ) → g (copy_piece n) s ≡ h n s) where
      rest_says : (at : ℕ) (s : List ℕ) → h (run f s) s ++ collect pieces g (run f s) false at s ≡ collect pieces g 0 false at s
      unfolding run
      rest_says at [] = rw (none [])
      rest_says at (b ∷ s) = by_test (f b) refl
        where
          by_test : (test : Bool) → f b ≡ test
              → h (cond test (suc (run f s)) 0) (b ∷ s) ++ collect pieces g (cond test (suc (run f s)) 0) false at (b ∷ s)
              ≡ collect pieces g 0 false at (b ∷ s)
          by_test true is = rw (plain at b s is, copied (suc (run f s)) (b ∷ s))
          by_test false is = rw (none (b ∷ s))

    pub reads_plain : (at b : ℕ) (s : List ℕ) → f b ≡ true → Reads false at (b ∷ s) (b ∷ []) false s
    unfolding gives notes
    reads_plain at b s e =
        record {
          to = suc at;
          place = omega arith;
          quiet = rw (plain at b s e) (rest_says notes_at (λ n r. []) (λ r. refl) (λ n r. refl) (suc at) s);
          bytes = rw (plain at b s e) (ap (b ∷◌) (rest_says gives take (λ r. refl) (λ n r. refl) (suc at) s));
        }

    reads_bytes : (bytes : List ℕ) → All (λ b. f b ≡ true) bytes → (at : ℕ) (s : List ℕ)
        → Reads false at (bytes ++ s) bytes false s
    reads_bytes [] class at s = reads_none false at s
    reads_bytes (b ∷ bytes) class at s =
        let first = reads_plain at b (bytes ++ s) class.0 in
        reads_then first (reads_bytes bytes class.1 first.to s)

    pub reads_char : ((b : ℕ) → 0x80 ≤ b → f b ≡ true) → ReadsChars f
    reads_char high c at s e = reads_bytes (encode_scalar c) (char_bytes high c e) at s
