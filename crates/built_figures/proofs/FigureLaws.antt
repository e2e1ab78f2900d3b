-- Counts over lists that are joined are added; a kind and an error are each counted at a place of their own; and no count is
-- more than what is counted.
-- Assumes nothing.
use Prim.Native.Nat.{ℕ, zero, suc, ◌+◌, ◌≤◌, ◌<◌, ◌^◌}
use mathlib.Core.Path.{◌≡◌, refl, sym, ap, ◌∙◌}
use mathlib.Core.Bool.{Bool, true, false, cond}
use mathlib.Core.List.{List, [], ◌∷◌, ◌++◌}
use native.Mathlib.Omega.{arith}
use lib.Dec.{eqb}
use lib.ListN.{length, get_or, set}
use lib.Seq.{get_or-set_same}
use Rattle.lexer_token.specs.KindNumbers.{kind_number}
use Rattle.lexer_token.specs.declared.TokenKind.{TokenKind}
use Rattle.lexer_token.specs.declared.TokenKind.TheVariants.{Dot, Equals, Comma, LeftSquareBracket, RightSquareBracket, LeftCurlyBracket, RightCurlyBracket, Whitespace, Comment, Newline, LiteralString, BasicString, MlLiteralString, MlBasicString, Atom, Eof}
use Rattle.decoder_rules.specs.declared.DecodeError.{DecodeError}
use Rattle.decoder_rules.specs.declared.DecodeError.TheVariants.{LiteralMissingQuote, LiteralInvalid, MlLiteralMissingQuote, LoneCr, MlLiteralInvalid, BasicMissingQuote, BasicInvalid, MissingEscape, FewDigits, NotScalar, MlBasicMissingQuote, MlBasicInvalid, MissingNewline, EmptyKey, KeyInvalid}
use Rattle.decoder_rules.specs.Pieces.{error_number}
use Rattle.built_figures.specs.Figures.{times, times_each, kind_numbers, error_numbers, figures_for, added}
use Rattle.built_figures.specs.Counting.{Room, zeros, one_at, kind_slot}
use Rattle.built_figures.proofs.AddLaws.{added_zeros, added_assoc, added_at, added_length, added_parts, added_one, fit_left}

-- ---- lists that are joined

times_joined : (n : ℕ) (a b : List ℕ) → times n (a ++ b) ≡ times n a + times n b
unfolding times
times_joined n [] b = omega arith
times_joined n (m ∷ a) b = by (eqb m n) (times_joined n a b)
  where
    by : (t : Bool) → times n (a ++ b) ≡ times n a + times n b
        → cond t (suc (times n (a ++ b))) (times n (a ++ b)) ≡ cond t (suc (times n a)) (times n a) + times n b
    by true rest = omega (arith, rest)
    by false rest = rest

each_joined : (ns a b : List ℕ) → times_each ns (a ++ b) ≡ added (times_each ns a) (times_each ns b)
unfolding added
each_joined [] a b = refl
each_joined (n ∷ ns) a b = rw (times_joined n a b, each_joined ns a b)

parts_joined : (k l a b z : List ℕ) → length k ≡ length l → length a ≡ length b → added z z ≡ z
    → added (k ++ (a ++ z)) (l ++ (b ++ z)) ≡ added k l ++ (added a b ++ z)
parts_joined k l a b z kl ab zz =
    added_parts k (a ++ z) l (b ++ z) kl
    ∙ ap (λ (r : List ℕ). added k l ++ r) (added_parts a z b z ab ∙ ap (λ (r : List ℕ). added a b ++ r) zz)

pub figures_joined : (k l a b : List ℕ) → figures_for (k ++ l) (a ++ b) ≡ added (figures_for k a) (figures_for l b)
unfolding figures_for added
figures_joined k l a b =
    let none : List ℕ = 0 ∷ 0 ∷ [] in
    let kinds : List ℕ = added (times_each kind_numbers k) (times_each kind_numbers l) in
    ap (λ (r : List ℕ). r ++ (times_each error_numbers (a ++ b) ++ none)) (each_joined kind_numbers k l)
    ∙ ap (λ (r : List ℕ). kinds ++ (r ++ none)) (each_joined error_numbers a b)
    ∙ sym (parts_joined (times_each kind_numbers k) (times_each kind_numbers l) (times_each error_numbers a) (times_each error_numbers b) none refl refl refl)

pub figures_long : (k a : List ℕ) → length (figures_for k a) ≡ 33
unfolding figures_for
figures_long k a = refl

-- no figure is more than the number of what is counted
times_most : (n : ℕ) (seen : List ℕ) → times n seen ≤ length seen
unfolding times
times_most n [] = omega arith
times_most n (m ∷ seen) = by (eqb m n) (times_most n seen)
  where
    by : (t : Bool) → times n seen ≤ length seen → cond t (suc (times n seen)) (times n seen) ≤ suc (length seen)
    by true h = omega arith
    by false h = omega arith

each_most : (ns seen : List ℕ) (i : ℕ) → get_or (times_each ns seen) i 0 ≤ length seen
each_most [] seen i = omega arith
each_most (n ∷ ns) seen zero = times_most n seen
each_most (n ∷ ns) seen (suc i) = each_most ns seen i

joined_most : (xs ys : List ℕ) (b : ℕ) → ((i : ℕ) → get_or xs i 0 ≤ b) → ((i : ℕ) → get_or ys i 0 ≤ b)
    → (i : ℕ) → get_or (xs ++ ys) i 0 ≤ b
joined_most [] ys b f g i = g i
joined_most (x ∷ xs) ys b f g zero = f 0
joined_most (x ∷ xs) ys b f g (suc i) = joined_most xs ys b (λ j. f (suc j)) g i

zeros_most : (b i : ℕ) → get_or (0 ∷ 0 ∷ []) i 0 ≤ b
zeros_most b zero = omega arith
zeros_most b (suc zero) = omega arith
zeros_most b (suc (suc i)) = omega arith

pub figures_most : (k a : List ℕ) (i : ℕ) → get_or (figures_for k a) i 0 ≤ length k + length a
unfolding figures_for
figures_most k a i =
    let b = length k + length a in
    joined_most (times_each kind_numbers k) (times_each error_numbers a ++ (0 ∷ 0 ∷ [])) b (λ j. omega (arith, each_most kind_numbers k j))
    (joined_most (times_each error_numbers a) (0 ∷ 0 ∷ []) b (λ j. omega (arith, each_most error_numbers a j)) (zeros_most b)) i

-- nothing adds nothing
pub figures_none : figures_for [] [] ≡ zeros
unfolding figures_for times
figures_none = refl

pub none_added : (counts : List ℕ) → length counts ≡ 33 → added counts (figures_for [] []) ≡ counts
none_added counts long = ap (λ (r : List ℕ). added counts r) figures_none ∙ rw long at (added_zeros counts)

-- ---- one kind, one error

pub kind_figures : (k : TokenKind) → figures_for (kind_number k ∷ []) [] ≡ one_at (kind_slot k)
unfolding figures_for times
kind_figures Dot = refl
kind_figures Equals = refl
kind_figures Comma = refl
kind_figures LeftSquareBracket = refl
kind_figures RightSquareBracket = refl
kind_figures LeftCurlyBracket = refl
kind_figures RightCurlyBracket = refl
kind_figures Whitespace = refl
kind_figures Comment = refl
kind_figures Newline = refl
kind_figures LiteralString = refl
kind_figures BasicString = refl
kind_figures MlLiteralString = refl
kind_figures MlBasicString = refl
kind_figures Atom = refl
kind_figures Eof = refl

pub kind_within : (k : TokenKind) → kind_slot k < 33
kind_within Dot = omega arith
kind_within Equals = omega arith
kind_within Comma = omega arith
kind_within LeftSquareBracket = omega arith
kind_within RightSquareBracket = omega arith
kind_within LeftCurlyBracket = omega arith
kind_within RightCurlyBracket = omega arith
kind_within Whitespace = omega arith
kind_within Comment = omega arith
kind_within Newline = omega arith
kind_within LiteralString = omega arith
kind_within BasicString = omega arith
kind_within MlLiteralString = omega arith
kind_within MlBasicString = omega arith
kind_within Atom = omega arith
kind_within Eof = omega arith

pub error_figures_lem : (e : DecodeError) → figures_for [] (error_number e ∷ []) ≡ one_at (15 + error_number e)
unfolding figures_for times
error_figures_lem LiteralMissingQuote = refl
error_figures_lem LiteralInvalid = refl
error_figures_lem MlLiteralMissingQuote = refl
error_figures_lem LoneCr = refl
error_figures_lem MlLiteralInvalid = refl
error_figures_lem BasicMissingQuote = refl
error_figures_lem BasicInvalid = refl
error_figures_lem MissingEscape = refl
error_figures_lem FewDigits = refl
error_figures_lem NotScalar = refl
error_figures_lem MlBasicMissingQuote = refl
error_figures_lem MlBasicInvalid = refl
error_figures_lem MissingNewline = refl
error_figures_lem EmptyKey = refl
error_figures_lem KeyInvalid = refl

pub error_within : (e : DecodeError) → error_number e ≤ 15
error_within LiteralMissingQuote = omega arith
error_within LiteralInvalid = omega arith
error_within MlLiteralMissingQuote = omega arith
error_within LoneCr = omega arith
error_within MlLiteralInvalid = omega arith
error_within BasicMissingQuote = omega arith
error_within BasicInvalid = omega arith
error_within MissingEscape = omega arith
error_within FewDigits = omega arith
error_within NotScalar = omega arith
error_within MlBasicMissingQuote = omega arith
error_within MlBasicInvalid = omega arith
error_within MissingNewline = omega arith
error_within EmptyKey = omega arith
error_within KeyInvalid = omega arith

-- the place of a kind or of an error, as the code has it
pub kind_at : (k : TokenKind) (slot : ℕ) → slot ≡ kind_slot k → (slot < 33) × (figures_for (kind_number k ∷ []) [] ≡ one_at slot)
kind_at k slot is = (omega (arith, kind_within k), rw is (kind_figures k))

pub error_at : (e : DecodeError) (n : ℕ) → n ≡ error_number e → (15 + n < 33) × (figures_for [] (error_number e ∷ []) ≡ one_at (15 + n))
error_at e n is = (omega (arith, error_within e), rw is (error_figures_lem e))

-- ---- one more at a place of counts with room for it

module _ (counts : List ℕ) (slot : ℕ) (within : slot < 33) (room : Room counts (one_at slot)) where
  pub one_more : set counts slot (get_or counts slot 0 + 1) ≡ added counts (one_at slot)
  one_more = rw room.long at (added_one counts slot (omega (arith, room.long)))

  pub one_fits : get_or counts slot 0 + 1 < 2 ^ 64
  one_fits = omega (arith, room.fits slot, added_at counts (one_at slot) slot, get_or-set_same zeros slot 1 0 within)

-- ---- room for a sum is room for its parts, one after the other

module _ (counts f g : List ℕ) (long : length f ≡ 33) (room : Room counts (added f g)) where
  pub room_first : Room counts f
  room_first =
      record { long = room.long; fits = fit_left (added counts f) g (λ i. rw (added_assoc counts f g) (room.fits i)) }

  pub room_rest : Room (added counts f) g
  room_rest =
      record {
        long = added_length counts f (room.long ∙ sym long) ∙ room.long;
        fits = λ i. rw (added_assoc counts f g) (room.fits i);
      }
