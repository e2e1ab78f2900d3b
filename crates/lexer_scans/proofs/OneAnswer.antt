-- Each promise of this crate admits one answer only, but that of `find_in_blocks`. A theorem bears its function's name, and is about
-- the function's own contract: what a caller learns of its `ensures`.
-- Assumes nothing.
use Prim.Native.Nat.{ℕ}
use mathlib.Core.Path.{◌≡◌, refl, sym, ◌∙◌}
use mathlib.Core.List.{List, [], ◌∷◌}
use native.Mathlib.Omega.{arith}
use Rattle.lexer_scans.specs.Scans.{but_one, GoesOn}
use Rattle.text_classes.specs.Runs.{run}
use Rattle.text_classes.proofs.OneAnswer.{OneAnswer}
use Rattle.lexer_scans.proofs as promised

pub wschar_run : OneAnswer promised.wschar_run.Reads.Learnt
wschar_run κs a x y s t p q = p ∙ sym q

pub atom_run : OneAnswer promised.atom_run.Reads.Learnt
atom_run κs a x y s t p q = p ∙ sym q

pub comment_run : OneAnswer promised.comment_run.Reads.Learnt
comment_run κs a x y s t p q = p ∙ sym q

pub literal_tail : OneAnswer promised.literal_tail.Reads.Learnt
literal_tail κs a x y s t p q = p ∙ sym q

pub basic_tail : OneAnswer promised.basic_tail.Reads.Learnt
basic_tail κs a x y s t p q = p ∙ sym q

pub ml_literal_tail : OneAnswer promised.ml_literal_tail.Reads.Learnt
ml_literal_tail κs a x y s t p q = p ∙ sym q

pub ml_basic_tail : OneAnswer promised.ml_basic_tail.Reads.Learnt
ml_basic_tail κs a x y s t p q = p ∙ sym q

-- of a function over any set: whatever the set's type is
pub find : (T : _) (laws : _) (copy : _) (P : _) (c : _) (G : _) (d : _) (C : _) (e : _)
    → OneAnswer (promised.search.find.Reads.Learnt T laws copy P c G d C e)
find T laws copy P c G d C e κs a x y s t p q = p ∙ sym q

-- of each set as a value: by its type's name and its function's
pub but_one_holds : OneAnswer promised.search.ButOneByteSet.holds.Reads.Learnt
but_one_holds κs a x y s t p q = p ∙ sym q

pub but_two_holds : OneAnswer promised.search.ButTwoByteSet.holds.Reads.Learnt
but_two_holds κs a x y s t p q = p ∙ sym q

pub but_three_holds : OneAnswer promised.search.ButThreeByteSet.holds.Reads.Learnt
but_three_holds κs a x y s t p q = p ∙ sym q

-- The promise of `find_in_blocks` admits two answers, and this theorem says so: where no byte is found, any place before which there
-- is none. Here of a search for 0, of one byte 1.
abbrev one : List ℕ
one = 1 ∷ []

pub find_in_blocks : ((x y : ℕ) → GoesOn (but_one 0) one 0 x → GoesOn (but_one 0) one 0 y → x ≡ y) → ⊥
unfolding run
find_in_blocks only =
    let same : ◌≡◌ {A = ℕ} 0 1 = only 0 1 (omega arith, refl) (omega arith, refl) in
    omega arith
