-- What it is that a promise admits one outcome only, for the functions of every crate; and that each promise of this
-- crate does. A theorem bears its function's name, and is about the function's own contract: `f.Reads.Learnt` is what a
-- caller of f learns of its `ensures`.
-- Assumes nothing.
use mathlib.Core.Path.{◌≡◌, sym, ◌∙◌}
use Rattle.text_classes.proofs as promised

-- A promise is about a function's lifetimes, its arguments, its result, and what its parameters hold at exit.
module _ {L : Type 0} {A R S : L → Type 0} (Promise : (κs : L) → A κs → R κs → S κs → Type 0) where
  -- any two outcomes that meet it for the same arguments are the same in what is looked at
  abbrev pub OneOutcome : {B : L → Type 0} → ((κs : L) → R κs → S κs → B κs) → Type 0
  OneOutcome look =
      (κs : L) (a : A κs) (x y : R κs) (s t : S κs) → Promise κs a x s → Promise κs a y t → look κs x s ≡ look κs y t

  -- looked at is the result: for a function that is lent no memory
  abbrev pub OneAnswer : Type 0
  OneAnswer = OneOutcome (λ κs r s. r)

-- what is looked at, together: a result and what lent memory holds
infixr 60 ◌and◌
abbrev pub ◌and◌ : {A B : Type 0} → A → B → A × B
a and b = (a, b)

-- two things that are each the same are the same together
pub both : {A B : Type 0} {a b : A} {c d : B} → a ≡ b → c ≡ d → a and c ≡ b and d
both p q = rw (p, q)

pub is_wschar : OneAnswer promised.is_wschar.Reads.Learnt
is_wschar κs a x y s t p q = p ∙ sym q

pub is_token_start : OneAnswer promised.is_token_start.Reads.Learnt
is_token_start κs a x y s t p q = p ∙ sym q

pub is_non_ascii : OneAnswer promised.is_non_ascii.Reads.Learnt
is_non_ascii κs a x y s t p q = p ∙ sym q

pub is_literal_char : OneAnswer promised.is_literal_char.Reads.Learnt
is_literal_char κs a x y s t p q = p ∙ sym q

pub is_mll_char : OneAnswer promised.is_mll_char.Reads.Learnt
is_mll_char κs a x y s t p q = p ∙ sym q

pub is_basic_unescaped : OneAnswer promised.is_basic_unescaped.Reads.Learnt
is_basic_unescaped κs a x y s t p q = p ∙ sym q

pub is_mlb_unescaped : OneAnswer promised.is_mlb_unescaped.Reads.Learnt
is_mlb_unescaped κs a x y s t p q = p ∙ sym q

pub is_digit : OneAnswer promised.is_digit.Reads.Learnt
is_digit κs a x y s t p q = p ∙ sym q

pub is_hexdig : OneAnswer promised.is_hexdig.Reads.Learnt
is_hexdig κs a x y s t p q = p ∙ sym q

pub is_unquoted_char : OneAnswer promised.is_unquoted_char.Reads.Learnt
is_unquoted_char κs a x y s t p q = p ∙ sym q

pub is_continuation : OneAnswer promised.is_continuation.Reads.Learnt
is_continuation κs a x y s t p q = p ∙ sym q

pub is_at : OneAnswer promised.is_at.Reads.Learnt
is_at κs a x y s t p q = p ∙ sym q

pub is_triple : OneAnswer promised.is_triple.Reads.Learnt
is_triple κs a x y s t p q = p ∙ sym q

-- of a function over any set: whatever the set's type is
pub run_of : (T : _) (laws : _) (copy : _) (G : _) (d : _) (C : _) (e : _)
    → OneAnswer (promised.sets.run_of.Reads.Learnt T laws copy G d C e)
run_of T laws copy G d C e κs a x y s t p q = p ∙ sym q

pub count_of : (T : _) (laws : _) (copy : _) (G : _) (d : _) (C : _) (e : _)
    → OneAnswer (promised.sets.count_of.Reads.Learnt T laws copy G d C e)
count_of T laws copy G d C e κs a x y s t p q = p ∙ sym q

-- of each set as a value: by its type's name and its function's
pub wschar_holds : OneAnswer promised.sets.WscharByteSet.holds.Reads.Learnt
wschar_holds κs a x y s t p q = p ∙ sym q

pub token_start_holds : OneAnswer promised.sets.TokenStartByteSet.holds.Reads.Learnt
token_start_holds κs a x y s t p q = p ∙ sym q

pub unquoted_char_holds : OneAnswer promised.sets.UnquotedCharByteSet.holds.Reads.Learnt
unquoted_char_holds κs a x y s t p q = p ∙ sym q

pub continuation_holds : OneAnswer promised.sets.ContinuationByteSet.holds.Reads.Learnt
continuation_holds κs a x y s t p q = p ∙ sym q

-- over any set: whatever the set's type is
pub not_holds : (T : _) (laws : _) (copy : _) (G : _) (d : _) (C : _) (e : _)
    → OneAnswer (promised.sets.NotByteSet.holds.Reads.Learnt T laws copy G d C e)
not_holds T laws copy G d C e κs a x y s t p q = p ∙ sym q
