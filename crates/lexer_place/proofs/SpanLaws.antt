-- A span that the check lets pass lies in the document, and the text of a span goes by the check's answer.
-- Assumes nothing.
use Prim.Native.Nat.{ℕ, ◌≤◌}
use Rattle.std.specs.Prelude.{Result, Ok, ⊤}
use mathlib.Core.Path.{◌≡◌, refl, sym, ap, ◌∙◌}
use mathlib.Core.Bool.{Bool, true, false, ◌||◌}
use mathlib.Core.List.{List}
use borrow.Author.Tests.{ltb-false}
use lib.ListN.{length}
use lib.Dec.{ltb}
use Rattle.text_classes.proofs.Conds.{cond_case, not_both}
use Rattle.text_refusals.specs.Refusals.{limit}
use Rattle.text_refusals.specs.declared.Refusal.{Refusal}
use Rattle.lexer_token.specs.declared.Span.{Span}
use Rattle.lexer_place.specs.Spans.{inside, misplaced, span_answer, text_checked, span_text}

pub or_false : (x y : Bool) → (x || y) ≡ false → (x ≡ false) × (y ≡ false)
or_false true y t = not_both refl t
or_false false y t = (refl, t)

abbrev LiesIn : List ℕ → Span → Type 0
LiesIn doc s = (s.start ≤ s.end) × (s.end ≤ length doc)

pub span_whole : (doc : List ℕ) (s : Span) → span_answer doc s ≡ Ok tt → LiesIn doc s
unfolding span_answer
span_whole doc s =
    let P : Result ⊤ Refusal → Type 0 = λ r. r ≡ Ok tt → LiesIn doc s in
    cond_case P (ltb limit (length doc)) (λ t e. cc)
    λ u. cond_case P (misplaced doc s) (λ t e. cc)
    λ t e.
    let cut = inside doc s.start || inside doc s.end in
    let all = or_false (ltb (length doc) s.end) (ltb s.end s.start || cut) t in
    let order = or_false (ltb s.end s.start) cut all.1 in
    (ltb-false _ _ order.0, ltb-false _ _ all.0)

pub text_by_check : (doc : List ℕ) (s : Span) {r q : Result ⊤ Refusal} → r ≡ span_answer doc s → r ≡ q
    → text_checked q doc s ≡ span_text doc s
unfolding span_text
text_by_check doc s e f = ap (λ (x : Result ⊤ Refusal). text_checked x doc s) (sym f ∙ e)
