-- `refusal_at` is right because the document's two numbers are told by the token and the byte after it.
use Prim.Native.Nat.{ℕ, suc, ◌+◌, ◌-◌, ◌≤◌, ◌<◌}
use mathlib.Core.Path.{◌≡◌, sym, ap, ◌∙◌}
use mathlib.Core.List.{List}
use native.Mathlib.Omega.{arith}
use lib.ListN.{length, take, drop, length-take, length-drop}
use lib.Seq.{take_all}
use Rattle.text.specs.CheckMeans.{check_of}
use Rattle.text_scalars.proofs.ReadLaws.{valid_le}
use Rattle.lexer.specs.Table.{token_len}
use Rattle.lexer.proofs.TokenLaws.{token_fits}
use Rattle.theorems_tokens.proofs.CutLaws.{token_clean}
use Rattle.built_broken.proofs.ReadableLaws.{unread}
use Rattle.built_broken.proofs.FaultLaws.{token_invalid, value_told, fault_told}
use Rattle.built_broken.proofs.refusal_at.Goals.{then-end-doc, else-end-doc}
use Rattle.built_broken.proofs.refusal_at.Goals as goal

-- what is checked, up to `stop`, is the token and the byte after it where there is one
record Stopped (doc : List ℕ) (at stop : ℕ) : Type 0 where
  start : at ≤ stop
  within : stop ≤ length doc
  part : take (stop - at) (drop at doc) ≡ take (suc (token_len (drop at doc))) (drop at doc)

module _ (doc : List ℕ) (at end stop : ℕ) (h : at < length doc) (is : end ≡ at + token_len (drop at doc)) where
  with_next : end < length doc → stop ≡ end + 1 → Stopped doc at stop
  with_next more e =
      let size : stop - at ≡ suc (token_len (drop at doc)) = omega arith in
      record { start = omega arith; within = omega arith; part = ap (λ (k : ℕ). take k (drop at doc)) size }

  to_the_end : length doc ≤ end → stop ≡ end → Stopped doc at stop
  to_the_end none e =
      let s = drop at doc in
      let fits = token_fits s in
      let left = length-drop at doc in
      let size : stop - at ≡ length s = omega arith in
      record {
        start = omega arith;
        within = omega arith;
        part = ap (λ (k : ℕ). take k s) size ∙ take_all (length s) s (omega arith) ∙ sym (take_all (suc (token_len s)) s (omega arith));
      }

pub slice_bounds-check_utf8-end : goal.slice_bounds-check_utf8-end
slice_bounds-check_utf8-end c =
    let a = c.args in
    let k : Stopped a.doc.now a.at c.if-end-doc.stop = elim c.if-end-doc.branch [
      | then-end-doc w ↦ with_next a.doc.now a.at a.end _ c.requires.1 c.requires.2 w.if-end-doc.true w.stop-is
      | else-end-doc w ↦ to_the_end a.doc.now a.at a.end _ c.requires.1 c.requires.2 w.if-end-doc.false w.stop-is
    ] in
    k.within

pub overflow_add-result : goal.overflow_add-result
overflow_add-result c =
    let a = c.args in
    let s = drop a.at a.doc.now in
    let k : Stopped a.doc.now a.at c.if-end-doc.stop = elim c.if-end-doc.branch [
      | then-end-doc w ↦ with_next a.doc.now a.at a.end _ c.requires.1 c.requires.2 w.if-end-doc.true w.stop-is
      | else-end-doc w ↦ to_the_end a.doc.now a.at a.end _ c.requires.1 c.requires.2 w.if-end-doc.false w.stop-is
    ] in
    let r = sym c.in-Err.is ∙ c.check_utf8.ensures.answer ∙ ap check_of k.part in
    let value =
    value_told a.doc.now a.at (token_len s) (omega arith) c.requires.3 (token_clean s) (token_fits s) (unread _ c.requires.4) c.requires.0 _ r in
    omega (arith, c.value.ensures, value, valid_le (take (suc (token_len s)) s), length-take (suc (token_len s)) s, length-drop a.at a.doc.now)

pub returns-in-Ok : goal.returns-in-Ok
returns-in-Ok c =
    let a = c.args in
    let s = drop a.at a.doc.now in
    let k : Stopped a.doc.now a.at c.if-end-doc.stop = elim c.if-end-doc.branch [
      | then-end-doc w ↦ with_next a.doc.now a.at a.end _ c.requires.1 c.requires.2 w.if-end-doc.true w.stop-is
      | else-end-doc w ↦ to_the_end a.doc.now a.at a.end _ c.requires.1 c.requires.2 w.if-end-doc.false w.stop-is
    ] in
    absurd (token_invalid a.doc.now a.at (token_len s) (omega arith) c.requires.3 (token_clean s) (token_fits s) (unread _ c.requires.4)
    (sym c.in-Ok.is ∙ c.check_utf8.ensures.answer ∙ ap check_of k.part))

pub returns-in-Err : goal.returns-in-Err
returns-in-Err c =
    let a = c.args in
    let s = drop a.at a.doc.now in
    let k : Stopped a.doc.now a.at c.if-end-doc.stop = elim c.if-end-doc.branch [
      | then-end-doc w ↦ with_next a.doc.now a.at a.end _ c.requires.1 c.requires.2 w.if-end-doc.true w.stop-is
      | else-end-doc w ↦ to_the_end a.doc.now a.at a.end _ c.requires.1 c.requires.2 w.if-end-doc.false w.stop-is
    ] in
    let r = sym c.in-Err.is ∙ c.check_utf8.ensures.answer ∙ ap check_of k.part in
    rw (c.value.ensures, c.length.ensures)
    (fault_told a.doc.now a.at (token_len s) (omega arith) c.requires.3 (token_clean s) (token_fits s) (unread _ c.requires.4) c.requires.0 _ r)
