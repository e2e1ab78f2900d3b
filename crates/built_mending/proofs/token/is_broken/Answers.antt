-- `is_broken` is right because the errors of a text are those of its marks and then those of its body.
use Rattle.std.proofs.Common.{◌≡◌, ℕ, Bool, ◌||◌, List, is_some, refl, sym, ◌∙◌, ap}
use mathlib.Core.Bool.{false≢true}
use Rattle.decoder_rules.specs.declared.Encoding.{Encoding}
use Rattle.decoder_rules.specs.Decoding.{errors_of}
use Rattle.decoder_pieces.specs.Steps.{errors_left}
use Rattle.decoder_marks.specs.declared.Opened.{Opened}
use Rattle.decoder_marks.specs.Opening.{opened_of}
use Rattle.decoder_marks.proofs.OpenLaws.{opened_errors}
use Rattle.built_mending.specs.Mending.{is_broken}
use Rattle.built_mending.proofs.PieceLaws.{broken_by}
use Rattle.built_mending.proofs.token.is_broken.Goals as goal
use Rattle.built_mending.proofs.token.is_broken.Goals.{then-is_some, else-is_some}

-- the answer by the three parts
broken_parts : (e : Encoding) (t : List ℕ) (o : Opened) → o ≡ opened_of e t
    → is_broken (errors_of e t) ≡ (is_some o.opening || (is_some o.closing || is_broken (errors_left e t o.body)))
broken_parts e t o is =
    ap is_broken (opened_errors e t o is) ∙ broken_by o.opening _
    ∙ ap (λ (x : Bool). is_some o.opening || x) (broken_by o.closing (errors_left e t o.body))

pub returns-then-is_some-2 : goal.returns-then-is_some-2
returns-then-is_some-2 c =
    let o = c.open_text-opened in
    let parts = broken_parts c.args.e c.args.text.now o.result o.ensures in
    elim c.if-is_some.branch [
      | then-is_some w ↦ c.if-is_some-2.true ∙ sym (parts ∙ rw (← w.if-is_some.ensures) refl)
      | else-is_some w ↦
          let closing = sym w.is_some-else-is_some.ensures ∙ sym w.value-is ∙ c.if-is_some-2.true in
          c.if-is_some-2.true ∙ sym (parts ∙ rw (← w.if-is_some.ensures, closing) refl)
    ]

pub returns-else-is_some-2 : goal.returns-else-is_some-2
returns-else-is_some-2 c =
    let o = c.open_text-opened in
    let parts = broken_parts c.args.e c.args.text.now o.result o.ensures in
    elim c.if-is_some.branch [
      | then-is_some w ↦ absurd (false≢true (sym c.if-is_some-2.false ∙ w.value-is ∙ w.if-is_some.true))
      | else-is_some w ↦
          let closing = sym w.is_some-else-is_some.ensures ∙ sym w.value-is ∙ c.if-is_some-2.false in
          c.has_error.ensures ∙ sym (parts ∙ rw (← w.if-is_some.ensures, closing) refl)
    ]
