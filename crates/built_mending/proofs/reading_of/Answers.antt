-- `reading_of` is right because a token is read as a string where its kind has an encoding, and only there.
use mathlib.Core.Path.{sym, ◌∙◌, ap}
use Rattle.std.specs.Prelude.{Result}
use Rattle.text_refusals.specs.declared.Refusal.{Refusal}
use Rattle.decoder_rules.specs.declared.Encoding.{Encoding}
use Rattle.decoder_rules.specs.Decoding.{errors_by}
use Rattle.built_mending.specs.Mending.{part_of, is_broken}
use Rattle.built_mending.proofs.reading_of.Goals as goal

pub returns-in_default : goal.returns-in_default
returns-in_default c =
    let a = c.args in
    let none = sym c.choice_of.ensures ∙ c.in_default.is in
    ap (λ (r : Result Encoding Refusal). is_broken (errors_by r (part_of a.doc.now a.token).text)) none

pub returns-then-is_broken : goal.returns-then-is_broken
returns-then-is_broken c = (sym c.choice_of.ensures ∙ c.in-Ok.is, sym c.is_broken.ensures ∙ c.if-is_broken.true)

pub returns-else-is_broken : goal.returns-else-is_broken
returns-else-is_broken c =
    let a = c.args in
    let some = sym c.choice_of.ensures ∙ c.in-Ok.is in
    ap (λ (r : Result Encoding Refusal). is_broken (errors_by r (part_of a.doc.now a.token).text)) some
    ∙ sym c.is_broken.ensures ∙ c.if-is_broken.false
