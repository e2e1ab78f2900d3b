-- `count_token` is right because a token adds its kind, and then the errors of its text where it is a string.
use Prim.Native.Nat.{ℕ}
use mathlib.Core.Path.{ap, ◌∙◌}
use mathlib.Core.List.{List}
use Rattle.lexer_token.specs.Records.{text_of}
use Rattle.decoder_rules.specs.Decoding.{errors_of}
use Rattle.built_figures.specs.Figures.{added}
use Rattle.built_figures.specs.Counting.{error_figures}
use Rattle.built_figures.proofs.WalkLaws.{encoding_is, read_is, err_not_ok, kind_room, string_room, string_added, other_added}
use Rattle.built_figures.proofs.count_token.Goals as goal

pub count_kind-requires : goal.count_kind-requires
count_kind-requires c = kind_room c.args.doc.now c.args.token c.args.figures.now c.requires.2

pub count_errors-requires : goal.count_errors-requires
count_errors-requires c =
    let t = c.args.token in
    rw c.count_kind.ensures
    (string_room c.args.doc.now t c.args.figures.now c.requires.2 c.in-Ok-choice_by.e
    (read_is t.kind _ _ _ c.number.ensures c.in-Ok.ensures.answer c.in-Ok-choice_by.ensures))

pub returns-in-Ok-choice_by : goal.returns-in-Ok-choice_by
returns-in-Ok-choice_by c =
    let t = c.args.token in
    let doc = c.args.doc.now in
    let e = c.in-Ok-choice_by.e in
    c.count_errors.ensures ∙ ap (λ (r : List ℕ). added r (error_figures (errors_of e (text_of doc t)))) c.count_kind.ensures
    ∙ string_added doc t c.args.figures.now c.requires.2 e
    (read_is t.kind _ _ _ c.number.ensures c.in-Ok.ensures.answer c.in-Ok-choice_by.ensures)

pub returns-in_default-choice_by : goal.returns-in_default-choice_by
returns-in_default-choice_by c =
    let t = c.args.token in
    c.count_kind.ensures
    ∙ other_added c.args.doc.now t c.args.figures.now c.requires.2 _
    (read_is t.kind _ _ _ c.number.ensures c.in-Ok.ensures.answer c.in_default-choice_by.ensures)

-- a kind's number is not refused
pub returns-in_default : goal.returns-in_default
returns-in_default c = absurd (err_not_ok (encoding_is c.args.token.kind _ _ c.number.ensures c.in_default.ensures.answer))
