-- `choice_of` is right because the encoding of a kind's number is the kind's own.
use Rattle.std.proofs.Common.{ap, ◌∙◌}
use Rattle.decoder_rules.specs.Encodings.{choice_by}
use Rattle.built_mending.proofs.ChoiceLaws.{encoding_read, encoding_found}
use Rattle.built_mending.proofs.choice_of.Goals as goal

pub returns : goal.returns
returns c =
    c.choice_by.ensures
    ∙ ap (choice_by c.args.edition) (encoding_read c.args.kind _ _ c.number.ensures c.in_ok-encoding.ensures.answer)

-- a kind's number is not refused
pub returns-in_err-encoding : goal.returns-in_err-encoding
returns-in_err-encoding c = absurd (encoding_found c.args.kind _ _ c.number.ensures c.in_err-encoding.ensures.answer)
