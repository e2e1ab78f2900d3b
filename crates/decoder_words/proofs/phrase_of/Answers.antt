-- `phrase_of` is right because what is expected comes after the message.
use Rattle.std.proofs.Common.{length, refl}
use Rattle.std.proofs.lemmas.Option.{slice_get_read}
use Rattle.decoder_words.specs.Words.{phrase_of, message, error_message, error_expects}
use Rattle.decoder_words.proofs.WordLaws.{later}
use Rattle.decoder_words.proofs.phrase_of.Goals as goal

pub returns : goal.returns
unfolding phrase_of
returns c =
    let a = c.args in
    let ps = c.expects_of.result.now in
    let p = c.in_ok-said.field-0.now in
    let there = c.in_ok-said.ensures.lookup in
    later (message (error_message a.error)) ps (error_expects a.v a.error) a.which p c.expects_of.ensures c.if-which-eq0.false
    (slice_get_read ps (length ps) _ p refl there.3.0 there.1)
