-- `error_words` is right because the numbers are read by their definitions; and each text of an error is short.
use Rattle.decoder_words.proofs.WordLaws.{words_short}
use Rattle.decoder_words.proofs.error_words.Goals as goal

pub returns-clause-short : goal.returns-clause-short
returns-clause-short c = words_short _ _ _ _ c.words_of.ensures
