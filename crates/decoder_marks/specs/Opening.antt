-- FOLLOWS. A text that is opened: the verdict on each of its marks, and its body, by the rules `ends_of` and `missing`.
-- Texts.antt states what reading it to the end comes to.
-- Assumes nothing.
use Rattle.std.specs.Prelude.{ℕ, false, List, length}
use Rattle.decoder_rules.specs.declared.Encoding.{Encoding}
use Rattle.decoder_rules.specs.Encodings.{mark_error}
use Rattle.decoder_rules.specs.Marks.{ends_of}
use Rattle.decoder_rules.specs.Decoding.{missing}
use Rattle.decoder_marks.specs.declared.Opened.{Opened}

unfoldable pub opened_of : Encoding → List ℕ → Opened
opened_of e t =
    record {
      opening = missing (ends_of e t).opened (mark_error e) 0;
      closing = missing (ends_of e t).closed (mark_error e) (length t);
      body = record { at = (ends_of e t).start; end = (ends_of e t).end; dropping = false };
    }
