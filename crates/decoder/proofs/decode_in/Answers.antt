-- `decode_in` is right because a plain line decodes to what was copied of it in either edition, and any other is decoded as it stands.
use Rattle.std.proofs.Common.{length}
use Rattle.decoder_rules.proofs.NumberLaws.{decoded_numbers}
use Rattle.decoder_rules.proofs.PlainLaws.{plain_answer, plain_output, plain_records}
use Rattle.decoder.proofs.decode_in.Goals as goal

pub returns-in-Some : goal.returns-in-Some
returns-in-Some c =
    let a = c.args in
    let k = c.in-Some.ensures in
    let o = length a.output.now in
    let e = length a.errors.now in
    let answer = plain_answer k.size k.decodes o e k.room in
    let told = decoded_numbers a.text.now a.edition a.kind o e _ answer in
    record {
      answer = answer;
      output = plain_output k.size k.decodes _ _ k.holds;
      records = plain_records k.size k.decodes a.errors.now;
      number = told.0;
      value = told.1.0;
      noted = told.1.1.0;
      length = told.1.1.1;
    }
