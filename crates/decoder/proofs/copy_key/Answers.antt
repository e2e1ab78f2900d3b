-- `copy_key` is right because it copies only what it has asked to be plain and within the limit.
use Rattle.std.proofs.Common.{arith}
use Rattle.text_classes.proofs.RunLaws.{run_le}
use Rattle.decoder_rules.specs.declared.Encoding.TheVariants.{UnquotedKey}
use Rattle.decoder_rules.specs.Encodings.{plain}
use Rattle.decoder.proofs.AtOnceLaws.{key_copied}
use Rattle.decoder.proofs.copy_key.Goals as goal

pub returns : goal.returns
returns c =
    let t = c.args.text.now in
    let copy = c.copy_all.ensures in
    let all = run_le (plain UnquotedKey) t in
    key_copied t c.args.output.now _ _
    (record { few = omega arith; some = omega arith; all = omega (arith, c.plain_run.ensures, all) }) copy.answer copy.output
