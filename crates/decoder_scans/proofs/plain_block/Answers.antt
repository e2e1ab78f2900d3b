-- `plain_block` is right because a byte that none of the tests finds is plain. A flag that is off after its test was off before it,
-- and the test failed.
use Rattle.std.proofs.Common.{◌≡◌, ◌+◌, ◌<◌, get_or, sym, arith}
use borrow.Author.Tests.{eqb-false, ltb-false}
use Rattle.text_classes.proofs.RunLaws.{block_step}
use Rattle.decoder_rules.specs.Encodings.{plain}
use Rattle.decoder_scans.specs.Scan.{stops_of}
use Rattle.decoder_scans.proofs.ScanLaws.{neither, clear_plain}
use Rattle.decoder_scans.proofs.plain_block.Goals as goal

pub loop-j-preserved : goal.loop-j-preserved
loop-j-preserved g c f t d l m =
    let e = g.S.Scanned.of in
    let s = c.args.s.now in
    let i = c.args.i in
    let at = c.loop-j in
    let byte : get_or s (i + at.j) 0 < 256 = omega (arith, c.type_inv.s (i + at.j)) in
    let stops : stops_of e ≡ c.stops_of-stops.result = sym (rw c.encoding.ensures at c.stops_of-stops.ensures) in
    let first = neither _ _ f in
    let second = neither _ _ t in
    let delete = neither _ _ d in
    let low = neither _ _ l in
    let mid = neither _ _ m in
    let clear = clear_plain e g.met.S.Scanned.wide _ c.wrapping_sub_u8.result byte (omega arith) (rw stops c.wrapping_sub_u8.ensures.value)
    (rw stops (eqb-false _ _ first.1)) (rw stops (eqb-false _ _ second.1)) (eqb-false _ _ delete.1) (rw stops (ltb-false _ _ low.1))
    (rw stops (ltb-false _ _ mid.1)) in
    block_step (plain e) s i at.j (omega arith) clear (at.invariant first.0 second.0 delete.0 low.0 mid.0)
