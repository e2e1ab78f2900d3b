-- `own_chars` is right because each turn goes over whole characters, and a comment goes on with them.
use Rattle.std.proofs.Common.{◌≡◌, ◌+◌, get_or, sym, ◌∙◌, arith}
use Rattle.text_characters.specs.Lead.{CharacterAt}
use Rattle.lexer_comments.proofs.FrontLaws.{own_of, own_one, own_two, wide_over, twos_over}
use Rattle.lexer_comments.proofs.own_chars.Goals as goal

pub loop-i-preserved-then-holds : goal.loop-i-preserved-then-holds
loop-i-preserved-then-holds c =
    let doc = c.args.doc.now in
    let at = c.loop-i in
    let one = own_of (get_or doc at.i 0) c.if-a-lt14.false c.if-a-lt128.true in
    let two = sym c.holds.ensures ∙ c.if-holds.true in
    (omega (arith, at.invariant.0), λ l. omega arith, λ from to. own_two doc from at.i (omega arith) one two (at.invariant.2 from to))

pub loop-i-preserved-else-holds : goal.loop-i-preserved-else-holds
loop-i-preserved-else-holds c =
    let doc = c.args.doc.now in
    let at = c.loop-i in
    let one = own_of (get_or doc at.i 0) c.if-a-lt14.false c.if-a-lt128.true in
    (omega (arith, at.invariant.0), λ l. omega arith, λ from to. own_one doc from at.i (omega arith) one (at.invariant.2 from to))

pub loop-i-preserved-then-is_two : goal.loop-i-preserved-then-is_two
loop-i-preserved-then-is_two c =
    let doc = c.args.doc.now in
    let at = c.loop-i in
    let next : at.i + 2 + 1 ≡ at.i + 3 = omega arith in
    let one : CharacterAt doc at.i 2 = c.is_two.ensures c.if-not-is_two.false _ _ in
    let two : CharacterAt doc (at.i + 2) 2 = rw next (c.is_two-then-a-lt224.ensures c.if-is_two.true _ _) in
    (omega (arith, at.invariant.0), λ l. omega arith, λ from to. twos_over doc from at.i (omega arith) one two (at.invariant.2 from to))

pub loop-i-preserved-else-is_two : goal.loop-i-preserved-else-is_two
loop-i-preserved-else-is_two c =
    let doc = c.args.doc.now in
    let at = c.loop-i in
    let one : CharacterAt doc at.i 2 = c.is_two.ensures c.if-not-is_two.false _ _ in
    (omega (arith, at.invariant.0), λ l. omega arith, λ from to. wide_over doc from at.i 2 (omega arith, one) (at.invariant.2 from to))

pub loop-i-preserved : goal.loop-i-preserved
loop-i-preserved c =
    let doc = c.args.doc.now in
    let at = c.loop-i in
    let wide = c.in-Some.ensures in
    (omega (arith, at.invariant.0), λ l. wide.0, λ from to. wide_over doc from at.i c.in-Some.n wide (at.invariant.2 from to))
