-- `near` is right because no byte that it passes moves the end of the run.
use Prim.Native.Nat.{ℕ, ◌+◌, ◌<◌}
use mathlib.Core.Path.{◌≡◌, refl, sym, ap, ◌∙◌}
use mathlib.Core.Bool.{Bool, false, not}
use mathlib.Core.List.{List}
use native.Mathlib.Omega.{arith}
use lib.ListN.{length, get_or}
use Rattle.text_classes.proofs.RunLaws.{Block, block_start, block_step}
use Rattle.lexer_scans.specs.Scans.{is_three, but_three}
use Rattle.lexer_scans.proofs.near.Goals as goal

-- a byte that does not matter
abbrev plain : ℕ → Bool
plain = but_three 34 92 10

-- n bytes that do not matter, and one more at the place j, of which r says so
next : (s : List ℕ) (i n j : ℕ) (r : Bool) → r ≡ is_three 34 92 10 (get_or s j 0) → r ≡ false → j ≡ i + n → i + n < length s
    → Block plain s i n → Block plain s i (n + 1)
next s i n j r e p same h b =
    let passed = ap not (ap (λ (k : ℕ). is_three 34 92 10 (get_or s k 0)) (sym same) ∙ sym e ∙ p) in
    block_step plain s i n h passed b

pub returns-then-ends_plain-2 : goal.returns-then-ends_plain-2
returns-then-ends_plain-2 c =
    let s = c.args.doc.now in
    let i = c.loop.i in
    let one = next s i 0 _ _ c.ends_plain.ensures c.if-ends_plain.false (omega arith) (omega arith) (block_start plain s i) in
    omega (arith, one)

pub returns-then-ends_plain-3 : goal.returns-then-ends_plain-3
returns-then-ends_plain-3 c =
    let s = c.args.doc.now in
    let i = c.loop.i in
    let one = next s i 0 _ _ c.ends_plain.ensures c.if-ends_plain.false (omega arith) (omega arith) (block_start plain s i) in
    let two = next s i 1 _ _ c.ends_plain-in-loop.ensures c.if-ends_plain-2.false refl (omega arith) one in
    omega (arith, two)

pub returns-then-ends_plain-4 : goal.returns-then-ends_plain-4
returns-then-ends_plain-4 c =
    let s = c.args.doc.now in
    let i = c.loop.i in
    let one = next s i 0 _ _ c.ends_plain.ensures c.if-ends_plain.false (omega arith) (omega arith) (block_start plain s i) in
    let two = next s i 1 _ _ c.ends_plain-in-loop.ensures c.if-ends_plain-2.false refl (omega arith) one in
    let three = next s i 2 _ _ c.ends_plain-in-loop-2.ensures c.if-ends_plain-3.false refl (omega arith) two in
    omega (arith, three)

pub loop-preserved : goal.loop-preserved
loop-preserved c =
    let s = c.args.doc.now in
    let i = c.loop.i in
    let one = next s i 0 _ _ c.ends_plain.ensures c.if-ends_plain.false (omega arith) (omega arith) (block_start plain s i) in
    let two = next s i 1 _ _ c.ends_plain-in-loop.ensures c.if-ends_plain-2.false refl (omega arith) one in
    let three = next s i 2 _ _ c.ends_plain-in-loop-2.ensures c.if-ends_plain-3.false refl (omega arith) two in
    let four = next s i 3 _ _ c.ends_plain-in-loop-3.ensures c.if-ends_plain-4.false refl (omega arith) three in
    omega (arith, four)
