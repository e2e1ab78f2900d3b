-- `put_given` is right because each of the three things that a piece gives has its arm.
use mathlib.Core.Path.{ap}
use mathlib.Core.List.{List}
use Prim.Native.Nat.{ℕ}
use native.Mathlib.Omega.{arith}
use lib.ListN.{length}
use Rattle.decoder_rules.proofs.PieceLaws.{gives_copy, gives_char, gives_nothing}
use Rattle.decoder_rules.proofs.StoreLaws.{store_none}
use Rattle.built_mending.specs.Mending.{respelt}
use Rattle.built_mending.proofs.SpellLaws.{respelt_none}
use Rattle.built_mending.proofs.token.put_given.Goals as goal

pub put_bytes-requires : goal.put_bytes-requires
put_bytes-requires c =
    let a = c.args in
    let all = ap (λ (x : List ℕ). length (respelt x)) (gives_copy a.p a.s.now c.in-Copy.is) in
    omega (arith, all)

pub put_char-requires : goal.put_char-requires
put_char-requires c =
    let a = c.args in
    let all = ap (λ (x : List ℕ). length (respelt x)) (gives_char a.p a.s.now c.in-Char.c c.in-Char.is) in
    (rw c.in-Char.is at c.requires.0.char, omega (arith, all))

pub returns-in-Copy : goal.returns-in-Copy
returns-in-Copy c = rw (gives_copy c.args.p c.args.s.now c.in-Copy.is) c.put_bytes.ensures

pub returns-in-Char : goal.returns-in-Char
returns-in-Char c = rw (gives_char c.args.p c.args.s.now c.in-Char.c c.in-Char.is) c.put_char.ensures

pub returns-in-Nothing : goal.returns-in-Nothing
returns-in-Nothing c = rw (gives_nothing c.args.p c.args.s.now c.in-Nothing.is, respelt_none) (store_none _ _)
