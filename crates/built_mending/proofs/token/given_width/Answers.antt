-- `given_width` is right because each of the three things that a piece gives has its arm.
use native.Mathlib.Omega.{arith}
use lib.ListN.{length-take}
use Rattle.decoder_rules.proofs.PieceLaws.{gives_copy, gives_char, gives_nothing}
use Rattle.built_mending.proofs.SpellLaws.{respelt_none}
use Rattle.built_mending.proofs.token.given_width.Goals as goal

pub width_of-requires : goal.width_of-requires
width_of-requires c = omega (arith, length-take c.args.p.take c.args.s.now, c.requires.1)

pub char_width-requires : goal.char_width-requires
char_width-requires c = rw c.in-Char.is at c.requires.0.char

pub returns-in-Copy : goal.returns-in-Copy
returns-in-Copy c = rw (gives_copy c.args.p c.args.s.now c.in-Copy.is) c.width_of.ensures

pub returns-in-Char : goal.returns-in-Char
returns-in-Char c = rw (gives_char c.args.p c.args.s.now c.in-Char.c c.in-Char.is) c.char_width.ensures

pub returns-in-Nothing : goal.returns-in-Nothing
returns-in-Nothing c = rw (gives_nothing c.args.p c.args.s.now c.in-Nothing.is, respelt_none)
