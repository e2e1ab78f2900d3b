-- `put_gap` is right because it stores a space where there is a quotation mark, and else nothing.
use mathlib.Core.Path.{◌≡◌, refl, ap}
use native.Mathlib.Omega.{arith}
use lib.ListN.{length}
use Rattle.decoder_rules.proofs.StoreLaws.{store_none}
use Rattle.built_mending.specs.Mending.{gap}
use Rattle.built_mending.proofs.token.put_gap.Goals as goal

pub bounds-output-o : goal.bounds-output-o
bounds-output-o c = let e : length (gap c.args.quoted) ≡ 1 = ap (λ q. length (gap q)) c.if-quoted.true in omega arith

pub overflow_add-result : goal.overflow_add-result
overflow_add-result c = let e : length (gap c.args.quoted) ≡ 1 = ap (λ q. length (gap q)) c.if-quoted.true in omega arith

pub returns-then-quoted : goal.returns-then-quoted
returns-then-quoted c = rw c.if-quoted.true (record { place = refl; holds = refl })

pub returns : goal.returns
returns c = rw c.if-quoted.false (store_none c.args.output.now c.args.o)
