-- `put_byte` is right because each of its branches stores what the rule says.
use mathlib.Core.Path.{refl, sym, ◌∙◌, ap}
use native.Mathlib.Omega.{arith}
use lib.ListN.{length}
use Rattle.built_mending.proofs.SpellLaws.{slashed_is, coded_is, own_is}
use Rattle.built_mending.proofs.spell.put_byte.Goals as goal

pub put_short-requires : goal.put_short-requires
put_short-requires c =
    let e = slashed_is c.args.b (sym c.is_slashed.ensures ∙ c.if-is_slashed.true) in
    omega (arith, ap length e)

pub returns-then-is_slashed : goal.returns-then-is_slashed
returns-then-is_slashed c =
    let e = slashed_is c.args.b (sym c.is_slashed.ensures ∙ c.if-is_slashed.true) in
    rw e c.put_short.ensures

pub put_coded-requires : goal.put_coded-requires
put_coded-requires c =
    let off = sym c.is_slashed.ensures ∙ c.if-is_slashed.false in
    let e = coded_is c.args.b off (sym c.is_coded.ensures ∙ c.if-is_coded.true) in
    omega (arith, ap length e)

pub returns-then-is_coded : goal.returns-then-is_coded
returns-then-is_coded c =
    let off = sym c.is_slashed.ensures ∙ c.if-is_slashed.false in
    let e = coded_is c.args.b off (sym c.is_coded.ensures ∙ c.if-is_coded.true) in
    rw e c.put_coded.ensures

pub bounds-output-o : goal.bounds-output-o
bounds-output-o c =
    let off = sym c.is_slashed.ensures ∙ c.if-is_slashed.false in
    let e = own_is c.args.b off (sym c.is_coded.ensures ∙ c.if-is_coded.false) in
    omega (arith, ap length e)

pub overflow_add-result : goal.overflow_add-result
overflow_add-result c =
    let off = sym c.is_slashed.ensures ∙ c.if-is_slashed.false in
    let e = own_is c.args.b off (sym c.is_coded.ensures ∙ c.if-is_coded.false) in
    omega (arith, ap length e)

pub returns : goal.returns
returns c =
    let off = sym c.is_slashed.ensures ∙ c.if-is_slashed.false in
    let e = own_is c.args.b off (sym c.is_coded.ensures ∙ c.if-is_coded.false) in
    rw e (record { place = refl; holds = refl })
