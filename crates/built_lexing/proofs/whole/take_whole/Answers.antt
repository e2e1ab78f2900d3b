-- `take_whole` is right because each whole token leaves what is stored in the end as it was, and so does what there is of the next one.
-- The measure is what is left of the part.
use mathlib.Core.Path.{ap, ◌∙◌}
use mathlib.Core.List.{[], ◌∷◌, map}
use native.Mathlib.Omega.{arith}
use lib.Seq.{sets}
use Rattle.lexer_token.specs.declared.Token.{Token}
use Rattle.lexer_token.specs.declared.Span.{Span}
use Rattle.lexer_token.specs.Records.{record_of, token_of}
use Rattle.built_lexing.specs.States.{idle_at}
use Rattle.built_lexing.proofs.WholeLaws.{token_found, open_token, onward_none, onward_leapt, onward_open}
use Rattle.built_lexing.proofs.whole.take_whole.Goals as goal

pub loop-kind-init : goal.loop-kind-init
loop-kind-init c =
    let a = c.args in
    onward_none a.part.now (idle_at a.first a.line) a.start a.n a.records.now c.requires.0 c.requires.2

pub overflow_sub-stop : goal.overflow_sub-stop
overflow_sub-stop c =
    let l = c.loop-kind in
    let w = token_found c.args.part.now l.i l.invariant.within c.token_at.result _ _ _ c.in-Whole.is c.token_at.ensures in
    omega (arith, w.forward)

pub overflow_add-stop : goal.overflow_add-stop
overflow_add-stop c =
    let l = c.loop-kind in
    let w = token_found c.args.part.now l.i l.invariant.within c.token_at.result _ _ _ c.in-Whole.is c.token_at.ensures in
    let u = l.invariant in
    omega (arith, w.forward, w.within, w.few, u.at, u.low, u.forward, c.requires.1)

pub put-count-requires : goal.put-count-requires
put-count-requires c =
    let u = c.loop-kind.invariant in
    omega (arith, u.count, c.requires.3)

pub overflow_add-on : goal.overflow_add-on
overflow_add-on c =
    let l = c.loop-kind in
    let w = token_found c.args.part.now l.i l.invariant.within c.token_at.result _ _ _ c.in-Whole.is c.token_at.ensures in
    let u = l.invariant in
    omega (arith, w.forward, w.within, w.few, u.at, u.low, u.forward, c.requires.1)

pub loop-kind-smaller : goal.loop-kind-smaller
loop-kind-smaller c =
    let l = c.loop-kind in
    let w = token_found c.args.part.now l.i l.invariant.within c.token_at.result _ _ _ c.in-Whole.is c.token_at.ensures in
    omega (arith, w.forward, w.within)

pub loop-kind-preserved : goal.loop-kind-preserved
loop-kind-preserved c =
    let a = c.args in
    let l = c.loop-kind in
    let w = token_found a.part.now l.i l.invariant.within c.token_at.result _ _ _ c.in-Whole.is c.token_at.ensures in
    let u = l.invariant in
    onward_leapt a.part.now u _ (w.taken l.at l.on u.low) c.put-count.result c.put-count.new.records c.put-count.ensures.count
    (c.put-count.ensures.memory ∙ ap (λ (t : Token). sets l.records l.count (map record_of (t ∷ []))) (c.new-token.ensures ∙ ap (λ (p : Span). token_of c.in-Whole.kind p.start p.end l.on) c.new.ensures))

pub overflow_sub-result : goal.overflow_sub-result
overflow_sub-result c =
    let l = c.loop-kind in
    let w = open_token c.args.part.now l.i l.invariant.within c.token_at.result _ _ _ c.in-Open.is c.token_at.ensures in
    omega (arith, w.forward)

pub overflow_add-result : goal.overflow_add-result
overflow_add-result c =
    let l = c.loop-kind in
    let w = open_token c.args.part.now l.i l.invariant.within c.token_at.result _ _ _ c.in-Open.is c.token_at.ensures in
    let u = l.invariant in
    omega (arith, w.forward, w.within, w.few, u.at, u.low, u.forward, c.requires.1)

pub overflow_add-result-in-Open : goal.overflow_add-result-in-Open
overflow_add-result-in-Open c =
    let l = c.loop-kind in
    let w = open_token c.args.part.now l.i l.invariant.within c.token_at.result _ _ _ c.in-Open.is c.token_at.ensures in
    let u = l.invariant in
    omega (arith, w.forward, w.within, w.few, u.at, u.low, u.forward, c.requires.1)

pub shape_of-records-in-Open : goal.shape_of-records-in-Open
shape_of-records-in-Open c = c.loop-kind.invariant.room

pub returns-in-Open : goal.returns-in-Open
returns-in-Open c =
    let a = c.args in
    let l = c.loop-kind in
    let w = open_token a.part.now l.i l.invariant.within c.token_at.result _ _ _ c.in-Open.is c.token_at.ensures in
    let u = l.invariant in
    onward_open a.part.now u _ _ (w.led l.at l.on u.low)
