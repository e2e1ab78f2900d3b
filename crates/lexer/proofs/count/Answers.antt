-- `count` is right because the tokens of the parts passed and those still to come are all that begin before the end of the
-- document, which are all but Eof.
use Prim.Native.Nat.{ℕ, ◌+◌, ◌-◌, ◌≤◌, ◌<◌}
use mathlib.Core.Path.{◌≡◌, refl, ap, ◌∙◌}
use mathlib.Core.List.{List, map}
use native.Mathlib.Omega.{arith}
use lib.ListN.{length}
use lib.Seq.{length-sets}
use Rattle.lexer_token.specs.Records.{record_of}
use Rattle.lexer.specs.Tokens.{start_of}
use Rattle.lexer.specs.Whole.{token_count}
use Rattle.lexer.specs.Loops.{tokens_until}
use Rattle.lexer.proofs.TokenLaws.{start_fits}
use Rattle.lexer.proofs.UntilLaws.{tokens_before, until_few, until_stop, until_count}
use Rattle.lexer.proofs.count.Goals as goal

-- the tokens of a part are no more than its bytes
few : (doc : List ℕ) (stop at line n : ℕ) → at < stop → stop ≤ length doc → n ≡ length (tokens_until stop at line doc) → n + at ≤ stop
few doc stop at line n far within e = omega (arith, until_few (stop - at) doc stop at line (omega arith) within)

-- past the end none is left but Eof
all : (doc : List ℕ) (at line passed : ℕ) → length doc ≤ at
    → passed + length (tokens_until (length doc) at line doc) ≡ length (tokens_before doc) → passed + 1 ≡ token_count doc
all doc at line passed h e = omega (arith, ap length (until_stop doc (length doc) at line h), until_count doc)

pub loop-at-init : goal.loop-at-init
loop-at-init g c =
    let doc = c.args.doc.now in
    let by : c.start_of-at.result ≡ start_of doc = c.start_of-at.ensures in
    let fits = start_fits doc in
    record {
      size = refl;
      within = omega arith;
      low = omega arith;
      few = omega arith;
      all = ap (λ (i : ℕ). 0 + length (tokens_until (length doc) i 1 doc)) by ∙ omega arith;
    }

pub lex_until-part-requires : goal.lex_until-part-requires
lex_until-part-requires g c =
    let now = c.loop-at in
    let most = until_few 64 c.args.doc.now c.min-stop.result now.at now.line (omega arith) (omega arith) in
    (now.invariant.within, omega arith, now.invariant.low, omega (arith, most, now.invariant.size))

pub overflow_add-passed : goal.overflow_add-passed
overflow_add-passed g c =
    let now = c.loop-at in
    omega (arith, few c.args.doc.now _ now.at now.line _ (omega arith) (omega arith) c.lex_until-part.ensures.count)

pub loop-at-preserved : goal.loop-at-preserved
loop-at-preserved g c =
    let doc = c.args.doc.now in
    let now = c.loop-at in
    let part = c.lex_until-part.ensures in
    let on = part.place in
    let written = map record_of (tokens_until c.min-stop.result now.at now.line doc) in
    record {
      size = ap length part.memory ∙ length-sets now.spare 0 written ∙ now.invariant.size;
      within = on.within;
      low = on.low;
      few = omega (arith, few doc c.min-stop.result now.at now.line _ (omega arith) (omega arith) part.count, on.far, now.invariant.few);
      all = omega (arith, on.counts (length doc) (omega arith) (omega arith), now.invariant.all);
    }

pub returns : goal.returns
returns g c =
    let now = c.loop-at in
    all c.args.doc.now now.at now.line now.passed (omega arith) now.invariant.all
