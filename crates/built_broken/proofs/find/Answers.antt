-- `find` is right because the answer by the tokens from a place on stays the same over each token that is UTF-8 and has no error;
-- and the first other token is the answer, or is refused.
use Prim.Native.Nat.{ℕ, ◌-◌, ◌≤◌, ◌<◌}
use mathlib.Core.Path.{◌≡◌, sym, ap, ◌∙◌, subst}
use mathlib.Core.Bool.{Bool, true}
use mathlib.Core.List.{List}
use native.Mathlib.Omega.{arith}
use lib.ListN.{length, take, drop, length-take, length-drop}
use Rattle.lexer.specs.Table.{token_len}
use Rattle.lexer.proofs.TokenLaws.{token_fits_at, token_long_at}
use Rattle.decoder_rules.specs.declared.Edition.{Edition}
use Rattle.decoder_rules.specs.Encodings.{edition_number}
use Rattle.built_broken.specs.Broken.{is_utf8}
use Rattle.built_broken.specs.Walk.{front_text, AskedOf, Looked}
use Rattle.built_broken.specs.declared.look.Asks.TheVariants.{Nothing}
use Rattle.built_broken.specs.declared.look.Look.{Look}
use Rattle.built_broken.proofs.TurnLaws.{read_as, turn_refused, walk_undecoded, walk_clean, walk_broken, walk_start, at_end}
use Rattle.built_broken.proofs.find.Goals as goal

-- within a turn, once the token at the place `at` is looked at
module _ (v : Edition) (doc : List ℕ) (at : ℕ) (h : at < length doc) (look : Look) (looked : Looked v at (drop at doc) look) where
  -- it ends after it begins, and within the document
  forward : at < look.end
  forward = omega (arith, looked.end, token_long_at doc at h)

  ends : look.end ≤ length doc
  ends = omega (arith, looked.end, token_fits_at doc at (omega arith))

  text : take (look.end - at) (drop at doc) ≡ front_text (drop at doc)
  text =
      let size : look.end - at ≡ token_len (drop at doc) = omega (arith, looked.end) in
      ap (λ (k : ℕ). take k (drop at doc)) size

  -- whether it is UTF-8
  read : (r : Bool) → (look.asks ≡ Nothing → r ≡ true) → ((look.asks ≡ Nothing → ⊥) → r ≡ is_utf8 (take (look.end - at) (drop at doc)))
      → is_utf8 (front_text (drop at doc)) ≡ r
  read r sure told = read_as v (drop at doc) look.asks r looked.asks sure (λ n. told n ∙ ap is_utf8 text)

pub loop-at-init : goal.loop-at-init
loop-at-init c = rw c.start_of-at.ensures (walk_start c.args.doc.now (edition_number c.args.v))

pub slice_bounds-text-count : goal.slice_bounds-text-count
slice_bounds-text-count c =
    omega (arith, forward c.args.v c.args.doc.now c.loop-at.at c.loop-at-test.true c.look_at-asks.result c.look_at-asks.ensures)

pub slice_bounds-text-start : goal.slice_bounds-text-start
slice_bounds-text-start c =
    omega (arith, forward c.args.v c.args.doc.now c.loop-at.at c.loop-at-test.true c.look_at-asks.result c.look_at-asks.ensures)

pub slice_bounds-text-end : goal.slice_bounds-text-end
slice_bounds-text-end c = ends c.args.v c.args.doc.now c.loop-at.at c.loop-at-test.true c.look_at-asks.result c.look_at-asks.ensures

pub is_readable-requires : goal.is_readable-requires
is_readable-requires c =
    let doc = c.args.doc.now in
    let at = c.loop-at.at in
    omega (arith, c.requires, length-take (c.look_at-asks.result.end - at) (drop at doc), length-drop at doc)

pub refusal_at-requires : goal.refusal_at-requires
refusal_at-requires c =
    let told = c.is_readable.ensures in
    let look = c.look_at-asks in
    let utf8 = read c.args.v c.args.doc.now c.loop-at.at c.loop-at-test.true look.result look.ensures _ told.0 told.1 in
    (c.requires, c.loop-at-test.true, look.ensures.end, c.loop-at.invariant.front, utf8 ∙ c.if-not-is_readable.true)

pub returns-then-not-is_readable : goal.returns-then-not-is_readable
returns-then-not-is_readable c =
    let told = c.is_readable.ensures in
    let look = c.look_at-asks in
    let h = c.loop-at-test.true in
    let utf8 = read c.args.v c.args.doc.now c.loop-at.at h look.result look.ensures _ told.0 told.1 in
    c.refusal_at.ensures ∙ sym (turn_refused c.args.doc.now (edition_number c.args.v) c.loop-at.at h (utf8 ∙ c.if-not-is_readable.true))
    ∙ c.loop-at.invariant.same

pub loop-at-smaller : goal.loop-at-smaller
loop-at-smaller c =
    omega (arith, forward c.args.v c.args.doc.now c.loop-at.at c.loop-at-test.true c.look_at-asks.result c.look_at-asks.ensures)

pub loop-at-preserved : goal.loop-at-preserved
loop-at-preserved c =
    let told = c.is_readable.ensures in
    let look = c.look_at-asks in
    let h = c.loop-at-test.true in
    let utf8 = read c.args.v c.args.doc.now c.loop-at.at h look.result look.ensures _ told.0 told.1 in
    walk_undecoded c.args.v c.args.doc.now c.loop-at.at h _ c.loop-at.invariant (utf8 ∙ c.if-not-is_readable.false) _ look.ensures.end
    look.result.asks look.ensures.asks c.in_default.not-Decoding

pub loop-at-smaller-in_default-first_error : goal.loop-at-smaller-in_default-first_error
loop-at-smaller-in_default-first_error c =
    omega (arith, forward c.args.v c.args.doc.now c.loop-at.at c.loop-at-test.true c.look_at-asks.result c.look_at-asks.ensures)

pub loop-at-preserved-in_default-first_error : goal.loop-at-preserved-in_default-first_error
loop-at-preserved-in_default-first_error c =
    let v = c.args.v in
    let doc = c.args.doc.now in
    let at = c.loop-at.at in
    let told = c.is_readable.ensures in
    let look = c.look_at-asks in
    let h = c.loop-at-test.true in
    let utf8 = read v doc at h look.result look.ensures _ told.0 told.1 in
    let asked = subst (AskedOf v (drop at doc)) c.in-Decoding.is look.ensures.asks in
    walk_clean v doc at h _ c.loop-at.invariant (utf8 ∙ c.if-not-is_readable.false) _ look.ensures.end _ asked _
    (text v doc at h look.result look.ensures) _ c.first_error.ensures c.in_default-first_error.is

pub returns-in-Some : goal.returns-in-Some
returns-in-Some c =
    let v = c.args.v in
    let doc = c.args.doc.now in
    let at = c.loop-at.at in
    let told = c.is_readable.ensures in
    let look = c.look_at-asks in
    let h = c.loop-at-test.true in
    let utf8 = read v doc at h look.result look.ensures _ told.0 told.1 in
    let asked = subst (AskedOf v (drop at doc)) c.in-Decoding.is look.ensures.asks in
    walk_broken v doc at h _ c.loop-at.invariant (utf8 ∙ c.if-not-is_readable.false) _ look.ensures.end _ asked _
    (text v doc at h look.result look.ensures) _ c.first_error.ensures _ c.in-Some.is _ c.string_token.ensures _ c.recorded.ensures

pub returns : goal.returns
returns c = sym (at_end c.args.doc.now (edition_number c.args.v) c.loop-at.at c.loop-at-test.false) ∙ c.loop-at.invariant.same
