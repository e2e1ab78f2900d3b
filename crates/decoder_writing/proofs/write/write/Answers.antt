-- `write` is right because what the pieces still to come give and note, stored from o and m on, makes the whole; and a short run
-- or an escape that is written without a piece is the rule's piece all the same.
use Rattle.std.proofs.Common.{◌≡◌, ℕ, ◌<◌, ◌≤◌, Some, List, length, sym, refl, ap, ◌∙◌, arith, length-take, length-drop, length-take-le}
use Rattle.decoder_rules.specs.declared.Encoding.{Encoding}
use Rattle.decoder_rules.specs.declared.Piece.{Piece}
use Rattle.decoder_rules.specs.Pieces.{gives, notes, copy_piece, char_piece}
use Rattle.decoder_rules.specs.Bodies.{piece_of}
use Rattle.decoder_rules.proofs.Fine.{Turn, turn_fine}
use Rattle.decoder_rules.proofs.BodyLaws.{piece_fine}
use Rattle.decoder_rules.proofs.LoopLaws.{write_start, write_room, write_end}
use Rattle.decoder_pieces.specs.declared.body.Body.{Body}
use Rattle.decoder_pieces.specs.declared.string.Escape.{Escape}
use Rattle.decoder_pieces.specs.Engines.{FewAt, EscapeAt}
use Rattle.decoder_pieces.specs.Steps.{body_bytes, body_after, body_step}
use Rattle.decoder_pieces.proofs.StepLaws.{past_fits, step_turn, none_left, ended_none, turn_fits, shorter}
use Rattle.decoder_writing.proofs.WriteLaws.{if_some, write_on, write_quiet, escape_turn, given_copy, given_char}
use Rattle.decoder_writing.proofs.write.write.Goals as goal

-- ---- the three kinds of turn: a short run, an escape, any piece

module _ (e : Encoding) (t : List ℕ) (b : Body) where
  abbrev Reads : Piece → Type 0
  Reads p = Turn (piece_of e) b.dropping b.at (body_bytes b t) p

  module _ (some : b.at < b.end) (within : b.end ≤ length t) where
    more : 0 < length (body_bytes b t)
    more = rw (length-take, length-drop) (omega arith)

    short : (n : ℕ) → FewAt e b.dropping (body_bytes b t) n → Reads (copy_piece n)
    short n few = record { more = more; reads = sym (few.piece b.at) }

    escaped : (x : Escape) → EscapeAt e (body_bytes b t) x → Reads (char_piece x.take x.char)
    escaped x there = escape_turn e b.dropping b.at (body_bytes b t) more x there

  any : (p : Piece) (n : Body) → Some (p, n) ≡ body_step e t b → Reads p
  any p n read = (step_turn e t b p n (sym read)).0

  next : (p : Piece) (n : Body) → Some (p, n) ≡ body_step e t b → n ≡ body_after b p
  next p n read = (step_turn e t b p n (sym read)).1

  -- a short run's length
  short_size : (n : ℕ) → Reads (copy_piece n) → (n ≤ length (body_bytes b t)) × (n ≡ length (gives (copy_piece n) (body_bytes b t)))
  short_size n turn =
      let fits = (turn_fine (piece_fine e) turn).fits in
      (fits, sym (ap length (given_copy n (body_bytes b t)) ∙ length-take-le n (body_bytes b t) fits))

-- ---- the loop

pub loop-body-init : goal.loop-body-init
loop-body-init g c =
    let a = c.args in
    let b = a.start in
    (c.requires.0, write_start (piece_of a.e) b.dropping b.at (body_bytes b a.text.now) c.requires.1 c.requires.2)

-- ---- a short run

pub copy_few-o-requires : goal.copy_few-o-requires
copy_few-o-requires g c =
    let a = c.args in
    let l = c.loop-body in
    let few = if_some (FewAt a.e l.body.dropping (body_bytes l.body a.text.now)) _ _ (g.met.E.Engine.few_is a.e l.body.dropping (body_bytes l.body a.text.now)) c.in-Some.ensures in
    let turn = short a.e a.text.now l.body c.loop-body-test.true l.invariant.0 _ few in
    let size = short_size a.e a.text.now l.body _ turn in
    let room = write_room (piece_fine a.e) turn l.invariant.1 in
    (omega (arith, few.short), size.0, omega (arith, room.0, size.1))

pub loop-body-smaller-in-Some : goal.loop-body-smaller-in-Some
loop-body-smaller-in-Some g c =
    let a = c.args in
    let l = c.loop-body in
    let few = if_some (FewAt a.e l.body.dropping (body_bytes l.body a.text.now)) _ _ (g.met.E.Engine.few_is a.e l.body.dropping (body_bytes l.body a.text.now)) c.in-Some.ensures in
    let turn = short a.e a.text.now l.body c.loop-body-test.true l.invariant.0 _ few in
    rw (c.past-body.ensures ∙ past_fits l.body _ (omega (arith, (turn_fits a.e a.text.now l.body _ turn).3))) (shorter a.e a.text.now l.body _ turn)

pub loop-body-preserved-in-Some : goal.loop-body-preserved-in-Some
loop-body-preserved-in-Some g c =
    let a = c.args in
    let l = c.loop-body in
    let few = if_some (FewAt a.e l.body.dropping (body_bytes l.body a.text.now)) _ _ (g.met.E.Engine.few_is a.e l.body.dropping (body_bytes l.body a.text.now)) c.in-Some.ensures in
    let turn = short a.e a.text.now l.body c.loop-body-test.true l.invariant.0 _ few in
    let on = write_quiet a.e a.text.now a.start l.body _ turn l.invariant.1 in
    rw (c.past-body.ensures ∙ past_fits l.body _ (omega (arith, (turn_fits a.e a.text.now l.body _ turn).3))) (l.invariant.0, on (rw given_copy c.copy_few-o.ensures) refl)

-- ---- an escape

pub put_char-o-requires : goal.put_char-o-requires
put_char-o-requires g c =
    let a = c.args in
    let l = c.loop-body in
    let there = if_some (EscapeAt a.e (body_bytes l.body a.text.now)) _ _ (g.met.E.Engine.escape_is a.e (body_bytes l.body a.text.now)) c.in-Some-escape.ensures in
    let turn = escaped a.e a.text.now l.body c.loop-body-test.true l.invariant.0 _ there in
    let room = write_room (piece_fine a.e) turn l.invariant.1 in
    ((turn_fine (piece_fine a.e) turn).char, rw given_char at room.0)

pub loop-body-smaller-in-Some-escape : goal.loop-body-smaller-in-Some-escape
loop-body-smaller-in-Some-escape g c =
    let a = c.args in
    let l = c.loop-body in
    let there = if_some (EscapeAt a.e (body_bytes l.body a.text.now)) _ _ (g.met.E.Engine.escape_is a.e (body_bytes l.body a.text.now)) c.in-Some-escape.ensures in
    let turn = escaped a.e a.text.now l.body c.loop-body-test.true l.invariant.0 _ there in
    rw (c.past-body-in-Some-escape.ensures ∙ past_fits l.body _ (omega (arith, (turn_fits a.e a.text.now l.body _ turn).3))) (shorter a.e a.text.now l.body _ turn)

pub loop-body-preserved-in-Some-escape : goal.loop-body-preserved-in-Some-escape
loop-body-preserved-in-Some-escape g c =
    let a = c.args in
    let l = c.loop-body in
    let there = if_some (EscapeAt a.e (body_bytes l.body a.text.now)) _ _ (g.met.E.Engine.escape_is a.e (body_bytes l.body a.text.now)) c.in-Some-escape.ensures in
    let turn = escaped a.e a.text.now l.body c.loop-body-test.true l.invariant.0 _ there in
    let on = write_quiet a.e a.text.now a.start l.body _ turn l.invariant.1 in
    rw (c.past-body-in-Some-escape.ensures ∙ past_fits l.body _ (omega (arith, (turn_fits a.e a.text.now l.body _ turn).3))) (l.invariant.0, on (rw given_char c.put_char-o.ensures) refl)

-- ---- any piece

pub emit-o-requires : goal.emit-o-requires
emit-o-requires g c =
    let a = c.args in
    let l = c.loop-body in
    let turn = any a.e a.text.now l.body c.in-Some-step_by.p c.in-Some-step_by.next c.in-Some-step_by.ensures in
    let room = write_room (piece_fine a.e) turn l.invariant.1 in
    (turn_fine (piece_fine a.e) turn, room.0)

pub note-m-requires : goal.note-m-requires
unfolding notes
note-m-requires g c =
    let a = c.args in
    let l = c.loop-body in
    let turn = any a.e a.text.now l.body c.in-Some-step_by.p c.in-Some-step_by.next c.in-Some-step_by.ensures in
    let room = write_room (piece_fine a.e) turn l.invariant.1 in
    room.1

pub loop-body-smaller : goal.loop-body-smaller
loop-body-smaller g c =
    let a = c.args in
    let l = c.loop-body in
    let turn = any a.e a.text.now l.body c.in-Some-step_by.p c.in-Some-step_by.next c.in-Some-step_by.ensures in
    rw (next a.e a.text.now l.body c.in-Some-step_by.p c.in-Some-step_by.next c.in-Some-step_by.ensures) (shorter a.e a.text.now l.body _ turn)

pub loop-body-preserved : goal.loop-body-preserved
unfolding notes
loop-body-preserved g c =
    let a = c.args in
    let l = c.loop-body in
    let turn = any a.e a.text.now l.body c.in-Some-step_by.p c.in-Some-step_by.next c.in-Some-step_by.ensures in
    let on = write_on a.e a.text.now a.start l.body _ turn l.invariant.1 c.emit-o.ensures c.note-m.ensures in
    rw (next a.e a.text.now l.body c.in-Some-step_by.p c.in-Some-step_by.next c.in-Some-step_by.ensures) (l.invariant.0, on)

-- ---- at the end

pub returns-after-loop-body : goal.returns-after-loop-body
returns-after-loop-body g c =
    let l = c.loop-body in
    let all = write_end (ended_none l.body c.args.text.now c.loop-body-test.false) l.invariant.1 in
    record { output = all.0; records = all.1 }

pub returns-in-None : goal.returns-in-None
returns-in-None g c =
    let l = c.loop-body in
    let all = write_end (none_left c.args.e c.args.text.now l.body (sym c.in-None.ensures)) l.invariant.1 in
    record { output = all.0; records = all.1 }
