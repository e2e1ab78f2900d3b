-- `look_at` is right because its arms are the token table's, first byte by first byte.
use Prim.Native.Nat.{suc, ◌+◌}
use mathlib.Core.Path.{◌≡◌, refl, sym, ◌∙◌}
use native.Mathlib.Omega.{arith}
use borrow.Author.Tests.{eqb-true}
use lib.Dec.{eqb}
use lib.ListN.{get_or, drop, length-drop}
use lib.Seq.{drop-drop}
use Rattle.text_classes.specs.Classes.{wschar}
use Rattle.text_classes.specs.Runs.{run}
use Rattle.text_classes.proofs.RunLaws.{there}
use Rattle.lexer_scans.proofs.MarkLaws.{stands_at}
use Rattle.built_broken.proofs.LookLaws.{one_byte_lem, blanks, cr_lf, cr_alone, atom, one_front, two_front, blank_front, nothing}
use Rattle.built_broken.proofs.look.look_at.Goals as goal

pub look_comment-requires : goal.look_comment-requires
look_comment-requires c = (c.requires, c.in-35.is)

pub look_literal-requires : goal.look_literal-requires
look_literal-requires c = (c.requires, c.in-39.is)

pub look_basic-requires : goal.look_basic-requires
look_basic-requires c = (c.requires, c.in-34.is)

pub look_atom-requires : goal.look_atom-requires
look_atom-requires c =
    let h = c.requires in
    let no = c.in_default.in_default-own.rest in
    let begins = atom c.args.doc.now c.args.at h no.0.0.0.0.0.1 no.0.0.0.0.1 no.0.0.0.1 no.0.0.1 no.0.1 no.1 in
    (h, begins.0, begins.1)

pub returns-in-46 : goal.returns-in-46
returns-in-46 c =
    let doc = c.args.doc.now in
    let at = c.args.at in
    let h = c.requires in
    let w = one_byte_lem doc at h c.in-46.is in
    nothing doc at h c.args.v c.seen.result 1 w.0 (one_front doc at h w.1) c.seen.ensures.0 c.seen.ensures.1

pub returns-in-32 : goal.returns-in-32
returns-in-32 c =
    let doc = c.args.doc.now in
    let at = c.args.at in
    let h = c.requires in
    let w = blanks doc at h c.in-32.is in
    nothing doc at h c.args.v c.seen-in-32.result (suc (run wschar (drop 1 (drop at doc)))) w.0 (blank_front doc at h w.1) c.seen-in-32.ensures.0 (c.seen-in-32.ensures.1 ∙ c.wschar_run.ensures ∙ simp drop-drop (omega arith))

pub returns-then-is_at : goal.returns-then-is_at
returns-then-is_at c =
    let doc = c.args.doc.now in
    let at = c.args.at in
    let h = c.requires in
    let key = c.in-13.is in
    let lf : eqb (get_or doc (at + 1) 0) 10 ≡ _ = sym (stands_at 10 refl doc (at + 1)) ∙ sym c.is_at.ensures ∙ c.if-is_at.true in
    let next : get_or doc (at + 1) 0 ≡ 10 = eqb-true _ _ lf in
    let more = there doc (at + 1) (omega arith) in
    nothing doc at h c.args.v c.seen-then-is_at.result 2 (cr_lf doc at h key lf) (two_front doc at h (omega arith) (omega (arith, length-drop at doc)) (omega arith)) c.seen-then-is_at.ensures.0 c.seen-then-is_at.ensures.1

pub returns-else-is_at : goal.returns-else-is_at
returns-else-is_at c =
    let doc = c.args.doc.now in
    let at = c.args.at in
    let h = c.requires in
    let key = c.in-13.is in
    let other : eqb (get_or doc (at + 1) 0) 10 ≡ _ = sym (stands_at 10 refl doc (at + 1)) ∙ sym c.is_at.ensures ∙ c.if-is_at.false in
    nothing doc at h c.args.v c.seen-else-is_at.result 1 (cr_alone doc at h key other) (one_front doc at h (omega arith)) c.seen-else-is_at.ensures.0 c.seen-else-is_at.ensures.1

pub returns-in-35 : goal.returns-in-35
returns-in-35 c = c.look_comment.ensures c.args.v

pub returns-in-39 : goal.returns-in-39
returns-in-39 c = c.look_literal.ensures c.args.v

pub returns-in_default : goal.returns-in_default
returns-in_default c = c.look_atom.ensures c.args.v
