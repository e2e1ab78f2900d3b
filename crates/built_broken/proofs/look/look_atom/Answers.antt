-- `look_atom` is right because an atom ends where its ASCII ends before ASCII, and is ASCII then.
use mathlib.Core.Path.{sym, ◌∙◌}
use native.Mathlib.Omega.{arith}
use borrow.Author.Tests.{ltb-true}
use lib.ListN.{get_or}
use lib.Seq.{drop-drop}
use Rattle.built_broken.proofs.LookLaws.{atom_other, atom_sized, atom_front, nothing, characters}
use Rattle.built_broken.proofs.look.look_atom.Goals as goal

pub returns-then-is_ascii_at : goal.returns-then-is_ascii_at
returns-then-is_ascii_at c = λ v.
    let a = c.args in
    let doc = a.doc.now in
    let h = c.requires.0 in
    let r = c.atom_front-end.result in
    let is = c.atom_front-end.ensures in
    let low = ltb-true (get_or doc r 0) 0x80 (sym c.is_ascii_at.ensures ∙ c.if-is_ascii_at.true) in
    nothing doc a.at h v c.seen.result _ (atom_other doc a.at h c.requires.1) (atom_front doc a.at h r is low c.requires.2)
    c.seen.ensures.0 (c.seen.ensures.1 ∙ atom_sized doc a.at h r is low c.requires.2)

pub returns : goal.returns
returns c = λ v.
    let a = c.args in
    characters a.doc.now a.at c.requires.0 v c.seen-2.result _ (atom_other a.doc.now a.at c.requires.0 c.requires.1)
    c.seen-2.ensures.0 (c.seen-2.ensures.1 ∙ c.atom_run.ensures ∙ simp drop-drop (omega arith))
