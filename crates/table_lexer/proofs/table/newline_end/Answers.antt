-- `newline_end` is right because it asks for the CR and the LF in the definition's order.
use Prim.Native.Nat.{ℕ, ◌+◌}
use mathlib.Core.Path.{◌≡◌, sym, ◌∙◌}
use mathlib.Core.Bool.{cond, ◌&&◌}
use mathlib.Core.List.{List}
use lib.ListN.{drop}
use lib.Seq.{drop-drop}
use Rattle.text_classes.specs.Runs.{stands}
use Rattle.lexer_scans.specs.Extents.{newline_tail}
use Rattle.lexer.specs.Table.{extent}
use Rattle.table_lexer.proofs.table.newline_end.Goals as goal

-- the definition, with the places counted in the document
tail_here : (doc : List ℕ) (at : ℕ)
    → newline_tail (drop at doc) ≡ cond (stands 13 (drop at doc) && stands 10 (drop (at + 1) doc)) 1 0
unfolding newline_tail
tail_here doc at = rw (drop-drop 1 at doc)

pub returns-then-is_at-2 : goal.returns-then-is_at-2
unfolding extent
returns-then-is_at-2 c =
    let cr = sym c.is_at.ensures ∙ c.if-is_at.true in
    let lf = sym c.is_at-then-is_at.ensures ∙ c.if-is_at-2.true in
    simp (tail_here c.args.doc.now c.args.at, cr, lf)

pub returns-then-is_at : goal.returns-then-is_at
unfolding extent
returns-then-is_at c =
    let cr = sym c.is_at.ensures ∙ c.if-is_at.true in
    let lf = sym c.is_at-then-is_at.ensures ∙ c.if-is_at-2.false in
    simp (tail_here c.args.doc.now c.args.at, cr, lf)

pub returns : goal.returns
unfolding extent
returns c =
    let cr = sym c.is_at.ensures ∙ c.if-is_at.false in
    simp (tail_here c.args.doc.now c.args.at, cr)
