-- `comment_front` is right because it goes over own bytes and whole characters beyond ASCII only, and a comment goes on with each.
use Rattle.lexer_comments.proofs.FrontLaws.{own_on_to}
use Rattle.lexer_comments.proofs.comment_front.Goals as goal

pub returns-then-is_comment_end : goal.returns-then-is_comment_end
returns-then-is_comment_end c = λ h.
    let a = c.args in
    let e = c.own_blocks-i.ensures in
    own_on_to a.doc.now a.start c.loop-start.i c.own_blocks-i.result e.0 e.1 (c.loop-start.invariant h)

pub returns-then-next-i : goal.returns-then-next-i
returns-then-next-i c = λ h.
    let a = c.args in
    let e = c.own_blocks-i.ensures in
    own_on_to a.doc.now a.start c.loop-start.i c.own_blocks-i.result e.0 e.1 (c.loop-start.invariant h)

pub returns-then-is_comment_end-2 : goal.returns-then-is_comment_end-2
returns-then-is_comment_end-2 c = λ h.
    let a = c.args in
    let e = c.own_blocks-i.ensures in
    let blocks = own_on_to a.doc.now a.start c.loop-start.i c.own_blocks-i.result e.0 e.1 (c.loop-start.invariant h) in
    c.own_chars-next.ensures.2 a.start blocks

pub loop-start-preserved : goal.loop-start-preserved
loop-start-preserved c = λ h.
    let a = c.args in
    let e = c.own_blocks-i.ensures in
    let blocks = own_on_to a.doc.now a.start c.loop-start.i c.own_blocks-i.result e.0 e.1 (c.loop-start.invariant h) in
    c.own_chars-next.ensures.2 a.start blocks
