-- `look_comment` is right because what is gone over is UTF-8 and goes on with the comment: it ends there, or is asked for as a whole.
use Prim.Native.Nat.{◌+◌}
use mathlib.Core.Path.{◌∙◌}
use native.Mathlib.Omega.{arith}
use Rattle.lexer_comments.specs.Fronts.{Fronted}
use Rattle.built_broken.proofs.LookLaws.{comment, comment_sized, comment_front, rest_ends, rest_same, nothing, characters}
use Rattle.built_broken.proofs.look.look_comment.Goals as goal

pub returns-then-is_comment_end : goal.returns-then-is_comment_end
returns-then-is_comment_end c = λ v.
    let doc = c.args.doc.now in
    let at = c.args.at in
    let h = c.requires.0 in
    let i = c.comment_front-i.result in
    let to : Fronted doc (at + 1) i = c.comment_front-i.ensures (omega arith) in
    let ends = c.is_comment_end.ensures c.if-is_comment_end.true in
    nothing doc at h v c.seen.result _ (comment doc at h c.requires.1) (comment_front doc at h i c.requires.1 to ends)
    c.seen.ensures.0 (c.seen.ensures.1 ∙ comment_sized doc at h i to.same ends)

pub returns : goal.returns
returns c = λ v.
    let doc = c.args.doc.now in
    let at = c.args.at in
    let h = c.requires.0 in
    let i = c.comment_front-i.result in
    let e = c.comment_run.result in
    let is = c.comment_run.ensures in
    let to : Fronted doc (at + 1) i = c.comment_front-i.ensures (omega arith) in
    let same = rest_same doc at h i e to is in
    characters doc at h v c.seen-2.result _ (comment doc at h c.requires.1)
    c.seen-2.ensures.0 (c.seen-2.ensures.1 ∙ comment_sized doc at h e same (rest_ends doc at h i e is))
