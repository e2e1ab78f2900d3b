-- `over_lines` is right because it counts the LFs of the token that stands there.
use Prim.Native.Nat.{ℕ, ◌-◌}
use mathlib.Core.Path.{◌≡◌, ap, ◌∙◌}
use native.Mathlib.Omega.{arith}
use lib.ListN.{take, drop}
use Rattle.lexer.specs.Lines.{line_feeds}
use Rattle.lexer.specs.Table.{token_len}
use Rattle.lexer.proofs.TokenLaws.{token_fits_at}
use Rattle.lexer.proofs.FoundLaws.{end_here, found_counted}
use Rattle.lexer.proofs.over_lines.Goals as goal

pub slice_bounds-line_feeds-end : goal.slice_bounds-line_feeds-end
slice_bounds-line_feeds-end c =
    let is = c.args in
    omega (arith, end_here is.kind is.doc.now is.at c.requires.1 is.end c.requires.2, token_fits_at is.doc.now is.at (omega arith))

pub returns : goal.returns
returns c =
    let is = c.args in
    let end = end_here is.kind is.doc.now is.at c.requires.1 is.end c.requires.2 in
    let size : is.end - is.at ≡ token_len (drop is.at is.doc.now) = omega (arith, end) in
    let feeds = c.line_feeds.ensures ∙ ap (λ (m : ℕ). line_feeds (take m (drop is.at is.doc.now))) size in
    c.found_of.ensures ∙ found_counted is.kind is.doc.now is.at c.requires.1 is.end c.requires.2 _ feeds
