-- `token` is right because the kind and the end are the token's, and the LFs are counted in the kinds that may hold one.
use Prim.Native.Nat.{ℕ, ◌+◌, ◌-◌}
use mathlib.Core.Path.{◌≡◌, refl, sym, ap, ◌∙◌}
use mathlib.Core.Bool.{false}
use mathlib.Core.List.{List}
use native.Mathlib.Omega.{arith}
use lib.ListN.{take, drop}
use Rattle.lexer_token.specs.declared.TokenKind.{TokenKind}
use Rattle.lexer.specs.Lines.{line_feeds}
use Rattle.lexer.specs.Table.{kind_of, extent, token_len}
use Rattle.lexer.proofs.LineLaws.{holds_lf, token_no_lf}
use Rattle.lexer.proofs.TokenLaws.{end_at, token_fits_at}
use Rattle.lexer.proofs.FoundLaws.{feeds_at, found_parts}
use Rattle.table_lexer.proofs.TagLaws.{no_lf}
use Rattle.table_lexer.proofs.table.TableEngine.token.Goals as goal

module _ (doc : List ℕ) (at : ℕ) {end : ℕ} {k : TokenKind} (kind : k ≡ kind_of (drop at doc)) (ends : end ≡ at + extent k (drop at doc)) where
  end_is : end ≡ end_at doc at
  unfolding token_len
  end_is = ends ∙ ap (λ (j : TokenKind). at + extent j (drop at doc)) kind

  counted : {n : ℕ} → n ≡ line_feeds (take (end - at) (drop at doc)) → n ≡ feeds_at doc at
  counted e = let size : end - at ≡ token_len (drop at doc) = omega (arith, end_is) in e ∙ ap (λ (m : ℕ). line_feeds (take m (drop at doc))) size

  none : {n : ℕ} → n ≡ 0 → holds_lf k ≡ false → n ≡ feeds_at doc at
  none e f = e ∙ sym (token_no_lf (drop at doc) (ap holds_lf (sym kind) ∙ f))

pub end_of-end-requires : goal.end_of-end-requires
unfolding token_len
end_of-end-requires c = rw c.kind_at-kind.ensures (token_fits_at c.args.doc.now c.args.at (omega arith))

pub slice_bounds-line_feeds-end : goal.slice_bounds-line_feeds-end
slice_bounds-line_feeds-end c = omega (arith, end_is c.args.doc.now c.args.at c.kind_at-kind.ensures c.end_of-end.ensures, token_fits_at c.args.doc.now c.args.at (omega arith))

pub returns-in-Newline : goal.returns-in-Newline
returns-in-Newline c =
    let is = c.args in
    let end = end_is is.doc.now is.at c.kind_at-kind.ensures c.end_of-end.ensures in
    let feeds = counted is.doc.now is.at c.kind_at-kind.ensures c.end_of-end.ensures c.line_feeds-feeds.ensures in
    found_parts is.doc.now is.at (sym c.kind_at-kind.ensures) end feeds

pub returns-in_default : goal.returns-in_default
returns-in_default c =
    let is = c.args in
    let no = c.in_default in
    let end = end_is is.doc.now is.at c.kind_at-kind.ensures c.end_of-end.ensures in
    let feeds = none is.doc.now is.at c.kind_at-kind.ensures c.end_of-end.ensures refl (no_lf _ no.not-Newline no.not-MlLiteralString no.not-MlBasicString) in
    found_parts is.doc.now is.at (sym c.kind_at-kind.ensures) end feeds
