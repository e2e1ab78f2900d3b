-- `escape_at` is right because each encoding that has escapes has its arm, and a backslash is there.
use Rattle.std.proofs.Common.{◌≡◌, ℕ, None, List, sym, refl, ◌∙◌}
use Rattle.text_classes.proofs.FirstLaws.{stands_there}
use Rattle.decoder_rules.specs.declared.Edition.{Edition}
use Rattle.decoder_rules.specs.declared.Encoding.{Encoding}
use Rattle.decoder_rules.specs.declared.Encoding.TheVariants.{LiteralString, BasicString, MlLiteralString, MlBasicString, UnquotedKey}
use Rattle.decoder_pieces.specs.GoodEscapes.{escape_in}
use Rattle.decoder_pieces.proofs.EscapeAtLaws.{escape_here}
use Rattle.decoder_pieces.proofs.string.escape_at.Goals as goal

-- The other encodings have no escapes.
no_escapes : (e : Encoding) (s : List ℕ) → ((v : Edition) → e ≡ BasicString v → ⊥) → ((v : Edition) → e ≡ MlBasicString v → ⊥)
    → None ≡ escape_in e s
unfolding escape_in
no_escapes LiteralString s basic ml = refl
no_escapes MlLiteralString s basic ml = refl
no_escapes (BasicString v) s basic ml = absurd (basic v refl)
no_escapes (MlBasicString v) s basic ml = absurd (ml v refl)
no_escapes UnquotedKey s basic ml = refl

pub returns-in-BasicString : goal.returns-in-BasicString
unfolding escape_in
returns-in-BasicString c =
    let here = escape_here c.args.e c.args.s.now (stands_there 0x5C c.args.s.now 0 (sym c.is_at.ensures ∙ c.if-not-is_at.false)).1 in
    rw c.in-BasicString.is (c.good_escape.ensures ∙ rw c.in-BasicString.is at here)

pub returns-in-MlBasicString : goal.returns-in-MlBasicString
unfolding escape_in
returns-in-MlBasicString c =
    let here = escape_here c.args.e c.args.s.now (stands_there 0x5C c.args.s.now 0 (sym c.is_at.ensures ∙ c.if-not-is_at.false)).1 in
    rw c.in-MlBasicString.is (c.good_escape-in-MlBasicString.ensures ∙ rw c.in-MlBasicString.is at here)

pub returns-in_default : goal.returns-in_default
returns-in_default c =
    let here = (stands_there 0x5C c.args.s.now 0 (sym c.is_at.ensures ∙ c.if-not-is_at.false)).1 in
    no_escapes c.args.e c.args.s.now c.in_default.not-BasicString c.in_default.not-MlBasicString ∙ escape_here c.args.e c.args.s.now here
