-- Every number of a value is a kind's.
use Prim.Native.Nat.{ℕ}
use mathlib.Core.Path.{◌≡◌, refl, sym}
use mathlib.Core.Bool.{true}
use mathlib.Core.List.{List, [], ◌∷◌, ◌++◌}
use Rattle.text_scalars.specs.Utf8.{All}
use Rattle.lexer_token.specs.KindNumbers.{kind_of_number}
use Rattle.lexer_token.specs.Told.{is_kind}
use Rattle.decoder_rules.specs.declared.Edition.{Edition}
use Rattle.built_values.specs.Values.{Ws, WsCommentNewline, SimpleKey, Spaced, DotKeys, Key, StringToken, ScalarPart, ScalarRun, Val, Keyval, Array, ArrayValues, InlineTable, Keyvals}
use Rattle.theorems_values.specs.ValuesTell.{OnlyKinds}

pub record Kinds (s : List ℕ) : Type 0 where
  pub each : All (λ k. is_kind k ≡ true) s

none : Kinds []
none = record { each = tt }

one_more : {k : ℕ} {s : List ℕ} → is_kind k ≡ true → Kinds s → Kinds (k ∷ s)
one_more e d = record { each = (e, d.each) }

infixr 60 ◌then◌
◌then◌ : {s t : List ℕ} → Kinds s → Kinds t → Kinds (s ++ t)
◌then◌ {s} {t} a b = record { each = go s a.each }
  where
    go : (s : List ℕ) → All (λ k. is_kind k ≡ true) s → All (λ k. is_kind k ≡ true) (s ++ t)
    go [] a = b.each
    go (k ∷ s) (e, a) = (e, go s a)

is : {s t : List ℕ} → s ≡ t → Kinds t → Kinds s
is e d = rw e d

ws : {s : List ℕ} → Ws s → Kinds s
unfolding kind_of_number
ws Ws.stop = none
ws (Ws.more d) = one_more refl (ws d)

lines : {s : List ℕ} → WsCommentNewline s → Kinds s
unfolding kind_of_number
lines WsCommentNewline.stop = none
lines (WsCommentNewline.blank d) = one_more refl (lines d)
lines (WsCommentNewline.line d) = one_more refl (lines d)
lines (WsCommentNewline.remark d) = one_more refl (one_more refl (lines d))

simple : {k : ℕ} → SimpleKey k → is_kind k ≡ true
unfolding kind_of_number
simple SimpleKey.unquoted = refl
simple SimpleKey.basic = refl
simple SimpleKey.literal = refl

text : {k : ℕ} → StringToken k → is_kind k ≡ true
unfolding kind_of_number
text StringToken.ml_basic = refl
text StringToken.basic = refl
text StringToken.ml_literal = refl
text StringToken.literal = refl

part : {k : ℕ} → ScalarPart k → is_kind k ≡ true
unfolding kind_of_number
part ScalarPart.atom = refl
part ScalarPart.dot = refl

spaced : {q : ℕ} {s : List ℕ} → is_kind q ≡ true → Spaced q s → Kinds s
spaced e (Spaced.spaced a b) = ws a then one_more e (ws b)

dots : {s : List ℕ} → DotKeys s → Kinds s
unfolding kind_of_number
dots (DotKeys.one d e) = spaced refl d then one_more (simple e) none
dots (DotKeys.more d e f) = spaced refl d then one_more (simple e) (dots f)

key : {s : List ℕ} → Key s → Kinds s
key (Key.simple_key d) = one_more (simple d) none
key (Key.dotted_key d e) = one_more (simple d) (dots e)

scalar : {s : List ℕ} → ScalarRun s → Kinds s
scalar (ScalarRun.one p) = one_more (part p) none
scalar (ScalarRun.more p d) = one_more (part p) (scalar d)

-- the marks that the rules name
comma : is_kind 44 ≡ true
unfolding kind_of_number
comma = refl

equals : is_kind 61 ≡ true
unfolding kind_of_number
equals = refl

squares : (is_kind 91 ≡ true) × (is_kind 93 ≡ true)
unfolding kind_of_number
squares = (refl, refl)

curlies : (is_kind 123 ≡ true) × (is_kind 125 ≡ true)
unfolding kind_of_number
curlies = (refl, refl)

more : {a t b r : List ℕ} → WsCommentNewline a → Kinds t → WsCommentNewline b → Kinds r → Kinds (a ++ (t ++ (b ++ (44 ∷ r))))
more a d b r = lines a then d then lines b then one_more comma r

module _ {v : Edition} where
  mutual
    val : {s : List ℕ} → Val v s → Kinds s
    val (Val.string d) = one_more (text d) none
    val (Val.scalar d) = scalar d
    val (Val.array d) = array d
    val (Val.inline_table d) = table d

    keyval : {s : List ℕ} → Keyval v s → Kinds s
    keyval (Keyval.keyval e k p d) = is e (key k then spaced equals p then val d)

    array : {s : List ℕ} → Array v s → Kinds s
    array (Array.empty e w) = is e (one_more squares.0 (lines w then one_more squares.1 none))
    array (Array.full e d w) = is e (one_more squares.0 (values d then lines w then one_more squares.1 none))

    values : {s : List ℕ} → ArrayValues v s → Kinds s
    values (ArrayValues.more e a d b r) = is e (more a (val d) b (values r))
    values (ArrayValues.last e a d b) = is e (lines a then val d then lines b)
    values (ArrayValues.last_sep e a d b) = is e (more a (val d) b none)

    table : {s : List ℕ} → InlineTable v s → Kinds s
    table (InlineTable.empty_10 e n a b) = is e (one_more curlies.0 (ws a then ws b then one_more curlies.1 none))
    table (InlineTable.full_10 e n a d b) =
        is e (one_more curlies.0 (ws a then keyvals d then ws b then one_more curlies.1 none))
    table (InlineTable.empty_11 e n w) = is e (one_more curlies.0 (lines w then one_more curlies.1 none))
    table (InlineTable.full_11 e n d w) = is e (one_more curlies.0 (keyvals d then lines w then one_more curlies.1 none))

    keyvals : {s : List ℕ} → Keyvals v s → Kinds s
    keyvals (Keyvals.last_10 n d) = keyval d
    keyvals (Keyvals.more_10 e n d p r) = is e (keyval d then spaced comma p then keyvals r)
    keyvals (Keyvals.more_11 e n a d b r) = is e (more a (keyval d) b (keyvals r))
    keyvals (Keyvals.last_11 e n a d b) = is e (lines a then keyval d then lines b)
    keyvals (Keyvals.last_sep_11 e n a d b) = is e (more a (keyval d) b none)

pub only_kinds : OnlyKinds
only_kinds v run d = (val d).each
