-- What follows from the law, as specs/Joined.antt states it: for the call `lex`, for the text of each token and what it decodes
-- to, and for positions.
use Prim.Native.Nat.{ℕ, ◌+◌, ◌-◌, ◌≤◌}
use Rattle.std.specs.Prelude.{Ok}
use mathlib.Core.Path.{◌≡◌, refl, sym, ap, ◌∙◌, subst}
use mathlib.Core.Logic.{⊎_map}
use mathlib.Core.Bool.{cond}
use mathlib.Core.Option.{some}
use mathlib.Core.List.Memᴰ
use mathlib.Core.List.{List, [], ◌∷◌, ◌++◌, map, map-append, map-map, get_last?, drop_last, drop_last-prefix, Memᴰ}
use native.Mathlib.Omega.{arith}
use borrow.Author.Tests.{le-ltb}
use lib.ListN.{length, take, drop, length-append, length-drop, length-map}
use lib.Seq.{take-append-le, drop-append-le, take-append-add, drop-append-add, take_at}
use lib.Dec.{eqb}
use Rattle.text_classes.specs.Classes.{continuation}
use Rattle.text_refusals.specs.Refusals.{limit}
use Rattle.text_scalars.specs.Utf8.{Utf8}
use Rattle.text.specs.CheckMeans.{check_of}
use Rattle.text_scalars.proofs.ReadLaws.{utf8_iff}
use Rattle.text.proofs.AnswerLaws.{answer_valid}
use Rattle.text_scalars.proofs.CutLaws.{utf8_append}
use Rattle.lexer_token.specs.declared.Token.{Token}
use Rattle.lexer_token.specs.Records.{record_of, text_of}
use Rattle.lexer.specs.Lines.{line_of}
use Rattle.lexer.specs.Tokens.{start_of, tokens_of}
use Rattle.lexer.specs.Whole.{records_of, token_count, lex_answer, lex_memory}
use Rattle.lexer.proofs.TokenLaws.{start_fits, token_fits_at}
use Rattle.lexer.proofs.WholeLaws.{lex_answered}
use Rattle.lexer_place.specs.Positions.{column_behind, column_of, position_answer}
use Rattle.theorems_tokens.proofs.Lexing.{by_rule}
use Rattle.theorems_joined.specs.Joined.{Joins, moved_by, moved_record, count_of_both, CountOfBoth, Lexes, ReadsAs, Reviews, Places}
use Rattle.theorems_joined.proofs.ListLaws.{last_drop, length_but_last, take_but_last}
use Rattle.theorems_joined.proofs.Joined.{feeds_append, same_start, some_lexed, unmarked_start, joined}

-- ---- the call `lex`

valid : (doc : List ℕ) → Utf8 doc → length doc ≤ limit → check_of doc ≡ Ok tt
valid doc u l = sym (answer_valid doc l ((utf8_iff doc).1 u))

module _ (head tail : List ℕ) (joins : Joins head tail) where
  count_is : token_count (head ++ tail) ≡ count_of_both head tail
  count_is =
      ap length (joined head tail joins) ∙ length-append (drop_last (tokens_of head)) (map (moved_by head) (tokens_of tail))
      ∙ omega (arith, length_but_last (tokens_of head), length-map (tokens_of tail) (moved_by head))

  records_are : map record_of (tokens_of (head ++ tail))
      ≡ map record_of (drop_last (tokens_of head)) ++ map (moved_record head) (map record_of (tokens_of tail))
  records_are =
      let before = drop_last (tokens_of head) in
      let ts = tokens_of tail in
      ap (map record_of) (joined head tail joins) ∙ map-append record_of before (map (moved_by head) ts)
      ∙ ap (λ (r : List (List ℕ)). map record_of before ++ r)
      (map-map record_of (moved_by head) ts ∙ sym (map-map (moved_record head) record_of ts))

pub count_of_both_lem : CountOfBoth
count_of_both_lem = count_is

-- a call that lexes a document into records that suffice
module _ (doc : List ℕ) (old : List (List ℕ)) (u : Utf8 doc) (small : length doc ≤ limit)
    (room : token_count doc ≤ length old) where
  answer_is : lex_answer doc (length old) ≡ Ok (token_count doc)
  answer_is = sym (lex_answered doc old (valid doc u small) room).0

  memory_is : lex_memory doc old ≡ map record_of (tokens_of doc) ++ drop (token_count doc) old
  unfolding records_of
  memory_is = sym (lex_answered doc old (valid doc u small) room).1

  front_is : take (token_count doc) (lex_memory doc old) ≡ map record_of (tokens_of doc)
  front_is =
      let rs = map record_of (tokens_of doc) in
      rw memory_is (take_at rs (drop (token_count doc) old) (token_count doc) (length-map (tokens_of doc) record_of))

  before_is : take (token_count doc - 1) (lex_memory doc old) ≡ map record_of (drop_last (tokens_of doc))
  before_is = rw memory_is (take_but_last record_of (tokens_of doc) (drop (token_count doc) old))

pub lexed_both : Lexes
lexed_both head tail u v small joins a b c f g h =
    let both = utf8_append head tail u v in
    let within : length (head ++ tail) ≤ limit = omega (arith, length-append head tail) in
    let count = count_is head tail joins in
    let room : token_count (head ++ tail) ≤ length c = omega arith in
    let of_head = before_is head a u (omega arith) f in
    let of_tail = front_is tail b v (omega arith) g in
    record {
      head_answer = answer_is head a u (omega arith) f;
      tail_answer = answer_is tail b v (omega arith) g;
      answer = rw (← count) (answer_is (head ++ tail) c both within room);
      memory = rw (of_head, of_tail, ← records_are head tail joins, ← count) (memory_is (head ++ tail) c both within room);
    }

-- ---- the text of a token

-- a token of the head ends within it
text_in_head : (head tail : List ℕ) (t : Token) → Memᴰ t (drop_last (tokens_of head))
    → text_of (head ++ tail) t ≡ text_of head t
text_in_head head tail t m =
    let prefix = drop_last-prefix (tokens_of head) in
    let w = by_rule head t (subst (Memᴰ t) prefix.1 (Memᴰ.append_left prefix.0 m)) in
    let start = t.span.start in
    let size = t.span.end - start in
    let fits = token_fits_at head start w.within in
    let short : size ≤ length (drop start head) = omega (arith, w.end, length-drop start head) in
    ap (take size) (drop-append-le start head tail w.within) ∙ take-append-le size (drop start head) tail short

-- a token of the tail is moved on by as much as the tail is
text_in_tail : (head tail : List ℕ) (t : Token) → text_of (head ++ tail) (moved_by head t) ≡ text_of tail t
text_in_tail head tail t =
    let start = t.span.start in
    let n = length head in
    let size : t.span.end + n - (start + n) ≡ t.span.end - start = omega arith in
    let place : start + n ≡ n + start = omega arith in
    rw (size, place, drop-append-add head tail start)

-- what is decoded depends on kind and text only
reads_as : (doc : List ℕ) (v : Token) (part : List ℕ) (t : Token) → v.kind ≡ t.kind → text_of doc v ≡ text_of part t
    → ReadsAs doc v part t
reads_as doc v part t kind text = record {
  kind = kind;
  text = text;
  bytes = λ edition. rw (kind, text);
  errors = λ edition. rw (kind, text);
  answer = λ edition o e. rw (kind, text);
}

pub reviewed : Reviews
reviewed head tail joins = record {
  of_head = λ t m. reads_as (head ++ tail) t head t refl (text_in_head head tail t m);
  of_tail = λ t m. reads_as (head ++ tail) (moved_by head t) tail t refl (text_in_tail head tail t);
  no_other = λ v m.
      ⊎_map (λ w. w) (Memᴰ.of_map (moved_by head) (tokens_of tail))
      (Memᴰ.append_cases (drop_last (tokens_of head)) (subst (Memᴰ v) (joined head tail joins) m));
}

-- ---- positions

module _ (doc : List ℕ) (offset : ℕ) (small : length doc ≤ limit) (within : offset ≤ length doc) where
  position_is : position_answer doc offset ≡ Ok (record { line = line_of doc offset; column = column_of doc offset })
  unfolding position_answer
  position_is = rw (le-ltb limit (length doc) small, le-ltb (length doc) offset within)

column_append : (c : ℕ) (s t : List ℕ) → column_behind c (s ++ t) ≡ column_behind (column_behind c s) t
unfolding column_behind
column_append c [] t = refl
column_append c (b ∷ s) t = column_append (cond (eqb b 0x0A) 1 (cond (continuation b) c (c + 1))) s t

-- after an LF the column is 1
column_new : (c : ℕ) (s : List ℕ) → get_last? s ≡ some 0x0A → column_behind c s ≡ 1
unfolding column_behind
column_new c [] e = let z : ◌≡◌ {A = ℕ} 0 1 = cc in absurd (omega arith)
column_new c (b ∷ []) e = let z : b ≡ 0x0A = cc in rw z
column_new c (b ∷ x ∷ s) e = column_new (cond (eqb b 0x0A) 1 (cond (continuation b) c (c + 1))) (x ∷ s) e

column_in_tail : (head tail : List ℕ) → Joins head tail → get_last? head ≡ some 0x0A → (offset : ℕ)
    → column_of (head ++ tail) (length head + offset) ≡ column_of tail offset
column_in_tail head tail joins lf offset =
    let start = start_of head in
    let s = take offset tail in
    let from = drop-append-le start head s (start_fits head) in
    let ends = last_drop start head (some_lexed head joins.newline) ∙ lf in
    rw (same_start head tail joins.newline, take-append-add head tail offset, from, unmarked_start tail joins.unmarked)
    (column_append 1 (drop start head) s ∙ ap (λ (c : ℕ). column_behind c s) (column_new 1 (drop start head) ends))

pub placed : Places
placed head tail small joins =
    let size = length-append head tail in
    record {
      in_head = λ offset h.
          rw (
            position_is (head ++ tail) offset (omega arith) (omega arith),
            position_is head offset (omega arith) h,
            take-append-le offset head tail h,
            same_start head tail joins.newline,
          );
      in_tail = λ offset h.
          rw (
            position_is (head ++ tail) (length head + offset) (omega arith) (omega arith),
            position_is tail offset (omega arith) h,
            take-append-add head tail offset,
          )
          (omega (arith, feeds_append head (take offset tail)));
      columns = λ lf offset h. column_in_tail head tail joins lf offset;
    }
