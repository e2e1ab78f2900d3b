-- What the two loops over the tokens of a document keep: one counts, one writes. Of each, a turn at a token that is replaced, and
-- a turn at one that stays.
-- Assumes nothing.
use Prim.Native.Nat.{ℕ, ◌+◌, ◌-◌, ◌≤◌, ◌<◌}
use mathlib.Core.Path.{◌≡◌, refl, sym, ◌∙◌, ap}
use mathlib.Core.Bool.{Bool, true, false}
use mathlib.Core.List.{List, ◌++◌, map, append_assoc, append-nil}
use native.Mathlib.Nat.{sub-zero, zero-add}
use native.Mathlib.Omega.{arith}
use lib.Dec.{eqb}
use lib.ListN.{length, take, get_or, length-append, length-map}
use lib.Seq.{sets, length-take-le}
use Rattle.lexer.specs.Tokens.{start_of, tokens_of}
use Rattle.lexer.proofs.TokenLaws.{token_fits_at, token_long_at, line_fits_at, start_fits}
use Rattle.std.specs.Prelude.{Option, Some, None}
use Rattle.decoder_rules.specs.declared.Encoding.{Encoding}
use Rattle.decoder_rules.specs.Decoding.{bytes_of, errors_of}
use Rattle.decoder_rules.proofs.StoreLaws.{Stored, sets_append}
use Rattle.lexer_token.specs.declared.Token.{Token}
use Rattle.built_mending.specs.Mending.{replacement, Part, part_of, gap, mend, mended, record_at, list, listed}
use Rattle.built_mending.specs.Passes.{Finds, between, tokens_at, parts_at}
use Rattle.built_mending.proofs.TokenLaws.{token_here, found_here, part_here, end_here, line_there, part_long, part_ends, part_join, part_none, ends_replaced, mend_step, list_step, mend_end, list_end, broken_reports, broken_becomes, whole_reports, whole_becomes}

-- ---- the token at a place before the end, by what is found of it

module _ (edition : ℕ) (doc : List ℕ) (at line : ℕ) (h : at < length doc) where
  abbrev end : ℕ
  end = end_here doc at line

  abbrev p : Part
  p = part_here doc at line

  pub end_fits : (at < end) × (end ≤ length doc)
  end_fits = (omega (arith, token_long_at doc at h), token_fits_at doc at (omega arith))

  -- it is replaced
  module _ (e : Encoding) (found : Finds edition p (Some e)) (quoted : Bool) where
    pub mend_broken : mend edition quoted (parts_at doc at line)
        ≡ (gap quoted ++ replacement (bytes_of e (between doc at end))) ++ mend edition true (parts_at doc end (line_there doc at line))
    mend_broken =
        let is = broken_becomes edition p e found quoted in
        mend_step doc at line edition quoted h ∙ rw (is, ends_replaced quoted (gap quoted) (bytes_of e (between doc at end)))

    pub list_broken : list edition doc (tokens_at doc at line)
        ≡ map (record_at at end) (errors_of e (between doc at end)) ++ list edition doc (tokens_at doc end (line_there doc at line))
    list_broken = list_step doc at line edition h ∙ rw (broken_reports edition p e found)

  -- it stays
  module _ (found : Finds edition p None) where
    pub mend_whole : (quoted : Bool) → mend edition quoted (parts_at doc at line)
        ≡ between doc at end ++ mend edition (eqb (get_or doc (end - 1) 0) 0x22) (parts_at doc end (line_there doc at line))
    mend_whole quoted =
        let is = whole_becomes edition p found quoted in
        let fits = end_fits in
        mend_step doc at line edition quoted h ∙ rw (is, part_ends quoted doc at end fits.0 fits.1)

    pub list_whole : list edition doc (tokens_at doc at line) ≡ list edition doc (tokens_at doc end (line_there doc at line))
    list_whole = list_step doc at line edition h ∙ rw (whole_reports edition p found)

-- ---- counting: n and m with what the tokens from `at` on become and report make the whole

pub record Counted (edition : ℕ) (doc : List ℕ) (at line : ℕ) (quoted : Bool) (n m : ℕ) : Type 0 where
  pub within : at ≤ length doc
  pub low : line ≤ at + 1
  pub bytes : n + length (mend edition quoted (parts_at doc at line)) ≡ length (mended edition doc)
  pub records : m + length (list edition doc (tokens_at doc at line)) ≡ length (listed edition doc)

module _ (edition : ℕ) (doc : List ℕ) where
  pub counted_start : Counted edition doc (start_of doc) 1 false (start_of doc) 0
  unfolding mended tokens_of
  counted_start =
      let start = take (start_of doc) doc in
      record {
        within = start_fits doc;
        low = omega arith;
        bytes = omega (
          arith,
          length-append start (mend edition false (parts_at doc (start_of doc) 1)),
          length-take-le (start_of doc) doc (start_fits doc),
        );
        records = zero-add (length (list edition doc (tokens_at doc (start_of doc) 1)));
      }

  module _ (at line : ℕ) (h : at < length doc) where
    pub counted_broken : (e : Encoding) → Finds edition (part_here doc at line) (Some e) → {quoted : Bool} {n m w k : ℕ}
        → Counted edition doc at line quoted n m → w ≡ length (gap quoted) + length (replacement (bytes_of e (between doc at (end_here doc at line))))
        → k ≡ length (errors_of e (between doc at (end_here doc at line)))
        → Counted edition doc (end_here doc at line) (line_there doc at line) true (n + w) (m + k)
    counted_broken e found {quoted} v ew ek =
        let text = between doc at (end_here doc at line) in
        let new = replacement (bytes_of e text) in
        let records = map (record_at at (end_here doc at line)) (errors_of e text) in
        record {
          within = (end_fits edition doc at line h).1;
          low = line_fits_at doc at line v.low;
          bytes = omega (
            arith,
            v.bytes,
            ap length (mend_broken edition doc at line h e found quoted),
            length-append (gap quoted ++ new) (mend edition true (parts_at doc (end_here doc at line) (line_there doc at line))),
            length-append (gap quoted) new,
          );
          records = omega (
            arith,
            v.records,
            ap length (list_broken edition doc at line h e found quoted),
            length-append records (list edition doc (tokens_at doc (end_here doc at line) (line_there doc at line))),
            length-map (errors_of e text) (record_at at (end_here doc at line)),
          );
        }

    pub counted_whole : Finds edition (part_here doc at line) None → {quoted : Bool} {n m : ℕ} → Counted edition doc at line quoted n m
        → Counted edition doc (end_here doc at line) (line_there doc at line) (eqb (get_or doc (end_here doc at line - 1) 0) 0x22)
        (n + (end_here doc at line - at)) m
    counted_whole found {quoted} v =
        let end = end_here doc at line in
        let fits = end_fits edition doc at line h in
        let ends = eqb (get_or doc (end - 1) 0) 0x22 in
        record {
          within = fits.1;
          low = line_fits_at doc at line v.low;
          bytes = omega (
            arith,
            v.bytes,
            ap length (mend_whole edition doc at line h found quoted),
            length-append (between doc at end) (mend edition ends (parts_at doc end (line_there doc at line))),
            part_long doc at end (omega arith) fits.1,
          );
          records = omega (arith, v.records, ap length (list_whole edition doc at line h found));
        }

  pub counted_end : {at line : ℕ} {quoted : Bool} {n m : ℕ} → length doc ≤ at → Counted edition doc at line quoted n m
      → (n ≡ length (mended edition doc)) × (m ≡ length (listed edition doc))
  counted_end {at} {line} {quoted} h v = (
    omega (arith, v.bytes, ap length (mend_end doc at line edition quoted h)),
    omega (arith, v.records, ap length (list_end doc at line edition h)),
  )

-- ---- writing: memory that held out₀ and recs₀ holds out and recs. It is written to o and m; what stays between the places `from`
-- and `at` is still to be copied, and then comes what the tokens from `at` on become

pub record Filled (edition : ℕ) (doc out₀ : List ℕ) (recs₀ : List (List ℕ)) (out : List ℕ) (recs : List (List ℕ))
    (from at line : ℕ) (quoted : Bool) (o m : ℕ) : Type 0 where
  pub within : at ≤ length doc
  pub low : line ≤ at + 1
  pub back : from ≤ at
  pub out_long : length out ≡ length out₀
  pub recs_long : length recs ≡ length recs₀
  pub out_sum : o + length (between doc from at ++ mend edition quoted (parts_at doc at line)) ≡ length (mended edition doc)
  pub recs_sum : m + length (list edition doc (tokens_at doc at line)) ≡ length (listed edition doc)
  pub out_is : sets out o (between doc from at ++ mend edition quoted (parts_at doc at line)) ≡ sets out₀ 0 (mended edition doc)
  pub recs_is : sets recs m (list edition doc (tokens_at doc at line)) ≡ sets recs₀ 0 (listed edition doc)

module _ (edition : ℕ) (doc out₀ : List ℕ) (recs₀ : List (List ℕ)) where
  pub filled_start : Filled edition doc out₀ recs₀ out₀ recs₀ 0 (start_of doc) 1 false 0 0
  unfolding mended tokens_of
  filled_start =
      record {
        within = start_fits doc;
        low = omega arith;
        back = omega arith;
        out_long = refl;
        recs_long = refl;
        out_sum = rw sub-zero (zero-add (length (take (start_of doc) doc ++ mend edition false (parts_at doc (start_of doc) 1))));
        recs_sum = zero-add (length (list edition doc (tokens_at doc (start_of doc) 1)));
        out_is = rw sub-zero;
        recs_is = refl;
      }

  module _ (at line : ℕ) (h : at < length doc) {out : List ℕ} {recs : List (List ℕ)} {from : ℕ} {quoted : Bool} {o m : ℕ}
      (v : Filled edition doc out₀ recs₀ out recs from at line quoted o m) where
    abbrev stop : ℕ
    stop = end_here doc at line

    -- a token that stays joins what is still to be copied
    pub filled_whole : Finds edition (part_here doc at line) None
        → Filled edition doc out₀ recs₀ out recs from stop (line_there doc at line) (eqb (get_or doc (stop - 1) 0) 0x22) o m
    filled_whole found =
        let fits = end_fits edition doc at line h in
        let ends = eqb (get_or doc (stop - 1) 0) 0x22 in
        let rest = mend edition ends (parts_at doc stop (line_there doc at line)) in
        let same : between doc from at ++ mend edition quoted (parts_at doc at line) ≡ between doc from stop ++ rest =
        ap (λ (x : List ℕ). between doc from at ++ x) (mend_whole edition doc at line h found quoted)
        ∙ sym (append_assoc (between doc from at) (between doc at stop) rest)
        ∙ ap (λ (x : List ℕ). x ++ rest) (part_join doc from at stop v.back (omega arith)) in
        let none = list_whole edition doc at line h found in
        record {
          within = fits.1;
          low = line_fits_at doc at line v.low;
          back = omega (arith, v.back);
          out_long = v.out_long;
          recs_long = v.recs_long;
          out_sum = rw same at v.out_sum;
          recs_sum = rw none at v.recs_sum;
          out_is = rw same at v.out_is;
          recs_is = rw none at v.recs_is;
        }

    -- a token that is replaced: what was still to be copied, its replacement and its records are stored
    module _ (e : Encoding) (found : Finds edition (part_here doc at line) (Some e)) where
      abbrev new : List ℕ
      new = gap quoted ++ replacement (bytes_of e (between doc at stop))

      abbrev noted : List (List ℕ)
      noted = map (record_at at stop) (errors_of e (between doc at stop))

      abbrev tail : List ℕ
      tail = mend edition true (parts_at doc stop (line_there doc at line))

      abbrev others : List (List ℕ)
      others = list edition doc (tokens_at doc stop (line_there doc at line))

      out_split : between doc from at ++ mend edition quoted (parts_at doc at line) ≡ between doc from at ++ (new ++ tail)
      out_split = ap (λ (x : List ℕ). between doc from at ++ x) (mend_broken edition doc at line h e found quoted)

      out_count : length (between doc from at ++ mend edition quoted (parts_at doc at line))
          ≡ length (between doc from at) + (length new + length tail)
      out_count =
          ap length out_split ∙ length-append (between doc from at) (new ++ tail)
          ∙ ap (λ (n : ℕ). length (between doc from at) + n) (length-append new tail)

      recs_count : length (list edition doc (tokens_at doc at line)) ≡ length (errors_of e (between doc at stop)) + length others
      recs_count =
          omega (
            arith,
            ap length (list_broken edition doc at line h e found quoted),
            length-append noted others,
            length-map (errors_of e (between doc at stop)) (record_at at stop),
          )

      -- there is room for all of it
      pub filled_room : length (mended edition doc) ≤ length out₀ → length (listed edition doc) ≤ length recs₀
          → (o + (length (between doc from at) + length new) ≤ length out) × (m + length (errors_of e (between doc at stop)) ≤ length recs)
      filled_room a z = (
        omega (arith, out_count, v.out_sum, v.out_long),
        omega (arith, recs_count, v.recs_sum, v.recs_long),
      )

      pub filled_broken : {out₁ out₂ : List ℕ} {recs₂ : List (List ℕ)} {o₁ o₂ m₂ : ℕ} → length out₂ ≡ length out → length recs₂ ≡ length recs
          → Stored out o (between doc from at) o₁ out₁ → Stored out₁ o₁ new o₂ out₂ → Stored recs m noted m₂ recs₂
          → Filled edition doc out₀ recs₀ out₂ recs₂ stop stop (line_there doc at line) true o₂ m₂
      filled_broken {o₁ = o₁} same_out same-recs copied put Listed-in =
          let fits = end_fits edition doc at line h in
          let none = part_none doc stop in
          record {
            within = fits.1;
            low = line_fits_at doc at line v.low;
            back = omega arith;
            out_long = same_out ∙ v.out_long;
            recs_long = same-recs ∙ v.recs_long;
            out_sum = rw none (omega (arith, out_count, v.out_sum, copied.place, put.place));
            recs_sum = omega (arith, recs_count, v.recs_sum, Listed-in.place, length-map (errors_of e (between doc at stop)) (record_at at stop));
            out_is =
                rw (none, put.place, put.holds)
                (sym (sets_append _ o₁ new tail)
                ∙ rw (copied.place, copied.holds) (sym (sets_append out o (between doc from at) (new ++ tail)))
                ∙ ap (sets out o) (sym out_split) ∙ v.out_is);
            recs_is =
                rw (Listed-in.place, Listed-in.holds)
                (sym (sets_append recs m noted others)
                ∙ ap (sets recs m) (sym (list_broken edition doc at line h e found quoted)) ∙ v.recs_is);
          }

  -- at the end what is still to be copied is the rest of the document
  module _ {at line : ℕ} {out : List ℕ} {recs : List (List ℕ)} {from : ℕ} {quoted : Bool} {o m : ℕ} (h : length doc ≤ at)
      (v : Filled edition doc out₀ recs₀ out recs from at line quoted o m) where
    last : between doc from at ++ mend edition quoted (parts_at doc at line) ≡ between doc from (length doc)
    last =
        let end : at ≡ length doc = omega (arith, v.within) in
        rw (mend_end doc at line edition quoted h, append-nil (between doc from at), end)

    pub filled_left : length (mended edition doc) ≤ length out₀
        → (from ≤ length doc) × (o + length (between doc from (length doc)) ≤ length out)
    filled_left room = (omega (arith, v.back, v.within), omega (arith, ap length last, v.out_sum, v.out_long))

    pub filled_end : {out₁ : List ℕ} {o₁ : ℕ} → Stored out o (between doc from (length doc)) o₁ out₁
        → Stored out₀ 0 (mended edition doc) o₁ out₁ × Stored recs₀ 0 (listed edition doc) m recs
    filled_end copied =
        let none = list_end doc at line edition h in (
          record {
            place = omega (arith, copied.place, ap length last, v.out_sum);
            holds = copied.holds ∙ ap (sets out o) (sym last) ∙ v.out_is;
          },
          record { place = omega (arith, v.recs_sum, ap length none); holds = rw none at v.recs_is },
        )

-- ---- the turns, as the loops come to them: t is the token at the place, `on` the line after it, and r what is found of it

module _ (doc : List ℕ) (at line : ℕ) (h : at < length doc) (t : Token) (is : t ≡ token_here doc at line) where
  pub token_within : (t.span.start ≡ at) × (at < t.span.end) × (t.span.end ≤ length doc)
  token_within =
      let fits = end_fits 0 doc at line h in
      let end : t.span.end ≡ end_here doc at line = ap (λ (u : Token). u.span.end) is in
      (ap (λ (u : Token). u.span.start) is, omega (arith, fits.0), omega (arith, fits.1))

  module _ (edition on : ℕ) (next : on ≡ line_there doc at line) (r : Option Encoding) (found : Finds edition (part_of doc t) r) where
    pub counted_replaced : (e : Encoding) → r ≡ Some e → {quoted : Bool} {n m w k : ℕ} → Counted edition doc at line quoted n m
        → w ≡ length (gap quoted) + length (replacement (bytes_of e (between doc at t.span.end)))
        → k ≡ length (errors_of e (between doc at t.span.end))
        → Counted edition doc t.span.end on true (n + w) (m + k)
    counted_replaced e which v ew ek =
        let here = found_here edition doc at line t r (Some e) is which found in
        rw (is, next) (counted_broken edition doc at line h e here v (rw is at ew) (rw is at ek))

    pub counted_kept : r ≡ None → {quoted : Bool} {n m : ℕ} → Counted edition doc at line quoted n m
        → Counted edition doc t.span.end on (eqb (get_or doc (t.span.end - 1) 0) 0x22) (n + (t.span.end - at)) m
    counted_kept which v =
        let here = found_here edition doc at line t r None is which found in
        rw (is, next) (counted_whole edition doc at line h here v)

    module _ (out₀ : List ℕ) (recs₀ : List (List ℕ)) {out : List ℕ} {recs : List (List ℕ)} {from : ℕ} {quoted : Bool} {o m : ℕ}
        (v : Filled edition doc out₀ recs₀ out recs from at line quoted o m) where
      pub filled_kept : r ≡ None
          → Filled edition doc out₀ recs₀ out recs from t.span.end on (eqb (get_or doc (t.span.end - 1) 0) 0x22) o m
      filled_kept which =
          let here = found_here edition doc at line t r None is which found in
          rw (is, next) (filled_whole edition doc out₀ recs₀ at line h v here)

      module _ (e : Encoding) (which : r ≡ Some e) where
        pub filled_space : length (mended edition doc) ≤ length out₀ → length (listed edition doc) ≤ length recs₀
            → (o + (length (between doc from at) + length (gap quoted ++ replacement (bytes_of e (between doc at t.span.end)))) ≤ length out)
            × (m + length (errors_of e (between doc at t.span.end)) ≤ length recs)
        filled_space a z =
            let here = found_here edition doc at line t r (Some e) is which found in
            rw is (filled_room edition doc out₀ recs₀ at line h v e here a z)

        pub filled_replaced : {out₁ out₂ : List ℕ} {recs₂ : List (List ℕ)} {o₁ o₂ m₂ : ℕ} → length out₂ ≡ length out
            → length recs₂ ≡ length recs → Stored out o (between doc from at) o₁ out₁
            → Stored out₁ o₁ (gap quoted ++ replacement (bytes_of e (between doc at t.span.end))) o₂ out₂
            → Stored recs m (map (record_at t.span.start t.span.end) (errors_of e (between doc at t.span.end))) m₂ recs₂
            → Filled edition doc out₀ recs₀ out₂ recs₂ t.span.end t.span.end on true o₂ m₂
        filled_replaced same_out same-recs copied put Listed-in =
            let here = found_here edition doc at line t r (Some e) is which found in
            rw (is, next)
            (filled_broken edition doc out₀ recs₀ at line h v e here same_out same-recs copied (rw is at put) (rw is at Listed-in))
