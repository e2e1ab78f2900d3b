-- What the loops over the pieces of a body keep: one asks for an error, one counts, one writes.
-- Assumes nothing.
use Prim.Native.Nat.{ℕ, suc, ◌+◌, ◌*◌, ◌≤◌, ◌<◌}
use mathlib.Core.Path.{◌≡◌, refl, sym, ◌∙◌, ap}
use mathlib.Core.Bool.{◌||◌}
use mathlib.Core.List.{List, [], ◌∷◌, ◌++◌, map, map-append}
use native.Mathlib.Numerals.{add-one}
use native.Mathlib.Omega.{arith}
use lib.ListN.{length, take, set, length-append, length-map, length-take}
use lib.Seq.{sets}
use Rattle.decoder_rules.specs.declared.Encoding.{Encoding}
use Rattle.decoder_rules.specs.declared.Piece.{Piece}
use Rattle.decoder_rules.specs.declared.Given.{Given}
use Rattle.decoder_rules.specs.declared.Given.TheVariants.{Copy, Char, Nothing}
use Rattle.decoder_rules.specs.Pieces.{given_of, gives, notes, notes_of}
use Rattle.decoder_rules.proofs.PieceLaws.{notes_few}
use Rattle.decoder_rules.proofs.Fine.{FineAt, turn_fine}
use Rattle.decoder_rules.proofs.BodyLaws.{piece_fine}
use Rattle.decoder_rules.proofs.StoreLaws.{Stored, sets_append, store_append}
use Rattle.decoder_pieces.specs.declared.body.Body.{Body}
use Rattle.std.specs.Prelude.{Option, Some, None, is_some}
use Rattle.decoder_rules.specs.declared.Wrong.{Wrong}
use Rattle.decoder_pieces.specs.Steps.{body_bytes, body_step, bytes_left, errors_left}
use Rattle.decoder_pieces.proofs.StepLaws.{step_turn, turn_fits, at_piece}
use Rattle.built_mending.specs.Mending.{respelt, is_broken}
use Rattle.built_mending.proofs.SpellLaws.{respelt_none, respelt_append, respelt_six, char_six}

-- ---- whether there is an error

-- a verdict's error first, and then others
pub broken_by : (v : Option Wrong) (b : List (List ℕ)) → is_broken (notes_of v ++ b) ≡ (is_some v || is_broken b)
broken_by None b = refl
broken_by (Some w) b = refl

-- ---- what a piece is written with

-- no more than six bytes for each that it takes
given_six : (g : Given) (n : ℕ) (s : List ℕ) → 0 < n → length (respelt (given_of g n s)) ≤ 6 * n
unfolding respelt
given_six Copy n s h = omega (arith, respelt_six (take n s), length-take n s)
given_six (Char c) n s h = omega (arith, char_six c)
given_six Nothing n s h = omega arith

pub gives_six : (p : Piece) (s : List ℕ) → 0 < p.take → length (respelt (gives p s)) ≤ 6 * p.take
unfolding gives
gives_six p s h = given_six p.given p.take s h

-- ---- a step that gives a piece

module _ (e : Encoding) (t : List ℕ) (b next : Body) (p : Piece) (step : body_step e t b ≡ Some (p, next)) where
  pub step_fine : FineAt p (body_bytes b t)
  step_fine = turn_fine (piece_fine e) (step_turn e t b p next step).0

  pub step_within : (b.at ≤ b.end) × (b.at ≤ length t)
  step_within = let fits = turn_fits e t b p (step_turn e t b p next step).0 in (omega (arith, fits.2), omega (arith, fits.3))

  pub step_end : next.end ≡ b.end
  step_end = ap (λ (x : Body). x.end) (step_turn e t b p next step).1

-- ---- the loops over what is left of the body `start` of the text t

module _ (e : Encoding) (t : List ℕ) (start : Body) where
  -- n bytes and m errors are counted, and the body b is left
  pub record CountedTo (b : Body) (n m : ℕ) : Type 0 where
    pub small : n + 6 * length (body_bytes b t) ≤ 6 * length (body_bytes start t)
    pub few : m + length (body_bytes b t) ≤ length (body_bytes start t)
    pub bytes : n + length (respelt (bytes_left e t b)) ≡ length (respelt (bytes_left e t start))
    pub errors : m + length (errors_left e t b) ≡ length (errors_left e t start)

  pub count_start : CountedTo start 0 0
  count_start = record { small = omega arith; few = omega arith; bytes = omega arith; errors = omega arith }

  module _ (b next : Body) (p : Piece) (step : body_step e t b ≡ Some (p, next)) where
    -- what is written of b is what is written of the piece, and then of what is left
    pub spelt_piece : respelt (bytes_left e t b) ≡ respelt (gives p (body_bytes b t)) ++ respelt (bytes_left e t next)
    spelt_piece =
        ap respelt (at_piece e t b p next step).bytes ∙ respelt_append (gives p (body_bytes b t)) (bytes_left e t next)

    spelt_sum : length (respelt (bytes_left e t b)) ≡ length (respelt (gives p (body_bytes b t))) + length (respelt (bytes_left e t next))
    spelt_sum = ap length spelt_piece ∙ length-append (respelt (gives p (body_bytes b t))) (respelt (bytes_left e t next))

    notes_sum : length (errors_left e t b) ≡ length (notes p) + length (errors_left e t next)
    notes_sum = ap length (at_piece e t b p next step).errors ∙ length-append (notes p) (errors_left e t next)

    pub count_turn : {n m w k : ℕ} → CountedTo b n m → w ≡ length (respelt (gives p (body_bytes b t))) → k ≡ length (notes p)
        → CountedTo next (n + w) (m + k)
    count_turn v ew ek =
        let a = at_piece e t b p next step in
        record {
          small = omega (arith, v.small, a.fewer, gives_six p (body_bytes b t) a.some);
          few = omega (arith, v.few, a.fewer, a.some, notes_few p);
          bytes = omega (arith, v.bytes, spelt_sum);
          errors = omega (arith, v.errors, notes_sum);
        }

    -- ---- writing: what is left of b, stored from o and m on, makes the whole; f makes a record of an error

    module _ (f : List ℕ → List ℕ) where
      pub records_piece : map f (errors_left e t b) ≡ map f (notes p) ++ map f (errors_left e t next)
      records_piece = ap (map f) (at_piece e t b p next step).errors ∙ map-append f (notes p) (errors_left e t next)

  pub count_end : {b : Body} {n m : ℕ} → body_bytes b t ≡ [] → CountedTo b n m
      → (n ≡ length (respelt (bytes_left e t start))) × (m ≡ length (errors_left e t start))
  count_end {b} h v =
      let none : bytes_left e t b ≡ [] = rw h in
      let quiet : errors_left e t b ≡ [] = rw h in
      (omega (arith, v.bytes, ap length (ap respelt none ∙ respelt_none)), omega (arith, v.errors, ap length quiet))

  -- memory that held out₀ and recs₀ holds out and recs: it is written to o and m, and the body b is left
  module _ (f : List ℕ → List ℕ) (out₀ : List ℕ) (o₀ : ℕ) (recs₀ : List (List ℕ)) (m₀ : ℕ) where
    pub record WrittenTo (out : List ℕ) (recs : List (List ℕ)) (b : Body) (o m : ℕ) : Type 0 where
      pub out_long : length out ≡ length out₀
      pub recs_long : length recs ≡ length recs₀
      pub out_sum : o + length (respelt (bytes_left e t b)) ≡ o₀ + length (respelt (bytes_left e t start))
      pub recs_sum : m + length (errors_left e t b) ≡ m₀ + length (errors_left e t start)
      pub out_is : sets out o (respelt (bytes_left e t b)) ≡ sets out₀ o₀ (respelt (bytes_left e t start))
      pub recs_is : sets recs m (map f (errors_left e t b)) ≡ sets recs₀ m₀ (map f (errors_left e t start))

    pub write_start : WrittenTo out₀ recs₀ start o₀ m₀
    write_start =
        record { out_long = refl; recs_long = refl; out_sum = refl; recs_sum = refl; out_is = refl; recs_is = refl }

    module _ (b next : Body) (p : Piece) (step : body_step e t b ≡ Some (p, next)) {out : List ℕ} {recs : List (List ℕ)} {o m : ℕ}
        (v : WrittenTo out recs b o m) where
      -- there is room for what the piece is written with, and for its error
      pub write_room : o₀ + length (respelt (bytes_left e t start)) ≤ length out₀ → m₀ + length (errors_left e t start) ≤ length recs₀
          → (o + length (respelt (gives p (body_bytes b t))) ≤ length out) × (m + length (notes p) ≤ length recs)
      write_room a z = (
        omega (arith, spelt_sum b next p step, v.out_sum, v.out_long),
        omega (arith, notes_sum b next p step, v.recs_sum, v.recs_long),
      )

      pub write_turn : {out₁ : List ℕ} {recs₁ : List (List ℕ)} {o₁ m₁ : ℕ} → length out₁ ≡ length out → length recs₁ ≡ length recs
          → Stored out o (respelt (gives p (body_bytes b t))) o₁ out₁ → Stored recs m (map f (notes p)) m₁ recs₁
          → WrittenTo out₁ recs₁ next o₁ m₁
      write_turn same_out same-recs stored noted =
          record {
            out_long = same_out ∙ v.out_long;
            recs_long = same-recs ∙ v.recs_long;
            out_sum = omega (arith, spelt_sum b next p step, v.out_sum, stored.place);
            recs_sum = omega (arith, notes_sum b next p step, v.recs_sum, noted.place, length-map (notes p) f);
            out_is =
                rw (stored.place, stored.holds)
                (sym (sets_append out o (respelt (gives p (body_bytes b t))) (respelt (bytes_left e t next))))
                ∙ ap (sets out o) (sym (spelt_piece b next p step)) ∙ v.out_is;
            recs_is =
                rw (noted.place, noted.holds) (sym (sets_append recs m (map f (notes p)) (map f (errors_left e t next))))
                ∙ ap (sets recs m) (sym (records_piece b next p step f)) ∙ v.recs_is;
          }

    pub write_end : {out : List ℕ} {recs : List (List ℕ)} {b : Body} {o m : ℕ} → body_bytes b t ≡ []
        → WrittenTo out recs b o m
        → Stored out₀ o₀ (respelt (bytes_left e t start)) o out × Stored recs₀ m₀ (map f (errors_left e t start)) m recs
    write_end {b = b} h v =
        let none : bytes_left e t b ≡ [] = rw h in
        let quiet : errors_left e t b ≡ [] = rw h in
        let spelt : respelt (bytes_left e t b) ≡ [] = ap respelt none ∙ respelt_none in
        let listed : map f (errors_left e t b) ≡ [] = ap (map f) quiet in (
          record { place = omega (arith, v.out_sum, ap length spelt); holds = rw spelt at v.out_is },
          record {
            place = omega (arith, v.recs_sum, ap length quiet, length-map (errors_left e t start) f);
            holds = rw listed at v.recs_is;
          },
        )

-- ---- a replacement, stored: what stands before it, a mark, the body, and a mark

pub store_between : (a body old : List ℕ) (o : ℕ) {held₁ held₂ : List ℕ} {at end : ℕ} → Stored old o a at held₁
    → Stored (set held₁ at 0x22) (at + 1) body end held₂
    → Stored old o (a ++ (0x22 ∷ (body ++ (0x22 ∷ [])))) (end + 1) (set held₂ end 0x22)
store_between a body old o {held₁} {at = at} p q =
    store_append p
    (record {
      place = omega (arith, q.place, length-append body (0x22 ∷ []));
      holds = rw (q.place, q.holds, add-one) (sym (sets_append (set held₁ at 0x22) (suc at) body (0x22 ∷ [])));
    })

-- the records of a text: of its marks, and then of its body
pub store_errors : (f : List ℕ → List ℕ) (a b d : List (List ℕ)) {recs r₁ r₂ r₃ : List (List ℕ)} {m m₁ m₂ m₃ : ℕ}
    → Stored recs m (map f a) m₁ r₁ → Stored r₁ m₁ (map f b) m₂ r₂ → Stored r₂ m₂ (map f d) m₃ r₃
    → Stored recs m (map f (a ++ (b ++ d))) m₃ r₃
store_errors f a b d p q r = rw (map-append f a (b ++ d), map-append f b d) (store_append p (store_append q r))
