-- RULE. What the calls of this crate answer, and what each answer of the UTF-8 check says of the bytes. The check's promise is
-- an equation with the computed `check_of`; `check_means`, in proofs/AnswerLaws.antt, proves that the equation says just what
-- `CheckMeans` says. The length returned with refusal 1 is the `error_len` of Rust's own UTF-8 error, 0 for none.
use Rattle.std.specs.Prelude.{ℕ, ◌≤◌, ◌<◌, Result, Ok, Err, ⊤}
use mathlib.Core.{Path.◌≡◌, Bool.cond, List.List, List.◌++◌}
use lib.{ListN.length, ListN.take, ListN.drop, Dec.ltb, Dec.eqb}
use Rattle.text_refusals.specs.{Refusals.limit}
use Rattle.text_scalars.specs.{Utf8.Scalar, Utf8.encode_scalar, Utf8.Utf8, Utf8Read.valid_prefix}
use Rattle.text_characters.specs.{Lead.fault_len}
use Rattle.text_refusals.specs.declared.{Refusal.Refusal}
use Rattle.text_refusals.specs.declared.Refusal.TheVariants.{NotUtf8, TooLong, FewTokens, ShortOutput, FewErrors, OutOfPlace, NoKind, AfterEnd, NoEdition, TooDeep, NoReviewer, FewMarks, TotalFull}

-- the UTF-8 check: refusal 2 before 1, and with 1 the lengths of the longest valid prefix and of the faulty sequence
unfoldable pub check_of : List ℕ → Result ⊤ Refusal
check_of s =
    cond (ltb limit (length s)) (Err TooLong)
    (cond (eqb (valid_prefix s) (length s)) (Ok tt) (Err (NotUtf8 (valid_prefix s) (fault_len (drop (valid_prefix s) s)))))

-- p begins the encoding of some scalar value: `more`, appended to p, makes it whole
abbrev pub Begins : List ℕ → Type 0
Begins p = (c : ℕ) × (more : List ℕ) × Scalar c × (encode_scalar c ≡ p ++ more)

-- n is the length of the longest prefix of t that begins a character: it does, and no longer one does
pub record LongestBegun (t : List ℕ) (n : ℕ) : Type 0 where
  pub within : n ≤ length t
  pub begins : Begins (take n t)
  pub longest : (k : ℕ) → k ≤ length t → Begins (take k t) → k ≤ n

-- n bytes that begin a character, of `left`: none are at fault where that is all of them, as the text ends inside the
-- character; else they are, and at least one is
abbrev pub faulty : ℕ → ℕ → ℕ
faulty n left = cond (eqb n left) 0 (cond (eqb n 0) 1 n)

-- r is the length of the faulty sequence that t begins with
pub record Fault (t : List ℕ) (r : ℕ) : Type 0 where
  pub begun : ℕ
  pub is : LongestBegun t begun
  pub told : r ≡ faulty begun (length t)

-- n is the length of the longest prefix of s that is UTF-8: it is, and no longer one is
pub record Longest (s : List ℕ) (n : ℕ) : Type 0 where
  pub within : n ≤ length s
  pub valid : Utf8 (take n s)
  pub longest : (k : ℕ) → k ≤ length s → Utf8 (take k s) → k ≤ n

abbrev pub CheckMeans : List ℕ → Result ⊤ Refusal → Type 0
CheckMeans s (Ok u) = (length s ≤ limit) × Utf8 s
CheckMeans s (Err TooLong) = limit < length s
CheckMeans s (Err (NotUtf8 n r)) = (length s ≤ limit) × (Utf8 s → ⊥) × Longest s n × Fault (drop n s) r
CheckMeans s (Err (FewTokens n)) = ⊥
CheckMeans s (Err (ShortOutput n)) = ⊥
CheckMeans s (Err (FewErrors n)) = ⊥
CheckMeans s (Err (OutOfPlace n)) = ⊥
CheckMeans s (Err (NoKind n)) = ⊥
CheckMeans s (Err AfterEnd) = ⊥
CheckMeans s (Err (NoEdition n)) = ⊥
CheckMeans s (Err TooDeep) = ⊥
CheckMeans s (Err (NoReviewer n)) = ⊥
CheckMeans s (Err (FewMarks n)) = ⊥
CheckMeans s (Err TotalFull) = ⊥
