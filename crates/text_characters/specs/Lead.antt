-- What a first byte says of its character, and how many bytes are as it says. Not to be believed but proved:
-- proofs/LeadLaws.antt shows that a character begins where the bytes pass this table, and only there.
-- Assumes nothing.
use Rattle.std.specs.Prelude.{ℕ, ◌+◌, ◌-◌, ◌≤◌, ◌≡◌, Bool, cond, ◌&&◌, List, ltb, leb, eqb, length, get_or, Option, IfSome}
use Rattle.std.specs.Int.Count.{count_leading_zeros}
use Rattle.text_characters.specs.declared.Lead.{Lead}

abbrev pub row : ℕ → ℕ → ℕ → Lead
row n low high = record { 0 = n; 1 = low; 2 = high }

-- the Unicode standard's table 3-7, by the first byte: the length, 0 where none begins so, and the range of the second byte
unfoldable pub lead_of : ℕ → Lead
lead_of a =
    cond (ltb a 0x80) (row 1 0 0)
    (cond (ltb a 0xC2) (row 0 0 0)
    (cond (ltb a 0xE0) (row 2 0x80 0xBF)
    (cond (ltb a 0xE1) (row 3 0xA0 0xBF)
    (cond (ltb a 0xED) (row 3 0x80 0xBF)
    (cond (ltb a 0xEE) (row 3 0x80 0x9F)
    (cond (ltb a 0xF0) (row 3 0x80 0xBF)
    (cond (ltb a 0xF1) (row 4 0x90 0xBF)
    (cond (ltb a 0xF4) (row 4 0x80 0xBF)
    (cond (ltb a 0xF5) (row 4 0x80 0x8F)
    (row 0 0 0))))))))))

-- b is one of low to high, both included
abbrev pub Among : ℕ → ℕ → ℕ → Type 0
Among low high b = (low ≤ b) × (b ≤ high)

-- the leading ones of a byte: the leading zeros of its complement
abbrev pub ones_of : ℕ → ℕ
ones_of a = count_leading_zeros 8 (255 - a)

-- the first byte a says that its character has n bytes, and the second is as it asks
abbrev pub Asked : ℕ → ℕ → ℕ → Type 0
Asked a n b = ((lead_of a).0 ≡ n) × Among (lead_of a).1 (lead_of a).2 b

-- the four bytes a, b, c and d begin with a character of n bytes
pub record Character (a b c d n : ℕ) : Type 0 where
  pub some : (2 ≤ n) × (n ≤ 4)
  pub asked : Asked a n b
  pub third : 3 ≤ n → Among 0x80 0xBF c
  pub fourth : 4 ≤ n → Among 0x80 0xBF d

abbrev pub CharacterAt : List ℕ → ℕ → ℕ → Type 0
CharacterAt s i n = Character (get_or s i 0) (get_or s (i + 1) 0) (get_or s (i + 2) 0) (get_or s (i + 3) 0) n

-- where an answer is given, a character of r bytes stands at place i, all of them within s
abbrev pub WideAt : List ℕ → ℕ → Option ℕ → Type 0
WideAt s i answer = IfSome answer (λ r. (i + r ≤ length s) × CharacterAt s i r)

-- r bytes, of `left` that are there, are as the first one asks; the next one is not, or is not asked for, or is not there.
-- The second to the fourth byte are b, c and d.
pub record Begun (l : Lead) (left b c d r : ℕ) : Type 0 where
  pub some : (1 ≤ r) × (r ≤ left) × (r ≤ 4)
  pub second : 2 ≤ r → (2 ≤ l.0) × Among l.1 l.2 b
  pub third : 3 ≤ r → (3 ≤ l.0) × Among 0x80 0xBF c
  pub fourth : 4 ≤ r → (4 ≤ l.0) × Among 0x80 0xBF d
  pub not_second : r ≡ 1 → 2 ≤ l.0 → 2 ≤ left → Among l.1 l.2 b → ⊥
  pub not_third : r ≡ 2 → 3 ≤ l.0 → 3 ≤ left → Among 0x80 0xBF c → ⊥
  pub not_fourth : r ≡ 3 → 4 ≤ l.0 → 4 ≤ left → Among 0x80 0xBF d → ⊥

abbrev pub BegunAt : List ℕ → ℕ → Lead → ℕ → Type 0
BegunAt s at l r = Begun l (length s - at) (get_or s (at + 1) 0) (get_or s (at + 2) 0) (get_or s (at + 3) 0) r

-- `Begun` computed: the n-th byte is asked for, is there, and is in its range
abbrev pub goes_on : Lead → ℕ → ℕ → ℕ → ℕ → ℕ → Bool
goes_on l left n low high b = (leb n l.0 && leb n left) && (leb low b && leb b high)

unfoldable pub begun_by : Lead → ℕ → ℕ → ℕ → ℕ → ℕ
begun_by l left b c d =
    cond (goes_on l left 2 l.1 l.2 b)
    (cond (goes_on l left 3 0x80 0xBF c)
    (cond (goes_on l left 4 0x80 0xBF d) 4 3) 2) 1

abbrev pub begun_len : List ℕ → ℕ
begun_len t = begun_by (lead_of (get_or t 0 0)) (length t) (get_or t 1 0) (get_or t 2 0) (get_or t 3 0)

-- the length of the faulty sequence that t begins with: FaultLaws.antt of crate `text` shows that it is `Fault`'s
unfoldable pub fault_len : List ℕ → ℕ
fault_len t = cond (eqb (lead_of (get_or t 0 0)).0 0) 1 (cond (eqb (begun_len t) (length t)) 0 (begun_len t))
