-- What the looks ahead promise: of the token in progress at a place of a part, and of the one that begins there. None of it is a
-- rule: the promises of the calls do not cite it.
-- Assumes nothing.
use Rattle.std.specs.Prelude.{ℕ, ◌+◌, ◌-◌, ◌≤◌, ◌<◌, ◌≡◌, Bool, false, cond, List, [], ◌∷◌, length, get_or, take, drop, eqb, ltb}
use Rattle.lexer_scans.specs.Extents.{hides}
use Rattle.lexer_token.specs.declared.TokenKind.{TokenKind}
use Rattle.lexer.specs.Lines.{line_feeds, line_behind}
use Rattle.built_bytes.specs.declared.Quote.{Quote}
use Rattle.built_bytes.specs.declared.Mode.{Mode}
use Rattle.built_bytes.specs.declared.Mode.TheVariants.{Idle, Line}
use Rattle.built_bytes.specs.declared.Turn.TheVariants.{Opens, Single}
use Rattle.built_bytes.specs.Turns.{mark_of, opening}
use Rattle.built_bytes.specs.Rests.{Busy, rest_len, rest_kind, Runs}
use Rattle.built_ahead.specs.declared.Ahead.{Ahead}
use Rattle.built_ahead.specs.declared.Ahead.TheVariants.{Whole, Open}

-- the LFs from the place i up to the place e
abbrev pub feeds_to : List ℕ → ℕ → ℕ → ℕ
feeds_to s i e = line_feeds (take (e - i) (drop i s))

-- the token in progress ends at the place e, and a byte is there
pub record EndsAt (m : Mode) (s : List ℕ) (i : ℕ) (k : TokenKind) (e feeds : ℕ) : Type 0 where
  pub busy : Busy m
  pub within : e < length s
  pub kind : k ≡ rest_kind m (drop i s)
  pub end : e ≡ i + rest_len m (drop i s)
  pub lines : feeds ≡ feeds_to s i e

-- the bytes up to the place e belong to the token in progress, and lead from the mode m to the mode n
pub record LeadsTo (m : Mode) (s : List ℕ) (i : ℕ) (n : Mode) (e feeds : ℕ) : Type 0 where
  pub forward : i ≤ e
  pub within : i ≤ length s → e ≤ length s
  pub runs : Runs m (take (e - i) (drop i s)) n
  pub lines : feeds ≡ feeds_to s i e

abbrev pub Looked : Mode → List ℕ → ℕ → Ahead → Type 0
Looked m s i (Whole k e feeds) = EndsAt m s i k e feeds
Looked m s i (Open n e feeds) = LeadsTo m s i n e feeds

-- the token that begins at the place i: none at the end of the part; one byte; or a byte that opens it, and what is found after it
pub data TokenAt (s : List ℕ) (i : ℕ) : Ahead → Type 0 where
  past : length s ≤ i → TokenAt s i (Open Idle i 0)
  alone : {k : TokenKind} {feeds : ℕ} → i < length s → opening (get_or s i 0) ≡ Single k
      → ((line : ℕ) → line_behind line (get_or s i 0) ≡ line + feeds) → TokenAt s i (Whole k (i + 1) feeds)
  longer : {m : Mode} {r : Ahead} → i < length s → opening (get_or s i 0) ≡ Opens m → eqb (get_or s i 0) 0x0A ≡ false
      → Looked m s (i + 1) r → TokenAt s i r

-- ---- what the helpers promise

-- a run of one kind that ends at the place e, or goes on to the end of n bytes
abbrev pub run_to : TokenKind → Mode → ℕ → ℕ → Ahead
run_to k m e n = cond (ltb e n) (Whole k e 0) (Open m n 0)

-- whether bytes of a string with the mark q hide the next one; h says whether the first of them is hidden
unfoldable pub hidden_by : ℕ → Bool → List ℕ → Bool
hidden_by q h [] = h
hidden_by q h (b ∷ s) = hidden_by q (hides q h b) s

-- the same of the bytes from the place i, which is not hidden, up to the place e
abbrev pub hidden_to : ℕ → List ℕ → ℕ → ℕ → Bool
hidden_to q s i e = hidden_by q false (take (e - i) (drop i s))

-- from the place r on, which is not before i, only marks q stand, and none stands right before it, if it is not i
pub record MarksEnd (q : ℕ) (s : List ℕ) (i r : ℕ) : Type 0 where
  pub forward : i ≤ r
  pub within : r ≤ length s
  pub last : i < r → eqb (get_or s (r - 1) 0) q ≡ false
  pub some : i < length s → eqb (get_or s i 0) q ≡ false → i < r

-- a string on one line that does not begin with a mark goes on by a byte at least
abbrev pub Moves : ℕ → List ℕ → ℕ → Ahead → Type 0
Moves q s i (Whole k e feeds) = Unit
Moves q s i (Open n e feeds) = i < length s → eqb (get_or s i 0) q ≡ false → i < e

abbrev pub LineLooked : Quote → List ℕ → ℕ → Ahead → Type 0
LineLooked q s i r = Looked (Line q false) s i r × Moves (mark_of q) s i r
