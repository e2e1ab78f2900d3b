-- RULE. The marks of a text and the body between them. A mark that is missing is simply not removed; but an ml-literal
-- text without its closing loses all its trailing apostrophes.
use Rattle.std.specs.Prelude.{ℕ, suc, ◌+◌, ◌-◌}
use mathlib.Core.{Bool.Bool, Bool.true, Bool.false, Bool.cond, Bool.◌&&◌, List.List, List.[], List.◌∷◌}
use lib.{Dec.eqb, Dec.leb, Dec.ltb, ListN.length, ListN.take, ListN.drop, ListN.get_or}
use Rattle.text_classes.specs.{Runs.stands, Runs.triple}
use Rattle.decoder_rules.specs.declared.{Encoding.Encoding, Encoding.TheVariants.LiteralString, Encoding.TheVariants.BasicString, Encoding.TheVariants.MlLiteralString, Encoding.TheVariants.MlBasicString, Encoding.TheVariants.UnquotedKey, Ends.Ends}

-- ---- one mark q at each end
abbrev pub line_opened : ℕ → List ℕ → Bool
line_opened q t = ltb 0 (length t) && eqb (get_or t 0 0) q

-- the body starts after the opening, where it is there
abbrev pub line_start : Bool → ℕ
line_start opened = cond opened 1 0

-- a closing mark, not before the body's start
abbrev pub line_closed : ℕ → ℕ → List ℕ → Bool
line_closed start q t = ltb start (length t) && eqb (get_or t (length t - 1) 0) q

-- and ends before the closing, where that is there
abbrev pub line_end : Bool → List ℕ → ℕ
line_end closed t = cond closed (length t - 1) (length t)

unfoldable pub line_ends : ℕ → List ℕ → Ends
line_ends q t =
    let start : ℕ = line_start (line_opened q t) in
    record { opened = line_opened q t; closed = line_closed start q t; start = start; end = line_end (line_closed start q t) t }

-- ---- three marks q at each end, and a newline after the opening
-- how long a newline at the front is: LF, or CR LF
unfoldable pub newline_len : List ℕ → ℕ
newline_len s = cond (stands 0x0A s) 1 (cond (stands 0x0D s && stands 0x0A (drop 1 s)) 2 0)

-- the body starts after the opening, where it is there, and after a newline right after
unfoldable pub ml_start : Bool → List ℕ → ℕ
ml_start opened t = cond opened 3 0 + newline_len (drop (cond opened 3 0) t)

-- three marks at the end, none of them before the body's start
unfoldable pub ml_closed : ℕ → ℕ → List ℕ → Bool
ml_closed q start t = leb (start + 3) (length t) && triple q (drop (length t - 3) t)

-- the length without the marks at the end
unfoldable pub trimmed : ℕ → List ℕ → ℕ
trimmed q [] = 0
trimmed q (b ∷ r) = cond (eqb (trimmed q r) 0) (cond (eqb b q) 0 1) (suc (trimmed q r))

-- the body ends before the closing; where that is missing, before the marks that are there, or at the text's end
unfoldable pub ml_end : Bool → ℕ → ℕ → List ℕ → Bool → ℕ
ml_end trims q start t closed = cond closed (length t - 3) (cond trims (start + trimmed q (drop start t)) (length t))

unfoldable pub ml_ends : Bool → ℕ → List ℕ → Ends
ml_ends trims q t =
    let start : ℕ = ml_start (triple q t) t in
    record {
      opened = triple q t;
      closed = ml_closed q start t;
      start = start;
      end = ml_end trims q start t (ml_closed q start t);
    }

-- ---- a key has no marks; in their place it has to be there
unfoldable pub key_ends : List ℕ → Ends
key_ends t = record { opened = ltb 0 (length t); closed = true; start = 0; end = length t }

abbrev pub ends_of : Encoding → List ℕ → Ends
ends_of LiteralString t = line_ends 0x27 t
ends_of MlLiteralString t = ml_ends true 0x27 t
ends_of (BasicString v) t = line_ends 0x22 t
ends_of (MlBasicString v) t = ml_ends false 0x22 t
ends_of UnquotedKey t = key_ends t

-- the bytes from the start to the end
abbrev pub body_of : Ends → List ℕ → List ℕ
body_of d t = take (d.end - d.start) (drop d.start t)
