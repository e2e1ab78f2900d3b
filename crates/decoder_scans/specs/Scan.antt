-- What the scans of this crate's code say. Not to be believed: no promise of a public function cites it.
-- Assumes nothing.
use Rattle.std.specs.Prelude.{ℕ, ◌-◌, ◌/◌, ◌^◌, Bool, true, false, cond, ◌==◌, bit_and, nat_lt}
use Rattle.decoder_rules.specs.declared.Encoding.{Encoding}
use Rattle.decoder_rules.specs.declared.Encoding.TheVariants.{LiteralString, BasicString, MlLiteralString, MlBasicString, UnquotedKey}
use Rattle.decoder_scans.specs.declared.Mask.{Mask}
use Rattle.decoder_scans.specs.declared.Stops.{Stops}

-- the bytes that stand for themselves, as bits: those below 40, those from 40 to 7F, and all from 80 on
abbrev mask : ℕ → ℕ → Bool → Mask
mask low mid high = record { low = low; mid = mid; high = high }

abbrev pub mask_of : Encoding → Mask
mask_of LiteralString = mask 0xFFFFFF7F00000200 0x7FFFFFFFFFFFFFFF true
mask_of (BasicString v) = mask 0xFFFFFFFB00000200 0x7FFFFFFFEFFFFFFF true
mask_of MlLiteralString = mask 0xFFFFFFFF00000600 0x7FFFFFFFFFFFFFFF true
mask_of (MlBasicString v) = mask 0xFFFFFFFF00000600 0x7FFFFFFFEFFFFFFF true
mask_of UnquotedKey = mask 0x03FF200000000000 0x07FFFFFE87FFFFFE false

-- the bit of a byte: `marked_plain` in proofs/ScanLaws.antt shows that it says `plain`
abbrev pub is_marked : Mask → ℕ → Bool
is_marked m b =
    cond (nat_lt b 64) (bit_and (m.low / 2 ^ b) 1 == 1)
    (cond (nat_lt b 128) (bit_and (m.mid / 2 ^ (b - 64)) 1 == 1)
    m.high)

-- the encodings that are scanned in blocks: all but the key
abbrev pub Wide : Encoding → Type 0
Wide LiteralString = Unit {0}
Wide (BasicString v) = Unit {0}
Wide MlLiteralString = Unit {0}
Wide (MlBasicString v) = Unit {0}
Wide UnquotedKey = ⊥

abbrev stops : ℕ → ℕ → ℕ → ℕ → ℕ → ℕ → Stops
stops a z l x f k = record { first = a; second = z; low = l; flip = x; from = f; span = k }

-- what a block is given up at
abbrev pub stops_of : Encoding → Stops
stops_of LiteralString = stops 0x27 0x27 0 9 1 31
stops_of (BasicString v) = stops 0x22 0x5C 0 9 1 31
stops_of MlLiteralString = stops 0x7F 0x7F 9 0 11 21
stops_of (MlBasicString v) = stops 0x5C 0x5C 9 0 11 21
stops_of UnquotedKey = stops 0x7F 0x7F 0 9 1 31
