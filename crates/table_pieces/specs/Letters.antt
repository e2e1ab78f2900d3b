-- What the letter after a backslash is for, by its class: what the helpers promise. Not to be believed: no promise of a public function
-- cites it; `letter_by_lem` in proofs/LetterLaws.antt shows that it says `letter_of`.
-- Assumes nothing.
use Rattle.std.specs.Prelude.{ℕ, cond, eqb}
use Rattle.decoder_rules.specs.declared.Edition.{Edition}
use Rattle.decoder_rules.specs.declared.Edition.TheVariants.{Toml10, Toml11}
use Rattle.decoder_rules.specs.declared.Letter.{Letter}
use Rattle.decoder_rules.specs.declared.Letter.TheVariants.{Stands, Asks, Neither}
use Rattle.table_classes.specs.declared.Sign.TheVariants.{QuotationMark, Backslash, BigU, SmallB, SmallE, SmallF, SmallN, SmallR, SmallT, SmallU, SmallX}
use Rattle.table_classes.specs.Masks.{alone_of}

abbrev pub new_by : Edition → ℕ → Letter
new_by Toml10 k = Neither
new_by Toml11 k = cond (eqb k (alone_of SmallE)) (Stands 0x1B) (cond (eqb k (alone_of SmallX)) (Asks 2) Neither)

unfoldable pub letter_by : Edition → ℕ → Letter
letter_by v k =
    cond (eqb k (alone_of QuotationMark)) (Stands 0x22)
    (cond (eqb k (alone_of Backslash)) (Stands 0x5C)
    (cond (eqb k (alone_of SmallB)) (Stands 0x08)
    (cond (eqb k (alone_of SmallF)) (Stands 0x0C)
    (cond (eqb k (alone_of SmallN)) (Stands 0x0A)
    (cond (eqb k (alone_of SmallR)) (Stands 0x0D)
    (cond (eqb k (alone_of SmallT)) (Stands 0x09)
    (cond (eqb k (alone_of SmallU)) (Asks 4)
    (cond (eqb k (alone_of BigU)) (Asks 8)
    (new_by v k)))))))))
