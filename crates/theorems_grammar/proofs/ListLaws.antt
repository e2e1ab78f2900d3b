-- Small facts of lists.
use Prim.Native.Nat.{ℕ, suc, ◌<◌}
use mathlib.Core.Path.{◌≡◌, sym, ◌∙◌, ap}
use mathlib.Core.List.{List, [], ◌∷◌, ◌++◌}
use native.Mathlib.Omega.{arith}
use lib.ListN.{length, take, drop, get_or, take-append-drop, drop_of_length-le}
use lib.Seq.{drop-cons}
use Rattle.text_scalars.specs.Utf8.{All}

pub all_weaken : {P Q : ℕ → Type 0} → ((c : ℕ) → P c → Q c) → (t : List ℕ) → All P t → All Q t
all_weaken f [] h = tt
all_weaken f (c ∷ t) each = (f c each.0, all_weaken f t each.1)

-- the last element, and what stands before it
pub last_split : (s : List ℕ) (n : ℕ) → length s ≡ suc n → s ≡ take n s ++ (get_or s n 0 ∷ [])
last_split s n long =
    let last : drop n s ≡ get_or s n 0 ∷ [] =
    drop-cons s n 0 (omega arith) ∙ ap (λ x. get_or s n 0 ∷ x) (drop_of_length-le s {i = suc n} (omega arith)) in
    sym (take-append-drop n s) ∙ ap (λ x. take n s ++ x) last

-- where `get_or` gives a byte b for place 0 and b is not 0, the list begins with b
pub first_splits : (s : List ℕ) (b : ℕ) → 0 < b → get_or s 0 0 ≡ b → (r : List ℕ) × (s ≡ b ∷ r)
first_splits [] b some is = absurd (omega arith)
first_splits (x ∷ s) b some is = (s, rw is)

pub two_split : (s : List ℕ) (b c : ℕ) → 0 < b → 0 < c → get_or s 0 0 ≡ b → get_or s 1 0 ≡ c → (r : List ℕ) × (s ≡ b ∷ (c ∷ r))
two_split [] b c first_some second-some first second = absurd (omega arith)
two_split (x ∷ s) b c first_some second-some first second =
    let rest = first_splits s c second-some second in
    (rest.0, rw first (ap (b ∷◌) rest.1))
