-- The words of the command line.
use Rattle.std.specs.Prelude.{◌≡◌, ℕ, List, [], ◌∷◌, codes, map}
use Rattle.std.specs.Borrow.{Bor}

-- the bytes of each word
abbrev pub texts_of : List (Bor (List ℕ)) → List (List ℕ)
texts_of words = map (λ word. word.now) words

-- the lists of words that are obeyed
abbrev pub Accepts : List (List ℕ) → Type 0
Accepts words = words ≡ codes "check" ∷ []
