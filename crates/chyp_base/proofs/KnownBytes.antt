-- Known bytes over no call, and over two reads or two writes, as one.
use Rattle.std.proofs.Common.{ℕ, List, [], ◌++◌, Option, Some, None, ◌∙◌, ap, append_assoc}
use Rattle.std.specs.Io.KnownBytes.{Appends}

pub Appends-more : (a b c : Option (List ℕ)) (xs ys : List ℕ) → Appends a b xs → Appends b c ys → Appends a c (xs ++ ys)
Appends-more None b c xs ys p q = tt
Appends-more (Some hs) None c xs ys p q = absurd p
Appends-more (Some hs) (Some bs) None xs ys p q = absurd q
Appends-more (Some hs) (Some bs) (Some cs) xs ys p q = q ∙ ap (λ v. v ++ ys) p ∙ append_assoc hs xs ys
