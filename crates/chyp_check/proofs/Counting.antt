-- How many statements some modules have together, however they are listed.
use Rattle.std.proofs.Common.{◌≡◌, ℕ, ◌+◌, ◌≤◌, not, List, [], ◌∷◌, ◌++◌, length, ◌⊎◌, inl, inr, refl, sym, subst, arith}
use Rattle.std.specs.Prelude.{Contains}
use Rattle.std.specs.Str.{bytes_eq}
use Rattle.chyp_env.proofs.Bindings.{Contains-cons, Contains-filter, Contains-from_cons, Contains-from_filter}
use Rattle.chyp_modules.specs.Checking.{AreDistinct, HaveStatements, of_more, of_none}
use Rattle.chyp_modules.specs.Library.{Library}
use Rattle.chyp_modules.proofs.Checking.{distinct-without, pick, without-not}
use Rattle.chyp_modules.proofs.Reaching.{differ-not, without}

-- two lists of modules
pub record IsSplit (library : Library) (xs ys : List (List ℕ)) (n : ℕ) : Type 0 where
  pub a : ℕ
  pub b : ℕ
  pub front : HaveStatements library xs a
  pub back : HaveStatements library ys b
  pub sum : n ≡ a + b

pub split : (library : Library) (xs ys : List (List ℕ)) (n : ℕ) → HaveStatements library (xs ++ ys) n → IsSplit library xs ys n
split library [] ys n h = record { a = 0; b = n; front = of_none; back = h; sum = omega arith }
split library (x ∷ xs) ys n (of_more {text} {statements} {n = k} is h) =
    let s = split library xs ys k h in
    let sum = s.sum in
    record { a = length statements + s.a; b = s.b; front = of_more is s.front; back = s.back; sum = omega arith }

-- some of the modules have no more, and all of them have as many
pub record IsWithin (library : Library) (xs ys : List (List ℕ)) (n : ℕ) : Type 0 where
  pub m : ℕ
  pub have : HaveStatements library xs m
  pub few : m ≤ n
  pub exact : ((name : List ℕ) → Contains ys name → Contains xs name) → m ≡ n

pub count-within : (library : Library) (xs ys : List (List ℕ)) (n : ℕ) → AreDistinct xs → AreDistinct ys → ((name : List ℕ) → Contains xs name → Contains ys name)
    → HaveStatements library ys n → IsWithin library xs ys n
count-within library [] ys n d e f h = record { m = 0; have = of_none; few = omega arith; exact = λ g. none ys n h g }
  where
    none : (ys : List (List ℕ)) (n : ℕ) → HaveStatements library ys n → ((name : List ℕ) → Contains ys name → Contains [] name) → 0 ≡ n
    none [] n of_none g = refl
    none (y ∷ ys) n h g = absurd (omega (arith, (g y (0, omega arith, refl)).1))
count-within library (x ∷ xs) ys n d e f h =
    let p = pick library x ys n e (f x (0, omega arith, refl)) h in
    let r = count-within library xs (without x ys) p.m d.1 (distinct-without x ys e) (λ name c. into name c) p.rest in
    let few = r.few in
    let sum = p.sum in
    record {
      m = length p.statements + r.m;
      have = of_more p.is_module r.have;
      few = omega arith;
      exact = λ g. let same = r.exact (λ name c. back g name c) in omega arith;
    }
  where
    into : (name : List ℕ) → Contains xs name → Contains (without x ys) name
    into name c = Contains-filter (λ other. not (bytes_eq x other)) ys name (f name (Contains-cons x xs name c)) (differ-not x name (λ s. d.0 (subst (Contains xs) (sym s) c)))

    back : ((name : List ℕ) → Contains ys name → Contains (x ∷ xs) name) → (name : List ℕ) → Contains (without x ys) name → Contains xs name
    back g name c = go (Contains-from_cons x xs name (g name (Contains-from_filter (λ other. not (bytes_eq x other)) ys name c).0))
      where
        go : (x ≡ name) ⊎ Contains xs name → Contains xs name
        go (inr i) = i
        go (inl s) = absurd (without-not x ys (subst (Contains (without x ys)) (sym s) c))
