-- The texts of a project.
use Rattle.std.proofs.Common.{◌≡◌, ℕ, ◌+◌, ◌<◌, ◌≤◌, Bool, true, false, cond, List, [], ◌∷◌, ◌++◌, length, map, take, Option, None, Some, slice_index_or, ◌⊎◌, inl, inr, refl, sym, ◌∙◌, ap, subst, arith, append-nil}
use Rattle.std.specs.List.{filter_map}
use Rattle.std.specs.Prelude.{Contains, find, IfNone}
use Rattle.std.specs.Option.{option_map, option_map_or}
use Rattle.std.specs.Str.{bytes_eq}
use Rattle.std.proofs.lemmas.List.Elements.{All-cons, All-head, All-nil, All-tail, filter_map-append}
use Rattle.chyp_lex.specs.Tokens.{text_limit}
use Rattle.chyp_names.proofs.Goals.{take_more}
use Rattle.chyp_env.proofs.Bindings.{Contains-cons, Contains-from_cons, names-eq}
use Rattle.chyp_modules.specs.Checking.{AreDistinct}
use Rattle.chyp_modules.specs.Library.{Module, library_of, with_main}
use Rattle.chyp_load.specs.Loading.{AreShort, names_of}
use Rattle.chyp_check.specs.Project.{HaveDistinctNames, HaveShortTexts, Node, library_in, node_of}
use Rattle.chyp_load.proofs.Reading.{IsShort}

-- one item more, of which something is made
pub made_more : {X Y : Type 0} (h : X → Option Y) (xs : List X) (i : ℕ) (x : X) (y : Y) → i < length xs → x ≡ slice_index_or xs i x → h x ≡ Some y
    → filter_map h (take (i + 1) xs) ≡ filter_map h (take i xs) ++ y ∷ []
made_more h xs i x y within is e =
    ap (filter_map h) (take_more xs i x within is) ∙ filter_map-append h (take i xs) (x ∷ []) ∙ ap (λ ys. filter_map h (take i xs) ++ ys) (rw e refl)

-- one item more, of which nothing is made
pub made_same : {X Y : Type 0} (h : X → Option Y) (xs : List X) (i : ℕ) (x : X) → i < length xs → x ≡ slice_index_or xs i x → h x ≡ None
    → filter_map h (take (i + 1) xs) ≡ filter_map h (take i xs)
made_same h xs i x within is e =
    ap (filter_map h) (take_more xs i x within is) ∙ filter_map-append h (take i xs) (x ∷ []) ∙ ap (λ ys. filter_map h (take i xs) ++ ys) (rw e refl)
    ∙ append-nil (filter_map h (take i xs))

-- ---- the library of the texts is that of the modules with the main text

absent : (modules : List Module) (name : List ℕ) → ¬ Contains (names_of modules) name → library_of modules name ≡ None
absent [] name no' = refl
absent (m ∷ ms) name no' = go (bytes_eq name m.0) refl (absent ms name (λ c. no' (Contains-cons m.0 (names_of ms) name c)))
  where
    go : (b : Bool) → bytes_eq name m.0 ≡ b → library_of ms name ≡ None
        → option_map_or (λ (x : Module). x.1) (cond b (Some m) (find (λ (x : Module). bytes_eq name x.0) ms)) None ≡ None
    go true e rest = absurd (no' (0, omega arith, sym (names-eq name m.0 e)))
    go false e rest = rest

rest-agrees : (modules : List Module) → AreDistinct (names_of modules) → (b : ℕ) (bs : List ℕ)
    → library_in (filter_map node_of modules) (b ∷ bs) ≡ library_of modules (b ∷ bs)
rest-agrees [] d b bs = refl
rest-agrees (([], o) ∷ ms) d b bs = rest-agrees ms d.1 b bs
rest-agrees ((c ∷ cs, None) ∷ ms) d b bs = go (bytes_eq (b ∷ bs) (c ∷ cs)) refl (rest-agrees ms d.1 b bs)
  where
    go : (t : Bool) → bytes_eq (b ∷ bs) (c ∷ cs) ≡ t → library_in (filter_map node_of ms) (b ∷ bs) ≡ library_of ms (b ∷ bs)
        → library_in (filter_map node_of ms) (b ∷ bs)
        ≡ option_map_or (λ (x : Module). x.1) (cond t (Some (c ∷ cs, None)) (find (λ (x : Module). bytes_eq (b ∷ bs) x.0) ms)) None
    go true e rest = rest ∙ absent ms (b ∷ bs) (λ h. d.0 (subst (Contains (names_of ms)) (names-eq (b ∷ bs) (c ∷ cs) e) h))
    go false e rest = rest
rest-agrees ((c ∷ cs, Some t) ∷ ms) d b bs = go (bytes_eq (b ∷ bs) (c ∷ cs)) (rest-agrees ms d.1 b bs)
  where
    go : (x : Bool) → library_in (filter_map node_of ms) (b ∷ bs) ≡ library_of ms (b ∷ bs)
        → option_map (λ (n : Node). n.1) (cond x (Some (c ∷ cs, t)) (find (λ (n : Node). bytes_eq (b ∷ bs) n.0) (filter_map node_of ms)))
        ≡ option_map_or (λ (m : Module). m.1) (cond x (Some (c ∷ cs, Some t)) (find (λ (m : Module). bytes_eq (b ∷ bs) m.0) ms)) None
    go true rest = refl
    go false rest = rest

pub nodes-agree : (modules : List Module) (text : List ℕ) → AreDistinct (names_of modules) → (name : List ℕ)
    → library_in (([], text) ∷ filter_map node_of modules) name ≡ with_main (library_of modules) text name
nodes-agree modules text d [] = refl
nodes-agree modules text d (b ∷ bs) = rest-agrees modules d b bs

cons-not : (b : ℕ) (bs : List ℕ) → (b ∷ bs) ≡ [] → ⊥
cons-not b bs e = absurd cc

-- ---- the texts have distinct names, and are short

abbrev pub names_in : List Node → List (List ℕ)
names_in nodes = map (λ (n : Node). n.0) nodes

among : (ms : List Module) (name : List ℕ) → Contains (names_in (filter_map node_of ms)) name → Contains (names_of ms) name × ¬ (name ≡ [])
among [] name c = absurd (omega (arith, c.1))
among (([], o) ∷ ms) name c = let rest = among ms name c in (Contains-cons [] (names_of ms) name rest.0, rest.1)
among ((b ∷ bs, None) ∷ ms) name c = let rest = among ms name c in (Contains-cons (b ∷ bs) (names_of ms) name rest.0, rest.1)
among ((b ∷ bs, Some t) ∷ ms) name c = go (Contains-from_cons (b ∷ bs) (names_in (filter_map node_of ms)) name c) (among ms name)
  where
    go : ((b ∷ bs) ≡ name) ⊎ Contains (names_in (filter_map node_of ms)) name
        → (Contains (names_in (filter_map node_of ms)) name → Contains (names_of ms) name × ¬ (name ≡ [])) → Contains ((b ∷ bs) ∷ names_of ms) name × ¬ (name ≡ [])
    go (inl e) rest = ((0, omega arith, e), (λ f. absurd (cons-not b bs (e ∙ f))))
    go (inr h) rest = (Contains-cons (b ∷ bs) (names_of ms) name (rest h).0, (rest h).1)

rest-distinct : (ms : List Module) → AreDistinct (names_of ms) → HaveDistinctNames (filter_map node_of ms)
rest-distinct [] d = tt
rest-distinct (([], o) ∷ ms) d = rest-distinct ms d.1
rest-distinct ((b ∷ bs, None) ∷ ms) d = rest-distinct ms d.1
rest-distinct ((b ∷ bs, Some t) ∷ ms) d = ((λ c. d.0 (among ms (b ∷ bs) c).0), rest-distinct ms d.1)

pub nodes-distinct : (modules : List Module) (text : List ℕ) → AreDistinct (names_of modules) → HaveDistinctNames (([], text) ∷ filter_map node_of modules)
nodes-distinct modules text d = ((λ c. (among modules [] c).1 refl), rest-distinct modules d)

abbrev IsShortNode : Node → Type 0
IsShortNode node = length node.1 ≤ text_limit

rest-short : (ms : List Module) → AreShort ms → HaveShortTexts (filter_map node_of ms)
rest-short [] s = All-nil _
rest-short (([], o) ∷ ms) s = rest-short ms (All-tail IsShort ([], o) ms s)
rest-short ((b ∷ bs, None) ∷ ms) s = rest-short ms (All-tail IsShort (b ∷ bs, None) ms s)
rest-short ((b ∷ bs, Some t) ∷ ms) s =
    All-cons IsShortNode (b ∷ bs, t) (filter_map node_of ms) (All-head IsShort (b ∷ bs, Some t) ms s)
    (rest-short ms (All-tail IsShort (b ∷ bs, Some t) ms s))

pub nodes-short : (modules : List Module) (text : List ℕ) → length text ≤ text_limit → AreShort modules → HaveShortTexts (([], text) ∷ filter_map node_of modules)
nodes-short modules text h s = All-cons IsShortNode ([], text) (filter_map node_of modules) h (rest-short modules s)

-- what follows where there is none
pub none-then : {X A B : Type 0} (o : Option X) → IfNone o A → (A → B) → IfNone o B
none-then None a f = f a
none-then (Some x) a f = tt
