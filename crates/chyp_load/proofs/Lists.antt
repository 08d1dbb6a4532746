-- Lists of modules.
use Rattle.std.proofs.Common.{◌≡◌, ℕ, ◌+◌, ◌<◌, ◌≤◌, Bool, true, false, cond, IsTrue, ◌↔◌, List, [], ◌∷◌, ◌++◌, length, take, Option, None, Some, IfSome, is_some, ◌⊎◌, inl, inr, refl, sym, ◌∙◌, ap, subst, arith}
use Rattle.std.specs.Prelude.{Contains, Err, Ok, OnOk, Result}
use Rattle.std.specs.Map.{lookup}
use Rattle.std.specs.Option.{option_map}
use Rattle.std.specs.Str.{bytes_eq}
use Rattle.std.proofs.lemmas.Bool.{false≢true}
use Rattle.std.proofs.lemmas.List.{length-take, map-append, take_all}
use Rattle.std.proofs.lemmas.List.Sums.{fold_push}
use Rattle.std.proofs.lemmas.List.Elements.{Contains-push_cases}
use Rattle.indexmap.specs.IndexMap.{insert_entry}
use Rattle.chyp_env.proofs.Bindings.{Contains-cons, Contains-from_cons, names-eq, names-same}
use Rattle.chyp_modules.specs.Checking.{AreDistinct, most_modules}
use Rattle.chyp_modules.specs.Library.{Module}
use Rattle.chyp_base.specs.Library.{Answers, Texts, most_read}
use Rattle.chyp_base.specs.declared.found.Found.TheVariants.{There}
use Rattle.chyp_lex.specs.Tokens.{text_limit}
use Rattle.chyp_load.specs.Loading.{IsLongModule, IsOneMore, WantsMore, count_there, names_of, one_there}

-- a name is found exactly where it stands in the list
pub found : (modules : List Module) (name : List ℕ) (result : Bool) → result ≡ is_some (lookup (bytes_eq name) modules)
    → IsTrue result ↔ Contains (names_of modules) name
found modules name result e = (λ t. there modules (sym e ∙ t), λ c. e ∙ back modules c)
  where
    there : (ms : List Module) → is_some (lookup (bytes_eq name) ms) ≡ true → Contains (names_of ms) name
    there [] t = absurd (false≢true t)
    there (m ∷ ms) t = go (bytes_eq name m.0) refl t (there ms)
      where
        go : (b : Bool) → bytes_eq name m.0 ≡ b → is_some (cond b (Some m.1) (lookup (bytes_eq name) ms)) ≡ true
            → (is_some (lookup (bytes_eq name) ms) ≡ true → Contains (names_of ms) name) → Contains (names_of (m ∷ ms)) name
        go true h t rest = (0, omega arith, sym (names-eq name m.0 h))
        go false h t rest = Contains-cons m.0 (names_of ms) name (rest t)

    back : (ms : List Module) → Contains (names_of ms) name → is_some (lookup (bytes_eq name) ms) ≡ true
    back [] c = absurd (omega (arith, c.1))
    back (m ∷ ms) c = go (bytes_eq name m.0) refl (Contains-from_cons m.0 (names_of ms) name c) (back ms)
      where
        go : (b : Bool) → bytes_eq name m.0 ≡ b → (m.0 ≡ name) ⊎ Contains (names_of ms) name
            → (Contains (names_of ms) name → is_some (lookup (bytes_eq name) ms) ≡ true) → is_some (cond b (Some m.1) (lookup (bytes_eq name) ms)) ≡ true
        go true h s rest = refl
        go false h (inl s) rest = absurd (false≢true (sym h ∙ names-same name m.0 (sym s)))
        go false h (inr d) rest = rest d

-- a new name goes last
pub inserted : (modules : List Module) (name : List ℕ) (text : Option (List ℕ)) → ¬ Contains (names_of modules) name
    → insert_entry bytes_eq modules name text ≡ modules ++ (name, text) ∷ []
inserted [] name text fresh = refl
inserted (m ∷ ms) name text fresh = go (bytes_eq name m.0) refl (inserted ms name text (λ c. fresh (Contains-cons m.0 (names_of ms) name c)))
  where
    go : (b : Bool) → bytes_eq name m.0 ≡ b → insert_entry bytes_eq ms name text ≡ ms ++ (name, text) ∷ []
        → cond b ((m.0, text) ∷ ms) (m ∷ insert_entry bytes_eq ms name text) ≡ m ∷ (ms ++ (name, text) ∷ [])
    go true h rest = absurd (fresh (0, omega arith, sym (names-eq name m.0 h)))
    go false h rest = ap (λ xs. m ∷ xs) rest

pub distinct-push : (names : List (List ℕ)) (name : List ℕ) → AreDistinct names → ¬ Contains names name → AreDistinct (names ++ name ∷ [])
distinct-push [] name d fresh = ((λ c. absurd (omega (arith, c.1))), tt)
distinct-push (x ∷ xs) name d fresh = (
  (λ c. elim (Contains-push_cases xs name x c) [ inl h ↦ d.0 h | inr s ↦ fresh (0, omega arith, sym s) ]),
  distinct-push xs name d.1 (λ c. fresh (Contains-cons x xs name c)),
)

-- so the names stay distinct
pub distinct-more : (modules : List Module) (name : List ℕ) (text : Option (List ℕ)) → AreDistinct (names_of modules) → ¬ Contains (names_of modules) name
    → AreDistinct (names_of (modules ++ (name, text) ∷ []))
distinct-more modules name text d fresh = rw (map-append (λ (m : Module). m.0) modules ((name, text) ∷ [])) (distinct-push (names_of modules) name d fresh)

-- a module that is there counts one more
pub count-more : (modules : List Module) (name : List ℕ) (text : Option (List ℕ)) → count_there (modules ++ (name, text) ∷ []) ≡ count_there modules + one_there text
count-more modules name text = fold_push (λ a (m : Module). a + cond (is_some m.1) 1 0) 0 modules (name, text)

-- what a library answers is the text, where that isn't longer than a text may be
pub told-there : (told : Option Texts) (name bytes : List ℕ) → Answers told name There bytes → length bytes ≤ text_limit → IfSome told (λ texts. Some bytes ≡ texts name)
told-there None name bytes a short = tt
told-there (Some texts) name bytes a short = go (texts name) a
  where
    go : (o : Option (List ℕ)) → option_map (λ whole. take most_read whole) o ≡ Some bytes → Some bytes ≡ o
    go None e = absurd cc
    go (Some whole) e =
        let same : take most_read whole ≡ bytes = cc in
        let l = length-take most_read whole in
        let m = ap length same in
        let all : length whole ≤ most_read = omega arith in
        ap Some (sym same ∙ take_all most_read whole all)

-- and where it is longer, so is the text
pub told-long : (told : Option Texts) (name bytes : List ℕ) → Answers told name There bytes → text_limit < length bytes
    → IfSome told (λ texts. (whole : List ℕ) × (texts name ≡ Some whole) × (text_limit < length whole))
told-long None name bytes a long = tt
told-long (Some texts) name bytes a long = go (texts name) a
  where
    go : (o : Option (List ℕ)) → option_map (λ whole. take most_read whole) o ≡ Some bytes → (whole : List ℕ) × (o ≡ Some whole) × (text_limit < length whole)
    go None e = absurd cc
    go (Some whole) e =
        let same : take most_read whole ≡ bytes = cc in
        let l = length-take most_read whole in
        let m = ap length same in
        (whole, refl, omega arith)

-- a module that may not be there as well
pub one-too-many : (told : Option Texts) (name : List ℕ) (modules : List Module) (text : Option (List ℕ)) → IfSome told (λ texts. text ≡ texts name)
    → count_there modules ≤ most_modules → most_modules < count_there modules + one_there text → IfSome told (λ texts. IsLongModule texts name modules)
one-too-many None name modules text is few many = tt
one-too-many (Some texts) name modules None is few many = absurd (omega arith)
one-too-many (Some texts) name modules (Some whole) is few many = record { whole = whole; there = sym is; passes = inr (omega arith) }

-- a module whose text was found is one more, with what it imports
pub one-more : {T E : Type 0} (result : Result T E) (told : Option Texts) (name : List ℕ) (found text : Option (List ℕ)) (modules modules_now : List Module)
    (wanted wanted_now : List (List ℕ)) → text ≡ found → IfSome found (λ bytes. length bytes ≤ text_limit) → IfSome told (λ texts. found ≡ texts name)
    → WantsMore text wanted wanted_now → OnOk result (modules_now ≡ modules ++ (name, text) ∷ [])
    → OnOk result (IsOneMore told name modules modules_now wanted wanted_now)
one-more (Ok x) told name found text modules modules_now wanted wanted_now same short as_told m listed = record {
  text = text;
  imports = m.imports;
  listed = listed;
  behind = m.behind;
  are = m.are;
  few = m.few;
  short = subst (λ (t : Option (List ℕ)). IfSome t (λ bytes. length bytes ≤ text_limit)) (sym same) short;
  as_told = subst (λ (t : Option (List ℕ)). IfSome told (λ texts. t ≡ texts name)) (sym same) as_told;
}
one-more (Err e) told name found text modules modules_now wanted wanted_now same short as_told m listed = tt
