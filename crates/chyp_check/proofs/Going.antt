-- The modules that the main text reaches, checked one after the other.
use Rattle.std.proofs.Common.{◌≡◌, ℕ, zero, suc, ◌+◌, ◌<◌, ◌≤◌, List, [], ◌∷◌, ◌++◌, length, take, drop, None, Some, slice_get, slice_index_or, set, ◌⊎◌, inl, inr, refl, sym, ◌∙◌, ap, subst, arith}
use Rattle.std.specs.Prelude.{Contains, IsSome}
use Rattle.std.proofs.lemmas.Bool.{cases_lt}
use Rattle.std.proofs.lemmas.List.{map-append, take-append-drop, take_all}
use Rattle.std.proofs.Math.Seq.{take-append_seam}
use Rattle.std.proofs.lemmas.List.Elements.{Contains-append_left, Contains-push_cases}
use Rattle.chyp_env.specs.Environment.{Binding}
use Rattle.chyp_names.proofs.Goals.{take_more}
use Rattle.chyp_env.proofs.Bindings.{Contains-from_map, Contains-map}
use Rattle.chyp_verdicts.proofs.OneVerdict.{none-some, some-once}
use Rattle.chyp_modules.specs.Checking.{AreAllWanted, AreDistinct, HaveStatements, IsWanted, of_none}
use Rattle.chyp_modules.specs.Import.{Reaches}
use Rattle.chyp_modules.specs.Library.{Library}
use Rattle.chyp_modules.specs.Modules.{HasEnvironment}
use Rattle.chyp_reach.specs.Relation.{IsSquare}
use Rattle.chyp_check.specs.Order.{HaveModules, IsOrder, names_by}
use Rattle.chyp_check.specs.Progress.{AreMade, Environments, IsReady}
use Rattle.chyp_check.specs.Project.{IsMapped, Project, library_in, name_at, text_at}
use Rattle.chyp_check.proofs.Counting.{count-within, split}
use Rattle.chyp_check.proofs.Ranks.{inside, rank-within}
use Rattle.chyp_check.proofs.Reached.{library-at, library-found}

-- The modules in front of this place of the order are checked: their environments are there, and one step was counted for each of
-- their statements.
pub record IsGoing (project : Project) (order : List ℕ) (place : ℕ) (envs : Environments) (steps steps_now : ℕ) : Type 0 where
  pub made : AreMade project envs
  pub here : (number : ℕ) → Contains (take place order) number → IsSome (slice_index_or envs number None)
  pub counts : (k : ℕ) → HaveStatements (library_in project.nodes) (names_by project (take place order)) k → steps_now ≡ steps + k
  pub rises : steps ≤ steps_now

none-counted : (library : Library) (k : ℕ) → HaveStatements library [] k → k ≡ 0
none-counted library k of_none = refl

pub going-start : (project : Project) (order : List ℕ) (envs : Environments) (steps : ℕ) → length envs ≡ length project.nodes → ((i : ℕ) → slice_index_or envs i None ≡ None)
    → IsGoing project order 0 envs steps steps
going-start project order envs steps many none = record {
  made = record { many = many; each = λ number env e. absurd (none-some (slice_index_or envs number None) env (none number) e) };
  here = λ number c. absurd (omega (arith, c.1));
  counts = λ k h. let zero-is = none-counted (library_in project.nodes) k h in omega arith;
  rises = omega arith;
}

set-same : {A : Type 0} (xs : List A) (i : ℕ) (x d : A) → i < length xs → slice_index_or (set xs i x) i d ≡ x
set-same [] i x d h = absurd (omega arith)
set-same (y ∷ ys) zero x d h = refl
set-same (y ∷ ys) (suc i) x d h = set-same ys i x d (omega arith)

set-other : {A : Type 0} (xs : List A) (i j : ℕ) (x d : A) → ¬ (j ≡ i) → slice_index_or (set xs i x) j d ≡ slice_index_or xs j d
set-other [] i j x d h = refl
set-other (y ∷ ys) zero zero x d h = absurd (h refl)
set-other (y ∷ ys) zero (suc j) x d h = refl
set-other (y ∷ ys) (suc i) zero x d h = refl
set-other (y ∷ ys) (suc i) (suc j) x d h = set-other ys i j x d (λ e. h (ap suc e))

pub set-length : {A : Type 0} (xs : List A) (i : ℕ) (x : A) → length (set xs i x) ≡ length xs
set-length [] i x = refl
set-length (y ∷ ys) zero x = refl
set-length (y ∷ ys) (suc i) x = ap suc (set-length ys i x)

get-place : (order : List ℕ) (place number : ℕ) → place < length order → number ≡ slice_index_or order place number → slice_get order place ≡ Some number
get-place [] place number h e = absurd (omega arith)
get-place (x ∷ xs) zero number h e = ap Some (sym e)
get-place (x ∷ xs) (suc place) number h e = get-place xs place number (omega arith) e

-- a list that was written over a whole other
pub written : {A : Type 0} (xs ys : List A) (n : ℕ) → n ≡ length ys → take n (ys ++ drop (length ys) xs) ≡ ys
written xs ys n e = ap (λ k. take k (ys ++ drop (length ys) xs)) e ∙ take-append_seam ys (drop (length ys) xs)

-- the number at a place of the order
pub get-number : (order : List ℕ) (place : ℕ) → place < length order → slice_index_or order place 0 ≡ slice_index_or order place (slice_index_or order place 0)
get-number [] place h = absurd (omega arith)
get-number (x ∷ xs) zero h = refl
get-number (x ∷ xs) (suc place) h = get-number xs place (omega arith)

module _ (project : Project) (mapped : IsMapped project) (order : List ℕ) (is : IsOrder project order)
    (place number : ℕ) (h : place < length order) (at : number ≡ slice_index_or order place number) where
  taken : take (place + 1) order ≡ take place order ++ number ∷ []
  taken = take_more order place number h at

  mine : Contains order number
  mine = (place, h, sym at)

  -- the module of this number is one of the texts, and is ready to be checked
  pub number-within : number < length project.nodes
  number-within = (is.only number mine).0

  pub number-ready : (envs : Environments) (steps steps_now : ℕ) → IsGoing project order place envs steps steps_now → IsReady project envs number
  number-ready envs steps steps_now g other e straight = g.here other (is.ready place number other (get-place order place number h at) e straight)

  names-next : names_by project (take (place + 1) order) ≡ names_by project (take place order) ++ name_at project.nodes number ∷ []
  names-next = ap (names_by project) taken ∙ map-append (λ (k : ℕ). name_at project.nodes k) (take place order) (number ∷ [])

  -- and with it the next modules are checked
  pub going-next : (envs envs_now : Environments) (env : List Binding) (steps steps_now steps_then : ℕ) → IsGoing project order place envs steps steps_now → envs_now ≡ set envs number (Some env)
      → HasEnvironment (library_in project.nodes) (name_at project.nodes number) env
      → ((k : ℕ) → HaveStatements (library_in project.nodes) (name_at project.nodes number ∷ []) k → steps_then ≡ steps_now + k) → steps_now ≤ steps_then
      → IsGoing project order (place + 1) envs_now steps steps_then
  going-next envs envs_now env steps steps_now steps_then g grown has counted rises = record {
    made = record { many = ap length grown ∙ set-length envs number (Some env) ∙ g.made.many; each = λ other e f. each other e (placed other) f };
    here = λ other c. here other (placed other) (Contains-push_cases (take place order) number other (subst (λ xs. Contains xs other) taken c));
    counts = λ k s. let both = split V (names_by project (take place order)) (name_at project.nodes number ∷ []) k (subst (λ ns. HaveStatements V ns k) names-next s) in
        let front = g.counts both.a both.front in
        let back = counted both.b both.back in
        let sum = both.sum in
        omega arith;
    rises = let before = g.rises in omega arith;
  }
    where
      V : Library
      V = library_in project.nodes

      placed : (other : ℕ) → ((other ≡ number) × (slice_index_or envs_now other None ≡ Some env)) ⊎ (¬ (other ≡ number) × (slice_index_or envs_now other None ≡ slice_index_or envs other None))
      placed other = go (cases_lt other number) (cases_lt number other)
        where
          apart : ¬ (other ≡ number) → ((other ≡ number) × (slice_index_or envs_now other None ≡ Some env))
              ⊎ (¬ (other ≡ number) × (slice_index_or envs_now other None ≡ slice_index_or envs other None))
          apart differ = inr (differ, ap (λ xs. slice_index_or xs other None) grown ∙ set-other envs number other (Some env) None differ)

          go : (other < number) ⊎ (number ≤ other) → (number < other) ⊎ (other ≤ number)
              → ((other ≡ number) × (slice_index_or envs_now other None ≡ Some env)) ⊎ (¬ (other ≡ number) × (slice_index_or envs_now other None ≡ slice_index_or envs other None))
          go (inl l) r = apart (λ e. absurd (omega arith))
          go (inr l) (inl r) = apart (λ e. absurd (omega arith))
          go (inr l) (inr r) =
              let same : other ≡ number = omega arith in
              let many = g.made.many in
              let within = number-within in
              inl (same, ap (λ k. slice_index_or envs_now k None) same ∙ ap (λ xs. slice_index_or xs number None) grown ∙ set-same envs number (Some env) None (omega arith))

      each : (other : ℕ) (e : List Binding) → ((other ≡ number) × (slice_index_or envs_now other None ≡ Some env))
          ⊎ (¬ (other ≡ number) × (slice_index_or envs_now other None ≡ slice_index_or envs other None))
          → slice_index_or envs_now other None ≡ Some e → HasEnvironment V (name_at project.nodes other) e
      each other e (inl p) f =
          let same : env ≡ e = some-once (slice_index_or envs_now other None) env e p.1 f in
          subst (λ n. HasEnvironment V (name_at project.nodes n) e) (sym p.0) (subst (HasEnvironment V (name_at project.nodes number)) same has)
      each other e (inr p) f = g.made.each other e (sym p.1 ∙ f)

      here : (other : ℕ) → ((other ≡ number) × (slice_index_or envs_now other None ≡ Some env)) ⊎ (¬ (other ≡ number) × (slice_index_or envs_now other None ≡ slice_index_or envs other None))
          → Contains (take place order) other ⊎ (number ≡ other) → IsSome (slice_index_or envs_now other None)
      here other (inl p) c = subst IsSome (sym p.1) refl
      here other (inr p) (inl c) = subst IsSome (sym p.1) (g.here other c)
      here other (inr p) (inr e) = absurd (p.0 (sym e))

-- ---- all of them

all-wanted : (project : Project) → IsMapped project → IsSquare project.rows → 0 < length project.nodes → name_at project.nodes 0 ≡ [] → (order : List ℕ) → IsOrder project order
    → (names : List (List ℕ)) → AreAllWanted (library_in project.nodes) names
    → ((name : List ℕ) → Contains (names_by project order) name → Contains names name) × ((name : List ℕ) → Contains names name → Contains (names_by project order) name)
all-wanted project mapped square some main order is names wanted = (into, back)
  where
    V : Library
    V = library_in project.nodes

    into : (name : List ℕ) → Contains (names_by project order) name → Contains names name
    into name c =
        let m = Contains-from_map (λ (k : ℕ). name_at project.nodes k) order name c in
        let known = is.only m.0 m.1 in
        let reached = subst (λ n. Reaches V n (name_at project.nodes m.0)) main ((mapped.reflects 0 m.0 some known.0).0 known.1) in
        wanted.1 name (text_at project.nodes m.0)
        (subst (λ n. IsWanted V n (text_at project.nodes m.0)) m.2 (record { reached = reached; there = library-at project.nodes mapped.distinct m.0 known.0 }))

    back : (name : List ℕ) → Contains names name → Contains (names_by project order) name
    back name c =
        let w = wanted.0.each name c in
        let p = library-found project.nodes name w.0 w.1.there in
        let e = (mapped.reflects 0 p.place some p.within).1 (subst (Reaches V (name_at project.nodes 0)) (sym p.named) (subst (λ n. Reaches V n name) (sym main) w.1.reached)) in
        let has = is.all p.place p.within e (inl (rank-within project mapped square p.place p.within)) in
        subst (Contains (names_by project order)) p.named (Contains-map (λ (k : ℕ). name_at project.nodes k) order p.place has)

distinct-front : (xs ys : List (List ℕ)) → AreDistinct (xs ++ ys) → AreDistinct xs
distinct-front [] ys d = tt
distinct-front (x ∷ xs) ys d = ((λ c. d.0 (Contains-append_left xs ys x c)), distinct-front xs ys d.1)

module _ (project : Project) (mapped : IsMapped project) (square : IsSquare project.rows) (some : 0 < length project.nodes) (main : name_at project.nodes 0 ≡ [])
    (order : List ℕ) (is : IsOrder project order) (envs : Environments) (steps steps_now : ℕ) where
  -- in the end the main text is ready
  pub going-ready : (place : ℕ) → length order ≤ place → IsGoing project order place envs steps steps_now → IsReady project envs 0
  going-ready place all g other e straight =
      let within = (inside project mapped square 0 other e).1 in
      let has = is.all other within e (inl (rank-within project mapped square other within)) in
      g.here other (subst (λ xs. Contains xs other) (sym (take_all place order all)) has)

  -- and all statements of the modules that it wants were counted
  pub going-done : (place n : ℕ) → length order ≤ place → IsGoing project order place envs steps steps_now → HaveModules (library_in project.nodes) n → steps_now ≡ steps + n
  going-done place n all g m =
      let V = library_in project.nodes in
      let same = all-wanted project mapped square some main order is m.names m.wanted in
      let w = count-within V (names_by project order) m.names n is.distinct m.wanted.0.distinct same.0 m.have in
      let exact = w.exact same.1 in
      let counted = g.counts w.m (subst (λ xs. HaveStatements V (names_by project xs) w.m) (sym (take_all place order all)) w.have) in
      omega arith

  -- where it stops, no more were counted
  pub going-stopped : (place number n steps_then : ℕ) → (h : place < length order) → (at : number ≡ slice_index_or order place number) → IsGoing project order place envs steps steps_now
      → ((k : ℕ) → HaveStatements (library_in project.nodes) (name_at project.nodes number ∷ []) k → steps_then ≤ steps_now + k)
      → HaveModules (library_in project.nodes) n → steps_then ≤ steps + n
  going-stopped place number n steps_then h at g counted m =
      let V = library_in project.nodes in
      let front = names_by project (take (place + 1) order) in
      let same = all-wanted project mapped square some main order is m.names m.wanted in
      let parts : names_by project order ≡ front ++ names_by project (drop (place + 1) order) =
      ap (names_by project) (sym (take-append-drop (place + 1) order)) ∙ map-append (λ (k : ℕ). name_at project.nodes k) (take (place + 1) order) (drop (place + 1) order) in
      let distinct = distinct-front front (names_by project (drop (place + 1) order)) (subst AreDistinct parts is.distinct) in
      let among : (name : List ℕ) → Contains front name → Contains m.names name =
      λ name c. same.0 name (subst (λ ns. Contains ns name) (sym parts) (Contains-append_left front (names_by project (drop (place + 1) order)) name c)) in
      let w = count-within V front m.names n distinct m.wanted.0.distinct among m.have in
      let few = w.few in
      let both = split V (names_by project (take place order)) (name_at project.nodes number ∷ []) w.m
      (subst (λ ns. HaveStatements V ns w.m) (names-next project mapped order is place number h at) w.have) in
      let before = g.counts both.a both.front in
      let here = counted both.b both.back in
      let sum = both.sum in
      omega arith
