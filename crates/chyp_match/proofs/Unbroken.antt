-- The ends of a pattern, one by one.
use Rattle.std.proofs.Common.{ℕ, ◌+◌, ◌<◌, ◌≤◌, ◌≡◌, Bool, List, length, Option, Some, None, slice_get, ◌⊎◌, inl, inr, sym, ◌∙◌, ap, subst, arith}
use Rattle.std.proofs.lemmas.Bool.{cases_lt}
use Rattle.chyp_term.proofs.Members.{Contains-member, get-member, member-Contains, member-get}
use Rattle.chyp_term.proofs.Positions.{slice_get-length}
use Rattle.chyp_graph.specs.PlainGraph.{PlainGraph}
use Rattle.chyp_pairs.specs.declared.pair.Pair.{Pair}
use Rattle.chyp_iso.specs.Port.{the_sources}
use Rattle.chyp_iso.proofs.Ports.{below-edge}
use Rattle.chyp_match.specs.Reach.{IsRow, LeadsTo}
use Rattle.chyp_match.specs.Convex.{IsTakenAt, IsTheOne, IsUnbroken, MakesImage, TakesImage}
use Rattle.chyp_match.specs.Row.{IsMarked}

-- what the property that one number alone has says of another
only-one : (P : ℕ → Type 0) (r : Option ℕ) → IsTheOne P r → (j : ℕ) → P j → r ≡ Some j
only-one P None t j p = absurd (t j p)
only-one P (Some k) t j p = ap (λ z. Some z) (sym (t.1 j p))

pub the-one : (P : ℕ → Type 0) (r : Option ℕ) (k : ℕ) → r ≡ Some k → IsTheOne P r → P k
the-one P None k e t = cc
the-one P (Some j) k e t = let q : j ≡ k = cc in subst P q t.0

module _ (l g : PlainGraph) (ps : List Pair) where
  pub taken-next : (row : List Bool) (n item : ℕ) (r : Option ℕ)
      → ((i v j : ℕ) → i < n → slice_get l.outputs i ≡ Some v → TakesImage g ps v j → IsMarked row j → ⊥) → slice_get l.outputs n ≡ Some item → IsTheOne (TakesImage g ps item) r
      → ((j : ℕ) → r ≡ Some j → IsMarked row j → ⊥) → (i v j : ℕ) → i < n + 1 → slice_get l.outputs i ≡ Some v → TakesImage g ps v j → IsMarked row j → ⊥
  taken-next row n item r f at t never i v j b e x y = go (cases_lt i n)
    where
      go : (i < n) ⊎ (n ≤ i) → ⊥
      go (inl c) = f i v j c e x y
      go (inr c) =
          let q : i ≡ n = omega arith in
          let both : ◌≡◌ {A = Option ℕ} (Some v) (Some item) = sym e ∙ ap (slice_get l.outputs) q ∙ at in
          let one : v ≡ item = cc in
          never j (only-one (TakesImage g ps item) r t j (subst (λ z. TakesImage g ps z j) one x)) y

  pub taken-none : (row : List Bool) (n : ℕ) → length l.outputs ≤ n → ((i v j : ℕ) → i < n → slice_get l.outputs i ≡ Some v → TakesImage g ps v j → IsMarked row j → ⊥)
      → IsTakenAt l g ps (IsMarked row) → ⊥
  taken-none row n b f t =
      let i = member-get l.outputs t.0 (Contains-member l.outputs t.0 t.2) in
      let c = slice_get-length l.outputs i.0 t.0 i.1 in
      f i.0 t.0 t.1 (omega arith) i.1 t.3 t.4

  pub marked-taken : (k : ℕ) (row : List Bool) → IsRow g k row → IsTakenAt l g ps (IsMarked row) → IsTakenAt l g ps (λ j. LeadsTo g j k)
  marked-taken k row r t = let x = t.3 in let m = r.marks t.1 (below-edge g the_sources t.1 x.1 x.0 x.3) in (t.0, t.1, t.2, t.3, m.0 t.4)

  pub taken-marked : (k : ℕ) (row : List Bool) → IsRow g k row → IsTakenAt l g ps (λ j. LeadsTo g j k) → IsTakenAt l g ps (IsMarked row)
  taken-marked k row r t = let x = t.3 in let m = r.marks t.1 (below-edge g the_sources t.1 x.1 x.0 x.3) in (t.0, t.1, t.2, t.3, m.1 t.4)

  pub broken : (n item k : ℕ) (r : Option ℕ) (row : List Bool) → slice_get l.inputs n ≡ Some item → IsTheOne (MakesImage g ps item) r → r ≡ Some k → IsRow g k row
      → IsTakenAt l g ps (IsMarked row) → IsUnbroken l g ps → ⊥
  broken n item k r row at t e q x u = u item k (member-Contains l.inputs item (get-member l.inputs n item at)) (the-one (MakesImage g ps item) r k e t) (marked-taken k row q x)

  pub unbroken-next : (n item : ℕ) (r : Option ℕ)
      → ((i u k : ℕ) → i < n → slice_get l.inputs i ≡ Some u → MakesImage g ps u k → IsTakenAt l g ps (λ j. LeadsTo g j k) → ⊥) → slice_get l.inputs n ≡ Some item
      → IsTheOne (MakesImage g ps item) r
      → ((k : ℕ) → r ≡ Some k → IsTakenAt l g ps (λ j. LeadsTo g j k) → ⊥)
      → (i u k : ℕ) → i < n + 1 → slice_get l.inputs i ≡ Some u → MakesImage g ps u k → IsTakenAt l g ps (λ j. LeadsTo g j k) → ⊥
  unbroken-next n item r f at t never i u k b e x y = go (cases_lt i n)
    where
      go : (i < n) ⊎ (n ≤ i) → ⊥
      go (inl c) = f i u k c e x y
      go (inr c) =
          let q : i ≡ n = omega arith in
          let both : ◌≡◌ {A = Option ℕ} (Some u) (Some item) = sym e ∙ ap (slice_get l.inputs) q ∙ at in
          let one : u ≡ item = cc in
          never k (only-one (MakesImage g ps item) r t k (subst (λ z. MakesImage g ps z k) one x)) y

  pub unbroken-all : (n : ℕ) → length l.inputs ≤ n → ((i u k : ℕ) → i < n → slice_get l.inputs i ≡ Some u → MakesImage g ps u k → IsTakenAt l g ps (λ j. LeadsTo g j k) → ⊥)
      → IsUnbroken l g ps
  unbroken-all n b f u k c x y =
      let i = member-get l.inputs u (Contains-member l.inputs u c) in
      let d = slice_get-length l.inputs i.0 u i.1 in
      f i.0 u k (omega arith) i.1 x y
