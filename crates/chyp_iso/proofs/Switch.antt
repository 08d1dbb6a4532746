-- A bijection changed to one that has a partial one.
use Rattle.std.proofs.Common.{ℕ, ◌<◌, ◌≡◌, Option, Some, None, ◌⊎◌, inl, inr, refl, sym, ◌∙◌, ap, subst}
use Rattle.chyp_graph.specs.Isomorphism.{IsBijection}

-- the number, or else another
abbrev pub pick : Option ℕ → ℕ → ℕ
pick None other = other
pick (Some y) other = y

-- the image of the number, or else another
abbrev pub through : (ℕ → ℕ) → Option ℕ → ℕ → ℕ
through f None other = other
through f (Some u) other = f u

-- x goes where m says; where m says nothing, it goes by f, and once more from what m takes there
abbrev pub switch : (m back : ℕ → Option ℕ) (f : ℕ → ℕ) → ℕ → ℕ
switch m back f x = pick (m x) (through f (back (f x)) (f x))

-- m and back undo one another, between numbers below n and below k
pub record IsPartial (n k : ℕ) (m back : ℕ → Option ℕ) : Type 0 where
  pub there : (x y : ℕ) → m x ≡ Some y → back y ≡ Some x
  pub again : (x y : ℕ) → back y ≡ Some x → m x ≡ Some y
  pub below : (x y : ℕ) → m x ≡ Some y → x < n
  pub under : (x y : ℕ) → m x ≡ Some y → y < k

pub partial-flip : {n k : ℕ} {m back : ℕ → Option ℕ} → IsPartial n k m back → IsPartial k n back m
partial-flip p = record {
  there = λ x y e. p.again y x e;
  again = λ x y e. p.there y x e;
  below = λ x y e. p.under y x (p.again y x e);
  under = λ x y e. p.below y x (p.again y x e);
}

-- f takes what m knows apart from where m takes it, unless f does as m
abbrev pub AreApart : (m back : ℕ → Option ℕ) (f : ℕ → ℕ) → Type 0
AreApart m back f = (x y u : ℕ) → m x ≡ Some y → back (f x) ≡ Some u → u ≡ x

-- f takes what m knows exactly to where m takes it
pub record AreSame (n k : ℕ) (m back : ℕ → Option ℕ) (f f' : ℕ → ℕ) : Type 0 where
  pub stays : (x : ℕ) → x < n → m x ≡ None → back (f x) ≡ None
  pub comes : (y : ℕ) → y < k → back y ≡ None → m (f' y) ≡ None

pub same-flip : {n k : ℕ} {m back : ℕ → Option ℕ} {f f' : ℕ → ℕ} → AreSame n k m back f f' → AreSame k n back m f' f
same-flip s = record { stays = s.comes; comes = s.stays }

pub apart-flip : (n k : ℕ) (m back : ℕ → Option ℕ) (f f' : ℕ → ℕ) → IsPartial n k m back → IsBijection n k f f' → AreApart m back f → AreApart back m f'
apart-flip n k m back f f' p b a y x u d e =
    let l = p.under x y (p.again x y d) in
    let z : f (f' y) ≡ y = b.there_back y l in
    let q : x ≡ f' y = a (f' y) u x e (ap back z ∙ d) in
    let r : m (f' y) ≡ Some y = ap m (sym q) ∙ p.again x y d in
    let s : ◌≡◌ {A = Option ℕ} (Some u) (Some y) = sym e ∙ r in
    cc

-- the one or the other
abbrev pub CanSwitch : (n k : ℕ) (m back : ℕ → Option ℕ) (f f' : ℕ → ℕ) → Type 0
CanSwitch n k m back f f' = (AreApart m back f) ⊎ (AreSame n k m back f f')

pub can-flip : (n k : ℕ) (m back : ℕ → Option ℕ) (f f' : ℕ → ℕ) → IsPartial n k m back → IsBijection n k f f' → CanSwitch n k m back f f' → CanSwitch k n back m f' f
can-flip n k m back f f' p b (inl a) = inl (apart-flip n k m back f f' p b a)
can-flip n k m back f f' p b (inr s) = inr (same-flip s)

-- ## the three cases

pub switch-known : (m back : ℕ → Option ℕ) (f : ℕ → ℕ) (x y : ℕ) → m x ≡ Some y → switch m back f x ≡ y
switch-known m back f x y e = ap (λ o. pick o (through f (back (f x)) (f x))) e

pub switch-taken : (m back : ℕ → Option ℕ) (f : ℕ → ℕ) (x u : ℕ) → m x ≡ None → back (f x) ≡ Some u → switch m back f x ≡ f u
switch-taken m back f x u e d = ap (λ o. pick o (through f (back (f x)) (f x))) e ∙ ap (λ o. through f o (f x)) d

pub switch-free : (m back : ℕ → Option ℕ) (f : ℕ → ℕ) (x : ℕ) → m x ≡ None → back (f x) ≡ None → switch m back f x ≡ f x
switch-free m back f x e d = ap (λ o. pick o (through f (back (f x)) (f x))) e ∙ ap (λ o. through f o (f x)) d

pub switch-below : (n k : ℕ) (m back : ℕ → Option ℕ) (f f' : ℕ → ℕ) → IsPartial n k m back → IsBijection n k f f' → (x : ℕ) → x < n → switch m back f x < k
switch-below n k m back f f' p b x l = go (m x) refl (back (f x)) refl
  where
    go : (o : Option ℕ) → m x ≡ o → (q : Option ℕ) → back (f x) ≡ q → switch m back f x < k
    go (Some y) e q d = subst (λ z. z < k) (sym (switch-known m back f x y e)) (p.under x y e)
    go None e (Some u) d = subst (λ z. z < k) (sym (switch-taken m back f x u e d)) (b.there u (p.below u (f x) (p.again u (f x) d)))
    go None e None d = subst (λ z. z < k) (sym (switch-free m back f x e d)) (b.there x l)

pub switch-again : (n k : ℕ) (m back : ℕ → Option ℕ) (f f' : ℕ → ℕ) → IsPartial n k m back → IsBijection n k f f' → CanSwitch n k m back f f' → (x : ℕ) → x < n
    → switch back m f' (switch m back f x) ≡ x
switch-again n k m back f f' p b can x l = go (m x) refl (back (f x)) refl
  where
    free : (u : ℕ) → m x ≡ None → back (f x) ≡ Some u → CanSwitch n k m back f f' → back (f u) ≡ None
    free u e d (inr s) = let z : back (f x) ≡ None = s.stays x l e in let c : ◌≡◌ {A = Option ℕ} (Some u) None = sym d ∙ z in cc
    free u e d (inl a) = at (back (f u)) refl
      where
        at : (o : Option ℕ) → back (f u) ≡ o → back (f u) ≡ None
        at None q = q
        at (Some t) q =
            let i : m u ≡ Some (f x) = p.again u (f x) d in
            let r : t ≡ u = a u (f x) t i q in
            let j : m u ≡ Some (f u) = p.again u (f u) (q ∙ ap (λ z. Some z) r) in
            let s : ◌≡◌ {A = Option ℕ} (Some (f x)) (Some (f u)) = sym i ∙ j in
            let v : f x ≡ f u = cc in
            let w : x ≡ u = sym (b.back_there x l) ∙ ap f' v ∙ b.back_there u (p.below u (f x) i) in
            let c : ◌≡◌ {A = Option ℕ} None (Some (f x)) = sym e ∙ ap m w ∙ i in
            cc

    go : (o : Option ℕ) → m x ≡ o → (q : Option ℕ) → back (f x) ≡ q → switch back m f' (switch m back f x) ≡ x
    go (Some y) e q d = ap (switch back m f') (switch-known m back f x y e) ∙ switch-known back m f' y x (p.there x y e)
    go None e (Some u) d =
        let i : m u ≡ Some (f x) = p.again u (f x) d in
        let j : m (f' (f u)) ≡ Some (f x) = ap m (b.back_there u (p.below u (f x) i)) ∙ i in
        ap (switch back m f') (switch-taken m back f x u e d) ∙ switch-taken back m f' (f u) (f x) (free u e d can) j ∙ b.back_there x l
    go None e None d =
        ap (switch back m f') (switch-free m back f x e d) ∙ switch-free back m f' (f x) d (ap m (b.back_there x l) ∙ e) ∙ b.back_there x l

pub switch-bijection : (n k : ℕ) (m back : ℕ → Option ℕ) (f f' : ℕ → ℕ) → IsPartial n k m back → IsBijection n k f f' → CanSwitch n k m back f f' → IsBijection n k (switch m back f) (switch back m f')
switch-bijection n k m back f f' p b can = record {
  there = switch-below n k m back f f' p b;
  back = switch-below k n back m f' f (partial-flip p) flipped;
  there_back = switch-again k n back m f' f (partial-flip p) flipped (can-flip n k m back f f' p b can);
  back_there = switch-again n k m back f f' p b can;
}
  where
    flipped : IsBijection k n f' f
    flipped = record { there = b.back; back = b.there; there_back = b.back_there; back_there = b.there_back }

-- what both keep is kept
pub switch-keeps : {A : Type 0} (n k : ℕ) (m back : ℕ → Option ℕ) (f f' : ℕ → ℕ) (first second : ℕ → A) → IsPartial n k m back → IsBijection n k f f'
    → ((x y : ℕ) → m x ≡ Some y → second y ≡ first x) → ((x : ℕ) → x < n → second (f x) ≡ first x) → (x : ℕ) → x < n → second (switch m back f x) ≡ first x
switch-keeps {A} n k m back f f' first second p b s t x l = go (m x) refl (back (f x)) refl
  where
    go : (o : Option ℕ) → m x ≡ o → (q : Option ℕ) → back (f x) ≡ q → second (switch m back f x) ≡ first x
    go (Some y) e q d = ap second (switch-known m back f x y e) ∙ s x y e
    go None e (Some u) d =
        let i : m u ≡ Some (f x) = p.again u (f x) d in
        ap second (switch-taken m back f x u e d) ∙ t u (p.below u (f x) i) ∙ sym (s u (f x) i) ∙ t x l
    go None e None d = ap second (switch-free m back f x e d) ∙ t x l
