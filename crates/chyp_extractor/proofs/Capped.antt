-- Measures as they are kept: of rows and of layers.
use Rattle.std.proofs.Common.{ℕ, zero, suc, ◌+◌, ◌-◌, ◌*◌, ◌^◌, ◌<◌, ◌≤◌, ◌≡◌, List, [], ◌∷◌, ◌++◌, length, map, take, max, min, sum_by, Some, slice_get, Result, Ok, Err, IfOk, ◌⊎◌, inl, inr, refl, sym, ◌∙◌, ap, ap₂, subst, arith, append_assoc, length-append}
use Rattle.std.proofs.Math.Nat.{pow-suc}
use Rattle.std.proofs.lemmas.Bool.{cases_lt}
use Rattle.std.proofs.lemmas.List.{length-map, map-append}
use Rattle.std.proofs.lemmas.List.Sums.{sum_by-cons, sum_by_push}
use Rattle.chyp_term.specs.Halving.{halved_in}
use Rattle.chyp_term.specs.Perm.{permuted}
use Rattle.chyp_term.proofs.Halving.{halved-sum, halved_in-map}
use Rattle.chyp_term.proofs.Members.{Member}
use Rattle.chyp_graph.specs.PlainGraph.{Edge, PlainGraph}
use Rattle.chyp_graph.specs.Validity.{IsValid}
use Rattle.chyp_extract.specs.Extraction.{extracted}
use Rattle.chyp_extract.proofs.Measuring.{measures-extracted}
use Rattle.chyp_extract.specs.Measuring.{Measures as TermMeasures, measured, measures_from, measures_of, of_both, of_chain, of_edge, of_layer, of_row, of_wires}
use Rattle.chyp_extract.proofs.Levels.{IsDepthOf, leaves-depth}
use Rattle.chyp_extractor.specs.declared.measures.Measures.{Measures}
use Rattle.chyp_extractor.specs.Measures.{IsHalvedDepth, both, capped, kept}
use Rattle.chyp_extractor.proofs.Lists.{permuted-next}

pub measures_same : (a b c a' b' c' : ℕ) → a ≡ a' → b ≡ b' → c ≡ c'
    → ◌≡◌ {A = Measures} (record { size = a; depth = b; gens = c }) (record { size = a'; depth = b'; gens = c' })
measures_same a b c a' b' c' p q r = cc

-- ## rows

cap_sum : (m a b : ℕ) → min (1 + (a + b)) m ≡ min (min a m + min b m + 1) m
cap_sum m a b = omega arith

cap_max : (m a b : ℕ) → min (1 + max a b) m ≡ min (max (min a m) (min b m) + 1) m
cap_max m a b = omega arith

cap_add : (m a b : ℕ) → min (a + b) m ≡ min (min a m + min b m) m
cap_add m a b = omega arith

kept-both : (x y : TermMeasures) → kept (of_both x y) ≡ both (kept x) (kept y)
kept-both x y = measures_same _ _ _ _ _ _ (cap_sum (2 ^ 64 - 1) x.size y.size) (cap_max (2 ^ 64 - 1) x.depth y.depth) (cap_add (2 ^ 64 - 1) x.generators y.generators)

pub kept-row : (ms : List TermMeasures) → kept (of_row ms) ≡ halved_in (kept (of_wires 0)) both (map kept ms)
kept-row ms = halved_in-map kept (of_wires 0) (kept (of_wires 0)) of_both both refl kept-both ms

-- ## depths of leaves

two_powers : (k : ℕ) → 2 ^ suc k ≡ 2 ^ k + 2 ^ k
two_powers k = let e = pow-suc 2 k in omega arith

power-more : (a b d : ℕ) → a + d ≡ b → 2 ^ a ≤ 2 ^ b
power-more a b zero e = let q : a ≡ b = omega arith in subst (λ x. 2 ^ a ≤ 2 ^ x) q (omega arith)
power-more a b (suc d) e =
    let q : suc (a + d) ≡ b = omega arith in
    subst (λ x. 2 ^ a ≤ 2 ^ x) q (let h = power-more a (a + d) d refl in let t = two_powers (a + d) in omega arith)

pub log-depth : (n l : ℕ) → 2 ≤ n → 2 ^ l ≤ n - 1 → n - 1 < 2 * 2 ^ l → IsHalvedDepth n (l + 2)
log-depth n l two low high = record {
  some = omega arith;
  enough = let q : suc l ≡ l + 2 - 1 = omega arith in subst (λ k. n ≤ 2 ^ k) q (let t = two_powers l in omega arith);
  least = λ k h. go k h (cases_lt l k);
}
  where
    go : (k : ℕ) → n ≤ 2 ^ k → (l < k) ⊎ (k ≤ l) → l + 2 ≤ 1 + k
    go k h (inl a) = omega arith
    go k h (inr a) = let p = power-more k l (l - k) (omega arith) in absurd (omega arith)

depth-is : (n d e : ℕ) → IsDepthOf n d → IsHalvedDepth n e → e ≡ d
depth-is n d e s t =
    let a : 1 ≤ d = s.some in
    let b : 1 ≤ e = t.some in
    let u : d ≤ 1 + (e - 1) = s.enough (e - 1) t.enough in
    let z : 1 + (d - 1) ≡ d = omega arith in
    let w : e ≤ 1 + (d - 1) = t.least (d - 1) (s.needed (d - 1) (omega arith)) in
    omega arith

-- ## layers

pub leaf-sizes : (es : List Edge) (ws : List ℕ) → sum_by (λ x. 1 + x) (map (λ (m : TermMeasures). m.size) (map of_edge es ++ map (λ w. of_wires 1) ws))
    ≡ sum_by (λ e. (of_edge e).size) es + length es + 3 * length ws
leaf-sizes [] [] = refl
leaf-sizes [] (w ∷ ws) = let h = leaf-sizes [] ws in let q = sum_by-cons (λ x. 1 + x) 2 (map (λ (m : TermMeasures). m.size) (map of_edge [] ++ map (λ w. of_wires 1) ws)) in omega arith
leaf-sizes (e ∷ es) ws =
    let h = leaf-sizes es ws in
    let q = sum_by-cons (λ x. 1 + x) (of_edge e).size (map (λ (m : TermMeasures). m.size) (map of_edge es ++ map (λ w. of_wires 1) ws)) in
    let r = sum_by-cons (λ (e : Edge). (of_edge e).size) e es in
    omega arith

pub leaf-generators : (es : List Edge) (ws : List ℕ) → sum_by (λ x. 0 + x) (map (λ (m : TermMeasures). m.generators) (map of_edge es ++ map (λ w. of_wires 1) ws)) ≡ length es
leaf-generators [] [] = refl
leaf-generators [] (w ∷ ws) = let h = leaf-generators [] ws in omega arith
leaf-generators (e ∷ es) ws = let h = leaf-generators es ws in let q = sum_by-cons (λ x. 0 + x) 1 (map (λ (m : TermMeasures). m.generators) (map of_edge es ++ map (λ w. of_wires 1) ws)) in omega arith

pub leaf-count : (es : List Edge) (ws : List ℕ) → length (map of_edge es ++ map (λ w. of_wires 1) ws) ≡ length es + length ws
leaf-count es ws = length-append (map of_edge es) (map (λ w. of_wires 1) ws) ∙ ap₂ (λ a b. a + b) (length-map es of_edge) (length-map ws (λ w. of_wires 1))

pub leaf-depths : (es : List Edge) (ws : List ℕ) (x : ℕ) → Member x (map (λ (m : TermMeasures). m.depth) (map of_edge es ++ map (λ w. of_wires 1) ws)) → x ≡ 1
leaf-depths [] [] x m = absurd m
leaf-depths [] (w ∷ ws) x (inl e) = sym e
leaf-depths [] (w ∷ ws) x (inr m) = leaf-depths [] ws x m
leaf-depths (e ∷ es) ws x (inl q) = sym q
leaf-depths (e ∷ es) ws x (inr m) = leaf-depths es ws x m

pub layer-size : (es : List Edge) (ws : List ℕ) → 1 ≤ length es + length ws → 1 + (of_layer es ws).size ≡ sum_by (λ e. (of_edge e).size) es + length es + 3 * length ws
layer-size es ws some =
    let ms : List TermMeasures = map of_edge es ++ map (λ w. of_wires 1) ws in
    let size : TermMeasures → ℕ = λ m. m.size in
    let n = length-map ms size in
    let k = leaf-count es ws in
    ap (λ x. 1 + x) (halved_in-map size (of_wires 0) (size (of_wires 0)) of_both (λ a b. 1 + (a + b)) refl (λ x y. refl) ms)
    ∙ halved-sum 1 (size (of_wires 0)) (map size ms) (omega arith) ∙ leaf-sizes es ws

pub layer-generators : (es : List Edge) (ws : List ℕ) → 1 ≤ length es + length ws → (of_layer es ws).generators ≡ length es
layer-generators es ws some =
    let ms : List TermMeasures = map of_edge es ++ map (λ w. of_wires 1) ws in
    let count : TermMeasures → ℕ = λ m. m.generators in
    let n = length-map ms count in
    let k = leaf-count es ws in
    let h : 0 + halved_in (count (of_wires 0)) (λ a b. 0 + (a + b)) (map count ms) ≡ sum_by (λ x. 0 + x) (map count ms) = halved-sum 0 (count (of_wires 0)) (map count ms) (omega arith) in
    let z : halved_in (count (of_wires 0)) (λ a b. 0 + (a + b)) (map count ms) ≡ sum_by (λ x. 0 + x) (map count ms) = omega arith in
    halved_in-map count (of_wires 0) (count (of_wires 0)) of_both (λ a b. 0 + (a + b)) refl (λ x y. omega arith) ms ∙ z ∙ leaf-generators es ws

pub layer-depth : (es : List Edge) (ws : List ℕ) (d : ℕ) → 1 ≤ length es + length ws → IsHalvedDepth (length es + length ws) d → d ≡ (of_layer es ws).depth
layer-depth es ws d some t =
    let ms : List TermMeasures = map of_edge es ++ map (λ w. of_wires 1) ws in
    let depth : TermMeasures → ℕ = λ m. m.depth in
    let n = length-map ms depth in
    let k = leaf-count es ws in
    let q : length (map depth ms) ≡ length es + length ws = omega arith in
    let s = leaves-depth (depth (of_wires 0)) (length (map depth ms)) (map depth ms) (leaf-depths es ws) (omega arith) (omega arith) in
    depth-is (length es + length ws) (halved_in (depth (of_wires 0)) (λ a b. 1 + max a b) (map depth ms)) d
    (subst (λ c. IsDepthOf c (halved_in (depth (of_wires 0)) (λ a b. 1 + max a b) (map depth ms))) q s) t
    ∙ sym (halved_in-map depth (of_wires 0) (depth (of_wires 0)) of_both (λ a b. 1 + max a b) refl (λ x y. refl) ms)

cap_layer : (m total n w r x : ℕ) → 1 ≤ n + w → 1 + x ≡ total + n + 3 * w → r ≡ min (min (min total m + 2 * w) m + (n + w - 1)) m → r ≡ min x m
cap_layer m total n w r x some e q = omega arith

pub kept-layer : (es : List Edge) (ws : List ℕ) (size depth : ℕ) → 1 ≤ length es + length ws → length es + length ws < 2 ^ 33
    → size ≡ capped (capped (capped (sum_by (λ e. (of_edge e).size) es) + 2 * length ws) + (length es + length ws - 1)) → IsHalvedDepth (length es + length ws) depth
    → ◌≡◌ {A = Measures} (record { size = size; depth = depth; gens = length es }) (kept (of_layer es ws))
kept-layer es ws size depth some few e t =
    let d = layer-depth es ws depth some t in
    let g = layer-generators es ws some in
    let low : depth ≤ 34 = t.least 33 (omega arith) in
    measures_same _ _ _ _ _ _ (cap_layer (2 ^ 64 - 1) (sum_by (λ e. (of_edge e).size) es) (length es) (length ws) size (of_layer es ws).size some (layer-size es ws some) e)
    (omega arith) (omega arith)

-- one edge more
pub sizes-next : (es : List Edge) (ks : List ℕ) (i k : ℕ) (e : Edge) → slice_get ks i ≡ Some k → slice_get es k ≡ Some e
    → sum_by (λ e. (of_edge e).size) (permuted es (take (i + 1) ks)) ≡ sum_by (λ e. (of_edge e).size) (permuted es (take i ks)) + (1 + (length e.sources + length e.targets))
sizes-next es ks i k e p q =
    ap (sum_by (λ e. (of_edge e).size)) (permuted-next es ks i k e p q) ∙ sum_by_push (λ (e : Edge). (of_edge e).size) (permuted es (take i ks)) e

-- ## the parts of a round

pub measures-pushed : (before mid after : List Measures) (m : Measures) (cs : List TermMeasures) (l : TermMeasures) → mid ≡ before ++ map kept cs → m ≡ kept l → after ≡ mid ++ m ∷ []
    → after ≡ before ++ map kept (cs ++ l ∷ [])
measures-pushed before mid after m cs l e f a =
    a ∙ ap₂ (λ xs x. xs ++ x ∷ []) e f ∙ append_assoc before (map kept cs) (kept l ∷ []) ∙ ap (λ xs. before ++ xs) (sym (map-append kept cs (l ∷ [])))

-- ## the whole

pub measured-some : (g : PlainGraph) (parts : List Measures) → parts ≡ map kept (measures_from g (length g.edges) g.inputs g.edges) → 1 ≤ length parts
    → halved_in (kept (of_wires 0)) both parts ≡ kept (measured g)
measured-some g parts e n =
    ap (halved_in (kept (of_wires 0)) both) e
    ∙ go (measures_from g (length g.edges) g.inputs g.edges) (let a = ap length e in let b = length-map (measures_from g (length g.edges) g.inputs g.edges) kept in omega arith)
  where
    go : (ms : List TermMeasures) → 1 ≤ length ms → halved_in (kept (of_wires 0)) both (map kept ms) ≡ kept (of_chain g ms)
    go [] z = absurd (omega arith)
    go (m ∷ ms) z = sym (kept-row (m ∷ ms))

-- what is so measured are the measures of the term
pub told : {E : Type 0} (g : PlainGraph) → IsValid g → (result : Result Measures E) → IfOk result (λ m. m ≡ kept (measured g)) → IfOk result (λ m. m ≡ kept (measures_of (extracted g)))
told g v (Ok m) e = e ∙ ap kept (sym (measures-extracted g v))
told g v (Err error) e = tt

pub of_ok : {E : Type 0} (f : Measures → ℕ) (result : Result Measures E) (a : Measures) → IfOk result (λ m. m ≡ a) → IfOk result (λ m. f m ≡ f a)
of_ok f (Ok m) a e = ap f e
of_ok f (Err error) a e = tt
