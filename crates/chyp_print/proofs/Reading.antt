-- Tokens that spell a term are a term of the grammar, whose tree expands to the term with its chains halved anew.
use Rattle.std.proofs.Common.{ℕ, zero, suc, ◌≤◌, ◌≡◌, Bool, true, false, List, [], ◌∷◌, ◌++◌, length, map, None, Some, refl, sym, ◌∙◌, ap, ap₂, subst, arith, append_assoc}
use Rattle.std.proofs.lemmas.List.{map-append}
use Rattle.chyp_base.specs.declared.sort.Sort.{Sort}
use Rattle.chyp_lex.specs.declared.token.TokenKind.TheVariants.{Semicolon, Star}
use Rattle.chyp_syntax.specs.Numbered.{NumberedToken, kind_of}
use Rattle.chyp_syntax.specs.Sentence.{AreAtoms, ArePars, IsAtom, IsTerm, a_name, a_swap, an_id, an_id0, composite, in_parentheses, more_atoms, more_pars, most_nested, one_atom, one_par, tensor, these_places, two_places}
use Rattle.chyp_syntax.specs.Term.{TermTree, chain_of, empty as no_wire, named, swap, tensor_of, terms_of, wire}
use Rattle.chyp_term.specs.Halving.{halved}
use Rattle.chyp_term.specs.Measure.{depth_of}
use Rattle.chyp_term.specs.Morphism.{IsTyped, Morphism, beside, generator, permutation, then}
use Rattle.chyp_env.specs.Expansion.{expansion_in, expansions_in, plain_permutation, plain_wires}
use Rattle.chyp_extract.specs.Rehalving.{chain_parts, rehalved, tensor_parts}
use Rattle.chyp_print.specs.Printing.{Naming}
use Rattle.chyp_print.specs.Reading.{IsNamed}
use Rattle.chyp_print.proofs.Spelling.{AreEnclosed, AreJoined, IsNameOf, IsSwapWith, IsWord, Spell, SpellPlaces}

-- parts of a composite, and the terms that they stand for
record Pars (meaning : ℕ → Morphism) (depth : ℕ) (tokens : List NumberedToken) (terms : List Morphism) : Type 0 where
  trees : List TermTree
  semis : List ℕ
  are : ArePars depth tokens trees semis
  expand : map (expansion_in meaning) trees ≡ terms

-- parts of a tensor
record Atoms (meaning : ℕ → Morphism) (depth : ℕ) (tokens : List NumberedToken) (terms : List Morphism) : Type 0 where
  trees : List TermTree
  are : AreAtoms depth tokens trees
  expand : map (expansion_in meaning) trees ≡ terms

pars_append : (depth : ℕ) {ts us : List NumberedToken} {trees trees' : List TermTree} {semis semis' : List ℕ} (semi : NumberedToken)
    → ArePars depth ts trees semis → kind_of semi ≡ Semicolon → ArePars depth us trees' semis' → ArePars depth (ts ++ semi ∷ us) (trees ++ trees') (semis ++ semi.0 ∷ semis')
pars_append depth semi (one_par h) k p = more_pars semi h k p
pars_append depth {us = us} {trees' = ts'} {semis' = ns'} semi (more_pars {par = par} {rest = rest} semi' {tree = tree} {trees = ts} {semis = ns} h q r) k p =
    subst (λ z. ArePars depth z (tree ∷ (ts ++ ts')) (semi'.0 ∷ (ns ++ semi.0 ∷ ns'))) (sym (append_assoc par (semi' ∷ rest) (semi ∷ us)))
    (more_pars semi' h q (pars_append depth semi r k p))

atoms_append : (depth : ℕ) {ts us : List NumberedToken} {trees trees' : List TermTree} (star : NumberedToken) → AreAtoms depth ts trees → kind_of star ≡ Star → AreAtoms depth us trees'
    → AreAtoms depth (ts ++ star ∷ us) (trees ++ trees')
atoms_append depth star (one_atom h) k p = more_atoms star h k p
atoms_append depth {us = us} {trees' = ts'} star (more_atoms {atom = atom} {rest = rest} star' {tree = tree} {trees = ts} h q r) k p =
    subst (λ z. AreAtoms depth z (tree ∷ (ts ++ ts'))) (sym (append_assoc atom (star' ∷ rest) (star ∷ us))) (more_atoms star' h q (atoms_append depth star r k p))

expansions-map : (meaning : ℕ → Morphism) (trees : List TermTree) → expansions_in meaning (terms_of trees) ≡ map (expansion_in meaning) trees
expansions-map meaning [] = refl
expansions-map meaning (tree ∷ trees) = ap (λ z. expansion_in meaning tree ∷ z) (expansions-map meaning trees)

tensor-expands : (meaning : ℕ → Morphism) (trees : List TermTree) → expansion_in meaning (tensor_of trees) ≡ halved beside (map (expansion_in meaning) trees)
tensor-expands meaning [] = refl
tensor-expands meaning (tree ∷ []) = refl
tensor-expands meaning (tree ∷ next ∷ trees) = ap (halved beside) (expansions-map meaning (tree ∷ next ∷ trees))

chain-expands : (meaning : ℕ → Morphism) (trees : List TermTree) (semis : List ℕ) → expansion_in meaning (chain_of trees semis) ≡ halved then (map (expansion_in meaning) trees)
chain-expands meaning [] semis = refl
chain-expands meaning (tree ∷ []) semis = refl
chain-expands meaning (tree ∷ next ∷ trees) semis = ap (halved then) (expansions-map meaning (tree ∷ next ∷ trees))

-- an atom is the one part of a tensor, and of a composite
record Leaf (meaning : ℕ → Morphism) (depth : ℕ) (tokens : List NumberedToken) (t : Morphism) : Type 0 where
  tree : TermTree
  is : IsAtom depth tokens tree
  expands : expansion_in meaning tree ≡ t

leaf-atoms : {meaning : ℕ → Morphism} {depth : ℕ} {tokens : List NumberedToken} {t : Morphism} → Leaf meaning depth tokens t → Atoms meaning depth tokens (t ∷ [])
leaf-atoms l = record { trees = l.tree ∷ []; are = one_atom l.is; expand = ap (λ z. z ∷ []) l.expands }

module _ (meaning : ℕ → Morphism) (depth : ℕ) where
  -- atoms are one part of a composite
  atoms-pars : (tokens : List NumberedToken) (terms : List Morphism) → Atoms meaning depth tokens terms → Pars meaning depth tokens (halved beside terms ∷ [])
  atoms-pars tokens terms a = record {
    trees = tensor_of a.trees ∷ [];
    semis = [];
    are = one_par (tensor a.are);
    expand = ap (λ z. z ∷ []) (tensor-expands meaning a.trees ∙ ap (halved beside) a.expand);
  }

  swap-leaf : (p : List ℕ) (tokens : List NumberedToken) → IsSwapWith p tokens → Leaf meaning depth tokens (plain_permutation p)
  swap-leaf p tokens s =
      let w = s.first in
      let open' = s.second.first in
      let numbers = s.second.second in
      let close = numbers.second in
      let split : tokens ≡ w.word ∷ open'.word ∷ (numbers.front ++ close.word ∷ []) = rw (s.all, w.all, s.second.all, open'.all, numbers.all, close.all) refl in
      record {
        tree = swap w.word.0 (Some p);
        is = subst (λ z. IsAtom depth z (swap w.word.0 (Some p))) (sym split) (a_swap (these_places close.word w.is open'.is numbers.first close.is));
        expands = refl;
      }

  places-leaf : (p : List ℕ) (tokens : List NumberedToken) → SpellPlaces p tokens → Leaf meaning depth tokens (plain_permutation p)
  places-leaf [] tokens s = record { tree = no_wire; is = subst (λ z. IsAtom depth z no_wire) (sym s.all) (an_id0 s.is); expands = refl }
  places-leaf (zero ∷ []) tokens s = record { tree = wire; is = subst (λ z. IsAtom depth z wire) (sym s.all) (an_id s.is); expands = refl }
  places-leaf (suc zero ∷ []) tokens s = swap-leaf (1 ∷ []) tokens s
  places-leaf (suc (suc k) ∷ []) tokens s = swap-leaf (suc (suc k) ∷ []) tokens s
  places-leaf (zero ∷ q ∷ ps) tokens s = swap-leaf (zero ∷ q ∷ ps) tokens s
  places-leaf (suc zero ∷ zero ∷ []) tokens s = record {
    tree = swap s.word.0 None;
    is = subst (λ z. IsAtom depth z (swap s.word.0 None)) (sym s.all) (a_swap (two_places s.is));
    expands = refl;
  }
  places-leaf (suc zero ∷ zero ∷ q ∷ ps) tokens s = swap-leaf (suc zero ∷ zero ∷ q ∷ ps) tokens s
  places-leaf (suc zero ∷ suc k ∷ ps) tokens s = swap-leaf (suc zero ∷ suc k ∷ ps) tokens s
  places-leaf (suc (suc k) ∷ q ∷ ps) tokens s = swap-leaf (suc (suc k) ∷ q ∷ ps) tokens s

  name-leaf : (n : List ℕ) (a b : List Sort) (tokens : List NumberedToken) → IsWord (IsNameOf meaning (generator n a b)) tokens → Leaf meaning depth tokens (generator n a b)
  name-leaf n a b tokens s = record { tree = named s.word.0; is = subst (λ z. IsAtom depth z (named s.word.0)) (sym s.all) (a_name s.is.0); expands = s.is.1 }

  both-pars : (First Second : List NumberedToken → Type 0) (tokens : List NumberedToken) (xs ys : List Morphism) (b : AreJoined Semicolon First Second tokens) → Pars meaning depth b.front xs
      → Pars meaning depth b.second.rear ys → Pars meaning depth tokens (xs ++ ys)
  both-pars First Second tokens xs ys b h k =
      let semi = b.second.first in
      let split : tokens ≡ b.front ++ semi.word ∷ b.second.rear = rw (b.all, b.second.all, semi.all) refl in
      record {
        trees = h.trees ++ k.trees;
        semis = h.semis ++ semi.word.0 ∷ k.semis;
        are = subst (λ z. ArePars depth z (h.trees ++ k.trees) (h.semis ++ semi.word.0 ∷ k.semis)) (sym split) (pars_append depth semi.word h.are semi.is k.are);
        expand = map-append (expansion_in meaning) h.trees k.trees ∙ ap₂ (λ a b. a ++ b) h.expand k.expand;
      }

  both-atoms : (First Second : List NumberedToken → Type 0) (tokens : List NumberedToken) (xs ys : List Morphism) (b : AreJoined Star First Second tokens) → Atoms meaning depth b.front xs
      → Atoms meaning depth b.second.rear ys → Atoms meaning depth tokens (xs ++ ys)
  both-atoms First Second tokens xs ys b h k =
      let star = b.second.first in
      let split : tokens ≡ b.front ++ star.word ∷ b.second.rear = rw (b.all, b.second.all, star.all) refl in
      record {
        trees = h.trees ++ k.trees;
        are = subst (λ z. AreAtoms depth z (h.trees ++ k.trees)) (sym split) (atoms_append depth star.word h.are star.is k.are);
        expand = map-append (expansion_in meaning) h.trees k.trees ∙ ap₂ (λ a b. a ++ b) h.expand k.expand;
      }

  -- parts of a composite in parentheses are an atom
  enclosed-leaf : (Inner : List NumberedToken → Type 0) (terms : List Morphism) (tokens : List NumberedToken) (e : AreEnclosed Inner tokens) → Pars meaning depth e.second.front terms
      → Leaf meaning (suc depth) tokens (halved then terms)
  enclosed-leaf Inner terms tokens e inner =
      let open' = e.first in
      let close = e.second.second in
      let split : tokens ≡ open'.word ∷ (e.second.front ++ close.word ∷ []) = rw (e.all, open'.all, e.second.all, close.all) refl in
      record {
        tree = chain_of inner.trees inner.semis;
        is = subst (λ z. IsAtom (suc depth) z (chain_of inner.trees inner.semis)) (sym split) (in_parentheses close.word open'.is (composite inner.are) close.is);
        expands = chain-expands meaning inner.trees inner.semis ∙ ap (halved then) inner.expand;
      }

abbrev Parsed : (ℕ → Morphism) → (in_tensor : Bool) → ℕ → List NumberedToken → Morphism → Type 0
Parsed meaning false depth tokens t = Pars meaning depth tokens (chain_parts t)
Parsed meaning true depth tokens t = Atoms meaning depth tokens (tensor_parts t)

module _ (meaning : ℕ → Morphism) where
  leaf-generator : (in_tensor : Bool) (depth : ℕ) (tokens : List NumberedToken) (n : List ℕ) (a b : List Sort) → Leaf meaning depth tokens (generator n a b)
      → Parsed meaning in_tensor depth tokens (generator n a b)
  leaf-generator true depth tokens n a b l = leaf-atoms l
  leaf-generator false depth tokens n a b l = atoms-pars meaning depth tokens (generator n a b ∷ []) (leaf-atoms l)

  leaf-permutation : (in_tensor : Bool) (depth : ℕ) (tokens : List NumberedToken) (a : List Sort) (p : List ℕ) → Leaf meaning depth tokens (permutation a p)
      → Parsed meaning in_tensor depth tokens (permutation a p)
  leaf-permutation true depth tokens a p l = leaf-atoms l
  leaf-permutation false depth tokens a p l = atoms-pars meaning depth tokens (permutation a p ∷ []) (leaf-atoms l)

  module _ (naming : Naming) (texts : List ℕ → Morphism) where
    parsed : (in_tensor : Bool) (t : Morphism) (depth : ℕ) (tokens : List NumberedToken) → IsNamed naming texts t → IsTyped t → depth_of t ≤ depth → Spell meaning in_tensor t tokens
        → Parsed meaning in_tensor depth tokens t
    parsed in_tensor (generator n a b) depth tokens h ty d s = leaf-generator in_tensor depth tokens n a b (name-leaf meaning depth n a b tokens s)
    parsed in_tensor (permutation a p) depth tokens h ty d s =
        let plain : a ≡ plain_wires (length p) = h ∙ ap plain_wires (sym ty.size) in
        leaf-permutation in_tensor depth tokens a p (subst (λ z. Leaf meaning depth tokens (permutation z p)) (sym plain) (places-leaf meaning depth p tokens s))
    parsed false (then s t) depth tokens h ty d b =
        let first = parsed false s depth b.front h.0 ty.0 (omega arith) b.first in
        let second = parsed false t depth b.second.rear h.1 ty.1 (omega arith) b.second.second in
        both-pars meaning depth _ _ tokens (chain_parts s) (chain_parts t) b first second
    parsed true (then s t) zero tokens h ty d e = absurd (omega arith)
    parsed true (then s t) (suc depth) tokens h ty d e =
        let b = e.second.first in
        let first = parsed false s depth b.front h.0 ty.0 (omega arith) b.first in
        let second = parsed false t depth b.second.rear h.1 ty.1 (omega arith) b.second.second in
        leaf-atoms (enclosed-leaf meaning depth _ (chain_parts s ++ chain_parts t) tokens e (both-pars meaning depth _ _ e.second.front (chain_parts s) (chain_parts t) b first second))
    parsed true (beside s t) depth tokens h ty d b =
        let first = parsed true s depth b.front h.0 ty.0 (omega arith) b.first in
        let second = parsed true t depth b.second.rear h.1 ty.1 (omega arith) b.second.second in
        both-atoms meaning depth _ _ tokens (tensor_parts s) (tensor_parts t) b first second
    parsed false (beside s t) depth tokens h ty d b =
        let first = parsed true s depth b.front h.0 ty.0 (omega arith) b.first in
        let second = parsed true t depth b.second.rear h.1 ty.1 (omega arith) b.second.second in
        atoms-pars meaning depth tokens (tensor_parts s ++ tensor_parts t) (both-atoms meaning depth _ _ tokens (tensor_parts s) (tensor_parts t) b first second)

    -- tokens that spell a term are read as the term with its chains halved anew
    pub spelled-reads : (t : Morphism) (tokens : List NumberedToken) → IsNamed naming texts t → IsTyped t → depth_of t ≤ most_nested → Spell meaning false t tokens
        → (tree : TermTree) × IsTerm most_nested tokens tree × (expansion_in meaning tree ≡ rehalved t)
    spelled-reads t tokens h ty d s =
        let p = parsed false t most_nested tokens h ty d s in
        (chain_of p.trees p.semis, composite p.are, chain-expands meaning p.trees p.semis ∙ ap (halved then) p.expand)
