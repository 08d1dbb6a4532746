-- Which nodes reach which.
use Rattle.std.proofs.Common.{◌≡◌, ℕ, zero, suc, ◌+◌, ◌<◌, ◌≤◌, Bool, true, false, cond, ◌||◌, ◌&&◌, ◌==◌, ◌≢◌, List, [], ◌∷◌, length, Option, None, Some, slice_index_or, ◌⊎◌, inl, inr, ◌↔◌, refl, sym, ◌∙◌, ap, subst, arith}
use Rattle.std.specs.Prelude.{Contains, find}
use Rattle.std.specs.Option.{option_map}
use Rattle.std.specs.Str.{bytes_eq}
use Rattle.std.proofs.lemmas.Bool.{eq-eqb, eqb-true, false≢true, ne_eqb}
use Rattle.chyp_env.proofs.Bindings.{Contains-cons, names-eq, names-same}
use Rattle.chyp_verdicts.proofs.OneVerdict.{some-once}
use Rattle.chyp_modules.specs.Import.{LeadsTo, Reaches, at_once, by_way_of}
use Rattle.chyp_modules.specs.Library.{AreStatements}
use Rattle.chyp_modules.proofs.Reaching.{begins}
use Rattle.chyp_load.specs.Imports.{AreImports, IsImportedBy}
use Rattle.chyp_reach.specs.Relation.{IsSquare, Leads, at_once as leads_at_once, by_way_of as leads_by_way_of, relates}
use Rattle.chyp_reach.proofs.Chains.{and-both, or-left, or-right, or-split, relates-within}
use Rattle.chyp_check.specs.Project.{Node, HaveDistinctNames, Reflects, library_in, name_at, node_at, text_at}
use Rattle.chyp_check.proofs.Nodes.{names_in}
use Rattle.chyp_load.proofs.Reading.{at-last}

name-among : (nodes : List Node) (i : ℕ) → i < length nodes → Contains (names_in nodes) (name_at nodes i)
name-among [] i h = absurd (omega arith)
name-among (n ∷ ns) zero h = (0, omega arith, refl)
name-among (n ∷ ns) (suc i) h = Contains-cons n.0 (names_in ns) (name_at ns i) (name-among ns i (omega arith))

-- nodes of one name are one
pub same-place : (nodes : List Node) → HaveDistinctNames nodes → (i j : ℕ) → i < length nodes → j < length nodes → name_at nodes i ≡ name_at nodes j → i ≡ j
same-place [] d i j h k e = absurd (omega arith)
same-place (n ∷ ns) d zero zero h k e = refl
same-place (n ∷ ns) d zero (suc j) h k e = absurd (d.0 (subst (Contains (names_in ns)) (sym e) (name-among ns j (omega arith))))
same-place (n ∷ ns) d (suc i) zero h k e = absurd (d.0 (subst (Contains (names_in ns)) e (name-among ns i (omega arith))))
same-place (n ∷ ns) d (suc i) (suc j) h k e = ap suc (same-place ns d.1 i j (omega arith) (omega arith) e)

-- the library has the text of each node
pub library-at : (nodes : List Node) → HaveDistinctNames nodes → (i : ℕ) → i < length nodes → library_in nodes (name_at nodes i) ≡ Some (text_at nodes i)
library-at [] d i h = absurd (omega arith)
library-at (n ∷ ns) d zero h = ap (λ b. option_map (λ (x : Node). x.1) (cond b (Some n) (find (λ (x : Node). bytes_eq n.0 x.0) ns))) (names-same n.0 n.0 refl)
library-at (n ∷ ns) d (suc i) h = go (bytes_eq (name_at ns i) n.0) refl (library-at ns d.1 i (omega arith))
  where
    go : (b : Bool) → bytes_eq (name_at ns i) n.0 ≡ b → library_in ns (name_at ns i) ≡ Some (text_at ns i)
        → option_map (λ (x : Node). x.1) (cond b (Some n) (find (λ (x : Node). bytes_eq (name_at ns i) x.0) ns)) ≡ Some (text_at ns i)
    go true e rest = absurd (d.0 (subst (Contains (names_in ns)) (names-eq (name_at ns i) n.0 e) (name-among ns i (omega arith))))
    go false e rest = rest

-- what the library has is the text of a node
pub record IsPlace (nodes : List Node) (name text : List ℕ) : Type 0 where
  pub place : ℕ
  pub within : place < length nodes
  pub named : name_at nodes place ≡ name
  pub told : text_at nodes place ≡ text

pub library-found : (nodes : List Node) (name text : List ℕ) → library_in nodes name ≡ Some text → IsPlace nodes name text
library-found [] name text e = absurd cc
library-found (n ∷ ns) name text e = go (bytes_eq name n.0) refl e (library-found ns name text)
  where
    go : (b : Bool) → bytes_eq name n.0 ≡ b → option_map (λ (x : Node). x.1) (cond b (Some n) (find (λ (x : Node). bytes_eq name x.0) ns)) ≡ Some text
        → (library_in ns name ≡ Some text → IsPlace ns name text) → IsPlace (n ∷ ns) name text
    go true h f rest = record { place = 0; within = omega arith; named = sym (names-eq name n.0 h); told = cc }
    go false h f rest =
        let p = rest f in
        let within = p.within in
        record { place = suc p.place; within = omega arith; named = p.named; told = p.told }

-- a name that no node has isn't in the library
pub library-none : (nodes : List Node) (name : List ℕ) → ((i : ℕ) → i < length nodes → ¬ (name_at nodes i ≡ name)) → library_in nodes name ≡ None
library-none nodes name no' = go (library_in nodes name) refl
  where
    go : (o : Option (List ℕ)) → library_in nodes name ≡ o → library_in nodes name ≡ None
    go None e = e
    go (Some text) e = let p = library-found nodes name text e in absurd (no' p.place p.within p.named)

-- ---- imports

-- the rows say which nodes import which
abbrev pub AreImportRows : List Node → List (List Bool) → Type 0
AreImportRows nodes rows = (i j : ℕ) → i < length nodes → j < length nodes → relates rows i j ≡ true ↔ IsImportedBy (text_at nodes i) (name_at nodes j)

leads-to : (nodes : List Node) → HaveDistinctNames nodes → (i : ℕ) (other : List ℕ) → i < length nodes → IsImportedBy (text_at nodes i) other
    → LeadsTo (library_in nodes) (name_at nodes i) other
leads-to nodes d i other h b = record {
  text = text_at nodes i;
  statements = b.statements;
  is_module = record { there = library-at nodes d i h; are = b.are };
  number = b.number;
  words = b.words;
  here = b.here;
  imports = b.imports;
}

is-imported : (nodes : List Node) → HaveDistinctNames nodes → (i : ℕ) (other : List ℕ) → i < length nodes → LeadsTo (library_in nodes) (name_at nodes i) other
    → IsImportedBy (text_at nodes i) other
is-imported nodes d i other h l =
    let same = some-once (library_in nodes (name_at nodes i)) l.text (text_at nodes i) l.is_module.there (library-at nodes d i h) in
    record { statements = l.statements; are = subst (λ t. AreStatements t l.statements) same l.is_module.are; number = l.number; words = l.words; here = l.here; imports = l.imports }

leads-reaches : (nodes : List Node) (rows : List (List Bool)) → HaveDistinctNames nodes → IsSquare rows → length rows ≡ length nodes → AreImportRows nodes rows
    → (i j : ℕ) → j < length nodes → Leads rows i j → Reaches (library_in nodes) (name_at nodes i) (name_at nodes j)
leads-reaches nodes rows d square many are i j k (leads_at_once e) =
    let within = (relates-within rows i j square e).0 in
    let h : i < length nodes = omega arith in
    at_once (leads-to nodes d i (name_at nodes j) h ((are i j h k).0 e))
leads-reaches nodes rows d square many are i j k (leads_by_way_of {k = m} e l) =
    let both = relates-within rows i m square e in
    let left = both.0 in
    let right = both.1 in
    let h : i < length nodes = omega arith in
    let g : m < length nodes = omega arith in
    by_way_of (leads-to nodes d i (name_at nodes m) h ((are i m h g).0 e)) (leads-reaches nodes rows d square many are m j k l)

reaches-leads : (nodes : List Node) (rows : List (List Bool)) → HaveDistinctNames nodes → AreImportRows nodes rows
    → (a b : List ℕ) → Reaches (library_in nodes) a b → (i j : ℕ) → i < length nodes → j < length nodes → a ≡ name_at nodes i → b ≡ name_at nodes j → Leads rows i j
reaches-leads nodes rows d are a b (at_once l) i j h k e f =
    let m : LeadsTo (library_in nodes) (name_at nodes i) (name_at nodes j) =
    subst (λ x. LeadsTo (library_in nodes) x (name_at nodes j)) e (subst (λ x. LeadsTo (library_in nodes) a x) f l) in
    leads_at_once ((are i j h k).1 (is-imported nodes d i (name_at nodes j) h m))
reaches-leads nodes rows d are a b (by_way_of {next} l r) i j h k e f =
    let there = begins (library_in nodes) next b r in
    let p = library-found nodes next there.0 there.1 in
    let m : LeadsTo (library_in nodes) (name_at nodes i) (name_at nodes p.place) =
    subst (λ x. LeadsTo (library_in nodes) x (name_at nodes p.place)) e (subst (λ x. LeadsTo (library_in nodes) a x) (sym p.named) l) in
    leads_by_way_of ((are i p.place h p.within).1 (is-imported nodes d i (name_at nodes p.place) h m)) (reaches-leads nodes rows d are next b r p.place j p.within k (sym p.named) f)

pub reflects : (nodes : List Node) (rows closed : List (List Bool)) → HaveDistinctNames nodes → IsSquare rows → length rows ≡ length nodes → AreImportRows nodes rows
    → ((i j : ℕ) → relates closed i j ≡ true ↔ Leads rows i j) → Reflects nodes closed
reflects nodes rows closed d square many are chains i j h k = (
  (λ e. leads-reaches nodes rows d square many are i j k ((chains i j).0 e)),
  (λ r. (chains i j).1 (reaches-leads nodes rows d are (name_at nodes i) (name_at nodes j) r i j h k refl refl)),
)

-- ---- the row of one node

-- The first names of a list are marked in the row of the node `from`, and nothing else is; the other rows are as before.
pub record AreAdded (nodes : List Node) (names : List (List ℕ)) (from : ℕ) (before now : List (List Bool)) (many : ℕ) : Type 0 where
  pub others : (i j : ℕ) → i ≢ from → relates now i j ≡ relates before i j
  pub only : (j : ℕ) → j < length nodes → relates now from j ≡ true → Contains names (name_at nodes j)
  pub all : (k j : ℕ) → k < many → j < length nodes → slice_index_or names k [] ≡ name_at nodes j → relates now from j ≡ true

found-name : (names : List (List ℕ)) (name : List ℕ) (k : ℕ) → k < length names → name ≡ slice_index_or names k name → slice_index_or names k [] ≡ name
found-name [] name k h e = absurd (omega arith)
found-name (x ∷ xs) name zero h e = sym e
found-name (x ∷ xs) name (suc k) h e = found-name xs name k (omega arith) e

or-false : (a b : Bool) → b ≡ false → (a || b) ≡ a
or-false true b e = refl
or-false false b e = e

and-false : (a b : Bool) → a ≡ false → (a && b) ≡ false
and-false true b e = absurd (false≢true (sym e))
and-false false b e = refl

and-right : (a b : Bool) → (a && b) ≡ true → b ≡ true
and-right true b e = e
and-right false b e = absurd (false≢true e)

-- a name that is that of a node
pub added-found : (nodes : List Node) (names : List (List ℕ)) (name : List ℕ) (from to many : ℕ) (before now next : List (List Bool)) → HaveDistinctNames nodes
    → many < length names → name ≡ slice_index_or names many name → to < length nodes → name_at nodes to ≡ name
    → ((i j : ℕ) → relates next i j ≡ (relates now i j || (i == from && j == to)))
    → AreAdded nodes names from before now many → AreAdded nodes names from before next (many + 1)
added-found nodes names name from to many before now next d h is k named grown a = record {
  others = λ i j differ. grown i j ∙ or-false (relates now i j) (i == from && j == to) (and-false (i == from) (j == to) (ne_eqb i from differ)) ∙ a.others i j differ;
  only = λ j within e. elim (or-split (relates now from j) (from == from && j == to) (sym (grown from j) ∙ e)) [
    | inl f ↦ a.only j within f
    | inr f ↦ among j (eqb-true j to (and-right (from == from) (j == to) f))
  ];
  all = λ k' j g within e. grown from j ∙ marked k' j within e (at-last many k' g);
}
  where
    there : slice_index_or names many [] ≡ name
    there = found-name names name many h is

    among : (j : ℕ) → j ≡ to → Contains names (name_at nodes j)
    among j e = subst (λ n. Contains names (name_at nodes n)) (sym e) (subst (Contains names) (sym named) (many, h, sym is))

    marked : (k' j : ℕ) → j < length nodes → slice_index_or names k' [] ≡ name_at nodes j → (k' < many) ⊎ (k' ≡ many)
        → (relates now from j || (from == from && j == to)) ≡ true
    marked k' j within e (inl g) = or-left (relates now from j) (from == from && j == to) (a.all k' j g within e)
    marked k' j within e (inr g) =
        let name_j : name_at nodes j ≡ name = sym e ∙ ap (λ n. slice_index_or names n []) g ∙ there in
        let place : j ≡ to = same-place nodes d j to within k (name_j ∙ sym named) in
        or-right (relates now from j) (from == from && j == to) (and-both (from == from) (j == to) (eq-eqb from from refl) (eq-eqb j to place))

-- a name that is that of none
pub added-none : (nodes : List Node) (names : List (List ℕ)) (name : List ℕ) (from many : ℕ) (before now : List (List Bool))
    → many < length names → name ≡ slice_index_or names many name → ((i : ℕ) → i < length nodes → name_at nodes i ≢ name)
    → AreAdded nodes names from before now many → AreAdded nodes names from before now (many + 1)
added-none nodes names name from many before now h is none a = record {
  others = a.others;
  only = a.only;
  all = λ k j g within e. marked k j within e (at-last many k g);
}
  where
    marked : (k j : ℕ) → j < length nodes → slice_index_or names k [] ≡ name_at nodes j → (k < many) ⊎ (k ≡ many) → relates now from j ≡ true
    marked k j within e (inl g) = a.all k j g within e
    marked k j within e (inr g) = absurd (none j within (sym e ∙ ap (λ n. slice_index_or names n []) g ∙ found-name names name many h is))

contains-place : (names : List (List ℕ)) (name : List ℕ) → Contains names name → (k : ℕ) × (k < length names) × (slice_index_or names k [] ≡ name)
contains-place names name c = (c.0, c.1, found-name names name c.0 c.1 (sym c.2))

-- all names
pub added-all : (nodes : List Node) (names : List (List ℕ)) (from many : ℕ) (before now : List (List Bool)) → length names ≤ many
    → AreAdded nodes names from before now many → (j : ℕ) → j < length nodes → relates now from j ≡ true ↔ Contains names (name_at nodes j)
added-all nodes names from many before now h a j within = (
  a.only j within,
  (λ c. let p = contains-place names (name_at nodes j) c in let g = p.1 in a.all p.0 j (omega arith) within p.2),
)

-- at the start the row has none
pub added-start : (nodes : List Node) (names : List (List ℕ)) (from : ℕ) (before : List (List Bool)) → ((j : ℕ) → relates before from j ≡ false)
    → AreAdded nodes names from before before 0
added-start nodes names from before none = record {
  others = λ i j differ. refl;
  only = λ j within e. absurd (false≢true (sym (none j) ∙ e));
  all = λ k j g within e. absurd (omega arith);
}

-- ---- the rows of all nodes

pub at-place : (nodes : List Node) (node : Node) (i : ℕ) → i < length nodes → node ≡ slice_index_or nodes i node → node_at nodes i ≡ node
at-place [] node i h e = absurd (omega arith)
at-place (n ∷ ns) node zero h e = sym e
at-place (n ∷ ns) node (suc i) h e = at-place ns node i (omega arith) e

-- the rows of the first nodes say which they import, and the others have none
pub record AreFirstRows (nodes : List Node) (rows : List (List Bool)) (many : ℕ) : Type 0 where
  pub imports : (i j : ℕ) → i < many → j < length nodes → relates rows i j ≡ true ↔ IsImportedBy (text_at nodes i) (name_at nodes j)
  pub behind : (i j : ℕ) → many ≤ i → relates rows i j ≡ false

pub rows-next : (nodes : List Node) (text : List ℕ) (names : List (List ℕ)) (from : ℕ) (now next : List (List Bool)) → text_at nodes from ≡ text → AreImports text names
    → ((i j : ℕ) → i ≢ from → relates next i j ≡ relates now i j)
    → ((j : ℕ) → j < length nodes → relates next from j ≡ true ↔ Contains names (name_at nodes j))
    → AreFirstRows nodes now from → AreFirstRows nodes next (from + 1)
rows-next nodes text names from now next is imports others row first = record {
  imports = λ i j h k. go i j k (at-last from i h);
  behind = λ i j h. others i j (λ e. omega arith) ∙ first.behind i j (omega arith);
}
  where
    go : (i j : ℕ) → j < length nodes → (i < from) ⊎ (i ≡ from) → relates next i j ≡ true ↔ IsImportedBy (text_at nodes i) (name_at nodes j)
    go i j k (inl h) =
        let same = others i j (λ e. omega arith) in
        ((λ e. (first.imports i j h k).0 (sym same ∙ e)), (λ b. same ∙ (first.imports i j h k).1 b))
    go i j k (inr h) =
        subst (λ n. relates next n j ≡ true ↔ IsImportedBy (text_at nodes n) (name_at nodes j)) (sym h) (
          (λ e. subst (λ t. IsImportedBy t (name_at nodes j)) (sym is) (imports.only (name_at nodes j) ((row j k).0 e))),
          (λ b. (row j k).1 (imports.all (name_at nodes j) (subst (λ t. IsImportedBy t (name_at nodes j)) is b))),
        )
