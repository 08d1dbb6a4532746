-- No statement stands at two sites, and no module makes two environments.
use Rattle.std.proofs.Common.{◌≡◌, ℕ, List, length, Option, slice_get, refl, sym, ◌∙◌, ap, ap₂, subst}
use Rattle.chyp_syntax.specs.Chunk.{AreChunks}
use Rattle.chyp_syntax.specs.Statement.{inclusion}
use Rattle.chyp_syntax.specs.Words.{Word, bytes_at}
use Rattle.chyp_env.specs.Environment.{Sense, Binding, Origin}
use Rattle.chyp_env.specs.Site.{Imported, there, Site}
use Rattle.chyp_names.specs.Binding.{Binds, StandsFor}
use Rattle.chyp_verdicts.specs.Texts.{statements_of}
use Rattle.chyp_verdicts.proofs.OneVerdict.{judged-once, none-some, some-once}
use Rattle.chyp_verdicts.proofs.OneBinding.{binds-once, stands-once}
use Rattle.chyp_modules.specs.Library.{Library, AreStatements, IsModule}
use Rattle.chyp_modules.specs.Import.{Imports, ImportsNothing, Reaches}
use Rattle.chyp_verdicts.specs.Judged.{IsJudged}
use Rattle.chyp_verdicts.specs.Standing.{Means}
use Rattle.chyp_modules.specs.Modules.{Makes, at_start, one_more, Stands, stands, Finds, no_import, of_none, of_cycle, of_module as found, standing}
use Rattle.chyp_verdicts.proofs.Known.{Known}

-- ---- texts

pub statements-unique : Known → (text : List ℕ) (ss rs : List (List Word)) → AreStatements text ss → AreStatements text rs → ss ≡ rs
statements-unique known text ss rs a b =
    let tokens : a.tokens ≡ b.tokens = (known.tokens text).unique a.tokens b.tokens a.are_tokens b.are_tokens in
    let one = known.chunks a.tokens in
    let chunks : b.chunks ≡ a.chunks = one.2 b.chunks (subst (λ t. AreChunks t b.chunks) (sym tokens) b.are_chunks) ∙ sym (one.2 a.chunks a.are_chunks) in
    a.each ∙ ap₂ (statements_of text) tokens (sym chunks) ∙ sym b.each

pub module-unique : Known → (library : Library) (name text other : List ℕ) (ss rs : List (List Word)) → IsModule library name text ss → IsModule library name other rs → (text ≡ other) × (ss ≡ rs)
module-unique known library name text other ss rs m n =
    let texts = some-once (library name) text other m.there n.there in
    (texts, statements-unique known text ss rs m.are (subst (λ t. AreStatements t rs) (sym texts) n.are))

-- an import names one module
pub inclusion-word : (word w : ℕ) (as_word a : Option ℕ) → inclusion word as_word ≡ inclusion w a → word ≡ w
inclusion-word word w as_word a e = cc

pub imports-unique : Known → (tokens : List Word) (name other : List ℕ) → Imports tokens name → Imports tokens other → name ≡ other
imports-unique known tokens name other i j =
    let words = inclusion-word i.word j.word i.as_word j.as_word (known.trees tokens (inclusion i.word i.as_word) (inclusion j.word j.as_word) i.is_sentence j.is_sentence) in
    sym i.named ∙ ap (bytes_at tokens) words ∙ j.named

pub imports-not-nothing : (tokens : List Word) (name : List ℕ) → ImportsNothing tokens → Imports tokens name → ⊥
imports-not-nothing tokens name none i = none i.word i.as_word i.is_sentence

-- ---- environments

site-same : (s t : Site) → s.home ≡ t.home → s.scope.env ≡ t.scope.env → s.scope.words ≡ t.scope.words → s.imported ≡ t.imported → s ≡ t
site-same s t h e k i =
    ap (λ (a : List ℕ). record { scope = s.scope; home = a; imported = s.imported }) h
    ∙ ap (λ (a : List Binding). record { scope = record { words = s.scope.words; env = a }; home = t.home; imported = s.imported }) e
    ∙ ap (λ (a : List Word). record { scope = record { words = a; env = t.scope.env }; home = t.home; imported = s.imported }) k
    ∙ ap (λ (a : Imported). record { scope = t.scope; home = t.home; imported = a }) i

mutual
  -- no module makes two environments
  pub makes-unique : (library : Library) → Known → (name : List ℕ) (number : ℕ) (a b : List Binding) → Makes library name number a
      → Makes library name number b → a ≡ b
  makes-unique library known name number a b (at_start m) (at_start n) = refl
  makes-unique library known name number a b (one_more {number = k} {site = s} {verdict = v} st j x) (one_more {site = t} {verdict = w} other h y) =
      let same = stands-unique library known name k s t st other in
      let verdicts : v ≡ w = judged-once known s v w j (subst (λ p. IsJudged p w) (sym same) h) in
      binds-once known.trees s k v a b x (subst (λ u. Binds s k u b) (sym verdicts) (subst (λ p. Binds p k w b) (sym same) y))

  -- no statement stands at two sites
  pub stands-unique : (library : Library) → Known → (name : List ℕ) (number : ℕ) (s t : Site) → Stands library name number s → Stands library name number t
      → s ≡ t
  stands-unique library known name number s t (stands {text} {statements = ss} h m e k f) (stands {text = other} {statements = rs} g n d l o) =
      let modules = module-unique known library name text other ss rs m n in
      let tokens = some-once (slice_get ss number) s.scope.words t.scope.words e (ap (λ x. slice_get x number) modules.1 ∙ d) in
      let envs = makes-unique library known name number s.scope.env t.scope.env k l in
      let o' : Finds library s.scope.words t.imported = subst (λ x. Finds library x t.imported) (sym tokens) o in
      let imports = finds-unique library known s.scope.words s.imported t.imported f o' in
      site-same s t (h ∙ sym g) envs tokens imports

  -- no statement imports two things
  pub finds-unique : (library : Library) → Known → (tokens : List Word) (i j : Imported) → Finds library tokens i
      → Finds library tokens j → i ≡ j
  finds-unique library known tokens i j (no_import n) (no_import m) = refl
  finds-unique library known tokens i j (no_import n) (of_none {name} m e) = absurd (imports-not-nothing tokens name n m)
  finds-unique library known tokens i j (no_import n) (of_cycle {name} m e r) = absurd (imports-not-nothing tokens name n m)
  finds-unique library known tokens i j (no_import n) (found {name} m e r k) = absurd (imports-not-nothing tokens name n m)
  finds-unique library known tokens i j (of_none {name} m e) (no_import n) = absurd (imports-not-nothing tokens name n m)
  finds-unique library known tokens i j (of_none m e) (of_none n f) = refl
  finds-unique library known tokens i j (of_none {name} m e) (of_cycle {name = other} {whole} n f r) =
      absurd (none-some _ whole (ap library (sym (imports-unique known tokens name other m n)) ∙ e) f)
  finds-unique library known tokens i j (of_none {name} m e) (found {name = other} {whole} n f r k) =
      absurd (none-some _ whole (ap library (sym (imports-unique known tokens name other m n)) ∙ e) f.there)
  finds-unique library known tokens i j (of_cycle {name} m e r) (no_import n) = absurd (imports-not-nothing tokens name n m)
  finds-unique library known tokens i j (of_cycle {name = other} {whole} n f r) (of_none {name} m e) =
      absurd (none-some _ whole (ap library (sym (imports-unique known tokens name other m n)) ∙ e) f)
  finds-unique library known tokens i j (of_cycle m e r) (of_cycle n f q) = refl
  finds-unique library known tokens i j (of_cycle {name} m e r) (found {name = other} n f q k) =
      absurd (q (subst (λ x. Reaches library x x) (imports-unique known tokens name other m n) r))
  finds-unique library known tokens i j (found {name} m f r k) (no_import n) = absurd (imports-not-nothing tokens name n m)
  finds-unique library known tokens i j (found {name = other} {whole} n f r k) (of_none {name} m e) =
      absurd (none-some _ whole (ap library (sym (imports-unique known tokens name other m n)) ∙ e) f.there)
  finds-unique library known tokens i j (found {name = other} n f q k) (of_cycle {name} m e r) =
      absurd (q (subst (λ x. Reaches library x x) (imports-unique known tokens name other m n) r))
  finds-unique library known tokens i j (found {name} {whole} {statements} {env} m f r k) (found {name = other} {whole = w} {statements = rs} {env = e} n g q l) =
      let names = (imports-unique known tokens name other m n) in
      let modules = module-unique known library name whole w statements rs f (subst (λ x. IsModule library x w rs) (sym names) g) in
      let l' : Makes library name (length statements) e = subst (λ x. Makes library name x e) (ap length (sym modules.1)) (subst (λ x. Makes library x (length rs) e) (sym names) l) in
      ap there (makes-unique library known name (length statements) env e k l')

-- what a statement stands for is determined by its origin
pub means-unique : (library : Library) → Known → (origin : Origin) (a b : Sense) → Means (standing library) origin a → Means (standing library) origin b → a ≡ b
means-unique library known origin a b m n =
    let same = stands-unique library known origin.home origin.number m.site n.site m.stands n.stands in
    let judged = subst (λ p. IsJudged p n.verdict) (sym same) n.judged in
    let verdicts = judged-once known m.site m.verdict n.verdict m.judged judged in
    let stands_for = subst (λ v. StandsFor m.site v b) (sym verdicts) (subst (λ p. StandsFor p n.verdict b) (sym same) n.stands_for) in
    stands-once known.trees m.site m.verdict a b m.stands_for stands_for
