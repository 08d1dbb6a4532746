-- What a statement stands for, by its keyword and its terms.
use Rattle.std.proofs.Common.{◌≡◌, ℕ, zero, suc, ◌-◌, ◌<◌, ◌≤◌, List, [], ◌∷◌, ◌++◌, length, get_or, slice_get, Option, None, Some, IfSome, refl, sym, ap, subst, ◌∙◌, Bool, true, false, ◌&&◌, true≢false, is_some, cond, arith, All, Result, Ok, Err, OnOk, IsTrue}
use Rattle.std.specs.Option.{option_map}
use Rattle.std.proofs.lemmas.List.Elements.{All-nil}
use Rattle.std.proofs.lemmas.List.{length-replicate}
use Rattle.chyp_base.specs.declared.verdict.Verdict.{Verdict}
use Rattle.chyp_base.specs.declared.verdict.Verdict.TheVariants.{Accepted, Proved}
use Rattle.chyp_base.specs.Sort.{plain}
use Rattle.chyp_lex.specs.declared.token.TokenKind.{TokenKind}
use Rattle.chyp_lex.specs.declared.token.TokenKind.TheVariants.{WordGen, WordRewrite}
use Rattle.chyp_syntax.specs.Heading.{declares, is_identifier, declared_name}
use Rattle.chyp_syntax.specs.Sentence.{IsSentence}
use Rattle.chyp_syntax.specs.Statement.{StatementTree, generator as a_gen, abbreviation, rule, rewrite, inclusion, showing}
use Rattle.chyp_term.specs.Derivation.{empty, IsEquation}
use Rattle.chyp_term.specs.Morphism.{Morphism}
use Rattle.chyp_env.specs.Environment.{Sense, Binding, binding_of, is_bound}
use Rattle.chyp_env.specs.Expansion.{plain_wires}
use Rattle.chyp_term.specs.Limits.{most_ports}
use Rattle.chyp_env.specs.Import.{all_passed_on, new_in}
use Rattle.chyp_env.specs.Site.{Imported, there, Site}
use Rattle.chyp_syntax.specs.Words.{Word, bytes_at, keyword_in}
use Rattle.chyp_env.specs.Sound.{IsSoundSense}
use Rattle.chyp_names.specs.declared.body.Body.{Body}
use Rattle.chyp_names.specs.Binding.{Binds, TakesIn, anew, imports, IsRewrite, StandsFor, a_declared_generator, a_term, a_rule, a_proved_rewrite, an_unproved_rewrite, a_broken_statement, Elaborates, IsOutcome}
use Rattle.chyp_names.specs.Elaboration.{terms_of, Passes}
use Rattle.chyp_names.specs.Outcome.{terms_in, refused_sense, sense_for, HasTermsFor}
use Rattle.chyp_names.specs.Typing.{AreTypedAlike}
use Rattle.chyp_names.proofs.Made.{keyword_for, sentence_keyword}

-- with these terms, the statement stands for the sense of its keyword, which is sound
pub record IsFit (site : Site) (verdict : Verdict) (keyword : Option TokenKind) (terms : List Morphism) : Type 0 where
  pub has : HasTermsFor keyword terms verdict
  pub stands : StandsFor site verdict (sense_for keyword terms verdict)
  pub sound : AreTypedAlike terms → IsSoundSense (sense_for keyword terms verdict)

get-there : (xs : List Morphism) (i : ℕ) (d : Morphism) → i < length xs → slice_get xs i ≡ Some (get_or xs i d)
get-there [] i d within = absurd (omega arith)
get-there (x ∷ xs) zero d within = refl
get-there (x ∷ xs) (suc i) d within = get-there xs i d (omega arith)

abbrev is_gen_word : Option TokenKind → Bool
is_gen_word (Some WordGen) = true
is_gen_word _ = false

few : (n : ℕ) → n ≤ most_ports → length (plain_wires n) ≤ most_ports
few n h = subst (λ k. k ≤ most_ports) (sym (length-replicate n plain)) h

accepted_fit : (site : Site) (tree : StatementTree) → declares (keyword_for tree) ≡ true → (keyword_for tree ≡ WordRewrite → ⊥) → IsSentence site.scope.words tree → Passes site tree
    → IsFit site Accepted (Some (keyword_for tree)) (terms_of site tree)
accepted_fit site (a_gen name dom cod) declares other s p = record {
  has = (omega arith, λ _. tt);
  stands = a_declared_generator s refl;
  sound = λ alike. (few dom p.small.ports.0, few cod p.small.ports.1);
}
accepted_fit site (abbreviation name tree) declares other s p = record {
  has = (omega arith, λ e. absurd (true≢false (sym (ap is_gen_word e))));
  stands = a_term s refl;
  sound = λ alike. ((alike 0 empty (omega arith) 0 empty (omega arith)).left, p.small.each 0 empty (omega arith));
}
accepted_fit site (rule name left equals right) declares other s p = record {
  has = (omega arith, λ e. absurd (true≢false (sym (ap is_gen_word e))));
  stands = a_rule s refl;
  sound = λ alike. (alike 0 empty (omega arith) 1 empty (omega arith), p.small.each 0 empty (omega arith), p.small.each 1 empty (omega arith));
}
accepted_fit site (rewrite name first steps) declares other s p = absurd (other refl)
accepted_fit site (inclusion imported prefix) declares other s p = absurd (true≢false (sym declares))
accepted_fit site (showing name) declares other s p = absurd (true≢false (sym declares))

abbrev is_rewrite_word : TokenKind → Bool
is_rewrite_word WordRewrite = true
is_rewrite_word _ = false

proved_fit : (site : Site) (tree : StatementTree) → keyword_for tree ≡ WordRewrite → IsSentence site.scope.words tree → Passes site tree
    → IsFit site Proved (Some (keyword_for tree)) (terms_of site tree)
proved_fit site (rewrite name first steps) k s p =
    let terms : List Morphism = terms_of site (rewrite name first steps) in
    let last : length terms - 1 < length terms = omega arith in
    let some : 0 < length terms = omega arith in
    record {
      has = some;
      stands = a_proved_rewrite s refl (get-there terms (length terms - 1) empty last);
      sound = λ alike. (alike 0 empty some (length terms - 1) empty last, p.small.each 0 empty some, p.small.each (length terms - 1) empty last);
    }
proved_fit site (a_gen name dom cod) k s p = absurd (true≢false (sym (ap is_rewrite_word k)))
proved_fit site (abbreviation name tree) k s p = absurd (true≢false (sym (ap is_rewrite_word k)))
proved_fit site (rule name left equals right) k s p = absurd (true≢false (sym (ap is_rewrite_word k)))
proved_fit site (inclusion imported prefix) k s p = absurd (true≢false (sym (ap is_rewrite_word k)))
proved_fit site (showing name) k s p = absurd (true≢false (sym (ap is_rewrite_word k)))

-- what a statement stands for that is neither accepted nor proved
refused_stands : (home : List ℕ) (env : List Binding) (imported : Imported) (first : Word) (rest : List Word) (verdict : Verdict) → (verdict ≡ Accepted → ⊥) → (verdict ≡ Proved → ⊥)
    → StandsFor (record { scope = record { words = first ∷ rest; env = env }; home = home; imported = imported }) verdict (refused_sense (Some first.kind))
refused_stands home env imported first rest verdict accepted proved = go first.kind refl
  where
    go : (kind : TokenKind) → first.kind ≡ kind
        → StandsFor (record { scope = record { words = first ∷ rest; env = env }; home = home; imported = imported }) verdict (refused_sense (Some kind))
    go WordRewrite e = an_unproved_rewrite e proved
    go _ e = a_broken_statement (λ r. true≢false (sym (ap is_rewrite_word r) ∙ ap is_rewrite_word e)) accepted

both_first : (a b : Bool) → a && b ≡ true → a ≡ true
both_first true b e = refl
both_first false b e = absurd (true≢false (sym e))

-- a statement that declares a name begins with a keyword that does
abbrev Declares : List Word → Type 0
Declares [] = ⊥
Declares (first ∷ rest) = declares first.kind ≡ true

declares_there : (words : List Word) (name : List ℕ) → declared_name words ≡ Some name → Declares words
declares_there [] name e = absurd (true≢false (sym (ap is_some e)))
declares_there (first ∷ []) name e = absurd (true≢false (sym (ap is_some e)))
declares_there (first ∷ second ∷ rest) name e = both_first (declares first.kind) (is_identifier second.kind) (tell (declares first.kind && is_identifier second.kind) e)
  where
    tell : (b : Bool) → cond b (Some second.bytes) None ≡ Some name → b ≡ true
    tell true e = refl
    tell false e = absurd (true≢false (sym (ap is_some e)))

module _ (home : List ℕ) (env : List Binding) (imported : Imported) where
  abbrev pub site_at : List Word → Site
  site_at words = record { scope = record { words = words; env = env }; home = home; imported = imported }

  accepted_body : (words : List Word) (body : Body) → Declares words → ¬ IsRewrite words → Elaborates (site_at words) body
      → IsFit (site_at words) Accepted (keyword_in words) body.terms
  accepted_body [] body d other e = absurd d
  accepted_body (first ∷ rest) body d other e =
      let kind = sentence_keyword first rest e.tree e.is_sentence in
      subst (IsFit (site_at (first ∷ rest)) Accepted (keyword_in (first ∷ rest))) (sym e.is_body.terms)
      (subst (λ k. IsFit (site_at (first ∷ rest)) Accepted (Some k) (terms_of (site_at (first ∷ rest)) e.tree)) (sym kind)
      (accepted_fit (site_at (first ∷ rest)) e.tree (ap declares (sym kind) ∙ d) (λ r. other (kind ∙ r)) e.is_sentence e.passes))

  proved_body : (words : List Word) (body : Body) → IsRewrite words → Elaborates (site_at words) body → IsFit (site_at words) Proved (keyword_in words) body.terms
  proved_body [] body r e = absurd r
  proved_body (first ∷ rest) body r e =
      let kind = sentence_keyword first rest e.tree e.is_sentence in
      subst (IsFit (site_at (first ∷ rest)) Proved (keyword_in (first ∷ rest))) (sym e.is_body.terms)
      (subst (λ k. IsFit (site_at (first ∷ rest)) Proved (Some k) (terms_of (site_at (first ∷ rest)) e.tree)) (sym kind)
      (proved_fit (site_at (first ∷ rest)) e.tree (sym kind ∙ r) e.is_sentence e.passes))

  refused_fit : (words : List Word) (verdict : Verdict) → Declares words → (verdict ≡ Accepted → ⊥) → (verdict ≡ Proved → ⊥) → StandsFor (site_at words) verdict (refused_sense (keyword_in words))
  refused_fit [] verdict d accepted proved = absurd d
  refused_fit (first ∷ rest) verdict d accepted proved = refused_stands home env imported first rest verdict accepted proved

  abbrev is_accepted : Verdict → Bool
  is_accepted Accepted = true
  is_accepted _ = false

  abbrev is_proved : Verdict → Bool
  is_proved Proved = true
  is_proved _ = false

  refused_sound : (keyword : Option TokenKind) → IsSoundSense (refused_sense keyword)
  refused_sound None = tt
  refused_sound (Some WordRewrite) = tt
  refused_sound (Some _) = tt

  -- the outcome of a statement that declares a name says what it stands for
  pub outcome_fit : (words : List Word) (body : Option Body) (verdict : Verdict) (name : List ℕ) → IsOutcome (site_at words) body verdict → declared_name words ≡ Some name
      → IsFit (site_at words) verdict (keyword_in words) (terms_in body)
  outcome_fit words None Accepted name o declared = absurd (true≢false (sym (o.accepted refl).0))
  outcome_fit words (Some body) Accepted name o declared = accepted_body words body (declares_there words name declared) (o.accepted refl).1 o.elaborates
  outcome_fit words None Proved name o declared = absurd (true≢false (sym (o.proved refl).0))
  outcome_fit words (Some body) Proved name o declared = proved_body words body (o.proved refl).1 o.elaborates
  outcome_fit words body verdict name o declared = record {
    has = tt;
    stands = refused_fit words verdict (declares_there words name declared) (λ e. true≢false (sym (ap is_accepted e))) (λ e. true≢false (sym (ap is_proved e)));
    sound = λ alike. refused_sound (keyword_in words);
  }

-- the terms of a body that are typed alike, where there is a body
pub terms_alike : (body : Option Body) → IfSome body (λ b. AreTypedAlike b.terms) → AreTypedAlike (terms_in body)
terms_alike None h = All-nil (λ s. All (λ t. IsEquation s t) [])
terms_alike (Some body) h = h

-- a name that a look-up finds is bound
pub found_bound : (env : List Binding) (name : List ℕ) (entry : Binding) → binding_of env name ≡ Some entry → IsTrue (is_bound env name)
found_bound env name entry h = ap is_some h

-- what an outcome with this body says of a sense that is that of its terms
module _ (home : List ℕ) (words : List Word) (env : List Binding) (imported : Imported) (body : Option Body) (verdict : Verdict) (name : List ℕ)
    (outcome : IsOutcome (site_at home env imported words) body verdict) (declared : declared_name words ≡ Some name) where
  abbrev fit : IsFit (site_at home env imported words) verdict (keyword_in words) (terms_in body)
  fit = outcome_fit home env imported words body verdict name outcome declared

  -- terms are there for it
  pub has_terms : (keyword : Option TokenKind) (terms : List Morphism) → keyword ≡ keyword_in words → terms ≡ terms_in body → HasTermsFor keyword terms verdict
  has_terms keyword terms k t = rw (k, t) fit.has

  -- it is sound
  pub sense_sound : (sense : Sense) (keyword : Option TokenKind) (terms : List Morphism) → keyword ≡ keyword_in words → terms ≡ terms_in body
      → sense ≡ sense_for keyword terms verdict → IfSome body (λ b. AreTypedAlike b.terms) → IsSoundSense sense
  sense_sound sense keyword terms k t same typed = rw (same, k, t) (fit.sound (terms_alike body typed))

  -- the name of the statement is bound to it
  pub sense_binds : {T E : Type 0} (number : ℕ) (sense : Sense) (keyword : Option TokenKind) (terms : List Morphism) (new : List Binding) (result : Result T E) → keyword ≡ keyword_in words
      → terms ≡ terms_in body → sense ≡ sense_for keyword terms verdict → is_bound env name ≡ false
      → OnOk result (new ≡ env ++ record { name = name; origin = record { home = home; number = number }; sense = sense } ∷ [])
      → OnOk result (Binds (site_at home env imported words) number verdict new)
  sense_binds number sense keyword terms new (Ok x) k t same free is = rw (is, same, k, t) (anew declared free fit.stands)
  sense_binds number sense keyword terms new (Err e) k t same free is = tt

-- only what is accepted takes in
pub takes_accepted : (imported : Imported) (verdict : Verdict) → TakesIn imported verdict → verdict ≡ Accepted
takes_accepted (there env) Accepted takes = refl
takes_accepted _ _ takes = absurd takes

-- an import binds what is new of the module, behind its prefix
pub import_binds : {T E : Type 0} (words : List Word) (env bs new : List Binding) (word : ℕ) (as_word token : Option ℕ) (prefix : Option (List ℕ)) (result : Result T E)
    → IsSentence words (inclusion word as_word) → token ≡ as_word → prefix ≡ option_map (bytes_at words) token
    → OnOk result (new ≡ env ++ new_in env (all_passed_on prefix bs)) → (home : List ℕ) (imported : Imported) (number : ℕ) → imported ≡ there bs
    → OnOk result (Binds (record { scope = record { words = words; env = env }; home = home; imported = imported }) number Accepted new)
import_binds words env bs new word as_word token prefix (Err x) s t p is home imported number from = tt
import_binds words env bs new word as_word token prefix (Ok x) s t p is home imported number from =
    let whole = is ∙ ap (λ q. env ++ new_in env (all_passed_on q bs)) (p ∙ ap (option_map (bytes_at words)) t) in
    subst (Binds (record { scope = record { words = words; env = env }; home = home; imported = imported }) number Accepted) (sym whole)
    (imports {word = word} {as_word = as_word} refl s from)
