-- What names stand for stays sound.
use Rattle.std.proofs.Common.{◌≡◌, ℕ, List, [], ◌∷◌, Some, subst}
use Rattle.std.proofs.lemmas.List.Elements.{All-append, All-cons, All-nil}
use Rattle.chyp_base.specs.declared.verdict.Verdict.{Verdict}
use Rattle.chyp_syntax.specs.Heading.{declared_name}
use Rattle.chyp_env.specs.Environment.{Sense, Binding}
use Rattle.chyp_env.specs.Site.{Imported, there, Site}
use Rattle.chyp_env.specs.Sound.{IsSound, IsSoundSense}
use Rattle.chyp_names.specs.Binding.{Binds, nothing, again, anew, imports, StandsFor}
use Rattle.chyp_names.specs.Elaboration.{prefix_at}
use Rattle.chyp_verdicts.specs.Judged.{IsJudged}
use Rattle.chyp_env.proofs.Bindings.{distinct-import, import-all}
use Rattle.chyp_verdicts.proofs.Known.{Known}
use Rattle.chyp_verdicts.proofs.OneBinding.{stands-once}
use Rattle.chyp_verdicts.proofs.SomeBinding.{some-sense}

-- what a name stands for is sound
pub sense-sound : Known → (s : Site) → IsSound s.scope.env → (v : Verdict) (name : List ℕ) → declared_name s.scope.words ≡ Some name → IsJudged s v → (sense : Sense)
    → StandsFor s v sense → IsSoundSense sense
sense-sound known s env v name e j sense st =
    let some = some-sense known.typed s env v name e j in
    subst IsSoundSense (stands-once known.trees s v some.sense sense some.stands st) some.sound

-- what is imported is sound
abbrev pub IsSoundImport : Imported → Type 0
IsSoundImport (there env) = IsSound env
IsSoundImport _ = Unit {0}

-- so is what names stand for behind a statement
pub binds-sound : Known → (s : Site) (n : ℕ) (v : Verdict) (next : List Binding) → IsSound s.scope.env → IsSoundImport s.imported → IsJudged s v → Binds s n v next → IsSound next
binds-sound known s n v next h k j (nothing e o) = h
binds-sound known s n v next h k j (again e f) = h
binds-sound known s n v next h k j (anew {name} {sense} e f st) =
    let b : Binding = record { name = name; origin = record { home = s.home; number = n }; sense = sense } in
    record {
      each = All-append (λ (c : Binding). IsSoundSense c.sense) s.scope.env (b ∷ []) h.each
          (All-cons (λ (c : Binding). IsSoundSense c.sense) b [] (sense-sound known s h v name e j sense st) (All-nil _));
      distinct = known.names s.scope.env b h.distinct f;
    }
binds-sound known s n v next h k j (imports {as_word} {env} f t i) =
    let sound : IsSound env = subst IsSoundImport i k in
    record {
      each = import-all (λ (c : Binding). IsSoundSense c.sense) s.scope.env env (prefix_at s.scope as_word) (λ b x. x) h.each sound.each;
      distinct = distinct-import s.scope.env env (prefix_at s.scope as_word) h.distinct sound.distinct;
    }
