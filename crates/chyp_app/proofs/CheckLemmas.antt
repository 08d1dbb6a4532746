-- Answers of a check.
use Rattle.std.proofs.Common.{◌≡◌, ℕ, ◌+◌, ◌<◌, ◌≤◌, List, [], All, length, Option, Some, None, IfSome, inr, refl, sym, ◌∙◌, ap, subst, arith, append-nil, length-append}
use Rattle.std.specs.Io.KnownBytes.{Consumes}
use Rattle.std.proofs.lemmas.List.{length-map}
use Rattle.std.proofs.lemmas.List.Elements.{All-weaker}
use Rattle.chyp_base.specs.Library.{Texts}
use Rattle.chyp_base.specs.declared.status.Status.{Status}
use Rattle.chyp_base.specs.declared.verdict.Verdict.{Verdict}
use Rattle.chyp_lex.specs.declared.token.Token.{Token}
use Rattle.chyp_lex.specs.Tokens.{AreTokens, HasOneTokenList, text_limit}
use Rattle.chyp_syntax.specs.declared.chunk.Chunk.{Chunk}
use Rattle.chyp_syntax.specs.Chunk.{AreChunks, HasOneListOfChunks}
use Rattle.chyp_verdicts.specs.Texts.{statement_of}
use Rattle.chyp_modules.specs.Checking.{Gives as Results, HasChecks, HasOneResult, Result as Outcome, too_long as too_long', checked as checked'}
use Rattle.chyp_modules.specs.Library.{AreStatements, Library, Module, library_of, with_main}
use Rattle.chyp_modules.specs.Modules.{AreVerdicts}
use Rattle.chyp_modules.proofs.Agreeing.{AgreeFrom, agree-back, agree-main, checks-agree, listed-agrees, verdicts-agree}
use Rattle.chyp_load.specs.Loading.{IsRead, ListsAll}
use Rattle.chyp_app.specs.Output.{CountsStatements, IsCheck, Output, checked, nothing_but}
use Rattle.chyp_app.specs.Reported.{IsReport}
use Rattle.chyp_app.specs.Headline.{BeginsToCheck, Begins, EndsSo, EndsWell, Gives, IsReached}
use Rattle.chyp_app.proofs.OutputLemmas.{settled}

-- ---- what is told

pub told : {A : Type 0} {P : A → Type 0} (o : Option A) → ((x : A) → o ≡ Some x → P x) → IfSome o P
told None f = tt
told (Some x) f = f x refl

pub told-two : {A B : Type 0} {P : A → B → Type 0} (o : Option A) (q : Option B) → ((x : A) (y : B) → o ≡ Some x → q ≡ Some y → P x y) → IfSome o (λ x. IfSome q (λ y. P x y))
told-two None q f = tt
told-two (Some x) None f = tt
told-two (Some x) (Some y) f = f x y refl refl

pub told-three : {A B C : Type 0} {P : A → B → C → Type 0} (o : Option A) (q : Option B) (r : Option C)
    → ((x : A) (y : B) (z : C) → o ≡ Some x → q ≡ Some y → r ≡ Some z → P x y z) → IfSome o (λ x. IfSome q (λ y. IfSome r (λ z. P x y z)))
told-three None q r f = tt
told-three (Some x) None r f = tt
told-three (Some x) (Some y) None f = tt
told-three (Some x) (Some y) (Some z) f = f x y z refl refl refl

pub use-told : {A : Type 0} (P : A → Type 0) (o : Option A) (x : A) → o ≡ Some x → IfSome o P → P x
use-told P None x e p = absurd cc
use-told P (Some y) x e p = let same : y ≡ x = cc in subst P same p

pub use-two : {A B : Type 0} (P : A → B → Type 0) (o : Option A) (q : Option B) (x : A) (y : B) → o ≡ Some x → q ≡ Some y → IfSome o (λ a. IfSome q (λ b. P a b)) → P x y
use-two P o q x y e f p = use-told (P x) q y f (use-told (λ a. IfSome q (λ b. P a b)) o x e p)

pub use-three : {A B C : Type 0} (P : A → B → C → Type 0) (o : Option A) (q : Option B) (r : Option C) (x : A) (y : B) (z : C) → o ≡ Some x → q ≡ Some y → r ≡ Some z
    → IfSome o (λ a. IfSome q (λ b. IfSome r (λ c. P a b c))) → P x y z
use-three P o q r x y z e f g p = use-two (P x) q r y z f g (use-told (λ a. IfSome q (λ b. IfSome r (λ c. P a b c))) o x e p)

-- ---- what was read

-- what was given is no longer than what was left
pub long_text : (left left_now : Option (List ℕ)) (given bytes : List ℕ) → Consumes left left_now given → left ≡ Some bytes → text_limit < length given → text_limit < length bytes
long_text None now given bytes c e long = absurd cc
long_text (Some text) None given bytes c e long = absurd c
long_text (Some text) (Some rest) given bytes c e long =
    let same : text ≡ bytes = cc in let n = ap length same in let f = ap length c in let l = length-append given rest in omega arith

-- ---- what is given

-- nothing was counted of what is to be given
pub counts_none : (IsGiven : Output → Type 0) (steps steps_now : ℕ) → steps_now ≡ steps → (output : Output) × IsGiven output → BeginsToCheck IsGiven steps steps_now
counts_none IsGiven steps steps_now same o = record { output = o.0; is_given = o.1; holds = record { rises = omega arith; counts = omega arith } }

-- where nothing was written, what was counted begins the output
pub begins_counted : (IsGiven : Output → Type 0) (held : List ℕ) (held_now : Option (List ℕ)) (steps steps_now : ℕ) → held_now ≡ Some held → BeginsToCheck IsGiven steps steps_now
    → Begins IsGiven held held_now steps steps_now
begins_counted IsGiven held held_now steps steps_now same b =
    record { output = b.output; is_given = b.is_given; holds = (record { written = 0; writes = same ∙ ap Some (sym (append-nil held)) }, b.holds) }

-- nothing was written or counted of what is to be given
pub begins_none : (IsGiven : Output → Type 0) (held : List ℕ) (held_now : Option (List ℕ)) (steps steps_now : ℕ) → held_now ≡ Some held → steps_now ≡ steps → (output : Output) × IsGiven output
    → Begins IsGiven held held_now steps steps_now
begins_none IsGiven held held_now steps steps_now same counted o = begins_counted IsGiven held held_now steps steps_now same (counts_none IsGiven steps steps_now counted o)

-- an output that is nothing but a status was given
pub nothing_given : (IsGiven : Output → Type 0) (held : List ℕ) (held_now : Option (List ℕ)) (steps steps_now : ℕ) (status : Status) → held_now ≡ Some held → steps_now ≡ steps
    → IsGiven (nothing_but status) → EndsWell IsGiven held held_now steps steps_now status
nothing_given IsGiven held held_now steps steps_now status same counted p =
    inr (record { output = nothing_but status; is_given = p; holds = (same ∙ ap Some (sym (append-nil held)), record { ends = refl; counts = omega arith }) })

pub nothing_judged : (IsGiven : Output → Type 0) (steps steps_now : ℕ) (status : Status) → steps_now ≡ steps → IsGiven (nothing_but status) → EndsSo IsGiven steps steps_now status
nothing_judged IsGiven steps steps_now status counted p =
    inr (record { output = nothing_but status; is_given = p; holds = record { ends = refl; counts = omega arith } })

-- the report of an output was made
abbrev pub IsMade : (Output → Type 0) → List ℕ → Status → ℕ → ℕ → Type 0
IsMade IsGiven report status steps steps_now = Gives IsGiven (λ output. (report ≡ output.text) × IsReached steps steps_now status output)

-- ---- modules that were read

-- over these the text gives what it gives over the library that told them
agree-read : (texts : Texts) (text : List ℕ) (modules : List Module) → ListsAll text modules → All (IsRead texts text) modules
    → AgreeFrom (with_main (library_of modules) text) (with_main texts text) []
agree-read texts text modules lists read =
    let told = All-weaker (IsRead texts text) (λ (m : Module). m.1 ≡ texts m.0) (λ m is. is.told) modules read in
    agree-main (library_of modules) texts text (λ name r. listed-agrees modules texts told name (lists name r))

-- what is known once all modules were read and none is too long
pub record HasRead (texts : Texts) (text : List ℕ) (modules : List Module) : Type 0 where
  pub verdicts : List Verdict
  pub checks : ℕ
  pub gives : Results texts text (checked' verdicts checks)
  pub has : HasChecks (with_main (library_of modules) text) checks
  pub report-gives : (others : List Verdict) → AreVerdicts (with_main (library_of modules) text) [] others → Results texts text (checked' others checks)

pub all-read : (texts : Texts) (text : List ℕ) (modules : List Module) → HasOneResult texts text → ListsAll text modules → All (IsRead texts text) modules
    → ¬ Results texts text too_long' → HasRead texts text modules
all-read texts text modules one lists read fits = go one.result one.gives
  where
    agree : AgreeFrom (with_main (library_of modules) text) (with_main texts text) []
    agree = agree-read texts text modules lists read

    go : (result : Outcome) → Results texts text result → HasRead texts text modules
    go too_long' g = absurd (fits g)
    go (checked' verdicts checks) g =
        let s = settled texts text (checked' verdicts checks) g in
        record {
          verdicts = verdicts;
          checks = checks;
          gives = g;
          has = checks-agree (with_main texts text) (with_main (library_of modules) text) checks (agree-back (with_main (library_of modules) text) (with_main texts text) [] agree) s.1;
          report-gives = λ others are. s.2 others (verdicts-agree (with_main (library_of modules) text) (with_main texts text) [] others agree are);
        }

-- the report over these is that of the output
pub made : (texts : Texts) (text report : List ℕ) (status : Status) (modules : List Module) (steps steps_now : ℕ) → HasRead texts text modules
    → IsReport (library_of modules) text report status
    → ((n : ℕ) → HasChecks (with_main (library_of modules) text) n → steps_now ≡ steps + n) → IsMade (IsCheck texts text) report status steps steps_now
made texts text report status modules steps steps_now r is counts = record {
  output = _;
  is_given = checked is.are_tokens is.are_chunks (r.report-gives is.verdicts is.are_verdicts);
  holds = (is.says, record { ends = is.ends; counts = counts r.checks r.has });
}

-- and no more steps were counted than it has checks
pub begun : CountsStatements → (texts : Texts) (text : List ℕ) (modules : List Module) (steps steps_now : ℕ) → HasRead texts text modules → steps ≤ steps_now
    → ((n : ℕ) → HasChecks (with_main (library_of modules) text) n → steps_now ≤ steps + n) → BeginsToCheck (IsCheck texts text) steps steps_now
begun law texts text modules steps steps_now r rises counts =
    let o = law texts text r.verdicts r.checks r.gives in
    let n = counts r.checks r.has in
    record { output = o.0; is_given = o.1; holds = record { rises = rises; counts = let e = o.2 in omega arith } }

-- as many verdicts as chunks
pub verdicts-many : ((text : List ℕ) → HasOneTokenList text) → ((tokens : List Token) → HasOneListOfChunks tokens) → (library : Library) (text : List ℕ) (tokens : List Token)
    (chunks : List Chunk) (verdicts : List Verdict) → AreTokens text tokens → AreChunks tokens chunks → AreVerdicts (with_main library text) [] verdicts
    → length verdicts ≡ length chunks
verdicts-many token_lists chunk_lists library text tokens chunks verdicts ts cs are =
    let a = subst (λ t. AreStatements t are.statements) (some-same are.text text (sym are.is_module.there)) are.is_module.are in
    let same : a.tokens ≡ tokens = (token_lists text).unique a.tokens tokens a.are_tokens ts in
    let one = chunk_lists tokens in
    let cut : a.chunks ≡ chunks = one.2 a.chunks (subst (λ t. AreChunks t a.chunks) same a.are_chunks) ∙ sym (one.2 chunks cs) in
    are.many ∙ ap length a.each ∙ length-map a.chunks (statement_of text a.tokens) ∙ ap length cut
  where
    some-same : (x y : List ℕ) → Some x ≡ Some y → x ≡ y
    some-same x y e = cc
