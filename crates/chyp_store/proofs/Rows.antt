-- Lists under names: a row of the map that is written.
use Rattle.std.proofs.Common.{ℕ, ◌-◌, ◌≤◌, ◌≡◌, ◌≢◌, Bool, true, false, cond, List, [], length, Vec, Global, Option, Some, None, refl, sym, ◌∙◌, ap, arith}
use Rattle.std.specs.Prelude.{IsSome, option_map, vec_capacity}
use Rattle.std.specs.Option.{option_map_or}
use Rattle.std.specs.Map.{lookup, set_value}
use Rattle.std.specs.Str.{bytes_eq}
use Rattle.std.specs.Cmp.Lexicographic.{nat_list_eq_equiv}
use Rattle.std.proofs.lemmas.Map.{lookup-set_value}
use Rattle.std.proofs.lemmas.Map.Made.{lookup-map_values}
use Rattle.std.proofs.lemmas.Slice.Eq.{bytes_eq-Decides}
use Rattle.chyp_store.specs.Lists.{list_of, room_of, row_of, rows_of}

pub same-names : (a b : List ℕ) → bytes_eq a b ≡ true → a ≡ b
same-names a b h = (bytes_eq-Decides a b).0 h

pub same-bytes : (a : List ℕ) → bytes_eq a a ≡ true
same-bytes a = (bytes_eq-Decides a a).1 refl

pub other-names : (a b : List ℕ) → a ≢ b → bytes_eq a b ≡ false
other-names a b d = by (bytes_eq a b) refl
  where
    by : (t : Bool) → bytes_eq a b ≡ t → bytes_eq a b ≡ false
    by true e = absurd (d (same-names a b e))
    by false e = e

module _ {T : Type 0} where
  pub row-list : (n : List ℕ) (es : List (List ℕ × Vec T Global)) → list_of n (rows_of es) ≡ option_map_or (λ v. v.items) (lookup (bytes_eq n) es) []
  row-list n es = rw (lookup-map_values row_of (bytes_eq n) es) (by (lookup (bytes_eq n) es))
    where
      by : (o : Option (Vec T Global)) → option_map_or (λ r. r.items) (option_map row_of o) [] ≡ option_map_or (λ v. v.items) o []
      by None = refl
      by (Some v) = refl

  pub row-room : (n : List ℕ) (es : List (List ℕ × Vec T Global)) → room_of n (rows_of es) ≡ option_map_or (λ v. vec_capacity v - length v.items) (lookup (bytes_eq n) es) 0
  row-room n es = rw (lookup-map_values row_of (bytes_eq n) es) (by (lookup (bytes_eq n) es))
    where
      by : (o : Option (Vec T Global)) → option_map_or (λ r. r.room) (option_map row_of o) 0 ≡ option_map_or (λ v. vec_capacity v - length v.items) o 0
      by None = refl
      by (Some v) = refl

  -- the list under a name changes, and no other one
  module _ (name : List ℕ) (es fs : List (List ℕ × Vec T Global)) (v w : Vec T Global) (was : lookup (bytes_eq name) es ≡ Some v) (wrote : fs ≡ set_value (bytes_eq name) es w) where
    written : (n : List ℕ) → lookup (bytes_eq n) fs ≡ cond (bytes_eq name n) (Some w) (lookup (bytes_eq n) es)
    written n = ap (lookup (bytes_eq n)) wrote ∙ lookup-set_value nat_list_eq_equiv (bytes_eq name) (λ x y e. ap (λ (m : List ℕ). bytes_eq m y) (same-names name x e)) n w es (rw was refl)

    pub written-at : lookup (bytes_eq name) fs ≡ Some w
    written-at = written name ∙ rw (same-bytes name) refl

    pub written-other : (n : List ℕ) → n ≢ name → lookup (bytes_eq n) fs ≡ lookup (bytes_eq n) es
    written-other n d = written n ∙ rw (other-names name n (λ e. d (sym e))) refl

    pub old-list : list_of name (rows_of es) ≡ v.items
    old-list = row-list name es ∙ rw was refl

    pub new-list : list_of name (rows_of fs) ≡ w.items
    new-list = row-list name fs ∙ rw written-at refl

    pub old-room : room_of name (rows_of es) ≡ vec_capacity v - length v.items
    old-room = row-room name es ∙ rw was refl

    pub new-room : room_of name (rows_of fs) ≡ vec_capacity w - length w.items
    new-room = row-room name fs ∙ rw written-at refl

    pub other-list : (n : List ℕ) → n ≢ name → list_of n (rows_of fs) ≡ list_of n (rows_of es)
    other-list n d = row-list n fs ∙ rw (written-other n d) (sym (row-list n es))

    pub other-room : (n : List ℕ) → n ≢ name → room_of n (rows_of fs) ≡ room_of n (rows_of es)
    other-room n d = row-room n fs ∙ rw (written-other n d) (sym (row-room n es))

    -- all lists are as they were where this one is
    pub all-lists : w.items ≡ v.items → (n : List ℕ) → list_of n (rows_of fs) ≡ list_of n (rows_of es)
    all-lists same n = by (bytes_eq n name) refl
      where
        by : (t : Bool) → bytes_eq n name ≡ t → list_of n (rows_of fs) ≡ list_of n (rows_of es)
        by true e = rw (same-names n name e) (new-list ∙ same ∙ sym old-list)
        by false e = other-list n (λ q. let x = rw q at e in let y = same-bytes name in absurd (cc))

    -- no list has less room where this one has not
    pub all-rooms : vec_capacity v - length v.items ≤ vec_capacity w - length w.items → (n : List ℕ) → room_of n (rows_of es) ≤ room_of n (rows_of fs)
    all-rooms more n = by (bytes_eq n name) refl
      where
        by : (t : Bool) → bytes_eq n name ≡ t → room_of n (rows_of es) ≤ room_of n (rows_of fs)
        by true e = rw (same-names n name e, old-room, new-room) more
        by false e =
            let x = other-room n (λ q. let x = rw q at e in let y = same-bytes name in absurd (cc)) in omega arith

  -- an empty list comes under a name that has none
  module _ (name : List ℕ) (es fs : List (List ℕ × Vec T Global)) (w : Vec T Global) (none : lookup (bytes_eq name) es ≡ None)
      (written : (n : List ℕ) → lookup (bytes_eq n) fs ≡ cond (bytes_eq name n) (Some w) (lookup (bytes_eq n) es)) (empty : w.items ≡ []) where
    pub put-there : IsSome (lookup (bytes_eq name) (rows_of fs))
    put-there = rw (lookup-map_values row_of (bytes_eq name) fs, written name, same-bytes name) refl

    pub put-lists : (n : List ℕ) → list_of n (rows_of fs) ≡ list_of n (rows_of es)
    put-lists n = by (bytes_eq name n) refl
      where
        by : (t : Bool) → bytes_eq name n ≡ t → list_of n (rows_of fs) ≡ list_of n (rows_of es)
        by true e = rw (← same-names name n e) (row-list name fs ∙ rw (written name, same-bytes name) (empty ∙ sym (row-list name es ∙ rw none refl)))
        by false e = row-list n fs ∙ rw (written n, e) (sym (row-list n es))

    pub put-rooms : (n : List ℕ) → room_of n (rows_of es) ≤ room_of n (rows_of fs)
    put-rooms n = by (bytes_eq name n) refl
      where
        by : (t : Bool) → bytes_eq name n ≡ t → room_of n (rows_of es) ≤ room_of n (rows_of fs)
        by true e = let x : room_of name (rows_of es) ≡ 0 = row-room name es ∙ rw none refl in rw (← same-names name n e, x) (omega arith)
        by false e = let x : room_of n (rows_of fs) ≡ room_of n (rows_of es) = row-room n fs ∙ rw (written n, e) (sym (row-room n es)) in omega arith

  pub none-row : (n : List ℕ) (es : List (List ℕ × Vec T Global)) → lookup (bytes_eq n) (rows_of es) ≡ None → lookup (bytes_eq n) es ≡ None
  none-row n es h = by (lookup (bytes_eq n) es) refl (sym (lookup-map_values row_of (bytes_eq n) es) ∙ h)
    where
      by : (o : Option (Vec T Global)) → lookup (bytes_eq n) es ≡ o → option_map row_of (lookup (bytes_eq n) es) ≡ None → lookup (bytes_eq n) es ≡ None
      by None e x = e
      by (Some v) e x = let y = rw e at x in absurd (cc)
