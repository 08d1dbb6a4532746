-- Items at places, by their numbers.
use Rattle.std.proofs.Common.{ℕ, ◌<◌, ◌≡◌, All, List, length, map, slice_index, ◌∙◌, ap, subst, arith}
use Rattle.std.specs.Option.{unwrap_or}
use Rattle.chyp_term.proofs.Members.{All-members, Member, map-member}
use Rattle.chyp_term.proofs.Positions.{map-map}
use Rattle.chyp_match.specs.View.{IsIn}
use Rattle.chyp_store.specs.Items.{AreDistinct, ids}
use Rattle.chyp_work.specs.Net.{place_in}
use Rattle.chyp_work.proofs.Bridge.{all-member, length-mapped}
use Rattle.chyp_work.proofs.Opening.{map-fixed, member-there}
use Rattle.chyp_work.proofs.Places.{index-member, place-of-index}

module _ {X : Type 0} (items : List (ℕ × X)) (ks : List ℕ) (within : All (λ k. k < length items) ks) where
  below : (k : ℕ) → Member k ks → k < length (ids items)
  below k m = let a = all-member (λ k. k < length items) ks within k m in let b = length-mapped (λ (e : ℕ × X). e.0) items in omega arith

  -- the items at places are there
  pub numbers-there : All (λ k. IsIn k items) (map (slice_index (ids items)) ks)
  numbers-there = All-members (map (slice_index (ids items)) ks) (λ w m.
      let k = map-member (slice_index (ids items)) ks w m in
      member-there w items (subst (λ w. Member w (ids items)) k.2 (index-member (ids items) k.0 (below k.0 k.1))))

  -- and their numbers lead back to the places
  pub numbers-back : AreDistinct (ids items) → map (place_in (ids items)) (map (slice_index (ids items)) ks) ≡ ks
  numbers-back d = map-map (place_in (ids items)) (slice_index (ids items)) ks
      ∙ map-fixed (λ k. place_in (ids items) (slice_index (ids items) k)) ks (λ k m. ap (λ o. unwrap_or o 0) (place-of-index (ids items) k d (below k m)))
