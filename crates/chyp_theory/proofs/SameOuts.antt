-- Terms that make and use the same give the same, in some order.
use Rattle.std.proofs.Common.{ℕ, ◌<◌, ◌≡◌, List, ◌++◌, length, ◌⊎◌, inl, inr, sym, ◌∙◌, ap, subst}
use Rattle.chyp_term.specs.Morphism.{Morphism, dom, IsTyped}
use Rattle.chyp_term.proofs.Members.{Member, member-left, member-right, member-split}
use Rattle.chyp_term.proofs.Rearrangement.{Rearr}
use Rattle.chyp_term.proofs.SameMembers.{rearr_members}
use Rattle.chyp_theory.proofs.Running.{EdgeOf, label_of, run, src}
use Rattle.chyp_theory.proofs.Linear.{IsLinear, made, member-made, comes_out, came_from, not_used, made-member}

-- terms with the same edges give the same, in some order
pub same_outs : (s t : Morphism) → IsTyped s → IsTyped t → (mk : EdgeOf t → ℕ → ℕ) (nk : EdgeOf s → ℕ → ℕ) (live : List ℕ) → length live ≡ length (dom s)
    → length live ≡ length (dom t) → (to : EdgeOf s → EdgeOf t) (from : EdgeOf t → EdgeOf s) → ((e : EdgeOf t) → to (from e) ≡ e)
    → ((e : EdgeOf s) → label_of t (to e) ≡ label_of s e) → ((e : EdgeOf s) → src t mk live (to e) ≡ src s nk live e)
    → ((e : EdgeOf s) (i : ℕ) → nk e i ≡ mk (to e) i) → IsLinear s nk live → IsLinear t mk live → Rearr (run s nk live) (run t mk live)
same_outs s t ts ty mk nk live hs ht to from to_from labels srcs marks ls lt = rearr_members (run s nk live) (run t mk live) ls.outs lt.outs forth back
  where
    there : (w : ℕ) → (Member w live) ⊎ (Member w (made s nk)) → Member w (live ++ made t mk)
    there w (inl h) = member-left live (made t mk) w h
    there w (inr h) =
        let f = made-member s nk w h in
        member-right live (made t mk) w
        (subst (λ w. Member w (made t mk)) (sym (marks f.0 f.1) ∙ f.3) (member-made t mk (to f.0) f.1 (subst (λ z. f.1 < length z.cod) (sym (labels f.0)) f.2)))

    here : (w : ℕ) → (Member w live) ⊎ (Member w (made t mk)) → Member w (live ++ made s nk)
    here w (inl h) = member-left live (made s nk) w h
    here w (inr h) =
        let f = made-member t mk w h in
        member-right live (made s nk) w (subst (λ w. Member w (made s nk)) (marks (from f.0) f.1 ∙ ap (λ z. mk z f.1) (to_from f.0) ∙ f.3)
        (member-made s nk (from f.0) f.1 (subst (λ z. f.1 < length z.cod) (ap (label_of t) (sym (to_from f.0)) ∙ labels (from f.0)) f.2)))

    forth : (w : ℕ) → Member w (run s nk live) → Member w (run t mk live)
    forth w h = comes_out t ty mk live ht w (there w (member-split live (made s nk) w (came_from s ts nk live hs w h)))
        (λ e q. not_used s nk live ls w h (from e) (subst (λ z. Member w z) (ap (src t mk live) (sym (to_from e)) ∙ srcs (from e)) q))

    back : (w : ℕ) → Member w (run t mk live) → Member w (run s nk live)
    back w h = comes_out s ts nk live hs w (here w (member-split live (made t mk) w (came_from t ty mk live ht w h)))
        (λ e q. not_used t mk live lt w h (to e) (subst (λ z. Member w z) (sym (srcs e)) q))
