-- A circuit of four shots: a triple of its star holds three of them, and so no other shot.
--
--   four_unsupported    a list without the whole star does not support it: no shot is linked
use Rattle.std.specs.Prelude.{◌≡◌, ℕ, zero, suc, ◌+◌, ◌/◌, ◌%◌, ◌^◌, ◌<◌, ◌≤◌, Bool, true, false, cond, ◌&&◌, eqb, ltb, List, [], ◌∷◌, length}
use mathlib.Core.Path.{refl, sym, ◌∙◌, ap, subst}
use mathlib.Core.Logic.{⊎_elim}
use mathlib.Core.Bool.{true≢false}
use native.Mathlib.Omega.{arith}
use native.Mathlib.Nat.{add_comm, mod-lt, mod-one, mod-eq_of_lt}
use lib.Count.{ones, ones_cat}
use lib.ListN.{length-append}
use lib.Pow.{pow_pos, mod-pow-add}
use borrow.Author.Tests.{lt-ltb}
use Rattle.algebra.specs.Loops.{any, picks}
use Rattle.algebra.specs.Sets.{is_on, On, dropped, Within, bit}
use Rattle.algebra.specs.Words.{Words, member, both_of, inside_of}
use Rattle.algebra.proofs.AnswerLaws.{reflects_yes, reflects_false, reflects-not, reflects-or, reflects-and}
use Rattle.algebra.proofs.LoopLaws.{and_parts, any_some, reflects_test}
use Rattle.algebra.proofs.SetTests.{is_on-picks, picks_within, dropped_within, subset-length, subset_same}
use Rattle.algebra.proofs.UnionLaws.{on_without, dropped-length}
use Rattle.algebra.proofs.WordLaws.{sift_all, both-member, both_words, meets_at, inside_at}
use Rattle.shots.specs.Sizes.{shots_most}
use Rattle.triples.specs.Sizes.{word_count}
use Rattle.triples.specs.Ranks.{triple_at}
use Rattle.triples.proofs.RankLaws.{triple_at_within}
use Rattle.surfaces.specs.Stars.{star_of, IsStar, cone_of, linked_at, linked_of, supported_by}
use Rattle.surfaces.proofs.StarLaws.{Missing, star_pieces, star_words, cone_at, cone_words}

-- ---- the numbers of a mask

low_bits : (n x i : ℕ) → i < n → bit x i ≡ is_on i (picks n (bit x))
low_bits n x i l = sym (is_on-picks (bit x) n i ∙ ap (λ (b : Bool). b && bit x i) (lt-ltb i n l))

ones-picks : (n x : ℕ) → ones (x % 2 ^ n) ≡ length (picks n (bit x))
unfolding picks bit ones
ones-picks zero x = ap ones (mod-one x)
ones-picks (suc n) x =
    ap ones (ap (λ (k : ℕ). x % 2 ^ k) (let e : suc n ≡ 1 + n = omega arith in e) ∙ mod-pow-add x 1 n) ∙ ones_cat n (x / 2 ^ n % 2) (x % 2 ^ n) (mod-lt x (pow_pos n))
    ∙ (λ k. digit (x / 2 ^ n % 2) (omega arith) k + ones-picks n x k) ∙ add_comm (length (last (x / 2 ^ n % 2))) (length (picks n (bit x)))
    ∙ sym (length-append (picks n (bit x)) (last (x / 2 ^ n % 2)))
  where
    last : ℕ → List ℕ
    last d = cond (eqb d 1) (n ∷ []) []

    digit : (d : ℕ) → d < 2 → ones d ≡ length (last d)
    digit zero h = refl
    digit (suc zero) h = refl
    digit (suc (suc d)) h = absurd (omega arith)

-- as many bits are set as the mask has numbers
ones_below : (n x : ℕ) → x < 2 ^ n → ones x ≡ length (picks n (bit x))
ones_below n x h = ap ones (sym (mod-eq_of_lt h)) ∙ ones-picks n x

-- ---- a circuit of four shots, and the star of a side a

module _ (n x : ℕ) (few : n ≤ shots_most) (low : x < 2 ^ n) (four : ones x ≡ 4) where
  abbrev s : List ℕ
  s = picks n (bit x)

  sized : length (picks n (bit x)) ≡ 4
  sized = sym (ones_below n x low) ∙ four

  within : Within 0 (picks n (bit x)) n
  within = picks_within (bit x) n

  -- what a triple of the star holds is in the circuit: the three shots besides i are all of it; an i outside the circuit would leave it four
  star_inside : (a r k : ℕ) → member (star_of n a x) r ≡ true → On (triple_at n r) k → On (picks n (bit x)) k
  star_inside a r k m o =
      let q = reflects_yes (star_pieces n x s (low_bits n x) a (picks n (bit a)) (picks_within (bit a) n) (low_bits n a) few r) m in
      let t = triple_at_within n r q.0 in
      three q.1.0 (triple_at n r) t.0 t.1 q.1.2 o (is_on q.1.0 s) refl
    where
      three : (i : ℕ) (t : List ℕ) → Within 0 t n → length t ≡ 3 → Missing n s i t → On t k → (b : Bool) → is_on i s ≡ b → On s k
      three i t w e h p true g =
          let d : length (dropped n i s) ≡ length t = let f = dropped-length n i s within g in let l = sized in omega arith in
          ((on_without n i s within k).0 (subst (λ (u : List ℕ). On u k) (sym (subset_same (dropped n i s) t n (dropped_within n i s) w h.0 d)) p)).0
      three i t w e h p false g =
          let l = sized in
          let f = subset-length s t n within w (λ j u. h.0 j ((on_without n i s within j).1 (u, λ z. true≢false (sym (subst (On s) z u) ∙ g)))) in
          absurd (omega arith)

  -- no shot outside the circuit has a cone, so none is linked
  module _ (a : ℕ) (w : List ℕ) where
    abbrev t : List ℕ
    t = star_of n a x

    words : Words word_count (star_of n a x)
    words = star_words n a x

    unlinked : (k : ℕ) → linked_at n x (star_of n a x) w k ≡ false
    unfolding linked_at
    unlinked k =
        reflects_false (reflects-and (reflects-not (reflects_test (bit x k))) (reflects-and (meets_at word_count (cone_of n k t) w (cone_words n t words k)) (reflects_test (inside_of (cone_of n k t) w))))
        (λ q. let c = reflects_yes (cone_at n t words k few q.1.0.0) q.1.0.1 in
        q.0 (and_parts (ltb k n) (bit x k) (sym (is_on-picks (bit x) n k) ∙ star_inside a q.1.0.0 k c.0 c.1)).1)

    unreached : (r : ℕ) → member (linked_of n x (star_of n a x) w) r ≡ true → ⊥
    unfolding linked_of
    unreached r m = none r (sym (sift_all word_count (λ q. any n (linking q)) (λ q h. absurd (none q h)) r) ∙ m)
      where
        linking : ℕ → ℕ → Bool
        linking q k = linked_at n x (star_of n a x) w k && is_on k (triple_at n q)

        none : (q : ℕ) → any n (linking q) ≡ true → ⊥
        none q h = let p = any_some (linking q) n h in true≢false (sym (and_parts (linked_at n x t w p.0) (is_on p.0 (triple_at n q)) p.2).0 ∙ unlinked p.0)

    side_unsupported : inside_of (star_of n a x) w ≡ false → supported_by n x (star_of n a x) w ≡ false
    unfolding supported_by
    side_unsupported h =
        reflects_false (reflects-and (meets_at word_count t w words) (reflects-or (reflects_test (inside_of t w)) (inside_at word_count (both_of t w) (linked_of n x t w) (both_words word_count t w words))))
        (λ q. ⊎_elim (λ e. true≢false (sym e ∙ h)) (λ g. unreached q.0.0 (g q.0.0 (both-member word_count t w words q.0.0 ∙ (λ i. q.0.1 i && q.0.2 i)))) q.1)

  pub four_unsupported : (t w : List ℕ) → IsStar n x t → inside_of t w ≡ false → supported_by n x t w ≡ false
  four_unsupported t w e = subst (λ (u : List ℕ). inside_of u w ≡ false → supported_by n x u w ≡ false) (sym e.1) (side_unsupported e.0 w)
