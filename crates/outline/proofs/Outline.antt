-- What the two chains of an accepted patch are, over the published definitions (document 02, E5).
--
--   south-chain, north-chain    each begins at the leftmost shot (the lowest of equals) and ends at the rightmost (the highest of equals); every turn is strict; every shot is on or inside
--   south-only, north-only      no other list of shots whose neighbours are sides is such a chain
--   sides_once                  the neighbours of the two chains are the sides, each once
--   corners_once                the shots of the south chain but its last, with those of the north chain but its first, are the corners, each once
--   sides_many, corners_many    how many there are: (south length - 1) + (north length - 1)
--   corners_least               three at least
--   chain_few                   a chain has at most as many shots as the largest patch
--   border_counts_chains        `border` gives that number
use mathlib.Core.Path.{◌≡◌, refl, sym, ◌∙◌, ap, subst}
use mathlib.Core.Logic.{inl, inr, ◌↔◌}
use mathlib.Core.Bool.{Bool, true, false}
use mathlib.Core.List.{List, ◌++◌, drop_last, tail}
use Prim.Native.Nat.{ℕ, ◌+◌, ◌-◌, ◌≤◌}
use native.Mathlib.Omega.{arith}
use lib.IntN.{ℤ}
use lib.ListN.{length, length-append}
use Rattle.algebra.specs.Answer.{gives, Clear}
use Rattle.algebra.specs.Sign.{minus, plus, value}
use Rattle.algebra.proofs.ListLaws.{exactly-length}
use Rattle.algebra.proofs.SignLaws.{value_nz}
use Rattle.matroid.specs.Borders.{Side}
use Rattle.matroid.specs.Chains.{Neighbours, Chain, pairs_of}
use Rattle.matroid.proofs.ChainLaws.{wrapped-chain, chain-only, wrapped_sides, wrapped_corners, wrapped-three, pairs_many, front_many, back_many}
use Rattle.shots.specs.Sizes.{shots_most}
use Rattle.shots.specs.Coordinates.{point_of}
use Rattle.shots.specs.Patch.{count_of}
use Rattle.shots.specs.Tests.{refusal_of}
use Rattle.shots.specs.Lines.{shot_lines, SidePairs}
use Rattle.shots.specs.Calls.{border_call_of}
use Rattle.shots.proofs.Orders.{eastward, before_ahead, ahead_apart}
use Rattle.shots.proofs.Patch.{patch_few, patch_bent}
use Rattle.shots.proofs.Promises.{shots_kept}
use Rattle.shots.proofs.Sides.{border_counts_sides}
use Rattle.outline.specs.Wrapping.{first_of, chain_of, south_of, north_of}
use Rattle.outline.specs.Lines.{CornerShots}
use Rattle.outline.proofs.ChainSteps.{chain_short}
use Rattle.outline.proofs.Wraps.{first_of_all, chain_wrapped}

module _ (l : List ℤ) where
  abbrev n : ℕ
  n = count_of l

  pub sides_many : length (pairs_of (south_of l) ++ pairs_of (north_of l)) ≡ (length (south_of l) - 1) + (length (north_of l) - 1)
  sides_many = omega (arith, length-append (pairs_of (south_of l)) (pairs_of (north_of l)), pairs_many (south_of l), pairs_many (north_of l))

  pub corners_many : length (drop_last (south_of l) ++ tail (north_of l)) ≡ (length (south_of l) - 1) + (length (north_of l) - 1)
  corners_many = omega (arith, length-append (drop_last (south_of l)) (tail (north_of l)), front_many (south_of l), back_many (north_of l))

  module _ (a : Clear (shot_lines l)) where
    h : refusal_of l ≡ 0
    h = (shots_kept l).0 a

    pub south-chain : Chain n (point_of l) plus (south_of l)
    south-chain =
        let (c, is, w) = chain_wrapped l h false in
        subst (Chain n (point_of l) plus) (sym is) (wrapped-chain n (point_of l) eastward (ahead_apart l h) (λ i j _ _. before_ahead l h i j) plus (inl refl) (first_of l) (first_of_all l h) c w)

    pub north-chain : Chain n (point_of l) minus (north_of l)
    north-chain =
        let (c, is, w) = chain_wrapped l h true in
        subst (Chain n (point_of l) minus) (sym is) (wrapped-chain n (point_of l) eastward (ahead_apart l h) (λ i j _ _. before_ahead l h i j) minus (inr refl) (first_of l) (first_of_all l h) c w)

    pub south-only : (c : List ℕ) → Chain n (point_of l) plus c → ((i j : ℕ) → Neighbours c i j → Side n (point_of l) i j) → c ≡ south_of l
    south-only c k sides =
        let (t, is, w) = chain_wrapped l h false in
        chain-only n (point_of l) eastward (ahead_apart l h) (λ i j _ _. before_ahead l h i j) (patch_bent l h) plus (inl refl) (first_of l) (first_of_all l h) t w c k sides ∙ sym is

    pub north-only : (c : List ℕ) → Chain n (point_of l) minus c → ((i j : ℕ) → Neighbours c i j → Side n (point_of l) i j) → c ≡ north_of l
    north-only c k sides =
        let (t, is, w) = chain_wrapped l h true in
        chain-only n (point_of l) eastward (ahead_apart l h) (λ i j _ _. before_ahead l h i j) (patch_bent l h) minus (inr refl) (first_of l) (first_of_all l h) t w c k sides ∙ sym is

    pub sides_once : SidePairs l (pairs_of (south_of l) ++ pairs_of (north_of l))
    unfolding value
    sides_once =
        let (c, is, w) = chain_wrapped l h false in
        let (c', is', w') = chain_wrapped l h true in
        subst (SidePairs l) (λ k. pairs_of (sym is k) ++ pairs_of (sym is' k)) (wrapped_sides n (point_of l) eastward (ahead_apart l h) (patch_bent l h) (value plus) (value_nz plus (inl refl)) (first_of l) (first_of_all l h) c c' w w')

    pub corners_once : CornerShots l (drop_last (south_of l) ++ tail (north_of l))
    unfolding value
    corners_once =
        let (c, is, w) = chain_wrapped l h false in
        let (c', is', w') = chain_wrapped l h true in
        subst (CornerShots l) (λ k. drop_last (sym is k) ++ tail (sym is' k)) (wrapped_corners n (point_of l) eastward (ahead_apart l h) (patch_bent l h) (value plus) (value_nz plus (inl refl)) (first_of l) (first_of_all l h) c c' w w')

    pub corners_least : 3 ≤ (length (south_of l) - 1) + (length (north_of l) - 1)
    unfolding value
    corners_least =
        let (c, is, w) = chain_wrapped l h false in
        let (c', is', w') = chain_wrapped l h true in
        omega (arith, ap length is, ap length is', wrapped-three n (point_of l) eastward (ahead_apart l h) (patch_bent l h) (value plus) (value_nz plus (inl refl)) (first_of l) (first_of_all l h) c c' w w')

    pub chain_few : (north : Bool) → length (chain_of l north) ≤ shots_most
    unfolding chain_of
    chain_few north = omega (arith, chain_short l north n (first_of l), (patch_few l h).1)

  pub border_counts_chains : (v : ℕ) → (border_call_of l ≡ gives v) ↔ (Clear (shot_lines l) × ((length (south_of l) - 1) + (length (north_of l) - 1) ≡ v))
  border_counts_chains v = (
    λ e. let (a, (ps, all, q)) = (border_counts_sides l v).0 e in (a, sym sides_many ∙ exactly-length (sides_once a) all ∙ q),
    λ (a, q). (border_counts_sides l v).1 (a, (pairs_of (south_of l) ++ pairs_of (north_of l), sides_once a, sides_many ∙ q)),
  )
