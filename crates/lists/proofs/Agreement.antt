-- The tests of a list decide the lines of document 01's table, which are statements of the published theorem; so a list that no line refuses is
-- a triangulation in the published sense, and conversely. For a list w of the patch l:
--
--   past_decided     7: `past_last` decides `PastLast`
--   flat_decided     7: `some_flat` decides `FlatTriple`
--   empty_decided    10: `is_empty` decides `NoTriple`
--   cross_decided    8: `crossing` decides `Cross`, for an accepted patch: its numbered circuits are the published ones, or those with every sign turned
--   open_decided     9: `open_edge` decides `OpenEdge`
--   listed_triple    what is in the list is a triple of the shots
--   listed_decided   `listed` decides that a triple is in the list; `listed_at`: the triple of a rank is where its bit is set
--   list_decided     the rules decide the lines
--   accepted_iff_triangulation    no line holds exactly when the list is a triangulation and has no bit past the last rank
--
-- Source 001, Theorem 2.1; document 01, "What a surface is".
use Rattle.std.specs.Prelude.{◌≡◌, ℕ, ◌*◌, ◌<◌, ◌≤◌, Bool, true, not, ◌&&◌, eqb, leb, ◌⊎◌, ◌↔◌, List, [], ◌∷◌, length, ℤ}
use mathlib.Core.Path.{refl, sym, ◌∙◌, ap, subst}
use mathlib.Core.Logic.{inl, inr, ⊎_elim}
use native.Mathlib.Omega.{arith}
use Rattle.algebra.specs.Answer.{Reflects, holds, fails, Clear, Decides}
use Rattle.algebra.specs.Loops.{any}
use Rattle.algebra.specs.Sets.{is_on, On, Within, same_list}
use Rattle.algebra.specs.Sign.{minus, plus, opposite}
use Rattle.algebra.specs.Words.{word_bits, member}
use Rattle.algebra.proofs.AnswerLaws.{reflects_iff, reflects-not, reflects-or, reflects-and, reflects_leb, reflects_eqb, is-nought, reflects_stable}
use Rattle.algebra.proofs.LoopLaws.{reflects-any, reflects_test}
use Rattle.algebra.proofs.SetTests.{reflects_on, reflects_all_on, reflects_same, on_low}
use Rattle.matroid.specs.Configurations.{Configuration, Flat}
use Rattle.matroid.specs.Circuits.{Alike, against, Crossing}
use Rattle.matroid.specs.Triangulations.{Face, Border}
use Rattle.matroid.proofs.Edges.{pair_face, face_pair, each_face}
use Rattle.shots.specs.Coordinates.{point_of, patch_of}
use Rattle.shots.specs.Patch.{count_of, orient_of}
use Rattle.shots.specs.Tests.{refusal_of}
use Rattle.shots.proofs.Orientations.{orient_is_chirotope}
use Rattle.shots.proofs.Borders.{border_decided}
use Rattle.circuits.specs.Sides.{TwoSides, sign_in}
use Rattle.circuits.specs.Numbering.{circuits_of}
use Rattle.circuits.specs.Calls.{circuit_at}
use Rattle.circuits.proofs.SideLaws.{plus_on, minus_on}
use Rattle.circuits.proofs.Sources.{made_at}
use Rattle.circuits.proofs.Signs.{sides_within, sides_apart}
use Rattle.circuits.proofs.Agreement.{circuit_published, published_numbered}
use Rattle.triples.specs.Ranks.{triple_count, triple_at, rank_of}
use Rattle.lists.specs.Tests.{listed, is_flat, past_last, some_flat, is_empty, sides_in, crosses, crossing, shared, open_at, open_edge, list_rules}
use Rattle.lists.specs.Lines.{Listed, PastLast, FlatTriple, NoTriple, Cross, OpenEdge, list_lines, Accepted}
use Rattle.triples.proofs.RankLaws.{triple_at_within, rank_of_triple}

-- ---- the members of a list

module _ (n : ℕ) (w : List ℕ) where
  -- a test of each rank in the list decides that some triple of the list has the property
  reflects-listed : (Q : List ℕ → Type 0) (f : ℕ → Bool) → ((r : ℕ) → r < triple_count n → Reflects (Q (triple_at n r)) (f r))
      → Reflects ((s : List ℕ) × Listed n w s × Q s) (any (triple_count n) (λ r. member w r && f r))
  reflects-listed Q f h = reflects_iff (
    λ r. (triple_at n r.0, (r.0, r.1, r.2.0, refl), r.2.1),
    λ r. (r.1.0, r.1.1, (r.1.2, subst Q (sym r.1.3) r.2)),
  )
      (reflects-any (λ r. (member w r ≡ true) × Q (triple_at n r)) (λ r. member w r && f r) (triple_count n) (λ r l. reflects-and (reflects_test (member w r)) (h r l)))

  some_decided : Reflects ((s : List ℕ) × Listed n w s) (any (triple_count n) (member w))
  some_decided = reflects_iff (λ r. (triple_at n r.0, (r.0, r.1, r.2, refl)), λ r. (r.1.0, r.1.1, r.1.2))
      (reflects-any (λ r. member w r ≡ true) (member w) (triple_count n) (λ r l. reflects_test (member w r)))

  pub listed_triple : (s : List ℕ) → Listed n w s → Within 0 s n × (length s ≡ 3)
  listed_triple s m = subst (λ (t : List ℕ). Within 0 t n × (length t ≡ 3)) m.3 (triple_at_within n m.0 m.1)

  -- ranks are one where their triples are
  one_rank : (r s : ℕ) → r < triple_count n → s < triple_count n → triple_at n r ≡ triple_at n s → r ≡ s
  one_rank r s h k e = sym (rank_of_triple n r h) ∙ ap (rank_of n) e ∙ rank_of_triple n s k

  pub listed_decided : (t : List ℕ) → Reflects (Listed n w t) (listed n w t)
  unfolding listed
  listed_decided t = reflects_iff (λ r. (r.0, r.1, r.2.0, r.2.1), λ r. (r.0, r.1, (r.2, r.3)))
      (reflects-any (λ r. (member w r ≡ true) × (triple_at n r ≡ t)) (λ r. member w r && same_list (triple_at n r) t) (triple_count n)
      (λ r h. reflects-and (reflects_test (member w r)) (reflects_same (triple_at n r) t)))

  pub listed_at : (r : ℕ) → r < triple_count n → Listed n w (triple_at n r) ↔ (member w r ≡ true)
  listed_at r h = (λ (q, l, m, e). subst (λ (x : ℕ). member w x ≡ true) (one_rank q r l h e) m, λ m. (r, h, m, refl))

  -- another triple of the list than s holds i and j
  abbrev Shared : List ℕ → ℕ → ℕ → Type 0
  Shared s i j = (t : List ℕ) × Listed n w t × ((t ≡ s → ⊥) × On t i × On t j)

  shared_decided : (r i j : ℕ) → r < triple_count n → Reflects (Shared (triple_at n r) i j) (shared n w r i j)
  unfolding shared
  shared_decided r i j h =
      reflects-listed (λ t. (t ≡ triple_at n r → ⊥) × On t i × On t j) (λ s. not (eqb s r) && (is_on i (triple_at n s) && is_on j (triple_at n s)))
      (λ s k. reflects_iff (λ p. (λ e. p.0 (one_rank s r k h e), p.1.0, p.1.1), λ p. (λ e. p.0 (ap (triple_at n) e), (p.1, p.2)))
      (reflects-and (reflects-not (reflects_eqb s r)) (reflects-and (reflects_on i (triple_at n s)) (reflects_on j (triple_at n s)))))

module _ (l : List ℤ) (w : List ℕ) where
  abbrev n : ℕ
  n = count_of l

  abbrev P : Configuration
  P = patch_of l

  -- ---- 7, 10

  pub past_decided : Reflects (PastLast l w) (past_last l w)
  unfolding past_last
  past_decided = reflects_iff (λ r. (r.0, r.1, r.2.0, r.2.1), λ r. (r.0, r.1, (r.2, r.3)))
      (reflects-any (λ r. (triple_count n ≤ r) × (member w r ≡ true)) (λ r. leb (triple_count n) r && member w r) (word_bits * length w)
      (λ r h. reflects-and (reflects_leb (triple_count n) r) (reflects_test (member w r))))

  flat_at : (s : List ℕ) → length s ≡ 3 → Reflects (Flat P s) (is_flat l s)
  unfolding is_flat
  flat_at [] e = absurd (omega arith)
  flat_at (i ∷ []) e = absurd (omega arith)
  flat_at (i ∷ j ∷ []) e = absurd (omega arith)
  flat_at (i ∷ j ∷ k ∷ []) e = reflects_iff (λ h. sym (orient_is_chirotope l i j k) ∙ h, λ h. orient_is_chirotope l i j k ∙ h) (is-nought (orient_of l i j k))
  flat_at (i ∷ j ∷ k ∷ h ∷ s) e = absurd (omega arith)

  pub flat_decided : Reflects (FlatTriple l w) (some_flat l w)
  unfolding some_flat
  flat_decided = reflects-listed n w (Flat P) (λ r. is_flat l (triple_at n r)) (λ r h. flat_at (triple_at n r) (triple_at_within n r h).1)

  pub empty_decided : Reflects (NoTriple l w) (is_empty l w)
  unfolding is_empty
  empty_decided = reflects-not (some_decided n w)

  -- ---- 8

  -- the sides of z are inside s and t
  abbrev Inside : TwoSides → List ℕ → List ℕ → Type 0
  Inside z s t = ((i : ℕ) → On z.plus i → On s i) × ((i : ℕ) → On z.minus i → On t i)

  inside_decided : (z : TwoSides) (s t : List ℕ) → Reflects (Inside z s t) (sides_in z s t)
  unfolding sides_in
  inside_decided z s t = reflects-and (reflects_all_on z.plus s) (reflects_all_on z.minus t)

  crosses_decided : (z : TwoSides) → Reflects ((s : List ℕ) × Listed n w s × ((t : List ℕ) × Listed n w t × Inside z s t)) (crosses n w z)
  unfolding crosses
  crosses_decided z =
      reflects-listed n w (λ s. (t : List ℕ) × Listed n w t × Inside z s t) (λ r. any (triple_count n) (λ q. member w q && sides_in z (triple_at n r) (triple_at n q)))
      (λ r h. reflects-listed n w (Inside z (triple_at n r)) (λ q. sides_in z (triple_at n r) (triple_at n q)) (λ q k. inside_decided z (triple_at n r) (triple_at n q)))

  -- the sides of circuit z are inside two triples of the list
  abbrev InTriples : ℕ → Type 0
  InTriples z = (s : List ℕ) × Listed n w s × ((t : List ℕ) × Listed n w t × Inside (circuit_at l z) s t)

  -- no shot is on both sides of circuit z
  apart : (z : ℕ) → z < length (circuits_of l) → (i : ℕ) → On (circuit_at l z).plus i → On (circuit_at l z).minus i → ⊥
  apart z h = sides_apart n (circuit_at l z) (made_at l z h)

  module _ (ok : refusal_of l ≡ 0) where
    in-crossing : (z : ℕ) × (z < length (circuits_of l)) × InTriples z → Cross l w
    in-crossing (z, h, (s, m, (t, k, (a, b)))) = (
      s,
      t,
      m,
      k,
      record {
        by = sign_in (circuit_at l z);
        circuit = circuit_published l ok z h;
        left = λ i _ e. a i ((plus_on (circuit_at l z) i).1 e);
        right = λ i _ e. b i ((minus_on (circuit_at l z) i (apart z h i)).1 e);
      },
    )

    -- the signs of the crossing are those of the numbered circuit; or they are turned, and the two triples change places
    module _ (s t : List ℕ) (m : Listed n w s) (k : Listed n w t) (c : Crossing n P (On s) (On t)) (z : ℕ) (h : z < length (circuits_of l)) where
      on_plus : (i : ℕ) → On (circuit_at l z).plus i → (i < n) × (sign_in (circuit_at l z) i ≡ plus)
      on_plus i o = ((on_low (circuit_at l z).plus 0 n i (sides_within n (circuit_at l z) (made_at l z h)).0 o).1, (plus_on (circuit_at l z) i).0 o)

      on_other : (i : ℕ) → On (circuit_at l z).minus i → (i < n) × (sign_in (circuit_at l z) i ≡ minus)
      on_other i o = ((on_low (circuit_at l z).minus 0 n i (sides_within n (circuit_at l z) (made_at l z h)).1 o).1, (minus_on (circuit_at l z) i (apart z h i)).0 o)

      kept : Alike n c.by (sign_in (circuit_at l z)) → InTriples z
      kept a = (s, m, (t, k, (λ i o. let (j, e) = on_plus i o in c.left i j (a i j ∙ e), λ i o. let (j, e) = on_other i o in c.right i j (a i j ∙ e))))

      turned : Alike n c.by (against (sign_in (circuit_at l z))) → InTriples z
      unfolding opposite
      turned a = (t, k, (s, m, (λ i o. let (j, e) = on_plus i o in c.right i j (a i j ∙ ap opposite e), λ i o. let (j, e) = on_other i o in c.left i j (a i j ∙ ap opposite e))))

    crossing_in : Cross l w → (z : ℕ) × (z < length (circuits_of l)) × InTriples z
    crossing_in (s, t, m, k, c) = let (z, h, a) = published_numbered l ok c.by c.circuit in (z, h, ⊎_elim (kept s t m k c z h) (turned s t m k c z h) a)

    pub cross_decided : Reflects (Cross l w) (crossing l w)
    unfolding crossing
    cross_decided = reflects_iff (in-crossing, crossing_in) (reflects-any InTriples (λ z. crosses n w (circuit_at l z)) (length (circuits_of l)) (λ z h. crosses_decided (circuit_at l z)))

  -- ---- 9

  -- some edge i < j of s is no border pair, and no other triple of the list holds it
  abbrev OpenIn : List ℕ → Type 0
  OpenIn s = (j : ℕ) × (j < n) × ((i : ℕ) × (i < j) × ((On s i × On s j) × ((Border n P (i ∷ j ∷ []) → ⊥) × (Shared n w s i j → ⊥))))

  open-at : (r i j : ℕ) → r < triple_count n → Reflects ((On (triple_at n r) i × On (triple_at n r) j) × ((Border n P (i ∷ j ∷ []) → ⊥) × (Shared n w (triple_at n r) i j → ⊥))) (open_at l w r i j)
  unfolding open_at
  open-at r i j h =
      reflects-and (reflects-and (reflects_on i (triple_at n r)) (reflects_on j (triple_at n r)))
      (reflects-and (reflects-not (border_decided l i j)) (reflects-not (shared_decided n w r i j h)))

  open_in : (r : ℕ) → r < triple_count n → Reflects (OpenIn (triple_at n r)) (any n (λ j. any j (λ i. open_at l w r i j)))
  open_in r h =
      reflects-any (λ j. (i : ℕ) × (i < j) × ((On (triple_at n r) i × On (triple_at n r) j) × ((Border n P (i ∷ j ∷ []) → ⊥) × (Shared n w (triple_at n r) i j → ⊥)))) (λ j. any j (λ i. open_at l w r i j)) n
      (λ j _. reflects-any (λ i. (On (triple_at n r) i × On (triple_at n r) j) × ((Border n P (i ∷ j ∷ []) → ⊥) × (Shared n w (triple_at n r) i j → ⊥))) (λ i. open_at l w r i j) j (λ i _. open-at r i j h))

  pub open_decided : Reflects (OpenEdge l w) (open_edge l w)
  unfolding open_edge
  open_decided = reflects_iff (
    λ (s, m, (j, jl, (i, h, ((a, b), (c, d))))). (s, i ∷ j ∷ [], m, pair_face n (point_of l) s i j h jl a b, c, λ (t, k, ne, f). let (x, y) = face_pair n (point_of l) t i j f in d (t, k, (ne, x, y))),
    λ (s, e, m, f, c, d). (
      s,
      m,
      each_face n (point_of l) (λ u. (Border n P u → ⊥) → ((t : List ℕ) × Listed n w t × (t ≡ s → ⊥) × Face n P u t → ⊥) → OpenIn s) s
          (λ i j h jl a b c d. (j, jl, (i, h, ((a, b), (c, λ (t, k, (ne, x, y)). d (t, k, ne, pair_face n (point_of l) t i j h jl x y)))))) e f c d,
    ),
  )
      (reflects-listed n w OpenIn (λ r. any n (λ j. any j (λ i. open_at l w r i j))) open_in)

  -- ---- the table

  pub list_decided : refusal_of l ≡ 0 → Decides (list_rules l w) (list_lines l w)
  list_decided ok = (refl, reflects-or past_decided flat_decided, (refl, empty_decided, (refl, cross_decided ok, (refl, open_decided, tt))))

  -- ---- the published theorem

  some-listed : (NoTriple l w → ⊥) → (s : List ℕ) × Listed n w s
  some-listed = reflects_stable (some_decided n w)

  -- an edge that is not open
  closed : (OpenEdge l w → ⊥) → (s : List ℕ) → Listed n w s → (e : List ℕ) → Face n P e s → Border n P e ⊎ ((t : List ℕ) × Listed n w t × (t ≡ s → ⊥) × Face n P e t)
  closed none s m = each_face n (point_of l) (λ u. Border n P u ⊎ ((t : List ℕ) × Listed n w t × (t ≡ s → ⊥) × Face n P u t)) s (λ i j h jl a b. go i j h jl a b (border_decided l i j) (shared_decided n w m.0 i j m.1))
    where
      go : (i j : ℕ) → i < j → j < n → On s i → On s j → {p q : Bool} → Reflects (Border n P (i ∷ j ∷ [])) p → Reflects (Shared n w (triple_at n m.0) i j) q
          → Border n P (i ∷ j ∷ []) ⊎ ((t : List ℕ) × Listed n w t × (t ≡ s → ⊥) × Face n P (i ∷ j ∷ []) t)
      go i j h jl a b (holds c) d = inl c
      go i j h jl a b (fails c) (holds (t, k, (ne, x, y))) = inr (t, k, λ q. ne (q ∙ sym m.3), pair_face n (point_of l) t i j h jl x y)
      go i j h jl a b (fails c) (fails d) = absurd (none (s, i ∷ j ∷ [], m, pair_face n (point_of l) s i j h jl a b, c, λ (t, k, ne, f). let (x, y) = face_pair n (point_of l) t i j f in d (t, k, (λ u. ne (u ∙ m.3), x, y))))

  pub accepted_iff_triangulation : Clear (list_lines l w) ↔ Accepted l w
  accepted_iff_triangulation = (into, out)
    where
      into : Clear (list_lines l w) → Accepted l w
      into (seven, (ten, (eight, (nine, _)))) = (
        λ p. seven (inl p),
        record {
          simplices = λ s m. let (v, k) = listed_triple n w s m in record { within = v; size = k; full = λ h. seven (inr (s, m, h)) };
          some = some-listed ten;
          ip = λ s t m k c. eight (s, t, m, k, c);
          up = closed nine;
        },
      )

      out : Accepted l w → Clear (list_lines l w)
      out (p, g) = (
        ⊎_elim p (λ (s, m, h). (g.simplices s m).full h),
        (
          λ none. none g.some,
          (
            λ (s, t, m, k, c). g.ip s t m k c,
            (λ (s, e, m, f, b, o). ⊎_elim b o (g.up s m e f), tt),
          ),
        ),
      )
