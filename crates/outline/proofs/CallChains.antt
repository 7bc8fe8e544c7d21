-- What the tests of `chains` and the two buffers it leaves say of its definition.
--
--   fill_both, fill_south, fill_north    both buffers have room, or one is too short
--   outlined_stops    the run of shots is refused
--   outlined_short    a buffer is too short
--   outlined_done     both chains are written
use mathlib.Core.Path.{◌≡◌, sym, ◌∙◌, ap}
use mathlib.Core.Bool.{Bool, not, ◌&&◌, and-false}
use mathlib.Core.List.{List, [], ◌∷◌}
use Prim.Native.Nat.{ℕ, ◌≤◌, ◌<◌}
use borrow.Author.Tests.{le-leb, lt-leb}
use lib.Dec.{leb}
use lib.IntN.{ℤ}
use lib.ListN.{length}
use Rattle.algebra.specs.Answer.{Answer, gives, refuses, on_value, chain}
use Rattle.algebra.specs.Writing.{wrote, buffer_with}
use Rattle.algebra.proofs.AnswerLaws.{on_value_chain}
use Rattle.shots.specs.Calls.{accept_of}
use Rattle.shots.proofs.Chains.{run_refused, run_passed}
use Rattle.outline.specs.Wrapping.{south_of, north_of}
use Rattle.outline.specs.Calls.{Outlining, room_of, fill_of, rooms_rule, lengths_of, outlined_of, chains_of}
use Rattle.outline.specs.declared.Lengths.{Lengths}

module _ (c d s t : List ℕ) where
  with_room : {b : Bool} → room_of c d s t ≡ b → chain (record { number = 11; broken = not b } ∷ []) tt ≡ fill_of c d s t
  with_room e = λ i. chain (record { number = 11; broken = not (sym e i) } ∷ []) tt

  pub fill_both : length c ≤ length s → length d ≤ length t → gives tt ≡ fill_of c d s t
  unfolding room_of chain
  fill_both h k = with_room (λ i. le-leb (length c) (length s) h i && le-leb (length d) (length t) k i)

  pub fill_south : length s < length c → refuses 11 ≡ fill_of c d s t
  unfolding room_of chain
  fill_south h = with_room (ap (λ (b : Bool). b && leb (length d) (length t)) (lt-leb (length c) (length s) h))

  pub fill_north : length t < length d → refuses 11 ≡ fill_of c d s t
  unfolding room_of chain
  fill_north h = with_room (ap (λ (b : Bool). leb (length c) (length s) && b) (lt-leb (length d) (length t) h) ∙ and-false (leb (length c) (length s)))

module _ (l : List ℤ) (s t : List ℕ) where
  -- an answer, and the buffers that go with it
  left : {a : Answer Lengths} → a ≡ outlined_of l s t → record { answer = a; south = buffer_with a (south_of l) s; north = buffer_with a (north_of l) t } ≡ chains_of l s t
  unfolding chains_of
  left p = λ k. record { answer = p k; south = buffer_with (p k) (south_of l) s; north = buffer_with (p k) (north_of l) t }

  pub outlined_stops : {n : ℕ} → refuses n ≡ accept_of l → ◌≡◌ {A = Outlining} (record { answer = refuses n; south = s; north = t }) (chains_of l s t)
  outlined_stops e = left (run_refused l (rooms_rule l s t ∷ []) (lengths_of l) e)

  -- what `fill` gave of the two chains, and the buffers as it left them
  module _ (e : gives tt ≡ accept_of l) {c d : List ℕ} (p : c ≡ south_of l) (q : d ≡ north_of l) where
    filled : {a : Answer (Unit {0})} → a ≡ fill_of c d s t → on_value (λ _. lengths_of l) a ≡ outlined_of l s t
    filled x = ap (on_value (λ _. lengths_of l)) (x ∙ (λ k. fill_of (p k) (q k) s t)) ∙ on_value_chain (λ _. lengths_of l) (rooms_rule l s t ∷ []) tt ∙ run_passed l (rooms_rule l s t ∷ []) (lengths_of l) e

    pub outlined_short : {n : ℕ} {u v : List ℕ} → refuses n ≡ fill_of c d s t → u ≡ s → v ≡ t → record { answer = refuses n; south = u; north = v } ≡ chains_of l s t
    outlined_short {n} x y z = (λ k. record { answer = refuses n; south = y k; north = z k }) ∙ left (filled x)

    pub outlined_done : {u v : List ℕ} → gives tt ≡ fill_of c d s t → u ≡ wrote s 0 c → v ≡ wrote t 0 d → record { answer = gives (record { south = length c; north = length d }); south = u; north = v } ≡ chains_of l s t
    outlined_done x y z =
        let y' = y ∙ ap (wrote s 0) p in
        let z' = z ∙ ap (wrote t 0) q in
        (λ k. record { answer = gives (record { south = length (p k); north = length (q k) }); south = y' k; north = z' k }) ∙ left (filled x)
