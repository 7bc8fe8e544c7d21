-- What the public calls of this room promise: `chains` gives a refusal number exactly when that number's line is the first that holds, and the two lengths exactly when no line holds;
-- what it leaves in the two buffers, byte by byte; and what `part` hands back. What the chains are: proofs/Outline.
--
--   chains_refuses, chains_gives     the two kinds of answer
--   chains_clear                     no line holds exactly when the patch is accepted and both buffers have room
--   chains_written, chains-refused   the two buffers: each begins with its chain and the bytes past it stay; where the call is refused they stay whole
--   part_fits, part_exceeds          the first bytes of the buffer that is asked for, so many as its length says; none where that exceeds it
--   part_chains                      of what `chains` left, with the lengths that it gave: the chain that is asked for
--   chains_one, part_one             two permitted ends are the same
use mathlib.Core.Path.{◌≡◌, refl, sym, ◌∙◌, ap}
use mathlib.Core.Logic.{◌⊎◌, inl, inr, ⊎_elim, ◌↔◌}
use mathlib.Core.List.{List, [], ◌∷◌, ◌++◌}
use mathlib.Core.Bool.{Bool, not, cond}
use Prim.Native.Nat.{ℕ, ◌≤◌, ◌<◌}
use Rattle.std.proofs.Common.{Result}
use native.Mathlib.Omega.{arith}
use native.Mathlib.Decide.{dec_lt}
use borrow.Author.Tests.{le-leb, lt-leb}
use lib.IntN.{ℤ}
use lib.ListN.{length, take, drop, length-append}
use lib.Seq.{take_at}
use Rattle.algebra.specs.Answer.{Answer, gives, refuses, First, Clear, Reflects, Decides}
use Rattle.algebra.specs.Writing.{buffer_with, NoRoom}
use Rattle.algebra.proofs.AnswerLaws.{chain_refuses, chain_gives, clear-append, decides-append, reflects_iff, reflects-not, reflects-and, reflects_leb}
use Rattle.algebra.proofs.WritingLaws.{wrote-front}
use Rattle.shots.specs.Tests.{shot_rules}
use Rattle.shots.specs.Lines.{shot_lines}
use Rattle.shots.specs.declared.refusal.Refusal.{Refusal}
use Rattle.shots.proofs.Promises.{shots_decided}
use Rattle.shots.proofs.RefusalLaws.{answered_one}
use Rattle.outline.specs.Wrapping.{south_of, north_of}
use Rattle.outline.specs.Calls.{Outlining, outlined_in, room_of, rooms_rule, lengths_of, chains_of, front_bytes, buffer_for, length_for, chain_for, part_of}
use Rattle.outline.specs.Lines.{chains_lines}
use Rattle.outline.specs.declared.Facing.{Facing}
use Rattle.outline.specs.declared.Facing.TheVariants as F
use Rattle.outline.specs.declared.Lengths.{Lengths}

-- ---- chains

module _ (l : List ℤ) (s t : List ℕ) where
  rooms_decided : Reflects (NoRoom (south_of l) s ⊎ NoRoom (north_of l) t) (not (room_of (south_of l) (north_of l) s t))
  unfolding room_of
  rooms_decided = reflects_iff (some, none) (reflects-not (reflects-and (reflects_leb (length (south_of l)) (length s)) (reflects_leb (length (north_of l)) (length t))))
    where
      some : ((length (south_of l) ≤ length s) × (length (north_of l) ≤ length t) → ⊥) → NoRoom (south_of l) s ⊎ NoRoom (north_of l) t
      some h = go (dec_lt (length s) (length (south_of l)))
        where
          go : Dec (NoRoom (south_of l) s) → NoRoom (south_of l) s ⊎ NoRoom (north_of l) t
          go (yes k) = inl k
          go (no k) = inr (let o : (length (north_of l) ≤ length t → ⊥) = λ i. h (omega (arith, k), i) in omega (arith, o))

      none : NoRoom (south_of l) s ⊎ NoRoom (north_of l) t → (length (south_of l) ≤ length s) × (length (north_of l) ≤ length t) → ⊥
      none (inl k) (p, q) = omega arith
      none (inr k) (p, q) = omega arith

  chains_decided : Decides (shot_rules l ++ rooms_rule l s t ∷ []) (chains_lines l s t)
  chains_decided =
      decides-append (shot_rules l) (rooms_rule l s t ∷ []) (shot_lines l) (record { number = 11; when = NoRoom (south_of l) s ⊎ NoRoom (north_of l) t } ∷ []) (shots_decided l)
      (refl, rooms_decided, tt)

  pub chains_refuses : (n : ℕ) → ((chains_of l s t).answer ≡ refuses n) ↔ First n (chains_lines l s t)
  unfolding chains_of
  chains_refuses n = chain_refuses _ (chains_lines l s t) (lengths_of l) n chains_decided

  pub chains_gives : (v : Lengths) → ((chains_of l s t).answer ≡ gives v) ↔ (Clear (chains_lines l s t) × (lengths_of l ≡ v))
  unfolding chains_of
  chains_gives v = chain_gives _ (chains_lines l s t) (lengths_of l) v chains_decided

  pub chains_clear : Clear (chains_lines l s t) ↔ (Clear (shot_lines l) × (length (south_of l) ≤ length s) × (length (north_of l) ≤ length t))
  chains_clear =
      let c = clear-append (shot_lines l) (record { number = 11; when = NoRoom (south_of l) s ⊎ NoRoom (north_of l) t } ∷ []) in (
        λ h. let (k, (none, _)) = c.0 h in (k, room (length (south_of l)) (length s) (λ x. none (inl x)), room (length (north_of l)) (length t) (λ x. none (inr x))),
        λ (k, p, q). c.1 (k, (⊎_elim (clash (length (south_of l)) (length s) p) (clash (length (north_of l)) (length t) q), tt)),
      )
    where
      room : (u v : ℕ) → (v < u → ⊥) → u ≤ v
      room u v h = omega (arith, h)

      clash : (u v : ℕ) → u ≤ v → v < u → ⊥
      clash u v h k = omega arith

  pub chains_written : Clear (chains_lines l s t) → ((chains_of l s t).south ≡ south_of l ++ drop (length (south_of l)) s) × ((chains_of l s t).north ≡ north_of l ++ drop (length (north_of l)) t)
  unfolding chains_of
  chains_written h =
      let e = (chains_gives (lengths_of l)).1 (h, refl) in
      let (_, p, q) = chains_clear.0 h in
      (ap (λ (a : Answer Lengths). buffer_with a (south_of l) s) e ∙ wrote-front s (south_of l) p, ap (λ (a : Answer Lengths). buffer_with a (north_of l) t) e ∙ wrote-front t (north_of l) q)

  pub chains-refused : (n : ℕ) → First n (chains_lines l s t) → ((chains_of l s t).south ≡ s) × ((chains_of l s t).north ≡ t)
  unfolding chains_of
  chains-refused n h =
      let e = (chains_refuses n).1 h in
      (ap (λ (a : Answer Lengths). buffer_with a (south_of l) s) e, ap (λ (a : Answer Lengths). buffer_with a (north_of l) t) e)

-- ---- part

module _ (f : Facing) (s t : List ℕ) (k : Lengths) where
  pub part_fits : length_for f k ≤ length (buffer_for f s t) → part_of f s t k ≡ take (length_for f k) (buffer_for f s t)
  unfolding part_of front_bytes
  part_fits h = ap (λ (b : Bool). cond b (take (length_for f k) (buffer_for f s t)) []) (le-leb (length_for f k) (length (buffer_for f s t)) h)

  pub part_exceeds : length (buffer_for f s t) < length_for f k → part_of f s t k ≡ []
  unfolding part_of front_bytes
  part_exceeds h = ap (λ (b : Bool). cond b (take (length_for f k) (buffer_for f s t)) []) (lt-leb (length_for f k) (length (buffer_for f s t)) h)

pub part_chains : (f : Facing) (l : List ℤ) (s t : List ℕ) (k : Lengths) → (chains_of l s t).answer ≡ gives k → part_of f (chains_of l s t).south (chains_of l s t).north k ≡ chain_for f l
unfolding part_of front_bytes
part_chains f l s t k e = go f
  where
    clear : Clear (chains_lines l s t) × (lengths_of l ≡ k)
    clear = (chains_gives l s t k).0 e

    both : ((chains_of l s t).south ≡ south_of l ++ drop (length (south_of l)) s) × ((chains_of l s t).north ≡ north_of l ++ drop (length (north_of l)) t)
    both = chains_written l s t clear.0

    -- a chain and what stands behind it, with the chain's length
    fits : (c b : List ℕ) → front_bytes (length c) (c ++ b) ≡ c
    fits c b = ap (λ (x : Bool). cond x (take (length c) (c ++ b)) []) (le-leb (length c) (length (c ++ b)) (omega (arith, length-append c b))) ∙ take_at c b (length c) refl

    go : (f : Facing) → part_of f (chains_of l s t).south (chains_of l s t).north k ≡ chain_for f l
    go F.South = (λ i. front_bytes (sym clear.1 i).south (both.0 i)) ∙ fits (south_of l) _
    go F.North = (λ i. front_bytes (sym clear.1 i).north (both.1 i)) ∙ fits (north_of l) _

-- ---- one end

pub chains_one : (l : List ℤ) (s t u u' v v' : List ℕ) (r r' : Result Lengths Refusal) → outlined_in r u v ≡ chains_of l s t → outlined_in r' u' v' ≡ chains_of l s t → (r ≡ r') × (u ≡ u') × (v ≡ v')
chains_one l s t u u' v v' r r' p q =
    let e = p ∙ sym q in
    (answered_one (ap (λ (y : Outlining). y.answer) p) (ap (λ (y : Outlining). y.answer) q), ap (λ (y : Outlining). y.south) e, ap (λ (y : Outlining). y.north) e)

pub part_one : (f : Facing) (s t : List ℕ) (k : Lengths) {r r' : List ℕ} → r ≡ part_of f s t k → r' ≡ part_of f s t k → r ≡ r'
part_one f s t k p q = p ∙ sym q
